use Rattle.std.proofs.Common.{◌≡◌, ◌≤◌, ℕ, ◌+◌, ◌-◌, List, ◌++◌, length, take, slice_range, sym, ap, ◌∙◌, arith, rules, append_assoc}
use Rattle.std.proofs.lemmas.List.{with_items_is, places}
use Rattle.std.proofs.lemmas.Result.{err_from_is_err_and}
use Rattle.std.specs.Vec.{with_items}
use borrow.Rule.Slice.PartMut.{put_mid}
use Rattle.tape.proofs.Windows.{grown, kept}
use Rattle.tape.proofs.window.ReadAhead.read_from.Goals as goal

pub returns-in_err-count-clause-same : goal.returns-in_err-count-clause-same
returns-in_err-count-clause-same g c =
    let w = c.args.self.now in
    let bytes = c.deref_mut.result.now in
    let put = c.read.new.room in
    let k = w.end + c.args.most - w.end in
    let inside : w.end ≤ length bytes = omega (arith, ap length c.deref_mut.ensures.value) in
    let room : (with_items w.room (put_mid w.end k bytes put)).items ≡ put_mid w.end k bytes put = with_items_is w.room _ (search (rules, places)) in
    let p = err_from_is_err_and c.from_residual.result c.from_residual.ensures.1 in
    rw p.1
    (ap (λ (l : List ℕ). slice_range l w.start w.end) room ∙ kept bytes put w.start w.end k w.ordered inside
    ∙ ap (λ (l : List ℕ). slice_range l w.start w.end) c.deref_mut.ensures.value)

pub returns-clause-taken : goal.returns-clause-taken
returns-clause-taken g c = λ told.
    let w = c.args.self.now in
    let bytes = c.deref_mut.result.now in
    let put = c.read.new.room in
    let n = c.in_ok-count.count in
    let k = w.end + c.args.most - w.end in
    let left = g.I.Source.left c.read.new.self in
    let inside : w.end ≤ length bytes = omega (arith, ap length c.deref_mut.ensures.value) in
    let room : (with_items w.room (put_mid w.end k bytes put)).items ≡ put_mid w.end k bytes put = with_items_is w.room _ (search (rules, places)) in
    ap (λ (l : List ℕ). slice_range l w.start (w.end + n) ++ left) room
    ∙ ap (λ (l : List ℕ). l ++ left) (grown bytes put w.start w.end k n w.ordered inside c.in_ok-count.ensures.within)
    ∙ append_assoc (slice_range bytes w.start w.end) (take n put) left
    ∙ ap (λ (l : List ℕ). slice_range bytes w.start w.end ++ l) (sym (c.in_ok-count.ensures.taken told))
    ∙ ap (λ (l : List ℕ). slice_range l w.start w.end ++ g.I.Source.left c.args.source.now) c.deref_mut.ensures.value
