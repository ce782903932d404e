use Rattle.std.proofs.Common.{◌≡◌, ◌≤◌, ℕ, ◌+◌, ◌-◌, List, ◌++◌, length, take, ap, ◌∙◌, arith, rules}
use Rattle.std.proofs.lemmas.List.{with_items_is, places, length-take-le}
use Rattle.std.specs.Vec.{with_items}
use borrow.Rule.Slice.PartMut.{put_mid, post_of}
use Rattle.relay_io.proofs.Fronts.{put_behind}
use Rattle.relay_io.proofs.reading.take_some.Goals as goal

pub returns-clause-moved : goal.returns-clause-moved
returns-clause-moved g c = λ told.
    let vector = c.args.bytes.now in
    let filled = c.args.filled in
    let bytes = c.deref_mut.result.now in
    let put = c.read.new.room in
    let rest = length bytes - filled in
    let left = g.I.Source.left in
    let inside : filled ≤ length bytes = omega (arith, c.requires.some, ap length c.deref_mut.ensures.value) in
    let room : (with_items vector (put_mid filled rest bytes put)).items ≡ put_mid filled rest bytes put = with_items_is vector _ (search (rules, places)) in
    ap (λ (l : List ℕ). take (filled + c.in_ok-read.field-0) l ++ left c.read.new.self) room
    ∙ put_behind (take filled bytes) put (post_of filled rest bytes) _ _ filled _ (length-take-le filled bytes inside) c.in_ok-read.ensures.within (c.in_ok-read.ensures.taken told)
    ∙ ap (λ (l : List ℕ). take filled l ++ left c.args.source.now) c.deref_mut.ensures.value
