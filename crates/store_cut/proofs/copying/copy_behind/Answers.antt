use Rattle.std.proofs.Common.{◌≡◌, ◌∙◌, ◌+◌, ◌∷◌, ◌++◌, [], true, List, Err, min, length, drop, append_assoc, ap, arith, refl, rules, subst, sym}
use Rattle.std.specs.List.{list_all}
use Rattle.relay_disk.proofs.Moments.{no_call}
use Rattle.gate_log.specs.Build.{IsClosed}
use Rattle.gate_log.specs.Log.{HoldsBodies as HasBodies}
use Rattle.relay_row.specs.Journal.{IsJournal}
use Rattle.relay_row.specs.Rules.{is_row}
use Rattle.relay_row.specs.declared.row.Row.{Row}
use Rattle.relay_store.specs.Journals.{AllBodies, bytes_of, joined}
use Rattle.store_cut.specs.Rewriting.{AllShort, RewriteHasNoRoom}
use Rattle.relay_store.specs.declared.fault.StoreFault.{StoreFault}
use Rattle.store_cut.proofs.Counting.{counted_behind, counted_none, counted_one, counted_two, fails_as}
use Rattle.store_cut.proofs.Ordering.{formed_dropped}
use Rattle.store_cut.proofs.Recopied.{drop_least, next_there, some_more}
use Rattle.store_cut.proofs.Rewritten.{copied_both, no_room_behind, no_room_front, on_ok_as, reading_is}
use Rattle.relay_store.proofs.InBodies.{each_at}
use Rattle.store_cut.proofs.Shorts.{short_dropped}
use Rattle.store_cut.proofs.copying.copy_behind.Goals as goal

pub returns-in_err-rows-clause-full : goal.returns-in_err-rows-clause-full
returns-in_err-rows-clause-full g c = λ e is.
    let failed : c.body_at.result ≡ Err (StoreFault.Full e) = search rules in
    absurd (c.body_at.ensures.few (StoreFault.Full e) failed)

pub returns-in_err-rows-clause-no_bad_log : goal.returns-in_err-rows-clause-no_bad_log
returns-in_err-rows-clause-no_bad_log g c = λ p is tells before there after each held here J first journal.
    let failed : c.body_at.result ≡ Err (StoreFault.BadLog p) = search rules in
    c.body_at.ensures.no_bad_log p failed tells before there after (each_at before there after each) held here

pub returns-in_err-rows-clause-run : goal.returns-in_err-rows-clause-run
returns-in_err-rows-clause-run g c = λ tells. no_call IsClosed _ (g.met.D.Disk.is_disk _) (c.requires.build tells).1.built.left

pub returns-in_err-rows-clause-few : goal.returns-in_err-rows-clause-few
returns-in_err-rows-clause-few g c = λ f is.
    let failed : c.body_at.result ≡ Err f = search rules in
    reading_is f (c.body_at.ensures.few f failed)

pub put_rows-requires-clause-short : goal.put_rows-requires-clause-short
put_rows-requires-clause-short g c = subst AllShort (sym c.in-Ok.ensures.tail) (short_dropped _ c.in_ok-rows.rows.items c.in_ok-rows.ensures.each)

pub returns-in_err-put_rows-clause-full : goal.returns-in_err-put_rows-clause-full
returns-in_err-put_rows-clause-full g c = λ e is tells before there after each held here.
    let body = each_at before there after each in
    let read = c.in_ok-rows.ensures.rows tells before there after body held here in
    let taken : c.min-taken.result ≡ min (c.args.last.index + 1) (length c.in_ok-rows.rows.items) = omega (arith, c.min-taken.ensures, c.len.ensures, c.from.ensures) in
    let behind : c.in-Ok.behind.items ≡ drop (c.args.last.index + 1) there =
    c.in-Ok.ensures.tail ∙ drop_least (c.args.last.index + 1) c.in_ok-rows.rows.items c.min-taken.result taken ∙ ap (λ (l : List Row). drop (c.args.last.index + 1) l) read.0 in
    let failed : c.put_rows.result ≡ Err (StoreFault.Full e) = search rules in
    no_room_front _ _ (drop (c.args.last.index + 1) there) (joined after) e
    (subst (λ (l : List Row). RewriteHasNoRoom c.args.rewrite.now.build.end c.args.rewrite.now.build.most l e) behind (c.put_rows.ensures.full e failed))

pub returns-in_err-put_rows-clause-no_bad_log : goal.returns-in_err-put_rows-clause-no_bad_log
returns-in_err-put_rows-clause-no_bad_log g c = λ p is tells before there after each held here J first journal.
    let body = each_at before there after each in
    let read = c.in_ok-rows.ensures.rows tells before there after body held here in
    let taken : c.min-taken.result ≡ min (c.args.last.index + 1) (length c.in_ok-rows.rows.items) = omega (arith, c.min-taken.ensures, c.len.ensures, c.from.ensures) in
    let behind : c.in-Ok.behind.items ≡ drop (c.args.last.index + 1) there =
    c.in-Ok.ensures.tail ∙ drop_least (c.args.last.index + 1) c.in_ok-rows.rows.items c.min-taken.result taken ∙ ap (λ (l : List Row). drop (c.args.last.index + 1) l) read.0 in
    let failed : c.put_rows.result ≡ Err (StoreFault.BadLog p) = search rules in
    c.put_rows.ensures.bad_log p failed J (joined after) first (subst (λ (l : List Row). IsJournal (J ++ (l ++ joined after))) (sym behind) journal)

pub returns-in_err-put_rows-clause-few : goal.returns-in_err-put_rows-clause-few
returns-in_err-put_rows-clause-few g c = λ f is.
    let failed : c.put_rows.result ≡ Err f = search rules in
    c.put_rows.ensures.few f failed

pub returns-clause-known : goal.returns-clause-known
returns-clause-known g c = on_ok_as c.copy_bodies.result (λ known some.
    let formed = subst (λ (l : List Row). list_all is_row l ≡ true) (sym c.in-Ok.ensures.tail) (formed_dropped _ c.in_ok-rows.rows.items c.in_ok-rows.ensures.formed) in
    known (some_more _ _ _ formed c.in_ok-put_rows.ensures.copied.core c.in_ok-put_rows.ensures.ordered some)) c.copy_bodies.ensures.known

pub returns-clause-copied : goal.returns-clause-copied
returns-clause-copied g c = on_ok_as c.copy_bodies.result (λ copied. (
  c.in-Ok.behind.items ++ copied.0,
  copied_both _ _ _ _ _ _ _ _ _ c.in_ok-put_rows.ensures.copied copied.1,
  λ tells before there after each held here.
      let body = each_at before there after each in
      let read = c.in_ok-rows.ensures.rows tells before there after body held here in
      let taken : c.min-taken.result ≡ min (c.args.last.index + 1) (length c.in_ok-rows.rows.items) = omega (arith, c.min-taken.ensures, c.len.ensures, c.from.ensures) in
      let behind : c.in-Ok.behind.items ≡ drop (c.args.last.index + 1) there =
      c.in-Ok.ensures.tail ∙ drop_least (c.args.last.index + 1) c.in_ok-rows.rows.items c.min-taken.result taken ∙ ap (λ (l : List Row). drop (c.args.last.index + 1) l) read.0 in
      let again : before ++ there ∷ after ≡ (before ++ there ∷ []) ++ after = sym (append_assoc before (there ∷ []) after) in
      let each_now = subst AllBodies again each in
      let held_now = subst (λ (bs : List (List Row)). HasBodies (bytes_of bs) c.args.log.now (g.D.Disk.view c.body_at.new.disk)) again (c.body_at.ensures.holds tells (bytes_of (before ++ there ∷ after)) held) in
      let start = next_there c.args.log.now.format before (there ∷ after) _ here there _ read.1 in
      let rest = copied.2 tells (before ++ there ∷ []) after each_now held_now start in
      (λ i. behind i ++ rest i),
)) c.copy_bodies.ensures.copied

pub returns-clause-full : goal.returns-clause-full
returns-clause-full g c = λ e is tells before there after each held here.
    let body = each_at before there after each in
    let read = c.in_ok-rows.ensures.rows tells before there after body held here in
    let taken : c.min-taken.result ≡ min (c.args.last.index + 1) (length c.in_ok-rows.rows.items) = omega (arith, c.min-taken.ensures, c.len.ensures, c.from.ensures) in
    let behind : c.in-Ok.behind.items ≡ drop (c.args.last.index + 1) there =
    c.in-Ok.ensures.tail ∙ drop_least (c.args.last.index + 1) c.in_ok-rows.rows.items c.min-taken.result taken ∙ ap (λ (l : List Row). drop (c.args.last.index + 1) l) read.0 in
    let again : before ++ there ∷ after ≡ (before ++ there ∷ []) ++ after = sym (append_assoc before (there ∷ []) after) in
    let each_now = subst AllBodies again each in
    let held_now = subst (λ (bs : List (List Row)). HasBodies (bytes_of bs) c.args.log.now (g.D.Disk.view c.body_at.new.disk)) again (c.body_at.ensures.holds tells (bytes_of (before ++ there ∷ after)) held) in
    let start = next_there c.args.log.now.format before (there ∷ after) _ here there _ read.1 in
    subst (λ (l : List Row). RewriteHasNoRoom c.args.rewrite.now.build.end c.args.rewrite.now.build.most (l ++ joined after) e) behind
    (no_room_behind _ c.in-Ok.behind.items (joined after) _ _ _ _ e c.in_ok-put_rows.ensures.copied (c.copy_bodies.ensures.full e is tells (before ++ there ∷ []) after each_now held_now start))

pub returns-clause-no_bad_log : goal.returns-clause-no_bad_log
returns-clause-no_bad_log g c = λ p is tells before there after each held here J first journal.
    let body = each_at before there after each in
    let read = c.in_ok-rows.ensures.rows tells before there after body held here in
    let taken : c.min-taken.result ≡ min (c.args.last.index + 1) (length c.in_ok-rows.rows.items) = omega (arith, c.min-taken.ensures, c.len.ensures, c.from.ensures) in
    let behind : c.in-Ok.behind.items ≡ drop (c.args.last.index + 1) there =
    c.in-Ok.ensures.tail ∙ drop_least (c.args.last.index + 1) c.in_ok-rows.rows.items c.min-taken.result taken ∙ ap (λ (l : List Row). drop (c.args.last.index + 1) l) read.0 in
    let again : before ++ there ∷ after ≡ (before ++ there ∷ []) ++ after = sym (append_assoc before (there ∷ []) after) in
    let each_now = subst AllBodies again each in
    let held_now = subst (λ (bs : List (List Row)). HasBodies (bytes_of bs) c.args.log.now (g.D.Disk.view c.body_at.new.disk)) again (c.body_at.ensures.holds tells (bytes_of (before ++ there ∷ after)) held) in
    let start = next_there c.args.log.now.format before (there ∷ after) _ here there _ read.1 in
    c.copy_bodies.ensures.no_bad_log p is tells (before ++ there ∷ []) after each_now held_now start
    (J ++ c.in-Ok.behind.items) (c.in_ok-put_rows.ensures.copied.core J first)
    (subst (λ (l : List Row). IsJournal ((J ++ l) ++ joined after)) (sym behind) (subst IsJournal (sym (append_assoc J (drop (c.args.last.index + 1) there) (joined after))) journal))

pub returns-in_err-rows-clause-counts : goal.returns-in_err-rows-clause-counts
returns-in_err-rows-clause-counts g c =
    let is : c.from_residual.result ≡ Err c.in_err-rows.field-0.0 = search rules in
    counted_one _ _ _ _ _ refl (λ failed. c.in_err-rows.ensures.disk (fails_as _ _ _ _ _ (sym is ∙ failed))) (λ not. c.in_err-rows.ensures.no_fault (λ e. not (is ∙ fails_as _ _ _ _ _ e))) c.body_at.ensures.goes.counts

pub returns-in_default-clause-counts : goal.returns-in_default-clause-counts
returns-in_default-clause-counts g c = counted_none _ _ _ _ _ (λ e. absurd cc) c.in_ok-rows.ensures.steady refl

pub returns-in_err-put_rows-clause-counts : goal.returns-in_err-put_rows-clause-counts
returns-in_err-put_rows-clause-counts g c =
    let is : c.from_residual-in_err-put_rows.result ≡ Err c.in_err-put_rows.field-0.0 = search rules in
    counted_behind _ _ _ _ _ _ _ c.in_ok-rows.ensures.steady refl
    (counted_two _ _ _ _ _ refl (λ failed. c.in_err-put_rows.ensures.disk (sym is ∙ failed)) (λ not. c.in_err-put_rows.ensures.no_fault (λ e. not (is ∙ e))) c.put_rows.ensures.counts)

pub returns-clause-counts : goal.returns-clause-counts
returns-clause-counts g c = counted_behind _ _ _ _ _ _ _ c.in_ok-rows.ensures.steady c.in_ok-put_rows.ensures.copied.steady c.copy_bodies.ensures.counts
