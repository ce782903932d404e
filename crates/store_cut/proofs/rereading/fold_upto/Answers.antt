use Rattle.std.proofs.Common.{◌≡◌, ◌∙◌, ◌∷◌, ◌++◌, ◌+◌, true, List, Err, take, drop, ap, append_assoc, rules, subst, sym}
use Rattle.std.specs.List.{list_all}
use Rattle.std.proofs.lemmas.List.{take-append-drop}
use Rattle.relay_row.specs.Journal.{IsJournal}
use Rattle.relay_row.specs.Rules.{is_row}
use Rattle.store_cut.proofs.Ordering.{formed_taken}
use Rattle.store_cut.proofs.Recopied.{folded_journal, some_more}
use Rattle.relay_row.specs.declared.row.Row.{Row}
use Rattle.relay_core.specs.Entries.{Holds}
use Rattle.relay_store.specs.Journals.{bytes_of, joined}
use Rattle.relay_store.specs.declared.fault.StoreFault.{StoreFault}
use Rattle.relay_store.proofs.InBodies.{each_at}
use Rattle.store_cut.proofs.rereading.fold_upto.Goals as goal

pub returns-in_err-fold_before-clause-no_bad_log : goal.returns-in_err-fold_before-clause-no_bad_log
returns-in_err-fold_before-clause-no_bad_log g c = λ p is tells before there after each held here journal.
    let failed : c.fold_before.result ≡ Err (StoreFault.BadLog p) = search rules in
    c.fold_before.ensures.no_bad_log p failed tells before (there ∷ after) each held here journal

pub returns-in_err-rows-clause-no_bad_log : goal.returns-in_err-rows-clause-no_bad_log
returns-in_err-rows-clause-no_bad_log g c = λ p is tells before there after each held here journal.
    let failed : c.body_at.result ≡ Err (StoreFault.BadLog p) = search rules in
    c.body_at.ensures.no_bad_log p failed tells before there after (each_at before there after each) (c.fold_before.ensures.holds tells (bytes_of (before ++ there ∷ after)) held) here

pub returns-clause-core : goal.returns-clause-core
returns-clause-core g c = λ tells before there after each held here.
    let now = c.fold_before.ensures.holds tells (bytes_of (before ++ there ∷ after)) held in
    let read = c.in_ok-rows.ensures.rows tells before there after (each_at before there after each) now here in
    let first = c.in_ok-fold_before.ensures.core tells before (there ∷ after) each held here in
    let left : c.truncate.new.self.items ≡ take (c.args.last.index + 1) there =
    c.truncate.ensures.items ∙ (λ i. take (c.from.ensures i + 1) (read.0 i)) in
    subst (λ (l : List Row). Holds c.fold_rows.new.core (joined before ++ l)) left (c.in_ok-fold_rows.ensures.moved (joined before) first)

pub returns-in_err-fold_rows-clause-no_bad_log : goal.returns-in_err-fold_rows-clause-no_bad_log
returns-in_err-fold_rows-clause-no_bad_log g c = λ p is tells before there after each held here journal.
    let now = c.fold_before.ensures.holds tells (bytes_of (before ++ there ∷ after)) held in
    let read = c.in_ok-rows.ensures.rows tells before there after (each_at before there after each) now here in
    let first = c.in_ok-fold_before.ensures.core tells before (there ∷ after) each held here in
    let n = c.args.last.index + 1 in
    let left : c.truncate.new.self.items ≡ take n there =
    c.truncate.ensures.items ∙ (λ i. take (c.from.ensures i + 1) (read.0 i)) in
    let behind = drop n there ++ joined after in
    let whole : there ++ joined after ≡ take n there ++ behind = ap (λ (l : List Row). l ++ joined after) (sym (take-append-drop n there)) ∙ append_assoc (take n there) (drop n there) (joined after) in
    let failed : c.fold_rows.result ≡ Err (StoreFault.BadLog p) = search rules in
    c.fold_rows.ensures.bad_log p failed (joined before) behind first
    (subst (λ (l : List Row). IsJournal (joined before ++ (l ++ behind))) (sym left) (subst (λ (l : List Row). IsJournal (joined before ++ l)) whole (folded_journal before there after journal)))

pub returns-clause-known : goal.returns-clause-known
returns-clause-known g c =
    let formed = subst (λ (l : List Row). list_all is_row l ≡ true) (sym c.truncate.ensures.items) (formed_taken _ c.in_ok-rows.rows.items c.in_ok-rows.ensures.formed) in
    some_more _ _ _ formed c.in_ok-fold_rows.ensures.moved c.in_ok-fold_rows.ensures.ordered c.in_ok-fold_before.ensures.known
