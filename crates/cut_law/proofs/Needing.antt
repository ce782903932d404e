-- Laws of cuts fail without one of their premises: the empty journal shows it.
use Rattle.std.proofs.Common.{◌≡◌, ℕ, ◌≤◌, List, [], length, ap, arith}
use Rattle.std.proofs.lemmas.Bool.{false≢true}
use Rattle.relay_row.specs.Folds.{last_seq}
use Rattle.relay_row.specs.Journal.{IsJournal}
use Rattle.relay_row.specs.Rules.{is_carried, is_row}
use Rattle.relay_row.specs.declared.row.Row.{Row}
use Rattle.relay_row.proofs.Journals.{no_rows}
use Rattle.host_state.specs.Folds.{hosts}
use Rattle.cut_law.specs.Cut.{carried, cut}
use Rattle.cut_law.specs.Needed.{PremisesAreNeeded}

no_cut : ((J : List Row) (c : ℕ) → IsJournal J → c ≤ last_seq J → IsJournal (cut J c)) → ⊥
unfolding cut carried last_seq hosts is_row is_carried
no_cut law = false≢true (law [] 0 no_rows (omega arith)).formed

no_second : ((J : List Row) (c d : ℕ) → IsJournal J → cut (cut J c) d ≡ cut J d) → ⊥
unfolding cut carried last_seq hosts
no_second law = let two : 2 ≡ 1 = ap length (law [] 0 0 no_rows) in omega (arith, two)

pub wanted : PremisesAreNeeded
wanted = record { some = no_cut; second = no_second }
