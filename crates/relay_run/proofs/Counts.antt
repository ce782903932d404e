-- Counts of the failures of an output, behind a call that left the count as it was.
use Rattle.std.proofs.Common.{◌≡◌, ◌≤◌, ℕ, Result, Ok, Err, refl, subst}
use Rattle.std.specs.Prelude.{IsErr, OnErr, OnOk}
use Rattle.at_cid.specs.Counts.{Counted, Rose}

pub counted_then : (failed : Type 0) (old mid new : ℕ) → mid ≡ old → Counted failed mid new → Counted failed old new
counted_then failed old mid new same c = subst (λ (n : ℕ). Counted failed n new) same c

counted_by : {A E : Type 0} (r : Result A E) (old new : ℕ) → old ≤ new → OnOk r (new ≡ old) → OnErr r (Rose old new) → Counted (IsErr r) old new
counted_by (Ok x) old new kept steady rose = record { rose = λ is. absurd cc; steady = λ _. steady; kept = kept }
counted_by (Err e) old new kept steady rose = record { rose = λ _. rose; steady = λ not. absurd (not refl); kept = kept }

pub counted_last : {A E : Type 0} (r : Result A E) (old mid new : ℕ) → mid ≡ old → mid ≤ new → OnOk r (new ≡ mid) → OnErr r (Rose mid new) → Counted (IsErr r) old new
counted_last r old mid new same kept steady rose = counted_then (IsErr r) old mid new same (counted_by r mid new kept steady rose)
