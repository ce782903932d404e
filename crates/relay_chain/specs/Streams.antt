-- How reading what a journal serves goes on (own). No public clause cites this file.
use Rattle.std.specs.Prelude.{◌≡◌, ◌≤◌, ℕ, Bool, Option, Some, None, IsTrue}
use Rattle.std.proofs.Common.{◌∙◌, refl, subst, sym}
use Rattle.at_cid.specs.Counts.{Rose}
use Rattle.event_window.specs.declared.fault.EventsFault.{EventsFault}

-- how many faults are kept
abbrev pub kept_faults : Option EventsFault → ℕ
kept_faults None = 0
kept_faults (Some fault) = 1

-- Reading goes on, from one fault that is kept, and one count of the disk's faults, to others: the
-- disk failed where that is kept, and only there; damage is kept only where it isn't told which
-- events are held; and behind a fault nothing is read.
abbrev pub ReadsOn : Bool → Option EventsFault → ℕ → Option EventsFault → ℕ → Type 0
ReadsOn tells None n None m = m ≡ n
ReadsOn tells None n (Some EventsFault.Disk) m = Rose n m × (n ≤ m)
ReadsOn tells None n (Some EventsFault.Memory) m = ⊥
ReadsOn tells None n (Some (EventsFault.BadLog place)) m = (IsTrue tells → ⊥) × (m ≡ n)
ReadsOn tells (Some fault) n now m = (now ≡ Some fault) × (m ≡ n)

-- nothing was read
pub reads_here : (tells : Bool) (fault : Option EventsFault) (n : ℕ) → ReadsOn tells fault n fault n
reads_here tells None n = refl
reads_here tells (Some fault) n = (refl, refl)

-- more was read
pub reads_again : (tells : Bool) (one two three : Option EventsFault) (k n m : ℕ)
    → ReadsOn tells one k two n → ReadsOn tells two n three m → ReadsOn tells one k three m
reads_again tells None None three k n m first second =
    subst (λ (x : ℕ). ReadsOn tells None x three m) first second
reads_again tells None (Some fault) three k n m first second =
    let P : ℕ → Type 0 = λ x. ReadsOn tells None k (Some fault) x in
    let Q : Option EventsFault → Type 0 = λ x. ReadsOn tells None k x m in
    subst Q (sym second.0) (subst P (sym second.1) first)
reads_again tells (Some fault) two three k n m first second =
    let P : Option EventsFault → Type 0 = λ x. ReadsOn tells x n three m in
    let on = subst P first.0 second in
    (on.0, on.1 ∙ first.1)
