-- What a trial does (own).
use Rattle.std.specs.Prelude.{◌≡◌, ⊤, ℕ, Bool, List, [], IsTrue}
use Rattle.gate_log.specs.Image.{IsImage}
use Rattle.relay_row.specs.declared.row.Row.{Row}
use Rattle.relay_step.specs.Steps.{Step, rows}
use Rattle.relay_store.specs.Journals.{AreBodiesOf, bytes_of}
use Rattle.relay_gen.specs.Histories.{history}
use Rattle.run_base.specs.Ends.{Writes}
use Rattle.run_base.specs.declared.status.Status.{Status}
use Rattle.trial_run.specs.Merging.{AreTaken, by_host}
use Rattle.trial_run.specs.Summary.{summary}

-- The bytes are an image of bodies whose rows, joined, are the journal.
pub record IsImageOf (J : List Row) (bytes : List ℕ) : Type 0 where
  pub bodies : List (List Row)
  pub are : AreBodiesOf J bodies
  pub image : IsImage (bytes_of bodies) bytes

-- The made history was taken in both orders, each from the empty journal; the summary of the first
-- was written so; and these bytes are images of the two journals.
pub record TrialCameTo (IsWritten : List ℕ → Type 0) (start n : ℕ) (first second : List ℕ)
    : Type 0 where
  pub ones : List Step
  pub others : List Step
  pub one : AreTaken (history start n).messages ones
  pub other : AreTaken (by_host (history start n).messages) others
  pub written : IsWritten (summary start n (history start n).keys (rows ones))
  pub first_holds : IsImageOf (rows ones) first
  pub second_holds : IsImageOf (rows others) second

-- What a trial of a history does with two empty disks, which hold these bytes in the end, and with
-- the output: its summary was written, whole where it is done, and a front of it where a call of
-- the output failed. Where memory ran out nothing was.
abbrev pub Tried : Bool → ℕ → ℕ → List ℕ → List ℕ → List ℕ → List ℕ → Status → Type 0
Tried output_tells start n first second old new Status.Memory = IsTrue output_tells → new ≡ old
Tried output_tells start n first second old new status =
    TrialCameTo (λ text. IsTrue output_tells → Writes status [] text old new) start n first second

-- how it may end
abbrev pub MayEndTrying : Status → Type 0
MayEndTrying Status.Done = ⊤
MayEndTrying Status.WriteFault = ⊤
MayEndTrying Status.Memory = ⊤
MayEndTrying status = ⊥
