-- What a command does, on texts that are equal.
use Rattle.std.proofs.Common.{◌≡◌, ℕ, Bool, List, Option, subst, sym}
use Rattle.account_state.specs.Folds.{account}
use Rattle.report_lines.specs.StateLines.{account_text}
use Rattle.relay_disk.specs.Disk.{View}
use Rattle.run_base.specs.declared.status.Status.{Status}
use Rattle.relay_cli.specs.declared.command.Command.{Command}
use Rattle.relay_cli.specs.Ran.{Ran}
use Rattle.relay_cli.specs.Runs.{AreLinesGiven, IsFollowed, IsShown, RanOperated, IsSynced, Place, OutsideTells}

pub shown_of : (did given : List ℕ) (t : OutsideTells) (old new : Place) (status : Status) → given ≡ did
    → IsShown (λ J. account_text given (account given J)) t old new status → IsShown (λ J. account_text did (account did J)) t old new status
shown_of did given t old new status same done = subst (λ (x : List ℕ). IsShown (λ J. account_text x (account x J)) t old new status) same done

pub operated_of : (did given time told : List ℕ) (down : Bool) (t : OutsideTells) (old new : Place) (status : Status) → given ≡ did → told ≡ time → RanOperated given down told t old new status → RanOperated did down time t old new status
operated_of did given time told down t old new status same at done =
    subst (λ (x : List ℕ). RanOperated x down time t old new status) same (subst (λ (y : List ℕ). RanOperated given down y t old new status) at done)

pub synced_of : (did given time told : List ℕ) (t : OutsideTells) (old new : Place) (status : Status) → given ≡ did → told ≡ time → IsSynced given told t old new status → IsSynced did time t old new status
synced_of did given time told t old new status same at done = subst (λ (x : List ℕ). IsSynced x time t old new status) same (subst (λ (y : List ℕ). IsSynced given y t old new status) at done)

pub followed_of : (host given : List ℕ) (count : ℕ) (t : OutsideTells) (old new : Place) (status : Status) → given ≡ host → IsFollowed given count t old new status → IsFollowed host count t old new status
followed_of host given count t old new status same done = subst (λ (x : List ℕ). IsFollowed x count t old new status) same done

pub lines_of : (cursor : ℕ) (collection given : Option (List ℕ)) (t : OutsideTells) (old new : Place) (status : Status) → given ≡ collection → AreLinesGiven cursor given t old new status → AreLinesGiven cursor collection t old new status
lines_of cursor collection given t old new status same done = subst (λ (x : Option (List ℕ)). AreLinesGiven cursor x t old new status) same done

-- what a run promises of a command that is this one
pub ran_as : (D : Type 0) (view : D → View) (t : OutsideTells) (old new : Place) (status : Status) (command one : Command) → command ≡ one → Ran view t old new status one → Ran view t old new status command
ran_as D view t old new status command one same done = subst (λ (x : Command). Ran view t old new status x) (sym same) done
