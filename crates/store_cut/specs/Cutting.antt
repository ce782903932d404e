-- Cutting the journal of a store: it is written anew on the other disk of the pair (own).
use Rattle.std.specs.Prelude.{◌≡◌, ◌⊎◌, ◌<◌, ◌≤◌, ◌+◌, ℕ, List, [], ◌∷◌, false, nat_lt, if◌then◌else◌}
use Rattle.at_event.specs.declared.refusal.Refusal.{Refusal}
use Rattle.event_window.specs.declared.place.Place.{Place}
use Rattle.gate_log.specs.declared.format.Format.{Format}
use Rattle.at_cid.specs.declared.limits.TheConstants.{NUMBERS}
use Rattle.gate_log.specs.declared.picking.Side.{Side}
use Rattle.gate_log.specs.declared.picking.Side.TheVariants.{One, Two}
use Rattle.gate_log.specs.Image.{generation}
use Rattle.relay_row.specs.Folds.{last_seq}
use Rattle.relay_row.specs.declared.row.Row.{Row}
use Rattle.cut_law.specs.Cut.{MayCut, have_old}
use Rattle.relay_store.specs.Journals.{IsPairImageOf}

-- the bytes of the disk of this side, and those of the other, are an image of this journal
abbrev pub IsImageBeside : Side → List Row → List ℕ → List ℕ → Type 0
IsImageBeside One J live other = IsPairImageOf J live other
IsImageBeside Two J live other = IsPairImageOf J other live

-- of this journal or of that one
abbrev pub IsEitherBeside : Side → List Row → List Row → List ℕ → List ℕ → Type 0
IsEitherBeside side J K live other = IsImageBeside side J live other
    ⊎ IsImageBeside side K live other

-- Why a journal isn't cut at a number: it is above the last number; or no event has a number up to
-- it; or the log has the last generation.
abbrev pub IsUncut : List Row → Format → ℕ → Refusal → Type 0
IsUncut J format c Refusal.PastEnd = last_seq J < c
IsUncut J format c Refusal.NothingToCut = (c ≤ last_seq J) × (have_old c J ≡ false)
IsUncut J format c Refusal.LastCut = MayCut J c × (generation format + 1 ≡ NUMBERS)
IsUncut J format c refusal = ⊥

-- the numbers of places that are above a number, in order
abbrev pub kept_above : ℕ → List Place → List ℕ
kept_above seq [] = []
kept_above seq (p ∷ places) = if nat_lt seq p.seq then p.seq ∷ kept_above seq places
    else kept_above seq places
