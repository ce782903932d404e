use Rattle.std.proofs.Common.{◌≡◌, length}
use Rattle.std.specs.Prelude.{map}
use Rattle.std.specs.Str.{bytes_eq}
use Rattle.event_window.specs.declared.place.Place.{Place}
use Rattle.store_cut.specs.Cutting.{kept_above}
use Rattle.store_cut.proofs.comparing.have_kept.Given as goal

-- what is left gives what the whole gives
abbrev pub invariant-kept : goal.invariant-kept
invariant-kept l = bytes_eq (map (λ (p : Place). p.seq) l.left) (kept_above l.seq l.others) ≡ bytes_eq (map (λ (p : Place). p.seq) l.places) (kept_above l.seq l.kept)

abbrev pub decreases-kept : goal.decreases-kept
decreases-kept l = length l.others
