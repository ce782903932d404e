-- A log is built on one disk beside a live one.
use Rattle.std.proofs.Common.{inl, inr, ⊎_elim, ℕ, ◌≤◌, ◌<◌, List, subst, arith}
use Rattle.relay_disk.specs.Disk.{View, Goes, Same, IsDisk}
use Rattle.relay_disk.specs.Moments.{LeavesOnly, PairLeavesOnly}
use Rattle.relay_disk.proofs.Moments.{read_left, unchanged}
use Rattle.gate_log.specs.declared.format.Format.{Format}
use Rattle.gate_log.specs.declared.format.Format.TheVariants as Formats
use Rattle.gate_log.specs.declared.picking.Side.{Side}
use Rattle.gate_log.specs.declared.picking.Side.TheVariants.{One, Two}
use Rattle.gate_log.specs.Image.{HasFront, HasNoFront, IsBroken, IsImage, generation}
use Rattle.gate_log.specs.Crash.{Stands}
use Rattle.gate_log.specs.Build.{IsIdle}
use Rattle.gate_log.specs.Pick.{other_side}
use Rattle.gate_log.specs.Beside.{IsPickedBeside, IsImageBeside, LeavesLive, IsRebuilt, IsEitherBeside}
use Rattle.gate_log.proofs.Fronts.{made_front, made_open, same_format}
use Rattle.gate_log.proofs.Sides.{front_whole, good_by_first, good_by_second, second_alone}

idle_front : (c : List ℕ) → IsIdle c → HasNoFront c
idle_front c idle format has = ⊎_elim (λ closed. closed (made_open format c has)) (λ short. absurd (omega (arith, short, has.long))) idle

idle_whole : (c : List ℕ) → IsIdle c → IsBroken c → ⊥
idle_whole c idle broken = ⊎_elim (λ closed. closed broken.is_open) (λ short. absurd (omega (arith, short, broken.long))) idle

module _ (live other : List ℕ) (f : Format) (has : HasFront f live) where
  -- what isn't picked of any pair leaves the live side
  pub live_stays : (side : Side) → IsIdle other → IsPickedBeside side live other side
  live_stays One idle = record { good = good_by_first live other f has (idle_whole other idle); later = inl (idle_front other idle) }
  live_stays Two idle = second_alone other live f has (idle_front other idle) (idle_whole other idle)

  -- a log of a greater generation is picked
  pub later_wins : (side : Side) (g : Format) → HasFront g other → generation f < generation g → IsPickedBeside side live other (other_side side)
  later_wins One g is later = record {
    good = good_by_first live other f has (front_whole g other is);
    later = (g, is, λ old old_has. subst (λ k. generation k < generation g) (same_format f old live has old_has) later);
  }
  later_wins Two g is later = record {
    good = good_by_second other live f has (front_whole g other is);
    later = inr (g, is, λ old old_has. subst (λ k. generation k ≤ generation g) (same_format f old live has old_has) (omega (arith, later)));
  }

-- the image of the side that is picked
live_image : (side : Side) (bodies : List (List ℕ)) (live other : List ℕ) → IsPickedBeside side live other side → IsImage bodies live → IsImageBeside side bodies live other
live_image One bodies live other is image = (One, is, image)
live_image Two bodies live other is image = (Two, is, image)

other_image : (side : Side) (bodies : List (List ℕ)) (live other : List ℕ) → IsPickedBeside side live other (other_side side) → IsImage bodies other → IsImageBeside side bodies live other
other_image One bodies live other is image = (Two, is, image)
other_image Two bodies live other is image = (One, is, image)

live_left : (side : Side) (disk beside : View) → LeavesLive side disk beside → (c d : List ℕ) → disk.may_leave c → beside.may_leave d → IsPickedBeside side c d side
live_left One disk beside leaves c d left right = leaves c d left right
live_left Two disk beside leaves c d left right = leaves d c right left

module _ (side : Side) (f : Format) (bodies others : List (List ℕ)) (end g : ℕ) (disk other : View) (stands : Stands f bodies end disk) (live : LeavesLive side disk other) (later : generation f < g) where
  -- whatever the moments
  each : (c d : List ℕ) → disk.may_leave c → IsRebuilt other g others d → IsEitherBeside side bodies others c d
  each c d left =
      let made = stands.left c left in
      let has = made_front f bodies c made in
      ⊎_elim
      (λ was. inl (live_image side bodies c d (live_left side disk other live c d left was) (inr (f, made))))
      (λ now. ⊎_elim
      (λ idle. inl (live_image side bodies c d (live_stays c d f has side idle) (inr (f, made))))
      (λ new. inr (other_image side others c d (later_wins c d f has side (Formats.Two g) (made_front (Formats.Two g) others d new) later) (inr (Formats.Two g, new))))
      now)

  -- while the one is only read, and a whole log is built on the other
  pub built_beside : (disk_now other_now : View) → IsDisk disk → Goes Same disk disk_now → LeavesOnly (IsRebuilt other g others) other other_now
      → PairLeavesOnly (IsEitherBeside side bodies others) disk disk_now other other_now
  built_beside disk_now other_now is goes run = record {
    one_later = goes.later;
    two_later = run.later;
    each = λ c d left beside. each c d (read_left disk disk_now is goes c left) (run.each d beside);
  }

-- once it stands, each crash leaves it picked
pub leaves_new : (side : Side) (f h : Format) (bodies others : List (List ℕ)) (end end_now : ℕ) (disk disk_now other_now : View) → Stands f bodies end disk → Goes Same disk disk_now
    → Stands h others end_now other_now → generation f < generation h → (c d : List ℕ) → disk_now.may_leave c → other_now.may_leave d → IsPickedBeside side c d (other_side side)
leaves_new side f h bodies others end end_now disk disk_now other_now stands goes now later c d left beside =
    later_wins c d f (made_front f bodies c (stands.left c (unchanged disk disk_now goes c left))) side h (made_front h others d (now.left d beside)) later
