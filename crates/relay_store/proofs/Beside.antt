-- What two disks stand for, and what crashes leave of them, while the log of one is written and the other isn't.
use Rattle.std.proofs.Common.{◌≡◌, inl, inr, ◌⊎◌, ⊎_elim, ℕ, List, ◌++◌, Bool, Result, Ok, IsTrue, refl, sym, subst}
use Rattle.relay_disk.specs.Disk.{View, IsDisk}
use Rattle.relay_disk.specs.Moments.{LeavesOnly, PairLeavesOnly}
use Rattle.relay_disk.proofs.Moments.{pair_now_too, pair_then_one, pair_then_two, pair_weaker}
use Rattle.gate_log.specs.Image.{HasFront, IsImage}
use Rattle.gate_log.specs.Pick.{IsPicked, LeavesSide, of_side, other_side, view_of_side}
use Rattle.gate_log.specs.declared.format.Format.{Format}
use Rattle.gate_log.specs.declared.picking.Side.{Side}
use Rattle.gate_log.specs.declared.picking.Side.TheVariants.{One, Two}
use Rattle.gate_log.proofs.Fronts.{made_front}
use Rattle.gate_log.proofs.OneSide.{same_side_of_first, same_side_of_second}
use Rattle.relay_row.specs.declared.row.Row.{Row}
use Rattle.relay_store.specs.Journals.{IsLogOf, IsPairImageOf, IsPairJournalOfOne, bytes_of}
use Rattle.relay_store.specs.Opening.{Opened}
use Rattle.relay_store.specs.Store.{Keeps, StoreState, seen_in}
use Rattle.relay_store.specs.declared.fault.StoreFault.{StoreFault}
use Rattle.relay_store.specs.declared.store.Store.{Store}
use Rattle.relay_store.proofs.Images.{kept_log, same_pair_journal}
use Rattle.relay_store.specs.Pairs.{IsOneOfPair, StandsFor, of_pair}

-- a log of the side that is picked
pub image_of_side : (J : List Row) (side : Side) (format : Format) (c d : List ℕ) → IsPicked c d side → IsLogOf format J (of_side side c d) → IsPairImageOf J c d
image_of_side J side format c d picked log = record { bodies = log.bodies; are = log.are; image = (side, picked, inr (format, log.is_made)) }

pub log_front : (format : Format) (J : List Row) (c : List ℕ) → IsLogOf format J c → HasFront format c
log_front format J c log = made_front format (bytes_of log.bodies) c log.is_made

-- a log that goes on in the first disk's front is picked as it was, and where the second is picked, that one is as it was
first_beside : (J K : List Row) (format : Format) (u c d : List ℕ) → HasFront format u → IsPairImageOf J u d → IsLogOf format K c → IsPairImageOf J c d ⊎ IsPairImageOf K c d
first_beside J K format u c d front image log =
    by_side image.image.0 (same_side_of_first u d c format image.image.0 front (log_front format K c log) image.image.1) image.image.2
  where
    by_side : (side : Side) → IsPicked c d side → IsImage (bytes_of image.bodies) (of_side side u d) → IsPairImageOf J c d ⊎ IsPairImageOf K c d
    by_side One picked was = inr (image_of_side K One format c d picked log)
    by_side Two picked was = inl (record { bodies = image.bodies; are = image.are; image = (Two, picked, was) })

second_beside : (J K : List Row) (format : Format) (c u d : List ℕ) → HasFront format u → IsPairImageOf J c u → IsLogOf format K d → IsPairImageOf J c d ⊎ IsPairImageOf K c d
second_beside J K format c u d front image log =
    by_side image.image.0 (same_side_of_second c u d format image.image.0 front (log_front format K d log) image.image.1) image.image.2
  where
    by_side : (side : Side) → IsPicked c d side → IsImage (bytes_of image.bodies) (of_side side c u) → IsPairImageOf J c d ⊎ IsPairImageOf K c d
    by_side One picked was = inl (record { bodies = image.bodies; are = image.are; image = (One, picked, was) })
    by_side Two picked was = inr (image_of_side K Two format c d picked log)

-- what opening found
pub opened_keeps : (tells : Bool) (one two one_now two_now : View) (s : Store) → Opened tells one two one_now two_now (Ok s) → IsTrue tells → (J : List Row) → IsPairImageOf J one.content two.content
    → Keeps J (seen_in s) (view_of_side s.side one_now two_now)
opened_keeps tells one two one_now two_now s opened told J image =
    let kept = opened.keeps told in
    subst (λ (K : List Row). Keeps K (seen_in s) (view_of_side s.side one_now two_now)) (same_pair_journal kept.0 J one.content two.content kept.1 image) kept.2

-- and what crashes leave of it
pub opened_leaves : (tells : Bool) (one two one_now two_now : View) (result : Result Store StoreFault) → Opened tells one two one_now two_now result → IsTrue tells → (J : List Row) → StandsFor J one two
    → PairLeavesOnly (IsPairImageOf J) one one_now two two_now
opened_leaves tells one two one_now two_now result opened told J stands =
    pair_weaker (IsPairJournalOfOne one two) (IsPairImageOf J) one one_now two two_now (opened.moments told (λ c d left beside. (J, stands.left c d left beside))) (λ c d has.
    let could = has.1 in
    subst (λ (K : List Row). IsPairImageOf K c d) (same_pair_journal has.0 J could.0 could.1 could.4 (stands.left could.0 could.1 could.2 could.3)) has.2)

-- where crashes leave the journal at each moment, the disks stand for it
pub leaves_stand : (J : List Row) (one two one_now two_now : View) → IsDisk one_now → IsDisk two_now → PairLeavesOnly (IsPairImageOf J) one one_now two two_now → StandsFor J one_now two_now
leaves_stand J one two one_now two_now first second run = record {
  now = pair_now_too (IsPairImageOf J) one one_now two two_now first second run one_now.content two_now.content first.possible second.possible;
  left = pair_now_too (IsPairImageOf J) one one_now two two_now first second run;
}

-- a disk that is picked of all pairs and keeps the journal
pub kept_stands : (side : Side) (J : List Row) (s : StoreState) (one two : View) → IsDisk one → IsDisk two → LeavesSide side one two → Keeps J s (view_of_side side one two) → StandsFor J one two
kept_stands One J s one two first second leaves keeps =
    let left : (c d : List ℕ) → one.may_leave c → two.may_leave d → IsPairImageOf J c d = λ c d is beside. image_of_side J One s.log.format c d (leaves c d is beside) (kept_log J s one keeps c is) in
    record { now = left one.content two.content first.possible second.possible; left = left }
kept_stands Two J s one two first second leaves keeps =
    let left : (c d : List ℕ) → one.may_leave c → two.may_leave d → IsPairImageOf J c d = λ c d is beside. image_of_side J Two s.log.format c d (leaves c d is beside) (kept_log J s two keeps d beside) in
    record { now = left one.content two.content first.possible second.possible; left = left }

-- what a disk keeps begins with the front of its log
pub kept_front : (J : List Row) (s : StoreState) (v : View) → IsDisk v → Keeps J s v → HasFront s.log.format v.content
kept_front J s v disk keeps = log_front s.log.format J v.content (kept_log J s v keeps v.content disk.possible)

-- the disk of the side that is picked gets other rows behind the front that it had: that side stays picked
stays_first : (J : List Row) (s : StoreState) (one one_now two : View) → IsDisk one → Keeps J s one → ((c : List ℕ) → one_now.may_leave c → HasFront s.log.format c) → LeavesSide One one two → LeavesSide One one_now two
stays_first J s one one_now two disk keeps fronts leaves = λ c d left beside.
    same_side_of_first one.content d c s.log.format One (kept_front J s one disk keeps) (fronts c left) (leaves one.content d disk.possible beside)

stays_second : (J : List Row) (s : StoreState) (one two two_now : View) → IsDisk two → Keeps J s two → ((d : List ℕ) → two_now.may_leave d → HasFront s.log.format d) → LeavesSide Two one two → LeavesSide Two one two_now
stays_second J s one two two_now disk keeps fronts leaves = λ c d left beside.
    same_side_of_second c two.content d s.log.format Two (kept_front J s two disk keeps) (fronts d beside) (leaves c two.content left disk.possible)

-- what a disk keeps in a log of this format begins with its front
pub kept_fronts : (K : List Row) (format : Format) (t : StoreState) (v : View) → t.log.format ≡ format → Keeps K t v → (c : List ℕ) → v.may_leave c → HasFront format c
kept_fronts K format t v same keeps c left = subst (λ (f : Format). HasFront f c) same (log_front t.log.format K c (kept_log K t v keeps c left))

-- the same of the side, whichever it is
abbrev pub ComesBeside : Side → List Row → Format → (List ℕ → Type 0) → (List ℕ → List ℕ → Type 0) → Type 0
ComesBeside side J format Q R = (c d : List ℕ) → Q (of_side side c d) → ((K : List Row) → IsLogOf format K (of_side side c d) → IsPairImageOf J c d ⊎ IsPairImageOf K c d) → R c d

module _ {D : Type 0} (view : D → View) (is_disk : (x : D) → IsDisk (view x)) (a b c d e f : D) where
  -- the side's disk
  pub view_on : (side : Side) → view_of_side side (view c) (view d) ≡ view (of_pair side c d)
  view_on One = refl
  view_on Two = refl

  pub view_now : (side : Side) → view_of_side side (view e) (view f) ≡ view (of_pair side e f)
  view_now One = refl
  view_now Two = refl

  -- a call on the disk of the side, between opening and now
  pub run_on : (side : Side) (J : List Row) (s : StoreState) (Q : List ℕ → Type 0) (R : List ℕ → List ℕ → Type 0) → of_pair (other_side side) e f ≡ of_pair (other_side side) c d
      → Keeps J s (view_of_side side (view c) (view d)) → PairLeavesOnly (IsPairImageOf J) (view a) (view c) (view b) (view d) → LeavesOnly Q (view (of_pair side c d)) (view (of_pair side e f))
      → ((x y : List ℕ) → IsPairImageOf J x y → R x y) → ComesBeside side J s.log.format Q R → PairLeavesOnly R (view a) (view e) (view b) (view f)
  run_on One J s Q R same keeps opened run before behind = subst (λ (x : D). PairLeavesOnly R (view a) (view e) (view b) (view x)) (sym same)
      (pair_then_one (IsPairImageOf J) R Q (view a) (view c) (view e) (view b) (view d) opened run before (λ x y has left.
      let now = (is_disk c).counts_now (view a).moment (view c).content opened.one_later (is_disk c).possible in
      behind x y has (λ K log. first_beside J K s.log.format (view c).content x y (kept_front J s (view c) (is_disk c) keeps) (opened.each (view c).content y now left) log)))
  run_on Two J s Q R same keeps opened run before behind = subst (λ (x : D). PairLeavesOnly R (view a) (view x) (view b) (view f)) (sym same)
      (pair_then_two (IsPairImageOf J) R Q (view a) (view c) (view b) (view d) (view f) opened run before (λ x y left has.
      let now = (is_disk d).counts_now (view b).moment (view d).content opened.two_later (is_disk d).possible in
      behind x y has (λ K log. second_beside J K s.log.format x (view d).content y (kept_front J s (view d) (is_disk d) keeps) (opened.each x (view d).content left now) log)))

  -- and behind it the side stays picked
  pub leaves_on : (side : Side) (J : List Row) (s : StoreState) → of_pair (other_side side) e f ≡ of_pair (other_side side) c d → Keeps J s (view_of_side side (view c) (view d))
      → ((x : List ℕ) → (view (of_pair side e f)).may_leave x → HasFront s.log.format x) → LeavesSide side (view c) (view d) → LeavesSide side (view e) (view f)
  leaves_on One J s same keeps fronts leaves = subst (λ (x : D). LeavesSide One (view e) (view x)) (sym same) (stays_first J s (view c) (view e) (view d) (is_disk c) keeps fronts leaves)
  leaves_on Two J s same keeps fronts leaves = subst (λ (x : D). LeavesSide Two (view x) (view f)) (sym same) (stays_second J s (view c) (view d) (view f) (is_disk d) keeps fronts leaves)

  -- and the disks stand for what it keeps
  pub stands_on : (side : Side) (J K : List Row) (s t : StoreState) → of_pair (other_side side) e f ≡ of_pair (other_side side) c d → t.log.format ≡ s.log.format
      → Keeps J s (view_of_side side (view c) (view d)) → Keeps K t (view (of_pair side e f)) → LeavesSide side (view c) (view d) → StandsFor K (view e) (view f)
  stands_on side J K s t same format keeps now leaves =
      kept_stands side K t (view e) (view f) (is_disk e) (is_disk f) (leaves_on side J s same keeps (kept_fronts K s.log.format t (view (of_pair side e f)) format now) leaves)
      (subst (Keeps K t) (sym (view_now side)) now)

  -- a call that leaves both as they were
  pub both_same : (side : Side) → of_pair (other_side side) e f ≡ of_pair (other_side side) c d → of_pair side e f ≡ of_pair side c d → (e ≡ c) × (f ≡ d)
  both_same One other same = (same, other)
  both_same Two other same = (other, same)

-- the rows of a call behind the journal
pub one_beside : (side : Side) (J rows : List Row) (format : Format) → ComesBeside side J format (λ x. IsLogOf format J x ⊎ IsLogOf format (J ++ rows) x) (IsOneOfPair J rows)
one_beside side J rows format c d (inl log) image = ⊎_elim (λ was. inl was) (λ was. inl was) (image J log)
one_beside side J rows format c d (inr log) image = ⊎_elim (λ was. inl was) (λ more. inr more) (image (J ++ rows) log)
