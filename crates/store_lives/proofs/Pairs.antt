-- What crashes leave of a pair of disks while a store on one of them is called.
use Rattle.std.proofs.Common.{◌≡◌, inr, ⊎_elim, ℕ, Bool, List, ◌++◌, sym, subst}
use Rattle.relay_disk.specs.Disk.{View, IsDisk}
use Rattle.relay_disk.specs.Moments.{LeavesOnly, PairLeavesOnly}
use Rattle.relay_disk.proofs.Moments.{no_call, pair_of}
use Rattle.gate_log.specs.Image.{IsMade}
use Rattle.gate_log.specs.Pick.{IsPicked, LeavesSide, other_side}
use Rattle.gate_log.specs.declared.format.Format.{Format}
use Rattle.gate_log.specs.declared.picking.Side.{Side}
use Rattle.gate_log.specs.declared.picking.Side.TheVariants.{One, Two}
use Rattle.gate_log.proofs.Fronts.{made_front}
use Rattle.gate_log.proofs.OneSide.{first_again, second_again}
use Rattle.relay_row.specs.declared.row.Row.{Row}
use Rattle.cut_law.specs.Lives.{ComesFrom}
use Rattle.cut_law.proofs.Changing.{comes_longer}
use Rattle.relay_store.specs.Journals.{IsLogOf, IsOneOf, IsPairImageOf, bytes_of}
use Rattle.relay_store.specs.Store.{StoreState, Keeps}
use Rattle.store_lives.specs.Lives.{Machine, disk_of}

-- A pair of images of a journal that comes from this one.
pub record HasComing (passes : ℕ → Bool) (C : List Row) (c d : List ℕ) : Type 0 where
  pub journal : List Row
  pub comes : ComesFrom passes C journal
  pub image : IsPairImageOf journal c d

-- and this side is picked of it
pub record IsOnSide (passes : ℕ → Bool) (C : List Row) (side : Side) (c d : List ℕ) : Type 0 where
  pub all : HasComing passes C c d
  pub picked : IsPicked c d side

module _ (passes : ℕ → Bool) (C : List Row) (format : Format) (bodies : List (List ℕ)) where
  -- a log of the format that the picked side had, in the place of what it had
  on_first : (u c d : List ℕ) (J : List Row) → IsMade format bodies u → IsPicked u d One → ComesFrom passes C J → IsLogOf format J c → IsOnSide passes C One c d
  on_first u c d J made picked comes log =
      let again : IsPicked c d One = first_again u c d format picked (made_front format (bytes_of log.bodies) c log.is_made) (inr (made_front format bodies u made)) in
      record { all = record { journal = J; comes = comes; image = record { bodies = log.bodies; are = log.are; image = (One, again, inr (format, log.is_made)) } }; picked = again }

  on_second : (c u d : List ℕ) (J : List Row) → IsMade format bodies u → IsPicked c u Two → ComesFrom passes C J → IsLogOf format J d → IsOnSide passes C Two c d
  on_second c u d J made picked comes log =
      let again : IsPicked c d Two = second_again c u d format picked (made_front format (bytes_of log.bodies) d log.is_made) (made_front format bodies u made) in
      record { all = record { journal = J; comes = comes; image = record { bodies = log.bodies; are = log.are; image = (Two, again, inr (format, log.is_made)) } }; picked = again }

module _ {D : Type 0} (view : D → View) (disks : (d : D) → IsDisk (view d)) (passes : ℕ → Bool) (C J rows : List Row) (s : StoreState) (comes : ComesFrom passes C J) where
  longer : (c : List ℕ) → IsLogOf s.log.format (J ++ rows) c → ComesFrom passes C (J ++ rows)
  longer c log = comes_longer passes C J rows comes log.are.journal

  beside_still : (d d_now : D) → d_now ≡ d → LeavesOnly (view d).may_leave (view d) (view d_now)
  beside_still d d_now same = subst (λ (x : D). LeavesOnly (view d).may_leave (view d) (view x)) (sym same) (no_call (view d).may_leave (view d) (disks d) (λ c left. left))

  either_first : (one two : D) → Keeps J s (view one) → LeavesSide One (view one) (view two) → (c d : List ℕ) → IsOneOf s.log.format J rows c → (view two).may_leave d → IsOnSide passes C One c d
  either_first one two keeps picked c d is beside =
      let made = on_first passes C s.log.format (bytes_of keeps.bodies) (view one).content c d in
      let side = picked (view one).content d (disks one).possible beside in
      ⊎_elim (λ before. made J keeps.holds.now side comes before) (λ after. made (J ++ rows) keeps.holds.now side (longer c after) after) is

  either_second : (one two : D) → Keeps J s (view two) → LeavesSide Two (view one) (view two) → (c d : List ℕ) → (view one).may_leave c → IsOneOf s.log.format J rows d → IsOnSide passes C Two c d
  either_second one two keeps picked c d beside is =
      let made = on_second passes C s.log.format (bytes_of keeps.bodies) c (view two).content d in
      let side = picked c (view two).content beside (disks two).possible in
      ⊎_elim (λ before. made J keeps.holds.now side comes before) (λ after. made (J ++ rows) keeps.holds.now side (longer d after) after) is

  -- a call of the store on the disk of its side
  pub call_leaves : (side : Side) (old now : Machine D) → Keeps J s (view (disk_of side old)) → LeavesSide side (view old.one) (view old.two) → disk_of (other_side side) now ≡ disk_of (other_side side) old
      → LeavesOnly (IsOneOf s.log.format J rows) (view (disk_of side old)) (view (disk_of side now)) → PairLeavesOnly (IsOnSide passes C side) (view old.one) (view now.one) (view old.two) (view now.two)
  call_leaves One old now keeps picked beside run =
      pair_of (IsOneOf s.log.format J rows) (view old.two).may_leave (IsOnSide passes C One) (view old.one) (view now.one) (view old.two) (view now.two) run (beside_still old.two now.two beside) (either_first old.one old.two keeps picked)
  call_leaves Two old now keeps picked beside run =
      pair_of (view old.one).may_leave (IsOneOf s.log.format J rows) (IsOnSide passes C Two) (view old.one) (view now.one) (view old.two) (view now.two) (beside_still old.one now.one beside) run (either_second old.one old.two keeps picked)
