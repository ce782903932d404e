-- What was only read of two disks, from what opening found.
use Rattle.std.proofs.Common.{◌≡◌, Bool, Ok, IsTrue, sym, subst}
use Rattle.relay_disk.specs.Disk.{View, Goes, Same}
use Rattle.gate_log.specs.Pick.{other_side, view_of_side}
use Rattle.gate_log.specs.declared.picking.Side.{Side}
use Rattle.gate_log.specs.declared.picking.Side.TheVariants.{One, Two}
use Rattle.relay_store.specs.Opening.{Opened}
use Rattle.relay_store.specs.Pairs.{of_pair}
use Rattle.relay_store.specs.declared.store.Store.{Store}
use Rattle.run_base.specs.Reading.{OnlyRead, OtherOnlyRead}

-- it came to a store
pub opened_read : (tells : Bool) (one two one_now two_now : View) (s : Store) → Opened tells one two one_now two_now (Ok s) → IsTrue tells → OnlyRead one two one_now two_now
opened_read tells one two one_now two_now s opened told = record {
  beside = record { side = s.side; picked = opened.picked told; other = opened.beside };
  own = opened.only_read told;
}

module _ {D : Type 0} (view : D → View) (a b c d e f : D) where
  -- and a call left the disk of this side as it was
  side_read : (side : Side) → of_pair side e f ≡ of_pair side c d → Goes Same (view_of_side side (view a) (view b)) (view_of_side side (view c) (view d))
      → Goes Same (view_of_side side (view a) (view b)) (view_of_side side (view e) (view f))
  side_read One same goes = subst (λ (x : D). Goes Same (view a) (view x)) (sym same) goes
  side_read Two same goes = subst (λ (x : D). Goes Same (view b) (view x)) (sym same) goes

  module _ (tells : Bool) (s : Store) (opened : Opened tells (view a) (view b) (view c) (view d) (Ok s)) (told : IsTrue tells) (beside : of_pair (other_side s.side) e f ≡ of_pair (other_side s.side) c d) where
    -- the other one
    pub other_read : OtherOnlyRead (view a) (view b) (view e) (view f)
    other_read = record { side = s.side; picked = opened.picked told; other = side_read (other_side s.side) beside opened.beside }

    -- both
    pub only_read : of_pair s.side e f ≡ of_pair s.side c d → OnlyRead (view a) (view b) (view e) (view f)
    unfolding other_read
    only_read same = record { beside = other_read; own = λ made. side_read s.side same (opened.only_read told made) }
