-- What reading leaves of a store's disk (own).
use Rattle.std.proofs.Common.{◌≡◌, ℕ, Bool, List, subst, sym}
use Rattle.std.specs.Prelude.{IsTrue}
use Rattle.relay_disk.specs.Disk.{View, Goes, Same, IsDisk}
use Rattle.relay_disk.proofs.Moments.{still_again, still_here}
use Rattle.gate_log.specs.Log.{HoldsBodies as HasBodies, IsOn, LogState}
use Rattle.relay_row.specs.declared.row.Row.{Row}
use Rattle.relay_store.specs.Store.{StoreState, Keeps}

-- Reading left the disk of a log as it was, but for counts and moments: the log still holds what it
-- held, and is on that disk.
pub record LeftAsRead (tells : Bool) (log : LogState) (v w : View) : Type 0 where
  pub goes : Goes Same v w
  pub holds : IsTrue tells → (bodies : List (List ℕ)) → HasBodies bodies log v
      → HasBodies bodies log w
  pub on : IsTrue tells → IsOn w log

-- Reading left the disk as it was, but for counts and moments: it still has each journal that the
-- store has.
pub record IsReread (tells : Bool) (s : StoreState) (v w : View) : Type 0 where
  pub goes : Goes Same v w
  pub keeps : IsTrue tells → (J : List Row) → Keeps J s v → Keeps J s w

-- nothing was read
pub reread_here : (tells : Bool) (s : StoreState) (v : View) → IsReread tells s v v
reread_here tells s v = record { goes = still_here v; keeps = λ told J keeps. keeps }

-- more was read
pub reread_again : (tells : Bool) (s t : StoreState) (u v w : View) → IsDisk u → t ≡ s
    → IsReread tells s u v → IsReread tells t v w → IsReread tells s u w
reread_again tells s t u v w disk same first second = record {
  goes = still_again u v w disk first.goes second.goes;
  keeps = λ told J keeps.
      subst (λ (x : StoreState). Keeps J x w) same
      (second.keeps told J (subst (λ (x : StoreState). Keeps J x v) (sym same)
      (first.keeps told J keeps)));
}
