-- What a cut does on the two disks, whichever is the side of the store.
use Rattle.std.proofs.Common.{◌≡◌, ◌≢◌, ◌⊎◌, inl, inr, ℕ, Bool, List, Option, Some, Result, Ok, Err, IsTrue, refl, sym, ap, subst}
use Rattle.relay_disk.specs.Disk.{View}
use Rattle.relay_disk.specs.Moments.{PairLeavesOnly}
use Rattle.gate_log.specs.Beside.{LeavesLive}
use Rattle.gate_log.specs.Pick.{LeavesSide, other_side}
use Rattle.gate_log.specs.declared.picking.Side.{Side}
use Rattle.gate_log.specs.declared.picking.Side.TheVariants.{One, Two}
use Rattle.at_event.specs.declared.refusal.Refusal.{Refusal}
use Rattle.relay_row.specs.declared.row.Row.{Row}
use Rattle.cut_law.specs.Cut.{MayCut, cut}
use Rattle.store_cut.specs.Cutting.{IsEitherBeside}
use Rattle.relay_store.specs.Journals.{IsPairImageOf}
use Rattle.relay_store.specs.Store.{StoreState, Keeps}
use Rattle.store_cut.specs.declared.cutting.CutDone.{CutDone}
use Rattle.relay_store.specs.declared.fault.StoreFault.{StoreFault}
use Rattle.store_lives.specs.Lives.{Machine, CutAs, Cuts, disk_of, fault_cut}

module _ {D : Type 0} (view : D → View) where
  live_of : (side : Side) (m : Machine D) → LeavesSide side (view m.one) (view m.two) → LeavesLive side (view (disk_of side m)) (view (disk_of (other_side side) m))
  live_of One m picked = picked
  live_of Two m picked = picked

  of_live : (side : Side) (m : Machine D) → LeavesLive side (view (disk_of side m)) (view (disk_of (other_side side) m)) → LeavesSide side (view m.one) (view m.two)
  of_live One m live = live
  of_live Two m live = live

  of_other : (side : Side) (m : Machine D) → LeavesLive (other_side side) (view (disk_of (other_side side) m)) (view (disk_of side m)) → LeavesSide (other_side side) (view m.one) (view m.two)
  of_other One m live = live
  of_other Two m live = live

  -- the same pair of disks, turned so that the first comes first
  of_beside : (side : Side) (old now : Machine D) (J K : List Row)
      → PairLeavesOnly (IsEitherBeside side J K) (view (disk_of side old)) (view (disk_of side now)) (view (disk_of (other_side side) old)) (view (disk_of (other_side side) now))
      → PairLeavesOnly (λ c d. IsPairImageOf J c d ⊎ IsPairImageOf K c d) (view old.one) (view now.one) (view old.two) (view now.two)
  of_beside One old now J K run = record { one_later = run.one_later; two_later = run.two_later; each = λ c d one two. run.each c d one two }
  of_beside Two old now J K run = record { one_later = run.two_later; two_later = run.one_later; each = λ c d one two. run.each d c two one }

-- What a cut that wasn't refused comes to, for a journal that the store had: the journal may be cut there; whatever moments a crash strikes the two disks at, it leaves an image of it or of the cut one; and the store, unless a disk failed, has the one or the other, on a side that is picked of all that a crash may leave.
pub record CameOfCut {D : Type 0} (view : D → View) (J : List Row) (s_now : StoreState) (number : ℕ) (old now : Machine D) (fault : Option StoreFault) : Type 0 where
  pub may : MayCut J number
  pub moments : PairLeavesOnly (λ c d. IsPairImageOf J c d ⊎ IsPairImageOf (cut J number) c d) (view old.one) (view now.one) (view old.two) (view now.two)
  pub keeps : fault ≢ Some StoreFault.Disk → Keeps J s_now (view (disk_of s_now.side now)) ⊎ Keeps (cut J number) s_now (view (disk_of s_now.side now))
  pub picked : fault ≢ Some StoreFault.Disk → LeavesSide s_now.side (view now.one) (view now.two)

module _ {D : Type 0} (view : D → View) (tells : Bool) (told : IsTrue tells) (J : List Row) (s s_now : StoreState) (number : ℕ) (old now : Machine D) where
  abbrev As : Result CutDone StoreFault → Type 0
  As result = CutAs view tells s s_now number (disk_of s.side old) (disk_of (other_side s.side) old) (disk_of s.side now) (disk_of (other_side s.side) now) result

  not_disk : (fault : StoreFault) (result : Result CutDone StoreFault) → result ≡ Err fault → Some fault ≢ Some StoreFault.Disk → result ≢ Err StoreFault.Disk
  not_disk fault result is not e = let same : fault ≡ StoreFault.Disk = cc in not (ap Some same)

  keeps_in : (result : Result CutDone StoreFault) → ((why : Refusal) → result ≢ Ok (CutDone.Refused why)) → As result → Keeps J s (view (disk_of s.side old))
      → fault_cut result ≢ Some StoreFault.Disk → Keeps J s_now (view (disk_of s_now.side now)) ⊎ Keeps (cut J number) s_now (view (disk_of s_now.side now))
  keeps_in (Ok (CutDone.Cut oldest last)) done cuts keeps not =
      inr (subst (λ (side : Side). Keeps (cut J number) s_now (view (disk_of side now))) (sym (cuts.side oldest last refl)) (cuts.keeps oldest last refl told J keeps))
  keeps_in (Ok (CutDone.Refused why)) done cuts keeps not = absurd (done why refl)
  keeps_in (Err fault) done cuts keeps not =
      let before = cuts.as_before (not_disk fault (Err fault) refl not) in
      inl (subst (λ (t : StoreState). Keeps J t (view (disk_of t.side now))) (sym before.0) (cuts.kept told J keeps))

  picked_in : (result : Result CutDone StoreFault) → ((why : Refusal) → result ≢ Ok (CutDone.Refused why)) → As result
      → fault_cut result ≢ Some StoreFault.Disk → LeavesSide s_now.side (view now.one) (view now.two)
  picked_in (Ok (CutDone.Cut oldest last)) done cuts not =
      let is = cuts.side oldest last refl in
      subst (λ (side : Side). LeavesSide side (view now.one) (view now.two)) (sym is)
      (of_other view s.side now (subst (λ (side : Side). LeavesLive side (view (disk_of (other_side s.side) now)) (view (disk_of s.side now))) is (cuts.live oldest last refl told)))
  picked_in (Ok (CutDone.Refused why)) done cuts not = absurd (done why refl)
  picked_in (Err fault) done cuts not =
      let before = cuts.as_before (not_disk fault (Err fault) refl not) in
      subst (λ (t : StoreState). LeavesSide t.side (view now.one) (view now.two)) (sym before.0) (of_live view s.side now (before.1 told))

pub came_of_cut : {D : Type 0} (view : D → View) (tells : Bool) → IsTrue tells → (passes : ℕ → Bool) (J : List Row) (s : StoreState) (old now : Machine D) (cuts : Cuts view tells passes s old now)
    → Keeps J s (view (disk_of s.side old)) → LeavesSide s.side (view old.one) (view old.two) → CameOfCut view J cuts.s_now cuts.number old now (fault_cut cuts.result)
came_of_cut view tells told passes J s old now cuts keeps picked =
    let done = cuts.cuts told (live_of view s.side old picked) in
    record {
      may = (done.may cuts.done told J keeps).0;
      moments = of_beside view s.side old now J (cut J cuts.number) (done.moments told J keeps);
      keeps = keeps_in view tells told J s cuts.s_now cuts.number old now cuts.result cuts.done done keeps;
      picked = picked_in view tells told J s cuts.s_now cuts.number old now cuts.result cuts.done done;
    }
