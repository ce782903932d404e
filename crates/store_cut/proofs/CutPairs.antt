-- A pair of disks while a cut journal is written on the other one.
use Rattle.std.proofs.Common.{◌≡◌, inl, inr, ◌⊎◌, ⊎_elim, ℕ, ◌<◌, ◌≤◌, Bool, true, ◌&&◌, List, [], ◌∷◌, ◌++◌, IsTrue, Result, Ok, Err, OnErr, refl, sym, ◌∙◌, ap, subst, arith}
use Rattle.std.specs.List.{list_all}
use Rattle.std.proofs.lemmas.Bool.{and_parts}
use Rattle.event_window.specs.Window.{IsLastUpto}
use Rattle.event_window.specs.declared.place.Place.{Place}
use Rattle.relay_disk.specs.Disk.{View, IsDisk, Goes, Same}
use Rattle.relay_disk.specs.Moments.{LeavesOnly, PairLeavesOnly}
use Rattle.relay_disk.proofs.Moments.{joined as run_on, pair_weaker, unchanged, weaker}
use Rattle.gate_log.specs.Beside.{LeavesLive, IsPickedBeside, IsRebuilt}
use Rattle.gate_log.specs.Beside.{IsImageBeside as IsBodiesBeside}
use Rattle.gate_log.specs.Build.{HasBuilt, IsClosed, IsClosedOrMade, IsFormerOrIdle}
use Rattle.gate_log.specs.Image.{IsMade, generation}
use Rattle.gate_log.specs.Log.{LogState}
use Rattle.gate_log.specs.Log.{HoldsBodies as HasBodies}
use Rattle.gate_log.specs.Pick.{other_side}
use Rattle.gate_log.specs.declared.format.Format.{Format}
use Rattle.gate_log.specs.declared.format.Format.TheVariants as Formats
use Rattle.gate_log.specs.declared.picking.Side.{Side}
use Rattle.gate_log.specs.declared.picking.Side.TheVariants.{One, Two}
use Rattle.gate_log.proofs.Beside.{built_beside, live_stays}
use Rattle.gate_log.proofs.Fronts.{made_front}
use Rattle.relay_row.specs.Folds.{last_seq}
use Rattle.relay_row.specs.Journal.{IsJournal}
use Rattle.relay_row.specs.Rules.{is_row}
use Rattle.relay_row.specs.declared.row.Row.{Row}
use Rattle.relay_core.specs.Entries.{Holds}
use Rattle.cut_law.specs.Cut.{MayCut, carried, cut}
use Rattle.cut_law.proofs.Cutting.{cut_is}
use Rattle.cut_law.proofs.Following.{cut_journal}
use Rattle.store_cut.specs.Cutting.{IsEitherBeside, IsImageBeside}
use Rattle.relay_store.specs.Journals.{AllBodies, AreBodiesOf, bytes_of}
use Rattle.relay_store.specs.Places.{places_of}
use Rattle.store_cut.specs.Rewriting.{singles, IsCopied, IsOfRewriting}
use Rattle.relay_store.specs.Store.{StoreState, Keeps, seen}
use Rattle.relay_store.specs.declared.fault.StoreFault.{StoreFault}
use Rattle.store_cut.specs.declared.rewriting.Rewrite.{Rewrite}
use Rattle.store_cut.proofs.CutFronts.{kept_at}
use Rattle.store_cut.proofs.Rewritten.{joined_singles}

-- ---- a journal in bodies of one row each

each_single : (rows : List Row) → list_all is_row rows ≡ true → AllBodies (singles rows)
each_single [] formed = tt
each_single (row ∷ rows) formed =
    let both = and_parts (is_row row) (list_all is_row rows) formed in
    (record { some = omega arith; few = omega arith; formed = ap (λ (b : Bool). b && true) both.0; made = refl }, each_single rows both.1)

pub cut_bodies : (J : List Row) (c : ℕ) → IsJournal J → MayCut J c → AreBodiesOf (cut J c) (singles (cut J c))
cut_bodies J c is may =
    let journal = cut_journal J c (cut J c) (cut_is J c is may) is in
    record { each = each_single (cut J c) journal.formed; rows = joined_singles (cut J c); journal = journal }

-- where the front ends at the last place up to the number
pub may_at : (J : List Row) (s : StoreState) (v : View) (keeps : Keeps J s v) (c : ℕ) (p : Place) → IsLastUpto c p s.window → c ≤ last_seq J → MayCut J c
may_at J s v keeps c p last held = record { held = held; some = (kept_at J s v keeps c p last).some }

pub bodies_at : (J : List Row) (s : StoreState) (v : View) (keeps : Keeps J s v) (c : ℕ) (p : Place) → IsLastUpto c p s.window → c ≤ last_seq J → AreBodiesOf (cut J c) (singles (cut J c))
bodies_at J s v keeps c p last held = cut_bodies J c keeps.are.journal (may_at J s v keeps c p last held)

-- a cut journal has a row
pub cut_some : (J : List Row) (c : ℕ) → cut J c ≡ [] → ⊥
unfolding cut carried
cut_some J c none = let wrong : ⊥ = cc in wrong

-- what was built
pub built : (tells : Bool) (rows K : List Row) (r0 r : Rewrite) (w0 w : View) → IsTrue tells → HasBuilt [] r0.build w0 → IsCopied tells rows r0 r w0 w → rows ≡ K → HasBuilt (bytes_of (singles K)) r.build w
built tells rows K r0 r w0 w told begun copied is = subst (λ (l : List Row). HasBuilt (bytes_of (singles l)) r.build w) is (copied.added told [] begun)

pub kept_cut : (tells : Bool) (K rows : List Row) (r0 r : Rewrite) (w0 w w_now : View) (log : LogState) (side : Side) → AreBodiesOf K (singles K) → IsTrue tells → HasBuilt [] r0.build w0 → Holds r0.core [] → r0.window.places ≡ []
    → IsCopied tells rows r0 r w0 w → rows ≡ K → log.format ≡ r.build.format → ((bodies : List (List ℕ)) → HasBuilt bodies r.build w → HasBodies bodies log w_now) → Keeps K (seen log side r.core r.window.places) w_now
kept_cut tells K rows r0 r w0 w w_now log side are told begun core window copied is format opened = record {
  bodies = singles K;
  are = are;
  holds = opened (bytes_of (singles K)) (built tells rows K r0 r w0 w told begun copied is);
  core = subst (Holds r.core) is (copied.core [] core);
  window = copied.window [] begun.ends
      ∙ (λ i. window i ++ places_of (sym copied.format i) (singles rows))
      ∙ (λ i. places_of (sym format i) (singles (is i)));
}

-- ---- the pair

module _ (other : View) (g : ℕ) (others : List (List ℕ)) where
  pub begun_run : (now : View) → LeavesOnly (IsFormerOrIdle other) other now → LeavesOnly (IsRebuilt other g others) other now
  begun_run now run = weaker (IsFormerOrIdle other) (IsRebuilt other g others) other now run (λ c is. ⊎_elim (λ was. inl was) (λ idle. inr (inl idle)) is)

  pub closed_run : (mid now : View) → LeavesOnly (IsRebuilt other g others) other mid → LeavesOnly IsClosed mid now → LeavesOnly (IsRebuilt other g others) other now
  closed_run mid now before run = run_on (IsRebuilt other g others) other mid now before (weaker IsClosed (IsRebuilt other g others) mid now run (λ c is. inr (inl (inl is))))

  pub finished_run : (mid now : View) (format : Format) → format ≡ Formats.Two g → LeavesOnly (IsRebuilt other g others) other mid → LeavesOnly (IsClosedOrMade format others) mid now → LeavesOnly (IsRebuilt other g others) other now
  finished_run mid now format is before run =
      run_on (IsRebuilt other g others) other mid now before
      (weaker (IsClosedOrMade format others) (IsRebuilt other g others) mid now run
      (λ c has. ⊎_elim (λ shut. inr (inl (inl shut))) (λ made. inr (inr (subst (λ f. IsMade f others c) is made))) has))

image_as : (side : Side) (J : List Row) (bodies : List (List Row)) → AreBodiesOf J bodies → (c d : List ℕ) → IsBodiesBeside side (bytes_of bodies) c d → IsImageBeside side J c d
image_as One J bodies are c d image = record { bodies = bodies; are = are; image = image }
image_as Two J bodies are c d image = record { bodies = bodies; are = are; image = image }

module _ (J : List Row) (s : StoreState) (disk other : View) (keeps : Keeps J s disk) (side : Side) (live : LeavesLive side disk other) where
  -- while the log of another journal is built on the other disk
  pub pair_moments : (K : List Row) (g : ℕ) → AreBodiesOf K (singles K) → generation s.log.format < g → IsDisk disk → (disk_now other_now : View) → Goes Same disk disk_now
      → LeavesOnly (IsRebuilt other g (bytes_of (singles K))) other other_now → PairLeavesOnly (IsEitherBeside side J K) disk disk_now other other_now
  pair_moments K g are later is disk_now other_now goes run =
      pair_weaker _ _ disk disk_now other other_now
      (built_beside side s.log.format (bytes_of keeps.bodies) (bytes_of (singles K)) s.log.end g disk other keeps.holds live later disk_now other_now is goes run)
      (λ c d has. ⊎_elim (λ first. inl (image_as side J keeps.bodies keeps.are c d first)) (λ second. inr (image_as side K (singles K) are c d second)) has)

  -- where no call is made
  pub still_pair : (K : List Row) → IsDisk disk → IsDisk other → PairLeavesOnly (IsEitherBeside side J K) disk disk other other
  still_pair K is also = record {
    one_later = omega arith;
    two_later = omega arith;
    each = λ c d left beside. inl (image_as side J keeps.bodies keeps.are c d (here side live c d (is.only_now c left) (also.only_now d beside)));
  }
    where
      here : (side : Side) → LeavesLive side disk other → (c d : List ℕ) → disk.may_leave c → other.may_leave d → IsBodiesBeside side (bytes_of keeps.bodies) c d
      here One live c d left beside = (One, live c d left beside, inr (s.log.format, keeps.holds.left c left))
      here Two live c d left beside = (Two, live d c beside left, inr (s.log.format, keeps.holds.left c left))

-- a build that was given up leaves the live side
pub live_closed : (log : LogState) (bodies : List (List ℕ)) (disk disk_now other_now : View) → HasBodies bodies log disk → (side : Side) → Goes Same disk disk_now → ((c : List ℕ) → other_now.may_leave c → IsClosed c) → LeavesLive side disk_now other_now
live_closed log bodies disk disk_now other_now holds One goes shut = λ c d left beside.
    live_stays c d log.format (made_front log.format bodies c (holds.left c (unchanged disk disk_now goes c left))) One (inl (shut d beside))
live_closed log bodies disk disk_now other_now holds Two goes shut = λ c d left beside.
    live_stays d c log.format (made_front log.format bodies d (holds.left d (unchanged disk disk_now goes d beside))) Two (inl (shut c left))

-- the side that is picked is live from then on
pub live_now : (side : Side) (disk other : View) → ((c d : List ℕ) → disk.may_leave c → other.may_leave d → IsPickedBeside side c d (other_side side)) → LeavesLive (other_side side) other disk
live_now One disk other picked = picked
live_now Two disk other picked = λ c d left beside. picked d c beside left

-- ---- faults

pub on_err_by : {T E P : Type 0} (r : Result T E) → ((f : E) → r ≡ Err f → P) → OnErr r P
on_err_by (Ok x) so = tt
on_err_by (Err e) so = so e refl

pub few_full : (e : ℕ) → (StoreFault.Full e ≡ StoreFault.Disk) ⊎ (StoreFault.Full e ≡ StoreFault.Memory) → ⊥
few_full e (inl is) = let wrong : ⊥ = cc in wrong
few_full e (inr is) = let wrong : ⊥ = cc in wrong

pub few_bad : (p : ℕ) → (StoreFault.BadLog p ≡ StoreFault.Disk) ⊎ (StoreFault.BadLog p ≡ StoreFault.Memory) → ⊥
few_bad p (inl is) = let wrong : ⊥ = cc in wrong
few_bad p (inr is) = let wrong : ⊥ = cc in wrong

pub few_is : (f : StoreFault) → (f ≡ StoreFault.Disk) ⊎ (f ≡ StoreFault.Memory) → IsOfRewriting f
few_is f (inl is) = subst IsOfRewriting (sym is) tt
few_is f (inr is) = subst IsOfRewriting (sym is) tt

-- and what is said of an error that came
pub on_err_at : {T E P : Type 0} (r : Result T E) (f : E) → r ≡ Err f → OnErr r P → P
on_err_at (Ok x) f is h = absurd cc
on_err_at (Err e) f is h = h

-- where the log holds the bodies that it held, the store keeps its journal
pub still_keeps : (J : List Row) (s : StoreState) (v w : View) → Keeps J s v → ((bodies : List (List ℕ)) → HasBodies bodies s.log v → HasBodies bodies s.log w) → Keeps J s w
still_keeps J s v w keeps holds = record {
  bodies = keeps.bodies;
  are = keeps.are;
  holds = holds (bytes_of keeps.bodies) keeps.holds;
  core = keeps.core;
  window = keeps.window;
}
