-- What cutting the journal of two disks comes to, from what the store answered on one of them.
use Rattle.std.proofs.Common.{◌≡◌, ◌≢◌, ◌⊎◌, inl, inr, ◌+◌, ◌<◌, ℕ, List, length, Result, Ok, Err, OnErr, refl, sym, ◌∙◌, ap, subst, arith, length-append}
use Rattle.at_event.specs.declared.refusal.Refusal.{Refusal}
use Rattle.relay_disk.specs.Disk.{View, IsDisk}
use Rattle.relay_disk.specs.Moments.{PairLeavesOnly}
use Rattle.gate_log.specs.Image.{HasFront, IsMade, front, generation, made, records}
use Rattle.gate_log.specs.Log.{LogState}
use Rattle.gate_log.specs.Log.{HoldsBodies as HasBodies}
use Rattle.gate_log.specs.Beside.{LeavesLive}
use Rattle.gate_log.specs.Pick.{IsPicked, LeavesSide, of_side, other_side, view_of_side}
use Rattle.gate_log.specs.declared.format.Format.{Format}
use Rattle.gate_log.specs.declared.picking.Side.{Side}
use Rattle.gate_log.specs.declared.picking.Side.TheVariants.{One, Two}
use Rattle.relay_row.specs.declared.row.Row.{Row}
use Rattle.cut_law.specs.Cut.{MayCut, cut}
use Rattle.store_cut.specs.Cutting.{IsEitherBeside, IsUncut}
use Rattle.relay_store.specs.Journals.{IsPairImageOf, bytes_of}
use Rattle.relay_store.specs.Pairs.{StandsFor}
use Rattle.store_cut.specs.Rewriting.{RewriteHasNoRoom, IsOfRewriting, singles}
use Rattle.relay_store.specs.Room.{PairHasRoom}
use Rattle.relay_store.specs.Store.{Keeps, StoreState}
use Rattle.store_cut.specs.declared.cutting.CutDone.{CutDone}
use Rattle.relay_store.specs.declared.fault.StoreFault.{StoreFault}
use Rattle.relay_store.proofs.Beside.{kept_front, kept_stands}
use Rattle.run_base.specs.Cutting.{CutCame, IsAnswerOf, IsOfFormat, EndsRewriting, IsWrittenAnew}

-- ---- two disks

-- the first is the second
pub flipped : (P : List ℕ → List ℕ → Type 0) (one one_now two two_now : View) → PairLeavesOnly (λ c d. P d c) two two_now one one_now → PairLeavesOnly P one one_now two two_now
flipped P one one_now two two_now run = record { one_later = run.two_later; two_later = run.one_later; each = λ c d left beside. run.each d c beside left }

-- the format of the log that is kept there
format_here : (side : Side) (J : List Row) (s : StoreState) (one two : View) → IsDisk one → IsDisk two → LeavesSide side one two → Keeps J s (view_of_side side one two) → IsOfFormat s.log.format one.content two.content
format_here One J s one two first second leaves keeps = record { side = One; picked = leaves one.content two.content first.possible second.possible; fronted = kept_front J s one first keeps }
format_here Two J s one two first second leaves keeps = record { side = Two; picked = leaves one.content two.content first.possible second.possible; fronted = kept_front J s two second keeps }

-- ---- the disk of the store's side, and the other

keeps_first : (side : Side) (J : List Row) (s : StoreState) (one two : View) → One ≡ side → Keeps J s (view_of_side side one two) → Keeps J s one
keeps_first side J s one two is keeps = subst (λ (x : Side). Keeps J s (view_of_side x one two)) (sym is) keeps

keeps_second : (side : Side) (J : List Row) (s : StoreState) (one two : View) → Two ≡ side → Keeps J s (view_of_side side one two) → Keeps J s two
keeps_second side J s one two is keeps = subst (λ (x : Side). Keeps J s (view_of_side x one two)) (sym is) keeps

-- the store is on the first
module _ (side : Side) (is : One ≡ side) (one two : View) where
  pub first_live : LeavesSide side one two → LeavesLive side one two
  first_live = subst (λ (x : Side). LeavesSide x one two → LeavesLive x one two) is (λ leaves. leaves)

  pub first_unlive : LeavesLive side one two → LeavesSide side one two
  first_unlive = subst (λ (x : Side). LeavesLive x one two → LeavesSide x one two) is (λ leaves. leaves)

  pub first_here : (J : List Row) (s : StoreState) → Keeps J s (view_of_side side one two) → Keeps J s one
  first_here J s keeps = keeps_first side J s one two is keeps

  pub first_there : (J : List Row) (s : StoreState) → Keeps J s one → Keeps J s (view_of_side side one two)
  first_there J s keeps = subst (λ (x : Side). Keeps J s (view_of_side x one two)) is keeps

  pub second_now : (now : Side) → now ≡ other_side side → LeavesLive now two one → LeavesSide Two one two
  second_now now other leaves = subst (λ (x : Side). LeavesLive x two one) (other ∙ ap other_side (sym is)) leaves

  pub first_each : (J K : List Row) (one_was two_was : View) → PairLeavesOnly (IsEitherBeside side J K) one_was one two_was two → PairLeavesOnly (λ c d. IsPairImageOf J c d ⊎ IsPairImageOf K c d) one_was one two_was two
  first_each J K one_was two_was = subst (λ (x : Side). PairLeavesOnly (IsEitherBeside x J K) one_was one two_was two → PairLeavesOnly (λ c d. IsPairImageOf J c d ⊎ IsPairImageOf K c d) one_was one two_was two) is (λ run. run)

-- or on the second
module _ (side : Side) (is : Two ≡ side) (one two : View) where
  pub second_live : LeavesSide side one two → LeavesLive side two one
  second_live = subst (λ (x : Side). LeavesSide x one two → LeavesLive x two one) is (λ leaves. leaves)

  pub second_unlive : LeavesLive side two one → LeavesSide side one two
  second_unlive = subst (λ (x : Side). LeavesLive x two one → LeavesSide x one two) is (λ leaves. leaves)

  pub second_here : (J : List Row) (s : StoreState) → Keeps J s (view_of_side side one two) → Keeps J s two
  second_here J s keeps = keeps_second side J s one two is keeps

  pub second_there : (J : List Row) (s : StoreState) → Keeps J s two → Keeps J s (view_of_side side one two)
  second_there J s keeps = subst (λ (x : Side). Keeps J s (view_of_side x one two)) is keeps

  pub first_now : (now : Side) → now ≡ other_side side → LeavesLive now one two → LeavesSide One one two
  first_now now other leaves = subst (λ (x : Side). LeavesLive x one two) (other ∙ ap other_side (sym is)) leaves

  pub second_each : (J K : List Row) (one_was two_was : View) → PairLeavesOnly (IsEitherBeside side J K) two_was two one_was one → PairLeavesOnly (λ c d. IsPairImageOf J c d ⊎ IsPairImageOf K c d) one_was one two_was two
  second_each J K one_was two_was run =
      flipped (λ c d. IsPairImageOf J c d ⊎ IsPairImageOf K c d) one_was one two_was two
      (subst (λ (x : Side). PairLeavesOnly (IsEitherBeside x J K) two_was two one_was one → PairLeavesOnly (λ c d. IsPairImageOf J d c ⊎ IsPairImageOf K d c) two_was two one_was one) is (λ run. run) run)

-- disks that weren't touched
pub side_stays : {D : Type 0} (view : D → View) (side : Side) (a b c d : D) → c ≡ a → d ≡ b → LeavesSide side (view a) (view b) → LeavesSide side (view c) (view d)
side_stays {D = D} view side a b c d first second leaves =
    subst (λ (x : D). LeavesSide side (view x) (view d)) (sym first) (subst (λ (y : D). LeavesSide side (view a) (view y)) (sym second) leaves)

-- what was answered isn't a refusal
pub cut_not : (result : Result CutDone StoreFault) (oldest last : ℕ) → result ≡ Ok (CutDone.Cut oldest last) → (why : Refusal) → result ≢ Ok (CutDone.Refused why)
cut_not result oldest last is why refused = let wrong : ⊥ = cc in wrong

pub err_not : (result : Result CutDone StoreFault) (fault : StoreFault) → result ≡ Err fault → (why : Refusal) → result ≢ Ok (CutDone.Refused why)
err_not result fault is why refused = let wrong : ⊥ = cc in wrong

-- a fault other than the disk's
pub not_disk : (result : Result CutDone StoreFault) (fault : StoreFault) → result ≡ Err fault → fault ≢ StoreFault.Disk → result ≢ Err StoreFault.Disk
not_disk result fault is other disk = other (cc)

pub on_fault : (result : Result CutDone StoreFault) (fault : StoreFault) (P : Type 0) → result ≡ Err fault → OnErr result P → P
on_fault result fault P is has = subst (λ (r : Result CutDone StoreFault). OnErr r P) is has

-- what was written anew
rows_fit : (format : Format) (K : List Row) (end most : ℕ) → end ≡ length (made format (bytes_of (singles K))) → end < most → length (front format) + length (records (bytes_of (singles K))) < most
rows_fit format K end most is below = omega (arith, is, below, length-append (front format) (records (bytes_of (singles K))))

pub written_anew : (side : Side) (most : ℕ) (K : List Row) (format : Format) (log : LogState) (one two : List ℕ) (v : View) → IsPicked one two (other_side side) → HasFront format (of_side side one two) → v.content ≡ of_side (other_side side) one two
    → log.format ≡ Format.Two (generation format + 1) → log.most ≡ most → log.end < log.most → HasBodies (bytes_of (singles K)) log v → IsWrittenAnew most K one two
written_anew side most K format log one two v picked former there is limit below holds = record {
  side = side;
  format = format;
  former = former;
  anew = subst (λ (f : Format). IsMade f (bytes_of (singles K)) (of_side (other_side side) one two)) is (subst (IsMade log.format (bytes_of (singles K))) there holds.now);
  picked = picked;
  room = subst (λ (f : Format). length (front f) + length (records (bytes_of (singles K))) < most) is (rows_fit log.format K log.end most holds.ends (omega (arith, below, limit)));
}

unwritten_by : (most : ℕ) (K : List Row) (format : Format) (one two : List ℕ) (fault : StoreFault) → IsOfRewriting fault → ((p : ℕ) → fault ≡ StoreFault.BadLog p → ⊥) → (fault ≢ StoreFault.Disk → IsOfFormat format one two)
    → ((e : ℕ) → fault ≡ StoreFault.Full e → RewriteHasNoRoom (length (front (Format.Two (generation format + 1)))) most K e) → EndsRewriting most K one two fault
unwritten_by most K format one two StoreFault.Disk of good log full = tt
unwritten_by most K format one two (StoreFault.BadLog p) of good log full = absurd (good p refl)
unwritten_by most K format one two (StoreFault.Full e) of good log full = (format, log (full_not e), full e refl)
  where
    full_not : (e : ℕ) → StoreFault.Full e ≢ StoreFault.Disk
    full_not e is = cc
unwritten_by most K format one two StoreFault.SeqEnd of good log full = absurd of
unwritten_by most K format one two StoreFault.Authority of good log full = absurd of
unwritten_by most K format one two StoreFault.Repos of good log full = absurd of
unwritten_by most K format one two StoreFault.Memory of good log full = tt
unwritten_by most K format one two StoreFault.Clock of good log full = absurd of

-- ---- the whole

module _ (most : ℕ) (J : List Row) (c : ℕ) (side : Side) (s : StoreState) (one two : View) (first : IsDisk one) (second : IsDisk two) (keeps : Keeps J s (view_of_side side one two)) where
  -- what is kept there stands for the journal
  still : LeavesSide side one two → StandsFor J one two
  still leaves = kept_stands side J s one two first second leaves keeps

  -- by what was answered
  pub cut_came : (result : Result CutDone StoreFault)
      → ((why : Refusal) → result ≡ Ok (CutDone.Refused why) → IsUncut J s.log.format c why × LeavesSide side one two)
      → ((oldest last : ℕ) → result ≡ Ok (CutDone.Cut oldest last) → IsAnswerOf most J c one.content two.content (CutDone.Cut oldest last) × StandsFor (cut J c) one two × PairHasRoom most (cut J c) one.content two.content)
      → ((f : StoreFault) → result ≡ Err f → MayCut J c × IsOfRewriting f × ((p : ℕ) → f ≡ StoreFault.BadLog p → ⊥) × (f ≢ StoreFault.Disk → LeavesSide side one two)
      × ((e : ℕ) → f ≡ StoreFault.Full e → RewriteHasNoRoom (length (front (Format.Two (generation s.log.format + 1)))) most (cut J c) e))
      → CutCame most J c one two result
  cut_came (Ok (CutDone.Refused why)) refused done failed =
      let is = refused why refl in ((s.log.format, format_here side J s one two first second is.1 keeps, is.0), still is.1, inl refl)
  cut_came (Ok (CutDone.Cut oldest last)) refused done failed = let is = done oldest last refl in (is.0, is.1, inr is.2)
  cut_came (Err f) refused done failed =
      let is = failed f refl in
      (is.0, unwritten_by most (cut J c) s.log.format one.content two.content f is.1 is.2 (λ other. format_here side J s one two first second (is.3 other) keeps) is.4, λ other. still (is.3 other))
