-- What opening a pair of disks, and reading its log back, leaves.
use Rattle.std.proofs.Common.{◌≡◌, ◌≢◌, inl, ℕ, Bool, Err, IsTrue, List, [], ◌∷◌, length, refl, sym, ◌∙◌, ap, subst, arith, length-append}
use Rattle.relay_disk.specs.Disk.{View, Goes, Same, IsDisk, IsSynced}
use Rattle.relay_disk.specs.Moments.{PairLeavesOnly}
use Rattle.relay_disk.proofs.Moments.{unchanged, still_again, pair_still_one, pair_still_two, pair_weaker}
use Rattle.gate_log.specs.Image.{IsMade, IsUnmade}
use Rattle.gate_log.specs.Log.{LogState}
use Rattle.gate_log.specs.Log.{HoldsBodies as HasBodies}
use Rattle.gate_log.specs.Pick.{IsPicked, IsPairImage, IsPairImageOfOne, LeavesPairImages, LeavesSide, of_side, other_side, view_of_side}
use Rattle.gate_log.specs.declared.picking.Side.{Side}
use Rattle.gate_log.specs.declared.picking.Side.TheVariants.{One, Two}
use Rattle.gate_log.specs.declared.fault.LogFault.{LogFault}
use Rattle.gate_log.proofs.OneSide.{same_pair}
use Rattle.relay_store.specs.Faults.{of_log}
use Rattle.relay_store.specs.declared.fault.StoreFault.{StoreFault}
use Rattle.event_window.specs.declared.place.Place.{Place}
use Rattle.relay_row.specs.declared.row.Row.{Row}
use Rattle.relay_core.specs.declared.journal_state.Core.{Core}
use Rattle.relay_store.specs.Journals.{joined, bytes_of, AreBodiesOf, IsPairImageOf, LeavesPairJournals, IsPairJournalOfOne, IsBadBodyAt}
use Rattle.relay_store.specs.Opening.{BothOnlyRead, IsLoaded, IsBadAmong, Opened}
use Rattle.relay_store.specs.Store.{Keeps, seen}

module _ (one two : View) where
  pub pair_images : LeavesPairJournals one two → LeavesPairImages one two
  pair_images journals c d left beside = let is = journals c d left beside in (bytes_of is.1.bodies, is.1.image)

  pub journals_leave : (one_now two_now : View) → LeavesPairJournals one two → PairLeavesOnly (IsPairImageOfOne one two) one one_now two two_now → PairLeavesOnly (IsPairJournalOfOne one two) one one_now two two_now
  journals_leave one_now two_now journals run = pair_weaker _ _ one one_now two two_now run (λ c d has.
      let is = journals has.1.0 has.1.1 has.1.2 has.1.3 in
      let same = same_pair has.0 (bytes_of is.1.bodies) has.1.0 has.1.1 has.1.4 is.1.image in (
        is.0,
        (has.1.0, has.1.1, has.1.2, has.1.3, is.1),
        record { bodies = is.1.bodies; are = is.1.are; image = subst (λ (bs : List (List ℕ)). IsPairImage bs c d) same has.2 },
      ))

  pub then_read : (one_mid one_now two_mid two_now : View) → IsDisk one_mid → IsDisk two_mid → PairLeavesOnly (IsPairJournalOfOne one two) one one_mid two two_mid → Goes Same one_mid one_now → Goes Same two_mid two_now
      → PairLeavesOnly (IsPairJournalOfOne one two) one one_now two two_now
  then_read one_mid one_now two_mid two_now first second run goes goes_too =
      pair_still_two (IsPairJournalOfOne one two) one one_now two two_mid two_now second (pair_still_one (IsPairJournalOfOne one two) one one_mid one_now two two_mid first run goes) goes_too

pub side_goes : (side : Side) (one one_now two two_now : View) → Goes Same one one_now → Goes Same two two_now → Goes Same (view_of_side side one two) (view_of_side side one_now two_now)
side_goes One one one_now two two_now first second = first
side_goes Two one one_now two two_now first second = second

pub side_again : (side : Side) (one one_mid one_now two two_mid two_now : View) → IsDisk one → IsDisk two → Goes Same (view_of_side side one two) (view_of_side side one_mid two_mid) → Goes Same one_mid one_now → Goes Same two_mid two_now
    → Goes Same (view_of_side side one two) (view_of_side side one_now two_now)
side_again One one one_mid one_now two two_mid two_now d e before first second = still_again one one_mid one_now d before first
side_again Two one one_mid one_now two two_mid two_now d e before first second = still_again two two_mid two_now e before second

pub side_stays : (side : Side) (one one_now two two_now : View) → LeavesSide side one two → Goes Same one one_now → Goes Same two two_now → LeavesSide side one_now two_now
side_stays side one one_now two two_now leaves first second c d left beside = leaves c d (unchanged one one_now first c left) (unchanged two two_now second d beside)

pub synced_still : (old new : View) → IsSynced old → Goes Same old new → IsSynced new
synced_still old new synced goes c left = synced c (unchanged old new goes c left) ∙ sym goes.content

of_content : (side : Side) (one two : View) → of_side side one.content two.content ≡ (view_of_side side one two).content
of_content One one two = refl
of_content Two one two = refl

-- a log with a fault behind its front was made before
pub not_unmade : (side : Side) (log : LogState) (one two : View) (v : View) (bodies : List (List ℕ)) → IsPicked one.content two.content side → IsPairImage bodies one.content two.content → HasBodies bodies log v → (HasBodies [] log v → ⊥)
    → IsUnmade (of_side side one.content two.content) → ⊥
not_unmade side log one two v bodies picked image holds some unmade =
    let none : IsPairImage [] one.content two.content = (side, picked, inl (unmade, refl)) in
    some (subst (λ (bs : List (List ℕ)). HasBodies bs log v) (sym (same_pair [] bodies one.content two.content none image)) holds)

-- of two disks of which one was only read
pub both_sides : (side : Side) (one one_now two two_now : View) → Goes Same (view_of_side side one two) (view_of_side side one_now two_now) → Goes Same (view_of_side (other_side side) one two) (view_of_side (other_side side) one_now two_now) → BothOnlyRead one two one_now two_now
both_sides One one one_now two two_now live beside = record { first = live; second = beside }
both_sides Two one one_now two two_now live beside = record { first = beside; second = live }

pub both_again : (one one_mid one_now two two_mid two_now : View) → IsDisk one → IsDisk two → BothOnlyRead one two one_mid two_mid → Goes Same one_mid one_now → Goes Same two_mid two_now → BothOnlyRead one two one_now two_now
both_again one one_mid one_now two two_mid two_now d e before first second = record { first = still_again one one_mid one_now d before.first first; second = still_again two two_mid two_now e before.second second }

-- a log's bad body is a journal's
pub bad_journal : (p : ℕ) (side : Side) (log : LogState) (one one_mid two two_mid : View) (bodies : List (List ℕ)) → IsPicked one.content two.content side → IsPairImage bodies one.content two.content
    → HasBodies bodies log (view_of_side side one_mid two_mid) → ((IsUnmade (of_side side one.content two.content) → ⊥) → Goes Same (view_of_side side one two) (view_of_side side one_mid two_mid))
    → IsBadAmong p log.format bodies → IsBadBodyAt p (of_side side one.content two.content)
bad_journal p side log one one_mid two two_mid bodies picked image holds reads bad =
    let whole : IsUnmade (of_side side one.content two.content) → ⊥ = λ unmade.
    let none : IsPairImage [] one.content two.content = (side, picked, inl (unmade, refl)) in
    absurd (omega (arith, ap length (same_pair [] bodies one.content two.content none image ∙ bad.split), length-append (bytes_of bad.before) (bad.body ∷ bad.behind))) in
    let same : (view_of_side side one_mid two_mid).content ≡ of_side side one.content two.content = (reads whole).content ∙ sym (of_content side one two) in
    record {
      format = log.format;
      before = bad.before;
      body = bad.body;
      behind = bad.behind;
      is_made = subst (λ (bs : List (List ℕ)). IsMade log.format bs (of_side side one.content two.content)) bad.split (subst (IsMade log.format bodies) same holds.now);
      each = bad.each;
      journal = bad.journal;
      here = bad.here;
      bad = bad.bad;
    }

-- a log that was loaded is a journal's
pub opened_journal : (side : Side) (log : LogState) (state : Core) (places : List Place) (one two one_now two_now : View) (bodies : List (List ℕ)) → IsPairImage bodies one.content two.content → HasBodies bodies log (view_of_side side one_now two_now)
    → IsLoaded log.format bodies state places → (J : List Row) × IsPairImageOf J one.content two.content × Keeps J (seen log side state places) (view_of_side side one_now two_now)
opened_journal side log state places one two one_now two_now bodies image holds loaded =
    let are : AreBodiesOf (joined loaded.found) loaded.found = record { each = loaded.each; rows = refl; journal = loaded.journal } in (
      joined loaded.found,
      record { bodies = loaded.found; are = are; image = subst (λ (bs : List (List ℕ)). IsPairImage bs one.content two.content) (sym loaded.bytes_are) image },
      record { bodies = loaded.found; are = are; holds = subst (λ (bs : List (List ℕ)). HasBodies bs log (view_of_side side one_now two_now)) (sym loaded.bytes_are) holds; core = loaded.core; window = loaded.window },
    )

pub log_bad : (f : LogFault) (p : ℕ) → of_log f ≡ StoreFault.BadLog p → f ≡ LogFault.BadLog p
log_bad LogFault.Disk p is = let no : ⊥ = cc in absurd no
log_bad (LogFault.BadLog q) p is = let same : q ≡ p = cc in ap LogFault.BadLog same
log_bad (LogFault.Full e) p is = let no : ⊥ = cc in absurd no
log_bad LogFault.Memory p is = let no : ⊥ = cc in absurd no

pub log_read : (tells : Type 0) (f : LogFault) (P : Type 0) → ((e : ℕ) → f ≡ LogFault.Full e → ⊥) → ((p : ℕ) → f ≡ LogFault.BadLog p → tells → P) → (f ≡ LogFault.Memory → P) → of_log f ≢ StoreFault.Disk → tells → P
log_read tells LogFault.Disk P full bad memory failed told = absurd (failed refl)
log_read tells (LogFault.BadLog q) P full bad memory failed told = bad q refl told
log_read tells (LogFault.Full e) P full bad memory failed told = absurd (full e refl)
log_read tells LogFault.Memory P full bad memory failed told = memory refl

-- so an opening that shows a bad log only read both disks
pub bad_read : (tells : Bool) (one two one_now two_now : View) (f : StoreFault) (p : ℕ) → Opened tells one two one_now two_now (Err f) → f ≡ StoreFault.BadLog p → IsTrue tells → BothOnlyRead one two one_now two_now
bad_read tells one two one_now two_now f p opened is told = opened.read f refl (λ disk. let wrong : ⊥ = cc in wrong) told
