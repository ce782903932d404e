-- What counts of failures say of a call, by the calls that it makes.
use Rattle.std.proofs.Common.{◌≡◌, ◌≢◌, ◌≤◌, ◌∙◌, ℕ, Result, Err, ap, arith, subst}
use Rattle.at_cid.specs.Counts.{Counted, Rose}
use Rattle.event_window.specs.declared.fault.EventsFault.{EventsFault}
use Rattle.backfill.specs.Faults.{replay_fault}
use Rattle.backfill.specs.declared.replay_fault.ReplayFault.{ReplayFault}

-- it didn't fail, and the count stands
pub counted_still : (failed : Type 0) (old now : ℕ) → now ≡ old → (failed → ⊥) → Counted failed old now
counted_still failed old now same none = record { rose = λ is. absurd (none is); steady = λ not. same; kept = omega (arith, same) }

-- it failed
pub counted_risen : (failed : Type 0) (old mid now : ℕ) → mid ≡ old → mid ≤ now → failed → Rose mid now → Counted failed old now
counted_risen failed old mid now same kept is rose = record {
  rose = λ told. subst (λ n. Rose n now) same rose;
  steady = λ not. absurd (not is);
  kept = omega (arith, same, kept);
}

-- behind a call that left the count as it was
pub counted_then : (failed : Type 0) (old mid now : ℕ) → mid ≡ old → Counted failed mid now → Counted failed old now
counted_then failed old mid now same counted = subst (λ n. Counted failed n now) same counted

-- a fault of the output ended it, or another one
pub by_output : {A : Type 0} (r : Result A ReplayFault) (result : Result ℕ ReplayFault) (f : ReplayFault) (old mid now : ℕ) → r ≡ Err f → result ≡ Err f → mid ≡ old
    → mid ≤ now → (r ≡ Err ReplayFault.Output → Rose mid now) → (r ≢ Err ReplayFault.Output → now ≡ mid) → Counted (result ≡ Err ReplayFault.Output) old now
by_output r result ReplayFault.Output old mid now failed is same kept rose steady = counted_risen _ old mid now same kept is (rose failed)
by_output r result ReplayFault.Disk old mid now failed is same kept rose steady = counted_still _ old now (steady (λ no. absurd cc) ∙ same) (λ no. absurd cc)
by_output r result ReplayFault.Memory old mid now failed is same kept rose steady = counted_still _ old now (steady (λ no. absurd cc) ∙ same) (λ no. absurd cc)
by_output r result (ReplayFault.BadLog place) old mid now failed is same kept rose steady = counted_still _ old now (steady (λ no. absurd cc) ∙ same) (λ no. absurd cc)

-- a fault of giving events out
pub by_events : {A : Type 0} (r : Result A EventsFault) (result : Result ℕ ReplayFault) (f : EventsFault) (old mid now : ℕ) → r ≡ Err f → result ≡ Err (replay_fault f) → mid ≡ old
    → mid ≤ now → (r ≡ Err EventsFault.Disk → Rose mid now) → (r ≢ Err EventsFault.Disk → now ≡ mid) → Counted (result ≡ Err ReplayFault.Disk) old now
by_events r result EventsFault.Disk old mid now failed is same kept rose steady = counted_risen _ old mid now same kept is (rose failed)
by_events r result EventsFault.Memory old mid now failed is same kept rose steady = counted_still _ old now (steady (λ no. absurd cc) ∙ same) (λ no. absurd cc)
by_events r result (EventsFault.BadLog place) old mid now failed is same kept rose steady = counted_still _ old now (steady (λ no. absurd cc) ∙ same) (λ no. absurd cc)

-- which isn't one of the output
pub not_of_output : (result : Result ℕ ReplayFault) (f : EventsFault) → result ≡ Err (replay_fault f) → result ≢ Err ReplayFault.Output
not_of_output result EventsFault.Disk is output = cc
not_of_output result EventsFault.Memory is output = cc
not_of_output result (EventsFault.BadLog place) is output = cc

-- a call that never has this fault ended it
pub not_by : {A : Type 0} (r : Result A ReplayFault) (result : Result ℕ ReplayFault) (f g : ReplayFault) → r ≡ Err f → result ≡ Err f → (r ≡ Err g → ⊥) → result ≢ Err g
not_by r result f g failed is other same =
    let here : f ≡ g = cc in
    other (failed ∙ ap Err here)
