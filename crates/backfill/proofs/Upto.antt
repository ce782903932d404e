-- Up to which event messages were written.
use Rattle.std.proofs.Common.{◌≡◌, ◌≢◌, ℕ, ◌≤◌, max, List, [], ◌++◌, IsTrue, Bool, Some, refl, sym, ap, ◌∙◌, subst, arith, append_assoc}
use Rattle.std.proofs.lemmas.List.{append-nil}
use Rattle.event_window.specs.Held.{Event, Held}
use Rattle.backfill.specs.Served.{messages_of, notice, notice_of, rising_above, served, standing_of}
use Rattle.backfill.specs.Writing.{AddsUpto, IsOfReading, with_length}
use Rattle.backfill.specs.declared.replay_fault.ReplayFault.{ReplayFault}
use Rattle.backfill.specs.declared.standing.Standing.{Standing}
use Rattle.backfill.proofs.Framing.{IsWriting, events_follow, written_more}

pub greater_left : (a b : ℕ) → b ≤ a → max a b ≡ a
greater_left a b low = omega (arith, low)

pub greater_right : (a b : ℕ) → a ≤ b → max a b ≡ b
greater_right a b low = omega (arith, low)

-- reading stopped behind the event of a number
pub writing_upto : (tells : Bool) (events : List Event) (first last n number : ℕ) (old now : List ℕ)
    → IsWriting tells events first last n old now → IsTrue tells → number ≡ last → AddsUpto (messages_of (rising_above first events)) events number old now
writing_upto tells events first last n number old now is told same =
    subst (λ (m : ℕ). AddsUpto (messages_of (rising_above first events)) events m old now) (sym same) (record { written = is.written; split = is.split; bytes = is.bytes told })

-- and this was behind what is said of the cursor
upto_behind : (one other : List (List ℕ)) (events : List Event) (number : ℕ) (old now new : List ℕ) → now ≡ old ++ with_length one → AddsUpto other events number now new → AddsUpto (one ++ other) events number old new
upto_behind one other events number old now new first adds = record {
  written = one ++ adds.written;
  split = ap (λ (l : List (List ℕ)). one ++ l) adds.split ∙ sym (append_assoc one adds.written (messages_of (rising_above number events)));
  bytes = written_more old now new one adds.written first adds.bytes;
}

pub upto_events : (held : Held) (cursor number : ℕ) (standing : Standing) (old now new : List ℕ)
    → standing ≡ standing_of held cursor → standing ≢ Standing.Future → now ≡ old ++ with_length (notice_of standing)
    → AddsUpto (messages_of (rising_above cursor held.shown)) held.shown number now new → AddsUpto (served held (Some cursor)) held.shown number old new
upto_events held cursor number standing old now new stands other first adds =
    subst (λ (messages : List (List ℕ)). AddsUpto (notice held (Some cursor) ++ messages) held.shown number old new) (sym (events_follow held cursor standing stands other))
    (upto_behind (notice held (Some cursor)) (messages_of (rising_above cursor held.shown)) held.shown number old now new
    (first ∙ ap (λ (s : Standing). old ++ with_length (notice_of s)) stands) adds)

-- behind nothing, and with nothing that waits
pub upto_all : (messages : List (List ℕ)) (events : List Event) (number : ℕ) (old none full now : List ℕ) → none ≡ [] → AddsUpto messages events number (old ++ none) full → now ≡ full → AddsUpto messages events number old now
upto_all messages events number old none full now is adds same = record {
  written = adds.written;
  split = adds.split;
  bytes = same ∙ adds.bytes ∙ ap (λ (l : List ℕ). (old ++ l) ++ with_length adds.written) is ∙ ap (λ (l : List ℕ). l ++ with_length adds.written) (append-nil old);
}

-- a fault that isn't of reading
pub not_of_reading : (f : ReplayFault) → (f ≡ ReplayFault.Disk → ⊥) → ((place : ℕ) → f ≡ ReplayFault.BadLog place → ⊥) → IsOfReading f → ⊥
not_of_reading ReplayFault.Output disk damage of = of
not_of_reading ReplayFault.Disk disk damage of = disk refl
not_of_reading ReplayFault.Memory disk damage of = of
not_of_reading (ReplayFault.BadLog place) disk damage of = damage place refl
