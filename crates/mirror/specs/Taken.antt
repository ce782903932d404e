-- What one message makes of a mirror.
use Rattle.std.specs.Prelude.{◌≡◌, ℕ, Bool, true, false, not, ◌&&◌, ◌||◌, List, length, nat_lt, IsTrue, Result, Ok}
use Rattle.std.specs.Str.{bytes_eq}
use Rattle.at_event.specs.Bodies.{has_blocks}
use Rattle.at_event.specs.Frames.{frame_of}
use Rattle.at_event.specs.Seen.{Seen}
use Rattle.at_event.specs.declared.event.Body.{Body}
use Rattle.at_event.specs.declared.frame.Frame.{Frame}
use Rattle.at_event.specs.declared.frame.FrameFault.{FrameFault}
use Rattle.mirror.specs.Held.{IsAfter, IsAfterEvent}
use Rattle.relay_io.specs.Choices.{WhereElse}
use Rattle.mirror.specs.Repository.{Repositories}
use Rattle.mirror.specs.State.{held_by, is_known}
use Rattle.mirror.specs.declared.holding.Holding.{Holding}
use Rattle.mirror.specs.declared.keeping.Mirror.{Mirror}
use Rattle.mirror.specs.declared.step.Step.{Step}

-- the message is no event above the last number, and no `#info`
abbrev pub is_bad : ℕ → Result Frame FrameFault → Bool
is_bad last (Ok (Frame.Event e)) = not (nat_lt last e.seq)
is_bad last (Ok Frame.Info) = false
is_bad last other = true

-- the last number behind a message
abbrev pub last_behind : ℕ → Result Frame FrameFault → ℕ
last_behind last (Ok (Frame.Event e)) = e.seq
last_behind last other = last

abbrev pub is_sync : Body → Bool
is_sync (Body.Sync sync) = true
is_sync other = false

-- the message is an event of the DID with such a body
abbrev pub is_such_event_of : (Body → Bool) → List ℕ → Result Frame FrameFault → Bool
is_such_event_of such did (Ok (Frame.Event e)) = such e.body && bytes_eq did e.did
is_such_event_of such did other = false

-- what a message came to, by what is held behind it
abbrev pub step_of : Holding → Step
step_of (Holding.Mapped rev map) = Step.Held (length map)
step_of Holding.Waiting = Step.Waiting

abbrev pub step_by : Bool → Holding → Step
step_by true held = step_of held
step_by false held = Step.Passed

abbrev pub IsStep : Mirror → Result Frame FrameFault → Step → Type 0
IsStep m (Ok (Frame.Event e)) step = step ≡ step_by (has_blocks e.body) (held_by m e.did)
IsStep m other step = step ≡ Step.Passed

-- A message was taken: of each account what it makes is held, and the last number is its own. Only
-- a `#sync` of the account asks for its repository, so that of all others this holds also where the
-- repositories aren't known.
pub record IsTaken (tells : Bool) (repositories : Repositories) (old new : Mirror)
    (message : List ℕ) (step : Step)
    : Type 0 where
  pub good : is_bad old.last (frame_of message) ≡ false
  pub last : new.last ≡ last_behind old.last (frame_of message)
  pub held : (did : List ℕ) → (IsTrue (is_such_event_of is_sync did (frame_of message))
      → IsTrue tells)
      → IsAfter repositories did message (held_by old did) (held_by new did)
  pub known : (did : List ℕ)
      → is_known new did ≡ (is_known old did
      || is_such_event_of has_blocks did (frame_of message))
  pub came : IsStep new (frame_of message) step

-- The same of an event.
pub record IsTakenEvent (tells : Bool) (repositories : Repositories) (old new : Mirror) (e : Seen)
    (step : Step) : Type 0 where
  pub above : nat_lt old.last e.seq ≡ true
  pub last : new.last ≡ e.seq
  pub held : (did : List ℕ) → (IsTrue (is_sync e.body && bytes_eq did e.did) → IsTrue tells)
      → IsAfterEvent repositories did e (held_by old did) (held_by new did)
  pub known : (did : List ℕ)
      → is_known new did ≡ (is_known old did || (has_blocks e.body && bytes_eq did e.did))
  pub came : step ≡ step_by (has_blocks e.body) (held_by new e.did)

-- Of the account of a DID something else is held, and of no other.
pub record IsChanged (did : List ℕ) (change : Holding → Holding → Type 0) (old new : Mirror)
    (step : Step)
    : Type 0 where
  pub held : (name : List ℕ)
      → WhereElse (bytes_eq name did) (change (held_by old name) (held_by new name))
      (held_by new name ≡ held_by old name)
  pub known : (name : List ℕ) → is_known new name ≡ (is_known old name || bytes_eq name did)
  pub came : step ≡ step_of (held_by new did)

-- all is as it was
pub record IsSame (old new : Mirror) : Type 0 where
  pub last : new.last ≡ old.last
  pub held : (did : List ℕ) → held_by new did ≡ held_by old did
  pub known : (did : List ℕ) → is_known new did ≡ is_known old did
