-- What steps ask of the parts that are handed in: judges, a clock and repositories (own).
use Rattle.std.specs.Prelude.{◌≡◌, ℕ, Bool, List, [], ◌∷◌, ◌++◌, Option, Some, Result, IsTrue}
use Rattle.at_authority.specs.Calls.{Call, AreCalls}
use Rattle.at_authority.specs.Panels.{Panel}
use Rattle.at_event.specs.Frames.{frame_of}
use Rattle.at_event.specs.declared.frame.Frame.{Frame}
use Rattle.at_event.specs.declared.frame.FrameFault.{FrameFault}
use Rattle.relay_io.specs.Moments.{first_moment, later_moments}
use Rattle.relay_row.specs.declared.row.Row.{Row}
use Rattle.relay_step.specs.Asked.{step_calls}
use Rattle.relay_step.specs.Fetching.{IsFetchedTold}
use Rattle.relay_step.specs.Steps.{Decided, after_end, skipped, recorded, Step, rows_decided}
use Rattle.relay_step.specs.declared.asked.Asked.{Asked}

-- what the parts tell: the authorities of each method, the moments to come, and each DID's
-- repository
pub record Around : Type 0 where
  pub panel : Panel
  pub moments : List ℕ
  pub repository : List ℕ → Option (List ℕ)

abbrev pub around : Panel → List ℕ → (List ℕ → Option (List ℕ)) → Around
around panel moments repository = record {
  panel = panel;
  moments = moments;
  repository = repository;
}

-- what those tell who are asked
abbrev pub around_of : {P R C : Type 0} → (P → Panel) → (C → List ℕ)
    → (R → List ℕ → Option (List ℕ)) → Asked P R C → Around
around_of panel moments repository a =
    around (panel a.judges.now) (moments a.clock.now) (repository a.repos.now)

-- the same who are asked
pub record SameAsked {P R C : Type 0} (old new : Asked P R C) : Type 0 where
  pub judges : new.judges.ghost_name ≡ old.judges.ghost_name
  pub repos : new.repos.ghost_name ≡ old.repos.ghost_name
  pub clock : new.clock.ghost_name ≡ old.clock.ghost_name

-- a step that makes a row takes one moment, and keeps it; one that makes none takes none
abbrev pub IsTimed : List ℕ → Decided → List ℕ → Type 0
IsTimed moments after_end left = left ≡ moments
IsTimed moments (skipped pass) left = left ≡ moments
IsTimed moments (recorded t) left = (t.moment ≡ Some (first_moment moments))
    × (left ≡ later_moments moments)

abbrev pub SameRepositories : (List ℕ → Option (List ℕ)) → (List ℕ → Option (List ℕ)) → Type 0
SameRepositories old new = (did : List ℕ) → new did ≡ old did

-- What a host's message, as it reads, asked behind the journal J where this came of it: of the
-- judges, of the clock where it tells, and of the repositories.
pub record AskedOf (clock_tells repos_tell : Bool) (J : List Row) (old : Around) (host : List ℕ)
    (frame : Result Frame FrameFault) (told : Decided) (new : Around) : Type 0 where
  -- the calls of the judges for its fetch, and what that found
  pub fetch : List Call
  pub fetched : IsFetchedTold repos_tell old.repository J told fetch
  pub made : AreCalls old.panel (step_calls host frame told fetch) new.panel
  pub timed : IsTrue clock_tells → IsTimed old.moments told new.moments
  pub same : IsTrue repos_tell → SameRepositories old.repository new.repository

-- What one step behind the journal J asked, and was told.
abbrev pub OneAsked : Bool → Bool → List Row → Around → Step → Around → Type 0
OneAsked clock_tells repos_tell J old s new =
    AskedOf clock_tells repos_tell J old s.host (frame_of s.bytes) s.decided new

-- nothing was asked
pub record AskedNothing (clock_tells repos_tell : Bool) (old new : Around) : Type 0 where
  pub panel : new.panel ≡ old.panel
  pub moments : IsTrue clock_tells → new.moments ≡ old.moments
  pub same : IsTrue repos_tell → SameRepositories old.repository new.repository

-- what steps behind the journal J asked, one after another
abbrev pub AllAsked : Bool → Bool → List Row → Around → List Step → Around → Type 0
AllAsked clock_tells repos_tell J old [] new = AskedNothing clock_tells repos_tell old new
AllAsked clock_tells repos_tell J old (s ∷ steps) new =
    (mid : Around) × OneAsked clock_tells repos_tell J old s mid
    × AllAsked clock_tells repos_tell (J ++ rows_decided s.decided) mid steps new
