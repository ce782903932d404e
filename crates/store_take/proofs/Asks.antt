-- What steps ask, one after another.
use Rattle.std.proofs.Common.{◌≡◌, inl, ℕ, List, [], ◌∷◌, ◌++◌, Bool, true, false, Option, Some, None, Result, Ok, Err, refl, sym, ap, ◌∙◌, subst, arith, append_assoc}
use Rattle.std.proofs.lemmas.List.{append-nil}
use Rattle.std.specs.Prelude.{IsTrue}
use Rattle.at_authority.specs.Calls.{Call, AreCalls}
use Rattle.at_authority.specs.Panels.{Panel}
use Rattle.at_event.specs.Refusals.{code_of}
use Rattle.at_event.specs.Frames.{frame_of}
use Rattle.at_event.specs.declared.frame.Frame.{Frame}
use Rattle.at_event.specs.declared.frame.FrameFault.{FrameFault}
use Rattle.at_event.specs.declared.refusal.Refusal.{Refusal}
use Rattle.relay_row.specs.Rules.{loses}
use Rattle.relay_row.specs.declared.row.Row.{Row}
use Rattle.account_state.specs.Folds.{account, last_rev}
use Rattle.relay_core.specs.Decide.{Found}
use Rattle.relay_core.specs.Shown.{found_in, or_zero}
use Rattle.relay_step.specs.Around.{Around, OneAsked, AskedNothing, AllAsked, IsTimed, SameRepositories}
use Rattle.relay_step.specs.Asked.{step_calls}
use Rattle.relay_step.specs.Causes.{AskedInVainOf, CameToNothing}
use Rattle.relay_step.specs.Fetching.{IsFetched, IsFetchedAs, IsFetchedTold, told_where}
use Rattle.relay_io.specs.Choices.{WhereElse}
use Rattle.relay_step.specs.Steps.{Step, Decided, after_end, skipped, recorded, rows, rows_decided}
use Rattle.store_take.specs.Batches.{InVain}
use Rattle.store_take.specs.declared.message.Message.{Message}

pub nothing_here : (clock_tells repos_tell : Bool) (a : Around) → AskedNothing clock_tells repos_tell a a
nothing_here clock_tells repos_tell a = record { panel = refl; moments = λ tells. refl; same = λ tells did. refl }

nothing_after : (clock_tells repos_tell : Bool) (a b c : Around) → AskedNothing clock_tells repos_tell a b → AskedNothing clock_tells repos_tell b c → AskedNothing clock_tells repos_tell a c
nothing_after clock_tells repos_tell a b c one two = record {
  panel = two.panel ∙ one.panel;
  moments = λ tells. two.moments tells ∙ one.moments tells;
  same = λ tells did. two.same tells did ∙ one.same tells did;
}

-- what was fetched of repositories that tell the same
fetched_for : (tells : Bool) (old mid : List ℕ → Option (List ℕ)) (J : List Row) (did : List ℕ) (refusal : Option Refusal) (moment : ℕ) (f : Found) (calls : List Call) → (IsTrue tells → SameRepositories old mid) → IsFetched tells mid J did refusal moment f calls
    → IsFetched tells old J did refusal moment f calls
fetched_for tells old mid J did None moment f calls same fetched = fetched
fetched_for tells old mid J did (Some r) moment f calls same fetched =
    let told : told_where tells (mid did) ≡ told_where tells (old did) = told_same tells same in
    subst (λ (o : Option (Option (List ℕ))). WhereElse (loses (code_of r)) (IsFetchedAs o did (last_rev (account did J).repo) moment f calls) (calls ≡ [])) told fetched
  where
    told_same : (b : Bool) → (IsTrue b → SameRepositories old mid) → told_where b (mid did) ≡ told_where b (old did)
    told_same true same = ap Some (same refl did)
    told_same false same = refl

fetched_from : (tells : Bool) (old mid : List ℕ → Option (List ℕ)) (J : List Row) (told : Decided) (calls : List Call) → (IsTrue tells → SameRepositories old mid) → IsFetchedTold tells mid J told calls → IsFetchedTold tells old J told calls
fetched_from tells old mid J after_end calls same fetched = fetched
fetched_from tells old mid J (skipped pass) calls same fetched = fetched
fetched_from tells old mid J (recorded t) calls same fetched = fetched_for tells old mid J t.did t.refusal (or_zero t.moment) (found_in t.fetched) calls same fetched

-- what was asked behind nothing
asked_from : (clock_tells repos_tell : Bool) (J : List Row) (a b c : Around) (s : Step) → AskedNothing clock_tells repos_tell a b → OneAsked clock_tells repos_tell J b s c → OneAsked clock_tells repos_tell J a s c
asked_from clock_tells repos_tell J a b c s none asked = record {
  fetch = asked.fetch;
  fetched = fetched_from repos_tell a.repository b.repository J s.decided asked.fetch none.same asked.fetched;
  made = subst (λ (p : Panel). AreCalls p (step_calls s.host (frame_of s.bytes) s.decided asked.fetch) c.panel) none.panel asked.made;
  timed = λ tells. subst (λ (m : List ℕ). IsTimed m s.decided c.moments) (none.moments tells) (asked.timed tells);
  same = λ tells did. asked.same tells did ∙ none.same tells did;
}

all_from : (clock_tells repos_tell : Bool) (J : List Row) (a b c : Around) (steps : List Step) → AskedNothing clock_tells repos_tell a b → AllAsked clock_tells repos_tell J b steps c → AllAsked clock_tells repos_tell J a steps c
all_from clock_tells repos_tell J a b c [] none asked = nothing_after clock_tells repos_tell a b c none asked
all_from clock_tells repos_tell J a b c (s ∷ steps) none asked = (asked.0, asked_from clock_tells repos_tell J a b asked.0 s none asked.1, asked.2)

pub all_joined : (clock_tells repos_tell : Bool) (J : List Row) (a b c : Around) (steps others : List Step) → AllAsked clock_tells repos_tell J a steps b → AllAsked clock_tells repos_tell (J ++ rows steps) b others c
    → AllAsked clock_tells repos_tell J a (steps ++ others) c
all_joined clock_tells repos_tell J a b c [] others one two =
    all_from clock_tells repos_tell J a b c others one (subst (λ (j : List Row). AllAsked clock_tells repos_tell j b others c) (append-nil J) two)
all_joined clock_tells repos_tell J a b c (s ∷ steps) others one two = (
  one.0,
  one.1,
  all_joined clock_tells repos_tell (J ++ rows_decided s.decided) one.0 b c steps others one.2
      (subst (λ (j : List Row). AllAsked clock_tells repos_tell j b others c) (sym (append_assoc J (rows_decided s.decided) (rows steps))) two),
)

pub all_one : (clock_tells repos_tell : Bool) (J : List Row) (a b c : Around) (steps : List Step) (s : Step) → AllAsked clock_tells repos_tell J a steps b → OneAsked clock_tells repos_tell (J ++ rows steps) b s c
    → AllAsked clock_tells repos_tell J a (steps ++ s ∷ []) c
all_one clock_tells repos_tell J a b c steps s one asked = all_joined clock_tells repos_tell J a b c steps (s ∷ []) one (c, asked, nothing_here clock_tells repos_tell c)

no_calls : (p : Panel) (frame : Result Frame FrameFault) → AskedInVainOf p frame p
no_calls p (Ok (Frame.Event e)) = record { calls = []; about = tt; once = omega arith; made = refl }
no_calls p (Ok (Frame.Faulty seq)) = refl
no_calls p (Ok Frame.Info) = refl
no_calls p (Ok Frame.Error) = refl
no_calls p (Ok Frame.Unknown) = refl
no_calls p (Err fault) = refl

no_vain : (p : Panel) (behind : List Message) → InVain behind p p
no_vain p [] = refl
no_vain p (m ∷ behind) = no_calls p (frame_of m.bytes)

pub nothing_in_vain : (clock_tells repos_tell : Bool) (a b : Around) (behind : List Message) → AskedNothing clock_tells repos_tell a b → CameToNothing clock_tells repos_tell (InVain behind a.panel b.panel) a b
nothing_in_vain clock_tells repos_tell a b behind none = record {
  judges = subst (λ (p : Panel). InVain behind a.panel p) (sym none.panel) (no_vain a.panel behind);
  moments = λ tells. inl (none.moments tells);
  same = none.same;
}
