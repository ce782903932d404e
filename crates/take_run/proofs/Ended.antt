-- Hosts that have ended: what is kept of them, and steps of others.
use Rattle.std.proofs.Common.{◌≡◌, ℕ, Bool, true, false, List, [], ◌∷◌, ◌++◌, Option, Some, None, Result, Ok, Err, refl, ap, ◌∙◌, sym, subst}
use Rattle.std.specs.Prelude.{◌||◌, ◌==◌, if◌then◌else◌, nat_le}
use Rattle.std.specs.Str.{bytes_eq}
use Rattle.at_event.specs.Frames.{frame_of}
use Rattle.at_event.specs.declared.frame.Frame.{Frame}
use Rattle.at_event.specs.declared.frame.FrameFault.{FrameFault}
use Rattle.at_event.specs.declared.refusal.Refusal.{Refusal}
use Rattle.relay_row.specs.Folds.{cursor}
use Rattle.relay_row.specs.declared.row.Row.{Row}
use Rattle.relay_row.specs.declared.taken.Taken.{Taken}
use Rattle.relay_core.specs.Decide.{Checks, old_if}
use Rattle.relay_core.specs.Report.{ended_by}
use Rattle.relay_core.specs.Runs.{has_ended, skipped_by}
use Rattle.relay_core.specs.declared.decision.Pass.{Pass}
use Rattle.relay_step.specs.Steps.{Step, Decided, after_end, skipped, recorded, AreSteps, IsDecidedAs, ended_decided, ended_by_all, message_of, rows_decided}
use Rattle.store_take.specs.Batches.{is_end, messages_sent}
use Rattle.store_take.specs.Outcomes.{outcome_as, outcome_decided, skipped_outcome, taken_outcome}
use Rattle.store_take.specs.declared.message.Message.{Message}
use Rattle.store_take.specs.declared.outcome.Outcome.{Outcome}
use Rattle.take_run.specs.Said.{AreLive, ended_in, ended_said, said, said_to}
use Rattle.take_run.proofs.Names.{last_first}

-- the same hosts have ended
abbrev pub SameEnded : List (List ℕ) → List (List ℕ) → Type 0
SameEnded xs ys = (host : List ℕ) → has_ended xs host ≡ has_ended ys host

ended_one : (xs ys : List (List ℕ)) (name : List ℕ) → SameEnded xs ys → SameEnded (name ∷ xs) (name ∷ ys)
ended_one xs ys name same host = ap (λ (b : Bool). bytes_eq host name || b) (same host)

pass_same : (pass : Pass) (host : List ℕ) (xs ys : List (List ℕ)) → SameEnded xs ys → SameEnded (ended_by pass host xs) (ended_by pass host ys)
pass_same Pass.Ended host xs ys same = ended_one xs ys host same
pass_same Pass.Old host xs ys same = same
pass_same Pass.Unknown host xs ys same = same
pass_same Pass.Info host xs ys same = same

told_same : (told : Decided) (host : List ℕ) (xs ys : List (List ℕ)) → SameEnded xs ys → SameEnded (ended_decided told host xs) (ended_decided told host ys)
told_same after_end host xs ys same = same
told_same (skipped pass) host xs ys same = pass_same pass host xs ys same
told_same (recorded t) host xs ys same = same

is_told_same : (checks : Checks) (J : List Row) (xs ys : List (List ℕ)) (s : Step) (told : Decided) → SameEnded xs ys → IsDecidedAs checks J xs (message_of s) told → IsDecidedAs checks J ys (message_of s) told
is_told_same checks J xs ys s after_end same h = sym (same s.host) ∙ h
is_told_same checks J xs ys s (skipped pass) same h = (sym (same s.host) ∙ h.0, h.1)
is_told_same checks J xs ys s (recorded t) same h = (sym (same s.host) ∙ h.0, h.1, h.2)

-- steps are told by which hosts have ended, in whatever order
pub steps_same : (checks : Checks) (J : List Row) (xs ys : List (List ℕ)) (steps : List Step) → SameEnded xs ys → AreSteps checks J xs steps → AreSteps checks J ys steps
steps_same checks J xs ys [] same are = tt
steps_same checks J xs ys (s ∷ steps) same are = (
  is_told_same checks J xs ys s s.decided same are.0,
  steps_same checks (J ++ rows_decided s.decided) (ended_decided s.decided s.host xs) (ended_decided s.decided s.host ys) steps (told_same s.decided s.host xs ys same) are.1,
)

-- ---- what is said of ends

passes_alike : (p q : Pass) (host : List ℕ) (xs : List (List ℕ)) → Some p ≡ Some q → SameEnded (ended_by p host xs) (ended_by q host xs)
passes_alike p q host xs is = let same : p ≡ q = cc in λ name. ap (λ (x : Pass). has_ended (ended_by x host xs) name) same

old_alike : (b : Bool) (host : List ℕ) (xs : List (List ℕ)) (pass : Pass) → old_if b ≡ Some pass → SameEnded xs (ended_by pass host xs)
old_alike true host xs pass is = passes_alike Pass.Old pass host xs is
old_alike false host xs pass is = let no : ⊥ = cc in absurd no

end_alike : (host : List ℕ) (xs : List (List ℕ)) (pass : Pass) → Some Pass.Ended ≡ Some pass → SameEnded (xs ++ host ∷ []) (ended_by pass host xs)
end_alike host xs pass is = λ name. last_first xs host name ∙ passes_alike Pass.Ended pass host xs is name

pass_alike : (J : List Row) (host : List ℕ) (frame : Result Frame FrameFault) (pass : Pass) (xs : List (List ℕ)) → skipped_by J (host, frame) ≡ Some pass
    → SameEnded (ended_said xs (host, Some (skipped_outcome frame))) (ended_by pass host xs)
pass_alike J host (Ok (Frame.Event e)) pass xs is = old_alike (nat_le e.seq (cursor host J)) host xs pass is
pass_alike J host (Ok (Frame.Faulty seq)) pass xs is = old_alike (nat_le seq (cursor host J)) host xs pass is
pass_alike J host (Ok Frame.Info) pass xs is = passes_alike Pass.Info pass host xs is
pass_alike J host (Ok Frame.Error) pass xs is = end_alike host xs pass is
pass_alike J host (Ok Frame.Unknown) pass xs is = passes_alike Pass.Unknown pass host xs is
pass_alike J host (Err FrameFault.BadFrame) pass xs is = end_alike host xs pass is
pass_alike J host (Err FrameFault.NoSeq) pass xs is = end_alike host xs pass is
pass_alike J host (Err FrameFault.Memory) pass xs is = end_alike host xs pass is

no_end_if : (b : Bool) (n seq : ℕ) → is_end (if b then Outcome.Held n else Outcome.Event n seq) ≡ false
no_end_if true n seq = refl
no_end_if false n seq = refl

no_end : (r : Option Refusal) (t : Taken) → is_end (outcome_as r t) ≡ false
no_end None t = no_end_if (t.seq == 0) t.host_seq t.seq
no_end (Some r) t = refl

recorded_alike : (host : List ℕ) (t : Taken) (xs : List (List ℕ)) → SameEnded (ended_said xs (host, Some (taken_outcome t))) xs
recorded_alike host t xs name = ap (λ (b : Bool). has_ended (if b then xs ++ host ∷ [] else xs) name) (no_end t.refusal t)

one_alike : (checks : Checks) (J : List Row) (zs xs : List (List ℕ)) (s : Step) (told : Decided) → s.decided ≡ told → IsDecidedAs checks J zs (message_of s) told → SameEnded (ended_said xs (said_to s)) (ended_decided told s.host xs)
one_alike checks J zs xs s after_end is h name =
    ap (λ (t : Decided). has_ended (ended_said xs (s.host, outcome_decided (frame_of s.bytes) t)) name) is
one_alike checks J zs xs s (skipped pass) is h name =
    ap (λ (t : Decided). has_ended (ended_said xs (s.host, outcome_decided (frame_of s.bytes) t)) name) is ∙ pass_alike J s.host (frame_of s.bytes) pass xs h.1 name
one_alike checks J zs xs s (recorded t) is h name =
    ap (λ (t : Decided). has_ended (ended_said xs (s.host, outcome_decided (frame_of s.bytes) t)) name) is ∙ recorded_alike s.host t xs name

-- what is said of steps ends the same hosts
pub ends_alike : (checks : Checks) (J : List Row) (zs xs ys : List (List ℕ)) (steps : List Step) → SameEnded xs ys → AreSteps checks J zs steps → SameEnded (ended_in xs (said steps)) (ended_by_all steps ys)
ends_alike checks J zs xs ys [] same are = same
ends_alike checks J zs xs ys (s ∷ steps) same are =
    ends_alike checks (J ++ rows_decided s.decided) (ended_decided s.decided s.host zs) (ended_said xs (said_to s)) (ended_decided s.decided s.host ys) steps
    (λ name. one_alike checks J zs xs s s.decided refl are.0 name ∙ told_same s.decided s.host xs ys same name) are.1

-- ---- steps of hosts that haven't ended

behind_ended : (xs ys : List (List ℕ)) (host : List ℕ) → has_ended ys host ≡ false → has_ended (xs ++ ys) host ≡ has_ended xs host
behind_ended [] ys host not = not
behind_ended (x ∷ xs) ys host not = ap (λ (b : Bool). bytes_eq host x || b) (behind_ended xs ys host not)

pass_behind : (pass : Pass) (host : List ℕ) (xs ys : List (List ℕ)) → ended_by pass host (xs ++ ys) ≡ ended_by pass host xs ++ ys
pass_behind Pass.Ended host xs ys = refl
pass_behind Pass.Old host xs ys = refl
pass_behind Pass.Unknown host xs ys = refl
pass_behind Pass.Info host xs ys = refl

told_behind : (told : Decided) (host : List ℕ) (xs ys : List (List ℕ)) → ended_decided told host (xs ++ ys) ≡ ended_decided told host xs ++ ys
told_behind after_end host xs ys = refl
told_behind (skipped pass) host xs ys = pass_behind pass host xs ys
told_behind (recorded t) host xs ys = refl

is_told_behind : (checks : Checks) (J : List Row) (xs ys : List (List ℕ)) (s : Step) (told : Decided) → has_ended ys s.host ≡ false → IsDecidedAs checks J xs (message_of s) told → IsDecidedAs checks J (xs ++ ys) (message_of s) told
is_told_behind checks J xs ys s after_end not h = behind_ended xs ys s.host not ∙ h
is_told_behind checks J xs ys s (skipped pass) not h = (behind_ended xs ys s.host not ∙ h.0, h.1)
is_told_behind checks J xs ys s (recorded t) not h = (behind_ended xs ys s.host not ∙ h.0, h.1, h.2)

steps_behind : (checks : Checks) (J : List Row) (xs ys : List (List ℕ)) (steps : List Step) (others : List Message) → AreLive ys (messages_sent steps ++ others) → AreSteps checks J xs steps → AreSteps checks J (xs ++ ys) steps
steps_behind checks J xs ys [] others live are = tt
steps_behind checks J xs ys (s ∷ steps) others live are = (
  is_told_behind checks J xs ys s s.decided live.0 are.0,
  subst (λ (e : List (List ℕ)). AreSteps checks (J ++ rows_decided s.decided) e steps) (sym (told_behind s.decided s.host xs ys))
      (steps_behind checks (J ++ rows_decided s.decided) (ended_decided s.decided s.host xs) ys steps others live.1 are.1),
)

-- steps of hosts none of which has ended are steps where others have
pub live_steps : (checks : Checks) (J : List Row) (ended : List (List ℕ)) (group : List Message) (steps : List Step) (others : List Message) → AreLive ended group → group ≡ messages_sent steps ++ others → AreSteps checks J [] steps
    → AreSteps checks J ended steps
live_steps checks J ended group steps others live front are = steps_behind checks J [] ended steps others (subst (AreLive ended) front live) are
