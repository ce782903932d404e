-- With every question answered, going down the table and taking the first refusal are one, and so are their rows.
use Rattle.std.proofs.Common.{◌≡◌, ℕ, ◌+◌, Bool, true, false, not, List, [], ◌∷◌, Option, Some, None, refl, ap, ◌∙◌, sym, cond}
use Rattle.std.specs.Prelude.{nat_le, nat_lt}
use Rattle.at_event.specs.Seen.{Seen}
use Rattle.at_event.specs.Refusals.{code_of}
use Rattle.at_event.specs.Writing.{out_length, out_of}
use Rattle.at_event.specs.declared.event.Body.{Body}
use Rattle.at_event.specs.declared.frame.Frame.{Frame}
use Rattle.at_event.specs.declared.refusal.Refusal.{Refusal}
use Rattle.relay_row.specs.Rules.{loses}
use Rattle.relay_row.specs.declared.row.Row.{Row}
use Rattle.relay_row.specs.declared.taken.Taken.{Taken}
use Rattle.account_state.specs.State.{State}
use Rattle.relay_core.specs.Answering.{answers, as_result, decision_for, event_taken}
use Rattle.relay_core.specs.Decide.{Checks, Outside, Found, absent, unfit, found, fetched_as, first_refusal, repo_refusals, body_refusals, refusal_of, is_found, is_held, event_row, decided_event, refusal_in, when}
use Rattle.relay_core.specs.Laws.{NextDecides}
use Rattle.relay_core.specs.Rows.{kind_number}
use Rattle.relay_core.specs.Table.{TableLine, told, asked, Walk, refuses, passes, walk, walk_past, next_at, next_of, after_fetch, event_lines, body_lines}
use Rattle.relay_core.specs.declared.decision.Next.{Next}
use Rattle.relay_core.specs.declared.limits.TheConstants.{LONGEST_MESSAGE}

IsAnswered : TableLine → Type 0
IsAnswered (told o) = Unit {0}
IsAnswered (asked q None) = ⊥
IsAnswered (asked q (Some o)) = Unit {0}

AreAnswered : List TableLine → Type 0
AreAnswered [] = Unit {0}
AreAnswered (line ∷ lines) = IsAnswered line × AreAnswered lines

condition : TableLine → Option Refusal
condition (told o) = o
condition (asked q None) = None
condition (asked q (Some o)) = o

conditions : List TableLine → List (Option Refusal)
conditions [] = []
conditions (line ∷ lines) = condition line ∷ conditions lines

ended : Option Refusal → Walk
ended None = passes
ended (Some r) = refuses r

past_ended : (o : Option Refusal) (others : List (Option Refusal)) → walk_past o (ended (first_refusal others)) ≡ ended (first_refusal (o ∷ others))
unfolding ended
past_ended None others = refl
past_ended (Some r) others = refl

walk_first : (lines : List TableLine) → AreAnswered lines → walk lines ≡ ended (first_refusal (conditions lines))
unfolding ended AreAnswered IsAnswered condition conditions
walk_first [] h = refl
walk_first (told o ∷ lines) h = ap (walk_past o) (walk_first lines h.1) ∙ past_ended o (conditions lines)
walk_first (asked q None ∷ lines) h = absurd h.0
walk_first (asked q (Some o) ∷ lines) h = ap (walk_past o) (walk_first lines h.1) ∙ past_ended o (conditions lines)

body_answered : (checks : Checks) (n : ℕ) (a : State) (e : Seen) (o : Outside) (body : Body) → AreAnswered (body_lines a body (answers checks n a e o))
unfolding AreAnswered IsAnswered
body_answered checks n a e o (Body.Commit c) = (tt, (tt, (tt, (tt, (tt, (tt, (tt, tt)))))))
body_answered checks n a e o (Body.Sync s) = (tt, (tt, (tt, (tt, (tt, (tt, tt))))))
body_answered checks n a e o Body.Identity = (tt, (tt, (tt, tt)))
body_answered checks n a e o (Body.Account b) = (tt, tt)

linked_back : (o : Option Refusal) → refusal_in (as_result o) ≡ o
linked_back None = refl
linked_back (Some r) = refl

body_first : (checks : Checks) (n : ℕ) (a : State) (e : Seen) (o : Outside) (body : Body) → first_refusal (conditions (body_lines a body (answers checks n a e o))) ≡ first_refusal (body_refusals checks a e body o (Some o.moment))
unfolding condition conditions
body_first checks n a e o (Body.Commit c) = ap (λ (k : Option Refusal). first_refusal (repo_refusals checks a e c.rev o (Some o.moment) (k ∷ []))) (linked_back (checks.links e a.repo))
body_first checks n a e o (Body.Sync s) = refl
body_first checks n a e o Body.Identity = refl
body_first checks n a e o (Body.Account b) = refl

later_same : (o : Option Refusal) (these those : List (Option Refusal)) → first_refusal these ≡ first_refusal those → first_refusal (o ∷ these) ≡ first_refusal (o ∷ those)
later_same None these those h = h
later_same (Some r) these those h = refl

walk_event : (checks : Checks) (n : ℕ) (a : State) (e : Seen) (o : Outside) → walk (event_lines a e (answers checks n a e o)) ≡ ended (refusal_of checks a e o)
unfolding AreAnswered IsAnswered condition conditions
walk_event checks n a e o =
    let long = when (nat_lt LONGEST_MESSAGE (out_length e)) Refusal.TooLong in
    let lines = body_lines a e.body (answers checks n a e o) in
    walk_first (event_lines a e (answers checks n a e o)) (tt, (tt, body_answered checks n a e o e.body))
    ∙ ap ended (later_same long (conditions lines) (body_refusals checks a e e.body o (Some o.moment)) (body_first checks n a e o e.body))

found_done : (n : ℕ) (e : Seen) (r : Refusal) (f : Found) → after_fetch r (Some (fetched_as n e f)) ≡ Next.Done (record { refusal = Some r; held = false; gives = is_found f })
found_done n e r absent = refl
found_done n e r (unfit i) = refl
found_done n e r (found head records block) = refl

done_decided : (n : ℕ) (a : State) (e : Seen) (body : Body) (f : Found) (o : Option Refusal) → next_at (ended o) a body (Some (fetched_as n e f)) ≡ Next.Done (decision_for a body f o)
unfolding ended
done_decided n a e body f None = refl
done_decided n a e body f (Some r) =
    elim (loses (code_of r)) as (λ b. cond b (after_fetch r (Some (fetched_as n e f))) (Next.Done (record { refusal = Some r; held = false; gives = false }))
    ≡ Next.Done (record { refusal = Some r; held = false; gives = cond b (is_found f) false })) [ true ↦ found_done n e r f | false ↦ refl ]

-- with all answers, what comes next is the decision of the first refusal
pub next_decided : (checks : Checks) (n cursor : ℕ) (a : State) (e : Seen) (o : Outside) → nat_le e.seq cursor ≡ false
    → next_of cursor a (Frame.Event e) (answers checks n a e o) ≡ Next.Done (decision_for a e.body o.fetched (refusal_of checks a e o))
next_decided checks n cursor a e o later =
    rw later (ap (λ (w : Walk). next_at w a e.body (Some (fetched_as n e o.fetched))) (walk_event checks n a e o) ∙ done_decided n a e e.body o.fetched (refusal_of checks a e o))

unless_held : {A : Type 0} (held : Bool) (x y : A) → cond (not held) x y ≡ cond held y x
unless_held true x y = refl
unless_held false x y = refl

-- the row that is made of the decision of a first refusal is the row of that refusal
pub row_decided : (checks : Checks) (n : ℕ) (a : State) (host : List ℕ) (e : Seen) (o : Outside) (q : Option Refusal)
    → event_taken n host e (decision_for a e.body o.fetched q) (answers checks n a e o) ≡ event_row checks n a host e o (Some o.moment) q
row_decided checks n a host e o None =
    let seq = unless_held (is_held a e.body) (n + 1) 0 in
    let message = unless_held (is_held a e.body) (out_of e (n + 1)) [] in cc
row_decided checks n a host e o (Some r) = refl

-- the row that is decided of an event, by the answers to all questions
pub decided_as : (checks : Checks) (n : ℕ) (a : State) (host : List ℕ) (e : Seen) (o : Outside)
    → decided_event checks n a host e o ≡ event_taken n host e (decision_for a e.body o.fetched (refusal_of checks a e o)) (answers checks n a e o)
decided_as checks n a host e o = sym (row_decided checks n a host e o (refusal_of checks a e o))

pub next_decides : NextDecides
next_decides checks n cursor a host e o later = (
  next_decided checks n cursor a e o later,
  ap (λ (t : Taken). Some (Row.Taken t)) (row_decided checks n a host e o (refusal_of checks a e o)),
)

-- what the row of an event tells, whether it is accepted or refused
pub record TellsOf (t : Taken) (sender : List ℕ) (e : Seen) (q : Option Refusal) (time : Option ℕ) : Type 0 where
  pub host : t.host ≡ sender
  pub seq : t.host_seq ≡ e.seq
  pub did : t.did ≡ e.did
  pub kind : t.kind ≡ kind_number e.body
  pub refusal : t.refusal ≡ q
  pub moment : t.moment ≡ time

pub event_told : (checks : Checks) (n : ℕ) (a : State) (host : List ℕ) (e : Seen) (o : Outside) (moment : Option ℕ) (q : Option Refusal) → TellsOf (event_row checks n a host e o moment q) host e q moment
event_told checks n a host e o moment None = record { host = refl; seq = refl; did = refl; kind = refl; refusal = refl; moment = refl }
event_told checks n a host e o moment (Some r) = record { host = refl; seq = refl; did = refl; kind = refl; refusal = refl; moment = refl }
