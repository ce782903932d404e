-- A ready commit is accepted where its home and its signature are good.
use Rattle.std.proofs.Common.{◌≡◌, Bool, true, false, not, [], ◌∷◌, Option, Some, None, Result, Ok, refl, ap, ◌∙◌, cond}
use Rattle.std.specs.Prelude.{nat_lt}
use Rattle.at_event.specs.Writing.{out_length}
use Rattle.at_event.specs.declared.event.Body.{Body}
use Rattle.at_event.specs.declared.head.Head.{Head}
use Rattle.at_event.specs.declared.refusal.Refusal.{Refusal}
use Rattle.account_state.specs.Folds.{account, last_rev}
use Rattle.relay_core.specs.Decide.{first_refusal, body_refusals, is_ahead, refusal_in, when}
use Rattle.relay_core.specs.Laws.{ReadyDecides}
use Rattle.relay_core.specs.declared.limits.TheConstants.{LONGEST_MESSAGE}
use Rattle.relay_core.proofs.Showing.{table}

by_home : (home good : Bool) → table None home None None None None good (None ∷ []) ≡ cond home (cond good None (Some Refusal.BadSignature)) (Some Refusal.NotHome)
by_home true true = refl
by_home true false = refl
by_home false good = refl

table_free : (l i d u : Bool) (opened : Result Head Refusal) (linked : Option Refusal) (head : Head) (home good : Bool) → l ≡ false → i ≡ true → d ≡ false → opened ≡ Ok head → u ≡ false → linked ≡ None
    → table (when l Refusal.TooLong) home (when (not i) Refusal.Inactive) (when d Refusal.TakenDown) (refusal_in opened) (when u Refusal.FutureRev) good (linked ∷ [])
    ≡ cond home (cond good None (Some Refusal.BadSignature)) (Some Refusal.NotHome)
table_free l i d u opened linked head home good hl hi hd ho hu hk = rw (hl, hi, hd, ho, hu, hk) (by_home home good)

pub ready_decides : ReadyDecides
ready_decides checks J host e o ready =
    let a = account e.did J in
    ap (λ (body : Body). first_refusal (when (nat_lt LONGEST_MESSAGE (out_length e)) Refusal.TooLong ∷ body_refusals checks a e body o (Some o.moment))) ready.body
    ∙ table_free (nat_lt LONGEST_MESSAGE (out_length e)) a.active a.down (is_ahead ready.commit.rev (Some o.moment)) (checks.opens e (last_rev a.repo)) (checks.links e a.repo) ready.head o.home o.verdict
    ready.short ready.active ready.up ready.opens ready.near ready.links
