use Rattle.std.proofs.Common.{◌≡◌, ◌≤◌, ◌<◌, List, ℕ, zero, suc, take, length, refl, subst, arith, length-take}
use Rattle.take_run.specs.Said.{AreLive, FirstHasEnded}
use Rattle.take_run.proofs.Living.{first_since, live_since, since_is}
use Rattle.take_run.proofs.live.live_still.Goals as goal

not_none : (n : ℕ) → (n ≡ 0 → ⊥) → 0 < n
not_none zero not = absurd (not refl)
not_none (suc n) not = omega arith

pub returns-clause-live : goal.returns-clause-live
returns-clause-live c =
    let ended = c.args.tally.now.ended.items in
    let front = take c.args.known c.args.group.now in
    let since = since_is c.as_slice.result.now ended c.args.before c.as_slice.ensures.value in
    let within : c.front_without.result ≤ c.args.known = omega (arith, c.front_without.ensures.within, length-take c.args.known c.args.group.now) in
    live_since ended c.args.before c.args.group.now c.args.known c.front_without.result within c.requires.live
    (subst (λ (e : List (List ℕ)). AreLive e (take c.front_without.result front)) since c.front_without.ensures.live)

pub returns-clause-ended : goal.returns-clause-ended
returns-clause-ended c = λ some none.
    let ended = c.args.tally.now.ended.items in
    let front = take c.args.known c.args.group.now in
    let since = since_is c.as_slice.result.now ended c.args.before c.as_slice.ensures.value in
    let any : 0 < length front = omega (arith, c.requires.known, length-take c.args.known c.args.group.now, not_none c.args.known c.if-known-eq0.false) in
    first_since ended c.args.before c.args.group.now c.args.known (subst (λ (e : List (List ℕ)). FirstHasEnded e front) since (c.front_without.ensures.ended any none))
