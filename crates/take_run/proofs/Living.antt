-- The messages in front of a group whose hosts haven't ended, as hosts end.
use Rattle.std.proofs.Common.{◌≡◌, ◌≤◌, ◌<◌, ℕ, ◌+◌, ◌-◌, ◌||◌, Bool, true, false, List, [], ◌∷◌, ◌++◌, length, take, drop, get_or, zero, suc, Some, None, refl, ap, ◌∙◌, sym, subst, arith, length-append, length-drop}
use Rattle.std.specs.Prelude.{if◌then◌else◌}
use Rattle.std.proofs.lemmas.List.{take-append-drop, take-append-le, take-take, take_more, drop-drop}
use Rattle.std.proofs.Math.Seq.{take-length}
use Rattle.relay_core.specs.Runs.{has_ended}
use Rattle.store_take.specs.Batches.{is_end}
use Rattle.store_take.specs.declared.message.Message.{Message}
use Rattle.take_run.specs.Said.{Said, AreLive, FirstHasEnded, ended_in}
use Rattle.take_run.proofs.Names.{ended_parts}

-- one more
live_joined : (ended : List (List ℕ)) (group : List Message) (m : Message) → AreLive ended group → has_ended ended m.host ≡ false → AreLive ended (group ++ m ∷ [])
live_joined ended [] m live not = (not, tt)
live_joined ended (x ∷ group) m live not = (live.0, live_joined ended group m live.1 not)

pub live_more : (ended : List (List ℕ)) (group : List Message) (n : ℕ) (m : Message) (host : List ℕ) → n < length group → host ≡ (get_or group n m).host → AreLive ended (take n group) → has_ended ended host ≡ false
    → AreLive ended (take (n + 1) group)
live_more ended group n m host below is live not =
    subst (AreLive ended) (sym (take_more group n m below)) (live_joined ended (take n group) (get_or group n m) live (subst (λ (x : List ℕ). has_ended ended x ≡ false) is not))

pub first_ended : (ended : List (List ℕ)) (group : List Message) (m : Message) (host : List ℕ) → FirstHasEnded ended group → host ≡ (get_or group 0 m).host → has_ended ended host ≡ true
first_ended ended [] m host ended_first is = absurd ended_first
first_ended ended (x ∷ group) m host ended_first is = subst (λ (h : List ℕ). has_ended ended h ≡ true) (sym is) ended_first

-- fewer of them
pub live_fewer : (ended : List (List ℕ)) (group : List Message) (n : ℕ) → AreLive ended group → AreLive ended (take n group)
live_fewer ended group zero live = tt
live_fewer ended [] (suc n) live = tt
live_fewer ended (m ∷ group) (suc n) live = (live.0, live_fewer ended group n live.1)

as_many : (ended : List (List ℕ)) (group : List Message) (n m : ℕ) → n ≡ m → AreLive ended (take n group) → AreLive ended (take m group)
as_many ended group n m is are = subst (λ k. AreLive ended (take k group)) is are

-- those behind the first ones
pub live_behind : (ended : List (List ℕ)) (group : List Message) (n live : ℕ) → AreLive ended (take live group) → AreLive ended (take (live - n) (drop n group))
live_behind ended group zero live are = as_many ended group live (live - 0) (omega arith) are
live_behind ended [] (suc n) live are = live_fewer ended [] (live - suc n) tt
live_behind ended (m ∷ group) (suc n) zero are = as_many ended (drop n group) 0 (0 - suc n) (omega arith) tt
live_behind ended (m ∷ group) (suc n) (suc live) are = as_many ended (drop n group) (live - n) (suc live - suc n) (omega arith) (live_behind ended group n live are.1)

or_false : (a b : Bool) → a ≡ false → b ≡ false → (a || b) ≡ false
or_false a b first second = rw (first, second) refl

or_true : (a b : Bool) → b ≡ true → (a || b) ≡ true
or_true true b second = refl
or_true false b second = second

-- hosts that are neither among the first that have ended nor among those that have ended since
live_both : (front others : List (List ℕ)) (group : List Message) → AreLive front group → AreLive others group → AreLive (front ++ others) group
live_both front others [] one two = tt
live_both front others (m ∷ group) one two =
    (ended_parts front others m.host ∙ or_false (has_ended front m.host) (has_ended others m.host) one.0 two.0, live_both front others group one.1 two.1)

pub live_since : (ended : List (List ℕ)) (before : ℕ) (group : List Message) (known n : ℕ) → n ≤ known → AreLive (take before ended) (take known group) → AreLive (drop before ended) (take n (take known group))
    → AreLive ended (take n group)
live_since ended before group known n within was since =
    let both = live_both (take before ended) (drop before ended) (take n (take known group)) (live_fewer (take before ended) (take known group) n was) since in
    subst (λ (e : List (List ℕ)). AreLive e (take n group)) (take-append-drop before ended) (subst (AreLive (take before ended ++ drop before ended)) (take-take n known group within) both)

-- the first has, if it has since
pub first_since : (ended : List (List ℕ)) (before : ℕ) (group : List Message) (known : ℕ) → FirstHasEnded (drop before ended) (take known group) → FirstHasEnded ended group
first_since ended before [] zero first = first
first_since ended before [] (suc known) first = first
first_since ended before (m ∷ group) zero first = absurd first
first_since ended before (m ∷ group) (suc known) first =
    subst (λ (e : List (List ℕ)). has_ended e m.host ≡ true) (take-append-drop before ended)
    (ended_parts (take before ended) (drop before ended) m.host ∙ or_true (has_ended (take before ended) m.host) (has_ended (drop before ended) m.host) first)

-- the hosts that had ended stand in front of those that have ended behind an answer
pub ended_grows : (ended : List (List ℕ)) (xs : List Said) → take (length ended) (ended_in ended xs) ≡ ended
ended_grows ended xs = front_kept ended xs (length ended) (omega arith) ∙ take-length ended
  where
    front_kept : (ended : List (List ℕ)) (xs : List Said) (n : ℕ) → n ≤ length ended → take n (ended_in ended xs) ≡ take n ended
    front_kept ended [] n within = refl
    front_kept ended ((host, None) ∷ xs) n within = front_kept ended xs n within
    front_kept ended ((host, Some o) ∷ xs) n within =
        elim (is_end o) as (λ b. take n (ended_in (if b then ended ++ host ∷ [] else ended) xs) ≡ take n ended) [
          | true ↦ front_kept (ended ++ host ∷ []) xs n (omega (arith, length-append ended (host ∷ []))) ∙ take-append-le n ended (host ∷ []) within
          | false ↦ front_kept ended xs n within
        ]

-- the rest of a list, as it is taken out of a slice
pub rest_whole : {A : Type 0} (xs : List A) (n : ℕ) → take (length xs - n) (drop n xs) ≡ drop n xs
rest_whole xs n = ap (λ k. take k (drop n xs)) (sym (length-drop n xs)) ∙ take-length (drop n xs)

-- those that have ended since, as they are taken out of a slice
pub since_is : (slice ended : List (List ℕ)) (before : ℕ) → slice ≡ ended → take (length slice - before) (drop before slice) ≡ drop before ended
since_is slice ended before is = rest_whole slice before ∙ ap (drop before) is

-- what is known of the rest of a group where some messages more have been taken
pub still_known : (ended now : List (List ℕ)) (group : List Message) (done count live before known : ℕ) → before ≡ length ended → take (length ended) now ≡ ended → known ≡ live - count
    → AreLive ended (take live (drop done group)) → AreLive (take before now) (take known (take (length group - (done + count)) (drop (done + count) group)))
still_known ended now group done count live before known many front left are =
    let group_is : drop count (drop done group) ≡ take (length group - (done + count)) (drop (done + count) group) = drop-drop count done group ∙ sym (rest_whole group (done + count)) in
    let ended_is : take before now ≡ ended = ap (λ k. take k now) many ∙ front in
    subst (λ (e : List (List ℕ)). AreLive e (take known (take (length group - (done + count)) (drop (done + count) group)))) (sym ended_is)
    (subst (λ (g : List Message). AreLive ended (take known g)) group_is (subst (λ (k : ℕ). AreLive ended (take k (drop count (drop done group)))) (sym left) (live_behind ended (drop done group) count live are)))
