-- Answers, one after another.
use Rattle.std.proofs.Common.{◌≡◌, ◌⊎◌, ⊎_elim, ◌<◌, ◌≤◌, ℕ, ◌+◌, List, [], ◌∷◌, ◌++◌, length, drop, get_or, map, suc, zero, Some, refl, ap, ◌∙◌, sym, subst, arith, append_assoc, length-append}
use Rattle.std.proofs.lemmas.List.{append-nil, drop_all}
use Rattle.relay_step.specs.Steps.{Step}
use Rattle.store_take.specs.Batches.{HasEnd, messages_sent}
use Rattle.store_take.specs.Lines.{line_of}
use Rattle.store_take.specs.Outcomes.{outcome_of}
use Rattle.store_take.specs.declared.message.Message.{Message}
use Rattle.store_take.specs.declared.outcome.Outcome.{Outcome}
use Rattle.take_run.specs.declared.tally.Tally.{Tally}
use Rattle.take_run.specs.Said.{Said, IsNoted, answered, ended_in, ended_said, given, line_said, refused, said, text_of}

pub text_joined : (x y : List Said) → text_of (x ++ y) ≡ text_of x ++ text_of y
text_joined [] y = refl
text_joined (a ∷ x) y = ap (λ (l : List ℕ). line_said a ++ l) (text_joined x y) ∙ sym (append_assoc (line_said a) (text_of x) (text_of y))

pub ended_joined : (ended : List (List ℕ)) (x y : List Said) → ended_in ended (x ++ y) ≡ ended_in (ended_in ended x) y
ended_joined ended [] y = refl
ended_joined ended (a ∷ x) y = ended_joined (ended_said ended a) x y

pub given_joined : (x y : List Said) → given (x ++ y) ≡ given x + given y
given_joined [] y = omega arith
given_joined (a ∷ x) y = omega (arith, given_joined x y)

pub refused_joined : (x y : List Said) → refused (x ++ y) ≡ refused x + refused y
refused_joined [] y = omega arith
refused_joined (a ∷ x) y = omega (arith, refused_joined x y)

pub noted_none : (t : Tally) → IsNoted [] t t
noted_none t = record { ends = refl; messages = omega arith; events = omega arith; refused = omega arith }

pub noted_more : (x y : List Said) (a b c : Tally) → IsNoted x a b → IsNoted y b c → IsNoted (x ++ y) a c
noted_more x y a b c one two = record {
  ends = two.ends ∙ ap (λ (e : List (List ℕ)). ended_in e y) one.ends ∙ sym (ended_joined a.ended.items x y);
  messages = omega (arith, one.messages, two.messages, length-append x y);
  events = omega (arith, one.events, two.events, given_joined x y);
  refused = omega (arith, one.refused, two.refused, refused_joined x y);
}

-- the answers to what is left
left_answers : (group : List Message) (outcomes : List Outcome) (i : ℕ) (m : Message) (o : Outcome) → i < length group → i < length outcomes
    → answered (drop i group) (drop i outcomes) ≡ ((get_or group i m).host, Some (get_or outcomes i o)) ∷ answered (drop (suc i) group) (drop (suc i) outcomes)
left_answers [] outcomes i m o below few = absurd (omega (arith, below))
left_answers (x ∷ group) [] i m o below few = absurd (omega (arith, few))
left_answers (x ∷ group) (p ∷ outcomes) zero m o below few = refl
left_answers (x ∷ group) (p ∷ outcomes) (suc i) m o below few = left_answers group outcomes i m o (omega (arith, below)) (omega (arith, few))

no_answers : (group : List Message) (outcomes : List Outcome) (i : ℕ) → length outcomes ≤ i → answered (drop i group) (drop i outcomes) ≡ []
no_answers group outcomes i past = ap (λ (l : List Outcome). answered (drop i group) l) (drop_all i outcomes past)

-- one more answer is noted
module _ (group : List Message) (outcomes : List Outcome) (i : ℕ) (m : Message) (o : Outcome) (host : List ℕ) (below : i < length group) (few : i < length outcomes) (host_is : host ≡ (get_or group i m).host) (outcome_is : get_or outcomes i o ≡ o) where
  one_left : answered (drop i group) (drop i outcomes) ≡ (host, Some o) ∷ answered (drop (i + 1) group) (drop (i + 1) outcomes)
  one_left =
      let next : suc i ≡ i + 1 = omega arith in
      left_answers group outcomes i m o below few
      ∙ (λ j. (sym host_is j, Some (outcome_is j)) ∷ answered (drop (next j) group) (drop (next j) outcomes))

  pub note_one : (whole : List Said) (a b c : Tally) → ((new : Tally) → IsNoted (answered (drop i group) (drop i outcomes)) b new → IsNoted whole a new) → IsNoted ((host, Some o) ∷ []) b c
      → (new : Tally) → IsNoted (answered (drop (i + 1) group) (drop (i + 1) outcomes)) c new → IsNoted whole a new
  note_one whole a b c so_far one new rest =
      so_far new (subst (λ (l : List Said). IsNoted l b new) (sym one_left) (noted_more ((host, Some o) ∷ []) (answered (drop (i + 1) group) (drop (i + 1) outcomes)) b c new one rest))

  pub text_one : (whole t u : List ℕ) → t ++ text_of (answered (drop i group) (drop i outcomes)) ≡ whole → u ≡ t ++ line_of host o → u ++ text_of (answered (drop (i + 1) group) (drop (i + 1) outcomes)) ≡ whole
  text_one whole t u so_far one =
      ap (λ (l : List ℕ). l ++ text_of (answered (drop (i + 1) group) (drop (i + 1) outcomes))) one
      ∙ append_assoc t (line_of host o) (text_of (answered (drop (i + 1) group) (drop (i + 1) outcomes)))
      ∙ ap (λ (l : List Said). t ++ text_of l) (sym one_left) ∙ so_far

-- all are noted
pub note_all_of : (group : List Message) (outcomes : List Outcome) (i : ℕ) (whole : List Said) (a b : Tally) → length outcomes ≤ i
    → ((new : Tally) → IsNoted (answered (drop i group) (drop i outcomes)) b new → IsNoted whole a new) → IsNoted whole a b
note_all_of group outcomes i whole a b past so_far = so_far b (subst (λ (l : List Said). IsNoted l b b) (sym (no_answers group outcomes i past)) (noted_none b))

pub text_all_of : (group : List Message) (outcomes : List Outcome) (i : ℕ) (whole t : List ℕ) → length outcomes ≤ i → t ++ text_of (answered (drop i group) (drop i outcomes)) ≡ whole → t ≡ whole
text_all_of group outcomes i whole t past so_far = sym (append-nil t) ∙ ap (λ (l : List Said). t ++ text_of l) (sym (no_answers group outcomes i past)) ∙ so_far

-- the answers to steps are what is said to them
pub answered_said : (steps : List Step) (others : List Message) (outcomes : List Outcome) → map Some outcomes ≡ map outcome_of steps → answered (messages_sent steps ++ others) outcomes ≡ said steps
answered_said [] [] [] is = refl
answered_said [] (m ∷ others) [] is = refl
answered_said [] others (o ∷ outcomes) is = let no : ⊥ = cc in absurd no
answered_said (s ∷ steps) others [] is = let no : ⊥ = cc in absurd no
answered_said (s ∷ steps) others (o ∷ outcomes) is =
    let head : Some o ≡ outcome_of s = cc in
    let rest : map Some outcomes ≡ map outcome_of steps = cc in
    (λ i. (s.host, head i) ∷ answered_said steps others outcomes rest i)

-- unless a fault came, some message has an outcome
pub some_answered : (group : List Message) (outcomes : List Outcome) → 1 ≤ length group → (length outcomes ≡ length group) ⊎ HasEnd outcomes → 1 ≤ length outcomes
some_answered group outcomes some all = ⊎_elim
    (λ each. omega (arith, some, each))
    (λ end. omega (arith, ap length end.2, length-append end.0 (end.1 ∷ [])))
    all

pub answered_few : (group : List Message) (outcomes : List Outcome) → (length (answered group outcomes) ≤ length group) × (length (answered group outcomes) ≤ length outcomes)
answered_few group [] = (omega arith, omega arith)
answered_few [] (o ∷ outcomes) = (omega arith, omega arith)
answered_few (m ∷ group) (o ∷ outcomes) = let few = answered_few group outcomes in (omega (arith, few.0), omega (arith, few.1))
