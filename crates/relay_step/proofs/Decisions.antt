-- What the answers so far decide, all answers decide.
use Rattle.std.proofs.Common.{◌≡◌, ◌≢◌, ℕ, ◌⊎◌, inl, inr, ⊎_elim, Bool, true, false, not, cond, List, [], ◌∷◌, Option, Some, None, Result, Ok, Err, refl, sym, ap, ◌∙◌, subst}
use Rattle.std.specs.Prelude.{nat_le, option_map}
use Rattle.std.specs.Option.{unwrap_or}
use Rattle.at_car.specs.Car.{car_of}
use Rattle.at_event.specs.Refusals.{code_of}
use Rattle.at_event.specs.Seen.{Seen}
use Rattle.at_event.specs.declared.event.Body.{Body}
use Rattle.at_event.specs.declared.frame.Frame.{Frame}
use Rattle.at_event.specs.declared.head.Head.{Head}
use Rattle.at_event.specs.declared.refusal.Refusal.{Refusal}
use Rattle.at_commit.specs.declared.commit.Commit.{Commit}
use Rattle.event_checks.specs.Opening.{CarResult}
use Rattle.event_checks.specs.Table.{car_in}
use Rattle.relay_row.specs.Rules.{loses}
use Rattle.relay_row.specs.declared.fetched.Fetched.{Fetched}
use Rattle.account_state.specs.State.{State}
use Rattle.relay_core.specs.Answering.{answers, decision_for, event_taken, fetched_of, own_effect}
use Rattle.relay_core.specs.Decide.{Checks, Outside, decided_event, refusal_of, when, is_ahead, refusal_in, is_held}
use Rattle.relay_core.specs.Opening.{IsHeadIn, IsHeadOf, OpensRight}
use Rattle.relay_core.specs.Rows.{effect_of, head_effect}
use Rattle.relay_core.specs.Table.{TableLine, told, asked, Walk, waits, refuses, passes, walk, walk_past, body_lines, event_lines, next_at, next_of, after_fetch}
use Rattle.relay_core.specs.declared.answers.Answers.{Answers}
use Rattle.relay_core.specs.declared.answers.Question.{Question}
use Rattle.relay_core.specs.declared.decision.Decision.{Decision}
use Rattle.relay_core.specs.declared.decision.Next.{Next}
use Rattle.relay_core.specs.declared.decision.Pass.{Pass}
use Rattle.relay_core.proofs.Agreeing.{decided_as, next_decided}
use Rattle.relay_law.specs.Formed.{IsOpenedAs}
use Rattle.at_event.specs.Bodies.{has_blocks}
use Rattle.relay_step.proofs.Calls.{ended}

-- ---- what is decided, by the walk

-- where an event is decided, going down the table ended, and a fetch that was due was made
pub record IsAtEnd (w : Walk) (f : Option Fetched) (d : Decision) : Type 0 where
  pub ends : w ≡ ended d.refusal
  pub fetch : (r : Refusal) → d.refusal ≡ Some r → loses (code_of r) ≡ true → f ≢ None

lost_end : (b : Bool) (r : Refusal) (f : Option Fetched) (d : Decision) → cond b (after_fetch r f) (Next.Done (record { refusal = Some r; held = false; gives = false })) ≡ Next.Done d → (d.refusal ≡ Some r) × (b ≡ true → f ≢ None)
lost_end true r None d h = absurd cc
lost_end true r (Some Fetched.NotAsked) d h = (let same : record { refusal = Some r; held = false; gives = false } ≡ d = cc in sym (ap (λ (k : Decision). k.refusal) same), λ b none. absurd cc)
lost_end true r (Some Fetched.Absent) d h = (let same : record { refusal = Some r; held = false; gives = false } ≡ d = cc in sym (ap (λ (k : Decision). k.refusal) same), λ b none. absurd cc)
lost_end true r (Some (Fetched.Refused n)) d h = (let same : record { refusal = Some r; held = false; gives = false } ≡ d = cc in sym (ap (λ (k : Decision). k.refusal) same), λ b none. absurd cc)
lost_end true r (Some (Fetched.Whole w)) d h = (let same : record { refusal = Some r; held = false; gives = true } ≡ d = cc in sym (ap (λ (k : Decision). k.refusal) same), λ b none. absurd cc)
lost_end false r f d h = (let same : record { refusal = Some r; held = false; gives = false } ≡ d = cc in sym (ap (λ (k : Decision). k.refusal) same), λ b none. absurd cc)

some_same : {A : Type 0} (x y : A) → Some x ≡ Some y → x ≡ y
some_same x y h = cc

at_end : (w : Walk) (a : State) (body : Body) (f : Option Fetched) (d : Decision) → next_at w a body f ≡ Next.Done d → IsAtEnd w f d
at_end (waits q) a body f d h = absurd cc
at_end (refuses r) a body f d h =
    let both = lost_end (loses (code_of r)) r f d h in
    record {
      ends = ap ended (sym both.0);
      fetch = λ q is loses_q. both.1 (let same : r ≡ q = some_same r q (sym both.0 ∙ is) in let P : Refusal → Type 0 = λ s. loses (code_of s) ≡ true in subst P (sym same) loses_q);
    }
at_end passes a body f d h =
    let same : record { refusal = None; held = is_held a body; gives = not (is_held a body) } ≡ d = cc in
    let none : d.refusal ≡ None = sym (ap (λ (k : Decision). k.refusal) same) in
    record { ends = ap ended (sym none); fetch = λ q is loses_q. absurd cc }

pub done_above : (cursor : ℕ) (a : State) (e : Seen) (x : Answers) (d : Decision) → next_of cursor a (Frame.Event e) x ≡ Next.Done d → (nat_le e.seq cursor ≡ false) × (next_at (walk (event_lines a e x)) a e.body x.fetched ≡ Next.Done d)
done_above cursor a e x d =
    elim (nat_le e.seq cursor) as (λ b. cond b (Next.Pass Pass.Old) (next_at (walk (event_lines a e x)) a e.body x.fetched) ≡ Next.Done d → (b ≡ false) × (next_at (walk (event_lines a e x)) a e.body x.fetched ≡ Next.Done d)) [
      | true ↦ λ h. absurd cc
      | false ↦ λ h. (refl, h)
    ]

pub done_end : (cursor : ℕ) (a : State) (e : Seen) (x : Answers) (d : Decision) → next_of cursor a (Frame.Event e) x ≡ Next.Done d → IsAtEnd (walk (event_lines a e x)) x.fetched d
done_end cursor a e x d h = at_end (walk (event_lines a e x)) a e.body x.fetched d (done_above cursor a e x d h).1

-- an event that makes no row is skipped
pub passes_over : (cursor : ℕ) (a : State) (e : Seen) (x : Answers) (pass : Pass) → next_of cursor a (Frame.Event e) x ≡ Next.Pass pass → (nat_le e.seq cursor ≡ true) × (pass ≡ Pass.Old)
passes_over cursor a e x pass =
    elim (nat_le e.seq cursor) as (λ b. cond b (Next.Pass Pass.Old) (next_at (walk (event_lines a e x)) a e.body x.fetched) ≡ Next.Pass pass → (b ≡ true) × (pass ≡ Pass.Old)) [
      | true ↦ λ h. (refl, let same : Pass.Old ≡ pass = cc in sym same)
      | false ↦ λ h. absurd (never (walk (event_lines a e x)) h)
    ]
  where
    refused_never : (b : Bool) (r : Refusal) (f : Option Fetched) → cond b (after_fetch r f) (Next.Done (record { refusal = Some r; held = false; gives = false })) ≡ Next.Pass pass → ⊥
    refused_never true r None h = absurd cc
    refused_never true r (Some Fetched.NotAsked) h = absurd cc
    refused_never true r (Some Fetched.Absent) h = absurd cc
    refused_never true r (Some (Fetched.Refused n)) h = absurd cc
    refused_never true r (Some (Fetched.Whole w)) h = absurd cc
    refused_never false r f h = absurd cc

    never : (w : Walk) → next_at w a e.body x.fetched ≡ Next.Pass pass → ⊥
    never (waits q) h = absurd cc
    never (refuses r) h = refused_never (loses (code_of r)) r x.fetched h
    never passes h = absurd cc

-- ---- more answers decide the same

-- the answer is that one, or none yet
abbrev pub Within : {A : Type 0} → Option A → Option A → Type 0
Within o p = (o ≡ None) ⊎ (o ≡ p)

AreLater : List TableLine → List TableLine → Type 0
AreLater [] [] = Unit {0}
AreLater (told o ∷ xs) (told p ∷ ys) = (o ≡ p) × AreLater xs ys
AreLater (asked q o ∷ xs) (asked p r ∷ ys) = Within o r × AreLater xs ys
AreLater xs ys = ⊥

-- a walk that ends goes on to the same end
walk_later : (xs ys : List TableLine) (r : Option Refusal) → AreLater xs ys → walk xs ≡ ended r → walk ys ≡ ended r
unfolding AreLater
walk_later [] [] r are h = h
walk_later [] (y ∷ ys) r are h = absurd are
walk_later (told o ∷ xs) [] r are h = absurd are
walk_later (told o ∷ xs) (asked q p ∷ ys) r are h = absurd are
walk_later (told None ∷ xs) (told p ∷ ys) r are h = let P : Option Refusal → Type 0 = λ o. walk_past o (walk ys) ≡ ended r in subst P are.0 (walk_later xs ys r are.1 h)
walk_later (told (Some s) ∷ xs) (told p ∷ ys) r are h = let P : Option Refusal → Type 0 = λ o. walk_past o (walk ys) ≡ ended r in subst P are.0 h
walk_later (asked q o ∷ xs) [] r are h = absurd are
walk_later (asked q o ∷ xs) (told p ∷ ys) r are h = absurd are
walk_later (asked q None ∷ xs) (asked p s ∷ ys) r are h = absurd (waits_never q r h)
  where
    waits_never : (q : Question) (r : Option Refusal) → waits q ≡ ended r → ⊥
    waits_never q None h = cc
    waits_never q (Some s) h = cc
walk_later (asked q (Some None) ∷ xs) (asked p s ∷ ys) r are h =
    let same : Some None ≡ s = ⊎_elim (λ none. absurd cc) (λ is. is) are.0 in
    let P : Option (Option Refusal) → Type 0 = λ o. walk (asked p o ∷ ys) ≡ ended r in
    subst P same (walk_later xs ys r are.1 h)
walk_later (asked q (Some (Some t)) ∷ xs) (asked p s ∷ ys) r are h =
    let same : Some (Some t) ≡ s = ⊎_elim (λ none. absurd cc) (λ is. is) are.0 in
    let P : Option (Option Refusal) → Type 0 = λ o. walk (asked p o ∷ ys) ≡ ended r in
    subst P same h

mapped_within : {A B : Type 0} (f : A → B) (o p : Option A) → Within o p → Within (option_map f o) (option_map f p)
mapped_within f o p = ⊎_elim (λ none. inl (ap (option_map f) none)) (λ same. inr (ap (option_map f) same))

-- the answers so far to an event that says this are of these
pub record AreOf (body : Body) (x z : Answers) : Type 0 where
  pub moment : x.moment ≡ z.moment
  pub refreshed : z.refreshed ≡ true
  pub home : Within x.home z.home
  pub opened : has_blocks body ≡ true → Within x.opened z.opened
  pub verdict : Within x.verdict z.verdict
  pub linked : Within x.linked z.linked
  pub fetched : Within x.fetched z.fetched

refresh_within : (b c : Bool) → c ≡ true → Within {A = Option Refusal} (cond b (Some None) None) (cond c (Some None) None)
refresh_within true c h = inr (ap (λ t. cond t (Some None) None) (sym h))
refresh_within false c h = inl refl

near_same : (rev : ℕ) (m n : Option ℕ) → m ≡ n → when (is_ahead rev m) Refusal.FutureRev ≡ when (is_ahead rev n) Refusal.FutureRev
near_same rev m n h = ap (λ k. when (is_ahead rev k) Refusal.FutureRev) h

body_later : (a : State) (body : Body) (x z : Answers) → AreOf body x z → AreLater (body_lines a body x) (body_lines a body z)
unfolding AreLater
body_later a (Body.Commit c) x z of = (mapped_within _ x.home z.home of.home, (refl, (refl, (mapped_within _ x.opened z.opened (of.opened refl), (near_same c.rev x.moment z.moment of.moment, (mapped_within _ x.verdict z.verdict of.verdict, (mapped_within _ x.linked z.linked of.linked, tt)))))))
body_later a (Body.Sync s) x z of = (mapped_within _ x.home z.home of.home, (refl, (refl, (mapped_within _ x.opened z.opened (of.opened refl), (near_same s.rev x.moment z.moment of.moment, (mapped_within _ x.verdict z.verdict of.verdict, tt))))))
body_later a Body.Identity x z of = (refresh_within x.refreshed z.refreshed of.refreshed, (mapped_within _ x.home z.home of.home, (refl, tt)))
body_later a (Body.Account b) x z of = (mapped_within _ x.home z.home of.home, tt)

event_later : (a : State) (e : Seen) (x z : Answers) → AreOf e.body x z → AreLater (event_lines a e x) (event_lines a e z)
unfolding AreLater
event_later a e x z of = (inr (ap (option_map (λ moment. None)) of.moment), (refl, body_later a e.body x z of))

-- ---- the effect

AllKnown : List TableLine → Type 0
AllKnown [] = Unit {0}
AllKnown (told o ∷ lines) = AllKnown lines
AllKnown (asked q o ∷ lines) = (o ≢ None) × AllKnown lines

all_known : (lines : List TableLine) → walk lines ≡ passes → AllKnown lines
unfolding AllKnown
all_known [] h = tt
all_known (told None ∷ lines) h = all_known lines h
all_known (told (Some r) ∷ lines) h = absurd cc
all_known (asked q None ∷ lines) h = absurd cc
all_known (asked q (Some None) ∷ lines) h = (λ none. absurd cc, all_known lines h)
all_known (asked q (Some (Some r)) ∷ lines) h = absurd cc

known_is : {A : Type 0} (f : A → Option Refusal) (o p : Option A) → option_map f o ≢ None → Within o p → o ≡ p
known_is f o p some within = ⊎_elim (λ none. absurd (some (ap (option_map f) none))) (λ same. same) within

effect_later : (a : State) (body : Body) (x z : Answers) → AreOf body x z → AllKnown (body_lines a body x) → effect_of body x.opened ≡ effect_of body z.opened
unfolding AllKnown
effect_later a (Body.Commit c) x z of known = ap head_effect (known_is refusal_in x.opened z.opened known.1.0 (of.opened refl))
effect_later a (Body.Sync s) x z of known = ap head_effect (known_is refusal_in x.opened z.opened known.1.0 (of.opened refl))
effect_later a Body.Identity x z of known = refl
effect_later a (Body.Account b) x z of known = refl

body_known : (a : State) (e : Seen) (x : Answers) → walk (event_lines a e x) ≡ passes → AllKnown (body_lines a e.body x)
unfolding AllKnown
body_known a e x h = (all_known (event_lines a e x) h).1

-- ---- the row

fetched_later : (r : Refusal) (x z : Option Fetched) → Within x z → (loses (code_of r) ≡ true → x ≢ None) → fetched_of (Some r) x ≡ fetched_of (Some r) z
fetched_later r x z within due = by_loses (loses (code_of r)) due
  where
    either : (b : Bool) → Option Fetched → Fetched
    either b None = Fetched.NotAsked
    either b (Some f) = cond b f Fetched.NotAsked

    none_either : (b : Bool) (o : Option Fetched) → b ≡ false → either b o ≡ Fetched.NotAsked
    none_either b None h = refl
    none_either b (Some f) h = rw h refl

    by_loses : (b : Bool) → (b ≡ true → x ≢ None) → either b x ≡ either b z
    by_loses true due = ap (either true) (⊎_elim (λ none. absurd (due refl none)) (λ same. same) within)
    by_loses false due = none_either false x refl ∙ sym (none_either false z refl)

effect_same : (a : State) (e : Seen) (x z : Answers) (r : Option Refusal) → AreOf e.body x z → walk (event_lines a e x) ≡ ended r → own_effect r e.body x ≡ own_effect r e.body z
effect_same a e x z None of h = effect_later a e.body x z of (body_known a e x h)
effect_same a e x z (Some r) of h = refl

fetched_same : (r : Option Refusal) (x z : Option Fetched) → Within x z → ((q : Refusal) → r ≡ Some q → loses (code_of q) ≡ true → x ≢ None) → fetched_of r x ≡ fetched_of r z
fetched_same None x z within due = refl
fetched_same (Some r) x z within due = fetched_later r x z within (due r refl)

next_later : (a : State) (body : Body) (r : Option Refusal) (d : Decision) (x z : Option Fetched) → Within x z → ((q : Refusal) → r ≡ Some q → loses (code_of q) ≡ true → x ≢ None) → next_at (ended r) a body x ≡ Next.Done d → next_at (ended r) a body z ≡ Next.Done d
next_later a body None d x z within due h = h
next_later a body (Some r) d x z within due h = by_loses (loses (code_of r)) (due r refl) h
  where
    by_loses : (b : Bool) → (b ≡ true → x ≢ None) → cond b (after_fetch r x) (Next.Done (record { refusal = Some r; held = false; gives = false })) ≡ Next.Done d → cond b (after_fetch r z) (Next.Done (record { refusal = Some r; held = false; gives = false })) ≡ Next.Done d
    by_loses true due h = let same : x ≡ z = ⊎_elim (λ none. absurd (due refl none)) (λ is. is) within in let P : Option Fetched → Type 0 = λ o. after_fetch r o ≡ Next.Done d in subst P same h
    by_loses false due h = h

done_same : (c d : Decision) → Next.Done c ≡ Next.Done d → c ≡ d
done_same c d h = cc

module _ (checks : Checks) (last cursor : ℕ) (a : State) (host : List ℕ) (e : Seen) (x : Answers) (d : Decision) (o : Outside) (done : next_of cursor a (Frame.Event e) x ≡ Next.Done d) (of : AreOf e.body x (answers checks last a e o)) where
  at_last : IsAtEnd (walk (event_lines a e x)) x.fetched d
  at_last = done_end cursor a e x d done

  done_later : next_of cursor a (Frame.Event e) (answers checks last a e o) ≡ Next.Done d
  done_later =
      let above = done_above cursor a e x d done in
      let end = done_end cursor a e x d done in
      let z = answers checks last a e o in
      let P : Walk → Type 0 = λ w. next_at w a e.body x.fetched ≡ Next.Done d in
      let Q : Walk → Type 0 = λ w. next_at w a e.body z.fetched ≡ Next.Done d in
      let R : Bool → Type 0 = λ b. cond b (Next.Pass Pass.Old) (next_at (walk (event_lines a e z)) a e.body z.fetched) ≡ Next.Done d in
      subst R (sym above.0) (subst Q (sym (walk_later (event_lines a e x) (event_lines a e z) d.refusal (event_later a e x z of) end.ends))
      (next_later a e.body d.refusal d x.fetched z.fetched of.fetched end.fetch (subst P end.ends above.1)))

  -- what is decided for the answers so far is decided for all of them
  pub decided_so : decided_event checks last a host e o ≡ event_taken last host e d x
  decided_so =
      let end = done_end cursor a e x d done in
      let z = answers checks last a e o in
      let for_all = decision_for a e.body o.fetched (refusal_of checks a e o) in
      let same : for_all ≡ d = done_same for_all d (sym (next_decided checks last cursor a e o (done_above cursor a e x d done).0) ∙ done_later) in
      let effect : own_effect d.refusal e.body x ≡ own_effect d.refusal e.body z = effect_same a e x z d.refusal of end.ends in
      let fetched : fetched_of d.refusal x.fetched ≡ fetched_of d.refusal z.fetched = fetched_same d.refusal x.fetched z.fetched of.fetched end.fetch in
      let moment : x.moment ≡ z.moment = of.moment in
      let taken : event_taken last host e d z ≡ event_taken last host e d x = taken_same d effect fetched moment in
      decided_as checks last a host e o ∙ ap (λ (k : Decision). event_taken last host e k z) same ∙ taken
    where
      taken_same : (k : Decision) → own_effect k.refusal e.body x ≡ own_effect k.refusal e.body (answers checks last a e o) → fetched_of k.refusal x.fetched ≡ fetched_of k.refusal (answers checks last a e o).fetched
          → x.moment ≡ (answers checks last a e o).moment → event_taken last host e k (answers checks last a e o) ≡ event_taken last host e k x
      taken_same k effect fetched moment = cc

-- ---- the right answers

heads_join : (one other : Head) → one.rev ≡ other.rev → one.data_root ≡ other.data_root → one.commit ≡ other.commit → one ≡ other
heads_join one other revs roots commits =
    ap (λ r. record { rev = r; data_root = one.data_root; commit = one.commit }) revs
    ∙ ap (λ d. record { rev = other.rev; data_root = d; commit = one.commit }) roots
    ∙ ap (λ c. record { rev = other.rev; data_root = other.data_root; commit = c }) commits

head_same : (car : CarResult) (rev : ℕ) (one other : Head) → IsHeadIn car rev one → IsHeadIn car rev other → one ≡ other
head_same car rev one other a b =
    let commit : one.commit ≡ other.commit = some_same one.commit other.commit (sym a.found.root_is ∙ b.found.root_is) in
    let object : a.commit ≡ b.commit = some_same a.commit b.commit (sym a.found.object_is ∙ b.found.object_is) in
    let roots : one.data_root ≡ other.data_root = a.data_is ∙ ap (λ (c : Commit). c.data_root) object ∙ sym b.data_is in
    let revs : one.rev ≡ other.rev = a.rev_is ∙ sym b.rev_is in
    heads_join one other revs roots commit

heads_same : (body : Body) (one other : Head) → has_blocks body ≡ true → IsHeadOf body one → IsHeadOf body other → one ≡ other
heads_same (Body.Commit c) one other has a b = head_same (car_in c) c.rev one other a b
heads_same (Body.Sync s) one other has a b = head_same (car_of s.blocks) s.rev one other a b
heads_same Body.Identity one other has a b = absurd cc
heads_same (Body.Account k) one other has a b = absurd cc

none_some : (r : Refusal) → None ≡ Some r → ⊥
none_some r h = absurd cc

pub opened_right : (checks : Checks) → OpensRight checks → (e : Seen) (last : Option ℕ) (answer : Result Head Refusal) → has_blocks e.body ≡ true → IsOpenedAs e.body last answer → answer ≡ checks.opens e last
opened_right checks opens e last answer has is = go answer (checks.opens e last) refl is
  where
    go : (answer other : Result Head Refusal) → checks.opens e last ≡ other → IsOpenedAs e.body last answer → answer ≡ checks.opens e last
    go (Ok head) (Ok second) same is = ap (λ (h : Head). Ok h) (heads_same e.body head second has is.1 (opens.head e last second same)) ∙ sym same
    go (Ok head) (Err r) same is = absurd (none_some r (sym is.0 ∙ sym (opens.refusal e last) ∙ ap (λ (k : Result Head Refusal). refusal_in k) same))
    go (Err r) (Ok second) same is = absurd (none_some r (sym (ap (λ (k : Result Head Refusal). refusal_in k) same) ∙ opens.refusal e last ∙ is))
    go (Err r) (Err s) same is = ap (λ (q : Refusal). Err q) (some_same r s (sym is ∙ sym (opens.refusal e last) ∙ ap (λ (k : Result Head Refusal). refusal_in k) same)) ∙ sym same

pub within_told : (o : Option Bool) → Within o (Some (unwrap_or o true))
within_told None = inl refl
within_told (Some b) = inr refl

pub within_some : {A : Type 0} (o : Option A) (x : A) → ((y : A) → o ≡ Some y → y ≡ x) → Within o (Some x)
within_some None x h = inl refl
within_some (Some y) x h = inr (ap Some (h y refl))
