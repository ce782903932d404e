-- Calls one after another.
use Rattle.std.proofs.Common.{◌≡◌, ◌≢◌, ◌⊎◌, inl, inr, ⊎_elim, ℕ, ◌+◌, ◌-◌, ◌<◌, ◌≤◌, Bool, true, false, List, [], ◌∷◌, ◌++◌, length, drop, map, zero, suc, Option, refl, sym, ap, ◌∙◌, subst, arith, length-drop}
use Rattle.std.specs.List.{AllByRecursion}
use Rattle.std.specs.Str.{bytes_eq}
use Rattle.std.proofs.lemmas.Bool.{false≢true}
use Rattle.std.proofs.lemmas.List.{drop-drop, length-map}
use Rattle.std.proofs.lemmas.Slice.Eq.{bytes_eq-Decides}
use Rattle.at_syntax.specs.Did.{method_of}
use Rattle.at_authority.specs.Queries.{Query, Telling}
use Rattle.at_authority.specs.Answers.{Rises}
use Rattle.at_authority.specs.Panels.{Entry, Authorities, Panel, values, living, faults_at}
use Rattle.at_authority.specs.Calls.{Call, answers, did_called, Does, Asks, IsCall, AreCalls}
use Rattle.at_authority.specs.Ranks.{HasFallen, FirstSays, SaysAtRank, LastSays, ByRanks, answered, AreOf}

pub join : (old mid new : Panel) (calls more : List Call) → AreCalls old calls mid → AreCalls mid more new → AreCalls old (calls ++ more) new
join old mid new [] more one two = let P : Panel → Type 0 = λ p. AreCalls p more new in subst P one two
join old mid new (call ∷ calls) more one two = (one.0, one.1, join one.0 mid new calls more one.2 two)

pub part : (old new : Panel) (calls more : List Call) → AreCalls old (calls ++ more) new → (mid : Panel) × AreCalls old calls mid × AreCalls mid more new
part old new [] more h = (old, refl, h)
part old new (call ∷ calls) more h = let rest = part h.0 new calls more h.2 in (rest.0, (h.0, h.1, rest.1), rest.2)

-- who has fallen

none_fell : (b : Authorities) → HasFallen b b
none_fell b = record { as_many = refl; later = omega arith; rose = λ i h k. absurd (omega (arith, h, k)); steady = λ i h. refl }

before_or : (i n : ℕ) → (i < n) ⊎ (n ≤ i)
before_or i zero = inr (omega arith)
before_or zero (suc n) = inl (omega arith)
before_or (suc i) (suc n) = ⊎_elim (λ h. inl (omega (arith, h))) (λ h. inr (omega (arith, h))) (before_or i n)

rises_from : (a b c : ℕ) → a ≡ b → Rises b c → Rises a c
rises_from a b c e h = let P : ℕ → Type 0 = λ n. Rises n c in subst P (sym e) h

rises_to : (a b c : ℕ) → c ≡ b → Rises a b → Rises a c
rises_to a b c e h = let P : ℕ → Type 0 = λ n. Rises a n in subst P (sym e) h

fell_join : (a b c : Authorities) → HasFallen a b → HasFallen b c → HasFallen a c
fell_join a b c one two = record {
  as_many = two.as_many ∙ one.as_many;
  later = omega (arith, one.later, two.later);
  rose = λ i h k. ⊎_elim (λ early. rises_to (faults_at a i) (faults_at b i) (faults_at c i) (two.steady i (inl early)) (one.rose i h early))
      (λ late. rises_from (faults_at a i) (faults_at b i) (faults_at c i) (sym (one.steady i (inr late))) (two.rose i late k)) (before_or i b.fallen);
  steady = λ i h. two.steady i (⊎_elim (λ l. inl (omega (arith, l, one.later))) (λ l. inr l) h) ∙ one.steady i (⊎_elim (λ l. inl l) (λ l. inr (omega (arith, l, two.later))) h);
}

one_fell : (c : Call) (P Q : Panel) → IsCall c P Q → (name : List ℕ) → (b : Bool) → bytes_eq name (method_of (did_called c)) ≡ b → HasFallen (P name) (Q name)
one_fell c P Q h name true e =
    let same : name ≡ method_of (did_called c) = (bytes_eq-Decides name (method_of (did_called c))).0 e in
    let falls = h.asks.falls in
    let F : List ℕ → Type 0 = λ n. HasFallen (P n) (Q n) in
    subst F (sym same) (record { as_many = falls.as_many; later = falls.later; rose = falls.rose; steady = falls.steady })
one_fell c P Q h name false e =
    let other : name ≢ method_of (did_called c) = λ k. false≢true (sym e ∙ (bytes_eq-Decides name (method_of (did_called c))).1 k) in
    let F : Authorities → Type 0 = λ b. HasFallen (P name) b in
    subst F (sym (h.others name other)) (none_fell (P name))

pub fell : (P Q : Panel) (calls : List Call) → AreCalls P calls Q → (name : List ℕ) → HasFallen (P name) (Q name)
fell P Q [] h name = let F : Panel → Type 0 = λ R. HasFallen (P name) (R name) in subst F (sym h) (none_fell (P name))
fell P Q (c ∷ calls) h name = fell_join (P name) (h.0 name) (Q name) (one_fell c P h.0 h.1 name (bytes_eq name (method_of (did_called c))) refl) (fell h.0 Q calls h.2 name)

-- who has answered

-- Some in front are passed over, and the first of the others answers
record Passes (old : List (Option Telling)) (a : Query × Bool) (mid : List (Option Telling)) : Type 0 where
  over : ℕ
  within : over ≤ length old
  left : mid ≡ drop over old
  says : FirstSays mid a.0 a.1

abbrev Answered : List (Option Telling) → List (Query × Bool) → List (Option Telling) → Type 0
Answered old [] new = new ≡ old
Answered old (a ∷ asked) new = (mid : List (Option Telling)) × Passes old a mid × Answered mid asked new

said : (q : Query) (good : Bool) (all : List Entry) (before after : List (Option Telling)) → 0 < length all → Does (answers q good) all before after → (after ≡ before) × FirstSays after q good
said q good all [] after some h = absurd (omega (arith, some, ap length h.1.0))
said q good all (value ∷ others) after some h =
    let same : after ≡ value ∷ others = h.1 ∙ ap (λ v. v ∷ others) h.2.0 in
    let P : List (Option Telling) → Type 0 = λ l. FirstSays l q good in
    (same, subst P (sym same) h.2.1)

passes : (q : Query) (good : Bool) (old mid : Authorities) → 0 < length old.entries → Asks (answers q good) old mid → Passes (living old) (q, good) (living mid)
passes q good old mid some asks =
    let falls = asks.falls in
    let here = said q good mid.entries (drop mid.fallen (values old)) (living mid) (omega (arith, some, falls.as_many)) asks.does in
    let back : mid.fallen ≡ old.fallen + (mid.fallen - old.fallen) = omega (arith, falls.later) in
    record {
      over = mid.fallen - old.fallen;
      within = omega (arith, falls.within, falls.as_many, length-drop old.fallen (values old), length-map old.entries (λ (s : Entry). s.value));
      left = here.0 ∙ ap (λ (n : ℕ). drop n (values old)) back ∙ sym (drop-drop (mid.fallen - old.fallen) old.fallen (values old));
      says = here.1;
    }

asks_named : (call : Call) (old mid : Panel) (name : List ℕ) → method_of (did_called call) ≡ name → IsCall call old mid → Asks call (old name) (mid name)
asks_named call old mid name e h = let P : List ℕ → Type 0 = λ n. Asks call (old n) (mid n) in subst P e h.asks

chain : (old new : Panel) (name : List ℕ) (asked : List (Query × Bool)) → AreOf name asked → 0 < length (old name).entries → AreCalls old (map answered asked) new → Answered (living (old name)) asked (living (new name))
chain old new name [] of some h = ap (λ (p : Panel). living (p name)) h
chain old new name (a ∷ asked) of some h =
    let asks = asks_named (answered a) old h.0 name of.0 h.1 in
    (living (h.0 name), passes a.0 a.1 (old name) (h.0 name) some asks, chain h.0 new name asked of.1 (omega (arith, some, asks.falls.as_many)) h.2)

shorter : (old : List (Option Telling)) (asked : List (Query × Bool)) (new : List (Option Telling)) → Answered old asked new → length new ≤ length old
shorter old [] new h = omega (arith, ap length h)
shorter old (a ∷ asked) new h = omega (arith, shorter h.0 asked new h.2, ap length h.1.left, length-drop h.1.over old)

-- those that are left are some behind
left_behind : (old : List (Option Telling)) (asked : List (Query × Bool)) (new : List (Option Telling)) → Answered old asked new → new ≡ drop (length old - length new) old
left_behind old [] new h =
    let none : length old - length new ≡ 0 = omega (arith, ap length h) in
    h ∙ ap (λ (n : ℕ). drop n old) (sym none)
left_behind old (a ∷ asked) new h =
    let k = h.1.over in
    let m = length h.0 - length new in
    let count : k + m ≡ length old - length new = omega (arith, shorter h.0 asked new h.2, ap length h.1.left, length-drop k old, h.1.within) in
    left_behind h.0 asked new h.2 ∙ ap (drop m) h.1.left ∙ drop-drop m k old ∙ ap (λ (n : ℕ). drop n old) count

-- an answer is that of one behind so many
record Over (old : List (Option Telling)) (least : ℕ) (a : Query × Bool) : Type 0 where
  over : ℕ
  behind : over + least ≤ length old
  says : FirstSays (drop over old) a.0 a.1

further : (k : ℕ) (old : List (Option Telling)) (least : ℕ) (asked : List (Query × Bool)) → k ≤ length old → AllByRecursion (Over (drop k old) least) asked → AllByRecursion (Over old least) asked
further k old least [] h all = tt
further k old least (a ∷ asked) h all =
    let o = all.0 in
    let P : List (Option Telling) → Type 0 = λ l. FirstSays l a.0 a.1 in
    (record { over = k + o.over; behind = omega (arith, o.behind, length-drop k old, h); says = subst P (drop-drop o.over k old) o.says }, further k old least asked h all.1)

each_over : (old : List (Option Telling)) (asked : List (Query × Bool)) (new : List (Option Telling)) → Answered old asked new → AllByRecursion (Over old (length new)) asked
each_over old [] new h = tt
each_over old (a ∷ asked) new h =
    let P : List (Option Telling) → Type 0 = λ l. FirstSays l a.0 a.1 in
    let Q : List (Option Telling) → Type 0 = λ l. AllByRecursion (Over l (length new)) asked in (
      record { over = h.1.over; behind = omega (arith, shorter h.0 asked new h.2, ap length h.1.left, length-drop h.1.over old, h.1.within); says = subst P h.1.left h.1.says },
      further h.1.over old (length new) asked h.1.within (subst Q h.1.left (each_over h.0 asked new h.2)),
    )

some_says : (vs : List (Option Telling)) (q : Query) (good : Bool) → FirstSays vs q good → 0 < length vs
some_says [] q good h = absurd h
some_says (v ∷ vs) q good h = omega arith

ranked : (old : Authorities) (least : ℕ) (asked : List (Query × Bool)) → AllByRecursion (Over (living old) least) asked → AllByRecursion (λ a. (rank : ℕ) × (least ≤ rank + 1) × SaysAtRank rank old a.0 a.1) asked
ranked old least [] all = tt
ranked old least (a ∷ asked) all =
    let o = all.0 in
    let vs = living old in
    let low : o.over < length vs = omega (arith, some_says (drop o.over vs) a.0 a.1 o.says, length-drop o.over vs) in
    let rank : ℕ = length vs - (o.over + 1) in
    let back : length vs - (rank + 1) ≡ o.over = omega (arith, low) in
    let P : ℕ → Type 0 = λ n. FirstSays (drop n vs) a.0 a.1 in
    ((rank, omega (arith, o.behind, low), record { lives = omega (arith, low); says = subst P (sym back) o.says }), ranked old least asked all.1)

last_says : (old : List (Option Telling)) (asked : List (Query × Bool)) (new : List (Option Telling)) → Answered old asked new → LastSays asked new
last_says old [] new h = tt
last_says old (a ∷ []) new h = let P : List (Option Telling) → Type 0 = λ l. FirstSays l a.0 a.1 in subst P (sym h.2) h.1.says
last_says old (a ∷ b ∷ asked) new h = last_says h.0 (b ∷ asked) new h.2

pub ranks : (old new : Panel) (name : List ℕ) (asked : List (Query × Bool)) → AreOf name asked → 0 < length (old name).entries → AreCalls old (map answered asked) new → ByRanks (old name) asked (new name)
ranks old new name asked of some h =
    let c = chain old new name asked of some h in
    record {
      fewer = shorter (living (old name)) asked (living (new name)) c;
      values = left_behind (living (old name)) asked (living (new name)) c;
      each = ranked (old name) (length (living (new name))) asked (each_over (living (old name)) asked (living (new name)) c);
      last = last_says (living (old name)) asked (living (new name)) c;
    }
