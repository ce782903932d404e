-- Both orders have of each host the same messages.
use Rattle.std.proofs.Common.{◌≡◌, ℕ, zero, suc, ◌+◌, ◌%◌, ◌<◌, codes, lit<, mod-lt, Bool, true, false, cond, List, [], ◌∷◌, ◌++◌, Option, Some, None, option_map, slice_get, take, add-one, append_assoc, refl, sym, ◌∙◌, ap, subst, arith, ◌⊎◌, inl, inr, ⊎_elim}
use Rattle.std.specs.Str.{bytes_eq}
use Rattle.std.proofs.lemmas.Bool.{false≢true}
use Rattle.std.proofs.lemmas.List.{append-nil}
use Rattle.std.proofs.lemmas.List.Elements.{filter-append}
use Rattle.std.proofs.lemmas.Slice.Eq.{bytes_eq-Decides}
use Rattle.at_event.specs.Frames.{frame_of}
use Rattle.relay_core.specs.Runs.{Message}
use Rattle.relay_gen.specs.Commits.{Commit, commits_from}
use Rattle.relay_gen.specs.Histories.{history, generated_messages}
use Rattle.relay_gen.specs.Messages.{message}
use Rattle.relay_gen.specs.Names.{host_of}
use Rattle.relay_law.specs.Calls.{as_read}
use Rattle.relay_law.specs.Merges.{only, Merge}
use Rattle.trial_run.specs.Merging.{Sent, by_host}
use Rattle.trial_run.specs.Taking.{is_chosen, those}

-- those of a host that read
read_only : (host : List ℕ) (ms : Sent) → only host (as_read ms) ≡ as_read (those (Some host) ms)
read_only host [] = refl
read_only host (m ∷ ms) =
    elim (bytes_eq host m.0) as (λ b. cond b ((m.0, frame_of m.1) ∷ only host (as_read ms)) (only host (as_read ms)) ≡ as_read (cond b (m ∷ those (Some host) ms) (those (Some host) ms))) [
      | true ↦ ap (λ (l : List Message). (m.0, frame_of m.1) ∷ l) (read_only host ms)
      | false ↦ read_only host ms
    ]

same_host : (one other : List ℕ) → bytes_eq one other ≡ true → one ≡ other
same_host one other is = (bytes_eq-Decides one other).0 is

equal_host : (one other : List ℕ) → one ≡ other → bytes_eq one other ≡ true
equal_host one other is = (bytes_eq-Decides one other).1 is

among_more : (host name : List ℕ) (m : List ℕ × List ℕ) (ms : Sent) (b : Bool) → bytes_eq name m.0 ≡ b → those (Some host) (those (Some name) ms) ≡ cond (bytes_eq host name) (those (Some name) ms) []
    → those (Some host) (cond b (m ∷ those (Some name) ms) (those (Some name) ms)) ≡ cond (bytes_eq host name) (cond b (m ∷ those (Some name) ms) (those (Some name) ms)) []
among_more host name m ms false is rest = rest
among_more host name m ms true is rest =
    let here : bytes_eq host m.0 ≡ bytes_eq host name = ap (bytes_eq host) (sym (same_host name m.0 is)) in
    ap (λ (b : Bool). cond b (m ∷ those (Some host) (those (Some name) ms)) (those (Some host) (those (Some name) ms))) here
    ∙ (elim (bytes_eq host name) as (λ b. those (Some host) (those (Some name) ms) ≡ cond b (those (Some name) ms) []
    → cond b (m ∷ those (Some host) (those (Some name) ms)) (those (Some host) (those (Some name) ms)) ≡ cond b (m ∷ those (Some name) ms) []) [
      | true ↦ λ more. ap (λ (l : Sent). m ∷ l) more
      | false ↦ λ more. more
    ]) rest

among_none : (b : Bool) (none : Sent) → none ≡ cond b none none
among_none true none = refl
among_none false none = refl

-- those of a host among those of another: none, and among its own all
among : (host name : List ℕ) (ms : Sent) → those (Some host) (those (Some name) ms) ≡ cond (bytes_eq host name) (those (Some name) ms) []
among host name [] = among_none (bytes_eq host name) []
among host name (m ∷ ms) = among_more host name m ms (bytes_eq name m.0) refl (among host name ms)

-- one of the four hosts
abbrev pub IsOne : List ℕ → Type 0
IsOne host = ((host ≡ host_of 0) ⊎ (host ≡ host_of 1)) ⊎ ((host ≡ host_of 2) ⊎ (host ≡ host_of 3))

abbrev pub AreOnes : Sent → Type 0
AreOnes [] = Unit {0}
AreOnes (m ∷ ms) = IsOne m.0 × AreOnes ms

stranger_more : (host : List ℕ) (m : List ℕ × List ℕ) (ms : Sent) (b : Bool) → bytes_eq host m.0 ≡ b → IsOne m.0 → (IsOne host → ⊥) → those (Some host) ms ≡ [] → cond b (m ∷ those (Some host) ms) (those (Some host) ms) ≡ []
stranger_more host m ms true is one not_one rest = absurd (not_one (subst IsOne (sym (same_host host m.0 is)) one))
stranger_more host m ms false is one not_one rest = rest

-- none are of a host that isn't one of the four
stranger : (host : List ℕ) (ms : Sent) → AreOnes ms → (IsOne host → ⊥) → those (Some host) ms ≡ []
stranger host [] are not_one = refl
stranger host (m ∷ ms) are not_one = stranger_more host m ms (bytes_eq host m.0) refl are.0 not_one (stranger host ms are.1 not_one)

module _ (host : List ℕ) (ms : Sent) where
  abbrev own : ℕ → Sent
  own k = those (Some (host_of k)) ms

  abbrev part : ℕ → Sent
  part k = cond (bytes_eq host (host_of k)) (own k) []

  parts : those (Some host) (by_host ms) ≡ part 0 ++ (part 1 ++ (part 2 ++ part 3))
  parts =
      let p : List ℕ × List ℕ → Bool = λ m. bytes_eq host m.0 in
      filter-append p (own 0) (own 1 ++ (own 2 ++ own 3))
      ∙ (λ i. among host (host_of 0) ms i ++ (filter-append p (own 1) (own 2 ++ own 3)
      ∙ (λ j. among host (host_of 1) ms j ++ (filter-append p (own 2) (own 3) ∙ (λ k. among host (host_of 2) ms k ++ among host (host_of 3) ms k)) j)) i)

-- at each of the four hosts
at_0 : (ms : Sent) → those (Some (host_of 0)) ms ≡ those (Some (host_of 0)) (by_host ms)
unfolding host_of
at_0 ms = sym (parts (host_of 0) ms ∙ append-nil (those (Some (host_of 0)) ms))

at_1 : (ms : Sent) → those (Some (host_of 1)) ms ≡ those (Some (host_of 1)) (by_host ms)
unfolding host_of
at_1 ms = sym (parts (host_of 1) ms ∙ append-nil (those (Some (host_of 1)) ms))

at_2 : (ms : Sent) → those (Some (host_of 2)) ms ≡ those (Some (host_of 2)) (by_host ms)
unfolding host_of
at_2 ms = sym (parts (host_of 2) ms ∙ append-nil (those (Some (host_of 2)) ms))

at_3 : (ms : Sent) → those (Some (host_of 3)) ms ≡ those (Some (host_of 3)) (by_host ms)
unfolding host_of
at_3 ms = sym (parts (host_of 3) ms)

module _ (host : List ℕ) (ms : Sent) (are : AreOnes ms) where
  moved : (name : List ℕ) → bytes_eq host name ≡ true → those (Some name) ms ≡ those (Some name) (by_host ms) → those (Some host) ms ≡ those (Some host) (by_host ms)
  moved name is same = subst (λ (h : List ℕ). those (Some h) ms ≡ those (Some h) (by_host ms)) (sym (same_host host name is)) same

  unlike : (name : List ℕ) → bytes_eq host name ≡ false → host ≡ name → ⊥
  unlike name not is = false≢true (sym not ∙ equal_host host name is)

  by_tests : (a b c d : Bool) → bytes_eq host (host_of 0) ≡ a → bytes_eq host (host_of 1) ≡ b → bytes_eq host (host_of 2) ≡ c → bytes_eq host (host_of 3) ≡ d → those (Some host) ms ≡ those (Some host) (by_host ms)
  by_tests true b c d first second third fourth = moved (host_of 0) first (at_0 ms)
  by_tests false true c d first second third fourth = moved (host_of 1) second (at_1 ms)
  by_tests false false true d first second third fourth = moved (host_of 2) third (at_2 ms)
  by_tests false false false true first second third fourth = moved (host_of 3) fourth (at_3 ms)
  by_tests false false false false first second third fourth =
      let not_one : IsOne host → ⊥ = λ one. ⊎_elim (λ p. ⊎_elim (unlike (host_of 0) first) (unlike (host_of 1) second) p) (λ p. ⊎_elim (unlike (host_of 2) third) (unlike (host_of 3) fourth) p) one in
      let none : part host ms 0 ++ (part host ms 1 ++ (part host ms 2 ++ part host ms 3)) ≡ [] =
      (λ i. cond (first i) (own host ms 0) [] ++ (cond (second i) (own host ms 1) [] ++ (cond (third i) (own host ms 2) [] ++ cond (fourth i) (own host ms 3) []))) in
      stranger host ms are not_one ∙ sym (parts host ms ∙ none)

pub merged : (ms : Sent) → AreOnes ms → Merge (as_read ms) (as_read (by_host ms))
merged ms are host =
    read_only host ms
    ∙ ap as_read (by_tests host ms are (bytes_eq host (host_of 0)) (bytes_eq host (host_of 1)) (bytes_eq host (host_of 2)) (bytes_eq host (host_of 3)) refl refl refl refl)
    ∙ sym (read_only host (by_host ms))

-- ---- the messages of a made history are of these hosts

small : (r : ℕ) → r < 4 → ((r ≡ 0) ⊎ (r ≡ 1)) ⊎ ((r ≡ 2) ⊎ (r ≡ 3))
small zero low = inl (inl refl)
small (suc zero) low = inl (inr refl)
small (suc (suc zero)) low = inr (inl refl)
small (suc (suc (suc zero))) low = inr (inr refl)
small (suc (suc (suc (suc r)))) low = absurd (omega (arith, low))

is_one : (a : ℕ) → IsOne (host_of a)
unfolding host_of
is_one a =
    let host : ℕ → List ℕ = λ r. codes "h" ++ (48 + r) ∷ codes ".gen" in
    ⊎_elim (λ p. inl (⊎_elim (λ is. inl (ap host is)) (λ is. inr (ap host is)) p)) (λ p. inr (⊎_elim (λ is. inl (ap host is)) (λ is. inr (ap host is)) p)) (small (a % 4) (mod-lt a (lit< tt)))

ones_more : (ms : Sent) (m : List ℕ × List ℕ) → AreOnes ms → IsOne m.0 → AreOnes (ms ++ m ∷ [])
ones_more [] m are one = (one, tt)
ones_more (x ∷ ms) m are one = (are.0, ones_more ms m are.1 one)

ones_sent : (commits : List Commit) → AreOnes (generated_messages commits)
ones_sent [] = tt
ones_sent (c ∷ commits) = ones_more (generated_messages commits) (host_of c.account, message c) (ones_sent commits) (is_one c.account)

pub of_four : (start n : ℕ) → AreOnes (history start n).messages
of_four start n = ones_sent (commits_from start n).commits

-- ---- one message more of those that are wanted

those_suc : (wanted : Option (List ℕ)) (ms : Sent) (i : ℕ) (host message : List ℕ) → option_map (λ (m : List ℕ × List ℕ). m.0) (slice_get ms i) ≡ Some host → option_map (λ (m : List ℕ × List ℕ). m.1) (slice_get ms i) ≡ Some message
    → those wanted (take (suc i) ms) ≡ those wanted (take i ms) ++ cond (is_chosen wanted host) ((host, message) ∷ []) []
those_suc wanted [] i host message first second = let no : ⊥ = cc in absurd no
those_suc wanted (m ∷ ms) zero host message first second =
    let h : m.0 ≡ host = cc in
    let b : m.1 ≡ message = cc in
    (λ t. cond (is_chosen wanted (h t)) ((h t, b t) ∷ []) [])
those_suc wanted (m ∷ ms) (suc i) host message first second =
    elim (is_chosen wanted m.0) as (λ b. cond b (m ∷ those wanted (take (suc i) ms)) (those wanted (take (suc i) ms)) ≡ cond b (m ∷ those wanted (take i ms)) (those wanted (take i ms)) ++ cond (is_chosen wanted host) ((host, message) ∷ []) []) [
      | true ↦ ap (λ (l : Sent). m ∷ l) (those_suc wanted ms i host message first second)
      | false ↦ those_suc wanted ms i host message first second
    ]

-- what was taken, with the message at a place, if it is wanted
pub those_more : (wanted : Option (List ℕ)) (before ms : Sent) (i k : ℕ) (host message : List ℕ) (b : Bool) → k ≡ i → option_map (λ (m : List ℕ × List ℕ). m.0) (slice_get ms k) ≡ Some host → option_map (λ (m : List ℕ × List ℕ). m.1) (slice_get ms k) ≡ Some message
    → is_chosen wanted host ≡ b → (before ++ those wanted (take i ms)) ++ cond b ((host, message) ∷ []) [] ≡ before ++ those wanted (take (i + 1) ms)
those_more wanted before ms i k host message b here first second is =
    let h : option_map (λ (m : List ℕ × List ℕ). m.0) (slice_get ms i) ≡ Some host = ap (λ (n : ℕ). option_map (λ (m : List ℕ × List ℕ). m.0) (slice_get ms n)) (sym here) ∙ first in
    let t : option_map (λ (m : List ℕ × List ℕ). m.1) (slice_get ms i) ≡ Some message = ap (λ (n : ℕ). option_map (λ (m : List ℕ × List ℕ). m.1) (slice_get ms n)) (sym here) ∙ second in
    append_assoc before (those wanted (take i ms)) (cond b ((host, message) ∷ []) [])
    ∙ ap (λ (l : Sent). before ++ l) (ap (λ (c : Bool). those wanted (take i ms) ++ cond c ((host, message) ∷ []) []) (sym is) ∙ sym (those_suc wanted ms i host message h t) ∙ ap (λ (n : ℕ). those wanted (take n ms)) (sym (add-one i)))

-- and if it isn't
pub those_same : (wanted : Option (List ℕ)) (before ms : Sent) (i k : ℕ) (host message : List ℕ) → k ≡ i → option_map (λ (m : List ℕ × List ℕ). m.0) (slice_get ms k) ≡ Some host → slice_get ms k ≡ Some (host, message)
    → is_chosen wanted host ≡ false → before ++ those wanted (take i ms) ≡ before ++ those wanted (take (i + 1) ms)
those_same wanted before ms i k host message here first all is =
    sym (append-nil (before ++ those wanted (take i ms))) ∙ those_more wanted before ms i k host message false here first (ap (option_map (λ (m : List ℕ × List ℕ). m.1)) all) is

-- the message at a place, of which the host is known
pub with_message : (ms : Sent) (k : ℕ) (host : List ℕ) → option_map (λ (m : List ℕ × List ℕ). m.0) (slice_get ms k) ≡ Some host → (message : List ℕ) × (slice_get ms k ≡ Some (host, message))
with_message ms k host is = go (slice_get ms k) is
  where
    go : (o : Option (List ℕ × List ℕ)) → option_map (λ (m : List ℕ × List ℕ). m.0) o ≡ Some host → (message : List ℕ) × (o ≡ Some (host, message))
    go None none = let no : ⊥ = cc in absurd no
    go (Some m) one = let h : m.0 ≡ host = cc in (m.1, (λ i. Some (h i, m.1)))

-- where all are wanted
pub all_of : (ms : Sent) → those None ms ≡ ms
all_of [] = refl
all_of (m ∷ ms) = ap (λ (l : Sent). m ∷ l) (all_of ms)
