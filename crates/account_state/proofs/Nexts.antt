-- The DIDs that rows name, one behind the other.
use Rattle.std.proofs.Common.{◌≡◌, ℕ, Bool, true, false, ◌||◌, cond, List, [], ◌∷◌, refl, sym, ap, ◌∙◌, subst}
use Rattle.std.specs.List.{list_any}
use Rattle.std.specs.Prelude.{if◌then◌else◌}
use Rattle.std.proofs.lemmas.Bool.{or_left, or_parts, false_from_ne_true, false≢true}
use Rattle.relay_row.specs.Folds.{names, is_named}
use Rattle.relay_row.specs.declared.row.Row.{Row}
use Rattle.account_state.specs.Entries.{is_before}
use Rattle.account_state.proofs.Order.{before_apart, before_trans, is_text}
use Rattle.account_state.specs.Dids.{AreBehind, dids}
use Rattle.account_state.proofs.Dids.{above_text, among_first, dids_behind, dids_named, names_itself, names_same, same_first}

-- those of ascending DIDs that stand behind one
abbrev pub later : List ℕ → List (List ℕ) → List (List ℕ)
later did [] = []
later did (first ∷ others) = if is_before did first then first ∷ others else later did others

later_all : (did : List ℕ) (ds : List (List ℕ)) → AreBehind did ds → later did ds ≡ ds
later_all did [] are = refl
later_all did (d ∷ ds) are = ap (λ (b : Bool). cond b (d ∷ ds) (later did ds)) are.0

-- of a name in front of all others
first_there : (low d : List ℕ) (ds : List (List ℕ)) → AreBehind low (d ∷ ds) → list_any (names d) (d ∷ ds) ≡ true
first_there low d ds are = or_left (names d d) (list_any (names d) ds) (names_itself d (above_text low d are.0))

not_itself : (d : List ℕ) → is_before d d ≡ false
not_itself d = false_from_ne_true (is_before d d) (λ less. false≢true (sym (before_apart d d less) ∙ is_text d d refl))

none_later : (low did : List ℕ) (ds : List (List ℕ)) → AreBehind low ds → ((name : List ℕ) → is_before did name ≡ true → list_any (names name) ds ≡ false) → later did ds ≡ []
none_later low did [] are none = refl
none_later low did (d ∷ ds) are none =
    elim (is_before did d) as (λ b. is_before did d ≡ b → cond b (d ∷ ds) (later did ds) ≡ []) [
      | true ↦ λ e. absurd (false≢true (sym (none d e) ∙ first_there low d ds are))
      | false ↦ λ e. none_later d did ds are.1 (λ name less. (or_parts (names name d) (list_any (names name) ds) (none name less)).1)
    ] refl

-- x is the first of these behind a DID
record IsNextOf (did x : List ℕ) (ds : List (List ℕ)) : Type 0 where
  above : is_before did x ≡ true
  there : list_any (names x) ds ≡ true
  first : (name : List ℕ) → is_before did name ≡ true → is_before name x ≡ true → list_any (names name) ds ≡ false

here_is : (low did x d : List ℕ) (ds : List (List ℕ)) → AreBehind low (d ∷ ds) → IsNextOf did x (d ∷ ds) → is_before did d ≡ true → x ≡ d
here_is low did x d ds are next above =
    same_first x d (among_first x d ds are.1 next.there)
    (false_from_ne_true (is_before d x) (λ less. false≢true (sym (next.first d above less) ∙ first_there low d ds are)))

next_later : (low did x : List ℕ) (ds : List (List ℕ)) → AreBehind low ds → IsNextOf did x ds → later did ds ≡ x ∷ later x ds
next_later low did x [] are next = absurd (false≢true next.there)
next_later low did x (d ∷ ds) are next =
    elim (is_before did d) as (λ b. is_before did d ≡ b → cond b (d ∷ ds) (later did ds) ≡ x ∷ cond (is_before x d) (d ∷ ds) (later x ds)) [
      | true ↦ λ e.
          let is : x ≡ d = here_is low did x d ds are next e in
          let behind : later x (d ∷ ds) ≡ ds =
          subst (λ (y : List ℕ). later y (d ∷ ds) ≡ ds) (sym is) (ap (λ (b : Bool). cond b (d ∷ ds) (later d ds)) (not_itself d) ∙ later_all d ds are.1) in
          ap (λ (y : List ℕ). y ∷ ds) (sym is) ∙ ap (λ (l : List (List ℕ)). x ∷ l) (sym behind)
      | false ↦ λ e.
          let past : is_before x d ≡ false = false_from_ne_true (is_before x d) (λ less. false≢true (sym e ∙ before_trans did x d next.above less)) in
          let other : names x d ≡ false = false_from_ne_true (names x d) (λ same. false≢true (sym e ∙ subst (λ (y : List ℕ). is_before did y ≡ true) (names_same x d same) next.above)) in
          let more : IsNextOf did x ds = record {
            above = next.above;
            there = sym (ap (λ (b : Bool). b || list_any (names x) ds) other) ∙ next.there;
            first = λ name less below. (or_parts (names name d) (list_any (names name) ds) (next.first name less below)).1;
          } in
          next_later d did x ds are.1 more ∙ ap (λ (l : List (List ℕ)). x ∷ l) (sym (ap (λ (b : Bool). cond b (d ∷ ds) (later x ds)) past))
    ] refl

-- ---- of those that rows name

pub all_later : (rows : List Row) → later [] (dids rows) ≡ dids rows
all_later rows = later_all [] (dids rows) (dids_behind rows)

pub last_did : (did : List ℕ) (rows : List Row) → ((name : List ℕ) → is_before did name ≡ true → is_named name rows ≡ false) → later did (dids rows) ≡ []
last_did did rows none = none_later [] did (dids rows) (dids_behind rows) (λ name less. dids_named name rows ∙ none name less)

pub next_did : (did x : List ℕ) (rows : List Row) → is_before did x ≡ true → is_named x rows ≡ true → ((name : List ℕ) → is_before did name ≡ true → is_before name x ≡ true → is_named name rows ≡ false)
    → later did (dids rows) ≡ x ∷ later x (dids rows)
next_did did x rows above there first =
    next_later [] did x (dids rows) (dids_behind rows)
    (record { above = above; there = dids_named x rows ∙ there; first = λ name less below. dids_named name rows ∙ first name less below })
