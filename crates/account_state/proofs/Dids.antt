-- The DIDs that rows name, in ascending order.
use Rattle.std.proofs.Common.{◌≡◌, ℕ, Bool, true, false, ◌||◌, cond, List, [], ◌∷◌, refl, sym, ap, ◌∙◌, subst}
use Rattle.std.proofs.lemmas.Bool.{and_parts, and_right, false≢true, true≢false, or_left}
use Rattle.std.specs.List.{list_any}
use Rattle.std.specs.Prelude.{not, ◌&&◌}
use Rattle.std.specs.Str.{bytes_eq}
use Rattle.relay_row.specs.Folds.{names, did_of_row, is_named}
use Rattle.relay_row.specs.declared.row.Row.{Row}
use Rattle.account_state.specs.Entries.{is_before}
use Rattle.account_state.proofs.Order.{before_apart, before_total, before_trans, is_text, same_text}
use Rattle.account_state.specs.Dids.{AreBehind, put_did, dids}

pub behind_lower : (did higher : List ℕ) (ds : List (List ℕ)) → is_before did higher ≡ true → AreBehind higher ds → AreBehind did ds
behind_lower did higher [] less are = tt
behind_lower did higher (d ∷ ds) less are = (before_trans did higher d less are.0, are.1)

put_behind : (low did : List ℕ) (ds : List (List ℕ)) → is_before low did ≡ true → AreBehind low ds → AreBehind low (put_did did ds)
put_behind low did [] less are = (less, tt)
put_behind low did (d ∷ ds) less are =
    elim (is_before did d) as (λ b. is_before did d ≡ b → AreBehind low (cond b (did ∷ d ∷ ds) (cond (bytes_eq did d) (d ∷ ds) (d ∷ put_did did ds)))) [
      | true ↦ λ e. (less, (e, are.1))
      | false ↦ λ e. elim (bytes_eq did d) as (λ b. bytes_eq did d ≡ b → AreBehind low (cond b (d ∷ ds) (d ∷ put_did did ds))) [
        | true ↦ λ k. are
        | false ↦ λ k. (are.0, put_behind d did ds (before_total did d e k) are.1)
      ] refl
    ] refl

text_above : (text : List ℕ) → bytes_eq text [] ≡ false → is_before [] text ≡ true
text_above [] some = absurd (true≢false some)
text_above (c ∷ text) some = refl

pub above_text : (low text : List ℕ) → is_before low text ≡ true → bytes_eq text [] ≡ false
above_text low (c ∷ text) less = refl
above_text [] [] less = absurd (false≢true less)
above_text (c ∷ low) [] less = absurd (false≢true less)

pub dids_behind : (rows : List Row) → AreBehind [] (dids rows)
dids_behind [] = tt
dids_behind (row ∷ rows) =
    elim (bytes_eq (did_of_row row) []) as (λ b. bytes_eq (did_of_row row) [] ≡ b → AreBehind [] (cond b (dids rows) (put_did (did_of_row row) (dids rows)))) [
      | true ↦ λ e. dids_behind rows
      | false ↦ λ e. put_behind [] (did_of_row row) (dids rows) (text_above (did_of_row row) e) (dids_behind rows)
    ] refl

-- ---- which are those that rows name

or_twice : (p q : Bool) → p || q ≡ p || (p || q)
or_twice true q = refl
or_twice false q = refl

or_swapped : (p q r : Bool) → p || (q || r) ≡ q || (p || r)
or_swapped true true r = refl
or_swapped true false r = refl
or_swapped false q r = refl

module _ (p : List ℕ → Bool) where
  put_step : (did d : List ℕ) (ds : List (List ℕ)) → list_any p (put_did did ds) ≡ p did || list_any p ds → (a b : Bool) → bytes_eq did d ≡ b
      → list_any p (cond a (did ∷ d ∷ ds) (cond b (d ∷ ds) (d ∷ put_did did ds))) ≡ p did || (p d || list_any p ds)
  put_step did d ds more true b same = refl
  put_step did d ds more false true same =
      subst (λ (x : List ℕ). p d || list_any p ds ≡ p x || (p d || list_any p ds)) (sym (same_text did d same)) (or_twice (p d) (list_any p ds))
  put_step did d ds more false false same = ap (λ (t : Bool). p d || t) more ∙ or_swapped (p d) (p did) (list_any p ds)

  put_any : (did : List ℕ) (ds : List (List ℕ)) → list_any p (put_did did ds) ≡ p did || list_any p ds
  put_any did [] = refl
  put_any did (d ∷ ds) = put_step did d ds (put_any did ds) (is_before did d) (bytes_eq did d) refl

-- what names a text is that text
pub names_same : (did text : List ℕ) → names did text ≡ true → did ≡ text
names_same did text h = same_text did text (and_parts (not (bytes_eq did [])) (bytes_eq did text) h).1

pub names_none : (did : List ℕ) → names did [] ≡ false
names_none did = elim (bytes_eq did []) as (λ b. not b && b ≡ false) [ true ↦ refl | false ↦ refl ]

pub dids_named : (did : List ℕ) (rows : List Row) → list_any (names did) (dids rows) ≡ is_named did rows
unfolding is_named
dids_named did [] = refl
dids_named did (row ∷ rows) =
    elim (bytes_eq (did_of_row row) []) as (λ b. bytes_eq (did_of_row row) [] ≡ b → list_any (names did) (cond b (dids rows) (put_did (did_of_row row) (dids rows))) ≡ names did (did_of_row row) || list_any (λ r. names did (did_of_row r)) rows) [
      | true ↦ λ e.
          let none : names did (did_of_row row) ≡ false = subst (λ (text : List ℕ). names did text ≡ false) (sym (same_text (did_of_row row) [] e)) (names_none did) in
          dids_named did rows ∙ sym (ap (λ (t : Bool). t || list_any (λ r. names did (did_of_row r)) rows) none)
      | false ↦ λ e. put_any (names did) (did_of_row row) (dids rows) ∙ ap (λ (t : Bool). names did (did_of_row row) || t) (dids_named did rows)
    ] refl

-- a DID isn't among those behind it
not_among : (did : List ℕ) (ds : List (List ℕ)) → AreBehind did ds → list_any (names did) ds ≡ false
not_among did [] are = refl
not_among did (d ∷ ds) are =
    let other : names did d ≡ false = and_right (not (bytes_eq did [])) (bytes_eq did d) (before_apart did d are.0) in
    ap (λ (t : Bool). t || list_any (names did) ds) other ∙ not_among did ds (behind_lower did d ds are.0 are.1)

pub names_itself : (text : List ℕ) → bytes_eq text [] ≡ false → names text text ≡ true
names_itself text some = ap (λ (t : Bool). not t && bytes_eq text text) some ∙ is_text text text refl

-- ---- lists of the same DIDs are the same

first_named : (low x : List ℕ) (ds : List (List ℕ)) → is_before low x ≡ true → list_any (names x) (x ∷ ds) ≡ true
first_named low x ds less = or_left (names x x) (list_any (names x) ds) (names_itself x (above_text low x less))

-- what is named among ascending DIDs is the first, or stands behind it
pub among_first : (x y : List ℕ) (ds : List (List ℕ)) → AreBehind y ds → list_any (names x) (y ∷ ds) ≡ true → is_before x y ≡ false
among_first x y ds are some =
    elim (is_before x y) as (λ b. is_before x y ≡ b → b ≡ false) [
      | true ↦ λ e. absurd (true≢false (sym some ∙ not_among x (y ∷ ds) (e, are)))
      | false ↦ λ e. refl
    ] refl

pub same_first : (x y : List ℕ) → is_before x y ≡ false → is_before y x ≡ false → x ≡ y
same_first x y less more =
    elim (bytes_eq x y) as (λ b. bytes_eq x y ≡ b → x ≡ y) [
      | true ↦ λ e. same_text x y e
      | false ↦ λ e. absurd (true≢false (sym (before_total x y less e) ∙ more))
    ] refl

abbrev NameSame : List (List ℕ) → List (List ℕ) → Type 0
NameSame xs ys = (did : List ℕ) → list_any (names did) xs ≡ list_any (names did) ys

same_later : (x : List ℕ) (xs ys : List (List ℕ)) → AreBehind x xs → AreBehind x ys → NameSame (x ∷ xs) (x ∷ ys) → NameSame xs ys
same_later x xs ys one other same did =
    elim (names did x) as (λ b. names did x ≡ b → b || list_any (names did) xs ≡ b || list_any (names did) ys → list_any (names did) xs ≡ list_any (names did) ys) [
      | true ↦ λ e both.
          let is : did ≡ x = same_text did x (and_parts (not (bytes_eq did [])) (bytes_eq did x) e).1 in
          let none : list_any (names did) xs ≡ false = subst (λ (d : List ℕ). list_any (names d) xs ≡ false) (sym is) (not_among x xs one) in
          none ∙ sym (subst (λ (d : List ℕ). list_any (names d) ys ≡ false) (sym is) (not_among x ys other))
      | false ↦ λ e both. both
    ] refl (same did)

pub same_dids : (low : List ℕ) (xs ys : List (List ℕ)) → AreBehind low xs → AreBehind low ys → NameSame xs ys → xs ≡ ys
same_dids low [] [] one other same = refl
same_dids low [] (y ∷ ys) one other same = absurd (false≢true (same y ∙ first_named low y ys other.0))
same_dids low (x ∷ xs) [] one other same = absurd (false≢true (sym (same x) ∙ first_named low x xs one.0))
same_dids low (x ∷ xs) (y ∷ ys) one other same =
    let is : x ≡ y = same_first x y (among_first x y ys other.1 (sym (same x) ∙ first_named low x xs one.0)) (among_first y x xs one.1 (same y ∙ first_named low y ys other.0)) in
    let there : AreBehind x ys = subst (λ (d : List ℕ). AreBehind d ys) (sym is) other.1 in
    let both : NameSame (x ∷ xs) (x ∷ ys) = subst (λ (d : List ℕ). NameSame (x ∷ xs) (d ∷ ys)) (sym is) same in
    ap (λ (l : List (List ℕ)). x ∷ l) (same_dids x xs ys one.1 there (same_later x xs ys one.1 there both)) ∙ ap (λ (d : List ℕ). d ∷ ys) is
