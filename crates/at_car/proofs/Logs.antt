-- What is told of blocks that came one after the other.
use Rattle.std.proofs.Common.{◌≡◌, ◌≤◌, ◌++◌, ℕ, List, [], ◌∷◌, Bool, true, false, cond, ◌-◌, append_assoc, get_or, take, drop, length, map, Option, Some, None, Less, refl, sym, ap, ◌∙◌, subst, arith}
use Rattle.std.specs.Prelude.{option_map, not, ◌||◌, ◌==◌}
use Rattle.std.proofs.lemmas.Bool.Decides.{nat_tests}
use Rattle.std.specs.Ordering.{eq_by_cmp}
use Rattle.std.specs.List.{All, AllByRecursion, filter}
use Rattle.std.specs.List.Sorted.{IsStrictlySortedBy}
use Rattle.std.specs.FinMap.{find, get}
use Rattle.std.proofs.lemmas.List.{take_all}
use Rattle.std.proofs.lemmas.List.Elements.{All-nil, All-weaker, All-head, All-tail, All-cons, All-push}
use Rattle.std.proofs.lemmas.List.Kept.{IsStrictlySortedBy-filter}
use Rattle.at_cid.specs.Order.{key_cmp}
use Rattle.at_car.specs.declared.entry.ScanEntry.{ScanEntry}
use Rattle.at_car.specs.declared.place.BlockPlace.{BlockPlace}
use Rattle.at_car.specs.Blocks.{IsLinkOf}
use Rattle.at_car.specs.Entries.{by_link, AreInOrder, place_of}
use Rattle.at_car.specs.Links.{has}
use Rattle.at_car.specs.Logs.{Told, is_held, told, IsTold, held, was_let_go, links_let_go}
use Rattle.at_car.specs.Places.{bytes_at, IsWithin, IsLaid, blocks_at}
use Rattle.at_car.proofs.Same.{same_link, below_differs}
use Rattle.at_car.proofs.Places.{get_laid, at_further, laid_further}

-- ---- look-ups

abbrev held_at : List ℕ → BlockPlace → Option (List ℕ)
held_at buffer p = cond (not (p.start == 0)) (Some (bytes_at buffer p)) None

find_told : (buffer q : List ℕ) (es : List ScanEntry) → find key_cmp q (map (told buffer) es) ≡ option_map (held_at buffer) (place_of q es)
find_told buffer q [] = refl
find_told buffer q (e ∷ es) =
    ap (cond (eq_by_cmp key_cmp q e.link) (Some (held_at buffer e.place))) (find_told buffer q es)
    ∙ elim (eq_by_cmp key_cmp q e.link) as (λ t. cond t (Some (held_at buffer e.place)) (option_map (held_at buffer) (place_of q es)) ≡ option_map (held_at buffer) (cond t (Some e.place) (place_of q es))) [ true ↦ refl | false ↦ refl ]

pub same_found : (buffer q : List ℕ) (es fs : List ScanEntry) → place_of q fs ≡ place_of q es → find key_cmp q (map (told buffer) fs) ≡ find key_cmp q (map (told buffer) es)
same_found buffer q es fs h = find_told buffer q fs ∙ ap (option_map (held_at buffer)) h ∙ sym (find_told buffer q es)

-- ---- in a longer buffer the same is told

told_further : (buffer more : List ℕ) (e : ScanEntry) → IsTold buffer e → told (buffer ++ more) e ≡ told buffer e
told_further buffer more e h =
    elim (is_held e) as (λ t. (t ≡ true → IsLaid buffer e) → ◌≡◌ {A = Told} (e.link, cond t (Some (bytes_at (buffer ++ more) e.place)) None) (e.link, cond t (Some (bytes_at buffer e.place)) None)) [
      | true ↦ λ h. ap (λ b. (e.link, Some b)) (at_further buffer more e.place (h refl).0)
      | false ↦ λ h. refl
    ] h

all_told : (buffer more : List ℕ) (es : List ScanEntry) → All (IsTold buffer) es → All (IsTold (buffer ++ more)) es
all_told buffer more es h = All-weaker (IsTold buffer) (IsTold (buffer ++ more)) (λ e t held. laid_further buffer more e (t held)) es h

same_told : (buffer more : List ℕ) (es : List ScanEntry) → All (IsTold buffer) es → map (told (buffer ++ more)) es ≡ map (told buffer) es
same_told buffer more [] h = refl
same_told buffer more (e ∷ es) h =
    ap (λ t. t ∷ map (told (buffer ++ more)) es) (told_further buffer more e (All-head (IsTold buffer) e es h)) ∙ ap (λ ts. told buffer e ∷ ts) (same_told buffer more es (All-tail (IsTold buffer) e es h))

pushed : (buffer : List ℕ) (es : List ScanEntry) (e : ScanEntry) → map (told buffer) (es ++ e ∷ []) ≡ map (told buffer) es ++ told buffer e ∷ []
pushed buffer [] e = refl
pushed buffer (x ∷ es) e = ap (λ ts. told buffer x ∷ ts) (pushed buffer es e)

module _ (old new more : List ℕ) (es : List ScanEntry) (longer : new ≡ old ++ more) (was : All (IsTold old) es) where
  still_told : All (IsTold new) es
  still_told = subst (λ (b : List ℕ). All (IsTold b) es) (sym longer) (all_told old more es was)

  still : map (told new) es ≡ map (told old) es
  still = ap (λ (b : List ℕ). map (told b) es) longer ∙ same_told old more es was

  -- nothing more is told
  pub nothing_told : (fs : List ScanEntry) → fs ≡ es → All (IsTold new) fs × (map (told new) fs ≡ map (told old) es)
  nothing_told fs e = (subst (λ (l : List ScanEntry). All (IsTold new) l) (sym e) still_told, ap (map (told new)) e ∙ still)

  -- a block more is told
  pub block_told : (fs : List ScanEntry) (link block : List ℕ) (place : BlockPlace) → fs ≡ es ++ record { link = link; place = place } ∷ [] → bytes_at new place ≡ block → IsWithin (length new) place → 1 ≤ place.start → IsLinkOf link block
      → All (IsTold new) fs × (map (told new) fs ≡ map (told old) es ++ (link, Some block) ∷ [])
  block_told fs link block place e is within behind of =
      let x : ScanEntry = record { link = link; place = place } in
      let here : is_held x ≡ true = grind (arith, nat_tests, behind) in
      let laid_x : IsTold new x = λ h. (within, subst (IsLinkOf link) (sym is) of) in (
        subst (λ (l : List ScanEntry). All (IsTold new) l) (sym e) (All-push (IsTold new) es x still_told laid_x),
        ap (map (told new)) e ∙ pushed new es x ∙ ap (λ t. map (told new) es ++ (link, cond t (Some (bytes_at new place)) None) ∷ []) here
            ∙ ap (λ b. map (told new) es ++ (link, Some b) ∷ []) is ∙ ap (λ ts. ts ++ (link, Some block) ∷ []) still,
      )

-- a link more is told
pub link_told : (buffer : List ℕ) (es fs : List ScanEntry) (x : ScanEntry) → x.place.start ≡ 0 → fs ≡ es ++ x ∷ [] → All (IsTold buffer) es → All (IsTold buffer) fs × (map (told buffer) fs ≡ map (told buffer) es ++ (x.link, None) ∷ [])
link_told buffer es fs x none e was =
    let gone : is_held x ≡ false = ap (λ n. not (n == 0)) none in
    let told_x : IsTold buffer x = λ h. absurd (cc) in (
      subst (λ (l : List ScanEntry). All (IsTold buffer) l) (sym e) (All-push (IsTold buffer) es x was told_x),
      ap (map (told buffer)) e ∙ pushed buffer es x ∙ ap (λ t. map (told buffer) es ++ (x.link, cond t (Some (bytes_at buffer x.place)) None) ∷ []) gone,
    )

-- an entry more is told again
pub told_again : (buffer : List ℕ) (log new : List Told) (rest : List ScanEntry) (x : ScanEntry) (total : List Told) → 1 ≤ length rest → x ≡ get_or rest 0 x → new ≡ log ++ told buffer x ∷ [] → log ++ map (told buffer) rest ≡ total → All (IsTold buffer) rest
    → (new ++ map (told buffer) (take (length rest - 1) (drop 1 rest)) ≡ total) × All (IsTold buffer) (take (length rest - 1) (drop 1 rest))
told_again buffer log new [] x total some first more h all = absurd (omega (arith, some))
told_again buffer log new (y ∷ rest) x total some first more h all =
    let same : take (length rest) rest ≡ rest = take_all (length rest) rest (omega arith) in
    let left : take (length (y ∷ rest) - 1) rest ≡ rest = ap (λ n. take n rest) (omega arith) ∙ same in (
      ap (λ (l : List ScanEntry). new ++ map (told buffer) l) left ∙ ap (λ (l : List Told). l ++ map (told buffer) rest) more
          ∙ append_assoc log (told buffer x ∷ []) (map (told buffer) rest) ∙ ap (λ e. log ++ told buffer e ∷ map (told buffer) rest) first ∙ h,
      subst (λ (l : List ScanEntry). All (IsTold buffer) l) (sym left) (All-tail (IsTold buffer) y rest all),
    )

-- ---- what is held, and what isn't, of entries in order

none_later : (q : List ℕ) (es : List ScanEntry) → AllByRecursion (λ (y : ScanEntry). key_cmp q y.link ≡ Less) es → (place_of q (filter is_held es) ≡ None) × (has (links_let_go es) q ≡ false)
none_later q [] h = (refl, refl)
none_later q (e ∷ es) h =
    let rest = none_later q es h.1 in
    let differs = below_differs q e.link h.0 in
    elim (is_held e) as (λ t. (place_of q (cond t (e ∷ filter is_held es) (filter is_held es)) ≡ None) × (has (cond t (links_let_go es) (e.link ∷ links_let_go es)) q ≡ false)) [
      | true ↦ (ap (λ s. cond s (Some e.place) (place_of q (filter is_held es))) differs ∙ rest.0, rest.1)
      | false ↦ (rest.0, ap (λ s. s || has (links_let_go es) q) differs ∙ rest.1)
    ]

abbrev held_place : Option BlockPlace → Option BlockPlace
held_place None = None
held_place (Some p) = cond (not (p.start == 0)) (Some p) None

abbrev no_place : Option BlockPlace → Bool
no_place None = false
no_place (Some p) = cond (not (p.start == 0)) false true

parted : (q : List ℕ) (es : List ScanEntry) → AreInOrder es → (place_of q (filter is_held es) ≡ held_place (place_of q es)) × (has (links_let_go es) q ≡ no_place (place_of q es))
unfolding IsStrictlySortedBy
parted q [] up = (refl, refl)
parted q (e ∷ es) up =
    let F = filter is_held es in let L = links_let_go es in
    let rest = parted q es up.1 in
    elim (eq_by_cmp key_cmp q e.link) as (λ s. eq_by_cmp key_cmp q e.link ≡ s → (place_of q (cond (is_held e) (e ∷ F) F) ≡ held_place (cond s (Some e.place) (place_of q es))) × (has (cond (is_held e) L (e.link ∷ L)) q ≡ no_place (cond s (Some e.place) (place_of q es)))) [
      | true ↦ λ h.
          let above : AllByRecursion (λ (y : ScanEntry). key_cmp q y.link ≡ Less) es = subst (λ l. AllByRecursion (λ (y : ScanEntry). key_cmp l y.link ≡ Less) es) (sym (same_link q e.link h)) up.0 in
          let none = none_later q es above in
          elim (is_held e) as (λ t. (place_of q (cond t (e ∷ F) F) ≡ cond t (Some e.place) None) × (has (cond t L (e.link ∷ L)) q ≡ cond t false true)) [
            | true ↦ (ap (λ s. cond s (Some e.place) (place_of q F)) h, none.1)
            | false ↦ (none.0, ap (λ s. s || has L q) h)
          ]
      | false ↦ λ h.
          elim (is_held e) as (λ t. (place_of q (cond t (e ∷ F) F) ≡ held_place (place_of q es)) × (has (cond t L (e.link ∷ L)) q ≡ no_place (place_of q es))) [
            | true ↦ (ap (λ s. cond s (Some e.place) (place_of q F)) h ∙ rest.0, rest.1)
            | false ↦ (rest.0, ap (λ s. s || has L q) h ∙ rest.1)
          ]
    ] refl

pub held_found : (buffer q : List ℕ) (es : List ScanEntry) → AreInOrder es → get (blocks_at buffer (filter is_held es)) q ≡ held (find key_cmp q (map (told buffer) es))
held_found buffer q es up =
    get_laid buffer q (filter is_held es) ∙ ap (option_map (bytes_at buffer)) (parted q es up).0
    ∙ elim (place_of q es) as (λ o. option_map (bytes_at buffer) (held_place o) ≡ held (option_map (held_at buffer) o)) [
      | None ↦ refl
      | Some p ↦ elim (not (p.start == 0)) as (λ t. option_map (bytes_at buffer) (cond t (Some p) None) ≡ cond t (Some (bytes_at buffer p)) None) [ true ↦ refl | false ↦ refl ]
    ] ∙ ap held (sym (find_told buffer q es))

pub let_go_found : (buffer q : List ℕ) (es : List ScanEntry) → AreInOrder es → has (links_let_go es) q ≡ was_let_go (find key_cmp q (map (told buffer) es))
let_go_found buffer q es up =
    (parted q es up).1
    ∙ elim (place_of q es) as (λ o. no_place o ≡ was_let_go (option_map (held_at buffer) o)) [
      | None ↦ refl
      | Some p ↦ elim (not (p.start == 0)) as (λ t. cond t false true ≡ was_let_go (Some (cond t (Some (bytes_at buffer p)) None))) [ true ↦ refl | false ↦ refl ]
    ] ∙ ap was_let_go (sym (find_told buffer q es))

pub all_held : (buffer : List ℕ) (es : List ScanEntry) → All (IsTold buffer) es → All (IsLaid buffer) (filter is_held es)
all_held buffer [] h = All-nil (IsLaid buffer)
all_held buffer (e ∷ es) h =
    let rest = all_held buffer es (All-tail (IsTold buffer) e es h) in
    elim (is_held e) as (λ t. (t ≡ true → IsLaid buffer e) → All (IsLaid buffer) (cond t (e ∷ filter is_held es) (filter is_held es))) [
      | true ↦ λ h. All-cons (IsLaid buffer) e (filter is_held es) (h refl) rest
      | false ↦ λ h. rest
    ] (All-head (IsTold buffer) e es h)

pub order_held : (es : List ScanEntry) → AreInOrder es → AreInOrder (filter is_held es)
order_held es up = IsStrictlySortedBy-filter by_link is_held es up

below_let_go : (q : List ℕ) (es : List ScanEntry) → AllByRecursion (λ (y : ScanEntry). key_cmp q y.link ≡ Less) es → AllByRecursion (λ y. key_cmp q y ≡ Less) (links_let_go es)
below_let_go q [] h = tt
below_let_go q (e ∷ es) h = let rest = below_let_go q es h.1 in elim (is_held e) as (λ t. AllByRecursion (λ y. key_cmp q y ≡ Less) (cond t (links_let_go es) (e.link ∷ links_let_go es))) [ true ↦ rest | false ↦ (h.0, rest) ]

pub order_let_go : (es : List ScanEntry) → AreInOrder es → IsStrictlySortedBy key_cmp (links_let_go es)
unfolding IsStrictlySortedBy
order_let_go [] up = tt
order_let_go (e ∷ es) up =
    let rest = order_let_go es up.1 in elim (is_held e) as (λ t. IsStrictlySortedBy key_cmp (cond t (links_let_go es) (e.link ∷ links_let_go es))) [ true ↦ rest | false ↦ (below_let_go e.link es up.0, rest) ]
