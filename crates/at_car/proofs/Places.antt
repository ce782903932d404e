-- Blocks that lie in a buffer, as a finite map.
use Rattle.std.proofs.Common.{◌≡◌, ◌++◌, ℕ, List, [], ◌∷◌, Bool, true, false, cond, length, map, take, drop, Some, None, Less, refl, sym, ap, ◌∙◌, subst, arith}
use Rattle.std.specs.Prelude.{option_map, is_some, T, ◌&&◌}
use Rattle.std.specs.Ordering.{is_lt, eq_by_cmp}
use Rattle.std.specs.List.{All, AllByRecursion, insert}
use Rattle.std.specs.List.Sorted.{IsStrictlySortedBy}
use Rattle.std.specs.FinMap as finite
use Rattle.std.specs.FinMap.{find, is_sorted, get, contains_key, entries, len, len-entries, from_entries, get-insert, get-from_entries, same_map}
use Rattle.std.specs.FinMap.Entries.{below_all}
use Rattle.std.proofs.lemmas.List.{take-append-le, drop-append-le, length-append, length-drop, length-map}
use Rattle.std.proofs.lemmas.List.Elements.{All-nil, All-weaker, All-head, All-tail, All-append, All-cons, All-take, All-drop}
use Rattle.at_cid.specs.Order.{key_cmp}
use Rattle.at_cid.specs.OrderLaws.{key_total}
use Rattle.at_cid.proofs.Order.{cmp_exact}
use Rattle.at_car.specs.declared.entry.ScanEntry.{ScanEntry}
use Rattle.at_car.specs.declared.place.BlockPlace.{BlockPlace}
use Rattle.at_car.specs.Blocks.{IsLinkOf, AreLinked, kept}
use Rattle.at_car.specs.Entries.{by_link, AreInOrder, place_of}
use Rattle.at_car.specs.Places.{bytes_at, laid, IsWithin, IsLaid, blocks_at}
use Rattle.at_car.proofs.Linked.{linked-empty, linked-insert}
use Rattle.at_car.proofs.Maps.{entries_again}
use Rattle.at_car.proofs.Searches.{IsGap, absent, put_between, order_between}

-- ---- look-ups

find_laid : (buffer q : List ℕ) (es : List ScanEntry) → find key_cmp q (map (laid buffer) es) ≡ option_map (bytes_at buffer) (place_of q es)
find_laid buffer q [] = refl
find_laid buffer q (e ∷ es) =
    ap (cond (eq_by_cmp key_cmp q e.link) (Some (bytes_at buffer e.place))) (find_laid buffer q es)
    ∙ elim (eq_by_cmp key_cmp q e.link) as (λ t. cond t (Some (bytes_at buffer e.place)) (option_map (bytes_at buffer) (place_of q es)) ≡ option_map (bytes_at buffer) (cond t (Some e.place) (place_of q es))) [ true ↦ refl | false ↦ refl ]

pub get_laid : (buffer q : List ℕ) (es : List ScanEntry) → get (blocks_at buffer es) q ≡ option_map (bytes_at buffer) (place_of q es)
get_laid buffer q es = get-from_entries key_total (map (laid buffer) es) q ∙ find_laid buffer q es

-- a place that is found lies within
pub found_within : (buffer : List ℕ) (es : List ScanEntry) (q : List ℕ) (place : BlockPlace) → All (IsLaid buffer) es → place_of q es ≡ Some place → IsWithin (length buffer) place
found_within buffer [] q place h e = absurd (cc)
found_within buffer (x ∷ es) q place h e =
    elim (eq_by_cmp key_cmp q x.link) as (λ t. cond t (Some x.place) (place_of q es) ≡ Some place → IsWithin (length buffer) place) [
      | true ↦ λ i. let same : x.place ≡ place = cc in subst (IsWithin (length buffer)) same (All-head (IsLaid buffer) x es h).0
      | false ↦ λ i. found_within buffer es q place (All-tail (IsLaid buffer) x es h) i
    ] e

-- ---- each block stands under a link of it

pub linked : (buffer : List ℕ) (es : List ScanEntry) → All (IsLaid buffer) es → AreLinked (blocks_at buffer es)
linked buffer [] h = linked-empty
linked buffer (e ∷ es) h = linked-insert (blocks_at buffer es) e.link (bytes_at buffer e.place) (linked buffer es (All-tail (IsLaid buffer) e es h)) (All-head (IsLaid buffer) e es h).1

-- ---- in a longer buffer the bytes are the same

pub at_further : (buffer more : List ℕ) (place : BlockPlace) → IsWithin (length buffer) place → bytes_at (buffer ++ more) place ≡ bytes_at buffer place
at_further buffer more place h =
    ap (take place.len) (drop-append-le place.start buffer more (omega (arith, h)))
    ∙ take-append-le place.len (drop place.start buffer) more (omega (arith, h, length-drop place.start buffer))

pub laid_further : (buffer more : List ℕ) (e : ScanEntry) → IsLaid buffer e → IsLaid (buffer ++ more) e
laid_further buffer more e h = (omega (arith, h.0, length-append buffer more), subst (IsLinkOf e.link) (sym (at_further buffer more e.place h.0)) h.1)

pub all_further : (buffer more : List ℕ) (es : List ScanEntry) → All (IsLaid buffer) es → All (IsLaid (buffer ++ more)) es
all_further buffer more es h = All-weaker (IsLaid buffer) (IsLaid (buffer ++ more)) (λ e l. laid_further buffer more e l) es h

same_laid : (buffer more : List ℕ) (es : List ScanEntry) → All (IsLaid buffer) es → map (laid (buffer ++ more)) es ≡ map (laid buffer) es
same_laid buffer more [] h = refl
same_laid buffer more (e ∷ es) h =
    ap (λ b. (e.link, b) ∷ map (laid (buffer ++ more)) es) (at_further buffer more e.place (All-head (IsLaid buffer) e es h).0)
    ∙ ap (λ fs. laid buffer e ∷ fs) (same_laid buffer more es (All-tail (IsLaid buffer) e es h))

pub same_blocks : (buffer more : List ℕ) (es : List ScanEntry) → All (IsLaid buffer) es → blocks_at (buffer ++ more) es ≡ blocks_at buffer es
same_blocks buffer more es h = ap (λ fs. from_entries {R = key_cmp} fs) (same_laid buffer more es h)

-- ---- entries in order are those of the map

both : (a b : Bool) → T a → T b → T (a && b)
both true b p q = q
both false b p q = absurd p

below_rest : (buffer : List ℕ) (x : ScanEntry) (es : List ScanEntry) → AllByRecursion (λ y. by_link x y ≡ Less) es → T (below_all key_cmp x.link (map (laid buffer) es))
below_rest buffer x [] h = tt
below_rest buffer x (e ∷ es) h = both (is_lt (key_cmp x.link e.link)) (below_all key_cmp x.link (map (laid buffer) es)) (subst (λ o. T (is_lt o)) (sym h.0) tt) (below_rest buffer x es h.1)

rising : (buffer : List ℕ) (es : List ScanEntry) → AreInOrder es → T (is_sorted key_cmp (map (laid buffer) es))
unfolding IsStrictlySortedBy
rising buffer [] h = tt
rising buffer (e ∷ es) h = both (below_all key_cmp e.link (map (laid buffer) es)) (is_sorted key_cmp (map (laid buffer) es)) (below_rest buffer e es h.0) (rising buffer es h.1)

pub entries_laid : (buffer : List ℕ) (es : List ScanEntry) → AreInOrder es → map (laid buffer) es ≡ entries (blocks_at buffer es)
entries_laid buffer es h = sym (entries_again (map (laid buffer) es) (rising buffer es h))

-- ---- a block that is put

abbrev pub AreKept : List ℕ → List ScanEntry → Type 0
AreKept buffer es = All (IsLaid buffer) es × AreInOrder es

pub none_kept : (buffer : List ℕ) (es : List ScanEntry) → es ≡ [] → AreKept buffer es
unfolding IsStrictlySortedBy
none_kept buffer es e = subst (AreKept buffer) (sym e) (All-nil (IsLaid buffer), tt)

pub len_laid : (buffer : List ℕ) (es : List ScanEntry) → AreInOrder es → length es ≡ len (blocks_at buffer es)
len_laid buffer es up = sym (length-map es (laid buffer)) ∙ ap length (entries_laid buffer es up) ∙ sym (len-entries (blocks_at buffer es))

-- whether a link is there
pub has_laid : (buffer q : List ℕ) (es : List ScanEntry) → contains_key (blocks_at buffer es) q ≡ is_some (place_of q es)
has_laid buffer q es = ap is_some (get_laid buffer q es) ∙ elim (place_of q es) as (λ o. is_some (option_map (bytes_at buffer) o) ≡ is_some o) [ None ↦ refl | Some p ↦ refl ]

all_between : {X : Type 0} (P : X → Type 0) (xs : List X) (i : ℕ) (x : X) → All P xs → P x → All P (insert xs i x)
all_between P xs i x h one = All-append P (take i xs) (x ∷ drop i xs) (All-take P i xs h) (All-cons P x (drop i xs) one (All-drop P i xs h))

module _ (old block new : List ℕ) (es : List ScanEntry) (longer : new ≡ old ++ block) (was : AreKept old es) where
  still_laid : All (IsLaid new) es
  still_laid = subst (λ (b : List ℕ). All (IsLaid b) es) (sym longer) (all_further old block es was.0)

  still_blocks : blocks_at new es ≡ blocks_at old es
  still_blocks = ap (λ (b : List ℕ). blocks_at b es) longer ∙ same_blocks old block es was.0

  pub nothing_put : (fs : List ScanEntry) → fs ≡ es → AreKept new fs × (blocks_at new fs ≡ blocks_at old es)
  nothing_put fs e = (subst (AreKept new) (sym e) (still_laid, was.1), ap (blocks_at new) e ∙ still_blocks)

  pub put_absent : (fs : List ScanEntry) (i : ℕ) (x : ScanEntry) → bytes_at new x.place ≡ block → IsWithin (length new) x.place → IsLinkOf x.link block → IsGap x.link es i → fs ≡ insert es i x
      → AreKept new fs × (blocks_at new fs ≡ kept (blocks_at old es) x.link block)
  put_absent fs i x is within link gap e =
      let none = absent x.link es i gap in
      let laid_x : IsLaid new x = (within, subst (IsLinkOf x.link) (sym is) link) in
      let gone : contains_key (blocks_at old es) x.link ≡ false = has_laid old x.link es ∙ ap is_some none in
      let same : blocks_at new (insert es i x) ≡ finite.insert (blocks_at old es) x.link block = same_map key_total cmp_exact _ _ (λ q.
      get_laid new q (insert es i x) ∙ ap (option_map (bytes_at new)) (put_between q es i x none)
      ∙ elim (eq_by_cmp key_cmp q x.link) as (λ t. option_map (bytes_at new) (cond t (Some x.place) (place_of q es)) ≡ cond t (Some (bytes_at new x.place)) (option_map (bytes_at new) (place_of q es))) [ true ↦ refl | false ↦ refl ]
      ∙ ap (λ b. cond (eq_by_cmp key_cmp q x.link) (Some b) (option_map (bytes_at new) (place_of q es))) is
      ∙ ap (cond (eq_by_cmp key_cmp q x.link) (Some block)) (sym (get_laid new q es) ∙ ap (λ m. get m q) still_blocks)
      ∙ sym (get-insert key_total (blocks_at old es) x.link block q)) in (
        subst (AreKept new) (sym e) (all_between (IsLaid new) es i x still_laid laid_x, order_between es i x gap was.1),
        ap (blocks_at new) e ∙ same ∙ ap (λ t. cond t (blocks_at old es) (finite.insert (blocks_at old es) x.link block)) (sym gone),
      )
