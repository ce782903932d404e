-- The holes of a pruned tree stand for parts whose blocks aren't there.
use Rattle.std.proofs.Common.{◌≡◌, ℕ, zero, suc, eqb, cond, Bool, true, false, is_some, List, [], ◌∷◌, ◌++◌, refl, sym, ap, subst, Option, Some, None, inl, inr, Less, Equal, Greater, Ordering}
use Rattle.std.specs.FinMap as map
use Rattle.std.specs.FinMap.{FinMap}
use Rattle.sha2.specs.Sha256.{sha256}
use Rattle.at_cid.specs.Link.{IsNodeLink, cid}
use Rattle.at_cid.specs.Order.{key_cmp}
use Rattle.at_cid.proofs.Order.{cmp_below}
use Rattle.mst_list.specs.Edits.{EndsInHole, StartsWithHole, after, before, by_order, value_at}
use Rattle.mst_list.specs.Height.{height}
use Rattle.mst_list.specs.Lists.{KeysOnly}
use Rattle.mst_list.specs.declared.item.Item.{Item}
use Rattle.mst_list.specs.declared.item.Item.TheVariants.{Hole, Key}
use Rattle.mst_list.proofs.Puts.{visible}
use Rattle.mst_node.specs.Covers.{AreUnderNodeLinks, IsOneOf, IsOver, IsThere, IsUnder, Encoded, bound_at, part_encoded, right_encoded, encoded_blocks}
use Rattle.mst_node.specs.Trees.{Distinct, IsAmong, first_part, encode_layer}
use Rattle.mst_law.proofs.Pruned.{pruned_node, pruned_part, pruned_rights}

pub one_first : (e : Encoded) (X Y : List Encoded) → IsOneOf e X → IsOneOf e (X ++ Y)
one_first e (x ∷ X) Y (inl h) = inl h
one_first e (x ∷ X) Y (inr h) = inr (one_first e X Y h)
one_first e [] Y h = absurd h

pub one_last : (e : Encoded) (X Y : List Encoded) → IsOneOf e Y → IsOneOf e (X ++ Y)
one_last e [] Y h = h
one_last e (x ∷ X) Y h = inr (one_last e X Y h)

abbrev pub IsPartOf : List Encoded → List Encoded → Type 0
IsPartOf X T = (e : Encoded) → IsOneOf e X → IsOneOf e T

-- the first key, or else the bound
abbrev pub next_key : Option (List ℕ) → List Item → Option (List ℕ)
next_key high [] = high
next_key high (Key k v ∷ F) = Some k
next_key high (Hole l c ∷ F) = next_key high F

module _ (B : FinMap key_cmp (List ℕ)) (T : List Encoded) where
  -- the link is that of a part between the bounds, whose block isn't there
  pub record IsMissing (low high : Option (List ℕ)) (c : List ℕ) : Type 0 where
    pub block : List ℕ
    pub link : c ≡ cid block
    pub missing : map.get B c ≡ None
    pub encoded : IsOneOf (record { low = low; high = high; block = block }) T

  abbrev pub HolesKnown : Option (List ℕ) → Option (List ℕ) → List Item → Type 0
  HolesKnown low high [] = Unit {0}
  HolesKnown low high (Key k v ∷ F) = HolesKnown (Some k) high F
  HolesKnown low high (Hole l c ∷ F) = IsMissing low (next_key high F) c × HolesKnown low high F

  next_joined : (high : Option (List ℕ)) (A G : List Item) → next_key high (A ++ G) ≡ next_key (next_key high G) A
  next_joined high [] G = refl
  next_joined high (Key k v ∷ A) G = refl
  next_joined high (Hole l c ∷ A) G = next_joined high A G

  known_joined : (low high : Option (List ℕ)) (A G : List Item) → HolesKnown low (next_key high G) A → ((l : Option (List ℕ)) → HolesKnown l high G) → HolesKnown low high (A ++ G)
  known_joined low high [] G a g = g low
  known_joined low high (Key k v ∷ A) G a g = known_joined (Some k) high A G a g
  known_joined low high (Hole l c ∷ A) G a g =
      let R : Option (List ℕ) → Type 0 = λ n. IsMissing low n c in
      (subst R (sym (next_joined high A G)) a.0, known_joined low high A G a.1 g)

  -- all that holds of k's way
  abbrev pub IsHeld : List ℕ → Type 0
  IsHeld k = (e : Encoded) → IsOneOf e T → IsOver e.low k → IsUnder k e.high → IsThere B e.block

  next_above : (k : List ℕ) (high : Option (List ℕ)) (F : List Item) → IsUnder k high → before k F ≡ [] → value_at k F ≡ None → IsUnder k (next_key high F)
  next_above k high [] u b v = u
  next_above k high (Hole l c ∷ F) u b v = absurd (cc)
  next_above k high (Key j w ∷ F) u b v = go (key_cmp j k) refl b v
    where
      go : (o : Ordering) → key_cmp j k ≡ o → by_order o (Key j w ∷ before k F) [] [] ≡ [] → by_order o (value_at k F) (Some w) None ≡ None → key_cmp k j ≡ Less
      go Less e b v = absurd (cc)
      go Equal e b v = absurd (cc)
      go Greater e b v = cmp_below j k e

  ends_more : (x y : Item) (A : List Item) → EndsInHole (x ∷ (y ∷ A)) → EndsInHole (y ∷ A)
  ends_more (Key j v) y A h = h
  ends_more (Hole l c) y A h = h

  -- no hole stands in the gap of a key whose way is held
  pub no_gap_hole : (k : List ℕ) (low high : Option (List ℕ)) (F : List Item) → IsHeld k → HolesKnown low high F → IsOver low k → IsUnder k high → value_at k F ≡ None → EndsInHole (before k F) → ⊥
  no_gap_hole k low high [] held known over under none ends = ends
  no_gap_hole k low high (Hole l c ∷ F) held known over under none ends = go (before k F) refl ends (λ h. no_gap_hole k low high F held known.1 over under none h)
    where
      go : (A : List Item) → before k F ≡ A → EndsInHole (Hole l c ∷ A) → (EndsInHole (before k F) → ⊥) → ⊥
      go [] e h more =
          let m = known.0 in
          let there = held (record { low = low; high = next_key high F; block = m.block }) m.encoded over (next_above k high F under e none) in
          let same : map.get B c ≡ map.get B (cid m.block) = ap (map.get B) m.link in
          let gone = m.missing in absurd (cc)
      go (y ∷ A) e h more = let R : List Item → Type 0 = λ x. EndsInHole x in more (subst R (sym e) (ends_more (Hole l c) y A h))
  no_gap_hole k low high (Key j v ∷ F) held known over under none ends = go (key_cmp j k) refl none ends (λ e n h. no_gap_hole k (Some j) high F held known e under n h)
    where
      tail : (A : List Item) → EndsInHole (Key j v ∷ A) → EndsInHole A
      tail [] h = h
      tail (y ∷ A) h = h

      go : (o : Ordering) → key_cmp j k ≡ o → by_order o (value_at k F) (Some v) None ≡ None → EndsInHole (by_order o (Key j v ∷ before k F) [] []) → (key_cmp j k ≡ Less → value_at k F ≡ None → EndsInHole (before k F) → ⊥) → ⊥
      go Less e n h more = more e n (tail (before k F) h)
      go Equal e n h more = h
      go Greater e n h more = h

-- where the key isn't visible, a key or nothing follows its gap
pub no_hole_next : (k : List ℕ) (F : List Item) → value_at k F ≡ None → StartsWithHole (after k F) → ⊥
no_hole_next k [] n h = h
no_hole_next k (Hole l c ∷ F) n h = no_hole_next k F n h
no_hole_next k (Key j v ∷ F) n h =
    elim (key_cmp j k) as (λ o. by_order o (value_at k F) (Some v) None ≡ None → StartsWithHole (by_order o (after k F) F (Key j v ∷ F)) → ⊥) [
      | Less ↦ λ m g. no_hole_next k F m g
      | Equal ↦ λ m g. absurd (cc)
      | Greater ↦ λ m g. g
    ] n h

module _ (S : List (List ℕ)) (distinct : Distinct S) (B : FinMap key_cmp (List ℕ)) (under : AreUnderNodeLinks B)
    (alike : (c b a : List ℕ) → IsNodeLink c → map.get B c ≡ Some b → IsAmong a S → sha256 b ≡ sha256 a → b ≡ a) (T : List Encoded) where
  abbrev part : ℕ → List Item → List Item
  part h P = pruned_part S distinct B under alike h P

  abbrev rights : ℕ → List Item → List Item
  rights h P = pruned_rights S distinct B under alike (pruned_part S distinct B under alike h) h P

  abbrev PartsKnown : ℕ → Type 0
  PartsKnown h = (low high : Option (List ℕ)) (P : List Item) → KeysOnly P → IsPartOf (part_encoded h low high P) T → HolesKnown B T low high (part h P)

  next_rights : (h : ℕ) (high : Option (List ℕ)) (P : List Item) → next_key high (rights h P) ≡ bound_at h high P
  next_rights h high [] = refl
  next_rights h high (Hole l c ∷ P) = next_rights h high P
  next_rights h high (Key k v ∷ P) =
      elim (eqb (height k) h) as (λ b. next_key high (cond b (Key k v ∷ (part h (first_part h P) ++ rights h P)) (rights h P)) ≡ cond b (Some k) (bound_at h high P)) [
        | true ↦ refl
        | false ↦ next_rights h high P
      ]

  first_keys_only : (h : ℕ) (P : List Item) → KeysOnly P → KeysOnly (first_part h P)
  first_keys_only h [] k = tt
  first_keys_only h (Hole l c ∷ P) k = absurd k
  first_keys_only h (Key j v ∷ P) k = elim (eqb (height j) h) as (λ b. KeysOnly (cond b [] (Key j v ∷ first_part h P))) [ true ↦ tt | false ↦ first_keys_only h P k ]

  rights_known : (h : ℕ) → PartsKnown h → (high : Option (List ℕ)) (P : List Item) → KeysOnly P → IsPartOf (right_encoded (part_encoded h) h high P) T → (low : Option (List ℕ)) → HolesKnown B T low high (rights h P)
  rights_known h ih high [] k w low = tt
  rights_known h ih high (Hole l c ∷ P) k w low = absurd k
  rights_known h ih high (Key j v ∷ P) k w low =
      let X = part_encoded h (Some j) (bound_at h high P) (first_part h P) in let Y = right_encoded (part_encoded h) h high P in
      let W : Bool → Type 0 = λ b. IsPartOf (cond b (X ++ Y) Y) T in
      elim (eqb (height j) h) as (λ b. eqb (height j) h ≡ b → HolesKnown B T low high (cond b (Key j v ∷ (part h (first_part h P) ++ rights h P)) (rights h P))) [
        | true ↦ λ e.
            let w' = subst W e w in
            let R : Option (List ℕ) → Type 0 = λ n. HolesKnown B T (Some j) n (part h (first_part h P)) in
            known_joined B T (Some j) high (part h (first_part h P)) (rights h P)
            (subst R (sym (next_rights h high P)) (ih (Some j) (bound_at h high P) (first_part h P) (first_keys_only h P k) (λ x i. w' x (one_first x X Y i))))
            (rights_known h ih high P k (λ x i. w' x (one_last x X Y i)))
        | false ↦ λ e. rights_known h ih high P k (subst W e w) low
      ] refl

  pub node_known : (h : ℕ) → PartsKnown h → (low high : Option (List ℕ)) (P : List Item) → KeysOnly P
      → IsPartOf (part_encoded h low (bound_at h high P) (first_part h P)) T → IsPartOf (right_encoded (part_encoded h) h high P) T → HolesKnown B T low high (pruned_node S distinct B under alike h P)
  node_known h ih low high P k w u =
      let R : Option (List ℕ) → Type 0 = λ n. HolesKnown B T low n (part h (first_part h P)) in
      known_joined B T low high (part h (first_part h P)) (rights h P)
      (subst R (sym (next_rights h high P)) (ih low (bound_at h high P) (first_part h P) (first_keys_only h P k) w))
      (rights_known h ih high P k u)

  none_of : (o : Option (List ℕ)) → is_some o ≡ false → o ≡ None
  none_of None e = refl
  none_of (Some b) e = absurd (cc)

  pub parts_known : (h : ℕ) → PartsKnown h
  unfolding pruned_part part_encoded
  parts_known zero low high P k w = tt
  parts_known (suc h) low high [] k w = tt
  parts_known (suc h) low high (x ∷ P) k w =
      let c = cid (encode_layer h (x ∷ P)) in
      let X = part_encoded h low (bound_at h high (x ∷ P)) (first_part h (x ∷ P)) in let Y = right_encoded (part_encoded h) h high (x ∷ P) in
      elim (is_some (map.get B c)) as (λ b. is_some (map.get B c) ≡ b → HolesKnown B T low high (cond b (pruned_node S distinct B under alike h (x ∷ P)) (Hole h c ∷ []))) [
        | true ↦ λ e. node_known h (parts_known h) low high (x ∷ P) k (λ y i. w y (inr (one_first y X Y i))) (λ y i. w y (inr (one_last y X Y i)))
        | false ↦ λ e. (record { block = encode_layer h (x ∷ P); link = refl; missing = none_of (map.get B c) e; encoded = w (record { low = low; high = high; block = encode_layer h (x ∷ P) }) (inl refl) }, tt)
      ] refl
