-- No two nodes of a view have the same block, so there are at most as many as blocks.
use Rattle.std.proofs.Common.{◌≡◌, ◌≢◌, ℕ, zero, suc, ◌-◌, ◌<◌, ◌≤◌, eqb, cond, true, false, List, [], ◌∷◌, ◌++◌, length, refl, sym, ap, ◌∙◌, subst, Less, Equal, Greater, Option, Some, None, ◌⊎◌, inl, inr, arith}
use Rattle.std.specs.Ordering.{eq_by_cmp, is_eq}
use Rattle.std.specs.FinMap as map
use Rattle.std.specs.FinMap.{FinMap}
use Rattle.at_cid.specs.Link.{cid}
use Rattle.at_cid.specs.Order.{key_cmp}
use Rattle.at_cid.specs.OrderLaws.{key_total}
use Rattle.at_cid.proofs.Order.{cmp_same, cmp_exact}
use Rattle.mst_list.specs.declared.item.Item.{Item}
use Rattle.mst_list.specs.declared.item.Item.TheVariants.{Key, Hole}
use Rattle.mst_list.specs.Height.{height}
use Rattle.mst_list.specs.Lists.{AllAbove, Ascends, HolesDiffer, NoHoleOf}
use Rattle.mst_node.specs.declared.entry.Entry.{Entry}
use Rattle.mst_node.specs.Trees.{AllThere, IsAmong, IsView, entries_at, first_part, nodes, nodes_at, part_link, part_nodes, right_nodes, encode_layer, top_layer}
use Rattle.mst_node.proofs.Joins.{rest_part, two_parts}
use Rattle.mst_node.proofs.Layers.{eqb_same, eqb_yes, holes_within, keys_under_top}
use Rattle.mst_node.proofs.Links.{entries_formed, first_formed, link_formed}
use Rattle.mst_node.proofs.Parts.{IsHolePart, IsNodePart, IsPart, first_part_of, kind_of, there_first, there_last}
use Rattle.mst_node.proofs.Encoding.{entry_of, node_same}

-- no block stands twice
abbrev AllUnlike : List (List ℕ) → Type 0
AllUnlike [] = Unit {0}
AllUnlike (b ∷ S) = (IsAmong b S → ⊥) × AllUnlike S

among_joined : (b : List ℕ) (S T : List (List ℕ)) → IsAmong b (S ++ T) → IsAmong b S ⊎ IsAmong b T
among_joined b [] T i = inr i
among_joined b (c ∷ S) T (inl e) = inl (inl e)
among_joined b (c ∷ S) T (inr i) = go (among_joined b S T i)
  where
    go : IsAmong b S ⊎ IsAmong b T → IsAmong b (c ∷ S) ⊎ IsAmong b T
    go (inl j) = inl (inr j)
    go (inr j) = inr j

unlike_joined : (S T : List (List ℕ)) → AllUnlike S → AllUnlike T → ((b : List ℕ) → IsAmong b S → IsAmong b T → ⊥) → AllUnlike (S ++ T)
unlike_joined [] T s t apart = t
unlike_joined (b ∷ S) T s t apart = (λ i. go (among_joined b S T i), unlike_joined S T s.1 t (λ c i j. apart c (inr i) j))
  where
    go : IsAmong b S ⊎ IsAmong b T → ⊥
    go (inl i) = s.0 i
    go (inr j) = apart b (inl refl) j

-- blocks that are there and differ
some_there : (B : FinMap key_cmp (List ℕ)) (c b : List ℕ) → map.get B c ≡ Some b → 0 < map.len B
some_there B c b e = go (map.len B) refl
  where
    go : (n : ℕ) → map.len B ≡ n → 0 < n
    go zero p = let gone : map.get B c ≡ None = ap (λ (m : FinMap key_cmp (List ℕ)). map.get m c) (map.empty_of_len B p) ∙ map.get-empty key_cmp c in absurd (cc)
    go (suc n) p = omega arith

among_there : (B : FinMap key_cmp (List ℕ)) (S : List (List ℕ)) (d : List ℕ) → AllThere B S → IsAmong d S → map.get B (cid d) ≡ Some d
among_there B [] d t i = absurd i
among_there B (b ∷ S) d t (inl e) = let R : List ℕ → Type 0 = λ x. map.get B (cid x) ≡ Some x in subst R (sym e) t.0
among_there B (b ∷ S) d t (inr i) = among_there B S d t.1 i

not_tied : (a c : List ℕ) → a ≢ c → eq_by_cmp key_cmp a c ≡ false
not_tied a c n = elim (key_cmp a c) as (λ o. key_cmp a c ≡ o → is_eq o ≡ false) [ Less ↦ λ e. refl | Equal ↦ λ e. absurd (n (cmp_exact a c e)) | Greater ↦ λ e. refl ] refl

there_without : (B : FinMap key_cmp (List ℕ)) (c : List ℕ) (S : List (List ℕ)) → ((d : List ℕ) → IsAmong d S → cid d ≢ c) → AllThere B S → AllThere (map.remove B c) S
there_without B c [] other t = tt
there_without B c (b ∷ S) other t =
    (map.get-remove key_total B c (cid b) ∙ ap (λ x. cond x None (map.get B (cid b))) (not_tied (cid b) c (other b (inl refl))) ∙ t.0, there_without B c S (λ d i. other d (inr i)) t.1)

at_most : (S : List (List ℕ)) (B : FinMap key_cmp (List ℕ)) → AllThere B S → AllUnlike S → length S ≤ map.len B
at_most [] B t u = omega arith
at_most (b ∷ S) B t u =
    let c = cid b in
    let other : (d : List ℕ) → IsAmong d S → cid d ≢ c = λ d i e. u.0 (let at = among_there B S d t.1 i in let here = t.0 in let same = ap (map.get B) e in let one : d ≡ b = cc in let R : List ℕ → Type 0 = λ x. IsAmong x S in subst R one i) in
    let more = at_most S (map.remove B c) (there_without B c S other t.1) u.1 in
    let less : map.len (map.remove B c) ≡ map.len B - 1 = map.len-remove key_total B c ∙ (rw t.0 refl) in
    let some = some_there B c b t.0 in
    omega arith

-- an item of a list
abbrev IsIn : Item → List Item → Type 0
IsIn x [] = ⊥
IsIn x (y ∷ F) = (x ≡ y) ⊎ IsIn x F

-- no item stands twice
abbrev AreSingle : List Item → Type 0
AreSingle [] = Unit {0}
AreSingle (x ∷ F) = (IsIn x F → ⊥) × AreSingle F

key_single : (k v : List ℕ) (F : List Item) → AllAbove k F → IsIn (Key k v) F → ⊥
key_single k v (Key j w ∷ F) a (inl e) = let same : k ≡ j = cc in let tied : key_cmp k j ≡ Equal = rw same (cmp_same j) in let less = a.0 in absurd (cc)
key_single k v (Key j w ∷ F) a (inr i) = key_single k v F a.1 i
key_single k v (Hole l c ∷ F) a (inl e) = absurd (cc)
key_single k v (Hole l c ∷ F) a (inr i) = key_single k v F a i
key_single k v [] a i = absurd i

hole_single : (l : ℕ) (c : List ℕ) (F : List Item) → NoHoleOf c F → IsIn (Hole l c) F → ⊥
hole_single l c (Key j w ∷ F) a (inl e) = absurd (cc)
hole_single l c (Key j w ∷ F) a (inr i) = hole_single l c F a i
hole_single l c (Hole m d ∷ F) a (inl e) = a.0 (cc)
hole_single l c (Hole m d ∷ F) a (inr i) = hole_single l c F a.1 i
hole_single l c [] a i = absurd i

single_of : (F : List Item) → Ascends F → HolesDiffer F → AreSingle F
single_of [] a d = tt
single_of (Key k v ∷ F) a d = (key_single k v F a.0, single_of F a.1 d)
single_of (Hole l c ∷ F) a d = (hole_single l c F d.0, single_of F a d.1)

one_hole : (F : List Item) → HolesDiffer F → (l n : ℕ) (c : List ℕ) → IsIn (Hole l c) F → IsIn (Hole n c) F → l ≡ n
one_hole [] d l n c i j = absurd i
one_hole (Key k v ∷ F) d l n c (inl e) j = absurd (cc)
one_hole (Key k v ∷ F) d l n c (inr i) (inl e) = absurd (cc)
one_hole (Key k v ∷ F) d l n c (inr i) (inr j) = one_hole F d l n c i j
one_hole (Hole m b ∷ F) d l n c (inl e) (inl f) = cc
one_hole (Hole m b ∷ F) d l n c (inl e) (inr j) = let same : c ≡ b = cc in let R : List ℕ → Type 0 = λ x. NoHoleOf x F in absurd (hole_single n c F (subst R (sym same) d.0) j)
one_hole (Hole m b ∷ F) d l n c (inr i) (inl f) = let same : c ≡ b = cc in let R : List ℕ → Type 0 = λ x. NoHoleOf x F in absurd (hole_single l c F (subst R (sym same) d.0) i)
one_hole (Hole m b ∷ F) d l n c (inr i) (inr j) = one_hole F d.1 l n c i j

in_joined_first : (x : Item) (A C : List Item) → IsIn x A → IsIn x (A ++ C)
in_joined_first x [] C i = absurd i
in_joined_first x (y ∷ A) C (inl e) = inl e
in_joined_first x (y ∷ A) C (inr i) = inr (in_joined_first x A C i)

in_joined_last : (x : Item) (A C : List Item) → IsIn x C → IsIn x (A ++ C)
in_joined_last x [] C i = i
in_joined_last x (y ∷ A) C i = inr (in_joined_last x A C i)

single_first : (A C : List Item) → AreSingle (A ++ C) → AreSingle A
single_first [] C s = tt
single_first (x ∷ A) C s = (λ i. s.0 (in_joined_first x A C i), single_first A C s.1)

single_apart : (x : Item) (A C : List Item) → AreSingle (A ++ C) → IsIn x A → IsIn x C → ⊥
single_apart x [] C s i j = absurd i
single_apart x (y ∷ A) C s (inl e) j = let R : Item → Type 0 = λ z. IsIn z C in s.0 (in_joined_last y A C (subst R e j))
single_apart x (y ∷ A) C s (inr i) j = single_apart x A C s.1 i j

in_first : (h : ℕ) (X : List Item) (x : Item) → IsIn x (first_part h X) → IsIn x X
in_first h X x i = let R : List Item → Type 0 = λ z. IsIn x z in subst R (two_parts h X) (in_joined_first x (first_part h X) (rest_part h X) i)

in_rest : (h : ℕ) (X : List Item) (x : Item) → IsIn x (rest_part h X) → IsIn x X
in_rest h X x i = let R : List Item → Type 0 = λ z. IsIn x z in subst R (two_parts h X) (in_joined_last x (first_part h X) (rest_part h X) i)

parts_single : (h : ℕ) (X : List Item) → AreSingle X → AreSingle (first_part h X ++ rest_part h X)
parts_single h X s = let R : List Item → Type 0 = λ z. AreSingle z in subst R (sym (two_parts h X)) s

-- blocks of parts
empty_link : (h : ℕ) → part_link h [] ≡ None
unfolding part_link
empty_link zero = refl
empty_link (suc h) = refl

none_zero : (X : List Item) → part_nodes zero X ≡ []
unfolding part_nodes
none_zero X = refl

none_empty : (h : ℕ) → part_nodes h [] ≡ []
unfolding part_nodes
none_empty zero = refl
none_empty (suc h) = refl

none_hole : (h : ℕ) (c : List ℕ) → part_nodes (suc h) (Hole h c ∷ []) ≡ []
unfolding part_nodes
none_hole h c = rw (eqb_same h) refl

among_nodes : (h : ℕ) (X : List Item) (b : List ℕ) → IsAmong b (part_nodes (suc h) X) → IsAmong b (nodes_at h X)
unfolding part_nodes
among_nodes h [] b i = absurd i
among_nodes h (Key k v ∷ X) b i = i
among_nodes h (Hole l c ∷ (x ∷ X)) b i = i
among_nodes h (Hole l c ∷ []) b i = elim (eqb l h) as (λ t. IsAmong b (cond t [] (nodes_at h (Hole l c ∷ []))) → IsAmong b (nodes_at h (Hole l c ∷ []))) [ true ↦ λ j. absurd j | false ↦ λ j. j ] i

unlike_part : (h : ℕ) (X : List Item) → AllUnlike (nodes_at h X) → AllUnlike (part_nodes (suc h) X)
unfolding part_nodes
unlike_part h [] u = tt
unlike_part h (Key k v ∷ X) u = u
unlike_part h (Hole l c ∷ (x ∷ X)) u = u
unlike_part h (Hole l c ∷ []) u = elim (eqb l h) as (λ t. AllUnlike (cond t [] (nodes_at h (Hole l c ∷ [])))) [ true ↦ tt | false ↦ u ]

module _ (B : FinMap key_cmp (List ℕ)) (F : List Item) (one : (l n : ℕ) (c : List ℕ) → IsIn (Hole l c) F → IsIn (Hole n c) F → l ≡ n) where
  -- how a node begins: by a key, by a hole, or by a node below it
  record IsFirstKey (h : ℕ) (x : Item) (left : Option (List ℕ)) (es : List Entry) : Type 0 where
    pub key : List ℕ
    pub value : List ℕ
    pub right : Option (List ℕ)
    pub more : List Entry
    pub is : x ≡ Key key value
    pub at : height key ≡ h
    pub none : left ≡ None
    pub entries : es ≡ entry_of key value right ∷ more

  record IsFirstHole (h : ℕ) (x : Item) (left : Option (List ℕ)) : Type 0 where
    pub layer : ℕ
    pub link : List ℕ
    pub is : x ≡ Hole layer link
    pub at : suc layer ≡ h
    pub some : left ≡ Some link
    pub missing : map.get B link ≡ None

  record IsFirstNode (h : ℕ) (x : Item) (left : Option (List ℕ)) : Type 0 where
    pub lower : ℕ
    pub rest : List Item
    pub at : h ≡ suc lower
    pub part : IsPart B (suc lower) lower (x ∷ rest)
    pub there : AllThere B (nodes_at lower (x ∷ rest))
    pub some : left ≡ Some (cid (encode_layer lower (x ∷ rest)))

  abbrev Begins : ℕ → Item → Option (List ℕ) → List Entry → Type 0
  Begins h x left es = IsFirstKey h x left es ⊎ (IsFirstHole h x left ⊎ IsFirstNode h x left)

  begins_below : (h : ℕ) (x : Item) (P : List Item) → IsPart B h h (x ∷ P) → AllThere B (part_nodes h (x ∷ P)) → IsFirstHole h x (part_link h (x ∷ P)) ⊎ IsFirstNode h x (part_link h (x ∷ P))
  begins_below zero (Key k v) P p t = let low = p.keys.0 in absurd (omega arith)
  begins_below zero (Hole l c) P p t = let low = p.holes.0 in absurd (omega arith)
  begins_below (suc h) x P p t = go (kind_of B h x P p t)
    where
      go : IsHolePart B h (x ∷ P) ⊎ IsNodePart B h (x ∷ P) → IsFirstHole (suc h) x (part_link (suc h) (x ∷ P)) ⊎ IsFirstNode (suc h) x (part_link (suc h) (x ∷ P))
      go (inl k) = let whole = k.is in inl (record { layer = h; link = k.link; is = cc; at = refl; some = k.part_is; missing = k.missing })
      go (inr k) = inr (record { lower = h; rest = P; at = refl; part = k.part; there = k.there; some = k.link })

  begins : (h : ℕ) (x : Item) (P : List Item) → IsPart B (suc h) h (x ∷ P) → AllThere B (nodes_at h (x ∷ P)) → Begins h x (part_link h (first_part h (x ∷ P))) (entries_at (part_link h) h (x ∷ P))
  begins h (Hole l c) P p t = inr (begins_below h (Hole l c) (first_part h P) (first_part_of B h (Hole l c ∷ P) p) (there_first B (part_nodes h (first_part h (Hole l c ∷ P))) (right_nodes (part_nodes h) h (Hole l c ∷ P)) t.1))
  begins h (Key k v) P p t =
      elim (eqb (height k) h) as (λ b. eqb (height k) h ≡ b → Begins h (Key k v) (part_link h (first_part h (Key k v ∷ P))) (entries_at (part_link h) h (Key k v ∷ P))) [
        | true ↦ λ e.
            let first : first_part h (Key k v ∷ P) ≡ [] = rw e refl in
            inl (record { key = k; value = v; right = part_link h (first_part h P); more = entries_at (part_link h) h P; is = refl; at = eqb_yes (height k) h e; none = ap (part_link h) first ∙ empty_link h; entries = rw e refl })
        | false ↦ λ e.
            let first : first_part h (Key k v ∷ P) ≡ Key k v ∷ first_part h P = rw e refl in
            let R : List Item → Type 0 = λ z. IsPart B h h z in let W : List Item → Type 0 = λ z. AllThere B (part_nodes h z) in
            let Q : List Item → Type 0 = λ z. IsFirstHole h (Key k v) (part_link h z) ⊎ IsFirstNode h (Key k v) (part_link h z) in
            inr (subst Q (sym first) (begins_below h (Key k v) (first_part h P) (subst R first (first_part_of B h (Key k v ∷ P) p))
            (subst W first (there_first B (part_nodes h (first_part h (Key k v ∷ P))) (right_nodes (part_nodes h) h (Key k v ∷ P)) t.1))))
      ] refl

  -- nodes of one block stand at one layer and begin with one item
  abbrev Same : ℕ → Type 0
  Same h = (m : ℕ) (x : Item) (P : List Item) (y : Item) (Q : List Item) → IsPart B (suc h) h (x ∷ P) → AllThere B (nodes_at h (x ∷ P)) → IsPart B (suc m) m (y ∷ Q) → AllThere B (nodes_at m (y ∷ Q)) → IsIn x F → IsIn y F
      → encode_layer h (x ∷ P) ≡ encode_layer m (y ∷ Q) → (h ≡ m) × (x ≡ y)

  matched : (h : ℕ) → ((n : ℕ) → h ≡ suc n → Same n) → (m : ℕ) (x y : Item) (l r : Option (List ℕ)) (es fs : List Entry) → IsIn x F → IsIn y F → l ≡ r → es ≡ fs → Begins h x l es → Begins m y r fs → (h ≡ m) × (x ≡ y)
  matched h ih m x y l r es fs ix iy e f (inl a) (inl b) =
      let whole : entry_of a.key a.value a.right ∷ a.more ≡ entry_of b.key b.value b.right ∷ b.more = sym a.entries ∙ f ∙ b.entries in
      let same : entry_of a.key a.value a.right ≡ entry_of b.key b.value b.right = cc in
      let key : a.key ≡ b.key = ap (λ (z : Entry). z.key) same in let value : a.value ≡ b.value = ap (λ (z : Entry). z.value) same in
      (sym a.at ∙ ap height key ∙ b.at, a.is ∙ ap (λ k. Key k a.value) key ∙ ap (λ v. Key b.key v) value ∙ sym b.is)
  matched h ih m x y l r es fs ix iy e f (inl a) (inr (inl b)) = let bad : None ≡ Some b.link = sym a.none ∙ e ∙ b.some in absurd (cc)
  matched h ih m x y l r es fs ix iy e f (inl a) (inr (inr b)) = let bad : None ≡ Some (cid (encode_layer b.lower (y ∷ b.rest))) = sym a.none ∙ e ∙ b.some in absurd (cc)
  matched h ih m x y l r es fs ix iy e f (inr (inl a)) (inl b) = let bad : Some a.link ≡ None = sym a.some ∙ e ∙ b.none in absurd (cc)
  matched h ih m x y l r es fs ix iy e f (inr (inr a)) (inl b) = let bad : Some (cid (encode_layer a.lower (x ∷ a.rest))) ≡ None = sym a.some ∙ e ∙ b.none in absurd (cc)
  matched h ih m x y l r es fs ix iy e f (inr (inl a)) (inr (inl b)) =
      let links : Some a.link ≡ Some b.link = sym a.some ∙ e ∙ b.some in let link : a.link ≡ b.link = cc in
      let is : x ≡ Hole a.layer b.link = a.is ∙ ap (λ c. Hole a.layer c) link in
      let I : Item → Type 0 = λ z. IsIn z F in
      let layer : a.layer ≡ b.layer = one a.layer b.layer b.link (subst I is ix) (subst I b.is iy) in
      (sym a.at ∙ ap suc layer ∙ b.at, is ∙ ap (λ n. Hole n b.link) layer ∙ sym b.is)
  matched h ih m x y l r es fs ix iy e f (inr (inl a)) (inr (inr b)) =
      let links : Some a.link ≡ Some (cid (encode_layer b.lower (y ∷ b.rest))) = sym a.some ∙ e ∙ b.some in let link : a.link ≡ cid (encode_layer b.lower (y ∷ b.rest)) = cc in
      let at = ap (map.get B) link in let gone = a.missing in let there = b.there.0 in absurd (cc)
  matched h ih m x y l r es fs ix iy e f (inr (inr a)) (inr (inl b)) =
      let links : Some (cid (encode_layer a.lower (x ∷ a.rest))) ≡ Some b.link = sym a.some ∙ e ∙ b.some in let link : cid (encode_layer a.lower (x ∷ a.rest)) ≡ b.link = cc in
      let at = ap (map.get B) link in let gone = b.missing in let there = a.there.0 in absurd (cc)
  matched h ih m x y l r es fs ix iy e f (inr (inr a)) (inr (inr b)) =
      let links : Some (cid (encode_layer a.lower (x ∷ a.rest))) ≡ Some (cid (encode_layer b.lower (y ∷ b.rest))) = sym a.some ∙ e ∙ b.some in let link : cid (encode_layer a.lower (x ∷ a.rest)) ≡ cid (encode_layer b.lower (y ∷ b.rest)) = cc in
      let at = ap (map.get B) link in let here = a.there.0 in let there = b.there.0 in
      let block : encode_layer a.lower (x ∷ a.rest) ≡ encode_layer b.lower (y ∷ b.rest) = cc in
      let s = ih a.lower a.at b.lower x a.rest y b.rest a.part a.there b.part b.there ix iy block in
      (a.at ∙ ap suc s.0 ∙ sym b.at, s.1)

  same_from : (h : ℕ) → ((n : ℕ) → h ≡ suc n → Same n) → Same h
  same_from h ih m x P y Q p t q u ix iy e =
      let n = node_same (part_link h (first_part h (x ∷ P))) (part_link m (first_part m (y ∷ Q))) (entries_at (part_link h) h (x ∷ P)) (entries_at (part_link m) m (y ∷ Q))
      (link_formed h (first_part h (x ∷ P)) (first_formed h (x ∷ P) p.formed)) (link_formed m (first_part m (y ∷ Q)) (first_formed m (y ∷ Q) q.formed)) (entries_formed h h (x ∷ P) p.formed) (entries_formed m m (y ∷ Q) q.formed) e in
      matched h ih m x y (part_link h (first_part h (x ∷ P))) (part_link m (first_part m (y ∷ Q))) (entries_at (part_link h) h (x ∷ P)) (entries_at (part_link m) m (y ∷ Q)) ix iy n.0 n.1 (begins h x P p t) (begins m y Q q u)

  all_same : (h : ℕ) → Same h
  all_same zero = same_from zero (λ n e. absurd (omega arith))
  all_same (suc h) = same_from (suc h) (λ n e. let same : h ≡ n = omega arith in subst Same same (all_same h))

  -- the node of a block below layer h, which begins with an item of a list
  record IsNodeOf (h : ℕ) (X : List Item) (b : List ℕ) : Type 0 where
    pub layer : ℕ
    pub low : layer < h
    pub item : Item
    pub rest : List Item
    pub part : IsPart B (suc layer) layer (item ∷ rest)
    pub there : AllThere B (nodes_at layer (item ∷ rest))
    pub is : b ≡ encode_layer layer (item ∷ rest)
    pub within : IsIn item X

  raised : (h m : ℕ) (X Y : List Item) (b : List ℕ) → h ≤ m → ((y : Item) → IsIn y X → IsIn y Y) → IsNodeOf h X b → IsNodeOf m Y b
  raised h m X Y b e inside n = record { layer = n.layer; low = let low = n.low in omega arith; item = n.item; rest = n.rest; part = n.part; there = n.there; is = n.is; within = inside n.item n.within }

  abbrev Found : ℕ → Type 0
  Found h = (X : List Item) (b : List ℕ) → IsPart B h h X → AllThere B (part_nodes h X) → IsAmong b (part_nodes h X) → IsNodeOf h X b

  tail_part : (h : ℕ) (x : Item) (X : List Item) → IsPart B (suc h) h (x ∷ X) → IsPart B (suc h) h X
  tail_part h (Key k v) X p = record { keys = p.keys.1; holes = p.holes; near = p.near.1; formed = p.formed.1; missing = p.missing }
  tail_part h (Hole l c) X p = record { keys = p.keys; holes = p.holes.1; near = p.near.1; formed = p.formed.1; missing = p.missing.1 }

  rests_found : (h : ℕ) → Found h → (X : List Item) (b : List ℕ) → IsPart B (suc h) h X → AllThere B (right_nodes (part_nodes h) h X) → IsAmong b (right_nodes (part_nodes h) h X) → IsNodeOf h (rest_part h X) b
  rests_found h ih [] b p t i = absurd i
  rests_found h ih (Hole l c ∷ X) b p t i = rests_found h ih X b (tail_part h (Hole l c) X p) t i
  rests_found h ih (Key k v ∷ X) b p t i =
      let S = part_nodes h (first_part h X) in let T = right_nodes (part_nodes h) h X in let q = tail_part h (Key k v) X p in
      elim (eqb (height k) h) as (λ z. AllThere B (cond z (S ++ T) T) → IsAmong b (cond z (S ++ T) T) → IsNodeOf h (cond z (Key k v ∷ X) (rest_part h X)) b) [
        | true ↦ λ t i. go (among_joined b S T i) (λ j. ih (first_part h X) b (first_part_of B h X q) (there_first B S T t) j) (λ j. rests_found h ih X b q (there_last B S T t) j)
        | false ↦ λ t i. rests_found h ih X b q t i
      ] t i
    where
      go : IsAmong b (part_nodes h (first_part h X)) ⊎ IsAmong b (right_nodes (part_nodes h) h X) → (IsAmong b (part_nodes h (first_part h X)) → IsNodeOf h (first_part h X) b) → (IsAmong b (right_nodes (part_nodes h) h X) → IsNodeOf h (rest_part h X) b) → IsNodeOf h (Key k v ∷ X) b
      go (inl j) first rest = raised h h (first_part h X) (Key k v ∷ X) b (omega arith) (λ y w. inr (in_first h X y w)) (first j)
      go (inr j) first rest = raised h h (rest_part h X) (Key k v ∷ X) b (omega arith) (λ y w. inr (in_rest h X y w)) (rest j)

  node_found : (h : ℕ) → Found h → (x : Item) (P : List Item) (b : List ℕ) → IsPart B (suc h) h (x ∷ P) → AllThere B (nodes_at h (x ∷ P)) → IsAmong b (nodes_at h (x ∷ P)) → IsNodeOf (suc h) (x ∷ P) b
  node_found h ih x P b p t (inl e) = record { layer = h; low = omega arith; item = x; rest = P; part = p; there = t; is = e; within = inl refl }
  node_found h ih x P b p t (inr i) = go (among_joined b (part_nodes h (first_part h (x ∷ P))) (right_nodes (part_nodes h) h (x ∷ P)) i)
    where
      go : IsAmong b (part_nodes h (first_part h (x ∷ P))) ⊎ IsAmong b (right_nodes (part_nodes h) h (x ∷ P)) → IsNodeOf (suc h) (x ∷ P) b
      go (inl j) =
          raised h (suc h) (first_part h (x ∷ P)) (x ∷ P) b (omega arith) (in_first h (x ∷ P))
          (ih (first_part h (x ∷ P)) b (first_part_of B h (x ∷ P) p) (there_first B (part_nodes h (first_part h (x ∷ P))) (right_nodes (part_nodes h) h (x ∷ P)) t.1) j)
      go (inr j) =
          raised h (suc h) (rest_part h (x ∷ P)) (x ∷ P) b (omega arith) (in_rest h (x ∷ P))
          (rests_found h ih (x ∷ P) b p (there_last B (part_nodes h (first_part h (x ∷ P))) (right_nodes (part_nodes h) h (x ∷ P)) t.1) j)

  all_found : (h : ℕ) → Found h
  all_found zero X b p t i = let R : List (List ℕ) → Type 0 = λ z. IsAmong b z in absurd (subst R (none_zero X) i)
  all_found (suc h) [] b p t i = let R : List (List ℕ) → Type 0 = λ z. IsAmong b z in absurd (subst R (none_empty (suc h)) i)
  all_found (suc h) (x ∷ P) b p t i = go (kind_of B h x P p t) (all_found h)
    where
      go : IsHolePart B h (x ∷ P) ⊎ IsNodePart B h (x ∷ P) → Found h → IsNodeOf (suc h) (x ∷ P) b
      go (inl k) ih = let R : List (List ℕ) → Type 0 = λ z. IsAmong b z in absurd (subst R (ap (part_nodes (suc h)) k.is ∙ none_hole h k.link) i)
      go (inr k) ih = node_found h ih x P b k.part k.there (among_nodes h (x ∷ P) b i)

  -- no block stands twice
  abbrev Unlike : ℕ → Type 0
  Unlike h = (X : List Item) → IsPart B h h X → AllThere B (part_nodes h X) → AreSingle X → ((y : Item) → IsIn y X → IsIn y F) → AllUnlike (part_nodes h X)

  -- what stands before the first key of a height, and what stands from it on
  both_unlike : (h : ℕ) → Unlike h → (X : List Item) → IsPart B (suc h) h X → AllThere B (part_nodes h (first_part h X)) → AllThere B (right_nodes (part_nodes h) h X) → AreSingle X → ((y : Item) → IsIn y X → IsIn y F)
      → AllUnlike (right_nodes (part_nodes h) h X) → AllUnlike (part_nodes h (first_part h X) ++ right_nodes (part_nodes h) h X)
  both_unlike h ih X p t u s inside rest =
      let A = first_part h X in let C = rest_part h X in let parts = parts_single h X s in
      unlike_joined (part_nodes h A) (right_nodes (part_nodes h) h X) (ih A (first_part_of B h X p) t (single_first A C parts) (λ y i. inside y (in_first h X y i))) rest
      (λ b i j.
      let n = all_found h A b (first_part_of B h X p) t i in let m = rests_found h (all_found h) X b p u j in
      let same = (all_same n.layer m.layer n.item n.rest m.item m.rest n.part n.there m.part m.there (inside n.item (in_first h X n.item n.within)) (inside m.item (in_rest h X m.item m.within)) (sym n.is ∙ m.is)).1 in
      let I : Item → Type 0 = λ z. IsIn z C in
      single_apart n.item A C parts n.within (subst I (sym same) m.within))

  rests_unlike : (h : ℕ) → Unlike h → (X : List Item) → IsPart B (suc h) h X → AllThere B (right_nodes (part_nodes h) h X) → AreSingle X → ((y : Item) → IsIn y X → IsIn y F) → AllUnlike (right_nodes (part_nodes h) h X)
  rests_unlike h ih [] p t s inside = tt
  rests_unlike h ih (Hole l c ∷ X) p t s inside = rests_unlike h ih X (tail_part h (Hole l c) X p) t s.1 (λ y i. inside y (inr i))
  rests_unlike h ih (Key k v ∷ X) p t s inside =
      let S = part_nodes h (first_part h X) in let T = right_nodes (part_nodes h) h X in let q = tail_part h (Key k v) X p in
      elim (eqb (height k) h) as (λ z. AllThere B (cond z (S ++ T) T) → AllUnlike (cond z (S ++ T) T)) [
        | true ↦ λ t. both_unlike h ih X q (there_first B S T t) (there_last B S T t) s.1 (λ y i. inside y (inr i)) (rests_unlike h ih X q (there_last B S T t) s.1 (λ y i. inside y (inr i)))
        | false ↦ λ t. rests_unlike h ih X q t s.1 (λ y i. inside y (inr i))
      ] t

  node_unlike : (h : ℕ) → Unlike h → (x : Item) (P : List Item) → IsPart B (suc h) h (x ∷ P) → AllThere B (nodes_at h (x ∷ P)) → AreSingle (x ∷ P) → ((y : Item) → IsIn y (x ∷ P) → IsIn y F) → AllUnlike (nodes_at h (x ∷ P))
  node_unlike h ih x P p t s inside =
      let X = x ∷ P in let S = part_nodes h (first_part h X) in let T = right_nodes (part_nodes h) h X in
      (λ i. go (among_joined (encode_layer h X) S T i), both_unlike h ih X p (there_first B S T t.1) (there_last B S T t.1) s inside (rests_unlike h ih X p (there_last B S T t.1) s inside))
    where
      lower : IsNodeOf h (x ∷ P) (encode_layer h (x ∷ P)) → ⊥
      lower n =
          let same : h ≡ n.layer = (all_same h n.layer x P n.item n.rest p t n.part n.there (inside x (inl refl)) (inside n.item n.within) n.is).0 in
          let low = n.low in absurd (omega arith)

      go : IsAmong (encode_layer h (x ∷ P)) (part_nodes h (first_part h (x ∷ P))) ⊎ IsAmong (encode_layer h (x ∷ P)) (right_nodes (part_nodes h) h (x ∷ P)) → ⊥
      go (inl j) =
          lower (raised h h (first_part h (x ∷ P)) (x ∷ P) (encode_layer h (x ∷ P)) (omega arith) (in_first h (x ∷ P))
          (all_found h (first_part h (x ∷ P)) (encode_layer h (x ∷ P)) (first_part_of B h (x ∷ P) p) (there_first B (part_nodes h (first_part h (x ∷ P))) (right_nodes (part_nodes h) h (x ∷ P)) t.1) j))
      go (inr j) =
          lower (raised h h (rest_part h (x ∷ P)) (x ∷ P) (encode_layer h (x ∷ P)) (omega arith) (in_rest h (x ∷ P))
          (rests_found h (all_found h) (x ∷ P) (encode_layer h (x ∷ P)) p (there_last B (part_nodes h (first_part h (x ∷ P))) (right_nodes (part_nodes h) h (x ∷ P)) t.1) j))

  all_unlike : (h : ℕ) → Unlike h
  all_unlike zero X p t s inside = let R : List (List ℕ) → Type 0 = λ z. AllUnlike z in subst R (sym (none_zero X)) tt
  all_unlike (suc h) [] p t s inside = let R : List (List ℕ) → Type 0 = λ z. AllUnlike z in subst R (sym (none_empty (suc h))) tt
  all_unlike (suc h) (x ∷ P) p t s inside = go (kind_of B h x P p t) (all_unlike h)
    where
      go : IsHolePart B h (x ∷ P) ⊎ IsNodePart B h (x ∷ P) → Unlike h → AllUnlike (part_nodes (suc h) (x ∷ P))
      go (inl k) ih = let R : List (List ℕ) → Type 0 = λ z. AllUnlike z in subst R (sym (ap (part_nodes (suc h)) k.is ∙ none_hole h k.link)) tt
      go (inr k) ih = unlike_part h (x ∷ P) (node_unlike h ih x P k.part k.there s inside)

nodes_unlike : (B : FinMap key_cmp (List ℕ)) (r : List ℕ) (F : List Item) → IsView B r F → AllUnlike (nodes F)
nodes_unlike B r [] v = let R : List (List ℕ) → Type 0 = λ z. AllUnlike (encode_layer 0 [] ∷ (z ++ [])) in subst R (sym (none_empty 0)) ((λ i. i), tt)
nodes_unlike B r (x ∷ P) v =
    let F = x ∷ P in let h = top_layer F in let keys = keys_under_top F h (omega arith) in
    let part : IsPart B (suc h) h F = record { keys = keys; holes = holes_within h F keys v.well_laid.neighbours v.well_laid.no_lone_hole; near = v.well_laid.neighbours; formed = v.well_laid.formed; missing = v.holes } in
    let one = one_hole F v.well_laid.holes_differ in
    node_unlike B F one h (all_unlike B F one h) x P part v.there (single_of F v.well_laid.ascends v.well_laid.holes_differ) (λ y i. i)

pub view_size : (B : FinMap key_cmp (List ℕ)) (r : List ℕ) (F : List Item) → IsView B r F → length (nodes F) ≤ map.len B
view_size B r F v = at_most (nodes F) B v.there (nodes_unlike B r F v)
