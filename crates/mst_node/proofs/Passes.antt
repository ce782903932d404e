-- What the tests of a node say.
use Rattle.std.proofs.Common.{◌≡◌, ℕ, zero, suc, eqb, cond, Bool, true, false, ◌&&◌, List, [], ◌∷◌, refl, sym, ap, Option, Some, None, Result, Ok, Err, ◌⊎◌, inl, inr, arith}
use Rattle.mst_list.specs.declared.item.Item.{Item}
use Rattle.mst_list.specs.declared.item.Item.TheVariants.{Hole}
use Rattle.at_cid.specs.Order.{key_cmp}
use Rattle.mst_list.specs.Height.{height}
use Rattle.mst_node.specs.declared.entry.Entry.{Entry}
use Rattle.mst_node.specs.Nodes.{Node, AreFormedEntries, EntriesAscend}
use Rattle.mst_node.specs.NodeFaults.{AreEntriesAt}
use Rattle.mst_node.specs.Covers.{IsUnder}
use Rattle.mst_node.specs.Reading.{is_over}
use Rattle.mst_node.proofs.Layers.{eqb_yes, eqb_same, eqb_not}
use Rattle.mst_node.proofs.Told.{both_true, less_of, over_true, true_over}
use Rattle.mst_node.specs.FirstFault.{Extent, in_part, in_whole, IsMissing}
use Rattle.mst_node.specs.Fits.{is_under, may_hang, entries_fit}
use Rattle.mst_node.specs.TreeReading.{go_on, block_of, or_missing}
use Rattle.std.specs.FinMap as map
use Rattle.std.specs.FinMap.{FinMap}

pub under_true : (k : List ℕ) (high : Option (List ℕ)) → is_under k high ≡ true → IsUnder k high
under_true k None h = tt
under_true k (Some j) h = less_of (key_cmp k j) h

pub true_under : (k : List ℕ) (high : Option (List ℕ)) → IsUnder k high → is_under k high ≡ true
true_under k None h = refl
true_under k (Some j) h = rw h refl

pub hang_true : (h : ℕ) (c : Option (List ℕ)) → may_hang h c ≡ true → h ≡ 0 → c ≡ None
hang_true h None e z = refl
hang_true h (Some c) e z = let on : eqb h 0 ≡ true = rw z refl in absurd (cc)

pub true_hang : (h : ℕ) (c : Option (List ℕ)) → (h ≡ 0 → c ≡ None) → may_hang h c ≡ true
true_hang h None f = refl
true_hang zero (Some c) f = let bad = f refl in absurd (cc)
true_hang (suc h) (Some c) f = rw (eqb_not (suc h) 0 (omega arith)) refl

-- the test of entries
pub fit_true : (h : ℕ) (low high : Option (List ℕ)) (es : List Entry) → AreFormedEntries es → entries_fit h low high es ≡ true → AreEntriesAt h low high es
fit_true h low high [] f e = tt
fit_true h low high (x ∷ es) f e =
    let p = both_true (eqb (height x.key) h && (is_over low x.key && (is_under x.key high && may_hang h x.right))) (entries_fit h (Some x.key) high es) e in
    let q = both_true (eqb (height x.key) h) (is_over low x.key && (is_under x.key high && may_hang h x.right)) p.0 in
    let r = both_true (is_over low x.key) (is_under x.key high && may_hang h x.right) q.1 in
    let s = both_true (is_under x.key high) (may_hang h x.right) r.1 in (
      record { key = f.0.0; value = f.0.1; right = f.0.2; at = eqb_yes (height x.key) h q.0; over = over_true low x.key r.0; under = under_true x.key high s.0; lowest = hang_true h x.right s.1 },
      fit_true h (Some x.key) high es f.1 p.1,
    )

pub true_fit : (h : ℕ) (low high : Option (List ℕ)) (es : List Entry) → AreEntriesAt h low high es → entries_fit h low high es ≡ true
true_fit h low high [] a = refl
true_fit h low high (x ∷ es) a =
    let at : eqb (height x.key) h ≡ true = rw a.0.at (eqb_same h) in
    rw (at, true_over low x.key a.0.over, true_under x.key high a.0.under, true_hang h x.right a.0.lowest) (true_fit h (Some x.key) high es a.1)

pub formed_of : (h : ℕ) (low high : Option (List ℕ)) (es : List Entry) → AreEntriesAt h low high es → AreFormedEntries es
formed_of h low high [] a = tt
formed_of h low high (x ∷ es) a = ((a.0.key, a.0.value, a.0.right), formed_of h (Some x.key) high es a.1)

pub ascend_of : (h : ℕ) (low high : Option (List ℕ)) (es : List Entry) → AreEntriesAt h low high es → EntriesAscend low es
ascend_of h low high [] a = tt
ascend_of h low high (x ∷ es) a = (a.0.over, ascend_of h (Some x.key) high es a.1)

pub over_none : (low : Option (List ℕ)) (es : List Entry) → EntriesAscend low es → EntriesAscend None es
over_none low [] a = tt
over_none low (x ∷ es) a = (tt, a.1)

-- steps that went well
pub went_on : {A X F : Type 0} (r : Result A F) (f : A → Result X F) (y : X) → go_on r f ≡ Ok y → (x : A) × (r ≡ Ok x) × (f x ≡ Ok y)
went_on (Ok x) f y e = (x, refl, e)
went_on (Err z) f y e = absurd (cc)

pub passed : (passes : Node → Bool) (parts : Node → Result (List Item) (List ℕ)) (c : List ℕ) (o : Option Node) (F : List Item) → block_of passes parts c o ≡ Ok F → (n : Node) × (o ≡ Some n) × (passes n ≡ true) × (parts n ≡ Ok F)
passed passes parts c None F e = absurd (cc)
passed passes parts c (Some n) F e = go (passes n) refl e
  where
    go : (b : Bool) → passes n ≡ b → cond b (parts n) (Err c) ≡ Ok F → (m : Node) × (Some n ≡ Some m) × (passes m ≡ true) × (parts m ≡ Ok F)
    go true p g = (n, refl, p, g)
    go false p g = absurd (cc)

-- steps that went wrong
pub went_wrong : {A X F : Type 0} (r : Result A F) (f : A → Result X F) (e : F) → go_on r f ≡ Err e → (r ≡ Err e) ⊎ ((x : A) × (r ≡ Ok x) × (f x ≡ Err e))
went_wrong (Ok x) f e h = inr (x, refl, h)
went_wrong (Err z) f e h = inl (let same : z ≡ e = cc in ap Err same)

pub stopped : (passes : Node → Bool) (parts : Node → Result (List Item) (List ℕ)) (c : List ℕ) (o : Option Node) (f : List ℕ) → block_of passes parts c o ≡ Err f
    → (((n : Node) → o ≡ Some n → passes n ≡ true → ⊥) × (f ≡ c)) ⊎ ((n : Node) × (o ≡ Some n) × (passes n ≡ true) × (parts n ≡ Err f))
stopped passes parts c None f e = inl (λ n is p. absurd (cc), let same : c ≡ f = cc in sym same)
stopped passes parts c (Some n) f e = go (passes n) refl e
  where
    go : (b : Bool) → passes n ≡ b → cond b (parts n) (Err c) ≡ Err f → (((m : Node) → Some n ≡ Some m → passes m ≡ true → ⊥) × (f ≡ c)) ⊎ ((m : Node) × (Some n ≡ Some m) × (passes m ≡ true) × (parts m ≡ Err f))
    go true p g = inr (n, refl, p, g)
    go false p g = inl (λ m is q. let one : n ≡ m = cc in let same = ap passes one in absurd (cc), let same : c ≡ f = cc in sym same)

-- a block that isn't there, or one that is and of which nothing is read
pub missing_or_there : (extent : Extent) (B : FinMap key_cmp (List ℕ)) (h : ℕ) (c : List ℕ) (inside : List ℕ → Result (List Item) (List ℕ)) (f : List ℕ) → or_missing extent h c inside (map.get B c) ≡ Err f → IsMissing extent B c f ⊎ ((b : List ℕ) × (map.get B c ≡ Some b) × (inside b ≡ Err f))
missing_or_there extent B h c inside f e = go extent (map.get B c) refl e
  where
    go : (x : Extent) (o : Option (List ℕ)) → map.get B c ≡ o → or_missing x h c inside o ≡ Err f → IsMissing x B c f ⊎ ((b : List ℕ) × (map.get B c ≡ Some b) × (inside b ≡ Err f))
    go in_part None at g = absurd (cc)
    go in_whole None at g = inl (at, let same : c ≡ f = cc in sym same)
    go x (Some b) at g = inr (b, at, g)

-- where a block is missing nothing is read
pub missing_err : (extent : Extent) (B : FinMap key_cmp (List ℕ)) (h : ℕ) (c : List ℕ) (inside : List ℕ → Result (List Item) (List ℕ)) (f : List ℕ) → IsMissing extent B c f → or_missing extent h c inside (map.get B c) ≡ Err f
missing_err in_part B h c inside f e = absurd e
missing_err in_whole B h c inside f e = rw e.0 (ap Err (sym e.1))

-- a result is one or the other
pub either : {A F : Type 0} (r : Result A F) → ((x : A) × (r ≡ Ok x)) ⊎ ((e : F) × (r ≡ Err e))
either (Ok x) = inl (x, refl)
either (Err e) = inr (e, refl)

pub there_or_hole : (h : ℕ) (c : List ℕ) (inside : List ℕ → Result (List Item) (List ℕ)) (o : Option (List ℕ)) (F : List Item) → or_missing in_part h c inside o ≡ Ok F → ((o ≡ None) × (F ≡ Hole h c ∷ [])) ⊎ ((b : List ℕ) × (o ≡ Some b) × (inside b ≡ Ok F))
there_or_hole h c inside None F e = inl (refl, let same : Hole h c ∷ [] ≡ F = cc in sym same)
there_or_hole h c inside (Some b) F e = inr (b, refl, e)
