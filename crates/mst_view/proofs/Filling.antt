-- Parts of which the first are read, and of the others no more than their entries.
use Rattle.std.proofs.Common.{◌≡◌, ℕ, ◌+◌, ◌-◌, ◌≤◌, true, List, [], ◌∷◌, ◌++◌, length, get_or, set, take, drop, refl, sym, ap, ◌∙◌, subst, Option, Some, None, Result, Ok, arith, append_assoc, length-append}
use Rattle.std.specs.List.{list_all}
use Rattle.std.proofs.Math.Seq.{take-length}
use Rattle.std.proofs.lemmas.List.{drop_at}
use Rattle.mst_list.specs.declared.item.Item.{Item}
use Rattle.mst_list.specs.Height.{height}
use Rattle.mst_node.specs.NodeFaults.{next_bound}
use Rattle.mst_node.specs.Nodes.{IsChildLink, entry_with}
use Rattle.mst_node.specs.TreeReading.{rights_of}
use Rattle.mst_node.proofs.Told.{both_true}
use Rattle.mst_view.specs.Layered.{LiesBelow, AllAt, below_items, rest_items, below_link, part_entry, entries_of, is_bare}
use Rattle.mst_view.specs.Steps.{with_front, AllHang}
use Rattle.mst_view.specs.declared.branch.Below.{Below}
use Rattle.mst_view.specs.declared.branch.Part.{Part}
use Rattle.mst_view.proofs.Steps.{at_pushed, reads_on}

-- the parts before a place are read, and the others bare
pub record AreRead (below : Option (List ℕ) → Option (List ℕ) → Option (List ℕ) → Result (List Item) (List ℕ)) (h : ℕ) (high : Option (List ℕ)) (old parts : List Part) (at : ℕ) : Type 0 where
  pub front : List Part
  pub todo : List Part
  pub parts_are : parts ≡ front ++ todo
  pub count : at ≡ length front
  pub front_at : AllAt h front
  pub hang : AllHang h (entries_of todo)
  pub bare : list_all is_bare todo ≡ true
  pub keeps : entries_of (front ++ todo) ≡ entries_of old
  pub reads : with_front (rest_items h front) (rights_of below high (entries_of todo)) ≡ rights_of below high (entries_of old)

-- what a part becomes when what hangs to its right is read
pub record Becomes (below : Option (List ℕ) → Option (List ℕ) → Option (List ℕ) → Result (List Item) (List ℕ)) (h : ℕ) (high : Option (List ℕ)) (others : List Part) (p q : Part) : Type 0 where
  pub entry : part_entry q ≡ part_entry p
  pub lies : LiesBelow h q.below
  pub gives : below (Some p.key) (next_bound high (entries_of others)) (below_link p.below) ≡ Ok (below_items h q.below)

entries_swapped : (front others : List Part) (p q : Part) → part_entry q ≡ part_entry p → entries_of ((front ++ q ∷ []) ++ others) ≡ entries_of (front ++ p ∷ others)
entries_swapped [] others p q e = ap (λ x. x ∷ entries_of others) e
entries_swapped (r ∷ front) others p q e = ap (λ x. part_entry r ∷ x) (entries_swapped front others p q e)

module _ (below : Option (List ℕ) → Option (List ℕ) → Option (List ℕ) → Result (List Item) (List ℕ)) (h : ℕ) (high : Option (List ℕ)) (old : List Part) where
  read_on : (front others : List Part) (p q : Part) → Becomes below h high others p q
      → AllAt h front → AllHang h (entries_of (p ∷ others)) → list_all is_bare (p ∷ others) ≡ true
      → entries_of (front ++ p ∷ others) ≡ entries_of old
      → with_front (rest_items h front) (rights_of below high (entries_of (p ∷ others))) ≡ rights_of below high (entries_of old)
      → AreRead below h high old (front ++ q ∷ others) (length front + 1)
  read_on front others p q b a hang bare keeps reads =
      let key : q.key ≡ p.key = ap (λ e. e.key) b.entry in let value : q.value ≡ p.value = ap (λ e. e.value) b.entry in
      record {
        front = front ++ q ∷ [];
        todo = others;
        parts_are = sym (append_assoc front (q ∷ []) others);
        count = sym (length-append front (q ∷ []));
        front_at = at_pushed h front q a (ap height key ∙ hang.0.0) b.lies;
        hang = hang.1;
        bare = (both_true (is_bare p) (list_all is_bare others) bare).1;
        keeps = entries_swapped front others p q b.entry ∙ keeps;
        reads = reads_on below h high front q (part_entry p) (entries_of others) key value b.gives ∙ reads;
      }

-- the part at a place, as the first of a slice
pub record IsNext (parts seen : List Part) (at : ℕ) (p : Part) : Type 0 where
  pub same : seen ≡ parts
  pub some : 1 ≤ length (take (length seen - at) (drop at seen))
  pub is : p ≡ get_or (take (length seen - at) (drop at seen)) 0 p

slice_left : (front todo seen : List Part) (at : ℕ) → seen ≡ front ++ todo → at ≡ length front → take (length seen - at) (drop at seen) ≡ todo
slice_left front todo seen at s n =
    let left : drop at seen ≡ todo = ap (λ x. drop at x) s ∙ drop_at front todo at (sym n) in
    let len : length seen - at ≡ length todo = omega (arith, ap length s, length-append front todo) in
    ap (λ x. take (length seen - at) x) left ∙ ap (λ m. take m todo) len ∙ take-length todo

first_is : (todo : List Part) (p : Part) → 1 ≤ length todo → p ≡ get_or todo 0 p → todo ≡ p ∷ drop 1 todo
first_is [] p some is = absurd (omega arith)
first_is (q ∷ todo) p some is = ap (λ x. x ∷ todo) (sym is)

slice_behind : (xs : List Part) → take (length xs - 1) (drop 1 xs) ≡ drop 1 xs
slice_behind [] = refl
slice_behind (x ∷ xs) = ap (λ m. take m xs) (omega arith) ∙ take-length xs

set_behind : (front others : List Part) (p q : Part) → set (front ++ p ∷ others) (length front) q ≡ front ++ q ∷ others
set_behind [] others p q = refl
set_behind (r ∷ front) others p q = ap (λ x. r ∷ x) (set_behind front others p q)

item_behind : (front others : List Part) (p q : Part) → q ≡ get_or (front ++ p ∷ others) (length front) q → q ≡ p
item_behind [] others p q is = is
item_behind (r ∷ front) others p q is = item_behind front others p q is

module _ (below : Option (List ℕ) → Option (List ℕ) → Option (List ℕ) → Result (List Item) (List ℕ)) (h : ℕ) (high : Option (List ℕ)) (old parts seen : List Part) (at : ℕ) (p : Part) (before : AreRead below h high old parts at) (next : IsNext parts seen at p) where
  abbrev pub others : List Part
  others = drop 1 before.todo

  left : take (length seen - at) (drop at seen) ≡ before.todo
  left = slice_left before.front before.todo seen at (next.same ∙ before.parts_are) before.count

  todo_is : before.todo ≡ p ∷ others
  todo_is =
      let G : List Part → Type 0 = λ x. p ≡ get_or x 0 p in let L : List Part → Type 0 = λ x. 1 ≤ length x in
      first_is before.todo p (subst L left next.some) (subst G left next.is)

  pub tail_is : let slice = take (length seen - at) (drop at seen) in take (length slice - 1) (drop 1 slice) ≡ others
  tail_is = slice_behind (take (length seen - at) (drop at seen)) ∙ ap (λ x. drop 1 x) left

  -- what stands behind the part, and how its entry hangs
  pub hangs : (height p.key ≡ h) × IsChildLink (below_link p.below) × (h ≡ 0 → below_link p.below ≡ None)
  hangs = let H : List Part → Type 0 = λ x. AllHang h (entries_of x) in (subst H todo_is before.hang).0

  pub bare : is_bare p ≡ true
  bare = let B : List Part → Type 0 = λ x. list_all is_bare x ≡ true in (both_true (is_bare p) (list_all is_bare others) (subst B todo_is before.bare)).0

  advance : (q : Part) (more : List Part) → more ≡ before.front ++ q ∷ others → Becomes below h high others p q → AreRead below h high old more (at + 1)
  advance q more is b =
      let H : List Part → Type 0 = λ x. AllHang h (entries_of x) in let B : List Part → Type 0 = λ x. list_all is_bare x ≡ true in
      let A : List Part → Type 0 = λ x. AreRead below h high old x (at + 1) in let N : ℕ → Type 0 = λ n. AreRead below h high old (before.front ++ q ∷ others) (n + 1) in
      let keeps = ap (λ x. entries_of (before.front ++ x)) (sym todo_is) ∙ before.keeps in
      let reads = ap (λ x. with_front (rest_items h before.front) (rights_of below high (entries_of x))) (sym todo_is) ∙ before.reads in
      subst A (sym is) (subst N (sym before.count) (read_on below h high old before.front others p q b before.front_at (subst H todo_is before.hang) (subst B todo_is before.bare) keeps reads))

  -- nothing is to be read there
  pub passed : LiesBelow h p.below → below (Some p.key) (next_bound high (entries_of others)) (below_link p.below) ≡ Ok (below_items h p.below) → AreRead below h high old parts (at + 1)
  passed lies gives = advance p parts (before.parts_are ∙ ap (λ x. before.front ++ x) todo_is) (record { entry = refl; lies = lies; gives = gives })

  -- what hangs there was read
  pub filled : (was : Part) (b : Below) → was ≡ get_or parts at was → below_link b ≡ below_link p.below → LiesBelow h b → below (Some p.key) (next_bound high (entries_of others)) (below_link p.below) ≡ Ok (below_items h b)
      → AreRead below h high old (set parts at (record { key = was.key; value = was.value; below = b })) (at + 1)
  filled was b is link lies gives =
      let whole : parts ≡ before.front ++ p ∷ others = before.parts_are ∙ ap (λ x. before.front ++ x) todo_is in
      let there : was ≡ get_or (before.front ++ p ∷ others) (length before.front) was = is ∙ ap (λ x. get_or x at was) whole ∙ ap (λ n. get_or (before.front ++ p ∷ others) n was) before.count in
      let same : was ≡ p = item_behind before.front others p was there in
      let q : Part = record { key = was.key; value = was.value; below = b } in
      let more : set parts at q ≡ before.front ++ q ∷ others = ap (λ x. set x at q) whole ∙ ap (λ n. set (before.front ++ p ∷ others) n q) before.count ∙ set_behind before.front others p q in
      let entry : part_entry q ≡ part_entry p = ap (λ (x : Part). entry_with x.key x.value (below_link b)) same ∙ ap (λ l. entry_with p.key p.value l) link in
      advance q (set parts at q) more (record { entry = entry; lies = lies; gives = gives })
