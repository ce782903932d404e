-- The link that the reading names is that of the first block at fault.
use Rattle.std.proofs.Common.{◌≡◌, ℕ, zero, suc, cond, Bool, true, false, ◌&&◌, List, [], ◌∷◌, ◌++◌, refl, sym, ap, ◌∙◌, subst, Option, Some, None, Result, Ok, Err, ◌⊎◌, inl, inr}
use Rattle.std.specs.FinMap as map
use Rattle.std.specs.FinMap.{FinMap}
use Rattle.at_cid.specs.Order.{key_cmp}
use Rattle.mst_list.specs.declared.item.Item.{Item}
use Rattle.mst_list.specs.declared.item.Item.TheVariants.{Key}
use Rattle.mst_node.specs.declared.entry.Entry.{Entry}
use Rattle.mst_node.specs.Nodes.{Node, IsReader}
use Rattle.mst_node.specs.NodeFaults.{IsNodeAt, IsTopNode, layer_of, next_bound}
use Rattle.mst_node.specs.FirstFault.{Extent, HasFault, HasFaultBelow, HasFaultIn, HasTopFault, IsFaultAt, IsFirstBelow, IsFirstFault, IsFirstIn, IsFirstTopFault, IsMissing}
use Rattle.mst_node.specs.Fits.{may_hang, is_some_node, may_top, node_fits, top_fits}
use Rattle.mst_node.specs.Fits as fits
use Rattle.mst_node.specs.TreeReading.{go_on, block_of, or_missing, parts_of, rights_of, part_at, top_of}
use Rattle.mst_node.proofs.Told.{both_true}
use Rattle.mst_node.proofs.Passes.{fit_true, true_fit, hang_true, true_hang, formed_of, ascend_of, over_none, went_on, went_wrong, passed, stopped, missing_err, missing_or_there, either}
use Rattle.mst_node.proofs.Finds.{some_node, may_top_of}
use Rattle.mst_node.proofs.Steps.{at_link, at_none, at_zero, block_fit}

last_wrong : {A X F : Type 0} (r : Result A F) (k : A → X) (f : F) → go_on r (λ x. Ok (k x)) ≡ Err f → r ≡ Err f
last_wrong (Ok x) k f e = absurd (cc)
last_wrong (Err z) k f e = let same : z ≡ f = cc in ap Err same

no_pass : (passes : Node → Bool) (parts : Node → Result (List Item) (List ℕ)) (c : List ℕ) (o : Option Node) → ((n : Node) → o ≡ Some n → passes n ≡ true → ⊥) → block_of passes parts c o ≡ Err c
no_pass passes parts c None h = refl
no_pass passes parts c (Some n) h = go (passes n) refl
  where
    go : (b : Bool) → passes n ≡ b → cond b (parts n) (Err c) ≡ Err c
    go true p = absurd (h n refl p)
    go false p = refl

-- what is said of what lies below a node
abbrev pub Below : Type 1
Below = Option (List ℕ) → List Entry → List ℕ → Type 0

-- the first fault is one
module _ (extent : Extent) (B : FinMap key_cmp (List ℕ)) where
  carried : (stands : List ℕ → Option (List ℕ) → List Entry → Type 0) (below other : Below) (c f : List ℕ) → ((left : Option (List ℕ)) (es : List Entry) → below left es f → other left es f) → IsFaultAt extent B stands below c f → IsFaultAt extent B stands other c f
  carried stands below other c f h (inl m) = inl m
  carried stands below other c f h (inr x) = inr (x.0, x.1, go x.2)
    where
      go : (((left : Option (List ℕ)) (es : List Entry) → stands x.0 left es → ⊥) × (f ≡ c)) ⊎ ((left : Option (List ℕ)) × (es : List Entry) × stands x.0 left es × below left es f)
          → (((left : Option (List ℕ)) (es : List Entry) → stands x.0 left es → ⊥) × (f ≡ c)) ⊎ ((left : Option (List ℕ)) × (es : List Entry) × stands x.0 left es × other left es f)
      go (inl y) = inl y
      go (inr y) = inr (y.0, y.1, y.2, h y.0 y.1 y.3)

  abbrev PartsOne : ℕ → Type 0
  PartsOne h = (low high c : Option (List ℕ)) (f : List ℕ) → IsFirstFault extent B h low high c f → HasFault extent B h low high c f

  rests_one : (h : ℕ) → PartsOne h → (high : Option (List ℕ)) (es : List Entry) (f : List ℕ) → IsFirstIn (IsFirstFault extent B h) (HasFault extent B h) high es f → HasFaultIn (HasFault extent B h) high es f
  rests_one h ih high [] f e = e
  rests_one h ih high (x ∷ es) f e = go e (rests_one h ih high es f)
    where
      go : IsFirstIn (IsFirstFault extent B h) (HasFault extent B h) high (x ∷ es) f → (IsFirstIn (IsFirstFault extent B h) (HasFault extent B h) high es f → HasFaultIn (HasFault extent B h) high es f) → HasFaultIn (HasFault extent B h) high (x ∷ es) f
      go (inl a) more = inl (ih (Some x.key) (next_bound high es) x.right f a)
      go (inr a) more = inr (more a.1)

  node_one : (h : ℕ) → PartsOne h → (low high left : Option (List ℕ)) (es : List Entry) (f : List ℕ) → IsFirstBelow (IsFirstFault extent B h) (HasFault extent B h) low high left es f → HasFaultBelow (HasFault extent B h) low high left es f
  node_one h ih low high left es f (inl a) = inl (ih low (next_bound high es) left f a)
  node_one h ih low high left es f (inr a) = inr (rests_one h ih high es f a.1)

  pub all_one : (h : ℕ) → PartsOne h
  all_one zero low high c f e = e
  all_one (suc h) low high None f e = e
  all_one (suc h) low high (Some c) f e =
      carried (IsNodeAt h low high) (IsFirstBelow (IsFirstFault extent B h) (HasFault extent B h) low high) (HasFaultBelow (HasFault extent B h) low high) c f (λ left es x. node_one h (all_one h) low high left es f x) e

  pub top_one : (r f : List ℕ) → IsFirstTopFault extent B r f → HasTopFault extent B r f
  top_one r f e =
      carried IsTopNode (λ left es. IsFirstBelow (IsFirstFault extent B (layer_of es)) (HasFault extent B (layer_of es)) None None left es) (λ left es. HasFaultBelow (HasFault extent B (layer_of es)) None None left es) r f
      (λ left es x. node_one (layer_of es) (all_one (layer_of es)) None None left es f x) e

module _ (read : List ℕ → Option Node) (reader : IsReader read) (extent : Extent) (B : FinMap key_cmp (List ℕ)) where
  -- which nodes pass
  node_some : (n : Node) → is_some_node n ≡ true → n.0 ≡ None → n.1 ≡ [] → ⊥
  node_some (None, []) s a b = absurd (cc)
  node_some (None, e ∷ es) s a b = absurd (cc)
  node_some (Some c, es) s a b = absurd (cc)

  passes_node : (h : ℕ) (low high : Option (List ℕ)) (b : List ℕ) (n : Node) → read b ≡ Some n → node_fits h low high n ≡ true → IsNodeAt h low high b n.0 n.1
  passes_node h low high b n e p =
      let g = reader.sound.gives b n e in
      let t = both_true (may_hang h n.0 && is_some_node n) (fits.entries_fit h low high n.1) p in
      let u = both_true (may_hang h n.0) (is_some_node n) t.0 in
      record { encoded = g.0; left_link = g.1; entries = fit_true h low high n.1 g.2 t.1; lowest = hang_true h n.0 u.0; some = node_some n u.1 }

  node_passes : (h : ℕ) (low high : Option (List ℕ)) (b : List ℕ) (left : Option (List ℕ)) (es : List Entry) → IsNodeAt h low high b left es → (read b ≡ Some (left, es)) × (node_fits h low high (left, es) ≡ true)
  node_passes h low high b left es n = (
    ap read n.encoded ∙ reader.reads left es n.left_link (formed_of h low high es n.entries) (over_none low es (ascend_of h low high es n.entries)),
    rw (true_hang h left n.lowest, some_node read reader B left es n.some, true_fit h low high es n.entries) refl,
  )

  top_empty : (n : Node) → may_top n ≡ true → n.1 ≡ [] → n.0 ≡ None
  top_empty (None, es) m a = refl
  top_empty (Some c, []) m a = absurd (cc)
  top_empty (Some c, e ∷ es) m a = absurd (cc)

  passes_top : (b : List ℕ) (n : Node) → read b ≡ Some n → top_fits n ≡ true → IsTopNode b n.0 n.1
  passes_top b n e p =
      let g = reader.sound.gives b n e in let h = layer_of n.1 in
      let t = both_true (may_hang h n.0 && may_top n) (fits.entries_fit h None None n.1) p in
      let u = both_true (may_hang h n.0) (may_top n) t.0 in
      record { encoded = g.0; left_link = g.1; entries = fit_true h None None n.1 g.2 t.1; lowest = hang_true h n.0 u.0; empty = top_empty n u.1 }

  top_passes : (b : List ℕ) (left : Option (List ℕ)) (es : List Entry) → IsTopNode b left es → (read b ≡ Some (left, es)) × (top_fits (left, es) ≡ true)
  top_passes b left es n =
      let h = layer_of es in (
        ap read n.encoded ∙ reader.reads left es n.left_link (formed_of h None None es n.entries) (over_none None es (ascend_of h None None es n.entries)),
        rw (true_hang h left n.lowest, may_top_of read reader B left es n.empty, true_fit h None None es n.entries) refl,
      )

  -- a test of nodes says which stand at a place
  record Tells (passes : Node → Bool) (stands : List ℕ → Option (List ℕ) → List Entry → Type 0) : Type 0 where
    pub sound : (b : List ℕ) (n : Node) → read b ≡ Some n → passes n ≡ true → stands b n.0 n.1
    pub complete : (b : List ℕ) (left : Option (List ℕ)) (es : List Entry) → stands b left es → (read b ≡ Some (left, es)) × (passes (left, es) ≡ true)

  node_tells : (h : ℕ) (low high : Option (List ℕ)) → Tells (node_fits h low high) (IsNodeAt h low high)
  node_tells h low high = record { sound = passes_node h low high; complete = node_passes h low high }

  top_tells : Tells top_fits IsTopNode
  top_tells = record { sound = passes_top; complete = top_passes }

  -- what is read of the block under a link
  abbrev read_under : ℕ → (Node → Bool) → (Node → Result (List Item) (List ℕ)) → List ℕ → Result (List Item) (List ℕ)
  read_under h passes parts c = or_missing extent h c (λ b. block_of passes parts c (read b)) (map.get B c)

  under_block : (h : ℕ) (passes : Node → Bool) (parts : Node → Result (List Item) (List ℕ)) (c b : List ℕ) → map.get B c ≡ Some b → read_under h passes parts c ≡ block_of passes parts c (read b)
  under_block h passes parts c b at = ap (or_missing extent h c (λ x. block_of passes parts c (read x))) at

  -- where a list is read nothing is at fault
  clean_under : (h : ℕ) (passes : Node → Bool) (parts : Node → Result (List Item) (List ℕ)) (stands : List ℕ → Option (List ℕ) → List Entry → Type 0) (below : Below) (c g : List ℕ) (F : List Item)
      → Tells passes stands → ((n : Node) → parts n ≡ Ok F → below n.0 n.1 g → ⊥) → read_under h passes parts c ≡ Ok F → IsFaultAt extent B stands below c g → ⊥
  clean_under h passes parts stands below c g F tells clean e (inl m) = let gone = missing_err extent B h c (λ b. block_of passes parts c (read b)) g m in absurd (cc)
  clean_under h passes parts stands below c g F tells clean e (inr a) = go a.2 (passed passes parts c (read a.0) F (sym (under_block h passes parts c a.0 a.1) ∙ e))
    where
      go : (((left : Option (List ℕ)) (es : List Entry) → stands a.0 left es → ⊥) × (g ≡ c)) ⊎ ((left : Option (List ℕ)) × (es : List Entry) × stands a.0 left es × below left es g)
          → (n : Node) × (read a.0 ≡ Some n) × (passes n ≡ true) × (parts n ≡ Ok F) → ⊥
      go (inl x) s = x.0 s.0.0 s.0.1 (tells.sound a.0 s.0 s.1 s.2)
      go (inr x) s =
          let is = (tells.complete a.0 x.0 x.1 x.2).0 in
          let two : Some (x.0, x.1) ≡ Some s.0 = sym is ∙ s.1 in let one : (x.0, x.1) ≡ s.0 = cc in
          let R : Node → Type 0 = λ m. below m.0 m.1 g in
          clean s.0 s.3 (subst R one x.3)

  -- the link that is named is that of a fault
  blamed_under : (h : ℕ) (passes : Node → Bool) (parts : Node → Result (List Item) (List ℕ)) (stands : List ℕ → Option (List ℕ) → List Entry → Type 0) (below : Below) (c f : List ℕ)
      → Tells passes stands → ((n : Node) → parts n ≡ Err f → below n.0 n.1 f) → read_under h passes parts c ≡ Err f → IsFaultAt extent B stands below c f
  blamed_under h passes parts stands below c f tells blamed e = go (missing_or_there extent B h c (λ b. block_of passes parts c (read b)) f e)
    where
      inside : (b : List ℕ) → (((n : Node) → read b ≡ Some n → passes n ≡ true → ⊥) × (f ≡ c)) ⊎ ((n : Node) × (read b ≡ Some n) × (passes n ≡ true) × (parts n ≡ Err f))
          → (((left : Option (List ℕ)) (es : List Entry) → stands b left es → ⊥) × (f ≡ c)) ⊎ ((left : Option (List ℕ)) × (es : List Entry) × stands b left es × below left es f)
      inside b (inl x) = inl (λ left es n. let p = tells.complete b left es n in x.0 (left, es) p.0 p.1, x.1)
      inside b (inr x) = inr (x.0.0, x.0.1, tells.sound b x.0 x.1 x.2, blamed x.0 x.3)

      go : IsMissing extent B c f ⊎ ((b : List ℕ) × (map.get B c ≡ Some b) × (block_of passes parts c (read b) ≡ Err f)) → IsFaultAt extent B stands below c f
      go (inl m) = inl m
      go (inr t) = inr (t.0, t.1, inside t.0 (stopped passes parts c (read t.0) f t.2))

  -- a fault is named
  named_under : (h : ℕ) (passes : Node → Bool) (parts : Node → Result (List Item) (List ℕ)) (stands : List ℕ → Option (List ℕ) → List Entry → Type 0) (below : Below) (c f : List ℕ)
      → Tells passes stands → ((left : Option (List ℕ)) (es : List Entry) → below left es f → parts (left, es) ≡ Err f) → IsFaultAt extent B stands below c f → read_under h passes parts c ≡ Err f
  named_under h passes parts stands below c f tells named (inl m) = missing_err extent B h c (λ b. block_of passes parts c (read b)) f m
  named_under h passes parts stands below c f tells named (inr e) = under_block h passes parts c e.0 e.1 ∙ go e.0 e.2
    where
      go : (b : List ℕ) → (((left : Option (List ℕ)) (es : List Entry) → stands b left es → ⊥) × (f ≡ c)) ⊎ ((left : Option (List ℕ)) × (es : List Entry) × stands b left es × below left es f)
          → block_of passes parts c (read b) ≡ Err f
      go b (inl x) = no_pass passes parts c (read b) (λ n is p. x.0 n.0 n.1 (tells.sound b n is p)) ∙ ap Err (sym x.1)
      go b (inr x) = let p = tells.complete b x.0 x.1 x.2 in block_fit passes parts c (read b) (x.0, x.1) p.0 p.1 ∙ named x.0 x.1 x.3

  abbrev PartsClean : ℕ → Type 0
  PartsClean h = (low high c : Option (List ℕ)) (P : List Item) (g : List ℕ) → part_at extent read B h low high c ≡ Ok P → HasFault extent B h low high c g → ⊥

  rests_clean : (h : ℕ) → PartsClean h → (high : Option (List ℕ)) (es : List Entry) (G : List Item) (g : List ℕ) → rights_of (part_at extent read B h) high es ≡ Ok G → HasFaultIn (HasFault extent B h) high es g → ⊥
  rests_clean h ih high [] G g e a = a
  rests_clean h ih high (x ∷ es) G g e a =
      let below = part_at extent read B h in
      let s = went_on (below (Some x.key) (next_bound high es) x.right) (λ P. go_on (rights_of below high es) (λ T. Ok (Key x.key x.value ∷ (P ++ T)))) G e in
      let t = went_on (rights_of below high es) (λ T. Ok (Key x.key x.value ∷ (s.0 ++ T))) G s.2 in
      go a (ih (Some x.key) (next_bound high es) x.right s.0 g s.1) (rests_clean h ih high es t.0 g t.1)
    where
      go : HasFaultIn (HasFault extent B h) high (x ∷ es) g → (HasFault extent B h (Some x.key) (next_bound high es) x.right g → ⊥) → (HasFaultIn (HasFault extent B h) high es g → ⊥) → ⊥
      go (inl b) one more = one b
      go (inr b) one more = more b

  node_clean : (h : ℕ) → PartsClean h → (low high : Option (List ℕ)) (n : Node) (F : List Item) (g : List ℕ) → parts_of (part_at extent read B h) low high n ≡ Ok F → HasFaultBelow (HasFault extent B h) low high n.0 n.1 g → ⊥
  node_clean h ih low high n F g e a =
      let below = part_at extent read B h in let es = n.1 in
      let s = went_on (below low (next_bound high es) n.0) (λ P. go_on (rights_of below high es) (λ T. Ok (P ++ T))) F e in
      let t = went_on (rights_of below high es) (λ T. Ok (s.0 ++ T)) F s.2 in
      go a (ih low (next_bound high es) n.0 s.0 g s.1) (rests_clean h ih high es t.0 g t.1)
    where
      go : HasFaultBelow (HasFault extent B h) low high n.0 n.1 g → (HasFault extent B h low (next_bound high n.1) n.0 g → ⊥) → (HasFaultIn (HasFault extent B h) high n.1 g → ⊥) → ⊥
      go (inl b) one more = one b
      go (inr b) one more = more b

  all_clean : (h : ℕ) → PartsClean h
  all_clean zero low high c P g e a = a
  all_clean (suc h) low high None P g e a = a
  all_clean (suc h) low high (Some c) P g e a =
      clean_under h (node_fits h low high) (parts_of (part_at extent read B h) low high) (IsNodeAt h low high) (HasFaultBelow (HasFault extent B h) low high) c g P (node_tells h low high)
      (λ n read_is bad. node_clean h (all_clean h) low high n P g read_is bad) (sym (at_link extent read B h low high c) ∙ e) a

  -- what is read under the link of a top
  abbrev pub top_under : List ℕ → Result (List Item) (List ℕ)
  top_under r = or_missing extent 0 r (top_of extent read B r) (map.get B r)

  pub top_clean : (r g : List ℕ) (F : List Item) → top_under r ≡ Ok F → HasTopFault extent B r g → ⊥
  top_clean r g F e a =
      clean_under 0 top_fits (λ n. parts_of (part_at extent read B (layer_of n.1)) None None n) IsTopNode (λ left es. HasFaultBelow (HasFault extent B (layer_of es)) None None left es) r g F top_tells
      (λ n read_is bad. node_clean (layer_of n.1) (all_clean (layer_of n.1)) None None n F g read_is bad) e a

  -- the link that is named is that of the first fault
  abbrev PartsBlamed : ℕ → Type 0
  PartsBlamed h = (low high c : Option (List ℕ)) (f : List ℕ) → part_at extent read B h low high c ≡ Err f → IsFirstFault extent B h low high c f

  rests_blamed : (h : ℕ) → PartsBlamed h → (high : Option (List ℕ)) (es : List Entry) (f : List ℕ) → rights_of (part_at extent read B h) high es ≡ Err f → IsFirstIn (IsFirstFault extent B h) (HasFault extent B h) high es f
  rests_blamed h ih high [] f e = absurd (cc)
  rests_blamed h ih high (x ∷ es) f e =
      let below = part_at extent read B h in
      go (went_wrong (below (Some x.key) (next_bound high es) x.right) (λ P. go_on (rights_of below high es) (λ T. Ok (Key x.key x.value ∷ (P ++ T)))) f e) (rests_blamed h ih high es f)
    where
      go : (part_at extent read B h (Some x.key) (next_bound high es) x.right ≡ Err f) ⊎ ((P : List Item) × (part_at extent read B h (Some x.key) (next_bound high es) x.right ≡ Ok P) × (go_on (rights_of (part_at extent read B h) high es) (λ T. Ok (Key x.key x.value ∷ (P ++ T))) ≡ Err f))
          → (rights_of (part_at extent read B h) high es ≡ Err f → IsFirstIn (IsFirstFault extent B h) (HasFault extent B h) high es f) → IsFirstIn (IsFirstFault extent B h) (HasFault extent B h) high (x ∷ es) f
      go (inl a) more = inl (ih (Some x.key) (next_bound high es) x.right f a)
      go (inr a) more = inr (λ g k. all_clean h (Some x.key) (next_bound high es) x.right a.0 g a.1 k, more (last_wrong (rights_of (part_at extent read B h) high es) (λ T. Key x.key x.value ∷ (a.0 ++ T)) f a.2))

  node_blamed : (h : ℕ) → PartsBlamed h → (low high : Option (List ℕ)) (n : Node) (f : List ℕ) → parts_of (part_at extent read B h) low high n ≡ Err f → IsFirstBelow (IsFirstFault extent B h) (HasFault extent B h) low high n.0 n.1 f
  node_blamed h ih low high n f e =
      let below = part_at extent read B h in
      go (went_wrong (below low (next_bound high n.1) n.0) (λ P. go_on (rights_of below high n.1) (λ T. Ok (P ++ T))) f e)
    where
      go : (part_at extent read B h low (next_bound high n.1) n.0 ≡ Err f) ⊎ ((P : List Item) × (part_at extent read B h low (next_bound high n.1) n.0 ≡ Ok P) × (go_on (rights_of (part_at extent read B h) high n.1) (λ T. Ok (P ++ T)) ≡ Err f))
          → IsFirstBelow (IsFirstFault extent B h) (HasFault extent B h) low high n.0 n.1 f
      go (inl a) = inl (ih low (next_bound high n.1) n.0 f a)
      go (inr a) = inr (λ g k. all_clean h low (next_bound high n.1) n.0 a.0 g a.1 k, rests_blamed h ih high n.1 f (last_wrong (rights_of (part_at extent read B h) high n.1) (λ T. a.0 ++ T) f a.2))

  all_blamed : (h : ℕ) → PartsBlamed h
  all_blamed zero low high c f e = let read_is = at_zero extent read B low high c in absurd (cc)
  all_blamed (suc h) low high None f e = let read_is = at_none extent read B (suc h) low high in absurd (cc)
  all_blamed (suc h) low high (Some c) f e =
      blamed_under h (node_fits h low high) (parts_of (part_at extent read B h) low high) (IsNodeAt h low high) (IsFirstBelow (IsFirstFault extent B h) (HasFault extent B h) low high) c f (node_tells h low high)
      (λ n wrong. node_blamed h (all_blamed h) low high n f wrong) (sym (at_link extent read B h low high c) ∙ e)

  pub top_blamed : (r f : List ℕ) → top_under r ≡ Err f → IsFirstTopFault extent B r f
  top_blamed r f e =
      blamed_under 0 top_fits (λ n. parts_of (part_at extent read B (layer_of n.1)) None None n) IsTopNode (λ left es. IsFirstBelow (IsFirstFault extent B (layer_of es)) (HasFault extent B (layer_of es)) None None left es) r f top_tells
      (λ n wrong. node_blamed (layer_of n.1) (all_blamed (layer_of n.1)) None None n f wrong) e

  -- the first fault is named
  clean_read : (h : ℕ) (low high c : Option (List ℕ)) → ((g : List ℕ) → HasFault extent B h low high c g → ⊥) → (P : List Item) × (part_at extent read B h low high c ≡ Ok P)
  clean_read h low high c none = go (either (part_at extent read B h low high c))
    where
      go : ((P : List Item) × (part_at extent read B h low high c ≡ Ok P)) ⊎ ((g : List ℕ) × (part_at extent read B h low high c ≡ Err g)) → (P : List Item) × (part_at extent read B h low high c ≡ Ok P)
      go (inl x) = x
      go (inr x) = absurd (none x.0 (all_one extent B h low high c x.0 (all_blamed h low high c x.0 x.1)))

  abbrev PartsNamed : ℕ → Type 0
  PartsNamed h = (low high c : Option (List ℕ)) (f : List ℕ) → IsFirstFault extent B h low high c f → part_at extent read B h low high c ≡ Err f

  rests_named : (h : ℕ) → PartsNamed h → (high : Option (List ℕ)) (es : List Entry) (f : List ℕ) → IsFirstIn (IsFirstFault extent B h) (HasFault extent B h) high es f → rights_of (part_at extent read B h) high es ≡ Err f
  rests_named h ih high [] f e = absurd e
  rests_named h ih high (x ∷ es) f e = go e (rests_named h ih high es f)
    where
      go : IsFirstIn (IsFirstFault extent B h) (HasFault extent B h) high (x ∷ es) f → (IsFirstIn (IsFirstFault extent B h) (HasFault extent B h) high es f → rights_of (part_at extent read B h) high es ≡ Err f) → rights_of (part_at extent read B h) high (x ∷ es) ≡ Err f
      go (inl a) more = rw (ih (Some x.key) (next_bound high es) x.right f a) refl
      go (inr a) more = let s = clean_read h (Some x.key) (next_bound high es) x.right a.0 in rw (s.1, more a.1) refl

  node_named : (h : ℕ) → PartsNamed h → (low high left : Option (List ℕ)) (es : List Entry) (f : List ℕ) → IsFirstBelow (IsFirstFault extent B h) (HasFault extent B h) low high left es f → parts_of (part_at extent read B h) low high (left, es) ≡ Err f
  node_named h ih low high left es f (inl a) = rw (ih low (next_bound high es) left f a) refl
  node_named h ih low high left es f (inr a) = let s = clean_read h low (next_bound high es) left a.0 in rw (s.1, rests_named h ih high es f a.1) refl

  all_named : (h : ℕ) → PartsNamed h
  all_named zero low high c f e = absurd e
  all_named (suc h) low high None f e = absurd e
  all_named (suc h) low high (Some c) f e =
      at_link extent read B h low high c
      ∙ named_under h (node_fits h low high) (parts_of (part_at extent read B h) low high) (IsNodeAt h low high) (IsFirstBelow (IsFirstFault extent B h) (HasFault extent B h) low high) c f (node_tells h low high)
      (λ left es first. node_named h (all_named h) low high left es f first) e

  pub top_named : (r f : List ℕ) → IsFirstTopFault extent B r f → top_under r ≡ Err f
  top_named r f e =
      named_under 0 top_fits (λ n. parts_of (part_at extent read B (layer_of n.1)) None None n) IsTopNode (λ left es. IsFirstBelow (IsFirstFault extent B (layer_of es)) (HasFault extent B (layer_of es)) None None left es) r f top_tells
      (λ left es first. node_named (layer_of es) (all_named (layer_of es)) None None left es f first) e
