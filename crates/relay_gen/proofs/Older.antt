-- What is drawn for a map of older paths can be played on it.
use Rattle.std.proofs.Common.{◌≡◌, ℕ, zero, suc, ◌+◌, ◌*◌, ◌^◌, ◌<◌, ◌≤◌, Bool, true, false, ◌==◌, ◌||◌, cond, nat_lt, List, [], ◌∷◌, ◌++◌, length, slice_get, refl, sym, ap, ◌∙◌, subst, Option, Some, None, Less, arith, length-append}
use Rattle.std.specs.List.{list_any}
use Rattle.std.specs.Str.{bytes_eq}
use Rattle.at_cid.specs.Link.{IsLink}
use Rattle.at_cid.specs.Order.{key_cmp}
use Rattle.at_cid.proofs.Bytes.{cid_is_link}
use Rattle.at_cid.proofs.Order.{cmp_same}
use Rattle.mst_list.specs.declared.item.Item.{Item}
use Rattle.mst_list.specs.declared.item.Item.TheVariants.{Key, Hole}
use Rattle.mst_list.specs.declared.op.Op.{Op}
use Rattle.mst_list.specs.Lists.{AllAbove, Ascends, AreFormed, IsKey, IsMap}
use Rattle.mst_list.specs.Edits.{by_order, before, after, value_at, with_value, put, IsNewTo, AreApart, IsFormedOp, AreFormedOps}
use Rattle.mst_list.specs.Maps.{AllApply, edited}
use Rattle.mst_list.proofs.Formed.{ops_more}
use Rattle.mst_list.proofs.Places.{rebuilt}
use Rattle.std.proofs.lemmas.Slice.Eq.{bytes_eq-Decides}
use Rattle.relay_gen.specs.Draws.{next, drawn}
use Rattle.relay_gen.specs.Names.{generated_path, generated_value}
use Rattle.relay_gen.specs.Drafts.{Draft, creation, drafted, with_drawn, with_edit, with_more, with_op}
use Rattle.relay_gen.specs.States.{AreOlder}
use Rattle.relay_gen.proofs.Ascending.{path_less}
use Rattle.relay_gen.proofs.Texts.{path_key}
use Rattle.relay_gen.proofs.Plays.{apart_more}

pub value_link : (n : ℕ) → IsLink (generated_value n)
unfolding generated_value
value_link n = let l = cid_is_link _ in record { link = l.link; bytes = l.bytes }

-- a path of no smaller number isn't in the map
pub none_older : (n m : ℕ) (s : List Item) → AreOlder n s → n ≤ m → m < 10 ^ 8 → value_at (generated_path m) s ≡ None
none_older n m [] o le most = refl
none_older n m (Hole l c ∷ s) o le most = absurd o
none_older n m (Key k v ∷ s) o le most =
    let low = o.0.1 in
    let less : key_cmp k (generated_path m) ≡ Less = ap (λ x. key_cmp x (generated_path m)) o.0.2 ∙ path_less o.0.0 m (omega arith) most in
    rw less (none_older n m s o.1 le most)

pub older_more : (n m : ℕ) (s : List Item) → n ≤ m → AreOlder n s → AreOlder m s
older_more n m [] le o = tt
older_more n m (Hole l c ∷ s) le o = o
older_more n m (Key k v ∷ s) le o = let low = o.0.1 in ((o.0.0, omega arith, o.0.2), older_more n m s le o.1)

same_text : (a b : List ℕ) → a ≡ b → bytes_eq a b ≡ true
same_text a b e = (bytes_eq-Decides a b).1 e

-- an operation whose key none has is new to them
is_new : (k : List ℕ) (ops : List Op) → list_any (λ (o : Op). bytes_eq o.key k) ops ≡ false → IsNewTo k ops
is_new k [] e = tt
is_new k (op ∷ ops) e =
    elim (bytes_eq op.key k) as (λ b. bytes_eq op.key k ≡ b → (b || list_any (λ (o : Op). bytes_eq o.key k) ops) ≡ false → IsNewTo k (op ∷ ops)) [
      | true ↦ λ f e. absurd cc
      | false ↦ λ f e. (λ same. let t = same_text op.key k (sym same) in absurd cc, is_new k ops e)
    ] refl e

-- each key is the path of a number below another
abbrev pub AreOpsOlder : ℕ → List Op → Type 0
AreOpsOlder n [] = Unit {0}
AreOpsOlder n (op ∷ ops) = ((m : ℕ) × (m < n) × (op.key ≡ generated_path m)) × AreOpsOlder n ops

ops_older_more : (n m : ℕ) (ops : List Op) → n ≤ m → AreOpsOlder n ops → AreOpsOlder m ops
ops_older_more n m [] le o = tt
ops_older_more n m (op ∷ ops) le o = let low = o.0.1 in ((o.0.0, omega arith, o.0.2), ops_older_more n m ops le o.1)

ops_older_last : (n : ℕ) (ops : List Op) (op : Op) → AreOpsOlder n ops → (m : ℕ) × (m < n) × (op.key ≡ generated_path m) → AreOpsOlder n (ops ++ op ∷ [])
ops_older_last n [] op o l = (l, tt)
ops_older_last n (x ∷ ops) op o l = (o.0, ops_older_last n ops op o.1 l)

apply_last : (s : List Item) (ops : List Op) (op : Op) → AllApply s ops → value_at op.key s ≡ op.was → AllApply s (ops ++ op ∷ [])
apply_last s [] op a v = (v, tt)
apply_last s (x ∷ ops) op a v = (a.0, apply_last s ops op a.1 v)

-- operations that can be played, so many at most, with paths of numbers below one
pub record IsGood (s : List Item) (n count : ℕ) (ops : List Op) : Type 0 where
  pub apply : AllApply s ops
  pub apart : AreApart ops
  pub formed : AreFormedOps ops
  pub few : length ops ≤ count
  pub older : AreOpsOlder n ops

good_with : (s : List Item) (n m count : ℕ) (ops : List Op) (op : Op) → n ≤ m → IsGood s n count ops → value_at op.key s ≡ op.was → IsFormedOp op → (l : ℕ) × (l < m) × (op.key ≡ generated_path l) → IsGood s m (suc count) (with_op ops op)
good_with s n m count ops op le g v f l =
    let more = ops_older_more n m ops le g.older in let few = g.few in
    elim (list_any (λ (o : Op). bytes_eq o.key op.key) ops) as (λ b. list_any (λ (o : Op). bytes_eq o.key op.key) ops ≡ b → IsGood s m (suc count) (cond b ops (ops ++ op ∷ []))) [
      | true ↦ λ e. record { apply = g.apply; apart = g.apart; formed = g.formed; few = omega arith; older = more }
      | false ↦ λ e. let n = length-append ops (op ∷ []) in record {
        apply = apply_last s ops op g.apply v;
        apart = apart_more ops op g.apart (is_new op.key ops e);
        formed = ops_more ops (ops ++ op ∷ []) op refl g.formed f;
        few = omega arith;
        older = ops_older_last m ops op more l;
      }
    ] refl

-- what is known of an item of a map
record IsHere (n : ℕ) (s : List Item) (k w : List ℕ) : Type 0 where
  value : value_at k s ≡ Some w
  key : IsKey k
  link : IsLink w
  older : (m : ℕ) × (m < n) × (k ≡ generated_path m)

above_at : (j : List ℕ) (s : List Item) (i : ℕ) (k w : List ℕ) → AllAbove j s → slice_get s i ≡ Some (Key k w) → key_cmp j k ≡ Less
above_at j [] i k w a e = absurd cc
above_at j (Key l v ∷ s) zero k w a e = let same : l ≡ k = cc in subst (λ x. key_cmp j x ≡ Less) same a.0
above_at j (Hole l c ∷ s) zero k w a e = absurd cc
above_at j (Key l v ∷ s) (suc i) k w a e = above_at j s i k w a.1 e
above_at j (Hole l c ∷ s) (suc i) k w a e = above_at j s i k w a e

here_at : (n : ℕ) (s : List Item) (i : ℕ) (k w : List ℕ) → AreFormed s → Ascends s → AreOlder n s → slice_get s i ≡ Some (Key k w) → IsHere n s k w
here_at n [] i k w f a o e = absurd cc
here_at n (Hole l c ∷ s) i k w f a o e = absurd o
here_at n (Key j v ∷ s) zero k w f a o e =
    let same : j ≡ k = cc in let value : v ≡ w = cc in
    record {
      value = ap (λ x. by_order (key_cmp x k) (value_at k s) (Some v) None) same ∙ ap (λ r. by_order r (value_at k s) (Some v) None) (cmp_same k) ∙ ap Some value;
      key = subst IsKey same f.0.0;
      link = subst IsLink value f.0.1;
      older = (o.0.0, o.0.1, sym same ∙ o.0.2);
    }
here_at n (Key j v ∷ s) (suc i) k w f a o e =
    let h = here_at n s i k w f.1 a.1 o.1 e in
    record { value = ap (λ r. by_order r (value_at k s) (Some v) None) (above_at j s i k w a.0 e) ∙ h.value; key = h.key; link = h.link; older = h.older }

edited_formed : (kind : ℕ) (k was now : List ℕ) → IsKey k → IsLink was → IsLink now → IsFormedOp (record { key = k; was = Some was; now = cond (kind == 7) None (Some now) })
edited_formed kind k was now f l m = go (kind == 7)
  where
    go : (b : Bool) → IsFormedOp (record { key = k; was = Some was; now = cond b None (Some now) })
    go true = (f, l, tt, λ none. absurd cc)
    go false = (f, l, m, λ none. absurd cc)

good_same : (s : List Item) (l m count : ℕ) (ops : List Op) → l ≤ m → IsGood s l count ops → IsGood s m (suc count) ops
good_same s l m count ops low g = let few = g.few in record { apply = g.apply; apart = g.apart; formed = g.formed; few = omega arith; older = ops_older_more l m ops low g.older }

good_edit : (s : List Item) (n l m count kind number i : ℕ) (ops : List Op) → IsMap s → AreOlder n s → n ≤ m → l ≤ m → IsGood s l count ops → IsGood s m (suc count) (with_edit ops kind (generated_value number) (slice_get s i))
good_edit s n l m count kind number i ops map o le low g = go (slice_get s i) refl
  where
    go : (item : Option Item) → slice_get s i ≡ item → IsGood s m (suc count) (with_edit ops kind (generated_value number) item)
    go None e = good_same s l m count ops low g
    go (Some (Hole h c)) e = good_same s l m count ops low g
    go (Some (Key k w)) e =
        let h = here_at n s i k w map.formed map.ascends o e in
        let small = h.older.1 in
        good_with s l m count ops (record { key = k; was = Some w; now = cond (kind == 7) None (Some (generated_value number)) }) low g h.value (edited_formed kind k w (generated_value number) h.key h.link (value_link number)) (h.older.0, omega arith, h.older.2)

abbrev drafts_ops : Draft → List Op
drafts_ops d = d.ops

good_drawn : (s : List Item) (i j : ℕ) (d : Draft) → IsMap s → AreOlder (i * 4) s → i * 4 + j < 10 ^ 8 → IsGood s (i * 4 + j) j d.ops → IsGood s (i * 4 + suc j) (suc j) (with_drawn s i j d).ops
good_drawn s i j d map o most g =
    let n = i * 4 + j in let kind = drawn 8 (next d.state) in let place = drawn (length s) (next (next d.state)) in
    let x : Draft = record { ops = with_op d.ops (creation i j); state = next d.state } in
    let y : Draft = record { ops = with_edit d.ops kind (generated_value (i * 8 + j)) (slice_get s place); state = next (next d.state) } in
    elim (nat_lt kind 5 || length s == 0) as (λ b. IsGood s (i * 4 + suc j) (suc j) (drafts_ops (cond {A = Draft} b x y))) [
      | true ↦ good_with s n (i * 4 + suc j) j d.ops (creation i j) (omega arith) g (none_older (i * 4) n s o (omega arith) most) (path_key n, tt, value_link (i * 8 + j), λ none some. absurd cc) (n, omega arith, refl)
      | false ↦ good_edit s (i * 4) n (i * 4 + suc j) j kind (i * 8 + j) place d.ops map o (omega arith) (omega arith) g
    ]

good_more : (s : List Item) (i j left : ℕ) (d : Draft) → IsMap s → AreOlder (i * 4) s → i * 4 + (j + left) < 10 ^ 8 → IsGood s (i * 4 + j) j d.ops → IsGood s (i * 4 + (j + left)) (j + left) (with_more s i j left d).ops
good_more s i j zero d map o most g = subst (λ n. IsGood s (i * 4 + n) n d.ops) (omega arith) g
good_more s i j (suc left) d map o most g =
    let n : suc j + left ≡ j + suc left = omega arith in
    subst (λ n. IsGood s (i * 4 + n) n (with_more s i (suc j) left (with_drawn s i j d)).ops) n
    (good_more s i (suc j) left (with_drawn s i j d) map o (omega arith) (good_drawn s i j d map o (omega arith) g))

good_up : (s : List Item) (n m a b : ℕ) (ops : List Op) → n ≤ m → a ≤ b → IsGood s n a ops → IsGood s m b ops
good_up s n m a b ops le few g = let f = g.few in record { apply = g.apply; apart = g.apart; formed = g.formed; few = omega arith; older = ops_older_more n m ops le g.older }

-- what is drawn for commit i is good
pub drafted_good : (s : List Item) (i x : ℕ) → IsMap s → AreOlder (i * 4) s → i * 4 + 4 < 10 ^ 8 → IsGood s (i * 4 + 4) 4 (drafted s i x).ops
unfolding drawn
drafted_good s i x map o most =
    let c = drawn 4 (next x) in let low : c < 4 = omega arith in
    good_up s (i * 4 + (0 + (1 + c))) (i * 4 + 4) (0 + (1 + c)) 4 (drafted s i x).ops (omega arith) (omega arith)
    (good_more s i 0 (1 + c) (record { ops = []; state = next x }) map o (omega arith) (record { apply = tt; apart = tt; formed = tt; few = omega arith; older = tt }))

older_joined : (n : ℕ) (A B : List Item) → AreOlder n A → AreOlder n B → AreOlder n (A ++ B)
older_joined n [] B a b = b
older_joined n (Hole l c ∷ A) B a b = a
older_joined n (Key k v ∷ A) B a b = (a.0, older_joined n A B a.1 b)

older_parts : (n : ℕ) (A B : List Item) → AreOlder n (A ++ B) → AreOlder n A × AreOlder n B
older_parts n [] B o = (tt, o)
older_parts n (Hole l c ∷ A) B o = absurd o
older_parts n (Key k v ∷ A) B o = let r = older_parts n A B o.1 in ((o.0, r.0), r.1)

older_value : (n : ℕ) (k : List ℕ) (o : Option (List ℕ)) → (m : ℕ) × (m < n) × (k ≡ generated_path m) → AreOlder n (with_value k o)
older_value n k None l = tt
older_value n k (Some v) l = (l, tt)

older_put : (n : ℕ) (k : List ℕ) (o : Option (List ℕ)) (s : List Item) → (m : ℕ) × (m < n) × (k ≡ generated_path m) → AreOlder n s → AreOlder n (put k o s)
older_put n k o s l old =
    let parts = older_parts n (before k s) (with_value k (value_at k s) ++ after k s) (subst (AreOlder n) (sym (rebuilt k s)) old) in
    older_joined n (before k s) (with_value k o ++ after k s) parts.0 (older_joined n (with_value k o) (after k s) (older_value n k o l) (older_parts n (with_value k (value_at k s)) (after k s) parts.1).1)

-- paths stay of numbers below one
pub older_played : (n : ℕ) (s : List Item) (ops : List Op) → AreOlder n s → AreOpsOlder n ops → AreOlder n (edited s ops)
older_played n s [] o l = o
older_played n s (op ∷ ops) o l = older_played n (put op.key op.now s) ops (older_put n op.key op.now s l.0 o) l.1

-- an edit that is drawn
pub drawn_edit : (s : List Item) (i j : ℕ) (d : Draft) (k was : List ℕ) (now : Option (List ℕ)) → nat_lt (drawn 8 (next d.state)) 5 ≡ false → (length s == 0) ≡ false → slice_get s (drawn (length s) (next (next d.state))) ≡ Some (Key k was) → cond (drawn 8 (next d.state) == 7) None (Some (generated_value (i * 8 + j))) ≡ now
    → record { ops = with_op d.ops (record { key = k; was = Some was; now = now }); state = next (next d.state) } ≡ with_drawn s i j d
drawn_edit s i j d k was now low some item is = rw (low, some, item, is) refl
