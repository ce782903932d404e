-- Lists with holes and the maps that fill them.
use Rattle.std.proofs.Common.{◌≡◌, ℕ, List, [], ◌∷◌, ◌++◌, refl, sym, ap, ◌∙◌, subst, Less, Option, Some, None, append_assoc}
use Rattle.mst_list.specs.declared.item.Item.{Item}
use Rattle.mst_list.specs.declared.item.Item.TheVariants.{Key, Hole}
use Rattle.at_cid.specs.Link.{IsLinkOrNone}
use Rattle.at_cid.specs.Order.{key_cmp}
use Rattle.mst_list.specs.Lists.{AllAbove, Ascends, KeysOnly, AreFormed, IsKey}
use Rattle.mst_list.specs.Edits.{with_value, Filled}
use Rattle.at_cid.proofs.Order.{cmp_trans}
use Rattle.mst_list.proofs.Places.{AllBelow, StartsAbove}

-- the two parts of a filled list are filled by two parts
pub record FilledParts (holds : ℕ → List ℕ → List Item → Type 0) (A B s : List Item) : Type 0 where
  pub first : List Item
  pub last : List Item
  pub joined : s ≡ first ++ last
  pub fills_first : Filled holds A first
  pub fills_last : Filled holds B last

pub filled_parts : (holds : ℕ → List ℕ → List Item → Type 0) (A B s : List Item) → Filled holds (A ++ B) s → FilledParts holds A B s
filled_parts holds [] B s f = record { first = []; last = s; joined = refl; fills_first = refl; fills_last = f }
filled_parts holds (Key k v ∷ A) B s f =
    let p = filled_parts holds A B f.0 f.2 in
    record { first = Key k v ∷ p.first; last = p.last; joined = f.1 ∙ ap (λ G. Key k v ∷ G) p.joined; fills_first = (p.first, refl, p.fills_first); fills_last = p.fills_last }
filled_parts holds (Hole l c ∷ A) B s f =
    let p = filled_parts holds A B f.1 f.4 in
    record { first = f.0 ++ p.first; last = p.last; joined = f.2 ∙ ap (λ G. f.0 ++ G) p.joined ∙ sym (append_assoc f.0 p.first p.last); fills_first = (f.0, p.first, refl, f.3, p.fills_first); fills_last = p.fills_last }

pub filled_join : (holds : ℕ → List ℕ → List Item → Type 0) (A B a b : List Item) → Filled holds A a → Filled holds B b → Filled holds (A ++ B) (a ++ b)
filled_join holds [] B a b f g = let P : List Item → Type 0 = λ x. Filled holds B (x ++ b) in subst P (sym f) g
filled_join holds (Key k v ∷ A) B a b f g = (f.0 ++ b, ap (λ G. G ++ b) f.1, filled_join holds A B f.0 b f.2 g)
filled_join holds (Hole l c ∷ A) B a b f g = (f.0, f.1 ++ b, ap (λ G. G ++ b) f.2 ∙ append_assoc f.0 f.1 b, f.3, filled_join holds A B f.1 b f.4 g)

-- what a value at a key is filled by is that value at that key
pub filled_value : (holds : ℕ → List ℕ → List Item → Type 0) (k : List ℕ) (o : Option (List ℕ)) (x : List Item) → Filled holds (with_value k o) x → x ≡ with_value k o
filled_value holds k None x f = f
filled_value holds k (Some v) x f = f.1 ∙ ap (λ G. Key k v ∷ G) f.2

pub value_filled : (holds : ℕ → List ℕ → List Item → Type 0) (k : List ℕ) (o : Option (List ℕ)) → Filled holds (with_value k o) (with_value k o)
value_filled holds k None = refl
value_filled holds k (Some v) = ([], refl, refl)

-- ascending lists in parts
pub all_above_parts : (k : List ℕ) (a b : List Item) → AllAbove k (a ++ b) → AllAbove k a × AllAbove k b
all_above_parts k [] b h = (tt, h)
all_above_parts k (Key j v ∷ a) b h = let p = all_above_parts k a b h.1 in ((h.0, p.0), p.1)
all_above_parts k (Hole l c ∷ a) b h = all_above_parts k a b h

pub all_above_join : (k : List ℕ) (a b : List Item) → AllAbove k a → AllAbove k b → AllAbove k (a ++ b)
all_above_join k [] b h g = g
all_above_join k (Key j v ∷ a) b h g = (h.0, all_above_join k a b h.1 g)
all_above_join k (Hole l c ∷ a) b h g = all_above_join k a b h g

pub all_above_up : (j k : List ℕ) (a : List Item) → key_cmp j k ≡ Less → AllAbove k a → AllAbove j a
all_above_up j k [] e h = tt
all_above_up j k (Key i v ∷ a) e h = (cmp_trans j k i e h.0, all_above_up j k a e h.1)
all_above_up j k (Hole l c ∷ a) e h = all_above_up j k a e h

pub ascends_last : (a b : List Item) → Ascends (a ++ b) → Ascends b
ascends_last [] b h = h
ascends_last (Key j v ∷ a) b h = ascends_last a b h.1
ascends_last (Hole l c ∷ a) b h = ascends_last a b h

-- each key of the first list is below each key of the second
abbrev pub IsBelow : List Item → List Item → Type 0
IsBelow [] b = Unit {0}
IsBelow (Key j v ∷ a) b = AllAbove j b × IsBelow a b
IsBelow (Hole l c ∷ a) b = IsBelow a b

pub is_below_parts : (a b : List Item) → Ascends (a ++ b) → Ascends a × IsBelow a b × Ascends b
is_below_parts [] b h = (tt, tt, h)
is_below_parts (Key j v ∷ a) b h = let p = is_below_parts a b h.1 in let q = all_above_parts j a b h.0 in ((q.0, p.0), (q.1, p.1), p.2)
is_below_parts (Hole l c ∷ a) b h = is_below_parts a b h

pub ascends_join : (a b : List Item) → Ascends a → IsBelow a b → Ascends b → Ascends (a ++ b)
ascends_join [] b h m g = g
ascends_join (Key j v ∷ a) b h m g = (all_above_join j a b h.0 m.0, ascends_join a b h.1 m.1 g)
ascends_join (Hole l c ∷ a) b h m g = ascends_join a b h m g

-- round a key that stands in the list
pub below_key : (k v : List ℕ) (a b : List Item) → IsBelow a (Key k v ∷ b) → AllBelow k a
below_key k v [] b h = tt
below_key k v (Key j w ∷ a) b h = (h.0.0, below_key k v a b h.1)
below_key k v (Hole l c ∷ a) b h = below_key k v a b h

pub is_below_of : (k : List ℕ) (a b : List Item) → AllBelow k a → AllAbove k b → IsBelow a b
is_below_of k [] b h g = tt
is_below_of k (Key j w ∷ a) b h g = (all_above_up j k b h.0 g, is_below_of k a b h.1 g)
is_below_of k (Hole l c ∷ a) b h g = is_below_of k a b h g

pub starts_above : (k : List ℕ) (b : List Item) → KeysOnly b → AllAbove k b → StartsAbove k b
starts_above k [] h g = tt
starts_above k (Key j v ∷ b) h g = g.0
starts_above k (Hole l c ∷ b) h g = h

pub above_of_start : (k : List ℕ) (b : List Item) → Ascends b → StartsAbove k b → AllAbove k b
above_of_start k [] h g = tt
above_of_start k (Key j v ∷ b) h g = (g, all_above_up k j b g h.0)
above_of_start k (Hole l c ∷ b) h g = absurd g

pub keys_only_parts : (a b : List Item) → KeysOnly (a ++ b) → KeysOnly a × KeysOnly b
keys_only_parts [] b h = (tt, h)
keys_only_parts (Key j v ∷ a) b h = keys_only_parts a b h
keys_only_parts (Hole l c ∷ a) b h = absurd h

pub keys_only_join : (a b : List Item) → KeysOnly a → KeysOnly b → KeysOnly (a ++ b)
keys_only_join [] b h g = g
keys_only_join (Key j v ∷ a) b h g = keys_only_join a b h g
keys_only_join (Hole l c ∷ a) b h g = absurd h

pub formed_parts : (a b : List Item) → AreFormed (a ++ b) → AreFormed a × AreFormed b
formed_parts [] b h = (tt, h)
formed_parts (Key j v ∷ a) b h = let p = formed_parts a b h.1 in ((h.0, p.0), p.1)
formed_parts (Hole l c ∷ a) b h = let p = formed_parts a b h.1 in ((h.0, p.0), p.1)

pub formed_join : (a b : List Item) → AreFormed a → AreFormed b → AreFormed (a ++ b)
formed_join [] b h g = g
formed_join (Key j v ∷ a) b h g = (h.0, formed_join a b h.1 g)
formed_join (Hole l c ∷ a) b h g = (h.0, formed_join a b h.1 g)

pub formed_value : (k : List ℕ) (o : Option (List ℕ)) → IsKey k → IsLinkOrNone o → AreFormed (with_value k o)
formed_value k None key link = tt
formed_value k (Some v) key link = ((key, link), tt)

-- an edit from one value to another
pub formed_edited : (k : List ℕ) (was now : Option (List ℕ)) (a b : List Item) → AreFormed (with_value k now) → AreFormed (a ++ (with_value k was ++ b)) → AreFormed (a ++ (with_value k now ++ b))
formed_edited k was now a b form h =
    let p = formed_parts a (with_value k was ++ b) h in
    let q = formed_parts (with_value k was) b p.1 in
    formed_join a (with_value k now ++ b) p.0 (formed_join (with_value k now) b form q.1)
