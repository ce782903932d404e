-- Items that are tested equal are the same.
use Rattle.std.specs.Prelude.{◌≡◌, true, ◌&&◌, refl}
use Rattle.std.proofs.Common.{ap}
use Rattle.std.specs.Bool.{Decides}
use Rattle.std.specs.Cmp.{IsEquivalence, decided, booleans_Decides}
use Rattle.std.proofs.lemmas.Bool.Decides.{Decides-int_eq}
use Rattle.std.proofs.lemmas.Slice.Eq.{bytes_eq-Decides}
use Rattle.std.proofs.lemmas.Bool.{and_from, and_parts}
use Rattle.at_cbor.specs.Equal.{item_eq, items_eq, fields_eq}
use Rattle.at_cbor.specs.Item.{Item, Items, no_items, item, Fields, no_fields, field}

mutual
  item_is : (i j : Item) → item_eq i j ≡ true → i ≡ j
  item_is (Item.int z) (Item.int w) e = ap Item.int ((Decides-int_eq z w).0 e)
  item_is (Item.bytes bs) (Item.bytes cs) e = ap Item.bytes ((bytes_eq-Decides bs cs).0 e)
  item_is (Item.text bs) (Item.text cs) e = ap Item.text ((bytes_eq-Decides bs cs).0 e)
  item_is (Item.list is) (Item.list js) e = ap Item.list (items_are is js e)
  item_is (Item.map fs) (Item.map gs) e = ap Item.map (fields_are fs gs e)
  item_is (Item.link bs) (Item.link cs) e = ap Item.link ((bytes_eq-Decides bs cs).0 e)
  item_is (Item.bool b) (Item.bool c) e = ap Item.bool ((booleans_Decides b c).0 e)
  item_is Item.null Item.null e = refl
  item_is i j e = absurd cc

  items_are : (is js : Items) → items_eq is js ≡ true → is ≡ js
  items_are no_items no_items e = refl
  items_are (item i is) (item j js) e =
      let parts = and_parts (item_eq i j) (items_eq is js) e in
      let first : i ≡ j = item_is i j parts.0 in
      let others : is ≡ js = items_are is js parts.1 in
      cc
  items_are is js e = absurd cc

  fields_are : (fs gs : Fields) → fields_eq fs gs ≡ true → fs ≡ gs
  fields_are no_fields no_fields e = refl
  fields_are (field k i fs) (field l j gs) e =
      let parts = and_parts _ (item_eq i j && fields_eq fs gs) e in
      let more = and_parts (item_eq i j) (fields_eq fs gs) parts.1 in
      let key : k ≡ l = (bytes_eq-Decides k l).0 parts.0 in
      let value : i ≡ j = item_is i j more.0 in
      let others : fs ≡ gs = fields_are fs gs more.1 in
      cc
  fields_are fs gs e = absurd cc

mutual
  item_same : (i : Item) → item_eq i i ≡ true
  item_same (Item.int z) = (Decides-int_eq z z).1 refl
  item_same (Item.bytes bs) = (bytes_eq-Decides bs bs).1 refl
  item_same (Item.text bs) = (bytes_eq-Decides bs bs).1 refl
  item_same (Item.list is) = items_same is
  item_same (Item.map fs) = fields_same fs
  item_same (Item.link bs) = (bytes_eq-Decides bs bs).1 refl
  item_same (Item.bool b) = (booleans_Decides b b).1 refl
  item_same Item.null = refl

  items_same : (is : Items) → items_eq is is ≡ true
  items_same no_items = refl
  items_same (item i is) = and_from (item_eq i i) (items_eq is is) (item_same i) (items_same is)

  fields_same : (fs : Fields) → fields_eq fs fs ≡ true
  fields_same no_fields = refl
  fields_same (field k i fs) = and_from _ _ ((bytes_eq-Decides k k).1 refl)
      (and_from (item_eq i i) (fields_eq fs fs) (item_same i) (fields_same fs))

equal_if : (i j : Item) → i ≡ j → item_eq i j ≡ true
equal_if i j e = rw e (item_same j)

pub item_eq-Decides : (i j : Item) → Decides (item_eq i j) (i ≡ j)
item_eq-Decides i j = (λ e. item_is i j e, λ e. equal_if i j e)

pub item_eq_equiv : IsEquivalence item_eq
item_eq_equiv = decided item_eq item_eq-Decides
