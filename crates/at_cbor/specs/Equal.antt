-- Whether two items are the same.
use Rattle.std.specs.Prelude.{Bool, true, false, ◌&&◌}
use Rattle.std.specs.Bool.{beq}
use Rattle.std.specs.Ordering.{int_eq}
use Rattle.std.specs.Str.{bytes_eq}
use Rattle.at_cbor.specs.Item.{Item, Items, no_items, item, Fields, no_fields, field}

abbrev mutual
  pub item_eq : Item → Item → Bool
  item_eq (Item.int z) (Item.int w) = int_eq z w
  item_eq (Item.bytes bs) (Item.bytes cs) = bytes_eq bs cs
  item_eq (Item.text bs) (Item.text cs) = bytes_eq bs cs
  item_eq (Item.list is) (Item.list js) = items_eq is js
  item_eq (Item.map fs) (Item.map gs) = fields_eq fs gs
  item_eq (Item.link bs) (Item.link cs) = bytes_eq bs cs
  item_eq (Item.bool b) (Item.bool c) = beq b c
  item_eq Item.null Item.null = true
  item_eq i j = false

  pub items_eq : Items → Items → Bool
  items_eq no_items no_items = true
  items_eq (item i is) (item j js) = item_eq i j && items_eq is js
  items_eq is js = false

  pub fields_eq : Fields → Fields → Bool
  fields_eq no_fields no_fields = true
  fields_eq (field k i fs) (field l j gs) = bytes_eq k l && (item_eq i j && fields_eq fs gs)
  fields_eq fs gs = false
