-- What an event says, with its payload as an item.
use Rattle.std.specs.Prelude.{ℕ, List}
use Rattle.at_cbor.specs.Item.{Item}
use Rattle.at_event.specs.declared.event.Body.{Body}

pub record Seen : Type 0 where
  pub seq : ℕ
  pub did : List ℕ
  pub time : List ℕ
  pub body : Body
  pub payload : Item
