-- A wire where requests are answered (own).
use Rattle.std.specs.Prelude.{ℕ, List}
use Rattle.relay_io.specs.declared.wire.Exchange.{Exchange}
use Rattle.run_base.specs.Place.{Place}

-- the parts of a command, with how often the wire has failed
abbrev pub with_wire : ℕ → Place → Place
with_wire n p = record p {
  failed = record p.failed { wire = n };
}

-- A wire at one moment: the requests to come, what happened, and the count of failed sendings.
pub record AtWire : Type 0 where
  pub requests : List (List ℕ)
  pub exchanges : List Exchange
  pub faults : ℕ

-- the wire at one moment, of its parts
abbrev pub at_wire : List (List ℕ) → List Exchange → ℕ → AtWire
at_wire requests exchanges faults =
    record { requests = requests; exchanges = exchanges; faults = faults }
