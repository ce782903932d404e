-- What one call adds to what happened on a wire.
use Rattle.std.specs.Prelude.{ℕ, List, [], ◌∷◌, Bool, true, false}
use Rattle.relay_io.specs.declared.wire.Exchange.{Exchange}

-- a request came, or none
abbrev pub came : Bool → List ℕ → List Exchange
came true request = Exchange.Came request ∷ []
came false request = []
