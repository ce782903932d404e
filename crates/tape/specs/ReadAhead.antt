-- What a clause reads of a window.
use Rattle.std.specs.Prelude.{ℕ, ◌-◌, List, length, slice_range}
use Rattle.tape.specs.declared.window.ReadAhead.{ReadAhead}

-- the bytes that it holds
abbrev pub items : ReadAhead → List ℕ
items window = slice_range window.room.items window.start window.end

-- the room behind them
abbrev pub spare_of : ReadAhead → ℕ
spare_of window = length window.room.items - window.end
