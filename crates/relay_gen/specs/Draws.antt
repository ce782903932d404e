-- The numbers that a history is drawn from (own): a linear congruential generator of 64 bits, of
-- whose state the high half is given.
use Rattle.std.specs.Prelude.{ℕ, ◌+◌, ◌*◌, ◌/◌, ◌%◌, ◌^◌}

-- the state after a draw
unfoldable pub next : ℕ → ℕ
next x = (x * 6364136223846793005 + 1442695040888963407) % 2 ^ 64

-- what a draw below a limit gives, by the state after it
unfoldable pub drawn : ℕ → ℕ → ℕ
drawn limit x = x / 2 ^ 33 % limit
