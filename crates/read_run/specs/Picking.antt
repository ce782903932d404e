-- One of two disks, as it is lent (own).
use Rattle.std.specs.Prelude.{[]}
use Rattle.std.specs.Borrow.{Lends, MutBor, Fml}
use Rattle.gate_log.specs.declared.picking.Side.{Side}
use Rattle.gate_log.specs.declared.picking.Side.TheVariants.{One, Two}
use Rattle.run_base.specs.declared.pair.Pair.{Pair}
use Rattle.run_base.specs.contracts.pair.Pair.{the_row}
use denote.RattleType.{RattleType}
use mir.Syntax.{named}

-- the pair with another disk on this side
abbrev pub with_disk : {D : Type 0} → Side → Pair D → D → Pair D
with_disk One p disk = record p { one = record p.one { now = disk } }
with_disk Two p disk = record p { two = record p.two { now = disk } }

-- the pair ends with the last value of the disk that is lent
abbrev pub LendsDisk : (D : RattleType) → MutBor (Pair D.Denot) → Side → MutBor D.Denot → Fml
LendsDisk D pair side disk =
    Lends (the_row (record { mir = named 1; lft = [] }) (record { mir = named 2; lft = [] }) D)
    D pair disk (with_disk side pair.now)
