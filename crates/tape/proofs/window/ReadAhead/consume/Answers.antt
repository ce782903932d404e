use Rattle.std.proofs.Common.{ℕ, arith, length-take, length-drop}
use Rattle.tape.proofs.Windows.{consumed}
use Rattle.tape.proofs.window.ReadAhead.consume.Goals as goal

pub returns : goal.returns
returns c =
    let w = c.args.self.now in
    consumed w.room.items w.start w.end c.args.count (omega (arith, length-take {A = ℕ}, length-drop {A = ℕ}))
