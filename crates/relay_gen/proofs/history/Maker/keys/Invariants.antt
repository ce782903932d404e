use Rattle.std.proofs.Common.{◌≡◌, ◌+◌, drop}
use Rattle.relay_gen.proofs.Befores.{keys_of}
use Rattle.relay_gen.proofs.history.Maker.keys.Given as goal

abbrev pub invariant-accounts : goal.invariant-accounts
invariant-accounts l = l.keys + keys_of (drop l.account-index l.account-items) ≡ keys_of l.account-items
