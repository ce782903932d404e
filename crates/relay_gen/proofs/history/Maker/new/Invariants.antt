use Rattle.std.proofs.Common.{◌≡◌, ℕ, ◌<◌, length, slice_get, Some, None}
use Rattle.relay_gen.specs.States.{repository_of}
use Rattle.relay_gen.proofs.history.Maker.new.Given as goal

abbrev pub invariant-accounts : goal.invariant-accounts
invariant-accounts l = record {
  count : length l.accounts.items ≡ l.counter;
  fresh : (a : ℕ) → a < l.counter → slice_get l.accounts.items a ≡ Some (repository_of None);
}
