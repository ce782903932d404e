-- A disk that tells nothing: a crash may leave anything.
use Rattle.std.specs.Prelude.{ℕ, []}
use Rattle.relay_disk.specs.Disk.{View, IsDisk}

abbrev pub untold : ℕ → View
untold faults = record {
  content = [];
  may_leave = λ _. Unit {0};
  moment = 0;
  left_since = λ _ _. Unit {0};
  faults = faults;
}

pub untold_disk : (faults : ℕ) → IsDisk (untold faults)
untold_disk faults = record {
  possible = tt;
  counts_now = λ _ _ _ _. tt;
  only_now = λ _ _. tt;
}
