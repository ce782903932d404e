use Rattle.std.proofs.Common.{◌≡◌, drop, map}
use Rattle.std.specs.Int.Digits.{number_from_digits_after}
use Rattle.at_syntax.specs.Tid.{digit_of, tid_value}
use Rattle.at_syntax.proofs.tid.value.Given as goal

abbrev pub invariant-loop-byte : goal.invariant-loop-byte
invariant-loop-byte l = number_from_digits_after 32 l.value (map digit_of (drop l.byte-index l.text)) ≡ tid_value l.text
