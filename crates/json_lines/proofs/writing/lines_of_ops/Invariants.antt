use Rattle.std.proofs.Common.{◌≡◌, ◌++◌, drop}
use Rattle.std.specs.Prelude.{option_map}
use Rattle.json_lines.specs.Lines.{lines_from}
use Rattle.json_lines.proofs.writing.lines_of_ops.Given as goal

abbrev pub invariant-loop-place : goal.invariant-loop-place
invariant-loop-place l =
    l.lines ++ lines_from (option_map (λ text. text.now) l.collection) l.event l.rev l.place (drop l.place l.ops)
    ≡ lines_from (option_map (λ text. text.now) l.collection) l.event l.rev 0 l.ops
