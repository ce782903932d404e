use Rattle.std.proofs.Common.{◌++◌, ℕ, sym, ap, ◌∙◌, codes, decimal}
use Rattle.store_take.specs.Lines.{fetch_word}
use Rattle.report_lines.proofs.Joining.{joined}
use Rattle.store_take.proofs.lines.add_fetch.Goals as goal

pub returns-in_ok-add_number-in-Refused : goal.returns-in_ok-add_number-in-Refused
returns-in_ok-add_number-in-Refused c =
    joined c.args.line.now c.extend-in-Refused.new.self c.add_number.new.line (codes " repository ") (decimal c.in-Refused.number) c.in_ok-extend-in-Refused.ensures.ok
    (c.in_ok-add_number-in-Refused.ensures ∙ ap (λ (n : ℕ). c.extend-in-Refused.new.self ++ decimal n) c.from.ensures)
    ∙ sym (ap (λ fetch. c.args.line.now ++ fetch_word fetch) c.in-Refused.is)
