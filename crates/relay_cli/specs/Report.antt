-- The lines that are written, own: links as their texts, numbers in decimal, and a line feed at the
-- end.
use Rattle.std.specs.Prelude.{ℕ, List, [], ◌∷◌, ◌++◌, codes, decimal}
use Rattle.at_cid.specs.Text.{text_of}
use Rattle.relay_core.specs.Report.{refused_of}
use Rattle.relay_cli.specs.declared.verdict.CheckVerdict.{CheckVerdict}

-- the line of a message that was checked
abbrev pub check_line : CheckVerdict → List ℕ
check_line (CheckVerdict.Accepted from to ops) =
    codes "from "
    ++ (text_of from ++ (codes " to " ++
    (text_of to ++ (codes " ops " ++ (decimal ops ++ 10 ∷ [])))))
check_line (CheckVerdict.Refused refusal) = refused_of refusal ++ 10 ∷ []
