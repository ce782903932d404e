use Rattle.std.proofs.Common.{rules, ◌≡◌, ◌≢◌, ℕ, Bool, false, List, [], ◌∷◌, ◌++◌, length, sym, ap, ◌∙◌, subst, arith, length-append}
use Rattle.std.specs.Prelude.{Result, Err, ◌==◌}
use Rattle.at_authority.specs.declared.table.Table.{Table}
use Rattle.at_authority.specs.declared.table_fault.TableFault.{TableFault}
use Rattle.at_authority.specs.Tables.{IsBadAt}
use Rattle.at_authority.proofs.Parsing.{read_line, parsing_more, bad_line, unended}
use Rattle.at_authority.proofs.table.Table.parse.Goals as goal

bad_at : (n : ℕ) (text : List ℕ) → IsBadAt n text → (number : ℕ) → ◌≡◌ {A = Result Table TableFault} (Err (TableFault.BadLine n)) (Err (TableFault.BadLine number)) → IsBadAt number text
bad_at n text bad number e = let same : n ≡ number = cc in let P : ℕ → Type 0 = λ k. IsBadAt k text in subst P same bad

not_nothing : (rest line others : List ℕ) → rest ≡ line ++ 10 ∷ others → rest ≢ []
not_nothing rest line others e none = omega (arith, ap length e, ap length none, length-append line (10 ∷ others))

something : (rest : List ℕ) (b : Bool) → b ≡ (length rest == 0) → b ≡ false → rest ≢ []
something rest b e h none = let k : (length rest == 0) ≡ false = sym e ∙ h in absurd (let l = rw none at k in cc)

pub returns-in_default-read-clause-bad : goal.returns-in_default-read-clause-bad
returns-in_default-read-clause-bad c =
    let split = c.in-Some.ensures in
    bad_at c.loop-line.number c.args.text.now
    (bad_line c.args.text.now c.loop-line.rest.now c.in-Some.line.now c.loop-line.number c.loop-line.table c.loop-line.invariant.0 (not_nothing c.loop-line.rest.now c.in-Some.line.now c.in-Some.others.now split.1) split.0 c.in_default-read.ensures)

pub loop-line-preserved : goal.loop-line-preserved
loop-line-preserved c =
    let split = c.in-Some.ensures in
    let is = c.in-Some-read.ensures in
    let p = c.loop-line.invariant.0 in (
      parsing_more c.args.text.now c.loop-line.rest.now c.in-Some.line.now c.in-Some.others.now c.loop-line.number c.loop-line.table c.add.new.self p split.1 (read_line c.in-Some.line.now c.in-Some-read.line is)
          (c.in_ok-add.ensures c.in-Some.line.now p.lines is p.stands),
      search rules,
    )

pub returns-else-is_empty-clause-bad : goal.returns-else-is_empty-clause-bad
returns-else-is_empty-clause-bad c =
    bad_at c.loop-line.number c.args.text.now
    (unended c.args.text.now c.loop-line.rest.now c.loop-line.number c.loop-line.table c.loop-line.invariant.0 (something c.loop-line.rest.now c.is_empty.result c.is_empty.ensures c.if-is_empty.false) c.in_default.ensures)
