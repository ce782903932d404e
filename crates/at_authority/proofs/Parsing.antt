-- Lines are taken from the front of a text.
use Rattle.std.proofs.Common.{◌≡◌, ◌≢◌, ℕ, ◌+◌, ◌≤◌, true, false, List, [], ◌∷◌, ◌++◌, length, refl, sym, ap, ◌∙◌, arith, append_assoc, length-append}
use Rattle.std.specs.Prelude.{All}
use Rattle.std.specs.List.{position_or_len, before_first}
use Rattle.std.proofs.lemmas.Bool.{false≢true}
use Rattle.std.proofs.lemmas.List.{length_push}
use Rattle.at_syntax.proofs.Splits.{part_long, part_before}
use Rattle.at_authority.specs.declared.line.Line.{Line}
use Rattle.at_authority.proofs.Lines.{not_at, line_tested, line_read, line_unfed}
use Rattle.std.proofs.lemmas.List.Elements.{All-push}
use Rattle.at_authority.specs.declared.table.Table.{Table}
use Rattle.at_authority.specs.Tables.{IsLine, IsBadAt, is_line, is_line_feed, encoded}
use Rattle.at_authority.specs.Standing.{StandsFor, IsRead}

-- So far so many lines were taken, for which the table stands
pub record IsParsing (text rest : List ℕ) (number : ℕ) (table : Table) : Type 0 where
  pub lines : List (List ℕ)
  pub text_is : text ≡ encoded lines ++ rest
  pub each : All IsLine lines
  pub number_is : number ≡ length lines + 1
  pub stands : StandsFor lines table
  pub fits : number + length rest ≤ length text + 1

pub read_line : (text : List ℕ) (line : Line) → IsRead text line → is_line text ≡ true
read_line text (Line.Home did host) h = h.0.line
read_line text (Line.Trust did) h = h.line
read_line text (Line.Good part) h = h.line

encoded_more : (lines : List (List ℕ)) (line rest : List ℕ) → encoded (lines ++ line ∷ []) ++ rest ≡ encoded lines ++ (line ++ 10 ∷ rest)
encoded_more [] line rest = append_assoc line (10 ∷ []) rest
encoded_more (l ∷ lines) line rest =
    append_assoc l (10 ∷ encoded (lines ++ line ∷ [])) rest ∙ ap (λ (s : List ℕ). l ++ 10 ∷ s) (encoded_more lines line rest) ∙ sym (append_assoc l (10 ∷ encoded lines) (line ++ 10 ∷ rest))

-- one more line was taken
pub parsing_more : (text rest line others : List ℕ) (number : ℕ) (old new : Table) (p : IsParsing text rest number old) → rest ≡ line ++ 10 ∷ others → is_line line ≡ true → StandsFor (p.lines ++ line ∷ []) new → IsParsing text others (number + 1) new
parsing_more text rest line others number old new p split is stands = record {
  lines = p.lines ++ line ∷ [];
  text_is = p.text_is ∙ ap (λ (s : List ℕ). encoded p.lines ++ s) split ∙ sym (encoded_more p.lines line others);
  each = All-push IsLine p.lines line p.each (line_read line is);
  number_is = omega (arith, p.number_is, length_push p.lines line);
  stands = stands;
  fits = omega (arith, p.fits, ap length split, length-append line (10 ∷ others));
}

fed : (line more rest : List ℕ) → IsLine line → rest ≡ line ++ 10 ∷ more → before_first is_line_feed rest ≡ line
fed line more rest is e = ap (before_first is_line_feed) e ∙ part_before 10 (not_at 10) refl line more (line_unfed line is)

-- the next line is none of a table
pub bad_line : (text rest line : List ℕ) (number : ℕ) (table : Table) → IsParsing text rest number table → rest ≢ [] → line ≡ before_first is_line_feed rest → is_line line ≡ false → IsBadAt number text
bad_line text rest line number table p there at bad = record {
  front = p.lines;
  rest = rest;
  text_is = p.text_is;
  each = p.each;
  number_is = p.number_is;
  there = there;
  bad = λ other more is e. false≢true (sym bad ∙ ap is_line (at ∙ fed other more rest is e) ∙ line_tested other is);
}

-- the last line has no line feed
pub unended : (text rest : List ℕ) (number : ℕ) (table : Table) → IsParsing text rest number table → rest ≢ [] → position_or_len is_line_feed rest ≡ length rest → IsBadAt number text
unended text rest number table p there none = record {
  front = p.lines;
  rest = rest;
  text_is = p.text_is;
  each = p.each;
  number_is = p.number_is;
  there = there;
  bad = λ line more is e. omega (arith, sym none ∙ ap (position_or_len is_line_feed) e ∙ part_long 10 (not_at 10) refl line more (line_unfed line is), ap length e, length-append line (10 ∷ more));
}
