-- A text shows its lines in one way.
use Rattle.std.proofs.Common.{◌≡◌, ℕ, List, [], ◌∷◌, ◌++◌, length, suc, refl, sym, ap, ◌∙◌, arith, append_assoc, append-nil, length-append}
use Rattle.std.specs.Prelude.{All}
use Rattle.std.specs.List.{before_first, after_first}
use Rattle.at_syntax.proofs.Splits.{part_before, part_after}
use Rattle.at_authority.specs.Tables.{IsLine, IsTable, IsBadAt, is_line_feed, encoded}
use Rattle.at_authority.proofs.Lines.{not_at, line_unfed}

first_line : (line rest : List ℕ) → IsLine line → before_first is_line_feed (line ++ 10 ∷ rest) ≡ line
first_line line rest is = part_before 10 (not_at 10) refl line rest (line_unfed line is)

other_lines : (line rest : List ℕ) → IsLine line → after_first is_line_feed (line ++ 10 ∷ rest) ≡ rest
other_lines line rest is = part_after 10 (not_at 10) refl line rest (line_unfed line is)

-- two lines in front of one text are the same, and so are the rests
record SameLine (line other rest more : List ℕ) : Type 0 where
  lines : line ≡ other
  rests : rest ≡ more

same_line : (line other rest more : List ℕ) → IsLine line → IsLine other → line ++ 10 ∷ rest ≡ other ++ 10 ∷ more → SameLine line other rest more
same_line line other rest more one two e = record {
  lines = sym (first_line line rest one) ∙ ap (before_first is_line_feed) e ∙ first_line other more two;
  rests = sym (other_lines line rest one) ∙ ap (after_first is_line_feed) e ∙ other_lines other more two;
}

head_of : (line : List ℕ) (lines : List (List ℕ)) → All IsLine (line ∷ lines) → IsLine line
head_of line lines all = all 0 [] (omega arith)

tail_of : (line : List ℕ) (lines : List (List ℕ)) → All IsLine (line ∷ lines) → All IsLine lines
tail_of line lines all = λ k d h. all (suc k) d (omega (arith, h))

-- the lines in front of a text, up to where no line stands
abbrev Stops : List ℕ → Type 0
Stops rest = (line more : List ℕ) → IsLine line → rest ≡ line ++ 10 ∷ more → ⊥

record SameLines (lines others : List (List ℕ)) (rest more : List ℕ) : Type 0 where
  all : lines ≡ others
  behind : rest ≡ more

unfold_line : (line : List ℕ) (lines : List (List ℕ)) (rest : List ℕ) → encoded (line ∷ lines) ++ rest ≡ line ++ 10 ∷ (encoded lines ++ rest)
unfold_line line lines rest = append_assoc line (10 ∷ encoded lines) rest

same_lines : (lines others : List (List ℕ)) (rest more : List ℕ) → All IsLine lines → All IsLine others → Stops rest → Stops more → encoded lines ++ rest ≡ encoded others ++ more → SameLines lines others rest more
same_lines [] [] rest more one two stops ends e = record { all = refl; behind = e }
same_lines [] (other ∷ others) rest more one two stops ends e = absurd (stops other (encoded others ++ more) (head_of other others two) (e ∙ unfold_line other others more))
same_lines (line ∷ lines) [] rest more one two stops ends e = absurd (ends line (encoded lines ++ rest) (head_of line lines one) (sym e ∙ unfold_line line lines rest))
same_lines (line ∷ lines) (other ∷ others) rest more one two stops ends e =
    let s = same_line line other (encoded lines ++ rest) (encoded others ++ more) (head_of line lines one) (head_of other others two) (sym (unfold_line line lines rest) ∙ e ∙ unfold_line other others more) in
    let t = same_lines lines others rest more (tail_of line lines one) (tail_of other others two) stops ends s.rests in
    record { all = ap (λ (l : List ℕ). l ∷ lines) s.lines ∙ ap (λ (ls : List (List ℕ)). other ∷ ls) t.all; behind = t.behind }

nothing_stops : Stops []
nothing_stops line more is e = omega (arith, ap length e, length-append line (10 ∷ more))

pub one_table : (text : List ℕ) (lines others : List (List ℕ)) → IsTable text lines → IsTable text others → lines ≡ others
one_table text lines others a b =
    (same_lines lines others [] [] a.each b.each nothing_stops nothing_stops (append-nil (encoded lines) ∙ sym a.text_is ∙ b.text_is ∙ sym (append-nil (encoded others)))).all

pub no_bad_line : (text : List ℕ) (lines : List (List ℕ)) (number : ℕ) → IsTable text lines → IsBadAt number text → ⊥
no_bad_line text lines number a b = b.there (sym (same_lines lines b.front [] b.rest a.each b.each nothing_stops b.bad (append-nil (encoded lines) ∙ sym a.text_is ∙ b.text_is)).behind)

pub one_bad_line : (text : List ℕ) (number other : ℕ) → IsBadAt number text → IsBadAt other text → number ≡ other
one_bad_line text number other a b =
    let s = same_lines a.front b.front a.rest b.rest a.each b.each a.bad b.bad (sym a.text_is ∙ b.text_is) in omega (arith, a.number_is, b.number_is, ap length s.all)
