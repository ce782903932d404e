use Rattle.std.proofs.Common.{◌≡◌, ◌∙◌, ℕ, ◌+◌, ◌-◌, List, ◌∷◌, [], ◌++◌, length, length-append, arith, ap}
use Rattle.at_event.specs.Writing.{out_of}
use Rattle.row_codec.proofs.BytesFronts.{short_written}
use Rattle.row_codec.proofs.writing.write_short_event.Goals as goal

pub returns-clause-written : goal.returns-clause-written
returns-clause-written c =
    let old = c.args.out.now in
    let bytes = out_of c.args.event.now c.args.seq in
    let there = c.write_frame.new.out in
    let is : there ≡ (old ++ 0x58 ∷ 0 ∷ []) ++ bytes = c.in_ok-write_frame.ensures.written ∙ ap (λ (l : List ℕ). l ++ bytes) c.in_ok-extend.ensures.ok in
    let long : length there ≡ length old + 2 + length bytes = ap length is ∙ length-append (old ++ 0x58 ∷ 0 ∷ []) bytes ∙ ap (λ (n : ℕ). n + length bytes) (length-append old (0x58 ∷ 0 ∷ [])) in
    let all : length there - length old - 2 ≡ length bytes = omega (arith, long) in
    c.overwrite.ensures ∙ short_written old bytes there (c.len-place.result + 1) (c.len-place.result + 1 + 1) (c.len.result - c.len-place.result - 2) (omega (arith, c.len-place.ensures)) (omega (arith, c.len-place.ensures)) is (omega (arith, all, c.len.ensures, c.len-place.ensures)) (omega (arith, c.if-len-lt24.false)) (omega (arith, c.if-len-gt255.false))
