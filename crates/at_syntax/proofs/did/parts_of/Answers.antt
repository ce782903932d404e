use Rattle.std.proofs.Common.{ℕ, ◌+◌, ◌==◌, length, take, drop, sym, ap, ◌∙◌, arith, rules}
use Rattle.std.proofs.lemmas.List.Sums.{position_or_len_is}
use Rattle.std.proofs.lemmas.List.{take_rest}
use Rattle.at_syntax.proofs.did.parts_of.Goals as goal

pub returns-in-None : goal.returns-in-None
returns-in-None c = position_or_len_is (λ (b : ℕ). b == 58) c.args.bytes.now (length c.args.bytes.now) 0 (omega arith) (search rules) (search rules)

pub returns-in-Some : goal.returns-in-Some
returns-in-Some c =
    let bytes = c.args.bytes.now in
    let found = position_or_len_is (λ (b : ℕ). b == 58) bytes c.in-Some.place 0 (search rules) (search rules) (search rules) in
    (ap (λ n. take n bytes) (sym found), take_rest bytes _ ∙ ap (λ n. drop (n + 1) bytes) (sym found))
