use Rattle.std.proofs.Common.{◌≡◌, ℕ, true, List, length, take, sym, ap, subst, ◌∙◌, arith, length-take}
use Rattle.std.specs.Str.{is_utf8, IsUtf8}
use Rattle.at_cid.proofs.ShortTexts.{added}
use Rattle.at_cid.proofs.short_text.ShortText.add.Goals as goal

pub invariant_of-self : goal.invariant_of-self
invariant_of-self c =
    let bytes : List ℕ = c.self.inside.bytes in
    let tail : List ℕ = c.copy_from_slice.new.self in
    let written : tail ≡ c.args.text.now = c.copy_from_slice.ensures.after ∙ c.as_bytes.ensures.value in
    let view : length (take c.self.inside.count bytes) ≡ length c.args.self.now = ap length c.self.view_is in
    let count : c.self.inside.count ≡ c.len-len.result = omega (arith, length-take c.self.inside.count bytes) in
    let front : is_utf8 (take c.len-len.result bytes) ≡ true = subst (λ (n : ℕ). is_utf8 (take n bytes) ≡ true) count c.self.invariant.utf8 in
    let same : length tail ≡ length c.args.text.now = ap length written in
    added c.len-len.result _ bytes tail _ front (omega arith) (subst IsUtf8 (sym written) c.utf8.text) (omega arith) (omega arith)
