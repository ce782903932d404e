-- Heads that are read at once: that of a text of fewer than 24 bytes, which is one byte, and a link with its tag.
use Rattle.std.proofs.Common.{◌≡◌, ℕ, ◌+◌, ◌-◌, ◌≤◌, ◌<◌, List, [], ◌∷◌, ◌++◌, length, take, drop, get_or, true, Ok, Some, refl, sym, ap, ◌∙◌, arith}
use Rattle.std.specs.Prelude.{nat_lt}
use Rattle.std.proofs.lemmas.Bool.Decides.{nat_tests}
use Rattle.std.proofs.lemmas.List.{take_all}
use Rattle.at_cid.specs.Link.{IsBytes}
use Rattle.at_cbor.specs.declared.head.Head.{Head}
use Rattle.at_cbor.specs.declared.major.Major.{Major}
use Rattle.at_cbor.specs.Heads.{head_at}
use Rattle.at_cbor.specs.Encoding.{front_of, info_of, tail_of}
use Rattle.at_cbor.specs.Taking.{link_from_front}
use Rattle.at_cbor.proofs.HeadLaws.{head_again}
use Rattle.at_cbor.proofs.Taken.{link_takes}

head_of_few : (n : ℕ) (rest : List ℕ) → n < 24 → head_at ((96 + n) ∷ rest) ≡ Ok (Head.Text n, rest)
unfolding info_of tail_of
head_of_few n rest few =
    let low : nat_lt n 24 ≡ true = grind (arith, nat_tests) in
    let encoded : front_of Major.Text n ++ rest ≡ (96 + n) ∷ rest = rw low refl in
    ap head_at (sym encoded) ∙ head_again (Head.Text n) rest (omega arith)

-- what stands behind a first byte that is such a head
pub short_text_read : (bytes : List ℕ) (n : ℕ) → 1 ≤ length bytes → 96 ≤ get_or bytes 0 0 → get_or bytes 0 0 ≤ 119 → n ≡ get_or bytes 0 0 - 96
    → head_at bytes ≡ Ok (Head.Text n, take (length bytes - 1) (drop 1 bytes))
short_text_read [] n some least most is = absurd (omega arith)
short_text_read (first ∷ rest) n some least most is =
    let same : first ≡ 96 + n = omega arith in
    ap (λ (f : ℕ). head_at (f ∷ rest)) same ∙ head_of_few n rest (omega arith)
    ∙ ap (λ (l : List ℕ). Ok (Head.Text n, l)) (sym (take_all (length (first ∷ rest) - 1) rest (omega arith)))

-- a link is its own head
pub link_head : (bytes : List ℕ) (x : List ℕ × List ℕ) → IsBytes bytes → Some x ≡ link_from_front bytes → head_at bytes ≡ Ok (Head.Link x.0, x.1)
link_head bytes x fits e =
    let taken = link_takes bytes x fits (sym e) in
    ap head_at taken.0.parts ∙ head_again (Head.Link x.0) x.1 (taken.1.link, taken.1.bytes)
