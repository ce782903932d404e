-- The bytes of a window: after a read behind them, after a step of their start, and after a move to the front.
use Rattle.std.proofs.Common.{◌≡◌, ℕ, ◌+◌, ◌-◌, ◌≤◌, List, ◌++◌, length, take, drop, slice_range, refl, sym, ap, ◌∙◌, arith}
use Rattle.std.proofs.lemmas.List.{append-nil, take_at, drop_at, take-append-le, drop-append-le, drop-take, drop-drop, length-take, length-take-le, length-drop}
use borrow.Rule.Slice.PartMut.{put_mid, post_of}
use lib.Seq.{take-add}

pub length_items : (bytes : List ℕ) (start end : ℕ) → start ≤ end → end ≤ length bytes → length (slice_range bytes start end) ≡ end - start
length_items bytes start end ordered inside = omega (arith, length-take {A = ℕ}, length-drop {A = ℕ})

pub grown : (bytes put : List ℕ) (start end k n : ℕ) → start ≤ end → end ≤ length bytes → n ≤ length put
    → slice_range (put_mid end k bytes put) start (end + n) ≡ slice_range bytes start end ++ take n put
grown bytes put start end k n ordered inside fits =
    let front = length-take-le end bytes inside in
    let held = drop start (take end bytes) in
    let len : length held ≡ end - start = omega (arith, length-drop start (take end bytes)) in
    let sum : end + n - start ≡ (end - start) + n = omega arith in
    let parts : end ≡ start + (end - start) = omega arith in
    let same : held ≡ take (end - start) (drop start bytes) = ap (λ j. drop start (take j bytes)) parts ∙ drop-take start (end - start) bytes in
    let after = put ++ post_of end k bytes in
    ap (take (end + n - start)) (drop-append-le start (take end bytes) after (omega arith))
    ∙ ap (λ j. take j (held ++ after)) sum ∙ take-add (end - start) n (held ++ after)
    ∙ (rw (take_at held after _ len, drop_at held after _ len, take-append-le n put (post_of end k bytes) fits, same) refl)

pub kept : (bytes put : List ℕ) (start end k : ℕ) → start ≤ end → end ≤ length bytes
    → slice_range (put_mid end k bytes put) start end ≡ slice_range bytes start end
kept bytes put start end k ordered inside =
    let none : end ≡ end + 0 = omega arith in
    ap (slice_range (put_mid end k bytes put) start) none ∙ grown bytes put start end k 0 ordered inside (omega arith) ∙ append-nil _

pub consumed : (bytes : List ℕ) (start end count : ℕ) → start + count ≤ end
    → slice_range bytes (start + count) end ≡ drop count (slice_range bytes start end)
consumed bytes start end count inside =
    let parts : end - start ≡ count + (end - (start + count)) = omega arith in
    sym (ap (λ j. drop count (take j (drop start bytes))) parts ∙ drop-take count _ (drop start bytes)
    ∙ ap (take (end - (start + count))) (drop-drop count start bytes))
