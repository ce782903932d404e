-- Facts about texts that are kept in an array.
use Rattle.std.proofs.Common.{◌≡◌, ℕ, ◌+◌, ◌≤◌, true, List, [], length, take, sym, subst, arith}
use Rattle.std.specs.Str.{is_utf8, IsUtf8}
use Rattle.std.proofs.lemmas.Str.{IsUtf8-nil}
use Rattle.std.proofs.lemmas.Slice.{take-put_mid}
use borrow.Rule.Slice.PartMut.{put_mid}
use Rattle.at_cid.specs.ShortText.{IsShort}
use Rattle.at_cid.proofs.Utf8.{is_utf8-true, is_utf8-append}

-- no bytes are a text
pub empty : (bytes : List ℕ) → IsShort 0 bytes
empty bytes = record { within = omega arith; utf8 = is_utf8-true [] IsUtf8-nil }

-- the first n bytes are a text, and so they are with one that is written behind them
pub added : (n whole : ℕ) (bytes tail : List ℕ) (k : ℕ) → is_utf8 (take n bytes) ≡ true → n ≤ length bytes → IsUtf8 tail → whole ≡ n + length tail → whole ≤ 38
    → IsShort whole (put_mid n k bytes tail)
added n whole bytes tail k front inside text sum fits =
    let all = take-put_mid n k bytes tail whole sum inside in
    record { within = fits; utf8 = subst (λ (l : List ℕ). is_utf8 l ≡ true) (sym all) (is_utf8-append (take n bytes) tail front text) }
