-- What a reader of a stream's front sees is what the bytes show.
use Rattle.std.proofs.Common.{◌≡◌, ◌≤◌, ◌<◌, ℕ, zero, suc, ◌+◌, ◌^◌, List, [], ◌∷◌, ◌++◌, length, take, drop, Bool, true, false, cond, ltb, refl, sym, ap, subst, ◌∙◌, arith, append_assoc, length-append}
use Rattle.std.proofs.lemmas.List.{take_at, drop_at, take-append-drop, length-take-le}
use Rattle.std.proofs.lemmas.Nat.{be_bytes_4, from_be_bytes-to_be_bytes_4}
use Rattle.std.proofs.lemmas.Bool.{ltb-true, ltb-false, lt-ltb, le-ltb}
use Rattle.std.specs.Int.{to_be_bytes, from_be_bytes, w32}
use Rattle.at_cid.specs.Link.{IsBytes}
use Rattle.at_cid.specs.Lengths.{length_prefixed}
use Rattle.relay_io.specs.declared.feed.TheConstants.{LONGEST_FEED_MESSAGE}
use Rattle.mirror_run.specs.Stream.{in_length, in_message}
use Rattle.mirror_run.specs.declared.front.Front.{Front}
use Rattle.mirror_run.specs.Front.{Shown, found, too_long, cut, Shows, HasLongMessage, front_of, message_of, rest_of, IsFront, ShowsFront}

IsBytes-take : (n : ℕ) (bytes : List ℕ) → IsBytes bytes → IsBytes (take n bytes)
IsBytes-take zero bytes h i = omega arith
IsBytes-take (suc n) [] h i = h i
IsBytes-take (suc n) (b ∷ bytes) h zero = h 0
IsBytes-take (suc n) (b ∷ bytes) h (suc i) = IsBytes-take n bytes (λ k. h (suc k)) i

pub length_frame : (m : List ℕ) → length (length_prefixed m) ≡ 4 + length m
length_frame m = omega (arith, length-append (to_be_bytes w32 (length m)) m)

sized_front : (size : ℕ) (rest : List ℕ) → size < 2 ^ 32 → front_of (to_be_bytes w32 size ++ rest) ≡ message_of size rest
sized_front size rest fits =
    ap (λ b. cond b cut (message_of (from_be_bytes w32 (take 4 (to_be_bytes w32 size ++ rest))) (drop 4 (to_be_bytes w32 size ++ rest)))) (le-ltb (length (to_be_bytes w32 size ++ rest)) 4 (omega (arith, length-append (to_be_bytes w32 size) rest)))
    ∙ ap (λ n. message_of n rest) (from_be_bytes-to_be_bytes_4 size fits)

short_front : (size : ℕ) (rest : List ℕ) → size ≤ LONGEST_FEED_MESSAGE → message_of size rest ≡ cond (ltb (length rest) size) cut (found (take size rest) (drop size rest))
short_front size rest short = ap (λ b. cond b too_long (cond (ltb (length rest) size) cut (found (take size rest) (drop size rest)))) (le-ltb LONGEST_FEED_MESSAGE size short)

message_front : (message rest : List ℕ) → length message ≤ LONGEST_FEED_MESSAGE → message_of (length message) (message ++ rest) ≡ found message rest
message_front message rest short =
    short_front (length message) (message ++ rest) short
    ∙ ap (λ b. cond b cut (found (take (length message) (message ++ rest)) (drop (length message) (message ++ rest)))) (le-ltb (length (message ++ rest)) (length message) (omega (arith, length-append message rest)))
    ∙ ap (λ (m : List ℕ). found m (drop (length message) (message ++ rest))) (take_at message rest _ refl)
    ∙ ap (λ (r : List ℕ). found message r) (drop_at message rest _ refl)

-- what bytes show is what a reader sees
pub seen : (bytes : List ℕ) (a : Shown) → Shows bytes a → front_of bytes ≡ a
seen bytes (found message rest) h =
    ap front_of (h.1 ∙ append_assoc (to_be_bytes w32 (length message)) message rest)
    ∙ sized_front (length message) (message ++ rest) (omega (arith, h.0))
    ∙ message_front message rest h.0
seen bytes too_long h =
    ap front_of h.is ∙ sized_front h.size h.rest h.fits
    ∙ ap (λ b. cond b too_long (cond (ltb (length h.rest) h.size) cut (found (take h.size h.rest) (drop h.size h.rest)))) (lt-ltb LONGEST_FEED_MESSAGE h.size h.long)
seen bytes cut (in_length short) =
    ap (λ b. cond b cut (message_of (from_be_bytes w32 (take 4 bytes)) (drop 4 bytes))) (lt-ltb (length bytes) 4 short)
seen bytes cut (in_message size front fits is short) =
    ap front_of is ∙ sized_front size front (omega (arith, fits)) ∙ short_front size front fits
    ∙ ap (λ b. cond b cut (found (take size front) (drop size front))) (lt-ltb (length front) size short)

-- what a reader sees is what bytes show
sized_shown : (bytes : List ℕ) (size : ℕ) (rest : List ℕ) → bytes ≡ to_be_bytes w32 size ++ rest → size ≤ LONGEST_FEED_MESSAGE → (b : Bool) → b ≡ ltb (length rest) size
    → Shows bytes (cond b cut (found (take size rest) (drop size rest)))
sized_shown bytes size rest is fits true e = in_message size rest fits is (ltb-true (length rest) size (sym e))
sized_shown bytes size rest is fits false e =
    let there : size ≤ length rest = ltb-false (length rest) size (sym e) in
    let long : length (take size rest) ≡ size = length-take-le size rest there in (
      omega (arith, fits, long),
      is ∙ ap (λ (l : List ℕ). to_be_bytes w32 size ++ l) (sym (take-append-drop size rest))
          ∙ sym (append_assoc (to_be_bytes w32 size) (take size rest) (drop size rest))
          ∙ ap (λ n. (to_be_bytes w32 n ++ take size rest) ++ drop size rest) (sym long),
    )

message_shown : (bytes : List ℕ) (size : ℕ) (rest : List ℕ) → bytes ≡ to_be_bytes w32 size ++ rest → size < 2 ^ 32 → (b : Bool) → b ≡ ltb LONGEST_FEED_MESSAGE size
    → Shows bytes (cond b too_long (cond (ltb (length rest) size) cut (found (take size rest) (drop size rest))))
message_shown bytes size rest is fits true e =
    record { size = size; rest = rest; is = is; long = ltb-true LONGEST_FEED_MESSAGE size (sym e); fits = fits }
message_shown bytes size rest is fits false e = sized_shown bytes size rest is (ltb-false LONGEST_FEED_MESSAGE size (sym e)) (ltb (length rest) size) refl

length_shown : (bytes : List ℕ) → IsBytes bytes → (b : Bool) → b ≡ ltb (length bytes) 4
    → Shows bytes (cond b cut (message_of (from_be_bytes w32 (take 4 bytes)) (drop 4 bytes)))
length_shown bytes fits true e = in_length (ltb-true (length bytes) 4 (sym e))
length_shown bytes fits false e =
    let there : 4 ≤ length bytes = ltb-false (length bytes) 4 (sym e) in
    let size : ℕ = from_be_bytes w32 (take 4 bytes) in
    let each : IsBytes (take 4 bytes) = IsBytes-take 4 bytes fits in
    let encoded : to_be_bytes w32 size ≡ take 4 bytes = be_bytes_4 (take 4 bytes) size (length-take-le 4 bytes there) each refl in
    let whole : bytes ≡ to_be_bytes w32 size ++ drop 4 bytes = sym (take-append-drop 4 bytes) ∙ ap (λ (l : List ℕ). l ++ drop 4 bytes) (sym encoded) in
    message_shown bytes size (drop 4 bytes) whole (omega (arith, each 0, each 1, each 2, each 3)) (ltb LONGEST_FEED_MESSAGE size) refl

pub shown : (bytes : List ℕ) → IsBytes bytes → Shows bytes (front_of bytes)
shown bytes fits = length_shown bytes fits (ltb (length bytes) 4) refl

-- what the code saw, as what the bytes show
pub front_shows : (front : Front) (bytes : List ℕ) → IsBytes bytes → IsFront front (front_of bytes) → ShowsFront front bytes
front_shows (Front.Message m) bytes fits h = (rest_of (front_of bytes), subst (λ (a : Shown). Shows bytes a) h (shown bytes fits))
front_shows Front.TooLong bytes fits h = subst (λ (a : Shown). Shows bytes a) h (shown bytes fits)
front_shows (Front.More total) bytes fits h = subst (λ (a : Shown). Shows bytes a) h (shown bytes fits)

-- whatever follows, a message that is too long shows the same
pub more_long : (bytes more : List ℕ) → HasLongMessage bytes → HasLongMessage (bytes ++ more)
more_long bytes more h = record {
  size = h.size;
  rest = h.rest ++ more;
  is = ap (λ (l : List ℕ). l ++ more) h.is ∙ append_assoc (to_be_bytes w32 h.size) h.rest more;
  long = h.long;
  fits = h.fits;
}

-- bytes show no message and something else
pub not_long : (bytes m more : List ℕ) → Shows bytes too_long → bytes ≡ length_prefixed m ++ more → length m ≤ LONGEST_FEED_MESSAGE → ⊥
not_long bytes m more h is short =
    let e : too_long ≡ found m more = sym (seen bytes too_long h) ∙ seen bytes (found m more) (short, is) in absurd cc

pub not_cut : (bytes m more : List ℕ) → Shows bytes cut → bytes ≡ length_prefixed m ++ more → length m ≤ LONGEST_FEED_MESSAGE → ⊥
not_cut bytes m more h is short =
    let e : cut ≡ found m more = sym (seen bytes cut h) ∙ seen bytes (found m more) (short, is) in absurd cc

-- bytes show one message
abbrev message_in : Shown → List ℕ
message_in (found m rest) = m
message_in too_long = []
message_in cut = []

pub one_message : (m n rest more : List ℕ) → length m ≤ LONGEST_FEED_MESSAGE → length n ≤ LONGEST_FEED_MESSAGE → length_prefixed m ++ rest ≡ length_prefixed n ++ more → (m ≡ n) × (rest ≡ more)
one_message m n rest more short_m short_n is =
    let e : found m rest ≡ found n more = sym (seen (length_prefixed m ++ rest) (found m rest) (short_m, refl)) ∙ seen (length_prefixed m ++ rest) (found n more) (short_n, is) in
    (ap message_in e, ap rest_of e)
