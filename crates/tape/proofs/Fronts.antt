-- What a reader of a front sees is what the bytes show.
use Rattle.std.proofs.Common.{◌≡◌, ◌≤◌, ◌<◌, ℕ, zero, suc, ◌+◌, ◌^◌, List, [], ◌∷◌, ◌++◌, length, take, drop, Bool, true, false, cond, ltb, refl, sym, ap, subst, ◌∙◌, inl, inr, arith, append_assoc, length-append}
use Rattle.std.proofs.lemmas.List.{take_at, drop_at, take-append-drop, length-take-le, get_or-drop}
use Rattle.std.proofs.lemmas.Nat.{be_bytes_4, from_be_bytes-to_be_bytes_4}
use Rattle.std.proofs.lemmas.Bool.{ltb-true, ltb-false, lt-ltb, le-ltb}
use Rattle.std.specs.Int.{to_be_bytes, from_be_bytes, w32}
use Rattle.at_cid.specs.Link.{IsBytes}
use Rattle.at_syntax.specs.Host.{is_host}
use Rattle.relay_io.specs.declared.feed.TheConstants.{LONGEST_FEED_MESSAGE}
use Rattle.tape.specs.Format.{with_name, sized, record_bytes}
use Rattle.tape.specs.Shown.{Shown, nothing, found, bad_name, too_long, cut, Shows, in_name, in_length, in_message, NeedsMore}
use Rattle.tape.specs.declared.front.Front.{Front}
use Rattle.tape.specs.Front.{front_of, name_of, behind_name, message_of, needs_more, rest_of, IsFront, ShowsFront}

IsBytes-drop : (n : ℕ) (bytes : List ℕ) → IsBytes bytes → IsBytes (drop n bytes)
IsBytes-drop n bytes h i = subst (λ (b : ℕ). b < 256) (sym (get_or-drop n bytes i 0)) (h (n + i))

IsBytes-take : (n : ℕ) (bytes : List ℕ) → IsBytes bytes → IsBytes (take n bytes)
IsBytes-take zero bytes h i = omega arith
IsBytes-take (suc n) [] h i = h i
IsBytes-take (suc n) (b ∷ bytes) h zero = h 0
IsBytes-take (suc n) (b ∷ bytes) h (suc i) = IsBytes-take n bytes (λ k. h (suc k)) i

-- a name at the front
named_front : (name rest : List ℕ) → front_of (with_name name rest) ≡ name_of name rest
named_front name rest =
    ap (λ b. cond b cut (name_of (take (length name) (name ++ rest)) (drop (length name) (name ++ rest)))) (le-ltb (length (name ++ rest)) (length name) (omega (arith, length-append name rest)))
    ∙ ap (λ (n : List ℕ). name_of n (drop (length name) (name ++ rest))) (take_at name rest _ refl)
    ∙ ap (λ (r : List ℕ). name_of name r) (drop_at name rest _ refl)

host_front : (host rest : List ℕ) → is_host host ≡ true → front_of (with_name host rest) ≡ behind_name host rest
host_front host rest h = named_front host rest ∙ ap (λ b. cond b (behind_name host rest) bad_name) h

sized_front : (host : List ℕ) (size : ℕ) (rest : List ℕ) → size < 2 ^ 32 → behind_name host (sized size rest) ≡ message_of host size rest
sized_front host size rest fits =
    ap (λ b. cond b cut (message_of host (from_be_bytes w32 (take 4 (sized size rest))) (drop 4 (sized size rest)))) (le-ltb (length (sized size rest)) 4 (omega (arith, length-append (to_be_bytes w32 size) rest)))
    ∙ ap (λ n. message_of host n rest) (from_be_bytes-to_be_bytes_4 size fits)

both_front : (host : List ℕ) (size : ℕ) (rest : List ℕ) → is_host host ≡ true → size < 2 ^ 32 → front_of (with_name host (sized size rest)) ≡ message_of host size rest
both_front host size rest h fits = host_front host (sized size rest) h ∙ sized_front host size rest fits

short_front : (host : List ℕ) (size : ℕ) (rest : List ℕ) → size ≤ LONGEST_FEED_MESSAGE → message_of host size rest ≡ cond (ltb (length rest) size) cut (found host (take size rest) (drop size rest))
short_front host size rest short = ap (λ b. cond b too_long (cond (ltb (length rest) size) cut (found host (take size rest) (drop size rest)))) (le-ltb LONGEST_FEED_MESSAGE size short)

message_front : (host message rest : List ℕ) → length message ≤ LONGEST_FEED_MESSAGE → message_of host (length message) (message ++ rest) ≡ found host message rest
message_front host message rest short =
    short_front host (length message) (message ++ rest) short
    ∙ ap (λ b. cond b cut (found host (take (length message) (message ++ rest)) (drop (length message) (message ++ rest)))) (le-ltb (length (message ++ rest)) (length message) (omega (arith, length-append message rest)))
    ∙ ap (λ (m : List ℕ). found host m (drop (length message) (message ++ rest))) (take_at message rest _ refl)
    ∙ ap (λ (r : List ℕ). found host message r) (drop_at message rest _ refl)

-- what follows a record follows its message
pub behind_record : (host message rest : List ℕ) → record_bytes host message ++ rest ≡ with_name host (sized (length message) (message ++ rest))
behind_record host message rest =
    ap (λ (l : List ℕ). length host ∷ l) (append_assoc host (sized (length message) message) rest ∙ ap (λ (l : List ℕ). host ++ l) (append_assoc (to_be_bytes w32 (length message)) message rest))

pub length_record : (host message : List ℕ) → length (record_bytes host message) ≡ 5 + length host + length message
length_record host message = omega (arith, length-append host (sized (length message) message), length-append (to_be_bytes w32 (length message)) message)

-- what bytes show is what a reader sees
pub seen : (bytes : List ℕ) (a : Shown) → Shows bytes a → front_of bytes ≡ a
seen bytes nothing h = ap front_of h
seen bytes (found host message rest) h =
    ap front_of (h.1 ∙ behind_record host message rest)
    ∙ both_front host (length message) (message ++ rest) h.0.names (omega (arith, h.0.short))
    ∙ message_front host message rest h.0.short
seen bytes bad_name h = ap front_of h.is ∙ named_front h.name h.rest ∙ ap (λ b. cond b (behind_name h.name h.rest) bad_name) h.no_host
seen bytes too_long h =
    ap front_of h.is ∙ both_front h.name h.size h.rest h.a_host h.fits
    ∙ ap (λ b. cond b too_long (cond (ltb (length h.rest) h.size) cut (found h.name (take h.size h.rest) (drop h.size h.rest)))) (lt-ltb LONGEST_FEED_MESSAGE h.size h.long)
seen bytes cut (in_name count front is short) =
    ap front_of is ∙ ap (λ b. cond b cut (name_of (take count front) (drop count front))) (lt-ltb (length front) count short)
seen bytes cut (in_length name front host is short) =
    ap front_of is ∙ host_front name front host ∙ ap (λ b. cond b cut (message_of name (from_be_bytes w32 (take 4 front)) (drop 4 front))) (lt-ltb (length front) 4 short)
seen bytes cut (in_message name size front host fits is short) =
    ap front_of is ∙ both_front name size front host (omega (arith, fits)) ∙ short_front name size front fits
    ∙ ap (λ b. cond b cut (found name (take size front) (drop size front))) (lt-ltb (length front) size short)

-- what a reader sees is what bytes show
sized_shown : (bytes name : List ℕ) (size : ℕ) (rest : List ℕ) → bytes ≡ with_name name (sized size rest) → is_host name ≡ true → size ≤ LONGEST_FEED_MESSAGE → (b : Bool) → b ≡ ltb (length rest) size
    → Shows bytes (cond b cut (found name (take size rest) (drop size rest)))
sized_shown bytes name size rest is host fits true e = in_message name size rest host fits is (ltb-true (length rest) size (sym e))
sized_shown bytes name size rest is host fits false e =
    let there : size ≤ length rest = ltb-false (length rest) size (sym e) in
    let long : length (take size rest) ≡ size = length-take-le size rest there in (
      record { names = host; short = omega (arith, fits, long) },
      is ∙ ap (λ (l : List ℕ). with_name name (sized size l)) (sym (take-append-drop size rest))
          ∙ ap (λ n. with_name name (sized n (take size rest ++ drop size rest))) (sym long) ∙ sym (behind_record name (take size rest) (drop size rest)),
    )

message_shown : (bytes name : List ℕ) (size : ℕ) (rest : List ℕ) → bytes ≡ with_name name (sized size rest) → is_host name ≡ true → size < 2 ^ 32 → (b : Bool) → b ≡ ltb LONGEST_FEED_MESSAGE size
    → Shows bytes (cond b too_long (cond (ltb (length rest) size) cut (found name (take size rest) (drop size rest))))
message_shown bytes name size rest is host fits true e =
    record { name = name; size = size; rest = rest; is = is; a_host = host; long = ltb-true LONGEST_FEED_MESSAGE size (sym e); fits = fits }
message_shown bytes name size rest is host fits false e = sized_shown bytes name size rest is host (ltb-false LONGEST_FEED_MESSAGE size (sym e)) (ltb (length rest) size) refl

host_shown : (bytes name rest : List ℕ) → bytes ≡ with_name name rest → is_host name ≡ true → IsBytes rest → (b : Bool) → b ≡ ltb (length rest) 4
    → Shows bytes (cond b cut (message_of name (from_be_bytes w32 (take 4 rest)) (drop 4 rest)))
host_shown bytes name rest is host fits true e = in_length name rest host is (ltb-true (length rest) 4 (sym e))
host_shown bytes name rest is host fits false e =
    let there : 4 ≤ length rest = ltb-false (length rest) 4 (sym e) in
    let four : List ℕ = take 4 rest in
    let size : ℕ = from_be_bytes w32 (take 4 rest) in
    let each : IsBytes (take 4 rest) = IsBytes-take 4 rest fits in
    let encoded : to_be_bytes w32 size ≡ take 4 rest = be_bytes_4 (take 4 rest) size (length-take-le 4 rest there) each refl in
    let whole : rest ≡ sized size (drop 4 rest) = sym (take-append-drop 4 rest) ∙ ap (λ (l : List ℕ). l ++ drop 4 rest) (sym encoded) in
    message_shown bytes name size (drop 4 rest) (is ∙ ap (λ (l : List ℕ). with_name name l) whole) host (omega (arith, each 0, each 1, each 2, each 3)) (ltb LONGEST_FEED_MESSAGE size) refl

name_shown : (bytes name rest : List ℕ) → bytes ≡ with_name name rest → IsBytes rest → (b : Bool) → b ≡ is_host name → Shows bytes (cond b (behind_name name rest) bad_name)
name_shown bytes name rest is fits true e = host_shown bytes name rest is (sym e) fits (ltb (length rest) 4) refl
name_shown bytes name rest is fits false e = record { name = name; rest = rest; is = is; no_host = sym e }

count_shown : (count : ℕ) (bytes : List ℕ) → IsBytes bytes → (b : Bool) → b ≡ ltb (length bytes) count → Shows (count ∷ bytes) (cond b cut (name_of (take count bytes) (drop count bytes)))
count_shown count bytes fits true e = in_name count bytes refl (ltb-true (length bytes) count (sym e))
count_shown count bytes fits false e =
    let long : length (take count bytes) ≡ count = length-take-le count bytes (ltb-false (length bytes) count (sym e)) in
    let is : count ∷ bytes ≡ with_name (take count bytes) (drop count bytes) =
    ap (λ (l : List ℕ). count ∷ l) (sym (take-append-drop count bytes)) ∙ ap (λ n. n ∷ (take count bytes ++ drop count bytes)) (sym long) in
    name_shown (count ∷ bytes) (take count bytes) (drop count bytes) is (IsBytes-drop count bytes fits) (is_host (take count bytes)) refl

pub shown : (bytes : List ℕ) → IsBytes bytes → Shows bytes (front_of bytes)
shown [] fits = refl
shown (count ∷ bytes) fits = count_shown count bytes (λ i. fits (suc i)) (ltb (length bytes) count) refl

needs : (bytes : List ℕ) (a : Shown) → Shows bytes a → needs_more a ≡ true → NeedsMore bytes
needs bytes nothing h e = inl h
needs bytes (found host message rest) h e = absurd cc
needs bytes bad_name h e = absurd cc
needs bytes too_long h e = absurd cc
needs bytes cut h e = inr h

-- what the code saw, as what the bytes show
pub front_shows : (place : ℕ) (front : Front) (bytes : List ℕ) → IsBytes bytes → IsFront place front (front_of bytes) → ShowsFront place front bytes
front_shows place (Front.Record r) bytes fits h = (rest_of (front_of bytes), subst (λ (a : Shown). Shows bytes a) h.0 (shown bytes fits), h.1)
front_shows place Front.BadName bytes fits h = subst (λ (a : Shown). Shows bytes a) h (shown bytes fits)
front_shows place Front.TooLong bytes fits h = subst (λ (a : Shown). Shows bytes a) h (shown bytes fits)
front_shows place (Front.More total) bytes fits h = needs bytes (front_of bytes) (shown bytes fits) h
