-- Bytes with a fault are read as that fault: what stands in front is passed over, and the value or key behind it fails.
use Rattle.std.proofs.Common.{◌≡◌, ℕ, zero, suc, ◌-◌, ◌^◌, ◌<◌, inl, inr, true, false, cond, ltb, List, [], ◌∷◌, ◌++◌, length, Option, Some, None, Ok, Err, refl, sym, ap, subst, ◌∙◌, append_assoc, arith}
use Rattle.std.specs.Str.{is_utf8}
use Rattle.std.proofs.lemmas.Bool.{lt-ltb, le-ltb}
use Rattle.std.proofs.lemmas.List.{length-append, take_at, drop_at}
use Rattle.at_cid.specs.Link.{IsBytes}
use Rattle.at_cbor.specs.declared.major.Major.{Major}
use Rattle.at_cbor.specs.declared.fault.Cause.{Cause}
use Rattle.at_cbor.specs.declared.head.Head.{Head}
use Rattle.at_cbor.specs.Item.{Item, items_of, fields_of, is_above, last_key}
use Rattle.at_cbor.specs.Heads.{Flaw, head_at}
use Rattle.at_cbor.specs.Encoding.{front_of, text_encoding, encoding, items_encoding, fields_encoding, head_encoding, HeadFits, IsText, ItemsFit, FieldsFit}
use Rattle.at_cbor.specs.Reading.{◌>>=◌, Reading, string_at, text_at, key_of, key_at, items_at, fields_at, body_of, item_at, inside}
use Rattle.at_cbor.specs.Decoding.{placed, decoded}
use Rattle.at_cbor.specs.Faults.{BreaksHead, BreaksValue, BreaksKey, IsStringCut, IsNoUtf8, IsContainer, IsTextHead, IsNoText, IsLowKey, Open, in_list, in_map, open_encoding, opened, OpenFits, AreOpen, IsFaultyAt, IsFaulty}
use Rattle.at_cbor.proofs.Keys.{last_or, last_of_all}
use Rattle.at_cbor.proofs.HeadLaws.{head_again}
use Rattle.at_cbor.proofs.ItemAgain.{item_again}
use Rattle.at_cbor.proofs.Loops.{item_at_is}
use Rattle.fault_law.proofs.Ends.{ends_in_bytes}
use Rattle.fault_law.proofs.HeadFaults.{head_fails}

-- a head that keeps the rules, and what a reader makes of it
after_head : {A : Type 0} (head : Head) (behind : List ℕ) (f : Head × List ℕ → Reading A) (answer : Reading A) → HeadFits head → f (head, behind) ≡ answer → (head_at (head_encoding head ++ behind) >>= f) ≡ answer
after_head head behind f answer holds e = ap (λ (r : Reading Head). r >>= f) (head_again head behind holds) ∙ e

-- ---- strings

string_cut : (left n : ℕ) (rest : List ℕ) → length rest < n → string_at left n rest ≡ Err (Cause.Short, left)
unfolding string_at
string_cut left n rest h = rw (lt-ltb (length rest) n h) refl

text_cut : (left n : ℕ) (rest : List ℕ) → length rest < n → text_at left n rest ≡ Err (Cause.Short, left)
unfolding text_at
text_cut left n rest h = rw (string_cut left n rest h) refl

string_again : (left : ℕ) (text rest : List ℕ) → string_at left (length text) (text ++ rest) ≡ Ok (text, rest)
unfolding string_at
string_again left text rest =
    let long : ltb (length (text ++ rest)) (length text) ≡ false = le-ltb _ _ (omega (arith, length-append text rest)) in
    rw (long, take_at text rest (length text) refl, drop_at text rest (length text) refl) refl

text_again : (left : ℕ) (text rest : List ℕ) → is_utf8 text ≡ true → text_at left (length text) (text ++ rest) ≡ Ok (text, rest)
unfolding text_at
text_again left text rest is = rw (string_again left text rest, is) refl

text_bad : (left : ℕ) (text rest : List ℕ) → is_utf8 text ≡ false → text_at left (length text) (text ++ rest) ≡ Err (Cause.BadText, left)
unfolding text_at
text_bad left text rest bad = rw (string_again left text rest, bad) refl

-- ---- keys

-- the key is read as this fault, with all of the bytes left
abbrev KeyFails : Option (List ℕ) → Cause → List ℕ → Type 0
KeyFails before cause here = key_at before here ≡ Err (cause, length here)

key_head_fails : (before : Option (List ℕ)) (here : List ℕ) (cause : Cause) → IsBytes here → BreaksHead cause here → KeyFails before cause here
unfolding key_at
key_head_fails before here cause fits h = ap (λ (r : Reading Head). r >>= λ x. key_of before (length here) x.0 x.1) (head_fails here cause fits h)

-- a text's head, and what the reader of the key makes of the text
key_text : (before : Option (List ℕ)) (n : ℕ) (behind : List ℕ) (answer : Reading (List ℕ)) → n < 2 ^ 64
    → (text_at (length (front_of Major.Text n ++ behind)) n behind >>= λ k. cond (is_above before k.0) (Ok k) (Err (Cause.KeyOrder, length (front_of Major.Text n ++ behind)))) ≡ answer → key_at before (front_of Major.Text n ++ behind) ≡ answer
unfolding key_at key_of
key_text before n behind answer below e = after_head (Head.Text n) behind (λ x. key_of before (length (front_of Major.Text n ++ behind)) x.0 x.1) answer below e

key_cut_fails : (before : Option (List ℕ)) (here : List ℕ) → IsStringCut Major.Text here → KeyFails before Cause.Short here
key_cut_fails before here (n, rest, below, parts, short) =
    subst (KeyFails before Cause.Short) (sym parts) (key_text before n rest _ below (rw (text_cut (length (front_of Major.Text n ++ rest)) n rest short) refl))

-- a whole text where a key is due
text_key : (before : Option (List ℕ)) (text rest : List ℕ) (answer : Reading (List ℕ)) → length text < 2 ^ 64
    → (text_at (length (text_encoding text ++ rest)) (length text) (text ++ rest) >>= λ k. cond (is_above before k.0) (Ok k) (Err (Cause.KeyOrder, length (text_encoding text ++ rest)))) ≡ answer → key_at before (text_encoding text ++ rest) ≡ answer
text_key before text rest answer below e =
    let grouped : text_encoding text ++ rest ≡ front_of Major.Text (length text) ++ (text ++ rest) = append_assoc (front_of Major.Text (length text)) text rest in
    ap (key_at before) grouped
    ∙ key_text before (length text) (text ++ rest) answer below (subst (λ (left : ℕ). (text_at left (length text) (text ++ rest) >>= λ k. cond (is_above before k.0) (Ok k) (Err (Cause.KeyOrder, left))) ≡ answer) (ap (λ (l : List ℕ). length l) grouped) e)

key_utf8_fails : (before : Option (List ℕ)) (here : List ℕ) → IsNoUtf8 here → KeyFails before Cause.BadText here
key_utf8_fails before here (text, rest, below, parts, bad) =
    subst (KeyFails before Cause.BadText) (sym parts) (text_key before text rest _ below (rw (text_bad (length (text_encoding text ++ rest)) text rest bad) refl))

low_key_fails : (before : Option (List ℕ)) (here : List ℕ) → IsLowKey before here → KeyFails before Cause.KeyOrder here
low_key_fails before here (key, rest, text, parts, low) =
    subst (KeyFails before Cause.KeyOrder) (sym parts) (text_key before key rest _ text.0.0 (rw (text_again (length (text_encoding key ++ rest)) key rest text.1, low) refl))

key_again : (before : Option (List ℕ)) (key rest : List ℕ) → IsText key → is_above before key ≡ true → key_at before (text_encoding key ++ rest) ≡ Ok (key, rest)
key_again before key rest text above = text_key before key rest (Ok (key, rest)) text.0.0 (rw (text_again (length (text_encoding key ++ rest)) key rest text.1, above) refl)

no_text_of : (before : Option (List ℕ)) (left : ℕ) (head : Head) (rest : List ℕ) → IsTextHead head ≡ false → key_of before left head rest ≡ Err (Cause.KeyOrder, left)
unfolding key_of
no_text_of before left (Head.Int z) rest h = refl
no_text_of before left (Head.Bytes n) rest h = refl
no_text_of before left (Head.Text n) rest h = absurd cc
no_text_of before left (Head.List n) rest h = refl
no_text_of before left (Head.Map n) rest h = refl
no_text_of before left (Head.Link link) rest h = refl
no_text_of before left (Head.Bool b) rest h = refl
no_text_of before left Head.Null rest h = refl

no_text_fails : (before : Option (List ℕ)) (here : List ℕ) → IsNoText here → KeyFails before Cause.KeyOrder here
unfolding key_at
no_text_fails before here (head, rest, holds, parts, other) =
    subst (KeyFails before Cause.KeyOrder) (sym parts) (after_head head rest (λ x. key_of before (length (head_encoding head ++ rest)) x.0 x.1) _ holds (no_text_of before (length (head_encoding head ++ rest)) head rest other))

key_fails : (before : Option (List ℕ)) (here : List ℕ) (cause : Cause) → IsBytes here → BreaksKey before cause here → KeyFails before cause here
key_fails before here Cause.Short fits (inl h) = key_head_fails before here Cause.Short fits h
key_fails before here Cause.Short fits (inr h) = key_cut_fails before here h
key_fails before here Cause.NotShortest fits h = key_head_fails before here Cause.NotShortest fits h
key_fails before here Cause.Indefinite fits h = key_head_fails before here Cause.Indefinite fits h
key_fails before here Cause.KeyOrder fits (inl h) = no_text_fails before here h
key_fails before here Cause.KeyOrder fits (inr h) = low_key_fails before here h
key_fails before here Cause.BadText fits h = key_utf8_fails before here h
key_fails before here Cause.BadTag fits h = key_head_fails before here Cause.BadTag fits h
key_fails before here Cause.BadSimple fits h = key_head_fails before here Cause.BadSimple fits h
key_fails before here Cause.TooDeep fits h = absurd h
key_fails before here Cause.IntRange fits h = key_head_fails before here Cause.IntRange fits h

-- ---- values

-- the value is read as this fault, with all of the bytes left
abbrev ValueFails : ℕ → Cause → List ℕ → Type 0
ValueFails depth cause here = item_at depth here ≡ Err (cause, length here)

value_head_fails : (depth : ℕ) (here : List ℕ) (cause : Cause) → IsBytes here → BreaksHead cause here → ValueFails depth cause here
value_head_fails depth here cause fits h = item_at_is depth here ∙ ap (λ (r : Reading Head). r >>= λ x. body_of (inside depth) (length here) x.0 x.1) (head_fails here cause fits h)

-- a head that keeps the rules, and what is read behind it
value_behind : (depth : ℕ) (head : Head) (behind : List ℕ) (answer : Reading Item) → HeadFits head → body_of (inside depth) (length (head_encoding head ++ behind)) head behind ≡ answer → item_at depth (head_encoding head ++ behind) ≡ answer
value_behind depth head behind answer holds e =
    item_at_is depth (head_encoding head ++ behind) ∙ after_head head behind (λ x. body_of (inside depth) (length (head_encoding head ++ behind)) x.0 x.1) answer holds e

bytes_cut_fails : (depth : ℕ) (here : List ℕ) → IsStringCut Major.Bytes here → ValueFails depth Cause.Short here
unfolding body_of
bytes_cut_fails depth here (n, rest, below, parts, short) =
    subst (ValueFails depth Cause.Short) (sym parts) (value_behind depth (Head.Bytes n) rest _ below (rw (string_cut (length (front_of Major.Bytes n ++ rest)) n rest short) refl))

text_cut_fails : (depth : ℕ) (here : List ℕ) → IsStringCut Major.Text here → ValueFails depth Cause.Short here
unfolding body_of
text_cut_fails depth here (n, rest, below, parts, short) =
    subst (ValueFails depth Cause.Short) (sym parts) (value_behind depth (Head.Text n) rest _ below (rw (text_cut (length (front_of Major.Text n ++ rest)) n rest short) refl))

utf8_fails : (depth : ℕ) (here : List ℕ) → IsNoUtf8 here → ValueFails depth Cause.BadText here
unfolding body_of
utf8_fails depth here (text, rest, below, parts, bad) =
    let grouped : here ≡ front_of Major.Text (length text) ++ (text ++ rest) = parts ∙ append_assoc (front_of Major.Text (length text)) text rest in
    subst (ValueFails depth Cause.BadText) (sym grouped) (value_behind depth (Head.Text (length text)) (text ++ rest) _ below (rw (text_bad (length (front_of Major.Text (length text) ++ (text ++ rest))) text rest bad) refl))

deep_fails : (here : List ℕ) → IsContainer here → ValueFails 0 Cause.TooDeep here
unfolding body_of
deep_fails here (n, rest, below, inl parts) = subst (ValueFails 0 Cause.TooDeep) (sym parts) (value_behind 0 (Head.List n) rest _ below refl)
deep_fails here (n, rest, below, inr parts) = subst (ValueFails 0 Cause.TooDeep) (sym parts) (value_behind 0 (Head.Map n) rest _ below refl)

value_fails : (depth : ℕ) (here : List ℕ) (cause : Cause) → IsBytes here → BreaksValue depth cause here → ValueFails depth cause here
value_fails depth here Cause.Short fits (inl h) = value_head_fails depth here Cause.Short fits h
value_fails depth here Cause.Short fits (inr (inl h)) = bytes_cut_fails depth here h
value_fails depth here Cause.Short fits (inr (inr h)) = text_cut_fails depth here h
value_fails depth here Cause.NotShortest fits h = value_head_fails depth here Cause.NotShortest fits h
value_fails depth here Cause.Indefinite fits h = value_head_fails depth here Cause.Indefinite fits h
value_fails depth here Cause.KeyOrder fits h = absurd h
value_fails depth here Cause.BadText fits h = utf8_fails depth here h
value_fails depth here Cause.BadTag fits h = value_head_fails depth here Cause.BadTag fits h
value_fails depth here Cause.BadSimple fits h = value_head_fails depth here Cause.BadSimple fits h
value_fails depth here Cause.TooDeep fits h = subst (λ (k : ℕ). ValueFails k Cause.TooDeep here) (sym h.0) (deep_fails here h.1)
value_fails depth here Cause.IntRange fits h = value_head_fails depth here Cause.IntRange fits h

-- ---- what stands in front

module _ (depth : ℕ) where
  -- items that were read are passed over
  items_stop : (n : ℕ) (is : List Item) (rest : List ℕ) (d : Flaw) → length is < n → ItemsFit (items_of is) depth → item_at depth rest ≡ Err d → items_at (item_at depth) n (items_encoding (items_of is) ++ rest) ≡ Err d
  unfolding items_at
  items_stop zero is rest d fewer fit e = absurd (omega (arith, fewer))
  items_stop (suc n) [] rest d fewer fit e = rw e refl
  items_stop (suc n) (i ∷ is) rest d fewer fit e =
      ap (items_at (item_at depth) (suc n)) (append_assoc (encoding i) (items_encoding (items_of is)) rest)
      ∙ rw (item_again depth i (items_encoding (items_of is) ++ rest) fit.0, items_stop n is rest d (omega (arith, fewer)) fit.1 e) refl

  -- the reader of fields stops behind a key before
  abbrev FieldsStop : Option (List ℕ) → List ℕ → Flaw → Type 0
  FieldsStop before rest d = (n : ℕ) → fields_at (item_at depth) before (suc n) rest ≡ Err d

  fields_stop : (before : Option (List ℕ)) (n : ℕ) (fs : List (List ℕ × Item)) (rest : List ℕ) (d : Flaw) → length fs < n → FieldsFit (fields_of fs) before depth → FieldsStop (last_or before fs) rest d → fields_at (item_at depth) before n (fields_encoding (fields_of fs) ++ rest) ≡ Err d
  unfolding fields_at
  fields_stop before zero fs rest d fewer fit stop = absurd (omega (arith, fewer))
  fields_stop before (suc n) [] rest d fewer fit stop = stop n
  fields_stop before (suc n) (f ∷ fs) rest d fewer fit stop =
      ap (fields_at (item_at depth) before (suc n)) (append_assoc (text_encoding f.0) (encoding f.1 ++ fields_encoding (fields_of fs)) rest ∙ ap (λ (l : List ℕ). text_encoding f.0 ++ l) (append_assoc (encoding f.1) (fields_encoding (fields_of fs)) rest))
      ∙ rw (key_again before f.0 (encoding f.1 ++ (fields_encoding (fields_of fs) ++ rest)) fit.0 fit.1, item_again depth f.1 (fields_encoding (fields_of fs) ++ rest) fit.2, fields_stop (Some f.0) n fs rest d (omega (arith, fewer)) fit.3 stop) refl

  key_stops : (before : Option (List ℕ)) (rest : List ℕ) (d : Flaw) → key_at before rest ≡ Err d → FieldsStop before rest d
  unfolding fields_at
  key_stops before rest d e n = rw e refl

  value_stops : (before : Option (List ℕ)) (key rest : List ℕ) (d : Flaw) → IsText key → is_above before key ≡ true → item_at depth rest ≡ Err d → FieldsStop before (text_encoding key ++ rest) d
  unfolding fields_at
  value_stops before key rest d text above e n = rw (key_again before key rest text above, e) refl

  -- a map that stops behind the fields that were read
  map_stops : (n : ℕ) (fs : List (List ℕ × Item)) (rest : List ℕ) (d : Flaw) → length fs < n → n < 2 ^ 64 → FieldsFit (fields_of fs) None depth → FieldsStop (last_key fs) rest d → item_at (suc depth) (front_of Major.Map n ++ (fields_encoding (fields_of fs) ++ rest)) ≡ Err d
  unfolding body_of
  map_stops n fs rest d fewer below fit stop =
      let stopped : fields_at (item_at depth) None n (fields_encoding (fields_of fs) ++ rest) ≡ Err d = fields_stop None n fs rest d fewer fit (subst (λ (k : Option (List ℕ)). FieldsStop k rest d) (sym (last_of_all fs)) stop) in
      value_behind (suc depth) (Head.Map n) (fields_encoding (fields_of fs) ++ rest) (Err d) below (rw stopped refl)

  -- a list or a map fails as what is due inside
  open_fails : (o : Open) (rest : List ℕ) (d : Flaw) → OpenFits o depth → item_at depth rest ≡ Err d → item_at (suc depth) (open_encoding o ++ rest) ≡ Err d
  unfolding body_of
  open_fails (in_list n is) rest d (fewer, below, fit) e =
      ap (item_at (suc depth)) (append_assoc (front_of Major.List n) (items_encoding (items_of is)) rest)
      ∙ value_behind (suc depth) (Head.List n) (items_encoding (items_of is) ++ rest) (Err d) below (rw (items_stop n is rest d fewer fit e) refl)
  open_fails (in_map n fs key) rest d (fewer, below, fit, text, above) e =
      ap (item_at (suc depth)) (append_assoc (front_of Major.Map n) (fields_encoding (fields_of fs) ++ text_encoding key) rest ∙ ap (λ (l : List ℕ). front_of Major.Map n ++ l) (append_assoc (fields_encoding (fields_of fs)) (text_encoding key) rest))
      ∙ map_stops n fs (text_encoding key ++ rest) d fewer below fit (value_stops (last_key fs) key rest d text above e)

-- each of the lists and maps fails as what is due inside the last
opened_fail : (os : List Open) (depth : ℕ) (rest : List ℕ) (d : Flaw) → AreOpen os depth → item_at (depth - length os) rest ≡ Err d → item_at depth (opened os ++ rest) ≡ Err d
opened_fail [] depth rest d are e = let all : depth - 0 ≡ depth = omega arith in subst (λ (k : ℕ). item_at k rest ≡ Err d) all e
opened_fail (o ∷ os) zero rest d are e = absurd (omega (arith, are.0))
opened_fail (o ∷ os) (suc depth) rest d are e =
    let one_less : suc depth - 1 ≡ depth = omega arith in
    let left : suc depth - length (o ∷ os) ≡ depth - length os = omega arith in
    let fits : OpenFits o depth = subst (OpenFits o) one_less are.1 in
    let inner : AreOpen os depth = subst (AreOpen os) one_less are.2 in
    ap (item_at (suc depth)) (append_assoc (open_encoding o) (opened os) rest)
    ∙ open_fails depth o (opened os ++ rest) d fits (opened_fail os depth rest d inner (subst (λ (k : ℕ). item_at k rest ≡ Err d) left e))

-- ---- the whole input

faulty_at : (depth : ℕ) (bytes here : List ℕ) (cause : Cause) → IsBytes bytes → IsFaultyAt depth bytes cause here → item_at depth bytes ≡ Err (cause, length here)
faulty_at depth bytes here cause fits (inl (os, are, parts, breaks)) =
    ap (item_at depth) parts ∙ opened_fail os depth here (cause, length here) are (value_fails (depth - length os) here cause (ends_in_bytes bytes (opened os) here fits parts) breaks)
faulty_at depth bytes here cause fits (inr (os, n, fs, are, room, fewer, below, fit, parts, breaks)) =
    let map_fits : IsBytes (front_of Major.Map n ++ (fields_encoding (fields_of fs) ++ here)) = ends_in_bytes bytes (opened os) _ fits parts in
    let fields_fits : IsBytes (fields_encoding (fields_of fs) ++ here) = ends_in_bytes _ (front_of Major.Map n) _ map_fits refl in
    let here_fits : IsBytes here = ends_in_bytes _ (fields_encoding (fields_of fs)) here fields_fits refl in
    let inside_one : suc (depth - length os - 1) ≡ depth - length os = omega (arith, room) in
    let stops = key_stops (depth - length os - 1) (last_key fs) here (cause, length here) (key_fails (last_key fs) here cause here_fits breaks) in
    let fails : item_at (depth - length os) (front_of Major.Map n ++ (fields_encoding (fields_of fs) ++ here)) ≡ Err (cause, length here) =
    subst (λ (k : ℕ). item_at k (front_of Major.Map n ++ (fields_encoding (fields_of fs) ++ here)) ≡ Err (cause, length here)) inside_one (map_stops (depth - length os - 1) n fs here (cause, length here) fewer below fit stops) in
    ap (item_at depth) parts ∙ opened_fail os depth (front_of Major.Map n ++ (fields_encoding (fields_of fs) ++ here)) (cause, length here) are fails

pub fault_read : (bytes : List ℕ) (cause : Cause) (place : ℕ) → IsBytes bytes → IsFaulty bytes cause place → decoded bytes ≡ Err (cause, place)
unfolding decoded
fault_read bytes cause place fits (here, there, faulty) =
    let at : length bytes - length here ≡ place = omega (arith, there) in
    ap (placed (length bytes)) (faulty_at 64 bytes here cause fits faulty) ∙ ap (λ (p : ℕ). Err (cause, p)) at
