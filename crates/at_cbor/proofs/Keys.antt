-- Keys that ascend.
use Rattle.std.proofs.Common.{◌≡◌, ℕ, zero, suc, ◌-◌, ◌<◌, true, List, [], ◌∷◌, ◌++◌, length, map, take, get_or, Option, Some, None, Ok, refl, sym, ap, subst, ◌∙◌, arith}
use Rattle.std.specs.Prelude.{slice_get, option_map}
use Rattle.std.proofs.lemmas.List.{map_push}
use Rattle.std.proofs.lemmas.Bool.{and_from, and_parts}
use Rattle.at_cbor.specs.declared.fault.Cause.{Cause}
use Rattle.at_cbor.specs.declared.head.Head.{Head}
use Rattle.at_cbor.specs.declared.value.Value.{Value}
use Rattle.at_cbor.specs.Heads.{head_at}
use Rattle.at_cbor.specs.Item.{Item, last_key, is_above, are_ascending}
use Rattle.at_cbor.specs.Reading.{text_at, key_of, key_at}
use Rattle.at_cbor.specs.View.{pair_of}
use Rattle.at_cbor.proofs.Steps.{bind_ok, passed_ok, ok_is}

abbrev pub last_or : Option (List ℕ) → List (List ℕ × Item) → Option (List ℕ)
last_or before [] = before
last_or before (f ∷ fs) = last_or (Some f.0) fs

last_key-cons : (f g : List ℕ × Item) (fs : List (List ℕ × Item)) → last_key (f ∷ g ∷ fs) ≡ last_key (g ∷ fs)
last_key-cons f g fs =
    let here : suc (suc (length fs)) - 1 ≡ suc (length fs) = omega arith in
    let there : suc (length fs) - 1 ≡ length fs = omega arith in
    ap (λ (n : ℕ). option_map (λ (x : List ℕ × Item). x.0) (slice_get (f ∷ g ∷ fs) n)) here
    ∙ ap (λ (n : ℕ). option_map (λ (x : List ℕ × Item). x.0) (slice_get (g ∷ fs) n)) (sym there)

last_is : (f : List ℕ × Item) (fs : List (List ℕ × Item)) → last_or (Some f.0) fs ≡ last_key (f ∷ fs)
last_is f [] = refl
last_is f (g ∷ fs) = last_is g fs ∙ sym (last_key-cons f g fs)

pub last_of_all : (fs : List (List ℕ × Item)) → last_or None fs ≡ last_key fs
last_of_all [] = refl
last_of_all (f ∷ fs) = last_is f fs

ascending_push : (before : Option (List ℕ)) (fs : List (List ℕ × Item)) (f : List ℕ × Item) → are_ascending before fs ≡ true → is_above (last_or before fs) f.0 ≡ true → are_ascending before (fs ++ f ∷ []) ≡ true
ascending_push before [] f h above = and_from (is_above before f.0) true above refl
ascending_push before (g ∷ fs) f h above =
    let parts = and_parts (is_above before g.0) (are_ascending (Some g.0) fs) h in
    and_from (is_above before g.0) (are_ascending (Some g.0) (fs ++ f ∷ [])) parts.0 (ascending_push (Some g.0) fs f parts.1 above)

-- a field behind the others leaves the keys ascending
pub push_ascends : (old new : List (List ℕ × Value)) (seen : List (List ℕ × Item)) (f : List ℕ × Value) → new ≡ old ++ f ∷ [] → map pair_of old ≡ seen → are_ascending None (map pair_of old) ≡ true → is_above (last_key seen) f.0 ≡ true
    → are_ascending None (map pair_of new) ≡ true
push_ascends old new seen f pushed named ascending above =
    let all : map pair_of new ≡ map pair_of old ++ pair_of f ∷ [] = ap (map pair_of) pushed ∙ map_push pair_of old f in
    let last : last_or None (map pair_of old) ≡ last_key seen = last_of_all (map pair_of old) ∙ ap last_key named in
    ap (are_ascending None) all ∙ ascending_push None (map pair_of old) (pair_of f) ascending (ap (λ (k : Option (List ℕ)). is_above k f.0) last ∙ above)

above_before : (before : Option (List ℕ)) (fs : List (List ℕ × Value)) (k : ℕ) (d : List ℕ × Value) → k < length fs → are_ascending before (map pair_of fs) ≡ true → is_above (last_or before (map pair_of (take k fs))) (get_or fs k d).0 ≡ true
above_before before [] k d h ascending = absurd (omega arith)
above_before before (f ∷ fs) zero d h ascending = (and_parts (is_above before f.0) (are_ascending (Some f.0) (map pair_of fs)) ascending).0
above_before before (f ∷ fs) (suc k) d h ascending = above_before (Some f.0) fs k d (omega arith) (and_parts (is_above before f.0) (are_ascending (Some f.0) (map pair_of fs)) ascending).1

-- of fields whose keys ascend, the next one's key is above those before it
pub next_above : (made : List (List ℕ × Item)) (fs : List (List ℕ × Value)) (k : ℕ) (f : List ℕ × Value) (key : List ℕ) → made ≡ map pair_of (take k fs) → k < length fs → f ≡ get_or fs k f → key ≡ f.0 → are_ascending None (map pair_of fs) ≡ true
    → is_above (last_key made) key ≡ true
next_above made fs k f key seen lt is named ascending =
    let above = above_before None fs k f lt ascending in
    let last : last_or None (map pair_of (take k fs)) ≡ last_key made = last_of_all (map pair_of (take k fs)) ∙ ap last_key (sym seen) in
    ap (is_above (last_key made)) (named ∙ ap (λ (g : List ℕ × Value). g.0) is)
    ∙ ap (λ (l : Option (List ℕ)). is_above l (get_or fs k f).0) (sym last) ∙ above

key_of_above : (before : Option (List ℕ)) (left : ℕ) (head : Head) (rest : List ℕ) (x : List ℕ × List ℕ) → key_of before left head rest ≡ Ok x → is_above before x.0 ≡ true
unfolding key_of
key_of_above before left (Head.Text n) rest x e =
    let s = bind_ok (text_at left n rest) _ x e in
    let t = passed_ok (is_above before s.0.0) (Cause.KeyOrder, left) (Ok s.0) x s.2 in
    subst (λ (y : List ℕ × List ℕ). is_above before y.0 ≡ true) (ok_is s.0 x t.1) t.0
key_of_above before left (Head.Int z) rest x e = absurd cc
key_of_above before left (Head.Bytes n) rest x e = absurd cc
key_of_above before left (Head.List n) rest x e = absurd cc
key_of_above before left (Head.Map n) rest x e = absurd cc
key_of_above before left (Head.Link link) rest x e = absurd cc
key_of_above before left (Head.Bool b) rest x e = absurd cc
key_of_above before left Head.Null rest x e = absurd cc

-- a key that is read is above the one before it
pub key_above : (before : Option (List ℕ)) (bytes : List ℕ) (x : List ℕ × List ℕ) → key_at before bytes ≡ Ok x → is_above before x.0 ≡ true
unfolding key_at
key_above before bytes x e =
    let h = bind_ok (head_at bytes) _ x e in
    key_of_above before (length bytes) h.0.0 h.0.1 x h.2
