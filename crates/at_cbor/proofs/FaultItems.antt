-- What a fault of an input says of the bytes at its place, and of those in front.
use Rattle.std.proofs.Common.{◌≡◌, ℕ, zero, suc, ◌-◌, ◌^◌, ◌<◌, ◌⊎◌, inl, inr, cond, ltb, List, [], ◌∷◌, ◌++◌, length, take, drop, Option, Some, None, Result, Ok, Err, refl, sym, ap, subst, ◌∙◌, append_assoc, arith}
use Rattle.std.specs.Str.{is_utf8}
use Rattle.std.proofs.lemmas.Bool.{ltb-true}
use Rattle.at_cid.specs.Link.{IsBytes}
use Rattle.at_cbor.specs.declared.major.Major.{Major}
use Rattle.at_cbor.specs.declared.fault.Cause.{Cause}
use Rattle.at_cbor.specs.declared.head.Head.{Head}
use Rattle.at_cbor.specs.Item.{Item, items_of, fields_of, is_above, last_key}
use Rattle.at_cbor.specs.Heads.{Flaw, head_at}
use Rattle.at_cbor.specs.Encoding.{front_of, text_encoding, encoding, items_encoding, fields_encoding, head_encoding, HeadFits, IsText, ItemsFit, FieldsFit}
use Rattle.at_cbor.specs.Reading.{◌>>=◌, Reading, string_at, text_at, key_of, key_at, items_at, fields_at, list_of, map_of, body_of, item_at, inside}
use Rattle.at_cbor.specs.Faults.{BreaksHead, BreaksValue, BreaksKey, IsNoUtf8, IsNoText, Open, in_list, in_map, open_encoding, opened, OpenFits, IsFaultyAt}
use Rattle.at_cbor.proofs.Steps.{chosen, Takes, Takes-then}
use Rattle.at_cbor.proofs.Keys.{last_or, last_of_all}
use Rattle.at_cbor.proofs.HeadLaws.{head_takes}
use Rattle.at_cbor.proofs.FaultHeads.{err_is, head_faults}
use Rattle.at_cbor.proofs.ItemLaws.{string_takes, text_takes, key_takes, behind_front, Sound, item_takes}
use Rattle.at_cbor.proofs.Loops.{item_at_is}

-- which step failed
bind_err : {A B : Type 0} (r : Result A Flaw) (f : A → Result B Flaw) (d : Flaw) → (r >>= f) ≡ Err d → (r ≡ Err d) ⊎ ((x : A) × (r ≡ Ok x) × (f x ≡ Err d))
bind_err (Ok x) f d e = inr (x, refl, e)
bind_err (Err c) f d e = let same : c ≡ d = err_is c d e in inl (ap (λ (b : Flaw). Err b) same)

-- ---- strings

string_faults : (left n : ℕ) (rest : List ℕ) (d : Flaw) → string_at left n rest ≡ Err d → ((Cause.Short, left) ≡ d) × (length rest < n)
unfolding string_at
string_faults left n rest d e =
    elim (chosen (ltb (length rest) n) (Err (Cause.Short, left)) (Ok (take n rest, drop n rest)) (Err d) e) [
      | inl (t, f) ↦ (err_is (Cause.Short, left) d f, ltb-true (length rest) n t)
      | inr (t, f) ↦ absurd cc
    ]

text_faults : (left n : ℕ) (rest : List ℕ) (d : Flaw) → n < 2 ^ 64 → IsBytes rest → text_at left n rest ≡ Err d
    → (((Cause.Short, left) ≡ d) × (length rest < n)) ⊎ (((Cause.BadText, left) ≡ d) × IsNoUtf8 (front_of Major.Text n ++ rest))
unfolding text_at
text_faults left n rest d below fits e =
    elim (bind_err (string_at left n rest) (λ s. cond (is_utf8 s.0) (Ok s) (Err (Cause.BadText, left))) d e) [
      | inl f ↦ inl (string_faults left n rest d f)
      | inr f ↦ elim (chosen (is_utf8 f.0.0) (Ok f.0) (Err (Cause.BadText, left)) (Err d) f.2) [
        | inl (t, g) ↦ absurd cc
        | inr (t, g) ↦
            let taken = string_takes left n rest f.0 fits f.1 in
            inr (err_is (Cause.BadText, left) d g, (f.0.0, f.0.1, omega (arith, taken.1, below), (behind_front Major.Text n rest f.0 taken).parts, t))
      ]
    ]

-- ---- keys

abbrev IsKeyFault : Option (List ℕ) → List ℕ → Flaw → Type 0
IsKeyFault before bytes d = (d.1 ≡ length bytes) × BreaksKey before d.0 bytes

head_of_key : (before : Option (List ℕ)) (bytes : List ℕ) (cause : Cause) → BreaksHead cause bytes → BreaksKey before cause bytes
head_of_key before bytes Cause.Short h = inl h
head_of_key before bytes Cause.NotShortest h = h
head_of_key before bytes Cause.Indefinite h = h
head_of_key before bytes Cause.KeyOrder h = absurd h
head_of_key before bytes Cause.BadText h = absurd h
head_of_key before bytes Cause.BadTag h = h
head_of_key before bytes Cause.BadSimple h = h
head_of_key before bytes Cause.TooDeep h = h
head_of_key before bytes Cause.IntRange h = h

no_text : (before : Option (List ℕ)) (left : ℕ) (bytes : List ℕ) (d : Flaw) → left ≡ length bytes → IsNoText bytes → (let r : Reading (List ℕ) = Err (Cause.KeyOrder, left) in r) ≡ Err d → IsKeyFault before bytes d
no_text before left bytes d here none e = subst (IsKeyFault before bytes) (err_is (Cause.KeyOrder, left) d e) (here, inl none)

key_of_faults : (before : Option (List ℕ)) (left : ℕ) (head : Head) (rest : List ℕ) (d : Flaw) → left ≡ length (head_encoding head ++ rest) → IsBytes rest → HeadFits head → key_of before left head rest ≡ Err d → IsKeyFault before (head_encoding head ++ rest) d
unfolding key_of
key_of_faults before left (Head.Text n) rest d here fits holds e =
    elim (bind_err (text_at left n rest) (λ k. cond (is_above before k.0) (Ok k) (Err (Cause.KeyOrder, left))) d e) [
      | inl f ↦ elim (text_faults left n rest d holds fits f) [
        | inl g ↦ subst (IsKeyFault before (front_of Major.Text n ++ rest)) g.0 (here, inr (n, rest, holds, refl, g.1))
        | inr g ↦ subst (IsKeyFault before (front_of Major.Text n ++ rest)) g.0 (here, g.1)
      ]
      | inr f ↦ elim (chosen (is_above before f.0.0) (Ok f.0) (Err (Cause.KeyOrder, left)) (Err d) f.2) [
        | inl (t, g) ↦ absurd cc
        | inr (t, g) ↦
            let taken = text_takes left n rest f.0 fits f.1 in
            let text : IsText f.0.0 = ((omega (arith, taken.0.1, holds), taken.0.2), taken.1) in
            subst (IsKeyFault before (front_of Major.Text n ++ rest)) (err_is (Cause.KeyOrder, left) d g) (here, inr (f.0.0, f.0.1, text, (behind_front Major.Text n rest f.0 taken.0).parts, t))
      ]
    ]
key_of_faults before left (Head.Int z) rest d here fits holds e = no_text before left _ d here (Head.Int z, rest, holds, refl, refl) e
key_of_faults before left (Head.Bytes n) rest d here fits holds e = no_text before left _ d here (Head.Bytes n, rest, holds, refl, refl) e
key_of_faults before left (Head.List n) rest d here fits holds e = no_text before left _ d here (Head.List n, rest, holds, refl, refl) e
key_of_faults before left (Head.Map n) rest d here fits holds e = no_text before left _ d here (Head.Map n, rest, holds, refl, refl) e
key_of_faults before left (Head.Link link) rest d here fits holds e = no_text before left _ d here (Head.Link link, rest, holds, refl, refl) e
key_of_faults before left (Head.Bool b) rest d here fits holds e = no_text before left _ d here (Head.Bool b, rest, tt, refl, refl) e
key_of_faults before left Head.Null rest d here fits holds e = no_text before left _ d here (Head.Null, rest, tt, refl, refl) e

key_faults : (before : Option (List ℕ)) (bytes : List ℕ) (d : Flaw) → IsBytes bytes → key_at before bytes ≡ Err d → IsKeyFault before bytes d
unfolding key_at
key_faults before bytes d fits e =
    elim (bind_err (head_at bytes) (λ h. key_of before (length bytes) h.0 h.1) d e) [
      | inl f ↦ let h = head_faults bytes d fits f in (h.0, head_of_key before bytes d.0 h.1)
      | inr f ↦
          let head = head_takes bytes f.0 fits f.1 in
          subst (λ (l : List ℕ). IsKeyFault before l d) (sym head.0.parts) (key_of_faults before (length bytes) f.0.0 f.0.1 d (ap length head.0.parts) head.0.rest_fits head.1 f.2)
    ]

-- ---- items

-- a fault is at this end of the bytes
abbrev IsFault : ℕ → List ℕ → Flaw → Type 0
IsFault depth bytes d = (here : List ℕ) × (d.1 ≡ length here) × IsFaultyAt depth bytes d.0 here

-- each fault of the reader is one
abbrev Faults : (List ℕ → Reading Item) → ℕ → Type 0
Faults r depth = (bytes : List ℕ) (d : Flaw) → IsBytes bytes → r bytes ≡ Err d → IsFault depth bytes d

head_of_value : (depth : ℕ) (bytes : List ℕ) (cause : Cause) → BreaksHead cause bytes → BreaksValue depth cause bytes
head_of_value depth bytes Cause.Short h = inl h
head_of_value depth bytes Cause.NotShortest h = h
head_of_value depth bytes Cause.Indefinite h = h
head_of_value depth bytes Cause.KeyOrder h = h
head_of_value depth bytes Cause.BadText h = absurd h
head_of_value depth bytes Cause.BadTag h = h
head_of_value depth bytes Cause.BadSimple h = h
head_of_value depth bytes Cause.TooDeep h = absurd h
head_of_value depth bytes Cause.IntRange h = h

-- the value itself breaks the rule
own : (depth : ℕ) (bytes : List ℕ) (d : Flaw) → d.1 ≡ length bytes → BreaksValue depth d.0 bytes → IsFault depth bytes d
own depth bytes d here breaks =
    let all : depth ≡ depth - 0 = omega arith in
    (bytes, here, inl ([], tt, refl, subst (λ (k : ℕ). BreaksValue k d.0 bytes) all breaks))

own_as : (depth : ℕ) (bytes : List ℕ) (c d : Flaw) → c ≡ d → c.1 ≡ length bytes → BreaksValue depth c.0 bytes → IsFault depth bytes d
own_as depth bytes c d same here breaks = subst (IsFault depth bytes) same (own depth bytes c here breaks)

-- a fault inside a list or a map
deeper : (o : Open) (depth : ℕ) (rest : List ℕ) (d : Flaw) → 0 < depth → OpenFits o (depth - 1) → IsFault (depth - 1) rest d → IsFault depth (open_encoding o ++ rest) d
deeper o depth rest d some fits fault = (
  fault.0,
  fault.1,
  elim fault.2 [
    | inl v ↦
        let left : depth - 1 - length v.0 ≡ depth - length (o ∷ v.0) = omega arith in
        inl (o ∷ v.0, (some, fits, v.1), put v.0 fault.0 v.2, subst (λ (k : ℕ). BreaksValue k d.0 fault.0) left v.3)
    | inr v ↦
        let left : depth - 1 - length v.0 - 1 ≡ depth - length (o ∷ v.0) - 1 = omega arith in
        inr (o ∷ v.0, v.1, v.2, (some, fits, v.3), omega (arith, v.4), v.5, v.6, subst (λ (k : ℕ). FieldsFit (fields_of v.2) None k) left v.7, put v.0 (front_of Major.Map v.1 ++ (fields_encoding (fields_of v.2) ++ fault.0)) v.8, v.9)
  ],
)
  where
    put : (os : List Open) (here : List ℕ) → rest ≡ opened os ++ here → open_encoding o ++ rest ≡ opened (o ∷ os) ++ here
    put os here e = ap (λ (l : List ℕ). open_encoding o ++ l) e ∙ sym (append_assoc (open_encoding o) (opened os) here)

module _ (r : List ℕ → Reading Item) (depth : ℕ) (sound : Sound r depth) where
  -- the items in front of the one that failed
  pub record FailsBehind (n : ℕ) (bytes : List ℕ) (d : Flaw) : Type 0 where
    pub read : List Item
    pub after : List ℕ
    pub fewer : length read < n
    pub taken : Takes bytes (items_encoding (items_of read)) after
    pub fit : ItemsFit (items_of read) depth
    pub fails : r after ≡ Err d

  items_fault : (n : ℕ) (bytes : List ℕ) (d : Flaw) → IsBytes bytes → items_at r n bytes ≡ Err d → FailsBehind n bytes d
  unfolding items_at
  items_fault zero bytes d fits e = absurd cc
  items_fault (suc n) bytes d fits e =
      elim (bind_err (r bytes) (λ x. items_at r n x.1 >>= λ y. Ok (x.0 ∷ y.0, y.1)) d e) [
        | inl f ↦ record { read = []; after = bytes; fewer = omega arith; taken = record { parts = refl; rest_fits = fits }; fit = tt; fails = f }
        | inr a ↦ elim (bind_err (items_at r n a.0.1) (λ y. Ok (a.0.0 ∷ y.0, y.1)) d a.2) [
          | inl f ↦
              let first = sound bytes a.0 fits a.1 in
              let others = items_fault n a.0.1 d first.0.rest_fits f in
              record {
                read = a.0.0 ∷ others.read;
                after = others.after;
                fewer = omega (arith, others.fewer);
                taken = Takes-then bytes (encoding a.0.0) a.0.1 (items_encoding (items_of others.read)) others.after first.0 others.taken;
                fit = (first.1, others.fit);
                fails = others.fails;
              }
          | inr f ↦ absurd (no_fault f.2)
        ]
      ]
    where
      no_fault : {x : List Item × List ℕ} → (let s : Reading (List Item) = Ok x in s) ≡ Err d → ⊥
      no_fault h = cc

  -- the fields in front of the one that failed
  pub record FieldFailsBehind (before : Option (List ℕ)) (n : ℕ) (bytes : List ℕ) (d : Flaw) : Type 0 where
    pub read : List (List ℕ × Item)
    pub after : List ℕ
    pub fewer : length read < n
    pub taken : Takes bytes (fields_encoding (fields_of read)) after
    pub fit : FieldsFit (fields_of read) before depth
    pub fails : (key_at (last_or before read) after ≡ Err d) ⊎ ((k : List ℕ × List ℕ) × (key_at (last_or before read) after ≡ Ok k) × (r k.1 ≡ Err d))

  fields_fault : (before : Option (List ℕ)) (n : ℕ) (bytes : List ℕ) (d : Flaw) → IsBytes bytes → fields_at r before n bytes ≡ Err d → FieldFailsBehind before n bytes d
  unfolding fields_at
  fields_fault before zero bytes d fits e = absurd cc
  fields_fault before (suc n) bytes d fits e =
      elim (bind_err (key_at before bytes) (λ k. r k.1 >>= λ v. fields_at r (Some k.0) n v.1 >>= λ y. Ok ((k.0, v.0) ∷ y.0, y.1)) d e) [
        | inl f ↦ record { read = []; after = bytes; fewer = omega arith; taken = record { parts = refl; rest_fits = fits }; fit = tt; fails = inl f }
        | inr k ↦ elim (bind_err (r k.0.1) (λ v. fields_at r (Some k.0.0) n v.1 >>= λ y. Ok ((k.0.0, v.0) ∷ y.0, y.1)) d k.2) [
          | inl f ↦ record { read = []; after = bytes; fewer = omega arith; taken = record { parts = refl; rest_fits = fits }; fit = tt; fails = inr (k.0, k.1, f) }
          | inr v ↦ elim (bind_err (fields_at r (Some k.0.0) n v.0.1) (λ y. Ok ((k.0.0, v.0.0) ∷ y.0, y.1)) d v.2) [
            | inl f ↦
                let key = key_takes before bytes k.0 fits k.1 in
                let value = sound k.0.1 v.0 key.0.rest_fits v.1 in
                let others = fields_fault (Some k.0.0) n v.0.1 d value.0.rest_fits f in
                let behind = Takes-then k.0.1 (encoding v.0.0) v.0.1 (fields_encoding (fields_of others.read)) others.after value.0 others.taken in
                record {
                  read = (k.0.0, v.0.0) ∷ others.read;
                  after = others.after;
                  fewer = omega (arith, others.fewer);
                  taken = Takes-then bytes (text_encoding k.0.0) k.0.1 (encoding v.0.0 ++ fields_encoding (fields_of others.read)) others.after key.0 behind;
                  fit = (key.1, key.2, value.1, others.fit);
                  fails = others.fails;
                }
            | inr f ↦ absurd (no_fault f.2)
          ]
        ]
      ]
    where
      no_fault : {x : List (List ℕ × Item) × List ℕ} → (let s : Reading (List (List ℕ × Item)) = Ok x in s) ≡ Err d → ⊥
      no_fault h = cc

-- the reader inside, where there is one, is sound, and its faults are faults
abbrev InsideFaults : Option (List ℕ → Reading Item) → ℕ → Type 0
InsideFaults None depth = depth ≡ 0
InsideFaults (Some r) depth = (0 < depth) × Sound r (depth - 1) × Faults r (depth - 1)

-- what is read is no fault
no_fault : {d : Flaw} {x : Item × List ℕ} → (let s : Reading Item = Ok x in s) ≡ Err d → ⊥
no_fault h = cc

list_faults : (inside : Option (List ℕ → Reading Item)) (depth left n : ℕ) (rest : List ℕ) (d : Flaw) → InsideFaults inside depth → left ≡ length (front_of Major.List n ++ rest) → n < 2 ^ 64 → IsBytes rest → list_of inside left n rest ≡ Err d → IsFault depth (front_of Major.List n ++ rest) d
list_faults None depth left n rest d none here below fits e = own_as depth _ (Cause.TooDeep, left) d (err_is (Cause.TooDeep, left) d e) here (none, (n, rest, below, inl refl))
list_faults (Some r) depth left n rest d given here below fits e =
    elim (bind_err (items_at r n rest) (λ is. Ok (Item.list (items_of is.0), is.1)) d e) [
      | inl f ↦
          let part = items_fault r (depth - 1) given.1 n rest d fits f in
          let fault = given.2 part.after d part.taken.rest_fits part.fails in
          let parts : front_of Major.List n ++ rest ≡ open_encoding (in_list n part.read) ++ part.after = ap (λ (l : List ℕ). front_of Major.List n ++ l) part.taken.parts ∙ sym (append_assoc (front_of Major.List n) (items_encoding (items_of part.read)) part.after) in
          subst (λ (l : List ℕ). IsFault depth l d) (sym parts) (deeper (in_list n part.read) depth part.after d given.0 (part.fewer, below, part.fit) fault)
      | inr f ↦ absurd (no_fault f.2)
    ]

map_faults : (inside : Option (List ℕ → Reading Item)) (depth left n : ℕ) (rest : List ℕ) (d : Flaw) → InsideFaults inside depth → left ≡ length (front_of Major.Map n ++ rest) → n < 2 ^ 64 → IsBytes rest → map_of inside left n rest ≡ Err d → IsFault depth (front_of Major.Map n ++ rest) d
map_faults None depth left n rest d none here below fits e = own_as depth _ (Cause.TooDeep, left) d (err_is (Cause.TooDeep, left) d e) here (none, (n, rest, below, inr refl))
map_faults (Some r) depth left n rest d given here below fits e =
    elim (bind_err (fields_at r None n rest) (λ fs. Ok (Item.map (fields_of fs.0), fs.1)) d e) [
      | inl f ↦
          let part = fields_fault r (depth - 1) given.1 None n rest d fits f in
          let last : last_or None part.read ≡ last_key part.read = last_of_all part.read in
          let read : front_of Major.Map n ++ rest ≡ front_of Major.Map n ++ (fields_encoding (fields_of part.read) ++ part.after) = ap (λ (l : List ℕ). front_of Major.Map n ++ l) part.taken.parts in
          elim part.fails [
            | inl g ↦
                let key = key_faults (last_key part.read) part.after d part.taken.rest_fits (ap (λ (k : Option (List ℕ)). key_at k part.after) (sym last) ∙ g) in
                let all : depth - 1 ≡ depth - 0 - 1 = omega arith in
                (part.after, key.0, inr ([], n, part.read, tt, given.0, part.fewer, below, subst (λ (k : ℕ). FieldsFit (fields_of part.read) None k) all part.fit, read, key.1))
            | inr g ↦
                let key = key_takes (last_key part.read) part.after g.0 part.taken.rest_fits (ap (λ (k : Option (List ℕ)). key_at k part.after) (sym last) ∙ g.1) in
                let fault = given.2 g.0.1 d key.0.rest_fits g.2 in
                let o : Open = in_map n part.read g.0.0 in
                let parts : front_of Major.Map n ++ rest ≡ open_encoding (in_map n part.read g.0.0) ++ g.0.1 =
                read
                ∙ ap (λ (l : List ℕ). front_of Major.Map n ++ (fields_encoding (fields_of part.read) ++ l)) key.0.parts
                ∙ ap (λ (l : List ℕ). front_of Major.Map n ++ l) (sym (append_assoc (fields_encoding (fields_of part.read)) (text_encoding g.0.0) g.0.1))
                ∙ sym (append_assoc (front_of Major.Map n) (fields_encoding (fields_of part.read) ++ text_encoding g.0.0) g.0.1) in
                subst (λ (l : List ℕ). IsFault depth l d) (sym parts) (deeper (in_map n part.read g.0.0) depth g.0.1 d given.0 (part.fewer, below, part.fit, key.1, key.2) fault)
          ]
      | inr f ↦ absurd (no_fault f.2)
    ]

body_faults : (inside : Option (List ℕ → Reading Item)) (depth left : ℕ) (head : Head) (rest : List ℕ) (d : Flaw) → InsideFaults inside depth → left ≡ length (head_encoding head ++ rest) → HeadFits head → IsBytes rest → body_of inside left head rest ≡ Err d → IsFault depth (head_encoding head ++ rest) d
unfolding body_of
body_faults inside depth left (Head.Int z) rest d given here holds fits e = absurd cc
body_faults inside depth left (Head.Bytes n) rest d given here holds fits e =
    elim (bind_err (string_at left n rest) (λ s. Ok (Item.bytes s.0, s.1)) d e) [
      | inl f ↦ let g = string_faults left n rest d f in own_as depth _ (Cause.Short, left) d g.0 here (inr (inl (n, rest, holds, refl, g.1)))
      | inr f ↦ absurd cc
    ]
body_faults inside depth left (Head.Text n) rest d given here holds fits e =
    elim (bind_err (text_at left n rest) (λ t. Ok (Item.text t.0, t.1)) d e) [
      | inl f ↦ elim (text_faults left n rest d holds fits f) [
        | inl g ↦ own_as depth _ (Cause.Short, left) d g.0 here (inr (inr (n, rest, holds, refl, g.1)))
        | inr g ↦ own_as depth _ (Cause.BadText, left) d g.0 here g.1
      ]
      | inr f ↦ absurd cc
    ]
body_faults inside depth left (Head.List n) rest d given here holds fits e = list_faults inside depth left n rest d given here holds fits e
body_faults inside depth left (Head.Map n) rest d given here holds fits e = map_faults inside depth left n rest d given here holds fits e
body_faults inside depth left (Head.Link link) rest d given here holds fits e = absurd cc
body_faults inside depth left (Head.Bool b) rest d given here holds fits e = absurd cc
body_faults inside depth left Head.Null rest d given here holds fits e = absurd cc

whole_faults : (depth : ℕ) → InsideFaults (inside depth) depth → Faults (item_at depth) depth
whole_faults depth given bytes d fits e =
    elim (bind_err (head_at bytes) (λ h. body_of (inside depth) (length bytes) h.0 h.1) d (sym (item_at_is depth bytes) ∙ e)) [
      | inl f ↦ let h = head_faults bytes d fits f in own depth bytes d h.0 (head_of_value depth bytes d.0 h.1)
      | inr f ↦
          let head = head_takes bytes f.0 fits f.1 in
          subst (λ (l : List ℕ). IsFault depth l d) (sym head.0.parts) (body_faults (inside depth) depth (length bytes) f.0.0 f.0.1 d given (ap length head.0.parts) head.1 head.0.rest_fits f.2)
    ]

pub item_faults : (depth : ℕ) → Faults (item_at depth) depth
item_faults zero = whole_faults zero refl
item_faults (suc depth) =
    let one_less : suc depth - 1 ≡ depth = omega arith in
    whole_faults (suc depth) (omega arith, subst (Sound (item_at depth)) (sym one_less) (item_takes depth), subst (Faults (item_at depth)) (sym one_less) (item_faults depth))
