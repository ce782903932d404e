-- Whatever has a size and bytes that the disk model's own words allow is what calls may leave by parts.
use Rattle.std.proofs.Common.{◌≡◌, inl, inr, ⊎_elim, ℕ, ◌+◌, ◌-◌, ◌≤◌, ◌<◌, min, max, List, [], ◌∷◌, ◌++◌, length, take, drop, get_or, refl, sym, ◌∙◌, ap, subst, arith, length-take, length-drop, length-append, append_assoc}
use Rattle.std.proofs.lemmas.List.{get_or-take, get_or-drop, get_or_append_left, get_or-append_right, ext_get_or, length-take-le, drop-drop, take_at}
use Rattle.std.proofs.lemmas.Bool.{cases_lt}
use Rattle.relay_disk.specs.Disk.{Torn, Cut, written}
use Rattle.relay_disk.specs.Works.{Work, wrote, cut_to, synced, Moment, opened, next, after}
use Rattle.relay_disk.specs.Ranges.{IsInRange, IsUnsynced, AreInside, IsWithin, least, greatest}
use Rattle.relay_disk.proofs.Works.{torn_whole, cut_whole}
use Rattle.relay_disk.proofs.Moments.{untorn, uncut}
use Rattle.relay_disk.proofs.RangeLaws.{length-written, torn_same}

-- the bytes of c in a range
abbrev piece : ℕ → ℕ → List ℕ → List ℕ
piece place n c = take n (drop place c)

length-piece : (place n : ℕ) (c : List ℕ) → length (piece place n c) ≡ min n (length c - place)
length-piece place n c = omega (arith, length-take n (drop place c), length-drop place c)

-- the old bytes with those of c in a range
abbrev patched : ℕ → ℕ → List ℕ → List ℕ → List ℕ
patched place n c old = written place (piece place n c) old

-- they are the same wherever nothing later is written
abbrev IsLike : List ℕ → List ℕ → List Work → Type 0
IsLike c d works = (i : ℕ) → i < length c → i < length d → (IsInRange i works → ⊥) → get_or c i 0 ≡ get_or d i 0

module _ (place n : ℕ) (c old : List ℕ) (inside : place ≤ length old) (short : length old ≤ length c) where
  length-patched : length (patched place n c old) ≡ min (length c) (max (length old) (place + n))
  length-patched = omega (arith, length-written place (piece place n c) old inside, length-piece place n c)

  patched_torn : Torn place n old (patched place n c old)
  patched_torn =
      let k = length (piece place n c) in
      let part : Torn place k old (patched place n c old) = torn_whole place (piece place n c) old inside in
      let at : place + n ≡ place + k + (n - k) = omega (arith, length-piece place n c) in
      record {
        before = part.before;
        after = ap (λ (j : ℕ). drop j (patched place n c old)) at ∙ sym (drop-drop (n - k) (place + k) (patched place n c old))
            ∙ ap (λ (l : List ℕ). drop (n - k) l) part.after ∙ drop-drop (n - k) (place + k) old ∙ ap (λ (j : ℕ). drop j old) (sym at);
        no_shorter = part.no_shorter;
        no_longer = omega (arith, length-patched);
      }

  -- c where it is covered
  patched_in : (i : ℕ) → place ≤ i → i < place + n → i < length c → get_or (patched place n c old) i 0 ≡ get_or c i 0
  patched_in i from to within =
      let k = i - place in
      let at : place + k ≡ i = omega arith in
      let before : length (take place old) ≡ place = length-take-le place old inside in
      let behind = drop (place + length (piece place n c)) old in
      let one : get_or (patched place n c old) i 0 ≡ get_or (piece place n c ++ behind) k 0 =
      ap (λ (l : List ℕ). get_or l i 0) (append_assoc (take place old) (piece place n c) behind)
      ∙ get_or-append_right (take place old) (piece place n c ++ behind) place i 0 before from in
      let two = get_or_append_left (piece place n c) behind 0 k (omega (arith, length-piece place n c)) in
      let three = get_or-take n (drop place c) k 0 (omega arith) in
      let four = get_or-drop place c k 0 in
      one ∙ two ∙ three ∙ four ∙ ap (λ (j : ℕ). get_or c j 0) at

-- a write in which c comes to stand
patched_like : (place : ℕ) (bytes c old : List ℕ) (works : List Work) (inside : place ≤ length old) (short : length old ≤ length c)
    → IsLike c old (wrote place bytes ∷ works) → IsLike c (patched place (length bytes) c old) works
patched_like place bytes c old works inside short like = λ i within here out.
    let n = length bytes in
    let torn = patched_torn place n c old inside short in
    elim (cases_lt i place) [
      | inl front ↦
          let was = torn_same place n old (patched place n c old) torn i here (λ is. absurd (omega (arith, is.0))) in
          like i within was.0 (⊎_elim (λ is. absurd (omega (arith, is.0))) out) ∙ sym was.1
      | inr past ↦ elim (cases_lt i (place + n)) [
        | inl covered ↦ sym (patched_in place n c old inside short i past covered within)
        | inr back ↦
            let was = torn_same place n old (patched place n c old) torn i here (λ is. absurd (omega (arith, is.1))) in
            like i within was.0 (⊎_elim (λ is. absurd (omega (arith, is.1))) out) ∙ sym was.1
      ]
    ]

-- a write that begins past the end changes nothing
untouched_like : (place : ℕ) (bytes c old : List ℕ) (works : List Work) → length old < place → IsLike c old (wrote place bytes ∷ works) → IsLike c old works
untouched_like place bytes c old works past like = λ i within here out. like i within here (⊎_elim (λ is. absurd (omega (arith, is.0))) out)

-- an image of the right size
same_size : (c : List ℕ) (works : List Work) (m : Moment) (d : List ℕ) → IsUnsynced works → m.may_leave d → length d ≡ length c → IsLike c d works → (after m works).may_leave c
same_size c [] m d none left size like =
    let is : c ≡ d = ext_get_or 0 c d (sym size) (λ i within. like i within (omega arith) (λ no. no)) in
    subst m.may_leave (sym is) left
same_size c (wrote place bytes ∷ works) m d none left size like = elim (cases_lt (length d) place) [
  | inl past ↦ same_size c works (next m (wrote place bytes)) d none (inr (d, left, untorn place (length bytes) d)) size (untouched_like place bytes c d works past like)
  | inr inside ↦
      let short : length d ≤ length c = omega arith in
      same_size c works (next m (wrote place bytes)) (patched place (length bytes) c d) none (inr (d, left, patched_torn place (length bytes) c d inside short))
      (omega (arith, length-patched place (length bytes) c d inside short)) (patched_like place bytes c d works inside short like)
]
same_size c (cut_to to ∷ works) m d none left size like = same_size c works (next m (cut_to to)) d none (inr (d, left, uncut to d)) size like
same_size c (synced ∷ works) m d none left size like = absurd none

-- an image that grows with the writes until it has the right size
growing : (c : List ℕ) (works : List Work) (m : Moment) (d : List ℕ) (size : ℕ) → IsUnsynced works → AreInside size works → m.may_leave d → size ≤ length d → length d ≤ length c
    → length c ≤ greatest (length d) size works → IsLike c d works → (after m works).may_leave c
growing c [] m d size none inside left within short long like = same_size c [] m d none left (omega arith) like
growing c (wrote place bytes ∷ works) m d size none inside left within short long like =
    let n = length bytes in
    let here : place ≤ length d = omega (arith, inside.0) in
    let grown = patched place n c d in
    let length_is = length-patched place n c d here short in
    let left_so : (next m (wrote place bytes)).may_leave grown = inr (d, left, patched_torn place n c d here short) in
    let like_so = patched_like place bytes c d works here short like in
    elim (cases_lt (max (length d) (place + n)) (length c)) [
      | inl less ↦
          let size_is : max (length d) (place + n) ≡ length grown = omega (arith, length_is) in
          growing c works (next m (wrote place bytes)) grown (max size (place + n)) none inside.1 left_so (omega (arith, size_is)) (omega (arith, size_is))
          (subst (λ (k : ℕ). length c ≤ greatest k (max size (place + n)) works) size_is long) like_so
      | inr enough ↦ same_size c works (next m (wrote place bytes)) grown none left_so (omega (arith, length_is)) like_so
    ]
growing c (cut_to to ∷ works) m d size none inside left within short long like =
    growing c works (next m (cut_to to)) d (min to size) none inside (inr (d, left, uncut to d)) (omega arith) short long like
growing c (synced ∷ works) m d size none inside left within short long like = absurd none

-- the front of an image that is like another one
cut_like : (c e d : List ℕ) (works : List Work) → length d ≡ length e → c ≡ take (length c) e → IsLike e d works → IsLike c (take (length c) d) works
cut_like c e d works size front like = λ i within here out.
    let inside : i < length e = omega (arith, length-take (length c) d) in
    ap (λ (l : List ℕ). get_or l i 0) front ∙ get_or-take (length c) e i 0 within ∙ like i inside (omega arith) out ∙ sym (get_or-take (length c) d i 0 within)

cut_part : (to n : ℕ) (d : List ℕ) → to ≤ n → n ≤ length d → Cut to d (take n d)
cut_part to n d below within = record { no_shorter = omega (arith, length-take n d); front = (cut_whole n d).front }

-- an image that keeps its size until a cut can take off what is too much
shrinking : (c e : List ℕ) (works : List Work) (m : Moment) (d : List ℕ) (lo size : ℕ) → IsUnsynced works → m.may_leave d → length d ≡ length e → length c ≤ length e → c ≡ take (length c) e
    → length c < lo → length c < size → least lo size works ≤ length c → IsLike e d works → (after m works).may_leave c
shrinking c e [] m d lo size none left long short front above over low like = absurd (omega arith)
shrinking c e (wrote place bytes ∷ works) m d lo size none left long short front above over low like = elim (cases_lt (length d) place) [
  | inl past ↦ shrinking c e works (next m (wrote place bytes)) d lo (max size (place + length bytes)) none (inr (d, left, untorn place (length bytes) d)) long short front above (omega arith) low
      (untouched_like place bytes e d works past like)
  | inr inside ↦
      let fits : length d ≤ length e = omega arith in
      shrinking c e works (next m (wrote place bytes)) (patched place (length bytes) e d) lo (max size (place + length bytes)) none (inr (d, left, patched_torn place (length bytes) e d inside fits))
      (omega (arith, length-patched place (length bytes) e d inside fits)) short front above (omega arith) low (patched_like place bytes e d works inside fits like)
]
shrinking c e (cut_to to ∷ works) m d lo size none left long short front above over low like = elim (cases_lt (length c) (min to size)) [
  | inl still ↦ shrinking c e works (next m (cut_to to)) d (min lo (min to size)) (min to size) none (inr (d, left, uncut to d)) long short front (omega arith) still low like
  | inr now ↦
      same_size c works (next m (cut_to to)) (take (length c) d) none (inr (d, left, cut_part to (length c) d (omega arith) (omega arith)))
      (omega (arith, length-take (length c) d)) (cut_like c e d works long front like)
]
shrinking c e (synced ∷ works) m d lo size none left long short front above over low like = absurd none

-- since a sync: any bytes where something was written or past the size at it, and any size between
pub ranges_left : (content : List ℕ) (works : List Work) → IsUnsynced works → AreInside (length content) works → (image : List ℕ) → IsWithin content works image → (after (opened content) works).may_leave image
ranges_left content works none inside image within = elim (cases_lt (length image) (length content)) [
  | inl shorter ↦
      let behind = drop (length image) content in
      let filled = image ++ behind in
      let size : length content ≡ length filled = omega (arith, length-append image behind, length-drop (length image) content) in
      shrinking image filled works (opened content) content (length content) (length content) none refl size (omega arith) (sym (take_at image behind (length image) refl))
      shorter shorter within.no_shorter
      (λ i here there out. elim (cases_lt i (length image)) [
        | inl front ↦ get_or_append_left image behind 0 i front ∙ within.same i front there out
        | inr back ↦
            let at : length image + (i - length image) ≡ i = omega arith in
            get_or-append_right image behind (length image) i 0 refl back ∙ get_or-drop (length image) content (i - length image) 0 ∙ ap (λ (j : ℕ). get_or content j 0) at
      ])
  | inr longer ↦ growing image works (opened content) content (length content) none inside refl (omega arith) longer within.no_longer within.same
]

-- nothing was done since the sync
pub synced_left : (content : List ℕ) (works : List Work) → IsUnsynced works → (after (opened content) works).may_leave content
synced_left content works none = same_size content works (opened content) content none refl refl (λ i here there out. refl)
