-- Bytes with a fault of CARs are read as that fault.
use Rattle.std.proofs.Common.{◌≡◌, ℕ, zero, suc, ◌-◌, ◌≤◌, List, [], ◌∷◌, ◌++◌, length, true, false, cond, ltb, take, drop, Option, Some, None, Result, Ok, Err, refl, ap, sym, subst, ◌∙◌, arith, append_assoc}
use Rattle.std.specs.Prelude.{◌≢◌, ◌||◌}
use Rattle.std.specs.Str.{bytes_eq}
use Rattle.std.proofs.lemmas.List.{length-append, length-take, take-append-drop, take-append-le}
use Rattle.std.proofs.lemmas.Bool.Decides.{nat_tests}
use Rattle.std.proofs.lemmas.Slice.Eq.{bytes_eq-Decides}
use Rattle.std.specs.FinMap.{from_entries}
use Rattle.sha2.specs.Sha256.{sha256}
use Rattle.at_cid.specs.Link.{IsBytes, is_link, link_at, digest_of}
use Rattle.at_car.specs.declared.fault.CarFault.{CarFault}
use Rattle.at_car.specs.Varint.{varint_at}
use Rattle.at_car.specs.Header.{header_at}
use Rattle.at_car.specs.Sections.{◌>>=◌, Section, block_under, section_in, measured_section, section_at, sections_at, sections_in}
use Rattle.at_car.specs.Car.{behind, car_of}
use Rattle.at_car.specs.Form.{header_bytes, section_bytes, sections_bytes, AreSections}
use Rattle.at_car.specs.Faults.{HasNoHeader, IsMeasured, Breaks, IsFirstFaulty}
use Rattle.at_car.specs.Blocks.{BlockMap}
use Rattle.at_car.proofs.Steps.{not_err, bind_err}
use Rattle.at_car.proofs.Varints.{varint_again, varint_takes}
use Rattle.at_car.proofs.Sections.{go_on}
use Rattle.at_car.proofs.Again.{header_again, section_again}
use Rattle.at_car.proofs.Faults.{car_fault}
use Rattle.at_car.proofs.Takes.{header_takes}
use Rattle.fault_law.specs.Laws.{IsFaultOf}
use Rattle.fault_law.proofs.Ends.{ends_in_bytes}

-- ---- one section

-- no varint of enough begins it, with so many bytes behind it
unmeasured : (place : ℕ) (bytes : List ℕ) (o : Option (ℕ × List ℕ)) → IsBytes bytes → varint_at bytes ≡ o → ((n : ℕ) (body : List ℕ) → IsMeasured bytes n body → ⊥) → measured_section place o ≡ Err (CarFault.Section place)
unmeasured place bytes None fits e none = refl
unmeasured place bytes (Some x) fits e none =
    let v = varint_takes bytes x fits e in
    elim (ltb x.0 36 || ltb (length x.1) x.0) as (λ t. (ltb x.0 36 || ltb (length x.1) x.0) ≡ t → cond {A = Result (Section × List ℕ) CarFault} t (Err (CarFault.Section place)) (section_in place (take x.0 x.1) >>= λ s. Ok (s, drop x.0 x.1)) ≡ Err (CarFault.Section place)) [
      | true ↦ λ t. refl
      | false ↦ λ t.
          let least : 36 ≤ x.0 = grind (arith, nat_tests, t) in
          let within : x.0 ≤ length x.1 = grind (arith, nat_tests, t) in
          absurd (none x.0 x.1 (record { encoded = v.0; short = v.1; least = least; within = within }))
    ] refl

module _ (place : ℕ) (bytes : List ℕ) (n : ℕ) (body : List ℕ) (m : IsMeasured bytes n body) where
  front : take 36 (take n body) ≡ take 36 body
  front =
      let len : length (take n body) ≡ n = omega (arith, length-take n body, m.within) in
      sym (take-append-le 36 (take n body) (drop n body) (omega (arith, len, m.least))) ∙ ap (λ (t : List ℕ). take 36 t) (take-append-drop n body)

  -- a section that is measured fails as what is in it
  fails_as : (fault : CarFault) → section_in place (take n body) ≡ Err fault → section_at place bytes ≡ Err fault
  unfolding section_at
  fails_as fault e =
      let room : (ltb n 36 || ltb (length body) n) ≡ false = grind (arith, nat_tests, m.least, m.within) in
      ap (measured_section place) (ap varint_at m.encoded ∙ varint_again n body m.short)
      ∙ ap (λ t. cond t (Err (CarFault.Section place)) (section_in place (take n body) >>= λ s. Ok (s, drop n body))) room
      ∙ ap (λ r. r >>= λ s. Ok (s, drop n body)) e

  no_link_fails : is_link (take 36 body) ≡ false → section_in place (take n body) ≡ Err (CarFault.CidForm place)
  unfolding section_in
  no_link_fails no_link =
      ap (block_under place (drop 36 (take n body))) (ap (λ l. cond (is_link l) (Some l) None) front ∙ ap (λ t. cond t (Some (take 36 body)) None) no_link)

  other_digest_fails : is_link (take 36 body) ≡ true → digest_of (take 36 body) ≢ sha256 (drop 36 (take n body)) → section_in place (take n body) ≡ Err (CarFault.WrongDigest place)
  unfolding section_in
  other_digest_fails link other =
      let differ : bytes_eq (digest_of (take 36 body)) (sha256 (drop 36 (take n body))) ≡ false = unequal (digest_of (take 36 body)) (sha256 (drop 36 (take n body))) other in
      ap (block_under place (drop 36 (take n body))) (ap (λ l. cond (is_link l) (Some l) None) front ∙ ap (λ t. cond t (Some (take 36 body)) None) link)
      ∙ ap (λ t. cond {A = Result Section CarFault} t (Ok (take 36 body, drop 36 (take n body))) (Err (CarFault.WrongDigest place))) differ
    where
      unequal : (xs ys : List ℕ) → xs ≢ ys → bytes_eq xs ys ≡ false
      unequal xs ys h = elim (bytes_eq xs ys) as (λ t. bytes_eq xs ys ≡ t → t ≡ false) [ true ↦ λ t. absurd (h ((bytes_eq-Decides xs ys).0 t)) | false ↦ λ t. refl ] refl

-- a section is read as the fault whose rule it breaks
section_fails : (place : ℕ) (bytes : List ℕ) (fault : CarFault) → IsBytes bytes → Breaks fault place bytes → section_at place bytes ≡ Err fault
unfolding section_at
section_fails place bytes CarFault.Header fits h = absurd h
section_fails place bytes (CarFault.Section p) fits h = unmeasured place bytes (varint_at bytes) fits refl h.1 ∙ ap (λ (k : ℕ). Err (CarFault.Section k)) (sym h.0)
section_fails place bytes (CarFault.CidForm p) fits h =
    let s = h.1 in
    fails_as place bytes s.n s.body s.measured (CarFault.CidForm place) (no_link_fails place bytes s.n s.body s.measured s.no_link) ∙ ap (λ (k : ℕ). Err (CarFault.CidForm k)) (sym h.0)
section_fails place bytes (CarFault.WrongDigest p) fits h =
    let s = h.1 in
    fails_as place bytes s.n s.body s.measured (CarFault.WrongDigest place) (other_digest_fails place bytes s.n s.body s.measured s.link s.other) ∙ ap (λ (k : ℕ). Err (CarFault.WrongDigest k)) (sym h.0)
section_fails place bytes CarFault.Memory fits h = absurd h

-- ---- all sections

first_stops : (size : ℕ) (bytes : List ℕ) (fault : CarFault) → 1 ≤ length bytes → section_at (size - length bytes) bytes ≡ Err fault → sections_in size bytes ≡ Err fault
unfolding sections_at
first_stops size [] fault some e = absurd (omega (arith, some))
first_stops size (b ∷ bs) fault some e = ap (λ r. r >>= λ first. sections_at (length bs) size first.1 >>= λ others. Ok (first.0 ∷ others)) e

-- whole sections are passed over
sections_fail : (size : ℕ) (ss : List Section) (rest : List ℕ) (fault : CarFault) → AreSections ss → 1 ≤ length rest → section_at (size - length rest) rest ≡ Err fault → sections_in size (sections_bytes ss ++ rest) ≡ Err fault
sections_fail size [] rest fault form some e = first_stops size rest fault some e
sections_fail size (s ∷ ss) rest fault form some e =
    let after : List ℕ = sections_bytes ss ++ rest in
    let bytes : List ℕ = section_bytes s ++ (sections_bytes ss ++ rest) in
    let some_more : 1 ≤ length (section_bytes s ++ (sections_bytes ss ++ rest)) = omega (arith, some, length-append (section_bytes s) (sections_bytes ss ++ rest), length-append (sections_bytes ss) rest) in
    ap (sections_in size) (append_assoc (section_bytes s) (sections_bytes ss) rest)
    ∙ go_on size bytes (s, after) some_more (section_again (size - length bytes) s form.0 after)
    ∙ ap (λ r. r >>= λ others. Ok (s ∷ others)) (sections_fail size ss rest fault form.1 some e)

-- ---- a whole CAR

behind_fails : (size : ℕ) (named : List (List ℕ)) (ss : List Section) (rest : List ℕ) (fault : CarFault) → AreSections ss → 1 ≤ length rest → section_at (size - length rest) rest ≡ Err fault → behind size (Some (named, sections_bytes ss ++ rest)) ≡ Err fault
behind_fails size named ss rest fault form some e = ap (λ r. (r >>= λ sections. Ok (from_entries sections)) >>= λ blocks. Ok (named, blocks)) (sections_fail size ss rest fault form some e)

first_fails : (bytes : List ℕ) (fault : CarFault) → IsBytes bytes → IsFirstFaulty fault bytes → car_of bytes ≡ Err fault
unfolding car_of
first_fails bytes fault fits f =
    let front : List ℕ = header_bytes f.header ++ sections_bytes f.sections in
    let parts : bytes ≡ (header_bytes f.header ++ sections_bytes f.sections) ++ f.rest = f.encoded ∙ sym (append_assoc (header_bytes f.header) (sections_bytes f.sections) f.rest) in
    let place : length bytes - length f.rest ≡ length (header_bytes f.header ++ sections_bytes f.sections) = omega (arith, ap (λ (l : List ℕ). length l) parts, length-append (header_bytes f.header ++ sections_bytes f.sections) f.rest) in
    let fails : section_at (length bytes - length f.rest) f.rest ≡ Err fault =
    section_fails (length bytes - length f.rest) f.rest fault (ends_in_bytes bytes front f.rest fits parts) (subst (λ (p : ℕ). Breaks fault p f.rest) (sym place) f.breaks) in
    ap (behind (length bytes)) (ap header_at f.encoded ∙ header_again f.header f.named f.header_form (sections_bytes f.sections ++ f.rest))
    ∙ behind_fails (length bytes) f.named f.sections f.rest fault f.sections_form f.some fails

no_header_fails : (bytes : List ℕ) → IsBytes bytes → HasNoHeader bytes → car_of bytes ≡ Err CarFault.Header
unfolding car_of
no_header_fails bytes fits none =
    elim (header_at bytes) as (λ o. header_at bytes ≡ o → behind (length bytes) o ≡ Err CarFault.Header) [
      | None ↦ λ e. refl
      | Some x ↦ λ e. let t = header_takes bytes x fits e in absurd (none t.header x.0 x.1 t.form t.encoded)
    ] refl

pub car_fails : (bytes : List ℕ) (fault : CarFault) → IsBytes bytes → IsFaultOf fault bytes → car_of bytes ≡ Err fault
car_fails bytes CarFault.Header fits (other, f) = no_header_fails bytes fits f
car_fails bytes (CarFault.Section p) fits (other, f) = first_fails bytes (CarFault.Section p) fits f
car_fails bytes (CarFault.CidForm p) fits (other, f) = first_fails bytes (CarFault.CidForm p) fits f
car_fails bytes (CarFault.WrongDigest p) fits (other, f) = first_fails bytes (CarFault.WrongDigest p) fits f
car_fails bytes CarFault.Memory fits (other, f) = absurd (other refl)

-- ---- no bytes are read as running out of memory

abbrev IsOutOfMemory : {A : Type 0} → Result A CarFault → Type 0
IsOutOfMemory r = r ≡ Err CarFault.Memory

under_not_memory : (place : ℕ) (block : List ℕ) (found : Option (List ℕ)) → IsOutOfMemory (block_under place block found) → ⊥
under_not_memory place block None e = absurd cc
under_not_memory place block (Some link) e =
    elim (bytes_eq (digest_of link) (sha256 block)) as (λ t. IsOutOfMemory (cond {A = Result Section CarFault} t (Ok (link, block)) (Err (CarFault.WrongDigest place))) → ⊥) [ true ↦ λ h. absurd cc | false ↦ λ h. absurd cc ] e

measured_not_memory : (place : ℕ) (found : Option (ℕ × List ℕ)) → IsOutOfMemory (measured_section place found) → ⊥
unfolding section_in
measured_not_memory place None e = absurd cc
measured_not_memory place (Some n) e =
    elim (ltb n.0 36 || ltb (length n.1) n.0) as (λ t. IsOutOfMemory (cond {A = Result (Section × List ℕ) CarFault} t (Err (CarFault.Section place)) (section_in place (take n.0 n.1) >>= λ s. Ok (s, drop n.0 n.1))) → ⊥) [
      | true ↦ λ h. absurd cc
      | false ↦ λ h. bind_err {B = Section × List ℕ} ⊥ (section_in place (take n.0 n.1)) (λ s. Ok (s, drop n.0 n.1)) CarFault.Memory h
          (λ i. under_not_memory place (drop 36 (take n.0 n.1)) (link_at (take n.0 n.1)) i)
          (λ s _ i. not_err {A = Section × List ℕ} (s, drop n.0 n.1) CarFault.Memory i)
    ] e

sections_not_memory : (most size : ℕ) (bytes : List ℕ) → IsOutOfMemory (sections_at most size bytes) → ⊥
unfolding sections_at section_at
sections_not_memory most size [] e = absurd cc
sections_not_memory zero size (b ∷ bs) e = absurd cc
sections_not_memory (suc most) size (b ∷ bs) e =
    bind_err ⊥ (section_at (size - length (b ∷ bs)) (b ∷ bs)) (λ x. sections_at most size x.1 >>= λ others. Ok (x.0 ∷ others)) CarFault.Memory e
    (λ i. measured_not_memory (size - length (b ∷ bs)) (varint_at (b ∷ bs)) i)
    (λ x _ i. bind_err ⊥ (sections_at most size x.1) (λ others. Ok (x.0 ∷ others)) CarFault.Memory i
    (λ j. sections_not_memory most size x.1 j)
    (λ others _ j. not_err {A = List Section} (x.0 ∷ others) CarFault.Memory j))

behind_not_memory : (size : ℕ) (found : Option (List (List ℕ) × List ℕ)) → IsOutOfMemory (behind size found) → ⊥
behind_not_memory size None e = absurd cc
behind_not_memory size (Some x) e =
    bind_err ⊥ (sections_in size x.1 >>= λ sections. Ok (from_entries sections)) (λ blocks. Ok (x.0, blocks)) CarFault.Memory e
    (λ i. bind_err ⊥ (sections_in size x.1) (λ sections. Ok (from_entries sections)) CarFault.Memory i
    (λ j. sections_not_memory (length x.1) size x.1 j)
    (λ s _ j. not_err {A = BlockMap} (from_entries s) CarFault.Memory j))
    (λ s _ i. not_err {A = List (List ℕ) × BlockMap} (x.0, s) CarFault.Memory i)

not_memory : (bytes : List ℕ) → IsOutOfMemory (car_of bytes) → ⊥
unfolding car_of
not_memory bytes e = behind_not_memory (length bytes) (header_at bytes) e

pub fault_is_of : (bytes : List ℕ) (fault : CarFault) → IsBytes bytes → car_of bytes ≡ Err fault → IsFaultOf fault bytes
fault_is_of bytes fault fits e = (λ want. not_memory bytes (e ∙ ap (λ (f : CarFault). Err f) want), car_fault bytes fault fits e)
