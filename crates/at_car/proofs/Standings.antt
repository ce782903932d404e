-- Which bytes the progress stands for, step by step.
use Rattle.std.proofs.Common.{◌≡◌, ℕ, ◌+◌, ◌-◌, ◌<◌, ◌≤◌, Bool, true, false, List, [], ◌∷◌, ◌++◌, length, drop, Option, Some, None, Result, Ok, Err, refl, ap, sym, ◌∙◌, subst, arith, append_assoc, append-nil}
use Rattle.std.specs.Prelude.{IsSome, is_some, option_map}
use Rattle.std.specs.FinMap as map
use Rattle.std.specs.FinMap.{get-empty}
use Rattle.at_cid.specs.Link.{IsBytes}
use Rattle.at_cid.specs.Order.{key_cmp}
use Rattle.at_cid.specs.Memory.{Fails}
use Rattle.at_car.specs.declared.fault.CarFault.{CarFault}
use Rattle.at_car.specs.Blocks.{BlockMap, kept}
use Rattle.at_car.specs.Sections.{section_at}
use Rattle.at_car.proofs.Sections.{section_shorter}
use Rattle.at_car.specs.Car.{fault_of, car_of}
use Rattle.at_car.specs.Header.{header_at}
use Rattle.at_car.specs.Cuts.{is_cut}
use Rattle.at_car.specs.Sifting.{HoldsSifted, block_at, sift}
use Rattle.at_car.proofs.Sifts.{same_holds}
use Rattle.at_car.specs.Standing.{left_of, root_of, root_in, resumed, HasBegun, IsFresh, StandsAt, StandsFor, Took}
use Rattle.at_car.specs.declared.sifting.Sifted.{Sifted}
use Rattle.at_car.specs.declared.progress.Progress.{Progress}
use Rattle.at_car.specs.declared.progress.Taken.{Taken}
use Rattle.at_car.proofs.Resumes.{begins, no_header, header_missing, goes_on, stops, stops_cut, ends, header_left, section_left}

fresh_holds : (picks : List ℕ → Bool) (roots : List (List ℕ)) (sifted : Sifted) → sifted.first ≡ None → ((c : List ℕ) → map.find key_cmp c sifted.log ≡ None) → HoldsSifted picks (root_of roots) map.empty sifted
fresh_holds picks roots sifted first log = record {
  first_is = first ∙ go roots;
  log_is = λ c. log c ∙ sym (ap (option_map (sift picks)) (get-empty key_cmp c));
}
  where
    go : (roots : List (List ℕ)) → None ≡ block_at (root_of roots) map.empty
    go [] = refl
    go (r ∷ roots) = sym (get-empty key_cmp r)

fresh : (picks : List ℕ → Bool) (bytes : List ℕ) (p : Progress) → p.fault ≡ None → p.roots ≡ None → StandsFor picks p bytes → IsFresh bytes p
fresh picks bytes p f r h =
    let F : Option CarFault → Type 0 = λ x. StandsAt picks x p.roots p bytes in let R : Option (List (List ℕ)) → Type 0 = λ x. StandsAt picks None x p bytes in
    subst R r (subst F f h)

begun : (picks : List ℕ → Bool) (bytes : List ℕ) (p : Progress) (roots : List (List ℕ)) → p.fault ≡ None → p.roots ≡ Some roots → StandsFor picks p bytes → (blocks : BlockMap) × HasBegun picks bytes roots blocks p
begun picks bytes p roots f r h =
    let F : Option CarFault → Type 0 = λ x. StandsAt picks x p.roots p bytes in let R : Option (List (List ℕ)) → Type 0 = λ x. StandsAt picks None x p bytes in
    subst R r (subst F f h)

failed : (picks : List ℕ → Bool) (bytes : List ℕ) (p : Progress) (fault : CarFault) → p.fault ≡ Some fault → ((more : List ℕ) → car_of (bytes ++ more) ≡ Err fault) → StandsFor picks p bytes
failed picks bytes p fault f h = let F : Option CarFault → Type 0 = λ x. StandsAt picks x p.roots p bytes in subst F (sym f) h

stands : (picks : List ℕ → Bool) (bytes : List ℕ) (p : Progress) (roots : List (List ℕ)) (blocks : BlockMap) → p.fault ≡ None → p.roots ≡ Some roots → HasBegun picks bytes roots blocks p → StandsFor picks p bytes
stands picks bytes p roots blocks f r h =
    let F : Option CarFault → Type 0 = λ x. StandsAt picks x p.roots p bytes in let R : Option (List (List ℕ)) → Type 0 = λ x. StandsAt picks None x p bytes in
    subst F (sym f) (subst R (sym r) (blocks, h))

-- the header is read
pub front_read : (picks : List ℕ → Bool) (bytes : List ℕ) (old new : Progress) (roots : List (List ℕ)) (rest : List ℕ) (used : ℕ) → old.fault ≡ None → old.roots ≡ None → is_cut (left_of old) ≡ false → IsBytes (left_of old)
    → header_at (left_of old) ≡ Some (roots, rest) → used ≡ length (left_of old) - length rest → length rest ≤ length (left_of old)
    → new.fault ≡ None → new.roots ≡ Some roots → new.sifted ≡ old.sifted → new.place ≡ old.place + used → left_of new ≡ drop used (left_of old) → StandsFor picks old bytes → StandsFor picks new bytes
front_read picks bytes old new roots rest used f r cut fits e u short nf nr ns np nl h =
    let was = fresh picks bytes old f r h in
    let place : length (left_of old) - length rest ≡ new.place = omega (arith, np, u, was.place) in
    let left : rest ≡ left_of new = sym (nl ∙ ap (λ n. drop n (left_of old)) u ∙ header_left (left_of old) (roots, rest) fits e) in
    let H : Sifted → Type 0 = λ s. HoldsSifted picks (root_of roots) map.empty s in
    let holds : H old.sifted = fresh_holds picks roots old.sifted was.first was.log in
    stands picks bytes new roots map.empty nf nr (record {
      holds = subst H (sym ns) holds;
      resumes = λ more. ap (λ b. car_of (b ++ more)) (sym was.left) ∙ begins (left_of old) rest roots cut e short more
          ∙ ap (λ n. resumed roots map.empty n (rest ++ more)) place ∙ ap (λ l. resumed roots map.empty new.place (l ++ more)) left;
    })

-- no header is there
pub front_fails : (picks : List ℕ → Bool) (bytes : List ℕ) (old new : Progress) → old.fault ≡ None → old.roots ≡ None → is_cut (left_of old) ≡ false → header_at (left_of old) ≡ None → new.fault ≡ Some CarFault.Header → StandsFor picks old bytes → StandsFor picks new bytes
front_fails picks bytes old new f r cut e nf h =
    let was = fresh picks bytes old f r h in
    failed picks bytes new CarFault.Header nf (λ more. ap (λ b. car_of (b ++ more)) (sym was.left) ∙ no_header (left_of old) cut e more)

roots_there : (o : Option (List (List ℕ))) → IsSome o → (roots : List (List ℕ)) × (o ≡ Some roots)
roots_there None s = absurd (cc)
roots_there (Some roots) s = (roots, refl)

-- a section is read
pub section_read : (picks : List ℕ → Bool) (bytes : List ℕ) (old new : Progress) (root : Option (List ℕ)) (used : ℕ) → old.fault ≡ None → IsSome old.roots → root ≡ root_in old.roots
    → Took picks root old.place (left_of old) old.sifted new.sifted (Taken.Section used) → new.fault ≡ None → new.roots ≡ old.roots → new.place ≡ old.place + used → left_of new ≡ drop used (left_of old) → StandsFor picks old bytes → StandsFor picks new bytes
section_read picks bytes old new root used f s is took nf nr np nl h =
    let there = roots_there old.roots s in let roots = there.0 in
    let was = begun picks bytes old roots f there.1 h in
    let H : Option (List ℕ) → Type 0 = λ r. HoldsSifted picks r was.0 old.sifted in
    let at : root ≡ root_of roots = is ∙ ap root_in there.1 in
    let more_of = took.2 was.0 (subst H (sym at) was.1.holds) in
    let all = more_of.0 in
    let N : Option (List ℕ) → Type 0 = λ r. HoldsSifted picks r all new.sifted in
    stands picks bytes new roots all nf (nr ∙ there.1) (record {
      holds = subst N at more_of.1;
      resumes = λ more. was.1.resumes more ∙ more_of.2 roots more ∙ ap (λ n. resumed roots all n (drop used (left_of old) ++ more)) (sym np) ∙ ap (λ l. resumed roots all new.place (l ++ more)) (sym nl);
    })

pub section_next : (picks : List ℕ → Bool) (bytes : List ℕ) (old new : Progress) (root : Option (List ℕ)) (used : ℕ) (left : List ℕ) (mid : Sifted) (taken : Taken) → old.fault ≡ None → IsSome old.roots → root ≡ root_in old.roots
    → Took picks root old.place left old.sifted mid taken → taken ≡ Taken.Section used → left ≡ left_of old → new.sifted ≡ mid → new.fault ≡ None → new.roots ≡ old.roots → new.place ≡ old.place + used → left_of new ≡ drop used (left_of old) → StandsFor picks old bytes → StandsFor picks new bytes
section_next picks bytes old new root used left mid taken f s is took taken_is left_is mid_is nf nr np nl h =
    let T : Taken → Type 0 = λ t. Took picks root old.place left old.sifted mid t in
    let L : List ℕ → Type 0 = λ l. Took picks root old.place l old.sifted mid (Taken.Section used) in
    let M : Sifted → Type 0 = λ m. Took picks root old.place (left_of old) old.sifted m (Taken.Section used) in
    section_read picks bytes old new root used f s is (subst M (sym mid_is) (subst L left_is (subst T taken_is took))) nf nr np nl h

-- a section is faulty
pub section_fails : (picks : List ℕ → Bool) (bytes : List ℕ) (old new : Progress) (root : Option (List ℕ)) (after : Sifted) (fault : CarFault) → old.fault ≡ None → IsSome old.roots → Took picks root old.place (left_of old) old.sifted after (Taken.Fault fault) → new.fault ≡ Some fault → StandsFor picks old bytes → StandsFor picks new bytes
section_fails picks bytes old new root after fault f s took nf h =
    let there = roots_there old.roots s in
    let was = begun picks bytes old there.0 f there.1 h in
    failed picks bytes new fault nf (λ more. was.1.resumes more ∙ took there.0 was.0 more)

-- a piece more is held
pub piece_held : (picks : List ℕ → Bool) (bytes piece : List ℕ) (old new : Progress) → new.fault ≡ old.fault → new.roots ≡ old.roots → new.sifted ≡ old.sifted → new.place ≡ old.place → left_of new ≡ left_of old ++ piece → StandsFor picks old bytes → StandsFor picks new (bytes ++ piece)
piece_held picks bytes piece old new nf nr ns np nl h =
    let F : Option CarFault → Type 0 = λ x. StandsAt picks x new.roots new (bytes ++ piece) in let R : Option (List (List ℕ)) → Type 0 = λ x. StandsAt picks old.fault x new (bytes ++ piece) in
    subst F (sym nf) (subst R (sym nr) (go old.fault old.roots h))
  where
    go : (f : Option CarFault) (r : Option (List (List ℕ))) → StandsAt picks f r old bytes → StandsAt picks f r new (bytes ++ piece)
    go (Some fault) r h = λ more. ap car_of (append_assoc bytes piece more) ∙ h (piece ++ more)
    go None None h = record { left = nl ∙ ap (λ l. l ++ piece) h.left; place = np ∙ h.place; first = ap (λ (s : Sifted). s.first) ns ∙ h.first; log = λ c. ap (λ (s : Sifted). map.find key_cmp c s.log) ns ∙ h.log c }
    go None (Some roots) h =
        let H : Sifted → Type 0 = λ s. HoldsSifted picks (root_of roots) h.0 s in (
          h.0,
          record {
            holds = subst H (sym ns) h.1.holds;
            resumes = λ more. ap car_of (append_assoc bytes piece more) ∙ h.1.resumes (piece ++ more) ∙ ap (resumed roots h.0 old.place) (sym (append_assoc (left_of old) piece more))
                ∙ ap (λ l. resumed roots h.0 old.place (l ++ more)) (sym nl) ∙ ap (λ n. resumed roots h.0 n (left_of new ++ more)) (sym np);
          },
        )

-- the same bytes are left
pub same_stands : (picks : List ℕ → Bool) (bytes : List ℕ) (old new : Progress) → new.fault ≡ old.fault → new.roots ≡ old.roots → new.sifted ≡ old.sifted → new.place ≡ old.place → left_of new ≡ left_of old → StandsFor picks old bytes → StandsFor picks new bytes
same_stands picks bytes old new nf nr ns np nl h = subst (StandsFor picks new) (append-nil bytes) (piece_held picks bytes [] old new nf nr ns np (nl ∙ sym (append-nil (left_of old))) h)

-- the same is told of each link
pub tidied : (picks : List ℕ → Bool) (bytes : List ℕ) (old new : Progress) → new.fault ≡ old.fault → new.roots ≡ old.roots → new.sifted.first ≡ old.sifted.first → ((c : List ℕ) → map.find key_cmp c new.sifted.log ≡ map.find key_cmp c old.sifted.log)
    → new.place ≡ old.place → left_of new ≡ left_of old → StandsFor picks old bytes → StandsFor picks new bytes
tidied picks bytes old new nf nr ns nl np nb h =
    let F : Option CarFault → Type 0 = λ x. StandsAt picks x new.roots new bytes in let R : Option (List (List ℕ)) → Type 0 = λ x. StandsAt picks old.fault x new bytes in
    subst F (sym nf) (subst R (sym nr) (go old.fault old.roots h))
  where
    go : (f : Option CarFault) (r : Option (List (List ℕ))) → StandsAt picks f r old bytes → StandsAt picks f r new bytes
    go (Some fault) r h = h
    go None None h = record { left = nb ∙ h.left; place = np ∙ h.place; first = ns ∙ h.first; log = λ c. nl c ∙ h.log c }
    go None (Some roots) h = (
      h.0,
      record {
        holds = same_holds picks (root_of roots) h.0 old.sifted new.sifted ns nl h.1.holds;
        resumes = λ more. h.1.resumes more ∙ ap (λ l. resumed roots h.0 old.place (l ++ more)) (sym nb) ∙ ap (λ n. resumed roots h.0 n (left_of new ++ more)) (sym np);
      },
    )

-- behind a fault no piece changes the answer
pub piece_passed : (picks : List ℕ → Bool) (bytes piece : List ℕ) (p : Progress) → is_some p.fault ≡ true → StandsFor picks p bytes → StandsFor picks p (bytes ++ piece)
piece_passed picks bytes piece p e h = go p.fault e h
  where
    go : (f : Option CarFault) → is_some f ≡ true → StandsAt picks f p.roots p bytes → StandsAt picks f p.roots p (bytes ++ piece)
    go None e h = absurd (cc)
    go (Some fault) e h = λ more. ap car_of (append_assoc bytes piece more) ∙ h (piece ++ more)

-- the end
fails_as : {A : Type 0} (fault : CarFault) (answer : Result A CarFault) → answer ≡ Err fault → Fails (fault_of fault) answer
fails_as CarFault.Header answer e = e
fails_as (CarFault.Section p) answer e = e
fails_as (CarFault.CidForm p) answer e = e
fails_as (CarFault.WrongDigest p) answer e = e
fails_as CarFault.Memory answer e = tt

pub end_fault : (picks : List ℕ → Bool) (bytes : List ℕ) (p : Progress) (fault : CarFault) → p.fault ≡ Some fault → StandsFor picks p bytes → Fails (fault_of fault) (car_of bytes)
end_fault picks bytes p fault f h =
    let F : Option CarFault → Type 0 = λ x. StandsAt picks x p.roots p bytes in
    let all = subst F f h in
    fails_as fault (car_of bytes) (ap car_of (sym (append-nil bytes)) ∙ all [])

pub end_header : (picks : List ℕ → Bool) (bytes : List ℕ) (p : Progress) → p.fault ≡ None → p.roots ≡ None → is_cut (left_of p) ≡ true → StandsFor picks p bytes → car_of bytes ≡ Err CarFault.Header
end_header picks bytes p f r cut h = let was = fresh picks bytes p f r h in ap car_of (sym was.left) ∙ header_missing (left_of p) cut

read_out : (picks : List ℕ → Bool) (bytes : List ℕ) (p : Progress) (roots : List (List ℕ)) (blocks : BlockMap) → HasBegun picks bytes roots blocks p → car_of bytes ≡ resumed roots blocks p.place (left_of p)
read_out picks bytes p roots blocks h = ap car_of (sym (append-nil bytes)) ∙ h.resumes [] ∙ ap (resumed roots blocks p.place) (append-nil (left_of p))

pub end_cut : (picks : List ℕ → Bool) (bytes : List ℕ) (p : Progress) (roots : List (List ℕ)) → p.fault ≡ None → p.roots ≡ Some roots → is_cut (left_of p) ≡ true → 1 ≤ length (left_of p) → StandsFor picks p bytes → car_of bytes ≡ Err (CarFault.Section p.place)
end_cut picks bytes p roots f r cut some h = let was = begun picks bytes p roots f r h in read_out picks bytes p roots was.0 was.1 ∙ stops_cut p.place (left_of p) roots was.0 cut some

pub end_whole : (picks : List ℕ → Bool) (bytes : List ℕ) (p : Progress) (roots : List (List ℕ)) → p.fault ≡ None → p.roots ≡ Some roots → length (left_of p) ≡ 0 → StandsFor picks p bytes
    → (blocks : BlockMap) × (car_of bytes ≡ Ok (roots, blocks)) × HoldsSifted picks (root_of roots) blocks p.sifted
end_whole picks bytes p roots f r none h = let was = begun picks bytes p roots f r h in (was.0, read_out picks bytes p roots was.0 was.1 ∙ ends p.place (left_of p) roots was.0 none, was.1.holds)

-- a section is faulty
pub section_stopped : (place : ℕ) (left : List ℕ) (fault f : CarFault) → is_cut left ≡ false → f ≡ fault → fault_of fault ≡ Some fault → Fails (fault_of fault) (section_at place left)
    → (roots : List (List ℕ)) (blocks : BlockMap) (more : List ℕ) → resumed roots blocks place (left ++ more) ≡ Err f
section_stopped place left fault f cut same known e roots blocks more =
    let F : Option CarFault → Type 0 = λ o. Fails o (section_at place left) in
    stops place left fault roots blocks cut (subst F known e) more ∙ ap (λ x. Err x) (sym same)

-- a section was taken
pub section_took : (picks : List ℕ → Bool) (root : Option (List ℕ)) (place : ℕ) (left link block rest : List ℕ) (old new : Sifted) → is_cut left ≡ false → IsBytes left → section_at place left ≡ Ok ((link, block), rest)
    → ((blocks : BlockMap) → HoldsSifted picks root blocks old → HoldsSifted picks root (kept blocks link block) new) → Took picks root place left old new (Taken.Section (length left - length rest))
section_took picks root place left link block rest old new cut fits e sifts =
    let shorter : length rest < length left = section_shorter place left ((link, block), rest) e in (
      omega (arith, shorter),
      omega arith,
      λ blocks h. (
        kept blocks link block,
        sifts blocks h,
        λ roots more.
            goes_on place left rest link block roots blocks cut e more
            ∙ ap (λ l. resumed roots (kept blocks link block) (place + (length left - length rest)) (l ++ more)) (sym (section_left place left ((link, block), rest) fits e)),
      ),
    )
