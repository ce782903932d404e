-- In a CAR that was read, whatever it was read of, each block stands under a link that ends with its digest.
use Rattle.std.proofs.Common.{◌≡◌, ℕ, zero, suc, ◌-◌, List, [], ◌∷◌, length, cond, Option, Some, None, Less, Equal, Greater, Ok, refl, sym, ◌∙◌, subst}
use Rattle.std.specs.Ordering.{is_eq}
use Rattle.std.specs.FinMap.{get, empty, insert, get-empty, get-insert, from_entries}
use Rattle.at_cid.specs.Order.{key_cmp}
use Rattle.at_cid.specs.OrderLaws.{key_total}
use Rattle.at_cid.proofs.Order.{cmp_exact}
use Rattle.at_car.specs.Blocks.{BlockMap, HasDigestOf}
use Rattle.at_car.specs.Car.{behind, car_of}
use Rattle.at_car.specs.Header.{header_at}
use Rattle.at_car.specs.Sections.{◌>>=◌, Section, section_at, sections_at, sections_in}
use Rattle.at_car.proofs.Steps.{ok_is, bind_ok}
use Rattle.at_car.proofs.Takes.{section_digest}

abbrev pub HaveDigests : BlockMap → Type 0
HaveDigests m = (link block : List ℕ) → get m link ≡ Some block → HasDigestOf link block

none_digested : HaveDigests empty
none_digested link block e = let none : get (empty {X = List ℕ} {R = key_cmp}) link ≡ None = get-empty key_cmp link in absurd (cc)

insert_digested : (m : BlockMap) (k v : List ℕ) → HaveDigests m → HasDigestOf k v → HaveDigests (insert m k v)
insert_digested m k v h here link block e =
    elim (key_cmp link k) as (λ o. key_cmp link k ≡ o → cond (is_eq o) (Some v) (get m link) ≡ Some block → HasDigestOf link block) [
      | Less ↦ λ o f. h link block f
      | Equal ↦ λ o f.
          let same : v ≡ block = cc in
          let P : List ℕ → Type 0 = λ l. HasDigestOf l block in
          let Q : List ℕ → Type 0 = λ b. HasDigestOf k b in
          subst P (sym (cmp_exact link k o)) (subst Q same here)
      | Greater ↦ λ o f. h link block f
    ] refl (sym (get-insert key_total m k v link) ∙ e)

sections_digested : (most size : ℕ) (bytes : List ℕ) (ss : List Section) → sections_at most size bytes ≡ Ok ss → HaveDigests (from_entries ss)
unfolding sections_at
sections_digested most size [] ss e = subst (λ (l : List Section). HaveDigests (from_entries l)) (ok_is [] ss e) none_digested
sections_digested zero size (b ∷ bs) ss e = subst (λ (l : List Section). HaveDigests (from_entries l)) (ok_is [] ss e) none_digested
sections_digested (suc most) size (b ∷ bs) ss e =
    let place = size - length (b ∷ bs) in
    let first = bind_ok (section_at place (b ∷ bs)) (λ x. sections_at most size x.1 >>= λ others. Ok (x.0 ∷ others)) ss e in
    let x = first.0 in
    let second = bind_ok (sections_at most size x.1) (λ others. Ok (x.0 ∷ others)) ss first.2 in
    let others = sections_digested most size x.1 second.0 second.1 in
    subst (λ (l : List Section). HaveDigests (from_entries l)) (ok_is (x.0 ∷ second.0) ss second.2)
    (insert_digested (from_entries second.0) x.0.0 x.0.1 others (section_digest place (b ∷ bs) x first.1))

behind_digested : (size : ℕ) (o : Option (List (List ℕ) × List ℕ)) (car : List (List ℕ) × BlockMap) → behind size o ≡ Ok car → HaveDigests car.1
behind_digested size None car e = absurd cc
behind_digested size (Some x) car e =
    let b = bind_ok (sections_in size x.1 >>= λ sections. Ok (from_entries sections)) (λ blocks. Ok (x.0, blocks)) car e in
    let s = bind_ok (sections_in size x.1) (λ sections. Ok (from_entries sections)) b.0 b.1 in
    let P : BlockMap → Type 0 = λ m. HaveDigests m in
    let Q : List (List ℕ) × BlockMap → Type 0 = λ c. HaveDigests c.1 in
    subst Q (ok_is (x.0, b.0) car b.2) (subst P (ok_is (from_entries s.0) b.0 s.2) (sections_digested (length x.1) size x.1 s.0 s.1))

pub car_digests : (bytes : List ℕ) (car : List (List ℕ) × BlockMap) → car_of bytes ≡ Ok car → HaveDigests car.1
unfolding car_of
car_digests bytes car e = behind_digested (length bytes) (header_at bytes) car e
