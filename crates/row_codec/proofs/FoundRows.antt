-- What is read of rows stands in front of the bytes, encoded.
use Rattle.std.proofs.Common.{◌≡◌, ℕ, zero, suc, inl, inr, true, ◌&&◌, List, [], ◌∷◌, ◌++◌, length, Option, Some, None, refl, sym, ap, ◌∙◌, subst, arith, leb, eqb}
use Rattle.std.specs.List.{list_all}
use Rattle.std.proofs.lemmas.List.{append-nil}
use Rattle.std.proofs.lemmas.Bool.{leb-true, eqb-true, and_parts, and_from}
use Rattle.at_cid.specs.Link.{IsBytes}
use Rattle.at_cbor.specs.declared.major.Major.{Major}
use Rattle.at_cbor.specs.Item.{Item}
use Rattle.at_cbor.specs.Encoding.{front_of, encoding}
use Rattle.at_cbor.proofs.Steps.{Takes}
use Rattle.at_event.specs.Writing.{number_item as number}
use Rattle.relay_row.specs.declared.taken.Taken.{Taken}
use Rattle.relay_row.specs.declared.operated.Operated.{Operated}
use Rattle.relay_row.specs.declared.carried.CarriedAccount.{CarriedAccount}
use Rattle.relay_row.specs.declared.carried.Carried.{Carried}
use Rattle.relay_row.specs.declared.row.Row.{Row}
use Rattle.row_codec.specs.Items.{list, carried_items, row_items}
use Rattle.row_codec.specs.Bodies.{row_encoding, encoded_rows, rows_body, IsBody}
use Rattle.relay_row.specs.Rules.{is_row}
use Rattle.row_codec.specs.Readers.{give}
use Rattle.row_codec.specs.Reading.{taken_at, synced_at, operated_at, account_at, host_at, carried_of, carried_at, row_of, row_items_at, well_formed, row_at, rows_at, all_of, rows_in}
use Rattle.row_codec.proofs.Steps.{step, along, along_with, none_taken, behind_some}
use Rattle.row_codec.proofs.Atoms.{number_sound, byte_sound, text_sound, bytes_sound, bool_sound, null_or_text_sound}
use Rattle.row_codec.proofs.Counts.{count_sound, chosen_at, passed_at}
use Rattle.row_codec.proofs.Found.{encode, and, last, finish, list_taken, detail_sound, effect_sound, fetched_sound, repo_sound, whole_sound, moment_sound}

-- the items behind the first, and how many there are with it
abbrev pub behind_first : List Item → List ℕ
behind_first [] = []
behind_first (i ∷ is) = encode is

abbrev pub RestTaken : ℕ → List ℕ → List Item → List ℕ → Type 0
RestTaken count bytes is rest = Takes bytes (behind_first is) rest × (count ≡ length is)

-- this number is the first of a row's items
abbrev pub FirstIs : ℕ → Row → Type 0
FirstIs which row = encoding (number which) ++ behind_first (row_items row) ≡ encode (row_items row)

taken_sound : (count : ℕ) (bytes : List ℕ) (t : Taken) (rest : List ℕ) → IsBytes bytes → taken_at count bytes ≡ Some (t, rest) → RestTaken count bytes (row_items (Row.Taken t)) rest
unfolding taken_at
taken_sound count bytes t rest ok e =
    along text_sound _ bytes (t, rest) ok e (λ host b1 t1 e1.
    along number_sound _ b1 (t, rest) t1.rest_fits e1 (λ host_seq b2 t2 e2.
    along text_sound _ b2 (t, rest) t2.rest_fits e2 (λ did b3 t3 e3.
    along byte_sound _ b3 (t, rest) t3.rest_fits e3 (λ kind b4 t4 e4.
    along byte_sound _ b4 (t, rest) t4.rest_fits e4 (λ which b5 t5 e5.
    along_with (detail_sound which) _ b5 (t, rest) t5.rest_fits e5 (λ refusal b6 t6 is e6.
    along number_sound _ b6 (t, rest) t6.rest_fits e6 (λ seq b7 t7 e7.
    along bytes_sound _ b7 (t, rest) t7.rest_fits e7 (λ message b8 t8 e8.
    along effect_sound _ b8 (t, rest) t8.rest_fits e8 (λ effect b9 t9 e9.
    along fetched_sound _ b9 (t, rest) t9.rest_fits e9 (λ fetched b10 t10 e10.
    along_with (moment_sound 11 count) _ b10 (t, rest) t10.rest_fits e10 (λ moment b11 t11 many e11.
    finish (λ x left. RestTaken count bytes (row_items (Row.Taken x)) left) _ b11 t rest e11 (
      and t1 (and t2 (and t3 (and t4 (and (subst (λ (n : ℕ). Takes b4 (encoding (number n)) b5) is t5) (and t6 (and t7 (and t8 (and t9 (and t10 t11))))))))),
      omega (arith, many),
    ))))))))))))

synced_sound : (count : ℕ) (bytes : List ℕ) (row : Row) (rest : List ℕ) → IsBytes bytes → synced_at count bytes ≡ Some (row, rest) → RestTaken count bytes (row_items row) rest × FirstIs 2 row
unfolding synced_at
synced_sound count bytes row rest ok e =
    along text_sound _ bytes (row, rest) ok e (λ did b1 t1 e1.
    along whole_sound _ b1 (row, rest) t1.rest_fits e1 (λ whole b2 t2 e2.
    along_with (moment_sound 3 count) _ b2 (row, rest) t2.rest_fits e2 (λ moment b3 t3 many e3.
    finish (λ x left. RestTaken count bytes (row_items x) left × FirstIs 2 x) _ b3 row rest e3 ((and t1 (and t2 t3), omega (arith, many)), refl))))

operated_sound : (count : ℕ) (bytes : List ℕ) (t : Operated) (rest : List ℕ) → IsBytes bytes → operated_at count bytes ≡ Some (t, rest) → RestTaken count bytes (row_items (Row.Operated t)) rest
unfolding operated_at
operated_sound count bytes t rest ok e =
    along text_sound _ bytes (t, rest) ok e (λ did b1 t1 e1.
    along bool_sound _ b1 (t, rest) t1.rest_fits e1 (λ down b2 t2 e2.
    along number_sound _ b2 (t, rest) t2.rest_fits e2 (λ seq b3 t3 e3.
    along bytes_sound _ b3 (t, rest) t3.rest_fits e3 (λ message b4 t4 e4.
    along_with (moment_sound 5 count) _ b4 (t, rest) t4.rest_fits e4 (λ moment b5 t5 many e5.
    finish (λ x left. RestTaken count bytes (row_items (Row.Operated x)) left) _ b5 t rest e5 (and t1 (and t2 (and t3 (and t4 t5))), omega (arith, many)))))))

-- behind the two numbers of a carried row
abbrev behind_second : List Item → List ℕ
behind_second [] = []
behind_second (i ∷ is) = behind_first is

account_sound : (bytes : List ℕ) (a : CarriedAccount) (rest : List ℕ) → IsBytes bytes → account_at bytes ≡ Some (a, rest) → Takes bytes (behind_second (carried_items (Carried.Account a))) rest
unfolding account_at
account_sound bytes a rest ok e =
    along text_sound _ bytes (a, rest) ok e (λ did b1 t1 e1.
    along bool_sound _ b1 (a, rest) t1.rest_fits e1 (λ active b2 t2 e2.
    along null_or_text_sound _ b2 (a, rest) t2.rest_fits e2 (λ status b3 t3 e3.
    along bool_sound _ b3 (a, rest) t3.rest_fits e3 (λ down b4 t4 e4.
    along repo_sound _ b4 (a, rest) t4.rest_fits e4 (λ repo b5 t5 e5.
    finish (λ x left. Takes bytes (behind_second (carried_items (Carried.Account x))) left) _ b5 a rest e5 (and t1 (and t2 (and t3 (and t4 (last t5))))))))))

-- what was taken behind both numbers, the second of which this is
abbrev SecondTaken : ℕ → ℕ → List ℕ → Carried → List ℕ → Type 0
SecondTaken count which bytes c rest = Takes bytes (behind_second (carried_items c)) rest × (count ≡ length (carried_items c)) × (encoding (number which) ++ behind_second (carried_items c) ≡ behind_first (carried_items c))

host_sound : (bytes : List ℕ) (c : Carried) (rest : List ℕ) → IsBytes bytes → host_at bytes ≡ Some (c, rest) → SecondTaken 4 1 bytes c rest
unfolding host_at
host_sound bytes c rest ok e =
    let host = step text_sound bytes (c, rest) ok e in
    let cursor = step number_sound host.left (c, rest) host.takes.rest_fits host.next in
    finish (SecondTaken 4 1 bytes) _ _ c rest cursor.next (and host.takes (last cursor.takes), refl, refl)

renumbered : (count which n m : ℕ) (bytes : List ℕ) (c : Carried) (rest : List ℕ) → (eqb which m && eqb count n) ≡ true → SecondTaken n m bytes c rest → SecondTaken count which bytes c rest
renumbered count which n m bytes c rest h s =
    let both = and_parts (eqb which m) (eqb count n) h in
    rw (eqb-true which m both.0, eqb-true count n both.1) s

carried_of_sound : (count which : ℕ) (bytes : List ℕ) (c : Carried) (rest : List ℕ) → IsBytes bytes → carried_of count which bytes ≡ Some (c, rest) → SecondTaken count which bytes c rest
carried_of_sound count which bytes c rest ok e =
    elim (chosen_at (eqb which 0 && eqb count 3) _ _ bytes (c, rest) e) [
      | inl h ↦
          let p = step number_sound bytes (c, rest) ok h.1 in
          renumbered count which 3 0 bytes c rest h.0 (finish (SecondTaken 3 0 bytes) _ _ c rest p.next (last p.takes, refl, refl))
      | inr h ↦
          elim (chosen_at (eqb which 1 && eqb count 4) host_at _ bytes (c, rest) h.1) [
            | inl g ↦ renumbered count which 4 1 bytes c rest g.0 (host_sound bytes c rest ok g.1)
            | inr g ↦
                let k = passed_at (eqb which 2 && eqb count 7) _ bytes (c, rest) g.1 in
                let p = behind_some (account_at bytes) (λ a. give (Carried.Account a)) (c, rest) k.1 in
                renumbered count which 7 2 bytes c rest k.0 (finish (SecondTaken 7 2 bytes) _ _ c rest p.2 (account_sound bytes p.0.0 p.0.1 ok p.1, refl, refl))
          ]
    ]

carried_sound : (count : ℕ) (bytes : List ℕ) (c : Carried) (rest : List ℕ) → IsBytes bytes → carried_at count bytes ≡ Some (c, rest) → RestTaken count bytes (carried_items c) rest
unfolding carried_at
carried_sound count bytes c rest ok e =
    let p = step byte_sound bytes (c, rest) ok e in
    let s = carried_of_sound count p.found p.left c rest p.takes.rest_fits p.next in
    (subst (λ (t : List ℕ). Takes bytes t rest) s.2 (and p.takes s.0), s.1)

carried_first : (c : Carried) → encoding (number 4) ++ behind_first (carried_items c) ≡ encode (carried_items c)
carried_first (Carried.Last seq) = refl
carried_first (Carried.Host host cursor) = refl
carried_first (Carried.Account a) = refl

-- the row's items were taken
abbrev ItemsTaken : ℕ → ℕ → List ℕ → Row → List ℕ → Type 0
ItemsTaken count which bytes row rest = RestTaken count bytes (row_items row) rest × FirstIs which row

renamed : (count which m : ℕ) (bytes : List ℕ) (row : Row) (rest : List ℕ) → eqb which m ≡ true → ItemsTaken count m bytes row rest → ItemsTaken count which bytes row rest
renamed count which m bytes row rest h s = rw (eqb-true which m h) s

row_of_sound : (count which : ℕ) (bytes : List ℕ) (row : Row) (rest : List ℕ) → IsBytes bytes → row_of count which bytes ≡ Some (row, rest) → ItemsTaken count which bytes row rest
row_of_sound count which bytes row rest ok e =
    elim (chosen_at (eqb which 1) _ _ bytes (row, rest) e) [
      | inl h ↦
          let p = behind_some (taken_at count bytes) (λ t. give (Row.Taken t)) (row, rest) h.1 in
          renamed count which 1 bytes row rest h.0 (finish (ItemsTaken count 1 bytes) _ _ row rest p.2 (taken_sound count bytes p.0.0 p.0.1 ok p.1, refl))
      | inr h ↦
          elim (chosen_at (eqb which 2) (synced_at count) _ bytes (row, rest) h.1) [
            | inl g ↦ renamed count which 2 bytes row rest g.0 (synced_sound count bytes row rest ok g.1)
            | inr g ↦
                elim (chosen_at (eqb which 3) _ _ bytes (row, rest) g.1) [
                  | inl k ↦
                      let p = behind_some (operated_at count bytes) (λ t. give (Row.Operated t)) (row, rest) k.1 in
                      renamed count which 3 bytes row rest k.0 (finish (ItemsTaken count 3 bytes) _ _ row rest p.2 (operated_sound count bytes p.0.0 p.0.1 ok p.1, refl))
                  | inr k ↦
                      let l = passed_at (eqb which 4) _ bytes (row, rest) k.1 in
                      let p = behind_some (carried_at count bytes) (λ t. give (Row.Carried t)) (row, rest) l.1 in
                      renamed count which 4 bytes row rest l.0 (finish (ItemsTaken count 4 bytes) _ _ row rest p.2 (carried_sound count bytes p.0.0 p.0.1 ok p.1, carried_first p.0.0))
                ]
          ]
    ]

pub row_sound : (bytes : List ℕ) (row : Row) (rest : List ℕ) → IsBytes bytes → row_at bytes ≡ Some (row, rest) → Takes bytes (row_encoding row) rest × (is_row row ≡ true)
unfolding row_at row_items_at row_encoding
row_sound bytes row rest ok e =
    let count = step count_sound bytes (row, rest) ok e in
    let items = behind_some (row_items_at count.found count.left) well_formed (row, rest) count.next in
    let which = step byte_sound count.left items.0 count.takes.rest_fits items.1 in
    let taken = row_of_sound count.found which.found which.left items.0.0 items.0.1 which.takes.rest_fits which.next in
    let whole : Takes count.left (encode (row_items items.0.0)) items.0.1 = subst (λ (t : List ℕ). Takes count.left t items.0.1) taken.1 (and which.takes taken.0.0) in
    let right = passed_at (is_row items.0.0) (give items.0.0) items.0.1 (row, rest) items.2 in
    finish (λ x left. Takes bytes (encoding (list (row_items x))) left × (is_row x ≡ true)) items.0.0 items.0.1 row rest right.1
    (list_taken bytes count.found count.left (row_items items.0.0) items.0.1 count.takes taken.0.1 whole, right.0)

pub record RowsTaken (n : ℕ) (bytes : List ℕ) (rows : List Row) (rest : List ℕ) : Type 0 where
  pub takes : Takes bytes (encoded_rows rows) rest
  pub count : length rows ≡ n
  pub formed : list_all is_row rows ≡ true

pub rows_sound : (n : ℕ) (bytes : List ℕ) (rows : List Row) (rest : List ℕ) → IsBytes bytes → rows_at n bytes ≡ Some (rows, rest) → RowsTaken n bytes rows rest
unfolding rows_at
rows_sound zero bytes rows rest ok e = finish (RowsTaken 0 bytes) [] bytes rows rest e (record { takes = none_taken bytes ok; count = refl; formed = refl })
rows_sound (suc n) bytes rows rest ok e =
    let p = behind_some (row_at bytes) _ (rows, rest) e in
    let first = row_sound bytes p.0.0 p.0.1 ok p.1 in
    let q = behind_some (rows_at n p.0.1) _ (rows, rest) p.2 in
    let others = rows_sound n p.0.1 q.0.0 q.0.1 first.0.rest_fits q.1 in
    finish (RowsTaken (suc n) bytes) (p.0.0 ∷ q.0.0) q.0.1 rows rest q.2 (record {
      takes = and first.0 others.takes;
      count = ap suc others.count;
      formed = and_from (is_row p.0.0) (list_all is_row q.0.0) first.1 others.formed;
    })

all_is : (o : Option (List Row × List ℕ)) (rows : List Row) → all_of o ≡ Some rows → o ≡ Some (rows, [])
all_is (Some (rows, [])) other e = cc
all_is (Some (rows, b ∷ bytes)) other e = absurd cc
all_is None other e = absurd cc

pub body_sound : (body : List ℕ) (rows : List Row) → IsBytes body → rows_in body ≡ Some rows → IsBody rows body
unfolding rows_in rows_body
body_sound body rows ok e =
    let whole = all_is _ rows e in
    let count = step count_sound body (rows, []) ok whole in
    let right = passed_at (leb 1 count.found && leb count.found 64) (rows_at count.found) count.left (rows, []) count.next in
    let bounds = and_parts (leb 1 count.found) (leb count.found 64) right.0 in
    let taken = rows_sound count.found count.left rows [] count.takes.rest_fits right.1 in
    record {
      some = omega (arith, leb-true 1 count.found bounds.0, taken.count);
      few = omega (arith, leb-true count.found 64 bounds.1, taken.count);
      formed = taken.formed;
      made = (and count.takes taken.takes).parts ∙ append-nil _ ∙ ap (λ (n : ℕ). front_of Major.List n ++ encoded_rows rows) (sym taken.count);
    }
