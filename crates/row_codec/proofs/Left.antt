-- The rows of a body, read one after the other.
use Rattle.std.proofs.Common.{◌≡◌, ℕ, ◌-◌, ◌≤◌, ◌<◌, ◌⊎◌, inl, inr, true, List, [], ◌∷◌, ◌++◌, length, Some, None, refl, sym, ap, ◌∙◌, subst, arith, append_assoc, length-append}
use Rattle.std.specs.Prelude.{Err}
use Rattle.std.specs.List.{list_all}
use Rattle.std.proofs.lemmas.Bool.{and_parts, and_from}
use Rattle.std.proofs.lemmas.List.{append-nil}
use Rattle.std.proofs.lemmas.List.Folds.{list_all-append}
use Rattle.at_cid.specs.Link.{IsBytes}
use Rattle.at_cbor.specs.declared.major.Major.{Major}
use Rattle.at_cbor.specs.Encoding.{front_of}
use Rattle.row_codec.specs.declared.fault.RowFault.{RowFault}
use Rattle.relay_row.specs.declared.row.Row.{Row}
use Rattle.row_codec.specs.Bodies.{row_encoding, encoded_rows, rows_body, IsBody}
use Rattle.row_codec.specs.Left.{RowsLeft, AreBehindFront, AreInFront, AreLeft, BeginsBody, TakesNext}
use Rattle.row_codec.specs.Readers.{Reads, count_at}
use Rattle.row_codec.specs.Reading.{row_at}
use Rattle.relay_row.specs.Rules.{is_row}
use Rattle.row_codec.proofs.Steps.{pair_parts}
use Rattle.row_codec.proofs.Counts.{count_sound, count_again}
use Rattle.row_codec.proofs.FoundRows.{row_sound}
use Rattle.row_codec.proofs.AgainRows.{row_again}
use Rattle.row_codec.proofs.Bodies.{encoded_joined}

-- ---- the front of a body

front_found : (rows : List Row) (body : List ℕ) → IsBody rows body → count_at body ≡ Some (length rows, encoded_rows rows)
unfolding rows_body
front_found rows body is = rw is.made (count_again (length rows) (encoded_rows rows) (omega (arith, is.few)))

pub front_taken : (body rest : List ℕ) (n : ℕ) → IsBytes body → count_at body ≡ Some (n, rest) → 1 ≤ n → n ≤ 64 → AreBehindFront body (record { count = n; bytes = rest })
front_taken body rest n ok e some few = record { some = some; few = few; made = (count_sound body n rest ok e).parts }

pub no_front : (body : List ℕ) (view : ℕ → ℕ × List ℕ) (e : RowFault) → Reads view (Err e) (count_at body) → BeginsBody (Err e) body
no_front body view RowFault.BadRow none = λ rows is. let there = front_found rows body is in absurd cc
no_front body view RowFault.Memory none = tt

pub no_count : (body rest : List ℕ) (n : ℕ) → count_at body ≡ Some (n, rest) → (n ≡ 0) ⊎ ((n ≡ 0 → ⊥) × 64 < n) → (rows : List Row) → IsBody rows body → ⊥
no_count body rest n e out rows is =
    let same = (pair_parts n (length rows) rest (encoded_rows rows) (sym e ∙ front_found rows body is)).0 in
    elim out [ inl none ↦ omega (arith, none, same, is.some) | inr many ↦ omega (arith, many.1, same, is.few) ]

-- ---- the next row

module _ (was : RowsLeft) (bytes : List ℕ) (count : ℕ) (is : ◌≡◌ {A = RowsLeft} (record { count = count; bytes = bytes }) was) (some : count ≡ 0 → ⊥) where
  pub row_taken : (row : Row) (rest : List ℕ) → IsBytes bytes → row_at bytes ≡ Some (row, rest) → AreInFront (row ∷ []) was (record { count = count - 1; bytes = rest })
  row_taken row rest ok e =
      let taken = row_sound bytes row rest ok e in
      subst (λ (before : RowsLeft). AreInFront (row ∷ []) before (record { count = count - 1; bytes = rest })) is (record {
        formed = and_from (is_row row) true taken.1 refl;
        count = omega (arith, some);
        bytes = taken.0.parts ∙ ap (λ (t : List ℕ). t ++ rest) (sym (append-nil (row_encoding row)));
      })

  no_rows : row_at bytes ≡ None → (rows : List Row) → AreLeft rows was → ⊥
  no_rows none [] are = some (ap (λ (left : RowsLeft). left.count) is ∙ are.count)
  no_rows none (row ∷ rows) are =
      let there = row_again row (encoded_rows rows) (and_parts (is_row row) (list_all is_row rows) are.formed).0 in
      let same : row_at bytes ≡ row_at (row_encoding row ++ encoded_rows rows) = ap row_at (ap (λ (left : RowsLeft). left.bytes) is ∙ are.bytes) in
      absurd cc

  pub no_row : (now : RowsLeft) (view : Row → Row × List ℕ) (e : RowFault) → now ≡ was → Reads view (Err e) (row_at bytes) → TakesNext (Err e) was now
  no_row now view RowFault.BadRow kept none = (no_rows none, kept)
  no_row now view RowFault.Memory kept none = kept

-- ---- rows that were read, and those that are left

pub none_read : (left : RowsLeft) → AreInFront [] left left
none_read left = record { formed = refl; count = omega arith; bytes = refl }

-- more rows were read
pub more_read : (done more : List Row) (was mid now : RowsLeft) → AreInFront done was mid → AreInFront more mid now → AreInFront (done ++ more) was now
more_read done more was mid now first then_more = record {
  formed = list_all-append is_row done more ∙ and_from (list_all is_row done) (list_all is_row more) first.formed then_more.formed;
  count = omega (arith, first.count, then_more.count, length-append done more);
  bytes = first.bytes ∙ ap (λ (t : List ℕ). encoded_rows done ++ t) then_more.bytes ∙ sym (append_assoc (encoded_rows done) (encoded_rows more) now.bytes) ∙ ap (λ (t : List ℕ). t ++ now.bytes) (sym (encoded_joined done more));
}

-- all were read
pub all_read : (done : List Row) (was now : RowsLeft) → AreInFront done was now → AreLeft [] now → AreLeft done was
all_read done was now read none = record {
  formed = read.formed;
  count = omega (arith, read.count, none.count);
  bytes = read.bytes ∙ ap (λ (t : List ℕ). encoded_rows done ++ t) none.bytes ∙ append-nil (encoded_rows done);
}

one_first : (row first : Row) (bytes rest : List ℕ) → is_row row ≡ true → is_row first ≡ true → row_encoding row ++ bytes ≡ row_encoding first ++ rest → (row ≡ first) × (bytes ≡ rest)
one_first row first bytes rest formed formed_first e = pair_parts row first bytes rest (sym (row_again row bytes formed) ∙ ap row_at e ∙ row_again first rest formed_first)

-- Rows whose encoding begins with that of fewer rows begin with these.
begin_alike : (done rows : List Row) (bytes : List ℕ) → list_all is_row done ≡ true → list_all is_row rows ≡ true → length done ≤ length rows → encoded_rows done ++ bytes ≡ encoded_rows rows
    → (rest : List Row) × (rows ≡ done ++ rest) × (encoded_rows rest ≡ bytes)
begin_alike [] rows bytes formed all few e = (rows, refl, sym e)
begin_alike (row ∷ done) [] bytes formed all few e = absurd (omega (arith, few))
begin_alike (row ∷ done) (first ∷ rows) bytes formed all few e =
    let here = and_parts (is_row row) (list_all is_row done) formed in
    let there = and_parts (is_row first) (list_all is_row rows) all in
    let same = one_first row first (encoded_rows done ++ bytes) (encoded_rows rows) here.0 there.0 (sym (append_assoc (row_encoding row) (encoded_rows done) bytes) ∙ e) in
    let others = begin_alike done rows bytes here.1 there.1 (omega (arith, few)) same.1 in
    (others.0, ap (λ (l : List Row). first ∷ l) others.1 ∙ ap (λ (r : Row). r ∷ (done ++ others.0)) (sym same.0), others.2)

-- behind the rows that were read the others are left
pub others_left : (done rows : List Row) (was now : RowsLeft) → AreInFront done was now → AreLeft rows was → (rest : List Row) × (rows ≡ done ++ rest) × AreLeft rest now
others_left done rows was now read are =
    let h = begin_alike done rows now.bytes read.formed are.formed (omega (arith, read.count, are.count)) (sym read.bytes ∙ are.bytes) in
    let rest = h.0 in
    let formed : list_all is_row (done ++ rest) ≡ true = ap (list_all is_row) (sym h.1) ∙ are.formed in (
      rest,
      h.1,
      record {
        formed = (and_parts (list_all is_row done) (list_all is_row rest) (sym (list_all-append is_row done rest) ∙ formed)).1;
        count = omega (arith, read.count, are.count, ap length h.1, length-append done rest);
        bytes = sym h.2;
      },
    )

-- ---- the rows of a body are those that are left behind its front

pub left_of_body : (rows : List Row) (body : List ℕ) (left : RowsLeft) → AreBehindFront body left → IsBody rows body → AreLeft rows left
left_of_body rows body left behind is =
    let front : count_at body ≡ Some (left.count, left.bytes) = ap count_at behind.made ∙ count_again left.count left.bytes (omega (arith, behind.few)) in
    let same = pair_parts left.count (length rows) left.bytes (encoded_rows rows) (sym front ∙ front_found rows body is) in
    record { formed = is.formed; count = same.0; bytes = same.1 }

pub body_of_left : (rows : List Row) (body : List ℕ) (left : RowsLeft) → AreBehindFront body left → AreLeft rows left → IsBody rows body
unfolding rows_body
body_of_left rows body left behind are = record {
  some = omega (arith, behind.some, are.count);
  few = omega (arith, behind.few, are.count);
  formed = are.formed;
  made = behind.made ∙ ap (λ (n : ℕ). front_of Major.List n ++ left.bytes) are.count ∙ ap (λ (t : List ℕ). front_of Major.List (length rows) ++ t) are.bytes;
}
