-- Reading rows one after the other, as a loop does.
use Rattle.std.proofs.Common.{◌≡◌, ℕ, suc, ◌-◌, ◌+◌, ◌≤◌, ◌<◌, List, [], ◌∷◌, ◌++◌, Option, Some, None, refl, sym, ap, ◌∙◌, append_assoc, arith}
use Rattle.std.proofs.lemmas.List.{append-nil}
use Rattle.std.specs.Prelude.{Err}
use Rattle.row_codec.specs.declared.fault.RowFault.{RowFault}
use Rattle.relay_row.specs.declared.row.Row.{Row}
use Rattle.row_codec.specs.Readers.{Reads, behind}
use Rattle.row_codec.specs.Reading.{row_at, rows_at}

-- these rows, and then those
abbrev pub with_front : List Row → Option (List Row × List ℕ) → Option (List Row × List ℕ)
with_front front found = behind found (λ rows rest. Some (front ++ rows, rest))

regroup : (front : List Row) (row : Row) (found : Option (List Row × List ℕ)) → with_front front (behind found (λ rows rest. Some (row ∷ rows, rest))) ≡ with_front (front ++ row ∷ []) found
regroup front row (Some x) = ap (λ (rows : List Row). Some (rows, x.1)) (sym (append_assoc front (row ∷ []) x.0))
regroup front row None = refl

module _ (front : List Row) (count i : ℕ) (bytes : List ℕ) (total : Option (List Row × List ℕ)) (so_far : with_front front (rows_at (count - i) bytes) ≡ total) where
  pub one_row : (row : Row) (rows : List Row) (after : List ℕ) → i < count → row_at bytes ≡ Some (row, after) → rows ≡ front ++ row ∷ [] → with_front rows (rows_at (count - (i + 1)) after) ≡ total
  unfolding rows_at
  one_row row rows after lt read is =
      let k : count - i ≡ suc (count - (i + 1)) = omega arith in
      let one : with_front front (rows_at (count - i) bytes) ≡ with_front (front ++ row ∷ []) (rows_at (count - (i + 1)) after) = rw (k, read) (regroup front row (rows_at (count - (i + 1)) after)) in
      rw is (sym one ∙ so_far)

  pub no_row : (seen : Row → Row × List ℕ) (view : List Row → List Row × List ℕ) (e : RowFault) → i < count → Reads seen (Err e) (row_at bytes) → Reads view (Err e) total
  unfolding rows_at
  no_row seen view RowFault.BadRow lt none =
      let k : count - i ≡ suc (count - (i + 1)) = omega arith in
      let one : with_front front (rows_at (count - i) bytes) ≡ None = rw (k, none) refl in
      sym so_far ∙ one
  no_row seen view RowFault.Memory lt none = tt

  pub all_rows : count ≤ i → total ≡ Some (front, bytes)
  unfolding rows_at
  all_rows le =
      let k : count - i ≡ 0 = omega arith in
      let one : with_front front (rows_at (count - i) bytes) ≡ Some (front, bytes) = rw k (ap (λ (rows : List Row). Some (rows, bytes)) (append-nil front)) in
      sym so_far ∙ one
