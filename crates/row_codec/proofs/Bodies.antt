-- A body and its rows.
use Rattle.std.proofs.Common.{◌≡◌, ℕ, List, [], ◌∷◌, ◌++◌, Option, Some, None, refl, sym, ap, ◌∙◌, append_assoc}
use Rattle.std.specs.Prelude.{Result, Ok, Err}
use Rattle.at_cid.specs.Link.{IsBytes}
use Rattle.row_codec.specs.declared.fault.RowFault.{RowFault}
use Rattle.relay_row.specs.declared.row.Row.{Row}
use Rattle.row_codec.specs.Answers.{ReadsBody}
use Rattle.row_codec.specs.Bodies.{row_encoding, encoded_rows, IsBody}
use Rattle.row_codec.specs.Readers.{Reads}
use Rattle.row_codec.specs.Reading.{rows_in}
use Rattle.row_codec.proofs.Steps.{some_is}
use Rattle.row_codec.proofs.FoundRows.{body_sound}
use Rattle.row_codec.proofs.AgainRows.{body_again}

none_some : {A : Type 0} (o : Option A) (x : A) → o ≡ None → o ≡ Some x → ⊥
none_some o x e h = absurd cc

pub reads_body : (body : List ℕ) (r : Result (List Row) RowFault) → IsBytes body → Reads (λ rows. rows) r (rows_in body) → ReadsBody r body
reads_body body (Ok rows) ok e = body_sound body rows ok e
reads_body body (Err RowFault.BadRow) ok e = λ rows is. none_some (rows_in body) rows e (body_again rows body is)
reads_body body (Err RowFault.Memory) ok e = tt

pub same_rows : (xs ys : List Row) (body : List ℕ) → IsBody xs body → IsBody ys body → xs ≡ ys
same_rows xs ys body p q = some_is xs ys (sym (body_again xs body p) ∙ body_again ys body q)

pub encoded_joined : (xs ys : List Row) → encoded_rows (xs ++ ys) ≡ encoded_rows xs ++ encoded_rows ys
encoded_joined [] ys = refl
encoded_joined (row ∷ xs) ys = ap (λ (t : List ℕ). row_encoding row ++ t) (encoded_joined xs ys) ∙ sym (append_assoc (row_encoding row) (encoded_rows xs) (encoded_rows ys))
