-- Bodies that are read again, one after another.
use Rattle.std.proofs.Common.{◌≡◌, inl, inr, ⊎_elim, ◌⊎◌, ℕ, ◌+◌, ◌<◌, Bool, true, false, List, [], ◌∷◌, ◌++◌, length, drop, min, IsTrue, refl, sym, ◌∙◌, ap, subst, arith, append_assoc, length-append}
use Rattle.std.specs.List.{list_all}
use Rattle.std.proofs.lemmas.Bool.{cases_lt}
use Rattle.std.proofs.lemmas.List.{append-nil, drop_all}
use Rattle.relay_disk.specs.Disk.{View, Goes, Same}
use Rattle.gate_log.specs.Image.{made, records}
use Rattle.at_cid.specs.Lengths.{length_prefixed}
use Rattle.gate_log.specs.Log.{LogState, IsOn}
use Rattle.gate_log.specs.Log.{HoldsBodies as HasBodies}
use Rattle.gate_log.specs.declared.format.Format.{Format}
use Rattle.gate_log.specs.declared.limits.TheConstants.{BEFORE_BODY}
use Rattle.gate_log.proofs.Append.{made-push}
use Rattle.row_codec.specs.Bodies.{rows_body}
use Rattle.relay_row.specs.Journal.{IsJournal, keeps_order}
use Rattle.relay_row.specs.Rules.{is_row}
use Rattle.relay_row.specs.declared.row.Row.{Row}
use Rattle.relay_core.specs.Entries.{Holds}
use Rattle.relay_core.specs.declared.journal_state.Core.{Core}
use Rattle.relay_store.specs.Journals.{AllBodies, bytes_of, joined}
use Rattle.store_cut.specs.Rereading.{BreaksOrder, GrowsInOrder, IsOfSome}
use Rattle.store_cut.specs.Rewriting.{IsCopied}
use Rattle.store_cut.specs.declared.rewriting.Rewrite.{Rewrite}
use Rattle.store_cut.proofs.CutFronts.{joined_both}
use Rattle.relay_store.proofs.Folds.{bytes_push, joined_push}
use Rattle.store_cut.proofs.Ordering.{DoneInOrder, done_all, done_more, done_none, done_stops}
use Rattle.relay_store.proofs.Loaded.{length_made, some_records}
use Rattle.relay_store.proofs.Standing.{bytes_joined}

rest_cases : (rest : List (List Row)) → (rest ≡ []) ⊎ ((there : List Row) × (more : List (List Row)) × (rest ≡ there ∷ more))
rest_cases [] = inl refl
rest_cases (there ∷ more) = inr (there, more, refl)

-- Bodies that are read up to a place.
module _ (format : Format) (done rest : List (List Row)) (place : ℕ) (here : place ≡ length (made format (bytes_of done))) where
  upto_end : length (made format (bytes_of (done ++ rest))) ≡ place + length (records (bytes_of rest))
  upto_end = ap (λ (bs : List (List ℕ)). length (made format bs)) (bytes_joined done rest) ∙ length_made format (bytes_of done) (bytes_of rest) ∙ ap (λ (n : ℕ). n + length (records (bytes_of rest))) (sym here)

  pub more_there : (end : ℕ) → end ≡ length (made format (bytes_of (done ++ rest))) → place < end → (there : List Row) × (more : List (List Row)) × (rest ≡ there ∷ more)
  more_there end is less = ⊎_elim (λ none. absurd (omega (arith, is, less, upto_end, ap (λ (bs : List (List Row)). length (records (bytes_of bs))) none))) (λ some. some) (rest_cases rest)

  pub none_there : (end : ℕ) → end ≡ length (made format (bytes_of (done ++ rest))) → (place < end → ⊥) → rest ≡ []
  none_there end is reached = ⊎_elim (λ none. none)
      (λ some. absurd (reached (omega (arith, is, upto_end, ap (λ (bs : List (List Row)). length (records (bytes_of bs))) some.2, some_records (rows_body some.0) (bytes_of some.1)))))
      (rest_cases rest)

  pub next_there : (there : List Row) (next : ℕ) → next ≡ place + BEFORE_BODY + length (rows_body there) → next ≡ length (made format (bytes_of (done ++ there ∷ [])))
  next_there there next is =
      omega (arith, is, here, ap (λ (bs : List (List ℕ)). length (made format bs)) (bytes_push done there), ap length (made-push format (bytes_of done) (rows_body there)), length-append (made format (bytes_of done)) (1 ∷ length_prefixed (rows_body there)))

pub split_more : (all done rest : List (List Row)) (there : List Row) (more : List (List Row)) → all ≡ done ++ rest → rest ≡ there ∷ more → all ≡ (done ++ there ∷ []) ++ more
split_more all done rest there more split is = split ∙ ap (λ (bs : List (List Row)). done ++ bs) is ∙ sym (append_assoc done (there ∷ []) more)

-- ---- while a state is moved by rows

-- some moved it, and these are left
pub record IsMoving (rows left : List Row) (core now : Core) : Type 0 where
  pub done : List Row
  pub split : rows ≡ done ++ left
  pub moved : (J : List Row) → Holds core J → Holds now (J ++ done)
  pub ordered : DoneInOrder rows done core

pub moving_none : (rows left : List Row) (core : Core) → rows ≡ left → IsMoving rows left core core
moving_none rows left core is = record { done = []; split = is; moved = λ J holds. subst (Holds core) (sym (append-nil J)) holds; ordered = done_none rows core }

pub moving_more : (rows left rest : List Row) (row : Row) (core now : Core) (f : IsMoving rows left core now) → left ≡ row ∷ rest → (next : Core) → ((J : List Row) → Holds now J → Holds next (J ++ row ∷ []))
    → ((J : List Row) → Holds now J → true ≡ keeps_order J row) → IsMoving rows rest core next
moving_more rows left rest row core now f is next moves order = record {
  done = f.done ++ row ∷ [];
  split = f.split ∙ ap (λ (l : List Row). f.done ++ l) is ∙ sym (append_assoc f.done (row ∷ []) rest);
  moved = λ J holds. subst (Holds next) (append_assoc J f.done (row ∷ [])) (moves (J ++ f.done) (f.moved J holds));
  ordered = done_more rows f.done left rest row core now f.split is f.moved f.ordered order;
}

pub moving_all : (rows : List Row) (core now : Core) → IsMoving rows [] core now → (J : List Row) → Holds core J → Holds now (J ++ rows)
moving_all rows core now f J holds = subst (λ (l : List Row). Holds now (J ++ l)) (sym (f.split ∙ append-nil f.done)) (f.moved J holds)

pub moving_ordered : (rows : List Row) (core now : Core) → IsMoving rows [] core now → GrowsInOrder rows core
moving_ordered rows core now f = done_all rows f.done core f.split f.ordered

pub moving_stops : (rows left rest : List Row) (row : Row) (core now : Core) (f : IsMoving rows left core now) → left ≡ row ∷ rest
    → ((J : List Row) → Holds now J → false ≡ keeps_order J row) → BreaksOrder rows core
moving_stops rows left rest row core now f is order = done_stops rows f.done left rest row core now f.split is f.moved order

-- some journal is known, and more rows that come in order
pub some_more : (rows : List Row) (core now : Core) → list_all is_row rows ≡ true → ((J : List Row) → Holds core J → Holds now (J ++ rows)) → GrowsInOrder rows core → IsOfSome core → IsOfSome now
some_more rows core now formed moves grows some = (some.0 ++ rows, record { holds = moves some.0 some.1.holds; journal = grows some.0 some.1.holds some.1.journal formed })

-- ---- while a state is moved by bodies

-- the bodies up to this place moved it, of those before another place
pub record IsFolded (format : Format) (before : List (List Row)) (place : ℕ) (core : Core) : Type 0 where
  pub done : List (List Row)
  pub rest : List (List Row)
  pub split : before ≡ done ++ rest
  pub here : place ≡ length (made format (bytes_of done))
  pub core_is : Holds core (joined done)

pub folded_journal : (done : List (List Row)) (there : List Row) (behind : List (List Row)) → IsJournal (joined (done ++ there ∷ behind)) → IsJournal (joined done ++ (there ++ joined behind))
folded_journal done there behind journal = subst IsJournal (joined_both done (there ∷ behind)) journal

pub record IsFolding (tells : Bool) (log : LogState) (v w : View) (upto place : ℕ) (core : Core) : Type 0 where
  pub goes : Goes Same v w
  pub steady : w.faults ≡ v.faults
  pub holds : IsTrue tells → (bodies : List (List ℕ)) → HasBodies bodies log v → HasBodies bodies log w
  pub on : IsTrue tells → IsOn w log
  pub known : IsOfSome core
  pub so_far : IsTrue tells → (before after : List (List Row)) → AllBodies (before ++ after) → HasBodies (bytes_of (before ++ after)) log v → upto ≡ length (made log.format (bytes_of before)) → IsFolded log.format before place core

pub folded_none : (format : Format) (before : List (List Row)) (place : ℕ) (core : Core) → place ≡ length (made format []) → Holds core [] → IsFolded format before place core
folded_none format before place core here holds = record { done = []; rest = before; split = refl; here = here; core_is = holds }

module _ (format : Format) (before : List (List Row)) (place upto : ℕ) (core : Core) (f : IsFolded format before place core) (is : upto ≡ length (made format (bytes_of before))) where
  upto_is : upto ≡ length (made format (bytes_of (f.done ++ f.rest)))
  upto_is = is ∙ ap (λ (bs : List (List Row)). length (made format (bytes_of bs))) f.split

  pub folded_there : place < upto → (there : List Row) × (more : List (List Row)) × (f.rest ≡ there ∷ more)
  folded_there less = more_there format f.done f.rest place f.here upto upto_is less

  pub folded_all : (place < upto → ⊥) → Holds core (joined before)
  folded_all reached =
      let none = none_there format f.done f.rest place f.here upto upto_is reached in
      subst (λ (bs : List (List Row)). Holds core (joined bs)) (sym (f.split ∙ ap (λ (bs : List (List Row)). f.done ++ bs) none ∙ append-nil f.done)) f.core_is

  module _ (there : List Row) (more : List (List Row)) (rest_is : f.rest ≡ there ∷ more) where
    pub folded_split : (after : List (List Row)) → before ++ after ≡ f.done ++ there ∷ (more ++ after)
    folded_split after = ap (λ (bs : List (List Row)). bs ++ after) (f.split ∙ ap (λ (bs : List (List Row)). f.done ++ bs) rest_is) ∙ append_assoc f.done (there ∷ more) after

    pub folded_more : (next : ℕ) (core_now : Core) → next ≡ place + BEFORE_BODY + length (rows_body there) → ((J : List Row) → Holds core J → Holds core_now (J ++ there)) → IsFolded format before next core_now
    folded_more next core_now next_is moved = record {
      done = f.done ++ there ∷ [];
      rest = more;
      split = split_more before f.done f.rest there more f.split rest_is;
      here = next_there format f.done f.rest place f.here there next next_is;
      core_is = subst (Holds core_now) (sym (joined_push f.done there)) (moved (joined f.done) f.core_is);
    }

-- ---- while bodies are copied

-- those behind some were copied up to this place
pub record IsRecopied (format : Format) (before after : List (List Row)) (place : ℕ) (rows : List Row) : Type 0 where
  pub done : List (List Row)
  pub rest : List (List Row)
  pub split : after ≡ done ++ rest
  pub here : place ≡ length (made format (bytes_of (before ++ done)))
  pub rows_are : rows ≡ joined done

pub record IsRecopying (tells : Bool) (log : LogState) (v v_now : View) (start place : ℕ) (r now : Rewrite) (w w_now : View) : Type 0 where
  pub goes : Goes Same v v_now
  pub steady : v_now.faults ≡ v.faults
  pub holds : IsTrue tells → (bodies : List (List ℕ)) → HasBodies bodies log v → HasBodies bodies log v_now
  pub on : IsTrue tells → IsOn v_now log
  pub rows : List Row
  pub copied : IsCopied tells rows r now w w_now
  pub known : IsOfSome r.core → IsOfSome now.core
  pub so_far : IsTrue tells → (before after : List (List Row)) → AllBodies (before ++ after) → HasBodies (bytes_of (before ++ after)) log v → start ≡ length (made log.format (bytes_of before)) → IsRecopied log.format before after place rows

pub recopied_none : (format : Format) (before after : List (List Row)) (place : ℕ) → place ≡ length (made format (bytes_of before)) → IsRecopied format before after place []
recopied_none format before after place here = record {
  done = [];
  rest = after;
  split = refl;
  here = here ∙ ap (λ (bs : List (List Row)). length (made format (bytes_of bs))) (sym (append-nil before));
  rows_are = refl;
}

module _ (format : Format) (before after : List (List Row)) (place end : ℕ) (rows : List Row) (f : IsRecopied format before after place rows) (is : end ≡ length (made format (bytes_of (before ++ after)))) where
  end_is : end ≡ length (made format (bytes_of ((before ++ f.done) ++ f.rest)))
  end_is = is ∙ ap (λ (bs : List (List Row)). length (made format (bytes_of bs))) (ap (λ (bs : List (List Row)). before ++ bs) f.split ∙ sym (append_assoc before f.done f.rest))

  pub recopied_there : place < end → (there : List Row) × (more : List (List Row)) × (f.rest ≡ there ∷ more)
  recopied_there less = more_there format (before ++ f.done) f.rest place f.here end end_is less

  pub recopied_all : (place < end → ⊥) → rows ≡ joined after
  recopied_all reached =
      let none = none_there format (before ++ f.done) f.rest place f.here end end_is reached in
      f.rows_are ∙ ap joined (sym (f.split ∙ ap (λ (bs : List (List Row)). f.done ++ bs) none ∙ append-nil f.done))

  module _ (there : List Row) (more : List (List Row)) (rest_is : f.rest ≡ there ∷ more) where
    pub recopied_split : before ++ after ≡ (before ++ f.done) ++ there ∷ more
    recopied_split = ap (λ (bs : List (List Row)). before ++ bs) (f.split ∙ ap (λ (bs : List (List Row)). f.done ++ bs) rest_is) ∙ sym (append_assoc before f.done (there ∷ more))

    pub recopied_rows : joined after ≡ rows ++ (there ++ joined more)
    recopied_rows =
        ap joined (split_more after f.done f.rest there more f.split rest_is) ∙ joined_both (f.done ++ there ∷ []) more
        ∙ ap (λ (l : List Row). l ++ joined more) (joined_push f.done there) ∙ append_assoc (joined f.done) there (joined more)
        ∙ ap (λ (l : List Row). l ++ (there ++ joined more)) (sym f.rows_are)

    pub recopied_more : (next : ℕ) → next ≡ place + BEFORE_BODY + length (rows_body there) → IsRecopied format before after next (rows ++ there)
    recopied_more next next_is = record {
      done = f.done ++ there ∷ [];
      rest = more;
      split = split_more after f.done f.rest there more f.split rest_is;
      here = next_there format (before ++ f.done) f.rest place f.here there next next_is ∙ ap (λ (bs : List (List Row)). length (made format (bytes_of bs))) (append_assoc before f.done (there ∷ []));
      rows_are = ap (λ (l : List Row). l ++ there) f.rows_are ∙ sym (joined_push f.done there);
    }

pub drop_least : (n : ℕ) (xs : List Row) (k : ℕ) → k ≡ min n (length xs) → drop k xs ≡ drop n xs
drop_least n xs k is = elim (cases_lt n (length xs)) [
  | inl less ↦ let same : k ≡ n = omega (arith, is, less) in ap (λ (m : ℕ). drop m xs) same
  | inr more ↦ drop_all k xs (omega (arith, is, more)) ∙ sym (drop_all n xs (omega (arith, more)))
]
