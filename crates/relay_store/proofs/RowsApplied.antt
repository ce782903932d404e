-- Rows that are applied one after another.
use Rattle.std.proofs.Common.{◌≡◌, ℕ, ◌+◌, List, [], ◌∷◌, ◌++◌, refl, sym, ◌∙◌, ap, subst, arith, append_assoc, length-append, true, false}
use Rattle.std.proofs.lemmas.List.{append-nil}
use Rattle.std.proofs.lemmas.Bool.{and_parts}
use Rattle.std.specs.Prelude.{Option, Some, Result, Ok, Err}
use Rattle.event_window.specs.declared.place.Place.{Place}
use Rattle.relay_row.specs.Journal.{IsJournal, keeps_order}
use Rattle.row_codec.specs.Left.{RowsLeft, AreBehindFront, AreInFront, AreLeft, TakesNext}
use Rattle.relay_row.specs.Rules.{is_row}
use Rattle.row_codec.specs.declared.fault.RowFault.{RowFault}
use Rattle.relay_row.specs.declared.row.Row.{Row}
use Rattle.relay_row.proofs.Journals.{grows, grew, fronts}
use Rattle.row_codec.proofs.Left.{none_read, more_read, all_read, others_left, left_of_body, body_of_left}
use Rattle.relay_core.specs.declared.journal_state.Core.{Core}
use Rattle.relay_core.specs.Entries.{Holds}
use Rattle.relay_store.specs.Opening.{AreApplied, IsApplying, IsApplied, IsBadBody}
use Rattle.relay_store.specs.Places.{place_of, places_in}
use Rattle.relay_store.proofs.Folds.{places_append, places_one}

pub applying_none : (place : ℕ) (left : RowsLeft) (state : Core) (places : List Place) → IsApplying place 0 left left state state places places
applying_none place left state places = record {
  done = [];
  read = none_read left;
  count = refl;
  applied = record {
    core = λ J holds. subst (Holds state) (sym (append-nil J)) holds;
    journal = λ J holds is. subst IsJournal (sym (append-nil J)) is;
    window = sym (append-nil places);
  };
}

module _ (place index : ℕ) (was mid left : RowsLeft) (row : Row) (state state_now : Core) (places places_now : List Place) (so_far : IsApplying place index was mid state state_now places places_now) (found : Option Row) (next : TakesNext (Ok found) mid left) (is : found ≡ Some row) where
  here : AreInFront (row ∷ []) mid left
  here = subst (λ (o : Option Row). TakesNext (Ok o) mid left) is next

  read_next : AreInFront (so_far.done ++ row ∷ []) was left
  read_next = more_read so_far.done (row ∷ []) was mid left so_far.read here

  pub applying_more : (state_next : Core) (places_next : List Place) (then_index : ℕ) → then_index ≡ index + 1 → ((J : List Row) → Holds state_now J → true ≡ keeps_order J row)
      → ((J : List Row) → Holds state_now J → Holds state_next (J ++ row ∷ [])) → places_next ≡ places_now ++ place_of place index row → IsApplying place then_index was left state state_next places places_next
  applying_more state_next places_next then_index is_next order core window =
      let done = so_far.done in
      let applied = so_far.applied in
      record {
        done = done ++ row ∷ [];
        read = read_next;
        count = omega (arith, is_next, so_far.count, length-append done (row ∷ []));
        applied = record {
          core = λ J holds. subst (Holds state_next) (append_assoc J done (row ∷ [])) (core (J ++ done) (applied.core J holds));
          journal = λ J holds journal. subst IsJournal (append_assoc J done (row ∷ [])) (grows (J ++ done) row (applied.journal J holds journal) (and_parts (is_row row) true here.formed).0 (sym (order (J ++ done) (applied.core J holds))));
          window = window ∙ ap (λ (l : List Place). l ++ place_of place index row) applied.window ∙ append_assoc places (places_in place 0 done) (place_of place index row)
              ∙ ap (λ (l : List Place). places ++ (places_in place 0 done ++ l)) (sym (places_one place index row))
              ∙ ap (λ (l : List Place). places ++ l) (sym (places_append place 0 index done (row ∷ []) (omega (arith, so_far.count))));
        };
      }

  pub applying_stops : ((J : List Row) → Holds state_now J → false ≡ keeps_order J row) → (J : List Row) → Holds state J → (rows : List Row) → AreLeft rows was → IsJournal (J ++ rows) → ⊥
  applying_stops order J holds rows are journal =
      let done = so_far.done in
      let others = others_left (done ++ row ∷ []) rows was left read_next are in
      let all : IsJournal (((J ++ done) ++ row ∷ []) ++ others.0) = subst IsJournal
      (ap (λ (l : List Row). J ++ l) others.1 ∙ sym (append_assoc J (done ++ row ∷ []) others.0) ∙ ap (λ (l : List Row). l ++ others.0) (sym (append_assoc J done (row ∷ [])))) journal in
      let kept = (grew (J ++ done) row (fronts ((J ++ done) ++ row ∷ []) others.0 all)).1 in
      let not = order (J ++ done) (so_far.applied.core J holds) in
      absurd cc

module _ (place index : ℕ) (was left : RowsLeft) (state state_now : Core) (places places_now : List Place) (so_far : IsApplying place index was left state state_now places places_now) where
  pub all_applied : AreLeft [] left → (rows : List Row) × AreLeft rows was × AreApplied place rows state state_now places places_now
  all_applied none = (so_far.done, all_read so_far.done was left so_far.read none, so_far.applied)

  pub no_rows_were : (answer : Result (Option Row) RowFault) (now : RowsLeft) → TakesNext answer left now → answer ≡ Err RowFault.BadRow → (rows : List Row) → AreLeft rows was → ⊥
  no_rows_were answer now next is rows are =
      let bad : TakesNext (Err RowFault.BadRow) left now = subst (λ (r : Result (Option Row) RowFault). TakesNext r left now) is next in
      let others = others_left so_far.done rows was left so_far.read are in
      bad.0 others.0 others.2

module _ (body : List ℕ) (left : RowsLeft) (behind : AreBehindFront body left) where
  pub body_applied : (place : ℕ) (state state_now : Core) (places places_now : List Place) → (rows : List Row) × AreLeft rows left × AreApplied place rows state state_now places places_now
      → (J : List Row) → Holds state J → IsJournal J → IsApplied place body J state_now places places_now
  body_applied place state state_now places places_now found J holds journal = record {
    rows = found.0;
    is = body_of_left found.0 body left behind found.1;
    journal = found.2.journal J holds journal;
    core = found.2.core J holds;
    window = found.2.window;
  }

  pub body_bad : (J : List Row) → ((rows : List Row) → AreLeft rows left → IsJournal (J ++ rows) → ⊥) → IsBadBody J body
  body_bad J none = λ rows is journal. none rows (left_of_body rows body left behind is) journal
