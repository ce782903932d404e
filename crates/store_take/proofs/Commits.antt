-- What an append makes of a journal and of rows that are known ahead of it.
use Rattle.gate_log.specs.declared.fault.LogFault.{LogFault}
use Rattle.std.proofs.Common.{◌≡◌, arith, inl, inr, ⊎_elim, ℕ, ◌≤◌, List, [], ◌∷◌, ◌++◌, length, drop, refl, sym, ◌∙◌, ap, subst}
use Rattle.std.proofs.lemmas.List.{append-nil}
use Rattle.at_cbor.specs.declared.major.Major.{Major}
use Rattle.at_cbor.specs.Encoding.{front_of}
use Rattle.event_window.specs.declared.place.Place.{Place}
use Rattle.relay_disk.specs.Disk.{View, IsDisk}
use Rattle.relay_disk.specs.Moments.{LeavesOnly}
use Rattle.relay_disk.proofs.Moments.{weaker, no_call}
use Rattle.gate_log.specs.declared.pending_bodies.TheConstants.{AHEAD}
use Rattle.gate_log.specs.declared.format.Format.{Format}
use Rattle.gate_log.specs.Image.{IsMade}
use Rattle.gate_log.specs.Crash.{IsBeforeOrAfter}
use Rattle.gate_log.specs.Log.{LogState}
use Rattle.gate_log.specs.Log.{HoldsBodies as HasBodies}
use Rattle.row_codec.specs.Bodies.{rows_body}
use Rattle.relay_row.specs.Journal.{IsJournal}
use Rattle.relay_row.specs.declared.row.Row.{Row}
use Rattle.relay_core.specs.declared.journal_state.Core.{Core}
use Rattle.relay_core.specs.Entries.{Holds}
use Rattle.relay_store.specs.Journals.{bytes_of, AreBodiesOf, IsOneOf}
use Rattle.relay_store.specs.Places.{places_in, places_of}
use Rattle.relay_store.specs.PendingBodies.{HasRows, IsAhead}
use Rattle.relay_store.specs.declared.pending.Pending.{Pending}
use Rattle.relay_store.proofs.Folds.{joined_push, bytes_push, each_push, places_push}
use Rattle.relay_store.proofs.Encodings.{a_body, pending_is}

-- what is put in front of a pending batch makes the body of its rows
pub pending_bytes : (rows : List Row) (d : Pending) (head : List ℕ) → HasRows rows d → head ≡ front_of Major.List d.count → head ++ drop AHEAD d.body ≡ rows_body rows
pending_bytes rows d head has is = ap (λ (l : List ℕ). l ++ drop AHEAD d.body) is ∙ pending_is rows d has

with_body : (J rows : List Row) (bodies : List (List Row)) → AreBodiesOf J bodies → IsJournal (J ++ rows) → 1 ≤ length rows → length rows ≤ 64 → AreBodiesOf (J ++ rows) (bodies ++ rows ∷ [])
with_body J rows bodies are journal some few = record {
  each = each_push bodies rows are.each (a_body J rows journal some few);
  rows = joined_push bodies rows ∙ ap (λ (l : List Row). l ++ rows) are.rows;
  journal = journal;
}

pub no_rows : (rows : List Row) → length rows ≡ 0 → rows ≡ []
no_rows [] is = refl
no_rows (row ∷ rows) is = absurd (omega (arith, is))

module _ (J rows : List Row) (log : LogState) (state : Core) (places : List Place) (v : View) (on : IsAhead J rows log state places v) where
  pub appended : (body : List ℕ) → body ≡ rows_body rows → 1 ≤ length rows → length rows ≤ 64 → (now : LogState) (w : View) → now.format ≡ log.format → HasBodies (bytes_of on.bodies ++ body ∷ []) now w → IsAhead (J ++ rows) [] now state places w
  appended body is some few now w same holds = record {
    bodies = on.bodies ++ rows ∷ [];
    are = with_body J rows on.bodies on.are on.journal some few;
    journal = subst IsJournal (sym (append-nil (J ++ rows))) on.journal;
    holds = subst (λ (bs : List (List ℕ)). HasBodies bs now w) (ap (λ (b : List ℕ). bytes_of on.bodies ++ b ∷ []) is ∙ sym (bytes_push on.bodies rows)) holds;
    core = subst (Holds state) (sym (append-nil (J ++ rows))) on.core;
    window = on.window ∙ ap (λ (n : ℕ). places_of log.format on.bodies ++ places_in n 0 rows) on.holds.ends ∙ sym (places_push log.format [] on.bodies rows)
        ∙ ap (λ (f : Format). places_of f (on.bodies ++ rows ∷ [])) (sym same) ∙ sym (append-nil (places_of now.format (on.bodies ++ rows ∷ [])));
  }

  pub append_leaves : (body : List ℕ) → body ≡ rows_body rows → 1 ≤ length rows → length rows ≤ 64 → (w : View) → LeavesOnly (IsBeforeOrAfter log.format (bytes_of on.bodies) body) v w → LeavesOnly (IsOneOf log.format J rows) v w
  append_leaves body is some few w run = weaker _ _ v w run (λ c has. ⊎_elim
      (λ before. inl (record { bodies = on.bodies; are = on.are; is_made = before }))
      (λ after. inr (record {
        bodies = on.bodies ++ rows ∷ [];
        are = with_body J rows on.bodies on.are on.journal some few;
        is_made = subst (λ (bs : List (List ℕ)). IsMade log.format bs c) (ap (λ (b : List ℕ). bytes_of on.bodies ++ b ∷ []) is ∙ sym (bytes_push on.bodies rows)) after;
      }))
      has)

  pub nothing_added : length rows ≡ 0 → IsAhead (J ++ rows) [] log state places v
  nothing_added none =
      let is = no_rows rows none in
      let now : IsAhead J [] log state places v = subst (λ (r : List Row). IsAhead J r log state places v) is on in
      subst (λ (r : List Row). IsAhead (J ++ r) [] log state places v) (sym is) (subst (λ (j : List Row). IsAhead j [] log state places v) (sym (append-nil J)) now)

  pub nothing_leaves : IsDisk v → LeavesOnly (IsOneOf log.format J rows) v v
  nothing_leaves disk = no_call _ v disk (λ c left. inl (record { bodies = on.bodies; are = on.are; is_made = on.holds.left c left }))

pub some_rows : (rows : List Row) (d : Pending) → HasRows rows d → (d.count ≡ 0 → ⊥) → 1 ≤ length rows
some_rows [] d has some = absurd (some has.count)
some_rows (row ∷ rows) d has some = omega arith

pub only_disk : {P : Type 0} (f : LogFault) → (f ≡ LogFault.Disk → P) → ((p : ℕ) → f ≡ LogFault.BadLog p → ⊥) → ((e : ℕ) → f ≡ LogFault.Full e → ⊥) → (f ≡ LogFault.Memory → ⊥) → P
only_disk LogFault.Disk disk bad full memory = disk refl
only_disk (LogFault.BadLog p) disk bad full memory = absurd (bad p refl)
only_disk (LogFault.Full e) disk bad full memory = absurd (full e refl)
only_disk LogFault.Memory disk bad full memory = absurd (memory refl)
