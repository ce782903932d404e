-- The search for the first event that is shown.
use Rattle.std.proofs.Common.{◌≡◌, ℕ, ◌-◌, ◌≤◌, Bool, true, false, List, [], ◌∷◌, ◌++◌, length, take, drop, slice_index_or, Option, Some, None, Result, Err, refl, sym, ◌∙◌, ap, subst, arith}
use Rattle.std.specs.Prelude.{if◌then◌else◌, IfSome, IsTrue}
use Rattle.std.specs.List.{Contains}
use Rattle.std.proofs.lemmas.List.{take_all, take-append-drop}
use Rattle.std.proofs.lemmas.List.Elements.{Contains-append_left, Contains-append_right, Contains-push}
use Rattle.relay_disk.specs.Disk.{View}
use Rattle.event_window.specs.Held.{Event, damage_after}
use Rattle.event_window.specs.declared.fault.EventsFault.{EventsFault}
use Rattle.event_window.specs.declared.place.Place.{Place}
use Rattle.gate_log.specs.Log.{LogState}
use Rattle.gate_log.specs.Log.{HoldsBodies as HasBodies}
use Rattle.relay_row.specs.Folds.{events_in}
use Rattle.relay_row.specs.declared.row.Row.{Row}
use Rattle.relay_core.specs.Entries.{Holds}
use Rattle.relay_core.specs.declared.journal_state.Core.{Core}
use Rattle.relay_store.specs.Events.{AllStand, StandsAt, message_of}
use Rattle.store_read.specs.Events.{IsReadOf, IsRest, IsToldOf}
use Rattle.relay_store.specs.Journals.{AllBodies, bytes_of}
use Rattle.relay_store.specs.Shown.{is_shown, shown_of}

fault_same : (A B : Type 0) (before : Option ℕ) (f : EventsFault) → damage_after {A = A} before (Err f) ≡ damage_after {A = B} before (Err f)
fault_same A B before EventsFault.Disk = refl
fault_same A B before EventsFault.Memory = refl
fault_same A B before (EventsFault.BadLog place) = refl

-- the same fault, of another answer
pub damage_same : (A : Type 0) {B : Type 0} (before now : Option ℕ) (f : EventsFault) (r : Result B EventsFault) → r ≡ Err f → now ≡ damage_after {A = A} before (Err f) → now ≡ damage_after before r
damage_same A {B} before now f r is found = found ∙ fault_same A B before f ∙ ap (λ (x : Result B EventsFault). damage_after before x) (sym is)

pub split_first : (left : List Place) (d : Place) → 1 ≤ length left → left ≡ slice_index_or left 0 d ∷ take (length left - 1) (drop 1 left)
split_first [] d some = absurd (omega (arith, some))
split_first (p ∷ left) d some = ap (λ (l : List Place). p ∷ l) (sym (take_all (length (p ∷ left) - 1) left (omega arith)))

pub first_within : (p : Place) (rest left : List Place) → left ≡ p ∷ rest → Contains left p
first_within p rest left split = subst (λ (l : List Place). Contains l p) (sym split) (Contains-append_left (p ∷ []) rest p (Contains-push [] p))

pub rest_within : (p : Place) (rest left : List Place) → left ≡ p ∷ rest → (q : Place) → Contains rest q → Contains left q
rest_within p rest left split q there = subst (λ (l : List Place). Contains l q) (sym split) (Contains-append_right (p ∷ []) rest q there)

-- what is behind some of them is among them
from_part : (part places : List Place) → ((count : ℕ) × (part ≡ drop count places)) → (p : Place) → Contains part p → Contains places p
from_part part places behind p there =
    subst (λ (l : List Place). Contains l p) (take-append-drop behind.0 places)
    (Contains-append_right (take behind.0 places) (drop behind.0 places) p (subst (λ (l : List Place). Contains l p) behind.1 there))

pub read_from_part : (part places : List Place) → ((count : ℕ) × (part ≡ drop count places)) → (left room : List ℕ) (found : Option ℕ)
    → IfSome found (λ n. IsReadOf part left n room) → IfSome found (λ n. IsReadOf places left n room)
read_from_part part places behind left room None read = tt
read_from_part part places behind left room (Some n) read = (read.0, from_part part places behind read.0 read.1, read.2, read.3)

one_shown : (J : List Row) (p : Place) (row : Row) (room : List ℕ) (es : List Event) → true ≡ is_shown J row → events_in row ≡ (p.seq, message_of (events_in row)) ∷ [] → room ≡ message_of (events_in row)
    → (if is_shown J row then events_in row else []) ++ es ≡ (p.seq, room) ∷ es
one_shown J p row room es shown sends message =
    ap (λ (b : Bool). (if b then events_in row else []) ++ es) (sym shown) ∙ ap (λ (l : List Event). l ++ es) sends ∙ ap (λ (m : List ℕ). (p.seq, m) ∷ es) (sym message)

module _ (tells : Bool) (log : LogState) (core : Core) (v : View) (bodies : List (List Row)) (rows : List Row) where
  pub rest_all : (places : List Place) → AllStand log.format bodies places rows → IsRest tells log core v bodies places rows
  rest_all places all = record { rest = rows; stand = all; same = λ told J each holds of. refl }

  pub rest_none : IsRest tells log core v bodies [] rows → IsTrue tells → (J : List Row) → AllBodies bodies → HasBodies (bytes_of bodies) log v → Holds core J → shown_of J rows ≡ []
  rest_none is told J each holds of = is.same told J each holds of ∙ ap (shown_of J) is.stand

  -- what stands at the first of the places that are left
  pub record IsAtFirst (p : Place) (places : List Place) : Type 0 where
    pub row : Row
    pub others : List Row
    pub at : StandsAt log.format bodies p row
    pub stand : AllStand log.format bodies places others
    pub same : IsTrue tells → (J : List Row) → AllBodies bodies → HasBodies (bytes_of bodies) log v → Holds core J → shown_of J rows ≡ shown_of J (row ∷ others)

  first_by : (p : Place) (places : List Place) (rest : List Row) → AllStand log.format bodies (p ∷ places) rest
      → (IsTrue tells → (J : List Row) → AllBodies bodies → HasBodies (bytes_of bodies) log v → Holds core J → shown_of J rows ≡ shown_of J rest) → IsAtFirst p places
  first_by p places [] stand same = absurd stand
  first_by p places (row ∷ others) stand same = record { row = row; others = others; at = stand.0; stand = stand.1; same = same }

  pub rest_first : (p : Place) (places left : List Place) → left ≡ p ∷ places → IsRest tells log core v bodies left rows → IsAtFirst p places
  rest_first p places left split is = first_by p places is.rest (subst (λ (l : List Place). AllStand log.format bodies l is.rest) split is.stand) is.same

  module _ (p : Place) (places : List Place) (first : IsAtFirst p places) (room : List ℕ) where
    pub rest_more : (IsTrue tells → (J : List Row) → AllBodies bodies → HasBodies (bytes_of bodies) log v → Holds core J → IsToldOf J first.row false room) → IsRest tells log core v bodies places rows
    rest_more told = record {
      rest = first.others;
      stand = first.stand;
      same = λ tell J each holds of. first.same tell J each holds of
          ∙ ap (λ (b : Bool). (if b then events_in first.row else []) ++ shown_of J first.others) (sym (told tell J each holds of).is);
    }

    pub rest_found : IsTrue tells → (J : List Row) → AllBodies bodies → HasBodies (bytes_of bodies) log v → Holds core J → IsToldOf J first.row true room → shown_of J rows ≡ (p.seq, room) ∷ shown_of J first.others
    rest_found tell J each holds of told = first.same tell J each holds of ∙ one_shown J p first.row room (shown_of J first.others) told.is first.at.sends (told.message refl)
