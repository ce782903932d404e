-- The numbers of the events of a cut journal are those that were kept above the one that it was cut at.
use Rattle.std.proofs.Common.{◌≡◌, ℕ, ◌≤◌, Bool, true, false, List, [], ◌∷◌, ◌++◌, refl, sym, ◌∙◌, ap, subst}
use Rattle.std.specs.Prelude.{if◌then◌else◌, map, nat_lt}
use Rattle.std.specs.List.{filter, list_all}
use Rattle.event_window.specs.Held.{Event}
use Rattle.event_window.specs.Window.{IsLastUpto}
use Rattle.event_window.specs.declared.place.Place.{Place}
use Rattle.relay_disk.specs.Disk.{View}
use Rattle.gate_log.specs.Build.{HasBuilt}
use Rattle.gate_log.specs.declared.format.Format.{Format}
use Rattle.relay_row.specs.Folds.{events, events_in, last_seq}
use Rattle.relay_row.specs.Rules.{is_row}
use Rattle.relay_row.specs.declared.row.Row.{Row}
use Rattle.relay_core.specs.Entries.{Holds}
use Rattle.cut_law.specs.Cut.{cut}
use Rattle.cut_law.proofs.Carrying.{cut_last}
use Rattle.cut_law.proofs.Cutting.{cut_is}
use Rattle.cut_law.proofs.Following.{cut_events, cut_journal}
use Rattle.store_cut.specs.Cutting.{kept_above}
use Rattle.relay_store.specs.Events.{AllStand, message_of}
use Rattle.relay_store.specs.Journals.{joined}
use Rattle.relay_store.specs.Places.{places_of}
use Rattle.store_cut.specs.Rewriting.{IsCopied, singles}
use Rattle.relay_store.specs.Store.{StoreState, Keeps}
use Rattle.store_cut.specs.declared.rewriting.Rewrite.{Rewrite}
use Rattle.store_cut.proofs.CutPairs.{may_at}
use Rattle.relay_store.proofs.Reread.{all_stand, events_sent}
use Rattle.store_cut.proofs.Rewritten.{joined_singles}
use Rattle.relay_store.proofs.Standing.{bodies_stand, sent}

-- ---- the numbers at places are those of the events that stand there

above_by : (high : Bool) (n : ℕ) (message : List ℕ) (rest : List ℕ) (es : List Event) → rest ≡ map (λ (e : Event). e.0) es
    → (if high then n ∷ rest else rest) ≡ map (λ (e : Event). e.0) (if high then (n, message) ∷ es else es)
above_by true n message rest es is = ap (λ (l : List ℕ). n ∷ l) is
above_by false n message rest es is = is

module _ (format : Format) (bodies : List (List Row)) where
  numbers_stand : (places : List Place) (rows : List Row) → AllStand format bodies places rows → map (λ (p : Place). p.seq) places ≡ map (λ (e : Event). e.0) (events rows)
  numbers_stand [] rows all = rw all refl
  numbers_stand (p ∷ places) [] all = absurd all
  numbers_stand (p ∷ places) (row ∷ rows) all =
      ap (λ (l : List ℕ). p.seq ∷ l) (numbers_stand places rows all.1) ∙ sym (ap (λ (es : List Event). map (λ (e : Event). e.0) (es ++ events rows)) all.0.sends)

  above_stand : (c : ℕ) (places : List Place) (rows : List Row) → AllStand format bodies places rows → kept_above c places ≡ map (λ (e : Event). e.0) (filter (λ (e : Event). nat_lt c e.0) (events rows))
  above_stand c [] rows all = rw all refl
  above_stand c (p ∷ places) [] all = absurd all
  above_stand c (p ∷ places) (row ∷ rows) all =
      above_by (nat_lt c p.seq) p.seq (message_of (events_in row)) (kept_above c places) (filter (λ (e : Event). nat_lt c e.0) (events rows)) (above_stand c places rows all.1)
      ∙ sym (ap (λ (es : List Event). map (λ (e : Event). e.0) (filter (λ (e : Event). nat_lt c e.0) (es ++ events rows))) all.0.sends)

  numbers_of : (K : List Row) → joined bodies ≡ K → list_all is_row K ≡ true → (places : List Place) → places ≡ places_of format bodies → map (λ (p : Place). p.seq) places ≡ map (λ (e : Event). e.0) (events K)
  numbers_of K rows formed places are =
      numbers_stand places (sent K)
      (subst (λ (l : List Row). AllStand format bodies places (sent l)) rows
      (subst (λ (ps : List Place). AllStand format bodies ps (sent (joined bodies))) (sym are) (bodies_stand format bodies [] bodies refl)))
      ∙ ap (λ (es : List Event). map (λ (e : Event). e.0) es) (events_sent K formed)

-- ---- what is left has the numbers that were kept

module _ (J : List Row) (s : StoreState) (v : View) (keeps : Keeps J s v) (c : ℕ) where
  above_is : kept_above c s.window ≡ map (λ (e : Event). e.0) (filter (λ (e : Event). nat_lt c e.0) (events J))
  above_is =
      above_stand s.log.format keeps.bodies c s.window (sent J) (all_stand J s v keeps)
      ∙ ap (λ (es : List Event). map (λ (e : Event). e.0) (filter (λ (e : Event). nat_lt c e.0) es)) (events_sent J keeps.are.journal.formed)

  module _ (p : Place) (last : IsLastUpto c p s.window) (low : c ≤ last_seq J) where
    cut_numbers : (format : Format) (places : List Place) → places ≡ places_of format (singles (cut J c)) → map (λ (p : Place). p.seq) places ≡ kept_above c s.window
    cut_numbers format places are =
        let is = cut_is J c keeps.are.journal (may_at J s v keeps c p last low) in
        let journal = cut_journal J c (cut J c) is keeps.are.journal in
        numbers_of format (singles (cut J c)) (cut J c) (joined_singles (cut J c)) journal.formed places are
        ∙ ap (λ (es : List Event). map (λ (e : Event). e.0) es) (cut_events J c (cut J c) is)
        ∙ sym above_is

    pub copied_numbers : (tells : Bool) (rows : List Row) (r0 r : Rewrite) (w0 w : View) → HasBuilt [] r0.build w0 → Holds r0.core [] → r0.window.places ≡ []
        → IsCopied tells rows r0 r w0 w → rows ≡ cut J c → (map (λ (p : Place). p.seq) r.window.places ≡ kept_above c s.window) × (r.core.last ≡ s.core.last)
    copied_numbers tells rows r0 r w0 w begun core window copied is =
        let state = subst (Holds r.core) is (copied.core [] core) in (
          cut_numbers r0.build.format r.window.places (copied.window [] begun.ends ∙ (λ i. window i ++ places_of r0.build.format (singles (is i)))),
          state.last ∙ cut_last J c ∙ sym keeps.core.last,
        )
