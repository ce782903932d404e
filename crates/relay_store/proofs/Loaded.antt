-- Bodies that are read back, one after another.
use Rattle.std.proofs.Common.{◌≡◌, inl, inr, ⊎_elim, ◌⊎◌, ℕ, ◌+◌, ◌≤◌, ◌<◌, List, [], ◌∷◌, ◌++◌, length, refl, sym, ◌∙◌, ap, subst, arith, append_assoc, length-append}
use Rattle.std.proofs.lemmas.List.{append-nil}
use Rattle.event_window.specs.declared.place.Place.{Place}
use Rattle.gate_log.specs.declared.format.Format.{Format}
use Rattle.gate_log.specs.declared.limits.TheConstants.{BEFORE_BODY}
use Rattle.gate_log.specs.Image.{made, front, records}
use Rattle.at_cid.specs.Lengths.{length_prefixed}
use Rattle.gate_log.proofs.Append.{records-append, made-push}
use Rattle.row_codec.specs.Bodies.{rows_body, IsBody}
use Rattle.relay_row.specs.Journal.{IsJournal}
use Rattle.relay_row.specs.declared.row.Row.{Row}
use Rattle.relay_row.proofs.Journals.{no_rows}
use Rattle.relay_core.specs.declared.journal_state.Core.{Core}
use Rattle.relay_core.specs.Entries.{Holds}
use Rattle.relay_store.specs.Journals.{joined, bytes_of}
use Rattle.relay_store.specs.Places.{places_in, places_of}
use Rattle.relay_store.specs.Opening.{IsApplied, IsBadBody, IsLoaded, IsBadAmong, IsFrontOf}
use Rattle.relay_store.proofs.Folds.{joined_push, bytes_push, each_push, places_push}

pub at_first : (format : Format) (bodies : List (List ℕ)) (place : ℕ) (state : Core) (places : List Place) → place ≡ length (made format []) → Holds state [] → places ≡ [] → IsFrontOf format bodies place state places
at_first format bodies place state places here holds none = record {
  before = [];
  rest = bodies;
  split = refl;
  here = here;
  each = tt;
  journal = no_rows;
  core = holds;
  window = none;
}

rest_cases : (rest : List (List ℕ)) → (rest ≡ []) ⊎ ((body : List ℕ) × (after : List (List ℕ)) × (rest ≡ body ∷ after))
rest_cases [] = inl refl
rest_cases (body ∷ after) = inr (body, after, refl)

-- the length of a log is that of its front bodies and of the rest
pub length_made : (format : Format) (xs ys : List (List ℕ)) → length (made format (xs ++ ys)) ≡ length (made format xs) + length (records ys)
length_made format xs ys = omega (arith, ap length (records-append xs ys), length-append (records xs) (records ys), length-append (front format) (records (xs ++ ys)), length-append (front format) (records xs))

-- no bodies have one among them
pub no_split : (before after : List (List ℕ)) (body : List ℕ) → [] ≡ before ++ body ∷ after → ⊥
no_split before after body split = omega (arith, ap length split, length-append before (body ∷ after))

pub some_records : (body : List ℕ) (after : List (List ℕ)) → 0 < length (records (body ∷ after))
some_records body after = omega (arith, length-append (length_prefixed body) (records after))

a_body_of : (rows : List Row) (body : List ℕ) → IsBody rows body → IsBody rows (rows_body rows)
a_body_of rows body is = record { some = is.some; few = is.few; formed = is.formed; made = refl }

module _ (format : Format) (bodies : List (List ℕ)) (place : ℕ) (state : Core) (places : List Place) (f : IsFrontOf format bodies place state places) where
  before_end : length (made format bodies) ≡ place + length (records f.rest)
  before_end = ap (λ (bs : List (List ℕ)). length (made format bs)) f.split ∙ length_made format (bytes_of f.before) f.rest ∙ ap (λ (n : ℕ). n + length (records f.rest)) (sym f.here)

  -- there is a body at a place before the end
  pub more_left : (end : ℕ) → end ≡ length (made format bodies) → place < end → (body : List ℕ) × (after : List (List ℕ)) × (f.rest ≡ body ∷ after)
  more_left end is less = ⊎_elim (λ none. absurd (omega (arith, is, less, before_end, ap (λ (bs : List (List ℕ)). length (records bs)) none))) (λ some. some) (rest_cases f.rest)

  -- and none at the end
  pub all_loaded : (end : ℕ) → end ≡ length (made format bodies) → end ≤ place → IsLoaded format bodies state places
  all_loaded end is reached =
      let none : f.rest ≡ [] = ⊎_elim (λ none. none) (λ some. absurd (omega (arith, is, reached, before_end, ap (λ (bs : List (List ℕ)). length (records bs)) some.2, some_records some.0 some.1))) (rest_cases f.rest) in
      record {
        found = f.before;
        bytes_are = sym (f.split ∙ ap (λ (bs : List (List ℕ)). bytes_of f.before ++ bs) none ∙ append-nil (bytes_of f.before));
        each = f.each;
        journal = f.journal;
        core = f.core;
        window = f.window;
      }

  module _ (body : List ℕ) (after : List (List ℕ)) (is : f.rest ≡ body ∷ after) where
    pub split_here : bodies ≡ bytes_of f.before ++ body ∷ after
    split_here = f.split ∙ ap (λ (bs : List (List ℕ)). bytes_of f.before ++ bs) is

    pub one_further : (next : ℕ) (state_now : Core) (places_now : List Place) → (next ≡ place + BEFORE_BODY + length body) × IsApplied place body (joined f.before) state_now places places_now → IsFrontOf format bodies next state_now places_now
    one_further next state_now places_now applied =
        let rows = applied.1.rows in
        let pushed : bytes_of (f.before ++ rows ∷ []) ≡ bytes_of f.before ++ body ∷ [] = bytes_push f.before rows ∙ ap (λ (b : List ℕ). bytes_of f.before ++ b ∷ []) (sym applied.1.is.made) in
        record {
          before = f.before ++ rows ∷ [];
          rest = after;
          split = split_here ∙ sym (append_assoc (bytes_of f.before) (body ∷ []) after) ∙ ap (λ (bs : List (List ℕ)). bs ++ after) (sym pushed);
          here = omega (arith, applied.0, f.here, ap (λ (bs : List (List ℕ)). length (made format bs)) pushed, ap length (made-push format (bytes_of f.before) body), length-append (made format (bytes_of f.before)) (1 ∷ length_prefixed body));
          each = each_push f.before rows f.each (a_body_of rows body applied.1.is);
          journal = subst IsJournal (sym (joined_push f.before rows)) applied.1.journal;
          core = subst (Holds state_now) (sym (joined_push f.before rows)) applied.1.core;
          window = applied.1.window ∙ ap (λ (l : List Place). l ++ places_in place 0 rows) f.window ∙ ap (λ (n : ℕ). places_of format f.before ++ places_in n 0 rows) f.here ∙ sym (places_push format [] f.before rows);
        }

    pub bad_here : (p : ℕ) → (p ≡ place) × IsBadBody (joined f.before) body → IsBadAmong p format bodies
    bad_here p bad = record {
      before = f.before;
      body = body;
      behind = after;
      split = split_here;
      each = f.each;
      journal = f.journal;
      here = bad.0 ∙ f.here;
      bad = bad.1;
    }
