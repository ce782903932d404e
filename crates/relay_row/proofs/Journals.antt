-- Folds of joined rows, and journals that grow.
use Rattle.std.proofs.Common.{◌≡◌, ℕ, ◌⊎◌, inl, inr, true, List, [], ◌∷◌, ◌++◌, refl, sym, ap, ◌∙◌, append_assoc}
use Rattle.std.proofs.lemmas.Bool.{and_parts, and_from}
use Rattle.std.proofs.lemmas.List.Folds.{list_all-append}
use Rattle.std.specs.List.{list_all}
use Rattle.relay_row.specs.declared.row.Row.{Row}
use Rattle.relay_row.specs.Folds.{folded, cursor_after, cursor, last_after, last_seq, events_in, events}
use Rattle.relay_row.specs.Journal.{IsJournal, keeps_order}
use Rattle.relay_row.specs.Rules.{is_row}

pub folded_joined : {A : Type 0} (step : A → Row → A) (a : A) (xs ys : List Row) → folded step a (xs ++ ys) ≡ folded step (folded step a xs) ys
folded_joined step a [] ys = refl
folded_joined step a (row ∷ xs) ys = folded_joined step (step a row) xs ys

pub events_joined : (xs ys : List Row) → events (xs ++ ys) ≡ events xs ++ events ys
events_joined [] ys = refl
events_joined (row ∷ xs) ys = ap (λ (rest : List (ℕ × List ℕ)). events_in row ++ rest) (events_joined xs ys) ∙ sym (append_assoc (events_in row) (events xs) (events ys))

pub cursors_joined : (host : List ℕ) (xs ys : List Row) → cursor host (xs ++ ys) ≡ folded (cursor_after host) (cursor host xs) ys
unfolding cursor
cursors_joined host xs ys = folded_joined (cursor_after host) 0 xs ys

pub lasts_joined : (xs ys : List Row) → last_seq (xs ++ ys) ≡ folded last_after (last_seq xs) ys
unfolding last_seq
lasts_joined xs ys = folded_joined last_after 0 xs ys

-- where a row stands among rows and one behind them
record Among (rows before : List Row) (row last : Row) : Type 0 where
  rest : List Row
  is : rows ≡ before ++ row ∷ rest

head_is : {A : Type 0} (x y : A) (xs ys : List A) → x ∷ xs ≡ y ∷ ys → x ≡ y
head_is x y xs ys e = cc

tail_is : {A : Type 0} (x y : A) (xs ys : List A) → x ∷ xs ≡ y ∷ ys → xs ≡ ys
tail_is x y xs ys e = cc

nil_cons : {A : Type 0} (x : A) (xs ys : List A) → [] ≡ xs ++ x ∷ ys → ⊥
nil_cons x [] ys e = absurd cc
nil_cons x (y ∷ xs) ys e = absurd cc

placed : (rows : List Row) (last : Row) (before : List Row) (row : Row) (after : List Row) → rows ++ last ∷ [] ≡ before ++ row ∷ after → Among rows before row last ⊎ ((rows ≡ before) × (last ≡ row))
placed [] last [] row after e = inr (refl, head_is last row [] after e)
placed [] last (b ∷ before) row after e = absurd (nil_cons row before after (tail_is last b [] (before ++ row ∷ after) e))
placed (x ∷ rows) last [] row after e = inl (record { rest = rows; is = ap (λ (r : Row). r ∷ rows) (head_is x row (rows ++ last ∷ []) after e) })
placed (x ∷ rows) last (b ∷ before) row after e =
    elim (placed rows last before row after (tail_is x b (rows ++ last ∷ []) (before ++ row ∷ after) e)) [
      | inl h ↦ inl (record { rest = h.rest; is = rw (head_is x b (rows ++ last ∷ []) (before ++ row ∷ after) e, h.is) refl })
      | inr h ↦ inr (rw (head_is x b (rows ++ last ∷ []) (before ++ row ∷ after) e, h.0) refl, h.1)
    ]

pub no_rows : IsJournal []
no_rows = record { formed = refl; ordered = λ before row after e. absurd (nil_cons row before after e) }

pub grows : (rows : List Row) (row : Row) → IsJournal rows → is_row row ≡ true → keeps_order rows row ≡ true → IsJournal (rows ++ row ∷ [])
grows rows row is formed kept = record {
  formed = list_all-append is_row rows (row ∷ []) ∙ and_from (list_all is_row rows) (list_all is_row (row ∷ [])) is.formed (and_from (is_row row) true formed refl);
  ordered = λ before r after e. elim (placed rows row before r after e) [
    | inl h ↦ is.ordered before r h.rest h.is
    | inr h ↦ rw (sym h.0, sym h.1) kept
  ];
}

pub fronts : (xs ys : List Row) → IsJournal (xs ++ ys) → IsJournal xs
fronts xs ys is = record {
  formed = (and_parts (list_all is_row xs) (list_all is_row ys) (sym (list_all-append is_row xs ys) ∙ is.formed)).0;
  ordered = λ before row after e. is.ordered before row (after ++ ys) (ap (λ (t : List Row). t ++ ys) e ∙ append_assoc before (row ∷ after) ys);
}

pub grew : (rows : List Row) (row : Row) → IsJournal (rows ++ row ∷ []) → (is_row row ≡ true) × (keeps_order rows row ≡ true)
grew rows row is =
    let both = and_parts (list_all is_row rows) (list_all is_row (row ∷ [])) (sym (list_all-append is_row rows (row ∷ [])) ∙ is.formed) in
    ((and_parts (is_row row) true both.1).0, is.ordered rows row [] refl)
