-- What a cut leaves, in the sense of histories, is a journal that says the same.
use Rattle.std.proofs.Common.{◌≡◌, ℕ, Bool, true, false, ◌&&◌, cond, List, [], ◌∷◌, ◌++◌, refl, sym, ap, ◌∙◌, subst}
use Rattle.std.specs.List.{filter, list_all}
use Rattle.std.specs.Prelude.{not, nat_le, nat_lt}
use Rattle.std.proofs.lemmas.Bool.{and_left, and_parts, false_from_ne_true, false≢true, le-ltb, leb-true, true≢false}
use Rattle.std.proofs.lemmas.List.Elements.{filter-append}
use Rattle.std.proofs.lemmas.List.Folds.{list_all-append}
use Rattle.relay_row.specs.Folds.{cursor, cursor_after, events, folded, is_named, last_after, last_seq, seq_in}
use Rattle.relay_row.specs.Journal.{IsJournal, are_none, rises_above, is_carried_row, is_last_or_host, keeps_order}
use Rattle.relay_row.specs.declared.carried.Carried.{Carried}
use Rattle.relay_row.specs.declared.row.Row.{Row}
use Rattle.relay_row.proofs.Journals.{cursors_joined, events_joined, lasts_joined}
use Rattle.relay_law.specs.Histories.{IsCut}
use Rattle.cut_law.specs.Cut.{carried}
use Rattle.cut_law.proofs.Numbers.{Event}
use Rattle.cut_law.proofs.Ordered.{AreNext, all_carried, journal_next, nexts}

-- ---- carried rows stand in front of all others

carried_silent : (rows : List Row) → list_all is_carried_row rows ≡ true → events rows ≡ []
carried_silent [] all = refl
carried_silent (Row.Carried c ∷ rows) all = carried_silent rows all
carried_silent (Row.Taken t ∷ rows) all = absurd (false≢true all)
carried_silent (Row.Synced did whole moment ∷ rows) all = absurd (false≢true all)
carried_silent (Row.Operated o ∷ rows) all = absurd (false≢true all)

-- what carries rows over sends nothing out
pub no_events : (rows : List Row) → events (carried rows) ≡ []
no_events rows = carried_silent (carried rows) (all_carried rows)

none_carried : (before : List Row) → are_none before ≡ true → list_all is_carried_row before ≡ true
none_carried [] none = refl
none_carried (row ∷ before) none = absurd (false≢true none)

kinds_carried : (before : List Row) → list_all is_last_or_host before ≡ true → list_all is_carried_row before ≡ true
kinds_carried [] all = refl
kinds_carried (Row.Carried c ∷ before) all = kinds_carried before (and_parts (is_last_or_host (Row.Carried c)) (list_all is_last_or_host before) all).1
kinds_carried (Row.Taken t ∷ before) all = absurd (false≢true all)
kinds_carried (Row.Synced did whole moment ∷ before) all = absurd (false≢true all)
kinds_carried (Row.Operated o ∷ before) all = absurd (false≢true all)

-- the order of a row behind others speaks of the cursors and the last number alone, where not all of these are carried
record SaySame (before over : List Row) : Type 0 where
  others : list_all is_carried_row before ≡ false
  cursors : (host : List ℕ) → cursor host over ≡ cursor host before
  last : last_seq over ≡ last_seq before

same_order : (before over : List Row) (row : Row) → SaySame before over → keeps_order before row ≡ true → keeps_order over row ≡ true
same_order before over (Row.Taken t) same kept =
    ap (λ (n : ℕ). nat_lt n t.host_seq && rises_above (last_seq over) (seq_in (Row.Taken t))) (same.cursors t.host)
    ∙ ap (λ (n : ℕ). nat_lt (cursor t.host before) t.host_seq && rises_above n (seq_in (Row.Taken t))) same.last ∙ kept
same_order before over (Row.Synced did whole moment) same kept = ap (λ (n : ℕ). rises_above n whole.seq) same.last ∙ kept
same_order before over (Row.Operated o) same kept = ap (λ (n : ℕ). rises_above n o.seq) same.last ∙ kept
same_order before over (Row.Carried (Carried.Last seq)) same kept = absurd (true≢false (sym (none_carried before kept) ∙ same.others))
same_order before over (Row.Carried (Carried.Host host n)) same kept =
    let kinds = and_parts (list_all is_last_or_host before) _ (and_parts (not (are_none before)) _ kept).1 in
    absurd (true≢false (sym (kinds_carried before kinds.0) ∙ same.others))
same_order before over (Row.Carried (Carried.Account a)) same kept =
    let all = and_parts (list_all is_carried_row before) (not (is_named a.did before)) (and_parts (not (are_none before)) (list_all is_carried_row before && not (is_named a.did before)) kept).1 in
    absurd (true≢false (sym all.0 ∙ same.others))

same_more : (before over : List Row) (row : Row) → SaySame before over → SaySame (before ++ row ∷ []) (over ++ row ∷ [])
same_more before over row same = record {
  others = list_all-append is_carried_row before (row ∷ []) ∙ and_left (list_all is_carried_row before) (list_all is_carried_row (row ∷ [])) same.others;
  cursors = λ host. cursors_joined host over (row ∷ []) ∙ ap (λ (n : ℕ). cursor_after host n row) (same.cursors host) ∙ sym (cursors_joined host before (row ∷ []));
  last = lasts_joined over (row ∷ []) ∙ ap (λ (n : ℕ). last_after n row) same.last ∙ sym (lasts_joined before (row ∷ []));
}

same_next : (before over rows : List Row) → SaySame before over → AreNext before rows → AreNext over rows
same_next before over [] same next = tt
same_next before over (row ∷ rows) same next =
    (next.0, same_order before over row same next.1, same_next (before ++ row ∷ []) (over ++ row ∷ []) rows (same_more before over row same) next.2)

-- ---- numbers

filter_all : (p q : Event → Bool) (es : List Event) → ((e : Event) → q e ≡ true → p e ≡ true) → list_all q es ≡ true → filter p es ≡ es
filter_all p q [] each all = refl
filter_all p q (e ∷ es) each all =
    let both = and_parts (q e) (list_all q es) all in
    ap (λ (b : Bool). cond b (e ∷ filter p es) (filter p es)) (each e both.0) ∙ ap (λ (l : List Event). e ∷ l) (filter_all p q es each both.1)

filter_none : (p q : Event → Bool) (es : List Event) → ((e : Event) → q e ≡ true → p e ≡ false) → list_all q es ≡ true → filter p es ≡ []
filter_none p q [] each all = refl
filter_none p q (e ∷ es) each all =
    let both = and_parts (q e) (list_all q es) all in
    ap (λ (b : Bool). cond b (e ∷ filter p es) (filter p es)) (each e both.0) ∙ filter_none p q es each both.1

module _ (J : List Row) (number : ℕ) (K : List Row) (cut : IsCut J number K) where
  pub cut_journal : IsJournal J → IsJournal K
  cut_journal is =
      let P : List Row → Type 0 = λ R. IsJournal R in
      let whole : IsJournal (cut.front ++ cut.others) = subst P cut.whole is in
      let some : list_all is_carried_row cut.front ≡ false = false_from_ne_true (list_all is_carried_row cut.front) (λ all. cut.some (carried_silent cut.front all)) in
      subst P (sym cut.now)
      (journal_next cut.carried cut.others cut.over.journal
      (same_next cut.front cut.carried cut.others (record { others = some; cursors = cut.cursors; last = cut.last }) (nexts cut.front cut.others whole)))

  pub cut_sends : events K ≡ events cut.others
  cut_sends = ap events cut.now ∙ events_joined cut.carried cut.others ∙ ap (λ (es : List Event). es ++ events cut.others) (carried_silent cut.carried cut.over.are_carried)

  pub cut_events : events K ≡ filter (λ event. nat_lt number event.0) (events J)
  cut_events =
      let up = λ (event : Event). nat_lt number event.0 in
      cut_sends
      ∙ sym (ap (λ (R : List Row). filter up (events R)) cut.whole
      ∙ ap (filter up) (events_joined cut.front cut.others)
      ∙ filter-append up (events cut.front) (events cut.others)
      ∙ ap (λ (es : List Event). es ++ filter up (events cut.others))
      (filter_none up (λ event. nat_le event.0 number) (events cut.front) (λ e low. le-ltb number e.0 (leb-true e.0 number low)) cut.up_to)
      ∙ filter_all up up (events cut.others) (λ e above. above) cut.above)

  pub cut_last : last_seq K ≡ last_seq J
  cut_last =
      ap last_seq cut.now ∙ lasts_joined cut.carried cut.others ∙ ap (λ (n : ℕ). folded last_after n cut.others) cut.last
      ∙ sym (lasts_joined cut.front cut.others) ∙ ap last_seq (sym cut.whole)

  pub cut_cursor : (host : List ℕ) → cursor host K ≡ cursor host J
  cut_cursor host =
      ap (cursor host) cut.now ∙ cursors_joined host cut.carried cut.others ∙ ap (λ (n : ℕ). folded (cursor_after host) n cut.others) (cut.cursors host)
      ∙ sym (cursors_joined host cut.front cut.others) ∙ ap (cursor host) (sym cut.whole)
