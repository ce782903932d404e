-- A journal serves one message for each number at most, and what is said of the cursor.
use Rattle.std.proofs.Common.{◌≡◌, ◌⊎◌, inl, inr, ◌∙◌, ℕ, ◌-◌, ◌≤◌, ◌<◌, Bool, true, false, ◌==◌, List, [], ◌∷◌, ◌++◌, length, Some, refl, sym, ap, subst, arith, append_assoc, length-append, nat_le, if◌then◌else◌}
use Rattle.std.proofs.lemmas.Bool.Decides.{nat_tests}
use Rattle.std.proofs.lemmas.List.{length-map}
use Rattle.at_cid.specs.declared.limits.TheConstants.{NUMBERS}
use Rattle.event_window.specs.Held.{Event}
use Rattle.backfill.specs.Served.{following, notice_of, rising_above, served, standing_of}
use Rattle.backfill.specs.declared.standing.Standing.{Standing}
use Rattle.relay_row.specs.Folds.{events_in, first_seq, last_seq, seq_in}
use Rattle.relay_row.specs.Journal.{IsJournal}
use Rattle.relay_row.specs.declared.row.Row.{Row}
use Rattle.relay_row.proofs.Journals.{fronts, lasts_joined}
use Rattle.relay_step.specs.Steps.{Step}
use Rattle.store_take.specs.Batches.{messages_sent}
use Rattle.relay_store.specs.Shown.{held_by, is_shown, shown_of}
use Rattle.store_take.specs.declared.message.Message.{Message}
use Rattle.relay_store.proofs.Reread.{last_fits}
use Rattle.relay_store.proofs.Standing.{one_event}
use Rattle.take_run.specs.Feeds.{bytes_of_messages}
use Rattle.relay_chain.specs.declared.journals.TheConstants.{MOST_SERVED}

-- ---- the numbers of a journal's events

-- events of numbers
abbrev AllNumbers : List Event → Type 0
AllNumbers [] = Unit {0}
AllNumbers (e ∷ es) = (e.0 < NUMBERS) × AllNumbers es

numbers_joined : (b : Bool) (here es : List Event) → AllNumbers here → AllNumbers es → AllNumbers ((if b then here else []) ++ es)
numbers_joined false here es one two = two
numbers_joined true [] es one two = two
numbers_joined true (e ∷ here) es one two = (one.0, numbers_joined true here es one.1 two)

last_or : (b : Bool) (n seq : ℕ) → (seq == 0) ≡ b → (if b then n else seq) < NUMBERS → seq < NUMBERS
last_or true n seq is fits = let zero : seq ≡ 0 = grind (arith, nat_tests) in omega (arith, zero)
last_or false n seq is fits = fits

-- the last row of a journal has a number below the limit
seq_fits : (front : List Row) (row : Row) → IsJournal (front ++ row ∷ []) → seq_in row < NUMBERS
seq_fits front row journal =
    last_or (seq_in row == 0) (last_seq front) (seq_in row) refl (subst (λ (n : ℕ). n < NUMBERS) (lasts_joined front (row ∷ [])) (last_fits (front ++ row ∷ []) journal))

one_number : (n : ℕ) (es : List Event) → ((es ≡ []) ⊎ ((e : Event) × (es ≡ e ∷ []))) → first_seq es ≡ n → n < NUMBERS → AllNumbers es
one_number n es (inl none) is fits = subst AllNumbers (sym none) tt
one_number n es (inr one) is fits =
    let first : one.0.0 ≡ n = sym (ap first_seq one.1) ∙ is in
    subst AllNumbers (sym one.1) (subst (λ (m : ℕ). m < NUMBERS) (sym first) fits, tt)

row_numbers : (row : Row) → seq_in row < NUMBERS → AllNumbers (events_in row)
row_numbers (Row.Taken t) fits = one_number (seq_in (Row.Taken t)) (events_in (Row.Taken t)) (one_event (Row.Taken t)) refl fits
row_numbers (Row.Synced did whole moment) fits = (fits, tt)
row_numbers (Row.Operated o) fits = (fits, tt)
row_numbers (Row.Carried c) fits = tt

shown_numbers : (J front rows : List Row) → IsJournal (front ++ rows) → AllNumbers (shown_of J rows)
shown_numbers J front [] journal = tt
shown_numbers J front (row ∷ rows) journal =
    let on : IsJournal ((front ++ row ∷ []) ++ rows) = subst IsJournal (sym (append_assoc front (row ∷ []) rows)) journal in
    numbers_joined (is_shown J row) (events_in row) (shown_of J rows) (row_numbers row (seq_fits front row (fronts (front ++ row ∷ []) rows on))) (shown_numbers J (front ++ row ∷ []) rows on)

-- ---- how many are served

-- the numbers above one that rise below the limit are few
few_behind : (seq : ℕ) (e : Event) (es : List Event) (b : Bool) → nat_le e.0 seq ≡ b → e.0 < NUMBERS → length (rising_above seq es) ≤ NUMBERS - 1 - seq → length (rising_above e.0 es) ≤ NUMBERS - 1 - e.0
    → length (if b then rising_above seq es else e ∷ rising_above e.0 es) ≤ NUMBERS - 1 - seq
few_behind seq e es true is fits low high = low
few_behind seq e es false is fits low high = let up : seq < e.0 = grind (arith, nat_tests) in omega (arith, up, fits, high)

few_above : (seq : ℕ) (es : List Event) → AllNumbers es → length (rising_above seq es) ≤ NUMBERS - 1 - seq
few_above seq [] all = omega arith
few_above seq (e ∷ es) all = few_behind seq e es (nat_le e.0 seq) refl all.0 (few_above seq es all.1) (few_above e.0 es all.1)

few_served_at : (standing : Standing) (seq : ℕ) (es : List Event) → AllNumbers es → length (notice_of standing ++ following standing es seq) ≤ NUMBERS
few_served_at Standing.Future seq es all = omega arith
few_served_at Standing.Outdated seq es all = omega (arith, few_above seq es all, length-map (rising_above seq es) (λ (e : Event). e.1))
few_served_at Standing.Current seq es all = omega (arith, few_above seq es all, length-map (rising_above seq es) (λ (e : Event). e.1))

few_served : (J : List Row) (seq : ℕ) → IsJournal J → length (served (held_by J) (Some seq)) ≤ NUMBERS
few_served J seq journal = few_served_at (standing_of (held_by J) seq) seq (shown_of J J) (shown_numbers J [] J journal)

bytes_as_many : (messages : List Message) → length (bytes_of_messages messages) ≡ length messages
bytes_as_many [] = refl
bytes_as_many (m ∷ messages) = omega (arith, bytes_as_many messages)

-- so no run of steps takes as many as it may
pub not_as_many : (J : List Row) (seq : ℕ) (steps : List Step) (behind : List Message) (rest : List (List ℕ)) → IsJournal J → served (held_by J) (Some seq) ≡ bytes_of_messages (messages_sent steps ++ behind) ++ rest → length steps ≡ MOST_SERVED → ⊥
not_as_many J seq steps behind rest journal front many =
    let sent : length (messages_sent steps) ≡ length steps = length-map steps _ in
    omega (arith, few_served J seq journal, ap length front, length-append (bytes_of_messages (messages_sent steps ++ behind)) rest, bytes_as_many (messages_sent steps ++ behind), length-append (messages_sent steps) behind, sent, many)
