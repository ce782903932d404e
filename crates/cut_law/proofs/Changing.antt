-- What stays over rows that are added and cuts.
use Rattle.std.proofs.Common.{◌≡◌, ◌⊎◌, inl, inr, ⊎_elim, ℕ, ◌<◌, ◌≤◌, Bool, true, false, ◌&&◌, cond, List, [], ◌∷◌, ◌++◌, Contains, refl, sym, ap, ◌∙◌, subst, arith, append_assoc}
use Rattle.std.specs.Prelude.{◌==◌, not, nat_le, nat_lt}
use Rattle.std.specs.List.{list_all}
use Rattle.std.specs.Str.{bytes_eq}
use Rattle.std.proofs.lemmas.Bool.{and_parts, leb-true, ltb-true, false≢true, true≢false}
use Rattle.std.proofs.lemmas.List.{append-nil}
use Rattle.std.proofs.lemmas.List.Elements.{Contains-append_left, Contains-append_right, Contains-append_cases}
use Rattle.relay_row.specs.Folds.{names, host_in, host_seq_in, cursor, cursor_after, events, last_seq, seq_in}
use Rattle.relay_row.specs.Journal.{IsJournal, are_none, rises_above, is_last_or_host, keeps_order}
use Rattle.relay_row.specs.declared.carried.Carried.{Carried}
use Rattle.relay_row.specs.declared.row.Row.{Row}
use Rattle.relay_row.proofs.Journals.{cursors_joined, events_joined, lasts_joined}
use Rattle.relay_law.specs.Histories.{Change, adds, cuts, IsCut, IsChanged, AreChanged}
use Rattle.cut_law.specs.Cut.{cut, MayCut}
use Rattle.cut_law.specs.Lives.{AreJournals, AllCuts, ComesFrom, WasCut}
use Rattle.cut_law.proofs.Cutting.{cut_is, each_in}
use Rattle.account_state.proofs.Dids.{names_none, names_same}
use Rattle.cut_law.proofs.Following.{cut_cursor, cut_journal, cut_last, cut_sends}
use Rattle.cut_law.proofs.Hosts.{zero_is}
use Rattle.cut_law.proofs.Numbers.{Event, IsIn, all_rise, behind, in_joined, is_in, lasts_rise, one_event, within}
use Rattle.cut_law.proofs.Ordered.{AreNext, nexts}

first_journal : (J : List Row) (changes : List Change) (K : List Row) (came : AreChanged J changes K) → AreJournals J changes K came → IsJournal J
first_journal J [] K came are = are
first_journal J (change ∷ changes) K (middle, is, came) are = are.0

-- ---- cursors

-- a row that keeps the order doesn't take its host's cursor back
not_back : (before : List Row) (row : Row) → keeps_order before row ≡ true → bytes_eq (host_in row) [] ≡ false → cursor (host_in row) before ≤ host_seq_in row
not_back before (Row.Taken t) kept some =
    let less = ltb-true (cursor t.host before) t.host_seq (and_parts (nat_lt (cursor t.host before) t.host_seq) (rises_above (last_seq before) (seq_in (Row.Taken t))) kept).0 in
    omega (arith, less)
not_back before (Row.Carried (Carried.Host host n)) kept some =
    let kinds = (and_parts (not (are_none before)) (list_all is_last_or_host before && cursor host before == 0) kept).1 in
    let none : cursor host before ≡ 0 = zero_is (cursor host before) (and_parts (list_all is_last_or_host before) (cursor host before == 0) kinds).1 in
    omega (arith, none)
not_back before (Row.Synced did whole moment) kept some = absurd (true≢false some)
not_back before (Row.Operated o) kept some = absurd (true≢false some)
not_back before (Row.Carried (Carried.Last seq)) kept some = absurd (true≢false some)
not_back before (Row.Carried (Carried.Account a)) kept some = absurd (true≢false some)

text_named : (host text : List ℕ) → names host text ≡ true → bytes_eq text [] ≡ false
text_named host [] is = absurd (true≢false (sym is ∙ names_none host))
text_named host (c ∷ text) is = refl

cursor_row : (host : List ℕ) (before : List Row) (row : Row) → keeps_order before row ≡ true → cursor host before ≤ cursor_after host (cursor host before) row
cursor_row host before row kept =
    elim (names host (host_in row)) as (λ b. names host (host_in row) ≡ b → cursor host before ≤ cond b (host_seq_in row) (cursor host before)) [
      | true ↦ λ e. subst (λ (name : List ℕ). cursor name before ≤ host_seq_in row) (sym (names_same host (host_in row) e)) (not_back before row kept (text_named host (host_in row) e))
      | false ↦ λ e. omega arith
    ] refl

cursor_rows : (host : List ℕ) (before rows : List Row) → AreNext before rows → cursor host before ≤ cursor host (before ++ rows)
cursor_rows host before [] next = omega (arith, ap (cursor host) (append-nil before))
cursor_rows host before (row ∷ rows) next =
    omega (arith, cursor_row host before row next.1, cursors_joined host before (row ∷ []), cursor_rows host (before ++ row ∷ []) rows next.2, ap (cursor host) (append_assoc before (row ∷ []) rows))

cursor_change : (host : List ℕ) (J : List Row) (change : Change) (K : List Row) → IsChanged J change K → IsJournal K → cursor host J ≤ cursor host K
cursor_change host J (adds rows) K is journal =
    let P : List Row → Type 0 = λ R. IsJournal R in
    omega (arith, cursor_rows host J rows (nexts J rows (subst P is journal)), ap (cursor host) is)
cursor_change host J (cuts number) K is journal = omega (arith, cut_cursor J number K is host)

pub cursors_grow : (J : List Row) (changes : List Change) (K : List Row) (came : AreChanged J changes K) → AreJournals J changes K came → (host : List ℕ) → cursor host J ≤ cursor host K
cursors_grow J [] K came are host = omega (arith, ap (cursor host) came)
cursors_grow J (change ∷ changes) K (middle, is, came) are host =
    omega (arith, cursor_change host J change middle is (first_journal middle changes K came are.1), cursors_grow middle changes K came are.1 host)

-- ---- the last number

last_change : (J : List Row) (change : Change) (K : List Row) → IsChanged J change K → IsJournal K → last_seq J ≤ last_seq K
last_change J (adds rows) K is journal =
    let P : List Row → Type 0 = λ R. IsJournal R in
    omega (arith, lasts_rise (last_seq J) rows (all_rise J rows (subst P is journal)), lasts_joined J rows, ap last_seq is)
last_change J (cuts number) K is journal = omega (arith, cut_last J number K is)

pub lasts_grow : (J : List Row) (changes : List Change) (K : List Row) (came : AreChanged J changes K) → AreJournals J changes K came → last_seq J ≤ last_seq K
lasts_grow J [] K came are = omega (arith, ap last_seq came)
lasts_grow J (change ∷ changes) K (middle, is, came) are =
    omega (arith, last_change J change middle is (first_journal middle changes K came are.1), lasts_grow middle changes K came are.1)

-- ---- an event up to the last number was there

in_right : (xs ys : List Event) (e : Event) → IsIn e ys → IsIn e (xs ++ ys)
in_right [] ys e one = one
in_right (x ∷ xs) ys e one = inr (in_right xs ys e one)

event_before : (J : List Row) (change : Change) (K : List Row) (e : Event) → IsChanged J change K → IsJournal K → e.0 ≤ last_seq J → IsIn e (events K) → IsIn e (events J)
event_before J (adds rows) K e is journal low one =
    let P : List Row → Type 0 = λ R. IsJournal R in
    let there : IsIn e (events J ++ events rows) = subst (λ (es : List Event). IsIn e es) (ap events is ∙ events_joined J rows) one in
    ⊎_elim (λ here. here) (λ added. absurd (omega (arith, low, behind (last_seq J) rows e (all_rise J rows (subst P is journal)) added))) (in_joined (events J) (events rows) e there)
event_before J (cuts number) K e is journal low one =
    let there : IsIn e (events is.others) = subst (λ (es : List Event). IsIn e es) (cut_sends J number K is) one in
    subst (λ (es : List Event). IsIn e es) (sym (ap events is.whole ∙ events_joined is.front is.others)) (in_right (events is.front) (events is.others) e there)

events_before : (J : List Row) (changes : List Change) (K : List Row) (came : AreChanged J changes K) → AreJournals J changes K came → (e : Event) → e.0 ≤ last_seq J → IsIn e (events K) → IsIn e (events J)
events_before J [] K came are e low one = subst (λ (R : List Row). IsIn e (events R)) came one
events_before J (change ∷ changes) K (middle, is, came) are e low one =
    let journal = first_journal middle changes K came are.1 in
    event_before J change middle e is journal low (events_before middle changes K came are.1 e (omega (arith, low, last_change J change middle is journal)) one)

last_within : (J : List Row) (e : Event) → IsJournal J → IsIn e (events J) → e.0 ≤ last_seq J
unfolding last_seq
last_within J e is one = within 0 J e (all_rise [] J is) one

pub one_for_a_number : (J : List Row) (changes : List Change) (K : List Row) (came : AreChanged J changes K) → AreJournals J changes K came
    → (number : ℕ) (message other : List ℕ) → Contains (events J) (number, message) → Contains (events K) (number, other) → message ≡ other
one_for_a_number J changes K came are number message other one also =
    let journal = first_journal J changes K came are in
    let here : IsIn (number, message) (events J) = is_in (events J) (number, message) one in
    let low : number ≤ last_seq J = last_within J (number, message) journal here in
    let there : IsIn (number, other) (events J) = events_before J changes K came are (number, other) low (is_in (events K) (number, other) also) in
    ap (λ (event : Event). event.1) (one_event (last_seq []) J (number, message) (number, other) (all_rise [] J journal) refl here there)

-- ---- an event above all cuts stays

event_stays : (J : List Row) (number : ℕ) (K : List Row) (e : Event) (is : IsCut J number K) → number < e.0 → Contains (events J) e → Contains (events K) e
event_stays J number K e is more one =
    let there : Contains (events is.front ++ events is.others) e = subst (λ (es : List Event). Contains es e) (ap events is.whole ∙ events_joined is.front is.others) one in
    subst (λ (es : List Event). Contains es e) (sym (cut_sends J number K is))
    (⊎_elim
    (λ front. let low = leb-true e.0 number (each_in (λ event. nat_le event.0 number) (events is.front) e is.up_to (is_in (events is.front) e front)) in absurd (omega (arith, more, low)))
    (λ others. others)
    (Contains-append_cases (events is.front) (events is.others) e there))

pub events_stay : (J : List Row) (changes : List Change) (K : List Row) → AreChanged J changes K → (e : Event) → AllCuts (λ at. nat_lt at e.0) changes → Contains (events J) e → Contains (events K) e
events_stay J [] K came e below one = subst (λ (R : List Row). Contains (events R) e) (sym came) one
events_stay J (adds rows ∷ changes) K (middle, is, came) e below one =
    let there : Contains (events middle) e = subst (λ (es : List Event). Contains es e) (sym (ap events is ∙ events_joined J rows)) (Contains-append_left (events J) (events rows) e one) in
    events_stay middle changes K came e below there
events_stay J (cuts at ∷ changes) K (middle, is, came) e below one = events_stay middle changes K came e below.1 (event_stays J at middle e is (ltb-true at e.0 below.0) one)

-- ---- and each row, or a cut took it

pub rows_stay : (J : List Row) (changes : List Change) (K : List Row) (came : AreChanged J changes K) (row : Row) → Contains J row → Contains K row ⊎ WasCut row J changes K came
rows_stay J [] K came row one = inl (subst (λ (R : List Row). Contains R row) (sym came) one)
rows_stay J (adds rows ∷ changes) K (middle, is, came) row one =
    rows_stay middle changes K came row (subst (λ (R : List Row). Contains R row) (sym is) (Contains-append_left J rows row one))
rows_stay J (cuts at ∷ changes) K (middle, is, came) row one =
    ⊎_elim
    (λ front. inr (inl front))
    (λ others.
    ⊎_elim (λ there. inl there) (λ taken. inr (inr taken))
    (rows_stay middle changes K came row (subst (λ (R : List Row). Contains R row) (sym is.now) (Contains-append_right is.carried is.others row others))))
    (Contains-append_cases is.front is.others row (subst (λ (R : List Row). Contains R row) is.whole one))

-- ---- without a cut

pub all_stay : (J : List Row) (changes : List Change) (K : List Row) → AreChanged J changes K → AllCuts (λ at. false) changes → (more : List Row) × (K ≡ J ++ more)
all_stay J [] K came none = ([], came ∙ sym (append-nil J))
all_stay J (adds rows ∷ changes) K (middle, is, came) none =
    let more = all_stay middle changes K came none in
    (rows ++ more.0, more.1 ∙ ap (λ (R : List Row). R ++ more.0) is ∙ append_assoc J rows more.0)
all_stay J (cuts at ∷ changes) K (middle, is, came) none = absurd (false≢true none.0)

-- ---- one change more

more_changes : (passes : ℕ → Bool) (J : List Row) (changes : List Change) (K : List Row) (came : AreChanged J changes K) → AreJournals J changes K came → AllCuts passes changes
    → (change : Change) (L : List Row) → IsChanged K change L → AllCuts passes (change ∷ []) → IsJournal L → ComesFrom passes J L
more_changes passes J [] K came are all change L step at journal =
    let Q : List Row → Type 0 = λ R. IsChanged R change L in
    record { changes = change ∷ []; came = (L, subst Q came step, refl); journals = (are, journal); numbers = at }
more_changes passes J (adds rows ∷ changes) K (middle, is, came) are all change L step at journal =
    let onwards = more_changes passes middle changes K came are.1 all change L step at journal in
    record { changes = adds rows ∷ onwards.changes; came = (middle, is, onwards.came); journals = (are.0, onwards.journals); numbers = onwards.numbers }
more_changes passes J (cuts number ∷ changes) K (middle, is, came) are all change L step at journal =
    let onwards = more_changes passes middle changes K came are.1 all.1 change L step at journal in
    record { changes = cuts number ∷ onwards.changes; came = (middle, is, onwards.came); journals = (are.0, onwards.journals); numbers = (all.0, onwards.numbers) }

pub comes_itself : (passes : ℕ → Bool) (J : List Row) → IsJournal J → ComesFrom passes J J
comes_itself passes J is = record { changes = []; came = refl; journals = is; numbers = tt }

pub comes_longer : (passes : ℕ → Bool) (J K rows : List Row) → ComesFrom passes J K → IsJournal (K ++ rows) → ComesFrom passes J (K ++ rows)
comes_longer passes J K rows from is = more_changes passes J from.changes K from.came from.journals from.numbers (adds rows) (K ++ rows) refl tt is

pub comes_cut : (passes : ℕ → Bool) (J K : List Row) (number : ℕ) → ComesFrom passes J K → passes number ≡ true → IsJournal K → MayCut K number → ComesFrom passes J (cut K number)
comes_cut passes J K number from at is may =
    let step = cut_is K number is may in
    more_changes passes J from.changes K from.came from.journals from.numbers (cuts number) (cut K number) step (at, tt) (cut_journal K number (cut K number) step is)
