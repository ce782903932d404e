-- The numbers of a journal rise, and each stands for one event.
use Rattle.std.proofs.Common.{◌≡◌, ◌⊎◌, inl, inr, ⊎_elim, ℕ, zero, suc, ◌<◌, ◌≤◌, Bool, true, false, ◌&&◌, ◌||◌, nat_lt, List, [], ◌∷◌, ◌++◌, Option, Some, None, Contains, cond, refl, sym, ◌∙◌, ap, subst, arith, append_assoc}
use Rattle.std.specs.Prelude.{◌==◌, if◌then◌else◌, nat_le}
use Rattle.std.specs.Bool.{beq}
use Rattle.std.specs.List.{list_all}
use Rattle.std.proofs.lemmas.Bool.{and_parts, false≢true, or_cases}
use Rattle.std.proofs.lemmas.Bool.Decides.{nat_tests}
use Rattle.std.proofs.lemmas.List.Folds.{list_all-append}
use Rattle.at_event.specs.Refusals.{code_of}
use Rattle.at_event.specs.declared.refusal.Refusal.{Refusal}
use Rattle.relay_row.specs.Folds.{cursor, events, events_in, events_of, folded, last_after, last_seq, seq_in, first_seq}
use Rattle.relay_row.specs.Journal.{IsJournal, are_none, rises_above, keeps_order}
use Rattle.relay_row.specs.Rules.{is_accepted, is_carried, is_decided, is_empty, is_effect, is_detail, is_fetched, is_head, is_about, is_message, is_moment, is_nothing, is_number, is_operated, is_positive, is_refused, is_row, is_taken, is_timed, is_whole, loses, names_did, names_host}
use Rattle.relay_row.specs.declared.carried.Carried.{Carried}
use Rattle.relay_row.specs.declared.fetched.Fetched.{Fetched}
use Rattle.relay_row.specs.declared.fetched.Whole.{Whole}
use Rattle.relay_row.specs.declared.operated.Operated.{Operated}
use Rattle.relay_row.specs.declared.row.Row.{Row}
use Rattle.relay_row.specs.declared.taken.Taken.{Taken}
use Rattle.relay_row.proofs.Journals.{lasts_joined}

abbrev pub Event : Type 0
Event = ℕ × List ℕ

abbrev pub IsIn : Event → List Event → Type 0
IsIn e [] = ⊥
IsIn e (x ∷ xs) = (x ≡ e) ⊎ IsIn e xs

pub is_in : (xs : List Event) (e : Event) → Contains xs e → IsIn e xs
is_in [] e (k, less, is) = absurd (omega (arith, less))
is_in (x ∷ xs) e (zero, less, is) = inl is
is_in (x ∷ xs) e (suc k, less, is) = inr (is_in xs e (k, omega (arith, less), is))

pub in_joined : (xs ys : List Event) (e : Event) → IsIn e (xs ++ ys) → IsIn e xs ⊎ IsIn e ys
in_joined [] ys e is = inr is
in_joined (x ∷ xs) ys e (inl is) = inl (inl is)
in_joined (x ∷ xs) ys e (inr is) = ⊎_elim (λ one. inl (inr one)) (λ other. inr other) (in_joined xs ys e is)

-- ---- a row sends out one event at most

abbrev pub AreFew : List Event → Type 0
AreFew [] = Unit {0}
AreFew (x ∷ []) = Unit {0}
AreFew (x ∷ (y ∷ xs)) = ⊥

few_of : (f : Fetched) → AreFew (events_of f)
few_of Fetched.NotAsked = tt
few_of Fetched.Absent = tt
few_of (Fetched.Refused n) = tt
few_of (Fetched.Whole w) = tt

few_if : (b : Bool) (xs ys : List Event) → AreFew xs → AreFew ys → AreFew (if b then xs else ys)
few_if true xs ys one other = one
few_if false xs ys one other = other

pub few_in : (row : Row) → AreFew (events_in row)
few_in (Row.Taken t) = few_if (t.seq == 0) (events_of t.fetched) ((t.seq, t.message) ∷ []) (few_of t.fetched) tt
few_in (Row.Synced did whole moment) = tt
few_in (Row.Operated o) = tt
few_in (Row.Carried c) = tt

pub one_of_few : (xs : List Event) (e f : Event) → AreFew xs → IsIn e xs → IsIn f xs → e ≡ f
one_of_few [] e f few one other = absurd one
one_of_few (x ∷ []) e f few (inl one) (inl other) = sym one ∙ other
one_of_few (x ∷ []) e f few (inl one) (inr other) = absurd other
one_of_few (x ∷ []) e f few (inr one) other = absurd one
one_of_few (x ∷ (y ∷ xs)) e f few one other = absurd few

seq_of_few : (xs : List Event) (e : Event) → AreFew xs → IsIn e xs → first_seq xs ≡ e.0
seq_of_few [] e few one = absurd one
seq_of_few (x ∷ []) e few (inl one) = ap (λ (event : Event). event.0) one
seq_of_few (x ∷ []) e few (inr one) = absurd one
seq_of_few (x ∷ (y ∷ xs)) e few one = absurd few

pub seq_is : (row : Row) (e : Event) → IsIn e (events_in row) → seq_in row ≡ e.0
seq_is (Row.Taken t) e is = seq_of_few (events_in (Row.Taken t)) e (few_in (Row.Taken t)) is
seq_is (Row.Synced did whole moment) e is = seq_of_few (events_in (Row.Synced did whole moment)) e tt is
seq_is (Row.Operated o) e is = seq_of_few (events_in (Row.Operated o)) e tt is
seq_is (Row.Carried c) e is = absurd is

-- ---- whose number is one

above_zero : (n : ℕ) → is_positive n ≡ true → 0 < n
above_zero n is = let less : nat_lt 0 n ≡ true = (and_parts (nat_lt 0 n) (is_number n) is).0 in grind (arith, nat_tests)

whole_positive : (w : Whole) → is_whole w ≡ true → is_positive w.seq ≡ true
unfolding is_whole
whole_positive w is = (and_parts (is_positive w.seq) (is_head w.head && (is_number w.records && is_message w.message)) is).0

positive_at : (x e : Event) → x ≡ e → is_positive x.0 ≡ true → is_positive e.0 ≡ true
positive_at x e same is = subst (λ (event : Event). is_positive event.0 ≡ true) same is

of_fetched : (due timed : Bool) (f : Fetched) (e : Event) → is_fetched due timed f ≡ true → IsIn e (events_of f) → is_positive e.0 ≡ true
of_fetched due timed Fetched.NotAsked e is one = absurd one
of_fetched due timed Fetched.Absent e is one = absurd one
of_fetched due timed (Fetched.Refused n) e is one = absurd one
of_fetched due timed (Fetched.Whole w) e is (inl one) = positive_at (w.seq, w.message) e one (whole_positive w (and_parts due (is_whole w) is).1)
of_fetched due timed (Fetched.Whole w) e is (inr one) = absurd one

-- what was fetched has its form, and the number of the message itself is none or one
record IsSent (t : Taken) : Type 0 where
  due : Bool
  fetched : is_fetched due (is_timed t.moment) t.fetched ≡ true
  numbered : ((t.seq == 0) ≡ true) ⊎ (is_positive t.seq ≡ true)

decided_sent : (q : Option Refusal) (t : Taken) → is_decided q t ≡ true → IsSent t
unfolding is_accepted is_refused
decided_sent None t h =
    let out : Bool = (is_positive t.seq && is_message t.message) || (t.kind == 4 && (t.seq == 0 && is_empty t.message)) in
    let two = and_parts (is_fetched false (is_timed t.moment) t.fetched) out (and_parts (is_effect t.kind t.effect) (is_fetched false (is_timed t.moment) t.fetched && out) h).1 in
    record {
      due = false;
      fetched = two.0;
      numbered = ⊎_elim
          (λ own. inr (and_parts (is_positive t.seq) (is_message t.message) own).0)
          (λ held. inl (and_parts (t.seq == 0) (is_empty t.message) (and_parts (t.kind == 4) (t.seq == 0 && is_empty t.message) held).1).0)
          (or_cases (is_positive t.seq && is_message t.message) (t.kind == 4 && (t.seq == 0 && is_empty t.message)) two.1);
    }
decided_sent (Some r) t h =
    let fetch : Bool = is_fetched (loses (code_of r)) (is_timed t.moment) t.fetched && (t.seq == 0 && is_empty t.message) in
    let nothing : Bool = is_nothing t.effect && fetch in
    let read : Bool = beq (t.kind == 0) (code_of r == 1) && nothing in
    let few : Bool = nat_le t.kind 4 && read in
    let known : Bool = nat_le (code_of r) 24 || (code_of r == 25 && is_timed t.moment) in
    let three = and_parts (nat_le t.kind 4) read (and_parts (is_detail r && known) few h).1 in
    let four = and_parts (beq (t.kind == 0) (code_of r == 1)) nothing three.1 in
    let five = and_parts (is_nothing t.effect) fetch four.1 in
    let six = and_parts (is_fetched (loses (code_of r)) (is_timed t.moment) t.fetched) (t.seq == 0 && is_empty t.message) five.1 in
    record { due = loses (code_of r); fetched = six.0; numbered = inl (and_parts (t.seq == 0) (is_empty t.message) six.1).0 }

taken_sent : (t : Taken) → is_taken t ≡ true → IsSent t
unfolding is_taken
taken_sent t h =
    let one = and_parts (names_host t.host) (is_number t.host_seq && (is_about t.kind t.did && (is_moment t.moment && is_decided t.refusal t))) h in
    let two = and_parts (is_number t.host_seq) (is_about t.kind t.did && (is_moment t.moment && is_decided t.refusal t)) one.1 in
    let three = and_parts (is_about t.kind t.did) (is_moment t.moment && is_decided t.refusal t) two.1 in
    decided_sent t.refusal t (and_parts (is_moment t.moment) (is_decided t.refusal t) three.1).1

in_if : (b : Bool) (t : Taken) (e : Event) → (t.seq == 0) ≡ b → IsSent t → IsIn e (if b then events_of t.fetched else (t.seq, t.message) ∷ []) → is_positive e.0 ≡ true
in_if true t e test sent one = of_fetched sent.due (is_timed t.moment) t.fetched e sent.fetched one
in_if false t e test sent (inl one) = positive_at (t.seq, t.message) e one (⊎_elim (λ none. absurd (false≢true (sym test ∙ none))) (λ is. is) sent.numbered)
in_if false t e test sent (inr one) = absurd one

operated_positive : (o : Operated) → is_operated o ≡ true → is_positive o.seq ≡ true
unfolding is_operated
operated_positive o is = (and_parts (is_positive o.seq) (is_message o.message && is_moment o.moment) (and_parts (names_did o.did) (is_positive o.seq && (is_message o.message && is_moment o.moment)) is).1).0

synced_positive : (did : List ℕ) (whole : Whole) (moment : Option ℕ) → is_row (Row.Synced did whole moment) ≡ true → is_positive whole.seq ≡ true
unfolding is_row
synced_positive did whole moment is = whole_positive whole (and_parts (is_whole whole) (is_moment moment) (and_parts (names_did did) (is_whole whole && is_moment moment) is).1).0

pub sent_positive : (row : Row) (e : Event) → is_row row ≡ true → IsIn e (events_in row) → is_positive e.0 ≡ true
unfolding is_row
sent_positive (Row.Taken t) e is one = in_if (t.seq == 0) t e refl (taken_sent t is) one
sent_positive (Row.Synced did whole moment) e is (inl one) = positive_at (whole.seq, whole.message) e one (synced_positive did whole moment is)
sent_positive (Row.Synced did whole moment) e is (inr one) = absurd one
sent_positive (Row.Operated o) e is (inl one) = positive_at (o.seq, o.message) e one (operated_positive o is)
sent_positive (Row.Operated o) e is (inr one) = absurd one
sent_positive (Row.Carried c) e is one = absurd one

pub sent_above : (row : Row) (e : Event) → is_row row ≡ true → IsIn e (events_in row) → 0 < e.0
sent_above row e is one = above_zero e.0 (sent_positive row e is one)

first_number : (es : List Event) → ((e : Event) → IsIn e es → is_positive e.0 ≡ true) → is_number (first_seq es) ≡ true
first_number [] each = refl
first_number (x ∷ xs) each = (and_parts (nat_lt 0 x.0) (is_number x.0) (each x (inl refl))).1

carried_number : (c : Carried) → is_carried c ≡ true → is_number (seq_in (Row.Carried c)) ≡ true
unfolding is_carried
carried_number (Carried.Last seq) is = (and_parts (nat_lt 0 seq) (is_number seq) is).1
carried_number (Carried.Host host n) is = refl
carried_number (Carried.Account a) is = refl

row_number : (row : Row) → is_row row ≡ true → is_number (seq_in row) ≡ true
unfolding is_row
row_number (Row.Taken t) is = first_number (events_in (Row.Taken t)) (λ e one. sent_positive (Row.Taken t) e is one)
row_number (Row.Synced did whole moment) is = first_number (events_in (Row.Synced did whole moment)) (λ e one. sent_positive (Row.Synced did whole moment) e is one)
row_number (Row.Operated o) is = first_number (events_in (Row.Operated o)) (λ e one. sent_positive (Row.Operated o) e is one)
row_number (Row.Carried c) is = carried_number c is

lasts_number : (n : ℕ) (rows : List Row) → is_number n ≡ true → list_all is_row rows ≡ true → is_number (folded last_after n rows) ≡ true
lasts_number n [] is formed = is
lasts_number n (row ∷ rows) is formed =
    let both = and_parts (is_row row) (list_all is_row rows) formed in
    lasts_number (last_after n row) rows (elim (seq_in row == 0) as (λ b. is_number (cond b n (seq_in row)) ≡ true) [ true ↦ is | false ↦ row_number row both.0 ]) both.1

-- the last number of well formed rows is one
pub last_number : (rows : List Row) → list_all is_row rows ≡ true → is_number (last_seq rows) ≡ true
unfolding last_seq
last_number rows formed = lasts_number 0 rows refl formed

-- ---- numbers rise

abbrev pub AllRise : ℕ → List Row → Type 0
AllRise last [] = Unit {0}
AllRise last (row ∷ rows) = ((seq_in row ≡ 0) ⊎ (last < seq_in row)) × (is_row row ≡ true) × AllRise (last_after last row) rows

above_by : (last n : ℕ) (b : Bool) → (n == 0) ≡ b → b || nat_lt last n ≡ true → (n ≡ 0) ⊎ (last < n)
above_by last n true none is = inl (grind (arith, nat_tests))
above_by last n false some is = inr (grind (arith, nat_tests))

above : (last n : ℕ) → rises_above last n ≡ true → (n ≡ 0) ⊎ (last < n)
above last n is = above_by last n (n == 0) refl is

first_alone : (before : List Row) (n : ℕ) → are_none before ≡ true → (n ≡ 0) ⊎ (last_seq before < n)
unfolding last_seq
first_alone [] n none = ⊎_elim (λ zero. inl zero) (λ more. inr more) (zero_or_more n)
  where
    zero_or_more : (n : ℕ) → (n ≡ 0) ⊎ (0 < n)
    zero_or_more zero = inl refl
    zero_or_more (suc n) = inr (omega arith)
first_alone (row ∷ before) n none = absurd cc

rises : (before : List Row) (row : Row) → keeps_order before row ≡ true → (seq_in row ≡ 0) ⊎ (last_seq before < seq_in row)
rises before (Row.Taken t) is = above (last_seq before) (seq_in (Row.Taken t)) (and_parts (nat_lt (cursor t.host before) t.host_seq) (rises_above (last_seq before) (seq_in (Row.Taken t))) is).1
rises before (Row.Synced did whole moment) is = above (last_seq before) whole.seq is
rises before (Row.Operated o) is = above (last_seq before) o.seq is
rises before (Row.Carried (Carried.Last seq)) is = first_alone before seq is
rises before (Row.Carried (Carried.Host host n)) is = inl refl
rises before (Row.Carried (Carried.Account a)) is = inl refl

pub formed_at : (before : List Row) (row : Row) (rows : List Row) → list_all is_row (before ++ row ∷ rows) ≡ true → is_row row ≡ true
formed_at before row rows is =
    let behind = and_parts (list_all is_row before) (list_all is_row (row ∷ rows)) (sym (list_all-append is_row before (row ∷ rows)) ∙ is) in
    (and_parts (is_row row) (list_all is_row rows) behind.1).0

pub all_rise : (before rows : List Row) → IsJournal (before ++ rows) → AllRise (last_seq before) rows
all_rise before [] is = tt
all_rise before (row ∷ rows) is = (
  rises before row (is.ordered before row rows refl),
  formed_at before row rows is.formed,
  subst (λ (n : ℕ). AllRise n rows) (lasts_joined before (row ∷ [])) (all_rise (before ++ row ∷ []) rows (subst IsJournal (sym (append_assoc before (row ∷ []) rows)) is)),
)

last_stays : (last : ℕ) (row : Row) → seq_in row ≡ 0 → last_after last row ≡ last
last_stays last row none = let test : (seq_in row == 0) ≡ true = grind (arith, nat_tests) in rw test refl

pub last_moves : (last : ℕ) (row : Row) → 0 < seq_in row → last_after last row ≡ seq_in row
last_moves last row some = let test : (seq_in row == 0) ≡ false = grind (arith, nat_tests) in rw test refl

last_rises : (last : ℕ) (row : Row) → (seq_in row ≡ 0) ⊎ (last < seq_in row) → last ≤ last_after last row
last_rises last row (inl none) = omega (arith, last_stays last row none)
last_rises last row (inr less) = omega (arith, less, last_moves last row (omega (arith, less)))

-- each event behind a number has a greater one
pub behind : (last : ℕ) (rows : List Row) (e : Event) → AllRise last rows → IsIn e (events rows) → last < e.0
behind last [] e rise one = absurd one
behind last (row ∷ rows) e rise one = ⊎_elim
    (λ here. ⊎_elim (λ none. absurd (omega (arith, none, seq_is row e here, sent_above row e rise.1 here))) (λ less. omega (arith, less, seq_is row e here)) rise.0)
    (λ there. omega (arith, last_rises last row rise.0, behind (last_after last row) rows e rise.2 there))
    (in_joined (events_in row) (events rows) e one)

-- so one number has one event
not_again : (last : ℕ) (row : Row) (rows : List Row) (e f : Event) → AllRise last (row ∷ rows) → e.0 ≡ f.0 → IsIn e (events_in row) → IsIn f (events rows) → ⊥
not_again last row rows e f rise same here there =
    let some = sent_above row e rise.1 here in
    let is = seq_is row e here in
    let next = last_moves last row (omega (arith, some, is)) in
    absurd (omega (arith, same, is, next, behind (last_after last row) rows f rise.2 there))

pub one_event : (last : ℕ) (rows : List Row) (e f : Event) → AllRise last rows → e.0 ≡ f.0 → IsIn e (events rows) → IsIn f (events rows) → e ≡ f
one_event last [] e f rise same one other = absurd one
one_event last (row ∷ rows) e f rise same one other = ⊎_elim
    (λ here. ⊎_elim
    (λ also. one_of_few (events_in row) e f (few_in row) here also)
    (λ there. absurd (not_again last row rows e f rise same here there))
    (in_joined (events_in row) (events rows) f other))
    (λ later. ⊎_elim
    (λ also. absurd (not_again last row rows f e rise (sym same) also later))
    (λ there. one_event (last_after last row) rows e f rise.2 same later there)
    (in_joined (events_in row) (events rows) f other))
    (in_joined (events_in row) (events rows) e one)

-- ---- and never fall

pub lasts_rise : (last : ℕ) (rows : List Row) → AllRise last rows → last ≤ folded last_after last rows
lasts_rise last [] rise = omega arith
lasts_rise last (row ∷ rows) rise = omega (arith, last_rises last row rise.0, lasts_rise (last_after last row) rows rise.2)

-- no event has a greater number than the last one
pub within : (last : ℕ) (rows : List Row) (e : Event) → AllRise last rows → IsIn e (events rows) → e.0 ≤ folded last_after last rows
within last [] e rise one = absurd one
within last (row ∷ rows) e rise one = ⊎_elim
    (λ here.
    let is = seq_is row e here in
    omega (arith, is, last_moves last row (omega (arith, is, sent_above row e rise.1 here)), lasts_rise (last_after last row) rows rise.2))
    (λ there. within (last_after last row) rows e rise.2 there)
    (in_joined (events_in row) (events rows) e one)
