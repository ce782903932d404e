-- What is seen of a row's encoding is what the row sends out.
use Rattle.std.proofs.Common.{◌≡◌, ℕ, ◌+◌, ◌*◌, ◌^◌, ◌<◌, ◌≤◌, Bool, true, false, cond, leb, eqb, List, [], ◌∷◌, ◌++◌, length, Option, Some, None, refl, sym, ap, ◌∙◌, arith, lit<}
use Rattle.std.specs.Prelude.{option_map}
use Rattle.std.proofs.lemmas.Bool.{and_parts}
use Rattle.std.proofs.lemmas.Bool.Decides.{nat_tests}
use Rattle.std.proofs.lemmas.Option.{same_Some}
use Rattle.at_cbor.specs.declared.major.Major.{Major}
use Rattle.at_cbor.specs.Item.{Item}
use Rattle.at_cbor.specs.Encoding.{info_of, tail_of, front_of, encoding, IsText}
use Rattle.at_cbor.specs.Taking.{◌>>=◌}
use Rattle.at_cbor.proofs.Fronts.{form_0}
use Rattle.at_cbor.proofs.Taken.{number_again, string_again, text_again}
use Rattle.at_event.specs.Writing.{number_item as number}
use Rattle.relay_row.specs.declared.taken.Taken.{Taken}
use Rattle.relay_row.specs.declared.fetched.Whole.{Whole}
use Rattle.relay_row.specs.declared.fetched.Fetched.{Fetched}
use Rattle.relay_row.specs.declared.operated.Operated.{Operated}
use Rattle.relay_row.specs.declared.carried.Carried.{Carried}
use Rattle.relay_row.specs.declared.row.Row.{Row}
use Rattle.relay_row.specs.Folds.{did_of_row, events_of, events_in}
use Rattle.row_codec.specs.Items.{rev_text, list, if_there, code, detail_items, whole_items, effect_item, fetched_item, row_items}
use Rattle.row_codec.specs.Bodies.{row_encoding}
use Rattle.relay_row.specs.Rules.{is_positive, is_moment, is_message, is_whole, is_timed, names_did, is_taken, is_operated, is_row}
use Rattle.relay_row.proofs.Fits.{message_fits, FitsFetched, Fits, taken_fits, did_text}
use Rattle.row_codec.proofs.Again.{then_encode, list_then, repo_number_small}
use Rattle.row_codec.proofs.AgainRows.{code_fits, few_items}
use Rattle.row_peek.specs.declared.peeked.Peeked.{Peeked}
use Rattle.row_peek.specs.Peeked.{is_of_repo, Sees}
use Rattle.row_peek.specs.Peeking.{Seen, seen, message_at, whole_items_at, whole_at, outcome_at, taken_at, synced_at, operated_at, peeked_at}
use Rattle.row_peek.proofs.Passed.{scalars_passed, items_passed, scalar_passes}
use Rattle.row_peek.proofs.Rows.{number_short, positive_short, whole_fits, detail_passes, effect_passes}

-- ---- messages

message_seen : (m rest : List ℕ) → length m < 2 ^ 64 → message_at (encoding (Item.bytes m) ++ rest) ≡ Some m
unfolding message_at
message_seen m rest short = rw (string_again m rest short) refl

-- the first of these events
abbrev first_event : List (ℕ × List ℕ) → Option (ℕ × List ℕ)
first_event [] = None
first_event (event ∷ others) = Some event

-- the items of a whole repository between its number and its message
abbrev between : Whole → List Item
between w = rev_text w.head.rev ∷ Item.link w.head.data_root ∷ Item.link w.head.commit ∷ number w.records ∷ []

items_of_whole : (w : Whole) (rest : List ℕ) → is_whole w ≡ true
    → whole_items_at (encoding (number w.seq) ++ then_encode (between w) (encoding (Item.bytes w.message) ++ rest)) ≡ Some (w.seq, w.message)
unfolding whole_items_at
items_of_whole w rest is =
    let fits = whole_fits w is in
    let behind = encoding (Item.bytes w.message) ++ rest in
    rw (number_again Major.Unsigned w.seq (then_encode (between w) behind) fits.before.0)
    (rw (scalars_passed (between w) behind fits.before.1) (rw (message_seen w.message rest fits.message) refl))

whole_seen : (w : Whole) (rest : List ℕ) → is_whole w ≡ true → whole_at (encoding (list (whole_items w)) ++ rest) ≡ Some (w.seq, w.message)
unfolding whole_at info_of tail_of
whole_seen w rest is = ap whole_at (list_then (whole_items w) rest) ∙ items_of_whole w rest is

no_whole : (b : ℕ) (bytes : List ℕ) → b < 24 → whole_at (b ∷ bytes) ≡ None
unfolding whole_at
no_whole b bytes small = let other : eqb b 134 ≡ false = grind (arith, nat_tests) in rw other refl

fetched_seen : (timed : Bool) (x : Fetched) (rest : List ℕ) → FitsFetched timed x → whole_at (encoding (fetched_item x) ++ rest) ≡ first_event (events_of x)
unfolding whole_at
fetched_seen timed Fetched.NotAsked rest is = refl
fetched_seen timed Fetched.Absent rest is = no_whole (32 * 0 + info_of 0) (tail_of 0 ++ rest) (omega (arith, (form_0 0 (lit< tt)).0))
fetched_seen timed (Fetched.Refused n) rest is =
    let small = (repo_number_small timed n is).1 in
    no_whole (32 * 0 + info_of n) (tail_of n ++ rest) (omega (arith, (form_0 n small).0))
fetched_seen timed (Fetched.Whole w) rest is = whole_seen w rest is

-- ---- taken messages

abbrev outcome_of : Taken → Option (Bool × (ℕ × List ℕ))
outcome_of t = cond (eqb t.seq 0) (first_event (events_of t.fetched) >>= λ e. Some (true, e)) (Some (leb t.kind 2, (t.seq, t.message)))

outcome_seen : (t : Taken) (rest : List ℕ) → Fits t → outcome_at t.kind (then_encode (number t.seq ∷ Item.bytes t.message ∷ effect_item t.effect ∷ fetched_item t.fetched ∷ []) rest) ≡ outcome_of t
unfolding outcome_at
outcome_seen t rest r =
    rw (number_again Major.Unsigned t.seq (then_encode (Item.bytes t.message ∷ effect_item t.effect ∷ fetched_item t.fetched ∷ []) rest) (number_short t.seq r.seq))
    (rw (string_again t.message (then_encode (effect_item t.effect ∷ fetched_item t.fetched ∷ []) rest) r.message.0)
    (rw (effect_passes t.effect r.effect (encoding (fetched_item t.fetched) ++ rest))
    (rw (fetched_seen (is_timed t.moment) t.fetched rest r.fetched) refl)))

taken_seen : (t : Taken) (rest : List ℕ) → is_taken t ≡ true
    → taken_at (then_encode (Item.text t.host ∷ number t.host_seq ∷ Item.text t.did ∷ number t.kind ∷ number (code t.refusal) ∷ list (detail_items t.refusal) ∷ number t.seq ∷ Item.bytes t.message ∷ effect_item t.effect ∷ fetched_item t.fetched ∷ []) rest)
    ≡ (outcome_of t >>= λ o. Some (t.did, o))
unfolding taken_at
taken_seen t rest h =
    let r = taken_fits t h in
    let out = then_encode (number t.seq ∷ Item.bytes t.message ∷ effect_item t.effect ∷ fetched_item t.fetched ∷ []) rest in
    let decided = then_encode (number (code t.refusal) ∷ list (detail_items t.refusal) ∷ []) out in
    let named = then_encode (Item.text t.did ∷ number t.kind ∷ []) decided in
    rw (scalars_passed (Item.text t.host ∷ number t.host_seq ∷ []) named (r.host.0.0, (number_short t.host_seq r.host_seq, tt)))
    (rw (text_again t.did (encoding (number t.kind) ++ decided) r.did)
    (rw (number_again Major.Unsigned t.kind decided (omega (arith, r.kind)))
    (rw (items_passed (number (code t.refusal) ∷ list (detail_items t.refusal) ∷ []) out (scalar_passes (number (code t.refusal)) (omega (arith, code_fits t.refusal r.refusal)), (detail_passes t h, tt)))
    (rw (outcome_seen t rest r) refl))))

-- ---- rows

-- the first of a row's events
abbrev told : List ℕ → Bool → List (ℕ × List ℕ) → Option Seen
told did of_repo [] = None
told did of_repo (event ∷ others) = Some (did, (of_repo, event))

abbrev peeked_of : Row → Option Seen
peeked_of row = told (did_of_row row) (is_of_repo row) (events_in row)

outcome_decided : (did : List ℕ) (none big : Bool) (seq : ℕ) (message : List ℕ) (x : Fetched)
    → ((cond none (first_event (events_of x) >>= λ e. Some (true, e)) (Some (big, (seq, message)))) >>= λ o. Some (did, o)) ≡ told did (cond none true big) (cond none (events_of x) ((seq, message) ∷ []))
outcome_decided did false big seq message x = refl
outcome_decided did true big seq message Fetched.NotAsked = refl
outcome_decided did true big seq message Fetched.Absent = refl
outcome_decided did true big seq message (Fetched.Refused n) = refl
outcome_decided did true big seq message (Fetched.Whole w) = refl

front_seen : (is : List Item) (rest : List ℕ) → length is < 24 → peeked_at (encoding (list is) ++ rest) ≡ peeked_at ((32 * 4 + length is) ∷ then_encode is rest)
front_seen is rest few =
    let form = form_0 (length is) few in
    let made : front_of Major.List (length is) ≡ (32 * 4 + length is) ∷ [] = rw (form.0, form.1) refl in
    ap peeked_at (list_then is rest) ∙ ap (λ (front : List ℕ). peeked_at (front ++ then_encode is rest)) made

of_taken : (b : ℕ) (bytes : List ℕ) → peeked_at (b ∷ (encoding (number 1) ++ bytes)) ≡ taken_at bytes
unfolding peeked_at info_of tail_of
of_taken b bytes = refl

of_synced : (b : ℕ) (bytes : List ℕ) → peeked_at (b ∷ (encoding (number 2) ++ bytes)) ≡ synced_at bytes
unfolding peeked_at info_of tail_of
of_synced b bytes = refl

of_operated : (b : ℕ) (bytes : List ℕ) → peeked_at (b ∷ (encoding (number 3) ++ bytes)) ≡ operated_at bytes
unfolding peeked_at info_of tail_of
of_operated b bytes = refl

of_carried : (b : ℕ) (bytes : List ℕ) → peeked_at (b ∷ (encoding (number 4) ++ bytes)) ≡ None
unfolding peeked_at info_of tail_of
of_carried b bytes = refl

synced_seen : (did : List ℕ) (whole : Whole) (rest : List ℕ) → IsText did → is_whole whole ≡ true → synced_at (then_encode (Item.text did ∷ list (whole_items whole) ∷ []) rest) ≡ Some (did, (true, (whole.seq, whole.message)))
unfolding synced_at
synced_seen did whole rest text is = rw (text_again did (encoding (list (whole_items whole)) ++ rest) text) (rw (whole_seen whole rest is) refl)

operated_seen : (o : Operated) (rest : List ℕ) → is_operated o ≡ true → operated_at (then_encode (Item.text o.did ∷ Item.bool o.down ∷ number o.seq ∷ Item.bytes o.message ∷ []) rest) ≡ Some (o.did, (false, (o.seq, o.message)))
unfolding operated_at is_operated
operated_seen o rest h =
    let a = and_parts (names_did o.did) _ h in
    let b = and_parts (is_positive o.seq) _ a.1 in
    let c = and_parts (is_message o.message) (is_moment o.moment) b.1 in
    let out = encoding (Item.bytes o.message) ++ rest in
    rw (text_again o.did (then_encode (Item.bool o.down ∷ number o.seq ∷ []) out) (did_text o.did a.0))
    (rw (scalars_passed (Item.bool o.down ∷ []) (encoding (number o.seq) ++ out) (tt, tt))
    (rw (number_again Major.Unsigned o.seq out (positive_short o.seq b.0))
    (rw (message_seen o.message rest (message_fits o.message c.0).0) refl)))

items_seen : (b : ℕ) (row : Row) (rest : List ℕ) → is_row row ≡ true → peeked_at (b ∷ then_encode (row_items row) rest) ≡ peeked_of row
unfolding is_row
items_seen b (Row.Taken t) rest h =
    of_taken b _ ∙ (taken_seen t (then_encode (if_there number t.moment) rest) h ∙ outcome_decided t.did (eqb t.seq 0) (leb t.kind 2) t.seq t.message t.fetched)
items_seen b (Row.Synced did whole moment) rest h =
    let a = and_parts (names_did did) _ h in
    let c = and_parts (is_whole whole) (is_moment moment) a.1 in
    of_synced b _ ∙ synced_seen did whole (then_encode (if_there number moment) rest) (did_text did a.0) c.0
items_seen b (Row.Operated o) rest h = of_operated b _ ∙ operated_seen o (then_encode (if_there number o.moment) rest) h
items_seen b (Row.Carried (Carried.Last seq)) rest h = of_carried b _
items_seen b (Row.Carried (Carried.Host host cursor)) rest h = of_carried b _
items_seen b (Row.Carried (Carried.Account a)) rest h = of_carried b _

row_seen : (row : Row) (rest : List ℕ) → is_row row ≡ true → peeked_at (row_encoding row ++ rest) ≡ peeked_of row
unfolding row_encoding
row_seen row rest is = front_seen (row_items row) rest (few_items row) ∙ items_seen (32 * 4 + length (row_items row)) row rest is

-- ---- what is told of a row is what it sends out

lone : (none : Bool) (x : Fetched) (event : ℕ × List ℕ) → length (cond none (events_of x) (event ∷ [])) ≤ 1
lone false x event = omega arith
lone true Fetched.NotAsked event = omega arith
lone true Fetched.Absent event = omega arith
lone true (Fetched.Refused n) event = omega arith
lone true (Fetched.Whole w) event = omega arith

-- a row sends one event out at most
at_most_one : (row : Row) → length (events_in row) ≤ 1
at_most_one (Row.Taken t) = lone (eqb t.seq 0) t.fetched (t.seq, t.message)
at_most_one (Row.Synced did whole moment) = omega arith
at_most_one (Row.Operated o) = omega arith
at_most_one (Row.Carried c) = omega arith

shown_by : (row : Row) (events : List (ℕ × List ℕ)) (s : Option Peeked) → events_in row ≡ events → length events ≤ 1 → option_map seen s ≡ told (did_of_row row) (is_of_repo row) events → Sees row s
shown_by row [] None is few e = is
shown_by row [] (Some s) is few e = absurd cc
shown_by row (event ∷ []) None is few e = absurd cc
shown_by row (event ∷ []) (Some s) is few e =
    let same = same_Some (seen s) (did_of_row row, (is_of_repo row, event)) e in
    record {
      did = ap (λ (x : Seen). x.0) same;
      of_repo = ap (λ (x : Seen). x.1.0) same;
      event = is ∙ ap (λ (e : ℕ × List ℕ). e ∷ []) (sym (ap (λ (x : Seen). x.1.1) same));
    }
shown_by row (event ∷ other ∷ others) s is few e = absurd (omega (arith, few))

pub sees : (row : Row) (rest : List ℕ) (s : Option Peeked) → is_row row ≡ true → option_map seen s ≡ peeked_at (row_encoding row ++ rest) → Sees row s
sees row rest s is e = shown_by row (events_in row) s refl (at_most_one row) (e ∙ row_seen row rest is)
