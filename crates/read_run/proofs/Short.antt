-- The messages of a journal's events are short: each stands in a body of its log, whose length four bytes say.
use Rattle.std.proofs.Common.{◌≡◌, ◌⊎◌, ℕ, ◌<◌, ◌≤◌, ◌^◌, inl, inr, List, [], ◌∷◌, ◌++◌, length, Bool, true, false, Some, refl, ap, arith, length-append, subst, if◌then◌else◌, ◌==◌, nat_le}
use Rattle.std.proofs.lemmas.Bool.Decides.{nat_tests}
use Rattle.at_cbor.specs.declared.major.Major.{Major}
use Rattle.at_cbor.specs.Item.{Item, Items, items_of}
use Rattle.at_cbor.specs.Encoding.{front_of, items_count, items_encoding, encoding}
use Rattle.event_window.specs.Held.{Event}
use Rattle.gate_log.specs.Image.{AreShort, IsImage}
use Rattle.row_codec.specs.Bodies.{rows_body, row_encoding, encoded_rows}
use Rattle.relay_row.specs.Folds.{events_in, events_of}
use Rattle.row_codec.specs.Items.{fetched_item, list, row_items, whole_items}
use Rattle.relay_row.specs.declared.fetched.Fetched.{Fetched}
use Rattle.relay_row.specs.declared.fetched.Whole.{Whole}
use Rattle.relay_row.specs.declared.row.Row.{Row}
use Rattle.relay_store.specs.Journals.{IsPairImageOf, bytes_of, joined}
use Rattle.relay_store.specs.Shown.{held_by, is_shown, shown_of}
use Rattle.backfill.specs.Served.{following, messages_of, rising_above, served_events, standing_of}
use Rattle.backfill.specs.Writing.{has_long, is_too_long_to_frame}
use Rattle.backfill.specs.declared.standing.Standing.{Standing}

-- four bytes say the length of each
abbrev AllShort : List Event → Type 0
AllShort [] = Unit {0}
AllShort (e ∷ events) = (length e.1 < 2 ^ 32) × AllShort events

short_join : (one other : List Event) → AllShort one → AllShort other → AllShort (one ++ other)
short_join [] other first second = second
short_join (e ∷ one) other first second = (first.0, short_join one other first.1 second)

-- ---- a message is no longer than the list of items that has it

abbrev Within : List ℕ → Item → Type 0
Within message i = length message ≤ length (encoding i)

in_bytes : (message : List ℕ) → Within message (Item.bytes message)
in_bytes message = omega (arith, length-append (front_of Major.Bytes (length message)) message)

in_list : (message : List ℕ) (is : Items) → length message ≤ length (items_encoding is) → Within message (Item.list is)
in_list message is within = omega (
  arith,
  within,
  length-append (front_of Major.List (items_count is))
      (items_encoding is),
)

-- this is one of the items
abbrev Has : Item → List Item → Type 0
Has i [] = ⊥
Has i (other ∷ is) = (other ≡ i) ⊎ Has i is

in_items : (message : List ℕ) (i : Item) (is : List Item) → Has i is → Within message i
    → length message ≤ length (items_encoding (items_of is))
in_items message i [] has within = absurd has
in_items message i (other ∷ is) (inl same) within =
    omega (
      arith,
      within,
      ap (λ (x : Item). length (encoding x)) same,
      length-append (encoding other)
          (items_encoding (items_of is)),
    )
in_items message i (other ∷ is) (inr has) within =
    omega (arith, in_items message i is has within, length-append (encoding other) (items_encoding (items_of is)))

within_list : (message : List ℕ) (i : Item) (is : List Item) → Has i is → Within message i → Within message (list is)
within_list message i is has within = in_list message (items_of is) (in_items message i is has within)

in_whole : (w : Whole) → Within w.message (list (whole_items w))
in_whole w = within_list w.message (Item.bytes w.message) (whole_items w) (inr (inr (inr (inr (inr (inl refl))))))
    (in_bytes w.message)

abbrev AllWithin : ℕ → List Event → Type 0
AllWithin n [] = Unit {0}
AllWithin n (e ∷ events) = (length e.1 ≤ n) × AllWithin n events

fetched_within : (f : Fetched) (is : List Item) → Has (fetched_item f) is
    → AllWithin (length (encoding (list is))) (events_of f)
fetched_within Fetched.NotAsked is has = tt
fetched_within Fetched.Absent is has = tt
fetched_within (Fetched.Refused code) is has = tt
fetched_within (Fetched.Whole w) is has = (within_list w.message (list (whole_items w)) is has (in_whole w), tt)

either_within : (b : Bool) (n : ℕ) (one other : List Event) → AllWithin n one → AllWithin n other
    → AllWithin n (if b then one else other)
either_within true n one other first second = first
either_within false n one other first second = second

abbrev row_length : Row → ℕ
row_length row = length (encoding (list (row_items row)))

row_within : (row : Row) → AllWithin (row_length row) (events_in row)
row_within (Row.Taken t) =
    either_within (t.seq == 0) (row_length (Row.Taken t)) (events_of t.fetched) ((t.seq, t.message) ∷ [])
    (fetched_within t.fetched (row_items (Row.Taken t))
    (inr (inr (inr (inr (inr (inr (inr (inr (inr (inr (inl refl)))))))))))) (
      within_list t.message (Item.bytes t.message) (row_items (Row.Taken t))
          (inr (inr (inr (inr (inr (inr (inr (inr (inl refl))))))))) (in_bytes t.message),
      tt,
    )
row_within (Row.Synced did whole moment) = (
  within_list whole.message (list (whole_items whole)) (row_items (Row.Synced did whole moment))
      (inr (inr (inl refl))) (in_whole whole),
  tt,
)
row_within (Row.Operated o) = (
  within_list o.message (Item.bytes o.message) (row_items (Row.Operated o)) (inr (inr (inr (inr (inl refl)))))
      (in_bytes o.message),
  tt,
)
row_within (Row.Carried carried) = tt

-- ---- a row is no longer than the body that has it

row_is : (row : Row) → length (row_encoding row) ≡ row_length row
unfolding row_encoding
row_is row = refl

body_within : (rows : List Row) → length (encoded_rows rows) ≤ length (rows_body rows)
unfolding rows_body
body_within rows = omega (arith, length-append (front_of Major.List (length rows)) (encoded_rows rows))

within_short : (n : ℕ) (events : List Event) → n < 2 ^ 32 → AllWithin n events → AllShort events
within_short n [] low within = tt
within_short n (e ∷ events) low within = (omega (arith, low, within.0), within_short n events low within.1)

-- the events of each row are short
abbrev RowsShort : List Row → Type 0
RowsShort [] = Unit {0}
RowsShort (row ∷ rows) = AllShort (events_in row) × RowsShort rows

rows_join : (one other : List Row) → RowsShort one → RowsShort other → RowsShort (one ++ other)
rows_join [] other first second = second
rows_join (row ∷ one) other first second = (first.0, rows_join one other first.1 second)

encoded_short : (rows : List Row) → length (encoded_rows rows) < 2 ^ 32 → RowsShort rows
encoded_short [] low = tt
encoded_short (row ∷ rows) low =
    let all = length-append (row_encoding row) (encoded_rows rows) in (
      within_short (row_length row) (events_in row) (omega (arith, low, all, row_is row)) (row_within row),
      encoded_short
          rows (omega (arith, low, all)),
    )

bodies_short : (bodies : List (List Row)) → AreShort (bytes_of bodies) → RowsShort (joined bodies)
bodies_short [] short = tt
bodies_short (rows ∷ bodies) short =
    let low : length (rows_body rows) < 2 ^ 32 = short.0 in
    rows_join rows (joined bodies) (encoded_short rows (omega (arith, low, body_within rows)))
    (bodies_short bodies short.1)

-- ---- those that are shown, and those that are served

shown_either : (b : Bool) (events : List Event) → AllShort events → AllShort (if b then events else [])
shown_either true events short = short
shown_either false events short = tt

shown_short : (J rows : List Row) → RowsShort rows → AllShort (shown_of J rows)
shown_short J [] short = tt
shown_short J (row ∷ rows) short = short_join (if is_shown J row then events_in row else []) (shown_of J rows)
    (shown_either (is_shown J row) (events_in row) short.0) (shown_short J rows short.1)

rising_either : (b : Bool) (e : Event) (one other : List Event) → length e.1 < 2 ^ 32 → AllShort one → AllShort other
    → AllShort (if b then one else e ∷ other)
rising_either true e one other low first second = first
rising_either false e one other low first second = (low, second)

rising_short : (seq : ℕ) (events : List Event) → AllShort events → AllShort (rising_above seq events)
rising_short seq [] short = tt
rising_short seq (e ∷ events) short = rising_either (nat_le e.0 seq) e (rising_above seq events)
    (rising_above e.0 events) short.0 (rising_short seq events short.1) (rising_short e.0 events short.1)

none_long : (events : List Event) → AllShort events → has_long (messages_of events) ≡ false
none_long [] short = refl
none_long (e ∷ events) short =
    let test : is_too_long_to_frame e.1 ≡ false = let low : length e.1 < 2 ^ 32 = short.0 in grind (arith, nat_tests) in
    rw test (none_long events short.1)

following_short : (standing : Standing) (events : List Event) (cursor : ℕ) → AllShort events
    → has_long (following standing events cursor) ≡ false
following_short Standing.Future events cursor short = refl
following_short Standing.Outdated events cursor short =
    none_long (rising_above cursor events) (rising_short cursor events short)
following_short Standing.Current events cursor short =
    none_long (rising_above cursor events) (rising_short cursor events short)

image_short : (J : List Row) (bodies : List (List Row)) (bytes : List ℕ) → joined bodies ≡ J
    → IsImage (bytes_of bodies) bytes → RowsShort J
image_short J [] bytes are image = subst RowsShort are tt
image_short J (rows ∷ bodies) bytes are (inl unmade) = absurd cc
image_short J (rows ∷ bodies) bytes are (inr (format, is_made)) =
    subst RowsShort are (bodies_short (rows ∷ bodies) is_made.short)

-- no message of a journal that two disks have is too long
pub none_too_long : (J : List Row) (one two : List ℕ) (cursor : ℕ) → IsPairImageOf J one two
    → has_long (served_events (held_by J) (Some cursor)) ≡ false
none_too_long J one two cursor image = following_short (standing_of (held_by J) cursor) (shown_of J J) cursor
    (shown_short J J (image_short J image.bodies _ image.are.rows image.image.2))
