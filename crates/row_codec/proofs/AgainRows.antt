-- What is encoded of rows is read again.
use Rattle.std.proofs.Common.{◌≡◌, ℕ, suc, ◌+◌, ◌<◌, ◌^◌, ◌⊎◌, inl, inr, Bool, true, false, cond, ◌&&◌, ◌||◌, List, [], ◌∷◌, ◌++◌, length, Option, Some, None, refl, sym, ap, ◌∙◌, subst, arith, leb, ltb, eqb, append_assoc, lit<}
use Rattle.std.specs.List.{list_all}
use Rattle.std.specs.Bool.{beq}
use Rattle.std.proofs.lemmas.Bool.{leb-true, eqb-true, lt-ltb, le-leb, and_parts}
use Rattle.std.proofs.lemmas.List.{append-nil}
use Rattle.at_cbor.specs.declared.major.Major.{Major}
use Rattle.at_cbor.specs.Item.{Item}
use Rattle.at_cbor.specs.Encoding.{front_of, encoding, IsText}
use Rattle.at_syntax.specs.Did.{is_did}
use Rattle.at_syntax.specs.Host.{is_host}
use Rattle.at_event.specs.Writing.{number_item as number}
use Rattle.at_event.proofs.Texts.{ascii_text}
use Rattle.at_event.specs.Refusals.{code_of}
use Rattle.at_event.specs.declared.refusal.Refusal.{Refusal}
use Rattle.relay_row.specs.declared.taken.Taken.{Taken}
use Rattle.relay_row.specs.declared.operated.Operated.{Operated}
use Rattle.relay_row.specs.declared.fetched.Whole.{Whole}
use Rattle.relay_row.specs.declared.taken.Effect.{Effect}
use Rattle.relay_row.specs.declared.fetched.Fetched.{Fetched}
use Rattle.relay_row.specs.declared.carried.Carried.{Carried}
use Rattle.relay_row.specs.declared.row.Row.{Row}
use Rattle.row_codec.specs.Items.{list, if_there, code, detail_items, carried_items, row_items}
use Rattle.row_codec.specs.Bodies.{row_encoding, encoded_rows, rows_body, IsBody}
use Rattle.relay_row.specs.Rules.{is_number, is_positive, is_moment, is_text, is_empty, is_message, is_status, is_whole, is_detail, loses, is_repo_number, is_fetched, is_nothing, is_effect, is_timed, is_head, is_accepted, is_refused, is_decided, is_about, names_host, names_did, is_taken, is_operated, is_repo, is_carried, is_row}
use Rattle.row_codec.specs.Readers.{Reading, behind, give, count_at}
use Rattle.row_codec.specs.Reading.{detail_at, taken_at, synced_at, operated_at, account_at, host_at, carried_of, carried_at, row_of, row_items_at, well_formed, row_at, rows_at, all_of, few, rows_in}
use Rattle.row_codec.proofs.Atoms.{byte_again, text_again, bytes_again, bool_again, null_or_text_again}
use Rattle.row_codec.proofs.Counts.{count_again}
use Rattle.relay_row.proofs.Fits.{message_fits, status_fits, host_text, did_text, FitsRefusal, Fits, taken_fits}
use Rattle.row_codec.proofs.Again.{then_encode, list_then, go, number_fits, positive_fits, whole_again, detail_again, no_detail_again, effect_again, fetched_again, repo_again, moment_again}
use Rattle.at_cbor.specs.Encoding.{IsString}

few_with : (moment : Option ℕ) (others count : ℕ) → count ≡ others + length (if_there number moment) → others < 12 → count < 24
few_with None others count is h = omega arith
few_with (Some n) others count is h = omega arith

-- ---- refusals

pub code_fits : (o : Option Refusal) → FitsRefusal o → code o < 256
code_fits None fits = lit< tt
code_fits (Some r) fits = omega (arith, leb-true (code_of r) 25 fits.0)

refusal_again : (o : Option Refusal) (rest : List ℕ) → FitsRefusal o → detail_at (code o) (encoding (list (detail_items o)) ++ rest) ≡ Some (o, rest)
refusal_again None rest fits = no_detail_again rest
refusal_again (Some r) rest fits = detail_again r rest fits.0 fits.1

-- ---- rows

-- the items behind the first, and then these bytes
abbrev tail_then : List Item → List ℕ → List ℕ
tail_then [] rest = rest
tail_then (i ∷ is) rest = then_encode is rest

taken_again : (count : ℕ) (t : Taken) (rest : List ℕ) → Fits t → count ≡ length (row_items (Row.Taken t)) → taken_at count (tail_then (row_items (Row.Taken t)) rest) ≡ Some (t, rest)
unfolding taken_at
taken_again count t rest is many =
    go _ (text_again t.host _ is.host)
    (go _ (number_fits t.host_seq _ is.host_seq)
    (go _ (text_again t.did _ is.did)
    (go _ (byte_again t.kind _ is.kind)
    (go _ (byte_again (code t.refusal) _ (code_fits t.refusal is.refusal))
    (go _ (refusal_again t.refusal _ is.refusal)
    (go _ (number_fits t.seq _ is.seq)
    (go _ (bytes_again t.message _ is.message)
    (go _ (effect_again t.effect _ is.effect)
    (go _ (fetched_again (is_timed t.moment) t.fetched _ is.fetched)
    (go _ (moment_again 11 count t.moment rest (omega (arith, many)) is.moment) refl))))))))))

synced_again : (count : ℕ) (did : List ℕ) (whole : Whole) (moment : Option ℕ) (rest : List ℕ) → IsText did → is_whole whole ≡ true → is_moment moment ≡ true → count ≡ length (row_items (Row.Synced did whole moment))
    → synced_at count (tail_then (row_items (Row.Synced did whole moment)) rest) ≡ Some (Row.Synced did whole moment, rest)
unfolding synced_at
synced_again count did whole moment rest a b c many = go _ (text_again did _ a) (go _ (whole_again whole _ b) (go _ (moment_again 3 count moment rest (omega (arith, many)) c) refl))

operated_again : (count : ℕ) (o : Operated) (rest : List ℕ) → is_operated o ≡ true → count ≡ length (row_items (Row.Operated o)) → operated_at count (tail_then (row_items (Row.Operated o)) rest) ≡ Some (o, rest)
unfolding operated_at is_operated
operated_again count o rest h many =
    let a = and_parts (names_did o.did) _ h in
    let b = and_parts (is_positive o.seq) _ a.1 in
    let c = and_parts (is_message o.message) (is_moment o.moment) b.1 in
    go _ (text_again o.did _ (did_text o.did a.0))
    (go _ (bool_again o.down _)
    (go _ (positive_fits o.seq _ b.0)
    (go _ (bytes_again o.message _ (message_fits o.message c.0))
    (go _ (moment_again 5 count o.moment rest (omega (arith, many)) c.1) refl))))

carried_again : (c : Carried) (rest : List ℕ) → is_carried c ≡ true → carried_at (length (carried_items c)) (tail_then (carried_items c) rest) ≡ Some (c, rest)
unfolding carried_at is_carried host_at account_at
carried_again (Carried.Last seq) rest h = go (carried_of 3) (byte_again 0 _ (lit< tt)) (go _ (positive_fits seq rest h) refl)
carried_again (Carried.Host host cursor) rest h =
    let a = and_parts (names_host host) (is_positive cursor) h in
    go (carried_of 4) (byte_again 1 _ (lit< tt)) (go _ (text_again host _ (host_text host a.0)) (go _ (positive_fits cursor rest a.1) refl))
carried_again (Carried.Account a) rest h =
    let p = and_parts (names_did a.did) _ h in
    let q = and_parts (is_status a.status) (is_repo a.repo) p.1 in
    go (carried_of 7) (byte_again 2 _ (lit< tt))
    (go _
    (go _ (text_again a.did _ (did_text a.did p.0))
    (go _ (bool_again a.active _)
    (go _ (null_or_text_again a.status _ (status_fits a.status q.0))
    (go _ (bool_again a.down _)
    (go _ (repo_again a.repo rest q.1) refl)))))
    refl)

-- a row's items are fewer than 24
pub few_items : (row : Row) → length (row_items row) < 24
few_items (Row.Taken t) = few_with t.moment 11 (length (row_items (Row.Taken t))) (omega arith) (lit< tt)
few_items (Row.Synced did whole moment) = few_with moment 3 (length (row_items (Row.Synced did whole moment))) (omega arith) (lit< tt)
few_items (Row.Operated o) = few_with o.moment 5 (length (row_items (Row.Operated o))) (omega arith) (lit< tt)
few_items (Row.Carried (Carried.Last seq)) = lit< tt
few_items (Row.Carried (Carried.Host host cursor)) = lit< tt
few_items (Row.Carried (Carried.Account a)) = lit< tt

items_again : (row : Row) (rest : List ℕ) → is_row row ≡ true → row_items_at (length (row_items row)) (then_encode (row_items row) rest) ≡ Some (row, rest)
unfolding row_items_at is_row
items_again (Row.Taken t) rest h =
    go (row_of (length (row_items (Row.Taken t)))) (byte_again 1 _ (lit< tt)) (go (λ x. give (Row.Taken x)) (taken_again (length (row_items (Row.Taken t))) t rest (taken_fits t h) refl) refl)
items_again (Row.Synced did whole moment) rest h =
    let a = and_parts (names_did did) _ h in
    let b = and_parts (is_whole whole) (is_moment moment) a.1 in
    go (row_of (length (row_items (Row.Synced did whole moment)))) (byte_again 2 _ (lit< tt)) (synced_again (length (row_items (Row.Synced did whole moment))) did whole moment rest (did_text did a.0) b.0 b.1 refl)
items_again (Row.Operated o) rest h =
    go (row_of (length (row_items (Row.Operated o)))) (byte_again 3 _ (lit< tt)) (go (λ x. give (Row.Operated x)) (operated_again (length (row_items (Row.Operated o))) o rest h refl) refl)
items_again (Row.Carried (Carried.Last seq)) rest h = go (row_of 3) (byte_again 4 _ (lit< tt)) (go (λ x. give (Row.Carried x)) (carried_again (Carried.Last seq) rest h) refl)
items_again (Row.Carried (Carried.Host host cursor)) rest h = go (row_of 4) (byte_again 4 _ (lit< tt)) (go (λ x. give (Row.Carried x)) (carried_again (Carried.Host host cursor) rest h) refl)
items_again (Row.Carried (Carried.Account a)) rest h = go (row_of 7) (byte_again 4 _ (lit< tt)) (go (λ x. give (Row.Carried x)) (carried_again (Carried.Account a) rest h) refl)

well : (row : Row) (rest : List ℕ) → is_row row ≡ true → well_formed row rest ≡ Some (row, rest)
well row rest h = rw h refl

pub row_again : (row : Row) (rest : List ℕ) → is_row row ≡ true → row_at (row_encoding row ++ rest) ≡ Some (row, rest)
unfolding row_at row_encoding
row_again row rest h =
    rw (list_then (row_items row) rest) (go _ (count_again (length (row_items row)) _ (omega (arith, few_items row))) (go _ (items_again row rest h) (well row rest h)))

pub rows_again : (rows : List Row) (rest : List ℕ) → list_all is_row rows ≡ true → rows_at (length rows) (encoded_rows rows ++ rest) ≡ Some (rows, rest)
unfolding rows_at
rows_again [] rest h = refl
rows_again (row ∷ rows) rest h =
    let both = and_parts (is_row row) (list_all is_row rows) h in
    rw (append_assoc (row_encoding row) (encoded_rows rows) rest) (go _ (row_again row (encoded_rows rows ++ rest) both.0) (go _ (rows_again rows rest both.1) refl))

abbrev count_then : Reading (List Row)
count_then bytes = behind (count_at bytes) few

found_all : (rows : List Row) (body : List ℕ) → IsBody rows body → rows_in (front_of Major.List (length rows) ++ (encoded_rows rows ++ [])) ≡ Some rows
unfolding rows_in
found_all rows body is =
    let all : (count_then (front_of Major.List (length rows) ++ (encoded_rows rows ++ []))) ≡ Some (rows, []) =
    go few (count_again (length rows) (encoded_rows rows ++ []) (omega (arith, is.few))) (rw (le-leb 1 (length rows) is.some, le-leb (length rows) 64 is.few) (rows_again rows [] is.formed)) in
    ap all_of all

pub body_again : (rows : List Row) (body : List ℕ) → IsBody rows body → rows_in body ≡ Some rows
unfolding rows_in rows_body
body_again rows body is =
    let whole : (front_of Major.List (length rows) ++ (encoded_rows rows ++ [])) ≡ body = ap (λ (t : List ℕ). front_of Major.List (length rows) ++ t) (append-nil (encoded_rows rows)) ∙ sym is.made in
    subst (λ (bytes : List ℕ). rows_in bytes ≡ Some rows) whole (found_all rows body is)
