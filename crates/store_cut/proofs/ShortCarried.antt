-- The rows that carry a journal over are short: each name and each text in them has few bytes.
use Rattle.std.proofs.Common.{◌≡◌, ⊎_elim, ℕ, ◌+◌, ◌≤◌, Bool, true, false, ◌&&◌, cond, List, [], ◌∷◌, length, Option, Some, None, refl, sym, ◌∙◌, ap, subst, arith, length-append}
use Rattle.std.specs.List.{list_all, list_any}
use Rattle.std.specs.Option.{is_some, unwrap_or}
use Rattle.std.specs.Prelude.{◌==◌, nat_le, nat_lt}
use Rattle.std.proofs.lemmas.Bool.{and_parts, false≢true, leb-true, or_cases}
use Rattle.std.proofs.lemmas.Bool.Decides.{nat_tests}
use Rattle.at_cid.specs.Link.{is_link, kind_of}
use Rattle.at_cid.proofs.Links.{link_length}
use Rattle.at_cbor.specs.declared.major.Major.{Major}
use Rattle.at_cbor.specs.Item.{Item, Items, item, items_of, no_items}
use Rattle.at_cbor.specs.Encoding.{encoding, front_of, items_count, items_encoding}
use Rattle.at_form.specs.declared.forms.TheConstants.{LONGEST_SHORT_TEXT}
use Rattle.at_syntax.specs.Did.{IsDid, is_did}
use Rattle.at_syntax.specs.Host.{is_host, is_host_character}
use Rattle.at_syntax.specs.Tid.{digits_of}
use Rattle.at_syntax.specs.declared.did.TheConstants.{LONGEST_DID}
use Rattle.at_syntax.specs.declared.host.TheConstants.{LONGEST_HOST}
use Rattle.at_syntax.proofs.Dids.{did_grammar}
use Rattle.at_syntax.proofs.Tids.{length-digits_of}
use Rattle.at_event.specs.Writing.{number_item as number}
use Rattle.row_codec.specs.Bodies.{row_encoding}
use Rattle.relay_row.specs.Folds.{is_named, names}
use Rattle.row_codec.specs.Items.{head_items, list, or_null, repo_item, rev_text, row_items}
use Rattle.relay_row.specs.Rules.{are_bytes, is_cid, is_node, is_node_kind, is_repo, is_rev, is_status, is_text, names_did, names_host}
use Rattle.relay_row.specs.declared.carried.Carried.{Carried}
use Rattle.relay_row.specs.declared.carried.CarriedRepo.{CarriedRepo}
use Rattle.relay_row.specs.declared.row.Row.{Row}
use Rattle.account_state.specs.Dids.{dids}
use Rattle.account_state.specs.Entries.{entry}
use Rattle.account_state.specs.Folds.{account, fresh}
use Rattle.account_state.specs.State.{State}
use Rattle.account_state.proofs.Dids.{dids_named, names_same}
use Rattle.host_state.specs.Folds.{hosts}
use Rattle.host_state.specs.Table.{listed}
use Rattle.relay_core.specs.declared.journal_state.Core.{Core}
use Rattle.cut_law.specs.Cut.{account_row, host_rows, repo_over}
use Rattle.cut_law.proofs.Accounts.{IsFormed, accounts_formed}
use Rattle.cut_law.proofs.Dids.{AreDids, dids_formed}
use Rattle.cut_law.proofs.Hosts.{Each, IsHost, hosts_formed}
use Rattle.store_cut.specs.Rereading.{IsOfSome}
use Rattle.store_cut.specs.Rewriting.{AllShort, IsShort}
use Rattle.relay_store.proofs.Alone.{most_tail}
use Rattle.relay_store.proofs.Encodings.{length_one}

-- ---- how many bytes items have

number_within : (n : ℕ) → length (encoding (number n)) ≤ 9
number_within n = omega (arith, most_tail n)

text_within : (text : List ℕ) → length (encoding (Item.text text)) ≤ length text + 9
text_within text = omega (arith, most_tail (length text), length-append (front_of Major.Text (length text)) text)

bool_within : (b : Bool) → length (encoding (Item.bool b)) ≤ 1
bool_within true = omega arith
bool_within false = omega arith

link_within : (link : List ℕ) → is_cid link ≡ true → length (encoding (Item.link link)) ≤ 41
link_within link is = omega (arith, link_length link (and_parts (is_link link) (are_bytes link) is).0)

rev_within : (rev : ℕ) → length (encoding (rev_text rev)) ≤ 22
rev_within rev = omega (arith, text_within (digits_of rev), length-digits_of rev)

list_within : (is : Items) → length (encoding (Item.list is)) ≤ length (items_encoding is) + 9
list_within is = omega (arith, most_tail (items_count is), length-append (front_of Major.List (items_count is)) (items_encoding is))

one_more : (i : Item) (is : Items) → length (items_encoding (item i is)) ≡ length (encoding i) + length (items_encoding is)
one_more i is = length-append (encoding i) (items_encoding is)

short_row : (row : Row) → length (items_encoding (items_of (row_items row))) ≤ 4096 → IsShort row
unfolding row_encoding
short_row row few = omega (arith, few, length_one row, list_within (items_of (row_items row)))

-- ---- the last number

pub last_short : (n : ℕ) → IsShort (Row.Carried (Carried.Last n))
last_short n =
    let row = Row.Carried (Carried.Last n) in
    let one = one_more (number 4) (items_of (number 0 ∷ number n ∷ [])) in
    let two = one_more (number 0) (items_of (number n ∷ [])) in
    let three = one_more (number n) no_items in
    short_row row (omega (arith, one, two, three, number_within 4, number_within 0, number_within n))

-- ---- hosts

host_length : (host : List ℕ) → names_host host ≡ true → length host ≤ LONGEST_HOST
unfolding is_host
host_length host named =
    let is = (and_parts (is_text host) (is_host host) named).1 in
    let long = (and_parts (nat_lt 0 (length host) && nat_le (length host) LONGEST_HOST) (list_all is_host_character host) is).0 in
    leb-true (length host) LONGEST_HOST (and_parts (nat_lt 0 (length host)) (nat_le (length host) LONGEST_HOST) long).1

host_short : (host : List ℕ) (n : ℕ) → names_host host ≡ true → IsShort (Row.Carried (Carried.Host host n))
host_short host n named =
    let row = Row.Carried (Carried.Host host n) in
    let one = one_more (number 4) (items_of (number 1 ∷ Item.text host ∷ number n ∷ [])) in
    let two = one_more (number 1) (items_of (Item.text host ∷ number n ∷ [])) in
    let three = one_more (Item.text host) (items_of (number n ∷ [])) in
    let four = one_more (number n) no_items in
    short_row row (omega (arith, one, two, three, four, number_within 4, number_within 1, text_within host, host_length host named, number_within n))

hosts_within : (hs : List (List ℕ × ℕ)) → Each IsHost hs → AllShort (host_rows hs)
hosts_within [] each = tt
hosts_within (h ∷ hs) each =
    elim (h.1 == 0) as (λ b. AllShort (cond b (host_rows hs) (Row.Carried (Carried.Host h.0 h.1) ∷ host_rows hs))) [
      | true ↦ hosts_within hs each.1
      | false ↦ (host_short h.0 h.1 each.0.0, hosts_within hs each.1)
    ]

pub hosts_short : (core : Core) → IsOfSome core → AllShort (host_rows (listed core.hosts))
hosts_short core some = subst (λ (hs : List (List ℕ × ℕ)). AllShort (host_rows hs)) (sym some.1.holds.hosts) (hosts_within (hosts some.0) (hosts_formed some.0 some.1.journal.formed))

-- the row of one whose cursor is positive
pub positive_short : (host : List ℕ) (n : ℕ) → (n ≡ 0 → ⊥) → AllShort (host_rows ((host, n) ∷ [])) → IsShort (Row.Carried (Carried.Host host n))
positive_short host n some all =
    let test : (n == 0) ≡ false = grind (arith, nat_tests) in
    let is = subst (λ (b : Bool). AllShort (cond b [] (Row.Carried (Carried.Host host n) ∷ []))) test all in
    is.0

-- ---- accounts

did_length : (did : List ℕ) → names_did did ≡ true → length did ≤ LONGEST_DID
did_length did named = let is : IsDid did = (did_grammar did (is_did did) refl).0 (and_parts (is_text did) (is_did did) named).1 in is.short

status_within : (status : Option (List ℕ)) → is_status status ≡ true → length (encoding (or_null Item.text status)) ≤ LONGEST_SHORT_TEXT + 9
status_within None is = omega arith
status_within (Some status) is =
    omega (arith, text_within status, leb-true (length status) LONGEST_SHORT_TEXT (and_parts (is_text status) (nat_le (length status) LONGEST_SHORT_TEXT) is).1)

rev_or_null : (rev : Option ℕ) → length (encoding (or_null rev_text rev)) ≤ 22
rev_or_null None = omega arith
rev_or_null (Some rev) = rev_within rev

repo_within : (repo : CarriedRepo) → is_repo repo ≡ true → length (encoding (repo_item repo)) ≤ 113
repo_within CarriedRepo.Missing is = omega arith
repo_within (CarriedRepo.Good h) is =
    let links = and_parts (is_rev h.rev) (is_node h.data_root && is_cid h.commit) is in
    let both = and_parts (is_node h.data_root) (is_cid h.commit) links.1 in
    let root = (and_parts (is_cid h.data_root) (is_node_kind (kind_of h.data_root)) both.0).0 in
    let one = one_more (rev_text h.rev) (items_of (Item.link h.data_root ∷ Item.link h.commit ∷ [])) in
    let two = one_more (Item.link h.data_root) (items_of (Item.link h.commit ∷ [])) in
    let three = one_more (Item.link h.commit) no_items in
    omega (arith, list_within (items_of (head_items h)), one, two, three, rev_within h.rev, link_within h.data_root root, link_within h.commit both.1)
repo_within (CarriedRepo.Lost rev) is =
    omega (arith, list_within (items_of (or_null rev_text rev ∷ [])), one_more (or_null rev_text rev) no_items, rev_or_null rev)

account_within : (did : List ℕ) (a : State) → names_did did ≡ true → IsFormed a → IsShort (account_row did a)
account_within did a named formed =
    let status = or_null Item.text a.status in
    let repo = repo_item (repo_over a.repo) in
    let six = items_of (repo ∷ []) in
    let five = item (Item.bool a.down) six in
    let four = item status five in
    let three = item (Item.bool a.active) four in
    let two = item (Item.text did) three in
    short_row (account_row did a)
    (omega (
      arith,
      one_more (number 4) (item (number 2) two),
      one_more (number 2) two,
      one_more (Item.text did) three,
      one_more (Item.bool a.active) four,
      one_more status five,
      one_more (Item.bool a.down) six,
      one_more repo no_items,
      number_within 4,
      number_within 2,
      text_within did,
      did_length did named,
      bool_within a.active,
      status_within a.status formed.status,
      bool_within a.down,
      repo_within (repo_over a.repo) formed.repo,
    ))

named_formed : (did : List ℕ) (ds : List (List ℕ)) → AreDids ds → list_any (names did) ds ≡ true → names_did did ≡ true
named_formed did [] are some = absurd (false≢true some)
named_formed did (d ∷ ds) are some =
    ⊎_elim
    (λ here. subst (λ (t : List ℕ). names_did t ≡ true) (sym (names_same did d here)) are.0)
    (λ later. named_formed did ds are.1 later)
    (or_cases (names did d) (list_any (names did) ds) some)

pub account_short : (core : Core) → IsOfSome core → (did : List ℕ) (a : State) → entry core.accounts did ≡ Some a → IsShort (account_row did a)
account_short core some did a found =
    let J = some.0 in
    let is : a ≡ account did J = sym (ap (λ (o : Option State). unwrap_or o fresh) found) ∙ some.1.holds.accounts did in
    let named : is_named did J ≡ true = sym (some.1.holds.named did) ∙ ap is_some found in
    subst (λ (s : State). IsShort (account_row did s)) (sym is)
    (account_within did (account did J) (named_formed did (dids J) (dids_formed J some.1.journal.formed) (dids_named did J ∙ named)) (accounts_formed did J some.1.journal))
