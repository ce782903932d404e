-- What is encoded of a row's parts is read again.
use Rattle.std.proofs.Common.{◌≡◌, ℕ, suc, ◌+◌, ◌*◌, ◌≤◌, ◌<◌, ◌^◌, inl, inr, Bool, true, false, ◌&&◌, List, [], ◌∷◌, ◌++◌, length, Option, Some, None, refl, sym, ap, ◌∙◌, subst, arith, leb, ltb, eqb, append_assoc, lit<}
use Rattle.std.proofs.lemmas.Bool.{ltb-true, leb-true, eqb-true, eq-eqb, lt-ltb, and_parts}
use Rattle.std.proofs.lemmas.Bool.Decides.{nat_tests, eqb_tells}
use Rattle.std.specs.Str.{is_utf8}
use Rattle.at_cid.specs.Link.{IsBytes, is_link, kind_of}
use Rattle.at_cbor.specs.declared.major.Major.{Major}
use Rattle.at_cbor.specs.Item.{Item}
use Rattle.at_cbor.specs.Encoding.{front_of, encoding, info_of, IsText, IsString}
use Rattle.at_cbor.proofs.Fronts.{form_0}
use Rattle.at_event.specs.Writing.{number_item as number}
use Rattle.at_event.specs.Refusals.{code_of, plain_refusal}
use Rattle.at_event.specs.declared.head.Head.{Head}
use Rattle.at_event.specs.declared.refusal.Refusal.{Refusal}
use Rattle.relay_row.specs.declared.fetched.Whole.{Whole}
use Rattle.relay_row.specs.declared.fetched.Fetched.{Fetched}
use Rattle.relay_row.specs.declared.taken.Effect.{Effect}
use Rattle.relay_row.specs.declared.carried.CarriedRepo.{CarriedRepo}
use Rattle.row_codec.specs.Items.{rev_text, list, or_null, if_there, head_items, whole_items, code, detail_items, effect_item, fetched_item, repo_item}
use Rattle.relay_row.specs.Rules.{is_number, is_positive, is_moment, are_bytes, is_text, is_string, is_cid, is_rev, is_rev_or_none, is_node_kind, is_node, is_head, is_empty, is_message, is_status, is_whole, is_detail, is_repo_number, is_repo}
use Rattle.row_codec.specs.Readers.{Reading, ◌>>=◌, behind, give, number_at, count_at, or_null_at}
use Rattle.row_codec.specs.Reading.{head_at, whole_items_at, whole_at, plain, one_detail, two_details, detail_at, account_effect, effect_of, effect_at, number_or_whole, fetched_at, repo_of, repo_at, moment_at}
use Rattle.relay_row.proofs.Fits.{message_fits, cid_fits, node_fits, rev_fits, rev_or_none_fits, status_fits, FitsEffect, FitsFetched}
use Rattle.row_codec.proofs.Atoms.{number_again, place_again, bytes_again, bool_again, link_again, rev_again, null_or_rev_again, null_or_text_again}
use Rattle.row_codec.proofs.Counts.{count_again, items_count_is}
use Rattle.row_codec.proofs.Found.{encode}
use Rattle.relay_row.specs.declared.limits.TheConstants.{PLACES}

-- items, and then these bytes
abbrev pub then_encode : List Item → List ℕ → List ℕ
then_encode [] rest = rest
then_encode (i ∷ is) rest = encoding i ++ then_encode is rest

pub then_is : (is : List Item) (rest : List ℕ) → encode is ++ rest ≡ then_encode is rest
then_is [] rest = refl
then_is (i ∷ is) rest = append_assoc (encoding i) (encode is) rest ∙ ap (λ (t : List ℕ). encoding i ++ t) (then_is is rest)

pub list_then : (is : List Item) (rest : List ℕ) → encoding (list is) ++ rest ≡ front_of Major.List (length is) ++ then_encode is rest
list_then is rest =
    ap (λ (n : ℕ). (front_of Major.List n ++ encode is) ++ rest) (items_count_is is)
    ∙ append_assoc (front_of Major.List (length is)) (encode is) rest
    ∙ ap (λ (t : List ℕ). front_of Major.List (length is) ++ t) (then_is is rest)

pub go : {A B : Type 0} {o : Option (A × List ℕ)} (f : A → Reading B) {x : A} {rest : List ℕ} {answer : Option (B × List ℕ)} → o ≡ Some (x, rest) → f x rest ≡ answer → behind o f ≡ answer
go f e h = rw e h

-- ---- what the tests say

below_63 : (n : ℕ) → is_number n ≡ true → n < 2 ^ 63
below_63 n h = omega (arith, ltb-true n (2 ^ 53) h)

pub number_fits : (n : ℕ) (rest : List ℕ) → is_number n ≡ true → number_at (encoding (number n) ++ rest) ≡ Some (n, rest)
number_fits n rest h = number_again n rest (below_63 n h)

pub positive_fits : (n : ℕ) (rest : List ℕ) → is_positive n ≡ true → number_at (encoding (number n) ++ rest) ≡ Some (n, rest)
positive_fits n rest h = number_fits n rest (and_parts (ltb 0 n) (is_number n) h).1

-- ---- heads and repositories

pub head_again : (h : Head) (rest : List ℕ) → is_head h ≡ true → head_at (then_encode (head_items h) rest) ≡ Some (h, rest)
unfolding head_at
head_again h rest is =
    let rev = and_parts (is_rev h.rev) (is_node h.data_root && is_cid h.commit) is in
    let links = and_parts (is_node h.data_root) (is_cid h.commit) rev.1 in
    go _ (rev_again h.rev _ (rev_fits h.rev rev.0)) (go _ (link_again h.data_root _ (node_fits h.data_root links.0)) (go _ (link_again h.commit rest (cid_fits h.commit links.1)) refl))

whole_items_again : (w : Whole) (rest : List ℕ) → is_whole w ≡ true → whole_items_at (then_encode (whole_items w) rest) ≡ Some (w, rest)
unfolding whole_items_at is_whole
whole_items_again w rest is =
    let seq = and_parts (is_positive w.seq) (is_head w.head && (is_number w.records && is_message w.message)) is in
    let head = and_parts (is_head w.head) (is_number w.records && is_message w.message) seq.1 in
    let others = and_parts (is_number w.records) (is_message w.message) head.1 in
    go _ (positive_fits w.seq _ seq.0) (go _ (head_again w.head _ head.0) (go _ (number_fits w.records _ others.0) (go _ (bytes_again w.message rest (message_fits w.message others.1)) refl)))

pub whole_again : (w : Whole) (rest : List ℕ) → is_whole w ≡ true → whole_at (encoding (list (whole_items w)) ++ rest) ≡ Some (w, rest)
unfolding whole_at
whole_again w rest is = rw (list_then (whole_items w) rest) (go _ (count_again 6 _ (lit< tt)) (whole_items_again w rest is))

-- ---- details

bare_again : (r : Option Refusal) (rest : List ℕ) → detail_items r ≡ [] → plain (code r) ≡ Some r → detail_at (code r) (encoding (list (detail_items r)) ++ rest) ≡ Some (r, rest)
unfolding detail_at
bare_again r rest none is = rw (none, list_then [] rest) (go _ (count_again 0 rest (lit< tt)) (rw is refl))

one_again : (i : Item) (n : ℕ) (r : Option Refusal) (rest : List ℕ) → one_detail n (encoding i ++ rest) ≡ Some (r, rest) → detail_at n (encoding (list (i ∷ [])) ++ rest) ≡ Some (r, rest)
unfolding detail_at
one_again i n r rest is = rw (list_then (i ∷ []) rest) (go _ (count_again 1 _ (lit< tt)) is)

two_again : (i j : Item) (n : ℕ) (r : Option Refusal) (rest : List ℕ) → two_details n (encoding i ++ (encoding j ++ rest)) ≡ Some (r, rest) → detail_at n (encoding (list (i ∷ j ∷ [])) ++ rest) ≡ Some (r, rest)
unfolding detail_at
two_again i j n r rest is = rw (list_then (i ∷ j ∷ []) rest) (go _ (count_again 2 _ (lit< tt)) is)

pub detail_again : (r : Refusal) (rest : List ℕ) → leb (code_of r) 25 ≡ true → is_detail r ≡ true → detail_at (code_of r) (encoding (list (detail_items (Some r))) ++ rest) ≡ Some (Some r, rest)
unfolding plain plain_refusal one_detail two_details
detail_again (Refusal.BadNode link) rest h is = one_again (Item.link link) 20 _ rest (go _ (link_again link rest (node_fits link is)) refl)
detail_again (Refusal.OtherOp i) rest h is = one_again (number i) 21 _ rest (go _ (place_again i rest (ltb-true i PLACES is)) refl)
detail_again (Refusal.NotCovered i) rest h is = one_again (number i) 22 _ rest (go _ (place_again i rest (ltb-true i PLACES is)) refl)
detail_again (Refusal.OtherData want got) rest h is =
    let both = and_parts (is_node want) (is_node got) is in
    two_again (Item.link want) (Item.link got) 23 _ rest (go _ (link_again want _ (node_fits want both.0)) (go _ (link_again got rest (node_fits got both.1)) refl))
detail_again Refusal.BadEvent rest h is = bare_again (Some Refusal.BadEvent) rest refl refl
detail_again Refusal.NotHome rest h is = bare_again (Some Refusal.NotHome) rest refl refl
detail_again Refusal.Inactive rest h is = bare_again (Some Refusal.Inactive) rest refl refl
detail_again Refusal.TakenDown rest h is = bare_again (Some Refusal.TakenDown) rest refl refl
detail_again Refusal.TooBig rest h is = bare_again (Some Refusal.TooBig) rest refl refl
detail_again Refusal.BlocksTooLong rest h is = bare_again (Some Refusal.BlocksTooLong) rest refl refl
detail_again Refusal.TooManyOps rest h is = bare_again (Some Refusal.TooManyOps) rest refl refl
detail_again Refusal.BadPath rest h is = bare_again (Some Refusal.BadPath) rest refl refl
detail_again Refusal.RepeatedPath rest h is = bare_again (Some Refusal.RepeatedPath) rest refl refl
detail_again Refusal.BadOp rest h is = bare_again (Some Refusal.BadOp) rest refl refl
detail_again Refusal.Stale rest h is = bare_again (Some Refusal.Stale) rest refl refl
detail_again Refusal.BadCar rest h is = bare_again (Some Refusal.BadCar) rest refl refl
detail_again Refusal.WrongRoot rest h is = bare_again (Some Refusal.WrongRoot) rest refl refl
detail_again Refusal.WrongDigest rest h is = bare_again (Some Refusal.WrongDigest) rest refl refl
detail_again Refusal.NoCommit rest h is = bare_again (Some Refusal.NoCommit) rest refl refl
detail_again Refusal.BadCommit rest h is = bare_again (Some Refusal.BadCommit) rest refl refl
detail_again Refusal.OtherCommit rest h is = bare_again (Some Refusal.OtherCommit) rest refl refl
detail_again Refusal.BadSignature rest h is = bare_again (Some Refusal.BadSignature) rest refl refl
detail_again Refusal.Gap rest h is = bare_again (Some Refusal.Gap) rest refl refl
detail_again Refusal.TooLong rest h is = bare_again (Some Refusal.TooLong) rest refl refl
detail_again Refusal.FutureRev rest h is = bare_again (Some Refusal.FutureRev) rest refl refl
detail_again Refusal.NotCommit rest h is = absurd cc
detail_again Refusal.AlreadyDown rest h is = absurd cc
detail_again Refusal.NotDown rest h is = absurd cc
detail_again Refusal.NoRepository rest h is = absurd cc
detail_again Refusal.NothingToCut rest h is = absurd cc
detail_again Refusal.PastEnd rest h is = absurd cc
detail_again Refusal.LastCut rest h is = absurd cc
detail_again (Refusal.RepositoryRefused n) rest h is = absurd cc

pub no_detail_again : (rest : List ℕ) → detail_at 0 (encoding (list []) ++ rest) ≡ Some (None, rest)
unfolding plain
no_detail_again rest = bare_again None rest refl refl

-- ---- null, or something else

differs : (a b : ℕ) → (a ≡ b → ⊥) → eqb a b ≡ false
differs a b other = elim (eqb_tells a b) [ inl h ↦ absurd (other h.1) | inr h ↦ h.0 ]

-- no list begins as null does
list_not_null : (n : ℕ) → n < 24 → eqb (32 * 4 + info_of n) 246 ≡ false
list_not_null n h = rw (form_0 n h).0 (differs (32 * 4 + n) 246 (λ e. omega (arith, e)))

null_or_list : {A : Type 0} (x : A) (r : Reading A) (is : List Item) (rest : List ℕ) (answer : Option (A × List ℕ)) → length is < 24 → r (front_of Major.List (length is) ++ then_encode is rest) ≡ answer → or_null_at x r (encoding (list is) ++ rest) ≡ answer
null_or_list {A} x r is rest answer short e =
    subst (λ (bytes : List ℕ). or_null_at x r bytes ≡ answer) (sym (list_then is rest)) (rw (list_not_null (length is) short) e)

pub effect_again : (x : Effect) (rest : List ℕ) → FitsEffect x → effect_at (encoding (effect_item x) ++ rest) ≡ Some (x, rest)
unfolding effect_at account_effect
effect_again Effect.Nothing rest is = refl
effect_again (Effect.Repo head) rest is = null_or_list Effect.Nothing (count_at >>= effect_of) (head_items head) rest _ (lit< tt) (go effect_of (count_again 3 _ (lit< tt)) (go (λ h. give (Effect.Repo h)) (head_again head rest is) refl))
effect_again (Effect.Account active status) rest is =
    null_or_list Effect.Nothing (count_at >>= effect_of) (Item.bool active ∷ or_null Item.text status ∷ []) rest _ (lit< tt)
    (go effect_of (count_again 2 _ (lit< tt)) (go _ (bool_again active _) (go _ (null_or_text_again status rest (status_fits status is)) refl)))

pub repo_number_small : (timed : Bool) (n : ℕ) → is_repo_number timed n ≡ true → (1 ≤ n) × (n < 24)
repo_number_small timed n h = grind (arith, nat_tests)

refused_again : (b n : ℕ) (rest : List ℕ) → b ≡ n → 1 ≤ n → n < 24 → or_null_at Fetched.NotAsked number_or_whole (b ∷ rest) ≡ Some (Fetched.Refused n, rest)
refused_again b n rest is some small =
    rw is (rw (differs n 246 (λ e. omega (arith, e)), differs n 0 (λ e. omega (arith, e)), lt-ltb n 24 small) refl)

not_number : (b : ℕ) (bytes : List ℕ) (w : Whole) (rest : List ℕ) → eqb b 0 ≡ false → ltb b 24 ≡ false → whole_at (b ∷ bytes) ≡ Some (w, rest) → number_or_whole (b ∷ bytes) ≡ Some (Fetched.Whole w, rest)
not_number b bytes w rest some big e = rw (some, big) (go _ e refl)

pub fetched_again : (timed : Bool) (x : Fetched) (rest : List ℕ) → FitsFetched timed x → fetched_at (encoding (fetched_item x) ++ rest) ≡ Some (x, rest)
unfolding fetched_at
fetched_again timed Fetched.NotAsked rest is = refl
fetched_again timed Fetched.Absent rest is =
    let form = form_0 0 (lit< tt) in
    rw (form.0, form.1) refl
fetched_again timed (Fetched.Refused n) rest is =
    let small = repo_number_small timed n is in
    let form = form_0 n small.1 in
    rw (form.0, form.1) (refused_again (32 * 0 + n) n rest (omega arith) small.0 small.1)
fetched_again timed (Fetched.Whole w) rest is =
    let whole : whole_at (front_of Major.List 6 ++ then_encode (whole_items w) rest) ≡ Some (w, rest) = sym (ap whole_at (list_then (whole_items w) rest)) ∙ whole_again w rest is in
    null_or_list Fetched.NotAsked number_or_whole (whole_items w) rest _ (lit< tt) (not_number (32 * 4 + info_of 6) _ w rest (rw (form_0 6 (lit< tt)).0 refl) (rw (form_0 6 (lit< tt)).0 refl) whole)

abbrev pub FitsRepo : CarriedRepo → Type 0
FitsRepo repo = is_repo repo ≡ true

pub repo_again : (x : CarriedRepo) (rest : List ℕ) → FitsRepo x → repo_at (encoding (repo_item x) ++ rest) ≡ Some (x, rest)
unfolding repo_at
repo_again CarriedRepo.Missing rest is = refl
repo_again (CarriedRepo.Good head) rest is = null_or_list CarriedRepo.Missing (count_at >>= repo_of) (head_items head) rest _ (lit< tt) (go repo_of (count_again 3 _ (lit< tt)) (go (λ h. give (CarriedRepo.Good h)) (head_again head rest is) refl))
repo_again (CarriedRepo.Lost rev) rest is =
    null_or_list CarriedRepo.Missing (count_at >>= repo_of) (or_null rev_text rev ∷ []) rest _ (lit< tt) (go repo_of (count_again 1 _ (lit< tt)) (go (λ r. give (CarriedRepo.Lost r)) (null_or_rev_again rev rest (rev_or_none_fits rev is)) refl))

pub moment_again : (others count : ℕ) (m : Option ℕ) (rest : List ℕ) → count ≡ others + length (if_there number m) → is_moment m ≡ true → moment_at others count (then_encode (if_there number m) rest) ≡ Some (m, rest)
unfolding moment_at
moment_again others count None rest is h = rw (eq-eqb count others (omega arith)) refl
moment_again others count (Some n) rest is h =
    rw (differs count others (λ e. omega (arith, e, is)), eq-eqb count (others + 1) is) (go _ (number_fits n rest h) refl)
