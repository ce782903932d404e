-- Behind a row's encoding stands what stands there.
use Rattle.std.proofs.Common.{◌≡◌, ℕ, ◌^◌, ◌<◌, Bool, true, ◌&&◌, ltb, List, [], ◌∷◌, ◌++◌, length, Option, Some, None, ap, ◌∙◌, arith, lit<}
use Rattle.std.proofs.lemmas.Bool.{ltb-true, and_parts}
use Rattle.at_cid.proofs.Links.{link_length}
use Rattle.at_cbor.specs.declared.major.Major.{Major}
use Rattle.at_cbor.specs.Item.{Item}
use Rattle.at_cbor.specs.Encoding.{IsText, IsString}
use Rattle.at_cbor.proofs.Taken.{number_again}
use Rattle.at_syntax.specs.Tid.{digits_of}
use Rattle.at_event.specs.Writing.{number_item as number}
use Rattle.at_event.specs.declared.head.Head.{Head}
use Rattle.at_event.specs.declared.refusal.Refusal.{Refusal}
use Rattle.relay_row.specs.declared.taken.Taken.{Taken}
use Rattle.relay_row.specs.declared.taken.Effect.{Effect}
use Rattle.relay_row.specs.declared.fetched.Whole.{Whole}
use Rattle.relay_row.specs.declared.fetched.Fetched.{Fetched}
use Rattle.relay_row.specs.declared.carried.CarriedRepo.{CarriedRepo}
use Rattle.relay_row.specs.declared.carried.Carried.{Carried}
use Rattle.relay_row.specs.declared.row.Row.{Row}
use Rattle.row_codec.specs.Items.{rev_text, list, or_null, if_there, head_items, whole_items, code, detail_items, effect_item, fetched_item, repo_item, carried_items, row_items}
use Rattle.row_codec.specs.Bodies.{row_encoding}
use Rattle.relay_row.specs.Rules.{is_number, is_positive, is_moment, is_rev, is_node, is_cid, is_head, is_message, is_status, is_whole, is_detail, is_refused, is_decided, is_about, names_host, names_did, is_taken, is_operated, is_repo, is_carried, is_row}
use Rattle.relay_row.proofs.Fits.{IsTextOrNone, message_fits, cid_fits, node_fits, status_fits, FitsEffect, FitsFetched, host_text, taken_fits, did_text}
use Rattle.row_codec.proofs.Again.{then_encode, list_then, repo_number_small}
use Rattle.row_codec.proofs.AgainRows.{code_fits, few_items}
use Rattle.row_peek.specs.Passing.{item_content_behind, item_behind, row_behind}
use Rattle.row_peek.proofs.Passed.{head_passed, IsScalar, AreScalars, scalars_passed, Passes, AllPass, scalar_passes, items_passed}

pub list_passes : (is : List Item) → length is < 2 ^ 64 → AreScalars is → Passes (list is)
unfolding item_behind
list_passes is few all rest = ap item_behind (list_then is rest) ∙ (head_passed item_content_behind Major.List (length is) (then_encode is rest) few ∙ scalars_passed is rest all)

-- ---- numbers, texts, links

pub number_short : (n : ℕ) → is_number n ≡ true → n < 2 ^ 64
number_short n h = omega (arith, ltb-true n (2 ^ 53) h)

pub positive_short : (n : ℕ) → is_positive n ≡ true → n < 2 ^ 64
positive_short n h = number_short n (and_parts (ltb 0 n) (is_number n) h).1

rev_short : (rev : ℕ) → length (digits_of rev) < 2 ^ 64
unfolding digits_of
rev_short rev = lit< tt

cid_long : (t : List ℕ) → is_cid t ≡ true → length t ≡ 36
cid_long t h = link_length t (cid_fits t h).0

node_long : (t : List ℕ) → is_node t ≡ true → length t ≡ 36
node_long t h = link_length t (node_fits t h).0

text_or_null : (status : Option (List ℕ)) → IsTextOrNone status → IsScalar (or_null Item.text status)
text_or_null None h = tt
text_or_null (Some text) h = h.0.0

rev_or_null : (rev : Option ℕ) → IsScalar (or_null rev_text rev)
rev_or_null None = tt
rev_or_null (Some rev) = rev_short rev

-- ---- a row's parts

pub head_scalars : (h : Head) → is_head h ≡ true → AreScalars (head_items h)
head_scalars h is =
    let rev = and_parts (is_rev h.rev) (is_node h.data_root && is_cid h.commit) is in
    let links = and_parts (is_node h.data_root) (is_cid h.commit) rev.1 in
    (rev_short h.rev, (node_long h.data_root links.0, (cid_long h.commit links.1, tt)))

-- the items of a whole repository in front of its message
abbrev pub before_message : Whole → List Item
before_message w = number w.seq ∷ rev_text w.head.rev ∷ Item.link w.head.data_root ∷ Item.link w.head.commit ∷ number w.records ∷ []

pub record WholeFits (w : Whole) : Type 0 where
  pub before : AreScalars (before_message w)
  pub message : length w.message < 2 ^ 64
  pub all : AreScalars (whole_items w)

pub whole_fits : (w : Whole) → is_whole w ≡ true → WholeFits w
unfolding is_whole
whole_fits w is =
    let seq = and_parts (is_positive w.seq) (is_head w.head && (is_number w.records && is_message w.message)) is in
    let head = and_parts (is_head w.head) (is_number w.records && is_message w.message) seq.1 in
    let others = and_parts (is_number w.records) (is_message w.message) head.1 in
    let h = head_scalars w.head head.0 in
    let s = positive_short w.seq seq.0 in
    let n = number_short w.records others.0 in
    let m = (message_fits w.message others.1).0 in
    record {
      before = (s, (h.0, (h.1.0, (h.1.1.0, (n, tt)))));
      message = m;
      all = (s, (h.0, (h.1.0, (h.1.1.0, (n, (m, tt))))));
    }

abbrev DetailFits : Option Refusal → Type 0
DetailFits o = (length (detail_items o) < 2 ^ 64) × AreScalars (detail_items o)

detail_fits : (r : Refusal) → is_detail r ≡ true → DetailFits (Some r)
detail_fits (Refusal.BadNode link) h = (lit< tt, (node_long link h, tt))
detail_fits (Refusal.OtherOp i) h = (lit< tt, (omega (arith, ltb-true i (2 ^ 32) h), tt))
detail_fits (Refusal.NotCovered i) h = (lit< tt, (omega (arith, ltb-true i (2 ^ 32) h), tt))
detail_fits (Refusal.OtherData want got) h =
    let both = and_parts (is_node want) (is_node got) h in
    (lit< tt, (node_long want both.0, (node_long got both.1, tt)))
detail_fits r h = (lit< tt, tt)

decided_detail : (o : Option Refusal) (t : Taken) → is_decided o t ≡ true → DetailFits o
unfolding is_refused
decided_detail None t h = (lit< tt, tt)
decided_detail (Some r) t h = detail_fits r (and_parts (is_detail r) _ (and_parts _ _ h).0).0

pub detail_passes : (t : Taken) → is_taken t ≡ true → Passes (list (detail_items t.refusal))
unfolding is_taken
detail_passes t h =
    let a = and_parts (names_host t.host) _ h in
    let b = and_parts (is_number t.host_seq) _ a.1 in
    let c = and_parts (is_about t.kind t.did) _ b.1 in
    let d = and_parts (is_moment t.moment) _ c.1 in
    let fits = decided_detail t.refusal t d.1 in
    list_passes (detail_items t.refusal) fits.0 fits.1

pub effect_passes : (x : Effect) → FitsEffect x → Passes (effect_item x)
effect_passes Effect.Nothing is = scalar_passes Item.null tt
effect_passes (Effect.Repo head) is = list_passes (head_items head) (lit< tt) (head_scalars head is)
effect_passes (Effect.Account active status) is = list_passes (Item.bool active ∷ or_null Item.text status ∷ []) (lit< tt) (tt, (text_or_null status (status_fits status is), tt))

pub whole_passes : (w : Whole) → is_whole w ≡ true → Passes (list (whole_items w))
whole_passes w is = list_passes (whole_items w) (lit< tt) (whole_fits w is).all

fetched_passes : (timed : Bool) (x : Fetched) → FitsFetched timed x → Passes (fetched_item x)
fetched_passes timed Fetched.NotAsked is = scalar_passes Item.null tt
fetched_passes timed Fetched.Absent is = scalar_passes (number 0) (lit< tt)
fetched_passes timed (Fetched.Refused n) is = scalar_passes (number n) (omega (arith, (repo_number_small timed n is).1))
fetched_passes timed (Fetched.Whole w) is = whole_passes w is

moment_passes : (m : Option ℕ) → is_moment m ≡ true → AllPass (if_there number m)
moment_passes None is = tt
moment_passes (Some n) is = (scalar_passes (number n) (number_short n is), tt)

repo_passes : (x : CarriedRepo) → is_repo x ≡ true → Passes (repo_item x)
repo_passes CarriedRepo.Missing is = scalar_passes Item.null tt
repo_passes (CarriedRepo.Good head) is = list_passes (head_items head) (lit< tt) (head_scalars head is)
repo_passes (CarriedRepo.Lost rev) is = list_passes (or_null rev_text rev ∷ []) (lit< tt) (rev_or_null rev, tt)

-- ---- rows

number_passes : (n : ℕ) → n < 2 ^ 64 → Passes (number n)
number_passes n h = scalar_passes (number n) h

text_passes : (t : List ℕ) → IsText t → Passes (Item.text t)
text_passes t h = scalar_passes (Item.text t) h.0.0

bytes_passes : (t : List ℕ) → IsString t → Passes (Item.bytes t)
bytes_passes t h = scalar_passes (Item.bytes t) h.0

taken_passes : (t : Taken) → is_taken t ≡ true → AllPass (row_items (Row.Taken t))
taken_passes t h =
    let r = taken_fits t h in (
      number_passes 1 (lit< tt),
      (
        text_passes t.host r.host,
        (
          number_passes t.host_seq (number_short t.host_seq r.host_seq),
          (
            text_passes t.did r.did,
            (
              number_passes t.kind (omega (arith, r.kind)),
              (
                number_passes (code t.refusal) (omega (arith, code_fits t.refusal r.refusal)),
                (
                  detail_passes t h,
                  (
                    number_passes t.seq (number_short t.seq r.seq),
                    (
                      bytes_passes t.message r.message,
                      (
                        effect_passes t.effect r.effect,
                        (
                          fetched_passes _ t.fetched r.fetched,
                          moment_passes t.moment r.moment,
                        ),
                      ),
                    ),
                  ),
                ),
              ),
            ),
          ),
        ),
      ),
    )

carried_passes : (c : Carried) → is_carried c ≡ true → AllPass (carried_items c)
unfolding is_carried
carried_passes (Carried.Last seq) h = (number_passes 4 (lit< tt), (number_passes 0 (lit< tt), (number_passes seq (positive_short seq h), tt)))
carried_passes (Carried.Host host cursor) h =
    let a = and_parts (names_host host) (is_positive cursor) h in
    (number_passes 4 (lit< tt), (number_passes 1 (lit< tt), (text_passes host (host_text host a.0), (number_passes cursor (positive_short cursor a.1), tt))))
carried_passes (Carried.Account a) h =
    let p = and_parts (names_did a.did) _ h in
    let q = and_parts (is_status a.status) (is_repo a.repo) p.1 in (
      number_passes 4 (lit< tt),
      (
        number_passes 2 (lit< tt),
        (
          text_passes a.did (did_text a.did p.0),
          (
            scalar_passes (Item.bool a.active) tt,
            (scalar_passes (or_null Item.text a.status) (text_or_null a.status (status_fits a.status q.0)), (scalar_passes (Item.bool a.down) tt, (repo_passes a.repo q.1, tt))),
          ),
        ),
      ),
    )

row_passes : (row : Row) → is_row row ≡ true → AllPass (row_items row)
unfolding is_row is_operated
row_passes (Row.Taken t) h = taken_passes t h
row_passes (Row.Synced did whole moment) h =
    let a = and_parts (names_did did) _ h in
    let b = and_parts (is_whole whole) (is_moment moment) a.1 in
    (number_passes 2 (lit< tt), (text_passes did (did_text did a.0), (whole_passes whole b.0, moment_passes moment b.1)))
row_passes (Row.Operated o) h =
    let a = and_parts (names_did o.did) _ h in
    let b = and_parts (is_positive o.seq) _ a.1 in
    let c = and_parts (is_message o.message) (is_moment o.moment) b.1 in (
      number_passes 3 (lit< tt),
      (
        text_passes o.did (did_text o.did a.0),
        (
          scalar_passes (Item.bool o.down) tt,
          (number_passes o.seq (positive_short o.seq b.0), (bytes_passes o.message (message_fits o.message c.0), moment_passes o.moment c.1)),
        ),
      ),
    )
row_passes (Row.Carried c) h = carried_passes c h

pub row_passed : (row : Row) (rest : List ℕ) → is_row row ≡ true → row_behind (row_encoding row ++ rest) ≡ Some rest
unfolding row_behind row_encoding
row_passed row rest is =
    let few : length (row_items row) < 2 ^ 64 = omega (arith, few_items row) in
    ap row_behind (list_then (row_items row) rest) ∙ rw (number_again Major.List (length (row_items row)) (then_encode (row_items row) rest) few) (items_passed (row_items row) rest (row_passes row is))
