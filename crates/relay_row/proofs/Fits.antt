-- What the tests of rows say of their parts.
use Rattle.std.proofs.Common.{◌≡◌, ℕ, suc, ◌+◌, ◌<◌, ◌^◌, ◌⊎◌, inl, inr, Bool, true, false, cond, ◌&&◌, ◌||◌, List, [], ◌∷◌, length, Option, Some, None, refl, sym, subst, arith, leb, ltb, eqb, lit<}
use Rattle.std.specs.Bool.{beq}
use Rattle.std.specs.Str.{is_utf8}
use Rattle.std.proofs.lemmas.Bool.{ltb-true, leb-true, eqb-true, lt-ltb, le-leb, and_parts}
use Rattle.at_cid.specs.Link.{IsBytes, is_link, kind_of}
use Rattle.at_cbor.specs.Encoding.{IsText, IsString}
use Rattle.at_syntax.specs.Did.{is_did}
use Rattle.at_syntax.specs.Host.{is_host}
use Rattle.at_event.proofs.Texts.{ascii_text}
use Rattle.at_event.specs.Refusals.{code_of}
use Rattle.at_event.specs.declared.refusal.Refusal.{Refusal}
use Rattle.relay_row.specs.declared.taken.Taken.{Taken}
use Rattle.relay_row.specs.declared.taken.Effect.{Effect}
use Rattle.relay_row.specs.declared.fetched.Fetched.{Fetched}
use Rattle.relay_row.specs.Rules.{is_number, is_positive, is_moment, are_bytes, is_text, is_string, is_cid, is_rev, is_rev_or_none, is_node_kind, is_node, is_head, is_empty, is_message, is_status, is_whole, is_detail, loses, is_repo_number, is_fetched, is_nothing, is_effect, is_timed, is_accepted, is_refused, is_decided, is_about, names_host, names_did, is_taken}
use Rattle.relay_row.proofs.Bytes.{tested_bytes}

abbrev pub IsRevOrNone : Option ℕ → Type 0
IsRevOrNone None = Unit {0}
IsRevOrNone (Some rev) = rev < 2 ^ 64

abbrev pub IsTextOrNone : Option (List ℕ) → Type 0
IsTextOrNone None = Unit {0}
IsTextOrNone (Some text) = IsText text

pub string_fits : (t : List ℕ) → is_string t ≡ true → IsString t
string_fits t h =
    let both = and_parts (ltb (length t) (2 ^ 64)) (are_bytes t) h in
    (ltb-true (length t) (2 ^ 64) both.0, tested_bytes t both.1)

pub message_fits : (t : List ℕ) → is_message t ≡ true → IsString t
message_fits t h = string_fits t (and_parts (is_string t) _ h).0

false_length : (t : List ℕ) → eqb (suc (length t)) 0 ≡ true → ⊥
false_length t h = omega (arith, eqb-true (suc (length t)) 0 h)

pub empty_fits : (t : List ℕ) → is_empty t ≡ true → IsString t
empty_fits [] h = (lit< tt, tested_bytes [] refl)
empty_fits (c ∷ t) h = absurd (false_length t h)

pub text_fits : (t : List ℕ) → is_text t ≡ true → length t < 2 ^ 64 → IsText t
text_fits t h short =
    let both = and_parts (is_utf8 t) (are_bytes t) h in
    ((short, tested_bytes t both.1), both.0)

pub cid_fits : (t : List ℕ) → is_cid t ≡ true → (is_link t ≡ true) × IsBytes t
cid_fits t h =
    let both = and_parts (is_link t) (are_bytes t) h in
    (both.0, tested_bytes t both.1)

pub node_fits : (t : List ℕ) → is_node t ≡ true → (is_link t ≡ true) × IsBytes t
node_fits t h = cid_fits t (and_parts (is_cid t) (is_node_kind (kind_of t)) h).0

pub rev_fits : (rev : ℕ) → is_rev rev ≡ true → rev < 2 ^ 64
rev_fits rev h = ltb-true rev (2 ^ 64) h

pub rev_or_none_fits : (rev : Option ℕ) → is_rev_or_none rev ≡ true → IsRevOrNone rev
rev_or_none_fits None h = tt
rev_or_none_fits (Some rev) h = rev_fits rev h

pub status_fits : (status : Option (List ℕ)) → is_status status ≡ true → IsTextOrNone status
status_fits None h = tt
status_fits (Some text) h =
    let both = and_parts (is_text text) (leb (length text) 64) h in
    text_fits text both.0 (omega (arith, leb-true (length text) 64 both.1))

-- ---- tests

one_of : (a b : Bool) → (a || b) ≡ true → (a ≡ true) ⊎ (b ≡ true)
one_of true b h = inl refl
one_of false b h = inr h

either_way : (test a b : Bool) → cond test a b ≡ true → (a ≡ true) ⊎ (b ≡ true)
either_way true a b h = inl h
either_way false a b h = inr h

not_empty : (t : List ℕ) → eqb (suc (length t)) 0 ≡ true → ⊥
not_empty t h = omega (arith, eqb-true (suc (length t)) 0 h)

small_kind : (kind : ℕ) → (eqb kind 1 || eqb kind 2) ≡ true → kind < 256
small_kind kind h = elim (one_of (eqb kind 1) (eqb kind 2) h) [ inl e ↦ omega (arith, eqb-true kind 1 e) | inr e ↦ omega (arith, eqb-true kind 2 e) ]

small_code : (n : ℕ) (timed : Bool) → (leb n 24 || (eqb n 25 && timed)) ≡ true → leb n 25 ≡ true
small_code n timed h =
    elim (one_of (leb n 24) (eqb n 25 && timed) h) [
      | inl e ↦ le-leb n 25 (omega (arith, leb-true n 24 e))
      | inr e ↦ le-leb n 25 (omega (arith, eqb-true n 25 (and_parts (eqb n 25) timed e).0))
    ]

none_fits : (seq : ℕ) (message : List ℕ) → (eqb seq 0 && is_empty message) ≡ true → (is_number seq ≡ true) × IsString message
none_fits seq message h =
    let both = and_parts (eqb seq 0) (is_empty message) h in
    (lt-ltb seq (2 ^ 53) (omega (arith, eqb-true seq 0 both.0)), empty_fits message both.1)

-- ---- what the tests say of a taken row's parts

pub host_text : (t : List ℕ) → names_host t ≡ true → IsText t
unfolding is_host
host_text t h =
    let both = and_parts (is_text t) (is_host t) h in
    let one = and_parts (ltb 0 (length t) && leb (length t) 255) _ both.1 in
    let two = and_parts (ltb 0 (length t)) (leb (length t) 255) one.0 in
    text_fits t both.0 (omega (arith, leb-true (length t) 255 two.1))

pub did_text : (t : List ℕ) → names_did t ≡ true → IsText t
unfolding is_did
did_text t h =
    let both = and_parts (is_text t) (is_did t) h in
    let one = and_parts (leb (length t) 2048) _ both.1 in
    text_fits t both.0 (omega (arith, leb-true (length t) 2048 one.0))

no_text : (t : List ℕ) → is_empty t ≡ true → IsText t
no_text [] h = ascii_text [] refl (lit< tt)
no_text (c ∷ t) h = absurd (not_empty t h)

about_text : (kind : ℕ) (t : List ℕ) → is_about kind t ≡ true → IsText t
about_text kind t h = elim (either_way (eqb kind 0) (is_empty t) (names_did t) h) [ inl e ↦ no_text t e | inr e ↦ did_text t e ]

-- an effect whose parts have their forms
abbrev pub FitsEffect : Effect → Type 0
FitsEffect Effect.Nothing = Unit {0}
FitsEffect (Effect.Repo head) = is_head head ≡ true
FitsEffect (Effect.Account active status) = is_status status ≡ true

abbrev pub FitsFetched : Bool → Fetched → Type 0
FitsFetched timed (Fetched.Refused n) = is_repo_number timed n ≡ true
FitsFetched timed (Fetched.Whole w) = is_whole w ≡ true
FitsFetched timed fetched = Unit {0}

-- a refusal with a number that a taken row may have, and whose details have their forms
abbrev pub FitsRefusal : Option Refusal → Type 0
FitsRefusal None = Unit {0}
FitsRefusal (Some r) = (leb (code_of r) 25 ≡ true) × (is_detail r ≡ true)

-- A taken row whose parts have their forms.
pub record Fits (t : Taken) : Type 0 where
  pub host : IsText t.host
  pub host_seq : is_number t.host_seq ≡ true
  pub did : IsText t.did
  pub kind : t.kind < 256
  pub refusal : FitsRefusal t.refusal
  pub seq : is_number t.seq ≡ true
  pub message : IsString t.message
  pub effect : FitsEffect t.effect
  pub fetched : FitsFetched (is_timed t.moment) t.fetched
  pub moment : is_moment t.moment ≡ true

fetched_fits : (due timed : Bool) (x : Fetched) → is_fetched due timed x ≡ true → FitsFetched timed x
fetched_fits due timed Fetched.NotAsked h = tt
fetched_fits due timed Fetched.Absent h = tt
fetched_fits due timed (Fetched.Refused n) h = (and_parts due (is_repo_number timed n) h).1
fetched_fits due timed (Fetched.Whole w) h = (and_parts due (is_whole w) h).1

effect_fits : (kind : ℕ) (x : Effect) → is_effect kind x ≡ true → FitsEffect x × (kind < 256)
effect_fits kind Effect.Nothing h = (tt, omega (arith, eqb-true kind 3 h))
effect_fits kind (Effect.Repo head) h =
    let both = and_parts (eqb kind 1 || eqb kind 2) (is_head head) h in
    (both.1, small_kind kind both.0)
effect_fits kind (Effect.Account active status) h =
    let both = and_parts (eqb kind 4) (is_status status) h in
    (both.1, omega (arith, eqb-true kind 4 both.0))

nothing_fits : (x : Effect) → is_nothing x ≡ true → FitsEffect x
nothing_fits Effect.Nothing h = tt
nothing_fits (Effect.Repo head) h = absurd cc
nothing_fits (Effect.Account active status) h = absurd cc

-- an event that goes out, or is held
out_fits : (seq : ℕ) (message : List ℕ) (held : Bool) → ((is_positive seq && is_message message) || (held && (eqb seq 0 && is_empty message))) ≡ true → (is_number seq ≡ true) × IsString message
out_fits seq message held h =
    elim (one_of (is_positive seq && is_message message) (held && (eqb seq 0 && is_empty message)) h) [
      | inl out ↦
          let both = and_parts (is_positive seq) (is_message message) out in
          ((and_parts (ltb 0 seq) (is_number seq) both.0).1, message_fits message both.1)
      | inr kept ↦
          let both = and_parts held (eqb seq 0 && is_empty message) kept in
          none_fits seq message both.1
    ]

accepted_fits : (t : Taken) → t.refusal ≡ None → names_host t.host ≡ true → is_number t.host_seq ≡ true → is_about t.kind t.did ≡ true → is_moment t.moment ≡ true → is_accepted t ≡ true → Fits t
unfolding is_accepted
accepted_fits t none host host_seq did moment h =
    let one = and_parts (is_effect t.kind t.effect) (is_fetched false (is_timed t.moment) t.fetched && ((is_positive t.seq && is_message t.message) || (eqb t.kind 4 && (eqb t.seq 0 && is_empty t.message)))) h in
    let two = and_parts (is_fetched false (is_timed t.moment) t.fetched) ((is_positive t.seq && is_message t.message) || (eqb t.kind 4 && (eqb t.seq 0 && is_empty t.message))) one.1 in
    let effect = effect_fits t.kind t.effect one.0 in
    let out = out_fits t.seq t.message (eqb t.kind 4) two.1 in
    record {
      host = host_text t.host host;
      host_seq = host_seq;
      did = about_text t.kind t.did did;
      kind = effect.1;
      refusal = subst FitsRefusal (sym none) tt;
      seq = out.0;
      message = out.1;
      effect = effect.0;
      fetched = fetched_fits false (is_timed t.moment) t.fetched two.0;
      moment = moment;
    }

refused_fits : (r : Refusal) (t : Taken) → t.refusal ≡ Some r → names_host t.host ≡ true → is_number t.host_seq ≡ true → is_about t.kind t.did ≡ true → is_moment t.moment ≡ true → is_refused r t ≡ true → Fits t
unfolding is_refused
refused_fits r t some host host_seq did moment h =
    let a = and_parts (is_detail r && (leb (code_of r) 24 || (eqb (code_of r) 25 && is_timed t.moment))) _ h in
    let detail = and_parts (is_detail r) (leb (code_of r) 24 || (eqb (code_of r) 25 && is_timed t.moment)) a.0 in
    let b = and_parts (leb t.kind 4) _ a.1 in
    let c = and_parts (beq (eqb t.kind 0) (eqb (code_of r) 1)) _ b.1 in
    let d = and_parts (is_nothing t.effect) _ c.1 in
    let e = and_parts (is_fetched (loses (code_of r)) (is_timed t.moment) t.fetched) _ d.1 in
    let small = small_code (code_of r) (is_timed t.moment) detail.1 in
    let none = none_fits t.seq t.message e.1 in
    record {
      host = host_text t.host host;
      host_seq = host_seq;
      did = about_text t.kind t.did did;
      kind = omega (arith, leb-true t.kind 4 b.0);
      refusal = subst FitsRefusal (sym some) (small, detail.0);
      seq = none.0;
      message = none.1;
      effect = nothing_fits t.effect d.0;
      fetched = fetched_fits (loses (code_of r)) (is_timed t.moment) t.fetched e.0;
      moment = moment;
    }

decided_fits : (o : Option Refusal) (t : Taken) → t.refusal ≡ o → names_host t.host ≡ true → is_number t.host_seq ≡ true → is_about t.kind t.did ≡ true → is_moment t.moment ≡ true → is_decided o t ≡ true → Fits t
decided_fits None t is host host_seq did moment h = accepted_fits t is host host_seq did moment h
decided_fits (Some r) t is host host_seq did moment h = refused_fits r t is host host_seq did moment h

pub taken_fits : (t : Taken) → is_taken t ≡ true → Fits t
unfolding is_taken
taken_fits t h =
    let a = and_parts (names_host t.host) _ h in
    let b = and_parts (is_number t.host_seq) _ a.1 in
    let c = and_parts (is_about t.kind t.did) _ b.1 in
    let d = and_parts (is_moment t.moment) _ c.1 in
    decided_fits t.refusal t refl a.0 b.0 c.0 d.0 d.1
