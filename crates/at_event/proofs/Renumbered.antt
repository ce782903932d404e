-- A payload under another number says the same, but for its number, and fits as before.
use Rattle.std.proofs.Common.{◌≡◌, ℕ, suc, ◌-◌, ◌<◌, ◌^◌, Bool, true, false, cond, List, Option, Some, None, codes, refl, sym, ap, ◌∙◌, arith}
use Rattle.std.specs.Str.{bytes_eq}
use Rattle.std.proofs.lemmas.Bool.{false≢true, false_from_ne_true, lt-ltb}
use Rattle.std.proofs.lemmas.Slice.Eq.{bytes_eq-Decides}
use Rattle.at_cbor.specs.Item.{Item, Fields, no_fields, field}
use Rattle.at_cbor.specs.Kinds.{bytes_in, bool_in, value_of, field_of}
use Rattle.at_cbor.specs.Encoding.{fields_count, Fits, FieldsFit}
use Rattle.at_event.specs.declared.event.Body.{Body}
use Rattle.at_event.specs.declared.kind.EventKind.{EventKind}
use Rattle.at_event.specs.Events.{IsEvent}
use Rattle.at_cbor.specs.Taking.{◌>>=◌}
use Rattle.at_cid.specs.declared.limits.TheConstants.{NUMBERS}
use Rattle.at_form.specs.Forms.{required, optional, present_value, not_null, formed, number_in, did_in, tid_in, short_text_in, node_in}
use Rattle.at_event.specs.Seen.{Seen}
use Rattle.at_event.specs.Table.{seq_of, ops_in, flag_of, too_big_in, commit_event_of, sync_of, account_of, event_body_of, did_key, event_of, event_kind_of}
use Rattle.at_event.specs.Writing.{number_item, with_field_value, with_seq, numbered, out_of}

-- ---- a number put twice

chosen_twice : (b : Bool) (i j k : Item) → cond b i (cond b j k) ≡ cond b i k
chosen_twice true i j k = refl
chosen_twice false i j k = refl

pub with_value_again : (name : List ℕ) (i j : Item) (fs : Fields) → with_field_value name i (with_field_value name j fs) ≡ with_field_value name i fs
with_value_again name i j no_fields = refl
with_value_again name i j (field k l fs) =
    ap (λ (x : Item). field k x (with_field_value name i (with_field_value name j fs))) (chosen_twice (bytes_eq k name) i j l)
    ∙ ap (field k (cond (bytes_eq k name) i l)) (with_value_again name i j fs)

pub with_seq_again : (n m : ℕ) (payload : Item) → with_seq n (with_seq m payload) ≡ with_seq n payload
with_seq_again n m (Item.map fs) = ap Item.map (with_value_again (codes "seq") (number_item n) (number_item m) fs)
with_seq_again n m (Item.int z) = refl
with_seq_again n m (Item.bytes bs) = refl
with_seq_again n m (Item.text bs) = refl
with_seq_again n m (Item.list is) = refl
with_seq_again n m (Item.link bs) = refl
with_seq_again n m (Item.bool b) = refl
with_seq_again n m Item.null = refl

-- ---- the values of the other keys

other_key : (k name m : List ℕ) → bytes_eq name m ≡ false → bytes_eq k m ≡ true → bytes_eq k name ≡ false
other_key k name m differ same =
    let here : k ≡ m = (bytes_eq-Decides k m).0 same in
    false_from_ne_true (bytes_eq k name) (λ p. let e : name ≡ m = sym ((bytes_eq-Decides k name).0 p) ∙ here in false≢true (sym differ ∙ (bytes_eq-Decides name m).1 e))

kept_or : (b c : Bool) (i j : Item) (x y : Option Item) → (b ≡ true → c ≡ false) → x ≡ y → cond b (Some (cond c i j)) x ≡ cond b (Some j) y
kept_or true c i j x y h e = ap (λ (d : Bool). Some (cond d i j)) (h refl)
kept_or false c i j x y h e = e

pub value_kept : (name m : List ℕ) (i : Item) (fs : Fields) → bytes_eq name m ≡ false → value_of (with_field_value name i fs) m ≡ value_of fs m
value_kept name m i no_fields differ = refl
value_kept name m i (field k j fs) differ =
    kept_or (bytes_eq k m) (bytes_eq k name) i j (value_of (with_field_value name i fs) m) (value_of fs m) (other_key k name m differ) (value_kept name m i fs differ)

field_kept : (n : ℕ) (payload : Item) (m : List ℕ) → bytes_eq (codes "seq") m ≡ false → field_of (with_seq n payload) m ≡ field_of payload m
field_kept n (Item.map fs) m differ = value_kept (codes "seq") m (number_item n) fs differ
field_kept n (Item.int z) m differ = refl
field_kept n (Item.bytes bs) m differ = refl
field_kept n (Item.text bs) m differ = refl
field_kept n (Item.list is) m differ = refl
field_kept n (Item.link bs) m differ = refl
field_kept n (Item.bool b) m differ = refl
field_kept n Item.null m differ = refl

required_kept : {A : Type 0} (form : Item → Option A) (n : ℕ) (payload : Item) (m : List ℕ) → bytes_eq (codes "seq") m ≡ false → required form (with_seq n payload) m ≡ required form payload m
required_kept form n payload m differ = ap (λ (o : Option Item). o >>= form) (field_kept n payload m differ)

optional_kept : {A : Type 0} (form : Item → Option A) (n : ℕ) (payload : Item) (m : List ℕ) → bytes_eq (codes "seq") m ≡ false → optional form (with_seq n payload) m ≡ optional form payload m
unfolding present_value
optional_kept form n payload m differ = ap (λ (o : Option Item). formed form (not_null o)) (field_kept n payload m differ)

too_big_kept : (n : ℕ) (payload : Item) → too_big_in (with_seq n payload) ≡ too_big_in payload
unfolding too_big_in
too_big_kept n payload = ap flag_of (field_kept n payload (codes "tooBig") refl)

-- ---- what the payload says

commit_kept : (n : ℕ) (payload : Item) → commit_event_of (with_seq n payload) ≡ commit_event_of payload
unfolding commit_event_of
commit_kept n p =
    rw (
      required_kept did_in n p (codes "repo") refl,
      required_kept tid_in n p (codes "rev") refl,
      optional_kept tid_in n p (codes "since") refl,
      optional_kept node_in n p (codes "prevData") refl,
      required_kept node_in n p (codes "commit") refl,
      too_big_kept n p,
      required_kept bytes_in n p (codes "blocks") refl,
      required_kept ops_in n p (codes "ops") refl,
    ) refl

sync_kept : (n : ℕ) (payload : Item) → sync_of (with_seq n payload) ≡ sync_of payload
unfolding sync_of
sync_kept n p = rw (required_kept did_in n p (codes "did") refl, required_kept tid_in n p (codes "rev") refl, required_kept bytes_in n p (codes "blocks") refl) refl

account_kept : (n : ℕ) (payload : Item) → account_of (with_seq n payload) ≡ account_of payload
unfolding account_of
account_kept n p = rw (required_kept bool_in n p (codes "active") refl, optional_kept short_text_in n p (codes "status") refl) refl

body_kept : (kind : EventKind) (n : ℕ) (payload : Item) → event_body_of kind (with_seq n payload) ≡ event_body_of kind payload
unfolding event_body_of
body_kept EventKind.Commit n p = rw (commit_kept n p) refl
body_kept EventKind.Sync n p = rw (sync_kept n p) refl
body_kept EventKind.Identity n p = refl
body_kept EventKind.Account n p = rw (account_kept n p) refl

did_kept : (kind : EventKind) (n : ℕ) (payload : Item) → required did_in (with_seq n payload) (did_key kind) ≡ required did_in payload (did_key kind)
did_kept EventKind.Commit n p = required_kept did_in n p (codes "repo") refl
did_kept EventKind.Sync n p = required_kept did_in n p (codes "did") refl
did_kept EventKind.Identity n p = required_kept did_in n p (codes "did") refl
did_kept EventKind.Account n p = required_kept did_in n p (codes "did") refl

-- ---- its number

put_or : (b : Bool) (i j l : Item) (x y : Option Item) → cond b (Some l) x ≡ Some j → (x ≡ Some j → y ≡ Some i) → cond b (Some (cond b i l)) y ≡ Some i
put_or true i j l x y e h = refl
put_or false i j l x y e h = h e

value_put : (name : List ℕ) (i j : Item) (fs : Fields) → value_of fs name ≡ Some j → value_of (with_field_value name i fs) name ≡ Some i
value_put name i j no_fields e = absurd cc
value_put name i j (field k l fs) e = put_or (bytes_eq k name) i j l (value_of fs name) (value_of (with_field_value name i fs) name) e (value_put name i j fs)

bind_some : {A B : Type 0} (o : Option A) (f : A → Option B) (y : B) → (o >>= f) ≡ Some y → (x : A) × (o ≡ Some x)
bind_some (Some x) f y e = (x, refl)
bind_some None f y e = absurd cc

field_put : (n : ℕ) (payload i : Item) → field_of payload (codes "seq") ≡ Some i → field_of (with_seq n payload) (codes "seq") ≡ Some (number_item n)
field_put n (Item.map fs) i e = value_put (codes "seq") (number_item n) i fs e
field_put n (Item.int z) i e = absurd cc
field_put n (Item.bytes bs) i e = absurd cc
field_put n (Item.text bs) i e = absurd cc
field_put n (Item.list is) i e = absurd cc
field_put n (Item.link bs) i e = absurd cc
field_put n (Item.bool b) i e = absurd cc
field_put n Item.null i e = absurd cc

number_item_in : (n : ℕ) → n < 2 ^ 53 → number_in (number_item n) ≡ Some n
unfolding number_in
number_item_in n lt = rw (lt-ltb n NUMBERS lt) refl

pub seq_put : (n m : ℕ) (payload : Item) → n < 2 ^ 53 → seq_of payload ≡ Some m → seq_of (with_seq n payload) ≡ Some n
unfolding seq_of
seq_put n m payload lt e =
    let there = bind_some (field_of payload (codes "seq")) number_in m e in
    ap (λ (o : Option Item). o >>= number_in) (field_put n payload there.0 there.1) ∙ number_item_in n lt

-- ---- it fits

fits_or : (b : Bool) (i j : Item) (depth : ℕ) → Fits i depth → Fits j depth → Fits (cond b i j) depth
fits_or true i j depth p q = p
fits_or false i j depth p q = q

with_value_fits : (name : List ℕ) (i : Item) (fs : Fields) (before : Option (List ℕ)) (depth : ℕ) → Fits i depth → FieldsFit fs before depth → FieldsFit (with_field_value name i fs) before depth
with_value_fits name i no_fields before depth p fits = tt
with_value_fits name i (field k j fs) before depth p fits = (fits.0, fits.1, fits_or (bytes_eq k name) i j depth p fits.2, with_value_fits name i fs (Some k) depth p fits.3)

pub with_value_count : (name : List ℕ) (i : Item) (fs : Fields) → fields_count (with_field_value name i fs) ≡ fields_count fs
with_value_count name i no_fields = refl
with_value_count name i (field k j fs) = ap suc (with_value_count name i fs)

pub with_seq_fits : (n : ℕ) (payload : Item) (depth : ℕ) → n < 2 ^ 53 → Fits payload depth → Fits (with_seq n payload) depth
with_seq_fits n (Item.map fs) depth lt fits = (fits.0, rw (with_value_count (codes "seq") (number_item n) fs) fits.1, with_value_fits (codes "seq") (number_item n) fs None (depth - 1) (omega (arith, lt)) fits.2)
with_seq_fits n (Item.int z) depth lt fits = fits
with_seq_fits n (Item.bytes bs) depth lt fits = fits
with_seq_fits n (Item.text bs) depth lt fits = fits
with_seq_fits n (Item.list is) depth lt fits = fits
with_seq_fits n (Item.link bs) depth lt fits = fits
with_seq_fits n (Item.bool b) depth lt fits = tt
with_seq_fits n Item.null depth lt fits = tt

-- ---- the event
abbrev with_payload : ℕ → Item → Option Seen → Option Seen
with_payload n payload read = read >>= λ e. Some (record { seq = n; did = e.did; time = e.time; body = e.body; payload = payload })

abbrev made : ℕ → List ℕ → List ℕ → Body → Item → Option Seen
made n did time body payload = Some (record { seq = n; did = did; time = time; body = body; payload = payload })

three_fields : (n m : ℕ) (p q : Item) (did time : Option (List ℕ)) (body : Option Body)
    → (did >>= λ d. time >>= λ t. body >>= λ b. made n d t b q) ≡ with_payload n q (did >>= λ d. time >>= λ t. body >>= λ b. made m d t b p)
three_fields n m p q (Some d) (Some t) (Some b) = refl
three_fields n m p q (Some d) (Some t) None = refl
three_fields n m p q (Some d) None b = refl
three_fields n m p q None t b = refl

event_kept : (kind : EventKind) (n m : ℕ) (payload : Item) → event_of kind n (with_seq n payload) ≡ with_payload n (with_seq n payload) (event_of kind m payload)
unfolding event_of
event_kept kind n m p = rw (did_kept kind n p, required_kept short_text_in n p (codes "time") refl, body_kept kind n p) (three_fields n m p (with_seq n p) (required did_in p (did_key kind)) (required short_text_in p (codes "time")) (event_body_of kind p))

-- an event under another number is an event
pub numbered_is_event : (event : Seen) (n : ℕ) → n < 2 ^ 53 → IsEvent event → IsEvent (numbered event n)
numbered_is_event event n lt h =
    record {
      fits = with_seq_fits n event.payload 64 lt h.fits;
      number = seq_put n event.seq event.payload lt h.number;
      read = event_kept (event_kind_of event.body) n event.seq event.payload ∙ ap (with_payload n (with_seq n event.payload)) h.read;
    }

-- renumbered twice, it has the last number
pub numbered_again : (event : Seen) (n m : ℕ) → out_of (numbered event m) n ≡ out_of event n
unfolding out_of
numbered_again event n m = rw (with_seq_again n m event.payload) refl
