-- What the fields of an event that was read are to a row: texts, bytes and revisions.
use Rattle.std.proofs.Common.{◌≡◌, ℕ, ◌<◌, ◌^◌, Bool, true, false, ◌&&◌, cond, List, length, Option, Some, None, codes, refl, ap, subst, eqb}
use Rattle.std.specs.Prelude.{slice_index, nat_le}
use Rattle.std.specs.List.{list_all}
use Rattle.std.specs.Str.{is_utf8}
use Rattle.std.proofs.lemmas.Bool.{and_parts, and_from, eqb-true, le-leb}
use Rattle.at_cid.specs.Link.{IsBytes}
use Rattle.at_cbor.specs.Item.{Item}
use Rattle.at_cbor.specs.Kinds.{text_in, bytes_in, field_of}
use Rattle.at_cbor.specs.Encoding.{IsText}
use Rattle.at_cbor.specs.Taking.{◌>>=◌}
use Rattle.at_syntax.specs.Did.{is_did}
use Rattle.at_syntax.specs.Tid.{IsTid, is_tid, is_tid_character, is_first_character, tid_value, tid_of}
use Rattle.at_syntax.proofs.Tids.{value_below}
use Rattle.at_form.specs.Forms.{did_in, tid_in, short_text_in, node_in, optional, required}
use Rattle.at_form.proofs.Held.{some_same, step_from}
use Rattle.at_event.specs.Events.{IsEvent}
use Rattle.at_event.specs.Formed.{IsShortOrNone, IsBodyOf}
use Rattle.at_event.specs.Seen.{Seen}
use Rattle.at_event.specs.Table.{ops_in, too_big_in, commit_event_of, sync_of, account_of, event_body_of, did_key, event_of, event_kind_of}
use Rattle.at_event.specs.declared.event.Body.{Body}
use Rattle.at_event.specs.declared.event.CommitEvent.{CommitEvent}
use Rattle.at_event.specs.declared.event.SyncEvent.{SyncEvent}
use Rattle.at_event.specs.declared.kind.EventKind.{EventKind}
use Rattle.at_event.specs.declared.ops.EventOp.{EventOp}
use Rattle.at_event.proofs.Formed.{events_formed}
use Rattle.relay_row.specs.Rules.{are_bytes, is_text, is_status, names_did}
use Rattle.relay_row.proofs.Bytes.{bytes_tested}

pub text_tested : (text : List ℕ) → IsText text → is_text text ≡ true
text_tested text is = and_from (is_utf8 text) (are_bytes text) is.1 (bytes_tested text is.0.1)

status_tested : (status : Option (List ℕ)) → IsShortOrNone status → is_status status ≡ true
status_tested None is = refl
status_tested (Some text) is = and_from (is_text text) (nat_le (length text) 64) (text_tested text is.text) (le-leb (length text) 64 is.short)

-- ---- revisions

tid_parts : (text : List ℕ) → is_tid text ≡ true → IsTid text
unfolding is_tid
tid_parts text h =
    let both = and_parts (eqb (length text) 13 && is_first_character (slice_index text 0)) (list_all is_tid_character text) h in
    let front = and_parts (eqb (length text) 13) (is_first_character (slice_index text 0)) both.0 in
    record { long = eqb-true (length text) 13 front.0; first = front.1; characters = both.1 }

tid_if : (text : List ℕ) (rev : ℕ) (b : Bool) → is_tid text ≡ b → cond b (Some (tid_value text)) None ≡ Some rev → rev < 2 ^ 64
tid_if text rev true known e = subst (λ (n : ℕ). n < 2 ^ 64) (some_same (tid_value text) rev e) (value_below text (tid_parts text known))
tid_if text rev false known e = absurd cc

rev_held : (i : Item) (rev : ℕ) → tid_in i ≡ Some rev → rev < 2 ^ 64
unfolding tid_in tid_of
rev_held i rev e = let text = step_from (text_in i) tid_of rev e in tid_if text.0 rev (is_tid text.0) refl text.2

rev_there : (m : Item) (name : List ℕ) (rev : ℕ) → required tid_in m name ≡ Some rev → rev < 2 ^ 64
rev_there m name rev e = let i = step_from (field_of m name) tid_in rev e in rev_held i.0 rev i.2

commit_rev : (a : Option (List ℕ)) (b : Option ℕ) (c : Option (Option ℕ)) (d : Option (Option (List ℕ))) (f : Option (List ℕ)) (g : Option Bool) (h : Option (List ℕ)) (k : Option (List EventOp)) (x : CommitEvent)
    → (a >>= λ repo. b >>= λ rev. c >>= λ since. d >>= λ prev_data. f >>= λ commit. g >>= λ too_big. h >>= λ blocks. k >>= λ ops.
    Some (record { repo = repo; rev = rev; since = since; prev_data = prev_data; commit = commit; too_big = too_big; blocks = blocks; ops = ops })) ≡ Some x
    → b ≡ Some x.rev
commit_rev None b c d f g h k x e = absurd cc
commit_rev (Some a) None c d f g h k x e = absurd cc
commit_rev (Some a) (Some b) None d f g h k x e = absurd cc
commit_rev (Some a) (Some b) (Some c) None f g h k x e = absurd cc
commit_rev (Some a) (Some b) (Some c) (Some d) None g h k x e = absurd cc
commit_rev (Some a) (Some b) (Some c) (Some d) (Some f) None h k x e = absurd cc
commit_rev (Some a) (Some b) (Some c) (Some d) (Some f) (Some g) None k x e = absurd cc
commit_rev (Some a) (Some b) (Some c) (Some d) (Some f) (Some g) (Some h) None x e = absurd cc
commit_rev (Some a) (Some b) (Some c) (Some d) (Some f) (Some g) (Some h) (Some k) x e =
    ap (λ (y : CommitEvent). Some y.rev) (some_same (record { repo = a; rev = b; since = c; prev_data = d; commit = f; too_big = g; blocks = h; ops = k }) x e)

sync_rev : (a : Option (List ℕ)) (b : Option ℕ) (h : Option (List ℕ)) (x : SyncEvent) → (a >>= λ did. b >>= λ rev. h >>= λ blocks. Some (record { did = did; rev = rev; blocks = blocks })) ≡ Some x → b ≡ Some x.rev
sync_rev None b h x e = absurd cc
sync_rev (Some a) None h x e = absurd cc
sync_rev (Some a) (Some b) None x e = absurd cc
sync_rev (Some a) (Some b) (Some h) x e = ap (λ (y : SyncEvent). Some y.rev) (some_same (record { did = a; rev = b; blocks = h }) x e)

abbrev HasRev : Body → Type 0
HasRev (Body.Commit c) = c.rev < 2 ^ 64
HasRev (Body.Sync s) = s.rev < 2 ^ 64
HasRev Body.Identity = Unit {0}
HasRev (Body.Account b) = Unit {0}

body_rev : (kind : EventKind) (m : Item) (body : Body) → event_body_of kind m ≡ Some body → HasRev body
unfolding event_body_of commit_event_of sync_of
body_rev EventKind.Commit m body e =
    let x = step_from (commit_event_of m) (λ commit. Some (Body.Commit commit)) body e in
    let is = commit_rev (required did_in m (codes "repo")) (required tid_in m (codes "rev")) (optional tid_in m (codes "since")) (optional node_in m (codes "prevData")) (required node_in m (codes "commit")) (too_big_in m) (required bytes_in m (codes "blocks")) (required ops_in m (codes "ops")) x.0 x.1 in
    subst HasRev (some_same (Body.Commit x.0) body x.2) (rev_there m (codes "rev") x.0.rev is)
body_rev EventKind.Sync m body e =
    let x = step_from (sync_of m) (λ sync. Some (Body.Sync sync)) body e in
    let is = sync_rev (required did_in m (codes "did")) (required tid_in m (codes "rev")) (required bytes_in m (codes "blocks")) x.0 x.1 in
    subst HasRev (some_same (Body.Sync x.0) body x.2) (rev_there m (codes "rev") x.0.rev is)
body_rev EventKind.Identity m body e = subst HasRev (some_same Body.Identity body e) tt
body_rev EventKind.Account m body e =
    let x = step_from (account_of m) (λ account. Some (Body.Account account)) body e in
    subst HasRev (some_same (Body.Account x.0) body x.2) tt

event_body : (d t : Option (List ℕ)) (b : Option Body) (seq : ℕ) (payload : Item) (x : Seen)
    → (d >>= λ did. t >>= λ time. b >>= λ body. Some (record { seq = seq; did = did; time = time; body = body; payload = payload })) ≡ Some x → b ≡ Some x.body
event_body None t b seq payload x e = absurd cc
event_body (Some d) None b seq payload x e = absurd cc
event_body (Some d) (Some t) None seq payload x e = absurd cc
event_body (Some d) (Some t) (Some b) seq payload x e = ap (λ (y : Seen). Some y.body) (some_same (record { seq = seq; did = d; time = t; body = b; payload = payload }) x e)

event_rev : (e : Seen) → IsEvent e → HasRev e.body
unfolding event_of
event_rev e is =
    let kind = event_kind_of e.body in
    body_rev kind e.payload e.body (event_body (required did_in e.payload (did_key kind)) (required short_text_in e.payload (codes "time")) (event_body_of kind e.payload) e.seq e.payload e is.read)

-- the blocks of an event are bytes, its revision is one, and its status is one that a row may keep
abbrev pub IsBodyKept : Body → Type 0
IsBodyKept (Body.Commit c) = IsBytes c.blocks × (c.rev < 2 ^ 64)
IsBodyKept (Body.Sync s) = IsBytes s.blocks × (s.rev < 2 ^ 64)
IsBodyKept Body.Identity = Unit {0}
IsBodyKept (Body.Account b) = is_status b.status ≡ true

body_kept : (did : List ℕ) (body : Body) → IsBodyOf did body → HasRev body → IsBodyKept body
body_kept did (Body.Commit c) is rev = (is.blocks.1, rev)
body_kept did (Body.Sync s) is rev = (is.blocks.1, rev)
body_kept did Body.Identity is rev = tt
body_kept did (Body.Account b) is rev = status_tested b.status is

-- the DID of a read event is a text that is one, and what it says may be kept
pub event_kept : (e : Seen) → IsEvent e → (names_did e.did ≡ true) × IsBodyKept e.body
event_kept e is =
    let forms = events_formed e is in
    (and_from (is_text e.did) (is_did e.did) (text_tested e.did forms.did_text) forms.did, body_kept e.did e.body forms.body (event_rev e is))
