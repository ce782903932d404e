-- The fields of an event have their forms.
use Rattle.std.proofs.Common.{◌≡◌, ◌<◌, ℕ, Bool, List, Option, Some, None, Result, Ok, Err, codes, refl, sym, ap, ◌∙◌, subst}
use Rattle.std.specs.Prelude.{⊤, IfOk}
use Rattle.at_cid.specs.Link.{IsBytes}
use Rattle.at_cbor.specs.Item.{Item}
use Rattle.at_cbor.specs.Kinds.{bytes_in, bool_in, map_in}
use Rattle.at_cbor.specs.Encoding.{Fits}
use Rattle.at_cbor.specs.Taking.{◌>>=◌}
use Rattle.at_cid.specs.declared.limits.TheConstants.{NUMBERS}
use Rattle.at_form.specs.Forms.{did_in, tid_in, short_text_in, node_in, optional, required}
use Rattle.at_form.proofs.Held.{some_same, step_from}
use Rattle.at_event.specs.declared.event.AccountEvent.{AccountEvent}
use Rattle.at_event.specs.declared.event.Body.{Body}
use Rattle.at_event.specs.declared.event.CommitEvent.{CommitEvent}
use Rattle.at_event.specs.declared.event.SyncEvent.{SyncEvent}
use Rattle.at_event.specs.declared.frame.Frame.{Frame}
use Rattle.at_event.specs.declared.frame.FrameFault.{FrameFault}
use Rattle.at_event.specs.declared.kind.EventKind.{EventKind}
use Rattle.at_event.specs.declared.kind.Heading.{Heading}
use Rattle.at_event.specs.declared.ops.EventOp.{EventOp}
use Rattle.at_event.specs.Events.{IsEvent}
use Rattle.at_event.specs.Formed.{IsShortOrNone, IsCommitOf, IsSyncOf, IsBodyOf, IsFormedFrame}
use Rattle.at_event.specs.Frames.{items_in, formed_frame, numbered_frame, event_frame, announced, heading_of, headed, framed, frame_of, IsMessage, IsFrameOf, ReadsAs}
use Rattle.at_event.specs.Laws.{EventsAreFormed, FramesAreEvents}
use Rattle.at_event.specs.Seen.{Seen}
use Rattle.at_event.specs.Table.{ops_in, too_big_in, commit_event_of, sync_of, account_of, event_body_of, did_key, event_of, seq_of, event_kind_of}
use Rattle.at_event.proofs.Fields.{did_there, did_text_there, number_there, short_there, bytes_there, node_there, node_or_none, short_or_none}
use Rattle.at_event.proofs.FormedOps.{ops_there}
use Rattle.at_event.proofs.Messages.{message_read, items_taken}

-- ---- what an event says

record Commits (repo prev commit blocks ops : Type 0) : Type 0 where
  repo_is : repo
  prev_is : prev
  commit_is : commit
  blocks_is : blocks
  ops_is : ops

commit_parts : (a : Option (List ℕ)) (b : Option ℕ) (c : Option (Option ℕ)) (d : Option (Option (List ℕ))) (f : Option (List ℕ)) (g : Option Bool) (h : Option (List ℕ)) (k : Option (List EventOp)) (x : CommitEvent)
    → (a >>= λ repo. b >>= λ rev. c >>= λ since. d >>= λ prev_data. f >>= λ commit. g >>= λ too_big. h >>= λ blocks. k >>= λ ops.
    Some (record { repo = repo; rev = rev; since = since; prev_data = prev_data; commit = commit; too_big = too_big; blocks = blocks; ops = ops })) ≡ Some x
    → Commits (a ≡ Some x.repo) (d ≡ Some x.prev_data) (f ≡ Some x.commit) (h ≡ Some x.blocks) (k ≡ Some x.ops)
commit_parts None b c d f g h k x e = absurd cc
commit_parts (Some a) None c d f g h k x e = absurd cc
commit_parts (Some a) (Some b) None d f g h k x e = absurd cc
commit_parts (Some a) (Some b) (Some c) None f g h k x e = absurd cc
commit_parts (Some a) (Some b) (Some c) (Some d) None g h k x e = absurd cc
commit_parts (Some a) (Some b) (Some c) (Some d) (Some f) None h k x e = absurd cc
commit_parts (Some a) (Some b) (Some c) (Some d) (Some f) (Some g) None k x e = absurd cc
commit_parts (Some a) (Some b) (Some c) (Some d) (Some f) (Some g) (Some h) None x e = absurd cc
commit_parts (Some a) (Some b) (Some c) (Some d) (Some f) (Some g) (Some h) (Some k) x e =
    let same = some_same (record { repo = a; rev = b; since = c; prev_data = d; commit = f; too_big = g; blocks = h; ops = k }) x e in
    record {
      repo_is = ap (λ (y : CommitEvent). Some y.repo) same;
      prev_is = ap (λ (y : CommitEvent). Some y.prev_data) same;
      commit_is = ap (λ (y : CommitEvent). Some y.commit) same;
      blocks_is = ap (λ (y : CommitEvent). Some y.blocks) same;
      ops_is = ap (λ (y : CommitEvent). Some y.ops) same;
    }

commit_formed : (m : Item) (did : List ℕ) (x : CommitEvent) → Fits m 64 → required did_in m (codes "repo") ≡ Some did → commit_event_of m ≡ Some x → IsCommitOf did x
unfolding commit_event_of
commit_formed m did x fits own e =
    let parts = commit_parts (required did_in m (codes "repo")) (required tid_in m (codes "rev")) (optional tid_in m (codes "since")) (optional node_in m (codes "prevData")) (required node_in m (codes "commit")) (too_big_in m) (required bytes_in m (codes "blocks")) (required ops_in m (codes "ops")) x e in
    record {
      repo = some_same x.repo did (sym parts.repo_is ∙ own);
      prev_data = node_or_none m 64 fits (codes "prevData") x.prev_data parts.prev_is;
      commit = node_there m 64 fits (codes "commit") x.commit parts.commit_is;
      blocks = bytes_there m 64 fits (codes "blocks") x.blocks parts.blocks_is;
      ops = ops_there m 64 (codes "ops") x.ops fits parts.ops_is;
    }

record Syncs (did blocks : Type 0) : Type 0 where
  did_is : did
  blocks_is : blocks

sync_parts : (a : Option (List ℕ)) (b : Option ℕ) (h : Option (List ℕ)) (x : SyncEvent)
    → (a >>= λ did. b >>= λ rev. h >>= λ blocks. Some (record { did = did; rev = rev; blocks = blocks })) ≡ Some x → Syncs (a ≡ Some x.did) (h ≡ Some x.blocks)
sync_parts None b h x e = absurd cc
sync_parts (Some a) None h x e = absurd cc
sync_parts (Some a) (Some b) None x e = absurd cc
sync_parts (Some a) (Some b) (Some h) x e =
    let same = some_same (record { did = a; rev = b; blocks = h }) x e in
    record { did_is = ap (λ (y : SyncEvent). Some y.did) same; blocks_is = ap (λ (y : SyncEvent). Some y.blocks) same }

sync_formed : (m : Item) (did : List ℕ) (x : SyncEvent) → Fits m 64 → required did_in m (codes "did") ≡ Some did → sync_of m ≡ Some x → IsSyncOf did x
unfolding sync_of
sync_formed m did x fits own e =
    let parts = sync_parts (required did_in m (codes "did")) (required tid_in m (codes "rev")) (required bytes_in m (codes "blocks")) x e in
    record { did_is = some_same x.did did (sym parts.did_is ∙ own); blocks = bytes_there m 64 fits (codes "blocks") x.blocks parts.blocks_is }

account_parts : (a : Option Bool) (b : Option (Option (List ℕ))) (x : AccountEvent) → (a >>= λ active. b >>= λ status. Some (record { active = active; status = status })) ≡ Some x → b ≡ Some x.status
account_parts None b x e = absurd cc
account_parts (Some a) None x e = absurd cc
account_parts (Some a) (Some b) x e = ap (λ (y : AccountEvent). Some y.status) (some_same (record { active = a; status = b }) x e)

account_formed : (m : Item) (x : AccountEvent) → Fits m 64 → account_of m ≡ Some x → IsShortOrNone x.status
unfolding account_of
account_formed m x fits e = short_or_none m 64 fits (codes "status") x.status (account_parts (required bool_in m (codes "active")) (optional short_text_in m (codes "status")) x e)

body_formed : (kind : EventKind) (m : Item) (did : List ℕ) (body : Body) → Fits m 64 → required did_in m (did_key kind) ≡ Some did → event_body_of kind m ≡ Some body → IsBodyOf did body
unfolding event_body_of
body_formed EventKind.Commit m did body fits own e =
    let x = step_from (commit_event_of m) (λ commit. Some (Body.Commit commit)) body e in
    subst (IsBodyOf did) (some_same (Body.Commit x.0) body x.2) (commit_formed m did x.0 fits own x.1)
body_formed EventKind.Sync m did body fits own e =
    let x = step_from (sync_of m) (λ sync. Some (Body.Sync sync)) body e in
    subst (IsBodyOf did) (some_same (Body.Sync x.0) body x.2) (sync_formed m did x.0 fits own x.1)
body_formed EventKind.Identity m did body fits own e = subst (IsBodyOf did) (some_same Body.Identity body e) tt
body_formed EventKind.Account m did body fits own e =
    let x = step_from (account_of m) (λ account. Some (Body.Account account)) body e in
    subst (IsBodyOf did) (some_same (Body.Account x.0) body x.2) (account_formed m x.0 fits x.1)

record Says (seq did time body payload : Type 0) : Type 0 where
  seq_is : seq
  did_is : did
  time_is : time
  body_is : body
  payload_is : payload

event_parts : (d t : Option (List ℕ)) (b : Option Body) (seq : ℕ) (payload : Item) (x : Seen)
    → (d >>= λ did. t >>= λ time. b >>= λ body. Some (record { seq = seq; did = did; time = time; body = body; payload = payload })) ≡ Some x
    → Says (x.seq ≡ seq) (d ≡ Some x.did) (t ≡ Some x.time) (b ≡ Some x.body) (x.payload ≡ payload)
event_parts None t b seq payload x e = absurd cc
event_parts (Some d) None b seq payload x e = absurd cc
event_parts (Some d) (Some t) None seq payload x e = absurd cc
event_parts (Some d) (Some t) (Some b) seq payload x e =
    let same = some_same (record { seq = seq; did = d; time = t; body = b; payload = payload }) x e in
    record {
      seq_is = sym (ap (λ (y : Seen). y.seq) same);
      did_is = ap (λ (y : Seen). Some y.did) same;
      time_is = ap (λ (y : Seen). Some y.time) same;
      body_is = ap (λ (y : Seen). Some y.body) same;
      payload_is = sym (ap (λ (y : Seen). y.payload) same);
    }

event_says : (kind : EventKind) (seq : ℕ) (payload : Item) (x : Seen) → event_of kind seq payload ≡ Some x
    → Says (x.seq ≡ seq) (required did_in payload (did_key kind) ≡ Some x.did) (required short_text_in payload (codes "time") ≡ Some x.time) (event_body_of kind payload ≡ Some x.body) (x.payload ≡ payload)
unfolding event_of
event_says kind seq payload x e = event_parts (required did_in payload (did_key kind)) (required short_text_in payload (codes "time")) (event_body_of kind payload) seq payload x e

seq_below : (payload : Item) (n : ℕ) → seq_of payload ≡ Some n → n < NUMBERS
unfolding seq_of
seq_below payload n e = number_there payload (codes "seq") n e

pub events_formed : EventsAreFormed
events_formed event is =
    let kind = event_kind_of event.body in
    let says = event_says kind event.seq event.payload event is.read in
    record {
      seq = seq_below event.payload event.seq is.number;
      did = did_there event.payload (did_key kind) event.did says.did_is;
      did_text = did_text_there event.payload 64 is.fits (did_key kind) event.did says.did_is;
      time = short_there event.payload 64 is.fits (codes "time") event.time says.time_is;
      body = body_formed kind event.payload event.did event.body is.fits says.did_is says.body_is;
    }

-- ---- what an answer says

body_kind : (kind : EventKind) (m : Item) (body : Body) → event_body_of kind m ≡ Some body → event_kind_of body ≡ kind
unfolding event_body_of
body_kind EventKind.Commit m body e = let x = step_from (commit_event_of m) (λ commit. Some (Body.Commit commit)) body e in sym (ap event_kind_of (some_same (Body.Commit x.0) body x.2))
body_kind EventKind.Sync m body e = let x = step_from (sync_of m) (λ sync. Some (Body.Sync sync)) body e in sym (ap event_kind_of (some_same (Body.Sync x.0) body x.2))
body_kind EventKind.Identity m body e = sym (ap event_kind_of (some_same Body.Identity body e))
body_kind EventKind.Account m body e = let x = step_from (account_of m) (λ account. Some (Body.Account account)) body e in sym (ap event_kind_of (some_same (Body.Account x.0) body x.2))

event_made : (kind : EventKind) (n : ℕ) (m : Item) (event : Seen) → Fits m 64 → seq_of m ≡ Some n → event_of kind n m ≡ Some event → IsEvent event
event_made kind n m event fits known read =
    let says = event_says kind n m event read in
    let P : Item → Type 0 = λ p. Fits p 64 in
    record {
      fits = subst P (sym says.payload_is) fits;
      number = ap seq_of says.payload_is ∙ known ∙ ap (λ (k : ℕ). Some k) (sym says.seq_is);
      read = ap (λ (k : EventKind). event_of k event.seq event.payload) (body_kind kind m event.body says.body_is) ∙ ap (λ (k : ℕ). event_of kind k event.payload) says.seq_is
          ∙ ap (λ (p : Item). event_of kind n p) says.payload_is ∙ read;
    }

-- the event that a frame is, where it is one, is made of the fields of its payload
abbrev IsMade : Frame → Type 0
IsMade (Frame.Event event) = IsEvent event
IsMade (Frame.Faulty seq) = seq < NUMBERS
IsMade Frame.Info = ⊤
IsMade Frame.Error = ⊤
IsMade Frame.Unknown = ⊤

made_formed : (frame : Frame) → IsMade frame → IsFormedFrame frame
made_formed (Frame.Event event) is = events_formed event is
made_formed (Frame.Faulty seq) is = is
made_formed Frame.Info is = tt
made_formed Frame.Error is = tt
made_formed Frame.Unknown is = tt

numbered_made : (kind : EventKind) (m : Item) (seq : Option ℕ) (frame : Frame) → Fits m 64 → seq_of m ≡ seq → numbered_frame kind m seq ≡ Ok frame → IsMade frame
numbered_made kind m None frame fits known e = absurd cc
numbered_made kind m (Some n) frame fits known e = subst IsMade (ok_same (formed_frame n (event_of kind n m)) frame e) (made_by (event_of kind n m) refl)
  where
    ok_same : (x y : Frame) → ◌≡◌ {A = Result Frame FrameFault} (Ok x) (Ok y) → x ≡ y
    ok_same x y same = cc

    made_by : (event : Option Seen) → event_of kind n m ≡ event → IsMade (formed_frame n event)
    made_by None read = seq_below m n known
    made_by (Some event) read = event_made kind n m event fits known read

abbrev IsMadeAnswer : Result Frame FrameFault → Type 0
IsMadeAnswer (Ok frame) = IsMade frame
IsMadeAnswer (Err fault) = ⊤

frame_made : (header payload : Item) (frame : Frame) → Fits payload 64 → framed (Some (header, payload)) ≡ Ok frame → IsMade frame
unfolding announced event_frame
frame_made header payload frame fits e = headed_made (heading_of header) (map_in payload) e
  where
    announced_made : (heading : Heading) → announced heading payload ≡ Ok frame → IsMade frame
    announced_made (Heading.Event kind) same = numbered_made kind payload (seq_of payload) frame fits refl same
    announced_made Heading.Info same = subst (λ (r : Result Frame FrameFault). IsMadeAnswer r) same tt
    announced_made Heading.Error same = subst (λ (r : Result Frame FrameFault). IsMadeAnswer r) same tt
    announced_made Heading.Unknown same = subst (λ (r : Result Frame FrameFault). IsMadeAnswer r) same tt

    headed_made : (heading : Option Heading) (fields : Option (List (List ℕ × Item))) → headed heading fields payload ≡ Ok frame → IsMade frame
    headed_made None fields same = absurd cc
    headed_made (Some heading) None same = absurd cc
    headed_made (Some heading) (Some fields) same = announced_made heading same

taken : (message : List ℕ) (frame : Frame) → IsBytes message → frame_of message ≡ Ok frame → IsFrameOf message frame
unfolding frame_of
taken message frame bytes e = taken_from (items_in message) refl e
  where
    taken_from : (items : Option (Item × Item)) → items_in message ≡ items → framed items ≡ Ok frame → IsFrameOf message frame
    taken_from None known same = absurd cc
    taken_from (Some x) known same = record { header = x.0; payload = x.1; items = items_taken message x bytes known; says = same }

module _ (message : List ℕ) (bytes : IsBytes message) where
  pub answer_whole : (r : Result Frame FrameFault) → ReadsAs r (frame_of message) → IfOk r (IsFrameOf message)
  answer_whole (Ok frame) e = taken message frame bytes e
  answer_whole (Err fault) e = tt

  pub answer_formed : (r : Result Frame FrameFault) → ReadsAs r (frame_of message) → IfOk r IsFormedFrame
  answer_formed (Ok frame) e = let t = taken message frame bytes e in made_formed frame (frame_made t.header t.payload frame t.items.payload_form t.says)
  answer_formed (Err fault) e = tt

pub frames_events : FramesAreEvents
frames_events message event bytes e = let t = taken message (Frame.Event event) bytes e in frame_made t.header t.payload (Frame.Event event) t.items.payload_form t.says

pub answer_only : (message : List ℕ) (r : Result Frame FrameFault) (header payload : Item) → ReadsAs r (frame_of message) → IsMessage message header payload → ReadsAs r (framed (Some (header, payload)))
unfolding frame_of
answer_only message r header payload given h = subst (ReadsAs r) (ap framed (message_read message header payload h)) given
