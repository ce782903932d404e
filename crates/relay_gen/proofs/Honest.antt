-- Made messages are read as events of their accounts.
use Rattle.std.proofs.Common.{◌≡◌, ℕ, zero, suc, ◌+◌, ◌*◌, ◌%◌, ◌^◌, ◌<◌, ◌≤◌, ◌==◌, Bool, true, false, cond, List, [], ◌∷◌, ◌++◌, length, map, codes, refl, sym, ap, ◌∙◌, subst, Option, Some, None, Result, Ok, inl, inr, slice_index, arith, lit<, length-append}
use Rattle.std.specs.List.{Contains}
use Rattle.std.proofs.lemmas.List.Elements.{Contains-push_cases}
use Rattle.at_cid.specs.Link.{IsLink, IsLinkOrNone, cid}
use Rattle.at_cid.specs.Order.{key_cmp}
use Rattle.at_cid.proofs.Bytes.{cid_is_link}
use Rattle.at_cbor.specs.declared.major.Major.{Major}
use Rattle.at_cbor.specs.Item.{Item, items_of, fields_of, no_items}
use Rattle.at_cbor.specs.Encoding.{Fits, FieldsFit, ItemsFit, IsString, IsText, fields_count, fields_encoding, front_of, items_count, encoding, text_encoding}
use Rattle.at_cbor.specs.Taking.{◌>>=◌, link_item}
use Rattle.at_syntax.specs.Did.{is_did}
use Rattle.at_form.specs.Forms.{did_in, required, short_text_in}
use Rattle.at_form.proofs.Held.{some_same, step_from}
use Rattle.at_event.specs.declared.frame.Frame.{Frame}
use Rattle.at_event.specs.declared.frame.FrameFault.{FrameFault}
use Rattle.at_event.specs.declared.event.Body.{Body}
use Rattle.at_event.specs.declared.kind.EventKind.{EventKind}
use Rattle.at_event.specs.Frames.{announced, event_frame, formed_frame, frame_of, heading_of, heading_named, numbered_frame}
use Rattle.at_event.specs.Seen.{Seen}
use Rattle.at_event.specs.Table.{event_body_of, event_of, seq_of}
use Rattle.at_event.specs.Writing.{header_of, event_message}
use Rattle.at_event.proofs.Messages.{message_read}
use Rattle.at_event.proofs.Texts.{ascii_text, digits_text}
use Rattle.mst_list.specs.declared.op.Op.{Op}
use Rattle.mst_list.specs.Edits.{AreFormedOps, IsFormedOp}
use Rattle.mst_node.specs.Trees.{root, encode_layer, top_layer}
use Rattle.relay_gen.specs.declared.past.Past.{Past}
use Rattle.relay_gen.specs.Draws.{next, drawn}
use Rattle.relay_gen.specs.Names.{generated_did, host_of}
use Rattle.relay_gen.specs.Commits.{Commit, commits_from, last_of, past_of}
use Rattle.relay_gen.specs.Messages.{back_fields, car_with, ends_of, front_fields, message, middle_fields, object, op_item, payload_of, prev_data, since_item}
use Rattle.relay_gen.specs.Covers.{blocks_given}
use Rattle.relay_gen.specs.Histories.{generated_messages}
use Rattle.relay_gen.specs.Laws.{HostsTellOfTheirOwn, IsOfItsHost}
use Rattle.relay_gen.proofs.Counts.{payload_encoded}
use Rattle.relay_gen.proofs.Texts.{did_text, path_text}
use Rattle.relay_gen.proofs.Older.{AreOpsOlder}
use Rattle.relay_gen.proofs.Befores.{commits_before, ops_good, seq_before}

child_item : (depth : ℕ) (o : Option (List ℕ)) → IsLinkOrNone o → Fits (link_item o) depth
child_item depth None l = tt
child_item depth (Some c) l = (l.link, l.bytes)

ends_fit : (depth : ℕ) (was now : Option (List ℕ)) → IsLinkOrNone was → FieldsFit (fields_of (ends_of was now)) (Some (codes "path")) depth
unfolding key_cmp
ends_fit depth None now l = (ascii_text (codes "action") refl (lit< tt), refl, ascii_text (codes "create") refl (lit< tt), tt)
ends_fit depth (Some was) (Some now) l = (ascii_text (codes "prev") refl (lit< tt), refl, (l.link, l.bytes), (ascii_text (codes "action") refl (lit< tt), refl, ascii_text (codes "update") refl (lit< tt), tt))
ends_fit depth (Some was) None l = (ascii_text (codes "prev") refl (lit< tt), refl, (l.link, l.bytes), (ascii_text (codes "action") refl (lit< tt), refl, ascii_text (codes "delete") refl (lit< tt), tt))

count_ends : (was now : Option (List ℕ)) → fields_count (fields_of (ends_of was now)) ≤ 2
count_ends None now = omega arith
count_ends (Some was) now = omega arith

op_fits : (op : Op) → IsFormedOp op → IsText op.key → Fits (op_item op) 62
unfolding op_item key_cmp
op_fits op f text =
    let few = count_ends op.was op.now in
    (lit< tt, omega (arith, few), (ascii_text (codes "cid") refl (lit< tt), refl, child_item 61 op.now f.2, (ascii_text (codes "path") refl (lit< tt), refl, text, ends_fit 61 op.was op.now f.1)))

ops_fit : (n : ℕ) (ops : List Op) → AreFormedOps ops → AreOpsOlder n ops → ItemsFit (items_of (map op_item ops)) 62
ops_fit n [] f o = tt
ops_fit n (op ∷ ops) f o = (op_fits op f.0 (subst IsText (sym o.0.2) (path_text o.0.0)), ops_fit n ops f.1 o.1)

count_items : (is : List Item) → items_count (items_of is) ≡ length is
count_items [] = refl
count_items (i ∷ is) = ap suc (count_items is)

abbrev IsPastLink : Option Past → Type 0
IsPastLink None = Unit {0}
IsPastLink (Some past) = (past.rev < 2 ^ 64) × IsLink past.data_root

since_fits : (past : Option Past) → IsPastLink past → Fits (since_item past) 63
since_fits None p = tt
since_fits (Some past) p = digits_text past.rev p.0

prev_fits : (past : Option Past) → IsPastLink past → FieldsFit (fields_of (prev_data past)) (Some (codes "tooBig")) 63
unfolding key_cmp
prev_fits None p = tt
prev_fits (Some past) p = (ascii_text (codes "prevData") refl (lit< tt), refl, (p.1.link, p.1.bytes), tt)

count_prev : (past : Option Past) → fields_count (fields_of (prev_data past)) ≤ 1
count_prev None = omega arith
count_prev (Some past) = omega arith

-- what holds of a commit that is sent
record CanBeSent (c : Commit) : Type 0 where
  account : c.account < 16
  seq : c.seq < 2 ^ 63
  rev : c.rev < 2 ^ 64
  past : IsPastLink c.past
  formed : AreFormedOps c.ops
  most : ℕ
  older : AreOpsOlder most c.ops
  few : length c.ops ≤ 4

length_items : (ops : List Op) → length (map op_item ops) ≡ length ops
length_items [] = refl
length_items (op ∷ ops) = ap suc (length_items ops)

payload_fits : (c : Commit) (commit blocks : List ℕ) → CanBeSent c → IsLink commit → IsString blocks → Fits (payload_of (generated_did c.account) c.seq c.rev c.past c.ops commit blocks) 64
unfolding payload_of key_cmp
payload_fits c commit blocks s l b =
    let few = count_prev c.past in let four = s.few in let count = count_items (map op_item c.ops) ∙ length_items c.ops in (
      lit< tt,
      omega (arith, few),
      (
        ascii_text (codes "ops") refl (lit< tt),
        refl,
        (lit< tt, omega (arith, count, four), ops_fit s.most c.ops s.formed s.older),
        (
          ascii_text (codes "rev") refl (lit< tt),
          refl,
          digits_text c.rev s.rev,
          (
            ascii_text (codes "seq") refl (lit< tt),
            refl,
            omega (arith, s.seq),
            (
              ascii_text (codes "repo") refl (lit< tt),
              refl,
              did_text c.account s.account,
              (
                ascii_text (codes "time") refl (lit< tt),
                refl,
                ascii_text (codes "2025-01-01T00:00:00Z") refl (lit< tt),
                (
                  ascii_text (codes "blobs") refl (lit< tt),
                  refl,
                  (lit< tt, lit< tt, tt),
                  (
                    ascii_text (codes "since") refl (lit< tt),
                    refl,
                    since_fits c.past s.past,
                    (
                      ascii_text (codes "blocks") refl (lit< tt),
                      refl,
                      b,
                      (
                        ascii_text (codes "commit") refl (lit< tt),
                        refl,
                        (l.link, l.bytes),
                        (
                          ascii_text (codes "rebase") refl (lit< tt),
                          refl,
                          tt,
                          (
                            ascii_text (codes "tooBig") refl (lit< tt),
                            refl,
                            tt,
                            prev_fits c.past s.past,
                          ),
                        ),
                      ),
                    ),
                  ),
                ),
              ),
            ),
          ),
        ),
      ),
    )

string_back : (A B : List ℕ) → IsString (A ++ B) → IsString B
string_back [] B s = s
string_back (a ∷ A) B s = let low = s.0 in string_back A B (omega arith, λ i. s.1 (suc i))

bytes_front : (A B : List ℕ) (i : ℕ) → ((j : ℕ) → slice_index (A ++ B) j < 256) → slice_index A i < 256
bytes_front [] B i b = omega arith
bytes_front (a ∷ A) B zero b = b 0
bytes_front (a ∷ A) B (suc i) b = bytes_front A B i (λ j. b (suc j))

string_front : (A B : List ℕ) → IsString (A ++ B) → IsString A
string_front A B s = let n = length-append A B in let low = s.0 in (omega arith, λ i. bytes_front A B i s.1)

string_rest : (f : List ℕ × Item) (fs : List (List ℕ × Item)) → IsString (fields_encoding (fields_of (f ∷ fs))) → IsString (fields_encoding (fields_of fs))
string_rest f fs s = string_back (encoding f.1) (fields_encoding (fields_of fs)) (string_back (text_encoding f.0) (encoding f.1 ++ fields_encoding (fields_of fs)) s)

string_value : (f : List ℕ × Item) (fs : List (List ℕ × Item)) → IsString (fields_encoding (fields_of (f ∷ fs))) → IsString (encoding f.1)
string_value f fs s = string_front (encoding f.1) (fields_encoding (fields_of fs)) (string_back (text_encoding f.0) (encoding f.1 ++ fields_encoding (fields_of fs)) s)

middle_string : (past : Option Past) (blocks : List ℕ) → IsString (fields_encoding (fields_of (middle_fields past blocks))) → IsString blocks
middle_string past blocks s =
    let T : List ℕ × Item = (codes "time", Item.text (codes "2025-01-01T00:00:00Z")) in let L : List ℕ × Item = (codes "blobs", Item.list no_items) in let S : List ℕ × Item = (codes "since", since_item past) in let B : List ℕ × Item = (codes "blocks", Item.bytes blocks) in
    string_back (front_of Major.Bytes (length blocks)) blocks (string_value B [] (string_rest S (B ∷ []) (string_rest L (S ∷ B ∷ []) (string_rest T (L ∷ S ∷ B ∷ []) s))))

message_is : (payload : Item) → event_message EventKind.Commit payload ≡ encoding (header_of EventKind.Commit) ++ encoding payload
unfolding event_message
message_is payload = refl

blocks_string : (did : List ℕ) (seq rev : ℕ) (past : Option Past) (ops : List Op) (commit blocks : List ℕ) → IsString (event_message EventKind.Commit (payload_of did seq rev past ops commit blocks)) → IsString blocks
blocks_string did seq rev past ops commit blocks s =
    let H = encoding (header_of EventKind.Commit) in let N = front_of Major.Map (11 + fields_count (fields_of (prev_data past))) in
    let F = fields_encoding (fields_of (front_fields ops rev seq did)) in let M = fields_encoding (fields_of (middle_fields past blocks)) in let B = fields_encoding (fields_of (back_fields past commit)) in
    let whole = subst IsString (message_is (payload_of did seq rev past ops commit blocks) ∙ ap (λ x. H ++ x) (payload_encoded did seq rev past ops commit blocks)) s in
    middle_string past blocks (string_front M B (string_back F (M ++ B) (string_back N (F ++ (M ++ B)) (string_back H (N ++ (F ++ (M ++ B))) whole))))

header_form : Fits (header_of EventKind.Commit) 64
unfolding key_cmp
header_form = (lit< tt, lit< tt, (ascii_text (codes "t") refl (lit< tt), refl, ascii_text (codes "#commit") refl (lit< tt), (ascii_text (codes "op") refl (lit< tt), refl, lit< tt, tt)))

-- an event of a payload has the payload's DID
abbrev seen : ℕ → List ℕ → List ℕ → Body → Item → Seen
seen n did time body payload = record { seq = n; did = did; time = time; body = body; payload = payload }

same_did : (did : List ℕ) (b : Bool) (found : List ℕ) → cond b (Some did) None ≡ Some found → found ≡ did
same_did did true found q = sym (some_same did found q)
same_did did false found q = absurd cc

did_read : (did : List ℕ) (seq rev : ℕ) (past : Option Past) (ops : List Op) (commit blocks found : List ℕ) → required did_in (payload_of did seq rev past ops commit blocks) (codes "repo") ≡ Some found → found ≡ did
unfolding payload_of did_in
did_read did seq rev past ops commit blocks found h = same_did did (is_did did) found h

-- an event has the DID of its payload
event_did : (n : ℕ) (p : Item) (e : Seen) → event_of EventKind.Commit n p ≡ Some e → (found : List ℕ) × (required did_in p (codes "repo") ≡ Some found) × (e.did ≡ found)
unfolding event_of
event_did n p e h =
    let one = step_from (required did_in p (codes "repo")) (λ did. required short_text_in p (codes "time") >>= λ time. event_body_of EventKind.Commit p >>= λ body. Some (seen n did time body p)) e h in
    let two = step_from (required short_text_in p (codes "time")) (λ time. event_body_of EventKind.Commit p >>= λ body. Some (seen n one.0 time body p)) e one.2 in
    let three = step_from (event_body_of EventKind.Commit p) (λ body. Some (seen n one.0 two.0 body p)) e two.2 in
    (one.0, one.1, sym (ap (λ (x : Seen). x.did) (some_same (seen n one.0 two.0 three.0 p) e three.2)))

read_did : (did : List ℕ) (seq rev : ℕ) (past : Option Past) (ops : List Op) (commit blocks : List ℕ) (n : ℕ) (e : Seen) → event_of EventKind.Commit n (payload_of did seq rev past ops commit blocks) ≡ Some e → e.did ≡ did
read_did did seq rev past ops commit blocks n e h =
    let found = event_did n (payload_of did seq rev past ops commit blocks) e h in
    found.2 ∙ did_read did seq rev past ops commit blocks found.0 found.1

formed_seen : (n : ℕ) (o : Option Seen) (e : Seen) → formed_frame n o ≡ Frame.Event e → o ≡ Some e
formed_seen n None e q = absurd cc
formed_seen n (Some x) e q = cc

ok_same : (x y : Frame) → ◌≡◌ {A = Result Frame FrameFault} (Ok x) (Ok y) → x ≡ y
ok_same x y h = cc

numbered_event : (payload : Item) (e : Seen) (o : Option ℕ) → numbered_frame EventKind.Commit payload o ≡ Ok (Frame.Event e) → (n : ℕ) × (event_of EventKind.Commit n payload ≡ Some e)
numbered_event payload e None q = absurd cc
numbered_event payload e (Some n) q = (n, formed_seen n (event_of EventKind.Commit n payload) e (ok_same (formed_frame n (event_of EventKind.Commit n payload)) (Frame.Event e) q))

framed_event : (payload : Item) (e : Seen) → event_frame EventKind.Commit payload ≡ Ok (Frame.Event e) → (n : ℕ) × (event_of EventKind.Commit n payload ≡ Some e)
unfolding event_frame
framed_event payload e h = numbered_event payload e (seq_of payload) h

frame_is : (did : List ℕ) (seq rev : ℕ) (past : Option Past) (ops : List Op) (commit blocks : List ℕ) → Fits (payload_of did seq rev past ops commit blocks) 64 → frame_of (event_message EventKind.Commit (payload_of did seq rev past ops commit blocks)) ≡ event_frame EventKind.Commit (payload_of did seq rev past ops commit blocks)
unfolding frame_of heading_of heading_named announced payload_of
frame_is did seq rev past ops commit blocks f =
    let p = payload_of did seq rev past ops commit blocks in
    rw (message_read (event_message EventKind.Commit p) (header_of EventKind.Commit) p (record { header_form = header_form; payload_form = f; encoded = message_is p })) refl

of_account : (c : Commit) (e : Seen) → CanBeSent c → IsString (message c) → frame_of (message c) ≡ Ok (Frame.Event e) → e.did ≡ generated_did c.account
unfolding message
of_account c e s string h =
    let blocks = car_with (object c) (blocks_given c.map c.ops) in let commit = cid (object c) in let l = cid_is_link (object c) in
    let fits = payload_fits c commit blocks s (record { link = l.link; bytes = l.bytes }) (blocks_string (generated_did c.account) c.seq c.rev c.past c.ops commit blocks string) in
    let found = framed_event (payload_of (generated_did c.account) c.seq c.rev c.past c.ops commit blocks) e (sym (frame_is (generated_did c.account) c.seq c.rev c.past c.ops commit blocks fits) ∙ h) in
    read_did (generated_did c.account) c.seq c.rev c.past c.ops commit blocks found.0 e found.1

abbrev AllSent : List Commit → Type 0
AllSent [] = Unit {0}
AllSent (c ∷ commits) = CanBeSent c × AllSent commits

root_link : (c : Commit) → IsLink (root c.map)
root_link c = let l = cid_is_link (encode_layer (top_layer c.map) c.map) in record { link = l.link; bytes = l.bytes }

past_sent : (a : ℕ) (commits : List Commit) → AllSent commits → IsPastLink (past_of (last_of a commits))
past_sent a [] s = tt
past_sent a (c ∷ commits) s = elim (c.account == a) as (λ x. IsPastLink (past_of (cond x (Some c) (last_of a commits)))) [ true ↦ (s.0.rev, root_link c) | false ↦ past_sent a commits s.1 ]

all_sent : (start i : ℕ) → i ≤ 100000 → AllSent (commits_from start i).commits
unfolding drawn
all_sent start zero most = tt
all_sent start (suc i) most =
    let d = commits_from start i in let x = next d.state in let a = drawn 16 x in
    let before = commits_before start i (omega arith) in
    let g = ops_good (suc i) a x d.commits most before in
    let low = seq_before (suc i) (a % 4) d.commits (omega arith) before in
    let rest = all_sent start i (omega arith) in
    (record { account = omega arith; seq = omega arith; rev = omega arith; past = past_sent a d.commits rest; formed = g.formed; most = suc i * 4 + 4; older = g.older; few = g.few }, rest)

own_hosts : (commits : List Commit) (host bytes : List ℕ) (e : Seen) → AllSent commits → IsString bytes → Contains (generated_messages commits) (host, bytes) → frame_of bytes ≡ Ok (Frame.Event e) → IsOfItsHost host e.did
own_hosts [] host bytes e s string there h = absurd (let low = there.1 in omega arith)
own_hosts (c ∷ commits) host bytes e s string there h = elim (Contains-push_cases (generated_messages commits) (host_of c.account, message c) (host, bytes) there) [
  | inl before ↦ own_hosts commits host bytes e s.1 string before h
  | inr same ↦
      let m : message c ≡ bytes = ap (λ (p : List ℕ × List ℕ). p.1) same in
      record { account = c.account; low = s.0.account; did_is = of_account c e s.0 (subst IsString (sym m) string) (ap frame_of m ∙ h); host_is = sym (ap (λ (p : List ℕ × List ℕ). p.0) same) }
]

pub own_messages : HostsTellOfTheirOwn
own_messages start n host bytes e most string there h = own_hosts (commits_from start n).commits host bytes e (all_sent start n most) string there h
