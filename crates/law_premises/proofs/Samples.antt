-- Samples: names, links, an event of a commit, and rows.
use Rattle.std.proofs.Common.{◌≡◌, ℕ, zero, suc, ◌<◌, ◌^◌, true, false, ltb, List, [], ◌∷◌, ◌++◌, length, replicate, None, Some, Ok, Err, codes, pos, refl, lit<, arith}
use Rattle.std.proofs.lemmas.Bool.{and_from, and_parts, ltb-true}
use Rattle.std.specs.FinMap as map
use Rattle.std.specs.List.{list_all}
use Rattle.std.specs.Prelude.{◌&&◌}
use Rattle.std.specs.Str.{is_utf8}
use Rattle.at_cbor.specs.Heads.{argued, argument_at, head_at, major_of}
use Rattle.at_cbor.specs.Item.{Item, no_fields, no_items, field}
use Rattle.at_cbor.specs.Majors.{major_in}
use Rattle.at_cbor.specs.Reading.{body_of as item_body, item_at}
use Rattle.at_cbor.specs.Encoding.{Fits, IsText, info_of, encoding, tail_of}
use Rattle.at_cbor.specs.Taking.{item_from_front, whole_item}
use Rattle.at_cbor.specs.declared.decoding.TheConstants.{DEPTH}
use Rattle.at_cid.specs.Link.{IsBytes, is_link}
use Rattle.at_cid.specs.Order.{key_cmp}
use Rattle.at_car.specs.Blocks.{BlockMap}
use Rattle.at_car.specs.Car.{car_of}
use Rattle.at_car.specs.Varint.{groups}
use Rattle.at_car.specs.Form.{IsCar, header_bytes, sections_bytes}
use Rattle.at_car.specs.Writing.{car_header}
use Rattle.at_car.specs.declared.varint.TheConstants.{VARINTS}
use Rattle.at_car.proofs.Again.{car_again}
use Rattle.at_form.specs.Forms.{did_in, present_value, node_in, number_in, short_text_in, tid_in}
use Rattle.at_syntax.specs.Did.{is_did}
use Rattle.at_syntax.specs.Host.{is_host}
use Rattle.at_syntax.specs.Tid.{is_tid, tid_of}
use Rattle.at_event.specs.Events.{IsEvent}
use Rattle.at_event.specs.Frames.{frame_of, items_in}
use Rattle.at_event.specs.Seen.{Seen}
use Rattle.at_event.specs.Table.{event_body_of, commit_event_of as commit_in, event_of as event_in, event_kind_of, ops_in, ops_of, seq_of, too_big_in}
use Rattle.at_event.specs.declared.event.Body.{Body}
use Rattle.at_event.specs.declared.event.CommitEvent.{CommitEvent}
use Rattle.at_event.specs.declared.frame.FrameFault.{FrameFault}
use Rattle.at_event.specs.declared.head.Head.{Head}
use Rattle.at_event.proofs.Texts.{ascii_text}
use Rattle.relay_row.specs.Folds.{cursor, last_seq}
use Rattle.relay_row.specs.Journal.{IsJournal, keeps_order}
use Rattle.relay_row.specs.Rules.{is_accepted, is_row, is_taken, names_did, names_host}
use Rattle.relay_row.specs.declared.fetched.Fetched.{Fetched}
use Rattle.relay_row.specs.declared.row.Row.{Row}
use Rattle.relay_row.specs.declared.taken.Effect.{Effect}
use Rattle.relay_row.proofs.Journals.{grows, no_rows}

abbrev pub host : List ℕ
host = codes "a.b"

abbrev pub did : List ℕ
did = codes "did:plc:a"

abbrev pub link : ℕ → List ℕ
link x = 0x01 ∷ 0x71 ∷ 0x12 ∷ 0x20 ∷ replicate 32 x

abbrev pub rev : List ℕ
rev = codes "2222222222222"

pub host_text : is_utf8 host ≡ true
host_text = (ascii_text host refl (lit< tt)).1

pub did_text : is_utf8 did ≡ true
did_text = (ascii_text did refl (lit< tt)).1

pub host_named : names_host host ≡ true
unfolding is_host
host_named = and_from (is_utf8 host && true) true (and_from (is_utf8 host) true host_text refl) refl

pub did_named : names_did did ≡ true
unfolding is_did
did_named = and_from (is_utf8 did && true) true (and_from (is_utf8 did) true did_text refl) refl

pub bytes_by : (bytes : List ℕ) → list_all (λ c. ltb c 256) bytes ≡ true → IsBytes bytes
bytes_by [] h i = omega arith
bytes_by (c ∷ bytes) h zero = ltb-true c 256 (and_parts (ltb c 256) (list_all (λ b. ltb b 256) bytes) h).0
bytes_by (c ∷ bytes) h (suc i) = bytes_by bytes (and_parts (ltb c 256) (list_all (λ b. ltb b 256) bytes) h).1 i

pub link_bytes : IsBytes (link 0)
link_bytes = bytes_by (link 0) refl

-- ---- a commit without operations under this link, with these blocks, under a number

abbrev pub payload_of : List ℕ → ℕ → List ℕ → Item
payload_of top n blocks = Item.map (
    field (codes "ops") (Item.list no_items)
    (field (codes "rev") (Item.text rev)
    (field (codes "seq") (Item.int (pos n))
    (field (codes "repo") (Item.text did)
    (field (codes "time") (Item.text (codes "t"))
    (field (codes "blocks") (Item.bytes blocks)
    (field (codes "commit") (Item.link top) no_fields)))))))

abbrev pub commit_of : List ℕ → List ℕ → CommitEvent
commit_of top blocks = record { repo = did; rev = 0; since = None; prev_data = None; commit = top; too_big = false; blocks = blocks; ops = [] }

abbrev pub event_of : List ℕ → List ℕ → Seen
event_of top blocks = record { seq = 1; did = did; time = codes "t"; body = Body.Commit (commit_of top blocks); payload = payload_of top 1 blocks }

numbered : (top blocks : List ℕ) → seq_of (payload_of top 1 blocks) ≡ Some 1
unfolding seq_of present_value number_in
numbered top blocks = refl

read : (top blocks : List ℕ) → node_in (Item.link top) ≡ Some top → event_in (event_kind_of (Body.Commit (commit_of top blocks))) 1 (payload_of top 1 blocks) ≡ Some (event_of top blocks)
unfolding event_in event_body_of commit_in ops_in ops_of too_big_in did_in is_did short_text_in tid_in tid_of is_tid present_value
read top blocks node = rw node refl

pub ascii : (text : List ℕ) → list_all (λ c. ltb c 128) text ≡ true → length text < 2 ^ 64 → IsText text
ascii text h short = ascii_text text h short

-- a link of kind Node, as fields have it
pub record IsTop (top : List ℕ) : Type 0 where
  pub link : is_link top ≡ true
  pub bytes : IsBytes top
  pub node : node_in (Item.link top) ≡ Some top

pub fits_of : (top : List ℕ) → IsTop top → (n : ℕ) (blocks : List ℕ) → n < 2 ^ 63 → IsBytes blocks → length blocks < 2 ^ 64 → Fits (payload_of top n blocks) DEPTH
unfolding key_cmp
fits_of top is n blocks low bytes short = (
  lit< tt,
  lit< tt,
  (
    ascii (codes "ops") refl (lit< tt),
    refl,
    (lit< tt, lit< tt, tt),
    (
      ascii (codes "rev") refl (lit< tt),
      refl,
      ascii rev refl (lit< tt),
      (
        ascii (codes "seq") refl (lit< tt),
        refl,
        low,
        (
          ascii (codes "repo") refl (lit< tt),
          refl,
          ascii did refl (lit< tt),
          (
            ascii (codes "time") refl (lit< tt),
            refl,
            ascii (codes "t") refl (lit< tt),
            (
              ascii (codes "blocks") refl (lit< tt),
              refl,
              (short, bytes),
              (ascii (codes "commit") refl (lit< tt), refl, (is.link, is.bytes), tt),
            ),
          ),
        ),
      ),
    ),
  ),
)

pub is_event_of : (top : List ℕ) → IsTop top → (blocks : List ℕ) → IsBytes blocks → length blocks < 2 ^ 64 → IsEvent (event_of top blocks)
is_event_of top is blocks bytes short = record { fits = fits_of top is 1 blocks (lit< tt) bytes short; number = numbered top blocks; read = read top blocks is.node }

-- ---- under a link of no block that is there

abbrev pub commit : List ℕ → CommitEvent
commit blocks = commit_of (link 0) blocks

abbrev pub event : List ℕ → Seen
event blocks = event_of (link 0) blocks

link_node : node_in (Item.link (link 0)) ≡ Some (link 0)
unfolding node_in
link_node = refl

pub link_top : IsTop (link 0)
link_top = record { link = refl; bytes = link_bytes; node = link_node }

pub is_event : (blocks : List ℕ) → IsBytes blocks → length blocks < 2 ^ 64 → IsEvent (event blocks)
is_event blocks bytes short = is_event_of (link 0) link_top blocks bytes short

-- ---- a CAR without blocks

abbrev pub none_held : BlockMap
none_held = map.from_entries []

pub header_fits : (root : List ℕ) → is_link root ≡ true → IsBytes root → Fits (car_header root) DEPTH
header_fits root is bytes = (
  lit< tt,
  lit< tt,
  (
    ascii (codes "roots") refl (lit< tt),
    refl,
    (lit< tt, lit< tt, ((is, bytes), tt)),
    (ascii (codes "version") refl (lit< tt), refl, lit< tt, tt),
  ),
)

abbrev bare_header : Item
bare_header = car_header (link 0)

abbrev pub bare : List ℕ
bare = header_bytes bare_header ++ sections_bytes []

bare_is : (length bare ≡ 59) × (list_all (λ c. ltb c 256) bare ≡ true)
unfolding groups info_of tail_of
bare_is = (refl, refl)

pub bare_bytes : IsBytes bare
bare_bytes = bytes_by bare bare_is.1

pub bare_short : length bare < 256
bare_short = omega (arith, bare_is.0)

header_short : length (encoding bare_header) < VARINTS
unfolding info_of tail_of
header_short = lit< tt

bare_form : IsCar bare bare_header (link 0 ∷ []) []
bare_form = record {
  header_form = record { item = header_fits (link 0) refl link_bytes; short = header_short; roots = refl };
  sections_form = tt;
  encoded = refl;
}

pub bare_car : car_of bare ≡ Ok (link 0 ∷ [], none_held)
bare_car = car_again bare bare_header (link 0 ∷ []) [] bare_form

-- ---- a row that accepted a commit whose message is none

abbrev pub top : Head
top = record { rev = 0; data_root = link 0; commit = link 0 }

abbrev pub accepted : ℕ → ℕ → List ℕ → Head → Row
accepted host_seq n message head = Row.Taken (record { host = host; host_seq = host_seq; did = did; kind = 1; refusal = None; seq = n; message = message; effect = Effect.Repo head; fetched = Fetched.NotAsked; moment = Some 0 })

abbrev pub torn : Row
torn = accepted 1 1 (0 ∷ []) top

pub torn_formed : is_row torn ≡ true
unfolding is_row is_taken is_accepted is_host is_did
torn_formed = rw (host_text, did_text) refl

torn_next : keeps_order [] torn ≡ true
unfolding cursor last_seq
torn_next = refl

pub torn_journal : IsJournal (torn ∷ [])
torn_journal = grows [] torn no_rows torn_formed torn_next

pub no_frame : frame_of (0 ∷ []) ≡ Err FrameFault.BadFrame
unfolding frame_of items_in item_from_front item_at head_at argued argument_at major_in major_of item_body whole_item
no_frame = refl
