-- What messages of samples read as.
use Rattle.std.proofs.Common.{◌≡◌, ℕ, ◌<◌, ◌^◌, List, [], ◌∷◌, length, Result, Ok, Err, codes, refl, sym, ◌∙◌, ap, subst, lit<, ◌++◌, None, Some}
use Rattle.at_cbor.specs.Item.{Item}
use Rattle.at_cbor.specs.Kinds.{map_in}
use Rattle.at_cbor.specs.Encoding.{Fits, IsText, encoding}
use Rattle.at_cbor.specs.declared.decoding.TheConstants.{DEPTH}
use Rattle.at_car.specs.Car.{car_of}
use Rattle.at_car.specs.Header.{header_at}
use Rattle.at_car.specs.Varint.{number_at}
use Rattle.at_car.specs.declared.fault.CarFault.{CarFault}
use Rattle.at_cid.specs.Link.{IsBytes}
use Rattle.at_form.specs.Forms.{present_value, number_in}
use Rattle.at_cid.specs.declared.limits.TheConstants.{NUMBERS}
use Rattle.at_event.specs.Frames.{announced, event_frame, frame_of, heading_named, heading_of, items_in}
use Rattle.at_event.specs.Seen.{Seen}
use Rattle.at_event.specs.Table.{event_of as event_in, seq_of}
use Rattle.at_event.specs.Writing.{header_of, event_message, kind_name, numbered, out_of}
use Rattle.at_event.specs.declared.event.Body.{Body}
use Rattle.at_event.specs.declared.event.CommitEvent.{CommitEvent}
use Rattle.at_event.specs.declared.frame.Frame.{Frame}
use Rattle.at_event.specs.declared.frame.FrameFault.{FrameFault}
use Rattle.at_event.specs.declared.kind.EventKind.{EventKind}
use Rattle.at_event.specs.declared.kind.Heading.{Heading}
use Rattle.at_event.proofs.Messages.{message_read, out_again}
use Rattle.at_event.proofs.Texts.{ascii_text}
use Rattle.relay_law.specs.Sound.{Follows, GoesFrom, IsCommit}
use Rattle.law_premises.proofs.Samples.{IsTop, commit, did, event, event_of, fits_of, is_event, no_frame, payload_of}

name_text : (kind : EventKind) → IsText (kind_name kind)
name_text EventKind.Commit = ascii_text (codes "#commit") refl (lit< tt)
name_text EventKind.Sync = ascii_text (codes "#sync") refl (lit< tt)
name_text EventKind.Identity = ascii_text (codes "#identity") refl (lit< tt)
name_text EventKind.Account = ascii_text (codes "#account") refl (lit< tt)

header_fits : (kind : EventKind) → Fits (header_of kind) DEPTH
header_fits kind = (lit< tt, lit< tt, (ascii_text (codes "t") refl (lit< tt), refl, name_text kind, (ascii_text (codes "op") refl (lit< tt), refl, lit< tt, tt)))

heading : (kind : EventKind) → heading_of (header_of kind) ≡ Some (Heading.Event kind)
unfolding heading_of heading_named
heading EventKind.Commit = refl
heading EventKind.Sync = refl
heading EventKind.Identity = refl
heading EventKind.Account = refl

items_of_message : (kind : EventKind) (payload : Item) → Fits payload DEPTH → items_in (encoding (header_of kind) ++ encoding payload) ≡ Some (header_of kind, payload)
items_of_message kind payload fits =
    message_read (encoding (header_of kind) ++ encoding payload) (header_of kind) payload (record { header_form = header_fits kind; payload_form = fits; encoded = refl })

-- a payload with a number, of which no event is read
pub faulty_read : (kind : EventKind) (payload : Item) (n : ℕ) (fields : List (List ℕ × Item)) → Fits payload DEPTH → map_in payload ≡ Some fields → seq_of payload ≡ Some n → event_in kind n payload ≡ None
    → frame_of (event_message kind payload) ≡ Ok (Frame.Faulty n)
unfolding frame_of event_message announced event_frame
faulty_read kind payload n fields fits mapped number none = rw (items_of_message kind payload fits, heading kind, mapped, number, none) refl

-- no bytes aren't a CAR
pub no_car : car_of [] ≡ Err CarFault.Header
unfolding car_of header_at number_at
no_car = refl

-- a message with no map behind its header
abbrev pub odd : Seen
odd = record { seq = 1; did = did; time = []; body = Body.Commit (commit []); payload = Item.null }

pub odd_unread : frame_of (out_of odd 1) ≡ Err FrameFault.BadFrame
unfolding frame_of out_of event_message
odd_unread = rw (items_of_message EventKind.Commit Item.null tt, heading EventKind.Commit) refl

-- and one whose number is none
pub late_unread : (top : List ℕ) → IsTop top → (blocks : List ℕ) → IsBytes blocks → length blocks < 2 ^ 64 → frame_of (out_of (event_of top blocks) NUMBERS) ≡ Err FrameFault.NoSeq
unfolding frame_of out_of event_message announced event_frame seq_of present_value number_in
late_unread top is blocks bytes short = rw (items_of_message EventKind.Commit (payload_of top NUMBERS blocks) (fits_of top is NUMBERS blocks (lit< tt) bytes short), heading EventKind.Commit) refl

pub no_commit_in : (message : List ℕ) (fault : FrameFault) → frame_of message ≡ Err fault → (c : CommitEvent) → IsCommit message c → ⊥
no_commit_in message fault unread c is = let reads : Err fault ≡ Ok (Frame.Event is.event) = sym unread ∙ is.reads in absurd cc

pub no_step : (message former later : List ℕ) (fault : FrameFault) → frame_of message ≡ Err fault → Follows former message later → ⊥
no_step message former later fault unread follows = no_commit_in message fault unread follows.commit follows.is

pub torn_step : (former later : List ℕ) → Follows former (0 ∷ []) later → ⊥
torn_step former later follows = no_step (0 ∷ []) former later FrameFault.BadFrame no_frame follows

-- a sample's message is that commit and no other
pub is_sample : (n : ℕ) (blocks : List ℕ) → n < 2 ^ 53 → IsBytes blocks → length blocks < 2 ^ 64 → IsCommit (out_of (event blocks) n) (commit blocks)
is_sample n blocks low bytes short = record { event = numbered (event blocks) n; reads = out_again (event blocks) n low (is_event blocks bytes short); says = refl }

same_event : (x y : Seen) → ◌≡◌ {A = Result Frame FrameFault} (Ok (Frame.Event x)) (Ok (Frame.Event y)) → x ≡ y
same_event x y e = cc

same_body : (c d : CommitEvent) → Body.Commit c ≡ Body.Commit d → c ≡ d
same_body c d e = cc

pub only_sample : (n : ℕ) (blocks : List ℕ) → n < 2 ^ 53 → IsBytes blocks → length blocks < 2 ^ 64 → (c : CommitEvent) → IsCommit (out_of (event blocks) n) c → c ≡ commit blocks
unfolding is_sample
only_sample n blocks low bytes short c is =
    let there = is_sample n blocks low bytes short in
    let same : is.event ≡ there.event = same_event is.event there.event (sym is.reads ∙ there.reads) in
    same_body c (commit blocks) (sym is.says ∙ ap (λ (e : Seen). e.body) same)

-- what follows by it goes by that commit
pub goes_by : (n : ℕ) (blocks former later : List ℕ) → n < 2 ^ 53 → IsBytes blocks → length blocks < 2 ^ 64 → Follows former (out_of (event blocks) n) later → GoesFrom (commit blocks) former later
goes_by n blocks former later low bytes short follows =
    subst (λ (c : CommitEvent). GoesFrom c former later) (only_sample n blocks low bytes short follows.commit follows.is) follows.goes
