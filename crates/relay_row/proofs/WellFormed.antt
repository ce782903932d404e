-- A row is well formed by the test exactly where it is record by record.
use Rattle.std.proofs.Common.{◌≡◌, ◌≢◌, ℕ, zero, suc, ◌<◌, ◌≤◌, ◌^◌, ◌⊎◌, Bool, true, false, cond, not, ◌&&◌, ◌||◌, ltb, leb, eqb, List, [], ◌∷◌, length, Option, Some, None, refl, sym, ap, ◌∙◌, arith}
use Rattle.std.specs.Prelude.{◌↔◌, ◌==◌, nat_le, nat_lt, Decides, IfSome, IsSome}
use Rattle.std.specs.Bool.{beq}
use Rattle.std.specs.Str.{is_utf8}
use Rattle.std.proofs.lemmas.Bool.{eqb-false, eqb-true, false≢true, le-leb, leb-true, true≢false}
use Rattle.std.proofs.lemmas.Bool.Decides.{Decides-and, Decides-eqb, Decides-like, Decides-ltb, Decides-not, Decides-or}
use Rattle.std.proofs.lemmas.Str.{IsUtf8-from_is_utf8, is_utf8-from_IsUtf8}
use Rattle.at_cbor.specs.Encoding.{IsString}
use Rattle.at_cid.specs.Link.{IsBytes, IsLink, IsNodeLink, is_link, kind_of}
use Rattle.at_cid.specs.declared.cid.Kind.{Kind}
use Rattle.at_cid.specs.declared.cid.Kind.TheVariants.{Node, Raw}
use Rattle.at_event.specs.Refusals.{code_of}
use Rattle.at_event.specs.declared.head.Head.{Head}
use Rattle.at_event.specs.declared.refusal.Refusal.{Refusal}
use Rattle.at_syntax.proofs.Dids.{did_grammar}
use Rattle.at_syntax.specs.Did.{is_did}
use Rattle.at_syntax.specs.Host.{is_host}
use Rattle.relay_row.proofs.Bytes.{bytes_tested, tested_bytes}
use Rattle.relay_row.specs.Rules.{are_bytes, is_about, is_accepted, is_carried, is_cid, is_decided, is_detail, is_effect, is_empty, is_fetched, is_head, is_message, is_moment, is_node, is_node_kind, is_nothing, is_number, is_operated, is_positive, is_refused, is_repo, is_repo_number, is_rev, is_rev_or_none, is_row, is_status, is_string, is_taken, is_text, is_timed, is_whole, loses, names_did, names_host}
use Rattle.relay_row.specs.WellFormed.{GoesOut, IsAcceptedRow, IsCarriedAccount, IsCarriedHost, IsCarriedRepo, IsDetail, IsDidText, IsEffectOf, IsFetch, IsGiven, IsHead, IsHeldBack, IsHostName, IsJudged, IsLoss, IsMessage, IsOfMessage, IsOperatedRow, IsRefusedRow, IsRepoNumber, IsStatusText, IsSyncedRow, IsTakenRow, IsUtf8Text, IsWellFormed, IsWhole}
use Rattle.relay_row.specs.declared.carried.Carried.{Carried}
use Rattle.relay_row.specs.declared.carried.CarriedAccount.{CarriedAccount}
use Rattle.relay_row.specs.declared.carried.CarriedRepo.{CarriedRepo}
use Rattle.relay_row.specs.declared.limits.TheConstants.{PLACES}
use Rattle.relay_row.specs.declared.fetched.Fetched.{Fetched}
use Rattle.relay_row.specs.declared.fetched.Whole.{Whole}
use Rattle.at_cid.specs.declared.limits.TheConstants.{NUMBERS}
use Rattle.at_form.specs.declared.forms.TheConstants.{LONGEST_SHORT_TEXT}
use Rattle.relay_row.specs.declared.operated.Operated.{Operated}
use Rattle.relay_row.specs.declared.row.Row.{Row}
use Rattle.relay_row.specs.declared.taken.Effect.{Effect}
use Rattle.relay_row.specs.declared.taken.Taken.{Taken}

-- ---- tests of any kind

yes : {P : Type 0} → P → Decides true P
yes p = (λ _. p, λ _. refl)

no : {P : Type 0} → (P → ⊥) → Decides false P
no n = (λ e. absurd (false≢true e), λ p. absurd (n p))

most : (a b : ℕ) → Decides (nat_le a b) (a ≤ b)
most a b = (leb-true a b, le-leb a b)

-- of two tests that agree
agree : (a b : Bool) (P Q : Type 0) → Decides a P → Decides b Q → Decides (beq a b) (P ↔ Q)
agree true true P Q d k = yes (λ _. k.0 refl, λ _. d.0 refl)
agree false false P Q d k = yes (λ p. absurd (false≢true (d.1 p)), λ q. absurd (false≢true (k.1 q)))
agree true false P Q d k = no (λ both. false≢true (k.1 (both.0 (d.0 refl))))
agree false true P Q d k = no (λ both. false≢true (d.1 (both.1 (k.0 refl))))

-- ---- numbers, texts, bytes and links

given : (n : ℕ) → Decides (is_positive n) (IsGiven n)
given n =
    Decides-like (is_positive n) (λ h. record { positive = h.0; number = h.1 }) (λ h. (h.positive, h.number))
    (Decides-and (nat_lt 0 n) (is_number n) (Decides-ltb 0 n) (Decides-ltb n NUMBERS))

text_is : (text : List ℕ) → Decides (is_text text) (IsUtf8Text text)
text_is text =
    Decides-like (is_text text) (λ h. record { bytes = h.1; utf8 = h.0 }) (λ h. (h.utf8, h.bytes))
    (Decides-and (is_utf8 text) (are_bytes text) (IsUtf8-from_is_utf8 text, is_utf8-from_IsUtf8 text) (tested_bytes text, bytes_tested text))

host_is : (text : List ℕ) → Decides (names_host text) (IsHostName text)
host_is text =
    Decides-like (names_host text) (λ h. record { text = h.0; host = h.1 }) (λ h. (h.text, h.host))
    (Decides-and (is_text text) (is_host text) (text_is text) (λ e. e, λ e. e))

did_is : (text : List ℕ) → Decides (names_did text) (IsDidText text)
did_is text =
    Decides-like (names_did text) (λ h. record { text = h.0; did = h.1 }) (λ h. (h.text, h.did))
    (Decides-and (is_text text) (is_did text) (text_is text) (did_grammar text (is_did text) refl))

status_text : (text : List ℕ) → Decides (is_text text && nat_le (length text) LONGEST_SHORT_TEXT) (IsStatusText text)
status_text text =
    Decides-like (is_text text && nat_le (length text) LONGEST_SHORT_TEXT) (λ h. record { text = h.0; short = h.1 }) (λ h. (h.text, h.short))
    (Decides-and (is_text text) (nat_le (length text) LONGEST_SHORT_TEXT) (text_is text) (most (length text) LONGEST_SHORT_TEXT))

status_is : (o : Option (List ℕ)) → Decides (is_status o) (IfSome o IsStatusText)
status_is None = yes tt
status_is (Some text) = status_text text

no_bytes : (bytes : List ℕ) → length bytes ≡ 0 → bytes ≡ []
no_bytes [] h = refl
no_bytes (c ∷ bytes) h = absurd (omega (arith, h))

empty_is : (bytes : List ℕ) → Decides (is_empty bytes) (bytes ≡ [])
empty_is bytes = Decides-like (is_empty bytes) (no_bytes bytes) (λ e. ap (λ (l : List ℕ). length l) e) (Decides-eqb (length bytes) 0)

positive : (n : ℕ) → (n ≡ 0 → ⊥) → 0 < n
positive zero h = absurd (h refl)
positive (suc n) h = omega arith

some_is : (bytes : List ℕ) → Decides (not (is_empty bytes)) (0 < length bytes)
some_is bytes = Decides-like (not (is_empty bytes)) (positive (length bytes)) (λ lt e. omega (arith, lt, e)) (Decides-not (is_empty bytes) (Decides-eqb (length bytes) 0))

string_is : (bytes : List ℕ) → Decides (is_string bytes) (IsString bytes)
string_is bytes = Decides-and (nat_lt (length bytes) (2 ^ 64)) (are_bytes bytes) (Decides-ltb (length bytes) (2 ^ 64)) (tested_bytes bytes, bytes_tested bytes)

message_is : (bytes : List ℕ) → Decides (is_message bytes) (IsMessage bytes)
message_is bytes =
    Decides-like (is_message bytes) (λ h. record { string = h.0; some = h.1 }) (λ h. (h.string, h.some))
    (Decides-and (is_string bytes) (not (is_empty bytes)) (string_is bytes) (some_is bytes))

moment_is : (o : Option ℕ) → Decides (is_moment o) (IfSome o (λ n. n < NUMBERS))
moment_is None = yes tt
moment_is (Some n) = Decides-ltb n NUMBERS

timed_is : (o : Option ℕ) → Decides (is_timed o) (IsSome o)
timed_is None = (λ e. e, λ e. e)
timed_is (Some n) = (λ e. e, λ e. e)

rev_is : (o : Option ℕ) → Decides (is_rev_or_none o) (IfSome o (λ n. n < 2 ^ 64))
rev_is None = yes tt
rev_is (Some n) = Decides-ltb n (2 ^ 64)

link_is : (link : List ℕ) → Decides (is_cid link) (IsLink link)
link_is link =
    Decides-like (is_cid link) (λ h. record { link = h.0; bytes = h.1 }) (λ h. (h.link, h.bytes))
    (Decides-and (is_link link) (are_bytes link) (λ e. e, λ e. e) (tested_bytes link, bytes_tested link))

node_kind : (kind : Kind) → Decides (is_node_kind kind) (kind ≡ Node)
node_kind Node = yes refl
node_kind Raw = no (λ e. absurd cc)

node_is : (link : List ℕ) → Decides (is_node link) (IsNodeLink link)
node_is link =
    Decides-like (is_node link) (λ h. record { link = h.0.link; bytes = h.0.bytes; node = h.1 }) (λ h. (record { link = h.link; bytes = h.bytes }, h.node))
    (Decides-and (is_cid link) (is_node_kind (kind_of link)) (link_is link) (node_kind (kind_of link)))

head_is : (h : Head) → Decides (is_head h) (IsHead h)
head_is h =
    Decides-like (is_head h) (λ x. record { rev = x.0; data_root = x.1.0; commit = x.1.1 }) (λ x. (x.rev, (x.data_root, x.commit)))
    (Decides-and (is_rev h.rev) (is_node h.data_root && is_cid h.commit) (Decides-ltb h.rev (2 ^ 64))
    (Decides-and (is_node h.data_root) (is_cid h.commit) (node_is h.data_root) (link_is h.commit)))

whole_is : (w : Whole) → Decides (is_whole w) (IsWhole w)
unfolding is_whole
whole_is w =
    Decides-like (is_whole w) (λ h. record { seq = h.0; head = h.1.0; records = h.1.1.0; message = h.1.1.1 }) (λ h. (h.seq, (h.head, (h.records, h.message))))
    (Decides-and (is_positive w.seq) (is_head w.head && (is_number w.records && is_message w.message)) (given w.seq)
    (Decides-and (is_head w.head) (is_number w.records && is_message w.message) (head_is w.head)
    (Decides-and (is_number w.records) (is_message w.message) (Decides-ltb w.records NUMBERS) (message_is w.message))))

-- ---- refusals

detail_is : (r : Refusal) → Decides (is_detail r) (IsDetail r)
detail_is Refusal.BadEvent = yes tt
detail_is Refusal.NotHome = yes tt
detail_is Refusal.Inactive = yes tt
detail_is Refusal.TakenDown = yes tt
detail_is Refusal.TooBig = yes tt
detail_is Refusal.BlocksTooLong = yes tt
detail_is Refusal.TooManyOps = yes tt
detail_is Refusal.BadPath = yes tt
detail_is Refusal.RepeatedPath = yes tt
detail_is Refusal.BadOp = yes tt
detail_is Refusal.Stale = yes tt
detail_is Refusal.BadCar = yes tt
detail_is Refusal.WrongRoot = yes tt
detail_is Refusal.WrongDigest = yes tt
detail_is Refusal.NoCommit = yes tt
detail_is Refusal.BadCommit = yes tt
detail_is Refusal.OtherCommit = yes tt
detail_is Refusal.BadSignature = yes tt
detail_is Refusal.Gap = yes tt
detail_is (Refusal.BadNode link) = node_is link
detail_is (Refusal.OtherOp place) = Decides-ltb place PLACES
detail_is (Refusal.NotCovered place) = Decides-ltb place PLACES
detail_is (Refusal.OtherData want got) = Decides-and (is_node want) (is_node got) (node_is want) (node_is got)
detail_is Refusal.TooLong = yes tt
detail_is Refusal.FutureRev = yes tt
detail_is Refusal.NotCommit = yes tt
detail_is Refusal.AlreadyDown = yes tt
detail_is Refusal.NotDown = yes tt
detail_is Refusal.NoRepository = yes tt
detail_is (Refusal.RepositoryRefused number) = yes tt
detail_is Refusal.NothingToCut = yes tt
detail_is Refusal.PastEnd = yes tt
detail_is Refusal.LastCut = yes tt

loss_is : (r : Refusal) → Decides (loses (code_of r)) (IsLoss r)
loss_is Refusal.BadEvent = no (λ h. h)
loss_is Refusal.NotHome = no (λ h. h)
loss_is Refusal.Inactive = no (λ h. h)
loss_is Refusal.TakenDown = no (λ h. h)
loss_is Refusal.TooBig = yes tt
loss_is Refusal.BlocksTooLong = no (λ h. h)
loss_is Refusal.TooManyOps = no (λ h. h)
loss_is Refusal.BadPath = no (λ h. h)
loss_is Refusal.RepeatedPath = no (λ h. h)
loss_is Refusal.BadOp = no (λ h. h)
loss_is Refusal.Stale = no (λ h. h)
loss_is Refusal.BadCar = no (λ h. h)
loss_is Refusal.WrongRoot = no (λ h. h)
loss_is Refusal.WrongDigest = no (λ h. h)
loss_is Refusal.NoCommit = no (λ h. h)
loss_is Refusal.BadCommit = no (λ h. h)
loss_is Refusal.OtherCommit = no (λ h. h)
loss_is Refusal.BadSignature = no (λ h. h)
loss_is Refusal.Gap = yes tt
loss_is (Refusal.BadNode link) = yes tt
loss_is (Refusal.OtherOp place) = yes tt
loss_is (Refusal.NotCovered place) = yes tt
loss_is (Refusal.OtherData want got) = yes tt
loss_is Refusal.TooLong = no (λ h. h)
loss_is Refusal.FutureRev = no (λ h. h)
loss_is Refusal.NotCommit = no (λ h. h)
loss_is Refusal.AlreadyDown = no (λ h. h)
loss_is Refusal.NotDown = no (λ h. h)
loss_is Refusal.NoRepository = no (λ h. h)
loss_is (Refusal.RepositoryRefused number) = no (λ h. h)
loss_is Refusal.NothingToCut = no (λ h. h)
loss_is Refusal.PastEnd = no (λ h. h)
loss_is Refusal.LastCut = no (λ h. h)

-- the one with this number
unread_is : (r : Refusal) → Decides (code_of r == 1) (r ≡ Refusal.BadEvent)
unread_is Refusal.BadEvent = yes refl
unread_is Refusal.NotHome = no (λ e. absurd cc)
unread_is Refusal.Inactive = no (λ e. absurd cc)
unread_is Refusal.TakenDown = no (λ e. absurd cc)
unread_is Refusal.TooBig = no (λ e. absurd cc)
unread_is Refusal.BlocksTooLong = no (λ e. absurd cc)
unread_is Refusal.TooManyOps = no (λ e. absurd cc)
unread_is Refusal.BadPath = no (λ e. absurd cc)
unread_is Refusal.RepeatedPath = no (λ e. absurd cc)
unread_is Refusal.BadOp = no (λ e. absurd cc)
unread_is Refusal.Stale = no (λ e. absurd cc)
unread_is Refusal.BadCar = no (λ e. absurd cc)
unread_is Refusal.WrongRoot = no (λ e. absurd cc)
unread_is Refusal.WrongDigest = no (λ e. absurd cc)
unread_is Refusal.NoCommit = no (λ e. absurd cc)
unread_is Refusal.BadCommit = no (λ e. absurd cc)
unread_is Refusal.OtherCommit = no (λ e. absurd cc)
unread_is Refusal.BadSignature = no (λ e. absurd cc)
unread_is Refusal.Gap = no (λ e. absurd cc)
unread_is (Refusal.BadNode link) = no (λ e. absurd cc)
unread_is (Refusal.OtherOp place) = no (λ e. absurd cc)
unread_is (Refusal.NotCovered place) = no (λ e. absurd cc)
unread_is (Refusal.OtherData want got) = no (λ e. absurd cc)
unread_is Refusal.TooLong = no (λ e. absurd cc)
unread_is Refusal.FutureRev = no (λ e. absurd cc)
unread_is Refusal.NotCommit = no (λ e. absurd cc)
unread_is Refusal.AlreadyDown = no (λ e. absurd cc)
unread_is Refusal.NotDown = no (λ e. absurd cc)
unread_is Refusal.NoRepository = no (λ e. absurd cc)
unread_is (Refusal.RepositoryRefused number) = no (λ e. absurd cc)
unread_is Refusal.NothingToCut = no (λ e. absurd cc)
unread_is Refusal.PastEnd = no (λ e. absurd cc)
unread_is Refusal.LastCut = no (λ e. absurd cc)

ahead_is : (r : Refusal) → Decides (code_of r == 25) (r ≡ Refusal.FutureRev)
ahead_is Refusal.BadEvent = no (λ e. absurd cc)
ahead_is Refusal.NotHome = no (λ e. absurd cc)
ahead_is Refusal.Inactive = no (λ e. absurd cc)
ahead_is Refusal.TakenDown = no (λ e. absurd cc)
ahead_is Refusal.TooBig = no (λ e. absurd cc)
ahead_is Refusal.BlocksTooLong = no (λ e. absurd cc)
ahead_is Refusal.TooManyOps = no (λ e. absurd cc)
ahead_is Refusal.BadPath = no (λ e. absurd cc)
ahead_is Refusal.RepeatedPath = no (λ e. absurd cc)
ahead_is Refusal.BadOp = no (λ e. absurd cc)
ahead_is Refusal.Stale = no (λ e. absurd cc)
ahead_is Refusal.BadCar = no (λ e. absurd cc)
ahead_is Refusal.WrongRoot = no (λ e. absurd cc)
ahead_is Refusal.WrongDigest = no (λ e. absurd cc)
ahead_is Refusal.NoCommit = no (λ e. absurd cc)
ahead_is Refusal.BadCommit = no (λ e. absurd cc)
ahead_is Refusal.OtherCommit = no (λ e. absurd cc)
ahead_is Refusal.BadSignature = no (λ e. absurd cc)
ahead_is Refusal.Gap = no (λ e. absurd cc)
ahead_is (Refusal.BadNode link) = no (λ e. absurd cc)
ahead_is (Refusal.OtherOp place) = no (λ e. absurd cc)
ahead_is (Refusal.NotCovered place) = no (λ e. absurd cc)
ahead_is (Refusal.OtherData want got) = no (λ e. absurd cc)
ahead_is Refusal.TooLong = no (λ e. absurd cc)
ahead_is Refusal.FutureRev = yes refl
ahead_is Refusal.NotCommit = no (λ e. absurd cc)
ahead_is Refusal.AlreadyDown = no (λ e. absurd cc)
ahead_is Refusal.NotDown = no (λ e. absurd cc)
ahead_is Refusal.NoRepository = no (λ e. absurd cc)
ahead_is (Refusal.RepositoryRefused number) = no (λ e. absurd cc)
ahead_is Refusal.NothingToCut = no (λ e. absurd cc)
ahead_is Refusal.PastEnd = no (λ e. absurd cc)
ahead_is Refusal.LastCut = no (λ e. absurd cc)

of_message : (moment : Option ℕ) (r : Refusal) → Decides (nat_le (code_of r) 24 || (code_of r == 25 && is_timed moment)) (IsOfMessage moment r)
of_message moment r =
    Decides-or (nat_le (code_of r) 24) (code_of r == 25 && is_timed moment) (most (code_of r) 24)
    (Decides-and (code_of r == 25) (is_timed moment) (ahead_is r) (timed_is moment))

repo_number_is : (moment : Option ℕ) (n : ℕ) → Decides (is_repo_number (is_timed moment) n) (IsRepoNumber moment n)
repo_number_is moment n =
    Decides-or (nat_le 1 n && nat_le n 7) (n == 9 || (n == 10 || (is_timed moment && n == 12)))
    (Decides-and (nat_le 1 n) (nat_le n 7) (most 1 n) (most n 7))
    (Decides-or (n == 9) (n == 10 || (is_timed moment && n == 12)) (Decides-eqb n 9)
    (Decides-or (n == 10) (is_timed moment && n == 12) (Decides-eqb n 10)
    (Decides-and (is_timed moment) (n == 12) (timed_is moment) (Decides-eqb n 12))))

module _ (due : Bool) (L : Type 0) (d : Decides due L) (moment : Option ℕ) where
  fetch_is : (f : Fetched) → Decides (is_fetched due (is_timed moment) f) ((L ↔ (f ≢ Fetched.NotAsked)) × IsFetch moment f)
  fetch_is Fetched.NotAsked =
      Decides-like (not due) (λ none. ((λ l. absurd (none l), λ other. absurd (other refl)), tt)) (λ h l. h.0.0 l refl) (Decides-not due d)
  fetch_is Fetched.Absent =
      Decides-like due (λ l. ((λ _ e. absurd cc, λ _. l), tt)) (λ h. h.0.1 (λ e. absurd cc)) d
  fetch_is (Fetched.Refused n) =
      Decides-like (due && is_repo_number (is_timed moment) n) (λ h. ((λ _ e. absurd cc, λ _. h.0), h.1)) (λ h. (h.0.1 (λ e. absurd cc), h.1))
      (Decides-and due (is_repo_number (is_timed moment) n) d (repo_number_is moment n))
  fetch_is (Fetched.Whole w) =
      Decides-like (due && is_whole w) (λ h. ((λ _ e. absurd cc, λ _. h.0), h.1)) (λ h. (h.0.1 (λ e. absurd cc), h.1))
      (Decides-and due (is_whole w) d (whole_is w))

-- ---- messages that were taken

nothing_is : (e : Effect) → Decides (is_nothing e) (e ≡ Effect.Nothing)
nothing_is Effect.Nothing = yes refl
nothing_is (Effect.Repo head) = no (λ e. absurd cc)
nothing_is (Effect.Account active status) = no (λ e. absurd cc)

effect_is : (kind : ℕ) (e : Effect) → Decides (is_effect kind e) (IsEffectOf kind e)
effect_is kind Effect.Nothing = Decides-eqb kind 3
effect_is kind (Effect.Repo head) =
    Decides-and (kind == 1 || kind == 2) (is_head head) (Decides-or (kind == 1) (kind == 2) (Decides-eqb kind 1) (Decides-eqb kind 2)) (head_is head)
effect_is kind (Effect.Account active status) = Decides-and (kind == 4) (is_status status) (Decides-eqb kind 4) (status_is status)

not_asked : (timed : Bool) (f : Fetched) → Decides (is_fetched false timed f) (f ≡ Fetched.NotAsked)
not_asked timed Fetched.NotAsked = yes refl
not_asked timed Fetched.Absent = no (λ e. absurd cc)
not_asked timed (Fetched.Refused n) = no (λ e. absurd cc)
not_asked timed (Fetched.Whole w) = no (λ e. absurd cc)

goes_out : (t : Taken) → Decides (is_positive t.seq && is_message t.message) (GoesOut t)
goes_out t =
    Decides-like (is_positive t.seq && is_message t.message) (λ h. record { seq = h.0; message = h.1 }) (λ h. (h.seq, h.message))
    (Decides-and (is_positive t.seq) (is_message t.message) (given t.seq) (message_is t.message))

held_back : (t : Taken) → Decides (t.kind == 4 && (t.seq == 0 && is_empty t.message)) (IsHeldBack t)
held_back t =
    Decides-like (t.kind == 4 && (t.seq == 0 && is_empty t.message)) (λ h. record { kind = h.0; seq = h.1.0; message = h.1.1 }) (λ h. (h.kind, (h.seq, h.message)))
    (Decides-and (t.kind == 4) (t.seq == 0 && is_empty t.message) (Decides-eqb t.kind 4)
    (Decides-and (t.seq == 0) (is_empty t.message) (Decides-eqb t.seq 0) (empty_is t.message)))

accepted_is : (t : Taken) → Decides (is_accepted t) (IsAcceptedRow t)
unfolding is_accepted
accepted_is t =
    let out : Bool = is_positive t.seq && is_message t.message in
    let held : Bool = t.kind == 4 && (t.seq == 0 && is_empty t.message) in
    Decides-like (is_accepted t) (λ h. record { effect = h.0; fetched = h.1.0; sent = h.1.1 }) (λ h. (h.effect, (h.fetched, h.sent)))
    (Decides-and (is_effect t.kind t.effect) (is_fetched false (is_timed t.moment) t.fetched && (out || held)) (effect_is t.kind t.effect)
    (Decides-and (is_fetched false (is_timed t.moment) t.fetched) (out || held) (not_asked (is_timed t.moment) t.fetched)
    (Decides-or out held (goes_out t) (held_back t))))

refused_is : (r : Refusal) (t : Taken) → Decides (is_refused r t) (IsRefusedRow r t)
unfolding is_refused
refused_is r t =
    let code : Bool = nat_le (code_of r) 24 || (code_of r == 25 && is_timed t.moment) in
    let quiet : Bool = t.seq == 0 && is_empty t.message in
    let fetched : Bool = is_fetched (loses (code_of r)) (is_timed t.moment) t.fetched in
    let unread : Bool = beq (t.kind == 0) (code_of r == 1) in
    Decides-like (is_refused r t)
    (λ h. record {
      detail = h.0.0;
      code = h.0.1;
      kind = h.1.0;
      unread = h.1.1.0;
      effect = h.1.1.1.0;
      due = h.1.1.1.1.0.0;
      fetched = h.1.1.1.1.0.1;
      seq = h.1.1.1.1.1.0;
      message = h.1.1.1.1.1.1;
    })
    (λ h. ((h.detail, h.code), (h.kind, (h.unread, (h.effect, ((h.due, h.fetched), (h.seq, h.message)))))))
    (Decides-and (is_detail r && code) (nat_le t.kind 4 && (unread && (is_nothing t.effect && (fetched && quiet))))
    (Decides-and (is_detail r) code (detail_is r) (of_message t.moment r))
    (Decides-and (nat_le t.kind 4) (unread && (is_nothing t.effect && (fetched && quiet))) (most t.kind 4)
    (Decides-and unread (is_nothing t.effect && (fetched && quiet)) (agree (t.kind == 0) (code_of r == 1) (t.kind ≡ 0) (r ≡ Refusal.BadEvent) (Decides-eqb t.kind 0) (unread_is r))
    (Decides-and (is_nothing t.effect) (fetched && quiet) (nothing_is t.effect)
    (Decides-and fetched quiet (fetch_is (loses (code_of r)) (IsLoss r) (loss_is r) t.moment t.fetched)
    (Decides-and (t.seq == 0) (is_empty t.message) (Decides-eqb t.seq 0) (empty_is t.message)))))))

judged_is : (o : Option Refusal) (t : Taken) → Decides (is_decided o t) (IsJudged o t)
judged_is None t = accepted_is t
judged_is (Some r) t = refused_is r t

about_by : (kind : ℕ) (did : List ℕ) (none : Bool) → (kind == 0) ≡ none → Decides (cond none (is_empty did) (names_did did)) ((kind ≡ 0 → did ≡ []) × (kind ≢ 0 → IsDidText did))
about_by kind did true e =
    Decides-like (is_empty did) (λ h. (λ _. h, λ other. absurd (other (eqb-true kind 0 e)))) (λ h. h.0 (eqb-true kind 0 e)) (empty_is did)
about_by kind did false e =
    Decides-like (names_did did) (λ h. (λ zero. absurd (eqb-false kind 0 e zero), λ _. h)) (λ h. h.1 (eqb-false kind 0 e)) (did_is did)

taken_is : (t : Taken) → Decides (is_taken t) (IsTakenRow t)
unfolding is_taken
taken_is t =
    Decides-like (is_taken t)
    (λ h. record { host = h.0; host_seq = h.1.0; unnamed = h.1.1.0.0; named = h.1.1.0.1; moment = h.1.1.1.0; judged = h.1.1.1.1 })
    (λ h. (h.host, (h.host_seq, ((h.unnamed, h.named), (h.moment, h.judged)))))
    (Decides-and (names_host t.host) (is_number t.host_seq && (is_about t.kind t.did && (is_moment t.moment && is_decided t.refusal t))) (host_is t.host)
    (Decides-and (is_number t.host_seq) (is_about t.kind t.did && (is_moment t.moment && is_decided t.refusal t)) (Decides-ltb t.host_seq NUMBERS)
    (Decides-and (is_about t.kind t.did) (is_moment t.moment && is_decided t.refusal t) (about_by t.kind t.did (t.kind == 0) refl)
    (Decides-and (is_moment t.moment) (is_decided t.refusal t) (moment_is t.moment) (judged_is t.refusal t)))))

-- ---- rows of the other kinds

synced_is : (did : List ℕ) (whole : Whole) (moment : Option ℕ) → Decides (names_did did && (is_whole whole && is_moment moment)) (IsSyncedRow did whole moment)
synced_is did whole moment =
    Decides-like (names_did did && (is_whole whole && is_moment moment)) (λ h. record { did = h.0; whole = h.1.0; moment = h.1.1 }) (λ h. (h.did, (h.whole, h.moment)))
    (Decides-and (names_did did) (is_whole whole && is_moment moment) (did_is did)
    (Decides-and (is_whole whole) (is_moment moment) (whole_is whole) (moment_is moment)))

operated_is : (o : Operated) → Decides (is_operated o) (IsOperatedRow o)
unfolding is_operated
operated_is o =
    Decides-like (is_operated o) (λ h. record { did = h.0; seq = h.1.0; message = h.1.1.0; moment = h.1.1.1 }) (λ h. (h.did, (h.seq, (h.message, h.moment))))
    (Decides-and (names_did o.did) (is_positive o.seq && (is_message o.message && is_moment o.moment)) (did_is o.did)
    (Decides-and (is_positive o.seq) (is_message o.message && is_moment o.moment) (given o.seq)
    (Decides-and (is_message o.message) (is_moment o.moment) (message_is o.message) (moment_is o.moment))))

repo_is : (repo : CarriedRepo) → Decides (is_repo repo) (IsCarriedRepo repo)
repo_is CarriedRepo.Missing = yes tt
repo_is (CarriedRepo.Good head) = head_is head
repo_is (CarriedRepo.Lost rev) = rev_is rev

carried_account : (a : CarriedAccount) → Decides (names_did a.did && (is_status a.status && is_repo a.repo)) (IsCarriedAccount a)
carried_account a =
    Decides-like (names_did a.did && (is_status a.status && is_repo a.repo)) (λ h. record { did = h.0; status = h.1.0; repo = h.1.1 }) (λ h. (h.did, (h.status, h.repo)))
    (Decides-and (names_did a.did) (is_status a.status && is_repo a.repo) (did_is a.did)
    (Decides-and (is_status a.status) (is_repo a.repo) (status_is a.status) (repo_is a.repo)))

carried_host : (host : List ℕ) (cursor : ℕ) → Decides (names_host host && is_positive cursor) (IsCarriedHost host cursor)
carried_host host cursor =
    Decides-like (names_host host && is_positive cursor) (λ h. record { host = h.0; cursor = h.1 }) (λ h. (h.host, h.cursor))
    (Decides-and (names_host host) (is_positive cursor) (host_is host) (given cursor))

pub row_is : (row : Row) → Decides (is_row row) (IsWellFormed row)
unfolding is_row is_carried
row_is (Row.Taken t) = taken_is t
row_is (Row.Synced did whole moment) = synced_is did whole moment
row_is (Row.Operated o) = operated_is o
row_is (Row.Carried (Carried.Last seq)) = given seq
row_is (Row.Carried (Carried.Host host cursor)) = carried_host host cursor
row_is (Row.Carried (Carried.Account a)) = carried_account a
