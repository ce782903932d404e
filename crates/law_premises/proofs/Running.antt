-- Runs that leave a sound journal unsound, or rows that read as something else.
use Rattle.std.proofs.Common.{◌≡◌, ◌≢◌, ℕ, ◌-◌, ◌≤◌, Bool, true, false, List, [], ◌∷◌, length, Option, None, Some, Ok, Err, refl, sym, ◌∙◌, ap, subst, lit<, arith}
use Rattle.std.proofs.lemmas.Bool.Decides.{nat_tests}
use Rattle.std.specs.Prelude.{if◌then◌else◌}
use Rattle.at_cbor.specs.Encoding.{info_of, tail_of}
use Rattle.at_car.specs.Varint.{groups}
use Rattle.at_car.specs.declared.fault.CarFault.{CarFault}
use Rattle.at_cid.specs.Link.{IsBytes, cid}
use Rattle.at_form.specs.Forms.{present_value}
use Rattle.at_cid.specs.declared.limits.TheConstants.{NUMBERS}
use Rattle.at_syntax.specs.Did.{is_did}
use Rattle.at_syntax.specs.Host.{is_host}
use Rattle.at_event.specs.Events.{IsEvent}
use Rattle.at_event.specs.Frames.{frame_of}
use Rattle.at_event.specs.Table.{seq_of}
use Rattle.at_event.specs.Writing.{event_message, out_length, out_of}
use Rattle.at_event.specs.declared.event.Body.{Body}
use Rattle.at_event.specs.declared.event.CommitEvent.{CommitEvent}
use Rattle.at_event.specs.declared.frame.Frame.{Frame}
use Rattle.at_event.specs.declared.frame.FrameFault.{FrameFault}
use Rattle.at_event.specs.declared.refusal.Refusal.{Refusal}
use Rattle.event_checks.specs.Opening.{CarResult}
use Rattle.event_checks.specs.Table.{car_in}
use Rattle.mst_list.specs.declared.item.Item.{Item as Entry}
use Rattle.mst_node.specs.Trees.{root}
use Rattle.relay_row.specs.Folds.{cursor, last_seq, names}
use Rattle.relay_row.specs.Journal.{IsJournal, keeps_order}
use Rattle.relay_row.specs.Rules.{is_accepted, is_empty, is_row, is_taken}
use Rattle.relay_row.specs.declared.carried.Carried.{Carried}
use Rattle.relay_row.specs.declared.carried.CarriedRepo.{CarriedRepo}
use Rattle.relay_row.specs.declared.row.Row.{Row}
use Rattle.relay_row.proofs.Journals.{grows, no_rows}
use Rattle.account_state.specs.Folds.{account}
use Rattle.account_state.specs.declared.repo.Repo.{Repo}
use Rattle.commit_check.specs.Step.{empty_root}
use Rattle.relay_core.specs.Decide.{Checks}
use Rattle.relay_core.specs.Runs.{Run}
use Rattle.relay_law.specs.Carried.{IsOfKnown}
use Rattle.relay_law.specs.Chains.{chains}
use Rattle.relay_law.specs.Faithful.{IsReadBack}
use Rattle.relay_law.specs.Right.{AreRight, root_expected}
use Rattle.relay_law.specs.Sound.{AreLinked, GoesFrom, IsSound}
use Rattle.relay_law.proofs.Choosing.{some_right}
use Rattle.relay_law.proofs.Right.{checks_right}
use Rattle.law_premises.specs.Runs.{RowsMayBeOfLost, RunsMayBeUnfaithful, RunsMayBeUnsound}
use Rattle.law_premises.proofs.Messages.{goes_by, late_unread, no_car, no_step, odd, odd_unread, torn_step}
use Rattle.law_premises.proofs.Samples.{accepted, bare, bare_bytes, bare_car, bare_short, bytes_by, commit, did, did_text, event, host, host_text, is_event, link, link_top, no_frame, top, torn, torn_journal}

-- ---- checks that pass everything

abbrev pub loose : Checks
loose = record { opens = λ e last. Ok top; links = λ e repo. None }

no_bytes : IsBytes []
no_bytes = bytes_by [] refl

pub empty_event : IsEvent (event [])
empty_event = is_event [] no_bytes (lit< tt)

abbrev bold : Row
bold = accepted 1 1 (out_of (event []) 1) top

bold_formed : is_row bold ≡ true
unfolding is_row is_taken is_accepted is_host is_did out_of event_message info_of tail_of
bold_formed = rw (host_text, did_text) refl

first_next : (message : List ℕ) → keeps_order [] (accepted 1 1 message top) ≡ true
unfolding cursor last_seq
first_next message = refl

bold_journal : IsJournal (bold ∷ [])
bold_journal = grows [] bold no_rows bold_formed (first_next (out_of (event []) 1))

bold_run : Run loose [] ((host, Ok (Frame.Event (event []))) ∷ []) (bold ∷ [])
unfolding account cursor last_seq out_length out_of event_message info_of tail_of
bold_run = (bold, [], refl, refl, refl)

-- a step by no CAR
pub no_goes : (former later : List ℕ) → GoesFrom (commit []) former later → ⊥
no_goes former later goes = let car : ◌≡◌ {A = CarResult} (Err CarFault.Header) (Ok (goes.has.roots, goes.blocks)) = sym no_car ∙ goes.has.car in absurd cc

bold_unsound : IsSound (bold ∷ []) → ⊥
bold_unsound sound = no_goes empty_root (link 0) (goes_by 1 [] empty_root (link 0) (lit< tt) no_bytes (lit< tt) (sound did).0.0)

-- no rows are sound
pub none_sound : IsSound []
none_sound d = (tt, tt)

-- ---- right checks that pass what is no event

abbrev unless_lost : Repo → Option Refusal
unless_lost (Repo.Lost rev) = Some Refusal.Gap
unless_lost Repo.Missing = None
unless_lost (Repo.Good head) = None

-- what has no number is no event
abbrev links_odd : Option ℕ → Repo → Option Refusal
links_odd None repo = unless_lost repo
links_odd (Some n) repo = Some Refusal.Gap

abbrev odd_checks : Checks
odd_checks = record { opens = λ e last. Ok top; links = λ e repo. links_odd (seq_of e.payload) repo }

odd_lost : (n : Option ℕ) (rev : Option ℕ) → links_odd n (Repo.Lost rev) ≢ None
odd_lost None rev e = absurd cc
odd_lost (Some n) rev e = absurd cc

odd_none : (n : ℕ) (repo : Repo) → links_odd (Some n) repo ≢ None
odd_none n repo e = absurd cc

odd_right : AreRight odd_checks
odd_right = record {
  not_lost = λ e c rev body. odd_lost (seq_of e.payload) rev;
  goes = λ e c repo last head read body opened linked. absurd (odd_none e.seq repo (subst (λ (n : Option ℕ). links_odd n repo ≡ None) read.number linked));
}

abbrev strange : Row
strange = accepted 1 1 (out_of odd 1) top

strange_formed : is_row strange ≡ true
unfolding is_row is_taken is_accepted is_host is_did out_of event_message info_of tail_of
strange_formed = rw (host_text, did_text) refl

strange_journal : IsJournal (strange ∷ [])
strange_journal = grows [] strange no_rows strange_formed (first_next (out_of odd 1))

odd_run : Run odd_checks [] ((host, Ok (Frame.Event odd)) ∷ []) (strange ∷ [])
unfolding account cursor last_seq out_length out_of event_message info_of tail_of seq_of present_value
odd_run = (strange, [], refl, refl, refl)

-- ---- right checks that pass what starts from no tree

abbrev links_bare : CarResult → Repo → Option Refusal
links_bare (Ok car) (Repo.Good head) = if is_empty head.data_root then None else Some Refusal.Gap
links_bare car repo = Some Refusal.Gap

abbrev bare_links : Body → Repo → Option Refusal
bare_links (Body.Commit c) repo = links_bare (car_in c) repo
bare_links other repo = Some Refusal.Gap

abbrev bare_checks : Checks
bare_checks = record { opens = λ e last. Ok top; links = λ e repo. bare_links e.body repo }

root_long : (s : List Entry) → 4 ≤ length (root s)
unfolding cid
root_long s = omega arith

empty_length : (bytes : List ℕ) → is_empty bytes ≡ true → length bytes ≡ 0
empty_length bytes none = grind (arith, nat_tests)

no_root : (s : List Entry) (bytes : List ℕ) → is_empty bytes ≡ true → root s ≡ bytes → ⊥
no_root s bytes none same = absurd (omega (arith, root_long s, ap length same, empty_length bytes none))

if_empty : (b : Bool) → (if b then None else Some Refusal.Gap) ≡ None → b ≡ true
if_empty true e = refl
if_empty false e = absurd cc

goes_bare : (c : CommitEvent) (car : CarResult) → car_in c ≡ car → (repo : Repo) (later : List ℕ) → links_bare car repo ≡ None → GoesFrom c (root_expected repo) later
goes_bare c (Ok (roots, blocks)) is (Repo.Good head) later linked = record {
  blocks = blocks;
  has = record { roots = roots; car = is };
  replays = λ s map rooted distinct. absurd (no_root s head.data_root (if_empty (is_empty head.data_root) linked) rooted);
}
goes_bare c (Ok car) is Repo.Missing later linked = absurd cc
goes_bare c (Ok car) is (Repo.Lost rev) later linked = absurd cc
goes_bare c (Err fault) is repo later linked = absurd cc

lost_bare : (car : CarResult) (rev : Option ℕ) → links_bare car (Repo.Lost rev) ≢ None
lost_bare (Ok car) rev e = absurd cc
lost_bare (Err fault) rev e = absurd cc

bare_right : AreRight bare_checks
bare_right = record {
  not_lost = λ e c rev body linked. lost_bare (car_in c) rev (subst (λ (b : Body). bare_links b (Repo.Lost rev) ≡ None) body linked);
  goes = λ e c repo last head read body opened linked. goes_bare c (car_in c) refl repo head.data_root (subst (λ (b : Body). bare_links b repo ≡ None) body linked);
}

-- a base with no root, under the last number
abbrev rootless : Row
rootless = Row.Synced did (record { seq = NUMBERS - 1; head = record { rev = 0; data_root = []; commit = [] }; records = 0; message = [] }) None

rootless_by : (d : List ℕ) (b : Bool) → names d did ≡ b → AreLinked (chains d (rootless ∷ []))
rootless_by d true is = rw is (tt, (tt, tt))
rootless_by d false is = rw is (tt, tt)

rootless_sound : IsSound (rootless ∷ [])
rootless_sound d = rootless_by d (names d did) refl

abbrev late : Row
late = accepted 1 NUMBERS (out_of (event bare) NUMBERS) top

late_run : Run bare_checks (rootless ∷ []) ((host, Ok (Frame.Event (event bare))) ∷ []) (late ∷ [])
unfolding account cursor last_seq out_length out_of event_message info_of tail_of groups
late_run = (late, [], refl, rw bare_car refl, refl)

bare_event : IsEvent (event bare)
bare_event = is_event bare bare_bytes (omega (arith, bare_short))

pub runs_unsound : RunsMayBeUnsound
runs_unsound = record {
  right = λ all. bold_unsound (all loose [] ((host, Ok (Frame.Event (event []))) ∷ []) (bold ∷ []) (empty_event, tt) bold_journal none_sound bold_run);
  events = λ all. no_step (out_of odd 1) empty_root (link 0) FrameFault.BadFrame odd_unread (all odd_checks odd_right [] ((host, Ok (Frame.Event odd)) ∷ []) (strange ∷ []) strange_journal none_sound odd_run did).0.0;
  journal = λ all. no_step (out_of (event bare) NUMBERS) [] (link 0) FrameFault.NoSeq (late_unread (link 0) link_top bare bare_bytes (omega (arith, bare_short)))
      (all bare_checks bare_right (rootless ∷ []) ((host, Ok (Frame.Event (event bare))) ∷ []) (late ∷ []) (bare_event, tt) rootless_sound late_run did).1.0.0;
  sound = λ all. torn_step empty_root (link 0) (all some_right.0 (checks_right some_right.0 some_right.1 some_right.2) (torn ∷ []) [] [] tt torn_journal refl did).0.0;
  run = λ all. torn_step empty_root (link 0) (all some_right.0 (checks_right some_right.0 some_right.1 some_right.2) [] [] (torn ∷ []) tt torn_journal none_sound did).0.0;
}

-- ---- rows that read as something else

unread_row : (seq : ℕ) (message : List ℕ) (fault : FrameFault) → frame_of message ≡ Err fault → seq ≢ 0 → IsReadBack (accepted 1 seq message top) → ⊥
unread_row seq message fault unread some back =
    let reads = back.0 some in
    let same : Err fault ≡ Ok (Frame.Event reads.event) = sym unread ∙ reads.reads in
    absurd cc

pub runs_unfaithful : RunsMayBeUnfaithful
runs_unfaithful = record {
  events = λ all. unread_row 1 (out_of odd 1) FrameFault.BadFrame odd_unread (omega arith) (all odd_checks [] ((host, Ok (Frame.Event odd)) ∷ []) (strange ∷ []) strange_journal odd_run).0;
  journal = λ all. unread_row NUMBERS (out_of (event bare) NUMBERS) FrameFault.NoSeq (late_unread (link 0) link_top bare bare_bytes (omega (arith, bare_short))) (omega arith)
      (all bare_checks (rootless ∷ []) ((host, Ok (Frame.Event (event bare))) ∷ []) (late ∷ []) (bare_event, tt) late_run).0;
  run = λ all. unread_row 1 (0 ∷ []) FrameFault.BadFrame no_frame (omega arith) (all loose [] [] (torn ∷ []) tt torn_journal).0;
}

-- ---- an account that was lost

abbrev lost : Row
lost = Row.Carried (Carried.Account (record { did = did; active = true; status = None; down = false; repo = CarriedRepo.Lost None }))

not_known : IsOfKnown (lost ∷ []) torn → ⊥
unfolding account
not_known known = known did (0 ∷ []) (link 0) None refl refl

pub rows_of_lost : RowsMayBeOfLost
rows_of_lost all = not_known (all some_right.0 (checks_right some_right.0 some_right.1 some_right.2) (lost ∷ []) [] (torn ∷ [])).0
