-- The row that a step makes is given: for the answers that it shows.
use Rattle.std.proofs.Common.{◌≡◌, inl, inr, ℕ, ◌+◌, Bool, true, false, List, [], ◌∷◌, ◌++◌, Option, Some, None, Result, Ok, Err, IsTrue, refl, sym, ap, ◌∙◌, subst, append_assoc}
use Rattle.std.proofs.lemmas.List.{append-nil}
use Rattle.std.specs.Prelude.{if◌then◌else◌}
use Rattle.at_cid.specs.Link.{IsBytes}
use Rattle.at_authority.specs.Calls.{Call}
use Rattle.at_authority.specs.Panels.{Panel}
use Rattle.at_event.specs.Formed.{IsShortText}
use Rattle.at_event.specs.Frames.{frame_of}
use Rattle.at_event.specs.Refusals.{code_of}
use Rattle.at_event.specs.Seen.{Seen}
use Rattle.at_event.specs.declared.frame.Frame.{Frame}
use Rattle.at_event.specs.declared.frame.FrameFault.{FrameFault}
use Rattle.at_event.specs.declared.head.Head.{Head}
use Rattle.at_event.specs.declared.refusal.Refusal.{Refusal}
use Rattle.at_event.proofs.Formed.{frames_events}
use Rattle.relay_row.specs.Folds.{last_seq}
use Rattle.relay_row.specs.Rules.{loses}
use Rattle.relay_row.specs.declared.fetched.Fetched.{Fetched}
use Rattle.relay_row.specs.declared.fetched.Whole.{Whole}
use Rattle.relay_row.specs.declared.row.Row.{Row}
use Rattle.relay_row.specs.declared.taken.Taken.{Taken}
use Rattle.account_state.specs.Folds.{account, last_rev}
use Rattle.account_state.specs.State.{State}
use Rattle.repo_sync.specs.declared.fault.RepoFault.{RepoFault}
use Rattle.repo_sync.specs.declared.found.Found.{Found as Checked}
use Rattle.repo_sync.specs.Repository.{IsAnswer}
use Rattle.relay_core.specs.Decide.{Checks, Found, Outside, absent, unfit, found, whole_under, decided_event, event_row, fetched_as, refusal_of}
use Rattle.relay_core.specs.Operating.{sync_refusal}
use Rattle.relay_core.specs.Runs.{IsMadeBy}
use Rattle.relay_core.specs.Shown.{found_in, or_zero, shown}
use Rattle.relay_core.proofs.Agreeing.{event_told}
use Rattle.relay_step.specs.Around.{Around, AllAsked, SameRepositories}
use Rattle.relay_step.specs.Fetching.{AreBytes, IsFetched, IsFetchedAs, IsFetchedFrom, IsFetchedTold, found_and_asked, told_where}
use Rattle.relay_io.specs.Choices.{WhereElse}
use Rattle.relay_step.specs.Operators.{IsFetchCommand, IsSyncedBy}
use Rattle.relay_step.specs.declared.command.CommandAnswer.{CommandAnswer}
use Rattle.relay_step.specs.Steps.{Step, Decided, after_end, skipped, recorded, AreSteps, IsDecidedAs, ended_decided, message_of, rows, rows_decided}
use Rattle.chain_law.specs.Given.{AreGiven, IsFoundOfRepository, IsGiven, IsOfEvent, IsOfRepository}
use Rattle.chain_law.specs.GivenLaws.{OperatedAreGiven, StepsAreGiven, SyncedAreGiven}
use Rattle.chain_law.specs.Made.{AreOfBytes, GiveBytes}

-- ---- what was taken over of a repository is what its bytes come to

record IsSame (head other : Head) (block another : List ℕ) : Type 0 where
  heads : head ≡ other
  blocks : block ≡ another

judged_found : (ahead good : Bool) (head other : Head) (n m x y : ℕ) (block another : List ℕ) (asked : List Call)
    → (if◌then◌else◌ {A = Found × List Call} ahead (unfit x, []) (if good then found head n block else unfit y, asked)).0 ≡ found other m another → IsSame head other block another
judged_found true good head other n m x y block another asked same = absurd cc
judged_found false false head other n m x y block another asked same = absurd cc
judged_found false true head other n m x y block another asked same = record { heads = cc; blocks = cc }

answered_found : (did : List ℕ) (least : Option ℕ) (moment : ℕ) (good : Bool) (bytes : List ℕ) (head : Head) (n : ℕ) (block : List ℕ) → IsBytes bytes → (answer : Result Checked RepoFault) → IsAnswer did least bytes answer
    → (found_and_asked did moment good answer).0 ≡ found head n block → IsOfRepository did least head block
answered_found did least moment good bytes head n block are (Ok checked) is same =
    let so = judged_found _ good checked.head head checked.records n _ _ checked.block block _ same in
    record { bytes = bytes; are = are; checked = checked; whole = is; head_is = so.heads; block_is = so.blocks }
answered_found did least moment good bytes head n block are (Err fault) is same = absurd cc

not_absent : (head : Head) (n : ℕ) (block : List ℕ) → found head n block ≡ absent → ⊥
not_absent head n block same = cc

stored_found : (o : Option (List ℕ)) → AreBytes o → (did : List ℕ) (least : Option ℕ) (moment : ℕ) (head : Head) (n : ℕ) (block : List ℕ) (calls : List Call)
    → IsFetchedFrom o did least moment (found head n block) calls → IsOfRepository did least head block
stored_found None are did least moment head n block calls from = absurd (not_absent head n block from.0)
stored_found (Some bytes) are did least moment head n block calls (answer, good, is, came) = answered_found did least moment good bytes head n block are answer is (ap (λ (x : Found × List Call). x.0) came)

-- a repository that is told is bytes
abbrev ToldBytes : Option (Option (List ℕ)) → Type 0
ToldBytes o = (repository : Option (List ℕ)) → o ≡ Some repository → AreBytes repository

fetched_found : (o : Option (Option (List ℕ))) → ToldBytes o → (did : List ℕ) (least : Option ℕ) (moment : ℕ) (head : Head) (n : ℕ) (block : List ℕ) (calls : List Call) → IsFetchedAs o did least moment (found head n block) calls → IsOfRepository did least head block
fetched_found (Some repository) are did least moment head n block calls from = stored_found repository (are repository refl) did least moment head n block calls from
fetched_found None are did least moment head n block calls (some, bytes, from) = stored_found some bytes did least moment head n block calls from

in_some : (f : Fetched) (o : Option (Option (List ℕ))) → ToldBytes o → (did : List ℕ) (least : Option ℕ) (moment : ℕ) (calls : List Call)
    → ((whole : Whole) → f ≡ Fetched.Whole whole → IsFetchedAs o did least moment (found_in f) calls) → IsFoundOfRepository did least (found_in f)
in_some Fetched.NotAsked o are did least moment calls from = tt
in_some Fetched.Absent o are did least moment calls from = tt
in_some (Fetched.Refused code) o are did least moment calls from = tt
in_some (Fetched.Whole whole) o are did least moment calls from = fetched_found o are did least moment whole.head whole.records _ calls (from whole refl)

-- where repositories tell, they tell bytes
abbrev TellBytes : Bool → (List ℕ → Option (List ℕ)) → Type 0
TellBytes tells repository = IsTrue tells → GiveBytes repository

told_bytes : (tells : Bool) (repository : List ℕ → Option (List ℕ)) (did : List ℕ) → TellBytes tells repository → ToldBytes (told_where tells (repository did))
told_bytes true repository did are one same = let is : repository did ≡ one = cc in subst (λ (r : Option (List ℕ)). AreBytes r) is (are refl did)
told_bytes false repository did are one same = absurd cc

-- ---- a row that took a repository over lost its account

record Loses (q : Option Refusal) : Type 0 where
  refusal : Refusal
  is : q ≡ Some refusal
  lost : IsTrue (loses (code_of refusal))

lost_so : (b : Bool) (f : Fetched) (whole : Whole) → (if b then f else Fetched.NotAsked) ≡ Fetched.Whole whole → IsTrue b
lost_so true f whole same = cc
lost_so false f whole same = absurd cc

asked_so : (checks : Checks) (n : ℕ) (a : State) (host : List ℕ) (e : Seen) (o : Outside) (q : Option Refusal) (whole : Whole) → (event_row checks n a host e o (Some o.moment) q).fetched ≡ Fetched.Whole whole → Loses q
asked_so checks n a host e o None whole same = absurd cc
asked_so checks n a host e o (Some r) whole same = record { refusal = r; is = refl; lost = lost_so (loses (code_of r)) (fetched_as n e o.fetched) whole same }

-- ---- the row of one message

some_is : (t u : Taken) → Some t ≡ Some u → t ≡ u
some_is t u same = cc

where_held : (b : Bool) (A B : Type 0) → IsTrue b → WhereElse b A B → A
where_held true A B is held = held
where_held false A B is held = absurd cc

event_given : (checks : Checks) (J : List Row) (host : List ℕ) (e : Seen) (t : Taken) (tells : Bool) (repository : List ℕ → Option (List ℕ)) (calls : List Call) → TellBytes tells repository → IsFetched tells repository J t.did t.refusal (or_zero t.moment) (found_in t.fetched) calls
    → decided_event checks (last_seq J) (account e.did J) host e (shown t) ≡ t → (message : List ℕ) → IsBytes message → frame_of message ≡ Ok (Frame.Event e) → IsOfEvent checks J t
event_given checks J host e t tells repository calls are fetched is message spelled reads =
    let a = account e.did J in
    let q = refusal_of checks a e (shown t) in
    let told = event_told checks (last_seq J) a host e (shown t) (Some (or_zero t.moment)) q in
    let refusals : q ≡ t.refusal = sym told.refusal ∙ ap (λ (u : Taken). u.refusal) is in
    let fetches = ap (λ (u : Taken). u.fetched) is in
    let dids : t.did ≡ e.did = sym (ap (λ (u : Taken). u.did) is) ∙ told.did in
    let from : (whole : Whole) → t.fetched ≡ Fetched.Whole whole → IsFetchedAs (told_where tells (repository t.did)) t.did (last_rev (account t.did J).repo) (or_zero t.moment) (found_in t.fetched) calls =
    λ whole whole_is.
    let so = asked_so checks (last_seq J) a host e (shown t) q whole (fetches ∙ whole_is) in
    where_held (loses (code_of so.refusal)) _ _ so.lost (subst (λ (q : Option Refusal). IsFetched tells repository J t.did q (or_zero t.moment) (found_in t.fetched) calls) (sym refusals ∙ so.is) fetched) in
    record {
      host = host;
      event = e;
      outside = shown t;
      moment = Some (or_zero t.moment);
      read = frames_events message e spelled reads;
      fetched = subst (λ (did : List ℕ). IsFoundOfRepository did (last_rev (account did J).repo) (found_in t.fetched)) dids
          (in_some t.fetched (told_where tells (repository t.did)) (told_bytes tells repository t.did are) t.did (last_rev (account t.did J).repo) (or_zero t.moment) calls from);
      is = sym is;
    }

frame_given : (checks : Checks) (J : List Row) (host : List ℕ) (message : List ℕ) (frame : Result Frame FrameFault) (t : Taken) (tells : Bool) (repository : List ℕ → Option (List ℕ)) (calls : List Call) → TellBytes tells repository → IsFetched tells repository J t.did t.refusal (or_zero t.moment) (found_in t.fetched) calls
    → IsMadeBy checks J (host, frame) (Row.Taken t) → IsBytes message → frame_of message ≡ frame → IsGiven checks J (Row.Taken t)
frame_given checks J host message (Ok (Frame.Event e)) t tells repository calls are fetched is_made spelled reads =
    inl (event_given checks J host e t tells repository calls are fetched (some_is _ t is_made) message spelled reads)
frame_given checks J host message (Ok (Frame.Faulty seq)) t tells repository calls are fetched is_made spelled reads =
    inr (record { host = host; seq = seq; moment = Some (or_zero t.moment); is = sym (some_is _ t is_made) })
frame_given checks J host message (Ok Frame.Info) t tells repository calls are fetched is_made spelled reads = absurd cc
frame_given checks J host message (Ok Frame.Error) t tells repository calls are fetched is_made spelled reads = absurd cc
frame_given checks J host message (Ok Frame.Unknown) t tells repository calls are fetched is_made spelled reads = absurd cc
frame_given checks J host message (Err fault) t tells repository calls are fetched is_made spelled reads = absurd is_made

-- ---- the rows of all steps

stored_on : (tells : Bool) (old new : List ℕ → Option (List ℕ)) → (IsTrue tells → SameRepositories old new) → TellBytes tells old → TellBytes tells new
stored_on tells old new same are told = λ did. subst (λ (r : Option (List ℕ)). AreBytes r) (sym (same told did)) (are told did)

told_given : (checks : Checks) (J : List Row) (ended : List (List ℕ)) (s : Step) (told : Decided) (others : List Row) (tells : Bool) (repository : List ℕ → Option (List ℕ)) (calls : List Call) → TellBytes tells repository → IsBytes s.bytes
    → IsDecidedAs checks J ended (message_of s) told → IsFetchedTold tells repository J told calls → AreGiven checks (J ++ rows_decided told) others → AreGiven checks J (rows_decided told ++ others)
told_given checks J ended s after_end others tells repository calls are spelled is fetched given = subst (λ (K : List Row). AreGiven checks K others) (append-nil J) given
told_given checks J ended s (skipped pass) others tells repository calls are spelled is fetched given = subst (λ (K : List Row). AreGiven checks K others) (append-nil J) given
told_given checks J ended s (recorded t) others tells repository calls are spelled is fetched given = (frame_given checks J s.host s.bytes (frame_of s.bytes) t tells repository calls are fetched is.2 spelled refl, given)

all_given : (checks : Checks) (clock_tells repos_tell : Bool) (steps : List Step) (J : List Row) (ended : List (List ℕ)) (old new : Around) → TellBytes repos_tell old.repository → AreOfBytes steps
    → AreSteps checks J ended steps → AllAsked clock_tells repos_tell J old steps new → AreGiven checks J (rows steps)
all_given checks clock_tells repos_tell [] J ended old new are spelled is asked = tt
all_given checks clock_tells repos_tell (s ∷ steps) J ended old new are spelled is asked =
    let mid = asked.0 in
    told_given checks J ended s s.decided (rows steps) repos_tell old.repository asked.1.fetch are spelled.0 is.0 asked.1.fetched
    (all_given checks clock_tells repos_tell steps (J ++ rows_decided s.decided) (ended_decided s.decided s.host ended) mid new (stored_on repos_tell old.repository mid.repository asked.1.same are) spelled.1 is.1 asked.2)

pub joined_given : (checks : Checks) (one two front : List Row) → AreGiven checks front one → AreGiven checks (front ++ one) two → AreGiven checks front (one ++ two)
joined_given checks [] two front first second = subst (λ (K : List Row). AreGiven checks K two) (append-nil front) second
joined_given checks (row ∷ one) two front first second =
    (first.0, joined_given checks one two (front ++ row ∷ []) first.1 (subst (λ (K : List Row). AreGiven checks K two) (sym (append_assoc front (row ∷ []) one)) second))

pub steps_given : StepsAreGiven
steps_given checks clock_tells repos_tell J ended old new steps are spelled given is asked =
    joined_given checks J (rows steps) [] given (all_given checks clock_tells repos_tell steps J ended old new are spelled is asked)

-- ---- operators' commands

pub operated_given : OperatedAreGiven
operated_given checks J did down time moment row short made =
    subst (λ (x : Row). IsGiven checks J x) (sym made.1) (record { time = time; short = short; allowed = made.0; is = refl })

row_is : (one two : Row) → CommandAnswer.Made one ≡ CommandAnswer.Made two → one ≡ two
row_is one two same = cc

found_given : (checks : Checks) (J : List Row) (did time : List ℕ) (moment : ℕ) (repository : Option (List ℕ)) (row : Row) → IsShortText time → AreBytes repository
    → sync_refusal (account did J) ≡ None → (f : Found) (calls : List Call) → IsFetchedFrom repository did (last_rev (account did J).repo) moment f calls → IsFetchCommand (last_seq J) did time moment f (CommandAnswer.Made row) → IsGiven checks J row
found_given checks J did time moment repository row short are fine absent calls from is = absurd cc
found_given checks J did time moment repository row short are fine (unfit n) calls from is = absurd cc
found_given checks J did time moment repository row short are fine (found head records block) calls from is =
    let made = row_is row (Row.Synced did (whole_under did time head records block (last_seq J + 1)) (Some moment)) is in
    subst (λ (x : Row). IsGiven checks J x) (sym made)
    (record { time = time; short = short; allowed = fine; head = head; records = records; block = block; fetched = stored_found repository are did (last_rev (account did J).repo) moment head records block calls from; is = refl })

synced_by : (checks : Checks) (old new : Panel) (J : List Row) (did time : List ℕ) (moment : ℕ) (repository : Option (List ℕ)) (row : Row) → IsShortText time → AreBytes repository
    → (q : Option Refusal) → sync_refusal (account did J) ≡ q → IsSyncedBy q old J did time moment (Some repository) (CommandAnswer.Made row) new → IsGiven checks J row
synced_by checks old new J did time moment repository row short are (Some r) fine by = absurd (refused_not row r by.0)
  where
    refused_not : (x : Row) (r : Refusal) → CommandAnswer.Made x ≡ CommandAnswer.Refused r → ⊥
    refused_not x r same = absurd cc
synced_by checks old new J did time moment repository row short are None fine by =
    found_given checks J did time moment repository row short are fine by.found by.fetch.calls by.fetch.fetched by.command_is

pub synced_given : SyncedAreGiven
synced_given checks old new J did time moment repository row short are by =
    synced_by checks old new J did time moment repository row short are (sync_refusal (account did J)) refl by
