-- What a store took, by all checks that open and link rightly, and left unsound.
use Rattle.std.proofs.Common.{◌≡◌, ℕ, Bool, true, false, ltb, List, [], ◌∷◌, Option, None, Some, Result, Ok, Err, refl, sym, ◌∙◌, ap, subst, arith}
use Rattle.std.specs.List.{list_all}
use Rattle.at_cbor.specs.Encoding.{info_of, tail_of}
use Rattle.at_car.specs.Blocks.{BlockMap}
use Rattle.at_car.specs.Varint.{groups}
use Rattle.at_cid.specs.declared.limits.TheConstants.{NUMBERS}
use Rattle.at_commit.specs.declared.commit.Commit.{Commit}
use Rattle.at_event.specs.Frames.{frame_of}
use Rattle.at_event.specs.Writing.{event_message, out_length, out_of}
use Rattle.at_event.specs.declared.frame.Frame.{Frame}
use Rattle.at_event.specs.declared.frame.FrameFault.{FrameFault}
use Rattle.at_event.specs.declared.head.Head.{Head}
use Rattle.at_event.specs.declared.kind.EventKind.{EventKind}
use Rattle.at_event.specs.declared.refusal.Refusal.{Refusal}
use Rattle.at_event.proofs.Messages.{event_again}
use Rattle.relay_row.specs.Folds.{cursor, last_seq, names}
use Rattle.relay_row.specs.declared.fetched.Fetched.{Fetched}
use Rattle.relay_row.specs.declared.row.Row.{Row}
use Rattle.relay_row.specs.declared.taken.Taken.{Taken}
use Rattle.account_state.specs.Folds.{account}
use Rattle.account_state.specs.declared.repo.Repo.{Repo}
use Rattle.commit_check.specs.Step.{StopsAt, empty_root}
use Rattle.relay_core.specs.Decide.{Checks, refusal_in}
use Rattle.relay_core.specs.Opening.{IsHeadOf, OpensRight}
use Rattle.relay_core.specs.Rows.{head_effect}
use Rattle.relay_core.specs.Runs.{IsMadeBy, Run}
use Rattle.relay_law.specs.Chains.{chains}
use Rattle.relay_law.specs.Right.{LinksRight}
use Rattle.relay_law.specs.Sound.{AreLinked, IsSound}
use Rattle.law_premises.specs.Runs.{StoresMayBeUnsound}
use Rattle.law_premises.proofs.Covered.{car, car_is, covered, empty_is, empty_link, held, held_object, holds, is_covered_event, is_top, nothing_shown, object_there, root_there, top}
use Rattle.law_premises.proofs.Forming.{final, its_head}
use Rattle.law_premises.proofs.Messages.{late_unread, no_step, torn_step}
use Rattle.law_premises.proofs.Running.{none_sound}
use Rattle.law_premises.proofs.Samples.{accepted, bytes_by, commit_of, did, host, link, torn, torn_journal}

-- ---- what right checks say of the covered commit

same_link : (a b : List ℕ) → Some a ≡ Some b → a ≡ b
same_link a b e = cc

same_object : (a b : Commit) → Some a ≡ Some b → a ≡ b
same_object a b e = cc

one_head : (head : Head) → IsHeadOf covered.body head → head ≡ its_head
one_head head is =
    let link_is : head.commit ≡ top = same_link head.commit top (sym is.found.root_is ∙ root_there) in
    let object_is : is.commit ≡ held_object = same_object is.commit held_object (sym is.found.object_is ∙ object_there) in
    let data_is : head.data_root ≡ empty_link = is.data_is ∙ ap (λ (k : Commit). k.data_root) object_is in
    (λ i. record { rev = is.rev_is i; data_root = data_is i; commit = link_is i })

opened_by : (checks : Checks) → OpensRight checks → (answer : Result Head Refusal) → checks.opens covered None ≡ answer → refusal_in answer ≡ None → answer ≡ Ok its_head
opened_by checks right (Ok head) is none = ap (λ (h : Head). Ok h) (one_head head (right.head covered None head is))
opened_by checks right (Err refusal) is none = absurd cc

opened : (checks : Checks) → OpensRight checks → checks.opens covered None ≡ Ok its_head
opened checks right = opened_by checks right (checks.opens covered None) refl (right.refusal covered None ∙ nothing_shown)

stops_none : (blocks : BlockMap) (former later : List ℕ) (refusal : Refusal) → StopsAt [] blocks former later refusal → later ≡ former → ⊥
stops_none blocks former later (Refusal.OtherData want got) stops same = stops.2 same
stops_none blocks former later refusal stops same = absurd stops

linked_by : (checks : Checks) → LinksRight checks → (answer : Option Refusal) → checks.links covered Repo.Missing ≡ answer → answer ≡ None
linked_by checks right None is = refl
linked_by checks right (Some refusal) is =
    absurd (stops_none held empty_root empty_link refusal (right.stops covered (commit_of top car) Repo.Missing holds refusal is_covered_event refl is) (sym empty_is))

linked : (checks : Checks) → LinksRight checks → checks.links covered Repo.Missing ≡ None
linked checks right = linked_by checks right (checks.links covered Repo.Missing) refl

-- ---- a message behind the greatest number

abbrev message : List ℕ
message = event_message EventKind.Commit covered.payload

message_bytes : list_all (λ c. ltb c 256) message ≡ true
unfolding event_message info_of tail_of groups
message_bytes = refl

abbrev pub row : Row
row = accepted 1 NUMBERS (out_of covered NUMBERS) its_head

-- its row, by what opening says
abbrev taken_as : Result Head Refusal → Taken
taken_as x = record { host = host; host_seq = 1; did = did; kind = 1; refusal = None; seq = NUMBERS; message = out_of covered NUMBERS; effect = head_effect (Some x); fetched = Fetched.NotAsked; moment = Some 0 }

pub made : (checks : Checks) → OpensRight checks → LinksRight checks → IsMadeBy checks (final ∷ []) (host, Ok (Frame.Event covered)) row
unfolding account last_seq out_length out_of event_message info_of tail_of groups
made checks opens links = rw (opened checks opens, linked checks links) (ap (λ (x : Result Head Refusal). Some (taken_as x)) (opened checks opens))

covered_run : (checks : Checks) → OpensRight checks → LinksRight checks → Run checks (final ∷ []) ((host, Ok (Frame.Event covered)) ∷ []) (row ∷ [])
unfolding cursor
covered_run checks opens links = (row, [], refl, made checks opens links, refl)

sent_run : (checks : Checks) → OpensRight checks → LinksRight checks → Run checks (final ∷ []) ((host, frame_of message) ∷ []) (row ∷ [])
sent_run checks opens links = subst (λ (f : Result Frame FrameFault). Run checks (final ∷ []) ((host, f) ∷ []) (row ∷ [])) (sym (event_again covered is_covered_event)) (covered_run checks opens links)

final_by : (d : List ℕ) (b : Bool) → names d [] ≡ b → AreLinked (chains d (final ∷ []))
final_by d true is = rw is (tt, tt)
final_by d false is = rw is (tt, tt)

final_sound : IsSound (final ∷ [])
final_sound d = final_by d (names d []) refl

pub stores_unsound : StoresMayBeUnsound
stores_unsound = record {
  journal = λ all. no_step (out_of covered NUMBERS) empty_root empty_link FrameFault.NoSeq (late_unread top is_top car (bytes_by car car_is.1) (omega (arith, car_is.0)))
      (all (final ∷ []) ((host, message) ∷ []) (row ∷ []) (bytes_by message message_bytes, tt) final_sound sent_run did).0.0;
  sound = λ all. torn_step empty_root (link 0) (all (torn ∷ []) [] [] tt torn_journal (λ checks opens links. refl) did).0.0;
  run = λ all. torn_step empty_root (link 0) (all [] [] (torn ∷ []) tt torn_journal none_sound did).0.0;
}
