-- Small instances in which the laws of journals fail, each without one of their premises.
use Rattle.std.proofs.Common.{◌≡◌, ℕ, true, false, List, [], ◌∷◌, None, Ok, Err, refl, sym, ◌∙◌}
use Rattle.at_cbor.specs.Item.{Item}
use Rattle.at_cbor.specs.Heads.{head_at}
use Rattle.at_cbor.specs.Reading.{item_at}
use Rattle.at_cbor.specs.Encoding.{info_of, tail_of}
use Rattle.at_cbor.specs.Taking.{item_from_front}
use Rattle.at_event.specs.Frames.{items_in, frame_of}
use Rattle.at_event.specs.Seen.{Seen}
use Rattle.at_event.specs.Writing.{event_message, out_of, out_length}
use Rattle.at_event.specs.declared.event.Body.{Body}
use Rattle.at_event.specs.declared.event.CommitEvent.{CommitEvent}
use Rattle.at_event.specs.declared.frame.Frame.{Frame}
use Rattle.at_event.specs.declared.frame.FrameFault.{FrameFault}
use Rattle.at_event.specs.declared.head.Head.{Head}
use Rattle.relay_row.specs.Folds.{cursor, last_seq}
use Rattle.relay_row.specs.declared.carried.Carried.{Carried}
use Rattle.relay_row.specs.declared.carried.CarriedRepo.{CarriedRepo}
use Rattle.relay_row.specs.declared.fetched.Fetched.{Fetched}
use Rattle.relay_row.specs.declared.fetched.Whole.{Whole}
use Rattle.relay_row.specs.declared.operated.Operated.{Operated}
use Rattle.relay_row.specs.declared.row.Row.{Row}
use Rattle.relay_row.specs.declared.taken.Effect.{Effect}
use Rattle.relay_row.specs.declared.taken.Taken.{Taken}
use Rattle.account_state.specs.Folds.{account}
use Rattle.relay_core.specs.Decide.{Checks, Outside, absent, decided_event}
use Rattle.relay_core.specs.Runs.{Run}
use Rattle.relay_law.specs.Carried.{IsOfKnown}
use Rattle.relay_law.specs.Sound.{Follows, IsCommit}
use Rattle.relay_law.specs.Needed.{PremisesAreNeeded}
use Rattle.relay_law.proofs.Choosing.{some_right}

-- ---- a journal that accepted a commit whose message is none

abbrev ada : List ℕ
ada = 1 ∷ []

abbrev top : Head
top = record { rev = 0; data_root = []; commit = [] }

abbrev torn : Row
torn = Row.Taken (record { host = ada; host_seq = 1; did = ada; kind = 1; refusal = None; seq = 1; message = []; effect = Effect.Repo top; fetched = Fetched.NotAsked; moment = None })

no_frame : frame_of [] ≡ Err FrameFault.BadFrame
unfolding frame_of items_in item_from_front item_at head_at
no_frame = refl

no_commit : (c : CommitEvent) → IsCommit [] c → ⊥
no_commit c is = let reads : Err FrameFault.BadFrame ≡ Ok (Frame.Event is.event) = sym no_frame ∙ is.reads in absurd cc

no_step : (former later : List ℕ) → Follows former [] later → ⊥
no_step former later follows = no_commit follows.commit follows.is

abbrev word : Operated
word = record { did = []; down = true; seq = 2; message = []; moment = None }

abbrev whole : Whole
whole = record { seq = 2; head = top; records = 0; message = [] }

-- ---- checks that link whatever they are asked of, also a lost account

abbrev commit : CommitEvent
commit = record { repo = ada; rev = 0; since = None; prev_data = None; commit = []; too_big = false; blocks = []; ops = [] }

abbrev event : Seen
event = record { seq = 1; did = ada; time = []; body = Body.Commit commit; payload = Item.null }

abbrev loose : Checks
loose = record { opens = λ e last. Ok top; links = λ e repo. None }

abbrev lost : Row
lost = Row.Carried (Carried.Account (record { did = ada; active = true; status = None; down = false; repo = CarriedRepo.Lost None }))

abbrev good : Outside
good = record { moment = 0; home = true; verdict = true; fetched = absent }

abbrev accepted : Taken
accepted = decided_event loose 0 (account ada (lost ∷ [])) ada event good

loose_run : Run loose (lost ∷ []) ((ada, Ok (Frame.Event event)) ∷ []) (Row.Taken accepted ∷ [])
unfolding account cursor last_seq out_length out_of event_message info_of tail_of
loose_run = (Row.Taken accepted, [], refl, refl, refl)

not_known : IsOfKnown (lost ∷ []) (Row.Taken accepted) → ⊥
unfolding account out_length out_of event_message info_of tail_of
not_known known = known ada (out_of event 1) [] None refl refl

abbrev unlinked : Checks
unlinked = record { opens = some_right.0.opens; links = λ e repo. None }

pub premises_needed : PremisesAreNeeded
premises_needed = record {
  replays = λ all. let r = (all (torn ∷ []) ada).0 [] (record { formed = tt; ascends = tt; keys_only = tt }) refl in no_commit r.0 r.1;
  fronts = λ all. no_step _ _ (all (torn ∷ []) [] ada).0.0;
  operated = λ all. no_step _ _ (all (torn ∷ []) word ada).0.0;
  synced = λ all. no_step _ _ (all (torn ∷ []) [] whole None ada).0.0;
  links = λ all. (all unlinked (record { refusal = some_right.1.refusal; head = some_right.1.head })).not_lost event commit None refl refl;
  known = λ all. not_known (all loose (lost ∷ []) ((ada, Ok (Frame.Event event)) ∷ []) (Row.Taken accepted ∷ []) loose_run).0;
}
