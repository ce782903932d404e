-- Two lists of messages whose rows disagree.
use Rattle.std.proofs.Common.{◌≡◌, ℕ, Bool, true, false, get_or, List, [], ◌∷◌, None, Some, Ok, codes, refl, sym, ◌∙◌, ap, arith}
use Rattle.std.proofs.lemmas.Slice.Eq.{bytes_eq-Decides}
use Rattle.std.specs.Str.{bytes_eq}
use Rattle.at_cbor.specs.Item.{Item}
use Rattle.at_cbor.specs.Encoding.{info_of, tail_of}
use Rattle.at_event.specs.Seen.{Seen}
use Rattle.at_event.specs.Writing.{event_message, out_length, out_of}
use Rattle.at_event.specs.declared.event.Body.{Body}
use Rattle.at_event.specs.declared.frame.Frame.{Frame}
use Rattle.relay_row.specs.Folds.{cursor, last_seq}
use Rattle.relay_row.specs.declared.fetched.Fetched.{Fetched}
use Rattle.relay_row.specs.declared.row.Row.{Row}
use Rattle.relay_row.specs.declared.taken.Effect.{Effect}
use Rattle.account_state.specs.Folds.{account}
use Rattle.account_state.specs.State.{State}
use Rattle.relay_core.specs.Decide.{absent}
use Rattle.relay_core.specs.Rows.{faulty_taken}
use Rattle.relay_core.specs.Runs.{Message}
use Rattle.relay_core.specs.Sending.{IsSendable}
use Rattle.relay_core.specs.Worlds.{World, RunsIn}
use Rattle.relay_law.specs.Merges.{Merge, OneHome, only}
use Rattle.law_premises.specs.Merges.{MergesMayDisagree}
use Rattle.law_premises.proofs.Running.{loose}
use Rattle.law_premises.proofs.Samples.{did, host}

-- a world in which each host is the home of all accounts
abbrev world : World
world = record { moment = λ h frame. 0; home = λ d h. true; verdict = λ e. true; fetch = λ d rev moment. absent }

none_named : OneHome world []
none_named d one other named = absurd named

-- ---- a message more

abbrev faulty : Message
faulty = (host, Ok (Frame.Faulty 1))

abbrev faulty_row : Row
faulty_row = Row.Taken (faulty_taken host 1 (Some 0))

faulty_run : RunsIn loose world [] [] (faulty ∷ []) (faulty_row ∷ [])
unfolding account cursor last_seq
faulty_run = (faulty_row, [], refl, (tt, refl), refl)

apart : cursor host [] ≡ cursor host (faulty_row ∷ []) → ⊥
unfolding cursor
apart same = absurd (omega (arith, same))

-- ---- two homes

abbrev second : List ℕ
second = codes "c.d"

abbrev switched : Bool → Seen
switched active = record { seq = 1; did = did; time = []; body = Body.Account (record { active = active; status = None }); payload = Item.null }

abbrev says : List ℕ → Bool → Message
says h active = (h, Ok (Frame.Event (switched active)))

abbrev switch : List ℕ → Bool → ℕ → Row
switch h active n = Row.Taken (record { host = h; host_seq = 1; did = did; kind = 4; refusal = None; seq = n; message = out_of (switched active) n; effect = Effect.Account active None; fetched = Fetched.NotAsked; moment = Some 0 })

none_found : (last : ℕ) (e : Seen) → IsSendable last e absent
none_found last e head records block is = absurd cc

off_on : RunsIn loose world [] [] (says host false ∷ says second true ∷ []) (switch host false 1 ∷ switch second true 2 ∷ [])
unfolding account cursor last_seq out_length out_of event_message info_of tail_of
off_on = (switch host false 1, switch second true 2 ∷ [], refl, (none_found 0 (switched false), refl), (switch second true 2, [], refl, (none_found 1 (switched true), refl), refl))

on_off : RunsIn loose world [] [] (says second true ∷ says host false ∷ []) (switch second true 1 ∷ switch host false 2 ∷ [])
unfolding account cursor last_seq out_length out_of event_message info_of tail_of
on_off = (switch second true 1, switch host false 2 ∷ [], refl, (none_found 0 (switched true), refl), (switch host false 2, [], refl, (none_found 1 (switched false), refl), refl))

two_hosts : (h : List ℕ) → bytes_eq h host ≡ true → bytes_eq h second ≡ true → ⊥
two_hosts h one other =
    let same : host ≡ second = sym ((bytes_eq-Decides h host).0 one) ∙ (bytes_eq-Decides h second).0 other in
    let first : 97 ≡ 99 = ap (λ (l : List ℕ). get_or l 0 0) same in
    absurd (omega (arith, first))

either : (h : List ℕ) (a b : Bool) → bytes_eq h host ≡ a → bytes_eq h second ≡ b → only h (says host false ∷ says second true ∷ []) ≡ only h (says second true ∷ says host false ∷ [])
either h true true one other = absurd (two_hosts h one other)
either h true false one other = rw (one, other) refl
either h false true one other = rw (one, other) refl
either h false false one other = rw (one, other) refl

both_merge : Merge (says host false ∷ says second true ∷ []) (says second true ∷ says host false ∷ [])
both_merge h = either h (bytes_eq h host) (bytes_eq h second) refl refl

differ : account did (switch host false 1 ∷ switch second true 2 ∷ []) ≡ account did (switch second true 1 ∷ switch host false 2 ∷ []) → ⊥
unfolding account
differ same = let active : true ≡ false = ap (λ (a : State). a.active) same in absurd cc

pub merges_disagree : MergesMayDisagree
merges_disagree = record {
  merge = λ all. apart ((all loose world [] [] [] (faulty ∷ []) [] (faulty_row ∷ []) none_named refl faulty_run).cursors host);
  home = λ all. differ ((all loose world [] [] (says host false ∷ says second true ∷ []) (says second true ∷ says host false ∷ [])
      (switch host false 1 ∷ switch second true 2 ∷ []) (switch second true 1 ∷ switch host false 2 ∷ []) both_merge off_on on_off).accounts did);
  run = λ all. apart ((all loose world [] [] [] [] [] (faulty_row ∷ []) (λ h. refl) none_named refl).cursors host);
}
