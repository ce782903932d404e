-- What is known of rows doesn't depend on the messages of hosts that they hold.
use Rattle.std.proofs.Common.{◌≡◌, ℕ, Bool, true, false, cond, List, [], ◌∷◌, ◌++◌, Option, Some, None, refl, sym, ap, ◌∙◌}
use Rattle.std.specs.Prelude.{◌==◌, if◌then◌else◌}
use Rattle.std.proofs.lemmas.List.Folds.{list_any-append}
use Rattle.relay_row.specs.declared.fetched.Fetched.{Fetched}
use Rattle.relay_row.specs.declared.row.Row.{Row}
use Rattle.relay_row.specs.declared.taken.Taken.{Taken}
use Rattle.relay_row.specs.Folds.{names, did_of_row, events_of, is_named, last_after, last_seq, first_seq}
use Rattle.relay_row.proofs.Journals.{folded_joined}
use Rattle.account_state.specs.Folds.{account, account_after, fresh}
use Rattle.host_state.specs.Folds.{hosts, hosts_after}
use Rattle.relay_core.specs.declared.journal_state.Core.{Core}
use Rattle.relay_core.specs.declared.stage.Stage.{Stage}
use Rattle.relay_core.specs.Entries.{Holds}
use Rattle.relay_core.specs.Stages.{next_stage, stage_of}
use Rattle.relay_core.proofs.Stages.{stage_step}
use Rattle.at_event.specs.declared.refusal.Refusal.{Refusal}
use Rattle.store_take.specs.Outcomes.{outcome_as, taken_outcome}
use Rattle.relay_store.specs.Places.{number_in, place_of}

-- the row with another message
abbrev pub running : Taken → List ℕ → Row
running t message = Row.Taken (record t { message = message })

chosen : (none : Bool) (f : Fetched) (seq : ℕ) (m n : List ℕ) → first_seq (cond none (events_of f) ((seq, m) ∷ [])) ≡ first_seq (cond none (events_of f) ((seq, n) ∷ []))
chosen true f seq m n = refl
chosen false f seq m n = refl

-- its number is the same
same_number : (t : Taken) (message : List ℕ) → number_in (running t message) ≡ number_in (Row.Taken t)
same_number t message = chosen (t.seq == 0) t.fetched t.seq message t.message

pub same_place : (place index : ℕ) (t : Taken) (message : List ℕ) → place_of place index (running t message) ≡ place_of place index (Row.Taken t)
same_place place index t message = ap (λ (n : ℕ). if n == 0 then [] else record { seq = n; place = place; index = index } ∷ []) (same_number t message)

same_account : (did : List ℕ) (J : List Row) (t : Taken) (message : List ℕ) → account did (J ++ Row.Taken t ∷ []) ≡ account did (J ++ running t message ∷ [])
unfolding account
same_account did J t message = folded_joined (account_after did) fresh J (Row.Taken t ∷ []) ∙ sym (folded_joined (account_after did) fresh J (running t message ∷ []))

same_named : (did : List ℕ) (J : List Row) (t : Taken) (message : List ℕ) → is_named did (J ++ Row.Taken t ∷ []) ≡ is_named did (J ++ running t message ∷ [])
unfolding is_named
same_named did J t message = list_any-append (λ r. names did (did_of_row r)) J (Row.Taken t ∷ []) ∙ sym (list_any-append (λ r. names did (did_of_row r)) J (running t message ∷ []))

same_hosts : (J : List Row) (t : Taken) (message : List ℕ) → hosts (J ++ Row.Taken t ∷ []) ≡ hosts (J ++ running t message ∷ [])
unfolding hosts
same_hosts J t message = folded_joined hosts_after [] J (Row.Taken t ∷ []) ∙ sym (folded_joined hosts_after [] J (running t message ∷ []))

same_last : (J : List Row) (t : Taken) (message : List ℕ) → last_seq (J ++ Row.Taken t ∷ []) ≡ last_seq (J ++ running t message ∷ [])
unfolding last_seq
same_last J t message =
    folded_joined last_after 0 J (Row.Taken t ∷ [])
    ∙ ap (λ (n : ℕ). if n == 0 then last_seq J else n) (sym (same_number t message))
    ∙ sym (folded_joined last_after 0 J (running t message ∷ []))

same_stage : (J : List Row) (t : Taken) (message : List ℕ) → stage_of (J ++ Row.Taken t ∷ []) ≡ stage_of (J ++ running t message ∷ [])
same_stage J t message = stage_step J (Row.Taken t) ∙ after_taken (stage_of J) ∙ sym (stage_step J (running t message))
  where
    after_taken : (s : Stage) → next_stage s (Row.Taken t) ≡ next_stage s (running t message)
    after_taken Stage.Start = refl
    after_taken Stage.Hosts = refl
    after_taken Stage.Accounts = refl
    after_taken Stage.Events = refl

-- so is the state behind it
pub same_state : (core : Core) (J : List Row) (t : Taken) (message : List ℕ) → Holds core (J ++ Row.Taken t ∷ []) → Holds core (J ++ running t message ∷ [])
same_state core J t message holds = record {
  accounts = λ did. holds.accounts did ∙ same_account did J t message;
  named = λ did. holds.named did ∙ same_named did J t message;
  hosts = holds.hosts ∙ same_hosts J t message;
  last = holds.last ∙ same_last J t message;
  stage = holds.stage ∙ same_stage J t message;
}

outcome_apart : (refusal : Option Refusal) (t : Taken) (message : List ℕ) → outcome_as refusal (record t { message = message }) ≡ outcome_as refusal t
outcome_apart None t message = refl
outcome_apart (Some refusal) t message = refl

-- and what is answered
pub same_outcome : (t : Taken) (message : List ℕ) → taken_outcome (record t { message = message }) ≡ taken_outcome t
same_outcome t message = outcome_apart t.refusal t message
