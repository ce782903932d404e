-- No run accepts a commit of an account that was lost.
use Rattle.std.proofs.Common.{◌≡◌, ◌≢◌, ℕ, ◌+◌, Bool, true, false, List, [], ◌∷◌, ◌++◌, Option, Some, None, Ok, Err, refl, ap, sym, cond, subst}
use Rattle.std.specs.Prelude.{nat_lt}
use Rattle.at_event.specs.Seen.{Seen}
use Rattle.at_event.specs.Writing.{out_of, out_length}
use Rattle.at_event.specs.declared.event.Body.{Body}
use Rattle.at_event.specs.declared.frame.Frame.{Frame}
use Rattle.at_event.specs.declared.refusal.Refusal.{Refusal}
use Rattle.relay_row.specs.Folds.{names, last_seq}
use Rattle.relay_row.specs.declared.fetched.Fetched.{Fetched}
use Rattle.relay_row.specs.declared.row.Row.{Row}
use Rattle.relay_row.specs.declared.taken.Effect.{Effect}
use Rattle.relay_row.specs.declared.taken.Taken.{Taken}
use Rattle.account_state.specs.Folds.{account, last_rev}
use Rattle.account_state.specs.State.{State}
use Rattle.account_state.specs.declared.repo.Repo.{Repo}
use Rattle.relay_core.specs.Decide.{Checks, Outside, first_refusal, refusal_of, decided_event, when, body_refusals, event_row}
use Rattle.relay_core.specs.Rows.{faulty_taken, head_effect}
use Rattle.relay_core.specs.Runs.{Message, Turn, IsMadeBy, RunFrom, skipped_by, has_ended}
use Rattle.relay_core.specs.Shown.{shown}
use Rattle.relay_core.specs.declared.decision.Pass.{Pass}
use Rattle.relay_core.specs.declared.limits.TheConstants.{LONGEST_MESSAGE}
use Rattle.relay_law.specs.Carried.{IsOfKnown, AreOfKnown}
use Rattle.relay_law.specs.Chains.{Part, commits, nothing, effect_part, taken_part, part_in}
use Rattle.relay_law.specs.Laws.{RunsFollowKnown}
use Rattle.relay_law.specs.Right.{AreRight}
use Rattle.relay_law.proofs.Sounding.{accepted_taken, decided_did, later_none, links_none, taken_is}
use Rattle.account_state.proofs.Dids.{names_same}

pub some_name : (b : Bool) (q : Part) (m d : List ℕ) → cond b q nothing ≡ commits m d → (b ≡ true) × (q ≡ commits m d)
some_name true q m d h = (refl, h)
some_name false q m d h = absurd cc

quiet_effect : (kind : ℕ) (message : List ℕ) (x : Effect) (m d : List ℕ) → x ≡ Effect.Nothing → effect_part kind message x ≡ commits m d → ⊥
quiet_effect kind message x m d none h = let is : effect_part kind message x ≡ nothing = ap (λ (y : Effect). effect_part kind message y) none in absurd cc

quiet_no : (t : Taken) (f : Fetched) (m d : List ℕ) → t.effect ≡ Effect.Nothing → taken_part t f ≡ commits m d → ⊥
quiet_no t (Fetched.Whole w) m d none h = absurd cc
quiet_no t Fetched.NotAsked m d none h = quiet_effect t.kind t.message t.effect m d none h
quiet_no t Fetched.Absent m d none h = quiet_effect t.kind t.message t.effect m d none h
quiet_no t (Fetched.Refused n) m d none h = quiet_effect t.kind t.message t.effect m d none h

accepted_known : (checks : Checks) → AreRight checks → (n : ℕ) (a : State) (host : List ℕ) (e : Seen) (o : Outside) (m d : List ℕ) (rev : Option ℕ)
    → (body : Body) → e.body ≡ body → first_refusal (body_refusals checks a e body o (Some o.moment)) ≡ None → part_in (Row.Taken (accepted_taken checks n a host e o body)) ≡ commits m d → a.repo ≢ Repo.Lost rev
unfolding accepted_taken
accepted_known checks right n a host e o m d rev (Body.Commit c) body q h =
    λ lost. right.not_lost e c rev body (subst (λ (r : Repo). checks.links e r ≡ None) lost (links_none checks a e c o q))
accepted_known checks right n a host e o m d rev (Body.Sync s) body q h =
    elim (checks.opens e (last_rev a.repo)) as (λ x. effect_part 2 (out_of e (n + 1)) (head_effect (Some x)) ≡ commits m d → a.repo ≢ Repo.Lost rev) [ Ok head ↦ λ k. absurd cc | Err r ↦ λ k. absurd cc ] h
accepted_known checks right n a host e o m d rev Body.Identity body q h = absurd cc
accepted_known checks right n a host e o m d rev (Body.Account b) body q h = absurd cc

event_known : (checks : Checks) → AreRight checks → (n : ℕ) (a : State) (host : List ℕ) (e : Seen) (o : Outside) (m d : List ℕ) (rev : Option ℕ) → part_in (Row.Taken (decided_event checks n a host e o)) ≡ commits m d → a.repo ≢ Repo.Lost rev
unfolding accepted_taken
event_known checks right n a host e o m d rev =
    elim (refusal_of checks a e o) as (λ q. refusal_of checks a e o ≡ q → part_in (Row.Taken (event_row checks n a host e o (Some o.moment) q)) ≡ commits m d → a.repo ≢ Repo.Lost rev) [
      | Some r ↦ λ q h. let t = event_row checks n a host e o (Some o.moment) (Some r) in absurd (quiet_no t t.fetched m d refl h)
      | None ↦ λ q h. accepted_known checks right n a host e o m d rev e.body refl (later_none (when (nat_lt LONGEST_MESSAGE (out_length e)) Refusal.TooLong) (body_refusals checks a e e.body o (Some o.moment)) q) h
    ] refl

taken_known : (checks : Checks) → AreRight checks → (J : List Row) (host : List ℕ) (f : Frame) (t : Taken) → IsMadeBy checks J (host, Ok f) (Row.Taken t) → IsOfKnown J (Row.Taken t)
taken_known checks right J host (Frame.Event e) t made =
    let P : Taken → Type 0 = λ s. IsOfKnown J (Row.Taken s) in
    let s = decided_event checks (last_seq J) (account e.did J) host e (shown t) in
    subst P (taken_is s t made) (λ did m d rev h.
    let named : cond (names did e.did) (part_in (Row.Taken s)) nothing ≡ commits m d =
    subst (λ (x : List ℕ). cond (names did x) (part_in (Row.Taken s)) nothing ≡ commits m d) (decided_did checks (last_seq J) (account e.did J) host e (shown t)) h in
    let there = some_name (names did e.did) (part_in (Row.Taken s)) m d named in
    subst (λ (x : List ℕ). (account x J).repo ≢ Repo.Lost rev) (sym (names_same did e.did there.0)) (event_known checks right (last_seq J) (account e.did J) host e (shown t) m d rev there.1))
taken_known checks right J host (Frame.Faulty seq) t made =
    let P : Taken → Type 0 = λ s. IsOfKnown J (Row.Taken s) in
    let s = faulty_taken host seq (Some (shown t).moment) in
    subst P (taken_is s t made) (λ did m d rev h. absurd (quiet_no s s.fetched m d refl (some_name (names did []) (part_in (Row.Taken s)) m d h).1))
taken_known checks right J host Frame.Info t made = absurd cc
taken_known checks right J host Frame.Error t made = absurd cc
taken_known checks right J host Frame.Unknown t made = absurd cc

row_known : (checks : Checks) → AreRight checks → (J : List Row) (m : Message) (row : Row) → IsMadeBy checks J m row → IsOfKnown J row
row_known checks right J (host, Ok f) (Row.Taken t) made = taken_known checks right J host f t made
row_known checks right J (host, Ok f) (Row.Synced name whole moment) made = absurd made
row_known checks right J (host, Ok f) (Row.Operated o) made = absurd made
row_known checks right J (host, Ok f) (Row.Carried c) made = absurd made
row_known checks right J (host, Err fault) row made = absurd made

turned : (checks : Checks) → AreRight checks → (m : Message) (messages : List Message) → ((K : List Row) (ended : List (List ℕ)) (rows : List Row) → RunFrom checks K ended messages rows → AreOfKnown K rows)
    → (J : List Row) (ended : List (List ℕ)) (rows : List Row) (b : Bool) (p : Option Pass)
    → Turn b p (RunFrom checks J (m.0 ∷ ended) messages rows) (RunFrom checks J ended messages rows)
    ((row : Row) × (others : List Row) × (rows ≡ row ∷ others) × IsMadeBy checks J m row × RunFrom checks (J ++ row ∷ []) ended messages others)
    → AreOfKnown J rows
turned checks right m messages more J ended rows true p h = more J ended rows h
turned checks right m messages more J ended rows false (Some Pass.Ended) h = more J (m.0 ∷ ended) rows h
turned checks right m messages more J ended rows false (Some Pass.Old) h = more J ended rows h
turned checks right m messages more J ended rows false (Some Pass.Unknown) h = more J ended rows h
turned checks right m messages more J ended rows false (Some Pass.Info) h = more J ended rows h
turned checks right m messages more J ended rows false None (row, others, is, made, run) =
    let P : List Row → Type 0 = λ R. AreOfKnown J R in
    subst P (sym is) (row_known checks right J m row made, more (J ++ row ∷ []) ended others run)

run_known : (checks : Checks) → AreRight checks → (messages : List Message) (J : List Row) (ended : List (List ℕ)) (rows : List Row) → RunFrom checks J ended messages rows → AreOfKnown J rows
run_known checks right [] J ended rows h = subst (λ (R : List Row). AreOfKnown J R) (sym h) tt
run_known checks right (m ∷ messages) J ended rows h =
    turned checks right m messages (λ K F S k. run_known checks right messages K F S k) J ended rows (has_ended ended m.0) (skipped_by J m) h

pub runs_known : RunsFollowKnown
runs_known checks right J messages rows run = run_known checks right messages J [] rows run
