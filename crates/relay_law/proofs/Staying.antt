-- The journals that a relay writes are faithful.
use Rattle.std.proofs.Common.{◌≡◌, ℕ, Bool, true, false, ◌||◌, List, [], ◌∷◌, ◌++◌, Option, refl, ap, sym, ◌∙◌, subst, append_assoc}
use Rattle.std.proofs.lemmas.Bool.{eqb-true, true≢false}
use Rattle.std.proofs.lemmas.List.{append-nil}
use Rattle.std.proofs.Common.{cond}
use Rattle.std.specs.List.{list_all, list_any}
use Rattle.std.specs.Prelude.{◌==◌}
use Rattle.at_event.specs.declared.event.Body.{Body}
use Rattle.at_event.specs.declared.head.Head.{Head}
use Rattle.relay_row.specs.Folds.{names}
use Rattle.relay_row.specs.Journal.{IsJournal, is_carried_row}
use Rattle.relay_row.specs.declared.carried.Carried.{Carried}
use Rattle.relay_row.specs.declared.carried.CarriedRepo.{CarriedRepo}
use Rattle.relay_row.specs.declared.fetched.Fetched.{Fetched}
use Rattle.relay_row.specs.declared.row.Row.{Row}
use Rattle.relay_row.specs.declared.taken.Effect.{Effect}
use Rattle.relay_row.specs.declared.taken.Taken.{Taken}
use Rattle.relay_row.proofs.Journals.{fronts, no_rows}
use Rattle.account_state.specs.Folds.{account, account_after}
use Rattle.account_state.specs.State.{State}
use Rattle.account_state.specs.declared.repo.Repo.{Repo}
use Rattle.account_state.proofs.Joined.{joined}
use Rattle.commit_check.specs.Step.{lacks_prev}
use Rattle.relay_core.specs.Rows.{kind_number}
use Rattle.relay_law.specs.Calls.{as_read}
use Rattle.relay_law.specs.Carried.{AreOfKnown, IsOfKnown}
use Rattle.relay_law.specs.Chains.{carried_part, commits, nothing, rests, effect_part, part_in, taken_part}
use Rattle.relay_law.specs.Faithful.{IsFaithfulJournal, SendsEvent, SendsWhatItKeeps, SendWhatTheyKeep}
use Rattle.relay_law.specs.Sound.{IsSound}
use Rattle.relay_law.proofs.Carrying.{carried_sound}
use Rattle.relay_law.proofs.Choosing.{some_right}
use Rattle.relay_law.proofs.Growing.{fronts_sound}
use Rattle.relay_law.proofs.Known.{some_name}
use Rattle.relay_law.proofs.Own.{operators_faithful, synced_gives}
use Rattle.relay_law.proofs.Sent.{sent_events, stores_sound}
use Rattle.relay_law.proofs.Sounding.{operators_sound}
use Rattle.account_state.proofs.Dids.{names_same}
use Rattle.relay_law.specs.Heads.{GivesHead}
use Rattle.relay_law.specs.Laws.{JournalsStayFaithful}
use Rattle.relay_law.proofs.Giving.{runs_faithful}

sends_joined : (J xs ys : List Row) → SendWhatTheyKeep J xs → SendWhatTheyKeep (J ++ xs) ys → SendWhatTheyKeep J (xs ++ ys)
sends_joined J [] ys h g = let P : List Row → Type 0 = λ R. SendWhatTheyKeep R ys in subst P (append-nil J) g
sends_joined J (row ∷ xs) ys h g =
    let P : List Row → Type 0 = λ R. SendWhatTheyKeep R ys in
    (h.0, sends_joined (J ++ row ∷ []) xs ys h.1 (subst P (sym (append_assoc J (row ∷ []) xs)) g))

sends_front : (J xs ys : List Row) → SendWhatTheyKeep J (xs ++ ys) → SendWhatTheyKeep J xs
sends_front J [] ys h = tt
sends_front J (row ∷ xs) ys h = (h.0, sends_front (J ++ row ∷ []) xs ys h.1)

sends_back : (J xs ys : List Row) → SendWhatTheyKeep J (xs ++ ys) → SendWhatTheyKeep (J ++ xs) ys
sends_back J [] ys h = let P : List Row → Type 0 = λ R. SendWhatTheyKeep R ys in subst P (sym (append-nil J)) h
sends_back J (row ∷ xs) ys h =
    let P : List Row → Type 0 = λ R. SendWhatTheyKeep R ys in
    subst P (append_assoc J (row ∷ []) xs) (sends_back (J ++ row ∷ []) xs ys h.1)

-- ---- rows that carry a front over

one_moved : (J K : List Row) (row : Row) → ((did : List ℕ) → account did J ≡ account did K) → SendsWhatItKeeps J row → SendsWhatItKeeps K row
one_moved J K (Row.Taken t) same h = let P : State → Type 0 = λ a. SendsEvent a.repo t t.effect in (subst P (same t.did) h.0, h.1)
one_moved J K (Row.Synced did whole moment) same h = h
one_moved J K (Row.Operated o) same h = h
one_moved J K (Row.Carried c) same h = tt

account_more : (did : List ℕ) (J : List Row) (row : Row) → account did (J ++ row ∷ []) ≡ account_after did (account did J) row
account_more did J row = joined did J (row ∷ [])

sends_moved : (J K rows : List Row) → ((did : List ℕ) → account did J ≡ account did K) → SendWhatTheyKeep J rows → SendWhatTheyKeep K rows
sends_moved J K [] same h = tt
sends_moved J K (row ∷ rows) same h = (
  one_moved J K row same h.0,
  sends_moved (J ++ row ∷ []) (K ++ row ∷ []) rows (λ did. account_more did J row ∙ ap (λ (a : State). account_after did a row) (same did) ∙ sym (account_more did K row)) h.1,
)

carried_send : (J rows : List Row) → list_all is_carried_row rows ≡ true → SendWhatTheyKeep J rows
carried_send J [] h = tt
carried_send J (Row.Carried c ∷ rows) h = (tt, carried_send (J ++ Row.Carried c ∷ []) rows h)
carried_send J (Row.Taken t ∷ rows) h = absurd cc
carried_send J (Row.Synced did whole moment ∷ rows) h = absurd cc
carried_send J (Row.Operated o ∷ rows) h = absurd cc

-- ---- an accepted commit isn't of an account that was lost

or_false : (a b : Bool) → a || b ≡ false → a ≡ false
or_false true b h = absurd cc
or_false false b h = refl

lost_gives : (rev : Option ℕ) (repo : Repo) (head : Head) (body : Body) → kind_number body ≡ 1 → repo ≡ Repo.Lost rev → GivesHead repo head body → ⊥
lost_gives rev repo head (Body.Commit c) kind lost h =
    let P : Repo → Type 0 = λ r. GivesHead r head (Body.Commit c) in
    true≢false (or_false true (list_any lacks_prev c.ops) (subst P lost h).no_gap)
lost_gives rev repo head (Body.Sync y) kind lost h = absurd cc
lost_gives rev repo head Body.Identity kind lost h = absurd h
lost_gives rev repo head (Body.Account a) kind lost h = absurd h

commit_kind : (k : ℕ) (m d n r : List ℕ) → cond (k == 1) (commits n r) (rests r) ≡ commits m d → k ≡ 1
commit_kind k m d n r =
    elim (k == 1) as (λ b. k == 1 ≡ b → cond b (commits n r) (rests r) ≡ commits m d → k ≡ 1) [ true ↦ λ e h. eqb-true k 1 e | false ↦ λ e h. absurd cc ] refl

effect_known : (repo : Repo) (t : Taken) (x : Effect) (m d : List ℕ) (rev : Option ℕ) → SendsEvent repo t x → effect_part t.kind t.message x ≡ commits m d → repo ≡ Repo.Lost rev → ⊥
effect_known repo t Effect.Nothing m d rev h part lost = absurd cc
effect_known repo t (Effect.Account active status) m d rev h part lost = absurd cc
effect_known repo t (Effect.Repo head) m d rev h part lost =
    lost_gives rev repo head h.event.body (h.says.0 ∙ commit_kind t.kind m d t.message head.data_root part) lost h.says.1

taken_known : (repo : Repo) (t : Taken) (f : Fetched) (m d : List ℕ) (rev : Option ℕ) → SendsEvent repo t t.effect → taken_part t f ≡ commits m d → repo ≡ Repo.Lost rev → ⊥
taken_known repo t (Fetched.Whole w) m d rev h part lost = absurd cc
taken_known repo t Fetched.NotAsked m d rev h part lost = effect_known repo t t.effect m d rev h part lost
taken_known repo t Fetched.Absent m d rev h part lost = effect_known repo t t.effect m d rev h part lost
taken_known repo t (Fetched.Refused n) m d rev h part lost = effect_known repo t t.effect m d rev h part lost

no_commit : (repo : CarriedRepo) (m d : List ℕ) → carried_part repo ≡ commits m d → ⊥
no_commit CarriedRepo.Missing m d h = absurd cc
no_commit (CarriedRepo.Good head) m d h = absurd cc
no_commit (CarriedRepo.Lost rev) m d h = absurd cc

row_known : (J : List Row) (row : Row) → SendsWhatItKeeps J row → IsOfKnown J row
row_known J (Row.Taken t) h did m d rev part lost =
    let there = some_name (names did t.did) (part_in (Row.Taken t)) m d part in
    let P : List ℕ → Type 0 = λ x. (account x J).repo ≡ Repo.Lost rev in
    taken_known (account t.did J).repo t t.fetched m d rev h.0 there.1 (subst P (names_same did t.did there.0) lost)
row_known J (Row.Synced name whole moment) h did m d rev part lost = let there = (some_name (names did name) (part_in (Row.Synced name whole moment)) m d part).1 in absurd cc
row_known J (Row.Operated o) h did m d rev part lost = let there = (some_name (names did o.did) (part_in (Row.Operated o)) m d part).1 in absurd cc
row_known J (Row.Carried (Carried.Last seq)) h did m d rev part lost = let there = (some_name (names did []) nothing m d part).1 in absurd cc
row_known J (Row.Carried (Carried.Host host n)) h did m d rev part lost = let there = (some_name (names did []) nothing m d part).1 in absurd cc
row_known J (Row.Carried (Carried.Account a)) h did m d rev part lost = no_commit a.repo m d (some_name (names did a.did) (carried_part a.repo) m d part).1

known : (J rows : List Row) → SendWhatTheyKeep J rows → AreOfKnown J rows
known J [] h = tt
known J (row ∷ rows) h = (row_known J row h.0, known (J ++ row ∷ []) rows h.1)

-- ---- what a relay does to its journal

none_faithful : IsFaithfulJournal []
none_faithful = record { journal = no_rows; sound = λ did. (tt, tt); sends = tt }

joins : (J rows : List Row) → IsJournal (J ++ rows) → IsSound (J ++ rows) → IsFaithfulJournal J → SendWhatTheyKeep J rows → IsFaithfulJournal (J ++ rows)
joins J rows journal sound is sends = record { journal = journal; sound = sound; sends = sends_joined [] J rows is.sends sends }

pub stay_faithful : JournalsStayFaithful
stay_faithful = record {
  none = none_faithful;
  run = λ J sent rows is bytes journal given run.
      let right = some_right in
      let made = run right.0 right.1 right.2 in
      joins J rows journal (stores_sound J sent rows bytes journal is.sound run) is
      (runs_faithful right.0 right.1 right.2 J (as_read sent) rows (sent_events sent bytes) journal given made);
  operated = λ J did down time moment is short journal.
      joins J _ journal (operators_sound.operated J _ is.sound) is (operators_faithful.operated J did down time moment short journal, tt);
  synced = λ J did time head records block moment is short gives journal.
      joins J _ journal (operators_sound.synced J did _ moment is.sound) is
      (synced_gives J did time head records block moment short gives journal, tt);
  cut = λ front others carried is over journal.
      record {
        journal = journal;
        sound = carried_sound front others carried is.journal is.sound (known front others (sends_back [] front others is.sends)) over;
        sends = sends_joined [] carried others (carried_send [] carried over.are_carried) (sends_moved front carried others (λ did. sym (over.accounts did)) (sends_back [] front others is.sends));
      };
  front = λ front others is.
      record { journal = fronts front others is.journal; sound = fronts_sound front others is.sound; sends = sends_front [] front others is.sends };
}
