-- Each journal that commands make is given.
use Rattle.std.proofs.Common.{◌≡◌, inl, inr, ℕ, ◌+◌, true, List, [], ◌∷◌, ◌++◌, sym, ap, ◌∙◌, subst, append_assoc}
use Rattle.std.specs.List.{list_all, AllByRecursion}
use Rattle.std.specs.Prelude.{if◌then◌else◌}
use Rattle.std.proofs.lemmas.List.{append-nil}
use Rattle.relay_row.specs.Folds.{did_of_row, last_after, last_seq, names}
use Rattle.relay_row.specs.Journal.{is_carried_row}
use Rattle.relay_row.specs.declared.fetched.Whole.{Whole}
use Rattle.relay_row.specs.declared.operated.Operated.{Operated}
use Rattle.relay_row.specs.declared.row.Row.{Row}
use Rattle.relay_row.specs.declared.taken.Taken.{Taken}
use Rattle.relay_row.proofs.Journals.{lasts_joined}
use Rattle.account_state.specs.Folds.{account, last_rev, moved}
use Rattle.account_state.specs.State.{State}
use Rattle.account_state.proofs.Joined.{joined}
use Rattle.relay_core.specs.Decide.{Checks, whole_under, event_taken_at}
use Rattle.relay_core.specs.Operating.{operate_refusal, operated_as, sync_refusal}
use Rattle.relay_law.specs.Histories.{IsCut}
use Rattle.chain_law.specs.Given.{AreGiven, IsFoundOfRepository, IsGiven, IsOfEvent, IsOfRepository, IsOfSync, IsOfTakedown}
use Rattle.chain_law.specs.GivenLaws.{OwnJournalsAreGiven}
use Rattle.chain_law.specs.Made.{ChangesAccount, ComeByCommands, ComesByCommand, SyncsAccount, TakesMessages}
use Rattle.chain_law.proofs.Making.{joined_given, operated_given, steps_given, synced_given}

-- ---- behind another journal that comes to the same

record ComesToSame (J K : List Row) : Type 0 where
  accounts : (did : List ℕ) → account did J ≡ account did K
  last : last_seq J ≡ last_seq K

same_on : (J K : List Row) (row : Row) → ComesToSame J K → ComesToSame (J ++ row ∷ []) (K ++ row ∷ [])
same_on J K row same = record {
  accounts = λ did. joined did J (row ∷ []) ∙ ap (λ (a : State). if names did (did_of_row row) then moved a row else a) (same.accounts did) ∙ sym (joined did K (row ∷ []));
  last = lasts_joined J (row ∷ []) ∙ ap (λ (n : ℕ). last_after n row) same.last ∙ sym (lasts_joined K (row ∷ []));
}

event_behind : (checks : Checks) (J K : List Row) (t : Taken) → ComesToSame J K → IsOfEvent checks J t → IsOfEvent checks K t
event_behind checks J K t same g =
    let accounts = same.accounts g.event.did in
    record {
      host = g.host;
      event = g.event;
      outside = g.outside;
      moment = g.moment;
      read = g.read;
      fetched = subst (λ (a : State). IsFoundOfRepository g.event.did (last_rev a.repo) g.outside.fetched) accounts g.fetched;
      is = g.is ∙ ap (λ (a : State). event_taken_at checks (last_seq J) a g.host g.event g.outside g.moment) accounts
          ∙ ap (λ (n : ℕ). event_taken_at checks n (account g.event.did K) g.host g.event g.outside g.moment) same.last;
    }

sync_behind : (J K : List Row) (did : List ℕ) (whole : Whole) → ComesToSame J K → IsOfSync J did whole → IsOfSync K did whole
sync_behind J K did whole same g =
    let accounts = same.accounts did in
    record {
      time = g.time;
      short = g.short;
      allowed = sym (ap sync_refusal accounts) ∙ g.allowed;
      head = g.head;
      records = g.records;
      block = g.block;
      fetched = subst (λ (a : State). IsOfRepository did (last_rev a.repo) g.head g.block) accounts g.fetched;
      is = g.is ∙ ap (λ (n : ℕ). whole_under did g.time g.head g.records g.block (n + 1)) same.last;
    }

takedown_behind : (J K : List Row) (o : Operated) → ComesToSame J K → IsOfTakedown J o → IsOfTakedown K o
takedown_behind J K o same g =
    let accounts = same.accounts o.did in
    record {
      time = g.time;
      short = g.short;
      allowed = sym (ap (λ (a : State). operate_refusal a o.down) accounts) ∙ g.allowed;
      is = g.is ∙ ap (λ (a : State). operated_as (last_seq J) a o.did o.down g.time o.moment) accounts
          ∙ ap (λ (n : ℕ). operated_as n (account o.did K) o.did o.down g.time o.moment) same.last;
    }

row_behind : (checks : Checks) (J K : List Row) (row : Row) → ComesToSame J K → IsGiven checks J row → IsGiven checks K row
row_behind checks J K (Row.Taken t) same (inl g) = inl (event_behind checks J K t same g)
row_behind checks J K (Row.Taken t) same (inr g) = inr g
row_behind checks J K (Row.Synced did whole moment) same g = sync_behind J K did whole same g
row_behind checks J K (Row.Operated o) same g = takedown_behind J K o same g
row_behind checks J K (Row.Carried c) same g = tt

rows_behind : (checks : Checks) (rest J K : List Row) → ComesToSame J K → AreGiven checks J rest → AreGiven checks K rest
rows_behind checks [] J K same given = tt
rows_behind checks (row ∷ rest) J K same given =
    (row_behind checks J K row same given.0, rows_behind checks rest (J ++ row ∷ []) (K ++ row ∷ []) (same_on J K row same) given.1)

-- ---- fronts, and what stands behind them

front_given : (checks : Checks) (one two front : List Row) → AreGiven checks front (one ++ two) → AreGiven checks front one
front_given checks [] two front given = tt
front_given checks (row ∷ one) two front given = (given.0, front_given checks one two (front ++ row ∷ []) given.1)

rest_given : (checks : Checks) (one two front : List Row) → AreGiven checks front (one ++ two) → AreGiven checks (front ++ one) two
rest_given checks [] two front given = subst (λ (K : List Row). AreGiven checks K two) (sym (append-nil front)) given
rest_given checks (row ∷ one) two front given =
    subst (λ (K : List Row). AreGiven checks K two) (append_assoc front (row ∷ []) one) (rest_given checks one two (front ++ row ∷ []) given.1)

carried_given : (checks : Checks) (carried front : List Row) → list_all is_carried_row carried ≡ true → AreGiven checks front carried
carried_given checks [] front h = tt
carried_given checks (Row.Carried c ∷ rest) front h = (tt, carried_given checks rest (front ++ Row.Carried c ∷ []) h)
carried_given checks (Row.Taken t ∷ rest) front h = absurd cc
carried_given checks (Row.Synced did whole moment ∷ rest) front h = absurd cc
carried_given checks (Row.Operated o ∷ rest) front h = absurd cc

-- ---- one command

module _ (checks : Checks) (J K : List Row) (given : AreGiven checks [] J) where
  abbrev Given : List Row → Type 0
  Given rest = AreGiven checks [] rest

  messages_given : TakesMessages checks J K → Given K
  messages_given m =
      let all = steps_given checks m.clock_tells m.repos_tell J m.ended m.old m.new m.steps m.repositories m.messages given m.are m.asked in
      let parts = subst Given (ap (λ (more : List Row). J ++ more) m.made ∙ sym (append_assoc J m.held m.lost)) all in
      subst Given (sym m.now) (front_given checks (J ++ m.held) m.lost [] parts)

  row_added : (row : Row) → K ≡ J ++ row ∷ [] → IsGiven checks J row → Given K
  row_added row now g = subst Given (sym now) (joined_given checks J (row ∷ []) [] given (g, tt))

  changed_given : ChangesAccount J K → Given K
  changed_given m = row_added m.row m.now (operated_given checks J m.did m.down m.time m.moment m.row m.short m.made)

  synced_on : SyncsAccount J K → Given K
  synced_on m = row_added m.row m.now (synced_given checks m.old m.new J m.did m.time m.moment m.repository m.row m.short m.bytes m.made)

  pub cut_given : (number : ℕ) → IsCut J number K → Given K
  cut_given number cut =
      let same : ComesToSame cut.front cut.carried = record { accounts = λ did. sym (cut.over.accounts did); last = sym cut.last } in
      let others = rows_behind checks cut.others cut.front cut.carried same (rest_given checks cut.front cut.others [] (subst Given cut.whole given)) in
      subst Given (sym cut.now) (joined_given checks cut.carried cut.others [] (carried_given checks cut.carried [] cut.over.are_carried) others)

  command_given : ComesByCommand checks J K → Given K
  command_given (inl m) = messages_given m
  command_given (inr (inl m)) = changed_given m
  command_given (inr (inr (inl m))) = synced_on m
  command_given (inr (inr (inr cut))) = cut_given cut.0 cut.1

-- ---- all of them

all_given : (checks : Checks) (journals : List (List Row)) (J : List Row) → AreGiven checks [] J → ComeByCommands checks J journals → AllByRecursion (λ K. AreGiven checks [] K) journals
all_given checks [] J given come = tt
all_given checks (K ∷ journals) J given come =
    let next = command_given checks J K given come.0 in
    (next, all_given checks journals K next come.1)

pub journals_given : OwnJournalsAreGiven
journals_given checks journals come = all_given checks journals [] tt come
