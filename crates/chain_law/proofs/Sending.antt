-- What each row of a first relay sends out, and what that does to the account of a second.
use Rattle.std.proofs.Common.{◌≡◌, ◌⊎◌, inl, inr, ℕ, ◌+◌, ◌<◌, Bool, true, false, not, ◌&&◌, List, [], ◌∷◌, ◌++◌, Option, Some, None, Ok, codes, eqb, cond, refl, sym, ap, ◌∙◌, subst, arith}
use Rattle.std.proofs.lemmas.Bool.{and_parts, ltb-true, ne_eqb}
use Rattle.std.proofs.lemmas.Str.{IsUtf8-from_is_utf8}
use Rattle.at_cbor.specs.Encoding.{IsText}
use Rattle.at_syntax.specs.Did.{is_did}
use Rattle.at_event.specs.Events.{IsEvent}
use Rattle.at_event.specs.Formed.{IsShortText}
use Rattle.at_event.specs.Frames.{frame_of}
use Rattle.at_event.specs.Refusals.{code_of}
use Rattle.at_event.specs.Seen.{Seen}
use Rattle.at_event.specs.Writing.{event_message, numbered, out_of, sync_payload, sync_seen, account_seen}
use Rattle.at_event.specs.declared.event.Body.{Body}
use Rattle.at_event.specs.declared.frame.Frame.{Frame}
use Rattle.at_event.specs.declared.head.Head.{Head}
use Rattle.at_event.specs.declared.kind.EventKind.{EventKind}
use Rattle.at_event.specs.declared.refusal.Refusal.{Refusal}
use Rattle.at_event.proofs.Formed.{events_formed}
use Rattle.at_event.proofs.Messages.{out_again}
use Rattle.at_event.proofs.OwnEvents.{account_read, sync_again}
use Rattle.relay_row.specs.Folds.{did_of_row, events_of, events_in, last_seq}
use Rattle.relay_row.specs.Journal.{IsJournal, is_carried_row}
use Rattle.relay_row.specs.Rules.{is_cid, is_head, is_message, is_node, is_number, is_positive, is_rev, is_moment, is_status, is_whole, is_operated, is_row, is_taken, is_timed, loses, names_did}
use Rattle.relay_row.specs.declared.carried.Carried.{Carried}
use Rattle.relay_row.specs.declared.fetched.Fetched.{Fetched}
use Rattle.relay_row.specs.declared.fetched.Whole.{Whole}
use Rattle.at_cid.specs.declared.limits.TheConstants.{NUMBERS}
use Rattle.relay_row.specs.declared.operated.Operated.{Operated}
use Rattle.relay_row.specs.declared.row.Row.{Row}
use Rattle.relay_row.specs.declared.taken.Effect.{Effect}
use Rattle.relay_row.specs.declared.taken.Taken.{Taken}
use Rattle.relay_row.proofs.Journals.{fronts, grew}
use Rattle.relay_row.proofs.Fits.{FitsFetched, message_fits, rev_fits, taken_fits}
use Rattle.account_state.specs.Folds.{account, effected, last_rev, lost, moved, refetched}
use Rattle.account_state.specs.State.{State}
use Rattle.account_state.specs.declared.repo.Repo.{Repo}
use Rattle.relay_core.specs.Decide.{Checks, Outside, Found, absent, unfit, found, commit_car, fetched_as, sync_message, whole_under, is_held, when, refusal_at, event_row, event_taken_at}
use Rattle.relay_core.specs.Opening.{OpensRight}
use Rattle.relay_core.specs.Operating.{operated_message}
use Rattle.relay_core.specs.Rows.{effect_of}
use Rattle.relay_core.proofs.Agreeing.{event_told}
use Rattle.relay_law.specs.Right.{LinksRight}
use Rattle.relay_law.proofs.Heads.{accounts_are_formed}
use Rattle.relay_law.proofs.Own.{did_named, number_below, status_is, sync_blocks, takendown}
use Rattle.chain_law.specs.Chained.{is_raised, raises, fetch_raises}
use Rattle.chain_law.specs.Given.{IsOfRepository, IsFoundOfRepository, IsOfEvent, IsOfFaulty, IsOfSync, IsOfTakedown, IsGiven}
use Rattle.chain_law.proofs.Own.{sync_carries, down_carries, up_carries}
use Rattle.chain_law.proofs.Renumbered.{carried_on}
use Rattle.chain_law.specs.Again.{Trails}
use Rattle.chain_law.proofs.Trailing.{Carries, accepted_shows, lost_active}

-- ---- the relay's own `#sync` is read as it was written

whole_read : (did time : List ℕ) (head : Head) (records : ℕ) (block : List ℕ) (n : ℕ) → IsText did → is_did did ≡ true → IsShortText time → is_whole (whole_under did time head records block n) ≡ true
    → frame_of (sync_message did time head block n) ≡ Ok (Frame.Event (sync_seen did head.rev (commit_car head block) time n))
unfolding is_whole sync_message
whole_read did time head records block n text is short formed =
    let car = commit_car head block in
    let message = event_message EventKind.Sync (sync_payload did head.rev car time n) in
    let one = and_parts (is_positive n) (is_head head && (is_number records && is_message message)) formed in
    let two = and_parts (is_head head) (is_number records && is_message message) one.1 in
    let rev = rev_fits head.rev (and_parts (is_rev head.rev) (is_node head.data_root && is_cid head.commit) two.0).0 in
    let blocks = sync_blocks did head.rev car time n (message_fits message (and_parts (is_number records) (is_message message) two.1).1) in
    sync_again did head.rev car time n text.0 (IsUtf8-from_is_utf8 did text.1) is rev blocks short.text.0 (IsUtf8-from_is_utf8 time short.text.1) short.short (number_below n one.0)

-- ---- a row that sends nothing, and one that does

-- nothing is sent out, and what trails the account still does behind it
pub record IsQuiet (carried : Bool) (a after : State) (sent : List (ℕ × List ℕ)) : Type 0 where
  pub none : sent ≡ []
  pub stays : carried ≡ false → (b : State) → Trails a b → Trails after b

-- an event is sent out under the next number, and carries what happened on
pub record Sends (checks : Checks) (last : ℕ) (did : List ℕ) (raised : Bool) (a after : State) (sent : List (ℕ × List ℕ)) : Type 0 where
  pub message : List ℕ
  pub event : Seen
  pub is : sent ≡ (last + 1, message) ∷ []
  pub reads : frame_of message ≡ Ok (Frame.Event event)
  pub did_is : event.did ≡ did
  pub seq_is : event.seq ≡ last + 1
  pub carries : raised ≡ true → Carries checks a after event

abbrev pub Tells : Checks → ℕ → List ℕ → Bool → Bool → State → State → List (ℕ × List ℕ) → Type 0
Tells checks last did carried raised a after sent = IsQuiet carried a after sent ⊎ Sends checks last did raised a after sent

-- ---- messages of hosts

positive : (last : ℕ) (message : List ℕ) (others : List (ℕ × List ℕ)) → cond (eqb (last + 1) 0) others ((last + 1, message) ∷ []) ≡ (last + 1, message) ∷ []
positive last message others = rw (ne_eqb (last + 1) 0 (λ zero. omega (arith, zero))) refl

-- an account that is taken down is shown inactive, whatever its host says
held_trails : (a b : State) (active : Bool) (status : Option (List ℕ)) → a.down ≡ true → Trails a b → Trails (effected a (Effect.Account active status)) b
held_trails a b active status down t =
    let off : (x : Bool) → (x && not a.down) ≡ false = λ x. ap (λ (d : Bool). x && not d) down ∙ elim x as (λ y. (y && false) ≡ false) [ true ↦ refl | false ↦ refl ] in
    record { active = t.active ∙ off a.active ∙ sym (off active); up = t.up; rev = t.rev; repo = t.repo }

held_stays : (checks : Checks) (a b : State) (e : Seen) (body : Body) → is_held a body ≡ true → Trails a b → Trails (effected a (effect_of body (Some (checks.opens e (last_rev a.repo))))) b
held_stays checks a b e (Body.Commit c) held t = absurd cc
held_stays checks a b e (Body.Sync s) held t = absurd cc
held_stays checks a b e Body.Identity held t = absurd cc
held_stays checks a b e (Body.Account c) held t = held_trails a b c.active c.status held t

lost_trails : (a b : State) → Trails a b → Trails (record a { repo = Repo.Lost (last_rev a.repo) }) b
lost_trails a b t = record { active = t.active; up = t.up; rev = t.rev; repo = λ known. absurd (known (last_rev a.repo) refl) }

module _ (checks : Checks) (opens : OpensRight checks) (links : LinksRight checks) where
  module _ (last : ℕ) (a : State) (host : List ℕ) (e : Seen) (read : IsEvent e) (o : Outside) (m : Option ℕ) where
    abbrev taken_for : Option Refusal → Taken
    taken_for q = event_row checks last a host e o m q

    abbrev TellsFor : Taken → Type 0
    TellsFor t = Tells checks last e.did false (raises (last_rev a.repo) (Row.Taken t)) a (moved a (Row.Taken t)) (events_in (Row.Taken t))

    accepted_tells : refusal_at checks a e o m ≡ None → is_number (taken_for None).seq ≡ true → TellsFor (taken_for None)
    accepted_tells none =
        let after = effected a (effect_of e.body (Some (checks.opens e (last_rev a.repo)))) in
        elim (is_held a e.body) as (λ h. is_held a e.body ≡ h → is_number (cond h 0 (last + 1)) ≡ true
        → Tells checks last e.did false true a after (cond (eqb (cond h 0 (last + 1)) 0) [] ((cond h 0 (last + 1), cond h [] (out_of e (last + 1))) ∷ []))) [
          | true ↦ λ held number. inl (record { none = refl; stays = λ own b t. held_stays checks a b e e.body held t })
          | false ↦ λ held number.
              let below = ltb-true (last + 1) NUMBERS number in
              inr (record {
                message = out_of e (last + 1);
                event = numbered e (last + 1);
                is = positive last (out_of e (last + 1)) [];
                reads = out_again e (last + 1) below read;
                did_is = refl;
                seq_is = refl;
                carries = λ raised. carried_on checks opens links e read (last + 1) below a (accepted_shows checks a e o m none) held;
              })
        ] refl

    whole_tells : (r : Refusal) → refusal_at checks a e o m ≡ Some r → loses (code_of r) ≡ true → (head : Head) (records : ℕ) (block : List ℕ) → IsOfRepository e.did (last_rev a.repo) head block
        → is_whole (whole_under e.did e.time head records block (last + 1)) ≡ true → (raised : Bool) → (raised ≡ true → is_raised (last_rev a.repo) head.rev ≡ true) → (after : State) → after.active ≡ a.active → after.down ≡ a.down → after.repo ≡ Repo.Good head
        → Sends checks last e.did raised a after ((last + 1, sync_message e.did e.time head block (last + 1)) ∷ [])
    whole_tells r refused lost head records block some formed raised up after same_active same_down same_repo =
        let forms = events_formed e read in
        let stands = lost_active checks a e o m r refused lost in
        record {
          message = sync_message e.did e.time head block (last + 1);
          event = sync_seen e.did head.rev (commit_car head block) e.time (last + 1);
          is = refl;
          reads = whole_read e.did e.time head records block (last + 1) forms.did_text forms.did forms.time formed;
          did_is = refl;
          seq_is = refl;
          carries = λ h. sync_carries checks opens e.did head block e.time (last + 1) forms.did forms.time.short a after (last_rev a.repo) some (up h) stands.0 stands.1 same_active same_down same_repo;
        }

    lost_tells : (r : Refusal) → refusal_at checks a e o m ≡ Some r → loses (code_of r) ≡ true → (f : Found) → IsFoundOfRepository e.did (last_rev a.repo) f → FitsFetched (is_timed m) (fetched_as last e f)
        → Tells checks last e.did false (fetch_raises (last_rev a.repo) (fetched_as last e f)) a (refetched (record a { repo = Repo.Lost (last_rev a.repo) }) (fetched_as last e f)) (events_of (fetched_as last e f))
    lost_tells r refused lost absent some fits = inl (record { none = refl; stays = λ own b t. lost_trails a b t })
    lost_tells r refused lost (unfit n) some fits = inl (record { none = refl; stays = λ own b t. lost_trails a b t })
    lost_tells r refused lost (found head records block) some fits =
        inr (whole_tells r refused lost head records block some fits (is_raised (last_rev a.repo) head.rev) (λ h. h) (record a { repo = Repo.Good head }) refl refl refl)

    refused_tells : (r : Refusal) → refusal_at checks a e o m ≡ Some r → IsFoundOfRepository e.did (last_rev a.repo) o.fetched → FitsFetched (is_timed m) (taken_for (Some r)).fetched → TellsFor (taken_for (Some r))
    refused_tells r refused some =
        let f = fetched_as last e o.fetched in
        elim (loses (code_of r)) as (λ b. loses (code_of r) ≡ b → FitsFetched (is_timed m) (cond b f Fetched.NotAsked)
        → Tells checks last e.did false (fetch_raises (last_rev a.repo) (cond b f Fetched.NotAsked)) a (refetched (cond b (record a { repo = Repo.Lost (last_rev a.repo) }) a) (cond b f Fetched.NotAsked)) (events_of (cond b f Fetched.NotAsked))) [
          | true ↦ λ lost fits. lost_tells r refused lost o.fetched some fits
          | false ↦ λ kept fits. inl (record { none = refl; stays = λ own b t. t })
        ] refl

    event_tells : IsFoundOfRepository e.did (last_rev a.repo) o.fetched → is_taken (event_taken_at checks last a host e o m) ≡ true → TellsFor (event_taken_at checks last a host e o m)
    event_tells some =
        elim (refusal_at checks a e o m) as (λ q. refusal_at checks a e o m ≡ q → is_taken (taken_for q) ≡ true → TellsFor (taken_for q)) [
          | None ↦ λ is formed. accepted_tells is (taken_fits (taken_for None) formed).seq
          | Some r ↦ λ is formed. refused_tells r is some (taken_fits (taken_for (Some r)) formed).fetched
        ] refl

  -- ---- rows

  abbrev TellsOf : List Row → Row → Type 0
  TellsOf J row =
      Tells checks (last_seq J) (did_of_row row) (is_carried_row row) (raises (last_rev (account (did_of_row row) J).repo) row) (account (did_of_row row) J) (moved (account (did_of_row row) J) row) (events_in row)

  taken_tells : (J : List Row) (t : Taken) → is_taken t ≡ true → IsOfEvent checks J t → TellsOf J (Row.Taken t)
  taken_tells J t formed g =
      let P : Taken → Type 0 = λ s. TellsOf J (Row.Taken s) in
      let F : Taken → Type 0 = λ s. is_taken s ≡ true in
      let a = account g.event.did J in
      let made = event_taken_at checks (last_seq J) a g.host g.event g.outside g.moment in
      let told = event_told checks (last_seq J) a g.host g.event g.outside g.moment (refusal_at checks a g.event g.outside g.moment) in
      let D : List ℕ → Type 0 = λ did.
      Tells checks (last_seq J) did false (raises (last_rev (account did J).repo) (Row.Taken made)) (account did J) (moved (account did J) (Row.Taken made)) (events_in (Row.Taken made)) in
      subst P (sym g.is) (subst D (sym told.did) (event_tells (last_seq J) a g.host g.event g.read g.outside g.moment g.fetched (subst F g.is formed)))

  faulty_tells : (J : List Row) (t : Taken) → IsOfFaulty t → TellsOf J (Row.Taken t)
  faulty_tells J t g =
      let P : Taken → Type 0 = λ s. TellsOf J (Row.Taken s) in
      subst P (sym g.is) (inl (record { none = refl; stays = λ own b t. t }))

  allowed_active : (x y : Bool) → cond x (when y Refusal.TakenDown) (Some Refusal.Inactive) ≡ None → (x ≡ true) × (y ≡ false)
  allowed_active true true h = absurd cc
  allowed_active true false h = (refl, refl)
  allowed_active false y h = absurd cc

  synced_tells : (J : List Row) (did : List ℕ) (w : Whole) (moment : Option ℕ) → names_did did ≡ true → is_whole w ≡ true → IsOfSync J did w → TellsOf J (Row.Synced did w moment)
  synced_tells J did w moment of_did formed g =
      let last = last_seq J in
      let a = account did J in
      let named = did_named did of_did in
      let stands = allowed_active a.active a.down g.allowed in
      let P : Whole → Type 0 = λ x. Tells checks last did false (is_raised (last_rev a.repo) x.head.rev) a (record a { repo = Repo.Good x.head }) ((x.seq, x.message) ∷ []) in
      let F : Whole → Type 0 = λ x. is_whole x ≡ true in
      subst P (sym g.is) (inr (record {
        message = sync_message did g.time g.head g.block (last + 1);
        event = sync_seen did g.head.rev (commit_car g.head g.block) g.time (last + 1);
        is = refl;
        reads = whole_read did g.time g.head g.records g.block (last + 1) named.0 named.1 g.short (subst F g.is formed);
        did_is = refl;
        seq_is = refl;
        carries = λ h. sync_carries checks opens did g.head g.block g.time (last + 1) named.1 g.short.short a (record a { repo = Repo.Good g.head }) (last_rev a.repo) g.fetched h stands.0 stands.1 refl refl refl;
      }))

  command_tells : (last : ℕ) (a : State) (did time : List ℕ) (seq : ℕ) (message : List ℕ) → is_status a.status ≡ true → names_did did ≡ true → IsShortText time → last + 1 < NUMBERS → seq ≡ last + 1
      → (down : Bool) → message ≡ operated_message a down did time (last + 1) → Tells checks last did false true a (record a { down = down }) ((seq, message) ∷ [])
  command_tells last a did time seq message status of_did short below next true is =
      let named = did_named did of_did in
      let gone = Some (codes "takendown") in
      inr (record {
        message = message;
        event = account_seen did false gone time (last + 1);
        is = ap (λ (n : ℕ). (n, message) ∷ []) next;
        reads = ap frame_of is ∙ account_read did false time (last + 1) named.0.0 (IsUtf8-from_is_utf8 did named.0.1) named.1 short.text.0 (IsUtf8-from_is_utf8 time short.text.1) short.short below gone takendown;
        did_is = refl;
        seq_is = refl;
        carries = λ h. down_carries checks did time (last + 1) named.1 short.short a;
      })
  command_tells last a did time seq message status of_did short below next false is =
      let named = did_named did of_did in
      let known = status_is a.status status in
      inr (record {
        message = message;
        event = account_seen did a.active a.status time (last + 1);
        is = ap (λ (n : ℕ). (n, message) ∷ []) next;
        reads = ap frame_of is ∙ account_read did a.active time (last + 1) named.0.0 (IsUtf8-from_is_utf8 did named.0.1) named.1 short.text.0 (IsUtf8-from_is_utf8 time short.text.1) short.short below a.status known;
        did_is = refl;
        seq_is = refl;
        carries = λ h. up_carries checks did time (last + 1) named.1 short.short a known;
      })

  operated_tells : (J : List Row) (o : Operated) → IsJournal J → is_operated o ≡ true → IsOfTakedown J o → TellsOf J (Row.Operated o)
  unfolding is_operated
  operated_tells J o journal formed g =
      let last = last_seq J in
      let a = account o.did J in
      let one = and_parts (names_did o.did) (is_positive o.seq && (is_message o.message && is_moment o.moment)) formed in
      let two = and_parts (is_positive o.seq) (is_message o.message && is_moment o.moment) one.1 in
      let next : o.seq ≡ last + 1 = ap (λ (x : Operated). x.seq) g.is in
      let below : last + 1 < NUMBERS = subst (λ (n : ℕ). n < NUMBERS) next (number_below o.seq two.0) in
      command_tells last a o.did g.time o.seq o.message (accounts_are_formed o.did J journal).status one.0 g.short below next o.down (ap (λ (x : Operated). x.message) g.is)

  -- each row that is given tells nothing, or carries on what it does
  pub row_tells : (J : List Row) (row : Row) → IsJournal (J ++ row ∷ []) → IsGiven checks J row → TellsOf J row
  unfolding is_row
  row_tells J (Row.Taken t) journal (inl g) = taken_tells J t (grew J (Row.Taken t) journal).0 g
  row_tells J (Row.Taken t) journal (inr g) = faulty_tells J t g
  row_tells J (Row.Synced did w moment) journal g =
      let formed = and_parts (names_did did) (is_whole w && is_moment moment) (grew J (Row.Synced did w moment) journal).0 in
      synced_tells J did w moment formed.0 (and_parts (is_whole w) (is_moment moment) formed.1).0 g
  row_tells J (Row.Operated o) journal g = operated_tells J o (fronts J (Row.Operated o ∷ []) journal) (grew J (Row.Operated o) journal).0 g
  row_tells J (Row.Carried (Carried.Last seq)) journal g = inl (record { none = refl; stays = λ own. absurd cc })
  row_tells J (Row.Carried (Carried.Host host n)) journal g = inl (record { none = refl; stays = λ own. absurd cc })
  row_tells J (Row.Carried (Carried.Account c)) journal g = inl (record { none = refl; stays = λ own. absurd cc })
