-- What a row makes of the open chain, and its message of what is held.
use Rattle.std.proofs.Common.{◌≡◌, ℕ, Bool, true, false, not, ◌&&◌, ◌||◌, cond, List, [], ◌∷◌, Option, Some, None, Ok, refl, sym, subst, arith}
use Rattle.std.proofs.lemmas.Bool.{and_parts, eqb-true}
use Rattle.std.proofs.lemmas.Bool.Decides.{nat_tests}
use Rattle.std.specs.Prelude.{◌==◌, nat_lt}
use Rattle.at_event.specs.Events.{IsEvent}
use Rattle.at_event.specs.Frames.{frame_of}
use Rattle.at_event.specs.Refusals.{code_of}
use Rattle.at_event.specs.Seen.{Seen}
use Rattle.at_event.specs.declared.event.Body.{Body}
use Rattle.at_event.specs.declared.frame.Frame.{Frame}
use Rattle.at_event.specs.declared.head.Head.{Head}
use Rattle.at_event.specs.declared.refusal.Refusal.{Refusal}
use Rattle.at_event.proofs.Formed.{frames_events}
use Rattle.backfill.specs.Served.{messages_of}
use Rattle.relay_row.specs.Folds.{did_of_row, events_in, events_of}
use Rattle.relay_row.specs.Rules.{are_bytes, is_row, is_accepted, is_refused, is_decided, is_detail, is_effect, is_fetched, is_nothing, is_timed, is_positive, is_number, is_message, is_string, is_empty, loses}
use Rattle.relay_row.specs.declared.carried.Carried.{Carried}
use Rattle.relay_row.specs.declared.carried.CarriedAccount.{CarriedAccount}
use Rattle.relay_row.specs.declared.carried.CarriedRepo.{CarriedRepo}
use Rattle.relay_row.specs.declared.fetched.Fetched.{Fetched}
use Rattle.relay_row.specs.declared.fetched.Whole.{Whole}
use Rattle.relay_row.specs.declared.row.Row.{Row}
use Rattle.relay_row.specs.declared.taken.Effect.{Effect}
use Rattle.relay_row.specs.declared.taken.Taken.{Taken}
use Rattle.relay_row.proofs.Bytes.{tested_bytes}
use Rattle.std.specs.Bool.{beq}
use Rattle.std.specs.Prelude.{length, nat_le, ◌^◌}
use Rattle.account_state.specs.Folds.{account, effected, last_rev, lost, moved, refetched, repo_carried}
use Rattle.account_state.specs.State.{State}
use Rattle.account_state.specs.declared.repo.Repo.{Repo}
use Rattle.relay_core.specs.Rows.{kind_number}
use Rattle.relay_law.specs.Chains.{commits, rests, carried_part, effect_part, part_in, taken_part}
use Rattle.relay_law.specs.Faithful.{HoldsOfWhole, SendsEvent, SendsSync, SendsWhatItKeeps}
use Rattle.relay_law.proofs.Reading.{EventRead}
use Rattle.relay_law.proofs.Sounding.{decided_formed}
use Rattle.relay_law.proofs.Tracking.{is_account}
use Rattle.mirror.specs.Held.{IsHeldFrom}
use Rattle.mirror.specs.Repository.{Repositories}
use Rattle.mirror.specs.declared.holding.Holding.{Holding}
use Rattle.relay_core.specs.Opening.{IsHeadOf}
use Rattle.relay_law.specs.Heads.{GivesHead}
use Rattle.mirror_law.specs.Open.{OpenChain, base, opened_by}
use Rattle.mirror_law.proofs.After.{after_own}
use Rattle.mirror_law.proofs.Sends.{nonzero}
use Rattle.mirror_law.proofs.Stepped.{HoldsChain, commit_step, sync_step}

-- ---- what a row that was accepted has, and one that was refused

none_fetched : (timed : Bool) (f : Fetched) → is_fetched false timed f ≡ true → f ≡ Fetched.NotAsked
none_fetched timed Fetched.NotAsked h = refl
none_fetched timed Fetched.Absent h = absurd cc
none_fetched timed (Fetched.Refused n) h = absurd cc
none_fetched timed (Fetched.Whole w) h = absurd cc

none_done : (x : Effect) → is_nothing x ≡ true → x ≡ Effect.Nothing
none_done Effect.Nothing h = refl
none_done (Effect.Repo head) h = absurd cc
none_done (Effect.Account active status) h = absurd cc

record IsAccepted (t : Taken) : Type 0 where
  effect : is_effect t.kind t.effect ≡ true
  fetched : t.fetched ≡ Fetched.NotAsked
  sends : (is_positive t.seq && is_message t.message) || (t.kind == 4 && (t.seq == 0 && is_empty t.message)) ≡ true

accepted : (t : Taken) → is_accepted t ≡ true → IsAccepted t
unfolding is_accepted
accepted t is =
    let sent : Bool = (is_positive t.seq && is_message t.message) || (t.kind == 4 && (t.seq == 0 && is_empty t.message)) in
    let one = and_parts (is_effect t.kind t.effect) (is_fetched false (is_timed t.moment) t.fetched && sent) is in
    let two = and_parts (is_fetched false (is_timed t.moment) t.fetched) sent one.1 in
    record { effect = one.0; fetched = none_fetched (is_timed t.moment) t.fetched two.0; sends = two.1 }

record IsRefused (t : Taken) : Type 0 where
  effect : t.effect ≡ Effect.Nothing
  silent : t.seq == 0 ≡ true

refused : (r : Refusal) (t : Taken) → is_refused r t ≡ true → IsRefused t
unfolding is_refused
refused r t is =
    let fetch : Bool = is_fetched (loses (code_of r)) (is_timed t.moment) t.fetched && (t.seq == 0 && is_empty t.message) in
    let quiet : Bool = is_nothing t.effect && fetch in
    let read : Bool = beq (t.kind == 0) (code_of r == 1) && quiet in
    let few : Bool = nat_le t.kind 4 && read in
    let known : Bool = nat_le (code_of r) 24 || (code_of r == 25 && is_timed t.moment) in
    let two = and_parts (is_detail r && known) few is in
    let three = and_parts (nat_le t.kind 4) read two.1 in
    let four = and_parts (beq (t.kind == 0) (code_of r == 1)) quiet three.1 in
    let five = and_parts (is_nothing t.effect) fetch four.1 in
    let six = and_parts (is_fetched (loses (code_of r)) (is_timed t.moment) t.fetched) (t.seq == 0 && is_empty t.message) five.1 in
    record { effect = none_done t.effect five.0; silent = (and_parts (t.seq == 0) (is_empty t.message) six.1).0 }

or_not : (p q : Bool) → p || q ≡ true → q ≡ false → p ≡ true
or_not true q h k = refl
or_not false q h k = absurd cc

-- an accepted event that isn't an `#account` goes out
record IsSent (t : Taken) : Type 0 where
  some : t.seq == 0 ≡ false
  event : (e : Seen) → frame_of t.message ≡ Ok (Frame.Event e) → IsEvent e

positive_some : (n : ℕ) → nat_lt 0 n ≡ true → n == 0 ≡ false
positive_some n h = grind (arith, nat_tests)

sent : (t : Taken) → IsAccepted t → t.kind == 4 ≡ false → IsSent t
sent t is other =
    let P : Bool → Type 0 = λ b. (b && (t.seq == 0 && is_empty t.message)) ≡ false in
    let goes = or_not (is_positive t.seq && is_message t.message) (t.kind == 4 && (t.seq == 0 && is_empty t.message)) is.sends (subst P (sym other) refl) in
    let both = and_parts (is_positive t.seq) (is_message t.message) goes in
    let string = and_parts (is_string t.message) (not (is_empty t.message)) both.1 in
    let bytes = and_parts (nat_lt (length t.message) (2 ^ 64)) (are_bytes t.message) string.0 in
    record {
      some = positive_some t.seq (and_parts (nat_lt 0 t.seq) (is_number t.seq) both.0).0;
      event = λ e reads. frames_events t.message e (tested_bytes t.message bytes.1) reads;
    }

-- ---- rows whose message leaves what is held

stays : (repositories : Repositories) (repo : Repo) (chain : OpenChain) (held next : Holding) → next ≡ held → HoldsChain repositories repo chain held → HoldsChain repositories repo chain next
stays repositories repo chain held next is follows = let P : Holding → Type 0 = λ x. HoldsChain repositories repo chain x in subst P (sym is) follows

-- an event that is no commit and no `#sync`
quiet : (repositories : Repositories) (did m : List ℕ) (e : Seen) (body : Body) (held next : Holding) → frame_of m ≡ Ok (Frame.Event e) → e.did ≡ did → e.body ≡ body → IsHeldFrom repositories did held (m ∷ []) next
    → kind_number body == 1 ≡ false → kind_number body == 2 ≡ false → next ≡ held
quiet repositories did m e (Body.Commit c) held next reads own says h one two = absurd cc
quiet repositories did m e (Body.Sync y) held next reads own says h one two = absurd cc
quiet repositories did m e Body.Identity held next reads own says h one two = after_own repositories did m e Body.Identity held next reads own says h
quiet repositories did m e (Body.Account a) held next reads own says h one two = after_own repositories did m e (Body.Account a) held next reads own says h

-- what a row of an event sends, by whether it has no number
abbrev sends_by : Bool → Taken → Fetched → List (List ℕ)
sends_by silent t f = messages_of (cond silent (events_of f) ((t.seq, t.message) ∷ []))

-- the message of an accepted event of another kind, if it goes out at all
own_quiet : (repositories : Repositories) (t : Taken) (held next : Holding) (silent : Bool) → t.seq == 0 ≡ silent → EventRead t → t.kind == 1 ≡ false → t.kind == 2 ≡ false
    → IsHeldFrom repositories t.did held (sends_by silent t Fetched.NotAsked) next → next ≡ held
own_quiet repositories t held next true is faithful one two h = h
own_quiet repositories t held next false is faithful one two h =
    let f = faithful (nonzero t.seq is) in
    let P : ℕ → ℕ → Type 0 = λ k n. n == k ≡ false in
    quiet repositories t.did t.message f.event f.event.body held next f.reads f.did_is refl h (subst (P 1) (sym f.says) one) (subst (P 2) (sym f.says) two)

-- ---- rows that state a repository anew

stated_by : (repositories : Repositories) (did : List ℕ) (w : Whole) (held next : Holding) (e : Seen) (body : Body) → frame_of w.message ≡ Ok (Frame.Event e) → e.did ≡ did → e.body ≡ body → kind_number body ≡ 2 → IsHeadOf body w.head
    → IsHeldFrom repositories did held (w.message ∷ []) next → HoldsChain repositories (Repo.Good w.head) (record { began = base w.head.data_root (w.message ∷ []); commits = [] }) next
stated_by repositories did w held next e (Body.Sync y) reads own says kind gives h =
    sync_step repositories next w.message w.head e y reads says gives.rev_is (after_own repositories did w.message e (Body.Sync y) held next reads own says h)
stated_by repositories did w held next e (Body.Commit c) reads own says kind gives h = absurd cc
stated_by repositories did w held next e Body.Identity reads own says kind gives h = absurd cc
stated_by repositories did w held next e (Body.Account a) reads own says kind gives h = absurd cc

stated : (repositories : Repositories) (did : List ℕ) (w : Whole) (held next : Holding) → SendsSync did w → IsHeldFrom repositories did held (w.message ∷ []) next
    → HoldsChain repositories (Repo.Good w.head) (record { began = base w.head.data_root (w.message ∷ []); commits = [] }) next
stated repositories did w held next r h = stated_by repositories did w held next r.event r.event.body r.reads r.did_is refl r.says.0 r.says.1 h

-- ---- an accepted event

given : (repositories : Repositories) (t : Taken) (repo : Repo) (head : Head) (chain : OpenChain) (held next : Holding) (e : Seen) (body : Body) → IsEvent e → frame_of t.message ≡ Ok (Frame.Event e) → e.did ≡ t.did → e.body ≡ body
    → GivesHead repo head body → HoldsChain repositories repo chain held → IsHeldFrom repositories t.did held (t.message ∷ []) next
    → HoldsChain repositories (Repo.Good head) (opened_by (cond (kind_number body == 1) (commits t.message head.data_root) (rests head.data_root)) (t.message ∷ []) chain) next
given repositories t repo head chain held next e (Body.Commit c) is reads own says gives follows h =
    commit_step repositories repo chain held next t.message head e c is reads says gives follows (after_own repositories t.did t.message e (Body.Commit c) held next reads own says h)
given repositories t repo head chain held next e (Body.Sync y) is reads own says gives follows h =
    sync_step repositories next t.message head e y reads says gives.rev_is (after_own repositories t.did t.message e (Body.Sync y) held next reads own says h)
given repositories t repo head chain held next e Body.Identity is reads own says gives follows h = absurd gives
given repositories t repo head chain held next e (Body.Account a) is reads own says gives follows h = absurd gives

not_four : (repo : Repo) (head : Head) (body : Body) (kind : ℕ) → kind_number body ≡ kind → GivesHead repo head body → kind == 4 ≡ false
not_four repo head (Body.Commit c) kind is gives = subst (λ (n : ℕ). n == 4 ≡ false) is refl
not_four repo head (Body.Sync y) kind is gives = subst (λ (n : ℕ). n == 4 ≡ false) is refl
not_four repo head Body.Identity kind is gives = absurd gives
not_four repo head (Body.Account a) kind is gives = absurd gives

-- by the effect of an accepted event
by_effect : (repositories : Repositories) (t : Taken) (a : State) (chain : OpenChain) (held next : Holding) → IsAccepted t → (x : Effect) → is_effect t.kind x ≡ true → SendsEvent a.repo t x
    → HoldsChain repositories a.repo chain held → IsHeldFrom repositories t.did held (sends_by (t.seq == 0) t Fetched.NotAsked) next
    → HoldsChain repositories (effected a x).repo (opened_by (effect_part t.kind t.message x) (sends_by (t.seq == 0) t Fetched.NotAsked) chain) next
by_effect repositories t a chain held next is Effect.Nothing kind kept follows h =
    let three = eqb-true t.kind 3 kind in
    let P : ℕ → ℕ → Type 0 = λ k n. n == k ≡ false in
    stays repositories a.repo chain held next (own_quiet repositories t held next (t.seq == 0) refl kept (subst (P 1) (sym three) refl) (subst (P 2) (sym three) refl) h) follows
by_effect repositories t a chain held next is (Effect.Account active status) kind kept follows h =
    let four = eqb-true t.kind 4 (and_parts (t.kind == 4) _ kind).0 in
    let P : ℕ → ℕ → Type 0 = λ k n. n == k ≡ false in
    stays repositories a.repo chain held next (own_quiet repositories t held next (t.seq == 0) refl kept (subst (P 1) (sym four) refl) (subst (P 2) (sym four) refl) h) follows
by_effect repositories t a chain held next is (Effect.Repo head) kind kept follows h =
    let s = sent t is (not_four a.repo head kept.event.body t.kind kept.says.0 kept.says.1) in
    let P : Bool → Type 0 = λ b. IsHeldFrom repositories t.did held (sends_by b t Fetched.NotAsked) next in
    let Q : Bool → Type 0 = λ b. HoldsChain repositories (Repo.Good head) (opened_by (effect_part t.kind t.message (Effect.Repo head)) (sends_by b t Fetched.NotAsked) chain) next in
    let R : ℕ → Type 0 = λ n. HoldsChain repositories (Repo.Good head) (opened_by (cond (n == 1) (commits t.message head.data_root) (rests head.data_root)) (t.message ∷ []) chain) next in
    subst Q (sym s.some) (subst R kept.says.0
    (given repositories t a.repo head chain held next kept.event kept.event.body (s.event kept.event kept.reads) kept.reads kept.did_is refl kept.says.1 follows (subst P s.some h)))

-- ---- a refused event

lost_follows : (repositories : Repositories) (a : State) (r : Refusal) (chain : OpenChain) (held : Holding) → HoldsChain repositories a.repo chain held → HoldsChain repositories (lost a (Some r)).repo chain held
lost_follows repositories a r chain held follows =
    elim (loses (code_of r)) as (λ b. HoldsChain repositories (cond b (record a { repo = Repo.Lost (last_rev a.repo) }) a).repo chain held) [
      | true ↦ λ s t begins replay. let i = follows s t begins replay in (i.0, i.1, tt, i.3)
      | false ↦ follows
    ]

-- by the fetch that followed
silent_fetch : (repositories : Repositories) (t : Taken) (a : State) (r : Refusal) (chain : OpenChain) (held next : Holding) → t.effect ≡ Effect.Nothing → HoldsChain repositories a.repo chain held → next ≡ held
    → HoldsChain repositories (lost (effected a t.effect) (Some r)).repo (opened_by (effect_part t.kind t.message t.effect) [] chain) next
silent_fetch repositories t a r chain held next none follows is =
    let P : Effect → Type 0 = λ x. HoldsChain repositories (lost (effected a x) (Some r)).repo (opened_by (effect_part t.kind t.message x) [] chain) next in
    subst P (sym none) (stays repositories (lost a (Some r)).repo chain held next is (lost_follows repositories a r chain held follows))

by_fetch : (repositories : Repositories) (t : Taken) (a : State) (r : Refusal) (chain : OpenChain) (held next : Holding) → t.effect ≡ Effect.Nothing → (f : Fetched) → HoldsOfWhole (SendsSync t.did) f
    → HoldsChain repositories a.repo chain held → IsHeldFrom repositories t.did held (messages_of (events_of f)) next
    → HoldsChain repositories (refetched (lost (effected a t.effect) (Some r)) f).repo (opened_by (taken_part t f) (messages_of (events_of f)) chain) next
by_fetch repositories t a r chain held next none Fetched.NotAsked kept follows h = silent_fetch repositories t a r chain held next none follows h
by_fetch repositories t a r chain held next none Fetched.Absent kept follows h = silent_fetch repositories t a r chain held next none follows h
by_fetch repositories t a r chain held next none (Fetched.Refused n) kept follows h = silent_fetch repositories t a r chain held next none follows h
by_fetch repositories t a r chain held next none (Fetched.Whole w) kept follows h = stated repositories t.did w held next kept h

-- ---- a row that names the account

abbrev Goes : Repositories → State → Row → OpenChain → Holding → Holding → Type 0
Goes repositories a row chain held next = HoldsChain repositories a.repo chain held → IsHeldFrom repositories (did_of_row row) held (messages_of (events_in row)) next
    → HoldsChain repositories (moved a row).repo (opened_by (part_in row) (messages_of (events_in row)) chain) next

taken_goes : (repositories : Repositories) (t : Taken) (a : State) (chain : OpenChain) (held next : Holding) → SendsEvent a.repo t t.effect → HoldsOfWhole (SendsSync t.did) t.fetched
    → (q : Option Refusal) → t.refusal ≡ q → is_decided q t ≡ true → Goes repositories a (Row.Taken t) chain held next
taken_goes repositories t a chain held next effect fetch None q is follows h =
    let done = accepted t is in
    let P : Fetched → Type 0 = λ f. IsHeldFrom repositories t.did held (sends_by (t.seq == 0) t f) next in
    let Q : Fetched → Type 0 = λ f. HoldsChain repositories (refetched (lost (effected a t.effect) None) f).repo (opened_by (taken_part t f) (sends_by (t.seq == 0) t f) chain) next in
    let R : Option Refusal → Type 0 = λ r. HoldsChain repositories (refetched (lost (effected a t.effect) r) t.fetched).repo (opened_by (taken_part t t.fetched) (sends_by (t.seq == 0) t t.fetched) chain) next in
    subst R (sym q) (subst Q (sym done.fetched)
    (by_effect repositories t a chain held next done t.effect done.effect effect follows (subst P done.fetched h)))
taken_goes repositories t a chain held next effect fetch (Some r) q is follows h =
    let done = refused r t is in
    let P : Bool → Type 0 = λ b. IsHeldFrom repositories t.did held (sends_by b t t.fetched) next in
    let Q : Bool → Type 0 = λ b. HoldsChain repositories (refetched (lost (effected a t.effect) (Some r)) t.fetched).repo (opened_by (taken_part t t.fetched) (sends_by b t t.fetched) chain) next in
    let R : Option Refusal → Type 0 = λ r. HoldsChain repositories (refetched (lost (effected a t.effect) r) t.fetched).repo (opened_by (taken_part t t.fetched) (sends_by (t.seq == 0) t t.fetched) chain) next in
    subst R (sym q) (subst Q (sym done.silent) (by_fetch repositories t a r chain held next done.effect t.fetched fetch follows (subst P done.silent h)))

carried_goes : (repositories : Repositories) (b : CarriedAccount) (a : State) (chain : OpenChain) (held next : Holding) → a.repo ≡ Repo.Missing → HoldsChain repositories a.repo chain held → next ≡ held
    → (x : CarriedRepo) → HoldsChain repositories (repo_carried x) (opened_by (carried_part x) [] chain) next
carried_goes repositories b a chain held next start follows is CarriedRepo.Missing =
    let P : Repo → Type 0 = λ r. HoldsChain repositories r chain next in
    subst P start (stays repositories a.repo chain held next is follows)
carried_goes repositories b a chain held next start follows is (CarriedRepo.Good head) = λ s t begins. absurd begins
carried_goes repositories b a chain held next start follows is (CarriedRepo.Lost rev) =
    λ s t begins replay. let i = stays repositories a.repo chain held next is follows s t begins replay in (i.0, i.1, tt, i.3)

pub row_goes : (repositories : Repositories) (J : List Row) (row : Row) (chain : OpenChain) (held next : Holding) → is_row row ≡ true → SendsWhatItKeeps J row
    → (is_account row ≡ true → (account (did_of_row row) J).repo ≡ Repo.Missing) → Goes repositories (account (did_of_row row) J) row chain held next
unfolding is_row
row_goes repositories J (Row.Taken t) chain held next formed sends start =
    taken_goes repositories t (account t.did J) chain held next sends.0 sends.1 t.refusal refl (decided_formed t formed)
row_goes repositories J (Row.Synced did whole moment) chain held next formed sends start = λ follows h.
    stated repositories did whole held next sends h
row_goes repositories J (Row.Operated o) chain held next formed sends start = λ follows h.
    let r = sends in
    let word = r.says in
    stays repositories (account o.did J).repo chain held next (after_own repositories o.did o.message r.event (Body.Account word.0) held next r.reads r.did_is word.1 h) follows
row_goes repositories J (Row.Carried (Carried.Last seq)) chain held next formed sends start = λ follows h. stays repositories (account [] J).repo chain held next h follows
row_goes repositories J (Row.Carried (Carried.Host host n)) chain held next formed sends start = λ follows h. stays repositories (account [] J).repo chain held next h follows
row_goes repositories J (Row.Carried (Carried.Account b)) chain held next formed sends start = λ follows h.
    carried_goes repositories b (account b.did J) chain held next (start refl) follows h b.repo
