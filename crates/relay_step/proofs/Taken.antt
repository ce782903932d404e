-- What is owed of an event that was decided.
use Rattle.std.proofs.Common.{◌≡◌, ◌≢◌, ℕ, ◌+◌, ◌≤◌, inl, inr, Bool, true, false, cond, List, [], ◌∷◌, ◌++◌, Option, Some, None, Result, Ok, Err, refl, sym, ap, ◌∙◌, subst, arith, append_assoc, eqb}
use Rattle.std.specs.Prelude.{nat_le, IsTrue}
use Rattle.std.specs.Option.{unwrap_or}
use Rattle.std.proofs.lemmas.Bool.{ne_eqb}
use Rattle.at_authority.specs.Calls.{Call, AreCalls}
use Rattle.at_event.specs.Refusals.{code_of}
use Rattle.at_event.specs.Seen.{Seen}
use Rattle.at_event.specs.declared.frame.Frame.{Frame}
use Rattle.at_event.specs.declared.head.Head.{Head}
use Rattle.at_event.specs.declared.refusal.Refusal.{Refusal}
use Rattle.relay_row.specs.Folds.{cursor, last_seq, seq_in, first_seq}
use Rattle.relay_row.specs.Rules.{loses}
use Rattle.relay_row.specs.declared.fetched.Fetched.{Fetched}
use Rattle.at_cid.specs.declared.limits.TheConstants.{NUMBERS}
use Rattle.relay_row.specs.declared.row.Row.{Row}
use Rattle.relay_row.specs.declared.taken.Taken.{Taken}
use Rattle.account_state.specs.Folds.{account, last_rev}
use Rattle.account_state.specs.State.{State}
use Rattle.host_state.proofs.Cursors.{hosts_tell}
use Rattle.host_state.specs.Folds.{cursor_of}
use Rattle.relay_core.specs.Answering.{answers, as_result, event_taken, fetched_of, goes_out}
use Rattle.relay_core.specs.Decide.{Checks, Found, absent, unfit, found, Outside, decided_event, fetched_as, old_if}
use Rattle.relay_core.specs.Entries.{Holds, account_in, cursor_in}
use Rattle.relay_core.specs.Opening.{OpensRight, shown_alone}
use Rattle.relay_core.specs.Sending.{IsSendable}
use Rattle.relay_core.specs.Shown.{found_in, or_zero, shown}
use Rattle.relay_core.specs.Table.{event_lines, next_of, walk}
use Rattle.relay_core.specs.declared.answers.Answers.{Answers}
use Rattle.relay_core.specs.declared.decision.Decision.{Decision}
use Rattle.relay_core.specs.declared.decision.Next.{Next}
use Rattle.relay_core.specs.declared.journal_state.Core.{Core}
use Rattle.relay_core.proofs.Returning.{block_returns}
use Rattle.relay_core.proofs.Showing.{rows_show}
use Rattle.relay_law.specs.Formed.{IsOpenedAs}
use Rattle.relay_law.specs.Right.{LinksRight}
use Rattle.relay_step.specs.Around.{Around, AskedOf, IsTimed}
use Rattle.relay_step.specs.Asked.{event_calls, home_calls, verdict_calls}
use Rattle.relay_step.specs.Fetching.{IsFetched, IsFetchedAs, told_where}
use Rattle.relay_io.specs.Choices.{WhereElse}
use Rattle.relay_step.specs.Messages.{EndsNumbers, IsAskedOf as AskedAround, IsDecided}
use Rattle.relay_step.specs.Questions.{IsLinkAnswer, IsTimedSo, is_unlinked}
use Rattle.relay_step.specs.Steps.{recorded}
use Rattle.relay_step.specs.Taking.{EventAnswered, EventRecorded, IsFetchOf, IsFetchedSo}
use Rattle.relay_step.specs.Commands.{IsNow}
use Rattle.relay_step.proofs.Calls.{calls_shown, moment_there}
use Rattle.relay_step.proofs.Decisions.{AreOf, IsAtEnd, Within, decided_so, done_above, done_end, opened_right, within_some, within_told}

pub cursor_tells : (c : Core) (J : List Row) → Holds c J → (host : List ℕ) → cursor_in c host ≡ cursor host J
cursor_tells c J h host = ap (λ (hs : List (List ℕ × ℕ)). cursor_of hs host) h.hosts ∙ hosts_tell host J

-- ---- what was fetched

found_again : (last : ℕ) (e : Seen) (f : Found) → IsSendable last e f → found_in (fetched_as last e f) ≡ f
found_again last e absent can = refl
found_again last e (unfit n) can = refl
found_again last e (found head records block) can = ap (λ (b : List ℕ). found head records b) (block_returns last e head block (can head records block refl))

due_fetched : (r : Refusal) (f : Fetched) → loses (code_of r) ≡ true → fetched_of (Some r) (Some f) ≡ f
due_fetched r f due = ap (λ b. cond b f Fetched.NotAsked) due

-- what was fetched stands in the row
pub fetched_there : (tells : Bool) (last : ℕ) (a : State) (e : Seen) (repository : List ℕ → Option (List ℕ)) (moment : ℕ) (r : Option Refusal) (f : Fetched) (what : Found) (fetch : List Call) → IsFetchOf tells last a e repository moment r f what fetch
    → fetched_of r (Some f) ≡ fetched_as last e what
fetched_there tells last a e repository moment r f what fetch is =
    ap (λ (q : Option Refusal). fetched_of q (Some f)) is.refused ∙ due_fetched is.lost f is.due ∙ is.is

row_fetched : (tells : Bool) (last : ℕ) (a : State) (e : Seen) (repository : List ℕ → Option (List ℕ)) (moment : ℕ) (r : Option Refusal) (o : Option Fetched) (what : Found) (fetch : List Call) → IsSendable last e what
    → IsFetchedSo tells last a e repository moment r o what fetch → o ≢ None → found_in (fetched_of r o) ≡ what
row_fetched tells last a e repository moment r None what fetch can is some = absurd (some refl)
row_fetched tells last a e repository moment r (Some f) what fetch can is some = ap found_in (fetched_there tells last a e repository moment r f what fetch is) ∙ found_again last e what can

-- what was fetched behind a refusal, and asked for it, as a row or the answers have it
is_fetched : (tells : Bool) (last : ℕ) (a : State) (e : Seen) (repository : List ℕ → Option (List ℕ)) (J : List Row) (moment : ℕ) (r : Option Refusal) (o : Option Fetched) (what f : Found) (fetch : List Call) → a ≡ account e.did J
    → IsFetchedSo tells last a e repository moment r o what fetch → ((q : Refusal) → r ≡ Some q → loses (code_of q) ≡ true → o ≢ None) → (o ≢ None → f ≡ what) → IsFetched tells repository J e.did r moment f fetch
is_fetched tells last a e repository J moment None None what f fetch same so due fit = so.1
is_fetched tells last a e repository J moment None (Some g) what f fetch same so due fit = absurd (none_some so.lost so.refused)
  where
    none_some : (q : Refusal) → None ≡ Some q → ⊥
    none_some q h = absurd cc
is_fetched tells last a e repository J moment (Some r) None what f fetch same so due fit = go (loses (code_of r)) (due r refl)
  where
    go : (b : Bool) → (b ≡ true → ◌≢◌ {A = Option Fetched} None None) → WhereElse b (IsFetchedAs (told_where tells (repository e.did)) e.did (last_rev (account e.did J).repo) moment f fetch) (fetch ≡ [])
    go true none = absurd (none refl refl)
    go false none = so.1
is_fetched tells last a e repository J moment (Some r) (Some g) what f fetch same so due fit =
    let refusals : so.lost ≡ r = some_same so.lost r so.refused in
    let lost : loses (code_of r) ≡ true = subst (λ (q : Refusal). loses (code_of q) ≡ true) refusals so.due in
    let there : IsFetchedAs (told_where tells (repository e.did)) e.did (last_rev (account e.did J).repo) moment f fetch =
    subst (λ (w : Found). IsFetchedAs (told_where tells (repository e.did)) e.did (last_rev (account e.did J).repo) moment w fetch) (sym (fit (λ none. absurd cc)))
    (subst (λ (s : State). IsFetchedAs (told_where tells (repository e.did)) e.did (last_rev s.repo) moment what fetch) same so.told) in
    subst (λ b. WhereElse b (IsFetchedAs (told_where tells (repository e.did)) e.did (last_rev (account e.did J).repo) moment f fetch) (fetch ≡ [])) (sym lost) there
  where
    some_same : (p q : Refusal) → Some q ≡ Some p → p ≡ q
    some_same p q h = cc

-- ---- what was asked

module _ (clock_tells repos_tell : Bool) (c : Core) (host : List ℕ) (e : Seen) (x : Answers) (d : Decision) (what : Found) (old new : Around) (is : EventAnswered clock_tells repos_tell c host e x d what old new) where
  at_end : IsAtEnd (walk (event_lines (account_in c e.did) e x)) x.fetched d
  at_end = done_end (cursor_in c host) (account_in c e.did) e x d is.done

  moment_is : (moment : ℕ) × (x.moment ≡ Some moment)
  moment_is = moment_there (account_in c e.did) e x d.refusal at_end.ends

  refused_opened : (q : Refusal) → x.opened ≡ Some (Err q) → shown_alone e.body (last_rev (account_in c e.did).repo) ≡ Some q
  refused_opened q same = is.opened (Err q) same

  refused_linked : (q : Refusal) → x.linked ≡ Some (Err q) → is_unlinked q ≡ true
  refused_linked q same = (is.linked (Err q) same).unlinked q refl

  made : AreCalls old.panel (event_calls host e d.refusal is.fetch) new.panel
  made =
      let P : List Call → Type 0 = λ l. AreCalls old.panel l new.panel in
      subst P (ap (λ (l : List Call). l ++ is.fetch) (calls_shown (account_in c e.did) host e x is.tidy refused_opened refused_linked d.refusal at_end.ends)
      ∙ append_assoc (home_calls host e d.refusal) (verdict_calls e d.refusal) is.fetch) is.calls

  now : IsTrue clock_tells → IsNow old.moments moment_is.0 new.moments
  now tells = let P : Option ℕ → Type 0 = λ m. IsTimedSo old.moments m new.moments in subst P moment_is.1 (is.timed tells)

  timed : IsTrue clock_tells → IsTimed old.moments (recorded (event_taken c.last host e d x)) new.moments
  timed tells = (moment_is.1 ∙ ap Some (now tells).next, (now tells).gone)

  fetched_in : (J : List Row) → Holds c J → (f : Found) → (x.fetched ≢ None → f ≡ what) → IsFetched repos_tell old.repository J e.did d.refusal (or_zero x.moment) f is.fetch
  fetched_in J holds f fit = is_fetched repos_tell c.last (account_in c e.did) e old.repository J (or_zero x.moment) d.refusal x.fetched what f is.fetch (holds.accounts e.did) is.fetched at_end.fetch fit

pub event_asked : (clock_tells repos_tell : Bool) (c : Core) (host : List ℕ) (e : Seen) (t : Taken) (old new : Around) → EventRecorded clock_tells repos_tell c host e t old new → AskedAround clock_tells repos_tell c old host (Ok (Frame.Event e)) (recorded t) new
event_asked clock_tells repos_tell c host e t old new is J holds =
    let P : Taken → Type 0 = λ u. AskedOf clock_tells repos_tell J old host (Ok (Frame.Event e)) (recorded u) new in
    subst P (sym is.taken) (record {
      fetch = is.answered.fetch;
      fetched = fetched_in clock_tells repos_tell c host e is.x is.d is.what old new is.answered J holds (found_in (fetched_of is.d.refusal is.x.fetched))
          (row_fetched repos_tell c.last (account_in c e.did) e old.repository (or_zero is.x.moment) is.d.refusal is.x.fetched is.what is.answered.fetch is.sendable is.answered.fetched);
      made = made clock_tells repos_tell c host e is.x is.d is.what old new is.answered;
      timed = timed clock_tells repos_tell c host e is.x is.d is.what old new is.answered;
      same = is.answered.same;
    })

-- ---- what is decided

-- the answers to all questions, of which those so far are some
outside_of : Answers → Found → Outside
outside_of x f = record { moment = or_zero x.moment; home = unwrap_or x.home true; verdict = unwrap_or x.verdict true; fetched = f }

module _ (checks : Checks) (opens : OpensRight checks) (links : LinksRight checks) (last cursor : ℕ) (a : State) (host : List ℕ) (e : Seen) (x : Answers) (d : Decision)
    (done : next_of cursor a (Frame.Event e) x ≡ Next.Done d) (right : (answer : Result Head Refusal) → x.opened ≡ Some answer → IsOpenedAs e.body (last_rev a.repo) answer) (linked : (answer : Result (Unit {0}) Refusal) → x.linked ≡ Some answer → IsLinkAnswer a.repo e answer) where
  are_of : (f : Found) → Within x.fetched (Some (fetched_as last e f)) → AreOf e.body x (answers checks last a e (outside_of x f))
  unfolding outside_of
  are_of f fetched =
      let there = moment_there a e x d.refusal (done_end cursor a e x d done).ends in
      record {
        moment = there.1 ∙ ap (λ (m : Option ℕ). Some (or_zero m)) (sym there.1);
        refreshed = refl;
        home = within_told x.home;
        opened = λ has. within_some x.opened (checks.opens e (last_rev a.repo)) (λ answer is. opened_right checks opens e (last_rev a.repo) answer has (right answer is));
        verdict = within_told x.verdict;
        linked = within_some x.linked (as_result (checks.links e a.repo)) (λ answer is. (linked answer is).right checks links);
        fetched = fetched;
      }

  decided_of : (f : Found) → Within x.fetched (Some (fetched_as last e f)) → decided_event checks last a host e (outside_of x f) ≡ event_taken last host e d x
  decided_of f fetched = decided_so checks last cursor a host e x d (outside_of x f) done (are_of f fetched)

  made_so : (f : Found) → Within x.fetched (Some (fetched_as last e f)) → IsSendable last e f → decided_event checks last a host e (shown (event_taken last host e d x)) ≡ event_taken last host e d x
  unfolding outside_of
  made_so f fetched can =
      let same = decided_of f fetched in
      let P : Taken → Type 0 = λ u. decided_event checks last a host e (shown u) ≡ u in
      subst P same (rows_show checks last a host e (outside_of x f) can)

pub absent_sendable : (last : ℕ) (e : Seen) → IsSendable last e absent
absent_sendable last e head records block h = absurd cc

within_so : (tells : Bool) (last : ℕ) (a : State) (e : Seen) (repository : List ℕ → Option (List ℕ)) (moment : ℕ) (r : Option Refusal) (o : Option Fetched) (what : Found) (fetch : List Call) → IsFetchedSo tells last a e repository moment r o what fetch
    → Within o (Some (fetched_as last e what))
within_so tells last a e repository moment r None what fetch is = inl refl
within_so tells last a e repository moment r (Some f) what fetch is = inr (ap Some is.is)

above_passes : (seq n m : ℕ) → n ≡ m → nat_le seq n ≡ false → old_if (nat_le seq m) ≡ None
above_passes seq n m same h = let P : ℕ → Type 0 = λ k. old_if (nat_le seq k) ≡ None in subst P same (ap old_if h)

pub event_decided : (clock_tells repos_tell : Bool) (c : Core) (host : List ℕ) (e : Seen) (t : Taken) (old new : Around) → EventRecorded clock_tells repos_tell c host e t old new → IsDecided c host (Ok (Frame.Event e)) (recorded t)
event_decided clock_tells repos_tell c host e t old new is checks J opens links holds =
    let a = account_in c e.did in
    let within = within_so repos_tell c.last a e old.repository (or_zero is.x.moment) is.d.refusal is.x.fetched is.what is.answered.fetch is.answered.fetched in
    let so : decided_event checks c.last a host e (shown (event_taken c.last host e is.d is.x)) ≡ event_taken c.last host e is.d is.x
    = made_so checks opens links c.last (cursor_in c host) a host e is.x is.d is.answered.done is.answered.opened is.answered.linked is.what within is.sendable in
    let P : Taken → Type 0 = λ u. decided_event checks c.last a host e (shown u) ≡ u in
    let Q : ℕ → Type 0 = λ n. decided_event checks n a host e (shown t) ≡ t in
    let R : State → Type 0 = λ s. decided_event checks (last_seq J) s host e (shown t) ≡ t in (
      refl,
      above_passes e.seq (cursor_in c host) (cursor host J) (cursor_tells c J holds host) (done_above (cursor_in c host) a e is.x is.d is.answered.done).0,
      ap Some (subst R (holds.accounts e.did) (subst Q holds.last (subst P (sym is.taken) so))),
    )

-- ---- where the numbers end

seq_of_sent : (n : ℕ) (message : List ℕ) (others : List (ℕ × List ℕ)) → first_seq (cond (eqb (n + 1) 0) others ((n + 1, message) ∷ [])) ≡ n + 1
seq_of_sent n message others = rw (ne_eqb (n + 1) 0 (λ zero. absurd (omega (arith, zero)))) refl

-- an event that was decided for these answers, and whose row takes the number behind the last one
pub ends_by : (clock_tells repos_tell : Bool) (c : Core) (host : List ℕ) (e : Seen) (x : Answers) (d : Decision) (what : Found) (old new : Around) → EventAnswered clock_tells repos_tell c host e x d what old new
    → seq_in (Row.Taken (event_taken c.last host e d x)) ≡ c.last + 1 → NUMBERS ≤ c.last + 1 → EndsNumbers clock_tells repos_tell c old host (Ok (Frame.Event e)) new
unfolding outside_of
ends_by clock_tells repos_tell c host e x d what old new is gives ends =
    let a = account_in c e.did in
    let o = outside_of x what in
    let t = event_taken c.last host e d x in
    let within = within_so repos_tell c.last a e old.repository (or_zero x.moment) d.refusal x.fetched what is.fetch is.fetched in
    let there = moment_is clock_tells repos_tell c host e x d what old new is in
    record {
      event = e;
      outside = o;
      taken = t;
      is = refl;
      above = ap old_if (done_above (cursor_in c host) a e x d is.done).0;
      decides = λ checks J opens links holds.
          let so = decided_of checks opens links c.last (cursor_in c host) a host e x d is.done is.opened is.linked what within in
          let Q : ℕ → Type 0 = λ n. decided_event checks n a host e o ≡ t in
          let R : State → Type 0 = λ s. decided_event checks (last_seq J) s host e o ≡ t in
          subst R (holds.accounts e.did) (subst Q holds.last so);
      asked = λ J holds. record {
        fetch = is.fetch;
        fetched = fetched_in clock_tells repos_tell c host e x d what old new is J holds what (λ some. refl);
        made = made clock_tells repos_tell c host e x d what old new is;
        now = λ tells. let P : ℕ → Type 0 = λ m. IsNow old.moments m new.moments in subst P (ap or_zero (sym there.1)) (now clock_tells repos_tell c host e x d what old new is tells);
        same = is.same;
      };
      gives = gives;
      ends = ends;
    }

-- an event that goes out gives the next number
pub sent_gives : (last : ℕ) (host : List ℕ) (e : Seen) (x : Answers) (d : Decision) → goes_out d.refusal d.held ≡ true → seq_in (Row.Taken (event_taken last host e d x)) ≡ last + 1
sent_gives last host e x d out = rw out (seq_of_sent last _ _)
