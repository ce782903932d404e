-- Each answer leaves what was asked in the order of the table, and one question less.
use Rattle.std.proofs.Common.{◌≡◌, ℕ, ◌<◌, ◌⊎◌, inl, inr, ⊎_elim, Bool, true, false, not, List, [], ◌∷◌, ◌++◌, Option, Some, None, Result, Ok, Err, refl, sym, ap, ◌∙◌, subst, arith, append_assoc}
use Rattle.std.specs.Prelude.{IsTrue}
use Rattle.std.specs.Option.{is_some}
use Rattle.at_authority.specs.Calls.{Call, answers, refreshes, IsCall, AreCalls}
use Rattle.at_authority.specs.Panels.{Panel}
use Rattle.at_authority.specs.Queries.{asks_home}
use Rattle.at_authority.proofs.Runs.{join}
use Rattle.at_event.specs.Seen.{Seen}
use Rattle.at_event.specs.declared.event.Body.{Body}
use Rattle.at_event.specs.declared.frame.Frame.{Frame}
use Rattle.at_event.specs.declared.head.Head.{Head}
use Rattle.at_event.specs.declared.refusal.Refusal.{Refusal}
use Rattle.at_cid.specs.declared.limits.TheConstants.{NUMBERS}
use Rattle.account_state.specs.Folds.{last_rev}
use Rattle.account_state.specs.State.{State}
use Rattle.relay_core.specs.Laws.{is_open}
use Rattle.relay_core.specs.Table.{next_of}
use Rattle.relay_core.specs.declared.answers.Answers.{Answers}
use Rattle.relay_core.specs.declared.answers.Question.{Question}
use Rattle.relay_core.specs.declared.decision.Next.{Next}
use Rattle.relay_core.proofs.Asking.{ask_open}
use Rattle.relay_law.specs.Formed.{IsOpenedAs}
use Rattle.relay_step.specs.Asked.{signed_by, verdict_call}
use Rattle.relay_step.specs.Questions.{AreAsked, IsJudgedLate, IsLinkAnswer, IsReadFor, IsReadOf, IsRenewedFirst, IsTimedSo, NoneAsked, SkippedBefore, home_told, is_commit, open_count, refresh_told, verdict_told}
use Rattle.at_event.specs.Bodies.{has_blocks}
use Rattle.account_state.specs.declared.repo.Repo.{Repo}
use Rattle.relay_step.specs.declared.reading.Read.{Read}
use Rattle.relay_step.specs.Commands.{IsNow}
use Rattle.relay_step.proofs.Walks.{AtBody, IsSkippedBefore, asked_above, at_body, blocks_asked, commit_asked, event_waits, home_renewed, identity_asked, skipped_before}

not_some : {A : Type 0} (o : Option A) → not (is_some o) ≡ true → o ≡ None
not_some None h = refl
not_some (Some x) h = absurd cc

not_true : (b : Bool) → not b ≡ true → b ≡ false
not_true true h = absurd cc
not_true false h = refl

some_none : {A : Type 0} (o : Option A) (x : A) → o ≡ Some x → o ≡ None → ⊥
some_none o x one two = absurd cc

-- ---- by kind

late_first : (a : State) (e : Seen) (body : Body) (x : Answers) → IsJudgedLate a e body x → x.home ≡ None → x.verdict ≡ None
late_first a e (Body.Commit c) x late none = ⊎_elim (λ v. v) (λ p. absurd (some_none x.home true p.home none)) late
late_first a e (Body.Sync s) x late none = ⊎_elim (λ v. v) (λ p. absurd (some_none x.home true p.home none)) late
late_first a e Body.Identity x late none = late
late_first a e (Body.Account b) x late none = late

late_unjudged : (a : State) (e : Seen) (body : Body) (x : Answers) → x.verdict ≡ None → IsJudgedLate a e body x
late_unjudged a e (Body.Commit c) x none = inl none
late_unjudged a e (Body.Sync s) x none = inl none
late_unjudged a e Body.Identity x none = none
late_unjudged a e (Body.Account b) x none = none

late_opened : (a : State) (e : Seen) (body : Body) (x : Answers) → IsJudgedLate a e body x → x.opened ≡ None → x.verdict ≡ None
late_opened a e (Body.Commit c) x late none = ⊎_elim (λ v. v) (λ p. absurd (some_none x.opened (Ok p.head) p.opened none)) late
late_opened a e (Body.Sync s) x late none = ⊎_elim (λ v. v) (λ p. absurd (some_none x.opened (Ok p.head) p.opened none)) late
late_opened a e Body.Identity x late none = late
late_opened a e (Body.Account b) x late none = late

skipped_again : (a : State) (e : Seen) (rev : ℕ) (x : Answers) (o : Option Bool) (l : Option (Result (Unit {0}) Refusal)) → SkippedBefore a e rev x → SkippedBefore a e rev (record x { verdict = o; linked = l })
skipped_again a e rev x o l p = record { short = p.short; home = p.home; active = p.active; up = p.up; head = p.head; opened = p.opened; near = p.near }

late_linked : (a : State) (e : Seen) (body : Body) (x : Answers) (l : Option (Result (Unit {0}) Refusal)) → IsJudgedLate a e body x → IsJudgedLate a e body (record x { linked = l })
late_linked a e (Body.Commit c) x l late = ⊎_elim (λ v. inl v) (λ p. inr (skipped_again a e c.rev x x.verdict l p)) late
late_linked a e (Body.Sync s) x l late = ⊎_elim (λ v. inl v) (λ p. inr (skipped_again a e s.rev x x.verdict l p)) late
late_linked a e Body.Identity x l late = late
late_linked a e (Body.Account b) x l late = late

late_judged : (a : State) (e : Seen) (body : Body) (x : Answers) (o : Option Bool) → IsSkippedBefore a e body x → IsJudgedLate a e body (record x { verdict = o })
late_judged a e (Body.Commit c) x o p = inr (skipped_again a e c.rev x o x.linked p)
late_judged a e (Body.Sync s) x o p = inr (skipped_again a e s.rev x o x.linked p)
late_judged a e Body.Identity x o p = absurd p
late_judged a e (Body.Account b) x o p = absurd p

-- what is looked up anew hangs on these two answers alone
renewed_again : (body : Body) (x y : Answers) → y.refreshed ≡ x.refreshed → (y.home ≡ x.home) ⊎ (body ≡ Body.Identity → x.refreshed ≡ true) → IsRenewedFirst body x → IsRenewedFirst body y
renewed_again (Body.Commit c) x y same other h = same ∙ h
renewed_again (Body.Sync s) x y same other h = same ∙ h
renewed_again Body.Identity x y same other h = ⊎_elim (λ home. ⊎_elim (λ r. inl (same ∙ r)) (λ none. inr (home ∙ none)) h) (λ renewed. inl (same ∙ renewed refl)) other
renewed_again (Body.Account b) x y same other h = same ∙ h

renewed_last : (body : Body) (x : Answers) → body ≡ Body.Identity → IsRenewedFirst body x → x.refreshed ≡ false → x.home ≡ None
renewed_last (Body.Commit c) x is h late = absurd cc
renewed_last (Body.Sync s) x is h late = absurd cc
renewed_last Body.Identity x is h late = ⊎_elim (λ r. absurd cc) (λ none. none) h
renewed_last (Body.Account b) x is h late = absurd cc

renewed_now : (body : Body) (x : Answers) → body ≡ Body.Identity → IsRenewedFirst body (record x { refreshed = true })
renewed_now (Body.Commit c) x is = absurd cc
renewed_now (Body.Sync s) x is = absurd cc
renewed_now Body.Identity x is = inl refl
renewed_now (Body.Account b) x is = absurd cc

none_again : (x y : Answers) → y.refreshed ≡ x.refreshed → y.home ≡ x.home → y.verdict ≡ x.verdict → NoneAsked x → NoneAsked y
none_again x y r h v n = record { refreshed = r ∙ n.refreshed; home = h ∙ n.home; verdict = v ∙ n.verdict }

-- ---- calls

calls_more : (old mid new : Panel) (calls more : List Call) → AreCalls old (calls ++ []) mid → AreCalls mid more new → AreCalls old (calls ++ more) new
calls_more old mid new calls more so_far next =
    let P : List Call → Type 0 = λ l. AreCalls old l new in
    subst P (append_assoc calls [] more) (join old mid new (calls ++ []) more so_far next)

-- ---- a question answered

module _ (clock_tells : Bool) (last : ℕ) (a : State) (host : List ℕ) (e : Seen) (x : Answers) (old : Panel) (moments : List ℕ) (mid : Panel) (left : List ℕ) (cursor : ℕ) (so_far : AreAsked clock_tells last cursor a host e x old moments mid left) where
  abbrev Asks : Question → Type 0
  Asks q = next_of cursor a (Frame.Event e) x ≡ Next.Ask q

  still_open : (q : Question) → Asks q → is_open q x ≡ true
  still_open q asks = ask_open cursor a (Frame.Event e) x q asks

  body_at : (q : Question) → (q ≡ Question.Fetch → ⊥) → (q ≡ Question.Moment → ⊥) → Asks q → AtBody a e x q
  body_at q fetch moment asks = at_body a e x q moment (event_waits cursor a e x q fetch asks)

  pub moment_asked : (moment : ℕ) (now : List ℕ) → Asks Question.Moment → moment < NUMBERS → (IsTrue clock_tells → IsNow left moment now)
      → AreAsked clock_tells last cursor a host e (record x { moment = Some moment }) old moments mid now
  moment_asked moment now asks below taken =
      let none : x.moment ≡ None = not_some x.moment (still_open Question.Moment asks) in
      let nothing = so_far.tidy.early none in
      record {
        calls = so_far.calls;
        timed = λ tells.
            let P : Option ℕ → Type 0 = λ m. IsTimedSo moments m left in
            let same : left ≡ moments = subst P none (so_far.timed tells) in
            let Q : List ℕ → Type 0 = λ l. IsNow l moment now in
            subst Q same (taken tells);
        tidy = record {
          early = λ none. absurd cc;
          short = ⊎_elim (λ s. inl s) (λ n. inr (none_again x (record x { moment = Some moment }) refl refl refl n)) so_far.tidy.short;
          late = late_unjudged a e e.body (record x { moment = Some moment }) (ap (λ (y : Answers). y.verdict) nothing);
          renewed = renewed_again e.body x (record x { moment = Some moment }) refl (inl refl) so_far.tidy.renewed;
        };
        right = record {
          moment = λ m same. let is : moment ≡ m = cc in subst (λ (k : ℕ). k < NUMBERS) is below;
          opened = so_far.right.opened;
          linked = so_far.right.linked;
          fetched = so_far.right.fetched;
        };
        linked = so_far.linked;
        unfetched = so_far.unfetched;
        above = λ m same. (asked_above cursor a e x Question.Moment asks).0;
      }

  pub refresh_asked : (new : Panel) → Asks Question.Refresh → IsCall (refreshes e.did) mid new → AreAsked clock_tells last cursor a host e (record x { refreshed = true }) old moments new left
  refresh_asked new asks call =
      let at = body_at Question.Refresh (λ k. absurd cc) (λ k. absurd cc) asks in
      let identity = identity_asked a e.body x at.waits_at in
      let not_yet : x.refreshed ≡ false = not_true x.refreshed (still_open Question.Refresh asks) in
      let no_home = renewed_last e.body x identity so_far.tidy.renewed not_yet in
      let no_verdict = late_first a e e.body x so_far.tidy.late no_home in
      let P : Bool → Type 0 = λ b. AreCalls old (refresh_told e.did b ++ (home_told e.did host x.home ++ verdict_told e x.verdict)) mid in
      let Q : Option Bool → Type 0 = λ h. AreCalls old (home_told e.did host h ++ verdict_told e x.verdict) mid in
      let R : Option Bool → Type 0 = λ v. AreCalls old (verdict_told e v) mid in
      let none : AreCalls old [] mid = subst R no_verdict (subst Q no_home (subst P not_yet so_far.calls)) in
      let S : Option Bool → Type 0 = λ h. AreCalls old (refreshes e.did ∷ (home_told e.did host h ++ verdict_told e x.verdict)) new in
      let T : Option Bool → Type 0 = λ v. AreCalls old (refreshes e.did ∷ verdict_told e v) new in
      record {
        calls = subst S (sym no_home) (subst T (sym no_verdict) (join old mid new [] (refreshes e.did ∷ []) none (new, call, refl)));
        timed = so_far.timed;
        tidy = record {
          early = λ none. absurd (some_none x.moment at.moment.0 at.moment.1 none);
          short = inl at.short;
          late = late_unjudged a e e.body (record x { refreshed = true }) no_verdict;
          renewed = renewed_now e.body x identity;
        };
        right = record { moment = so_far.right.moment; opened = so_far.right.opened; linked = so_far.right.linked; fetched = so_far.right.fetched };
        linked = so_far.linked;
        unfetched = so_far.unfetched;
        above = so_far.above;
      }

  pub home_asked : (new : Panel) (is_home : Bool) → Asks Question.Home → IsCall (answers (asks_home e.did host) is_home) mid new → AreAsked clock_tells last cursor a host e (record x { home = Some is_home }) old moments new left
  home_asked new is_home asks call =
      let at = body_at Question.Home (λ k. absurd cc) (λ k. absurd cc) asks in
      let no_home : x.home ≡ None = not_some x.home (still_open Question.Home asks) in
      let no_verdict = late_first a e e.body x so_far.tidy.late no_home in
      let front = refresh_told e.did x.refreshed in
      let P : Option Bool → Type 0 = λ h. AreCalls old (front ++ (home_told e.did host h ++ verdict_told e x.verdict)) mid in
      let Q : Option Bool → Type 0 = λ v. AreCalls old (front ++ verdict_told e v) mid in
      let so : AreCalls old (front ++ []) mid = subst Q no_verdict (subst P no_home so_far.calls) in
      let T : Option Bool → Type 0 = λ v. AreCalls old (front ++ (answers (asks_home e.did host) is_home ∷ verdict_told e v)) new in
      record {
        calls = subst T (sym no_verdict) (calls_more old mid new front (answers (asks_home e.did host) is_home ∷ []) so (new, call, refl));
        timed = so_far.timed;
        tidy = record {
          early = λ none. absurd (some_none x.moment at.moment.0 at.moment.1 none);
          short = inl at.short;
          late = late_unjudged a e e.body (record x { home = Some is_home }) no_verdict;
          renewed = renewed_again e.body x (record x { home = Some is_home }) refl (inr (home_renewed a e.body x at.waits_at)) so_far.tidy.renewed;
        };
        right = record { moment = so_far.right.moment; opened = so_far.right.opened; linked = so_far.right.linked; fetched = so_far.right.fetched };
        linked = so_far.linked;
        unfetched = so_far.unfetched;
        above = so_far.above;
      }

  pub open_asked : (answer : Result Head Refusal) → Asks Question.Open → IsOpenedAs e.body (last_rev a.repo) answer → AreAsked clock_tells last cursor a host e (record x { opened = Some answer }) old moments mid left
  open_asked answer asks right =
      let at = body_at Question.Open (λ k. absurd cc) (λ k. absurd cc) asks in
      let none : x.opened ≡ None = not_some x.opened (still_open Question.Open asks) in
      record {
        calls = so_far.calls;
        timed = so_far.timed;
        tidy = record {
          early = λ none. absurd (some_none x.moment at.moment.0 at.moment.1 none);
          short = inl at.short;
          late = late_unjudged a e e.body (record x { opened = Some answer }) (late_opened a e e.body x so_far.tidy.late none);
          renewed = renewed_again e.body x (record x { opened = Some answer }) refl (inl refl) so_far.tidy.renewed;
        };
        right = record {
          moment = so_far.right.moment;
          opened = λ other same. let is : answer ≡ other = cc in let P : Result Head Refusal → Type 0 = λ r. IsOpenedAs e.body (last_rev a.repo) r in subst P is right;
          linked = so_far.right.linked;
          fetched = so_far.right.fetched;
        };
        linked = so_far.linked;
        unfetched = so_far.unfetched;
        above = so_far.above;
      }

  pub verdict_asked : (new : Panel) (good : Bool) → Asks Question.Verdict → AreCalls mid (verdict_call e.did (signed_by e.body) good) new → AreAsked clock_tells last cursor a host e (record x { verdict = Some good }) old moments new left
  verdict_asked new good asks called =
      let at = body_at Question.Verdict (λ k. absurd cc) (λ k. absurd cc) asks in
      let none : x.verdict ≡ None = not_some x.verdict (still_open Question.Verdict asks) in
      let passed = skipped_before a e e.body x Question.Verdict (λ k. absurd cc) (λ k. absurd cc) (λ k. absurd cc) at.short at.waits_at in
      let front = refresh_told e.did x.refreshed in
      let home = home_told e.did host x.home in
      let P : Option Bool → Type 0 = λ v. AreCalls old (front ++ (home ++ verdict_told e v)) mid in
      let so : AreCalls old (front ++ (home ++ [])) mid = subst P none so_far.calls in
      let Q : List Call → Type 0 = λ l. AreCalls old l mid in
      let flat : AreCalls old ((front ++ home) ++ []) mid = subst Q (sym (append_assoc front home [])) so in
      let R : List Call → Type 0 = λ l. AreCalls old l new in
      let more = verdict_call e.did (signed_by e.body) good in
      record {
        calls = subst R (append_assoc front home more) (calls_more old mid new (front ++ home) more flat called);
        timed = so_far.timed;
        tidy = record {
          early = λ none. absurd (some_none x.moment at.moment.0 at.moment.1 none);
          short = inl at.short;
          late = late_judged a e e.body x (Some good) passed;
          renewed = renewed_again e.body x (record x { verdict = Some good }) refl (inl refl) so_far.tidy.renewed;
        };
        right = record { moment = so_far.right.moment; opened = so_far.right.opened; linked = so_far.right.linked; fetched = so_far.right.fetched };
        linked = so_far.linked;
        unfetched = so_far.unfetched;
        above = so_far.above;
      }

  pub link_asked : (answer : Result (Unit {0}) Refusal) → Asks Question.Link → IsLinkAnswer a.repo e answer → AreAsked clock_tells last cursor a host e (record x { linked = Some answer }) old moments mid left
  link_asked answer asks right =
      let at = body_at Question.Link (λ k. absurd cc) (λ k. absurd cc) asks in
      record {
        calls = so_far.calls;
        timed = so_far.timed;
        tidy = record {
          early = λ none. absurd (some_none x.moment at.moment.0 at.moment.1 none);
          short = inl at.short;
          late = late_linked a e e.body x (Some answer) so_far.tidy.late;
          renewed = renewed_again e.body x (record x { linked = Some answer }) refl (inl refl) so_far.tidy.renewed;
        };
        right = record {
          moment = so_far.right.moment;
          opened = so_far.right.opened;
          linked = λ c h r body same. let is : answer ≡ Err r = cc in right.stops c h r body is;
          fetched = so_far.right.fetched;
        };
        linked = λ other same. let is : answer ≡ other = cc in let P : Result (Unit {0}) Refusal → Type 0 = λ r. IsLinkAnswer a.repo e r in subst P is right;
        unfetched = so_far.unfetched;
        above = so_far.above;
      }

-- ---- what a question needs of what was read

module _ (cursor : ℕ) (a : State) (e : Seen) (x : Answers) where
  pub opens_blocks : next_of cursor a (Frame.Event e) x ≡ Next.Ask Question.Open → has_blocks e.body ≡ true
  opens_blocks asks =
      let at = at_body a e x Question.Open (λ k. absurd cc) (event_waits cursor a e x Question.Open (λ k. absurd cc) asks) in
      blocks_asked a e.body x Question.Open (λ k. absurd cc) (λ k. absurd cc) at.waits_at

  pub links_commit : next_of cursor a (Frame.Event e) x ≡ Next.Ask Question.Link → is_commit e.body ≡ true
  links_commit asks =
      let at = at_body a e x Question.Link (λ k. absurd cc) (event_waits cursor a e x Question.Link (λ k. absurd cc) asks) in
      commit_asked a e.body x at.waits_at

  opened_of : (body : Body) → IsSkippedBefore a e body x → (head : Head) × (x.opened ≡ Some (Ok head))
  opened_of (Body.Commit c) p = (p.head, p.opened)
  opened_of (Body.Sync s) p = (p.head, p.opened)
  opened_of Body.Identity p = absurd p
  opened_of (Body.Account b) p = absurd p

  pub judges_opened : next_of cursor a (Frame.Event e) x ≡ Next.Ask Question.Verdict → (head : Head) × (x.opened ≡ Some (Ok head))
  judges_opened asks =
      let at = at_body a e x Question.Verdict (λ k. absurd cc) (event_waits cursor a e x Question.Verdict (λ k. absurd cc) asks) in
      opened_of e.body (skipped_before a e e.body x Question.Verdict (λ k. absurd cc) (λ k. absurd cc) (λ k. absurd cc) at.short at.waits_at)

  pub links_opened : next_of cursor a (Frame.Event e) x ≡ Next.Ask Question.Link → (head : Head) × (x.opened ≡ Some (Ok head))
  links_opened asks =
      let at = at_body a e x Question.Link (λ k. absurd cc) (event_waits cursor a e x Question.Link (λ k. absurd cc) asks) in
      opened_of e.body (skipped_before a e e.body x Question.Link (λ k. absurd cc) (λ k. absurd cc) (λ k. absurd cc) at.short at.waits_at)

-- ---- one question less

module _ (cursor : ℕ) (a : State) (f : Frame) (x : Answers) where
  open_at : (q : Question) → next_of cursor a f x ≡ Next.Ask q → is_open q x ≡ true
  open_at q asks = ask_open cursor a f x q asks

  pub moment_falls : (m : ℕ) → next_of cursor a f x ≡ Next.Ask Question.Moment → open_count (record x { moment = Some m }) < open_count x
  moment_falls m asks = rw (open_at Question.Moment asks) (omega arith)

  pub refresh_falls : next_of cursor a f x ≡ Next.Ask Question.Refresh → open_count (record x { refreshed = true }) < open_count x
  refresh_falls asks = rw (open_at Question.Refresh asks) (omega arith)

  pub home_falls : (b : Bool) → next_of cursor a f x ≡ Next.Ask Question.Home → open_count (record x { home = Some b }) < open_count x
  home_falls b asks = rw (open_at Question.Home asks) (omega arith)

  pub open_falls : (r : Result Head Refusal) → next_of cursor a f x ≡ Next.Ask Question.Open → open_count (record x { opened = Some r }) < open_count x
  open_falls r asks = rw (open_at Question.Open asks) (omega arith)

  pub verdict_falls : (b : Bool) → next_of cursor a f x ≡ Next.Ask Question.Verdict → open_count (record x { verdict = Some b }) < open_count x
  verdict_falls b asks = rw (open_at Question.Verdict asks) (omega arith)

  pub link_falls : (r : Result (Unit {0}) Refusal) → next_of cursor a f x ≡ Next.Ask Question.Link → open_count (record x { linked = Some r }) < open_count x
  link_falls r asks = rw (open_at Question.Link asks) (omega arith)

-- ---- as the code has it

pub asks_as : (cursor : ℕ) (a : State) (f : Frame) (x : Answers) (q p : Question) → next_of cursor a f x ≡ Next.Ask q → q ≡ p → next_of cursor a f x ≡ Next.Ask p
asks_as cursor a f x q p asks same = asks ∙ ap Next.Ask same

pub home_call : (d did host : List ℕ) (is_home : Bool) (old new : Panel) → d ≡ did → IsCall (answers (asks_home d host) is_home) old new → IsCall (answers (asks_home did host) is_home) old new
home_call d did host is_home old new same call = let P : List ℕ → Type 0 = λ x. IsCall (answers (asks_home x host) is_home) old new in subst P same call

pub refresh_call : (d did : List ℕ) (old new : Panel) → d ≡ did → IsCall (refreshes d) old new → IsCall (refreshes did) old new
refresh_call d did old new same call = let P : List ℕ → Type 0 = λ x. IsCall (refreshes x) old new in subst P same call

pub opened_beside : (body : Body) (last : Option ℕ) (repo : Repo) (a : State) (answer : Result Head Refusal) → last ≡ last_rev repo → repo ≡ a.repo → IsOpenedAs body last answer → IsOpenedAs body (last_rev a.repo) answer
opened_beside body last repo a answer one two is = let P : Option ℕ → Type 0 = λ l. IsOpenedAs body l answer in subst P (one ∙ ap last_rev two) is

pub read_of : (body : Body) (o : Option (Result Head Refusal)) (r : Read) (head : Head) → o ≡ Some (Ok head) → IsReadFor body o r → IsReadOf body r
read_of body o r head same is = let P : Option (Result Head Refusal) → Type 0 = λ k. IsReadFor body k r in subst P same is

pub linked_beside : (repo : Repo) (a : State) (e : Seen) (answer : Result (Unit {0}) Refusal) → repo ≡ a.repo → IsLinkAnswer repo e answer → IsLinkAnswer a.repo e answer
linked_beside repo a e answer same is = let P : Repo → Type 0 = λ r. IsLinkAnswer r e answer in subst P same is

pub opened_seen : (one other : Body) (last : Option ℕ) (answer : Result Head Refusal) → one ≡ other → IsOpenedAs one last answer → IsOpenedAs other last answer
opened_seen one other last answer same is = let P : Body → Type 0 = λ b. IsOpenedAs b last answer in subst P same is
