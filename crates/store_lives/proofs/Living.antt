-- Each journal of a machine's life comes from those before it.
use Rattle.std.proofs.Common.{◌≡◌, ◌≢◌, ◌⊎◌, inl, inr, ⊎_elim, ℕ, Bool, List, [], ◌∷◌, ◌++◌, Option, Some, None, Result, Ok, Err, IfOk, IsTrue, refl, sym, ◌∙◌, ap, subst, arith}
use Rattle.std.proofs.lemmas.List.{append-nil}
use Rattle.relay_disk.specs.Disk.{View, IsDisk}
use Rattle.relay_disk.specs.Moments.{LeavesOnly, PairLeavesOnly}
use Rattle.relay_disk.proofs.Moments.{no_call, pair_now_too, pair_weaker, still}
use Rattle.gate_log.specs.Pick.{LeavesSide, view_of_side}
use Rattle.gate_log.specs.declared.picking.Side.{Side}
use Rattle.gate_log.specs.declared.picking.Side.TheVariants.{One, Two}
use Rattle.relay_row.specs.declared.row.Row.{Row}
use Rattle.cut_law.specs.Cut.{cut}
use Rattle.cut_law.specs.Lives.{ComesFrom}
use Rattle.cut_law.proofs.Changing.{comes_cut, comes_itself, comes_longer}
use Rattle.relay_step.specs.declared.command.CommandAnswer.{CommandAnswer}
use Rattle.relay_store.specs.Journals.{IsOneOf, IsPairImageOf, IsPairJournalOfOne, LeavesPairJournals}
use Rattle.relay_store.specs.Store.{StoreState, IsOf, Keeps, seen_in}
use Rattle.store_take.specs.Commands.{CommandDone}
use Rattle.store_take.specs.declared.done.Done.{Done}
use Rattle.relay_store.specs.declared.fault.StoreFault.{StoreFault}
use Rattle.relay_store.specs.declared.store.Store.{Store}
use Rattle.relay_store.proofs.Images.{kept_log, same_kept, same_pair_journal}
use Rattle.store_lives.specs.Laws.{HasIn, Has, EachComesFrom, AllCome, AnswersAreKept, HasAnswered, AnswersStand}
use Rattle.store_lives.specs.Lives.{Machine, IsCall, Calls, Opens, Cuts, Rereads, GoesFrom, Goes, Crashes, Steps, LivesFrom, disk_of, fault_cut, fault_said, open_after, rows_answered, rows_of_command, stopped, store_in}
use Rattle.store_lives.proofs.Cut.{came_of_cut}
use Rattle.store_lives.proofs.Pairs.{HasComing, IsOnSide, call_leaves}

of_kept : (J : List Row) (s : StoreState) (v : View) → Keeps J s v → IsOf J s.core
of_kept J s v keeps = record { holds = keeps.core; journal = keeps.are.journal }

-- only a failure of the disk is answered as one
said_disk : (result : Result Done StoreFault) → result ≡ Err StoreFault.Disk → fault_said result ≡ Some StoreFault.Disk
said_disk result is = ap fault_said is

view_at : {D : Type 0} (view : D → View) (side : Side) (m : Machine D) (J : List Row) (s : StoreState) → Keeps J s (view_of_side side (view m.one) (view m.two)) → Keeps J s (view (disk_of side m))
view_at view One m J s keeps = keeps
view_at view Two m J s keeps = keeps

module _ {D : Type 0} (view : D → View) (tells : Bool) (told : IsTrue tells) (disks : (d : D) → IsDisk (view d)) where
  -- what a call did on the disk of the store's side, behind the journal J
  record Did (J answered : List Row) (s s_now : StoreState) (d d_now : D) (not_disk : Type 0) : Type 0 where
    rows : List Row
    run : LeavesOnly (IsOneOf s.log.format J rows) (view d) (view d_now)
    keeps : not_disk → Keeps (J ++ answered) s_now (view d_now)

  did_nothing : (J : List Row) (s s_now : StoreState) (d d_now : D) (not_disk : Type 0) → Keeps J s (view d) → s_now ≡ s → d_now ≡ d → Did J [] s s_now d d_now not_disk
  did_nothing J s s_now d d_now not_disk keeps same_store same_disk = record {
    rows = [];
    run = subst (λ (x : D). LeavesOnly (IsOneOf s.log.format J []) (view d) (view x)) (sym same_disk)
        (no_call (IsOneOf s.log.format J []) (view d) (disks d) (λ c left. inl (kept_log J s (view d) keeps c left)));
    keeps = λ not.
        subst (λ (x : D). Keeps (J ++ []) s_now (view x)) (sym same_disk)
        (subst (λ (t : StoreState). Keeps (J ++ []) t (view d)) (sym same_store) (subst (λ (K : List Row). Keeps K s (view d)) (sym (append-nil J)) keeps));
  }

  said : (J : List Row) (is_command : CommandAnswer → Type 0) (failed : Type 0) (s s_now : StoreState) (d d_now : D) (result : Result Done StoreFault) → Keeps J s (view d)
      → (commanded : CommandDone view tells J is_command failed s s_now d d_now result) → Did J (rows_of_command view tells J is_command failed s s_now d d_now result commanded) s s_now d d_now (result ≢ Err StoreFault.Disk)
  said J is_command failed s s_now d d_now result keeps (inl (command, is, journal, commanded)) = record { rows = _; run = commanded.moments told keeps; keeps = λ not. commanded.keeps not told keeps }
  said J is_command failed s s_now d d_now result keeps (inr unsaid) = did_nothing J s s_now d d_now (result ≢ Err StoreFault.Disk) keeps unsaid.same unsaid.disk_same

  by_fault : (J answered : List Row) (s s_now : StoreState) (d d_now : D) (result : Result Done StoreFault) (fault : Option StoreFault) → fault ≡ fault_said result
      → Did J answered s s_now d d_now (result ≢ Err StoreFault.Disk) → Did J answered s s_now d d_now (fault ≢ Some StoreFault.Disk)
  by_fault J answered s s_now d d_now result fault is did = record { rows = did.rows; run = did.run; keeps = λ not. did.keeps (λ disk. not (is ∙ said_disk result disk)) }

  did : (J : List Row) (s s_now : StoreState) (d d_now : D) (fault : Option StoreFault) (of : IsOf J s.core) (call : IsCall view tells s s_now d d_now fault) → Keeps J s (view d)
      → Did J (rows_answered view tells J s s_now d d_now fault of call) s s_now d d_now (fault ≢ Some StoreFault.Disk)
  did J s s_now d d_now fault of (inl takes) keeps = let b = takes.batched J of in record { rows = _; run = b.moments told keeps; keeps = λ not. b.keeps not told keeps }
  did J s s_now d d_now fault of (inr (result, is, inl operates)) keeps = by_fault J _ s s_now d d_now result fault is (said J _ _ s s_now d d_now result keeps (operates.commanded J of))
  did J s s_now d d_now fault of (inr (result, is, inr syncs)) keeps = by_fault J _ s s_now d d_now result fault is (said J _ _ s s_now d d_now result keeps (syncs.commanded J of))

  -- what was answered is kept
  still_open : (fault : Option StoreFault) (s : StoreState) → fault ≢ Some StoreFault.Disk → open_after fault s ≡ Some s
  still_open None s not = refl
  still_open (Some StoreFault.Disk) s not = absurd (not refl)
  still_open (Some (StoreFault.BadLog place)) s not = refl
  still_open (Some (StoreFault.Full end)) s not = refl
  still_open (Some StoreFault.SeqEnd) s not = refl
  still_open (Some StoreFault.Authority) s not = refl
  still_open (Some StoreFault.Repos) s not = refl
  still_open (Some StoreFault.Memory) s not = refl
  still_open (Some StoreFault.Clock) s not = refl

  pub kept : AnswersAreKept view tells
  kept s old now calls J of not has =
      let what = did J s calls.s_now (disk_of s.side old) (disk_of s.side now) calls.fault of calls.call has in
      let K : List Row = J ++ rows_answered view tells J s calls.s_now (disk_of s.side old) (disk_of s.side now) calls.fault of calls.call in
      subst (λ (o : Option StoreState). HasIn view K o now) (sym (calls.store ∙ still_open calls.fault calls.s_now not))
      (subst (λ (side : Side). Keeps K calls.s_now (view (disk_of side now))) (sym calls.side) (what.keeps not))

  answered_there : (J rows : List Row) (m next : Machine D) → HasAnswered view tells J rows m next → Has view J m → Has view (J ++ rows) next
  answered_there J rows m next a has =
      let there = subst (λ (o : Option StoreState). HasIn view J o m) a.open_there has in
      subst (λ (R : List Row). Has view (J ++ R) next) (sym a.rows_are) (kept a.store m next a.calls J a.of a.answers there)

module _ {D : Type 0} (view : D → View) (tells : Bool) (told : IsTrue tells) (disks : (d : D) → IsDisk (view d)) (passes : ℕ → Bool) where
  -- the open store has a journal that comes from this one, and its side is picked of all that a crash may leave
  record IsRunning (C : List Row) (s : StoreState) (m : Machine D) : Type 0 where
    journal : List Row
    comes : ComesFrom passes C journal
    keeps : Keeps journal s (view (disk_of s.side m))
    picked : LeavesSide s.side (view m.one) (view m.two)

  -- what is certain: each pair that a crash may leave is an image of a journal that comes from this one
  abbrev IsSafeIn : List Row → Option StoreState → Machine D → Type 0
  IsSafeIn C None m = (c d : List ℕ) → (view m.one).may_leave c → (view m.two).may_leave d → HasComing passes C c d
  IsSafeIn C (Some s) m = IsRunning C s m

  abbrev IsSafe : List Row → Machine D → Type 0
  IsSafe C m = IsSafeIn C m.store m

  abbrev LeavesAll : List Row → Machine D → Machine D → Type 0
  LeavesAll C old now = PairLeavesOnly (HasComing passes C) (view old.one) (view now.one) (view old.two) (view now.two)

  left_now : (C : List Row) (old now : Machine D) → LeavesAll C old now → IsSafeIn C None now
  left_now C old now run = pair_now_too (HasComing passes C) (view old.one) (view now.one) (view old.two) (view now.two) (disks now.one) (disks now.two) run

  at : (C : List Row) (o : Option StoreState) (m : Machine D) → m.store ≡ o → IsSafeIn C o m → IsSafe C m
  at C o m is safe = subst (λ (x : Option StoreState). IsSafeIn C x m) (sym is) safe

  crashed : (C : List Row) (old now next : Machine D) → LeavesAll C old now → Crashes view tells old now next → IsSafe C next
  crashed C old now next run crash = at C None next crash.no_store (λ c d left beside.
      subst (λ (x : List ℕ). HasComing passes C x d) (sym (crash.one_settled.only c left))
      (subst (λ (y : List ℕ). HasComing passes C crash.first y) (sym (crash.two_settled.only d beside)) (run.each crash.first crash.second crash.first_left crash.second_left)))

  -- what comes of a machine, and what a crash on the way leaves
  record Went (C : List Row) (old now : Machine D) : Type 0 where
    run : LeavesAll C old now
    safe : IsSafe C now

  stepped : (C : List Row) (old now next : Machine D) → Went C old now → (next ≡ now) ⊎ Crashes view tells old now next → IsSafe C next
  stepped C old now next went (inl same) = subst (IsSafe C) (sym same) went.safe
  stepped C old now next went (inr crash) = crashed C old now next went.run crash

  -- ---- a call

  closed_or_not : (C : List Row) (fault : Option StoreFault) (s : StoreState) (m : Machine D) → ((fault ≢ Some StoreFault.Disk) → IsRunning C s m) → IsSafeIn C None m → IsSafeIn C (open_after fault s) m
  closed_or_not C None s m runs safe = runs (λ e. absurd cc)
  closed_or_not C (Some StoreFault.Disk) s m runs safe = safe
  closed_or_not C (Some (StoreFault.BadLog place)) s m runs safe = runs (λ e. absurd cc)
  closed_or_not C (Some (StoreFault.Full end)) s m runs safe = runs (λ e. absurd cc)
  closed_or_not C (Some StoreFault.SeqEnd) s m runs safe = runs (λ e. absurd cc)
  closed_or_not C (Some StoreFault.Authority) s m runs safe = runs (λ e. absurd cc)
  closed_or_not C (Some StoreFault.Repos) s m runs safe = runs (λ e. absurd cc)
  closed_or_not C (Some StoreFault.Memory) s m runs safe = runs (λ e. absurd cc)
  closed_or_not C (Some StoreFault.Clock) s m runs safe = runs (λ e. absurd cc)

  called : (C : List Row) (s : StoreState) (old now : Machine D) → IsRunning C s old → Calls view tells s old now → Went C old now
  called C s old now runs calls =
      let of = of_kept runs.journal s (view (disk_of s.side old)) runs.keeps in
      let what = did view tells told disks runs.journal s calls.s_now (disk_of s.side old) (disk_of s.side now) calls.fault of calls.call runs.keeps in
      let answered : List Row = rows_answered view tells runs.journal s calls.s_now (disk_of s.side old) (disk_of s.side now) calls.fault of calls.call in
      let both = call_leaves view disks passes C runs.journal what.rows s runs.comes s.side old now runs.keeps runs.picked calls.beside what.run in
      let run : LeavesAll C old now = pair_weaker (IsOnSide passes C s.side) (HasComing passes C) (view old.one) (view now.one) (view old.two) (view now.two) both (λ c d is. is.all) in
      let picked : LeavesSide s.side (view now.one) (view now.two) = λ c d left beside. (pair_now_too (IsOnSide passes C s.side) (view old.one) (view now.one) (view old.two) (view now.two) (disks now.one) (disks now.two) both c d left beside).picked in
      record {
        run = run;
        safe = at C (open_after calls.fault calls.s_now) now calls.store (closed_or_not C calls.fault calls.s_now now
            (λ not. record {
              journal = runs.journal ++ answered;
              comes = comes_longer passes C runs.journal answered runs.comes (what.keeps not).are.journal;
              keeps = subst (λ (side : Side). Keeps (runs.journal ++ answered) calls.s_now (view (disk_of side now))) (sym calls.side) (what.keeps not);
              picked = subst (λ (side : Side). LeavesSide side (view now.one) (view now.two)) (sym calls.side) picked;
            })
            (left_now C old now run));
      }

  -- ---- a cut

  was_cut : (C : List Row) (s : StoreState) (old now : Machine D) → IsRunning C s old → Cuts view tells passes s old now → Went C old now
  was_cut C s old now runs cuts =
      let J = runs.journal in
      let came = came_of_cut view tells told passes J s old now cuts runs.keeps runs.picked in
      let after : ComesFrom passes C (cut J cuts.number) = comes_cut passes C J cuts.number runs.comes cuts.at runs.keeps.are.journal came.may in
      let run : LeavesAll C old now =
      pair_weaker (λ c d. IsPairImageOf J c d ⊎ IsPairImageOf (cut J cuts.number) c d) (HasComing passes C) (view old.one) (view now.one) (view old.two) (view now.two) came.moments
      (λ c d is. ⊎_elim
      (λ same. record { journal = J; comes = runs.comes; image = same })
      (λ changed. record { journal = cut J cuts.number; comes = after; image = changed })
      is) in
      record {
        run = run;
        safe = at C (open_after (fault_cut cuts.result) cuts.s_now) now cuts.store (closed_or_not C (fault_cut cuts.result) cuts.s_now now
            (λ not. ⊎_elim
            (λ same. record { journal = J; comes = runs.comes; keeps = same; picked = came.picked not })
            (λ changed. record { journal = cut J cuts.number; comes = after; keeps = changed; picked = came.picked not })
            (came.keeps not))
            (left_now C old now run));
      }

  -- ---- an opening

  found : (C : List Row) (old : Machine D) → IsSafeIn C None old → (c d : List ℕ) → IsPairJournalOfOne (view old.one) (view old.two) c d → HasComing passes C c d
  found C old safe c d is =
      let may = is.1 in
      let had = safe may.0 may.1 may.2 may.3 in
      let same : is.0 ≡ had.journal = same_pair_journal is.0 had.journal may.0 may.1 may.4 had.image in
      record { journal = is.0; comes = subst (ComesFrom passes C) (sym same) had.comes; image = is.2 }

  -- the journal of a store that was opened, whatever is certain of the disks
  opened_as : (C : List Row) (old now : Machine D) (s : StoreState) (J : List Row) → ComesFrom passes C J → Keeps J s (view_of_side s.side (view now.one) (view now.two)) → LeavesSide s.side (view now.one) (view now.two) → IsRunning C s now
  opened_as C old now s J comes keeps picked = record { journal = J; comes = comes; keeps = view_at view s.side now J s keeps; picked = picked }

  abbrev KeepsOpened : Machine D → Machine D → Result Store StoreFault → Type 0
  KeepsOpened old now result = IfOk result (λ s. IsTrue tells → (J : List Row) × IsPairImageOf J (view old.one).content (view old.two).content × Keeps J (seen_in s) (view_of_side s.side (view now.one) (view now.two)))

  abbrev PicksOpened : Machine D → Result Store StoreFault → Type 0
  PicksOpened now result = IfOk result (λ s. IsTrue tells → LeavesSide s.side (view now.one) (view now.two))

  opened_in : (C : List Row) (old now : Machine D) (result : Result Store StoreFault) → ((J : List Row) → IsPairImageOf J (view old.one).content (view old.two).content → ComesFrom passes C J)
      → KeepsOpened old now result → PicksOpened now result → IsSafeIn C None now → IsSafeIn C (store_in result) now
  opened_in C old now (Ok s) fronts keeps picks safe = let on = keeps told in opened_as C old now (seen_in s) on.0 (fronts on.0 on.1) on.2 (picks told)
  opened_in C old now (Err fault) fronts keeps picks safe = safe

  opens : (C : List Row) (old now : Machine D) → IsSafeIn C None old → Opens view tells old now → Went C old now
  opens C old now safe opening =
      let journals : LeavesPairJournals (view old.one) (view old.two) = λ c d left beside. let is = safe c d left beside in (is.journal, is.image) in
      let run : LeavesAll C old now = pair_weaker (IsPairJournalOfOne (view old.one) (view old.two)) (HasComing passes C) (view old.one) (view now.one) (view old.two) (view now.two) (opening.opened.moments told journals) (found C old safe) in
      let had = safe (view old.one).content (view old.two).content (disks old.one).possible (disks old.two).possible in
      record {
        run = run;
        safe = at C (store_in opening.result) now opening.store (opened_in C old now opening.result
            (λ J image. subst (ComesFrom passes C) (sym (same_pair_journal J had.journal (view old.one).content (view old.two).content image had.image)) had.comes)
            opening.opened.keeps opening.opened.side (left_now C old now run));
      }

  -- ---- a store that is let go

  here : (C : List Row) (old : Machine D) → IsSafeIn C None old → LeavesAll C old old
  here C old safe = record {
    one_later = omega arith;
    two_later = omega arith;
    each = λ c d left beside. safe c d ((disks old.one).only_now c left) ((disks old.two).only_now d beside);
  }

  unopened : (C : List Row) (o : Option StoreState) (old : Machine D) → IsSafeIn C o old → IsSafeIn C None old
  unopened C None old safe = safe
  unopened C (Some s) old runs =
      let keeps = runs.keeps in
      let both = call_leaves view disks passes C runs.journal [] s runs.comes s.side old old keeps runs.picked refl
      (no_call (IsOneOf s.log.format runs.journal []) (view (disk_of s.side old)) (disks (disk_of s.side old)) (λ c left. inl (kept_log runs.journal s (view (disk_of s.side old)) keeps c left))) in
      λ c d left beside. (pair_now_too (IsOnSide passes C s.side) (view old.one) (view old.one) (view old.two) (view old.two) (disks old.one) (disks old.two) both c d left beside).all

  let_go : (C : List Row) (old now : Machine D) → IsSafe C old → now ≡ stopped old → Went C old now
  let_go C old now safe is =
      let none = unopened C old.store old safe in
      subst (Went C old) (sym is) (record { run = here C old none; safe = none })

  -- ---- a reading of events

  reread : (C : List Row) (s : StoreState) (old now : Machine D) → IsRunning C s old → Rereads view tells s old now → Went C old now
  reread C s old now runs rereads =
      let here : (c : List ℕ) → (view (disk_of s.side old)).may_leave c → IsOneOf s.log.format runs.journal [] c = λ c left. inl (kept_log runs.journal s (view (disk_of s.side old)) runs.keeps c left) in
      let leaves = still (IsOneOf s.log.format runs.journal []) _ _ _ (disks (disk_of s.side old)) (disks (disk_of s.side now)) (no_call (IsOneOf s.log.format runs.journal []) _ (disks (disk_of s.side old)) here) here rereads.reread.goes in
      let both = call_leaves view disks passes C runs.journal [] s runs.comes s.side old now runs.keeps runs.picked rereads.beside leaves in
      record {
        run = pair_weaker (IsOnSide passes C s.side) (HasComing passes C) (view old.one) (view now.one) (view old.two) (view now.two) both (λ c d is. is.all);
        safe = at C (Some s) now rereads.store (record {
          journal = runs.journal;
          comes = runs.comes;
          keeps = rereads.reread.keeps told runs.journal runs.keeps;
          picked = λ c d left beside. (pair_now_too (IsOnSide passes C s.side) (view old.one) (view now.one) (view old.two) (view now.two) (disks now.one) (disks now.two) both c d left beside).picked;
        });
      }

  -- ---- a life

  goes_from : (C : List Row) (o : Option StoreState) (old now : Machine D) → IsSafeIn C o old → GoesFrom view tells passes o old now → Went C old now
  goes_from C None old now safe opening = opens C old now safe opening
  goes_from C (Some s) old now runs (inl calls) = called C s old now runs calls
  goes_from C (Some s) old now runs (inr (inl cuts)) = was_cut C s old now runs cuts
  goes_from C (Some s) old now runs (inr (inr rereads)) = reread C s old now runs rereads

  goes : (C : List Row) (old now : Machine D) → IsSafe C old → Goes view tells passes old now → Went C old now
  goes C old now safe (inl from) = goes_from C old.store old now safe from
  goes C old now safe (inr gone) = let_go C old now safe gone

  steps : (C : List Row) (old next : Machine D) → IsSafe C old → Steps view tells passes old next → IsSafe C next
  steps C old next safe (now, what, ends) = stepped C old now next (goes C old now safe what) ends

  come_in : (C K : List Row) (o : Option StoreState) (m : Machine D) → IsSafeIn C o m → HasIn view K o m → ComesFrom passes C K
  come_in C K None m safe has = absurd has
  come_in C K (Some s) m runs has = subst (ComesFrom passes C) (same_kept runs.journal K s (view (disk_of s.side m)) runs.keeps has) runs.comes

  -- each later journal comes from what is certain at a machine
  each_behind : (C : List Row) (q : Machine D) (others : List (Machine D)) → IsSafe C q → LivesFrom view tells passes q others → EachComesFrom view passes C others
  each_behind C q [] safe lives = tt
  each_behind C q (next ∷ others) safe lives =
      let now : IsSafe C next = steps C q next safe lives.0 in
      (λ K has. come_in C K next.store next now has, each_behind C next others now lives.1)

  -- an open store has some journal, on the side that is picked
  abbrev IsKnownIn : Option StoreState → Machine D → Type 0
  IsKnownIn None m = Unit {0}
  IsKnownIn (Some s) m = (C : List Row) × IsRunning C s m

  abbrev IsKnown : Machine D → Type 0
  IsKnown m = IsKnownIn m.store m

  known_of : (C : List Row) (o : Option StoreState) (m : Machine D) → IsSafeIn C o m → IsKnownIn o m
  known_of C None m safe = tt
  known_of C (Some s) m runs = (C, runs)

  none_known : (m : Machine D) → m.store ≡ None → IsKnown m
  none_known m is = subst (λ (o : Option StoreState). IsKnownIn o m) (sym is) tt

  opened_known : (old now : Machine D) (result : Result Store StoreFault) → KeepsOpened old now result → PicksOpened now result → IsKnownIn (store_in result) now
  opened_known old now (Ok s) keeps picks = let on = keeps told in (on.0, opened_as on.0 old now (seen_in s) on.0 (comes_itself passes on.0 on.2.are.journal) on.2 (picks told))
  opened_known old now (Err fault) keeps picks = tt

  known_from : (o : Option StoreState) (old now : Machine D) → IsKnownIn o old → GoesFrom view tells passes o old now → IsKnown now
  known_from None old now known opening = subst (λ (o : Option StoreState). IsKnownIn o now) (sym opening.store) (opened_known old now opening.result opening.opened.keeps opening.opened.side)
  known_from (Some s) old now known (inl calls) = known_of known.0 now.store now (called known.0 s old now known.1 calls).safe
  known_from (Some s) old now known (inr (inl cuts)) = known_of known.0 now.store now (was_cut known.0 s old now known.1 cuts).safe
  known_from (Some s) old now known (inr (inr rereads)) = known_of known.0 now.store now (reread known.0 s old now known.1 rereads).safe

  known_goes : (old now : Machine D) → IsKnown old → Goes view tells passes old now → IsKnown now
  known_goes old now known (inl from) = known_from old.store old now known from
  known_goes old now known (inr gone) = none_known now (ap (λ (m : Machine D). m.store) gone)

  known_next : (old next : Machine D) → IsKnown old → Steps view tells passes old next → IsKnown next
  known_next old next known (now, what, inl same) = subst IsKnown (sym same) (known_goes old now known what)
  known_next old next known (now, what, inr crash) = none_known next crash.no_store

  safe_in : (J : List Row) (o : Option StoreState) (m : Machine D) → IsKnownIn o m → HasIn view J o m → IsSafeIn J o m
  safe_in J None m known has = absurd has
  safe_in J (Some s) m runs has = record { journal = J; comes = comes_itself passes J has.are.journal; keeps = has; picked = runs.1.picked }

  all_come : (m : Machine D) (others : List (Machine D)) → IsKnown m → LivesFrom view tells passes m others → AllCome view passes m others
  all_come m [] known lives = tt
  all_come m (next ∷ others) known lives = (
    λ J has. each_behind J m (next ∷ others) (safe_in J m.store m known has) lives,
    all_come next others (known_next m next known lives.0) lives.1,
  )

  pub come : (m : Machine D) (others : List (Machine D)) → m.store ≡ None → LivesFrom view tells passes m others → AllCome view passes m others
  come m others none lives = all_come m others (none_known m none) lives

  answers_from : (m : Machine D) (others : List (Machine D)) → IsKnown m → LivesFrom view tells passes m others → AnswersStand view tells passes m others
  answers_from m [] known lives = tt
  answers_from m (next ∷ others) known lives =
      let known_there = known_next m next known lives.0 in (
        λ J rows a has.
            let safe : IsSafe (J ++ rows) next = safe_in (J ++ rows) next.store next known_there (answered_there view tells told disks J rows m next a has) in
            (λ K later. come_in (J ++ rows) K next.store next safe later, each_behind (J ++ rows) next others safe lives.1),
        answers_from next others known_there lives.1,
      )

  pub stay : (m : Machine D) (others : List (Machine D)) → m.store ≡ None → LivesFrom view tells passes m others → AnswersStand view tells passes m others
  stay m others none lives = answers_from m others (none_known m none) lives
