-- What the messages of accepted events make of what is held, where it was the map to which the open chain replays.
use Rattle.std.proofs.Common.{◌≡◌, ℕ, Bool, true, false, not, ◌&&◌, ◌||◌, is_some, List, [], ◌∷◌, ◌++◌, Option, Some, None, Ok, refl, ap, sym, ◌∙◌, subst}
use Rattle.std.proofs.lemmas.Bool.{and_parts, or_parts, true≢false, eqb-true, not-false}
use Rattle.std.specs.List.{list_all, list_any}
use Rattle.at_event.specs.Events.{IsEvent}
use Rattle.at_event.specs.Frames.{frame_of}
use Rattle.at_event.specs.Seen.{Seen}
use Rattle.at_event.specs.declared.event.Body.{Body}
use Rattle.at_event.specs.declared.event.CommitEvent.{CommitEvent}
use Rattle.at_event.specs.declared.event.SyncEvent.{SyncEvent}
use Rattle.at_event.specs.declared.frame.Frame.{Frame}
use Rattle.at_event.specs.declared.frame.FrameFault.{FrameFault}
use Rattle.at_event.specs.declared.head.Head.{Head}
use Rattle.at_event.specs.declared.ops.Action.{Action}
use Rattle.at_event.specs.declared.ops.EventOp.{EventOp}
use Rattle.std.specs.Prelude.{Result}
use Rattle.event_checks.specs.Table.{block_lines, field_lines, has_links, is_op, is_stale}
use Rattle.event_checks.proofs.Firsts.{all_unmet, first_front}
use Rattle.at_event.specs.declared.refusal.Refusal.{Refusal}
use Rattle.mst_list.specs.declared.item.Item.{Item}
use Rattle.mst_list.specs.Edits.{Plays}
use Rattle.account_state.specs.Folds.{last_rev}
use Rattle.account_state.specs.declared.repo.Repo.{Repo}
use Rattle.commit_check.specs.Step.{edits_of, is_change, is_gap, is_since, lacks_prev, strays, empty_root}
use Rattle.at_car.specs.Sifting.{is_root}
use Rattle.commit_check.proofs.Formed.{edits_formed}
use Rattle.relay_law.specs.Right.{expect_of}
use Rattle.relay_law.specs.Sound.{IsCommit, GoesTo}
use Rattle.mirror.specs.Held.{Continues, IsAfterCommit, IsAfterSync, is_edit, states_edit}
use Rattle.mirror.specs.Repository.{Repositories, Answers}
use Rattle.mirror.specs.declared.holding.Holding.{Holding}
use Rattle.relay_law.specs.Heads.{CommitGives}
use Rattle.mirror_law.specs.Mirrored.{IsFirstMap, IsLastRev, IsSync, Replay}
use Rattle.mirror_law.specs.Open.{Beginning, OpenChain, base}
use Rattle.mirror_law.proofs.Once.{answers_once, plays_once}
use Rattle.mirror_law.proofs.Replayed.{replay_more}

-- the revision that is held beside what is known of a repository
abbrev pub IsRevOf : Repo → Option ℕ → Type 0
IsRevOf Repo.Missing rev = rev ≡ None
IsRevOf (Repo.Good head) rev = rev ≡ Some head.rev
IsRevOf (Repo.Lost last) rev = Unit {0}

-- what is held is the map to which the open chain replays, at its revision, whichever map it began with
abbrev pub HoldsChain : Repositories → Repo → OpenChain → Holding → Type 0
HoldsChain repositories repo chain held = (s t : List Item) → IsFirstMap repositories chain.began s → Replay s chain.commits t
    → (rev : Option ℕ) × (held ≡ Holding.Mapped rev t) × IsRevOf repo rev × IsLastRev chain.began chain.commits rev

-- ---- a message is read once

frame_is : (a b : Seen) → ◌≡◌ {A = Result Frame FrameFault} (Ok (Frame.Event a)) (Ok (Frame.Event b)) → a ≡ b
frame_is a b e = cc

commit_is : (a b : CommitEvent) → Body.Commit a ≡ Body.Commit b → a ≡ b
commit_is a b e = cc

sync_is : (a b : SyncEvent) → Body.Sync a ≡ Body.Sync b → a ≡ b
sync_is a b e = cc

pub same_event : (m : List ℕ) (a b : Seen) → frame_of m ≡ Ok (Frame.Event a) → frame_of m ≡ Ok (Frame.Event b) → a ≡ b
same_event m a b p q = frame_is a b (sym p ∙ q)

pub same_commit : (m : List ℕ) (e : Seen) (c d : CommitEvent) → frame_of m ≡ Ok (Frame.Event e) → e.body ≡ Body.Commit c → IsCommit m d → d ≡ c
same_commit m e c d reads body is = commit_is d c (sym is.says ∙ ap (λ (x : Seen). x.body) (same_event m is.event e is.reads reads) ∙ body)

pub same_sync : (m : List ℕ) (e : Seen) (y z : SyncEvent) → frame_of m ≡ Ok (Frame.Event e) → e.body ≡ Body.Sync y → IsSync m z → z ≡ y
same_sync m e y z reads body is = sync_is z y (sym is.says ∙ ap (λ (x : Seen). x.body) (same_event m is.event e is.reads reads) ∙ body)

-- ---- an accepted commit continues the map

none_is : {A : Type 0} (o : Option A) → is_some o ≡ false → o ≡ None
none_is None h = refl
none_is (Some x) h = absurd cc

rev_is : (o : Option ℕ) (r : ℕ) → is_since o r ≡ true → o ≡ Some r
rev_is None r h = absurd cc
rev_is (Some n) r h = ap (λ (k : ℕ). Some k) (eqb-true n r h)

since_is : (c : CommitEvent) (repo : Repo) (rev : Option ℕ) → is_gap c (expect_of repo) ≡ false → IsRevOf repo rev → c.since ≡ rev
since_is c Repo.Missing rev gap is =
    let strays_not = (or_parts (is_some c.since || (is_some c.prev_data && not (is_root c.prev_data empty_root))) (list_any lacks_prev c.ops) gap).0 in
    none_is c.since (or_parts (is_some c.since) (is_some c.prev_data && not (is_root c.prev_data empty_root)) strays_not).0 ∙ sym is
since_is c (Repo.Good head) rev gap is =
    let strays_not = (or_parts (not (is_since c.since head.rev && is_root c.prev_data head.data_root)) (list_any lacks_prev c.ops) gap).0 in
    rev_is c.since head.rev (and_parts (is_since c.since head.rev) (is_root c.prev_data head.data_root) (not-false (is_since c.since head.rev && is_root c.prev_data head.data_root) strays_not)).0 ∙ sym is
since_is c (Repo.Lost last) rev gap is = absurd (true≢false (or_parts true (list_any lacks_prev c.ops) gap).0)

one_stated : (a : Action) (was now : Bool) → has_links a now was ≡ true → is_change a && not was ≡ false → states_edit a was now ≡ true
one_stated Action.Create true true h g = absurd cc
one_stated Action.Create true false h g = absurd cc
one_stated Action.Create false true h g = refl
one_stated Action.Create false false h g = absurd cc
one_stated Action.Update true true h g = refl
one_stated Action.Update true false h g = absurd cc
one_stated Action.Update false true h g = absurd cc
one_stated Action.Update false false h g = absurd cc
one_stated Action.Delete true true h g = absurd cc
one_stated Action.Delete true false h g = refl
one_stated Action.Delete false true h g = absurd cc
one_stated Action.Delete false false h g = absurd cc
one_stated Action.Other was now h g = absurd cc

both_true : (a b : Bool) → a ≡ true → b ≡ true → a && b ≡ true
both_true true b h k = k
both_true false b h k = absurd cc

edits_stated : (ops : List EventOp) → list_all is_op ops ≡ true → list_any lacks_prev ops ≡ false → list_all is_edit ops ≡ true
edits_stated [] links prevs = refl
edits_stated (op ∷ ops) links prevs =
    let l = and_parts (is_op op) (list_all is_op ops) links in
    let g = or_parts (lacks_prev op) (list_any lacks_prev ops) prevs in
    both_true (is_edit op) (list_all is_edit ops) (one_stated op.action (is_some op.prev) (is_some op.cid) l.0 g.0) (edits_stated ops l.1 g.1)

continues : (e : Seen) (c : CommitEvent) (repo : Repo) (head : Head) (rev : Option ℕ) (s t : List Item) → IsEvent e → e.body ≡ Body.Commit c → CommitGives repo head c → IsRevOf repo rev → Plays s (edits_of c) t → Continues c rev s t
continues e c repo head rev s t is body gives held plays =
    let shown = first_front (field_lines c) ((Refusal.Stale, is_stale (last_rev repo) c.rev) ∷ block_lines c) gives.shown in
    let prevs = (or_parts (strays c (expect_of repo)) (list_any lacks_prev c.ops) gives.no_gap).1 in
    let links = not-false (list_all is_op c.ops) (all_unmet (field_lines c) shown).1.1.1.1.1.0 in
    let edits = edits_formed e c is body shown prevs in
    record {
      since = since_is c repo rev gives.no_gap held;
      edits = edits_stated c.ops links prevs;
      formed = edits.0;
      apart = edits.1;
      plays = plays;
    }

-- the last commit gives the chain's revision
last_more : (began : Beginning) (ks : List (List ℕ × List ℕ)) (k : List ℕ × List ℕ) (c : CommitEvent) (rev : Option ℕ) → IsCommit k.0 c → rev ≡ Some c.rev → IsLastRev began (ks ++ k ∷ []) rev
last_more began [] k c rev is at = (c, is, at)
last_more began (j ∷ []) k c rev is at = (c, is, at)
last_more began (j ∷ (i ∷ ks)) k c rev is at = last_more began (i ∷ ks) k c rev is at

committed : (chain : OpenChain) (m : List ℕ) (c : CommitEvent) (rev : Option ℕ) (s t : List Item) (head : Head) (next : Holding) → IsCommit m c → Continues c rev s t → head.rev ≡ c.rev → IsAfterCommit c (Holding.Mapped rev s) next
    → (r : Option ℕ) × (next ≡ Holding.Mapped r t) × IsRevOf (Repo.Good head) r × IsLastRev chain.began (chain.commits ++ (m, head.data_root) ∷ []) r
committed chain m c rev s t head (Holding.Mapped now u) is_commit cont is after = (
  now,
  ap (λ (x : List Item). Holding.Mapped now x) (plays_once s (edits_of c) u t after.1.plays cont.plays),
  after.0 ∙ ap (λ (n : ℕ). Some n) (sym is),
  last_more chain.began chain.commits (m, head.data_root) c now is_commit after.0,
)
committed chain m c rev s t head Holding.Waiting is_commit cont is after = absurd (after t cont)

pub commit_step : (repositories : Repositories) (repo : Repo) (chain : OpenChain) (held next : Holding) (m : List ℕ) (head : Head) (e : Seen) (c : CommitEvent) → IsEvent e → frame_of m ≡ Ok (Frame.Event e) → e.body ≡ Body.Commit c
    → CommitGives repo head c → HoldsChain repositories repo chain held → IsAfterCommit c held next
    → HoldsChain repositories (Repo.Good head) (record { began = chain.began; commits = chain.commits ++ (m, head.data_root) ∷ [] }) next
commit_step repositories repo chain held next m head e c is reads body gives follows after = λ s t begins replay.
    let more = replay_more s chain.commits (m, head.data_root) t replay in
    let before = follows s more.0 begins more.1 in
    let P : CommitEvent → Type 0 = λ x. GoesTo more.0 x head.data_root t in
    let goes = subst P (same_commit m e c more.2.0 reads body more.2.1) more.2.2 in
    let Q : Holding → Type 0 = λ x. IsAfterCommit c x next in
    committed chain m c before.0 more.0 t head next (record { event = e; reads = reads; says = body }) (continues e c repo head before.0 more.0 t is body gives before.2 goes.plays) gives.gives.rev_is (subst Q before.1 after)

-- ---- a `#sync` begins a chain

synced : (repositories : Repositories) (m : List ℕ) (y : SyncEvent) (s t : List Item) (head : Head) (next : Holding) → IsSync m y → Answers repositories y s → t ≡ s → head.rev ≡ y.rev → IsAfterSync repositories y next
    → (r : Option ℕ) × (next ≡ Holding.Mapped r t) × IsRevOf (Repo.Good head) r × IsLastRev (base head.data_root (m ∷ [])) [] r
synced repositories m y s t head (Holding.Mapped now u) is_sync answers last is after = (
  now,
  ap (λ (x : List Item). Holding.Mapped now x) (answers_once repositories y u s after.1 answers ∙ sym last),
  after.0 ∙ ap (λ (n : ℕ). Some n) (sym is),
  (y, is_sync, after.0),
)
synced repositories m y s t head Holding.Waiting is_sync answers last is after = absurd (after s answers)

pub sync_step : (repositories : Repositories) (next : Holding) (m : List ℕ) (head : Head) (e : Seen) (y : SyncEvent) → frame_of m ≡ Ok (Frame.Event e) → e.body ≡ Body.Sync y → head.rev ≡ y.rev → IsAfterSync repositories y next
    → HoldsChain repositories (Repo.Good head) (record { began = base head.data_root (m ∷ []); commits = [] }) next
sync_step repositories next m head e y reads body rev after = λ s t begins last.
    let P : SyncEvent → Type 0 = λ x. Answers repositories x s in
    synced repositories m y s t head next (record { event = e; reads = reads; says = body }) (subst P (same_sync m e y begins.sync reads body begins.is) begins.answers) last rev after
