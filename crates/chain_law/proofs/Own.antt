-- The relay's own events, which tell of what it fetched and of its operators' commands, are carried on.
use Rattle.std.proofs.Common.{◌≡◌, ℕ, ◌≤◌, Bool, true, false, not, ◌&&◌, List, [], ◌∷◌, length, Option, Some, None, Ok, is_some, codes, refl, sym, ap, ◌∙◌, subst}
use Rattle.std.specs.Prelude.{nat_lt, ◌==◌}
use Rattle.std.specs.Str.{bytes_eq}
use Rattle.std.proofs.lemmas.Bool.{and_from, eq-eqb, le-ltb, not-false}
use Rattle.at_car.specs.Blocks.{IsLinkOf}
use Rattle.at_car.specs.Car.{car_of}
use Rattle.at_commit.specs.Commit.{commit_of, is_of}
use Rattle.at_commit.specs.declared.commit.Commit.{Commit}
use Rattle.at_event.specs.Seen.{Seen}
use Rattle.at_event.specs.Writing.{sync_seen, account_seen}
use Rattle.at_event.specs.declared.refusal.Refusal.{Refusal}
use Rattle.at_syntax.specs.Did.{is_did}
use Rattle.at_car.specs.Sifting.{block_at}
use Rattle.at_event.specs.declared.event.Body.{Body}
use Rattle.at_event.specs.declared.event.SyncEvent.{SyncEvent}
use Rattle.at_event.specs.declared.head.Head.{Head}
use Rattle.at_event.proofs.OwnEvents.{IsStatus}
use Rattle.event_checks.specs.Lines.{first_of}
use Rattle.event_checks.specs.Opening.{CarResult, root_in, block_in, read_object, object_in, object_in_block, is_malformed, has_wrong_digest, is_commit_of, is_rooted, car_lines}
use Rattle.event_checks.specs.Table.{is_stale}
use Rattle.event_checks.specs.declared.limits.TheConstants.{MOST_SYNC_BYTES}
use Rattle.event_checks.proofs.Firsts.{all_unmet}
use Rattle.account_state.specs.Folds.{effected, last_rev}
use Rattle.account_state.specs.State.{State}
use Rattle.account_state.specs.declared.repo.Repo.{Repo}
use Rattle.commit_check.proofs.Held.{car_linked}
use Rattle.relay_row.specs.declared.taken.Effect.{Effect}
use Rattle.repo_sync.specs.Repository.{lines, is_of_account}
use Rattle.repo_sync.specs.declared.found.Found.{Found as Checked}
use Rattle.relay_core.specs.Decide.{Checks, commit_blocks, commit_car, refusal_in}
use Rattle.relay_core.specs.Opening.{OpensRight, IsHeadIn, shown_alone}
use Rattle.chain_law.specs.Chained.{is_raised}
use Rattle.chain_law.specs.Given.{IsOfRepository}
use Rattle.relay_law.proofs.Blocks.{block_short, car_again, car_short, head_in}
use Rattle.relay_law.proofs.Own.{takendown}
use Rattle.at_car.proofs.Lengths.{found_one}
use Rattle.chain_law.proofs.Lengths.{did_short, sync_fits, account_fits}
use Rattle.chain_law.proofs.Renumbered.{one_head, shown_active}
use Rattle.chain_law.specs.Again.{Trails}
use Rattle.chain_law.proofs.Trailing.{Carries, opens_to}

-- ---- what some repository comes to

-- a head with its commit's block, which reads as a commit object of the account and of the head's revision
record IsCommitted (did : List ℕ) (head : Head) (block : List ℕ) : Type 0 where
  commit : Commit
  reads : commit_of block ≡ Ok commit
  own : is_of did head.rev commit ≡ true
  data_is : head.data_root ≡ commit.data_root
  linked : IsLinkOf head.commit block

did_is : (did : List ℕ) (o : Option Commit) (commit : Commit) → o ≡ Some commit → not (is_of_account did o) ≡ false → bytes_eq commit.did did ≡ true
did_is did None commit there h = absurd cc
did_is did (Some c) commit there h =
    let same : c ≡ commit = cc in
    subst (λ (k : Commit). bytes_eq k.did did ≡ true) same (not-false (bytes_eq c.did did) h)

committed : (did : List ℕ) (least : Option ℕ) (head : Head) (block : List ℕ) → IsOfRepository did least head block → IsCommitted did head block
committed did least head block some =
    let h = some.whole.holds in
    let head_is : head ≡ record { rev = h.commit.rev; data_root = h.commit.data_root; commit = h.link } = sym some.head_is ∙ ap (λ (f : Checked). f.head) some.whole.found_is in
    let block_is : block ≡ h.block = sym some.block_is ∙ ap (λ (f : Checked). f.block) some.whole.found_is in
    let all = all_unmet (lines did least some.bytes) some.whole.shown in
    let object : object_in (car_of some.bytes) ≡ Some h.commit =
    ap (λ (car : CarResult). object_in car) h.car ∙ ap (λ (r : Option (List ℕ)). object_in_block (block_at r h.blocks)) h.root ∙ ap object_in_block h.there ∙ ap read_object h.object in
    let P : List ℕ → Type 0 = λ b. IsLinkOf h.link b in
    let Q : List ℕ → Type 0 = λ l. IsLinkOf l block in
    record {
      commit = h.commit;
      reads = ap commit_of block_is ∙ h.object;
      own = and_from (bytes_eq h.commit.did did) (h.commit.rev == head.rev) (did_is did (object_in (car_of some.bytes)) h.commit object all.1.1.1.1.0) (eq-eqb h.commit.rev head.rev (sym (ap (λ (x : Head). x.rev) head_is)));
      data_is = ap (λ (x : Head). x.data_root) head_is;
      linked = subst Q (sym (ap (λ (x : Head). x.commit) head_is)) (subst P (sym block_is) (car_linked some.bytes h.roots h.blocks some.are h.car h.link h.block h.there));
    }

-- ---- the relay's own `#sync`

sync_none : (did : List ℕ) (rev : ℕ) (long stale : Bool) (car : CarResult) → long ≡ false → stale ≡ false → is_malformed car ≡ false → has_wrong_digest car ≡ false → is_rooted None (root_in car) ≡ true → is_some (block_in car) ≡ true
    → is_some (object_in car) ≡ true → is_commit_of did rev (object_in car) ≡ true → first_of ((Refusal.BlocksTooLong, long) ∷ (Refusal.Stale, stale) ∷ car_lines car None did rev) ≡ None
sync_none did rev long stale car a b c d e f g h = rw (a, b, c, d, e, f, g, h) refl

fresh_rev : (last : Option ℕ) (rev : ℕ) → is_raised last rev ≡ true → is_stale last rev ≡ false
fresh_rev None rev h = refl
fresh_rev (Some last) rev h = rw h refl

record IsOpen (did : List ℕ) (head : Head) (car : CarResult) : Type 0 where
  form : is_malformed car ≡ false
  digests : has_wrong_digest car ≡ false
  top : IsHeadIn car head.rev head
  own : is_commit_of did head.rev (object_in car) ≡ true

car_open : (did : List ℕ) (head : Head) (block : List ℕ) → IsCommitted did head block → IsOpen did head (car_of (commit_car head block))
car_open did head block is =
    let blocks = commit_blocks head block in
    let P : CarResult → Type 0 = λ c. IsOpen did head c in
    let object : object_in (Ok (head.commit ∷ [], blocks)) ≡ Some is.commit = ap object_in_block (found_one head.commit block) ∙ ap read_object is.reads in
    subst P (sym (car_again head block is.commit is.linked is.reads)) (record {
      form = refl;
      digests = refl;
      top = head_in head block is.commit is.reads is.data_is;
      own = ap (λ (o : Option Commit). is_commit_of did head.rev o) object ∙ is.own;
    })

some_there : {A : Type 0} (o : Option A) (x : A) → o ≡ Some x → is_some o ≡ true
some_there (Some y) x h = refl
some_there None x h = absurd cc

rooted : (o : Option (List ℕ)) (x : List ℕ) → o ≡ Some x → is_rooted None o ≡ true
rooted (Some y) x h = refl
rooted None x h = absurd cc

module _ (checks : Checks) (opens : OpensRight checks) (did : List ℕ) (head : Head) (block time : List ℕ) (n : ℕ) (named : is_did did ≡ true) (brief : length time ≤ 64) where
  abbrev sync : SyncEvent
  sync = record { did = did; rev = head.rev; blocks = commit_car head block }

  abbrev own_sync : Seen
  own_sync = sync_seen did head.rev (commit_car head block) time n

  sync_alone : IsCommitted did head block → (last : Option ℕ) → is_raised last head.rev ≡ true → shown_alone (Body.Sync sync) last ≡ None
  sync_alone is last raised =
      let car = car_of (commit_car head block) in
      let opened = car_open did head block is in
      sync_none did head.rev (nat_lt MOST_SYNC_BYTES (length (commit_car head block))) (is_stale last head.rev) car
      (le-ltb MOST_SYNC_BYTES (length (commit_car head block)) (car_short head block is.linked (block_short block is.commit is.reads))) (fresh_rev last head.rev raised) opened.form opened.digests
      (rooted (root_in car) head.commit opened.top.found.root_is) (some_there (block_in car) opened.top.block opened.top.found.block_is) (some_there (object_in car) opened.top.commit opened.top.found.object_is) opened.own

  pub sync_carries : (a after : State) (least : Option ℕ) → IsOfRepository did least head block → is_raised (last_rev a.repo) head.rev ≡ true → a.active ≡ true → a.down ≡ false
      → after.active ≡ a.active → after.down ≡ a.down → after.repo ≡ Repo.Good head → Carries checks a after own_sync
  sync_carries a after least some raised active up same_active same_down same_repo =
      let is = committed did least head block some in
      let few = car_short head block is.linked (block_short block is.commit is.reads) in
      let fits = sync_fits did time n (did_short did named) brief head.rev (commit_car head block) few in
      let opened : (b : State) → Trails a b → refusal_in (checks.opens own_sync (last_rev b.repo)) ≡ None = λ b t. opens.refusal own_sync (last_rev b.repo) ∙ ap (λ (l : Option ℕ). shown_alone (Body.Sync sync) l) t.rev ∙ sync_alone is (last_rev a.repo) raised in
      let one : (last : Option ℕ) (h : Head) → checks.opens own_sync last ≡ Ok h → h ≡ head = λ last h told. one_head (car_of (commit_car head block)) head.rev h head (opens.head own_sync last h told) (car_open did head block is).top in
      record {
        shows = λ b t. record { fits = fits; active = shown_active a b t active up; up = t.up; opened = opened b t };
        moves = λ b t.
            let P : Effect → Type 0 = λ x. Trails after (effected b x) in
            subst P (sym (opens_to checks own_sync (last_rev b.repo) head (opened b t) (one (last_rev b.repo)))) (record {
              active = t.active ∙ ap (λ (x : Bool). x && not a.down) (sym same_active) ∙ ap (λ (x : Bool). after.active && not x) (sym same_down);
              up = t.up;
              rev = ap (λ (r : Repo). last_rev r) (sym same_repo);
              repo = λ known. sym same_repo;
            });
      }

-- ---- the relay's own `#account`

and_none : (x : Bool) → false ≡ (x && false)
and_none true = refl
and_none false = refl

and_one : (x : Bool) → x ≡ (x && true)
and_one true = refl
and_one false = refl

command_trails : (a b : State) (active down : Bool) (status : Option (List ℕ)) → Trails a b → active ≡ (a.active && not down) → Trails (record a { down = down }) (effected b (Effect.Account active status))
command_trails a b active down status t same = record { active = same; up = t.up; rev = t.rev; repo = t.repo }

module _ (checks : Checks) (did time : List ℕ) (n : ℕ) (named : is_did did ≡ true) (brief : length time ≤ 64) (a : State) where
  pub down_carries : Carries checks a (record a { down = true }) (account_seen did false (Some (codes "takendown")) time n)
  down_carries = record {
    shows = λ b t. account_fits did time n (did_short did named) brief false (Some (codes "takendown")) takendown;
    moves = λ b t. command_trails a b false true (Some (codes "takendown")) t (and_none a.active);
  }

  pub up_carries : IsStatus a.status → Carries checks a (record a { down = false }) (account_seen did a.active a.status time n)
  up_carries is = record {
    shows = λ b t. account_fits did time n (did_short did named) brief a.active a.status is;
    moves = λ b t. command_trails a b a.active false a.status t (and_one a.active);
  }
