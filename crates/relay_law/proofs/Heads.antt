-- The heads that commits give repositories, and those that a journal leaves, have their forms.
use Rattle.std.proofs.Common.{◌≡◌, ℕ, ◌<◌, ◌^◌, Bool, true, false, ◌&&◌, cond, List, [], ◌∷◌, Option, Some, None, Result, Ok, Err, refl, sym, ap, ◌∙◌, subst}
use Rattle.std.specs.Bool.{beq}
use Rattle.std.specs.List.{list_all}
use Rattle.std.specs.Prelude.{◌==◌, ◌||◌, nat_le}
use Rattle.std.proofs.lemmas.Bool.{and_parts, and_from, lt-ltb}
use Rattle.at_cid.specs.Link.{IsBytes, IsLink, IsNodeLink, is_link, kind_of}
use Rattle.at_car.specs.Blocks.{BlockMap, AreLinked}
use Rattle.at_car.specs.Car.{car_of}
use Rattle.at_car.specs.Sifting.{block_at}
use Rattle.at_commit.specs.Commit.{commit_of}
use Rattle.at_commit.specs.declared.commit.Commit.{Commit}
use Rattle.at_commit.specs.declared.fault.CommitFault.{CommitFault}
use Rattle.at_commit.proofs.Nodes.{data_is_node}
use Rattle.at_event.specs.Refusals.{code_of}
use Rattle.at_event.specs.declared.head.Head.{Head}
use Rattle.at_event.specs.declared.refusal.Refusal.{Refusal}
use Rattle.event_checks.specs.Opening.{CarResult, root_in, block_in, read_object, object_in_block, object_in}
use Rattle.commit_check.proofs.Held.{car_linked}
use Rattle.relay_row.specs.Folds.{folded, names, did_of_row}
use Rattle.relay_row.specs.Journal.{IsJournal}
use Rattle.relay_row.specs.Rules.{are_bytes, is_cid, is_node, is_node_kind, is_head, is_rev, is_status, is_row, is_taken, is_accepted, is_detail, is_refused, is_decided, is_about, is_moment, is_number, names_host, names_did, is_effect, is_fetched, is_timed, is_whole, is_positive, is_message, is_empty, is_nothing, is_carried, is_repo, loses}
use Rattle.relay_row.specs.declared.carried.Carried.{Carried}
use Rattle.relay_row.specs.declared.carried.CarriedAccount.{CarriedAccount}
use Rattle.relay_row.specs.declared.carried.CarriedRepo.{CarriedRepo}
use Rattle.relay_row.specs.declared.fetched.Fetched.{Fetched}
use Rattle.relay_row.specs.declared.fetched.Whole.{Whole}
use Rattle.relay_row.specs.declared.row.Row.{Row}
use Rattle.relay_row.specs.declared.taken.Effect.{Effect}
use Rattle.relay_row.specs.declared.taken.Taken.{Taken}
use Rattle.relay_row.proofs.Bytes.{bytes_tested}
use Rattle.account_state.specs.Folds.{fresh, carried_as, repo_carried, effected, last_rev, lost, refetched, moved, account_after, account}
use Rattle.account_state.specs.State.{State}
use Rattle.account_state.specs.declared.repo.Repo.{Repo}
use Rattle.relay_core.specs.Opening.{IsHeadIn}

-- ---- links, as rows test them

pub cid_tested : (link : List ℕ) → IsLink link → is_cid link ≡ true
cid_tested link is = and_from (is_link link) (are_bytes link) is.link (bytes_tested link is.bytes)

pub node_tested : (link : List ℕ) → IsNodeLink link → is_node link ≡ true
node_tested link is =
    and_from (is_cid link) (is_node_kind (kind_of link)) (and_from (is_link link) (are_bytes link) is.link (bytes_tested link is.bytes)) (ap is_node_kind is.node)

-- ---- the head of a CAR

object_node : (block : List ℕ) (c : Commit) (r : Result Commit CommitFault) → IsBytes block → commit_of block ≡ r → read_object r ≡ Some c → IsNodeLink c.data_root
object_node block c (Ok d) bytes is e =
    let same : d ≡ c = cc in
    data_is_node block c bytes (is ∙ ap Ok same)
object_node block c (Err f) bytes is e = absurd cc

-- the first root of a CAR is a link, and its commit object's `data` one of kind Node
record IsCarHead (link : List ℕ) (commit : Commit) : Type 0 where
  link_is : IsLink link
  data_is : IsNodeLink commit.data_root

under_root : (root : Option (List ℕ)) (blocks : BlockMap) (link block : List ℕ) (commit : Commit) → AreLinked blocks → root ≡ Some link → block_at root blocks ≡ Some block → object_in_block (block_at root blocks) ≡ Some commit → IsCarHead link commit
under_root None blocks link block commit linked is there object = absurd cc
under_root (Some root) blocks link block commit linked is there object =
    let of = linked root block there in
    let P : List ℕ → Type 0 = IsLink in
    let same : root ≡ link = cc in
    record {
      link_is = subst P same of.link;
      data_is = object_node block commit (commit_of block) of.bytes refl (sym (ap object_in_block there) ∙ object);
    }

car_head : (bytes : List ℕ) (car : CarResult) (link block : List ℕ) (commit : Commit) → IsBytes bytes → car_of bytes ≡ car → root_in car ≡ Some link → block_in car ≡ Some block → object_in car ≡ Some commit → IsCarHead link commit
car_head bytes (Ok (roots, blocks)) link block commit fits is root there object = under_root _ blocks link block commit (car_linked bytes roots blocks fits is) root there object
car_head bytes (Err fault) link block commit fits is root there object = absurd cc

pub head_tested : (head : Head) → head.rev < 2 ^ 64 → IsNodeLink head.data_root → IsLink head.commit → is_head head ≡ true
head_tested head rev kind commit =
    and_from (is_rev head.rev) (is_node head.data_root && is_cid head.commit) (lt-ltb head.rev (2 ^ 64) rev) (and_from (is_node head.data_root) (is_cid head.commit) (node_tested head.data_root kind) (cid_tested head.commit commit))

-- the head that the bytes of a CAR give a repository has its forms
pub found_head : (bytes : List ℕ) (rev : ℕ) (head : Head) → IsBytes bytes → rev < 2 ^ 64 → IsHeadIn (car_of bytes) rev head → is_head head ≡ true
found_head bytes rev head fits below is =
    let found = car_head bytes (car_of bytes) head.commit is.block is.commit fits refl is.found.root_is is.found.block_is is.found.object_is in
    let P : List ℕ → Type 0 = IsNodeLink in
    let Q : ℕ → Type 0 = λ n. n < 2 ^ 64 in
    head_tested head (subst Q (sym is.rev_is) below) (subst P (sym is.data_is) found.data_is) found.link_is

-- ---- accounts

abbrev pub IsFormedRepo : Repo → Type 0
IsFormedRepo Repo.Missing = Unit {0}
IsFormedRepo (Repo.Good head) = is_head head ≡ true
IsFormedRepo (Repo.Lost rev) = Unit {0}

-- what is known of an account has its forms: its status, and the head of its repository
pub record IsFormedAccount (a : State) : Type 0 where
  pub status : is_status a.status ≡ true
  pub repo : IsFormedRepo a.repo

IsFormedEffect : Effect → Type 0
IsFormedEffect Effect.Nothing = Unit {0}
IsFormedEffect (Effect.Repo head) = is_head head ≡ true
IsFormedEffect (Effect.Account active status) = is_status status ≡ true

IsFormedFetch : Fetched → Type 0
IsFormedFetch (Fetched.Whole w) = is_head w.head ≡ true
IsFormedFetch other = Unit {0}

effect_formed : (kind : ℕ) (x : Effect) → is_effect kind x ≡ true → IsFormedEffect x
unfolding IsFormedEffect
effect_formed kind Effect.Nothing h = tt
effect_formed kind (Effect.Repo head) h = (and_parts _ (is_head head) h).1
effect_formed kind (Effect.Account active status) h = (and_parts _ (is_status status) h).1

nothing_formed : (x : Effect) → is_nothing x ≡ true → IsFormedEffect x
unfolding IsFormedEffect
nothing_formed Effect.Nothing h = tt
nothing_formed (Effect.Repo head) h = absurd cc
nothing_formed (Effect.Account active status) h = absurd cc

whole_formed : (w : Whole) → is_whole w ≡ true → is_head w.head ≡ true
unfolding is_whole
whole_formed w h = (and_parts (is_head w.head) (is_number w.records && is_message w.message) (and_parts (is_positive w.seq) (is_head w.head && (is_number w.records && is_message w.message)) h).1).0

fetch_formed : (due timed : Bool) (f : Fetched) → is_fetched due timed f ≡ true → IsFormedFetch f
unfolding IsFormedFetch
fetch_formed due timed (Fetched.Whole w) h = whole_formed w (and_parts due (is_whole w) h).1
fetch_formed due timed Fetched.NotAsked h = tt
fetch_formed due timed Fetched.Absent h = tt
fetch_formed due timed (Fetched.Refused n) h = tt

effect_keeps : (a : State) (x : Effect) → IsFormedAccount a → IsFormedEffect x → IsFormedAccount (effected a x)
unfolding IsFormedEffect
effect_keeps a Effect.Nothing is h = is
effect_keeps a (Effect.Repo head) is h = record { status = is.status; repo = h }
effect_keeps a (Effect.Account active status) is h = record { status = h; repo = is.repo }

lost_keeps : (a : State) (r : Option Refusal) → IsFormedAccount a → IsFormedAccount (lost a r)
lost_keeps a None is = is
lost_keeps a (Some r) is =
    elim (loses (code_of r)) as (λ b. IsFormedAccount (cond b (record { active = a.active; status = a.status; down = a.down; repo = Repo.Lost (last_rev a.repo) }) a)) [
      | true ↦ record { status = is.status; repo = tt }
      | false ↦ is
    ]

fetch_keeps : (a : State) (f : Fetched) → IsFormedAccount a → IsFormedFetch f → IsFormedAccount (refetched a f)
unfolding IsFormedFetch
fetch_keeps a (Fetched.Whole w) is h = record { status = is.status; repo = h }
fetch_keeps a Fetched.NotAsked is h = is
fetch_keeps a Fetched.Absent is h = is
fetch_keeps a (Fetched.Refused n) is h = is

decided_parts : (q : Option Refusal) (t : Taken) → is_decided q t ≡ true → IsFormedEffect t.effect × IsFormedFetch t.fetched
unfolding is_accepted is_refused
decided_parts None t h =
    let one = and_parts (is_effect t.kind t.effect) _ h in
    let two = and_parts (is_fetched false (is_timed t.moment) t.fetched) _ one.1 in
    (effect_formed t.kind t.effect one.0, fetch_formed false (is_timed t.moment) t.fetched two.0)
decided_parts (Some r) t h =
    let fetch : Bool = is_fetched (loses (code_of r)) (is_timed t.moment) t.fetched && (t.seq == 0 && is_empty t.message) in
    let nothing : Bool = is_nothing t.effect && fetch in
    let read : Bool = beq (t.kind == 0) (code_of r == 1) && nothing in
    let few : Bool = nat_le t.kind 4 && read in
    let known : Bool = nat_le (code_of r) 24 || (code_of r == 25 && is_timed t.moment) in
    let two = and_parts (is_detail r && known) few h in
    let three = and_parts (nat_le t.kind 4) read two.1 in
    let four = and_parts (beq (t.kind == 0) (code_of r == 1)) nothing three.1 in
    let five = and_parts (is_nothing t.effect) fetch four.1 in
    let six = and_parts (is_fetched (loses (code_of r)) (is_timed t.moment) t.fetched) (t.seq == 0 && is_empty t.message) five.1 in
    (nothing_formed t.effect five.0, fetch_formed (loses (code_of r)) (is_timed t.moment) t.fetched six.0)

taken_decided : (t : Taken) → is_taken t ≡ true → is_decided t.refusal t ≡ true
unfolding is_taken
taken_decided t h =
    let one = and_parts (names_host t.host) (is_number t.host_seq && (is_about t.kind t.did && (is_moment t.moment && is_decided t.refusal t))) h in
    let two = and_parts (is_number t.host_seq) (is_about t.kind t.did && (is_moment t.moment && is_decided t.refusal t)) one.1 in
    let three = and_parts (is_about t.kind t.did) (is_moment t.moment && is_decided t.refusal t) two.1 in
    (and_parts (is_moment t.moment) (is_decided t.refusal t) three.1).1

carried_formed : (b : CarriedAccount) → is_carried (Carried.Account b) ≡ true → IsFormedAccount (carried_as b)
unfolding is_carried
carried_formed b h =
    let others = and_parts (is_status b.status) (is_repo b.repo) (and_parts (names_did b.did) (is_status b.status && is_repo b.repo) h).1 in
    record { status = others.0; repo = repo_formed b.repo others.1 }
  where
    repo_formed : (r : CarriedRepo) → is_repo r ≡ true → IsFormedRepo (repo_carried r)
    repo_formed CarriedRepo.Missing k = tt
    repo_formed (CarriedRepo.Good head) k = k
    repo_formed (CarriedRepo.Lost rev) k = tt

moved_formed : (a : State) (row : Row) → IsFormedAccount a → is_row row ≡ true → IsFormedAccount (moved a row)
unfolding is_row
moved_formed a (Row.Taken t) is h =
    let parts = decided_parts t.refusal t (taken_decided t h) in
    fetch_keeps (lost (effected a t.effect) t.refusal) t.fetched (lost_keeps (effected a t.effect) t.refusal (effect_keeps a t.effect is parts.0)) parts.1
moved_formed a (Row.Synced did whole moment) is h =
    record { status = is.status; repo = whole_formed whole (and_parts (is_whole whole) (is_moment moment) (and_parts (names_did did) (is_whole whole && is_moment moment) h).1).0 }
moved_formed a (Row.Operated o) is h = record { status = is.status; repo = is.repo }
moved_formed a (Row.Carried (Carried.Last seq)) is h = is
moved_formed a (Row.Carried (Carried.Host host cursor)) is h = is
moved_formed a (Row.Carried (Carried.Account b)) is h = carried_formed b h

after_formed : (did : List ℕ) (a : State) (row : Row) → IsFormedAccount a → is_row row ≡ true → IsFormedAccount (account_after did a row)
after_formed did a row is h = elim (names did (did_of_row row)) as (λ b. IsFormedAccount (cond b (moved a row) a)) [ true ↦ moved_formed a row is h | false ↦ is ]

folded_formed : (did : List ℕ) (rows : List Row) (a : State) → IsFormedAccount a → list_all is_row rows ≡ true → IsFormedAccount (folded (account_after did) a rows)
folded_formed did [] a is h = is
folded_formed did (row ∷ rows) a is h =
    let both = and_parts (is_row row) (list_all is_row rows) h in
    folded_formed did rows (account_after did a row) (after_formed did a row is both.0) both.1

-- the account of a DID behind a journal has its forms
pub accounts_are_formed : (did : List ℕ) (rows : List Row) → IsJournal rows → IsFormedAccount (account did rows)
unfolding account
accounts_are_formed did rows is = folded_formed did rows fresh (record { status = refl; repo = tt }) is.formed
