-- What holds of the commits before a commit.
use Rattle.std.proofs.Common.{◌≡◌, ℕ, zero, suc, ◌+◌, ◌-◌, ◌*◌, ◌%◌, ◌<◌, ◌≤◌, ◌==◌, true, false, cond, List, [], ◌∷◌, ◌++◌, length, slice_get, refl, ap, ◌∙◌, subst, Option, Some, None, arith, length-append}
use Rattle.mst_list.specs.declared.item.Item.{Item}
use Rattle.mst_list.specs.declared.op.Op.{Op}
use Rattle.mst_list.specs.Lists.{IsMap}
use Rattle.mst_list.specs.Edits.{before, after, value_at, with_value, put}
use Rattle.mst_list.specs.Maps.{edited}
use Rattle.mst_list.proofs.Places.{rebuilt}
use Rattle.at_form.proofs.Held.{some_same}
use Rattle.relay_gen.specs.Draws.{next, drawn}
use Rattle.relay_gen.specs.Commits.{Commit, generated_commit, commits_from, keys_from, last_of, last_generated, generated_map, generated_ops}
use Rattle.relay_gen.specs.States.{AreBefore, AreOlder, CanPlay, Repository, repository_of}
use Rattle.relay_gen.proofs.Older.{AreOpsOlder, IsGood, drafted_good, older_more, older_played}
use Rattle.relay_gen.proofs.Plays.{played_map}

empty_map : IsMap []
empty_map = record { formed = tt; ascends = tt; keys_only = tt }

pub before_more : (i : ℕ) (commits : List Commit) → AreBefore i commits → AreBefore (suc i) commits
before_more i [] b = tt
before_more i (c ∷ commits) b = let low = b.3 in let size = b.2 in (b.0, older_more (i * 4) (suc i * 4) c.map (omega arith) b.1, omega arith, omega arith, before_more i commits b.4)

record IsPast (i : ℕ) (s : List Item) : Type 0 where
  pub is_map : IsMap s
  pub older : AreOlder (i * 4) s
  pub size : length s ≤ i * 4

last_before : (i a : ℕ) (commits : List Commit) → AreBefore i commits → IsPast i (generated_map (last_of a commits))
last_before i a [] b = record { is_map = empty_map; older = tt; size = omega arith }
last_before i a (c ∷ commits) b = elim (c.account == a) as (λ x. IsPast i (generated_map (cond x (Some c) (last_of a commits)))) [ true ↦ record { is_map = b.0; older = b.1; size = b.2 } | false ↦ last_before i a commits b.4 ]

pub seq_before : (i host : ℕ) (commits : List Commit) → 0 < i → AreBefore i commits → last_generated host commits < i
seq_before i host [] some b = some
seq_before i host (c ∷ commits) some b = elim (c.account % 4 == host) as (λ x. cond x c.seq (last_generated host commits) < i) [ true ↦ b.3 | false ↦ seq_before i host commits some b.4 ]

length_put : (k : List ℕ) (o : Option (List ℕ)) (s : List Item) → length (put k o s) ≤ length s + 1
length_put k o s =
    let whole = ap length (rebuilt k s) in
    let was = length-append (before k s) (with_value k (value_at k s) ++ after k s) in let more = length-append (with_value k (value_at k s)) (after k s) in
    let now = length-append (before k s) (with_value k o ++ after k s) in let rest = length-append (with_value k o) (after k s) in
    let one = length_value k o in omega arith
  where
    length_value : (k : List ℕ) (o : Option (List ℕ)) → length (with_value k o) ≤ 1
    length_value k None = omega arith
    length_value k (Some v) = omega arith

length_played : (s : List Item) (ops : List Op) → length (edited s ops) ≤ length s + length ops
length_played s [] = omega arith
length_played s (op ∷ ops) = let one = length_put op.key op.now s in let rest = length_played (put op.key op.now s) ops in omega arith

pub keys_few : (a left i : ℕ) (commits : List Commit) → AreBefore i commits → keys_from a left commits ≤ left * (i * 4)
keys_few a zero i commits b = omega arith
keys_few a (suc left) i commits b =
    let rest = keys_few (suc a) left i commits b in let p = last_before i a commits b in let size = p.size in
    let e : suc left * (i * 4) ≡ left * (i * 4) + i * 4 = grind arith in omega arith

-- how many keys repositories have
abbrev pub keys_of : List Repository → ℕ
keys_of [] = 0
keys_of (r ∷ rs) = length r.map + keys_of rs

-- those of the accounts from one on, one after another
pub keys_told : (a : ℕ) (commits : List Commit) (rs : List Repository) → ((i : ℕ) → i < length rs → slice_get rs i ≡ Some (repository_of (last_of (a + i) commits))) → keys_of rs ≡ keys_from a (length rs) commits
keys_told a commits [] e = refl
keys_told a commits (r ∷ rs) e =
    let first : r ≡ repository_of (last_of (a + 0) commits) = some_same r _ (e 0 (omega arith)) in
    let one = ap (λ (x : Repository). length x.map) first in
    let same : a + 0 ≡ a = omega arith in
    let here : length r.map ≡ length (generated_map (last_of a commits)) = one ∙ ap (λ n. length (generated_map (last_of n commits))) same in
    let rest = keys_told (suc a) commits rs (λ i low. let next : a + suc i ≡ suc a + i = omega arith in e (suc i) (omega arith) ∙ ap (λ n. Some (repository_of (last_of n commits))) next) in
    omega (arith, here, rest)

pub ops_good : (i a x : ℕ) (commits : List Commit) → i ≤ 100000 → AreBefore i commits → IsGood (generated_map (last_of a commits)) (i * 4 + 4) 4 (generated_ops (last_of a commits) i x).ops
ops_good i a x commits most b = go (last_of a commits) (last_before i a commits b)
  where
    go : (o : Option Commit) → IsPast i (generated_map o) → IsGood (generated_map o) (i * 4 + 4) 4 (generated_ops o i x).ops
    go None p = record { apply = tt; apart = tt; formed = tt; few = omega arith; older = tt }
    go (Some c) p = drafted_good c.map i x p.is_map p.older (omega arith)

pub can_play : (i a x : ℕ) (commits : List Commit) → i ≤ 100000 → AreBefore i commits → CanPlay (generated_map (last_of a commits)) (generated_ops (last_of a commits) i x).ops
can_play i a x commits most b = let g = ops_good i a x commits most b in record { apply = g.apply; apart = g.apart; formed = g.formed; few = g.few }

commit_before : (i a x : ℕ) (commits : List Commit) → 0 < i → i ≤ 100000 → AreBefore i commits → AreBefore (suc i) (generated_commit i a commits (generated_ops (last_of a commits) i x).ops ∷ commits)
commit_before i a x commits some most b =
    let s = generated_map (last_of a commits) in let ops = (generated_ops (last_of a commits) i x).ops in
    let p = last_before i a commits b in let g = ops_good i a x commits most b in
    let low = seq_before i (a % 4) commits some b in
    let four : i * 4 + 4 ≡ suc i * 4 = omega arith in (
      played_map s ops p.is_map g.formed,
      older_played (suc i * 4) s ops (older_more (i * 4) (suc i * 4) s (omega arith) p.older) (subst (λ n. AreOpsOlder n ops) four g.older),
      (let grown = length_played s ops in let size = p.size in let few = g.few in omega arith),
      omega arith,
      before_more i commits b,
    )

pub commits_before : (start i : ℕ) → i ≤ 100000 → AreBefore (suc i) (commits_from start i).commits
commits_before start zero most = tt
commits_before start (suc i) most =
    let d = commits_from start i in
    commit_before (suc i) (drawn 16 (next d.state)) (next d.state) d.commits (omega arith) most (commits_before start i (omega arith))

before_by : (k i : ℕ) (commits : List Commit) → AreBefore i commits → AreBefore (k + i) commits
before_by zero i commits b = let e : i ≡ 0 + i = omega arith in subst (λ n. AreBefore n commits) e b
before_by (suc k) i commits b = let e : suc (k + i) ≡ suc k + i = omega arith in subst (λ n. AreBefore n commits) e (before_more (k + i) commits (before_by k i commits b))

pub before_up : (i m : ℕ) (commits : List Commit) → i ≤ m → AreBefore i commits → AreBefore m commits
before_up i m commits le b = let e : (m - i) + i ≡ m = omega arith in subst (λ n. AreBefore n commits) e (before_by (m - i) i commits b)
