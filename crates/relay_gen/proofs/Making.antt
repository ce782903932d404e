-- A making goes on by a commit.
use Rattle.std.proofs.Common.{◌≡◌, ◌≢◌, ℕ, zero, suc, ◌*◌, ◌%◌, ◌<◌, ◌==◌, true, false, cond, List, [], ◌∷◌, length, set, slice_get, slice_index, slice_index_or, is_some, refl, sym, ap, ◌∙◌, Option, Some, None, arith}
use Rattle.mst_list.specs.declared.op.Op.{Op}
use Rattle.mst_list.specs.Maps.{edited}
use Rattle.mst_node.proofs.Layers.{eqb_no, eqb_yes}
use Rattle.at_form.proofs.Held.{some_same}
use Rattle.relay_gen.specs.Draws.{next, drawn}
use Rattle.relay_gen.specs.Drafts.{Draft, drafted}
use Rattle.relay_gen.specs.Commits.{Commit, Drawn, generated_commit, last_of, last_generated, generated_map, generated_ops, past_of, with_commit}
use Rattle.relay_gen.specs.Messages.{message}
use Rattle.relay_gen.specs.Names.{generated_did}
use Rattle.relay_gen.specs.States.{IsBehind, Repository, after_commit, commit_message, repository_of}

get_here : (xs : List Repository) (i : ℕ) (x : Repository) → i < length xs → slice_get (set xs i x) i ≡ Some x
get_here [] i x low = absurd (omega arith)
get_here (y ∷ xs) zero x low = refl
get_here (y ∷ xs) (suc i) x low = get_here xs i x (omega arith)

get_other : (xs : List Repository) (i j : ℕ) (x : Repository) → i ≢ j → slice_get (set xs i x) j ≡ slice_get xs j
get_other [] i j x n = refl
get_other (y ∷ xs) zero zero x n = absurd (n refl)
get_other (y ∷ xs) zero (suc j) x n = refl
get_other (y ∷ xs) (suc i) zero x n = refl
get_other (y ∷ xs) (suc i) (suc j) x n = get_other xs i j x (λ e. n (ap suc e))

pub index_here : (xs : List ℕ) (i x : ℕ) → i < length xs → slice_index (set xs i x) i ≡ x
index_here [] i x low = absurd (omega arith)
index_here (y ∷ xs) zero x low = refl
index_here (y ∷ xs) (suc i) x low = index_here xs i x (omega arith)

index_other : (xs : List ℕ) (i j x : ℕ) → i ≢ j → slice_index (set xs i x) j ≡ slice_index xs j
index_other [] i j x n = refl
index_other (y ∷ xs) zero zero x n = absurd (n refl)
index_other (y ∷ xs) zero (suc j) x n = refl
index_other (y ∷ xs) (suc i) zero x n = refl
index_other (y ∷ xs) (suc i) (suc j) x n = index_other xs i j x (λ e. n (ap suc e))

length_set : (xs : List Repository) (i : ℕ) (x : Repository) → length (set xs i x) ≡ length xs
length_set [] i x = refl
length_set (y ∷ xs) zero x = refl
length_set (y ∷ xs) (suc i) x = ap suc (length_set xs i x)

length_set_numbers : (xs : List ℕ) (i x : ℕ) → length (set xs i x) ≡ length xs
length_set_numbers [] i x = refl
length_set_numbers (y ∷ xs) zero x = refl
length_set_numbers (y ∷ xs) (suc i) x = ap suc (length_set_numbers xs i x)

-- the account's repository after its commit, and the number of its host
pub behind_next : (i : ℕ) (d : Drawn) (state : ℕ) (accounts : List Repository) (seqs : List ℕ) → IsBehind d state accounts seqs → drawn 16 (next d.state) < 16 →
    let a = drawn 16 (next d.state) in let o = last_of a d.commits in let draft = generated_ops o i (next d.state) in
    IsBehind (with_commit i d) draft.state (set accounts a (after_commit (i * 1024) (generated_map o) draft.ops)) (set seqs (a % 4) (suc (last_generated (a % 4) d.commits)))
behind_next i d state accounts seqs b low =
    let a = drawn 16 (next d.state) in let o = last_of a d.commits in let draft = generated_ops o i (next d.state) in
    let c = generated_commit i a d.commits draft.ops in let r = after_commit (i * 1024) (generated_map o) draft.ops in
    let count = b.count in let four = b.hosts in
    record {
      draws = refl;
      count = length_set accounts a r ∙ b.count;
      hosts = length_set_numbers seqs (a % 4) (suc (last_generated (a % 4) d.commits)) ∙ b.hosts;
      repositories = λ other in_range. elim (a == other) as (λ x. a == other ≡ x → slice_get (set accounts a r) other ≡ Some (repository_of (cond x (Some c) (last_of other d.commits)))) [
        | true ↦ λ e. let same = eqb_yes a other e in ap (slice_get (set accounts a r)) (sym same) ∙ get_here accounts a r (omega arith)
        | false ↦ λ e. get_other accounts a other r (eqb_no a other e) ∙ b.repositories other in_range
      ] refl;
      numbers = λ host in_range. elim (a % 4 == host) as (λ x. a % 4 == host ≡ x → slice_index (set seqs (a % 4) (suc (last_generated (a % 4) d.commits))) host ≡ cond x (suc (last_generated (a % 4) d.commits)) (last_generated host d.commits)) [
        | true ↦ λ e. let same = eqb_yes (a % 4) host e in ap (slice_index (set seqs (a % 4) (suc (last_generated (a % 4) d.commits)))) (sym same) ∙ index_here seqs (a % 4) (suc (last_generated (a % 4) d.commits)) (omega arith)
        | false ↦ λ e. index_other seqs (a % 4) host (suc (last_generated (a % 4) d.commits)) (eqb_no (a % 4) host e) ∙ b.numbers host in_range
      ] refl;
    }

-- an account without a commit has no last one
pub ops_drawn : (o : Option Commit) (i x : ℕ) (draft : Draft) → (is_some (past_of o) ≡ true → draft ≡ drafted (generated_map o) i x) → (is_some (past_of o) ≡ false → draft ≡ record { ops = []; state = x }) → draft ≡ generated_ops o i x
ops_drawn None i x draft some none = none refl
ops_drawn (Some c) i x draft some none = some refl

-- the message that is made is that of the commit
pub message_same : (i : ℕ) (d : Drawn) (a : ℕ) (did : List ℕ) (seq rev : ℕ) (r : Repository) (ops : List Op) → a ≡ drawn 16 (next d.state) → did ≡ generated_did a → seq ≡ suc (last_generated (drawn 16 (next d.state) % 4) d.commits) → rev ≡ i * 1024 → r ≡ repository_of (last_of (drawn 16 (next d.state)) d.commits) → ops ≡ (generated_ops (last_of (drawn 16 (next d.state)) d.commits) i (next d.state)).ops
    → commit_message did seq rev r.past ops (edited r.map ops) ≡ message (generated_commit i (drawn 16 (next d.state)) d.commits (generated_ops (last_of (drawn 16 (next d.state)) d.commits) i (next d.state)).ops)
unfolding message
message_same i d a did seq rev r ops ea ed es er eR eo =
    let b = drawn 16 (next d.state) in let o = last_of b d.commits in let D = generated_did b in let S = suc (last_generated (b % 4) d.commits) in
    ap (λ x. commit_message x seq rev r.past ops (edited r.map ops)) (ed ∙ ap generated_did ea)
    ∙ ap (λ x. commit_message D x rev r.past ops (edited r.map ops)) es
    ∙ ap (λ x. commit_message D S x r.past ops (edited r.map ops)) er
    ∙ ap (λ (x : Repository). commit_message D S (i * 1024) x.past ops (edited x.map ops)) eR
    ∙ ap (λ x. commit_message D S (i * 1024) (past_of o) x (edited (generated_map o) x)) eo

-- the value at a place
pub got : (xs : List Repository) (i : ℕ) (r other : Repository) → slice_get xs i ≡ Some other → r ≡ slice_index_or xs i r → r ≡ other
got [] i r other e is = absurd cc
got (x ∷ xs) zero r other e is = is ∙ some_same x other e
got (x ∷ xs) (suc i) r other e is = got xs i r other e is
