use Rattle.std.proofs.Common.{◌≡◌, ◌+◌, ◌*◌, ◌%◌, ◌<◌, ℕ, suc, List, map, set, slice_index, slice_index_or, sym, ap, ◌∙◌, subst, arith}
use Rattle.mst_list.specs.declared.op.Op.{Op}
use Rattle.relay_gen.specs.Draws.{drawn, next}
use Rattle.relay_gen.specs.Drafts.{Draft}
use Rattle.relay_gen.specs.Commits.{Drawn, last_of, last_generated, generated_map, generated_ops, with_commit}
use Rattle.relay_gen.specs.Records.{op_of}
use Rattle.relay_gen.specs.States.{CanPlay, IsBehind, Repository, after_commit, repository_of}
use Rattle.relay_gen.proofs.Befores.{can_play, seq_before}
use Rattle.relay_gen.proofs.Making.{behind_next, got, index_here, message_same}
use Rattle.relay_gen.proofs.history.Maker.next.Goals as goal

-- the account that is drawn, and its repository
drawn_is : (d : Drawn) (state x a : ℕ) (accounts : List Repository) (seqs : List ℕ) → IsBehind d state accounts seqs → x ≡ drawn 16 (next state) → x ≡ drawn 16 (next d.state)
drawn_is d state x a accounts seqs b e = e ∙ ap (λ s. drawn 16 (next s)) b.draws

repository_is : (d : Drawn) (state x : ℕ) (accounts : List Repository) (seqs : List ℕ) (r : Repository) → IsBehind d state accounts seqs → x ≡ drawn 16 (next state) → x < 16 → r ≡ slice_index_or accounts x r → r ≡ repository_of (last_of (drawn 16 (next d.state)) d.commits)
repository_is d state x accounts seqs r b e low is =
    got accounts x r (repository_of (last_of x d.commits)) (b.repositories x low) is ∙ ap (λ a. repository_of (last_of a d.commits)) (drawn_is d state x 0 accounts seqs b e)

number_is : (d : Drawn) (state x : ℕ) (accounts : List Repository) (seqs : List ℕ) → IsBehind d state accounts seqs → x ≡ drawn 16 (next state) → slice_index seqs (x % 4) + 1 ≡ suc (last_generated (drawn 16 (next d.state) % 4) d.commits)
number_is d state x accounts seqs b e =
    let is = b.numbers (x % 4) (omega arith) in
    let more : slice_index seqs (x % 4) + 1 ≡ suc (last_generated (x % 4) d.commits) = omega (arith, is) in
    more ∙ ap (λ a. suc (last_generated (a % 4) d.commits)) (drawn_is d state x 0 accounts seqs b e)

pub overflow_add-self : goal.overflow_add-self
overflow_add-self c =
    let d = c.requires.before.0 in let b = c.requires.before.1 in let a = c.draw-at.result in
    let low = seq_before c.args.number (a % 4) d.commits c.requires.least c.requires.before.2 in let is = b.numbers (a % 4) (omega arith) in let most = c.requires.most in omega (arith, low, is, most)

pub commit-requires-clause-seq : goal.commit-requires-clause-seq
commit-requires-clause-seq c =
    let d = c.requires.before.0 in let b = c.requires.before.1 in let a = c.draw-at.result in let four = b.hosts in let seqs = c.args.self.now.seqs in
    let low = seq_before c.args.number (a % 4) d.commits c.requires.least c.requires.before.2 in let is = b.numbers (a % 4) (omega arith) in let most = c.requires.most in
    let here = index_here seqs (a % 4) (slice_index seqs (a % 4) + 1) (omega arith) in omega (arith, low, is, most, here)

pub commit-requires-clause-can : goal.commit-requires-clause-can
commit-requires-clause-can c =
    let d = c.requires.before.0 in let b = c.requires.before.1 in let n = c.args.number in let x = next d.state in let o = last_of (drawn 16 x) d.commits in
    let r = repository_is d c.args.self.now.draws c.draw-at.result c.args.self.now.accounts.items c.args.self.now.seqs c.index_mut-account.result.now b c.draw-at.ensures.value c.draw-at.ensures.below c.index_mut-account.ensures.value in
    let draft = c.in_ok-changes.ensures o r ∙ ap (generated_ops o n) (c.draw-at.ensures.state ∙ ap next b.draws) in
    let ops : map op_of c.as_slice.result.now ≡ (generated_ops o n x).ops = ap (map op_of) c.as_slice.ensures.value ∙ ap (λ (y : Draft). y.ops) draft in
    let O : List Op → Type 0 = λ y. CanPlay c.index_mut-account.result.now.map y in let P : Repository → Type 0 = λ y. CanPlay y.map (generated_ops o n x).ops in
    subst O (sym ops) (subst P (sym r) (can_play n (drawn 16 x) x d.commits c.requires.most c.requires.before.2))

pub returns-clause-behind : goal.returns-clause-behind
returns-clause-behind c = λ d b.
    let n = c.args.number in let x = next d.state in let o = last_of (drawn 16 x) d.commits in let a = c.draw-at.result in let accounts = c.args.self.now.accounts.items in let seqs = c.args.self.now.seqs in
    let r = repository_is d c.args.self.now.draws a accounts seqs c.index_mut-account.result.now b c.draw-at.ensures.value c.draw-at.ensures.below c.index_mut-account.ensures.value in
    let draft = c.in_ok-changes.ensures o r ∙ ap (generated_ops o n) (c.draw-at.ensures.state ∙ ap next b.draws) in
    let ops : map op_of c.as_slice.result.now ≡ (generated_ops o n x).ops = ap (map op_of) c.as_slice.ensures.value ∙ ap (λ (y : Draft). y.ops) draft in
    let at : a ≡ drawn 16 x = drawn_is d c.args.self.now.draws a 0 accounts seqs b c.draw-at.ensures.value in
    let state : c.changes_of.new.draws ≡ (generated_ops o n x).state = ap (λ (y : Draft). y.state) draft in
    let rev : c.from_value-rev.result ≡ n * 1024 = c.from_value-rev.ensures ∙ ap (λ m. m * 1024) c.from.ensures in
    let account : c.commit.new.self ≡ after_commit (n * 1024) (generated_map o) (generated_ops o n x).ops = c.in_ok-message.ensures.repository
    ∙ ap (λ m. after_commit m c.index_mut-account.result.now.map (map op_of c.as_slice.result.now)) rev
    ∙ ap (λ (y : Repository). after_commit (n * 1024) y.map (map op_of c.as_slice.result.now)) r
    ∙ ap (after_commit (n * 1024) (generated_map o)) ops in
    let number = number_is d c.args.self.now.draws a accounts seqs b c.draw-at.ensures.value in
    let W = with_commit n d in let low = c.draw-at.ensures.below in
    let next = behind_next n d c.args.self.now.draws accounts seqs b (subst (λ m. m < 16) at low) in
    let A : ℕ → Type 0 = λ k. IsBehind W (generated_ops o n x).state (set accounts k (after_commit (n * 1024) (generated_map o) (generated_ops o n x).ops)) (set seqs (k % 4) (suc (last_generated (drawn 16 x % 4) d.commits))) in
    let S : ℕ → Type 0 = λ s. IsBehind W s (set accounts a (after_commit (n * 1024) (generated_map o) (generated_ops o n x).ops)) (set seqs (a % 4) (suc (last_generated (drawn 16 x % 4) d.commits))) in
    let Q : Repository → Type 0 = λ y. IsBehind W c.changes_of.new.draws (set accounts a y) (set seqs (a % 4) (suc (last_generated (drawn 16 x % 4) d.commits))) in
    let N : ℕ → Type 0 = λ k. IsBehind W c.changes_of.new.draws (set accounts a c.commit.new.self) (set seqs (a % 4) k) in
    subst N (sym number) (subst Q (sym account) (subst S (sym state) (subst A (sym at) next)))

pub returns-clause-sent : goal.returns-clause-sent
returns-clause-sent c = λ d b.
    let n = c.args.number in let x = next d.state in let o = last_of (drawn 16 x) d.commits in let a = c.draw-at.result in let accounts = c.args.self.now.accounts.items in let seqs = c.args.self.now.seqs in
    let r = repository_is d c.args.self.now.draws a accounts seqs c.index_mut-account.result.now b c.draw-at.ensures.value c.draw-at.ensures.below c.index_mut-account.ensures.value in
    let draft = c.in_ok-changes.ensures o r ∙ ap (generated_ops o n) (c.draw-at.ensures.state ∙ ap next b.draws) in
    let ops : map op_of c.as_slice.result.now ≡ (generated_ops o n x).ops = ap (map op_of) c.as_slice.ensures.value ∙ ap (λ (y : Draft). y.ops) draft in
    let at : a ≡ drawn 16 x = drawn_is d c.args.self.now.draws a 0 accounts seqs b c.draw-at.ensures.value in
    let rev : c.from_value-rev.result ≡ n * 1024 = c.from_value-rev.ensures ∙ ap (λ m. m * 1024) c.from.ensures in
    let four = b.hosts in
    let number = index_here seqs (a % 4) (slice_index seqs (a % 4) + 1) (omega arith) ∙ number_is d c.args.self.now.draws a accounts seqs b c.draw-at.ensures.value in
    (sym at, sym (c.in_ok-message.ensures.message ∙ message_same n d a c.did_of.result.now _ c.from_value-rev.result c.index_mut-account.result.now (map op_of c.as_slice.result.now) at c.did_of.ensures number rev r ops))
