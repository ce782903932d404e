use Rattle.std.proofs.Common.{◌≡◌, ◌+◌, ℕ, suc, ◌∷◌, drop, length, slice_get, Some, sym, ap, ◌∙◌, subst, arith, drop-cons}
use Rattle.std.proofs.lemmas.List.{drop_all}
use Rattle.relay_gen.specs.Commits.{keys_from, last_of}
use Rattle.relay_gen.specs.States.{repository_of}
use Rattle.relay_gen.proofs.Befores.{keys_few, keys_of, keys_told}
use Rattle.relay_gen.proofs.Sorted.{length_items}
use Rattle.relay_gen.proofs.history.Maker.keys.Goals as goal

pub overflow_add-keys : goal.overflow_add-keys
overflow_add-keys c =
    let d = c.requires.0 in let b = c.requires.1 in let accounts = c.args.self.now.accounts.items in let items = c.as_slice-account-items.result.now in let i = c.accounts.account-index in let a = c.account-item.result in
    let here : drop i items ≡ a ∷ drop (suc i) items = drop-cons items i a c.accounts-test.true ∙ ap (λ y. y ∷ drop (suc i) items) (sym c.account-item.is) in
    let told = keys_told 0 d.commits accounts (λ k low. let e : k ≡ 0 + k = omega arith in let R : ℕ → Type 0 = λ m. slice_get accounts k ≡ Some (repository_of (last_of m d.commits)) in subst R e (b.repositories k (let n = b.count in omega arith))) in
    let few = keys_few 0 16 100001 d.commits c.requires.2 in
    let sum = c.accounts.invariant in let split = ap keys_of here in let same = ap keys_of c.as_slice-account-items.ensures.value in let n = b.count in
    let sixteen = ap (λ m. keys_from 0 m d.commits) n in
    let long = length_items c.records.result.now in let size = ap length c.records.ensures in
    omega (arith, told, few, sum, split, same, sixteen, long, size)

pub returns : goal.returns
returns c d b =
    let accounts = c.args.self.now.accounts.items in let items = c.as_slice-account-items.result.now in let i = c.accounts.account-index in
    let told = keys_told 0 d.commits accounts (λ k low. let e : k ≡ 0 + k = omega arith in let R : ℕ → Type 0 = λ m. slice_get accounts k ≡ Some (repository_of (last_of m d.commits)) in subst R e (b.repositories k (let n = b.count in omega arith))) in
    let none : keys_of (drop i items) ≡ 0 = ap keys_of (drop_all i items (let low = c.accounts-test.false in omega arith)) in
    let sum = c.accounts.invariant in let same = ap keys_of c.as_slice-account-items.ensures.value in
    let sixteen = ap (λ m. keys_from 0 m d.commits) b.count in
    let whole : c.accounts.keys ≡ keys_from 0 16 d.commits = omega (arith, told, none, sum, same, sixteen) in whole
