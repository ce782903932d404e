-- A good head has the root of the chain that is open.
use Rattle.std.proofs.Common.{◌≡◌, ℕ, List, [], ◌∷◌, ◌++◌, refl, ap, sym, ◌∙◌, subst}
use Rattle.at_event.specs.declared.head.Head.{Head}
use Rattle.backfill.specs.Served.{messages_of}
use Rattle.commit_check.specs.Step.{empty_root}
use Rattle.relay_row.specs.Folds.{events_in, folded}
use Rattle.relay_row.specs.Journal.{IsJournal}
use Rattle.relay_row.specs.declared.row.Row.{Row}
use Rattle.account_state.specs.Folds.{account}
use Rattle.account_state.specs.declared.repo.Repo.{Repo}
use Rattle.relay_law.specs.Chains.{Part, commits, rests, nothing, part_of}
use Rattle.relay_law.proofs.Growing.{root_by, root_now}
use Rattle.relay_law.proofs.Tracking.{IsTracked, tracked}
use Rattle.mirror_law.specs.Open.{OpenChain, beginning_root, first_chain, open_chain, opened_after, opened_by, root_behind}

abbrev root_of : OpenChain → List ℕ
root_of chain = root_behind (beginning_root chain.began) chain.commits

root_more : (r : List ℕ) (ks : List (List ℕ × List ℕ)) (k : List ℕ × List ℕ) → root_behind r (ks ++ k ∷ []) ≡ k.1
root_more r [] k = refl
root_more r (j ∷ ks) k = root_more j.1 ks k

opened_root : (p : Part) (sent : List (List ℕ)) (chain : OpenChain) → root_of (opened_by p sent chain) ≡ root_by p (root_of chain)
opened_root (commits m d) sent chain = root_more (beginning_root chain.began) chain.commits (m, d)
opened_root (rests d) sent chain = refl
opened_root nothing sent chain = refl

newest_root : (did : List ℕ) (chain : OpenChain) (rows : List Row) → root_of (folded (opened_after did) chain rows) ≡ root_now did (root_of chain) rows
unfolding root_now
newest_root did chain [] = refl
newest_root did chain (row ∷ rows) =
    newest_root did (opened_after did chain row) rows ∙ ap (λ (r : List ℕ). root_now did r rows) (opened_root (part_of did row) (messages_of (events_in row)) chain)

pub good_root : (did : List ℕ) (rows : List Row) (head : Head) → IsJournal rows → (account did rows).repo ≡ Repo.Good head → root_behind (beginning_root (open_chain did rows).began) (open_chain did rows).commits ≡ head.data_root
good_root did rows head journal good =
    let P : Repo → Type 0 = λ repo. IsTracked repo (root_now did empty_root rows) in
    newest_root did first_chain rows ∙ sym (subst P good (tracked did rows journal))
