-- The next account whose repository is known.
use Rattle.std.proofs.Common.{◌≡◌, ℕ, true, false, List, Some, None, refl, sym, ◌∙◌, ap, subst}
use Rattle.std.specs.Str.{bytes_eq}
use Rattle.std.proofs.lemmas.Bool.{false≢true}
use Rattle.account_state.specs.Entries.{entry, is_before}
use Rattle.account_state.specs.State.{State}
use Rattle.account_state.proofs.Order.{before_total, before_trans, same_text}
use Rattle.relay_core.specs.declared.journal_state.Core.{Core}
use Rattle.relay_query.specs.Accounts.{is_repo_good}
use Rattle.relay_query.specs.Seen.{has_good, is_listed}

-- of those behind a DID none up to this place has a repository that is known
pub record IsSeeking (core : Core) (behind place : List ℕ) : Type 0 where
  pub not_back : (name : List ℕ) → is_before place name ≡ true → is_before behind name ≡ true
  pub passed : (name : List ℕ) → is_before behind name ≡ true → is_before place name ≡ false → has_good core name ≡ false

pub seeking_none : (core : Core) (behind place : List ℕ) → place ≡ behind → IsSeeking core behind place
seeking_none core behind place is = record {
  not_back = λ name less. subst (λ (d : List ℕ). is_before d name ≡ true) is less;
  passed = λ name less not. absurd (false≢true (sym not ∙ subst (λ (d : List ℕ). is_before d name ≡ true) (sym is) less));
}

module _ (core : Core) (behind place : List ℕ) (so_far : IsSeeking core behind place) where
  -- none but those that an account stands for
  none_at : (name : List ℕ) → entry core.accounts name ≡ None → has_good core name ≡ false
  none_at name none = ap is_listed none

  pub seeking_least : (x : List ℕ) → ((name : List ℕ) → is_before place name ≡ true → is_before name x ≡ true → entry core.accounts name ≡ None)
      → (name : List ℕ) → is_before behind name ≡ true → is_before name x ≡ true → has_good core name ≡ false
  seeking_least x least name less below =
      elim (is_before place name) as (λ b. is_before place name ≡ b → has_good core name ≡ false) [
        | true ↦ λ past. none_at name (least name past below)
        | false ↦ λ not. so_far.passed name less not
      ] refl

  pub seeking_done : ((name : List ℕ) → is_before place name ≡ true → entry core.accounts name ≡ None) → (name : List ℕ) → is_before behind name ≡ true → has_good core name ≡ false
  seeking_done none name less =
      elim (is_before place name) as (λ b. is_before place name ≡ b → has_good core name ≡ false) [
        | true ↦ λ past. none_at name (none name past)
        | false ↦ λ not. so_far.passed name less not
      ] refl

  pub seeking_more : (x : List ℕ) (a : State) → entry core.accounts x ≡ Some a → is_repo_good a.repo ≡ false → is_before place x ≡ true
      → ((name : List ℕ) → is_before place name ≡ true → is_before name x ≡ true → entry core.accounts name ≡ None) → IsSeeking core behind x
  seeking_more x a found off above least = record {
    not_back = λ name less. so_far.not_back name (before_trans place x name above less);
    passed = λ name less not. elim (bytes_eq x name) as (λ b. bytes_eq x name ≡ b → has_good core name ≡ false) [
      | true ↦ λ same. subst (λ (d : List ℕ). has_good core d ≡ false) (same_text x name same) (ap is_listed found ∙ off)
      | false ↦ λ differ. seeking_least x least name less (before_total x name not differ)
    ] refl;
  }

  pub seeking_above : (x : List ℕ) → is_before place x ≡ true → is_before behind x ≡ true
  seeking_above x above = so_far.not_back x above
