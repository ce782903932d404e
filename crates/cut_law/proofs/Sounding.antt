-- What cutting a sound journal leaves is sound.
use Rattle.std.proofs.Common.{◌≡◌, ◌≢◌, ℕ, true, List, [], ◌∷◌, ◌++◌, sym, ap, ◌∙◌, subst, append_assoc}
use Rattle.std.specs.List.{list_all}
use Rattle.std.proofs.lemmas.Bool.{and_parts, false≢true}
use Rattle.std.proofs.lemmas.List.{append-nil}
use Rattle.relay_row.specs.Folds.{names, did_of_row}
use Rattle.relay_row.specs.Journal.{IsJournal, is_carried_row}
use Rattle.relay_row.specs.declared.carried.Carried.{Carried}
use Rattle.relay_row.specs.declared.carried.CarriedRepo.{CarriedRepo}
use Rattle.relay_row.specs.declared.row.Row.{Row}
use Rattle.account_state.specs.Folds.{account, account_after}
use Rattle.account_state.specs.State.{State}
use Rattle.account_state.specs.declared.repo.Repo.{Repo}
use Rattle.account_state.proofs.Joined.{joined}
use Rattle.relay_law.specs.Carried.{AreOfKnown}
use Rattle.relay_law.specs.Chains.{commits, carried_part, part_in}
use Rattle.relay_law.specs.Histories.{IsCut}
use Rattle.relay_law.specs.Sound.{IsSound}
use Rattle.relay_law.proofs.Carrying.{carried_sound}
use Rattle.relay_law.proofs.Known.{some_name}

-- ---- commits of known accounts

known_behind : (before xs ys : List Row) → AreOfKnown before (xs ++ ys) → AreOfKnown (before ++ xs) ys
known_behind before [] ys known = subst (λ (R : List Row). AreOfKnown R ys) (sym (append-nil before)) known
known_behind before (x ∷ xs) ys known =
    subst (λ (R : List Row). AreOfKnown R ys) (append_assoc before (x ∷ []) xs) (known_behind (before ++ x ∷ []) xs ys known.1)

known_joined : (before xs ys : List Row) → AreOfKnown before xs → AreOfKnown (before ++ xs) ys → AreOfKnown before (xs ++ ys)
known_joined before [] ys one other = subst (λ (R : List Row). AreOfKnown R ys) (append-nil before) other
known_joined before (x ∷ xs) ys one other =
    (one.0, known_joined (before ++ x ∷ []) xs ys one.1 (subst (λ (R : List Row). AreOfKnown R ys) (sym (append_assoc before (x ∷ []) xs)) other))

repo_accepts : (repo : CarriedRepo) (m d : List ℕ) → carried_part repo ≡ commits m d → ⊥
repo_accepts CarriedRepo.Missing m d is = absurd cc
repo_accepts (CarriedRepo.Good head) m d is = absurd cc
repo_accepts (CarriedRepo.Lost rev) m d is = absurd cc

carried_accepts : (row : Row) (m d : List ℕ) → is_carried_row row ≡ true → part_in row ≡ commits m d → ⊥
carried_accepts (Row.Carried (Carried.Last seq)) m d carried is = absurd cc
carried_accepts (Row.Carried (Carried.Host host n)) m d carried is = absurd cc
carried_accepts (Row.Carried (Carried.Account a)) m d carried is = repo_accepts a.repo m d is
carried_accepts (Row.Taken t) m d carried is = absurd (false≢true carried)
carried_accepts (Row.Synced did whole moment) m d carried is = absurd (false≢true carried)
carried_accepts (Row.Operated o) m d carried is = absurd (false≢true carried)

-- carried rows accept no commit
carried_known : (before rows : List Row) → list_all is_carried_row rows ≡ true → AreOfKnown before rows
carried_known before [] all = tt
carried_known before (row ∷ rows) all =
    let both = and_parts (is_carried_row row) (list_all is_carried_row rows) all in (
      λ did m d rev is. absurd (carried_accepts row m d both.0 (some_name (names did (did_of_row row)) (part_in row) m d is).1),
      carried_known (before ++ row ∷ []) rows both.1,
    )

-- which accounts were lost is said by the accounts alone
same_known : (before over rows : List Row) → ((did : List ℕ) → account did over ≡ account did before) → AreOfKnown before rows → AreOfKnown over rows
same_known before over [] same known = tt
same_known before over (row ∷ rows) same known = (
  λ did m d rev is. subst (λ (a : State). a.repo ≢ Repo.Lost rev) (sym (same did)) (known.0 did m d rev is),
  same_known (before ++ row ∷ []) (over ++ row ∷ []) rows
      (λ did. joined did over (row ∷ []) ∙ ap (λ (a : State). account_after did a row) (same did) ∙ sym (joined did before (row ∷ []))) known.1,
)

-- ---- over a cut

module _ (J : List Row) (number : ℕ) (K : List Row) (cut : IsCut J number K) (known : AreOfKnown [] J) where
  known_others : AreOfKnown cut.front cut.others
  known_others = known_behind [] cut.front cut.others (subst (λ (R : List Row). AreOfKnown [] R) cut.whole known)

  pub cut_known : AreOfKnown [] K
  cut_known =
      subst (λ (R : List Row). AreOfKnown [] R) (sym cut.now)
      (known_joined [] cut.carried cut.others (carried_known [] cut.carried cut.over.are_carried) (same_known cut.front cut.carried cut.others cut.over.accounts known_others))

  pub cut_sound : IsJournal J → IsSound J → IsSound K
  cut_sound is sound =
      let P : List Row → Type 0 = λ R. IsJournal R in
      let Q : List Row → Type 0 = λ R. IsSound R in
      subst Q (sym cut.now) (carried_sound cut.front cut.others cut.carried (subst P cut.whole is) (subst Q cut.whole sound) known_others cut.over)
