-- What a trial writes (own): numbers are decimal, and each line ends in a line feed.
use Rattle.std.specs.Prelude.{◌≡◌, ◌<◌, ℕ, zero, suc, ◌+◌, List, [], ◌∷◌, ◌++◌, codes}
use Rattle.at_cid.specs.Link.{cid}
use Rattle.at_cid.specs.Text.{text_of}
use Rattle.account_state.specs.Folds.{account}
use Rattle.account_state.specs.declared.repo.Repo.{Repo}
use Rattle.relay_gen.specs.Names.{generated_did}
use Rattle.relay_row.specs.Folds.{last_seq}
use Rattle.relay_row.specs.declared.row.Row.{Row}
use Rattle.report_lines.specs.Lines.{numbered}
use Rattle.report_lines.specs.StateLines.{account_text}

-- 1 for a repository whose last commit is known
abbrev pub one_known : Repo → ℕ
one_known Repo.Missing = 0
one_known (Repo.Good head) = 1
one_known (Repo.Lost rev) = 0

-- the root of its tree, as a link in binary
abbrev pub root_of_repo : Repo → List ℕ
root_of_repo Repo.Missing = []
root_of_repo (Repo.Good head) = head.data_root
root_of_repo (Repo.Lost rev) = []

-- how many of the accounts below one have a commit
abbrev pub known_below : ℕ → List Row → ℕ
known_below zero J = 0
known_below (suc a) J = known_below a J + one_known (account (generated_did a) J).repo

-- the roots of the trees of the accounts below one
abbrev pub roots_below : ℕ → List Row → List ℕ
roots_below zero J = []
roots_below (suc a) J = roots_below a J ++ root_of_repo (account (generated_did a) J).repo

-- what two journals show of an account is the same
abbrev pub IsShownSame : ℕ → List Row → List Row → Type 0
IsShownSame a J K = account_text (generated_did a) (account (generated_did a) J)
    ≡ account_text (generated_did a) (account (generated_did a) K)

-- of each account of a made history
abbrev pub AreShownSame : List Row → List Row → Type 0
AreShownSame J K = (a : ℕ) → a < 16 → IsShownSame a J K

-- the first line: how the history was drawn, how many accounts have a commit, how many numbers were
-- given, and how many keys there are
abbrev pub first_line : ℕ → ℕ → ℕ → List Row → List ℕ
first_line start n keys J = numbered (codes "trial ") start
    ++ (numbered (codes " ") n ++ (numbered (codes " accounts ") (known_below 16 J)
    ++ (numbered (codes " events ") (last_seq J) ++ (numbered (codes " keys ") keys ++ 10 ∷ []))))

-- that both merges came to the same accounts; and the link over the roots of all trees
abbrev pub summary : ℕ → ℕ → ℕ → List Row → List ℕ
summary start n keys J = first_line start n keys J
    ++ (codes "merge same\nheads " ++ (text_of (cid (roots_below 16 J)) ++ 10 ∷ []))
