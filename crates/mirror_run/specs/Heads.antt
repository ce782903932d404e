-- What a mirror prints of a journal's accounts (own).
use Rattle.std.specs.Prelude.{◌≡◌, ◌⊎◌, ℕ, List, [], ◌∷◌, ◌++◌, length, Some, codes}
use Rattle.at_event.specs.declared.head.Head.{Head}
use Rattle.at_syntax.specs.Tid.{digits_of}
use Rattle.backfill.specs.Served.{served}
use Rattle.backfill.specs.Writing.{with_length}
use Rattle.mst_list.specs.declared.item.Item.{Item}
use Rattle.mst_node.specs.Trees.{root}
use Rattle.relay_row.specs.declared.row.Row.{Row}
use Rattle.account_state.specs.Folds.{account}
use Rattle.account_state.specs.declared.repo.Repo.{Repo}
use Rattle.relay_store.specs.Shown.{held_by}
use Rattle.mirror.specs.Repository.{Repositories}
use Rattle.mirror_law.specs.Laws.{MayBeMirrored}
use Rattle.mirror_run.specs.Lines.{records_words, root_words}

-- the line of an account with this head: its revision, how many records, and its `data`
abbrev pub head_line : List ℕ → Head → ℕ → List ℕ
head_line did head count = did ++ (codes " " ++ ((digits_of head.rev
    ++ (records_words count ++ root_words head.data_root)) ++ 10 ∷ []))

-- nothing, or lines that end in a line feed
abbrev pub AreLinesWhole : List ℕ → Type 0
AreLinesWhole text = (text ≡ []) ⊎ ((front : List ℕ) × (text ≡ front ++ 10 ∷ []))

-- The text has the line of an account with this head, after whole lines: its records are those of a
-- map whose tree has the head's `data` as root.
pub record TellsHead (did : List ℕ) (head : Head) (text : List ℕ) : Type 0 where
  pub map : List Item
  pub rooted : root map ≡ head.data_root
  pub before : List ℕ
  pub after : List ℕ
  pub split : text ≡ before ++ (head_line did head (length map) ++ after)
  pub lines : AreLinesWhole before

-- Where the input is what a replay from the start writes of a whole journal: of each account that
-- the journal has as good, and of which nothing is withheld, the line that is written has the
-- journal's own head, its revision and its `data`.
abbrev pub TellsHeads : Repositories → List ℕ → List ℕ → List ℕ → Type 0
TellsHeads repositories input old new =
    (J : List Row) (did : List ℕ) (s : List Item) (head : Head)
    → MayBeMirrored J J did repositories s → (account did J).repo ≡ Repo.Good head
    → input ≡ with_length (served (held_by J) (Some 0))
    → (text : List ℕ) × (new ≡ old ++ text) × TellsHead did head text
