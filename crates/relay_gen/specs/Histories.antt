-- Made histories (own): the messages of four hosts about sixteen accounts, drawn from a number.
use Rattle.std.specs.Prelude.{ℕ, List, [], ◌∷◌, ◌++◌}
use Rattle.relay_gen.specs.Commits.{Commit, commits_from, keys_from}
use Rattle.relay_gen.specs.Messages.{message}
use Rattle.relay_gen.specs.Names.{host_of}

-- the messages, each behind its host, in order; and how many keys the last maps of all accounts
-- have
pub record History : Type 0 where
  pub messages : List (List ℕ × List ℕ)
  pub keys : ℕ

-- what hosts send of commits, of which the last comes first
abbrev pub generated_messages : List Commit → List (List ℕ × List ℕ)
generated_messages [] = []
generated_messages (c ∷ commits) = generated_messages commits ++ (host_of c.account, message c) ∷ []

-- the history of n messages that is drawn from a number
abbrev pub history : ℕ → ℕ → History
history start n = record {
  messages = generated_messages (commits_from start n).commits;
  keys = keys_from 0 16 (commits_from start n).commits;
}
