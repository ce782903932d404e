-- The commands, by the words that each is encoded with.
use Rattle.std.specs.Prelude.{◌≡◌, ◌≢◌, Option, Some, None, ℕ, ◌≤◌, ◌-◌, List, [], ◌∷◌, IsTrue, length, codes, decimal, ⊤}
use Rattle.at_syntax.specs.Did.{is_did}
use Rattle.at_syntax.specs.Host.{is_host}
use Rattle.at_syntax.specs.Path.{is_collection}
use Rattle.at_form.specs.declared.forms.TheConstants.{LONGEST_SHORT_TEXT}
use Rattle.relay_cli.specs.declared.command.Command.{Command}
use Rattle.at_cid.specs.declared.limits.TheConstants.{NUMBERS}
use Rattle.relay_cli.specs.declared.command.TheConstants.{MOST, MOST_TRIED}

-- the word of a collection, or the one for all
abbrev pub collection_word : Option (List ℕ) → List ℕ
collection_word None = codes "-"
collection_word (Some text) = text

-- the words of each command; numbers in decimal, without sign and without zeros in front
abbrev pub words_of : Command → List (List ℕ)
words_of Command.Check = codes "check" ∷ []
words_of Command.Ingest = codes "ingest" ∷ []
words_of (Command.Follow host count) = codes "follow" ∷ host ∷ decimal count ∷ []
words_of (Command.Replay cursor) = codes "replay" ∷ decimal cursor ∷ []
words_of (Command.Serve count) = codes "serve" ∷ decimal count ∷ []
words_of (Command.Account did) = codes "account" ∷ did ∷ []
words_of Command.Hosts = codes "hosts" ∷ []
words_of (Command.Takedown did time) = codes "takedown" ∷ did ∷ time ∷ []
words_of (Command.Restore did time) = codes "restore" ∷ did ∷ time ∷ []
words_of (Command.Sync did time) = codes "sync" ∷ did ∷ time ∷ []
words_of (Command.Cut seq) = codes "cut" ∷ decimal seq ∷ []
words_of (Command.Trial start count) = codes "trial" ∷ decimal start ∷ decimal count ∷ []
words_of Command.Mirror = codes "mirror" ∷ []
words_of (Command.Query count) = codes "query" ∷ decimal count ∷ []
words_of (Command.Lines cursor collection) =
    codes "lines" ∷ decimal cursor ∷ collection_word collection ∷ []

pub record IsNumber (least most n : ℕ) : Type 0 where
  pub from_least : least ≤ n
  pub to_most : n ≤ most

-- a time is passed on as it is, neither empty nor too long
pub record IsTime (time : List ℕ) : Type 0 where
  pub some : 1 ≤ length time
  pub short : length time ≤ LONGEST_SHORT_TEXT

-- a collection that is named isn't named as the word for all
abbrev pub IsCollection : Option (List ℕ) → Type 0
IsCollection None = ⊤
IsCollection (Some text) = IsTrue (is_collection text) × (text ≢ codes "-")

-- each argument is in its range, or of its form
abbrev pub IsInForm : Command → Type 0
IsInForm (Command.Follow host count) = IsTrue (is_host host) × IsNumber 1 MOST count
IsInForm (Command.Replay cursor) = IsNumber 0 (NUMBERS - 1) cursor
IsInForm (Command.Serve count) = IsNumber 1 MOST count
IsInForm (Command.Account did) = IsTrue (is_did did)
IsInForm (Command.Takedown did time) = IsTrue (is_did did) × IsTime time
IsInForm (Command.Restore did time) = IsTrue (is_did did) × IsTime time
IsInForm (Command.Sync did time) = IsTrue (is_did did) × IsTime time
IsInForm (Command.Cut seq) = IsNumber 0 (NUMBERS - 1) seq
IsInForm (Command.Trial start count) = IsNumber 0 (NUMBERS - 1) start × IsNumber 1 MOST_TRIED count
IsInForm (Command.Query count) = IsNumber 1 MOST count
IsInForm (Command.Lines cursor collection) = IsNumber 0 (NUMBERS - 1) cursor
    × IsCollection collection
IsInForm other = ⊤

-- the words are this command
pub record IsEncoded (words : List (List ℕ)) (command : Command) : Type 0 where
  pub words_are : words ≡ words_of command
  pub in_form : IsInForm command
