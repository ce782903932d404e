-- The lines of an account and of hosts (own): links and revisions are their texts, numbers are
-- decimal, parts are separated by one blank, and each line ends in a line feed.
use Rattle.std.specs.Prelude.{ℕ, Bool, true, false, not, ◌&&◌, ◌==◌, List, [], ◌∷◌, ◌++◌, length, Option, Some, None, codes, decimal, if◌then◌else◌}
use Rattle.std.specs.Char.{is_ascii_graphic}
use Rattle.std.specs.List.{flat_map}
use Rattle.percent_encoding.specs.Percent.{percent_encode_byte, percent_sign}
use Rattle.at_cid.specs.Text.{text_of}
use Rattle.at_event.specs.declared.head.Head.{Head}
use Rattle.at_syntax.specs.Tid.{digits_of}
use Rattle.account_state.specs.State.{State}
use Rattle.account_state.specs.declared.repo.Repo.{Repo}

-- a byte of a status: a visible one of ASCII but `%` as it is, and each other one as `%` and its
-- two upper-case hexadecimal digits
abbrev pub shown_byte : ℕ → List ℕ
shown_byte b = if is_ascii_graphic b && not (b == percent_sign) then b ∷ []
    else percent_encode_byte b

-- what a host said of an account: `-` where it said nothing, and `%` where it said the empty text
abbrev pub status_word : Option (List ℕ) → List ℕ
status_word None = codes "-"
status_word (Some []) = codes "%"
status_word (Some (b ∷ text)) = flat_map shown_byte (b ∷ text)

-- whether its host serves it
abbrev pub active_word : Bool → List ℕ
active_word true = codes " active "
active_word false = codes " inactive "

-- whether the operator took it down
abbrev pub down_word : Bool → List ℕ
down_word true = codes " down "
down_word false = codes " up "

-- a link behind a blank
abbrev pub link_word : List ℕ → List ℕ
link_word link = codes " " ++ text_of link

-- the newest commit that is known: its revision, the link of its tree's top node, and its own link
abbrev pub good_words : Head → List ℕ
good_words head =
    codes "good " ++ (digits_of head.rev ++ (link_word head.data_root ++ link_word head.commit))

-- its repository: nothing, the newest commit, or the revision behind which commits were lost, `-`
-- where there is none
abbrev pub repo_words : Repo → List ℕ
repo_words Repo.Missing = codes "none"
repo_words (Repo.Good head) = good_words head
repo_words (Repo.Lost None) = codes "lost -"
repo_words (Repo.Lost (Some rev)) = codes "lost " ++ digits_of rev

-- the line of an account
abbrev pub account_text : List ℕ → State → List ℕ
account_text did a =
    did ++ (active_word a.active ++ (status_word a.status
    ++ (down_word a.down ++ (repo_words a.repo ++ 10 ∷ []))))

-- the line of a host and its cursor
abbrev pub host_text : List ℕ × ℕ → List ℕ
host_text h = h.0 ++ (codes " " ++ (decimal h.1 ++ 10 ∷ []))

-- the lines of hosts, in order, and how many there are
abbrev pub hosts_text : List (List ℕ × ℕ) → List ℕ
hosts_text hosts = flat_map host_text hosts ++ (codes "end " ++ (decimal (length hosts) ++ 10 ∷ []))
