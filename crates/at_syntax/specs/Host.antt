-- A host's name, with a port where there is one: a choice of this project, wide enough for names,
-- numbers and ports.
use Rattle.std.specs.Prelude.{ℕ, List, length, Bool, ◌&&◌, ◌||◌, ◌==◌, nat_le, nat_lt}
use Rattle.std.specs.List.{list_all}
use Rattle.at_syntax.specs.Characters.{is_between, is_lower}
use Rattle.at_syntax.specs.declared.host.TheConstants.{LONGEST_HOST}

-- what a host name is made of: small letters, digits, `.`, `:` and `-`
abbrev pub is_host_character : ℕ → Bool
is_host_character c = is_lower c || is_between 48 57 c || c == 46 || c == 58 || c == 45

-- 1 to as many characters of a host name as it has at most
unfoldable pub is_host : List ℕ → Bool
is_host text =
    nat_lt 0 (length text) && nat_le (length text) LONGEST_HOST && list_all is_host_character text
