-- The name of a host is a text.
use Rattle.std.proofs.Common.{◌≡◌, ℕ, zero, suc, ◌<◌, ◌≤◌, Bool, true, false, List, [], ◌∷◌, length, refl, sym, arith}
use Rattle.std.specs.List.{list_all}
use Rattle.std.specs.Prelude.{slice_index, nat_lt, nat_le, ◌&&◌}
use Rattle.std.specs.Str.{IsUtf8}
use Rattle.std.proofs.lemmas.Bool.{and_parts, leb-true}
use Rattle.std.proofs.lemmas.Bool.Decides.{nat_tests}
use Rattle.std.proofs.lemmas.Str.{IsUtf8-from_ascii}
use Rattle.at_syntax.specs.Host.{is_host, is_host_character}
use Rattle.at_syntax.specs.declared.host.TheConstants.{LONGEST_HOST}

character_ascii : (c : ℕ) → is_host_character c ≡ true → c < 128
character_ascii c h = grind (arith, nat_tests)

characters_ascii : (text : List ℕ) → list_all is_host_character text ≡ true → (i : ℕ) → slice_index text i < 128
characters_ascii [] h i = omega arith
characters_ascii (c ∷ text) h zero = character_ascii c (and_parts (is_host_character c) (list_all is_host_character text) h).0
characters_ascii (c ∷ text) h (suc i) = characters_ascii text (and_parts (is_host_character c) (list_all is_host_character text) h).1 i

host_characters : (name : List ℕ) → is_host name ≡ true → list_all is_host_character name ≡ true
unfolding is_host
host_characters name h = (and_parts (nat_lt 0 (length name) && nat_le (length name) LONGEST_HOST) (list_all is_host_character name) h).1

pub length_host : (name : List ℕ) → is_host name ≡ true → length name ≤ 255
unfolding is_host
length_host name h =
    let front = and_parts (nat_lt 0 (length name) && nat_le (length name) LONGEST_HOST) (list_all is_host_character name) h in
    leb-true (length name) LONGEST_HOST (and_parts (nat_lt 0 (length name)) (nat_le (length name) LONGEST_HOST) front.0).1

host_ascii : (name : List ℕ) → is_host name ≡ true → (i : ℕ) → slice_index name i < 128
host_ascii name h = characters_ascii name (host_characters name h)

host_text : (name : List ℕ) → is_host name ≡ true → IsUtf8 name
host_text name h = IsUtf8-from_ascii name (host_ascii name h)

no_host : (name : List ℕ) (b : Bool) → b ≡ is_host name → (IsUtf8 name → ⊥) → b ≡ false
no_host name true e h = absurd (h (host_text name (sym e)))
no_host name false e h = refl

pub is_host-no_text : (name : List ℕ) → (IsUtf8 name → ⊥) → is_host name ≡ false
is_host-no_text name h = no_host name (is_host name) refl h

pub ruleset tests_of_names = is_host-no_text
