-- A host's name among those that have ended.
use Rattle.std.proofs.Common.{◌≡◌, ℕ, Bool, true, false, cond, ◌||◌, List, [], ◌∷◌, ◌++◌, refl, sym, ap, ◌∙◌}
use Rattle.std.specs.Prelude.{String, string_bytes}
use Rattle.std.specs.BTreeSet as sorted
use Rattle.std.specs.BTreeSet.{BTreeSet, contains_text}
use Rattle.std.specs.Cmp.Lexicographic.{slice_cmp, nat_list_eq_equiv}
use Rattle.std.specs.Global.{Global}
use Rattle.std.specs.Ordering.{nat_cmp}
use Rattle.std.specs.Str.{bytes_eq}
use Rattle.std.specs.String.{string_cmp}
use Rattle.std.proofs.lemmas.Map.Text.{btree_set_updates_text}
use Rattle.relay_core.specs.Runs.{has_ended}
use Rattle.take_run.specs.Names.{AreNamesOf}

or_joins : (a b c : Bool) → (a || (b || c)) ≡ ((a || b) || c)
or_joins true b c = refl
or_joins false b c = refl

or_between : (a b c : Bool) → (a || (b || c)) ≡ (b || (a || c))
or_between true true c = refl
or_between true false c = refl
or_between false true c = refl
or_between false false c = refl

chosen : (a b : Bool) → cond a true b ≡ (a || b)
chosen true b = refl
chosen false b = refl

-- one of these or of those
pub ended_parts : (xs ys : List (List ℕ)) (host : List ℕ) → has_ended (xs ++ ys) host ≡ (has_ended xs host || has_ended ys host)
ended_parts [] ys host = refl
ended_parts (x ∷ xs) ys host = ap (λ (b : Bool). bytes_eq host x || b) (ended_parts xs ys host) ∙ or_joins (bytes_eq host x) (has_ended xs host) (has_ended ys host)

-- at the end or in front
pub last_first : (xs : List (List ℕ)) (name host : List ℕ) → has_ended (xs ++ name ∷ []) host ≡ has_ended (name ∷ xs) host
last_first [] name host = refl
last_first (x ∷ xs) name host =
    ap (λ (b : Bool). bytes_eq host x || b) (last_first xs name host) ∙ or_between (bytes_eq host x) (bytes_eq host name) (has_ended xs host)

-- one more host has ended, and its name was put into the set
pub names_more : (name : List ℕ) (ended : List (List ℕ)) (old new : BTreeSet (String Global)) → sorted.UpdatesBy string_cmp (λ k. slice_cmp nat_cmp name (string_bytes k)) old new true
    → AreNamesOf old ended → AreNamesOf new (ended ++ name ∷ [])
names_more name ended old new updates are host =
    btree_set_updates_text name old new true updates host ∙ chosen (bytes_eq name host) (contains_text old host)
    ∙ (λ i. nat_list_eq_equiv.symm name host i || are host i) ∙ sym (last_first ended name host)
