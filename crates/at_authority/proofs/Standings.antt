-- A table after one more line.
use Rattle.std.proofs.Common.{◌≡◌, ℕ, Bool, true, false, cond, ◌||◌, List, [], ◌∷◌, ◌++◌, Option, Some, None, refl, sym, ap, ◌∙◌}
use Rattle.std.specs.Prelude.{String, codes, option_map, string_bytes}
use Rattle.std.specs.BTreeMap.{BTreeMap, UpdatesBy, get_by_text}
use Rattle.std.specs.BTreeSet as sorted
use Rattle.std.specs.BTreeSet.{BTreeSet, contains_text}
use Rattle.std.specs.Cmp.Lexicographic.{slice_cmp, nat_list_eq_equiv}
use Rattle.std.specs.Global.{Global}
use Rattle.std.specs.Option.{option_or}
use Rattle.std.specs.Ordering.{nat_cmp}
use Rattle.std.specs.Str.{bytes_eq}
use Rattle.std.specs.String.{string_cmp}
use Rattle.std.proofs.lemmas.Map.Text.{btree_map_updates_text, btree_set_updates_text}
use Rattle.at_authority.specs.declared.table.Table.{Table}
use Rattle.at_authority.specs.Tables.{first_field, other_fields, home_by, home_in, has_line, trust_line}
use Rattle.at_authority.specs.Standing.{StandsFor, IsOfKind}
use Rattle.at_authority.proofs.Lines.{cut}

or_nothing : (b : Bool) → (b || false) ≡ b
or_nothing true = refl
or_nothing false = refl

or_joins : (a b c : Bool) → (a || (b || c)) ≡ ((a || b) || c)
or_joins true b c = refl
or_joins false b c = refl

chosen : (a b : Bool) → cond a true b ≡ (b || a)
chosen true true = refl
chosen true false = refl
chosen false true = refl
chosen false false = refl

or_none : {A : Type 0} (o : Option A) → option_or o None ≡ o
or_none None = refl
or_none (Some x) = refl

or_again : {A : Type 0} (a b c : Option A) → option_or (option_or a b) c ≡ option_or a (option_or b c)
or_again None b c = refl
or_again (Some x) b c = refl

-- one more line
pub line_added : (line text : List ℕ) (lines : List (List ℕ)) → has_line line (lines ++ text ∷ []) ≡ (has_line line lines || bytes_eq line text)
line_added line text [] = or_nothing (bytes_eq line text)
line_added line text (l ∷ lines) = ap (λ (b : Bool). bytes_eq line l || b) (line_added line text lines) ∙ or_joins (bytes_eq line l) (has_line line lines) (bytes_eq line text)

pub home_added : (did text : List ℕ) (lines : List (List ℕ)) → home_in did (lines ++ text ∷ []) ≡ option_or (home_by did text) (home_in did lines)
home_added did text [] = sym (or_none (home_by did text))
home_added did text (l ∷ lines) = ap (λ (o : Option (List ℕ)). option_or o (home_by did l)) (home_added did text lines) ∙ or_again (home_by did text) (home_in did lines) (home_by did l)

-- a line that isn't this one
not_added : (line text : List ℕ) (lines : List (List ℕ)) → bytes_eq line text ≡ false → has_line line (lines ++ text ∷ []) ≡ has_line line lines
not_added line text lines h = line_added line text lines ∙ ap (λ (b : Bool). has_line line lines || b) h ∙ or_nothing (has_line line lines)

-- a line of another kind gives no home
no_home_by : (did kind text : List ℕ) → first_field text ≡ kind → bytes_eq kind (codes "home") ≡ false → home_by did text ≡ None
no_home_by did kind text first other = rw (first, other) refl

home_kept : (did kind text : List ℕ) (lines : List (List ℕ)) → first_field text ≡ kind → bytes_eq kind (codes "home") ≡ false → home_in did (lines ++ text ∷ []) ≡ home_in did lines
home_kept did kind text lines first other = home_added did text lines ∙ ap (λ (o : Option (List ℕ)). option_or o (home_in did lines)) (no_home_by did kind text first other)

whole : (text kind rest : List ℕ) → IsOfKind text kind rest → text ≡ kind ++ 32 ∷ rest
whole text kind rest k = cut text k.line ∙ ap (λ (s : List ℕ). s ++ 32 ∷ other_fields text) k.first ∙ ap (λ (s : List ℕ). kind ++ 32 ∷ s) (sym k.others)

-- a name was put into a set
pub set_added : (key name line text : List ℕ) (lines : List (List ℕ)) (old new : BTreeSet (String Global)) → sorted.UpdatesBy string_cmp (λ k. slice_cmp nat_cmp key (string_bytes k)) old new true
    → contains_text old name ≡ has_line line lines → bytes_eq line text ≡ bytes_eq name key → contains_text new name ≡ has_line line (lines ++ text ∷ [])
set_added key name line text lines old new updates before same =
    btree_set_updates_text key old new true updates name ∙ chosen (bytes_eq key name) (contains_text old name) ∙ ap (λ (b : Bool). b || bytes_eq key name) before
    ∙ ap (λ (b : Bool). has_line line lines || b) (nat_list_eq_equiv.symm key name ∙ sym same) ∙ sym (line_added line text lines)

pub trust_stands : (old : Table) (new : BTreeSet (String Global)) (key text : List ℕ) (lines : List (List ℕ)) → IsOfKind text (codes "trust") key → sorted.UpdatesBy string_cmp (λ k. slice_cmp nat_cmp key (string_bytes k)) old.trusted new true
    → StandsFor lines old → StandsFor (lines ++ text ∷ []) (record old { trusted = new })
trust_stands old new key text lines k updates stands =
    let e = whole text (codes "trust") key k in
    record {
      homes = λ did. stands.homes did ∙ sym (home_kept did (codes "trust") text lines k.first refl);
      trusted = λ did. set_added key did (trust_line did) text lines old.trusted new updates (stands.trusted did) (ap (bytes_eq (trust_line did)) e);
      good = λ part. stands.good part ∙ sym (not_added (codes "good " ++ part) text lines (ap (bytes_eq (codes "good " ++ part)) e));
    }

pub good_stands : (old : Table) (new : BTreeSet (String Global)) (key text : List ℕ) (lines : List (List ℕ)) → IsOfKind text (codes "good") key → sorted.UpdatesBy string_cmp (λ k. slice_cmp nat_cmp key (string_bytes k)) old.good new true
    → StandsFor lines old → StandsFor (lines ++ text ∷ []) (record old { good = new })
good_stands old new key text lines k updates stands =
    let e = whole text (codes "good") key k in
    record {
      homes = λ did. stands.homes did ∙ sym (home_kept did (codes "good") text lines k.first refl);
      trusted = λ did. stands.trusted did ∙ sym (not_added (trust_line did) text lines (ap (bytes_eq (trust_line did)) e));
      good = λ part. set_added key part (codes "good " ++ part) text lines old.good new updates (stands.good part) (ap (bytes_eq (codes "good " ++ part)) e);
    }

-- the home of a DID after a line that gives one to some DID
home_put : (b : Bool) (host : List ℕ) (home : String Global) (o : Option (String Global)) → string_bytes home ≡ host → option_map string_bytes (cond b (Some home) o) ≡ option_or (cond b (Some host) None) (option_map string_bytes o)
home_put true host home o h = ap Some h
home_put false host home o h = refl

pub home_stands : (old : Table) (new : BTreeMap (String Global) (String Global)) (name home : String Global) (did host text : List ℕ) (lines : List (List ℕ)) → IsOfKind text (codes "home") (other_fields text)
    → did ≡ first_field (other_fields text) → host ≡ other_fields (other_fields text) → string_bytes name ≡ did → string_bytes home ≡ host
    → UpdatesBy string_cmp (λ k. slice_cmp nat_cmp (string_bytes name) (string_bytes k)) old.homes new (Some home) → StandsFor lines old → StandsFor (lines ++ text ∷ []) (record old { homes = new })
home_stands old new name home did host text lines k did_is host_is name_is home_is updates stands =
    let e = whole text (codes "home") (other_fields text) k in
    record {
      homes = λ q. ap (option_map string_bytes) (btree_map_updates_text (string_bytes name) old.homes new (Some home) updates q)
          ∙ home_put (bytes_eq (string_bytes name) q) host home (get_by_text old.homes q) home_is
          ∙ ap (λ (o : Option (List ℕ)). option_or (cond (bytes_eq (string_bytes name) q) (Some host) None) o) (stands.homes q)
          ∙ ap (λ (o : Option (List ℕ)). option_or o (home_in q lines)) (given q) ∙ sym (home_added q text lines);
      trusted = λ q. stands.trusted q ∙ sym (not_added (trust_line q) text lines (ap (bytes_eq (trust_line q)) e));
      good = λ part. stands.good part ∙ sym (not_added (codes "good " ++ part) text lines (ap (bytes_eq (codes "good " ++ part)) e));
    }
  where
    given : (q : List ℕ) → cond (bytes_eq (string_bytes name) q) (Some host) None ≡ home_by q text
    given q = rw (name_is, k.first, did_is, host_is) refl
