-- An authority in memory after a refresh.
use Rattle.std.proofs.Common.{◌≡◌, ℕ, Bool, true, false, cond, List, refl, ap, ◌∙◌}
use Rattle.std.specs.Prelude.{String, string_bytes}
use Rattle.std.specs.BTreeSet as sorted
use Rattle.std.specs.BTreeSet.{BTreeSet, contains_text}
use Rattle.std.specs.Cmp.Lexicographic.{slice_cmp}
use Rattle.std.specs.Global.{Global}
use Rattle.std.specs.Ordering.{nat_cmp}
use Rattle.std.specs.Str.{bytes_eq}
use Rattle.std.specs.String.{string_cmp}
use Rattle.std.proofs.lemmas.Map.Text.{btree_set_updates_text}
use Rattle.at_cid.specs.declared.failures.Failures.{Failures}
use Rattle.at_authority.specs.declared.table_authority.TableAuthority.{TableAuthority}
use Rattle.at_authority.specs.Queries.{Query, did_asked, refreshed}
use Rattle.at_authority.specs.Standing.{answer_of}
use Rattle.at_authority.specs.InMemory.{telling_of}

nested : (a b x y : Bool) → cond (cond a true b) x y ≡ cond a x (cond b x y)
nested true b x y = refl
nested false b x y = refl

pub is_refreshed : (old : TableAuthority) (names : BTreeSet (String Global)) (failures : Failures) (name : String Global) (did : List ℕ) → string_bytes name ≡ did → sorted.UpdatesBy string_cmp (λ k. slice_cmp nat_cmp (string_bytes name) (string_bytes k)) old.refreshed names true
    → telling_of (record old { refreshed = names; failures = failures }) ≡ refreshed did (telling_of old)
is_refreshed old names failures name did e updates = λ i. record { now = λ q. same q i; later = answer_of old.later }
  where
    same : (q : Query) → cond (contains_text names (did_asked q)) (answer_of old.later q) (answer_of old.present q) ≡ cond (bytes_eq did (did_asked q)) (answer_of old.later q) (cond (contains_text old.refreshed (did_asked q)) (answer_of old.later q) (answer_of old.present q))
    same q =
        ap (λ (b : Bool). cond b (answer_of old.later q) (answer_of old.present q)) (btree_set_updates_text (string_bytes name) old.refreshed names true updates (did_asked q) ∙ ap (λ (n : List ℕ). cond (bytes_eq n (did_asked q)) true (contains_text old.refreshed (did_asked q))) e)
        ∙ nested (bytes_eq did (did_asked q)) (contains_text old.refreshed (did_asked q)) (answer_of old.later q) (answer_of old.present q)
