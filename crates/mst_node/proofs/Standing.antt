-- Entries whose keys ascend lie between two bounds where the first and the last do.
use Rattle.std.proofs.Common.{◌≡◌, ℕ, eqb, Bool, true, false, ◌&&◌, List, [], ◌∷◌, refl, sym, ◌∙◌, Less, Option, Some, None}
use Rattle.std.proofs.Math.Bool.{and-false, and-true, or-false, or-true}
use Rattle.std.specs.Prelude.{is_some, not, ◌||◌}
use Rattle.std.specs.List.{list_all}
use Rattle.at_cid.specs.Order.{key_cmp}
use Rattle.at_cid.proofs.Order.{cmp_trans}
use Rattle.mst_list.specs.Height.{height}
use Rattle.mst_node.specs.declared.entry.Entry.{Entry}
use Rattle.mst_node.specs.Nodes.{EntriesAscend}
use Rattle.mst_node.specs.Reading.{is_over, key_before}
use Rattle.mst_node.specs.Fits.{is_under, may_hang, stands, are_between, entries_fit}
use Rattle.mst_node.proofs.Told.{true_over}
use Rattle.mst_node.proofs.Passes.{under_true, true_under}

-- the tests of an entry and of those behind it, in either order
tests_joined : (over last under at hang all fit : Bool) → last && all ≡ under && fit → (over && last) && ((at && hang) && all) ≡ (at && (over && (under && hang))) && fit
tests_joined false last under at hang all fit e = rw (and-false at) refl
tests_joined true last under false hang all fit e = and-false last
tests_joined true last under true false all fit e = rw (and-false last, and-false under) refl
tests_joined true last under true true all fit e = rw (and-true under) e

-- the test of a lower key says nothing more
lower_joined : (lower under at hang fit : Bool) → (under ≡ true → lower ≡ true) → (at && (under && hang)) && fit ≡ lower && ((at && (under && hang)) && fit)
lower_joined lower under false hang fit f = sym (and-false lower)
lower_joined lower false true hang fit f = sym (and-false lower)
lower_joined lower true true hang fit f = rw (f refl) refl

under_lower : (j k : List ℕ) (high : Option (List ℕ)) → key_cmp j k ≡ Less → is_under k high ≡ true → is_under j high ≡ true
under_lower j k None e u = refl
under_lower j k (Some i) e u = true_under j (Some i) (cmp_trans j k i e (under_true k (Some i) u))

-- behind a key that is to be below the bound, no key needs it said but the last
fit_behind : (h : ℕ) (k : List ℕ) (high : Option (List ℕ)) (es : List Entry) → EntriesAscend (Some k) es
    → is_under (key_before k es) high && list_all (stands h) es ≡ is_under k high && entries_fit h (Some k) high es
fit_behind h k high [] a = refl
fit_behind h k high (e ∷ es) a =
    let at = eqb (height e.key) h in let under = is_under e.key high in let hang = may_hang h e.right in let fit = entries_fit h (Some e.key) high es in
    rw (true_over (Some k) e.key a.0)
    (tests_joined true (is_under (key_before e.key es) high) under at hang (list_all (stands h) es) fit (fit_behind h e.key high es a.1)
    ∙ lower_joined (is_under k high) under at hang fit (under_lower k e.key high a.0))

pub standing_fit : (h : ℕ) (low high : Option (List ℕ)) (es : List Entry) → EntriesAscend None es → are_between low high es && list_all (stands h) es ≡ entries_fit h low high es
standing_fit h low high [] a = refl
standing_fit h low high (e ∷ es) a =
    tests_joined (is_over low e.key) (is_under (key_before e.key es) high) (is_under e.key high) (eqb (height e.key) h) (may_hang h e.right) (list_all (stands h) es) (entries_fit h (Some e.key) high es)
    (fit_behind h e.key high es a.1)

-- at the top no key lies outside
pub top_standing_fit : (h : ℕ) (es : List Entry) → EntriesAscend None es → list_all (stands h) es ≡ entries_fit h None None es
top_standing_fit h [] a = refl
top_standing_fit h (e ∷ es) a = standing_fit h None None (e ∷ es) a

-- what is tested of the link to the right
pub hangs_so : (h : ℕ) (o : Option (List ℕ)) → may_hang h o ≡ (not (eqb h 0) || not (is_some o))
hangs_so h None = sym (or-true (not (eqb h 0)))
hangs_so h (Some c) = sym (or-false (not (eqb h 0)))
