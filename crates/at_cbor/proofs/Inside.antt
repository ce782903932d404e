-- What is inside a list or a map is nested less deep than it, and fits where it fits.
use Rattle.std.proofs.Common.{◌≡◌, ℕ, zero, suc, ◌-◌, ◌≤◌, ◌<◌, Bool, true, false, cond, ◌⊎◌, inl, inr, Option, Some, None, List, refl, subst, arith}
use Rattle.std.specs.Prelude.{slice_get}
use Rattle.std.specs.Str.{bytes_eq}
use Rattle.at_cbor.specs.Item.{Item, Items, no_items, item, Fields, no_fields, field, items_list, fields_list}
use Rattle.at_cbor.specs.Kinds.{value_of, field_of}
use Rattle.at_cbor.specs.Encoding.{nesting, items_nesting, fields_nesting, Fits, ItemsFit, FieldsFit}

some_same : {A : Type 0} (x y : A) → Some x ≡ Some y → x ≡ y
some_same x y e = cc

-- ---- what fits at some depth fits at each at which it is nested

mutual
  pub fits_at : (i : Item) (depth other : ℕ) → Fits i depth → nesting i ≤ other → Fits i other
  fits_at (Item.int z) depth other fits h = fits
  fits_at (Item.bytes bs) depth other fits h = fits
  fits_at (Item.text bs) depth other fits h = fits
  fits_at (Item.list is) depth other fits h = (omega (arith, h), fits.1, items_fit_at is (depth - 1) (other - 1) fits.2 (omega (arith, h)))
  fits_at (Item.map fs) depth other fits h = (omega (arith, h), fits.1, fields_fit_at fs None (depth - 1) (other - 1) fits.2 (omega (arith, h)))
  fits_at (Item.link bs) depth other fits h = fits
  fits_at (Item.bool b) depth other fits h = tt
  fits_at Item.null depth other fits h = tt

  pub items_fit_at : (is : Items) (depth other : ℕ) → ItemsFit is depth → items_nesting is ≤ other → ItemsFit is other
  items_fit_at no_items depth other fits h = tt
  items_fit_at (item i is) depth other fits h = (fits_at i depth other fits.0 (omega (arith, h)), items_fit_at is depth other fits.1 (omega (arith, h)))

  pub fields_fit_at : (fs : Fields) (before : Option (List ℕ)) (depth other : ℕ) → FieldsFit fs before depth → fields_nesting fs ≤ other → FieldsFit fs before other
  fields_fit_at no_fields before depth other fits h = tt
  fields_fit_at (field k i fs) before depth other fits h = (fits.0, fits.1, fits_at i depth other fits.2 (omega (arith, h)), fields_fit_at fs (Some k) depth other fits.3 (omega (arith, h)))

-- ---- an item of a list, by its place

pub item_nested : (is : Items) (k : ℕ) (i : Item) → slice_get (items_list is) k ≡ Some i → nesting i ≤ items_nesting is
item_nested no_items k i e = absurd cc
item_nested (item j is) zero i e = subst (λ (x : Item). nesting x ≤ items_nesting (item j is)) (some_same j i e) (omega arith)
item_nested (item j is) (suc k) i e = omega (arith, item_nested is k i e)

pub item_fits : (is : Items) (depth k : ℕ) (i : Item) → ItemsFit is depth → slice_get (items_list is) k ≡ Some i → Fits i depth
item_fits no_items depth k i fits e = absurd cc
item_fits (item j is) depth zero i fits e = subst (λ (x : Item). Fits x depth) (some_same j i e) fits.0
item_fits (item j is) depth (suc k) i fits e = item_fits is depth k i fits.1 e

-- ---- a field of a map, by its place

pub pair_nested : (fs : Fields) (k : ℕ) (f : List ℕ × Item) → slice_get (fields_list fs) k ≡ Some f → nesting f.1 ≤ fields_nesting fs
pair_nested no_fields k f e = absurd cc
pair_nested (field l j fs) zero f e = subst (λ (g : List ℕ × Item). nesting g.1 ≤ fields_nesting (field l j fs)) (some_same (l, j) f e) (omega arith)
pair_nested (field l j fs) (suc k) f e = omega (arith, pair_nested fs k f e)

pub pair_fits : (fs : Fields) (before : Option (List ℕ)) (depth k : ℕ) (f : List ℕ × Item) → FieldsFit fs before depth → slice_get (fields_list fs) k ≡ Some f → Fits f.1 depth
pair_fits no_fields before depth k f fits e = absurd cc
pair_fits (field l j fs) before depth zero f fits e = subst (λ (g : List ℕ × Item). Fits g.1 depth) (some_same (l, j) f e) fits.2
pair_fits (field l j fs) before depth (suc k) f fits e = pair_fits fs (Some l) depth k f fits.3 e

-- ---- the value of a key

first_or : (b : Bool) (i j : Item) (others : Option Item) → cond b (Some i) others ≡ Some j → (b ≡ true) × (i ≡ j) ⊎ (others ≡ Some j)
first_or true i j others e = inl (refl, some_same i j e)
first_or false i j others e = inr e

pub value_nested : (fs : Fields) (name : List ℕ) (i : Item) → value_of fs name ≡ Some i → nesting i ≤ fields_nesting fs
value_nested no_fields name i e = absurd cc
value_nested (field k j fs) name i e =
    elim (first_or (bytes_eq k name) j i (value_of fs name) e) [
      | inl p ↦ subst (λ (x : Item). nesting x ≤ fields_nesting (field k j fs)) p.1 (omega arith)
      | inr p ↦ omega (arith, value_nested fs name i p)
    ]

pub value_fits : (fs : Fields) (before : Option (List ℕ)) (depth : ℕ) (name : List ℕ) (i : Item) → FieldsFit fs before depth → value_of fs name ≡ Some i → Fits i depth
value_fits no_fields before depth name i fits e = absurd cc
value_fits (field k j fs) before depth name i fits e =
    elim (first_or (bytes_eq k name) j i (value_of fs name) e) [
      | inl p ↦ subst (λ (x : Item). Fits x depth) p.1 fits.2
      | inr p ↦ value_fits fs (Some k) depth name i fits.3 p
    ]

pub field_nested : (m : Item) (name : List ℕ) (i : Item) → field_of m name ≡ Some i → nesting i < nesting m
field_nested (Item.map fs) name i e = omega (arith, value_nested fs name i e)
field_nested m name i e = absurd cc

pub field_fits : (m : Item) (depth : ℕ) (name : List ℕ) (i : Item) → Fits m depth → field_of m name ≡ Some i → Fits i (depth - 1)
field_fits (Item.map fs) depth name i fits e = value_fits fs None (depth - 1) name i fits.2 e
field_fits m depth name i fits e = absurd cc
