-- The blocks taken out of a payload, and put back.
use Rattle.std.proofs.Common.{◌≡◌, ℕ, Bool, true, false, cond, inl, List, Option, Some, None, codes, refl, sym, ap, ◌∙◌}
use Rattle.std.specs.Str.{bytes_eq}
use Rattle.std.proofs.lemmas.Slice.Eq.{bytes_eq-Decides}
use Rattle.at_cbor.specs.Item.{Item, Fields, no_fields, field}
use Rattle.at_cbor.specs.Kinds.{value_of, value_put, field_of}
use Rattle.at_cbor.specs.Encoding.{Fits, FieldsFit}
use Rattle.at_event.specs.Writing.{with_field_value, with_blocks}
use Rattle.at_event.proofs.OutLengths.{none_behind}
use Rattle.at_event.proofs.Renumbered.{value_kept, with_value_again}

-- where no blocks are put back, the payload is as it was
pub no_blocks : (i : Item) → i ≡ with_blocks None i
no_blocks (Item.map fs) = refl
no_blocks (Item.int z) = refl
no_blocks (Item.bytes bs) = refl
no_blocks (Item.text bs) = refl
no_blocks (Item.list is) = refl
no_blocks (Item.link bs) = refl
no_blocks (Item.bool b) = refl
no_blocks Item.null = refl

-- the other fields of a payload stay
pub other_fields_kept : (blocks : Option (List ℕ)) (payload : Item) (m : List ℕ) → bytes_eq (codes "blocks") m ≡ false → field_of (with_blocks blocks payload) m ≡ field_of payload m
other_fields_kept None payload m differ = ap (λ (i : Item). field_of i m) (sym (no_blocks payload))
other_fields_kept (Some blocks) (Item.map fs) m differ = value_kept (codes "blocks") m (Item.bytes blocks) fs differ
other_fields_kept (Some blocks) (Item.int z) m differ = refl
other_fields_kept (Some blocks) (Item.bytes bs) m differ = refl
other_fields_kept (Some blocks) (Item.text bs) m differ = refl
other_fields_kept (Some blocks) (Item.list is) m differ = refl
other_fields_kept (Some blocks) (Item.link bs) m differ = refl
other_fields_kept (Some blocks) (Item.bool b) m differ = refl
other_fields_kept (Some blocks) Item.null m differ = refl

pub ops_kept : (blocks : Option (List ℕ)) (payload : Item) → field_of (with_blocks blocks payload) (codes "ops") ≡ field_of payload (codes "ops")
ops_kept blocks payload = other_fields_kept blocks payload (codes "ops") refl

-- ---- a key comes once, so that to replace its first value is to replace it wherever it is

put_or : (b : Bool) (k : List ℕ) (i j : Item) (fs put all : Fields) → (b ≡ true → all ≡ fs) → put ≡ all → cond b (field k i fs) (field k j put) ≡ field k (cond b i j) all
put_or true k i j fs put all none others = ap (field k i) (sym (none refl))
put_or false k i j fs put all none others = ap (field k j) others

put_is_with : (name : List ℕ) (i : Item) (fs : Fields) (before : Option (List ℕ)) (depth : ℕ) → FieldsFit fs before depth → value_put name i fs ≡ with_field_value name i fs
put_is_with name i no_fields before depth fits = refl
put_is_with name i (field k j fs) before depth fits =
    put_or (bytes_eq k name) k i j fs (value_put name i fs) (with_field_value name i fs) (λ same. none_behind name i k fs depth fits.3 (inl ((bytes_eq-Decides k name).0 same))) (put_is_with name i fs (Some k) depth fits.3)

some_same : (i j : Item) → Some i ≡ Some j → i ≡ j
some_same i j e = cc

own_or : (b : Bool) (k : List ℕ) (i j : Item) (fs put : Fields) (others : Option Item) → cond b (Some j) others ≡ Some i → (others ≡ Some i → put ≡ fs) → cond b (field k i fs) (field k j put) ≡ field k j fs
own_or true k i j fs put others e more = ap (λ (x : Item). field k x fs) (sym (some_same j i e))
own_or false k i j fs put others e more = ap (field k j) (more e)

-- its own value put in its place
own_put : (name : List ℕ) (i : Item) (fs : Fields) → value_of fs name ≡ Some i → value_put name i fs ≡ fs
own_put name i no_fields e = refl
own_put name i (field k j fs) e = own_or (bytes_eq k name) k i j fs (value_put name i fs) (value_of fs name) e (own_put name i fs)

-- what was taken out is put back
taken_back : (name : List ℕ) (i j : Item) (fs : Fields) (before : Option (List ℕ)) (depth : ℕ) → FieldsFit fs before depth → value_of fs name ≡ Some i → fs ≡ with_field_value name i (value_put name j fs)
taken_back name i j fs before depth fits there =
    sym (own_put name i fs there)
    ∙ put_is_with name i fs before depth fits
    ∙ sym (with_value_again name i j fs)
    ∙ ap (with_field_value name i) (sym (put_is_with name j fs before depth fits))

-- the blocks that were taken out of a payload are put back
pub blocks_back : (fs left : Fields) (blocks : List ℕ) (j : Item) → Fits (Item.map fs) 64 → value_of fs (codes "blocks") ≡ Some (Item.bytes blocks) → left ≡ value_put (codes "blocks") j fs
    → Item.map fs ≡ with_blocks (Some blocks) (Item.map left)
blocks_back fs left blocks j fits there put =
    ap Item.map (taken_back (codes "blocks") (Item.bytes blocks) j fs None 63 fits.2 there ∙ ap (with_field_value (codes "blocks") (Item.bytes blocks)) (sym put))
