-- What a field that has its form says.
use Rattle.std.proofs.Common.{◌≡◌, ◌<◌, ◌≤◌, ℕ, ℤ, List, length, true, false, cond, leb, ltb, Option, Some, None, refl, subst}
use Rattle.std.specs.Prelude.{pos, negsuc, IsTrue}
use Rattle.std.proofs.lemmas.Bool.{ltb-true, leb-true}
use Rattle.at_cid.specs.Link.{IsNodeLink, kind_of}
use Rattle.at_cid.specs.declared.cid.Kind.{Kind}
use Rattle.at_cid.specs.declared.cid.Kind.TheVariants.{Node, Raw}
use Rattle.at_cbor.specs.Item.{Item}
use Rattle.at_cbor.specs.Kinds.{int_in, text_in}
use Rattle.at_cbor.specs.Encoding.{Fits}
use Rattle.at_cbor.specs.Taking.{◌>>=◌}
use Rattle.at_syntax.specs.Did.{is_did}
use Rattle.at_cid.specs.declared.limits.TheConstants.{NUMBERS}
use Rattle.at_form.specs.declared.forms.TheConstants.{LONGEST_SHORT_TEXT}
use Rattle.at_form.specs.Forms.{did_in, short_text_in, of_node, node_in, number_from, number_in}

pub some_same : {A : Type 0} (x y : A) → Some x ≡ Some y → x ≡ y
some_same x y e = cc

-- what a step was taken from
pub step_from : {A B : Type 0} (x : Option A) (f : A → Option B) (b : B) → (x >>= f) ≡ Some b → (a : A) × (x ≡ Some a) × (f a ≡ Some b)
step_from (Some a) f b e = (a, refl, e)
step_from None f b e = absurd cc

did_if : (text did : List ℕ) → cond (is_did text) (Some text) None ≡ Some did → IsTrue (is_did did)
did_if text did e =
    elim (is_did text) as (λ t. is_did text ≡ t → cond t (Some text) None ≡ Some did → IsTrue (is_did did)) [
      | true ↦ λ known same. subst (λ (d : List ℕ). IsTrue (is_did d)) (some_same text did same) known
      | false ↦ λ known same. absurd cc
    ] refl e

pub did_held : (i : Item) (did : List ℕ) → did_in i ≡ Some did → IsTrue (is_did did)
unfolding did_in
did_held i did e = let text = step_from (text_in i) (λ (text : List ℕ). cond (is_did text) (Some text) None) did e in did_if text.0 did text.2

short_if : (text short : List ℕ) → cond (leb (length text) LONGEST_SHORT_TEXT) (Some text) None ≡ Some short → length short ≤ LONGEST_SHORT_TEXT
short_if text short e =
    elim (leb (length text) LONGEST_SHORT_TEXT) as (λ t. leb (length text) LONGEST_SHORT_TEXT ≡ t → cond t (Some text) None ≡ Some short → length short ≤ LONGEST_SHORT_TEXT) [
      | true ↦ λ known same. subst (λ (s : List ℕ). length s ≤ LONGEST_SHORT_TEXT) (some_same text short same) (leb-true (length text) LONGEST_SHORT_TEXT known)
      | false ↦ λ known same. absurd cc
    ] refl e

pub short_held : (i : Item) (text : List ℕ) → short_text_in i ≡ Some text → length text ≤ LONGEST_SHORT_TEXT
unfolding short_text_in
short_held i text e = let given = step_from (text_in i) (λ (text : List ℕ). cond (leb (length text) LONGEST_SHORT_TEXT) (Some text) None) text e in short_if given.0 text given.2

number_if : (z : ℤ) (n : ℕ) → number_from z ≡ Some n → n < NUMBERS
number_if (pos m) n e =
    elim (ltb m NUMBERS) as (λ t. ltb m NUMBERS ≡ t → cond t (Some m) None ≡ Some n → n < NUMBERS) [
      | true ↦ λ known same. subst (λ (k : ℕ). k < NUMBERS) (some_same m n same) (ltb-true m NUMBERS known)
      | false ↦ λ known same. absurd cc
    ] refl e
number_if (negsuc m) n e = absurd cc

pub number_held : (i : Item) (n : ℕ) → number_in i ≡ Some n → n < NUMBERS
unfolding number_in
number_held i n e = let given = step_from (int_in i) number_from n e in number_if given.0 n given.2

of_node_held : (kind : Kind) (link c : List ℕ) → of_node kind link ≡ Some c → (kind ≡ Node) × (link ≡ c)
of_node_held Node link c e = (refl, some_same link c e)
of_node_held Raw link c e = absurd cc

pub node_held : (i : Item) (depth : ℕ) (c : List ℕ) → node_in i ≡ Some c → Fits i depth → IsNodeLink c
unfolding node_in
node_held (Item.link bs) depth c e fits =
    let both = of_node_held (kind_of bs) bs c e in
    subst IsNodeLink both.1 (record { link = fits.0; bytes = fits.1; node = both.0 })
node_held (Item.int z) depth c e fits = absurd cc
node_held (Item.bytes bs) depth c e fits = absurd cc
node_held (Item.text bs) depth c e fits = absurd cc
node_held (Item.list is) depth c e fits = absurd cc
node_held (Item.map fs) depth c e fits = absurd cc
node_held (Item.bool b) depth c e fits = absurd cc
node_held Item.null depth c e fits = absurd cc
