-- What a field of a map that fits says, where it has its form.
use Rattle.std.proofs.Common.{◌≡◌, ◌-◌, ◌<◌, ℕ, Bool, true, false, cond, leb, List, length, Option, Some, None, refl, ap, ◌∙◌, subst}
use Rattle.std.specs.Prelude.{option_map, IsTrue}
use Rattle.at_cid.specs.Link.{IsLink, IsLinkOrNone, IsNodeLink, IsNodeLinkOrNone}
use Rattle.at_cbor.specs.Item.{Item}
use Rattle.at_cbor.specs.Kinds.{bytes_in, text_in, link_in, null_in, field_of}
use Rattle.at_cbor.specs.Encoding.{Fits, IsString, IsText}
use Rattle.at_cbor.proofs.Inside.{field_fits}
use Rattle.at_syntax.specs.Did.{is_did}
use Rattle.at_cid.specs.declared.limits.TheConstants.{NUMBERS}
use Rattle.at_form.specs.declared.forms.TheConstants.{LONGEST_SHORT_TEXT}
use Rattle.at_form.specs.Forms.{did_in, short_text_in, node_in, number_in, formed, not_null, present_value, optional, required}
use Rattle.at_form.proofs.Held.{some_same, step_from, did_held, short_held, number_held, node_held}
use Rattle.at_event.specs.Formed.{IsShortText, IsShortOrNone}

-- ---- what an item of a kind says

text_held : (i : Item) (depth : ℕ) (text : List ℕ) → text_in i ≡ Some text → Fits i depth → IsText text
text_held (Item.text bs) depth text e fits = subst IsText (some_same bs text e) fits
text_held i depth text e fits = absurd cc

bytes_held : (i : Item) (depth : ℕ) (bytes : List ℕ) → bytes_in i ≡ Some bytes → Fits i depth → IsString bytes
bytes_held (Item.bytes bs) depth bytes e fits = subst IsString (some_same bs bytes e) fits
bytes_held i depth bytes e fits = absurd cc

link_held : (i : Item) (depth : ℕ) (c : List ℕ) → link_in i ≡ Some c → Fits i depth → IsLink c
link_held (Item.link bs) depth c e fits = subst IsLink (some_same bs c e) (record { link = fits.0; bytes = fits.1 })
link_held i depth c e fits = absurd cc

kept_text : (b : Bool) (x y : List ℕ) → cond b (Some x) None ≡ Some y → x ≡ y
kept_text true x y e = some_same x y e
kept_text false x y e = absurd cc

did_is_text : (i : Item) (did : List ℕ) → did_in i ≡ Some did → text_in i ≡ Some did
unfolding did_in
did_is_text i did e =
    let text = step_from (text_in i) (λ (text : List ℕ). cond (is_did text) (Some text) None) did e in
    text.1 ∙ ap (λ (x : List ℕ). Some x) (kept_text (is_did text.0) text.0 did text.2)

short_is_text : (i : Item) (short : List ℕ) → short_text_in i ≡ Some short → text_in i ≡ Some short
unfolding short_text_in
short_is_text i short e =
    let text = step_from (text_in i) (λ (text : List ℕ). cond (leb (length text) LONGEST_SHORT_TEXT) (Some text) None) short e in
    text.1 ∙ ap (λ (x : List ℕ). Some x) (kept_text (leb (length text.0) LONGEST_SHORT_TEXT) text.0 short text.2)

is_short : (i : Item) (depth : ℕ) (text : List ℕ) → short_text_in i ≡ Some text → Fits i depth → IsShortText text
is_short i depth text e fits = record { text = text_held i depth text (short_is_text i text e) fits; short = short_held i text e }

-- ---- a field that must be there

pub did_there : (m : Item) (name did : List ℕ) → required did_in m name ≡ Some did → IsTrue (is_did did)
did_there m name did e = let i = step_from (field_of m name) did_in did e in did_held i.0 did i.2

pub number_there : (m : Item) (name : List ℕ) (n : ℕ) → required number_in m name ≡ Some n → n < NUMBERS
number_there m name n e = let i = step_from (field_of m name) number_in n e in number_held i.0 n i.2

module _ (m : Item) (depth : ℕ) (fits : Fits m depth) where
  pub did_text_there : (name did : List ℕ) → required did_in m name ≡ Some did → IsText did
  did_text_there name did e = let i = step_from (field_of m name) did_in did e in text_held i.0 (depth - 1) did (did_is_text i.0 did i.2) (field_fits m depth name i.0 fits i.1)

  pub text_there : (name text : List ℕ) → required text_in m name ≡ Some text → IsText text
  text_there name text e = let i = step_from (field_of m name) text_in text e in text_held i.0 (depth - 1) text i.2 (field_fits m depth name i.0 fits i.1)

  pub short_there : (name text : List ℕ) → required short_text_in m name ≡ Some text → IsShortText text
  short_there name text e = let i = step_from (field_of m name) short_text_in text e in is_short i.0 (depth - 1) text i.2 (field_fits m depth name i.0 fits i.1)

  pub bytes_there : (name bytes : List ℕ) → required bytes_in m name ≡ Some bytes → IsString bytes
  bytes_there name bytes e = let i = step_from (field_of m name) bytes_in bytes e in bytes_held i.0 (depth - 1) bytes i.2 (field_fits m depth name i.0 fits i.1)

  pub node_there : (name c : List ℕ) → required node_in m name ≡ Some c → IsNodeLink c
  node_there name c e = let i = step_from (field_of m name) node_in c e in node_held i.0 (depth - 1) c i.2 (field_fits m depth name i.0 fits i.1)

-- ---- what stands there in a form, or nothing

formed_or : {A : Type 0} (form : Item → Option A) (P : Option A → Type 0) (found : Option Item) (o : Option A) → formed form found ≡ Some o → P None → ((i : Item) (x : A) → found ≡ Some i → form i ≡ Some x → P (Some x)) → P o
formed_or {A = A} form P None o e none some = subst P (some_same {A = Option A} None o e) none
formed_or {A = A} form P (Some i) o e none some = formed_by (form i) refl e
  where
    formed_by : (f : Option A) → form i ≡ f → option_map Some f ≡ Some o → P o
    formed_by None known same = absurd cc
    formed_by (Some x) known same = subst P (some_same {A = Option A} (Some x) o same) (some i x refl known)

kept_if : (b : Bool) (i j : Item) → cond b None (Some i) ≡ Some j → i ≡ j
kept_if true i j e = absurd cc
kept_if false i j e = some_same i j e

not_null_there : (found : Option Item) (i : Item) → not_null found ≡ Some i → found ≡ Some i
not_null_there (Some j) i e = ap (λ (x : Item). Some x) (kept_if (null_in j) j i e)
not_null_there None i e = absurd cc

given_there : (m : Item) (name : List ℕ) (i : Item) → present_value m name ≡ Some i → field_of m name ≡ Some i
unfolding present_value
given_there m name i e = not_null_there (field_of m name) i e

module _ (m : Item) (depth : ℕ) (fits : Fits m depth) where
  pub link_or_none : (name : List ℕ) (o : Option (List ℕ)) → optional link_in m name ≡ Some o → IsLinkOrNone o
  link_or_none name o e = formed_or link_in IsLinkOrNone (present_value m name) o e tt (λ i c found form. link_held i (depth - 1) c form (field_fits m depth name i fits (given_there m name i found)))

  pub node_or_none : (name : List ℕ) (o : Option (List ℕ)) → optional node_in m name ≡ Some o → IsNodeLinkOrNone o
  node_or_none name o e = formed_or node_in IsNodeLinkOrNone (present_value m name) o e tt (λ i c found form. node_held i (depth - 1) c form (field_fits m depth name i fits (given_there m name i found)))

  pub short_or_none : (name : List ℕ) (o : Option (List ℕ)) → optional short_text_in m name ≡ Some o → IsShortOrNone o
  short_or_none name o e = formed_or short_text_in IsShortOrNone (present_value m name) o e tt (λ i text found form. is_short i (depth - 1) text form (field_fits m depth name i fits (given_there m name i found)))
