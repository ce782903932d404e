-- No frame begins another, so that frames which are written each after its length are told apart.
use Rattle.std.proofs.Common.{◌≡◌, ℕ, ◌⊎◌, inl, inr, List, [], ◌∷◌, ◌++◌, length, Option, Some, None, Ok, refl, ap, sym, ◌∙◌, subst, append_assoc}
use Rattle.std.proofs.lemmas.List.{append-nil, append_cancel_left, take_at}
use Rattle.at_cid.specs.Link.{IsBytes}
use Rattle.at_cbor.specs.Item.{Item}
use Rattle.at_cbor.specs.Encoding.{encoding, Fits}
use Rattle.at_cbor.specs.Taking.{◌>>=◌, all_of, whole_item}
use Rattle.at_cbor.proofs.Steps.{IsBytes-take}
use Rattle.at_cbor.proofs.Taken.{item_taken_again}
use Rattle.at_event.specs.Frames.{framed, frame_of, items_in}
use Rattle.at_event.specs.declared.frame.Frame.{Frame}
use Rattle.at_event.proofs.Messages.{items_taken}

-- ---- nothing stands behind a frame

some_items : (found : Option (Item × Item)) (f : Frame) → framed found ≡ Ok f → (x : Item × Item) × (found ≡ Some x)
some_items None f is = absurd cc
some_items (Some x) f is = (x, refl)

has_items : (m : List ℕ) (f : Frame) → frame_of m ≡ Ok f → (x : Item × Item) × (items_in m ≡ Some x)
unfolding frame_of
has_items m f is = some_items (items_in m) f is

items_more : (h p : Item) (more : List ℕ) → Fits h 64 → Fits p 64 → items_in (encoding h ++ (encoding p ++ more)) ≡ (all_of (p, more) >>= λ payload. Some (h, payload))
unfolding items_in whole_item
items_more h p more fh fp = rw (item_taken_again h (encoding p ++ more) fh, item_taken_again p more fp) refl

none_behind : (h p : Item) (more : List ℕ) (x : Item × Item) → (all_of (p, more) >>= λ payload. Some (h, payload)) ≡ Some x → more ≡ []
none_behind h p [] x is = refl
none_behind h p (b ∷ more) x is = absurd cc

frame_ends : (m more : List ℕ) (a b : Frame) → IsBytes m → frame_of m ≡ Ok a → frame_of (m ++ more) ≡ Ok b → more ≡ []
frame_ends m more a b bytes one other =
    let x = has_items m a one in
    let y = has_items (m ++ more) b other in
    let is = items_taken m x.0 bytes x.1 in
    let parts : m ++ more ≡ encoding x.0.0 ++ (encoding x.0.1 ++ more) =
    ap (λ (l : List ℕ). l ++ more) is.encoded ∙ append_assoc (encoding x.0.0) (encoding x.0.1) more in
    none_behind x.0.0 x.0.1 more y.0 (sym (items_more x.0.0 x.0.1 more is.header_form is.payload_form) ∙ ap items_in (sym parts) ∙ y.1)

-- ---- one of two fronts of the same bytes begins the other

abbrev Begins : List ℕ → List ℕ → Type 0
Begins x y = (z : List ℕ) × (y ≡ x ++ z)

fronts : (x y r q : List ℕ) → x ++ r ≡ y ++ q → Begins y x ⊎ Begins x y
fronts [] y r q is = inr (y, refl)
fronts (a ∷ x) [] r q is = inl (a ∷ x, refl)
fronts (a ∷ x) (b ∷ y) r q is = longer (fronts x y r q rest)
  where
    same : a ≡ b
    same = cc

    rest : x ++ r ≡ y ++ q
    rest = cc

    longer : Begins y x ⊎ Begins x y → Begins (b ∷ y) (a ∷ x) ⊎ Begins (a ∷ x) (b ∷ y)
    longer (inl (z, e)) = inl (z, ap (λ (l : List ℕ). a ∷ l) e ∙ ap (λ (n : ℕ). n ∷ (y ++ z)) same)
    longer (inr (z, e)) = inr (z, ap (λ (l : List ℕ). b ∷ l) e ∙ ap (λ (n : ℕ). n ∷ (x ++ z)) (sym same))

bytes_front : (x z : List ℕ) → IsBytes (x ++ z) → IsBytes x
bytes_front x z bytes = subst IsBytes (take_at x z (length x) refl) (IsBytes-take (length x) (x ++ z) bytes)

frame_same : (x y r q : List ℕ) (a b : Frame) → IsBytes y → frame_of x ≡ Ok a → frame_of y ≡ Ok b → x ++ r ≡ y ++ q → x ≡ y
frame_same x y r q a b bytes one other is = by_front (fronts x y r q is)
  where
    by_front : Begins y x ⊎ Begins x y → x ≡ y
    by_front (inl (z, e)) = e ∙ ap (λ (l : List ℕ). y ++ l) (frame_ends y z b a bytes other (sym (ap frame_of e) ∙ one)) ∙ append-nil y
    by_front (inr (z, e)) = sym (e ∙ ap (λ (l : List ℕ). x ++ l) (frame_ends x z a b (bytes_front x z (subst IsBytes e bytes)) one (sym (ap frame_of e) ∙ other)) ∙ append-nil x)

pub next_frame : (x y r q : List ℕ) (a b : Frame) → IsBytes y → frame_of x ≡ Ok a → frame_of y ≡ Ok b → x ++ r ≡ y ++ q → (x ≡ y) × (r ≡ q)
next_frame x y r q a b bytes one other is =
    let same = frame_same x y r q a b bytes one other is in
    (same, append_cancel_left x r q (is ∙ ap (λ (l : List ℕ). l ++ q) (sym same)))
