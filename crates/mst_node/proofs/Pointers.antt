-- The value of an entry: all that stands in front of its link is taken at once.
use Rattle.std.proofs.Common.{◌≡◌, ℕ, List, [], ◌∷◌, Option, Some, None, refl, ap, ◌∙◌}
use Rattle.at_cbor.specs.Taking.{◌>>=◌, behind, link_from_front}
use Rattle.mst_node.specs.Taking.{link_behind, value_at}
use Rattle.at_cbor.proofs.Taken.{behind_both}

-- one step and then two is two steps and then one
steps_join : {A B C : Type 0} (o : Option A) (f : A → Option B) (g : B → Option C) → ((o >>= f) >>= g) ≡ (o >>= λ x. f x >>= g)
steps_join (Some x) f g = refl
steps_join None f g = refl

abbrev letter : List ℕ
letter = 0x61 ∷ 0x76 ∷ []

abbrev link_front : List ℕ
link_front = 0xd8 ∷ 0x2a ∷ 0x58 ∷ 0x25 ∷ 0x00 ∷ []

abbrev value_front : List ℕ
value_front = 0x61 ∷ 0x76 ∷ 0xd8 ∷ 0x2a ∷ 0x58 ∷ 0x25 ∷ 0x00 ∷ []

-- what is taken behind the letter and the front of a link together
pub value_is : (bytes : List ℕ) → (behind value_front bytes >>= link_behind) ≡ value_at bytes
unfolding link_from_front
value_is bytes =
    ap (λ (o : Option (List ℕ)). o >>= link_behind) (behind_both letter link_front bytes)
    ∙ steps_join (behind letter bytes) (behind link_front) link_behind
