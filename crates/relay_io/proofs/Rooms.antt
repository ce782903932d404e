-- Rooms for replies.
use Rattle.std.proofs.Common.{◌≡◌, ℕ, zero, suc, ◌+◌, List, [], ◌∷◌, ◌++◌, map, refl, ap, ◌∙◌, nat_le, append_assoc, add-one, sym}
use Rattle.std.specs.Prelude.{Bool}
use Rattle.std.specs.List.{repeat}
use Rattle.std.proofs.lemmas.List.{map-append}
use Rattle.relay_io.specs.MemoryExchanges.{has_room}

-- what is asked of the last room
pub last_room : (bytes room : ℕ) (rooms : List ℕ) → has_room bytes (rooms ++ room ∷ []) ≡ nat_le bytes room
last_room bytes room [] = refl
last_room bytes room (one ∷ []) = refl
last_room bytes room (one ∷ other ∷ rooms) = last_room bytes room (other ∷ rooms)

-- whether the last of these holds so many
pub room_found : {A : Type 0} (f : A → ℕ) (bytes : ℕ) (old new : List A) (room : A) (b : Bool) → old ≡ new ++ room ∷ [] → nat_le bytes (f room) ≡ b → has_room bytes (map f old) ≡ b
room_found {A} f bytes old new room b is test =
    ap (λ (l : List A). has_room bytes (map f l)) is ∙ ap (has_room bytes) (map-append f new (room ∷ [])) ∙ last_room bytes (f room) (map f new) ∙ test

-- one more of them
repeat_suc : (n b : ℕ) → repeat (suc n) (b ∷ []) ≡ repeat n (b ∷ []) ++ b ∷ []
repeat_suc zero b = refl
repeat_suc (suc n) b = ap (λ (l : List ℕ). b ∷ l) (repeat_suc n b)

repeat_more : (n b : ℕ) → repeat (n + 1) (b ∷ []) ≡ repeat n (b ∷ []) ++ b ∷ []
repeat_more n b = ap (λ (k : ℕ). repeat k (b ∷ [])) (add-one n) ∙ repeat_suc n b

pub rooms_more : (old now new : List ℕ) (n b : ℕ) → now ≡ old ++ repeat n (b ∷ []) → new ≡ now ++ b ∷ [] → new ≡ old ++ repeat (n + 1) (b ∷ [])
rooms_more old now new n b is adds =
    adds ∙ ap (λ (l : List ℕ). l ++ b ∷ []) is ∙ append_assoc old (repeat n (b ∷ [])) (b ∷ []) ∙ ap (λ (l : List ℕ). old ++ l) (sym (repeat_more n b))
