-- Lines that are put together piece by piece.
use Rattle.std.proofs.Common.{◌≡◌, ℕ, List, ◌++◌, ap, ◌∙◌, append_assoc}

-- one piece behind another
pub joined : (old mid new one other : List ℕ) → mid ≡ old ++ one → new ≡ mid ++ other → new ≡ old ++ (one ++ other)
joined old mid new one other h k = k ∙ ap (λ m. m ++ other) h ∙ append_assoc old one other
