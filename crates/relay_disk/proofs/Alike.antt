-- What stays alike in front of two lists, when one of them changes behind a place.
use Rattle.std.proofs.Common.{◌≡◌, ℕ, ◌≤◌, List, take, sym, ◌∙◌, ap}
use Rattle.std.proofs.lemmas.List.{take-take}

pub still_alike : (alike place now : ℕ) (settled before after : List ℕ) → now ≤ alike → now ≤ place → take alike settled ≡ take alike before → take place after ≡ take place before → take now settled ≡ take now after
still_alike alike place now settled before after low high same front =
    sym (take-take now alike settled low) ∙ ap (λ (l : List ℕ). take now l) same ∙ take-take now alike before low
    ∙ sym (take-take now place before high) ∙ ap (λ (l : List ℕ). take now l) (sym front) ∙ take-take now place after high
