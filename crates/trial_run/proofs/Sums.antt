-- The pieces of a summary, put together.
use Rattle.std.proofs.Common.{◌≡◌, ℕ, List, [], ◌∷◌, ◌++◌, codes, ap, ◌∙◌, append_assoc}
use Rattle.at_cid.specs.Link.{cid}
use Rattle.at_cid.specs.Text.{text_of}

pub put_together : (line first second third roots : List ℕ) {link bytes last : List ℕ} → first ≡ line → second ≡ first ++ codes "merge same\nheads " → link ≡ cid bytes → bytes ≡ roots → third ≡ second ++ text_of link → last ≡ third ++ 10 ∷ []
    → last ≡ line ++ (codes "merge same\nheads " ++ (text_of (cid roots) ++ 10 ∷ []))
put_together line first second third roots one two is are three four =
    let word = codes "merge same\nheads " in
    four
    ∙ ap (λ (l : List ℕ). l ++ 10 ∷ []) (three ∙ (λ i. (two ∙ ap (λ (l : List ℕ). l ++ word) one) i ++ text_of ((is ∙ ap cid are) i)))
    ∙ append_assoc (line ++ word) (text_of (cid roots)) (10 ∷ [])
    ∙ append_assoc line word (text_of (cid roots) ++ 10 ∷ [])
