use Rattle.std.proofs.Common.{◌≡◌, ◌≢◌, ◌∙◌, ℕ, List, ◌++◌, Bor, Option, None, Some, ap}
use Rattle.std.specs.Prelude.{IfSome, MatchOption}
use Rattle.std.proofs.lemmas.Bool.Decides.{Decides-eqb}
use Rattle.std.proofs.lemmas.Slice.Eq.{strip_prefix_is}
use Rattle.at_event.proofs.header.behind_header.Goals as goal

-- what stands behind a front that is another list
behind : (found : Option (Bor (List ℕ))) (bytes front same : List ℕ) → front ≡ same
    → MatchOption found ((rest : List ℕ) → bytes ≢ front ++ rest) (λ rest. bytes ≡ front ++ rest.now) → IfSome found (λ rest. bytes ≡ same ++ rest.now)
behind None bytes front same is told = tt
behind (Some rest) bytes front same is told = told ∙ ap (λ (l : List ℕ). l ++ rest.now) is

pub returns : goal.returns
returns c = behind c.strip_prefix.result c.args.message.now c.header.result.now _ c.header.ensures
    (strip_prefix_is Decides-eqb c.args.message.now c.header.result.now c.strip_prefix.result c.strip_prefix.ensures.cases)
