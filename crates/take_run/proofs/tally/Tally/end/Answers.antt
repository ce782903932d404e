use Rattle.std.proofs.Common.{◌≡◌, List, ℕ, ◌∷◌, [], ◌++◌, ◌∙◌, sym, ap, subst}
use Rattle.std.specs.Prelude.{string_bytes}
use Rattle.take_run.specs.Names.{AreNamesOf}
use Rattle.take_run.proofs.Names.{names_more}
use Rattle.take_run.proofs.tally.Tally.end.Goals as goal

pub invariant_of-self-2-clause-looked_up : goal.invariant_of-self-2-clause-looked_up
invariant_of-self-2-clause-looked_up c =
    let name = string_bytes c.in_ok-name.name in
    let same : c.in_ok-ended.ended ≡ name = c.in_ok-ended.ensures ∙ sym c.in_ok-name.ensures.ok in
    let items = c.push_reserved.ensures.items ∙ ap (λ (l : List (List ℕ)). l ++ c.in_ok-ended.ended ∷ []) c.reserve.ensures.items ∙ ap (λ (n : List ℕ). c.args.self.now.ended.items ++ n ∷ []) same in
    subst (AreNamesOf c.insert.new.self) (sym items) (names_more name c.args.self.now.ended.items c.args.self.now.names c.insert.new.self c.in_ok-insert.ensures.updates c.args.self.now.looked_up)
