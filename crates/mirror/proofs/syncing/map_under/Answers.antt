use Rattle.std.proofs.Common.{◌≡◌, ◌∙◌, ℕ, List, Ok, sym, subst}
use Rattle.std.proofs.lemmas.Slice.Eq.{bytes_eq-Decides}
use Rattle.at_commit.specs.Commit.{commit_of}
use Rattle.mirror.proofs.Maps.{under_ok}
use Rattle.mirror.proofs.syncing.map_under.Goals as goal

pub returns : goal.returns
returns c = λ blocks of.
    let P : List ℕ → Type 0 = λ b. commit_of b ≡ Ok c.in-Ok.commit in
    under_ok c.args.kept.now blocks c.in-Some.root c.args.link.now c.in-Some-first.block c.in-Ok.commit of c.ghost_linked.ensures (sym c.first_root.ensures ∙ c.in-Some.is)
    ((bytes_eq-Decides c.in-Some.root c.args.link.now).0 (sym c.if-eq.ensures)) c.in-Some-first.is (subst P c.as_slice.ensures.value c.in-Ok.ensures.commit)
    c.in-Ok.ensures.data c.tree_at.result c.tree_at.ensures
