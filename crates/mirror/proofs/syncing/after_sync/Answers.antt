use Rattle.std.proofs.Common.{◌∙◌, ℕ, Bool, true, List, Option, sym, subst}
use Rattle.mst_list.specs.declared.item.Item.{Item}
use Rattle.relay_io.specs.Repositories.{IsOpened}
use Rattle.mirror.proofs.Maps.{none_answers}
use Rattle.mirror.specs.Syncing.{IsMapOf}
use Rattle.mirror.proofs.syncing.after_sync.Goals as goal

pub returns-in-None-clause-after : goal.returns-in-None-clause-after
returns-in-None-clause-after g c = λ tells t answers.
    let repositories = g.R.Repos.repository c.args.repos.now in
    let left = g.R.Repos.left c.open.new.self in
    let P : Bool → Type 0 = λ b. IsOpened (repositories c.as_str.result.now) b left in
    let Q : List ℕ → Type 0 = λ d. IsOpened (repositories d) true left in
    let R : Option (List Item) → Type 0 = λ o. IsMapOf left c.in-Some.link o in
    none_answers repositories c.args.sync.now c.in-Some.link left (sym c.in_ok-link.ensures ∙ c.in-Some.is)
    (subst Q c.as_str.ensures.value (subst P c.in-Ok-true.field-0-test (c.in-Ok-true.ensures.opened tells)))
    (subst R c.in-None.is (c.in_ok-map.ensures.map tells)) t answers
