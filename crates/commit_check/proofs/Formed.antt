-- The edits of an event to whose fields no refusal applies.
use Rattle.std.proofs.Common.{◌≡◌, Bool, true, false, ◌||◌, List, [], ◌∷◌, map, None, refl, subst}
use Rattle.std.specs.List.{list_all, list_any}
use Rattle.std.proofs.lemmas.Bool.{and_parts, not-false}
use Rattle.at_event.specs.Events.{IsEvent}
use Rattle.at_event.specs.Formed.{AreReadOps, IsBodyOf, IsCommitOf}
use Rattle.at_event.specs.Seen.{Seen}
use Rattle.at_event.specs.declared.event.Body.{Body}
use Rattle.at_event.specs.declared.event.CommitEvent.{CommitEvent}
use Rattle.at_event.specs.declared.ops.EventOp.{EventOp}
use Rattle.at_event.proofs.Formed.{events_formed}
use Rattle.event_checks.specs.Lines.{first_of}
use Rattle.event_checks.specs.Table.{field_lines, has_path, is_op}
use Rattle.event_checks.proofs.Firsts.{all_unmet}
use Rattle.mst_list.specs.Edits.{AreApart, AreFormedOps}
use Rattle.commit_check.specs.Laws.{EditsAreFormed}
use Rattle.commit_check.specs.Step.{edit_of, edits_of, lacks_prev}
use Rattle.commit_check.proofs.Apart.{apart_shown}
use Rattle.commit_check.proofs.Keys.{acts, path_key}

or_parts : (a b : Bool) → a || b ≡ false → (a ≡ false) × (b ≡ false)
or_parts true b h = absurd (cc)
or_parts false b h = (refl, h)

formed : (ops : List EventOp) → AreReadOps ops → list_all has_path ops ≡ true → list_all is_op ops ≡ true → list_any lacks_prev ops ≡ false → AreFormedOps (map edit_of ops)
formed [] read paths links prevs = tt
formed (op ∷ ops) read paths links prevs =
    let p = and_parts (has_path op) (list_all has_path ops) paths in
    let l = and_parts (is_op op) (list_all is_op ops) links in
    let g = or_parts (lacks_prev op) (list_any lacks_prev ops) prevs in
    ((path_key op.path read.0.path.0.1 p.0, read.0.prev, read.0.cid, λ was now. acts op.action op.cid op.prev l.0 g.0 was now), formed ops read.1 p.1 l.1 g.1)

fields_formed : (e : CommitEvent) → AreReadOps e.ops → first_of (field_lines e) ≡ None → list_any lacks_prev e.ops ≡ false → AreFormedOps (edits_of e) × AreApart (edits_of e)
fields_formed e read shown prevs =
    let all = all_unmet (field_lines e) shown in
    (formed e.ops read (not-false (list_all has_path e.ops) all.1.1.1.0) (not-false (list_all is_op e.ops) all.1.1.1.1.1.0) prevs, apart_shown e (edits_of e) shown refl)

-- a commit event that was read has the forms of its fields
pub commit_read : (event : Seen) (e : CommitEvent) → IsEvent event → event.body ≡ Body.Commit e → IsCommitOf event.did e
commit_read event e is body = subst (IsBodyOf event.did) body (events_formed event is).body

pub edits_formed : EditsAreFormed
edits_formed event e is body shown prevs = fields_formed e (commit_read event e is body).ops shown prevs
