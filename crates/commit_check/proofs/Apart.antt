-- Different paths make different keys.
use Rattle.std.proofs.Common.{◌≡◌, ◌≢◌, ℕ, true, not, None, List, [], ◌∷◌, map, sym, ap, subst, ◌∙◌}
use Rattle.std.specs.Str.{bytes_eq}
use Rattle.std.proofs.lemmas.Bool.{and_parts, false≢true, not-false}
use Rattle.std.proofs.lemmas.Slice.Eq.{bytes_eq-Decides}
use Rattle.at_cid.specs.Distinct.{all_differ, is_absent}
use Rattle.at_event.specs.declared.event.CommitEvent.{CommitEvent}
use Rattle.at_event.specs.declared.ops.EventOp.{EventOp}
use Rattle.event_checks.specs.Lines.{first_of}
use Rattle.event_checks.specs.Table.{field_lines, paths_of}
use Rattle.event_checks.proofs.Firsts.{all_unmet}
use Rattle.mst_list.specs.declared.op.Op.{Op}
use Rattle.mst_list.specs.Edits.{AreApart, IsNewTo}
use Rattle.commit_check.specs.Step.{edit_of}

differs : (k j : List ℕ) → not (bytes_eq j k) ≡ true → k ≢ j
differs k j h e =
    let same : bytes_eq j k ≡ true = (bytes_eq-Decides j k).1 (sym e) in
    false≢true (sym (ap not same) ∙ h)

new_to : (k : List ℕ) (ops : List EventOp) → is_absent bytes_eq k (paths_of ops) ≡ true → IsNewTo k (map edit_of ops)
new_to k [] h = tt
new_to k (op ∷ ops) h =
    let both = and_parts (not (bytes_eq op.path k)) (is_absent bytes_eq k (paths_of ops)) h in
    (differs k op.path both.0, new_to k ops both.1)

pub apart : (ops : List EventOp) → all_differ bytes_eq (paths_of ops) ≡ true → AreApart (map edit_of ops)
apart [] h = tt
apart (op ∷ ops) h =
    let both = and_parts (is_absent bytes_eq op.path (paths_of ops)) (all_differ bytes_eq (paths_of ops)) h in
    (new_to op.path ops both.0, apart ops both.1)

pub apart_shown : (e : CommitEvent) (ops : List Op) → first_of (field_lines e) ≡ None → ops ≡ map edit_of e.ops → AreApart ops
apart_shown e ops h is =
    let all = all_unmet (field_lines e) h in
    subst AreApart (sym is) (apart e.ops (not-false (all_differ bytes_eq (paths_of e.ops)) all.1.1.1.1.0))
