use Rattle.std.proofs.Common.{◌≡◌, ℕ, ◌-◌, Bool, true, false, not, cond, ◌&&◌, List, drop, refl, sym, ap, ◌∙◌, arith, nat_cmp}
use Rattle.std.specs.BTreeMap.{is_at}
use Rattle.std.specs.Cmp.Lexicographic.{slice_cmp}
use Rattle.std.specs.Str.{bytes_eq}
use Rattle.at_cid.specs.Distinct.{all_differ, is_absent}
use Rattle.at_cid.proofs.Distinct.{text_seen}
use Rattle.event_checks.specs.Table.{paths_of}
use Rattle.commit_check.proofs.Ascending.{ascending_differ}
use Rattle.commit_check.proofs.Differing.{next_paths, twice_in_paths}
use Rattle.commit_check.proofs.fields.paths_differ.Goals as goal

not_not : (a b : Bool) → a ≡ not b → not a ≡ b
not_not a true e = rw e refl
not_not a false e = rw e refl

pub returns-then-paths_ascend : goal.returns-then-paths_ascend
returns-then-paths_ascend c = sym (ascending_differ (paths_of c.args.ops.now) (c.paths_ascend.ensures.0 c.if-paths_ascend.true))

pub returns-then-not-branch : goal.returns-then-not-branch
returns-then-not-branch c =
    let ops = c.args.ops.now in let n = c.loop-left.left in let b = c.as_bytes.result in
    let here = next_paths ops (n - 1) n c.index-ops-left.result b.now (let some = c.loop-left-test.true in omega arith) (let some = c.loop-left-test.true in let low = c.loop-left.invariant.in_range in omega arith) c.as_bytes.ensures.value in
    let twice : is_absent bytes_eq b.now (paths_of (drop n ops)) ≡ false = sym (not_not _ _ (c.loop-left.invariant.seen b)) ∙ sym c.in_ok-insert.ensures.added ∙ c.if-not-branch.true in
    sym (twice_in_paths (n - 1) ops (ap (all_differ bytes_eq) here ∙ ap (λ (x : Bool). x && all_differ bytes_eq (paths_of (drop n ops))) twice))

pub loop-left-preserved : goal.loop-left-preserved
loop-left-preserved c =
    let ops = c.args.ops.now in let n = c.loop-left.left in let b = c.as_bytes.result in
    let here = next_paths ops (n - 1) n c.index-ops-left.result b.now (let some = c.loop-left-test.true in omega arith) (let some = c.loop-left-test.true in let low = c.loop-left.invariant.in_range in omega arith) c.as_bytes.ensures.value in
    let new : is_absent bytes_eq b.now (paths_of (drop n ops)) ≡ true = sym (not_not _ _ (c.loop-left.invariant.seen b)) ∙ sym c.in_ok-insert.ensures.added ∙ c.if-not-branch.false in
    record {
      in_range = let low = c.loop-left.invariant.in_range in omega arith;
      differ = ap (all_differ bytes_eq) here ∙ ap (λ (x : Bool). x && all_differ bytes_eq (paths_of (drop n ops))) new ∙ c.loop-left.invariant.differ;
      seen = λ q. c.in_ok-insert.ensures.updates.0 q ∙ ap (λ (x : Bool). cond (is_at (slice_cmp nat_cmp b.now) q.now) true x) (c.loop-left.invariant.seen q) ∙ text_seen q.now b.now (paths_of (drop n ops)) ∙ ap (λ (y : List (List ℕ)). not (is_absent bytes_eq q.now y)) (sym here);
    }
