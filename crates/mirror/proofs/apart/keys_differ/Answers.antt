use Rattle.std.proofs.Common.{◌≡◌, ◌-◌, ◌∷◌, ◌&&◌, ℕ, List, true, false, not, cond, drop, sym, ap, ◌∙◌, arith, nat_cmp}
use Rattle.std.specs.BTreeMap.{is_at}
use Rattle.std.specs.Cmp.Lexicographic.{slice_cmp}
use Rattle.std.specs.Str.{bytes_eq}
use Rattle.at_cid.specs.Distinct.{is_absent, all_differ}
use Rattle.at_cid.proofs.Distinct.{text_seen}
use Rattle.mst_list.specs.declared.op.Op.{Op}
use Rattle.mirror.specs.Playing.{keys_of}
use Rattle.mirror.proofs.Differing.{next_at, twice_behind, unseen}
use Rattle.mirror.proofs.apart.keys_differ.Goals as goal

pub returns-then-not-branch : goal.returns-then-not-branch
returns-then-not-branch c =
    let ops = c.args.ops.now in let n = c.loop-left.left in let op = c.index-ops-left.result in let key = c.as_slice-key.result in
    let its : key.now ≡ op.key = c.as_slice-key.ensures.value ∙ ap (λ (o : Op). o.key) (sym c.index-ops-left.is) in
    let next = next_at ops n op (let some = c.loop-left-test.true in omega arith) c.loop-left.invariant.in_range c.index-ops-left.is in
    let twice : is_absent bytes_eq op.key (keys_of (drop n ops)) ≡ false =
    ap (λ (k : List ℕ). is_absent bytes_eq k (keys_of (drop n ops))) (sym its)
    ∙ sym (unseen _ _ (c.loop-left.invariant.seen key)) ∙ sym c.in_ok-insert.ensures.added ∙ c.if-not-branch.true in
    sym (twice_behind (n - 1) ops (ap (λ (x : List Op). all_differ bytes_eq (keys_of x)) next ∙ ap (λ b. b && all_differ bytes_eq (keys_of (drop n ops))) twice))

pub loop-left-preserved : goal.loop-left-preserved
loop-left-preserved c =
    let ops = c.args.ops.now in let n = c.loop-left.left in let op = c.index-ops-left.result in let key = c.as_slice-key.result in
    let its : key.now ≡ op.key = c.as_slice-key.ensures.value ∙ ap (λ (o : Op). o.key) (sym c.index-ops-left.is) in
    let next = next_at ops n op (let some = c.loop-left-test.true in omega arith) c.loop-left.invariant.in_range c.index-ops-left.is in
    let new : is_absent bytes_eq op.key (keys_of (drop n ops)) ≡ true =
    ap (λ (k : List ℕ). is_absent bytes_eq k (keys_of (drop n ops))) (sym its)
    ∙ sym (unseen _ _ (c.loop-left.invariant.seen key)) ∙ sym c.in_ok-insert.ensures.added ∙ c.if-not-branch.false in
    let keys : key.now ∷ keys_of (drop n ops) ≡ keys_of (drop (n - 1) ops) =
    ap (λ (k : List ℕ). k ∷ keys_of (drop n ops)) its ∙ sym (ap keys_of next) in
    record {
      in_range = let low = c.loop-left.invariant.in_range in omega arith;
      differ = ap (λ (x : List Op). all_differ bytes_eq (keys_of x)) next ∙ ap (λ b. b && all_differ bytes_eq (keys_of (drop n ops))) new ∙ c.loop-left.invariant.differ;
      seen = λ q.
          c.in_ok-insert.ensures.updates.0 q ∙ ap (λ b. cond (is_at (slice_cmp nat_cmp key.now) q.now) true b) (c.loop-left.invariant.seen q)
          ∙ text_seen q.now key.now (keys_of (drop n ops)) ∙ ap (λ (y : List (List ℕ)). not (is_absent bytes_eq q.now y)) keys;
    }
