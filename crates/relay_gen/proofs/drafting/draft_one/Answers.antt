use Rattle.std.proofs.Common.{◌≡◌, ◌+◌, ◌*◌, ◌==◌, ℕ, List, length, map, cond, false, nat_lt, slice_get, Option, Some, None, refl, sym, ap, ◌∙◌, arith}
use Rattle.std.proofs.lemmas.Bool.{le-ltb}
use Rattle.std.proofs.lemmas.Result.{on_ok_weaker}
use Rattle.mst_list.specs.declared.item.Item.TheVariants.{Key}
use Rattle.mst_list.specs.declared.op.Op.{Op}
use Rattle.mst_node.proofs.Layers.{eqb_not}
use Rattle.relay_gen.specs.Draws.{drawn, next}
use Rattle.relay_gen.specs.Drafts.{Draft, with_op}
use Rattle.relay_gen.specs.Names.{generated_value}
use Rattle.relay_gen.specs.Records.{item_of, op_of}
use Rattle.relay_gen.proofs.Older.{drawn_edit}
use Rattle.relay_gen.proofs.Sorted.{item_at, length_items}
use Rattle.relay_gen.proofs.drafting.draft_one.Goals as goal
use Rattle.relay_gen.proofs.drafting.draft_one.Goals.{then-kind-lt7, else-kind-lt7}

abbrev edit : List ℕ → List ℕ → Option (List ℕ) → Op
edit k was now = record { key = k; was = Some was; now = now }

pub returns : goal.returns
returns c =
    let rs = c.args.records.now in let s = map item_of rs in let n = c.args.number in let j = c.args.place in
    let d : Draft = record { ops = map op_of c.args.changes.now.items; state = c.args.draws.now } in
    let kind = drawn 8 (next d.state) in let kind_is = c.draw-kind.ensures.value in let below = c.draw-kind.ensures.below in
    let r = c.index-records-index.result in let value = generated_value (n * 8 + j) in
    let state : c.draw-index.new.self ≡ next (next d.state) = c.draw-index.ensures.state ∙ ap next c.draw-kind.ensures.state in
    let low : nat_lt kind 5 ≡ false = le-ltb kind 5 (let least = c.if-kind-lt5.false in omega arith) in
    let some : (length s == 0) ≡ false = ap (λ m. m == 0) (length_items rs) ∙ sym c.is_empty.ensures ∙ c.if-is_empty.false in
    let place : c.draw-index.result ≡ drawn (length s) (next (next d.state)) = c.draw-index.ensures.value ∙ ap (λ x. drawn (length rs) (next x)) c.draw-kind.ensures.state ∙ ap (λ m. drawn m (next (next d.state))) (sym (length_items rs)) in
    let item : slice_get s (drawn (length s) (next (next d.state))) ≡ Some (Key r.path r.value) = ap (slice_get s) (sym place) ∙ item_at rs c.draw-index.result r c.draw-index.ensures.below c.index-records-index.is in
    let op : edit c.in_ok-try_clone.field-0 r.value c.if-kind-lt7.change ≡ edit r.path r.value (cond (kind == 7) None (Some value)) = ap (λ p. edit p r.value c.if-kind-lt7.change) c.in_ok-try_clone.ensures ∙ elim c.if-kind-lt7.branch [
      | then-kind-lt7 w ↦ ap (edit r.path r.value) w.change-is ∙ ap (λ v. edit r.path r.value (Some v)) c.in_ok-value.ensures
          ∙ ap (λ b. edit r.path r.value (cond b None (Some value))) (sym (eqb_not kind 7 (λ e. let small = w.if-kind-lt7.true in absurd (omega arith))))
      | else-kind-lt7 w ↦ ap (edit r.path r.value) w.change-is
          ∙ ap (λ k. edit r.path r.value (cond (k == 7) None (Some value))) (let large = w.if-kind-lt7.false in let seven : 7 ≡ kind = omega arith in seven)
    ] in
    on_ok_weaker c.add-2.result (λ e.
    ap (λ o. with_state o c.draw-index.new.self) (e ∙ ap (with_op d.ops) op)
    ∙ ap (with_state (with_op d.ops (edit r.path r.value (cond (kind == 7) None (Some value))))) state
    ∙ drawn_edit s n j d r.path r.value (cond (kind == 7) None (Some value)) low some item refl) c.add-2.ensures
  where
    with_state : List Op → ℕ → Draft
    with_state ops x = record { ops = ops; state = x }
