use Rattle.std.proofs.Common.{◌≡◌, ◌-◌, ◌+◌, ◌&&◌, ◌∷◌, true, false, get_or, drop, sym, ap, ◌∙◌, arith}
use Rattle.std.specs.Prelude.{nat_eq, slice_set}
use Rattle.std.specs.List.{list_all, list_any}
use Rattle.std.proofs.lemmas.List.{length-set}
use Rattle.at_cid.specs.Distinct.{is_absent, all_differ}
use Rattle.mst_view.proofs.Words.{is_word_marked, from_word, slice_from, unmarked_new, uncontained_new, marked_on}
use Rattle.mst_view.proofs.beginning.differ.Goals as goal
use Rattle.mst_view.proofs.beginning.differ.Goals.{else-marks-place-via-then-marks-place+else-contains, else-marks-place-via-else-marks-place}

pub loop-left-preserved : goal.loop-left-preserved
loop-left-preserved c =
    let ws = c.args.words.now in let n = c.loop-left.left in let w = get_or ws (n - 1) 0 in let p = c.place_of-place.result in let marks = c.loop-left.marks in
    let some = c.loop-left-test.true in let range = c.loop-left.invariant.in_range in
    let here : drop (n - 1) ws ≡ w ∷ drop n ws = from_word ws (n - 1) n (omega arith) (omega arith) in
    let new : is_absent nat_eq w (drop n ws) ≡ true = elim c.else-marks-place.branch [
      | else-marks-place-via-then-marks-place+else-contains v ↦ uncontained_new w (drop n ws) (ap (list_any (λ y. nat_eq y w)) (sym (slice_from ws (n - 1 + 1) n (omega arith) range)) ∙ sym v.contains.ensures.value ∙ v.if-contains.false)
      | else-marks-place-via-else-marks-place v ↦ unmarked_new marks w (drop n ws) c.loop-left.invariant.marked (ap (λ i. get_or marks i false) (sym c.place_of-place.ensures.is) ∙ v.if-marks-place.false)
    ] in
    record {
      in_range = omega arith;
      long = length-set marks p true ∙ c.loop-left.invariant.long;
      differ = ap (all_differ nat_eq) here ∙ ap (λ b. b && all_differ nat_eq (drop n ws)) new ∙ c.loop-left.invariant.differ;
      marked = ap (list_all (is_word_marked (slice_set marks p true))) here ∙ marked_on marks p w (drop n ws) c.place_of-place.ensures.is (let long = c.loop-left.invariant.long in let within = c.place_of-place.ensures.within in omega arith) c.loop-left.invariant.marked;
    }
