use Rattle.std.proofs.Common.{◌≡◌, rules, ◌++◌, map, ap, sym, ◌∙◌}
use Rattle.std.specs.Prelude.{nat_eq}
use Rattle.at_cid.specs.Distinct.{all_differ}
use Rattle.std.specs.List.Sorted.{IsPermutation}
use Rattle.std.proofs.Math.Dec.{ltb}
use Rattle.std.proofs.lemmas.Fn.{always_returns_same}
use Rattle.at_car.specs.Links.{first_word}
use Rattle.mst_view.specs.HoleLinks.{hole_links}
use Rattle.mst_view.proofs.FirstWords.{found_rising, numbers_differ, rising_differ}
use Rattle.mst_view.proofs.beginning.begin_apart.Goals as goal

pub returns-then-len-le-FEW : goal.returns-then-len-le-FEW
returns-then-len-le-FEW c = λ apart.
    let links = hole_links c.args.branch.now.items in
    let filled : c.as_slice.result.now ≡ map first_word links = c.as_slice.ensures.value ∙ c.in_ok-words_of.ensures ∙ ap (λ x. x ++ map first_word links) c.in_ok-words.ensures.items in
    numbers_differ links (sym (ap (all_differ nat_eq) filled) ∙ c.differ.ensures apart)

pub returns : goal.returns
returns c = λ apart.
    let links = hole_links c.args.branch.now.items in let words = c.as_slice-2.result.now in
    let filled : c.words_of.new.words.items ≡ map first_word links = c.in_ok-words_of.ensures ∙ ap (λ x. x ++ map first_word links) c.in_ok-words.ensures.items in
    let moved : IsPermutation (map first_word links) words = rw (← filled, c.as_slice-2.ensures.value) c.sort_unstable.ensures.permutation in
    rising_differ links words moved
    (found_rising words c.is_sorted_by.result (c.is_sorted_by.ensures.cases ltb (always_returns_same _ _ _ (λ a r f k. search rules))) apart)
