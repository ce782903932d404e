use Rattle.std.proofs.Common.{List, ap, sym, ◌∙◌, subst}
use Rattle.std.specs.List.{All}
use Rattle.std.proofs.lemmas.List.Filters.{dedup_is, All-dedup}
use Rattle.std.proofs.lemmas.List.Sorted.{All-permutation}
use Rattle.at_car.specs.declared.entry.ScanEntry.{ScanEntry}
use Rattle.at_car.specs.Entries.{AreInOrder, place_of}
use Rattle.at_car.specs.Logs.{IsTold}
use Rattle.at_car.proofs.Settles.{same, left_of_each, sorted_places, slice_places, slice_all, in_order}
use Rattle.at_car.proofs.entry.settle.Goals as goal

pub returns-in_err-bring_halves_near-clause-told : goal.returns-in_err-bring_halves_near-clause-told
returns-in_err-bring_halves_near-clause-told c = λ buffer h. slice_all _ _ _ _ c.as_mut_slice.ensures.value c.as_mut_slice.ensures.len c.bring_halves_near.ensures.len (IsTold buffer) (c.bring_halves_near.ensures.told buffer) h

pub returns-in_err-sort-clause-told : goal.returns-in_err-sort-clause-told
returns-in_err-sort-clause-told c = λ buffer h. All-permutation (IsTold buffer) _ _ c.sort.ensures.permutation (slice_all _ _ _ _ c.as_mut_slice.ensures.value c.as_mut_slice.ensures.len c.bring_halves_near.ensures.len (IsTold buffer) (c.bring_halves_near.ensures.told buffer) h)

pub returns-clause-places : goal.returns-clause-places
returns-clause-places c = λ link.
    ap (place_of link) (dedup_is same _ _ c.dedup.ensures.filtered) ∙ left_of_each link _ ∙ sorted_places link _ _ c.sort.ensures.stable
    ∙ slice_places _ _ _ _ c.as_mut_slice.ensures.value c.as_mut_slice.ensures.len c.bring_halves_near.ensures.len link (c.bring_halves_near.ensures.places link)

pub returns-clause-order : goal.returns-clause-order
returns-clause-order c = subst AreInOrder (sym (dedup_is same _ _ c.dedup.ensures.filtered)) (in_order _ c.in_ok-sort.ensures.sorted)

pub returns-clause-told : goal.returns-clause-told
returns-clause-told c = λ buffer h. subst (λ (l : List ScanEntry). All (IsTold buffer) l) (sym (dedup_is same _ _ c.dedup.ensures.filtered)) (All-dedup same (IsTold buffer) _ (All-permutation (IsTold buffer) _ _ c.sort.ensures.permutation (slice_all _ _ _ _ c.as_mut_slice.ensures.value c.as_mut_slice.ensures.len c.bring_halves_near.ensures.len (IsTold buffer) (c.bring_halves_near.ensures.told buffer) h)))
