use Rattle.std.proofs.Common.{◌≡◌, true, false, length, map, is_some, set, insert, remove, ap, sym, ◌∙◌, arith}
use Rattle.std.proofs.lemmas.List.{map-set}
use Rattle.mst_list.specs.declared.item.Item.TheVariants.{Key}
use Rattle.mst_list.specs.Edits.{before, value_at, put}
use Rattle.mst_list.proofs.Puts.{in_range, place_at_most, put_visible, put_absent, cut_visible, cut_absent}
use Rattle.relay_gen.specs.Records.{item_of}
use Rattle.relay_gen.proofs.Sorted.{found_at, insert_items, length_items, remove_items}
use Rattle.relay_gen.proofs.records.put.Goals as goal

pub index_mut-requires : goal.index_mut-requires
index_mut-requires c =
    let k = c.args.path.now in let rs = c.args.records.now.items in let F = map item_of rs in
    let at : c.place_of-at.result ≡ length (before k F) = cc in
    let some : is_some (value_at k F) ≡ true = sym (found_at k rs) ∙ cc in
    let low = in_range k F some in let e = length_items rs in omega arith

pub insert-requires : goal.insert-requires
insert-requires c =
    let k = c.args.path.now in let rs = c.args.records.now.items in let F = map item_of rs in
    let at : c.place_of-at.result ≡ length (before k F) = cc in
    let low = place_at_most k F in let e = length_items rs in omega arith

pub remove-requires : goal.remove-requires
remove-requires c =
    let k = c.args.path.now in let rs = c.args.records.now.items in let F = map item_of rs in
    let at : c.place_of-at.result ≡ length (before k F) = cc in
    let some : is_some (value_at k F) ≡ true = sym (found_at k rs) ∙ cc in
    let low = in_range k F some in let e = length_items rs in omega arith

pub returns-then-visible : goal.returns-then-visible
returns-then-visible c =
    let k = c.args.path.now in let rs = c.args.records.now.items in let F = map item_of rs in let v = c.in-Some.value in
    let at : c.place_of-at.result ≡ length (before k F) = cc in
    let some : is_some (value_at k F) ≡ true = sym (found_at k rs) ∙ cc in
    let copied : c.in_ok-try_clone-in-Some.field-0 ≡ k = c.in_ok-try_clone-in-Some.ensures in
    map-set item_of rs c.place_of-at.result (record { path = c.in_ok-try_clone-in-Some.field-0; value = v })
    ∙ ap (λ n. set F n (Key c.in_ok-try_clone-in-Some.field-0 v)) at ∙ ap (λ j. set F (length (before k F)) (Key j v)) copied
    ∙ put_visible k v F some ∙ ap (λ o. put k o F) (sym c.in-Some.is)

pub returns-in_ok-insert-in-Some : goal.returns-in_ok-insert-in-Some
returns-in_ok-insert-in-Some c =
    let k = c.args.path.now in let rs = c.args.records.now.items in let F = map item_of rs in let v = c.in-Some.value in
    let at : c.place_of-at.result ≡ length (before k F) = cc in
    let some : is_some (value_at k F) ≡ false = sym (found_at k rs) ∙ cc in
    let copied : c.in_ok-try_clone-in-Some.field-0 ≡ k = c.in_ok-try_clone-in-Some.ensures in
    ap (map item_of) c.in_ok-insert-in-Some.ensures.items ∙ insert_items rs c.place_of-at.result (record { path = c.in_ok-try_clone-in-Some.field-0; value = v })
    ∙ ap (λ n. insert F n (Key c.in_ok-try_clone-in-Some.field-0 v)) at ∙ ap (λ j. insert F (length (before k F)) (Key j v)) copied
    ∙ put_absent k v F some ∙ ap (λ o. put k o F) (sym c.in-Some.is)

pub returns-then-visible-2 : goal.returns-then-visible-2
returns-then-visible-2 c =
    let k = c.args.path.now in let rs = c.args.records.now.items in let F = map item_of rs in
    let at : c.place_of-at.result ≡ length (before k F) = cc in
    let some : is_some (value_at k F) ≡ true = sym (found_at k rs) ∙ cc in
    ap (map item_of) c.remove.ensures.items ∙ remove_items rs c.place_of-at.result ∙ ap (λ n. remove F n) at ∙ cut_visible k F some ∙ ap (λ o. put k o F) (sym c.in-None.is)

pub returns-else-visible-2 : goal.returns-else-visible-2
returns-else-visible-2 c =
    let k = c.args.path.now in let rs = c.args.records.now.items in let F = map item_of rs in
    let some : is_some (value_at k F) ≡ false = sym (found_at k rs) ∙ cc in
    cut_absent k F some ∙ ap (λ o. put k o F) (sym c.in-None.is)
