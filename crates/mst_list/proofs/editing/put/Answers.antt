use Rattle.std.proofs.Common.{◌≡◌, true, false, length, is_some, set, insert, remove, ap, sym, ◌∙◌, arith}
use Rattle.mst_list.specs.declared.item.Item.TheVariants.{Key}
use Rattle.mst_list.specs.Edits.{before, value_at, put}
use Rattle.mst_list.proofs.Puts.{in_range, place_at_most, put_visible, put_absent, cut_visible, cut_absent}
use Rattle.mst_list.proofs.editing.put.Goals as goal

pub index_mut-requires : goal.index_mut-requires
index_mut-requires c =
    let k = c.args.key.now in let F = c.args.items.now.items in
    let at : c.place_of-at.result ≡ length (before k F) = cc in
    let some : is_some (value_at k F) ≡ true = cc in
    let low = in_range k F some in let e = ap length c.as_slice.ensures.value in omega arith

pub insert-requires : goal.insert-requires
insert-requires c =
    let k = c.args.key.now in let F = c.args.items.now.items in
    let at : c.place_of-at.result ≡ length (before k F) = cc in
    let low = place_at_most k F in let e = ap length c.as_slice.ensures.value in omega arith

pub remove-requires : goal.remove-requires
remove-requires c =
    let k = c.args.key.now in let F = c.args.items.now.items in
    let at : c.place_of-at.result ≡ length (before k F) = cc in
    let some : is_some (value_at k F) ≡ true = cc in
    let low = in_range k F some in let e = ap length c.as_slice.ensures.value in omega arith

pub returns-then-visible : goal.returns-then-visible
returns-then-visible c =
    let k = c.args.key.now in let F = c.args.items.now.items in let v = c.in-Some.value in
    let at : c.place_of-at.result ≡ length (before k F) = cc in
    let some : is_some (value_at k F) ≡ true = cc in
    let copied : c.in_ok-of-in-Some.field-0 ≡ k = c.in_ok-of-in-Some.ensures in
    ap (λ n. set F n (Key c.in_ok-of-in-Some.field-0 v)) at ∙ ap (λ j. set F (length (before k F)) (Key j v)) copied
    ∙ put_visible k v F some ∙ ap (λ o. put k o F) (sym c.in-Some.is)

pub returns-in_ok-insert-in-Some : goal.returns-in_ok-insert-in-Some
returns-in_ok-insert-in-Some c =
    let k = c.args.key.now in let F = c.args.items.now.items in let v = c.in-Some.value in
    let at : c.place_of-at.result ≡ length (before k F) = cc in
    let some : is_some (value_at k F) ≡ false = cc in
    let copied : c.in_ok-of-in-Some.field-0 ≡ k = c.in_ok-of-in-Some.ensures in
    c.in_ok-insert-in-Some.ensures.items
    ∙ ap (λ n. insert F n (Key c.in_ok-of-in-Some.field-0 v)) at ∙ ap (λ j. insert F (length (before k F)) (Key j v)) copied
    ∙ put_absent k v F some ∙ ap (λ o. put k o F) (sym c.in-Some.is)

pub returns-then-visible-2 : goal.returns-then-visible-2
returns-then-visible-2 c =
    let k = c.args.key.now in let F = c.args.items.now.items in
    let at : c.place_of-at.result ≡ length (before k F) = cc in
    let some : is_some (value_at k F) ≡ true = cc in
    c.remove.ensures.items ∙ ap (λ n. remove F n) at ∙ cut_visible k F some ∙ ap (λ o. put k o F) (sym c.in-None.is)

pub returns-else-visible-2 : goal.returns-else-visible-2
returns-else-visible-2 c =
    let k = c.args.key.now in let F = c.args.items.now.items in
    let some : is_some (value_at k F) ≡ false = cc in
    cut_absent k F some ∙ ap (λ o. put k o F) (sym c.in-None.is)
