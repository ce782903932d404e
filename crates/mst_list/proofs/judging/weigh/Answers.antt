use Rattle.std.proofs.Common.{◌≡◌, Bool, true, false, not, is_some, Some, None, Option, List, ℕ, refl, ap, sym, ◌∙◌, ◌⊎◌, inl, inr}
use Rattle.mst_list.proofs.Alike.{link_same}
use Rattle.mst_list.specs.Edits.{value_at}
use Rattle.mst_list.specs.Faults.{clear_behind}
use Rattle.mst_list.proofs.Judged.{fine_visible, fine_absent, other_absent, hidden, beside}
use Rattle.mst_list.proofs.judging.weigh.Goals as goal

none_of : (o : Option (List ℕ)) (b : Bool) → is_some o ≡ not b → b ≡ true → o ≡ None
none_of None b e d = refl
none_of (Some x) b e d = absurd (cc)

guarded : (o : Option (List ℕ)) (b clear test : Bool) → o ≡ None → is_some o ≡ not b → clear ≡ test → ((b ≡ true) × (clear ≡ true)) ⊎ (b ≡ false) → test ≡ true
guarded o b clear test none e same (inl p) = sym same ∙ p.1
guarded o b clear test none e same (inr q) = absurd (cc)

pub returns-then-not-clear : goal.returns-then-not-clear
returns-then-not-clear c = λ F value clear.
    let op = c.args.op.now in
    let at : value_at op.key F ≡ Some c.in-Some-Some.value = cc in
    let same = link_same c.ne.result c.in-Some-Some.value c.in-Some-Some.now c.ne.ensures c.if-ne.false in
    let unclear : clear_behind false op.key F ≡ false = cc in
    beside F op (at ∙ ap Some same ∙ sym c.in-Some-Some.is-1) (none_of op.was c.is_none.result c.is_none.ensures c.if-is_none.true) unclear

pub returns-else-is_none : goal.returns-else-is_none
returns-else-is_none c = λ F value clear.
    let op = c.args.op.now in
    let at : value_at op.key F ≡ Some c.in-Some-Some.value = cc in
    let same = link_same c.ne.result c.in-Some-Some.value c.in-Some-Some.now c.ne.ensures c.if-ne.false in
    fine_visible F op c.in-Some-Some.value c.in-Some-Some.now at c.in-Some-Some.is-1 same
    (λ none. guarded op.was c.is_none.result c.args.clear (clear_behind false op.key F) none c.is_none.ensures clear c.else-is_none.either)

pub returns-then-clear : goal.returns-then-clear
returns-then-clear c = λ F value clear.
    let op = c.args.op.now in
    let at : value_at op.key F ≡ None = cc in
    let is_clear : clear_behind false op.key F ≡ true = cc in
    other_absent F op at (λ e. let n = c.in-None-Some.is-1 in absurd (cc)) is_clear

pub returns-else-clear : goal.returns-else-clear
returns-else-clear c = λ F value clear.
    let op = c.args.op.now in
    let at : value_at op.key F ≡ None = cc in
    let unclear : clear_behind false op.key F ≡ false = cc in
    hidden F op at unclear

pub returns-then-clear-2 : goal.returns-then-clear-2
returns-then-clear-2 c = λ F value clear.
    let op = c.args.op.now in
    let at : value_at op.key F ≡ None = cc in
    let now : op.now ≡ None = cc in
    let is_clear : clear_behind false op.key F ≡ true = cc in
    fine_absent F op at now is_clear

pub returns-else-clear-2 : goal.returns-else-clear-2
returns-else-clear-2 c = λ F value clear.
    let op = c.args.op.now in
    let at : value_at op.key F ≡ None = cc in
    let unclear : clear_behind false op.key F ≡ false = cc in
    hidden F op at unclear
