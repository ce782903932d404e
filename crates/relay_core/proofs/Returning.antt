-- The block of a commit is read back from the relay's own message of it.
use Rattle.std.proofs.Common.{◌≡◌, ℕ, ◌+◌, cond, List, Option, Some, None, Less, Equal, Greater, refl, sym, ap, ◌∙◌, subst}
use Rattle.std.specs.FinMap as map
use Rattle.std.specs.Ordering.{is_eq}
use Rattle.at_cid.specs.Order.{key_cmp}
use Rattle.at_cid.specs.OrderLaws.{key_total}
use Rattle.at_cid.proofs.Order.{cmp_same, cmp_exact}
use Rattle.at_car.specs.Blocks.{IsLinkOf, AreLinked}
use Rattle.at_car.proofs.Written.{written_again}
use Rattle.at_event.proofs.OwnEvents.{sync_again}
use Rattle.std.proofs.lemmas.Str.{IsUtf8-from_is_utf8}
use Rattle.relay_core.specs.Decide.{commit_blocks, commit_car, sync_message}
use Rattle.relay_core.specs.Laws.{BlocksReturn}
use Rattle.relay_core.specs.Shown.{or_empty, block_of, commit_block_in, block_in_frame}

one_found : (link block q : List ℕ) → map.get {R = key_cmp} (map.insert {R = key_cmp} map.empty link block) q ≡ cond (is_eq (key_cmp q link)) (Some block) None
one_found link block q = map.get-insert key_total map.empty link block q ∙ ap (λ (o : Option (List ℕ)). cond (is_eq (key_cmp q link)) (Some block) o) (map.get-empty key_cmp q)

pub one_linked : (link block : List ℕ) → IsLinkOf link block → AreLinked (map.insert {R = key_cmp} map.empty link block)
one_linked link block is q other e =
    elim (key_cmp q link) as (λ o. key_cmp q link ≡ o → cond (is_eq o) (Some block) None ≡ Some other → IsLinkOf q other) [
      | Less ↦ λ o f. absurd cc
      | Equal ↦ λ o f.
          let same_link : q ≡ link = cmp_exact q link o in
          let same_block : block ≡ other = cc in
          let P : List ℕ → Type 0 = λ l. IsLinkOf l other in
          let Q : List ℕ → Type 0 = λ b. IsLinkOf link b in
          subst P (sym same_link) (subst Q same_block is)
      | Greater ↦ λ o f. absurd cc
    ] refl (sym (one_found link block q) ∙ e)

pub block_returns : BlocksReturn
unfolding commit_block_in sync_message
block_returns last e head block can =
    let frame = sync_again e.did head.rev (commit_car head block) e.time (last + 1) can.did.0 (IsUtf8-from_is_utf8 e.did can.did.1) can.named can.rev can.car can.time.0 (IsUtf8-from_is_utf8 e.time can.time.1) can.short can.number in
    ap (λ f. block_in_frame f head.commit) frame
    ∙ ap (λ c. block_of c head.commit) (written_again head.commit (commit_blocks head block) can.commit.link (one_linked head.commit block can.commit) can.car_short)
    ∙ ap or_empty (one_found head.commit block head.commit ∙ ap (λ o. cond (is_eq o) (Some block) None) (cmp_same head.commit))
