-- Where a fault is told, no list is a view.
use Rattle.std.proofs.Common.{ℕ, List, Result, Ok, Err}
use Rattle.std.specs.Prelude.{IfErr}
use Rattle.std.specs.FinMap.{FinMap}
use Rattle.at_cid.specs.Order.{key_cmp}
use Rattle.mst_view.specs.ViewFault.{IsViewFault, HasNoView}
use Rattle.mst_view.specs.declared.viewing.ViewFault.{ViewFault}
use Rattle.mst_view.proofs.TreeAt.{fault_no_view, no_block}

no_view_at : (B : FinMap key_cmp (List ℕ)) (r : List ℕ) (fault : ViewFault) → IsViewFault B r fault → HasNoView B r fault
no_view_at B r (ViewFault.NoBlock c) h = λ F v. no_block B r F h.1 v
no_view_at B r (ViewFault.BadNode c) h = λ F v. fault_no_view B r c F h v
no_view_at B r ViewFault.Memory h = tt

pub no_view : {X : Type 0} (B : FinMap key_cmp (List ℕ)) (r : List ℕ) (result : Result X ViewFault) → IfErr result (IsViewFault B r) → IfErr result (HasNoView B r)
no_view B r (Ok x) h = tt
no_view B r (Err fault) h = no_view_at B r fault h
