-- What lies below a node has a lower layer.
use Rattle.std.specs.Prelude.{ℕ, ◌≤◌, List, [], ◌∷◌}
use Rattle.std.proofs.Common.{arith}
use denote.Param.Weighed.{most}
use Rattle.mst_view.specs.declared.branch.Below.{Below}
use Rattle.mst_view.specs.declared.branch.Below.TheVariants.{Empty, Hole, Tree}
use Rattle.mst_view.specs.declared.branch.Part.{Part}
use Rattle.mst_view.specs.declared.branch.Branch.TheDeep.{deep-Below, deep-Part}
use Rattle.mst_view.specs.Layered.{LiesBelow, AllAt}

pub below_falls : (h : ℕ) (b : Below) → LiesBelow h b → deep-Below b ≤ h
below_falls h Empty l = omega arith
below_falls h (Hole c) l = omega arith
below_falls h (Tree b) l = let low = l.0 in omega arith

pub parts_fall : (h : ℕ) (parts : List Part) → AllAt h parts → most deep-Part parts ≤ h
parts_fall h [] l = omega arith
parts_fall h (p ∷ parts) l = let one = below_falls h p.below l.1 in
    let rest = parts_fall h parts l.2 in omega arith
