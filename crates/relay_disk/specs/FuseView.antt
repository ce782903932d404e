-- What contracts see of a disk with a fuse.
use Rattle.std.specs.Prelude.{◌≡◌, ℕ, ◌-◌, ◌<◌, Result, IsErr, OnOk, OnErr}
use Rattle.at_cid.specs.Counts.{Rose}
use Rattle.relay_disk.specs.declared.fuse.FuseDisk.{FuseDisk}
use Rattle.relay_disk.specs.declared.disk.Failed.{Failed}

-- the disk to which the calls go
abbrev pub inner : {D : Type 0} → FuseDisk D → D
inner f = f.disk

-- how many calls it passes on yet
abbrev pub passes_left : {D : Type 0} → FuseDisk D → ℕ
passes_left f = f.passes.left

-- how often it has failed
abbrev pub faults_so_far : {D : Type 0} → FuseDisk D → ℕ
faults_so_far f = f.passes.faults

-- A call: one pass fewer. Where there is none left, the call fails and the disk isn't touched. Else
-- it fails exactly where the disk does, which counts it.
pub record Burns {D T : Type 0} (faults : D → ℕ) (result : Result T Failed)
    (old new : FuseDisk D) : Type 0 where
  pub fewer : passes_left new ≡ passes_left old - 1
  pub fails : passes_left old ≡ 0 → IsErr result
  pub untouched : passes_left old ≡ 0 → inner new ≡ inner old
  pub passed : 0 < passes_left old → OnErr result (Rose (faults (inner old)) (faults (inner new)))
  pub steady : OnOk result (faults (inner new) ≡ faults (inner old))
