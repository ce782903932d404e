-- What the other faults say of the next message: nothing.
use Rattle.std.proofs.Common.{Bool, List, [], ◌∷◌, Some, None}
use Rattle.relay_core.specs.declared.journal_state.Core.{Core}
use Rattle.relay_step.specs.Around.{Around}
use Rattle.store_take.specs.Batches.{EndsNext}
use Rattle.relay_store.specs.declared.fault.StoreFault.{StoreFault}
use Rattle.store_take.specs.declared.message.Message.{Message}

-- neither the numbers' end nor an authority's
abbrev pub IsOther : StoreFault → Type 0
IsOther StoreFault.SeqEnd = ⊥
IsOther StoreFault.Authority = ⊥
IsOther f = Unit {0}

pub next_none : (C R : Bool) (state : Core) (behind : List Message) (old new : Around) (f : StoreFault) → IsOther f → EndsNext C R state behind old new (Some f)
next_none C R state [] old new StoreFault.Disk other = tt
next_none C R state [] old new (StoreFault.BadLog p) other = tt
next_none C R state [] old new (StoreFault.Full e) other = tt
next_none C R state [] old new StoreFault.SeqEnd other = absurd other
next_none C R state [] old new StoreFault.Authority other = absurd other
next_none C R state [] old new StoreFault.Repos other = tt
next_none C R state [] old new StoreFault.Memory other = tt
next_none C R state [] old new StoreFault.Clock other = tt
next_none C R state (m ∷ behind) old new StoreFault.Disk other = tt
next_none C R state (m ∷ behind) old new (StoreFault.BadLog p) other = tt
next_none C R state (m ∷ behind) old new (StoreFault.Full e) other = tt
next_none C R state (m ∷ behind) old new StoreFault.SeqEnd other = absurd other
next_none C R state (m ∷ behind) old new StoreFault.Authority other = absurd other
next_none C R state (m ∷ behind) old new StoreFault.Repos other = tt
next_none C R state (m ∷ behind) old new StoreFault.Memory other = tt
next_none C R state (m ∷ behind) old new StoreFault.Clock other = tt

pub next_nothing : (C R : Bool) (state : Core) (behind : List Message) (old new : Around) → EndsNext C R state behind old new None
next_nothing C R state [] old new = tt
next_nothing C R state (m ∷ behind) old new = tt
