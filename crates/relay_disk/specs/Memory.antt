-- A disk in memory, by the calls that it records.
use Rattle.std.specs.Prelude.{ℕ, ◌+◌, ◌-◌, Bool, false, ◌&&◌, ◌||◌, cond, nat_le, nat_lt, List, [], ◌∷◌, take, drop}
use Rattle.relay_disk.specs.Works.{Work, wrote, cut_to, synced}
use Rattle.relay_disk.specs.declared.call.Call.{Call}
use Rattle.relay_disk.specs.declared.call.Call.TheVariants.{Size, Read, Write, Cut, Sync}

-- the calls that change something, with their bytes, which stand one after another
abbrev pub works_of : List Call → List ℕ → List Work
works_of [] bytes = []
works_of (Size ∷ calls) bytes = works_of calls bytes
works_of (Read place len ∷ calls) bytes = works_of calls bytes
works_of (Write place len ∷ calls) bytes =
    wrote place (take len bytes) ∷ works_of calls (drop len bytes)
works_of (Cut size ∷ calls) bytes = cut_to size ∷ works_of calls bytes
works_of (Sync ∷ calls) bytes = synced ∷ works_of calls bytes

-- how many bytes the calls wrote
abbrev pub total : List Call → ℕ
total [] = 0
total (Size ∷ calls) = total calls
total (Read place len ∷ calls) = total calls
total (Write place len ∷ calls) = len + total calls
total (Cut size ∷ calls) = total calls
total (Sync ∷ calls) = total calls

-- whether a write since the last sync covers this place, where so_far says it of earlier calls
abbrev pub covered_after : Bool → ℕ → List Call → Bool
covered_after so_far i [] = so_far
covered_after so_far i (Size ∷ calls) = covered_after so_far i calls
covered_after so_far i (Read place len ∷ calls) = covered_after so_far i calls
covered_after so_far i (Write place len ∷ calls) =
    covered_after (so_far || (nat_le place i && nat_lt i (place + len))) i calls
covered_after so_far i (Cut size ∷ calls) = covered_after so_far i calls
covered_after so_far i (Sync ∷ calls) = covered_after false i calls

-- the bytes, of which the first stands at place i, each of them inverted that a call since the last
-- sync wrote
abbrev pub inverted_from : ℕ → List Call → List ℕ → List ℕ
inverted_from i calls [] = []
inverted_from i calls (byte ∷ bytes) =
    cond (covered_after false i calls) (255 - byte) byte ∷ inverted_from (i + 1) calls bytes
