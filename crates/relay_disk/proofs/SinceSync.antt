-- What a disk in memory is, by the content at the last sync and the calls since.
use Rattle.std.proofs.Common.{◌≡◌, ℕ, ◌+◌, max, min, List, [], ◌∷◌, ◌++◌, length, take, refl, sym, ◌∙◌, ap, subst, length-take}
use Rattle.relay_disk.specs.Disk.{written}
use Rattle.relay_disk.specs.Works.{Work, wrote, cut_to, synced, Moment, opened, next, after}
use Rattle.relay_disk.specs.Ranges.{IsUnsynced, AreInside}
use Rattle.relay_disk.proofs.Works.{after-push}
use Rattle.relay_disk.proofs.RangeLaws.{length-written}

-- the calls since the last sync make of the content at it what all calls made of the first
pub from_sync : (works : List Work) (m : Moment) → m ≡ after (opened m.settled) m.since → after m works ≡ after (opened (after m works).settled) (after m works).since
from_sync [] m is = is
from_sync (wrote place bytes ∷ works) m is = from_sync works (next m (wrote place bytes)) (ap (λ (n : Moment). next n (wrote place bytes)) is ∙ sym (after-push (opened m.settled) m.since (wrote place bytes)))
from_sync (cut_to size ∷ works) m is = from_sync works (next m (cut_to size)) (ap (λ (n : Moment). next n (cut_to size)) is ∙ sym (after-push (opened m.settled) m.since (cut_to size)))
from_sync (synced ∷ works) m is = from_sync works (next m synced) refl

unsynced-push : (works : List Work) (work : Work) → IsUnsynced works → IsUnsynced (work ∷ []) → IsUnsynced (works ++ work ∷ [])
unsynced-push [] work none last = last
unsynced-push (wrote place bytes ∷ works) work none last = unsynced-push works work none last
unsynced-push (cut_to size ∷ works) work none last = unsynced-push works work none last
unsynced-push (synced ∷ works) work none last = absurd none

-- there is no sync among them
pub unsynced_since : (works : List Work) (m : Moment) → IsUnsynced m.since → IsUnsynced (after m works).since
unsynced_since [] m none = none
unsynced_since (wrote place bytes ∷ works) m none = unsynced_since works (next m (wrote place bytes)) (unsynced-push m.since (wrote place bytes) none tt)
unsynced_since (cut_to size ∷ works) m none = unsynced_since works (next m (cut_to size)) (unsynced-push m.since (cut_to size) none tt)
unsynced_since (synced ∷ works) m none = unsynced_since works (next m synced) tt

inside-push : (works : List Work) (m : Moment) (work : Work) → IsUnsynced works → AreInside (length m.content) works → AreInside (length (after m works).content) (work ∷ [])
    → AreInside (length m.content) (works ++ work ∷ [])
inside-push [] m work none inside last = last
inside-push (wrote place bytes ∷ works) m work none inside last =
    let size : length (written place bytes m.content) ≡ max (length m.content) (place + length bytes) = length-written place bytes m.content inside.0 in
    (inside.0, subst (λ k. AreInside k (works ++ work ∷ [])) size (inside-push works (next m (wrote place bytes)) work none (subst (λ k. AreInside k works) (sym size) inside.1) last))
inside-push (cut_to to ∷ works) m work none inside last =
    let size : length (take to m.content) ≡ min to (length m.content) = length-take to m.content in
    subst (λ k. AreInside k (works ++ work ∷ [])) size (inside-push works (next m (cut_to to)) work none (subst (λ k. AreInside k works) (sym size) inside) last)
inside-push (synced ∷ works) m work none inside last = absurd none

-- one call more
pub still_inside : (first : List ℕ) (works : List Work) (work : Work) (settled : List ℕ) → settled ≡ (after (opened first) works).settled
    → AreInside (length settled) (after (opened first) works).since → AreInside (length (after (opened first) works).content) (work ∷ [])
    → AreInside (length settled) ((after (opened first) works).since ++ work ∷ [])
still_inside first works work settled is inside last =
    let m = after (opened first) works in
    let whole : m ≡ after (opened m.settled) m.since = from_sync works (opened first) refl in
    let pushed : AreInside (length m.settled) (m.since ++ work ∷ []) = inside-push m.since (opened m.settled) work (unsynced_since works (opened first) tt)
    (subst (λ (l : List ℕ). AreInside (length l) m.since) is inside)
    (subst (λ (n : Moment). AreInside (length n.content) (work ∷ [])) whole last) in
    subst (λ (l : List ℕ). AreInside (length l) (m.since ++ work ∷ [])) (sym is) pushed
