-- A chain that replays has one revision.
use Rattle.std.proofs.Common.{◌≡◌, ℕ, List, [], ◌∷◌, Option, Some, None, refl, ap, sym, ◌∙◌}
use Rattle.at_event.specs.declared.event.CommitEvent.{CommitEvent}
use Rattle.at_event.specs.declared.event.SyncEvent.{SyncEvent}
use Rattle.mst_list.specs.declared.item.Item.{Item}
use Rattle.mirror.specs.Repository.{Repositories}
use Rattle.mirror_law.specs.Mirrored.{IsFirstMap, IsFirstRev, IsLastRev, Replay}
use Rattle.mirror_law.specs.Open.{Beginning, empty, base}
use Rattle.mirror_law.proofs.Stepped.{same_commit, same_sync}

first_rev : (repositories : Repositories) (began : Beginning) (s : List Item) → IsFirstMap repositories began s → (rev : Option ℕ) × IsFirstRev began rev
first_rev repositories empty s h = (None, refl)
first_rev repositories (base r []) s h = absurd h
first_rev repositories (base r (m ∷ [])) s h = (Some h.sync.rev, (h.sync, h.is, refl))
first_rev repositories (base r (m ∷ (n ∷ ms))) s h = absurd h

pub last_rev : (repositories : Repositories) (began : Beginning) (s : List Item) → IsFirstMap repositories began s → (ks : List (List ℕ × List ℕ)) (u t : List Item) → Replay u ks t → (rev : Option ℕ) × IsLastRev began ks rev
last_rev repositories began s h [] u t replay = first_rev repositories began s h
last_rev repositories began s h (k ∷ []) u t (c, middle, is, goes, rest) = (Some c.rev, (c, is, refl))
last_rev repositories began s h (k ∷ (j ∷ ks)) u t (c, middle, is, goes, rest) = last_rev repositories began s h (j ∷ ks) middle t rest

one_first : (began : Beginning) (a b : Option ℕ) → IsFirstRev began a → IsFirstRev began b → a ≡ b
one_first empty a b p q = p ∙ sym q
one_first (base r []) a b p q = absurd p
one_first (base r (m ∷ [])) a b (y, is, at) (z, also, there) = at ∙ ap (λ (x : SyncEvent). Some x.rev) (sym (same_sync m is.event y z is.reads is.says also)) ∙ sym there
one_first (base r (m ∷ (n ∷ ms))) a b p q = absurd p

pub one_rev : (began : Beginning) (ks : List (List ℕ × List ℕ)) (a b : Option ℕ) → IsLastRev began ks a → IsLastRev began ks b → a ≡ b
one_rev began [] a b p q = one_first began a b p q
one_rev began (k ∷ []) a b (c, is, at) (d, also, there) = at ∙ ap (λ (x : CommitEvent). Some x.rev) (sym (same_commit k.0 is.event c d is.reads is.says also)) ∙ sym there
one_rev began (k ∷ (j ∷ ks)) a b p q = one_rev began (j ∷ ks) a b p q
