-- At most one thing is held behind messages.
use Rattle.std.proofs.Common.{◌≡◌, ℕ, Bool, true, false, List, [], ◌∷◌, Option, None, Result, Ok, Err, refl, ap, sym, ◌∙◌, subst}
use Rattle.std.specs.Str.{bytes_eq}
use Rattle.at_event.specs.Frames.{frame_of}
use Rattle.at_event.specs.declared.event.Body.{Body}
use Rattle.at_event.specs.declared.event.CommitEvent.{CommitEvent}
use Rattle.at_event.specs.declared.event.SyncEvent.{SyncEvent}
use Rattle.at_event.specs.declared.frame.Frame.{Frame}
use Rattle.at_event.specs.declared.frame.FrameFault.{FrameFault}
use Rattle.commit_check.specs.Step.{edits_of}
use Rattle.mst_list.specs.declared.item.Item.{Item}
use Rattle.mirror.specs.Held.{IsAfterBody, IsAfterCommit, IsAfterFrame, IsAfterSync, IsHeldFrom}
use Rattle.relay_io.specs.Choices.{WhereElse}
use Rattle.mirror.specs.Repository.{Repositories}
use Rattle.mirror.specs.declared.holding.Holding.{Holding}
use Rattle.mirror_law.specs.Laws.{OneIsHeld}
use Rattle.mirror_law.proofs.Once.{answers_once, plays_once}

mapped : (a b : Option ℕ) (s t : List Item) → a ≡ b → s ≡ t → Holding.Mapped a s ≡ Holding.Mapped b t
mapped a b s t e f = ap (λ (o : Option ℕ). Holding.Mapped o s) e ∙ ap (λ (x : List Item). Holding.Mapped b x) f

one_commit : (c : CommitEvent) (old one other : Holding) → IsAfterCommit c old one → IsAfterCommit c old other → one ≡ other
one_commit c Holding.Waiting one other h k = h ∙ sym k
one_commit c (Holding.Mapped rev s) (Holding.Mapped a t) (Holding.Mapped b u) h k = mapped a b t u (h.0 ∙ sym k.0) (plays_once s (edits_of c) t u h.1.plays k.1.plays)
one_commit c (Holding.Mapped rev s) (Holding.Mapped a t) Holding.Waiting h k = absurd (k t h.1)
one_commit c (Holding.Mapped rev s) Holding.Waiting (Holding.Mapped b u) h k = absurd (h u k.1)
one_commit c (Holding.Mapped rev s) Holding.Waiting Holding.Waiting h k = refl

one_sync : (repositories : Repositories) (y : SyncEvent) (one other : Holding) → IsAfterSync repositories y one → IsAfterSync repositories y other → one ≡ other
one_sync repositories y (Holding.Mapped a t) (Holding.Mapped b u) h k = mapped a b t u (h.0 ∙ sym k.0) (answers_once repositories y t u h.1 k.1)
one_sync repositories y (Holding.Mapped a t) Holding.Waiting h k = absurd (k t h.1)
one_sync repositories y Holding.Waiting (Holding.Mapped b u) h k = absurd (h u k.1)
one_sync repositories y Holding.Waiting Holding.Waiting h k = refl

one_body : (repositories : Repositories) (body : Body) (old one other : Holding) → IsAfterBody repositories body old one → IsAfterBody repositories body old other → one ≡ other
one_body repositories (Body.Commit c) old one other h k = one_commit c old one other h k
one_body repositories (Body.Sync y) old one other h k = one_sync repositories y one other h k
one_body repositories Body.Identity old one other h k = h ∙ sym k
one_body repositories (Body.Account a) old one other h k = h ∙ sym k

one_where : (repositories : Repositories) (body : Body) (old one other : Holding) (b : Bool) → WhereElse b (IsAfterBody repositories body old one) (one ≡ old) → WhereElse b (IsAfterBody repositories body old other) (other ≡ old) → one ≡ other
one_where repositories body old one other true h k = one_body repositories body old one other h k
one_where repositories body old one other false h k = h ∙ sym k

one_frame : (repositories : Repositories) (did : List ℕ) (f : Result Frame FrameFault) (old one other : Holding) → IsAfterFrame repositories did f old one → IsAfterFrame repositories did f old other → one ≡ other
one_frame repositories did (Ok (Frame.Event e)) old one other h k = one_where repositories e.body old one other (bytes_eq did e.did) h k
one_frame repositories did (Ok (Frame.Faulty seq)) old one other h k = h ∙ sym k
one_frame repositories did (Ok Frame.Info) old one other h k = h ∙ sym k
one_frame repositories did (Ok Frame.Error) old one other h k = h ∙ sym k
one_frame repositories did (Ok Frame.Unknown) old one other h k = h ∙ sym k
one_frame repositories did (Err fault) old one other h k = h ∙ sym k

one_from : (repositories : Repositories) (did : List ℕ) (messages : List (List ℕ)) (old one other : Holding) → IsHeldFrom repositories did old messages one → IsHeldFrom repositories did old messages other → one ≡ other
one_from repositories did [] old one other h k = h ∙ sym k
one_from repositories did (m ∷ messages) old one other (x, after, rest) (y, behind, last) =
    let same = one_frame repositories did (frame_of m) old x y after behind in
    let P : Holding → Type 0 = λ z. IsHeldFrom repositories did z messages one in
    one_from repositories did messages y one other (subst P same rest) last

pub one_held : OneIsHeld
one_held repositories did messages one other h k = one_from repositories did messages (Holding.Mapped None []) one other h k
