-- What is read of what is written of a journal's stream is what was sent.
use Rattle.std.proofs.Common.{◌≡◌, ℕ, List, [], ◌∷◌, ◌++◌, length, drop, refl, ap, sym, ◌∙◌, subst}
use Rattle.at_event.specs.declared.frame.Frame.{Frame}
use Rattle.event_window.specs.Held.{Event}
use Rattle.backfill.specs.Served.{messages_of}
use Rattle.backfill.specs.Writing.{with_length}
use Rattle.at_cid.specs.Lengths.{length_prefixed}
use Rattle.relay_law.specs.Faithful.{IsFaithfulJournal}
use Rattle.relay_law.proofs.Staying.{stay_faithful}
use Rattle.relay_store.specs.Shown.{shown_of}
use Rattle.mirror_law.specs.Laws.{AreFrames, WrittenAreSent}
use Rattle.mirror_law.proofs.Frames.{next_frame}
use Rattle.mirror_law.proofs.Sends.{AreSent, all_sent}

none_framed : (x r : List ℕ) → [] ≡ length_prefixed x ++ r → ⊥
none_framed x r is = let long : 0 ≡ length (length_prefixed x ++ r) = ap (λ (l : List ℕ). length l) is in absurd cc

sent_once : (messages : List (List ℕ)) (events : List Event) → AreFrames messages → AreSent events → with_length messages ≡ with_length (messages_of events) → messages ≡ messages_of events
sent_once [] [] frames sent is = refl
sent_once [] (event ∷ events) frames sent is = absurd (none_framed event.1 (with_length (messages_of events)) is)
sent_once (m ∷ messages) [] frames sent is = absurd (none_framed m (with_length messages) (sym is))
sent_once (m ∷ messages) (event ∷ events) frames sent is =
    let tails : m ++ with_length messages ≡ event.1 ++ with_length (messages_of events) = ap (λ (l : List ℕ). drop 4 l) is in
    let of = sent.0.1 in
    let both = next_frame m event.1 (with_length messages) (with_length (messages_of events)) frames.0.0 (Frame.Event of.event) of.bytes frames.0.1 of.reads tails in
    ap (λ (l : List ℕ). l ∷ messages) both.0 ∙ ap (λ (ms : List (List ℕ)). event.1 ∷ ms) (sent_once messages events frames.1 sent.1 both.1)

pub written_sent : WrittenAreSent
written_sent J front others messages whole is frames bytes =
    let faithful = stay_faithful.front front others (subst IsFaithfulJournal whole is) in
    sent_once messages (shown_of J front) frames (all_sent J [] front faithful.journal.formed faithful.sends) bytes
