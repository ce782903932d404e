-- What was read of a journal's stream is what was sent.
use Rattle.std.proofs.Common.{◌≡◌, ℕ, false, List, [], ◌∷◌, ◌++◌, Result, Ok, Err, refl, sym, ◌∙◌, subst}
use Rattle.std.proofs.lemmas.List.{append-nil}
use Rattle.at_event.specs.Frames.{frame_of}
use Rattle.at_event.specs.declared.frame.Frame.{Frame}
use Rattle.at_event.specs.declared.frame.FrameFault.{FrameFault}
use Rattle.backfill.specs.Writing.{with_length}
use Rattle.mirror.specs.Repository.{Repositories}
use Rattle.mirror.specs.Taken.{is_bad, last_behind}
use Rattle.mirror_law.specs.Laws.{AreFrames}
use Rattle.mirror_law.specs.Mirrored.{IsMirrored}
use Rattle.mirror_law.specs.Open.{open_chain}
use Rattle.mirror_law.proofs.Mirroring.{mirrors_hold}
use Rattle.mirror_law.proofs.Written.{written_sent}
use Rattle.mirror_run.specs.Chains.{HoldsChains}
use Rattle.mirror_run.specs.Stream.{AreGood}

good_frame : (last : ℕ) (read : Result Frame FrameFault) → is_bad last read ≡ false → (frame : Frame) × (read ≡ Ok frame)
good_frame last (Ok frame) h = (frame, refl)
good_frame last (Err fault) h = absurd cc

pub are_frames : (messages : List (List ℕ)) (last : ℕ) → AreGood last messages → AreFrames messages
are_frames [] last h = tt
are_frames (m ∷ messages) last h = (good_frame last (frame_of m) h.1, are_frames messages (last_behind last (frame_of m)) h.2)

pub holds_chains : (repositories : Repositories) (input : List ℕ) (messages : List (List ℕ)) → AreGood 0 messages → input ≡ with_length messages ++ [] → HoldsChains repositories input messages
holds_chains repositories input messages good split J front did s may bytes =
    let P : List (List ℕ) → Type 0 = λ ms. IsMirrored repositories did ms (open_chain did front) s in
    let same = written_sent J front may.others messages may.whole may.journal (are_frames messages 0 good) (sym (append-nil (with_length messages)) ∙ sym split ∙ bytes) in
    subst P (sym same) (mirrors_hold J front did repositories s may)
