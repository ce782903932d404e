-- That a stream is taken in one way, and what follows for each that was mirrored.
use Rattle.std.proofs.Common.{◌≡◌, ◌≤◌, ◌<◌, ◌⊎◌, ℕ, ◌+◌, Bool, true, false, List, [], ◌∷◌, ◌++◌, length, IsTrue, refl, sym, ap, subst, ◌∙◌, inl, inr, arith, append_assoc, length-append}
use Rattle.at_event.specs.Frames.{frame_of}
use Rattle.backfill.specs.Writing.{with_length}
use Rattle.at_cid.specs.Lengths.{length_prefixed}
use Rattle.relay_io.specs.declared.feed.TheConstants.{LONGEST_FEED_MESSAGE}
use Rattle.mirror.specs.Repository.{Repositories}
use Rattle.mirror.specs.Taken.{is_bad, last_behind}
use Rattle.run_base.specs.Ends.{Writes}
use Rattle.run_base.specs.declared.status.Status.{Status}
use Rattle.mirror_run.specs.Ends.{MayEndBad, MayEndMirroring, MayEndWhole}
use Rattle.mirror_run.specs.Laws.{JournalsAreMirrored, JournalsHeadsArePrinted, ShortStreamsAreTaken}
use Rattle.mirror_run.specs.Mirrored.{IsRestLeft, Mirrored}
use Rattle.mirror_run.specs.Stream.{AreGood, BeginWith, IsBadBehind, IsBadFrom, last_seq_behind}
use Rattle.mirror_run.proofs.Chained.{holds_chains}
use Rattle.mirror_run.proofs.HeadsTold.{tells_heads}
use Rattle.mirror_run.proofs.Fronts.{one_message}
use Rattle.mirror_run.proofs.Stopping.{some_frame}

-- behind these messages nothing is left, or what can't be taken
abbrev Stops : ℕ → List (List ℕ) → List ℕ → Type 0
Stops last messages rest = (rest ≡ []) ⊎ IsBadFrom (last_seq_behind last messages) rest

not_both : (b : Bool) → b ≡ true → b ≡ false → ⊥
not_both b h k = let e : true ≡ false = sym h ∙ k in absurd cc

goes_on : (last : ℕ) (m rest more : List ℕ) → length m ≤ LONGEST_FEED_MESSAGE → is_bad last (frame_of m) ≡ false → rest ≡ length_prefixed m ++ more → Stops last [] rest → ⊥
goes_on last m rest more short good is (inl none) = some_frame m more (sym is ∙ none)
goes_on last m rest more short good is (inr bad) = not_both (is_bad last (frame_of m)) (bad.none m more is short) good

one_way : (last : ℕ) (ms ns : List (List ℕ)) (rest more : List ℕ) → AreGood last ms → AreGood last ns → with_length ms ++ rest ≡ with_length ns ++ more → Stops last ms rest → Stops last ns more → (ms ≡ ns) × (rest ≡ more)
one_way last [] [] rest more g h is s t = (refl, is)
one_way last [] (n ∷ ns) rest more g h is s t =
    absurd (goes_on last n rest (with_length ns ++ more) h.0 h.1 (is ∙ append_assoc (length_prefixed n) (with_length ns) more) s)
one_way last (m ∷ ms) [] rest more g h is s t =
    absurd (goes_on last m more (with_length ms ++ rest) g.0 g.1 (sym is ∙ append_assoc (length_prefixed m) (with_length ms) rest) t)
one_way last (m ∷ ms) (n ∷ ns) rest more g h is s t =
    let first = one_message m n (with_length ms ++ rest) (with_length ns ++ more) g.0 h.0
    (sym (append_assoc (length_prefixed m) (with_length ms) rest) ∙ is ∙ append_assoc (length_prefixed n) (with_length ns) more) in
    let others = one_way (last_behind last (frame_of m)) ms ns rest more g.2
    (subst (λ (x : List ℕ). AreGood (last_behind last (frame_of x)) ns) (sym first.0) h.2) first.1 s
    (subst (λ (x : List ℕ). Stops (last_behind last (frame_of x)) ns more) (sym first.0) t) in
    ((λ i. first.0 i ∷ others.0 i), others.1)

-- ---- a short stream

module _ (limit : ℕ) (input : List ℕ) (messages ms : List (List ℕ)) (rest left : List ℕ) (begin : BeginWith input messages rest) (good : AreGood 0 ms) (split : input ≡ with_length ms ++ left) (short : length input < limit) where
  same : Stops 0 ms left → Stops 0 messages rest → (ms ≡ messages) × (left ≡ rest)
  same s t = one_way 0 ms messages left rest good begin.good (sym split ∙ begin.split) s t

  not_spent : IsRestLeft limit Status.TooLong ms left → ⊥
  not_spent h =
      absurd (omega (arith, short, ap length split, length-append (with_length ms) left, ap length h.2, length-append h.0 h.1, h.4))

  ends_whole : (status : Status) → IsRestLeft limit status ms left → rest ≡ [] → MayEndMirroring status → MayEndWhole status
  ends_whole Status.Done at whole may = tt
  ends_whole Status.WriteFault at whole may = tt
  ends_whole (Status.BadStream place) at whole may = absurd (at.1.some ((same (inr at.1) (inl whole)).1 ∙ whole))
  ends_whole Status.TooLong at whole may = absurd (not_spent at)
  ends_whole status at whole may = may

  -- nothing is left
  not_all : IsBadBehind messages rest → left ≡ [] → ⊥
  not_all bad none = bad.some (sym (same (inl none) (inr bad)).1 ∙ none)

  ends_bad : (status : Status) → IsRestLeft limit status ms left → IsBadBehind messages rest → MayEndMirroring status → MayEndBad (length (with_length messages)) status
  ends_bad Status.Done at bad may = absurd (not_all bad at)
  ends_bad Status.WriteFault at bad may = absurd (not_all bad at)
  ends_bad (Status.BadStream place) at bad may = at.0 ∙ ap (λ (l : List (List ℕ)). length (with_length l)) (same (inr at.1) (inr bad)).0
  ends_bad Status.TooLong at bad may = absurd (not_spent at)
  ends_bad status at bad may = may

pub short_taken : ShortStreamsAreTaken
short_taken input_tells output_tells tell limit repositories input old new status m may told short = record {
  whole = λ all begin. ends_whole limit input all m.messages [] m.rest begin m.good (m.split told) short status (m.left told) refl may;
  bad = λ front behind begin bad. ends_bad limit input front m.messages behind m.rest begin m.good (m.split told) short status (m.left told) bad may;
}

-- ---- a journal's stream

all_taken : (input_tells output_tells tell : Bool) (limit : ℕ) (repositories : Repositories) (input old new : List ℕ) (status : Status)
    → (m : Mirrored input_tells output_tells tell limit repositories input old new status) → IsTrue input_tells → status ≡ Status.Done → input ≡ with_length m.messages ++ []
all_taken input_tells output_tells tell limit repositories input old new status m told done =
    let none : m.rest ≡ [] = subst (λ (s : Status). IsRestLeft limit s m.messages m.rest) done (m.left told) in
    m.split told ∙ ap (λ (l : List ℕ). with_length m.messages ++ l) none

pub journals_mirrored : JournalsAreMirrored
journals_mirrored input_tells output_tells tell limit repositories input old new status m told done =
    holds_chains repositories input m.messages m.good (all_taken input_tells output_tells tell limit repositories input old new status m told done)

pub heads_told : JournalsHeadsArePrinted
heads_told input_tells output_tells tell limit repositories input old new status m told shown known done =
    let w = m.written shown in
    tells_heads tell repositories input old new m.messages w.0 known m.good (all_taken input_tells output_tells tell limit repositories input old new status m told done) w.1
    (subst (λ (s : Status). Writes s [] w.0 old new) done w.2)
