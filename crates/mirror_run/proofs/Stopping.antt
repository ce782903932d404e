-- How taking a stream stops.
use Rattle.std.proofs.Common.{◌≡◌, ◌≤◌, ℕ, ◌+◌, Bool, true, List, [], ◌∷◌, ◌++◌, length, Result, Ok, Err, IsTrue, refl, sym, ap, subst, ◌∙◌, inl, inr, arith, length-append}
use Rattle.std.proofs.lemmas.List.{append-nil}
use Rattle.at_event.specs.Frames.{frame_of}
use Rattle.at_cid.specs.Lengths.{length_prefixed}
use Rattle.relay_io.specs.declared.feed.TheConstants.{LONGEST_FEED_MESSAGE}
use Rattle.mirror.specs.Repository.{Repositories}
use Rattle.mirror.specs.State.{held_by}
use Rattle.mirror.specs.Taken.{is_bad}
use Rattle.mirror.specs.declared.fault.MirrorFault.{MirrorFault}
use Rattle.mirror.specs.declared.keeping.Mirror.{Mirror}
use Rattle.at_cid.specs.Counts.{Counted}
use Rattle.run_base.specs.Ends.{IsFinished, Writes}
use Rattle.run_base.specs.declared.status.Status.{Status}
use Rattle.run_base.proofs.Ended.{by_finished}
use Rattle.mirror_run.specs.Ends.{MayEndMirroring}
use Rattle.mirror_run.specs.Lines.{mirror_end_line}
use Rattle.mirror_run.specs.Mirrored.{AreLines, IsRestLeft, IsMirrorText, Mirrored}
use Rattle.mirror_run.specs.Printing.{AreKnown, lines_in}
use Rattle.mirror_run.specs.Reading.{HasNoMessage, IsNext, IsSpent, coming}
use Rattle.mirror_run.specs.Stream.{IsBadBehind, last_seq_behind}
use Rattle.mirror_run.specs.Taking.{HasStopped, HasTaken, HasTakenAll, IsEarly, status_of_message, status_of_stream}
use Rattle.mirror_run.specs.declared.reader.MessageReader.{MessageReader}
use Rattle.mirror_run.specs.declared.reader.StreamFault.{StreamFault}
use Rattle.mirror_run.proofs.Fronts.{length_frame, one_message}
use Rattle.mirror_run.proofs.Ordered.{dids_ascend, dids_of, dids_told}
use Rattle.mirror_run.proofs.Printed.{nothing_added}

pub some_frame : (m more : List ℕ) → length_prefixed m ++ more ≡ [] → ⊥
some_frame m more is =
    let none : 4 + length m + length more ≡ 0 = omega (arith, ap length is, length-append (length_prefixed m) more, length_frame m) in absurd (omega (arith, none))

-- how it stops behind what was taken
module _ (input_tells tell : Bool) (repositories : Repositories) (limit : ℕ) (input left : List ℕ) (place : ℕ) (mirror : Mirror) (events : ℕ) (t : HasTaken input_tells tell repositories input left place mirror events) where
  stopped : (status : Status) → (IsTrue input_tells → IsRestLeft limit status t.messages left) → HasStopped input_tells tell repositories limit input status
  stopped status is = record { left = left; place = place; mirror = mirror; events = events; taken = t; rest = is }

  no_message_bad : HasNoMessage left → IsBadBehind t.messages left
  no_message_bad h = record { some = h.some; none = λ m more is short. absurd (h.none m more is short) }

  pub bad_stopped : (IsTrue input_tells → HasNoMessage left) → HasStopped input_tells tell repositories limit input (Status.BadStream place)
  bad_stopped h = stopped (Status.BadStream place) (λ told. (t.place_is, no_message_bad (h told)))

  pub spent_stopped : (IsTrue input_tells → IsSpent place limit left) → HasStopped input_tells tell repositories limit input Status.TooLong
  spent_stopped h = stopped Status.TooLong (λ told.
      let s = h told in (s.part, s.after, s.split, s.ends, ap (λ n. n + length s.part) (sym t.place_is) ∙ s.whole))

  pub read_stopped : HasStopped input_tells tell repositories limit input Status.ReadFault
  read_stopped = stopped Status.ReadFault (λ told. tt)

  pub memory_stopped : HasStopped input_tells tell repositories limit input Status.Memory
  memory_stopped = stopped Status.Memory (λ told. tt)

  pub repos_stopped : HasStopped input_tells tell repositories limit input Status.Repos
  repos_stopped = stopped Status.Repos (λ told. tt)

  -- a message that can't be taken
  bad_message : (m after : List ℕ) → length m ≤ LONGEST_FEED_MESSAGE → left ≡ length_prefixed m ++ after → is_bad mirror.last (frame_of m) ≡ true → IsBadBehind t.messages left
  bad_message m after short is bad = record {
    some = λ none. some_frame m after (sym is ∙ none);
    none = λ n more other short_n.
        let one = one_message n m more after short_n short (sym other ∙ is) in
        subst (λ (x : List ℕ). is_bad (last_seq_behind 0 t.messages) (frame_of x) ≡ true) (sym one.0) (ap (λ l. is_bad l (frame_of m)) (sym t.last) ∙ bad);
  }

  pub message_stopped : (fault : MirrorFault) (m after : List ℕ) → length m ≤ LONGEST_FEED_MESSAGE → (IsTrue input_tells → left ≡ length_prefixed m ++ after)
      → (fault ≡ MirrorFault.BadMessage → is_bad mirror.last (frame_of m) ≡ true) → HasStopped input_tells tell repositories limit input (status_of_message fault place)
  message_stopped MirrorFault.BadMessage m after short is bad = stopped (Status.BadStream place) (λ told. (t.place_is, bad_message m after short (is told) (bad refl)))
  message_stopped MirrorFault.Repos m after short is bad = repos_stopped
  message_stopped MirrorFault.Memory m after short is bad = memory_stopped

-- a reader that gave no message
pub stream_stopped : (input_tells tell : Bool) (repositories : Repositories) (limit : ℕ) (input : List ℕ) (reader new : MessageReader) (before after : List ℕ) (place : ℕ) (mirror : Mirror) (events : ℕ)
    → HasTaken input_tells tell repositories input (coming reader before) reader.place mirror events → place ≡ reader.place → reader.most ≡ limit
    → (fault : StreamFault) → (IsTrue input_tells → IsNext reader before new after (Err fault)) → HasStopped input_tells tell repositories limit input (status_of_stream fault place)
stream_stopped input_tells tell repositories limit input reader new before after place mirror events t at most StreamFault.Bad h =
    subst (λ n. HasStopped input_tells tell repositories limit input (Status.BadStream n)) (sym at)
    (bad_stopped input_tells tell repositories limit input (coming reader before) reader.place mirror events t h)
stream_stopped input_tells tell repositories limit input reader new before after place mirror events t at most StreamFault.Failed h =
    read_stopped input_tells tell repositories limit input (coming reader before) reader.place mirror events t
stream_stopped input_tells tell repositories limit input reader new before after place mirror events t at most StreamFault.Limit h =
    spent_stopped input_tells tell repositories limit input (coming reader before) reader.place mirror events t
    (λ told. subst (λ n. IsSpent reader.place n (coming reader before)) most (h told))
stream_stopped input_tells tell repositories limit input reader new before after place mirror events t at most StreamFault.Memory h =
    memory_stopped input_tells tell repositories limit input (coming reader before) reader.place mirror events t

pub stream_early : (fault : StreamFault) (place : ℕ) → IsEarly (status_of_stream fault place)
stream_early StreamFault.Bad place = inl (place, refl)
stream_early StreamFault.Failed place = inr (inr (inl refl))
stream_early StreamFault.Limit place = inr (inl refl)
stream_early StreamFault.Memory place = inr (inr (inr (inr refl)))

pub message_early : (fault : MirrorFault) (place : ℕ) → IsEarly (status_of_message fault place)
message_early MirrorFault.BadMessage place = inl (place, refl)
message_early MirrorFault.Repos place = inr (inr (inr (inl refl)))
message_early MirrorFault.Memory place = inr (inr (inr (inr refl)))

-- ---- the text of a mirror

module _ (input_tells tell : Bool) (repositories : Repositories) (input left : List ℕ) (place : ℕ) (mirror : Mirror) (events : ℕ) (t : HasTaken input_tells tell repositories input left place mirror events) where
  lines_are : (dids : List (List ℕ)) → AreLines tell repositories t.messages dids (lines_in mirror dids)
  lines_are [] = refl
  lines_are (did ∷ dids) = (held_by mirror did, lines_in mirror dids, λ told. t.held told did, refl, lines_are dids)

  dids_known : AreKnown mirror (dids_of t.messages)
  dids_known = record { ascend = dids_ascend t.messages; known = λ did. dids_told t.messages did ∙ sym (t.known did) }

  abbrev whole_text : List ℕ
  whole_text = lines_in mirror (dids_of t.messages) ++ mirror_end_line events

  is_text : IsMirrorText tell repositories t.messages whole_text
  is_text = record {
    dids = dids_of t.messages;
    lines = lines_in mirror (dids_of t.messages);
    ascend = dids_ascend t.messages;
    told = dids_told t.messages;
    are = lines_are (dids_of t.messages);
    whole = ap (λ n. lines_in mirror (dids_of t.messages) ++ mirror_end_line n) t.count;
  }

-- ---- how it may end

pub may_late : (status : Status) → IsFinished status → MayEndMirroring status
may_late status is = by_finished (λ s. MayEndMirroring s) tt tt tt status is

pub may_early : (status : Status) → IsEarly status → MayEndMirroring status
may_early status (inl (place, is)) = subst MayEndMirroring (sym is) tt
may_early status (inr (inl is)) = subst MayEndMirroring (sym is) tt
may_early status (inr (inr (inl is))) = subst MayEndMirroring (sym is) tt
may_early status (inr (inr (inr (inl is)))) = subst MayEndMirroring (sym is) tt
may_early status (inr (inr (inr (inr is)))) = subst MayEndMirroring (sym is) tt

-- ---- together

left_late : (limit : ℕ) (status : Status) (messages : List (List ℕ)) → IsFinished status → IsRestLeft limit status messages []
left_late limit status messages is = by_finished (λ s. IsRestLeft limit s messages []) refl refl tt status is

pub mirrored_all : (input_tells output_tells tell : Bool) (limit : ℕ) (repositories : Repositories) (input old new : List ℕ) (status : Status) (mirror : Mirror) (events : ℕ)
    → HasTakenAll input_tells tell repositories input mirror events → IsFinished status
    → (IsTrue output_tells → (dids : List (List ℕ)) → AreKnown mirror dids → Writes status [] (lines_in mirror dids ++ mirror_end_line events) old new)
    → Mirrored input_tells output_tells tell limit repositories input old new status
mirrored_all input_tells output_tells tell limit repositories input old new status mirror events (place, t) late h =
    let text = whole_text input_tells tell repositories input [] place mirror events t in
    let is = is_text input_tells tell repositories input [] place mirror events t in
    let wrote : IsTrue output_tells → Writes status [] text old new = λ told. h told (dids_of t.messages) (dids_known input_tells tell repositories input [] place mirror events t) in
    let left = left_late limit status t.messages late in
    record {
      messages = t.messages;
      rest = [];
      good = t.good;
      split = t.split;
      left = λ told. left;
      written = λ told. (text, is, wrote told);
    }

-- where it stopped nothing was written
unwritten : (status : Status) (text old : List ℕ) → IsEarly status → Writes status [] text old old
unwritten status text old (inl (place, is)) = subst (λ (s : Status). Writes s [] text old old) (sym is) (sym (append-nil old))
unwritten status text old (inr (inl is)) = subst (λ (s : Status). Writes s [] text old old) (sym is) (sym (append-nil old))
unwritten status text old (inr (inr (inl is))) = subst (λ (s : Status). Writes s [] text old old) (sym is) (sym (append-nil old))
unwritten status text old (inr (inr (inr (inl is)))) = subst (λ (s : Status). Writes s [] text old old) (sym is) (sym (append-nil old))
unwritten status text old (inr (inr (inr (inr is)))) = subst (λ (s : Status). Writes s [] text old old) (sym is) (nothing_added old text)

pub mirrored_front : (input_tells output_tells tell : Bool) (limit : ℕ) (repositories : Repositories) (input old : List ℕ) (status : Status) → HasStopped input_tells tell repositories limit input status → IsEarly status
    → Mirrored input_tells output_tells tell limit repositories input old old status
mirrored_front input_tells output_tells tell limit repositories input old status s early =
    let t = s.taken in
    let text = whole_text input_tells tell repositories input s.left s.place s.mirror s.events t in
    record {
      messages = t.messages;
      rest = s.left;
      good = t.good;
      split = t.split;
      left = s.rest;
      written = λ told. (text, is_text input_tells tell repositories input s.left s.place s.mirror s.events t, unwritten status text old early);
    }

-- ---- counts of failures

-- a count that stands, of a part that the answer doesn't speak of
pub stands : (told : Type 0) (old new : ℕ) → new ≡ old → (told → ⊥) → Counted told old new
stands told old new same not = record { rose = λ is. absurd (not is); steady = λ _. same; kept = omega (arith, same) }

-- of a part whose failure the answer speaks of
pub counted_as : (failed told : Type 0) (old mid new : ℕ) → mid ≡ old → (told → failed) → (failed → told) → Counted failed mid new → Counted told old new
counted_as failed told old mid new same back forth c =
    subst (λ (n : ℕ). Counted told n new) same (record { rose = λ is. c.rose (back is); steady = λ not. c.steady (λ is. not (forth is)); kept = c.kept })

abbrev pub failed_by : {A E : Type 0} → E → Result A E
failed_by e = Err e

abbrev error_or : {A E : Type 0} → E → Result A E → E
error_or other (Ok x) = other
error_or other (Err e) = e

pub same_error : {A E : Type 0} (one other : E) → failed_by {A = A} one ≡ failed_by other → one ≡ other
same_error one other is = ap (error_or one) is

-- a fault of a read, or of the repositories, brings the status that speaks of it, and nothing else does
read_fault : (fault : StreamFault) (place : ℕ) → status_of_stream fault place ≡ Status.ReadFault → fault ≡ StreamFault.Failed
read_fault StreamFault.Bad place is = let no : ⊥ = cc in absurd no
read_fault StreamFault.Failed place is = refl
read_fault StreamFault.Limit place is = let no : ⊥ = cc in absurd no
read_fault StreamFault.Memory place is = let no : ⊥ = cc in absurd no

pub no_repos_fault : (fault : StreamFault) (place : ℕ) → status_of_stream fault place ≡ Status.Repos → ⊥
no_repos_fault StreamFault.Bad place is = cc
no_repos_fault StreamFault.Failed place is = cc
no_repos_fault StreamFault.Limit place is = cc
no_repos_fault StreamFault.Memory place is = cc

repos_fault : (fault : MirrorFault) (place : ℕ) → status_of_message fault place ≡ Status.Repos → fault ≡ MirrorFault.Repos
repos_fault MirrorFault.BadMessage place is = let no : ⊥ = cc in absurd no
repos_fault MirrorFault.Repos place is = refl
repos_fault MirrorFault.Memory place is = let no : ⊥ = cc in absurd no

pub no_read_fault : (fault : MirrorFault) (place : ℕ) → status_of_message fault place ≡ Status.ReadFault → ⊥
no_read_fault MirrorFault.BadMessage place is = cc
no_read_fault MirrorFault.Repos place is = cc
no_read_fault MirrorFault.Memory place is = cc

pub read_counted : {A B : Type 0} (fault : StreamFault) (place : ℕ) (status : Status) (old mid new : ℕ) → status ≡ status_of_stream fault place → mid ≡ old
    → Counted (failed_by {A = A} fault ≡ failed_by StreamFault.Failed) mid new → Counted (failed_by {A = B} status ≡ failed_by Status.ReadFault) old new
read_counted fault place status old mid new is same c =
    counted_as _ _ old mid new same
    (λ told. ap failed_by (read_fault fault place (sym is ∙ same_error status Status.ReadFault told)))
    (λ failed. ap failed_by (is ∙ ap (λ (f : StreamFault). status_of_stream f place) (same_error fault StreamFault.Failed failed))) c

pub repos_counted : {A B : Type 0} (fault : MirrorFault) (place : ℕ) (status : Status) (old mid new : ℕ) → status ≡ status_of_message fault place → mid ≡ old
    → Counted (failed_by {A = A} fault ≡ failed_by MirrorFault.Repos) mid new → Counted (failed_by {A = B} status ≡ failed_by Status.Repos) old new
repos_counted fault place status old mid new is same c =
    counted_as _ _ old mid new same
    (λ told. ap failed_by (repos_fault fault place (sym is ∙ same_error status Status.Repos told)))
    (λ failed. ap failed_by (is ∙ ap (λ (f : MirrorFault). status_of_message f place) (same_error fault MirrorFault.Repos failed))) c
