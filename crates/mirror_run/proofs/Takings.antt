-- What a mirror holds behind one message more.
use Rattle.std.proofs.Common.{◌≡◌, ◌≤◌, ◌<◌, ℕ, ◌+◌, Bool, true, false, not, cond, ◌||◌, ◌&&◌, ltb, List, [], ◌∷◌, ◌++◌, length, None, Result, Ok, Err, IsTrue, refl, sym, ap, subst, ◌∙◌, arith, append_assoc, length-append}
use Rattle.std.proofs.lemmas.Bool.{le-ltb, lt-ltb}
use Rattle.std.proofs.lemmas.List.{append-nil}
use Rattle.std.specs.List.{filter}
use Rattle.std.specs.Str.{bytes_eq}
use Rattle.at_cid.specs.Link.{IsBytes}
use Rattle.at_syntax.specs.Did.{is_did}
use Rattle.at_syntax.proofs.Dids.{no_colon}
use Rattle.at_event.specs.Frames.{frame_of}
use Rattle.at_event.specs.declared.frame.Frame.{Frame}
use Rattle.at_event.specs.declared.frame.FrameFault.{FrameFault}
use Rattle.at_event.proofs.Formed.{events_formed, frames_events}
use Rattle.backfill.specs.Writing.{with_length}
use Rattle.at_cid.specs.Lengths.{length_prefixed}
use Rattle.relay_io.specs.declared.feed.TheConstants.{LONGEST_FEED_MESSAGE}
use Rattle.mirror.specs.Held.{IsAfter, IsHeldFrom}
use Rattle.mirror.specs.Repository.{Repositories}
use Rattle.mirror.specs.State.{at_start, held_by, is_known}
use Rattle.mirror.specs.Taken.{IsTaken, is_such_event_of, is_bad, last_behind}
use Rattle.at_event.specs.Bodies.{has_blocks}
use Rattle.mirror.specs.declared.holding.Holding.{Holding}
use Rattle.mirror.specs.declared.keeping.Mirror.{Mirror}
use Rattle.mirror.specs.declared.step.Step.{Step}
use Rattle.mirror_run.specs.Stream.{AreGood, event_count, is_event, last_seq_behind, tell_of}
use Rattle.mirror_run.specs.Reading.{coming, held}
use Rattle.mirror_run.specs.Taking.{HasTaken}
use Rattle.mirror_run.specs.declared.reader.MessageReader.{MessageReader}

pub frames_more : (messages : List (List ℕ)) (m : List ℕ) → with_length (messages ++ m ∷ []) ≡ with_length messages ++ length_prefixed m
frames_more [] m = append-nil (length_prefixed m)
frames_more (k ∷ messages) m =
    ap (λ (l : List ℕ). length_prefixed k ++ l) (frames_more messages m) ∙ sym (append_assoc (length_prefixed k) (with_length messages) (length_prefixed m))

good_more : (last : ℕ) (messages : List (List ℕ)) (m : List ℕ) → AreGood last messages → length m ≤ LONGEST_FEED_MESSAGE → is_bad (last_seq_behind last messages) (frame_of m) ≡ false → AreGood last (messages ++ m ∷ [])
good_more last [] m h short good = (short, good, tt)
good_more last (k ∷ messages) m h short good = (h.0, h.1, good_more (last_behind last (frame_of k)) messages m h.2 short good)

last_more : (last : ℕ) (messages : List (List ℕ)) (m : List ℕ) → last_seq_behind last (messages ++ m ∷ []) ≡ last_behind (last_seq_behind last messages) (frame_of m)
last_more last [] m = refl
last_more last (k ∷ messages) m = last_more (last_behind last (frame_of k)) messages m

held_more : (repositories : Repositories) (did : List ℕ) (old : Holding) (messages : List (List ℕ)) (mid : Holding) (m : List ℕ) (new : Holding)
    → IsHeldFrom repositories did old messages mid → IsAfter repositories did m mid new → IsHeldFrom repositories did old (messages ++ m ∷ []) new
held_more repositories did old [] mid m new h after = (new, subst (λ (x : Holding). IsAfter repositories did m x new) h after, refl)
held_more repositories did old (k ∷ messages) mid m new h after = (h.0, h.1, held_more repositories did h.0 messages mid m new h.2 after)

or_last : (a b c : Bool) → (a || (b || c)) ≡ ((a || b) || c)
or_last true b c = refl
or_last false b c = refl

or_none : (a : Bool) → (a || false) ≡ a
or_none true = refl
or_none false = refl

tell_more : (did : List ℕ) (messages : List (List ℕ)) (m : List ℕ) → tell_of did (messages ++ m ∷ []) ≡ (tell_of did messages || is_such_event_of has_blocks did (frame_of m))
tell_more did [] m = or_none (is_such_event_of has_blocks did (frame_of m))
tell_more did (k ∷ messages) m =
    ap (λ (b : Bool). is_such_event_of has_blocks did (frame_of k) || b) (tell_more did messages m)
    ∙ or_last (is_such_event_of has_blocks did (frame_of k)) (tell_of did messages) (is_such_event_of has_blocks did (frame_of m))

abbrev pub counted : Bool → ℕ
counted b = cond b 1 0

count_first : (b : Bool) (m : List ℕ) (xs : List (List ℕ)) → length (cond b (m ∷ xs) xs) ≡ counted b + length xs
count_first true m xs = omega arith
count_first false m xs = omega arith

sum_last : (a b c : ℕ) → a + (b + c) ≡ (a + b) + c
sum_last a b c = omega arith

sum_none : (a : ℕ) → a + 0 ≡ 0 + a
sum_none a = omega arith

count_more : (messages : List (List ℕ)) (m : List ℕ) → event_count (messages ++ m ∷ []) ≡ event_count messages + counted (is_event (frame_of m))
count_more [] m = count_first (is_event (frame_of m)) m [] ∙ sum_none (counted (is_event (frame_of m)))
count_more (k ∷ messages) m =
    let here = is_event (frame_of k) in
    let last = counted (is_event (frame_of m)) in
    count_first here k (filter (λ x. is_event (frame_of x)) (messages ++ m ∷ []))
    ∙ ap (λ n. counted here + n) (count_more messages m) ∙ sum_last (counted here) (event_count messages) last
    ∙ ap (λ n. n + last) (sym (count_first here k (filter (λ x. is_event (frame_of x)) messages)))

not_true : (b : Bool) → not b ≡ false → b ≡ true
not_true true h = refl
not_true false h = absurd cc

-- the last number rises exactly at an event
rises_at : (last new : ℕ) (f : Result Frame FrameFault) → is_bad last f ≡ false → new ≡ last_behind last f → ltb last new ≡ is_event f
rises_at last new (Ok (Frame.Event e)) good is = ap (λ n. ltb last n) is ∙ not_true (ltb last e.seq) good
rises_at last new (Ok Frame.Info) good is = le-ltb last new (omega (arith, is))
rises_at last new (Ok (Frame.Faulty seq)) good is = absurd cc
rises_at last new (Ok Frame.Error) good is = absurd cc
rises_at last new (Ok Frame.Unknown) good is = absurd cc
rises_at last new (Err fault) good is = absurd cc

-- no event is of an empty DID
no_did : is_did [] ≡ false
no_did = no_colon [] refl

named_did : (did : List ℕ) → IsTrue (is_did did) → bytes_eq [] did ≡ false
named_did [] h = let e : true ≡ false = sym h ∙ no_did in absurd cc
named_did (c ∷ did) h = refl

and_no : (b c : Bool) → c ≡ false → (b && c) ≡ false
and_no true c h = h
and_no false c h = refl

pub about_named : (m : List ℕ) → IsBytes m → is_such_event_of has_blocks [] (frame_of m) ≡ false
about_named m bytes = of (frame_of m) refl
  where
    of : (f : Result Frame FrameFault) → frame_of m ≡ f → is_such_event_of has_blocks [] f ≡ false
    of (Ok (Frame.Event e)) is = and_no (has_blocks e.body) (bytes_eq [] e.did) (named_did e.did (events_formed e (frames_events m e bytes is)).did)
    of (Ok Frame.Info) is = refl
    of (Ok (Frame.Faulty seq)) is = refl
    of (Ok Frame.Error) is = refl
    of (Ok Frame.Unknown) is = refl
    of (Err fault) is = refl

-- one message more
pub taken_more : (input_tells tell : Bool) (repositories now : Repositories) (input left left_new : List ℕ) (place place_new : ℕ) (old new : Mirror) (events events_new : ℕ) (m : List ℕ) (step : Step)
    → HasTaken input_tells tell repositories input left place old events → (IsTrue input_tells → left ≡ length_prefixed m ++ left_new) → length m ≤ LONGEST_FEED_MESSAGE → IsBytes m
    → place_new ≡ place + length (length_prefixed m) → IsTaken tell now old new m step → (IsTrue tell → (did : List ℕ) → now did ≡ repositories did) → events_new ≡ events + counted (ltb old.last new.last)
    → HasTaken input_tells tell repositories input left_new place_new new events_new
taken_more input_tells tell repositories now input left left_new place place_new old new events events_new m step t left_is short bytes place_is taken same events_is =
    let last_is : last_seq_behind 0 t.messages ≡ old.last = sym t.last in
    let behind : is_bad (last_seq_behind 0 t.messages) (frame_of m) ≡ false = ap (λ n. is_bad n (frame_of m)) last_is ∙ taken.good in
    record {
      messages = t.messages ++ m ∷ [];
      good = good_more 0 t.messages m t.good short behind;
      split = λ told. t.split told ∙ ap (λ (l : List ℕ). with_length t.messages ++ l) (left_is told)
          ∙ sym (append_assoc (with_length t.messages) (length_prefixed m) left_new) ∙ ap (λ (l : List ℕ). l ++ left_new) (sym (frames_more t.messages m));
      place_is = place_is ∙ ap (λ n. n + length (length_prefixed m)) t.place_is ∙ sym (length-append (with_length t.messages) (length_prefixed m))
          ∙ ap length (sym (frames_more t.messages m));
      last = taken.last ∙ ap (λ n. last_behind n (frame_of m)) t.last ∙ sym (last_more 0 t.messages m);
      held = λ told did. held_more repositories did (Holding.Mapped None []) t.messages (held_by old did) m (held_by new did) (t.held told did)
          (subst (λ (r : Repositories). IsAfter r did m (held_by old did) (held_by new did)) (λ i d. same told d i) (taken.held did (λ h. told)));
      known = λ did. taken.known did ∙ ap (λ (b : Bool). b || is_such_event_of has_blocks did (frame_of m)) (t.known did) ∙ sym (tell_more did t.messages m);
      named = tell_more [] t.messages m ∙ ap (λ (b : Bool). b || is_such_event_of has_blocks [] (frame_of m)) t.named ∙ about_named m bytes;
      count = events_is ∙ ap (λ n. n + counted (ltb old.last new.last)) t.count
          ∙ ap (λ (b : Bool). event_count t.messages + counted b) (rises_at old.last new.last (frame_of m) taken.good taken.last) ∙ sym (count_more t.messages m);
    }

-- before the first
pub taken_none : (input_tells tell : Bool) (repositories : Repositories) (reader : MessageReader) (left : List ℕ) (mirror : Mirror) → held reader ≡ [] → reader.place ≡ 0 → mirror.last ≡ 0
    → ((did : List ℕ) → held_by mirror did ≡ at_start) → ((did : List ℕ) → is_known mirror did ≡ false) → HasTaken input_tells tell repositories left (coming reader left) reader.place mirror 0
taken_none input_tells tell repositories reader left mirror none place last start known = record {
  messages = [];
  good = tt;
  split = λ told. sym (ap (λ (l : List ℕ). l ++ left) none);
  place_is = place;
  last = last;
  held = λ told did. start did;
  known = known;
  named = refl;
  count = refl;
}

-- one event more where the last number rose
pub one_more : (last now : ℕ) → last < now → counted (ltb last now) ≡ 1
one_more last now h = ap counted (lt-ltb last now h)

pub none_more : (last now : ℕ) → now ≤ last → counted (ltb last now) ≡ 0
none_more last now h = ap counted (le-ltb last now h)
