-- The input and the limit tell the answer.
use Rattle.std.proofs.Common.{◌≡◌, ◌≤◌, ◌<◌, ◌⊎◌, ℕ, ◌+◌, List, [], ◌++◌, length, take, drop, true, false, Option, Some, None, Result, Ok, Err, refl, sym, ap, subst, ◌∙◌, inl, inr, arith, length-append}
use Rattle.std.proofs.lemmas.List.{take_at, take-append-le, take-append-drop}
use Rattle.tape.specs.declared.record.Record.{Record}
use Rattle.tape.specs.declared.fault.TapeFault.{TapeFault}
use Rattle.tape.specs.declared.tape.Tape.{Tape}
use Rattle.tape.specs.Format.{record_bytes}
use Rattle.tape.specs.Shown.{Shown, nothing, found, bad_name, too_long, cut, Shows, NeedsMore}
use Rattle.tape.specs.Front.{needs_more}
use Rattle.tape.specs.Laws.{OneAnswer}
use Rattle.tape.specs.Reading.{held, coming, taken, MayAnswer, IsTold}
use Rattle.tape.proofs.Windows.{length_items}
use Rattle.tape.proofs.Lawful.{one_thing, more_bad, more_long}

abbrev Answer : Type 0
Answer = Result (Option Record) TapeFault

-- the answer to what the input shows
abbrev answer_to : ℕ → Shown → Answer
answer_to place nothing = Ok None
answer_to place (found host message rest) = Ok (Some (record { host = host; message = message; place = place }))
answer_to place bad_name = Err (TapeFault.BadName place)
answer_to place too_long = Err (TapeFault.TooLong place)
answer_to place cut = Err (TapeFault.Torn place)

-- a front within the limit tells, whatever follows
record IsSettled (old : Tape) (input : List ℕ) : Type 0 where
  front : List ℕ
  rest : List ℕ
  is : input ≡ front ++ rest
  within : old.place + length front ≤ old.most
  settled : (more : List ℕ) → NeedsMore (front ++ more) → ⊥

-- the answer is that to what the input shows, within the limit
record IsSeen (old : Tape) (input : List ℕ) (answer : Answer) : Type 0 where
  shown : Shown
  shows : Shows input shown
  is : answer ≡ answer_to old.place shown
  fits : (old.place + length input < old.most) ⊎ IsSettled old input

-- the input up to the limit is too short for an answer
record IsSpent (old : Tape) (input : List ℕ) (answer : Answer) : Type 0 where
  front : List ℕ
  rest : List ℕ
  split : input ≡ front ++ rest
  needs : NeedsMore front
  whole : old.place + length front ≡ old.most
  is : answer ≡ Err TapeFault.Budget

settled : (bytes : List ℕ) (s : Shown) → needs_more s ≡ false → Shows bytes s → NeedsMore bytes → ⊥
settled bytes s tells h (inl none) = let e : needs_more s ≡ true = ap needs_more (one_thing bytes s nothing h none) in let f : true ≡ false = sym e ∙ tells in absurd cc
settled bytes s tells h (inr is) = let e : needs_more s ≡ true = ap needs_more (one_thing bytes s cut h is) in let f : true ≡ false = sym e ∙ tells in absurd cc

taken_within : (tape : Tape) → taken tape ≤ tape.most
taken_within tape =
    let w = tape.window in
    omega (arith, tape.within, length_items w.room.items w.start w.end w.ordered w.inside)

module _ (old : Tape) (before : List ℕ) where
  record_seen : (r : Record) → MayAnswer old before (Ok (Some r)) → IsSeen old (coming old before) (Ok (Some r))
  record_seen r h =
      let bytes = record_bytes r.host r.message in
      record {
        shown = found r.host r.message (coming h.new h.after);
        shows = h.next;
        is = λ i. Ok (Some (record { host = r.host; message = r.message; place = h.placed.1 i }));
        fits = inr (record {
          front = bytes;
          rest = coming h.new h.after;
          is = h.next.1;
          within = omega (arith, h.placed.2, taken_within h.new, h.most);
          settled = λ more. settled (bytes ++ more) (found r.host r.message more) refl (h.placed.0, refl);
        });
      }

  ended_within : (new : Tape) (after : List ℕ) → coming new after ≡ coming old before → after ≡ [] → new.place ≡ old.place → new.most ≡ old.most → taken new < new.most → old.place + length (coming old before) < old.most
  ended_within new after stays ended place most short =
      omega (arith, ap length stays, ap length ended, length-append (held new) after, place, most, short)

  seen_or_spent : (a : Answer) → MayAnswer old before a → IsTold a → IsSeen old (coming old before) a ⊎ IsSpent old (coming old before) a
  seen_or_spent (Ok (Some r)) h told = inl (record_seen r h)
  seen_or_spent (Ok None) h told = inl (record {
    shown = nothing;
    shows = h.next.0;
    is = refl;
    fits = inl (ended_within h.new h.after h.next.1.0 h.next.1.1 h.placed h.most h.next.1.2);
  })
  seen_or_spent (Err (TapeFault.Torn place)) h told = inl (record {
    shown = cut;
    shows = h.next.0;
    is = λ i. Err (TapeFault.Torn (h.placed.0 i));
    fits = inl (ended_within h.new h.after h.next.1.0 h.next.1.1 h.placed.1 h.most h.next.1.2);
  })
  seen_or_spent (Err (TapeFault.BadName place)) h told = inl (record {
    shown = bad_name;
    shows = subst (λ (l : List ℕ). Shows l bad_name) h.next.1 (more_bad (held h.new) h.after h.next.0);
    is = λ i. Err (TapeFault.BadName (h.placed.0 i));
    fits = inr (record {
      front = held h.new;
      rest = h.after;
      is = sym h.next.1;
      within = omega (arith, h.placed.1, taken_within h.new, h.most);
      settled = λ more. settled (held h.new ++ more) bad_name refl (more_bad (held h.new) more h.next.0);
    });
  })
  seen_or_spent (Err (TapeFault.TooLong place)) h told = inl (record {
    shown = too_long;
    shows = subst (λ (l : List ℕ). Shows l too_long) h.next.1 (more_long (held h.new) h.after h.next.0);
    is = λ i. Err (TapeFault.TooLong (h.placed.0 i));
    fits = inr (record {
      front = held h.new;
      rest = h.after;
      is = sym h.next.1;
      within = omega (arith, h.placed.1, taken_within h.new, h.most);
      settled = λ more. settled (held h.new ++ more) too_long refl (more_long (held h.new) more h.next.0);
    });
  })
  seen_or_spent (Err TapeFault.Failed) h told = absurd told
  seen_or_spent (Err TapeFault.Memory) h told = absurd told
  seen_or_spent (Err TapeFault.Budget) h told = inr (record {
    front = held h.new;
    rest = h.after;
    split = sym h.next.2;
    needs = h.next.0;
    whole = omega (arith, h.next.1, h.placed, h.most);
    is = refl;
  })

-- a front of a front
longer_front : (a b x y : List ℕ) → a ++ x ≡ b ++ y → length b ≤ length a → a ≡ b ++ drop (length b) a
longer_front a b x y is le =
    let front : take (length b) a ≡ b = sym (take-append-le (length b) a x le) ∙ ap (λ (l : List ℕ). take (length b) l) is ∙ take_at b y (length b) refl in
    sym (take-append-drop (length b) a) ∙ ap (λ (l : List ℕ). l ++ drop (length b) a) front

not_both : (old : Tape) (input : List ℕ) (a b : Answer) → IsSeen old input a → IsSpent old input b → ⊥
not_both old input a b seen spent = elim seen.fits [
  | inl short ↦ absurd (omega (arith, short, spent.whole, ap length spent.split, length-append spent.front spent.rest))
  | inr s ↦
      let le : length s.front ≤ length spent.front = omega (arith, s.within, spent.whole) in
      let on = longer_front spent.front s.front spent.rest s.rest (sym spent.split ∙ s.is) le in
      s.settled (drop (length s.front) spent.front) (subst (λ (l : List ℕ). NeedsMore l) on spent.needs)
]

pub one : OneAnswer
one old before a b h k p q = elim (seen_or_spent old before a h p) [
  | inl s ↦ elim (seen_or_spent old before b k q) [
    | inl t ↦ s.is ∙ ap (λ (x : Shown). answer_to old.place x) (one_thing (coming old before) s.shown t.shown s.shows t.shows) ∙ sym t.is
    | inr t ↦ absurd (not_both old (coming old before) a b s t)
  ]
  | inr s ↦ elim (seen_or_spent old before b k q) [
    | inl t ↦ absurd (not_both old (coming old before) b a t s)
    | inr t ↦ s.is ∙ sym t.is
  ]
]
