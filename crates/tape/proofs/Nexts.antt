-- What follows where no record was at hand: no more bytes were to be had, or no more came.
use Rattle.std.proofs.Common.{◌≡◌, ◌≢◌, ◌<◌, ℕ, ◌+◌, List, [], ◌++◌, length, take, Option, Some, None, Result, Ok, Err, refl, sym, ap, subst, ◌∙◌, inl, inr, arith}
use Rattle.std.proofs.lemmas.List.{append-nil, take_at}
use Rattle.tape.specs.declared.record.Record.{Record}
use Rattle.tape.specs.declared.fault.TapeFault.{TapeFault}
use Rattle.tape.specs.declared.tape.Tape.{Tape}
use Rattle.tape.specs.Shown.{cut, Shows, NeedsMore}
use Rattle.tape.specs.Reading.{held, coming, IsNext}
use Rattle.tape.specs.Steps.{IsEnd, HasNoPiece}

-- two fronts of one length are the same
same_front : (a b x y : List ℕ) → length a ≡ length b → a ++ x ≡ b ++ y → a ≡ b
same_front a b x y same is = sym (take_at a x (length a) refl) ∙ ap (λ (l : List ℕ). take (length a) l) is ∙ take_at b y (length a) (sym same)

needs_same : (a b : List ℕ) → a ≡ b → NeedsMore a → NeedsMore b
needs_same a b is h = subst (λ (l : List ℕ). NeedsMore l) is h

cut_unless_empty : (bytes : List ℕ) → NeedsMore bytes → bytes ≢ [] → Shows bytes cut
cut_unless_empty bytes (inl none) some = absurd (some none)
cut_unless_empty bytes (inr is) some = is

abbrev pub err : TapeFault → Result ℕ TapeFault
err fault = Err fault

-- the reader at the start, with what was left then; before it takes a piece; and behind that
module _ (old now new : Tape) (before between after : List ℕ) (before_is : coming now between ≡ coming old before) (stays : coming new after ≡ coming now between) (needs : NeedsMore (held now)) (place : new.place ≡ now.place) (most : new.most ≡ now.most) where
  pub no_piece : held new ≡ held now → (fault : TapeFault) → HasNoPiece fault → (err fault ≡ err TapeFault.Budget → now.place + length (held now) ≡ now.most) → IsNext old before new after (Err fault)
  no_piece same TapeFault.Failed h spent = (needs_same (held now) (held new) (sym same) needs, stays ∙ before_is)
  no_piece same TapeFault.Memory h spent = stays ∙ before_is
  no_piece same TapeFault.Budget h spent =
      (needs_same (held now) (held new) (sym same) needs, omega (arith, spent refl, ap length same, place, most), stays ∙ before_is)
  no_piece same (TapeFault.Torn p) h spent = absurd h
  no_piece same (TapeFault.BadName p) h spent = absurd h
  no_piece same (TapeFault.TooLong p) h spent = absurd h

  module _ (ended : after ≡ []) (none : length (held new) ≡ length (held now)) (unspent : now.place + length (held now) < now.most) where
    all_held : held new ≡ coming old before
    all_held = sym (append-nil (held new)) ∙ ap (λ (l : List ℕ). held new ++ l) (sym ended) ∙ stays ∙ before_is

    held_same : held new ≡ held now
    held_same = same_front (held new) (held now) after between none stays

    pub no_more : (result : Result (Option Record) TapeFault) → IsEnd new result → IsNext old before new after result
    no_more (Ok None) h = (sym all_held ∙ h, (stays ∙ before_is, ended, omega (arith, unspent, none, place, most)))
    no_more (Ok (Some r)) h = absurd h
    no_more (Err (TapeFault.Torn p)) h = (
      subst (λ (l : List ℕ). Shows l cut) all_held (cut_unless_empty (held new) (needs_same (held now) (held new) (sym held_same) needs) h.1),
      (stays ∙ before_is, ended, omega (arith, unspent, none, place, most)),
    )
    no_more (Err TapeFault.Failed) h = absurd h
    no_more (Err TapeFault.Memory) h = absurd h
    no_more (Err TapeFault.Budget) h = absurd h
    no_more (Err (TapeFault.BadName p)) h = absurd h
    no_more (Err (TapeFault.TooLong p)) h = absurd h
