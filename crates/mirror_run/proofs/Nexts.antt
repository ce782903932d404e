-- What follows where no message was at hand: no more bytes were to be had, or no more came; and where one was.
use Rattle.std.proofs.Common.{◌≡◌, ◌≢◌, ℕ, ◌+◌, List, [], ◌∷◌, ◌++◌, length, take, Option, Some, None, Result, Ok, Err, refl, sym, ap, subst, ◌∙◌, arith, append_assoc}
use Rattle.std.proofs.lemmas.List.{append-nil, take_at}
use Rattle.at_cid.specs.Lengths.{length_prefixed}
use Rattle.mirror_run.specs.declared.reader.StreamFault.{StreamFault}
use Rattle.mirror_run.specs.declared.reader.MessageReader.{MessageReader}
use Rattle.mirror_run.specs.Front.{too_long, Shows}
use Rattle.mirror_run.specs.Reading.{held, coming, HasNoMessage, HasNoPiece, IsEnd, IsNext}
use Rattle.mirror_run.specs.Stream.{EndsInMessage}
use Rattle.mirror_run.proofs.Fronts.{more_long, not_cut, not_long}

-- two fronts of one length are the same
same_front : (a b x y : List ℕ) → length a ≡ length b → a ++ x ≡ b ++ y → a ≡ b
same_front a b x y same is = sym (take_at a x (length a) refl) ∙ ap (λ (l : List ℕ). take (length a) l) is ∙ take_at b y (length a) (sym same)

some_long : (bytes : List ℕ) → Shows bytes too_long → bytes ≢ []
some_long bytes h none = not_empty (sym h.is ∙ none)
  where
    not_empty : {n : ℕ} {rest : List ℕ} → n ∷ rest ≡ [] → ⊥
    not_empty e = absurd cc

pub no_message_long : (bytes : List ℕ) → Shows bytes too_long → HasNoMessage bytes
no_message_long bytes h = record { some = some_long bytes h; none = λ m more is short. not_long bytes m more h is short }

abbrev pub err : StreamFault → Result ℕ StreamFault
err fault = Err fault

-- the reader at the start, with what was left then, and at a later piece
module _ (old now : MessageReader) (before between : List ℕ) (before_is : coming now between ≡ coming old before) (place_is : now.place ≡ old.place) (most_is : now.most ≡ old.most) where
  pub long_next : (new : MessageReader) (after : List ℕ) → Shows (held now) too_long → IsNext old before new after (Err StreamFault.Bad)
  long_next new after h = subst HasNoMessage before_is (no_message_long (coming now between) (more_long (held now) between h))

  pub message_next : (new : MessageReader) (m : List ℕ) → held now ≡ length_prefixed m ++ held new → IsNext old before new between (Ok (Some m))
  message_next new m is = sym before_is ∙ ap (λ (l : List ℕ). l ++ between) is ∙ append_assoc (length_prefixed m) (held new) between

  -- and behind a piece that was to be taken
  module _ (new : MessageReader) (after : List ℕ) (stays : coming new after ≡ coming now between) (ends : EndsInMessage (held now)) where
    pub no_piece : (fault : StreamFault) → HasNoPiece fault → (err fault ≡ err StreamFault.Limit → now.place + length (held now) ≡ now.most) → IsNext old before new after (Err fault)
    no_piece StreamFault.Failed h spent = tt
    no_piece StreamFault.Memory h spent = tt
    no_piece StreamFault.Limit h spent = record { part = held now; after = between; split = sym before_is; ends = ends; whole = omega (arith, spent refl, place_is, most_is) }
    no_piece StreamFault.Bad h spent = absurd h

    module _ (ended : after ≡ []) (none : length (held new) ≡ length (held now)) where
      all_held : held new ≡ coming old before
      all_held = sym (append-nil (held new)) ∙ ap (λ (l : List ℕ). held new ++ l) (sym ended) ∙ stays ∙ before_is

      held_same : held new ≡ held now
      held_same = same_front (held new) (held now) after between none stays

      torn : held new ≢ [] → HasNoMessage (held new)
      torn some = record { some = some; none = λ m more is short. not_cut (held new) m more (subst EndsInMessage (sym held_same) ends) is short }

      pub no_more : (result : Result (Option (List ℕ)) StreamFault) → IsEnd (held new) result → IsNext old before new after result
      no_more (Ok None) h = sym all_held ∙ h
      no_more (Ok (Some m)) h = absurd h
      no_more (Err StreamFault.Bad) h = subst HasNoMessage all_held (torn h)
      no_more (Err StreamFault.Failed) h = absurd h
      no_more (Err StreamFault.Memory) h = absurd h
      no_more (Err StreamFault.Limit) h = absurd h
