-- While the lines of events are written.
use Rattle.std.proofs.Common.{◌≡◌, ◌≢◌, ℕ, Bool, List, [], ◌∷◌, ◌++◌, Option, Some, None, IsTrue, refl, sym, ap, ◌∙◌, subst, append_assoc, inr}
use Rattle.std.proofs.lemmas.Grind.{flat_map-append}
use Rattle.std.proofs.lemmas.List.{append-nil}
use Rattle.event_window.specs.Held.{Event, Held, event_above}
use Rattle.relay_io.specs.Streams.{AddsFront}
use Rattle.at_event.specs.Frames.{frame_of}
use Rattle.backfill.specs.Served.{rising_above}
use Rattle.backfill.proofs.Above.{above_first, above_none}
use Rattle.backfill.proofs.Framing.{front_of_first, front_of_second, front_whole}
use Rattle.json_lines.specs.Lines.{lines_read}
use Rattle.run_base.specs.Ends.{IsUnwritten, Writes}
use Rattle.run_base.specs.declared.status.Status.{Status}
use Rattle.run_base.proofs.Ended.{by_unwritten}
use Rattle.read_run.specs.Ends.{IsUnread}
use Rattle.read_run.specs.Lines.{AddsLines, AreLines, lines_above, lines_in}
use Rattle.read_run.proofs.Ending.{lines_unmet}

-- the lines of the events above one number are written, and those of the events above another one are left
pub record IsLining (told : Bool) (collection : Option (List ℕ)) (events : List Event) (first last : ℕ)
    (old now : List ℕ) : Type 0 where
  pub done : List Event
  pub split : rising_above first events ≡ done ++ rising_above last events
  pub bytes : IsTrue told → now ≡ old ++ lines_in collection done

pub lining_none : (told : Bool) (collection : Option (List ℕ)) (events : List Event) (first : ℕ) (old : List ℕ)
    → IsLining told collection events first first old old
lining_none told collection events first old = record { done = []; split = refl; bytes = λ t. sym (append-nil old) }

-- the lines of events and of others
lines_both : (collection : Option (List ℕ)) (events others : List Event)
    → lines_in collection (events ++ others) ≡ lines_in collection events ++ lines_in collection others
lines_both collection events others = flat_map-append (λ (e : Event). lines_read collection (frame_of e.1)) events
    others

module _ (told : Bool) (collection : Option (List ℕ)) (events : List Event) (first last : ℕ) (old now : List ℕ)
    (is : IsLining told collection events first last old now) where
  all_split : (n : ℕ) (message : List ℕ) → event_above last events ≡ Some (n, message)
      → rising_above first events ≡ (is.done ++ (n, message) ∷ []) ++ rising_above n events
  all_split n message next =
      is.split ∙ ap (λ (l : List Event). is.done ++ l) (above_first last events n message next) ∙ sym
      (append_assoc is.done ((n, message) ∷ []) (rising_above n events))

  lines_split : lines_above collection first events ≡ lines_in collection is.done ++ lines_above collection last events
  lines_split = ap (λ (l : List Event). lines_in collection l) is.split ∙ lines_both collection is.done
      (rising_above last events)

  next_split : (n : ℕ) (message : List ℕ) → event_above last events ≡ Some (n, message)
      → lines_above collection first events ≡ (lines_in collection is.done ++ lines_read collection
      (frame_of message)) ++ lines_above collection n events
  next_split n message next =
      lines_split ∙ ap (λ (l : List Event). lines_in collection is.done ++ lines_in collection l)
      (above_first last events n message next)
      ∙ sym (append_assoc (lines_in collection is.done) (lines_read collection (frame_of message))
      (lines_above collection n events))

  one_more : (n : ℕ) (message : List ℕ) → lines_in collection is.done ++ lines_read collection
      (frame_of message) ≡ lines_in collection (is.done ++ (n, message) ∷ [])
  one_more n message =
      sym (lines_both collection is.done ((n, message) ∷ []) ∙ ap (λ (l : List ℕ). lines_in collection is.done ++ l)
      (append-nil (lines_read collection (frame_of message))))

  pub lining_more : (n : ℕ) (message new : List ℕ) → event_above last events ≡ Some (n, message)
      → (IsTrue told → new ≡ now ++ lines_read collection (frame_of message))
      → IsLining told collection events first n old new
  lining_more n message new next writes = record {
    done = is.done ++ (n, message) ∷ [];
    split = all_split n message next;
    bytes = λ t. writes t ∙ ap (λ (l : List ℕ). l ++ lines_read collection (frame_of message)) (is.bytes t)
        ∙ append_assoc old (lines_in collection is.done) (lines_read collection (frame_of message)) ∙ ap
        (λ (l : List ℕ). old ++ l) (one_more n message);
  }

  pub lining_done : event_above last events ≡ None → IsTrue told → now ≡ old ++ lines_above collection first events
  lining_done none t =
      is.bytes t ∙ ap (λ (l : List Event). old ++ lines_in collection l)
      (sym (is.split ∙ ap (λ (l : List Event). is.done ++ l) (above_none last events none) ∙ append-nil is.done))

  pub lining_stopped : IsTrue told → AddsFront old now (lines_above collection first events)
  lining_stopped t =
      subst (λ (l : List ℕ). AddsFront old now l) (sym lines_split)
      (front_of_first old now (lines_in collection is.done) (lines_above collection last events)
      (front_whole old now (lines_in collection is.done) (is.bytes t)))

  pub lining_broken : (n : ℕ) (message new : List ℕ) → event_above last events ≡ Some (n, message)
      → (IsTrue told → AddsFront now new (lines_read collection (frame_of message)))
      → IsTrue told → AddsFront old new (lines_above collection first events)
  lining_broken n message new next front t =
      subst (λ (l : List ℕ). AddsFront old new l) (sym (next_split n message next))
      (front_of_first old new (lines_in collection is.done ++ lines_read collection (frame_of message))
      (lines_above collection n events)
      (front_of_second old now new (lines_in collection is.done) (lines_read collection (frame_of message)) (is.bytes t)
      (front t)))

  -- the lines are those of the events up to the last one, and no line in part
  pub lining_whole : IsTrue told → AddsLines collection events first last old now
  lining_whole t = record { written = is.done; split = is.split; bytes = is.bytes t }

  pub lining_upto : (n : ℕ) → n ≡ last → IsTrue told → AddsLines collection events first n old now
  lining_upto n same t = subst (λ (m : ℕ). AddsLines collection events first m old now) (sym same) (lining_whole t)

-- the lines of events, and what was written of them
abbrev Lined : Bool → Option (List ℕ) → Held → ℕ → List ℕ → List ℕ → Status → Type 0
Lined told collection held cursor old new status = (l : AreLines told held collection cursor old new status)
    × (IsTrue told → Writes status l.lines l.last old new)

module _ (told : Bool) (collection : Option (List ℕ)) (held : Held) (first last : ℕ) (old now : List ℕ)
    (is : IsLining told collection held.shown first last old now) where
  -- all of them
  pub lines_done : event_above last held.shown ≡ None → Lined told collection held first old now Status.Done
  lines_done none = (
    record {
      lines = [];
      last = lines_above collection first held.shown;
      split = refl;
      whole = λ t _. (last, lining_whole told collection held.shown first last old now is t);
    },
    λ t. lining_done told collection held.shown first last old now is none t,
  )

  -- those of the events that were read
  pub lines_unread : (status : Status) → IsUnread status → Lined told collection held first old now status
  lines_unread status un = (
    record {
      lines = lines_in collection is.done;
      last = lines_above collection last held.shown;
      split = lines_split told collection held.shown first last old now is;
      whole = λ t _. (last, lining_whole told collection held.shown first last old now is t);
    },
    λ t. lines_unmet status (lines_in collection is.done) (lines_above collection last held.shown) old now (inr un)
        (is.bytes t),
  )

  -- and a front of those of the next one
  pub lines_broken : (n : ℕ) (message new : List ℕ) (status : Status) → IsUnwritten status
      → event_above last held.shown ≡ Some (n, message)
      → (IsTrue told → Writes status [] (lines_read collection (frame_of message)) now new)
      → (status ≡ Status.Memory → new ≡ now) → Lined told collection held first old new status
  lines_broken n message new status un next wrote same =
      let front : IsTrue told → AddsFront now new (lines_read collection (frame_of message)) =
      λ t. by_unwritten (λ s. Writes s [] (lines_read collection (frame_of message)) now new → AddsFront now new
      (lines_read collection (frame_of message))) (λ f. f) (λ f. f) status un (wrote t) in (
        record {
          lines = [];
          last = lines_above collection first held.shown;
          split = refl;
          whole = λ t. by_unwritten (λ s. (s ≡ Status.Memory → new ≡ now) → s ≢ Status.WriteFault → (m : ℕ) × AddsLines
              collection held.shown first m old new)
              (λ _ not. absurd (not refl))
              (λ kept _. (
                last,
                subst (λ (w : List ℕ). AddsLines collection held.shown first last old w)
                    (sym (kept refl)) (lining_whole told collection held.shown first last old now is t),
              )) status un same;
        },
        λ t. let all = lining_broken told collection held.shown first last old now is n message new next front t in
            by_unwritten (λ s. Writes s [] (lines_above collection first held.shown) old new) all all status un,
      )

-- ---- disks that weren't opened

-- no line was written
pub adds_no_line : (collection : Option (List ℕ)) (events : List Event) (seq : ℕ) (old : List ℕ)
    → AddsLines collection events seq seq old old
adds_no_line collection events seq old = record { written = []; split = refl; bytes = sym (append-nil old) }

abbrev pub lines_unopened : {told : Bool} {held : Held} {collection : Option (List ℕ)} {cursor : ℕ} {old : List ℕ}
    {status : Status} → AreLines told held collection cursor old old status
lines_unopened {held = held} {collection = collection} {cursor = cursor} {old = old} = record {
  lines = [];
  last = lines_above collection cursor held.shown;
  split = refl;
  whole = λ t _. (cursor, adds_no_line collection held.shown cursor old);
}
