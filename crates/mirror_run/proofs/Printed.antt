-- What is written of a text that goes out in pieces.
use Rattle.std.proofs.Common.{◌≡◌, inl, inr, ℕ, List, [], ◌∷◌, ◌++◌, length, take, drop, refl, sym, ap, subst, ◌∙◌, arith, append_assoc, length-append, Less, true, false}
use Rattle.std.proofs.lemmas.List.{append-nil, take_at, take-append-drop}
use Rattle.at_cid.specs.Order.{key_cmp}
use Rattle.relay_io.specs.Streams.{AddsFront}
use Rattle.mirror.specs.State.{is_known}
use Rattle.mirror.specs.declared.keeping.Mirror.{Mirror}
use Rattle.run_base.specs.Ends.{IsFinished, IsUnwritten, Writes}
use Rattle.run_base.specs.declared.status.Status.{Status}
use Rattle.mirror_run.specs.Printing.{AreKnown, Moves, line_in, lines_in}
use Rattle.mirror_run.proofs.Walking.{IsWalking, lines_more, lines_split, next_left, none_left, starts}

-- a front was added that is all but this
adds : (old new done more text : List ℕ) → new ≡ old ++ done → text ≡ done ++ more → AddsFront old new text
adds old new done more text is split =
    (length done, omega (arith, ap length split, length-append done more), is ∙ ap (λ (l : List ℕ). old ++ l) (sym (ap (take (length done)) split ∙ take_at done more (length done) refl)))

-- and behind that a front of the next piece
adds_more : (old mid new done piece more text : List ℕ) → mid ≡ old ++ done → text ≡ done ++ (piece ++ more) → AddsFront mid new piece → AddsFront old new text
adds_more old mid new done piece more text is split h =
    adds old new (done ++ take h.0 piece) (drop h.0 piece ++ more) text
    (h.2 ∙ ap (λ (l : List ℕ). l ++ take h.0 piece) is ∙ append_assoc old done (take h.0 piece))
    (split ∙ ap (λ (l : List ℕ). done ++ (l ++ more)) (sym (take-append-drop h.0 piece))
    ∙ ap (λ (l : List ℕ). done ++ l) (append_assoc (take h.0 piece) (drop h.0 piece) more)
    ∙ sym (append_assoc done (take h.0 piece) (drop h.0 piece ++ more)))

-- nothing was written, and all of the text waits
pub none_moved : (old text : List ℕ) → Moves old old text text
none_moved old text = record { done = []; added = sym (append-nil old); split = refl }

pub all_moved : (old new text : List ℕ) → new ≡ old ++ text → Moves old new text []
all_moved old new text is = record { done = text; added = is; split = sym (append-nil text) }

-- The lines up to a name were written, or wait.
pub record IsPrinting (mirror : Mirror) (dids : List (List ℕ)) (last old now waiting : List ℕ) : Type 0 where
  pub front : List (List ℕ)
  pub others : List (List ℕ)
  pub walking : IsWalking mirror dids last front others
  pub moves : Moves old now (lines_in mirror front) waiting

pub printing_starts : (mirror : Mirror) (dids : List (List ℕ)) (old text : List ℕ) → is_known mirror [] ≡ false → text ≡ [] → AreKnown mirror dids → IsPrinting mirror dids [] old old text
printing_starts mirror dids old text named none are = record {
  front = [];
  others = dids;
  walking = starts mirror dids named are;
  moves = record { done = []; added = sym (append-nil old); split = sym none };
}

module _ (mirror : Mirror) (dids : List (List ℕ)) (last old now waiting : List ℕ) (p : IsPrinting mirror dids last old now waiting) where
  pub printed_all : ((other : List ℕ) → key_cmp last other ≡ Less → is_known mirror other ≡ false) → Moves old now (lines_in mirror dids) waiting
  printed_all none =
      subst (λ (ds : List (List ℕ)). Moves old now (lines_in mirror ds) waiting) (sym (none_left mirror dids last p.front p.others p.walking none)) p.moves

  all_lines : lines_in mirror dids ≡ p.moves.done ++ (waiting ++ lines_in mirror p.others)
  all_lines =
      ap (lines_in mirror) p.walking.split ∙ lines_split mirror p.front p.others ∙ ap (λ (l : List ℕ). l ++ lines_in mirror p.others) p.moves.split
      ∙ append_assoc p.moves.done waiting (lines_in mirror p.others)

  -- where no more was written
  pub printed_so_far : AddsFront old now (lines_in mirror dids)
  printed_so_far = adds old now p.moves.done (waiting ++ lines_in mirror p.others) (lines_in mirror dids) p.moves.added all_lines

  module _ (next : List ℕ) (known : is_known mirror next ≡ true) (above : key_cmp last next ≡ Less) (least : (other : List ℕ) → key_cmp last other ≡ Less → key_cmp other next ≡ Less → is_known mirror other ≡ false)
      (text : List ℕ) (text_is : text ≡ waiting ++ line_in mirror next) where
    front_is : lines_in mirror (p.front ++ next ∷ []) ≡ p.moves.done ++ text
    front_is =
        lines_more mirror p.front next ∙ ap (λ (l : List ℕ). l ++ line_in mirror next) p.moves.split ∙ append_assoc p.moves.done waiting (line_in mirror next)
        ∙ ap (λ (l : List ℕ). p.moves.done ++ l) (sym text_is)

    -- with the next line added, a piece was written
    pub printing_more : (new rest : List ℕ) → Moves now new text rest → IsPrinting mirror dids next old new rest
    printing_more new rest m =
        let n = next_left mirror dids last p.front next p.others p.walking known above least in
        record {
          front = p.front ++ next ∷ [];
          others = n.others;
          walking = n.walking;
          moves = record {
            done = p.moves.done ++ m.done;
            added = m.added ∙ ap (λ (l : List ℕ). l ++ m.done) p.moves.added ∙ append_assoc old p.moves.done m.done;
            split = front_is ∙ ap (λ (l : List ℕ). p.moves.done ++ l) m.split ∙ sym (append_assoc p.moves.done m.done rest);
          };
        }

    -- or a front of it
    pub printed_part : (new : List ℕ) → AddsFront now new text → AddsFront old new (lines_in mirror dids)
    printed_part new h =
        let n = next_left mirror dids last p.front next p.others p.walking known above least in
        adds_more old now new p.moves.done text (lines_in mirror n.others) (lines_in mirror dids) p.moves.added
        (ap (lines_in mirror) n.walking.split ∙ lines_split mirror (p.front ++ next ∷ []) n.others ∙ ap (λ (l : List ℕ). l ++ lines_in mirror n.others) front_is
        ∙ append_assoc p.moves.done text (lines_in mirror n.others)) h

-- the lines, and behind them the last one
module _ (lines waiting last old mid new : List ℕ) (m : Moves old mid lines waiting) where
  all_ended : new ≡ mid ++ (waiting ++ last) → new ≡ old ++ (lines ++ last)
  all_ended h =
      h ∙ ap (λ (l : List ℕ). l ++ (waiting ++ last)) m.added ∙ append_assoc old m.done (waiting ++ last)
      ∙ ap (λ (l : List ℕ). old ++ l) (sym (append_assoc m.done waiting last) ∙ ap (λ (l : List ℕ). l ++ last) (sym m.split))

  front_ended : AddsFront mid new (waiting ++ last) → AddsFront old new (lines ++ last)
  front_ended h =
      adds_more old mid new m.done (waiting ++ last) [] (lines ++ last) m.added
      (ap (λ (l : List ℕ). l ++ last) m.split ∙ append_assoc m.done waiting last ∙ ap (λ (l : List ℕ). m.done ++ l) (sym (append-nil (waiting ++ last)))) h

abbrev TextWritten : List ℕ → List ℕ → List ℕ → Status → Type 0
TextWritten text old new status = Writes status [] text old new

pub ended : (status : Status) (lines waiting last old mid new : List ℕ) → IsFinished status → Moves old mid lines waiting → Writes status [] (waiting ++ last) mid new → Writes status [] (lines ++ last) old new
ended status lines waiting last old mid new (inl is) m h =
    subst (TextWritten (lines ++ last) old new) (sym is) (all_ended lines waiting last old mid new m (subst (TextWritten (waiting ++ last) mid new) is h))
ended status lines waiting last old mid new (inr (inl is)) m h =
    subst (TextWritten (lines ++ last) old new) (sym is) (front_ended lines waiting last old mid new m (subst (TextWritten (waiting ++ last) mid new) is h))
ended status lines waiting last old mid new (inr (inr is)) m h =
    subst (TextWritten (lines ++ last) old new) (sym is) (front_ended lines waiting last old mid new m (subst (TextWritten (waiting ++ last) mid new) is h))

-- a front of the lines is one of the text
longer : (old new lines last : List ℕ) → AddsFront old new lines → AddsFront old new (lines ++ last)
longer old new lines last h = adds_more old old new [] lines last (lines ++ last) (sym (append-nil old)) refl h

pub unended : (status : Status) (lines last old new : List ℕ) → IsUnwritten status → AddsFront old new lines → Writes status [] (lines ++ last) old new
unended status lines last old new (inl is) front = subst (TextWritten (lines ++ last) old new) (sym is) (longer old new lines last front)
unended status lines last old new (inr is) front = subst (TextWritten (lines ++ last) old new) (sym is) (longer old new lines last front)

-- a front of nothing
pub nothing_added : (old text : List ℕ) → AddsFront old old text
nothing_added old text = adds old old [] text text (sym (append-nil old)) refl
