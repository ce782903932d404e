-- The line of a good account has the journal's head.
use Rattle.std.proofs.Common.{◌≡◌, ℕ, inl, inr, Bool, true, false, ◌&&◌, ◌||◌, IsTrue, List, [], ◌∷◌, ◌++◌, length, Some, None, Result, Ok, Err, refl, ap, sym, ◌∙◌, subst, append_assoc}
use Rattle.std.proofs.lemmas.Bool.{or_parts}
use Rattle.std.proofs.lemmas.List.{append-nil}
use Rattle.std.proofs.lemmas.Slice.Eq.{bytes_eq-Decides}
use Rattle.std.specs.Prelude.{codes}
use Rattle.std.specs.List.{list_any}
use Rattle.std.specs.Str.{bytes_eq}
use Rattle.at_event.specs.Frames.{frame_of}
use Rattle.at_event.specs.declared.event.Body.{Body}
use Rattle.at_event.specs.declared.frame.Frame.{Frame}
use Rattle.at_event.specs.declared.frame.FrameFault.{FrameFault}
use Rattle.at_event.specs.declared.head.Head.{Head}
use Rattle.backfill.specs.Served.{served}
use Rattle.backfill.specs.Writing.{with_length}
use Rattle.mst_list.specs.declared.item.Item.{Item}
use Rattle.mst_node.specs.Trees.{root}
use Rattle.relay_row.specs.declared.row.Row.{Row}
use Rattle.account_state.specs.Folds.{account}
use Rattle.account_state.specs.declared.repo.Repo.{Repo}
use Rattle.relay_store.specs.Shown.{held_by}
use Rattle.mirror.specs.Held.{IsAfterBody, IsAfterFrame, IsHeld, IsHeldFrom}
use Rattle.relay_io.specs.Choices.{WhereElse}
use Rattle.mirror.specs.Repository.{Repositories}
use Rattle.mirror.specs.State.{map_held}
use Rattle.mirror.specs.Taken.{is_such_event_of}
use Rattle.at_event.specs.Bodies.{has_blocks}
use Rattle.mirror.specs.declared.holding.Holding.{Holding}
use Rattle.mirror_law.specs.Laws.{MayBeMirrored}
use Rattle.mirror_law.specs.Mirrored.{HoldsHead, sent}
use Rattle.mirror_law.proofs.Mirroring.{heads_hold}
use Rattle.mirror_law.proofs.Sent.{streams_sent}
use Rattle.mirror_law.proofs.Written.{written_sent}
use Rattle.mirror_run.specs.Heads.{AreLinesWhole, TellsHead, TellsHeads, head_line}
use Rattle.mirror_run.specs.Lines.{held_words, mirror_end_line, mirror_line}
use Rattle.mirror_run.specs.Mirrored.{AreLines, IsMirrorText}
use Rattle.mirror_run.specs.Stream.{AreGood, event_count, tell_of}
use Rattle.mirror_run.proofs.Chained.{are_frames}

-- ---- of an account that no message tells of, what is held stays

untold_body : (repositories : Repositories) (body : Body) (held : Holding) → has_blocks body && true ≡ false → IsAfterBody repositories body held held
untold_body repositories (Body.Commit c) held h = absurd cc
untold_body repositories (Body.Sync sync) held h = absurd cc
untold_body repositories Body.Identity held h = refl
untold_body repositories (Body.Account a) held h = refl

untold_where : (repositories : Repositories) (body : Body) (held : Holding) (own : Bool) → has_blocks body && own ≡ false → WhereElse own (IsAfterBody repositories body held held) (held ≡ held)
untold_where repositories body held true h = untold_body repositories body held h
untold_where repositories body held false h = refl

untold_frame : (repositories : Repositories) (did : List ℕ) (read : Result Frame FrameFault) (held : Holding) → is_such_event_of has_blocks did read ≡ false → IsAfterFrame repositories did read held held
untold_frame repositories did (Ok (Frame.Event e)) held h = untold_where repositories e.body held (bytes_eq did e.did) h
untold_frame repositories did (Ok (Frame.Faulty seq)) held h = refl
untold_frame repositories did (Ok Frame.Info) held h = refl
untold_frame repositories did (Ok Frame.Error) held h = refl
untold_frame repositories did (Ok Frame.Unknown) held h = refl
untold_frame repositories did (Err fault) held h = refl

untold : (repositories : Repositories) (did : List ℕ) (messages : List (List ℕ)) (held : Holding) → tell_of did messages ≡ false → IsHeldFrom repositories did held messages held
untold repositories did [] held h = refl
untold repositories did (m ∷ messages) held h =
    let both = or_parts (is_such_event_of has_blocks did (frame_of m)) (tell_of did messages) h in
    (held, untold_frame repositories did (frame_of m) held both.0, untold repositories did messages held both.1)

unmapped : (rev : ℕ) (map : List Item) → Holding.Mapped None [] ≡ Holding.Mapped (Some rev) map → ⊥
unmapped rev map h = absurd cc

true_else : (b : Bool) → (b ≡ false → ⊥) → b ≡ true
true_else true h = refl
true_else false h = absurd (h refl)

is_told : (repositories : Repositories) (did : List ℕ) (messages : List (List ℕ)) (head : Head) → HoldsHead repositories did messages head → tell_of did messages ≡ true
is_told repositories did messages head holds =
    true_else (tell_of did messages) (λ none. unmapped head.rev holds.map (holds.held (Holding.Mapped None []) (untold repositories did messages (Holding.Mapped None []) none)))

-- ---- its line

whole_more : (line before : List ℕ) → AreLinesWhole before → AreLinesWhole ((line ++ 10 ∷ []) ++ before)
whole_more line before (inl none) = inr (line, ap (λ (l : List ℕ). (line ++ 10 ∷ []) ++ l) none ∙ append-nil (line ++ 10 ∷ []))
whole_more line before (inr (front, is)) =
    inr ((line ++ 10 ∷ []) ++ front, ap (λ (l : List ℕ). (line ++ 10 ∷ []) ++ l) is ∙ sym (append_assoc (line ++ 10 ∷ []) front (10 ∷ [])))

line_whole : (did : List ℕ) (held : Holding) → mirror_line did held ≡ (did ++ (codes " " ++ held_words (map_held held))) ++ 10 ∷ []
line_whole did held =
    ap (λ (l : List ℕ). did ++ l) (sym (append_assoc (codes " ") (held_words (map_held held)) (10 ∷ [])))
    ∙ sym (append_assoc did (codes " " ++ held_words (map_held held)) (10 ∷ []))

-- the line of a DID stands among lines
record HasLine (repositories : Repositories) (messages : List (List ℕ)) (did lines : List ℕ) : Type 0 where
  held : Holding
  is_held : IsHeld repositories did messages held
  before : List ℕ
  after : List ℕ
  split : lines ≡ before ++ (mirror_line did held ++ after)
  whole : AreLinesWhole before

has_line : (tell : Bool) (repositories : Repositories) (messages : List (List ℕ)) (did : List ℕ) → IsTrue tell → (dids : List (List ℕ)) (lines : List ℕ) → AreLines tell repositories messages dids lines → list_any (bytes_eq did) dids ≡ true → HasLine repositories messages did lines
has_line tell repositories messages did tells [] lines are among = absurd cc
has_line tell repositories messages did tells (name ∷ dids) lines (held, rest, is_held, split, more) among =
    elim (bytes_eq did name) as (λ b. bytes_eq did name ≡ b → b || list_any (bytes_eq did) dids ≡ true → HasLine repositories messages did lines) [
      | true ↦ λ same among.
          let own : did ≡ name = (bytes_eq-Decides did name).0 same in
          let P : List ℕ → Type 0 = λ d. IsHeld repositories d messages held in
          record {
            held = held;
            is_held = subst P (sym own) (is_held tells);
            before = [];
            after = rest;
            split = split ∙ ap (λ (d : List ℕ). mirror_line d held ++ rest) (sym own);
            whole = inl refl;
          }
      | false ↦ λ differs among.
          let found = has_line tell repositories messages did tells dids rest more among in
          record {
            held = found.held;
            is_held = found.is_held;
            before = mirror_line name held ++ found.before;
            after = found.after;
            split = split ∙ ap (λ (l : List ℕ). mirror_line name held ++ l) found.split ∙ sym (append_assoc (mirror_line name held) found.before (mirror_line did found.held ++ found.after));
            whole = subst AreLinesWhole (ap (λ (l : List ℕ). l ++ found.before) (sym (line_whole name held))) (whole_more (did_words name held) found.before found.whole);
          }
    ] refl among
  where
    did_words : List ℕ → Holding → List ℕ
    did_words d x = d ++ (codes " " ++ held_words (map_held x))

head_is : (did : List ℕ) (head : Head) (map : List Item) (held : Holding) → held ≡ Holding.Mapped (Some head.rev) map → root map ≡ head.data_root → mirror_line did held ≡ head_line did head (length map)
head_is did head map held is rooted =
    ap (λ (x : Holding). mirror_line did x) is ∙ ap (λ (r : List ℕ). head_line did (record { rev = head.rev; data_root = r; commit = head.commit }) (length map)) rooted

placed : (lines before line after last : List ℕ) → lines ≡ before ++ (line ++ after) → lines ++ last ≡ before ++ (line ++ (after ++ last))
placed lines before line after last is =
    ap (λ (l : List ℕ). l ++ last) is ∙ append_assoc before (line ++ after) last ∙ ap (λ (l : List ℕ). before ++ l) (append_assoc line after last)

line_told : (repositories : Repositories) (did : List ℕ) (head : Head) (messages : List (List ℕ)) (lines last text : List ℕ) → HoldsHead repositories did messages head → HasLine repositories messages did lines → text ≡ lines ++ last
    → TellsHead did head text
line_told repositories did head messages lines last text holds found whole = record {
  map = holds.map;
  rooted = holds.rooted;
  before = found.before;
  after = found.after ++ last;
  split = whole ∙ placed lines found.before (head_line did head (length holds.map)) found.after last (found.split ∙ ap (λ (l : List ℕ). found.before ++ (l ++ found.after)) line);
  lines = found.whole;
}
  where
    line : mirror_line did found.held ≡ head_line did head (length holds.map)
    line = head_is did head holds.map found.held (holds.held found.held found.is_held) holds.rooted

-- ---- over what a replay writes

whole_sent : (J : List Row) (did : List ℕ) (repositories : Repositories) (s : List Item) → MayBeMirrored J J did repositories s → served (held_by J) (Some 0) ≡ sent J J
whole_sent J did repositories s may = streams_sent J J [] (sym (append-nil J)) may.journal.journal ∙ append-nil (sent J J)

head_held : (repositories : Repositories) (input : List ℕ) (messages : List (List ℕ)) → AreGood 0 messages → input ≡ with_length messages ++ []
    → (J : List Row) (did : List ℕ) (s : List Item) (head : Head) → MayBeMirrored J J did repositories s → (account did J).repo ≡ Repo.Good head → input ≡ with_length (served (held_by J) (Some 0))
    → HoldsHead repositories did messages head
head_held repositories input messages good split J did s head may known bytes =
    let P : List (List ℕ) → Type 0 = λ ms. HoldsHead repositories did ms head in
    let replayed : input ≡ with_length (sent J J) = bytes ∙ ap with_length (whole_sent J did repositories s may) in
    let same = written_sent J J [] messages (sym (append-nil J)) may.journal (are_frames messages 0 good) (sym (append-nil (with_length messages)) ∙ sym split ∙ replayed) in
    subst P (sym same) (heads_hold J J did repositories s head may known)

pub tells_heads : (tell : Bool) (repositories : Repositories) (input old new : List ℕ) (messages : List (List ℕ)) (text : List ℕ) → IsTrue tell → AreGood 0 messages → input ≡ with_length messages ++ []
    → IsMirrorText tell repositories messages text → new ≡ old ++ text → TellsHeads repositories input old new
tells_heads tell repositories input old new messages text tells good split is written J did s head may known bytes =
    let holds = head_held repositories input messages good split J did s head may known bytes in
    let found = has_line tell repositories messages did tells is.dids is.lines is.are (is.told did ∙ is_told repositories did messages head holds) in
    (text, written, line_told repositories did head messages is.lines (mirror_end_line (event_count messages)) text holds found is.whole)
