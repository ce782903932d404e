-- No question is asked twice.
use Rattle.std.proofs.Common.{◌≡◌, ℕ, Bool, true, false, not, List, [], ◌∷◌, Option, Some, None, refl, sym, cond, subst}
use Rattle.std.specs.Prelude.{nat_le, option_map}
use Rattle.std.specs.Option.{is_some}
use Rattle.at_event.specs.Refusals.{code_of}
use Rattle.at_event.specs.declared.event.Body.{Body}
use Rattle.at_event.specs.declared.frame.Frame.{Frame}
use Rattle.at_event.specs.declared.refusal.Refusal.{Refusal}
use Rattle.relay_row.specs.Rules.{loses}
use Rattle.relay_row.specs.declared.fetched.Fetched.{Fetched}
use Rattle.account_state.specs.State.{State}
use Rattle.relay_core.specs.Laws.{is_open}
use Rattle.relay_core.specs.Table.{TableLine, told, asked, Walk, waits, refuses, passes, walk, walk_past, next_at, next_of, refused, after_fetch, event_lines, faulty_lines, body_lines}
use Rattle.relay_core.specs.declared.answers.Answers.{Answers}
use Rattle.relay_core.specs.declared.answers.Question.{Question}
use Rattle.relay_core.specs.declared.decision.Next.{Next}
use Rattle.relay_core.specs.declared.decision.Pass.{Pass}

-- a line that has no answer is an open question
IsOpenLine : Answers → TableLine → Type 0
IsOpenLine x (told o) = Unit {0}
IsOpenLine x (asked q o) = o ≡ None → is_open q x ≡ true

AreOpenLines : Answers → List TableLine → Type 0
AreOpenLines x [] = Unit {0}
AreOpenLines x (line ∷ lines) = IsOpenLine x line × AreOpenLines x lines

past_waits : (o : Option Refusal) (w : Walk) (q : Question) → walk_past o w ≡ waits q → w ≡ waits q
past_waits None w q h = h
past_waits (Some r) w q h = cc

walk_open : (x : Answers) (lines : List TableLine) (q : Question) → AreOpenLines x lines → walk lines ≡ waits q → is_open q x ≡ true
unfolding AreOpenLines IsOpenLine
walk_open x [] q h w = cc
walk_open x (told o ∷ lines) q h w = walk_open x lines q h.1 (past_waits o (walk lines) q w)
walk_open x (asked p None ∷ lines) q h w =
    let same : p ≡ q = cc in
    let P : Question → Type 0 = λ p. is_open p x ≡ true in
    subst P same (h.0 refl)
walk_open x (asked p (Some o) ∷ lines) q h w = walk_open x lines q h.1 (past_waits o (walk lines) q w)

mapped_none : {A B : Type 0} (f : A → B) (o : Option A) → option_map f o ≡ None → not (is_some o) ≡ true
mapped_none f None h = refl
mapped_none f (Some x) h = cc

refresh_none : (b : Bool) → ◌≡◌ {A = Option (Option Refusal)} (cond b (Some None) None) None → not b ≡ true
refresh_none true h = cc
refresh_none false h = refl

body_open : (a : State) (body : Body) (x : Answers) → AreOpenLines x (body_lines a body x)
unfolding AreOpenLines IsOpenLine
body_open a (Body.Commit c) x = (mapped_none _ x.home, (tt, (tt, (mapped_none _ x.opened, (tt, (mapped_none _ x.verdict, (mapped_none _ x.linked, tt)))))))
body_open a (Body.Sync s) x = (mapped_none _ x.home, (tt, (tt, (mapped_none _ x.opened, (tt, (mapped_none _ x.verdict, tt))))))
body_open a Body.Identity x = (refresh_none x.refreshed, (mapped_none _ x.home, (tt, tt)))
body_open a (Body.Account b) x = (mapped_none _ x.home, tt)

fetch_open : (r : Refusal) (f : Option Fetched) (q : Question) → after_fetch r f ≡ Next.Ask q → (q ≡ Question.Fetch) × (not (is_some f) ≡ true)
fetch_open r None q h = (cc, refl)
fetch_open r (Some Fetched.NotAsked) q h = (cc, cc)
fetch_open r (Some Fetched.Absent) q h = (cc, cc)
fetch_open r (Some (Fetched.Refused n)) q h = (cc, cc)
fetch_open r (Some (Fetched.Whole w)) q h = (cc, cc)

refused_open : (r : Refusal) (x : Answers) (q : Question) → refused r x.fetched ≡ Next.Ask q → is_open q x ≡ true
refused_open r x q =
    elim (loses (code_of r)) as (λ b. cond b (after_fetch r x.fetched) (Next.Done (record { refusal = Some r; held = false; gives = false })) ≡ Next.Ask q → is_open q x ≡ true) [
      | true ↦ λ h.
          let both = fetch_open r x.fetched q h in
          let P : Question → Type 0 = λ p. is_open p x ≡ true in
          subst P (sym both.0) both.1
      | false ↦ λ h. cc
    ]

at_open : (w : Walk) (a : State) (body : Body) (x : Answers) (q : Question) → ((p : Question) → w ≡ waits p → is_open p x ≡ true) → next_at w a body x.fetched ≡ Next.Ask q → is_open q x ≡ true
at_open (waits p) a body x q h e =
    let same : p ≡ q = cc in
    let P : Question → Type 0 = λ p. is_open p x ≡ true in
    subst P same (h p refl)
at_open (refuses r) a body x q h e = refused_open r x q e
at_open passes a body x q h e = cc

-- no question is asked that has an answer
pub ask_open : (cursor : ℕ) (a : State) (f : Frame) (x : Answers) (q : Question) → next_of cursor a f x ≡ Next.Ask q → is_open q x ≡ true
unfolding AreOpenLines IsOpenLine
ask_open cursor a (Frame.Event e) x q =
    elim (nat_le e.seq cursor) as (λ b. cond b (Next.Pass Pass.Old) (next_at (walk (event_lines a e x)) a e.body x.fetched) ≡ Next.Ask q → is_open q x ≡ true) [
      | true ↦ λ h. cc
      | false ↦ at_open (walk (event_lines a e x)) a e.body x q (λ p. walk_open x (event_lines a e x) p (mapped_none _ x.moment, (tt, body_open a e.body x)))
    ]
ask_open cursor a (Frame.Faulty seq) x q =
    elim (nat_le seq cursor) as (λ b. cond b (Next.Pass Pass.Old) (next_at (walk (faulty_lines x)) a Body.Identity x.fetched) ≡ Next.Ask q → is_open q x ≡ true) [
      | true ↦ λ h. cc
      | false ↦ at_open (walk (faulty_lines x)) a Body.Identity x q (λ p. walk_open x (faulty_lines x) p (mapped_none _ x.moment, (tt, tt)))
    ]
ask_open cursor a Frame.Info x q = λ h. cc
ask_open cursor a Frame.Error x q = λ h. cc
ask_open cursor a Frame.Unknown x q = λ h. cc
