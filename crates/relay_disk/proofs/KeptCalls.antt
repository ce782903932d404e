-- One call more among those that a disk in memory records.
use Rattle.std.proofs.Common.{◌≡◌, ℕ, ◌+◌, ◌≤◌, List, [], ◌∷◌, ◌++◌, length, take, drop, refl, sym, ◌∙◌, ap, subst, arith, append-nil, length-append, length-drop}
use Rattle.std.proofs.lemmas.List.{take-append-le, drop-append-le, take_all}
use Rattle.relay_disk.specs.Disk.{View, Goes, Same, IsAsBefore}
use Rattle.relay_disk.specs.Works.{Work, wrote, cut_to, synced, Moment, opened, next, after, view_of}
use Rattle.relay_disk.specs.Ranges.{AreInside}
use Rattle.relay_disk.proofs.Works.{after-push, not_done}
use Rattle.relay_disk.specs.Memory.{works_of, total}
use Rattle.relay_disk.specs.declared.call.Call.{Call}
use Rattle.relay_disk.specs.declared.call.Call.TheVariants.{Size, Read, Write, Cut, Sync}

-- a call and its bytes behind the others
pub works_of-append : (calls : List Call) (bytes : List ℕ) (call : Call) (more : List ℕ) → total calls ≡ length bytes
    → works_of (calls ++ call ∷ []) (bytes ++ more) ≡ works_of calls bytes ++ works_of (call ∷ []) more
works_of-append [] [] call more is = refl
works_of-append [] (b ∷ bytes) call more is = absurd (omega arith)
works_of-append (Size ∷ calls) bytes call more is = works_of-append calls bytes call more is
works_of-append (Read place len ∷ calls) bytes call more is = works_of-append calls bytes call more is
works_of-append (Write place len ∷ calls) bytes call more is =
    let front : take len (bytes ++ more) ≡ take len bytes = take-append-le len bytes more (omega arith) in
    let back : drop len (bytes ++ more) ≡ drop len bytes ++ more = drop-append-le len bytes more (omega arith) in
    (λ i. wrote place (front i) ∷ works_of (calls ++ call ∷ []) (back i))
    ∙ ap (λ (ws : List Work). wrote place (take len bytes) ∷ ws) (works_of-append calls (drop len bytes) call more (omega (arith, length-drop len bytes)))
works_of-append (Cut size ∷ calls) bytes call more is = ap (λ (ws : List Work). cut_to size ∷ ws) (works_of-append calls bytes call more is)
works_of-append (Sync ∷ calls) bytes call more is = ap (λ (ws : List Work). synced ∷ ws) (works_of-append calls bytes call more is)

pub total-append : (calls : List Call) (call : Call) → total (calls ++ call ∷ []) ≡ total calls + total (call ∷ [])
total-append [] call = omega arith
total-append (Size ∷ calls) call = total-append calls call
total-append (Read place len ∷ calls) call = total-append calls call
total-append (Write place len ∷ calls) call = omega (arith, total-append calls call)
total-append (Cut size ∷ calls) call = total-append calls call
total-append (Sync ∷ calls) call = total-append calls call

-- one call more was recorded
pub record IsRecorded (calls calls' : List Call) (bytes bytes' : List ℕ) (call : Call) (piece : List ℕ) : Type 0 where
  pub is_calls : calls' ≡ calls ++ call ∷ []
  pub is_bytes : bytes' ≡ bytes ++ piece
  pub kept : total calls ≡ length bytes
  pub call_kept : total (call ∷ []) ≡ length piece

pub recorded_by : {calls calls' : List Call} {bytes bytes' : List ℕ} {call : Call} {piece : List ℕ} → calls' ≡ calls ++ call ∷ [] → bytes' ≡ bytes ++ piece
    → total calls ≡ length bytes → total (call ∷ []) ≡ length piece → IsRecorded calls calls' bytes bytes' call piece
recorded_by is_calls is_bytes kept call_kept = record { is_calls = is_calls; is_bytes = is_bytes; kept = kept; call_kept = call_kept }

module _ {calls calls' : List Call} {bytes bytes' : List ℕ} {call : Call} {piece : List ℕ} (recorded : IsRecorded calls calls' bytes bytes' call piece) where
  pub still_kept : total calls' ≡ length bytes'
  still_kept =
      omega (arith, ap total recorded.is_calls, total-append calls call, ap length recorded.is_bytes, length-append bytes piece, recorded.kept, recorded.call_kept)

  works_after : works_of calls' bytes' ≡ works_of calls bytes ++ works_of (call ∷ []) piece
  works_after = (λ i. works_of (recorded.is_calls i) (recorded.is_bytes i)) ∙ works_of-append calls bytes call piece recorded.kept

  module _ (first : List ℕ) where
    abbrev old : Moment
    old = after (opened first) (works_of calls bytes)

    abbrev new : Moment
    new = after (opened first) (works_of calls' bytes')

    module _ (none : works_of (call ∷ []) piece ≡ []) where
      -- a call that changes nothing
      same_works : works_of calls' bytes' ≡ works_of calls bytes
      same_works = works_after ∙ ap (λ (ws : List Work). works_of calls bytes ++ ws) none ∙ append-nil (works_of calls bytes)

      pub same_moment : old ≡ new
      same_moment = ap (λ (ws : List Work). after (opened first) ws) (sym same_works)

      pub same_goes : (before now : ℕ) → before ≤ now → Goes Same (view_of first (works_of calls bytes) before) (view_of first (works_of calls' bytes') now)
      same_goes before now counts = subst (λ ws. Goes Same (view_of first (works_of calls bytes) before) (view_of first ws now)) (sym same_works)
          (not_done Same first (works_of calls bytes) before now counts (λ l. refl))

    module _ (work : Work) (is : works_of (call ∷ []) piece ≡ work ∷ []) where
      -- a call that changes something
      one_more : works_of calls' bytes' ≡ works_of calls bytes ++ work ∷ []
      one_more = works_after ∙ ap (λ (ws : List Work). works_of calls bytes ++ ws) is

      pub next_moment : next old work ≡ new
      next_moment = sym (ap (λ (ws : List Work). after (opened first) ws) one_more ∙ after-push (opened first) (works_of calls bytes) work)

      pub next_goes : (part : List ℕ → List ℕ → Type 0) (before now : ℕ) → Goes part (view_of first (works_of calls bytes) before) (view_of first (works_of calls bytes ++ work ∷ []) now)
          → Goes part (view_of first (works_of calls bytes) before) (view_of first (works_of calls' bytes') now)
      next_goes part before now goes = subst (λ ws. Goes part (view_of first (works_of calls bytes) before) (view_of first ws now)) (sym one_more) goes

-- what is said of a moment, after one call more
pub content_after : (before now : Moment) (content : List ℕ) → before ≡ now → content ≡ before.content → content ≡ now.content
content_after before now content is was = was ∙ ap (λ (m : Moment). m.content) is

pub settled_after : (before now : Moment) (settled : List ℕ) → before ≡ now → settled ≡ before.settled → settled ≡ now.settled
settled_after before now settled is was = was ∙ ap (λ (m : Moment). m.settled) is

pub inside_after : (before now : Moment) (size : ℕ) → before ≡ now → AreInside size before.since → AreInside size now.since
inside_after before now size is inside = subst (λ (m : Moment). AreInside size m.since) is inside

-- a write's bytes are all that it recorded
pub wrote_whole : (place : ℕ) (bytes : List ℕ) → works_of (Write place (length bytes) ∷ []) bytes ≡ wrote place bytes ∷ []
wrote_whole place bytes = ap (λ (l : List ℕ). wrote place l ∷ []) (take_all (length bytes) bytes (omega arith))

-- after a sync a crash leaves the content
pub synced_only : (before now : Moment) → next before synced ≡ now → (c : List ℕ) → now.may_leave c → c ≡ now.content
synced_only before now is = subst (λ (m : Moment). (c : List ℕ) → m.may_leave c → c ≡ m.content) is (λ c same. same)

-- where nothing was recorded, nothing has changed
pub nothing_recorded : (first : List ℕ) (calls calls' : List Call) (bytes bytes' : List ℕ) (faults : ℕ) → calls' ≡ calls → bytes' ≡ bytes
    → IsAsBefore (view_of first (works_of calls bytes) faults) (view_of first (works_of calls' bytes') faults)
nothing_recorded first calls calls' bytes bytes' faults same_calls same_bytes =
    let same : works_of calls' bytes' ≡ works_of calls bytes = (λ i. works_of (same_calls i) (same_bytes i)) in
    let view : List Work → View = λ ws. view_of first ws faults in
    subst (λ (ws : List Work). IsAsBefore (view (works_of calls bytes)) (view ws)) (sym same) (record {
      content = refl;
      may_leave = λ c. (λ left. left, λ left. left);
      moment = refl;
      left_since = λ t c. (λ left. left, λ left. left);
      faults = refl;
    })
