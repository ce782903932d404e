-- One call more.
use Rattle.std.proofs.Common.{◌≡◌, ◌⊎◌, inl, inr, ⊎_elim, ℕ, ◌+◌, ◌≤◌, List, [], ◌∷◌, ◌++◌, length, take, drop, refl, sym, ◌∙◌, ap, subst, arith, length-append, append_assoc, length-drop, ◌-◌}
use Rattle.std.proofs.lemmas.List.{take_all, take_at, drop_at, take_min, length-take, length-take-le, take-append-le, length_push}
use Rattle.std.proofs.lemmas.Bool.{cases_lt}
use Rattle.relay_disk.specs.Disk.{Goes, Torn, Cut, Same, written}
use Rattle.relay_disk.specs.Works.{Work, wrote, cut_to, synced, Moment, opened, next, after, LeftSince, view_of, possible}

pub after-push : (m : Moment) (works : List Work) (work : Work) → after m (works ++ work ∷ []) ≡ next (after m works) work
after-push m [] work = refl
after-push m (w ∷ works) work = after-push (next m w) works work

module _ (m : Moment) (works : List Work) (work : Work) where
  same_front : (k : ℕ) → k ≤ length works → take k (works ++ work ∷ []) ≡ take k works
  same_front k le = take-append-le k works (work ∷ []) le

  pub keeps : (t : ℕ) (c : List ℕ) → LeftSince m works t c → LeftSince m (works ++ work ∷ []) t c
  keeps t c left = (left.0, left.1, omega (arith, left.2, length_push works work), subst (λ ws. (after m ws).may_leave c) (sym (same_front left.0 left.2)) left.3)

  pub nothing_else : (t : ℕ) (c : List ℕ) → LeftSince m (works ++ work ∷ []) t c → LeftSince m works t c ⊎ (after m (works ++ work ∷ [])).may_leave c
  nothing_else t c left = elim (cases_lt (length works) left.0) [
    | inl past ↦ inr (subst (λ ws. (after m ws).may_leave c) (take_all left.0 (works ++ work ∷ []) (omega (arith, length_push works work, past))) left.3)
    | inr so_far ↦ inl (left.0, left.1, so_far, subst (λ ws. (after m ws).may_leave c) (same_front left.0 so_far) left.3)
  ]

-- a write that was done whole
pub torn_whole : (place : ℕ) (bytes old : List ℕ) → place ≤ length old → Torn place (length bytes) old (written place bytes old)
torn_whole place bytes old inside =
    let front = take place old in
    let long : length front ≡ place = length-take-le place old inside in
    let size : length (written place bytes old) ≡ place + length bytes + (length old - (place + length bytes)) = omega (arith, long, length-append (front ++ bytes) (drop (place + length bytes) old), length-append front bytes, length-drop (place + length bytes) old) in
    let ahead : length (front ++ bytes) ≡ place + length bytes = omega (arith, long, length-append front bytes) in
    record {
      before = ap (λ (l : List ℕ). take place l) (append_assoc front bytes (drop (place + length bytes) old)) ∙ take_at front (bytes ++ drop (place + length bytes) old) place long;
      after = drop_at (front ++ bytes) (drop (place + length bytes) old) (place + length bytes) ahead;
      no_shorter = omega (arith, size);
      no_longer = omega (arith, size);
    }

-- a cut that was done whole
pub cut_whole : (size : ℕ) (old : List ℕ) → Cut size old (take size old)
cut_whole size old = record {
  no_shorter = omega (arith, length-take size old);
  front = sym (take_min size old) ∙ ap (λ (n : ℕ). take n old) (sym (length-take size old));
}

module _ (part : List ℕ → List ℕ → Type 0) (first : List ℕ) (works : List Work) (before now : ℕ) (counts : before ≤ now) where
  abbrev m : Moment
  m = after (opened first) works

  -- a call of which nothing was done
  pub not_done : ((c : List ℕ) → part c c) → Goes part (view_of first works before) (view_of first works now)
  not_done none = record {
    content = none m.content;
    follows = λ c left. (c, left, none c);
    later = omega arith;
    nothing_else = λ t c le left. inl left;
    keeps = λ t c le left. left;
    counts = counts;
  }

  -- a call that was done
  pub done : (work : Work) → part m.content (next m work).content → ((c : List ℕ) → (next m work).may_leave c → (d : List ℕ) × m.may_leave d × part d c)
      → Goes part (view_of first works before) (view_of first (works ++ work ∷ []) now)
  done work whole follows =
      let is = after-push (opened first) works work in
      record {
        content = subst (λ (n : Moment). part m.content n.content) (sym is) whole;
        follows = λ c left. follows c (subst (λ (n : Moment). n.may_leave c) is left);
        later = omega (arith, length_push works work);
        nothing_else = λ t c le left. nothing_else (opened first) works work t c left;
        keeps = λ t c le left. keeps (opened first) works work t c left;
        counts = counts;
      }

module _ (first : List ℕ) (works : List Work) (before now : ℕ) (counts : before ≤ now) where
  abbrev held : Moment
  held = after (opened first) works

  is_possible : held.may_leave held.content
  is_possible = possible (opened first) works refl

  pub wrote_goes : (place : ℕ) (bytes : List ℕ) → place ≤ length held.content → Goes (Torn place (length bytes)) (view_of first works before) (view_of first (works ++ wrote place bytes ∷ []) now)
  wrote_goes place bytes inside =
      let whole = torn_whole place bytes held.content inside in
      done (Torn place (length bytes)) first works before now counts (wrote place bytes) whole
      (λ c left. ⊎_elim (λ same. (held.content, is_possible, subst (λ l. Torn place (length bytes) held.content l) (sym same) whole)) (λ from. from) left)

  pub cut_to_goes : (size : ℕ) → Goes (Cut size) (view_of first works before) (view_of first (works ++ cut_to size ∷ []) now)
  cut_to_goes size =
      let whole = cut_whole size held.content in
      done (Cut size) first works before now counts (cut_to size) whole
      (λ c left. ⊎_elim (λ same. (held.content, is_possible, subst (λ l. Cut size held.content l) (sym same) whole)) (λ from. from) left)

  pub synced_goes : Goes Same (view_of first works before) (view_of first (works ++ synced ∷ []) now)
  synced_goes = done Same first works before now counts synced refl (λ c same. (held.content, is_possible, same))
