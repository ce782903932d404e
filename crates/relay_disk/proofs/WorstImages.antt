-- The images that a disk in memory offers are what a crash may leave.
use Rattle.std.proofs.Common.{◌≡◌, ◌⊎◌, inl, inr, ⊎_elim, ℕ, zero, suc, ◌+◌, ◌-◌, ◌≤◌, ◌<◌, Bool, true, false, cond, ◌||◌, ◌&&◌, nat_le, nat_lt, List, [], ◌∷◌, ◌++◌, length, take, drop, get_or, refl, sym, ◌∙◌, ap, subst, arith, length-drop}
use Rattle.std.proofs.lemmas.List.{length-take-le}
use Rattle.std.proofs.lemmas.Bool.{or_cases, or_parts}
use Rattle.std.proofs.lemmas.Bool.Decides.{nat_tests}
use Rattle.relay_disk.specs.Works.{Work, wrote, cut_to, synced, Moment, opened, next, after, possible}
use Rattle.relay_disk.specs.Ranges.{IsInRange, IsUnsynced, AreInside}
use Rattle.relay_disk.specs.Memory.{works_of, total, covered_after, inverted_from}
use Rattle.relay_disk.specs.Worst.{IsInverted, IsWorst}
use Rattle.relay_disk.specs.declared.call.Call.{Call}
use Rattle.relay_disk.specs.declared.call.Call.TheVariants.{Size, Read, Write, Cut, Sync}
use Rattle.relay_disk.proofs.RangeLaws.{parts_are_within}
use Rattle.relay_disk.proofs.AnyBytes.{ranges_left, synced_left}
use Rattle.relay_disk.proofs.SinceSync.{from_sync, unsynced_since}

covered_left : (i : ℕ) (works more : List Work) → IsInRange i works → IsInRange i (works ++ more)
covered_left i [] more is = absurd is
covered_left i (wrote place bytes ∷ works) more is = ⊎_elim (λ here. inl here) (λ later. inr (covered_left i works more later)) is
covered_left i (cut_to size ∷ works) more is = covered_left i works more is
covered_left i (synced ∷ works) more is = covered_left i works more is

covered_right : (i : ℕ) (works more : List Work) → IsInRange i more → IsInRange i (works ++ more)
covered_right i [] more is = is
covered_right i (wrote place bytes ∷ works) more is = inr (covered_right i works more is)
covered_right i (cut_to size ∷ works) more is = covered_right i works more is
covered_right i (synced ∷ works) more is = covered_right i works more is

covered_split : (i : ℕ) (works more : List Work) → IsInRange i (works ++ more) → IsInRange i works ⊎ IsInRange i more
covered_split i [] more is = inr is
covered_split i (wrote place bytes ∷ works) more is = ⊎_elim (λ here. inl (inl here)) (λ later. ⊎_elim (λ one. inl (inr one)) (λ two. inr two) (covered_split i works more later)) is
covered_split i (cut_to size ∷ works) more is = covered_split i works more is
covered_split i (synced ∷ works) more is = covered_split i works more is

-- the test says whether a write covers the place
record Agrees (i : ℕ) (test : Bool) (works : List Work) : Type 0 where
  yes : test ≡ true → IsInRange i works
  no : test ≡ false → IsInRange i works → ⊥

within_yes : (i place len : ℕ) → (nat_le place i && nat_lt i (place + len)) ≡ true → (place ≤ i) × (i < place + len)
within_yes i place len is = grind (arith, nat_tests)

within_no : (i place len : ℕ) → (nat_le place i && nat_lt i (place + len)) ≡ false → (place ≤ i) × (i < place + len) → ⊥
within_no i place len is both = grind (arith, nat_tests)

agrees-push : (i place len : ℕ) (bytes : List ℕ) (test : Bool) (works : List Work) → length bytes ≡ len → Agrees i test works
    → Agrees i (test || (nat_le place i && nat_lt i (place + len))) (works ++ wrote place bytes ∷ [])
agrees-push i place len bytes test works long so_far = record {
  yes = λ is. ⊎_elim
      (λ before. covered_left i works (wrote place bytes ∷ []) (so_far.yes before))
      (λ here. let found = within_yes i place len here in covered_right i works (wrote place bytes ∷ []) (inl (found.0, omega (arith, found.1, long))))
      (or_cases test (nat_le place i && nat_lt i (place + len)) is);
  no = λ is covered.
      let neither = or_parts test (nat_le place i && nat_lt i (place + len)) is in
      ⊎_elim (λ before. so_far.no neither.0 before)
      (⊎_elim (λ here. within_no i place len neither.1 (here.0, omega (arith, here.1, long))) (λ none. none))
      (covered_split i works (wrote place bytes ∷ []) covered);
}

agrees-cut : (i size : ℕ) (test : Bool) (works : List Work) → Agrees i test works → Agrees i test (works ++ cut_to size ∷ [])
agrees-cut i size test works so_far = record {
  yes = λ is. covered_left i works (cut_to size ∷ []) (so_far.yes is);
  no = λ is covered. ⊎_elim (λ before. so_far.no is before) (λ none. none) (covered_split i works (cut_to size ∷ []) covered);
}

agrees_after : (i : ℕ) (calls : List Call) (bytes : List ℕ) (m : Moment) (test : Bool) → total calls ≡ length bytes → Agrees i test m.since
    → Agrees i (covered_after test i calls) (after m (works_of calls bytes)).since
agrees_after i [] bytes m test kept so_far = so_far
agrees_after i (Size ∷ calls) bytes m test kept so_far = agrees_after i calls bytes m test kept so_far
agrees_after i (Read place len ∷ calls) bytes m test kept so_far = agrees_after i calls bytes m test kept so_far
agrees_after i (Write place len ∷ calls) bytes m test kept so_far =
    agrees_after i calls (drop len bytes) (next m (wrote place (take len bytes))) (test || (nat_le place i && nat_lt i (place + len))) (omega (arith, length-drop len bytes))
    (agrees-push i place len (take len bytes) test m.since (length-take-le len bytes (omega arith)) so_far)
agrees_after i (Cut size ∷ calls) bytes m test kept so_far = agrees_after i calls bytes (next m (cut_to size)) test kept (agrees-cut i size test m.since so_far)
agrees_after i (Sync ∷ calls) bytes m test kept so_far = agrees_after i calls bytes (next m synced) false kept (record { yes = λ is. absurd (cc); no = λ is covered. covered })

length-inverted_from : (k : ℕ) (calls : List Call) (bytes : List ℕ) → length (inverted_from k calls bytes) ≡ length bytes
length-inverted_from k calls [] = refl
length-inverted_from k calls (byte ∷ bytes) = omega (arith, length-inverted_from (k + 1) calls bytes)

get_or-inverted_from : (k : ℕ) (calls : List Call) (bytes : List ℕ) (i : ℕ) → i < length bytes
    → get_or (inverted_from k calls bytes) i 0 ≡ cond (covered_after false (k + i) calls) (255 - get_or bytes i 0) (get_or bytes i 0)
get_or-inverted_from k calls [] i short = absurd (omega arith)
get_or-inverted_from k calls (byte ∷ bytes) zero short = let at : k ≡ k + 0 = omega arith in ap (λ (j : ℕ). cond (covered_after false j calls) (255 - byte) byte) at
get_or-inverted_from k calls (byte ∷ bytes) (suc i) short =
    let at : k + 1 + i ≡ k + suc i = omega arith in
    get_or-inverted_from (k + 1) calls bytes i (omega arith) ∙ ap (λ (j : ℕ). cond (covered_after false j calls) (255 - get_or bytes i 0) (get_or bytes i 0)) at

cond_yes : (test : Bool) (works : List Work) (i x y : ℕ) → Agrees i test works → IsInRange i works → cond test x y ≡ x
cond_yes true works i x y agrees covered = refl
cond_yes false works i x y agrees covered = absurd (agrees.no refl covered)

cond_no : (test : Bool) (works : List Work) (i x y : ℕ) → Agrees i test works → (IsInRange i works → ⊥) → cond test x y ≡ y
cond_no true works i x y agrees out = absurd (out (agrees.yes refl))
cond_no false works i x y agrees out = refl

zero-plus : (i : ℕ) → i ≡ 0 + i
zero-plus i = omega arith

module _ (first : List ℕ) (calls : List Call) (pieces : List ℕ) where
  abbrev m : Moment
  m = after (opened first) (works_of calls pieces)

  whole : m ≡ after (opened m.settled) m.since
  whole = from_sync (works_of calls pieces) (opened first) refl

  pub content_left : m.may_leave m.content
  content_left = possible (opened first) (works_of calls pieces) refl

  none : IsUnsynced m.since
  none = unsynced_since (works_of calls pieces) (opened first) tt

  pub settled_left : m.may_leave m.settled
  settled_left = subst (λ (n : Moment). n.may_leave m.settled) (sym whole) (synced_left m.settled m.since none)

  pub inverted_left : AreInside (length m.settled) m.since → (image : List ℕ) → IsInverted m.content m.since image → m.may_leave image
  inverted_left inside image inverted =
      let from = after (opened m.settled) m.since in
      let possible_from : from.may_leave m.content = subst (λ (n : Moment). n.may_leave m.content) whole content_left in
      let within = parts_are_within m.settled m.since none inside m.content possible_from in
      let left : from.may_leave image = ranges_left m.settled m.since none inside image (record {
        no_shorter = omega (arith, inverted.size, within.no_shorter);
        no_longer = omega (arith, inverted.size, within.no_longer);
        same = λ i short here out. inverted.elsewhere i (omega (arith, inverted.size, short)) out ∙ within.same i (omega (arith, inverted.size, short)) here out;
      }) in
      subst (λ (n : Moment). n.may_leave image) (sym whole) left

  pub is_inverted : total calls ≡ length pieces → IsInverted m.content m.since (inverted_from 0 calls m.content)
  is_inverted kept =
      let agrees : (i : ℕ) → Agrees i (covered_after false (0 + i) calls) m.since =
      λ i. subst (λ j. Agrees i (covered_after false j calls) m.since) (zero-plus i) (agrees_after i calls pieces (opened first) false kept (record { yes = λ is. absurd (cc); no = λ is covered. covered })) in
      record {
        size = length-inverted_from 0 calls m.content;
        covered = λ i short covered. get_or-inverted_from 0 calls m.content i short ∙ cond_yes (covered_after false (0 + i) calls) m.since i _ _ (agrees i) covered;
        elsewhere = λ i short out. get_or-inverted_from 0 calls m.content i short ∙ cond_no (covered_after false (0 + i) calls) m.since i _ _ (agrees i) out;
      }

  -- image i of those, and a crash may leave it
  pub record IsOffered (i : ℕ) (image : List ℕ) : Type 0 where
    pub worst : IsWorst i m image
    pub left : m.may_leave image

  pub first_offered : (i : ℕ) (image : List ℕ) → i ≡ 0 → image ≡ m.content → IsOffered i image
  first_offered i image is same = record {
    worst = record { content = λ _. same; settled = λ one. absurd (omega arith); inverted = λ two. absurd (omega arith) };
    left = subst m.may_leave (sym same) content_left;
  }

  pub second_offered : (i : ℕ) (image : List ℕ) → i ≡ 1 → image ≡ m.settled → IsOffered i image
  second_offered i image is same = record {
    worst = record { content = λ none. absurd (omega arith); settled = λ _. same; inverted = λ two. absurd (omega arith) };
    left = subst m.may_leave (sym same) settled_left;
  }

  pub third_offered : (i : ℕ) (image : List ℕ) → i ≡ 2 → total calls ≡ length pieces → AreInside (length m.settled) m.since → image ≡ inverted_from 0 calls m.content → IsOffered i image
  third_offered i image is kept inside same =
      let inverted = subst (λ l. IsInverted m.content m.since l) (sym same) (is_inverted kept) in
      record {
        worst = record { content = λ none. absurd (omega arith); settled = λ one. absurd (omega arith); inverted = λ _. inverted };
        left = inverted_left inside image inverted;
      }
