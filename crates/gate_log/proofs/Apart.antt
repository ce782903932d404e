-- A write, and a closed gate that is written behind it apart.
use Rattle.std.proofs.Common.{◌≡◌, ℕ, ◌+◌, ◌≤◌, List, [], ◌∷◌, ◌++◌, length, take, drop, sym, ◌∙◌, ap, arith, append_assoc, length-append}
use Rattle.std.proofs.lemmas.List.{take_at, take-take, drop_at, drop-drop, length-take-le}
use Rattle.relay_disk.specs.Disk.{View, Goes, IsDisk, Torn, written}
use Rattle.relay_disk.specs.Moments.{LeavesOnly, PartOf}
use Rattle.relay_disk.proofs.Moments.{joined, weaker, write_leaves}

-- a closed gate is one byte
pub one_more : (piece : List ℕ) → length (piece ++ 0 ∷ []) ≡ length piece + 1
one_more piece = omega (arith, length-append piece (0 ∷ []))

module _ (place n m : ℕ) (more : m ≡ n + 1) where
  at_end : place + m ≡ place + n + 1
  at_end = omega arith

  -- of both, the first
  pub torn_wider : (d c : List ℕ) → Torn place n d c → Torn place m d c
  torn_wider d c torn = record {
    before = torn.before;
    after = ap (λ (k : ℕ). drop k c) at_end ∙ sym (drop-drop 1 (place + n) c) ∙ ap (λ (l : List ℕ). drop 1 l) torn.after ∙ drop-drop 1 (place + n) d ∙ ap (λ (k : ℕ). drop k d) (sym at_end);
    no_shorter = torn.no_shorter;
    no_longer = omega (arith, torn.no_longer);
  }

  -- and one after the other
  pub torn_both : (d e c : List ℕ) → Torn place n d e → Torn (place + n) 1 e c → Torn place m d c
  torn_both d e c first second = record {
    before = front c ∙ ap (λ (l : List ℕ). take place l) second.before ∙ sym (front e) ∙ first.before;
    after = ap (λ (k : ℕ). drop k c) at_end ∙ second.after ∙ sym (drop-drop 1 (place + n) e) ∙ ap (λ (l : List ℕ). drop 1 l) first.after ∙ drop-drop 1 (place + n) d ∙ ap (λ (k : ℕ). drop k d) (sym at_end);
    no_shorter = omega (arith, first.no_shorter, second.no_shorter);
    no_longer = omega (arith, first.no_longer, second.no_longer);
  }
    where
      front : (l : List ℕ) → take place l ≡ take place (take (place + n) l)
      front l = sym (take-take place (place + n) l (omega arith))

  pub wider_moments : (old mid : View) → IsDisk old → IsDisk mid → Goes (Torn place n) old mid → LeavesOnly (PartOf (Torn place m) old) old mid
  wider_moments old mid disk disk_mid goes = weaker _ _ old mid (write_leaves place n old mid disk disk_mid goes) (λ c from. (from.0, from.1, torn_wider from.0 c from.2))

  pub apart_moments : (old mid new : View) → IsDisk old → IsDisk mid → Goes (Torn place n) old mid → LeavesOnly (PartOf (Torn (place + n) 1) mid) mid new → LeavesOnly (PartOf (Torn place m) old) old new
  apart_moments old mid new disk disk_mid goes run = joined _ old mid new (wider_moments old mid disk disk_mid goes)
      (weaker _ _ mid new run (λ c from. let back = goes.follows from.0 from.1 in (back.0, back.1, torn_both back.0 from.0 c back.2 from.2)))

-- both done whole
pub written_both : (place : ℕ) (piece old : List ℕ) → place ≤ length old → written (place + length piece) (0 ∷ []) (written place piece old) ≡ written place (piece ++ 0 ∷ []) old
written_both place piece old inside =
    let front = take place old in
    let k = place + length piece in
    let behind = drop k old in
    let long : length (front ++ piece) ≡ k = omega (arith, length-append front piece, length-take-le place old inside) in
    let kept : take k (written place piece old) ≡ front ++ piece = take_at (front ++ piece) behind k long in
    let end : k + 1 ≡ place + length (piece ++ 0 ∷ []) = omega (arith, length-append piece (0 ∷ [])) in
    let rest : drop (k + 1) (written place piece old) ≡ drop (place + length (piece ++ 0 ∷ [])) old =
    sym (drop-drop 1 k (written place piece old)) ∙ ap (λ (l : List ℕ). drop 1 l) (drop_at (front ++ piece) behind k long) ∙ drop-drop 1 k old ∙ ap (λ (j : ℕ). drop j old) end in
    (λ i. kept i ++ 0 ∷ [] ++ rest i) ∙ ap (λ (l : List ℕ). l ++ drop (place + length (piece ++ 0 ∷ [])) old) (append_assoc front piece (0 ∷ []))
