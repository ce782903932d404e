-- Steps of a count.
use Rattle.std.proofs.Common.{◌≡◌, ℕ, zero, ◌+◌, ◌-◌, List, [], ◌∷◌, ◌++◌, length, refl, sym, ap, subst, Option, Some, None, Result, Ok, Err, arith, length-append}
use Rattle.std.specs.FinMap as map
use Rattle.std.specs.FinMap.{FinMap}
use Rattle.at_cid.specs.Order.{key_cmp}
use Rattle.at_cid.specs.Memory.{Gives}
use Rattle.mst_list.specs.declared.item.Item.{Item}
use Rattle.mst_list.specs.declared.item.Item.TheVariants.{Key}
use Rattle.mst_node.specs.declared.entry.Entry.{Entry}
use Rattle.mst_node.specs.Nodes.{Node}
use Rattle.mst_node.specs.NodeFaults.{next_bound}
use Rattle.mst_node.specs.TreeReading.{go_on, parts_of, part_at, rights_of}
use Rattle.mst_node.specs.FirstFault.{in_whole}
use Rattle.mst_node.proofs.Steps.{at_none, at_zero}
use Rattle.mst_whole.specs.Counting.{count, link_at_fault}
use Rattle.mst_whole.specs.declared.counting.CountFault.{CountFault}

-- what was counted was read
pub counted : (r : Result (List Item) (List ℕ)) (n : ℕ) → count r ≡ Ok n → (F : List Item) × (r ≡ Ok F) × (length F ≡ n)
counted (Ok F) n e = (F, refl, cc)
counted (Err c) n e = absurd (cc)

pub uncounted : (r : Result (List Item) (List ℕ)) (c : List ℕ) → count r ≡ Err c → r ≡ Err c
uncounted (Ok F) c e = absurd (cc)
uncounted (Err d) c e = let same : d ≡ c = cc in ap Err same

-- so many more
abbrev pub with_more : ℕ → Result ℕ (List ℕ) → Result ℕ (List ℕ)
with_more k r = go_on r (λ n. Ok (k + n))

pub none_more : (r : Result ℕ (List ℕ)) → with_more 0 r ≡ r
none_more (Ok n) = ap Ok (omega arith)
none_more (Err c) = refl

-- nothing hangs below layer 0, or where there is no link
pub none_at_zero : (read : List ℕ → Option Node) (B : FinMap key_cmp (List ℕ)) (h : ℕ) (low high c : Option (List ℕ)) → h ≡ 0 → count (part_at in_whole read B h low high c) ≡ Ok 0
none_at_zero read B h low high c e = rw e (ap count (at_zero in_whole read B low high c))

pub none_at_none : (read : List ℕ → Option Node) (B : FinMap key_cmp (List ℕ)) (h : ℕ) (low high : Option (List ℕ)) → count (part_at in_whole read B h low high None) ≡ Ok 0
none_at_none read B h low high = ap count (at_none in_whole read B h low high)

-- `below` gives what hangs between two bounds under a link
module _ (below : Option (List ℕ) → Option (List ℕ) → Option (List ℕ) → Result (List Item) (List ℕ)) (high : Option (List ℕ)) where
  pub rest_none : count (rights_of below high []) ≡ Ok 0
  rest_none = refl

  pub rest_more : (k m : ℕ) (e : Entry) (es : List Entry) → count (below (Some e.key) (next_bound high es) e.right) ≡ Ok m
      → with_more (k + (m + 1)) (count (rights_of below high es)) ≡ with_more k (count (rights_of below high (e ∷ es)))
  rest_more k m e es h =
      let c = counted (below (Some e.key) (next_bound high es) e.right) m h in
      rw c.1 (go (rights_of below high es) c.0 c.2)
    where
      go : (r : Result (List Item) (List ℕ)) (P : List Item) → length P ≡ m → with_more (k + (m + 1)) (count r) ≡ with_more k (count (go_on r (λ G. Ok (Key e.key e.value ∷ (P ++ G)))))
      go (Ok G) P l = let both = length-append P G in ap Ok (omega (arith, both, l))
      go (Err d) P l = refl

  pub rest_lacks : (k : ℕ) (f : List ℕ) (e : Entry) (es : List Entry) → count (below (Some e.key) (next_bound high es) e.right) ≡ Err f → with_more k (count (rights_of below high (e ∷ es))) ≡ Err f
  rest_lacks k f e es h = rw (uncounted (below (Some e.key) (next_bound high es) e.right) f h) refl

  pub parts_both : (low left : Option (List ℕ)) (es : List Entry) (a b : ℕ) → count (below low (next_bound high es) left) ≡ Ok a → count (rights_of below high es) ≡ Ok b → count (parts_of below low high (left, es)) ≡ Ok (a + b)
  parts_both low left es a b g h =
      let c = counted (below low (next_bound high es) left) a g in let d = counted (rights_of below high es) b h in
      rw (c.1, d.1) (let both = length-append c.0 d.0 in ap Ok (omega (arith, both, c.2, d.2)))

  pub parts_first : (low left : Option (List ℕ)) (es : List Entry) (f : List ℕ) → count (below low (next_bound high es) left) ≡ Err f → count (parts_of below low high (left, es)) ≡ Err f
  parts_first low left es f g = rw (uncounted (below low (next_bound high es) left) f g) refl

  pub parts_last : (low left : Option (List ℕ)) (es : List Entry) (a : ℕ) (f : List ℕ) → count (below low (next_bound high es) left) ≡ Ok a → count (rights_of below high es) ≡ Err f → count (parts_of below low high (left, es)) ≡ Err f
  parts_last low left es a f g h =
      let c = counted (below low (next_bound high es) left) a g in
      rw (c.1, uncounted (rights_of below high es) f h) refl

-- an answer is one to the same question
pub given_on : (result : Result ℕ CountFault) (a b : Result ℕ (List ℕ)) → a ≡ b → Gives (λ n. n) link_at_fault result b → Gives (λ n. n) link_at_fault result a
given_on result a b e g = subst (λ x. Gives (λ n. n) link_at_fault result x) (sym e) g
