-- Chains behind one more row, and their fronts.
use Rattle.std.proofs.Common.{◌≡◌, ℕ, List, [], ◌∷◌, ◌++◌, refl, sym, subst}
use Rattle.relay_row.specs.declared.row.Row.{Row}
use Rattle.commit_check.specs.Step.{empty_root}
use Rattle.relay_law.specs.Chains.{Part, commits, rests, nothing, part_of, by_part, chains_from}
use Rattle.relay_law.specs.Laws.{FrontsAreSound}
use Rattle.relay_law.specs.Sound.{Follows, IsLinked, AreLinked}

-- the root behind the last commit of a chain
unfoldable pub end_root : List ℕ → List (List ℕ × List ℕ) → List ℕ
end_root r [] = r
end_root r (c ∷ cs) = end_root c.1 cs

pub end_more : (r : List ℕ) (cs : List (List ℕ × List ℕ)) (c : List ℕ × List ℕ) → end_root r (cs ++ c ∷ []) ≡ c.1
unfolding end_root
end_more r [] c = refl
end_more r (d ∷ cs) c = end_more d.1 cs c

linked_more : (r : List ℕ) (cs : List (List ℕ × List ℕ)) (c : List ℕ × List ℕ) → IsLinked r cs → Follows (end_root r cs) c.0 c.1 → IsLinked r (cs ++ c ∷ [])
unfolding end_root
linked_more r [] c h f = (f, tt)
linked_more r (d ∷ cs) c h f = (h.0, linked_more d.1 cs c h.1 f)

-- the root of an account's newest map
abbrev pub root_by : Part → List ℕ → List ℕ
root_by p r = by_part p (λ m d. d) (λ d. d) r

unfoldable pub root_now : List ℕ → List ℕ → List Row → List ℕ
root_now did r [] = r
root_now did r (row ∷ rows) = root_now did (root_by (part_of did row) r) rows

unfoldable pub FollowsAt : List ℕ → Part → Type 0
FollowsAt p (commits m d) = Follows p m d
FollowsAt p (rests d) = Unit {0}
FollowsAt p nothing = Unit {0}

one_more : (r : List ℕ) (cs : List (List ℕ × List ℕ)) (p : Part) → IsLinked r cs → FollowsAt (end_root r cs) p
    → AreLinked (by_part p (λ m d. (r, cs ++ (m, d) ∷ []) ∷ []) (λ d. (r, cs) ∷ ((d, []) ∷ [])) ((r, cs) ∷ []))
unfolding FollowsAt
one_more r cs (commits m d) h f = (linked_more r cs (m, d) h f, tt)
one_more r cs (rests d) h f = (h, (tt, tt))
one_more r cs nothing h f = (h, tt)

more_by : (did : List ℕ) (rows : List Row) (row : Row) (r : List ℕ) (cs : List (List ℕ × List ℕ))
    → ((q : List ℕ) (ds : List (List ℕ × List ℕ)) → AreLinked (chains_from did q ds rows) → FollowsAt (root_now did (end_root q ds) rows) (part_of did row) → AreLinked (chains_from did q ds (rows ++ row ∷ [])))
    → (p : Part) → AreLinked (by_part p (λ m d. chains_from did r (cs ++ (m, d) ∷ []) rows) (λ d. (r, cs) ∷ chains_from did d [] rows) (chains_from did r cs rows))
    → FollowsAt (root_now did (root_by p (end_root r cs)) rows) (part_of did row)
    → AreLinked (by_part p (λ m d. chains_from did r (cs ++ (m, d) ∷ []) (rows ++ row ∷ [])) (λ d. (r, cs) ∷ chains_from did d [] (rows ++ row ∷ [])) (chains_from did r cs (rows ++ row ∷ [])))
unfolding end_root
more_by did rows row r cs more (commits m d) h f =
    let P : List ℕ → Type 0 = λ n. FollowsAt (root_now did n rows) (part_of did row) in
    more r (cs ++ (m, d) ∷ []) h (subst P (sym (end_more r cs (m, d))) f)
more_by did rows row r cs more (rests d) h f = (h.0, more d [] h.1 f)
more_by did rows row r cs more nothing h f = more r cs h f

-- a row that follows at the newest root leaves the chains linked
pub sound_more : (did : List ℕ) (rows : List Row) (row : Row) (r : List ℕ) (cs : List (List ℕ × List ℕ)) → AreLinked (chains_from did r cs rows)
    → FollowsAt (root_now did (end_root r cs) rows) (part_of did row) → AreLinked (chains_from did r cs (rows ++ row ∷ []))
unfolding root_now
sound_more did [] row r cs h f = one_more r cs (part_of did row) h.0 f
sound_more did (x ∷ rows) row r cs h f = more_by did rows row r cs (λ q ds k g. sound_more did rows row q ds k g) (part_of did x) h f

linked_front : (r : List ℕ) (cs ds : List (List ℕ × List ℕ)) → IsLinked r (cs ++ ds) → IsLinked r cs
linked_front r [] ds h = tt
linked_front r (c ∷ cs) ds h = (h.0, linked_front c.1 cs ds h.1)

open_by : (did : List ℕ) (rows : List Row) (r : List ℕ) (cs : List (List ℕ × List ℕ)) → ((ds : List (List ℕ × List ℕ)) → AreLinked (chains_from did r ds rows) → IsLinked r ds)
    → (p : Part) → AreLinked (by_part p (λ m d. chains_from did r (cs ++ (m, d) ∷ []) rows) (λ d. (r, cs) ∷ chains_from did d [] rows) (chains_from did r cs rows)) → IsLinked r cs
open_by did rows r cs more (commits m d) h = linked_front r cs ((m, d) ∷ []) (more (cs ++ (m, d) ∷ []) h)
open_by did rows r cs more (rests d) h = h.0
open_by did rows r cs more nothing h = more cs h

-- the chain that is open is linked
open_linked : (did : List ℕ) (rows : List Row) (r : List ℕ) (cs : List (List ℕ × List ℕ)) → AreLinked (chains_from did r cs rows) → IsLinked r cs
open_linked did [] r cs h = h.0
open_linked did (row ∷ rows) r cs h = open_by did rows r cs (λ ds k. open_linked did rows r ds k) (part_of did row) h

front_by : (did : List ℕ) (xs ys : List Row) (r : List ℕ) (cs : List (List ℕ × List ℕ)) → ((q : List ℕ) (ds : List (List ℕ × List ℕ)) → AreLinked (chains_from did q ds (xs ++ ys)) → AreLinked (chains_from did q ds xs))
    → (p : Part) → AreLinked (by_part p (λ m d. chains_from did r (cs ++ (m, d) ∷ []) (xs ++ ys)) (λ d. (r, cs) ∷ chains_from did d [] (xs ++ ys)) (chains_from did r cs (xs ++ ys)))
    → AreLinked (by_part p (λ m d. chains_from did r (cs ++ (m, d) ∷ []) xs) (λ d. (r, cs) ∷ chains_from did d [] xs) (chains_from did r cs xs))
front_by did xs ys r cs more (commits m d) h = more r (cs ++ (m, d) ∷ []) h
front_by did xs ys r cs more (rests d) h = (h.0, more d [] h.1)
front_by did xs ys r cs more nothing h = more r cs h

front_linked : (did : List ℕ) (xs ys : List Row) (r : List ℕ) (cs : List (List ℕ × List ℕ)) → AreLinked (chains_from did r cs (xs ++ ys)) → AreLinked (chains_from did r cs xs)
front_linked did [] ys r cs h = (open_linked did ys r cs h, tt)
front_linked did (x ∷ xs) ys r cs h = front_by did xs ys r cs (λ q ds k. front_linked did xs ys q ds k) (part_of did x) h

pub fronts_sound : FrontsAreSound
fronts_sound xs ys sound did = front_linked did xs ys empty_root [] (sound did)
