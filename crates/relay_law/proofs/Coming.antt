-- Each later journal comes from the one that is open now.
use Rattle.std.proofs.Common.{◌≡◌, List, [], ◌∷◌, Option, Some, None, ◌⊎◌, inl, inr, refl, ◌∙◌, sym, subst}
use Rattle.relay_row.specs.declared.row.Row.{Row}
use Rattle.relay_law.specs.Histories.{Change, IsChanged, AreChanged, Comes, Point, IsIn, Stands, Calls, NextOf, LivesFrom, AllCome}
use Rattle.relay_law.specs.Laws.{JournalsComeOn}

more_changes : (J : List Row) (changes : List Change) (K : List Row) (change : Change) (L : List Row) → AreChanged J changes K → IsChanged K change L → Comes J L
more_changes J [] K change L same step =
    let P : List Row → Type 0 = λ x. IsChanged x change L in
    (change ∷ [], (L, subst P same step, refl))
more_changes J (first ∷ changes) K change L (middle, is, rest) step =
    let onwards = more_changes middle changes K change L rest step in
    (first ∷ onwards.0, (middle, is, onwards.1))

open_is : (J K : List Row) → Some J ≡ Some K → J ≡ K
open_is J K e = cc

-- all that may be open or found at a point comes from this journal
record IsSafe (C : List Row) (p : Point) : Type 0 where
  opened : (J : List Row) → p.serves ≡ Some J → Comes C J
  found : (K : List Row) → IsIn K p.leaves → Comes C K

same_comes : (C J K : List Row) → Comes C J → K ≡ J → Comes C K
same_comes C J K comes same = let Q : List Row → Type 0 = λ x. Comes C x in subst Q (sym same) comes

ended : (C J : List Row) (next : Point) → Comes C J → (call : Calls J next) → Comes C call.changed → (K : List Row) → next.serves ≡ Some K → (next.serves ≡ Some call.changed) ⊎ ((next.serves ≡ Some J) ⊎ (next.serves ≡ None)) → Comes C K
ended C J next comes call changed K is (inl e) = same_comes C call.changed K changed (open_is K call.changed (sym is ∙ e))
ended C J next comes call changed K is (inr (inl same)) = same_comes C J K comes (open_is K J (sym is ∙ same))
ended C J next comes call changed K is (inr (inr gone)) = absurd cc

left : (C J changed K : List Row) → Comes C J → Comes C changed → (K ≡ J) ⊎ (K ≡ changed) → Comes C K
left C J changed K comes came (inl same) = same_comes C J K comes same
left C J changed K comes came (inr same) = same_comes C changed K came same

called : (C J : List Row) (next : Point) → Comes C J → Calls J next → IsSafe C next
called C J next comes call =
    let changed : Comes C call.changed = more_changes C comes.0 J call.change call.changed comes.1 call.is_change in
    record {
      opened = λ K is. ended C J next comes call changed K is call.ends;
      found = λ K is. left C J call.changed K comes changed (call.leaves K is);
    }

next_of : (C : List Row) (p next : Point) (o : Option (List Row)) → p.serves ≡ o → IsSafe C p → NextOf o p next → IsSafe C next
next_of C p next None is safe opens = record { opened = λ J e. safe.found J (opens.ends J e); found = λ K e. safe.found K (opens.leaves K e) }
next_of C p next (Some J) is safe call = called C J next (safe.opened J is) call

come_from : (C : List Row) (p : Point) (points : List Point) → IsSafe C p → LivesFrom p points → AllCome C points
come_from C p [] safe lives = tt
come_from C p (next ∷ points) safe (stands, goes, rest) =
    let safe_next = next_of C p next p.serves refl safe goes in
    (safe_next.opened, come_from C next points safe_next rest)

stands_in : (p : Point) (points : List Point) → LivesFrom p points → Stands p
stands_in p [] lives = lives
stands_in p (next ∷ points) lives = lives.0

pub come_on : JournalsComeOn
come_on p points J lives is =
    come_from J p points (record {
      opened = λ K e. ([], open_is K J (sym e ∙ is));
      found = λ K e. ([], stands_in p points lives J is K e);
    }) lives
