-- Histories in which a later journal is of other rows.
use Rattle.std.proofs.Common.{◌≡◌, ◌≢◌, ◌⊎◌, inl, inr, ℕ, Bool, true, false, List, [], ◌∷◌, ◌++◌, map, Option, None, Some, refl, sym, ◌∙◌, ap, subst, arith}
use Rattle.std.proofs.lemmas.Bool.Decides.{nat_tests}
use Rattle.std.specs.Prelude.{◌==◌, if◌then◌else◌}
use Rattle.relay_row.specs.Folds.{folded, last_after, last_seq, seq_in}
use Rattle.relay_row.specs.declared.carried.Carried.{Carried}
use Rattle.relay_row.specs.declared.row.Row.{Row}
use Rattle.relay_row.proofs.Journals.{lasts_joined}
use Rattle.relay_law.specs.Histories.{Change, adds, cuts, AreChanged, Calls, Comes, IsChanged, IsCut, IsIn, NextOf, LivesFrom, AllCome, Opens, Point, Stands}
use Rattle.relay_law.proofs.Coming.{come_on}
use Rattle.law_premises.specs.Histories.{JournalsMayBeOthers, LivesUnfounded, UnfoundedComeOn}

-- ---- a journal that gave a number comes to none that gave none

if_some : (b : Bool) (n m : ℕ) → (m == 0) ≡ b → n ≢ 0 → (if b then n else m) ≢ 0
if_some true n m test some = some
if_some false n m test some = λ none. absurd (grind (arith, nat_tests))

last_stays : (n : ℕ) (rows : List Row) → n ≢ 0 → folded last_after n rows ≢ 0
last_stays n [] some = some
last_stays n (row ∷ rows) some = last_stays (last_after n row) rows (if_some (seq_in row == 0) n (seq_in row) refl some)

abbrev HasGiven : List Row → Type 0
HasGiven J = last_seq J ≢ 0

cut_stays : (J K : List Row) (number : ℕ) → IsCut J number K → HasGiven J → HasGiven K
cut_stays J K number cut some = λ none. some (
    ap last_seq cut.whole ∙ lasts_joined cut.front cut.others ∙ ap (λ (n : ℕ). folded last_after n cut.others) (sym cut.last) ∙ sym (lasts_joined cut.carried cut.others) ∙ ap last_seq (sym cut.now) ∙ none)

change_stays : (J : List Row) (change : Change) (K : List Row) → IsChanged J change K → HasGiven J → HasGiven K
change_stays J (adds rows) K is some = subst HasGiven (sym is) (λ none. last_stays (last_seq J) rows some (sym (lasts_joined J rows) ∙ none))
change_stays J (cuts number) K is some = cut_stays J K number is some

changes_stay : (J : List Row) (changes : List Change) (K : List Row) → AreChanged J changes K → HasGiven J → HasGiven K
changes_stay J [] K same some = subst HasGiven (sym same) some
changes_stay J (change ∷ changes) K (middle, is, rest) some = changes_stay middle changes K rest (change_stays J change middle is some)

abbrev given : List Row
given = Row.Carried (Carried.Last 1) ∷ []

has_given : HasGiven given
unfolding last_seq
has_given none = absurd (omega (arith, none))

none_given : last_seq [] ≡ 0
unfolding last_seq
none_given = refl

apart : Comes given [] → ⊥
apart comes = changes_stay given comes.0 [] comes.1 has_given none_given

-- ---- histories that begin with it

abbrev at : Option (List Row) → List (List Row) → Point
at serves leaves = record { serves = serves; leaves = leaves }

stands_bare : (serves : Option (List Row)) → Stands (at serves [])
stands_bare serves J is K among = absurd among

stands_closed : (leaves : List (List Row)) → Stands (at None leaves)
stands_closed leaves J is K among = absurd cc

abbrev same : given ≡ given ++ []
same = refl

-- a call that closes the store, and leaves this on the disks
closes : (leaves : List (List Row)) → ((K : List Row) → IsIn K leaves → (K ≡ given) ⊎ (K ≡ given)) → Calls given (at None leaves)
closes leaves left = record { change = adds []; changed = given; is_change = same; ends = inr (inr refl); leaves = left }

one_left : (K : List Row) → IsIn K (given ∷ []) → (K ≡ given) ⊎ (K ≡ given)
one_left K (inl is) = inl is
one_left K (inr other) = absurd other

empty_is : (J : List Row) → Some [] ≡ Some J → J ≡ []
empty_is J e = cc

opens_empty : (serves : Option (List Row)) → Opens (at serves ([] ∷ [])) (at (Some []) [])
opens_empty serves = record { ends = λ J is. inl (empty_is J is); leaves = λ K among. absurd among }

pub journals_others : JournalsMayBeOthers
journals_others = record {
  ends = λ all. apart ((all (at (Some given) []) (at (Some []) [] ∷ []) given
      (stands_bare (Some given), record { change = adds []; changed = given; is_change = same; leaves = λ K among. absurd among }, stands_bare (Some [])) refl).0 [] refl);
  changes = λ all. apart ((all (at (Some given) []) (at (Some []) [] ∷ []) given
      (stands_bare (Some given), record { changed = []; ends = inl refl; leaves = λ K among. absurd among }, stands_bare (Some [])) refl).0 [] refl);
  leaves = λ all. apart ((all (at (Some given) []) (at None ([] ∷ []) ∷ at (Some []) [] ∷ []) given
      (stands_bare (Some given), record { change = adds []; changed = given; is_change = same; ends = inr (inr refl) }, (stands_closed ([] ∷ []), opens_empty None, stands_bare (Some []))) refl).1.0 [] refl);
  opens = λ all. apart ((all (at (Some given) []) (at None [] ∷ at (Some []) [] ∷ []) given
      (stands_bare (Some given), closes [] (λ K among. absurd among), (stands_closed [], record { leaves = λ K among. absurd among }, stands_bare (Some []))) refl).1.0 [] refl);
  opens_leave = λ all. apart ((all (at (Some given) []) (at None (given ∷ []) ∷ at None ([] ∷ []) ∷ at (Some []) [] ∷ []) given (
    stands_bare (Some given),
    closes (given ∷ []) one_left,
    (
      stands_closed (given ∷ []),
      record { ends = λ J is. absurd cc },
      (stands_closed ([] ∷ []), record { ends = λ J is. inl (empty_is J is) }, stands_bare (Some [])),
    ),
  ) refl).1.1.0 [] refl);
  serves = λ all. apart ((all (at (Some []) []) (at (Some []) [] ∷ []) given
      (stands_bare (Some []), record { change = adds []; changed = []; is_change = refl; ends = inl refl; leaves = λ K among. absurd among }, stands_bare (Some []))).0 [] refl);
}

-- ---- what the disks of an open store stand for

abbrev left_of : Option (List Row) → List (List Row) → List (List Row)
left_of None leaves = leaves
left_of (Some J) leaves = []

-- the point, with nothing on the disks where a store is open
abbrev founded : Point → Point
founded p = at p.serves (left_of p.serves p.leaves)

founded_stands : (o : Option (List Row)) (leaves : List (List Row)) → Stands (at o (left_of o leaves))
founded_stands None leaves J is K among = absurd cc
founded_stands (Some I) leaves J is K among = absurd among

fewer : (o : Option (List Row)) (leaves : List (List Row)) (K : List Row) → IsIn K (left_of o leaves) → IsIn K leaves
fewer None leaves K among = among
fewer (Some J) leaves K among = absurd among

founded_next : (o : Option (List Row)) (p next : Point) → p.serves ≡ o → NextOf o p next → NextOf o (founded p) (founded next)
founded_next None p next closed opens =
    let all : (K : List Row) → IsIn K p.leaves → IsIn K (left_of p.serves p.leaves) = λ K among. subst (λ (o : Option (List Row)). IsIn K (left_of o p.leaves)) (sym closed) among in
    record { ends = λ J is. all J (opens.ends J is); leaves = λ K among. all K (opens.leaves K (fewer next.serves next.leaves K among)) }
founded_next (Some J) p next is call =
    record { change = call.change; changed = call.changed; is_change = call.is_change; ends = call.ends; leaves = λ K among. call.leaves K (fewer next.serves next.leaves K among) }

abbrev all_founded : List Point → List Point
all_founded points = map founded points

founded_lives : (p : Point) (points : List Point) → LivesUnfounded p points → LivesFrom (founded p) (all_founded points)
founded_lives p [] lives = founded_stands p.serves p.leaves
founded_lives p (next ∷ points) lives = (founded_stands p.serves p.leaves, founded_next p.serves p next refl lives.0, founded_lives next points lives.1)

all_come_back : (J : List Row) (points : List Point) → AllCome J (all_founded points) → AllCome J points
all_come_back J [] all = tt
all_come_back J (p ∷ points) all = (all.0, all_come_back J points all.1)

pub unfounded : UnfoundedComeOn
unfounded p points J lives is = all_come_back J points (come_on (founded p) (all_founded points) J (founded_lives p points lives) is)
