-- Going over the DIDs that a mirror knows, each of which is the next behind the one before it.
use Rattle.std.proofs.Common.{◌≡◌, ◌<◌, ◌≤◌, ℕ, ◌+◌, Bool, true, false, cond, ◌||◌, Ordering, Less, Equal, Greater, List, [], ◌∷◌, ◌++◌, length, Option, Some, refl, sym, ap, subst, ◌∙◌, arith, append_assoc, nat_cmp, is_lt, is_eq}
use Rattle.std.proofs.lemmas.List.{append-nil}
use Rattle.std.proofs.lemmas.Map.Text.{is_eq-slice_cmp}
use Rattle.std.specs.BTreeMap.{is_at}
use Rattle.std.specs.Cmp.Lexicographic.{slice_cmp}
use Rattle.std.specs.List.{filter}
use Rattle.std.specs.Map.{lookup}
use Rattle.std.specs.Option.{is_some}
use Rattle.std.specs.Str.{bytes_eq}
use Rattle.at_cid.specs.Order.{key_cmp}
use Rattle.at_cid.proofs.Order.{cmp_above, cmp_below, cmp_exact, cmp_same, cmp_trans}
use Rattle.mirror.specs.State.{is_known}
use Rattle.mirror.specs.declared.keeping.Mirror.{Mirror}
use Rattle.mirror_run.specs.Mirrored.{AllBehind, Ascend}
use Rattle.mirror_run.specs.Printing.{AreKnown, line_in, lines_in}
use Rattle.mirror_run.proofs.Ordered.{behind_all, is_among}

-- the order and the test of sameness
same_of : (a b : List ℕ) → bytes_eq a b ≡ is_eq (key_cmp a b)
unfolding key_cmp
same_of a b = sym (is_eq-slice_cmp a b)

same_self : (a : List ℕ) → bytes_eq a a ≡ true
same_self a = same_of a a ∙ ap is_eq (cmp_same a)

other_below : (a b : List ℕ) → key_cmp a b ≡ Less → bytes_eq a b ≡ false
other_below a b h = same_of a b ∙ ap is_eq h

other_above : (a b : List ℕ) → key_cmp a b ≡ Less → bytes_eq b a ≡ false
other_above a b h = same_of b a ∙ ap is_eq (cmp_above a b h)

-- a name before all of these is none of them
not_among : (did : List ℕ) (dids : List (List ℕ)) → AllBehind did dids → is_among dids did ≡ false
not_among did [] h = refl
not_among did (d ∷ dids) h = ap (λ (b : Bool). b || is_among dids did) (other_below did d h.0) ∙ not_among did dids h.1

not_both : (b : Bool) → b ≡ true → b ≡ false → ⊥
not_both b h k = let e : true ≡ false = sym h ∙ k in absurd cc

-- Of the DIDs that a mirror knows, those up to a name have been gone over, and these are left.
pub record IsWalking (mirror : Mirror) (dids : List (List ℕ)) (last : List ℕ) (front others : List (List ℕ)) : Type 0 where
  pub split : dids ≡ front ++ others
  pub behind : AllBehind last others
  pub ascend : Ascend others
  pub known : (did : List ℕ) → key_cmp last did ≡ Less → is_among others did ≡ is_known mirror did

-- each name but the empty one is behind that
behind_empty : (did : List ℕ) → bytes_eq [] did ≡ false → key_cmp [] did ≡ Less
unfolding key_cmp
behind_empty [] h = absurd cc
behind_empty (c ∷ did) h = refl

or_left : (a b : Bool) → (a || b) ≡ false → a ≡ false
or_left true b h = absurd cc
or_left false b h = refl

or_right : (a b : Bool) → (a || b) ≡ false → b ≡ false
or_right true b h = absurd cc
or_right false b h = h

all_behind_empty : (dids : List (List ℕ)) → is_among dids [] ≡ false → AllBehind [] dids
all_behind_empty [] h = tt
all_behind_empty (d ∷ dids) h = (behind_empty d (or_left (bytes_eq [] d) (is_among dids []) h), all_behind_empty dids (or_right (bytes_eq [] d) (is_among dids []) h))

pub starts : (mirror : Mirror) (dids : List (List ℕ)) → is_known mirror [] ≡ false → AreKnown mirror dids → IsWalking mirror dids [] [] dids
starts mirror dids named are = record {
  split = refl;
  behind = all_behind_empty dids (are.known [] ∙ named);
  ascend = are.ascend;
  known = λ did above. are.known did;
}

-- the next name was gone over too
pub record IsNextOf (mirror : Mirror) (dids front : List (List ℕ)) (next : List ℕ) : Type 0 where
  pub others : List (List ℕ)
  pub walking : IsWalking mirror dids next (front ++ next ∷ []) others

module _ (mirror : Mirror) (dids : List (List ℕ)) (last : List ℕ) (front : List (List ℕ)) where
  -- where no other is known none is left
  pub none_left : (others : List (List ℕ)) → IsWalking mirror dids last front others → ((other : List ℕ) → key_cmp last other ≡ Less → is_known mirror other ≡ false) → dids ≡ front
  none_left [] w none = w.split ∙ append-nil front
  none_left (d ∷ others) w none =
      absurd (not_both (is_among (d ∷ others) d) (ap (λ (b : Bool). b || is_among others d) (same_self d)) (w.known d w.behind.0 ∙ none d w.behind.0))

  -- the next known one is the first that is left
  first_left : (next d : List ℕ) (others : List (List ℕ)) → IsWalking mirror dids last front (d ∷ others) → is_known mirror next ≡ true → key_cmp last next ≡ Less
      → ((other : List ℕ) → key_cmp last other ≡ Less → key_cmp other next ≡ Less → is_known mirror other ≡ false) → next ≡ d
  first_left next d others w known above least = of (key_cmp next d) refl
    where
      of : (o : Ordering) → key_cmp next d ≡ o → next ≡ d
      of Equal is = cmp_exact next d is
      of Less is = absurd (not_both (is_among (d ∷ others) next) (w.known next above ∙ known)
          (ap (λ (b : Bool). b || is_among others next) (other_below next d is) ∙ not_among next others (behind_all next d others is w.ascend.0)))
      of Greater is = absurd (not_both (is_known mirror d) (sym (w.known d w.behind.0) ∙ ap (λ (b : Bool). b || is_among others d) (same_self d)) (least d w.behind.0 (cmp_below next d is)))

  goes_on : (next : List ℕ) (others : List (List ℕ)) → IsWalking mirror dids last front (next ∷ others) → key_cmp last next ≡ Less → IsNextOf mirror dids front next
  goes_on next others w above = record {
    others = others;
    walking = record {
      split = w.split ∙ sym (append_assoc front (next ∷ []) others);
      behind = w.ascend.0;
      ascend = w.ascend.1;
      known = λ did behind.
          ap (λ (b : Bool). b || is_among others did) (sym (other_above next did behind)) ∙ w.known did (cmp_trans last next did above behind);
    };
  }

  pub next_left : (next : List ℕ) (others : List (List ℕ)) → IsWalking mirror dids last front others → is_known mirror next ≡ true → key_cmp last next ≡ Less
      → ((other : List ℕ) → key_cmp last other ≡ Less → key_cmp other next ≡ Less → is_known mirror other ≡ false) → IsNextOf mirror dids front next
  next_left next [] w known above least = absurd (not_both (is_known mirror next) known (sym (w.known next above)))
  next_left next (d ∷ others) w known above least =
      let is : next ≡ d = first_left next d others w known above least in
      goes_on next others (subst (λ (x : List ℕ). IsWalking mirror dids last front (x ∷ others)) (sym is) w) above

-- the lines of one more
pub lines_more : (mirror : Mirror) (front : List (List ℕ)) (did : List ℕ) → lines_in mirror (front ++ did ∷ []) ≡ lines_in mirror front ++ line_in mirror did
lines_more mirror [] did = append-nil (line_in mirror did)
lines_more mirror (d ∷ front) did =
    ap (λ (l : List ℕ). line_in mirror d ++ l) (lines_more mirror front did) ∙ sym (append_assoc (line_in mirror d) (lines_in mirror front) (line_in mirror did))

pub lines_split : (mirror : Mirror) (front others : List (List ℕ)) → lines_in mirror (front ++ others) ≡ lines_in mirror front ++ lines_in mirror others
lines_split mirror [] others = refl
lines_split mirror (d ∷ front) others =
    ap (λ (l : List ℕ). line_in mirror d ++ l) (lines_split mirror front others) ∙ sym (append_assoc (line_in mirror d) (lines_in mirror front) (lines_in mirror others))

lt_of : (o : Ordering) → is_lt o ≡ true → o ≡ Less
lt_of Less h = refl
lt_of Equal h = absurd cc
lt_of Greater h = absurd cc

no_more_of : (a b : Bool) → (b ≡ true → a ≡ true) → cond b 1 0 ≤ cond a 1 0
no_more_of true true h = omega arith
no_more_of true false h = omega arith
no_more_of false false h = omega arith
no_more_of false true h = let e : false ≡ true = h refl in absurd cc

eq_of : (o : Ordering) → is_eq o ≡ true → o ≡ Equal
eq_of Less h = absurd cc
eq_of Equal h = refl
eq_of Greater h = absurd cc

-- how many entries of a map are behind a text
module _ {K X : Type 0} (text : K → List ℕ) where
  abbrev pub is_behind : List ℕ → K × X → Bool
  is_behind did e = is_lt (key_cmp did (text e.0))

  abbrev pub count_behind : List ℕ → List (K × X) → ℕ
  count_behind did es = length (filter (is_behind did) es)

  abbrev pub found : List ℕ → List (K × X) → Option X
  found did es = lookup (is_at (λ k. slice_cmp nat_cmp did (text k))) es

  one_if : (b : Bool) (e : K × X) (es : List (K × X)) → length (cond b (e ∷ es) es) ≡ cond b 1 0 + length es
  one_if true e es = omega arith
  one_if false e es = omega arith

  module _ (last next : List ℕ) (above : key_cmp last next ≡ Less) where
    behind_too : (e : K × X) → cond (is_behind next e) 1 0 ≤ cond (is_behind last e) 1 0
    behind_too e = no_more_of (is_behind last e) (is_behind next e) (λ h. ap is_lt (cmp_trans last next (text e.0) above (lt_of (key_cmp next (text e.0)) h)))

    no_fewer : (es : List (K × X)) → count_behind next es ≤ count_behind last es
    no_fewer [] = omega arith
    no_fewer (e ∷ es) =
        omega (arith, one_if (is_behind next e) e (filter (is_behind next) es), one_if (is_behind last e) e (filter (is_behind last) es), behind_too e, no_fewer es)

    at_text : (e : K × X) → is_at (λ k. slice_cmp nat_cmp next (text k)) e.0 ≡ true → next ≡ text e.0
    unfolding key_cmp
    at_text e h = cmp_exact next (text e.0) (eq_of (slice_cmp nat_cmp next (text e.0)) h)

    -- at the entry itself
    here : (e : K × X) (es : List (K × X)) → next ≡ text e.0 → count_behind next (e ∷ es) < count_behind last (e ∷ es)
    here e es is =
        let not_behind : is_behind next e ≡ false = subst (λ (t : List ℕ). is_lt (key_cmp next t) ≡ false) is (ap is_lt (cmp_same next)) in
        let is_there : is_behind last e ≡ true = subst (λ (t : List ℕ). is_lt (key_cmp last t) ≡ true) is (ap is_lt above) in
        omega (
          arith,
          one_if (is_behind next e) e (filter (is_behind next) es),
          one_if (is_behind last e) e (filter (is_behind last) es),
          ap {B = ℕ} (λ (b : Bool). cond b 1 0) not_behind,
          ap {B = ℕ} (λ (b : Bool). cond b 1 0) is_there,
          no_fewer es,
        )

    pub fewer_behind : (es : List (K × X)) → is_some (found next es) ≡ true → count_behind next es < count_behind last es
    fewer_behind [] h = absurd cc
    fewer_behind (e ∷ es) h = of (λ k. fewer_behind es k) (is_at (λ k. slice_cmp nat_cmp next (text k)) e.0) refl
      where
        of : (is_some (found next es) ≡ true → count_behind next es < count_behind last es) → (b : Bool) → is_at (λ k. slice_cmp nat_cmp next (text k)) e.0 ≡ b → count_behind next (e ∷ es) < count_behind last (e ∷ es)
        of fewer true is = here e es (at_text e is)
        of fewer false is =
            let later : is_some (found next es) ≡ true = sym (ap (λ (b : Bool). is_some (cond b (Some e.1) (found next es))) is) ∙ h in
            omega (
              arith,
              one_if (is_behind next e) e (filter (is_behind next) es),
              one_if (is_behind last e) e (filter (is_behind last) es),
              behind_too e,
              fewer later,
            )
