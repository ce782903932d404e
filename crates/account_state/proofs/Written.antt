-- The entries after one account was written.
use Rattle.std.proofs.Common.{◌≡◌, ◌≢◌, ℕ, Bool, true, false, not, cond, ◌&&◌, List, [], ◌∷◌, ◌++◌, Option, Some, None, refl, sym, ap, ◌∙◌, subst, append_assoc, Result, Ok, Err, OnOk, OnErr}
use Rattle.std.specs.Option.{is_some, option_map, unwrap_or}
use Rattle.std.specs.Prelude.{length, ◌==◌}
use Rattle.std.specs.Str.{bytes_eq}
use Rattle.std.proofs.lemmas.Bool.{and_from}
use Rattle.relay_row.specs.declared.row.Row.{Row}
use Rattle.relay_row.specs.Folds.{names, did_of_row}
use Rattle.account_state.specs.Entries.{Entry, found_entry, known_in, entry, has_room, entry_after, AllBehind, IsSorted, put, Follows}
use Rattle.account_state.specs.Folds.{fresh, moved}
use Rattle.account_state.specs.State.{State, state_of, known}
use Rattle.account_state.specs.declared.account.Account.{Account}
use Rattle.account_state.proofs.Order.{same_text, is_text}
use Rattle.account_state.proofs.Sorted.{found_here, found_later, found_other, found_put}

not_empty : (text : List ℕ) → (length text == 0) ≡ false → not (bytes_eq text []) ≡ true
not_empty [] h = absurd cc
not_empty (c ∷ text) h = refl

and_false : (a b : Bool) → b ≡ false → (a && b) ≡ false
and_false true b h = h
and_false false b h = refl

both : (b : Bool) → b ≡ false → b ≡ true → ⊥
both true e h = absurd cc
both false e h = absurd cc

-- the state that a name starts from
pub told : (n : Bool) (s t : State) → unwrap_or (cond n (Some s) None) t ≡ cond n s t
told true s t = refl
told false s t = refl

-- an account that a row named and moved
pub known_moved : (b : Account) (s : State) → b.named ≡ true → state_of b ≡ s → known b ≡ Some s
known_moved b s named is = ap (λ (n : Bool). cond n (Some (state_of b)) None) named ∙ ap Some is

-- only the account of one DID differs
found_beside : (name did : List ℕ) (x y : Account) (l r : List Entry) → bytes_eq name did ≡ false → found_entry name (l ++ (did, x) ∷ r) ≡ found_entry name (l ++ (did, y) ∷ r)
found_beside name did x y [] r h = found_later name (did, x) r h ∙ sym (found_later name (did, y) r h)
found_beside name did x y (z ∷ l) r h = ap (λ (o : Option Account). cond (bytes_eq name z.0) (Some z.1) o) (found_beside name did x y l r h)

behind_beside : (name did : List ℕ) (x y : Account) (l r : List Entry) → AllBehind name (l ++ (did, x) ∷ r) → AllBehind name (l ++ (did, y) ∷ r)
behind_beside name did x y [] r all = all
behind_beside name did x y (z ∷ l) r all = (all.0, behind_beside name did x y l r all.1)

sorted_beside : (did : List ℕ) (x y : Account) (l r : List Entry) → IsSorted (l ++ (did, x) ∷ r) → IsSorted (l ++ (did, y) ∷ r)
sorted_beside did x y [] r s = s
sorted_beside did x y (z ∷ l) r s = (behind_beside z.0 did x y l r s.0, sorted_beside did x y l r s.1)

module _ (row : Row) (old new : List Entry) (sorted : IsSorted old) (f : Follows (did_of_row row) row old new) where
  sorted_was : IsSorted (f.front ++ (did_of_row row, f.before) ∷ f.back)
  sorted_was = subst IsSorted f.was sorted

  pub sorted_follows : IsSorted new
  sorted_follows = subst IsSorted (sym f.is) (sorted_beside (did_of_row row) f.before f.after f.front f.back sorted_was)

  found_was : found_entry (did_of_row row) old ≡ Some f.before
  found_was = ap (λ (es : List Entry). found_entry (did_of_row row) es) f.was ∙ found_here (did_of_row row) f.front (did_of_row row, f.before) f.back refl sorted_was

  found_is : found_entry (did_of_row row) new ≡ Some f.after
  found_is = ap (λ (es : List Entry). found_entry (did_of_row row) es) f.is ∙ found_here (did_of_row row) f.front (did_of_row row, f.after) f.back refl (subst IsSorted f.is sorted_follows)

  others : (name : List ℕ) → bytes_eq name (did_of_row row) ≡ false → found_entry name new ≡ found_entry name old
  others name h =
      ap (λ (es : List Entry). found_entry name es) f.is
      ∙ found_beside name (did_of_row row) f.after f.before f.front f.back h
      ∙ sym (ap (λ (es : List Entry). found_entry name es) f.was)

  own : (length (did_of_row row) == 0) ≡ false → entry new (did_of_row row) ≡ entry_after (did_of_row row) (entry old (did_of_row row)) row
  own full =
      let named : names (did_of_row row) (did_of_row row) ≡ true = and_from (not (bytes_eq (did_of_row row) [])) (bytes_eq (did_of_row row) (did_of_row row)) (not_empty (did_of_row row) full) (is_text (did_of_row row) (did_of_row row) refl) in
      ap known_in found_is ∙ f.moves
      ∙ ap (λ (o : Option Account). Some (moved (unwrap_or (known_in o) fresh) row)) (sym found_was)
      ∙ sym (ap (λ (c : Bool). cond c (Some (moved (unwrap_or (entry old (did_of_row row)) fresh) row)) (entry old (did_of_row row))) named)

  pub entries_follow : (length (did_of_row row) == 0) ≡ false → (name : List ℕ) → entry new name ≡ entry_after name (entry old name) row
  entries_follow full name =
      (elim (bytes_eq name (did_of_row row)) as (λ c. bytes_eq name (did_of_row row) ≡ c → entry new name ≡ entry_after name (entry old name) row) [
        | true ↦ λ t. subst (λ (text : List ℕ). entry new text ≡ entry_after text (entry old text) row) (sym (same_text name (did_of_row row) t)) (own full)
        | false ↦ λ t. ap known_in (others name t) ∙ sym (ap (λ (c : Bool). cond c (Some (moved (unwrap_or (entry old name) fresh) row)) (entry old name)) (and_false (not (bytes_eq name [])) (bytes_eq name (did_of_row row)) t))
      ]) refl

  pub room_follows : (name : List ℕ) → has_room new name ≡ has_room old name
  room_follows name =
      (elim (bytes_eq name (did_of_row row)) as (λ c. bytes_eq name (did_of_row row) ≡ c → has_room new name ≡ has_room old name) [
        | true ↦ λ t. subst (λ (text : List ℕ). has_room new text ≡ has_room old text) (sym (same_text name (did_of_row row) t)) (ap is_some found_is ∙ sym (ap is_some found_was))
        | false ↦ λ t. ap is_some (others name t)
      ]) refl

-- an account that isn't known takes its room
module _ (e : Entry) (es : List Entry) (absent : found_entry e.0 es ≡ None) where
  pub entries_touched : known e.1 ≡ None → (name : List ℕ) → entry (put e es) name ≡ entry es name
  entries_touched unknown name =
      (elim (bytes_eq name e.0) as (λ c. bytes_eq name e.0 ≡ c → entry (put e es) name ≡ entry es name) [
        | true ↦ λ t. subst (λ (text : List ℕ). entry (put e es) text ≡ entry es text) (sym (same_text name e.0 t)) (ap known_in (found_put e es absent) ∙ unknown ∙ sym (ap known_in absent))
        | false ↦ λ t. ap known_in (found_other name e es t)
      ]) refl

  pub room_touched : has_room (put e es) e.0 ≡ true
  room_touched = ap is_some (found_put e es absent)

  pub room_kept : (name : List ℕ) → has_room es name ≡ true → has_room (put e es) name ≡ true
  room_kept name there =
      (elim (bytes_eq name e.0) as (λ c. bytes_eq name e.0 ≡ c → has_room (put e es) name ≡ true) [
        | true ↦ λ t. subst (λ (text : List ℕ). has_room (put e es) text ≡ true) (sym (same_text name e.0 t)) room_touched
        | false ↦ λ t. ap is_some (found_other name e es t) ∙ there
      ]) refl

-- an account that follows a row takes its room
module _ (row : Row) (e : Entry) (es new : List Entry) (absent : found_entry e.0 es ≡ None) (name_is : e.0 ≡ did_of_row row) (full : (length (did_of_row row) == 0) ≡ false) (moves : known e.1 ≡ Some (moved fresh row)) (is : new ≡ put e es) where
  gone : found_entry (did_of_row row) es ≡ None
  gone = ap (λ (text : List ℕ). found_entry text es) (sym name_is) ∙ absent

  learned : entry new (did_of_row row) ≡ entry_after (did_of_row row) (entry es (did_of_row row)) row
  learned =
      let named : names (did_of_row row) (did_of_row row) ≡ true = and_from (not (bytes_eq (did_of_row row) [])) (bytes_eq (did_of_row row) (did_of_row row)) (not_empty (did_of_row row) full) (is_text (did_of_row row) (did_of_row row) refl) in
      ap (λ (l : List Entry). entry l (did_of_row row)) is
      ∙ ap (λ (text : List ℕ). entry (put e es) text) (sym name_is)
      ∙ ap known_in (found_put e es absent) ∙ moves
      ∙ ap (λ (o : Option Account). Some (moved (unwrap_or (known_in o) fresh) row)) (sym gone)
      ∙ sym (ap (λ (c : Bool). cond c (Some (moved (unwrap_or (entry es (did_of_row row)) fresh) row)) (entry es (did_of_row row))) named)

  pub entries_learned : (name : List ℕ) → entry new name ≡ entry_after name (entry es name) row
  entries_learned name =
      (elim (bytes_eq name (did_of_row row)) as (λ c. bytes_eq name (did_of_row row) ≡ c → entry new name ≡ entry_after name (entry es name) row) [
        | true ↦ λ t. subst (λ (text : List ℕ). entry new text ≡ entry_after text (entry es text) row) (sym (same_text name (did_of_row row) t)) learned
        | false ↦ λ t.
            ap (λ (l : List Entry). entry l name) is
            ∙ ap known_in (found_other name e es (ap (λ (text : List ℕ). bytes_eq name text) name_is ∙ t))
            ∙ sym (ap (λ (c : Bool). cond c (Some (moved (unwrap_or (entry es name) fresh) row)) (entry es name)) (and_false (not (bytes_eq name [])) (bytes_eq name (did_of_row row)) t))
      ]) refl

-- a row's DID that isn't empty has room
pub filled : (row : Row) → (length (did_of_row row) == 0) ≡ false → did_of_row row ≢ []
filled row full empty = both (length (did_of_row row) == 0) full (ap (λ (text : List ℕ). length text == 0) empty)

-- the account that follows stands on the left, here, or on the right
pub follows_left : (did : List ℕ) (row : Row) (old new : List Entry) (y : Entry) (r : List Entry) → Follows did row old new → Follows did row (old ++ y ∷ r) (new ++ y ∷ r)
follows_left did row old new y r f = record {
  front = f.front;
  back = f.back ++ y ∷ r;
  before = f.before;
  after = f.after;
  was = ap (λ (es : List Entry). es ++ y ∷ r) f.was ∙ append_assoc f.front ((did, f.before) ∷ f.back) (y ∷ r);
  is = ap (λ (es : List Entry). es ++ y ∷ r) f.is ∙ append_assoc f.front ((did, f.after) ∷ f.back) (y ∷ r);
  moves = f.moves;
}

pub follows_right : (did : List ℕ) (row : Row) (l : List Entry) (y : Entry) (old new : List Entry) → Follows did row old new → Follows did row (l ++ y ∷ old) (l ++ y ∷ new)
follows_right did row l y old new f = record {
  front = l ++ y ∷ f.front;
  back = f.back;
  before = f.before;
  after = f.after;
  was = ap (λ (es : List Entry). l ++ y ∷ es) f.was ∙ sym (append_assoc l (y ∷ f.front) ((did, f.before) ∷ f.back));
  is = ap (λ (es : List Entry). l ++ y ∷ es) f.is ∙ sym (append_assoc l (y ∷ f.front) ((did, f.after) ∷ f.back));
  moves = f.moves;
}

pub follows_here : (did : List ℕ) (row : Row) (l : List Entry) (name : List ℕ) (x y : Account) (r : List Entry) → did ≡ name → known y ≡ Some (moved (unwrap_or (known x) fresh) row) → Follows did row (l ++ (name, x) ∷ r) (l ++ (name, y) ∷ r)
follows_here did row l name x y r is moves = record {
  front = l;
  back = r;
  before = x;
  after = y;
  was = ap (λ (text : List ℕ). l ++ (text, x) ∷ r) (sym is);
  is = ap (λ (text : List ℕ). l ++ (text, y) ∷ r) (sym is);
  moves = moves;
}

-- a row from which its DID was taken moves its account as before
pub follows_whole : (did : List ℕ) (rest row : Row) (old new : List Entry) → did ≡ did_of_row row → ((a : State) → moved a rest ≡ moved a row) → Follows did rest old new → Follows (did_of_row row) row old new
follows_whole did rest row old new is same f = record {
  front = f.front;
  back = f.back;
  before = f.before;
  after = f.after;
  was = f.was ∙ ap (λ (text : List ℕ). f.front ++ (text, f.before) ∷ f.back) is;
  is = f.is ∙ ap (λ (text : List ℕ). f.front ++ (text, f.after) ∷ f.back) is;
  moves = f.moves ∙ ap Some (same (unwrap_or (known f.before) fresh));
}

pub absent_from : {T : Type 0} → (f : T → Account) (o : Option T) (p : Option Account) → option_map f o ≡ p → is_some o ≡ false → p ≡ None
absent_from f None p e h = sym e
absent_from f (Some x) p e h = absurd cc

pub none_from : (o : Option Account) → is_some o ≡ false → o ≡ None
none_from None h = refl
none_from (Some x) h = absurd cc

-- an account that was put in its place, or not for want of memory
pub put_or_not : {X E : Type 0} → (r : Result X E) (P : List Entry → Type 0) (old made new : List Entry) → OnOk r (new ≡ made) → OnErr r (new ≡ old) → P made → P old → P new
put_or_not (Ok x) P old made new is same m o = subst P (sym is) m
put_or_not (Err x) P old made new is same m o = subst P (sym same) o

pub on_ok : {X E : Type 0} → (r : Result X E) (P Q : Type 0) → (P → Q) → OnOk r P → OnOk r Q
on_ok (Ok x) P Q f h = f h
on_ok (Err x) P Q f h = tt
