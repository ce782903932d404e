-- A key that follows another: how much of it is shared is told by one byte.
use Rattle.std.proofs.Common.{◌≡◌, ℕ, zero, suc, ◌+◌, ◌-◌, ◌≤◌, Bool, true, false, cond, ltb, leb, eqb, ◌&&◌, List, [], ◌∷◌, ◌++◌, length, take, drop, refl, ap, Less, Equal, Greater, arith, one-add, length-drop}
use Rattle.std.specs.Ordering.{nat_cmp, ordering_then}
use Rattle.std.specs.Cmp.Lexicographic.{slice_cmp}
use Rattle.std.proofs.lemmas.Bool.{le-leb}
use Rattle.std.proofs.lemmas.Bool.Decides.{nat_tests}
use Rattle.at_cid.specs.Order.{key_cmp}
use Rattle.mst_list.specs.declared.item.TheConstants.{MOST_KEY_BYTES}
use Rattle.mst_node.specs.NodeBytes.{shared}
use Rattle.mst_node.specs.Taking.{goes_above, may_follow}
use Rattle.mst_node.proofs.Encoding.{shared_at_most}

-- what is true of a key that follows
pub record Follows (last : List ℕ) (count : ℕ) (tail : List ℕ) : Type 0 where
  pub same : shared last (take count last ++ tail) ≡ count
  pub other : drop count (take count last ++ tail) ≡ tail
  pub above : key_cmp last (take count last ++ tail) ≡ Less

cmp_first : (x y : ℕ) → ltb x y ≡ true → nat_cmp x y ≡ Less
cmp_first x y t = rw t refl

eqb_self : (x : ℕ) → eqb x x ≡ true
eqb_self x = grind (arith, nat_tests)

ltb_self : (x : ℕ) → ltb x x ≡ false
ltb_self x = grind (arith, nat_tests)

follows : (last : List ℕ) (count : ℕ) (tail : List ℕ) → count ≤ length last → goes_above (drop count last) tail ≡ true → Follows last count tail
unfolding key_cmp
follows last count [] within t = absurd cc
follows [] zero (y ∷ tail) within t = record { same = refl; other = refl; above = refl }
follows [] (suc n) (y ∷ tail) within t = absurd (omega arith)
follows (x ∷ last) zero (y ∷ tail) within t =
    let less : ltb x y ≡ true = t in
    let unlike : eqb x y ≡ false = grind (arith, nat_tests) in
    record { same = rw unlike refl; other = refl; above = rw less refl }
follows (x ∷ last) (suc n) (y ∷ tail) within t =
    let f = follows last n (y ∷ tail) (omega arith) t in
    record {
      same = rw (eqb_self x, one-add) (ap suc f.same);
      other = f.other;
      above = rw (ltb_self x, eqb_self x) f.above;
    }

some_above : (other tail : List ℕ) → goes_above other tail ≡ true → 1 ≤ length tail
some_above other [] t = absurd cc
some_above other (y ∷ tail) t = omega arith

both : (a b : Bool) → (a && b) ≡ true → (a ≡ true) × (b ≡ true)
both true b e = (refl, e)
both false b e = absurd cc

join : (a b : Bool) → a ≡ true → b ≡ true → (a && b) ≡ true
join a b x y = rw (x, y) refl

-- the key has at most the most bytes of a key
pub record MayFollow (last : List ℕ) (count : ℕ) (tail : List ℕ) : Type 0 where
  pub within : count ≤ length last
  pub some : 1 ≤ length tail
  pub short : count + length tail ≤ MOST_KEY_BYTES
  pub follows : Follows last count tail

pub test_follows : (last : List ℕ) (count : ℕ) (tail : List ℕ) → may_follow last count tail ≡ true → MayFollow last count tail
test_follows last count tail t =
    let a = both (leb count (length last)) _ t in
    let b = both (leb (length tail) MOST_KEY_BYTES) _ a.1 in
    let c = both (leb count (MOST_KEY_BYTES - length tail)) (goes_above (drop count last) tail) b.1 in
    let within : count ≤ length last = grind (arith, nat_tests) in
    let most : length tail ≤ MOST_KEY_BYTES = grind (arith, nat_tests) in
    let room : count ≤ MOST_KEY_BYTES - length tail = grind (arith, nat_tests) in
    record { within = within; some = some_above (drop count last) tail c.1; short = omega arith; follows = follows last count tail within c.1 }

-- a key above another goes on so
pub record Shares (last key : List ℕ) : Type 0 where
  pub within : shared last key ≤ length last
  pub above : goes_above (drop (shared last key) last) (drop (shared last key) key) ≡ true

shares_on : (x y : ℕ) (last key : List ℕ) (l e : Bool) → ltb x y ≡ l → eqb x y ≡ e → (slice_cmp nat_cmp last key ≡ Less → Shares last key)
    → ordering_then (cond l Less (cond e Equal Greater)) (slice_cmp nat_cmp last key) ≡ Less → Shares (x ∷ last) (y ∷ key)
shares_on x y last key true true lt eq more less = absurd (grind (arith, nat_tests))
shares_on x y last key true false lt eq more less = record { within = rw eq (omega arith); above = rw eq lt }
shares_on x y last key false true lt eq more less =
    let s = more less in let within = s.within in
    record { within = rw eq (omega arith); above = rw (eq, one-add) s.above }
shares_on x y last key false false lt eq more less = absurd cc

pub shares : (last key : List ℕ) → key_cmp last key ≡ Less → Shares last key
unfolding key_cmp
shares [] [] less = absurd cc
shares [] (y ∷ key) less = record { within = omega arith; above = refl }
shares (x ∷ last) [] less = absurd cc
shares (x ∷ last) (y ∷ key) less = shares_on x y last key (ltb x y) (eqb x y) refl refl (shares last key) less

pub follows_test : (last key : List ℕ) → length key ≤ MOST_KEY_BYTES → key_cmp last key ≡ Less → may_follow last (shared last key) (drop (shared last key) key) ≡ true
follows_test last key most less =
    let s = shares last key less in let p = shared last key in let tail = drop (shared last key) key in
    let len = length-drop (shared last key) key in let least = shared_at_most last key in
    let within : leb (shared last key) (length last) ≡ true = le-leb _ _ s.within in
    let short : leb (length (drop (shared last key) key)) MOST_KEY_BYTES ≡ true = le-leb _ _ (omega arith) in
    let room : leb (shared last key) (MOST_KEY_BYTES - length (drop (shared last key) key)) ≡ true = le-leb _ _ (omega arith) in
    join _ _ within (join _ _ short (join _ _ room s.above))
