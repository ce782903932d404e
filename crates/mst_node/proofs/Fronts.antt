-- What a hasher was given is the front of each key of a run.
use Rattle.std.proofs.Common.{arith, ◌≡◌, ◌<◌, ◌+◌, ℕ, Bool, true, List, [], ◌++◌, length, get_or, take, drop, refl, sym, ◌∙◌}
use Rattle.std.specs.List.{list_all}
use Rattle.std.specs.Prelude.{◌&&◌, map}
use Rattle.std.proofs.lemmas.List.{take-append-drop, drop-map, take-map}
use Rattle.std.proofs.lemmas.List.Elements.{All-take, All-drop, All-more}
use Rattle.std.proofs.lemmas.List.Folds.{list_all-append}
use Rattle.std.proofs.Math.Seq.{take-add}
use Rattle.sha2.specs.declared.Sha256.{Sha256}
use Rattle.sha2.specs.Hashers.{Holds256}
use Rattle.mst_node.specs.declared.entry.Entry.{Entry}
use Rattle.mst_node.specs.Fronts.{HoldsFront, HoldsFronts, HasBlock, HaveBlock}

-- a key is its front and what lies behind
pub front_whole : (n : ℕ) (k : List ℕ) → take n k ++ drop n k ≡ k
front_whole n k = take-append-drop n k

-- a hasher that was given nothing holds the first 0 bytes of each key
pub none_held : {X : Type 0} (entry : X → Entry) (s : Sha256) → Holds256 s [] → (xs : List X) → HoldsFronts entry s 0 xs
none_held entry s h xs k d l = (omega arith, h)

-- the block that a key has behind a front is given to the hasher that holds the front
front_goes_on : (s t : Sha256) (n : ℕ) (b k : List ℕ) → ((front : List ℕ) → Holds256 s front → Holds256 t (front ++ b)) → HoldsFront s n k → HasBlock n b k → HoldsFront t (n + 64) k
front_goes_on s t n b k more held has = (has.0, rw (take-add n 64 k, has.1) (more (take n k) held.1))

-- the same of a run of entries
pub run_held : {X : Type 0} (entry : X → Entry) (s t : Sha256) (n : ℕ) (b : List ℕ) (c : ℕ) (xs ys : List X) → ((front : List ℕ) → Holds256 s front → Holds256 t (front ++ b))
    → ys ≡ take c xs → HoldsFronts entry s n xs → HaveBlock entry n b (take c xs) → HoldsFronts entry t (n + 64) ys
run_held entry s t n b c xs ys more is held has =
    rw is (λ k d l. front_goes_on s t n b _ more (All-take (λ e. HoldsFront s n (entry e).key) c xs held k d l) (has k d l))

-- a run that is an entry longer
pub run_grows : {X : Type 0} (entry : X → Entry) (n : ℕ) (b k : List ℕ) (xs : List X) (i : ℕ) (x : X) → i < length xs → x ≡ get_or xs i x → k ≡ (entry x).key → HasBlock n b k
    → HaveBlock entry n b (take i xs) → HaveBlock entry n b (take (i + 1) xs)
run_grows entry n b k xs i x lt is key has alike =
    All-more (λ e. HasBlock n b (entry e).key) xs i x lt alike (rw (sym is, sym key) has)

-- what is behind a run
pub behind_held : {X : Type 0} (entry : X → Entry) (s : Sha256) (n c : ℕ) (xs : List X) → HoldsFronts entry s n xs → HoldsFronts entry s n (drop c xs)
behind_held entry s n c xs held = All-drop (λ e. HoldsFront s n (entry e).key) c xs held

-- all is what is true of a run and of what is behind it
all_split : {X : Type 0} (entry : X → Entry) (p : Entry → Bool) (c : ℕ) (xs : List X) → list_all p (map entry (take c xs)) && list_all p (map entry (drop c xs)) ≡ list_all p (map entry xs)
all_split entry p c xs =
    rw (sym (take-map entry c xs), sym (drop-map entry c xs))
    (sym (list_all-append p (take c (map entry xs)) (drop c (map entry xs))) ∙ rw (take-append-drop c (map entry xs)) refl)

-- behind a run of which it is true
pub run_stands : {X : Type 0} (entry : X → Entry) (p : Entry → Bool) (c : ℕ) (xs : List X) → list_all p (map entry (take c xs)) ≡ true → list_all p (map entry (drop c xs)) ≡ list_all p (map entry xs)
run_stands entry p c xs e = (rw e at (all_split entry p c xs))
