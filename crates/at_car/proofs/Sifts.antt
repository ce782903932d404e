-- Blocks, sifted one after the other.
use Rattle.std.proofs.Common.{◌≡◌, ◌++◌, ℕ, List, [], ◌∷◌, map, Bool, true, false, cond, Option, Some, None, refl, sym, ap, ◌∙◌}
use Rattle.std.specs.Prelude.{is_some, not, ◌||◌, option_map}
use Rattle.std.specs.Ordering.{eq_by_cmp}
use Rattle.std.specs.FinMap.{find, get, from_entries, get-from_entries, same_map}
use Rattle.std.specs.Str.{bytes_eq}
use Rattle.std.proofs.lemmas.Slice.Eq.{bytes_eq-Decides}
use Rattle.std.proofs.lemmas.Bool.Decides.{same_from_decides}
use Rattle.at_cid.specs.Order.{key_cmp}
use Rattle.at_cid.specs.OrderLaws.{key_total}
use Rattle.at_cid.proofs.Order.{cmp_exact}
use Rattle.at_car.specs.declared.sifting.Sifted.{Sifted}
use Rattle.at_car.specs.Blocks.{BlockMap, kept}
use Rattle.at_car.specs.Sections.{Section}
use Rattle.at_car.specs.Links.{has}
use Rattle.at_car.specs.Logs.{Told, held as the_held, was_let_go}
use Rattle.at_car.specs.Sifting.{picked, is_passed, block_at, is_root, IsSifted, sift, HoldsSifted}
use Rattle.at_car.proofs.Same.{same_link, link_same}
use Rattle.at_car.proofs.Keeping.{or_else, get_kept, placed, tied}

two_tests : (q k : List ℕ) → bytes_eq q k ≡ eq_by_cmp key_cmp q k
two_tests q k = same_from_decides (bytes_eq q k) (eq_by_cmp key_cmp q k) (bytes_eq-Decides q k) (same_link q k, link_same q k)

-- a link is held exactly where it has a block
pub held : (picks : List ℕ → Bool) (o : Option (List ℕ)) → (is_some (picked picks o) || is_passed picks o) ≡ is_some o
held picks None = refl
held picks (Some b) = elim (picks b) as (λ t. (is_some (cond t (Some b) None) || not t) ≡ true) [ true ↦ refl | false ↦ refl ]

-- ---- one more at the end

abbrev first_of : {A : Type 0} → Option A → Option A → Option A
first_of None other = other
first_of (Some x) other = Some x

pub find_end : {A : Type 0} (q k : List ℕ) (x : A) (es : List (List ℕ × A)) → find key_cmp q (es ++ (k, x) ∷ []) ≡ first_of (find key_cmp q es) (cond (eq_by_cmp key_cmp q k) (Some x) None)
find_end q k x [] = refl
find_end q k x (e ∷ es) =
    ap (cond (eq_by_cmp key_cmp q e.0) (Some e.1)) (find_end q k x es)
    ∙ elim (eq_by_cmp key_cmp q e.0) as (λ t. cond t (Some e.1) (first_of (find key_cmp q es) (cond (eq_by_cmp key_cmp q k) (Some x) None)) ≡ first_of (cond t (Some e.1) (find key_cmp q es)) (cond (eq_by_cmp key_cmp q k) (Some x) None)) [ true ↦ refl | false ↦ refl ]

get_more : (q k v : List ℕ) (m : BlockMap) → get (kept m k v) q ≡ first_of (get m q) (cond (eq_by_cmp key_cmp q k) (Some v) None)
get_more q k v m = get_kept q k v m ∙ go (get m q) (cond (is_some (get m k)) (get m q) (cond (eq_by_cmp key_cmp q k) (Some v) (get m q))) (placed q k v m (is_some (get m k)) (eq_by_cmp key_cmp q k) refl (tied q k m) None)
  where
    go : (g l : Option (List ℕ)) → or_else l None ≡ or_else g (cond (eq_by_cmp key_cmp q k) (Some v) None) → l ≡ first_of g (cond (eq_by_cmp key_cmp q k) (Some v) None)
    go None None h = h
    go None (Some l) h = h
    go (Some g) None h = h
    go (Some g) (Some l) h = h

pub more_sections : (ss : List Section) (k v : List ℕ) → from_entries {R = key_cmp} (ss ++ (k, v) ∷ []) ≡ kept (from_entries ss) k v
more_sections ss k v = same_map key_total cmp_exact _ _ (λ q.
    get-from_entries key_total (ss ++ (k, v) ∷ []) q ∙ find_end q k v ss
    ∙ ap (λ o. first_of o (cond (eq_by_cmp key_cmp q k) (Some v) None)) (sym (get-from_entries key_total ss q))
    ∙ sym (get_more q k v (from_entries ss)))

-- ---- one block more is sifted

pub sift_next : (picks : List ℕ → Bool) (root : Option (List ℕ)) (blocks : BlockMap) (old new : Sifted) (link block : List ℕ) (keeps : Bool) (made : Option (List ℕ)) → keeps ≡ picks block
    → made ≡ cond (is_some old.first) None (cond (is_root root link) (Some block) None) → new.first ≡ cond (is_some made) made old.first → new.log ≡ old.log ++ (link, cond keeps (Some block) None) ∷ []
    → HoldsSifted picks root blocks old → HoldsSifted picks root (kept blocks link block) new
sift_next picks root blocks old new link block keeps made k m f l h = record { first_is = f ∙ firsts made old.first m h.first_is; log_is = logs }
  where
    at_root : (root : Option (List ℕ)) → first_of (block_at root blocks) (cond (is_root root link) (Some block) None) ≡ block_at root (kept blocks link block)
    at_root None = refl
    at_root (Some r) = ap (λ t. first_of (get blocks r) (cond t (Some block) None)) (two_tests r link) ∙ sym (get_more r link block blocks)

    or_made : (first made made_now : Option (List ℕ)) → made ≡ cond (is_some first) None made_now → cond (is_some made) made first ≡ first_of first made_now
    or_made (Some b) made now e = ap (λ o. cond (is_some o) o (Some b)) e
    or_made None made now e = ap (λ o. cond (is_some o) o None) e ∙ elim now as (λ o. cond (is_some o) o None ≡ o) [ None ↦ refl | Some b ↦ refl ]

    firsts : (made first : Option (List ℕ)) → made ≡ cond (is_some first) None (cond (is_root root link) (Some block) None) → first ≡ block_at root blocks → cond (is_some made) made first ≡ block_at root (kept blocks link block)
    firsts made first e is = or_made first made (cond (is_root root link) (Some block) None) e ∙ ap (λ o. first_of o (cond (is_root root link) (Some block) None)) is ∙ at_root root

    logs : (c : List ℕ) → find key_cmp c new.log ≡ option_map (sift picks) (get (kept blocks link block) c)
    logs c =
        ap (find key_cmp c) l ∙ find_end c link (cond keeps (Some block) None) old.log
        ∙ ap (λ o. first_of o (cond (eq_by_cmp key_cmp c link) (Some (cond keeps (Some block) None)) None)) (h.log_is c)
        ∙ ap (λ t. first_of (option_map (sift picks) (get blocks c)) (cond (eq_by_cmp key_cmp c link) (Some (cond t (Some block) None)) None)) k
        ∙ elim (eq_by_cmp key_cmp c link) as (λ t. first_of (option_map (sift picks) (get blocks c)) (cond t (Some (sift picks block)) None) ≡ option_map (sift picks) (first_of (get blocks c) (cond t (Some block) None))) [ true ↦ over (get blocks c) (Some block) | false ↦ over (get blocks c) None ]
        ∙ ap (option_map (sift picks)) (sym (get_more c link block blocks))
      where
        over : (o p : Option (List ℕ)) → first_of (option_map (sift picks) o) (option_map (sift picks) p) ≡ option_map (sift picks) (first_of o p)
        over None p = refl
        over (Some b) p = refl

-- the same is told of each link
pub same_holds : (picks : List ℕ → Bool) (root : Option (List ℕ)) (blocks : BlockMap) (old new : Sifted) → new.first ≡ old.first → ((c : List ℕ) → find key_cmp c new.log ≡ find key_cmp c old.log) → HoldsSifted picks root blocks old → HoldsSifted picks root blocks new
same_holds picks root blocks old new f l h = record { first_is = f ∙ h.first_is; log_is = λ c. l c ∙ h.log_is c }

-- ---- in the end

pub sifted_out : (picks : List ℕ → Bool) (root : Option (List ℕ)) (blocks : BlockMap) (sifted : Sifted) (nodes : BlockMap) (others : List (List ℕ)) → ((c : List ℕ) → get nodes c ≡ the_held (find key_cmp c sifted.log))
    → ((c : List ℕ) → has others c ≡ was_let_go (find key_cmp c sifted.log)) → HoldsSifted picks root blocks sifted → IsSifted picks root blocks sifted.first nodes others
sifted_out picks root blocks sifted nodes others n o h = record {
  first_is = h.first_is;
  nodes_are = λ c. n c ∙ ap the_held (h.log_is c) ∙ elim (get blocks c) as (λ b. the_held (option_map (sift picks) b) ≡ picked picks b) [ None ↦ refl | Some b ↦ refl ];
  others_are = λ c. o c ∙ ap was_let_go (h.log_is c) ∙ elim (get blocks c) as (λ b. was_let_go (option_map (sift picks) b) ≡ is_passed picks b) [
    | None ↦ refl
    | Some b ↦ elim (picks b) as (λ t. was_let_go (Some (cond t (Some b) None)) ≡ not t) [ true ↦ refl | false ↦ refl ]
  ];
}

abbrev pub whole : Section → Told
whole s = (s.0, Some s.1)

pub whole_end : (ss : List Section) (s : Section) → map whole (ss ++ s ∷ []) ≡ map whole ss ++ whole s ∷ []
whole_end [] s = refl
whole_end (x ∷ ss) s = ap (λ l. whole x ∷ l) (whole_end ss s)

-- of sections that were all held
pub all_out : (ss : List Section) (nodes : BlockMap) (log : List (List ℕ × Option (List ℕ))) → log ≡ map whole ss → ((c : List ℕ) → get nodes c ≡ the_held (find key_cmp c log)) → nodes ≡ from_entries ss
all_out ss nodes log e n = same_map key_total cmp_exact _ _ (λ q. n q ∙ ap (λ l. the_held (find key_cmp q l)) e ∙ each q ss ∙ sym (get-from_entries key_total ss q))
  where
    each : (q : List ℕ) (ss : List Section) → the_held (find key_cmp q (map whole ss)) ≡ find key_cmp q ss
    each q [] = refl
    each q (s ∷ ss) = elim (eq_by_cmp key_cmp q s.0) as (λ t. the_held (cond t (Some (Some s.1)) (find key_cmp q (map whole ss))) ≡ cond t (Some s.1) (find key_cmp q ss)) [ true ↦ refl | false ↦ each q ss ]
