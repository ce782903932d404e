-- A sound journal whose front gives way to rows that carry it over stays sound.
use Rattle.std.proofs.Common.{◌≡◌, ℕ, Bool, true, false, ◌||◌, List, [], ◌∷◌, ◌++◌, Option, Some, None, ◌⊎◌, inl, inr, refl, ap, ◌∙◌, sym, cond, subst, append_assoc}
use Rattle.std.proofs.lemmas.Bool.{and_parts, or_parts, false≢true}
use Rattle.std.proofs.lemmas.List.{append-nil}
use Rattle.std.specs.List.{list_all, list_any}
use Rattle.std.specs.Prelude.{◌==◌}
use Rattle.at_event.specs.Refusals.{code_of}
use Rattle.at_event.specs.declared.refusal.Refusal.{Refusal}
use Rattle.relay_row.specs.Folds.{folded, names, did_of_row, is_named}
use Rattle.relay_row.specs.Journal.{IsJournal, is_carried_row}
use Rattle.relay_row.specs.Rules.{loses}
use Rattle.relay_row.specs.declared.carried.Carried.{Carried}
use Rattle.relay_row.specs.declared.carried.CarriedRepo.{CarriedRepo}
use Rattle.relay_row.specs.declared.fetched.Fetched.{Fetched}
use Rattle.relay_row.specs.declared.row.Row.{Row}
use Rattle.relay_row.specs.declared.taken.Effect.{Effect}
use Rattle.relay_row.specs.declared.taken.Taken.{Taken}
use Rattle.relay_row.proofs.Journals.{fronts}
use Rattle.account_state.specs.Folds.{account, account_after, fresh, moved, effected, lost, refetched, last_rev}
use Rattle.account_state.specs.State.{State}
use Rattle.account_state.specs.declared.repo.Repo.{Repo}
use Rattle.account_state.proofs.Joined.{joined}
use Rattle.commit_check.specs.Step.{empty_root}
use Rattle.relay_law.specs.Carried.{AreOfKnown}
use Rattle.relay_law.specs.Chains.{Part, commits, rests, nothing, effect_part, taken_part, carried_part, part_in, part_of, by_part, chains_from}
use Rattle.relay_law.specs.Laws.{CarriedStaySound}
use Rattle.relay_law.specs.Sound.{IsLinked, AreLinked}
use Rattle.relay_law.proofs.Growing.{end_root, end_more, root_by, root_now}
use Rattle.relay_law.proofs.Known.{some_name}
use Rattle.relay_law.proofs.Tracking.{IsTracked, is_account, kept_order, named_more, tracked}

-- ---- behind a front

linked_rest : (r : List ℕ) (cs ds : List (List ℕ × List ℕ)) → IsLinked r (cs ++ ds) → IsLinked (end_root r cs) ds
unfolding end_root
linked_rest r [] ds h = h
linked_rest r (c ∷ cs) ds h = linked_rest c.1 cs ds h.1

abbrev Drops : List ℕ → List Row → Type 0
Drops did rows = (r : List ℕ) (cs ds : List (List ℕ × List ℕ)) → AreLinked (chains_from did r (cs ++ ds) rows) → AreLinked (chains_from did (end_root r cs) ds rows)

drop_by : (did : List ℕ) (rows : List Row) → Drops did rows → (r : List ℕ) (cs ds : List (List ℕ × List ℕ)) (p : Part)
    → AreLinked (by_part p (λ m d. chains_from did r ((cs ++ ds) ++ (m, d) ∷ []) rows) (λ d. (r, cs ++ ds) ∷ chains_from did d [] rows) (chains_from did r (cs ++ ds) rows))
    → AreLinked (by_part p (λ m d. chains_from did (end_root r cs) (ds ++ (m, d) ∷ []) rows) (λ d. (end_root r cs, ds) ∷ chains_from did d [] rows) (chains_from did (end_root r cs) ds rows))
drop_by did rows more r cs ds (commits m d) h =
    let P : List (List ℕ × List ℕ) → Type 0 = λ es. AreLinked (chains_from did r es rows) in
    more r cs (ds ++ (m, d) ∷ []) (subst P (append_assoc cs ds ((m, d) ∷ [])) h)
drop_by did rows more r cs ds (rests d) h = (linked_rest r cs ds h.0, h.1)
drop_by did rows more r cs ds nothing h = more r cs ds h

drop_open : (did : List ℕ) (rows : List Row) → Drops did rows
drop_open did [] r cs ds h = (linked_rest r cs ds h.0, tt)
drop_open did (row ∷ rows) r cs ds h = drop_by did rows (λ q es fs k. drop_open did rows q es fs k) r cs ds (part_of did row) h

abbrev Leaves : List ℕ → List Row → List Row → Type 0
Leaves did xs ys = (r : List ℕ) (cs : List (List ℕ × List ℕ)) → AreLinked (chains_from did r cs (xs ++ ys)) → AreLinked (chains_from did (root_now did (end_root r cs) xs) [] ys)

leave_by : (did : List ℕ) (xs ys : List Row) → Leaves did xs ys → (r : List ℕ) (cs : List (List ℕ × List ℕ)) (p : Part)
    → AreLinked (by_part p (λ m d. chains_from did r (cs ++ (m, d) ∷ []) (xs ++ ys)) (λ d. (r, cs) ∷ chains_from did d [] (xs ++ ys)) (chains_from did r cs (xs ++ ys)))
    → AreLinked (chains_from did (root_now did (root_by p (end_root r cs)) xs) [] ys)
unfolding end_root
leave_by did xs ys more r cs (commits m d) h =
    let P : List ℕ → Type 0 = λ q. AreLinked (chains_from did (root_now did q xs) [] ys) in
    subst P (end_more r cs (m, d)) (more r (cs ++ (m, d) ∷ []) h)
leave_by did xs ys more r cs (rests d) h = more d [] h.1
leave_by did xs ys more r cs nothing h = more r cs h

-- the commits behind a front stand on the root that it leaves
left_linked : (did : List ℕ) (xs ys : List Row) → Leaves did xs ys
unfolding root_now
left_linked did [] ys r cs h =
    let P : List (List ℕ × List ℕ) → Type 0 = λ es. AreLinked (chains_from did r es ys) in
    drop_open did ys r cs [] (subst P (sym (append-nil cs)) h)
left_linked did (x ∷ xs) ys r cs h = leave_by did xs ys (λ q ds k. left_linked did xs ys q ds k) r cs (part_of did x) h

-- ---- behind carried rows

carried_part_no : (repo : CarriedRepo) (m d : List ℕ) → carried_part repo ≡ commits m d → ⊥
carried_part_no CarriedRepo.Missing m d h = absurd cc
carried_part_no (CarriedRepo.Good head) m d h = absurd cc
carried_part_no (CarriedRepo.Lost rev) m d h = absurd cc

carried_no : (row : Row) (m d : List ℕ) → is_carried_row row ≡ true → part_in row ≡ commits m d → ⊥
carried_no (Row.Carried (Carried.Last seq)) m d is h = absurd cc
carried_no (Row.Carried (Carried.Host host n)) m d is h = absurd cc
carried_no (Row.Carried (Carried.Account a)) m d is h = carried_part_no a.repo m d h
carried_no (Row.Taken t) m d is h = false≢true is
carried_no (Row.Synced name whole moment) m d is h = false≢true is
carried_no (Row.Operated o) m d is h = false≢true is

carry_by : (did : List ℕ) (xs ys : List Row) (r : List ℕ) → ((q : List ℕ) → AreLinked (chains_from did (root_now did q xs) [] ys) → AreLinked (chains_from did q [] (xs ++ ys)))
    → (p : Part) → ((m d : List ℕ) → p ≡ commits m d → ⊥) → AreLinked (chains_from did (root_now did (root_by p r) xs) [] ys)
    → AreLinked (by_part p (λ m d. chains_from did r ((m, d) ∷ []) (xs ++ ys)) (λ d. (r, []) ∷ chains_from did d [] (xs ++ ys)) (chains_from did r [] (xs ++ ys)))
carry_by did xs ys r more (commits m d) none h = absurd (none m d refl)
carry_by did xs ys r more (rests d) none h = (tt, more d h)
carry_by did xs ys r more nothing none h = more r h

carried_linked : (did : List ℕ) (xs ys : List Row) → list_all is_carried_row xs ≡ true → (r : List ℕ) → AreLinked (chains_from did (root_now did r xs) [] ys) → AreLinked (chains_from did r [] (xs ++ ys))
unfolding root_now
carried_linked did [] ys all r h = h
carried_linked did (x ∷ xs) ys all r h =
    let both = and_parts (is_carried_row x) (list_all is_carried_row xs) all in
    carry_by did xs ys r (λ q k. carried_linked did xs ys both.1 q k) (part_of did x) (λ m d e. carried_no x m d both.0 (some_name (names did (did_of_row x)) (part_in x) m d e).1) h

-- ---- of an account that is lost nothing is accepted before a base

abbrev IsGone : Repo → Type 0
IsGone repo = (rev : Option ℕ) × (repo ≡ Repo.Lost rev)

lost_stays : (a : State) (q : Option Refusal) → IsGone a.repo → IsGone (lost a q).repo
lost_stays a None h = h
lost_stays a (Some r) h = elim (loses (code_of r)) as (λ b. IsGone (cond b (record a { repo = Repo.Lost (last_rev a.repo) }) a).repo) [ true ↦ (last_rev a.repo, refl) | false ↦ h ]

effect_stays : (a : State) (kind : ℕ) (message : List ℕ) (x : Effect) → effect_part kind message x ≡ nothing → IsGone a.repo → IsGone (effected a x).repo
effect_stays a kind message Effect.Nothing e h = h
effect_stays a kind message (Effect.Account active status) e h = h
effect_stays a kind message (Effect.Repo head) e h =
    elim (kind == 1) as (λ b. cond b (commits message head.data_root) (rests head.data_root) ≡ nothing → IsGone (effected a (Effect.Repo head)).repo) [ true ↦ λ k. absurd cc | false ↦ λ k. absurd cc ] e

taken_stays : (a : State) (t : Taken) (f : Fetched) → taken_part t f ≡ nothing → IsGone a.repo → IsGone (refetched (lost (effected a t.effect) t.refusal) f).repo
taken_stays a t (Fetched.Whole w) e h = absurd cc
taken_stays a t Fetched.NotAsked e h = lost_stays (effected a t.effect) t.refusal (effect_stays a t.kind t.message t.effect e h)
taken_stays a t Fetched.Absent e h = lost_stays (effected a t.effect) t.refusal (effect_stays a t.kind t.message t.effect e h)
taken_stays a t (Fetched.Refused n) e h = lost_stays (effected a t.effect) t.refusal (effect_stays a t.kind t.message t.effect e h)

moved_stays : (a : State) (row : Row) → part_in row ≡ nothing → (is_account row ≡ true → ⊥) → IsGone a.repo → IsGone (moved a row).repo
moved_stays a (Row.Taken t) e new h = taken_stays a t t.fetched e h
moved_stays a (Row.Synced name whole moment) e new h = absurd cc
moved_stays a (Row.Operated o) e new h = h
moved_stays a (Row.Carried (Carried.Last seq)) e new h = h
moved_stays a (Row.Carried (Carried.Host host n)) e new h = h
moved_stays a (Row.Carried (Carried.Account b)) e new h = absurd (new refl)

named_stays : (b : Bool) (a : State) (row : Row) → cond b (part_in row) nothing ≡ nothing → (b ≡ true → is_account row ≡ true → ⊥) → IsGone a.repo → IsGone (cond b (moved a row) a).repo
named_stays true a row e new h = moved_stays a row e (new refl) h
named_stays false a row e new h = h

abbrev Rebases : List ℕ → List Row → Type 0
Rebases did rows = (before : List Row) (r s : List ℕ) → IsJournal (before ++ rows) → is_named did before ≡ true → IsGone (account did before).repo → AreOfKnown before rows → AreLinked (chains_from did r [] rows) → AreLinked (chains_from did s [] rows)

rebase_by : (did : List ℕ) (row : Row) (rows : List Row) → Rebases did rows → (before : List Row) (r s : List ℕ) → IsJournal (before ++ row ∷ rows) → is_named did before ≡ true → IsGone (account did before).repo → AreOfKnown before (row ∷ rows)
    → (p : Part) → part_of did row ≡ p
    → AreLinked (by_part p (λ m d. chains_from did r ((m, d) ∷ []) rows) (λ d. (r, []) ∷ chains_from did d [] rows) (chains_from did r [] rows))
    → AreLinked (by_part p (λ m d. chains_from did s ((m, d) ∷ []) rows) (λ d. (s, []) ∷ chains_from did d [] rows) (chains_from did s [] rows))
rebase_by did row rows more before r s journal named gone known (commits m d) e h = absurd (known.0 did m d gone.0 e gone.1)
rebase_by did row rows more before r s journal named gone known (rests d) e h = (tt, h.1)
rebase_by did row rows more before r s journal named gone known nothing e h =
    let P : List Row → Type 0 = λ R. IsJournal R in
    let Q : State → Type 0 = λ a. IsGone a.repo in
    let still : is_named did (before ++ row ∷ []) ≡ true = named_more did before row ∙ ap (λ (b : Bool). b || names did (did_of_row row)) named in
    let new : names did (did_of_row row) ≡ true → is_account row ≡ true → ⊥ = λ its is. false≢true (sym (kept_order did before row (journal.ordered before row rows refl) is its) ∙ named) in
    more (before ++ row ∷ []) r s (subst P (sym (append_assoc before (row ∷ []) rows)) journal) still
    (subst Q (sym (joined did before (row ∷ []))) (named_stays (names did (did_of_row row)) (account did before) row e new gone)) known.1 h

rebased : (did : List ℕ) (rows : List Row) → Rebases did rows
rebased did [] before r s journal named gone known h = (tt, tt)
rebased did (row ∷ rows) before r s journal named gone known h =
    rebase_by did row rows (λ K q u. rebased did rows K q u) before r s journal named gone known (part_of did row) refl h

-- ---- together

unnamed_from : (did : List ℕ) (a : State) (rows : List Row) → list_any (λ row. names did (did_of_row row)) rows ≡ false → folded (account_after did) a rows ≡ a
unnamed_from did a [] h = refl
unnamed_from did a (row ∷ rows) h =
    let both = or_parts (names did (did_of_row row)) (list_any (λ r. names did (did_of_row r)) rows) h in
    ap (λ (b : Bool). folded (account_after did) (cond b (moved a row) a) rows) both.0 ∙ unnamed_from did a rows both.1

gone_named : (did : List ℕ) (rows : List Row) → IsGone (account did rows).repo → is_named did rows ≡ true
unfolding account is_named
gone_named did rows gone =
    elim (list_any (λ row. names did (did_of_row row)) rows) as (λ b. list_any (λ row. names did (did_of_row row)) rows ≡ b → b ≡ true) [
      | true ↦ λ e. refl
      | false ↦ λ e. let none : Repo.Missing ≡ Repo.Lost gone.0 = ap (λ (a : State). a.repo) (sym (unnamed_from did fresh rows e)) ∙ gone.1 in absurd cc
    ] refl

one_root : (repo : Repo) (p q : List ℕ) → IsTracked repo p → IsTracked repo q → (p ≡ q) ⊎ IsGone repo
one_root (Repo.Good head) p q a b = inl (sym a ∙ b)
one_root Repo.Missing p q a b = inl (sym a ∙ b)
one_root (Repo.Lost rev) p q a b = inr (rev, refl)

pub carried_sound : CarriedStaySound
unfolding end_root
carried_sound front others carried journal sound known over did =
    let p = root_now did empty_root front in
    let q = root_now did empty_root carried in
    let here : AreLinked (chains_from did p [] others) = left_linked did front others empty_root [] (sound did) in
    let P : State → Type 0 = λ a. IsTracked a.repo q in
    let there : IsTracked (account did front).repo q = subst P (over.accounts did) (tracked did carried over.journal) in
    let Q : List ℕ → Type 0 = λ r. AreLinked (chains_from did r [] others) in
    carried_linked did carried others over.are_carried empty_root (elim (one_root (account did front).repo p q (tracked did front (fronts front others journal)) there) [
      | inl same ↦ subst Q same here
      | inr gone ↦ rebased did others front p q journal (gone_named did front gone) gone known here
    ])
