-- What a fetch finds, and what is asked for it.
use Rattle.std.proofs.Common.{◌≡◌, ℕ, ◌+◌, ◌<◌, ◌≤◌, ◌^◌, ◌-◌, min, Bool, true, false, cond, List, [], ◌∷◌, Option, Some, None, Ok, Err, refl, sym, ap, ◌∙◌, subst, arith}
use Rattle.std.specs.Prelude.{IsTrue}
use Rattle.std.specs.FinMap as map
use Rattle.at_authority.specs.Calls.{Call, answers, IsCall}
use Rattle.at_authority.specs.Panels.{Panel}
use Rattle.at_authority.specs.Queries.{asks_verdict}
use Rattle.at_car.specs.Blocks.{BlockMap, IsLinkOf}
use Rattle.at_car.specs.Car.{car_of}
use Rattle.at_car.specs.Sifting.{block_at}
use Rattle.at_car.specs.Standing.{root_of}
use Rattle.at_cid.specs.Link.{IsBytes}
use Rattle.at_cid.specs.Order.{key_cmp}
use Rattle.event_checks.specs.Opening.{IsFound, block_in, object_in_block, read_object, root_in}
use Rattle.relay_io.specs.Repositories.{IsOpened}
use Rattle.relay_row.specs.Rules.{is_head}
use Rattle.relay_core.specs.Decide.{Found, absent, unfit, found, is_ahead}
use Rattle.relay_core.specs.declared.limits.TheConstants.{FETCHED_AHEAD, FETCHED_UNSIGNED}
use Rattle.relay_law.proofs.Heads.{found_head}
use Rattle.repo_sync.specs.Checks.{IsRefused}
use Rattle.repo_sync.specs.Faults.{fault_number}
use Rattle.repo_sync.specs.Repository.{IsAnswer, IsWhole}
use Rattle.repo_sync.specs.declared.fault.RepoFault.{RepoFault}
use Rattle.repo_sync.specs.declared.found.Found.{Found as Checked}
use Rattle.repo_sync.proofs.Linked.{car_linked}
use Rattle.relay_step.specs.Commands.{IsJudged}
use Rattle.relay_step.specs.Fetches.{IsJudgedAs, IsOfBytes, MayBeKept, judged_as, refused_as}
use Rattle.relay_step.specs.Fetching.{AnsweredFetch, AreBytes, IsFetchedAs, IsFetchedFrom, told_where}

-- ---- what the bytes of a repository hold

module _ (did : List ℕ) (least : Option ℕ) (checked : Checked) (of : IsOfBytes did least checked) where
  block_is : checked.block ≡ of.whole.holds.block
  block_is = ap (λ (k : Checked). k.block) of.whole.found_is

  link_is : checked.head.commit ≡ of.whole.holds.link
  link_is = ap (λ (k : Checked). k.head.commit) of.whole.found_is

  pub linked_to : IsLinkOf checked.head.commit checked.block
  linked_to =
      let h = of.whole.holds in
      let all = car_linked of.bytes h.roots h.blocks of.are h.car in
      let P : List ℕ → Type 0 = λ l. IsLinkOf l checked.block in
      let Q : List ℕ → Type 0 = λ b. IsLinkOf h.link b in
      subst P (sym link_is) (subst Q (sym block_is) (all h.link h.block h.there))

  under_root : (o : Option (List ℕ)) (link block : List ℕ) (blocks : BlockMap) → o ≡ Some link → map.get {R = key_cmp} blocks link ≡ Some block → block_at o blocks ≡ Some block
  under_root o link block blocks is there = ap (λ (r : Option (List ℕ)). block_at r blocks) is ∙ there

  found_in_car : IsFound (car_of of.bytes) of.whole.holds.link of.whole.holds.block of.whole.holds.commit
  found_in_car =
      let h = of.whole.holds in
      let block : block_in (car_of of.bytes) ≡ Some h.block = ap block_in h.car ∙ under_root (root_of h.roots) h.link h.block h.blocks h.root h.there in
      record {
        root_is = ap root_in h.car ∙ h.root;
        block_is = block;
        object_is = ap object_in_block block ∙ ap read_object h.object;
      }

  pub head_kept : checked.head.rev < 2 ^ 64 → is_head checked.head ≡ true
  head_kept below =
      let P : List ℕ → Type 0 = λ l. IsFound (car_of of.bytes) l of.whole.holds.block of.whole.holds.commit in
      found_head of.bytes checked.head.rev checked.head of.are below (record {
        block = of.whole.holds.block;
        commit = of.whole.holds.commit;
        found = subst P (sym link_is) found_in_car;
        rev_is = refl;
        data_is = ap (λ (k : Checked). k.head.data_root) of.whole.found_is;
      })

-- ---- a repository that is refused

-- it is neither running out of memory nor a failed read
abbrev pub is_quiet : RepoFault → Bool
is_quiet RepoFault.Memory = true
is_quiet RepoFault.Failed = true
is_quiet fault = false

may_refused : (fault : RepoFault) → is_quiet fault ≡ false → MayBeKept (unfit (fault_number fault))
may_refused RepoFault.Memory loud = absurd cc
may_refused RepoFault.Failed loud = absurd cc
may_refused fault loud = refl

answer_of : (did : List ℕ) (least : Option ℕ) (bytes : List ℕ) (fault : RepoFault) → is_quiet fault ≡ false → IsRefused did least bytes fault → IsAnswer did least bytes (Err fault)
answer_of did least bytes RepoFault.Memory loud is = absurd cc
answer_of did least bytes RepoFault.Failed loud is = absurd cc
answer_of did least bytes fault loud is = is

refused_is : (fault : RepoFault) (n : ℕ) → Some n ≡ refused_as fault → (is_quiet fault ≡ false) × (n ≡ fault_number fault)
refused_is RepoFault.Memory n h = absurd cc
refused_is RepoFault.Failed n h = absurd cc
refused_is RepoFault.BadCar n h = (refl, cc)
refused_is RepoFault.NoCommit n h = (refl, cc)
refused_is RepoFault.BadCommit n h = (refl, cc)
refused_is RepoFault.OtherDid n h = (refl, cc)
refused_is (RepoFault.Lagging rev) n h = (refl, cc)
refused_is (RepoFault.NotWhole c) n h = (refl, cc)
refused_is (RepoFault.BadNode c) n h = (refl, cc)
refused_is RepoFault.TooLong n h = (refl, cc)
refused_is RepoFault.BadSignature n h = (refl, cc)

-- ---- what is found

fetched_none : (o : Option (List ℕ)) (left did : List ℕ) (least : Option ℕ) (moment : ℕ) → IsOpened o false left → IsFetchedFrom o did least moment absent []
fetched_none None left did least moment is = (refl, refl)
fetched_none (Some bytes) left did least moment is = absurd (false_true is.0)
  where
    false_true : ◌≡◌ {A = Bool} false true → ⊥
    false_true h = absurd cc

opened_as : (o : Option (List ℕ)) (left did : List ℕ) (least : Option ℕ) (moment : ℕ) (f : Found) (calls : List Call) → IsOpened o true left → IsFetchedFrom (Some left) did least moment f calls → IsFetchedFrom o did least moment f calls
opened_as None left did least moment f calls is from = absurd (true_false is.0)
  where
    true_false : ◌≡◌ {A = Bool} true false → ⊥
    true_false h = absurd cc
opened_as (Some bytes) left did least moment f calls is from = let P : List ℕ → Type 0 = λ b. IsFetchedFrom (Some b) did least moment f calls in subst P is.1 from

-- of the repository that is told, or else of some
fetched_as_told : (tells : Bool) (o some : Option (List ℕ)) (did : List ℕ) (least : Option ℕ) (moment : ℕ) (f : Found) (calls : List Call) → (IsTrue tells → IsFetchedFrom o did least moment f calls) → AreBytes some
    → IsFetchedFrom some did least moment f calls → IsFetchedAs (told_where tells o) did least moment f calls
fetched_as_told true o some did least moment f calls told are from = told refl
fetched_as_told false o some did least moment f calls told are from = (some, are, from)

module _ (tells : Bool) (o : Option (List ℕ)) (left did : List ℕ) (least : Option ℕ) (moment : ℕ) (is_open : Bool) (opened : IsTrue tells → IsOpened o is_open left) where
  opened_at : (b : Bool) → is_open ≡ b → IsTrue tells → IsOpened o b left
  opened_at b same told = let P : Bool → Type 0 = λ c. IsOpened o c left in subst P same (opened told)

  pub absent_fetched : is_open ≡ false → (old : Panel) → AnsweredFetch (told_where tells o) did least moment old absent old
  absent_fetched same old = record {
    calls = [];
    fetched = fetched_as_told tells o None did least moment absent [] (λ told. fetched_none o left did least moment (opened_at false same told)) tt (refl, refl);
    made = refl;
  }

  -- what the bytes come to, told and untold
  found_fetched : is_open ≡ true → (f : Found) (calls : List Call) (bytes : List ℕ) → IsBytes bytes → (IsTrue tells → IsFetchedFrom (Some left) did least moment f calls) → IsFetchedFrom (Some bytes) did least moment f calls
      → IsFetchedAs (told_where tells o) did least moment f calls
  found_fetched same f calls bytes are told some =
      fetched_as_told tells o (Some bytes) did least moment f calls (λ t. opened_as o left did least moment f calls (opened_at true same t) (told t)) are some

  pub judged_fetched : is_open ≡ true → (old new : Panel) (checked : Checked) (number : Option ℕ) → (IsTrue tells → IsWhole did least left checked) → IsOfBytes did least checked
      → IsJudgedAs did moment checked (judged_as checked number) old new → (as_told : Option ℕ) → number ≡ as_told → AnsweredFetch (told_where tells o) did least moment old (judged_as checked as_told) new
  judged_fetched same old new checked number whole of is as_told told_is =
      subst (λ (n : Option ℕ). AnsweredFetch (told_where tells o) did least moment old (judged_as checked n) new) told_is (record {
        calls = is.calls;
        fetched = found_fetched same (judged_as checked number) is.calls of.bytes of.are (λ told. (Ok checked, is.good, whole told, is.is)) (Ok checked, is.good, of.whole, is.is);
        made = is.made;
      })

  -- a verdict is asked on it
  pub judged_told : is_open ≡ true → (checked : Checked) → (IsTrue tells → IsWhole did least left checked) → is_ahead checked.head.rev (Some moment) ≡ false → IsTrue tells → IsJudged o did least moment
  judged_told same checked whole near told = at o (opened_at true same told)
    where
      at : (p : Option (List ℕ)) → IsOpened p true left → IsJudged p did least moment
      at None is = absurd (true_false is.0)
        where
          true_false : ◌≡◌ {A = Bool} true false → ⊥
          true_false h = absurd cc
      at (Some bytes) is = let P : List ℕ → Type 0 = λ b. IsWhole did least b checked in (checked, subst P is.1 (whole told), near)

  pub refused_fetched : is_open ≡ true → (fault : RepoFault) (n : ℕ) (bytes : List ℕ) (old : Panel) → Some n ≡ refused_as fault → IsBytes bytes → IsRefused did least bytes fault → (IsTrue tells → IsRefused did least left fault)
      → AnsweredFetch (told_where tells o) did least moment old (unfit n) old
  refused_fetched same fault n bytes old h are some told =
      let both = refused_is fault n h in
      let at : (b : List ℕ) → IsRefused did least b fault → IsFetchedFrom (Some b) did least moment (unfit n) [] =
      λ b is. (Err fault, true, answer_of did least b fault both.0 is, ap (λ (k : ℕ). (unfit k, [])) (sym both.1)) in
      record { calls = []; fetched = found_fetched same (unfit n) [] bytes are (λ t. at left (told t)) (at bytes some); made = refl }

-- ---- what is judged, and asked

pub judged_ahead : (did : List ℕ) (moment : ℕ) (checked : Checked) (old : Panel) → is_ahead checked.head.rev (Some moment) ≡ true → IsJudgedAs did moment checked (unfit FETCHED_AHEAD) old old
judged_ahead did moment checked old h = record {
  calls = [];
  good = true;
  is = ap (λ b. cond {A = Found × List Call} b (unfit FETCHED_AHEAD, []) (found checked.head checked.records checked.block, answers (asks_verdict did checked.digest checked.sig) true ∷ [])) h;
  made = refl;
}

pub judged_near : (did : List ℕ) (moment : ℕ) (good told : Bool) (checked : Checked) (sig : List ℕ) (old new : Panel) → is_ahead checked.head.rev (Some moment) ≡ false → told ≡ good → sig ≡ checked.sig
    → IsCall (answers (asks_verdict did checked.digest sig) told) old new → IsJudgedAs did moment checked (cond good (found checked.head checked.records checked.block) (unfit FETCHED_UNSIGNED)) old new
judged_near did moment good told checked sig old new h same signed call =
    let f : Found = cond good (found checked.head checked.records checked.block) (unfit FETCHED_UNSIGNED) in
    let calls : List Call = answers (asks_verdict did checked.digest checked.sig) good ∷ [] in
    let Q : List ℕ → Type 0 = λ s. IsCall (answers (asks_verdict did checked.digest s) told) old new in
    let R : Bool → Type 0 = λ b. IsCall (answers (asks_verdict did checked.digest checked.sig) b) old new in
    record {
      calls = calls;
      good = good;
      is = ap (λ b. cond {A = Found × List Call} b (unfit FETCHED_AHEAD, []) (f, calls)) h;
      made = (new, subst R same (subst Q signed call), refl);
    }

-- what holds of what is found and asked, by whether the revision is far ahead
pub by_ahead : (ahead : Bool) (x y : Found × List Call) (P : Found × List Call → Type 0) → P x → P y → P (cond ahead x y)
by_ahead true x y P one two = one
by_ahead false x y P one two = two

-- ---- counts

pub rose_later : (a b c : ℕ) → a ≤ b → min (b + 1) (2 ^ 64 - 1) ≤ c → min (a + 1) (2 ^ 64 - 1) ≤ c
rose_later a b c low rose = omega (arith, low, rose)

-- ---- as the code has it

pub may_by : (fault : RepoFault) (n : ℕ) → Some n ≡ refused_as fault → MayBeKept (unfit n)
may_by fault n h =
    let both = refused_is fault n h in
    let P : ℕ → Type 0 = λ k. MayBeKept (unfit k) in
    subst P (sym both.1) (may_refused fault both.0)
