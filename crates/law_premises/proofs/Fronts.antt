-- Fronts that give way to other rows, and leave a journal unsound.
use Rattle.std.proofs.Common.{◌≡◌, ◌≢◌, inl, inr, ℕ, ◌<◌, ◌^◌, Bool, true, false, get_or, List, [], ◌∷◌, ◌++◌, length, Option, None, Some, refl, sym, ◌∙◌, ap, lit<, arith}
use Rattle.at_cbor.specs.Encoding.{info_of, tail_of}
use Rattle.at_car.specs.Varint.{groups}
use Rattle.at_syntax.specs.Did.{is_did}
use Rattle.at_syntax.specs.Host.{is_host}
use Rattle.at_event.specs.Writing.{event_message, out_of}
use Rattle.at_event.specs.declared.head.Head.{Head}
use Rattle.at_event.specs.declared.refusal.Refusal.{Refusal}
use Rattle.mst_list.specs.declared.item.Item.{Item}
use Rattle.mst_node.specs.Trees.{Distinct, nodes, part_nodes, root}
use Rattle.relay_row.specs.Folds.{cursor, is_named, last_seq, names}
use Rattle.relay_row.specs.Journal.{IsJournal, keeps_order}
use Rattle.relay_row.specs.Rules.{is_accepted, is_carried, is_refused, is_row, is_taken, is_whole}
use Rattle.relay_row.specs.declared.carried.Carried.{Carried}
use Rattle.relay_row.specs.declared.carried.CarriedRepo.{CarriedRepo}
use Rattle.relay_row.specs.declared.fetched.Fetched.{Fetched}
use Rattle.relay_row.specs.declared.row.Row.{Row}
use Rattle.relay_row.specs.declared.taken.Effect.{Effect}
use Rattle.relay_row.proofs.Journals.{grows, no_rows}
use Rattle.account_state.specs.Folds.{account}
use Rattle.account_state.specs.declared.repo.Repo.{Repo}
use Rattle.commit_check.specs.Step.{empty_root, blocks_named}
use Rattle.relay_law.specs.Carried.{AreOfKnown, CarriesOver}
use Rattle.relay_law.specs.Chains.{chains}
use Rattle.relay_law.specs.Sound.{AreLinked, Follows, IsSound}
use Rattle.law_premises.specs.Carrying.{CarriedMayBeUnsound}
use Rattle.law_premises.proofs.Messages.{goes_by, is_sample, torn_step}
use Rattle.law_premises.proofs.Running.{none_sound}
use Rattle.law_premises.proofs.Samples.{accepted, bare, bare_bytes, bare_car, bare_short, commit, did, did_text, event, host, host_text, link, none_held, torn, torn_journal}

-- ---- a commit without operations stays at its root

abbrev head_at : ℕ → Head
head_at x = record { rev = 0; data_root = link x; commit = link 0 }

abbrev message : List ℕ
message = out_of (event bare) 2

bare_fits : length bare < 2 ^ 64
bare_fits = omega (arith, bare_short)

stays : (x : ℕ) → Follows (link x) message (link x)
stays x = record {
  commit = commit bare;
  is = is_sample 2 bare (lit< tt) bare_bytes bare_fits;
  goes = record { blocks = none_held; has = record { roots = link 0 ∷ []; car = bare_car }; replays = λ s map rooted distinct. (s, map, refl, rooted) };
}

one_distinct : (block : List ℕ) → Distinct (block ∷ [])
one_distinct block a b (inl one) (inl other) same = one ∙ sym other
one_distinct block a b (inl one) (inr other) same = absurd other
one_distinct block a b (inr one) other same = absurd one

empty_distinct : (F : List Item) → Distinct (nodes [] ++ blocks_named [] F)
unfolding part_nodes
empty_distinct F = one_distinct _

-- from the empty tree it goes nowhere else
forced : (x : ℕ) → Follows empty_root message (link x) → empty_root ≡ link x
forced x follows =
    let goes = goes_by 2 bare empty_root (link x) (lit< tt) bare_bytes bare_fits follows in
    let to = goes.replays [] (record { formed = tt; ascends = tt; keys_only = tt }) refl (λ F view. empty_distinct F) in
    sym (ap (λ (t : List Item). root t) to.2) ∙ to.3

two_roots : empty_root ≡ link 1 → empty_root ≡ link 2 → ⊥
two_roots one two = let same : 1 ≡ 2 = ap (λ (l : List ℕ). get_or l 4 0) (sym one ∙ two) in absurd (omega (arith, same))

-- ---- a front that lost its account

abbrev base : ℕ → Row
base x = Row.Synced did (record { seq = 1; head = head_at x; records = 0; message = 0 ∷ [] }) None

abbrev gap : Row
gap = Row.Taken (record { host = host; host_seq = 1; did = did; kind = 1; refusal = Some Refusal.Gap; seq = 0; message = []; effect = Effect.Nothing; fetched = Fetched.Absent; moment = None })

abbrev again : ℕ → Row
again x = accepted 2 2 message (head_at x)

gap_formed : is_row gap ≡ true
unfolding is_row is_taken is_refused is_host is_did
gap_formed = rw (host_text, did_text) refl

base_formed_1 : is_row (base 1) ≡ true
unfolding is_row is_whole is_did
base_formed_1 = rw did_text refl

base_formed_2 : is_row (base 2) ≡ true
unfolding is_row is_whole is_did
base_formed_2 = rw did_text refl

again_formed_1 : is_row (again 1) ≡ true
unfolding is_row is_taken is_accepted is_host is_did out_of event_message info_of tail_of groups
again_formed_1 = rw (host_text, did_text) refl

again_formed_2 : is_row (again 2) ≡ true
unfolding is_row is_taken is_accepted is_host is_did out_of event_message info_of tail_of groups
again_formed_2 = rw (host_text, did_text) refl

base_next : (x : ℕ) → keeps_order [] (base x) ≡ true
unfolding last_seq
base_next x = refl

gap_next : (x : ℕ) → keeps_order (base x ∷ []) gap ≡ true
unfolding cursor last_seq
gap_next x = refl

again_next : (x : ℕ) → keeps_order (base x ∷ gap ∷ []) (again x) ≡ true
unfolding cursor last_seq
again_next x = refl

losing_journal : (x : ℕ) → is_row (base x) ≡ true → is_row (again x) ≡ true → IsJournal (base x ∷ gap ∷ again x ∷ [])
losing_journal x one three =
    grows (base x ∷ gap ∷ []) (again x) (grows (base x ∷ []) gap (grows [] (base x) no_rows one (base_next x)) gap_formed (gap_next x)) three (again_next x)

losing_by : (x : ℕ) (d : List ℕ) (b : Bool) → names d did ≡ b → AreLinked (chains d (base x ∷ gap ∷ again x ∷ []))
losing_by x d true is = rw is (tt, ((stays x, tt), tt))
losing_by x d false is = rw is (tt, tt)

losing_sound : (x : ℕ) → IsSound (base x ∷ gap ∷ again x ∷ [])
losing_sound x d = losing_by x d (names d did) refl

-- ---- what is carried

abbrev carries : CarriedRepo → List Row
carries repo = Row.Carried (Carried.Last 1) ∷ Row.Carried (Carried.Account (record { did = did; active = true; status = None; down = false; repo = repo })) ∷ []

last_formed : is_row (Row.Carried (Carried.Last 1)) ≡ true
unfolding is_row is_carried
last_formed = refl

lost_formed : is_row (Row.Carried (Carried.Account (record { did = did; active = true; status = None; down = false; repo = CarriedRepo.Lost (Some 0) }))) ≡ true
unfolding is_row is_carried is_did
lost_formed = rw did_text refl

missing_formed : is_row (Row.Carried (Carried.Account (record { did = did; active = true; status = None; down = false; repo = CarriedRepo.Missing }))) ≡ true
unfolding is_row is_carried is_did
missing_formed = rw did_text refl

account_next : (repo : CarriedRepo) → keeps_order (Row.Carried (Carried.Last 1) ∷ []) (Row.Carried (Carried.Account (record { did = did; active = true; status = None; down = false; repo = repo }))) ≡ true
unfolding is_named
account_next repo = refl

carries_journal : (repo : CarriedRepo) → is_row (Row.Carried (Carried.Account (record { did = did; active = true; status = None; down = false; repo = repo }))) ≡ true → IsJournal (carries repo)
carries_journal repo formed =
    grows (Row.Carried (Carried.Last 1) ∷ []) (Row.Carried (Carried.Account (record { did = did; active = true; status = None; down = false; repo = repo })))
    (grows [] (Row.Carried (Carried.Last 1)) no_rows last_formed refl) formed (account_next repo)

lost_by : (x : ℕ) (d : List ℕ) (a b : Bool) → names d [] ≡ a → names d did ≡ b → account d (carries (CarriedRepo.Lost (Some 0))) ≡ account d (base x ∷ gap ∷ [])
unfolding account
lost_by x d true true none is = rw (none, is) refl
lost_by x d true false none is = rw (none, is) refl
lost_by x d false true none is = rw (none, is) refl
lost_by x d false false none is = rw (none, is) refl

lost_over : (x : ℕ) → CarriesOver (base x ∷ gap ∷ []) (carries (CarriedRepo.Lost (Some 0)))
lost_over x = record { are_carried = refl; journal = carries_journal (CarriedRepo.Lost (Some 0)) lost_formed; accounts = λ d. lost_by x d (names d []) (names d did) refl refl }

-- ---- a front that carries an account behind its rows

abbrev unordered : ℕ → List Row
unordered x = base x ∷ Row.Carried (Carried.Account (record { did = did; active = true; status = None; down = false; repo = CarriedRepo.Missing })) ∷ []

unordered_by : (x : ℕ) (d : List ℕ) (b : Bool) → names d did ≡ b → AreLinked (chains d (unordered x ++ again x ∷ []))
unordered_by x d true is = rw is (tt, ((stays x, tt), tt))
unordered_by x d false is = rw is (tt, tt)

unordered_sound : (x : ℕ) → IsSound (unordered x ++ again x ∷ [])
unordered_sound x d = unordered_by x d (names d did) refl

missing_by : (x : ℕ) (d : List ℕ) (a b : Bool) → names d [] ≡ a → names d did ≡ b → account d (carries CarriedRepo.Missing) ≡ account d (unordered x)
unfolding account
missing_by x d true true none is = rw (none, is) refl
missing_by x d true false none is = rw (none, is) refl
missing_by x d false true none is = rw (none, is) refl
missing_by x d false false none is = rw (none, is) refl

missing_over : (x : ℕ) → CarriesOver (unordered x) (carries CarriedRepo.Missing)
missing_over x = record { are_carried = refl; journal = carries_journal CarriedRepo.Missing missing_formed; accounts = λ d. missing_by x d (names d []) (names d did) refl refl }

repo_by : (x : ℕ) (d : List ℕ) (b : Bool) → names d did ≡ b → (account d (unordered x)).repo ≡ Repo.Missing
unfolding account
repo_by x d true is = rw is refl
repo_by x d false is = rw is refl

not_lost : (repo : Repo) (rev : Option ℕ) → repo ≡ Repo.Missing → repo ≢ Repo.Lost rev
not_lost repo rev missing lost = absurd cc

unordered_known : (x : ℕ) → AreOfKnown (unordered x) (again x ∷ [])
unordered_known x = (λ d m data_root rev part. not_lost (account d (unordered x)).repo rev (repo_by x d (names d did) refl), tt)

fresh_repo : (d : List ℕ) → (account d []).repo ≡ Repo.Missing
unfolding account
fresh_repo d = refl

nothing_over : CarriesOver [] []
nothing_over = record { are_carried = refl; journal = no_rows; accounts = λ d. refl }

pub carried_unsound : CarriedMayBeUnsound
carried_unsound = record {
  journal = λ all. two_roots
      (forced 1 (all (unordered 1) (again 1 ∷ []) (carries CarriedRepo.Missing) (unordered_sound 1) (unordered_known 1) (missing_over 1) did).0.0)
      (forced 2 (all (unordered 2) (again 2 ∷ []) (carries CarriedRepo.Missing) (unordered_sound 2) (unordered_known 2) (missing_over 2) did).0.0);
  sound = λ all. torn_step empty_root (link 0) (all [] (torn ∷ []) [] torn_journal (λ d m data_root rev part. not_lost (account d []).repo rev (fresh_repo d), tt) nothing_over did).0.0;
  known = λ all. two_roots
      (forced 1 (all (base 1 ∷ gap ∷ []) (again 1 ∷ []) (carries (CarriedRepo.Lost (Some 0))) (losing_journal 1 base_formed_1 again_formed_1) (losing_sound 1) (lost_over 1) did).0.0)
      (forced 2 (all (base 2 ∷ gap ∷ []) (again 2 ∷ []) (carries (CarriedRepo.Lost (Some 0))) (losing_journal 2 base_formed_2 again_formed_2) (losing_sound 2) (lost_over 2) did).0.0);
  over = λ all. torn_step empty_root (link 0) (all [] [] (torn ∷ []) no_rows none_sound tt did).0.0;
}
