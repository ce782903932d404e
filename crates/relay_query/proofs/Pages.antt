-- The accounts whose repository is known, one behind the other.
use Rattle.std.proofs.Common.{◌≡◌, ℕ, ◌+◌, ◌<◌, ◌≤◌, Bool, true, false, ◌||◌, cond, List, [], ◌∷◌, ◌++◌, length, take, map, take_all, codes, Option, Some, None, nat_lt, refl, sym, ap, ◌∙◌, subst, arith, append_assoc, length-append}
use Rattle.std.specs.List.{list_any}
use Rattle.std.specs.Option.{unwrap_or}
use Rattle.std.specs.Prelude.{not, ◌&&◌, if◌then◌else◌}
use Rattle.std.specs.Str.{bytes_eq}
use Rattle.std.proofs.Math.Seq.{take-length}
use Rattle.std.proofs.lemmas.Bool.{and_right, false≢true}
use Rattle.std.proofs.lemmas.Bool.Decides.{nat_tests}
use Rattle.std.proofs.lemmas.List.{append-nil, length-map, take-append-le, map-append}
use Rattle.serde_json.specs.Data.{Data, array}
use Rattle.serde_json.specs.Written.{items_have_float}
use Rattle.json_text.specs.Values.{array_of, object_with}
use Rattle.serde_json.specs.View.{view, items_of, items_view}
use Rattle.serde_json.specs.declared.value.Value.{Value}
use Rattle.relay_row.specs.Folds.{names}
use Rattle.relay_row.specs.declared.row.Row.{Row}
use Rattle.account_state.specs.Dids.{AreBehind, accounts, dids}
use Rattle.account_state.specs.Entries.{entry, is_before}
use Rattle.account_state.specs.Folds.{account}
use Rattle.account_state.specs.State.{State}
use Rattle.account_state.proofs.Dids.{among_first, behind_lower, dids_behind, dids_named}
use Rattle.account_state.proofs.Order.{before_total, before_trans, same_text}
use Rattle.relay_core.specs.Entries.{Holds}
use Rattle.relay_core.specs.declared.journal_state.Core.{Core}
use Rattle.relay_query.specs.Replies.{listed}
use Rattle.relay_query.specs.Seen.{has_good}
use Rattle.relay_query.specs.Accounts.{Named, is_repo_good}
use Rattle.relay_query.specs.Bodies.{last_did, page_value, repo_value, text_member}
use Rattle.relay_query.proofs.NoFloats.{plain_items}
use Rattle.relay_query.proofs.Known.{account_is, good_is, named_is}

module _ (state : List ℕ → State) where
  -- with their accounts
  abbrev with_states : List (List ℕ) → List Named
  with_states ds = map (λ did. (did, state did)) ds

  abbrev good : List ℕ → Bool
  good did = is_repo_good (state did).repo

  -- the first of them is listed or not
  step : (did e : List ℕ) (es : List (List ℕ)) (t : Bool) → good e && is_before did e ≡ t
      → listed did (with_states (e ∷ es)) ≡ cond t ((e, state e) ∷ listed did (with_states es)) (listed did (with_states es))
  step did e es t is = ap (λ (b : Bool). cond b ((e, state e) ∷ listed did (with_states es)) (listed did (with_states es))) is

  not_listed : (did e : List ℕ) (es : List (List ℕ)) → is_before did e ≡ false → listed did (with_states (e ∷ es)) ≡ listed did (with_states es)
  not_listed did e es off = step did e es false (and_right (good e) (is_before did e) off)

  bad_off : (did e : List ℕ) (es : List (List ℕ)) → good e ≡ false → listed did (with_states (e ∷ es)) ≡ listed did (with_states es)
  bad_off did e es bad = step did e es false (ap (λ (t : Bool). t && is_before did e) bad)

  good_on : (did e : List ℕ) (es : List (List ℕ)) → good e ≡ true → is_before did e ≡ true → listed did (with_states (e ∷ es)) ≡ (e, state e) ∷ listed did (with_states es)
  good_on did e es on less = step did e es true (ap (λ (t : Bool). t && is_before did e) on ∙ less)

  -- one that stands behind the DID isn't good
  passed : (did e : List ℕ) (es : List (List ℕ)) → (is_before did e ≡ true → good e ≡ false) → listed did (with_states (e ∷ es)) ≡ listed did (with_states es)
  passed did e es off =
      elim (is_before did e) as (λ b. is_before did e ≡ b → listed did (with_states (e ∷ es)) ≡ listed did (with_states es)) [
        | true ↦ λ less. bad_off did e es (off less)
        | false ↦ λ less. not_listed did e es less
      ] refl

  -- of those behind a DID, behind lower ones all are
  same_behind : (did x : List ℕ) → is_before did x ≡ true → (ds : List (List ℕ)) → AreBehind x ds → listed did (with_states ds) ≡ listed x (with_states ds)
  same_behind did x less [] are = refl
  same_behind did x less (e ∷ es) are =
      let rest = same_behind did x less es (behind_lower x e es are.0 are.1) in
      elim (good e) as (λ b. good e ≡ b → listed did (with_states (e ∷ es)) ≡ listed x (with_states (e ∷ es))) [
        | true ↦ λ on. good_on did e es on (before_trans did x e less are.0) ∙ ap (λ (l : List Named). (e, state e) ∷ l) rest ∙ sym (good_on x e es on are.0)
        | false ↦ λ bad. bad_off did e es bad ∙ rest ∙ sym (bad_off x e es bad)
      ] refl

  -- x is the first good one of these behind a DID
  record IsNext (did x : List ℕ) (ds : List (List ℕ)) : Type 0 where
    above : is_before did x ≡ true
    there : list_any (names x) ds ≡ true
    known : good x ≡ true
    first : (name : List ℕ) → is_before did name ≡ true → is_before name x ≡ true → good name ≡ false

  here : (did x : List ℕ) (ds : List (List ℕ)) → AreBehind x ds → is_before did x ≡ true → good x ≡ true → is_before x x ≡ false
      → listed did (with_states (x ∷ ds)) ≡ (x, state x) ∷ listed x (with_states (x ∷ ds))
  here did x ds are less on not =
      good_on did x ds on less ∙ ap (λ (l : List Named). (x, state x) ∷ l) (same_behind did x less ds are ∙ sym (not_listed x x ds not))

  next_listed : (low did x : List ℕ) (ds : List (List ℕ)) → AreBehind low ds → IsNext did x ds → listed did (with_states ds) ≡ (x, state x) ∷ listed x (with_states ds)
  next_listed low did x [] are next = absurd (false≢true next.there)
  next_listed low did x (d ∷ ds) are next =
      let past : is_before x d ≡ false = among_first x d ds are.1 next.there in
      elim (bytes_eq x d) as (λ b. bytes_eq x d ≡ b → listed did (with_states (d ∷ ds)) ≡ (x, state x) ∷ listed x (with_states (d ∷ ds))) [
        | true ↦ λ same.
            let is : x ≡ d = same_text x d same in
            subst (λ (y : List ℕ). AreBehind y ds → is_before x y ≡ false → listed did (with_states (y ∷ ds)) ≡ (x, state x) ∷ listed x (with_states (y ∷ ds))) is
            (λ behind not. here did x ds behind next.above next.known not) are.1 past
        | false ↦ λ differ.
            let other : names x d ≡ false = and_right (not (bytes_eq x [])) (bytes_eq x d) differ in
            let more : IsNext did x ds = record {
              above = next.above;
              there = sym (ap (λ (t : Bool). t || list_any (names x) ds) other) ∙ next.there;
              known = next.known;
              first = next.first;
            } in
            passed did d ds (λ less. next.first d less (before_total x d past differ))
            ∙ next_listed d did x ds are.1 more ∙ ap (λ (l : List Named). (x, state x) ∷ l) (sym (not_listed x d ds past))
      ] refl

  none_listed : (did : List ℕ) (ds : List (List ℕ)) → ((name : List ℕ) → is_before did name ≡ true → good name ≡ false) → listed did (with_states ds) ≡ []
  none_listed did [] none = refl
  none_listed did (d ∷ ds) none = passed did d ds (none d) ∙ none_listed did ds none

-- ---- of the accounts that rows name

module _ (core : Core) (rows : List Row) (holds : Holds core rows) where
  -- the next one that the state tells
  pub next_in : (did x : List ℕ) (a : State) → entry core.accounts x ≡ Some a → is_repo_good a.repo ≡ true → is_before did x ≡ true
      → ((name : List ℕ) → is_before did name ≡ true → is_before name x ≡ true → has_good core name ≡ false)
      → listed did (accounts rows) ≡ (x, a) ∷ listed x (accounts rows)
  next_in did x a found on above least =
      let is : account x rows ≡ a = account_is core rows holds x a found in
      next_listed (λ name. account name rows) [] did x (dids rows) (dids_behind rows) (record {
        above = above;
        there = dids_named x rows ∙ named_is core rows holds x a found;
        known = ap (λ (s : State). is_repo_good s.repo) is ∙ on;
        first = λ name less below. sym (good_is core rows holds name) ∙ least name less below;
      })
      ∙ ap (λ (s : State). (x, s) ∷ listed x (accounts rows)) is

  pub none_in : (did : List ℕ) → ((name : List ℕ) → is_before did name ≡ true → has_good core name ≡ false) → listed did (accounts rows) ≡ []
  none_in did none = none_listed (λ name. account name rows) did (dids rows) (λ name less. sym (good_is core rows holds name) ∙ none name less)

-- ---- while they are listed

-- so many are listed, and those behind the last of them are left
pub record IsListing (core : Core) (limit : ℕ) (cursor last : List ℕ) (repos : List Value) : Type 0 where
  pub so_far : List Named
  pub items : map view repos ≡ map repo_value so_far
  pub last_is : unwrap_or (last_did so_far) cursor ≡ last
  pub few : length so_far ≤ limit
  pub rest : (rows : List Row) → Holds core rows → listed cursor (accounts rows) ≡ so_far ++ listed last (accounts rows)

pub listing_none : (core : Core) (limit : ℕ) (cursor last : List ℕ) → last ≡ cursor → IsListing core limit cursor last []
listing_none core limit cursor last is = record {
  so_far = [];
  items = refl;
  last_is = sym is;
  few = omega arith;
  rest = λ rows holds. ap (λ (d : List ℕ). listed d (accounts rows)) (sym is);
}

-- as many values as accounts
as_many : {A B C : Type 0} (f : A → C) (g : B → C) (xs : List A) (ys : List B) → map f xs ≡ map g ys → length xs ≡ length ys
as_many f g xs ys is = sym (length-map xs f) ∙ ap length is ∙ length-map ys g

last_added : (xs : List Named) (x : Named) → last_did (xs ++ x ∷ []) ≡ Some x.0
last_added [] x = refl
last_added (y ∷ []) x = refl
last_added (y ∷ z ∷ xs) x = last_added (z ∷ xs) x

last_there : (cursor : List ℕ) (x : Named) (xs : List Named) → last_did (x ∷ xs) ≡ Some (unwrap_or (last_did (x ∷ xs)) cursor)
last_there cursor x [] = refl
last_there cursor x (y ∷ xs) = last_there cursor y xs

last_of_some : (cursor : List ℕ) (xs : List Named) → 0 < length xs → last_did xs ≡ Some (unwrap_or (last_did xs) cursor)
last_of_some cursor [] some = absurd (omega (arith, some))
last_of_some cursor (x ∷ xs) some = last_there cursor x xs

-- a page of these accounts with this last DID
page_by : (limit : ℕ) (all some : List Named) (last : Option (List ℕ)) → take limit all ≡ some → (if nat_lt limit (length all) then last_did some else None) ≡ last
    → page_value limit all ≡ object_with (text_member (codes "cursor") last ++ (codes "repos", array_of (map repo_value some)) ∷ [])
page_by limit all some last front is =
    ap (λ (l : List Named). object_with (text_member (codes "cursor") (if nat_lt limit (length all) then last_did l else None) ++ (codes "repos", array_of (map repo_value l)) ∷ [])) front
    ∙ ap (λ (o : Option (List ℕ)). object_with (text_member (codes "cursor") o ++ (codes "repos", array_of (map repo_value some)) ∷ [])) is

module _ (core : Core) (limit : ℕ) (cursor last : List ℕ) (repos : List Value) (is : IsListing core limit cursor last repos) where
  pub listing_more : (x : List ℕ) (a : State) (v : Value) → length repos < limit → entry core.accounts x ≡ Some a → is_repo_good a.repo ≡ true → is_before last x ≡ true
      → ((name : List ℕ) → is_before last name ≡ true → is_before name x ≡ true → has_good core name ≡ false)
      → view v ≡ repo_value (x, a) → IsListing core limit cursor x (repos ++ v ∷ [])
  listing_more x a v room found on above least value = record {
    so_far = is.so_far ++ (x, a) ∷ [];
    items = map-append view repos (v ∷ []) ∙ ap (λ (l : List Data). l ++ view v ∷ []) is.items ∙ ap (λ (d : Data). map repo_value is.so_far ++ d ∷ []) value
        ∙ sym (map-append repo_value is.so_far ((x, a) ∷ []));
    last_is = ap (λ (o : Option (List ℕ)). unwrap_or o cursor) (last_added is.so_far (x, a));
    few = omega (arith, room, as_many view repo_value repos is.so_far is.items, length-append is.so_far ((x, a) ∷ []));
    rest = λ rows holds. is.rest rows holds ∙ ap (λ (l : List Named). is.so_far ++ l) (next_in core rows holds last x a found on above least)
        ∙ sym (append_assoc is.so_far ((x, a) ∷ []) (listed x (accounts rows)));
  }

  repos_are : array_of (map repo_value is.so_far) ≡ array (items_view repos)
  repos_are = ap (λ (l : List Data). array (items_of l)) (sym is.items)

  page_is : (rows : List Row) → (last : Option (List ℕ)) (all : List Named) → listed cursor (accounts rows) ≡ all → take limit all ≡ is.so_far → (if nat_lt limit (length all) then last_did is.so_far else None) ≡ last
      → page_value limit (listed cursor (accounts rows)) ≡ object_with (text_member (codes "cursor") last ++ (codes "repos", array (items_view repos)) ∷ [])
  page_is rows last all these front more =
      ap (page_value limit) these ∙ page_by limit all is.so_far last front more
      ∙ ap (λ (d : Data). object_with (text_member (codes "cursor") last ++ (codes "repos", d) ∷ [])) repos_are

  pub listing_full : (x : List ℕ) (a : State) → limit ≤ length repos → 0 < limit → entry core.accounts x ≡ Some a → is_repo_good a.repo ≡ true → is_before last x ≡ true
      → ((name : List ℕ) → is_before last name ≡ true → is_before name x ≡ true → has_good core name ≡ false)
      → (rows : List Row) → Holds core rows
      → page_value limit (listed cursor (accounts rows)) ≡ object_with (text_member (codes "cursor") (Some last) ++ (codes "repos", array (items_view repos)) ∷ [])
  listing_full x a full some found on above least rows holds =
      let count = as_many view repo_value repos is.so_far is.items in
      let size : limit ≡ length is.so_far = omega (arith, full, is.few, count) in
      let behind = (x, a) ∷ listed x (accounts rows) in
      let front : take limit (is.so_far ++ behind) ≡ is.so_far =
      ap (λ (n : ℕ). take n (is.so_far ++ behind)) size ∙ take-append-le (length is.so_far) is.so_far behind (omega arith) ∙ take-length is.so_far in
      let longer : limit < length (is.so_far ++ behind) = omega (arith, size, length-append is.so_far behind) in
      let more : nat_lt limit (length (is.so_far ++ behind)) ≡ true = grind (arith, nat_tests) in
      page_is rows (Some last) (is.so_far ++ behind) (is.rest rows holds ∙ ap (λ (l : List Named). is.so_far ++ l) (next_in core rows holds last x a found on above least)) front
      (ap (λ (b : Bool). if b then last_did is.so_far else None) more ∙ last_of_some cursor is.so_far (omega (arith, some, size)) ∙ ap (λ (d : List ℕ). Some d) is.last_is)

  pub listing_done : ((name : List ℕ) → is_before last name ≡ true → has_good core name ≡ false) → (rows : List Row) → Holds core rows
      → page_value limit (listed cursor (accounts rows)) ≡ object_with (text_member (codes "cursor") None ++ (codes "repos", array (items_view repos)) ∷ [])
  listing_done none rows holds =
      let all : listed cursor (accounts rows) ≡ is.so_far =
      is.rest rows holds ∙ ap (λ (l : List Named). is.so_far ++ l) (none_in core rows holds last none) ∙ append-nil is.so_far in
      let no_more : nat_lt limit (length is.so_far) ≡ false = let few = is.few in grind (arith, nat_tests) in
      page_is rows None is.so_far all (take_all limit is.so_far is.few) (ap (λ (b : Bool). if b then last_did is.so_far else None) no_more)

  -- none of them has a float
  pub listing_plain : items_have_float (items_view repos) ≡ false
  listing_plain = ap (λ (l : List Data). items_have_float (items_of l)) is.items ∙ plain_items is.so_far
