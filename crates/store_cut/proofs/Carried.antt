-- The rows that carry a state over, put one after another.
use Rattle.std.proofs.Common.{◌≡◌, ℕ, suc, ◌+◌, Bool, true, false, List, [], ◌∷◌, ◌++◌, take, drop, Option, Some, None, IsTrue, add-one, refl, sym, ◌∙◌, ap, subst, append_assoc}
use Rattle.std.specs.Option.{is_some, unwrap_or}
use Rattle.std.specs.Prelude.{◌==◌, if◌then◌else◌, slice_get}
use Rattle.std.proofs.lemmas.List.{append-nil}
use Rattle.relay_disk.specs.Disk.{View, IsDisk}
use Rattle.gate_log.specs.Build.{IsBuiltOn}
use Rattle.relay_row.specs.declared.carried.Carried.{Carried}
use Rattle.relay_row.specs.declared.row.Row.{Row}
use Rattle.host_state.specs.Table.{listed}
use Rattle.host_state.specs.declared.hosts.Hosts.{Hosts}
use Rattle.account_state.specs.Entries.{entry, is_before}
use Rattle.account_state.specs.Folds.{account, fresh}
use Rattle.account_state.specs.State.{State}
use Rattle.relay_core.specs.Entries.{Holds}
use Rattle.relay_core.specs.declared.journal_state.Core.{Core}
use Rattle.account_state.specs.Dids.{dids}
use Rattle.account_state.proofs.Nexts.{all_later, last_did, later, next_did}
use Rattle.cut_law.specs.Cut.{account_row, account_rows, carried, cut, carried_front, host_rows, rows_behind_front}
use Rattle.store_cut.specs.Rewriting.{AllShort, RewriteHasNoRoom, IsCopied}
use Rattle.store_cut.specs.declared.rewriting.Rewrite.{Rewrite}
use Rattle.store_cut.proofs.CutFronts.{parted_at, taken_at}
use Rattle.store_cut.proofs.Shorts.{short_front, short_behind}
use Rattle.store_cut.proofs.Rewritten.{copied_both, copied_none, no_room_behind, no_room_front}

-- ---- hosts

hosts_joined_by : (none : Bool) (row : Row) (xs ys rows_behind_front : List Row) → rows_behind_front ≡ xs ++ ys → (if none then rows_behind_front else row ∷ rows_behind_front) ≡ (if none then xs else row ∷ xs) ++ ys
hosts_joined_by true row xs ys rows_behind_front is = is
hosts_joined_by false row xs ys rows_behind_front is = ap (λ (l : List Row). row ∷ l) is

hosts_joined : (xs ys : List (List ℕ × ℕ)) → host_rows (xs ++ ys) ≡ host_rows xs ++ host_rows ys
hosts_joined [] ys = refl
hosts_joined (x ∷ xs) ys = hosts_joined_by (x.1 == 0) (Row.Carried (Carried.Host x.0 x.1)) (host_rows xs) (host_rows ys) (host_rows (xs ++ ys)) (hosts_joined xs ys)

hosts_parted : (hosts : List (List ℕ × ℕ)) (n : ℕ) (x : List ℕ × ℕ) → slice_get hosts n ≡ Some x → host_rows hosts ≡ host_rows (take n hosts) ++ (host_rows (x ∷ []) ++ host_rows (drop (suc n) hosts))
hosts_parted hosts n x got =
    ap host_rows (parted_at hosts n x got) ∙ hosts_joined (take n hosts) (x ∷ drop (suc n) hosts) ∙ ap (λ (l : List Row). host_rows (take n hosts) ++ l) (hosts_joined (x ∷ []) (drop (suc n) hosts))

pub host_short : (hosts : List (List ℕ × ℕ)) (n : ℕ) (x : List ℕ × ℕ) → slice_get hosts n ≡ Some x → AllShort (host_rows hosts) → AllShort (host_rows (x ∷ []))
host_short hosts n x got all =
    let more = host_rows (drop (suc n) hosts) in
    short_front (host_rows (x ∷ [])) more (short_behind (host_rows (take n hosts)) (host_rows (x ∷ []) ++ more) (subst AllShort (hosts_parted hosts n x got) all))

module _ (tells : Bool) (hosts : List (List ℕ × ℕ)) (n : ℕ) (x : List ℕ × ℕ) (got : slice_get hosts n ≡ Some x) (r now : Rewrite) (v w : View) (so_far : IsCopied tells (host_rows (take n hosts)) r now v w) where
  pub hosts_more : (next : Rewrite) (u : View) → IsCopied tells (host_rows (x ∷ [])) now next w u → IsCopied tells (host_rows (take (n + 1) hosts)) r next v u
  hosts_more next u one =
      subst (λ (l : List Row). IsCopied tells l r next v u)
      (sym (ap (λ (m : ℕ). host_rows (take m hosts)) (add-one n) ∙ ap host_rows (taken_at hosts n x got) ∙ hosts_joined (take n hosts) (x ∷ [])))
      (copied_both tells (host_rows (take n hosts)) (host_rows (x ∷ [])) r now next v w u so_far one)

  pub hosts_full : (e : ℕ) → RewriteHasNoRoom now.build.end now.build.most (host_rows (x ∷ [])) e → RewriteHasNoRoom r.build.end r.build.most (host_rows hosts) e
  hosts_full e full =
      let carried_front = host_rows (take n hosts) in
      let more = host_rows (drop (suc n) hosts) in
      subst (λ (l : List Row). RewriteHasNoRoom r.build.end r.build.most l e) (sym (hosts_parted hosts n x got))
      (no_room_behind tells carried_front (host_rows (x ∷ []) ++ more) r now v w e so_far (no_room_front now.build.end now.build.most (host_rows (x ∷ [])) more e full))

-- ---- accounts

-- the accounts up to this DID were carried over
pub record IsCarrying (tells : Bool) (core : Core) (did : List ℕ) (r now : Rewrite) (v w : View) : Type 0 where
  pub rows : List Row
  pub copied : IsCopied tells rows r now v w
  pub rest_is : (A : List Row) → Holds core A → account_rows A (dids A) ≡ rows ++ account_rows A (later did (dids A))

pub carrying_none : (tells : Bool) (core : Core) (did : List ℕ) (r : Rewrite) (v : View) → did ≡ [] → IsDisk v → (IsTrue tells → IsBuiltOn v r.build) → IsCarrying tells core did r r v v
carrying_none tells core did r v first disk on = record {
  rows = [];
  copied = copied_none tells r v disk on;
  rest_is = λ A holds. sym (ap (λ (d : List ℕ). account_rows A (later d (dids A))) first ∙ ap (account_rows A) (all_later A));
}

module _ (tells : Bool) (core : Core) (did : List ℕ) (r now : Rewrite) (v w : View) (so_far : IsCarrying tells core did r now v w) where
  pub carrying_all : ((name : List ℕ) → is_before did name ≡ true → entry core.accounts name ≡ None) → (A : List Row) → Holds core A → so_far.rows ≡ account_rows A (dids A)
  carrying_all none A holds =
      let last = last_did did A (λ name less. sym (holds.named name) ∙ ap is_some (none name less)) in
      sym (so_far.rest_is A holds ∙ ap (λ (ds : List (List ℕ)). so_far.rows ++ account_rows A ds) last ∙ append-nil so_far.rows)

  module _ (x : List ℕ) (s : State) (found : entry core.accounts x ≡ Some s) (above : is_before did x ≡ true) (least : (name : List ℕ) → is_before did name ≡ true → is_before name x ≡ true → entry core.accounts name ≡ None) where
    next_rows : (A : List Row) → Holds core A → account_rows A (later did (dids A)) ≡ account_row x s ∷ account_rows A (later x (dids A))
    next_rows A holds =
        let next = next_did did x A above (sym (holds.named x) ∙ ap is_some found) (λ name less past. sym (holds.named name) ∙ ap is_some (least name less past)) in
        let is : s ≡ account x A = sym (ap (λ (o : Option State). unwrap_or o fresh) found) ∙ holds.accounts x in
        ap (account_rows A) next ∙ ap (λ (a : State). account_row x a ∷ account_rows A (later x (dids A))) (sym is)

    pub carrying_more : (next : Rewrite) (u : View) → IsCopied tells (account_row x s ∷ []) now next w u → IsCarrying tells core x r next v u
    carrying_more next u one = record {
      rows = so_far.rows ++ account_row x s ∷ [];
      copied = copied_both tells so_far.rows (account_row x s ∷ []) r now next v w u so_far.copied one;
      rest_is = λ A holds. so_far.rest_is A holds ∙ ap (λ (l : List Row). so_far.rows ++ l) (next_rows A holds)
          ∙ sym (append_assoc so_far.rows (account_row x s ∷ []) (account_rows A (later x (dids A))));
    }

    pub carrying_full : (e : ℕ) → RewriteHasNoRoom now.build.end now.build.most (account_row x s ∷ []) e → (A : List Row) → Holds core A → RewriteHasNoRoom r.build.end r.build.most (account_rows A (dids A)) e
    carrying_full e full A holds =
        subst (λ (l : List Row). RewriteHasNoRoom r.build.end r.build.most l e) (sym (so_far.rest_is A holds ∙ ap (λ (l : List Row). so_far.rows ++ l) (next_rows A holds)))
        (no_room_behind tells so_far.rows (account_row x s ∷ account_rows A (later x (dids A))) r now v w e so_far.copied
        (no_room_front now.build.end now.build.most (account_row x s ∷ []) (account_rows A (later x (dids A))) e full))

-- ---- all of them

pub carried_is : (core : Core) (A : List Row) (n : ℕ) (hosts : Hosts) (rows : List Row) → Holds core A → n ≡ core.last → hosts ≡ core.hosts → rows ≡ account_rows A (dids A)
    → ((Row.Carried (Carried.Last n) ∷ []) ++ host_rows (listed hosts)) ++ rows ≡ carried A
unfolding carried
carried_is core A n hosts rows holds is hosts_is rows_are = λ i. Row.Carried (Carried.Last ((is ∙ holds.last) i)) ∷ (host_rows ((ap listed hosts_is ∙ holds.hosts) i) ++ rows_are i)

pub cut_is : (J : List Row) (c : ℕ) → cut J c ≡ carried (carried_front c J) ++ rows_behind_front c J
unfolding cut
cut_is J c = refl
