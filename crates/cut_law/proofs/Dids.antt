-- The DIDs that well formed rows name are well formed.
use Rattle.std.proofs.Common.{◌≡◌, ℕ, true, false, cond, List, [], ◌∷◌, refl, arith, suc, length}
use Rattle.std.proofs.lemmas.Bool.{and_parts, eqb-true, true≢false}
use Rattle.std.specs.List.{list_all}
use Rattle.std.specs.Prelude.{◌&&◌, ◌==◌}
use Rattle.std.specs.Str.{bytes_eq}
use Rattle.relay_row.specs.Folds.{did_of_row}
use Rattle.relay_row.specs.Rules.{is_about, is_carried, is_decided, is_empty, is_message, is_moment, is_number, is_operated, is_positive, is_repo, is_row, is_status, is_taken, is_whole, names_did, names_host}
use Rattle.relay_row.specs.declared.carried.Carried.{Carried}
use Rattle.relay_row.specs.declared.row.Row.{Row}
use Rattle.account_state.specs.Dids.{put_did, dids}
use Rattle.account_state.specs.Entries.{is_before}

abbrev pub AreDids : List (List ℕ) → Type 0
AreDids [] = Unit {0}
AreDids (did ∷ others) = (names_did did ≡ true) × AreDids others

about_named : (kind : ℕ) (did : List ℕ) → is_about kind did ≡ true → bytes_eq did [] ≡ false → names_did did ≡ true
about_named kind [] about some = absurd (true≢false some)
about_named kind (c ∷ did) about some =
    elim (kind == 0) as (λ b. cond b (is_empty (c ∷ did)) (names_did (c ∷ did)) ≡ true → names_did (c ∷ did) ≡ true) [
      | true ↦ λ k. absurd (not_empty k)
      | false ↦ λ k. k
    ] about
  where
    not_empty : (suc (length did) == 0) ≡ true → ⊥
    not_empty k = omega (arith, eqb-true (suc (length did)) 0 k)

did_formed : (row : Row) → is_row row ≡ true → bytes_eq (did_of_row row) [] ≡ false → names_did (did_of_row row) ≡ true
unfolding is_row is_taken is_operated is_carried
did_formed (Row.Taken t) formed some =
    let one = and_parts (names_host t.host) (is_number t.host_seq && (is_about t.kind t.did && (is_moment t.moment && is_decided t.refusal t))) formed in
    let two = and_parts (is_number t.host_seq) (is_about t.kind t.did && (is_moment t.moment && is_decided t.refusal t)) one.1 in
    about_named t.kind t.did (and_parts (is_about t.kind t.did) (is_moment t.moment && is_decided t.refusal t) two.1).0 some
did_formed (Row.Synced did whole moment) formed some = (and_parts (names_did did) (is_whole whole && is_moment moment) formed).0
did_formed (Row.Operated o) formed some = (and_parts (names_did o.did) (is_positive o.seq && (is_message o.message && is_moment o.moment)) formed).0
did_formed (Row.Carried (Carried.Last seq)) formed some = absurd (true≢false some)
did_formed (Row.Carried (Carried.Host host n)) formed some = absurd (true≢false some)
did_formed (Row.Carried (Carried.Account a)) formed some = (and_parts (names_did a.did) (is_status a.status && is_repo a.repo) formed).0

put_dids : (did : List ℕ) (ds : List (List ℕ)) → names_did did ≡ true → AreDids ds → AreDids (put_did did ds)
put_dids did [] named are = (named, tt)
put_dids did (d ∷ ds) named are =
    elim (is_before did d) as (λ b. AreDids (cond b (did ∷ d ∷ ds) (cond (bytes_eq did d) (d ∷ ds) (d ∷ put_did did ds)))) [
      | true ↦ (named, are)
      | false ↦ elim (bytes_eq did d) as (λ b. AreDids (cond b (d ∷ ds) (d ∷ put_did did ds))) [
        | true ↦ are
        | false ↦ (are.0, put_dids did ds named are.1)
      ]
    ]

pub dids_formed : (rows : List Row) → list_all is_row rows ≡ true → AreDids (dids rows)
dids_formed [] formed = tt
dids_formed (row ∷ rows) formed =
    let both = and_parts (is_row row) (list_all is_row rows) formed in
    elim (bytes_eq (did_of_row row) []) as (λ b. bytes_eq (did_of_row row) [] ≡ b → AreDids (cond b (dids rows) (put_did (did_of_row row) (dids rows)))) [
      | true ↦ λ e. dids_formed rows both.1
      | false ↦ λ e. put_dids (did_of_row row) (dids rows) (did_formed row both.0 e) (dids_formed rows both.1)
    ] refl
