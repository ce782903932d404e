-- A mirror of a faithful journal's stream holds the maps to which its chains replay, and its heads.
use Rattle.std.proofs.Common.{◌≡◌, ℕ, Bool, true, false, ◌||◌, cond, List, [], ◌∷◌, ◌++◌, Option, None, refl, ap, sym, ◌∙◌, subst, append_assoc}
use Rattle.std.proofs.lemmas.Bool.{and_parts, or_parts, true≢false}
use Rattle.std.proofs.lemmas.List.{append-nil, map-append}
use Rattle.std.specs.List.{list_all, list_any}
use Rattle.std.specs.Prelude.{IsTrue}
use Rattle.std.specs.Str.{bytes_eq}
use Rattle.at_syntax.specs.Did.{is_did}
use Rattle.at_syntax.proofs.Dids.{no_colon}
use Rattle.backfill.specs.Served.{messages_of}
use Rattle.event_window.specs.Held.{Event}
use Rattle.mst_list.specs.declared.item.Item.{Item}
use Rattle.mst_list.specs.Lists.{IsMap}
use Rattle.mst_node.specs.Trees.{root}
use Rattle.relay_row.specs.Folds.{did_of_row, events_in, folded, is_named, names}
use Rattle.relay_row.specs.Journal.{IsJournal}
use Rattle.relay_row.specs.Rules.{is_row}
use Rattle.relay_row.specs.declared.row.Row.{Row}
use Rattle.account_state.specs.Folds.{account, account_after, fresh, moved}
use Rattle.account_state.specs.State.{State}
use Rattle.account_state.specs.declared.repo.Repo.{Repo}
use Rattle.account_state.proofs.Joined.{joined}
use Rattle.relay_law.specs.Chains.{nothing, part_in}
use Rattle.relay_law.specs.Faithful.{IsFaithfulJournal, SendWhatTheyKeep}
use Rattle.account_state.proofs.Dids.{names_same}
use Rattle.relay_law.proofs.Tracking.{is_account, kept_order}
use Rattle.chain_law.proofs.Following.{about_parts}
use Rattle.chain_law.specs.Chained.{all_about, has_no_event, rows_about, withholds_nothing}
use Rattle.mirror.specs.Held.{IsHeld, IsHeldFrom}
use Rattle.mirror.specs.Repository.{Repositories}
use Rattle.mirror.specs.declared.holding.Holding.{Holding}
use Rattle.relay_law.proofs.Staying.{stay_faithful}
use Rattle.mirror_law.specs.Laws.{MayBeMirrored, MirrorsHoldChains, MirrorsHoldHeads}
use Rattle.mirror_law.specs.Mirrored.{IsFirstMap, Replay, sent}
use Rattle.mirror_law.specs.Open.{Beginning, empty, base, OpenChain, first_chain, open_chain, opened_after, opened_by, beginning_root, root_behind}
use Rattle.relay_store.specs.Shown.{is_shown, shown_of}
use Rattle.mirror_law.proofs.After.{after_other, held_split}
use Rattle.mirror_law.proofs.Followed.{row_goes}
use Rattle.mirror_law.proofs.Once.{answer_map}
use Rattle.mirror_law.proofs.Opened.{last_linked}
use Rattle.mirror_law.proofs.Replayed.{replays}
use Rattle.mirror_law.proofs.Revs.{last_rev, one_rev}
use Rattle.mirror_law.proofs.Roots.{good_root}
use Rattle.mirror_law.proofs.Sends.{AreOf, has_did, sends_of, shown_or_none}
use Rattle.mirror_law.proofs.Stepped.{HoldsChain}

-- ---- a row that names another account

differs : (did text : List ℕ) → IsTrue (is_did text) → names did text ≡ false → bytes_eq did text ≡ false
differs did [] is h = absurd (true≢false (sym is ∙ no_colon [] refl))
differs [] (c ∷ text) is h = refl
differs (d ∷ did) (c ∷ text) is h = h

others_stay : (repositories : Repositories) (did other : List ℕ) → names did other ≡ false → (events : List Event) → AreOf other events → (old new : Holding) → IsHeldFrom repositories did old (messages_of events) new → new ≡ old
others_stay repositories did other unnamed [] are old new h = h
others_stay repositories did other unnamed (event ∷ events) are old new h =
    let s = held_split repositories did old (event.1 ∷ []) (messages_of events) new h in
    let P : List ℕ → Type 0 = λ d. bytes_eq did d ≡ false in
    let of = are.0 in
    others_stay repositories did other unnamed events are.1 s.0 new s.2
    ∙ after_other repositories did event.1 of.event old s.0 of.reads (subst P (sym of.did_is) (differs did other (has_did other event.1 of) unnamed)) s.1

-- ---- one row

unnamed_same : (did : List ℕ) (a : State) (rows : List Row) → list_any (λ row. names did (did_of_row row)) rows ≡ false → folded (account_after did) a rows ≡ a
unnamed_same did a [] h = refl
unnamed_same did a (row ∷ rows) h =
    let parts = or_parts (names did (did_of_row row)) (list_any (λ r. names did (did_of_row r)) rows) h in
    ap (λ (x : State). folded (account_after did) x rows) (by_name (names did (did_of_row row)) parts.0) ∙ unnamed_same did a rows parts.1
  where
    by_name : (b : Bool) → b ≡ false → cond b (moved a row) a ≡ a
    by_name true k = absurd cc
    by_name false k = refl

unnamed_missing : (did : List ℕ) (J : List Row) → is_named did J ≡ false → (account did J).repo ≡ Repo.Missing
unfolding is_named account
unnamed_missing did J h = ap (λ (x : State). x.repo) (unnamed_same did fresh J h)

-- what is known and what is open behind one more row, by whether it names the account
abbrev StepBy : Repositories → List ℕ → List Row → Row → Bool → OpenChain → Holding → Type 0
StepBy repositories did J row named chain next =
    HoldsChain repositories (cond named (moved (account did J) row) (account did J)).repo (opened_by (cond named (part_in row) nothing) (messages_of (events_in row)) chain) next

record Is (J before rows : List Row) (did : List ℕ) : Type 0 where
  whole : J ≡ before ++ rows
  formed : list_all is_row rows ≡ true
  sends : SendWhatTheyKeep before rows
  shown : all_about did (withholds_nothing (is_shown J)) rows ≡ true

shown_parts : (J : List Row) (did : List ℕ) (row : Row) (rows : List Row) → all_about did (withholds_nothing (is_shown J)) (row ∷ rows) ≡ true
    → (names did (did_of_row row) ≡ true → withholds_nothing (is_shown J) row ≡ true) × (all_about did (withholds_nothing (is_shown J)) rows ≡ true)
shown_parts J did row rows h = about_parts (names did (did_of_row row)) (withholds_nothing (is_shown J)) row (rows_about did rows) h

-- an event that isn't withheld is shown
shown_whole : (shown : Bool) (events : List Event) → has_no_event events || shown ≡ true → cond shown events [] ≡ events
shown_whole true events h = refl
shown_whole false [] h = refl
shown_whole false (event ∷ events) h = absurd cc

step : (repositories : Repositories) (J before : List Row) (row : Row) (rows : List Row) (did : List ℕ) (chain : OpenChain) (held next : Holding) → IsJournal J → Is J before (row ∷ rows) did
    → HoldsChain repositories (account did before).repo chain held → IsHeldFrom repositories did held (messages_of (cond (is_shown J row) (events_in row) [])) next
    → StepBy repositories did before row (names did (did_of_row row)) chain next
step repositories J before row rows did chain held next journal is follows h =
    elim (names did (did_of_row row)) as (λ b. names did (did_of_row row) ≡ b → StepBy repositories did before row b chain next) [
      | true ↦ λ named.
          let own = names_same did (did_of_row row) named in
          let P : List Event → Type 0 = λ events. IsHeldFrom repositories did held (messages_of events) next in
          let Q : List ℕ → Type 0 = λ d. HoldsChain repositories (account d before).repo chain held → IsHeldFrom repositories d held (messages_of (events_in row)) next
          → HoldsChain repositories (moved (account d before) row).repo (opened_by (part_in row) (messages_of (events_in row)) chain) next in
          let R : List ℕ → Type 0 = λ d. is_account row ≡ true → (account d before).repo ≡ Repo.Missing in
          let start : is_account row ≡ true → (account did before).repo ≡ Repo.Missing = λ carried. unnamed_missing did before (kept_order did before row (journal.ordered before row rows is.whole) carried named) in
          subst Q (sym own) (row_goes repositories before row chain held next (and_parts (is_row row) (list_all is_row rows) is.formed).0 is.sends.0 (subst R own start)) follows
          (subst P (shown_whole (is_shown J row) (events_in row) ((shown_parts J did row rows is.shown).0 named)) h)
      | false ↦ λ named.
          let S : Holding → Type 0 = λ x. HoldsChain repositories (account did before).repo chain x in
          let of = shown_or_none (is_shown J row) (did_of_row row) (events_in row) (sends_of before row (and_parts (is_row row) (list_all is_row rows) is.formed).0 is.sends.0) in
          subst S (sym (others_stay repositories did (did_of_row row) named (cond (is_shown J row) (events_in row) []) of held next h)) follows
    ] refl

account_more : (did : List ℕ) (J : List Row) (row : Row) → account_after did (account did J) row ≡ account did (J ++ row ∷ [])
account_more did J row = sym (joined did J (row ∷ []))

-- ---- all rows of a front

followed : (repositories : Repositories) (J before front others : List Row) (did : List ℕ) (chain : OpenChain) (held next : Holding) → IsJournal J → Is J before (front ++ others) did
    → HoldsChain repositories (account did before).repo chain held → IsHeldFrom repositories did held (sent J front) next
    → HoldsChain repositories (account did (before ++ front)).repo (folded (opened_after did) chain front) next
followed repositories J before [] others did chain held next journal is follows h =
    let P : List Row → Type 0 = λ R. HoldsChain repositories (account did R).repo chain next in
    let S : Holding → Type 0 = λ x. HoldsChain repositories (account did before).repo chain x in
    subst P (sym (append-nil before)) (subst S (sym h) follows)
followed repositories J before (row ∷ front) others did chain held next journal is follows h =
    let event_message : Event → List ℕ = λ e. e.1 in
    let now : List Event = cond (is_shown J row) (events_in row) [] in
    let P : List (List ℕ) → Type 0 = λ ms. IsHeldFrom repositories did held ms next in
    let s = held_split repositories did held (messages_of now) (sent J front) next (subst P (map-append event_message now (shown_of J front)) h) in
    let one = step repositories J before row (front ++ others) did chain held s.0 journal is follows s.1 in
    let Q : State → Type 0 = λ a. HoldsChain repositories a.repo (opened_after did chain row) s.0 in
    let R : List Row → Type 0 = λ K. HoldsChain repositories (account did K).repo (folded (opened_after did) (opened_after did chain row) front) next in
    subst R (append_assoc before (row ∷ []) front)
    (followed repositories J (before ++ row ∷ []) front others did (opened_after did chain row) s.0 next journal
    (record {
      whole = is.whole ∙ sym (append_assoc before (row ∷ []) (front ++ others));
      formed = (and_parts (is_row row) (list_all is_row (front ++ others)) is.formed).1;
      sends = is.sends.1;
      shown = (shown_parts J did row (front ++ others) is.shown).1;
    })
    (subst Q (account_more did before row) one) s.2)

-- ---- the map

begins_map : (repositories : Repositories) (began : Beginning) (s : List Item) → IsFirstMap repositories began s → IsMap s × (root s ≡ beginning_root began)
begins_map repositories empty s h = (subst (λ (x : List Item). IsMap x) (sym h) (record { formed = tt; ascends = tt; keys_only = tt }), ap (λ (x : List Item). root x) h)
begins_map repositories (base r []) s h = absurd h
begins_map repositories (base r (m ∷ [])) s h = (answer_map repositories h.sync s h.answers, h.rooted)
begins_map repositories (base r (m ∷ (n ∷ ms))) s h = absurd h

first_follows : (repositories : Repositories) (did : List ℕ) → HoldsChain repositories (account did []).repo first_chain (Holding.Mapped None [])
unfolding account
first_follows repositories did = λ s t begins last. (None, ap (λ (x : List Item). Holding.Mapped None x) (sym (last ∙ begins)), refl, refl)

front_faithful : (J front : List Row) (did : List ℕ) (repositories : Repositories) (s : List Item) → MayBeMirrored J front did repositories s → IsFaithfulJournal front
front_faithful J front did repositories s may = stay_faithful.front front may.others (subst IsFaithfulJournal may.whole may.journal)

-- what is held after a front of a journal
after_front : (J front : List Row) (did : List ℕ) (repositories : Repositories) (s : List Item) → MayBeMirrored J front did repositories s → (holding : Holding) → IsHeld repositories did (sent J front) holding
    → HoldsChain repositories (account did front).repo (open_chain did front) holding
after_front J front did repositories s may holding h =
    let is = may.journal in
    let Q : List Row → Type 0 = λ R. list_all is_row R ≡ true in
    let K : List Row → Type 0 = λ R. SendWhatTheyKeep [] R in
    let N : List Row → Type 0 = λ R. all_about did (withholds_nothing (is_shown J)) R ≡ true in
    followed repositories J [] front may.others did first_chain (Holding.Mapped None []) holding is.journal
    (record {
      whole = may.whole;
      formed = subst Q may.whole is.journal.formed;
      sends = subst K may.whole is.sends;
      shown = subst N may.whole may.shown;
    })
    (first_follows repositories did) h

-- the map to which its chain replays
record Replays (front : List Row) (did : List ℕ) (s : List Item) : Type 0 where
  map : List Item
  replayed : Replay s (open_chain did front).commits map
  rooted : root map ≡ root_behind (beginning_root (open_chain did front).began) (open_chain did front).commits

chain_replays : (J front : List Row) (did : List ℕ) (repositories : Repositories) (s : List Item) → MayBeMirrored J front did repositories s → Replays front did s
chain_replays J front did repositories s may =
    let chain = open_chain did front in
    let linked = last_linked did first_chain front ((front_faithful J front did repositories s may).sound did) in
    let start = begins_map repositories chain.began s may.begins in
    let went = replays (beginning_root chain.began) chain.commits linked s start.0 start.1 may.apart in
    record { map = went.0; replayed = went.1; rooted = went.2 }

pub mirrors_hold : MirrorsHoldChains
mirrors_hold J front did repositories s may =
    let chain = open_chain did front in
    let went = chain_replays J front did repositories s may in
    let last = last_rev repositories chain.began s may.begins chain.commits s went.map went.replayed in
    record {
      map = went.map;
      rev = last.0;
      replayed = went.replayed;
      rooted = went.rooted;
      last = last.1;
      held = λ holding h.
          let end = after_front J front did repositories s may holding h s went.map may.begins went.replayed in
          end.1 ∙ ap (λ (r : Option ℕ). Holding.Mapped r went.map) (one_rev chain.began chain.commits end.0 last.0 end.3 last.1);
    }

-- ---- and the head of a good account

pub heads_hold : MirrorsHoldHeads
heads_hold J front did repositories s head may good =
    let went = chain_replays J front did repositories s may in
    record {
      map = went.map;
      rooted = went.rooted ∙ good_root did front head (front_faithful J front did repositories s may).journal good;
      held = λ holding h.
          let Q : Repo → Type 0 = λ repo. HoldsChain repositories repo (open_chain did front) holding in
          let end = subst Q good (after_front J front did repositories s may holding h) s went.map may.begins went.replayed in
          end.1 ∙ ap (λ (r : Option ℕ). Holding.Mapped r went.map) end.2;
    }
