-- Two merges of the same hosts' streams agree.
use Rattle.std.proofs.Common.{◌≡◌, ℕ, Bool, true, false, List, [], ◌∷◌, ◌++◌, Option, Some, None, Ok, Err, ◌⊎◌, inl, inr, refl, ap, ◌∙◌, sym, cond, subst, append_assoc}
use Rattle.std.proofs.lemmas.Bool.{false≢true}
use Rattle.std.proofs.lemmas.List.{append-nil}
use Rattle.std.proofs.lemmas.Slice.Eq.{bytes_eq-Decides}
use Rattle.std.specs.Str.{bytes_eq}
use Rattle.at_event.specs.declared.frame.Frame.{Frame}
use Rattle.relay_row.specs.Folds.{cursor, last_seq, host_in}
use Rattle.relay_row.specs.declared.row.Row.{Row}
use Rattle.relay_row.specs.declared.taken.Taken.{Taken}
use Rattle.account_state.specs.Folds.{account}
use Rattle.relay_core.specs.Decide.{Checks, decided_event, refusal_of}
use Rattle.relay_core.specs.Rows.{faulty_taken}
use Rattle.relay_core.specs.Runs.{Message, Turn, skipped_by, has_ended}
use Rattle.relay_core.specs.Worlds.{World, IsMadeIn, RunsIn, outside, outside_of}
use Rattle.relay_core.specs.declared.decision.Pass.{Pass}
use Rattle.relay_core.proofs.Agreeing.{event_told}
use Rattle.relay_law.specs.Laws.{MergesAgree}
use Rattle.relay_law.specs.Merges.{only, Merge, TellsOf, Names, OneHome, AreAlike, AllAlike, rows_of}
use Rattle.relay_law.proofs.Keys.{Key, or_some, decided_for, decided_keyed, key_in, row_in}
use Rattle.relay_law.proofs.Merging.{Carry, after, alone, frame_in, goes_on, keys_of, none_stays}

-- a row that comes from a key, under a number
pub record IsKeyed (checks : Checks) (w : World) (row : Row) (k : Key) : Type 0 where
  pub last : ℕ
  pub taken : Taken
  pub row_is : row ≡ Row.Taken taken
  pub made : decided_for checks w last k.host k.frame k.before ≡ Some taken

abbrev HaveKeys : Checks → World → List Row → List Key → Type 0
HaveKeys checks w [] [] = Unit {0}
HaveKeys checks w [] (k ∷ ks) = ⊥
HaveKeys checks w (row ∷ rows) [] = ⊥
HaveKeys checks w (row ∷ rows) (k ∷ ks) = IsKeyed checks w row k × HaveKeys checks w rows ks

-- what is behind a journal after a run: these rows, and their keys
record Behind (checks : Checks) (w : World) (J : List Row) (keys : List Key) (rows : List Row) (s : Carry) : Type 0 where
  made : List Key
  rows_are : s.rows ≡ J ++ rows
  keys_are : s.keys ≡ keys ++ made
  have : HaveKeys checks w rows made

made_row : (checks : Checks) (w : World) (J : List Row) (m : Message) (row : Row) → IsMadeIn checks w J m row → row_in checks w J m.0 (frame_in m) ≡ row
made_row checks w J (host, Ok f) (Row.Taken t) h = ap or_some h.1
made_row checks w J (host, Ok f) (Row.Synced did whole moment) h = absurd h
made_row checks w J (host, Ok f) (Row.Operated o) h = absurd h
made_row checks w J (host, Ok f) (Row.Carried c) h = absurd h
made_row checks w J (host, Err fault) row h = absurd h

made_key : (checks : Checks) (w : World) (J : List Row) (m : Message) (row : Row) → IsMadeIn checks w J m row → IsKeyed checks w row (key_in w J m.0 (frame_in m))
made_key checks w J (host, Ok f) (Row.Taken t) h = record { last = last_seq J; taken = t; row_is = refl; made = sym (decided_keyed checks w J (last_seq J) host f) ∙ h.1 }
made_key checks w J (host, Ok f) (Row.Synced did whole moment) h = absurd h
made_key checks w J (host, Ok f) (Row.Operated o) h = absurd h
made_key checks w J (host, Ok f) (Row.Carried c) h = absurd h
made_key checks w J (host, Err fault) row h = absurd h

abbrev carry : List Row → List (List ℕ) → List Key → Carry
carry J ended keys = record { rows = J; ended = ended; keys = keys }

abbrev Goes : Checks → World → List Message → Type 0
Goes checks w messages = (J : List Row) (ended : List (List ℕ)) (keys : List Key) (rows : List Row) → RunsIn checks w J ended messages rows → Behind checks w J keys rows (after checks w (carry J ended keys) messages)

turned : (checks : Checks) (w : World) (m : Message) (messages : List Message) → Goes checks w messages → (J : List Row) (ended : List (List ℕ)) (keys : List Key) (rows : List Row) (b : Bool) (p : Option Pass)
    → Turn b p (RunsIn checks w J (m.0 ∷ ended) messages rows) (RunsIn checks w J ended messages rows)
    ((row : Row) × (others : List Row) × (rows ≡ row ∷ others) × IsMadeIn checks w J m row × RunsIn checks w (J ++ row ∷ []) ended messages others)
    → Behind checks w J keys rows (after checks w (goes_on b p m.0 (row_in checks w J m.0 (frame_in m)) (key_in w J m.0 (frame_in m)) (carry J ended keys)) messages)
turned checks w m messages more J ended keys rows true p h = more J ended keys rows h
turned checks w m messages more J ended keys rows false (Some Pass.Ended) h = more J (m.0 ∷ ended) keys rows h
turned checks w m messages more J ended keys rows false (Some Pass.Old) h = more J ended keys rows h
turned checks w m messages more J ended keys rows false (Some Pass.Unknown) h = more J ended keys rows h
turned checks w m messages more J ended keys rows false (Some Pass.Info) h = more J ended keys rows h
turned checks w m messages more J ended keys rows false None (row, others, is, made, run) =
    let k = key_in w J m.0 (frame_in m) in
    let rest = more (J ++ row ∷ []) ended (keys ++ k ∷ []) others run in
    let P : Row → Type 0 = λ x. Behind checks w J keys rows (after checks w (carry (J ++ x ∷ []) ended (keys ++ k ∷ [])) messages) in
    let H : List Row → Type 0 = λ R. HaveKeys checks w R (k ∷ rest.made) in
    let behind : Behind checks w J keys rows (after checks w (carry (J ++ row ∷ []) ended (keys ++ k ∷ [])) messages) = record {
      made = k ∷ rest.made;
      rows_are = rest.rows_are ∙ append_assoc J (row ∷ []) others ∙ ap (λ (R : List Row). J ++ R) (sym is);
      keys_are = rest.keys_are ∙ append_assoc keys (k ∷ []) rest.made;
      have = subst H (sym is) (made_key checks w J m row made, rest.have);
    } in
    subst P (sym (made_row checks w J m row made)) behind

run_behind : (checks : Checks) (w : World) (messages : List Message) → Goes checks w messages
run_behind checks w [] J ended keys rows h = record {
  made = [];
  rows_are = sym (ap (λ (R : List Row). J ++ R) h ∙ append-nil J);
  keys_are = sym (append-nil keys);
  have = subst (λ (R : List Row). HaveKeys checks w R []) (sym h) tt;
}
run_behind checks w (m ∷ messages) J ended keys rows h = turned checks w m messages (run_behind checks w messages) J ended keys rows (has_ended ended m.0) (skipped_by J m) h

-- ---- the rows of a host

taken_host : (checks : Checks) (w : World) (n : ℕ) (k : Key) (f : Frame) (t : Taken) → decided_for checks w n k.host f k.before ≡ Some t → t.host ≡ k.host
taken_host checks w n k (Frame.Event e) t h = let s = decided_event checks n k.before k.host e (outside w k.host k.before e) in let same : s ≡ t = cc in ap (λ (x : Taken). x.host) (sym same) ∙ (event_told checks n k.before k.host e (outside w k.host k.before e) (Some (w.moment k.host (Frame.Event e))) (refusal_of checks k.before e (outside w k.host k.before e))).host
taken_host checks w n k (Frame.Faulty seq) t h = let s = faulty_taken k.host seq (Some (w.moment k.host (Frame.Faulty seq))) in let same : s ≡ t = cc in ap (λ (x : Taken). x.host) (sym same)
taken_host checks w n k Frame.Info t h = absurd cc
taken_host checks w n k Frame.Error t h = absurd cc
taken_host checks w n k Frame.Unknown t h = absurd cc

keyed_host : (checks : Checks) (w : World) (row : Row) (k : Key) → IsKeyed checks w row k → host_in row ≡ k.host
keyed_host checks w row k h = ap host_in h.row_is ∙ taken_host checks w h.last k k.frame h.taken h.made

own_keys : (checks : Checks) (w : World) (host : List ℕ) (rows : List Row) (ks : List Key) → HaveKeys checks w rows ks → HaveKeys checks w (rows_of host rows) (keys_of host ks)
own_keys checks w host [] [] h = tt
own_keys checks w host [] (k ∷ ks) h = absurd h
own_keys checks w host (row ∷ rows) [] h = absurd h
own_keys checks w host (row ∷ rows) (k ∷ ks) h =
    let P : List ℕ → Type 0 = λ name. HaveKeys checks w (cond (bytes_eq host (host_in row)) (row ∷ rows_of host rows) (rows_of host rows)) (cond (bytes_eq host name) (k ∷ keys_of host ks) (keys_of host ks)) in
    subst P (keyed_host checks w row k h.0)
    (elim (bytes_eq host (host_in row)) as (λ b. HaveKeys checks w (cond b (row ∷ rows_of host rows) (rows_of host rows)) (cond b (k ∷ keys_of host ks) (keys_of host ks))) [
      | true ↦ (h.0, own_keys checks w host rows ks h.1)
      | false ↦ own_keys checks w host rows ks h.1
    ])

one_alike : (checks : Checks) (w : World) (one other : Row) (k : Key) → IsKeyed checks w one k → IsKeyed checks w other k → AreAlike checks one other
one_alike checks w one other k a b =
    let P : Row → Type 0 = λ r. AreAlike checks r other in
    let Q : Row → Type 0 = λ r. AreAlike checks (Row.Taken a.taken) r in
    subst P (sym a.row_is) (subst Q (sym b.row_is) (record {
      host = k.host;
      frame = k.frame;
      before = k.before;
      answers = outside_of w k.host k.before k.frame;
      one_last = a.last;
      other_last = b.last;
      one_is = a.made;
      other_is = b.made;
    }))

all_alike : (checks : Checks) (w : World) (ks : List Key) (ones others : List Row) → HaveKeys checks w ones ks → HaveKeys checks w others ks → AllAlike checks ones others
all_alike checks w [] [] [] a b = tt
all_alike checks w [] [] (other ∷ others) a b = absurd b
all_alike checks w [] (one ∷ ones) others a b = absurd a
all_alike checks w (k ∷ ks) [] others a b = absurd a
all_alike checks w (k ∷ ks) (one ∷ ones) [] a b = absurd b
all_alike checks w (k ∷ ks) (one ∷ ones) (other ∷ others) a b = (one_alike checks w one other k a.0 b.0, all_alike checks w ks ones others a.1 b.1)

-- ---- who tells of an account

named_only : (host did : List ℕ) (T : List Message) → Names T host did → Names (only host T) host did
named_only host did [] h = h
named_only host did (m ∷ T) (inl h) = rw ((bytes_eq-Decides host m.0).1 (sym h.0)) (inl h)
named_only host did (m ∷ T) (inr h) =
    elim (bytes_eq host m.0) as (λ t. Names (cond t (m ∷ only host T) (only host T)) host did) [ true ↦ inr (named_only host did T h) | false ↦ named_only host did T h ]

named_back : (host did : List ℕ) (T : List Message) → Names (only host T) host did → Names T host did
named_back host did [] h = h
named_back host did (m ∷ T) h =
    elim (bytes_eq host m.0) as (λ t. Names (cond t (m ∷ only host T) (only host T)) host did → Names (m ∷ T) host did) [
      | true ↦ λ k. elim k [ inl e ↦ inl e | inr e ↦ inr (named_back host did T e) ]
      | false ↦ λ k. inr (named_back host did T k)
    ] h

named_there : (T U : List Message) → Merge T U → (host did : List ℕ) → Names T host did → Names U host did
named_there T U merge host did h = named_back host did U (subst (λ (V : List Message). Names V host did) (merge host) (named_only host did T h))

record HasHome (w : World) (did : List ℕ) (T : List Message) : Type 0 where
  host : List ℕ
  named : Names T host did
  home : w.home did host ≡ true

abbrev HasNone : World → List ℕ → List Message → Type 0
HasNone w did T = (host : List ℕ) → Names T host did → w.home did host ≡ false

-- an event of a message tells of its account, or of none
tells_or_not : (m : Message) (did : List ℕ) → TellsOf m did ⊎ (TellsOf m did → ⊥)
tells_or_not (host, Ok (Frame.Event e)) did =
    elim (bytes_eq e.did did) as (λ b. bytes_eq e.did did ≡ b → (e.did ≡ did) ⊎ (e.did ≡ did → ⊥)) [
      | true ↦ λ b. inl ((bytes_eq-Decides e.did did).0 b)
      | false ↦ λ b. inr (λ same. false≢true (sym b ∙ (bytes_eq-Decides e.did did).1 same))
    ] refl
tells_or_not (host, Ok (Frame.Faulty seq)) did = inr (λ h. h)
tells_or_not (host, Ok Frame.Info) did = inr (λ h. h)
tells_or_not (host, Ok Frame.Error) did = inr (λ h. h)
tells_or_not (host, Ok Frame.Unknown) did = inr (λ h. h)
tells_or_not (host, Err fault) did = inr (λ h. h)

home_first : (w : World) (did : List ℕ) (m : Message) (T : List Message) → HasNone w did T → TellsOf m did ⊎ (TellsOf m did → ⊥) → HasHome w did (m ∷ T) ⊎ HasNone w did (m ∷ T)
home_first w did m T none (inr not_told) = inr (λ host h. elim h [ inl e ↦ absurd (not_told e.1) | inr e ↦ none host e ])
home_first w did m T none (inl tells) =
    elim (w.home did m.0) as (λ t. w.home did m.0 ≡ t → HasHome w did (m ∷ T) ⊎ HasNone w did (m ∷ T)) [
      | true ↦ λ t. inl (record { host = m.0; named = inl (refl, tells); home = t })
      | false ↦ λ t. inr (λ host h. elim h [ inl e ↦ subst (λ (x : List ℕ). w.home did x ≡ false) e.0 t | inr e ↦ none host e ])
    ] refl

-- a DID has a home among the hosts that tell of it, or none
home_or_none : (w : World) (did : List ℕ) (T : List Message) → HasHome w did T ⊎ HasNone w did T
home_or_none w did [] = inr (λ host h. absurd h)
home_or_none w did (m ∷ T) = elim (home_or_none w did T) [
  | inl h ↦ inl (record { host = h.host; named = inr h.named; home = h.home })
  | inr none ↦ home_first w did m T none (tells_or_not m did)
]

one_home_there : (w : World) (T U : List Message) → Merge T U → OneHome w T → OneHome w U
one_home_there w T U merge one did a b na nb = one did a b (named_there U T (λ host. sym (merge host)) a did na) (named_there U T (λ host. sym (merge host)) b did nb)

module _ (checks : Checks) (w : World) (s : Carry) (T U : List Message) (merge : Merge T U) (one : OneHome w T) where
  two : OneHome w U
  two = one_home_there w T U merge one

  middle : (host : List ℕ) → after checks w s (only host T) ≡ after checks w s (only host U)
  middle host = ap (λ V. after checks w s V) (merge host)

  same_cursors : (host : List ℕ) → cursor host (after checks w s T).rows ≡ cursor host (after checks w s U).rows
  same_cursors host = (alone checks w host T s one).cursors ∙ ap (λ (x : Carry). cursor host x.rows) (middle host) ∙ sym (alone checks w host U s two).cursors

  same_keys : (host : List ℕ) → keys_of host (after checks w s T).keys ≡ keys_of host (after checks w s U).keys
  same_keys host = (alone checks w host T s one).keys ∙ ap (λ (x : Carry). keys_of host x.keys) (middle host) ∙ sym (alone checks w host U s two).keys

  same_accounts : (did : List ℕ) → account did (after checks w s T).rows ≡ account did (after checks w s U).rows
  same_accounts did = elim (home_or_none w did T) [
    | inl h ↦ (alone checks w h.host T s one).accounts did h.named h.home ∙ ap (λ (x : Carry). account did x.rows) (middle h.host)
        ∙ sym ((alone checks w h.host U s two).accounts did (named_there T U merge h.host did h.named) h.home)
    | inr none ↦ none_stays checks w did T s none ∙ sym (none_stays checks w did U s (λ host h. none host (named_there U T (λ x. sym (merge x)) host did h)))
  ]

pub merges_agree : MergesAgree
merges_agree checks w J ended T U ones others merge one run_one run_other =
    let s = carry J ended [] in
    let a = run_behind checks w T J ended [] ones run_one in
    let b = run_behind checks w U J ended [] others run_other in
    record {
      accounts = λ did. ap (λ (R : List Row). account did R) (sym a.rows_are) ∙ same_accounts checks w s T U merge one did ∙ ap (λ (R : List Row). account did R) b.rows_are;
      cursors = λ host. ap (λ (R : List Row). cursor host R) (sym a.rows_are) ∙ same_cursors checks w s T U merge one host ∙ ap (λ (R : List Row). cursor host R) b.rows_are;
      rows = λ host.
          let P : List Key → Type 0 = λ ks. HaveKeys checks w (rows_of host others) ks in
          let same : keys_of host b.made ≡ keys_of host a.made = ap (λ (ks : List Key). keys_of host ks) (sym b.keys_are) ∙ sym (same_keys checks w s T U merge one host) ∙ ap (λ (ks : List Key). keys_of host ks) a.keys_are in
          all_alike checks w (keys_of host a.made) (rows_of host ones) (rows_of host others) (own_keys checks w host ones a.made a.have) (subst P same (own_keys checks w host others b.made b.have));
    }
