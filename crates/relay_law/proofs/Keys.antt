-- What a row comes from, but for its numbers: the host, the message, and the account before it where the host is its home.
use Rattle.std.proofs.Common.{◌≡◌, ℕ, Bool, true, false, not, ◌&&◌, List, [], ◌∷◌, Option, Some, None, refl, ap, ◌∙◌, sym, cond, subst}
use Rattle.std.specs.Prelude.{if◌then◌else◌, nat_lt}
use Rattle.std.specs.Str.{bytes_eq}
use Rattle.at_event.specs.Refusals.{code_of}
use Rattle.at_event.specs.Seen.{Seen}
use Rattle.at_event.specs.Writing.{out_length}
use Rattle.at_event.specs.declared.event.Body.{Body}
use Rattle.at_event.specs.declared.frame.Frame.{Frame}
use Rattle.at_event.specs.declared.refusal.Refusal.{Refusal}
use Rattle.relay_row.specs.Folds.{names, last_seq, cursor_after}
use Rattle.relay_row.specs.Rules.{loses}
use Rattle.relay_row.specs.declared.fetched.Fetched.{Fetched}
use Rattle.relay_row.specs.declared.row.Row.{Row}
use Rattle.relay_row.specs.declared.taken.Effect.{Effect}
use Rattle.relay_row.specs.declared.taken.Taken.{Taken}
use Rattle.account_state.specs.Folds.{account, account_after, fresh, moved, taken_by, lost, refetched}
use Rattle.account_state.specs.State.{State}
use Rattle.relay_core.specs.Decide.{Checks, Outside, Found, absent, unfit, found, fetched_as, first_refusal, refusal_of, decided_event, decided, body_refusals, event_row, when}
use Rattle.relay_core.specs.Rows.{faulty_taken, kind_number}
use Rattle.relay_core.specs.Table.{did_of}
use Rattle.relay_core.specs.Worlds.{World, outside, outside_of}
use Rattle.relay_core.specs.declared.limits.TheConstants.{LONGEST_MESSAGE}
use Rattle.relay_law.specs.Merges.{IsOf}
use Rattle.account_state.proofs.Dids.{names_same}

-- what a host that isn't the home is told

abbrev pub far : Seen → Refusal
far e = if nat_lt LONGEST_MESSAGE (out_length e) then Refusal.TooLong else Refusal.NotHome

far_keeps : (e : Seen) → loses (code_of (far e)) ≡ false
far_keeps e = elim (nat_lt LONGEST_MESSAGE (out_length e)) as (λ b. loses (code_of (cond b Refusal.TooLong Refusal.NotHome)) ≡ false) [ true ↦ refl | false ↦ refl ]

far_body : (checks : Checks) (a : State) (e : Seen) (o : Outside) (body : Body) → o.home ≡ false → first_refusal (body_refusals checks a e body o (Some o.moment)) ≡ Some Refusal.NotHome
far_body checks a e o (Body.Commit c) h = rw h refl
far_body checks a e o (Body.Sync s) h = rw h refl
far_body checks a e o Body.Identity h = rw h refl
far_body checks a e o (Body.Account b) h = rw h refl

far_first : (long : Bool) (others : List (Option Refusal)) → first_refusal others ≡ Some Refusal.NotHome → first_refusal (when long Refusal.TooLong ∷ others) ≡ Some (cond long Refusal.TooLong Refusal.NotHome)
far_first true others h = refl
far_first false others h = h

far_refusal : (checks : Checks) (a : State) (e : Seen) (o : Outside) → o.home ≡ false → refusal_of checks a e o ≡ Some (far e)
far_refusal checks a e o h = far_first (nat_lt LONGEST_MESSAGE (out_length e)) (body_refusals checks a e e.body o (Some o.moment)) (far_body checks a e o e.body h)

abbrev pub far_taken : List ℕ → Seen → ℕ → Taken
far_taken host e moment = record {
  host = host;
  host_seq = e.seq;
  did = e.did;
  kind = kind_number e.body;
  refusal = Some (far e);
  seq = 0;
  message = [];
  effect = Effect.Nothing;
  fetched = Fetched.NotAsked;
  moment = Some moment;
}

pub far_event : (checks : Checks) (n : ℕ) (a : State) (host : List ℕ) (e : Seen) (o : Outside) → o.home ≡ false → decided_event checks n a host e o ≡ far_taken host e o.moment
far_event checks n a host e o h = rw (far_refusal checks a e o h, far_keeps e) refl

pub far_account : (did : List ℕ) (b : State) (host : List ℕ) (e : Seen) (moment : ℕ) → account_after did b (Row.Taken (far_taken host e moment)) ≡ b
far_account did b host e moment =
    elim (names did e.did) as (λ t. cond t (moved b (Row.Taken (far_taken host e moment))) b ≡ b) [ true ↦ rw (far_keeps e) refl | false ↦ refl ]

-- the number given doesn't move the account

made_free : (b : State) (e : Seen) (f : Found) (n k : ℕ) → refetched b (fetched_as n e f) ≡ refetched b (fetched_as k e f)
made_free b e absent n k = refl
made_free b e (unfit i) n k = refl
made_free b e (found head records block) n k = refl

fetched_free : (b : State) (e : Seen) (f : Found) (asked : Bool) (n k : ℕ) → refetched b (cond asked (fetched_as n e f) Fetched.NotAsked) ≡ refetched b (cond asked (fetched_as k e f) Fetched.NotAsked)
fetched_free b e f true n k = made_free b e f n k
fetched_free b e f false n k = refl

event_free : (checks : Checks) (a : State) (host : List ℕ) (e : Seen) (o : Outside) (b : State) (q : Option Refusal) (n k : ℕ)
    → taken_by b (event_row checks n a host e o (Some o.moment) q) ≡ taken_by b (event_row checks k a host e o (Some o.moment) q)
event_free checks a host e o b None n k = refl
event_free checks a host e o b (Some r) n k = fetched_free (lost b (Some r)) e o.fetched (loses (code_of r)) n k

-- the account and the cursor that the row of an event moves
event_moves : (checks : Checks) (n : ℕ) (a : State) (host : List ℕ) (e : Seen) (o : Outside) (did : List ℕ) (b : State) (q : Option Refusal)
    → account_after did b (Row.Taken (event_row checks n a host e o (Some o.moment) q)) ≡ cond (names did e.did) (taken_by b (event_row checks n a host e o (Some o.moment) q)) b
event_moves checks n a host e o did b None = refl
event_moves checks n a host e o did b (Some r) = refl

event_cursor : (checks : Checks) (n : ℕ) (a : State) (host : List ℕ) (e : Seen) (o : Outside) (name : List ℕ) (c : ℕ) (q : Option Refusal)
    → cursor_after name c (Row.Taken (event_row checks n a host e o (Some o.moment) q)) ≡ cond (names name host) e.seq c
event_cursor checks n a host e o name c None = refl
event_cursor checks n a host e o name c (Some r) = refl

-- ---- keys

pub record Key : Type 0 where
  pub host : List ℕ
  pub frame : Frame
  pub before : State

-- a message that makes no row has some row here, which nothing reads
abbrev pub or_some : Option Taken → Row
or_some None = Row.Taken (faulty_taken [] 0 None)
or_some (Some t) = Row.Taken t

-- what is decided of a message in a world, for an account
abbrev pub decided_for : Checks → World → ℕ → List ℕ → Frame → State → Option Taken
decided_for checks w n host f a = decided checks n a host f (outside_of w host a f)

abbrev pub keyed : Checks → World → Key → ℕ → Row
keyed checks w k n = or_some (decided_for checks w n k.host k.frame k.before)

abbrev pub row_in : Checks → World → List Row → List ℕ → Frame → Row
row_in checks w J host f = or_some (decided_for checks w (last_seq J) host f (account (did_of f) J))

-- the account before a message, where the host is its home
abbrev pub before_in : World → List Row → List ℕ → Frame → State
before_in w J host (Frame.Event e) = if w.home e.did host then account e.did J else fresh
before_in w J host (Frame.Faulty seq) = fresh
before_in w J host Frame.Info = fresh
before_in w J host Frame.Error = fresh
before_in w J host Frame.Unknown = fresh

abbrev pub key_in : World → List Row → List ℕ → Frame → Key
key_in w J host f = record { host = host; frame = f; before = before_in w J host f }

-- a row comes from its key
pub decided_keyed : (checks : Checks) (w : World) (J : List Row) (n : ℕ) (host : List ℕ) (f : Frame) → decided_for checks w n host f (account (did_of f) J) ≡ decided_for checks w n host f (before_in w J host f)
decided_keyed checks w J n host (Frame.Event e) =
    elim (w.home e.did host) as (λ t. w.home e.did host ≡ t → decided_for checks w n host (Frame.Event e) (account e.did J) ≡ decided_for checks w n host (Frame.Event e) (cond t (account e.did J) fresh)) [
      | true ↦ λ t. refl
      | false ↦ λ t. ap (λ (x : Taken). Some x) (far_event checks n (account e.did J) host e (outside w host (account e.did J) e) t ∙ sym (far_event checks n fresh host e (outside w host fresh e) t))
    ] refl
decided_keyed checks w J n host (Frame.Faulty seq) = refl
decided_keyed checks w J n host Frame.Info = refl
decided_keyed checks w J n host Frame.Error = refl
decided_keyed checks w J n host Frame.Unknown = refl

pub row_keyed : (checks : Checks) (w : World) (J : List Row) (host : List ℕ) (f : Frame) → row_in checks w J host f ≡ keyed checks w (key_in w J host f) (last_seq J)
row_keyed checks w J host f = ap or_some (decided_keyed checks w J (last_seq J) host f)

with_before : List ℕ → Frame → State → Key
with_before host f a = record { host = host; frame = f; before = a }

-- messages behind two journals have one key, where their account is the same or this isn't its home
pub same_key : (w : World) (J K : List Row) (host : List ℕ) (f : Frame) → ((did : List ℕ) → IsOf f did → w.home did host ≡ true → account did J ≡ account did K) → key_in w J host f ≡ key_in w K host f
unfolding with_before
same_key w J K host (Frame.Event e) same =
    elim (w.home e.did host) as (λ t. w.home e.did host ≡ t → ◌≡◌ {A = Key} (record { host = host; frame = Frame.Event e; before = cond t (account e.did J) fresh }) (record { host = host; frame = Frame.Event e; before = cond t (account e.did K) fresh })) [
      | true ↦ λ t. ap (with_before host (Frame.Event e)) (same e.did refl t)
      | false ↦ λ t. refl
    ] refl
same_key w J K host (Frame.Faulty seq) same = refl
same_key w J K host Frame.Info same = refl
same_key w J K host Frame.Error same = refl
same_key w J K host Frame.Unknown same = refl

-- rows of one key act alike

event_account : (checks : Checks) (a : State) (host : List ℕ) (e : Seen) (o : Outside) (did : List ℕ) (b : State) (n m : ℕ) → account_after did b (Row.Taken (decided_event checks n a host e o)) ≡ account_after did b (Row.Taken (decided_event checks m a host e o))
event_account checks a host e o did b n m =
    let q = refusal_of checks a e o in
    event_moves checks n a host e o did b q ∙ ap (λ (x : State). cond (names did e.did) x b) (event_free checks a host e o b q n m) ∙ sym (event_moves checks m a host e o did b q)

frame_account : (checks : Checks) (w : World) (host : List ℕ) (f : Frame) (a : State) (did : List ℕ) (b : State) (n m : ℕ) → account_after did b (or_some (decided_for checks w n host f a)) ≡ account_after did b (or_some (decided_for checks w m host f a))
frame_account checks w host (Frame.Event e) a did b n m = event_account checks a host e (outside w host a e) did b n m
frame_account checks w host (Frame.Faulty seq) a did b n m = refl
frame_account checks w host Frame.Info a did b n m = refl
frame_account checks w host Frame.Error a did b n m = refl
frame_account checks w host Frame.Unknown a did b n m = refl

pub keyed_account : (checks : Checks) (w : World) (k : Key) (did : List ℕ) (b : State) (n m : ℕ) → account_after did b (keyed checks w k n) ≡ account_after did b (keyed checks w k m)
keyed_account checks w k did b n m = frame_account checks w k.host k.frame k.before did b n m

frame_cursor : (checks : Checks) (w : World) (host : List ℕ) (f : Frame) (a : State) (name : List ℕ) (c n m : ℕ) → cursor_after name c (or_some (decided_for checks w n host f a)) ≡ cursor_after name c (or_some (decided_for checks w m host f a))
frame_cursor checks w host (Frame.Event e) a name c n m =
    let o = outside w host a e in
    event_cursor checks n a host e o name c (refusal_of checks a e o) ∙ sym (event_cursor checks m a host e o name c (refusal_of checks a e o))
frame_cursor checks w host (Frame.Faulty seq) a name c n m = refl
frame_cursor checks w host Frame.Info a name c n m = refl
frame_cursor checks w host Frame.Error a name c n m = refl
frame_cursor checks w host Frame.Unknown a name c n m = refl

pub keyed_cursor : (checks : Checks) (w : World) (k : Key) (name : List ℕ) (c n m : ℕ) → cursor_after name c (keyed checks w k n) ≡ cursor_after name c (keyed checks w k m)
keyed_cursor checks w k name c n m = frame_cursor checks w k.host k.frame k.before name c n m

-- another host's row

unnamed : (t : Bool) (b : Bool) → b ≡ false → t && b ≡ false
unnamed true b h = h
unnamed false b h = refl

other_name : (name host : List ℕ) (c seq : ℕ) → bytes_eq name host ≡ false → cond (names name host) seq c ≡ c
other_name name host c seq h = ap (λ (b : Bool). cond b seq c) (unnamed (not (bytes_eq name [])) (bytes_eq name host) h)

names_none : (name : List ℕ) (c seq : ℕ) → cond (names name []) seq c ≡ c
names_none name c seq = elim (bytes_eq name []) as (λ b. cond (not b && b) seq c ≡ c) [ true ↦ refl | false ↦ refl ]

pub row_cursor : (checks : Checks) (w : World) (J : List Row) (host name : List ℕ) (f : Frame) (c : ℕ) → bytes_eq name host ≡ false → cursor_after name c (row_in checks w J host f) ≡ c
row_cursor checks w J host name (Frame.Event e) c h =
    let a = account e.did J in
    let o = outside w host a e in
    event_cursor checks (last_seq J) a host e o name c (refusal_of checks a e o) ∙ other_name name host c e.seq h
row_cursor checks w J host name (Frame.Faulty seq) c h = other_name name host c seq h
row_cursor checks w J host name Frame.Info c h = names_none name c 0
row_cursor checks w J host name Frame.Error c h = names_none name c 0
row_cursor checks w J host name Frame.Unknown c h = names_none name c 0

none_moves : (did : List ℕ) (b moved_to : State) → cond (names did []) moved_to b ≡ b
none_moves did b moved_to = elim (bytes_eq did []) as (λ t. cond (not t && t) moved_to b ≡ b) [ true ↦ refl | false ↦ refl ]

-- the account of a DID stays, where the message isn't one of it or the host isn't its home
pub far_stays : (checks : Checks) (w : World) (J : List Row) (host : List ℕ) (f : Frame) (did : List ℕ) (b : State) → (IsOf f did → w.home did host ≡ false) → account_after did b (row_in checks w J host f) ≡ b
far_stays checks w J host (Frame.Event e) did b far_home =
    let a = account e.did J in
    let t = decided_event checks (last_seq J) a host e (outside w host a e) in
    elim (names did e.did) as (λ s. names did e.did ≡ s → account_after did b (Row.Taken t) ≡ b) [
      | true ↦ λ s.
          let same : did ≡ e.did = names_same did e.did s in
          let home : w.home e.did host ≡ false = subst (λ (x : List ℕ). w.home x host ≡ false) same (far_home (sym same)) in
          ap (λ (x : Taken). account_after did b (Row.Taken x)) (far_event checks (last_seq J) a host e (outside w host a e) home) ∙ far_account did b host e (w.moment host (Frame.Event e))
      | false ↦ λ s.
          let o = outside w host a e in
          event_moves checks (last_seq J) a host e o did b (refusal_of checks a e o) ∙ ap (λ (x : Bool). cond x (taken_by b t) b) s
    ] refl
far_stays checks w J host (Frame.Faulty seq) did b far_home = none_moves did b (taken_by b (faulty_taken host seq (Some (w.moment host (Frame.Faulty seq)))))
far_stays checks w J host Frame.Info did b far_home = none_moves did b (taken_by b (faulty_taken [] 0 None))
far_stays checks w J host Frame.Error did b far_home = none_moves did b (taken_by b (faulty_taken [] 0 None))
far_stays checks w J host Frame.Unknown did b far_home = none_moves did b (taken_by b (faulty_taken [] 0 None))
