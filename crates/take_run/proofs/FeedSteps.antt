-- Messages of a host, one behind another, and the ways in which taking them ends.
use Rattle.std.proofs.Common.{◌≡◌, ◌≢◌, ◌≤◌, ◌<◌, ◌⊎◌, inl, inr, ℕ, ◌+◌, true, false, List, [], ◌∷◌, ◌++◌, length, IsTrue, refl, ap, ◌∙◌, sym, subst, arith, append_assoc, length-append, Some}
use Rattle.std.proofs.lemmas.List.{append-nil, length-map}
use Rattle.relay_disk.specs.Disk.{View, IsDisk}
use Rattle.relay_row.specs.declared.row.Row.{Row}
use Rattle.relay_core.specs.Decide.{Checks}
use Rattle.relay_core.specs.Report.{end_line}
use Rattle.relay_core.specs.Runs.{has_ended}
use Rattle.relay_law.proofs.Choosing.{some_right}
use Rattle.relay_step.specs.Around.{Around}
use Rattle.relay_step.specs.Steps.{Step, Decided, AreSteps, IsDecidedAs, after_end, ended_by_all, message_of, messages, rows}
use Rattle.store_take.specs.Batches.{messages_sent}
use Rattle.relay_store.specs.Store.{IsOf, StoreState}
use Rattle.store_take.specs.declared.message.Message.{Message}
use Rattle.run_base.specs.Ends.{ToldBut, Writes}
use Rattle.run_base.specs.Place.{Faults, Tells}
use Rattle.run_base.specs.declared.status.Status.{Status}
use Rattle.take_run.specs.Ends.{IsStop}
use Rattle.take_run.specs.Feeds.{AreOf, IsLeft, NoneBehindEnd, bytes_of_messages}
use Rattle.take_run.specs.Going.{Going, IsNext, NothingFailed, Point, Stopped, StreamTaken, live}
use Rattle.take_run.specs.Lines.{lines_of}
use Rattle.take_run.specs.Tapes.{AreRecords}
use Rattle.take_run.specs.declared.tally.Tally.{Tally}
use Rattle.take_run.proofs.Ended.{ends_alike}
use Rattle.take_run.proofs.Ending.{IsQuiet, all_messages, ended_at, quiet_ran, quiet_taken, stopped_ran, stopped_taken, taken_at}
use Rattle.take_run.proofs.Joining.{going_more, going_more_steps, going_stops, going_stops_steps, nothing_taken, nothing_taken_steps, of_going}
use Rattle.take_run.proofs.Records.{records_joined}

-- ---- lists

bytes_joined : (xs ys : List Message) → bytes_of_messages (xs ++ ys) ≡ bytes_of_messages xs ++ bytes_of_messages ys
bytes_joined [] ys = refl
bytes_joined (m ∷ xs) ys = ap (λ (l : List (List ℕ)). m.bytes ∷ l) (bytes_joined xs ys)

of_joined : (host : List ℕ) (xs ys : List Message) → AreOf host xs → AreOf host ys → AreOf host (xs ++ ys)
of_joined host [] ys one two = two
of_joined host (m ∷ xs) ys one two = (one.0, of_joined host xs ys one.1 two)

live_joined : (steps others : List Step) → NoneBehindEnd steps → NoneBehindEnd others → NoneBehindEnd (steps ++ others)
live_joined [] others one two = two
live_joined (s ∷ steps) others one two = (one.0, live_joined steps others one.1 two)

-- ---- a message of a host that hasn't ended

not_after : (checks : Checks) (K : List Row) (ended : List (List ℕ)) (s : Step) (host : List ℕ) → host ≡ s.host → has_ended ended host ≡ false → IsDecidedAs checks K ended (message_of s) s.decided → s.decided ≢ after_end
not_after checks K ended s host same live told is =
    let over : has_ended ended s.host ≡ true = subst (λ (x : Decided). IsDecidedAs checks K ended (message_of s) x) is told in
    let not : has_ended ended s.host ≡ false = subst (λ (h : List ℕ). has_ended ended h ≡ false) same live in
    cc

live_one : (checks : Checks) (K : List Row) (ended : List (List ℕ)) (steps : List Step) (m : Message) (behind : List Message) → m ∷ [] ≡ messages_sent steps ++ behind → AreSteps checks K ended steps → has_ended ended m.host ≡ false → NoneBehindEnd steps
live_one checks K ended [] m behind is are live = tt
live_one checks K ended (s ∷ []) m behind is are live =
    let first : m ≡ record { host = s.host; bytes = s.bytes } = cc in
    (not_after checks K ended s m.host (ap (λ (x : Message). x.host) first) live are.0, tt)
live_one checks K ended (s ∷ (u ∷ steps)) m behind is are live = let no : ⊥ = cc in absurd no

-- ---- what was taken so far

-- a part of a run with no step behind the end of its host
abbrev pub LiveGoing : Tells → List Row → List Message → Point → Point → Type 0
LiveGoing t J xs a b = (going : Going t J xs a b) × NoneBehindEnd going.steps

-- the first messages of what a host gives, so many, were taken
pub record IsFollowing (host : List ℕ) (before after : List (List ℕ) → Type 0) (t : Tells) (a b : Point) (n : ℕ) : Type 0 where
  pub read : List Message
  pub split : (given : List (List ℕ)) → before given → (rest : List (List ℕ)) × after rest × (given ≡ bytes_of_messages read ++ rest)
  pub hosts : AreOf host read
  pub records : AreRecords read
  pub count : length read ≡ n
  pub going : (J : List Row) → IsOf J a.store.core → LiveGoing t J read a b

pub starts_following : (host : List ℕ) (before after : List (List ℕ) → Type 0) (t : Tells) (a : Point) → IsDisk (live a) → ((given : List (List ℕ)) → before given → after given) → IsFollowing host before after t a a 0
starts_following host before after t a is_disk still = record {
  read = [];
  split = λ given is. (given, still given is, refl);
  hosts = tt;
  records = tt;
  count = refl;
  going = λ J of. (nothing_taken t J a is_disk of, subst NoneBehindEnd (sym (nothing_taken_steps t J a is_disk of)) tt);
}

module _ (host : List ℕ) (before mid : List (List ℕ) → Type 0) (t : Tells) (a b : Point) (n : ℕ) (so_far : IsFollowing host before mid t a b n) where
  -- the next message
  module _ (m : Message) (after : List (List ℕ) → Type 0) (next : IsNext host b.tally.ended.items (Some m) mid after) where
    abbrev read_now : List Message
    read_now = so_far.read ++ m ∷ []

    more_read : (given : List (List ℕ)) → before given → (rest : List (List ℕ)) × after rest × (given ≡ bytes_of_messages read_now ++ rest)
    more_read given is =
        let was = so_far.split given is in
        let one = next.4 was.0 was.1 in (
          one.0,
          one.1,
          was.2 ∙ ap (λ (l : List (List ℕ)). bytes_of_messages so_far.read ++ l) one.2 ∙ sym (append_assoc (bytes_of_messages so_far.read) (m.bytes ∷ []) one.0)
              ∙ ap (λ (l : List (List ℕ)). l ++ one.0) (sym (bytes_joined so_far.read (m ∷ []))),
        )

    more_hosts : AreOf host read_now
    more_hosts = of_joined host so_far.read (m ∷ []) so_far.hosts (next.0, tt)

    more_records : AreRecords read_now
    more_records = records_joined so_far.read (m ∷ []) so_far.records (next.1, next.2, tt)

    not_ended : has_ended b.tally.ended.items m.host ≡ false
    not_ended = subst (λ (h : List ℕ). has_ended b.tally.ended.items h ≡ false) (sym next.0) next.3

    more_going : (c : Point) → ((K : List Row) → IsOf K b.store.core → Going t K (m ∷ []) b c) → (J : List Row) → IsOf J a.store.core → LiveGoing t J read_now a c
    more_going c recorded J of =
        let one = so_far.going J of in
        let two = recorded (J ++ rows one.0.steps) (of_going t J so_far.read a b one.0) in (
          going_more t J so_far.read a b one.0 (m ∷ []) c two,
          subst NoneBehindEnd (sym (going_more_steps t J so_far.read a b one.0 (m ∷ []) c two)) (live_joined one.0.steps two.steps one.1
              (live_one some_right.0 (J ++ rows one.0.steps) b.tally.ended.items two.steps m [] (sym two.of ∙ sym (append-nil (messages_sent two.steps))) (two.are some_right.0 some_right.1 some_right.2) not_ended)),
        )

    pub follows_on : (c : Point) → ((K : List Row) → IsOf K b.store.core → Going t K (m ∷ []) b c) → IsFollowing host before after t a c (n + 1)
    follows_on c recorded = record {
      read = read_now;
      split = more_read;
      hosts = more_hosts;
      records = more_records;
      count = length-append so_far.read (m ∷ []) ∙ ap (λ (k : ℕ). k + 1) so_far.count;
      going = more_going c recorded;
    }

    -- taking it stops
    pub follow_stops : (count : ℕ) → n < count → (J : List Row) → IsOf J a.store.core → a.tally.ended.items ≡ [] → NothingFailed a.place b.place → (c : Point) (status : Status) → IsStop status → ((K : List Row) → IsOf K b.store.core → Stopped t K (m ∷ []) b c status)
        → StreamTaken t host count J a c before after status
    follow_stops count below J of none nothing c status stop stopped =
        let one = so_far.going J of in
        let two = stopped (J ++ rows one.0.steps) (of_going t J so_far.read a b one.0) in
        let h = going_stops t J so_far.read (m ∷ []) a b one.0 nothing c status two in
        let s = two.taken in
        let ends : NoneBehindEnd ((one.0.steps ++ s.steps) ++ (s.under ++ s.extra)) = subst NoneBehindEnd (sym (append_assoc one.0.steps s.steps (s.under ++ s.extra)))
        (live_joined one.0.steps (s.steps ++ (s.under ++ s.extra)) one.1
        (live_one some_right.0 (J ++ rows one.0.steps) b.tally.ended.items (s.steps ++ (s.under ++ s.extra)) m s.behind two.front (s.are some_right.0 some_right.1 some_right.2) not_ended)) in
        record {
          taken = stopped_taken t J read_now a c status stop h none more_records;
          ran = stopped_ran t J read_now a c status stop h none more_records;
          stream = record {
            hosts = subst (AreOf host) h.front more_hosts;
            few = omega (arith, below, so_far.count, ap length h.front, length-append so_far.read (m ∷ []));
            live = subst NoneBehindEnd (sym (going_stops_steps t J so_far.read (m ∷ []) a b one.0 nothing c status two)) ends;
            front = λ given is.
                let more = more_read given is in
                (more.0, more.1, more.2 ∙ ap (λ (l : List Message). bytes_of_messages l ++ more.0) h.front, λ done. absurd (subst IsStop done stop));
          };
        }

  -- no message is left, or none was read
  module _ (count : ℕ) (few : n ≤ count) (J : List Row) (of : IsOf J a.store.core) (none : a.tally.ended.items ≡ []) (store : StoreState) (tally : Tally) (one two : View) (around : Around) (w now : List ℕ) (failed failed_now : Faults)
      (is : b ≡ taken_at t J so_far.read a store tally one two around w now failed failed_now) where
    abbrev last_point : Point
    last_point = taken_at t J so_far.read a store tally one two around w now failed failed_now

    so_going : LiveGoing t J so_far.read a last_point
    so_going = subst (LiveGoing t J so_far.read a) is (so_far.going J of)

    as_many : length (so_going.0.steps ++ []) ≡ n
    as_many = ap length (append-nil so_going.0.steps) ∙ sym (length-map so_going.0.steps _) ∙ ap length so_going.0.of ∙ so_far.count

    host_ended : has_ended tally.ended.items host ≡ true → has_ended (ended_by_all (so_going.0.steps ++ []) []) host ≡ true
    host_ended over =
        let going = so_going.0 in
        ap (λ (l : List Step). has_ended (ended_by_all l []) host) (append-nil going.steps)
        ∙ sym (ends_alike some_right.0 J a.tally.ended.items a.tally.ended.items [] going.steps (λ name. ap (λ (e : List (List ℕ)). has_ended e name) none) (going.are some_right.0 some_right.1 some_right.2) host)
        ∙ ap (λ (e : List (List ℕ)). has_ended e host) (sym going.noted.ends) ∙ over

    why_done : (left : List (List ℕ)) → (n ≡ count) ⊎ ((left ≡ []) ⊎ (has_ended tally.ended.items host ≡ true)) → (length (so_going.0.steps ++ []) ≡ count) ⊎ ((left ≡ []) ⊎ (has_ended (ended_by_all (so_going.0.steps ++ []) []) host ≡ true))
    why_done left (inl all) = inl (as_many ∙ all)
    why_done left (inr (inl no_more)) = inr (inl no_more)
    why_done left (inr (inr over)) = inr (inr (host_ended over))

    pub follow_ends : NothingFailed a.place last_point.place → (status : Status) → IsQuiet status → (after : List (List ℕ) → Type 0) → ((left : List (List ℕ)) → mid left → after left × (status ≡ Status.Done → (n ≡ count) ⊎ ((left ≡ []) ⊎ (has_ended tally.ended.items host ≡ true))))
        → ((X : Type 0) → ToldBut X ⊥ status last_point.place (ended_at t J so_far.read a store tally one two around w now failed failed_now).place)
        → ((h : Going t J so_far.read a last_point) → IsTrue t.output → Writes status (lines_of h.steps) (end_line J (messages h.steps) (rows h.steps)) a.place.written now)
        → StreamTaken t host count J a (ended_at t J so_far.read a store tally one two around w now failed failed_now) before after status
    follow_ends nothing status quiet after why told writes =
        let h = so_going.0 in
        let all = all_messages t J so_far.read a store tally one two around w now failed failed_now h none so_far.records nothing status quiet told (writes h) in
        record {
          taken = quiet_taken t J so_far.read a store tally one two around w now failed failed_now h none so_far.records nothing status quiet told (writes h);
          ran = quiet_ran t J so_far.read a store tally one two around w now failed failed_now h none so_far.records nothing status quiet told (writes h);
          stream = record {
            hosts = subst (AreOf host) all so_far.hosts;
            few = omega (arith, ap length all, so_far.count, few);
            live = subst NoneBehindEnd (sym (append-nil h.steps)) so_going.1;
            front = λ given was.
                let left = so_far.split given was in
                let because = why left.0 left.1 in
                (left.0, because.0, left.2 ∙ ap (λ (l : List Message). bytes_of_messages l ++ left.0) all, λ done. why_done left.0 (because.1 done));
          };
        }

-- ---- the stream of a feed

pub left_same : (status : Status) (left rest : List (List ℕ)) → left ≡ rest → IsLeft status left rest
left_same Status.Feed left rest is = inl is
left_same status left rest is = is

-- what is said of a value is said of the same one
pub value_at : {F A : Type 0} (of : F → A) (x y : F) → x ≡ y → of x ≡ of y
value_at of x y same = ap of same

-- a stream as another one that gives the same
pub stream_as : (t : Tells) (host : List ℕ) (count : ℕ) (J : List Row) (a c : Point) (before after old new : List (List ℕ) → Type 0) (status : Status) → ((given : List (List ℕ)) → old given → before given) → ((rest : List (List ℕ)) → after rest → new rest)
    → StreamTaken t host count J a c before after status → StreamTaken t host count J a c old new status
stream_as t host count J a c before after old new status from to h = record {
  taken = h.taken;
  ran = h.ran;
  stream = record {
    hosts = h.stream.hosts;
    few = h.stream.few;
    live = h.stream.live;
    front = λ given is. let front = h.stream.front given (from given is) in (front.0, to front.0 front.1, front.2, front.3);
  };
}
