-- One part of a run behind another.
use Rattle.std.proofs.Common.{◌≡◌, inl, inr, ⊎_elim, ℕ, ◌+◌, Bool, false, IsTrue, List, [], ◌∷◌, ◌++◌, length, take, refl, ap, ◌∙◌, sym, subst, arith, append_assoc, length-append}
use Rattle.std.proofs.lemmas.List.{append-nil}
use Rattle.std.proofs.Math.Seq.{take-append-add}
use Rattle.relay_disk.specs.Disk.{View, IsDisk}
use Rattle.relay_disk.proofs.Moments.{joined, no_call, weaker}
use Rattle.relay_io.specs.Streams.{AddsFront}
use Rattle.gate_log.specs.Log.{LogState}
use Rattle.gate_log.specs.declared.format.Format.{Format}
use Rattle.relay_row.specs.Journal.{IsJournal}
use Rattle.relay_row.specs.declared.row.Row.{Row}
use Rattle.relay_core.specs.Decide.{Checks}
use Rattle.relay_core.specs.Entries.{Holds}
use Rattle.relay_core.specs.Opening.{OpensRight}
use Rattle.relay_law.specs.Right.{LinksRight}
use Rattle.relay_step.specs.Around.{Around, AllAsked}
use Rattle.relay_step.specs.Causes.{CameToNothing}
use Rattle.relay_step.specs.Steps.{Step, rows, AreSteps, ended_by_all}
use Rattle.relay_step.proofs.Steps.{steps_join}
use Rattle.store_take.specs.Batches.{AsksBehind, InVain, messages_sent}
use Rattle.relay_store.specs.Journals.{IsLogOf, IsOneOf}
use Rattle.relay_store.specs.Store.{IsOf, Keeps, StoreState}
use Rattle.store_take.specs.declared.message.Message.{Message}
use Rattle.store_take.proofs.Asks.{all_joined, nothing_here, nothing_in_vain}
use Rattle.relay_store.proofs.Images.{kept_log}
use Rattle.store_take.proofs.Runs.{rows_joined, sent_joined}
use Rattle.run_base.specs.Ends.{Writes}
use Rattle.run_base.specs.Place.{Tells}
use Rattle.run_base.specs.declared.status.Status.{Status}
use Rattle.take_run.specs.Crashes.{HadRoom, IsSoFar, Keeping, Leaves}
use Rattle.take_run.specs.Ends.{IsStop, StopsBefore, StopsShort}
use Rattle.take_run.specs.Going.{Going, NothingFailed, Point, Stopped, live}
use Rattle.take_run.specs.Lines.{line_decided, lines_of}
use Rattle.take_run.specs.NextMessage.{NextEnds, OfNext}
use Rattle.take_run.specs.Said.{IsNoted, Said, said, said_to}
use Rattle.take_run.proofs.Answers.{noted_more, noted_none}
use Rattle.take_run.proofs.Ended.{SameEnded, ends_alike, steps_same}
use Rattle.take_run.proofs.Telling.{stop_not_source, told_on, told_weaker}

-- ---- lists

pub said_joined : (steps others : List Step) → said (steps ++ others) ≡ said steps ++ said others
said_joined [] others = refl
said_joined (s ∷ steps) others = ap (λ (l : List Said). said_to s ∷ l) (said_joined steps others)

pub lines_joined : (steps others : List Step) → lines_of (steps ++ others) ≡ lines_of steps ++ lines_of others
lines_joined [] others = refl
lines_joined (s ∷ steps) others = ap (λ (l : List ℕ). line_decided s s.decided ++ l) (lines_joined steps others) ∙ sym (append_assoc (line_decided s s.decided) (lines_of steps) (lines_of others))

-- journals with the rows of steps
pub journal_joined : (J : List Row) (steps others : List Step) → (J ++ rows steps) ++ rows others ≡ J ++ rows (steps ++ others)
journal_joined J steps others = append_assoc J (rows steps) (rows others) ∙ ap (λ (l : List Row). J ++ l) (sym (rows_joined steps others))

-- ---- what crashes leave

module _ (format : Format) (J : List Row) where
  pub so_far_none : (rows : List Row) (c : List ℕ) → IsLogOf format J c → IsSoFar format J rows c
  so_far_none rows c log = record { front = []; others = rows; split = refl; log = subst (λ (K : List Row). IsLogOf format K c) (sym (append-nil J)) log }

  pub so_far_all : (rows : List Row) (c : List ℕ) → IsLogOf format (J ++ rows) c → IsSoFar format J rows c
  so_far_all rows c log = record { front = rows; others = []; split = sym (append-nil rows); log = log }

  so_far_front : (xs ys : List Row) (c : List ℕ) → IsSoFar format J xs c → IsSoFar format J (xs ++ ys) c
  so_far_front xs ys c h = record {
    front = h.front;
    others = h.others ++ ys;
    split = ap (λ (l : List Row). l ++ ys) h.split ∙ append_assoc h.front h.others ys;
    log = h.log;
  }

  so_far_behind : (xs ys : List Row) (c : List ℕ) → IsSoFar format (J ++ xs) ys c → IsSoFar format J (xs ++ ys) c
  so_far_behind xs ys c h = record {
    front = xs ++ h.front;
    others = h.others;
    split = ap (λ (l : List Row). xs ++ l) h.split ∙ sym (append_assoc xs h.front h.others);
    log = subst (λ (K : List Row). IsLogOf format K c) (append_assoc J xs h.front) h.log;
  }

-- ---- nothing yet

pub nothing_kept : (J : List Row) (s : StoreState) (v : View) → IsDisk v → Keeps J s v → Keeping J [] s v s v
nothing_kept J s v is_disk keeps = record {
  keeps = subst (λ (K : List Row). Keeps K s v) (sym (append-nil J)) keeps;
  moments = no_call _ v is_disk (λ c left. so_far_none s.log.format J [] c (kept_log J s v keeps c left));
}

pub nothing_taken : (t : Tells) (J : List Row) (a : Point) → IsDisk (live a) → IsOf J a.store.core → Going t J [] a a
nothing_taken t J a is_disk of =
    let same : J ++ [] ≡ J = append-nil J in
    record {
      steps = [];
      of = refl;
      are = λ checks opens links. tt;
      journal = subst IsJournal (sym same) of.journal;
      known = subst (Holds a.store.core) (sym same) of.holds;
      on_disk = λ told keeps. nothing_kept J a.store (live a) is_disk keeps;
      format = refl;
      most = refl;
      room = inl (refl, refl);
      noted = noted_none a.tally;
      written = λ told. sym (append-nil a.place.written);
      asked = nothing_here t.clock t.repos a.place.around;
    }

pub nothing_taken_steps : (t : Tells) (J : List Row) (a : Point) (is_disk : IsDisk (live a)) (of : IsOf J a.store.core) → (nothing_taken t J a is_disk of).steps ≡ []
unfolding nothing_taken
nothing_taken_steps t J a is_disk of = refl

-- ---- more behind

pub of_going : (t : Tells) (J : List Row) (messages : List Message) (a b : Point) (one : Going t J messages a b) → IsOf (J ++ rows one.steps) b.store.core
of_going t J messages a b one = record { holds = one.known; journal = one.journal }

keeping_more : (J xs ys : List Row) (s m u : StoreState) (v w z : View) → m.log.format ≡ s.log.format → Keeping J xs s v m w → Keeping (J ++ xs) ys m w u z → Keeping J (xs ++ ys) s v u z
keeping_more J xs ys s m u v w z same one two = record {
  keeps = subst (λ (K : List Row). Keeps K u z) (append_assoc J xs ys) two.keeps;
  moments = joined _ v w z
      (weaker _ _ v w one.moments (λ c h. so_far_front s.log.format J xs ys c h))
      (weaker _ _ w z two.moments (λ c h. so_far_behind s.log.format J xs ys c (subst (λ (f : Format). IsSoFar f (J ++ xs) ys c) same h)));
}

-- room was had for all that was added
room_more : (xs ys : List Row) (a b c : LogState) → c.most ≡ b.most → HadRoom xs a b → HadRoom ys b c → HadRoom (xs ++ ys) a c
room_more xs ys a b c same (inl none) (inl two) = inl (ap (λ (l : List Row). l ++ ys) none.0 ∙ two.0, two.1 ∙ none.1)
room_more xs ys a b c same (inr one) (inl two) = inr (omega (arith, one, two.1, same))
room_more xs ys a b c same one (inr two) = inr two

module _ (t : Tells) (J : List Row) (messages : List Message) (a b : Point) (one : Going t J messages a b) where
  -- where steps go on
  go_on : (checks : Checks) → OpensRight checks → LinksRight checks → (steps : List Step) → AreSteps checks (J ++ rows one.steps) b.tally.ended.items steps → AreSteps checks J a.tally.ended.items (one.steps ++ steps)
  go_on checks opens links steps are =
      (steps_join checks J a.tally.ended.items one.steps steps).1 (
        one.are checks opens links,
        steps_same checks (J ++ rows one.steps) b.tally.ended.items (ended_by_all one.steps a.tally.ended.items) steps
            (subst (λ (e : List (List ℕ)). SameEnded e (ended_by_all one.steps a.tally.ended.items)) (sym one.noted.ends)
            (ends_alike checks J a.tally.ended.items a.tally.ended.items a.tally.ended.items one.steps (λ name. refl) (one.are checks opens links)))
            are,
      )

  pub going_more : (others : List Message) (c : Point) → Going t (J ++ rows one.steps) others b c → Going t J (messages ++ others) a c
  going_more others c two =
      let xs = one.steps in
      let ys = two.steps in
      record {
        steps = xs ++ ys;
        of = sent_joined xs ys ∙ ap (λ (l : List Message). l ++ messages_sent ys) one.of ∙ ap (λ (l : List Message). messages ++ l) two.of;
        are = λ checks opens links. go_on checks opens links ys (two.are checks opens links);
        journal = subst IsJournal (journal_joined J xs ys) two.journal;
        known = subst (Holds c.store.core) (journal_joined J xs ys) two.known;
        on_disk = λ told keeps.
            let first = one.on_disk told keeps in
            subst (λ (l : List Row). Keeping J l a.store (live a) c.store (live c)) (sym (rows_joined xs ys))
            (keeping_more J (rows xs) (rows ys) a.store b.store c.store (live a) (live b) (live c) one.format first (two.on_disk told first.keeps));
        format = two.format ∙ one.format;
        most = two.most ∙ one.most;
        room = subst (λ (l : List Row). HadRoom l a.store.log c.store.log) (sym (rows_joined xs ys))
            (room_more (rows xs) (rows ys) a.store.log b.store.log c.store.log two.most one.room two.room);
        noted = subst (λ (x : List Said). IsNoted x a.tally c.tally) (sym (said_joined xs ys)) (noted_more (said xs) (said ys) a.tally b.tally c.tally one.noted two.noted);
        written = λ told. two.written told ∙ ap (λ (l : List ℕ). l ++ lines_of ys) (one.written told)
            ∙ append_assoc a.place.written (lines_of xs) (lines_of ys) ∙ ap (λ (l : List ℕ). a.place.written ++ l) (sym (lines_joined xs ys));
        asked = all_joined t.clock t.repos J a.place.around b.place.around c.place.around xs ys one.asked two.asked;
      }

  pub going_more_steps : (others : List Message) (c : Point) (two : Going t (J ++ rows one.steps) others b c) → (going_more others c two).steps ≡ one.steps ++ two.steps
  unfolding going_more
  going_more_steps others c two = refl

-- ---- a stop behind

leaves_behind : (J xs ys under : List Row) (s m u : StoreState) (v w z : View) (status : Status) → m.log.format ≡ s.log.format → Keeping J xs s v m w → Leaves (J ++ xs) ys under m w u z status → Leaves J (xs ++ ys) under s v u z status
leaves_behind J xs ys under s m u v w z status format one two =
    let whole : (J ++ xs) ++ ys ≡ J ++ (xs ++ ys) = append_assoc J xs ys in
    record {
      keeps = λ not. subst (λ (K : List Row). Keeps K u z) whole (two.keeps not);
      moments = joined _ v w z
          (weaker _ _ v w one.moments (λ c h. inl (so_far_front s.log.format J xs ys c h)))
          (weaker _ _ w z two.moments (λ c h. ⊎_elim
          (λ k. inl (so_far_behind s.log.format J xs ys c (subst (λ (f : Format). IsSoFar f (J ++ xs) ys c) format k)))
          (λ k. inr (subst (λ (K : List Row). IsLogOf s.log.format (K ++ under) c) whole (subst (λ (f : Format). IsLogOf f (((J ++ xs) ++ ys) ++ under) c) format k))) h));
      left = λ c now. subst (λ (K : List Row). IsOneOf s.log.format K under c) whole (subst (λ (f : Format). IsOneOf f ((J ++ xs) ++ ys) under c) format (two.left c now));
    }

pub front_behind : (old mid now x y : List ℕ) → mid ≡ old ++ x → AddsFront mid now y → AddsFront old now (x ++ y)
front_behind old mid now x y is h = (
  length x + h.0,
  omega (arith, h.1, length-append x y),
  h.2 ∙ ap (λ (l : List ℕ). l ++ take h.0 y) is ∙ append_assoc old x (take h.0 y) ∙ ap (λ (l : List ℕ). old ++ l) (sym (take-append-add x y h.0)),
)

-- what is written of lines is written of some more in front
pub writes_behind : (status : Status) (old mid now x y last : List ℕ) → mid ≡ old ++ x → Writes status y last mid now → Writes status (x ++ y) last old now
writes_behind status old mid now x y last is wrote = by status wrote
  where
    whole : (z : List ℕ) → now ≡ mid ++ (y ++ z) → now ≡ old ++ ((x ++ y) ++ z)
    whole z h = h ∙ ap (λ (l : List ℕ). l ++ (y ++ z)) is ∙ append_assoc old x (y ++ z) ∙ ap (λ (l : List ℕ). old ++ l) (sym (append_assoc x y z))

    front : AddsFront mid now (y ++ last) → AddsFront old now ((x ++ y) ++ last)
    front h = subst (AddsFront old now) (sym (append_assoc x y last)) (front_behind old mid now x (y ++ last) is h)

    lines : now ≡ mid ++ y → now ≡ old ++ (x ++ y)
    lines h = h ∙ ap (λ (l : List ℕ). l ++ y) is ∙ append_assoc old x y

    by : (s : Status) → Writes s y last mid now → Writes s (x ++ y) last old now
    by Status.Done h = whole last h
    by (Status.Refused code) h = whole last h
    by Status.WriteFault h = front h
    by Status.Memory h = front h
    by s h = lines h

-- what stopped short stops short behind other steps
short_behind : (tells : Bool) (status : Status) (xs ys under : List Step) (behind : List Message) (old mid now : List ℕ) → (IsTrue tells → mid ≡ old ++ lines_of xs) → StopsShort tells status ys under behind mid now → StopsShort tells status (xs ++ ys) under behind old now
short_behind tells Status.WriteFault xs ys under behind old mid now so_far short = λ told.
    subst (λ (l : List ℕ). AddsFront old now l) (sym (lines_joined xs ys)) (front_behind old mid now (lines_of xs) (lines_of ys) (so_far told) (short told))
short_behind tells Status.Memory xs ys under behind old mid now so_far short = λ told.
    let lack = short told in (
      xs ++ lack.0,
      lack.1,
      ap (λ (l : List Step). xs ++ l) lack.2 ∙ sym (append_assoc xs lack.0 lack.1),
      lack.3,
      lack.4 ∙ ap (λ (l : List ℕ). l ++ lines_of lack.0) (so_far told) ∙ append_assoc old (lines_of xs) (lines_of lack.0) ∙ ap (λ (l : List ℕ). old ++ l) (sym (lines_joined xs lack.0)),
    )
short_behind tells Status.Disk xs ys under behind old mid now so_far short = short
short_behind tells status xs ys under behind old mid now so_far short = absurd short

before_more : (status : Status) (one two : Type 0) (under extra : List Step) (behind : List Message) → (one → two) → StopsBefore status one under extra behind → StopsBefore status two under extra behind
before_more Status.WriteFault one two under extra behind more before = more before
before_more status one two under extra behind more (inl short) = inl (more short)
before_more status one two under extra behind more (inr left) = inr left

module _ (t : Tells) (J : List Row) (messages others : List Message) (a b : Point) (one : Going t J messages a b) (none : NothingFailed a.place b.place) where
  pub going_stops : (c : Point) (status : Status) → Stopped t (J ++ rows one.steps) others b c status → Stopped t J (messages ++ others) a c status
  going_stops c status stop =
      let two = stop.taken in
      let xs = one.steps in
      let ys = two.steps in
      let more = two.under ++ two.extra in
      let all : (xs ++ ys) ++ more ≡ xs ++ (ys ++ more) = append_assoc xs ys more in
      let short : StopsShort t.output status ys two.under two.behind b.place.written c.place.written → StopsShort t.output status (xs ++ ys) two.under two.behind a.place.written c.place.written = λ h.
      short_behind t.output status xs ys two.under two.behind a.place.written b.place.written c.place.written one.written h in
      record {
        taken = record {
          steps = xs ++ ys;
          under = two.under;
          extra = two.extra;
          behind = two.behind;
          good = two.good;
          which_under = two.which_under;
          few_extra = two.few_extra;
          which_extra = two.which_extra;
          all = two.all;
          are = λ checks opens links. subst (λ (l : List Step). AreSteps checks J a.tally.ended.items l) (sym all) (go_on t J messages a b one checks opens links (ys ++ more) (two.are checks opens links));
          journal = subst IsJournal (journal_joined J xs (ys ++ more) ∙ ap (λ (l : List Step). J ++ rows l) (sym all)) two.journal;
          mid = two.mid;
          asked = subst (λ (l : List Step). AllAsked t.clock t.repos J a.place.around l two.mid) (sym all) (all_joined t.clock t.repos J a.place.around b.place.around two.mid xs (ys ++ more) one.asked two.asked);
          stops = two.stops;
          still = two.still;
          next = subst (λ (K : List Row). NextEnds t K two.behind two.mid c.place.around status) (journal_joined J xs ys) two.next;
          told = told_on _ ⊥ status a.place b.place c.place none (told_weaker _ _ ⊥ ⊥ status b.place c.place short (λ no. no) two.told);
        };
        front = ap (λ (l : List Message). messages ++ l) stop.front ∙ sym (append_assoc messages (messages_sent (ys ++ more)) two.behind)
            ∙ ap (λ (l : List Message). l ++ two.behind) (ap (λ (l : List Message). l ++ messages_sent (ys ++ more)) (sym one.of) ∙ sym (sent_joined xs (ys ++ more)) ∙ ap messages_sent (sym all));
        store = record {
          known = λ not. subst (Holds c.store.core) (journal_joined J xs ys) (stop.store.known not);
          on_disk = λ told keeps.
              let first = one.on_disk told keeps in
              subst (λ (l : List Row). Leaves J l (rows two.under) a.store (live a) c.store (live c) status) (sym (rows_joined xs ys))
              (leaves_behind J (rows xs) (rows ys) (rows two.under) a.store b.store c.store (live a) (live b) (live c) status one.format first (stop.store.on_disk told first.keeps));
          format = stop.store.format ∙ one.format;
          most = stop.store.most ∙ one.most;
          room = λ not. subst (λ (l : List Row). HadRoom l a.store.log c.store.log) (sym (rows_joined xs ys))
              (room_more (rows xs) (rows ys) a.store.log b.store.log c.store.log stop.store.most one.room (stop.store.room not));
          full = stop.store.full;
        };
        written = λ told. subst (λ (l : List ℕ). Writes status l [] a.place.written c.place.written) (sym (lines_joined xs ys))
            (writes_behind status a.place.written b.place.written c.place.written (lines_of xs) (lines_of ys) [] (one.written told) (stop.written told));
        before = before_more status _ _ two.under two.extra two.behind short stop.before;
      }

  pub going_stops_steps : (c : Point) (status : Status) (two : Stopped t (J ++ rows one.steps) others b c status) → (going_stops c status two).taken.steps ++ ((going_stops c status two).taken.under ++ (going_stops c status two).taken.extra) ≡ (one.steps ++ two.taken.steps) ++ (two.taken.under ++ two.taken.extra)
  unfolding going_stops
  going_stops_steps c status two = refl

-- ---- more messages behind those of a stop

vain_longer : (mid new : Around) (xs ys : List Message) → InVain xs mid.panel new.panel → InVain (xs ++ ys) mid.panel new.panel
vain_longer mid new [] ys is =
    (nothing_in_vain false false mid (record { panel = new.panel; moments = mid.moments; repository = mid.repository }) ys (record { panel = is; moments = λ tells. refl; same = λ tells did. refl })).judges
vain_longer mid new (m ∷ xs) ys vain = vain

came_longer : (C R : Bool) (mid new : Around) (xs ys : List Message) → CameToNothing C R (InVain xs mid.panel new.panel) mid new → CameToNothing C R (InVain (xs ++ ys) mid.panel new.panel) mid new
came_longer C R mid new xs ys came = record { judges = vain_longer mid new xs ys came.judges; moments = came.moments; same = came.same }

asks_longer : (C R : Bool) (extra : List Step) (mid new : Around) (xs ys : List Message) → AsksBehind C R extra xs mid new → AsksBehind C R extra (xs ++ ys) mid new
asks_longer C R [] mid new xs ys asks = came_longer C R mid new xs ys asks
asks_longer C R (s ∷ extra) mid new xs ys asks = asks

of_longer : (P : Message → Type 0) (xs ys : List Message) → OfNext P xs → OfNext P (xs ++ ys)
of_longer P [] ys next = absurd next
of_longer P (m ∷ xs) ys next = next

none_in_front : (xs ys : List Message) → xs ++ ys ≡ [] → xs ≡ []
none_in_front [] ys is = refl
none_in_front (m ∷ xs) ys is = let no : ⊥ = cc in absurd no

short_longer : (tells : Bool) (status : Status) (steps under : List Step) (xs ys : List Message) (old now : List ℕ) → StopsShort tells status steps under xs old now → StopsShort tells status steps under (xs ++ ys) old now
short_longer tells Status.WriteFault steps under xs ys old now short = short
short_longer tells Status.Memory steps under xs ys old now short = short
short_longer tells Status.Disk steps under xs ys old now short = (short.0, λ none. short.1 (none_in_front xs ys none))
short_longer tells status steps under xs ys old now short = absurd short

before_longer : (status : Status) (one two : Type 0) (under extra : List Step) (xs ys : List Message) → (one → two) → StopsBefore status one under extra xs → StopsBefore status two under extra (xs ++ ys)
before_longer Status.WriteFault one two under extra xs ys more before = more before
before_longer status one two under extra xs ys more (inl short) = inl (more short)
before_longer status one two under extra xs ys more (inr (inl some)) = inr (inl some)
before_longer status one two under extra xs ys more (inr (inr (inl some))) = inr (inr (inl some))
before_longer status one two under extra xs ys more (inr (inr (inr some))) = inr (inr (inr (λ none. some (none_in_front xs ys none))))

pub stops_longer : (t : Tells) (J : List Row) (xs ys whole : List Message) (a c : Point) (status : Status) → IsStop status → whole ≡ xs ++ ys → Stopped t J xs a c status → Stopped t J whole a c status
stops_longer t J xs ys whole a c status stop is h =
    let s = h.taken in
    let short = short_longer t.output status s.steps s.under s.behind ys a.place.written c.place.written in
    record {
      taken = record {
        steps = s.steps;
        under = s.under;
        extra = s.extra;
        behind = s.behind ++ ys;
        good = s.good;
        which_under = s.which_under;
        few_extra = s.few_extra;
        which_extra = s.which_extra;
        all = λ source. absurd (stop_not_source status stop source);
        are = s.are;
        journal = s.journal;
        mid = s.mid;
        asked = s.asked;
        stops = asks_longer t.clock t.repos s.extra s.mid c.place.around s.behind ys s.stops;
        still = s.still;
        next = record { numbers = λ at. of_longer _ s.behind ys (s.next.numbers at); spent = λ at. of_longer _ s.behind ys (s.next.spent at) };
        told = told_weaker _ _ ⊥ ⊥ status a.place c.place short (λ no. no) s.told;
      };
      front = is ∙ ap (λ (l : List Message). l ++ ys) h.front ∙ append_assoc (messages_sent (s.steps ++ (s.under ++ s.extra))) s.behind ys;
      store = h.store;
      written = h.written;
      before = before_longer status _ _ s.under s.extra s.behind ys short h.before;
    }
