-- While requests are answered one after another.
use Rattle.std.proofs.Common.{◌≡◌, ℕ, ◌+◌, ◌≤◌, Bool, true, List, [], ◌∷◌, ◌++◌, length, Result, Ok, Err, IsTrue, refl, sym, ap, ◌∙◌, subst, arith, append_assoc, length-append, inl, inr}
use Rattle.std.specs.Prelude.{◌⊎◌, IfErr}
use Rattle.std.proofs.lemmas.Grind.{flat_map-append}
use Rattle.std.proofs.lemmas.List.{append-nil, map-append}
use Rattle.relay_io.specs.Streams.{AddsFront}
use Rattle.relay_io.specs.declared.wire.Exchange.{Exchange}
use Rattle.relay_row.specs.declared.row.Row.{Row}
use Rattle.relay_store.specs.Opening.{IsOfReading}
use Rattle.relay_store.specs.declared.fault.StoreFault.{StoreFault}
use Rattle.relay_query.specs.Replies.{IsReplyTo}
use Rattle.backfill.proofs.Framing.{front_of_first, front_whole}
use Rattle.run_base.specs.Ends.{IsFinished, IsUnwritten, Writes, status_in}
use Rattle.run_base.specs.Statuses.{status_of_fault}
use Rattle.run_base.specs.declared.status.Status.{Status}
use Rattle.run_base.proofs.Ended.{by_finished, by_unwritten}
use Rattle.read_run.specs.AtWire.{AtWire}
use Rattle.read_run.specs.Ends.{IsUnasked}
use Rattle.read_run.specs.Queried.{Answered, RequestsAreTaken, Comes, IsStill, IsUnreplied, Queried, Replied, queries_end, query_lines}
use Rattle.read_run.specs.Rounds.{RoundsAreCounted, AreReplies, IsSendCounted, Round, queries_end_line, exchanges_of, round_lines, request_line, requests_of, sent_of, told_of}
use Rattle.read_run.proofs.Ending.{by_unasked, last_written, line_unwritten, lines_unasked}

-- n requests were answered, and a line was written for each
pub record IsQuerying (tells told : Bool) (J : List Row) (n : ℕ) (first now : AtWire) (before after : List ℕ) : Type 0
  where
    pub rounds : List Round
    pub count : length rounds ≡ n
    pub replies : AreReplies J rounds
    pub requests : IsTrue tells → first.requests ≡ requests_of rounds ++ now.requests
    pub exchanges : IsTrue tells → now.exchanges ≡ first.exchanges ++ exchanges_of rounds
    pub counted : RoundsAreCounted first.faults rounds now.faults
    pub written : IsTrue told → after ≡ before ++ round_lines 0 rounds

pub querying_none : (tells told : Bool) (J : List Row) (first : AtWire) (before : List ℕ)
    → IsQuerying tells told J 0 first first before before
querying_none tells told J first before = record {
  rounds = [];
  count = refl;
  replies = tt;
  requests = λ t. refl;
  exchanges = λ t. sym (append-nil first.exchanges);
  counted = refl;
  written = λ t. sym (append-nil before);
}

-- ---- one more round

replies_more : (J : List Row) (rounds : List Round) (r : Round) → AreReplies J rounds → IsReplyTo J r.request r.reply
    → AreReplies J (rounds ++ r ∷ [])
replies_more J [] r are is = (is, tt)
replies_more J (q ∷ rounds) r are is = (are.0, replies_more J rounds r are.1 is)

counted_more : (rounds : List Round) (r : Round) (before mid : ℕ) → RoundsAreCounted before rounds mid
    → IsSendCounted r.sent mid r.faults → RoundsAreCounted before (rounds ++ r ∷ []) r.faults
counted_more [] r before mid same is = (subst (λ (n : ℕ). IsSendCounted r.sent n r.faults) same is, refl)
counted_more (q ∷ rounds) r before mid each is = (each.0, counted_more rounds r q.faults mid each.1 is)

lines_more : (n : ℕ) (rounds : List Round) (r : Round)
    → round_lines n (rounds ++ r ∷ []) ≡ round_lines n rounds ++ request_line (n + length rounds + 1)
    (told_of r.sent r.reply)
lines_more n [] r = append-nil (request_line (n + 1) (told_of r.sent r.reply)) ∙ ap
    (λ (k : ℕ). request_line k (told_of r.sent r.reply)) (omega arith)
lines_more n (q ∷ rounds) r =
    let line = request_line (n + 1) (told_of q.sent q.reply) in
    ap (λ (l : List ℕ). line ++ l) (lines_more (n + 1) rounds r)
    ∙ ap (λ (k : ℕ). line ++ (round_lines (n + 1) rounds ++ request_line k (told_of r.sent r.reply))) (omega arith)
    ∙ sym
    (append_assoc line (round_lines (n + 1) rounds)
    (request_line (n + length (q ∷ rounds) + 1) (told_of r.sent r.reply)))

-- ---- how it ends

-- requests were answered, and their lines written
abbrev Asked : Bool → Bool → ℕ → List Row → AtWire → AtWire → List ℕ → List ℕ → Status → Type 0
Asked tells told most J first new before last status = (q : Queried tells most J first new status)
    × (IsTrue told → Writes status (query_lines q) (queries_end q) before last)

taken_unwritten : (tells : Bool) (status : Status) → IsUnwritten status
    → (most : ℕ) (rounds : List Round) (left : List (List ℕ)) → RequestsAreTaken tells status most rounds [] left
taken_unwritten tells status un most rounds left =
    by_unwritten (λ s. RequestsAreTaken tells s most rounds [] left) refl (omega arith) status un

taken_finished : (tells : Bool) (status : Status) → IsFinished status
    → (most : ℕ) (rounds : List Round) (left : List (List ℕ)) → (length rounds ≡ most) ⊎ (IsTrue tells → left ≡ [])
    → RequestsAreTaken tells status most rounds [] left
taken_finished tells status is most rounds left all =
    by_finished (λ s. RequestsAreTaken tells s most rounds [] left) (refl, all) refl (omega arith) status is

taken_unasked : (tells : Bool) (status : Status) → IsUnasked status
    → (most : ℕ) (rounds : List Round) (left : List (List ℕ)) → RequestsAreTaken tells status most rounds [] left
taken_unasked tells status un most rounds left = by_unasked (λ s. RequestsAreTaken tells s most rounds []
    left) refl (omega arith) status un

pub still_same : (tells : Bool) (wire : AtWire) → IsStill tells wire wire
still_same tells wire = λ _. (refl, refl)

module _ (tells told : Bool) (J : List Row) (most n : ℕ) (first now : AtWire) (before after : List ℕ) (few : n ≤ most)
    (is : IsQuerying tells told J n first now before after) where
  requests_still : (new : AtWire) → IsStill tells now new → IsTrue tells
      → first.requests ≡ requests_of is.rounds ++ new.requests
  requests_still new still t = is.requests t ∙ ap (λ (l : List (List ℕ)). requests_of is.rounds ++ l) (sym (still t).0)

  exchanges_still : (new : AtWire) → IsStill tells now new → IsTrue tells
      → new.exchanges ≡ first.exchanges ++ (exchanges_of is.rounds ++ [])
  exchanges_still new still t = (still t).1 ∙ is.exchanges t ∙ ap (λ (l : List Exchange). first.exchanges ++ l)
      (sym (append-nil (exchanges_of is.rounds)))

  counted_still : (new : AtWire) → new.faults ≡ now.faults → RoundsAreCounted first.faults is.rounds new.faults
  counted_still new same = subst (λ (k : ℕ). RoundsAreCounted first.faults is.rounds k) (sym same) is.counted

  -- no request came
  pub querying_stopped : (new : AtWire) (status : Status) → IsUnasked status → IsStill tells now new
      → new.faults ≡ now.faults → Asked tells told most J first new before after status
  querying_stopped new status un still same = (
    record {
      rounds = is.rounds;
      cut = [];
      replies = is.replies;
      few = omega (arith, few, is.count);
      requests = requests_still new still;
      exchanges = exchanges_still new still;
      counted = counted_still new same;
      taken = taken_unasked tells status un most is.rounds new.requests;
    },
    λ t. lines_unasked status (round_lines 0 is.rounds) (queries_end_line (length is.rounds)) before after un
        (is.written t),
  )

  -- none is left, however the last line ended
  pub querying_over : (new : AtWire) (last : List ℕ) (status : Status) → (n ≡ most) ⊎ (IsTrue tells → new.requests ≡ [])
      → IsStill tells now new → new.faults ≡ now.faults → IsFinished status
      → (IsTrue told → Writes status [] (queries_end_line n) after last)
      → Asked tells told most J first new before last status
  querying_over new last status over still same ends wrote = (
    record {
      rounds = is.rounds;
      cut = [];
      replies = is.replies;
      few = omega (arith, few, is.count);
      requests = requests_still new still;
      exchanges = exchanges_still new still;
      counted = counted_still new same;
      taken = taken_finished tells status ends most is.rounds new.requests
          (elim over [ inl all ↦ inl (omega (arith, all, is.count)) | inr none ↦ inr none ]);
    },
    λ t. subst (λ (k : ℕ). Writes status (round_lines 0 is.rounds) (queries_end_line k) before last) (sym is.count)
        (last_written status (round_lines 0 is.rounds) (queries_end_line n) before after last ends (is.written t)
        (wrote t)),
  )

  -- ---- one more came

  module _ (mid : AtWire) (room : List ℕ) (one : n + 1 ≤ most) (comes : Comes tells room now mid (Ok true))
      (held : mid.faults ≡ now.faults) where
    abbrev round_of : List ℕ → Bool → AtWire → Round
    round_of reply sent new = record { request = room; reply = reply; sent = sent; faults = new.faults }

    requests_now : (reply : List ℕ) (sent : Bool) (new : AtWire) → Replied tells J room reply sent mid new
        → IsTrue tells
        → first.requests ≡ requests_of (is.rounds ++ round_of reply sent new ∷ []) ++ new.requests
    requests_now reply sent new replied t =
        is.requests t ∙ ap (λ (l : List (List ℕ)). requests_of is.rounds ++ l)
        ((comes t).0 ∙ ap (λ (l : List (List ℕ)). room ∷ l) (sym (replied.requests t)))
        ∙ sym (append_assoc (requests_of is.rounds) (room ∷ []) new.requests)
        ∙ ap (λ (l : List (List ℕ)). l ++ new.requests)
        (sym (map-append (λ (r : Round). r.request) is.rounds (round_of reply sent new ∷ [])))

    exchanges_now : (reply : List ℕ) (sent : Bool) (new : AtWire) → Replied tells J room reply sent mid new
        → IsTrue tells
        → new.exchanges ≡ first.exchanges ++ exchanges_of (is.rounds ++ round_of reply sent new ∷ [])
    exchanges_now reply sent new replied t =
        replied.exchanges t ∙ ap (λ (l : List Exchange). l ++ sent_of sent reply)
        ((comes t).1 ∙ ap (λ (l : List Exchange). l ++ Exchange.Came room ∷ []) (is.exchanges t))
        ∙ append_assoc (first.exchanges ++ exchanges_of is.rounds) (Exchange.Came room ∷ []) (sent_of sent reply)
        ∙ append_assoc first.exchanges (exchanges_of is.rounds) (Exchange.Came room ∷ sent_of sent reply)
        ∙ ap (λ (l : List Exchange). first.exchanges ++ (exchanges_of is.rounds ++ l))
        (sym (append-nil (Exchange.Came room ∷ sent_of sent reply)))
        ∙ ap (λ (l : List Exchange). first.exchanges ++ l)
        (sym (flat_map-append (λ (r : Round). Exchange.Came r.request ∷ sent_of r.sent r.reply) is.rounds
        (round_of reply sent new ∷ [])))

    counted_now : (reply : List ℕ) (sent : Bool) (new : AtWire) → Replied tells J room reply sent mid new
        → RoundsAreCounted first.faults (is.rounds ++ round_of reply sent new ∷ []) new.faults
    counted_now reply sent new replied =
        counted_more is.rounds (round_of reply sent new) first.faults now.faults is.counted
        (subst (λ (k : ℕ). IsSendCounted sent k new.faults) held replied.counted)

    lines_now : (reply : List ℕ) (sent : Bool) (new : AtWire)
        → round_lines 0 (is.rounds ++ round_of reply sent new ∷ []) ≡ round_lines 0 is.rounds ++ request_line (n + 1)
        (told_of sent reply)
    lines_now reply sent new =
        lines_more 0 is.rounds (round_of reply sent new)
        ∙ ap (λ (k : ℕ). round_lines 0 is.rounds ++ request_line k (told_of sent reply)) (omega (arith, is.count))

    pub querying_more : (new : AtWire) (last : List ℕ) (done : Unit {0})
        → Answered tells told J (n + 1) room mid new after last (Ok done)
        → IsQuerying tells told J (n + 1) first new before last
    querying_more new last done (reply, sent, replied, written) = record {
      rounds = is.rounds ++ round_of reply sent new ∷ [];
      count = omega (arith, is.count, length-append is.rounds (round_of reply sent new ∷ []));
      replies = replies_more J is.rounds (round_of reply sent new) is.replies replied.is;
      requests = requests_now reply sent new replied;
      exchanges = exchanges_now reply sent new replied;
      counted = counted_now reply sent new replied;
      written = λ t. written t ∙ ap (λ (l : List ℕ). l ++ request_line (n + 1) (told_of sent reply)) (is.written t)
          ∙ append_assoc before (round_lines 0 is.rounds) (request_line (n + 1) (told_of sent reply))
          ∙ ap (λ (l : List ℕ). before ++ l) (sym (lines_now reply sent new));
    }

    line_broken : (new : AtWire) (last : List ℕ) (status : Status) → IsUnwritten status → (reply : List ℕ) (sent : Bool)
        → Replied tells J room reply sent mid new
        → (IsTrue told → AddsFront after last (request_line (n + 1) (told_of sent reply)))
        → Asked tells told most J first new before last status
    line_broken new last status un reply sent replied front = (
      record {
        rounds = is.rounds ++ round_of reply sent new ∷ [];
        cut = [];
        replies = replies_more J is.rounds (round_of reply sent new) is.replies replied.is;
        few = omega (arith, one, is.count, length-append is.rounds (round_of reply sent new ∷ []));
        requests = requests_now reply sent new replied;
        exchanges = λ t. exchanges_now reply sent new replied t ∙ ap (λ (l : List Exchange). first.exchanges ++ l)
            (sym (append-nil (exchanges_of (is.rounds ++ round_of reply sent new ∷ []))));
        counted = counted_now reply sent new replied;
        taken = taken_unwritten tells status un most _ new.requests;
      },
      λ t. subst
          (λ (l : List ℕ). Writes status l (queries_end_line (length (is.rounds ++ round_of reply sent new ∷ []))) before
          last) (sym (lines_now reply sent new))
          (line_unwritten status (round_lines 0 is.rounds) (request_line (n + 1) (told_of sent reply)) _ before after
          last un (is.written t)
          (by_unwritten (λ s. Writes s [] (request_line (n + 1) (told_of sent reply)) after last) (front t) (front t)
          status un)),
    )

    not_replied : (new : AtWire) (last : List ℕ) (status : Status) → IsUnreplied mid new after last status
        → Asked tells told most J first new before last status
    not_replied new last status none =
        let left : new.requests ≡ mid.requests = ap (λ (w : AtWire). w.requests) none.1.0 in
        let sent : new.exchanges ≡ mid.exchanges = ap (λ (w : AtWire). w.exchanges) none.1.0 in
        let failed : new.faults ≡ now.faults = ap (λ (w : AtWire). w.faults) none.1.0 ∙ held in (
          record {
            rounds = is.rounds;
            cut = room ∷ [];
            replies = is.replies;
            few = omega (arith, few, is.count);
            requests = λ t. is.requests t ∙ ap (λ (l : List (List ℕ)). requests_of is.rounds ++ l)
                ((comes t).0 ∙ ap (λ (l : List (List ℕ)). room ∷ l) (sym left));
            exchanges = λ t. sent ∙ (comes t).1 ∙ ap (λ (l : List Exchange). l ++ Exchange.Came room ∷ [])
                (is.exchanges t) ∙ append_assoc first.exchanges (exchanges_of is.rounds) (Exchange.Came room ∷ []);
            counted = counted_still new failed;
            taken = subst (λ (s : Status). RequestsAreTaken tells s most is.rounds (room ∷ []) new.requests)
                (sym none.0) (omega arith);
          },
          λ t. subst (λ (s : Status). Writes s (round_lines 0 is.rounds) (queries_end_line (length is.rounds)) before
              last) (sym none.0)
              (front_of_first before last (round_lines 0 is.rounds) (queries_end_line (length is.rounds))
              (front_whole before last (round_lines 0 is.rounds) (none.1.1 ∙ is.written t))),
        )

    pub answering_stopped : (new : AtWire) (last : List ℕ) (status : Status) → IsUnwritten status
        → Answered tells told J (n + 1) room mid new after last (Err status)
        → Asked tells told most J first new before last status
    answering_stopped new last status un answered =
        elim answered [
          | inl a ↦ line_broken new last status un a.0 a.1 a.2 a.3
          | inr none ↦ not_replied new last status none
        ]

-- ---- the reply to one request

-- one was made, and its line was written, or not
pub answered_by : (tells told : Bool) (J : List Row) (number : ℕ) (request reply : List ℕ) (sent : Bool)
    (old new : AtWire) (before after said : List ℕ) (result : Result (Unit {0}) Status)
    → Replied tells J request reply sent old new → said ≡ told_of sent reply
    → (IsTrue told → Writes (status_in result) [] (request_line number said) before after) → IfErr result IsUnwritten
    → Answered tells told J number request old new before after result
answered_by tells told J number request reply sent old new before after said (Ok done) replied is wrote un =
    (reply, sent, replied, λ t. wrote t ∙ ap (λ (l : List ℕ). before ++ request_line number l) is)
answered_by tells told J number request reply sent old new before after said (Err status) replied is wrote un =
    inl (
      reply,
      sent,
      replied,
      λ t. subst (λ (l : List ℕ). AddsFront before after (request_line number l)) is
          (by_unwritten (λ s. Writes s [] (request_line number said) before after → AddsFront before after
          (request_line number said)) (λ front. front) (λ front. front) status un (wrote t)),
    )

-- ---- disks that weren't opened

pub taken_unopened : (tells : Bool) (count : ℕ) (fault : StoreFault) (status : Status) (left : List (List ℕ))
    → status ≡ status_of_fault fault → IsOfReading fault → RequestsAreTaken tells status count [] [] left
taken_unopened tells count fault status left is of =
    subst (λ (s : Status). RequestsAreTaken tells s count [] [] left) (sym is) (by fault of)
  where
    by : (f : StoreFault) → IsOfReading f → RequestsAreTaken tells (status_of_fault f) count [] [] left
    by StoreFault.Disk of = (refl, refl)
    by (StoreFault.BadLog p) of = (refl, refl)
    by (StoreFault.Full e) of = absurd of
    by StoreFault.SeqEnd of = absurd of
    by StoreFault.Authority of = absurd of
    by StoreFault.Repos of = absurd of
    by StoreFault.Memory of = omega arith
    by StoreFault.Clock of = absurd of

-- nothing was answered
pub nil_exchanges : (wire : AtWire) → wire.exchanges ≡ wire.exchanges ++ []
nil_exchanges wire = sym (append-nil wire.exchanges)

abbrev pub none_queried : (tells : Bool) (count : ℕ) (J : List Row) (wire : AtWire) (fault : StoreFault)
    (status : Status) → status ≡ status_of_fault fault → IsOfReading fault → Queried tells count J wire wire status
none_queried tells count J wire fault status is of = record {
  rounds = [];
  cut = [];
  replies = tt;
  few = omega arith;
  requests = λ t. refl;
  exchanges = λ t. nil_exchanges wire;
  counted = refl;
  taken = taken_unopened tells count fault status wire.requests is of;
}
