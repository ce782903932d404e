use Rattle.std.proofs.Common.{◌≡◌, ◌<◌, ℕ, zero, suc, refl, List, [], ◌∷◌, ◌++◌, length, Err, arith, ap, ◌∙◌, sym, subst, length-append}
use Rattle.at_cid.specs.Link.{IsBytes}
use Rattle.tape.specs.Format.{record_bytes, IsRecord}
use Rattle.tape.specs.Reading.{coming}
use Rattle.store_take.specs.Batches.{message_from}
use Rattle.take_run.specs.declared.group.Rest.{Rest}
use Rattle.take_run.specs.Groups.{AreRead, IsGroup, bytes_together}
use Rattle.take_run.specs.Tapes.{AreRecords, encoded_records}
use Rattle.store_take.specs.declared.message.Message.{Message}
use Rattle.take_run.proofs.Records.{as_long, bytes_one, place_one, read_failed, read_fault, read_none, read_one, records_joined}
use Rattle.take_run.proofs.group.read_group.Goals as goal
use Rattle.take_run.proofs.group.read_group.Goals.{then-reading-test+else-size-lt-LONGEST_FEED_MESSAGE, else-reading-test}

some_if : (n size : ℕ) → (n ≡ 0 → size ≡ 0) → 0 < size → 0 < n
some_if zero size none some = let is : size ≡ 0 = none refl in absurd (omega (arith, is, some))
some_if (suc n) size none some = omega arith

pub reading-preserved : goal.reading-preserved
reading-preserved g c =
    let xs = c.reading.messages.items in
    let m = c.message_of.result in
    let is : m ≡ message_from c.in-Ok-Some.record.host c.in-Ok-Some.record.message = c.message_of.ensures in
    let items : c.push_reserved.new.self.items ≡ xs ++ m ∷ [] = c.push_reserved.ensures.items ∙ ap (λ (l : List Message). l ++ m ∷ []) c.reserve.ensures.items in
    let placed = rw c.in-Ok-Some.field-0-is at c.in-Ok-Some.ensures.placed in
    let bytes_are : record_bytes m.host m.bytes ≡ record_bytes c.in-Ok-Some.record.host c.in-Ok-Some.record.message = ap (λ (x : Message). record_bytes x.host x.bytes) is in
    record {
      read = λ told. subst (λ (l : List Message). AreRead c.args.tape.now (g.I.Source.left c.args.input.now) l (coming c.next.new.self (g.I.Source.left c.next.new.source))) (sym items)
          (read_one c.args.tape.now (g.I.Source.left c.args.input.now) xs m _ _ (c.reading.invariant.read told)
          ((rw c.in-Ok-Some.field-0-is at (c.in-Ok-Some.ensures.next told)).1 ∙ ap (λ (l : List ℕ). l ++ coming c.next.new.self (g.I.Source.left c.next.new.source)) (sym bytes_are)));
      records = subst AreRecords (sym items) (records_joined xs (m ∷ []) c.reading.invariant.records
          (subst (λ (x : Message). IsRecord x.host x.bytes × IsBytes x.bytes × Unit {0}) (sym is) (placed.0, c.as_slice.ensures.bytes, tt)));
      few = omega (arith, ap length items, length-append xs (m ∷ []), c.reading-test.true);
      some = λ none. absurd (omega (arith, ap length items, length-append xs (m ∷ []), none));
      place = omega (arith, placed.2, c.reading.invariant.place, ap (λ (l : List Message). length (encoded_records l)) items, place_one xs m, ap length bytes_are);
      most = c.in-Ok-Some.ensures.most ∙ c.reading.invariant.most;
      steady = c.in-Ok-Some.ensures.steady ∙ c.reading.invariant.steady;
      bytes = omega (arith, ap bytes_together items, bytes_one xs m, ap (λ (x : Message). length x.bytes) is, c.reading.invariant.bytes, c.if-size-lt-LONGEST_FEED_MESSAGE.true, placed.0.short, c.saturating_add-size.ensures, ap length c.as_slice.ensures.value);
      small = omega (arith, c.saturating_add-size.ensures, ap length c.as_slice.ensures.value, placed.0.short, c.if-size-lt-LONGEST_FEED_MESSAGE.true);
    }

pub returns-in-Err-clause-read : goal.returns-in-Err-clause-read
returns-in-Err-clause-read g c = λ told.
    subst (λ (l : List Message). IsGroup c.args.tape.now (g.I.Source.left c.args.input.now) c.next.new.self (g.I.Source.left c.next.new.source) l (Rest.Fault c.in-Err.fault)) (sym c.reserve.ensures.items)
    (read_fault c.args.tape.now c.reading.tape c.next.new.self _ _ _ c.reading.messages.items c.in-Err.fault (c.reading.invariant.read told) (c.in-Err.ensures.next told) c.in-Err.ensures.placed)

pub returns-in-Ok-None-clause-read : goal.returns-in-Ok-None-clause-read
returns-in-Ok-None-clause-read g c = λ told.
    subst (λ (l : List Message). IsGroup c.args.tape.now (g.I.Source.left c.args.input.now) c.next.new.self (g.I.Source.left c.next.new.source) l Rest.Nothing) (sym c.reserve.ensures.items)
    (read_none c.args.tape.now c.reading.tape c.next.new.self _ _ _ c.reading.messages.items (c.reading.invariant.read told) (rw c.in-Ok-None.field-0-is at (c.in-Ok-None.ensures.next told)))

pub returns-in-Err-clause-failed : goal.returns-in-Err-clause-failed
returns-in-Err-clause-failed g c = read_failed c.in-Err.fault _ _ _ c.reading.invariant.steady (λ is. c.in-Err.ensures.failed (ap Err is)) c.in-Err.ensures.no_fault

pub returns-clause-some : goal.returns-clause-some
returns-clause-some g c = λ more.
    let long = as_long c.reading.messages.items in
    elim c.reading-test.branch [
      | then-reading-test+else-size-lt-LONGEST_FEED_MESSAGE w ↦
          let some : 0 < length c.reading.messages.items = some_if _ c.reading.size c.reading.invariant.some (omega (arith, w.if-size-lt-LONGEST_FEED_MESSAGE.false)) in
          omega (arith, long, some, c.reading.invariant.place)
      | else-reading-test w ↦ omega (arith, long, w.reading-test.false, c.reading.invariant.place)
    ]
