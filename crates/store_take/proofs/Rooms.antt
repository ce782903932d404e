-- Whether a row has room.
use Rattle.std.proofs.Common.{◌≡◌, ℕ, ◌+◌, ◌-◌, ◌≤◌, ◌<◌, inr, List, [], ◌∷◌, ◌++◌, length, take, drop, refl, sym, ◌∙◌, ap, subst, arith, length-append, length-drop, Result, Err, false}
use Rattle.std.specs.Prelude.{◌==◌, ◌↔◌}
use Rattle.std.proofs.lemmas.Bool.Decides.{nat_tests}
use Rattle.std.proofs.lemmas.List.{length-take}
use Rattle.at_cbor.specs.declared.major.Major.{Major}
use Rattle.at_cbor.specs.Encoding.{front_of}
use Rattle.gate_log.specs.Log.{LogState}
use Rattle.gate_log.specs.declared.fault.LogFault.{LogFault}
use Rattle.gate_log.specs.declared.pending_bodies.TheConstants.{AHEAD}
use Rattle.gate_log.specs.declared.limits.TheConstants.{BEFORE_BODY}
use Rattle.row_codec.specs.Bodies.{rows_body, row_encoding, encoded_rows}
use Rattle.relay_row.specs.declared.row.Row.{Row}
use Rattle.row_codec.proofs.Bodies.{encoded_joined}
use Rattle.relay_store.specs.PendingBodies.{Fits, FitsWith, HasRows, IsFull, IsFullWith, pending_end, behind_pending, cut_to, pending_body, length_with}
use Rattle.relay_store.specs.declared.pending.Pending.{Pending}
use Rattle.relay_store.proofs.Encodings.{pending_is, length_body, length_one}

-- a log that has no room for a body says where it would end
pub past_end : (r : Result (Unit {0}) LogFault) (bound most : ℕ) → ((e : ℕ) → (r ≡ Err (LogFault.Full e)) ↔ ((e ≡ bound) × (most < e)))
    → (r ≡ Err LogFault.Disk → ⊥) → ((p : ℕ) → r ≡ Err (LogFault.BadLog p) → ⊥) → (r ≡ Err LogFault.Memory → ⊥) → (f : LogFault) → r ≡ Err f → most < bound
past_end r bound most full disk bad memory LogFault.Disk is = absurd (disk is)
past_end r bound most full disk bad memory (LogFault.BadLog p) is = absurd (bad p is)
past_end r bound most full disk bad memory (LogFault.Full e) is = let past = (full e).0 is in omega (arith, past.0, past.1)
past_end r bound most full disk bad memory LogFault.Memory is = absurd (memory is)

pub behind_none : (end : ℕ) (d : Pending) → d.count ≡ 0 → behind_pending end d ≡ end
behind_none end d none = rw none refl

pub behind_some : (end : ℕ) (d : Pending) → (d.count ≡ 0 → ⊥) → behind_pending end d ≡ end + BEFORE_BODY + length (pending_body d)
behind_some end d some = let test : (d.count == 0) ≡ false = grind (arith, nat_tests) in rw test refl

pub length_pending : (d : Pending) → length (pending_body d) ≡ length (front_of Major.List d.count) + (length d.body - AHEAD)
length_pending d = omega (arith, length-append (front_of Major.List d.count) (drop AHEAD d.body), length-drop AHEAD d.body)

pub length_more : (d : Pending) → length_with d ≡ length (front_of Major.List (d.count + 1)) + (length d.body - AHEAD)
length_more d = omega (arith, length-drop AHEAD d.body)

pub length_cut : (start : ℕ) (d : Pending) → start ≤ length d.body → length (pending_body (cut_to start d)) ≡ length (front_of Major.List d.count) + (start - AHEAD)
length_cut start d within = omega (arith, length_pending (cut_to start d), length-take start d.body, within)

pub behind_is : (end : ℕ) (rows : List Row) (d : Pending) → HasRows rows d → behind_pending end d ≡ pending_end end rows
behind_is end [] d has = behind_none end d has.count
behind_is end (row ∷ rows) d has =
    let some : d.count ≡ 0 → ⊥ = λ none. absurd (omega (arith, none, has.count)) in
    behind_some end d some ∙ ap (λ (b : List ℕ). end + BEFORE_BODY + length b) (pending_is (row ∷ rows) d has)

-- ---- a row was encoded behind the pending batch d, which made of it the pending batch e

pub front_kept : (old more : List ℕ) → take (length old) (old ++ more) ≡ old
front_kept [] more = refl
front_kept (x ∷ old) more = ap (λ (l : List ℕ). x ∷ l) (front_kept old more)

end_kept : (old more : List ℕ) → drop (length old) (old ++ more) ≡ more
end_kept [] more = refl
end_kept (x ∷ old) more = end_kept old more

pub cut_again : (start : ℕ) (old more body : List ℕ) → start ≡ length old → body ≡ old ++ more → take start body ≡ old
cut_again start old more body here is = rw (here, is) (front_kept old more)

rest_again : (start : ℕ) (old more body : List ℕ) → start ≡ length old → body ≡ old ++ more → drop start body ≡ more
rest_again start old more body here is = rw (here, is) (end_kept old more)

has_again : (rows : List Row) (d : Pending) (body : List ℕ) → HasRows rows d → body ≡ d.body → HasRows rows (record { body = body; count = d.count })
has_again rows d body has is = record {
  begun = subst (λ (l : List ℕ). AHEAD ≤ length l) (sym is) has.begun;
  encoded_are = ap (drop AHEAD) is ∙ has.encoded_are;
  count = has.count;
}

pub fits_again : (log : LogState) (d : Pending) (body : List ℕ) → Fits log d → body ≡ d.body → Fits log (record { body = body; count = d.count })
fits_again log d body fits is = subst (λ (l : List ℕ). Fits log (record { body = l; count = d.count })) (sym is) fits

-- the body with the row
with_row : (rows : List Row) (row : Row) (d : Pending) (body : List ℕ) → HasRows rows d → body ≡ d.body ++ row_encoding row → length_with (record { body = body; count = d.count }) ≡ length (rows_body (rows ++ row ∷ []))
with_row rows row d body has is =
    let count : length (rows ++ row ∷ []) ≡ d.count + 1 = omega (arith, length-append rows (row ∷ []), has.count) in
    let front = ap (λ (n : ℕ). length (front_of Major.List n)) count in
    omega (
      arith,
      front,
      length_more (record { body = body; count = d.count }),
      length_body (rows ++ row ∷ []),
      ap length (encoded_joined rows (row ∷ [])),
      length-append (encoded_rows rows) (row_encoding row ++ []),
      length-append (row_encoding row) [],
      ap length has.encoded_are,
      length-drop AHEAD d.body,
      ap length is,
      length-append d.body (row_encoding row),
      has.begun,
    )

pub full_of : (log : LogState) (rows : List Row) (row : Row) (d : Pending) (body : List ℕ) (start e : ℕ) → HasRows rows d → start ≡ length d.body → body ≡ d.body ++ row_encoding row → IsFullWith log start (record { body = body; count = d.count }) e → IsFull log rows row e
full_of log rows row d body start e has here is full =
    let cut = has_again rows d (take start body) has (cut_again start d.body (row_encoding row) body here is) in
    record {
      there = omega (arith, full.there, behind_is log.end rows (record { body = take start body; count = d.count }) cut, length_one row, ap length (rest_again start d.body (row_encoding row) body here is));
      past = omega (arith, full.past, with_row rows row d body has is);
    }

-- the row is counted
pub fits_more : (log : LogState) (d d_now : Pending) → AHEAD ≤ length d.body → FitsWith log d → d_now.body ≡ d.body → d_now.count ≡ d.count + 1 → Fits log d_now
fits_more log d d_now begun fits body count =
    let front = ap (λ (n : ℕ). length (front_of Major.List n)) count in
    let same : length (pending_body d_now) ≡ length_with d = omega (arith, front, length_pending d_now, length_more d, ap length body, begun) in
    inr (omega (arith, same, fits.fits), omega (arith, same, fits.short))
