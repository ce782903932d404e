-- What counts of two disks say of a call, by those of the calls that it makes.
use Rattle.std.proofs.Common.{◌≡◌, ◌≤◌, ℕ, Result, Ok, Err, inl, inr, ap, arith, subst}
use Rattle.at_cid.specs.Counts.{CountedPair, Rose}

fault_or : {A E : Type 0} → E → Result A E → E
fault_or other (Ok x) = other
fault_or other (Err e) = e

-- a call that answers otherwise fails with the same fault
pub fails_as : (A B E : Type 0) (e f : E) → ◌≡◌ {A = Result A E} (Err e) (Err f) → ◌≡◌ {A = Result B E} (Err e) (Err f)
unfolding fault_or
fails_as A B E e f is =
    let back : Result A E → E = fault_or f in
    let forth : E → Result B E = λ x. Err x in
    ap forth (ap back is)

-- a call to the first disk came last, and the other one stands
pub counted_one : (failed : Type 0) (one two one_now two_now : ℕ) → two_now ≡ two → (failed → Rose one one_now) → ((failed → ⊥) → one_now ≡ one) → one ≤ one_now → CountedPair failed one two one_now two_now
counted_one failed one two one_now two_now still rose steady kept = record {
  rose = λ is. inl (rose is);
  steady = λ not. (steady not, still);
  one_kept = kept;
  two_kept = omega (arith, still);
}

-- a call to the second
pub counted_two : (failed : Type 0) (one two one_now two_now : ℕ) → one_now ≡ one → (failed → Rose two two_now) → ((failed → ⊥) → two_now ≡ two) → two ≤ two_now → CountedPair failed one two one_now two_now
counted_two failed one two one_now two_now still rose steady kept = record {
  rose = λ is. inr (rose is);
  steady = λ not. (still, steady not);
  one_kept = omega (arith, still);
  two_kept = kept;
}

-- neither failed
pub counted_none : (failed : Type 0) (one two one_now two_now : ℕ) → (failed → ⊥) → one_now ≡ one → two_now ≡ two → CountedPair failed one two one_now two_now
counted_none failed one two one_now two_now none first second =
    counted_one failed one two one_now two_now second (λ is. absurd (none is)) (λ not. first) (omega (arith, first))

-- a call to both came behind calls at which neither failed
pub counted_behind : (failed : Type 0) (one two one_mid two_mid one_now two_now : ℕ) → one_mid ≡ one → two_mid ≡ two → CountedPair failed one_mid two_mid one_now two_now → CountedPair failed one two one_now two_now
counted_behind failed one two one_mid two_mid one_now two_now first second counted =
    subst (λ n. CountedPair failed n two one_now two_now) first (subst (λ n. CountedPair failed one_mid n one_now two_now) second counted)

-- the same failure, otherwise said
pub counted_as : (failed known : Type 0) (one two one_now two_now : ℕ) → (failed → known) → (known → failed) → CountedPair known one two one_now two_now → CountedPair failed one two one_now two_now
counted_as failed known one two one_now two_now there back counted = record {
  rose = λ is. counted.rose (there is);
  steady = λ not. counted.steady (λ is. not (back is));
  one_kept = counted.one_kept;
  two_kept = counted.two_kept;
}
