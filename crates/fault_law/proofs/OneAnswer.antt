-- Bytes are read as one thing, so they have one answer.
use Rattle.std.proofs.Common.{◌≡◌, ℕ, ◌⊎◌, inl, inr, List, Result, Ok, Err, refl, ap}
use Rattle.at_cid.specs.Link.{IsBytes}
use Rattle.at_cbor.specs.declared.fault.Cause.{Cause}
use Rattle.at_cbor.specs.Decoding.{decoded}
use Rattle.at_cbor.proofs.Decoded.{faulty, read_front, front_read}
use Rattle.at_car.specs.Car.{car_of}
use Rattle.at_car.proofs.Takes.{car_takes}
use Rattle.at_car.proofs.Again.{car_again}
use Rattle.fault_law.specs.Laws.{HasItem, HasFault, HasOneFault, IsSomeCar, HasCarFault, HasOneCarFault}
use Rattle.fault_law.proofs.ItemFaults.{fault_read}
use Rattle.fault_law.proofs.CarFaults.{car_fails, fault_is_of}

not_both : {A B : Type 0} (r : Result A B) (x : A) (e : B) → r ≡ Ok x → r ≡ Err e → ⊥
not_both r x e p q = cc

one_err : {A B : Type 0} (r : Result A B) (d e : B) → r ≡ Err d → r ≡ Err e → d ≡ e
one_err r d e p q = cc

module _ (bytes : List ℕ) (fits : IsBytes bytes) where
  pub item_or_fault : HasItem bytes ⊎ HasFault bytes
  item_or_fault = elim (decoded bytes) as (λ r. decoded bytes ≡ r → HasItem bytes ⊎ HasFault bytes) [
    | Ok x ↦ λ e. inl (x.0, x.1, read_front bytes x.0 x.1 fits e)
    | Err f ↦ λ e. inr (f.0, f.1, faulty bytes f fits e)
  ] refl

  pub not_item_and_fault : HasItem bytes → HasFault bytes → ⊥
  not_item_and_fault item fault = not_both (decoded bytes) (item.0, item.1) (fault.0, fault.1) (front_read bytes item.0 item.1 item.2) (fault_read bytes fault.0 fault.1 fits fault.2)

  pub one_fault : HasOneFault bytes
  one_fault cause other place elsewhere f g =
      let same = one_err (decoded bytes) (cause, place) (other, elsewhere) (fault_read bytes cause place fits f) (fault_read bytes other elsewhere fits g) in
      (ap (λ (x : Cause × ℕ). x.0) same, ap (λ (x : Cause × ℕ). x.1) same)

  pub car_or_fault : IsSomeCar bytes ⊎ HasCarFault bytes
  car_or_fault = elim (car_of bytes) as (λ r. car_of bytes ≡ r → IsSomeCar bytes ⊎ HasCarFault bytes) [
    | Ok car ↦ λ e. inl (car, car_takes bytes car fits e)
    | Err f ↦ λ e. inr (f, fault_is_of bytes f fits e)
  ] refl

  pub not_car_and_fault : IsSomeCar bytes → HasCarFault bytes → ⊥
  not_car_and_fault (car, (header, sections, form, blocks)) fault = not_both (car_of bytes) _ fault.0 (car_again bytes header car.0 sections form) (car_fails bytes fault.0 fits fault.1)

  pub one_car_fault : HasOneCarFault bytes
  one_car_fault fault other f g = one_err (car_of bytes) fault other (car_fails bytes fault fits f) (car_fails bytes other fits g)
