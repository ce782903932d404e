use Rattle.std.proofs.Common.{refl}
use Rattle.at_car.specs.Logs.{IsTold}
use Rattle.at_car.proofs.Settles.{halves_places, halves_all}
use Rattle.at_car.proofs.entry.bring_halves_near.Goals as goal

pub returns-in_err-bring_near-clause-places : goal.returns-in_err-bring_near-clause-places
returns-in_err-bring_near-clause-places c = λ link. halves_places link _ _ _ _ _ c.split_at_mut-front.ensures.value (c.bring_near.ensures.places link) refl

pub returns-in_err-bring_near-clause-told : goal.returns-in_err-bring_near-clause-told
returns-in_err-bring_near-clause-told c = λ buffer. halves_all (IsTold buffer) _ _ _ _ _ _ c.split_at_mut-front.ensures.front c.split_at_mut-front.ensures.back (c.bring_near.ensures.told buffer) (λ h. h)

pub returns-clause-places : goal.returns-clause-places
returns-clause-places c = λ link. halves_places link _ _ _ _ _ c.split_at_mut-front.ensures.value (c.bring_near.ensures.places link) (c.bring_near-2.ensures.places link)

pub returns-clause-told : goal.returns-clause-told
returns-clause-told c = λ buffer. halves_all (IsTold buffer) _ _ _ _ _ _ c.split_at_mut-front.ensures.front c.split_at_mut-front.ensures.back (c.bring_near.ensures.told buffer) (c.bring_near-2.ensures.told buffer)
