-- What is held where one account of a map of them is changed.
use Rattle.std.proofs.Common.{◌≡◌, ℕ, Bool, true, false, cond, ◌||◌, List, Option, Some, Result, Ok, Err, refl, sym, ap, ◌∙◌, subst}
use Rattle.std.specs.Prelude.{OnErr}
use Rattle.std.specs.BTreeMap.{get_by_text}
use Rattle.std.specs.Option.{is_some, unwrap_or}
use Rattle.std.specs.Str.{bytes_eq}
use Rattle.std.proofs.lemmas.Slice.Eq.{bytes_eq-Decides}
use Rattle.relay_io.specs.Choices.{WhereElse}
use Rattle.mirror.specs.State.{at_start, held_by, is_known}
use Rattle.mirror.specs.Taken.{IsChanged, IsSame, step_of}
use Rattle.mirror.specs.declared.holding.Holding.{Holding}
use Rattle.mirror.specs.declared.keeping.Mirror.{Mirror}
use Rattle.mirror.specs.declared.step.Step.{Step}

pub on_err : {A E : Type 0} (r : Result A E) (P : Type 0) → P → OnErr r P
on_err (Ok a) P p = tt
on_err (Err e) P p = p

or_false : (b : Bool) → b ≡ (b || false)
or_false true = refl
or_false false = refl

itself : (did : List ℕ) → bytes_eq did did ≡ true
itself did = (bytes_eq-Decides did did).1 refl

swapped : (did name : List ℕ) → bytes_eq name did ≡ false → bytes_eq did name ≡ false
swapped did name differ = go (bytes_eq did name) refl
  where
    go : (b : Bool) → bytes_eq did name ≡ b → b ≡ false
    go true same = sym ((bytes_eq-Decides name did).1 (sym ((bytes_eq-Decides did name).0 same))) ∙ differ
    go false same = refl

module _ (did : List ℕ) (old new : Mirror) (held now : Holding) (was : get_by_text old.accounts did ≡ Some held)
    (is : (name : List ℕ) → get_by_text new.accounts name ≡ cond (bytes_eq did name) (Some now) (get_by_text old.accounts name)) where
  here : get_by_text new.accounts did ≡ Some now
  here = is did ∙ ap (λ (b : Bool). cond b (Some now) (get_by_text old.accounts did)) (itself did)

  there : (name : List ℕ) → bytes_eq name did ≡ false → get_by_text new.accounts name ≡ get_by_text old.accounts name
  there name differ = is name ∙ ap (λ (b : Bool). cond b (Some now) (get_by_text old.accounts name)) (swapped did name differ)

  held_now : held_by new did ≡ now
  held_now = ap (λ (o : Option Holding). unwrap_or o at_start) here

  held_was : held_by old did ≡ held
  held_was = ap (λ (o : Option Holding). unwrap_or o at_start) was

  known_is : (name : List ℕ) (b : Bool) → bytes_eq name did ≡ b → is_known new name ≡ (is_known old name || b)
  known_is name true same =
      subst (λ (n : List ℕ). is_known new n ≡ (is_known old n || true)) (sym ((bytes_eq-Decides name did).0 same))
      (ap is_some here ∙ sym (ap (λ (o : Option Holding). is_some o || true) was))
  known_is name false differ = ap is_some (there name differ) ∙ or_false (is_known old name)

  pub one_changed : (change : Holding → Holding → Type 0) (step : Step) → change held now → step ≡ step_of now → IsChanged did change old new step
  one_changed change step changes came = record {
    held = λ name. held_of name (bytes_eq name did) refl;
    known = λ name. known_is name (bytes_eq name did) refl;
    came = came ∙ ap step_of (sym held_now);
  }
    where
      held_of : (name : List ℕ) (b : Bool) → bytes_eq name did ≡ b → WhereElse b (change (held_by old name) (held_by new name)) (held_by new name ≡ held_by old name)
      held_of name true same =
          subst (λ (n : List ℕ). change (held_by old n) (held_by new n)) (sym ((bytes_eq-Decides name did).0 same))
          (subst (λ (h : Holding). change h (held_by new did)) (sym held_was) (subst (λ (h : Holding). change held h) (sym held_now) changes))
      held_of name false differ = ap (λ (o : Option Holding). unwrap_or o at_start) (there name differ)

  pub one_same : now ≡ held → new.last ≡ old.last → IsSame old new
  one_same same last = record {
    last = last;
    held = λ name. ap (λ (o : Option Holding). unwrap_or o at_start) (all name (bytes_eq name did) refl);
    known = λ name. ap is_some (all name (bytes_eq name did) refl);
  }
    where
      all : (name : List ℕ) (b : Bool) → bytes_eq name did ≡ b → get_by_text new.accounts name ≡ get_by_text old.accounts name
      all name true is_it =
          subst (λ (n : List ℕ). get_by_text new.accounts n ≡ get_by_text old.accounts n) (sym ((bytes_eq-Decides name did).0 is_it))
          (here ∙ ap (λ (h : Holding). Some h) same ∙ sym was)
      all name false differ = there name differ
