-- The refusals for an account and for one that trails it.
use Rattle.std.proofs.Common.{◌≡◌, Bool, true, false, not, List, [], ◌∷◌, Option, Some, None, refl, sym, subst}
use Rattle.at_event.specs.Refusals.{code_of}
use Rattle.at_event.specs.declared.refusal.Refusal.{Refusal}
use Rattle.relay_row.specs.Rules.{loses}
use Rattle.relay_core.specs.Decide.{first_refusal, when}
use Rattle.relay_core.proofs.Showing.{table}

-- ---- the table of a commit or a sync

-- nothing applies
pub table_none : (l : Option Refusal) (b : Bool) (i d o u : Option Refusal) (v : Bool) (others : List (Option Refusal)) → table l b i d o u v others ≡ None
    → (l ≡ None) × (i ≡ None) × (d ≡ None) × (o ≡ None) × (first_refusal others ≡ None)
table_none (Some r) b i d o u v others h = absurd cc
table_none None false i d o u v others h = absurd cc
table_none None true (Some r) d o u v others h = absurd cc
table_none None true None (Some r) o u v others h = absurd cc
table_none None true None None (Some r) u v others h = absurd cc
table_none None true None None None (Some r) v others h = absurd cc
table_none None true None None None None false others h = absurd cc
table_none None true None None None None true others h = (refl, refl, refl, refl, h)

-- one alone
pub alone : (o : Option Refusal) → first_refusal (o ∷ []) ≡ o
alone None = refl
alone (Some r) = refl

-- where all else passes, the clock decides
late : (u : Option Refusal) (others : List (Option Refusal)) → first_refusal others ≡ None → first_refusal (u ∷ None ∷ others) ≡ u
late None others h = h
late (Some r) others h = refl

pub table_late : (l i d o u : Option Refusal) (others : List (Option Refusal)) → l ≡ None → i ≡ None → d ≡ None → o ≡ None → first_refusal others ≡ None → table l true i d o u true others ≡ u
table_late l i d o u others hl hi hd ho rest = rw (hl, hi, hd, ho) (late u others rest)

never : (r : Refusal) (P : Type 0) → loses (code_of r) ≡ false → (s : Refusal) → Some r ≡ Some s → loses (code_of s) ≡ true → P
never r P kept s same lost =
    let is : r ≡ s = cc in
    let yes : loses (code_of r) ≡ true = subst (λ (q : Refusal). loses (code_of q) ≡ true) (sym is) lost in
    absurd cc

-- a refusal that loses its account stands behind those that its account tells
pub table_lost : (l : Bool) (b i d : Bool) (o u : Option Refusal) (v : Bool) (others : List (Option Refusal)) (r : Refusal)
    → table (when l Refusal.TooLong) b (when (not i) Refusal.Inactive) (when d Refusal.TakenDown) o u v others ≡ Some r → loses (code_of r) ≡ true → (i ≡ true) × (d ≡ false)
table_lost true b i d o u v others r h lost = never Refusal.TooLong _ refl r h lost
table_lost false false i d o u v others r h lost = never Refusal.NotHome _ refl r h lost
table_lost false true false d o u v others r h lost = never Refusal.Inactive _ refl r h lost
table_lost false true true true o u v others r h lost = never Refusal.TakenDown _ refl r h lost
table_lost false true true false o u v others r h lost = (refl, refl)

-- ---- of an identity, and of an account

abbrev pub short : Option Refusal → Bool → List (Option Refusal) → Option Refusal
short l b others = first_refusal (l ∷ when (not b) Refusal.NotHome ∷ others)

pub short_none : (l : Option Refusal) (b : Bool) (others : List (Option Refusal)) → short l b others ≡ None → (l ≡ None) × (first_refusal others ≡ None)
short_none (Some r) b others h = absurd cc
short_none None false others h = absurd cc
short_none None true others h = (refl, h)

pub short_late : (l : Option Refusal) (others : List (Option Refusal)) → l ≡ None → first_refusal others ≡ None → short l true others ≡ None
short_late l others hl rest = rw hl rest

pub short_lost : (P : Type 0) (l b : Bool) (others : List (Option Refusal)) (r : Refusal) → ((s : Refusal) → first_refusal others ≡ Some s → loses (code_of s) ≡ true → P)
    → short (when l Refusal.TooLong) b others ≡ Some r → loses (code_of r) ≡ true → P
short_lost P true b others r rest h lost = never Refusal.TooLong P refl r h lost
short_lost P false false others r rest h lost = never Refusal.NotHome P refl r h lost
short_lost P false true others r rest h lost = rest r h lost

pub down_lost : (P : Type 0) (d : Bool) (r : Refusal) → first_refusal (when d Refusal.TakenDown ∷ []) ≡ Some r → loses (code_of r) ≡ true → P
down_lost P true r h lost = never Refusal.TakenDown P refl r h lost
down_lost P false r h lost = absurd cc

-- ---- lines

pub when_not : (b : Bool) (r : Refusal) → when b r ≡ None → b ≡ false
when_not true r h = absurd cc
when_not false r h = refl

pub when_active : (b : Bool) (r : Refusal) → when (not b) r ≡ None → b ≡ true
when_active true r h = refl
when_active false r h = absurd cc
