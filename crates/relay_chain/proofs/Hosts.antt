-- The host that words name, and what its run comes to.
use Rattle.std.proofs.Common.{◌≡◌, ◌↔◌, ◌∙◌, ℕ, Bool, List, [], ◌∷◌, Option, inl, inr, ⊎_elim, subst, sym}
use Rattle.relay_disk.specs.Disk.{View}
use Rattle.relay_store.specs.declared.limits.TheConstants.{LONGEST}
use Rattle.run_base.specs.Place.{Place, Tells}
use Rattle.run_base.specs.declared.status.Status.{Status}
use Rattle.relay_chain.specs.Chained.{ChainRan}
use Rattle.relay_chain.specs.Disks.{Disks, two_disks}
use Rattle.relay_chain.specs.Ends.{MayEndChaining}
use Rattle.relay_chain.specs.Runs.{AreHost, second_place}

first_is : (given host : List ℕ) → given ∷ [] ≡ host ∷ [] → given ≡ host
first_is given host is = cc

same_host : (words : List (List ℕ)) (given host : List ℕ) → AreHost words given → AreHost words host → given ≡ host
same_host words given host one other = first_is given host (sym one.words_are ∙ other.words_are)

-- the same run, where what wasn't touched is said otherwise
said_as : (t : Tells) (host : List ℕ) (most : ℕ) (first first_now : Disks) (old new : Place) (X Y : Type 0) (status : Status) → (X → Y) → ChainRan t host most first first_now old new X status → ChainRan t host most first first_now old new Y status
said_as t host most first first_now old new X Y status to h = record {
  chained = λ told two has. ⊎_elim (λ un. inl (un.0, to un.1)) (λ both. inr both) (h.chained told two has);
  still = h.still;
  may = h.may;
  shows = h.shows;
  told = h.told;
  counts = h.counts;
  only_read = h.only_read;
  beside = h.beside;
  complete = h.complete;
}

pub ran_for : (t : Tells) (words : List (List ℕ)) (given host : List ℕ) (first first_now first_end : Disks) (old new end : Place) (X Y : Type 0) (status : Status) → AreHost words given → AreHost words host → first_end ≡ first_now → end ≡ new → (X → Y)
    → ChainRan t given LONGEST first first_now old new X status → ChainRan t host LONGEST first first_end old end Y status
ran_for t words given host first first_now first_end old new end X Y status one other same_first same to ran =
    subst (λ (h : List ℕ). ChainRan t h LONGEST first first_end old end Y status) (same_host words given host one other)
    (subst (λ (d : Disks). ChainRan t given LONGEST first d old end Y status) (sym same_first) (subst (λ (p : Place). ChainRan t given LONGEST first first_now old p Y status) (sym same) (said_as t given LONGEST first first_now old new X Y status to ran)))

-- ---- what holds of the parts as they are handed back

pub disks_same : {D : Type 0} (tells : Bool) (view : D → View) {one one_now two two_now : D} → one_now ≡ one → two_now ≡ two → two_disks tells (view one_now) (view two_now) ≡ two_disks tells (view one) (view two)
disks_same tells view one two = λ i. two_disks tells (view (one i)) (view (two i))

pub place_same : {D R C O : Type 0} (view : D → View) (moments : C → List ℕ) (repository : R → List ℕ → Option (List ℕ)) (written : O → List ℕ) (repos_failed : R → ℕ) (clock_failed : C → ℕ) (out_failed : O → ℕ) {one one_now two two_now : D} {repos repos_now : R} {clock clock_now : C}
    {out out_now : O} → one_now ≡ one → two_now ≡ two → repos_now ≡ repos → clock_now ≡ clock → out_now ≡ out
    → second_place (view one_now) (view two_now) (moments clock_now) (repository repos_now) (written out_now) (repos_failed repos_now) (clock_failed clock_now) (out_failed out_now)
    ≡ second_place (view one) (view two) (moments clock) (repository repos) (written out) (repos_failed repos) (clock_failed clock) (out_failed out)
place_same view moments repository written repos_failed clock_failed out_failed one two repos clock out =
    λ i. second_place (view (one i)) (view (two i)) (moments (clock i)) (repository (repos i)) (written (out i)) (repos_failed (repos i)) (clock_failed (clock i)) (out_failed (out i))

pub at_both : {D : Type 0} (P : D → D → Type 0) {one one_now two two_now : D} → one_now ≡ one → two_now ≡ two → P one two → P one_now two_now
at_both P {one_now = one_now} {two = two} first second h = subst (λ y. P one_now y) (sym second) (subst (λ x. P x two) (sym first) h)

pub none_so : {A : Type 0} (status : Status) → MayEndChaining status → status ≡ Status.Usage → A
none_so status may usage = absurd (subst MayEndChaining usage may)

pub usage_for : (words : List (List ℕ)) (given : List ℕ) (status : Status) → AreHost words given → MayEndChaining status → (status ≡ Status.Usage) ↔ ((host : List ℕ) → AreHost words host → ⊥)
usage_for words given status are may = (λ usage host other. subst MayEndChaining usage may, λ none. absurd (none given are))
