-- The parts that a command is handed, at one moment, as contracts see them (own).
use Rattle.std.specs.Prelude.{◌≡◌, ◌≤◌, ℕ, Bool, List, Option}
use Rattle.at_authority.specs.Panels.{Panel}
use Rattle.relay_disk.specs.Disk.{View}
use Rattle.relay_step.specs.Around.{Around, SameAsked, around_of}
use Rattle.relay_store.specs.Pairs.{of_pair}
use Rattle.gate_log.specs.declared.picking.Side.{Side}
use Rattle.run_base.specs.declared.outside.Outside.{Outside}
use Rattle.run_base.specs.declared.pair.Pair.{Pair}

-- which parts tell what they hold
pub record Tells : Type 0 where
  pub disk : Bool
  pub clock : Bool
  pub repos : Bool
  pub output : Bool

-- How often each part has failed. A part that a command isn't handed counts 0.
pub record Faults : Type 0 where
  pub one : ℕ
  pub two : ℕ
  pub repos : ℕ
  pub clock : ℕ
  pub output : ℕ
  pub input : ℕ
  pub feed : ℕ
  pub door : ℕ
  pub wire : ℕ

-- The two disks; what the judges, the clock and the repositories tell; what is written; and how often each part has failed.
pub record Place : Type 1 where
  pub one : View
  pub two : View
  pub around : Around
  pub written : List ℕ
  pub failed : Faults

-- no count fell
pub record NoneFell (old new : Faults) : Type 0 where
  pub one : old.one ≤ new.one
  pub two : old.two ≤ new.two
  pub repos : old.repos ≤ new.repos
  pub clock : old.clock ≤ new.clock
  pub output : old.output ≤ new.output
  pub input : old.input ≤ new.input
  pub feed : old.feed ≤ new.feed
  pub door : old.door ≤ new.door
  pub wire : old.wire ≤ new.wire

-- the parts beside the disks
pub data Part : Type 0 where
  the_judges : Part
  the_repos : Part
  the_clock : Part
  the_output : Part

-- ---- of the parts one by one

abbrev pub tells_of : Bool → Bool → Bool → Bool → Tells
tells_of disk clock repos output =
    record { disk = disk; clock = clock; repos = repos; output = output }

-- the counts of the parts that each command on a journal is handed
abbrev pub counts : ℕ → ℕ → ℕ → ℕ → ℕ → Faults
counts one two repos clock output = record {
  one = one;
  two = two;
  repos = repos;
  clock = clock;
  output = output;
  input = 0;
  feed = 0;
  door = 0;
  wire = 0;
}

abbrev pub at_place : View → View → Around → List ℕ → Faults → Place
at_place one two around written failed =
    record { one = one; two = two; around = around; written = written; failed = failed }

-- the same, with how often the input has failed, or the feed
abbrev pub with_input : ℕ → Place → Place
with_input n p = record p {
  failed = record p.failed { input = n };
}

abbrev pub with_feed : ℕ → Place → Place
with_feed n p = record p {
  failed = record p.failed { feed = n };
}

-- ---- of the parts as one value

-- the disk of a pair that is on this side
abbrev pub disk_of : {D : Type 0} → Side → Pair D → D
disk_of side p = of_pair side p.one.now p.two.now

abbrev pub faults_of : {D P R C O : Type 0} → (D → View) → (R → ℕ) → (C → ℕ) → (O → ℕ)
    → Outside D P R C O → Faults
faults_of view repos clock output o = counts
    (view o.pair.one.now).faults (view o.pair.two.now).faults
    (repos o.asked.repos.now) (clock o.asked.clock.now) (output o.out.now)

abbrev pub place_of : {D P R C O : Type 0} → (D → View) → (P → Panel) → (C → List ℕ)
    → (R → List ℕ → Option (List ℕ)) → (O → List ℕ) → (R → ℕ) → (C → ℕ) → (O → ℕ)
    → Outside D P R C O → Place
place_of view panel moments repository written repos clock output o =
    at_place (view o.pair.one.now) (view o.pair.two.now)
    (around_of panel moments repository o.asked) (written o.out.now)
    (faults_of view repos clock output o)

abbrev pub stays_of : {D P R C O : Type 0} → Part → Outside D P R C O → Outside D P R C O → Type 0
stays_of the_judges old new = new.asked.judges.now ≡ old.asked.judges.now
stays_of the_repos old new = new.asked.repos.now ≡ old.asked.repos.now
stays_of the_clock old new = new.asked.clock.now ≡ old.asked.clock.now
stays_of the_output old new = new.out.now ≡ old.out.now

-- the disk of this side is the very object that it was
abbrev pub rests_of : {D P R C O : Type 0} → Side → Outside D P R C O → Outside D P R C O → Type 0
rests_of side old new = disk_of side new.pair ≡ disk_of side old.pair

-- the same two disks
pub record SamePair {D : Type 0} (old new : Pair D) : Type 0 where
  pub one : new.one.ghost_name ≡ old.one.ghost_name
  pub two : new.two.ghost_name ≡ old.two.ghost_name

-- The same parts, none of which has a lower count of failures.
pub record IsLater {D P R C O : Type 0} (faults : Outside D P R C O → Faults)
    (old new : Outside D P R C O) : Type 0 where
  pub pair : SamePair old.pair new.pair
  pub asked : SameAsked old.asked new.asked
  pub out : new.out.ghost_name ≡ old.out.ghost_name
  pub counts : NoneFell (faults old) (faults new)
