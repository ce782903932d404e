-- A command that is handed its parts as one value, among all the parts of a run.
use Rattle.std.proofs.Common.{◌≡◌, ◌≤◌, ℕ, List, Option, arith, subst, sym}
use Rattle.at_authority.specs.Panels.{IsSpent, Panel}
use Rattle.at_cid.specs.Counts.{Rose}
use Rattle.read_run.specs.AtWire.{AtWire, with_wire}
use Rattle.relay_disk.specs.Disk.{View}
use Rattle.relay_row.specs.declared.row.Row.{Row}
use Rattle.relay_run.specs.Cutting.{LeavesOpened, WasCut, cut_deed}
use Rattle.relay_step.specs.Around.{Around, around}
use Rattle.store_cut.specs.declared.cutting.CutDone.{CutDone}
use Rattle.run_base.specs.Deeds.{Came, Deed, OnDisks, WasOpened, answered, in_vain, unopened}
use Rattle.run_base.specs.Ends.{Caused, Told as EndTold}
use Rattle.run_base.specs.Place.{NoneFell, Place as Parts, Tells, at_place, place_of, with_feed, with_input}
use Rattle.run_base.specs.declared.outside.Outside.{Outside}
use Rattle.run_base.specs.declared.status.Status.{Status}
use Rattle.read_run.specs.AtDoor.{AtDoor, with_door}
use Rattle.read_run.specs.Ends.{IsOfDisks, ReadEnded}
use Rattle.take_run.specs.Ends.{FaultsTold, MayHideInput}
use Rattle.relay_cli.proofs.Telling.{replay_hides}
use Rattle.relay_cli.specs.Ran.{HasCauses, Ran, Told}
use Rattle.relay_cli.specs.Runs.{IsUntouched, OutsideTells, Place, faults, handed, place, with_counts, with_disks}
use Rattle.relay_cli.specs.declared.command.Command.{Command}

-- the input, the feed, the door and the wire failed no more often
pub record UncountedKept (old new : Parts) : Type 0 where
  pub input : new.failed.input ≡ old.failed.input
  pub feed : new.failed.feed ≡ old.failed.feed
  pub door : new.failed.door ≡ old.failed.door
  pub wire : new.failed.wire ≡ old.failed.wire

-- the parts of a run, of the objects that it is handed
abbrev pub at_parts : {D P R C O : Type 0} → (D → View) → (P → Panel) → (C → List ℕ) → (R → List ℕ → Option (List ℕ)) → (O → List ℕ) → (R → ℕ) → (C → ℕ) → (O → ℕ)
    → ℕ → ℕ → ℕ → ℕ → D → D → P → R → C → O → Parts
at_parts view panel moments repository written repos_failed clock_failed out_failed input feed door wire one two judges repos clock out =
    at_place (view one) (view two) (around (panel judges) (moments clock) (repository repos)) (written out)
    (faults (view one).faults (view two).faults (repos_failed repos) (clock_failed clock) (out_failed out) input feed door wire)

-- they are the same where the objects are
pub parts_same : {D P R C O : Type 0} (view : D → View) (panel : P → Panel) (moments : C → List ℕ) (repository : R → List ℕ → Option (List ℕ)) (written : O → List ℕ) (repos_failed : R → ℕ) (clock_failed : C → ℕ) (out_failed : O → ℕ)
    (input feed door wire : ℕ) {one one_now two two_now : D} {judges judges_now : P} {repos repos_now : R} {clock clock_now : C} {out out_now : O}
    → one_now ≡ one → two_now ≡ two → judges_now ≡ judges → repos_now ≡ repos → clock_now ≡ clock → out_now ≡ out
    → at_parts view panel moments repository written repos_failed clock_failed out_failed input feed door wire one_now two_now judges_now repos_now clock_now out_now
    ≡ at_parts view panel moments repository written repos_failed clock_failed out_failed input feed door wire one two judges repos clock out
parts_same view panel moments repository written repos_failed clock_failed out_failed input feed door wire one two judges repos clock out =
    λ i. at_parts view panel moments repository written repos_failed clock_failed out_failed input feed door wire (one i) (two i) (judges i) (repos i) (clock i) (out i)

-- and what is promised of them
pub ran_at : {D : Type 0} (view : D → View) (t : OutsideTells) (old : Place) (new now : Parts) (left : List ℕ) (given : List ℕ → ℕ → List (List ℕ)) (coming : List (List ℕ)) (door : AtDoor) (wire : AtWire) (status : Status) (command : Command)
    → now ≡ new → Ran view t old (place new left given coming door wire) status command → Ran view t old (place now left given coming door wire) status command
ran_at view t old new now left given coming door wire status command same ran =
    subst (λ (p : Parts). Ran view t old (place p left given coming door wire) status command) (sym same) ran

pub causes_at : (status : Status) (old new now : Parts) → now ≡ new → HasCauses status old new → HasCauses status old now
causes_at status old new now same causes = subst (λ (p : Parts). HasCauses status old p) (sym same) causes

-- all but the disks is as it was
pub idle : (old new : Place) → new.parts.around ≡ old.parts.around → new.parts.written ≡ old.parts.written
    → new.parts.failed.repos ≡ old.parts.failed.repos → new.parts.failed.clock ≡ old.parts.failed.clock → new.parts.failed.output ≡ old.parts.failed.output
    → new.parts.failed.input ≡ old.parts.failed.input → new.parts.failed.feed ≡ old.parts.failed.feed → new.parts.failed.door ≡ old.parts.failed.door → new.parts.failed.wire ≡ old.parts.failed.wire
    → new.left ≡ old.left → new.given ≡ old.given → new.coming ≡ old.coming → new.door ≡ old.door → new.wire ≡ old.wire → IsUntouched old new
idle old new around written repos clock output input feed door wire left given coming turns exchanges = record {
  around = around;
  written = written;
  failed = λ i. faults new.parts.failed.one new.parts.failed.two (repos i) (clock i) (output i) (input i) (feed i) (door i) (wire i);
  left = left;
  given = given;
  coming = coming;
  door = turns;
  wire = exchanges;
}

-- ---- which failures are told

pub told_handed : (command : Command) (old new : Parts) (status : Status) → UncountedKept old new → EndTold status (handed old) (handed new) → Told command old new status
told_handed command old new status same told = record {
  disks = told.disks;
  feed = λ not. same.feed;
  door = λ not. same.door;
  wire = λ not. same.wire;
  clock = λ hidden. told.clock;
  repos = λ hidden. told.repos;
  unspent = λ hidden. told.unspent;
  input = λ hidden not. same.input;
  output = λ hidden. told.output;
}

-- of a tape, and of a feed
abbrev pub TapeTold : Parts → Parts → Status → Type 0
TapeTold old new status = FaultsTold (MayHideInput status) (with_input old.failed.input (handed old)) (with_input new.failed.input (handed new)) status

abbrev pub FeedTold : Parts → Parts → Status → Type 0
FeedTold old new status = FaultsTold ⊥ (with_feed old.failed.feed (handed old)) (with_feed new.failed.feed (handed new)) status

pub told_tape : (old new : Parts) (status : Status) → new.failed.feed ≡ old.failed.feed → new.failed.door ≡ old.failed.door → new.failed.wire ≡ old.failed.wire → TapeTold old new status → Told Command.Ingest old new status
told_tape old new status feed door wire ends = record {
  disks = ends.told.disks;
  feed = λ not. feed;
  door = λ not. door;
  wire = λ not. wire;
  clock = ends.told.clock;
  repos = ends.told.repos;
  unspent = ends.told.unspent;
  input = ends.told.input;
  output = λ hidden. ends.told.output;
}

pub told_feed : (host : List ℕ) (count : ℕ) (old new : Parts) (status : Status) → new.failed.input ≡ old.failed.input → new.failed.door ≡ old.failed.door → new.failed.wire ≡ old.failed.wire → FeedTold old new status → Told (Command.Follow host count) old new status
told_feed host count old new status input door wire ends = record {
  disks = ends.told.disks;
  feed = ends.told.feed;
  door = λ not. door;
  wire = λ not. wire;
  clock = ends.told.clock;
  repos = ends.told.repos;
  unspent = ends.told.unspent;
  input = λ hidden not. input;
  output = λ hidden. ends.told.output;
}

-- of guests at the door, of requests of the wire, and of a replay, whose output may have failed too where the disks ended it
pub told_door : (count : ℕ) (old new : Parts) (status : Status) → new.failed.input ≡ old.failed.input → new.failed.feed ≡ old.failed.feed → new.failed.wire ≡ old.failed.wire
    → EndTold status (with_door old.failed.door (handed old)) (with_door new.failed.door (handed new)) → Told (Command.Serve count) old new status
told_door count old new status input feed wire told = record {
  disks = told.disks;
  feed = λ not. feed;
  door = told.door;
  wire = λ not. wire;
  clock = λ hidden. told.clock;
  repos = λ hidden. told.repos;
  unspent = λ hidden. told.unspent;
  input = λ hidden not. input;
  output = λ hidden. told.output;
}

pub told_wire : (count : ℕ) (old new : Parts) (status : Status) → new.failed.input ≡ old.failed.input → new.failed.feed ≡ old.failed.feed → new.failed.door ≡ old.failed.door
    → EndTold status (with_wire old.failed.wire (handed old)) (with_wire new.failed.wire (handed new)) → Told (Command.Query count) old new status
told_wire count old new status input feed door told = record {
  disks = told.disks;
  feed = λ not. feed;
  door = λ not. door;
  wire = told.wire;
  clock = λ hidden. told.clock;
  repos = λ hidden. told.repos;
  unspent = λ hidden. told.unspent;
  input = λ hidden not. input;
  output = λ hidden. told.output;
}

pub told_replay : (t : Tells) (cursor : ℕ) (old new : Parts) (status : Status) → UncountedKept old new → new.failed.clock ≡ old.failed.clock → new.failed.repos ≡ old.failed.repos → new.around ≡ old.around
    → ReadEnded (IsOfDisks status) t (handed old) (handed new) status → Told (Command.Replay cursor) old new status
told_replay t cursor old new status same clock repos around ended = record {
  disks = ended.disks;
  feed = λ not. same.feed;
  door = λ not. same.door;
  wire = λ not. same.wire;
  clock = λ hidden not. clock;
  repos = λ hidden not. repos;
  unspent = λ hidden not name s. subst (λ (a : Around). IsSpent (a.panel name)) around s;
  input = λ hidden not. same.input;
  output = λ hidden. (ended.told (λ of. hidden (replay_hides cursor status of))).output;
}

-- ---- and which of them rose

none_rose : Rose 0 0 → ⊥
none_rose rose = omega (arith, rose)

-- of the parts that are handed as one value, with the counts of the others
abbrev Counting : Status → ℕ → ℕ → ℕ → ℕ → ℕ → ℕ → ℕ → ℕ → Parts → Parts → Type 0
Counting status input input_now feed feed_now door door_now wire wire_now old new =
    Caused status (with_counts input feed door wire (handed old)) (with_counts input_now feed_now door_now wire_now (handed new))

caused_counting : (status : Status) (old new : Parts) (input input_now feed feed_now door door_now wire wire_now : ℕ)
    → (Rose input input_now → Rose old.failed.input new.failed.input) → (Rose feed feed_now → Rose old.failed.feed new.failed.feed)
    → (Rose door door_now → Rose old.failed.door new.failed.door) → (Rose wire wire_now → Rose old.failed.wire new.failed.wire)
    → Counting status input input_now feed feed_now door door_now wire wire_now old new → Caused status old new
caused_counting Status.Done old new a b c d e f g h read came met sent caused = caused
caused_counting (Status.BadTape place) old new a b c d e f g h read came met sent caused = caused
caused_counting Status.Usage old new a b c d e f g h read came met sent caused = caused
caused_counting Status.ReadFault old new a b c d e f g h read came met sent caused = read caused
caused_counting Status.WriteFault old new a b c d e f g h read came met sent caused = caused
caused_counting Status.Disk old new a b c d e f g h read came met sent caused = caused
caused_counting Status.Authority old new a b c d e f g h read came met sent caused = caused
caused_counting Status.Repos old new a b c d e f g h read came met sent caused = caused
caused_counting Status.Feed old new a b c d e f g h read came met sent caused = came caused
caused_counting Status.Door old new a b c d e f g h read came met sent caused = met caused
caused_counting (Status.BadLog place) old new a b c d e f g h read came met sent caused = caused
caused_counting (Status.Full end) old new a b c d e f g h read came met sent caused = caused
caused_counting Status.SeqEnd old new a b c d e f g h read came met sent caused = caused
caused_counting Status.TooLong old new a b c d e f g h read came met sent caused = caused
caused_counting Status.Memory old new a b c d e f g h read came met sent caused = caused
caused_counting (Status.Refused code) old new a b c d e f g h read came met sent caused = caused
caused_counting Status.Clock old new a b c d e f g h read came met sent caused = caused
caused_counting (Status.BadStream place) old new a b c d e f g h read came met sent caused = caused
caused_counting Status.Wire old new a b c d e f g h read came met sent caused = sent caused

none_fell : (old new : Parts) → NoneFell (handed old).failed (handed new).failed → old.failed.input ≤ new.failed.input → old.failed.feed ≤ new.failed.feed
    → old.failed.door ≤ new.failed.door → old.failed.wire ≤ new.failed.wire → NoneFell old.failed new.failed
none_fell old new kept input feed door wire = record {
  one = kept.one;
  two = kept.two;
  repos = kept.repos;
  clock = kept.clock;
  output = kept.output;
  input = input;
  feed = feed;
  door = door;
  wire = wire;
}

none : {A : Type 0} → Rose 0 0 → A
none rose = absurd (none_rose rose)

kept_of : (before now : ℕ) → now ≡ before → before ≤ now
kept_of before now same = omega (arith, same)

pub causes_handed : (status : Status) (old new : Parts) → UncountedKept old new → Caused status (handed old) (handed new) → NoneFell (handed old).failed (handed new).failed → HasCauses status old new
causes_handed status old new same caused kept = (
  caused_counting status old new 0 0 0 0 0 0 0 0 none none none none caused,
  none_fell old new kept (kept_of _ _ same.input) (kept_of _ _ same.feed) (kept_of _ _ same.door) (kept_of _ _ same.wire),
)

pub causes_tape : (status : Status) (old new : Parts) → new.failed.feed ≡ old.failed.feed → new.failed.door ≡ old.failed.door → new.failed.wire ≡ old.failed.wire → TapeTold old new status → NoneFell (handed old).failed (handed new).failed → old.failed.input ≤ new.failed.input
    → HasCauses status old new
causes_tape status old new feed door wire ends kept input = (
  caused_counting status old new old.failed.input new.failed.input 0 0 0 0 0 0 (λ rose. rose) none none none ends.caused,
  none_fell old new kept input (kept_of _ _ feed) (kept_of _ _ door) (kept_of _ _ wire),
)

pub causes_feed : (status : Status) (old new : Parts) → new.failed.input ≡ old.failed.input → new.failed.door ≡ old.failed.door → new.failed.wire ≡ old.failed.wire → FeedTold old new status → NoneFell (handed old).failed (handed new).failed → old.failed.feed ≤ new.failed.feed
    → HasCauses status old new
causes_feed status old new input door wire ends kept feed = (
  caused_counting status old new 0 0 old.failed.feed new.failed.feed 0 0 0 0 none (λ rose. rose) none none ends.caused,
  none_fell old new kept (kept_of _ _ input) feed (kept_of _ _ door) (kept_of _ _ wire),
)

pub causes_door : (status : Status) (old new : Parts) → new.failed.input ≡ old.failed.input → new.failed.feed ≡ old.failed.feed → new.failed.wire ≡ old.failed.wire
    → Caused status (with_door old.failed.door (handed old)) (with_door new.failed.door (handed new)) → NoneFell (handed old).failed (handed new).failed → old.failed.door ≤ new.failed.door
    → HasCauses status old new
causes_door status old new input feed wire caused kept door = (
  caused_counting status old new 0 0 0 0 old.failed.door new.failed.door 0 0 none none (λ rose. rose) none caused,
  none_fell old new kept (kept_of _ _ input) (kept_of _ _ feed) door (kept_of _ _ wire),
)

pub causes_wire : (status : Status) (old new : Parts) → new.failed.input ≡ old.failed.input → new.failed.feed ≡ old.failed.feed → new.failed.door ≡ old.failed.door
    → Caused status (with_wire old.failed.wire (handed old)) (with_wire new.failed.wire (handed new)) → NoneFell (handed old).failed (handed new).failed → old.failed.wire ≤ new.failed.wire
    → HasCauses status old new
causes_wire status old new input feed door caused kept wire = (
  caused_counting status old new 0 0 0 0 0 0 old.failed.wire new.failed.wire none none none (λ rose. rose) caused,
  none_fell old new kept (kept_of _ _ input) (kept_of _ _ feed) (kept_of _ _ door) wire,
)

-- the same deed, whose way is another one
on_way : (t : Tells) (most : ℕ) (J : List Row) (opened : Type 0) (d : Deed) (way : View → View → View → View → Type 0) (old new : Parts) (status : Status)
    → (d.way old.one new.one old.two new.two → way old.one new.one old.two new.two) → OnDisks t most J opened d old new status → OnDisks t most J opened (record d { way = way }) old new status
on_way t most J opened d way old new status turn on = record {
  stands = on.stands;
  crashes = λ stood. turn (on.crashes stood);
  room = on.room;
  journal = on.journal;
  sound = on.sound;
  faithful = on.faithful;
  given = on.given;
  written = on.written;
}

-- a cut that passes through these parts passes through two disks
pub cut_seen : {D P R C O : Type 0} (view : D → View) (panel : P → Panel) (moments : C → List ℕ) (repository : R → List ℕ → Option (List ℕ)) (written : O → List ℕ) (repos : R → ℕ) (clock : C → ℕ) (output : O → ℕ)
    (p : Parts) (t : Tells) (most : ℕ) (J : List Row) (c : ℕ) (old new : Parts) (status : Status)
    → WasCut (place_of view panel moments repository written repos clock output) t most J c old new status → WasCut (with_disks view p) t most J c old new status
cut_seen {D} {P} {R} {C} {O} view panel moments repository written repos clock output p t most J c old new status was =
    record { came = was.came; is = was.is; does = seen was.came was.does }
  where
    at : Outside D P R C O → Parts
    at = place_of view panel moments repository written repos clock output

    crash : (Q : List ℕ → List ℕ → Type 0) → LeavesOpened at J Q old.one new.one old.two new.two → LeavesOpened (with_disks view p) J Q old.one new.one old.two new.two
    crash Q leaves = record {
      mid = (leaves.mid.pair.one.now, leaves.mid.pair.two.now);
      opening = leaves.opening;
      behind = leaves.behind;
      first = leaves.first;
      second = leaves.second;
    }

    seen : (came : Came CutDone) → OnDisks t most J (WasOpened came) (cut_deed at J c came) old new status → OnDisks t most J (WasOpened came) (cut_deed (with_disks view p) J c came) old new status
    seen unopened on = on_way t most J _ _ _ old new status (crash _) on
    seen in_vain on = on_way t most J _ _ _ old new status (crash _) on
    seen (answered (CutDone.Refused why)) on = on_way t most J _ _ _ old new status (crash _) on
    seen (answered (CutDone.Cut oldest last)) on = on_way t most J _ _ _ old new status (crash _) on
