-- Groups, and the parts of them that batches take.
use Rattle.std.proofs.Common.{◌≡◌, ℕ, ◌+◌, ◌-◌, ◌≤◌, List, [], ◌∷◌, ◌++◌, length, take, drop, suc, zero, Result, Ok, Err, refl, ap, ◌∙◌, sym, subst, arith, length-take}
use Rattle.std.specs.Prelude.{IfOk}
use Rattle.std.specs.Prelude.{◌&&◌}
use Rattle.std.specs.List.{list_all}
use Rattle.std.proofs.lemmas.Bool.{and_parts}
use Rattle.std.proofs.lemmas.List.{take-append-drop, take-take}
use Rattle.std.proofs.Math.Seq.{take-add}
use Rattle.at_syntax.specs.Host.{is_host}
use Rattle.relay_disk.specs.Disk.{View, IsDisk}
use Rattle.gate_log.specs.Pick.{other_side, view_of_side}
use Rattle.gate_log.specs.declared.picking.Side.{Side}
use Rattle.gate_log.specs.declared.picking.Side.TheVariants.{One, Two}
use Rattle.relay_row.specs.declared.row.Row.{Row}
use Rattle.relay_store.specs.Pairs.{of_pair}
use Rattle.relay_store.specs.Store.{IsOf}
use Rattle.store_take.specs.Taking.{AreOfHosts}
use Rattle.store_take.specs.declared.message.Message.{Message}
use Rattle.run_base.specs.Place.{Tells}
use Rattle.run_base.specs.declared.status.Status.{Status}
use Rattle.take_run.specs.Going.{Going, NothingFailed, PartEnded, Point, Stopped, TookSome}
use Rattle.take_run.proofs.Joining.{going_more, going_stops, of_going, stops_longer}
use Rattle.take_run.proofs.Living.{rest_whole}

pub hosts_front : (group : List Message) (n : ℕ) → AreOfHosts group → AreOfHosts (take n group)
hosts_front group zero all = refl
hosts_front [] (suc n) all = refl
hosts_front (m ∷ group) (suc n) all =
    let both = and_parts (is_host m.host) (list_all (λ (x : Message). is_host x.host) group) all in
    ap (λ b. b && list_all (λ (x : Message). is_host x.host) (take n group)) both.0 ∙ hosts_front group n both.1

pub hosts_rest : (group : List Message) (n : ℕ) → AreOfHosts group → AreOfHosts (drop n group)
hosts_rest group zero all = all
hosts_rest [] (suc n) all = refl
hosts_rest (m ∷ group) (suc n) all = hosts_rest group n (and_parts (is_host m.host) (list_all (λ (x : Message). is_host x.host) group) all).1

pub hosts_left : (group : List Message) (done : ℕ) → AreOfHosts group → AreOfHosts (take (length group - done) (drop done group))
hosts_left group done all = subst AreOfHosts (sym (rest_whole group done)) (hosts_rest group done all)

pub taken_more : (group : List Message) (done n : ℕ) → take (done + n) group ≡ take done group ++ take n (take (length group - done) (drop done group))
taken_more group done n = take-add done n group ∙ ap (λ (l : List Message). take done group ++ take n l) (sym (rest_whole group done))

pub all_left : (group : List Message) (done : ℕ) → group ≡ take done group ++ take (length group - done) (drop done group)
all_left group done = sym (take-append-drop done group) ∙ ap (λ (l : List Message). take done group ++ l) (sym (rest_whole group done))

module _ (t : Tells) (J : List Row) (xs ys whole : List Message) (a b c : Point) (is : whole ≡ xs ++ ys) (one : Going t J xs a b) where
  -- a run goes on by a part that can be told of any journal
  pub goes_on : ((K : List Row) → IsOf K b.store.core → Going t K ys b c) → Going t J whole a c
  goes_on recorded = subst (λ (l : List Message). Going t J l a c) (sym is) (going_more t J xs a b one ys c (recorded (J ++ _) (of_going t J xs a b one)))

  pub stops_on : NothingFailed a.place b.place → (status : Status) → ((K : List Row) → IsOf K b.store.core → Stopped t K ys b c status) → Stopped t J whole a c status
  stops_on none status stopped = subst (λ (l : List Message). Stopped t J l a c status) (sym is) (going_stops t J xs ys a b one none c status (stopped (J ++ _) (of_going t J xs a b one)))

-- of what was taken in front of a longer group
pub took_longer : (t : Tells) (J : List Row) (group : List Message) (live : ℕ) (a c : Point) (result : Result ℕ Status) → IfOk result (λ n. n ≤ length (take live group)) → PartEnded a.place c.place result → TookSome t J (take live group) a c result → TookSome t J group a c result
took_longer t J group live a c (Ok n) few part taken =
    subst (λ (l : List Message). Going t J l a c) (take-take n live group (omega (arith, few, length-take live group))) taken
took_longer t J group live a c (Err status) few part taken = stops_longer t J (take live group) (drop live group) group a c status part.0 (sym (take-append-drop live group)) taken

-- the disk of a side is one
pub live_disk : {D : Type 0} (view : D → View) (is_disk : (x : D) → IsDisk (view x)) (side : Side) (a b : D) → IsDisk (view_of_side side (view a) (view b))
live_disk view is_disk One a b = is_disk a
live_disk view is_disk Two a b = is_disk b

-- the disk beside is what it was
pub beside_on : (side now : Side) → now ≡ side → {D : Type 0} (a b c d e f : D) → of_pair (other_side side) c d ≡ of_pair (other_side side) a b → of_pair (other_side now) e f ≡ of_pair (other_side now) c d → of_pair (other_side side) e f ≡ of_pair (other_side side) a b
beside_on side now same a b c d e f one two = subst (λ (s : Side). of_pair (other_side s) e f ≡ of_pair (other_side s) c d) same two ∙ one
