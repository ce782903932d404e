-- A journal that is written anew on the other disk of the pair, cut up to a number (own).
use Rattle.std.specs.Prelude.{◌≡◌, ◌≤◌, ◌<◌, ◌+◌, ℕ, Bool, List, length, map, IsTrue}
use Rattle.event_window.specs.Window.{IsLastUpto}
use Rattle.event_window.specs.declared.place.Place.{Place}
use Rattle.relay_disk.specs.Disk.{View, Goes, Same}
use Rattle.relay_disk.specs.Moments.{PairLeavesOnly, TimeGoesOn}
use Rattle.gate_log.specs.Beside.{LeavesLive}
use Rattle.gate_log.specs.Image.{front, generation}
use Rattle.gate_log.specs.Log.{HoldsBodies as HasBodies}
use Rattle.gate_log.specs.declared.format.Format.{Format}
use Rattle.gate_log.specs.declared.picking.Side.{Side}
use Rattle.relay_row.specs.Folds.{last_seq}
use Rattle.relay_row.specs.declared.row.Row.{Row}
use Rattle.relay_core.specs.declared.journal_state.Core.{Core}
use Rattle.cut_law.specs.Cut.{cut}
use Rattle.relay_store.specs.Journals.{bytes_of}
use Rattle.relay_store.specs.Store.{Keeps, StoreState, seen}
use Rattle.store_cut.specs.Cutting.{IsEitherBeside, kept_above}
use Rattle.store_cut.specs.Rereading.{IsOfSomeCut, StillHolds}
use Rattle.store_cut.specs.Rewriting.{RewriteHasNoRoom, singles}
use Rattle.store_cut.specs.declared.cutting.Anew.{Anew}

-- This is so of each journal that the store has on its disk, and of each number up to which this
-- is the last place of an event.
abbrev pub OfCut : Bool → StoreState → View → Place → (List Row → ℕ → Type 0) → Type 0
OfCut tells s v last P = IsTrue tells → (J : List Row) (c : ℕ) → Keeps J s v
    → IsLastUpto c last s.window → P J c

-- What is known has the last number that was known, and of the events' numbers those above this one.
abbrev pub HasKept : ℕ → StoreState → Core → List Place → Type 0
HasKept seq s core places =
    (map (λ (p : Place). p.seq) places ≡ kept_above seq s.window) × (core.last ≡ s.core.last)

-- the format of the log that is written anew
abbrev pub next_format : StoreState → Format
next_format s = Format.Two (generation s.log.format + 1)

-- The journal of the store was written anew, cut at the last place of the numbers up to one: this is
-- its log, and what is known of it.
pub record IsAnew (tells : Bool) (s : StoreState) (v : View) (last : Place) (seq : ℕ) (anew : Anew)
    (w : View) : Type 0 where
  pub format : anew.log.format ≡ next_format s
  pub most : anew.log.most ≡ s.log.most
  pub opened : IsTrue anew.log.is_open
  pub room : OfCut tells s v last (λ J c. anew.log.end < anew.log.most)
  pub bodies : OfCut tells s v last (λ J c. HasBodies (bytes_of (singles (cut J c))) anew.log w)
  pub known : IsOfSomeCut anew.core
  pub numbers : HasKept seq s anew.core anew.window.places
  pub keeps : OfCut tells s v last (λ J c. c ≤ last_seq J → (side : Side)
      → Keeps (cut J c) (seen anew.log side anew.core anew.window.places) w)

-- What that leaves of the two disks, whatever comes of it: the one that the store is on was only
-- read, and a crash leaves an image of the journal or of the cut one.
pub record LeavesEither (tells : Bool) (s : StoreState) (last : Place) (v v_now w w_now : View)
    : Type 0 where
  pub moments : OfCut tells s v last (λ J c. c ≤ last_seq J → (side : Side) → LeavesLive side v w
      → PairLeavesOnly (IsEitherBeside side J (cut J c)) v v_now w w_now)
  pub time : IsTrue tells → TimeGoesOn w w_now
  pub goes : Goes Same v v_now
  pub holds : StillHolds tells s.log v v_now

-- a row of the cut journal has no room in the log that is written anew, and would end there
abbrev pub CutHasNoRoom : StoreState → List Row → ℕ → ℕ → Type 0
CutHasNoRoom s J c e = RewriteHasNoRoom (length (front (next_format s))) s.log.most (cut J c) e
