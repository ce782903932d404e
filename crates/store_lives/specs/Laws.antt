-- What holds of the journals of a machine's life.
use Rattle.std.specs.Prelude.{◌≡◌, ◌≢◌, ℕ, Bool, List, [], ◌∷◌, ◌++◌, Option, Some, None}
use Rattle.relay_disk.specs.Disk.{View}
use Rattle.relay_row.specs.declared.row.Row.{Row}
use Rattle.cut_law.specs.Lives.{ComesFrom}
use Rattle.relay_store.specs.Store.{StoreState, IsOf, Keeps}
use Rattle.relay_store.specs.declared.fault.StoreFault.{StoreFault}
use Rattle.store_lives.specs.Lives.{Machine, Calls, LivesFrom, disk_of, rows_answered}

module _ {D : Type 0} (view : D → View) where
  -- the store, where this one is open there, has this journal
  abbrev pub HasIn : List Row → Option StoreState → Machine D → Type 0
  HasIn J None m = ⊥
  HasIn J (Some s) m = Keeps J s (view (disk_of s.side m))

  -- a store is open there, and has it
  abbrev pub Has : List Row → Machine D → Type 0
  Has J m = HasIn J m.store m

  -- the journal of each of these machines' stores, where one is open, comes from this one by rows
  -- that were added and by cuts at numbers that pass
  abbrev pub EachComesFrom : (ℕ → Bool) → List Row → List (Machine D) → Type 0
  EachComesFrom passes J [] = Unit {0}
  EachComesFrom passes J (m ∷ others) = ((K : List Row) → Has K m → ComesFrom passes J K)
      × EachComesFrom passes J others

  -- from the journal of each machine's store, where one is open, comes that of each later one
  abbrev pub AllCome : (ℕ → Bool) → Machine D → List (Machine D) → Type 0
  AllCome passes m [] = Unit {0}
  AllCome passes m (next ∷ others) = ((J : List Row) → Has J m
      → EachComesFrom passes J (next ∷ others)) × AllCome passes next others

  -- From a pair of disks and no store on, over every list of calls, failed calls, cuts, openings
  -- and crashes, each journal that an open store has comes from each earlier one by rows added at
  -- its end and by cuts; and where all cuts of the life are at numbers that pass a test, so are
  -- these.
  abbrev pub LaterJournalsCome : Bool → Type 0
  LaterJournalsCome tells = (passes : ℕ → Bool) (m : Machine D) (others : List (Machine D))
      → m.store ≡ None → LivesFrom view tells passes m others → AllCome passes m others

  -- A call that answers, with any fault but the disk's, leaves the store open, and its journal has
  -- the rows of all that was answered behind the one before.
  abbrev pub AnswersAreKept : Bool → Type 0
  AnswersAreKept tells = (s : StoreState) (old now : Machine D) (calls : Calls view tells s old now)
      (J : List Row) (of : IsOf J s.core) → calls.fault ≢ Some StoreFault.Disk
      → HasIn J (Some s) old
      → Has (J ++ rows_answered view tells J s calls.s_now (disk_of s.side old)
      (disk_of s.side now) calls.fault of calls.call) now

  -- The one machine comes of the other by a call of its store that answered, with any fault but the
  -- disk's, and these are the rows of all that it answered behind the journal J.
  pub record HasAnswered (tells : Bool) (J rows : List Row) (m next : Machine D) : Type 0 where
    pub store : StoreState
    pub open_there : m.store ≡ Some store
    pub calls : Calls view tells store m next
    pub answers : calls.fault ≢ Some StoreFault.Disk
    pub of : IsOf J store.core
    pub rows_are : rows ≡ rows_answered view tells J store calls.s_now (disk_of store.side m)
        (disk_of store.side next) calls.fault of calls.call

  -- each later journal comes from that of a step with what was answered there behind it
  abbrev pub AnswersStand : Bool → (ℕ → Bool) → Machine D → List (Machine D) → Type 0
  AnswersStand tells passes m [] = Unit {0}
  AnswersStand tells passes m (next ∷ others) =
      ((J rows : List Row) → HasAnswered tells J rows m next → Has J m
      → EachComesFrom passes (J ++ rows) (next ∷ others)) × AnswersStand tells passes next others

  -- From a pair of disks and no store on, over every list of calls, failed calls, cuts, openings
  -- and crashes, each later journal comes from one with the rows of all that was answered.
  abbrev pub AnswersStay : Bool → Type 0
  AnswersStay tells = (passes : ℕ → Bool) (m : Machine D) (others : List (Machine D))
      → m.store ≡ None → LivesFrom view tells passes m others → AnswersStand tells passes m others
