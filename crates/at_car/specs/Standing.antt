-- Which bytes a scan stands for.
use Rattle.std.specs.Prelude.{◌≡◌, ℕ, ◌+◌, ◌<◌, ◌≤◌, Bool, true, List, [], ◌∷◌, ◌++◌, length, drop, Option, Some, None, Result, Ok, Err}
use Rattle.std.specs.FinMap as map
use Rattle.at_cid.specs.Order.{key_cmp}
use Rattle.at_car.specs.declared.fault.CarFault.{CarFault}
use Rattle.at_car.specs.Blocks.{BlockMap}
use Rattle.at_car.specs.Car.{car_of}
use Rattle.at_car.specs.Sections.{◌>>=◌, sections_in}
use Rattle.at_car.specs.Merging.{merged}
use Rattle.at_car.specs.Cuts.{is_cut}
use Rattle.at_car.specs.Sifting.{HoldsSifted}
use Rattle.at_car.specs.declared.sifting.Sifted.{Sifted}
use Rattle.at_car.specs.declared.progress.Progress.{Progress}
use Rattle.at_car.specs.declared.progress.Taken.{Taken}

-- the bytes that aren't read yet
abbrev pub left_of : Progress → List ℕ
left_of p = drop p.start p.held

-- the first of the roots
abbrev pub root_of : List (List ℕ) → Option (List ℕ)
root_of [] = None
root_of (r ∷ roots) = Some r

abbrev pub root_in : Option (List (List ℕ)) → Option (List ℕ)
root_in None = None
root_in (Some roots) = root_of roots

-- what a file comes to of which blocks were read, and these bytes are left from a place on
abbrev pub resumed : List (List ℕ) → BlockMap → ℕ
    → List ℕ → Result (List (List ℕ) × BlockMap) CarFault
resumed roots blocks place rest = merged blocks (sections_in (place + length rest) rest)
    >>= λ all. Ok (roots, all)

-- these roots and blocks were read, and what is held is of them; however the bytes go on, reading
-- on gives what reading the whole gives
pub record HasBegun (picks : List ℕ → Bool) (bytes : List ℕ)
    (roots : List (List ℕ)) (blocks : BlockMap) (p : Progress) : Type 0 where
  pub holds : HoldsSifted picks (root_of roots) blocks p.sifted
  pub resumes : (more : List ℕ)
      → car_of (bytes ++ more) ≡ resumed roots blocks p.place (left_of p ++ more)

-- nothing was read
pub record IsFresh (bytes : List ℕ) (p : Progress) : Type 0 where
  pub left : left_of p ≡ bytes
  pub place : p.place ≡ 0
  pub first : p.sifted.first ≡ None
  pub log : (c : List ℕ) → map.find key_cmp c p.sifted.log ≡ None

abbrev pub StandsAt : (List ℕ → Bool) → Option CarFault
    → Option (List (List ℕ)) → Progress → List ℕ → Type 0
StandsAt picks (Some fault) roots p bytes = (more : List ℕ) → car_of (bytes ++ more) ≡ Err fault
StandsAt picks None None p bytes = IsFresh bytes p
StandsAt picks None (Some roots) p bytes = (blocks : BlockMap) × HasBegun picks bytes roots blocks p

-- the progress is that of reading these bytes
abbrev pub StandsFor : (List ℕ → Bool) → Progress → List ℕ → Type 0
StandsFor picks p bytes = StandsAt picks p.fault p.roots p bytes

-- nothing more is read before more has come
abbrev pub IsIdle : Progress → Type 0
IsIdle p = p.fault ≡ None → is_cut (left_of p) ≡ true

-- what was done at the front of the bytes that are left, which begin at a place
abbrev pub Took : (List ℕ → Bool) → Option (List ℕ) → ℕ → List ℕ → Sifted → Sifted → Taken → Type 0
Took picks root place left old new (Taken.Section used) = (0 < used) × (used ≤ length left)
    × ((blocks : BlockMap) → HoldsSifted picks root blocks old → (all : BlockMap)
    × HoldsSifted picks root all new × ((roots : List (List ℕ)) (more : List ℕ) → resumed roots
    blocks place (left ++ more) ≡ resumed roots all (place + used) (drop used left ++ more)))
Took picks root place left old new (Taken.Fault fault) = (roots : List (List ℕ))
    (blocks : BlockMap) (more : List ℕ) → resumed roots blocks place (left ++ more) ≡ Err fault
