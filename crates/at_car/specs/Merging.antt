-- Sections, put one after the other behind the blocks that are there.
use Rattle.std.specs.Prelude.{List, [], ◌∷◌, Result, Ok}
use Rattle.at_car.specs.declared.fault.CarFault.{CarFault}
use Rattle.at_car.specs.Blocks.{BlockMap, kept}
use Rattle.at_car.specs.Sections.{◌>>=◌, Section}

-- the map with the blocks of all the sections
abbrev pub all_kept : BlockMap → List Section → BlockMap
all_kept m [] = m
all_kept m (s ∷ ss) = all_kept (kept m s.0 s.1) ss

-- the same of the sections that were read
abbrev pub merged : BlockMap → Result (List Section) CarFault → Result BlockMap CarFault
merged m read = read >>= λ sections. Ok (all_kept m sections)
