-- The laws of tapes.
use Rattle.std.specs.Prelude.{Option, Result, ◌≡◌, ◌≢◌, List, ℕ, [], ◌++◌}
use Rattle.at_cid.specs.Link.{IsBytes}
use Rattle.tape.specs.declared.record.Record.{Record}
use Rattle.tape.specs.declared.fault.TapeFault.{TapeFault}
use Rattle.tape.specs.declared.tape.Tape.{Tape}
use Rattle.tape.specs.Format.{record_bytes, IsRecord}
use Rattle.tape.specs.Shown.{Shown, found, bad_name, too_long, cut, Shows}
use Rattle.tape.specs.Reading.{MayAnswer, IsTold}

-- bytes show one thing at their front
abbrev pub OneThingIsShown : Type 0
OneThingIsShown = (bytes : List ℕ) (a b : Shown) → Shows bytes a → Shows bytes b → a ≡ b

-- whatever follows, what isn't empty and isn't cut shows the same
pub record MoreBytesShowTheSame : Type 0 where
  pub a_record : (bytes host message rest more : List ℕ) → Shows bytes (found host message rest)
      → Shows (bytes ++ more) (found host message (rest ++ more))
  pub a_bad_name : (bytes more : List ℕ) → Shows bytes bad_name → Shows (bytes ++ more) bad_name
  pub a_long_message : (bytes more : List ℕ) → Shows bytes too_long → Shows (bytes ++ more) too_long

-- a record that lacks bytes at its end, but isn't empty, is cut
abbrev pub CutRecordsAreCut : Type 0
CutRecordsAreCut = (host message front more : List ℕ) → IsRecord host message → IsBytes front
    → front ++ more ≡ record_bytes host message → front ≢ [] → more ≢ [] → Shows front cut

-- the input and the limit tell the answer, unless a read failed or memory ran out
abbrev pub OneAnswer : Type 0
OneAnswer = (old : Tape) (before : List ℕ) (a b : Result (Option Record) TapeFault)
    → MayAnswer old before a → MayAnswer old before b → IsTold a → IsTold b → a ≡ b
