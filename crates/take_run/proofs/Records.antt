-- Messages as records of a tape, and groups of them.
use Rattle.std.proofs.Common.{◌≡◌, ◌≢◌, ◌≤◌, ℕ, ◌+◌, List, [], ◌∷◌, ◌++◌, length, inl, inr, refl, sym, ap, subst, ◌∙◌, arith, append_assoc, length-append}
use Rattle.std.specs.Prelude.{Ok, None, Err, ◌&&◌}
use Rattle.std.specs.List.{list_all}
use Rattle.std.proofs.lemmas.List.{append-nil, length-take, length-drop}
use Rattle.at_cid.specs.Counts.{Rose}
use Rattle.at_syntax.specs.Host.{is_host}
use Rattle.store_take.specs.Taking.{AreOfHosts}
use Rattle.store_take.specs.declared.message.Message.{Message}
use Rattle.tape.specs.Format.{record_bytes}
use Rattle.tape.specs.Reading.{coming, held, taken, IsNext, IsPlaced}
use Rattle.tape.specs.Shown.{Shows, cut}
use Rattle.tape.specs.declared.fault.TapeFault.{TapeFault}
use Rattle.tape.specs.declared.tape.Tape.{Tape}
use Rattle.tape.proofs.Lawful.{more_bad, more_long}
use Rattle.take_run.specs.Groups.{AreRead, IsGroup, ReadFailed, bytes_together}
use Rattle.take_run.specs.Tapes.{AreRecords, encoded_records}
use Rattle.take_run.specs.declared.group.Rest.{Rest}

pub encoded_joined : (xs ys : List Message) → encoded_records (xs ++ ys) ≡ encoded_records xs ++ encoded_records ys
encoded_joined [] ys = refl
encoded_joined (m ∷ xs) ys = ap (λ (l : List ℕ). record_bytes m.host m.bytes ++ l) (encoded_joined xs ys) ∙ sym (append_assoc (record_bytes m.host m.bytes) (encoded_records xs) (encoded_records ys))

pub length_joined : (xs ys : List Message) → length (encoded_records (xs ++ ys)) ≡ length (encoded_records xs) + length (encoded_records ys)
length_joined xs ys = ap length (encoded_joined xs ys) ∙ length-append (encoded_records xs) (encoded_records ys)

pub records_joined : (xs ys : List Message) → AreRecords xs → AreRecords ys → AreRecords (xs ++ ys)
records_joined [] ys one two = two
records_joined (m ∷ xs) ys one two = (one.0, one.1, records_joined xs ys one.2 two)

pub records_front : (xs ys : List Message) → AreRecords (xs ++ ys) → AreRecords xs
records_front [] ys all = tt
records_front (m ∷ xs) ys all = (all.0, all.1, records_front xs ys all.2)

pub of_hosts : (xs : List Message) → AreRecords xs → AreOfHosts xs
of_hosts [] all = refl
of_hosts (m ∷ xs) all = ap (λ b. b && list_all (λ (x : Message). is_host x.host) xs) all.0.names ∙ of_hosts xs all.2

-- a record has a byte at least
pub as_long : (xs : List Message) → length xs ≤ length (encoded_records xs)
as_long [] = omega arith
as_long (m ∷ xs) = omega (arith, as_long xs, length-append (record_bytes m.host m.bytes) (encoded_records xs))

-- one more record of a group
encoded_one : (xs : List Message) (m : Message) → encoded_records (xs ++ m ∷ []) ≡ encoded_records xs ++ record_bytes m.host m.bytes
encoded_one xs m = encoded_joined xs (m ∷ []) ∙ ap (λ (l : List ℕ). encoded_records xs ++ l) (append-nil (record_bytes m.host m.bytes))

pub read_one : (old : Tape) (before : List ℕ) (xs : List Message) (m : Message) (mid rest : List ℕ) → AreRead old before xs mid → mid ≡ record_bytes m.host m.bytes ++ rest → AreRead old before (xs ++ m ∷ []) rest
read_one old before xs m mid rest read is =
    read ∙ ap (λ (l : List ℕ). encoded_records xs ++ l) is ∙ sym (append_assoc (encoded_records xs) (record_bytes m.host m.bytes) rest) ∙ ap (λ (l : List ℕ). l ++ rest) (sym (encoded_one xs m))

pub place_one : (xs : List Message) (m : Message) → length (encoded_records (xs ++ m ∷ [])) ≡ length (encoded_records xs) + length (record_bytes m.host m.bytes)
place_one xs m = ap length (encoded_one xs m) ∙ length-append (encoded_records xs) (record_bytes m.host m.bytes)

-- behind a group what was to come is to come still
read_still : (old tape new : Tape) (before left after : List ℕ) (xs : List Message) → AreRead old before xs (coming tape left) → coming new after ≡ coming tape left → AreRead old before xs (coming new after)
read_still old tape new before left after xs read stays = read ∙ ap (λ (l : List ℕ). encoded_records xs ++ l) (sym stays)

-- a fault behind a group
pub read_fault : (old tape new : Tape) (before left after : List ℕ) (xs : List Message) (fault : TapeFault) → AreRead old before xs (coming tape left) → IsNext tape left new after (Err fault) → IsPlaced tape.place new.place (Err fault)
    → IsGroup old before new after xs (Rest.Fault fault)
read_fault old tape new before left after xs (TapeFault.Torn place) read next placed = record {
  read = read_still old tape new before left after xs read next.1.0;
  follows = (inr (inr (subst (λ (l : List ℕ). Shows l cut) (sym next.1.0) next.0)), placed.0 ∙ sym placed.1);
}
read_fault old tape new before left after xs (TapeFault.BadName place) read next placed = record {
  read = read_still old tape new before left after xs read next.1;
  follows = (inl (more_bad (held new) after next.0), placed.0 ∙ sym placed.1);
}
read_fault old tape new before left after xs (TapeFault.TooLong place) read next placed = record {
  read = read_still old tape new before left after xs read next.1;
  follows = (inr (inl (more_long (held new) after next.0)), placed.0 ∙ sym placed.1);
}
read_fault old tape new before left after xs TapeFault.Failed read next placed = record { read = read_still old tape new before left after xs read next.1; follows = next.0 }
read_fault old tape new before left after xs TapeFault.Budget read next placed = record { read = read_still old tape new before left after xs read next.2; follows = (next.0, next.1) }
read_fault old tape new before left after xs TapeFault.Memory read next placed = record { read = read_still old tape new before left after xs read next; follows = tt }

-- the end of the tape behind a group
pub read_none : (old tape new : Tape) (before left after : List ℕ) (xs : List Message) → AreRead old before xs (coming tape left) → IsNext tape left new after (Ok None) → IsGroup old before new after xs Rest.Nothing
read_none old tape new before left after xs read next = record {
  read = read_still old tape new before left after xs read next.1.0;
  follows = (sym (append-nil (held new)) ∙ ap (λ (l : List ℕ). held new ++ l) (sym next.1.1) ∙ next.1.0 ∙ next.0, next.1.1, next.1.2);
}

-- no more was taken than may be
pub taken_within : (tape : Tape) → taken tape ≤ tape.most
taken_within tape = omega (arith, tape.within, length-take {A = ℕ}, length-drop {A = ℕ})

-- how many bytes they have, with one more
pub bytes_one : (xs : List Message) (m : Message) → bytes_together (xs ++ m ∷ []) ≡ bytes_together xs + length m.bytes
bytes_one [] m = omega arith
bytes_one (x ∷ xs) m = omega (arith, bytes_one xs m)

-- a fault behind reads that didn't fail
pub read_failed : (fault : TapeFault) (before mid now : ℕ) → mid ≡ before → (fault ≡ TapeFault.Failed → Rose mid now) → (fault ≢ TapeFault.Failed → now ≡ mid) → ReadFailed (Rest.Fault fault) before now
read_failed (TapeFault.Torn place) before mid now same failed steady = steady (λ is. let no : ⊥ = cc in no) ∙ same
read_failed (TapeFault.BadName place) before mid now same failed steady = steady (λ is. let no : ⊥ = cc in no) ∙ same
read_failed (TapeFault.TooLong place) before mid now same failed steady = steady (λ is. let no : ⊥ = cc in no) ∙ same
read_failed TapeFault.Failed before mid now same failed steady = subst (λ (n : ℕ). Rose n now) same (failed refl)
read_failed TapeFault.Budget before mid now same failed steady = steady (λ is. let no : ⊥ = cc in no) ∙ same
read_failed TapeFault.Memory before mid now same failed steady = steady (λ is. let no : ⊥ = cc in no) ∙ same
