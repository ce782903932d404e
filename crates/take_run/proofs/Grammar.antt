-- A tape of records alone shows no fault behind any of them.
use Rattle.std.proofs.Common.{◌≡◌, ◌≢◌, ◌∙◌, ◌<◌, ◌+◌, inl, inr, ℕ, List, [], ◌∷◌, ◌++◌, length, refl, sym, ap, subst, arith, append_assoc, length-append}
use Rattle.store_take.specs.declared.message.Message.{Message}
use Rattle.tape.specs.Format.{record_bytes}
use Rattle.tape.specs.Shown.{Shown, Shows, nothing, found, bad_name, too_long, cut}
use Rattle.tape.proofs.Lawful.{one_thing}
use Rattle.run_base.specs.declared.status.Status.{Status}
use Rattle.take_run.specs.Tapes.{AreRecords, EndsTape, IsOnTape, ShowsFault, encoded_records}

abbrev rest_in : Shown → List ℕ → List ℕ
rest_in (found host message rest) other = rest
rest_in nothing other = other
rest_in bad_name other = other
rest_in too_long other = other
rest_in cut other = other

-- what records alone show at their front
abbrev at_front : List Message → Shown
at_front [] = nothing
at_front (m ∷ T) = found m.host m.bytes (encoded_records T)

front_shows : (T : List Message) (are : AreRecords T) → Shows (encoded_records T) (at_front T)
front_shows [] are = refl
front_shows (m ∷ T) are = (are.0, refl)

nothing_not : (host message rest : List ℕ) → nothing ≡ found host message rest → ⊥
nothing_not host message rest is = cc

-- behind records at the front of a tape of records stand records
rest_of : (xs T : List Message) (rest : List ℕ) → AreRecords xs → AreRecords T → encoded_records T ≡ encoded_records xs ++ rest → (U : List Message) × AreRecords U × (rest ≡ encoded_records U)
rest_of [] T rest are all is = (T, all, sym is)
rest_of (m ∷ xs) [] rest are all is =
    absurd (nothing_not m.host m.bytes (encoded_records xs ++ rest) (one_thing [] nothing (found m.host m.bytes (encoded_records xs ++ rest)) refl
    (are.0, is ∙ append_assoc (record_bytes m.host m.bytes) (encoded_records xs) rest)))
rest_of (m ∷ xs) (t ∷ T) rest are all is =
    let same = one_thing (encoded_records (t ∷ T)) (found t.host t.bytes (encoded_records T)) (found m.host m.bytes (encoded_records xs ++ rest)) (all.0, refl) (are.0, is ∙ append_assoc (record_bytes m.host m.bytes) (encoded_records xs) rest) in
    rest_of xs T rest are.2 all.2 (ap (λ (x : Shown). rest_in x []) same)

not_bad : (T : List Message) → at_front T ≡ bad_name → ⊥
not_bad [] is = cc
not_bad (m ∷ T) is = cc

not_long : (T : List Message) → at_front T ≡ too_long → ⊥
not_long [] is = cc
not_long (m ∷ T) is = cc

not_cut : (T : List Message) → at_front T ≡ cut → ⊥
not_cut [] is = cc
not_cut (m ∷ T) is = cc

faultless : (T : List Message) → AreRecords T → ShowsFault (encoded_records T) → ⊥
faultless T are (inl bad) = not_bad T (one_thing (encoded_records T) (at_front T) bad_name (front_shows T are) bad)
faultless T are (inr (inl long)) = not_long T (one_thing (encoded_records T) (at_front T) too_long (front_shows T are) long)
faultless T are (inr (inr short)) = not_cut T (one_thing (encoded_records T) (at_front T) cut (front_shows T are) short)

-- so no fault is shown behind some of them
pub no_fault : (xs T : List Message) (rest : List ℕ) → AreRecords xs → AreRecords T → encoded_records T ≡ encoded_records xs ++ rest → ShowsFault rest → ⊥
no_fault xs T rest are all is fault =
    let more = rest_of xs T rest are all is in
    faultless more.0 more.1 (subst ShowsFault more.2 fault)

-- what was read ahead of a limit is shorter than the whole
not_so_long : (limit : ℕ) (before after part front : List ℕ) → before ≡ front ++ (part ++ after) → length front + length part ≡ limit → length before < limit → ⊥
not_so_long limit before after part front is reached short = omega (arith, ap length is, length-append front (part ++ after), length-append part after, reached, short)

-- a tape of records alone ends at no bad place, and within its limit
pub tape_whole : (limit : ℕ) (before after : List ℕ) (xs T : List Message) (status : Status) → IsOnTape limit before after xs status → AreRecords xs → AreRecords T → before ≡ encoded_records T → length (encoded_records T) < limit
    → ((place : ℕ) → status ≢ Status.BadTape place) × (status ≢ Status.TooLong)
tape_whole limit before after xs T status on are all is short = (
  λ place at. no_fault xs T (on.part ++ after) are all (sym is ∙ on.front) (subst (EndsTape limit (length (encoded_records xs)) on.part after) at on.ends).0,
  λ at. not_so_long limit before after on.part (encoded_records xs) on.front (subst (EndsTape limit (length (encoded_records xs)) on.part after) at on.ends).1 (subst (λ (l : List ℕ). length l < limit) (sym is) short),
)
