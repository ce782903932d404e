-- What bytes show at their front.
use Rattle.std.specs.Prelude.{◌≡◌, ◌⊎◌, ◌≤◌, ◌<◌, ◌^◌, ℕ, List, [], ◌∷◌, ◌++◌, length, true, false}
use Rattle.at_syntax.specs.Host.{is_host}
use Rattle.relay_io.specs.declared.feed.TheConstants.{LONGEST_FEED_MESSAGE}
use Rattle.tape.specs.Format.{with_name, sized, record_bytes, IsRecord}

-- a record's name is whole, and is no host's
pub record HasBadName (bytes : List ℕ) : Type 0 where
  pub name : List ℕ
  pub rest : List ℕ
  pub is : bytes ≡ with_name name rest
  pub no_host : is_host name ≡ false

-- a record's name is a host's, and the length of its message is whole and too great
pub record HasLongMessage (bytes : List ℕ) : Type 0 where
  pub name : List ℕ
  pub size : ℕ
  pub rest : List ℕ
  pub is : bytes ≡ with_name name (sized size rest)
  pub a_host : is_host name ≡ true
  pub long : LONGEST_FEED_MESSAGE < size
  pub fits : size < 2 ^ 32

-- the bytes end inside a record: in its name, behind it in the length of the message, or in the
-- message
pub data EndsInRecord (bytes : List ℕ) : Type 0 where
  in_name : (count : ℕ) (front : List ℕ) → bytes ≡ count ∷ front
      → length front < count → EndsInRecord bytes
  in_length : (name front : List ℕ) → is_host name ≡ true
      → bytes ≡ with_name name front → length front < 4 → EndsInRecord bytes
  in_message : (name : List ℕ) (size : ℕ) (front : List ℕ) → is_host name ≡ true
      → size ≤ LONGEST_FEED_MESSAGE → bytes ≡ with_name name (sized size front)
      → length front < size → EndsInRecord bytes

-- no bytes; a record (its host, its message) and what stands behind it; or a fault
pub data Shown : Type 0 where
  nothing : Shown
  found : List ℕ → List ℕ → List ℕ → Shown
  bad_name : Shown
  too_long : Shown
  cut : Shown

abbrev pub Shows : List ℕ → Shown → Type 0
Shows bytes nothing = bytes ≡ []
Shows bytes (found host message rest) =
    IsRecord host message × (bytes ≡ record_bytes host message ++ rest)
Shows bytes bad_name = HasBadName bytes
Shows bytes too_long = HasLongMessage bytes
Shows bytes cut = EndsInRecord bytes

-- more bytes are needed for an answer
abbrev pub NeedsMore : List ℕ → Type 0
NeedsMore bytes = Shows bytes nothing ⊎ Shows bytes cut
