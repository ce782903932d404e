-- The major types of heads (RFC 8949, section 3.1).
use Rattle.std.specs.Prelude.{ℕ, ◌/◌, ◌==◌, if◌then◌else◌}
use Rattle.at_cbor.specs.declared.major.Major.{Major}

-- the number of a major type
abbrev pub major_number : Major → ℕ
major_number Major.Unsigned = 0
major_number Major.Negative = 1
major_number Major.Bytes = 2
major_number Major.Text = 3
major_number Major.List = 4
major_number Major.Map = 5
major_number Major.Tag = 6
major_number Major.Simple = 7

-- the major type of a number, of which there are eight
abbrev pub major_from : ℕ → Major
major_from n =
    if n == 0 then Major.Unsigned
    else (if n == 1 then Major.Negative
    else (if n == 2 then Major.Bytes
    else (if n == 3 then Major.Text
    else (if n == 4 then Major.List
    else (if n == 5 then Major.Map
    else (if n == 6 then Major.Tag
    else Major.Simple))))))

-- the major type that the high three bits of a head's first byte name
unfoldable pub major_in : ℕ → Major
major_in first = major_from (first / 32)
