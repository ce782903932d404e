-- The names and the values of made records (own).
use Rattle.std.specs.Prelude.{ℕ, zero, suc, ◌+◌, ◌/◌, ◌%◌, ◌^◌, pos, List, [], ◌∷◌, ◌++◌, codes}
use Rattle.at_cid.specs.Link.{cid}
use Rattle.at_cbor.specs.Item.{Item, no_fields, field}
use Rattle.at_cbor.specs.Encoding.{encoding}

-- the last decimal digits of a number, so many of them
abbrev pub digits : ℕ → ℕ → List ℕ
digits zero n = []
digits (suc k) n = (48 + n / 10 ^ k % 10) ∷ digits k n

-- the path of the record of a number
unfoldable pub generated_path : ℕ → List ℕ
generated_path n = codes "app.gen.item/" ++ digits 8 n

-- the link of the value `{n}`
unfoldable pub generated_value : ℕ → List ℕ
generated_value n = cid (encoding (Item.map (field (codes "n") (Item.int (pos n)) no_fields)))

-- Account 0 has the letter `a`, and so on.
unfoldable pub generated_did : ℕ → List ℕ
generated_did account = codes "did:plc:gen" ++ (97 + account) ∷ []

-- the host of an account
unfoldable pub host_of : ℕ → List ℕ
host_of account = codes "h" ++ (48 + account % 4) ∷ codes ".gen"
