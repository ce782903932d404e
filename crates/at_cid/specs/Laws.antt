-- What holds of all links.
use Rattle.std.specs.Prelude.{◌≡◌, ℕ, List}
use Rattle.at_cid.specs.Link.{IsLink}
use Rattle.at_cid.specs.Text.{text_of}

-- No two links have one text.
abbrev pub TextTellsLink : Type 0
TextTellsLink = (one other : List ℕ) → IsLink one
    → IsLink other → text_of one ≡ text_of other → one ≡ other
