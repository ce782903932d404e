-- What is written for a JSON value.
use Rattle.std.specs.Prelude.{◌≡◌}
use Rattle.serde_json.specs.Data.{Data}
use Rattle.serde_json.specs.Written.{compact_text}
use Rattle.json_text.specs.Texts.{json_text}

-- what `serde_json` writes with no blanks is the value's text
abbrev pub TextsAreWritten : Type 0
TextsAreWritten = (value : Data) → compact_text value ≡ json_text value
