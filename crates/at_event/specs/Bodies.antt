-- What an event brings of an account's repository.
use Rattle.std.specs.Prelude.{Bool, true, false}
use Rattle.at_event.specs.declared.event.Body.{Body}

-- a commit or a `#sync`, which come with blocks
abbrev pub has_blocks : Body → Bool
has_blocks (Body.Commit c) = true
has_blocks (Body.Sync s) = true
has_blocks Body.Identity = false
has_blocks (Body.Account a) = false
