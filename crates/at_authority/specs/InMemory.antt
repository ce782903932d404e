-- What an authority in memory tells.
use Rattle.std.specs.Prelude.{if◌then◌else◌}
use Rattle.std.specs.BTreeSet.{contains_text}
use Rattle.at_cid.specs.declared.failures.Failures.{Failures}
use Rattle.at_authority.specs.declared.table_authority.TableAuthority.{TableAuthority}
use Rattle.at_authority.specs.Queries.{Telling, did_asked}
use Rattle.at_authority.specs.Standing.{answer_of}

-- about a DID that was refreshed it answers by its later table
abbrev pub telling_of : TableAuthority → Telling
telling_of a = record {
  now = λ q. if contains_text a.refreshed (did_asked q) then answer_of a.later q
      else answer_of a.present q;
  later = answer_of a.later;
}

abbrev pub calls_of : TableAuthority → Failures
calls_of a = a.failures
