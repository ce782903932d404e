-- What the parts of a commit object say, without where they lie in memory.
use Rattle.at_commit.specs.Fields.{Object}
use Rattle.at_commit.specs.declared.fields.Parts.{Parts}

abbrev pub seen_object : Parts → Object
seen_object parts = record {
  did = parts.did.now;
  version = parts.version;
  data_root = parts.data_root;
  rev = parts.rev;
  sig = parts.sig.now;
}
