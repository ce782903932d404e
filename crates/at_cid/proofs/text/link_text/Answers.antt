use Rattle.std.proofs.Common.{sym, subst}
use Rattle.std.specs.Str.{IsUtf8}
use Rattle.at_cid.proofs.Letters.{text_utf8}
use Rattle.at_cid.proofs.text.link_text.Goals as goal

pub unreachable-requires : goal.unreachable-requires
unreachable-requires c = c.in_default.ensures.cases.0 (subst IsUtf8 (sym c.write_text.ensures) (text_utf8 c.args.link.now))
