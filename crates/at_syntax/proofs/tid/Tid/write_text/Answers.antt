use Rattle.std.proofs.Common.{sym, subst}
use Rattle.std.specs.Str.{IsUtf8}
use Rattle.at_syntax.proofs.Texts.{digits_utf8}
use Rattle.at_syntax.proofs.tid.Tid.write_text.Goals as goal

pub unreachable-requires : goal.unreachable-requires
unreachable-requires c = c.in_default.ensures.cases.0 (subst IsUtf8 (sym c.write.ensures) (digits_utf8 c.args.self.now))
