use Rattle.std.proofs.Common.{refl}
use Rattle.at_cbor.proofs.ShortTexts.{short_text_read}
use Rattle.at_cbor.proofs.reader.ByteReader.short_text.Goals as goal

pub returns : goal.returns
returns c = (short_text_read c.args.self.now.rest.now c.from.result c.in-len1-up.len_at_least c.if-first-lt96.false c.if-first-gt119.false c.from.ensures, refl)
