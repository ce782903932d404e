-- What is said of a cursor that is outdated is read as information.
use Rattle.std.proofs.Common.{◌≡◌, ℕ, pos, List, ◌++◌, Some, Ok, codes, refl, ap, ◌∙◌, lit<}
use Rattle.at_cbor.specs.Item.{Item, field, no_fields}
use Rattle.at_cbor.specs.Encoding.{encoding, Fits}
use Rattle.at_event.specs.Frames.{announced, frame_of, framed, heading_named, heading_of}
use Rattle.at_event.specs.declared.frame.Frame.{Frame}
use Rattle.at_event.proofs.Messages.{message_read}
use Rattle.at_event.proofs.Texts.{ascii_text}

abbrev header : Item
header = Item.map (field (codes "t") (Item.text (codes "#info")) (field (codes "op") (Item.int (pos 1)) no_fields))

abbrev payload : Item
payload = Item.map (field (codes "name") (Item.text (codes "OutdatedCursor")) no_fields)

header_fits : Fits header 64
header_fits = (lit< tt, lit< tt, (ascii_text (codes "t") refl (lit< tt), refl, ascii_text (codes "#info") refl (lit< tt), (ascii_text (codes "op") refl (lit< tt), refl, lit< tt, tt)))

payload_fits : Fits payload 64
payload_fits = (lit< tt, lit< tt, (ascii_text (codes "name") refl (lit< tt), refl, ascii_text (codes "OutdatedCursor") refl (lit< tt), tt))

framed_info : framed (Some (header, payload)) ≡ Ok Frame.Info
unfolding heading_of heading_named announced
framed_info = refl

pub info_read : (message : List ℕ) → message ≡ encoding header ++ encoding payload → frame_of message ≡ Ok Frame.Info
unfolding frame_of
info_read message is = ap framed (message_read message header payload (record { header_form = header_fits; payload_form = payload_fits; encoded = is })) ∙ framed_info
