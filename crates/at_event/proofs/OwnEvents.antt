-- The relay's own events are events, and are read as they were written.
use Rattle.std.proofs.Common.{◌≡◌, Bor, ℕ, ◌<◌, ◌≤◌, ◌^◌, Bool, true, List, length, Option, Some, None, Ok, codes, refl, arith, lit<}
use Rattle.std.specs.Prelude.{IfSome}
use Rattle.std.proofs.lemmas.Bool.{lt-ltb, le-leb}
use Rattle.std.specs.Str.{IsUtf8}
use Rattle.std.specs.Prelude.{option_map}
use Rattle.std.proofs.lemmas.Str.{is_utf8-from_IsUtf8}
use Rattle.at_cid.specs.Link.{IsBytes}
use Rattle.at_cid.specs.Order.{key_cmp}
use Rattle.at_cbor.specs.Encoding.{IsString, IsText}
use Rattle.at_cbor.proofs.Texts.{typed_string}
use Rattle.at_syntax.specs.Did.{is_did}
use Rattle.at_syntax.proofs.Tids.{written_read}
use Rattle.at_event.specs.declared.frame.Frame.{Frame}
use Rattle.at_event.specs.declared.kind.EventKind.{EventKind}
use Rattle.at_event.specs.Events.{IsEvent}
use Rattle.at_cid.specs.declared.limits.TheConstants.{NUMBERS}
use Rattle.at_form.specs.declared.forms.TheConstants.{LONGEST_SHORT_TEXT}
use Rattle.at_form.specs.Forms.{did_in, tid_in, short_text_in, present_value, number_in}
use Rattle.at_event.specs.Frames.{frame_of}
use Rattle.at_event.specs.Table.{seq_of, event_of, event_body_of, sync_of, account_of}
use Rattle.at_event.specs.Writing.{event_message, sync_payload, sync_seen, account_payload, account_seen}
use Rattle.at_event.proofs.Messages.{event_again}
use Rattle.at_event.proofs.Texts.{ascii_text, digits_text}

is_text : (text : List ℕ) → IsString text → IsUtf8 text → IsText text
is_text text string utf8 = (string, is_utf8-from_IsUtf8 text utf8)

module _ (did : List ℕ) (rev : ℕ) (blocks time : List ℕ) (seq : ℕ) (did_string : IsString did) (did_utf8 : IsUtf8 did) (did_is : is_did did ≡ true) (rev_fits : rev < 2 ^ 64) (blocks_fit : IsString blocks) (time_string : IsString time) (time_utf8 : IsUtf8 time) (short : length time ≤ 64) (seq_fits : seq < 2 ^ 53) where
  sync_is_event : IsEvent (sync_seen did rev blocks time seq)
  unfolding sync_payload seq_of event_of event_body_of sync_of did_in tid_in short_text_in number_in key_cmp
  sync_is_event =
      record {
        fits = (
          lit< tt,
          lit< tt,
          (
            ascii_text (codes "did") refl (lit< tt),
            refl,
            is_text did did_string did_utf8,
            (
              ascii_text (codes "rev") refl (lit< tt),
              refl,
              digits_text rev rev_fits,
              (
                ascii_text (codes "seq") refl (lit< tt),
                refl,
                omega (arith, seq_fits),
                (
                  ascii_text (codes "time") refl (lit< tt),
                  refl,
                  is_text time time_string time_utf8,
                  (ascii_text (codes "blocks") refl (lit< tt), refl, blocks_fit, tt),
                ),
              ),
            ),
          ),
        );
        number = rw (lt-ltb seq NUMBERS seq_fits) refl;
        read = rw (did_is, le-leb (length time) LONGEST_SHORT_TEXT short, written_read rev rev_fits) refl;
      }

  pub sync_again : frame_of (event_message EventKind.Sync (sync_payload did rev blocks time seq)) ≡ Ok (Frame.Event (sync_seen did rev blocks time seq))
  sync_again = event_again (sync_seen did rev blocks time seq) sync_is_event

-- a status as it may be: a text of at most 64 bytes
abbrev pub IsStatus : Option (List ℕ) → Type 0
IsStatus (Some status) = IsText status × (length status ≤ 64)
IsStatus None = Unit {0}

is_status : (status : Option (Bor (List ℕ))) → IfSome status (λ text. IsString text.now) → IfSome status (λ text. IsUtf8 text.now) → IfSome status (λ text. length text.now ≤ 64) → IsStatus (option_map (λ text. text.now) status)
is_status (Some text) string utf8 short = (is_text text.now string utf8, short)
is_status None string utf8 short = tt

-- a text by its type, where there is one, has an encoding
pub some_string : (text : Option (Bor (List ℕ))) → IfSome text (λ text. IsBytes text.now) → IfSome text (λ text. length text.now < 2 ^ 63) → IfSome text (λ text. IsString text.now)
some_string (Some text) are short = typed_string text.now are short
some_string None are short = tt

module _ (did : List ℕ) (active : Bool) (time : List ℕ) (seq : ℕ) (did_string : IsString did) (did_utf8 : IsUtf8 did) (did_is : is_did did ≡ true) (time_string : IsString time) (time_utf8 : IsUtf8 time) (short : length time ≤ 64) (seq_fits : seq < 2 ^ 53) where
  account_is_event : (status : Option (List ℕ)) → IsStatus status → IsEvent (account_seen did active status time seq)
  unfolding account_payload seq_of event_of event_body_of account_of did_in short_text_in number_in present_value key_cmp
  account_is_event (Some status) is =
      record {
        fits = (
          lit< tt,
          lit< tt,
          (
            ascii_text (codes "did") refl (lit< tt),
            refl,
            is_text did did_string did_utf8,
            (
              ascii_text (codes "seq") refl (lit< tt),
              refl,
              omega (arith, seq_fits),
              (
                ascii_text (codes "time") refl (lit< tt),
                refl,
                is_text time time_string time_utf8,
                (
                  ascii_text (codes "active") refl (lit< tt),
                  refl,
                  tt,
                  (ascii_text (codes "status") refl (lit< tt), refl, is.0, tt),
                ),
              ),
            ),
          ),
        );
        number = rw (lt-ltb seq NUMBERS seq_fits) refl;
        read = rw (did_is, le-leb (length time) LONGEST_SHORT_TEXT short, le-leb (length status) LONGEST_SHORT_TEXT is.1) refl;
      }
  account_is_event None is =
      record {
        fits = (
          lit< tt,
          lit< tt,
          (
            ascii_text (codes "did") refl (lit< tt),
            refl,
            is_text did did_string did_utf8,
            (
              ascii_text (codes "seq") refl (lit< tt),
              refl,
              omega (arith, seq_fits),
              (
                ascii_text (codes "time") refl (lit< tt),
                refl,
                is_text time time_string time_utf8,
                (ascii_text (codes "active") refl (lit< tt), refl, tt, tt),
              ),
            ),
          ),
        );
        number = rw (lt-ltb seq NUMBERS seq_fits) refl;
        read = rw (did_is, le-leb (length time) LONGEST_SHORT_TEXT short) refl;
      }

  pub account_read : (status : Option (List ℕ)) → IsStatus status → frame_of (event_message EventKind.Account (account_payload did active status time seq)) ≡ Ok (Frame.Event (account_seen did active status time seq))
  account_read status is = event_again (account_seen did active status time seq) (account_is_event status is)

  pub account_again : (status : Option (Bor (List ℕ))) → IfSome status (λ text. IsString text.now) → IfSome status (λ text. IsUtf8 text.now) → IfSome status (λ text. length text.now ≤ 64)
      → frame_of (event_message EventKind.Account (account_payload did active (option_map (λ text. text.now) status) time seq)) ≡ Ok (Frame.Event (account_seen did active (option_map (λ text. text.now) status) time seq))
  account_again status string utf8 brief = account_read (option_map (λ text. text.now) status) (is_status status string utf8 brief)
