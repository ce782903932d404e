-- The relay's own event of a commit that was fetched.
use Rattle.std.proofs.Common.{◌≡◌, ℕ, ◌<◌, ◌^◌, true, not, cond, List, [], ◌∷◌, length, Option, refl, sym, ap, ◌∙◌, subst, arith}
use Rattle.std.specs.FinMap as map
use Rattle.std.specs.Option.{is_some}
use Rattle.std.specs.Str.{IsUtf8}
use Rattle.std.proofs.lemmas.Bool.{and_from, ne_eqb}
use Rattle.std.proofs.lemmas.Str.{is_utf8-from_IsUtf8}
use Rattle.at_car.specs.Blocks.{BlockMap, kept}
use Rattle.at_car.specs.Writing.{written}
use Rattle.at_cbor.specs.Item.{Item}
use Rattle.at_cbor.specs.Encoding.{IsString, IsText}
use Rattle.at_cid.specs.Order.{key_cmp}
use Rattle.at_event.specs.Writing.{event_message, sync_payload}
use Rattle.at_event.specs.declared.head.Head.{Head}
use Rattle.at_event.specs.declared.kind.EventKind.{EventKind}
use Rattle.relay_row.specs.Rules.{are_bytes, is_empty, is_message, is_string, is_text}
use Rattle.relay_row.proofs.Bytes.{bytes_tested, string_tested}
use Rattle.relay_core.specs.Decide.{commit_car, sync_message, whole_under}
use Rattle.relay_step.specs.Fetches.{IsTyped}

pub text_of : (text : List ℕ) → IsString text → IsUtf8 text → IsText text
text_of text string utf8 = (string, is_utf8-from_IsUtf8 text utf8)

pub text_tested : (text : List ℕ) → IsString text → IsUtf8 text → is_text text ≡ true
text_tested text string utf8 = and_from _ (are_bytes text) (is_utf8-from_IsUtf8 text utf8) (bytes_tested text string.1)

none_kept : (link block : List ℕ) (m : BlockMap) → m ≡ map.empty {R = key_cmp} → kept m link block ≡ map.insert {R = key_cmp} map.empty link block
none_kept link block m none =
    let P : BlockMap → Type 0 = λ n. kept n link block ≡ map.insert {R = key_cmp} map.empty link block in
    subst P (sym none) (ap (λ (o : Option (List ℕ)). cond (is_some o) (map.empty {R = key_cmp}) (map.insert {R = key_cmp} map.empty link block)) (map.get-empty key_cmp link))

module _ (did time : List ℕ) (head : Head) (block : List ℕ) (before blocks : BlockMap) (car : List ℕ) (none : before ≡ map.empty {R = key_cmp}) (put : blocks ≡ kept before head.commit block) (encoded : car ≡ written head.commit blocks) where
  pub car_is : car ≡ commit_car head block
  car_is = encoded ∙ ap (written head.commit) (put ∙ none_kept head.commit block before none)

  pub message_is : (message : List ℕ) (n : ℕ) → message ≡ event_message EventKind.Sync (sync_payload did head.rev car time n) → message ≡ sync_message did time head block n
  unfolding sync_message
  message_is message n is = is ∙ ap (λ c. event_message EventKind.Sync (sync_payload did head.rev c time n)) car_is

  pub whole_is : (message : List ℕ) (n records : ℕ) → message ≡ event_message EventKind.Sync (sync_payload did head.rev car time n) → record { seq = n; head = head; records = records; message = message } ≡ whole_under did time head records block n
  whole_is message n records is = ap (λ m. record { seq = n; head = head; records = records; message = m }) (message_is message n is)

  pub typed_is : IsString did → IsUtf8 did → IsString time → IsUtf8 time → head.rev < 2 ^ 64 → IsString car → length car < 2 ^ 63 → IsTyped did time head block
  typed_is ds du ts tu rev string short =
      let P : List ℕ → Type 0 = λ c. IsString c in
      let Q : List ℕ → Type 0 = λ c. length c < 2 ^ 63 in
      record { did_text = text_of did ds du; time_text = text_of time ts tu; rev = rev; car = subst P car_is string; short = subst Q car_is short }

some_bytes : (m : List ℕ) → (m ≡ [] → ⊥) → not (is_empty m) ≡ true
some_bytes [] h = absurd (h refl)
some_bytes (x ∷ m) h = ap not (ne_eqb (length (x ∷ m)) 0 (λ e. omega (arith, e)))

sync_some : (payload : Item) → event_message EventKind.Sync payload ≡ [] → ⊥
unfolding event_message
sync_some payload e = absurd cc

sync_not_empty : (payload : Item) → not (is_empty (event_message EventKind.Sync payload)) ≡ true
sync_not_empty payload = some_bytes (event_message EventKind.Sync payload) (sync_some payload)

pub message_kept : (message : List ℕ) (payload : Item) → message ≡ event_message EventKind.Sync payload → IsString message → is_message message ≡ true
message_kept message payload is string =
    let P : List ℕ → Type 0 = λ m. not (is_empty m) ≡ true in
    and_from (is_string message) (not (is_empty message)) (string_tested message string.1 string.0) (subst P (sym is) (sync_not_empty payload))
