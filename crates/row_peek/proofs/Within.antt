-- What is seen of a row is no longer than the bytes that it stands in.
use Rattle.std.proofs.Common.{◌≡◌, ℕ, zero, suc, ◌/◌, ◌%◌, ◌≤◌, Bool, true, false, cond, eqb, leb, ltb, ◌&&◌, ◌||◌, List, [], ◌∷◌, length, take, drop, length-drop, Option, Some, None, IfSome, sym, subst, arith}
use Rattle.std.specs.Prelude.{option_map}
use Rattle.std.specs.Int.{Width, w8, w16, w32, w64, byte_len, from_be_bytes}
use Rattle.std.specs.Str.{is_utf8}
use Rattle.std.proofs.lemmas.List.{length-take}
use Rattle.at_cbor.specs.declared.major.Major.{Major}
use Rattle.at_cbor.specs.Heads.{argument_at, wide_at, least_of}
use Rattle.at_cbor.specs.Majors.{major_number}
use Rattle.at_cbor.specs.Taking.{◌>>=◌, shortest, number_at, string_of, string_behind, string_at, text_from_front}
use Rattle.row_peek.specs.declared.peeked.Peeked.{Peeked}
use Rattle.row_peek.specs.declared.passing.TheConstants.{TAGGED}
use Rattle.row_peek.specs.declared.peeking.TheConstants.{WHOLE}
use Rattle.row_peek.specs.Passing.{past, content_behind, behind_head, times, scalar_behind, scalars_behind, item_content_behind, item_behind, items_behind}
use Rattle.row_peek.specs.Peeking.{Seen, seen, message_at, whole_items_at, whole_at, outcome_at, taken_at, synced_at, operated_at, peeked_at}

-- what holds of a second step's answer where something holds of the first one's
chained : {A B : Type 0} (P : A → Type 0) (Q : B → Type 0) (o : Option A) (f : A → Option B) → IfSome o P → ((x : A) → P x → IfSome (f x) Q) → IfSome (o >>= f) Q
chained P Q None f is next = tt
chained P Q (Some x) f is next = next x is

either : {A : Type 0} (P : A → Type 0) (b : Bool) (x y : Option A) → IfSome x P → IfSome y P → IfSome (cond b x y) P
either P true x y one other = one
either P false x y one other = other

module _ (n : ℕ) where
  -- bytes are no more than so many
  abbrev Short : List ℕ → Type 0
  Short bytes = length bytes ≤ n

  -- those behind what was taken are
  abbrev ShortBehind : {A : Type 0} → A × List ℕ → Type 0
  ShortBehind x = length x.1 ≤ n

  -- a string and the bytes behind it are
  abbrev BothShort : List ℕ × List ℕ → Type 0
  BothShort x = Short x.0 × Short x.1

  -- ---- what is passed

  past_short : (count : ℕ) (bytes : List ℕ) → Short bytes → IfSome (past count bytes) Short
  past_short count bytes is = either Short (ltb (length bytes) count) None (Some (drop count bytes)) tt (omega (arith, is, length-drop count bytes))

  wide_short : (w : Width) (bytes : List ℕ) → Short bytes → IfSome (wide_at w bytes) ShortBehind
  wide_short w bytes is = either (ShortBehind {A = ℕ}) (ltb (length bytes) (byte_len w)) None (Some (from_be_bytes w (take (byte_len w) bytes), drop (byte_len w) bytes)) tt (omega (arith, is, length-drop (byte_len w) bytes))

  argument_short : (info : ℕ) (bytes : List ℕ) → Short bytes → IfSome (argument_at info bytes) ShortBehind
  unfolding argument_at
  argument_short info bytes is =
      either (ShortBehind {A = ℕ}) (eqb info 24) (wide_at w8 bytes) _ (wide_short w8 bytes is)
      (either (ShortBehind {A = ℕ}) (eqb info 25) (wide_at w16 bytes) _ (wide_short w16 bytes is)
      (either (ShortBehind {A = ℕ}) (eqb info 26) (wide_at w32 bytes) _ (wide_short w32 bytes is)
      (either (ShortBehind {A = ℕ}) (eqb info 27) (wide_at w64 bytes) (Some (info, bytes)) (wide_short w64 bytes is) is)))

  content_short : (major count : ℕ) (bytes : List ℕ) → Short bytes → IfSome (content_behind major count bytes) Short
  content_short major count bytes is = either Short (eqb major 2 || eqb major 3) (past count bytes) _ (past_short count bytes is) (either Short (eqb major 6) (past TAGGED bytes) (Some bytes) (past_short TAGGED bytes is) is)

  head_short : (content : ℕ → ℕ → List ℕ → Option (List ℕ)) → ((major count : ℕ) (bytes : List ℕ) → Short bytes → IfSome (content major count bytes) Short)
      → (bytes : List ℕ) → Short bytes → IfSome (behind_head content bytes) Short
  head_short content behind [] is = tt
  head_short content behind (first ∷ bytes) is =
      chained (ShortBehind {A = ℕ}) Short (argument_at (first % 32) bytes) _ (argument_short (first % 32) bytes (omega (arith, is))) (λ a short. behind (first / 32) a.0 a.1 short)

  times_short : (step : List ℕ → Option (List ℕ)) → ((bytes : List ℕ) → Short bytes → IfSome (step bytes) Short)
      → (count : ℕ) (bytes : List ℕ) → Short bytes → IfSome (times count step bytes) Short
  times_short step one zero bytes is = is
  times_short step one (suc count) bytes is = chained Short Short (step bytes) _ (one bytes is) (λ rest short. times_short step one count rest short)

  scalar_short : (bytes : List ℕ) → Short bytes → IfSome (scalar_behind bytes) Short
  unfolding scalar_behind
  scalar_short bytes is = head_short content_behind content_short bytes is

  scalars_short : (count : ℕ) (bytes : List ℕ) → Short bytes → IfSome (scalars_behind count bytes) Short
  unfolding scalars_behind
  scalars_short count bytes is = times_short scalar_behind scalar_short count bytes is

  item_content_short : (major count : ℕ) (bytes : List ℕ) → Short bytes → IfSome (item_content_behind major count bytes) Short
  item_content_short major count bytes is = either Short (eqb major 4) (scalars_behind count bytes) (content_behind major count bytes) (scalars_short count bytes is) (content_short major count bytes is)

  item_short : (bytes : List ℕ) → Short bytes → IfSome (item_behind bytes) Short
  unfolding item_behind
  item_short bytes is = head_short item_content_behind item_content_short bytes is

  items_short : (count : ℕ) (bytes : List ℕ) → Short bytes → IfSome (items_behind count bytes) Short
  unfolding items_behind
  items_short count bytes is = times_short item_behind item_short count bytes is

  -- ---- what is taken

  shortest_short : (least : ℕ) (o : Option (ℕ × List ℕ)) → IfSome o ShortBehind → IfSome (shortest least o) ShortBehind
  shortest_short least None is = tt
  shortest_short least (Some a) is = either (ShortBehind {A = ℕ}) (ltb a.0 least) None (Some a) tt is

  number_short : (major : Major) (bytes : List ℕ) → Short bytes → IfSome (number_at major bytes) ShortBehind
  unfolding number_at
  number_short major [] is = tt
  number_short major (first ∷ bytes) is = either (ShortBehind {A = ℕ}) (eqb (first / 32) (major_number major) && ltb (first % 32) 28) (shortest (least_of (first % 32)) (argument_at (first % 32) bytes)) None (shortest_short (least_of (first % 32)) (argument_at (first % 32) bytes) (argument_short (first % 32) bytes (omega (arith, is)))) tt

  string_of_short : (count : ℕ) (bytes : List ℕ) → Short bytes → IfSome (string_of count bytes) BothShort
  string_of_short count bytes is = either BothShort (ltb (length bytes) count) None (Some (take count bytes, drop count bytes)) tt (omega (arith, is, length-take count bytes), omega (arith, is, length-drop count bytes))

  string_behind_short : (major : Major) (bytes : List ℕ) → Short bytes → IfSome (string_behind major bytes) BothShort
  string_behind_short major bytes is = chained (ShortBehind {A = ℕ}) BothShort (number_at major bytes) _ (number_short major bytes is) (λ count short. string_of_short count.0 count.1 short)

  string_short : (bytes : List ℕ) → Short bytes → IfSome (string_at bytes) BothShort
  unfolding string_at
  string_short bytes is = string_behind_short Major.Bytes bytes is

  text_short : (bytes : List ℕ) → Short bytes → IfSome (text_from_front bytes) ShortBehind
  unfolding text_from_front
  text_short bytes is = chained BothShort (ShortBehind {A = List ℕ}) (string_behind Major.Text bytes) _ (string_behind_short Major.Text bytes is) (λ text short. either (ShortBehind {A = List ℕ}) (is_utf8 text.0) (Some text) None short.1 tt)

  -- ---- what is seen

  message_short : (bytes : List ℕ) → Short bytes → IfSome (message_at bytes) Short
  unfolding message_at
  message_short bytes is = chained BothShort Short (string_at bytes) _ (string_short bytes is) (λ message short. short.0)

  whole_items_short : (bytes : List ℕ) → Short bytes → IfSome (whole_items_at bytes) ShortBehind
  unfolding whole_items_at
  whole_items_short bytes is =
      chained (ShortBehind {A = ℕ}) (ShortBehind {A = ℕ}) (number_at Major.Unsigned bytes) _ (number_short Major.Unsigned bytes is) (λ seq a.
      chained Short (ShortBehind {A = ℕ}) (scalars_behind 4 seq.1) _ (scalars_short 4 seq.1 a) (λ rest b.
      chained Short (ShortBehind {A = ℕ}) (message_at rest) _ (message_short rest b) (λ message c. c)))

  whole_short : (bytes : List ℕ) → Short bytes → IfSome (whole_at bytes) ShortBehind
  unfolding whole_at
  whole_short [] is = tt
  whole_short (first ∷ bytes) is = either (ShortBehind {A = ℕ}) (eqb first WHOLE) (whole_items_at bytes) None (whole_items_short bytes (omega (arith, is))) tt

  outcome_short : (kind : ℕ) (bytes : List ℕ) → Short bytes → IfSome (outcome_at kind bytes) (λ o. Short o.1.1)
  unfolding outcome_at
  outcome_short kind bytes is =
      chained (ShortBehind {A = ℕ}) (λ o. Short o.1.1) (number_at Major.Unsigned bytes) _ (number_short Major.Unsigned bytes is) (λ seq a.
      chained BothShort (λ o. Short o.1.1) (string_at seq.1) _ (string_short seq.1 a) (λ message b.
      either (λ o. Short o.1.1) (eqb seq.0 0) (item_behind message.1 >>= λ rest. whole_at rest >>= λ fetched. Some (true, fetched)) (Some (leb kind 2, (seq.0, message.0)))
      (chained Short (λ o. Short o.1.1) (item_behind message.1) _ (item_short message.1 b.1) (λ rest c.
      chained (ShortBehind {A = ℕ}) (λ o. Short o.1.1) (whole_at rest) _ (whole_short rest c) (λ fetched d. d)))
      b.0))

  taken_short : (bytes : List ℕ) → Short bytes → IfSome (taken_at bytes) (λ s. Short s.1.1.1)
  unfolding taken_at
  taken_short bytes is =
      chained Short (λ s. Short s.1.1.1) (scalars_behind 2 bytes) _ (scalars_short 2 bytes is) (λ rest a.
      chained (ShortBehind {A = List ℕ}) (λ s. Short s.1.1.1) (text_from_front rest) _ (text_short rest a) (λ did b.
      chained (ShortBehind {A = ℕ}) (λ s. Short s.1.1.1) (number_at Major.Unsigned did.1) _ (number_short Major.Unsigned did.1 b) (λ kind c.
      chained Short (λ s. Short s.1.1.1) (items_behind 2 kind.1) _ (items_short 2 kind.1 c) (λ decided d.
      chained (λ o. Short o.1.1) (λ s. Short s.1.1.1) (outcome_at kind.0 decided) _ (outcome_short kind.0 decided d) (λ o e. e)))))

  synced_short : (bytes : List ℕ) → Short bytes → IfSome (synced_at bytes) (λ s. Short s.1.1.1)
  unfolding synced_at
  synced_short bytes is =
      chained (ShortBehind {A = List ℕ}) (λ s. Short s.1.1.1) (text_from_front bytes) _ (text_short bytes is) (λ did a.
      chained (ShortBehind {A = ℕ}) (λ s. Short s.1.1.1) (whole_at did.1) _ (whole_short did.1 a) (λ event b. b))

  operated_short : (bytes : List ℕ) → Short bytes → IfSome (operated_at bytes) (λ s. Short s.1.1.1)
  unfolding operated_at
  operated_short bytes is =
      chained (ShortBehind {A = List ℕ}) (λ s. Short s.1.1.1) (text_from_front bytes) _ (text_short bytes is) (λ did a.
      chained Short (λ s. Short s.1.1.1) (scalars_behind 1 did.1) _ (scalars_short 1 did.1 a) (λ rest b.
      chained (ShortBehind {A = ℕ}) (λ s. Short s.1.1.1) (number_at Major.Unsigned rest) _ (number_short Major.Unsigned rest b) (λ seq c.
      chained Short (λ s. Short s.1.1.1) (message_at seq.1) _ (message_short seq.1 c) (λ message d. d))))

  peeked_at_short : (bytes : List ℕ) → Short bytes → IfSome (peeked_at bytes) (λ s. Short s.1.1.1)
  unfolding peeked_at
  peeked_at_short [] is = tt
  peeked_at_short (front ∷ []) is = tt
  peeked_at_short (front ∷ kind ∷ bytes) is =
      either (λ s. Short s.1.1.1) (eqb kind 1) (taken_at bytes) _ (taken_short bytes (omega (arith, is)))
      (either (λ s. Short s.1.1.1) (eqb kind 2) (synced_at bytes) _ (synced_short bytes (omega (arith, is)))
      (either (λ s. Short s.1.1.1) (eqb kind 3) (operated_at bytes) None (operated_short bytes (omega (arith, is))) tt))

pub message_within : (bytes : List ℕ) (s : Option Peeked) → option_map seen s ≡ peeked_at bytes → IfSome s (λ s. length s.message.now ≤ length bytes)
message_within bytes None is = tt
message_within bytes (Some s) is = subst (λ (o : Option Seen). IfSome o (λ s. length s.1.1.1 ≤ length bytes)) (sym is) (peeked_at_short (length bytes) bytes (omega arith))
