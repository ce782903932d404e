-- Lines of a table: the grammar and its test say the same.
use Rattle.std.proofs.Common.{◌≡◌, ℕ, ◌<◌, Bool, true, false, not, ◌&&◌, eqb, List, [], ◌∷◌, ◌++◌, length, refl, sym, ap, ◌∙◌, arith, ◌⊎◌, inl, inr, ⊎_elim}
use Rattle.std.specs.Prelude.{codes, nat_le, nat_lt, ◌==◌, ◌%◌}
use Rattle.std.specs.List.{list_all, position_or_len}
use Rattle.std.specs.Str.{bytes_eq}
use Rattle.std.proofs.lemmas.Bool.{and_parts, and_from, and_right, or_cases, or_from, or_left, or_right, false≢true, ne_eqb}
use Rattle.std.proofs.lemmas.List.Folds.{list_all-append}
use Rattle.std.proofs.lemmas.Slice.Eq.{bytes_eq-Decides}
use Rattle.at_authority.specs.Standing.{IsOfKind}
use Rattle.at_syntax.specs.Characters.{is_lower}
use Rattle.at_syntax.specs.Did.{IsDid, is_did, is_identifier_character, is_final_character}
use Rattle.at_syntax.specs.Host.{is_host, is_host_character}
use Rattle.at_syntax.proofs.Dids.{did_grammar, no_colon}
use Rattle.at_syntax.proofs.Splits.{after_none, part_before, part_after, parts_again}
use Rattle.at_authority.specs.Tables.{signed_part, is_digit, is_digest, is_signature, IsHomeLine, IsTrustLine, IsGoodLine, IsLine, first_field, other_fields, is_home_rest, is_signed_rest, is_good_rest, is_of_kind, is_line, home_by}
use Rattle.at_authority.specs.Laws.{HomeLinesNameHomes, OtherLinesNameNone}
use Rattle.std.specs.Prelude.{Option, Some, None, if◌then◌else◌}

no_signature : is_signature [] ≡ false
unfolding is_signature
no_signature = refl

no_host : is_host [] ≡ false
unfolding is_host
no_host = refl

no_did : is_did [] ≡ false
no_did = no_colon [] refl

pub nothing_signed : (rest : List ℕ) → position_or_len (λ c. eqb c 32) rest ≡ length rest → is_signed_rest rest ≡ false
nothing_signed rest h = and_right (is_digest (first_field rest)) (is_signature (other_fields rest)) (ap is_signature (after_none 32 rest h) ∙ no_signature)

pub nothing_good : (rest : List ℕ) → position_or_len (λ c. eqb c 32) rest ≡ length rest → is_good_rest rest ≡ false
nothing_good rest h = and_right (is_did (first_field rest)) (is_signed_rest (other_fields rest)) (ap is_signed_rest (after_none 32 rest h) ∙ nothing_signed [] refl)

pub nothing_home : (rest : List ℕ) → position_or_len (λ c. eqb c 32) rest ≡ length rest → is_home_rest rest ≡ false
nothing_home rest h = and_right (is_did (first_field rest)) (is_host (other_fields rest)) (ap is_host (after_none 32 rest h) ∙ no_host)

-- a line without anything behind its kind
nothing_behind : (text : List ℕ) → other_fields text ≡ [] → is_line text ≡ false
unfolding is_line
nothing_behind text e =
    or_from (is_of_kind (codes "home") is_home_rest text) _ (and_right (bytes_eq (first_field text) (codes "home")) (is_home_rest (other_fields text)) (ap is_home_rest e ∙ nothing_home [] refl))
    (or_from (is_of_kind (codes "trust") is_did text) (is_of_kind (codes "good") is_good_rest text) (and_right (bytes_eq (first_field text) (codes "trust")) (is_did (other_fields text)) (ap is_did e ∙ no_did))
    (and_right (bytes_eq (first_field text) (codes "good")) (is_good_rest (other_fields text)) (ap is_good_rest e ∙ nothing_good [] refl)))

pub nothing_read : (text : List ℕ) → position_or_len (λ c. eqb c 32) text ≡ length text → is_line text ≡ false
nothing_read text h = nothing_behind text (after_none 32 text h)

pub ruleset too_few_blanks = (nothing_signed, nothing_good, nothing_home, nothing_read)

some : (xs : List ℕ) → (xs ≡ [] → ⊥) → 0 < length xs
some [] h = absurd (h refl)
some (x ∷ xs) h = omega arith

-- a line is its kind, a blank and the rest
pub cut : (text : List ℕ) → is_line text ≡ true → text ≡ first_field text ++ 32 ∷ other_fields text
cut text h = parts_again 32 text (some (other_fields text) (λ e. false≢true (sym (nothing_behind text e) ∙ h)))

-- what the test says of a line, kind by kind
pub record Kind (kind : List ℕ) (test : List ℕ → Bool) (text : List ℕ) : Type 0 where
  pub first : first_field text ≡ kind
  pub passes : test (other_fields text) ≡ true

kind_parts : (kind : List ℕ) (test : List ℕ → Bool) (text : List ℕ) → is_of_kind kind test text ≡ true → Kind kind test text
kind_parts kind test text h =
    let both = and_parts (bytes_eq (first_field text) kind) (test (other_fields text)) h in
    record { first = (bytes_eq-Decides (first_field text) kind).0 both.0; passes = both.1 }

kind_from : (kind : List ℕ) (test : List ℕ → Bool) (text : List ℕ) → Kind kind test text → is_of_kind kind test text ≡ true
kind_from kind test text k = and_from (bytes_eq (first_field text) kind) (test (other_fields text)) ((bytes_eq-Decides (first_field text) kind).1 k.first) k.passes

abbrev pub IsTested : List ℕ → Type 0
IsTested text = Kind (codes "home") is_home_rest text ⊎ (Kind (codes "trust") is_did text ⊎ Kind (codes "good") is_good_rest text)

pub tested : (text : List ℕ) → is_line text ≡ true → IsTested text
unfolding is_line
tested text h =
    ⊎_elim (λ a. inl (kind_parts (codes "home") is_home_rest text a))
    (λ b. ⊎_elim (λ a. inr (inl (kind_parts (codes "trust") is_did text a))) (λ c. inr (inr (kind_parts (codes "good") is_good_rest text c))) (or_cases (is_of_kind (codes "trust") is_did text) (is_of_kind (codes "good") is_good_rest text) b))
    (or_cases (is_of_kind (codes "home") is_home_rest text) _ h)

pub home_tested : (text : List ℕ) → Kind (codes "home") is_home_rest text → is_line text ≡ true
unfolding is_line
home_tested text k = or_left (is_of_kind (codes "home") is_home_rest text) _ (kind_from (codes "home") is_home_rest text k)

pub trust_tested : (text : List ℕ) → Kind (codes "trust") is_did text → is_line text ≡ true
unfolding is_line
trust_tested text k = or_right (is_of_kind (codes "home") is_home_rest text) _ (or_left (is_of_kind (codes "trust") is_did text) _ (kind_from (codes "trust") is_did text k))

pub good_tested : (text : List ℕ) → Kind (codes "good") is_good_rest text → is_line text ≡ true
unfolding is_line
good_tested text k =
    or_right (is_of_kind (codes "home") is_home_rest text) _ (or_right (is_of_kind (codes "trust") is_did text) (is_of_kind (codes "good") is_good_rest text) (kind_from (codes "good") is_good_rest text k))

-- what stands apart from a separator

abbrev pub not_at : ℕ → ℕ → Bool
not_at sep c = not (eqb c sep)

apart_at : (sep : ℕ) (class : ℕ → Bool) → class sep ≡ false → (c : ℕ) → class c ≡ true → not_at sep c ≡ true
apart_at sep class out c of = ap not (ne_eqb c sep (λ e. false≢true (sym out ∙ ap class (sym e) ∙ of)))

apart : (sep : ℕ) (class : ℕ → Bool) → class sep ≡ false → (part : List ℕ) → list_all class part ≡ true → list_all (not_at sep) part ≡ true
apart sep class out [] h = refl
apart sep class out (c ∷ part) h =
    let parts = and_parts (class c) (list_all class part) h in
    and_from (not_at sep c) (list_all (not_at sep) part) (apart_at sep class out c parts.0) (apart sep class out part parts.1)

apart_join : (sep : ℕ) (xs ys : List ℕ) → list_all (not_at sep) xs ≡ true → list_all (not_at sep) ys ≡ true → list_all (not_at sep) (xs ++ ys) ≡ true
apart_join sep xs ys h k = list_all-append (not_at sep) xs ys ∙ and_from (list_all (not_at sep) xs) (list_all (not_at sep) ys) h k

-- a character that no DID has
record IsNoneOfDids (sep : ℕ) : Type 0 where
  scheme : list_all (not_at sep) (codes "did:") ≡ true
  colon : list_all (not_at sep) (codes ":") ≡ true
  lower : is_lower sep ≡ false
  identifier : is_identifier_character sep ≡ false
  final : is_final_character sep ≡ false

did_apart : (sep : ℕ) → IsNoneOfDids sep → (did : List ℕ) → is_did did ≡ true → list_all (not_at sep) did ≡ true
did_apart sep none did h =
    let named : IsDid did = (did_grammar did (is_did did) refl).0 h in
    let tail : List ℕ = named.front ++ named.final ∷ [] in
    ap (list_all (not_at sep)) named.encoded
    ∙ apart_join sep (codes "did:") (named.method ++ (codes ":" ++ tail)) none.scheme
    (apart_join sep named.method (codes ":" ++ tail) (apart sep is_lower none.lower named.method named.method_letters)
    (apart_join sep (codes ":") tail none.colon
    (apart_join sep named.front (named.final ∷ []) (apart sep is_identifier_character none.identifier named.front named.front_characters)
    (apart sep is_final_character none.final (named.final ∷ []) (and_from (is_final_character named.final) true named.final_character refl)))))

did_unblank : (did : List ℕ) → is_did did ≡ true → list_all (not_at 32) did ≡ true
did_unblank = did_apart 32 (record { scheme = refl; colon = refl; lower = refl; identifier = refl; final = refl })

did_unfed : (did : List ℕ) → is_did did ≡ true → list_all (not_at 10) did ≡ true
did_unfed = did_apart 10 (record { scheme = refl; colon = refl; lower = refl; identifier = refl; final = refl })

digest_letters : (digest : List ℕ) → is_digest digest ≡ true → list_all is_digit digest ≡ true
unfolding is_digest
digest_letters digest h = (and_parts (length digest == 64) (list_all is_digit digest) h).1

sig_letters : (sig : List ℕ) → is_signature sig ≡ true → list_all is_digit sig ≡ true
unfolding is_signature
sig_letters sig h = (and_parts (nat_lt 0 (length sig) && length sig % 2 == 0) (list_all is_digit sig) h).1

host_letters : (host : List ℕ) → is_host host ≡ true → list_all is_host_character host ≡ true
unfolding is_host
host_letters host h = (and_parts (nat_lt 0 (length host) && nat_le (length host) 255) (list_all is_host_character host) h).1

-- a line has no line feed
pub line_unfed : (line : List ℕ) → IsLine line → list_all (not_at 10) line ≡ true
line_unfed line is =
    ⊎_elim (λ h. ap (list_all (not_at 10)) h.encoded ∙ apart_join 10 (codes "home ") (h.did ++ (codes " " ++ h.host)) refl
    (apart_join 10 h.did (codes " " ++ h.host) (did_unfed h.did h.of_did) (apart_join 10 (codes " ") h.host refl (apart 10 is_host_character refl h.host (host_letters h.host h.of_host)))))
    (λ rest. ⊎_elim (λ t. ap (list_all (not_at 10)) t.encoded ∙ apart_join 10 (codes "trust ") t.did refl (did_unfed t.did t.of_did))
    (λ g. ap (list_all (not_at 10)) g.encoded ∙ apart_join 10 (codes "good ") (signed_part g.did g.digest g.sig) refl
    (apart_join 10 g.did (codes " " ++ (g.digest ++ (codes " " ++ g.sig))) (did_unfed g.did g.of_did)
    (apart_join 10 (codes " ") (g.digest ++ (codes " " ++ g.sig)) refl
    (apart_join 10 g.digest (codes " " ++ g.sig) (apart 10 is_digit refl g.digest (digest_letters g.digest g.of_digest)) (apart_join 10 (codes " ") g.sig refl (apart 10 is_digit refl g.sig (sig_letters g.sig g.of_sig))))))) rest) is

before : (part rest : List ℕ) → list_all (not_at 32) part ≡ true → first_field (part ++ 32 ∷ rest) ≡ part
before part rest h = part_before 32 (not_at 32) refl part rest h

behind : (part rest : List ℕ) → list_all (not_at 32) part ≡ true → other_fields (part ++ 32 ∷ rest) ≡ rest
behind part rest h = part_after 32 (not_at 32) refl part rest h

digest_unblank : (digest : List ℕ) → is_digest digest ≡ true → list_all (not_at 32) digest ≡ true
digest_unblank digest h = apart 32 is_digit refl digest (digest_letters digest h)

home_kind : (did host : List ℕ) → is_did did ≡ true → is_host host ≡ true → is_home_rest (did ++ 32 ∷ host) ≡ true
home_kind did host d h = and_from (is_did (first_field (did ++ 32 ∷ host))) (is_host (other_fields (did ++ 32 ∷ host))) (ap is_did (before did host (did_unblank did d)) ∙ d) (ap is_host (behind did host (did_unblank did d)) ∙ h)

signed_kind : (digest sig : List ℕ) → is_digest digest ≡ true → is_signature sig ≡ true → is_signed_rest (digest ++ 32 ∷ sig) ≡ true
signed_kind digest sig d s =
    and_from (is_digest (first_field (digest ++ 32 ∷ sig))) (is_signature (other_fields (digest ++ 32 ∷ sig))) (ap is_digest (before digest sig (digest_unblank digest d)) ∙ d) (ap is_signature (behind digest sig (digest_unblank digest d)) ∙ s)

good_kind : (did rest : List ℕ) → is_did did ≡ true → is_signed_rest rest ≡ true → is_good_rest (did ++ 32 ∷ rest) ≡ true
good_kind did rest d s =
    and_from (is_did (first_field (did ++ 32 ∷ rest))) (is_signed_rest (other_fields (did ++ 32 ∷ rest))) (ap is_did (before did rest (did_unblank did d)) ∙ d) (ap is_signed_rest (behind did rest (did_unblank did d)) ∙ s)

kind_of : (kind : List ℕ) (test : List ℕ → Bool) (rest text : List ℕ) → list_all (not_at 32) kind ≡ true → text ≡ kind ++ 32 ∷ rest → test rest ≡ true → Kind kind test text
kind_of kind test rest text h e t = record { first = ap first_field e ∙ before kind rest h; passes = ap (λ (s : List ℕ). test (other_fields s)) e ∙ ap test (behind kind rest h) ∙ t }

-- a line passes the test
pub line_tested : (text : List ℕ) → IsLine text → is_line text ≡ true
line_tested text line =
    ⊎_elim (λ h. home_tested text (kind_of (codes "home") is_home_rest (h.did ++ 32 ∷ h.host) text refl h.encoded (home_kind h.did h.host h.of_did h.of_host)))
    (λ rest. ⊎_elim (λ t. trust_tested text (kind_of (codes "trust") is_did t.did text refl t.encoded t.of_did))
    (λ g. good_tested text (kind_of (codes "good") is_good_rest (signed_part g.did g.digest g.sig) text refl g.encoded (good_kind g.did (g.digest ++ 32 ∷ g.sig) g.of_did (signed_kind g.digest g.sig g.of_digest g.of_sig)))) rest) line

again : (rest : List ℕ) → 0 < length (other_fields rest) → rest ≡ first_field rest ++ 32 ∷ other_fields rest
again rest h = parts_again 32 rest h

there : (test : List ℕ → Bool) → test [] ≡ false → (rest : List ℕ) → test rest ≡ true → 0 < length rest
there test out rest h = some rest (λ e. false≢true (sym out ∙ ap test (sym e) ∙ h))

home_read : (text : List ℕ) → text ≡ first_field text ++ 32 ∷ other_fields text → Kind (codes "home") is_home_rest text → IsHomeLine text
home_read text e k =
    let parts = and_parts (is_did (first_field (other_fields text))) (is_host (other_fields (other_fields text))) k.passes in
    record {
      did = first_field (other_fields text);
      host = other_fields (other_fields text);
      encoded = e ∙ ap (λ (s : List ℕ). s ++ 32 ∷ other_fields text) k.first ∙ ap (λ (s : List ℕ). codes "home" ++ 32 ∷ s) (again (other_fields text) (there is_host no_host (other_fields (other_fields text)) parts.1));
      of_did = parts.0;
      of_host = parts.1;
    }

trust_read : (text : List ℕ) → text ≡ first_field text ++ 32 ∷ other_fields text → Kind (codes "trust") is_did text → IsTrustLine text
trust_read text e k = record { did = other_fields text; encoded = e ∙ ap (λ (s : List ℕ). s ++ 32 ∷ other_fields text) k.first; of_did = k.passes }

good_read : (text : List ℕ) → text ≡ first_field text ++ 32 ∷ other_fields text → Kind (codes "good") is_good_rest text → IsGoodLine text
good_read text e k =
    let rest = other_fields text in
    let parts = and_parts (is_did (first_field rest)) (is_signed_rest (other_fields rest)) k.passes in
    let signed = and_parts (is_digest (first_field (other_fields rest))) (is_signature (other_fields (other_fields rest))) parts.1 in
    let inner : other_fields rest ≡ first_field (other_fields rest) ++ 32 ∷ other_fields (other_fields rest) = again (other_fields rest) (there is_signature no_signature (other_fields (other_fields rest)) signed.1) in
    record {
      did = first_field rest;
      digest = first_field (other_fields rest);
      sig = other_fields (other_fields rest);
      encoded = e ∙ ap (λ (s : List ℕ). s ++ 32 ∷ rest) k.first ∙ ap (λ (s : List ℕ). codes "good" ++ 32 ∷ s)
          (again rest (there is_signed_rest (nothing_signed [] refl) (other_fields rest) parts.1) ∙ ap (λ (s : List ℕ). first_field rest ++ 32 ∷ s) inner);
      of_did = parts.0;
      of_digest = signed.0;
      of_sig = signed.1;
    }

-- what passes the test is a line
pub line_read : (text : List ℕ) → is_line text ≡ true → IsLine text
line_read text h =
    let e = cut text h in
    ⊎_elim (λ k. inl (home_read text e k)) (λ rest. ⊎_elim (λ k. inr (inl (trust_read text e k))) (λ k. inr (inr (good_read text e k))) rest) (tested text h)

-- what was read of a line whose kind and rest are known
abbrev pub Cut : List ℕ → List ℕ → List ℕ → Type 0
Cut text kind rest = (kind ≡ first_field text) × (rest ≡ other_fields text)

of_kind : (name text kind rest : List ℕ) (test : List ℕ → Bool) → Cut text kind rest → bytes_eq kind name ≡ true → test rest ≡ true → Kind name test text
of_kind name text kind rest test at is passes = record { first = sym at.0 ∙ (bytes_eq-Decides kind name).0 is; passes = ap test (sym at.1) ∙ passes }

pub home_found : (text kind rest : List ℕ) → Cut text kind rest → bytes_eq kind (codes "home") ≡ true → is_home_rest rest ≡ true → IsOfKind text (codes "home") (other_fields text)
home_found text kind rest at is passes = let k = of_kind (codes "home") text kind rest is_home_rest at is passes in record { line = home_tested text k; first = k.first; others = refl }

pub trust_found : (text kind rest : List ℕ) → Cut text kind rest → bytes_eq kind (codes "trust") ≡ true → is_did rest ≡ true → IsOfKind text (codes "trust") rest
trust_found text kind rest at is passes = let k = of_kind (codes "trust") text kind rest is_did at is passes in record { line = trust_tested text k; first = k.first; others = at.1 }

pub good_found : (text kind rest : List ℕ) → Cut text kind rest → bytes_eq kind (codes "good") ≡ true → is_good_rest rest ≡ true → IsOfKind text (codes "good") rest
good_found text kind rest at is passes = let k = of_kind (codes "good") text kind rest is_good_rest at is passes in record { line = good_tested text k; first = k.first; others = at.1 }

pub not_of_kind : (name text kind rest : List ℕ) (test : List ℕ → Bool) → Cut text kind rest → bytes_eq kind name ≡ false → is_of_kind name test text ≡ false
not_of_kind name text kind rest test at is = ap (λ (k : List ℕ). bytes_eq k name && test (other_fields text)) (sym at.0) ∙ ap (λ (b : Bool). b && test (other_fields text)) is

pub not_passing : (name text kind rest : List ℕ) (test : List ℕ → Bool) → Cut text kind rest → test rest ≡ false → is_of_kind name test text ≡ false
not_passing name text kind rest test at is = and_right (bytes_eq (first_field text) name) (test (other_fields text)) (ap test (sym at.1) ∙ is)

pub of_no_kind : (text : List ℕ) → is_of_kind (codes "home") is_home_rest text ≡ false → is_of_kind (codes "trust") is_did text ≡ false → is_of_kind (codes "good") is_good_rest text ≡ false → is_line text ≡ false
unfolding is_line
of_no_kind text h t g = or_from (is_of_kind (codes "home") is_home_rest text) _ h (or_from (is_of_kind (codes "trust") is_did text) (is_of_kind (codes "good") is_good_rest text) t g)

-- its name is known to be another
other_kind : (kind name other : List ℕ) → bytes_eq kind name ≡ true → bytes_eq name other ≡ false → bytes_eq kind other ≡ false
other_kind kind name other is out = ap (λ (k : List ℕ). bytes_eq k other) ((bytes_eq-Decides kind name).0 is) ∙ out

pub no_home_found : (text kind rest : List ℕ) → Cut text kind rest → bytes_eq kind (codes "home") ≡ true → is_home_rest rest ≡ false → is_line text ≡ false
no_home_found text kind rest at is passes =
    of_no_kind text (not_passing (codes "home") text kind rest is_home_rest at passes) (not_of_kind (codes "trust") text kind rest is_did at (other_kind kind (codes "home") (codes "trust") is refl))
    (not_of_kind (codes "good") text kind rest is_good_rest at (other_kind kind (codes "home") (codes "good") is refl))

-- what home lines say, and that no other lines say it

abbrev given : List ℕ → List ℕ → List ℕ → Option (List ℕ)
given other kind rest = if bytes_eq kind (codes "home") && bytes_eq (first_field rest) other then Some (other_fields rest) else None

given_by : (other kind rest : List ℕ) → list_all (not_at 32) kind ≡ true → home_by other (kind ++ 32 ∷ rest) ≡ given other kind rest
given_by other kind rest h = ap (λ (k : List ℕ). given other k (other_fields (kind ++ 32 ∷ rest))) (before kind rest h) ∙ ap (given other kind) (behind kind rest h)

pub homes_told : HomeLinesNameHomes
homes_told did host other h =
    let names = did_unblank did h in
    given_by other (codes "home") (did ++ 32 ∷ host) refl
    ∙ ap (λ (d : List ℕ). if bytes_eq d other then Some (other_fields (did ++ 32 ∷ host)) else None) (before did host names)
    ∙ ap (λ (s : List ℕ). if bytes_eq did other then Some s else None) (behind did host names)

pub homes_untold : OtherLinesNameNone
homes_untold other line is =
    ⊎_elim (λ t. ap (home_by other) t.encoded ∙ given_by other (codes "trust") t.did refl) (λ g. ap (home_by other) g.encoded ∙ given_by other (codes "good") (signed_part g.did g.digest g.sig) refl) is
