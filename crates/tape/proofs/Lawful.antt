-- The laws of tapes.
use Rattle.std.proofs.Common.{◌≡◌, ◌≢◌, ℕ, List, [], ◌∷◌, ◌++◌, length, sym, ap, ◌∙◌, append_assoc}
use Rattle.std.proofs.lemmas.List.{append-nil}
use Rattle.std.specs.Int.{to_be_bytes, w32}
use Rattle.tape.specs.Format.{with_name, sized, record_bytes}
use Rattle.tape.specs.Shown.{Shown, nothing, found, bad_name, too_long, cut, Shows, HasBadName, HasLongMessage}
use Rattle.tape.specs.Laws.{OneThingIsShown, CutRecordsAreCut}
use Rattle.tape.specs.Front.{front_of, rest_of}
use Rattle.tape.proofs.Fronts.{seen, shown}

pub one_thing : OneThingIsShown
one_thing bytes a b h k = sym (seen bytes a h) ∙ seen bytes b k

-- more bytes behind a name, and behind a length
more_named : (name rest more : List ℕ) → with_name name rest ++ more ≡ with_name name (rest ++ more)
more_named name rest more = ap (λ (l : List ℕ). length name ∷ l) (append_assoc name rest more)

more_sized : (name : List ℕ) (size : ℕ) (rest more : List ℕ) → with_name name (sized size rest) ++ more ≡ with_name name (sized size (rest ++ more))
more_sized name size rest more = more_named name (sized size rest) more ∙ ap (λ (l : List ℕ). with_name name l) (append_assoc (to_be_bytes w32 size) rest more)

more_record : (bytes host message rest more : List ℕ) → Shows bytes (found host message rest) → Shows (bytes ++ more) (found host message (rest ++ more))
more_record bytes host message rest more h = (h.0, ap (λ (l : List ℕ). l ++ more) h.1 ∙ append_assoc (record_bytes host message) rest more)

pub more_bad : (bytes more : List ℕ) → HasBadName bytes → HasBadName (bytes ++ more)
more_bad bytes more h = record { name = h.name; rest = h.rest ++ more; is = ap (λ (l : List ℕ). l ++ more) h.is ∙ more_named h.name h.rest more; no_host = h.no_host }

pub more_long : (bytes more : List ℕ) → HasLongMessage bytes → HasLongMessage (bytes ++ more)
more_long bytes more h = record {
  name = h.name;
  size = h.size;
  rest = h.rest ++ more;
  is = ap (λ (l : List ℕ). l ++ more) h.is ∙ more_sized h.name h.size h.rest more;
  a_host = h.a_host;
  long = h.long;
  fits = h.fits;
}

-- what a front of a record shows, by what it may be
empty_end : (rest more : List ℕ) → rest ++ more ≡ [] → more ≡ []
empty_end [] more h = h
empty_end (b ∷ rest) more h = absurd cc

not_bad : {host message rest : List ℕ} → bad_name ≡ found host message rest → ⊥
not_bad e = cc

not_long : {host message rest : List ℕ} → too_long ≡ found host message rest → ⊥
not_long e = cc

module _ (host message front more : List ℕ) (whole : Shows (front ++ more) (found host message [])) (some : front ≢ []) (lacks : more ≢ []) where
  is_cut : (a : Shown) → Shows front a → Shows front cut
  is_cut nothing h = absurd (some h)
  is_cut (found other text rest) h =
      absurd (lacks (empty_end rest more (ap rest_of (one_thing (front ++ more) (found other text (rest ++ more)) (found host message []) (more_record front other text rest more h) whole))))
  is_cut bad_name h = absurd (not_bad (one_thing (front ++ more) _ _ (more_bad front more h) whole))
  is_cut too_long h = absurd (not_long (one_thing (front ++ more) _ _ (more_long front more h) whole))
  is_cut cut h = h

pub cut_records : CutRecordsAreCut
cut_records host message front more formed fits is some lacks =
    is_cut host message front more (formed, is ∙ sym (append-nil (record_bytes host message))) some lacks (front_of front) (shown front fits)
