-- A pair that is no image of a journal shows it at one place.
use Rattle.std.proofs.Common.{◌≡◌, inl, inr, ℕ, List, [], ◌∷◌, ◌++◌, length, get_or, drop, refl, sym, ◌∙◌, ap, subst, append_assoc}
use Rattle.std.proofs.lemmas.List.{append-nil}
use Rattle.gate_log.specs.Image.{made}
use Rattle.gate_log.specs.Pick.{IsPairImage, IsPicked, of_side}
use Rattle.gate_log.specs.declared.format.Format.{Format}
use Rattle.gate_log.specs.declared.picking.Side.{Side}
use Rattle.gate_log.proofs.Fronts.{made_front, same_format}
use Rattle.gate_log.proofs.OneSide.{one_pair_place, one_side, pair_or_bad, same_pair}
use Rattle.row_codec.specs.Bodies.{rows_body, IsBody}
use Rattle.relay_row.specs.Journal.{IsJournal}
use Rattle.relay_row.specs.declared.row.Row.{Row}
use Rattle.relay_row.proofs.Journals.{fronts}
use Rattle.relay_store.specs.Journals.{joined, bytes_of, AllBodies, IsBadBodyAt, IsBadPairJournalAt}
use Rattle.relay_store.proofs.Images.{same_body}

-- the rows behind these, of a body that is bad there
abbrev IsBadBehind : List Row → List ℕ → Type 0
IsBadBehind J body = (rows : List Row) → IsBody rows body → IsJournal (J ++ rows) → ⊥

first_good : (J rows : List Row) (others : List Row) (body : List ℕ) → IsBody rows (rows_body rows) → IsJournal (J ++ (rows ++ others)) → IsBadBehind (J ++ []) body → body ≡ rows_body rows → ⊥
first_good J rows others body is journal bad same =
    let here : IsJournal (J ++ rows) = fronts (J ++ rows) others (subst IsJournal (sym (append_assoc J rows others)) journal) in
    bad rows (record { some = is.some; few = is.few; formed = is.formed; made = same }) (subst (λ (j : List Row). IsJournal (j ++ rows)) (sym (append-nil J)) here)

one_before : (J : List Row) (xs ys : List (List Row)) (x y : List ℕ) (behind others : List (List ℕ)) → AllBodies xs → AllBodies ys → IsJournal (J ++ joined xs) → IsJournal (J ++ joined ys)
    → IsBadBehind (J ++ joined xs) x → IsBadBehind (J ++ joined ys) y → bytes_of xs ++ x ∷ behind ≡ bytes_of ys ++ y ∷ others → xs ≡ ys
one_before J [] [] x y behind others one two first second bad worse is = refl
one_before J [] (b ∷ ys) x y behind others one two first second bad worse is = absurd (first_good J b (joined ys) x two.0 second bad (ap (λ (l : List (List ℕ)). get_or l 0 []) is))
one_before J (b ∷ xs) [] x y behind others one two first second bad worse is = absurd (first_good J b (joined xs) y one.0 first worse (sym (ap (λ (l : List (List ℕ)). get_or l 0 []) is)))
one_before J (b ∷ xs) (d ∷ ys) x y behind others one two first second bad worse is =
    let head : b ≡ d = same_body b d one.0 two.0 (ap (λ (l : List (List ℕ)). get_or l 0 []) is) in
    let here : J ++ (b ++ joined xs) ≡ (J ++ b) ++ joined xs = sym (append_assoc J b (joined xs)) in
    let there : J ++ (d ++ joined ys) ≡ (J ++ b) ++ joined ys = sym (append_assoc J d (joined ys)) ∙ ap (λ (l : List Row). (J ++ l) ++ joined ys) (sym head) in
    let rest = one_before (J ++ b) xs ys x y behind others one.1 two.1 (subst IsJournal here first) (subst IsJournal there second)
    (subst (λ (j : List Row). IsBadBehind j x) here bad) (subst (λ (j : List Row). IsBadBehind j y) there worse) (ap (λ (l : List (List ℕ)). drop 1 l) is) in
    (λ i. head i ∷ rest i)

-- such bytes are an image of bodies
image_of : (one two : List ℕ) (side : Side) → IsPicked one two side → (place : ℕ) → (bad : IsBadBodyAt place (of_side side one two)) → IsPairImage (bytes_of bad.before ++ bad.body ∷ bad.behind) one two
image_of one two side picked place bad = (side, picked, inr (bad.format, bad.is_made))

two_bodies : (place other : ℕ) (bytes : List ℕ) → (bad : IsBadBodyAt place bytes) (worse : IsBadBodyAt other bytes) → bytes_of bad.before ++ bad.body ∷ bad.behind ≡ bytes_of worse.before ++ worse.body ∷ worse.behind → place ≡ other
two_bodies place other bytes bad worse is =
    let format : bad.format ≡ worse.format = same_format bad.format worse.format bytes (made_front bad.format _ bytes bad.is_made) (made_front worse.format _ bytes worse.is_made) in
    let before : bad.before ≡ worse.before = one_before [] bad.before worse.before bad.body worse.body bad.behind worse.behind bad.each worse.each bad.journal worse.journal bad.bad worse.bad is in
    bad.here ∙ ap (λ (f : Format). length (made f (bytes_of bad.before))) format ∙ ap (λ (bs : List (List Row)). length (made worse.format (bytes_of bs))) before ∙ sym worse.here

pub one_place : (place other : ℕ) (one two : List ℕ) → IsBadPairJournalAt place one two → IsBadPairJournalAt other one two → place ≡ other
one_place place other one two (inl a) (inl b) = one_pair_place place other one two a b
one_place place other one two (inl a) (inr b) = absurd (pair_or_bad _ place one two (image_of one two b.0 b.1 other b.2) a)
one_place place other one two (inr a) (inl b) = absurd (pair_or_bad _ other one two (image_of one two a.0 a.1 place a.2) b)
one_place place other one two (inr a) (inr b) =
    let side : b.0 ≡ a.0 = one_side one two b.0 a.0 b.1 a.1 in
    let worse : IsBadBodyAt other (of_side a.0 one two) = subst (λ (s : Side). IsBadBodyAt other (of_side s one two)) side b.2 in
    two_bodies place other (of_side a.0 one two) a.2 worse (same_pair _ _ one two (image_of one two a.0 a.1 place a.2) (image_of one two a.0 a.1 other worse))
