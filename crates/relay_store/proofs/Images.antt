-- Bytes are an image of one journal at most.
use Rattle.std.proofs.Common.{◌≡◌, inl, inr, ℕ, List, [], ◌∷◌, ◌++◌, length, get_or, drop, refl, sym, ◌∙◌, ap, subst, arith, append_assoc}
use Rattle.relay_disk.specs.Disk.{View}
use Rattle.gate_log.specs.Image.{IsImage, IsMade}
use Rattle.gate_log.specs.Pick.{IsPairImage, of_side}
use Rattle.gate_log.proofs.Unique.{same_image}
use Rattle.gate_log.proofs.OneSide.{same_pair, pair_or_bad}
use Rattle.row_codec.specs.Bodies.{rows_body, IsBody}
use Rattle.relay_row.specs.Journal.{IsJournal}
use Rattle.relay_row.specs.declared.row.Row.{Row}
use Rattle.row_codec.proofs.Bodies.{same_rows}
use Rattle.relay_row.proofs.Journals.{fronts}
use Rattle.relay_store.specs.Journals.{joined, bytes_of, AllBodies, AreBodiesOf, IsLogOf, IsPairImageOf, IsBadBodyAt, IsBadPairJournalAt}
use Rattle.relay_store.specs.Store.{StoreState, Keeps}

-- bytes that are an image of this journal
pub record IsImageOf (J : List Row) (bytes : List ℕ) : Type 0 where
  pub bodies : List (List Row)
  pub are : AreBodiesOf J bodies
  pub image : IsImage (bytes_of bodies) bytes

pub same_body : (xs ys : List Row) → IsBody xs (rows_body xs) → IsBody ys (rows_body ys) → rows_body xs ≡ rows_body ys → xs ≡ ys
same_body xs ys one two is = same_rows xs ys (rows_body xs) one (record { some = two.some; few = two.few; formed = two.formed; made = is })

pub same_lists : (xs ys : List (List Row)) → AllBodies xs → AllBodies ys → bytes_of xs ≡ bytes_of ys → xs ≡ ys
same_lists [] [] one two is = refl
same_lists [] (y ∷ ys) one two is = absurd (omega (arith, ap length is))
same_lists (x ∷ xs) [] one two is = absurd (omega (arith, ap length is))
same_lists (x ∷ xs) (y ∷ ys) one two is =
    let head = same_body x y one.0 two.0 (ap (λ (l : List (List ℕ)). get_or l 0 []) is) in
    let rest = same_lists xs ys one.1 two.1 (ap (λ (l : List (List ℕ)). drop 1 l) is) in
    (λ i. head i ∷ rest i)

pub same_journal : (J K : List Row) (bytes : List ℕ) → IsImageOf J bytes → IsImageOf K bytes → J ≡ K
same_journal J K bytes a b =
    sym a.are.rows ∙ ap joined (same_lists a.bodies b.bodies a.are.each b.are.each (same_image (bytes_of a.bodies) (bytes_of b.bodies) bytes a.image b.image)) ∙ b.are.rows

pub same_pair_journal : (J K : List Row) (one two : List ℕ) → IsPairImageOf J one two → IsPairImageOf K one two → J ≡ K
same_pair_journal J K one two a b =
    sym a.are.rows ∙ ap joined (same_lists a.bodies b.bodies a.are.each b.are.each (same_pair (bytes_of a.bodies) (bytes_of b.bodies) one two a.image b.image)) ∙ b.are.rows

-- what a store keeps, its disk's bytes are images of
pub kept_content : (J : List Row) (s : StoreState) (v : View) → Keeps J s v → IsImageOf J v.content
kept_content J s v keeps = record { bodies = keeps.bodies; are = keeps.are; image = inr (s.log.format, keeps.holds.now) }

pub kept_log : (J : List Row) (s : StoreState) (v : View) → Keeps J s v → (c : List ℕ) → v.may_leave c → IsLogOf s.log.format J c
kept_log J s v keeps c left = record { bodies = keeps.bodies; are = keeps.are; is_made = keeps.holds.left c left }

pub same_kept : (J K : List Row) (s : StoreState) (v : View) → Keeps J s v → Keeps K s v → J ≡ K
same_kept J K s v a b = same_journal J K v.content (kept_content J s v a) (kept_content K s v b)

-- a body among others is that of some rows
split_bodies : (bodies before : List (List Row)) (body : List ℕ) (behind : List (List ℕ)) → AllBodies bodies → AllBodies before → bytes_of bodies ≡ bytes_of before ++ body ∷ behind
    → (rows : List Row) × (rest : List (List Row)) × (bodies ≡ before ++ rows ∷ rest) × IsBody rows body
split_bodies [] [] body behind one two is = absurd (omega (arith, ap length is))
split_bodies (b ∷ bodies) [] body behind one two is =
    (b, bodies, refl, record { some = one.0.some; few = one.0.few; formed = one.0.formed; made = sym (ap (λ (l : List (List ℕ)). get_or l 0 []) is) })
split_bodies [] (x ∷ before) body behind one two is = absurd (omega (arith, ap length is))
split_bodies (b ∷ bodies) (x ∷ before) body behind one two is =
    let head : b ≡ x = same_body b x one.0 two.0 (ap (λ (l : List (List ℕ)). get_or l 0 []) is) in
    let more = split_bodies bodies before body behind one.1 two.1 (ap (λ (l : List (List ℕ)). drop 1 l) is) in
    (more.0, more.1, (λ i. head i ∷ more.2 i), more.3)

joined_split : (before : List (List Row)) (rows : List Row) (rest : List (List Row)) → joined (before ++ rows ∷ rest) ≡ (joined before ++ rows) ++ joined rest
joined_split [] rows rest = refl
joined_split (b ∷ before) rows rest =
    ap (λ (l : List Row). b ++ l) (joined_split before rows rest) ∙ sym (append_assoc b (joined before ++ rows) (joined rest)) ∙ ap (λ (l : List Row). l ++ joined rest) (sym (append_assoc b (joined before) rows))

bad_body : (place : ℕ) (bytes : List ℕ) (J : List Row) → IsImageOf J bytes → IsBadBodyAt place bytes → ⊥
bad_body place bytes J image bad =
    let same = same_image (bytes_of image.bodies) (bytes_of bad.before ++ bad.body ∷ bad.behind) bytes image.image (inr (bad.format, bad.is_made)) in
    let parts = split_bodies image.bodies bad.before bad.body bad.behind image.are.each bad.each same in
    let all : IsJournal ((joined bad.before ++ parts.0) ++ joined parts.1) = subst IsJournal (sym image.are.rows ∙ ap joined parts.2 ∙ joined_split bad.before parts.0 parts.1) image.are.journal in
    bad.bad parts.0 parts.3 (fronts (joined bad.before ++ parts.0) (joined parts.1) all)

-- a pair that shows a fault is no image of a journal
pub no_journal : (place : ℕ) (one two : List ℕ) (J : List Row) → IsPairImageOf J one two → IsBadPairJournalAt place one two → ⊥
no_journal place one two J image (inl bad) = pair_or_bad (bytes_of image.bodies) place one two image.image bad
no_journal place one two J image (inr bad) =
    let other : IsPairImage (bytes_of bad.2.before ++ bad.2.body ∷ bad.2.behind) one two = (bad.0, bad.1, inr (bad.2.format, bad.2.is_made)) in
    let same = same_pair (bytes_of image.bodies) (bytes_of bad.2.before ++ bad.2.body ∷ bad.2.behind) one two image.image other in
    bad_body place (of_side bad.0 one two) J (record { bodies = image.bodies; are = image.are; image = inr (bad.2.format, subst (λ (bs : List (List ℕ)). IsMade bad.2.format bs (of_side bad.0 one two)) (sym same) bad.2.is_made) }) bad.2
