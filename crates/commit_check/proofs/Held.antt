-- What an event holds whose message shows no refusal: a CAR in which each block stands under a link of it, and a commit object.
use Rattle.std.proofs.Common.{◌≡◌, ℕ, zero, suc, ◌+◌, List, [], ◌∷◌, ◌++◌, length, true, is_some, Option, Some, None, Ok, Err, refl, sym, ap, subst, ◌∙◌, lit<}
use Rattle.std.proofs.lemmas.Bool.{not-false}
use Rattle.std.specs.FinMap.{from_entries}
use Rattle.at_cid.specs.Link.{IsBytes}
use Rattle.at_car.specs.Blocks.{AreLinked, BlockMap, IsLinkOf}
use Rattle.at_car.specs.Car.{car_of}
use Rattle.at_car.specs.Form.{AreSections, IsSection, header_bytes, section_bytes, sections_bytes}
use Rattle.at_car.specs.Sections.{Section}
use Rattle.at_car.specs.Varint.{varint}
use Rattle.at_car.proofs.Linked.{linked-empty, linked-insert}
use Rattle.at_car.proofs.Takes.{car_takes}
use Rattle.at_commit.specs.declared.commit.Commit.{Commit}
use Rattle.at_event.specs.declared.event.CommitEvent.{CommitEvent}
use Rattle.event_checks.specs.Lines.{first_of}
use Rattle.event_checks.specs.Opening.{CarResult, object_in}
use Rattle.event_checks.specs.Table.{car_in, open_lines}
use Rattle.event_checks.proofs.Firsts.{all_unmet}
use Rattle.commit_check.specs.Order.{HoldsCommit}

pub bytes_left : (a b : List ℕ) → IsBytes (a ++ b) → IsBytes a
bytes_left [] b h i = lit< tt
bytes_left (x ∷ a) b h zero = h 0
bytes_left (x ∷ a) b h (suc i) = bytes_left a b (λ j. h (suc j)) i

pub bytes_right : (a b : List ℕ) → IsBytes (a ++ b) → IsBytes b
bytes_right [] b h = h
bytes_right (x ∷ a) b h = bytes_right a b (λ j. h (suc j))

section_linked : (s : Section) → IsSection s → IsBytes (section_bytes s) → IsLinkOf s.0 s.1
section_linked s is h =
    let both = bytes_right (varint (36 + length s.1)) (s.0 ++ s.1) h in
    record { link = record { link = is.link; bytes = bytes_left s.0 s.1 both }; bytes = bytes_right s.0 s.1 both; digest = is.digest }

sections_linked : (ss : List Section) → AreSections ss → IsBytes (sections_bytes ss) → AreLinked (from_entries ss)
sections_linked [] are h = linked-empty
sections_linked (s ∷ ss) are h =
    linked-insert (from_entries ss) s.0 s.1 (sections_linked ss are.1 (bytes_right (section_bytes s) (sections_bytes ss) h)) (section_linked s are.0 (bytes_left (section_bytes s) (sections_bytes ss) h))

-- in a CAR that was read of bytes, each block stands under a link of it
pub car_linked : (bytes : List ℕ) (roots : List (List ℕ)) (blocks : BlockMap) → IsBytes bytes → car_of bytes ≡ Ok (roots, blocks) → AreLinked blocks
car_linked bytes roots blocks h e =
    let car = car_takes bytes (roots, blocks) h e in
    let all : IsBytes (header_bytes car.0 ++ sections_bytes car.1) = subst IsBytes car.2.encoded h in
    subst AreLinked (sym car.3) (sections_linked car.1 car.2.sections_form (bytes_right (header_bytes car.0) (sections_bytes car.1) all))

held_in : (e : CommitEvent) (car : CarResult) → car_in e ≡ car → is_some (object_in car) ≡ true → HoldsCommit e
held_in e (Err fault) is h = absurd (cc)
held_in e (Ok car) is h = go (object_in (Ok car)) refl h
  where
    go : (o : Option Commit) → object_in (Ok car) ≡ o → is_some o ≡ true → HoldsCommit e
    go None there h = absurd (cc)
    go (Some commit) there h = record { roots = car.0; blocks = car.1; commit = commit; car = is; object = ap object_in is ∙ there }

-- an event that shows no refusal has a CAR and a commit object
pub shown_held : (e : CommitEvent) (last : Option ℕ) → first_of (open_lines e last) ≡ None → HoldsCommit e
shown_held e last h =
    let all = all_unmet (open_lines e last) h in
    held_in e (car_in e) refl (not-false (is_some (object_in (car_in e))) all.1.1.1.1.1.1.1.1.1.1.1.0)

-- they are told by the event

blocks_or : BlockMap → CarResult → BlockMap
blocks_or other (Ok car) = car.1
blocks_or other (Err fault) = other

data_or : List ℕ → Option Commit → List ℕ
data_or other (Some commit) = commit.data_root
data_or other None = other

pub same_blocks : (e : CommitEvent) (g h : HoldsCommit e) → g.blocks ≡ h.blocks
unfolding blocks_or
same_blocks e g h = ap (blocks_or h.blocks) (sym g.car ∙ h.car)

pub same_data : (e : CommitEvent) (g h : HoldsCommit e) → g.commit.data_root ≡ h.commit.data_root
unfolding data_or
same_data e g h = ap (data_or h.commit.data_root) (sym g.object ∙ h.object)
