-- What is opened of an event's blocks, and what is judged of it.
use Rattle.std.proofs.Common.{◌≡◌, ℕ, Bool, true, false, not, List, [], ◌∷◌, ◌++◌, Option, Some, None, refl, sym, ap, ◌∙◌, subst}
use Rattle.std.specs.Prelude.{◌==◌, option_map}
use Rattle.std.specs.Str.{bytes_eq}
use Rattle.std.proofs.lemmas.Bool.{and_parts, eqb-true, not-false}
use Rattle.std.proofs.lemmas.Slice.Eq.{bytes_eq-Decides}
use Rattle.sha2.specs.Sha256.{sha256}
use Rattle.at_authority.specs.Calls.{answers, IsCall, AreCalls}
use Rattle.at_authority.specs.Panels.{Panel}
use Rattle.at_authority.specs.Queries.{asks_verdict}
use Rattle.at_car.specs.Car.{car_of}
use Rattle.at_commit.specs.declared.commit.Commit.{Commit}
use Rattle.at_event.specs.declared.event.Body.{Body}
use Rattle.at_event.specs.declared.event.CommitEvent.{CommitEvent}
use Rattle.at_event.specs.declared.event.SyncEvent.{SyncEvent}
use Rattle.at_event.specs.declared.refusal.Refusal.{Refusal}
use Rattle.event_checks.specs.Lines.{RefusalLine, first_of}
use Rattle.event_checks.specs.Opening.{IsFound, block_in, is_commit_of, is_rooted, object_in, object_in_block, root_in}
use Rattle.event_checks.specs.Table.{block_lines, car_in, field_lines, is_stale, open_lines, sync_lines}
use Rattle.event_checks.proofs.Firsts.{all_unmet}
use Rattle.commit_check.specs.Opening.{IsOpened}
use Rattle.commit_check.specs.declared.opened.Opened.{Opened}
use Rattle.repo_sync.specs.Sync.{IsSynced}
use Rattle.repo_sync.specs.declared.found.Found.{Found}
use Rattle.relay_core.specs.Opening.{IsHeadIn}
use Rattle.relay_step.specs.Asked.{signed_by, verdict_call}

rooted_at : (stated : List ℕ) (root : Option (List ℕ)) → not (is_rooted (Some stated) root) ≡ false → root ≡ Some stated
rooted_at stated None h = absurd cc
rooted_at stated (Some link) h = ap Some ((bytes_eq-Decides link stated).0 (not-false (bytes_eq link stated) h))

block_there : (o : Option (List ℕ)) (commit : Commit) → object_in_block o ≡ Some commit → (block : List ℕ) × (o ≡ Some block)
block_there None commit h = absurd cc
block_there (Some block) commit h = (block, refl)

own_rev : (did : List ℕ) (rev : ℕ) (commit : Commit) → is_commit_of did rev (Some commit) ≡ true → commit.rev ≡ rev
own_rev did rev commit h = eqb-true commit.rev rev (and_parts (bytes_eq commit.did did) (commit.rev == rev) h).1

own_rev_in : (did : List ℕ) (rev : ℕ) (o : Option Commit) (commit : Commit) → o ≡ Some commit → not (is_commit_of did rev o) ≡ false → commit.rev ≡ rev
own_rev_in did rev o commit is h =
    let P : Option Commit → Type 0 = λ p. not (is_commit_of did rev p) ≡ false in
    own_rev did rev commit (not-false (is_commit_of did rev (Some commit)) (subst P is h))

-- the head of a commit that was opened
pub commit_head : (c : CommitEvent) (last : Option ℕ) (o : Opened) → first_of (open_lines c last) ≡ None → IsOpened c o → IsHeadIn (car_in c) c.rev o.head
commit_head c last o shown is =
    let all = all_unmet (open_lines c last) shown in
    let block = block_there (block_in (car_in c)) is.commit is.object in
    record {
      block = block.0;
      commit = is.commit;
      found = record { root_is = rooted_at c.commit (root_in (car_in c)) all.1.1.1.1.1.1.1.1.1.0 ∙ ap Some (sym is.head.link); block_is = block.1; object_is = is.object };
      rev_is = is.head.rev ∙ own_rev c.repo c.rev is.commit is.own;
      data_is = is.head.data_root;
    }

-- the head of a `#sync`
pub sync_head : (s : SyncEvent) (last : Option ℕ) (f : Found) → IsSynced s last f → IsHeadIn (car_of s.blocks) s.rev f.head
sync_head s last f is =
    let all = all_unmet (sync_lines s last) is.shown in
    let in_car = is.found_in in
    let P : List ℕ → Type 0 = λ link. IsFound (car_of s.blocks) link in_car.block in_car.commit in
    record {
      block = in_car.block;
      commit = in_car.commit;
      found = subst P (sym (ap (λ (g : Found). g.head.commit) in_car.found_is)) in_car.held;
      rev_is = ap (λ (g : Found). g.head.rev) in_car.found_is ∙ own_rev_in s.did s.rev (object_in (car_of s.blocks)) in_car.commit in_car.held.object_is all.1.1.1.1.1.1.1.0;
      data_is = ap (λ (g : Found). g.head.data_root) in_car.found_is;
    }

-- the fields of a commit that was opened show no refusal
fields_first : (xs ys : List RefusalLine) → first_of (xs ++ ys) ≡ None → first_of xs ≡ None
fields_first [] ys h = refl
fields_first ((r, true) ∷ xs) ys h = absurd cc
fields_first ((r, false) ∷ xs) ys h = fields_first xs ys h

pub fields_fine : (c : CommitEvent) (last : Option ℕ) → first_of (open_lines c last) ≡ None → first_of (field_lines c) ≡ None
fields_fine c last h = fields_first (field_lines c) ((Refusal.Stale, is_stale last c.rev) ∷ block_lines c) h

pub commit_signed : (c : CommitEvent) (o : Opened) → IsOpened c o → signed_by (Body.Commit c) ≡ Some (o.digest, o.sig)
commit_signed c o is =
    ap (λ (k : Option Commit). option_map (λ commit. (sha256 commit.unsigned, commit.sig)) k) is.object
    ∙ ap (λ (d : List ℕ). Some (d, is.commit.sig)) (sym is.head.digest) ∙ ap (λ (g : List ℕ). Some (o.digest, g)) (sym is.head.sig)

pub sync_signed : (s : SyncEvent) (last : Option ℕ) (f : Found) → IsSynced s last f → signed_by (Body.Sync s) ≡ Some (f.digest, f.sig)
sync_signed s last f is =
    ap (λ (k : Option Commit). option_map (λ commit. (sha256 commit.unsigned, commit.sig)) k) is.found_in.held.object_is
    ∙ ap (λ (g : Found). Some (g.digest, g.sig)) (sym is.found_in.found_is)

pub judged_call : (did digest sig : List ℕ) (signed : Option (List ℕ × List ℕ)) (good : Bool) (old new : Panel) → signed ≡ Some (digest, sig) → IsCall (answers (asks_verdict did digest sig) good) old new → AreCalls old (verdict_call did signed good) new
judged_call did digest sig signed good old new is call =
    let P : Option (List ℕ × List ℕ) → Type 0 = λ s. AreCalls old (verdict_call did s good) new in
    subst P (sym is) (new, call, refl)
