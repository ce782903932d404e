-- What both merges come to.
use Rattle.std.proofs.Common.{◌≡◌, ◌≤◌, ℕ, List, [], ◌∷◌, ◌++◌, length, None, refl, sym, ◌∙◌, ap, subst, arith, ⊎_elim, IsTrue}
use Rattle.relay_disk.specs.Disk.{View}
use Rattle.gate_log.specs.Image.{IsImage, made}
use Rattle.gate_log.specs.Pick.{of_side}
use Rattle.gate_log.specs.declared.picking.Side.{Side}
use Rattle.gate_log.specs.declared.picking.Side.TheVariants.{One, Two}
use Rattle.account_state.specs.Folds.{account}
use Rattle.relay_row.specs.declared.row.Row.{Row}
use Rattle.relay_core.specs.Runs.{Message}
use Rattle.relay_core.specs.Worlds.{RunIn}
use Rattle.relay_io.specs.Memory.{moments_of}
use Rattle.relay_io.specs.MemoryRepos.{repository_in}
use Rattle.relay_law.proofs.Agreeing.{merges_agree}
use Rattle.relay_law.proofs.Choosing.{some_right}
use Rattle.relay_law.specs.Calls.{as_read}
use Rattle.relay_step.specs.Steps.{Step, rows}
use Rattle.relay_store.specs.Journals.{IsPairImageOf, bytes_of, joined}
use Rattle.relay_store.specs.Store.{Keeps, seen_in}
use Rattle.relay_store.proofs.Images.{kept_content}
use Rattle.relay_gen.specs.Histories.{history}
use Rattle.trial_run.specs.declared.merging.Merge.{Merge}
use Rattle.trial_run.specs.Merging.{AreTaken, Sent, by_host}
use Rattle.relay_gen.specs.declared.history.TheConstants.{MOST_MESSAGES}
use Rattle.trial_run.specs.Taking.{AreStrings, IsMerged}
use Rattle.trial_run.specs.Tried.{IsImageOf}
use Rattle.trial_run.proofs.Homes.{one_home}
use Rattle.trial_run.proofs.Orders.{merged, of_four}
use Rattle.trial_run.proofs.Worlds.{IsRunOf, in_world, read_steps, trusting}

-- ---- the beginning

none_in : (bodies : List (List Row)) → bytes_of bodies ≡ [] → bodies ≡ []
none_in [] is = refl
none_in (rows ∷ bodies) is = absurd (omega (arith, ap length is))

not_empty : (xs : List ℕ) (x : ℕ) (rest : List ℕ) → [] ≡ xs ++ x ∷ rest → ⊥
not_empty [] x rest is = cc
not_empty (y ∷ xs) x rest is = cc

no_bodies : (bodies : List (List ℕ)) → IsImage bodies [] → bodies ≡ []
no_bodies bodies image = ⊎_elim (λ unmade. unmade.1) (λ is. absurd (not_empty (made is.0 bodies) is.1.gate is.1.rest is.1.split)) image

side_empty : (side : Side) → of_side side [] [] ≡ []
side_empty One = refl
side_empty Two = refl

empty_journal : (J : List Row) → IsPairImageOf J [] [] → J ≡ []
empty_journal J image =
    let here : IsImage (bytes_of image.bodies) [] = subst (IsImage (bytes_of image.bodies)) (side_empty image.image.0) image.image.2 in
    sym image.are.rows ∙ ap joined (none_in image.bodies (no_bodies (bytes_of image.bodies) here))

-- an empty store is one into which nothing was taken
pub begun : (merge : Merge) (v : View) (J : List Row) (one two : List ℕ) → one ≡ [] → two ≡ [] → IsPairImageOf J one two → Keeps J (seen_in merge.store) v → IsTrue (seen_in merge.store).log.is_open
    → moments_of merge.clock ≡ 0 ∷ [] → ((did : List ℕ) → repository_in merge.repos did ≡ None) → IsMerged [] merge v
begun merge v J one two first second image keeps opened moments none =
    let pair : IsPairImageOf J [] [] = subst (λ (c : List ℕ). IsPairImageOf J c []) first (subst (λ (c : List ℕ). IsPairImageOf J one c) second image) in
    record {
      steps = [];
      taken = record { are_sent = refl; are = λ checks opens links. tt; unrefused = tt };
      strings = tt;
      none_ended = refl;
      keeps = subst (λ (K : List Row). Keeps K (seen_in merge.store) v) (empty_journal J pair) keeps;
      goes = opened;
      moments = moments;
      none = none;
    }

-- ---- the end

ran : (sent : Sent) (steps : List Step) → AreTaken sent steps → IsRunOf sent (rows steps)
ran sent steps taken = λ checks opens links.
    subst (λ (l : List Message). RunIn checks trusting [] l (rows steps)) (read_steps steps ∙ ap as_read taken.are_sent) (in_world checks [] [] steps (taken.are checks opens links) taken.unrefused)

pub stored : (sent : Sent) (merge : Merge) (v : View) (m : IsMerged sent merge v) → IsImageOf (rows m.steps) v.content
stored sent merge v m =
    let kept = kept_content (rows m.steps) (seen_in merge.store) v m.keeps in
    record { bodies = kept.bodies; are = kept.are; image = kept.image }

-- both come to the same accounts
pub same_accounts : (start n : ℕ) → n ≤ MOST_MESSAGES → AreStrings (history start n).messages → (ones others : List Step) → AreTaken (history start n).messages ones → AreTaken (by_host (history start n).messages) others → (did : List ℕ)
    → account did (rows ones) ≡ account did (rows others)
same_accounts start n most strings ones others one other did =
    let sent = (history start n).messages in
    (merges_agree some_right.0 trusting [] [] (as_read sent) (as_read (by_host sent)) (rows ones) (rows others) (merged sent (of_four start n)) (one_home start n most strings)
    (ran sent ones one some_right.0 some_right.1 some_right.2) (ran (by_host sent) others other some_right.0 some_right.1 some_right.2)).accounts did
