-- What a refused check says of the verdict.
use Rattle.std.proofs.Common.{◌≡◌, ℕ, List, Result, Err, Ok, refl, subst}
use Rattle.at_cid.specs.Memory.{Fails}
use Rattle.at_event.specs.declared.event.CommitEvent.{CommitEvent}
use Rattle.at_event.specs.declared.refusal.Refusal.{Refusal}
use Rattle.commit_check.specs.declared.checked.Checked.{Checked}
use Rattle.commit_check.specs.declared.fault.CheckFault.{CheckFault}
use Rattle.commit_check.specs.Checking.{IsAccepted, IsCoveredAlone, IsRefused, IsRefusedWith}
use Rattle.commit_check.specs.Refusing.{IsMemory, RefusesWith, refusal_of}
use Rattle.relay_cli.specs.declared.verdict.CheckVerdict.{CheckVerdict}
use Rattle.relay_cli.specs.Verdicts.{JudgesCommit}

told_once : (one other : Refusal) (a b : Result Checked Refusal) → a ≡ Err one → b ≡ Err other → a ≡ b → one ≡ other
told_once one other a b a_is b_is same = cc

-- what is accepted is refused with nothing
pub accepts_alone : (refusal : Refusal) (checked : Checked) → RefusesWith refusal (Ok checked) → ⊥
accepts_alone refusal checked told = absurd (cc)

pub judged : (e : CommitEvent) (fault : CheckFault) (refusal : Refusal) → fault ≡ CheckFault.Refused refusal → IsRefused e fault → ((other : Refusal) → IsRefusedWith e other → Fails {Y = Checked} (refusal_of fault) (Err other)) → ((from to : List ℕ) → IsAccepted e from to → IsMemory fault) → (IsCoveredAlone e → IsMemory fault)
    → JudgesCommit e (CheckVerdict.Refused refusal)
judged e fault refusal is refused exact only covered =
    let P : CheckFault → Type 0 = IsRefused e in
    let Q : CheckFault → Type 0 = IsMemory in
    let R : Refusal → CheckFault → Type 0 = λ other f. Fails {Y = Checked} (refusal_of f) (Err other) in
    let told : (other : Refusal) → IsRefusedWith e other → R other (CheckFault.Refused refusal) = λ other applies. subst (R other) is (exact other applies) in
    (subst P is refused, λ other applies. told_once other refusal (Err other) (Err refusal) refl refl (told other applies), λ from to accepted. subst Q is (only from to accepted), λ c. subst Q is (covered c))
