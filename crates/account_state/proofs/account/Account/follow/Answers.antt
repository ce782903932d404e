use Rattle.std.proofs.Common.{◌≡◌, true, ap, sym, ◌∙◌}
use Rattle.std.specs.Option.{unwrap_or}
use Rattle.account_state.specs.Folds.{fresh, taken_by}
use Rattle.account_state.specs.State.{State, state_of, known}
use Rattle.account_state.proofs.Written.{told, known_moved}
use Rattle.account_state.proofs.account.Account.follow.Goals as goal

pub returns-in-Taken-clause-state : goal.returns-in-Taken-clause-state
returns-in-Taken-clause-state c =
    let named : c.take_message.new.self.named ≡ true = c.take_message.ensures.named ∙ c.name.ensures.named in
    let from = c.name.ensures.state ∙ sym (told c.args.self.now.named (state_of c.args.self.now) fresh) in
    rw c.in-Taken.is (known_moved c.take_message.new.self (taken_by (unwrap_or (known c.args.self.now) fresh) c.in-Taken.taken) named (c.take_message.ensures.state ∙ ap (λ (s : State). taken_by s c.in-Taken.taken) from))
