use Rattle.std.proofs.Common.{◌≡◌, ℕ, List, Option, ap, ◌∙◌}
use Rattle.std.specs.Option.{unwrap_or}
use Rattle.at_event.specs.Seen.{Seen}
use Rattle.at_event.specs.declared.frame.Frame.{Frame}
use Rattle.account_state.specs.Entries.{entry}
use Rattle.account_state.specs.Folds.{fresh}
use Rattle.account_state.specs.State.{State}
use Rattle.relay_core.specs.Entries.{state_in, account_in, cursor_in}
use Rattle.relay_core.specs.Table.{next_of}
use Rattle.relay_core.proofs.journal_state.Core.next_for_event.Goals as goal

pub returns : goal.returns
returns c =
    let did : c.as_str.result.now ≡ c.args.event.now.did = c.as_str.ensures.value ∙ ap (λ (e : Seen). e.did) c.event.view_is in
    let state : state_in c.account.result ≡ account_in c.args.self.now c.args.event.now.did =
    ap (λ (o : Option State). unwrap_or o fresh) (c.account.ensures ∙ ap (λ (text : List ℕ). entry c.args.self.now.accounts text) did) in
    c.next_for_event.ensures
    ∙ ap (λ (n : ℕ). next_of n (state_in c.account.result) (Frame.Event c.args.event.now) c.args.answers.now) c.cursor-cursor.ensures
    ∙ ap (λ (a : State). next_of (cursor_in c.args.self.now c.args.host.now) a (Frame.Event c.args.event.now) c.args.answers.now) state
