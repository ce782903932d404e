use Rattle.std.proofs.Common.{◌≡◌, ℕ, sym, ap, ◌∙◌, arith}
use Rattle.account_state.specs.State.{State}
use Rattle.at_event.specs.declared.frame.Frame.{Frame}
use Rattle.relay_core.specs.Entries.{account_in, cursor_in, state_in}
use Rattle.relay_core.specs.Table.{next_of}
use Rattle.relay_core.specs.declared.answers.Answers.{Answers}
use Rattle.relay_core.specs.declared.decision.Next.{Next}
use Rattle.relay_step.proofs.Vain.{last_other, vain_with}
use Rattle.relay_step.proofs.asking.ask_all.Goals as goal

-- what comes next is told by a cursor and an account that are as those
next_as : (cursor known : ℕ) (a b : State) (frame : Frame) (answers : Answers) (r : Next) → cursor ≡ known → a ≡ b → r ≡ next_of cursor a frame answers → r ≡ next_of known b frame answers
next_as cursor known a b frame answers r here same is =
    is ∙ ap (λ n. next_of n a frame answers) here ∙ ap (λ s. next_of known s frame answers) same

pub returns-then-is_fetch-clause-next : goal.returns-then-is_fetch-clause-next
returns-then-is_fetch-clause-next g c =
    next_as c.cursor-cursor.result (cursor_in c.args.core.now c.args.host.now) (state_in c.account_of-account.result) (account_in c.args.core.now c.args.event.now.did) (Frame.Event c.args.event.now) c.asking.answers (Next.Ask c.in-Ask.question) c.cursor-cursor.ensures c.account_of-account.ensures c.in-Ask.ensures

pub ask_one-requires-clause-asks : goal.ask_one-requires-clause-asks
ask_one-requires-clause-asks g c =
    sym (next_as c.cursor-cursor.result (cursor_in c.args.core.now c.args.host.now) (state_in c.account_of-account.result) (account_in c.args.core.now c.args.event.now.did) (Frame.Event c.args.event.now) c.asking.answers (Next.Ask c.in-Ask.question) c.cursor-cursor.ensures c.account_of-account.ensures c.in-Ask.ensures)

pub asking-preserved : goal.asking-preserved
asking-preserved g c = record {
  asked = c.in-Ok.ensures.asked (g.P.Judges.panel c.args.judges.now) (g.C.Clock.moments c.args.clock.now) c.asking.invariant.asked;
  read = c.in-Ok.ensures.read;
  counts = omega (arith, c.asking.invariant.counts, c.in-Ok.ensures.counts);
  unspent = λ name spent. c.asking.invariant.unspent name (c.in-Ok.ensures.unspent (λ err. absurd cc) name spent);
  steady = c.in-Ok.ensures.steady (λ err. absurd cc) ∙ c.asking.invariant.steady;
}

pub returns-in-Err-clause-in_vain : goal.returns-in-Err-clause-in_vain
returns-in-Err-clause-in_vain g c =
    vain_with c.args.host.now c.args.event.now c.asking.answers (g.P.Judges.panel c.args.judges.now) (g.P.Judges.panel c.asking.judges) (g.P.Judges.panel c.ask_one.new.judges) c.asking.invariant.asked.calls c.in-Err.ensures.in_vain

pub returns-in_default : goal.returns-in_default
returns-in_default g c = record {
  asked = c.asking.invariant.asked;
  next = next_as c.cursor-cursor.result (cursor_in c.args.core.now c.args.host.now) (state_in c.account_of-account.result) (account_in c.args.core.now c.args.event.now.did) (Frame.Event c.args.event.now) c.asking.answers c.next_for_event_of_len.result c.cursor-cursor.ensures c.account_of-account.ensures c.next_for_event_of_len.ensures;
  last = last_other c.next_for_event_of_len.result c.in_default.not-Ask;
  in_vain = tt;
  moments = tt;
  caused = tt;
  counts = c.asking.invariant.counts;
  unspent = λ other. c.asking.invariant.unspent;
  steady = λ other. c.asking.invariant.steady;
}
