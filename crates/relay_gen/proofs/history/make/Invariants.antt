use Rattle.std.proofs.Common.{◌≡◌, map}
use Rattle.relay_gen.specs.Commits.{commits_from}
use Rattle.relay_gen.specs.Histories.{generated_messages}
use Rattle.relay_gen.specs.Names.{host_of}
use Rattle.relay_gen.specs.States.{IsBehind}
use Rattle.relay_gen.specs.declared.history.Sent.{Sent}
use Rattle.relay_gen.proofs.history.make.Given as goal

abbrev pub invariant-messages : goal.invariant-messages
invariant-messages l =
    let d = commits_from l.start l.i in record {
      behind : IsBehind d l.maker.draws l.maker.accounts.items l.maker.seqs;
      told : map (λ (s : Sent). (host_of s.account, s.message)) l.sent.items ≡ generated_messages d.commits;
    }
