use Rattle.std.proofs.Common.{◌≡◌, ◌+◌, ◌++◌, ◌∷◌, [], ℕ, List, suc, map, sym, ap, ◌∙◌, subst, arith}
use Rattle.std.proofs.lemmas.List.{map-append}
use Rattle.relay_gen.specs.declared.history.Sent.{Sent}
use Rattle.relay_gen.specs.Draws.{drawn, next as draw}
use Rattle.relay_gen.specs.Commits.{generated_commit, commits_from, last_of, generated_ops, with_commit}
use Rattle.relay_gen.specs.Histories.{generated_messages}
use Rattle.relay_gen.specs.Messages.{message}
use Rattle.relay_gen.specs.Names.{host_of}
use Rattle.relay_gen.specs.States.{IsBehind}
use Rattle.relay_gen.proofs.Befores.{before_up, commits_before}
use Rattle.relay_gen.proofs.history.make.Goals as goal

pub next-requires-clause-before : goal.next-requires-clause-before
next-requires-clause-before c =
    let i = c.messages.i in let d = commits_from c.args.start i in let low = c.messages-test.true in let most = c.requires.most in
    (d, c.messages.invariant.behind, before_up (suc i) (i + 1) d.commits (omega arith) (commits_before c.args.start i (omega arith)))

pub messages-preserved : goal.messages-preserved
messages-preserved c =
    let i = c.messages.i in let d = commits_from c.args.start i in let x = c.in_ok-next.field-0 in
    let one : Sent → List ℕ × List ℕ = λ s. (host_of s.account, s.message) in
    let next : suc i ≡ i + 1 = omega arith in
    let B : ℕ → Type 0 = λ n. IsBehind (commits_from c.args.start n) c.next.new.self.draws c.next.new.self.accounts.items c.next.new.self.seqs in
    let T : ℕ → Type 0 = λ n. map one c.push.new.self.items ≡ generated_messages (commits_from c.args.start n).commits in
    let H : ℕ → Type 0 = λ k. IsBehind (with_commit k d) c.next.new.self.draws c.next.new.self.accounts.items c.next.new.self.seqs in
    let last = c.in_ok-next.ensures.sent d c.messages.invariant.behind in
    record {
      behind = subst B next (subst H (sym next) (c.in_ok-next.ensures.behind d c.messages.invariant.behind));
      told = ap (map one) c.in_ok-push.ensures.items ∙ map-append one c.messages.sent.items (x ∷ []) ∙ ap (λ m. m ++ one x ∷ []) c.messages.invariant.told
          ∙ ap (λ m. generated_messages d.commits ++ m ∷ []) (ap (λ k. (host_of k, x.message)) (sym last.0) ∙ ap (λ m. (host_of (drawn 16 (draw d.state)), m)) (sym last.1))
          ∙ ap (λ k. generated_messages d.commits ++ (host_of (drawn 16 (draw d.state)), message (generated_commit k (drawn 16 (draw d.state)) d.commits (generated_ops (last_of (drawn 16 (draw d.state)) d.commits) k (draw d.state)).ops)) ∷ []) (sym next)
          ∙ ap (λ k. generated_messages (commits_from c.args.start k).commits) next;
    }

pub keys-requires : goal.keys-requires
keys-requires c =
    let i = c.messages.i in let d = commits_from c.args.start i in let low = c.messages-test.false in let most = c.requires.most in let end = c.messages.auto.i-end in
    (d, c.messages.invariant.behind, before_up (suc i) 100001 d.commits (omega arith) (commits_before c.args.start i (omega arith)))
