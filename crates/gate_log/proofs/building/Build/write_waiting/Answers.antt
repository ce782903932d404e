use Rattle.std.proofs.Common.{◌≡◌, ◌-◌, ◌∷◌, [], ◌++◌, refl, sym, subst, arith, rules}
use Rattle.std.proofs.lemmas.Result.{on_ok_weaker}
use Rattle.gate_log.specs.Build.{BuildState, HasBuilt, IsBuiltOn}
use Rattle.gate_log.proofs.Waiting.{all_written, closed_writing, place_inside}
use Rattle.gate_log.proofs.building.Build.write_waiting.Goals as goal

pub write_at-answer-requires-clause-inside : goal.write_at-answer-requires-clause-inside
write_at-answer-requires-clause-inside g c = λ tells.
    let on = subst (λ (s : BuildState). IsBuiltOn (g.D.Disk.view c.args.disk.now) s) (sym c.self.view_is) (c.requires tells) in
    place_inside _ _ _ on.1 (c.self.inside.end - c.len.result) (omega arith)

pub returns-clause-written : goal.returns-clause-written
returns-clause-written g c = on_ok_weaker c.write_at-answer.result (λ content tells bodies has.
    let on = subst (λ (s : BuildState). HasBuilt bodies s (g.D.Disk.view c.args.disk.now)) (sym c.self.view_is) has in
    let piece : c.deref.result.now ≡ c.self.inside.room.items ++ 0 ∷ [] = search rules in
    all_written _ _ _ on (c.self.inside.end - c.len.result) (omega arith) _ _ piece c.write_at-answer.ensures.goes (content tells) _ refl c.clear.ensures.items) c.write_at-answer.ensures.ok

pub returns-clause-moments : goal.returns-clause-moments
returns-clause-moments g c = λ tells.
    let on = subst (λ (s : BuildState). IsBuiltOn (g.D.Disk.view c.args.disk.now) s) (sym c.self.view_is) (c.requires tells) in
    closed_writing _ _ _ on.1 (c.self.inside.end - c.len.result) (omega arith) _ _ (g.met.D.Disk.is_disk _) (g.met.D.Disk.is_disk _) c.write_at-answer.ensures.goes
