use Rattle.std.proofs.Common.{◌≡◌, ◌≤◌, ◌-◌, ℕ, List, IsTrue}
use Rattle.mirror_run.specs.Reading.{coming}
use Rattle.mirror_run.specs.Taking.{HasTaken}
use Rattle.mirror_run.proofs.taking.take_stream.Given as goal

abbrev pub invariant-messages : goal.invariant-messages
invariant-messages g l =
    let left = g.I.Source.left in
    let repository = g.R.Repos.repository in
    record {
      taken : HasTaken g.I.Source.tells g.R.Repos.tells (repository l.fn.repos) (left l.fn.input) (coming l.reader (left l.input)) l.reader.place l.mirror l.events;
      most : l.reader.most ≡ l.limit;
      few : l.events ≤ l.reader.place;
      repositories : IsTrue g.R.Repos.tells → (did : List ℕ) → repository l.repos did ≡ repository l.fn.repos did;
      input : g.I.Source.faults l.input ≡ g.I.Source.faults l.fn.input;
      repos : g.R.Repos.faults l.repos ≡ g.R.Repos.faults l.fn.repos;
    }

abbrev pub decreases-messages : goal.decreases-messages
decreases-messages g l = l.limit - l.reader.place
