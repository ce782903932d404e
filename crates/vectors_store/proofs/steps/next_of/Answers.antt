use Rattle.vectors_store.proofs.steps.next_of.Goals as goal

pub next_after-found-requires : goal.next_after-found-requires
next_after-found-requires g c = record {
  known = λ told.
      let kept = c.requires told in
      (_, c.events-reader.ensures.held told kept.0 kept.1);
}
