use Rattle.std.proofs.Common.{◌∙◌, arith, ap, sym}
use Rattle.std.specs.Prelude.{◌+◌, map}
use Rattle.event_window.specs.Held.{first_or, oldest_of}
use Rattle.event_window.specs.declared.place.Place.{Place}
use Rattle.relay_store.proofs.Reread.{last_fits, oldest_is}
use Rattle.store_read.proofs.reading.EventReaderEvents.oldest.Goals as goal

pub returns : goal.returns
returns g c = λ tells held has.
    c.oldest.ensures (omega (arith, last_fits has.0 has.1.are.journal, has.1.core.last))
    ∙ ap (λ n. first_or (map (λ (p : Place). p.seq) c.args.self.now.store.now.window.places) (n + 1)) has.1.core.last
    ∙ oldest_is has.0 _ _ has.1 ∙ ap oldest_of (sym has.2)
