use Rattle.std.proofs.Common.{◌∙◌, List, [], ◌∷◌, ◌++◌, sym, ap, subst}
use Rattle.std.proofs.lemmas.Result.{on_ok_weaker, on_err_weaker}
use Rattle.row_codec.specs.Bodies.{row_encoding}
use Rattle.relay_row.specs.declared.row.Row.{Row}
use Rattle.relay_row.specs.declared.taken.Taken.{Taken}
use Rattle.event_window.specs.declared.place.Place.{Place}
use Rattle.relay_core.specs.Entries.{Holds}
use Rattle.relay_store.specs.Places.{place_of}
use Rattle.store_take.proofs.MessagesApart.{same_place, same_state}
use Rattle.store_take.proofs.Rooms.{cut_again, fits_again, full_of}
use Rattle.store_take.proofs.adding.add_new_row.Goals as goal

pub take_in-taken-requires-clause-fits : goal.take_in-taken-requires-clause-fits
take_in-taken-requires-clause-fits c = fits_again c.args.log.now c.args.pending.now _ c.requires.fits (cut_again _ c.args.pending.now.body (row_encoding (Row.Taken c.args.new_row)) _ c.len-start.ensures c.in-Ok.ensures.written)

pub returns-in-Ok-clause-ok : goal.returns-in-Ok-clause-ok
returns-in-Ok-clause-ok c =
    on_ok_weaker c.take_in-taken.result (λ applied. record {
      core = λ J holds. subst (Holds _) (ap (λ (t : Taken). J ++ Row.Taken t ∷ []) c.into_parts.ensures) (same_state _ J c.into_parts.result c.args.new_row.message (applied.core J holds));
      window = applied.window ∙ ap (λ (l : List Place). c.args.window.now.places ++ l) (sym (same_place c.args.log.now.end c.args.pending.now.count c.into_parts.result c.args.new_row.message) ∙ ap (λ (t : Taken). place_of c.args.log.now.end c.args.pending.now.count (Row.Taken t)) c.into_parts.ensures);
      body = applied.body ∙ c.in-Ok.ensures.written;
      count = applied.count;
    }) c.take_in-taken.ensures.ok

pub returns-in-Ok-clause-as_before : goal.returns-in-Ok-clause-as_before
returns-in-Ok-clause-as_before c =
    on_err_weaker c.take_in-taken.result (λ same. record {
      core = same.core;
      window = same.window;
      body = same.body ∙ cut_again _ c.args.pending.now.body (row_encoding (Row.Taken c.args.new_row)) _ c.len-start.ensures c.in-Ok.ensures.written;
      count = same.count;
    }) c.take_in-taken.ensures.as_before

pub returns-in-Ok-clause-full : goal.returns-in-Ok-clause-full
returns-in-Ok-clause-full c = λ e is rows has. full_of c.args.log.now rows (Row.Taken c.args.new_row) c.args.pending.now _ _ e has c.len-start.ensures c.in-Ok.ensures.written (c.take_in-taken.ensures.full e is)
