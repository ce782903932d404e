use Rattle.std.proofs.Common.{◌+◌, ◌∙◌, Fits, w8, sym, subst}
use Rattle.row_codec.proofs.BytesFronts.{first_there, front_fits}
use Rattle.row_codec.proofs.writing.write_bytes_front.Goals as goal

pub overflow_add-first : goal.overflow_add-first
overflow_add-first c =
    subst (λ n. Fits w8 (64 + n)) (sym (first_there c.args.out.now _ c.args.len _ c.len-place.ensures (c.as_slice.ensures.value ∙ c.in_ok-write_number.ensures.written))) (front_fits c.args.len)
