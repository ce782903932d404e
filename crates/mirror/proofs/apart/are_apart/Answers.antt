use Rattle.mirror.proofs.Differing.{apart_test_ok}
use Rattle.mirror.proofs.apart.are_apart.Goals as goal

pub returns : goal.returns
returns c = apart_test_ok _ _ _ c.as_slice.ensures.value c.keys_differ.ensures
