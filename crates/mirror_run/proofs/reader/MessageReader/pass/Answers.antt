use Rattle.std.proofs.Common.{◌≡◌, ℕ, ◌+◌, List, ◌++◌, length, drop, sym, ap, ◌∙◌, arith, length-append, length-drop}
use Rattle.std.proofs.lemmas.List.{drop_at}
use Rattle.at_cid.specs.Lengths.{length_prefixed}
use Rattle.tape.specs.ReadAhead.{items}
use Rattle.mirror_run.proofs.Fronts.{length_frame}
use Rattle.mirror_run.proofs.reader.MessageReader.pass.Goals as goal

pub invariant_of-self : goal.invariant_of-self
invariant_of-self c =
    let old = c.args.self.now.window in
    let new = c.consume.new.self in
    let gone : length (items new) ≡ length (drop (4 + c.len-size.result) (items old)) = ap length c.consume.ensures in
    let whole = ap length c.requires.1 in
    record { within = omega (arith, gone, whole, c.args.self.now.within, length-drop (4 + c.len-size.result) (items old), length-append (length_prefixed c.args.message.now) c.requires.0, length_frame c.args.message.now, c.len-size.ensures) }

pub returns-clause-held : goal.returns-clause-held
returns-clause-held c =
    let bytes = length_prefixed c.args.message.now in
    let size = 4 + c.len-size.result in
    let long : length bytes ≡ size = omega (arith, length_frame c.args.message.now, c.len-size.ensures) in
    c.requires.1 ∙ ap (λ (l : List ℕ). bytes ++ l) (sym (c.consume.ensures ∙ ap (λ (l : List ℕ). drop size l) c.requires.1 ∙ drop_at bytes c.requires.0 size long))
