use Rattle.std.proofs.Common.{◌≡◌, ℕ, ◌+◌, List, ◌++◌, length, drop, sym, ap, ◌∙◌, arith, length-append, length-drop}
use Rattle.std.proofs.lemmas.List.{drop_at}
use Rattle.tape.specs.Format.{record_bytes}
use Rattle.tape.specs.ReadAhead.{items}
use Rattle.tape.proofs.Windows.{length_items}
use Rattle.tape.proofs.Fronts.{length_record}
use Rattle.tape.proofs.tape.Tape.pass.Goals as goal

pub invariant_of-self : goal.invariant_of-self
invariant_of-self c =
    let old = c.args.self.now.window in
    let new = c.consume.new.self in
    let before = length_items old.room.items old.start old.end old.ordered old.inside in
    let after = length_items new.room.items new.start new.end new.ordered new.inside in
    let gone : length (items new) ≡ length (drop (5 + c.len.result + c.len-2.result) (items old)) = ap length c.consume.ensures in
    let whole = ap length c.requires.1 in
    record { within = omega (arith, before, after, gone, whole, c.args.self.now.within, length-drop (5 + c.len.result + c.len-2.result) (items old), length-append (record_bytes c.args.record.now.host c.args.record.now.message) c.requires.0, length_record c.args.record.now.host c.args.record.now.message) }

pub returns-clause-held : goal.returns-clause-held
returns-clause-held c =
    let bytes = record_bytes c.args.record.now.host c.args.record.now.message in
    let size = 5 + c.len.result + c.len-2.result in
    let long : length bytes ≡ size = omega (arith, length_record c.args.record.now.host c.args.record.now.message, c.len.ensures, c.len-2.ensures) in
    c.requires.1 ∙ ap (λ (l : List ℕ). bytes ++ l) (sym (c.consume.ensures ∙ ap (λ (l : List ℕ). drop size l) c.requires.1 ∙ drop_at bytes c.requires.0 size long))
