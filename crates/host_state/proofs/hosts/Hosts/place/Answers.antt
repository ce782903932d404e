use Rattle.std.proofs.Common.{◌≡◌, List, Some, slice_get, sym, ap, ◌∙◌}
use Rattle.std.proofs.lemmas.Slice.Eq.{bytes_eq-Decides}
use Rattle.std.specs.String.{string_bytes}
use Rattle.host_state.proofs.Listed.{Entry, place_is, found_at}
use Rattle.host_state.proofs.hosts.Hosts.place.Goals as goal

pub returns-in-Some-clause-place : goal.returns-in-Some-clause-place
returns-in-Some-clause-place c =
    let there : slice_get c.args.self.now.map.entries c.args.self.now.recent ≡ Some (c.in-Some.name.now, c.in-Some.field-0-1.now) = ap (λ (es : List Entry). slice_get es c.args.self.now.recent) (sym c.as_slice.ensures.entries) ∙ sym c.in-Some.ensures.entry in
    let is : string_bytes c.in-Some.name.now ≡ c.args.host.now = sym c.as_str.ensures.value ∙ (bytes_eq-Decides c.as_str.result.now c.args.host.now).0 (sym c.eq.ensures ∙ c.if-eq.true) in
    sym (place_is c.args.host.now c.args.self.now.map.entries c.args.self.now.recent c.in-Some.name.now c.in-Some.field-0-1.now c.as_slice.ensures.unique there is)

pub returns-in-Some-clause-found : goal.returns-in-Some-clause-found
returns-in-Some-clause-found c =
    let there : slice_get c.args.self.now.map.entries c.args.self.now.recent ≡ Some (c.in-Some.name.now, c.in-Some.field-0-1.now) = ap (λ (es : List Entry). slice_get es c.args.self.now.recent) (sym c.as_slice.ensures.entries) ∙ sym c.in-Some.ensures.entry in
    let is : string_bytes c.in-Some.name.now ≡ c.args.host.now = sym c.as_str.ensures.value ∙ (bytes_eq-Decides c.as_str.result.now c.args.host.now).0 (sym c.eq.ensures ∙ c.if-eq.true) in
    found_at c.args.host.now c.args.self.now.map.entries c.args.self.now.recent (place_is c.args.host.now c.args.self.now.map.entries c.args.self.now.recent c.in-Some.name.now c.in-Some.field-0-1.now c.as_slice.ensures.unique there is)
