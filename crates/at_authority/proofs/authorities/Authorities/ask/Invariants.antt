use Rattle.std.proofs.Common.{◌≡◌, ◌-◌, length, string_bytes}
use Rattle.at_authority.specs.Panels.{authorities_of}
use Rattle.at_authority.proofs.MethodLists.{Goes}
use Rattle.at_authority.proofs.authorities.Authorities.ask.Given as goal

abbrev pub invariant-loop-self : goal.invariant-loop-self
invariant-loop-self g l = record {
  goes : Goes (λ a. (goal.Authority-dyn g (a.vtable, a.value)).tells a.value) (λ a. (goal.Authority-dyn g (a.vtable, a.value)).faults a.value)
      (authorities_of (λ a. (goal.Authority-dyn g (a.vtable, a.value)).tells a.value) (λ a. (goal.Authority-dyn g (a.vtable, a.value)).faults a.value) l.fn.self.entries.items l.fn.self.fallen) l.self.entries.items l.self.fallen;
  method : string_bytes l.self.method ≡ string_bytes l.fn.self.method;
}

abbrev pub decreases-loop-self : goal.decreases-loop-self
decreases-loop-self g l = length l.self.entries.items - l.self.fallen
