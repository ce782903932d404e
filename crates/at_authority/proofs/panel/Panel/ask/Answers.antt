use Rattle.std.proofs.Common.{rules, ◌≡◌, ℕ, List, subst}
use Rattle.std.specs.Prelude.{string_bytes}
use Rattle.std.specs.Str.{bytes_eq}
use Rattle.at_syntax.specs.Did.{method_of}
use Rattle.at_authority.specs.Panels.{FirstAt, NonePasses}
use Rattle.at_authority.proofs.Methods.{inside, called, is_call, is_spent_at, is_no_call, never_spent}
use Rattle.at_authority.proofs.panel.Panel.ask.Goals as goal

-- found by the method's name
first_named : {B : Type 0} (method : B → List ℕ) (xs : List B) (i : ℕ) (a b : List ℕ) → a ≡ b → FirstAt (λ x. bytes_eq (method x) a) xs i → FirstAt (λ x. bytes_eq (method x) b) xs i
first_named method xs i a b e h = let P : List ℕ → Type 0 = λ n. FirstAt (λ x. bytes_eq (method x) n) xs i in subst P e h

none_named : {B : Type 0} (method : B → List ℕ) (xs : List B) (a b : List ℕ) → a ≡ b → NonePasses (λ x. bytes_eq (method x) a) xs → NonePasses (λ x. bytes_eq (method x) b) xs
none_named method xs a b e h = let P : List ℕ → Type 0 = λ n. NonePasses (λ x. bytes_eq (method x) n) xs in subst P e h

pub index_mut-requires : goal.index_mut-requires
index_mut-requires g c = let low = inside _ c.args.self.now.lists.items c.in-Some.i c.in-Some.ensures in search rules

pub returns-in-Some-clause-call : goal.returns-in-Some-clause-call
returns-in-Some-clause-call g c =
    is_call (λ b. string_bytes b.method) _ c.args.self.now.lists.items c.in-Some.i c.ask.new.self c.index_mut.result.now c.args.did.now _ (called c.args.did.now c.args.question c.ask.result)
    (first_named (λ b. string_bytes b.method) c.args.self.now.lists.items c.in-Some.i c.method.result.now (method_of c.args.did.now) c.method.ensures.value c.in-Some.ensures) c.index_mut.ensures.value c.ask.ensures.method c.ask.ensures.asks

pub returns-in-Some-clause-spent : goal.returns-in-Some-clause-spent
returns-in-Some-clause-spent g c =
    is_spent_at (λ b. string_bytes b.method) _ c.args.self.now.lists.items (method_of c.args.did.now) c.in-Some.i c.ask.new.self c.index_mut.result.now c.ask.result _
    (first_named (λ b. string_bytes b.method) c.args.self.now.lists.items c.in-Some.i c.method.result.now (method_of c.args.did.now) c.method.ensures.value c.in-Some.ensures) c.index_mut.ensures.value c.ask.ensures.method c.ask.ensures.spent

pub returns-in-None-clause-call : goal.returns-in-None-clause-call
returns-in-None-clause-call g c =
    is_no_call (λ b. string_bytes b.method) _ c.args.self.now.lists.items c.args.did.now c.args.question (none_named (λ b. string_bytes b.method) c.args.self.now.lists.items c.method.result.now (method_of c.args.did.now) c.method.ensures.value c.in-None.ensures)

pub returns-in-None-clause-spent : goal.returns-in-None-clause-spent
returns-in-None-clause-spent g c = (
  λ e. absurd cc,
  λ s. absurd (never_spent (λ b. string_bytes b.method) _ c.args.self.now.lists.items (method_of c.args.did.now) (none_named (λ b. string_bytes b.method) c.args.self.now.lists.items c.method.result.now (method_of c.args.did.now) c.method.ensures.value c.in-None.ensures) s),
)
