use Rattle.std.proofs.Common.{◌≡◌, ap, ◌∙◌, sym, subst}
use Rattle.std.specs.Prelude.{codes, Option, None, MatchOption, false, List, ℕ}
use Rattle.at_syntax.specs.Did.{is_did}
use Rattle.at_authority.specs.declared.line.Line.{Line}
use Rattle.at_authority.specs.Standing.{IsRead}
use Rattle.at_authority.specs.Tables.{is_line, is_home_rest, is_good_rest, first_field, other_fields}
use Rattle.at_authority.proofs.Lines.{nothing_read, home_found, trust_found, good_found, not_of_kind, not_passing, of_no_kind, no_home_found}
use Rattle.at_authority.proofs.line.read.Goals as goal
use Rattle.at_authority.proofs.line.read.Goals.{else-eq-2-via-then-eq-2+else-did_ok, else-eq-2-via-else-eq-2, else-eq-3-via-then-eq-3+else-is_good, else-eq-3-via-else-eq-3}

-- what is answered where a line is none of a table
none : (text : List ℕ) (o : Option Line) → o ≡ None → is_line text ≡ false → MatchOption o (is_line text ≡ false) (IsRead text)
none text o e h = let P : Option Line → Type 0 = λ o. MatchOption o (is_line text ≡ false) (IsRead text) in subst P (sym e) h

pub returns-in_err-kind : goal.returns-in_err-kind
returns-in_err-kind c = none c.args.text.now c.from_residual.result c.from_residual.ensures (nothing_read c.args.text.now c.in_err-kind.ensures)

pub returns-in_err-did : goal.returns-in_err-did
returns-in_err-did c = none c.args.text.now c.from_residual-in_err-did.result c.from_residual-in_err-did.ensures (no_home_found c.args.text.now c.in_ok-kind.kind.now c.in_ok-kind.rest.now c.in_ok-kind.ensures (sym c.eq.ensures ∙ c.if-eq.true) c.in_err-did.ensures)

pub returns-then-eq : goal.returns-then-eq
returns-then-eq c = (
  home_found c.args.text.now c.in_ok-kind.kind.now c.in_ok-kind.rest.now c.in_ok-kind.ensures (sym c.eq.ensures ∙ c.if-eq.true) (c.in_ok-did.ensures).0,
  (c.in_ok-did.ensures).1 ∙ ap first_field (c.in_ok-kind.ensures).1,
  (c.in_ok-did.ensures).2 ∙ ap other_fields (c.in_ok-kind.ensures).1,
)

pub returns-then-did_ok : goal.returns-then-did_ok
returns-then-did_ok c = trust_found c.args.text.now c.in_ok-kind.kind.now c.in_ok-kind.rest.now c.in_ok-kind.ensures (sym c.eq-2.ensures ∙ c.if-eq-2.true) (sym c.did_ok.ensures.test ∙ c.if-did_ok.true)

pub returns-then-is_good : goal.returns-then-is_good
returns-then-is_good c = good_found c.args.text.now c.in_ok-kind.kind.now c.in_ok-kind.rest.now c.in_ok-kind.ensures (sym c.eq-3.ensures ∙ c.if-eq-3.true) (sym c.is_good.ensures ∙ c.if-is_good.true)

pub returns : goal.returns
returns c =
    let text = c.args.text.now in
    let kind = c.in_ok-kind.kind.now in
    let rest = c.in_ok-kind.rest.now in
    of_no_kind text (not_of_kind (codes "home") text kind rest is_home_rest c.in_ok-kind.ensures (sym c.eq.ensures ∙ c.if-eq.false))
    (elim c.else-eq-2.branch [
      | else-eq-2-via-then-eq-2+else-did_ok w ↦ not_passing (codes "trust") text kind rest is_did c.in_ok-kind.ensures (sym w.did_ok.ensures.test ∙ w.if-did_ok.false)
      | else-eq-2-via-else-eq-2 w ↦ not_of_kind (codes "trust") text kind rest is_did c.in_ok-kind.ensures (sym c.eq-2.ensures ∙ w.if-eq-2.false)
    ])
    (elim c.else-eq-3.branch [
      | else-eq-3-via-then-eq-3+else-is_good w ↦ not_passing (codes "good") text kind rest is_good_rest c.in_ok-kind.ensures (sym w.is_good.ensures ∙ w.if-is_good.false)
      | else-eq-3-via-else-eq-3 w ↦ not_of_kind (codes "good") text kind rest is_good_rest c.in_ok-kind.ensures (sym c.eq-3.ensures ∙ w.if-eq-3.false)
    ])
