use Rattle.std.proofs.Common.{◌≡◌, ℕ, List, sym, subst}
use Rattle.std.specs.Prelude.{string_bytes, codes}
use Rattle.at_authority.specs.declared.line.Line.{Line}
use Rattle.at_authority.specs.Standing.{IsOfKind, IsRead}
use Rattle.at_authority.proofs.Standings.{home_stands, trust_stands, good_stands}
use Rattle.at_authority.proofs.table.Table.add.Goals as goal

read_as : (text : List ℕ) (line other : Line) → line ≡ other → IsRead text line → IsRead text other
read_as text line other e h = let P : Line → Type 0 = λ l. IsRead text l in subst P e h

kept : (text kind rest key : List ℕ) → key ≡ rest → IsOfKind text kind rest → IsOfKind text kind key
kept text kind rest key e h = let P : List ℕ → Type 0 = λ s. IsOfKind text kind s in subst P (sym e) h

pub returns-in_ok-insert-in-Home : goal.returns-in_ok-insert-in-Home
returns-in_ok-insert-in-Home c = λ text lines h stands.
    let name = c.in_ok-did-in-Home.did in
    let home = c.in_ok-host-in-Home.host in
    let line = read_as text c.args.line (Line.Home c.in-Home.did c.in-Home.host) c.in-Home.is h in
    home_stands c.args.self.now c.insert.new.self name home c.in-Home.did.now c.in-Home.host.now text lines line.0 line.1 line.2 c.in_ok-did-in-Home.ensures.ok c.in_ok-host-in-Home.ensures.ok c.in_ok-insert-in-Home.ensures.updates stands

pub returns-in_ok-insert-in-Trust : goal.returns-in_ok-insert-in-Trust
returns-in_ok-insert-in-Trust c = λ text lines h stands.
    let name = c.in_ok-did-in-Trust.did in
    let line = read_as text c.args.line (Line.Trust c.in-Trust.did) c.in-Trust.is h in
    trust_stands c.args.self.now c.insert-in-Trust.new.self (string_bytes name) text lines (kept text (codes "trust") c.in-Trust.did.now (string_bytes name) c.in_ok-did-in-Trust.ensures.ok line) c.in_ok-insert-in-Trust.ensures.updates stands

pub returns-in_ok-insert-in-Good : goal.returns-in_ok-insert-in-Good
returns-in_ok-insert-in-Good c = λ text lines h stands.
    let name = c.in_ok-part-in-Good.part in
    let line = read_as text c.args.line (Line.Good c.in-Good.part) c.in-Good.is h in
    good_stands c.args.self.now c.insert-in-Good.new.self (string_bytes name) text lines (kept text (codes "good") c.in-Good.part.now (string_bytes name) c.in_ok-part-in-Good.ensures.ok line) c.in_ok-insert-in-Good.ensures.updates stands
