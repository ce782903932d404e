-- A body that is put together behind the place of what stands ahead of it.
use Rattle.std.proofs.Common.{◌≡◌, ℕ, ◌+◌, ◌≤◌, List, ◌++◌, length, take, drop, sym, ◌∙◌, ap, arith, append_assoc, length-append}
use Rattle.std.proofs.lemmas.List.{take_at, drop_at, drop-drop, length-take-le, drop-append-le}
use Rattle.relay_disk.specs.Disk.{written}
use Rattle.gate_log.specs.declared.pending_bodies.TheConstants.{AHEAD}
use Rattle.gate_log.specs.declared.limits.TheConstants.{LENGTH_LEN}
use Rattle.gate_log.specs.PendingBodies.{body_in}

-- what is added at the end of the room is added at the end of the body
pub body_more : (head room more : List ℕ) → AHEAD ≤ length room → body_in head (room ++ more) ≡ body_in head room ++ more
body_more head room more begun = ap (λ (l : List ℕ). head ++ l) (drop-append-le AHEAD room more begun) ∙ sym (append_assoc head (drop AHEAD room) more)

-- the length and the head, written one behind the other in front of what was put into the room
pub laid_ahead : (room len head : List ℕ) (start : ℕ) → length len ≡ LENGTH_LEN → start + LENGTH_LEN + length head ≡ AHEAD → AHEAD ≤ length room
    → drop start (written (start + LENGTH_LEN) head (written start len room)) ≡ len ++ body_in head room
laid_ahead room len head start four six begun =
    let front = take start room in
    let front_long : length front ≡ start = length-take-le start room (omega arith) in
    let once = written start len room in
    let behind = drop (start + length len) room in
    let ahead_long : length (front ++ len) ≡ start + LENGTH_LEN = omega (arith, length-append front len, front_long) in
    let kept : take (start + LENGTH_LEN) once ≡ front ++ len = take_at (front ++ len) behind (start + LENGTH_LEN) ahead_long in
    let behind_both : start + length len + length head ≡ AHEAD = omega arith in
    let rest : drop (start + LENGTH_LEN + length head) once ≡ drop AHEAD room =
    sym (drop-drop (length head) (start + LENGTH_LEN) once) ∙ ap (λ (l : List ℕ). drop (length head) l) (drop_at (front ++ len) behind (start + LENGTH_LEN) ahead_long)
    ∙ drop-drop (length head) (start + length len) room ∙ ap (λ (k : ℕ). drop k room) behind_both in
    ap (λ (l : List ℕ). drop start (l ++ head ++ drop (start + LENGTH_LEN + length head) once)) kept
    ∙ ap (λ (l : List ℕ). drop start (front ++ len ++ head ++ l)) rest
    ∙ ap (λ (l : List ℕ). drop start l) (append_assoc (front ++ len) head (drop AHEAD room) ∙ append_assoc front len (head ++ drop AHEAD room))
    ∙ drop_at front (len ++ (head ++ drop AHEAD room)) start front_long
