-- What is built behind a closed gate, and what a crash leaves of it.
use Rattle.std.proofs.Common.{◌≡◌, ℕ, ◌+◌, ◌≤◌, List, [], ◌∷◌, ◌++◌, length, get_or, take, drop, refl, sym, ◌∙◌, ap, arith, append_assoc, length-append}
use Rattle.std.proofs.lemmas.List.{take_at, get_or-take, append-nil, drop_all}
use Rattle.relay_disk.specs.Disk.{View, Goes, IsDisk, Torn, written}
use Rattle.relay_disk.specs.Moments.{LeavesOnly}
use Rattle.relay_disk.proofs.Moments.{one_call}
use Rattle.gate_log.specs.declared.format.Format.{Format}
use Rattle.gate_log.specs.declared.format.Format.TheVariants.{One, Two}
use Rattle.gate_log.specs.Image.{made, records, AreShort}
use Rattle.gate_log.specs.Build.{Builds, IsClosed, shut}
use Rattle.gate_log.proofs.Append.{made-append}

-- a write behind the first byte leaves it
closed_torn : (place n : ℕ) (d c : List ℕ) → 1 ≤ place → Torn place n d c → IsClosed d → IsClosed c
closed_torn place n d c behind torn closed is =
    closed (sym (get_or-take place d 0 0 behind) ∙ ap (λ (l : List ℕ). get_or l 0 0) (sym torn.before) ∙ get_or-take place c 0 0 behind ∙ is)

-- what is built begins with a closed gate
shut_front : (format : Format) (bodies : List (List ℕ)) (tail : List ℕ) → shut (made format bodies ++ tail) ≡ shut (made format bodies) ++ tail
shut_front One bodies tail = refl
shut_front (Two generation) bodies tail = refl

shut_long : (format : Format) (bodies : List (List ℕ)) → length (shut (made format bodies)) ≡ length (made format bodies)
shut_long One bodies = refl
shut_long (Two generation) bodies = refl

pub made_some : (format : Format) (bodies : List (List ℕ)) → 1 ≤ length (made format bodies)
made_some One bodies = omega arith
made_some (Two generation) bodies = omega arith

module _ (format : Format) (bodies : List (List ℕ)) (end : ℕ) (old : View) (builds : Builds format bodies end old) where
  closed_now : (n : ℕ) (new : View) → Goes (Torn end n) old new → (c : List ℕ) → new.may_leave c → IsClosed c
  closed_now n new goes c left =
      let from = goes.follows c left in
      closed_torn end n from.0 c (omega (arith, builds.ends, made_some format bodies)) from.2 (builds.left from.0 from.1)

  -- while records are added
  pub closed_still : (n : ℕ) (new : View) → IsDisk old → IsDisk new → Goes (Torn end n) old new → LeavesOnly IsClosed old new
  closed_still n new disk disk_now goes = one_call IsClosed (Torn end n) old new disk disk_now goes builds.left (closed_now n new goes)

  pub builds_long : length old.content ≡ end + 1
  builds_long = omega (arith, builds.ends, ap length builds.now, ap length (shut_front format bodies (0 ∷ [])), length-append (shut (made format bodies)) (0 ∷ []), shut_long format bodies)

  -- and once they are
  pub more_built : (held : List (List ℕ)) (piece : List ℕ) (new : View) → AreShort (bodies ++ held) → piece ≡ records held ++ 0 ∷ [] → Goes (Torn end (length piece)) old new
      → new.content ≡ written end piece old.content → Builds format (bodies ++ held) (length (made format (bodies ++ held))) new
  more_built held piece new short is goes content =
      let first = shut (made format bodies) in
      let old_is : old.content ≡ first ++ 0 ∷ [] = builds.now ∙ shut_front format bodies (0 ∷ []) in
      let long : length first ≡ end = shut_long format bodies ∙ sym builds.ends in
      let kept : take end old.content ≡ first = ap (λ (l : List ℕ). take end l) old_is ∙ take_at first (0 ∷ []) end long in
      let size : 1 ≤ length piece = omega (arith, ap length is, length-append (records held) (0 ∷ [])) in
      let none : drop (end + length piece) old.content ≡ [] = drop_all (end + length piece) old.content (omega (arith, builds_long, size)) in
      let now : new.content ≡ first ++ piece = content ∙ (λ i. kept i ++ piece ++ none i) ∙ append-nil (first ++ piece) in
      let all : made format (bodies ++ held) ++ 0 ∷ [] ≡ made format bodies ++ (records held ++ 0 ∷ []) =
      ap (λ (l : List ℕ). l ++ 0 ∷ []) (made-append format bodies held) ∙ append_assoc (made format bodies) (records held) (0 ∷ []) in
      record {
        ends = refl;
        now = now ∙ ap (λ (l : List ℕ). first ++ l) is ∙ sym (shut_front format bodies (records held ++ 0 ∷ [])) ∙ ap shut (sym all);
        left = closed_now (length piece) new goes;
        short = short;
        below = builds.below;
      }
