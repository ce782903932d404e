-- The records of a build that wait, and that are written together.
use Rattle.std.proofs.Common.{◌≡◌, ℕ, ◌+◌, ◌<◌, ◌≤◌, List, [], ◌∷◌, ◌++◌, length, refl, sym, ◌∙◌, ap, subst, arith, append_assoc, length-append}
use Rattle.std.proofs.lemmas.List.{append-nil}
use Rattle.relay_disk.specs.Disk.{View, Goes, IsDisk, Torn, written}
use Rattle.relay_disk.specs.Moments.{LeavesOnly}
use Rattle.gate_log.specs.declared.limits.TheConstants.{BEFORE_BODY, BODY_LENGTHS}
use Rattle.gate_log.specs.Image.{made, records, AreShort}
use Rattle.at_cid.specs.Lengths.{length_prefixed}
use Rattle.gate_log.specs.Build.{BuildState, Builds, HasBuilt, IsClosed}
use Rattle.gate_log.proofs.Append.{made-append, made-push, records-push, AreShort-push}
use Rattle.gate_log.proofs.Closed.{builds_long, closed_still, more_built}

module _ (bodies : List (List ℕ)) (build : BuildState) (v : View) (has : HasBuilt bodies build v) where
  -- one more waits
  pub held_more : (body : List ℕ) → length body < BODY_LENGTHS → (now : BuildState)
      → now ≡ record build { end = build.end + BEFORE_BODY + length body; waiting = build.waiting ++ 1 ∷ length_prefixed body } → HasBuilt (bodies ++ body ∷ []) now v
  held_more body is_short now is = subst (λ (b : BuildState). HasBuilt (bodies ++ body ∷ []) b v) (sym is) (record {
    on_disk = has.on_disk;
    held = has.held ++ body ∷ [];
    split = ap (λ (l : List (List ℕ)). l ++ body ∷ []) has.split ∙ append_assoc has.on_disk has.held (body ∷ []);
    waits = ap (λ (l : List ℕ). l ++ 1 ∷ length_prefixed body) has.waits ∙ sym (records-push has.held body);
    ends = omega (arith, has.ends, ap length (made-push build.format bodies body), length-append (made build.format bodies) (1 ∷ length_prefixed body));
    short = AreShort-push bodies body has.short is_short;
    built = has.built;
  })

  module _ (place : ℕ) (is : place + length build.waiting ≡ build.end) where
    -- they go behind those that are written
    place_is : place ≡ length (made build.format has.on_disk)
    place_is = omega (
      arith,
      is,
      has.ends,
      ap (λ (bs : List (List ℕ)). length (made build.format bs)) has.split,
      ap length (made-append build.format has.on_disk has.held),
      length-append (made build.format has.on_disk) (records has.held),
      ap length has.waits,
    )

    pub place_inside : place ≤ length v.content
    place_inside = omega (arith, place_is, builds_long _ _ _ _ has.built)

    -- while they are written
    pub closed_writing : (n : ℕ) (w : View) → IsDisk v → IsDisk w → Goes (Torn place n) v w → LeavesOnly IsClosed v w
    closed_writing n w disk disk_now goes = closed_still _ _ _ _ has.built n w disk disk_now (subst (λ (p : ℕ). Goes (Torn p n) v w) place_is goes)

    -- and once they are
    pub all_written : (piece : List ℕ) (w : View) → piece ≡ build.waiting ++ 0 ∷ [] → Goes (Torn place (length piece)) v w
        → w.content ≡ written place piece v.content → (now : BuildState) → now ≡ record build { waiting = now.waiting } → now.waiting ≡ [] → HasBuilt bodies now w
    all_written piece w whole goes content now is_now none = subst (λ (b : BuildState). HasBuilt bodies b w) (sym (is_now ∙ ap (λ (l : List ℕ). record build { waiting = l }) none)) (record {
      on_disk = bodies;
      held = [];
      split = sym (append-nil bodies);
      waits = refl;
      ends = has.ends;
      short = has.short;
      built = subst (λ (bs : List (List ℕ)). Builds build.format bs (length (made build.format bs)) w) (sym has.split)
          (more_built _ _ _ _ has.built has.held piece w (subst AreShort has.split has.short) (whole ∙ ap (λ (l : List ℕ). l ++ 0 ∷ []) has.waits)
          (subst (λ (p : ℕ). Goes (Torn p (length piece)) v w) place_is goes) (content ∙ ap (λ (p : ℕ). written p piece v.content) place_is));
    })

no_records : (held : List (List ℕ)) → records held ≡ [] → held ≡ []
no_records [] is = refl
no_records (body ∷ held) is = let wrong : ⊥ = cc in absurd wrong

-- where nothing waits, all are on the disk
pub all_there : (bodies : List (List ℕ)) (build now : BuildState) (v : View) → build ≡ now → now.waiting ≡ [] → HasBuilt bodies now v → Builds build.format bodies build.end v
all_there bodies build now v is none has =
    let same : has.on_disk ≡ bodies = sym (has.split ∙ ap (λ (l : List (List ℕ)). has.on_disk ++ l) (no_records has.held (sym has.waits ∙ none)) ∙ append-nil has.on_disk) in
    let there : Builds now.format bodies (length (made now.format bodies)) v = subst (λ (bs : List (List ℕ)). Builds now.format bs (length (made now.format bs)) v) same has.built in
    subst (λ (b : BuildState). Builds b.format bodies b.end v) (sym is) (subst (λ (e : ℕ). Builds now.format bodies e v) (sym has.ends) there)
