-- Room in a log, by what its disk has.
use Rattle.std.proofs.Common.{◌≡◌, inl, inr, ◌⊎◌, ℕ, ◌+◌, ◌≤◌, List, [], ◌∷◌, refl, sym, ◌∙◌, ap, subst, arith}
use Rattle.relay_disk.specs.Disk.{View}
use Rattle.gate_log.specs.Log.{LogState}
use Rattle.gate_log.specs.Pick.{IsPicked, of_side, view_of_side}
use Rattle.gate_log.specs.declared.picking.Side.{Side}
use Rattle.gate_log.specs.declared.picking.Side.TheVariants.{One, Two}
use Rattle.relay_row.specs.declared.row.Row.{Row}
use Rattle.relay_store.specs.PendingBodies.{IsFull, end_of, pending_end}
use Rattle.relay_store.specs.Room.{HasNoRoom, HasRoom, PairHasNoRoom, PairHasRoom}
use Rattle.relay_store.specs.Store.{Keeps, StoreState}
use Rattle.relay_store.proofs.Alone.{past_alone}

-- a log that is full for a row in a body of others is so for the row behind them
pub full_behind : (log now : LogState) (rows : List Row) (row : Row) (e : ℕ) → now.end ≡ pending_end log.end rows → now.most ≡ log.most → IsFull log rows row e → IsFull now [] row e
full_behind log now rows row e ends same full =
    let there : e ≡ end_of now.end (row ∷ []) = full.there ∙ ap (λ (n : ℕ). end_of n (row ∷ [])) (sym ends) in
    record { there = there; past = omega (arith, there, same, past_alone log rows row e full) }

-- the log ends within the limit behind a body that had room
pub ends_within : (log now : LogState) (rows : List Row) → now.end ≡ pending_end log.end rows → now.most ≡ log.most → (rows ≡ []) ⊎ (end_of log.end rows ≤ log.most)
    → ((rows ≡ []) × (now.end ≡ log.end)) ⊎ (now.end + 1 ≤ now.most)
ends_within log now [] ends same room = inl (refl, ends)
ends_within log now (row ∷ rows) ends same (inl none) = let no : ⊥ = cc in absurd no
ends_within log now (row ∷ rows) ends same (inr fits) = inr (omega (arith, ends, same, fits))

module _ (J : List Row) (s : StoreState) (v : View) (keeps : Keeps J s v) where
  pub no_room_on : (row : Row) (e : ℕ) → IsFull s.log [] row e → HasNoRoom s.log.most J row e v.content
  no_room_on row e full = record {
    format = s.log.format;
    bodies = keeps.bodies;
    are = keeps.are;
    is_made = keeps.holds.now;
    there = full.there ∙ ap (λ (n : ℕ). end_of n (row ∷ [])) keeps.holds.ends;
    past = omega (arith, full.past, full.there);
  }

  pub room_on : s.log.end + 1 ≤ s.log.most → HasRoom s.log.most J v.content
  room_on within = record {
    format = s.log.format;
    bodies = keeps.bodies;
    are = keeps.are;
    is_made = keeps.holds.now;
    within = omega (arith, within, keeps.holds.ends);
  }

-- the bytes of a side's disk
side_content : (side : Side) (one two : View) → (view_of_side side one two).content ≡ of_side side one.content two.content
side_content One one two = refl
side_content Two one two = refl

-- of the side that is picked
module _ (J : List Row) (s : StoreState) (side : Side) (one two : View) (keeps : Keeps J s (view_of_side side one two)) (picked : IsPicked one.content two.content side) where
  pub pair_has_no_room : (most : ℕ) (row : Row) (e : ℕ) → s.log.most ≡ most → IsFull s.log [] row e → PairHasNoRoom most J row e one.content two.content
  pair_has_no_room most row e same full = (
    side,
    picked,
    subst (λ (n : ℕ). HasNoRoom n J row e (of_side side one.content two.content)) same
        (subst (HasNoRoom s.log.most J row e) (side_content side one two) (no_room_on J s (view_of_side side one two) keeps row e full)),
  )

  pub pair_has_room : (most : ℕ) → s.log.most ≡ most → s.log.end + 1 ≤ s.log.most → PairHasRoom most J one.content two.content
  pair_has_room most same within = (
    side,
    picked,
    subst (λ (n : ℕ). HasRoom n J (of_side side one.content two.content)) same
        (subst (HasRoom s.log.most J) (side_content side one two) (room_on J s (view_of_side side one two) keeps within)),
  )
