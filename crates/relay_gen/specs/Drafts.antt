-- What a commit does to the map of its account, as it is drawn (own).
use Rattle.std.specs.Prelude.{ℕ, zero, suc, ◌+◌, ◌*◌, ◌==◌, ◌||◌, nat_lt, if◌then◌else◌, List, [], ◌∷◌, ◌++◌, length, slice_get, Option, Some, None}
use Rattle.std.specs.List.{list_any}
use Rattle.std.specs.Str.{bytes_eq}
use Rattle.mst_list.specs.declared.item.Item.{Item}
use Rattle.mst_list.specs.declared.item.Item.TheVariants.{Key}
use Rattle.mst_list.specs.declared.op.Op.{Op}
use Rattle.relay_gen.specs.Draws.{next, drawn}
use Rattle.relay_gen.specs.Names.{generated_path, generated_value}

-- operations, and the state of the draws behind them
pub record Draft : Type 0 where
  pub ops : List Op
  pub state : ℕ

-- with one operation more. It is left out where the commit has its key already
abbrev pub with_op : List Op → Op → List Op
with_op ops op = if list_any (λ (o : Op). bytes_eq o.key op.key) ops then ops else ops ++ op ∷ []

-- Commit i creates this at the place j of its operations.
abbrev pub creation : ℕ → ℕ → Op
creation i j = record {
  key = generated_path (i * 4 + j);
  was = None;
  now = Some (generated_value (i * 8 + j));
}

-- what is done to an item of the map: 7 deletes its key, and the others give it a value
abbrev pub with_edit : List Op → ℕ → List ℕ → Option Item → List Op
with_edit ops kind value (Some (Key k was)) =
    with_op ops (record { key = k; was = Some was; now = if kind == 7 then None else Some value })
with_edit ops kind value item = ops

-- The operation at the place j of commit i to the map s: of eight kinds the first five create, as
-- all do where the map is empty. The others edit a key, whose place in the map is drawn.
abbrev pub with_drawn : List Item → ℕ → ℕ → Draft → Draft
with_drawn s i j d = let kind = drawn 8 (next d.state) in if nat_lt kind 5 || length s == 0
    then record { ops = with_op d.ops (creation i j); state = next d.state } else record {
      ops = with_edit d.ops kind
          (generated_value (i * 8 + j)) (slice_get s (drawn (length s) (next (next d.state))));
      state = next (next d.state);
    }

-- so many operations more, from the place j on
abbrev pub with_more : List Item → ℕ → ℕ → ℕ → Draft → Draft
with_more s i j zero d = d
with_more s i j (suc left) d = with_more s i (suc j) left (with_drawn s i j d)

-- the operations of commit i to the map s: one to four are drawn
abbrev pub drafted : List Item → ℕ → ℕ → Draft
drafted s i x = with_more s i 0 (1 + drawn 4 (next x)) (record { ops = []; state = next x })
