-- Playing operations one after another.
use Rattle.std.proofs.Common.{◌≡◌, ◌≢◌, ℕ, suc, ◌<◌, List, ◌∷◌, length, drop, get_or, sym, ap, ◌∙◌, subst, drop-cons}
use Rattle.mst_list.specs.declared.item.Item.{Item}
use Rattle.mst_list.specs.declared.op.Op.{Op}
use Rattle.mst_list.specs.Edits.{value_at, put, Plays}
use Rattle.mst_list.specs.Faults.{IsClash}

pub left_at : (ops : List Op) (i : ℕ) (op : Op) → i < length ops → op ≡ get_or ops i op → drop i ops ≡ op ∷ drop (suc i) ops
left_at ops i op low is = drop-cons ops i op low ∙ ap (λ o. o ∷ drop (suc i) ops) (sym is)

pub clash_here : (s : List Item) (ops : List Op) (i : ℕ) (op : Op) → i < length ops → op ≡ get_or ops i op → value_at op.key s ≢ op.was → IsClash s (drop i ops) 0
clash_here s ops i op low is differs = let R : List Op → Type 0 = λ x. IsClash s x 0 in subst R (sym (left_at ops i op low is)) differs

pub plays_on : (s s' t : List Item) (ops : List Op) (i : ℕ) (op : Op) → i < length ops → op ≡ get_or ops i op → value_at op.key s ≡ op.was → s' ≡ put op.key op.now s → Plays s' (drop (suc i) ops) t → Plays s (drop i ops) t
plays_on s s' t ops i op low is at e p =
    let R : List Op → Type 0 = λ x. Plays s x t in let Q : List Item → Type 0 = λ x. Plays x (drop (suc i) ops) t in
    subst R (sym (left_at ops i op low is)) (at, subst Q e p)

pub clash_on : (s s' : List Item) (ops : List Op) (i j : ℕ) (op : Op) → i < length ops → op ≡ get_or ops i op → value_at op.key s ≡ op.was → s' ≡ put op.key op.now s → IsClash s' (drop (suc i) ops) j → IsClash s (drop i ops) (suc j)
clash_on s s' ops i j op low is at e p =
    let R : List Op → Type 0 = λ x. IsClash s x (suc j) in let Q : List Item → Type 0 = λ x. IsClash x (drop (suc i) ops) j in
    subst R (sym (left_at ops i op low is)) (at, subst Q e p)
