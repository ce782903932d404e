-- Keys and links keep their forms.
use Rattle.std.proofs.Common.{◌≡◌, ℕ, List, [], ◌∷◌, ◌++◌, sym, subst, Option}
use Rattle.at_cid.specs.Link.{IsLinkOrNone}
use Rattle.mst_list.specs.declared.item.Item.{Item}
use Rattle.mst_list.specs.declared.op.Op.{Op}
use Rattle.mst_list.specs.Lists.{IsKey, IsFormed, AreFormed}
use Rattle.mst_list.specs.Edits.{before, after, value_at, put, Plays, undone, IsFormedOp, AreFormedOps}
use Rattle.mst_list.proofs.Places.{rebuilt}
use Rattle.mst_list.proofs.Fills.{formed_join, formed_value, formed_edited}

pub formed_more : (F G : List Item) (x : Item) → G ≡ F ++ x ∷ [] → AreFormed F → IsFormed x → AreFormed G
formed_more F G x e form one = let P : List Item → Type 0 = λ y. AreFormed y in subst P (sym e) (formed_join F (x ∷ []) form (one, tt))

ops_join : (a : List Op) (op : Op) → AreFormedOps a → IsFormedOp op → AreFormedOps (a ++ op ∷ [])
ops_join [] op form one = (one, tt)
ops_join (o ∷ a) op form one = (form.0, ops_join a op form.1 one)

pub ops_more : (a b : List Op) (op : Op) → b ≡ a ++ op ∷ [] → AreFormedOps a → IsFormedOp op → AreFormedOps b
ops_more a b op e form one = let P : List Op → Type 0 = λ y. AreFormedOps y in subst P (sym e) (ops_join a op form one)

formed_put : (k : List ℕ) (o : Option (List ℕ)) (F : List Item) → IsKey k → IsLinkOrNone o → AreFormed F → AreFormed (put k o F)
formed_put k o F key link form =
    let P : List Item → Type 0 = λ y. AreFormed y in
    formed_edited k (value_at k F) o (before k F) (after k F) (formed_value k o key link) (subst P (sym (rebuilt k F)) form)

formed_undone : (F : List Item) (ops : List Op) → AreFormed F → AreFormedOps ops → AreFormed (undone F ops)
formed_undone F [] form ops = form
formed_undone F (op ∷ more) form ops = formed_put op.key op.was (undone F more) ops.0.0 ops.0.1 (formed_undone F more form ops.1)

pub undone_formed : (F G : List Item) (ops : List Op) → G ≡ undone F ops → AreFormed F → AreFormedOps ops → AreFormed G
undone_formed F G ops e form forms = let P : List Item → Type 0 = λ y. AreFormed y in subst P (sym e) (formed_undone F ops form forms)

pub played_formed : (s t : List Item) (ops : List Op) → Plays s ops t → AreFormed s → AreFormedOps ops → AreFormed t
played_formed s t [] plays form ops = let P : List Item → Type 0 = λ y. AreFormed y in subst P (sym plays) form
played_formed s t (op ∷ more) plays form ops = played_formed (put op.key op.now s) t more plays.1 (formed_put op.key op.now s ops.0.0 ops.0.2 form) ops.1
