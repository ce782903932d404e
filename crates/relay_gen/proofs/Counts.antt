-- How many operations and fields a message has, and how they are encoded.
use Rattle.std.proofs.Common.{◌≡◌, ℕ, suc, ◌+◌, List, [], ◌∷◌, ◌++◌, length, map, refl, sym, ap, ◌∙◌, Option, Some, None, append-nil}
use Rattle.std.proofs.lemmas.List.{append_assoc}
use Rattle.at_cbor.specs.declared.major.Major.{Major}
use Rattle.at_cbor.specs.Item.{Item, fields_of, items_of}
use Rattle.at_cbor.specs.Encoding.{fields_count, fields_encoding, front_of, items_count, encoding, text_encoding}
use Rattle.mst_list.specs.declared.op.Op.{Op}
use Rattle.relay_gen.specs.declared.past.Past.{Past}
use Rattle.relay_gen.specs.declared.records.Change.{Change}
use Rattle.relay_gen.specs.Messages.{back_fields, front_fields, middle_fields, op_item, payload_of, prev_data}
use Rattle.relay_gen.specs.Records.{op_of}

pub ops_counted : (cs : List Change) → items_count (items_of (map op_item (map op_of cs))) ≡ length cs
ops_counted [] = refl
ops_counted (c ∷ cs) = ap suc (ops_counted cs)

pub joined : (a t f i : List ℕ) → ((a ++ t) ++ f) ++ i ≡ a ++ (t ++ ((f ++ i) ++ []))
joined a t f i = append_assoc (a ++ t) f i ∙ append_assoc a t (f ++ i) ∙ ap (λ x. a ++ (t ++ x)) (sym (append-nil (f ++ i)))

fields_joined : (A B : List (List ℕ × Item)) → fields_encoding (fields_of (A ++ B)) ≡ fields_encoding (fields_of A) ++ fields_encoding (fields_of B)
fields_joined [] B = refl
fields_joined (f ∷ A) B =
    ap (λ x. text_encoding f.0 ++ (encoding f.1 ++ x)) (fields_joined A B)
    ∙ ap (λ x. text_encoding f.0 ++ x) (sym (append_assoc (encoding f.1) (fields_encoding (fields_of A)) (fields_encoding (fields_of B))))
    ∙ sym (append_assoc (text_encoding f.0) (encoding f.1 ++ fields_encoding (fields_of A)) (fields_encoding (fields_of B)))

count_payload : (did : List ℕ) (seq rev : ℕ) (past : Option Past) (ops : List Op) (commit blocks : List ℕ) → fields_count (fields_of (front_fields ops rev seq did ++ (middle_fields past blocks ++ back_fields past commit))) ≡ 11 + fields_count (fields_of (prev_data past))
count_payload did seq rev None ops commit blocks = refl
count_payload did seq rev (Some past) ops commit blocks = refl

-- the payload, by its parts
pub payload_encoded : (did : List ℕ) (seq rev : ℕ) (past : Option Past) (ops : List Op) (commit blocks : List ℕ) → encoding (payload_of did seq rev past ops commit blocks)
    ≡ front_of Major.Map (11 + fields_count (fields_of (prev_data past))) ++ (fields_encoding (fields_of (front_fields ops rev seq did)) ++ (fields_encoding (fields_of (middle_fields past blocks)) ++ fields_encoding (fields_of (back_fields past commit))))
unfolding payload_of
payload_encoded did seq rev past ops commit blocks =
    let F = front_fields ops rev seq did in let M = middle_fields past blocks in let B = back_fields past commit in
    ap (λ n. front_of Major.Map n ++ fields_encoding (fields_of (F ++ (M ++ B)))) (count_payload did seq rev past ops commit blocks)
    ∙ ap (λ x. front_of Major.Map (11 + fields_count (fields_of (prev_data past))) ++ x) (fields_joined F (M ++ B) ∙ ap (λ x. fields_encoding (fields_of F) ++ x) (fields_joined M B))

pub five : (h n f m b : List ℕ) → (((h ++ n) ++ f) ++ m) ++ b ≡ h ++ (n ++ (f ++ (m ++ b)))
five h n f m b = append_assoc ((h ++ n) ++ f) m b ∙ append_assoc (h ++ n) f (m ++ b) ∙ append_assoc h n (f ++ (m ++ b))

-- one field
abbrev pub one : List ℕ × Item → List ℕ
one f = fields_encoding (fields_of (f ∷ []))

more : (o : List ℕ) (a : List ℕ × Item) (X : List (List ℕ × Item)) → (o ++ one a) ++ fields_encoding (fields_of X) ≡ o ++ fields_encoding (fields_of (a ∷ X))
more o a X = append_assoc o (one a) (fields_encoding (fields_of X)) ∙ ap (λ x. o ++ x) (sym (fields_joined (a ∷ []) X))

pub three_more : (o : List ℕ) (a b c : List ℕ × Item) (X : List (List ℕ × Item)) → (((o ++ one a) ++ one b) ++ one c) ++ fields_encoding (fields_of X) ≡ o ++ fields_encoding (fields_of (a ∷ b ∷ c ∷ X))
three_more o a b c X = more ((o ++ one a) ++ one b) c X ∙ more (o ++ one a) b (c ∷ X) ∙ more o a (b ∷ c ∷ X)
