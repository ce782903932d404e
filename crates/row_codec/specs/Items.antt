-- The items of a row, one by one (own format).
use Rattle.std.specs.Prelude.{ℕ, List, [], ◌∷◌, Option, Some, None}
use Rattle.at_cbor.specs.Item.{Item, items_of}
use Rattle.at_syntax.specs.Tid.{digits_of}
use Rattle.at_event.specs.Writing.{number_item as number}
use Rattle.at_event.specs.Refusals.{code_of}
use Rattle.at_event.specs.declared.head.Head.{Head}
use Rattle.at_event.specs.declared.refusal.Refusal.{Refusal}
use Rattle.relay_row.specs.declared.fetched.Whole.{Whole}
use Rattle.relay_row.specs.declared.fetched.Fetched.{Fetched}
use Rattle.relay_row.specs.declared.taken.Effect.{Effect}
use Rattle.relay_row.specs.declared.carried.CarriedRepo.{CarriedRepo}
use Rattle.relay_row.specs.declared.carried.Carried.{Carried}
use Rattle.relay_row.specs.declared.row.Row.{Row}

-- the 13 characters of a revision
abbrev pub rev_text : ℕ → Item
rev_text rev = Item.text (digits_of rev)

abbrev pub list : List Item → Item
list is = Item.list (items_of is)

abbrev pub or_null : {A : Type 0} → (A → Item) → Option A → Item
or_null item None = Item.null
or_null item (Some x) = item x

-- nothing, or one item
abbrev pub if_there : {A : Type 0} → (A → Item) → Option A → List Item
if_there item None = []
if_there item (Some x) = item x ∷ []

abbrev pub head_items : Head → List Item
head_items h = rev_text h.rev ∷ Item.link h.data_root ∷ Item.link h.commit ∷ []

abbrev pub whole_items : Whole → List Item
whole_items w = number w.seq ∷ rev_text w.head.rev ∷ Item.link w.head.data_root
    ∷ Item.link w.head.commit ∷ number w.records ∷ Item.bytes w.message ∷ []

-- 0 where a message is accepted, else the number of its refusal
abbrev pub code : Option Refusal → ℕ
code None = 0
code (Some r) = code_of r

-- what a refusal says beside its number
abbrev pub detail_items : Option Refusal → List Item
detail_items (Some (Refusal.BadNode link)) = Item.link link ∷ []
detail_items (Some (Refusal.OtherOp i)) = number i ∷ []
detail_items (Some (Refusal.NotCovered i)) = number i ∷ []
detail_items (Some (Refusal.OtherData want got)) = Item.link want ∷ Item.link got ∷ []
detail_items refusal = []

abbrev pub effect_item : Effect → Item
effect_item Effect.Nothing = Item.null
effect_item (Effect.Repo h) = list (head_items h)
effect_item (Effect.Account active status) = list (Item.bool active ∷ or_null Item.text status ∷ [])

abbrev pub fetched_item : Fetched → Item
fetched_item Fetched.NotAsked = Item.null
fetched_item Fetched.Absent = number 0
fetched_item (Fetched.Refused n) = number n
fetched_item (Fetched.Whole w) = list (whole_items w)

abbrev pub repo_item : CarriedRepo → Item
repo_item CarriedRepo.Missing = Item.null
repo_item (CarriedRepo.Good h) = list (head_items h)
repo_item (CarriedRepo.Lost rev) = list (or_null rev_text rev ∷ [])

abbrev pub carried_items : Carried → List Item
carried_items (Carried.Last seq) = number 4 ∷ number 0 ∷ number seq ∷ []
carried_items (Carried.Host host cursor) = number 4 ∷ number 1 ∷ Item.text host ∷ number cursor ∷ []
carried_items (Carried.Account a) = number 4 ∷ number 2 ∷ Item.text a.did ∷ Item.bool a.active
    ∷ or_null Item.text a.status ∷ Item.bool a.down ∷ repo_item a.repo ∷ []

abbrev pub row_items : Row → List Item
row_items (Row.Taken t) =
    number 1 ∷ Item.text t.host ∷ number t.host_seq ∷ Item.text t.did ∷ number t.kind
    ∷ number (code t.refusal) ∷ list (detail_items t.refusal) ∷ number t.seq ∷ Item.bytes t.message
    ∷ effect_item t.effect ∷ fetched_item t.fetched ∷ if_there number t.moment
row_items (Row.Synced did whole moment) =
    number 2 ∷ Item.text did ∷ list (whole_items whole) ∷ if_there number moment
row_items (Row.Operated o) = number 3 ∷ Item.text o.did ∷ Item.bool o.down
    ∷ number o.seq ∷ Item.bytes o.message ∷ if_there number o.moment
row_items (Row.Carried carried) = carried_items carried
