-- Which rows are well formed: names, numbers, and what goes with what (own format).
use Rattle.std.specs.Prelude.{ℕ, ◌^◌, List, length, Bool, true, false, not, ◌&&◌, ◌||◌, ◌==◌, nat_le, nat_lt, Option, Some, None, if◌then◌else◌}
use Rattle.std.specs.Bool.{beq}
use Rattle.std.specs.List.{list_all}
use Rattle.std.specs.Str.{is_utf8}
use Rattle.at_cid.specs.Link.{is_link, kind_of}
use Rattle.at_cid.specs.declared.cid.Kind.{Kind}
use Rattle.at_cid.specs.declared.cid.Kind.TheVariants.{Node, Raw}
use Rattle.at_syntax.specs.Did.{is_did}
use Rattle.at_syntax.specs.Host.{is_host}
use Rattle.at_event.specs.declared.head.Head.{Head}
use Rattle.at_event.specs.Refusals.{code_of}
use Rattle.at_event.specs.declared.refusal.Refusal.{Refusal}
use Rattle.at_cid.specs.declared.limits.TheConstants.{NUMBERS}
use Rattle.at_form.specs.declared.forms.TheConstants.{LONGEST_SHORT_TEXT}
use Rattle.relay_row.specs.declared.limits.TheConstants.{PLACES}
use Rattle.relay_row.specs.declared.fetched.Whole.{Whole}
use Rattle.relay_row.specs.declared.fetched.Fetched.{Fetched}
use Rattle.relay_row.specs.declared.taken.Effect.{Effect}
use Rattle.relay_row.specs.declared.taken.Taken.{Taken}
use Rattle.relay_row.specs.declared.operated.Operated.{Operated}
use Rattle.relay_row.specs.declared.carried.CarriedRepo.{CarriedRepo}
use Rattle.relay_row.specs.declared.carried.Carried.{Carried}
use Rattle.relay_row.specs.declared.row.Row.{Row}

abbrev pub is_number : ℕ → Bool
is_number n = nat_lt n NUMBERS

abbrev pub is_positive : ℕ → Bool
is_positive n = nat_lt 0 n && is_number n

abbrev pub is_moment : Option ℕ → Bool
is_moment None = true
is_moment (Some n) = is_number n

abbrev pub is_node_kind : Kind → Bool
is_node_kind Node = true
is_node_kind Raw = false

-- ---- what the types of the code say by themselves

abbrev pub are_bytes : List ℕ → Bool
are_bytes bytes = list_all (λ c. nat_lt c 256) bytes

abbrev pub is_text : List ℕ → Bool
is_text text = is_utf8 text && are_bytes text

abbrev pub is_string : List ℕ → Bool
is_string bytes = nat_lt (length bytes) (2 ^ 64) && are_bytes bytes

abbrev pub is_cid : List ℕ → Bool
is_cid link = is_link link && are_bytes link

abbrev pub is_rev : ℕ → Bool
is_rev rev = nat_lt rev (2 ^ 64)

-- ----

abbrev pub is_node : List ℕ → Bool
is_node link = is_cid link && is_node_kind (kind_of link)

abbrev pub is_head : Head → Bool
is_head h = is_rev h.rev && (is_node h.data_root && is_cid h.commit)

abbrev pub names_host : List ℕ → Bool
names_host text = is_text text && is_host text

abbrev pub names_did : List ℕ → Bool
names_did text = is_text text && is_did text

abbrev pub is_empty : List ℕ → Bool
is_empty bytes = length bytes == 0

-- bytes, of which there are some
abbrev pub is_message : List ℕ → Bool
is_message bytes = is_string bytes && not (is_empty bytes)

abbrev pub is_status : Option (List ℕ) → Bool
is_status None = true
is_status (Some status) = is_text status && nat_le (length status) LONGEST_SHORT_TEXT

unfoldable pub is_whole : Whole → Bool
is_whole w = is_positive w.seq && (is_head w.head && (is_number w.records && is_message w.message))

-- the links in the detail
abbrev pub is_detail : Refusal → Bool
is_detail (Refusal.BadNode link) = is_node link
is_detail (Refusal.OtherData want got) = is_node want && is_node got
is_detail (Refusal.OtherOp i) = nat_lt i PLACES
is_detail (Refusal.NotCovered i) = nat_lt i PLACES
is_detail refusal = true

-- a refusal after which the account is lost and its repository is fetched
abbrev pub loses : ℕ → Bool
loses code = code == 5 || (nat_le 19 code && nat_le code 23)

-- the numbers of refused repositories, 12 only where the row keeps a moment
abbrev pub is_repo_number : Bool → ℕ → Bool
is_repo_number timed n = (nat_le 1 n && nat_le n 7) || (n == 9 || (n == 10 || (timed && n == 12)))

-- what was fetched, where a fetch is due
abbrev pub is_fetched : Bool → Bool → Fetched → Bool
is_fetched due timed Fetched.NotAsked = not due
is_fetched due timed Fetched.Absent = due
is_fetched due timed (Fetched.Refused n) = due && is_repo_number timed n
is_fetched due timed (Fetched.Whole w) = due && is_whole w

abbrev pub is_nothing : Effect → Bool
is_nothing Effect.Nothing = true
is_nothing (Effect.Repo head) = false
is_nothing (Effect.Account active status) = false

-- the effect of an accepted event of a kind
abbrev pub is_effect : ℕ → Effect → Bool
is_effect kind Effect.Nothing = kind == 3
is_effect kind (Effect.Repo head) = (kind == 1 || kind == 2) && is_head head
is_effect kind (Effect.Account active status) = kind == 4 && is_status status

abbrev pub is_timed : Option ℕ → Bool
is_timed None = false
is_timed (Some n) = true

-- an accepted event goes out under a number, or is held, which an `#account` alone may be
unfoldable pub is_accepted : Taken → Bool
is_accepted t = is_effect t.kind t.effect && (is_fetched false (is_timed t.moment) t.fetched
    && ((is_positive t.seq && is_message t.message)
    || (t.kind == 4 && (t.seq == 0 && is_empty t.message))))

unfoldable pub is_refused : Refusal → Taken → Bool
is_refused r t = is_detail r && (nat_le (code_of r) 24 || (code_of r == 25 && is_timed t.moment))
    && (nat_le t.kind 4 && (beq (t.kind == 0) (code_of r == 1)
    && (is_nothing t.effect && (is_fetched (loses (code_of r)) (is_timed t.moment) t.fetched
    && (t.seq == 0 && is_empty t.message)))))

abbrev pub is_decided : Option Refusal → Taken → Bool
is_decided None t = is_accepted t
is_decided (Some r) t = is_refused r t

-- whose message it is; an event that didn't read names nobody
abbrev pub is_about : ℕ → List ℕ → Bool
is_about kind did = if kind == 0 then is_empty did else names_did did

unfoldable pub is_taken : Taken → Bool
is_taken t = names_host t.host && (is_number t.host_seq
    && (is_about t.kind t.did && (is_moment t.moment && is_decided t.refusal t)))

unfoldable pub is_operated : Operated → Bool
is_operated o =
    names_did o.did && (is_positive o.seq && (is_message o.message && is_moment o.moment))

abbrev pub is_rev_or_none : Option ℕ → Bool
is_rev_or_none None = true
is_rev_or_none (Some rev) = is_rev rev

abbrev pub is_repo : CarriedRepo → Bool
is_repo CarriedRepo.Missing = true
is_repo (CarriedRepo.Good head) = is_head head
is_repo (CarriedRepo.Lost rev) = is_rev_or_none rev

unfoldable pub is_carried : Carried → Bool
is_carried (Carried.Last seq) = is_positive seq
is_carried (Carried.Host host cursor) = names_host host && is_positive cursor
is_carried (Carried.Account a) = names_did a.did && (is_status a.status && is_repo a.repo)

-- the row is well formed
unfoldable pub is_row : Row → Bool
is_row (Row.Taken t) = is_taken t
is_row (Row.Synced did whole moment) = names_did did && (is_whole whole && is_moment moment)
is_row (Row.Operated o) = is_operated o
is_row (Row.Carried carried) = is_carried carried
