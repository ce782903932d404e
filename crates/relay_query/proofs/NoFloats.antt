-- No reply has a float.
use Rattle.std.proofs.Common.{◌≡◌, ℕ, Bool, false, ◌||◌, List, [], ◌∷◌, ◌++◌, map, codes, Option, Some, None, refl, ap, ◌∙◌}
use Rattle.serde_json.specs.Data.{array, Items}
use Rattle.serde_json.specs.View.{items_of}
use Rattle.serde_json.specs.Written.{has_float, items_have_float, members_have_float}
use Rattle.json_text.specs.Values.{Member, members_by, object_with}
use Rattle.at_event.specs.declared.head.Head.{Head}
use Rattle.account_state.specs.State.{State}
use Rattle.relay_query.specs.Replies.{error_value}
use Rattle.relay_query.specs.Accounts.{Named, link_of, rev_of, status_name}
use Rattle.relay_query.specs.Bodies.{commit_value, repo_value, status_value, text_member}

plain_text : (name : List ℕ) (o : Option (List ℕ)) (ms : List Member) → members_have_float (members_by ms) ≡ false → members_have_float (members_by (text_member name o ++ ms)) ≡ false
plain_text name None ms is = is
plain_text name (Some text) ms is = is

plain_last : (name : List ℕ) (o : Option (List ℕ)) → members_have_float (members_by (text_member name o)) ≡ false
plain_last name None = refl
plain_last name (Some text) = refl

plain_repo : (a : Named) → has_float (repo_value a) ≡ false
plain_repo (did, a) =
    plain_text (codes "head") (link_of a.repo) (text_member (codes "rev") (rev_of a.repo) ++ text_member (codes "status") (status_name a))
    (plain_text (codes "rev") (rev_of a.repo) (text_member (codes "status") (status_name a)) (plain_last (codes "status") (status_name a)))

pub plain_items : (accounts : List Named) → items_have_float (items_of (map repo_value accounts)) ≡ false
plain_items [] = refl
plain_items (a ∷ accounts) = ap (λ (b : Bool). b || items_have_float (items_of (map repo_value accounts))) (plain_repo a) ∙ plain_items accounts

pub plain_status : (did : List ℕ) (a : State) → has_float (status_value did a) ≡ false
plain_status did a =
    plain_text (codes "rev") (rev_of a.repo) (text_member (codes "status") (status_name a)) (plain_last (codes "status") (status_name a))

pub plain_commit : (head : Head) → has_float (commit_value head) ≡ false
plain_commit head = refl

pub plain_error : (name : List ℕ) → has_float (error_value name) ≡ false
plain_error name = refl

pub plain_page : (last : Option (List ℕ)) (items : Items) → items_have_float items ≡ false
    → has_float (object_with (text_member (codes "cursor") last ++ (codes "repos", array items) ∷ [])) ≡ false
plain_page last items is = plain_text (codes "cursor") last ((codes "repos", array items) ∷ []) (ap (λ (b : Bool). b || false) is)
