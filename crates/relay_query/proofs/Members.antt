-- The members of bodies, put one after another.
use Rattle.std.proofs.Common.{◌≡◌, ℕ, List, [], ◌∷◌, ◌++◌, codes, Option, Some, None, refl}
use Rattle.std.specs.Prelude.{option_map}
use Rattle.serde_json.specs.Data.{Data, no_members, put, string}
use Rattle.json_text.specs.Values.{members_by, put_some}
use Rattle.relay_query.specs.Bodies.{text_member}

pub repo_members : (active did head rev : Data) (status : Option (List ℕ))
    → put_some (codes "status") (option_map string status) (put (codes "rev") rev (put (codes "head") head (put (codes "did") did (put (codes "active") active no_members))))
    ≡ members_by ((codes "active", active) ∷ (codes "did", did) ∷ (codes "head", head) ∷ (codes "rev", rev) ∷ text_member (codes "status") status)
repo_members active did head rev None = refl
repo_members active did head rev (Some status) = refl

pub status_members : (active did : Data) (rev status : Option (List ℕ))
    → put_some (codes "status") (option_map string status) (put_some (codes "rev") (option_map string rev) (put (codes "did") did (put (codes "active") active no_members)))
    ≡ members_by ((codes "active", active) ∷ (codes "did", did) ∷ (text_member (codes "rev") rev ++ text_member (codes "status") status))
status_members active did None None = refl
status_members active did (Some rev) None = refl
status_members active did None (Some status) = refl
status_members active did (Some rev) (Some status) = refl

pub commit_members : (cid rev : Data) → put (codes "rev") rev (put (codes "cid") cid no_members) ≡ members_by ((codes "cid", cid) ∷ (codes "rev", rev) ∷ [])
commit_members cid rev = refl

pub page_members : (repos : Data) (cursor : Option (List ℕ))
    → put (codes "repos") repos (put_some (codes "cursor") (option_map string cursor) no_members)
    ≡ members_by (text_member (codes "cursor") cursor ++ (codes "repos", repos) ∷ [])
page_members repos None = refl
page_members repos (Some cursor) = refl
