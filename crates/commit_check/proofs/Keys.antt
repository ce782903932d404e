-- What makes an operation of an event an edit of a map.
use Rattle.std.proofs.Common.{◌≡◌, ℕ, suc, ◌+◌, ◌≤◌, true, false, not, ◌&&◌, is_some, List, ◌∷◌, length, Option, Some, None, refl, sym, ap, ◌∙◌, arith, length-append}
use Rattle.std.proofs.lemmas.Bool.{false≢true}
use Rattle.std.proofs.lemmas.Bool.Decides.{nat_tests}
use Rattle.std.proofs.lemmas.Grind.{common_steps}
use Rattle.at_cid.specs.Link.{IsBytes}
use Rattle.at_event.specs.declared.ops.Action.{Action}
use Rattle.at_syntax.specs.Path.{IsPath, is_path, is_collection, is_record_key}
use Rattle.at_syntax.proofs.Paths.{path_grammar}
use Rattle.mst_list.specs.Lists.{IsKey}
use Rattle.commit_check.specs.Step.{is_change}
use Rattle.event_checks.specs.Table.{has_links}

collection_short : (text : List ℕ) → is_collection text ≡ true → length text ≤ 317
collection_short text h = grind (arith, nat_tests, common_steps)

record_key_short : (text : List ℕ) → is_record_key text ≡ true → length text ≤ 512
record_key_short text h = grind (arith, nat_tests, common_steps)

-- a path is a key: 1 to 830 bytes
pub path_key : (text : List ℕ) → IsBytes text → is_path text ≡ true → IsKey text
path_key text bytes e =
    let p : IsPath text = (path_grammar text true (sym e)).0 refl in
    let long : length text ≡ length p.collection + suc (length p.record_key) = ap length p.encoded ∙ length-append p.collection (47 ∷ p.record_key) in
    let a = collection_short p.collection p.of_collection in
    let b = record_key_short p.record_key p.of_record_key in
    record { least = omega arith; most = omega arith; bytes = bytes }

-- an operation whose links fit its action does something
pub acts : (a : Action) (cid prev : Option (List ℕ)) → has_links a (is_some cid) (is_some prev) ≡ true → is_change a && not (is_some prev) ≡ false → prev ≡ None → cid ≡ None → ⊥
acts Action.Create None None h g p c = false≢true h
acts Action.Update None None h g p c = false≢true h
acts Action.Delete None None h g p c = false≢true (sym g)
acts Action.Other None None h g p c = false≢true h
acts a (Some x) prev h g p c = absurd (cc)
acts a None (Some y) h g p c = absurd (cc)
