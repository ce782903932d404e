-- What is shown is the same read off the row and read off the message.
use Rattle.std.proofs.Common.{◌≡◌, ◌∙◌, ℕ, Bool, true, false, not, ◌&&◌, cond, leb, List, [], ◌∷◌, ◌++◌, refl, sym, ap}
use Rattle.std.specs.Prelude.{◌==◌}
use Rattle.std.specs.List.{filter}
use Rattle.std.proofs.lemmas.List.Elements.{filter-append}
use Rattle.at_event.specs.declared.event.Body.{Body}
use Rattle.event_window.specs.Held.{Event}
use Rattle.relay_row.specs.Folds.{events, events_in, events_of}
use Rattle.relay_row.specs.declared.fetched.Fetched.{Fetched}
use Rattle.relay_row.specs.declared.fetched.Whole.{Whole}
use Rattle.relay_row.specs.declared.row.Row.{Row}
use Rattle.relay_row.specs.declared.taken.Taken.{Taken}
use Rattle.account_state.specs.Folds.{account}
use Rattle.relay_core.specs.Opening.{IsHeadOf}
use Rattle.relay_core.specs.Rows.{kind_number}
use Rattle.relay_law.specs.Faithful.{HoldsOfWhole, IsCommandOf, ReadsAs, SendsSync, SendsWhatItKeeps, SendWhatTheyKeep}
use Rattle.relay_law.proofs.Reading.{EventRead, event_read}
use Rattle.relay_store.specs.Shown.{is_hidden, is_shown, shown_of}
use Rattle.store_read.specs.ShownMessages.{ShownAsRead, is_frame_shown, is_message_shown}

module _ (J : List Row) where
  abbrev is_in : Event → Bool
  is_in event = is_message_shown J event.1

  -- by the kind and the account of what is read
  read_by : (message did : List ℕ) (seq : ℕ) (Says : Body → Type 0) (r : ReadsAs message did seq Says) (kind : ℕ) → kind_number r.event.body ≡ kind
      → is_message_shown J message ≡ not (leb kind 2 && is_hidden (account did J))
  read_by message did seq Says r kind is =
      ap (is_frame_shown J) r.reads ∙ (λ i. not (leb (is i) 2 && is_hidden (account (r.did_is i) J)))

  one_event : (b : Bool) (event : Event) → b ≡ is_in event → cond b (event ∷ []) [] ≡ filter is_in (event ∷ [])
  one_event b event is = ap (λ (x : Bool). cond x (event ∷ []) []) is

  no_event : (b : Bool) → cond b [] [] ≡ filter is_in []
  no_event true = refl
  no_event false = refl

  of_whole : (did : List ℕ) (w : Whole) (r : SendsSync did w) → not (true && is_hidden (account did J)) ≡ is_message_shown J w.message
  of_whole did w r = sym (read_by w.message did w.seq (λ body. (kind_number body ≡ 2) × IsHeadOf body w.head) r 2 r.says.0)

  of_fetch : (did : List ℕ) (x : Fetched) → HoldsOfWhole (SendsSync did) x → cond (not (true && is_hidden (account did J))) (events_of x) [] ≡ filter is_in (events_of x)
  of_fetch did Fetched.NotAsked is = no_event _
  of_fetch did Fetched.Absent is = no_event _
  of_fetch did (Fetched.Refused n) is = no_event _
  of_fetch did (Fetched.Whole w) is = one_event _ (w.seq, w.message) (of_whole did w is)

  of_taken : (t : Taken) (none : Bool) → (t.seq == 0) ≡ none → EventRead t → HoldsOfWhole (SendsSync t.did) t.fetched
      → cond (not (cond none true (leb t.kind 2) && is_hidden (account t.did J))) (cond none (events_of t.fetched) ((t.seq, t.message) ∷ [])) []
      ≡ filter is_in (cond none (events_of t.fetched) ((t.seq, t.message) ∷ []))
  of_taken t true is own fetched = of_fetch t.did t.fetched fetched
  of_taken t false is own fetched =
      let r = own (λ zero. let both : true ≡ false = sym (ap (λ (n : ℕ). n == 0) zero) ∙ is in absurd cc) in
      one_event _ (t.seq, t.message) (sym (read_by t.message t.did t.seq (λ body. kind_number body ≡ t.kind) r t.kind r.says))

  of_row : (before : List Row) (row : Row) → SendsWhatItKeeps before row → cond (is_shown J row) (events_in row) [] ≡ filter is_in (events_in row)
  of_row before (Row.Taken t) is = of_taken t (t.seq == 0) refl (event_read (account t.did before).repo t t.effect is.0) is.1
  of_row before (Row.Synced did whole moment) is = one_event _ (whole.seq, whole.message) (of_whole did whole is)
  of_row before (Row.Operated o) is = one_event _ (o.seq, o.message) (sym (read_by o.message o.did o.seq (IsCommandOf o) is 4 (ap kind_number is.says.1)))
  of_row before (Row.Carried c) is = no_event (is_shown J (Row.Carried c))

  of_rows : (before rows : List Row) → SendWhatTheyKeep before rows → shown_of J rows ≡ filter is_in (events rows)
  of_rows before [] are = refl
  of_rows before (row ∷ rows) are =
      (λ i. of_row before row are.0 i ++ of_rows (before ++ row ∷ []) rows are.1 i) ∙ sym (filter-append is_in (events_in row) (events rows))

pub shown_as_read : ShownAsRead
shown_as_read J is = of_rows J [] J is.sends
