-- What a command that shows a journal did, from what opening found.
use Rattle.std.proofs.Common.{◌≡◌, ◌∙◌, inl, ⊎_elim, ℕ, List, [], Ok, Err, Option, IsTrue, refl, ap, subst}
use Rattle.std.specs.Option.{unwrap_or}
use Rattle.relay_disk.specs.Disk.{View, IsDisk}
use Rattle.relay_disk.specs.Moments.{PairLeavesOnly}
use Rattle.gate_log.specs.Pick.{view_of_side}
use Rattle.relay_row.specs.declared.row.Row.{Row}
use Rattle.account_state.specs.Entries.{entry}
use Rattle.account_state.specs.Folds.{account, fresh}
use Rattle.account_state.specs.State.{State}
use Rattle.host_state.specs.Folds.{hosts}
use Rattle.host_state.specs.Table.{listed}
use Rattle.host_state.specs.declared.hosts.Hosts.{Hosts}
use Rattle.report_lines.specs.StateLines.{account_text, hosts_text}
use Rattle.relay_step.specs.Around.{Around}
use Rattle.relay_store.specs.Journals.{IsPairImageOf}
use Rattle.relay_store.specs.Opening.{IsOfReading, Opened}
use Rattle.relay_store.specs.Pairs.{StandsFor}
use Rattle.relay_store.specs.Store.{Keeps, seen_in}
use Rattle.relay_store.specs.declared.fault.StoreFault.{StoreFault}
use Rattle.relay_store.specs.declared.store.Store.{Store}
use Rattle.relay_store.proofs.Beside.{kept_stands, leaves_stand, opened_keeps, opened_leaves}
use Rattle.run_base.specs.Deeds.{Came, unopened}
use Rattle.run_base.specs.Ends.{Writes}
use Rattle.run_base.specs.Place.{Faults, Tells, at_place}
use Rattle.run_base.specs.Statuses.{status_of_fault}
use Rattle.run_base.specs.declared.status.Status.{Status}
use Rattle.run_base.proofs.Ended.{fault_writes}
use Rattle.relay_run.specs.Shown.{IsShownCome, TextShown}

-- they weren't opened
pub shown_unopened : (t : Tells) (one two one_now two_now : View) (around around_now : Around) (written : List ℕ) (failed failed_now : Faults) (fault : StoreFault) (status : Status) (most : ℕ) (J : List Row) (text : List ℕ) → IsDisk one_now → IsDisk two_now
    → Opened t.disk one two one_now two_now (Err fault) → IsTrue t.disk → IsPairImageOf J one.content two.content → status ≡ status_of_fault fault → IsOfReading fault
    → TextShown t most J text (at_place one two around written failed) (at_place one_now two_now around_now written failed_now) status
shown_unopened t one two one_now two_now around around_now written failed failed_now fault status most J text first second opened told image is few =
    let leaves : StandsFor J one two → PairLeavesOnly (IsPairImageOf J) one one_now two two_now = opened_leaves t.disk one two one_now two_now (Err fault) opened told J in
    record {
      came = unopened;
      is = (fault, is, few);
      does = record {
        stands = λ n. ⊎_elim (λ none. absurd none) (λ stands. leaves_stand J one two one_now two_now first second (leaves stands));
        crashes = leaves;
        room = λ _. inl refl;
        journal = image.are.journal;
        sound = λ _ sound. sound;
        faithful = λ faithful. faithful;
        given = λ checks opens links bytes given. given;
        written = λ _. fault_writes fault status text written is;
      };
    }

module _ (t : Tells) (one two one_now two_now : View) (first : IsDisk one_now) (second : IsDisk two_now) (s : Store) (opened : Opened t.disk one two one_now two_now (Ok s)) (told : IsTrue t.disk)
    (J : List Row) (image : IsPairImageOf J one.content two.content) where
  keeps : Keeps J (seen_in s) (view_of_side s.side one_now two_now)
  keeps = opened_keeps t.disk one two one_now two_now s opened told J image

  -- they were, and a text was to be written
  pub shown_opened : (around around_now : Around) (written now : List ℕ) (failed failed_now : Faults) (most : ℕ) (text shown : List ℕ) (status : Status) (came : Came (Unit {0})) → IsShownCome status came → shown ≡ text → (IsTrue t.output → Writes status [] shown written now)
      → TextShown t most J text (at_place one two around written failed) (at_place one_now two_now around_now now failed_now) status
  shown_opened around around_now written now failed failed_now most text shown status came is same wrote = record {
    came = came;
    is = is;
    does = record {
      stands = λ n _. kept_stands s.side J (seen_in s) one_now two_now first second (opened.side told) keeps;
      crashes = λ stands. opened_leaves t.disk one two one_now two_now (Ok s) opened told J stands;
      room = λ _. inl refl;
      journal = image.are.journal;
      sound = λ _ sound. sound;
      faithful = λ faithful. faithful;
      given = λ checks opens links bytes given. given;
      written = λ out. subst (λ (x : List ℕ). Writes status [] x written now) same (wrote out);
    };
  }

  -- the text of an account
  pub account_is : (did text : List ℕ) (state : Option State) → text ≡ account_text did (unwrap_or state fresh) → state ≡ entry s.core.accounts did → text ≡ account_text did (account did J)
  account_is did text state line found = line ∙ ap (λ (o : Option State). account_text did (unwrap_or o fresh)) found ∙ ap (account_text did) (keeps.core.accounts did)

  -- the text of the hosts
  pub hosts_are : (text : List ℕ) (table : Hosts) → text ≡ hosts_text (listed table) → table ≡ s.core.hosts → text ≡ hosts_text (hosts J)
  hosts_are text table lines found = lines ∙ ap (λ (h : Hosts). hosts_text (listed h)) found ∙ ap hosts_text keeps.core.hosts
