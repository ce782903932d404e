use Rattle.cut_law.proofs.Again.{cut_hosts}
use Rattle.cut_law.proofs.Carrying.{cut_account, cut_cursor, cut_last, cut_named}
use Rattle.cut_law.proofs.laws.cuts_say_the_same.Goals as goal

pub returns : goal.returns
returns c = record {
  accounts = λ J at did. cut_account did J at;
  named = λ J at did. cut_named did J at;
  cursors = λ J at host. cut_cursor host J at;
  hosts = λ J at is. cut_hosts J at is;
  last = λ J at. cut_last J at;
}
