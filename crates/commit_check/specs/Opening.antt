-- What is handed on of a commit event that was opened.
use Rattle.std.specs.Prelude.{◌≡◌, true, Some, Ok}
use Rattle.sha2.specs.Sha256.{sha256}
use Rattle.at_commit.specs.declared.commit.Commit.{Commit}
use Rattle.at_event.specs.declared.event.CommitEvent.{CommitEvent}
use Rattle.event_checks.specs.Opening.{data_in, is_commit_of, object_in}
use Rattle.event_checks.specs.Table.{car_in}
use Rattle.commit_check.specs.declared.content.Content.{Content}
use Rattle.commit_check.specs.declared.opened.Opened.{Opened}

-- what is handed on of a commit object: its head, the digest that was signed, and the signature
pub record IsHeadOf (e : CommitEvent) (commit : Commit) (o : Opened) : Type 0 where
  pub rev : o.head.rev ≡ commit.rev
  pub data_root : o.head.data_root ≡ commit.data_root
  pub link : o.head.commit ≡ e.commit
  pub digest : o.digest ≡ sha256 commit.unsigned
  pub sig : o.sig ≡ commit.sig

-- the commit event was opened: its CAR was read, and the commit object under its first root
pub record IsOpened (e : CommitEvent) (o : Opened) : Type 0 where
  pub car : car_in e ≡ Ok (o.car.roots, o.car.blocks)
  pub commit : Commit
  pub object : object_in (car_in e) ≡ Some commit
  pub own : is_commit_of e.repo e.rev (Some commit) ≡ true
  pub head : IsHeadOf e commit o

-- of the commit event's blocks its CAR was read, and the `data` of the commit object under its
-- first root
pub record IsContent (e : CommitEvent) (content : Content) : Type 0 where
  pub car : car_in e ≡ Ok (content.car.roots, content.car.blocks)
  pub data_root : data_in (object_in (car_in e)) ≡ Some content.data_root
