-- How a run of calls goes on.
use Rattle.std.proofs.Common.{◌∙◌, length, inl, inr, ⊎_elim, ℕ, List, refl, sym, subst, arith}
use Rattle.std.proofs.lemmas.List.{take_all}
use Rattle.relay_disk.specs.Disk.{View, Goes, IsAsBefore, IsDisk, IsSettled, Torn, Cut, Same}
use Rattle.relay_disk.specs.Moments.{LeavesOnly, PairLeavesOnly, PartOf, TimeGoesOn}

-- time goes on in a call
pub time_called : (part : List ℕ → List ℕ → Type 0) (old new : View) → IsDisk old → IsDisk new → Goes part old new → TimeGoesOn old new
time_called part old new disk disk_now goes = record {
  later = goes.later;
  parts = λ t c le left. ⊎_elim (λ was. inl was) (λ now. inr (disk_now.counts_now old.moment c goes.later now)) (goes.nothing_else t c le left);
  keeps = goes.keeps;
  since = λ t c le left. ⊎_elim
      (λ was. goes.keeps t c le (disk.counts_now t c le (disk.only_now c was)))
      (λ now. disk_now.counts_now t c (omega (arith, le, goes.later)) now)
      (goes.nothing_else old.moment c (omega arith) left);
}

-- stands still where there is none
pub time_here : (v : View) → IsDisk v → TimeGoesOn v v
time_here v disk = record {
  later = omega arith;
  parts = λ t c le left. inl left;
  keeps = λ t c le was. was;
  since = λ t c le left. disk.counts_now t c le (disk.only_now c left);
}

-- and goes on from one moment to the next
pub time_joined : (old mid new : View) → TimeGoesOn old mid → TimeGoesOn mid new → TimeGoesOn old new
time_joined old mid new first second = record {
  later = omega (arith, first.later, second.later);
  parts = λ t c le left. ⊎_elim
      (λ was. ⊎_elim (λ early. inl early) (λ then. inr (second.keeps old.moment c first.later then)) (first.parts t c le was))
      (λ now. inr (second.since old.moment c first.later now))
      (second.parts t c (omega (arith, le, first.later)) left);
  keeps = λ t c le was. second.keeps t c (omega (arith, le, first.later)) (first.keeps t c le was);
  since = λ t c le left. ⊎_elim
      (λ was. second.keeps t c (omega (arith, le, first.later)) (first.since t c le was))
      (λ now. second.since t c (omega (arith, le, first.later)) now)
      (second.parts old.moment c first.later left);
}

-- one call, before and after which a crash leaves what has P
pub one_call : (P : List ℕ → Type 0) (part : List ℕ → List ℕ → Type 0) (old new : View) → IsDisk old → IsDisk new → Goes part old new
    → ((c : List ℕ) → old.may_leave c → P c) → ((c : List ℕ) → new.may_leave c → P c) → LeavesOnly P old new
one_call P part old new disk disk_now goes before after = record {
  later = goes.later;
  each = λ c left. ⊎_elim (λ was. before c (disk.only_now c was)) (after c) (goes.nothing_else old.moment c (omega arith) left);
  before = λ t c le left. ⊎_elim (λ was. inl was) (λ now. inr (after c now)) (goes.nothing_else t c le left);
  time = time_called part old new disk disk_now goes;
}

-- no call
pub no_call : (P : List ℕ → Type 0) (old : View) → IsDisk old → ((c : List ℕ) → old.may_leave c → P c) → LeavesOnly P old old
no_call P old disk before = record {
  later = omega arith;
  each = λ c left. before c (disk.only_now c left);
  before = λ t c le left. inl left;
  time = time_here old disk;
}

-- one run after another
pub joined : (P : List ℕ → Type 0) (old mid new : View) → LeavesOnly P old mid → LeavesOnly P mid new → LeavesOnly P old new
joined P old mid new first second = record {
  later = omega (arith, first.later, second.later);
  each = λ c left. ⊎_elim (first.each c) (λ has. has) (second.before old.moment c first.later left);
  before = λ t c le left. ⊎_elim (first.before t c le) (λ has. inr has) (second.before t c (omega (arith, le, first.later)) left);
  time = time_joined old mid new first.time second.time;
}

-- what has P has Q
pub weaker : (P Q : List ℕ → Type 0) (old new : View) → LeavesOnly P old new → ((c : List ℕ) → P c → Q c) → LeavesOnly Q old new
weaker P Q old new run also = record {
  later = run.later;
  each = λ c left. also c (run.each c left);
  before = λ t c le left. ⊎_elim (λ was. inl was) (λ has. inr (also c has)) (run.before t c le left);
  time = run.time;
}

-- what a crash may leave after such a call it could leave before
pub unchanged : (old new : View) → Goes Same old new → (c : List ℕ) → new.may_leave c → old.may_leave c
unchanged old new goes c now =
    let from = goes.follows c now in
    subst old.may_leave (sym from.2) from.1

-- a call that does nothing to the bytes, after others
pub still : (P : List ℕ → Type 0) (old mid new : View) → IsDisk mid → IsDisk new → LeavesOnly P old mid → ((c : List ℕ) → mid.may_leave c → P c) → Goes Same mid new → LeavesOnly P old new
still P old mid new disk disk_now run has goes = joined P old mid new run (one_call P Same mid new disk disk_now goes has (λ c now. has c (unchanged mid new goes c now)))

-- a write that was not done at all
pub untorn : (place n : ℕ) (bytes : List ℕ) → Torn place n bytes bytes
untorn place n bytes = record { before = refl; after = refl; no_shorter = omega arith; no_longer = omega arith }

-- a cut that was not done at all
pub uncut : (size : ℕ) (old : List ℕ) → Cut size old old
uncut size old = record { no_shorter = omega arith; front = sym (take_all (length old) old (omega arith)) }

-- a write leaves a part of it
pub write_leaves : (place n : ℕ) (old new : View) → IsDisk old → IsDisk new → Goes (Torn place n) old new → LeavesOnly (PartOf (Torn place n) old) old new
write_leaves place n old new disk disk_now goes =
    one_call (PartOf (Torn place n) old) (Torn place n) old new disk disk_now goes (λ c was. (c, was, untorn place n c)) goes.follows

-- a cut leaves a part of it
pub cut_leaves : (size : ℕ) (old new : View) → IsDisk old → IsDisk new → Goes (Cut size) old new → LeavesOnly (PartOf (Cut size) old) old new
cut_leaves size old new disk disk_now goes =
    one_call (PartOf (Cut size) old) (Cut size) old new disk disk_now goes (λ c was. (c, was, uncut size c)) goes.follows

-- calls that do nothing to the bytes, one after another
pub still_again : (old mid new : View) → IsDisk old → Goes Same old mid → Goes Same mid new → Goes Same old new
still_again old mid new disk first second = record {
  content = second.content ∙ first.content;
  follows = λ c left.
      let from = second.follows c left in
      let back = first.follows from.0 from.1 in
      (back.0, back.1, from.2 ∙ back.2);
  later = omega (arith, first.later, second.later);
  nothing_else = λ t c le left. ⊎_elim
      (λ was. ⊎_elim (λ early. inl early) (λ then. inl (disk.counts_now t c le (unchanged old mid first c then))) (first.nothing_else t c le was))
      (λ now. inr now)
      (second.nothing_else t c (omega (arith, le, first.later)) left);
  keeps = λ t c le was. second.keeps t c (omega (arith, le, first.later)) (first.keeps t c le was);
  counts = omega (arith, first.counts, second.counts);
}

-- and none at all
pub still_here : (v : View) → Goes Same v v
still_here v = record {
  content = refl;
  follows = λ c left. (c, left, refl);
  later = omega arith;
  nothing_else = λ t c le left. inl left;
  keeps = λ t c le was. was;
  counts = omega arith;
}

-- where nothing has changed, nothing was done
pub as_before_goes : (old new : View) → IsAsBefore old new → Goes Same old new
as_before_goes old new same = record {
  content = same.content;
  follows = λ c left. (c, (same.may_leave c).0 left, refl);
  later = omega (arith, same.moment);
  nothing_else = λ t c le left. inl ((same.left_since t c).0 left);
  keeps = λ t c le was. (same.left_since t c).1 was;
  counts = omega (arith, same.faults);
}

-- a settled disk stays settled
pub settled_still : (bytes : List ℕ) (old new : View) → IsSettled old bytes → Goes Same old new → IsSettled new bytes
settled_still bytes old new settled goes = record {
  content = goes.content ∙ settled.content;
  only = λ c left. settled.only c (unchanged old new goes c left);
}

-- what holds of each moment holds of this one
pub now_too : (P : List ℕ → Type 0) (old new : View) → IsDisk new → LeavesOnly P old new → (c : List ℕ) → new.may_leave c → P c
now_too P old new disk run c left = run.each c (disk.counts_now old.moment c run.later left)

-- what crashes leave of a disk that is only read is what one could leave before
pub read_left : (old new : View) → IsDisk old → Goes Same old new → (c : List ℕ) → new.left_since old.moment c → old.may_leave c
read_left old new disk goes c left =
    ⊎_elim (λ was. disk.only_now c was) (λ now. unchanged old new goes c now) (goes.nothing_else old.moment c (omega arith) left)

-- two runs, each on a disk of its own
pub pair_of : (P Q : List ℕ → Type 0) (R : List ℕ → List ℕ → Type 0) (one one_now two two_now : View) → LeavesOnly P one one_now → LeavesOnly Q two two_now
    → ((c d : List ℕ) → P c → Q d → R c d) → PairLeavesOnly R one one_now two two_now
pair_of P Q R one one_now two two_now first second both = record {
  one_later = first.later;
  two_later = second.later;
  each = λ c d left beside. both c d (first.each c left) (second.each d beside);
}

-- a run of both, and then one on the first alone
pub pair_then_one : (P R : List ℕ → List ℕ → Type 0) (Q : List ℕ → Type 0) (one mid one_now two two_now : View) → PairLeavesOnly P one mid two two_now → LeavesOnly Q mid one_now
    → ((c d : List ℕ) → P c d → R c d) → ((c d : List ℕ) → Q c → two_now.left_since two.moment d → R c d) → PairLeavesOnly R one one_now two two_now
pair_then_one P R Q one mid one_now two two_now run more before behind = record {
  one_later = omega (arith, run.one_later, more.later);
  two_later = run.two_later;
  each = λ c d left beside. ⊎_elim (λ was. before c d (run.each c d was beside)) (λ has. behind c d has beside) (more.before one.moment c run.one_later left);
}

-- or on the second
pub pair_then_two : (P R : List ℕ → List ℕ → Type 0) (Q : List ℕ → Type 0) (one one_now two mid two_now : View) → PairLeavesOnly P one one_now two mid → LeavesOnly Q mid two_now
    → ((c d : List ℕ) → P c d → R c d) → ((c d : List ℕ) → one_now.left_since one.moment c → Q d → R c d) → PairLeavesOnly R one one_now two two_now
pair_then_two P R Q one one_now two mid two_now run more before behind = record {
  one_later = run.one_later;
  two_later = omega (arith, run.two_later, more.later);
  each = λ c d left beside. ⊎_elim (λ was. before c d (run.each c d left was)) (λ has. behind c d left has) (more.before two.moment d run.two_later beside);
}

-- a run of both, and then the first is only read
pub pair_still_one : (P : List ℕ → List ℕ → Type 0) (one mid one_now two two_now : View) → IsDisk mid → PairLeavesOnly P one mid two two_now → Goes Same mid one_now → PairLeavesOnly P one one_now two two_now
pair_still_one P one mid one_now two two_now disk run goes = record {
  one_later = omega (arith, run.one_later, goes.later);
  two_later = run.two_later;
  each = λ c d left beside. run.each c d (⊎_elim (λ was. was) (λ now. disk.counts_now one.moment c run.one_later (unchanged mid one_now goes c now)) (goes.nothing_else one.moment c run.one_later left)) beside;
}

-- or the second
pub pair_still_two : (P : List ℕ → List ℕ → Type 0) (one one_now two mid two_now : View) → IsDisk mid → PairLeavesOnly P one one_now two mid → Goes Same mid two_now → PairLeavesOnly P one one_now two two_now
pair_still_two P one one_now two mid two_now disk run goes = record {
  one_later = run.one_later;
  two_later = omega (arith, run.two_later, goes.later);
  each = λ c d left beside. run.each c d left (⊎_elim (λ was. was) (λ now. disk.counts_now two.moment d run.two_later (unchanged mid two_now goes d now)) (goes.nothing_else two.moment d run.two_later beside));
}

-- what holds of each pair holds of what crashes now may leave
pub pair_now_too : (P : List ℕ → List ℕ → Type 0) (one one_now two two_now : View) → IsDisk one_now → IsDisk two_now → PairLeavesOnly P one one_now two two_now
    → (c d : List ℕ) → one_now.may_leave c → two_now.may_leave d → P c d
pair_now_too P one one_now two two_now first second run c d left beside = run.each c d (first.counts_now one.moment c run.one_later left) (second.counts_now two.moment d run.two_later beside)

-- a weaker word for the pairs
pub pair_weaker : (P R : List ℕ → List ℕ → Type 0) (one one_now two two_now : View) → PairLeavesOnly P one one_now two two_now → ((c d : List ℕ) → P c d → R c d) → PairLeavesOnly R one one_now two two_now
pair_weaker P R one one_now two two_now run also = record {
  one_later = run.one_later;
  two_later = run.two_later;
  each = λ c d left beside. also c d (run.each c d left beside);
}
