-- Rows that are written anew, each as a body of its own.
use Rattle.std.proofs.Common.{◌≡◌, inl, inr, ⊎_elim, ℕ, ◌+◌, ◌<◌, Bool, true, false, List, [], ◌∷◌, ◌++◌, length, IsTrue, Result, Ok, Err, OnOk, refl, sym, ◌∙◌, ap, subst, arith, append_assoc, length-append}
use Rattle.std.proofs.lemmas.List.{append-nil}
use Rattle.std.proofs.lemmas.Bool.{cases_lt}
use Rattle.event_window.specs.declared.place.Place.{Place}
use Rattle.relay_disk.specs.Disk.{View, IsDisk}
use Rattle.relay_disk.specs.Moments.{LeavesOnly}
use Rattle.relay_disk.proofs.Moments.{joined as run_on, no_call}
use Rattle.gate_log.specs.Build.{BuildState, HasBuilt, IsBuiltOn, IsClosed}
use Rattle.gate_log.specs.Image.{made, records}
use Rattle.at_cid.specs.Lengths.{length_prefixed}
use Rattle.gate_log.specs.declared.fault.LogFault.{LogFault}
use Rattle.gate_log.specs.declared.format.Format.{Format}
use Rattle.gate_log.specs.declared.limits.TheConstants.{AROUND_BODY, BEFORE_BODY}
use Rattle.gate_log.proofs.Append.{records-append}
use Rattle.row_codec.specs.Bodies.{rows_body}
use Rattle.relay_row.specs.Journal.{keeps_order}
use Rattle.relay_row.specs.declared.row.Row.{Row}
use Rattle.relay_core.specs.Entries.{Holds}
use Rattle.relay_store.specs.Faults.{of_log}
use Rattle.relay_store.specs.Journals.{bytes_of, joined}
use Rattle.relay_store.specs.Places.{place_of, places_behind, places_in}
use Rattle.relay_store.specs.Opening.{IsOfReading}
use Rattle.store_cut.specs.Rereading.{BreaksOrder, GrowsInOrder}
use Rattle.store_cut.specs.Rewriting.{singles, end_behind, AllShort, IsShort, IsCopied, RewriteHasNoRoom, IsOfAdding, IsOfRewriting}
use Rattle.relay_store.specs.declared.fault.StoreFault.{StoreFault}
use Rattle.store_cut.specs.declared.rewriting.Rewrite.{Rewrite}
use Rattle.relay_store.proofs.Loaded.{length_made}
use Rattle.store_cut.proofs.Ordering.{DoneInOrder, done_all, done_more, done_stops}
use Rattle.relay_store.proofs.Standing.{bytes_joined}

singles_joined : (xs ys : List Row) → singles (xs ++ ys) ≡ singles xs ++ singles ys
singles_joined [] ys = refl
singles_joined (x ∷ xs) ys = ap (λ (l : List (List Row)). (x ∷ []) ∷ l) (singles_joined xs ys)

pub joined_singles : (xs : List Row) → joined (singles xs) ≡ xs
joined_singles [] = refl
joined_singles (x ∷ xs) = ap (λ (l : List Row). x ∷ l) (joined_singles xs)

singles_bytes : (xs ys : List Row) → bytes_of (singles (xs ++ ys)) ≡ bytes_of (singles xs) ++ bytes_of (singles ys)
singles_bytes xs ys = ap bytes_of (singles_joined xs ys) ∙ bytes_joined (singles xs) (singles ys)

pub end_joined : (end : ℕ) (xs ys : List Row) → end_behind end (xs ++ ys) ≡ end_behind (end_behind end xs) ys
end_joined end xs ys =
    let first = records (bytes_of (singles xs)) in
    let behind = records (bytes_of (singles ys)) in
    omega (arith, ap (λ (bs : List (List ℕ)). length (records bs)) (singles_bytes xs ys), ap length (records-append (bytes_of (singles xs)) (bytes_of (singles ys))), length-append first behind)

places_joined : (format : Format) (before xs ys : List (List Row)) → places_behind format before (xs ++ ys) ≡ places_behind format before xs ++ places_behind format (before ++ xs) ys
places_joined format before [] ys = ap (λ (bs : List (List Row)). places_behind format bs ys) (sym (append-nil before))
places_joined format before (x ∷ xs) ys =
    let first = places_in (length (made format (bytes_of before))) 0 x in
    ap (λ (l : List Place). first ++ l) (places_joined format (before ++ x ∷ []) xs ys)
    ∙ sym (append_assoc first (places_behind format (before ++ x ∷ []) xs) (places_behind format ((before ++ x ∷ []) ++ xs) ys))
    ∙ ap (λ (bs : List (List Row)). (first ++ places_behind format (before ++ x ∷ []) xs) ++ places_behind format bs ys) (append_assoc before (x ∷ []) xs)

made_end : (format : Format) (before : List (List Row)) (rows : List Row) (end : ℕ) → end ≡ length (made format (bytes_of before)) → end_behind end rows ≡ length (made format (bytes_of (before ++ singles rows)))
made_end format before rows end here =
    omega (arith, here, ap (λ (bs : List (List ℕ)). length (made format bs)) (bytes_joined before (singles rows)), length_made format (bytes_of before) (bytes_of (singles rows)))

one_end : (end : ℕ) (row : Row) → end_behind end (row ∷ []) ≡ end + BEFORE_BODY + length (rows_body (row ∷ []))
one_end end row = omega (arith, ap length (append-nil (length_prefixed (rows_body (row ∷ [])))))

module _ (tells : Bool) where
  pub copied_none : (r : Rewrite) (v : View) → IsDisk v → (IsTrue tells → IsBuiltOn v r.build) → IsCopied tells [] r r v v
  copied_none r v disk on = record {
    format = refl;
    most = refl;
    end = omega arith;
    fits = inl refl;
    on = on;
    added = λ told bodies has. subst (λ (bs : List (List ℕ)). HasBuilt bs r.build v) (sym (append-nil bodies)) has;
    core = λ J holds. subst (Holds r.core) (sym (append-nil J)) holds;
    window = λ before here. sym (append-nil r.window.places);
    run = λ told. no_call IsClosed v disk (on told).1.built.left;
    steady = refl;
  }

  pub copied_one : (row : Row) (r now : Rewrite) (v w : View) → now.build ≡ record r.build { end = r.build.end + BEFORE_BODY + length (rows_body (row ∷ [])); waiting = now.build.waiting }
      → (r.build.most < r.build.end + AROUND_BODY + length (rows_body (row ∷ [])) → ⊥)
      → (IsTrue tells → IsBuiltOn w now.build)
      → (IsTrue tells → (bodies : List (List ℕ)) → HasBuilt bodies r.build v → HasBuilt (bodies ++ rows_body (row ∷ []) ∷ []) now.build w)
      → ((J : List Row) → Holds r.core J → Holds now.core (J ++ row ∷ []))
      → now.window.places ≡ r.window.places ++ place_of r.build.end 0 row
      → (IsTrue tells → LeavesOnly IsClosed v w) → w.faults ≡ v.faults → IsCopied tells (row ∷ []) r now v w
  copied_one row r now v w is fits on added core window run steady = record {
    format = ap (λ (b : BuildState). b.format) is;
    most = ap (λ (b : BuildState). b.most) is;
    end = omega (arith, ap (λ (b : BuildState). b.end) is, one_end r.build.end row);
    fits = elim (cases_lt r.build.most (r.build.end + AROUND_BODY + length (rows_body (row ∷ [])))) [
      | inl past ↦ absurd (fits past)
      | inr below ↦ inr (omega (arith, below, ap (λ (b : BuildState). b.end) is))
    ];
    on = on;
    added = added;
    core = core;
    window = λ before here.
        let place = length (made r.build.format (bytes_of before)) in
        window ∙ ap (λ (n : ℕ). r.window.places ++ place_of n 0 row) here
        ∙ ap (λ (l : List Place). r.window.places ++ l) (sym (append-nil (place_of place 0 row)) ∙ sym (append-nil (place_of place 0 row ++ [])));
    run = run;
    steady = steady;
  }

  module _ (xs ys : List Row) (r0 r1 r2 : Rewrite) (v0 v1 v2 : View) (first : IsCopied tells xs r0 r1 v0 v1) (second : IsCopied tells ys r1 r2 v1 v2) where
    both_end : r2.build.end ≡ end_behind r0.build.end (xs ++ ys)
    both_end = second.end ∙ ap (λ (n : ℕ). end_behind n ys) first.end ∙ sym (end_joined r0.build.end xs ys)

    both_window : (before : List (List Row)) → r0.build.end ≡ length (made r0.build.format (bytes_of before)) → r2.window.places ≡ r0.window.places ++ places_behind r0.build.format before (singles (xs ++ ys))
    both_window before here =
        let format = r0.build.format in
        let one = places_behind format before (singles xs) in
        let next : r1.build.end ≡ length (made r1.build.format (bytes_of (before ++ singles xs))) =
        first.end ∙ made_end format before xs r0.build.end here ∙ ap (λ (f : Format). length (made f (bytes_of (before ++ singles xs)))) (sym first.format) in
        second.window (before ++ singles xs) next
        ∙ (λ i. first.window before here i ++ places_behind (first.format i) (before ++ singles xs) (singles ys))
        ∙ append_assoc r0.window.places one (places_behind format (before ++ singles xs) (singles ys))
        ∙ ap (λ (l : List Place). r0.window.places ++ l) (sym (places_joined format before (singles xs) (singles ys)) ∙ ap (λ (bs : List (List Row)). places_behind format before bs) (sym (singles_joined xs ys)))

    pub copied_both : IsCopied tells (xs ++ ys) r0 r2 v0 v2
    copied_both = record {
      format = second.format ∙ first.format;
      most = second.most ∙ first.most;
      end = both_end;
      fits = ⊎_elim
          (λ none. ⊎_elim
          (λ none_too. inl (λ i. none_too i ++ none i))
          (λ below. inr (omega (arith, below, second.end, ap (λ (l : List Row). length (records (bytes_of (singles l)))) none)))
          first.fits)
          (λ below. inr (omega (arith, below, first.most)))
          second.fits;
      on = second.on;
      added = λ told bodies has.
          subst (λ (bs : List (List ℕ)). HasBuilt bs r2.build v2)
          (append_assoc bodies (bytes_of (singles xs)) (bytes_of (singles ys)) ∙ ap (λ (l : List (List ℕ)). bodies ++ l) (sym (singles_bytes xs ys)))
          (second.added told (bodies ++ bytes_of (singles xs)) (first.added told bodies has));
      core = λ J holds. subst (Holds r2.core) (append_assoc J xs ys) (second.core (J ++ xs) (first.core J holds));
      window = both_window;
      run = λ told. run_on IsClosed v0 v1 v2 (first.run told) (second.run told);
      steady = second.steady ∙ first.steady;
    }

pub not_both : (r : Result ℕ LogFault) (x : ℕ) (f : LogFault) → r ≡ Ok x → r ≡ Err f → ⊥
not_both r x f ok err = let same : ◌≡◌ {A = Result ℕ LogFault} (Ok x) (Err f) = sym ok ∙ err in let wrong : ⊥ = cc in wrong

pub log_full : (f : LogFault) (e : ℕ) → of_log f ≡ StoreFault.Full e → f ≡ LogFault.Full e
log_full LogFault.Disk e is = let no : ⊥ = cc in absurd no
log_full (LogFault.BadLog p) e is = let no : ⊥ = cc in absurd no
log_full (LogFault.Full d) e is = let same : d ≡ e = cc in ap LogFault.Full same
log_full LogFault.Memory e is = let no : ⊥ = cc in absurd no

pub reading_is : (f : StoreFault) → IsOfReading f → IsOfRewriting f
reading_is StoreFault.Disk is = is
reading_is (StoreFault.BadLog p) is = is
reading_is (StoreFault.Full e) is = absurd is
reading_is StoreFault.SeqEnd is = is
reading_is StoreFault.Authority is = is
reading_is StoreFault.Repos is = is
reading_is StoreFault.Memory is = is
reading_is StoreFault.Clock is = is

pub adding_is : (f : StoreFault) → IsOfAdding f → IsOfRewriting f
adding_is StoreFault.Disk is = is
adding_is (StoreFault.BadLog p) is = absurd is
adding_is (StoreFault.Full e) is = is
adding_is StoreFault.SeqEnd is = is
adding_is StoreFault.Authority is = is
adding_is StoreFault.Repos is = is
adding_is StoreFault.Memory is = is
adding_is StoreFault.Clock is = is

pub on_ok_as : {T E P Q : Type 0} (r : Result T E) → (P → Q) → OnOk r P → OnOk r Q
on_ok_as (Ok x) so is = so is
on_ok_as (Err e) so is = tt

-- ---- a row that has no room

pub no_room_one : (end most : ℕ) (row : Row) (e : ℕ) → e ≡ end + AROUND_BODY + length (rows_body (row ∷ [])) → most < e → RewriteHasNoRoom end most (row ∷ []) e
no_room_one end most row e is past = record { before = []; row = row; after = []; split = refl; there = omega (arith, is); past = past; fits = inl refl }

pub no_room_front : (end most : ℕ) (xs more : List Row) (e : ℕ) → RewriteHasNoRoom end most xs e → RewriteHasNoRoom end most (xs ++ more) e
no_room_front end most xs more e is = record {
  before = is.before;
  row = is.row;
  after = is.after ++ more;
  split = ap (λ (l : List Row). l ++ more) is.split ∙ append_assoc is.before (is.row ∷ is.after) more;
  there = is.there;
  past = is.past;
  fits = is.fits;
}

pub no_room_behind : (tells : Bool) (xs ys : List Row) (r0 r1 : Rewrite) (v0 v1 : View) (e : ℕ) → IsCopied tells xs r0 r1 v0 v1 → RewriteHasNoRoom r1.build.end r1.build.most ys e → RewriteHasNoRoom r0.build.end r0.build.most (xs ++ ys) e
no_room_behind tells xs ys r0 r1 v0 v1 e copied is =
    let end : end_behind r0.build.end (xs ++ is.before) ≡ end_behind r1.build.end is.before =
    end_joined r0.build.end xs is.before ∙ ap (λ (n : ℕ). end_behind n is.before) (sym copied.end) in
    record {
      before = xs ++ is.before;
      row = is.row;
      after = is.after;
      split = ap (λ (l : List Row). xs ++ l) is.split ∙ sym (append_assoc xs is.before (is.row ∷ is.after));
      there = omega (arith, is.there, end);
      past = omega (arith, is.past, copied.most);
      fits = ⊎_elim
          (λ none. ⊎_elim
          (λ none_too. inl (λ i. none_too i ++ none i))
          (λ below. inr (omega (arith, below, end, ap (λ (l : List Row). length (records (bytes_of (singles l)))) none)))
          copied.fits)
          (λ below. inr (omega (arith, below, end, copied.most)))
          is.fits;
    }

-- ---- while rows are put one after another

-- some were put, and these are left, each short enough
pub record IsPutting (tells : Bool) (rows left : List Row) (r now : Rewrite) (v w : View) : Type 0 where
  pub done : List Row
  pub split : rows ≡ done ++ left
  pub copied : IsCopied tells done r now v w
  pub ordered : DoneInOrder rows done r.core
  pub short : AllShort left

module _ (tells : Bool) (rows left rest : List Row) (row : Row) (r now : Rewrite) (v w : View) (so_far : IsPutting tells rows left r now v w) (is : left ≡ row ∷ rest) where
  pub put_more : (next : Rewrite) (x : View) → IsCopied tells (row ∷ []) now next w x → ((J : List Row) → Holds now.core J → true ≡ keeps_order J row) → IsPutting tells rows rest r next v x
  put_more next x one order = record {
    done = so_far.done ++ row ∷ [];
    split = so_far.split ∙ ap (λ (l : List Row). so_far.done ++ l) is ∙ sym (append_assoc so_far.done (row ∷ []) rest);
    copied = copied_both tells so_far.done (row ∷ []) r now next v w x so_far.copied one;
    ordered = done_more rows so_far.done left rest row r.core now.core so_far.split is so_far.copied.core so_far.ordered order;
    short = (subst AllShort is so_far.short).1;
  }

  pub put_short : IsShort row
  put_short = (subst AllShort is so_far.short).0

  pub put_stops : ((J : List Row) → Holds now.core J → false ≡ keeps_order J row) → BreaksOrder rows r.core
  put_stops order = done_stops rows so_far.done left rest row r.core now.core so_far.split is so_far.copied.core order

  pub put_full : (e : ℕ) → RewriteHasNoRoom now.build.end now.build.most (row ∷ []) e → RewriteHasNoRoom r.build.end r.build.most rows e
  put_full e full =
      subst (λ (l : List Row). RewriteHasNoRoom r.build.end r.build.most l e) (sym (so_far.split ∙ ap (λ (l : List Row). so_far.done ++ l) is))
      (no_room_behind tells so_far.done (row ∷ rest) r now v w e so_far.copied (no_room_front now.build.end now.build.most (row ∷ []) rest e full))

pub put_all : (tells : Bool) (rows : List Row) (r now : Rewrite) (v w : View) → IsPutting tells rows [] r now v w → IsCopied tells rows r now v w
put_all tells rows r now v w so_far = subst (λ (l : List Row). IsCopied tells l r now v w) (sym (so_far.split ∙ append-nil so_far.done)) so_far.copied

pub put_ordered : (tells : Bool) (rows : List Row) (r now : Rewrite) (v w : View) → IsPutting tells rows [] r now v w → GrowsInOrder rows r.core
put_ordered tells rows r now v w so_far = done_all rows so_far.done r.core so_far.split so_far.ordered
