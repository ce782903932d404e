-- The DIDs of which messages have a commit or a `#sync`, in ascending order.
use Rattle.std.proofs.Common.{◌≡◌, ℕ, Bool, true, false, cond, ◌||◌, ◌&&◌, Ordering, Less, Equal, Greater, List, [], ◌∷◌, Result, Ok, Err, refl, sym, ap, subst, ◌∙◌}
use Rattle.std.specs.List.{list_any}
use Rattle.std.specs.Str.{bytes_eq}
use Rattle.at_cid.specs.Order.{key_cmp}
use Rattle.at_cid.proofs.Order.{cmp_below, cmp_exact, cmp_trans}
use Rattle.at_event.specs.Frames.{frame_of}
use Rattle.at_event.specs.declared.frame.Frame.{Frame}
use Rattle.at_event.specs.declared.frame.FrameFault.{FrameFault}
use Rattle.mirror.specs.Taken.{is_such_event_of}
use Rattle.at_event.specs.Bodies.{has_blocks}
use Rattle.mirror_run.specs.Mirrored.{AllBehind, Ascend}
use Rattle.mirror_run.specs.Stream.{tell_of}

-- a name is among these
abbrev pub is_among : List (List ℕ) → List ℕ → Bool
is_among dids did = list_any (bytes_eq did) dids

-- a name is put among others in order
abbrev pub placed : Ordering → List ℕ → List ℕ → List (List ℕ) → List (List ℕ) → List (List ℕ)
placed Less did d dids later = did ∷ (d ∷ dids)
placed Equal did d dids later = d ∷ dids
placed Greater did d dids later = d ∷ later

abbrev pub with_name : List ℕ → List (List ℕ) → List (List ℕ)
with_name did [] = did ∷ []
with_name did (d ∷ dids) = placed (key_cmp did d) did d dids (with_name did dids)

or_same : (a b : Bool) → (a || b) ≡ (a || (a || b))
or_same true b = refl
or_same false b = refl

or_swap : (a b c d : Bool) → d ≡ (b || c) → (a || d) ≡ (b || (a || c))
or_swap true true c d h = refl
or_swap true false c d h = refl
or_swap false b c d h = h

among_named : (did : List ℕ) (dids : List (List ℕ)) (x : List ℕ) → is_among (with_name did dids) x ≡ (bytes_eq x did || is_among dids x)
among_named did [] x = refl
among_named did (d ∷ dids) x = of (among_named did dids x) (key_cmp did d) refl
  where
    of : is_among (with_name did dids) x ≡ (bytes_eq x did || is_among dids x) → (o : Ordering) → key_cmp did d ≡ o → is_among (placed o did d dids (with_name did dids)) x ≡ (bytes_eq x did || (bytes_eq x d || is_among dids x))
    of later Less is = refl
    of later Equal is =
        subst (λ (e : List ℕ). (bytes_eq x d || is_among dids x) ≡ (bytes_eq x e || (bytes_eq x d || is_among dids x))) (sym (cmp_exact did d is))
        (or_same (bytes_eq x d) (is_among dids x))
    of later Greater is = or_swap (bytes_eq x d) (bytes_eq x did) (is_among dids x) (is_among (with_name did dids) x) later

pub behind_all : (did d : List ℕ) (dids : List (List ℕ)) → key_cmp did d ≡ Less → AllBehind d dids → AllBehind did dids
behind_all did d [] less h = tt
behind_all did d (e ∷ dids) less h = (cmp_trans did d e less h.0, behind_all did d dids less h.1)

behind_named : (e did : List ℕ) (dids : List (List ℕ)) → key_cmp e did ≡ Less → AllBehind e dids → AllBehind e (with_name did dids)
behind_named e did [] less h = (less, tt)
behind_named e did (d ∷ dids) less h = of (behind_named e did dids less h.1) (key_cmp did d)
  where
    of : AllBehind e (with_name did dids) → (o : Ordering) → AllBehind e (placed o did d dids (with_name did dids))
    of later Less = (less, h)
    of later Equal = h
    of later Greater = (h.0, later)

ascend_named : (did : List ℕ) (dids : List (List ℕ)) → Ascend dids → Ascend (with_name did dids)
ascend_named did [] h = (tt, tt)
ascend_named did (d ∷ dids) h = of (ascend_named did dids h.1) (key_cmp did d) refl
  where
    of : Ascend (with_name did dids) → (o : Ordering) → key_cmp did d ≡ o → Ascend (placed o did d dids (with_name did dids))
    of later Less is = ((is, behind_all did d dids is h.0), h)
    of later Equal is = h
    of later Greater is = (behind_named d did dids (cmp_below did d is) h.0, later)

-- the DIDs that messages tell of
abbrev pub with_told : Result Frame FrameFault → List (List ℕ) → List (List ℕ)
with_told (Ok (Frame.Event e)) dids = cond (has_blocks e.body) (with_name e.did dids) dids
with_told (Ok (Frame.Faulty seq)) dids = dids
with_told (Ok Frame.Info) dids = dids
with_told (Ok Frame.Error) dids = dids
with_told (Ok Frame.Unknown) dids = dids
with_told (Err fault) dids = dids

abbrev pub dids_of : List (List ℕ) → List (List ℕ)
dids_of [] = []
dids_of (m ∷ messages) = with_told (frame_of m) (dids_of messages)

among_told : (f : Result Frame FrameFault) (dids : List (List ℕ)) (x : List ℕ) → is_among (with_told f dids) x ≡ (is_such_event_of has_blocks x f || is_among dids x)
among_told (Ok (Frame.Event e)) dids x = of (has_blocks e.body)
  where
    of : (b : Bool) → is_among (cond b (with_name e.did dids) dids) x ≡ ((b && bytes_eq x e.did) || is_among dids x)
    of true = among_named e.did dids x
    of false = refl
among_told (Ok (Frame.Faulty seq)) dids x = refl
among_told (Ok Frame.Info) dids x = refl
among_told (Ok Frame.Error) dids x = refl
among_told (Ok Frame.Unknown) dids x = refl
among_told (Err fault) dids x = refl

ascend_told : (f : Result Frame FrameFault) (dids : List (List ℕ)) → Ascend dids → Ascend (with_told f dids)
ascend_told (Ok (Frame.Event e)) dids h = of (has_blocks e.body)
  where
    of : (b : Bool) → Ascend (cond b (with_name e.did dids) dids)
    of true = ascend_named e.did dids h
    of false = h
ascend_told (Ok (Frame.Faulty seq)) dids h = h
ascend_told (Ok Frame.Info) dids h = h
ascend_told (Ok Frame.Error) dids h = h
ascend_told (Ok Frame.Unknown) dids h = h
ascend_told (Err fault) dids h = h

pub dids_told : (messages : List (List ℕ)) (did : List ℕ) → is_among (dids_of messages) did ≡ tell_of did messages
dids_told [] did = refl
dids_told (m ∷ messages) did =
    among_told (frame_of m) (dids_of messages) did ∙ ap (λ (b : Bool). is_such_event_of has_blocks did (frame_of m) || b) (dids_told messages did)

pub dids_ascend : (messages : List (List ℕ)) → Ascend (dids_of messages)
dids_ascend [] = tt
dids_ascend (m ∷ messages) = ascend_told (frame_of m) (dids_of messages) (dids_ascend messages)
