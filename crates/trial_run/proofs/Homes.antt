-- In a made history no two hosts tell of one account.
use Rattle.std.proofs.Common.{◌≡◌, ◌≤◌, ◌<◌, ℕ, zero, suc, ◌+◌, slice_index_or, List, [], ◌∷◌, length, get_or, Result, Ok, Err, refl, sym, ◌∙◌, ap, subst, arith, inl, inr}
use Rattle.std.specs.List.{Contains}
use Rattle.at_cbor.specs.Encoding.{IsString}
use Rattle.at_event.specs.Frames.{frame_of}
use Rattle.at_event.specs.Seen.{Seen}
use Rattle.at_event.specs.declared.frame.Frame.{Frame}
use Rattle.at_event.specs.declared.frame.FrameFault.{FrameFault}
use Rattle.relay_gen.specs.Histories.{history}
use Rattle.relay_gen.specs.Laws.{IsOfItsHost}
use Rattle.relay_gen.specs.Names.{generated_did, host_of}
use Rattle.relay_gen.proofs.Honest.{own_messages}
use Rattle.relay_law.specs.Calls.{as_read}
use Rattle.relay_law.specs.Merges.{TellsOf, Names, OneHome}
use Rattle.relay_gen.specs.declared.history.TheConstants.{MOST_MESSAGES}
use Rattle.trial_run.specs.Merging.{Sent}
use Rattle.trial_run.specs.Taking.{AreStrings}
use Rattle.trial_run.proofs.Worlds.{trusting}

-- the host sent an event of the account
record Sends (ms : Sent) (host did : List ℕ) : Type 0 where
  pub message : List ℕ
  pub e : Seen
  pub there : Contains ms (host, message)
  pub reads : frame_of message ≡ Ok (Frame.Event e)
  pub of_did : e.did ≡ did

behind : (m x : List ℕ × List ℕ) (ms : Sent) → Contains ms x → Contains (m ∷ ms) x
behind m x ms there = (suc there.0, omega (arith, there.1), there.2)

an_event : (frame : Result Frame FrameFault) (host did : List ℕ) → TellsOf (host, frame) did → (e : Seen) × (frame ≡ Ok (Frame.Event e)) × (e.did ≡ did)
an_event (Ok (Frame.Event e)) host did tells = (e, refl, tells)
an_event (Ok (Frame.Faulty seq)) host did tells = absurd tells
an_event (Ok Frame.Info) host did tells = absurd tells
an_event (Ok Frame.Error) host did tells = absurd tells
an_event (Ok Frame.Unknown) host did tells = absurd tells
an_event (Err fault) host did tells = absurd tells

sends : (ms : Sent) (host did : List ℕ) → Names (as_read ms) host did → Sends ms host did
sends [] host did names = absurd names
sends (m ∷ ms) host did (inl here) =
    let found = an_event (frame_of m.1) m.0 did here.1 in
    record { message = m.1; e = found.0; there = (0, omega arith, (λ i. (here.0 i, m.1))); reads = found.1; of_did = found.2 }
sends (m ∷ ms) host did (inr later) =
    let found = sends ms host did later in
    record { message = found.message; e = found.e; there = behind m (host, found.message) ms found.there; reads = found.reads; of_did = found.of_did }

same_account : (a b : ℕ) → generated_did a ≡ generated_did b → a ≡ b
unfolding generated_did
same_account a b is = let last : 97 + a ≡ 97 + b = ap (λ (l : List ℕ). get_or l 11 0) is in omega (arith, last)

is_string : (ms : Sent) (k : ℕ) (x : List ℕ × List ℕ) → AreStrings ms → k < length ms → slice_index_or ms k x ≡ x → IsString x.1
is_string [] k x all within is = absurd (omega (arith, within))
is_string (m ∷ ms) zero x all within is = subst (λ (y : List ℕ × List ℕ). IsString y.1) is all.0
is_string (m ∷ ms) (suc k) x all within is = is_string ms k x all.1 (omega (arith, within)) is

own : (start n : ℕ) → n ≤ MOST_MESSAGES → AreStrings (history start n).messages → (host did : List ℕ) → Names (as_read (history start n).messages) host did → IsOfItsHost host did
own start n most strings host did names =
    let found = sends (history start n).messages host did names in
    let string = is_string (history start n).messages found.there.0 (host, found.message) strings found.there.1 found.there.2 in
    subst (λ (d : List ℕ). IsOfItsHost host d) found.of_did (own_messages start n host found.message found.e most string found.there found.reads)

pub one_home : (start n : ℕ) → n ≤ MOST_MESSAGES → AreStrings (history start n).messages → OneHome trusting (as_read (history start n).messages)
one_home start n most strings did one other first second is_home is_other =
    let a = own start n most strings one did first in
    let b = own start n most strings other did second in
    a.host_is ∙ ap host_of (same_account a.account b.account (sym a.did_is ∙ b.did_is)) ∙ sym b.host_is
