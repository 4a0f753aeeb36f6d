-- A read answers the words of the message that its handle has.
use Rattle.std.specs.Prelude.{◌≡◌, ℕ, List, [], ◌∷◌, ◌++◌, Option, Some, None, refl}
use Rattle.std.specs.Option.{option_map_or}
use Rattle.std.proofs.Common.{sym, subst, ap, ◌∙◌, inl, inr}
use Rattle.iox_model.specs.declared.call.Call.TheVariants.{Read}
use Rattle.iox_model.specs.declared.reply.Refusal.TheVariants.{UnknownNumber, WantOfMemory}
use Rattle.iox_model.specs.declared.reply.Reply.TheVariants.{Words}
use Rattle.iox_model.specs.Begins.{begins_at, start}
use Rattle.iox_model.specs.Commands.{Refusal, Reply}
use Rattle.iox_model.specs.Doings.{refused, Outcome, Tells, Doing, Ended}
use Rattle.iox_model.specs.Handles.{subject, Subject, ThePort, TheHandle}
use Rattle.iox_model.specs.Loans.{Choice}
use Rattle.iox_model.specs.Moments.{Moment}
use Rattle.iox_model.specs.Names.{misnamed}
use Rattle.iox_model.specs.States.{Handle, State}
use Rattle.iox_model.specs.Transitions.{ends}
use Rattle.iox_model.specs.WholeCalls.{replied, moved_by, left_by, MayCome, UnlessRefused, spent, IsDone}
use Rattle.iox_laws.proofs.WeaveLaws.MapLemmas.{either}
use Rattle.iox_laws.proofs.WeaveLaws.WholeLemmas.{moved_by-fixed, some-is}
use Rattle.iox_laws.proofs.WeaveLedger.Lists.{IsAmong}
use Rattle.iox_laws.proofs.WeaveLedger.Starts.{there}
use Rattle.iox_model.specs.Handles.{handle_at}
use Rattle.iox_model.specs.Peers.{port_at}
use Rattle.iox_laws.specs.MessageLaws.Lists.{IsOneOf}
use Rattle.iox_laws.specs.MessageLaws.Readings.{words_of, ReadsItsMessage, ReadAsDelivered}
use Rattle.iox_laws.proofs.MessageLaws.Holdings.{had_as_delivered}

-- what the reply tells, if it tells words
abbrev pub told : Reply → Option (List ℕ)
told (Words words) = Some words
told reply = None

-- the handle of that number has these words
abbrev pub Shows : State → ℕ → ℕ → List ℕ → Type 0
Shows s node n words = (h : Handle) × (subject s.fixed node n ≡ Some (TheHandle h)) × (words ≡ words_of h.message)

abbrev pub IfTold : State → ℕ → ℕ → Option (List ℕ) → Type 0
IfTold s node n None = Unit {0}
IfTold s node n (Some words) = Shows s node n words

-- it only ends, and if it tells words they are the handle's
abbrev pub TellsSo : State → ℕ → ℕ → Doing → Type 0
TellsSo s node n (Ended (Tells reply)) = IfTold s node n (told reply)
TellsSo s node n d = ⊥

pub start_tells : (s : State) (node n : ℕ) (c : Choice) → TellsSo s node n (start s node c (Read n))
start_tells s node n c = by_case (subject s.fixed node n) refl
  where
    by_case : (o : Option Subject) → subject s.fixed node n ≡ o → TellsSo s node n (option_map_or (begins_at s c (Read n)) o (refused UnknownNumber))
    by_case None e = tt
    by_case (Some (ThePort p)) e = tt
    by_case (Some (TheHandle h)) e =
        either (TellsSo s node n) c.memory (Ended (Tells (Words (h.message.user ++ h.message.payload)))) (refused WantOfMemory)
        (λ u. (h, e, refl)) (λ u. tt)

-- it makes no moment
stays_so : (s u : State) (node n : ℕ) (d : Doing) (ms : List Moment) → MayCome u node d ms → TellsSo s node n d → TellsSo s node n (left_by u node d ms)
stays_so s u node n d [] may p = p
stays_so s u node n (Ended (Tells reply)) (m ∷ ms) may p = absurd may.1
stays_so s u node n d (m ∷ ms) may p = absurd p

pub ends_so : (s u : State) (node n : ℕ) (d : Doing) (o : Outcome) → TellsSo s node n d → ends u d ≡ Some o
    → IfTold s node n (told (replied u.fixed node o))
ends_so s u node n (Ended (Tells reply)) o p e = subst (λ a. IfTold s node n (told (replied u.fixed node a))) (some-is (Tells reply) o e) p
ends_so s u node n d o p e = absurd p

done_reads : (s t : State) (node n : ℕ) (words : List ℕ) → IsDone s node (Read n) (Words words) t → Shows s node n words
done_reads s t node n words done =
    let d : Doing = start s node done.0 (Read n) in
    subst (λ r. IfTold s node n (told r)) (sym done.8)
    (subst (λ f. IfTold s node n (told (replied f node done.4))) (moved_by-fixed s done.2)
    (ends_so s (moved_by s done.2) node n (left_by s node d done.2) done.4
    (stays_so s s node n d done.2 done.3 (start_tells s node n done.0)) done.5))

-- ---- the whole call

abbrev IsTold : Option (List ℕ) → Type 0
IsTold None = ⊥
IsTold (Some words) = Unit {0}

not_refused : (q : Option Refusal) (s t : State) (words : List ℕ) (Q : Type 0) → UnlessRefused q s (Words words) t Q → Q
not_refused (Some r) s t words Q u = absurd (subst (λ a. IsTold (told a)) u.0 tt)
not_refused None s t words Q u = u

pub reads_its_message : ReadsItsMessage
reads_its_message s t node n words whole =
    let Q : Type 0 = IsDone s node (Read n) (Words words) t in
    done_reads s t node n words
    (not_refused (spent s.fixed (Read n)) s t words Q
    (not_refused (misnamed s.fixed node (Read n)) s t words (UnlessRefused (spent s.fixed (Read n)) s (Words words) t Q) whole))

-- ---- at a receiver

pub among-one : {A : Type 0} (a : A) (xs : List A) → IsAmong a xs → IsOneOf a xs
among-one a [] p = p
among-one a (x ∷ xs) (inl e) = inl e
among-one a (x ∷ xs) (inr p) = inr (among-one a xs p)

-- a number names one handle
pub same_handle : (h g : Handle) → Some (TheHandle g) ≡ Some (TheHandle h) → g ≡ h
same_handle h g e = ap (λ (o : Option Subject). handle_of o) e
  where
    handle_in : Subject → Handle
    handle_in (ThePort p) = h
    handle_in (TheHandle k) = k

    handle_of : Option Subject → Handle
    handle_of None = h
    handle_of (Some x) = handle_in x

pub read_as_delivered : ReadAsDelivered
read_as_delivered s t reached node n h words is received whole =
    let p : Shows s node n words = reads_its_message s t node n words whole in (
      p.2 ∙ ap (λ (k : Handle). words_of k.message) (same_handle h p.0 (sym p.1 ∙ is)),
      had_as_delivered s reached node h
          (among-one h (s.fixed.handles node) (there s.fixed node n (TheHandle h) (port_at s.fixed n) (handle_at s.fixed node n) refl refl is)) received,
    )
