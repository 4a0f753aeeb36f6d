-- A loan within its limits is made, where the pool does not refuse it, or finds no memory.
use Rattle.std.specs.Prelude.{◌≡◌, ◌⊎◌, ◌&&◌, not, ℕ, Bool, true, false, if◌then◌else◌, List, [], ◌∷◌, Option, Some, None, refl}
use Rattle.std.specs.Option.{option_map_or}
use Rattle.std.proofs.Common.{sym, subst, inl, inr}
use Rattle.iox_model.specs.declared.call.Call.TheVariants.{Loan}
use Rattle.iox_model.specs.declared.command.Command.TheVariants.{Port}
use Rattle.iox_model.specs.declared.command.PortCommand.TheVariants as ports
use Rattle.iox_model.specs.declared.reply.Refusal.TheVariants.{OutOfMemory, UnknownNumber, WantOfMemory, WrongLength}
use Rattle.iox_model.specs.declared.reply.Reply.TheVariants.{Handle, Refused}
use Rattle.iox_model.specs.declared.way.Way.{Way}
use Rattle.iox_model.specs.Begins.{begins_at, start}
use Rattle.iox_model.specs.Commands.{Refusal, Reply}
use Rattle.iox_model.specs.Doings.{refused, Outcome, Tells, Loans, Doing, Ended, Loaning, Asking, Emptying, Looking, Opening, Delivering, Evicted, Visiting, Again, Judging, Stale, Closing, Returning, Leaving, Checking, Hinting, Seeking}
use Rattle.iox_model.specs.Handles.{Subject, ThePort, TheHandle, new_number}
use Rattle.iox_model.specs.Loans.{Choice, loan_of, next_request, request_loan_refusal, response_loan_refusal, memory_refusal, lending_ways, unless_refused}
use Rattle.iox_model.specs.Maps.{refused_if, without_way}
use Rattle.iox_model.specs.Moments.{Moment, moved, GetBack, SeesNoneBack}
use Rattle.iox_model.specs.Outstandings.{is_dry, kept, kept_after}
use Rattle.iox_model.specs.Peers.{port_at}
use Rattle.iox_model.specs.Responses.{lending, lends_by, lends_response, loaned, loaning, ordered}
use Rattle.iox_model.specs.Services.{IsCommand}
use Rattle.iox_model.specs.States as m
use Rattle.iox_model.specs.States.{Fixed, State}
use Rattle.iox_model.specs.Transitions.{next, ends}
use Rattle.iox_model.specs.WholeCalls.{IsDone, IsWholeCall, MayCome, UnlessRefused, left_by, moved_by, replied, spent}
use Rattle.iox_laws.proofs.WeaveLaws.MapLemmas.{either}
use Rattle.iox_laws.proofs.WeaveLaws.WholeLemmas.{some-is}
use Rattle.iox_laws.proofs.WeaveLedger.Truths.{none-some}
use Rattle.iox_service_laws.specs.Limits.{LoansSucceed, MayLoan, PoolsSuffice, limits_refusal}

-- ---- what such a loan comes to

-- it is made, or the pool or the memory refuses it
abbrev Lends : Outcome → Type 0
Lends (Loans h) = Unit {0}
Lends (Tells (Refused OutOfMemory)) = Unit {0}
Lends (Tells (Refused WantOfMemory)) = Unit {0}
Lends o = ⊥

-- the call comes to such an end
abbrev IsLending : Doing → Type 0
IsLending (Ended o) = Lends o
IsLending (Loaning copies h left) = copies ≡ false
IsLending d = ⊥

loaned_lends : (s : State) (h : m.Handle) → IsLending (loaned s false h)
loaned_lends s h =
    either IsLending (is_dry s.fixed h.port (kept s h.port [])) (refused OutOfMemory) (Ended (Loans h)) (λ u. tt) (λ u. tt)

loaning_lends : (s : State) (h : m.Handle) (left : List Way) → IsLending (loaning s false h left)
loaning_lends s h [] = loaned_lends s h
loaning_lends s h (w ∷ left) = refl

next_lends : (s : State) (node : ℕ) (d : Doing) (m : Moment) → IsLending d → (next s node d m).condition → IsLending (next s node d m).after
next_lends s node (Loaning copies h left) (GetBack w k) p c = p
next_lends s node (Loaning copies h left) (SeesNoneBack w) p c =
    subst (λ b. IsLending (loaning s b h (without_way w left))) (sym p) (loaning_lends s h (without_way w left))
next_lends s node (Asking x) m p c = absurd p
next_lends s node (Emptying x left) m p c = absurd p
next_lends s node (Looking x left full) m p c = absurd p
next_lends s node (Opening x left full) m p c = absurd p
next_lends s node (Delivering x last left count) m p c = absurd p
next_lends s node (Evicted x v left count) m p c = absurd p
next_lends s node (Visiting x left seen) m p c = absurd p
next_lends s node (Again x v left seen) m p c = absurd p
next_lends s node (Judging x v message left seen) m p c = absurd p
next_lends s node (Stale x v message left seen) m p c = absurd p
next_lends s node (Closing h left) m p c = absurd p
next_lends s node (Returning h) m p c = absurd p
next_lends s node (Leaving h) m p c = absurd p
next_lends s node (Checking h hinted left) m p c = absurd p
next_lends s node (Hinting h left) m p c = absurd p
next_lends s node (Seeking left) m p c = absurd p
next_lends s node d m p c = absurd c

by_lends : (s : State) (node : ℕ) (d : Doing) (ms : List Moment) → IsLending d → MayCome s node d ms → IsLending (left_by s node d ms)
by_lends s node d [] p may = p
by_lends s node d (m ∷ ms) p may = by_lends (moved s m) node (next s node d m).after ms (next_lends s node d m p may.1) may.2

end_lends : (s : State) (d : Doing) (o : Outcome) → IsLending d → ends s d ≡ Some o → Lends o
end_lends s (Ended e) o p ended = subst Lends (some-is e o ended) p
end_lends s (Loaning copies h left) o p ended = none-some o ended
end_lends s d o p ended = absurd p

-- ---- its begin

memory_lends : (b : Bool) (d : Doing) → IsLending d → IsLending (unless_refused (refused_if b WantOfMemory) d)
memory_lends true d p = tt
memory_lends false d p = p

within_lends : (q : Option Refusal) (d : Doing) → q ≡ None → IsLending d → IsLending (unless_refused q d)
within_lends q d none p = subst (λ r. IsLending (unless_refused r d)) (sym none) p

response_lends : (s : State) (c : Choice) (h : m.Handle) (k : ℕ) (p : Option m.Port)
    → option_map_or (λ q. response_loan_refusal s.fixed h q k) p (Some UnknownNumber) ≡ None
    → IsLending (option_map_or (λ q. lends_response s c h q (ordered k false)) p (refused UnknownNumber))
response_lends s c h k None none = none-some UnknownNumber (sym none)
response_lends s c h k (Some p) none =
    let loan : m.Handle = loan_of s.fixed p (ordered k false) h.client h.lane h.request in
    within_lends (response_loan_refusal s.fixed h p k) (unless_refused (memory_refusal s c p.number) (lending s false loan)) none
    (memory_lends (not c.memory && not (is_dry s.fixed p.number (kept_after s p.number))) (lending s false loan)
    (loaning_lends s loan (lending_ways s.fixed loan)))

lends_by_lends : (s : State) (c : Choice) (x : Subject) (k : ℕ) → limits_refusal s.fixed x k ≡ None → IsLending (lends_by s c x (ordered k false))
lends_by_lends s c (ThePort p) k none =
    let loan : m.Handle = loan_of s.fixed p (ordered k false) p.number c.lane (next_request s.fixed p.number) in
    within_lends (request_loan_refusal s.fixed p k) (unless_refused (memory_refusal s c p.number) (lending s false loan)) none
    (memory_lends (not c.memory && not (is_dry s.fixed p.number (kept_after s p.number))) (lending s false loan)
    (loaning_lends s loan (lending_ways s.fixed loan)))
lends_by_lends s c (TheHandle h) k none = response_lends s c h k (port_at s.fixed h.port) none

start_lends : (s : State) (node n k : ℕ) (c : Choice) → MayLoan s node n k → IsLending (start s node c (Loan n k))
start_lends s node n k c may =
    subst (λ q. IsLending (option_map_or (begins_at s c (Loan n k)) q (refused UnknownNumber))) (sym may.named)
    (subst (λ b. IsLending (if b then lends_by s c may.lender (ordered k false) else refused WrongLength)) (sym may.count)
    (lends_by_lends s c may.lender k may.limits))

-- ---- its reply

told : (f : Fixed) (node : ℕ) (o : Outcome) (reply : Reply) → Lends o → reply ≡ replied f node o → (reply ≡ Refused OutOfMemory → ⊥)
    → (reply ≡ Handle (new_number f node)) ⊎ (reply ≡ Refused WantOfMemory)
told f node (Loans h) reply p is never = inl is
told f node (Tells (Refused OutOfMemory)) reply p is never = absurd (never is)
told f node (Tells (Refused WantOfMemory)) reply p is never = inr is
told f node o reply p is never = absurd p

done_lends : (s : State) (node n k : ℕ) (reply : Reply) (t : State) → MayLoan s node n k → (reply ≡ Refused OutOfMemory → ⊥)
    → IsDone s node (Loan n k) reply t → (reply ≡ Handle (new_number s.fixed node)) ⊎ (reply ≡ Refused WantOfMemory)
done_lends s node n k reply t may never done =
    let begun : Doing = start s node done.0 (Loan n k) in
    told s.fixed node done.4 reply
    (end_lends (moved_by s done.2) (left_by s node begun done.2) done.4
    (by_lends s node begun done.2 (start_lends s node n k done.0 may) done.3) done.5)
    done.8 never

pub loans_succeed : {s : State} → PoolsSuffice s → LoansSucceed s
loans_succeed {s} suffice = record {
  made = λ t node n k reply may unreduced done.
      done_lends s node n k reply t may
      (λ is. suffice.never t (ports.Loan node n k) unreduced (subst (λ r. IsCommand s (Port (ports.Loan node n k)) r t) is done))
      (subst (λ q. UnlessRefused q s reply t (IsDone s node (Loan n k) reply t)) may.calls
      (subst (λ q. UnlessRefused q s reply t (UnlessRefused (spent s.fixed (Loan n k)) s reply t (IsDone s node (Loan n k) reply t))) may.suits
      (subst (λ q. UnlessRefused q s reply t (IsWholeCall s node (Loan n k) reply t)) may.lives done)));
}
