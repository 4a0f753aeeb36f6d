-- The end of each call of a hub leaves what holds of the record between calls.
use Rattle.std.specs.Prelude.{◌≡◌, ℕ, ◌-◌, true, false, ◌==◌, List, map, Some, None, refl}
use Rattle.std.proofs.Common.{sym, subst, ◌∙◌, eqb-true}
use Rattle.iox_model.specs.Counts.{changed, dropped, called, with_fixed, sent_handle}
use Rattle.iox_model.specs.Doings.{Outcome, Tells, Loans, Fills, Sends, FailsToSend, Receives, Drops, DropsPort, Forgets, Doing}
use Rattle.iox_model.specs.Ends.{is_nothing, port_dropped, settled}
use Rattle.iox_model.specs.Expiries.{released}
use Rattle.iox_model.specs.Handles.{is_request_loan, is_received, way_of}
use Rattle.iox_model.specs.Maps.{put}
use Rattle.iox_model.specs.States.{Handle, Fixed, State}
use Rattle.iox_model.specs.Transitions.{ends}
use Rattle.iox_laws.proofs.WeaveLaws.MapLemmas.{either}
use Rattle.iox_laws.proofs.WeaveLedger.Truths.{by_cases}
use Rattle.iox_laws.proofs.WeaveLedger.Lists.{IsAmong}
use Rattle.iox_laws.proofs.WeaveLedger.Quiet.{is_quiet_outcome}
use Rattle.iox_laws.proofs.WeaveLedger.Rights.{IsSent}
use Rattle.iox_laws.proofs.WeaveLedger.Senders.{FitsLoan}
use Rattle.iox_laws.proofs.WeaveLedger.Views.{view}
use Rattle.iox_laws.proofs.WeaveWorlds.Reached.{ended_within, ended_fits}
use Rattle.iox_laws.proofs.WeaveWorlds.Sound.{FitsOutcome, IsWithin}
use Rattle.iox_laws.proofs.RunLaws.Calls.{Goes}
use Rattle.iox_laws.proofs.RunLaws.Gone.{value_rests}
use Rattle.iox_laws.proofs.RunLaws.Having.{taken_way}
use Rattle.iox_laws.proofs.RunLaws.Holding.{HoldsEnd, ended_holds}
use Rattle.iox_laws.proofs.RunLaws.Ports.{any_at, any_dropped}
use Rattle.iox_laws.proofs.RunLaws.Rests.{Rests, Rested, drops, gives}
use Rattle.iox_laws.proofs.RunLedger.Balance.{Underway}
use Rattle.iox_laws.proofs.RunLedger.Books.{Books, Leaves, left-books}
use Rattle.iox_laws.proofs.RunLedger.Leaving.{AreAway, are-away, released-books}
use Rattle.iox_laws.proofs.RunLedger.Outcomes.{Changes, change-leaves}
use Rattle.iox_laws.proofs.RunLedger.Underway.{StandsEnd, ends-stands}
use Rattle.iox_laws.proofs.RunLedger.Changing.{Known, same-changes, loaned-changes, filled-changes, copied-changes, requested-changes, loan_gone-changes, failed-changes, received-changes, released-changes, value-changes}

at_end : (s : State) (n : ℕ) (d : Doing) (o : Outcome) → Goes s n d → ends s d ≡ Some o → Rested s
at_end s n d o g ended = record {
  fixed = g.fixed;
  within = λ j. by_cases (j == n) (λ is. subst (λ k. IsWithin s k None) (sym (eqb-true j n is)) (ended_within s n d o ended (g.call).0)) (g.others j);
  unused = g.unused;
}

-- What holds of each state that the end of a call may leave: its changes are made, a port may go,
-- and one more call was not refused.
pub record HoldsAfter (P : State → Type 0) (s : State) (n : ℕ) (o : Outcome) : Type 0 where
  pub stays : (g : Fixed) → Leaves s.fixed n o g → P (with_fixed s g)
  pub goes : (g : Fixed) (port : ℕ) → Leaves s.fixed n o g → Rests g → AreAway g → any_at port g.ports ≡ true
      → P (released (with_fixed s g) port)
  pub counts : (t : State) → P t → P (with_fixed t (called t.fixed))

pub settled-holds : (P : State → Type 0) (s : State) (n : ℕ) (d : Doing) (payload : List ℕ) (o : Outcome) → Underway s n d → ends s d ≡ Some o
    → HoldsAfter P s n o
    → P (settled s n payload o)
settled-holds P s n d payload o u ended =
    by_outcome o ended (ends-stands s n d o u.stands ended) (ended_fits s n d o ended ((u.goes).call).1) (ended_holds s d o ended (u.goes).holds)
  where
    f : Fixed
    f = s.fixed

    known : Known f n
    known = record { hub = u.hub; rests = (u.goes).fixed; few = u.few }

    made : (o : Outcome) (g : Fixed) → HoldsAfter P s n o → Changes f n o g → P (with_fixed s g)
    made o g a p = a.stays g (change-leaves f n o g u.hub p)

    away : AreAway f
    away = are-away s (u.goes).owned

    there : (h : Handle) → IsAmong h (f.handles n) → any_at h.port f.ports ≡ true
    there h among = (((((u.goes).fixed).handles n).each h among).of_port).0

    gone : (h : Handle) (o : Outcome) → HoldsAfter P s n o → is_quiet_outcome o ≡ true
        → ((port k : ℕ) → IsSent o port k → (h.port ≡ port) × (h.message.serial ≡ k))
        → FitsLoan (view f n) n h false → P (released (with_fixed s (dropped f h)) h.port)
    gone h o a quiet is_sent p =
        a.goes (dropped f h) h.port (change-leaves f n o (dropped f h) u.hub (loan_gone-changes f n h o quiet is_sent known p))
        (drops f h (u.goes).fixed) away (there h p.stands)

    by_outcome : (o : Outcome) → ends s d ≡ Some o → StandsEnd (view f n) n o → FitsOutcome f n o → HoldsEnd f o → HoldsAfter P s n o
        → P (settled s n payload o)
    by_outcome (Tells reply) e p fits holds a =
        either P (is_nothing reply) (with_fixed s (called s.fixed)) s (λ v. a.counts s (made (Tells reply) f a (same-changes f n reply)))
        (λ v. made (Tells reply) f a (same-changes f n reply))
    by_outcome (Loans h) e p fits holds a = made (Loans h) _ a (loaned-changes f n h payload known p)
    by_outcome (Fills h) e p fits holds a = made (Fills h) _ a (filled-changes f n h known p)
    by_outcome (Sends h true count) e p fits holds a = made (Sends h true count) _ a (copied-changes f n h count known p)
    by_outcome (Sends h false count) e p fits holds a =
        either (λ (t : State). P (with_fixed t (called t.fixed))) (is_request_loan h.kind) (with_fixed s (changed f (sent_handle h count)))
        (released (with_fixed s (dropped f h)) h.port)
        (λ v. made (Sends h false count) (called (changed f (sent_handle h count))) a (requested-changes f n h count known p))
        (λ v. a.counts (released (with_fixed s (dropped f h)) h.port) (gone h (Sends h false count) a refl (λ port k q. q) p))
    by_outcome (FailsToSend h true r) e p fits holds a = made (FailsToSend h true r) _ a (failed-changes f n h r)
    by_outcome (FailsToSend h false r) e p fits holds a = gone h (FailsToSend h false r) a refl (λ port k q. absurd q) p
    by_outcome (Receives x w m) e p fits holds a =
        made (Receives x w m) _ a (received-changes f n x w m known
        (taken_way f n x w m (fits.1).0 (fits.1).1 (holds.1).0 (holds.1).1 (holds.0).1))
    by_outcome (Drops h) e p fits holds a =
        either (λ (g : Fixed). Changes f n (Drops h) g → Rests g → P (released (with_fixed s g) h.port)) (is_received h.kind)
        (record (dropped f h) { borrowed = put f.borrowed (way_of h) (f.borrowed (way_of h) - 1) }) (dropped f h)
        (λ v c r. a.goes _ h.port (change-leaves f n (Drops h) _ u.hub c) r away (there h p))
        (λ v c r. a.goes _ h.port (change-leaves f n (Drops h) _ u.hub c) r away (there h p))
        (released-changes f n h known p) (gives (dropped f h) h (drops f h (u.goes).fixed))
    by_outcome (DropsPort port) e p fits holds a =
        let g : Fixed = record f { ports = map (port_dropped port) f.ports } in
        a.goes g port (change-leaves f n (DropsPort port) g u.hub (value-changes f n port))
        ((value_rests s port (at_end s n d (DropsPort port) u.goes e)).fixed)
        (λ r k gone_e. any_dropped port k f.ports ∙ away r k gone_e) (any_dropped port port f.ports ∙ (fits.1).0)
    by_outcome (Forgets dead) e p fits holds a = absurd p

-- ---- the record

-- more was not refused
called-books : (s : State) → Books s → Books (with_fixed s (called s.fixed))
called-books s b = record {
  hub = record { hub = (b.hub).hub; forgot = (b.hub).forgot; made = (b.hub).made };
  fresh = b.fresh;
  hand = b.hand;
  idle = b.idle;
  counts = b.counts;
  within = b.within;
}

pub settled-books : (s : State) (n : ℕ) (d : Doing) (payload : List ℕ) (o : Outcome) → Underway s n d → ends s d ≡ Some o → Books (settled s n payload o)
settled-books s n d payload o u ended = settled-holds Books s n d payload o u ended (record {
  stays = λ g p. left-books s n d o g u ended p;
  goes = λ g port p r away there. released-books (with_fixed s g) port r away (left-books s n d o g u ended p);
  counts = called-books;
})
