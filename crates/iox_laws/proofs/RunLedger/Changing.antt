-- What each end of a call of a hub changes, of handles and loans.
use Rattle.std.specs.Prelude.{◌≡◌, ℕ, ◌+◌, ◌-◌, ◌≤◌, Bool, true, false, ◌&&◌, if◌then◌else◌, ◌==◌, nat_le, List, [], ◌∷◌, ◌++◌, map, refl}
use Rattle.std.proofs.Common.{sym, subst, ap, ap₂, ◌∙◌, eqb-true, arith}
use Rattle.iox_model.specs.declared.kind.Role.TheVariants.{Client}
use Rattle.iox_model.specs.declared.kind.Kind.{Kind}
use Rattle.iox_model.specs.declared.kind.Kind.TheVariants.{ActiveRequest, Response}
use Rattle.iox_model.specs.declared.way.Way.{Way}
use Rattle.iox_model.specs.Commands.{Reply, Refusal}
use Rattle.iox_model.specs.Counts.{without_handle, with_handle, added, changed, dropped, numbered, lent, called, borrows, gives_up, received_handle, sent_handle, holding}
use Rattle.iox_model.specs.Doings.{Receiver, Outcome, Tells, Loans, Fills, Sends, FailsToSend, Receives, Drops, DropsPort}
use Rattle.iox_model.specs.Ends.{sent_copy, port_dropped}
use Rattle.iox_model.specs.Handles.{is_request_loan, is_received, way_of}
use Rattle.iox_model.specs.Maps.{put, put_at}
use Rattle.iox_model.specs.Messages.{Message}
use Rattle.iox_model.specs.Settings.{is_client}
use Rattle.iox_model.specs.States.{Handle, Fixed}
use Rattle.iox_laws.proofs.WeaveLaws.CallLaws.{put_at-else}
use Rattle.iox_laws.proofs.WeaveLaws.MapLemmas.{either}
use Rattle.iox_laws.proofs.WeaveLaws.WholeLemmas.{put_at-here}
use Rattle.iox_laws.proofs.WeaveLedger.ReceivedHandles.{no_received}
use Rattle.iox_laws.proofs.WeaveLedger.Truths.{by_cases}
use Rattle.iox_laws.proofs.WeaveLedger.Counts.{count, one_if}
use Rattle.iox_laws.proofs.WeaveLedger.Orders.{le-refl, le-next, same}
use Rattle.iox_laws.proofs.WeaveLedger.Settling.{on_node}
use Rattle.iox_laws.proofs.WeaveLedger.Borrows.{loan-own}
use Rattle.iox_laws.proofs.WeaveLedger.HadEnds.{plus-held, less-held, swapped-held}
use Rattle.iox_laws.proofs.WeaveLedger.HadMoves.{HasOwnHandles}
use Rattle.iox_laws.proofs.WeaveLedger.Lists.{IsAmong}
use Rattle.iox_laws.proofs.WeaveLedger.Outs.{is}
use Rattle.iox_laws.proofs.WeaveLedger.Quiet.{is_quiet_outcome}
use Rattle.iox_laws.proofs.WeaveLedger.Rights.{IsSent}
use Rattle.iox_laws.proofs.WeaveLedger.Senders.{is_loan, FitsLoan, IsFilled}
use Rattle.iox_laws.proofs.WeaveLedger.Views.{view, mine, put_at-at}
use Rattle.iox_laws.proofs.RunLaws.Ports.{any_dropped, first_dropped}
use Rattle.iox_laws.proofs.RunLaws.Rests.{Rests, numbered-hub}
use Rattle.iox_laws.proofs.RunLedger.Beginnings.{IsHub}
use Rattle.iox_laws.proofs.RunLedger.Endings.{held-same, taken-held, dropped-held, no-right, lent-rights}
use Rattle.iox_laws.proofs.RunLedger.Outcomes.{same-ports, Changes, lent-to_come, fewer, plus-fewer, without-fewer, copied-gone, handed-gone}
use Rattle.iox_laws.proofs.RunLedger.Rights.{loaned_in, rights, right_of, AreFew, less-rights, with-rights}

-- what is known of what is fixed as a call ends
pub record Known (f : Fixed) (n : ℕ) : Type 0 where
  pub hub : IsHub f
  pub rests : Rests f
  pub few : AreFew f

own : (f : Fixed) (n : ℕ) → Known f n → HasOwnHandles (f.handles n)
own f n q = ((q.rests).handles n).apart

-- ---- nothing changes

pub same-changes : (f : Fixed) (n : ℕ) (reply : Reply) → Changes f n (Tells reply) f
same-changes f n reply = record {
  hub = refl;
  forgot = refl;
  made = refl;
  ports = same-ports f f refl refl;
  next = le-refl f.next_number;
  handles = f.handles n;
  here = refl;
  others = λ j e. refl;
  held = λ y. held-same y (f.handles n) (f.handles n) (Tells reply) refl refl;
  rights_less = λ port k. same (rights f n port k);
  to_come = λ port k. same (one_if (nat_le (f.loans port) k));
  sent = λ m port k e. absurd e;
}

-- ---- loans

pub loaned-changes : (f : Fixed) (n : ℕ) (h : Handle) (payload : List ℕ) → Known f n → FitsLoan (view f n) n h true
    → Changes f n (Loans h) (called (lent (added (numbered f n) (holding h payload)) h.port))
loaned-changes f n h payload q p =
    let k : Handle = holding h payload in
    subst (λ (g : Fixed). Changes f n (Loans h) (called (lent (added g k) h.port))) (sym (numbered-hub f n (q.hub).hub)) (record {
      hub = refl;
      forgot = refl;
      made = refl;
      ports = same-ports f (called (lent (added (record f { next_number = f.next_number + 1 }) k) h.port)) refl refl;
      next = le-next f.next_number;
      handles = f.handles n ++ k ∷ [];
      here = put_at-at f.handles h.node n (λ hs. hs ++ k ∷ []) p.of_node;
      others = λ j e. put_at-else f.handles h.node (f.handles h.node ++ k ∷ []) j (on_node h n j p.of_node e);
      held = λ y. held-same y (f.handles n) (f.handles n ++ k ∷ []) (Loans h) refl (plus-held y (f.handles n) k (no_received y k (loan-own h.kind p.loan)));
      rights_less = λ port j. lent-rights (f.handles n) f.loans k port j
          ((p.stands).0 ∙ ap (λ (b : Bool). if b then f.loans h.port else 0) (mine f.ports h.port n p.of_port));
      to_come = λ port j. lent-to_come f.loans h.port port j;
      sent = λ m port j e. absurd e;
    })

pub filled-changes : (f : Fixed) (n : ℕ) (h : Handle) → Known f n → IsFilled (view f n) n h → Changes f n (Fills h) (changed f h)
filled-changes f n h q p = record {
  hub = refl;
  forgot = refl;
  made = refl;
  ports = same-ports f (changed f h) refl refl;
  next = le-refl f.next_number;
  handles = with_handle h (f.handles n);
  here = put_at-at f.handles h.node n (with_handle h) p.of_node;
  others = λ j e. put_at-else f.handles h.node (with_handle h (f.handles h.node)) j (on_node h n j p.of_node e);
  held = λ y. held-same y (f.handles n) (with_handle h (f.handles n)) (Fills h) refl
      (swapped-held y (f.handles n) h p.old (own f n q) p.among p.number (no_received y h (loan-own h.kind p.is_loan_still))
      (no_received y p.old (loan-own (p.old).kind p.was_loan)));
  rights_less = λ port k. fewer (f.handles n) (with_handle h (f.handles n)) (f.loans port) (f.loans port) port k
      (as_many (count (is k) (loaned_in (with_handle h (f.handles n)) port)) (right_of port k p.old) (count (is k) (loaned_in (f.handles n) port))
      (right_of port k h)
      (with-rights port k h p.old (f.handles n) (own f n q) p.among p.number) (alike port k)) (same (one_if (nat_le (f.loans port) k)));
  to_come = λ port k. same (one_if (nat_le (f.loans port) k));
  sent = λ m port k e. absurd e;
}
  where
    as_many : (a b c d : ℕ) → a + b ≡ c + d → d ≡ b → a ≤ c
    as_many a b c d e g = omega arith

    alike : (port k : ℕ) → right_of port k h ≡ right_of port k p.old
    alike port k =
        ap₂ (λ (b : Bool) (j : ℕ). if b then one_if (k == j) else 0)
        (ap₂ (λ (b : Bool) (j : ℕ). b && (j == port)) (p.is_loan_still ∙ sym p.was_loan) p.port) p.serial

-- ---- sends

pub copied-changes : (f : Fixed) (n : ℕ) (h : Handle) (sent : ℕ) → Known f n → FitsLoan (view f n) n h true
    → Changes f n (Sends h true sent) (called (called (lent (sent_copy f h sent) h.port)))
copied-changes f n h sent q p =
    either (λ (g : Fixed). Changes f n (Sends h true sent) (called (called (lent g h.port)))) (is_request_loan h.kind) (added (numbered f h.node) k) f
    (λ u. subst (λ (g : Fixed). Changes f n (Sends h true sent) (called (called (lent (added g k) h.port)))) (sym (numbered-hub f h.node (q.hub).hub)) (record {
      hub = refl;
      forgot = refl;
      made = refl;
      ports = same-ports f (called (called (lent (added (record f { next_number = f.next_number + 1 }) k) h.port))) refl refl;
      next = le-next f.next_number;
      handles = f.handles n ++ k ∷ [];
      here = put_at-at f.handles h.node n (λ hs. hs ++ k ∷ []) p.of_node;
      others = others;
      held = λ y. held-same y (f.handles n) (f.handles n ++ k ∷ []) (Sends h true sent) refl (plus-held y (f.handles n) k refl);
      rights_less = λ port j. fewer (f.handles n) (f.handles n ++ k ∷ []) (f.loans port) (put_at f.loans h.port (f.loans h.port + 1) port) port j
          (plus-fewer (f.handles n) k port j refl) (lent-to_come f.loans h.port port j);
      to_come = λ port j. lent-to_come f.loans h.port port j;
      sent = λ m port j e. copied-gone f n m h (put_at f.handles h.node (f.handles h.node ++ k ∷ []) m) port j q.few p e (less m port j);
    }))
    (λ u. record {
      hub = refl;
      forgot = refl;
      made = refl;
      ports = same-ports f (called (called (lent f h.port))) refl refl;
      next = le-refl f.next_number;
      handles = f.handles n;
      here = refl;
      others = λ j e. refl;
      held = λ y. held-same y (f.handles n) (f.handles n) (Sends h true sent) refl refl;
      rights_less = λ port j. fewer (f.handles n) (f.handles n) (f.loans port) (put_at f.loans h.port (f.loans h.port + 1) port) port j
          (same (count (is j) (loaned_in (f.handles n) port))) (lent-to_come f.loans h.port port j);
      to_come = λ port j. lent-to_come f.loans h.port port j;
      sent = λ m port j e. copied-gone f n m h (f.handles m) port j q.few p e (same (count (is j) (loaned_in (f.handles m) port)));
    })
  where
    k : Handle
    k = sent_handle h sent

    others : (j : ℕ) → (j == n) ≡ false → put_at f.handles h.node (f.handles h.node ++ k ∷ []) j ≡ f.handles j
    others j e = put_at-else f.handles h.node (f.handles h.node ++ k ∷ []) j (on_node h n j p.of_node e)

    less : (m port j : ℕ) → count (is j) (loaned_in (put_at f.handles h.node (f.handles h.node ++ k ∷ []) m) port)
        ≤ count (is j) (loaned_in (f.handles m) port)
    less m port j = by_cases (m == n)
        (λ here. subst (λ i. count (is j) (loaned_in (put_at f.handles h.node (f.handles h.node ++ k ∷ []) i) port)
        ≤ count (is j) (loaned_in (f.handles i) port)) (sym (eqb-true m n here))
        (subst (λ (hs : List Handle). count (is j) (loaned_in hs port) ≤ count (is j) (loaned_in (f.handles n) port))
        (sym (put_at-at f.handles h.node n (λ hs. hs ++ k ∷ []) p.of_node)) (plus-fewer (f.handles n) k port j refl)))
        (λ other. subst (λ (hs : List Handle). count (is j) (loaned_in hs port) ≤ count (is j) (loaned_in (f.handles m) port))
        (sym (others m other)) (same (count (is j) (loaned_in (f.handles m) port))))

-- a request's loan is a pending response then
pub requested-changes : (f : Fixed) (n : ℕ) (h : Handle) (sent : ℕ) → Known f n → FitsLoan (view f n) n h false
    → Changes f n (Sends h false sent) (called (changed f (sent_handle h sent)))
requested-changes f n h sent q p = record {
  hub = refl;
  forgot = refl;
  made = refl;
  ports = same-ports f (called (changed f k)) refl refl;
  next = le-refl f.next_number;
  handles = with_handle k (f.handles n);
  here = here;
  others = others;
  held = λ y. held-same y (f.handles n) (with_handle k (f.handles n)) (Sends h false sent) refl
      (swapped-held y (f.handles n) k h (own f n q) p.stands refl refl (no_received y h (loan-own h.kind p.loan)));
  rights_less = λ port j. fewer (f.handles n) (with_handle k (f.handles n)) (f.loans port) (f.loans port) port j
      (fewer_now (count (is j) (loaned_in (with_handle k (f.handles n)) port)) (right_of port j h) (count (is j) (loaned_in (f.handles n) port)) (less port j))
      (same (one_if (nat_le (f.loans port) j)));
  to_come = λ port j. same (one_if (nat_le (f.loans port) j));
  sent = λ m port j e. handed-gone f n m h (called (changed f k)) port j q.few q.rests p refl others
      (ap (λ (hs : List Handle). count (is j) (loaned_in hs port) + right_of port j h) here ∙ less port j) e;
}
  where
    k : Handle
    k = sent_handle h sent

    here : put_at f.handles h.node (with_handle k (f.handles h.node)) n ≡ with_handle k (f.handles n)
    here = put_at-at f.handles h.node n (with_handle k) p.of_node

    others : (j : ℕ) → (j == n) ≡ false → put_at f.handles h.node (with_handle k (f.handles h.node)) j ≡ f.handles j
    others j e = put_at-else f.handles h.node (with_handle k (f.handles h.node)) j (on_node h n j p.of_node e)

    fewer_now : (a b c : ℕ) → a + b ≡ c → a ≤ c
    fewer_now a b c e = omega arith

    none : (a b c d : ℕ) → a + b ≡ c + d → d ≡ 0 → a + b ≡ c
    none a b c d e g = omega arith

    less : (port j : ℕ) → count (is j) (loaned_in (with_handle k (f.handles n)) port) + right_of port j h ≡ count (is j) (loaned_in (f.handles n) port)
    less port j =
        none (count (is j) (loaned_in (with_handle k (f.handles n)) port)) (right_of port j h) (count (is j) (loaned_in (f.handles n) port)) (right_of port j k)
        (with-rights port j k h (f.handles n) (own f n q) p.stands refl) (no-right port j k refl)

-- a loan that is gone: it was sent, or given up
pub loan_gone-changes : (f : Fixed) (n : ℕ) (h : Handle) (o : Outcome) → is_quiet_outcome o ≡ true
    → ((port k : ℕ) → IsSent o port k → (h.port ≡ port) × (h.message.serial ≡ k))
    → Known f n → FitsLoan (view f n) n h false → Changes f n o (dropped f h)
loan_gone-changes f n h o quiet is_sent q p = record {
  hub = refl;
  forgot = refl;
  made = refl;
  ports = same-ports f (dropped f h) refl refl;
  next = le-refl f.next_number;
  handles = without_handle h (f.handles n);
  here = here;
  others = others;
  held = λ y. held-same y (f.handles n) (without_handle h (f.handles n)) o quiet
      (less-held y (f.handles n) h (own f n q) p.stands (no_received y h (loan-own h.kind p.loan)));
  rights_less = λ port j. fewer (f.handles n) (without_handle h (f.handles n)) (f.loans port) (f.loans port) port j
      (without-fewer (f.handles n) h port j (own f n q) p.stands) (same (one_if (nat_le (f.loans port) j)));
  to_come = λ port j. same (one_if (nat_le (f.loans port) j));
  sent = λ m port j e. handed-gone f n m h (dropped f h) port j q.few q.rests p refl others
      (ap (λ (hs : List Handle). count (is j) (loaned_in hs port) + right_of port j h) here
      ∙ sym (less-rights port j h (f.handles n) (own f n q) p.stands)) (is_sent port j e);
}
  where
    here : put_at f.handles h.node (without_handle h (f.handles h.node)) n ≡ without_handle h (f.handles n)
    here = put_at-at f.handles h.node n (without_handle h) p.of_node

    others : (j : ℕ) → (j == n) ≡ false → put_at f.handles h.node (without_handle h (f.handles h.node)) j ≡ f.handles j
    others j e = put_at-else f.handles h.node (without_handle h (f.handles h.node)) j (on_node h n j p.of_node e)

-- a loan that its call made is given up
pub failed-changes : (f : Fixed) (n : ℕ) (h : Handle) (r : Refusal) → Changes f n (FailsToSend h true r) (called (lent f h.port))
failed-changes f n h r = record {
  hub = refl;
  forgot = refl;
  made = refl;
  ports = same-ports f (called (lent f h.port)) refl refl;
  next = le-refl f.next_number;
  handles = f.handles n;
  here = refl;
  others = λ j e. refl;
  held = λ y. held-same y (f.handles n) (f.handles n) (FailsToSend h true r) refl refl;
  rights_less = λ port j. fewer (f.handles n) (f.handles n) (f.loans port) (put_at f.loans h.port (f.loans h.port + 1) port) port j
      (same (count (is j) (loaned_in (f.handles n) port))) (lent-to_come f.loans h.port port j);
  to_come = λ port j. lent-to_come f.loans h.port port j;
  sent = λ m port j e. absurd e;
}

-- ---- receives and releases

pub received-changes : (f : Fixed) (n : ℕ) (x : Receiver) (w : Way) (m : Message) → Known f n → way_of (received_handle f n x m) ≡ w
    → Changes f n (Receives x w m) (called (borrows (added (numbered f n) (received_handle f n x m)) w))
received-changes f n x w m q way =
    subst (λ (g : Fixed). Changes f n (Receives x w m) (called (borrows (added g h) w))) (sym (numbered-hub f n (q.hub).hub)) (record {
      hub = refl;
      forgot = refl;
      made = refl;
      ports = same-ports f (called (borrows (added (record f { next_number = f.next_number + 1 }) h) w)) refl refl;
      next = le-next f.next_number;
      handles = f.handles n ++ h ∷ [];
      here = put_at-here f.handles n (f.handles n ++ h ∷ []);
      others = λ j e. put_at-else f.handles n (f.handles n ++ h ∷ []) j e;
      held = λ y. taken-held y w (f.handles n) h x m
          (either (λ (k : Kind). is_received k ≡ true) (is_client x.role) Response ActiveRequest (λ u. refl) (λ u. refl)) way refl;
      rights_less = λ port j. fewer (f.handles n) (f.handles n ++ h ∷ []) (f.loans port) (f.loans port) port j
          (plus-fewer (f.handles n) h port j (either (λ (k : Kind). is_loan k ≡ false) (is_client x.role) Response ActiveRequest (λ u. refl) (λ u. refl)))
          (same (one_if (nat_le (f.loans port) j)));
      to_come = λ port j. same (one_if (nat_le (f.loans port) j));
      sent = λ i port j e. absurd e;
    })
  where
    h : Handle
    h = received_handle f n x m

pub released-changes : (f : Fixed) (n : ℕ) (h : Handle) → Known f n → IsAmong h (f.handles n) → Changes f n (Drops h) (gives_up (dropped f h) h)
released-changes f n h q among =
    either (Changes f n (Drops h)) (is_received h.kind) (record (dropped f h) { borrowed = put f.borrowed (way_of h) (f.borrowed (way_of h) - 1) })
    (dropped f h)
    (λ u. gone (put f.borrowed (way_of h) (f.borrowed (way_of h) - 1))) (λ u. gone f.borrowed)
  where
    of_node : h.node ≡ n
    of_node = (((q.rests).handles n).each h among).of_node

    gone : (borrowed : Way → ℕ) → Changes f n (Drops h) (record (dropped f h) { borrowed = borrowed })
    gone borrowed = record {
      hub = refl;
      forgot = refl;
      made = refl;
      ports = same-ports f (record (dropped f h) { borrowed = borrowed }) refl refl;
      next = le-refl f.next_number;
      handles = without_handle h (f.handles n);
      here = put_at-at f.handles h.node n (without_handle h) of_node;
      others = λ j e. put_at-else f.handles h.node (without_handle h (f.handles h.node)) j (on_node h n j of_node e);
      held = λ y. dropped-held y (f.handles n) h;
      rights_less = λ port j. fewer (f.handles n) (without_handle h (f.handles n)) (f.loans port) (f.loans port) port j
          (without-fewer (f.handles n) h port j (own f n q) among) (same (one_if (nat_le (f.loans port) j)));
      to_come = λ port j. same (one_if (nat_le (f.loans port) j));
      sent = λ m port j e. absurd e;
    }

pub value-changes : (f : Fixed) (n port : ℕ) → Changes f n (DropsPort port) (record f { ports = map (port_dropped port) f.ports })
value-changes f n port = record {
  hub = refl;
  forgot = refl;
  made = refl;
  ports = record {
    any = λ k. any_dropped port k f.ports;
    node = λ k. first_dropped (λ p. p.node) 0 port k f.ports (λ p. refl);
    role = λ k. first_dropped (λ p. p.role) Client port k f.ports (λ p. refl);
    limits = refl;
  };
  next = le-refl f.next_number;
  handles = f.handles n;
  here = refl;
  others = λ j e. refl;
  held = λ y. held-same y (f.handles n) (f.handles n) (DropsPort port) refl refl;
  rights_less = λ q k. same (rights f n q k);
  to_come = λ q k. same (one_if (nat_le (f.loans q) k));
  sent = λ m q k e. absurd e;
}
