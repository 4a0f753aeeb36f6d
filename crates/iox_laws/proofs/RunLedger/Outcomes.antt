-- The end of a call of a hub leaves what holds of the record between calls.
use Rattle.std.specs.Prelude.{◌≡◌, ℕ, ◌+◌, ◌≤◌, Bool, true, false, if◌then◌else◌, ◌==◌, nat_le, List, [], ◌∷◌, ◌++◌, Some, None, refl}
use Rattle.std.proofs.Common.{sym, subst, ap, ap₂, ◌∙◌, true≢false, eqb-true, eq-eqb, arith}
use Rattle.iox_model.specs.declared.way.Way.{Way}
use Rattle.iox_model.specs.Counts.{without_handle}
use Rattle.iox_model.specs.Doings.{Outcome, Ended}
use Rattle.iox_laws.specs.WeaveLaws.Ledgers.{held_on}
use Rattle.iox_model.specs.Maps.{put_at}
use Rattle.iox_model.specs.Peers.{role_at}
use Rattle.iox_model.specs.States.{Port, Handle, Fixed}
use Rattle.iox_laws.proofs.WeaveLaws.MapLemmas.{either}
use Rattle.iox_laws.proofs.WeaveLaws.WholeLemmas.{put_at-here}
use Rattle.iox_laws.proofs.WeaveLedger.Counts.{count, one_if}
use Rattle.iox_laws.proofs.WeaveLedger.Orders.{same}
use Rattle.iox_laws.proofs.WeaveLedger.Truths.{never, by_cases}
use Rattle.iox_laws.proofs.WeaveLedger.HadMoves.{HasOwnHandles}
use Rattle.iox_laws.proofs.WeaveLedger.Lists.{IsAmong}
use Rattle.iox_laws.proofs.WeaveLedger.Outs.{is}
use Rattle.iox_laws.proofs.WeaveLedger.Rights.{IsSent}
use Rattle.iox_laws.proofs.WeaveLedger.Senders.{is_loan, FitsLoan}
use Rattle.iox_laws.proofs.WeaveLedger.Views.{view, node_in, mine}
use Rattle.iox_laws.proofs.RunLaws.Ports.{any_at}
use Rattle.iox_laws.proofs.RunLaws.Rests.{Rests}
use Rattle.iox_laws.proofs.RunLedger.Beginnings.{IsHub}
use Rattle.iox_laws.proofs.RunLedger.Books.{SamePorts, Leaves}
use Rattle.iox_laws.proofs.RunLedger.Endings.{rights_in, no-right, less-to-come}
use Rattle.iox_laws.proofs.RunLedger.Leaving.{none-loaned}
use Rattle.iox_laws.proofs.RunLedger.Rights.{loaned_in, rights, right_of, AreFew, plus-rights, less-rights, own-right}

-- ---- what the end of a call changes

pub same-ports : (f g : Fixed) → g.ports ≡ f.ports → g.limits ≡ f.limits → SamePorts f g
same-ports f g ports limits = record {
  any = λ k. ap (any_at k) ports;
  node = λ k. ap (λ ps. node_in ps k) ports;
  role = λ k. ap (λ (ps : List Port). role_at (record f { ports = ps }) k) ports;
  limits = limits;
}

-- the handles of its node, and how many loans were made
pub record Changes (f : Fixed) (n : ℕ) (o : Outcome) (g : Fixed) : Type 0 where
  pub hub : g.on_wire ≡ f.on_wire
  pub forgot : g.forgot ≡ f.forgot
  pub made : g.handles_made ≡ f.handles_made
  pub ports : SamePorts f g
  pub next : nat_le f.next_number g.next_number ≡ true
  pub handles : List Handle
  pub here : g.handles n ≡ handles
  pub others : (j : ℕ) → (j == n) ≡ false → g.handles j ≡ f.handles j
  pub held : (y : Way) → held_on y handles None ≡ held_on y (f.handles n) (Some (Ended o))
  pub rights_less : (port k : ℕ) → rights_in handles (g.loans port) port k ≤ rights f n port k
  pub to_come : (port k : ℕ) → one_if (nat_le (g.loans port) k) ≤ one_if (nat_le (f.loans port) k)
  pub sent : (m port k : ℕ) → IsSent o port k → rights g m port k ≡ 0

pub change-leaves : (f : Fixed) (n : ℕ) (o : Outcome) (g : Fixed) → IsHub f → Changes f n o g → Leaves f n o g
change-leaves f n o g hub p = record {
  hub = record {
    hub = p.hub ∙ hub.hub;
    forgot = λ m. ap (λ (h : ℕ → List ℕ). h m) p.forgot ∙ hub.forgot m;
    made = λ m. ap (λ (h : ℕ → ℕ). h m) p.made ∙ hub.made m;
  };
  ports = p.ports;
  next = p.next;
  here = λ y. ap (λ hs. held_on y hs None) p.here ∙ p.held y;
  others = p.others;
  rights_less = λ m port k. by_cases (m == n)
      (λ is. subst (λ j. rights g j port k ≤ rights f j port k) (sym (eqb-true m n is))
      (subst (λ (hs : List Handle). rights_in hs (g.loans port) port k ≤ rights f n port k) (sym p.here) (p.rights_less port k)))
      (λ other. subst (λ (hs : List Handle). rights_in hs (g.loans port) port k ≤ rights f m port k) (sym (p.others m other))
      (less (count (is k) (loaned_in (f.handles m) port)) (one_if (nat_le (g.loans port) k)) (one_if (nat_le (f.loans port) k)) (p.to_come port k)));
  sent = p.sent;
}
  where
    less : (a b c : ℕ) → b ≤ c → a + b ≤ a + c
    less a b c q = omega arith

-- one loan more was made, if any
pub lent-to_come : (loans : ℕ → ℕ) (p port k : ℕ) → one_if (nat_le (put_at loans p (loans p + 1) port) k) ≤ one_if (nat_le (loans port) k)
lent-to_come loans p port k =
    either (λ l. one_if (nat_le l k) ≤ one_if (nat_le (loans port) k)) (port == p) (loans p + 1) (loans port)
    (λ here. subst (λ q. one_if (nat_le (loans p + 1) k) ≤ one_if (nat_le (loans q) k)) (sym (eqb-true port p here)) (less-to-come (loans p) k))
    (λ u. same (one_if (nat_le (loans port) k)))

-- where handles have no more rights
pub fewer : (hs hs' : List Handle) (a b port k : ℕ) → count (is k) (loaned_in hs' port) ≤ count (is k) (loaned_in hs port)
    → one_if (nat_le b k) ≤ one_if (nat_le a k)
    → rights_in hs' b port k ≤ rights_in hs a port k
fewer hs hs' a b port k p q =
    sums (count (is k) (loaned_in hs' port)) (count (is k) (loaned_in hs port)) (one_if (nat_le b k)) (one_if (nat_le a k)) p q
  where
    sums : (a b c d : ℕ) → a ≤ b → c ≤ d → a + c ≤ b + d
    sums a b c d p q = omega arith

pub plus-fewer : (hs : List Handle) (h : Handle) (port k : ℕ) → is_loan h.kind ≡ false
    → count (is k) (loaned_in (hs ++ h ∷ []) port) ≤ count (is k) (loaned_in hs port)
plus-fewer hs h port k own =
    less (count (is k) (loaned_in (hs ++ h ∷ []) port)) (count (is k) (loaned_in hs port)) (right_of port k h) (plus-rights port k h hs) (no-right port k h own)
  where
    less : (a b c : ℕ) → a ≡ b + c → c ≡ 0 → a ≤ b
    less a b c p q = omega arith

pub without-fewer : (hs : List Handle) (h : Handle) (port k : ℕ) → HasOwnHandles hs → IsAmong h hs
    → count (is k) (loaned_in (without_handle h hs) port) ≤ count (is k) (loaned_in hs port)
without-fewer hs h port k own among =
    less (count (is k) (loaned_in hs port)) (count (is k) (loaned_in (without_handle h hs) port)) (right_of port k h) (less-rights port k h hs own among)
  where
    less : (a b c : ℕ) → a ≡ b + c → b ≤ a
    less a b c p = omega arith

-- ---- what was sent has no right

-- a loan that its call made
pub copied-gone : (f : Fixed) (n m : ℕ) (h : Handle) (hs' : List Handle) (port k : ℕ) → AreFew f → FitsLoan (view f n) n h true
    → (h.port ≡ port) × (h.message.serial ≡ k)
    → count (is k) (loaned_in hs' port) ≤ count (is k) (loaned_in (f.handles m) port)
    → rights_in hs' (put_at f.loans h.port (f.loans h.port + 1) port) port k ≡ 0
copied-gone f n m h hs' port k few p sent less =
    all_none (count (is k) (loaned_in hs' port)) (count (is k) (loaned_in (f.handles m) port)) (f.loans port) k
    (put_at f.loans h.port (f.loans h.port + 1) port) loans now less (few m port k)
  where
    loans : f.loans port ≡ k
    loans =
        ap f.loans (sym sent.0) ∙ sym (ap (λ (b : Bool). if b then f.loans h.port else 0) (mine f.ports h.port n p.of_port)) ∙ sym (p.stands).0 ∙ sent.1

    now : put_at f.loans h.port (f.loans h.port + 1) port ≡ k + 1
    now = ap (put_at f.loans h.port (f.loans h.port + 1)) (sym sent.0) ∙ put_at-here f.loans h.port (f.loans h.port + 1)
        ∙ ap (λ l. l + 1) (ap f.loans sent.0 ∙ loans)

    all_none : (a b l k l' : ℕ) → l ≡ k → l' ≡ k + 1 → a ≤ b → b + one_if (nat_le l k) ≤ 1 → a + one_if (nat_le l' k) ≡ 0
    all_none a b l k l' e e' q r = rw (off l' k e') (none a b (nat_le l k) (on l k e) q r)
      where
        on : (l k : ℕ) → l ≡ k → nat_le l k ≡ true
        on l k e = grind (arith)

        off : (l k : ℕ) → l ≡ k + 1 → nat_le l k ≡ false
        off l k e = grind (arith)

        none : (a b : ℕ) (c : Bool) → c ≡ true → a ≤ b → b + one_if c ≤ 1 → a + 0 ≡ 0
        none a b true e q r = omega arith
        none a b false e q r = absurd (true≢false (sym e))

-- a loan that was a handle, and is none
pub handed-gone : (f : Fixed) (n m : ℕ) (h : Handle) (g : Fixed) (port k : ℕ) → AreFew f → Rests f → FitsLoan (view f n) n h false → g.loans ≡ f.loans
    → ((j : ℕ) → (j == n) ≡ false → g.handles j ≡ f.handles j)
    → count (is k) (loaned_in (g.handles n) port) + right_of port k h ≡ count (is k) (loaned_in (f.handles n) port)
    → (h.port ≡ port) × (h.message.serial ≡ k) → rights g m port k ≡ 0
handed-gone f n m h g port k few r p loans others less sent =
    none (count (is k) (loaned_in (g.handles m) port)) (one_if (nat_le (g.loans port) k)) count-none
    (ap (λ (l : ℕ → ℕ). one_if (nat_le (l port) k)) loans ∙ to_come (nat_le (f.loans port) k) (count (is k) (loaned_in (f.handles n) port)) one (few n port k))
  where
    none : (a b : ℕ) → a ≡ 0 → b ≡ 0 → a + b ≡ 0
    none a b p q = omega arith

    right : right_of port k h ≡ 1
    right = ap₂ (λ q j. right_of q j h) (sym sent.0) (sym sent.1) ∙ own-right h p.loan

    at_least : (a b c : ℕ) → a + b ≡ c → b ≡ 1 → 1 ≤ c
    at_least a b c p q = omega arith

    one : 1 ≤ count (is k) (loaned_in (f.handles n) port)
    one = at_least (count (is k) (loaned_in (g.handles n) port)) (right_of port k h) (count (is k) (loaned_in (f.handles n) port)) less right

    to_come : (b : Bool) (a : ℕ) → 1 ≤ a → a + one_if b ≤ 1 → one_if b ≡ 0
    to_come true a p q = absurd (omega arith)
    to_come false a p q = refl

    no_more : (a b c d : ℕ) → a + b ≡ c → b ≡ 1 → c + d ≤ 1 → a ≡ 0
    no_more a b c d p q t = omega arith

    count-none : count (is k) (loaned_in (g.handles m) port) ≡ 0
    count-none = by_cases (m == n)
        (λ here. ap (λ j. count (is k) (loaned_in (g.handles j) port)) (eqb-true m n here)
        ∙ no_more (count (is k) (loaned_in (g.handles n) port)) (right_of port k h) (count (is k) (loaned_in (f.handles n) port))
        (one_if (nat_le (f.loans port) k)) less right (few n port k))
        (λ other. ap (λ (hs : List Handle). count (is k) (loaned_in hs port)) (others m other)
        ∙ ap (count (is k)) (none-loaned port (f.handles m) (λ j a.
        by_cases (j.port == port)
        (λ is. never (m == n) (eq-eqb m n (sym (((r.handles m).each j a).of_port).1 ∙ ap (node_in f.ports) (eqb-true j.port port is ∙ sym sent.0)
        ∙ p.of_port)) other) (λ e. e))))
