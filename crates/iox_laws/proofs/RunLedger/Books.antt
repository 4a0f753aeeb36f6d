-- What holds of the record between calls of a hub; so a call begins, and so its end leaves it.
use Rattle.std.specs.Prelude.{◌≡◌, ℕ, ◌+◌, ◌≤◌, Bool, true, false, ◌&&◌, if◌then◌else◌, ◌==◌, nat_le, List, [], ◌∷◌, length, map, filter, Some, None, ◌⊎◌, refl}
use Rattle.std.proofs.Common.{sym, subst, ap, ap₂, ◌∙◌, eqb-true, eq-eqb, arith, inl, inr}
use Rattle.std.proofs.lemmas.List.{length-map}
use Rattle.iox_model.specs.declared.call.WireCall.TheVariants as wire_calls
use Rattle.iox_model.specs.declared.way.Way.{Way}
use Rattle.iox_model.specs.Begins.{start}
use Rattle.iox_model.specs.Commands.{Call}
use Rattle.iox_model.specs.Counts.{with_fixed}
use Rattle.iox_model.specs.Doings.{Outcome, Sends, Doing, Ended, Delivering, Evicted}
use Rattle.iox_laws.specs.WeaveLaws.Ledgers.{has_received, held_on, is_emptied_by}
use Rattle.iox_model.specs.Handles.{handle_at}
use Rattle.iox_model.specs.Loans.{Choice}
use Rattle.iox_model.specs.Messages.{serials_of, Message}
use Rattle.iox_model.specs.Names.{misnamed}
use Rattle.iox_model.specs.Peers.{role_at, node_of_port, buffer_on, borrow_limit_on}
use Rattle.iox_model.specs.Requests.{is_over}
use Rattle.iox_model.specs.Settings.{other_role, buffer_of, borrow_limit_of}
use Rattle.iox_model.specs.States.{Port, Handle, Fixed, State}
use Rattle.iox_model.specs.Transitions.{ends}
use Rattle.iox_model.specs.Values.{Filling, MayFill}
use Rattle.iox_laws.proofs.WeaveLaws.WholeLemmas.{split}
use Rattle.iox_laws.proofs.WeaveLaws.MapLemmas.{nobody_is_forgotten}
use Rattle.iox_laws.specs.WeaveLedger.QueueLaws.{has_evicted}
use Rattle.iox_laws.proofs.WeaveLedger.Orders.{le-from}
use Rattle.iox_laws.proofs.WeaveLedger.Counts.{count, one_if}
use Rattle.iox_laws.proofs.WeaveLedger.Truths.{never, none-some, by_cases}
use Rattle.iox_laws.proofs.WeaveLedger.Balance.{any}
use Rattle.iox_laws.proofs.WeaveLedger.Beginnings.{BeginsWell, wire_start-well}
use Rattle.iox_laws.proofs.WeaveLedger.HadEnds.{ended-held}
use Rattle.iox_laws.proofs.WeaveLedger.Lists.{distinct-no_repeats, no-length}
use Rattle.iox_laws.proofs.WeaveLedger.Once.{IsPassed}
use Rattle.iox_laws.proofs.WeaveLedger.Outs.{out, is}
use Rattle.iox_laws.proofs.WeaveLedger.Quiet.{held-quiet}
use Rattle.iox_laws.proofs.WeaveLedger.Rights.{IsSent}
use Rattle.iox_laws.proofs.WeaveLedger.Senders.{FitsHandles}
use Rattle.iox_laws.proofs.WeaveLedger.Tallies.{count-all}
use Rattle.iox_laws.proofs.WeaveLedger.Views.{view, node_in}
use Rattle.iox_laws.proofs.WeaveLaws.WholeLemmas.{some-is}
use Rattle.iox_laws.proofs.RunLaws.Calls.{Goes, begins}
use Rattle.iox_laws.proofs.RunLaws.Ports.{any_at}
use Rattle.iox_laws.proofs.RunLaws.Settling.{Calm}
use Rattle.iox_laws.proofs.RunLedger.Balance.{most_on, Underway}
use Rattle.iox_laws.proofs.RunLedger.Beginnings.{IsHub, start-stands}
use Rattle.iox_laws.proofs.RunLedger.Fillings.{fills, filling-filled, filling-goes}
use Rattle.iox_laws.proofs.RunLedger.Moments.{has_ends, IsIdle}
use Rattle.iox_laws.proofs.RunLedger.Receiving.{had_while}
use Rattle.iox_laws.proofs.RunLedger.Rights.{rights, AreFew, fits_handles}
use Rattle.iox_laws.proofs.RunLedger.Underway.{Stands}

-- what a receiver has of a way between calls
abbrev pub had_in : Fixed → Way → List ℕ
had_in f y = held_on y (f.handles (node_in f.ports y.receiver)) None

pub record Books (s : State) : Type 0 where
  pub hub : IsHub s.fixed
  -- each serial of a port is to be sent once, or is delivered
  pub fresh : (n : ℕ) (y : Way) (k : ℕ) → rights s.fixed n y.sender k + one_if (s.delivered y k) ≤ 1
  pub hand : (y : Way) → s.in_hand y ≡ []
  pub idle : (y : Way) → has_ends s.fixed y ≡ false → IsIdle s y
  pub counts : (y : Way) → has_ends s.fixed y ≡ true → (k : ℕ) → out (is k) s y (had_in s.fixed y) ≡ one_if (s.delivered y k)
  pub within : (y : Way) → has_ends s.fixed y ≡ true → (out any s y (had_in s.fixed y) ≤ most_on s.fixed y) ⊎ (s.returned y ≡ [])

-- ---- how much is out

-- no more waits than the buffer, no more is held than may be, and nothing else is out
pub is-within : (s : State) (y : Way) → Calm s → Books s → has_ends s.fixed y ≡ true → out any s y (had_in s.fixed y) ≤ most_on s.fixed y
is-within s y c b ends = elim (b.within y ends) as (λ u. out any s y (had_in s.fixed y) ≤ most_on s.fixed y) [
  | inl p ↦ p
  | inr none ↦
      sums (count any (serials_of (s.waiting y))) (count any (had_in s.fixed y)) (count any (s.returned y)) (count any (s.in_hand y))
      (length (s.waiting y)) (length (had_in s.fixed y)) (buffer_on s.fixed y) (borrow_limit_on s.fixed y)
      (count-all (serials_of (s.waiting y)) ∙ length-map (s.waiting y) (λ (m : Message). m.serial)) (count-all (had_in s.fixed y))
      (ap (count any) none) (ap (count any) (b.hand y)) waits has
]
  where
    sums : (a b c d e f g h : ℕ) → a ≡ e → b ≡ f → c ≡ 0 → d ≡ 0 → e ≤ g → f ≤ h → a + b + c + d ≤ g + h
    sums a b c d e f g h p q r t u v = omega arith

    waits : length (s.waiting y) ≤ buffer_on s.fixed y
    waits =
        le-from (length (s.waiting y)) (buffer_on s.fixed y)
        ((c.rests).within (node_of_port s.fixed y.sender) y ((split (any_at y.sender s.fixed.ports) (any_at y.receiver s.fixed.ports) ends).0, refl))

    has : length (had_in s.fixed y) ≤ borrow_limit_on s.fixed y
    has =
        subst (λ k. k ≤ borrow_limit_on s.fixed y)
        (sym (length-map (filter (has_received y) (s.fixed.handles (node_in s.fixed.ports y.receiver))) (λ (h : Handle). h.message.serial)))
        ((c.owned).has.few y)

-- ---- the begin of a call

pub are-few : (s : State) → Books s → AreFew s.fixed
are-few s b n port k =
    less (rights s.fixed n port k) (one_if (s.delivered (record { sender = port; receiver = 0; lane = 0 }) k))
    (b.fresh n (record { sender = port; receiver = 0; lane = 0 }) k)
  where
    less : (a b : ℕ) → a + b ≤ 1 → a ≤ 1
    less a b p = omega arith

-- what begins well is under way
pub well-underway : (s : State) (n : ℕ) (d : Doing) → Calm s → Books s → Goes s n d → Stands (view s.fixed n) n d
    → ((y : Way) → BeginsWell s.fixed n y d) → Underway s n d
well-underway s n d r b goes stands well = record {
  goes = goes;
  hub = b.hub;
  few = are-few s b;
  stands = stands;
  release = (well (record { sender = 0; receiver = 0; lane = 0 })).release;
  hand = λ y. subst (λ ks. length ks ≤ one_if (has_evicted y d)) (sym (b.hand y)) (least (one_if (has_evicted y d)));
  emptied = λ y e. never (is_emptied_by s.fixed y d) e (well y).empties;
  fresh = λ m y k u. b.fresh m y k;
  idle = b.idle;
  counts = λ y ends k. subst (λ ks. out (is k) s y ks ≡ one_if (s.delivered y k)) (sym (had y)) (b.counts y ends k);
  within = λ y ends. inl (subst (λ ks. out any s y ks ≤ most_on s.fixed y) (sym (had y)) (is-within s y r b ends));
}
  where
    least : (a : ℕ) → 0 ≤ a
    least a = omega arith

    had : (y : Way) → had_while s.fixed n d y ≡ had_in s.fixed y
    had y = by_case (node_in s.fixed.ports y.receiver == n) refl
      where
        by_case : (b : Bool) → (node_in s.fixed.ports y.receiver == n) ≡ b
            → held_on y (s.fixed.handles (node_in s.fixed.ports y.receiver)) (if b then Some d else None)
            ≡ held_on y (s.fixed.handles (node_in s.fixed.ports y.receiver)) None
        by_case true e =
            subst (λ j. held_on y (s.fixed.handles j) (Some d) ≡ held_on y (s.fixed.handles j) None) (sym (eqb-true (node_in s.fixed.ports y.receiver) n e))
            ((well y).held (nobody_is_forgotten s.fixed n y.sender ((b.hub).forgot n)))
        by_case false e = refl

pub begins-underway : (s : State) (n : ℕ) (c : Choice) (call : Call) → Calm s → Books s → misnamed s.fixed n call ≡ None → Underway s n (start s n c call)
begins-underway s n c call r b named =
    well-underway s n (start s n c call) r b (begins s n c call r named)
    (start-stands s n c call (distinct-no_repeats (map (λ (p : Port). p.number) s.fixed.ports) (((r.rests).fixed).numbered).0) b.hub fits named)
    (λ y. wire_start-well s n c (wire_calls.Port call) y fits named)
  where
    fits : FitsHandles (view s.fixed n) n
    fits = fits_handles s.fixed n (r.rests).fixed ((r.owned).has).kept (are-few s b)

-- a loan that is filled is a call that ends as it begins
pub filling-underway : (s : State) (n number : ℕ) (h : Handle) (x : Filling) → Calm s → Books s → handle_at s.fixed n number ≡ Some h → MayFill s.fixed h x
    → Underway s n (fills h x)
filling-underway s n number h x r b there may =
    well-underway s n (fills h x) r b (filling-goes s n number h x r there may) (filling-filled s n number h x r there may)
    (λ y. record { held = λ known. held-quiet y (s.fixed.handles n) (fills h x) refl; release = tt; empties = refl })

-- ---- the end of a call, before a port goes

-- the same ports but for whether their value is released
pub record SamePorts (f g : Fixed) : Type 0 where
  pub any : (k : ℕ) → any_at k g.ports ≡ any_at k f.ports
  pub node : (k : ℕ) → node_in g.ports k ≡ node_in f.ports k
  pub role : (k : ℕ) → role_at g k ≡ role_at f k
  pub limits : g.limits ≡ f.limits

-- what the end of a node's call makes of what is fixed
pub record Leaves (f : Fixed) (n : ℕ) (o : Outcome) (g : Fixed) : Type 0 where
  pub hub : IsHub g
  pub ports : SamePorts f g
  pub next : nat_le f.next_number g.next_number ≡ true
  pub here : (y : Way) → held_on y (g.handles n) None ≡ held_on y (f.handles n) (Some (Ended o))
  pub others : (j : ℕ) → (j == n) ≡ false → g.handles j ≡ f.handles j
  pub rights_less : (m port k : ℕ) → rights g m port k ≤ rights f m port k
  pub sent : (m port k : ℕ) → IsSent o port k → rights g m port k ≡ 0

same-ends : (f g : Fixed) (y : Way) → SamePorts f g → has_ends g y ≡ has_ends f y
same-ends f g y p = ap₂ (λ a b. a && b) (p.any y.sender) (p.any y.receiver)

-- the message of a send that ends was sent; and nothing else was passed
pub sent-or-not : (s : State) (d : Doing) (o : Outcome) (y : Way) (k : ℕ) → ends s d ≡ Some o → IsSent o y.sender k ⊎ (IsPassed y k d → ⊥)
sent-or-not s (Delivering x last [] count) o y k e =
    by_cases (x.loan.port == y.sender)
    (λ port. by_cases (x.loan.message.serial == k)
    (λ serial. inl (sent (is_over s last) e (eqb-true x.loan.port y.sender port, eqb-true x.loan.message.serial k serial)))
    (λ other. inr (λ p. never (x.loan.message.serial == k) (eq-eqb x.loan.message.serial k p.1) other)))
    (λ other. inr (λ p. never (x.loan.port == y.sender) (eq-eqb x.loan.port y.sender p.0) other))
  where
    sent : (b : Bool) → (if b then None else Some (Sends x.loan x.copied count)) ≡ Some o → (x.loan.port ≡ y.sender) × (x.loan.message.serial ≡ k)
        → IsSent o y.sender k
    sent true e q = absurd (none-some o e)
    sent false e q = subst (λ (a : Outcome). IsSent a y.sender k) (some-is (Sends x.loan x.copied count) o e) q
sent-or-not s (Delivering x last (w ∷ left) count) o y k e = absurd (none-some o e)
sent-or-not s (Evicted x w left count) o y k e = absurd (none-some o e)
sent-or-not s d o y k e = inr (λ p. p)

-- a call does not end with what it evicted
ends-no_hand : (s : State) (d : Doing) (o : Outcome) (y : Way) → ends s d ≡ Some o → has_evicted y d ≡ false
ends-no_hand s (Evicted x w left count) o y e = absurd (none-some o e)
ends-no_hand s d o y e = refl

pub left-books : (s : State) (n : ℕ) (d : Doing) (o : Outcome) (g : Fixed) → Underway s n d → ends s d ≡ Some o → Leaves s.fixed n o g → Books (with_fixed s g)
left-books s n d o g u ended p = record {
  hub = p.hub;
  fresh = λ m y k. elim (sent-or-not s d o y k ended) as (λ z. rights g m y.sender k + one_if (s.delivered y k) ≤ 1) [
    | inl sent ↦ at_most (s.delivered y k) (rights g m y.sender k) (p.sent m y.sender k sent)
    | inr free ↦ less (rights g m y.sender k) (rights s.fixed m y.sender k) (one_if (s.delivered y k)) (p.rights_less m y.sender k) (u.fresh m y k free)
  ];
  hand = λ y. no-length (s.in_hand y) (subst (λ b. length (s.in_hand y) ≤ one_if b) (ends-no_hand s d o y ended) (u.hand y));
  idle = λ y off. u.idle y (sym (same-ends s.fixed g y p.ports) ∙ off);
  counts = λ y ends k. ap (out (is k) s y) (had y) ∙ u.counts y (sym (same-ends s.fixed g y p.ports) ∙ ends) k;
  within = λ y ends. elim (u.within y (sym (same-ends s.fixed g y p.ports) ∙ ends)) as (λ z. (out any s y (had_in g y) ≤ most_on g y) ⊎ (s.returned y ≡ [])) [
    | inl q ↦ inl (subst (λ ks. out any s y ks ≤ most_on g y) (sym (had y)) (subst (λ k. out any s y (had_while s.fixed n d y) ≤ k) (sym (most y)) q))
    | inr q ↦ inr q.1
  ];
}
  where
    less : (a b c : ℕ) → a ≤ b → b + c ≤ 1 → a + c ≤ 1
    less a b c q r = omega arith

    at_most : (b : Bool) (a : ℕ) → a ≡ 0 → a + one_if b ≤ 1
    at_most true a q = omega arith
    at_most false a q = omega arith

    most : (y : Way) → most_on g y ≡ most_on s.fixed y
    most y =
        ap₂ (λ l role. buffer_of l role + borrow_limit_of g.limits (other_role (role_at g y.receiver))) (p.ports).limits ((p.ports).role y.sender)
        ∙ ap₂ (λ l role. buffer_on s.fixed y + borrow_limit_of l (other_role role)) (p.ports).limits ((p.ports).role y.receiver)

    had : (y : Way) → had_in g y ≡ had_while s.fixed n d y
    had y = ap (λ j. held_on y (g.handles j) None) ((p.ports).node y.receiver) ∙ by_case (node_in s.fixed.ports y.receiver == n) refl
      where
        by_case : (b : Bool) → (node_in s.fixed.ports y.receiver == n) ≡ b
            → held_on y (g.handles (node_in s.fixed.ports y.receiver)) None
            ≡ held_on y (s.fixed.handles (node_in s.fixed.ports y.receiver)) (if b then Some d else None)
        by_case true e =
            subst (λ j. held_on y (g.handles j) None ≡ held_on y (s.fixed.handles j) (Some d)) (sym (eqb-true (node_in s.fixed.ports y.receiver) n e))
            (p.here y ∙ sym (ended-held s d o y (s.fixed.handles n) ended))
        by_case false e = ap (λ hs. held_on y hs None) (p.others (node_in s.fixed.ports y.receiver) e)
