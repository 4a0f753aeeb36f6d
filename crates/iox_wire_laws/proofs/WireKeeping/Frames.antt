-- What no end of a call on a wire changes: ports and limits, the first number of handles, and what is expired.
use Rattle.std.specs.Prelude.{find, not, ◌++◌}
use Rattle.std.specs.List.{list_any}
use Rattle.std.specs.Option.{option_map_or}
use Rattle.std.proofs.Common.{◌≡◌, ℕ, Bool, true, false, if◌then◌else◌, ◌&&◌, ◌==◌, ◌+◌, ◌-◌, List, [], ◌∷◌, refl, ap, sym, subst, ◌∙◌, eqb-true, true≢false}
use Rattle.iox_model.specs.Counts.{added, changed, dropped, numbered, called, gives_up, with_fixed, sent_handle}
use Rattle.iox_model.specs.Doings.{Outcome, Tells, Loans, Fills, Sends, FailsToSend, Receives, Drops, DropsPort, Forgets}
use Rattle.iox_model.specs.Ends.{sent_loan, sent_copy, is_nothing, settled}
use Rattle.iox_model.specs.Expiries.{released}
use Rattle.iox_model.specs.Forgetting.{has_forgotten, forgets}
use Rattle.iox_model.specs.Handles.{is_request_loan, is_received, way_of}
use Rattle.iox_model.specs.Maps.{put_at, put, has_number}
use Rattle.iox_model.specs.Peers.{is_connected_port, node_of_port, forgot_port, is_counted_on}
use Rattle.iox_model.specs.declared.way.Way.{Way}
use Rattle.iox_model.specs.States.{Port, Handle, Fixed, State}
use Rattle.iox_laws.proofs.WeaveLaws.MapLemmas.{either}
use Rattle.iox_laws.proofs.WeaveLaws.WholeLemmas.{split}
use Rattle.iox_laws.proofs.WeaveLaws.WireLemmas.{released-wire}
use Rattle.iox_laws.proofs.WeaveLedger.Truths.{both_true, false_if, never, or-false, or-neither, or-through}

-- all that stays; who was forgotten still is
abbrev pub Frame : Fixed → Fixed → Type 0
Frame f g =
    (g.on_wire ≡ f.on_wire) × (g.ports ≡ f.ports) × (g.limits ≡ f.limits) × (g.next_number ≡ f.next_number)
    × (g.expired ≡ f.expired) × ((n port : ℕ) → forgot_port g n port ≡ false → forgot_port f n port ≡ false)

-- the port's own value is not released, which no call of a wire does
abbrev pub KeepsPorts : Outcome → Type 0
KeepsPorts (DropsPort port) = ⊥
KeepsPorts o = Unit {0}

same : (f : Fixed) → Frame f f
same f = (refl, refl, refl, refl, refl, λ n port e. e)

-- ---- who is forgotten

fewer : (a b : Port → Bool) → ((q : Port) → a q ≡ true → b q ≡ true) → (qs : List Port) → list_any b qs ≡ false → list_any a qs ≡ false
fewer a b less [] e = refl
fewer a b less (q ∷ qs) e =
    let r : (b q ≡ false) × (list_any b qs ≡ false) = or-false (b q) (list_any b qs) e in
    or-neither (a q) (list_any a qs) (false_if (a q) (λ h. never (b q) (less q h) r.0)) (fewer a b less qs r.1)

has_more : (k : ℕ) (xs ys : List ℕ) → has_number k xs ≡ true → has_number k (xs ++ ys) ≡ true
has_more k [] ys e = absurd (true≢false (sym e))
has_more k (x ∷ xs) ys e = or-through (x == k) (has_number k xs) (has_number k (xs ++ ys)) (has_more k xs ys) e

forgets_more : (s : State) (node dead : ℕ) → Frame s.fixed (forgets s node dead).fixed
forgets_more s node dead = (refl, refl, refl, refl, refl, λ n port e. fewer _ _ (λ q h. more n port q h) s.fixed.ports e)
  where
    grown : (n k : ℕ) (b : Bool) → (b ≡ true → n ≡ node) → has_number k (s.fixed.forgot n) ≡ true
        → has_number k (if b then s.fixed.forgot node ++ dead ∷ [] else s.fixed.forgot n) ≡ true
    grown n k true is h = has_more k (s.fixed.forgot node) (dead ∷ []) (subst (λ i. has_number k (s.fixed.forgot i) ≡ true) (is refl) h)
    grown n k false is h = h

    more : (n port : ℕ) (q : Port) → ((q.number == port) && has_number q.node (s.fixed.forgot n)) ≡ true
        → ((q.number == port) && has_number q.node (put_at s.fixed.forgot node (s.fixed.forgot node ++ dead ∷ []) n)) ≡ true
    more n port q h =
        let r : ((q.number == port) ≡ true) × (has_number q.node (s.fixed.forgot n) ≡ true) = split _ _ h in
        both_true _ _ r.0 (grown n q.node (n == node) (eqb-true n node) r.1)

-- what is counted after it was counted before
pub counted_before : (f g : Fixed) → Frame f g → (y : Way) → is_counted_on g y ≡ true → is_counted_on f y ≡ true
counted_before f g k y e =
    let r : (is_connected_port g y.sender ≡ true) × (not (forgot_port g (node_of_port g y.sender) y.receiver) ≡ true) = split _ _ e in
    let node : node_of_port g y.sender ≡ node_of_port f y.sender
    = ap (λ ports. option_map_or (λ (q : Port). q.node) (find (λ q. q.number == y.sender) ports) 0) k.1 in
    let left : forgot_port g (node_of_port g y.sender) y.receiver ≡ false = false_of (forgot_port g (node_of_port g y.sender) y.receiver) r.1 in
    both_true _ _ (ap (λ ports. list_any (λ (q : Port). q.number == y.sender) ports) (sym k.1) ∙ r.0)
    (ap not (k.5 (node_of_port f y.sender) y.receiver (subst (λ n. forgot_port g n y.receiver ≡ false) node left)))
  where
    false_of : (b : Bool) → not b ≡ true → b ≡ false
    false_of true e = absurd (true≢false (sym e))
    false_of false e = refl

numbers : (f : Fixed) (node : ℕ) → f.on_wire ≡ true → Frame f (numbered f node)
numbers f node wire =
    subst (λ b. Frame f (if b then record f { handles_made = put_at f.handles_made node (f.handles_made node + 1) } else record f { next_number = f.next_number + 1 }))
    (sym wire) (same f)

gives : (f g : Fixed) (h : Handle) → Frame f g → Frame f (gives_up g h)
gives f g h k = either (Frame f) (is_received h.kind) (record g { borrowed = put g.borrowed (way_of h) (g.borrowed (way_of h) - 1) }) g (λ u. k) (λ u. k)

releases : (s : State) (g : Fixed) (port : ℕ) → g.on_wire ≡ true → Frame s.fixed g → Frame s.fixed (released (with_fixed s g) port).fixed
releases s g port wire k = subst (λ (t : State). Frame s.fixed t.fixed) (sym (released-wire (with_fixed s g) port wire)) k

copies : (f : Fixed) (h : Handle) (count : ℕ) → f.on_wire ≡ true → Frame f (sent_copy f h count)
copies f h count wire =
    either (Frame f) (is_request_loan h.kind) (added (numbered f h.node) (sent_handle h count)) f (λ u. numbers f h.node wire) (λ u. same f)

loans_sent : (s : State) (h : Handle) (count : ℕ) → s.fixed.on_wire ≡ true → Frame s.fixed (sent_loan s h count).fixed
loans_sent s h count wire =
    either (λ (t : State). Frame s.fixed t.fixed) (is_request_loan h.kind) (with_fixed s (changed s.fixed (sent_handle h count)))
    (released (with_fixed s (dropped s.fixed h)) h.port) (λ u. same s.fixed) (λ u. releases s (dropped s.fixed h) h.port wire (same s.fixed))

wire_given : (f : Fixed) (h : Handle) → f.on_wire ≡ true → (gives_up f h).on_wire ≡ true
wire_given f h wire =
    either (λ (g : Fixed). g.on_wire ≡ true) (is_received h.kind) (record f { borrowed = put f.borrowed (way_of h) (f.borrowed (way_of h) - 1) }) f (λ u. wire) (λ u. wire)

pub settled_frame : (s : State) (node : ℕ) (payload : List ℕ) (o : Outcome) → s.fixed.on_wire ≡ true → KeepsPorts o
    → Frame s.fixed (settled s node payload o).fixed
settled_frame s node payload (Tells reply) wire k =
    either (λ (t : State). Frame s.fixed t.fixed) (is_nothing reply) (with_fixed s (called s.fixed)) s (λ u. same s.fixed) (λ u. same s.fixed)
settled_frame s node payload (Loans h) wire k = numbers s.fixed node wire
settled_frame s node payload (Fills h) wire k = same s.fixed
settled_frame s node payload (Sends h true count) wire k = copies s.fixed h count wire
settled_frame s node payload (Sends h false count) wire k = loans_sent s h count wire
settled_frame s node payload (FailsToSend h true refusal) wire k = same s.fixed
settled_frame s node payload (FailsToSend h false refusal) wire k = releases s (dropped s.fixed h) h.port wire (same s.fixed)
settled_frame s node payload (Receives x w m) wire k = numbers s.fixed node wire
settled_frame s node payload (Drops h) wire k =
    releases s (gives_up (dropped s.fixed h) h) h.port (wire_given (dropped s.fixed h) h wire) (gives s.fixed (dropped s.fixed h) h (same s.fixed))
settled_frame s node payload (DropsPort port) wire k = absurd k
settled_frame s node payload (Forgets dead) wire k =
    either (λ (t : State). Frame s.fixed t.fixed) (has_forgotten s.fixed node dead) s (forgets s node dead) (λ u. same s.fixed)
    (λ u. forgets_more s node dead)
