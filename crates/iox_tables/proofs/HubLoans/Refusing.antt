-- What refuses a call before it begins.
use Rattle.std.specs.Prelude.{◌≡◌, ℕ, ◌^◌, Bool, true, false, not, ◌||◌, ◌&&◌, if◌then◌else◌, ◌==◌, nat_le, List, [], ◌∷◌, map, Option, Some, None, refl}
use Rattle.std.specs.List.{list_any}
use Rattle.std.specs.Option.{option_map, option_map_or}
use Rattle.std.proofs.Common.{sym, ap, ap₂, ◌∙◌, true≢false}
use Rattle.std.proofs.lemmas.Option.{none-some}
use Rattle.iox_model.specs.declared.call.Call.TheVariants.{Loan, LoanUninit, Write, Send, SendCopy, Receive, Read, Release, IsConnected, SetHint, HasHint, HasRequests, HasResponse}
use Rattle.iox_model.specs.declared.reply.Refusal.TheVariants.{CallsSpent, ForeignNumber, UnknownNumber, WrongKind}
use Rattle.iox_model.specs.declared.reply.Reply.TheVariants.{Refused}
use Rattle.iox_model.specs.Commands.{Call, Refusal, Reply, number_of}
use Rattle.iox_model.specs.Handles.{ThePort, is_elsewhere, port_or_handle}
use Rattle.iox_model.specs.Loans.{Choice}
use Rattle.iox_model.specs.Maps.{or_else, refused_if}
use Rattle.iox_model.specs.Names.{misnamed, misnamed_by, suits}
use Rattle.iox_model.specs.States as m
use Rattle.iox_model.specs.WholeCalls.{is_counted}
use Rattle.iox_laws.proofs.WeaveLaws.MapLemmas.{eqb-refl}
use Rattle.iox_laws.specs.CallFunctions.Answers.{unless, unless_misnamed}
use Rattle.iox_laws.specs.CallFunctions.Calls.{call_by}
use Rattle.iox_tables.specs.HubStates.Tables.{HandleState, HubTables, PortState, port_in}
use Rattle.iox_tables.specs.HubStates.States.{Given, fixed_of, handle_of, message_of, port_of, state_shown}
use Rattle.iox_tables.specs.HubStates.Ends.{OfEachHandle}
use Rattle.iox_tables.specs.HubStates.Wirings.{handle_in}
use Rattle.iox_tables.proofs.HubStates.Fixing.{find_handle, find_port}
use Rattle.iox_tables.proofs.HubStates.Naming.{handle_node}
use Rattle.iox_tables.specs.HubLoans.Counts.{AreOnNodes, IsOnNode}
use Rattle.iox_tables.specs.HubLoans.Refusals.{CallsAreRefused, NamesAreRefused, is_handle_of_any, name_refusal, name_refusal_by, unnamed}
use Rattle.iox_tables.proofs.HubLoans.Counting.{any_map}
use Rattle.std.proofs.lemmas.Bool.{or_left, or_right}

-- ---- lists

both_true : (a b : Bool) → a ≡ true → b ≡ true → (a && b) ≡ true
both_true true b ea eb = eb
both_true false b ea eb = absurd (true≢false (sym ea))

second : (a b : Bool) → (a && b) ≡ true → b ≡ true
second true b e = e
second false b e = absurd (true≢false (sym e))

-- two tests are the same if each implies the other
same_test : (a b : Bool) → (a ≡ true → b ≡ true) → (b ≡ true → a ≡ true) → a ≡ b
same_test true b to from = sym (to refl)
same_test false true to from = from refl
same_test false false to from = refl

-- what passes one test in a list passes another
any_weaker : {A : Type 0} (f g : A → Bool) → ((a : A) → f a ≡ true → g a ≡ true) → (xs : List A) → list_any f xs ≡ true → list_any g xs ≡ true
any_weaker f g to [] e = e
any_weaker f g to (a ∷ rest) e = step (f a) refl e (any_weaker f g to rest)
  where
    step : (b : Bool) → f a ≡ b → (b || list_any f rest) ≡ true → (list_any f rest ≡ true → list_any g rest ≡ true) → (g a || list_any g rest) ≡ true
    step true is e more = or_left (g a) (list_any g rest) (to a is)
    step false is e more = or_right (g a) (list_any g rest) (more e)

-- a port that is found is in the list
any_port : (f : PortState → Bool) (ports : List PortState) (n : ℕ) (p : PortState) → port_in ports n ≡ Some p → f p ≡ true → list_any f ports ≡ true
any_port f [] n p e passes = absurd (none-some p e)
any_port f (q ∷ qs) n p e passes = step (q.number == n) e (any_port f qs n p)
  where
    step : (b : Bool) → (if b then Some q else port_in qs n) ≡ Some p → (port_in qs n ≡ Some p → f p ≡ true → list_any f qs ≡ true) → (f q || list_any f qs) ≡ true
    step true e more =
        ap (λ b. b || list_any f qs) (ap (λ (o : Option PortState). option_map_or f o true) e ∙ passes)
    step false e more = or_right (f q) (list_any f qs) (more e passes)

any_ports : (x : Given) (f : m.Port → Bool) (ports : List PortState) → list_any f (map (port_of x) ports) ≡ list_any (λ p. f (port_of x p)) ports
any_ports x f [] = refl
any_ports x f (p ∷ ps) = ap (λ b. f (port_of x p) || b) (any_ports x f ps)

-- one of the handles passes
pub record Picked (P : HandleState → Type 0) (test : HandleState → Bool) (hs : List HandleState) : Type 0 where
  pub handle : HandleState
  pub so : P handle
  pub passes : test handle ≡ true
  pub among : (g : HandleState → Bool) → g handle ≡ true → list_any g hs ≡ true

pick : (P : HandleState → Type 0) (test : HandleState → Bool) (hs : List HandleState) → OfEachHandle P hs → list_any test hs ≡ true → Picked P test hs
pick P test [] all e = absurd (true≢false (sym e))
pick P test (h ∷ hs) all e = step (test h) refl e (pick P test hs all.1)
  where
    step : (b : Bool) → test h ≡ b → (b || list_any test hs) ≡ true → (list_any test hs ≡ true → Picked P test hs) → Picked P test (h ∷ hs)
    step true is e more = record { handle = h; so = all.0; passes = is; among = λ g at. ap (λ b. b || list_any g hs) at }
    step false is e more =
        let rest : Picked P test hs = more e in
        record { handle = rest.handle; so = rest.so; passes = rest.passes; among = λ g at. or_right (g h) (list_any g hs) (rest.among g at) }

-- ---- names

module _ (x : Given) (t : HubTables) (on : AreOnNodes t) where
  abbrev f : m.Fixed
  f = fixed_of x t

  abbrev of_node : ℕ → ℕ → Bool
  of_node n nd = list_any (λ h. (h.node == nd) && (h.number == n)) t.handles

  node_has : (n nd : ℕ) → list_any (λ (h : m.Handle). h.number == n) (f.handles nd) ≡ of_node n nd
  node_has n nd = any_map (λ (h : m.Handle). h.number == n) (handle_of x (message_of x t.pools)) (λ h. h.node == nd) t.handles

  by_nodes : (n : ℕ) → is_elsewhere f n ≡ list_any (λ p. of_node n p.node) t.ports
  by_nodes n =
      any_ports x (λ p. list_any (λ (h : m.Handle). h.number == n) (f.handles p.node)) t.ports
      ∙ ap (λ (g : ℕ → Bool). list_any (λ (p : PortState). g p.node) t.ports) (λ i nd. node_has n nd i)

  of_some : (n nd : ℕ) → of_node n nd ≡ true → is_handle_of_any t n ≡ true
  of_some n nd e = any_weaker (λ h. (h.node == nd) && (h.number == n)) (λ h. h.number == n) (λ h. second (h.node == nd) (h.number == n)) t.handles e

  any_of : (n : ℕ) (ports : List PortState) → list_any (λ p. of_node n p.node) ports ≡ true → is_handle_of_any t n ≡ true
  any_of n [] e = absurd (true≢false (sym e))
  any_of n (p ∷ ps) e = step (of_node n p.node) refl e (any_of n ps)
    where
      step : (b : Bool) → of_node n p.node ≡ b → (b || list_any (λ p. of_node n p.node) ps) ≡ true
          → (list_any (λ p. of_node n p.node) ps ≡ true → is_handle_of_any t n ≡ true) → is_handle_of_any t n ≡ true
      step true is e more = of_some n p.node is
      step false is e more = more e

  has_node : (n : ℕ) → is_handle_of_any t n ≡ true → list_any (λ p. of_node n p.node) t.ports ≡ true
  has_node n e =
      let one : Picked (IsOnNode t) (λ h. h.number == n) t.handles = pick (IsOnNode t) (λ h. h.number == n) t.handles on e in
      any_port (λ p. of_node n p.node) t.ports one.handle.port one.so.port one.so.there
      (one.among (λ h. (h.node == one.so.port.node) && (h.number == n))
      (both_true (one.handle.node == one.so.port.node) (one.handle.number == n)
      (ap (λ j. j == one.so.port.node) one.so.node ∙ eqb-refl one.so.port.node) one.passes))

  elsewhere_is : (n : ℕ) → is_elsewhere f n ≡ is_handle_of_any t n
  elsewhere_is n = by_nodes n ∙ same_test (list_any (λ p. of_node n p.node) t.ports) (is_handle_of_any t n) (any_of n t.ports) (has_node n)

  pub names_are : (node : ℕ) (call : Call) → misnamed f node call ≡ name_refusal t node call
  names_are node call =
      ap₂ (λ (a : Option m.Port) (b : Option m.Handle). misnamed_by f node call (port_or_handle a b)) (find_port x t.ports (number_of call))
      (find_handle x (message_of x t.pools) t.handles node (number_of call))
      ∙ step (port_in t.ports (number_of call)) (handle_in t.handles node (number_of call)) refl
    where
      unnamed_is : Some (if is_elsewhere f (number_of call) then ForeignNumber else UnknownNumber) ≡ Some (unnamed t (number_of call))
      unnamed_is = ap (λ (b : Bool). Some (if b then ForeignNumber else UnknownNumber)) (elsewhere_is (number_of call))

      step : (a : Option PortState) (b : Option HandleState) → handle_in t.handles node (number_of call) ≡ b
          → misnamed_by f node call (port_or_handle (option_map (port_of x) a) (option_map (handle_of x (message_of x t.pools)) b)) ≡ name_refusal_by t node call a b
      step (Some p) b e = by_held p.held
        where
          by_held : (c : Bool) → misnamed_by f node call (if c then Some (ThePort (port_of x p)) else None)
              ≡ (if c then name_refusal_by t node call (Some (record p { held = true })) b else Some (unnamed t (number_of call)))
          by_held true = refl
          by_held false = unnamed_is
      step None (Some h) e =
          ap (λ k. or_else (refused_if (not (k == node)) ForeignNumber) (refused_if (not (suits false call h.kind)) WrongKind)) (handle_node t.handles node (number_of call) h e)
          ∙ ap (λ c. or_else (refused_if (not c) ForeignNumber) (refused_if (not (suits false call h.kind)) WrongKind)) (eqb-refl node)
      step None None e = unnamed_is

pub names_are_refused : NamesAreRefused
names_are_refused x t node call on = names_are x t on node call

-- ---- before a call begins

module _ (s : m.State) (node : ℕ) (c : Choice) (payload : List ℕ) where
  begins_so : (call : Call) → (w : Reply × m.State) × (call_by s node call c payload ≡ unless_misnamed s node call w)
  begins_so (Loan n k) = (_, refl)
  begins_so (LoanUninit n k) = (_, refl)
  begins_so (Write n p) = (_, refl)
  begins_so (Send n) = (_, refl)
  begins_so (SendCopy n p) = (_, refl)
  begins_so (Receive n) = (_, refl)
  begins_so (Read n) = (_, refl)
  begins_so (Release n) = (_, refl)
  begins_so (IsConnected n) = (_, refl)
  begins_so (SetHint n) = (_, refl)
  begins_so (HasHint n) = (_, refl)
  begins_so (HasRequests n) = (_, refl)
  begins_so (HasResponse n) = (_, refl)

  first_of_two : (a b : Option Refusal) (w : Reply × m.State) (r : Refusal) → or_else a b ≡ Some r → unless a s (unless b s w) ≡ (Refused r, s)
  first_of_two (Some q) b w r e = λ i. (Refused (option_map_or (λ q. q) (e i) q), s)
  first_of_two None (Some q) w r e = λ i. (Refused (option_map_or (λ q. q) (e i) q), s)
  first_of_two None None w r e = absurd (none-some r e)

pub calls_are_refused : CallsAreRefused
calls_are_refused x t node call c payload r on e =
    let s : m.State = state_shown x t in
    let b : Option Refusal = refused_if (is_counted call && nat_le (2 ^ 56) t.calls) CallsSpent in
    let begins : (w : Reply × m.State) × (call_by s node call c payload ≡ unless_misnamed s node call w) = begins_so s node c payload call in
    begins.1
    ∙ ap (λ (a : Option Refusal). unless a s (unless b s begins.0)) (names_are x t on node call)
    ∙ first_of_two s node c payload (name_refusal t node call) b begins.0 r e
