-- What a call of a port or a handle names, as its kind tells.
use Rattle.std.proofs.Common.{◌≡◌, ℕ, ◌*◌, ◌/◌, ◌<◌, Bool, true, false, if◌then◌else◌, List, [], length, Some, None, refl, ap, ap₂, sym, subst, ◌∙◌, arith, true≢false}
use Rattle.std.specs.Prelude.{Option, IsSomeAnd, slice_get}
use Rattle.std.specs.Option.{option_map_or}
use Rattle.std.proofs.lemmas.Option.{slice_get-get_or}
use Rattle.iox_model.specs.declared.call.Call.TheVariants as calls
use Rattle.iox_model.specs.declared.kind.Kind.{Kind}
use Rattle.iox_model.specs.declared.kind.Kind.TheVariants as kinds
use Rattle.iox_model.specs.declared.kind.Role.{Role}
use Rattle.iox_model.specs.declared.kind.Role.TheVariants.{Client, Server}
use Rattle.iox_model.specs.Commands.{Payload}
use Rattle.iox_model.specs.Handles.{is_request_loan, is_response_loan, same_kind}
use Rattle.iox_model.specs.Names.{is_port, suits}
use Rattle.iox_model.specs.Settings.{Shape, is_client, shape_of}
use Rattle.iox_model.specs.States.{Port}
use Rattle.iox_wire_begins.specs.WholeElements.{elements_in, whole_elements}
use Rattle.iox_wire_begins.specs.PortTerms.{PortTerms}
use Rattle.iox_wire_begins.specs.WireTerms.{WireTerms}
use Rattle.iox_wire_begins.specs.Terms.{IsPortWith, IsSettingWith}
use Rattle.iox_wire_begins.specs.Tables.{Setting, port_shape}
use Rattle.iox_wire_begins.specs.PlannedSlots.{role_there}
use Rattle.iox_wire_begins.specs.WirePlans.{IsWirePlan}
use Rattle.iox_wire_begins.specs.RequestSources.{HasRequestWays}
use Rattle.iox_wire_begins.specs.PlanPort.{PlanPort}
use Rattle.iox_wire_begins.specs.WirePlan.{WirePlan}
use Rattle.iox_wire_begins.specs.Plans.{IsPlan, IsPortAt, details_of, number_at, port_of, role_of}
use Rattle.iox_wire_begins.proofs.PairLemmas.{index_there, one_of}
use Rattle.iox_wire_begins.proofs.PlanLemmas.{port_is}
use Rattle.iox_wire_begins.specs.Asked.{Asked}
use Rattle.iox_wire_begins.specs.Asked.TheVariants as asked
use Rattle.iox_wire_begins.specs.HandleCalls.{HasRole, call_of, port_kind}
use Rattle.iox_wire_nodes.specs.Calls.{handles_have, planned_elements, ports_have}

-- ---- of ports

-- the port at an index whose number has that role
pub port_of_role : (plan : WirePlan) → IsPlan plan → (i n : ℕ) (role : Role) → i < length plan.ports.items → number_at plan i ≡ n → role_of plan n ≡ role → IsPortAt plan role i
port_of_role plan is i n role low number has =
    subst (λ (o : Option PlanPort). IsSomeAnd o (λ q. q.role ≡ role)) (sym (slice_get-get_or plan.ports.items i (one_of plan.ports.items i low) low))
    (ap (λ (o : Option PlanPort). option_map_or (λ q. q.role) o Client) (sym (port_is plan is.numbers i (one_of plan.ports.items i low) low) ∙ ap (port_of plan) number) ∙ has)

-- a port that lends is a client
pub lends_as_client : (n k : ℕ) (r : Role) → suits true (calls.Loan n k) (port_kind r) ≡ true → r ≡ Client
lends_as_client n k Client e = refl
lends_as_client n k Server e = absurd (true≢false (sym e))

-- so is one that copies, and it copies a request
copies_by_role : (a r : Role) → (if is_client a then same_kind (port_kind r) kinds.Client else same_kind (port_kind r) kinds.ActiveRequest) ≡ true → (r ≡ Client) × (a ≡ Client)
copies_by_role Client Client e = (refl, refl)
copies_by_role Client Server e = absurd (true≢false (sym e))
copies_by_role Server Client e = absurd (true≢false (sym e))
copies_by_role Server Server e = absurd (true≢false (sym e))

pub copies_as_client : (n : ℕ) (y : Payload) (r : Role) → suits true (calls.SendCopy n y) (port_kind r) ≡ true → (r ≡ Client) × (y.role ≡ Client)
copies_as_client n y r e = copies_by_role y.role r e

-- ---- of handles

-- a handle that lends is a received request
pub lends_to_request : (n k : ℕ) (x : Kind) → is_port x ≡ false → suits true (calls.Loan n k) x ≡ true → x ≡ kinds.ActiveRequest
lends_to_request n k kinds.Client handle e = absurd (true≢false handle)
lends_to_request n k kinds.Server handle e = absurd (true≢false handle)
lends_to_request n k kinds.RequestMutUninit handle e = absurd (true≢false (sym e))
lends_to_request n k kinds.RequestMut handle e = absurd (true≢false (sym e))
lends_to_request n k kinds.ResponseMutUninit handle e = absurd (true≢false (sym e))
lends_to_request n k kinds.ResponseMut handle e = absurd (true≢false (sym e))
lends_to_request n k kinds.PendingResponse handle e = absurd (true≢false (sym e))
lends_to_request n k kinds.ActiveRequest handle e = refl
lends_to_request n k kinds.Response handle e = absurd (true≢false (sym e))

-- so is one that copies
copies_for_role : (a : Role) (x : Kind) → is_port x ≡ false → (if is_client a then same_kind x kinds.Client else same_kind x kinds.ActiveRequest) ≡ true
    → (x ≡ kinds.ActiveRequest) × (a ≡ Server)
copies_for_role Client kinds.Client handle e = absurd (true≢false handle)
copies_for_role Client kinds.Server handle e = absurd (true≢false handle)
copies_for_role Client kinds.RequestMutUninit handle e = absurd (true≢false (sym e))
copies_for_role Client kinds.RequestMut handle e = absurd (true≢false (sym e))
copies_for_role Client kinds.ResponseMutUninit handle e = absurd (true≢false (sym e))
copies_for_role Client kinds.ResponseMut handle e = absurd (true≢false (sym e))
copies_for_role Client kinds.PendingResponse handle e = absurd (true≢false (sym e))
copies_for_role Client kinds.ActiveRequest handle e = absurd (true≢false (sym e))
copies_for_role Client kinds.Response handle e = absurd (true≢false (sym e))
copies_for_role Server kinds.Client handle e = absurd (true≢false handle)
copies_for_role Server kinds.Server handle e = absurd (true≢false handle)
copies_for_role Server kinds.RequestMutUninit handle e = absurd (true≢false (sym e))
copies_for_role Server kinds.RequestMut handle e = absurd (true≢false (sym e))
copies_for_role Server kinds.ResponseMutUninit handle e = absurd (true≢false (sym e))
copies_for_role Server kinds.ResponseMut handle e = absurd (true≢false (sym e))
copies_for_role Server kinds.PendingResponse handle e = absurd (true≢false (sym e))
copies_for_role Server kinds.ActiveRequest handle e = (refl, refl)
copies_for_role Server kinds.Response handle e = absurd (true≢false (sym e))

pub copies_to_request : (n : ℕ) (y : Payload) (x : Kind) → is_port x ≡ false → suits true (calls.SendCopy n y) x ≡ true → (x ≡ kinds.ActiveRequest) × (y.role ≡ Server)
copies_to_request n y x handle e = copies_for_role y.role x handle e

-- a handle that receives is a pending response
pub receives_as_pending : (n : ℕ) (x : Kind) → is_port x ≡ false → suits true (calls.Receive n) x ≡ true → same_kind x kinds.PendingResponse ≡ true
receives_as_pending n kinds.Client handle e = absurd (true≢false handle)
receives_as_pending n kinds.Server handle e = absurd (true≢false handle)
receives_as_pending n kinds.RequestMutUninit handle e = absurd (true≢false (sym e))
receives_as_pending n kinds.RequestMut handle e = absurd (true≢false (sym e))
receives_as_pending n kinds.ResponseMutUninit handle e = absurd (true≢false (sym e))
receives_as_pending n kinds.ResponseMut handle e = absurd (true≢false (sym e))
receives_as_pending n kinds.PendingResponse handle e = refl
receives_as_pending n kinds.ActiveRequest handle e = absurd (true≢false (sym e))
receives_as_pending n kinds.Response handle e = absurd (true≢false (sym e))

-- what is sent and no request is a response
pub sends_response_else : (n : ℕ) (x : Kind) → suits true (calls.Send n) x ≡ true → is_request_loan x ≡ false → is_response_loan x ≡ true
sends_response_else n kinds.Client e other = absurd (true≢false (sym e))
sends_response_else n kinds.Server e other = absurd (true≢false (sym e))
sends_response_else n kinds.RequestMutUninit e other = absurd (true≢false (sym e))
sends_response_else n kinds.RequestMut e other = absurd (true≢false other)
sends_response_else n kinds.ResponseMutUninit e other = absurd (true≢false (sym e))
sends_response_else n kinds.ResponseMut e other = refl
sends_response_else n kinds.PendingResponse e other = absurd (true≢false (sym e))
sends_response_else n kinds.ActiveRequest e other = absurd (true≢false (sym e))
sends_response_else n kinds.Response e other = absurd (true≢false (sym e))

-- ---- of neither

-- no port is written
writes_no_port : (a r : Role) → (if is_client a then is_request_loan (port_kind r) else is_response_loan (port_kind r)) ≡ true → ⊥
writes_no_port Client Client e = true≢false (sym e)
writes_no_port Client Server e = true≢false (sym e)
writes_no_port Server Client e = true≢false (sym e)
writes_no_port Server Server e = true≢false (sym e)

-- a call that ports do not have suits none of them
pub not_of_ports : (a : Asked) (n : ℕ) (y : Payload) (r : Role) → ports_have a ≡ false → suits true (call_of a n y) (port_kind r) ≡ true → ⊥
not_of_ports (asked.Loan k) n y r never e = absurd (true≢false never)
not_of_ports (asked.LoanUninit k) n y Client never e = true≢false (sym e)
not_of_ports (asked.LoanUninit k) n y Server never e = true≢false (sym e)
not_of_ports (asked.Write role) n y r never e = writes_no_port y.role r e
not_of_ports asked.Send n y Client never e = true≢false (sym e)
not_of_ports asked.Send n y Server never e = true≢false (sym e)
not_of_ports (asked.SendCopy role) n y r never e = absurd (true≢false never)
not_of_ports asked.Receive n y r never e = absurd (true≢false never)
not_of_ports asked.Read n y Client never e = true≢false (sym e)
not_of_ports asked.Read n y Server never e = true≢false (sym e)
not_of_ports asked.Release n y Client never e = true≢false (sym e)
not_of_ports asked.Release n y Server never e = true≢false (sym e)
not_of_ports asked.IsConnected n y Client never e = true≢false (sym e)
not_of_ports asked.IsConnected n y Server never e = true≢false (sym e)
not_of_ports asked.SetHint n y Client never e = true≢false (sym e)
not_of_ports asked.SetHint n y Server never e = true≢false (sym e)
not_of_ports asked.HasHint n y Client never e = true≢false (sym e)
not_of_ports asked.HasHint n y Server never e = true≢false (sym e)
not_of_ports asked.HasRequests n y r never e = absurd (true≢false never)
not_of_ports asked.HasResponse n y Client never e = true≢false (sym e)
not_of_ports asked.HasResponse n y Server never e = true≢false (sym e)

-- nor does a call that handles do not have suit one
pub not_of_handles : (a : Asked) (n : ℕ) (y : Payload) (x : Kind) → handles_have a ≡ false → is_port x ≡ false → suits true (call_of a n y) x ≡ true → ⊥
not_of_handles (asked.Loan k) n y x never handle e = absurd (true≢false never)
not_of_handles (asked.LoanUninit k) n y x never handle e = true≢false (sym e)
not_of_handles (asked.Write role) n y x never handle e = absurd (true≢false never)
not_of_handles asked.Send n y x never handle e = absurd (true≢false never)
not_of_handles (asked.SendCopy role) n y x never handle e = absurd (true≢false never)
not_of_handles asked.Receive n y x never handle e = absurd (true≢false never)
not_of_handles asked.Read n y x never handle e = absurd (true≢false never)
not_of_handles asked.Release n y x never handle e = absurd (true≢false never)
not_of_handles asked.IsConnected n y x never handle e = absurd (true≢false never)
not_of_handles asked.SetHint n y x never handle e = absurd (true≢false never)
not_of_handles asked.HasHint n y x never handle e = absurd (true≢false never)
not_of_handles asked.HasRequests n y kinds.Client never handle e = true≢false handle
not_of_handles asked.HasRequests n y kinds.Server never handle e = true≢false handle
not_of_handles asked.HasRequests n y kinds.RequestMutUninit never handle e = true≢false (sym e)
not_of_handles asked.HasRequests n y kinds.RequestMut never handle e = true≢false (sym e)
not_of_handles asked.HasRequests n y kinds.ResponseMutUninit never handle e = true≢false (sym e)
not_of_handles asked.HasRequests n y kinds.ResponseMut never handle e = true≢false (sym e)
not_of_handles asked.HasRequests n y kinds.PendingResponse never handle e = true≢false (sym e)
not_of_handles asked.HasRequests n y kinds.ActiveRequest never handle e = true≢false (sym e)
not_of_handles asked.HasRequests n y kinds.Response never handle e = true≢false (sym e)
not_of_handles asked.HasResponse n y x never handle e = absurd (true≢false never)

-- ---- what the terms tell

held_there : (o : Option PortTerms) (q : Port) (x : Shape) → IsSomeAnd o (IsPortWith q x) → q.held ≡ true
held_there None q x with = absurd with
held_there (Some r) q x with = with.held

-- the value of each port is there
pub is_held : (plan : WirePlan) (t : WireTerms) (p : Setting) → IsSettingWith plan t p → (i n : ℕ) → i < length plan.ports.items → number_at plan i ≡ n → (p.port n).held ≡ true
is_held plan t p with i n low number =
    ap (λ k. (p.port k).held) (sym number) ∙ held_there (slice_get t.ports.items i) (p.port (number_at plan i)) (port_shape p (number_at plan i)) (with.ports i low)

-- the role of the port at an index
pub role_there_is : (plan : WirePlan) → IsPlan plan → (role : Role) (i : ℕ) → IsPortAt plan role i → role_there plan i ≡ role
role_there_is plan is role i at =
    let low : i < length plan.ports.items = index_there PlanPort (λ q. q.role ≡ role) plan.ports.items i at in
    let d : PlanPort = one_of plan.ports.items i low in
    ap (λ (o : Option PlanPort). option_map_or (λ q. q.role) o Client) (port_is plan is.numbers i d low)
    ∙ subst (λ (o : Option PlanPort). IsSomeAnd o (λ q. q.role ≡ role)) (slice_get-get_or plan.ports.items i d low) at

-- the elements that are planned are those of the shape
pub elements_planned : (plan : WirePlan) (t : WireTerms) (p : Setting) → IsSettingWith plan t p → (role : Role) (words : List ℕ)
    → planned_elements plan t role words ≡ whole_elements (shape_of p.limits role) words
elements_planned plan t p with role words =
    let w : (details_of plan role).payload.size ≡ 8 * (shape_of p.limits role).width = (with.setting.is_for.shapes role).element in
    let e : (details_of plan role).payload.size / 8 ≡ (shape_of p.limits role).width = omega (arith, w) in
    ap₂ (λ (m : Bool) (k : ℕ). elements_in m k (length words)) (sym (with.many role)) e

-- ---- a payload for each call

abbrev asked_role : Asked → Role
asked_role (asked.Write role) = role
asked_role (asked.SendCopy role) = role
asked_role a = Client

abbrev pub asked_payload : Asked → Payload
asked_payload a = record { role = asked_role a; elements = None; words = [] }

pub has_role : (a : Asked) → HasRole a (asked_payload a)
has_role (asked.Loan k) = tt
has_role (asked.LoanUninit k) = tt
has_role (asked.Write role) = refl
has_role asked.Send = tt
has_role (asked.SendCopy role) = refl
has_role asked.Receive = tt
has_role asked.Read = tt
has_role asked.Release = tt
has_role asked.IsConnected = tt
has_role asked.SetHint = tt
has_role asked.HasHint = tt
has_role asked.HasRequests = tt
has_role asked.HasResponse = tt

-- ---- what a plan gives

both_there : (o : Option PlanPort) → IsSomeAnd o (λ q. q.role ≡ Client) → IsSomeAnd o (λ q. 0 < q.pool) → IsSomeAnd o (λ q. (q.role ≡ Client) × (0 < q.pool))
both_there None client slot = client
both_there (Some q) client slot = (client, slot)

pub has_request_ways : (plan : WirePlan) (t : WireTerms) → IsWirePlan plan t → HasRequestWays plan
has_request_ways plan t is = record {
  lanes = λ i at. both_there (slice_get plan.ports.items i) at (is.slots i (index_there PlanPort (λ q. q.role ≡ Client) plan.ports.items i at));
  header = is.headers Client;
  memory = is.memory;
}
