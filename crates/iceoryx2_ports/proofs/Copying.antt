-- What a refused copy answers and leaves, and that pending responses ask as before.
use Rattle.std.specs.Prelude.{◌≡◌, ℕ, ◌<◌, false, Some, refl}
use Rattle.std.proofs.Common.{ap, ◌∙◌, arith}
use Rattle.iox_model.specs.declared.call.Call.TheVariants.{SendCopy}
use Rattle.iox_model.specs.declared.kind.Kind.TheVariants as kinds
use Rattle.iox_model.specs.declared.kind.Role.{Role}
use Rattle.iox_model.specs.declared.kind.Role.TheVariants.{Client, Server}
use Rattle.iox_model.specs.Commands.{Payload, Reply}
use Rattle.iox_model.specs.WholeCalls.{IsWholeCall}
use Rattle.iox_tables.specs.HubLoans.Lenders.{IsActive, IsClient}
use Rattle.iox_tables.specs.HubStates.States.{Given}
use Rattle.iox_tables.specs.HubStates.Tables.{HandleState, PortState, port_in}
use Rattle.iox_tables.specs.HubStates.Wirings.{handle_in}
use Rattle.iox_hub_laws.specs.LoanRefusal.{LoanRefusal}
use Rattle.iox_hub_laws.specs.LoanRefusal.TheVariants.{CallsSpent, WrongLength, ExceedsMaxLoanSize, ExceedsMaxLoans, WantOfMemory}
use Rattle.iox_hub_laws.specs.Lends.{refusal_of}
use Rattle.iox_hub_laws.specs.Fits.{many_by}
use Rattle.iox_hub_laws.specs.Growing.{GrowsPast}
use Rattle.iox_hub_laws.specs.Hubs.{HasValue, HubState, IsHub, many_in, state_of_hub}
use Rattle.iox_hub_laws.proofs.LendingNamed.{active_of_hub, client_of_hub}
use Rattle.iceoryx2_ports.specs.Copies.{LeavesUnloaned, error_of_test}
use Rattle.iceoryx2_ports.specs.Keeping.{KeepsAsking}
use Rattle.iceoryx2_ports.specs.Loans.{loan_refusal}
use Rattle.iceoryx2_ports.proofs.Staying.{asks_as_before}

pub test_is_told : (r : LoanRefusal) → refusal_of r ≡ loan_refusal (error_of_test r)
test_is_told CallsSpent = refl
test_is_told WrongLength = refl
test_is_told ExceedsMaxLoanSize = refl
test_is_told ExceedsMaxLoans = refl
test_is_told WantOfMemory = refl

pub test_leaves : (old new : HubState) (r : LoanRefusal) → (r ≡ WantOfMemory → ⊥) → new ≡ old → LeavesUnloaned old (error_of_test r) new
test_leaves old new CallsSpent never e = e
test_leaves old new WrongLength never e = e
test_leaves old new ExceedsMaxLoanSize never e = e
test_leaves old new ExceedsMaxLoans never e = e
test_leaves old new WantOfMemory never e = never refl

-- a message of one element does not grow
one_never_grows : (h : HubState) → IsHub h → (role : Role) → many_by (many_in h) role ≡ false → (n : ℕ) (p : PortState) → port_in h.control.tables.ports n ≡ Some p
    → p.role ≡ role → GrowsPast p 1 → ⊥
one_never_grows h hub role one n p there is grows =
    let longest : p.longest ≡ 1 = hub.words.one n p there (ap (many_by (many_in h)) is ∙ one) in
    let past : p.longest < 1 = grows.1 in omega (arith, longest, past)

-- so a copy of one element never wants memory
pub request_never_wants : (h : HubState) → IsHub h → (node n : ℕ) (r : LoanRefusal) → HasValue h node n kinds.Client → h.request.many ≡ false
    → (r ≡ WantOfMemory → (p : PortState) → port_in h.control.tables.ports n ≡ Some p → GrowsPast p 1) → r ≡ WantOfMemory → ⊥
request_never_wants h hub node n r has one grows e =
    let c : IsClient h.control.tables node n = client_of_hub hub h refl node n has in
    one_never_grows h hub Client one n c.port c.there c.client (grows e c.port c.there)

pub response_never_wants : (h : HubState) → IsHub h → (node n : ℕ) (r : LoanRefusal) → HasValue h node n kinds.ActiveRequest → h.response.many ≡ false
    → (r ≡ WantOfMemory → (a : HandleState) (p : PortState) → handle_in h.control.tables.handles node n ≡ Some a → port_in h.control.tables.ports a.port ≡ Some p
    → GrowsPast p 1)
    → r ≡ WantOfMemory → ⊥
response_never_wants h hub node n r has one grows e =
    let a : IsActive h.control.tables node n = active_of_hub hub h refl node n has in
    one_never_grows h hub Server one a.handle.port a.port a.there a.server (grows e a.handle a.port a.named.there a.there)

-- a copy spends nothing
pub copy_asks_as_before : (old new : HubState) (node n : ℕ) (p : Payload) (reply : Reply)
    → ((x : Given) → IsWholeCall (state_of_hub x old) node (SendCopy n p) reply (state_of_hub x new)) → KeepsAsking old new
copy_asks_as_before old new node n p reply whole = asks_as_before old new node (SendCopy n p) reply refl whole
