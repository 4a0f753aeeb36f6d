-- How the send of a request begins.
use Rattle.std.proofs.Common.{◌≡◌, ◌==◌, ℕ, Bool, true, false, List, [], ◌∷◌, length, None, refl, ap, ap₂, sym, ◌∙◌}
use Rattle.std.specs.Prelude.{◌&&◌, if◌then◌else◌, filter, nat_le}
use Rattle.iox_model.specs.declared.kind.Kind.TheVariants.{PendingResponse}
use Rattle.iox_model.specs.declared.kind.Role.TheVariants.{Server}
use Rattle.iox_model.specs.Handles.{is_request_loan, same_kind}
use Rattle.iox_model.specs.Peers.{others}
use Rattle.iox_wire_locals.specs.declared.local.CallRefusal.TheVariants.{ExceedsMaxActiveRequests}
use Rattle.iox_wire_locals.specs.declared.local.Ending.TheVariants as endings
use Rattle.iox_wire_locals.specs.declared.local.Local.TheVariants.{SendEnds}
use Rattle.iox_wire_locals.specs.declared.seat.Seat.{Seat}
use Rattle.iox_wire_locals.specs.declared.table.Entry.{Entry}
use Rattle.iox_wire_locals.specs.Courses.{emptying, ended, placed, sends, sends_request, sends_response}
use Rattle.iox_wire_locals.specs.Known.{known}
use Rattle.iox_wire_locals.specs.Tables.{Setting}
use Rattle.iox_wire_loans.proofs.RefusalLemmas.{counted}
use Rattle.iox_wire_request_sends.specs.declared.target.RequestTerms.{RequestTerms}
use Rattle.iox_wire_request_sends.specs.declared.target.Target.{Target}
use Rattle.iox_wire_request_sends.specs.Aims.{IsToldOf}
use Rattle.iox_wire_request_sends.specs.RequestDispatches.{delivery_to}
use Rattle.iox_wire_request_sends.specs.Targets.{servers_of, ways_to}
use Rattle.iox_wire_request_sends.proofs.RoundLemmas.{all_emptied, all_looked, all_opened}

-- how many pending responses a port has
abbrev pub pending_in : ℕ → List Entry → ℕ
pending_in port es = length (filter (λ e. (e.port == port) && same_kind e.kind PendingResponse) es)

pub starts : (p : Setting) (x : Seat) (e : Entry) (copied : Bool) (ts : List Target) (t : RequestTerms) (spent : Bool)
    → is_request_loan e.kind ≡ true → IsToldOf p e t → servers_of ts ≡ others (known p x) x.node Server
    → nat_le t.active (pending_in e.port x.table) ≡ spent
    → sends p x e copied
    ≡ (if spent then ended x (endings.FailsToSend e copied ExceedsMaxActiveRequests) else emptying p x (delivery_to e copied ts) (ways_to e.port ts))
starts p x e copied ts t spent kind told servers is =
    ap (λ (b : Bool). if b then sends_request p x (record { loan = e; copied = copied; to = others (known p x) x.node Server })
    else sends_response p x (record { loan = e; copied = copied; to = e.client ∷ [] })) kind
    ∙ ap (λ (to : List ℕ). sends_request p x (record { loan = e; copied = copied; to = to })) (sym servers)
    ∙ ap (λ (b : Bool). if b then ended x (endings.FailsToSend e copied ExceedsMaxActiveRequests) else emptying p x (delivery_to e copied ts) (ways_to e.port ts))
    (ap₂ nat_le told.active (counted p x.node e.port (λ h. same_kind h.kind PendingResponse) x.table) ∙ is)

pub nobody : (p : Setting) (x : Seat) (e : Entry) (copied : Bool) (t : RequestTerms) (overflow : Bool) → is_request_loan e.kind ≡ true → IsToldOf p e t
    → t.overflow ≡ overflow → emptying p x (delivery_to e copied []) [] ≡ placed x (SendEnds (delivery_to e copied []) None 0)
nobody p x e copied t true kind told is =
    all_emptied p x e copied [] t true kind told is ∙ all_opened p x e copied [] [] kind
nobody p x e copied t false kind told is =
    all_emptied p x e copied [] t false kind told is ∙ all_looked p x e copied [] [] false kind refl ∙ all_opened p x e copied [] [] kind
