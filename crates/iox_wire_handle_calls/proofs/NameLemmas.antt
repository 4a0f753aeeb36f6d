-- What a number names, a handle or a port, and what a call of it is then answered.
use Rattle.std.specs.Prelude.{find, not, option_map}
use Rattle.std.specs.Option.{option_map_or}
use Rattle.std.proofs.Common.{◌≡◌, ℕ, ◌<◌, length, get_or, Bool, true, false, if◌then◌else◌, ◌==◌, List, [], ◌∷◌, map, Option, Some, None, refl, ap, ap₂, sym, ◌∙◌, true≢false, eq-eqb, eqb-true}
use Rattle.iox_model.specs.declared.call.WireCall.TheVariants as wire_calls
use Rattle.iox_model.specs.declared.reply.Refusal.TheVariants as refusals
use Rattle.iox_model.specs.Commands.{Call, Payload, Refusal, number_of}
use Rattle.iox_model.specs.declared.kind.Kind.TheVariants as kinds
use Rattle.iox_model.specs.Handles.{ThePort, handle_at, port_or_handle, subject}
use Rattle.iox_model.specs.Maps.{or_else, refused_if}
use Rattle.iox_model.specs.Names.{misnamed, misnamed_by, suits}
use Rattle.iox_model.specs.Peers.{port_at}
use Rattle.iox_model.specs.declared.kind.Role.{Role}
use Rattle.iox_model.specs.declared.kind.Role.TheVariants.{Client, Server}
use Rattle.iox_model.specs.Settings.{is_client}
use Rattle.iox_model.specs.States.{Port}
use Rattle.iox_wire_stops.specs.Programs.{WireLayout}
use Rattle.iox_wire_stops.specs.PlanPort.{PlanPort}
use Rattle.iox_wire_stops.specs.WirePlan.{WirePlan}
use Rattle.iox_wire_stops.specs.Plans.{IsPlan, layout_of, number_at, port_of}
use Rattle.iox_wire_stops.proofs.PlanLemmas.{number_is, port_is}
use Rattle.iox_wire_stops.proofs.Planned.{each_planned}
use Rattle.iox_wire_stops.specs.PlansOf.{AreAsPlanned, IsAsPlanned, IsSettingOf}
use Rattle.iox_wire_stops.specs.Entry.{Entry}
use Rattle.iox_wire_stops.specs.Seat.{Seat}
use Rattle.iox_wire_stops.specs.Begins.{begin, begins_at, begins_at_entry, begins_at_port, is_busy, refusal_at}
use Rattle.iox_wire_stops.specs.Known.{known, told_handle}
use Rattle.iox_wire_stops.specs.Tables.{Setting, entry_at}
use Rattle.iox_wire_stops.proofs.Lookups.{find_map}
use Rattle.iox_wire_handle_calls.specs.declared.asked.Asked.{Asked}
use Rattle.iox_wire_handle_calls.specs.declared.asked.Asked.TheVariants as asked
use Rattle.iox_wire_handle_calls.specs.HandleCalls.{call_of, port_kind}

-- ---- no port has the number

none_found : (n : ℕ) (qs : List PlanPort) (rs : List Port) → AreAsPlanned qs rs
    → find (λ q. q.number == n) qs ≡ None → find (λ r. r.number == n) rs ≡ None
none_found n [] [] like none = refl
none_found n [] (r ∷ rs) like none = absurd like
none_found n (q ∷ qs) [] like none = absurd like
none_found n (q ∷ qs) (r ∷ rs) like none =
    by_case (q.number == n) (r.number == n) (ap (λ k. k == n) like.0.number) none (none_found n qs rs like.1)
  where
    by_case : (a b : Bool) → b ≡ a → (if a then Some q else find (λ q. q.number == n) qs) ≡ None
        → (find (λ q. q.number == n) qs ≡ None → find (λ r. r.number == n) rs ≡ None)
        → (if b then Some r else find (λ r. r.number == n) rs) ≡ None
    by_case false false same none rest = rest none
    by_case true false same none rest = absurd (true≢false (sym same))
    by_case false true same none rest = absurd (true≢false same)
    by_case true true same none rest = absurd (true≢false (ap (λ (o : Option PlanPort). option_map_or (λ q. true) o false) none))

pub no_port : (plan : WirePlan) (p : Setting) (x : Seat) (n : ℕ) → IsSettingOf plan p → port_of plan n ≡ None
    → port_at (known p x) n ≡ None
no_port plan p x n setting none =
    ap (λ (l : WireLayout). find (λ (r : Port). r.number == n) (map p.port l.sizes.ports)) setting.layout
    ∙ none_found n plan.ports.items (map p.port (layout_of plan).sizes.ports) setting.is_for.ports none

-- ---- a call of it

asked_number : (a : Asked) (n : ℕ) (y : Payload) → number_of (call_of a n y) ≡ n
asked_number (asked.Loan k) n y = refl
asked_number (asked.LoanUninit k) n y = refl
asked_number (asked.SendCopy role) n y = refl
asked_number (asked.Write role) n y = refl
asked_number asked.Send n y = refl
asked_number asked.Receive n y = refl
asked_number asked.Read n y = refl
asked_number asked.Release n y = refl
asked_number asked.IsConnected n y = refl
asked_number asked.SetHint n y = refl
asked_number asked.HasHint n y = refl
asked_number asked.HasRequests n y = refl
asked_number asked.HasResponse n y = refl

module _ (plan : WirePlan) (p : Setting) (x : Seat) (a : Asked) (n : ℕ) (y : Payload) (setting : IsSettingOf plan p) (none : port_of plan n ≡ None) where
  abbrev call : Call
  call = call_of a n y

  none_there : port_at (known p x) (number_of (call_of a n y)) ≡ None
  none_there = ap (λ k. port_at (known p x) k) (asked_number a n y) ∙ no_port plan p x n setting none

  -- why it is misnamed, by the entry of that number
  misnamed_is : (e : Option Entry) → entry_at n x.table ≡ e
      → misnamed (known p x) x.node (call_of a n y)
      ≡ misnamed_by (known p x) x.node (call_of a n y) (port_or_handle None (option_map (told_handle p x.node) e))
  misnamed_is e there =
      ap₂ (λ o h. misnamed_by (known p x) x.node (call_of a n y) (port_or_handle o h)) none_there
      (find_map (told_handle p x.node) (λ e. refl) (number_of (call_of a n y)) x.table
      ∙ ap (λ k. option_map (told_handle p x.node) (entry_at k x.table)) (asked_number a n y)
      ∙ ap (λ o. option_map (told_handle p x.node) o) there)

  refusal_is : (r : Option Refusal) → is_busy x.local ≡ false → misnamed (known p x) x.node (call_of a n y) ≡ r
      → refusal_at p x (wire_calls.Port (call_of a n y)) ≡ r
  refusal_is r rests is =
      ap (λ (b : Bool). or_else (refused_if b refusals.Busy) (misnamed (known p x) x.node (call_of a n y))) rests ∙ is

  pub busy : is_busy x.local ≡ true → refusal_at p x (wire_calls.Port (call_of a n y)) ≡ Some refusals.Busy
  busy is = ap (λ (b : Bool). or_else (refused_if b refusals.Busy) (misnamed (known p x) x.node (call_of a n y))) is

  pub unknown : is_busy x.local ≡ false → entry_at n x.table ≡ None
      → refusal_at p x (wire_calls.Port (call_of a n y)) ≡ Some refusals.UnknownNumber
  unknown rests there = refusal_is (Some refusals.UnknownNumber) rests (misnamed_is None there)

  of_entry : (e : Entry) → entry_at n x.table ≡ Some e
      → misnamed (known p x) x.node (call_of a n y) ≡ refused_if (not (suits true (call_of a n y) e.kind)) refusals.WrongKind
  of_entry e there =
      misnamed_is (Some e) there
      ∙ ap (λ (b : Bool). or_else (refused_if (not b) refusals.ForeignNumber)
      (refused_if (not (suits true (call_of a n y) e.kind)) refusals.WrongKind)) (eq-eqb x.node x.node refl)

  pub of_kind : (e : Entry) (b : Bool) → is_busy x.local ≡ false → entry_at n x.table ≡ Some e → b ≡ suits true (call_of a n y) e.kind
      → refusal_at p x (wire_calls.Port (call_of a n y)) ≡ refused_if (not b) refusals.WrongKind
  of_kind e b rests there is =
      refusal_is (refused_if (not b) refusals.WrongKind) rests
      (of_entry e there ∙ ap (λ (c : Bool). refused_if (not c) refusals.WrongKind) (sym is))

  pub begins_so : (e : Entry) → entry_at n x.table ≡ Some e
      → begin p x (wire_calls.Port (call_of a n y)) ≡ begins_at_entry p x (call_of a n y) e
  begins_so e there =
      ap₂ (λ o h. begins_at p x (call_of a n y) o h) none_there
      (ap (λ k. entry_at k x.table) (asked_number a n y) ∙ there)

-- ---- a port has the number

module _ (plan : WirePlan) (p : Setting) (setting : IsSettingOf plan p) (n : ℕ) where
  found_port : (qs : List PlanPort) (o : Option PlanPort) → AreAsPlanned qs (map p.port (map (λ q. q.number) qs)) → option_map_or (λ q. true) o false ≡ true
      → find (λ q. q.number == n) qs ≡ o → find (λ (r : Port). r.number == n) (map p.port (map (λ q. q.number) qs)) ≡ Some (p.port n)
  found_port [] o like some is = absurd (true≢false (sym (ap (λ (a : Option PlanPort). option_map_or (λ q. true) a false) is ∙ some)))
  found_port (q ∷ qs) o like some is =
      by_case (q.number == n) ((p.port q.number).number == n) refl (ap (λ k. k == n) like.0.number) is (found_port qs o like.1 some)
    where
      by_case : (a b : Bool) → (q.number == n) ≡ a → b ≡ a → (if a then Some q else find (λ q. q.number == n) qs) ≡ o
          → (find (λ q. q.number == n) qs ≡ o → find (λ (r : Port). r.number == n) (map p.port (map (λ q. q.number) qs)) ≡ Some (p.port n))
          → (if b then Some (p.port q.number) else find (λ (r : Port). r.number == n) (map p.port (map (λ q. q.number) qs))) ≡ Some (p.port n)
      by_case true true here same found rest = ap (λ k. Some (p.port k)) (eqb-true q.number n here)
      by_case false false here same found rest = rest found
      by_case true false here same found rest = absurd (true≢false (sym same))
      by_case false true here same found rest = absurd (true≢false same)

  pub port_named : (x : Seat) (q : PlanPort) → port_of plan n ≡ Some q → port_at (known p x) n ≡ Some (p.port n)
  port_named x q there =
      ap (λ (l : WireLayout). find (λ (r : Port). r.number == n) (map p.port l.sizes.ports)) setting.layout
      ∙ found_port plan.ports.items (Some q) setting.is_for.ports refl there

  module _ (x : Seat) (a : Asked) (y : Payload) (q : PlanPort) (there : port_of plan n ≡ Some q) where
    pub port_begins : begin p x (wire_calls.Port (call_of a n y)) ≡ begins_at_port p x (call_of a n y) (p.port n)
    port_begins =
        ap (λ k. begins_at p x (call_of a n y) (port_at (known p x) k) (entry_at k x.table)) (asked_number a n y)
        ∙ ap (λ o. begins_at p x (call_of a n y) o (entry_at n x.table)) (port_named x q there)

    -- why it is misnamed, if the port's own value is there
    misnamed_port : (p.port n).held ≡ true → misnamed (known p x) x.node (call_of a n y)
        ≡ or_else (refused_if (not ((p.port n).node == x.node)) refusals.ForeignNumber)
        (refused_if (not (suits true (call_of a n y) (if is_client (p.port n).role then kinds.Client else kinds.Server))) refusals.WrongKind)
    misnamed_port held =
        ap (λ k. misnamed_by (known p x) x.node (call_of a n y) (subject (known p x) x.node k)) (asked_number a n y)
        ∙ ap (λ o. misnamed_by (known p x) x.node (call_of a n y) (port_or_handle o (handle_at (known p x) x.node n))) (port_named x q there)
        ∙ ap (λ (b : Bool). misnamed_by (known p x) x.node (call_of a n y) (if b then Some (ThePort (p.port n)) else None)) held

    pub port_busy : is_busy x.local ≡ true → refusal_at p x (wire_calls.Port (call_of a n y)) ≡ Some refusals.Busy
    port_busy is = ap (λ (b : Bool). or_else (refused_if b refusals.Busy) (misnamed (known p x) x.node (call_of a n y))) is

    kind_there : (r : Role) → suits true (call_of a n y) (if is_client r then kinds.Client else kinds.Server) ≡ suits true (call_of a n y) (port_kind r)
    kind_there Client = refl
    kind_there Server = refl

    pub port_refusal : (own fits : Bool) → is_busy x.local ≡ false → (p.port n).held ≡ true → ((p.port n).node == x.node) ≡ own
        → suits true (call_of a n y) (port_kind (p.port n).role) ≡ fits
        → refusal_at p x (wire_calls.Port (call_of a n y)) ≡ or_else (refused_if (not own) refusals.ForeignNumber) (refused_if (not fits) refusals.WrongKind)
    port_refusal own fits rests held same is =
        ap (λ (b : Bool). or_else (refused_if b refusals.Busy) (misnamed (known p x) x.node (call_of a n y))) rests
        ∙ misnamed_port held
        ∙ ap₂ (λ (b c : Bool). or_else (refused_if (not b) refusals.ForeignNumber) (refused_if (not c) refusals.WrongKind)) same (kind_there (p.port n).role ∙ is)

-- ---- the port at an index

-- The port there, as the plan and the setting have it.
pub record PortThere (plan : WirePlan) (p : Setting) (n : ℕ) (q : PlanPort) : Type 0 where
  pub found : port_of plan n ≡ Some q
  pub node : (p.port n).node ≡ q.node
  pub role : (p.port n).role ≡ q.role

pub found_there : (plan : WirePlan) → IsPlan plan → (i n : ℕ) (q : PlanPort) → i < length plan.ports.items → number_at plan i ≡ n → q ≡ get_or plan.ports.items i q
    → port_of plan n ≡ Some q
found_there plan is i n q low number same =
    ap (port_of plan) (sym number) ∙ port_is plan is.numbers i q low ∙ ap (λ (r : PlanPort). Some r) (sym same)

pub port_there : (plan : WirePlan) → IsPlan plan → (p : Setting) → IsSettingOf plan p → (i n : ℕ) (q : PlanPort) → i < length plan.ports.items → number_at plan i ≡ n
    → q ≡ get_or plan.ports.items i q → PortThere plan p n q
port_there plan is p setting i n q low number same =
    let planned : IsAsPlanned (get_or plan.ports.items i q) (p.port (get_or plan.ports.items i q).number) = each_planned p.port plan.ports.items setting.is_for.ports i q low in
    let there : (get_or plan.ports.items i q).number ≡ n = sym (number_is plan is.numbers i q low) ∙ number in
    record {
      found = found_there plan is i n q low number same;
      node = ap (λ k. (p.port k).node) (sym there) ∙ planned.node ∙ ap (λ (r : PlanPort). r.node) (sym same);
      role = ap (λ k. (p.port k).role) (sym there) ∙ planned.role ∙ ap (λ (r : PlanPort). r.role) (sym same);
    }
