-- What the terms of a wire tell of a port, as its nodes know it.
use Rattle.std.proofs.Common.{◌≡◌, ℕ, ◌<◌, true, false, List, length, get_or, Some, ap, sym, subst, ◌∙◌}
use Rattle.std.specs.Prelude.{Option, IsSomeAnd, slice_get}
use Rattle.std.specs.Option.{option_map_or}
use Rattle.std.proofs.lemmas.Option.{slice_get-get_or}
use Rattle.iox_model.specs.declared.backpressure.BackpressureAction.TheVariants.{FollowBackpressureStrategy}
use Rattle.iox_model.specs.declared.kind.Role.{Role}
use Rattle.iox_model.specs.declared.kind.Role.TheVariants.{Client, Server}
use Rattle.iox_model.specs.declared.way.Way.{Way}
use Rattle.iox_model.specs.Peers.{port_at, role_at}
use Rattle.iox_model.specs.Requests.{fails_at, port_fails}
use Rattle.iox_model.specs.Settings.{fails_by, fails_by_strategy, overflow_of}
use Rattle.iox_model.specs.States.{Port}
use Rattle.iox_wire_handle_calls.specs.PlanPort.{PlanPort}
use Rattle.iox_wire_handle_calls.specs.WirePlan.{WirePlan}
use Rattle.iox_wire_handle_calls.specs.Plans.{IsLaneAt, IsPlan, IsPortAt, IsSlotAt, number_at}
use Rattle.iox_wire_handle_calls.proofs.PairLemmas.{index_there, one_of}
use Rattle.iox_wire_handle_calls.proofs.PlanLemmas.{port_is}
use Rattle.iox_wire_handle_calls.proofs.NameLemmas.{port_named}
use Rattle.iox_wire_lenders.specs.declared.terms.PortTerms.{PortTerms}
use Rattle.iox_wire_lenders.specs.declared.terms.WireTerms.{WireTerms}
use Rattle.iox_wire_lenders.specs.Terms.{FitsPlan, IsPortWith, IsSettingWith, IsWholePort}
use Rattle.iox_model.specs.Peers.{others}
use Rattle.iox_wire_handle_calls.specs.CopyCalls.{KnowsServers}
use Rattle.iox_wire_handle_calls.specs.RequestTerms.{RequestTerms}
use Rattle.iox_wire_handle_calls.specs.Target.{Target}
use Rattle.iox_wire_handle_calls.specs.Aims.{IsToldOf}
use Rattle.iox_wire_handle_calls.specs.RequestDispatches.{RequestDispatch}
use Rattle.iox_wire_handle_calls.specs.Targets.{AreTargets, servers_of}
use Rattle.iox_wire_handle_calls.specs.RequestTargets.{KeepsTerms}
use Rattle.iox_wire_handle_calls.specs.Entry.{Entry}
use Rattle.iox_wire_handle_calls.specs.Seat.{Seat}
use Rattle.iox_wire_handle_calls.specs.Known.{known}
use Rattle.iox_wire_handle_calls.specs.Tables.{Setting, port_shape}
use Rattle.iox_wire_handle_calls.specs.PlannedSlots.{HasHeader, role_there}
use Rattle.iox_wire_handle_calls.specs.Visits.{pool_of}
use Rattle.iox_wire_handle_calls.proofs.HeaderLemmas.{role_planned}
use Rattle.iox_wire_begins.specs.WirePlans.{IsWirePlan}

-- ---- terms of a port

-- a port that is told stands there
pub told_below : (plan : WirePlan) (t : WireTerms) → FitsPlan plan t → (i : ℕ) → i < length plan.ports.items → i < length t.ports.items
told_below plan t fits i low = index_there PortTerms (IsWholePort plan t) t.ports.items i (fits.ports i low)

pub told_there : (plan : WirePlan) (t : WireTerms) → FitsPlan plan t → (i : ℕ) → i < length plan.ports.items → (own : PortTerms)
    → own ≡ get_or t.ports.items i own → slice_get t.ports.items i ≡ Some own
told_there plan t fits i low own same =
    slice_get-get_or t.ports.items i own (told_below plan t fits i low) ∙ ap (λ (r : PortTerms). Some r) (sym same)

module _ (plan : WirePlan) (is : IsPlan plan) (t : WireTerms) (p : Setting) (with : IsSettingWith plan t p) (i : ℕ) (low : i < length plan.ports.items) where
  pub port_known : (x : Seat) → port_at (known p x) (number_at plan i) ≡ Some (p.port (number_at plan i))
  port_known x = port_named plan p with.setting (number_at plan i) x (get_or plan.ports.items i (one_of plan.ports.items i low)) (port_is plan is.numbers i (one_of plan.ports.items i low) low)

  module _ (own : PortTerms) (told : slice_get t.ports.items i ≡ Some own) where
    port_with : IsPortWith (p.port (number_at plan i)) (port_shape p (number_at plan i)) own
    port_with =
        subst (λ (o : Option PortTerms). IsSomeAnd o (IsPortWith (p.port (number_at plan i)) (port_shape p (number_at plan i)))) told (with.ports i low)

    pub is_held : (p.port (number_at plan i)).held ≡ true
    is_held = port_with.held

    pub fails_is : (x : Seat) (w : Way) → w.sender ≡ number_at plan i → fails_at (known p x) w ≡ own.fails
    fails_is x w sender =
        ap (λ n. option_map_or (λ q. port_fails (known p x) q w) (port_at (known p x) n) false) sender
        ∙ ap (λ (o : Option Port). option_map_or (λ q. port_fails (known p x) q w) o false) (port_known x)
        ∙ ap (λ h. option_map_or (λ words. fails_by FollowBackpressureStrategy (p.port (number_at plan i)).strategy) h (fails_by_strategy (p.port (number_at plan i)).strategy)) port_with.handler
        ∙ port_with.fails

-- ---- a client

module _ (plan : WirePlan) (is : IsPlan plan) (t : WireTerms) (p : Setting) (with : IsSettingWith plan t p) (i : ℕ) (low : i < length plan.ports.items) (at : IsPortAt plan Client i) where
  pub overflow_is : (x : Seat) (n : ℕ) → n ≡ number_at plan i → overflow_of p.limits (role_at (known p x) n) ≡ plan.limits.request_overflow
  overflow_is x n same =
      ap (λ k. overflow_of p.limits (role_at (known p x) k)) same
      ∙ ap (λ (o : Option Port). overflow_of p.limits (option_map_or (λ q. q.role) o Client)) (port_known plan is t p with i low x)
      ∙ ap (overflow_of p.limits) (role_planned plan is Client i at p with.setting)
      ∙ sym (with.setting.is_for.overflows Client)

  pub active_is : p.limits.active_requests ≡ plan.limits.active_requests
  active_is = sym (with.setting.is_for.buffers Client)

-- ---- a port of the plan

pub port_below : (plan : WirePlan) (role : Role) (i : ℕ) → IsPortAt plan role i → i < length plan.ports.items
port_below plan role i at = index_there PlanPort (λ q. q.role ≡ role) plan.ports.items i at

pub has_slot : (plan : WirePlan) (t : WireTerms) → IsWirePlan plan t → (role : Role) (i : ℕ) → IsPortAt plan role i → IsSlotAt plan i 0
has_slot plan t is role i at = is.slots i (port_below plan role i at)

pub has_header : (plan : WirePlan) (t : WireTerms) → IsWirePlan plan t → (i : ℕ) → HasHeader plan i
has_header plan t is i = is.headers (role_there plan i)

-- a client has the lanes that are below its pool
pub has_lane : (plan : WirePlan) → IsPlan plan → (i lane : ℕ) → IsPortAt plan Client i → lane < pool_of plan (number_at plan i) → IsLaneAt plan i lane
has_lane plan is i lane at below =
    let low : i < length plan.ports.items = port_below plan Client i at in
    let d : PlanPort = one_of plan.ports.items i low in
    let there : slice_get plan.ports.items i ≡ Some (get_or plan.ports.items i d) = slice_get-get_or plan.ports.items i d low in
    subst (λ (o : Option PlanPort). IsSomeAnd o (λ q. (q.role ≡ Client) × (lane < q.pool))) (sym there) (
      subst (λ (o : Option PlanPort). IsSomeAnd o (λ q. q.role ≡ Client)) there at,
      subst (λ (o : Option PlanPort). lane < option_map_or (λ q. q.pool) o 0) (port_is plan is.numbers i d low) below,
    )

-- ---- what a send is told

pub told_alike : (p : Setting) (loan : Entry) (s t : RequestTerms) → KeepsTerms s t → IsToldOf p loan s → IsToldOf p loan t
told_alike p loan s t keeps told = record {
  overflow = λ x. told.overflow x ∙ sym keeps.overflow;
  fails = λ x server. told.fails x server ∙ sym keeps.fails;
  active = told.active ∙ sym keeps.active;
}

pub knows_servers : (p : Setting) (x : Seat) (port lane : ℕ) (r : RequestDispatch) (t : RequestTerms) (ts : List Target) → r.terms ≡ t → r.targets ≡ ts
    → ((loan : Entry) → loan.port ≡ port → IsToldOf p loan t)
    → ((loan : Entry) → loan.port ≡ port → loan.lane ≡ lane → AreTargets p t loan ts)
    → servers_of ts ≡ others (known p x) x.node Server → KnowsServers p x port lane r
knows_servers p x port lane r t ts terms targets told are servers = record {
  told = λ loan at. subst (λ (u : RequestTerms). IsToldOf p loan u) (sym terms) (told loan at);
  targets = λ loan at on.
      subst (λ (u : RequestTerms). AreTargets p u loan r.targets) (sym terms)
      (subst (λ (us : List Target). AreTargets p t loan us) (sym targets) (are loan at on));
  servers = ap servers_of targets ∙ servers;
}
