-- The layout of a plan fits a machine whose ports are the plan's.
use Rattle.std.specs.Option.{option_map_or}
use Rattle.std.specs.Prelude.{if◌then◌else◌}
use Rattle.std.proofs.Common.{◌≡◌, ℕ, ◌+◌, Bool, true, List, [], ◌∷◌, map, refl, ap, ap₂, sym, subst, ◌∙◌, inl, inr, true≢false}
use Rattle.iox_model.specs.declared.kind.Role.{Role}
use Rattle.iox_model.specs.declared.kind.Role.TheVariants.{Client, Server}
use Rattle.iox_model.specs.declared.way.Way.{Way}
use Rattle.iox_model.specs.Maps.{has_number, AreDistinct}
use Rattle.iox_model.specs.Peers.{borrow_limit_on, buffer_on, role_at}
use Rattle.iox_model.specs.Settings.{borrow_limit_of, buffer_of, overflow_of, other_role, same_role}
use Rattle.iox_model.specs.States.{Fixed}
use Rattle.iox_steps.specs.declared.site.QueueKind.TheVariants.{Index, Overflowing}
use Rattle.iox_word_map.specs.WordMaps.{IsWay, ReturningQueue}
use Rattle.iox_word_places.specs.declared.plan.PlanPort.{PlanPort}
use Rattle.iox_word_places.specs.declared.plan.WirePlan.{WirePlan}
use Rattle.iox_word_places.specs.Plans.{IsPlan, layout_of, planned_buffer, planned_limit, planned_overflow, role_of, sizes_of, numbers_of}
use Rattle.iox_word_places.proofs.PortLemmas.{port_named}
use Rattle.iox_wire_moments.specs.Ties.{Suits}
use Rattle.iox_wire_seats.specs.Seats.{ArePorts}
use Rattle.iox_wire_layouts.specs.PlansOf.{AreAsPlanned, IsPlanOf}
use Rattle.iox_wire_layouts.specs.LayoutLaws.{KnownSettingsArePlanned, PlannedLayoutsFit, PlannedQueuesSuit, PlannedReturnsHaveRoom, PlannedSettingsAgree}
use Rattle.iox_wire_layouts.proofs.Planned.{same_found, same_names, same_numbers}

pub planned_layouts_fit : PlannedLayoutsFit
planned_layouts_fit plan p f is of layout = record {
  numbers = subst (λ ks. AreDistinct ks) (sym (same_numbers plan.ports.items f.ports of.ports)) is.numbers;
  clients = ap (λ l. l.sizes.clients) layout ∙ same_names Client plan.ports.items f.ports of.ports;
  servers = ap (λ l. l.sizes.servers) layout ∙ same_names Server plan.ports.items f.ports of.ports;
  owner = λ port there.
      ap (λ l. l.owner port) layout
      ∙ sym (same_found (λ q. q.node) (λ r. r.node) 0 port (λ q r like. like.node) plan.ports.items f.ports of.ports);
  lanes = λ client there.
      ap (λ l. l.sizes.lanes client) layout
      ∙ sym (same_found (λ q. q.pool) (λ r. r.pool) 0 client (λ q r like. like.pool) plan.ports.items f.ports of.ports);
}

module _ (plan : WirePlan) (f : Fixed) (of : IsPlanOf plan f) where
  role_same : (n : ℕ) → role_at f n ≡ role_of plan n
  role_same n = same_found (λ q. q.role) (λ r. r.role) Client n (λ q r like. like.role) plan.ports.items f.ports of.ports

  buffer_same : (y : Way) → planned_buffer plan.limits (role_of plan y.sender) ≡ buffer_on f y
  buffer_same y = of.buffers (role_of plan y.sender) ∙ ap (λ r. buffer_of f.limits r) (sym (role_same y.sender))

  overflow_same : (y : Way) → planned_overflow plan.limits (role_of plan y.sender) ≡ overflow_of f.limits (role_at f y.sender)
  overflow_same y = of.overflows (role_of plan y.sender) ∙ ap (λ r. overflow_of f.limits r) (sym (role_same y.sender))

  pub queues_suit : Suits (layout_of plan) f
  queues_suit = record {
    buffer = λ y way. buffer_same y;
    kind = λ y way. ap (λ (b : Bool). if b then Overflowing else Index) (overflow_same y);
    returning = λ y way. refl;
  }

  module _ (is : IsPlan plan) where
    of_role : (role : Role) (n : ℕ) → has_number n (numbers_of plan role) ≡ true → role_of plan n ≡ role
    of_role role n has =
        let at = port_named (λ q. same_role q.role role) n plan.ports.items is.numbers has in
        ap (λ o. option_map_or (λ (q : PlanPort). q.role) o Client) at.1 ∙ one_role at.0.role role at.2
      where
        one_role : (a b : Role) → same_role a b ≡ true → a ≡ b
        one_role Client Client e = refl
        one_role Server Server e = refl
        one_role Client Server e = absurd (true≢false (sym e))
        one_role Server Client e = absurd (true≢false (sym e))

    -- sender and receiver have different roles
    other_end : (y : Way) → IsWay (sizes_of plan) y → other_role (role_of plan y.receiver) ≡ role_of plan y.sender
    other_end y (inl way) = ap other_role (of_role Server y.receiver way.1) ∙ sym (of_role Client y.sender way.0)
    other_end y (inr way) = ap other_role (of_role Client y.receiver way.2) ∙ sym (of_role Server y.sender way.1)

    borrow_same : (y : Way) → IsWay (sizes_of plan) y → planned_limit plan.limits (role_of plan y.sender) ≡ borrow_limit_on f y
    borrow_same y way =
        of.borrows (role_of plan y.sender)
        ∙ ap (λ r. borrow_limit_of f.limits r) (sym (other_end y way))
        ∙ ap (λ r. borrow_limit_of f.limits (other_role r)) (sym (role_same y.receiver))

    pub returns_have_room : (y : Way) → IsWay (sizes_of plan) y
        → (layout_of plan).capacity (ReturningQueue y) ≡ buffer_on f y + borrow_limit_on f y + 1
    returns_have_room y way = ap₂ (λ a b. a + b + 1) (buffer_same y) (borrow_same y way)

pub planned_queues_suit : PlannedQueuesSuit
planned_queues_suit plan f of = queues_suit plan f of

pub planned_returns_have_room : PlannedReturnsHaveRoom
planned_returns_have_room plan f y is of way = returns_have_room plan f of is y way

-- ---- settings

pub known_settings_are_planned : KnownSettingsArePlanned
known_settings_are_planned plan p x f held of layout knows = record {
  layout = layout;
  is_for = record {
    ports = subst (λ rs. AreAsPlanned plan.ports.items rs) (knows.ports ∙ ap (λ l. map p.port l.sizes.ports) layout) of.ports;
    shapes = rw (← knows.limits) of.shapes;
    buffers = rw (← knows.limits) of.buffers;
    borrows = rw (← knows.limits) of.borrows;
    overflows = rw (← knows.limits) of.overflows;
  };
}

pub planned_settings_agree : PlannedSettingsAgree
planned_settings_agree plan p setting = record { layout = setting.layout; ports = agree plan.ports.items setting.is_for.ports }
  where
    agree : (qs : List PlanPort) → AreAsPlanned qs (map p.port (map (λ q. q.number) qs)) → ArePorts p qs
    agree [] like = tt
    agree (q ∷ qs) like = (like.0.number, like.0.node, agree qs like.1)
