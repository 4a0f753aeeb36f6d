-- A wire with reduced pools and wide messages may open on a worked service.
use Rattle.std.specs.Prelude.{if◌then◌else◌, IsSomeAnd, slice_get, slice_index}
use Rattle.std.proofs.Common.{◌≡◌, ℕ, zero, suc, length, ◌*◌, ◌<◌, ◌≤◌, Bool, true, false, ◌==◌, List, [], ◌∷◌, map, Some, None, refl, ap, sym, subst, ◌∙◌, arith, get_or}
use Rattle.std.proofs.lemmas.List.Elements.{All-nil, All-cons, All-same}
use Rattle.iox_model.specs.declared.kind.Role.{Role}
use Rattle.iox_model.specs.declared.kind.Role.TheVariants.{Client, Server}
use Rattle.iox_model.specs.declared.reply.Refusal.TheVariants.{UnknownNode}
use Rattle.iox_model.specs.Commands.{Command, Options}
use Rattle.iox_model.specs.declared.command.PortCommand.TheVariants as asks
use Rattle.iox_model.specs.declared.command.Command.TheVariants as commands
use Rattle.iox_model.specs.Defaults.{follow}
use Rattle.iox_model.specs.Joins.{not_living}
use Rattle.iox_model.specs.Maps.{AreDistinct, has_number}
use Rattle.iox_model.specs.Runs.{IsReachableState, IsRun}
use Rattle.iox_model.specs.Settings.{Limits, Shape, borrow_limit_of, buffer_of, has_layout, overflow_of, shape_of}
use Rattle.iox_model.specs.States.{Port, State}
use Rattle.iox_model.specs.WireCalls.{wire_refusal}
use Rattle.iox_laws.specs.WorkedExamples.EvictionWeaves.{ones}
use Rattle.iox_laws.specs.WorkedExamples.Examples.{is_set_up, of_length_one, process, service}
use Rattle.iox_laws.proofs.WeaveLaws.PlayedRuns.{is_run_to, state_by}
use Rattle.iox_types.specs.declared.backpressure.BackpressureStrategy.TheVariants.{DiscardData}
use Rattle.iox_types.specs.declared.message_type_details.MessageTypeDetails.{MessageTypeDetails}
use Rattle.iox_types.specs.Layouts.{message_size}
use Rattle.iox_word_map.specs.MessageWords.{IsInWords}
use Rattle.iox_word_places.specs.declared.plan.PlanLimits.{PlanLimits}
use Rattle.iox_word_places.specs.declared.plan.PlanPort.{PlanPort}
use Rattle.iox_word_places.specs.declared.plan.WirePlan.{WirePlan}
use Rattle.iox_word_places.specs.Plans.{HasSlots, IsPlan, details_of, layout_of, planned_buffer, planned_limit, planned_overflow, port_numbers}
use Rattle.iox_wire_layouts.specs.PlansOf.{AreAsPlanned, IsPlanFor, IsShapeOf}
use Rattle.iox_wire_lenders.specs.Terms.{IsPortWith, IsSettingWith, IsWholePort, messages_of}
use Rattle.iox_wire_lenders.specs.declared.terms.PortTerms.{PortTerms}
use Rattle.iox_wire_lenders.specs.declared.terms.WireTerms.{WireTerms}
use Rattle.iox_wire_locals.specs.Tables.{Setting, port_shape}
use Rattle.iox_wire_locals.specs.WorkedWires.{port_of_ones}
use Rattle.iox_wire.specs.Wires.{AreWhole, WireOpensOn}
use Rattle.iox_rows_whole_wire.specs.Wide.{AreWidePorts, AreWideTerms, IsWide, IsWidePlan, IsWidePort, wide_buffer, wide_client, wide_limits, wide_server}
use Rattle.iox_rows_whole_wire.proofs.OpensOnOnes.{steps_of}

-- ---- the plan

whole_request : (details : MessageTypeDetails) → IsWide details 56 8 8 32 → IsInWords details
whole_request details o = record {
  aligned = record { header = (3, o.header_alignment); user_header = (3, o.user_alignment); payload = (5, o.payload_alignment) };
  header = (7, o.header_size);
  user_header = (1, o.user_size);
  payload = (2, o.payload_size);
}

whole_response : (details : MessageTypeDetails) → IsWide details 48 16 32 16 → IsInWords details
whole_response details o = record {
  aligned = record { header = (3, o.header_alignment); user_header = (5, o.user_alignment); payload = (4, o.payload_alignment) };
  header = (6, o.header_size);
  user_header = (2, o.user_size);
  payload = (2, o.payload_size);
}

fifteen : (details : MessageTypeDetails) → IsWide details 56 8 8 32 → message_size details 1 ≡ 120
fifteen details o = rw (o.header_size, o.header_alignment, o.user_size, o.user_alignment, o.payload_size, o.payload_alignment) refl

sixteen : (details : MessageTypeDetails) → IsWide details 48 16 32 16 → message_size details 1 ≡ 128
sixteen details o = rw (o.header_size, o.header_alignment, o.user_size, o.user_alignment, o.payload_size, o.payload_alignment) refl

-- ---- the service

abbrev requests_here : Shape
requests_here = record {
  many = true;
  width = 2;
  default = Some (0 ∷ 0 ∷ []);
  user = 5 ∷ [];
  header_part = record { size = 56; alignment = 8 };
  user_part = record { size = 8; alignment = 8 };
  element_part = record { size = 16; alignment = 32 };
}

abbrev responses_here : Shape
responses_here = record {
  many = true;
  width = 2;
  default = Some (0 ∷ 0 ∷ []);
  user = 6 ∷ 7 ∷ [];
  header_part = record { size = 48; alignment = 8 };
  user_part = record { size = 16; alignment = 32 };
  element_part = record { size = 16; alignment = 16 };
}

abbrev limits_here : Bool → Limits
limits_here huge =
    record ones { response_buffer = wide_buffer huge; request_overflow = false; response_overflow = false; fire_and_forget = true; request = requests_here; response = responses_here }

-- each port has two slots, and drops what a full receiver has no room for
abbrev options : Options
options = record of_length_one { pool = Some 2; strategy = Some DiscardData }

abbrev made : List Command
made = commands.Join (process 2) None ∷ commands.Port (asks.Client 0 (process 0) options) ∷ commands.Port (asks.Server 1 (process 0) options) ∷ []

abbrev state_here : Bool → State
state_here huge = state_by (service (limits_here huge)) made []

run_here : (huge : Bool) → IsRun (service (limits_here huge)) made (is_set_up []) (state_here huge)
run_here true = is_run_to (service (limits_here true)) made (is_set_up []) [] refl refl
run_here false = is_run_to (service (limits_here false)) made (is_set_up []) [] refl refl

reached_here : (huge : Bool) → IsReachableState (state_here huge)
reached_here huge =
    let h = steps_of (service (limits_here huge)) (state_here huge) made (is_set_up []) (run_here huge) in
    record {
      limits = limits_here huge;
      acts = follow;
      id = process 1;
      request = record { default = refl; header = (3, refl); user = (3, refl); element = (5, refl) };
      response = record { default = refl; header = (3, refl); user = (5, refl); element = (4, refl) };
      steps = h.0;
      history = h.1;
    }

lives : (huge : Bool) (n : ℕ) → not_living (state_here huge) n ≡ (if has_number n (0 ∷ 1 ∷ []) then None else Some UnknownNode)
lives huge n = by_case huge (0 == n) (1 == n) refl refl
  where
    by_case : (h a b : Bool) → (0 == n) ≡ a → (1 == n) ≡ b → not_living (state_here h) n ≡ (if has_number n (0 ∷ 1 ∷ []) then None else Some UnknownNode)
    by_case true true b is other = rw is refl
    by_case true false true is other = rw (is, other) refl
    by_case true false false is other = rw (is, other) refl
    by_case false true b is other = rw is refl
    by_case false false true is other = rw (is, other) refl
    by_case false false false is other = rw (is, other) refl

-- what the service has then
abbrev first_port : Port
first_port = get_or (state_here false).fixed.ports 0 (port_of_ones 0 Client 2)

abbrev second_port : Port
second_port = get_or (state_here false).fixed.ports 1 (port_of_ones 1 Server 2)

ports_are : (huge : Bool) → (state_here huge).fixed.ports ≡ first_port ∷ second_port ∷ []
ports_are true = refl
ports_are false = refl

limits_are : (huge : Bool) → (state_here huge).fixed.limits ≡ limits_here huge
limits_are true = refl
limits_are false = refl

next_is : (huge : Bool) → (state_here huge).fixed.next_number ≡ 2
next_is true = refl
next_is false = refl

allowed_here : (huge : Bool) → wire_refusal (state_here huge) 0 true ≡ None
allowed_here true = refl
allowed_here false = refl

pub is_plan : (huge : Bool) (plan : WirePlan) → IsWidePlan huge plan → IsPlan plan
is_plan huge plan is =
    let P : List PlanPort → Type 0 = λ ps. AreDistinct (map (λ p. p.number) ps) in
    record {
      numbers = subst P (sym is.ports) (refl, (refl, tt));
      requests = whole_request plan.request is.request;
      responses = whole_response plan.response is.response;
      slots = All-same (HasSlots plan) plan.ports.items (wide_client ∷ wide_server ∷ []) is.ports
          (All-cons (HasSlots plan) wide_client (wide_server ∷ []) (fifteen plan.request is.request)
          (All-cons (HasSlots plan) wide_server [] (sixteen plan.response is.response) (All-nil (HasSlots plan))));
    }

module _ (huge : Bool) (plan : WirePlan) (terms : WireTerms) (is : IsWidePlan huge plan) (are : AreWideTerms terms) where
  abbrev p : Setting
  p = record {
    layout = layout_of plan;
    limits = limits_here huge;
    port = λ n. if n == 0 then first_port else second_port;
    next_number = 2;
  }

  numbers_are : port_numbers plan ≡ 0 ∷ 1 ∷ []
  numbers_are = ap (map (λ (q : PlanPort). q.number)) is.ports

  -- the parts of a message are those of the service
  shaped : (role : Role) → IsShapeOf (details_of plan role) role (shape_of (limits_here huge) role)
  shaped Client = record {
    header_part = rw (is.request.header_size, is.request.header_alignment) refl;
    user_part = rw (is.request.user_size, is.request.user_alignment) refl;
    element_part = rw (is.request.payload_size, is.request.payload_alignment) refl;
    header = is.request.header_size;
    user = is.request.user_size;
    element = is.request.payload_size;
  }
  shaped Server = record {
    header_part = rw (is.response.header_size, is.response.header_alignment) refl;
    user_part = rw (is.response.user_size, is.response.user_alignment) refl;
    element_part = rw (is.response.payload_size, is.response.payload_alignment) refl;
    header = is.response.header_size;
    user = is.response.user_size;
    element = is.response.payload_size;
  }

  as_planned : AreAsPlanned plan.ports.items (first_port ∷ second_port ∷ [])
  as_planned =
      subst (λ qs. AreAsPlanned qs (first_port ∷ second_port ∷ [])) (sym is.ports) (
        record { number = refl; node = refl; role = refl; pool = refl; longest = refl },
        (record { number = refl; node = refl; role = refl; pool = refl; longest = refl }, tt),
      )

  unhandled : (b : Bool) → (if b then first_port else second_port).handler ≡ None
  unhandled true = refl
  unhandled false = refl

  buffers : (role : Role) → planned_buffer (wide_limits huge) role ≡ buffer_of (limits_here huge) role
  buffers Client = refl
  buffers Server = refl

  borrows : (role : Role) → planned_limit (wide_limits huge) role ≡ borrow_limit_of (limits_here huge) role
  borrows Client = refl
  borrows Server = refl

  overflows : (role : Role) → planned_overflow (wide_limits huge) role ≡ overflow_of (limits_here huge) role
  overflows Client = refl
  overflows Server = refl

  buffered : (h : Bool) (role : Role) → 0 < planned_buffer (wide_limits h) role
  buffered h Client = omega arith
  buffered true Server = omega arith
  buffered false Server = omega arith

  plan_for : IsPlanFor plan (limits_here huge) (first_port ∷ second_port ∷ [])
  plan_for = record {
    ports = as_planned;
    shapes = shaped;
    buffers = λ role. ap (λ (l : PlanLimits). planned_buffer l role) is.limits ∙ buffers role;
    borrows = λ role. ap (λ (l : PlanLimits). planned_limit l role) is.limits ∙ borrows role;
    overflows = λ role. ap (λ (l : PlanLimits). planned_overflow l role) is.limits ∙ overflows role;
  }

  -- ---- the terms

  in_layout : (role : Role) (k : ℕ) → k ≤ 1 → has_layout (shape_of (limits_here huge) role) k ≡ true
  in_layout Client zero low = refl
  in_layout Client (suc zero) low = refl
  in_layout Client (suc (suc k)) low = absurd (omega (arith, low))
  in_layout Server zero low = refl
  in_layout Server (suc zero) low = refl
  in_layout Server (suc (suc k)) low = absurd (omega (arith, low))

  client_told : (r : PortTerms) → IsWidePort 4_294_967_296 0 r → IsPortWith (p.port 0) (port_shape p 0) r
  client_told r of = record {
    held = refl;
    grows = refl;
    layouts = in_layout Client;
    ids = of.ids;
    loaned_responses = sym of.loaned_responses;
    handler = refl;
    fails = sym of.fails;
  }

  server_told : (r : PortTerms) → IsWidePort 8_589_934_592 1 r → IsPortWith (p.port 1) (port_shape p 1) r
  server_told r of = record {
    held = refl;
    grows = refl;
    layouts = in_layout Server;
    ids = of.ids;
    loaned_responses = sym of.loaned_responses;
    handler = refl;
    fails = sym of.fails;
  }

  ports_told : (ts : List PortTerms) → AreWidePorts ts → (i : ℕ) → i < 2
      → IsSomeAnd (slice_get ts i) (IsPortWith (p.port (slice_index (0 ∷ 1 ∷ []) i)) (port_shape p (slice_index (0 ∷ 1 ∷ []) i)))
  ports_told (c ∷ s ∷ []) of zero low = client_told c of.0
  ports_told (c ∷ s ∷ []) of (suc zero) low = server_told s of.1
  ports_told (c ∷ s ∷ []) of (suc (suc i)) low = absurd (omega (arith, low))
  ports_told [] of i low = absurd of
  ports_told (c ∷ []) of i low = absurd of
  ports_told (c ∷ s ∷ t ∷ ts) of i low = absurd of

  two : (i : ℕ) → i < length plan.ports.items → i < 2
  two i low = subst (λ (qs : List PlanPort). i < length qs) is.ports low

  many : (role : Role) → (shape_of (limits_here huge) role).many ≡ (messages_of terms role).many
  many Client = sym are.request.many
  many Server = sym are.response.many

  user : (role : Role) → (shape_of (limits_here huge) role).user ≡ (messages_of terms role).user.items
  user Client = sym are.request.user_is
  user Server = sym are.response.user_is

  told : IsSettingWith plan terms p
  told = record {
    setting = record {
      layout = refl;
      is_for = subst (λ (qs : List Port). IsPlanFor plan (limits_here huge) qs) (sym (ap (map p.port) numbers_are)) plan_for;
    };
    many = many;
    user = user;
    clients = sym are.clients;
    loaned_requests = sym are.loaned_requests;
    fire_and_forget = sym are.fire_and_forget;
    first_number = sym are.first_number;
    ports = λ i low.
        subst (λ ns. IsSomeAnd (slice_get terms.ports.items i) (IsPortWith (p.port (slice_index ns i)) (port_shape p (slice_index ns i)))) (sym numbers_are)
        (ports_told terms.ports.items are.ports i (two i low));
  }

  -- ---- they are whole

  whole_port : (process number : ℕ) (r : PortTerms) → IsWidePort process number r → IsWholePort plan terms r
  whole_port process number r of =
      let active : plan.limits.active_requests ≡ 1 = ap (λ (l : PlanLimits). l.active_requests) is.limits in
      record {
        ids = ap length of.ids;
        each = rw (of.loaned_responses, active) (omega arith);
        all = rw (of.loaned_responses, active, are.clients) (omega arith);
      }

  whole_ports : (ts : List PortTerms) → AreWidePorts ts → (i : ℕ) → i < 2 → IsSomeAnd (slice_get ts i) (IsWholePort plan terms)
  whole_ports (c ∷ s ∷ []) of zero low = whole_port 4_294_967_296 0 c of.0
  whole_ports (c ∷ s ∷ []) of (suc zero) low = whole_port 8_589_934_592 1 s of.1
  whole_ports (c ∷ s ∷ []) of (suc (suc i)) low = absurd (omega (arith, low))
  whole_ports [] of i low = absurd of
  whole_ports (c ∷ []) of i low = absurd of
  whole_ports (c ∷ s ∷ t ∷ ts) of i low = absurd of

  user_bytes : (role : Role) → (details_of plan role).user_header.size ≡ 8 * length (messages_of terms role).user.items
  user_bytes Client = is.request.user_size ∙ sym (ap (λ us. 8 * length us) are.request.user_is)
  user_bytes Server = is.response.user_size ∙ sym (ap (λ us. 8 * length us) are.response.user_is)

  slot_there : (i : ℕ) → i < 2 → IsSomeAnd (slice_get (wide_client ∷ wide_server ∷ []) i) (λ q. 0 < q.pool)
  slot_there zero low = omega arith
  slot_there (suc zero) low = omega arith
  slot_there (suc (suc i)) low = absurd (omega (arith, low))

  pub whole_terms : AreWhole plan terms
  whole_terms = record {
    fit = record { ports = λ i low. whole_ports terms.ports.items are.ports i (two i low); user = user_bytes };
    slots = λ i low. subst (λ (qs : List PlanPort). IsSomeAnd (slice_get qs i) (λ q. 0 < q.pool)) (sym is.ports) (slot_there i (two i low));
    room = λ role over. subst (λ (l : PlanLimits). 0 < planned_buffer l role) (sym is.limits) (buffered huge role);
  }

  -- ---- it opens

  plan_of_state : IsPlanFor plan (state_here huge).fixed.limits (state_here huge).fixed.ports
  plan_of_state =
      subst (λ (l : Limits). IsPlanFor plan l (state_here huge).fixed.ports) (sym (limits_are huge))
      (subst (λ (qs : List Port). IsPlanFor plan (limits_here huge) qs) (sym (ports_are huge)) plan_for)

  opens : WireOpensOn plan terms (0 ∷ 1 ∷ []) p (state_here huge)
  opens = record {
    agrees = record {
      layout = refl;
      plan_of = plan_of_state;
      limits = limits_are huge;
      ports = ports_are huge ∙ sym (ap (map p.port) numbers_are);
      unhandled = λ n. unhandled (n == 0);
      next_number = next_is huge;
    };
    told = told;
    reached = reached_here huge;
    allowed = allowed_here huge;
    living = lives huge;
  }

  pub may_open : (q : Setting) × (s : State) × WireOpensOn plan terms (0 ∷ 1 ∷ []) q s
  may_open = (p, state_here huge, opens)
