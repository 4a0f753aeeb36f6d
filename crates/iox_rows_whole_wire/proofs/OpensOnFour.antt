-- A wire of four ports may open on a worked service.
use Rattle.std.specs.Prelude.{if◌then◌else◌, IsSomeAnd, slice_get, slice_index}
use Rattle.std.proofs.Common.{◌≡◌, ℕ, zero, suc, length, ◌*◌, ◌<◌, ◌≤◌, Bool, true, false, ◌==◌, List, [], ◌∷◌, map, Some, None, refl, ap, sym, subst, ◌∙◌, arith, get_or}
use Rattle.std.proofs.lemmas.List.Elements.{All-nil, All-cons, All-same}
use Rattle.iox_model.specs.declared.kind.Role.{Role}
use Rattle.iox_model.specs.declared.kind.Role.TheVariants.{Client, Server}
use Rattle.iox_model.specs.declared.reply.Refusal.TheVariants.{UnknownNode}
use Rattle.iox_model.specs.Commands.{Command, Reply}
use Rattle.iox_model.specs.declared.command.PortCommand.TheVariants as asks
use Rattle.iox_model.specs.declared.command.Command.TheVariants as commands
use Rattle.iox_model.specs.declared.reply.Reply.TheVariants as replies
use Rattle.iox_model.specs.Defaults.{follow}
use Rattle.iox_model.specs.Joins.{not_living}
use Rattle.iox_model.specs.Maps.{AreDistinct, has_number}
use Rattle.iox_model.specs.Runs.{IsReachableState, IsRun}
use Rattle.iox_model.specs.Settings.{Limits, borrow_limit_of, buffer_of, has_layout, overflow_of, shape_of}
use Rattle.iox_model.specs.States.{Port, State}
use Rattle.iox_laws.specs.WorkedExamples.EvictionWeaves.{ones}
use Rattle.iox_laws.specs.WorkedExamples.Examples.{of_length_one, process, service}
use Rattle.iox_laws.proofs.WeaveLaws.PlayedRuns.{is_run_to, state_by}
use Rattle.iox_laws.proofs.WorkedExamples.Shapes.{words_are_shaped}
use Rattle.iox_word_places.specs.declared.plan.PlanLimits.{PlanLimits}
use Rattle.iox_word_places.specs.declared.plan.PlanPort.{PlanPort}
use Rattle.iox_word_places.specs.declared.plan.WirePlan.{WirePlan}
use Rattle.iox_word_places.specs.Plans.{HasSlots, IsPlan, details_of, layout_of, planned_buffer, planned_limit, planned_overflow, port_numbers}
use Rattle.iox_wire_layouts.specs.PlansOf.{AreAsPlanned, IsPlanFor, IsShapeOf}
use Rattle.iox_wire_lenders.specs.Terms.{IsPortWith, IsSettingWith, IsWholePort, messages_of}
use Rattle.iox_wire_lenders.specs.declared.terms.PortTerms.{PortTerms}
use Rattle.iox_wire_lenders.specs.declared.terms.WireTerms.{WireTerms}
use Rattle.iox_wire_locals.specs.Tables.{Setting, port_shape}
use Rattle.iox_wire_locals.specs.WorkedWires.{port_of_ones}
use Rattle.iox_wire.specs.Wires.{AreWhole, WireOpensOn}
use Rattle.iox_rows_whole_wire.specs.Ones.{IsPortOfOnes, limits_of_ones}
use Rattle.iox_rows_whole_wire.specs.Fours.{ArePortsOfFour, AreTermsOfFour, IsPlanOfFour, client_of, four_ports, server_of}
use Rattle.iox_rows_whole_wire.proofs.OpensOnOnes.{nine, steps_of, ten, whole}

-- three nodes, and their ports
abbrev made : List Command
made =
    commands.Join (process 2) None
    ∷ commands.Join (process 3) None
    ∷ commands.Port (asks.Client 0 (process 0) of_length_one)
    ∷ commands.Port (asks.Server 1 (process 0) of_length_one)
    ∷ commands.Port (asks.Server 2 (process 0) of_length_one)
    ∷ commands.Port (asks.Client 2 (process 0) of_length_one) ∷ []

abbrev are_made : List Reply
are_made =
    replies.Node 1 ∷ replies.Node 2 ∷ replies.Client 0 ∷ replies.Server 1 ∷ replies.Server 2 ∷ replies.Client 3 ∷ []

-- the port of that number among these
abbrev among : List Port → ℕ → Port
among ps n = if n == 0 then get_or ps 0 (port_of_ones 0 Client 6)
    else (if n == 1 then get_or ps 1 (port_of_ones 1 Server 26)
    else (if n == 2 then get_or ps 2 (port_of_ones 2 Server 26)
    else get_or ps 3 (port_of_ones 3 Client 6)))

module _ (requests responses fire : Bool) where
  -- ---- the service

  abbrev limits_here : Limits
  limits_here = record ones { clients = 2; servers = 2; request_overflow = requests; response_overflow = responses; fire_and_forget = fire }

  abbrev state_here : State
  state_here = state_by (service limits_here) made []

  run_here : IsRun (service limits_here) made are_made state_here
  run_here = is_run_to (service limits_here) made are_made [] refl refl

  reached_here : IsReachableState state_here
  reached_here =
      let h = steps_of (service limits_here) state_here made are_made run_here in
      record {
        limits = limits_here;
        acts = follow;
        id = process 1;
        request = words_are_shaped 7;
        response = words_are_shaped 6;
        steps = h.0;
        history = h.1;
      }

  lives : (n : ℕ) → not_living state_here n ≡ (if has_number n (0 ∷ 1 ∷ 2 ∷ []) then None else Some UnknownNode)
  lives n = by_case (0 == n) (1 == n) (2 == n) refl refl refl
    where
      by_case : (a b c : Bool) → (0 == n) ≡ a → (1 == n) ≡ b → (2 == n) ≡ c
          → not_living state_here n ≡ (if has_number n (0 ∷ 1 ∷ 2 ∷ []) then None else Some UnknownNode)
      by_case true b c is other third = rw is refl
      by_case false true c is other third = rw (is, other) refl
      by_case false false true is other third = rw (is, other, third) refl
      by_case false false false is other third = rw (is, other, third) refl

  pub is_plan : (plan : WirePlan) → IsPlanOfFour requests responses plan → IsPlan plan
  is_plan plan is =
      let P : List PlanPort → Type 0 = λ ps. AreDistinct (map (λ p. p.number) ps) in
      record {
        numbers = subst P (sym is.ports) (refl, (refl, (refl, (refl, tt))));
        requests = whole plan.request 7 is.request;
        responses = whole plan.response 6 is.response;
        slots = All-same (HasSlots plan) plan.ports.items four_ports is.ports
            (All-cons (HasSlots plan) (client_of 0 0) (server_of 1 1 ∷ server_of 2 2 ∷ client_of 3 2 ∷ []) (ten plan.request is.request)
            (All-cons (HasSlots plan) (server_of 1 1) (server_of 2 2 ∷ client_of 3 2 ∷ []) (nine plan.response is.response)
            (All-cons (HasSlots plan) (server_of 2 2) (client_of 3 2 ∷ []) (nine plan.response is.response)
            (All-cons (HasSlots plan) (client_of 3 2) [] (ten plan.request is.request) (All-nil (HasSlots plan))))));
      }

  module _ (plan : WirePlan) (terms : WireTerms) (is : IsPlanOfFour requests responses plan) (are : AreTermsOfFour fire terms) where
    abbrev p : Setting
    p = record {
      layout = layout_of plan;
      limits = state_here.fixed.limits;
      port = among state_here.fixed.ports;
      next_number = state_here.fixed.next_number;
    }

    numbers_are : port_numbers plan ≡ 0 ∷ 1 ∷ 2 ∷ 3 ∷ []
    numbers_are = ap (map (λ (q : PlanPort). q.number)) is.ports

    -- a header of so many words, no user header, and an element of one word
    shaped : (role : Role) → IsShapeOf (details_of plan role) role (shape_of state_here.fixed.limits role)
    shaped Client = record {
      header_part = rw (is.request.header_size, is.request.header_alignment) refl;
      user_part = rw (is.request.user_size, is.request.user_alignment) refl;
      element_part = rw (is.request.payload_size, is.request.payload_alignment) refl;
      header = is.request.header_size;
      user = is.request.user_size;
      element = is.request.payload_size;
    }
    shaped Server = record {
      header_part = rw (is.response.header_size, is.response.header_alignment) refl;
      user_part = rw (is.response.user_size, is.response.user_alignment) refl;
      element_part = rw (is.response.payload_size, is.response.payload_alignment) refl;
      header = is.response.header_size;
      user = is.response.user_size;
      element = is.response.payload_size;
    }

    as_planned : AreAsPlanned plan.ports.items state_here.fixed.ports
    as_planned =
        subst (λ qs. AreAsPlanned qs state_here.fixed.ports) (sym is.ports) (
          record { number = refl; node = refl; role = refl; pool = refl; longest = refl },
          (
            record { number = refl; node = refl; role = refl; pool = refl; longest = refl },
            (
              record { number = refl; node = refl; role = refl; pool = refl; longest = refl },
              (record { number = refl; node = refl; role = refl; pool = refl; longest = refl }, tt),
            ),
          ),
        )

    unhandled : (a b c : Bool)
        → (if a then get_or state_here.fixed.ports 0 (port_of_ones 0 Client 6)
        else (if b then get_or state_here.fixed.ports 1 (port_of_ones 1 Server 26)
        else (if c then get_or state_here.fixed.ports 2 (port_of_ones 2 Server 26)
        else get_or state_here.fixed.ports 3 (port_of_ones 3 Client 6)))).handler ≡ None
    unhandled true b c = refl
    unhandled false true c = refl
    unhandled false false true = refl
    unhandled false false false = refl

    buffers : (role : Role) → planned_buffer (limits_of_ones requests responses) role ≡ buffer_of state_here.fixed.limits role
    buffers Client = refl
    buffers Server = refl

    borrows : (role : Role) → planned_limit (limits_of_ones requests responses) role ≡ borrow_limit_of state_here.fixed.limits role
    borrows Client = refl
    borrows Server = refl

    overflows : (role : Role) → planned_overflow (limits_of_ones requests responses) role ≡ overflow_of state_here.fixed.limits role
    overflows Client = refl
    overflows Server = refl

    buffered : (role : Role) → 0 < planned_buffer (limits_of_ones requests responses) role
    buffered Client = omega arith
    buffered Server = omega arith

    plan_for : IsPlanFor plan state_here.fixed.limits state_here.fixed.ports
    plan_for = record {
      ports = as_planned;
      shapes = shaped;
      buffers = λ role. ap (λ (l : PlanLimits). planned_buffer l role) is.limits ∙ buffers role;
      borrows = λ role. ap (λ (l : PlanLimits). planned_limit l role) is.limits ∙ borrows role;
      overflows = λ role. ap (λ (l : PlanLimits). planned_overflow l role) is.limits ∙ overflows role;
    }

    -- ---- the terms

    in_layout : (role : Role) (k : ℕ) → k ≤ 1 → has_layout (shape_of state_here.fixed.limits role) k ≡ true
    in_layout Client zero low = refl
    in_layout Client (suc zero) low = refl
    in_layout Client (suc (suc k)) low = absurd (omega (arith, low))
    in_layout Server zero low = refl
    in_layout Server (suc zero) low = refl
    in_layout Server (suc (suc k)) low = absurd (omega (arith, low))

    first_told : (r : PortTerms) → IsPortOfOnes 4_294_967_296 0 r → IsPortWith (p.port 0) (port_shape p 0) r
    first_told r of = record {
      held = refl;
      grows = refl;
      layouts = in_layout Client;
      ids = of.ids;
      loaned_responses = sym of.loaned_responses;
      handler = refl;
      fails = sym of.fails;
    }

    second_told : (r : PortTerms) → IsPortOfOnes 8_589_934_592 1 r → IsPortWith (p.port 1) (port_shape p 1) r
    second_told r of = record {
      held = refl;
      grows = refl;
      layouts = in_layout Server;
      ids = of.ids;
      loaned_responses = sym of.loaned_responses;
      handler = refl;
      fails = sym of.fails;
    }

    third_told : (r : PortTerms) → IsPortOfOnes 12_884_901_888 2 r → IsPortWith (p.port 2) (port_shape p 2) r
    third_told r of = record {
      held = refl;
      grows = refl;
      layouts = in_layout Server;
      ids = of.ids;
      loaned_responses = sym of.loaned_responses;
      handler = refl;
      fails = sym of.fails;
    }

    fourth_told : (r : PortTerms) → IsPortOfOnes 12_884_901_888 3 r → IsPortWith (p.port 3) (port_shape p 3) r
    fourth_told r of = record {
      held = refl;
      grows = refl;
      layouts = in_layout Client;
      ids = of.ids;
      loaned_responses = sym of.loaned_responses;
      handler = refl;
      fails = sym of.fails;
    }

    ports_told : (ts : List PortTerms) → ArePortsOfFour ts → (i : ℕ) → i < 4
        → IsSomeAnd (slice_get ts i) (IsPortWith (p.port (slice_index (0 ∷ 1 ∷ 2 ∷ 3 ∷ []) i)) (port_shape p (slice_index (0 ∷ 1 ∷ 2 ∷ 3 ∷ []) i)))
    ports_told (a ∷ b ∷ c ∷ d ∷ []) of zero low = first_told a of.0
    ports_told (a ∷ b ∷ c ∷ d ∷ []) of (suc zero) low = second_told b of.1
    ports_told (a ∷ b ∷ c ∷ d ∷ []) of (suc (suc zero)) low = third_told c of.2
    ports_told (a ∷ b ∷ c ∷ d ∷ []) of (suc (suc (suc zero))) low = fourth_told d of.3
    ports_told (a ∷ b ∷ c ∷ d ∷ []) of (suc (suc (suc (suc i)))) low = absurd (omega (arith, low))
    ports_told [] of i low = absurd of
    ports_told (a ∷ []) of i low = absurd of
    ports_told (a ∷ b ∷ []) of i low = absurd of
    ports_told (a ∷ b ∷ c ∷ []) of i low = absurd of
    ports_told (a ∷ b ∷ c ∷ d ∷ e ∷ ts) of i low = absurd of

    four : (i : ℕ) → i < length plan.ports.items → i < 4
    four i low = subst (λ (qs : List PlanPort). i < length qs) is.ports low

    many : (role : Role) → (shape_of state_here.fixed.limits role).many ≡ (messages_of terms role).many
    many Client = sym are.request.many
    many Server = sym are.response.many

    user : (role : Role) → (shape_of state_here.fixed.limits role).user ≡ (messages_of terms role).user.items
    user Client = sym are.request.user
    user Server = sym are.response.user

    told : IsSettingWith plan terms p
    told = record {
      setting = record {
        layout = refl;
        is_for = subst (λ (qs : List Port). IsPlanFor plan state_here.fixed.limits qs) (sym (ap (map p.port) numbers_are)) plan_for;
      };
      many = many;
      user = user;
      clients = sym are.clients;
      loaned_requests = sym are.loaned_requests;
      fire_and_forget = sym are.fire_and_forget;
      first_number = sym are.first_number;
      ports = λ i low.
          subst (λ ns. IsSomeAnd (slice_get terms.ports.items i) (IsPortWith (p.port (slice_index ns i)) (port_shape p (slice_index ns i)))) (sym numbers_are)
          (ports_told terms.ports.items are.ports i (four i low));
    }

    -- ---- they are whole

    whole_port : (process number : ℕ) (r : PortTerms) → IsPortOfOnes process number r → IsWholePort plan terms r
    whole_port process number r of =
        let active : plan.limits.active_requests ≡ 1 = ap (λ (l : PlanLimits). l.active_requests) is.limits in
        record {
          ids = ap length of.ids;
          each = rw (of.loaned_responses, active) (omega arith);
          all = rw (of.loaned_responses, active, are.clients) (omega arith);
        }

    whole_ports : (ts : List PortTerms) → ArePortsOfFour ts → (i : ℕ) → i < 4
        → IsSomeAnd (slice_get ts i) (IsWholePort plan terms)
    whole_ports (a ∷ b ∷ c ∷ d ∷ []) of zero low = whole_port 4_294_967_296 0 a of.0
    whole_ports (a ∷ b ∷ c ∷ d ∷ []) of (suc zero) low = whole_port 8_589_934_592 1 b of.1
    whole_ports (a ∷ b ∷ c ∷ d ∷ []) of (suc (suc zero)) low = whole_port 12_884_901_888 2 c of.2
    whole_ports (a ∷ b ∷ c ∷ d ∷ []) of (suc (suc (suc zero))) low = whole_port 12_884_901_888 3 d of.3
    whole_ports (a ∷ b ∷ c ∷ d ∷ []) of (suc (suc (suc (suc i)))) low = absurd (omega (arith, low))
    whole_ports [] of i low = absurd of
    whole_ports (a ∷ []) of i low = absurd of
    whole_ports (a ∷ b ∷ []) of i low = absurd of
    whole_ports (a ∷ b ∷ c ∷ []) of i low = absurd of
    whole_ports (a ∷ b ∷ c ∷ d ∷ e ∷ ts) of i low = absurd of

    user_bytes : (role : Role) → (details_of plan role).user_header.size ≡ 8 * length (messages_of terms role).user.items
    user_bytes Client = is.request.user_size ∙ sym (ap (λ us. 8 * length us) are.request.user)
    user_bytes Server = is.response.user_size ∙ sym (ap (λ us. 8 * length us) are.response.user)

    slot_there : (i : ℕ) → i < 4 → IsSomeAnd (slice_get four_ports i) (λ q. 0 < q.pool)
    slot_there zero low = omega arith
    slot_there (suc zero) low = omega arith
    slot_there (suc (suc zero)) low = omega arith
    slot_there (suc (suc (suc zero))) low = omega arith
    slot_there (suc (suc (suc (suc i)))) low = absurd (omega (arith, low))

    pub whole_terms : AreWhole plan terms
    whole_terms = record {
      fit = record { ports = λ i low. whole_ports terms.ports.items are.ports i (four i low); user = user_bytes };
      slots = λ i low. subst (λ (qs : List PlanPort). IsSomeAnd (slice_get qs i) (λ q. 0 < q.pool)) (sym is.ports) (slot_there i (four i low));
      room = λ role over. subst (λ (l : PlanLimits). 0 < planned_buffer l role) (sym is.limits) (buffered role);
    }

    opens : WireOpensOn plan terms (0 ∷ 1 ∷ 2 ∷ []) p state_here
    opens = record {
      agrees = record {
        layout = refl;
        plan_of = plan_for;
        limits = refl;
        ports = sym (ap (map p.port) numbers_are);
        unhandled = λ n. unhandled (n == 0) (n == 1) (n == 2);
        next_number = refl;
      };
      told = told;
      reached = reached_here;
      allowed = refl;
      living = lives;
    }

    pub may_open : (q : Setting) × (s : State) × WireOpensOn plan terms (0 ∷ 1 ∷ 2 ∷ []) q s
    may_open = (p, state_here, opens)
