-- A wire of ones may open on a worked service.
use Rattle.std.specs.Prelude.{if◌then◌else◌, IsSomeAnd, slice_get, slice_index}
use Rattle.std.proofs.Common.{◌≡◌, ℕ, zero, suc, length, ◌*◌, ◌<◌, ◌≤◌, Bool, true, false, ◌==◌, List, [], ◌∷◌, map, Some, None, refl, ap, sym, subst, ◌∙◌, arith, get_or}
use Rattle.std.proofs.lemmas.List.Elements.{All-nil, All-cons, All-same}
use Rattle.iox_model.specs.declared.kind.Role.{Role}
use Rattle.iox_model.specs.declared.kind.Role.TheVariants.{Client, Server}
use Rattle.iox_model.specs.declared.reply.Refusal.TheVariants.{UnknownNode}
use Rattle.iox_model.specs.Commands.{Command, Reply}
use Rattle.iox_model.specs.Defaults.{follow}
use Rattle.iox_model.specs.Joins.{not_living}
use Rattle.iox_model.specs.Maps.{AreDistinct, has_number}
use Rattle.iox_model.specs.Runs.{IsHistory, IsReachableState, IsRun, OfService, ServiceStep}
use Rattle.iox_model.specs.Settings.{Limits, borrow_limit_of, buffer_of, has_layout, overflow_of, shape_of}
use Rattle.iox_model.specs.States.{Port, State}
use Rattle.iox_laws.specs.WorkedExamples.EvictionWeaves.{ones}
use Rattle.iox_laws.specs.WorkedExamples.Examples.{is_set_up, process, service, set_up}
use Rattle.iox_laws.proofs.WeaveLaws.PlayedRuns.{is_run_to, state_by}
use Rattle.iox_laws.proofs.WorkedExamples.Shapes.{words_are_shaped}
use Rattle.iox_types.specs.declared.message_type_details.MessageTypeDetails.{MessageTypeDetails}
use Rattle.iox_types.specs.Layouts.{message_size}
use Rattle.iox_word_map.specs.MessageWords.{IsInWords}
use Rattle.iox_word_places.specs.declared.plan.PlanLimits.{PlanLimits}
use Rattle.iox_word_places.specs.declared.plan.PlanPort.{PlanPort}
use Rattle.iox_word_places.specs.declared.plan.WirePlan.{WirePlan}
use Rattle.iox_word_places.specs.Plans.{HasSlots, IsPlan, details_of, layout_of, planned_buffer, planned_limit, planned_overflow, port_numbers}
use Rattle.iox_wire_layouts.specs.PlansOf.{AreAsPlanned, IsPlanFor, IsShapeOf}
use Rattle.iox_wire_lenders.specs.Terms.{IsPortWith, IsSettingWith, IsWholePort, messages_of}
use Rattle.iox_wire_lenders.specs.declared.terms.PortTerms.{PortTerms}
use Rattle.iox_wire_lenders.specs.declared.terms.WireTerms.{WireTerms}
use Rattle.iox_wire_locals.specs.Tables.{Setting, port_shape}
use Rattle.iox_wire_locals.specs.WorkedWires.{port_of_ones}
use Rattle.iox_wire.specs.Wires.{AreWhole, WireOpensOn}
use Rattle.iox_rows_whole_wire.specs.Ones.{ArePortsOfOnes, AreTermsOfOnes, HasOneWord, IsPlanOfOnes, IsPortOfOnes, client, limits_of_ones, server}

pub steps_of : (s t : State) (cs : List Command) (rs : List Reply) → IsRun s cs rs t → (xs : List ServiceStep) × IsHistory s xs t
steps_of s t [] [] run = ([], run)
steps_of s t (c ∷ cs) (r ∷ rs) run =
    let rest = steps_of run.0 t cs rs run.2 in (OfService c r ∷ rest.0, (run.0, run.1, rest.1))
steps_of s t [] (r ∷ rs) run = absurd run
steps_of s t (c ∷ cs) [] run = absurd run

-- ---- the plan

pub whole : (details : MessageTypeDetails) (words : ℕ) → HasOneWord details (words * 8) → IsInWords details
whole details words o = record {
  aligned = record { header = (3, o.header_alignment); user_header = (3, o.user_alignment); payload = (3, o.payload_alignment) };
  header = (words, o.header_size);
  user_header = (0, o.user_size);
  payload = (1, o.payload_size);
}

pub ten : (details : MessageTypeDetails) → HasOneWord details 56 → message_size details 1 ≡ 80
ten details o = rw (o.header_size, o.header_alignment, o.user_size, o.user_alignment, o.payload_size, o.payload_alignment) refl

pub nine : (details : MessageTypeDetails) → HasOneWord details 48 → message_size details 1 ≡ 72
nine details o = rw (o.header_size, o.header_alignment, o.user_size, o.user_alignment, o.payload_size, o.payload_alignment) refl

module _ (requests responses fire : Bool) where
  -- ---- the service

  abbrev limits_here : Limits
  limits_here = record ones { request_overflow = requests; response_overflow = responses; fire_and_forget = fire }

  abbrev state_here : State
  state_here = state_by (service limits_here) (set_up []) []

  run_here : IsRun (service limits_here) (set_up []) (is_set_up []) state_here
  run_here = is_run_to (service limits_here) (set_up []) (is_set_up []) [] refl refl

  reached_here : IsReachableState state_here
  reached_here =
      let h = steps_of (service limits_here) state_here (set_up []) (is_set_up []) run_here in
      record {
        limits = limits_here;
        acts = follow;
        id = process 1;
        request = words_are_shaped 7;
        response = words_are_shaped 6;
        steps = h.0;
        history = h.1;
      }

  lives : (n : ℕ) → not_living state_here n ≡ (if has_number n (0 ∷ 1 ∷ []) then None else Some UnknownNode)
  lives n = by_case (0 == n) (1 == n) refl refl
    where
      by_case : (a b : Bool) → (0 == n) ≡ a → (1 == n) ≡ b → not_living state_here n ≡ (if has_number n (0 ∷ 1 ∷ []) then None else Some UnknownNode)
      by_case true b is other = rw is refl
      by_case false true is other = rw (is, other) refl
      by_case false false is other = rw (is, other) refl

  pub is_plan : (plan : WirePlan) → IsPlanOfOnes requests responses plan → IsPlan plan
  is_plan plan is =
      let P : List PlanPort → Type 0 = λ ps. AreDistinct (map (λ p. p.number) ps) in
      record {
        numbers = subst P (sym is.ports) (refl, (refl, tt));
        requests = whole plan.request 7 is.request;
        responses = whole plan.response 6 is.response;
        slots = All-same (HasSlots plan) plan.ports.items (client ∷ server ∷ []) is.ports
            (All-cons (HasSlots plan) client (server ∷ []) (ten plan.request is.request)
            (All-cons (HasSlots plan) server [] (nine plan.response is.response) (All-nil (HasSlots plan))));
      }

  module _ (plan : WirePlan) (terms : WireTerms) (is : IsPlanOfOnes requests responses plan) (are : AreTermsOfOnes fire terms) where
    abbrev p : Setting
    p = record {
      layout = layout_of plan;
      limits = state_here.fixed.limits;
      port = λ n. if n == 0 then get_or state_here.fixed.ports 0 (port_of_ones 0 Client 4) else get_or state_here.fixed.ports 1 (port_of_ones 1 Server 9);
      next_number = state_here.fixed.next_number;
    }

    numbers_are : port_numbers plan ≡ 0 ∷ 1 ∷ []
    numbers_are = ap (map (λ (q : PlanPort). q.number)) is.ports

    -- a header of so many words, no user header, and an element of one word
    shaped : (role : Role) → IsShapeOf (details_of plan role) role (shape_of state_here.fixed.limits role)
    shaped Client = record {
      header_part = rw (is.request.header_size, is.request.header_alignment) refl;
      user_part = rw (is.request.user_size, is.request.user_alignment) refl;
      element_part = rw (is.request.payload_size, is.request.payload_alignment) refl;
      header = is.request.header_size;
      user = is.request.user_size;
      element = is.request.payload_size;
    }
    shaped Server = record {
      header_part = rw (is.response.header_size, is.response.header_alignment) refl;
      user_part = rw (is.response.user_size, is.response.user_alignment) refl;
      element_part = rw (is.response.payload_size, is.response.payload_alignment) refl;
      header = is.response.header_size;
      user = is.response.user_size;
      element = is.response.payload_size;
    }

    as_planned : AreAsPlanned plan.ports.items state_here.fixed.ports
    as_planned =
        subst (λ qs. AreAsPlanned qs state_here.fixed.ports) (sym is.ports) (
          record { number = refl; node = refl; role = refl; pool = refl; longest = refl },
          (record { number = refl; node = refl; role = refl; pool = refl; longest = refl }, tt),
        )

    unhandled : (b : Bool)
        → (if b then get_or state_here.fixed.ports 0 (port_of_ones 0 Client 4) else get_or state_here.fixed.ports 1 (port_of_ones 1 Server 9)).handler ≡ None
    unhandled true = refl
    unhandled false = refl

    buffers : (role : Role) → planned_buffer (limits_of_ones requests responses) role ≡ buffer_of state_here.fixed.limits role
    buffers Client = refl
    buffers Server = refl

    borrows : (role : Role) → planned_limit (limits_of_ones requests responses) role ≡ borrow_limit_of state_here.fixed.limits role
    borrows Client = refl
    borrows Server = refl

    overflows : (role : Role) → planned_overflow (limits_of_ones requests responses) role ≡ overflow_of state_here.fixed.limits role
    overflows Client = refl
    overflows Server = refl

    buffered : (role : Role) → 0 < planned_buffer (limits_of_ones requests responses) role
    buffered Client = omega arith
    buffered Server = omega arith

    plan_for : IsPlanFor plan state_here.fixed.limits state_here.fixed.ports
    plan_for = record {
      ports = as_planned;
      shapes = shaped;
      buffers = λ role. ap (λ (l : PlanLimits). planned_buffer l role) is.limits ∙ buffers role;
      borrows = λ role. ap (λ (l : PlanLimits). planned_limit l role) is.limits ∙ borrows role;
      overflows = λ role. ap (λ (l : PlanLimits). planned_overflow l role) is.limits ∙ overflows role;
    }

    -- ---- the terms

    in_layout : (role : Role) (k : ℕ) → k ≤ 1 → has_layout (shape_of state_here.fixed.limits role) k ≡ true
    in_layout Client zero low = refl
    in_layout Client (suc zero) low = refl
    in_layout Client (suc (suc k)) low = absurd (omega (arith, low))
    in_layout Server zero low = refl
    in_layout Server (suc zero) low = refl
    in_layout Server (suc (suc k)) low = absurd (omega (arith, low))

    client_told : (r : PortTerms) → IsPortOfOnes 4_294_967_296 0 r → IsPortWith (p.port 0) (port_shape p 0) r
    client_told r of = record {
      held = refl;
      grows = refl;
      layouts = in_layout Client;
      ids = of.ids;
      loaned_responses = sym of.loaned_responses;
      handler = refl;
      fails = sym of.fails;
    }

    server_told : (r : PortTerms) → IsPortOfOnes 8_589_934_592 1 r → IsPortWith (p.port 1) (port_shape p 1) r
    server_told r of = record {
      held = refl;
      grows = refl;
      layouts = in_layout Server;
      ids = of.ids;
      loaned_responses = sym of.loaned_responses;
      handler = refl;
      fails = sym of.fails;
    }

    ports_told : (ts : List PortTerms) → ArePortsOfOnes ts → (i : ℕ) → i < 2
        → IsSomeAnd (slice_get ts i) (IsPortWith (p.port (slice_index (0 ∷ 1 ∷ []) i)) (port_shape p (slice_index (0 ∷ 1 ∷ []) i)))
    ports_told (c ∷ s ∷ []) of zero low = client_told c of.0
    ports_told (c ∷ s ∷ []) of (suc zero) low = server_told s of.1
    ports_told (c ∷ s ∷ []) of (suc (suc i)) low = absurd (omega (arith, low))
    ports_told [] of i low = absurd of
    ports_told (c ∷ []) of i low = absurd of
    ports_told (c ∷ s ∷ t ∷ ts) of i low = absurd of

    two : (i : ℕ) → i < length plan.ports.items → i < 2
    two i low = subst (λ (qs : List PlanPort). i < length qs) is.ports low

    many : (role : Role) → (shape_of state_here.fixed.limits role).many ≡ (messages_of terms role).many
    many Client = sym are.request.many
    many Server = sym are.response.many

    user : (role : Role) → (shape_of state_here.fixed.limits role).user ≡ (messages_of terms role).user.items
    user Client = sym are.request.user
    user Server = sym are.response.user

    told : IsSettingWith plan terms p
    told = record {
      setting = record {
        layout = refl;
        is_for = subst (λ (qs : List Port). IsPlanFor plan state_here.fixed.limits qs) (sym (ap (map p.port) numbers_are)) plan_for;
      };
      many = many;
      user = user;
      clients = sym are.clients;
      loaned_requests = sym are.loaned_requests;
      fire_and_forget = sym are.fire_and_forget;
      first_number = sym are.first_number;
      ports = λ i low.
          subst (λ ns. IsSomeAnd (slice_get terms.ports.items i) (IsPortWith (p.port (slice_index ns i)) (port_shape p (slice_index ns i)))) (sym numbers_are)
          (ports_told terms.ports.items are.ports i (two i low));
    }

    -- ---- they are whole

    whole_port : (process number : ℕ) (r : PortTerms) → IsPortOfOnes process number r → IsWholePort plan terms r
    whole_port process number r of =
        let active : plan.limits.active_requests ≡ 1 = ap (λ (l : PlanLimits). l.active_requests) is.limits in
        record {
          ids = ap length of.ids;
          each = rw (of.loaned_responses, active) (omega arith);
          all = rw (of.loaned_responses, active, are.clients) (omega arith);
        }

    whole_ports : (ts : List PortTerms) → ArePortsOfOnes ts → (i : ℕ) → i < 2 → IsSomeAnd (slice_get ts i) (IsWholePort plan terms)
    whole_ports (c ∷ s ∷ []) of zero low = whole_port 4_294_967_296 0 c of.0
    whole_ports (c ∷ s ∷ []) of (suc zero) low = whole_port 8_589_934_592 1 s of.1
    whole_ports (c ∷ s ∷ []) of (suc (suc i)) low = absurd (omega (arith, low))
    whole_ports [] of i low = absurd of
    whole_ports (c ∷ []) of i low = absurd of
    whole_ports (c ∷ s ∷ t ∷ ts) of i low = absurd of

    user_bytes : (role : Role) → (details_of plan role).user_header.size ≡ 8 * length (messages_of terms role).user.items
    user_bytes Client = is.request.user_size ∙ sym (ap (λ us. 8 * length us) are.request.user)
    user_bytes Server = is.response.user_size ∙ sym (ap (λ us. 8 * length us) are.response.user)

    slot_there : (i : ℕ) → i < 2 → IsSomeAnd (slice_get (client ∷ server ∷ []) i) (λ q. 0 < q.pool)
    slot_there zero low = omega arith
    slot_there (suc zero) low = omega arith
    slot_there (suc (suc i)) low = absurd (omega (arith, low))

    pub whole_terms : AreWhole plan terms
    whole_terms = record {
      fit = record { ports = λ i low. whole_ports terms.ports.items are.ports i (two i low); user = user_bytes };
      slots = λ i low. subst (λ (qs : List PlanPort). IsSomeAnd (slice_get qs i) (λ q. 0 < q.pool)) (sym is.ports) (slot_there i (two i low));
      room = λ role over. subst (λ (l : PlanLimits). 0 < planned_buffer l role) (sym is.limits) (buffered role);
    }

    opens : WireOpensOn plan terms (0 ∷ 1 ∷ []) p state_here
    opens = record {
      agrees = record {
        layout = refl;
        plan_of = plan_for;
        limits = refl;
        ports = sym (ap (map p.port) numbers_are);
        unhandled = λ n. unhandled (n == 0);
        next_number = refl;
      };
      told = told;
      reached = reached_here;
      allowed = refl;
      living = lives;
    }

    pub may_open : (q : Setting) × (s : State) × WireOpensOn plan terms (0 ∷ 1 ∷ []) q s
    may_open = (p, state_here, opens)
