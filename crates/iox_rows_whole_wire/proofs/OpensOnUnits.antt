-- A wire whose elements have no words may open on a worked service.
use Rattle.std.specs.Prelude.{if◌then◌else◌, IsSomeAnd, slice_get, slice_index}
use Rattle.std.proofs.Common.{◌≡◌, ℕ, zero, suc, length, ◌*◌, ◌<◌, ◌≤◌, Bool, true, false, ◌==◌, List, [], ◌∷◌, map, Some, None, refl, ap, sym, subst, ◌∙◌, arith, get_or}
use Rattle.std.proofs.lemmas.List.Elements.{All-nil, All-cons, All-same}
use Rattle.iox_model.specs.declared.kind.Role.{Role}
use Rattle.iox_model.specs.declared.kind.Role.TheVariants.{Client, Server}
use Rattle.iox_model.specs.declared.reply.Refusal.TheVariants.{UnknownNode}
use Rattle.iox_model.specs.Commands.{Command, Options}
use Rattle.iox_model.specs.declared.command.Command.TheVariants as commands
use Rattle.iox_model.specs.declared.command.PortCommand.TheVariants as asks
use Rattle.iox_model.specs.Defaults.{follow}
use Rattle.iox_model.specs.Joins.{not_living}
use Rattle.iox_model.specs.Maps.{AreDistinct, has_number}
use Rattle.iox_model.specs.Runs.{IsReachableState, IsRun}
use Rattle.iox_model.specs.Settings.{IsShape, Limits, Shape, borrow_limit_of, buffer_of, has_layout, overflow_of, shape_of}
use Rattle.iox_model.specs.States.{Port, State}
use Rattle.iox_model.specs.WireCalls.{wire_refusal}
use Rattle.iox_laws.specs.WorkedExamples.EvictionWeaves.{ones}
use Rattle.iox_laws.specs.WorkedExamples.Examples.{is_set_up, of_length_one, process, service}
use Rattle.iox_laws.proofs.WeaveLaws.PlayedRuns.{is_run_to, state_by}
use Rattle.iox_types.specs.declared.message_type_details.MessageTypeDetails.{MessageTypeDetails}
use Rattle.iox_types.specs.Layouts.{message_size}
use Rattle.iox_word_map.specs.MessageWords.{IsInWords}
use Rattle.iox_word_places.specs.declared.plan.PlanLimits.{PlanLimits}
use Rattle.iox_word_places.specs.declared.plan.PlanPort.{PlanPort}
use Rattle.iox_word_places.specs.declared.plan.WirePlan.{WirePlan}
use Rattle.iox_word_places.specs.Plans.{HasSlots, IsPlan, details_of, layout_of, planned_buffer, planned_limit, planned_overflow, port_numbers}
use Rattle.iox_wire_layouts.specs.PlansOf.{AreAsPlanned, IsPlanFor, IsShapeOf}
use Rattle.iox_wire_lenders.specs.Terms.{IsPortWith, IsSettingWith, IsWholePort, messages_of}
use Rattle.iox_wire_lenders.specs.declared.terms.PortTerms.{PortTerms}
use Rattle.iox_wire_lenders.specs.declared.terms.WireTerms.{WireTerms}
use Rattle.iox_wire_locals.specs.Tables.{Setting, port_shape}
use Rattle.iox_wire_locals.specs.WorkedWires.{port_of_ones}
use Rattle.iox_wire.specs.Wires.{AreWhole, WireOpensOn}
use Rattle.iox_rows_whole_wire.specs.Ones.{ArePortsOfOnes, IsPortOfOnes, limits_of_ones}
use Rattle.iox_rows_whole_wire.specs.Units.{AreTermsOfUnits, HasNoWord, IsPlanOfUnits, longest_of_units, unit_client, unit_server}
use Rattle.iox_rows_whole_wire.proofs.OpensOnOnes.{steps_of}

-- ---- the plan

whole : (details : MessageTypeDetails) (words : ℕ) → HasNoWord details (words * 8) → IsInWords details
whole details words o = record {
  aligned = record { header = (3, o.header_alignment); user_header = (3, o.user_alignment); payload = (3, o.payload_alignment) };
  header = (words, o.header_size);
  user_header = (0, o.user_size);
  payload = (0, o.payload_size);
}

nine : (many : Bool) (details : MessageTypeDetails) → HasNoWord details 56 → message_size details (longest_of_units many) ≡ 72
nine true details o = rw (o.header_size, o.header_alignment, o.user_size, o.user_alignment, o.payload_size, o.payload_alignment) refl
nine false details o = rw (o.header_size, o.header_alignment, o.user_size, o.user_alignment, o.payload_size, o.payload_alignment) refl

eight : (many : Bool) (details : MessageTypeDetails) → HasNoWord details 48 → message_size details (longest_of_units many) ≡ 64
eight true details o = rw (o.header_size, o.header_alignment, o.user_size, o.user_alignment, o.payload_size, o.payload_alignment) refl
eight false details o = rw (o.header_size, o.header_alignment, o.user_size, o.user_alignment, o.payload_size, o.payload_alignment) refl

pub is_plan : (many : Bool) (plan : WirePlan) → IsPlanOfUnits many plan → IsPlan plan
is_plan many plan is =
    let P : List PlanPort → Type 0 = λ ps. AreDistinct (map (λ p. p.number) ps) in
    record {
      numbers = subst P (sym is.ports) (refl, (refl, tt));
      requests = whole plan.request 7 is.request;
      responses = whole plan.response 6 is.response;
      slots = All-same (HasSlots plan) plan.ports.items (unit_client many ∷ unit_server many ∷ []) is.ports
          (All-cons (HasSlots plan) (unit_client many) (unit_server many ∷ []) (nine many plan.request is.request)
          (All-cons (HasSlots plan) (unit_server many) [] (eight many plan.response is.response) (All-nil (HasSlots plan))));
    }

-- ---- the service

-- messages with a header of so many words
abbrev units : (many : Bool) → ℕ → Shape
units many header = record {
  many = many;
  width = 0;
  default = Some [];
  user = [];
  header_part = record { size = 8 * header; alignment = 8 };
  user_part = record { size = 0; alignment = 8 };
  element_part = record { size = 0; alignment = 8 };
}

units_are_shaped : (many : Bool) (header : ℕ) → IsShape (units many header)
units_are_shaped many header = record { default = refl; header = (3, refl); user = (3, refl); element = (3, refl) }

abbrev limits_here : Bool → Limits
limits_here many = record ones { request_overflow = false; response_overflow = false; fire_and_forget = true; request = units many 7; response = units many 6 }

-- where a message may have several elements, those of each port have up to three
abbrev options : Options
options = record of_length_one { max_slice_len = 3 }

abbrev made : List Command
made = commands.Join (process 2) None ∷ commands.Port (asks.Client 0 (process 0) options) ∷ commands.Port (asks.Server 1 (process 0) options) ∷ []

abbrev state_here : Bool → State
state_here many = state_by (service (limits_here many)) made []

run_here : (many : Bool) → IsRun (service (limits_here many)) made (is_set_up []) (state_here many)
run_here true = is_run_to (service (limits_here true)) made (is_set_up []) [] refl refl
run_here false = is_run_to (service (limits_here false)) made (is_set_up []) [] refl refl

reached_here : (many : Bool) → IsReachableState (state_here many)
reached_here many =
    let h = steps_of (service (limits_here many)) (state_here many) made (is_set_up []) (run_here many) in
    record {
      limits = limits_here many;
      acts = follow;
      id = process 1;
      request = units_are_shaped many 7;
      response = units_are_shaped many 6;
      steps = h.0;
      history = h.1;
    }

lives : (many : Bool) (n : ℕ) → not_living (state_here many) n ≡ (if has_number n (0 ∷ 1 ∷ []) then None else Some UnknownNode)
lives many n = by_case many (0 == n) (1 == n) refl refl
  where
    by_case : (m a b : Bool) → (0 == n) ≡ a → (1 == n) ≡ b → not_living (state_here m) n ≡ (if has_number n (0 ∷ 1 ∷ []) then None else Some UnknownNode)
    by_case true true b is other = rw is refl
    by_case true false true is other = rw (is, other) refl
    by_case true false false is other = rw (is, other) refl
    by_case false true b is other = rw is refl
    by_case false false true is other = rw (is, other) refl
    by_case false false false is other = rw (is, other) refl

-- what the service has then
abbrev first_port : Bool → Port
first_port many = get_or (state_here many).fixed.ports 0 (port_of_ones 0 Client 4)

abbrev second_port : Bool → Port
second_port many = get_or (state_here many).fixed.ports 1 (port_of_ones 1 Server 9)

ports_are : (many : Bool) → (state_here many).fixed.ports ≡ first_port many ∷ second_port many ∷ []
ports_are true = refl
ports_are false = refl

limits_are : (many : Bool) → (state_here many).fixed.limits ≡ limits_here many
limits_are true = refl
limits_are false = refl

next_is : (many : Bool) → (state_here many).fixed.next_number ≡ 2
next_is true = refl
next_is false = refl

allowed_here : (many : Bool) → wire_refusal (state_here many) 0 true ≡ None
allowed_here true = refl
allowed_here false = refl

unhandled : (many b : Bool) → (if b then first_port many else second_port many).handler ≡ None
unhandled true true = refl
unhandled true false = refl
unhandled false true = refl
unhandled false false = refl

are_planned : (many : Bool) → AreAsPlanned (unit_client many ∷ unit_server many ∷ []) (first_port many ∷ second_port many ∷ [])
are_planned true = (
  record { number = refl; node = refl; role = refl; pool = refl; longest = refl },
  (record { number = refl; node = refl; role = refl; pool = refl; longest = refl }, tt),
)
are_planned false = (
  record { number = refl; node = refl; role = refl; pool = refl; longest = refl },
  (record { number = refl; node = refl; role = refl; pool = refl; longest = refl }, tt),
)

-- ---- its setting

abbrev setting : Bool → WirePlan → Setting
setting many plan = record {
  layout = layout_of plan;
  limits = limits_here many;
  port = λ n. if n == 0 then first_port many else second_port many;
  next_number = 2;
}

up_to_three : (role : Role) (k : ℕ) → k ≤ 3 → has_layout (shape_of (limits_here true) role) k ≡ true
up_to_three Client zero low = refl
up_to_three Client (suc zero) low = refl
up_to_three Client (suc (suc zero)) low = refl
up_to_three Client (suc (suc (suc zero))) low = refl
up_to_three Client (suc (suc (suc (suc k)))) low = absurd (omega (arith, low))
up_to_three Server zero low = refl
up_to_three Server (suc zero) low = refl
up_to_three Server (suc (suc zero)) low = refl
up_to_three Server (suc (suc (suc zero))) low = refl
up_to_three Server (suc (suc (suc (suc k)))) low = absurd (omega (arith, low))

up_to_one : (role : Role) (k : ℕ) → k ≤ 1 → has_layout (shape_of (limits_here false) role) k ≡ true
up_to_one Client zero low = refl
up_to_one Client (suc zero) low = refl
up_to_one Client (suc (suc k)) low = absurd (omega (arith, low))
up_to_one Server zero low = refl
up_to_one Server (suc zero) low = refl
up_to_one Server (suc (suc k)) low = absurd (omega (arith, low))

client_told : (many : Bool) (plan : WirePlan) (r : PortTerms) → IsPortOfOnes 4_294_967_296 0 r
    → IsPortWith ((setting many plan).port 0) (port_shape (setting many plan) 0) r
client_told true plan r of = record {
  held = refl;
  grows = refl;
  layouts = up_to_three Client;
  ids = of.ids;
  loaned_responses = sym of.loaned_responses;
  handler = refl;
  fails = sym of.fails;
}
client_told false plan r of = record {
  held = refl;
  grows = refl;
  layouts = up_to_one Client;
  ids = of.ids;
  loaned_responses = sym of.loaned_responses;
  handler = refl;
  fails = sym of.fails;
}

server_told : (many : Bool) (plan : WirePlan) (r : PortTerms) → IsPortOfOnes 8_589_934_592 1 r
    → IsPortWith ((setting many plan).port 1) (port_shape (setting many plan) 1) r
server_told true plan r of = record {
  held = refl;
  grows = refl;
  layouts = up_to_three Server;
  ids = of.ids;
  loaned_responses = sym of.loaned_responses;
  handler = refl;
  fails = sym of.fails;
}
server_told false plan r of = record {
  held = refl;
  grows = refl;
  layouts = up_to_one Server;
  ids = of.ids;
  loaned_responses = sym of.loaned_responses;
  handler = refl;
  fails = sym of.fails;
}

module _ (many : Bool) (plan : WirePlan) (terms : WireTerms) (is : IsPlanOfUnits many plan) (are : AreTermsOfUnits many terms) where
  abbrev p : Setting
  p = setting many plan

  numbers_are : port_numbers plan ≡ 0 ∷ 1 ∷ []
  numbers_are = ap (map (λ (q : PlanPort). q.number)) is.ports

  -- a header of so many words, no user header, and elements of no word
  shaped : (role : Role) → IsShapeOf (details_of plan role) role (shape_of (limits_here many) role)
  shaped Client = record {
    header_part = rw (is.request.header_size, is.request.header_alignment) refl;
    user_part = rw (is.request.user_size, is.request.user_alignment) refl;
    element_part = rw (is.request.payload_size, is.request.payload_alignment) refl;
    header = is.request.header_size;
    user = is.request.user_size;
    element = is.request.payload_size;
  }
  shaped Server = record {
    header_part = rw (is.response.header_size, is.response.header_alignment) refl;
    user_part = rw (is.response.user_size, is.response.user_alignment) refl;
    element_part = rw (is.response.payload_size, is.response.payload_alignment) refl;
    header = is.response.header_size;
    user = is.response.user_size;
    element = is.response.payload_size;
  }

  as_planned : AreAsPlanned plan.ports.items (first_port many ∷ second_port many ∷ [])
  as_planned = subst (λ qs. AreAsPlanned qs (first_port many ∷ second_port many ∷ [])) (sym is.ports) (are_planned many)

  buffers : (role : Role) → planned_buffer (limits_of_ones false false) role ≡ buffer_of (limits_here many) role
  buffers Client = refl
  buffers Server = refl

  borrows : (role : Role) → planned_limit (limits_of_ones false false) role ≡ borrow_limit_of (limits_here many) role
  borrows Client = refl
  borrows Server = refl

  overflows : (role : Role) → planned_overflow (limits_of_ones false false) role ≡ overflow_of (limits_here many) role
  overflows Client = refl
  overflows Server = refl

  buffered : (role : Role) → 0 < planned_buffer (limits_of_ones false false) role
  buffered Client = omega arith
  buffered Server = omega arith

  plan_for : IsPlanFor plan (limits_here many) (first_port many ∷ second_port many ∷ [])
  plan_for = record {
    ports = as_planned;
    shapes = shaped;
    buffers = λ role. ap (λ (l : PlanLimits). planned_buffer l role) is.limits ∙ buffers role;
    borrows = λ role. ap (λ (l : PlanLimits). planned_limit l role) is.limits ∙ borrows role;
    overflows = λ role. ap (λ (l : PlanLimits). planned_overflow l role) is.limits ∙ overflows role;
  }

  -- ---- the terms

  ports_told : (ts : List PortTerms) → ArePortsOfOnes ts → (i : ℕ) → i < 2
      → IsSomeAnd (slice_get ts i) (IsPortWith (p.port (slice_index (0 ∷ 1 ∷ []) i)) (port_shape p (slice_index (0 ∷ 1 ∷ []) i)))
  ports_told (c ∷ s ∷ []) of zero low = client_told many plan c of.0
  ports_told (c ∷ s ∷ []) of (suc zero) low = server_told many plan s of.1
  ports_told (c ∷ s ∷ []) of (suc (suc i)) low = absurd (omega (arith, low))
  ports_told [] of i low = absurd of
  ports_told (c ∷ []) of i low = absurd of
  ports_told (c ∷ s ∷ t ∷ ts) of i low = absurd of

  two : (i : ℕ) → i < length plan.ports.items → i < 2
  two i low = subst (λ (qs : List PlanPort). i < length qs) is.ports low

  many_told : (role : Role) → (shape_of (limits_here many) role).many ≡ (messages_of terms role).many
  many_told Client = sym are.request.many_is
  many_told Server = sym are.response.many_is

  user : (role : Role) → (shape_of (limits_here many) role).user ≡ (messages_of terms role).user.items
  user Client = sym are.request.user
  user Server = sym are.response.user

  told : IsSettingWith plan terms p
  told = record {
    setting = record {
      layout = refl;
      is_for = subst (λ (qs : List Port). IsPlanFor plan (limits_here many) qs) (sym (ap (map p.port) numbers_are)) plan_for;
    };
    many = many_told;
    user = user;
    clients = sym are.clients;
    loaned_requests = sym are.loaned_requests;
    fire_and_forget = sym are.fire_and_forget;
    first_number = sym are.first_number;
    ports = λ i low.
        subst (λ ns. IsSomeAnd (slice_get terms.ports.items i) (IsPortWith (p.port (slice_index ns i)) (port_shape p (slice_index ns i)))) (sym numbers_are)
        (ports_told terms.ports.items are.ports i (two i low));
  }

  -- ---- they are whole

  whole_port : (process number : ℕ) (r : PortTerms) → IsPortOfOnes process number r → IsWholePort plan terms r
  whole_port process number r of =
      let active : plan.limits.active_requests ≡ 1 = ap (λ (l : PlanLimits). l.active_requests) is.limits in
      record {
        ids = ap length of.ids;
        each = rw (of.loaned_responses, active) (omega arith);
        all = rw (of.loaned_responses, active, are.clients) (omega arith);
      }

  whole_ports : (ts : List PortTerms) → ArePortsOfOnes ts → (i : ℕ) → i < 2 → IsSomeAnd (slice_get ts i) (IsWholePort plan terms)
  whole_ports (c ∷ s ∷ []) of zero low = whole_port 4_294_967_296 0 c of.0
  whole_ports (c ∷ s ∷ []) of (suc zero) low = whole_port 8_589_934_592 1 s of.1
  whole_ports (c ∷ s ∷ []) of (suc (suc i)) low = absurd (omega (arith, low))
  whole_ports [] of i low = absurd of
  whole_ports (c ∷ []) of i low = absurd of
  whole_ports (c ∷ s ∷ t ∷ ts) of i low = absurd of

  user_bytes : (role : Role) → (details_of plan role).user_header.size ≡ 8 * length (messages_of terms role).user.items
  user_bytes Client = is.request.user_size ∙ sym (ap (λ us. 8 * length us) are.request.user)
  user_bytes Server = is.response.user_size ∙ sym (ap (λ us. 8 * length us) are.response.user)

  slot_there : (i : ℕ) → i < 2 → IsSomeAnd (slice_get (unit_client many ∷ unit_server many ∷ []) i) (λ q. 0 < q.pool)
  slot_there zero low = omega arith
  slot_there (suc zero) low = omega arith
  slot_there (suc (suc i)) low = absurd (omega (arith, low))

  pub whole_terms : AreWhole plan terms
  whole_terms = record {
    fit = record { ports = λ i low. whole_ports terms.ports.items are.ports i (two i low); user = user_bytes };
    slots = λ i low. subst (λ (qs : List PlanPort). IsSomeAnd (slice_get qs i) (λ q. 0 < q.pool)) (sym is.ports) (slot_there i (two i low));
    room = λ role over. subst (λ (l : PlanLimits). 0 < planned_buffer l role) (sym is.limits) (buffered role);
  }

  -- ---- it opens

  plan_of_state : IsPlanFor plan (state_here many).fixed.limits (state_here many).fixed.ports
  plan_of_state =
      subst (λ (l : Limits). IsPlanFor plan l (state_here many).fixed.ports) (sym (limits_are many))
      (subst (λ (qs : List Port). IsPlanFor plan (limits_here many) qs) (sym (ports_are many)) plan_for)

  opens : WireOpensOn plan terms (0 ∷ 1 ∷ []) p (state_here many)
  opens = record {
    agrees = record {
      layout = refl;
      plan_of = plan_of_state;
      limits = limits_are many;
      ports = ports_are many ∙ sym (ap (map p.port) numbers_are);
      unhandled = λ n. unhandled many (n == 0);
      next_number = next_is many;
    };
    told = told;
    reached = reached_here many;
    allowed = allowed_here many;
    living = lives many;
  }

  pub may_open : (q : Setting) × (s : State) × WireOpensOn plan terms (0 ∷ 1 ∷ []) q s
  may_open = (p, state_here many, opens)
