-- What is so of the limits and the ports of each state that a service reached.
use Rattle.std.specs.Prelude.{max, nat_le, nat_lt, not, ◌||◌, ◌-◌}
use Rattle.std.specs.List.{All}
use Rattle.std.proofs.Common.{◌≡◌, ℕ, ◌*◌, ◌≤◌, ◌^◌, ◌==◌, Bool, true, false, if◌then◌else◌, List, [], ◌∷◌, ◌++◌, length, map, filter, unwrap_or, Option, Some, None, refl, sym, arith, true≢false}
use Rattle.std.proofs.lemmas.Bool.{ltb-false}
use Rattle.std.proofs.lemmas.List.Elements.{All-cons, All-filter, All-head, All-nil, All-push, All-tail}
use Rattle.std.proofs.lemmas.Option.{none-some}
use Rattle.iox_types.specs.declared.identifiers.system_id.UniqueSystemId.{UniqueSystemId}
use Rattle.iox_model.specs.Commands.{Options, Refusal}
use Rattle.iox_model.specs.Ends.{port_dropped}
use Rattle.iox_model.specs.Makings.{chosen_pool, is_large, longest_of, making_refusal, most_ports, new_port, too_many_ports, worst_pool}
use Rattle.iox_model.specs.Maps.{or_else, refused_if}
use Rattle.iox_model.specs.Peers.{ports_of_role}
use Rattle.iox_model.specs.Runs.{IsReachableState, raised}
use Rattle.iox_model.specs.Settings.{Limits, has_layout, is_count, max_slots, message_size, shape_of}
use Rattle.iox_model.specs.States.{Fixed, Port, State}
use Rattle.iox_model.specs.declared.kind.Role.{Role}
use Rattle.iox_model.specs.declared.reply.Refusal.TheVariants.{UnableToCreateDataSegment, UnableToCreatePortTag}
use Rattle.iox_laws.proofs.WeaveLaws.MapLemmas.{either}
use Rattle.iox_laws.proofs.WeaveLaws.WholeLemmas.{or_else-none}
use Rattle.iox_laws.proofs.WeaveWorlds.Inductions.{reached_keeps}
use Rattle.iox_laws.proofs.WeaveWorlds.PortsKept.{IsSteady, is_kept}

-- What is so of each port, under these limits.
pub record IsMade (l : Limits) (p : Port) : Type 0 where
  pub lends : 1 ≤ p.loaned_responses
  pub pool : p.pool ≤ max_slots
  pub counted : is_count (shape_of l p.role) p.longest ≡ true

-- Each limit is 1 or more, and so it is of each port.
pub record IsPositive (l : Limits) (ps : List Port) : Type 0 where
  pub requests : 1 ≤ l.active_requests
  pub buffer : 1 ≤ l.response_buffer
  pub borrows : 1 ≤ l.borrowed_responses
  pub clients : 1 ≤ l.clients
  pub loans : 1 ≤ l.loaned_requests
  pub each : All (IsMade l) ps

one_at_least : (n : ℕ) → 1 ≤ max 1 n
one_at_least n = omega arith

-- ---- ports whose values are released

dropped_is_made : (l : Limits) (port : ℕ) (p : Port) → IsMade l p → IsMade l (port_dropped port p)
dropped_is_made l port p made =
    either (λ (q : Port). IsMade l q) (p.number == port) (record p { held = false }) p
    (λ u. record { lends = made.lends; pool = made.pool; counted = made.counted }) (λ u. made)

all_dropped : (l : Limits) (port : ℕ) (ps : List Port) → All (IsMade l) ps → All (IsMade l) (map (port_dropped port) ps)
all_dropped l port [] each = All-nil (IsMade l)
all_dropped l port (p ∷ ps) each =
    All-cons (IsMade l) (port_dropped port p) (map (port_dropped port) ps) (dropped_is_made l port p (All-head (IsMade l) p ps each))
    (all_dropped l port ps (All-tail (IsMade l) p ps each))

-- ---- a port that is made

pub passed : {A : Type 0} (b : Bool) (x : A) → refused_if b x ≡ None → b ≡ false
passed false x is = refl
passed true x is = absurd (none-some x (sym is))

pub neither : (a b : Bool) → (a || b) ≡ false → (a ≡ false) × (b ≡ false)
neither false false is = (refl, refl)
neither false true is = absurd (true≢false is)
neither true b is = absurd (true≢false is)

few_messages : (f : Fixed) (role : Role) (o : Options) (memory : Bool) → making_refusal f role o memory ≡ None → chosen_pool f.limits role o ≤ max_slots
few_messages f role o memory allowed = ltb-false max_slots (chosen_pool f.limits role o) counts.1
  where
    rest : Option Refusal
    rest = refused_if (nat_le (most_ports f.limits role) (length (ports_of_role f role))) (too_many_ports role)

    segment : (is_large f.limits role o || not memory) ≡ false
    segment =
        passed (is_large f.limits role o || not memory) UnableToCreateDataSegment
        (or_else-none (refused_if (is_large f.limits role o || not memory) UnableToCreateDataSegment) rest
        (or_else-none (refused_if (nat_le (2 ^ 32) f.ports_made) UnableToCreatePortTag)
        (or_else (refused_if (is_large f.limits role o || not memory) UnableToCreateDataSegment) rest) allowed).1).0

    large : is_large f.limits role o ≡ false
    large = (neither (is_large f.limits role o) (not memory) segment).0

    counts : (nat_le (2 ^ 64) (worst_pool f.limits role o) ≡ false) × (nat_lt max_slots (chosen_pool f.limits role o) ≡ false)
    counts =
        neither (nat_le (2 ^ 64) (worst_pool f.limits role o)) (nat_lt max_slots (chosen_pool f.limits role o))
        (neither (nat_le (2 ^ 64) (worst_pool f.limits role o) || nat_lt max_slots (chosen_pool f.limits role o))
        (not (has_layout (shape_of f.limits role) (longest_of (shape_of f.limits role) o))
        || nat_le (2 ^ 64) (chosen_pool f.limits role o * message_size (shape_of f.limits role) (longest_of (shape_of f.limits role) o))) large).0

one_or_many : (many : Bool) (n : ℕ) → (many || ((if many then n else 1) == 1)) ≡ true
one_or_many true n = refl
one_or_many false n = refl

new_is_made : (f : Fixed) (node : ℕ) (role : Role) (id : UniqueSystemId) (o : Options) (memory : Bool) → making_refusal f role o memory ≡ None
    → IsMade f.limits (new_port f node role id o)
new_is_made f node role id o memory allowed = record {
  lends = one_at_least (unwrap_or o.loaned_responses f.limits.loaned_responses);
  pool = few_messages f role o memory allowed;
  counted = one_or_many (shape_of f.limits role).many o.max_slice_len;
}

-- ---- states

-- the same limits with other ports
with_ports : (l : Limits) (ps qs : List Port) → All (IsMade l) qs → IsPositive l ps → IsPositive l qs
with_ports l ps qs each p = record {
  requests = p.requests;
  buffer = p.buffer;
  borrows = p.borrows;
  clients = p.clients;
  loans = p.loans;
  each = each;
}

steady : IsSteady (λ l ps n. IsPositive l ps)
steady = record {
  numbers = λ l ps n p. p;
  filters = λ l ps n keep p. with_ports l ps (filter keep ps) (All-filter keep (IsMade l) ps p.each) p;
  drops = λ l ps n port p. with_ports l ps (map (port_dropped port) ps) (all_dropped l port ps p.each) p;
}

created_is_positive : (l : Limits) → IsPositive (raised l) []
created_is_positive l = record {
  requests = one_at_least l.active_requests;
  buffer = one_at_least l.response_buffer;
  borrows = one_at_least l.borrowed_responses;
  clients = one_at_least l.clients;
  loans = one_at_least l.loaned_requests;
  each = All-nil (IsMade (raised l));
}

pub reached_is_positive : (s : State) → IsReachableState s → IsPositive s.fixed.limits s.fixed.ports
reached_is_positive =
    reached_keeps (λ t. IsPositive t.fixed.limits t.fixed.ports)
    (is_kept (λ l ps n. IsPositive l ps) steady
    (λ f node role id o memory allowed p.
    with_ports f.limits f.ports (f.ports ++ new_port f node role id o ∷ [])
    (All-push (IsMade f.limits) f.ports (new_port f node role id o) p.each (new_is_made f node role id o memory allowed)) p))
    (λ l acts id. created_is_positive l)
