-- Where the requests of a client return to it.
use Rattle.std.proofs.Common.{◌≡◌, ℕ, ◌<◌, ◌^◌, Bool, true, false, ◌&&◌, not, List, [], ◌∷◌, ◌++◌, length, refl, ap, sym, subst, ◌∙◌, arith, true≢false}
use Rattle.std.specs.Prelude.{Option, Some, None, IsSomeAnd, slice_get}
use Rattle.std.specs.Option.{option_map_or}
use Rattle.iox_model.specs.declared.kind.Role.{Role}
use Rattle.iox_model.specs.declared.kind.Role.TheVariants.{Client, Server}
use Rattle.iox_model.specs.Maps.{has_number}
use Rattle.iox_model.specs.Settings.{same_role}
use Rattle.iox_steps.specs.declared.site.QueueKind.TheVariants.{Index}
use Rattle.iox_word_map.specs.WordMaps.{ReturningQueue, total_words}
use Rattle.iox_wire_messages.specs.PlanPort.{PlanPort}
use Rattle.iox_wire_messages.specs.WirePlan.{WirePlan}
use Rattle.iox_wire_messages.specs.WayIndex.TheVariants.{Requests}
use Rattle.iox_wire_messages.specs.Plans.{IsPlan, IsPortAt, layout_of, returning_room, sizes_of, way_at}
use Rattle.iox_wire_messages.proofs.WayLemmas.{sender_role}
use Rattle.iox_wire_messages.specs.Programs.{WireLayout, site_of}
use Rattle.iox_wire_messages.specs.Tables.{Setting}
use Rattle.iox_wire_copies.specs.Lenders.{AreReturning}
use Rattle.iox_wire_messages.specs.Stop.{Stop}
use Rattle.iox_wire_messages.specs.Aims.{IsInMemory, QueuesInMemory, queue_at}
use Rattle.iox_wire_messages.proofs.BeginLemmas.{queue_in_memory}
use Rattle.iox_wire_ways.specs.Visits.{is_other, returning_stop}
use Rattle.iox_wire_ways.proofs.ListLemmas.{all_made, made_before}

-- ---- a port of that role is there

there_of : (role : Role) (forgot : List ℕ) (o : Option PlanPort) → option_map_or (is_other role forgot) o false ≡ true → IsSomeAnd o (λ q. q.role ≡ role)
there_of role forgot None is = absurd (true≢false (sym is))
there_of role forgot (Some q) is = same q.role role (has_number q.node forgot) is
  where
    same : (a b : Role) (gone : Bool) → (same_role a b && not gone) ≡ true → a ≡ b
    same Client Client gone e = refl
    same Server Server gone e = refl
    same Client Server gone e = absurd (true≢false (sym e))
    same Server Client gone e = absurd (true≢false (sym e))

pub port_is_there : (plan : WirePlan) (role : Role) (forgot : List ℕ) (i : ℕ)
    → option_map_or (is_other role forgot) (slice_get plan.ports.items i) false ≡ true → IsPortAt plan role i
port_is_there plan role forgot i is = there_of role forgot (slice_get plan.ports.items i) is

-- ---- the queue there

pub room_is : (plan : WirePlan) (client server : ℕ) → IsPlan plan → IsPortAt plan Client client → IsPortAt plan Server server
    → (site_of (layout_of plan) (ReturningQueue (way_at plan (Requests client server)))).capacity ≡ returning_room plan.limits Client
room_is plan client server is c s = ap (λ (r : Role). returning_room plan.limits r) (sender_role plan is (Requests client server) (c, s))

queue_is : (plan : WirePlan) (client server : ℕ) → IsPlan plan → IsPortAt plan Client client → IsPortAt plan Server server
    → queue_at Index (returning_room plan.limits Client) (returning_stop plan client server)
    ≡ site_of (layout_of plan) (ReturningQueue (way_at plan (Requests client server)))
queue_is plan client server is c s =
    ap (λ (n : ℕ). queue_at Index n (returning_stop plan client server)) (sym (room_is plan client server is c s))

returning_append : (p : Setting) (room : ℕ) (xs : List Stop) (s : Stop) → AreReturning p room xs
    → queue_at Index room s ≡ site_of p.layout (ReturningQueue s.way) → AreReturning p room (xs ++ s ∷ [])
returning_append p room [] s are is = (is, tt)
returning_append p room (x ∷ xs) s are is = (are.0, returning_append p room xs s are.1 is)

memory_append : (room : ℕ) (xs : List Stop) (s : Stop) → QueuesInMemory Index room xs → IsInMemory (queue_at Index room s)
    → QueuesInMemory Index room (xs ++ s ∷ [])
memory_append room [] s are is = (is, tt)
memory_append room (x ∷ xs) s are is = (are.0, memory_append room xs s are.1 is)

-- ---- all of them

pub all_return : (plan : WirePlan) (p : Setting) (forgot : List ℕ) (client k : ℕ) → IsPlan plan → p.layout ≡ layout_of plan → IsPortAt plan Client client
    → AreReturning p (returning_room plan.limits Client) (made_before Stop plan (is_other Server forgot) (returning_stop plan client) k)
all_return plan p forgot client k is same c =
    all_made Stop plan (is_other Server forgot) (returning_stop plan client) (AreReturning p (returning_room plan.limits Client)) tt
    (λ xs i visited are. returning_append p (returning_room plan.limits Client) xs (returning_stop plan client i) are
    (queue_is plan client i is c (port_is_there plan Server forgot i visited)
    ∙ ap (λ (l : WireLayout). site_of l (ReturningQueue (way_at plan (Requests client i)))) (sym same))) k

pub all_in_memory : (plan : WirePlan) (forgot : List ℕ) (client k total : ℕ) → IsPlan plan → IsPortAt plan Client client
    → total ≡ total_words (sizes_of plan) → total < 2 ^ 64
    → QueuesInMemory Index (returning_room plan.limits Client) (made_before Stop plan (is_other Server forgot) (returning_stop plan client) k)
all_in_memory plan forgot client k total is c total_is fits =
    all_made Stop plan (is_other Server forgot) (returning_stop plan client) (QueuesInMemory Index (returning_room plan.limits Client)) tt
    (λ xs i visited are. memory_append (returning_room plan.limits Client) xs (returning_stop plan client i) are
    (subst IsInMemory (sym (queue_is plan client i is c (port_is_there plan Server forgot i visited)))
    (queue_in_memory plan (Requests client i) total is (c, port_is_there plan Server forgot i visited) total_is fits).1)) k

-- ---- how many may return, if any may

pub returning_with : (p : Setting) (room n : ℕ) (xs : List Stop) → (0 < length xs → n ≡ room) → AreReturning p room xs → AreReturning p n xs
returning_with p room n [] same are = tt
returning_with p room n (x ∷ xs) same are = subst (λ (m : ℕ). AreReturning p m (x ∷ xs)) (sym (same (omega arith))) are

pub memory_with : (room n : ℕ) (xs : List Stop) → (0 < length xs → n ≡ room) → QueuesInMemory Index room xs → QueuesInMemory Index n xs
memory_with room n [] same are = tt
memory_with room n (x ∷ xs) same are = subst (λ (m : ℕ). QueuesInMemory Index m (x ∷ xs)) (sym (same (omega arith))) are
