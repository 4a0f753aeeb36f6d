-- How the release of a received message begins, and that the queues of a map are in memory.
use Rattle.std.proofs.Common.{◌≡◌, ℕ, zero, suc, ◌+◌, ◌<◌, ◌≤◌, ◌^◌, ◌==◌, ◌&&◌, ◌||◌, Bool, true, false, List, [], ◌∷◌, length, map, slice_index, refl, ap, ap₂, sym, subst, ◌∙◌, arith, eqb-true, eq-eqb, true≢false, if◌then◌else◌}
use Rattle.std.proofs.lemmas.List.{length-map}
use Rattle.std.specs.List.{list_any}
use Rattle.iox_model.specs.declared.kind.Kind.TheVariants.{ActiveRequest, PendingResponse, Response}
use Rattle.iox_model.specs.declared.way.Way.{Way}
use Rattle.iox_model.specs.Handles.{is_received, same_kind}
use Rattle.iox_model.specs.Maps.{has_number, AreDistinct}
use Rattle.iox_model.specs.Messages.{request_way, response_way}
use Rattle.iox_model.specs.Peers.{forgot_port}
use Rattle.iox_steps.specs.Sites.{size}
use Rattle.iox_steps.specs.declared.push.Push.TheVariants as push
use Rattle.iox_steps.specs.declared.side.Pushing.TheVariants as pushing
use Rattle.iox_word_map.specs.WordMaps.{WireQueue, MessageQueue, ReturningQueue, QueueWords, IsQueue, piece_place, piece_size, total_words}
use Rattle.iox_word_map.proofs.Pieces.{pieces_are_within}
use Rattle.iox_word_places.specs.Programs.{WireLayout, site_of}
use Rattle.iox_word_places.specs.declared.plan.PlanPort.{PlanPort}
use Rattle.iox_word_places.specs.declared.plan.WirePlan.{WirePlan}
use Rattle.iox_word_places.specs.declared.way_index.WayIndex.{WayIndex}
use Rattle.iox_word_places.specs.declared.way_index.WayIndex.TheVariants.{Requests, Responses}
use Rattle.iox_word_places.specs.Plans.{IsPlan, IsWayAt, layout_of, sizes_of, way_at, number_at}
use Rattle.iox_word_places.proofs.PlanLawProofs.{plans_are_sized, ways_are_of_the_wire}
use Rattle.iox_wire_locals.specs.declared.table.Entry.{Entry}
use Rattle.iox_wire_locals.specs.declared.local.Ending.TheVariants as endings
use Rattle.iox_wire_locals.specs.declared.local.Local.TheVariants.{Ends, ReleaseReturns}
use Rattle.iox_wire_locals.specs.declared.seat.Seat.{Seat}
use Rattle.iox_wire_locals.specs.Tables.{Setting, way_in}
use Rattle.iox_wire_locals.specs.Known.{known}
use Rattle.iox_wire_locals.specs.Courses.{placed, ended}
use Rattle.iox_wire_locals.specs.ReceiveCourses.{releasing, returning, closing, states_for}
use Rattle.iox_wire_seats.specs.Seats.{Agrees, ArePorts, node_at}
use Rattle.iox_wire_seats.specs.Aims.{IsInMemory}

-- ---- memory

pub queue_in_memory : (plan : WirePlan) (way : WayIndex) (total : ℕ) → IsPlan plan → IsWayAt plan way
    → total ≡ total_words (sizes_of plan) → total < 2 ^ 64
    → IsInMemory (site_of (layout_of plan) (MessageQueue (way_at plan way)))
    × IsInMemory (site_of (layout_of plan) (ReturningQueue (way_at plan way)))
queue_in_memory plan way total is at e fits =
    (within (MessageQueue (way_at plan way)) (ways_are_of_the_wire plan is way at), within (ReturningQueue (way_at plan way)) (ways_are_of_the_wire plan is way at))
  where
    within : (q : WireQueue) → IsQueue (sizes_of plan) q → IsInMemory (site_of (layout_of plan) q)
    within q here =
        let s : size (site_of (layout_of plan) q) ≡ piece_size (sizes_of plan) (QueueWords q) = plans_are_sized plan is q here in
        let w : piece_place (sizes_of plan) (QueueWords q) + piece_size (sizes_of plan) (QueueWords q) ≤ total_words (sizes_of plan) =
        pieces_are_within (sizes_of plan) (QueueWords q) here in
        omega (arith, s, w, e, fits)

-- ---- whether a sender is forgotten

differs : (n k : ℕ) (ks : List ℕ) (i : ℕ) → has_number n ks ≡ false → i < length ks → (n == slice_index ks i) ≡ false
differs n k [] i none h = absurd (omega (arith, h))
differs n k (m ∷ ks) zero none h = by_case (n == m) refl
  where
    by_case : (t : Bool) → (n == m) ≡ t → t ≡ false
    by_case true e = sym (ap (λ t. t || has_number n ks) (eq-eqb m n (sym (eqb-true n m e)))) ∙ none
    by_case false e = refl
differs n k (m ∷ ks) (suc i) none h = differs n k ks i (rest (m == n) none) (omega (arith, h))
  where
    rest : (t : Bool) → (t || has_number n ks) ≡ false → has_number n ks ≡ false
    rest true e = absurd (true≢false e)
    rest false e = e

other_node : (p : Setting) (n : ℕ) (forgot : List ℕ) (ps : List PlanPort) → ArePorts p ps → has_number n (map (λ q. q.number) ps) ≡ false
    → list_any (λ q. (q.number == n) && has_number q.node forgot) (map p.port (map (λ q. q.number) ps)) ≡ false
other_node p n forgot [] are none = refl
other_node p n forgot (q ∷ ps) are none =
    step (q.number == n) refl none (other_node p n forgot ps are.2)
  where
    step : (t : Bool) → (q.number == n) ≡ t → (t || has_number n (map (λ q. q.number) ps)) ≡ false
        → (has_number n (map (λ q. q.number) ps) ≡ false
        → list_any (λ q. (q.number == n) && has_number q.node forgot) (map p.port (map (λ q. q.number) ps)) ≡ false)
        → (((p.port q.number).number == n) && has_number (p.port q.number).node forgot) || list_any (λ q. (q.number == n) && has_number q.node forgot) (map p.port (map (λ q. q.number) ps)) ≡ false
    step true e none rest = absurd (true≢false none)
    step false e none rest =
        ap (λ m. ((m == n) && has_number (p.port q.number).node forgot) || list_any (λ q. (q.number == n) && has_number q.node forgot) (map p.port (map (λ q. q.number) ps))) are.0
        ∙ ap (λ t. (t && has_number (p.port q.number).node forgot) || list_any (λ q. (q.number == n) && has_number q.node forgot) (map p.port (map (λ q. q.number) ps))) e
        ∙ rest none

forgot_at : (p : Setting) (forgot : List ℕ) (ps : List PlanPort) (i : ℕ) → ArePorts p ps → AreDistinct (map (λ q. q.number) ps) → i < length ps
    → list_any (λ q. (q.number == slice_index (map (λ q. q.number) ps) i) && has_number q.node forgot) (map p.port (map (λ q. q.number) ps))
    ≡ has_number (slice_index (map (λ q. q.node) ps) i) forgot
forgot_at p forgot [] i are apart h = absurd (omega (arith, h))
forgot_at p forgot (q ∷ ps) zero are apart h =
    ap₂ (λ m k. ((m == q.number) && has_number k forgot) || list_any (λ r. (r.number == q.number) && has_number r.node forgot) (map p.port (map (λ r. r.number) ps))) are.0 are.1
    ∙ ap₂ (λ t u. (t && has_number q.node forgot) || u) (eq-eqb q.number q.number refl) (other_node p q.number forgot ps are.2 apart.0)
    ∙ or_false (has_number q.node forgot)
  where
    or_false : (t : Bool) → (t || false) ≡ t
    or_false true = refl
    or_false false = refl
forgot_at p forgot (q ∷ ps) (suc i) are apart h =
    ap (λ m. ((m == slice_index (map (λ q. q.number) ps) i) && has_number (p.port q.number).node forgot) || list_any (λ r. (r.number == slice_index (map (λ q. q.number) ps) i) && has_number r.node forgot) (map p.port (map (λ r. r.number) ps))) are.0
    ∙ ap (λ t. (t && has_number (p.port q.number).node forgot) || list_any (λ r. (r.number == slice_index (map (λ q. q.number) ps) i) && has_number r.node forgot) (map p.port (map (λ r. r.number) ps)))
    (differs q.number 0 (map (λ q. q.number) ps) i apart.0 (subst (λ n. i < n) (sym (length-map ps (λ q. q.number))) (omega (arith, h))))
    ∙ forgot_at p forgot ps i are.2 apart.1 (omega (arith, h))

pub forgot_is : (p : Setting) (plan : WirePlan) (x : Seat) (i : ℕ) → Agrees p plan → IsPlan plan → i < length plan.ports.items
    → forgot_port (known p x) x.node (number_at plan i) ≡ has_number (node_at plan i) x.forgot
forgot_is p plan x i agrees is h =
    ap (λ (ns : List ℕ). list_any (λ q. (q.number == number_at plan i) && has_number q.node x.forgot) (map p.port ns)) (ap (λ (l : WireLayout). l.sizes.ports) agrees.layout)
    ∙ forgot_at p x.forgot plan.ports.items i agrees.ports is.numbers h

-- ---- releases

abbrev pub drops_or_returns : Seat → Entry → Bool → Seat
drops_or_returns x e forgot =
    if forgot then placed x (Ends (endings.Drops e)) else placed x (ReleaseReturns e (pushing.Pushes (push.LoadsWrite e.slot)))

-- a release continues as the sender is forgotten or not
releases : (p : Setting) (x : Seat) (e : Entry) (port : ℕ) (forgot : Bool) → is_received e.kind ≡ true → (way_in e).sender ≡ port
    → forgot_port (known p x) x.node port ≡ forgot → drops_or_returns x e forgot ≡ releasing p x e
releases p x e port forgot received sender is =
    sym (ap (λ t. drops_or_returns x e t) (ap (forgot_port (known p x) x.node) sender ∙ is))
    ∙ sym (ap (λ t. if t then returning p x e else (if same_kind e.kind PendingResponse then closing x e (states_for p x e) else ended x (endings.Drops e))) received)

pub response_releases : (p : Setting) (plan : WirePlan) (x : Seat) (e : Entry) (client server : ℕ) (forgot : Bool) → Agrees p plan → IsPlan plan
    → server < length plan.ports.items → e.kind ≡ Response → way_at plan (Responses client server e.lane) ≡ response_way e.port e.lane e.sender
    → has_number (node_at plan server) x.forgot ≡ forgot → drops_or_returns x e forgot ≡ releasing p x e
response_releases p plan x e client server forgot agrees is h kind way known =
    releases p x e (number_at plan server) forgot (ap is_received kind)
    (ap (λ k. (if same_kind k ActiveRequest then request_way e.client e.port else response_way e.port e.lane e.sender).sender) kind
    ∙ sym (ap (λ (w : Way). w.sender) way))
    (forgot_is p plan x server agrees is h ∙ known)

pub request_releases : (p : Setting) (plan : WirePlan) (x : Seat) (e : Entry) (client server : ℕ) (forgot : Bool) → Agrees p plan → IsPlan plan
    → client < length plan.ports.items → e.kind ≡ ActiveRequest → way_at plan (Requests client server) ≡ request_way e.client e.port
    → has_number (node_at plan client) x.forgot ≡ forgot → drops_or_returns x e forgot ≡ releasing p x e
request_releases p plan x e client server forgot agrees is h kind way known =
    releases p x e (number_at plan client) forgot (ap is_received kind)
    (ap (λ k. (if same_kind k ActiveRequest then request_way e.client e.port else response_way e.port e.lane e.sender).sender) kind
    ∙ sym (ap (λ (w : Way). w.sender) way))
    (forgot_is p plan x client agrees is h ∙ known)
