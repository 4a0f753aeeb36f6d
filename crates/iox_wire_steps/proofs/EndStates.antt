-- The states of pending responses as a call ends: a node looks at no further server then.
use Rattle.std.specs.Prelude.{◌⊎◌, ◌++◌, filter, map, not}
use Rattle.std.proofs.Common.{◌≡◌, ℕ, ◌-◌, Bool, true, false, if◌then◌else◌, ◌&&◌, List, [], ◌∷◌, Some, refl, ap, sym, subst, ◌∙◌, inl, inr, true≢false}
use Rattle.iox_model.specs.declared.kind.Kind.TheVariants.{PendingResponse}
use Rattle.iox_model.specs.declared.kind.Role.TheVariants.{Server}
use Rattle.iox_model.specs.declared.way.RequestState.{RequestState}
use Rattle.iox_model.specs.declared.way.Way.{Way}
use Rattle.iox_model.specs.Handles.{is_received, is_request_loan, same_kind}
use Rattle.iox_model.specs.Maps.{has_number}
use Rattle.iox_model.specs.Messages.{response_way}
use Rattle.iox_model.specs.Peers.{others}
use Rattle.iox_model.specs.Settings.{same_role}
use Rattle.iox_model.specs.States.{Port}
use Rattle.iox_laws.proofs.WeaveLaws.WholeLemmas.{split}
use Rattle.iox_laws.proofs.WeaveLedger.Lists.{IsAmong, among-filter, among-front, among-map, among-number, filter-among, map-among, number-among}
use Rattle.iox_laws.proofs.WeaveLedger.Truths.{both_true, false_if}
use Rattle.iox_wire_locals.specs.declared.local.Ending.{Ending}
use Rattle.iox_wire_locals.specs.declared.local.Ending.TheVariants as endings
use Rattle.iox_wire_locals.specs.declared.seat.Seat.{Seat}
use Rattle.iox_wire_locals.specs.declared.table.Entry.{Entry}
use Rattle.iox_wire_locals.specs.Desks.{at_count, at_desk, gives_up}
use Rattle.iox_wire_locals.specs.Known.{known}
use Rattle.iox_wire_locals.specs.Settlements as settle
use Rattle.iox_wire_locals.specs.Steps.{closed}
use Rattle.iox_wire_locals.specs.Tables.{Setting, way_in}
use Rattle.iox_wire_laws.specs.WireShows.OwnedCalls.{Each}
use Rattle.iox_wire_laws.specs.WireOwners.Releases.{HasOwnStates}
use Rattle.iox_wire_laws.specs.WireOwners.RequestStates.{NamesNoOther}
use Rattle.iox_wire_laws.proofs.WireRegions.OwnPorts.{each_map}

-- ---- the node that is left

-- the same node, which forgot all that it forgot before
pub record Forgot (x y : Seat) : Type 0 where
  pub node : y.node ≡ x.node
  pub forgot : (k : ℕ) → has_number k x.forgot ≡ true → has_number k y.forgot ≡ true

itself : (x y : Seat) → y.node ≡ x.node → y.forgot ≡ x.forgot → Forgot x y
itself x y node forgot = record { node = node; forgot = λ k has. ap (has_number k) forgot ∙ has }

module _ (p : Setting) (x : Seat) where
  sent : (k : Entry) (copied : Bool) (count : ℕ) (request : Bool) → Forgot x (if request then settle.sends_entry x k copied count else settle.sends_away x k copied)
  sent k true count true = itself x (settle.sends_entry x k true count) refl refl
  sent k true count false = itself x (settle.sends_away x k true) refl refl
  sent k false count true = itself x (settle.sends_entry x k false count) refl refl
  sent k false count false = itself x (settle.sends_away x k false) refl refl

  failed : (k : Entry) (copied : Bool) → Forgot x (settle.after_refused_send x k copied)
  failed k true = itself x (settle.after_refused_send x k true) refl refl
  failed k false = itself x (settle.after_refused_send x k false) refl refl

  dropped : (k : Entry) (b : Bool) → Forgot x (settle.loses (if b then at_count x (way_in k) (λ n. n - 1) else at_desk x k.port (gives_up k)) k)
  dropped k true = itself x (settle.loses (at_count x (way_in k) (λ n. n - 1)) k) refl refl
  dropped k false = itself x (settle.loses (at_desk x k.port (gives_up k)) k) refl refl

  forgets : (dead : ℕ) (b : Bool) → Forgot x (if b then x else settle.forgets p x dead)
  forgets dead true = itself x x refl refl
  forgets dead false = record {
    node = refl;
    forgot = λ k has. among-number k (x.forgot ++ dead ∷ []) (among-front k x.forgot (dead ∷ []) (number-among k x.forgot has));
  }

  settles : (ending : Ending) → Forgot x (settle.settled p x ending)
  settles (endings.Lends o slot) = itself x (settle.settled p x (endings.Lends o slot)) refl refl
  settles (endings.Sends k copied count) = sent k copied count (is_request_loan k.kind)
  settles (endings.FailsToSend k copied r) = failed k copied
  settles (endings.Receives v w slot header) = itself x (settle.settled p x (endings.Receives v w slot header)) refl refl
  settles (endings.Drops k) = dropped k (is_received k.kind)
  settles (endings.Forgets dead) = forgets dead (has_number dead x.forgot)
  settles ending = itself x x refl refl

-- the end of a call leaves the node, and whom it forgot
pub ended_forgot : (p : Setting) (x : Seat) (ending : Ending) → Forgot x (closed p x (Some ending))
ended_forgot p x ending = record { node = (settles p x ending).node; forgot = (settles p x ending).forgot }

-- ---- states

in_each : (P : Way → Type 0) (ws : List Way) (w : Way) → Each P ws → IsAmong w ws → P w
in_each P [] w all among = absurd among
in_each P (v ∷ ws) w all among = first_or_later P v ws w all (in_each P ws w) among
  where
    first_or_later : (P : Way → Type 0) (v : Way) (ws : List Way) (w : Way) → P v × Each P ws → (Each P ws → IsAmong w ws → P w) → (w ≡ v) ⊎ IsAmong w ws → P w
    first_or_later P v ws w all rest (inl here) = subst P (sym here) all.0
    first_or_later P v ws w all rest (inr there) = rest all.1 there

-- the node looks at no further port
fewer : (p : Setting) (x y : Seat) → Forgot x y → (a : ℕ) → IsAmong a (others (known p y) y.node Server) → IsAmong a (others (known p x) x.node Server)
fewer p x y same a among =
    let at = map-among (λ (q : Port). q.number) a (filter (λ q. same_role q.role Server && not (has_number q.node y.forgot)) (map p.port p.layout.sizes.ports)) among in
    let there = filter-among (λ (q : Port). same_role q.role Server && not (has_number q.node y.forgot)) at.0 (map p.port p.layout.sizes.ports) at.1 in
    let parts = split (same_role at.0.role Server) (not (has_number at.0.node y.forgot)) there.1 in
    let known_still : not (has_number at.0.node x.forgot) ≡ true
    = ap not (false_if (has_number at.0.node x.forgot) (λ has. never at.0 parts.1 (same.forgot at.0.node has))) in
    subst (λ k. IsAmong k (others (known p x) x.node Server)) (sym at.2)
    (among-map (λ (q : Port). q.number) at.0 (filter (λ q. same_role q.role Server && not (has_number q.node x.forgot)) (map p.port p.layout.sizes.ports))
    (among-filter (λ (q : Port). same_role q.role Server && not (has_number q.node x.forgot)) at.0 (map p.port p.layout.sizes.ports) there.0
    (both_true (same_role at.0.role Server) (not (has_number at.0.node x.forgot)) parts.0 known_still)))
  where
    never : (q : Port) → not (has_number q.node y.forgot) ≡ true → has_number q.node y.forgot ≡ true → ⊥
    never q unforgotten forgotten = true≢false (sym unforgotten ∙ ap not forgotten)

pub states_stay : (p : Setting) (x y : Seat) (shown : Way → RequestState) (e : Entry) → Forgot x y → same_kind e.kind PendingResponse ≡ true
    → HasOwnStates p x shown e → HasOwnStates p y shown e
states_stay p x y shown e same pending has =
    rw pending
    (each_map (λ w. NamesNoOther (shown w) e.request) (response_way e.port e.lane) (others (known p y) y.node Server)
    (λ a among. in_each (λ w. NamesNoOther (shown w) e.request) (map (response_way e.port e.lane) (others (known p x) x.node Server)) (response_way e.port e.lane a)
    (rw pending at has) (among-map (response_way e.port e.lane) a (others (known p x) x.node Server) (fewer p x y same a among))))
