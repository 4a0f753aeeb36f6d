-- Releases begin as owners, by their kinds.
use Rattle.std.specs.Prelude.{if◌then◌else◌}
use Rattle.std.proofs.Common.{◌≡◌, ℕ, true, false, ◌==◌, List, [], ◌∷◌, None, refl, sym, subst, ◌∙◌, inl, inr}
use Rattle.iox_model.specs.declared.kind.Kind.TheVariants.{ActiveRequest, PendingResponse, Response}
use Rattle.iox_model.specs.declared.kind.Role.{Role}
use Rattle.iox_model.specs.declared.kind.Role.TheVariants.{Client, Server}
use Rattle.iox_model.specs.declared.way.RequestState.{RequestState}
use Rattle.iox_model.specs.declared.way.RequestState.TheVariants.{Named}
use Rattle.iox_model.specs.declared.way.Way.{Way}
use Rattle.iox_model.specs.Handles.{is_received, same_kind}
use Rattle.iox_model.specs.Joins.{not_living}
use Rattle.iox_model.specs.Maps.{has_number, same_way}
use Rattle.iox_model.specs.Messages.{closed_for, hinted_for, request_way, response_way}
use Rattle.iox_model.specs.Moments.{Open, Close, Hint}
use Rattle.iox_model.specs.Peers.{forgot_port, ports_of_role}
use Rattle.iox_model.specs.States.{Fixed}
use Rattle.iox_model.specs.Weaves.{World, Beat, IsBeat}
use Rattle.iox_steps.specs.declared.push.Push.TheVariants as push
use Rattle.iox_steps.specs.declared.side.Pushing.TheVariants as pushing
use Rattle.iox_laws.specs.WeaveLaws.Laws.{node_of_beat}
use Rattle.iox_laws.proofs.WeaveLaws.MapLemmas.{either, eqb-refl, put_there, same_way-true}
use Rattle.iox_laws.proofs.WeaveLedger.Truths.{never, or-rest}
use Rattle.iox_laws.proofs.WeaveBeats.LiveWays.{ways_to_the_living_are_counted}
use Rattle.iox_laws.specs.WeaveWorlds.Worlds.{IsReachable}
use Rattle.iox_word_map.specs.WordMaps.{IsResponseWay, IsWay}
use Rattle.iox_wire_moments.specs.MomentsOf.{Pools}
use Rattle.iox_wire_locals.specs.declared.local.Ending.TheVariants as endings
use Rattle.iox_wire_locals.specs.declared.local.Local.TheVariants.{ReleaseReturns}
use Rattle.iox_wire_locals.specs.declared.seat.Seat.{Seat}
use Rattle.iox_wire_locals.specs.declared.table.Entry.{Entry}
use Rattle.iox_wire_locals.specs.Courses as courses
use Rattle.iox_wire_locals.specs.Known.{known}
use Rattle.iox_wire_locals.specs.Knowing.{Knows}
use Rattle.iox_wire_locals.specs.ReceiveCourses.{checking, closing, returning, states_for}
use Rattle.iox_wire_locals.specs.Tables.{Setting, state_in, way_in}
use Rattle.iox_wire_laws.specs.WireShows.OwnedCalls.{Each, ClosesOn, ReceivesOn}
use Rattle.iox_wire_laws.specs.WireRegions.OwnedBegins.{IsPortOf, LayoutFits}
use Rattle.iox_wire_laws.specs.WireRegions.OwnedWords.{Owns}
use Rattle.iox_wire_laws.proofs.WireRegions.OwnPorts.{connected, is_response}
use Rattle.iox_wire_laws.proofs.WireRegions.QuestionBegins.{questions_begin_as_owners}
use Rattle.iox_wire_laws.specs.WireOwners.FirmOwners.{IsOfNode, OwnsFirmly}
use Rattle.iox_wire_laws.specs.WireOwners.Releases.{HasOwnStates, ReleasesOwnHandle, ReleasesBeginAsOwners, OthersLeaveStates, MomentsLeaveStates, OpenedStatesAreOwn}
use Rattle.iox_wire_laws.specs.WireOwners.RequestStates.{NamesNoOther}
use Rattle.iox_wire_laws.proofs.WireOwners.FirmOwners.{client_at, own_states}
use Rattle.iox_wire_laws.proofs.WireOwners.RequestStates.{closed_still, hinted_still, others_open_nothing}

-- ---- what comes to a living node

module _ (p : Setting) (w : World) (n : ℕ) (reach : IsReachable w) (living : not_living w.state n ≡ None) (fits : LayoutFits p w.state.fixed) where
  comes : (y : Way) (role other : Role) → has_number y.sender (ports_of_role w.state.fixed other) ≡ true → IsPortOf w.state.fixed n role y.receiver
      → IsWay p.layout.sizes y → ReceivesOn p n w.state.fixed y
  comes y role other sender own way = record {
    way = way;
    mine = fits.owner y.receiver (connected w.state.fixed role y.receiver own.0) ∙ own.1;
    counted =
        ways_to_the_living_are_counted w n y reach living
        (connected w.state.fixed other y.sender sender, connected w.state.fixed role y.receiver own.0) own.1;
  }

  module _ (e : Entry) (has : ReleasesOwnHandle w.state.fixed n e) where
    -- the way that its message came on, and the request state of an active request
    abbrev Came : Way → Type 0
    Came y = ReceivesOn p n w.state.fixed y × (y.sender ≡ e.sender)

    came : is_received e.kind ≡ true → Came (way_in e)
    came is =
        either Came (same_kind e.kind ActiveRequest) (request_way e.client e.port) (response_way e.port e.lane e.sender)
        (λ k. let r = has.request k in (
          comes (request_way e.client e.port) Server Client r.3 r.0 (inl (rw fits.clients r.3, rw fits.servers r.0.0, refl)),
          sym r.2,
        ))
        (λ k. let r = has.response (or-rest (same_kind e.kind ActiveRequest) (same_kind e.kind Response) is k) in (
          comes (response_way e.port e.lane e.sender) Client Server r.2 r.0 (inr (is_response p w.state.fixed fits e.port e.lane e.sender r.0.0 r.2 r.1)),
          refl,
        ))

    asks : same_kind e.kind ActiveRequest ≡ true → IsResponseWay p.layout.sizes (state_in e)
    asks k = let r = has.request k in is_response p w.state.fixed fits e.client e.lane e.port r.3 r.0.0 r.1

-- ---- by the kind

-- who owns a question's first place, has its request states on the wire
checked : (p : Setting) (x : Seat) (f : Fixed) (shown : Way → RequestState) (e : Entry) (ways : List Way) → Owns p x.node f shown (checking x e false ways).local
    → Each (IsResponseWay p.layout.sizes) ways
checked p x f shown e [] owns = tt
checked p x f shown e (y ∷ left) owns = owns

-- the states of a pending response are the wire's
pub states : (p : Setting) (x : Seat) (f : Fixed) (held : Pools) (shown : Way → RequestState) (e : Entry) → LayoutFits p f → Knows p x f held
    → ReleasesOwnHandle f x.node e → same_kind e.kind PendingResponse ≡ true → Each (IsResponseWay p.layout.sizes) (states_for p x e)
states p x f held shown e fits knows has is =
    checked p x f shown e (states_for p x e)
    (questions_begin_as_owners p x f held shown e false fits knows
    (record { pending = has.pending; active = λ k. never (same_kind e.kind PendingResponse) is k })).0

closes_each : (p : Setting) (shown : Way → RequestState) (e : Entry) (ways : List Way) → Each (IsResponseWay p.layout.sizes) ways
    → Each (λ y. NamesNoOther (shown y) e.request) ways → Each (ClosesOn p shown e) ways
closes_each p shown e [] each own = tt
closes_each p shown e (y ∷ ways) each own = ((each.0, own.0), closes_each p shown e ways each.1 own.1)

module _ (p : Setting) (held : Pools) (w : World) (x : Seat) (e : Entry) (reach : IsReachable w) (living : not_living w.state x.node ≡ None)
    (fits : LayoutFits p w.state.fixed) (knows : Knows p x w.state.fixed held) (has : ReleasesOwnHandle w.state.fixed x.node e)
    (named : same_kind e.kind PendingResponse ≡ true → HasOwnStates p x w.state.request_state e) where
  abbrev K : Seat → Type 0
  K y = OwnsFirmly p x.node w.state.fixed w.state.request_state y.local

  closed : (ways : List Way) → Each (ClosesOn p w.state.request_state e) ways → Each (IsOfNode p x.node) ways → K (closing x e ways)
  closed [] each mine = record { owns = tt; closes = tt }
  closed (y ∷ ways) each mine = record { owns = each; closes = mine }

  pending : same_kind e.kind PendingResponse ≡ true → K (closing x e (states_for p x e))
  pending is =
      closed (states_for p x e)
      (closes_each p w.state.request_state e (states_for p x e) (states p x w.state.fixed held w.state.request_state e fits knows has is) (named is))
      (own_states p x e (fits.owner e.port (connected w.state.fixed Client e.port (has.pending is).0.0) ∙ (has.pending is).0.1) is)

  received : is_received e.kind ≡ true → K (returning p x e)
  received is =
      either K (forgot_port (known p x) x.node (way_in e).sender) (courses.ended x (endings.Drops e))
      (courses.placed x (ReleaseReturns e (pushing.Pushes (push.LoadsWrite e.slot)))) (λ gone. record { owns = tt; closes = tt })
      (λ there. let c = came p w x.node reach living fits e has is in
      record { owns = (c.0, c.1, refl, asks p w x.node reach living fits e has); closes = tt })

pub releases_begin_as_owners : ReleasesBeginAsOwners
releases_begin_as_owners p held w x e reach living fits knows has named =
    let K : Seat → Type 0 = λ y. OwnsFirmly p x.node w.state.fixed w.state.request_state y.local in
    either K (is_received e.kind) (returning p x e)
    (if same_kind e.kind PendingResponse then closing x e (states_for p x e) else courses.ended x (endings.Drops e))
    (received p held w x e reach living fits knows has named)
    (λ own. either K (same_kind e.kind PendingResponse) (closing x e (states_for p x e)) (courses.ended x (endings.Drops e))
    (pending p held w x e reach living fits knows has named) (λ is. record { owns = tt; closes = tt }))

-- ---- what stays

module _ (p : Setting) (w u : World) (b : Beat) (n id : ℕ) (reach : IsReachable w) (beat : IsBeat w b u) (other : (n == node_of_beat b) ≡ false)
    (fits : LayoutFits p w.state.fixed) where
  each_still : (ways : List Way) → Each (IsResponseWay p.layout.sizes) ways → Each (IsOfNode p n) ways
      → Each (λ y. NamesNoOther (w.state.request_state y) id) ways → Each (λ y. NamesNoOther (u.state.request_state y) id) ways
  each_still [] each mine own = tt
  each_still (y ∷ ways) each mine own = (
    others_open_nothing w u b n id y reach beat other (client_at p w n fits y each.0 mine.0) own.0,
    each_still ways each.1 mine.1 own.1,
  )

pub others_leave_states : OthersLeaveStates
others_leave_states p held w u b x e reach beat other fits knows has is own =
    each_still p w u b x.node e.request reach beat other fits (states_for p x e)
    (states p x w.state.fixed held w.state.request_state e fits knows has is)
    (own_states p x e (fits.owner e.port (connected w.state.fixed Client e.port (has.pending is).0.0) ∙ (has.pending is).0.1) is) own

-- a request just opened is the one that is named
opened : (id : ℕ) → NamesNoOther (Named id false) id
opened id = rw (eqb-refl id) refl

pub moments_leave_states : MomentsLeaveStates
moments_leave_states s (Open z other) id y free is =
    either (λ t. NamesNoOther t id) (same_way y z) (Named other false) (s.request_state y)
    (λ same. subst (λ k. NamesNoOther (Named k false) id) (sym (free same)) (opened id)) (λ u. is)
moments_leave_states s (Close z other) id y free is =
    either (λ t. NamesNoOther t id) (same_way y z) (closed_for (s.request_state z) other) (s.request_state y)
    (λ same. subst (λ v. NamesNoOther (closed_for (s.request_state v) other) id) (same_way-true y z same) (closed_still (s.request_state y) other id is)) (λ u. is)
moments_leave_states s (Hint z other) id y free is =
    either (λ t. NamesNoOther t id) (same_way y z) (hinted_for (s.request_state z) other) (s.request_state y)
    (λ same. subst (λ v. NamesNoOther (hinted_for (s.request_state v) other) id) (same_way-true y z same) (hinted_still (s.request_state y) other id is)) (λ u. is)
moments_leave_states s m id y free is = is

pub opened_states_are_own : OpenedStatesAreOwn
opened_states_are_own s id y = subst (λ t. NamesNoOther t id) (sym (put_there s.request_state y (Named id false))) (opened id)
