-- What a send opened stays so, through its own accesses and through beats of others.
use Rattle.std.specs.Prelude.{map}
use Rattle.std.proofs.Common.{◌≡◌, ℕ, true, false, ◌==◌, List, [], ◌∷◌, Option, Some, None, refl, ap, sym, subst, ◌∙◌, true≢false}
use Rattle.iox_model.specs.declared.kind.Kind.TheVariants.{PendingResponse}
use Rattle.iox_model.specs.declared.kind.Role.TheVariants.{Server}
use Rattle.iox_model.specs.declared.way.RequestState.{RequestState}
use Rattle.iox_model.specs.declared.way.Way.{Way}
use Rattle.iox_model.specs.Doings.{Doing}
use Rattle.iox_model.specs.Handles.{is_request_loan, same_kind}
use Rattle.iox_model.specs.Maps.{has_way, same_way}
use Rattle.iox_model.specs.Messages.{response_way}
use Rattle.iox_model.specs.Moments.{Moment, Open}
use Rattle.iox_model.specs.Peers.{node_of_port, others}
use Rattle.iox_model.specs.States.{State}
use Rattle.iox_model.specs.Weaves.{World, Beat, IsBeat}
use Rattle.iox_laws.specs.WeaveLaws.Laws.{node_of_beat}
use Rattle.iox_laws.proofs.WeaveLaws.MapLemmas.{either, is_in-first, same_way-true}
use Rattle.iox_laws.proofs.WeaveBeats.LiveWays.{here}
use Rattle.iox_laws.proofs.WeaveLedger.Lists.{map-among, way-among}
use Rattle.iox_laws.proofs.WeaveLedger.Senders.{FitsDoing}
use Rattle.iox_laws.proofs.WeaveLedger.Truths.{by_cases, never, or-neither, or-right}
use Rattle.iox_laws.proofs.WeaveLedger.Views.{view}
use Rattle.iox_laws.proofs.WeaveLedger.Worlds.{doing-is}
use Rattle.iox_laws.specs.WeaveWorlds.Worlds.{IsReachable}
use Rattle.iox_wire_moments.specs.MomentsOf.{Pools}
use Rattle.iox_wire_locals.specs.declared.local.Delivery.{Delivery}
use Rattle.iox_wire_locals.specs.declared.local.Local.{Local}
use Rattle.iox_wire_locals.specs.declared.local.Local.TheVariants.{Idle, Ends, SendOpens, SendPushes, SendEvicts, SendGetsBack, SendEnds}
use Rattle.iox_wire_locals.specs.declared.seat.Seat.{Seat}
use Rattle.iox_wire_locals.specs.declared.table.Entry.{Entry}
use Rattle.iox_wire_locals.specs.Doings.{doing_of}
use Rattle.iox_wire_locals.specs.Known.{known}
use Rattle.iox_wire_locals.specs.ReceiveCourses.{states_for}
use Rattle.iox_wire_locals.specs.StateMoments.{moment_at}
use Rattle.iox_wire_locals.specs.StepLaws.{ReliesOn}
use Rattle.iox_wire_locals.specs.Steps.{advance, accessed}
use Rattle.iox_wire_locals.specs.Tables.{Setting}
use Rattle.iox_wire_laws.proofs.WireKeeping.CountsKept.{steps_keep_own}
use Rattle.iox_wire_laws.specs.WireShows.OwnedCalls.{Each, states_to, state_after}
use Rattle.iox_wire_laws.specs.WireOwners.Releases.{HasOwnStates}
use Rattle.iox_wire_laws.specs.WireOwners.RequestStates.{NamesNoOther}
use Rattle.iox_wire_laws.specs.WireOwners.SentStates.{HasOpened, StatesAreOpened, AccessesLeaveOpened, AccessesLeaveStates, OpensElsewhere, OthersLeaveOpened, SentRequestsHaveStates}
use Rattle.iox_wire_laws.proofs.WireOwners.OpenedCalls as calls
use Rattle.iox_wire_laws.proofs.WireOwners.OwnMoments.{OpensNone, opens_none}
use Rattle.iox_wire_laws.proofs.WireOwners.Releases.{moments_leave_states, opened_states_are_own}
use Rattle.iox_wire_laws.proofs.WireOwners.RequestStates.{others_open_nothing}

-- ---- own accesses

still : (s : State) (o : Option Moment) (id : ℕ) (y : Way) → OpensNone o → NamesNoOther (s.request_state y) id
    → NamesNoOther ((state_after s o).request_state y) id
still s None id y none is = is
still s (Some (Open z other)) id y none is = absurd none
still s (Some m) id y none is = moments_leave_states s m id y tt is

module _ (p : Setting) (held : Pools) (s : State) where
  all_still : (d : Delivery) (o : Option Moment) → OpensNone o → StatesAreOpened s.request_state d [] → StatesAreOpened (state_after s o).request_state d []
  all_still d o none all y there left = still s o d.loan.request y none (all y there left)

  -- one more is open
  one_more : (d : Delivery) (w : Way) (left : List Way) → StatesAreOpened s.request_state d (w ∷ left)
      → StatesAreOpened (state_after s (Some (Open w d.loan.request))).request_state d left
  one_more d w left some y there not_left =
      by_cases (same_way y w)
      (λ same. subst (λ v. NamesNoOther ((state_after s (Some (Open v d.loan.request))).request_state y) d.loan.request) (same_way-true y w same)
      (opened_states_are_own s d.loan.request y))
      (λ other. moments_leave_states s (Open w d.loan.request) d.loan.request y (λ same. refl) (some y there (or-neither _ _ other not_left)))

  next : (z : Seat) (local : Local) (seen : ℕ) → ReliesOn p z s held local seen → HasOpened s.request_state local
      → calls.HasNext p (state_after s (moment_at p held local seen)).request_state z local
  next z Idle seen relies opened = absurd relies
  next z (Ends ending) seen relies opened = absurd relies
  next z (SendEnds d last count) seen relies opened = absurd relies
  next z (SendOpens d w left full) seen relies some = one_more d w left some
  next z (SendPushes d last w place left count) seen relies all =
      all_still d _ (opens_none p held (SendPushes d last w place left count) seen tt) all
  next z (SendEvicts d w place left count) seen relies all =
      all_still d _ (opens_none p held (SendEvicts d w place left count) seen tt) all
  next z (SendGetsBack d w place left count) seen relies all =
      all_still d _ (opens_none p held (SendGetsBack d w place left count) seen tt) all
  next z local seen relies opened = tt

-- the states that a pending response has, which a node's forgotten ones decide
states_kept : (p : Setting) (x y : Seat) (e : Entry) → y.forgot ≡ x.forgot → states_for p y e ≡ states_for p x e
states_kept p x y e same = ap (λ forgot. states_for p (record x { forgot = forgot }) e) same

each_still : (s : State) (o : Option Moment) (id : ℕ) (ways : List Way) → OpensNone o → Each (λ y. NamesNoOther (s.request_state y) id) ways
    → Each (λ y. NamesNoOther ((state_after s o).request_state y) id) ways
each_still s o id [] none each = tt
each_still s o id (y ∷ ways) none each = (still s o id y none each.0, each_still s o id ways none each.1)

-- an open on another lane
each_other : (s : State) (w : Way) (other id port lane : ℕ) (servers : List ℕ) → (w.receiver ≡ port → w.lane ≡ lane → ⊥)
    → Each (λ y. NamesNoOther (s.request_state y) id) (map (response_way port lane) servers)
    → Each (λ y. NamesNoOther ((state_after s (Some (Open w other))).request_state y) id) (map (response_way port lane) servers)
each_other s w other id port lane [] apart each = tt
each_other s w other id port lane (k ∷ servers) apart each = (
  moments_leave_states s (Open w other) id (response_way port lane k)
      (λ same. let is : response_way port lane k ≡ w = same_way-true (response_way port lane k) w same in
      absurd (apart (sym (ap (λ (v : Way). v.receiver) is)) (sym (ap (λ (v : Way). v.lane) is)))) each.0,
  each_other s w other id port lane servers apart each.1,
)

module _ (p : Setting) (held : Pools) (s : State) (x : Seat) (seen : ℕ) (e : Entry) (is : same_kind e.kind PendingResponse ≡ true) where
  abbrev After : Local → Type 0
  After local = HasOwnStates p x (state_after s (moment_at p held local seen)).request_state e

  -- by the kind, they are of one lane
  on_lane : (shown : Way → RequestState)
      → Each (λ y. NamesNoOther (shown y) e.request) (map (response_way e.port e.lane) (others (known p x) x.node Server)) → HasOwnStates p x shown e
  on_lane shown each =
      either (Each (λ y. NamesNoOther (shown y) e.request)) (same_kind e.kind PendingResponse)
      (map (response_way e.port e.lane) (others (known p x) x.node Server)) _ (λ k. each) (λ k. never (same_kind e.kind PendingResponse) is k)

  of_lane : (shown : Way → RequestState) → HasOwnStates p x shown e
      → Each (λ y. NamesNoOther (shown y) e.request) (map (response_way e.port e.lane) (others (known p x) x.node Server))
  of_lane shown own = subst (Each (λ y. NamesNoOther (shown y) e.request)) (rw is refl) own

  after : (local : Local) → OpensElsewhere local e → HasOwnStates p x s.request_state e → After local
  after (SendOpens d w left full) apart own =
      on_lane (state_after s (Some (Open w d.loan.request))).request_state
      (each_other s w d.loan.request e.request e.port e.lane (others (known p x) x.node Server) apart (of_lane s.request_state own))
  after local apart own = each_still s (moment_at p held local seen) e.request (states_for p x e) (opens_none p held local seen tt) own

pub accesses_leave_states : AccessesLeaveStates
accesses_leave_states p held s x seen e is apart own =
    subst (Each (λ y. NamesNoOther ((state_after s (moment_at p held x.local seen)).request_state y) e.request))
    (sym (states_kept p x (advance p (accessed x) x.local seen) e (steps_keep_own p x seen).forgot)) (after p held s x seen e is x.local apart own)

pub accesses_leave_opened : AccessesLeaveOpened
accesses_leave_opened p held s x seen relies opened =
    (calls.advance p (state_after s (moment_at p held x.local seen)).request_state (accessed x) x.local seen
    (next p held s (accessed x) x.local seen relies opened)).opened

-- ---- beats of others

-- the states of a send are of its loan's port
state_of : (d : Delivery) (y : Way) → has_way y (states_to d) ≡ true → y.receiver ≡ d.loan.port
state_of d y there =
    either (λ (ways : List Way). has_way y ways ≡ true → y.receiver ≡ d.loan.port) (is_request_loan d.loan.kind)
    (map (response_way d.loan.port d.loan.lane) d.to) []
    (λ is among. ap (λ (v : Way). v.receiver) (map-among (response_way d.loan.port d.loan.lane) y d.to
    (way-among y (map (response_way d.loan.port d.loan.lane) d.to) among)).2)
    (λ is among. absurd (true≢false (sym among))) there

module _ (p : Setting) (held : Pools) (w u : World) (b : Beat) (n : ℕ) (reach : IsReachable w) (beat : IsBeat w b u) (other : (n == node_of_beat b) ≡ false) where
  opened_still : (d : Delivery) (left : List Way) → node_of_port w.state.fixed d.loan.port ≡ n → StatesAreOpened w.state.request_state d left
      → StatesAreOpened u.state.request_state d left
  opened_still d left mine some y there not_left =
      others_open_nothing w u b n d.loan.request y reach beat other (ap (node_of_port w.state.fixed) (state_of d y there) ∙ mine) (some y there not_left)

  -- what the call has to do tells whose its loan is
  fits : (d : Doing) → w.doing n ≡ Some d → FitsDoing (view w.state.fixed n) n d
  fits d doing = doing-is w n d (here w reach).holding.fits doing

  by_place : (local : Local) → w.doing n ≡ doing_of p w.state.fixed held n local → HasOpened w.state.request_state local → HasOpened u.state.request_state local
  by_place (SendOpens d y left full) doing some = opened_still d (y ∷ left) (fits _ doing).loan.of_port some
  by_place (SendPushes d last y place left count) doing all = opened_still d [] (fits _ doing).0.loan.of_port all
  by_place (SendEvicts d y place left count) doing all = opened_still d [] (fits _ doing).0.loan.of_port all
  by_place (SendGetsBack d y place left count) doing all = opened_still d [] (fits _ doing).0.loan.of_port all
  by_place (SendEnds d last count) doing all = opened_still d [] (fits _ doing).0.loan.of_port all
  by_place local doing opened = tt

pub others_leave_opened : OthersLeaveOpened
others_leave_opened p held w u b x reach beat other doing opened = by_place p held w u b x.node reach beat other x.local doing opened

-- ---- the end

-- it is so of each way
each_way : (P : Way → Type 0) (ways : List Way) → ((y : Way) → has_way y ways ≡ true → P y) → Each P ways
each_way P [] all = tt
each_way P (y ∷ ways) all = (all y (is_in-first y ways), each_way P ways (λ v there. all v (or-right (same_way v y) _ there)))

pub sent_requests_have_states : SentRequestsHaveStates
sent_requests_have_states p x shown d last count opened is to =
    subst (λ servers. Each (λ y. NamesNoOther (shown y) d.loan.request) (map (response_way d.loan.port d.loan.lane) servers)) to
    (each_way (λ y. NamesNoOther (shown y) d.loan.request) (map (response_way d.loan.port d.loan.lane) d.to)
    (λ y there. opened y (either (λ (ways : List Way). has_way y ways ≡ true) (is_request_loan d.loan.kind)
    (map (response_way d.loan.port d.loan.lane) d.to) [] (λ k. there) (λ k. never (is_request_loan d.loan.kind) is k)) refl))
