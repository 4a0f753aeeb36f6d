-- What the begin of a call needs follows from what stands, but for lengths of messages, and what a
-- call that moves words owns at its first place.
use Rattle.std.specs.Prelude.{◌<◌, ◌^◌, ◌⊎◌, ◌||◌, filter, find}
use Rattle.std.specs.Option.{option_map_or}
use Rattle.std.proofs.Common.{◌≡◌, ℕ, Bool, true, false, ◌==◌, ◌&&◌, if◌then◌else◌, List, Option, Some, None, refl, ap, sym, subst, ◌∙◌, inl, inr, true≢false, eqb-true}
use Rattle.iox_model.specs.declared.kind.Kind.{Kind}
use Rattle.iox_model.specs.declared.kind.Kind.TheVariants as kinds
use Rattle.iox_model.specs.declared.kind.Kind.TheVariants.{ActiveRequest, PendingResponse}
use Rattle.iox_model.specs.declared.kind.Role.{Role}
use Rattle.iox_model.specs.declared.kind.Role.TheVariants.{Client, Server}
use Rattle.iox_model.specs.declared.call.Call.TheVariants.{HasHint, HasRequests, HasResponse, IsConnected, Receive, Release}
use Rattle.iox_model.specs.declared.call.WireCall.TheVariants as wire_calls
use Rattle.iox_model.specs.Commands.{Call, Refusal, WireCall}
use Rattle.iox_model.specs.Handles.{ThePort, is_received, kind_of, same_kind}
use Rattle.iox_model.specs.Joins.{not_living}
use Rattle.iox_model.specs.Maps.{has_number, refused_if}
use Rattle.iox_model.specs.Names.{suits}
use Rattle.iox_model.specs.Peers.{lanes_of, port_at, ports_of_role}
use Rattle.iox_model.specs.Receives.{server_ways}
use Rattle.iox_model.specs.Settings.{is_client, same_role}
use Rattle.iox_model.specs.States.{Fixed, Port, State}
use Rattle.iox_model.specs.Weaves.{begin_refusal}
use Rattle.iox_model.specs.declared.reply.Refusal.TheVariants.{Busy}
use Rattle.iox_laws.proofs.WeaveLaws.MapLemmas.{eqb-refl}
use Rattle.iox_laws.proofs.WeaveLaws.WholeLemmas.{or_else-none}
use Rattle.iox_laws.proofs.WeaveLedger.Lists.{IsAmong, among-filter, among-map, among-number, find-among}
use Rattle.iox_laws.proofs.WeaveLedger.Truths.{passed}
use Rattle.iox_wire_steps.specs.MomentsOf.{Pools}
use Rattle.iox_wire_steps.specs.Ending.{Ending}
use Rattle.iox_wire_steps.specs.Ending.TheVariants as endings
use Rattle.iox_wire_steps.specs.Local.{Local}
use Rattle.iox_wire_steps.specs.Local.TheVariants.{Ends, Idle, LendStores, ReleaseExchanges, ReleaseLooks, SendAsks, SendEmpties, SendEnds, SendEvicts, SendGetsBack, SendLooks, SendOpens, SendPushes}
use Rattle.iox_wire_steps.specs.Seat.{Seat}
use Rattle.iox_wire_steps.specs.Entry.{Entry}
use Rattle.iox_wire_steps.specs.Desk.{Desk}
use Rattle.iox_wire_steps.specs.BeginLaws.{IsOwnEntry, IsOwnPort}
use Rattle.iox_wire_steps.specs.Begins.{begin, begins_at_entry, begins_at_port, is_busy, misnamed_call, pending_visit, server_visit, ways_for}
use Rattle.iox_wire_steps.specs.Desks.{picks}
use Rattle.iox_wire_steps.specs.Visit.{Visit}
use Rattle.iox_wire_steps.specs.Known.{known, loans_at}
use Rattle.iox_wire_steps.specs.Knowing.{Knows}
use Rattle.iox_wire_steps.specs.ReceiveCourses.{checking, seeking, states_for, visiting}
use Rattle.iox_wire_steps.specs.NewLoans.{message_in}
use Rattle.iox_wire_steps.specs.Tables.{Setting, entry_at}
use Rattle.iox_wire_steps.specs.OwnedBegins.{IsPortOf}
use Rattle.iox_wire_steps.specs.OwnedWords.{Owns}
use Rattle.iox_wire_steps.proofs.Borrowed.{counts_tell_limits}
use Rattle.iox_wire_steps.proofs.Releases.{releases_begin_as_owners}
use Rattle.iox_wire_steps.proofs.QuestionBegins.{questions_begin_as_owners}
use Rattle.iox_wire_steps.proofs.ReceiveBegins.{receives_begin_as_owners}
use Rattle.iox_wire_steps.specs.Aside.{shown_at}
use Rattle.iox_wire_steps.specs.Holding.{held_at}
use Rattle.iox_wire_steps.specs.SlotsKnown.{HasEntry, IsPortOfSeat}
use Rattle.iox_wire_steps.specs.UsedSlots.{CallHolds, slots_in_call}
use Rattle.iox_wire_steps.proofs.BeginBeats.{refusals_are_the_machines}
use Rattle.iox_wire_steps.proofs.CountsKept.{begins_keep_own}
use Rattle.iox_wire_steps.specs.StandsBeginLaws.{MayBegin}
use Rattle.iox_wire_steps.specs.Following.{LeavesNothing, NoMessage, Sent, message_at}
use Rattle.iox_wire_steps.specs.FollowingLaws.{TakesNext}
use Rattle.iox_wire_steps.specs.Nodes.{NodeStands}
use Rattle.iox_wire_steps.specs.Runs.{Run}
use Rattle.iox_wire_steps.specs.Stands.{Player, Stands, seats_of, word_of}
use Rattle.iox_wire_steps.proofs.Readiness.{own_port}
use Rattle.iox_wire_steps.proofs.Starts.{Starting, Starts, Takes, starts}
use Rattle.iox_wire_steps.proofs.StepsKept.{shown_same}
use Rattle.iox_wire_calls.specs.CallsStand.{BeginIsTold, CallStands, CallsMayBegin, CallsStand, moves_words}
use Rattle.iox_wire_calls.specs.Places.{IsOfLoan, IsNext, OwnersAreSet, PlaceFits, SuitsPort}
use Rattle.iox_wire_calls.proofs.EndsKnown.{lanes_fit_at_rest}
use Rattle.iox_wire_calls.proofs.LanesTell.{port_there}
use Rattle.iox_wire_calls.proofs.LoanSlots.{none_here, on_lane}
use Rattle.iox_wire_calls.proofs.LanesSet.{lanes_are_set}
use Rattle.iox_wire_calls.proofs.LaneBegins.{begins_keep_lanes}
use Rattle.iox_wire_calls.proofs.LaneSlots.{free_slots_have_lanes}
use Rattle.iox_wire_calls.specs.LaneLaws.{HasLanesForSlots}
use Rattle.iox_wire_calls.specs.Lanes.{AllLanesAreCounted}
use Rattle.iox_wire_calls.proofs.HandleKinds.{asks_by, receives_is}
use Rattle.iox_wire_calls.proofs.PlaceBegins.{begins_fit, by_call}
use Rattle.iox_wire_calls.proofs.PlaceCourses.{desks_stay, loans_told}

-- a loan was not received
loan_sent : (kind : Kind) → IsOfLoan kind → is_received kind ≡ false
loan_sent kinds.RequestMut loan = refl
loan_sent kinds.RequestMutUninit loan = refl
loan_sent kinds.ResponseMut loan = refl
loan_sent kinds.ResponseMutUninit loan = refl
loan_sent kind loan = absurd (true≢false (sym loan))

-- a node with no call under way is idle
at_rest : (local : Local) → is_busy local ≡ false → local ≡ Idle
at_rest Idle rests = refl
at_rest local rests = absurd (true≢false rests)

-- a port that looks for requests is a server
looks_is : (role : Role) → suits true (HasRequests 0) (if is_client role then kinds.Client else kinds.Server) ≡ true → role ≡ Server
looks_is Client suited = absurd (true≢false (sym suited))
looks_is Server suited = refl

still_busy : (p : Setting) (x : Seat) (local : Local) → x.local ≡ local → is_busy local ≡ true → is_busy (shown_at p x local).local ≡ true
still_busy p x (ReleaseLooks e) is busy = refl
still_busy p x (ReleaseExchanges e old) is busy = refl
still_busy p x local is busy = ap is_busy is ∙ busy

-- what a call starts to send is of its own port
module _ (p : Setting) (held : Pools) (s : State) (x y : Seat) (node : NodeStands p held s x) (new : Pools) where
  sent_home : (e : Entry) (copied : Bool) → Starting p x (Sent e copied) → IsOfLoan e.kind → e.sender ≡ e.port
  sent_home e true start loan = absurd (true≢false start.0)
  sent_home e false start loan = ((node.names.entries e start.1).own (loan_sent e.kind loan)).1

  ended_home : (ending : Ending) → Starting p x (message_at (Ends ending)) → PlaceFits p y (Ends ending) → CallHolds new (Ends ending)
  ended_home (endings.Lends o slot) start fits = absurd start
  ended_home (endings.Sends e copied count) start fits = sent_home e copied start fits.0
  ended_home (endings.FailsToSend e copied r) start fits = sent_home e copied start fits
  ended_home ending start fits = tt

  starts_home : (local : Local) → Starting p x (message_at local) → PlaceFits p y local → CallHolds new local
  starts_home (Ends ending) start fits = ended_home ending start fits
  starts_home (LendStores o slot next) start fits = absurd start
  starts_home (SendAsks d) start fits = sent_home d.loan d.copied start fits.0.0
  starts_home (SendEmpties d w place left) start fits = sent_home d.loan d.copied start fits.1.0
  starts_home (SendLooks d w place left full) start fits = sent_home d.loan d.copied start fits.1.0
  starts_home (SendOpens d w left full) start fits = sent_home d.loan d.copied start fits.1.0
  starts_home (SendPushes d last w place left count) start fits = sent_home d.loan d.copied start fits.0
  starts_home (SendEvicts d w place left count) start fits = sent_home d.loan d.copied start fits.1.0
  starts_home (SendGetsBack d w place left count) start fits = sent_home d.loan d.copied start fits.1.0
  starts_home (SendEnds d last count) start fits = sent_home d.loan d.copied start fits.0
  starts_home local start fits = tt

  starts_next : (local : Local) → Starting p x (message_at local) → TakesNext p held s NoMessage local
  starts_next (LendStores o slot next) start = absurd start
  starts_next local start = tt

module _ (p : Setting) (words : List ℕ) (players : ℕ → Player) (r : Run) (n : ℕ) (call : WireCall) (stands : Stands p words players r)
    (calls : CallsStand p stands.held players r.last.state) (free : begin_refusal r.last n call ≡ None) where
  pub alive : not_living r.last.state n ≡ None
  alive = (or_else-none _ _ free).0

  unrefused : (refused_if {A = Refusal} (is_busy (seats_of p players n).local) Busy ≡ None) × (misnamed_call p (seats_of p players n) call ≡ None)
  unrefused =
      or_else-none _ _ (or_else-none _ _ (or_else-none _ _
      (sym (refusals_are_the_machines p stands.held r.last (seats_of p players n) call (stands.shows.counts n alive) (stands.shows.doing n alive))
      ∙ ap (λ k. begin_refusal r.last k call) (stands.shows.node n) ∙ free)).1).0

  not_busy : (b : Bool) → is_busy (players n).seat.local ≡ b → b ≡ false
  not_busy false is = refl
  not_busy true is =
      absurd (true≢false (sym (still_busy p (players n).seat (players n).seat.local refl is) ∙ passed (is_busy (seats_of p players n).local) Busy unrefused.0))

  pub rests : (players n).seat.local ≡ Idle
  rests = at_rest (players n).seat.local (not_busy (is_busy (players n).seat.local) refl)

  pub rested : seats_of p players n ≡ (players n).seat
  rested = shown_same p (players n).seat (players n).seat.local (subst LeavesNothing (sym (ap message_at rests)) tt)

  pub named : misnamed_call p (players n).seat call ≡ None
  named = subst (λ q. misnamed_call p q call ≡ None) rested unrefused.1

  -- the machine has the setting's port, of the node that the layout tells
  port_is : (port : ℕ) → has_number port p.layout.sizes.ports ≡ true → port_at r.last.state.fixed port ≡ Some (p.port port)
  port_is port has =
      ap (λ (ports : List Port). find (λ (q : Port). q.number == port) ports) (stands.shows.counts n alive).knows.ports
      ∙ port_there p port p.layout.sizes.ports stands.numbers has

  pub owners_are_set : OwnersAreSet p
  owners_are_set port has = stands.owners port ∙ ap (λ (q : Option Port). option_map_or (λ (r : Port). r.node) q 0) (port_is port has)

  -- ---- calls that move no words own their first place

  abbrev z : Seat
  z = seats_of p players n

  abbrev f : Fixed
  f = r.last.state.fixed

  abbrev FirstOwned : Seat → Type 0
  FirstOwned k = Owns p z.node f r.last.state.request_state k.local

  stood : NodeStands p stands.held r.last.state z
  stood = stands.nodes n alive

  knows : Knows p z f stands.held
  knows = (stands.shows.counts n alive).knows

  server_is : (q : Port) → IsPortOfSeat p z q.number → p.port q.number ≡ q → q.role ≡ Server → IsPortOf f n Server q.number
  server_is q home set role =
      let at = find-among (λ (k : Port). k.number == q.number) (p.port q.number) f.ports (port_is q.number home.0) in (
        among-number q.number (ports_of_role f Server)
            (subst (λ i. IsAmong i (ports_of_role f Server)) (ap (λ (k : Port). k.number) set)
            (among-map (λ (k : Port). k.number) (p.port q.number) (filter (λ k. same_role k.role Server) f.ports)
            (among-filter (λ (k : Port). same_role k.role Server) (p.port q.number) f.ports at.0
            (ap (λ i. same_role i Server) (ap (λ (k : Port). k.role) set ∙ role))))),
        sym (stands.owners q.number) ∙ home.1 ∙ stands.shows.node n,
      )

  receives : (v : Visit)
      → ((q : Port) → IsPortOf f n Server q.number → FirstOwned (visiting p z v (server_ways (known p z) q) false) × FirstOwned (seeking z (server_ways (known p z) q)))
      × ((e : Entry) → IsPortOf f n Client e.port → e.lane < lanes_of f e.port
      → FirstOwned (visiting p z v (ways_for p z e) false) × FirstOwned (seeking z (ways_for p z e)))
  receives v =
      receives_begin_as_owners p stands.held (word_of words) stands.contents (seats_of p players) r.last n v false stands.shows alive stands.layout
      (counts_tell_limits p z f stands.held knows stood.borrowed)

  pending : (e : Entry) → HasEntry z e → same_kind e.kind PendingResponse ≡ true → IsPortOf f n Client e.port × (e.lane < lanes_of f e.port)
  pending e has is = let at = (stood.released e has).pending is in ((at.0.0, at.0.1 ∙ stands.shows.node n), at.1)

  checks : (e : Entry) (hinted : Bool) → HasEntry z e → (same_kind e.kind PendingResponse ≡ false → same_kind e.kind ActiveRequest ≡ true)
      → FirstOwned (checking z e hinted (states_for p z e))
  checks e hinted has active =
      (questions_begin_as_owners p z f stands.held r.last.state.request_state e hinted stands.layout knows (record {
        pending = (stood.released e has).pending;
        active = λ isnt. let at = (stood.released e has).request (active isnt) in (at.0, at.1);
      })).0

  owned_port : (c : Call) → moves_words (wire_calls.Port c) ≡ false → (q : Port) → IsPortOfSeat p z q.number → p.port q.number ≡ q
      → suits true c (kind_of (ThePort q)) ≡ true → FirstOwned (begins_at_port p z c q)
  owned_port (Receive k) still q home set suited = ((receives (server_visit q)).0 q (server_is q home set (receives_is k q.role suited))).0
  owned_port (HasRequests k) still q home set suited = ((receives (server_visit q)).0 q (server_is q home set (looks_is q.role suited))).1
  owned_port (HasResponse k) still q home set suited = tt
  owned_port (IsConnected k) still q home set suited = tt
  owned_port (HasHint k) still q home set suited = tt
  owned_port (Release k) still q home set suited = tt
  owned_port c still q home set suited = absurd (true≢false still)

  owned_entry : (c : Call) → moves_words (wire_calls.Port c) ≡ false → (e : Entry) → HasEntry z e → SuitsPort p z e.port e.kind → suits true c e.kind ≡ true
      → FirstOwned (begins_at_entry p z c e)
  owned_entry (Receive k) still e has its suited =
      let at = pending e has (asks_by k (p.port e.port).role e.kind its.1 suited) in ((receives (pending_visit e)).1 e at.0 at.1).0
  owned_entry (HasResponse k) still e has its suited = let at = pending e has suited in ((receives (pending_visit e)).1 e at.0 at.1).1
  owned_entry (IsConnected k) still e has its suited =
      checks e false has (λ isnt. subst (λ b. (b || same_kind e.kind ActiveRequest) ≡ true) isnt suited)
  owned_entry (HasHint k) still e has its suited = checks e true has (λ isnt. suited)
  owned_entry (Release k) still e has its suited =
      (releases_begin_as_owners p stands.held r.last z e stands.shows.reachable (subst (λ i. not_living r.last.state i ≡ None) (sym (stands.shows.node n)) alive) stands.layout knows
      (stood.released e has) (stood.states e has)).owns
  owned_entry (HasRequests k) still e has its suited = tt
  owned_entry c still e has its suited = absurd (true≢false still)

  owned_first : (c : WireCall) → moves_words c ≡ false → misnamed_call p z c ≡ None → FirstOwned (begin p z c)
  owned_first (wire_calls.Port c) still names =
      by_call p z stands.numbers owners_are_set c (calls n alive).fits FirstOwned tt (owned_port c still) (owned_entry c still) names
  owned_first (wire_calls.Forget dead) still names = tt

  -- ---- what it may begin

  abbrev x : Seat
  x = (players n).seat

  abbrev y : Seat
  y = begin p x call

  node : NodeStands p stands.held r.last.state x
  node = subst (NodeStands p stands.held r.last.state) rested (stands.nodes n alive)

  has : CallStands p stands.held x
  has = subst (CallStands p stands.held) rested (calls n alive)

  first : PlaceFits p y y.local
  first = (begins_fit p x call stands.numbers owners_are_set named has.fits).place

  ports_own : (m : ℕ) (q : Port) → port_at (known p x) m ≡ Some q → q.node ≡ x.node → IsOwnPort p x r.last.state q
  ports_own =
      subst (λ k. (m : ℕ) (q : Port) → port_at (known p k) m ≡ Some q → q.node ≡ k.node → IsOwnPort p k r.last.state q) rested
      (own_port p stands.held (word_of words) stands.contents (seats_of p players) r.last n stands.shows alive stands.owners stands.numbers (stands.nodes n alive)
      (ap (λ (k : Seat). k.local) rested ∙ rests))

  owner_of : (m : ℕ) (q : Port) → port_at (known p x) m ≡ Some q → q.node ≡ x.node → p.layout.owner q.number ≡ x.node
  owner_of m q at mine =
      let own = ports_own m q at mine in
      stands.owners q.number ∙ ap (λ (o : Option Port). option_map_or (λ (r : Port). r.node) o 0) own.there ∙ mine

  lanes_for : HasLanesForSlots p x
  lanes_for =
      subst (HasLanesForSlots p) rested
      (free_slots_have_lanes p stands.held (word_of words) stands.contents (seats_of p players) r.last n stands.shows alive (stands.nodes n alive) (calls n alive).lanes)

  -- the lanes of its clients stay counted
  pub lanes_begun : AllLanesAreCounted p (begin p (players n).seat call)
  lanes_begun = begins_keep_lanes p stands.held r.last.state x call stands.numbers owners_are_set named rests has.fits node lanes_for has.lanes

  module _ (few : (port : ℕ) → loans_at (players n).seat port < 2 ^ 64) (told : BeginIsTold p stands.held r.last.state (players n).seat call) where
    own_entry : (k : ℕ) (e : Entry) → entry_at k x.table ≡ Some e → IsOwnEntry p x r.last.state stands.held e
    own_entry k e at =
        let number : e.number ≡ k = eqb-true e.number k (find-among (λ (i : Entry). i.number == k) e x.table at).1 in
        let home : IsPortOfSeat p x e.port = (has.fits.handles e (ap (λ i. entry_at i x.table) number ∙ at)).0 in
        record {
          port = ports_own e.port (p.port e.port) (port_there p e.port p.layout.sizes.ports stands.numbers home.0) (sym (owners_are_set e.port home.0) ∙ home.1);
          number = stands.numbers e.port home.0;
          elements = told.elements k e at;
          words = told.words k e at;
        }

    abbrev Home : Type 0
    Home = CallHolds (held_at p stands.held y.local) y.local × TakesNext p stands.held r.last.state NoMessage y.local

    by_start : Starts p r.last.state.request_state x y ⊎ Takes x y → Home
    by_start (inl start) = (
      starts_home p stands.held r.last.state x y node (held_at p stands.held y.local) y.local start.message first,
      starts_next p stands.held r.last.state x y node (held_at p stands.held y.local) y.local start.message,
    )
    by_start (inr takes) =
        let o = takes.loan in let slot = takes.slot in
        let next : IsNext p y o = subst (PlaceFits p y) takes.place first in
        let home : IsPortOfSeat p x o.port = (next.0.0, next.0.1 ∙ (begins_keep_own p x call).node) in
        let serial : o.serial ≡ loans_at x o.port
        = next.2 ∙ ap (λ (ds : List Desk). option_map_or (λ (d : Desk). d.loans) (find (λ d. d.port == o.port) ds) 0) takes.desks
        ∙ desks_stay loans_told 0 x o.port o.port (picks o slot takes.free) (record { port = λ d. refl; told = λ d. refl }) in
        subst (λ l. CallHolds (held_at p stands.held l) l × TakesNext p stands.held r.last.state NoMessage l) (sym takes.place) (
          ap (λ b. (if b then message_in p o else stands.held o.port slot).serial) (ap (λ b. b && (slot == slot)) (eqb-refl o.port) ∙ eqb-refl slot),
          record {
            serial = serial ∙ sym (node.loans o.port home);
            alone = λ j low same.
                absurd (none_here p stands.held r.last.state x 0 node has.fits has.loans few o j serial same (ap (slots_in_call o.port) rests)
                (has.loans.serials o.port j home low));
            lane = on_lane p y o slot 0 (lanes_are_set p words players r n stands alive) lanes_begun next takes.place;
          },
        )

    owns_first : (b : Bool) → moves_words call ≡ b → Owns p x.node f r.last.state.request_state y.local
    owns_first true is = told.owns is
    owns_first false is = subst (λ k. Owns p k.node f r.last.state.request_state (begin p k call).local) rested (owned_first call is unrefused.1)

    pub may_begin : MayBegin p stands.held r.last.state (players n).seat call
    may_begin =
        let start = by_start (starts p r.last.state.request_state x call) in
        record {
          rests = rests;
          entries = own_entry;
          lanes = λ m q at mine client. lanes_fit_at_rest p x m q stands.numbers has.lanes rests at (owner_of m q at mine) client;
          owns = owns_first (moves_words call) refl;
          home = start.0;
          next = start.1;
        }

pub calls_may_begin : CallsMayBegin
calls_may_begin p words players r n call stands calls few told free = may_begin p words players r n call stands calls free few told
