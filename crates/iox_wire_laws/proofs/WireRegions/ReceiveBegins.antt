-- As a receive or a send begins, its first place is owned; a layout that fits stays so.
use Rattle.std.specs.Prelude.{if◌then◌else◌, ◌<◌, map, filter, find}
use Rattle.std.specs.List.{list_any}
use Rattle.std.specs.Option.{option_map_or}
use Rattle.std.proofs.Common.{◌≡◌, ℕ, Bool, true, false, ◌==◌, ◌||◌, List, [], ◌∷◌, Some, None, true≢false, eqb-true, refl, ap, sym, subst, ◌∙◌, inl, inr}
use Rattle.iox_model.specs.declared.kind.Role.{Role}
use Rattle.iox_model.specs.declared.kind.Role.TheVariants.{Client, Server}
use Rattle.iox_model.specs.declared.way.RequestState.{RequestState}
use Rattle.iox_model.specs.declared.way.Way.{Way}
use Rattle.iox_model.specs.Joins.{not_living}
use Rattle.iox_model.specs.Maps.{has_number, AreDistinct}
use Rattle.iox_model.specs.Messages.{request_way, response_way}
use Rattle.iox_model.specs.Peers.{lanes_of, others, ports_of_role}
use Rattle.iox_model.specs.Receives.{clients_to_visit, is_at_limit, server_ways}
use Rattle.iox_model.specs.Settings.{same_role}
use Rattle.iox_model.specs.States.{Fixed, Port}
use Rattle.iox_model.specs.Weaves.{World}
use Rattle.iox_laws.proofs.WeaveBeats.LiveWays.{Here, here, ways_to_the_living_are_counted}
use Rattle.iox_laws.proofs.WeaveLaws.MapLemmas.{either}
use Rattle.iox_laws.proofs.WeaveLedger.Lists.{IsAmong, among-number}
use Rattle.iox_laws.proofs.WeaveLedger.Once.{beat-ports}
use Rattle.iox_laws.specs.WeaveWorlds.Worlds.{IsReachable}
use Rattle.iox_word_map.specs.WordMaps.{IsWay}
use Rattle.iox_wire_moments.specs.MomentsOf.{Pools}
use Rattle.iox_wire_words.specs.Fits.{WireContents}
use Rattle.iox_wire_locals.specs.declared.local.Visit.{Visit}
use Rattle.iox_wire_locals.specs.declared.local.Local.TheVariants.{ReceiveLooks, ReceivePops}
use Rattle.iox_wire_locals.specs.declared.seat.Seat.{Seat}
use Rattle.iox_wire_locals.specs.declared.table.Entry.{Entry}
use Rattle.iox_steps.specs.declared.pop.EmptyLook.TheVariants as empty_look
use Rattle.iox_steps.specs.declared.pop.Pop.TheVariants as pop
use Rattle.iox_steps.specs.declared.side.Popping.TheVariants as popping
use Rattle.iox_wire_locals.specs.Begins.{ways_for}
use Rattle.iox_wire_locals.specs.Courses as courses
use Rattle.iox_wire_locals.specs.Known.{known}
use Rattle.iox_wire_locals.specs.Knowing.{Knows}
use Rattle.iox_wire_locals.specs.ReceiveCourses.{seeking, visiting}
use Rattle.iox_wire_locals.specs.Tables.{Setting}
use Rattle.iox_wire_locals.specs.WorkedWires.{ones}
use Rattle.iox_wire_laws.specs.WireKeeping.Shows.{ShowsWorld}
use Rattle.iox_wire_laws.specs.WireShows.OwnedCalls.{Each, LimitsAreKnown, OwnsCall, ReceivesOn}
use Rattle.iox_wire_laws.specs.WireRegions.OwnedWords.{Owns}
use Rattle.iox_wire_laws.specs.WireRegions.OwnedBegins.{IsPortOf, LayoutFits, LayoutsStayFit, ReceivesBeginAsOwners, SendsBeginAsOwners, WorkedLayoutFits}
use Rattle.iox_wire_laws.proofs.WireRegions.OwnPorts.{connected, each_map, is_response, of_role}
use Rattle.iox_wire_laws.proofs.WireRegions.OwnedBegins.{copies_are_owned}
use Rattle.iox_wire_laws.proofs.WireRegions.OwnedNext.{raised}
use Rattle.iox_wire_laws.proofs.WireRegions.SendCourses as sent

-- ---- layouts

abbrev roled : List Port → Role → List ℕ
roled ports role = map (λ q. q.number) (filter (λ q. same_role q.role role) ports)

-- only ports decide what fits
layout_same : (p : Setting) (f g : Fixed) → g.ports ≡ f.ports → LayoutFits p f → LayoutFits p g
layout_same p f g same fits = record {
  numbers = subst (λ (ports : List Port). AreDistinct (map (λ q. q.number) ports)) (sym same) fits.numbers;
  clients = fits.clients ∙ ap (λ ports. roled ports Client) (sym same);
  servers = fits.servers ∙ ap (λ ports. roled ports Server) (sym same);
  owner = λ port there.
      fits.owner port (ap (λ (ports : List Port). list_any (λ q. q.number == port) ports) (sym same) ∙ there)
      ∙ ap (λ (ports : List Port). option_map_or (λ (q : Port). q.node) (find (λ q. q.number == port) ports) 0) (sym same);
  lanes = λ client there.
      fits.lanes client (subst (λ ports. has_number client (roled ports Client) ≡ true) same there)
      ∙ ap (λ (ports : List Port). option_map_or (λ (q : Port). q.pool) (find (λ q. q.number == client) ports) 0) (sym same);
}

pub layouts_stay_fit : LayoutsStayFit
layouts_stay_fit p w u b reach beat fits =
    let h : Here w = here w reach in layout_same p w.state.fixed u.state.fixed (beat-ports w u b beat h.holding.fits) fits

-- the worked wire has ports 0 and 1, on nodes 0 and 1, and only client 0 has lanes
pub worked_layout_fits : WorkedLayoutFits
worked_layout_fits = record {
  numbers = (refl, (refl, tt));
  clients = refl;
  servers = refl;
  owner = λ port there. at port (0 == port) (1 == port) refl refl there;
  lanes = λ client there. of_client client (0 == client) refl there;
}
  where
    at : (port : ℕ) (a b : Bool) → (0 == port) ≡ a → (1 == port) ≡ b → (a || (b || false)) ≡ true
        → port ≡ option_map_or (λ (q : Port). q.node) (if a then Some (ones.port 0) else (if b then Some (ones.port 1) else None)) 0
    at port true b is also there = sym (eqb-true 0 port is)
    at port false true is also there = sym (eqb-true 1 port also)
    at port false false is also there = absurd (true≢false (sym there))

    of_client : (client : ℕ) (a : Bool) → (0 == client) ≡ a → (a || false) ≡ true
        → 4 ≡ option_map_or (λ (q : Port). q.pool) (if a then Some (ones.port 0) else (if 1 == client then Some (ones.port 1) else None)) 0
    of_client client true is there = refl
    of_client client false is there = absurd (true≢false (sym there))

-- ---- sends

pub sends_begin_as_owners : SendsBeginAsOwners
sends_begin_as_owners p x f held shown e copied fits knows by =
    raised p x.node f shown (courses.sends p x e copied).local (sent.sends p x f shown held e copied knows (copies_are_owned p f x.node e fits by))

-- ---- receives

module _ (p : Setting) (x : Seat) (f : Fixed) (shown : Way → RequestState) (limits : LimitsAreKnown p x f) where
  abbrev K : Seat → Type 0
  K y = OwnsCall p x.node f shown y.local

  visits : (v : Visit) (ways : List Way) (waiting : Bool) → Each (ReceivesOn p x.node f) ways → K (visiting p x v ways waiting)
  visits v [] waiting each = tt
  visits v (w ∷ left) waiting each =
      let same : is_at_limit (known p x) w ≡ is_at_limit f w = limits w each.0.mine in
      either K (is_at_limit (known p x) w) (courses.placed x (ReceiveLooks v w (popping.Looks empty_look.LoadsRead) left waiting))
      (courses.placed x (ReceivePops v w false (popping.Pops pop.LoadsRead) left waiting)) (λ is. (each, sym same ∙ is)) (λ is. (each, λ first. sym same ∙ is))

  seeks : (ways : List Way) → Each (ReceivesOn p x.node f) ways → K (seeking x ways)
  seeks [] each = tt
  seeks (w ∷ left) each = each

module _ (p : Setting) (w : World) (x : Seat) (held : Pools) (reach : IsReachable w) (living : not_living w.state x.node ≡ None)
    (fits : LayoutFits p w.state.fixed) (knows : Knows p x w.state.fixed held) where
  abbrev f : Fixed
  f = w.state.fixed

  -- the node's own ports tell the roles of all
  told : (role : Role) (k : ℕ) → has_number k (ports_of_role (known p x) role) ≡ true → has_number k (ports_of_role w.state.fixed role) ≡ true
  told role k has = subst (λ ports. has_number k (roled ports role) ≡ true) (sym knows.ports) has

  comes : (y : Way) (role other : Role) → has_number y.sender (ports_of_role w.state.fixed other) ≡ true → IsPortOf w.state.fixed x.node role y.receiver
      → IsWay p.layout.sizes y → ReceivesOn p x.node w.state.fixed y
  comes y role other sender own way = record {
    way = way;
    mine = fits.owner y.receiver (connected w.state.fixed role y.receiver own.0) ∙ own.1;
    counted =
        ways_to_the_living_are_counted w x.node y reach living
        (connected w.state.fixed other y.sender sender, connected w.state.fixed role y.receiver own.0) own.1;
  }

  request_comes : (q client : ℕ) → IsPortOf w.state.fixed x.node Server q → has_number client (ports_of_role (known p x) Client) ≡ true
      → ReceivesOn p x.node w.state.fixed (request_way client q)
  request_comes q client own has =
      comes (request_way client q) Server Client (told Client client has) own (inl (rw fits.clients (told Client client has), rw fits.servers own.0, refl))

  response_comes : (e : Entry) (server : ℕ) → IsPortOf w.state.fixed x.node Client e.port → e.lane < lanes_of w.state.fixed e.port
      → has_number server (ports_of_role (known p x) Server) ≡ true → ReceivesOn p x.node w.state.fixed (response_way e.port e.lane server)
  response_comes e server own low has =
      comes (response_way e.port e.lane server) Client Server (told Server server has) own
      (inr (is_response p w.state.fixed fits e.port e.lane server own.0 (told Server server has) low))

  server_each : (q : Port) → IsPortOf w.state.fixed x.node Server q.number → Each (ReceivesOn p x.node w.state.fixed) (server_ways (known p x) q)
  server_each q own =
      each_map (ReceivesOn p x.node w.state.fixed) (λ client. request_way client q.number) (clients_to_visit (known p x) q)
      (λ client there. request_comes q.number client own
      (either (λ (ks : List ℕ). IsAmong client ks → has_number client (ports_of_role (known p x) Client) ≡ true) (known p x).limits.fire_and_forget
      (ports_of_role (known p x) Client) (others (known p x) q.node Client)
      (λ k among. among-number client (ports_of_role (known p x) Client) among)
      (λ k among. of_role p (known p x) (layout_same p w.state.fixed (known p x) (sym knows.ports) fits) q.node Client client
      (among-number client (others (known p x) q.node Client) among)) there))

  pending_each : (e : Entry) → IsPortOf w.state.fixed x.node Client e.port → e.lane < lanes_of w.state.fixed e.port
      → Each (ReceivesOn p x.node w.state.fixed) (ways_for p x e)
  pending_each e own low =
      each_map (ReceivesOn p x.node w.state.fixed) (response_way e.port e.lane) (ports_of_role (known p x) Server)
      (λ server there. response_comes e server own low (among-number server (ports_of_role (known p x) Server) there))

module _ (p : Setting) (held : Pools) (word : ℕ → ℕ) (c : WireContents) (seats : ℕ → Seat) (w : World) (n : ℕ) (v : Visit) (waiting : Bool)
    (shows : ShowsWorld p held word c seats w) (living : not_living w.state n ≡ None) (fits : LayoutFits p w.state.fixed)
    (limits : LimitsAreKnown p (seats n) w.state.fixed) where
  lives : not_living w.state (seats n).node ≡ None
  lives = rw (shows.node n) living

  here_too : (role : Role) (port : ℕ) → IsPortOf w.state.fixed n role port → IsPortOf w.state.fixed (seats n).node role port
  here_too role port own = subst (λ k. IsPortOf w.state.fixed k role port) (sym (shows.node n)) own

  abbrev Both : List Way → Type 0
  Both ways = Owns p (seats n).node w.state.fixed w.state.request_state (visiting p (seats n) v ways waiting).local
      × Owns p (seats n).node w.state.fixed w.state.request_state (seeking (seats n) ways).local

  owned : (ways : List Way) → Each (ReceivesOn p (seats n).node w.state.fixed) ways → Both ways
  owned ways each = (
    raised p (seats n).node w.state.fixed w.state.request_state (visiting p (seats n) v ways waiting).local
        (visits p (seats n) w.state.fixed w.state.request_state limits v ways waiting each),
    raised p (seats n).node w.state.fixed w.state.request_state (seeking (seats n) ways).local
        (seeks p (seats n) w.state.fixed w.state.request_state limits ways each),
  )

  of_servers : (q : Port) → IsPortOf w.state.fixed n Server q.number → Both (server_ways (known p (seats n)) q)
  of_servers q own =
      owned (server_ways (known p (seats n)) q)
      (server_each p w (seats n) held shows.reachable lives fits (shows.counts n living).knows q (here_too Server q.number own))

  of_pending : (e : Entry) → IsPortOf w.state.fixed n Client e.port → e.lane < lanes_of w.state.fixed e.port → Both (ways_for p (seats n) e)
  of_pending e own low =
      owned (ways_for p (seats n) e)
      (pending_each p w (seats n) held shows.reachable lives fits (shows.counts n living).knows e (here_too Client e.port own) low)

pub receives_begin_as_owners : ReceivesBeginAsOwners
receives_begin_as_owners p held word c seats w n v waiting shows living fits limits =
    (of_servers p held word c seats w n v waiting shows living fits limits, of_pending p held word c seats w n v waiting shows living fits limits)
