-- A handle may be given up: its slot is in use, and fewer lanes are free than its port has slots.
use Rattle.std.specs.Prelude.{◌++◌}
use Rattle.std.proofs.Common.{◌≡◌, ℕ, ◌≤◌, Bool, true, false, ◌&&◌, ◌==◌, List, None, refl, ap, sym, subst, inl, inr, true≢false, eq-eqb}
use Rattle.std.proofs.lemmas.Bool.{cases_Bool}
use Rattle.iox_model.specs.declared.kind.Kind.{Kind}
use Rattle.iox_model.specs.declared.kind.Kind.TheVariants as kinds
use Rattle.iox_model.specs.declared.kind.Role.{Role}
use Rattle.iox_model.specs.declared.kind.Role.TheVariants.{Client, Server}
use Rattle.iox_model.specs.Handles.{is_own, is_received}
use Rattle.iox_model.specs.Joins.{not_living}
use Rattle.iox_model.specs.Maps.{has_number}
use Rattle.iox_model.specs.Settings.{is_client}
use Rattle.iox_laws.proofs.WeaveLedger.Lists.{among-back, among-filter, among-front, among-map, among-number}
use Rattle.iox_wire_keeps.specs.Desks.{MayGiveUp}
use Rattle.iox_wire_keeps.specs.Entry.{Entry}
use Rattle.iox_wire_keeps.specs.Following.{LeavesNothing, message_at}
use Rattle.iox_wire_keeps.specs.Lanes.{has_own_lane, lanes_in, lent_in}
use Rattle.iox_wire_keeps.specs.Local.TheVariants.{Idle}
use Rattle.iox_wire_keeps.specs.Nodes.{NodeStands}
use Rattle.iox_wire_keeps.specs.Places.{SuitsPort, is_kind_of}
use Rattle.iox_wire_keeps.specs.CallsStand.{CallStands}
use Rattle.iox_wire_keeps.specs.Seat.{Seat}
use Rattle.iox_wire_keeps.specs.SlotsKnown.{HasEntry}
use Rattle.iox_wire_keeps.specs.Tables.{Setting}
use Rattle.iox_wire_keeps.specs.UsedSlots.{slots_held, slots_in_call, slots_used}
use Rattle.iox_wire_keeps.specs.Uses.{how_often}
use Rattle.iox_wire_keeps.specs.Runs.{Run}
use Rattle.iox_wire_keeps.specs.Stands.{Player}
use Rattle.iox_wire_keeps.specs.WireStands.{WireStands}
use Rattle.iox_wire_keeps.proofs.LanesTell.{in_table, there_is}
use Rattle.iox_wire_keeps.proofs.StepsKept.{shown_same}
use Rattle.iox_wire_needs.specs.Counts.{IsTidy}
use Rattle.iox_wire_needs.specs.Handles.{HandlesMayBeGivenUp}
use Rattle.iox_wire_needs.proofs.GivenUp.{gives_up, server_gives_up}
use Rattle.iox_wire_needs.proofs.Places.{node}

-- what a client has and did not receive has a lane, and what a port has and did not receive is its own
own_lane : (kind : Kind) → is_kind_of Client kind ≡ true → is_received kind ≡ false → has_own_lane kind ≡ true
own_lane kinds.RequestMut is own = refl
own_lane kinds.PendingResponse is own = refl
own_lane kinds.Response is own = absurd (true≢false own)
own_lane kind is own = absurd (true≢false (sym is))

own_kind : (role : Role) (kind : Kind) → is_kind_of role kind ≡ true → is_received kind ≡ false → is_own kind ≡ true
own_kind Client kinds.RequestMut is own = refl
own_kind Client kinds.PendingResponse is own = refl
own_kind Client kinds.Response is own = absurd (true≢false own)
own_kind Client kind is own = absurd (true≢false (sym is))
own_kind Server kinds.ResponseMut is own = refl
own_kind Server kinds.ActiveRequest is own = absurd (true≢false own)
own_kind Server kind is own = absurd (true≢false (sym is))

is_a_client : (role : Role) → is_client role ≡ true → role ≡ Client
is_a_client Client is = refl
is_a_client Server is = absurd (true≢false (sym is))

both : (a b : Bool) → a ≡ true → b ≡ true → (a && b) ≡ true
both true b first second = second
both false b first second = absurd (true≢false (sym first))

module _ (p : Setting) (words : List ℕ) (players : ℕ → Player) (r : Run) (n : ℕ) (wire : WireStands p words players r) (living : not_living r.last.state n ≡ None)
    (idle : (players n).seat.local ≡ Idle) (tidy : IsTidy (players n).seat) (e : Entry) (has : HasEntry (players n).seat e) (own : is_received e.kind ≡ false) where
  abbrev x : Seat
  x = (players n).seat

  leaves : LeavesNothing (message_at (players n).seat.local)
  leaves = subst (λ l. LeavesNothing (message_at l)) (sym idle) tt

  call : CallStands p wire.stands.held (players n).seat
  call = subst (CallStands p wire.stands.held) (shown_same p x x.local leaves) (wire.calls n living)

  mine : NodeStands p wire.stands.held r.last.state (players n).seat
  mine = node p words players r n wire living leaves

  suits : SuitsPort p (players n).seat e.port e.kind
  suits = call.fits.handles e has

  -- its slot is in use
  there : has_number e.slot (slots_used (players n).seat e.port) ≡ true
  there =
      among-number e.slot (slots_used x e.port)
      (among-back e.slot (slots_in_call e.port x.local) _
      (among-front e.slot (slots_held x e.port) _
      (among-map (λ (k : Entry). k.slot) e _
      (among-filter (λ (k : Entry). is_own k.kind && (k.port == e.port)) e x.table (in_table x e has)
      (both (is_own e.kind) (e.port == e.port) (own_kind (p.port e.port).role e.kind suits.1 own) (eq-eqb e.port e.port refl))))))

  -- of a client
  at_client : is_client (p.port e.port).role ≡ true → MayGiveUp e (players n).seat.desks
  at_client client =
      gives_up p x mine.uses call.lanes tidy e suits.0 client there
      (subst (λ m. 1 ≤ how_often e.lane (lanes_in e.port (lent_in m ++ x.table))) (sym (ap message_at idle))
      (there_is e.port e x.table (in_table x e has)
      (own_lane e.kind (subst (λ role. is_kind_of role e.kind ≡ true) (is_a_client (p.port e.port).role client) suits.1) own) refl))

  -- of a server, which has no lane
  at_server : is_client (p.port e.port).role ≡ false → MayGiveUp e (players n).seat.desks
  at_server server = server_gives_up p x mine.uses call.lanes tidy e suits.0 server there ((mine.slots.pools e.port suits.0).within e.slot there)

pub handles_may_be_given_up : HandlesMayBeGivenUp
handles_may_be_given_up p words players r n wire living idle tidy e has own = elim (cases_Bool (is_client (p.port e.port).role)) [
  | inl client ↦ at_client p words players r n wire living idle tidy e has own client
  | inr server ↦ at_server p words players r n wire living idle tidy e has own server
]
