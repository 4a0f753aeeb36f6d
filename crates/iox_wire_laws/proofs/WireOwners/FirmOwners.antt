-- What is owned firmly stays so, and each call begins so.
use Rattle.std.specs.Prelude.{map, filter, find}
use Rattle.std.specs.Option.{option_map_or}
use Rattle.std.proofs.Common.{◌≡◌, ℕ, true, false, ◌==◌, List, [], ◌∷◌, Option, Some, None, refl, ap, sym, subst, ◌∙◌}
use Rattle.iox_model.specs.declared.kind.Kind.TheVariants.{PendingResponse}
use Rattle.iox_model.specs.declared.kind.Role.TheVariants.{Client, Server}
use Rattle.iox_model.specs.declared.way.Way.{Way}
use Rattle.iox_model.specs.Handles.{same_kind}
use Rattle.iox_model.specs.Joins.{not_living}
use Rattle.iox_model.specs.Maps.{has_number}
use Rattle.iox_model.specs.Messages.{response_way}
use Rattle.iox_model.specs.Peers.{node_of_port, others}
use Rattle.iox_model.specs.States.{Fixed, Port}
use Rattle.iox_model.specs.Weaves.{World, Beat, IsBeat}
use Rattle.iox_steps.specs.Accesses.{seen_by}
use Rattle.iox_laws.specs.WeaveLaws.Laws.{node_of_beat}
use Rattle.iox_laws.proofs.WeaveLaws.MapLemmas.{either}
use Rattle.iox_laws.proofs.WeaveLedger.Lists.{among-any, find-among}
use Rattle.iox_laws.proofs.WeaveLedger.Truths.{never}
use Rattle.iox_laws.specs.WeaveWorlds.Worlds.{IsReachable}
use Rattle.iox_word_map.specs.WordMaps.{IsResponseWay}
use Rattle.iox_wire_words.specs.Programs.{program_access}
use Rattle.iox_wire_locals.specs.declared.local.Local.{Local}
use Rattle.iox_wire_locals.specs.declared.local.Local.TheVariants.{ReleaseCloses}
use Rattle.iox_wire_locals.specs.declared.seat.Seat.{Seat}
use Rattle.iox_wire_locals.specs.declared.table.Entry.{Entry}
use Rattle.iox_wire_locals.specs.Known.{known}
use Rattle.iox_wire_locals.specs.Locals.{program_of}
use Rattle.iox_wire_locals.specs.ReceiveCourses.{states_for}
use Rattle.iox_wire_locals.specs.Steps.{advance, accessed}
use Rattle.iox_wire_locals.specs.Tables.{Setting, entry_at}
use Rattle.iox_wire_locals.specs.BeginLaws.{IsOwnEntry}
use Rattle.iox_wire_laws.proofs.WireKeeping.CountsKept.{steps_keep_own}
use Rattle.iox_wire_laws.specs.WireShows.OwnedCalls.{Each, ClosesOn}
use Rattle.iox_wire_laws.specs.WireRegions.OwnedBegins.{LayoutFits}
use Rattle.iox_wire_laws.proofs.WireRegions.OwnedNext.{owners_stay_owners, owners_go_on}
use Rattle.iox_wire_laws.proofs.WireRegions.OwnedOthers.{others_leave_owned}
use Rattle.iox_wire_laws.proofs.WireRegions.OwnPorts.{connected, each_map}
use Rattle.iox_wire_laws.specs.WireOwners.FirmOwners.{ClosesOwn, IsOfNode, OwnsFirmly, OthersLeaveFirm, FirmOwnersStay, FirmOwnersGoOn, CallsBeginFirmly}
use Rattle.iox_wire_laws.proofs.WireOwners.RequestStates.{others_open_nothing}
use Rattle.iox_wire_laws.proofs.WireOwners.CallsClose as calls

-- ---- beats of others

-- the client of a request state is on the node that the layout says
pub client_at : (p : Setting) (w : World) (n : ℕ) → LayoutFits p w.state.fixed → (y : Way) → IsResponseWay p.layout.sizes y → IsOfNode p n y
    → node_of_port w.state.fixed y.receiver ≡ n
client_at p w n fits y way mine =
    sym (fits.owner y.receiver (connected w.state.fixed Client y.receiver (subst (λ ks. has_number y.receiver ks ≡ true) fits.clients way.2))) ∙ mine

module _ (p : Setting) (w u : World) (b : Beat) (n : ℕ) (reach : IsReachable w) (beat : IsBeat w b u) (other : (n == node_of_beat b) ≡ false)
    (living : not_living u.state n ≡ None) (fits : LayoutFits p w.state.fixed) where
  closes_still : (e : Entry) (ways : List Way) → Each (ClosesOn p w.state.request_state e) ways → Each (IsOfNode p n) ways
      → Each (ClosesOn p u.state.request_state e) ways
  closes_still e [] each mine = tt
  closes_still e (y ∷ ways) each mine = (
    (each.0.0, others_open_nothing w u b n e.request y reach beat other (client_at p w n fits y each.0.0 mine.0) each.0.1),
    closes_still e ways each.1 mine.1,
  )

  by_place : (local : Local) → OwnsFirmly p n w.state.fixed w.state.request_state local → OwnsFirmly p n u.state.fixed u.state.request_state local
  by_place (ReleaseCloses e y left) firm = record { owns = closes_still e (y ∷ left) firm.owns firm.closes; closes = firm.closes }
  by_place local firm = record { owns = others_leave_owned p w u b n local reach beat other living fits tt firm.owns; closes = firm.closes }

pub others_leave_firm : OthersLeaveFirm
others_leave_firm p w u b n local reach beat other living fits firm = by_place p w u b n reach beat other living fits local firm

-- ---- own accesses

pub firm_owners_stay : FirmOwnersStay
firm_owners_stay p held s x seen firm knows free limits relies tells lent = record {
  owns = owners_stay_owners p held s x seen firm.owns knows free limits relies tells lent;
  closes =
      subst (λ k. ClosesOwn p k (advance p (accessed x) x.local seen).local) (sym (steps_keep_own p x seen).node)
      (calls.advance p x.node (accessed x) x.local seen refl firm.closes).closes;
}

pub firm_owners_go_on : FirmOwnersGoOn
firm_owners_go_on p held word word' c seats w n shows living firm free lane limits tells relies lent made = (
  (owners_go_on p held word word' c seats w n shows living firm.owns free lane limits tells relies lent made).0,
  firm_owners_stay p held w.state (seats n) (seen_by (program_access p.layout (program_of p (seats n).local)) word) firm
      (shows.counts n living).knows free limits relies tells lent,
)

-- ---- begins

-- a port that is found is connected, on its own node
found : (p : Setting) (f : Fixed) (n port : ℕ) (q : Port) → LayoutFits p f → find (λ (r : Port). r.number == port) f.ports ≡ Some q → q.node ≡ n
    → p.layout.owner port ≡ n
found p f n port q fits at mine =
    let there = find-among (λ (r : Port). r.number == port) q f.ports at in
    fits.owner port (among-any (λ (r : Port). r.number == port) q f.ports there.0 there.1)
    ∙ ap (λ (o : Option Port). option_map_or (λ r. r.node) o 0) at ∙ mine

pub own_states : (p : Setting) (x : Seat) (e : Entry) → p.layout.owner e.port ≡ x.node → same_kind e.kind PendingResponse ≡ true
    → Each (IsOfNode p x.node) (states_for p x e)
own_states p x e mine is =
    either (Each (IsOfNode p x.node)) (same_kind e.kind PendingResponse) (map (response_way e.port e.lane) (others (known p x) x.node Server))
    (map (λ client. response_way client e.lane e.port) (filter (λ client. client == e.client) (others (known p x) x.node Client)))
    (λ k. each_map (IsOfNode p x.node) (response_way e.port e.lane) (others (known p x) x.node Server) (λ s there. mine))
    (λ k. never (same_kind e.kind PendingResponse) is k)

pub calls_begin_firmly : CallsBeginFirmly
calls_begin_firmly p held w x call fits ready owns = record { owns = owns; closes = (calls.begin p x.node x call mine).closes }
  where
    mine : (k : ℕ) (e : Entry) → entry_at k x.table ≡ Some e → same_kind e.kind PendingResponse ≡ true → Each (IsOfNode p x.node) (states_for p x e)
    mine k e at is =
        let own : IsOwnEntry p x w.state held e = ready.entries k e at in
        own_states p x e
        (found p w.state.fixed x.node e.port (p.port e.port) fits
        (subst (λ j. find (λ (r : Port). r.number == j) w.state.fixed.ports ≡ Some (p.port e.port)) own.number own.port.there) own.port.mine) is
