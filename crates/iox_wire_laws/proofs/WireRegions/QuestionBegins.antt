-- The request states that a handle asks are the wire's.
use Rattle.std.specs.Prelude.{◌<◌, ◌^◌, map, filter}
use Rattle.std.proofs.Common.{◌≡◌, ℕ, Bool, true, false, ◌==◌, List, [], ◌∷◌, sym, subst, eqb-true}
use Rattle.iox_model.specs.declared.kind.Kind.TheVariants.{PendingResponse}
use Rattle.iox_model.specs.declared.kind.Role.TheVariants.{Client, Server}
use Rattle.iox_model.specs.declared.way.RequestState.{RequestState}
use Rattle.iox_model.specs.declared.way.Way.{Way}
use Rattle.iox_model.specs.Handles.{same_kind}
use Rattle.iox_model.specs.Messages.{response_way}
use Rattle.iox_model.specs.Peers.{lanes_of, others}
use Rattle.iox_model.specs.States.{Fixed}
use Rattle.iox_laws.proofs.WeaveLaws.MapLemmas.{either}
use Rattle.iox_laws.proofs.WeaveLedger.Lists.{IsAmong, among-number, filter-among}
use Rattle.iox_word_map.specs.WordMaps.{IsResponseWay}
use Rattle.iox_wire_moments.specs.MomentsOf.{Pools}
use Rattle.iox_wire_locals.specs.declared.seat.Seat.{Seat}
use Rattle.iox_wire_locals.specs.declared.table.Entry.{Entry}
use Rattle.iox_wire_locals.specs.Known.{known}
use Rattle.iox_wire_locals.specs.Knowing.{Knows}
use Rattle.iox_wire_locals.specs.ReceiveCourses.{checking, hinting, states_for}
use Rattle.iox_wire_locals.specs.Tables.{Setting}
use Rattle.iox_wire_locals.proofs.KnowingLemmas.{others_known}
use Rattle.iox_wire_laws.specs.WireShows.OwnedCalls.{Each, OwnsCall}
use Rattle.iox_wire_laws.specs.WireRegions.OwnedBegins.{LayoutFits}
use Rattle.iox_wire_laws.specs.WireRegions.QuestionBegins.{AsksOwnHandle, QuestionsBeginAsOwners}
use Rattle.iox_wire_laws.proofs.WireRegions.OwnPorts.{each_map, is_response, of_role}
use Rattle.iox_wire_laws.proofs.WireRegions.OwnedNext.{raised}

module _ (p : Setting) (x : Seat) (f : Fixed) (held : Pools) (e : Entry) (fits : LayoutFits p f) (knows : Knows p x f held) (asked : AsksOwnHandle f x.node e) where
  abbrev R : Way → Type 0
  R y = IsResponseWay p.layout.sizes y

  by_pending : same_kind e.kind PendingResponse ≡ true → (servers : List ℕ) → others f x.node Server ≡ servers → Each R (map (response_way e.port e.lane) servers)
  by_pending is servers same =
      each_map R (response_way e.port e.lane) servers
      (λ s there. is_response p f fits e.port e.lane s (asked.pending is).0.0
      (of_role p f fits x.node Server s (among-number s (others f x.node Server) (subst (IsAmong s) (sym same) there))) (asked.pending is).1)

  by_active : same_kind e.kind PendingResponse ≡ false → (clients : List ℕ) → others f x.node Client ≡ clients
      → Each R (map (λ client. response_way client e.lane e.port) (filter (λ client. client == e.client) clients))
  by_active is clients same =
      each_map R (λ client. response_way client e.lane e.port) (filter (λ client. client == e.client) clients)
      (λ k there.
      let at = filter-among (λ client. client == e.client) k clients there in
      is_response p f fits k e.lane e.port
      (of_role p f fits x.node Client k (among-number k (others f x.node Client) (subst (IsAmong k) (sym same) at.0))) (asked.active is).0.0
      (subst (λ i. e.lane < lanes_of f i) (sym (eqb-true k e.client at.1)) (asked.active is).1))

  states : Each R (states_for p x e)
  states =
      either (Each R) (same_kind e.kind PendingResponse) (map (response_way e.port e.lane) (others (known p x) x.node Server))
      (map (λ client. response_way client e.lane e.port) (filter (λ client. client == e.client) (others (known p x) x.node Client)))
      (λ is. by_pending is (others (known p x) x.node Server) (others_known p x f held knows Server))
      (λ is. by_active is (others (known p x) x.node Client) (others_known p x f held knows Client))

checks : (p : Setting) (x : Seat) (f : Fixed) (shown : Way → RequestState) (e : Entry) (hinted : Bool) (ways : List Way)
    → Each (IsResponseWay p.layout.sizes) ways → OwnsCall p x.node f shown (checking x e hinted ways).local
checks p x f shown e hinted [] each = tt
checks p x f shown e hinted (w ∷ left) each = each

hints : (p : Setting) (x : Seat) (f : Fixed) (shown : Way → RequestState) (e : Entry) (ways : List Way) → e.request < 2 ^ 62
    → Each (IsResponseWay p.layout.sizes) ways → OwnsCall p x.node f shown (hinting x e ways).local
hints p x f shown e [] small each = tt
hints p x f shown e (w ∷ left) small each = (small, each)

pub questions_begin_as_owners : QuestionsBeginAsOwners
questions_begin_as_owners p x f held shown e hinted fits knows asked =
    let each : Each (IsResponseWay p.layout.sizes) (states_for p x e) = states p x f held e fits knows asked in (
      raised p x.node f shown (checking x e hinted (states_for p x e)).local (checks p x f shown e hinted (states_for p x e) each),
      λ small. raised p x.node f shown (hinting x e (states_for p x e)).local (hints p x f shown e (states_for p x e) small each),
    )
