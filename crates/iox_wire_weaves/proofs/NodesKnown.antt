-- What is so of a node of a wire that shows a run.
use Rattle.std.specs.Prelude.{IfSome, Option, is_some, option_map}
use Rattle.std.proofs.Common.{◌≡◌, ℕ, true, false, ◌==◌, Some, None, refl, ap, sym, subst, ◌∙◌, eqb-true, true≢false}
use Rattle.iox_model.specs.declared.kind.Kind.{Kind}
use Rattle.iox_model.specs.declared.kind.Kind.TheVariants as kinds
use Rattle.iox_model.specs.declared.kind.Role.{Role}
use Rattle.iox_model.specs.declared.kind.Role.TheVariants.{Client, Server}
use Rattle.iox_model.specs.Joins.{not_living}
use Rattle.iox_model.specs.Names.{is_port}
use Rattle.iox_model.specs.States.{Fixed}
use Rattle.iox_laws.proofs.WeaveLedger.Lists.{find-among}
use Rattle.iox_wire_locals.specs.Doings.{doing_of}
use Rattle.iox_wire_moments.specs.MomentsOf.{Pools}
use Rattle.iox_wire_nodes.specs.Entry.{Entry}
use Rattle.iox_wire_nodes.specs.Local.{Local}
use Rattle.iox_wire_needs.specs.Local.TheVariants.{Idle, ReleaseExchanges, ReleaseLooks}
use Rattle.iox_wire_needs.specs.Aside.{shown_at}
use Rattle.iox_wire_nodes.specs.LocalsBegins.{is_busy}
use Rattle.iox_wire_nodes.specs.Nodes.{NodeView, seat_at, seat_in}
use Rattle.iox_wire_nodes.specs.declared.call_at.CallAt.{CallAt}
use Rattle.iox_wire_nodes.specs.declared.call_at.CallAt.TheVariants as at
use Rattle.iox_wire_nodes.specs.Seat.{Seat}
use Rattle.iox_wire_nodes.specs.Tables.{Setting, entry_at}
use Rattle.iox_wire_needs.specs.CallPlaces.{CallFits, is_kind_of}
use Rattle.iox_wire_needs.specs.Runs.{Run}
use Rattle.iox_wire_needs.specs.SlotsKnown.{HasEntry}
use Rattle.iox_wire_needs.specs.Stands.{seats_of}
use Rattle.iox_wire_needs.proofs.StepsKept.{shown_same}
use Rattle.iox_wire_needs.specs.Following.{LeavesNothing, message_at}
use Rattle.iox_wire_weaves.specs.Laws.{NodesAreKnown}
use Rattle.iox_wire_weaves.specs.Wires.{Shows, WireData, WireNode, living_refusal, node_at, players_of, refusal_in, seat_of}
use Rattle.iox_wire_weaves.proofs.Lookups.{seat_there}

-- ---- its own part, whatever its call is

pub number_alike : (x : NodeView) (c : CallAt) → (seat_at c x).node ≡ x.seat.seat.node
number_alike x at.Seats = refl
number_alike x at.Receives = refl
number_alike x at.Lends = refl
number_alike x at.SendsRequest = refl
number_alike x at.SendsResponse = refl
number_alike x at.CopiesRequest = refl
number_alike x at.CopiesResponse = refl

pub table_alike : (x : NodeView) (c : CallAt) → (seat_at c x).table ≡ x.seat.seat.table
table_alike x at.Seats = refl
table_alike x at.Receives = refl
table_alike x at.Lends = refl
table_alike x at.SendsRequest = refl
table_alike x at.SendsResponse = refl
table_alike x at.CopiesRequest = refl
table_alike x at.CopiesResponse = refl

pub at_rest : (local : Local) → is_busy local ≡ false → local ≡ Idle
at_rest Idle rests = refl
at_rest local rests = absurd (true≢false rests)

-- a node is busy where its call has something to do, also as it is shown
busy_is : (p : Setting) (f : Fixed) (held : Pools) (node : ℕ) (local : Local) → is_some (doing_of p f held node local) ≡ is_busy local
busy_is p f held node Idle = refl
busy_is p f held node local = refl

shown_busy : (p : Setting) (s : Seat) (local : Local) → s.local ≡ local → is_busy (shown_at p s local).local ≡ is_busy local
shown_busy p s (ReleaseLooks e) is = refl
shown_busy p s (ReleaseExchanges e old) is = refl
shown_busy p s local is = ap is_busy is

-- no kind of a handle is a port's
pub handle_kind : (role : Role) (kind : Kind) → is_kind_of role kind ≡ true → is_port kind ≡ false
handle_kind Client kinds.RequestMut is = refl
handle_kind Client kinds.PendingResponse is = refl
handle_kind Client kinds.Response is = refl
handle_kind Client kind is = absurd (true≢false (sym is))
handle_kind Server kinds.ResponseMut is = refl
handle_kind Server kinds.ActiveRequest is = refl
handle_kind Server kind is = absurd (true≢false (sym is))

pub if_some : {A : Type 0} (P : A → Type 0) (o : Option A) → ((a : A) → o ≡ Some a → P a) → IfSome o P
if_some P None each = tt
if_some P (Some a) each = each a refl

module _ (p : Setting) (wire : WireData) (r : Run) (n : ℕ) (x : WireNode) (shows : Shows p wire r) (there : node_at n wire.nodes ≡ Some x) where
  pub here : seat_of p wire.nodes n ≡ seat_in x.node
  here = seat_there p wire.nodes n x there

  -- a living node is busy where the machine has something to do for it
  pub works : living_refusal wire.nodes n ≡ None → is_busy (seat_in x.node).local ≡ is_some (r.last.doing n)
  works alive =
      let own : Seat = seat_of p wire.nodes n in
      let seat : Seat = seats_of p (players_of p wire.nodes r) n in
      let does : r.last.doing seat.node ≡ doing_of p r.last.state.fixed shows.stands.stands.held seat.node seat.local
      = shows.stands.stands.shows.doing n (shows.living n ∙ ap (option_map refusal_in) alive) in
      sym (ap (λ (s : Seat). is_busy s.local) here) ∙ sym (shown_busy p own own.local refl)
      ∙ sym (busy_is p r.last.state.fixed shows.stands.stands.held seat.node seat.local)
      ∙ sym (ap is_some does) ∙ ap (λ k. is_some (r.last.doing k)) (shows.stands.stands.shows.node n)

  -- ---- between calls

  module _ (alive : living_refusal wire.nodes n ≡ None) (rests : is_busy (seat_in x.node).local ≡ false) where
    pub lives : not_living r.last.state n ≡ None
    lives = shows.living n ∙ ap (option_map refusal_in) alive

    pub idle : (seat_of p wire.nodes n).local ≡ Idle
    idle = ap (λ (s : Seat). s.local) here ∙ at_rest (seat_in x.node).local rests

    pub same : seats_of p (players_of p wire.nodes r) n ≡ seat_of p wire.nodes n
    same = shown_same p (seat_of p wire.nodes n) (seat_of p wire.nodes n).local (subst (λ l. LeavesNothing (message_at l)) (sym idle) tt)

    pub fits : CallFits p (seat_of p wire.nodes n)
    fits = subst (CallFits p) same (shows.stands.calls n lives).fits

    -- an entry of its table
    pub entry_there : (k : ℕ) (e : Entry) → entry_at k x.node.seat.seat.table ≡ Some e → HasEntry (seat_of p wire.nodes n) e
    entry_there k e at =
        let own : entry_at k (seat_of p wire.nodes n).table ≡ Some e
        = ap (λ (s : Seat). entry_at k s.table) here ∙ ap (entry_at k) (table_alike x.node x.node.at) ∙ at in
        ap (λ i. entry_at i (seat_of p wire.nodes n).table)
        (eqb-true e.number k (find-among (λ (i : Entry). i.number == k) e (seat_of p wire.nodes n).table own).1) ∙ own

    no_ports : (k : ℕ) → IfSome (entry_at k x.node.seat.seat.table) (λ e. is_port e.kind ≡ false)
    no_ports k =
        if_some (λ e. is_port e.kind ≡ false) (entry_at k x.node.seat.seat.table)
        (λ e at. handle_kind (p.port e.port).role e.kind (fits.handles e (entry_there k e at)).1)

  number : x.node.seat.seat.node ≡ n
  number =
      sym (number_alike x.node x.node.at) ∙ sym (ap (λ (s : Seat). s.node) here) ∙ node_alike (seat_of p wire.nodes n) (seat_of p wire.nodes n).local
      ∙ shows.stands.stands.shows.node n
    where
      node_alike : (s : Seat) (l : Local) → s.node ≡ (shown_at p s l).node
      node_alike s (ReleaseLooks e) = refl
      node_alike s (ReleaseExchanges e old) = refl
      node_alike s l = refl

pub nodes_are_known : NodesAreKnown
nodes_are_known p wire r n x shows there = (number p wire r n x shows there, no_ports p wire r n x shows there)
