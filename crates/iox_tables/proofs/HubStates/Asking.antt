-- Whether something waits; and loans, up to their end.
use Rattle.std.specs.Prelude.{◌≡◌, ℕ, false, not, ◌||◌, if◌then◌else◌, ◌==◌, List, [], ◌∷◌, ◌++◌, Option, None, refl}
use Rattle.std.specs.List.{list_any}
use Rattle.std.specs.Option.{option_map_or}
use Rattle.std.proofs.Common.{sym, ap, ap₂, subst, ◌∙◌, append_assoc}
use Rattle.iox_model.specs.declared.kind.Role.{Role}
use Rattle.iox_model.specs.declared.kind.Role.TheVariants.{Client, Server}
use Rattle.iox_model.specs.declared.call.Call.TheVariants.{HasRequests, HasResponse}
use Rattle.iox_model.specs.declared.kind.Kind.TheVariants.{PendingResponse}
use Rattle.iox_model.specs.declared.reply.Refusal.TheVariants.{ForeignNumber, OutOfMemory, WrongKind}
use Rattle.iox_model.specs.declared.reply.Reply.TheVariants.{Answer}
use Rattle.iox_model.specs.Commands.{Refusal, Reply}
use Rattle.iox_model.specs.Counts.{added, called, lent, numbered, with_fixed}
use Rattle.iox_model.specs.Doings.{Loans, Receiver}
use Rattle.iox_model.specs.Handles.{Subject, ThePort, kind_of, same_kind, subject}
use Rattle.iox_model.specs.Loans.{lending_ways}
use Rattle.iox_model.specs.Maps.{or_else, put_at, refused_if, AreDistinct}
use Rattle.iox_model.specs.Names.{suits}
use Rattle.iox_model.specs.Outstandings.{is_dry, kept}
use Rattle.iox_model.specs.States as m
use Rattle.iox_laws.proofs.WeaveLaws.MapLemmas.{eqb-refl}
use Rattle.iox_laws.specs.CallFunctions.Answers.{answered, of_handle, refusing, unless}
use Rattle.iox_laws.specs.CallFunctions.Looks.{sought_by_pending, sought_by_server, waits_on}
use Rattle.iox_lanes.specs.Lanes.{has_waiting}
use Rattle.iox_lanes.specs.Pipes.{PipeState, on_lane}
use Rattle.iox_tables.specs.HubStates.Tables.{HubTables, PortState, pipes_to, senders_of}
use Rattle.iox_tables.specs.HubStates.Ways.{lane_by, lane_on}
use Rattle.iox_tables.specs.HubStates.Shown.{by_lane}
use Rattle.iox_tables.specs.HubStates.States.{Given, fixed_of, port_of, state_shown}
use Rattle.iox_tables.specs.HubStates.Changes.{emptied_lane}
use Rattle.iox_tables.specs.HubStates.Ends.{with_added}
use Rattle.iox_tables.specs.HubStates.Names.{NamesHandle, NamesPort}
use Rattle.iox_tables.specs.HubStates.Receives.{way_to, ways_to}
use Rattle.iox_tables.specs.HubStates.Releases.{lane_of, request_of}
use Rattle.iox_tables.specs.HubStates.Asks.{LendingIsShown, LoansAreHandedOut, PendingsAreTold, ServersAreTold, waits_for, with_all_back}
use Rattle.iox_tables.proofs.HubStates.Ends.{each_count_is_shown, each_handle_is_shown}
use Rattle.iox_tables.proofs.HubStates.Lists.{any-append}
use Rattle.iox_tables.proofs.HubStates.Naming.{each_handle_is_named, each_port_is_named}
use Rattle.iox_tables.proofs.HubStates.Pipes.{lane_there, none_before, put_at_same}
use Rattle.iox_tables.proofs.HubStates.Steps.{emptying_is_shown, lanes_fixed, waiting_is_shown}
use Rattle.iox_tables.proofs.HubStates.Serving.{distinct, distinct_at, pending_ways_are, pipes_at, pipes_is, ways_are}

-- ---- what waits for one port

module _ (x : Given) (t : HubTables) (r : Receiver) (apart : AreDistinct (senders_of (pipes_to t.ports r.port))) where
  -- the ways to a port are full where its pipes are
  waits_from : (done qs : List PipeState) → pipes_to t.ports r.port ≡ done ++ qs
      → list_any (by_lane has_waiting false (lane_on t.ports)) (ways_to r qs) ≡ list_any (λ q. on_lane has_waiting false q r.lane) qs
  waits_from done [] is = refl
  waits_from done (q ∷ qs) is =
      ap₂ (λ a b. a || b)
      (ap (λ o. option_map_or has_waiting o false)
      (ap (λ pipes. lane_by pipes (way_to r q.sender)) (sym (ap (put_at (pipes_to t.ports) r.port) (sym is) ∙ put_at_same (pipes_to t.ports) r.port))
      ∙ lane_there (pipes_to t.ports) r.port r.lane done qs q (none_before done qs q (subst (λ zs. AreDistinct (senders_of zs)) is apart))))
      (waits_from (done ++ q ∷ []) qs (is ∙ sym (append_assoc done (q ∷ []) qs)))

  -- those of the expired and those of the connected
  waits_is : (p : PortState) → p.expired.pipes ++ p.incoming.pipes ≡ pipes_to t.ports r.port
      → waits_on (state_shown x t) (ways_to r (pipes_to t.ports r.port)) ≡ waits_for p r.lane
  waits_is p is =
      waiting_is_shown x t (ways_to r (pipes_to t.ports r.port))
      ∙ waits_from [] (pipes_to t.ports r.port) refl
      ∙ ap (list_any (λ q. on_lane has_waiting false q r.lane)) (sym is)
      ∙ any-append (λ q. on_lane has_waiting false q r.lane) p.expired.pipes p.incoming.pipes

-- ---- questions

pub servers_are_told : ServersAreTold
servers_are_told x t node n server wired =
    ap (λ (o : Option Refusal). unless o s (unless None s (answered s node (sought_by_server s (subject f node n)))))
    (named.refused (HasRequests n) refl
    ∙ ap₂ (λ (k : ℕ) (role : Role). or_else (refused_if (not (k == node)) ForeignNumber) (refused_if (not (suits false (HasRequests n) (kind_of (ThePort (record (port_of x server.port) { role = role }))))) WrongKind)) server.on_node server.server
    ∙ ap (λ c. or_else (refused_if (not c) ForeignNumber) None) (eqb-refl node))
    ∙ ap (λ (o : Option Subject). answered s node (sought_by_server s o)) named.names
    ∙ ap (λ b. tells (Answer b) s)
    (ap (waits_on s) (ways_are x t node n server wired)
    ∙ waits_is x t (record { port = n; role = Server; lane = 0; request = 0 }) (distinct x t node n server wired) server.port (pipes_is x t node n server wired))
  where
    s : m.State
    s = state_shown x t

    f : m.Fixed
    f = fixed_of x t

    named : NamesPort x t node n server.port
    named = each_port_is_named x t node n server.port server.there server.held

    tells : Reply → m.State → Reply × m.State
    tells r u = (r, u)

pub pendings_are_told : PendingsAreTold
pendings_are_told x t node n pending wired =
    ap (λ (o : Option Refusal). unless o s (unless None s (answered s node (of_handle s (subject f node n) (sought_by_pending s)))))
    (named.refused (HasResponse n) refl ∙ ap (λ k. refused_if (not (same_kind k PendingResponse)) WrongKind) pending.kind)
    ∙ ap (λ (o : Option Subject). answered s node (of_handle s o (sought_by_pending s))) named.names
    ∙ ap (λ b. tells (Answer b) s)
    (ap (waits_on s) (pending_ways_are x t node n pending wired)
    ∙ waits_is x t (record { port = pending.handle.port; role = Client; lane = lane_of t pending.handle; request = request_of t pending.handle })
    (distinct_at x t node n pending wired) pending.port (pipes_at x t node n pending wired))
  where
    s : m.State
    s = state_shown x t

    f : m.Fixed
    f = fixed_of x t

    named : NamesHandle x t node n pending.handle
    named = each_handle_is_named x t node n pending.handle pending.named

    tells : Reply → m.State → Reply × m.State
    tells r u = (r, u)

-- ---- loans

pub lending_is_shown : LendingIsShown
lending_is_shown x t h once =
    ap (λ (u : m.State). if is_dry u.fixed h.port (kept u h.port []) then refusing OutOfMemory u else (Loans h, u))
    (sym (emptying_is_shown x t (lending_ways (fixed_of x t) h) once))
    ∙ ap (λ (g : m.Fixed). if is_dry g h.port (kept (state_shown x (with_all_back x t h)) h.port []) then refusing OutOfMemory (state_shown x (with_all_back x t h)) else (Loans h, state_shown x (with_all_back x t h)))
    (lanes_fixed emptied_lane (λ l. refl) x t (lending_ways (fixed_of x t) h))

pub loans_are_handed_out : LoansAreHandedOut
loans_are_handed_out x t loan payload h is there =
    let f : m.Fixed = fixed_of x t in
    let s : m.State = state_shown x t in
    (λ i. with_fixed s (called (lent (added (numbered f h.node) (sym is i)) (sym is i).port)))
    ∙ ap (λ (u : m.State). with_fixed u (called (lent u.fixed h.port))) (each_handle_is_shown x t h).adds
    ∙ ap (λ (u : m.State). with_fixed u (called u.fixed)) ((each_count_is_shown x (with_added t h) h.port).loans there)
