-- As a call begins, what is so of its first place is so.
use Rattle.std.specs.Prelude.{option_map, filter, map, not, ◌&&◌}
use Rattle.std.proofs.Common.{◌≡◌, ℕ, Bool, true, false, if◌then◌else◌, ◌==◌, List, Option, Some, None, refl, ap, sym, subst, ◌∙◌, true≢false, eqb-true}
use Rattle.iox_model.specs.declared.call.Call.TheVariants.{HasHint, HasRequests, HasResponse, IsConnected, Loan, Read, Receive, Release, Send, SendCopy, SetHint, Write}
use Rattle.iox_model.specs.declared.kind.Role.{Role}
use Rattle.iox_model.specs.declared.kind.Role.TheVariants.{Client, Server}
use Rattle.iox_model.specs.Commands.{Call, WireCall, number_of}
use Rattle.iox_model.specs.declared.call.WireCall.TheVariants as wire_calls
use Rattle.iox_model.specs.Handles.{node_of, Subject, TheHandle, ThePort, kind_of, port_or_handle}
use Rattle.iox_model.specs.Maps.{has_number}
use Rattle.iox_model.specs.Messages.{request_way, response_way}
use Rattle.iox_model.specs.Names.{misnamed, misnamed_by, suits}
use Rattle.iox_model.specs.Peers.{forgot_port, others, port_at, ports_of_role}
use Rattle.iox_model.specs.Receives.{clients_to_visit, server_ways}
use Rattle.iox_model.specs.Settings.{is_client, same_role}
use Rattle.iox_model.specs.States.{Handle, Port}
use Rattle.iox_laws.proofs.WeaveLaws.MapLemmas.{either}
use Rattle.iox_laws.proofs.WeaveLaws.WholeLemmas.{or_else-none}
use Rattle.iox_laws.proofs.WeaveLedger.Lists.{IsAmong, among-number, any-among, filter-among, find-among, map-among}
use Rattle.iox_laws.proofs.WeaveLedger.Truths.{false_if, none-some, passes}
use Rattle.iox_wire_steps.specs.CallRefusal.TheVariants.{UnknownNumber}
use Rattle.iox_wire_steps.specs.Ending.TheVariants as endings
use Rattle.iox_wire_steps.specs.Seat.{Seat}
use Rattle.iox_wire_steps.specs.Courses.{ended}
use Rattle.iox_wire_steps.specs.Entry.{Entry}
use Rattle.iox_wire_steps.specs.Begins.{begin, begins_at, begins_at_entry, begins_at_port, misnamed_call, pending_visit, server_visit, ways_for}
use Rattle.iox_wire_steps.specs.Known.{known, told_handle}
use Rattle.iox_wire_steps.specs.ReceiveCourses.{states_for}
use Rattle.iox_wire_steps.specs.Tables.{Setting, entry_at}
use Rattle.iox_wire_steps.specs.OwnedCalls.{Each}
use Rattle.iox_wire_steps.specs.SlotsKnown.{HasEntry, IsPortOfSeat}
use Rattle.iox_wire_steps.proofs.CountsKept.{begins_keep_own}
use Rattle.iox_wire_steps.proofs.Lookups.{find_map}
use Rattle.iox_wire_steps.proofs.OwnPorts.{both, each_map}
use Rattle.iox_wire_steps.specs.Stands.{AreNumbered}
use Rattle.iox_wire_calls.specs.PlaceLaws.{BeginsFit}
use Rattle.iox_wire_calls.specs.Places.{CallFits, OwnersAreSet, SuitsPort, VisitFits, VisitsWay}
use Rattle.iox_wire_calls.proofs.HandleKinds.{answers_is, asks_is, copies_is, loan_is, receives_is, sent_is}
use Rattle.iox_wire_calls.proofs.PlaceCourses.{Fits, checking, copies_request, copies_response, hinting, loans_request, loans_response, reads, releasing, seeking, sends, visiting, writes}

none_if : (b : Bool) → not b ≡ true → b ≡ false
none_if true is = sym is
none_if false is = refl

same_is : (a b : Role) → same_role a b ≡ true → a ≡ b
same_is Client Client is = refl
same_is Client Server is = absurd (true≢false (sym is))
same_is Server Client is = absurd (true≢false (sym is))
same_is Server Server is = refl

module _ (p : Setting) (x : Seat) (numbered : AreNumbered p) (owners : OwnersAreSet p) where
  -- ---- ports

  -- a known port is the setting's of that number
  pub known_port : (q : Port) → IsAmong q (map p.port p.layout.sizes.ports) → p.port q.number ≡ q
  known_port q among =
      let at = map-among p.port q p.layout.sizes.ports among in
      ap p.port (ap (λ (r : Port). r.number) at.2 ∙ numbered at.0 (among-number at.0 p.layout.sizes.ports at.1)) ∙ sym at.2

  role_of : (role : Role) (k : ℕ) → IsAmong k (ports_of_role (known p x) role) → (p.port k).role ≡ role
  role_of role k among =
      let at = map-among (λ (q : Port). q.number) k (filter (λ q. same_role q.role role) (map p.port p.layout.sizes.ports)) among in
      let there = filter-among (λ (q : Port). same_role q.role role) at.0 (map p.port p.layout.sizes.ports) at.1 in
      ap (λ i. (p.port i).role) at.2 ∙ ap (λ (q : Port). q.role) (known_port at.0 there.0) ∙ same_is at.0.role role there.1

  module _ (role : Role) (k : ℕ) (among : IsAmong k (others (known p x) x.node role)) where
    abbrev IsOther : Port → Type 0
    IsOther q = IsAmong q (map p.port p.layout.sizes.ports) × (k ≡ q.number) × (same_role q.role role ≡ true) × (has_number q.node x.forgot ≡ false)

    other : (q : Port) × IsOther q
    other =
        let at = map-among (λ (q : Port). q.number) k (filter (λ q. same_role q.role role && not (has_number q.node x.forgot)) (map p.port p.layout.sizes.ports)) among in
        let there = filter-among (λ (q : Port). same_role q.role role && not (has_number q.node x.forgot)) at.0 (map p.port p.layout.sizes.ports) at.1 in
        let parts = both (same_role at.0.role role) (not (has_number at.0.node x.forgot)) there.1 in
        (at.0, (there.0, at.2, parts.0, none_if (has_number at.0.node x.forgot) parts.1))

    other_role_of : (p.port k).role ≡ role
    other_role_of = let o = other in ap (λ i. (p.port i).role) o.1.1 ∙ ap (λ (q : Port). q.role) (known_port o.0 o.1.0) ∙ same_is o.0.role role o.1.2

    other_unforgotten : forgot_port (known p x) x.node k ≡ false
    other_unforgotten =
        let o = other in
        false_if (forgot_port (known p x) x.node k) (λ e.
        let r = any-among (λ (q : Port). (q.number == k) && has_number q.node x.forgot) (map p.port p.layout.sizes.ports) e in
        let t = both (r.0.number == k) (has_number r.0.node x.forgot) r.2 in
        let same : r.0 ≡ o.0 = sym (known_port r.0 r.1) ∙ ap p.port (eqb-true r.0.number k t.0 ∙ o.1.1) ∙ known_port o.0 o.1.0 in
        true≢false (sym t.1 ∙ ap (λ (q : Port). has_number q.node x.forgot) same ∙ o.1.3))

  -- ---- receives

  server_each : (q : Port) → VisitFits p x (server_visit q) → Each (VisitsWay p x (server_visit q)) (server_ways (known p x) q)
  server_each q set =
      each_map (VisitsWay p x (server_visit q)) (λ client. request_way client q.number) (clients_to_visit (known p x) q)
      (λ client there.
      either (λ (ks : List ℕ). IsAmong client ks → VisitsWay p x (server_visit q) (request_way client q.number)) p.limits.fire_and_forget
      (ports_of_role (known p x) Client) (others (known p x) x.node Client)
      (λ is among. (set, role_of Client client among, λ server asks. absurd (true≢false (sym is ∙ asks))))
      (λ is among. (set, other_role_of Client client among, λ server asks. other_unforgotten Client client among)) there)

  pending_each : (e : Entry) → VisitFits p x (pending_visit e) → Each (VisitsWay p x (pending_visit e)) (ways_for p x e)
  pending_each e set =
      each_map (VisitsWay p x (pending_visit e)) (response_way e.port e.lane) (ports_of_role (known p x) Server)
      (λ port there. (set, role_of Server port there, λ server asks. absurd (true≢false server)))

  -- ---- what a call names

  -- a known port of the node
  pub home_port : (q : Port) → IsAmong q (map p.port p.layout.sizes.ports) → q.node ≡ x.node → IsPortOfSeat p x q.number
  home_port q among mine =
      let at = map-among p.port q p.layout.sizes.ports among in
      let has : has_number at.0 p.layout.sizes.ports ≡ true = among-number at.0 p.layout.sizes.ports at.1 in
      let there : has_number q.number p.layout.sizes.ports ≡ true
      = subst (λ k. has_number k p.layout.sizes.ports ≡ true) (sym (ap (λ (r : Port). r.number) at.2 ∙ numbered at.0 has)) has in
      (there, owners q.number there ∙ ap (λ (r : Port). r.node) (known_port q among) ∙ mine)

  at_port : (call : Call) (q : Port) → IsPortOfSeat p x q.number → p.port q.number ≡ q → suits true call (kind_of (ThePort q)) ≡ true → Fits p (begins_at_port p x call q)
  at_port (Loan n k) q home set suited = loans_request p x q k home set
  at_port (SendCopy n y) q home set suited = copies_request p x q y.elements y.words home set
  at_port (Receive n) q home set suited =
      visiting p x (server_visit q) (server_ways (known p x) q) false (server_each q (home, ap (λ (r : Port). r.role) set ∙ receives_is n q.role suited))
  at_port (HasRequests n) q home set suited = seeking p x (server_ways (known p x) q)
  at_port call q home set suited = tt

  at_entry : (call : Call) (e : Entry) → SuitsPort p x e.port e.kind → suits true call e.kind ≡ true → Fits p (begins_at_entry p x call e)
  at_entry (Loan n k) e suits suited = loans_response p x e k suits.0 (answers_is n k (p.port e.port).role e.kind suits.1 suited)
  at_entry (Write n y) e suits suited = writes p x e y.elements y.words (loan_is (is_client y.role) e.kind suited)
  at_entry (Send n) e suits suited = sends p x e false (sent_is n e.kind suited) suits
  at_entry (SendCopy n y) e suits suited = copies_response p x e y.elements y.words suits.0 (copies_is n y (p.port e.port).role e.kind suits.1 suited)
  at_entry (Receive n) e suits suited = visiting p x (pending_visit e) (ways_for p x e) false (pending_each e (suits.0, asks_is n (p.port e.port).role e.kind suits.1 suited))
  at_entry (Read n) e suits suited = reads p x e
  at_entry (Release n) e suits suited = releasing p x e
  at_entry (IsConnected n) e suits suited = checking p x e false (states_for p x e)
  at_entry (SetHint n) e suits suited = hinting p x e (states_for p x e)
  at_entry (HasHint n) e suits suited = checking p x e true (states_for p x e)
  at_entry (HasResponse n) e suits suited = seeking p x (ways_for p x e)
  at_entry call e suits suited = tt

  -- a call begins as that of a port or of a handle that it suits, or names nothing
  module _ (call : Call) (fits : CallFits p x) (K : Seat → Type 0) (unknown : K (ended x (endings.Refuses UnknownNumber)))
      (ports : (q : Port) → IsPortOfSeat p x q.number → p.port q.number ≡ q → suits true call (kind_of (ThePort q)) ≡ true → K (begins_at_port p x call q))
      (entries : (e : Entry) → HasEntry x e → SuitsPort p x e.port e.kind → suits true call e.kind ≡ true → K (begins_at_entry p x call e)) where
    abbrev named : Option Port → Option Entry → Option Subject
    named q e = port_or_handle q (option_map (told_handle p x.node) e)

    fits_name : (y : Subject) → misnamed_by (known p x) x.node call (Some y) ≡ None → ((node_of y == x.node) ≡ true) × (suits true call (kind_of y) ≡ true)
    fits_name y is = let parts = or_else-none _ _ is in (passes _ _ parts.0, passes _ _ parts.1)

    by_value : (q : Port) (b : Bool) → IsAmong q (map p.port p.layout.sizes.ports) → misnamed_by (known p x) x.node call (if b then Some (ThePort q) else None) ≡ None
        → K (begins_at_port p x call q)
    by_value q true among is =
        let named = fits_name (ThePort q) is in ports q (home_port q among (eqb-true q.node x.node named.0)) (known_port q among) named.1
    by_value q false among is = none-some _ (sym is)

    there : (q : Port) → port_at (known p x) (number_of call) ≡ Some q → IsAmong q (map p.port p.layout.sizes.ports)
    there q is = (find-among (λ (r : Port). r.number == number_of call) q (map p.port p.layout.sizes.ports) is).0

    has : (e : Entry) → entry_at (number_of call) x.table ≡ Some e → HasEntry x e
    has e is =
        let at : e.number ≡ number_of call = eqb-true e.number (number_of call) (find-among (λ (k : Entry). k.number == number_of call) e x.table is).1 in
        subst (λ i. entry_at i x.table ≡ Some e) (sym at) is

    by_name : (q : Option Port) (e : Option Entry) → port_at (known p x) (number_of call) ≡ q → entry_at (number_of call) x.table ≡ e
        → misnamed_by (known p x) x.node call (named q e) ≡ None → K (begins_at p x call q e)
    by_name (Some q) e port entry is = by_value q q.held (there q port) is
    by_name None (Some e) port entry is = entries e (has e entry) (fits.handles e (has e entry)) (fits_name (TheHandle (told_handle p x.node e)) is).1
    by_name None None port entry is = unknown

    pub by_call : misnamed (known p x) x.node call ≡ None → K (begins_at p x call (port_at (known p x) (number_of call)) (entry_at (number_of call) x.table))
    by_call is =
        by_name (port_at (known p x) (number_of call)) (entry_at (number_of call) x.table) refl refl
        (subst (λ (h : Option Handle). misnamed_by (known p x) x.node call (port_or_handle (port_at (known p x) (number_of call)) h) ≡ None)
        (find_map (told_handle p x.node) (λ k. refl) (number_of call) x.table) is)

  begun : (call : WireCall) → CallFits p x → misnamed_call p x call ≡ None → Fits p (begin p x call)
  begun (wire_calls.Port call) fits named = by_call call fits (Fits p) tt (at_port call) (λ e there. at_entry call e) named
  begun (wire_calls.Forget dead) fits named = tt

pub begins_fit : BeginsFit
begins_fit p x call numbered owners named fits = record {
  handles = λ e there.
      let kept = begins_keep_own p x call in
      let of = fits.handles e (subst (λ (es : List Entry). entry_at e.number es ≡ Some e) kept.table there) in
      ((of.0.0, of.0.1 ∙ sym kept.node), of.1);
  place = begun p x numbered owners call fits named;
}
