-- By what the call's number names.
use Rattle.std.specs.Prelude.{not, is_some, option_map, IsTrue}
use Rattle.std.specs.Option.{option_map_or}
use Rattle.std.proofs.Common.{◌≡◌, ℕ, Bool, true, false, if◌then◌else◌, ◌||◌, ◌==◌, Option, Some, None, refl, ap, sym, subst, ◌∙◌, eqb-true, true≢false}
use Rattle.iox_model.specs.declared.call.Call.TheVariants.{Loan, LoanUninit, Write, SendCopy, Receive, HasRequests}
use Rattle.iox_model.specs.declared.call.WireCall.TheVariants as wire_calls
use Rattle.iox_model.specs.declared.kind.Role.{Role}
use Rattle.iox_model.specs.declared.kind.Role.TheVariants.{Client, Server}
use Rattle.iox_model.specs.declared.kind.Kind.{Kind}
use Rattle.iox_model.specs.declared.kind.Kind.TheVariants as kinds
use Rattle.iox_model.specs.declared.reply.Refusal.TheVariants.{Busy, UnknownNumber}
use Rattle.iox_model.specs.Begins as machine
use Rattle.iox_model.specs.Commands.{Refusal, Call, number_of}
use Rattle.iox_model.specs.Doings.{refused}
use Rattle.iox_model.specs.Handles.{port_or_handle, node_of, kind_of, Subject, ThePort, TheHandle}
use Rattle.iox_model.specs.Joins.{not_living, not_dead}
use Rattle.iox_model.specs.Loans.{Choice}
use Rattle.iox_model.specs.Maps.{or_else, refused_if, put_at}
use Rattle.iox_model.specs.Names.{suits, misnamed, misnamed_by}
use Rattle.iox_model.specs.Peers.{port_at}
use Rattle.iox_model.specs.Settings.{is_client}
use Rattle.iox_model.specs.States.{Port, Fixed, State}
use Rattle.iox_model.specs.Weaves.{World}
use Rattle.iox_laws.proofs.WeaveLaws.MapLemmas.{eqb-refl}
use Rattle.iox_laws.proofs.WeaveLaws.WholeLemmas.{or_else-none, put_at-here}
use Rattle.iox_laws.proofs.WeaveLedger.Truths.{none-some, passes}
use Rattle.iox_wire_moments.specs.MomentsOf.{Pools}
use Rattle.iox_wire_locals.specs.declared.table.Entry.{Entry}
use Rattle.iox_wire_locals.specs.declared.local.Local.{Local}
use Rattle.iox_wire_locals.specs.declared.local.Local.TheVariants.{Idle}
use Rattle.iox_wire_locals.specs.declared.seat.Seat.{Seat}
use Rattle.iox_wire_locals.specs.Tables.{Setting, handle_of, entry_at}
use Rattle.iox_wire_locals.specs.Known.{known, free_lanes}
use Rattle.iox_wire_locals.specs.Doings.{doing_of}
use Rattle.iox_wire_locals.specs.Lendings.{first_lane}
use Rattle.iox_wire_locals.specs.Begins.{begin, begins_at, is_busy}
use Rattle.iox_wire_locals.specs.Knowing.{StandsFor}
use Rattle.iox_wire_locals.specs.BeginLaws.{IsOwnPort, IsOfPort, IsOfWire}
use Rattle.iox_wire_locals.proofs.BeginProofs.{ports_begin, handles_begin}
use Rattle.iox_wire_laws.specs.WireKeeping.Readiness.{choice_for, IsReady}
use Rattle.iox_wire_laws.specs.WireKeeping.BeginLaws.{RefusalsAreTheMachines, BeginsAreBeats}
use Rattle.iox_wire_laws.proofs.WireKeeping.Lookups.{subject_is, misnamed_same}
use Rattle.iox_wire_laws.proofs.WireKeeping.OpenLanes.{first_is_open}
use Rattle.iox_wire_laws.proofs.WireKeeping.BeginLeads as begins

-- ---- refusals

busy_is : (p : Setting) (f : Fixed) (held : Pools) (node : ℕ) (local : Local) → is_some (doing_of p f held node local) ≡ is_busy local
busy_is p f held node Idle = refl
busy_is p f held node local = refl

or_nothing : (r : Option Refusal) → r ≡ or_else r None
or_nothing None = refl
or_nothing (Some x) = refl

after_busy : (b : Bool) (r : Option Refusal) → or_else (refused_if b Busy) r ≡ or_else (or_else (refused_if b Busy) None) r
after_busy true r = refl
after_busy false r = refl

pub refusals_are_the_machines : RefusalsAreTheMachines
refusals_are_the_machines p held w x (wire_calls.Port call) has doing =
    rw (ap is_some doing ∙ busy_is p w.state.fixed held x.node x.local)
    (rw (misnamed_same p x w.state.fixed held has.knows has.on_wire call)
    (ap (or_else (not_living w.state x.node)) (or_nothing _)))
refusals_are_the_machines p held w x (wire_calls.Forget dead) has doing =
    rw (ap is_some doing ∙ busy_is p w.state.fixed held x.node x.local)
    (ap (or_else (not_living w.state x.node)) (after_busy (is_busy x.local) (not_dead w.state dead)))

-- ---- which calls suit what

neither : {P : Type 0} (b : Bool) → (if b then false else false) ≡ true → P
neither true e = absurd (true≢false (sym e))
neither false e = absurd (true≢false (sym e))

abbrev kind_of_port : Role → Kind
kind_of_port role = if is_client role then kinds.Client else kinds.Server

of_port : (call : Call) (role : Role) → suits true call (kind_of_port role) ≡ true → IsOfPort call
of_port (Loan n k) role e = tt
of_port (SendCopy n y) role e = tt
of_port (Receive n) role e = tt
of_port (HasRequests n) role e = tt
of_port (Write n y) Client e = neither (is_client y.role) e
of_port (Write n y) Server e = neither (is_client y.role) e
of_port call Client e = absurd (true≢false (sym e))
of_port call Server e = absurd (true≢false (sym e))

of_wire : (call : Call) (kind : Kind) → suits true call kind ≡ true → IsOfWire call
of_wire (LoanUninit n k) kind e = absurd (true≢false (sym e))
of_wire call kind e = tt

-- a loan by a port is one by a client
by_client : (call : Call) (role : Role) → suits true call (kind_of_port role) ≡ true → machine.lends_lane call ≡ true → is_client role ≡ true
by_client call Client e lends = refl
by_client (Loan n k) Server e lends = absurd (true≢false (sym e))
by_client (LoanUninit n k) Server e lends = absurd (true≢false (sym e))
by_client (SendCopy n y) Server e lends = neither (is_client y.role) e
by_client call Server e lends = absurd (true≢false (sym lends))

-- ---- begins

module _ (p : Setting) (held : Pools) (w : World) (x : Seat) (call : Call) (ready : IsReady p held w x) where
  abbrev s : State
  s = w.state

  abbrev c : Choice
  c = choice_for p x (wire_calls.Port call)

  abbrev named : Option Port → Option Entry → Option Subject
  named o e = port_or_handle o (option_map (handle_of held x.node) e)

  -- the call begins as in the machine, and may choose its lane
  abbrev Begun : Option Port → Option Entry → Type 0
  Begun o e =
      StandsFor p s.fixed held x.node (begins_at p x call o e) (option_map_or (machine.begins_at s c call) (named o e) (refused UnknownNumber))
      × IsTrue (not (machine.lends_lane call) || machine.lane_may_be s.fixed c (named o e))

  fits_name : (y : Subject) → misnamed_by s.fixed x.node call (Some y) ≡ None
      → ((node_of y == x.node) ≡ true) × (suits true call (kind_of y) ≡ true)
  fits_name y e =
      let r = or_else-none _ _ e in
      (passes _ _ r.0, sym (ap (λ b. suits b call (kind_of y)) ready.counts.on_wire) ∙ passes _ _ r.1)

  module _ (q : Port) (is : port_at (known p x) (number_of call) ≡ Some q) where
    module _ (own : (node_of (ThePort q) == x.node) ≡ true) (fits : suits true call (kind_of (ThePort q)) ≡ true) where
      mine : q.node ≡ x.node
      mine = eqb-true q.node x.node own

      own_port : IsOwnPort p x s q
      own_port = ready.ports (number_of call) q is mine

      lane_is : c.lane ≡ first_lane q.pool (free_lanes x q.number)
      lane_is = rw is refl

      may_choose : (b : Bool) → machine.lends_lane call ≡ b → (not b || machine.is_open_lane s.fixed q c.lane) ≡ true
      may_choose true lends =
          rw lane_is (first_is_open p x s.fixed held ready.counts.knows q (rw own_port.there own_port.mine)
          (ready.lanes (number_of call) q is mine (by_client call q.role fits lends)))
      may_choose false lends = refl

      by_port : StandsFor p s.fixed held x.node (begins_at p x call (Some q) (entry_at (number_of call) x.table)) (machine.begins_at s c call (ThePort q))
          × IsTrue (not (machine.lends_lane call) || machine.is_open_lane s.fixed q c.lane)
      by_port = (
        ports_begin p x s held c q call ready.counts own_port (of_port call q.role fits) refl lane_is,
        may_choose (machine.lends_lane call) refl,
      )

    by_value : (b : Bool) → misnamed_by s.fixed x.node call (if b then Some (ThePort q) else None) ≡ None
        → StandsFor p s.fixed held x.node (begins_at p x call (Some q) (entry_at (number_of call) x.table))
        (option_map_or (machine.begins_at s c call) (if b then Some (ThePort q) else None) (refused UnknownNumber))
        × IsTrue (not (machine.lends_lane call) || machine.lane_may_be s.fixed c (if b then Some (ThePort q) else None))
    by_value true e = let r = fits_name (ThePort q) e in by_port r.0 r.1
    by_value false e = none-some _ (sym e)

  module _ (e : Entry) (is : entry_at (number_of call) x.table ≡ Some e) where
    or_true : (b : Bool) → (b || true) ≡ true
    or_true true = refl
    or_true false = refl

    by_entry : misnamed_by s.fixed x.node call (Some (TheHandle (handle_of held x.node e))) ≡ None → Begun None (Some e)
    by_entry n =
        let r = fits_name (TheHandle (handle_of held x.node e)) n in (
          handles_begin p x s held c e call ready.counts (ready.entries (number_of call) e is) (of_wire call e.kind r.1) refl,
          or_true (not (machine.lends_lane call)),
        )

  by_names : (o : Option Port) (e : Option Entry) → port_at (known p x) (number_of call) ≡ o → entry_at (number_of call) x.table ≡ e
      → misnamed_by s.fixed x.node call (named o e) ≡ None → Begun o e
  by_names (Some q) e is there n = subst (Begun (Some q)) there (by_value q is q.held (subst (λ (t : Option Entry). misnamed_by s.fixed x.node call (named (Some q) t) ≡ None) (sym there) n))
  by_names None (Some e) is there n = by_entry e there n
  by_names None None is there n = none-some _ (sym n)

  pub call_begins : misnamed s.fixed x.node call ≡ None
      → Begun (port_at (known p x) (number_of call)) (entry_at (number_of call) x.table)
  call_begins n =
      by_names _ _ refl refl
      (sym (ap (misnamed_by s.fixed x.node call) (subject_is p x s.fixed held ready.counts.knows (number_of call))) ∙ n)

pub begins_are_beats : BeginsAreBeats
begins_are_beats p held w x (wire_calls.Port call) ready free =
    let r = or_else-none _ _ (or_else-none _ _ free).1 in
    let named = subject_is p x w.state.fixed held ready.counts.knows (number_of call) in
    let b = call_begins p held w x call ready r.1 in
    let y : Seat = begin p x (wire_calls.Port call) in (
      (free, (refl, rw named b.1), refl),
      subst (λ n. put_at w.doing x.node (Some (machine.start w.state x.node (choice_for p x (wire_calls.Port call)) call)) n
          ≡ doing_of p w.state.fixed held n y.local) (sym (begins.begin p x (wire_calls.Port call)).own.node)
          (put_at-here w.doing x.node _
          ∙ ap (λ o. Some (option_map_or (machine.begins_at w.state (choice_for p x (wire_calls.Port call)) call) o (refused UnknownNumber))) named ∙ sym b.0),
    )
begins_are_beats p held w x (wire_calls.Forget dead) ready free =
    ((free, tt, refl), rw (eqb-refl x.node) refl)
