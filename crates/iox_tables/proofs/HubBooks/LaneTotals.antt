-- How a sum over all lanes changes as one lane does, or several.
use Rattle.std.specs.Prelude.{◌≡◌, ℕ, ◌+◌, Bool, true, false, if◌then◌else◌, List, [], ◌++◌, Option, Some, None, is_some, slice_get, slice_set, refl}
use Rattle.std.specs.Option.{option_map_or}
use Rattle.std.proofs.Common.{sym, ap, ◌∙◌, arith, true≢false}
use Rattle.std.proofs.lemmas.Option.{none-some}
use Rattle.iox_model.specs.declared.way.Way.{Way}
use Rattle.iox_model.specs.Maps.{has_number, or_else}
use Rattle.iox_lanes.specs.Lanes.{LaneState}
use Rattle.iox_lanes.specs.Pipes.{PipeState, with_lane}
use Rattle.iox_tables.specs.HubStates.Tables.{PortState, pipe_from, pipes_of, port_in, senders_of}
use Rattle.iox_tables.specs.HubStates.Ways.{at, lane_on, lanes_from, with_lane_on, with_pipe_from, with_pipe_of, with_pipes}
use Rattle.iox_tables.specs.HubStates.Shown.{by_lane}
use Rattle.iox_tables.proofs.HubStates.Keys.{first_append, has_some}
use Rattle.iox_tables.specs.HubBooks.Counts.{in_pipe, in_port, on_lanes, total}
use Rattle.iox_tables.proofs.HubBooks.Totals.{first_none, total-append, total_first, total_set}

module _ (f : LaneState → ℕ) where
  -- ---- one pipe

  pub pipe_lane : (g : LaneState → LaneState) (q : PipeState) (i : ℕ) (l : LaneState) → slice_get q.lanes i ≡ Some l
      → in_pipe f (with_lane g q i) + f l ≡ in_pipe f q + f (g l)
  pipe_lane g q i l there =
      let is : with_lane g q i ≡ record q { lanes = slice_set q.lanes i (g l) } = ap (λ o. option_map_or (λ m. record q { lanes = slice_set q.lanes i (g m) }) o q) there in
      ap (λ p. in_pipe f p + f l) is ∙ total_set f q.lanes i l (g l) there

  pub pipe_no_lane : (g : LaneState → LaneState) (q : PipeState) (i : ℕ) → slice_get q.lanes i ≡ None → with_lane g q i ≡ q
  pipe_no_lane g q i none = ap (λ o. option_map_or (λ m. record q { lanes = slice_set q.lanes i (g m) }) o q) none

  -- ---- one port

  in_both : (es is : List PipeState) → total (in_pipe f) (es ++ is) ≡ total (in_pipe f) es + total (in_pipe f) is
  in_both es is = total-append (in_pipe f) es is

  pub port_pipe : (h : PipeState → PipeState) (p : PortState) (s : ℕ) (q : PipeState) → pipe_from (pipes_of p) s ≡ Some q
      → in_port f (with_pipe_of h p s) + in_pipe f q ≡ in_port f p + in_pipe f (h q)
  port_pipe h p s q there = step (has_number s (senders_of p.expired.pipes)) (has_some p.expired.pipes s) (pipe_from p.expired.pipes s) refl
    where
      found : or_else (pipe_from p.expired.pipes s) (pipe_from p.incoming.pipes s) ≡ Some q
      found = sym (first_append (λ x. x.sender) p.expired.pipes p.incoming.pipes s) ∙ there

      front : pipe_from p.expired.pipes s ≡ Some q → in_port f (record p { expired = with_pipes p.expired (with_pipe_from h p.expired.pipes s) }) + in_pipe f q ≡ in_port f p + in_pipe f (h q)
      front at =
          let changed = total_first (λ x. x.sender) h (in_pipe f) p.expired.pipes s q at in
          let new = in_both (with_pipe_from h p.expired.pipes s) p.incoming.pipes in
          let old = in_both p.expired.pipes p.incoming.pipes in omega (arith, changed, new, old)

      back : pipe_from p.incoming.pipes s ≡ Some q → in_port f (record p { incoming = with_pipes p.incoming (with_pipe_from h p.incoming.pipes s) }) + in_pipe f q ≡ in_port f p + in_pipe f (h q)
      back at =
          let changed = total_first (λ x. x.sender) h (in_pipe f) p.incoming.pipes s q at in
          let new = in_both p.expired.pipes (with_pipe_from h p.incoming.pipes s) in
          let old = in_both p.expired.pipes p.incoming.pipes in omega (arith, changed, new, old)

      step : (b : Bool) → b ≡ is_some (pipe_from p.expired.pipes s) → (o : Option PipeState) → pipe_from p.expired.pipes s ≡ o
          → in_port f (if b then record p { expired = with_pipes p.expired (with_pipe_from h p.expired.pipes s) } else record p { incoming = with_pipes p.incoming (with_pipe_from h p.incoming.pipes s) }) + in_pipe f q
          ≡ in_port f p + in_pipe f (h q)
      step true e (Some x) at = front (at ∙ sym (ap (λ o. or_else o (pipe_from p.incoming.pipes s)) at) ∙ found)
      step true e None at = absurd (true≢false (e ∙ ap is_some at))
      step false e (Some x) at = absurd (true≢false (sym (e ∙ ap is_some at)))
      step false e None at = back (sym (ap (λ o. or_else o (pipe_from p.incoming.pipes s)) at) ∙ found)

  pub port_no_pipe : (h : PipeState → PipeState) (p : PortState) (s : ℕ) → pipe_from (pipes_of p) s ≡ None → with_pipe_of h p s ≡ p
  port_no_pipe h p s none = step (has_number s (senders_of p.expired.pipes)) (has_some p.expired.pipes s) (pipe_from p.expired.pipes s) refl
    where
      lost : or_else (pipe_from p.expired.pipes s) (pipe_from p.incoming.pipes s) ≡ None
      lost = sym (first_append (λ x. x.sender) p.expired.pipes p.incoming.pipes s) ∙ none

      step : (b : Bool) → b ≡ is_some (pipe_from p.expired.pipes s) → (o : Option PipeState) → pipe_from p.expired.pipes s ≡ o
          → (if b then record p { expired = with_pipes p.expired (with_pipe_from h p.expired.pipes s) } else record p { incoming = with_pipes p.incoming (with_pipe_from h p.incoming.pipes s) }) ≡ p
      step b e (Some x) at = absurd (none-some x (sym (sym (ap (λ o. or_else o (pipe_from p.incoming.pipes s)) at) ∙ lost)))
      step true e None at = absurd (true≢false (e ∙ ap is_some at))
      step false e None at =
          ap (λ ps. record p { incoming = with_pipes p.incoming ps })
          (first_none (λ x. x.sender) h p.incoming.pipes s (sym (ap (λ o. or_else o (pipe_from p.incoming.pipes s)) at) ∙ lost))

  -- ---- all ports

  -- one lane, where it is there
  pub lane_changed : (g : LaneState → LaneState) (ports : List PortState) (w : Way) (l : LaneState) → lane_on ports w ≡ Some l
      → on_lanes f (with_lane_on g ports w) + f l ≡ on_lanes f ports + f (g l)
  lane_changed g ports w l there = at_port (port_in ports w.receiver) refl
    where
      at_pipe : (p : PortState) → port_in ports w.receiver ≡ Some p → (o : Option PipeState) → pipe_from (pipes_of p) w.sender ≡ o
          → slice_get (option_map_or (λ (q : PipeState). q.lanes) o []) w.lane ≡ Some l
          → on_lanes f (with_lane_on g ports w) + f l ≡ on_lanes f ports + f (g l)
      at_pipe p port None pipe at = absurd (none-some l at)
      at_pipe p port (Some q) pipe at =
          let one = pipe_lane g q w.lane l at in
          let all = port_pipe (λ q. with_lane g q w.lane) p w.sender q pipe in
          let ports_too = total_first (λ x. x.number) (λ x. with_pipe_of (λ q. with_lane g q w.lane) x w.sender) (in_port f) ports w.receiver p port in
          omega (arith, one, all, ports_too)

      at_port : (o : Option PortState) → port_in ports w.receiver ≡ o → on_lanes f (with_lane_on g ports w) + f l ≡ on_lanes f ports + f (g l)
      at_port None port = absurd (none-some l (sym (ap (λ o. slice_get (lanes_from (option_map_or pipes_of o []) w.sender) w.lane) port) ∙ there))
      at_port (Some p) port =
          at_pipe p port (pipe_from (pipes_of p) w.sender) refl
          (sym (ap (λ o. slice_get (lanes_from (option_map_or pipes_of o []) w.sender) w.lane) port) ∙ there)

  -- where it is not there, nothing is changed
  pub lane_not_changed : (g : LaneState → LaneState) (ports : List PortState) (w : Way) → lane_on ports w ≡ None
      → on_lanes f (with_lane_on g ports w) ≡ on_lanes f ports
  lane_not_changed g ports w gone = at_port (port_in ports w.receiver) refl
    where
      at_pipe : (p : PortState) → port_in ports w.receiver ≡ Some p → (o : Option PipeState) → pipe_from (pipes_of p) w.sender ≡ o
          → slice_get (option_map_or (λ (q : PipeState). q.lanes) o []) w.lane ≡ None
          → on_lanes f (with_lane_on g ports w) ≡ on_lanes f ports
      at_pipe p port None pipe at =
          let same : in_port f (with_pipe_of (λ q. with_lane g q w.lane) p w.sender) ≡ in_port f p = ap (in_port f) (port_no_pipe (λ q. with_lane g q w.lane) p w.sender pipe) in
          let ports_too = total_first (λ x. x.number) (λ x. with_pipe_of (λ q. with_lane g q w.lane) x w.sender) (in_port f) ports w.receiver p port in
          omega (arith, same, ports_too)
      at_pipe p port (Some q) pipe at =
          let one : in_pipe f (with_lane g q w.lane) ≡ in_pipe f q = ap (in_pipe f) (pipe_no_lane g q w.lane at) in
          let all = port_pipe (λ q. with_lane g q w.lane) p w.sender q pipe in
          let ports_too = total_first (λ x. x.number) (λ x. with_pipe_of (λ q. with_lane g q w.lane) x w.sender) (in_port f) ports w.receiver p port in
          omega (arith, one, all, ports_too)

      at_port : (o : Option PortState) → port_in ports w.receiver ≡ o → on_lanes f (with_lane_on g ports w) ≡ on_lanes f ports
      at_port None port = ap (on_lanes f) (first_none (λ x. x.number) (λ x. with_pipe_of (λ q. with_lane g q w.lane) x w.sender) ports w.receiver port)
      at_port (Some p) port =
          at_pipe p port (pipe_from (pipes_of p) w.sender) refl
          (sym (ap (λ o. slice_get (lanes_from (option_map_or pipes_of o []) w.sender) w.lane) port) ∙ gone)

  -- either way
  pub lane_total : (g : LaneState → LaneState) (ports : List PortState) (w : Way)
      → on_lanes f (with_lane_on g ports w) + by_lane f 0 (lane_on ports) w ≡ on_lanes f ports + by_lane (λ l. f (g l)) 0 (lane_on ports) w
  lane_total g ports w = step (lane_on ports w) refl
    where
      step : (o : Option LaneState) → lane_on ports w ≡ o
          → on_lanes f (with_lane_on g ports w) + option_map_or f o 0 ≡ on_lanes f ports + option_map_or (λ l. f (g l)) o 0
      step (Some l) is = lane_changed g ports w l is
      step None is = let same = lane_not_changed g ports w is in omega (arith, same)
