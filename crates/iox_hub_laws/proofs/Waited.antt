-- A receive of a hub answers by what waited.
use Rattle.std.specs.Prelude.{◌≡◌, ◌⊎◌, ℕ, ◌<◌, ◌^◌, Bool, true, false, not, ◌||◌, ◌==◌, nat_le, if◌then◌else◌, List, [], ◌∷◌, map, Option, Some, None, slice_get, refl}
use Rattle.std.specs.Option.{option_map_or}
use Rattle.std.proofs.Common.{sym, ap, ap₂, subst, ◌∙◌, arith, true≢false, inl, inr}
use Rattle.std.proofs.lemmas.Bool.{leb-true}
use Rattle.std.proofs.lemmas.Option.{same_Some}
use Rattle.iox_model.specs.declared.call.Call.TheVariants.{Receive}
use Rattle.iox_model.specs.declared.kind.Kind.{Kind}
use Rattle.iox_model.specs.declared.kind.Kind.TheVariants as kinds
use Rattle.iox_model.specs.declared.kind.Role.{Role}
use Rattle.iox_model.specs.declared.kind.Role.TheVariants.{Server}
use Rattle.iox_model.specs.declared.reply.Refusal.TheVariants.{CallsSpent, ForeignNumber, WrongKind}
use Rattle.iox_model.specs.declared.reply.Reply.TheVariants as replies
use Rattle.iox_model.specs.declared.way.Way.{Way}
use Rattle.iox_model.specs.Commands.{Refusal, Reply}
use Rattle.iox_model.specs.Doings.{Outcome, Receiver}
use Rattle.iox_model.specs.Handles.{subject}
use Rattle.iox_model.specs.Maps.{has_number, or_else, refused_if}
use Rattle.iox_model.specs.Messages.{Message}
use Rattle.iox_model.specs.Names.{misnamed, suits}
use Rattle.iox_model.specs.Settings.{is_client}
use Rattle.iox_model.specs.States as m
use Rattle.iox_model.specs.WholeCalls.{IsWholeCall, replied, spent}
use Rattle.iox_laws.specs.CallFunctions.Answers.{answered, unless}
use Rattle.iox_laws.specs.CallFunctions.Searches.{received, received_from, visited}
use Rattle.iox_laws.specs.MessageLaws.Lists.{IsOneOf}
use Rattle.iox_laws.proofs.ReplyLaws.Plainly.{receives_answer_plainly}
use Rattle.iox_laws.proofs.WeaveLaws.MapLemmas.{eqb-refl}
use Rattle.iox_hub.specs.Received.{Received}
use Rattle.iox_hub.specs.Received.TheVariants.{Handle, Nothing, AtLimit}
use Rattle.iox_hub.specs.Replies.{reply_of_receive}
use Rattle.iox_lanes.specs.Lanes.{LaneState}
use Rattle.iox_lanes.specs.Pipes.{PipeState}
use Rattle.iox_tables.specs.HubStates.Receives.{way_to, ways_to}
use Rattle.iox_tables.specs.HubStates.Shown.{waiting_in}
use Rattle.iox_tables.specs.HubStates.States.{Given, message_of}
use Rattle.iox_tables.specs.HubStates.Tables.{HandleState, HubTables, pipe_from, pipes_to, senders_of}
use Rattle.iox_tables.specs.HubStates.Wirings.{IsPending, IsServer, IsWired}
use Rattle.iox_tables.proofs.HubStates.Fixing.{first_key}
use Rattle.iox_tables.proofs.HubStates.Naming.{each_handle_is_named, each_port_is_named}
use Rattle.iox_tables.proofs.HubStates.Serving.{distinct, distinct_at, pending_ways_are, ways_are}
use Rattle.iox_hub.specs.Hubs.{HasValue, HubState, IsHub, given_by, nothing_given, state_of_hub}
use Rattle.iox_hub.proofs.Named.{pending_is, server_is}
use Rattle.iox_hub_laws.specs.Waiting.{CanCome, IsHeldBack, IsWaiting, WaitedFor, WaitedForPending, client_of, server_of}
use Rattle.iox_hub_laws.proofs.Visits.{Comes, Says, SomeStays, Stays, visits_say}

-- ---- where something waits, there is a pipe

no_pipe : (ps : List PipeState) (n : ℕ) → has_number n (senders_of ps) ≡ false → pipe_from ps n ≡ None
no_pipe [] n e = refl
no_pipe (p ∷ ps) n e = step (p.sender == n) e (no_pipe ps n)
  where
    step : (b : Bool) → (b || has_number n (senders_of ps)) ≡ false → (has_number n (senders_of ps) ≡ false → pipe_from ps n ≡ None)
        → (if b then Some p else pipe_from ps n) ≡ None
    step true h rest = absurd (true≢false h)
    step false h rest = rest h

module _ (h : HubState) (x : Receiver) where
  abbrev t : HubTables
  t = h.control.tables

  abbrev ns : List ℕ
  ns = senders_of (pipes_to t.ports x.port)

  abbrev shows : Option LaneState → List Message
  shows o = option_map_or (waiting_in (message_of (given_by (nothing_given h) h) t.pools)) o []

  sends : (sender : ℕ) (a : Message) → IsWaiting h x sender a → has_number sender ns ≡ true
  sends sender a waits = step (has_number sender ns) refl
    where
      step : (b : Bool) → has_number sender ns ≡ b → b ≡ true
      step true e = refl
      step false e =
          absurd (subst (λ (o : Option PipeState). IsOneOf a (shows (slice_get (option_map_or (λ p. p.lanes) o []) x.lane)))
          (no_pipe (pipes_to t.ports x.port) sender e) waits)

  ways_by : (ps : List PipeState) → ways_to x ps ≡ map (way_to x) (senders_of ps)
  ways_by [] = refl
  ways_by (p ∷ ps) = ap (λ ws. way_to x p.sender ∷ ws) (ways_by ps)

  -- ---- what is answered

  abbrev tag : Reply → ℕ
  tag (replies.Handle k) = 0
  tag replies.Nothing = 1
  tag (replies.Refused r) = 2
  tag reply = 3

  module _ (y : Given) where
    abbrev z : m.State
    z = state_of_hub y h

    comes : (sender : ℕ) (a : Message) → CanCome h x sender a → Comes z x sender a
    comes sender a c = record { waits = c.waits; fit = c.fit; room = c.room }

    stays : (sender : ℕ) (a : Message) → IsHeldBack h x sender a → Stays z x sender a
    stays sender a c = record { waits = c.waits; most = c.most }

    answers_so : (r : Received) (node : ℕ) (o : Outcome) → Says z x ns false o → reply_of_receive r ≡ replied z.fixed node o → WaitedFor h x r
    answers_so (Handle k) node o (inl g) e = (g.sender, g.message, record { waits = g.comes.waits; fit = g.comes.fit; room = g.comes.room })
    answers_so Nothing node o (inl g) e = absurd (omega (arith, ap tag (e ∙ ap (replied z.fixed node) g.is)))
    answers_so AtLimit node o (inl g) e = absurd (omega (arith, ap tag (e ∙ ap (replied z.fixed node) g.is)))
    answers_so (Handle k) node o (inr (inl p)) e = absurd (omega (arith, ap tag (e ∙ ap (replied z.fixed node) p.is)))
    answers_so Nothing node o (inr (inl p)) e = (
      λ sender a c. p.none sender a (sends sender a c.waits) (comes sender a c),
      λ sender a c. p.all sender a (sends sender a c.waits) (stays sender a c),
    )
    answers_so AtLimit node o (inr (inl p)) e = absurd (omega (arith, ap tag (e ∙ ap (replied z.fixed node) p.is)))
    answers_so (Handle k) node o (inr (inr b)) e = absurd (omega (arith, ap tag (e ∙ ap (replied z.fixed node) b.is)))
    answers_so Nothing node o (inr (inr b)) e = absurd (omega (arith, ap tag (e ∙ ap (replied z.fixed node) b.is)))
    answers_so AtLimit node o (inr (inr b)) e = (
      λ sender a c. b.none sender a (sends sender a c.waits) (comes sender a c),
      some b.some,
    )
      where
        some : (false ≡ true) ⊎ SomeStays z x → (sender : ℕ) × (a : Message) × IsHeldBack h x sender a
        some (inl f) = absurd (true≢false (sym f))
        some (inr st) = (st.0, st.1, record { waits = st.2.waits; most = st.2.most })

-- ---- the reply of the machine

not_spent : (calls : ℕ) → calls < 2 ^ 56 → refused_if {A = Refusal} (nat_le (2 ^ 56) calls) CallsSpent ≡ None
not_spent calls less = step (nat_le (2 ^ 56) calls) refl
  where
    step : (b : Bool) → nat_le (2 ^ 56) calls ≡ b → refused_if {A = Refusal} b CallsSpent ≡ None
    step false e = refl
    step true e = let le = leb-true (2 ^ 56) calls e in absurd (omega (arith, less, le))

reply_is : (z : m.State) (node n : ℕ) (x : Receiver) (ws : List Way) → misnamed z.fixed node (Receive n) ≡ None → z.fixed.calls < 2 ^ 56
    → received_from z (subject z.fixed node n) ≡ visited z x ws false → (received z node n).0 ≡ replied z.fixed node (visited z x ws false).0
reply_is z node n x ws named few from =
    ap (λ (o : Option Refusal). (unless o z (unless (spent z.fixed (Receive n)) z (answered z node (received_from z (subject z.fixed node n))))).0) named
    ∙ ap (λ (o : Option Refusal). (unless o z (answered z node (received_from z (subject z.fixed node n)))).0) (not_spent z.fixed.calls few)
    ∙ ap (λ (v : Outcome × m.State). (answered z node v).0) from

-- ---- a server

module _ (old : HubState) (hub : IsHub old) (few : old.control.tables.calls < 2 ^ 56) (node : ℕ) where
  abbrev u : HubTables
  u = old.control.tables

  abbrev y : Given
  y = hub.reached.0

  abbrev gives : Given
  gives = given_by hub.reached.0 old

  abbrev s : m.State
  s = state_of_hub hub.reached.0 old

  module _ (n : ℕ) (is : IsServer u node n) where
    wired : IsWired u is.port
    wired = hub.control.order.wired.each n is.port is.there

    named : misnamed s.fixed node (Receive n) ≡ None
    named =
        (each_port_is_named gives u node n is.port is.there is.held).refused (Receive n) refl
        ∙ ap₂ (λ (k : ℕ) (role : Role). or_else (refused_if (not (k == node)) ForeignNumber) (refused_if (not (suits false (Receive n) (if is_client role then kinds.Client else kinds.Server))) WrongKind)) is.on_node is.server
        ∙ ap (λ c. or_else (refused_if (not c) ForeignNumber) None) (eqb-refl node)

    from : received_from s (subject s.fixed node n) ≡ visited s (server_of n) (map (way_to (server_of n)) (senders_of (pipes_to u.ports n))) false
    from =
        ap (received_from s) (each_port_is_named gives u node n is.port is.there is.held).names
        ∙ ap₂ (λ (k : ℕ) (ws : List Way). visited s (record { port = k; role = Server; lane = 0; request = 0 }) ws false)
        (first_key (λ p. p.number) u.ports n is.port is.there)
        (ways_are gives u node n is wired ∙ ways_by old (server_of n) (pipes_to u.ports n))

    pub server_waited : (r : Received) (new : m.State) → IsWholeCall s node (Receive n) (reply_of_receive r) new → WaitedFor old (server_of n) r
    server_waited r new whole =
        let ws : List Way = map (way_to (server_of n)) (senders_of (pipes_to u.ports n)) in
        answers_so old (server_of n) y r node (visited s (server_of n) ws false).0
        (visits_say s (server_of n) (senders_of (pipes_to u.ports n)) (distinct gives u node n is wired))
        (receives_answer_plainly s new node n (reply_of_receive r) hub.reached.1 whole
        ∙ reply_is s node n (server_of n) ws named few from)

pub waited_for_request : (old new : HubState) → IsHub old → (node server : ℕ) (r : Received) → HasValue old node server kinds.Server
    → old.control.tables.calls < 2 ^ 56
    → ((x : Given) → IsWholeCall (state_of_hub x old) node (Receive server) (reply_of_receive r) (state_of_hub x new))
    → WaitedFor old (server_of server) r
waited_for_request old new hub node server r has few whole =
    server_waited old hub few node server (server_is old.control.tables hub.control.order node server has) r (state_of_hub hub.reached.0 new)
    (whole hub.reached.0)

-- ---- a pending response

module _ (old : HubState) (hub : IsHub old) (few : old.control.tables.calls < 2 ^ 56) (node n : ℕ) (is : IsPending old.control.tables node n) where
  abbrev v : HubTables
  v = old.control.tables

  abbrev given : Given
  given = given_by hub.reached.0 old

  abbrev d : m.State
  d = state_of_hub hub.reached.0 old

  abbrev by : Receiver
  by = client_of v is.handle

  wired_at : IsWired v is.port
  wired_at = hub.control.order.wired.each is.handle.port is.port is.there

  named_at : misnamed d.fixed node (Receive n) ≡ None
  named_at =
      (each_handle_is_named given v node n is.handle is.named).refused (Receive n) refl
      ∙ ap (λ (kind : Kind). refused_if (not (suits false (Receive n) kind)) WrongKind) is.kind

  from_at : received_from d (subject d.fixed node n) ≡ visited d by (map (way_to by) (senders_of (pipes_to v.ports is.handle.port))) false
  from_at =
      ap (received_from d) (each_handle_is_named given v node n is.handle is.named).names
      ∙ ap (λ (ws : List Way). visited d by ws false)
      (pending_ways_are given v node n is wired_at ∙ ways_by old by (pipes_to v.ports is.handle.port))

  pub client_waited : (r : Received) (new : m.State) → IsWholeCall d node (Receive n) (reply_of_receive r) new → WaitedFor old by r
  client_waited r new whole =
      let ns : List ℕ = senders_of (pipes_to v.ports is.handle.port) in
      answers_so old by hub.reached.0 r node (visited d by (map (way_to by) ns) false).0
      (visits_say d by ns (distinct_at given v node n is wired_at))
      (receives_answer_plainly d new node n (reply_of_receive r) hub.reached.1 whole
      ∙ reply_is d node n by (map (way_to by) ns) named_at few from_at)

pub waited_for_response : (old new : HubState) → IsHub old → (node number : ℕ) (r : Received) → HasValue old node number kinds.PendingResponse
    → old.control.tables.calls < 2 ^ 56
    → ((x : Given) → IsWholeCall (state_of_hub x old) node (Receive number) (reply_of_receive r) (state_of_hub x new))
    → WaitedForPending old node number r
waited_for_response old new hub node number r has few whole pending there =
    let is : IsPending old.control.tables node number = pending_is old.control.tables hub.control.order node number has in
    subst (λ (p : HandleState). WaitedFor old (client_of old.control.tables p) r)
    (same_Some is.handle pending (sym is.named.there ∙ there))
    (client_waited old hub few node number is r (state_of_hub hub.reached.0 new) (whole hub.reached.0))
