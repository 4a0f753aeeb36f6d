-- A loaned response that is sent can be received by who asked, if it had room.
use Rattle.std.specs.Prelude.{◌≡◌, ℕ, Bool, true, false, not, ◌||◌, ◌==◌, if◌then◌else◌, List, [], ◌∷◌, filter, Option, None, Some, is_some, refl}
use Rattle.std.specs.List.{list_any}
use Rattle.std.specs.Option.{option_map_or}
use Rattle.std.proofs.Common.{sym, ap, ap₂, subst, ◌∙◌, true≢false}
use Rattle.std.proofs.lemmas.Option.{same_Some}
use Rattle.iox_model.specs.declared.call.Call.TheVariants.{Send}
use Rattle.iox_model.specs.declared.kind.Kind.{Kind}
use Rattle.iox_model.specs.declared.kind.Kind.TheVariants.{ResponseMut, Server}
use Rattle.iox_model.specs.declared.reply.Reply.TheVariants as replies
use Rattle.iox_model.specs.Begins.{begins_at, start}
use Rattle.iox_model.specs.Commands.{Refusal, Reply}
use Rattle.iox_model.specs.Counts.{dropped, changed, sent_handle, with_fixed}
use Rattle.iox_model.specs.Doings.{refused, Doing, FailsToSend, Outcome, Sends, Tells}
use Rattle.iox_model.specs.Ends.{sent_loan, settled}
use Rattle.iox_model.specs.Expiries.{disconnected, is_last_gone, released}
use Rattle.iox_model.specs.Handles.{Subject, TheHandle, is_request_loan, subject}
use Rattle.iox_model.specs.Moments.{Moment}
use Rattle.iox_model.specs.Names.{misnamed}
use Rattle.iox_model.specs.Peers.{is_connected_port}
use Rattle.iox_model.specs.Runs.{IsReachableState}
use Rattle.iox_model.specs.States as m
use Rattle.iox_model.specs.WholeCalls.{IsDone, IsWholeCall, UnlessRefused, left_by, moved_by, replied, spent}
use Rattle.iox_model.specs.declared.reply.Refusal.TheVariants.{UnknownNumber}
use Rattle.iox_laws.proofs.ReplyLaws.Plainly.{known_port}
use Rattle.iox_laws.proofs.WeaveLaws.MapLemmas.{either}
use Rattle.iox_laws.proofs.WeaveLaws.WholeLemmas.{moved_by-fixed}
use Rattle.iox_tables.specs.HubLoans.Questions.{kind_in}
use Rattle.iox_tables.specs.HubStates.States.{Given}
use Rattle.iox_tables.specs.HubStates.Steps.{is_there}
use Rattle.iox_tables.specs.HubStates.Tables.{HandleState, HubTables, PortState}
use Rattle.iox_tables.specs.HubStates.Wirings.{IsServer}
use Rattle.iox_tables.proofs.HubStates.Naming.{each_handle_is_named}
use Rattle.iox_tables.proofs.HubStates.Steps.{connected_is}
use Rattle.iox_hub_laws.specs.Hubs.{HasValue, HubState, IsHub, given_by, state_of_hub}
use Rattle.iox_hub_laws.specs.Keeping.{KeepsOthers}
use Rattle.iox_hub_laws.proofs.Named.{server_is}
use Rattle.iox_hub_laws.specs.Sends.{SendsResponse}
use Rattle.iox_hub_laws.specs.Shown.{handle_of, shown}
use Rattle.iox_hub_laws.proofs.Arrivals.{EndsSo, Fits, IsRefusal}
use Rattle.iox_hub_laws.proofs.Brought.{apart, goes_to, starts_quiet, to_client, to_servers, within}
use Rattle.iox_hub_laws.proofs.Moments.{ended_fits, moments_fit}
use Rattle.iox_hub_laws.proofs.Phases.{sends_fits}
use Rattle.iox_hub_laws.proofs.Values.{IsHandleOf, value_is_handle}
use Rattle.iceoryx2_ports.specs.Responses.{ReachesItsAsker, answerer_in}
use Rattle.iceoryx2_ports.specs.Idling.{BringsOne}
use Rattle.iceoryx2_ports.proofs.OneSent.{response_brings_one}
use Rattle.iceoryx2_ports.proofs.Resting.{HaveAsBefore, have_same}
use Rattle.iceoryx2_ports.proofs.Reaching.{port_connected}
use Rattle.iceoryx2_ports.proofs.Responding.{reaches_asker}

-- ---- what a send of a response leaves to receivers

abbrev is_done : Reply → Bool
is_done replies.Done = true
is_done r = false

-- a port that is taken out of the ports is no more among them
pub none_left : (ps : List m.Port) (n : ℕ) → list_any (λ (p : m.Port). p.number == n) (filter (λ (p : m.Port). not (p.number == n)) ps) ≡ false
none_left [] n = refl
none_left (p ∷ ps) n = step (p.number == n) refl (none_left ps n)
  where
    step : (b : Bool) → (p.number == n) ≡ b → list_any (λ (q : m.Port). q.number == n) (filter (λ (q : m.Port). not (q.number == n)) ps) ≡ false
        → list_any (λ (q : m.Port). q.number == n) (if not b then p ∷ filter (λ (q : m.Port). not (q.number == n)) ps else filter (λ (q : m.Port). not (q.number == n)) ps) ≡ false
    step true e rest = rest
    step false e rest = ap (λ b. b || list_any (λ (q : m.Port). q.number == n) (filter (λ (q : m.Port). not (q.number == n)) ps)) e ∙ rest

-- a port that is still connected did not disconnect
released_has : (s : m.State) (port : ℕ) → is_connected_port (released s port).fixed port ≡ true → HaveAsBefore s.fixed (released s port).fixed
released_has s port = step (is_last_gone s.fixed port)
  where
    step : (b : Bool) → is_connected_port (if b then disconnected s port else s).fixed port ≡ true
        → HaveAsBefore s.fixed (if b then disconnected s port else s).fixed
    step true e = absurd (true≢false (sym e ∙ none_left s.fixed.ports port))
    step false e = have_same s.fixed

module _ (z : m.State) (reached : IsReachableState z) (node n : ℕ) (h : m.Handle) (named : subject z.fixed node n ≡ Some (TheHandle h))
    (response : is_request_loan h.kind ≡ false) (t : m.State) (there : is_connected_port t.fixed h.port ≡ true) where
  abbrev known : is_connected_port z.fixed h.port ≡ true
  known = known_port z node n h reached named

  abbrev Fit : m.State → Doing → Type 0
  Fit = Fits z node h false (goes_to z reached node h known false)

  loan_has : (s : m.State) (count : ℕ) → is_connected_port (sent_loan s h count).fixed h.port ≡ true → HaveAsBefore s.fixed (sent_loan s h count).fixed
  loan_has s count =
      either (λ (u : m.State). is_connected_port u.fixed h.port ≡ true → HaveAsBefore s.fixed u.fixed) (is_request_loan h.kind)
      (with_fixed s (changed s.fixed (sent_handle h count))) (released (with_fixed s (dropped s.fixed h)) h.port)
      (λ request. absurd (true≢false (sym request ∙ response)))
      (λ u e. let r = released_has (with_fixed s (dropped s.fixed h)) h.port e in
      record { limits = r.limits; ports = r.ports; borrowed = r.borrowed })

  end_has : (s : m.State) (o : Outcome) (payload : List ℕ) → s.fixed ≡ z.fixed → EndsSo z node h false (goes_to z reached node h known false) s o
      → replies.Done ≡ replied z.fixed node o → t ≡ settled s node payload o → HaveAsBefore z.fixed t.fixed
  end_has s (Sends l c count) payload same p e is =
      let now : t ≡ settled s node payload (Sends h false count)
      = is ∙ ap (settled s node payload) (ap₂ (λ (k : m.Handle) (b : Bool). Sends k b count) p.0 p.1) in
      let r : HaveAsBefore s.fixed (sent_loan s h count).fixed
      = loan_has s count (ap (λ (u : m.State). is_connected_port u.fixed h.port) (sym now) ∙ there) in
      subst (λ (u : m.State). HaveAsBefore z.fixed u.fixed) (sym now)
      (subst (λ (f : m.Fixed). HaveAsBefore f (settled s node payload (Sends h false count)).fixed) same
      (record { limits = r.limits; ports = r.ports; borrowed = r.borrowed }))
  end_has s (Tells reply) payload same p e is = absurd (subst IsRefusal (sym e) p.1)
  end_has s (FailsToSend l c r) payload same p e is = absurd (true≢false (ap is_done e))
  end_has s o payload same p e is = absurd p

  done_has : IsDone z node (Send n) replies.Done t → HaveAsBefore z.fixed t.fixed
  done_has done =
      let ms : List Moment = done.2 in
      let d : Doing = start z node done.0 (Send n) in
      let begins : Fit z d =
      subst (Fit z) (sym (ap (λ (o : Option Subject). option_map_or (begins_at z done.0 (Send n)) o (refused UnknownNumber)) named))
      (sends_fits z node h false (goes_to z reached node h known false) (to_servers z reached node h known false) (to_client z reached node h known false)
      (apart z reached node h known false) (within z reached node h known false) z (starts_quiet z reached node h known false)) in
      end_has (moved_by z ms) done.4 done.6 (moved_by-fixed z ms)
      (ended_fits z node h false (goes_to z reached node h known false) (to_servers z reached node h known false) (to_client z reached node h known false)
      (apart z reached node h known false) (within z reached node h known false) (moved_by z ms) (left_by z node d ms) done.4
      (moments_fit z node h false (goes_to z reached node h known false) (to_servers z reached node h known false) (to_client z reached node h known false)
      (apart z reached node h known false) (within z reached node h known false) z d ms done.3 begins) done.5)
      done.8 done.9

  unless_has : (q : Option Refusal) (P : Type 0) → (P → HaveAsBefore z.fixed t.fixed) → UnlessRefused q z replies.Done t P → HaveAsBefore z.fixed t.fixed
  unless_has (Some r) P f p = subst (λ (v : m.State). HaveAsBefore z.fixed v.fixed) (sym p.1) (have_same z.fixed)
  unless_has None P f p = f p

  send_has : IsWholeCall z node (Send n) replies.Done t → HaveAsBefore z.fixed t.fixed
  send_has =
      unless_has (misnamed z.fixed node (Send n)) (UnlessRefused (spent z.fixed (Send n)) z replies.Done t (IsDone z node (Send n) replies.Done t))
      (unless_has (spent z.fixed (Send n)) (IsDone z node (Send n) replies.Done t) done_has)

-- ---- of a hub

module _ (old new : HubState) (after : IsHub new) (node n : ℕ) (has : HasValue old node n ResponseMut) (keeps : KeepsOthers old node n new) where
  abbrev t : HubTables
  t = old.control.tables

  abbrev pub loan : IsHandleOf t node n ResponseMut
  loan = value_is_handle t node n ResponseMut refl has

  abbrev g : m.Handle
  g = handle_of old loan.handle

  answerer : answerer_in old node n ≡ loan.handle.port
  answerer = ap (λ (o : Option HandleState). option_map_or (λ (l : HandleState). l.port) o n) loan.named.there

  -- the server's own value is another than its loan, so it stays
  still : (owner s : ℕ) → HasValue old owner s Server → HasValue new owner s Server
  still owner s is =
      (keeps owner s other (ap (λ (o : Option Kind). is_some o) is)).kind ∙ is
    where
      code : Kind → Bool
      code Server = true
      code k = false

      other : owner ≡ node → s ≡ n → ⊥
      other same equal =
          true≢false
          (ap code (same_Some Server ResponseMut (sym is ∙ ap₂ (λ (b i : ℕ). kind_in t b i) same equal ∙ has)))

  pub connected : (owner : ℕ) → HasValue old owner (answerer_in old node n) Server → is_there new.control.tables.ports loan.handle.port ≡ true
  connected owner is =
      let served : IsServer new.control.tables owner (answerer_in old node n)
      = server_is new.control.tables after.control.order owner (answerer_in old node n) (still owner (answerer_in old node n) is) in
      ap (is_there new.control.tables.ports) (sym answerer) ∙ ap (λ (o : Option PortState). is_some o) served.there

  module _ (hub : IsHub old) (sends : SendsResponse old node n new)
      (whole : (x : Given) → IsWholeCall (state_of_hub x old) node (Send n) replies.Done (state_of_hub x new)) where
    have : is_there new.control.tables.ports loan.handle.port ≡ true → HaveAsBefore (shown old).fixed (shown new).fixed
    have there =
        let x : Given = hub.reached.0 in
        let r : HaveAsBefore (state_of_hub x old).fixed (state_of_hub x new).fixed =
        send_has (state_of_hub x old) hub.reached.1 node n g (each_handle_is_named (given_by x old) t node n loan.handle loan.named).names
        (ap is_request_loan loan.kind_is) (state_of_hub x new) (connected_is (given_by x new) new.control.tables.ports loan.handle.port ∙ there) (whole x) in
        record { limits = r.limits; ports = r.ports; borrowed = r.borrowed }

    -- A loaned response that is sent can be received by who asked.
    pub loan_reaches_asker : ReachesItsAsker old node n new
    loan_reaches_asker owner is =
        reaches_asker old new node n loan.handle loan.named.there g.message refl (sends loan.handle loan.named.there (connected owner is))
        (have (connected owner is)) (port_connected old hub node n loan.handle loan.named.there)

    -- For who was idle one message waits at most.
    pub loan_brings_one : (owner : ℕ) → HasValue old owner (answerer_in old node n) Server → BringsOne old new
    loan_brings_one owner is =
        response_brings_one old new g g.message (sends loan.handle loan.named.there (connected owner is)) (have (connected owner is))
