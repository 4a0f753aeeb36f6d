-- The copy of a client's request that is not sent is a whole call of the machine.
use Rattle.std.specs.Prelude.{◌≡◌, ℕ, ◌^◌, Bool, true, false, not, if◌then◌else◌, nat_le, [], Option, Some, None, refl}
use Rattle.std.proofs.Common.{sym, ap, ap₂, subst, ◌∙◌, inl, true≢false}
use Rattle.std.proofs.lemmas.Option.{none-some, same_Some}
use Rattle.iox_model.specs.declared.call.Call.TheVariants.{SendCopy}
use Rattle.iox_model.specs.declared.kind.Kind.TheVariants.{PendingResponse}
use Rattle.iox_model.specs.declared.kind.Role.{Role}
use Rattle.iox_model.specs.declared.kind.Role.TheVariants.{Client}
use Rattle.iox_model.specs.declared.reply.Refusal.TheVariants as refusals
use Rattle.iox_model.specs.declared.reply.Reply.TheVariants as replies
use Rattle.iox_model.specs.Begins.{MayChoose}
use Rattle.iox_model.specs.Commands.{Call, Payload, Refusal, Reply}
use Rattle.iox_model.specs.Doings.{Drops, DropsPort, FailsToSend, Fills, Forgets, Loans, Outcome, Receives, Sends, Tells}
use Rattle.iox_model.specs.Handles.{Subject, ThePort, is_request_loan, same_kind, subject}
use Rattle.iox_model.specs.Loans.{Choice, kind_of_loan, lending_ways}
use Rattle.iox_model.specs.Maps.{or_else, refused_if}
use Rattle.iox_model.specs.Requests.{is_active_spent}
use Rattle.iox_model.specs.Settings.{shape_of}
use Rattle.iox_model.specs.States as m
use Rattle.iox_model.specs.WholeCalls.{IsDone, IsWholeCall, UnlessRefused, spent}
use Rattle.iox_laws.proofs.RunLaws.Choices.{something_may_be_chosen}
use Rattle.iox_laws.specs.CallFunctions.Answers.{NoneInHand, refusing}
use Rattle.iox_laws.specs.CallFunctions.Calls.{call_by}
use Rattle.iox_laws.specs.CallFunctions.Loans.{handed_out, lent_from, lent_unless}
use Rattle.iox_laws.proofs.CallFunctions.Overflowing.{emptied-same}
use Rattle.iox_tables.specs.HubStates.Tables.{HubTables, PortState, port_in}
use Rattle.iox_tables.specs.HubStates.Ends.{with_call, with_loan}
use Rattle.iox_tables.specs.HubStates.States.{Given, fixed_of, limits_of, port_of, state_shown}
use Rattle.iox_tables.proofs.HubStates.Naming.{each_port_is_named}
use Rattle.iox_tables.proofs.HubBooks.Rooms.{bare_pools_show_the_same}
use Rattle.iox_tables.proofs.HubBooks.Used.{once_on}
use Rattle.iox_tables.proofs.HubLending.Back.{dry_pools_have_holders}
use Rattle.iox_tables.proofs.HubLending.Bared.{holders_may_come_back_first}
use Rattle.iox_tables.proofs.HubLending.Chosen.{free_slots_may_take_loans}
use Rattle.iox_tables.proofs.HubLending.Owning.{handles_are_on_nodes, number_is}
use Rattle.iox_tables.specs.HubLoans.Counts.{AreOnNodes, has_all_active}
use Rattle.iox_tables.specs.HubLoans.Lenders.{IsClient, IsLender, Lender, calls_refusal, count_refusal_by, is_pool_dry, lender_of_request, loan_refusal, shape_in, size_refusal, with_got_back}
use Rattle.iox_tables.proofs.HubLoans.Copying.{copies_are_refused, copies_find_dry_pools}
use Rattle.iox_tables.proofs.HubLoans.CopyCalls.{spent_copies_are_refused}
use Rattle.iox_tables.proofs.HubLoans.Counting.{each_count_is_the_same}
use Rattle.iox_tables.proofs.HubLoans.Lending.{lent_tested, loan_shown, tests_of}
use Rattle.iox_tables.proofs.HubLoans.Lent.{lent_is, with_memory}
use Rattle.iox_tables.specs.HubLoans.Copies.{copy_refusal}
use Rattle.iox_tables.proofs.HubLoans.Loaning.{Lends, lending_kind, lends_so}
use Rattle.iox_model.specs.declared.kind.Kind.TheVariants as kinds
use Rattle.iox_model.specs.Names.{suits}
use Rattle.iox_model.specs.Settings.{is_client}
use Rattle.iox_control.specs.Controls.{ControlState, IsControl}
use Rattle.iox_control.proofs.WholeLemmas.{is_whole_of}
use Rattle.iox_control_copies.specs.Asked.{Asked}
use Rattle.iox_control_copies.specs.Lends.{FindsDry, IsAskedOf, IsRefused}
use Rattle.iox_control_copies.proofs.MadeLemmas.{have_messages}
use Rattle.iox_control_request_copies.specs.Copies.{IsLost}
use Rattle.iox_control_request_copies.proofs.Leads as leads
use Rattle.iox_laws.specs.CallFunctions.Copies.{copied_order}

-- ---- a refusal is no loan

abbrev only_tells : Outcome → Bool
only_tells (Tells r) = true
only_tells (Loans h) = false
only_tells (Fills h) = false
only_tells (Sends h copied count) = false
only_tells (FailsToSend h copied r) = false
only_tells (Receives r w k) = false
only_tells (Drops h) = false
only_tells (DropsPort n) = false
only_tells (Forgets n) = false

no_loan : (r : Reply) (h : m.Handle) → Tells r ≡ Loans h → ⊥
no_loan r h e = true≢false (ap only_tells e)

module _ (x : Given) (c : ControlState) (node n : ℕ) (q : Payload) (a : Asked) (order : IsControl c) (client : IsClient c.tables node n)
    (of_role : q.role ≡ Client) (elements : q.elements ≡ Some a.elements) (asked : IsAskedOf x.request a)
  where
    abbrev t : HubTables
    t = c.tables

    abbrev p : PortState
    p = client.port

    abbrev k : ℕ
    k = a.elements

    abbrev pub y : ℕ → Lender
    y lane = lender_of_request p lane

    abbrev pub ch : ℕ → Choice
    ch lane = record { lane = lane; memory = true }

    abbrev s : m.State
    s = state_shown x t

    abbrev call : Call
    call = SendCopy n q

    abbrev mp : m.Port
    mp = port_of x p

    pub lender : (lane : ℕ) → IsLender t node n lane (y lane)
    lender lane = inl (client, refl)

    pub nodes : AreOnNodes t
    nodes = handles_are_on_nodes t order.order

    pub role : q.role ≡ p.role
    role = of_role ∙ sym client.client

    pub there : port_in t.ports p.number ≡ Some p
    there = ap (port_in t.ports) (number_is t order.order n p client.there) ∙ client.there

    pub asked_so : IsAskedOf (shape_in x t p) a
    asked_so = subst (λ (r : Role). IsAskedOf (shape_of (limits_of x t) r) a) (sym client.client) asked

    -- why a loan is refused does not depend on its lane
    pub refusal_same : (lane : ℕ) → loan_refusal x t (y lane) k ≡ loan_refusal x t (y 0) k
    refusal_same lane =
        ap (λ (r : Role). or_else (calls_refusal t) (or_else (size_refusal p (shape_in x t p) k) (count_refusal_by r t (y lane)))) client.client
        ∙ sym (ap (λ (r : Role). or_else (calls_refusal t) (or_else (size_refusal p (shape_in x t p) k) (count_refusal_by r t (y 0)))) client.client)

    pub hand : NoneInHand s
    hand = λ w. refl

    pub names : subject (fixed_of x t) node n ≡ Some (ThePort mp)
    names = (each_port_is_named x t node n p client.there client.held).names

    so : (lane : ℕ) → Lends x t node n (ch lane) (y lane)
    so lane = lends_so x t node n (ch lane) nodes (y lane) (lender lane)

    -- some lane may be chosen
    some_lane : (lane : ℕ) × MayChoose (fixed_of x t) node (ch lane) call
    some_lane =
        let r : (c : Choice) × (c.memory ≡ true) × MayChoose (fixed_of x t) node c call = something_may_be_chosen (fixed_of x t) node call true refl in
        (r.0.lane, subst (λ (c : Choice). MayChoose (fixed_of x t) node c call) (with_it r.0 r.1) r.2)
      where
        with_it : (c : Choice) → c.memory ≡ true → c ≡ ch c.lane
        with_it c e = λ i. record { lane = c.lane; memory = e i }

    abbrev lane : ℕ
    lane = some_lane.0

    abbrev loan : m.Handle
    loan = leads.h s node n (ch lane) q k mp hand

    abbrev plain : Outcome
    plain = leads.plain s node n (ch lane) q k mp hand

    abbrev does : Reply × m.State
    does = call_by s node call (ch lane) []

    whole_by : (reply : Reply) (s' : m.State) → (plain ≡ Loans loan → leads.Goes s node n (ch lane) q k mp hand) → does ≡ (reply, s') → IsWholeCall s node call reply s'
    whole_by reply s' goes is =
        is_whole_of s node call does reply s' (leads.whole_if s node n (ch lane) q k mp hand some_lane.1 elements names goes) is

    -- a plain loan comes to what its tests say
    plain_is : plain ≡ (lent_unless (tests_of x t (y lane) k) s (lent_tested handed_out s (ch lane) p.number (loan_shown x t (y lane) (copied_order k q.words)))).0
    plain_is =
        ap (λ (z : Option Subject). (lent_from handed_out s (ch lane) z (copied_order k q.words)).0) (sym names)
        ∙ ap (λ (v : Outcome × m.State). v.0) ((so lane).lends handed_out (copied_order k q.words))

    -- ---- a test refuses it

    refused_plain : (r : Refusal) → tests_of x t (y lane) k ≡ Some r → plain ≡ Tells (replies.Refused r)
    refused_plain r e =
        plain_is
        ∙ ap (λ (o : Option Refusal). (lent_unless o s (lent_tested handed_out s (ch lane) p.number (loan_shown x t (y lane) (copied_order k q.words)))).0) e

    calls_spent : (b : Bool) → nat_le (2 ^ 56) t.calls ≡ b → (r : Refusal) → loan_refusal x t (y lane) k ≡ Some r → IsWholeCall s node call (replies.Refused r) s
    calls_spent true many r e =
        let told : refusals.CallsSpent ≡ r =
        same_Some refusals.CallsSpent r
        (sym (ap (λ (b : Bool). or_else (refused_if b refusals.CallsSpent) (tests_of x t (y lane) k)) many) ∙ e) in
        subst (λ (o : Option Refusal). UnlessRefused o s (replies.Refused r) s (UnlessRefused (spent s.fixed call) s (replies.Refused r) s (IsDone s node call (replies.Refused r) s)))
        (sym ((so lane).named call refl suit))
        (subst (λ (o : Option Refusal). UnlessRefused o s (replies.Refused r) s (IsDone s node call (replies.Refused r) s))
        (sym (ap (λ (b : Bool). refused_if b refusals.CallsSpent) many ∙ ap Some told)) (refl, refl))
      where
        suit : suits false call (lending_kind p.role) ≡ true
        suit = ap₂ (λ (a b : Role). if is_client a then same_kind (lending_kind b) kinds.Client else same_kind (lending_kind b) kinds.ActiveRequest) of_role client.client
    calls_spent false few r e =
        let tests : tests_of x t (y lane) k ≡ Some r = sym (ap (λ (b : Bool). or_else (refused_if b refusals.CallsSpent) (tests_of x t (y lane) k)) few) ∙ e in
        whole_by (replies.Refused r) s (λ made. absurd (no_loan (replies.Refused r) loan (sym (refused_plain r tests) ∙ made)))
        (copies_are_refused x t node n q (ch lane) [] (y lane) r (lender lane) nodes role
        (subst (λ (o : Option ℕ). copy_refusal x t (y lane) o ≡ Some r) (sym elements) e))

    pub refused_whole : (new : ControlState) (r : Refusal) → IsRefused c (y 0) a r new → IsWholeCall s node call (replies.Refused r) (state_shown x new.tables)
    refused_whole new r is =
        subst (λ (d : ControlState). IsWholeCall s node call (replies.Refused r) (state_shown x d.tables)) (sym is.left)
        (calls_spent (nat_le (2 ^ 56) t.calls) refl r (refusal_same lane ∙ is.told x asked_so))

    -- ---- the pool is dry

    tests_pass : loan_refusal x t (y lane) k ≡ None → tests_of x t (y lane) k ≡ None
    tests_pass e = second (calls_refusal t) (tests_of x t (y lane) k) e
      where
        second : (a b : Option Refusal) → or_else a b ≡ None → b ≡ None
        second (Some r) b e = absurd (none-some r (sym e))
        second None b e = e

    passed_plain : loan_refusal x t (y lane) k ≡ None → (b : Bool) → is_pool_dry x t p ≡ b
        → plain
        ≡ (if b then refusing refusals.OutOfMemory (state_shown x (with_got_back t p)) else handed_out (state_shown x (with_got_back t p)) (loan_shown x t (y lane) (copied_order k q.words))).0
    passed_plain e b dry =
        plain_is
        ∙ ap (λ (o : Option Refusal). (lent_unless o s (lent_tested handed_out s (ch lane) p.number (loan_shown x t (y lane) (copied_order k q.words)))).0) (tests_pass e)
        ∙ ap (λ (v : Outcome × m.State). v.0)
        (with_memory x t (y lane) there handed_out (ch lane) (copied_order k q.words) refl
        ∙ lent_is x t (y lane) there handed_out (copied_order k q.words) (λ w l at. once_on t order.order x w l at)
        ∙ ap (λ b. if b then refusing refusals.OutOfMemory (state_shown x (with_got_back t p)) else handed_out (state_shown x (with_got_back t p)) (loan_shown x t (y lane) (copied_order k q.words))) dry)

    pub dry_whole : (new : ControlState) → FindsDry c (y 0) a new → IsWholeCall s node call (replies.Refused refusals.OutOfMemory) (state_shown x new.tables)
    dry_whole new is =
        whole_by (replies.Refused refusals.OutOfMemory) (state_shown x new.tables)
        (λ made. absurd (no_loan (replies.Refused refusals.OutOfMemory) loan (sym (passed_plain passes true dry) ∙ made)))
        (copies_find_dry_pools x t node n k q (ch lane) [] (y lane) (lender lane) nodes role elements passes refl
        (λ v l at. once_on t order.order x v l at) dry
        ∙ ap (λ (v : m.State). (replies.Refused refusals.OutOfMemory, v))
        ((holders_may_come_back_first x t p new.tables.pools (y lane) false k 0 is.back.back.same).0
        ∙ ap (λ (d : ControlState). state_shown x d.tables) (sym is.back.left)))
      where
        passes : loan_refusal x t (y lane) k ≡ None
        passes = refusal_same lane ∙ is.passes x asked_so

        dry : is_pool_dry x t p ≡ true
        dry = dry_pools_have_holders x t p.number p new.tables.pools order.order (have_messages t order.order) there is.back.back ∙ is.full

    -- ---- the client may send no more

    -- what is lost shows the same, however many have each slot
    pub lost_shows : (new : ControlState) (is : IsLost c p a new) → state_shown x (with_call (with_loan (with_got_back t p) p.number)) ≡ state_shown x new.tables
    lost_shows new is =
        bare_pools_show_the_same x (with_call (with_loan (with_got_back t p) p.number)) is.between.tables.pools is.back.back.same
        ∙ ap (λ (d : ControlState). state_shown x (with_call (with_loan d.tables p.number))) (sym is.back.left)
        ∙ ap (λ (d : ControlState). state_shown x d.tables) (sym is.left)

    pub spent_whole : (new : ControlState) → has_all_active t p.number ≡ true → IsLost c p a new
        → IsWholeCall s node call (replies.Refused refusals.ExceedsMaxActiveRequests) (state_shown x new.tables)
    spent_whole new spent is =
        whole_by (replies.Refused refusals.ExceedsMaxActiveRequests) (state_shown x new.tables)
        (λ made. leads.spent_goes s node n (ch lane) q k mp hand (ap (λ (r : Role). is_request_loan (kind_of_loan r false)) client.client)
        (ap (λ (f : m.Fixed). is_active_spent f loan) (emptied-same s (lending_ways s.fixed loan)).0
        ∙ ap (λ j. nat_le t.settings.active_requests j) ((each_count_is_the_same x t nodes).kinds p.number (λ l. same_kind l PendingResponse)) ∙ spent))
        (spent_copies_are_refused x t node n k q (ch lane) [] (y lane) is.slot
        (record {
          lender = lender lane;
          nodes = nodes;
          role = role;
          elements = elements;
          passes = refusal_same lane ∙ is.passes x asked_so;
          memory = refl;
          takes = free_slots_may_take_loans x t p.number is.slot p is.between.tables.pools order.order is.back.back is.free;
        })
        client.client (ap not spent)
        ∙ ap (λ (v : m.State). (replies.Refused refusals.ExceedsMaxActiveRequests, v)) (lost_shows new is))
