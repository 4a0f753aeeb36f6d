-- A request that is offered: what is left, and that it is the machine's send.
use Rattle.std.specs.Prelude.{◌≡◌, ℕ, ◌^◌, ◌≤◌, ◌<◌, Bool, true, false, if◌then◌else◌, length, Option, Some, None, is_none, refl}
use Rattle.std.proofs.Common.{sym, ap, ap₂, subst, ◌∙◌, true≢false}
use Rattle.std.proofs.lemmas.Option.{same_Some}
use Rattle.iox_handles.specs.declared.entry.Entry.{Entry}
use Rattle.iox_model.specs.declared.call.Call.TheVariants.{Send}
use Rattle.iox_model.specs.declared.kind.Kind.TheVariants.{RequestMut}
use Rattle.iox_model.specs.declared.reply.Refusal.TheVariants as refusals
use Rattle.iox_model.specs.declared.reply.Reply.TheVariants as replies
use Rattle.iox_model.specs.declared.way.Way.{Way}
use Rattle.iox_model.specs.Handles.{is_request_loan}
use Rattle.iox_model.specs.States as m
use Rattle.iox_model.specs.WholeCalls.{IsWholeCall}
use Rattle.iox_laws.specs.CallFunctions.LoanSends.{loan_sent_by}
use Rattle.iox_tables.specs.HubStates.Tables.{HandleState, HubTables}
use Rattle.iox_tables.specs.HubStates.Ways.{lane_on}
use Rattle.iox_tables.specs.HubStates.Changes.{OnEach}
use Rattle.iox_tables.specs.HubStates.Ends.{with_dropped}
use Rattle.iox_tables.specs.HubStates.States.{Given, state_shown}
use Rattle.iox_tables.specs.HubStates.Wirings.{IsHandle, handle_in}
use Rattle.iox_tables.proofs.HubStates.Naming.{handle_node, handle_number}
use Rattle.iox_tables.specs.HubBooks.Handles.{is_loan}
use Rattle.iox_tables.specs.HubBooks.Keeps.{bare_pools}
use Rattle.iox_tables.proofs.HubBooks.Rooms.{bare_pools_show_the_same}
use Rattle.iox_tables.specs.HubLoans.Counts.{has_all_active}
use Rattle.iox_tables.specs.HubMaking.Disconnections.{with_released}
use Rattle.iox_control.specs.Controls.{ControlState, IsControl}
use Rattle.iox_control.specs.Entries.{handle_state}
use Rattle.iox_control_ending.specs.Endings.{IsLoan, with_ended}
use Rattle.iox_control_requests.specs.declared.requested.Requested.{Requested}
use Rattle.iox_control_requests.specs.declared.requested.Requested.TheVariants.{To, ExceedsMaxActiveRequests, UnableToDeliver}
use Rattle.iox_control_requests.specs.Requests.{is_failing, ways_of, with_request_sent, with_requests_back}
use Rattle.iox_control_requests.specs.Sendings.{AreFailures, IsRequest, reply_of_send, request_outcome, with_lost_released, with_request_ended}
use Rattle.iox_control_requests.specs.Servers.{request_ways}
use Rattle.iox_control_requests.proofs.Whole.{goes_over, goes_plain, is_lost, is_refused, is_whole_sent}
use Rattle.iox_slots.proofs.BareLemmas.{let_go_bare}
use Rattle.iox_tables.proofs.HubMaking.Releases.{released_as, released_pools}

-- the end of a loan leaves its message
pub ended_bare : (c new : ControlState) (node n : ℕ) (h : HandleState) → new ≡ with_ended c node n h → bare_pools c.tables.pools ≡ bare_pools new.tables.pools
ended_bare c new node n h ends = let_go_bare c.tables.pools h.pool h.slot ∙ ap (λ (d : ControlState). bare_pools d.tables.pools) (sym ends)

-- ---- the send

module _ (c : ControlState) (node n : ℕ) (order : IsControl c) (few : c.tables.calls < 2 ^ 56) (request : IsRequest c.tables node n)
    (e : Entry) (found : Some (handle_state e) ≡ handle_in c.tables.handles node n) (fails : Way → Bool)
  where
    abbrev t : HubTables
    t = c.tables

    abbrev h : HandleState
    h = handle_state e

    abbrev back : HubTables
    back = with_requests_back t h

    its_handle : request.handle ≡ h
    its_handle = same_Some request.handle h (sym request.named.there ∙ sym found)

    named : IsHandle t node n h
    named = subst (IsHandle t node n) its_handle request.named

    pub filled_kind : h.kind ≡ RequestMut
    filled_kind = ap (λ (k : HandleState). k.kind) (sym its_handle) ∙ request.kind

    pub loan_kind : is_request_loan h.kind ≡ true
    loan_kind = ap is_request_loan filled_kind

    pub its_loan : IsLoan t node n
    its_loan = record { handle = h; named = named; loan = ap is_loan filled_kind }

    its_node : h.node ≡ node
    its_node = handle_node t.handles node n h (sym found)

    its_number : h.number ≡ n
    its_number = handle_number t.handles node n h (sym found)

    pub named_so : IsHandle t e.node e.number h
    named_so =
        subst (λ (k : ℕ). IsHandle t k e.number h) (sym its_node) (subst (λ (k : ℕ). IsHandle t node k h) (sym its_number) named)

    -- That is answered, and these are the tables.
    pub record IsOffered (r : Requested) (left : HubTables) : Type 0 where
      pub reply : r ≡ request_outcome fails t h
      pub is : left ≡ record (with_request_ended t node n h r) { pools = left.pools }
      pub whole :
          (x : Given) → (t.settings.request_overflow ≡ false → AreFailures x t h fails) → (u : HubTables) → state_shown x (with_lost_released r left h.port) ≡ state_shown x u
          → IsWholeCall (state_shown x t) node (Send n) (reply_of_send r) (state_shown x u)

    -- the same, by the handle that is found
    pub reply_for : (r : Requested) (left : HubTables) → IsOffered r left → (k : HandleState) → handle_in t.handles node n ≡ Some k → r ≡ request_outcome fails t k
    reply_for r left all k there = all.reply ∙ ap (request_outcome fails t) (same_Some h k (found ∙ there))

    pub left_for : (r : Requested) (left : HubTables) → IsOffered r left → (k : HandleState) → handle_in t.handles node n ≡ Some k
        → left ≡ record (with_request_ended t node n k r) { pools = left.pools }
    left_for r left all k there = all.is ∙ ap (λ (i : HandleState). record (with_request_ended t node n i r) { pools = left.pools }) (same_Some h k (found ∙ there))

    pub whole_for : (r : Requested) (left : HubTables) → IsOffered r left → (k : HandleState) → handle_in t.handles node n ≡ Some k
        → (x : Given) → (t.settings.request_overflow ≡ false → AreFailures x t k fails) → (u : HubTables) → state_shown x (with_lost_released r left k.port) ≡ state_shown x u
        → IsWholeCall (state_shown x t) node (Send n) (reply_of_send r) (state_shown x u)
    whole_for r left all k there x failure u shown =
        let same : h ≡ k = same_Some h k (found ∙ there) in
        all.whole x (λ off. subst (λ (i : HandleState). AreFailures x t i fails) (sym same) (failure off)) u
        (ap (λ (i : HandleState). state_shown x (with_lost_released r left i.port)) same ∙ shown)

    module _ (d left : HubTables) (pools : d.pools ≡ t.pools) (same : bare_pools t.pools ≡ bare_pools left.pools) (is : left ≡ record d { pools = left.pools }) (x : Given) (u : HubTables) where
      shows_lost : state_shown x (with_released left h.port) ≡ state_shown x u → state_shown x (with_released d h.port) ≡ state_shown x u
      shows_lost shown =
          bare_pools_show_the_same x (with_released d h.port) left.pools (ap bare_pools (released_pools d h.port ∙ pools) ∙ same)
          ∙ ap (state_shown x) (sym (released_as d left.pools h.port) ∙ ap (λ v. with_released v h.port) (sym is)) ∙ shown

      shows_sent : state_shown x left ≡ state_shown x u → state_shown x d ≡ state_shown x u
      shows_sent shown = bare_pools_show_the_same x d left.pools (ap bare_pools pools ∙ same) ∙ ap (state_shown x) (sym is) ∙ shown

    abbrev outcome : Bool → Bool → Requested
    outcome a b = if a then ExceedsMaxActiveRequests else if b then UnableToDeliver else To (length (ways_of back h t.settings.request_overflow))

    -- ---- its client may send no more

    pub is_spent_so : has_all_active t h.port ≡ true → (new : ControlState) → new ≡ with_ended c node n h → IsOffered ExceedsMaxActiveRequests new.tables
    is_spent_so spent new ends = record {
      reply = sym (ap (λ a. outcome a (is_failing fails t.settings.request_overflow back.ports h.port)) spent);
      is = its;
      whole = λ x failure u shown.
          subst (λ (v : m.State). IsWholeCall (state_shown x t) node (Send n) (replies.Refused refusals.ExceedsMaxActiveRequests) v)
          (shows_lost (with_dropped t node n) new.tables refl (ended_bare c new node n h ends) its x u shown)
          (is_refused t order.order node n h named filled_kind few x spent);
    }
      where
        its : new.tables ≡ record (with_dropped t node n) { pools = new.tables.pools }
        its =
            ap (λ (d : ControlState). d.tables) ends
            ∙ ap (λ ps. record (with_dropped t node n) { pools = ps }) (sym (ap (λ (d : ControlState). d.tables.pools) ends))

    -- ---- it may

    module _ (free : has_all_active t h.port ≡ false) (overflow : Bool) (over : overflow ≡ t.settings.request_overflow) (r : Option ℕ) (new : HubTables)
        (told : is_none r ≡ is_failing fails overflow back.ports e.port) (same : bare_pools t.pools ≡ bare_pools new.pools)
      where
        failing : (o : Option ℕ) → r ≡ o → is_failing fails t.settings.request_overflow back.ports h.port ≡ is_none o
        failing o is = ap (λ b. is_failing fails b back.ports h.port) (sym over) ∙ sym told ∙ ap is_none is

        pub is_sent_so : (count : ℕ) → r ≡ Some count → count ≡ length (ways_of back h overflow)
            → new ≡ record (with_request_sent back h overflow) { pools = new.pools }
            → OnEach (λ w l. length l.waiting ≤ l.buffer) (lane_on t.ports) (request_ways h.port t.ports) → IsOffered (To count) new
        is_sent_so count some counts sent waits = record {
          reply = ap To counted ∙ sym (ap₂ outcome free (failing (Some count) some));
          is = its;
          whole = λ x failure u shown.
              is_whole_sent t order.order node n h named filled_kind few x (λ on. waits) (replies.Sent count) (state_shown x u)
              (model t.settings.request_overflow refl x failure
              ∙ ap (λ k. (replies.Sent k, state_shown x (with_request_sent back h t.settings.request_overflow))) (sym counted)
              ∙ ap (λ v. (replies.Sent count, v)) (shows_sent (with_request_sent back h t.settings.request_overflow) new refl same its x u shown));
        }
          where
            counted : count ≡ length (ways_of back h t.settings.request_overflow)
            counted = counts ∙ ap (λ b. length (ways_of back h b)) over

            its : new ≡ record (with_request_sent back h t.settings.request_overflow) { pools = new.pools }
            its = sent ∙ ap (λ b. record (with_request_sent back h b) { pools = new.pools }) over

            model : (b : Bool) → t.settings.request_overflow ≡ b → (x : Given) → (t.settings.request_overflow ≡ false → AreFailures x t h fails)
                → loan_sent_by (state_shown x t) node n ≡ (replies.Sent (length (ways_of back h b)), state_shown x (with_request_sent back h b))
            model true on x failure = goes_over t order.order node n h named filled_kind few x free on
            model false on x failure =
                goes_plain t order.order node n h named filled_kind few x free on fails (failure on)
                (ap (λ b. is_failing fails b back.ports h.port) (sym on) ∙ failing (Some count) some)

        pub is_lost_so : r ≡ None → new ≡ record (with_dropped back e.node e.number) { pools = new.pools } → IsOffered UnableToDeliver new
        is_lost_so none dropped = record {
          reply = sym (ap₂ outcome free (failing None none));
          is = its;
          whole = λ x failure u shown.
              is_whole_sent t order.order node n h named filled_kind few x (λ on. absurd (true≢false (sym on ∙ plain))) (replies.Refused refusals.UnableToDeliver) (state_shown x u)
              (is_lost t order.order node n h named filled_kind few x free plain fails (failure plain)
              (ap (λ b. is_failing fails b back.ports h.port) (sym plain) ∙ failing None none)
              ∙ ap (λ v. (replies.Refused refusals.UnableToDeliver, v)) (shows_lost (with_dropped back node n) new refl same its x u shown));
        }
          where
            its : new ≡ record (with_dropped back node n) { pools = new.pools }
            its = dropped ∙ ap₂ (λ (a b : ℕ). record (with_dropped back a b) { pools = new.pools }) its_node its_number

            plain : t.settings.request_overflow ≡ false
            plain = step t.settings.request_overflow (failing None none)
              where
                step : (b : Bool) → is_failing fails b back.ports h.port ≡ true → b ≡ false
                step false f = refl
                step true f = absurd (true≢false (sym f))
