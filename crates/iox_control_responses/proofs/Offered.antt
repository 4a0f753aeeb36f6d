-- A response that is offered: what is left, and that it is the machine's send.
use Rattle.std.specs.Prelude.{◌≡◌, ◌⊎◌, ℕ, ◌+◌, ◌^◌, ◌≤◌, ◌<◌, Bool, true, false, not, ◌&&◌, if◌then◌else◌, List, [], ◌∷◌, length, Option, Some, None, refl}
use Rattle.std.specs.Option.{option_map, option_map_or}
use Rattle.std.proofs.Common.{inl, inr, sym, ap, ap₂, subst, ◌∙◌, arith, true≢false}
use Rattle.std.proofs.lemmas.Option.{none-some, same_Some}
use Rattle.iox_handles.specs.declared.entry.Entry.{Entry}
use Rattle.iox_model.specs.declared.call.Call.TheVariants.{Send}
use Rattle.iox_model.specs.declared.kind.Kind.TheVariants.{ResponseMut}
use Rattle.iox_model.specs.declared.reply.Refusal.TheVariants.{UnableToDeliver}
use Rattle.iox_model.specs.declared.reply.Reply.TheVariants as replies
use Rattle.iox_model.specs.declared.way.Way.{Way}
use Rattle.iox_model.specs.Handles.{is_own, is_response_loan}
use Rattle.iox_model.specs.WholeCalls.{IsWholeCall}
use Rattle.iox_laws.proofs.WeaveLaws.MapLemmas.{same_way-refl}
use Rattle.iox_laws.specs.CallFunctions.LoanSends.{loan_sent_by}
use Rattle.iox_lanes.specs.Lanes.{IsSound, LaneState, is_full}
use Rattle.iox_tables.specs.HubStates.Tables.{HandleState, HubTables, PoolState, PortState, port_in}
use Rattle.iox_tables.specs.HubStates.Ways.{lane_on, with_lanes_on}
use Rattle.iox_tables.specs.HubStates.Changes.{emptied_lane, with_lanes}
use Rattle.iox_tables.specs.HubStates.Ends.{with_call, with_dropped}
use Rattle.iox_tables.specs.HubStates.States.{Given, state_shown}
use Rattle.iox_tables.specs.HubStates.Steps.{IsOpenToNew}
use Rattle.iox_tables.specs.HubStates.Wirings.{IsHandle, handle_in}
use Rattle.iox_tables.proofs.HubStates.Keys.{at_is, lane_turned}
use Rattle.iox_tables.specs.HubBooks.Handles.{IsOfPort, is_loan}
use Rattle.iox_tables.specs.HubBooks.Keeps.{bare_pools, delivers}
use Rattle.iox_tables.proofs.HubBooks.Eachs.{lane_is}
use Rattle.iox_tables.proofs.HubBooks.Frames.{AreAlike, lanes_on_bare, port_before}
use Rattle.iox_tables.proofs.HubBooks.Rooms.{bare_pools_show_the_same}
use Rattle.iox_tables.proofs.HubBooks.Structures.{same_lane}
use Rattle.iox_tables.proofs.HubBooks.Used.{handle_is}
use Rattle.iox_tables.specs.HubLoans.Questions.{is_named_by_client}
use Rattle.iox_tables.specs.HubMaking.Disconnections.{with_released}
use Rattle.iox_tables.specs.HubMaking.Worked.{at_first}
use Rattle.iox_hub_ports.specs.Ports.{on_way, place_in}
use Rattle.iox_control.specs.Controls.{ControlState, IsControl, with_tables}
use Rattle.iox_control.specs.Entries.{handle_state}
use Rattle.iox_control_ending.specs.Endings.{IsLoan, with_ended}
use Rattle.iox_control_retrieving.specs.Alone.{HasOneLoan, has_one_out}
use Rattle.iox_control_responses.specs.declared.responded.Responded.{Responded}
use Rattle.iox_control_responses.specs.declared.responded.Responded.TheVariants.{Done, Undelivered}
use Rattle.iox_control_responses.specs.Responses.{IsFailure, IsResponse, is_shut, is_undelivered, reply_of_send, response_reply, with_handed_over, with_response_ended, with_response_offered, with_response_sent, with_way_emptied}
use Rattle.iox_control_responses.proofs.HandedOver.{after_bare, handed, handed_is, handed_keeps}
use Rattle.iox_control_responses.proofs.Lanes.{IsReady}
use Rattle.iox_control_responses.proofs.Places.{place_stays}
use Rattle.iox_control_responses.proofs.Whole.{goes_in_line, goes_over, is_lost, is_skipped, is_whole, server_buffer, the_lane, to_nobody}
use Rattle.iox_slots.proofs.BareLemmas.{let_go_bare}
use Rattle.iox_tables.proofs.HubMaking.Releases.{released_calls, released_later, released_pools}
use Rattle.iox_tables.specs.HubStates.Releases.{way_to_client}

no_port_stays : (g : LaneState → LaneState) (ports : List PortState) (ws : List Way) (n : ℕ) → AreAlike ports (with_lanes_on g ports ws) → port_in ports n ≡ None → port_in (with_lanes_on g ports ws) n ≡ None
no_port_stays g ports ws n alike none = step (port_in (with_lanes_on g ports ws) n) refl
  where
    step : (o : Option PortState) → port_in (with_lanes_on g ports ws) n ≡ o → o ≡ None
    step None at = refl
    step (Some p) at = let q = port_before ports (with_lanes_on g ports ws) alike n p at in absurd (none-some q.0 (sym none ∙ q.1))

-- ---- the send

module _ (c : ControlState) (node n : ℕ) (order : IsControl c) (few : c.tables.calls < 2 ^ 56) (response : IsResponse c.tables node n) (some : 1 ≤ c.tables.settings.response_buffer)
    (e : Entry) (found : Some (handle_state e) ≡ handle_in c.tables.handles node n) (fails : Bool)
    (v : Way) (its_way : v ≡ way_to_client c.tables (handle_state e)) (shut : Bool) (told : shut ≡ (on_way is_full true c.tables.ports v && not c.tables.settings.response_overflow))
    (sound : (l : LaneState) → lane_on c.tables.ports v ≡ Some l → IsSound l)
  where
    abbrev t : HubTables
    t = c.tables

    abbrev h : HandleState
    h = handle_state e

    abbrev w : Way
    w = way_to_client t h

    abbrev em : HubTables
    em = with_way_emptied t h

    its_handle : response.handle ≡ h
    its_handle = same_Some response.handle h (sym response.named.there ∙ sym found)

    named : IsHandle t node n h
    named = subst (IsHandle t node n) its_handle response.named

    kind : h.kind ≡ ResponseMut
    kind = ap (λ (k : HandleState). k.kind) (sym its_handle) ∙ response.kind

    shut_is : is_shut t h ≡ shut
    shut_is = ap (λ u. on_way is_full true t.ports u && not t.settings.response_overflow) (sym its_way) ∙ sym told

    waits : (l : LaneState) → lane_on t.ports w ≡ Some l → length l.waiting ≤ l.buffer
    waits l at = (sound l (ap (lane_on t.ports) its_way ∙ at)).waits

    of_port : IsOfPort t h
    of_port = handle_is (IsOfPort t) t.handles node n h order.order.ports named.there

    -- what is on its way is of its pool
    pub of_pool : (l : LaneState) → lane_on t.ports v ≡ Some l → l.pool ≡ h.pool
    of_pool l at =
        (order.order.lanes v l of_port.port at (ap (λ (u : Way). port_in t.ports u.sender) its_way ∙ of_port.there)).of_pool
        ∙ sym (of_port.of_pool (ap is_own kind))

    -- its loan may be the only message of the server that somebody has
    pub only_loan : has_one_out t.pools h.pool ≡ true → HasOneLoan t h.pool
    only_loan one = record { node = node; number = n; handle = h; named = named; loan = ap is_loan kind; of_pool = refl; one = one }

    -- it is found again
    pub found_then : (d : ControlState) → d.tables.handles ≡ t.handles → handle_in d.tables.handles node n ≡ Some h
    found_then d same = ap (λ hs. handle_in hs node n) same ∙ sym found

    -- ---- what it comes to

    -- That is answered, and these are the tables.
    pub record IsOffered (r : Responded) (left : HubTables) : Type 0 where
      pub reply : reply_of_send r ≡ response_reply t h fails
      pub is : left ≡ record (with_response_ended t node n h fails) { pools = left.pools }
      pub same : bare_pools t.pools ≡ bare_pools left.pools
      pub whole :
          (x : Given) → (t.settings.response_overflow ≡ false → IsFailure x t h fails) → (u : HubTables) → state_shown x (with_released left h.port) ≡ state_shown x u
          → IsWholeCall (state_shown x t) node (Send n) (reply_of_send r) (state_shown x u)

    -- the same, by the handle that is found
    pub left_for : (r : Responded) (left : HubTables) → IsOffered r left → (k : HandleState) → handle_in t.handles node n ≡ Some k
        → left ≡ record (with_response_ended t node n k fails) { pools = left.pools }
    left_for r left all k there = all.is ∙ ap (λ (i : HandleState). record (with_response_ended t node n i fails) { pools = left.pools }) (same_Some h k (found ∙ there))

    pub whole_for : (r : Responded) (left : HubTables) → IsOffered r left → (k : HandleState) → handle_in t.handles node n ≡ Some k
        → (x : Given) → (t.settings.response_overflow ≡ false → IsFailure x t k fails) → (u : HubTables) → state_shown x (with_released left k.port) ≡ state_shown x u
        → IsWholeCall (state_shown x t) node (Send n) (reply_of_send r) (state_shown x u)
    whole_for r left all k there x failure u shown =
        let same : h ≡ k = same_Some h k (found ∙ there) in
        all.whole x (λ off. subst (λ (i : HandleState). IsFailure x t i fails) (sym same) (failure off)) u
        (ap (λ (i : HandleState). state_shown x (with_released left i.port)) same ∙ shown)

    abbrev gone : HubTables → HubTables
    gone u = with_released (with_dropped u node n) h.port

    abbrev calls_after : Bool → ℕ
    calls_after b = if b then t.calls else t.calls + 1

    offered : (r : Responded) (u : HubTables) (b : Bool) (left : HubTables) → with_response_sent t h ≡ u → u.pools ≡ t.pools → is_undelivered t h fails ≡ b
        → reply_of_send r ≡ (if b then replies.Refused UnableToDeliver else replies.Done)
        → ((x : Given) → (t.settings.response_overflow ≡ false → IsFailure x t h fails) → loan_sent_by (state_shown x t) node n ≡ (reply_of_send r, state_shown x (record (gone u) { calls = if b then t.calls else t.calls + 1 })))
        → left ≡ record (with_dropped u node n) { calls = if b then t.calls else t.calls + 1; pools = left.pools }
        → bare_pools t.pools ≡ bare_pools left.pools → IsOffered r left
    offered r u b left sent pools undelivered reply model is same = record {
      reply = reply ∙ sym (ap (λ (d : Bool). if d then replies.Refused UnableToDeliver else replies.Done) undelivered);
      is =
          is
          ∙ ap₂ (λ (d : HubTables) (f : Bool). record (with_dropped d node n) { calls = if f then t.calls else t.calls + 1; pools = left.pools }) (sym sent) (sym undelivered);
      same = same;
      whole = λ x failure after shown.
          is_whole t order.order node n h named kind few x waits (reply_of_send r) (state_shown x after)
          (model x failure
          ∙ ap (λ s. (reply_of_send r, s))
          (bare_pools_show_the_same x (record (gone u) { calls = calls_after b }) left.pools (ap bare_pools (released_pools (with_dropped u node n) h.port ∙ pools) ∙ same)
          ∙ ap (state_shown x) (sym (released_later (with_dropped u node n) (calls_after b) left.pools h.port) ∙ ap (λ d. with_released d h.port) (sym is)) ∙ shown));
    }

    -- once the call is counted
    as_counted : (u : HubTables) → u.calls ≡ t.calls → with_call (gone u) ≡ record (gone u) { calls = t.calls + 1 }
    as_counted u same = ap (λ (k : ℕ). record (gone u) { calls = k + 1 }) (released_calls (with_dropped u node n) h.port ∙ same)

    as_is : (u : HubTables) → u.calls ≡ t.calls → gone u ≡ record (gone u) { calls = t.calls }
    as_is u same = ap (λ (k : ℕ). record (gone u) { calls = k }) (released_calls (with_dropped u node n) h.port ∙ same)

    -- the end of the loan over other tables
    ended : (u : HubTables) (calls : ℕ) (p : List (Option PoolState)) (d new : ControlState) → d.tables ≡ record u { calls = calls; pools = p } → new ≡ with_ended d node n h
        → new.tables ≡ record (with_dropped u node n) { calls = calls; pools = new.tables.pools }
    ended u calls p d new at is =
        ap (λ (x : ControlState). x.tables) is
        ∙ ap (λ ps. record (with_dropped d.tables node n) { pools = ps }) (sym (ap (λ (x : ControlState). x.tables.pools) is))
        ∙ ap (λ (x : HubTables). record (with_dropped x node n) { pools = new.tables.pools }) at

    ended_bare : (d new : ControlState) → bare_pools t.pools ≡ bare_pools d.tables.pools → new ≡ with_ended d node n h → bare_pools t.pools ≡ bare_pools new.tables.pools
    ended_bare d new same is =
        same ∙ let_go_bare d.tables.pools h.pool h.slot ∙ ap (λ (x : ControlState). bare_pools x.tables.pools) (sym is)

    -- it is still a loan where handles and ports are as before
    pub still_loan : (u : HubTables) → u.handles ≡ t.handles → port_in u.ports n ≡ None → IsLoan u node n
    still_loan u handles none = record {
      handle = h;
      named = record { there = ap (λ hs. handle_in hs node n) handles ∙ sym found; no_port = none };
      loan = ap is_loan kind;
    }

    pub loan_counted : (d k : ControlState) → k ≡ with_tables d (with_call d.tables) → IsLoan d.tables node n → IsLoan k.tables node n
    loan_counted d k is loan = record {
      handle = loan.handle;
      named = record {
        there = ap (λ (x : ControlState). handle_in x.tables.handles node n) is ∙ loan.named.there;
        no_port = ap (λ (x : ControlState). port_in x.tables.ports n) is ∙ loan.named.no_port;
      };
      loan = loan.loan;
    }

    -- ---- nobody waits

    pub nobody_waits : is_named_by_client t h false ≡ false → (d new : ControlState) → d ≡ with_tables c (with_call t) → new ≡ with_ended d node n h → IsOffered Done new.tables
    nobody_waits off d new counted is =
        offered Done t false new.tables (ap (λ (b : Bool). if b then with_response_offered t h else t) off) refl
        (ap (λ (b : Bool). b && (is_shut t h && fails)) off) refl
        (λ x failure. to_nobody t order.order node n h named kind few x off ∙ ap (λ u. (replies.Done, state_shown x u)) (as_counted t refl))
        (ended t (t.calls + 1) t.pools d new (ap (λ (x : ControlState). x.tables) counted) is)
        (ended_bare d new (ap (λ (x : ControlState). bare_pools x.tables.pools) (sym counted)) is)

    -- ---- its client waits

    module _ (awaits : is_named_by_client t h false ≡ true) (d : ControlState) (order_then : IsControl d)
        (left : d ≡ with_tables c (record (with_lanes emptied_lane t (v ∷ [])) { pools = d.tables.pools })) (same : bare_pools t.pools ≡ bare_pools d.tables.pools)
      where
        tables_then : d.tables ≡ record em { calls = t.calls; pools = d.tables.pools }
        tables_then = ap (λ (x : ControlState). x.tables) left ∙ ap (λ u. record (with_lanes emptied_lane t (u ∷ [])) { pools = d.tables.pools }) its_way

        pub loan_then : IsLoan d.tables node n
        loan_then =
            still_loan d.tables (ap (λ (x : HubTables). x.handles) tables_then)
            (ap (λ (x : HubTables). port_in x.ports n) tables_then ∙ no_port_stays emptied_lane t.ports (w ∷ []) n (lanes_on_bare emptied_lane (λ l. refl) t.ports (w ∷ [])) named.no_port)

        -- its client stands where it stood
        pub place_then : (i : ℕ) → place_in t.ports v.receiver ≡ Some i → place_in d.tables.ports v.receiver ≡ Some i
        place_then i there =
            ap (λ (x : HubTables). place_in x.ports v.receiver) tables_then
            ∙ place_stays t.ports (with_lanes_on emptied_lane t.ports (w ∷ [])) v.receiver i (lanes_on_bare emptied_lane (λ l. refl) t.ports (w ∷ [])) there

        full_and_plain : shut ≡ true → (on_way is_full true t.ports w ≡ true) × (t.settings.response_overflow ≡ false)
        full_and_plain is = both (on_way is_full true t.ports w) t.settings.response_overflow (shut_is ∙ is)
          where
            both : (a b : Bool) → (a && not b) ≡ true → (a ≡ true) × (b ≡ false)
            both true false f = (refl, refl)
            both true true f = absurd (true≢false (sym f))
            both false b f = absurd (true≢false (sym f))

        offered_is : with_response_sent t h ≡ (if shut then em else with_lanes (delivers t.settings.response_overflow h.slot) em (w ∷ []))
        offered_is =
            ap (λ (b : Bool). if b then with_response_offered t h else t) awaits
            ∙ ap (λ (b : Bool). if b then em else with_lanes (delivers t.settings.response_overflow h.slot) em (w ∷ [])) shut_is

        undelivered_is : is_undelivered t h fails ≡ (shut && fails)
        undelivered_is = ap₂ (λ (a b : Bool). a && (b && fails)) awaits shut_is

        emptied_sent : shut ≡ true → with_response_sent t h ≡ em
        emptied_sent is = offered_is ∙ ap (λ (b : Bool). if b then em else with_lanes (delivers t.settings.response_overflow h.slot) em (w ∷ [])) is

        pub fails_to_send : shut ≡ true → fails ≡ true → (new : ControlState) → new ≡ with_ended d node n h → IsOffered Undelivered new.tables
        fails_to_send is failing new ends =
            offered Undelivered em true new.tables (emptied_sent is) refl (undelivered_is ∙ ap₂ (λ (a b : Bool). a && b) is failing) refl
            (λ x failure.
            is_lost t order.order node n h named kind few x awaits (full_and_plain is).0 (full_and_plain is).1 (failure (full_and_plain is).1 ∙ failing)
            ∙ ap (λ u. (replies.Refused UnableToDeliver, state_shown x u)) (as_is em refl))
            (ended em t.calls d.tables.pools d new tables_then ends) (ended_bare d new same ends)

        pub goes_to_nobody : shut ≡ true → fails ≡ false → (k new : ControlState) → k ≡ with_tables d (with_call d.tables) → new ≡ with_ended k node n h → IsOffered Done new.tables
        goes_to_nobody is failing k new counted ends =
            offered Done em false new.tables (emptied_sent is) refl (undelivered_is ∙ ap₂ (λ (a b : Bool). a && b) is failing) refl
            (λ x failure.
            is_skipped t order.order node n h named kind few x awaits (full_and_plain is).0 (full_and_plain is).1 (failure (full_and_plain is).1 ∙ failing)
            ∙ ap (λ u. (replies.Done, state_shown x u)) (as_counted em refl))
            (ended em (t.calls + 1) d.tables.pools k new (ap (λ (x : ControlState). x.tables) counted ∙ ap with_call tables_then) ends)
            (ended_bare k new (same ∙ ap (λ (x : ControlState). bare_pools x.tables.pools) (sym counted)) ends)

        -- ---- it is put in line

        its_lane : (l : LaneState) × (lane_on t.ports w ≡ Some l) × IsOpenToNew at_first t h.pool h.slot w l
        its_lane = the_lane t order.order node n h named kind few at_first awaits

        abbrev l : LaneState
        l = its_lane.0

        lane_then : lane_on d.tables.ports v ≡ Some (emptied_lane l)
        lane_then =
            ap (λ (x : HubTables). lane_on x.ports v) tables_then
            ∙ ap (lane_on em.ports) its_way
            ∙ ap (λ on. on w) (lane_turned emptied_lane t.ports w) ∙ at_is emptied_lane (lane_on t.ports) w w
            ∙ ap (λ (b : Bool). if b then option_map emptied_lane (lane_on t.ports w) else lane_on t.ports w) (same_way-refl w)
            ∙ ap (option_map emptied_lane) its_lane.1

        way_then : v ≡ way_to_client d.tables h
        way_then =
            its_way ∙ ap (λ k. record { sender = h.port; receiver = h.client; lane = k }) (same_lane t.pools d.tables.pools same h.pool h.slot)

        module _ (free : shut ≡ false) where
          either : (t.settings.response_overflow ≡ true) ⊎ (is_full l ≡ false)
          either =
              over (on_way is_full true t.ports w) t.settings.response_overflow (shut_is ∙ free) (sym (ap (λ o. option_map_or is_full o true) its_lane.1))
            where
              over : (a b : Bool) → (a && not b) ≡ false → is_full l ≡ a → (b ≡ true) ⊎ (is_full l ≡ false)
              over a true f g = inl refl
              over false false f g = inr g
              over true false f g = absurd (true≢false f)

          settings_then : d.tables.settings.response_overflow ≡ t.settings.response_overflow
          settings_then = ap (λ (x : HubTables). x.settings.response_overflow) tables_then

          either_then : (d.tables.settings.response_overflow ≡ true) ⊎ (is_full (emptied_lane l) ≡ false)
          either_then = turned either
            where
              turned : (t.settings.response_overflow ≡ true) ⊎ (is_full l ≡ false) → (d.tables.settings.response_overflow ≡ true) ⊎ (is_full (emptied_lane l) ≡ false)
              turned (inl f) = inl (settings_then ∙ f)
              turned (inr f) = inr f

          few_then : d.tables.calls < 2 ^ 56
          few_then = subst (λ k. k < 2 ^ 56) (sym (ap (λ (x : HubTables). x.calls) tables_then)) few

          of_pool_then : l.pool ≡ h.pool
          of_pool_then = its_lane.2.open_to.of_pool

          named_then : IsHandle d.tables node n h
          named_then = record { there = found_then d (ap (λ (x : HubTables). x.handles) tables_then); no_port = loan_then.named.no_port }

          buffer_is : l.buffer ≡ t.settings.response_buffer
          buffer_is = its_lane.2.open_to.buffer ∙ server_buffer t order.order node n h named kind few at_first

          ready : IsReady (emptied_lane l)
          ready = record {
            empty = refl;
            waits = waits l its_lane.1;
            has = (sound l (ap (lane_on t.ports) its_way ∙ its_lane.1)).has;
            some = subst (λ k. 1 ≤ k) (sym buffer_is) some;
            counts =
                let low = lane_is (λ m. m.deliveries ≤ t.calls) t.ports w l order.counted.deliveries its_lane.1 in
                let f = few in omega (arith, low, f);
          }

          abbrev new_is : ControlState
          new_is = handed d node n h order_then few_then named_then (ap is_response_loan kind) v way_then (emptied_lane l) lane_then of_pool_then ready either_then

          handed_over : (new : ControlState) → new ≡ with_handed_over d node n v h.pool h.slot → new ≡ new_is
          handed_over new is = is ∙ handed_is d node n h order_then few_then named_then (ap is_response_loan kind) v way_then (emptied_lane l) lane_then of_pool_then ready either_then

          pub in_line_keeps : (new : ControlState) → new ≡ with_handed_over d node n v h.pool h.slot → IsControl new
          in_line_keeps new is =
              subst IsControl (sym (handed_over new is))
              (handed_keeps d node n h order_then few_then named_then (ap is_response_loan kind) v way_then (emptied_lane l) lane_then of_pool_then ready either_then)

          abbrev in_line : HubTables
          in_line = with_lanes (delivers t.settings.response_overflow h.slot) em (w ∷ [])

          abbrev then_with : HubTables → Way → List (Option PoolState) → HubTables
          then_with x u ps = record (with_call (with_dropped (with_lanes (delivers x.settings.response_overflow h.slot) x (u ∷ [])) node n)) { pools = ps }

          tables_in_line : (new : ControlState) → new ≡ with_handed_over d node n v h.pool h.slot
              → new.tables ≡ record (with_dropped in_line node n) { calls = t.calls + 1; pools = new.tables.pools }
          tables_in_line new is =
              ap (λ (x : ControlState). x.tables) (handed_over new is)
              ∙ ap (λ ps. then_with d.tables v ps) (sym (ap (λ (x : ControlState). x.tables.pools) (handed_over new is)))
              ∙ ap₂ (λ (x : HubTables) (u : Way). then_with x u new.tables.pools) tables_then its_way

          bare_in_line : (new : ControlState) → new ≡ with_handed_over d node n v h.pool h.slot → bare_pools t.pools ≡ bare_pools new.tables.pools
          bare_in_line new is =
              same ∙ after_bare d.tables.pools h.pool _ ∙ ap (λ (x : ControlState). bare_pools x.tables.pools) (sym (handed_over new is))

          model : (b : Bool) → t.settings.response_overflow ≡ b → (x : Given)
              → loan_sent_by (state_shown x t) node n ≡ (replies.Done, state_shown x (with_call (gone (with_lanes (delivers b h.slot) em (w ∷ [])))))
          model true on x = goes_over t order.order node n h named kind few x awaits on
          model false on x = goes_in_line t order.order node n h named kind few x awaits (not_full either) on
            where
              not_full : (t.settings.response_overflow ≡ true) ⊎ (is_full l ≡ false) → on_way is_full true t.ports w ≡ false
              not_full (inl f) = absurd (true≢false (sym f ∙ on))
              not_full (inr f) = ap (λ o. option_map_or is_full o true) its_lane.1 ∙ f

          pub is_in_line : (new : ControlState) → new ≡ with_handed_over d node n v h.pool h.slot → IsOffered Done new.tables
          is_in_line new is =
              offered Done in_line false new.tables
              (offered_is ∙ ap (λ (b : Bool). if b then em else in_line) free) refl (undelivered_is ∙ ap (λ (b : Bool). b && fails) free) refl
              (λ x failure. model t.settings.response_overflow refl x ∙ ap (λ u. (replies.Done, state_shown x u)) (as_counted in_line refl))
              (tables_in_line new is) (bare_in_line new is)
