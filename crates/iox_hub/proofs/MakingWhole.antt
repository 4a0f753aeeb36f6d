-- The making of a port in a hub is one command of the machine, and leads to a hub.
use Rattle.std.specs.Prelude.{◌≡◌, ℕ, Bool, true, false, if◌then◌else◌, ◌==◌, ◌^◌, nat_le, List, [], Option, Some, None, refl}
use Rattle.std.specs.Option.{option_map_or}
use Rattle.std.proofs.Common.{sym, ap, ap₂, subst, ◌∙◌}
use Rattle.iox_types.specs.declared.identifiers.system_id.UniqueSystemId.{UniqueSystemId}
use Rattle.iox_model.specs.declared.kind.Kind.{Kind}
use Rattle.iox_model.specs.declared.kind.Role.{Role}
use Rattle.iox_model.specs.declared.kind.Role.TheVariants.{Client, Server}
use Rattle.iox_model.specs.declared.reply.Reply.TheVariants.{Refused}
use Rattle.iox_model.specs.Commands.{Create}
use Rattle.iox_model.specs.Makings.{IsHubCommand, longest_of, port_reply}
use Rattle.iox_model.specs.Maps.{put_at}
use Rattle.iox_model.specs.Settings.{Shape, shape_of}
use Rattle.iox_model.specs.States.{State}
use Rattle.iox_model.specs.Runs.{IsReachableState, OfHub}
use Rattle.iox_laws.proofs.WeaveWorlds.Inductions.{step_is_reached}
use Rattle.iox_store.specs.Stored.{StoredMessage, unlent}
use Rattle.iox_tables.specs.HubStates.States.{Given, limits_of, state_shown}
use Rattle.iox_tables.specs.HubStates.Tables.{HandleState, HubTables, PortState}
use Rattle.iox_tables.specs.HubStates.Wirings.{handle_in}
use Rattle.iox_tables.proofs.HubBooks.Used.{handle_is}
use Rattle.iox_tables.proofs.HubKeeping.Ordered.{places_become_free}
use Rattle.iox_slots.specs.Pools.{place_for_one}
use Rattle.iox_tables.specs.HubMaking.FreePools.{OthersStay}
use Rattle.iox_tables.specs.HubStates.Steps.{is_there}
use Rattle.iox_tables.specs.HubMaking.NewPorts.{given_made}
use Rattle.iox_control.specs.Controls.{ControlState, IsControl}
use Rattle.iox_control_making.specs.declared.asked.Asked.{Asked}
use Rattle.iox_control_making.specs.declared.asked.NotMade.{NotMade}
use Rattle.iox_control_making.specs.declared.asked.NotMade.TheVariants.{DataSegment}
use Rattle.iox_control_making.specs.Making.{AsksFor, MakesWhole, RefusesWhole, port_asked, refusal_of, with_asked}
use Rattle.iox_control_making.proofs.Told.{no_memory, refused_whole}
use Rattle.iox_tables.specs.HubBooks.Hubs.{AreInOrder}
use Rattle.iox_tables.specs.HubLoans.Questions.{kind_in, kind_of_role}
use Rattle.iox_backpressure.specs.Handlers.{PortWords, handler_in, handlers_with}
use Rattle.iox_backpressure.proofs.Listed.{set_in}
use Rattle.iox_backpressure.proofs.Shown.{same_where_connected}
use Rattle.iox_hub.specs.declared.options.Options.{Options}
use Rattle.iox_hub.specs.Fits.{WordsFit, many_by}
use Rattle.iox_hub.specs.Hubs.{HasValue, HubState, IsHub, given_by, many_in, state_of_hub, with_control}
use Rattle.iox_hub.specs.Making.{AreWordsPut, IsAllowed, LeavesMessages, options_of, options_with, shape_in, words_made}
use Rattle.iox_hub.specs.Reads.{message_in}
use Rattle.iox_hub.specs.Words.{Carried, stored_in}
use Rattle.iox_hub.proofs.MakingFits.{fits_made, free, made_is_value, pool_put, stored_else, values_stay}

-- what is asked of a port does not depend on its handler
with_handler : {x : Given} {t : HubTables} {role : Role} {o : Options} {asked : Asked} (handler : Option (List ℕ)) → AsksFor x t role (options_of o) asked
    → AsksFor x t role (options_with o handler) asked
with_handler {role = Client} handler is = record { large = is.large; size = is.size; longest = is.longest; grows = is.grows; strategy = is.strategy; loans = is.loans }
with_handler {role = Server} handler is = record { large = is.large; size = is.size; longest = is.longest; grows = is.grows; strategy = is.strategy; loans = is.loans }

module _ (h : HubState) (hub : IsHub h) where
  -- ---- no port is made

  -- a hub with the same tables, and more room
  pub hub_stays : (c : ControlState) → c.tables ≡ h.control.tables → IsControl c → IsHub (with_control h c)
  hub_stays c same order = record {
    control = order;
    words = subst (λ (u : HubTables). WordsFit (many_in h) h.words u) (sym same) hub.words;
    reached = (
      hub.reached.0,
      subst (λ (u : HubTables). IsReachableState (state_shown (given_by hub.reached.0 h) u)) (sym same) hub.reached.1,
    );
  }

  -- ---- a port is made

  module _ (node : ℕ) (role : Role) (id : UniqueSystemId) (asked : Asked) (o : Options) (handler : Option (List ℕ)) (words : List (Option Carried)) (c : ControlState)
      (handlers : List PortWords) (set : handlers ≡ handlers_with c.tables.ports h.control.tables.next_number handler h.handlers)
      (put : AreWordsPut h.words (place_for_one h.control.tables.pools) (words_made h role asked.size asked.longest) words)
      (same : c.tables ≡ with_asked h.control.tables (port_asked h.control.tables node role id asked)) where
    abbrev t : HubTables
    t = h.control.tables

    abbrev after : HubState
    after = record h { control = c; words = words; handlers = handlers }

    -- each connected port has the handler that the machine gives it
    connected_have : (n : ℕ) → is_there c.tables.ports n ≡ true → put_at (handler_in h.handlers) t.next_number handler n ≡ handler_in handlers n
    connected_have n there =
        step (n == t.next_number)
        ∙ sym (ap (λ (hs : List PortWords). handler_in hs n) set ∙ set_in c.tables.ports t.next_number h.handlers handler n)
      where
        step : (b : Bool) → (if b then handler else handler_in h.handlers n) ≡ (if b then handler else if is_there c.tables.ports n then handler_in h.handlers n else None)
        step true = refl
        step false = sym (ap (λ (b : Bool). if b then handler_in h.handlers n else None) there)

    shown_is : (x : Given) → state_shown (given_made (given_by x h) (given_by x after) t.next_number handler) c.tables ≡ state_of_hub x after
    shown_is x = same_where_connected (given_made (given_by x h) (given_by x after) t.next_number handler) (handler_in handlers) c.tables connected_have

    others : (x : Given) → OthersStay (place_for_one t.pools) (given_by x h) t.pools (given_by x after) c.tables.pools
    others x =
        subst (λ (u : HubTables). OthersStay (place_for_one t.pools) (given_by x h) t.pools (given_by x after) u.pools) (sym same)
        (record {
          pools = (pool_put t node role id asked hub.control.order).others;
          user = λ q k other. ap (λ (s : StoredMessage). s.user) (sym (stored_else h.words (place_for_one t.pools) (words_made h role asked.size asked.longest) words put q k other));
          payload = λ q k other. ap (λ (s : StoredMessage). s.payload) (sym (stored_else h.words (place_for_one t.pools) (words_made h role asked.size asked.longest) words put q k other));
          filled = λ q k other. ap (λ (s : StoredMessage). s.filled) (sym (stored_else h.words (place_for_one t.pools) (words_made h role asked.size asked.longest) words put q k other));
        })

    pub whole_made : ((x : Given) → AsksFor (given_by x h) t role (options_of o) asked) → MakesWhole t node role id asked c.tables → (x : Given)
        → IsHubCommand (state_of_hub x h) node (Create role id (options_with o handler)) (port_reply role t.next_number) (state_of_hub x after)
    whole_made is made x =
        subst (λ (s : State). IsHubCommand (state_of_hub x h) node (Create role id (options_with o handler)) (port_reply role t.next_number) s) (shown_is x)
        (made (given_by x h) (given_by x after) (options_with o handler) (with_handler handler (is x)) (others x))

    pub hub_made : ((x : Given) → AsksFor (given_by x h) t role (options_of o) asked) → MakesWhole t node role id asked c.tables
        → (many_by (many_in h) role ≡ false → asked.longest ≡ 1) → IsControl c → IsHub after
    hub_made is made one_of_one order = record {
      control = order;
      words = subst (λ (u : HubTables). WordsFit (many_in h) words u) (sym same) (fits_made t node role id asked hub.control.order h words hub.words one_of_one put);
      reached = (
        hub.reached.0,
        step_is_reached (state_of_hub hub.reached.0 h) (state_of_hub hub.reached.0 after) (OfHub node (Create role id (options_with o handler)) (port_reply role t.next_number))
            hub.reached.1 (whole_made is made hub.reached.0),
      );
    }

same_shape : (x : Given) (h : HubState) (role : Role) → shape_of (limits_of (given_by x h) h.control.tables) role ≡ shape_in h role
same_shape x h Client = refl
same_shape x h Server = refl

many_is : (h : HubState) (role : Role) → many_by (many_in h) role ≡ (shape_in h role).many
many_is h Client = refl
many_is h Server = refl

-- ---- in code: a hub as it was met, and what its parts are now

module _ (inside now : HubState) (view : inside ≡ now) (hub : IsHub inside) (node : ℕ) (role : Role) (id : UniqueSystemId) (asked : Asked) (o : Options)
    (is : (x : Given) → AsksFor (given_by x now) now.control.tables role (options_of o) asked) where
  abbrev old : HubTables
  old = inside.control.tables

  is_inside : (x : Given) → AsksFor (given_by x inside) old role (options_of o) asked
  is_inside = subst (λ (k : HubState). (x : Given) → AsksFor (given_by x k) k.control.tables role (options_of o) asked) (sym view) is

  -- where messages have one element, that is the greatest length of a port that is made
  one_asked : asked.large ≡ false → many_by (many_in inside) role ≡ false → asked.longest ≡ 1
  one_asked small e =
      let none : (shape_in now role).many ≡ false
      = ap (λ (h : HubState). (shape_in h role).many) (sym view) ∙ sym (many_is inside role) ∙ e in
      sym ((is hub.reached.0).longest small) ∙ ap (λ (z : Shape). longest_of z (options_of o)) (same_shape (given_by hub.reached.0 now) now role)
      ∙ ap (λ (b : Bool). if b then o.max_slice_len else 1) none

  -- a port that is made is allowed
  pub allowed : asked.large ≡ false → IsAllowed now role o
  allowed small x = sym (is x).large ∙ small

  -- the hub with words and handlers that are the same
  module _ (ws : List (Option Carried)) (kept : ws ≡ inside.words) (hs : List PortWords) (handled : hs ≡ inside.handlers) (handler : Option (List ℕ)) where
    with_same : (P : HubState → Type 0) → P inside → P (record inside { words = ws; handlers = hs })
    with_same P p =
        subst (λ (us : List PortWords). P (record inside { words = ws; handlers = us })) (sym handled) (subst (λ us. P (record inside { words = us })) (sym kept) p)

    pub whole_no_memory : nat_le (2 ^ 32) old.ports_made ≡ false → (x : Given)
        → IsHubCommand (state_of_hub x now) node (Create role id (options_with o handler)) (Refused (refusal_of role DataSegment)) (state_of_hub x (record inside { words = ws; handlers = hs }))
    whole_no_memory few x =
        subst (λ (k : HubState). IsHubCommand (state_of_hub x k) node (Create role id (options_with o handler)) (Refused (refusal_of role DataSegment))
        (state_of_hub x (record inside { words = ws; handlers = hs }))) view
        (with_same (λ (k : HubState). IsHubCommand (state_of_hub x inside) node (Create role id (options_with o handler)) (Refused (refusal_of role DataSegment)) (state_of_hub x k))
        (refused_whole (given_by x inside) old role (options_with o handler) asked (with_handler handler (is_inside x)) old node id DataSegment refl (false, no_memory old role asked few)))

    pub whole_not_made : (c : ControlState) (r : NotMade) → RefusesWhole old node role id asked r c.tables → (x : Given)
        → IsHubCommand (state_of_hub x now) node (Create role id (options_with o handler)) (Refused (refusal_of role r))
        (state_of_hub x (record inside { control = c; words = ws; handlers = hs }))
    whole_not_made c r refuses x =
        subst (λ (k : HubState). IsHubCommand (state_of_hub x k) node (Create role id (options_with o handler)) (Refused (refusal_of role r))
        (state_of_hub x (record inside { control = c; words = ws; handlers = hs }))) view
        (with_same (λ (k : HubState). IsHubCommand (state_of_hub x inside) node (Create role id (options_with o handler)) (Refused (refusal_of role r)) (state_of_hub x (with_control k c)))
        (refuses (given_by x inside) (options_with o handler) (with_handler handler (is_inside x))))

    pub hub_not_made : (c : ControlState) → c.tables ≡ old → IsControl c → IsHub (record inside { control = c; words = ws; handlers = hs })
    hub_not_made c same order = with_same (λ (k : HubState). IsHub (with_control k c)) (hub_stays inside hub c same order)

    module _ (place : ℕ) (place_is : place ≡ place_for_one old.pools) (k : Carried) (new : k ≡ words_made now role asked.size asked.longest)
        (words : List (Option Carried)) (put : AreWordsPut ws place k words) (c : ControlState)
        (same : c.tables ≡ with_asked old (port_asked old node role id asked)) (n : ℕ) (number : n ≡ old.next_number) (handlers : List PortWords)
        (ports : List PortState) (here : ports ≡ c.tables.ports) (set : handlers ≡ handlers_with ports n handler hs) where
      -- as the lemmas on a hub have it
      set_inside : handlers ≡ handlers_with c.tables.ports old.next_number handler inside.handlers
      set_inside =
          set ∙ ap₂ (λ (ps : List PortState) (m : ℕ). handlers_with ps m handler hs) here number
          ∙ ap (λ (us : List PortWords). handlers_with c.tables.ports old.next_number handler us) handled

      put_inside : AreWordsPut inside.words (place_for_one old.pools) (words_made inside role asked.size asked.longest) words
      put_inside =
          subst (λ us. AreWordsPut us (place_for_one old.pools) (words_made inside role asked.size asked.longest) words) kept
          (subst (λ i. AreWordsPut ws i (words_made inside role asked.size asked.longest) words) place_is
          (subst (λ w. AreWordsPut ws place w words) (new ∙ ap (λ (h : HubState). words_made h role asked.size asked.longest) (sym view)) put))

      abbrev after_it : HubState
      after_it = record inside { control = c; words = words; handlers = handlers }

      pub hub_with : MakesWhole old node role id asked c.tables → asked.large ≡ false → IsControl c → IsHub after_it
      hub_with made small order = hub_made inside hub node role id asked o handler words c handlers set_inside put_inside same is_inside made (one_asked small) order

      pub whole_with : MakesWhole old node role id asked c.tables → (x : Given)
          → IsHubCommand (state_of_hub x now) node (Create role id (options_with o handler)) (port_reply role n) (state_of_hub x after_it)
      whole_with made x =
          subst (λ (h : HubState). IsHubCommand (state_of_hub x h) node (Create role id (options_with o handler)) (port_reply role n) (state_of_hub x after_it)) view
          (subst (λ m. IsHubCommand (state_of_hub x inside) node (Create role id (options_with o handler)) (port_reply role m) (state_of_hub x after_it)) (sym number)
          (whole_made inside hub node role id asked o handler words c handlers set_inside put_inside same is_inside made x))

      -- the handlers are those of the hub as it was called
      pub handlers_told : handlers ≡ handlers_with c.tables.ports now.control.tables.next_number handler now.handlers
      handlers_told = set_inside ∙ ap (λ (k : HubState). handlers_with c.tables.ports k.control.tables.next_number handler k.handlers) view

      pub has_with : kind_in c.tables node n ≡ Some (kind_of_role role)
      has_with =
          ap (λ (u : HubTables). kind_in u node n) same
          ∙ ap (λ m. kind_in (with_asked old (port_asked old node role id asked)) node m) number
          ∙ made_is_value old node role id asked hub.control.order

      pub keeps_with : IsControl c → (other n : ℕ) (kind : Kind) → HasValue now other n kind → kind_in c.tables other n ≡ Some kind
      keeps_with order other n kind has =
          ap (λ (u : HubTables). kind_in u other n) same
          ∙ values_stay old node role id asked hub.control.order (subst (λ (u : HubTables). AreInOrder u) same order.order) other n kind
          (subst (λ (h : HubState). HasValue h other n kind) (sym view) has)

      calls_with : c.tables.calls ≡ now.control.tables.calls
      calls_with = ap (λ (u : HubTables). u.calls) same ∙ ap (λ (h : HubState). h.control.tables.calls) view

      messages_with : (other n : ℕ) → message_in after_it other n ≡ message_in now other n
      messages_with other n =
          ap (λ (u : HubTables). option_map_or (λ (j : HandleState). stored_in words j.pool j.slot) (handle_in u.handles other n) (unlent 0 [])) same
          ∙ step (handle_in old.handles other n) refl
          ∙ ap (λ (h : HubState). message_in h other n) view
        where
          step : (j : Option HandleState) → handle_in old.handles other n ≡ j
              → option_map_or (λ (i : HandleState). stored_in words i.pool i.slot) j (unlent 0 []) ≡ option_map_or (λ (i : HandleState). stored_in inside.words i.pool i.slot) (handle_in old.handles other n) (unlent 0 [])
          step (Some j) at =
              stored_else inside.words (place_for_one old.pools) (words_made inside role asked.size asked.longest) words put_inside j.pool j.slot
              (handle_is (λ (i : HandleState). (i.pool == place_for_one old.pools) ≡ false) old.handles other n j
              ((places_become_free old (place_for_one old.pools) hub.control.order).nobody (free old node role id asked hub.control.order)).handles at)
              ∙ sym (ap (λ (o : Option HandleState). option_map_or (λ (i : HandleState). stored_in inside.words i.pool i.slot) o (unlent 0 [])) at)
          step None at = sym (ap (λ (o : Option HandleState). option_map_or (λ (i : HandleState). stored_in inside.words i.pool i.slot) o (unlent 0 [])) at)

      pub leaves_messages : LeavesMessages now after_it
      leaves_messages = record { messages = messages_with; calls = calls_with }
