-- For whom a handle is: as the machine says it, and as a hub does.
use Rattle.std.specs.Prelude.{◌≡◌, ℕ, Bool, false, ◌&&◌, List, Option, None, Some, refl}
use Rattle.std.specs.Option.{option_map, option_map_or}
use Rattle.std.proofs.Common.{sym, ap, ap₂, ◌∙◌}
use Rattle.iox_model.specs.declared.kind.Role.TheVariants.{Client}
use Rattle.iox_model.specs.Doings.{Receiver}
use Rattle.iox_model.specs.Handles.{handle_at, own_state}
use Rattle.iox_model.specs.Maps.{has_number}
use Rattle.iox_model.specs.Messages.{names}
use Rattle.iox_model.specs.States as m
use Rattle.iox_laws.proofs.WeaveLaws.MapLemmas.{others_are_all}
use Rattle.iox_tables.specs.HubLoans.Questions.{is_named_by_client}
use Rattle.iox_tables.specs.HubStates.States.{Given, message_of}
use Rattle.iox_tables.specs.HubStates.Tables.{HandleState, HubTables}
use Rattle.iox_tables.specs.HubStates.Wirings.{handle_in}
use Rattle.iox_tables.proofs.HubLoans.Asked.{awaited_are_named}
use Rattle.iox_tables.proofs.HubStates.Fixing.{find_handle}
use Rattle.iox_hub_laws.specs.Hubs.{HubState, given_by, nothing_given}
use Rattle.iox_hub_laws.specs.Shown.{handle_of, shown}
use Rattle.iox_hub_laws.specs.Waiting.{client_in, client_of, server_of}
use Rattle.iceoryx2_ports.specs.Asking.{AnswersAs, is_open_at}
use Rattle.iceoryx2_ports.specs.Idling.{client_on}
use Rattle.iceoryx2_ports.specs.Responses.{answerer_in, asker_in, asker_of, is_open}
use Rattle.iceoryx2_ports.proofs.Opening.{clients_are}

-- the client of a handle's request
abbrev pub asker_by : m.Handle → Receiver
asker_by g = client_on g.client g.lane g.request

-- the same of the port's own request
abbrev pub own_asker : m.Handle → Receiver
own_asker g = client_on g.port g.lane g.request

module _ (h : HubState) (node n : ℕ) where
  abbrev t : HubTables
  t = h.control.tables

  abbrev y : Given
  y = given_by (nothing_given h) h

  found : handle_at (shown h).fixed node n ≡ option_map (handle_of h) (handle_in t.handles node n)
  found = find_handle y (message_of y t.pools) t.handles node n

  pub asker_shown : (g : m.Handle) → handle_at (shown h).fixed node n ≡ Some g → asker_in h node n ≡ asker_by g
  asker_shown g at = sym (step (handle_in t.handles node n)) ∙ ap (λ (o : Option m.Handle). option_map_or asker_by o (server_of n)) (sym found ∙ at)
    where
      step : (o : Option HandleState) → option_map_or asker_by (option_map (handle_of h) o) (server_of n) ≡ option_map_or (asker_of t) o (server_of n)
      step (Some a) = refl
      step None = refl

  pub client_shown : (g : m.Handle) → handle_at (shown h).fixed node n ≡ Some g → client_in h node n ≡ own_asker g
  client_shown g at = sym (step (handle_in t.handles node n)) ∙ ap (λ (o : Option m.Handle). option_map_or own_asker o (server_of n)) (sym found ∙ at)
    where
      step : (o : Option HandleState) → option_map_or own_asker (option_map (handle_of h) o) (server_of n) ≡ option_map_or (client_of t) o (server_of n)
      step (Some a) = refl
      step None = refl

  pub answerer_shown : (g : m.Handle) → handle_at (shown h).fixed node n ≡ Some g → answerer_in h node n ≡ g.port
  answerer_shown g at = sym (step (handle_in t.handles node n)) ∙ ap (λ (o : Option m.Handle). option_map_or (λ (k : m.Handle). k.port) o n) (sym found ∙ at)
    where
      step : (o : Option HandleState)
          → option_map_or (λ (k : m.Handle). k.port) (option_map (handle_of h) o) n ≡ option_map_or (λ (a : HandleState). a.port) o n
      step (Some a) = refl
      step None = refl

  -- whether the handle's request is open, as its client's is
  abbrev open_by : m.Handle → Bool
  open_by g = is_open_at h (asker_by g) g.port

  named_at : (a : HandleState) → is_named_by_client t a false ≡ open_by (handle_of h a)
  named_at a =
      sym (awaited_are_named y t a)
      ∙ ap (λ (ns : List ℕ). has_number a.client ns && names ((shown h).request_state (own_state (handle_of h a))) (handle_of h a).request)
      (others_are_all (shown h).fixed a.node Client refl ∙ clients_are h)

  pub open_shown : (g : m.Handle) → handle_at (shown h).fixed node n ≡ Some g → is_open h node n ≡ is_open_at h (asker_by g) g.port
  open_shown g at = step (handle_in t.handles node n) ∙ ap (λ (o : Option m.Handle). option_map_or open_by o false) (sym found ∙ at)
    where
      step : (o : Option HandleState)
          → option_map_or (λ (a : HandleState). is_named_by_client t a false) o false ≡ option_map_or open_by (option_map (handle_of h) o) false
      step (Some a) = named_at a
      step None = refl

-- ---- handles of the same request

-- the handle is of the same port, and for the same request
pub record IsLike (g k : m.Handle) : Type 0 where
  pub port : k.port ≡ g.port
  pub client : k.client ≡ g.client
  pub lane : k.lane ≡ g.lane
  pub request : k.request ≡ g.request

pub same_asker : (g k : m.Handle) → IsLike g k → asker_by k ≡ asker_by g
same_asker g k like =
    ap (λ (i : ℕ). client_on i k.lane k.request) like.client
    ∙ ap₂ (λ (l r : ℕ). client_on g.client l r) like.lane like.request

pub same_own_asker : (g k : m.Handle) → IsLike g k → own_asker k ≡ own_asker g
same_own_asker g k like =
    ap (λ (i : ℕ). client_on i k.lane k.request) like.port
    ∙ ap₂ (λ (l r : ℕ). client_on g.port l r) like.lane like.request

-- Two such handles are for the same request, if each request is open where it was.
pub answers_as : (old new : HubState) (node n other i : ℕ) (g k : m.Handle) → handle_at (shown old).fixed node n ≡ Some g
    → handle_at (shown new).fixed other i ≡ Some k → IsLike g k
    → ((asker : Receiver) (server : ℕ) → is_open_at new asker server ≡ is_open_at old asker server) → AnswersAs old node n new other i
answers_as old new node n other i g k before after like still = record {
  asker = asker_shown new other i k after ∙ same_asker g k like ∙ sym (asker_shown old node n g before);
  answerer = answerer_shown new other i k after ∙ like.port ∙ sym (answerer_shown old node n g before);
  opened = open_shown new other i k after ∙ still (asker_by k) k.port
      ∙ ap₂ (λ (x : Receiver) (s : ℕ). is_open_at old x s) (same_asker g k like) like.port
      ∙ sym (open_shown old node n g before);
}
