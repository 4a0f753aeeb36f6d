-- What a filling leaves to receivers and to requests: all is as it was, but for the loan.
use Rattle.std.specs.Prelude.{◌≡◌, ℕ, Bool, true, false, ◌&&◌, List, Some, refl}
use Rattle.std.specs.Option.{option_map}
use Rattle.std.proofs.Common.{sym, ap, ap₂, subst, ◌∙◌, true≢false}
use Rattle.std.proofs.lemmas.Option.{same_Some}
use Rattle.iox_store.specs.Stored.{StoredMessage}
use Rattle.iox_model.specs.declared.kind.Kind.{Kind}
use Rattle.iox_model.specs.declared.kind.Kind.TheVariants.{ActiveRequest, PendingResponse}
use Rattle.iox_model.specs.declared.way.RequestState.{RequestState}
use Rattle.iox_model.specs.Counts.{changed, with_fixed}
use Rattle.iox_model.specs.Handles.{handle_at}
use Rattle.iox_model.specs.Maps.{has_number}
use Rattle.iox_model.specs.Messages.{names, response_way}
use Rattle.iox_model.specs.Names.{is_port}
use Rattle.iox_model.specs.States.{Handle, State}
use Rattle.iox_model.specs.Values.{Filling, IsFilling, filled_as}
use Rattle.iox_tables.specs.HubBooks.Handles.{is_loan}
use Rattle.iox_tables.specs.HubLoans.Questions.{kind_in}
use Rattle.iox_tables.specs.HubStates.Receives.{way_to}
use Rattle.iox_tables.specs.HubStates.States.{message_of}
use Rattle.iox_tables.specs.HubStates.Tables.{HubTables}
use Rattle.iox_tables.proofs.HubStates.Fixing.{find_handle}
use Rattle.iox_tables.proofs.HubStates.Naming.{handle_node, handle_number}
use Rattle.iox_hub_laws.specs.Fillings.{FillsLoan, filling_of}
use Rattle.iox_hub_laws.specs.Fills.{kind_after}
use Rattle.iox_hub_laws.specs.Hubs.{HasValue, HubState, given_by, nothing_given}
use Rattle.iox_hub_laws.specs.Keeping.{IsOther}
use Rattle.iox_hub_laws.specs.Sends.{NothingComes}
use Rattle.iox_hub_laws.specs.Shown.{handle_of, shown}
use Rattle.iox_hub_laws.specs.Waiting.{client_in}
use Rattle.iox_hub_laws.proofs.Values.{IsHandleOf, value_is_handle}
use Rattle.iceoryx2_ports.specs.Asking.{AnswersAs, AsksAs, KeepsOpen}
use Rattle.iceoryx2_ports.specs.Idling.{IsIdle}
use Rattle.iceoryx2_ports.specs.Keeping.{KeepsAsking}
use Rattle.iceoryx2_ports.specs.Opens.{KeepsRequests}
use Rattle.iceoryx2_ports.specs.Reaching.{KeepsRoom}
use Rattle.iceoryx2_ports.proofs.Asking.{IsLike, answers_as, client_shown, same_own_asker}
use Rattle.iceoryx2_ports.proofs.Filled.{put_own}
use Rattle.iceoryx2_ports.proofs.Opening.{same_clients}
use Rattle.iceoryx2_ports.proofs.Others.{IsAt, changed_there}
use Rattle.iceoryx2_ports.proofs.Reaching.{room_stays}
use Rattle.iceoryx2_ports.proofs.Remaining.{by_handles}
use Rattle.iceoryx2_ports.proofs.Resting.{RestsSo}

module _ (old new : HubState) (node n : ℕ) (all : Bool) (z : StoredMessage) (fills : FillsLoan old node n all z new)
    (kind : Kind) (no_port : is_port kind ≡ false) (of_loan : is_loan kind ≡ true) (has : HasValue old node n kind) where
  abbrev t : HubTables
  t = old.control.tables

  abbrev w : Filling
  w = filling_of (kind_after all kind) z

  loan : IsHandleOf t node n kind
  loan = value_is_handle t node n kind no_port has

  -- the loan, and what becomes of it
  abbrev g : Handle
  g = handle_of old loan.handle

  abbrev k : Handle
  k = filled_as g w

  handle_found : (a i : ℕ) (other : Kind) (is : IsHandleOf t a i other) → handle_at (shown old).fixed a i ≡ Some (handle_of old is.handle)
  handle_found a i other is =
      find_handle (given_by (nothing_given old) old) (message_of (given_by (nothing_given old) old) t.pools) t.handles a i
      ∙ ap (option_map (handle_of old)) is.named.there

  here : handle_at (shown old).fixed node n ≡ Some g
  here = handle_found node n kind loan

  is_at : IsAt node n k
  is_at = (handle_node t.handles node n loan.handle loan.named.there, handle_number t.handles node n loan.handle loan.named.there)

  filling : IsFilling (shown old) node n w (shown new)
  filling = fills.filling (nothing_given old) kind has

  now : shown new ≡ with_fixed (shown old) (changed (shown old).fixed k)
  now =
      filling.3
      ∙ ap (λ (h : Handle). with_fixed (shown old) (changed (shown old).fixed (filled_as h w))) (same_Some filling.0 g (sym filling.1 ∙ here))

  -- ---- receivers

  rests : RestsSo (shown old) (shown new)
  rests =
      subst (RestsSo (shown old)) (sym now)
      (record { fixed = record { limits = refl; ports = refl; borrowed = refl }; waiting = λ y. refl })

  pub filled_comes : NothingComes old new
  filled_comes x none = record { empty = λ sender. rests.waiting (way_to x sender) ∙ none.empty sender }

  pub filled_room : KeepsRoom old new
  filled_room = room_stays old new rests

  -- ---- requests

  opened : KeepsOpen old new
  opened asker server =
      ap₂ (λ (ns : List ℕ) (q : RequestState). has_number asker.port ns && names q asker.request) (same_clients old new rests.fixed.ports)
      (ap (λ (s : State). s.request_state (response_way asker.port asker.lane server)) now)

  there : handle_at (shown new).fixed node n ≡ Some k
  there = ap (λ (s : State). handle_at s.fixed node n) now ∙ put_own (shown old).fixed.handles k node n g is_at.0 is_at.1 here

  like : IsLike g k
  like = record { port = refl; client = refl; lane = refl; request = refl }

  -- a loaned response is for the same request
  pub filled_answers_as : AnswersAs old node n new node n
  filled_answers_as = answers_as old new node n node n g k here there like opened

  -- so is a loaned request
  pub filled_asks_as : AsksAs old node n new node n
  filled_asks_as =
      let who : client_in new node n ≡ client_in old node n
      = client_shown new node n k there ∙ same_own_asker g k like ∙ sym (client_shown old node n g here) in
      record {
        asker = who;
        idle = λ idle.
            subst (IsIdle new) (sym who)
            (record { none = filled_comes (client_in old node n) idle.none; room = filled_room (client_in old node n) idle.room });
      }

  -- ---- other values

  apart : (other : Kind) → (kind ≡ other → ⊥) → (a i : ℕ) → HasValue old a i other → IsOther node n a i
  apart other differs a i is =
      λ same equal. differs (same_Some kind other (sym has ∙ sym (ap₂ (λ (b j : ℕ). kind_in t b j) same equal) ∙ is))

  stays : (a i : ℕ) → IsOther node n a i → handle_at (shown new).fixed a i ≡ handle_at (shown old).fixed a i
  stays a i aside = ap (λ (s : State). handle_at s.fixed a i) now ∙ changed_there node n a i aside (shown old).fixed k is_at

  pub filled_requests : KeepsRequests old new
  filled_requests =
      by_handles old new opened
      (λ a i h is found. stays a i (apart ActiveRequest (λ same. true≢false (sym of_loan ∙ ap is_loan same)) a i is) ∙ found)

  pub filled_asks : KeepsAsking old new
  filled_asks a i is =
      let it : IsHandleOf t a i PendingResponse = value_is_handle t a i PendingResponse refl is in
      let h : Handle = handle_of old it.handle in
      let found : handle_at (shown old).fixed a i ≡ Some h = handle_found a i PendingResponse it in
      client_shown new a i h (stays a i (apart PendingResponse (λ same. true≢false (sym of_loan ∙ ap is_loan same)) a i is) ∙ found)
      ∙ sym (client_shown old a i h found)
