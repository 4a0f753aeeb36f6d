-- What a node reads of its handle's message is what the words of its pool say.
use Rattle.std.specs.Prelude.{◌≡◌, ℕ, zero, suc, ◌<◌, ◌≤◌, Bool, true, false, ◌&&◌, if◌then◌else◌, ◌==◌, List, [], ◌∷◌, ◌++◌, length, Option, Some, None, slice_get, refl}
use Rattle.std.specs.Option.{option_map_or}
use Rattle.std.proofs.Common.{sym, ap, subst, ◌∙◌, arith, true≢false}
use Rattle.std.proofs.lemmas.Option.{none-some, same_Some}
use Rattle.iox_store.specs.Stored.{Contents, StoredMessage, stored_at, unlent}
use Rattle.iox_model.specs.declared.call.Call.TheVariants.{Read}
use Rattle.iox_model.specs.declared.kind.Kind.{Kind}
use Rattle.iox_model.specs.declared.kind.Kind.TheVariants as kinds
use Rattle.iox_model.specs.declared.kind.Role.{Role}
use Rattle.iox_model.specs.declared.kind.Role.TheVariants.{Client, Server}
use Rattle.iox_model.specs.declared.reply.Reply.TheVariants.{Words}
use Rattle.iox_model.specs.Names.{suits}
use Rattle.iox_model.specs.States as m
use Rattle.iox_model.specs.WholeCalls.{IsWholeCall}
use Rattle.iox_laws.proofs.CallFunctions.Holding.{each_read_is_whole}
use Rattle.iox_laws.proofs.CallFunctions.Leads.{ample}
use Rattle.iox_tables.specs.HubStates.States.{Given, state_shown}
use Rattle.iox_tables.specs.HubStates.Tables.{HandleState, HubTables, PortState, SlotState, no_slot, port_in, slots_of}
use Rattle.iox_tables.specs.HubStates.Wirings.{handle_in}
use Rattle.iox_tables.proofs.HubLoans.Asked.{each_is_read}
use Rattle.iox_tables.specs.HubLoans.Questions.{kind_by, kind_of_role}
use Rattle.iox_tables.specs.HubBooks.Hubs.{IsUsed}
use Rattle.iox_tables.proofs.HubBooks.Used.{handle_is, used_by_handle}
use Rattle.iox_control.proofs.WholeLemmas.{is_whole_of}
use Rattle.iox_handles.specs.declared.entry.Entry.{Entry}
use Rattle.iox_control.specs.Entries.{handle_state}
use Rattle.iox_hub.specs.Fits.{SuitsHandle, are_requests_in, carried_in, count_in, comes_with_request}
use Rattle.iox_hub.specs.Hubs.{HubState, IsHub, given_by, many_in, state_of_hub}
use Rattle.iox_hub.specs.Reads.{HasOf, has_request, has_response, message_in}
use Rattle.iox_hub.specs.Words.{Carried, stored_in}
use Rattle.iox_hub.proofs.Named.{found_is_handle}

-- ---- kinds

pub of_request : (k : Kind) → has_request k ≡ true → comes_with_request k ≡ true
of_request kinds.RequestMut e = refl
of_request kinds.PendingResponse e = refl
of_request kinds.ActiveRequest e = refl
of_request kinds.Client e = absurd (true≢false (sym e))
of_request kinds.Server e = absurd (true≢false (sym e))
of_request kinds.RequestMutUninit e = absurd (true≢false (sym e))
of_request kinds.ResponseMutUninit e = absurd (true≢false (sym e))
of_request kinds.ResponseMut e = absurd (true≢false (sym e))
of_request kinds.Response e = absurd (true≢false (sym e))

pub of_response : (k : Kind) → has_response k ≡ true → comes_with_request k ≡ false
of_response kinds.ResponseMut e = refl
of_response kinds.Response e = refl
of_response kinds.Client e = refl
of_response kinds.Server e = refl
of_response kinds.ResponseMutUninit e = refl
of_response kinds.RequestMut e = absurd (true≢false (sym e))
of_response kinds.PendingResponse e = absurd (true≢false (sym e))
of_response kinds.ActiveRequest e = absurd (true≢false (sym e))
of_response kinds.RequestMutUninit e = absurd (true≢false (sym e))

-- What such a test passes are handles that may be read.
pub record ArePassed (test : Kind → Bool) : Type 0 where
  pub ports : (r : Role) → test (kind_of_role r) ≡ false
  pub read : (k : Kind) (n : ℕ) → test k ≡ true → suits false (Read n) k ≡ true

pub requests_pass : ArePassed has_request
requests_pass = record { ports = ports; read = read }
  where
    ports : (r : Role) → has_request (kind_of_role r) ≡ false
    ports Client = refl
    ports Server = refl

    read : (k : Kind) (n : ℕ) → has_request k ≡ true → suits false (Read n) k ≡ true
    read kinds.RequestMut n e = refl
    read kinds.PendingResponse n e = refl
    read kinds.ActiveRequest n e = refl
    read kinds.Client n e = absurd (true≢false (sym e))
    read kinds.Server n e = absurd (true≢false (sym e))
    read kinds.RequestMutUninit n e = absurd (true≢false (sym e))
    read kinds.ResponseMutUninit n e = absurd (true≢false (sym e))
    read kinds.ResponseMut n e = refl
    read kinds.Response n e = refl

pub responses_pass : ArePassed has_response
responses_pass = record { ports = ports; read = read }
  where
    ports : (r : Role) → has_response (kind_of_role r) ≡ false
    ports Client = refl
    ports Server = refl

    read : (k : Kind) (n : ℕ) → has_response k ≡ true → suits false (Read n) k ≡ true
    read kinds.ResponseMut n e = refl
    read kinds.Response n e = refl
    read kinds.RequestMut n e = refl
    read kinds.PendingResponse n e = refl
    read kinds.ActiveRequest n e = refl
    read kinds.Client n e = absurd (true≢false (sym e))
    read kinds.Server n e = absurd (true≢false (sym e))
    read kinds.RequestMutUninit n e = absurd (true≢false (sym e))
    read kinds.ResponseMutUninit n e = absurd (true≢false (sym e))

-- ---- words

-- what a slot of a pool carries that has words
pub stored_is : (words : List (Option Carried)) (pool k : ℕ) (b : Bool) (c : Contents) → carried_in words pool ≡ Some (record { requests = b; contents = c })
    → stored_in words pool k ≡ stored_at c k
stored_is words pool k b c is = step (slice_get words pool) is
  where
    step : (o : Option (Option Carried)) → option_map_or (λ q. q) o None ≡ Some (record { requests = b; contents = c })
        → option_map_or (λ q. option_map_or (λ d. stored_at d.contents k) q (unlent 0 [])) o (unlent 0 []) ≡ stored_at c k
    step (Some q) e = ap (λ p. option_map_or (λ d. stored_at d.contents k) p (unlent 0 [])) e
    step None e = absurd (none-some _ e)

pub has_slot : (words : List (Option Carried)) (pool k : ℕ) (b : Bool) (c : Contents) → carried_in words pool ≡ Some (record { requests = b; contents = c })
    → k < count_in words pool → k < length c.messages
has_slot words pool k b c is low = subst (λ o. k < option_map_or (λ (d : Carried). length d.contents.messages) o 0) is low

-- a slot that somebody has is one of its pool
pub low_if_used : (t : HubTables) (pool k : ℕ) → IsUsed t pool k → k < length (slots_of t.pools pool)
low_if_used t pool k used = step (slots_of t.pools pool) k used
  where
    step : (ss : List SlotState) (i : ℕ) → 1 ≤ (option_map_or (λ (s : SlotState). s) (slice_get ss i) no_slot).holders → i < length ss
    step [] i u = absurd (omega (arith, u))
    step (s ∷ ss) zero u = omega arith
    step (s ∷ ss) (suc i) u = let rest = step ss i u in omega (arith, rest)

-- ---- the handle

-- The number names a handle of the node that may be read, and whose kind passes.
record IsRead (test : Kind → Bool) (h : HubState) (node n : ℕ) : Type 0 where
  pub handle : HandleState
  pub there : handle_in h.control.tables.handles node n ≡ Some handle
  pub passes : test handle.kind ≡ true

module _ (test : Kind → Bool) (pass : ArePassed test) {h : HubState} (hub : IsHub h) (now : HubState) (is : h ≡ now) (node n : ℕ) (has : HasOf test now node n) where
  abbrev t : HubTables
  t = h.control.tables

  named : IsRead test h node n
  named = step (port_in t.ports n) (handle_in t.handles node n) refl (subst (λ (d : HubState). HasOf test d node n) (sym is) has)
    where
      held : (p : PortState) (a : Bool) → option_map_or test (if a then Some (kind_of_role p.role) else None) false ≡ true → ⊥
      held p true f = true≢false (sym f ∙ pass.ports p.role)
      held p false f = true≢false (sym f)

      step : (o : Option PortState) (q : Option HandleState) → handle_in t.handles node n ≡ q → option_map_or test (kind_by node o q) false ≡ true → IsRead test h node n
      step (Some p) q at f = absurd (held p (p.held && (p.node == node)) f)
      step None (Some k) at f = record { handle = k; there = at; passes = f }
      step None None at f = absurd (true≢false (sym f))

  pub has_handle : (k : HandleState) × (handle_in now.control.tables.handles node n ≡ Some k)
  has_handle = (named.handle, subst (λ (d : HubState). handle_in d.control.tables.handles node n ≡ Some named.handle) is named.there)

  module _ (e : Entry) (found : handle_in now.control.tables.handles node n ≡ Some (handle_state e)) where
    at : handle_in t.handles node n ≡ Some (handle_state e)
    at = subst (λ (d : HubState). handle_in d.control.tables.handles node n ≡ Some (handle_state e)) (sym is) found

    pub passing : test e.kind ≡ true
    passing = subst (λ (k : HandleState). test k.kind ≡ true) (same_Some named.handle (handle_state e) (sym named.there ∙ at)) named.passes

    pub suits_kind : are_requests_in h.words e.pool ≡ comes_with_request e.kind
    suits_kind = (handle_is (SuitsHandle (many_in h) h.words) t.handles node n (handle_state e) hub.words.handles at).kind

    pub has_words : e.slot < count_in h.words e.pool
    has_words =
        let low = low_if_used t e.pool e.slot (used_by_handle t hub.control.order node n (handle_state e) at) in
        let more = hub.words.pools e.pool in omega (arith, low, more)

    -- what the message carries is what its slot does
    pub message_is : (b : Bool) (c : Contents) → carried_in h.words e.pool ≡ Some (record { requests = b; contents = c }) → message_in h node n ≡ stored_at c e.slot
    message_is b c carried =
        ap (λ o. option_map_or (λ (k : HandleState). stored_in h.words k.pool k.slot) o (unlent 0 [])) at
        ∙ stored_is h.words e.pool e.slot b c carried

    -- and that is read
    pub is_read : (x : Given) → IsWholeCall (state_of_hub x h) node (Read n) (Words ((message_in h node n).user ++ (message_in h node n).payload)) (state_of_hub x h)
    is_read x =
        let y : Given = given_by x h in
        let s : m.State = state_shown y t in
        let same : message_in h node n ≡ stored_in h.words e.pool e.slot = ap (λ o. option_map_or (λ (k : HandleState). stored_in h.words k.pool k.slot) o (unlent 0 [])) at in
        subst (λ (z : StoredMessage). IsWholeCall s node (Read n) (Words (z.user ++ z.payload)) s) (sym same)
        (is_whole_of s node (Read n) _ (Words ((stored_in h.words e.pool e.slot).user ++ (stored_in h.words e.pool e.slot).payload)) s
        (each_read_is_whole s node n ample (refl, refl))
        ((each_is_read y t node n (handle_state e) (found_is_handle t hub.control.order node n (handle_state e) at) (pass.read e.kind n passing)).told ample [] refl))

    module _ (b : Bool) (c : Contents) (carried : carried_in h.words e.pool ≡ Some (record { requests = b; contents = c })) (words : List ℕ) where
      pub is_read_as_payload : words ≡ (stored_at c e.slot).payload → (x : Given)
          → IsWholeCall (state_of_hub x h) node (Read n) (Words ((message_in h node n).user ++ words)) (state_of_hub x h)
      is_read_as_payload same x =
          subst (λ ws. IsWholeCall (state_of_hub x h) node (Read n) (Words ((message_in h node n).user ++ ws)) (state_of_hub x h))
          (ap (λ (z : StoredMessage). z.payload) (message_is b c carried) ∙ sym same) (is_read x)

      pub is_read_as_user : words ≡ (stored_at c e.slot).user → (x : Given)
          → IsWholeCall (state_of_hub x h) node (Read n) (Words (words ++ (message_in h node n).payload)) (state_of_hub x h)
      is_read_as_user same x =
          subst (λ us. IsWholeCall (state_of_hub x h) node (Read n) (Words (us ++ (message_in h node n).payload)) (state_of_hub x h))
          (ap (λ (z : StoredMessage). z.user) (message_is b c carried) ∙ sym same) (is_read x)

-- ---- the same list

-- where a slot has words, there is one
pub some_there : (words : List (Option Carried)) (pool k : ℕ) → k < count_in words pool → 0 < count_in words pool
some_there words pool k low = some (count_in words pool) low
  where
    some : (n : ℕ) → k < n → 0 < n
    some n less = omega (arith, less)
