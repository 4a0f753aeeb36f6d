-- Which messages a port keeps, part by part: in the call, in handles, and on ways.
use Rattle.std.specs.Prelude.{map, filter, flat_map, not, ◌||◌, ◌++◌}
use Rattle.std.specs.List.{list_any, list_all}
use Rattle.std.specs.Option.{option_map_or}
use Rattle.std.proofs.Common.{◌≡◌, ℕ, Bool, true, false, if◌then◌else◌, ◌&&◌, ◌==◌, List, [], ◌∷◌, Some, refl, ap, sym, subst, ◌∙◌, eqb-true, inl, inr}
use Rattle.iox_model.specs.declared.kind.Role.TheVariants.{Client, Server}
use Rattle.iox_model.specs.declared.reply.Refusal.TheVariants.{ExceedsMaxActiveRequests}
use Rattle.iox_model.specs.declared.way.Way.{Way}
use Rattle.iox_model.specs.Doings.{Receiver, Sending, Sends, FailsToSend, Receives, Loans, Doing, Ended, Asking, Again, Judging, Stale}
use Rattle.iox_model.specs.Handles.{is_request_loan, is_own}
use Rattle.iox_model.specs.Keeping.{serials_of_loan, under_way}
use Rattle.iox_model.specs.Maps.{has_number, has_way, same_way, AreDistinctWays}
use Rattle.iox_model.specs.Messages.{Message, request_way}
use Rattle.iox_model.specs.Peers.{others, forgot_port}
use Rattle.iox_model.specs.Receives.{took}
use Rattle.iox_model.specs.Requests.{opening, looking, emptying, targets, to_open, sending_of, sends_request, is_active_spent}
use Rattle.iox_model.specs.Responses.{sends, sends_response}
use Rattle.iox_model.specs.Settings.{is_client}
use Rattle.iox_model.specs.States.{Handle, Fixed, State}
use Rattle.iox_laws.proofs.WeaveLaws.MapLemmas.{same_way-refl}
use Rattle.iox_laws.proofs.WeaveLaws.WholeLemmas.{split}
use Rattle.iox_laws.proofs.WeaveLedger.Lists.{IsAmong}
use Rattle.iox_laws.proofs.WeaveLedger.Truths.{or-false}
use Rattle.iox_wire_moments.specs.MomentsOf.{Pools}
use Rattle.iox_wire_locals.specs.declared.table.Entry.{Entry}
use Rattle.iox_wire_locals.specs.declared.table.Recorded.{Recorded}
use Rattle.iox_wire_locals.specs.declared.local.Ending.{Ending}
use Rattle.iox_wire_locals.specs.declared.local.Ending.TheVariants as endings
use Rattle.iox_wire_locals.specs.declared.local.Local.{Local}
use Rattle.iox_wire_locals.specs.declared.local.Local.TheVariants.{Ends, LendStores, SendAsks, SendEmpties, SendLooks, SendOpens, SendPushes, SendEvicts, SendGetsBack, SendEnds, ReceivePops, ReceiveLoads}
use Rattle.iox_wire_locals.specs.Tables.{Setting, handle_of}
use Rattle.iox_wire_locals.specs.NewLoans.{loan_in}
use Rattle.iox_wire_locals.specs.Doings.{doing_of, outcome_of, receiver_in}
use Rattle.iox_wire_laws.specs.WireKeeping.Records.{record_of}
use Rattle.iox_wire_laws.specs.WireKeeping.UsedSlots.{serials_in, slot_of_loan, slots_of_ending, slots_in_call, EndingHolds, CallHolds}

-- ---- in the call

either_is : {A : Type 0} (r : A) (f : Doing → A) (b : Bool) (d e : Doing) → f d ≡ r → f e ≡ r → f (if b then d else e) ≡ r
either_is r f true d e g h = g
either_is r f false d e g h = h

module _ (port : ℕ) where
  abbrev Holds : Handle → Bool → Doing → Type 0
  Holds h copied d = under_way port d ≡ serials_of_loan h copied port

  opens_holds : (x : Sending) (left full : List Way) → Holds x.loan x.copied (opening x left full)
  opens_holds x [] full = refl
  opens_holds x (w ∷ left) full = refl

  looks_holds : (x : Sending) (left full : List Way) → Holds x.loan x.copied (looking x left full)
  looks_holds x [] full = either_is _ (under_way port) (list_any x.fails full) _ (opening x (to_open x) full) refl (opens_holds x (to_open x) full)
  looks_holds x (w ∷ left) full = refl

  empties_holds : (x : Sending) (left : List Way) → Holds x.loan x.copied (emptying x left)
  empties_holds x [] =
      either_is _ (under_way port) x.overflow (opening x (to_open x) []) (looking x (targets x) []) (opens_holds x (to_open x) []) (looks_holds x (targets x) [])
  empties_holds x (w ∷ left) = refl

  sends_holds : (f : Fixed) (h : Handle) (copied : Bool) → Holds h copied (sends f h copied)
  sends_holds f h copied =
      let servers : List ℕ = others f h.node Server in
      either_is (serials_of_loan h copied port) (under_way port) (is_request_loan h.kind) (sends_request f h copied servers) (sends_response f h copied)
      (either_is (serials_of_loan h copied port) (under_way port) (is_active_spent f h) (Ended (FailsToSend h copied ExceedsMaxActiveRequests))
      (emptying (sending_of f h copied servers) (map (request_way h.port) servers)) refl
      (empties_holds (sending_of f h copied servers) (map (request_way h.port) servers)))
      (either_is (serials_of_loan h copied port) (under_way port) (has_number h.client (others f h.node Client)) (Asking (sending_of f h copied (h.client ∷ [])))
      (Ended (Sends h copied 0)) refl refl)

  took_none : (f : Fixed) (node : ℕ) (x : Receiver) (w : Way) (m : Message) (left : List Way) (seen : Bool) → under_way port (took f node x w m left seen) ≡ []
  took_none f node x w m left seen =
      either_is [] (under_way port) (is_client x.role)
      (if m.request == x.request then Ended (Receives x w m) else (if forgot_port f node w.sender then Again x w left seen else Stale x w m left seen))
      (if f.limits.fire_and_forget then Ended (Receives x w m) else Judging x w m left seen)
      (either_is [] (under_way port) (m.request == x.request) (Ended (Receives x w m)) (if forgot_port f node w.sender then Again x w left seen else Stale x w m left seen) refl
      (either_is [] (under_way port) (forgot_port f node w.sender) (Again x w left seen) (Stale x w m left seen) refl refl))
      (either_is [] (under_way port) f.limits.fire_and_forget (Ended (Receives x w m)) (Judging x w m left seen) refl refl)

module _ (p : Setting) (held : Pools) (f : Fixed) (node port : ℕ) where
  -- a loan's serial is the one in its slot
  of_loan : (h : Handle) (made : Bool) (slot : ℕ) → (h.port ≡ port → h.message.serial ≡ (held port slot).serial)
      → serials_of_loan h made port ≡ serials_in held port (slot_of_loan port h.port made slot)
  of_loan h made slot same = by_case (made && (h.port == port)) refl
    where
      by_case : (b : Bool) → (made && (h.port == port)) ≡ b
          → (if b then h.message.serial ∷ [] else []) ≡ serials_in held port (if b then slot ∷ [] else [])
      by_case true e = ap (λ k. k ∷ []) (same (eqb-true h.port port (split made (h.port == port) e).1))
      by_case false e = refl

  of_entry : (e : Entry) (made : Bool) → e.sender ≡ e.port
      → serials_of_loan (handle_of held node e) made port ≡ serials_in held port (slot_of_loan port e.port made e.slot)
  of_entry e made own = of_loan (handle_of held node e) made e.slot (λ at. ap (λ q. (held q e.slot).serial) (own ∙ at))

  of_ending : (ending : Ending) → EndingHolds held ending
      → under_way port (Ended (outcome_of p held node ending)) ≡ serials_in held port (slots_of_ending port ending)
  of_ending (endings.Lends o slot) holds =
      of_loan (loan_in p o) true slot (λ at. sym holds ∙ ap (λ q. (held q slot).serial) at)
  of_ending (endings.Sends e copied count) holds = of_entry e copied holds
  of_ending (endings.FailsToSend e copied r) holds = of_entry e copied holds
  of_ending ending holds = refl

  pub in_call : (local : Local) → CallHolds held local
      → option_map_or (under_way port) (doing_of p f held node local) [] ≡ serials_in held port (slots_in_call port local)
  in_call (Ends ending) holds = of_ending ending holds
  in_call (LendStores o slot next) holds =
      by_case o.copies ∙ of_loan (loan_in p o) true slot (λ at. sym holds ∙ ap (λ q. (held q slot).serial) at)
    where
      by_case : (b : Bool) → under_way port (if b then sends f (loan_in p o) true else Ended (Loans (loan_in p o))) ≡ serials_of_loan (loan_in p o) true port
      by_case true = sends_holds port f (loan_in p o) true
      by_case false = refl
  in_call (SendAsks d) holds = of_entry d.loan d.copied holds
  in_call (SendEmpties d w place left) holds = of_entry d.loan d.copied holds
  in_call (SendLooks d w place left full) holds = of_entry d.loan d.copied holds
  in_call (SendOpens d w left full) holds = of_entry d.loan d.copied holds
  in_call (SendPushes d last w place left count) holds = of_entry d.loan d.copied holds
  in_call (SendEvicts d w place left count) holds = of_entry d.loan d.copied holds
  in_call (SendGetsBack d w place left count) holds = of_entry d.loan d.copied holds
  in_call (SendEnds d last count) holds = of_entry d.loan d.copied holds
  in_call (ReceivePops v w true place left waiting) holds = refl
  in_call (ReceivePops v w false place left waiting) holds = refl
  in_call (ReceiveLoads v w slot header left waiting) holds = took_none port f node (receiver_in v) w (held w.sender slot) (w ∷ left) waiting
  in_call local holds = refl

-- ---- in handles

pub has_both : (k : ℕ) (f : ℕ → ℕ) (xs ys : List ℕ) → has_number k (map f (xs ++ ys)) ≡ (has_number k (map f xs) || has_number k (map f ys))
has_both k f [] ys = refl
has_both k f (x ∷ xs) ys = more (f x == k) (has_number k (map f xs)) (has_number k (map f ys)) (has_both k f xs ys)
  where
    more : (a b c : Bool) {d : Bool} → d ≡ (b || c) → (a || d) ≡ ((a || b) || c)
    more true b c e = refl
    more false b c e = e

module _ (held : Pools) (node port k : ℕ) (e : Entry) (es : List Entry) where
  abbrev handles : List Handle
  handles = filter (λ h. h.port == port) (map (handle_of held node) es)

  abbrev own_here : List Entry
  own_here = filter (λ q. is_own q.kind && (q.port == port)) es

  abbrev Rest : Type 0
  Rest = list_any (λ h. is_own h.kind && (h.message.serial == k)) handles ≡ has_number k (serials_in held port (map (λ q. q.slot) own_here))

  by_kind : (a : Bool) → (e.port == port) ≡ true → (not a || (e.sender == e.port)) ≡ true → Rest
      → ((a && ((held e.sender e.slot).serial == k)) || list_any (λ h. is_own h.kind && (h.message.serial == k)) handles)
      ≡ has_number k (serials_in held port (map (λ q. q.slot) (if a && true then e ∷ own_here else own_here)))
  by_kind true at own q =
      ap (λ n. ((held n e.slot).serial == k) || list_any (λ h. is_own h.kind && (h.message.serial == k)) handles)
      (eqb-true e.sender e.port own ∙ eqb-true e.port port at)
      ∙ ap (λ b. ((held port e.slot).serial == k) || b) q
  by_kind false at own q = q

  by_none : (a : Bool) → Rest
      → list_any (λ h. is_own h.kind && (h.message.serial == k)) handles
      ≡ has_number k (serials_in held port (map (λ q. q.slot) (if a && false then e ∷ own_here else own_here)))
  by_none true q = q
  by_none false q = q

  by_port : (b : Bool) → (e.port == port) ≡ b → (not (is_own e.kind) || (e.sender == e.port)) ≡ true → Rest
      → list_any (λ h. is_own h.kind && (h.message.serial == k)) (if b then handle_of held node e ∷ handles else handles)
      ≡ has_number k (serials_in held port (map (λ q. q.slot) (if is_own e.kind && b then e ∷ own_here else own_here)))
  by_port true at own q = by_kind (is_own e.kind) at own q
  by_port false at own q = by_none (is_own e.kind) q

pub in_handles : (held : Pools) (node port k : ℕ) (table : List Entry)
    → list_all (λ e. not (is_own e.kind) || (e.sender == e.port)) table ≡ true
    → list_any (λ h. is_own h.kind && (h.message.serial == k)) (filter (λ h. h.port == port) (map (handle_of held node) table))
    ≡ has_number k (serials_in held port (map (λ e. e.slot) (filter (λ e. is_own e.kind && (e.port == port)) table)))
in_handles held node port k [] all = refl
in_handles held node port k (e ∷ es) all =
    let r : ((not (is_own e.kind) || (e.sender == e.port)) ≡ true)
    × (list_all (λ e. not (is_own e.kind) || (e.sender == e.port)) es ≡ true) = split _ _ all in
    by_port held node port k e es (e.port == port) refl r.0 (in_handles held node port k es r.1)

-- ---- on ways

-- in records of ways that are apart, each is the record of its way
pub own_record : (r : Recorded) (rs : List Recorded) → IsAmong r rs → AreDistinctWays (map (λ k. k.way) rs) → record_of r.way rs ≡ Some r
own_record r [] among apart = absurd among
own_record r (q ∷ qs) (inl is) apart =
    subst (λ (k : Recorded). (if same_way k.way r.way then Some k else record_of r.way qs) ≡ Some r) is (rw (same_way-refl r.way) refl)
own_record r (q ∷ qs) (inr later) apart = rw (other qs later apart.0) (own_record r qs later apart.1)
  where
    other : (ks : List Recorded) → IsAmong r ks → has_way q.way (map (λ k. k.way) ks) ≡ false → same_way q.way r.way ≡ false
    other [] among none = absurd among
    other (k ∷ ks) (inl is) none = subst (λ (t : Recorded). same_way q.way t.way ≡ false) (sym is) (or-false (same_way q.way k.way) (has_way q.way (map (λ k. k.way) ks)) none).0
    other (k ∷ ks) (inr later) none = other ks later (or-false (same_way q.way k.way) (has_way q.way (map (λ k. k.way) ks)) none).1

pub on_ways : (held : Pools) (s : State) (port k : ℕ) (rs : List Recorded)
    → ((r : Recorded) → IsAmong r rs → s.delivered r.way k ≡ has_number k (serials_in held port r.slots))
    → list_any (λ w. s.delivered w k) (map (λ r. r.way) rs) ≡ has_number k (serials_in held port (flat_map (λ r. r.slots) rs))
on_ways held s port k [] all = refl
on_ways held s port k (r ∷ rs) all =
    ap (λ b. b || list_any (λ w. s.delivered w k) (map (λ q. q.way) rs)) (all r (inl refl))
    ∙ ap (λ b. has_number k (serials_in held port r.slots) || b) (on_ways held s port k rs (λ q among. all q (inr among)))
    ∙ sym (has_both k (λ slot. (held port slot).serial) r.slots (flat_map (λ q. q.slots) rs))
