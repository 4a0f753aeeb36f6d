-- Place by place: of what is fixed only the node's own part counts.
use Rattle.std.specs.Prelude.{map, nat_le}
use Rattle.std.proofs.Common.{◌≡◌, ℕ, Bool, true, false, if◌then◌else◌, ◌==◌, List, [], ◌∷◌, Some, refl, ap, sym, subst, ◌∙◌}
use Rattle.iox_model.specs.declared.kind.Kind.TheVariants.{PendingResponse}
use Rattle.iox_model.specs.declared.kind.Role.{Role}
use Rattle.iox_model.specs.declared.kind.Role.TheVariants.{Client, Server}
use Rattle.iox_model.specs.declared.reply.Refusal.TheVariants.{ExceedsMaxActiveRequests}
use Rattle.iox_model.specs.declared.way.Way.{Way}
use Rattle.iox_model.specs.Doings.{Receiver, Sending, Sends, FailsToSend, Receives, Doing, Ended, Loans, Asking, Emptying, Looking, Opening, Delivering, Evicted, Again, Judging, Stale}
use Rattle.iox_model.specs.Handles.{is_request_loan, same_kind, count_of}
use Rattle.iox_model.specs.Maps.{has_number}
use Rattle.iox_model.specs.Messages.{Message, request_way}
use Rattle.iox_model.specs.Peers.{node_of_port, others, forgot_port, role_at}
use Rattle.iox_model.specs.Receives.{took}
use Rattle.iox_model.specs.Requests.{sending_of, emptying, is_active_spent, fails_at}
use Rattle.iox_model.specs.Responses.{sends}
use Rattle.iox_model.specs.Settings.{is_client, overflow_of, Limits}
use Rattle.iox_model.specs.States.{Handle, Fixed}
use Rattle.iox_wire_moments.specs.MomentsOf.{Pools}
use Rattle.iox_wire_locals.specs.declared.table.NewLoan.{NewLoan}
use Rattle.iox_wire_locals.specs.declared.local.Local.{Local}
use Rattle.iox_wire_locals.specs.declared.local.Local.TheVariants.{LendStores, SendAsks, SendEmpties, SendLooks, SendOpens, SendPushes, SendEvicts, SendGetsBack, SendEnds, ReceiveLoads}
use Rattle.iox_wire_locals.specs.declared.seat.Seat.{Seat}
use Rattle.iox_wire_locals.specs.Tables.{Setting}
use Rattle.iox_wire_locals.specs.NewLoans.{loan_in}
use Rattle.iox_wire_locals.specs.Known.{known}
use Rattle.iox_wire_locals.specs.Doings.{doing_of, receiver_in}
use Rattle.iox_wire_locals.specs.Knowing.{Knows}
use Rattle.iox_wire_locals.proofs.KnowingLemmas.{others_known, forgot_known, role_known, fails_known, count_known}
use Rattle.iox_wire_laws.specs.WireKeeping.OwnLaws.{LendsByOwn, PlacesAreKnown}

-- a send's begin, by its tests, its receivers and the send to some of them
abbrev sends_by : Handle → Bool → Bool → (servers clients : List ℕ) → (List ℕ → Sending) → Doing
sends_by h copied spent servers clients send =
    if is_request_loan h.kind
    then (if spent then Ended (FailsToSend h copied ExceedsMaxActiveRequests) else emptying (send servers) (map (request_way h.port) servers))
    else (if has_number h.client clients then Asking (send (h.client ∷ [])) else Ended (Sends h copied 0))

-- what follows a take, by whether it fits and whether its sender is forgotten
abbrev took_by : Receiver → Way → Message → List Way → Bool → (at_once gone : Bool) → Doing
took_by r w m left waiting at_once gone =
    if is_client r.role
    then (if m.request == r.request then Ended (Receives r w m) else (if gone then Again r w left waiting else Stale r w m left waiting))
    else (if at_once then Ended (Receives r w m) else Judging r w m left waiting)

module _ (p : Setting) (x : Seat) (f g : Fixed) (held : Pools) (k : Knows p x f held) (l : Knows p x g held) where
  send_same : (h : Handle) (copied : Bool) (to : List ℕ) → sending_of f h copied to ≡ sending_of g h copied to
  send_same h copied to = λ i. record { loan = h; copied = copied; to = to; overflow = over i; fails = λ w. fails w i }
    where
      over : overflow_of f.limits (role_at f h.port) ≡ overflow_of g.limits (role_at g h.port)
      over =
          ap (λ m. overflow_of m (role_at f h.port)) (k.limits ∙ sym l.limits)
          ∙ ap (overflow_of g.limits) (role_known p x f held k h.port ∙ sym (role_known p x g held l h.port))

      fails : (w : Way) → fails_at f w ≡ fails_at g w
      fails w = fails_known p x f held k w ∙ sym (fails_known p x g held l w)

  took_same : (r : Receiver) (w : Way) (m : Message) (left : List Way) (waiting : Bool)
      → took f x.node r w m left waiting ≡ took g x.node r w m left waiting
  took_same r w m left waiting =
      ap (λ b. took_by r w m left waiting b (forgot_port f x.node w.sender)) (ap (λ (limits : Limits). limits.fire_and_forget) (k.limits ∙ sym l.limits))
      ∙ ap (took_by r w m left waiting g.limits.fire_and_forget) (forgot_known p x f held k w.sender ∙ sym (forgot_known p x g held l w.sender))

  module _ (h : Handle) (copied : Bool) (of_node : node_of_port (known p x) h.port ≡ x.node) (mine : h.node ≡ x.node) where
    at_node : (e : Fixed) → Knows p x e held → node_of_port e h.port ≡ x.node
    at_node e q = subst (λ ports. node_of_port (record e { ports = ports }) h.port ≡ x.node) (sym q.ports) of_node

    spent : is_active_spent f h ≡ is_active_spent g h
    spent =
        ap (λ (limits : Limits). nat_le limits.active_requests (count_of f h.port (λ kind. same_kind kind PendingResponse))) (k.limits ∙ sym l.limits)
        ∙ ap (nat_le g.limits.active_requests) (count_known p x f held k h.port (λ kind. same_kind kind PendingResponse) (at_node f k)
        ∙ sym (count_known p x g held l h.port (λ kind. same_kind kind PendingResponse) (at_node g l)))

    others_same : (role : Role) → others f h.node role ≡ others g h.node role
    others_same role =
        subst (λ n. others f n role ≡ others g n role) (sym mine) (others_known p x f held k role ∙ sym (others_known p x g held l role))

    sends_same : sends f h copied ≡ sends g h copied
    sends_same =
        ap (λ b. sends_by h copied b (others f h.node Server) (others f h.node Client) (sending_of f h copied)) spent
        ∙ ap (λ to. sends_by h copied (is_active_spent g h) to (others f h.node Client) (sending_of f h copied)) (others_same Server)
        ∙ ap (λ to. sends_by h copied (is_active_spent g h) (others g h.node Server) to (sending_of f h copied)) (others_same Client)
        ∙ ap (sends_by h copied (is_active_spent g h) (others g h.node Server) (others g h.node Client)) (λ i to. send_same h copied to i)

  stored : (o : NewLoan) (b : Bool) → o.copies ≡ b → LendsByOwn p x (LendStores o 0 0)
      → (if b then sends f (loan_in p o) true else Ended (Loans (loan_in p o)))
      ≡ (if b then sends g (loan_in p o) true else Ended (Loans (loan_in p o)))
  stored o true is own = let r = own is in sends_same (loan_in p o) true r.0 r.1
  stored o false is own = refl

  pub place_known : (local : Local) → LendsByOwn p x local → doing_of p f held x.node local ≡ doing_of p g held x.node local
  place_known (LendStores o slot next) own = ap Some (stored o o.copies refl own)
  place_known (SendAsks d) own = ap (λ y. Some (Asking y)) (send_same _ d.copied d.to)
  place_known (SendEmpties d w place left) own = ap (λ y. Some (Emptying y (w ∷ left))) (send_same _ d.copied d.to)
  place_known (SendLooks d w place left full) own = ap (λ y. Some (Looking y (w ∷ left) full)) (send_same _ d.copied d.to)
  place_known (SendOpens d w left full) own = ap (λ y. Some (Opening y (w ∷ left) full)) (send_same _ d.copied d.to)
  place_known (SendPushes d last w place left count) own = ap (λ y. Some (Delivering y last (w ∷ left) count)) (send_same _ d.copied d.to)
  place_known (SendEvicts d w place left count) own = ap (λ y. Some (Delivering y (Some w) left count)) (send_same _ d.copied d.to)
  place_known (SendGetsBack d w place left count) own = ap (λ y. Some (Evicted y w left count)) (send_same _ d.copied d.to)
  place_known (SendEnds d last count) own = ap (λ y. Some (Delivering y last [] count)) (send_same _ d.copied d.to)
  place_known (ReceiveLoads v w slot header left waiting) own =
      ap Some (took_same (receiver_in v) w (held w.sender slot) (w ∷ left) waiting)
  place_known local own = refl

pub places_are_known : PlacesAreKnown
places_are_known p x f g held k l own = place_known p x f g held k l x.local own
