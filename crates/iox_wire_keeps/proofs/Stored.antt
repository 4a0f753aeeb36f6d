-- What slots hold at first and after deaths, and what that tells the steps of a node.
use Rattle.iox_wire_calls.specs.Ending.TheVariants as endings
use Rattle.iox_wire_calls.specs.Nodes.{NodeStands}
use Rattle.iox_wire_calls.specs.NewLoans.{lane_in, received_length, request_in}
use Rattle.iox_wire_calls.specs.Local.TheVariants.{Ends, Reads, ReceiveAsks, ReceiveLoads}
use Rattle.iox_steps.specs.Accesses.{seen_by}
use Rattle.iox_wire_calls.specs.StoredMessages.{AreFirst, header_in}
use Rattle.std.proofs.Common.{ap, arith, eqb-true, inl, inr, subst, sym, true≢false, ◌∙◌}
use Rattle.iox_wire_keeps.specs.Stored.{CallIsStored, IsWritten, DeathsLeaveSlots, GoesThrough, HoldsStored, IsStored, OpenedSlotsHoldMessages, StoredWordsAreTold}
use Rattle.iox_wire_calls.specs.Visit.{Visit}
use Rattle.iox_wire_calls.proofs.Ranges.{zero_word}
use Rattle.iox_wire_calls.proofs.MessageLists.{all_first, header_count, header_request}
use Rattle.iox_wire_calls.specs.Stored.{header_length, header_words}
use Rattle.iox_wire_calls.specs.Seat.{Seat}
use Rattle.iox_wire_calls.specs.Places.{CallFits, PlaceFits}
use Rattle.std.specs.Prelude.{Bool, List, None, Option, [], false, find, if◌then◌else◌, length, refl, replicate, slice_index, true, ℕ, ◌++◌, ◌+◌, ◌-◌, ◌<◌, ◌==◌, ◌∷◌, ◌≡◌, ◌⊎◌}
use Rattle.iox_model.specs.declared.kind.Role.{Role}
use Rattle.iox_word_map.specs.WordMaps.{IsQueue, IsResponseWay, IsWay, MessageQueue, WireQueue, total_words}
use Rattle.iox_wire_calls.specs.OwnedWords.{Owns}
use Rattle.iox_wire_calls.specs.LoanSlots.{WordsAreTold}
use Rattle.iox_wire_calls.proofs.Received.{no_client, no_server}
use Rattle.iox_wire_calls.specs.Stands.{AreNumbered, OwnersAre, word_of}
use Rattle.iox_model.specs.Peers.{is_counted_on, ports_of_role, role_at}
use Rattle.iox_steps.specs.Fits.{read_of, write_of}
use Rattle.iox_wire_calls.proofs.Deaths.{lived}
use Rattle.iox_wire_calls.specs.EndsTold.{HeaderIsTold}
use Rattle.iox_wire_calls.specs.Following.{LeavesNothing, Leaving, message_at}
use Rattle.iox_model.specs.Maps.{has_number}
use Rattle.iox_model.specs.States.{Fixed, Port}
use Rattle.std.specs.Option.{option_map_or}
use Rattle.iox_wire_calls.proofs.LanesTell.{port_there}
use Rattle.iox_wire_calls.specs.OwnedBegins.{LayoutFits}
use Rattle.iox_model.specs.Settings.{is_client, other_role}
use Rattle.iox_laws.proofs.WeaveLedger.Truths.{false_if, none-some}
use Rattle.iox_model.specs.Joins.{not_living}
use Rattle.iox_wire_calls.specs.SlotsKnown.{HasEntry, PlaceStands}
use Rattle.iox_wire_calls.specs.Programs.{program_access, site_of}
use Rattle.iox_wire_calls.specs.Knowing.{Knows}
use Rattle.iox_wire_calls.specs.MomentsOf.{Pools}
use Rattle.iox_wire_calls.specs.Entry.{Entry}
use Rattle.iox_model.specs.Weaves.{World}
use Rattle.iox_wire_calls.specs.StepLaws.{ReliesOn}
use Rattle.iox_wire_calls.proofs.MessageLoads.{headers_tell_their_messages, reads_find_their_messages}
use Rattle.iox_wire_calls.specs.Shows.{ShowsWorld, programs_of}
use Rattle.iox_wire_calls.specs.StepsTold.{HeaderTells}
use Rattle.iox_wire_calls.specs.Ending.{Ending}
use Rattle.iox_model.specs.Messages.{Message, response_way}
use Rattle.iox_model.specs.declared.way.Way.{Way}
use Rattle.iox_model.specs.declared.kind.Role.TheVariants.{Client, Server}
use Rattle.iox_wire_calls.specs.Fits.{WireContents}
use Rattle.iox_wire_calls.specs.Tables.{Setting}
use Rattle.iox_wire_calls.specs.Local.{Local}
use Rattle.iox_wire_calls.specs.Locals.{program_of}
use Rattle.iox_wire_calls.specs.FarSlots.{IsInPool}

-- ---- as a wire opens

pub opened_slots_hold_messages : OpenedSlotsHoldMessages
opened_slots_hold_messages p held c programs s fits = record {
  waiting = λ y slot way on has. absurd (true≢false (sym has ∙ ap (has_number slot) (none (MessageQueue y) way)));
  nodes = λ n lives. record {
    entries = λ e has low free. none-some e has;
    lengths = λ e has low. none-some e has;
    suits = λ e has low. none-some e has;
    call = tt;
    place = tt;
  };
}
  where
    zero : ℕ → ℕ
    zero place = word_of (replicate (total_words p.layout.sizes) 0) place

    nothing : (xs : List ℕ) (a b : ℕ) → a ≡ 0 → b ≡ 0 → a ≡ b + length xs → xs ≡ []
    nothing [] a b first second is = refl
    nothing (x ∷ xs) a b first second is = absurd (no_room a b (length xs) first second (is ∙ ap (λ k. b + k) (length-cons x xs)))
      where
        length-cons : (y : ℕ) (ys : List ℕ) → length (y ∷ ys) ≡ length ys + 1
        length-cons y ys = omega arith

        no_room : (a b k : ℕ) → a ≡ 0 → b ≡ 0 → a ≡ b + (k + 1) → ⊥
        no_room a b k first second is = omega (arith, first, second, is)

    none : (q : WireQueue) → IsQueue p.layout.sizes q → (c.queues q).waiting ≡ []
    none q there =
        nothing (c.queues q).waiting (write_of (site_of p.layout q) (word_of (replicate (total_words p.layout.sizes) 0)))
        (read_of (site_of p.layout q) (word_of (replicate (total_words p.layout.sizes) 0)))
        (zero_word (total_words p.layout.sizes) _) (zero_word (total_words p.layout.sizes) _) (fits.queues q there).1.ring.counts

-- ---- deaths

pub deaths_leave_slots : DeathsLeaveSlots
deaths_leave_slots p held c seats w u n beat has = record {
  waiting = λ y slot way on. has.waiting y slot way (ap (λ (v : World). is_counted_on v.state.fixed y) (sym beat.1) ∙ on);
  nodes = λ k lives. has.nodes k (lived w u n k beat lives);
}

-- ---- what is told

-- the elements of a message, in its header
pub header_elements : (r : Role) (m : Message) → slice_index (header_words r m) (header_length r - 1) ≡ m.elements
header_elements Client m = refl
header_elements Server m = refl

module _ (p : Setting) (held : Pools) (word : ℕ → ℕ) (c : WireContents) (seats : ℕ → Seat) (w : World) (n : ℕ)
    (shows : ShowsWorld p held word c seats w) (living : not_living w.state n ≡ None) (layout : LayoutFits p w.state.fixed)
    (owners : OwnersAre p w.state.fixed) (numbered : AreNumbered p) (stands : NodeStands p held w.state (seats n)) (fits : CallFits p (seats n))
    (stored : HoldsStored p held c (seats n)) where
  abbrev x : Seat
  x = seats n

  abbrev f : Fixed
  f = w.state.fixed

  knows : Knows p (seats n) w.state.fixed held
  knows = (shows.counts n living).knows

  role_is : (port : ℕ) → has_number port p.layout.sizes.ports ≡ true → role_at w.state.fixed port ≡ (p.port port).role
  role_is port has =
      ap (λ (ports : List Port). option_map_or (λ (q : Port). q.role) (find (λ (q : Port). q.number == port) ports) Client) knows.ports
      ∙ ap (λ (o : Option Port). option_map_or (λ (q : Port). q.role) o Client) (port_there p port p.layout.sizes.ports numbered has)

  -- a request came on a way from a client
  asks : (v : Visit) (y : Way) (lane : ℕ) → IsWay p.layout.sizes y → (p.port y.sender).role ≡ other_role v.role → is_client v.role ≡ false
      → has_number y.sender p.layout.sizes.ports ≡ true → lane < p.layout.sizes.lanes y.sender → IsResponseWay p.layout.sizes (response_way y.sender lane y.receiver)
  asks v y lane (inl way) role server there low = (
    false_if (has_number y.receiver p.layout.sizes.clients) (λ has.
        no_server p w.state.fixed layout y.receiver
        (client_there y.receiver (subst (λ ks. has_number y.receiver ks ≡ true) layout.clients has))
        (subst (λ ks. has_number y.receiver ks ≡ true) layout.servers way.1)),
    way.1,
    way.0,
    low,
  )
    where
      client_there : (port : ℕ) → has_number port (ports_of_role w.state.fixed Client) ≡ true → is_client (role_at w.state.fixed port) ≡ true
      client_there port has = by_role (is_client (role_at w.state.fixed port)) refl
        where
          by_role : (b : Bool) → is_client (role_at w.state.fixed port) ≡ b → b ≡ true
          by_role true is = refl
          by_role false is = absurd (no_client p w.state.fixed layout port is has)
  asks v y lane (inr way) role server there low =
      absurd (no_server p w.state.fixed layout y.sender
      (ap is_client (role_is y.sender there ∙ role) ∙ client_of v.role server) (subst (λ ks. has_number y.sender ks ≡ true) layout.servers way.1))
    where
      client_of : (r : Role) → is_client r ≡ false → is_client (other_role r) ≡ true
      client_of Client is = absurd (true≢false is)
      client_of Server is = refl

  client_is : (r : Role) → is_client r ≡ false → is_client (other_role r) ≡ true
  client_is Client is = absurd (true≢false is)
  client_is Server is = refl

  -- a whole header tells its message
  whole_tells : (v : Visit) (y : Way) (slot : ℕ) (header : List ℕ) → IsStored p held c y.sender slot → IsWay p.layout.sizes y
      → (p.port y.sender).role ≡ other_role v.role → header ≡ header_in p held y.sender slot → HeaderTells p held v y slot header
  whole_tells v y slot header message way role whole = (
    request,
    λ server. (
      lane server,
      subst (λ k. IsResponseWay p.layout.sizes (response_way y.sender k y.receiver)) (sym (lane server))
          (asks v y (held y.sender slot).lane way role server message.fits.region.there (message.addressed.1 (ap is_client role ∙ client_is v.role server))),
    ),
  )
    where
      long : header_length (p.port y.sender).role ≡ received_length v
      long = ap header_length role

      request : request_in v header ≡ (held y.sender slot).request
      request =
          ap (λ xs. slice_index xs (received_length v - 2)) whole ∙ ap (λ k. slice_index (header_in p held y.sender slot) (k - 2)) (sym long)
          ∙ header_request (p.port y.sender).role (held y.sender slot)

      lane_of : (r own : Role) (m : Message) → r ≡ other_role own → is_client own ≡ false → slice_index (header_words r m) 4 ≡ m.lane
      lane_of r Client m is server = absurd (true≢false server)
      lane_of r Server m is server = ap (λ q. slice_index (header_words q m) 4) is

      lane : is_client v.role ≡ false → lane_in v y header ≡ (held y.sender slot).lane
      lane server =
          ap (λ b. if b then y.lane else slice_index header 4) server ∙ ap (λ xs. slice_index xs 4) whole
          ∙ lane_of (p.port y.sender).role v.role (held y.sender slot) role server

  entry_low : (e : Entry) → HasEntry x e → LeavesNothing (message_at x.local) → IsInPool p e.sender e.slot
  entry_low e has nothing = by_part (stands.in_pools e has)
    where
      by_part : IsInPool p e.sender e.slot ⊎ (message_at x.local ≡ Leaving e) → IsInPool p e.sender e.slot
      by_part (inl low) = low
      by_part (inr leaves) = absurd (subst LeavesNothing leaves nothing)

  ended : (ending : Ending) → CallIsStored p held c (message_at (Ends ending)) → GoesThrough p held c (Ends ending) → PlaceStands p w.state.fixed x (Ends ending)
      → HeaderIsTold p held ending
  ended (endings.Receives v y slot header) message whole on =
      λ server. let tells = whole_tells v y slot header message on.way whole.1 whole.0 in ((tells.1 server).0, tells.0, (tells.1 server).1)
  ended ending message whole on = tt

  abbrev seen_at : Local → ℕ
  seen_at local = seen_by (program_access p.layout (program_of p local)) word

  told : (local : Local) → x.local ≡ local → Owns p x.node w.state.fixed w.state.request_state local → PlaceFits p x local → PlaceStands p w.state.fixed x local
      → CallIsStored p held c (message_at local) → GoesThrough p held c local → WordsAreTold p held w.state x (seen_at local) local
  told (ReceiveLoads v y slot header left waiting) is owns place on message through =
      λ whole. whole_tells v y slot (header ++ seen_at (ReceiveLoads v y slot header left waiting) ∷ []) message on.way place.0.1
      (all_first (header ++ seen_at (ReceiveLoads v y slot header left waiting) ∷ []) (header_in p held y.sender slot) more.0
      (eqb-true _ (received_length v) whole ∙ sym (ap header_length place.0.1) ∙ sym (header_count (p.port y.sender).role (held y.sender slot))))
    where
      more : AreFirst (header ++ seen_at (ReceiveLoads v y slot header left waiting) ∷ []) (header_in p held y.sender slot)
          × ReliesOn p x w.state held (ReceiveLoads v y slot header left waiting) (seen_at (ReceiveLoads v y slot header left waiting))
          × ((length (header ++ seen_at (ReceiveLoads v y slot header left waiting) ∷ []) == received_length v) ≡ true → is_client v.role ≡ false
          → lane_in v y (header ++ seen_at (ReceiveLoads v y slot header left waiting) ∷ []) ≡ (held y.sender slot).lane)
      more =
          headers_tell_their_messages p held x w.state v y slot header left waiting word (programs_of p seats) c shows.words message.fits message.words place.0.1
          owns.2 through
  told (ReceiveAsks v y slot header left waiting) is owns place on message through =
      (whole_tells v y slot header message on.way place.2.0.1 through).0
  told (Reads e words) is owns place on message through =
      let low : IsInPool p e.sender e.slot = entry_low e on (subst (λ l. LeavesNothing (message_at l)) (sym is) tt) in
      let own : IsStored p held c e.sender e.slot = stored.entries e on low (subst (λ l. IsWritten l e → ⊥) (sym is) (λ none. none)) in
      (reads_find_their_messages p held x w.state e words word (programs_of p seats) c shows.words own.fits own.words (stored.lengths e on low) owns through).1
  told (Ends ending) is owns place on message through = ended ending message through on
  told local is owns place on message through = tt

pub stored_words_are_told : StoredWordsAreTold
stored_words_are_told p held word c seats w n shows living layout owners numbered stands fits stored =
    told p held word c seats w n shows living layout owners numbered stands fits stored (seats n).local refl stands.owns.owns fits.place stands.names.place stored.call
    stored.place
