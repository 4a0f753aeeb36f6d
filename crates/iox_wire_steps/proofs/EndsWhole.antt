-- The end of a call: words, all nodes and the machine stand again.
use Rattle.std.specs.Prelude.{◌⊎◌}
use Rattle.std.proofs.Common.{◌≡◌, ℕ, ◌+◌, Bool, true, false, if◌then◌else◌, ◌==◌, List, Option, Some, None, refl, ap, sym, subst, ◌∙◌, inl, inr, eq-eqb, eqb-true, true≢false}
use Rattle.iox_model.specs.declared.way.Way.{Way}
use Rattle.iox_model.specs.Doings.{Outcome}
use Rattle.iox_model.specs.Joins.{not_living}
use Rattle.iox_model.specs.Maps.{put_at}
use Rattle.iox_model.specs.Messages.{Message}
use Rattle.iox_model.specs.Peers.{borrow_limit_on, buffer_on, is_counted_on, node_of_port, role_at}
use Rattle.iox_model.specs.Settings.{borrow_limit_of, buffer_of, other_role}
use Rattle.iox_model.specs.States.{Port, State}
use Rattle.iox_model.specs.Weaves.{Ends, IsBeat, World, over}
use Rattle.iox_model.specs.WholeCalls.{MayHold}
use Rattle.iox_laws.proofs.WeaveLaws.DeathLaws.{settled-members}
use Rattle.iox_laws.proofs.WeaveLaws.WholeLemmas.{not_living-members}
use Rattle.iox_laws.proofs.WeaveLedger.Truths.{none-some}
use Rattle.iox_word_map.specs.WordMaps.{IsWay, ReturningQueue}
use Rattle.iox_wire_words.specs.Fits.{WireContents}
use Rattle.iox_wire_moments.specs.MomentsOf.{Pools}
use Rattle.iox_wire_locals.specs.declared.local.Ending.{Ending}
use Rattle.iox_wire_locals.specs.declared.local.Ending.TheVariants as endings
use Rattle.iox_wire_locals.specs.declared.local.Local.{Local}
use Rattle.iox_wire_locals.specs.declared.local.Local.TheVariants as locals
use Rattle.iox_wire_locals.specs.declared.seat.Seat.{Seat}
use Rattle.iox_wire_locals.specs.declared.table.Entry.{Entry}
use Rattle.iox_wire_locals.specs.declared.table.NewLoan.{NewLoan}
use Rattle.iox_wire_locals.specs.Doings.{outcome_of}
use Rattle.iox_wire_locals.specs.NewLoans.{entry_in, loan_in, message_in}
use Rattle.iox_wire_locals.specs.Settlements.{reply_of}
use Rattle.iox_wire_locals.specs.Steps.{closed, ending_at}
use Rattle.iox_wire_locals.specs.Tables.{Setting, handle_of}
use Rattle.iox_wire_laws.specs.WireKeeping.Shows.{ShowsWorld}
use Rattle.iox_wire_laws.specs.WireKeeping.Writes.{is_slot_of, with_payload}
use Rattle.iox_wire_laws.proofs.WireKeeping.CountsKept.{no_port}
use Rattle.iox_wire_laws.proofs.WireKeeping.Frames.{Frame, counted_before, settled_frame}
use Rattle.iox_wire_laws.proofs.WireShows.StepsShow.{seat_put}
use Rattle.iox_wire_laws.specs.WireRegions.OwnedBegins.{LayoutFits}
use Rattle.iox_wire_laws.proofs.WireRegions.ReceiveBegins.{layouts_stay_fit}
use Rattle.iox_wire_laws.proofs.WireRegions.OwnPorts.{both}
use Rattle.iox_wire_laws.specs.WireHolding.FarSlots.{IsInPool, QueuesHaveSlots}
use Rattle.iox_wire_laws.specs.WireHolding.HeldEnds.{EndHolds, HasAlone}
use Rattle.iox_wire_laws.specs.WireHolding.Holding.{held_ended}
use Rattle.iox_wire_laws.specs.WireHolding.Named.{IsUnnamed, place_names}
use Rattle.iox_wire_laws.specs.WireHolding.SlotsKnown.{HasEntry, IsPortOfSeat, NamesStand, PlaceStands}
use Rattle.iox_wire_laws.proofs.WireHolding.HeldEnds.{ends_show_what_is_held}
use Rattle.iox_wire_laws.proofs.WireHolding.UnsentSlots.{filled_loans_are_alone, new_loans_are_unnamed}
use Rattle.iox_wire_stands.specs.Following.{message_at}
use Rattle.iox_wire_stands.specs.Nodes.{NodeStands}
use Rattle.iox_wire_stands.specs.Stands.{AreNumbered, OwnersAre}
use Rattle.iox_wire_stands.specs.StepLaws.{TakenStays}
use Rattle.iox_wire_stands.proofs.OtherSlots.{other_slots_may_change}
use Rattle.iox_wire_stands.proofs.OthersHold.{named_taken}
use Rattle.iox_wire_stands.proofs.OthersKept.{others_leave_nodes}
use Rattle.iox_wire_stands.proofs.StepsAround.{Whole}
use Rattle.iox_wire_steps.specs.Over.{EndIsTold, EndsWith, IsDropped, CallIsOver}
use Rattle.iox_wire_steps.proofs.Added as added
use Rattle.iox_wire_steps.proofs.Headers.{header_is}
use Rattle.iox_wire_steps.proofs.Homes as homes
use Rattle.iox_wire_steps.proofs.Knowing.{outcome_fits}
use Rattle.iox_wire_steps.proofs.OwnNodes.{node_now}
use Rattle.iox_wire_steps.proofs.OwnSlotsApart.{lent_differs, slots_differ}

-- a call that ends otherwise than with a send is at its last place
abbrev pub NoSend : Ending → Type 0
NoSend (endings.Sends e copied count) = ⊥
NoSend ending = Unit {0}

pub ends_there : (local : Local) (ending : Ending) → NoSend ending → ending_at local ≡ Some ending → local ≡ locals.Ends ending
ends_there (locals.Ends e) ending none is = ap locals.Ends (inside e is)
  where
    inside : (e : Ending) → Some e ≡ Some ending → e ≡ ending
    inside e same = ap (λ k. unwrap k) same
      where
        unwrap : Option Ending → Ending
        unwrap (Some k) = k
        unwrap None = e
ends_there (locals.SendEnds d last count) ending none is = absurd (sent ending none is)
  where
    Sent : Option Ending → Type 0
    Sent (Some (endings.Sends e copied count)) = Unit {0}
    Sent other = ⊥

    sent : (ending : Ending) → NoSend ending → Some (endings.Sends d.loan d.copied count) ≡ Some ending → ⊥
    sent (endings.Sends e copied k) none is = none
    sent ending none is = subst Sent is tt
ends_there local ending none is = none-some ending is

-- the slot of a loan holds that loan
abbrev pub HoldsLoan : Setting → Pools → Ending → Type 0
HoldsLoan p held (endings.Lends o slot) = held o.port slot ≡ message_in p o
HoldsLoan p held ending = Unit {0}

-- ---- slots

-- one slot of a port of the node holds another payload, and no other node's place names it
record OnePayload (p : Setting) (held new : Pools) (seats : ℕ → Seat) (s : State) (n : ℕ) : Type 0 where
  pub port : ℕ
  pub slot : ℕ
  pub own : IsPortOfSeat p (seats n) port
  pub elsewhere : (q j : ℕ) → (port ≡ q → slot ≡ j → ⊥) → new q j ≡ held q j
  pub unnamed : (k : ℕ) → (k == n) ≡ false → not_living s k ≡ None → place_names (seats k).local port slot ≡ false

payload_elsewhere : (held : Pools) (e : Entry) (words : List ℕ) (q j : ℕ) → (e.sender ≡ q → e.slot ≡ j → ⊥) → with_payload held e words q j ≡ held q j
payload_elsewhere held e words q j other = by_case (is_slot_of e q j) (λ is.
    let r = both (q == e.sender) (j == e.slot) is in other (sym (eqb-true q e.sender r.0)) (sym (eqb-true j e.slot r.1)))
  where
    by_case : (b : Bool) → (b ≡ true → ⊥) → (if b then record (held q j) { payload = words } else held q j) ≡ held q j
    by_case true never = absurd (never refl)
    by_case false never = refl

module _ (p : Setting) (held : Pools) (word : ℕ → ℕ) (c : WireContents) (seats : ℕ → Seat) (w : World) (n : ℕ) (ending : Ending) (payload : List ℕ)
    (numbered : AreNumbered p) (shows : ShowsWorld p held word c seats w) (layout : LayoutFits p w.state.fixed) (owners : OwnersAre p w.state.fixed)
    (rooms : (y : Way) → IsWay p.layout.sizes y
    → p.layout.capacity (ReturningQueue y) ≡ buffer_on w.state.fixed y + borrow_limit_on w.state.fixed y + 1)
    (queues : QueuesHaveSlots p c w.state) (nodes : (k : ℕ) → (k == n) ≡ false → not_living w.state k ≡ None → NodeStands p held w.state (seats k))
    (living : not_living w.state n ≡ None) (ends : CallIsOver p held w.state (seats n) ending) (told : EndIsTold p held w.state (seats n) ending)
    (holds_loan : HoldsLoan p held ending) (may : MayHold w.state.fixed (outcome_of p held (seats n).node ending) payload) where
  abbrev x : Seat
  x = seats n

  abbrev y : Seat
  y = closed p (seats n) (Some ending)

  abbrev new : Pools
  new = held_ended held payload ending

  abbrev o : Outcome
  o = outcome_of p held (seats n).node ending

  abbrev u : World
  u = over w (seats n).node payload (outcome_of p held (seats n).node ending)

  -- ---- what the end relies on

  names : PlaceStands p w.state.fixed x x.local → (k : ℕ) → not_living w.state k ≡ None → NamesStand p w.state.fixed (seats k)
  names place k lives = by_node (k == n) refl
    where
      by_node : (b : Bool) → (k == n) ≡ b → NamesStand p w.state.fixed (seats k)
      by_node true is = subst (λ i. NamesStand p w.state.fixed (seats i)) (sym (eqb-true k n is)) (record { entries = ends.entries; place = place })
      by_node false other = (nodes k other lives).names

  lent_alone : (o : NewLoan) (slot : ℕ) → ending_at x.local ≡ Some (endings.Lends o slot) → HoldsLoan p held (endings.Lends o slot)
      → IsUnnamed p c seats w.state o.port slot
  lent_alone o slot is tells =
      let at : x.local ≡ locals.Ends (endings.Lends o slot) = ends_there x.local (endings.Lends o slot) tt is in
      new_loans_are_unnamed p held word c seats w n o slot shows layout (names (subst (PlaceStands p w.state.fixed x) (sym at) tt)) living at
      (ap (λ (m : Message). m.serial) tells)
      (added.lent_in_pool p held word c seats w n shows living layout o slot is (ends.uses o.port (homes.at_home p held word c seats w n shows living owners numbered o.port
      (outcome_fits p held word c seats w n (endings.Lends o slot) shows living is).1.1)))
      (lent_differs p held word c seats w n shows living ends.entries ends.numbers o slot is (ap (λ (m : Message). m.serial) tells))

  filled_alone : (e : Entry) (words : List ℕ) → ending_at x.local ≡ Some (endings.Fills e words) → HasEntry x e
      → EndIsTold p held w.state x (endings.Fills e words) → IsInPool p e.sender e.slot → HasAlone p c seats w.state n e
  filled_alone e words is there tells low =
      let at : x.local ≡ locals.Ends (endings.Fills e words) = ends_there x.local (endings.Fills e words) tt is in
      filled_loans_are_alone p held word c seats w n e words shows layout (names (subst (PlaceStands p w.state.fixed x) (sym at) there)) living at tells low
      (slots_differ p held word c seats w n shows living ends.entries ends.numbers e.port)

  -- the loan that a slot holds is that of the call
  loan_is : (o : NewLoan) (slot : ℕ) → (p.port o.port).node ≡ x.node → HoldsLoan p held (endings.Lends o slot)
      → handle_of held x.node (entry_in o slot) ≡ loan_in p o
  loan_is o slot node tells = λ i. record (loan_in p o) { node = sym node i; message = tells i; filled = (tells i).elements }

  low_of : (e : Entry) → IsInPool p e.sender e.slot ⊎ ⊥ → IsInPool p e.sender e.slot
  low_of e (inl low) = low
  low_of e (inr never) = absurd never

  holds_so : (k : Ending) → ending_at x.local ≡ Some k → EndsWith p w.state.fixed x k → EndIsTold p held w.state x k → HoldsLoan p held k
      → ((e : Entry) → HasEntry x e → IsInPool p e.sender e.slot ⊎ IsDropped k e) → EndHolds p held c seats w.state n payload k
  holds_so (endings.Lends o slot) is with tells loan low =
      let node : (p.port o.port).node ≡ x.node
      = (outcome_fits p held word c seats w n (endings.Lends o slot) shows living is).0.of_node ∙ sym (shows.node n) in
      (node, loan_is o slot node loan, lent_alone o slot is loan)
  holds_so (endings.Fills e words) is with tells loan low = filled_alone e words is with tells (low_of e (low e with))
  holds_so (endings.Receives v z slot header) is with tells loan low = header_is p held word c seats w n v z slot header shows living is tells
  holds_so k is with tells loan low = tt

  holds : EndHolds p held c seats w.state n payload ending
  holds = holds_so ending ends.at_end ends.message told holds_loan ends.in_pools

  pub shown_after : IsBeat w (Ends x.node (reply_of p x ending) payload) u × ShowsWorld p new word c (put_at seats n y) u
  shown_after = ends_show_what_is_held p held word c seats w n ending payload shows living ends.at_end ends.last holds may

  -- ---- nodes

  lives_before : (k : ℕ) → not_living u.state k ≡ None → not_living w.state k ≡ None
  lives_before k lives = not_living-members w.state u.state k (sym (settled-members w.state x.node payload o)) ∙ lives

  own : NodeStands p new u.state y
  own = node_now p held word c seats w n ending payload shows living layout owners numbered ends told

  -- ---- slots of others

  one_so : (k : Ending) → ending_at x.local ≡ Some k → EndsWith p w.state.fixed x k → EndHolds p held c seats w.state n payload k
      → (held_ended held payload k ≡ held) ⊎ OnePayload p held (held_ended held payload k) seats w.state n
  one_so (endings.Lends o slot) is with alone = inr (record {
    port = o.port;
    slot = slot;
    own = homes.at_home p held word c seats w n shows living owners numbered o.port
        (outcome_fits p held word c seats w n (endings.Lends o slot) shows living is).1.1;
    elsewhere = payload_elsewhere held (entry_in o slot) payload;
    unnamed = λ k other lives. alone.2.places k lives;
  })
  one_so (endings.Fills e words) is with alone = inr (record {
    port = e.sender;
    slot = e.slot;
    own = subst (IsPortOfSeat p x) (sym (filled_port e words is))
        (homes.at_home p held word c seats w n shows living owners numbered e.port (outcome_fits p held word c seats w n (endings.Fills e words) shows living is).1.1);
    elsewhere = payload_elsewhere held e words;
    unnamed = alone.places;
  })
    where
      filled_port : (e : Entry) (words : List ℕ) → ending_at x.local ≡ Some (endings.Fills e words) → e.sender ≡ e.port
      filled_port e words is =
          sym ((shows.counts n living).knows.sent e.sender e.slot) ∙ (outcome_fits p held word c seats w n (endings.Fills e words) shows living is).0.made.sender
  one_so k is with alone = inl refl

  changed : (new ≡ held) ⊎ OnePayload p held new seats w.state n
  changed = one_so ending ends.at_end ends.message holds

  module _ (k : ℕ) (other : (k == n) ≡ false) (lives : not_living w.state k ≡ None) where
    others_same : (port slot : ℕ) → IsPortOfSeat p (seats k) port → new port slot ≡ held port slot
    others_same port slot its = by_held changed
      where
        by_held : (new ≡ held) ⊎ OnePayload p held new seats w.state n → new port slot ≡ held port slot
        by_held (inl same) = ap (λ (h : Pools). h port slot) same
        by_held (inr one) = one.elsewhere port slot (λ same there. true≢false (sym (eq-eqb k n
            (sym (shows.node k) ∙ sym its.1 ∙ ap p.layout.owner (sym same) ∙ one.own.1 ∙ shows.node n)) ∙ other))

    taken_same : TakenStays held new (message_at (seats k).local)
    taken_same v slot is = by_held changed
      where
        by_held : (new ≡ held) ⊎ OnePayload p held new seats w.state n → new v.sender slot ≡ held v.sender slot
        by_held (inl same) = ap (λ (h : Pools). h v.sender slot) same
        by_held (inr one) = one.elsewhere v.sender slot (λ same there. true≢false (sym (named_taken (seats k).local v slot is)
            ∙ subst (λ i. place_names (seats k).local v.sender i ≡ false) there
            (subst (λ q. place_names (seats k).local q one.slot ≡ false) same (one.unnamed k other lives))))

  other_node : (k : ℕ) → (k == n) ≡ false → not_living u.state k ≡ None → NodeStands p new u.state (seats k)
  other_node k other lives =
      let before = lives_before k lives in
      other_slots_may_change p held new u.state (seats k) (others_same k other before) (taken_same k other before)
      (others_leave_nodes p held w u (Ends x.node (reply_of p x ending) payload) (seats k) shows.reachable shown_after.0
      (subst (λ i. (i == x.node) ≡ false) (sym (shows.node k)) (subst (λ i. (k == i) ≡ false) (sym (shows.node n)) other))
      (subst (λ i. not_living u.state i ≡ None) (sym (shows.node k)) lives) layout owners (shows.counts k before) (shows.doing k before) (nodes k other before))

  -- ---- the wire

  frame : Frame w.state.fixed u.state.fixed
  frame = settled_frame w.state x.node payload o (shows.counts n living).on_wire (no_port p held x.node ending)

  still_counted : (v : Way) → is_counted_on u.state.fixed v ≡ true → is_counted_on w.state.fixed v ≡ true
  still_counted = counted_before w.state.fixed u.state.fixed frame

  role_same : (port : ℕ) → role_at u.state.fixed port ≡ role_at w.state.fixed port
  role_same port = ap (λ (ps : List Port). role_at (record (w.state.fixed) { ports = ps }) port) frame.1

  pub ends_whole : IsBeat w (Ends x.node (reply_of p x ending) payload) u × Whole p new word c (put_at seats n y) u
  ends_whole = (
    shown_after.0,
    record {
      shows = shown_after.1;
      layout = layouts_stay_fit p w u (Ends x.node (reply_of p x ending) payload) shows.reachable shown_after.0 layout;
      owners = λ port. owners port ∙ ap (λ (ps : List Port). node_of_port (record (w.state.fixed) { ports = ps }) port) (sym frame.1);
      rooms = λ v way. rooms v way ∙ sym (same_room v);
      queues = record {
        waiting = λ v slot way on. queues.waiting v slot way (still_counted v on);
        in_hand = λ v slot way on. queues.in_hand v slot way (still_counted v on);
        returned = λ v slot way on. queues.returned v slot way (still_counted v on);
      };
      nodes = λ k lives. seat_put (λ i z. not_living u.state i ≡ None → NodeStands p new u.state z) seats n y (λ l. own) (λ i other l. other_node i other l) k lives;
    },
  )
    where
      same_room : (v : Way) → buffer_on u.state.fixed v + borrow_limit_on u.state.fixed v + 1 ≡ buffer_on w.state.fixed v + borrow_limit_on w.state.fixed v + 1
      same_room v =
          ap (λ r. buffer_of u.state.fixed.limits r + borrow_limit_on u.state.fixed v + 1) (role_same v.sender)
          ∙ ap (λ r. buffer_of u.state.fixed.limits (role_at w.state.fixed v.sender) + borrow_limit_of u.state.fixed.limits (other_role r) + 1) (role_same v.receiver)
          ∙ ap (λ l. buffer_of l (role_at w.state.fixed v.sender) + borrow_limit_of l (other_role (role_at w.state.fixed v.receiver)) + 1) frame.2
