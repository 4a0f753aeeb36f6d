-- From a node that stands after the end of its call, what its end was told.
use Rattle.std.specs.Prelude.{◌⊎◌, ◌<◌, ◌++◌, find, map}
use Rattle.std.proofs.Common.{◌≡◌, ℕ, Bool, true, false, if◌then◌else◌, ◌==◌, List, [], ◌∷◌, Some, None, refl, ap, sym, subst, ◌∙◌, inl, inr, eq-eqb}
use Rattle.iox_model.specs.declared.kind.Kind.TheVariants.{ActiveRequest}
use Rattle.iox_model.specs.declared.way.Way.{Way}
use Rattle.iox_model.specs.Begins.{written}
use Rattle.iox_model.specs.Counts.{with_handle}
use Rattle.iox_model.specs.Handles.{filled_kind, is_request_loan, same_kind}
use Rattle.iox_model.specs.Joins.{not_living}
use Rattle.iox_model.specs.Maps.{has_number}
use Rattle.iox_model.specs.Peers.{lanes_of}
use Rattle.iox_model.specs.Settings.{is_client}
use Rattle.iox_model.specs.States.{Handle, Port, State}
use Rattle.iox_model.specs.Weaves.{World}
use Rattle.iox_laws.proofs.WeaveBeats.LiveWays.{Here, here}
use Rattle.iox_laws.proofs.WeaveLaws.WholeLemmas.{some-is}
use Rattle.iox_laws.proofs.WeaveLaws.WireLemmas.{Same, settled_same}
use Rattle.iox_laws.proofs.WeaveLedger.Senders as ledger
use Rattle.iox_laws.proofs.WeaveLedger.Settling.{settled-here}
use Rattle.iox_laws.proofs.WeaveLedger.Truths.{none-some, or-false}
use Rattle.iox_laws.proofs.WeaveLedger.Views.{View, after_call, view}
use Rattle.iox_wire_words.specs.Fits.{WireContents}
use Rattle.iox_wire_moments.specs.MomentsOf.{Pools}
use Rattle.iox_wire_locals.specs.declared.local.Ending.{Ending}
use Rattle.iox_wire_locals.specs.declared.local.Ending.TheVariants as endings
use Rattle.iox_wire_locals.specs.declared.local.Visit.{Visit}
use Rattle.iox_wire_locals.specs.declared.seat.Seat.{Seat}
use Rattle.iox_wire_locals.specs.declared.table.Entry.{Entry}
use Rattle.iox_wire_locals.specs.BeginLaws.{Counts}
use Rattle.iox_wire_locals.specs.Doings.{outcome_of}
use Rattle.iox_wire_locals.specs.Lendings.{next_handle}
use Rattle.iox_wire_locals.specs.NewLoans.{lane_in, received_entry, request_in}
use Rattle.iox_wire_locals.specs.Settlements as settle
use Rattle.iox_wire_locals.specs.Steps.{closed, ending_at}
use Rattle.iox_wire_locals.specs.Tables.{Setting, entry_at, handle_of, sent_entry, with_entry}
use Rattle.iox_wire_laws.specs.WireKeeping.Shows.{ShowsWorld}
use Rattle.iox_wire_laws.proofs.WireKeeping.CountsKept.{no_port}
use Rattle.iox_wire_laws.proofs.WireKeeping.Frames.{Frame, settled_frame}
use Rattle.iox_wire_laws.specs.WireShows.OwnedCalls.{AsksOn}
use Rattle.iox_wire_laws.specs.WireOwners.Releases.{HasOwnStates}
use Rattle.iox_wire_laws.specs.WireRegions.OwnedBegins.{LayoutFits}
use Rattle.iox_wire_laws.specs.WireHolding.Holding.{held_ended}
use Rattle.iox_wire_laws.specs.WireHolding.SlotsKnown.{HasEntry}
use Rattle.iox_wire_stands.specs.Nodes.{NodeStands}
use Rattle.iox_wire_stands.specs.Stands.{AreNumbered, OwnersAre}
use Rattle.iox_wire_steps.specs.Needed.{WhatIsToldIsNeeded}
use Rattle.iox_wire_steps.specs.Over.{EndIsTold, EndsWith, state_ended}
use Rattle.iox_wire_steps.proofs.EndStates.{Forgot, states_stay}
use Rattle.iox_wire_steps.proofs.Headers.{response_request}
use Rattle.iox_wire_steps.proofs.Knowing.{outcome_fits}
use Rattle.iox_wire_steps.proofs.NewNumbers.{numbers_are_new}
use Rattle.iox_wire_steps.proofs.Received.{asks_on}

-- ---- lists

abbrev last_of : Handle → List Handle → Handle
last_of d [] = d
last_of d (h ∷ hs) = last_of h hs

last_is : (d h : Handle) (hs : List Handle) → last_of d (hs ++ h ∷ []) ≡ h
last_is d h [] = refl
last_is d h (g ∷ hs) = last_is g h hs

map_last : (f : Entry → Handle) (e : Entry) (es : List Entry) → map f (es ++ e ∷ []) ≡ map f es ++ f e ∷ []
map_last f e [] = refl
map_last f e (k ∷ ks) = ap (λ hs. f k ∷ hs) (map_last f e ks)

-- the handle of that number in the place of which it stands
found_with : (f : Entry → Handle) (h : Handle) (n : ℕ) → h.number ≡ n → ((k : Entry) → (f k).number ≡ k.number) → (e : Entry) (es : List Entry)
    → entry_at n es ≡ Some e → find (λ (g : Handle). g.number == n) (with_handle h (map f es)) ≡ Some h
found_with f h n number numbers e [] there = none-some e there
found_with f h n number numbers e (k ∷ ks) there =
    by_number (k.number == n) refl (ap (λ i. i == h.number) (numbers k) ∙ ap (λ i. k.number == i) number) there (found_with f h n number numbers e ks)
  where
    by_number : (b : Bool) → (k.number == n) ≡ b → ((f k).number == h.number) ≡ (k.number == n) → (if b then Some k else entry_at n ks) ≡ Some e
        → (entry_at n ks ≡ Some e → find (λ (g : Handle). g.number == n) (with_handle h (map f ks)) ≡ Some h)
        → find (λ (g : Handle). g.number == n) (with_handle h (f k ∷ map f ks)) ≡ Some h
    by_number true is same first rest = rw same (rw is (rw (eq-eqb h.number n number) refl))
    by_number false is same first rest = rw same (rw is (rw (ap (λ i. i == n) (numbers k) ∙ is) (rest first)))

found_map : (f : Entry → Handle) (n : ℕ) → ((k : Entry) → (f k).number ≡ k.number) → (e : Entry) (es : List Entry)
    → entry_at n es ≡ Some e → find (λ (g : Handle). g.number == n) (map f es) ≡ Some (f e)
found_map f n numbers e [] there = none-some e there
found_map f n numbers e (k ∷ ks) there = by_number (k.number == n) refl there (found_map f n numbers e ks)
  where
    by_number : (b : Bool) → (k.number == n) ≡ b → (if b then Some k else entry_at n ks) ≡ Some e
        → (entry_at n ks ≡ Some e → find (λ (g : Handle). g.number == n) (map f ks) ≡ Some (f e))
        → find (λ (g : Handle). g.number == n) (f k ∷ map f ks) ≡ Some (f e)
    by_number true is first rest = rw (ap (λ i. i == n) (numbers k) ∙ is) (ap (λ j. Some (f j)) (some-is k e first))
    by_number false is first rest = rw (ap (λ i. i == n) (numbers k) ∙ is) (rest first)

-- an entry is found where it was added, or put
found_last : (n : ℕ) (e : Entry) (es : List Entry) → e.number ≡ n → has_number n (map (λ k. k.number) es) ≡ false → entry_at n (es ++ e ∷ []) ≡ Some e
found_last n e [] number none = rw (eq-eqb e.number n number) refl
found_last n e (k ∷ ks) number none =
    let parts = or-false (k.number == n) (has_number n (map (λ j. j.number) ks)) none in rw parts.0 (found_last n e ks number parts.1)

found_put : (n : ℕ) (q e : Entry) → q.number ≡ n → (es : List Entry) → entry_at n es ≡ Some e → entry_at n (with_entry q es) ≡ Some q
found_put n q e number [] there = none-some e there
found_put n q e number (k ∷ ks) there = by_number (k.number == n) refl (ap (λ i. k.number == i) number) there (found_put n q e number ks)
  where
    by_number : (b : Bool) → (k.number == n) ≡ b → (k.number == q.number) ≡ (k.number == n) → (if b then Some k else entry_at n ks) ≡ Some e
        → (entry_at n ks ≡ Some e → entry_at n (with_entry q ks) ≡ Some q) → entry_at n (if k.number == q.number then q ∷ ks else k ∷ with_entry q ks) ≡ Some q
    by_number true is same first rest = rw same (rw is (rw (eq-eqb q.number n number) refl))
    by_number false is same first rest = rw same (rw is (rw is (rest first)))

-- ---- the end

module _ (p : Setting) (held : Pools) (word : ℕ → ℕ) (c : WireContents) (seats : ℕ → Seat) (w : World) (n : ℕ)
    (shows : ShowsWorld p held word c seats w) (living : not_living w.state n ≡ None) (fits : LayoutFits p w.state.fixed) (owners : OwnersAre p w.state.fixed)
    (numbered : AreNumbered p) (payload : List ℕ) where
  abbrev x : Seat
  x = seats n

  abbrev s : State
  s = w.state

  has : Counts p x s held
  has = shows.counts n living

  abbrev Stood : Ending → Type 0
  Stood ending =
      Counts p (closed p x (Some ending)) (state_ended p held s x payload ending) (held_ended held payload ending)
      × NodeStands p (held_ended held payload ending) (state_ended p held s x payload ending) (closed p x (Some ending))

  -- the machine's handles after the end
  handles : (ending : Ending) → ending_at x.local ≡ Some ending
      → (state_ended p held s x payload ending).fixed.handles x.node ≡ (after_call (view s.fixed x.node) x.node payload (outcome_of p held x.node ending)).handles
  handles ending is =
      let hs : Here w = here w shows.reachable in
      ap (λ (v : View). v.handles) (settled-here s x.node payload (outcome_of p held x.node ending) has.on_wire (hs.holding.fits.handles x.node)
      (subst (λ k. ledger.FitsOutcome (view s.fixed k) k (outcome_of p held k ending)) (sym (shows.node n))
      (outcome_fits p held word c seats w n ending shows living is).0))

  frame : (ending : Ending) → Frame s.fixed (state_ended p held s x payload ending).fixed
  frame ending = settled_frame s x.node payload (outcome_of p held x.node ending) has.on_wire (no_port p held x.node ending)

  lanes : (ending : Ending) (client lane : ℕ) → lane < lanes_of (state_ended p held s x payload ending).fixed client → lane < lanes_of s.fixed client
  lanes ending client lane low =
      subst (λ (ps : List Port). lane < lanes_of (record (s.fixed) { ports = ps }) client) (frame ending).1 low

  -- ---- a write

  filled : (e : Entry) (words : List ℕ) → ending_at x.local ≡ Some (endings.Fills e words) → HasEntry x e → Stood (endings.Fills e words) → filled_kind e.kind ≡ e.kind
  filled e words is there stood =
      let h : Handle = written (handle_of held x.node e) words in
      let new : Pools = held_ended held payload (endings.Fills e words) in
      let same : with_handle h (map (handle_of held x.node) x.table) ≡ map (handle_of new x.node) x.table
      = ap (with_handle h) (sym has.knows.handles) ∙ sym (handles (endings.Fills e words) is) ∙ stood.0.knows.handles in
      ap (λ (g : Handle). g.kind) (some-is h (handle_of new x.node e)
      (sym (found_with (handle_of held x.node) h e.number refl (λ k. refl) e x.table there)
      ∙ ap (find (λ (g : Handle). g.number == e.number)) same ∙ found_map (handle_of new x.node) e.number (λ k. refl) e x.table there))

  -- ---- what was received

  module _ (v : Visit) (y : Way) (slot : ℕ) (header : List ℕ) (is : ending_at x.local ≡ Some (endings.Receives v y slot header))
      (on : EndsWith p s.fixed x (endings.Receives v y slot header)) (stood : Stood (endings.Receives v y slot header)) where
    abbrev e : Entry
    e = received_entry (next_handle p (seats n)) v y slot header

    same : last_of (handle_of held x.node e) ((after_call (view s.fixed x.node) x.node payload (outcome_of p held x.node (endings.Receives v y slot header))).handles)
        ≡ handle_of held x.node (received_entry (next_handle p (seats n)) v y slot header)
    same =
        ap (last_of (handle_of held x.node e)) (sym (handles (endings.Receives v y slot header) is) ∙ stood.0.knows.handles ∙ map_last (handle_of held x.node) e x.table)
        ∙ last_is (handle_of held x.node e) (handle_of held x.node e) (map (handle_of held x.node) x.table)

    header_is : (lane_in v y header ≡ (held y.sender slot).lane) × (request_in v header ≡ (held y.sender slot).request)
    header_is =
        let last = last_is (handle_of held x.node e) _ (s.fixed.handles x.node) in
        let one = sym same ∙ last in (ap (λ (h : Handle). h.lane) one, ap (λ (h : Handle). h.request) one)

    new_there : HasEntry (closed p x (Some (endings.Receives v y slot header))) (received_entry (next_handle p (seats n)) v y slot header)
    new_there = found_last (next_handle p x) e x.table refl (by_part (numbers_are_new p held word c seats w n shows living (endings.Receives v y slot header) is e refl))
      where
        by_part : ⊥ ⊎ (has_number (next_handle p x) (map (λ (k : Entry). k.number) x.table) ≡ false) → has_number (next_handle p x) (map (λ (k : Entry). k.number) x.table) ≡ false
        by_part (inl sent) = absurd sent
        by_part (inr none) = none

    request_asks : is_client v.role ≡ false → AsksOn p v y header
    request_asks server =
        let released = stood.1.released e new_there in
        let kind : same_kind (received_entry (next_handle p (seats n)) v y slot header).kind ActiveRequest ≡ true = rw server refl in
        asks_on p held word c seats w n v y slot header shows living is fits on server
        (lanes (endings.Receives v y slot header) y.sender (lane_in v y header)
        (subst (λ b. lane_in v y header < lanes_of (state_ended p held s x payload (endings.Receives v y slot header)).fixed (if b then v.port else y.sender)) server (released.request kind).1))

    pub received_told : EndIsTold p held s x (endings.Receives v y slot header)
    received_told = (
      λ client. header_is.1 ∙ response_request p held word c seats w n v y slot header shows living is client,
      λ server. (header_is.0, header_is.1, request_asks server),
    )

  -- ---- a request that was sent

  module _ (e : Entry) (count : ℕ) (request : is_request_loan e.kind ≡ true) where
    sent_there : (copied : Bool) → ending_at x.local ≡ Some (endings.Sends e copied count) → EndsWith p s.fixed x (endings.Sends e copied count)
        → HasEntry (closed p x (Some (endings.Sends e copied count))) (sent_entry e count)
    sent_there true is with = rw request (found_last e.number (sent_entry e count) x.table refl (by_part (numbers_are_new p held word c seats w n shows living (endings.Sends e true count) is (sent_entry e count) refl)))
      where
        by_part : ⊥ ⊎ (has_number e.number (map (λ (k : Entry). k.number) x.table) ≡ false) → has_number e.number (map (λ (k : Entry). k.number) x.table) ≡ false
        by_part (inl sent) = absurd sent
        by_part (inr none) = none
    sent_there false is with = rw request (found_put e.number (sent_entry e count) e refl x.table with)

    back : (copied : Bool) → Forgot (closed p x (Some (endings.Sends e copied count))) x
    back true = record { node = rw request refl; forgot = λ k there. subst (λ b. has_number k (if b then settle.sends_entry x e true count else settle.sends_away x e true).forgot ≡ true) request there }
    back false = record { node = rw request refl; forgot = λ k there. subst (λ b. has_number k (if b then settle.sends_entry x e false count else settle.sends_away x e false).forgot ≡ true) request there }

    sent_told : (copied : Bool) → ending_at x.local ≡ Some (endings.Sends e copied count) → EndsWith p s.fixed x (endings.Sends e copied count) → Stood (endings.Sends e copied count)
        → (e.lane < lanes_of s.fixed e.port) × HasOwnStates p x s.request_state (sent_entry e count)
    sent_told copied is with stood =
        let there = sent_there copied is with in
        let kept : Same s (state_ended p held s x payload (endings.Sends e copied count))
        = settled_same s x.node payload (outcome_of p held x.node (endings.Sends e copied count)) has.on_wire in (
          lanes (endings.Sends e copied count) e.port e.lane ((stood.1.released (sent_entry e count) there).pending refl).1,
          states_stay p (closed p x (Some (endings.Sends e copied count))) x s.request_state (sent_entry e count) (back copied) refl
              (subst (λ shown. HasOwnStates p (closed p x (Some (endings.Sends e copied count))) shown (sent_entry e count)) kept.request_state
              (stood.1.states (sent_entry e count) there refl)),
        )

  -- ---- each ending

  was_told : (ending : Ending) → ending_at x.local ≡ Some ending → EndsWith p s.fixed x ending → Stood ending → EndIsTold p held s x ending
  was_told (endings.Fills e words) is with stood = filled e words is with stood
  was_told (endings.Receives v y slot header) is with stood = received_told v y slot header is with stood
  was_told (endings.Sends e copied count) is with stood = λ request. sent_told e count request copied is with stood
  was_told ending is with stood = tt

pub what_is_told_is_needed : WhatIsToldIsNeeded
what_is_told_is_needed p held word c seats w n ending shows living fits owners numbered over payload counts stands =
    was_told p held word c seats w n shows living fits owners numbered payload ending over.at_end over.message (counts, stands)
