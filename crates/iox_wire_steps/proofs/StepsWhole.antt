-- The whole step of a node leads from what stands to what stands.
use Rattle.std.specs.Prelude.{◌⊎◌, ◌≤◌, ◌<◌, ◌++◌, length}
use Rattle.std.proofs.Common.{◌≡◌, ℕ, Bool, true, false, if◌then◌else◌, ◌==◌, ◌&&◌, List, [], ◌∷◌, Option, Some, None, refl, ap, sym, subst, append_assoc, ◌∙◌, inl, inr, arith, eqb-true}
use Rattle.iox_model.specs.Commands.{Reply}
use Rattle.iox_model.specs.Handles.{is_own, is_received}
use Rattle.iox_model.specs.Joins.{not_living}
use Rattle.iox_model.specs.Maps.{has_number, put_at}
use Rattle.iox_model.specs.Moments.{Moment}
use Rattle.iox_model.specs.Weaves.{Beat, IsWeave, World}
use Rattle.iox_model.specs.Weaves as weaves
use Rattle.iox_laws.proofs.WeaveLaws.CallLaws.{eqb-flip}
use Rattle.iox_laws.proofs.WeaveLaws.MapLemmas.{eqb-refl}
use Rattle.iox_laws.proofs.WeaveLedger.Lists.{IsAmong, among-back, among-filter, among-front, among-map, among-number, find-among}
use Rattle.iox_laws.proofs.WeaveLedger.Truths.{both_true}
use Rattle.iox_steps.specs.Accesses.{seen_by}
use Rattle.iox_wire_words.specs.Fits.{WireContents}
use Rattle.iox_wire_words.specs.Laws.{AccessIsMade}
use Rattle.iox_wire_words.specs.Programs.{Program, program_access}
use Rattle.iox_wire_moments.specs.MomentsOf.{Pools}
use Rattle.iox_wire_locals.specs.declared.local.Ending.{Ending}
use Rattle.iox_wire_locals.specs.declared.local.Local.{Local}
use Rattle.iox_wire_locals.specs.declared.local.Local.TheVariants.{Ends, ReleaseExchanges, ReleaseLooks}
use Rattle.iox_wire_locals.specs.declared.seat.Seat.{Seat}
use Rattle.iox_wire_locals.specs.declared.table.Entry.{Entry}
use Rattle.iox_wire_locals.specs.Locals.{program_of}
use Rattle.iox_wire_locals.specs.StateMoments.{moment_at}
use Rattle.iox_wire_locals.specs.Steps.{accessed, advance, closed, ending_at, next, tells}
use Rattle.iox_wire_locals.specs.Tables.{Setting}
use Rattle.iox_wire_laws.specs.WireKeeping.Shows.{ShowsWorld}
use Rattle.iox_wire_laws.specs.WireKeeping.UsedSlots.{slots_held, slots_in_call, slots_used}
use Rattle.iox_wire_laws.specs.WireHolding.Aside.{shown, shown_at}
use Rattle.iox_wire_laws.specs.WireHolding.SlotsKnown.{HasEntry, IsAside, IsPortOfSeat, PlaceStands}
use Rattle.iox_wire_laws.proofs.WireHolding.Aside.{releases_go_on_alike, shown_nodes_run_the_same}
use Rattle.iox_wire_stands.specs.Following.{LeavesNothing, message_at}
use Rattle.iox_wire_stands.specs.NamesLaws.{ReturnsNothing}
use Rattle.iox_wire_stands.specs.Nodes.{NodeStands}
use Rattle.iox_wire_stands.specs.Runs.{Answered, Run, Said, history, said_in}
use Rattle.iox_wire_stands.specs.Stands.{Player, Stands, seats_of, word_of}
use Rattle.iox_wire_stands.proofs.Follows.{accesses_follow}
use Rattle.iox_wire_stands.proofs.Runs.{last_empty}
use Rattle.iox_wire_stands.proofs.StepsAround.{Whole}
use Rattle.iox_wire_stands.proofs.StepsKept.{leaves_nothing, shown_same}
use Rattle.iox_wire_steps.specs.WholeSteps.{GoesOnWith, HoldsNext, StepIsTold, WholeStepsKeep, said_with, player_next, reply_beats, step_beats}
use Rattle.iox_wire_steps.proofs.EndsStand.{ended_leaves}
use Rattle.iox_wire_steps.proofs.Homes as homes
use Rattle.iox_wire_steps.proofs.LastSteps.{Holding, LedTo}
use Rattle.iox_wire_steps.proofs.SeatSteps.{done}

-- ---- runs

weave_all : (first w u : World) (bs cs : List Beat) → IsWeave first bs w → IsWeave w cs u → IsWeave first (bs ++ cs) u
weave_all first w u [] cs weave later = subst (λ v. IsWeave v cs u) weave later
weave_all first w u (b ∷ bs) cs weave later = (weave.0, weave.1, weave_all weave.0 w u bs cs weave.2 later)

history_more : (k : ℕ) (bs cs : List Beat) → history k (bs ++ cs) ≡ history k bs ++ history k cs
history_more k [] cs = refl
history_more k (b ∷ bs) cs = ap (λ xs. said_in k b ++ xs) (history_more k bs cs) ∙ later
  where
    later : said_in k b ++ (history k bs ++ history k cs) ≡ (said_in k b ++ history k bs) ++ history k cs
    later = rw append_assoc refl

abbrev nothing : List Said
nothing = []

-- what is said in a step
reply_said : (n k : ℕ) (payload : List ℕ) (reply : Option Reply) → history k (reply_beats n payload reply) ≡ (if n == k then said_with reply else [])
reply_said n k payload None = by_node (n == k)
  where
    by_node : (b : Bool) → nothing ≡ (if b then nothing else nothing)
    by_node true = refl
    by_node false = refl
reply_said n k payload (Some reply) = last_empty (said_in k (weaves.Ends n reply payload)) ∙ by_node (n == k)
  where
    by_node : (b : Bool) → (if b then Answered reply ∷ [] else []) ≡ (if b then said_with (Some reply) else [])
    by_node true = refl
    by_node false = refl

said_then : (n k : ℕ) (payload : List ℕ) (m : Option Moment) (reply : Option Reply)
    → history k (step_beats n payload m reply) ≡ (if n == k then said_with reply else [])
said_then n k payload None reply = reply_said n k payload reply
said_then n k payload (Some m) reply = reply_said n k payload reply

-- ---- a release that continues

-- any other place has put nothing aside
abbrev pub IsOther : Local → Type 0
IsOther (ReleaseLooks e) = ⊥
IsOther (ReleaseExchanges e old) = ⊥
IsOther local = Unit {0}

-- and these two have
abbrev pub IsLeft : Local → Type 0
IsLeft (ReleaseLooks e) = Unit {0}
IsLeft (ReleaseExchanges e old) = Unit {0}
IsLeft local = ⊥

ending_none : (ending : Ending) → LeavesNothing (message_at (Ends ending))
ending_none ending = ended_leaves (Ends ending) ending refl

pub leaving_none : (local : Local) → IsOther local → LeavesNothing (message_at local)
leaving_none (ReleaseLooks e) other = other
leaving_none (ReleaseExchanges e old) other = other
leaving_none (Ends ending) other = ending_none ending
leaving_none local other = tt

-- a release that gave its message back is one of what was received
abbrev pub IsReceiving : Local → Type 0
IsReceiving (ReleaseLooks e) = is_received e.kind ≡ true
IsReceiving (ReleaseExchanges e old) = is_received e.kind ≡ true
IsReceiving local = ⊥

pub record GoesAlike (p : Setting) (held : Pools) (seen : ℕ) (x : Seat) : Type 0 where
  pub next_is : next p (shown p x) seen ≡ shown p (next p x seen)
  pub tells_is : tells p (shown p x) seen ≡ tells p x seen
  pub moment_is : moment_at p held (shown p x).local seen ≡ moment_at p held x.local seen
  pub leaves : LeavesNothing (message_at (shown p x).local) → ⊥

pub goes_alike : (p : Setting) (held : Pools) (seen : ℕ) (x : Seat) (local : Local) → x.local ≡ local → IsReceiving local → GoesAlike p held seen x
goes_alike p held seen x (ReleaseLooks e) is received =
    subst (GoesAlike p held seen) (λ i. record x { local = sym is i })
    (let a = releases_go_on_alike p x e 0 seen received in record { next_is = a.0; tells_is = a.1; moment_is = refl; leaves = λ no_more. no_more })
goes_alike p held seen x (ReleaseExchanges e old) is received =
    subst (GoesAlike p held seen) (λ i. record x { local = sym is i })
    (let a = releases_go_on_alike p x e old seen received in record { next_is = a.2; tells_is = a.3; moment_is = refl; leaves = λ no_more. no_more })
goes_alike p held seen x local is received = absurd received

-- what is put aside was received: an own message would be in its pool
module _ (p : Setting) (held : Pools) (word : ℕ → ℕ) (c : WireContents) (seats : ℕ → Seat) (w : World) (n : ℕ) (whole : Whole p held word c seats w)
    (numbered : (port : ℕ) → has_number port p.layout.sizes.ports ≡ true → (p.port port).number ≡ port) (living : not_living w.state n ≡ None) where
  abbrev q : Seat
  q = seats n

  stands : NodeStands p held w.state q
  stands = whole.nodes n living

  aside_received : (e : Entry) → HasEntry q e → IsAside p e → is_received e.kind ≡ true
  aside_received e has far = by_kind (is_received e.kind) refl
    where
      beyond : (pool slot : ℕ) → slot < pool → pool ≤ slot → ⊥
      beyond pool slot low high = omega (arith, low, high)

      by_kind : (b : Bool) → is_received e.kind ≡ b → is_received e.kind ≡ true
      by_kind true is = is
      by_kind false kept =
          let own = (stands.names.entries e has).own kept in
          let home : IsPortOfSeat p q e.port
          = homes.at_home p held word c seats w n whole.shows living whole.owners numbered e.port
          (homes.of_port p held word c seats w n whole.shows living whole.owners numbered e has) in
          let among : IsAmong e.slot (slots_held q e.port)
          = among-map (λ (k : Entry). k.slot) e _ (among-filter (λ (k : Entry). is_own k.kind && (k.port == e.port)) e q.table
          (find-among (λ (k : Entry). k.number == e.number) e q.table has).0 (both_true (is_own e.kind) (e.port == e.port) own.0 (eqb-refl e.port))) in
          let used : has_number e.slot (slots_used q e.port) ≡ true
          = among-number e.slot (slots_used q e.port)
          (among-back e.slot (slots_in_call e.port q.local) _ (among-front e.slot (slots_held q e.port) _ among)) in
          absurd (beyond (p.port e.port).pool e.slot ((stands.slots.pools e.port home).within e.slot used)
          (subst (λ i. (p.port i).pool ≤ e.slot) own.1 far))

  pub receiving : (local : Local) → PlaceStands p w.state.fixed q local → (LeavesNothing (message_at local) → ⊥) → IsReceiving local
  receiving (ReleaseLooks e) place leaves = aside_received e place.0 place.1
  receiving (ReleaseExchanges e old) place leaves = aside_received e place.0 place.1
  receiving local place leaves = absurd (leaves (leaving_none local tt))

-- ---- the law

module _ (p : Setting) (words words' : List ℕ) (players : ℕ → Player) (r : Run) (n : ℕ) (payload : List ℕ) (stands : Stands p words players r)
    (living : not_living r.last.state n ≡ None) where
  abbrev seats : ℕ → Seat
  seats = seats_of p players

  abbrev x : Seat
  x = (players n).seat

  abbrev seen_at : Seat → ℕ
  seen_at q = seen_by (program_access p.layout (program_of p q.local)) (word_of words)

  whole : Whole p stands.held (word_of words) stands.contents seats r.last
  whole = record {
    shows = stands.shows;
    layout = stands.layout;
    owners = stands.owners;
    rooms = stands.rooms;
    queues = stands.queues;
    nodes = stands.nodes;
  }

  -- what slots hold then
  abbrev H : ℕ → Holding
  H seen = HoldsNext p (shown p x) seen payload stands.held stands.contents

  abbrev Result : Type 0
  Result =
      LedTo (H (seen_at x)) p (word_of words') r.last (step_beats n payload (moment_at p stands.held x.local (seen_at x)) (tells p x (seen_at x)))
      (put_at seats n (shown p (next p x (seen_at x))))

  module _ (told : StepIsTold p stands.held r.last.state (shown p x) (seen_at x) payload)
      (made : AccessIsMade (program_access p.layout (program_of p x.local)) (word_of words) (word_of words')) where
    -- the node as it is shown runs the same
    runs : program_of p (shown p x).local ≡ program_of p x.local
    runs = shown_nodes_run_the_same p x

    same_seen : seen_at (shown p x) ≡ seen_at x
    same_seen = ap (λ (g : Program). seen_by (program_access p.layout g) (word_of words)) runs

    abbrev Both : Seat → ℕ → Type 0
    Both q seen =
        (ReturnsNothing q.local (message_at (advance p (accessed q) q.local seen).local)
        × LedTo (H seen) p (word_of words') r.last (step_beats n payload (moment_at p stands.held q.local seen) (tells p q seen)) (put_at seats n (next p q seen)))
        ⊎ (LeavesNothing (message_at q.local)
        × LedTo (H seen) p (word_of words') r.last (step_beats n payload (moment_at p stands.held q.local seen) (tells p q seen)) (put_at seats n (shown p (next p q seen))))

    both : Both (shown p x) (seen_at x)
    both =
        subst (Both (shown p x)) same_seen
        (done p stands.held (word_of words) (word_of words') stands.contents seats r.last n payload stands.numbers whole living
        (subst (λ k. StepIsTold p stands.held r.last.state (shown p x) k payload) (sym same_seen) told)
        (subst (λ g. AccessIsMade (program_access p.layout g) (word_of words) (word_of words')) (sym runs) made))

    -- a node that leaves nothing is shown as it is, and so it is then
    plainly : LeavesNothing (message_at x.local) → Result
    plainly leaves = by_part (subst (λ q. Both q (seen_at x)) (shown_same p x x.local leaves) both)
      where
        going : Seat
        going = advance p (accessed x) x.local (seen_at x)

        still : ReturnsNothing x.local (message_at (advance p (accessed x) x.local (seen_at x)).local) → (o : Option Ending)
            → shown p (closed p (advance p (accessed x) x.local (seen_at x)) o) ≡ closed p (advance p (accessed x) x.local (seen_at x)) o
        still returns (Some ending) = refl
        still returns None =
            shown_same p going going.local
            (leaves_nothing p (accessed x) x.local (seen_at x) going leaves returns (accesses_follow p (accessed x) (seen_at x)))

        by_part : Both x (seen_at x) → Result
        by_part (inl plain) =
            subst (λ q. LedTo (H (seen_at x)) p (word_of words') r.last (step_beats n payload (moment_at p stands.held x.local (seen_at x)) (tells p x (seen_at x))) (put_at seats n q))
            (sym (still plain.0 (ending_at going.local))) plain.1
        by_part (inr aside) = aside.1

    -- a release that gave its message back continues alike
    alike : IsReceiving x.local → Result
    alike received = by_part both
      where
        g : GoesAlike p stands.held (seen_at x) x
        g = goes_alike p stands.held (seen_at x) x x.local refl received

        by_part : Both (shown p x) (seen_at x) → Result
        by_part (inl plain) =
            subst (λ o. LedTo (H (seen_at x)) p (word_of words') r.last (step_beats n payload o (tells p x (seen_at x))) (put_at seats n (shown p (next p x (seen_at x))))) g.moment_is
            (subst (λ o. LedTo (H (seen_at x)) p (word_of words') r.last (step_beats n payload (moment_at p stands.held (shown p x).local (seen_at x)) o)
            (put_at seats n (shown p (next p x (seen_at x))))) g.tells_is
            (subst (λ q. LedTo (H (seen_at x)) p (word_of words') r.last (step_beats n payload (moment_at p stands.held (shown p x).local (seen_at x)) (tells p (shown p x) (seen_at x)))
            (put_at seats n q)) g.next_is plain.1))
        by_part (inr aside) = absurd (g.leaves aside.0)

    -- one or the other
    pub left_or_not : (local : Local) → IsOther local ⊎ IsLeft local
    left_or_not (ReleaseLooks e) = inr tt
    left_or_not (ReleaseExchanges e old) = inr tt
    left_or_not local = inl tt

    pub not_plain : (local : Local) → IsLeft local → LeavesNothing (message_at (shown_at p x local).local) → ⊥
    not_plain (ReleaseLooks e) left leaves = leaves
    not_plain (ReleaseExchanges e old) left leaves = leaves
    not_plain local left leaves = left

    pub as_received : (local : Local) → IsLeft local → IsReceiving (shown_at p x local).local → IsReceiving local
    as_received (ReleaseLooks e) left received = received
    as_received (ReleaseExchanges e old) left received = received
    as_received local left received = absurd left

    led : Result
    led = by_part (left_or_not x.local)
      where
        by_part : IsOther x.local ⊎ IsLeft x.local → Result
        by_part (inl other) = plainly (leaving_none x.local other)
        by_part (inr left) =
            alike (as_received x.local left
            (receiving p stands.held (word_of words) stands.contents seats r.last n whole stands.numbers living (shown p x).local (stands.nodes n living).names.place
            (not_plain x.local left)))

    -- ---- words, nodes and run

    abbrev player : Player
    player = player_next p (players n) (seen_at x)

    abbrev after_players : ℕ → Player
    after_players = put_at players n player

    by_seat : (k : ℕ) (b : Bool) → shown p (if b then player else players k).seat ≡ (if b then shown p (next p x (seen_at x)) else shown p (players k).seat)
    by_seat k true = refl
    by_seat k false = refl

    same_seats : seats_of p after_players ≡ put_at seats n (shown p (next p x (seen_at x)))
    same_seats = λ i k. by_seat k (k == n) i

    abbrev beats : List Beat
    beats = step_beats n payload (moment_at p stands.held x.local (seen_at x)) (tells p x (seen_at x))

    said : (k : ℕ) → (players k).said ++ (if n == k then said_with (tells p x (seen_at x)) else []) ≡ (after_players k).said
    said k = by_node (k == n) refl
      where
        by_node : (b : Bool) → (k == n) ≡ b
            → (players k).said ++ (if n == k then said_with (tells p x (seen_at x)) else []) ≡ (if b then player else players k).said
        by_node true is =
            subst (λ i. (players i).said ++ (if n == i then said_with (tells p x (seen_at x)) else []) ≡ (players n).said ++ said_with (tells p x (seen_at x))) (sym (eqb-true k n is))
            (ap (λ b. (players n).said ++ (if b then said_with (tells p x (seen_at x)) else [])) (eqb-refl n))
        by_node false is = ap (λ b. (players k).said ++ (if b then said_with (tells p x (seen_at x)) else [])) (eqb-flip k n is) ∙ last_empty (players k).said

    finish : length words' ≡ length words → Result
        → (after : Run) × GoesOnWith r (step_beats n payload (moment_at p stands.held x.local (seen_at x)) (tells p x (seen_at x))) after
        × (later : Stands p words' (put_at players n (player_next p (players n) (seen_at x))) after)
        × HoldsNext p (shown p x) (seen_at x) payload stands.held stands.contents later.held later.contents
    finish len to = (
      record {
        first = r.first;
        beats = r.beats ++ beats;
        last = to.2;
        opened = r.opened;
        woven = weave_all r.first r.last to.2 r.beats beats r.woven to.3;
      },
      record { first = refl; beats = refl; woven = to.3 },
      record {
        held = to.0;
        contents = to.1;
        shows = subst (λ ss. ShowsWorld p to.0 (word_of words') to.1 ss to.2) (sym same_seats) to.4.shows;
        length_is = len ∙ stands.length_is;
        layout = to.4.layout;
        owners = to.4.owners;
        numbers = stands.numbers;
        regions = stands.regions;
        rooms = to.4.rooms;
        queues = to.4.queues;
        nodes = λ k lives. subst (λ (ss : ℕ → Seat). NodeStands p to.0 to.2.state (ss k)) (sym same_seats) (to.4.nodes k lives);
        histories = λ k.
            history_more k r.beats beats ∙ ap (λ xs. xs ++ history k beats) (stands.histories k)
            ∙ ap (λ xs. (players k).said ++ xs) (said_then n k payload (moment_at p stands.held x.local (seen_at x)) (tells p x (seen_at x))) ∙ said k;
      },
      to.5,
    )

pub whole_steps_keep : WholeStepsKeep
whole_steps_keep p words words' players r n payload stands living told made len =
    finish p words words' players r n payload stands living told made len (led p words words' players r n payload stands living told made)
