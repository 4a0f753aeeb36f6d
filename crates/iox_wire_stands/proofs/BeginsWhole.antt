-- The begin of a call: words, all nodes and the machine stand again.
use Rattle.std.specs.Prelude.{◌++◌}
use Rattle.std.proofs.Common.{◌≡◌, ℕ, Bool, true, false, if◌then◌else◌, ◌==◌, List, [], ◌∷◌, None, refl, ap, sym, subst, ◌∙◌, eqb-true}
use Rattle.iox_model.specs.Commands.{WireCall}
use Rattle.iox_model.specs.Joins.{not_living}
use Rattle.iox_model.specs.Loans.{Choice}
use Rattle.iox_model.specs.Maps.{put_at}
use Rattle.iox_model.specs.Weaves.{Begins, IsBeat, World, begin_refusal, begun}
use Rattle.iox_laws.proofs.WeaveLaws.CallLaws.{eqb-flip}
use Rattle.iox_laws.proofs.WeaveLaws.MapLemmas.{eqb-refl}
use Rattle.iox_laws.proofs.WeaveLaws.WholeLemmas.{or_else-none}
use Rattle.iox_wire_words.specs.Fits.{WireContents}
use Rattle.iox_wire_moments.specs.MomentsOf.{Pools}
use Rattle.iox_wire_locals.specs.declared.seat.Seat.{Seat}
use Rattle.iox_wire_locals.specs.Begins.{begin}
use Rattle.iox_wire_locals.specs.Tables.{Setting}
use Rattle.iox_wire_laws.specs.WireKeeping.Readiness.{IsReady, choice_for}
use Rattle.iox_wire_laws.specs.WireKeeping.Shows.{ShowsWorld}
use Rattle.iox_wire_laws.specs.WireHolding.Aside.{shown}
use Rattle.iox_wire_laws.specs.WireHolding.HeldSteps.{FreeSlotsAreUnnamed}
use Rattle.iox_wire_laws.specs.WireHolding.Holding.{held_at}
use Rattle.iox_wire_laws.proofs.WireHolding.FreeSlots.{free_slots_are_nobodys}
use Rattle.iox_wire_laws.proofs.WireHolding.HeldBegins.{begins_show_what_is_held}
use Rattle.iox_wire_stands.specs.BeginLaws.{BeginsKeep, MayBegin}
use Rattle.iox_wire_stands.specs.Following.{LeavesNothing, message_at}
use Rattle.iox_wire_stands.specs.Nodes.{NodeStands}
use Rattle.iox_wire_stands.specs.Runs.{Asked, GoesOnBy, Run, Said, history, said_in}
use Rattle.iox_wire_stands.specs.Stands.{AreNumbered, Player, Stands, seats_of, word_of}
use Rattle.iox_wire_stands.proofs.BeginsKept.{begins_change_one_slot, begins_keep_nodes, begins_leave_nothing}
use Rattle.iox_wire_stands.proofs.OthersHold.{others_hold}
use Rattle.iox_wire_stands.proofs.Readiness.{nodes_are_ready}
use Rattle.iox_wire_stands.proofs.Runs.{history_on, last_empty, run_on}
use Rattle.iox_wire_stands.proofs.StepsAround.{Whole}
use Rattle.iox_wire_stands.proofs.StepsKept.{shown_same}

-- ---- the whole wire

module _ (p : Setting) (held : Pools) (word : ℕ → ℕ) (c : WireContents) (seats : ℕ → Seat) (w : World) (n : ℕ) (call : WireCall)
    (numbered : AreNumbered p) (whole : Whole p held word c seats w) (may : MayBegin p held w.state (seats n) call) (free : begin_refusal w n call ≡ None) where
  abbrev x : Seat
  x = seats n

  abbrev y : Seat
  y = begin p x call

  abbrev new : Pools
  new = held_at p held y.local

  abbrev u : World
  u = begun w n (choice_for p x call) call

  living : not_living w.state n ≡ None
  living = (or_else-none _ _ free).0

  mine : NodeStands p held w.state x
  mine = whole.nodes n living

  ready : IsReady p held w x
  ready = nodes_are_ready p held word c seats w n call whole.shows living whole.owners numbered mine may

  unnamed : FreeSlotsAreUnnamed p c seats w.state x
  unnamed =
      free_slots_are_nobodys p held word c seats w n whole.shows whole.layout (λ k lives. (whole.nodes k lives).names) living mine.slots

  shows : IsBeat w (Begins n call (choice_for p x call)) u × ShowsWorld p new word c (put_at seats n y) u
  shows = begins_show_what_is_held p held word c seats w n call whole.shows ready unnamed free

  node : (k : ℕ) (b : Bool) → (k == n) ≡ b → not_living w.state k ≡ None → NodeStands p new w.state (if b then y else seats k)
  node k true is lives = begins_keep_nodes p held w x call whole.layout mine ready may
  node k false is lives =
      others_hold p held new word c seats w n whole.shows mine.slots.desks unnamed (begins_change_one_slot p held w x call whole.layout mine ready may) k is lives
      w.state (whole.nodes k lives)

  begins : IsBeat w (Begins n call (choice_for p x call)) u × Whole p new word c (put_at seats n y) u
  begins = (
    shows.0,
    record {
      shows = shows.1;
      layout = whole.layout;
      owners = whole.owners;
      rooms = whole.rooms;
      queues = whole.queues;
      nodes = λ k lives. node k (k == n) refl lives;
    },
  )

-- ---- the law

module _ (p : Setting) (words : List ℕ) (players : ℕ → Player) (r : Run) (n : ℕ) (call : WireCall) (stands : Stands p words players r)
    (may : MayBegin p stands.held r.last.state (players n).seat call) (free : begin_refusal r.last n call ≡ None) where
  abbrev seats : ℕ → Seat
  seats = seats_of p players

  abbrev z : Seat
  z = begin p (players n).seat call

  abbrev chosen : Seat → Choice
  chosen q = choice_for p q call

  -- at rest nothing is put aside
  here : seats n ≡ (players n).seat
  here =
      shown_same p (players n).seat (players n).seat.local
      (subst LeavesNothing (sym (ap message_at may.rests)) tt)

  abbrev Result : Seat → Type 0
  Result q =
      IsBeat r.last (Begins n call (chosen q)) (begun r.last n (chosen q) call)
      × Whole p (held_at p stands.held (begin p q call).local) (word_of words) stands.contents (put_at seats n (begin p q call))
      (begun r.last n (chosen q) call)

  whole : Whole p stands.held (word_of words) stands.contents seats r.last
  whole = record {
    shows = stands.shows;
    layout = stands.layout;
    owners = stands.owners;
    rooms = stands.rooms;
    queues = stands.queues;
    nodes = stands.nodes;
  }

  result : Result (players n).seat
  result =
      subst Result here
      (begins p stands.held (word_of words) stands.contents seats r.last n call stands.numbers whole
      (subst (λ q. MayBegin p stands.held r.last.state q call) (sym here) may) free)

  abbrev player : Player
  player = record { seat = z; said = (players n).said ++ Asked call ∷ [] }

  abbrev after_players : ℕ → Player
  after_players = put_at players n player

  by_seat : (k : ℕ) (b : Bool) → shown p (if b then player else players k).seat ≡ (if b then z else shown p (players k).seat)
  by_seat k true = shown_same p z z.local (begins_leave_nothing p (players n).seat call)
  by_seat k false = refl

  same_seats : seats_of p after_players ≡ put_at seats n z
  same_seats = λ i k. by_seat k (k == n) i

  abbrev beat_said : ℕ → List Said
  beat_said k = said_in k (Begins n call (chosen (players n).seat))

  said : (k : ℕ) → (players k).said ++ beat_said k ≡ (after_players k).said
  said k = by_node (k == n) refl
    where
      by_node : (b : Bool) → (k == n) ≡ b → (players k).said ++ (if n == k then Asked call ∷ [] else []) ≡ (if b then player else players k).said
      by_node true is =
          subst (λ i. (players i).said ++ (if n == i then Asked call ∷ [] else []) ≡ (players n).said ++ Asked call ∷ []) (sym (eqb-true k n is))
          (ap (λ b. (players n).said ++ (if b then Asked call ∷ [] else [])) (eqb-refl n))
      by_node false is =
          ap (λ b. (players k).said ++ (if b then Asked call ∷ [] else [])) (eqb-flip k n is) ∙ last_empty (players k).said

  abbrev to_stands : (next : Run) → Whole p (held_at p stands.held z.local) (word_of words) stands.contents (put_at seats n z) next.last
      → ((k : ℕ) → history k next.beats ≡ (after_players k).said) → Stands p words after_players next
  to_stands next w histories = record {
    held = held_at p stands.held z.local;
    contents = stands.contents;
    shows = subst (λ ss. ShowsWorld p (held_at p stands.held z.local) (word_of words) stands.contents ss next.last) (sym same_seats) w.shows;
    length_is = stands.length_is;
    layout = w.layout;
    owners = w.owners;
    numbers = stands.numbers;
    regions = stands.regions;
    rooms = w.rooms;
    queues = w.queues;
    nodes = λ k lives. subst (λ (ss : ℕ → Seat). NodeStands p (held_at p stands.held z.local) next.last.state (ss k)) (sym same_seats) (w.nodes k lives);
    histories = histories;
  }

  done : (next : Run) × GoesOnBy r (Begins n call (chosen (players n).seat)) next × (later : Stands p words after_players next)
      × (later.held ≡ held_at p stands.held z.local) × (later.contents ≡ stands.contents)
  done =
      let b = Begins n call (chosen (players n).seat) in
      let on = run_on r b (begun r.last n (chosen (players n).seat) call) result.0 in (
        on.0,
        on.1,
        to_stands on.0
            (subst (Whole p (held_at p stands.held z.local) (word_of words) stands.contents (put_at seats n z)) (sym on.2) result.1)
            (λ k. ap (history k) on.1.beats ∙ history_on k r.beats b ∙ ap (λ xs. xs ++ beat_said k) (stands.histories k) ∙ said k),
        refl,
        refl,
      )

pub begins_keep : BeginsKeep
begins_keep p words players r n call stands may free = done p words players r n call stands may free
