-- The place of a node bounds the access that comes next.
use Rattle.std.specs.Prelude.{Option}
use Rattle.std.proofs.Common.{◌≡◌, ℕ, ◌+◌, ◌<◌, ◌≤◌, Bool, if◌then◌else◌, ◌==◌, List, length, None, Some, true, false, refl, ap, subst, sym, ◌∙◌, arith}
use Rattle.iox_model.specs.declared.way.Way.{Way}
use Rattle.iox_steps.specs.declared.access.Access.{Access}
use Rattle.iox_steps.specs.declared.access.Next.{Next}
use Rattle.iox_steps.specs.declared.access.Next.TheVariants.{Ends, Goes}
use Rattle.iox_steps.specs.declared.push.FullLook.{FullLook}
use Rattle.iox_steps.specs.declared.push.FullLook.TheVariants as full_look
use Rattle.iox_steps.specs.declared.push.Push.TheVariants as push
use Rattle.iox_steps.specs.declared.push.PushReply.TheVariants.{Pushed, Refused}
use Rattle.iox_steps.specs.declared.pop.EmptyLook.{EmptyLook}
use Rattle.iox_steps.specs.declared.pop.EmptyLook.TheVariants as empty_look
use Rattle.iox_steps.specs.declared.pop.Pop.TheVariants as pop
use Rattle.iox_steps.specs.declared.side.Pushing.{Pushing}
use Rattle.iox_steps.specs.declared.side.Pushing.TheVariants as pushing
use Rattle.iox_steps.specs.declared.side.Popping.{Popping}
use Rattle.iox_steps.specs.declared.side.Popping.TheVariants as popping
use Rattle.iox_steps.specs.declared.site.QueueKind.{QueueKind}
use Rattle.iox_steps.specs.declared.site.QueueKind.TheVariants.{Index, Overflowing}
use Rattle.iox_steps.specs.declared.site.Site.{Site}
use Rattle.iox_steps.specs.Accesses.{IsWithin}
use Rattle.iox_steps.specs.Fits.{PoppingKnows, PushingKnows, write_of}
use Rattle.iox_steps.specs.Pops.{is_taken, take_access}
use Rattle.iox_steps.specs.Pushes.{full_at, full_look_next, is_refused, once_published}
use Rattle.iox_steps.specs.Pops.{empty_look_next}
use Rattle.iox_steps.specs.Sides.{in_empty_look, in_full_look, in_pop, in_push, popping_access, popping_after, pushing_access, pushing_after}
use Rattle.iox_steps.specs.Sites.{cell_at, cells, is_empty, is_full, last_position, size}
use Rattle.iox_steps.proofs.AccessLemmas.{within_wider}
use Rattle.iox_steps.proofs.Knowledge.{free_cell}
use Rattle.iox_steps.proofs.Places.{cell_place}
use Rattle.iox_word_map.specs.WordMaps.{IsPiece, IsQueue, IsResponseWay, Piece, QueueWords, Region, StateWord, WireQueue, piece_place, piece_size, total_words}
use Rattle.iox_word_map.proofs.Pieces.{piece_size-state, pieces_are_within}
use Rattle.iox_wire_keeps.specs.Fits.{IsSized, MayRun, WireContents, WordsFit}
use Rattle.iox_wire_keeps.specs.Nodes.{NodeStands}
use Rattle.iox_wire_keeps.specs.Locals.{program_of}
use Rattle.iox_wire_keeps.specs.Programs.{ExchangesState, LoadsState, LoadsWord, Pops, Program, Pushes, Rests, StoresState, StoresWord, WireLayout, popper_of, popping_in, program_access, pusher_of, pushing_in, site_of, state_place}
use Rattle.iox_wire_keeps.specs.Seat.{Seat}
use Rattle.iox_wire_keeps.specs.Shows.{programs_of}
use Rattle.iox_wire_keeps.specs.Stands.{seats_of, word_of}
use Rattle.iox_wire_keeps.proofs.Aside.{shown_nodes_run_the_same}
use Rattle.iox_wire_keeps.proofs.OwnedPlaces.{owners_may_access}
use Rattle.iox_wire_keeps.proofs.PieceLemmas.{same_queue-refl}
use Rattle.iox_wire_needs.specs.PlaceBounds.{CellsStay, IsBound, IsCell, NodesAreBound, PlacesBoundAccesses, PopsFromCell, PushesToCell}

-- ---- within the words of a queue

push_inside : (site : Site) (place : Pushing) → PushesToCell site place → IsWithin site.base (size site) (pushing_access site place)
push_inside site pushing.AtRest bound = tt
push_inside site (pushing.Pushes (push.LoadsWrite value)) bound = (omega arith, omega arith)
push_inside site (pushing.Pushes (push.LoadsRead value write)) bound = (omega arith, omega arith)
push_inside site (pushing.Pushes (push.StoresCell value cell next full)) bound = (omega (arith, bound.0), omega (arith, bound.1))
push_inside site (pushing.Pushes (push.StoresWrite value next full)) bound = (omega arith, omega arith)
push_inside site (pushing.Pushes (push.Evicts read)) bound = (omega arith, omega arith)
push_inside site (pushing.Pushes (push.TakesOld cell)) bound = (omega (arith, bound.0), omega (arith, bound.1))
push_inside site (pushing.Looks full_look.LoadsWrite) bound = (omega arith, omega arith)
push_inside site (pushing.Looks (full_look.LoadsRead write)) bound = (omega arith, omega arith)

take_inside : (site : Site) (kind : QueueKind) (read : ℕ) → IsWithin site.base (size site) (take_access kind (site.base + 1) read)
take_inside site Index read = (omega arith, omega arith)
take_inside site Overflowing read = (omega arith, omega arith)

pop_inside : (site : Site) (place : Popping) → PopsFromCell site place → IsWithin site.base (size site) (popping_access site place)
pop_inside site popping.AtRest bound = tt
pop_inside site (popping.Pops pop.LoadsRead) bound = (omega arith, omega arith)
pop_inside site (popping.Pops (pop.LoadsWrite read)) bound = (omega arith, omega arith)
pop_inside site (popping.Pops (pop.LoadsCell read cell)) bound = (omega (arith, bound.0), omega (arith, bound.1))
pop_inside site (popping.Pops (pop.Takes read value)) bound = take_inside site site.kind read
pop_inside site (popping.Looks empty_look.LoadsRead) bound = (omega arith, omega arith)
pop_inside site (popping.Looks (empty_look.LoadsWrite read)) bound = (omega arith, omega arith)

-- ---- within the words of a wire

module _ (p : WireLayout) (x : Piece) (there : IsPiece p.sizes x) (access : Access) where
  in_words : IsWithin (piece_place p.sizes x) (piece_size p.sizes x) access → IsWithin 0 (total_words p.sizes) access
  in_words within =
      let room : piece_place p.sizes x + piece_size p.sizes x ≤ total_words p.sizes = pieces_are_within p.sizes x there in
      within_wider access (piece_place p.sizes x) (piece_size p.sizes x) 0 (total_words p.sizes) (omega arith) (omega arith) within

module _ (p : WireLayout) (sized : IsSized p) where
  queue_words : (q : WireQueue) → IsQueue p.sizes q → (access : Access) → IsWithin (site_of p q).base (size (site_of p q)) access
      → IsWithin 0 (total_words p.sizes) access
  queue_words q there access inside =
      in_words p (QueueWords q) there access
      (subst (λ k. IsWithin (piece_place p.sizes (QueueWords q)) k access) (sized q there) inside)

  state_words : (way : Way) → IsResponseWay p.sizes way → (access : Access) → ((k : ℕ) → k ≡ 1 → IsWithin (state_place p way) k access)
      → IsWithin 0 (total_words p.sizes) access
  state_words way there access at =
      in_words p (StateWord way) there access (at (piece_size p.sizes (StateWord way)) (piece_size-state p.sizes way there))

  bounded : (program : Program) → IsBound p program → IsWithin 0 (total_words p.sizes) (program_access p program)
  bounded Rests bound = tt
  bounded (Pushes q place) bound = queue_words q bound.0 (pushing_access (site_of p q) place) (push_inside (site_of p q) place bound.1)
  bounded (Pops q place) bound = queue_words q bound.0 (popping_access (site_of p q) place) (pop_inside (site_of p q) place bound.1)
  bounded (LoadsState way) bound = state_words way bound (program_access p (LoadsState way)) (λ k one. (omega arith, omega (arith, one)))
  bounded (StoresState way value) bound = state_words way bound (program_access p (StoresState way value)) (λ k one. (omega arith, omega (arith, one)))
  bounded (ExchangesState way old new) bound = state_words way bound (program_access p (ExchangesState way old new)) (λ k one. (omega arith, omega (arith, one)))
  bounded (LoadsWord port number) bound = in_words p (Region port) bound.0 (program_access p (LoadsWord port number)) (omega arith, omega (arith, bound.1))
  bounded (StoresWord port number value) bound = in_words p (Region port) bound.0 (program_access p (StoresWord port number value)) (omega arith, omega (arith, bound.1))

pub places_bound_accesses : PlacesBoundAccesses
places_bound_accesses p program sized bound = bounded p sized program bound

-- ---- cells stay

module _ (site : Site) (seen : ℕ) (some : 0 < cells site) where
  cell : (position : ℕ) → IsCell site (cell_at site position)
  cell position = cell_place site position some

  positions : (b : Bool) (value write : ℕ) (full : Option ℕ)
      → PushesToCell site (in_push (if b then Ends (Refused value) else Goes (push.StoresCell value (cell_at site write) (write + 1) full)))
  positions true value write full = tt
  positions false value write full = cell write

  evicted : (b : Bool) (read : ℕ) → PushesToCell site (in_push (if b then Goes (push.TakesOld (cell_at site read)) else Ends Pushed))
  evicted true read = cell read
  evicted false read = tt

  published : (full : Option ℕ) → PushesToCell site (in_push (once_published full))
  published None = tt
  published (Some read) = tt

  looked : {R : Type 0} (next : Next FullLook R) → PushesToCell site (in_full_look next)
  looked (Goes place) = tt
  looked (Ends reply) = tt

  push_stays : (place : Pushing) → PushesToCell site (pushing_after site place seen)
  push_stays pushing.AtRest = tt
  push_stays (pushing.Pushes (push.LoadsWrite value)) = tt
  push_stays (pushing.Pushes (push.LoadsRead value write)) =
      positions (is_refused site.kind (write == last_position) (is_full site seen write)) value write (full_at (is_full site seen write) seen)
  push_stays (pushing.Pushes (push.StoresCell value at next full)) = tt
  push_stays (pushing.Pushes (push.StoresWrite value next full)) = published full
  push_stays (pushing.Pushes (push.Evicts read)) = evicted (seen == read) read
  push_stays (pushing.Pushes (push.TakesOld at)) = tt
  push_stays (pushing.Looks place) = looked (full_look_next site place seen)

  waits : (b : Bool) (read : ℕ) → PopsFromCell site (in_pop {R = Option ℕ} (if b then Ends None else Goes (pop.LoadsCell read (cell_at site read))))
  waits true read = tt
  waits false read = cell read

  takes : (b : Bool) (value : ℕ) → PopsFromCell site (in_pop {R = Option ℕ} (if b then Ends (Some value) else Goes (pop.LoadsCell seen (cell_at site seen))))
  takes true value = tt
  takes false value = cell seen

  empty_looked : {R : Type 0} (next : Next EmptyLook R) → PopsFromCell site (in_empty_look next)
  empty_looked (Goes place) = tt
  empty_looked (Ends reply) = tt

  pop_stays : (place : Popping) → PopsFromCell site (popping_after site place seen)
  pop_stays popping.AtRest = tt
  pop_stays (popping.Pops pop.LoadsRead) = tt
  pop_stays (popping.Pops (pop.LoadsWrite read)) = waits (is_empty site read seen) read
  pop_stays (popping.Pops (pop.LoadsCell read at)) = tt
  pop_stays (popping.Pops (pop.Takes read value)) = takes (is_taken site.kind read seen) value
  pop_stays (popping.Looks place) = empty_looked (empty_look_next site place seen)

pub cells_stay : CellsStay
cells_stay site seen some = (push_stays site seen some, pop_stays site seen some)

-- ---- what stands

push_known : (site : Site) (word : ℕ → ℕ) (waiting hand : List ℕ) (place : Pushing) → PushingKnows site word waiting hand place → PushesToCell site place
push_known site word waiting hand pushing.AtRest knows = tt
push_known site word waiting hand (pushing.Pushes (push.StoresCell value at next full)) knows =
    let free = free_cell site word waiting full knows.0.1 knows.2 in
    subst (IsCell site) (sym knows.3) (cell_place site (write_of site word) (omega arith))
push_known site word waiting hand (pushing.Pushes (push.TakesOld at)) knows = knows.3
push_known site word waiting hand (pushing.Pushes (push.LoadsWrite value)) knows = tt
push_known site word waiting hand (pushing.Pushes (push.LoadsRead value write)) knows = tt
push_known site word waiting hand (pushing.Pushes (push.StoresWrite value next full)) knows = tt
push_known site word waiting hand (pushing.Pushes (push.Evicts read)) knows = tt
push_known site word waiting hand (pushing.Looks place) knows = tt

pop_known : (site : Site) (word : ℕ → ℕ) (waiting : List ℕ) (place : Popping) → length waiting ≤ cells site → PoppingKnows site word waiting place
    → PopsFromCell site place
pop_known site word waiting popping.AtRest bounded knows = tt
pop_known site word waiting (popping.Pops pop.LoadsRead) bounded knows = tt
pop_known site word waiting (popping.Pops (pop.LoadsWrite read)) bounded knows = tt
pop_known site word waiting (popping.Pops (pop.LoadsCell read at)) bounded knows =
    let some = knows.1 in
    subst (IsCell site) (sym knows.2) (cell_place site read (omega arith))
pop_known site word waiting (popping.Pops (pop.Takes read value)) bounded knows = tt
pop_known site word waiting (popping.Looks place) bounded knows = tt

module _ (p : WireLayout) (word : ℕ → ℕ) (programs : ℕ → Program) (c : WireContents) (fits : WordsFit p word programs c) (n : ℕ) where
  known : (program : Program) → programs n ≡ program → MayRun p n program → IsBound p program
  known Rests is may = tt
  known (Pushes q place) is may =
      let f = (fits.queues q may.0).1 in
      let same : pushing_in q (programs (pusher_of p q)) ≡ place = ap (λ k. pushing_in q (programs k)) may.1 ∙ ap (pushing_in q) is ∙ pushed q place in (
        may.0,
        push_known (site_of p q) word (c.queues q).waiting (c.queues q).hand place
            (subst (PushingKnows (site_of p q) word (c.queues q).waiting (c.queues q).hand) same f.push),
      )
    where
      pushed : (q : WireQueue) (place : Pushing) → pushing_in q (Pushes q place) ≡ place
      pushed q place = rw (same_queue-refl q) refl
  known (Pops q place) is may =
      let f = (fits.queues q may.0).1 in
      let same : popping_in q (programs (popper_of p q)) ≡ place = ap (λ k. popping_in q (programs k)) may.1 ∙ ap (popping_in q) is ∙ popped q place in (
        may.0,
        pop_known (site_of p q) word (c.queues q).waiting place (f.ring.bounded)
            (subst (PoppingKnows (site_of p q) word (c.queues q).waiting) same f.pop),
      )
    where
      popped : (q : WireQueue) (place : Popping) → popping_in q (Pops q place) ≡ place
      popped q place = rw (same_queue-refl q) refl
  known (LoadsState way) is may = may
  known (StoresState way value) is may = may
  known (ExchangesState way old new) is may = may
  known (LoadsWord port number) is may = may
  known (StoresWord port number value) is may = may

pub nodes_are_bound : NodesAreBound
nodes_are_bound p words players r n wire lives =
    let z : Seat = seats_of p players n in
    let node : NodeStands p wire.stands.held r.last.state z = wire.stands.nodes n lives in
    let may : MayRun p.layout n (program_of p z.local)
    = subst (λ k. MayRun p.layout k (program_of p z.local)) (wire.stands.shows.node n)
    (owners_may_access p wire.stands.held r.last.state z node.owns.owns node.tells).0.may_run in
    subst (IsBound p.layout) (shown_nodes_run_the_same p (players n).seat)
    (known p.layout (word_of words) (programs_of p (seats_of p players)) wire.stands.contents wire.stands.shows.words n (program_of p z.local) refl may)
