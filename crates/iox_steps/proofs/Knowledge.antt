-- How what one party knows outlasts the accesses of the other.
use Rattle.std.proofs.Common.{◌≡◌, ℕ, ◌+◌, ◌<◌, ◌≤◌, List, [], ◌∷◌, length, get_or, ap, sym, ◌∙◌, arith, Option, Some, None}
use Rattle.iox_steps.specs.declared.site.QueueKind.{QueueKind}
use Rattle.iox_steps.specs.declared.site.QueueKind.TheVariants.{Index, Overflowing}
use Rattle.iox_steps.specs.declared.site.Site.{Site}
use Rattle.iox_steps.specs.declared.push.Push.TheVariants as push
use Rattle.iox_steps.specs.declared.push.FullLook.TheVariants as full_look
use Rattle.iox_steps.specs.declared.pop.Pop.TheVariants as pop
use Rattle.iox_steps.specs.declared.pop.EmptyLook.TheVariants as empty_look
use Rattle.iox_steps.specs.declared.side.Pushing.{Pushing}
use Rattle.iox_steps.specs.declared.side.Pushing.TheVariants as pushing
use Rattle.iox_steps.specs.declared.side.Popping.{Popping}
use Rattle.iox_steps.specs.declared.side.Popping.TheVariants as popping
use Rattle.iox_steps.specs.Accesses.{IsPlace}
use Rattle.iox_steps.specs.Sites.{cells, cell_at}
use Rattle.iox_steps.specs.Fits.{write_of, read_of, RoomKnows, PushingKnows, IsSeen, PoppingKnows}
use Rattle.iox_steps.proofs.Places.{capacity-cells, cells-overflowing, cell_place}

-- a push that is to publish has a free cell
pub free_cell : (site : Site) (word : ℕ → ℕ) (waiting : List ℕ) (full : Option ℕ) → length waiting ≤ site.capacity → RoomKnows site word waiting full
    → length waiting < cells site
free_cell site word waiting None bounded knows = omega (arith, knows, capacity-cells site)
free_cell site word waiting (Some read) bounded knows = omega (arith, cells-overflowing site knows.0)

-- where the read position stays, a read position that was seen stays so
pub seen_same : (site : Site) (word word' : ℕ → ℕ) (kind : QueueKind) (read : ℕ) → read_of site word' ≡ read_of site word → IsSeen site word kind read
    → IsSeen site word' kind read
seen_same site word word' Index read same seen = seen ∙ sym same
seen_same site word word' Overflowing read same seen = omega arith

-- and where an eviction moves it on
pub seen_later : (site : Site) (word word' : ℕ → ℕ) (kind : QueueKind) (read : ℕ) → kind ≡ Overflowing → read_of site word ≤ read_of site word'
    → IsSeen site word kind read → IsSeen site word' kind read
seen_later site word word' kind read overflows later seen = rw overflows (let seen' = rw overflows at seen in omega arith)

-- it is not passed
pub seen_before : (site : Site) (word : ℕ → ℕ) (kind : QueueKind) (read : ℕ) → IsSeen site word kind read → read ≤ read_of site word
seen_before site word Index read seen = omega arith
seen_before site word Overflowing read seen = seen

-- where the read position stays, a party that pops knows the first value; more may wait
module _ (site : Site) (word word' : ℕ → ℕ) (waiting waiting' : List ℕ) (same : read_of site word' ≡ read_of site word)
    (more : length waiting ≤ length waiting') (first : 0 < length waiting → get_or waiting' 0 0 ≡ get_or waiting 0 0) where
  pub popping_knows_more : (pops : Popping) → PoppingKnows site word waiting pops → PoppingKnows site word' waiting' pops
  popping_knows_more popping.AtRest knows = tt
  popping_knows_more (popping.Pops pop.LoadsRead) knows = tt
  popping_knows_more (popping.Pops (pop.LoadsWrite read)) knows =
      (seen_same site word word' site.kind read same knows.0, λ late. let had = knows.1 (omega arith) in omega arith)
  popping_knows_more (popping.Pops (pop.LoadsCell read cell)) knows = (seen_same site word word' site.kind read same knows.0, omega (arith, knows.1), knows.2)
  popping_knows_more (popping.Pops (pop.Takes read value)) knows =
      (seen_same site word word' site.kind read same knows.0, omega (arith, knows.1), λ at. knows.2 (at ∙ same) ∙ sym (first knows.1))
  popping_knows_more (popping.Looks empty_look.LoadsRead) knows = tt
  popping_knows_more (popping.Looks (empty_look.LoadsWrite read)) knows =
      (seen_same site word word' site.kind read same knows.0, λ late. let had = knows.1 (omega arith) in omega arith)

-- where an eviction takes the first, something is left
module _ (site : Site) (word word' : ℕ → ℕ) (waiting waiting' : List ℕ) (overflows : site.kind ≡ Overflowing)
    (moved : read_of site word' ≡ read_of site word + 1) (some : 0 < length waiting') where
  later : (read : ℕ) → IsSeen site word site.kind read → IsSeen site word' site.kind read
  later read seen = seen_later site word word' site.kind read overflows (omega arith) seen

  pub popping_knows_evicted : (pops : Popping) → PoppingKnows site word waiting pops → PoppingKnows site word' waiting' pops
  popping_knows_evicted popping.AtRest knows = tt
  popping_knows_evicted (popping.Pops pop.LoadsRead) knows = tt
  popping_knows_evicted (popping.Pops (pop.LoadsWrite read)) knows = (later read knows.0, λ late. some)
  popping_knows_evicted (popping.Pops (pop.LoadsCell read cell)) knows = (later read knows.0, some, knows.2)
  popping_knows_evicted (popping.Pops (pop.Takes read value)) knows =
      (later read knows.0, some, λ at. absurd (omega (arith, seen_before site word site.kind read knows.0)))
  popping_knows_evicted (popping.Looks empty_look.LoadsRead) knows = tt
  popping_knows_evicted (popping.Looks (empty_look.LoadsWrite read)) knows = (later read knows.0, λ late. some)

-- a party that pushes knows the write position, the free cell and the cell that it evicted; fewer may wait
module _ (site : Site) (word word' : ℕ → ℕ) (waiting waiting' hand : List ℕ) (same : write_of site word' ≡ write_of site word)
    (less : length waiting' ≤ length waiting) (later : read_of site word ≤ read_of site word')
    (cells_same : (at : ℕ) → IsPlace (site.base + 2) (cells site) at → word' at ≡ word at) where
  room_less : (full : Option ℕ) → RoomKnows site word waiting full → RoomKnows site word' waiting' full
  room_less None knows = omega (arith, knows)
  room_less (Some read) knows = (knows.0, omega (arith, knows.1), omega (arith, knows.2))

  pub pushing_knows_less : (pushes : Pushing) → PushingKnows site word waiting hand pushes → PushingKnows site word' waiting' hand pushes
  pushing_knows_less pushing.AtRest knows = (knows.0, omega (arith, knows.1))
  pushing_knows_less (pushing.Pushes (push.LoadsWrite value)) knows = (knows.0, omega (arith, knows.1))
  pushing_knows_less (pushing.Pushes (push.LoadsRead value write)) knows = ((knows.0.0, omega (arith, knows.0.1)), knows.1 ∙ sym same)
  pushing_knows_less (pushing.Pushes (push.StoresCell value cell next full)) knows =
      ((knows.0.0, omega (arith, knows.0.1)), (omega (arith, knows.1.0), knows.1.1), room_less full knows.2, knows.3 ∙ ap (cell_at site) (sym same))
  pushing_knows_less (pushing.Pushes (push.StoresWrite value next full)) knows =
      let free = free_cell site word waiting full knows.0.1 knows.2 in (
        (knows.0.0, omega (arith, knows.0.1)),
        (omega (arith, knows.1.0), knows.1.1),
        room_less full knows.2,
        rw same (cells_same (cell_at site (write_of site word)) (cell_place site (write_of site word) (omega arith)) ∙ knows.3),
      )
  pushing_knows_less (pushing.Pushes (push.Evicts read)) knows = (knows.0, knows.1, omega (arith, knows.2), omega (arith, knows.3))
  pushing_knows_less (pushing.Pushes (push.TakesOld cell)) knows =
      (knows.0 ∙ ap (λ v. v ∷ []) (sym (cells_same cell knows.3)), knows.1, omega (arith, knows.2), knows.3)
  pushing_knows_less (pushing.Looks full_look.LoadsWrite) knows = (knows.0, omega (arith, knows.1))
  pushing_knows_less (pushing.Looks (full_look.LoadsRead write)) knows = ((knows.0.0, omega (arith, knows.0.1)), knows.1 ∙ sym same)
