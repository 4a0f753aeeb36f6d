-- Each access of the party that pops keeps what the words say, and is one event.
use Rattle.std.proofs.Common.{◌≡◌, ℕ, ◌+◌, ◌<◌, List, [], ◌∷◌, length, get_or, refl, ap, sym, inl, inr, arith, eqb, true, false, subst}
use Rattle.std.proofs.lemmas.List.{nil_from_length}
use Rattle.std.proofs.lemmas.Bool.{cases_lt, cases_Bool, leb-true, leb-false, eqb-true}
use Rattle.iox_steps.specs.declared.site.QueueKind.{QueueKind}
use Rattle.iox_steps.specs.declared.site.QueueKind.TheVariants.{Index, Overflowing}
use Rattle.iox_steps.specs.declared.site.Site.{Site}
use Rattle.iox_steps.specs.declared.pop.Pop.TheVariants as pop
use Rattle.iox_steps.specs.declared.pop.EmptyLook.TheVariants as empty_look
use Rattle.iox_steps.specs.declared.side.Pushing.{Pushing}
use Rattle.iox_steps.specs.declared.side.Popping.{Popping}
use Rattle.iox_steps.specs.declared.side.Popping.TheVariants as popping
use Rattle.iox_steps.specs.Accesses.{put}
use Rattle.iox_steps.specs.Sites.{position_after, is_empty}
use Rattle.iox_steps.specs.Pops.{is_taken, take_access}
use Rattle.iox_steps.specs.Events.{rest}
use Rattle.iox_steps.specs.Fits.{write_of, read_of, Ring, IsSeen, PoppingKnows, Fits}
use Rattle.iox_steps.specs.Laws.{popping_turn}
use Rattle.iox_steps.proofs.Places.{cases_kind}
use Rattle.iox_steps.proofs.Knowledge.{seen_before, pushing_knows_less}
use Rattle.iox_steps.proofs.PushSteps.{StepsTo, taken, write_kept, read_moved, cells_kept}

-- what was seen just now is the read position
seen_now : (site : Site) (word : ℕ → ℕ) (kind : QueueKind) → IsSeen site word kind (read_of site word)
seen_now site word Index = refl
seen_now site word Overflowing = omega arith

module _ (site : Site) (word : ℕ → ℕ) where
  -- the party that pops is elsewhere
  pops_on : {waiting hand : List ℕ} {pushes : Pushing} {pops pops' : Popping} → Fits site word waiting hand pushes pops
      → PoppingKnows site word waiting pops' → Fits site word waiting hand pushes pops'
  pops_on fits knows = record { some = fits.some; position = fits.position; ring = fits.ring; push = fits.push; pop = knows }

  -- a look at the write position shows whether something waits
  empty_shows : (waiting : List ℕ) (read : ℕ) → Ring site word waiting → IsSeen site word site.kind read
      → is_empty site read (write_of site word) ≡ true → waiting ≡ []
  empty_shows waiting read ring seen empty =
      let counts = ring.counts in
      let before = seen_before site word site.kind read seen in
      nil_from_length waiting (omega (arith, leb-true _ _ empty))

  waiting_shows : (waiting : List ℕ) (read : ℕ) → Ring site word waiting → (read < read_of site word → 0 < length waiting)
      → is_empty site read (write_of site word) ≡ false → 0 < length waiting
  waiting_shows waiting read ring late more =
      let counts = ring.counts in
      elim (cases_lt read (read_of site word)) [
        | inl before ↦ late before
        | inr now ↦ omega (arith, leb-false _ _ more)
      ]

  -- the access that takes the first value
  takes : (waiting hand : List ℕ) (value : ℕ) (pushes : Pushing) (pops : Popping) → Fits site word waiting hand pushes pops → 0 < length waiting
      → value ≡ get_or waiting 0 0
      → (waiting ≡ value ∷ rest waiting) × Fits site (put word (site.base + 1) (position_after (read_of site word))) (rest waiting) hand pushes popping.AtRest
  takes [] hand value pushes pops fits some is_first = absurd (omega arith)
  takes (first ∷ others) hand value pushes pops fits some is_first =
      let ring = fits.ring in
      let position = fits.position in
      let write_same = write_kept site word first others ring position in
      let read_new = read_moved site word first others ring position in (
        ap (λ v. v ∷ others) (sym is_first),
        record {
          some = fits.some;
          position = rw write_same position;
          ring = taken site word first others ring position;
          push =
              pushing_knows_less site word (put word (site.base + 1) (position_after (read_of site word))) (first ∷ others) others hand write_same
              (omega arith) (omega arith) (cells_kept site word first others ring position) pushes fits.push;
          pop = tt;
        },
      )

  pub popping_step : (waiting hand : List ℕ) (pushes : Pushing) (pops : Popping)
      → Fits site word waiting hand pushes pops → StepsTo site word waiting hand (popping_turn site word pushes pops)
  popping_step waiting hand pushes popping.AtRest fits = (tt, fits)
  popping_step waiting hand pushes (popping.Pops pop.LoadsRead) fits = (tt, pops_on fits (seen_now site word site.kind, λ late. absurd (omega arith)))
  popping_step waiting hand pushes (popping.Pops (pop.LoadsWrite read)) fits =
      elim (cases_Bool (is_empty site read (write_of site word))) [
        | inl empty ↦ rw empty (empty_shows waiting read fits.ring fits.pop.0 empty, pops_on fits tt)
        | inr more ↦ (let some = waiting_shows waiting read fits.ring fits.pop.1 more in rw more (some, pops_on fits (fits.pop.0, some, refl)))
      ]
  popping_step waiting hand pushes (popping.Pops (pop.LoadsCell read cell)) fits = (
    tt,
    pops_on fits (
      fits.pop.0,
      fits.pop.1,
      λ now.
          let here : read_of site word + 0 ≡ read = omega arith in
          rw fits.pop.2 (rw here at (fits.ring.items 0 fits.pop.1)),
    ),
  )
  popping_step waiting hand pushes (popping.Pops (pop.Takes read value)) fits =
      elim (cases_kind site.kind) [
        | inl kind ↦ (
            let at : read ≡ read_of site word = subst (λ k. IsSeen site word k read) kind fits.pop.0 in
            let asks = ap (λ k. take_access k (site.base + 1) read) kind in
            let is = ap (λ k. is_taken k read (read_of site word)) kind in
            rw (asks, is, at) (takes waiting hand value pushes _ fits fits.pop.1 (fits.pop.2 at))
            )
        | inr kind ↦ (
            let asks = ap (λ k. take_access k (site.base + 1) read) kind in
            let is = ap (λ k. is_taken k read (read_of site word)) kind in
            elim (cases_Bool (eqb (read_of site word) read)) [
              | inl hit ↦ (let at = eqb-true _ _ hit in rw (asks, is, hit, ← at) (takes waiting hand value pushes _ fits fits.pop.1 (fits.pop.2 (sym at))))
              | inr missed ↦ rw (asks, is, missed) (tt, pops_on fits (seen_now site word site.kind, fits.pop.1, refl))
            ]
            )
      ]
  popping_step waiting hand pushes (popping.Looks empty_look.LoadsRead) fits = (tt, pops_on fits (seen_now site word site.kind, λ late. absurd (omega arith)))
  popping_step waiting hand pushes (popping.Looks (empty_look.LoadsWrite read)) fits =
      elim (cases_Bool (is_empty site read (write_of site word))) [
        | inl empty ↦ rw empty (empty_shows waiting read fits.ring fits.pop.0 empty, pops_on fits tt)
        | inr more ↦ rw more (waiting_shows waiting read fits.ring fits.pop.1 more, pops_on fits tt)
      ]
