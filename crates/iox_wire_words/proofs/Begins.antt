-- Programs that begin change no word, and empty queues fit.
use Rattle.std.proofs.Common.{◌≡◌, ℕ, ◌⊎◌, ◌==◌, List, refl, ap, sym, ◌∙◌, inl, inr, eqb-true}
use Rattle.std.proofs.lemmas.Bool.{cases_Bool}
use Rattle.iox_word_map.specs.Maps.{put_at}
use Rattle.iox_steps.specs.declared.site.Site.{Site}
use Rattle.iox_steps.specs.declared.side.Pushing.{Pushing}
use Rattle.iox_steps.specs.declared.side.Pushing.TheVariants as pushing
use Rattle.iox_steps.specs.declared.side.Popping.{Popping}
use Rattle.iox_steps.specs.declared.side.Popping.TheVariants as popping
use Rattle.iox_steps.specs.Sides.{pushing_rested, popping_rested}
use Rattle.iox_steps.specs.Fits.{Fits}
use Rattle.iox_steps.proofs.Begins.{pushing_begins, popping_begins}
use Rattle.iox_steps.proofs.Frames.{fits_empty}
use Rattle.iox_word_map.specs.WordMaps.{WireQueue}
use Rattle.iox_wire_words.specs.Programs.{same_queue, site_of, pusher_of, popper_of, Program, Rests, Pushes, Pops, LoadsState, StoresState, ExchangesState, LoadsWord, StoresWord, pushing_in, popping_in}
use Rattle.iox_wire_words.specs.BeginLaws.{IsOver, HasMadeNoAccess, BeginsKeepTheWords, EmptyQueuesFit}

-- ---- a program that is over, and one that is fresh, in any queue

over_push : (q : WireQueue) (program : Program) → IsOver program → pushing_in q program ≡ pushing.AtRest
over_push q (Pushes r place) over = elim (cases_Bool (same_queue q r)) [ inl same ↦ rw same over | inr other ↦ rw other refl ]
over_push q Rests over = refl
over_push q (Pops r place) over = refl
over_push q (LoadsState way) over = refl
over_push q (StoresState way value) over = refl
over_push q (ExchangesState way old new) over = refl
over_push q (LoadsWord port number) over = refl
over_push q (StoresWord port number value) over = refl

over_pop : (q : WireQueue) (program : Program) → IsOver program → popping_in q program ≡ popping.AtRest
over_pop q (Pops r place) over = elim (cases_Bool (same_queue q r)) [ inl same ↦ rw same over | inr other ↦ rw other refl ]
over_pop q Rests over = refl
over_pop q (Pushes r place) over = refl
over_pop q (LoadsState way) over = refl
over_pop q (StoresState way value) over = refl
over_pop q (ExchangesState way old new) over = refl
over_pop q (LoadsWord port number) over = refl
over_pop q (StoresWord port number value) over = refl

fresh_push : (q : WireQueue) (program : Program) → HasMadeNoAccess program → pushing_rested (pushing_in q program) ≡ pushing.AtRest
fresh_push q (Pushes r place) fresh = elim (cases_Bool (same_queue q r)) [ inl same ↦ rw same fresh | inr other ↦ rw other refl ]
fresh_push q Rests fresh = refl
fresh_push q (Pops r place) fresh = refl
fresh_push q (LoadsState way) fresh = refl
fresh_push q (StoresState way value) fresh = refl
fresh_push q (ExchangesState way old new) fresh = refl
fresh_push q (LoadsWord port number) fresh = refl
fresh_push q (StoresWord port number value) fresh = refl

fresh_pop : (q : WireQueue) (program : Program) → HasMadeNoAccess program → popping_rested (popping_in q program) ≡ popping.AtRest
fresh_pop q (Pops r place) fresh = elim (cases_Bool (same_queue q r)) [ inl same ↦ rw same fresh | inr other ↦ rw other refl ]
fresh_pop q Rests fresh = refl
fresh_pop q (Pushes r place) fresh = refl
fresh_pop q (LoadsState way) fresh = refl
fresh_pop q (StoresState way value) fresh = refl
fresh_pop q (ExchangesState way old new) fresh = refl
fresh_pop q (LoadsWord port number) fresh = refl
fresh_pop q (StoresWord port number value) fresh = refl

-- ---- what the new program shows of its node, once rested, and of all others what they showed

rested_kept : {A P : Type 0} (read : P → A) (rested : A → A) (programs : ℕ → P) (n i : ℕ) (new : P)
    → rested (read new) ≡ read (programs n)
    → (rested (read (put_at programs n new i)) ≡ read (programs i)) ⊎ (read (put_at programs n new i) ≡ read (programs i))
rested_kept read rested programs n i new same = elim (cases_Bool (i == n)) [
  | inl here ↦ inl (rw here (same ∙ ap (λ k. read (programs k)) (sym (eqb-true i n here))))
  | inr other ↦ inr (rw other refl)
]

push_begun : (site : Site) (word : ℕ → ℕ) (waiting hand : List ℕ) (old new : Pushing) (pops : Popping)
    → (pushing_rested new ≡ old) ⊎ (new ≡ old) → Fits site word waiting hand old pops → Fits site word waiting hand new pops
push_begun site word waiting hand old new pops (inl same) fits = pushing_begins site word waiting hand new pops (rw same fits)
push_begun site word waiting hand old new pops (inr same) fits = rw same fits

pop_begun : (site : Site) (word : ℕ → ℕ) (waiting hand : List ℕ) (pushes : Pushing) (old new : Popping)
    → (popping_rested new ≡ old) ⊎ (new ≡ old) → Fits site word waiting hand pushes old → Fits site word waiting hand pushes new
pop_begun site word waiting hand pushes old new (inl same) fits = popping_begins site word waiting hand pushes new (rw same fits)
pop_begun site word waiting hand pushes old new (inr same) fits = rw same fits

pub begins_keep_the_words : BeginsKeepTheWords
begins_keep_the_words p word programs c n program over fresh fits = record {
  queues = λ q is.
      let pushes = rested_kept (pushing_in q) pushing_rested programs n (pusher_of p q) program (fresh_push q program fresh ∙ sym (over_push q (programs n) over)) in
      let pops = rested_kept (popping_in q) popping_rested programs n (popper_of p q) program (fresh_pop q program fresh ∙ sym (over_pop q (programs n) over)) in
      let state = c.queues q in (
        (fits.queues q is).0,
        push_begun (site_of p q) word state.waiting state.hand _ _ _ pushes
            (pop_begun (site_of p q) word state.waiting state.hand _ _ _ pops (fits.queues q is).1),
      );
  states = fits.states;
  regions = fits.regions;
}

pub empty_queues_fit : EmptyQueuesFit
empty_queues_fit p word empty = record {
  queues = λ q is. (refl, fits_empty (site_of p q) word (empty q is).0 (empty q is).1 (empty q is).2);
  states = λ y way. refl;
  regions = λ port k has below. refl;
}
