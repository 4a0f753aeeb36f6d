-- Each access of a call of a party at a value tells of the call's own value.
use Rattle.std.specs.Prelude.{List, [], ◌∷◌, Some}
use Rattle.std.proofs.Common.{◌≡◌, ℕ, ◌⊎◌, refl, ap, subst, inl, inr, ltb}
use Rattle.std.proofs.lemmas.Bool.{cases_eq, cases_Bool, eq-eqb, ne_eqb}
use Rattle.iox_steps.specs.declared.access.Next.{Next}
use Rattle.iox_steps.specs.declared.access.Next.TheVariants.{Goes, Ends}
use Rattle.iox_set_steps.specs.declared.unrestricted_atomic.AtomicCall.{AtomicCall}
use Rattle.iox_set_steps.specs.declared.unrestricted_atomic.AtomicCall.TheVariants.{Store, Load}
use Rattle.iox_set_steps.specs.declared.unrestricted_atomic.AtomicReply.{AtomicReply}
use Rattle.iox_set_steps.specs.declared.unrestricted_atomic.AtomicEvent.TheVariants as event
use Rattle.iox_set_steps.specs.declared.unrestricted_atomic.AtomicProgram.{AtomicProgram}
use Rattle.iox_set_steps.specs.declared.unrestricted_atomic.AtomicProgram.TheVariants.{AtRest, LoadsToStore, StoresWord, Raises, LoadsToLoad, LoadsWord, LoadsAgain}
use Rattle.iox_set_steps.specs.Values.{version_now}
use Rattle.iox_set_steps.specs.AtomicPrograms.{last_version, index_behind, atomic_next, stores_from, loads_from, program_of}
use Rattle.iox_set_steps.specs.AtomicPlays.{atomic_start}
use Rattle.iox_set_steps.specs.AtomicCalls.{AtomicTurn, IsDoing, Tells, seen_in_words, turn_of, program_after, RepliesTellOfTheirValues}

module _ (size base : ℕ) where
  stores_doing : (list : List ℕ) (version index : ℕ) → IsDoing (Store list) (stores_from size list version index)
  stores_doing list version index = elim (cases_Bool (ltb index size)) [ inl more ↦ rw (more) refl | inr last ↦ rw (last) refl ]

  loads_doing : (version : ℕ) (list : List ℕ) (index : ℕ) → IsDoing Load (loads_from size version list index)
  loads_doing version list index = elim (cases_Bool (ltb index size)) [ inl more ↦ rw (more) tt | inr last ↦ rw (last) tt ]

  module _ (words : List ℕ) where
    -- of the program that has the call's own value
    own_tells : (list : List ℕ) → Tells size base (Store list) (turn_of size base (LoadsToStore list) words) (atomic_next size (LoadsToStore list)
        (version_now base words))
    own_tells list = elim (cases_eq (version_now base words) last_version) [
      | inl last ↦ rw (eq-eqb _ _ last) (refl, last)
      | inr more ↦ rw (ne_eqb _ _ more) (refl, stores_doing list (version_now base words) 0)
    ]

    again_tells : (version : ℕ) (list : List ℕ)
        → Tells size base Load (turn_of size base (LoadsAgain version list) words) (atomic_next size (LoadsAgain version list) (version_now base words))
    again_tells version list = elim (cases_eq (version_now base words) version) [
      | inl stands ↦ rw (eq-eqb _ _ stands) refl
      | inr moved ↦ rw (ne_eqb _ _ moved) (refl, loads_doing (version_now base words) list 0)
    ]

    pub atomic_tells : (call : AtomicCall size) (program : AtomicProgram size) → IsDoing call program
        → Tells size base call (turn_of size base program words) (atomic_next size program (seen_in_words size base program words))
    atomic_tells (Store list) (LoadsToStore own) doing =
        subst (λ l. Tells size base (Store l) (turn_of size base (LoadsToStore own) words) (atomic_next size (LoadsToStore own)
        (version_now base words))) doing (own_tells own)
    atomic_tells (Store list) (StoresWord own version index) doing = (
      refl,
      subst (λ l. IsDoing (Store l) (stores_from size own version
          (index_behind index))) doing (stores_doing own version (index_behind index)),
    )
    atomic_tells (Store list) (Raises own version) doing = ap (λ l. Some (event.Stored l)) doing
    atomic_tells (Store list) AtRest doing = absurd doing
    atomic_tells (Store list) LoadsToLoad doing = absurd doing
    atomic_tells (Store list) (LoadsWord version own index) doing = absurd doing
    atomic_tells (Store list) (LoadsAgain version own) doing = absurd doing
    atomic_tells Load LoadsToLoad doing = (refl, loads_doing _ _ 0)
    atomic_tells Load (LoadsWord version list index) doing = (refl, loads_doing _ _ (index_behind index))
    atomic_tells Load (LoadsAgain version list) doing = again_tells version list
    atomic_tells Load AtRest doing = absurd doing
    atomic_tells Load (LoadsToStore own) doing = absurd doing
    atomic_tells Load (StoresWord own version index) doing = absurd doing
    atomic_tells Load (Raises own version) doing = absurd doing

  pub start_doing : (call : AtomicCall size) → IsDoing call (atomic_start call)
  start_doing (Store list) = refl
  start_doing Load = tt

  -- a call that continues is still doing it, and one that ended rests
  goes_or_rests : (call : AtomicCall size) (turn : AtomicTurn size) (next : Next (AtomicProgram size) (AtomicReply size)) → Tells size base call turn next
      → IsDoing call (program_of next) ⊎ (program_of next ≡ AtRest)
  goes_or_rests call turn (Goes program) tells = inl tells.1
  goes_or_rests call turn (Ends reply) tells = inr refl

  doing_after : (call : AtomicCall size) (earlier : List (List ℕ))
      → IsDoing call (program_after size base call earlier) ⊎ (program_after size base call earlier ≡ AtRest)
  doing_after call [] = inl (start_doing call)
  doing_after call (words ∷ earlier) = let program = program_after size base call earlier in elim (doing_after call earlier) [
    | inl doing ↦ goes_or_rests call (turn_of size base program words) _ (atomic_tells words call program doing)
    | inr rests ↦ inr (rw (rests) refl)
  ]

  -- no reply comes from a call that ended
  rests_no_reply : (program : AtomicProgram size) (seen : ℕ) (reply : AtomicReply size) → program ≡ AtRest → atomic_next size program seen ≡ Ends reply → ⊥
  rests_no_reply program seen reply rests ends =
      let now : Goes AtRest ≡ Ends reply = subst (λ p. atomic_next size p seen ≡ Ends reply) rests ends in absurd (cc)

pub replies_tell : RepliesTellOfTheirValues
replies_tell size base call earlier words reply ends = let program = program_after size base call earlier in elim (doing_after size base call earlier) [
  | inl doing ↦ subst (Tells size base call (turn_of size base program words)) ends (atomic_tells size base words call program doing)
  | inr rests ↦ absurd (rests_no_reply size base program _ reply rests ends)
]
