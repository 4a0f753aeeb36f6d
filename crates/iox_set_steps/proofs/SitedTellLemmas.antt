-- Each reply of a kind tells of its call, from what each access of a call tells.
use Rattle.std.proofs.Common.{◌≡◌, ℕ, ◌⊎◌, ◌∙◌, List, [], ◌∷◌, refl, sym, ap, subst, inl, inr}
use Rattle.iox_steps.specs.declared.access.Next.{Next}
use Rattle.iox_steps.specs.declared.access.Next.TheVariants.{Goes, Ends}
use Rattle.iox_set_steps.specs.Turns.{Turn, AtEach}
use Rattle.iox_set_steps.specs.Kinds.{Kind, Calls, goes_to, HaveSite, seen_in_words, turn_of, program_after, turns_of, Tells, RepliesTell}
use Rattle.iox_set_steps.specs.SitedLaws.{Laws}

module _ {S G P C R E : Type 0} (kind : Kind S G P C R E) (calls : Calls S G C R E) where
  -- What each access and each start of a call has to tell.
  pub record Telling : Type 0 where
    pub tells : (site : S) (words : List ℕ) → HaveSite kind site words → (call : C) (earlier : List (Turn E)) (program : G)
        → kind.Knows site program → calls.IsDoing site call earlier program
        → Tells calls site call earlier (turn_of kind site program words) (kind.next site program (seen_in_words kind site program words))
    pub start_doing : (site : S) (call : C) → calls.IsDoing site call [] (kind.start site call)

module _ {S G P C R E : Type 0} (kind : Kind S G P C R E) (laws : Laws kind) (calls : Calls S G C R E) (telling : Telling kind calls) where
  -- a call that continues is still doing it, and one that ended rests
  goes_or_rests : (site : S) (call : C) (earlier : List (Turn E)) (turn : Turn E) (next : Next G R) → Tells calls site call earlier turn next
      → calls.IsDoing site call (turn ∷ earlier) (goes_to kind.at_rest next) ⊎ (goes_to kind.at_rest next ≡ kind.at_rest)
  goes_or_rests site call earlier turn (Goes program) tells = inl tells.1
  goes_or_rests site call earlier turn (Ends reply) tells = inr refl

  module _ (site : S) (call : C) where
    known_after : (earlier : List (List ℕ)) → AtEach (HaveSite kind site) earlier → kind.Knows site (program_after kind site call earlier)
    known_after [] have = laws.start_knows site call
    known_after (words ∷ earlier) have =
        laws.next_knows site words (program_after kind site call earlier) have.0 (known_after earlier have.1)

    doing_after : (earlier : List (List ℕ)) → AtEach (HaveSite kind site) earlier
        → calls.IsDoing site call (turns_of kind site call earlier) (program_after kind site call earlier)
        ⊎ (program_after kind site call earlier ≡ kind.at_rest)
    doing_after [] have = inl (telling.start_doing site call)
    doing_after (words ∷ earlier) have = let program = program_after kind site call earlier in
        let seen = seen_in_words kind site program words in elim (doing_after earlier have.1) [
          | inl doing ↦ goes_or_rests site call (turns_of kind site call earlier) (turn_of kind site program words) (kind.next site program seen)
              (telling.tells site words have.0 call (turns_of kind site call earlier) program (known_after earlier have.1) doing)
          | inr rests ↦ inr (ap (λ p. goes_to kind.at_rest (kind.next site p seen)) rests
              ∙ ap (goes_to kind.at_rest) (laws.stays_at_rest site seen))
        ]

  -- no reply comes from a call that ended
  rests_no_reply : (site : S) (program : G) (seen : ℕ) (reply : R) → program ≡ kind.at_rest → kind.next site program seen ≡ Ends reply → ⊥
  rests_no_reply site program seen reply rests ends =
      let now : Goes kind.at_rest ≡ Ends reply =
      sym (laws.stays_at_rest site seen) ∙ subst (λ p. kind.next site p seen ≡ Ends reply) rests ends in absurd (cc)

  pub replies_tell : RepliesTell kind calls
  replies_tell site call earlier words reply have ends = let program = program_after kind site call earlier in elim (doing_after site call earlier have.1) [
    | inl doing ↦ subst (Tells calls site call (turns_of kind site call earlier) (turn_of kind site program words)) ends
        (telling.tells site words have.0 call (turns_of kind site call earlier) program (known_after site call earlier have.1) doing)
    | inr rests ↦ absurd (rests_no_reply site program _ reply rests ends)
  ]
