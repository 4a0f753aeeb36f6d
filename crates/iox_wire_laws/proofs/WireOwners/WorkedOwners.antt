-- All by computation.
use Rattle.std.proofs.Common.{◌≡◌, ℕ, Bool, true, false, refl, sym, subst, arith, true≢false}
use Rattle.iox_model.specs.declared.way.RequestState.{RequestState}
use Rattle.iox_model.specs.declared.way.RequestState.TheVariants.{Closed, Named}
use Rattle.iox_wire_laws.specs.WireOwners.WorkedOwners.{WorkedAreReleased, WorkedHaveOwnStates, WorkedIsFirm, WorkedHaveRoom}

none : {A : Type 0} → false ≡ true → A
none is = absurd (true≢false (sym is))

pub worked_are_released : WorkedAreReleased
worked_are_released = (
  record { pending = λ is. ((refl, refl), omega arith); request = λ is. none is; response = λ is. none is },
  record { pending = λ is. none is; request = λ is. none is; response = λ is. ((refl, refl), omega arith, refl) },
  record { pending = λ is. none is; request = λ is. ((refl, refl), omega arith, refl, refl); response = λ is. none is },
)

-- a state that names a request is not closed
named : (id : ℕ) (hinted : Bool) → Named id hinted ≡ Closed → ⊥
named id hinted is = absurd (subst IsNamed is tt)
  where
    IsNamed : RequestState → Type 0
    IsNamed Closed = ⊥
    IsNamed (Named k j) = Unit {0}

pub worked_have_own_states : WorkedHaveOwnStates
worked_have_own_states = ((refl, tt), λ own. named 8 false own.0)

differ : (a b : ℕ) → a ≡ 0 → b ≡ 1 → a ≡ b → ⊥
differ a b zero one is = absurd (omega (arith, zero, one, is))

pub worked_is_firm : WorkedIsFirm
worked_is_firm = (
  record { owns = (((refl, refl, refl, omega arith), refl), tt); closes = (refl, tt) },
  λ closes. differ 0 1 refl refl closes.0,
)

pub worked_have_room : WorkedHaveRoom
worked_have_room = ((((refl, refl), refl, refl), refl), (((refl, refl), refl, refl), refl))
