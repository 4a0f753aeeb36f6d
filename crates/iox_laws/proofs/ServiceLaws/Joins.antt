-- A refused join changes nothing.
use Rattle.std.specs.Prelude.{◌≡◌, Option, Some, None}
use Rattle.std.proofs.Common.{subst}
use Rattle.iox_model.specs.declared.reply.Reply.TheVariants.{Refused}
use Rattle.iox_model.specs.Commands.{Refusal, Reply}
use Rattle.iox_model.specs.Joins.{opening_refusal}
use Rattle.iox_model.specs.States.{State}
use Rattle.iox_model.specs.WholeCalls.{UnlessRefused}
use Rattle.iox_laws.specs.ServiceLaws.Refusing.{RefusedJoinsChangeNothing}

abbrev pub IsRefused : Reply → Type 0
IsRefused (Refused r) = Unit {0}
IsRefused reply = ⊥

-- where what is not refused is answered otherwise, a refusal changes nothing
pub unless_refused : (q : Option Refusal) (s : State) (r : Refusal) (t : State) (P : Type 0) → (P → t ≡ s)
    → UnlessRefused q s (Refused r) t P → t ≡ s
unless_refused (Some x) s r t P f u = u.1
unless_refused None s r t P f u = f u

pub never_refused : (r : Refusal) (answer : Reply) (Q : Type 0) → (IsRefused answer → ⊥) → Refused r ≡ answer → Q
never_refused r answer Q not e = absurd (not (subst IsRefused e tt))

pub refused_joins_change_nothing : RefusedJoinsChangeNothing
refused_joins_change_nothing s t id asked r c =
    unless_refused (opening_refusal s id asked c.0) s r t _ (λ u. never_refused r _ (t ≡ s) (λ p. p) u.0) c.1
