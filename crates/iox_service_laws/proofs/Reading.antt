-- What a read answers, as a command of a service.
use Rattle.std.specs.Prelude.{◌≡◌, ℕ, List, [], ◌∷◌, ◌++◌, Option, Some, None, refl}
use Rattle.std.proofs.Common.{sym, subst}
use Rattle.iox_model.specs.declared.call.Call.TheVariants.{Read}
use Rattle.iox_model.specs.declared.command.Command.TheVariants.{Port}
use Rattle.iox_model.specs.declared.command.PortCommand.TheVariants as ports
use Rattle.iox_model.specs.declared.reply.Reply.TheVariants.{Words}
use Rattle.iox_model.specs.Begins.{start}
use Rattle.iox_model.specs.Commands.{Refusal, Reply}
use Rattle.iox_model.specs.Doings.{Doing, Ended, Outcome, Tells}
use Rattle.iox_model.specs.Ends.{settled}
use Rattle.iox_model.specs.Handles.{TheHandle, handle_at, subject}
use Rattle.iox_model.specs.Joins.{not_living}
use Rattle.iox_model.specs.Moments.{Moment}
use Rattle.iox_model.specs.Names.{misnamed}
use Rattle.iox_model.specs.Peers.{port_at}
use Rattle.iox_model.specs.Services.{IsCommand}
use Rattle.iox_model.specs.States.{Handle, State}
use Rattle.iox_model.specs.Transitions.{ends}
use Rattle.iox_model.specs.WholeCalls.{IsDone, IsWholeCall, MayCome, UnlessRefused, left_by, moved_by, replied, spent}
use Rattle.iox_laws.specs.MessageLaws.Lists.{IsOneOf}
use Rattle.iox_laws.proofs.MessageLaws.Readings.{TellsSo, among-one, reads_its_message, start_tells}
use Rattle.iox_laws.proofs.ServiceLaws.Joins.{IsRefused}
use Rattle.iox_laws.proofs.WeaveLaws.WholeLemmas.{some-is}
use Rattle.iox_laws.proofs.WeaveLedger.Starts.{there}

-- what is answered otherwise was not refused
pub not_refused : (q : Option Refusal) (s : State) (reply : Reply) (t : State) (P : Type 0) → (IsRefused reply → ⊥) → UnlessRefused q s reply t P → P
not_refused (Some r) s reply t P otherwise u = absurd (otherwise (subst IsRefused (sym u.0) tt))
not_refused None s reply t P otherwise u = u

-- what a read tells leaves all as it was
told_leaves : (s : State) (node : ℕ) (words : List ℕ) (payload : List ℕ) (reply : Reply) → Words words ≡ reply
    → settled s node payload (Tells reply) ≡ s
told_leaves s node words payload reply is = subst (λ r. settled s node payload (Tells r) ≡ s) is refl

ends_here : (s : State) (node n : ℕ) (words : List ℕ) (d : Doing) (ms : List Moment) (o : Outcome) (payload : List ℕ) → TellsSo s node n d
    → MayCome s node d ms → ends (moved_by s ms) (left_by s node d ms) ≡ Some o → Words words ≡ replied s.fixed node o
    → settled (moved_by s ms) node payload o ≡ s
ends_here s node n words (Ended (Tells reply)) [] o payload p may e is =
    subst (λ x. Words words ≡ replied s.fixed node x → settled s node payload x ≡ s) (some-is (Tells reply) o e)
    (λ told. told_leaves s node words payload reply told) is
ends_here s node n words (Ended (Tells reply)) (m ∷ ms) o payload p may e is = absurd may.1
ends_here s node n words d ms o payload p may e is = absurd p

done_leaves : (s t : State) (node n : ℕ) (words : List ℕ) → IsDone s node (Read n) (Words words) t → t ≡ s
done_leaves s t node n words done =
    subst (λ (u : State). u ≡ s) (sym done.9)
    (ends_here s node n words (start s node done.0 (Read n)) done.2 done.4 done.6 (start_tells s node n done.0) done.3 done.5 done.8)

whole_leaves : (s t : State) (node n : ℕ) (words : List ℕ) → IsWholeCall s node (Read n) (Words words) t → t ≡ s
whole_leaves s t node n words whole =
    done_leaves s t node n words
    (not_refused (spent s.fixed (Read n)) s (Words words) t _ (λ r. r)
    (not_refused (misnamed s.fixed node (Read n)) s (Words words) t _ (λ r. r) whole))

pub reads_are_of_messages : (s t : State) (node n : ℕ) (words : List ℕ) → IsCommand s (Port (ports.Read node n)) (Words words) t
    → (h : Handle) × (subject s.fixed node n ≡ Some (TheHandle h)) × IsOneOf h (s.fixed.handles node)
    × (words ≡ h.message.user ++ h.message.payload) × (t ≡ s)
reads_are_of_messages s t node n words command =
    let whole : IsWholeCall s node (Read n) (Words words) t = not_refused (not_living s node) s (Words words) t _ (λ r. r) command in
    let read : (h : Handle) × (subject s.fixed node n ≡ Some (TheHandle h)) × (words ≡ h.message.user ++ h.message.payload)
    = reads_its_message s t node n words whole in (
      read.0,
      read.1,
      among-one read.0 (s.fixed.handles node)
          (there s.fixed node n (TheHandle read.0) (port_at s.fixed n) (handle_at s.fixed node n) refl refl read.1),
      read.2,
      whole_leaves s t node n words whole,
    )
