-- What is closed stays closed, and nobody joins it.
use Rattle.std.specs.Prelude.{◌≡◌, Bool, true, false, not, ◌==◌, List, filter, Option, IsTrue}
use Rattle.std.proofs.Common.{ap, ◌∙◌, inl, inr, true≢false, sym}
use Rattle.iox_model.specs.UniqueSystemId.{UniqueSystemId}
use Rattle.iox_model.specs.declared.command.Command.TheVariants.{Join}
use Rattle.iox_model.specs.declared.reply.Refusal.TheVariants.{MarkedForDestruction}
use Rattle.iox_model.specs.declared.reply.Reply.TheVariants.{Refused}
use Rattle.iox_model.specs.Commands.{Refusal, Reply}
use Rattle.iox_model.specs.Maps.{is_empty, or_else, refused_if}
use Rattle.iox_model.specs.Runs.{IsHistory, ServiceStep}
use Rattle.iox_model.specs.Services.{IsCommand}
use Rattle.iox_model.specs.States.{Members, State}
use Rattle.iox_model.specs.WholeCalls.{UnlessRefused}
use Rattle.iox_laws.proofs.WeaveLedger.Truths.{or-left}
use Rattle.iox_laws.proofs.WeaveWorlds.Inductions.{IsKept, IsOfNodes, history_keeps}
use Rattle.iox_laws.proofs.ServiceLaws.Listings.{done_members}

nodes_closed : (s : State) (x : Members) → IsOfNodes s x → s.members.closed ≡ true → x.closed ≡ true
nodes_closed s x (inl joins) p = ap (λ (y : Members). y.closed) joins.1 ∙ p
nodes_closed s x (inr (inl leaves)) p =
    ap (λ (y : Members). y.closed) leaves.1
    ∙ or-left s.members.closed (is_empty (filter (λ m. not (m.number == leaves.0)) s.members.nodes)) p
nodes_closed s x (inr (inr died)) p = ap (λ (y : Members). y.closed) died.1 ∙ p

closed_kept : IsKept (λ s. s.members.closed ≡ true)
closed_kept = record {
  nodes = nodes_closed;
  makes = λ s node role id o memory allowed p. p;
  calls = λ s node call reply t named done p. ap (λ (x : Members). x.closed) (done_members s node call reply t done) ∙ p;
  fills = λ s node number h x there may p. p;
}

pub stays_closed : (s t : State) (xs : List ServiceStep) → IsTrue s.members.closed → IsHistory s xs t → IsTrue t.members.closed
stays_closed s t xs closed history = history_keeps (λ u. u.members.closed ≡ true) closed_kept s xs t closed history

marked : (b : Bool) (rest : Option Refusal) (s : State) (reply : Reply) (t : State) (P : Type 0) → b ≡ true
    → UnlessRefused (or_else (refused_if b MarkedForDestruction) rest) s reply t P → (reply ≡ Refused MarkedForDestruction) × (t ≡ s)
marked true rest s reply t P closed u = u
marked false rest s reply t P closed u = absurd (true≢false (sym closed))

pub nobody_joins : (s t : State) (id : UniqueSystemId) (asked : Option Refusal) (reply : Reply) → IsTrue s.members.closed
    → IsCommand s (Join id asked) reply t → (reply ≡ Refused MarkedForDestruction) × (t ≡ s)
nobody_joins s t id asked reply closed c = marked s.members.closed _ s reply t _ closed c.1
