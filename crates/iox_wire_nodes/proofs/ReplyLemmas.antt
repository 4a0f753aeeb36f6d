-- What a node answers, by the call that is under way.
use Rattle.std.proofs.Common.{◌≡◌, ℕ, Bool, false, List, Option, refl, sym, subst, true≢false, ◌∙◌}
use Rattle.std.specs.Option.{option_map}
use Rattle.iox_wire_begins.specs.RequestReply.{RequestReply}
use Rattle.iox_wire_begins.specs.RequestReply.TheVariants as request_replies
use Rattle.iox_wire_begins.specs.RequestSendsAims.{IsToldBy}
use Rattle.iox_wire_begins.specs.Steps.{tells}
use Rattle.iox_wire_begins.specs.Tables.{Setting}
use Rattle.iox_wire_nodes.specs.declared.call_at.CallAt.{CallAt}
use Rattle.iox_wire_nodes.specs.declared.call_at.CallAt.TheVariants as at
use Rattle.iox_wire_nodes.specs.declared.call_at.NodeReply.{NodeReply}
use Rattle.iox_wire_nodes.specs.declared.call_at.NodeReply.TheVariants as node_replies
use Rattle.iox_wire_nodes.specs.Aims.{IsAimed}
use Rattle.iox_wire_nodes.specs.Nodes.{NodeView, answered_at, reply_in, seat_in}

-- the node answers so
abbrev pub Tells : Setting → ℕ → List ℕ → Option NodeReply → NodeView → Type 0
Tells p seen words result n = IsAimed p n → tells p (seat_in n) seen ≡ option_map (reply_in words) result

pub over_told : (p : Setting) (seen : ℕ) (words : List ℕ) (result : Option NodeReply) {n m : NodeView} (call : CallAt) → n ≡ m → n.at ≡ call
    → Tells p seen words result (record n { at = call }) → Tells p seen words result m
over_told p seen words result {n} call same at told =
    subst (Tells p seen words result) same
    (subst (λ (a : CallAt). Tells p seen words result (record n { at = a })) (sym at) told)

-- a send tells no handle, unless its own call made the loan
pub sent_own : (copied : Bool) (reply : RequestReply) → copied ≡ false → IsToldBy copied reply → answered_at (node_replies.OfRequest reply) ≡ at.SendsRequest
sent_own copied (request_replies.Sent count) own told = refl
sent_own copied (request_replies.Handle number) own told = absurd (true≢false (sym told ∙ own))
sent_own copied request_replies.ExceedsMaxActiveRequests own told = refl
sent_own copied request_replies.UnableToDeliver own told = refl
