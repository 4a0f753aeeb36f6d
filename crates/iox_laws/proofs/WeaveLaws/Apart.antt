-- A port command can be told from what it asks, and a hub's reply from what its service answers.
use Rattle.std.specs.Prelude.{◌≡◌, ℕ, Option, Some, None, refl}
use Rattle.std.proofs.Common.{sym, ap, ◌∙◌}
use Rattle.iox_model.specs.declared.kind.Role.TheVariants.{Client, Server}
use Rattle.iox_model.specs.declared.call.Call.TheVariants.{Loan, LoanUninit, Write, Send, SendCopy, Receive, Read, Release, IsConnected, SetHint, HasHint, HasRequests, HasResponse}
use Rattle.iox_model.specs.declared.command.PortCommand.TheVariants as asks
use Rattle.iox_model.specs.declared.reply.PortReply.TheVariants as port_replies
use Rattle.iox_model.specs.declared.reply.Reply.TheVariants as replies
use Rattle.iox_model.specs.Commands.{PortCommand, PortReply, HubCommand, Create, Use, Reply, asking, answer_of}
use Rattle.iox_laws.specs.WeaveLaws.CommandLaws.{AskingsAreApart, AnswersAreApart}
use Rattle.iox_laws.proofs.WeaveLaws.WholeLemmas.{some-is}

abbrev asked_by : ℕ → HubCommand → Option PortCommand
asked_by node (Create Client id o) = Some (asks.Client node id o)
asked_by node (Create Server id o) = Some (asks.Server node id o)
asked_by node (Use (Loan n k)) = Some (asks.Loan node n k)
asked_by node (Use (LoanUninit n k)) = None
asked_by node (Use (Write n p)) = Some (asks.Write node n p)
asked_by node (Use (Send n)) = Some (asks.Send node n)
asked_by node (Use (SendCopy n p)) = Some (asks.SendCopy node n p)
asked_by node (Use (Receive n)) = Some (asks.Receive node n)
asked_by node (Use (Read n)) = Some (asks.Read node n)
asked_by node (Use (Release n)) = Some (asks.Release node n)
asked_by node (Use (IsConnected n)) = Some (asks.IsConnected node n)
asked_by node (Use (SetHint n)) = Some (asks.SetHint node n)
asked_by node (Use (HasHint n)) = Some (asks.HasHint node n)
asked_by node (Use (HasRequests n)) = Some (asks.HasRequests node n)
asked_by node (Use (HasResponse n)) = Some (asks.HasResponse node n)

asked_back : (a : PortCommand) → asked_by (asking a).0 (asking a).1 ≡ Some a
asked_back (asks.Client node id o) = refl
asked_back (asks.Server node id o) = refl
asked_back (asks.Loan node n k) = refl
asked_back (asks.Write node n p) = refl
asked_back (asks.Send node n) = refl
asked_back (asks.SendCopy node n p) = refl
asked_back (asks.Receive node n) = refl
asked_back (asks.Read node n) = refl
asked_back (asks.Release node n) = refl
asked_back (asks.IsConnected node n) = refl
asked_back (asks.SetHint node n) = refl
asked_back (asks.HasHint node n) = refl
asked_back (asks.HasRequests node n) = refl
asked_back (asks.HasResponse node n) = refl

pub askings_are_apart : AskingsAreApart
askings_are_apart a b e = some-is a b (sym (asked_back a) ∙ ap (λ (x : ℕ × HubCommand). asked_by x.0 x.1) e ∙ asked_back b)

abbrev answered_by : Reply → Option PortReply
answered_by (replies.Node n) = None
answered_by (replies.Client n) = Some (port_replies.Client n)
answered_by (replies.Server n) = Some (port_replies.Server n)
answered_by (replies.Handle n) = Some (port_replies.Handle n)
answered_by (replies.Sent count) = Some (port_replies.Sent count)
answered_by replies.Done = Some port_replies.Done
answered_by replies.Nothing = Some port_replies.Nothing
answered_by (replies.Words words) = Some (port_replies.Words words)
answered_by (replies.Answer told) = Some (port_replies.Answer told)
answered_by (replies.Listed numbers) = None
answered_by (replies.Refused r) = Some (port_replies.Refused r)

answered_back : (a : PortReply) → answered_by (answer_of a) ≡ Some a
answered_back (port_replies.Client n) = refl
answered_back (port_replies.Server n) = refl
answered_back (port_replies.Handle n) = refl
answered_back (port_replies.Sent count) = refl
answered_back port_replies.Done = refl
answered_back port_replies.Nothing = refl
answered_back (port_replies.Words words) = refl
answered_back (port_replies.Answer told) = refl
answered_back (port_replies.Refused r) = refl

pub answers_are_apart : AnswersAreApart
answers_are_apart a b e = some-is a b (sym (answered_back a) ∙ ap answered_by e ∙ answered_back b)
