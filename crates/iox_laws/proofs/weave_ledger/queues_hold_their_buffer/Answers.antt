use Rattle.iox_laws.proofs.WeaveLedger.Buffers.{buffer_holds, one_in_hand}
use Rattle.iox_laws.proofs.weave_ledger.queues_hold_their_buffer.Goals as goal

pub returns-clause-waiting : goal.returns-clause-waiting
returns-clause-waiting c = buffer_holds

pub returns-clause-in_hand : goal.returns-clause-in_hand
returns-clause-in_hand c = one_in_hand
