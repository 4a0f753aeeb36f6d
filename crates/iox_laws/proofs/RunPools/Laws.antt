-- The laws of pools over runs: what is recorded in each state that is reached is out there.
use Rattle.std.proofs.Common.{sym, ◌∙◌}
use Rattle.iox_model.specs.Weaves.{at_work}
use Rattle.iox_laws.specs.WeaveLedger.LedgerLaws.{out_on}
use Rattle.iox_laws.proofs.WeaveLedger.Lists.{number-among}
use Rattle.iox_laws.proofs.RunLedger.Laws.{nothing_rests_in_hand, record_rests_as_out}
use Rattle.iox_laws.specs.RunPools.Finding.{NoCallRunsOut, NoPortCommandRunsOut, NoCommandRunsOut, NoHistoryRunsOut, KeepsLessThere, LoanSucceedsThere}
use Rattle.iox_laws.specs.RunPools.Finding.{BeginsSucceedThere}
use Rattle.iox_laws.proofs.RunPools.Histories.{no_history_runs_out}
use Rattle.iox_laws.proofs.RunPools.Finds.{IsLedgered, no_call_runs_out, no_port_command_runs_out, no_command_runs_out, keeps_less_there, loan_succeeds_there}
use Rattle.iox_laws.proofs.RunPools.Finds.{begins_succeed_there}

is_ledgered : IsLedgered
is_ledgered s reached = record {
  hand = λ y. nothing_rests_in_hand s y reached;
  out = λ y k live e. number-among k (out_on (at_work s) y) (sym (record_rests_as_out s y k reached live) ∙ e);
}

pub no_call : NoCallRunsOut
no_call = no_call_runs_out is_ledgered

pub no_port_command : NoPortCommandRunsOut
no_port_command = no_port_command_runs_out is_ledgered

pub no_command : NoCommandRunsOut
no_command = no_command_runs_out is_ledgered

pub no_history : NoHistoryRunsOut
no_history = no_history_runs_out is_ledgered

pub keeps_less : KeepsLessThere
keeps_less = keeps_less_there is_ledgered

pub loan_succeeds : LoanSucceedsThere
loan_succeeds = loan_succeeds_there is_ledgered

pub begins_succeed : BeginsSucceedThere
begins_succeed = begins_succeed_there is_ledgered
