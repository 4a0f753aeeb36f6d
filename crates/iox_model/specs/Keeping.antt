-- What a port of a wire keeps: what it keeps between calls, and the message of its call under way
-- that is no handle yet.
use Rattle.std.specs.Prelude.{ℕ, Bool, true, ◌&&◌, if◌then◌else◌, ◌==◌, List, [], ◌∷◌}
use Rattle.std.specs.Option.{option_map_or}
use Rattle.iox_model.specs.Doings.{Outcome, Loans, Sends, FailsToSend, Doing, Ended, Asking, Emptying, Looking, Opening, Delivering, Evicted}
use Rattle.iox_model.specs.Outstandings.{kept}
use Rattle.iox_model.specs.Peers.{node_of_port}
use Rattle.iox_model.specs.States.{Handle}
use Rattle.iox_model.specs.Weaves.{World}

-- the serials of a loan that the call under way made, before it is a handle
abbrev pub serials_of_loan : Handle → Bool → ℕ → List ℕ
serials_of_loan h made port = if made && (h.port == port) then h.message.serial ∷ [] else []

-- the serials of a loan in the outcome of a call, before the call ends
abbrev pub serials_of_outcome : ℕ → Outcome → List ℕ
serials_of_outcome port (Loans h) = serials_of_loan h true port
serials_of_outcome port (Sends h copied count) = serials_of_loan h copied port
serials_of_outcome port (FailsToSend h copied refusal) = serials_of_loan h copied port
serials_of_outcome port o = []

-- the messages of the port that the call under way holds, and no handle holds
abbrev pub under_way : ℕ → Doing → List ℕ
under_way port (Ended o) = serials_of_outcome port o
under_way port (Asking x) = serials_of_loan x.loan x.copied port
under_way port (Emptying x left) = serials_of_loan x.loan x.copied port
under_way port (Looking x left full) = serials_of_loan x.loan x.copied port
under_way port (Opening x left full) = serials_of_loan x.loan x.copied port
under_way port (Delivering x last left count) = serials_of_loan x.loan x.copied port
under_way port (Evicted x w left count) = serials_of_loan x.loan x.copied port
under_way port d = []

-- the messages that a port of a wire keeps; a dead node's call under way counts, too
abbrev pub kept_in : World → ℕ → List ℕ
kept_in w port =
    kept w.state port
    (option_map_or (under_way port) (w.doing (node_of_port w.state.fixed port)) [])
