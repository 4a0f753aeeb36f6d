-- The laws of an end's own node, each from what is so of it.
use Rattle.std.proofs.Common.{[], sym, subst, ◌∙◌}
use Rattle.iox_wire_laws.specs.WireOwners.Releases.{ReleasesOwnHandle}
use Rattle.iox_wire_steps.specs.Over.{state_ended}
use Rattle.iox_wire_steps.specs.OverLaws.{AddedEntriesFit, EndsKeepLoans, EndsKeepNodes, EndsKeepReleased, EndsKeepSlots, EndsKeepStates}
use Rattle.iox_wire_steps.proofs.EndStates.{ended_forgot}
use Rattle.iox_wire_steps.proofs.NewNumbers.{numbers_are_new}
use Rattle.iox_wire_steps.proofs.OwnNodes.{fits_added, home, in_pool_added, loans_now, node_now, released_now, slots_now, states_now}

pub added_entries_fit : AddedEntriesFit
added_entries_fit p held word c seats w n ending shows living fits owners numbered over e new = (
  fits_added p held word c seats w n ending [] shows living fits owners numbered over e ending over.at_end over.message new,
  in_pool_added p held word c seats w n ending [] shows living fits owners numbered over e ending over.at_end over.takes
      (home p held word c seats w n ending [] shows living fits owners numbered over) new,
  numbers_are_new p held word c seats w n shows living ending over.at_end e new,
)

pub ends_keep_loans : EndsKeepLoans
ends_keep_loans p held word c seats w n ending shows living fits owners numbered over payload port own =
    loans_now p held word c seats w n ending payload shows living fits owners numbered over port
    (own.0, own.1 ∙ sym (ended_forgot p (seats n) ending).node)

pub ends_keep_slots : EndsKeepSlots
ends_keep_slots p held word c seats w n ending shows living fits owners numbered over payload =
    slots_now p held word c seats w n ending payload shows living fits owners numbered over

pub ends_keep_released : EndsKeepReleased
ends_keep_released p held word c seats w n ending shows living fits owners numbered over payload e told has =
    subst (λ k. ReleasesOwnHandle (state_ended p held w.state (seats n) payload ending).fixed k e) (ended_forgot p (seats n) ending).node
    (released_now p held word c seats w n ending payload shows living fits owners numbered over told e has)

pub ends_keep_states : EndsKeepStates
ends_keep_states p held word c seats w n ending shows living fits owners numbered over payload e told has pending =
    states_now p held word c seats w n ending payload shows living fits owners numbered over told e has pending

pub ends_keep_nodes : EndsKeepNodes
ends_keep_nodes p held word c seats w n ending shows living fits owners numbered over payload told =
    node_now p held word c seats w n ending payload shows living fits owners numbered over told
