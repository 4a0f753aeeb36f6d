-- In the worked tables a client lends, writes and copies.
use Rattle.std.specs.Prelude.{◌≡◌, ℕ, zero, suc, Bool, true, false, if◌then◌else◌, ◌==◌, [], ◌∷◌, Option, Some, None, slice_get, refl}
use Rattle.std.specs.Option.{option_map_or}
use Rattle.std.proofs.Common.{sym, ap, subst, ◌∙◌, inl}
use Rattle.std.proofs.lemmas.Option.{none-some}
use Rattle.iox_model.specs.declared.kind.Role.TheVariants.{Client, Server}
use Rattle.iox_model.specs.declared.call.Call.TheVariants.{Read}
use Rattle.iox_model.specs.declared.reply.Refusal.TheVariants.{ExceedsMaxLoans, ForeignNumber}
use Rattle.iox_model.specs.Commands.{Reply}
use Rattle.iox_model.specs.Maps.{has_number}
use Rattle.iox_model.specs.Messages.{request_way}
use Rattle.iox_model.specs.States as m
use Rattle.iox_lanes.specs.Lanes.{LaneState, empty_lane}
use Rattle.iox_lanes.specs.Pipes.{PipeState, new_pipe}
use Rattle.iox_tables.specs.HubStates.Tables.{HubTables, PortState, pipe_from, pipes_of}
use Rattle.iox_tables.specs.HubStates.Ways.{lane_on}
use Rattle.iox_tables.specs.HubStates.States.{Given, message_of}
use Rattle.iox_tables.specs.HubStates.Changes.{HasEachOnce, OfEachLane}
use Rattle.iox_tables.specs.HubStates.Steps.{places_on}
use Rattle.iox_tables.specs.HubStates.Sends.{MaySendFrom}
use Rattle.iox_tables.specs.HubStates.Wirings.{IsHandle}
use Rattle.iox_tables.specs.HubStates.Worked.{port_with}
use Rattle.iox_tables.specs.HubLoans.CopySends.{IsCopyToMake, copy_sending, with_copy, with_words}
use Rattle.iox_tables.specs.HubLoans.Counts.{AreOnNodes}
use Rattle.iox_tables.specs.HubLoans.Fillings.{IsOfOneHandle}
use Rattle.iox_tables.specs.HubLoans.Lenders.{IsClient, IsLender, Lender, lender_of_request}
use Rattle.iox_tables.specs.HubLoans.Loans.{MayTakeLoan}
use Rattle.iox_tables.specs.HubLoans.Slots.{IsOnNoLane}
use Rattle.iox_tables.specs.HubLoans.Worked.{ClientCopiesOnce, ClientLendsOnce, LoanIsWritten, NumbersAreRefused, at_first, first_lane, first_lender, loan_words, no_words, saying_five, the_client, the_loan, with_one_loan}
use Rattle.iox_tables.proofs.HubLoans.CopyCalls.{copies_are_sent_over}
use Rattle.iox_tables.proofs.HubLoans.Loaning.{loans_are_made, loans_are_refused}
use Rattle.iox_tables.proofs.HubLoans.Refusing.{calls_are_refused}
use Rattle.iox_tables.proofs.HubLoans.Written.{writes_are_made}

-- ---- all lanes are empty

abbrev server : PortState
server = port_with 1 Server (new_pipe 0 0 1 1 1 1)

abbrev pipe_to_client : PipeState
pipe_to_client = new_pipe 1 1 1 1 1 0

abbrev pipe_to_server : PipeState
pipe_to_server = new_pipe 0 0 1 1 1 1

-- what is so of an empty lane is so of each lane of these ports
module _ (loans : ℕ) (P : LaneState → Type 0) (of_client : P (empty_lane 0 1 1)) (of_server : P (empty_lane 1 1 1)) where
  in_lanes : (k : LaneState) → P k → (j : ℕ) (l : LaneState) → slice_get (k ∷ []) j ≡ Some l → P l
  in_lanes k so zero l is = subst P (ap (λ (o : Option LaneState). option_map_or (λ m. m) o k) is) so
  in_lanes k so (suc j) l is = absurd (none-some l is)

  in_pipe : (b : Bool) (p : PipeState) (k : LaneState) → p.lanes ≡ k ∷ [] → P k → (j : ℕ) (l : LaneState)
      → slice_get (option_map_or (λ q. q.lanes) (if b then Some p else None) []) j ≡ Some l → P l
  in_pipe true p k e so j l is = in_lanes k so j l (sym (ap (λ ls. slice_get ls j) e) ∙ is)
  in_pipe false p k e so j l is = absurd (none-some l is)

  in_port : (a b : Bool) (k j : ℕ) (l : LaneState)
      → slice_get (option_map_or (λ q. q.lanes) (pipe_from (option_map_or pipes_of (if a then Some (record the_client { loans = loans }) else (if b then Some server else None)) []) k) []) j ≡ Some l
      → P l
  in_port true b k j l is = in_pipe (1 == k) pipe_to_client (empty_lane 1 1 1) refl of_server j l is
  in_port false true k j l is = in_pipe (0 == k) pipe_to_server (empty_lane 0 1 1) refl of_client j l is
  in_port false false k j l is = absurd (none-some l is)

  each_lane : OfEachLane P (lane_on (record the_client { loans = loans } ∷ server ∷ []))
  each_lane w l is = in_port (0 == w.receiver) (1 == w.receiver) w.sender w.lane l is

on_none : (pool k : ℕ) → IsOnNoLane at_first pool k
on_none pool k = each_lane 1 (λ l. l.pool ≡ pool → has_number k (places_on l) ≡ false) (λ e. refl) (λ e. refl)

on_none_then : (pool k : ℕ) → IsOnNoLane with_one_loan pool k
on_none_then pool k = each_lane 2 (λ l. l.pool ≡ pool → has_number k (places_on l) ≡ false) (λ e. refl) (λ e. refl)

once : (x : Given) (t : HubTables) → OfEachLane (HasEachOnce (message_of x t.pools)) (lane_on at_first.ports)
once x t = each_lane 1 (HasEachOnce (message_of x t.pools)) tt tt

-- ---- the loan

abbrev client : IsClient at_first 0 0
client = record { port = the_client; there = refl; on_node = refl; client = refl; held = refl }

lends : IsLender at_first 0 0 0 first_lender
lends = inl (client, refl)

takes : MayTakeLoan no_words at_first the_client 0
takes = record {
  once = once no_words at_first;
  dry = refl;
  pool = record { owner = refl; node_id = refl; port_id = refl };
  there = (_, refl);
  unused = record { lanes = on_none 0 0; handles = refl };
}

-- the client once it has a loan
abbrev lent_client : PortState
lent_client = record the_client { loans = 2 }

abbrev second_lender : Lender
second_lender = lender_of_request lent_client 0

again : IsLender with_one_loan 0 0 0 second_lender
again = inl (record { port = lent_client; there = refl; on_node = refl; client = refl; held = refl }, refl)

on_nodes : AreOnNodes with_one_loan
on_nodes = (record { port = lent_client; there = refl; node = refl }, tt)

pub client_lends_once : ClientLendsOnce
client_lends_once = (
  lends,
  tt,
  refl,
  takes,
  loans_are_made no_words at_first 0 0 1 false first_lane (0 ∷ []) first_lender 0 lends tt refl refl takes (λ e. absurd (none-some zero (false_true e))),
  second_lender,
  again,
  refl,
  ap (λ (a : Reply × m.State). a.0) (loans_are_refused loan_words with_one_loan 0 0 1 false first_lane (0 ∷ []) second_lender ExceedsMaxLoans again on_nodes refl),
)
  where
    false_true : false ≡ true → None ≡ Some zero
    false_true e = ap (λ (b : Bool). if b then Some zero else None) e

-- ---- the write

loan_named : IsHandle with_one_loan 0 2 the_loan
loan_named = record { there = refl; no_port = refl }

alone : IsOfOneHandle with_one_loan 0 0
alone = record { lanes = on_none_then 0 0; handles = refl }

pub loan_is_written : LoanIsWritten
loan_is_written =
    let wrote = writes_are_made loan_words with_one_loan 0 2 the_loan saying_five first_lane (0 ∷ []) loan_named refl refl alone in (
      loan_named,
      refl,
      alone,
      ap (λ (a : Reply × m.State). a.0) wrote,
      refl,
    )

-- ---- the copy

copies : IsCopyToMake no_words at_first 0 0 1 saying_five first_lane first_lender 0
copies = record { lender = lends; nodes = tt; role = refl; elements = refl; passes = refl; memory = refl; takes = takes }

abbrev copy_words : Given
copy_words = with_words no_words at_first first_lender 0 (5 ∷ [])

abbrev with_the_copy : HubTables
with_the_copy = with_copy at_first first_lender 1 0

may_send : MaySendFrom copy_words with_the_copy (copy_sending Client copy_words with_the_copy the_loan) 0 0
may_send = record {
  message = refl;
  apart = (refl, tt);
  states_apart = (refl, tt);
  once = once copy_words with_the_copy;
  lanes = ((_, refl, record { open_to = record { of_pool = refl; sender = refl; buffer = refl }; once = (refl, tt) }), tt);
  states = ((_, refl, refl), tt);
}

pub client_copies_once : ClientCopiesOnce
client_copies_once =
    let sent = copies_are_sent_over no_words at_first 0 0 1 saying_five first_lane (0 ∷ []) first_lender 0 copies refl refl may_send in (
      copies,
      refl,
      (
        may_send,
        ap (λ (a : Reply × m.State). a.0) sent,
        ap (λ (a : Reply × m.State). a.1.waiting (request_way 0 1)) sent,
      ),
    )

-- ---- refusals

pub numbers_are_refused : NumbersAreRefused
numbers_are_refused = (
  refl,
  refl,
  refl,
  ap (λ (a : Reply × m.State). a.0) (calls_are_refused loan_words with_one_loan 1 (Read 2) first_lane (0 ∷ []) ForeignNumber on_nodes refl),
)
