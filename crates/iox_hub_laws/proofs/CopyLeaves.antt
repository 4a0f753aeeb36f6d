-- What the whole call of a copy leaves on the ways.
use Rattle.std.specs.Prelude.{◌≡◌, ℕ, true, false, List, Option, Some, None, refl}
use Rattle.std.specs.Option.{option_map_or}
use Rattle.std.proofs.Common.{sym, ap, subst, true≢false}
use Rattle.iox_model.specs.declared.call.Call.TheVariants.{SendCopy}
use Rattle.iox_model.specs.declared.kind.Role.{Role}
use Rattle.iox_model.specs.declared.reply.Refusal.TheVariants.{UnknownNumber, WrongLength}
use Rattle.iox_model.specs.Begins.{begins_at, start}
use Rattle.iox_model.specs.Commands.{Call, Refusal, Reply}
use Rattle.iox_model.specs.Doings.{Doing, refused}
use Rattle.iox_model.specs.Handles.{Subject, TheHandle, subject}
use Rattle.iox_model.specs.Loans.{Choice, Order, lending_ways, loan_of, memory_refusal, response_loan_refusal, unless_refused}
use Rattle.iox_model.specs.Names.{misnamed}
use Rattle.iox_model.specs.Peers.{is_connected_port, port_at}
use Rattle.iox_model.specs.Responses.{lending, lends_by, lends_response, shape_for}
use Rattle.iox_model.specs.Runs.{IsReachableState}
use Rattle.iox_model.specs.Settings.{is_count}
use Rattle.iox_model.specs.States.{Handle, Port, State}
use Rattle.iox_model.specs.WholeCalls.{IsDone, IsWholeCall, UnlessRefused, spent}
use Rattle.iox_laws.proofs.WeaveLaws.MapLemmas.{either}
use Rattle.iox_hub_laws.proofs.Arrivals.{Fits}
use Rattle.iox_hub_laws.proofs.Phases.{loaning_fits}
use Rattle.iox_hub_laws.proofs.Brought.{LeavesSo, apart, done_leaves, goes_to, starts_quiet, to_client, to_servers, unless_leaves, within}
use Rattle.iox_laws.specs.CallFunctions.Copies.{copied_order}

module _ (z : State) (reached : IsReachableState z) (node : ℕ) (h : Handle) (known : is_connected_port z.fixed h.port ≡ true) where
  abbrev Fit : Doing → Type 0
  Fit = Fits z node h true (goes_to z reached node h known true) z

  -- a call that is refused, or is a loan of this message that is sent
  unless_fits : (r : Option Refusal) (d : Doing) → Fit d → Fit (unless_refused r d)
  unless_fits (Some r) d p = (starts_quiet z reached node h known true, tt)
  unless_fits None d p = p

  lending_fits : Fit (lending z true h)
  lending_fits =
      loaning_fits z node h true (goes_to z reached node h known true) (to_servers z reached node h known true) (to_client z reached node h known true)
      (apart z reached node h known true) (within z reached node h known true) z true h (lending_ways z.fixed h)
      (starts_quiet z reached node h known true) refl refl refl

  copy_leaves : (t : State) (call : Call) (reply : Reply) → ((c : Choice) → Fit (start z node c call)) → IsWholeCall z node call reply t
      → LeavesSo z reached node h known true t reply
  copy_leaves t call reply fits whole =
      let P : Type 0 = IsDone z node call reply t in
      unless_leaves z reached node h known true (misnamed z.fixed node call) t reply (UnlessRefused (spent z.fixed call) z reply t P)
      (unless_leaves z reached node h known true (spent z.fixed call) t reply P
      (λ done. done_leaves z reached node h known true t call reply done (fits done.0) (λ c. absurd (true≢false c))))
      whole

module _ (z : State) (reached : IsReachableState z) (node n : ℕ) (g : Handle) (p : Port) (role : Role) (k : ℕ) (words : List ℕ) where
  abbrev o : Order
  o = copied_order k words

  -- the loan that the copy of a response to that active request makes
  abbrev pub loan_of_copy : Handle
  loan_of_copy = loan_of z.fixed p (copied_order k words) g.client g.lane g.request

  abbrev call : Call
  call = SendCopy n (record { role = role; elements = Some k; words = words })

  -- What such a copy leaves.
  pub response_copy_leaves : subject z.fixed node n ≡ Some (TheHandle g) → port_at z.fixed g.port ≡ Some p
      → (known : is_connected_port z.fixed p.number ≡ true) → (t : State) (reply : Reply) → IsWholeCall z node call reply t
      → LeavesSo z reached node loan_of_copy known true t reply
  response_copy_leaves named at known t reply whole =
      copy_leaves z reached node loan_of_copy known t call reply
      (λ c. subst (Fit z reached node loan_of_copy known)
      (sym (ap (λ (q : Option Subject). option_map_or (begins_at z c call) q (refused UnknownNumber)) named))
      (either (Fit z reached node loan_of_copy known) (is_count (shape_for z.fixed (TheHandle g)) k) (lends_by z c (TheHandle g) o) (refused WrongLength)
      (λ u. subst (λ (q : Option Port). Fit z reached node loan_of_copy known (option_map_or (λ e. lends_response z c g e o) q (refused UnknownNumber))) (sym at)
      (unless_fits z reached node loan_of_copy known (response_loan_refusal z.fixed g p k)
      (unless_refused (memory_refusal z c p.number) (lending z true loan_of_copy))
      (unless_fits z reached node loan_of_copy known (memory_refusal z c p.number) (lending z true loan_of_copy)
      (lending_fits z reached node loan_of_copy known))))
      (λ u. (starts_quiet z reached node loan_of_copy known true, tt))))
      whole
