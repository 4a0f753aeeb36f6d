-- A loan that would be made, but for which there is no memory, is refused as a whole call.
use Rattle.std.specs.Prelude.{◌≡◌, ℕ, Bool, true, false, List, [], None, refl}
use Rattle.std.proofs.Common.{ap, subst, ◌∙◌, inl, inr}
use Rattle.iox_model.specs.declared.reply.Refusal.TheVariants.{WantOfMemory}
use Rattle.iox_model.specs.declared.reply.Reply.TheVariants as replies
use Rattle.iox_model.specs.Begins.{MayChoose}
use Rattle.iox_model.specs.Loans.{Choice}
use Rattle.iox_model.specs.States as m
use Rattle.iox_model.specs.WholeCalls.{IsWholeCall, default_payload}
use Rattle.iox_laws.specs.CallFunctions.Calls.{call_by}
use Rattle.iox_laws.proofs.CallFunctions.Lending.{each_loan_is_whole, each_uninit_loan_is_whole}
use Rattle.iox_laws.proofs.RunLaws.Choices.{something_may_be_chosen}
use Rattle.iox_tables.specs.HubStates.Tables.{HubTables}
use Rattle.iox_tables.specs.HubStates.States.{Given, fixed_of, state_shown}
use Rattle.iox_tables.specs.HubBooks.Hubs.{AreInOrder}
use Rattle.iox_tables.specs.HubLoans.Lenders.{IsActive, IsClient, IsLender, Lender, is_pool_to_be_dry, lender_of_request, lender_of_response, loan_refusal, shape_in}
use Rattle.iox_tables.specs.HubLoans.Loans.{loan_call}
use Rattle.iox_tables.proofs.HubLoans.GotBack.{dry_pools_are_foretold}
use Rattle.iox_tables.proofs.HubLoans.Loaning.{each_choice_may_be, loans_may_hold_defaults, loans_want_memory}
use Rattle.iox_tables.proofs.HubLending.Chosen.{free_slots_may_take_loans}
use Rattle.iox_tables.proofs.HubLending.Owning.{handles_are_on_nodes}
use Rattle.iox_control.specs.Controls.{ControlState}
use Rattle.iox_control.proofs.WholeLemmas.{is_whole_of}
use Rattle.iox_control_lending.specs.declared.asked.Asked.{Asked}
use Rattle.iox_control_lending.specs.Lends.{IsAskedOf, MayBeMade, on_lane}
use Rattle.iox_control_lending.proofs.LenderLemmas.{names_it}
use Rattle.iox_control_lending.proofs.WholeLemmas.{refusal_same}

-- the choice of that lane, where there is no memory
abbrev pub scarce_on : ℕ → Choice
scarce_on lane = record { lane = lane; memory = false }

module _ (x : Given) (c : ControlState) (a : Asked) (order : AreInOrder c.tables) (y : Lender) (asked : IsAskedOf (shape_in x c.tables y.port) a) (may : MayBeMade c y a) where
  abbrev t : HubTables
  t = c.tables

  pub passes_so : loan_refusal x t y a.elements ≡ None
  passes_so = may.passes x asked

  -- its pool will have a message for it
  pub not_dry : is_pool_to_be_dry x t y.port ≡ false
  not_dry =
      let take = free_slots_may_take_loans x t y.port.number may.free.slot y.port may.free.pools order may.free.back may.free.free in
      dry_pools_are_foretold x t y.port may.free.free.there take.once ∙ take.dry

  module _ (node n lane : ℕ) (lender : IsLender t node n lane (on_lane y lane)) where
    abbrev s : m.State
    s = state_shown x t

    wants : (uninit : Bool) (payload : List ℕ) → call_by s node (loan_call uninit n a.elements) (scarce_on lane) payload ≡ (replies.Refused WantOfMemory, s)
    wants uninit payload =
        loans_want_memory x t node n a.elements uninit (scarce_on lane) payload (on_lane y lane) lender (handles_are_on_nodes t order)
        (refusal_same x t y a.elements lane ∙ passes_so) refl not_dry

    pub loan_wants : (uninit : Bool) → MayChoose (fixed_of x t) node (scarce_on lane) (loan_call uninit n a.elements)
        → IsWholeCall s node (loan_call uninit n a.elements) (replies.Refused WantOfMemory) s
    loan_wants true choice =
        is_whole_of s node (loan_call true n a.elements) (call_by s node (loan_call true n a.elements) (scarce_on lane) []) (replies.Refused WantOfMemory) s
        (each_uninit_loan_is_whole s node n a.elements (scarce_on lane) choice (λ w. refl)) (wants true [])
    loan_wants false choice =
        is_whole_of s node (loan_call false n a.elements)
        (call_by s node (loan_call false n a.elements) (scarce_on lane) (default_payload (shape_in x t y.port) a.elements)) (replies.Refused WantOfMemory) s
        (each_loan_is_whole s node n a.elements (scarce_on lane) (default_payload (shape_in x t y.port) a.elements) choice (λ w. refl)
        (loans_may_hold_defaults x t node n a.elements (scarce_on lane) (on_lane y lane) lender (handles_are_on_nodes t order)))
        (wants false (default_payload (shape_in x t y.port) a.elements))

-- so is that of a client
pub client_wants : (x : Given) (c : ControlState) (node n : ℕ) (a : Asked) (uninit : Bool) → AreInOrder c.tables → (client : IsClient c.tables node n)
    → IsAskedOf (shape_in x c.tables client.port) a → MayBeMade c (lender_of_request client.port 0) a
    → IsWholeCall (state_shown x c.tables) node (loan_call uninit n a.elements) (replies.Refused WantOfMemory) (state_shown x c.tables)
client_wants x c node n a uninit order client asked may =
    let r : (ch : Choice) × (ch.memory ≡ false) × MayChoose (fixed_of x c.tables) node ch (loan_call uninit n a.elements)
    = something_may_be_chosen (fixed_of x c.tables) node (loan_call uninit n a.elements) false refl in
    loan_wants x c a order (lender_of_request client.port 0) asked may node n r.0.lane (inl (client, refl)) uninit
    (subst (λ (ch : Choice). MayChoose (fixed_of x c.tables) node ch (loan_call uninit n a.elements)) (without r.0 r.1) r.2)
  where
    without : (ch : Choice) → ch.memory ≡ false → ch ≡ scarce_on ch.lane
    without ch e = ap (λ (b : Bool). record { lane = ch.lane; memory = b }) e

-- and that of an active request
pub active_wants : (x : Given) (c : ControlState) (node n : ℕ) (a : Asked) (uninit : Bool) → AreInOrder c.tables → (active : IsActive c.tables node n)
    → IsAskedOf (shape_in x c.tables active.port) a → MayBeMade c (lender_of_response c.tables active.handle active.port) a
    → IsWholeCall (state_shown x c.tables) node (loan_call uninit n a.elements) (replies.Refused WantOfMemory) (state_shown x c.tables)
active_wants x c node n a uninit order active asked may =
    let y : Lender = lender_of_response c.tables active.handle active.port in
    loan_wants x c a order y asked may node n y.lane (inr (active, refl)) uninit
    ((each_choice_may_be x c.tables node n (scarce_on y.lane) (handles_are_on_nodes c.tables order)).responses active (loan_call uninit n a.elements) (names_it uninit n a.elements))
