-- Entries of a schedule have one end each, at a site and at a value.
use Rattle.std.proofs.Common.{◌≡◌, ◌∙◌, ℕ, Bool, List, refl, sym, ap, ap₂, subst, Option, Some, None, Result, Ok, Err, OnOk, inl, inr}
use Rattle.std.specs.Prelude.{if◌then◌else◌}
use Rattle.std.proofs.lemmas.List.{map-id}
use Rattle.iox_steps.specs.declared.access.Access.{Access}
use Rattle.iox_steps.specs.declared.access.Progress.{Progress}
use Rattle.iox_steps.specs.declared.error.MachineError.{MachineError}
use Rattle.iox_steps.specs.declared.machine.Entry.{Entry}
use Rattle.iox_steps.specs.Entries.{all_entered, seen_as}
use Rattle.iox_steps.specs.MachineStates.{MachineState, AllEntered}
use Rattle.iox_steps.proofs.EntryLemmas.{all_enter}
use Rattle.iox_set_steps.specs.Kinds.{Kind, asks, happens, party_rests, Leads, Begins}
use Rattle.iox_set_steps.specs.SitedMachines.{Sited, AllKindEntered, goes, call_begun, sited_after}
use Rattle.iox_set_steps.specs.SitedLaws.{Laws}
use Rattle.iox_set_steps.specs.declared.unrestricted_atomic.AtomicCall.{AtomicCall}
use Rattle.iox_set_steps.specs.declared.unrestricted_atomic.AtomicReply.{AtomicReply}
use Rattle.iox_set_steps.specs.declared.unrestricted_atomic.AtomicProgram.{AtomicProgram}
use Rattle.iox_set_steps.specs.declared.unrestricted_atomic.party.AtomicParty.{AtomicParty}
use Rattle.iox_set_steps.specs.AtomicPlays.{AtomicMachineState, atomics_ask, atomics_happen, atomics_rest, AtomicsLead, AtomicsBegin}
use Rattle.iox_set_steps.specs.AtomicMachines.{AllAtomicsEntered}
use Rattle.iox_set_steps.specs.AtomicEntries.{atomics_go, atomic_call_begun, atomics_after}

-- each party has one way on, and so a schedule that is played to its end has one end
module _ {P E R C : Type 0} (asks : P → Access) (goes : P → ℕ → P) (happens : P → ℕ → Option E) (at_rest : P → Bool) (begins_to : P → C → Option P)
    (leads : P → ℕ → Progress R → P → Type 0) (begins : P → C → Result P MachineError → Type 0)
    (led : (party after : P) (seen : ℕ) (answer : Progress R) → leads party seen answer after → after ≡ goes party seen)
    (began : (party after : P) (call : C) → begins party call (Ok after) → begins_to party call ≡ Some after)
    (refused : (party : P) (call : C) (error : MachineError) → begins party call (Err error) → begins_to party call ≡ None) where
  seen_as_is : (machine : MachineState P E) → seen_as (λ party. party) machine ≡ machine
  seen_as_is machine = rw (map-id machine.parties) refl

  pub one_end : (old : MachineState P E) (entries : List (Entry C)) (new : MachineState P E) → AllEntered asks leads happens at_rest begins old entries new
      → new ≡ all_entered asks goes happens at_rest begins_to old entries
  one_end old entries new all =
      let is = all_enter (λ party. party) asks goes happens at_rest begins_to leads begins led began refused old entries new all in
      subst (λ (w : MachineState P E). new ≡ all_entered asks goes happens at_rest begins_to w entries) (seen_as_is old) (sym (seen_as_is new) ∙ is)

-- parties at a site
module _ {S G P C R E : Type 0} (kind : Kind S G P C R E) (laws : Laws kind) where
  made : (party after : P) (program : G) → kind.site_of after ≡ kind.site_of party → kind.program_of after ≡ program
      → after ≡ kind.party_of (kind.site_of party) program
  made party after program here at = laws.is_whole after ∙ ap₂ kind.party_of here at

  kind_led : (party after : P) (seen : ℕ) (answer : Progress R) → Leads kind party seen answer after → after ≡ goes kind party seen
  kind_led party after seen answer leads = made party after _ leads.0 leads.1

  abbrev begun_by : P → C → P
  begun_by party call = kind.party_of (kind.site_of party) (kind.start (kind.site_of party) call)

  kind_began : (party after : P) (call : C) → Begins kind party call (Ok after) → call_begun kind party call ≡ Some after
  kind_began party after call begins =
      subst (λ (at_rest : Bool). (if at_rest then Some (begun_by party call) else None) ≡ Some after)
      (sym (ap kind.rests begins.0 ∙ laws.rests)) (ap Some (sym (made party after _ begins.1 begins.2)))

  kind_refused : (party : P) (call : C) (error : MachineError) → Begins kind party call (Err error) → call_begun kind party call ≡ None
  kind_refused party call error begins =
      subst (λ (at_rest : Bool). (if at_rest then Some (begun_by party call) else None) ≡ None) (sym begins.1) refl

  pub sited_end : {A B : Type 0} (site : S) (old : MachineState P E) (entries : List (Entry C)) (new : MachineState P E) (result : Result A B)
      → OnOk result (AllKindEntered kind old entries new)
      → let before : Sited S P E = record { site = site; machine = old } in let after : Sited S P E = record { site = site; machine = new } in
      OnOk result (after ≡ sited_after kind before entries)
  sited_end site old entries new (Ok done) all = ap (λ (w : MachineState P E). record { site = site; machine = w })
      (one_end (asks kind) (goes kind) (happens kind) (party_rests kind) (call_begun kind) (Leads kind) (Begins kind)
      kind_led kind_began kind_refused old entries new all)
  sited_end site old entries new (Err error) all = tt

-- a value
module _ (size : ℕ) where
  atomic_made : (party after : AtomicParty size) (program : AtomicProgram size) → after.base ≡ party.base → after.stores ≡ party.stores
      → after.program ≡ program → after ≡ record { base = party.base; stores = party.stores; program = program }
  atomic_made party after program base stores goes = ap₂ (λ (mid : AtomicParty size) (p : AtomicProgram size). record mid { program = p })
      (ap₂ (λ (b : ℕ) (s : Bool). record { base = b; stores = s; program = after.program }) base stores) goes

  atomics_led : (party after : AtomicParty size) (seen : ℕ) (answer : Progress (AtomicReply size)) → AtomicsLead size party seen answer after
      → after ≡ atomics_go party seen
  atomics_led party after seen answer leads = atomic_made party after _ leads.0 leads.1 leads.2

  atomics_began : (party after : AtomicParty size) (call : AtomicCall size) → AtomicsBegin party call (Ok after) → atomic_call_begun party call ≡ Some after
  atomics_began party after call begins =
      rw (begins.0, begins.1) (ap Some (sym (atomic_made party after _ begins.2 begins.3 begins.4)))

  atomics_refused : (party : AtomicParty size) (call : AtomicCall size) (error : MachineError) → AtomicsBegin party call (Err error)
      → atomic_call_begun party call ≡ None
  atomics_refused party call error begins = elim begins [
    | inl other ↦ rw (other.1) refl
    | inr busy ↦ rw (busy.1, busy.2) refl
  ]

  pub atomics_enter : (old : AtomicMachineState size) (entries : List (Entry (AtomicCall size))) (new : AtomicMachineState size) → AllAtomicsEntered size old entries new
      → new ≡ atomics_after old entries
  atomics_enter old entries new all =
      one_end (atomics_ask size) atomics_go atomics_happen atomics_rest atomic_call_begun (AtomicsLead size) AtomicsBegin
      atomics_led atomics_began atomics_refused old entries new all

  pub atomics_end : {A B : Type 0} (old : AtomicMachineState size) (entries : List (Entry (AtomicCall size))) (new : AtomicMachineState size) (result : Result A B)
      → OnOk result (AllAtomicsEntered size old entries new) → OnOk result (new ≡ atomics_after old entries)
  atomics_end old entries new (Ok done) all = atomics_enter old entries new all
  atomics_end old entries new (Err error) all = tt
