-- A read that is answered may be refused for want of memory as well.
use Rattle.std.specs.Prelude.{◌≡◌, ℕ, Bool, true, false, not, if◌then◌else◌, ◌==◌, List, Option, Some, None, refl}
use Rattle.std.proofs.Common.{sym, subst, ap, ◌∙◌}
use Rattle.std.proofs.lemmas.Option.{none-some}
use Rattle.iox_model.specs.declared.call.Call.TheVariants.{Read}
use Rattle.iox_model.specs.declared.kind.Kind.TheVariants as kinds
use Rattle.iox_model.specs.declared.reply.Refusal.TheVariants.{ForeignNumber, WantOfMemory, WrongKind}
use Rattle.iox_model.specs.declared.reply.Reply.TheVariants.{Refused, Words}
use Rattle.iox_model.specs.Commands.{Refusal, Reply}
use Rattle.iox_model.specs.Handles.{Subject, TheHandle, ThePort, subject}
use Rattle.iox_model.specs.Loans.{Choice}
use Rattle.iox_model.specs.Maps.{or_else, refused_if}
use Rattle.iox_model.specs.Names.{misnamed, misnamed_by, suits}
use Rattle.iox_model.specs.Settings.{is_client}
use Rattle.iox_model.specs.States.{Fixed, Handle, State}
use Rattle.iox_model.specs.WholeCalls.{IsWholeCall, UnlessRefused}
use Rattle.iox_laws.specs.CallFunctions.Answers.{answered, of_handle, unless}
use Rattle.iox_laws.specs.CallFunctions.Contents.{read_by, words_told}
use Rattle.iox_laws.proofs.CallFunctions.Holding.{each_read_is_whole}

passes : (q : Option Refusal) (s t : State) (words : List ℕ) (P : Type 0) → UnlessRefused q s (Words words) t P → q ≡ None
passes None s t words P u = refl
passes (Some r) s t words P u = let e : Words words ≡ Refused r = u.0 in absurd (cc)

not_of_port : (a client : Bool) (on_wire : Bool) (n : ℕ)
    → or_else {A = Refusal} (refused_if {A = Refusal} (not a) ForeignNumber)
    (refused_if {A = Refusal} (not (suits on_wire (Read n) (if client then kinds.Client else kinds.Server))) WrongKind) ≡ None → ⊥
not_of_port true true on_wire n e = none-some WrongKind (sym e)
not_of_port true false on_wire n e = none-some WrongKind (sym e)
not_of_port false client on_wire n e = none-some ForeignNumber (sym e)

of_a_handle : (f : Fixed) (node n : ℕ) (x : Option Subject) → misnamed_by f node (Read n) x ≡ None → (h : Handle) × (x ≡ Some (TheHandle h))
of_a_handle f node n None e = absurd (none-some _ (sym e))
of_a_handle f node n (Some (TheHandle h)) e = (h, refl)
of_a_handle f node n (Some (ThePort p)) e = absurd (not_of_port (p.node == node) (is_client p.role) f.on_wire n e)

-- memory is not there
scarce : Choice
scarce = record { lane = 0; memory = false }

pub read_may_want : (s : State) (node n : ℕ) (words : List ℕ) (t : State) → s.fixed.on_wire ≡ false
    → IsWholeCall s node (Read n) (Words words) t → IsWholeCall s node (Read n) (Refused WantOfMemory) s
unfolding scarce
read_may_want s node n words t wire whole =
    let named : misnamed s.fixed node (Read n) ≡ None = passes (misnamed s.fixed node (Read n)) s t words _ whole in
    let at : (h : Handle) × (subject s.fixed node n ≡ Some (TheHandle h)) = of_a_handle s.fixed node n (subject s.fixed node n) named in
    let told : read_by s node n scarce ≡ (Refused WantOfMemory, s) =
    ap (λ q. unless q s (answered s node (of_handle s (subject s.fixed node n) (words_told s scarce)))) named
    ∙ ap (λ x. answered s node (of_handle s x (words_told s scarce))) at.1 in
    subst (λ (v : Reply × State). IsWholeCall s node (Read n) v.0 v.1) told
    (each_read_is_whole s node n scarce (ap not wire, refl))
