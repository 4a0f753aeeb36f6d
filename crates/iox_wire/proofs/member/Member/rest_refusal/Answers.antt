use Rattle.std.specs.Prelude.{Option, Some, None, is_some, nat_le, not, option_map, true, false}
use Rattle.std.proofs.Common.{◌≡◌, ap, refl, sym, ◌∙◌, arith}
use Rattle.std.proofs.lemmas.Bool.{le-leb}
use Rattle.iox_wire_weaves.specs.Begins.{is_busy}
use Rattle.iox_wire_weaves.specs.Nodes.{seat_in}
use Rattle.iox_wire_weaves.specs.Steps.{most_accesses, rest_refusal}
use Rattle.iox_wire_weaves.specs.Wires.{WireNode}
use Rattle.iox_wire_weaves.specs.declared.refusal.WireRefusal.TheVariants.{AccessesSpent, AtRest}
use Rattle.iox_wire.proofs.member.Member.rest_refusal.Goals as goal

-- whether there is a call under way, its words aside
same_some : {A B : Type 0} (f : A → B) (o : Option A) → is_some (option_map f o) ≡ is_some o
same_some f None = refl
same_some f (Some a) = refl

rests : (x : WireNode) → is_busy (seat_in x.node).local ≡ false → Some AtRest ≡ rest_refusal x
rests x idle = rw idle refl

spent : (x : WireNode) → is_busy (seat_in x.node).local ≡ true → nat_le most_accesses (seat_in x.node).accesses ≡ true → Some AccessesSpent ≡ rest_refusal x
spent x busy all = rw (busy, all) refl

pub returns-then-is_none : goal.returns-then-is_none
returns-then-is_none c =
    rests c.args.self.now
    (c.requires ∙ ap (λ (x : WireNode). is_some x.call) (sym c.self.view_is) ∙ same_some _ c.self.inside.call
    ∙ c.is_none.ensures ∙ ap not c.if-is_none.true)

pub returns-then-accesses-ge-MOST_ACCESSES : goal.returns-then-accesses-ge-MOST_ACCESSES
returns-then-accesses-ge-MOST_ACCESSES c =
    spent c.args.self.now
    (c.requires ∙ ap (λ (x : WireNode). is_some x.call) (sym c.self.view_is) ∙ same_some _ c.self.inside.call
    ∙ c.is_none.ensures ∙ ap not c.if-is_none.false)
    (le-leb most_accesses (seat_in c.args.self.now.node).accesses
    (let made = ap (λ (x : WireNode). (seat_in x.node).accesses) c.self.view_is in
    omega (arith, made, c.accesses.ensures, c.if-accesses-ge-MOST_ACCESSES.true)))
