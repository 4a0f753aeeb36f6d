use Rattle.std.proofs.Common.{◌≡◌, ◌+◌, ◌<◌, ◌^◌, ℕ, Bool, length, sym, subst, ap, ◌∙◌}
use Rattle.std.proofs.lemmas.Grind.{get_or_default_zero}
use Rattle.std.specs.Bool.{OnTrue}
use Rattle.iox_steps.specs.declared.access.Access.TheVariants.{Store}
use Rattle.iox_wire_words.specs.Programs.{program_access}
use Rattle.iox_wire_locals.specs.declared.local.Local.{Local}
use Rattle.iox_wire_locals.specs.declared.local.Local.TheVariants.{LendStores}
use Rattle.iox_wire_locals.specs.Locals.{program_of}
use Rattle.iox_wire_seats.specs.Aims.{IsPayloadAt}
use Rattle.iox_wire_request_sends.specs.WireLoansAims.{HasNextWord, Knows, is_storing}
use Rattle.iox_wire_request_sends.specs.WireLoansAims as loans
use Rattle.iox_wire_copies.specs.contracts.copy_lending.CopyLending.{the_view}
use Rattle.iox_wire_copies.specs.Copies.{ArePayloads, CopyLoan, HasMade, HasWordsLeft, local_of}
use Rattle.iox_wire_copies.specs.CopyAims.{IsAimed}
use Rattle.iox_wire_copies.specs.declared.at.CopyAt.{CopyAt}
use Rattle.iox_wire_copies.proofs.LendLemmas.{Lends, aimed_loan}
use Rattle.iox_wire_copies.proofs.WriteLemmas.{Writes, aimed_write, asks_alike, write_asks}
use Rattle.iox_wire_copies.proofs.copy_lending.CopyLending.asks.Goals as goal

-- while it stores one of its words is next
next_word : (l : Local) (count : ℕ) (told : Bool) → told ≡ is_storing l → OnTrue told (HasNextWord l count) → HasNextWord l count
next_word (LendStores o slot n) count told is within = subst (λ (b : Bool). OnTrue b (n < count)) is within
next_word l count told is within = tt

pub returns-in-Lends : goal.returns-in-Lends
returns-in-Lends c p x aim =
    let lends : Lends (the_view c.self.inside) = record { at = c.in-Lends.is; local = ap (λ (a : CopyAt). local_of a c.self.inside.lending c.self.inside.payload.items c.self.inside.loan.slot c.self.inside.next) c.in-Lends.is } in
    let known : loans.IsAimed p x c.self.inside.lending × ArePayloads p c.self.inside.lending.order.port c.self.inside.slots c.self.inside.places =
    aimed_loan p x (the_view c.self.inside) lends (subst (IsAimed p x) (sym c.self.view_is) aim) in
    c.asks.ensures p x known.0
    ∙ asks_alike p x c.self.inside.lending c.self.inside.payload.items c.self.inside.lending.local c.is_storing-storing.ensures.place
    (next_word c.self.inside.lending.local (length c.self.inside.lending.words) c.is_storing-storing.result c.is_storing-storing.ensures.told c.is_storing-storing.ensures.within) known.0
    ∙ ap (λ (l : Local). program_access p.layout (program_of p l)) (sym lends.local ∙ ap (λ (r : CopyLoan). r.local) c.self.view_is)

pub returns-in-Writes : goal.returns-in-Writes
returns-in-Writes c p x aim =
    let writes : Writes (the_view c.self.inside) c.self.inside.next = record {
      at = c.in-Writes.is;
      local = ap (λ (a : CopyAt). local_of a c.self.inside.lending c.self.inside.payload.items c.self.inside.loan.slot c.self.inside.next) c.in-Writes.is;
      made = subst (λ (a : CopyAt). HasMade a c.self.inside.lending.order c.self.inside.loan) c.in-Writes.is c.self.invariant.6;
    } in
    let left : (c.self.inside.next < length c.self.inside.payload.items) × (c.self.inside.place + length c.self.inside.payload.items < 2 ^ 64) =
    subst (λ (a : CopyAt). HasWordsLeft a c.self.inside.place c.self.inside.next (length c.self.inside.payload.items)) c.in-Writes.is c.self.invariant.5 in
    let known : Knows p x c.self.inside.lending × IsPayloadAt p c.self.inside.loan c.self.inside.place (length c.self.inside.payload.items) =
    aimed_write p x (the_view c.self.inside) c.self.inside.next writes (subst (IsAimed p x) (sym c.self.view_is) aim) in
    ap (Store (c.self.inside.place + c.self.inside.next))
    (c.index.ensures ∙ get_or_default_zero c.self.inside.payload.items c.self.inside.next c.index.result.now left.0)
    ∙ write_asks p x c.self.inside.lending c.self.inside.payload.items c.self.inside.loan c.self.inside.place c.self.inside.next known.0 known.1 left.0 writes.made
    ∙ ap (λ (l : Local). program_access p.layout (program_of p l)) (sym writes.local ∙ ap (λ (r : CopyLoan). r.local) c.self.view_is)
