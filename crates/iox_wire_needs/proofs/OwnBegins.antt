-- A node's own tables refuse a call of a port or a handle exactly where the machine does; so a call begins
-- by the node's own data.
use Rattle.std.proofs.Common.{◌≡◌, ℕ, List, Option, None, Some, refl, ap, sym, ◌∙◌}
use Rattle.iox_model.specs.declared.call.WireCall.TheVariants.{Port}
use Rattle.iox_model.specs.declared.reply.Refusal.TheVariants as refusals
use Rattle.iox_model.specs.Commands.{Call, WireCall}
use Rattle.iox_model.specs.Joins.{not_living}
use Rattle.iox_model.specs.Maps.{or_else, refused_if}
use Rattle.iox_model.specs.Weaves.{begin_refusal}
use Rattle.iox_wire_keeps.specs.Aside.{shown_at}
use Rattle.iox_wire_keeps.specs.Begins.{is_busy, misnamed_call, refusal_at}
use Rattle.iox_wire_keeps.specs.Local.{Local}
use Rattle.iox_wire_keeps.specs.Local.TheVariants.{ReleaseExchanges, ReleaseLooks}
use Rattle.iox_wire_keeps.specs.Runs.{Run}
use Rattle.iox_wire_keeps.specs.Seat.{Seat}
use Rattle.iox_wire_keeps.specs.Stands.{Player, seats_of}
use Rattle.iox_wire_keeps.specs.Tables.{Setting}
use Rattle.iox_wire_keeps.specs.WireStands.{WireStands}
use Rattle.iox_wire_keeps.proofs.BeginBeats.{refusals_are_the_machines}
use Rattle.iox_wire_keeps.proofs.BeginWhole.{begun_wires_stand}
use Rattle.iox_wire_needs.specs.OwnBegins.{CallsBeginByOwnData}

or_none : {A : Type 0} (o : Option A) → or_else o None ≡ o
or_none None = refl
or_none (Some a) = refl

-- a node that is shown otherwise has a call under way, and is shown with one
pub refused_alike : (p : Setting) (x : Seat) (call : WireCall) (local : Local) → x.local ≡ local → refusal_at p (shown_at p x local) call ≡ refusal_at p x call
refused_alike p x call (ReleaseLooks e) is = sym (ap (λ l. or_else (refused_if (is_busy l) refusals.Busy) (misnamed_call p x call)) is)
refused_alike p x call (ReleaseExchanges e old) is = sym (ap (λ l. or_else (refused_if (is_busy l) refusals.Busy) (misnamed_call p x call)) is)
refused_alike p x call local is = refl

-- the machine refuses the call of a living node exactly where its tables do, by the same name
pub refused_by_tables : (p : Setting) (words : List ℕ) (players : ℕ → Player) (r : Run) (n : ℕ) (call : Call) → WireStands p words players r
    → not_living r.last.state n ≡ None → begin_refusal r.last n (Port call) ≡ refusal_at p (players n).seat (Port call)
refused_by_tables p words players r n call wire lives =
    let z : Seat = seats_of p players n in
    ap (λ k. begin_refusal r.last k (Port call)) (sym (wire.stands.shows.node n))
    ∙ refusals_are_the_machines p wire.stands.held r.last z (Port call) (wire.stands.shows.counts n lives) (wire.stands.shows.doing n lives)
    ∙ ap (λ o. or_else o (or_else (refusal_at p z (Port call)) None)) (ap (not_living r.last.state) (wire.stands.shows.node n) ∙ lives)
    ∙ or_none (refusal_at p z (Port call)) ∙ refused_alike p (players n).seat (Port call) (players n).seat.local refl

pub begin_keeps : CallsBeginByOwnData
begin_keeps p words players r n call wire lives free few whole =
    begun_wires_stand p words players r n (Port call) wire few whole (refused_by_tables p words players r n call wire lives ∙ free)
