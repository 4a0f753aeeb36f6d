-- The words of a queue without overflow never let a push go on that found it full.
use Rattle.std.proofs.Common.{◌≡◌, Bool, true, false, if◌then◌else◌, Some, refl, ap, sym, subst, ◌∙◌}
use Rattle.iox_model.specs.Peers.{overflows_on, role_at}
use Rattle.iox_model.specs.Settings.{overflow_of, Limits}
use Rattle.iox_steps.specs.declared.push.Push.TheVariants as push
use Rattle.iox_steps.specs.declared.site.QueueKind.{QueueKind}
use Rattle.iox_steps.specs.declared.site.QueueKind.TheVariants.{Index, Overflowing}
use Rattle.iox_steps.specs.declared.side.Pushing.TheVariants as pushing
use Rattle.iox_steps.specs.Fits.{PushingKnows, PushKnows}
use Rattle.iox_wire_words.specs.Programs.{site_of, pusher_of, pushing_in}
use Rattle.iox_wire_words.proofs.PieceLemmas.{same_queue-refl}
use Rattle.iox_word_map.specs.WordMaps.{MessageQueue}
use Rattle.iox_wire_locals.specs.declared.local.Local.{Local}
use Rattle.iox_wire_locals.specs.Known.{known}
use Rattle.iox_wire_locals.specs.Locals.{program_of}
use Rattle.iox_wire_locals.proofs.KnowingLemmas.{role_known}
use Rattle.iox_wire_laws.specs.WireKeeping.Shows.{programs_of}
use Rattle.iox_wire_laws.specs.WireKeeping.FullPushes.{FullPushesOverflow}

not_index : {A : Type 0} → Index ≡ Overflowing → A
not_index e = absurd (subst IsIndex e tt)
  where
    IsIndex : QueueKind → Type 0
    IsIndex Index = Unit {0}
    IsIndex Overflowing = ⊥

overflowing : (b : Bool) (kind : QueueKind) → kind ≡ (if b then Overflowing else Index) → kind ≡ Overflowing → b ≡ true
overflowing true kind is over = refl
overflowing false kind is over = not_index (sym is ∙ over)

pub full_pushes_overflow : FullPushesOverflow
full_pushes_overflow p held word c seats w n d last y value end read left count shows living is way mine sender =
    let at : pushing_in (MessageQueue y) (programs_of p seats (pusher_of p.layout (MessageQueue y)))
    ≡ pushing.Pushes (push.StoresWrite value end (Some read))
    = ap (λ k. pushing_in (MessageQueue y) (programs_of p seats k)) mine
    ∙ ap (λ (l : Local). pushing_in (MessageQueue y) (program_of p l)) is ∙ rw (same_queue-refl (MessageQueue y)) refl in
    let knows : PushKnows (site_of p.layout (MessageQueue y)) word (c.queues (MessageQueue y)).waiting (c.queues (MessageQueue y)).hand
    (push.StoresWrite value end (Some read))
    = subst (PushingKnows (site_of p.layout (MessageQueue y)) word (c.queues (MessageQueue y)).waiting (c.queues (MessageQueue y)).hand)
    at (shows.words.queues (MessageQueue y) way).1.push in
    let over : overflows_on w.state.fixed y ≡ true
    = overflowing (overflows_on w.state.fixed y) (p.layout.kind (MessageQueue y)) (shows.suits.kind y way) knows.2.0 in
    let has = shows.counts n living in
    ap (λ (m : Limits). overflow_of m (role_at (known p (seats n)) d.loan.port)) (sym has.knows.limits)
    ∙ ap (overflow_of w.state.fixed.limits) (sym (role_known p (seats n) w.state.fixed held has.knows d.loan.port))
    ∙ ap (λ port. overflow_of w.state.fixed.limits (role_at w.state.fixed port)) (sym sender) ∙ over
