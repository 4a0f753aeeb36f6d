-- The slots of a port's own handles differ, and a new loan has another one.
use Rattle.std.specs.Prelude.{◌<◌, filter, map}
use Rattle.std.proofs.Common.{◌≡◌, ℕ, Bool, true, false, ◌==◌, ◌&&◌, List, [], ◌∷◌, Some, None, refl, ap, sym, subst, ◌∙◌, inl, inr, arith, eqb-true, true≢false}
use Rattle.iox_model.specs.Handles.{is_own, is_received}
use Rattle.iox_model.specs.Joins.{not_living}
use Rattle.iox_model.specs.Maps.{AreDistinct, has_number}
use Rattle.iox_model.specs.Weaves.{World}
use Rattle.iox_laws.proofs.WeaveLaws.WholeLemmas.{split}
use Rattle.iox_laws.proofs.WeaveLedger.Lists.{IsAmong, NoRepeats, among-map, distinct-no_repeats, filter-among, find-own, map-among, no_repeats-distinct, no_repeats-map_filter, number-among}
use Rattle.iox_laws.proofs.WeaveLedger.Truths.{false_if}
use Rattle.iox_laws.proofs.WeaveLedger.Views.{view}
use Rattle.iox_wire_words.specs.Fits.{WireContents}
use Rattle.iox_wire_moments.specs.MomentsOf.{Pools}
use Rattle.iox_wire_locals.specs.declared.local.Ending.TheVariants as endings
use Rattle.iox_wire_locals.specs.declared.seat.Seat.{Seat}
use Rattle.iox_wire_locals.specs.declared.table.Entry.{Entry}
use Rattle.iox_wire_locals.specs.declared.table.NewLoan.{NewLoan}
use Rattle.iox_wire_locals.specs.Steps.{ending_at}
use Rattle.iox_wire_locals.specs.Tables.{Setting, handle_of}
use Rattle.iox_wire_laws.specs.WireKeeping.Shows.{ShowsWorld}
use Rattle.iox_wire_laws.specs.WireKeeping.UsedSlots.{slots_held}
use Rattle.iox_wire_laws.specs.WireHolding.SlotsKnown.{EntryFits, HasEntry}
use Rattle.iox_wire_pools.proofs.EndUses.{not_own}
use Rattle.iox_wire_steps.proofs.Knowing.{outcome_fits}
use Rattle.iox_wire_steps.proofs.OwnMessages.{OwnApart, own_apart}

-- where two of a list that agree in one way agree in the other, the one does not repeat where the other does not
apart_by : {A : Type 0} (f g : A → ℕ) (xs : List A) → ((a b : A) → IsAmong a xs → IsAmong b xs → g a ≡ g b → f a ≡ f b) → NoRepeats (map f xs) → NoRepeats (map g xs)
apart_by f g [] alike apart = tt
apart_by f g (x ∷ xs) alike apart = (
  λ has. (let at = map-among g (g x) xs has in
      apart.0 (subst (λ k. IsAmong k (map f xs)) (alike at.0 x (inr at.1) (inl refl) (sym at.2)) (among-map f at.0 xs at.1))),
  apart_by f g xs (λ a b one two. alike a b (inr one) (inr two)) apart.1,
)

module _ (p : Setting) (held : Pools) (word : ℕ → ℕ) (c : WireContents) (seats : ℕ → Seat) (w : World) (n : ℕ)
    (shows : ShowsWorld p held word c seats w) (living : not_living w.state n ≡ None) (entries : (e : Entry) → HasEntry (seats n) e → EntryFits p e)
    (numbers : AreDistinct (map (λ e. e.number) (seats n).table)) where
  abbrev x : Seat
  x = seats n

  own : OwnApart (view w.state.fixed n)
  own = own_apart w n shows.reachable

  there : (e : Entry) → IsAmong e x.table → IsAmong (handle_of held n e) (w.state.fixed.handles n)
  there e among =
      subst (λ k. IsAmong (handle_of held k e) (w.state.fixed.handles k)) (shows.node n)
      (subst (IsAmong (handle_of held x.node e)) (sym (shows.counts n living).knows.handles) (among-map (handle_of held x.node) e x.table among))

  -- an own handle holds a message of its own port
  from_port : (e : Entry) → IsAmong e x.table → is_own e.kind ≡ true → e.sender ≡ e.port
  from_port e among its =
      ((entries e (find-own (λ (k : Entry). k.number) x.table e (distinct-no_repeats (map (λ (k : Entry). k.number) x.table) numbers) among)).own
      (false_if (is_received e.kind) (λ got. true≢false (sym its ∙ not_own e.kind got)))).1

  module _ (port : ℕ) where
    abbrev test : Entry → Bool
    test e = is_own e.kind && (e.port == port)

    same_number : (a b : Entry) → IsAmong a (filter (λ e. is_own e.kind && (e.port == port)) x.table)
        → IsAmong b (filter (λ e. is_own e.kind && (e.port == port)) x.table) → a.slot ≡ b.slot → a.number ≡ b.number
    same_number a b one two slot =
        let at = filter-among (λ (e : Entry). is_own e.kind && (e.port == port)) a x.table one in
        let also = filter-among (λ (e : Entry). is_own e.kind && (e.port == port)) b x.table two in
        let kind = split (is_own a.kind) (a.port == port) at.1 in
        let other = split (is_own b.kind) (b.port == port) also.1 in
        let same_port : a.port ≡ b.port = eqb-true a.port port kind.1 ∙ sym (eqb-true b.port port other.1) in
        let sender : a.sender ≡ b.sender = from_port a at.0 kind.0 ∙ same_port ∙ sym (from_port b also.0 other.0) in
        own.apart (handle_of held n a) (handle_of held n b) (there a at.0) (there b also.0) kind.0 other.0 same_port
        (ap (λ i. (held i a.slot).serial) sender ∙ ap (λ i. (held b.sender i).serial) slot)

    -- no two own handles of a port have one slot
    pub slots_differ : AreDistinct (slots_held x port)
    slots_differ =
        no_repeats-distinct (slots_held x port)
        (apart_by (λ (e : Entry). e.number) (λ e. e.slot) (filter (λ e. is_own e.kind && (e.port == port)) x.table) same_number
        (no_repeats-map_filter (λ (e : Entry). e.number) (λ e. is_own e.kind && (e.port == port)) x.table
        (distinct-no_repeats (map (λ (e : Entry). e.number) x.table) numbers)))

  -- the slot of a new loan is that of no handle
  pub lent_differs : (o : NewLoan) (slot : ℕ) → ending_at x.local ≡ Some (endings.Lends o slot) → (held o.port slot).serial ≡ o.serial
      → has_number slot (slots_held x o.port) ≡ false
  lent_differs o slot is holds = false_if (has_number slot (slots_held x o.port)) (λ has.
      let at = map-among (λ (e : Entry). e.slot) slot (filter (λ e. is_own e.kind && (e.port == o.port)) x.table) (number-among slot (slots_held x o.port) has) in
      let among = filter-among (λ (e : Entry). is_own e.kind && (e.port == o.port)) at.0 x.table at.1 in
      let kind = split (is_own at.0.kind) (at.0.port == o.port) among.1 in
      let port : at.0.port ≡ o.port = eqb-true at.0.port o.port kind.1 in
      let sender : at.0.sender ≡ o.port = from_port at.0 among.0 kind.0 ∙ port in
      let serial : (held at.0.sender at.0.slot).serial ≡ o.serial
      = ap (λ i. (held i at.0.slot).serial) sender ∙ ap (λ i. (held o.port i).serial) (sym at.2) ∙ holds in
      let next : o.serial ≡ (view w.state.fixed n).loans o.port = (outcome_fits p held word c seats w n (endings.Lends o slot) shows living is).0.stands.0 in
      apart (held at.0.sender at.0.slot).serial ((view w.state.fixed n).loans o.port)
      (subst (λ q. (held at.0.sender at.0.slot).serial < (view w.state.fixed n).loans q) port
      (own.lent (handle_of held n at.0) (there at.0 among.0) kind.0)) (serial ∙ next))
    where
      apart : (a b : ℕ) → a < b → a ≡ b → ⊥
      apart a b low same = omega (arith, low, same)
