-- In each state that is reached, ports keep to their pools.
use Rattle.std.specs.Prelude.{◌≡◌, ℕ, ◌≤◌, true, false, ◌&&◌, ◌==◌, List, [], ◌∷◌, ◌++◌, length, map, filter, Option, Some, None, find, ◌⊎◌}
use Rattle.std.specs.Prelude.{refl}
use Rattle.std.specs.List.{list_any}
use Rattle.std.specs.Option.{option_map_or}
use Rattle.std.proofs.Common.{sym, subst, ap, ◌∙◌, arith, true≢false, inl, inr}
use Rattle.iox_model.specs.declared.kind.Role.TheVariants.{Client}
use Rattle.iox_model.specs.declared.way.Way.{Way}
use Rattle.iox_model.specs.Begins.{start}
use Rattle.iox_model.specs.Commands.{Call}
use Rattle.iox_model.specs.Counts.{with_fixed}
use Rattle.iox_model.specs.Doings.{Outcome, Fills, Doing}
use Rattle.iox_model.specs.Ends.{settled}
use Rattle.iox_model.specs.Handles.{is_own, handle_at}
use Rattle.iox_model.specs.Keeping.{kept_in}
use Rattle.iox_model.specs.Loans.{Choice}
use Rattle.iox_model.specs.Makings.{new_port, with_port}
use Rattle.iox_model.specs.Maps.{has_number}
use Rattle.iox_model.specs.Moments.{Holds, moved, Moment}
use Rattle.iox_model.specs.Names.{misnamed}
use Rattle.iox_model.specs.Outstandings.{is_held, is_outstanding}
use Rattle.iox_model.specs.Peers.{port_at, node_of_port, ways_from}
use Rattle.iox_model.specs.States.{Port, Handle, Fixed, State}
use Rattle.iox_model.specs.Transitions.{next, ends}
use Rattle.iox_model.specs.Values.{Filling, filled_as, MayFill}
use Rattle.iox_model.specs.Weaves.{at_work}
use Rattle.iox_model.specs.WholeCalls.{moved_by, left_by, MayCome}
use Rattle.iox_laws.proofs.WeaveLaws.WholeLemmas.{moved-fixed}
use Rattle.iox_laws.proofs.WeaveWorlds.ReachedPorts.{distinct_next}
use Rattle.iox_laws.proofs.WeaveLedger.Orders.{none-more}
use Rattle.iox_laws.proofs.WeaveLedger.Ranges.{no-longer}
use Rattle.iox_laws.proofs.WeaveLedger.Truths.{never, one_of, none-some, by_cases, or-left, or-right}
use Rattle.iox_laws.proofs.WeaveLedger.Lists.{IsAmong, among-last, find-among, any-among, among-any, distinct-no_repeats}
use Rattle.iox_laws.proofs.WeaveLedger.Phases.{HasOwnPorts}
use Rattle.iox_laws.proofs.WeaveLedger.Views.{view}
use Rattle.iox_laws.proofs.WeavePools.Holds.{HoldsOwn, holds-held}
use Rattle.iox_laws.proofs.WeavePools.HoldsBeats.{fresh}
use Rattle.iox_laws.proofs.WeavePools.HoldsKept.{keeps, Keeping, Follows, follows-keeping, kept-apart, kept-is}
use Rattle.iox_laws.proofs.WeavePools.Ways.{way-of}
use Rattle.iox_laws.proofs.RunLaws.Calls.{own_ports}
use Rattle.iox_laws.proofs.RunLaws.Ports.{any_at, at_more, first_more, next_is_free}
use Rattle.iox_laws.proofs.RunLaws.Rests.{Rests}
use Rattle.iox_laws.proofs.RunLaws.Settling.{Calm}
use Rattle.iox_laws.proofs.RunLedger.Fillings.{fills}
use Rattle.iox_laws.specs.RunPools.PoolsRest.{PoolsRestWithin, NextRestsFresh}
use Rattle.iox_laws.proofs.RunPools.Inductions.{IsKeptCalm, reached_holds}
use Rattle.iox_laws.proofs.RunPools.Goings.{Any, any_onward, Going, going_start, going_next, going_fills, Recorded, moved_recorded}
use Rattle.iox_laws.proofs.RunPools.Follows.{calls, start_follows, filling_follows, next_follows, nothing}
use Rattle.iox_laws.proofs.RunPools.Parts.{WasPort, SamePort, same_port, was_found, was_way, Leaves, settled_leaves}
use Rattle.iox_laws.proofs.RunPools.Ends.{Ending, ending, end_follows}

-- ---- between calls, and while a call is under way

pub record KeepsTo (s : State) : Type 0 where
  pub recorded : Recorded s
  pub keeping : (q : ℕ) (p : Port) → port_at s.fixed q ≡ Some p → Keeping (at_work s) q p

record KeepsOn (s : State) (n : ℕ) (d : Doing) : Type 0 where
  pub going : Going Any s n d
  pub recorded : Recorded s
  pub keeping : (q : ℕ) (p : Port) → port_at s.fixed q ≡ Some p → Keeping (calls s n d) q p

start_keeps : (s : State) (n : ℕ) (c : Choice) (call : Call) → Calm s → misnamed s.fixed n call ≡ None → KeepsTo s → KeepsOn s n (start s n c call)
start_keeps s n c call calm named k = record {
  going = going_start Any s n c call calm (λ h. tt) named;
  recorded = k.recorded;
  keeping = λ q p is. follows-keeping (at_work s) (calls s n (start s n c call)) q p (start_follows s n c call q p is) (k.keeping q p is);
}

filling_keeps : (s : State) (n number : ℕ) (h : Handle) (x : Filling) → Calm s → handle_at s.fixed n number ≡ Some h → MayFill s.fixed h x → KeepsTo s
    → KeepsOn s n (fills h x)
filling_keeps s n number h x calm there may k = record {
  going = going_fills s n number h x calm there may;
  recorded = k.recorded;
  keeping = λ q p is. follows-keeping (at_work s) (calls s n (fills h x)) q p (filling_follows s n h x q p) (k.keeping q p is);
}

next_keeps : (s : State) (n : ℕ) (d : Doing) (m : Moment) → Holds s m → (next s n d m).condition → KeepsOn s n d → KeepsOn (moved s m) n (next s n d m).after
next_keeps s n d m holds c k = record {
  going = going_next Any Any s n d m k.going (any_onward d m) holds c;
  recorded = moved_recorded Any s n d m k.going c k.recorded;
  keeping = λ q p is.
      let was : port_at s.fixed q ≡ Some p = ap (λ (f : Fixed). port_at f q) (sym (moved-fixed s m)) ∙ is in
      follows-keeping (calls s n d) (calls (moved s m) n (next s n d m).after) q p (next_follows Any s n d m q p k.going was c) (k.keeping q p was);
}

moments_keep : (s : State) (n : ℕ) (d : Doing) (ms : List Moment) → MayCome s n d ms → KeepsOn s n d → KeepsOn (moved_by s ms) n (left_by s n d ms)
moments_keep s n d [] may k = k
moments_keep s n d (m ∷ ms) may k = moments_keep (moved s m) n (next s n d m).after ms may.2 (next_keeps s n d m may.0 may.1 k)

pub found_at : (ps : List Port) (k : ℕ) (p : Port) → find (λ q. q.number == k) ps ≡ Some p → any_at k ps ≡ true
found_at ps k p e =
    let r : IsAmong p ps × ((p.number == k) ≡ true) = find-among (λ (q : Port). q.number == k) p ps e in
    among-any (λ (q : Port). q.number == k) p ps r.0 r.1

end_keeps : (s : State) (n : ℕ) (d : Doing) (payload : List ℕ) (o : Outcome) → ends s d ≡ Some o → Rests (settled s n payload o).fixed → KeepsOn s n d
    → KeepsTo (settled s n payload o)
end_keeps s n d payload o ended rests k = record {
  recorded = λ y i e. (
    leaves.from y i e (k.recorded y i (leaves.delivered y i e)).0,
    leaves.to y i e (k.recorded y i (leaves.delivered y i e)).1,
  );
  keeping = λ q r is. keeping q r is (was_found s.fixed.ports t.fixed.ports q r (own_ports s.fixed e.rests) is (leaves.ports r));
}
  where
    t : State
    t = settled s n payload o

    e : Ending s n o
    e = ending Any s n d o k.going ended

    leaves : Leaves s t
    leaves = settled_leaves s n payload o (e.rests).hub e.stands

    keeping : (q : ℕ) (r : Port) → port_at t.fixed q ≡ Some r → (p : Port) × (port_at s.fixed q ≡ Some p) × SamePort p r → Keeping (at_work t) q r
    keeping q r is p =
        let u : Keeping (at_work t) q p.0 = follows-keeping (calls s n d) (at_work t) q p.0
        (end_follows Any s n d payload o q p.0 r k.going ended e (own_ports t.fixed rests) p.1 is p.2 (found_at t.fixed.ports q r is)) (k.keeping q p.0 p.1) in
        record { lent = u.lent; fits = subst (λ i. length (kept_in (at_work t) q) ≤ i) (sym (p.2).pool) u.fits }

-- ---- a port is made

made_keeps : (s : State) (p : Port) → p.number ≡ s.fixed.next_number → Rests s.fixed → KeepsTo s → KeepsTo (with_fixed s (with_port s.fixed p))
made_keeps s p number rests k = record {
  recorded = λ y i e. (at_more y.sender ps p (k.recorded y i e).0, at_more y.receiver ps p (k.recorded y i e).1);
  keeping = λ q r is. by_cases (any_at q ps) (old q r is) (new q r is);
}
  where
    ps : List Port
    ps = s.fixed.ports

    t : State
    t = with_fixed s (with_port s.fixed p)

    own : HasOwnPorts t.fixed
    own = distinct-no_repeats (map (λ (x : Port). x.number) (ps ++ p ∷ []))
        (distinct_next s.fixed.next_number ps p number (rests.numbered).1 (rests.numbered).0)

    -- what was there before is another
    before : (y : Way) (i : ℕ) → s.delivered y i ≡ true → (z : Port) → IsAmong z (ps ++ p ∷ []) → z.number ≡ y.receiver → WasPort ps z
    before y i e z a to = elim (among-last z p ps a) as (λ u. WasPort ps z) [
      | inl b ↦ (z, b, same_port z)
      | inr is ↦ never (any_at y.receiver ps) (k.recorded y i e).1
          (ap (λ j. any_at j ps) (sym to ∙ ap (λ (x : Port). x.number) is ∙ number) ∙ next_is_free s.fixed.next_number ps (rests.numbered).1)
    ]

    old : (q : ℕ) (r : Port) → port_at t.fixed q ≡ Some r → any_at q ps ≡ true → Keeping (at_work t) q r
    old q r is there = follows-keeping (at_work s) (at_work t) q r follows (k.keeping q r was)
      where
        first : port_at t.fixed q ≡ port_at s.fixed q
        first = first_more q ps p there

        was : port_at s.fixed q ≡ Some r
        was = sym first ∙ is

        same : (a : ℕ) → a ≤ a
        same a = omega arith

        held : (i : ℕ) → is_held t.fixed q i ≡ is_held s.fixed q i
        held i =
            ap (λ (o : Option Port). list_any (λ h. is_own h.kind && (h.message.serial == i))
            (filter (λ h. h.port == q) (s.fixed.handles (option_map_or (λ x. x.node) o 0)))) first

        out : (i : ℕ) → (y : Way) × IsAmong y (ways_from t.fixed q) × (s.delivered y i ≡ true) → is_outstanding s q i ≡ true
        out i y =
            among-any (λ z. s.delivered z i) y.0 (ways_from s.fixed q)
            (was_way s.fixed t.fixed q y.0 (own_ports s.fixed rests) own (ap (λ (o : Option Port). option_map_or (λ x. x.role) o Client) first)
            (before y.0 i y.2) y.1) y.2

        follows : Follows (at_work s) (at_work t) q r
        follows = record {
          loans = same (s.fixed.loans q);
          kept = λ i e. elim (one_of (is_held t.fixed q i) (is_outstanding t q i) e) as (λ z. (keeps s q i ≡ true) ⊎ (has_number i [] ≡ true)) [
            | inl h ↦ inl (or-left (is_held s.fixed q i) (is_outstanding s q i) (sym (held i) ∙ h))
            | inr h ↦ inl (or-right (is_held s.fixed q i) (is_outstanding s q i) (out i (any-among (λ y. s.delivered y i) (ways_from t.fixed q) h)))
          ];
          call = λ i e. nothing i e;
          under_is = λ i e. nothing i e;
          stays = λ i e. nothing i e;
        }

    new : (q : ℕ) (r : Port) → port_at t.fixed q ≡ Some r → any_at q ps ≡ false → Keeping (at_work t) q r
    new q r is none = record {
      lent = λ i e. absurd (no i e);
      fits = none-more (length (kept_in (at_work t) q)) r.pool (no-longer (kept_in (at_work t) q) []
          (kept-apart (at_work t) q) (λ i a. absurd (no i (kept-is (at_work t) q i a))));
    }
      where
        held : (i : ℕ) → HoldsOwn (view t.fixed (node_of_port t.fixed q)) q i → ⊥
        held i h =
            never (any_at h.handle.port ps) ((rests.handles (node_of_port t.fixed q)).each h.handle h.among).of_port.0 (ap (λ j. any_at j ps) h.port ∙ none)

        out : (i : ℕ) → (y : Way) × IsAmong y (ways_from t.fixed q) × (s.delivered y i ≡ true) → ⊥
        out i y = never (any_at (y.0).sender ps) (k.recorded y.0 i y.2).0 (ap (λ j. any_at j ps) (way-of t.fixed q r y.0 is y.1).sender ∙ none)

        no : (i : ℕ) → keeps t q i ≡ true → ⊥
        no i e = elim (one_of (is_held t.fixed q i) (is_outstanding t q i) e) as (λ z. ⊥) [
          | inl h ↦ held i (holds-held t.fixed (node_of_port t.fixed q) q i refl h)
          | inr h ↦ out i (any-among (λ y. s.delivered y i) (ways_from t.fixed q) h)
        ]

-- ---- over runs

pub keeps_to : IsKeptCalm KeepsTo
keeps_to = record {
  first = λ l acts id. record { recorded = λ y k e. absurd (true≢false (sym e)); keeping = λ q p is. absurd (none-some p is) };
  nodes = λ s x k. record { recorded = k.recorded; keeping = λ q p is. record { lent = (k.keeping q p is).lent; fits = (k.keeping q p is).fits } };
  makes = λ s node role id o memory calm allowed k. made_keeps s (new_port s.fixed node role id o) refl (calm.rests).fixed k;
  calls = λ s node call reply t calm after named d k.
      subst KeepsTo (sym d.9) (end_keeps (moved_by s d.2) node (left_by s node (start s node d.0 call) d.2) d.6 d.4 d.5
      (subst (λ (u : State). Rests u.fixed) d.9 (after.rests).fixed)
      (moments_keep s node (start s node d.0 call) d.2 d.3 (start_keeps s node d.0 call calm named k)));
  fills = λ s node number h x calm after there may k.
      end_keeps s node (fills h x) [] (Fills (filled_as h x)) refl (after.rests).fixed (filling_keeps s node number h x calm there may k);
}

-- No port keeps more than its pool has,
pub pools_rest_within : PoolsRestWithin
pools_rest_within s port p reached is = ((reached_holds KeepsTo s keeps_to reached).keeping port p is).fits

-- and the next that it lends is none of them.
pub next_rests_fresh : NextRestsFresh
next_rests_fresh s port p reached is = fresh (at_work s) port p ((reached_holds KeepsTo s keeps_to reached).keeping port p is) refl
