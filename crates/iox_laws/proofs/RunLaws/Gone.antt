-- What rests keeps resting as a port goes, or its value is released.
use Rattle.std.specs.Prelude.{◌≡◌, ℕ, ◌+◌, true, false, not, ◌&&◌, ◌==◌, nat_lt, nat_le, List, [], ◌∷◌, length, map, filter, None, refl}
use Rattle.std.specs.List.{list_any}
use Rattle.std.specs.Option.{option_map_or}
use Rattle.std.proofs.Common.{sym, subst, ap, ap₂, ◌∙◌, true≢false, eqb-true, arith}
use Rattle.iox_model.specs.declared.kind.Role.TheVariants.{Client}
use Rattle.iox_model.specs.Expiries.{disconnected, is_last_gone, released, stays}
use Rattle.iox_model.specs.Settings.{buffer_of}
use Rattle.iox_model.specs.States.{Port, Handle, Fixed, State}
use Rattle.iox_model.specs.Handles.{handles_of}
use Rattle.iox_model.specs.Maps.{is_empty, AreDistinct}
use Rattle.iox_model.specs.Messages.{Message}
use Rattle.iox_model.specs.Ends.{port_dropped}
use Rattle.iox_model.specs.Counts.{with_fixed}
use Rattle.iox_model.specs.Peers.{node_of_port, role_at, buffer_on}
use Rattle.iox_laws.proofs.WeaveLaws.MapLemmas.{either}
use Rattle.iox_laws.proofs.WeaveLaws.WholeLemmas.{split}
use Rattle.iox_laws.proofs.WeaveLedger.Orders.{le-zero}
use Rattle.iox_laws.proofs.WeaveLedger.Truths.{false_if, never, by_cases}
use Rattle.iox_laws.proofs.WeaveLedger.Lists.{IsAmong, among-filter}
use Rattle.iox_laws.proofs.WeaveWorlds.PortLemmas.{distinct-filter}
use Rattle.iox_laws.proofs.WeaveWorlds.ReachedPorts.{below_filter, same_numbers, same_below}
use Rattle.iox_laws.proofs.WeaveWorlds.Sound.{IsWithin}
use Rattle.iox_laws.proofs.RunLaws.Ports.{any_at, first_at, others_than, IsPortIn, any_dropped, first_dropped, any_others, first_others, port_still, port_was, port_stays, port_stood}
use Rattle.iox_laws.proofs.RunLaws.Rests.{FitsHandle, Rests, Rested}

-- ---- a port goes with its last handle

-- so no handle belongs to it
none_of : (xs : List Handle) (port : ℕ) (h : Handle) → is_empty (filter (λ k. k.port == port) xs) ≡ true → IsAmong h xs → (h.port == port) ≡ false
none_of xs port h e among =
    false_if (h.port == port) (λ of_port. no_one (filter (λ (k : Handle). k.port == port) xs) h e
    (among-filter (λ (k : Handle). k.port == port) h xs among of_port))
  where
    no_one : (ys : List Handle) (h : Handle) → is_empty ys ≡ true → IsAmong h ys → ⊥
    no_one [] h e p = p
    no_one (y ∷ ys) h e p = true≢false (sym e)

pub others_belong : (f : Fixed) (gone n : ℕ) (h : Handle) → is_last_gone f gone ≡ true → IsAmong h (f.handles n) → IsPortIn f.ports n h.port
    → (h.port == gone) ≡ false
others_belong f gone n h last among own =
    by_cases (h.port == gone)
    (λ is. none_of (f.handles (node_of_port f gone)) gone h empty
    (subst (λ k. IsAmong h (f.handles k)) (sym own.1 ∙ ap (node_of_port f) (eqb-true h.port gone is)) among))
    (λ other. other)
  where
    empty : is_empty (handles_of f gone) ≡ true
    empty =
        (split (not (list_any (λ p. (p.number == gone) && p.held) f.ports)) (is_empty (handles_of f gone))
        (split (not f.on_wire) (not (list_any (λ p. (p.number == gone) && p.held) f.ports) && is_empty (handles_of f gone)) last).1).1

gone_rests : (s : State) (gone : ℕ) → is_last_gone s.fixed gone ≡ true → Rests s.fixed → Rests (disconnected s gone).fixed
gone_rests s gone last r = record {
  hub = r.hub;
  numbered = (
    distinct-filter (λ q. not (q.number == gone)) s.fixed.ports (r.numbered).0,
    below_filter s.fixed.next_number (λ q. not (q.number == gone)) s.fixed.ports (r.numbered).1,
  );
  handles = λ n. record {
    apart = (r.handles n).apart;
    each = λ h among.
        let p : FitsHandle s.fixed.ports s.fixed.next_number n h = (r.handles n).each h among in
        record {
          of_node = p.of_node;
          of_port = port_stays s.fixed.ports n h.port gone (others_belong s.fixed gone n h last among p.of_port) p.of_port;
          below = p.below;
          no_port = false_if (any_at h.number (others_than gone s.fixed.ports))
              (λ there. never (any_at h.number s.fixed.ports) (any_others gone h.number s.fixed.ports there).0 p.no_port);
        };
  };
}

gone_buffer : (f : Fixed) (gone k : ℕ) → (k == gone) ≡ false
    → option_map_or (λ (p : Port). p.role) (first_at k (others_than gone f.ports)) Client ≡ role_at f k
gone_buffer f gone k other = ap (λ o. option_map_or (λ (p : Port). p.role) o Client) (first_others gone k f.ports other)

gone_within : (s : State) (gone n : ℕ) → IsWithin s n None → IsWithin (disconnected s gone) n None
gone_within s gone n p v own =
    let q : (any_at v.sender s.fixed.ports ≡ true) × ((v.sender == gone) ≡ false) = any_others gone v.sender s.fixed.ports own.0 in
    subst (λ role. nat_le (length ((disconnected s gone).waiting v)) (buffer_of s.fixed.limits role + 0) ≡ true) (sym (gone_buffer s.fixed gone v.sender q.1))
    (either (λ (xs : List Message). nat_le (length xs) (buffer_on s.fixed v + 0) ≡ true) (stays s gone v) (s.waiting v) []
    (λ u. p v (port_stood s.fixed.ports n v.sender gone own)) (λ u. le-zero (buffer_on s.fixed v + 0)))

-- ---- a release

pub released_rests : (s : State) (port : ℕ) → Rested s → Rested (released s port)
released_rests s port r =
    either Rested (is_last_gone s.fixed port) (disconnected s port) s
    (λ last. record {
      fixed = gone_rests s port last r.fixed;
      within = λ n. gone_within s port n (r.within n);
      unused = λ v e. either (λ (xs : List Message). xs ≡ []) (stays s port v) (s.waiting v) [] (λ u. r.unused v e) (λ u. refl);
    }) (λ u. r)

-- where all but handles and counts is as it was
pub with_rests : (s : State) (f : Fixed) → Rested s → Rests f → f.ports ≡ s.fixed.ports → f.limits ≡ s.fixed.limits
    → nat_le s.fixed.next_number f.next_number ≡ true → Rested (with_fixed s f)
with_rests s f r fixed ports limits next = record {
  fixed = fixed;
  within = λ n v own.
      subst (λ k. nat_le (length (s.waiting v)) (k + 0) ≡ true)
      (sym (ap₂ (λ l ps. buffer_of l (option_map_or (λ (p : Port). p.role) (first_at v.sender ps) Client)) limits ports))
      (r.within n v (subst (λ ps. IsPortIn ps n v.sender) ports own));
  unused = λ v e. r.unused v (less v.sender s.fixed.next_number f.next_number next e);
}
  where
    less : (a b c : ℕ) → nat_le b c ≡ true → nat_lt a c ≡ false → nat_lt a b ≡ false
    less a b c e h = grind (arith)

-- a port's value is released: the port may stay for its handles
pub value_rests : (s : State) (port : ℕ) → Rested s → Rested (with_fixed s (record (s.fixed) { ports = map (port_dropped port) s.fixed.ports }))
value_rests s port r = record {
  fixed = record {
    hub = (r.fixed).hub;
    numbered = (
      subst AreDistinct (sym (same_numbers port s.fixed.ports)) ((r.fixed).numbered).0,
      same_below s.fixed.next_number port s.fixed.ports ((r.fixed).numbered).1,
    );
    handles = λ n. record {
      apart = ((r.fixed).handles n).apart;
      each = λ h among.
          let p : FitsHandle s.fixed.ports s.fixed.next_number n h = ((r.fixed).handles n).each h among in
          record {
            of_node = p.of_node;
            of_port = port_still s.fixed.ports n h.port port p.of_port;
            below = p.below;
            no_port = any_dropped port h.number s.fixed.ports ∙ p.no_port;
          };
    };
  };
  within = λ n v own.
      subst (λ role. nat_le (length (s.waiting v)) (buffer_of s.fixed.limits role + 0) ≡ true)
      (sym (first_dropped (λ p. p.role) Client port v.sender s.fixed.ports (λ p. refl)))
      (r.within n v (port_was s.fixed.ports n v.sender port own));
  unused = r.unused;
}
