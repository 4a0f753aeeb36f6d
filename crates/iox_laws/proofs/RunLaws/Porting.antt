-- What handles and queues hold as a port is made, and as its value is released.
use Rattle.std.specs.Prelude.{◌≡◌, ℕ, ◌≤◌, Bool, true, false, not, ◌&&◌, ◌==◌, nat_lt, List, [], ◌∷◌, ◌++◌, length, map, refl}
use Rattle.std.specs.Option.{option_map_or}
use Rattle.std.proofs.Common.{sym, subst, ap, ◌∙◌, true≢false, eqb-true, arith}
use Rattle.iox_model.specs.declared.kind.Role.TheVariants.{Client}
use Rattle.iox_model.specs.declared.way.Way.{Way}
use Rattle.iox_model.specs.Counts.{with_fixed}
use Rattle.iox_model.specs.Ends.{port_dropped}
use Rattle.iox_model.specs.Handles.{is_received, way_of}
use Rattle.iox_laws.specs.WeaveLaws.Ledgers.{has_received}
use Rattle.iox_model.specs.Makings.{with_port}
use Rattle.iox_model.specs.Maps.{has_number, same_way}
use Rattle.iox_model.specs.Settings.{is_client, other_role, borrow_limit_of, buffer_of}
use Rattle.iox_model.specs.States.{Port, Fixed, State}
use Rattle.iox_laws.proofs.WeaveLaws.MapLemmas.{same_way-true}
use Rattle.iox_laws.proofs.WeaveLaws.WholeLemmas.{split}
use Rattle.iox_laws.proofs.WeaveLedger.Counts.{count, count-none}
use Rattle.iox_laws.proofs.WeaveLedger.Orders.{zero-le, less-next, same-not-less}
use Rattle.iox_laws.proofs.WeaveLedger.Truths.{false_if, never, by_cases, second-fails}
use Rattle.iox_laws.proofs.WeaveLedger.Views.{role_in, node_in}
use Rattle.iox_laws.proofs.RunLaws.Ports.{any_at, any_dropped, first_dropped, at_more, at_last, first_more}
use Rattle.iox_laws.proofs.RunLaws.Rests.{Rests, Rested}
use Rattle.iox_laws.proofs.RunLaws.Holding.{is_lost, WaitFits}
use Rattle.iox_laws.proofs.RunLaws.Owning.{limit_in, most_in, had_in, Has, Owned}
use Rattle.iox_laws.proofs.RunLaws.Parting.{kept_same, none_there}

-- ---- a port's value is released

value_has : (f : Fixed) (port : ℕ) → Has f → Has (record f { ports = map (port_dropped port) f.ports })
value_has f port p =
    let ps : List Port = map (port_dropped port) f.ports in
    record {
      kept = λ n h among. kept_same f.ports ps h (first_dropped (λ q. q.role) Client port h.port f.ports (λ q. refl)) (p.kept n h among);
      known = p.known;
      away = λ r n among. (any_dropped port n f.ports ∙ (p.away r n among).0, (p.away r n among).1);
      within = λ y. subst (λ role. f.borrowed y ≤ borrow_limit_of f.limits (other_role role))
          (sym (first_dropped (λ q. q.role) Client port y.receiver f.ports (λ q. refl))) (p.within y);
      nobody = λ y none. p.nobody y (sym (any_dropped port y.receiver f.ports) ∙ none);
      counts = λ y kept.
          subst (λ n. count (has_received y) (f.handles n) ≤ f.borrowed y) (sym (first_dropped (λ q. q.node) 0 port y.receiver f.ports (λ q. refl)))
          (p.counts y (sym (ap (λ b. not b && not (has_number y.sender (f.expired y.receiver))) (any_dropped port y.sender f.ports)) ∙ kept));
      few = λ y.
          subst (λ n. count (has_received y) (f.handles n) ≤ limit_in f.limits ps y) (sym (first_dropped (λ q. q.node) 0 port y.receiver f.ports (λ q. refl)))
          (subst (λ role. had_in f.ports f.handles y ≤ borrow_limit_of f.limits (other_role role))
          (sym (first_dropped (λ q. q.role) Client port y.receiver f.ports (λ q. refl))) (p.few y));
    }

pub value_owned : (s : State) (port : ℕ) → Owned s → Owned (with_fixed s (record (s.fixed) { ports = map (port_dropped port) s.fixed.ports }))
value_owned s port o =
    let f : Fixed = s.fixed in
    record {
      has = value_has f port o.has;
      waits = λ y m among.
          let p : WaitFits f.ports f.next_number f.expired y m = o.waits y m among in
          record {
            sender = p.sender;
            lane = λ client. p.lane (ap is_client (sym (first_dropped (λ q. q.role) Client port y.receiver f.ports (λ q. refl))) ∙ client);
            role = λ there. ap is_client (first_dropped (λ q. q.role) Client port y.sender f.ports (λ q. refl))
                ∙ p.role (sym (any_dropped port y.sender f.ports) ∙ there)
                ∙ ap (λ role. not (is_client role)) (sym (first_dropped (λ q. q.role) Client port y.receiver f.ports (λ q. refl)));
            kept = ap (λ b. not b && not (has_number y.sender (f.expired y.receiver))) (any_dropped port y.sender f.ports) ∙ p.kept;
            below = p.below;
            there = any_dropped port y.receiver f.ports ∙ p.there;
          };
      gone = λ y away.
          subst (λ role. length (s.waiting y) ≤ buffer_of f.limits (other_role role))
          (sym (first_dropped (λ q. q.role) Client port y.receiver f.ports (λ q. refl)))
          (o.gone y (sym (any_dropped port y.sender f.ports) ∙ away));
    }

-- ---- a port is made

role_more : (k : ℕ) (ps : List Port) (p : Port) → any_at k ps ≡ true → role_in (ps ++ p ∷ []) k ≡ role_in ps k
role_more k ps p there = ap (λ o. option_map_or (λ (q : Port). q.role) o Client) (first_more k ps p there)

node_more : (k : ℕ) (ps : List Port) (p : Port) → any_at k ps ≡ true → node_in (ps ++ p ∷ []) k ≡ node_in ps k
node_more k ps p there = ap (λ o. option_map_or (λ (q : Port). q.node) o 0) (first_more k ps p there)

not_more : (k : ℕ) (ps : List Port) (p : Port) → any_at k (ps ++ p ∷ []) ≡ false → any_at k ps ≡ false
not_more k ps p none = false_if (any_at k ps) (λ there. never (any_at k (ps ++ p ∷ [])) (at_more k ps p there) none)

-- a number below that of the new one is there if it was
was_there : (k : ℕ) (ps : List Port) (p : Port) → nat_lt k p.number ≡ true → any_at k (ps ++ p ∷ []) ≡ true → any_at k ps ≡ true
was_there k ps p below there =
    by_cases (any_at k ps) (λ e. e)
    (λ none. absurd (true≢false (sym (subst (λ n. nat_lt k n ≡ true) (at_last k ps p there none) below) ∙ not_itself k)))
  where
    not_itself : (n : ℕ) → nat_lt n n ≡ false
    not_itself n = grind (arith)

-- nobody received anything at a port that was not there
none_received : (f : Fixed) (n : ℕ) (y : Way) → Rests f → any_at y.receiver f.ports ≡ false → count (has_received y) (f.handles n) ≡ 0
none_received f n y r none =
    count-none (has_received y) (f.handles n)
    (λ h among. false_if (has_received y h) (λ has.
    let q : ((h.port == y.receiver) ≡ true) × (same_way (way_of h) y ≡ true)
    = split (h.port == y.receiver) (same_way (way_of h) y) (split (is_received h.kind) ((h.port == y.receiver) && same_way (way_of h) y) has).1 in
    never (any_at y.receiver f.ports) (subst (λ k. any_at k f.ports ≡ true) (eqb-true h.port y.receiver q.0) (((r.handles n).each h among).of_port).0) none))

-- nor anything of a sender that was not there
none_of_next : (f : Fixed) (n : ℕ) (y : Way) → Has f → nat_lt y.sender f.next_number ≡ false → count (has_received y) (f.handles n) ≡ 0
none_of_next f n y p later =
    count-none (has_received y) (f.handles n)
    (λ h among. false_if (has_received y h) (λ has.
    let q : (is_received h.kind ≡ true) × (((h.port == y.receiver) && same_way (way_of h) y) ≡ true)
    = split (is_received h.kind) ((h.port == y.receiver) && same_way (way_of h) y) has in
    never (nat_lt y.sender f.next_number)
    (subst (λ (v : Way). nat_lt v.sender f.next_number ≡ true)
    (same_way-true (way_of h) y (split (h.port == y.receiver) (same_way (way_of h) y) q.1).1) (p.known n h among q.0)) later))

lost_more : (f : Fixed) (p : Port) (y : Way) → is_lost (f.ports ++ p ∷ []) f.expired y ≡ false → (is_lost f.ports f.expired y ≡ true)
    → any_at y.sender f.ports ≡ false → p.number ≡ y.sender
lost_more f p y kept lost away =
    by_cases (any_at y.sender (f.ports ++ p ∷ [])) (λ there. at_last y.sender f.ports p there away)
    (λ none. absurd (true≢false
    (sym lost ∙ ap (λ b. not b && not (has_number y.sender (f.expired y.receiver))) (away ∙ sym none) ∙ kept)))

is_away : (a b : Bool) → (not a && b) ≡ true → a ≡ false
is_away true b e = absurd (true≢false (sym e))
is_away false b e = refl

made_has : (f : Fixed) (p : Port) → p.number ≡ f.next_number → Rests f → Has f → Has (with_port f p)
made_has f p is r q =
    let ps : List Port = f.ports ++ p ∷ [] in
    record {
      kept = λ n h among. kept_same f.ports ps h (role_more h.port f.ports p (((r.handles n).each h among).of_port).0) (q.kept n h among);
      known = λ n h among received. less-next (way_of h).sender f.next_number (q.known n h among received);
      away = λ k n among.
          let a : (any_at n f.ports ≡ false) × (nat_lt n f.next_number ≡ true) = q.away k n among in (
            false_if (any_at n ps) (λ there. never (any_at n f.ports) (was_there n f.ports p (subst (λ j. nat_lt n j ≡ true) (sym is) a.1) there) a.0),
            less-next n f.next_number a.1,
          );
      within = λ y. by_cases (any_at y.receiver f.ports)
          (λ there. subst (λ role. f.borrowed y ≤ borrow_limit_of f.limits (other_role role)) (sym (role_more y.receiver f.ports p there)) (q.within y))
          (λ none. zero-le (f.borrowed y) (limit_in f.limits ps y) (q.nobody y none));
      nobody = λ y none. q.nobody y (not_more y.receiver f.ports p none);
      counts = λ y kept. by_cases (any_at y.receiver f.ports)
          (λ there. subst (λ n. count (has_received y) (f.handles n) ≤ f.borrowed y) (sym (node_more y.receiver f.ports p there))
          (by_cases (is_lost f.ports f.expired y)
          (λ lost.
          let new : p.number ≡ y.sender
          = lost_more f p y kept lost (is_away (any_at y.sender f.ports) (not (has_number y.sender (f.expired y.receiver))) lost) in
          zero-le (had_in f.ports f.handles y) (f.borrowed y)
          (none_of_next f (node_in f.ports y.receiver) y q (same-not-less y.sender f.next_number (sym new ∙ is))))
          (q.counts y)))
          (λ none. zero-le (had_in ps f.handles y) (f.borrowed y) (none_received f (node_in ps y.receiver) y r none));
      few = λ y. by_cases (any_at y.receiver f.ports)
          (λ there. subst (λ n. count (has_received y) (f.handles n) ≤ limit_in f.limits ps y) (sym (node_more y.receiver f.ports p there))
          (subst (λ role. had_in f.ports f.handles y ≤ borrow_limit_of f.limits (other_role role)) (sym (role_more y.receiver f.ports p there)) (q.few y)))
          (λ none. zero-le (had_in ps f.handles y) (limit_in f.limits ps y) (none_received f (node_in ps y.receiver) y r none));
    }

-- a pair that was there is there
still_kept : (f : Fixed) (p : Port) (y : Way) → is_lost f.ports f.expired y ≡ false → is_lost (f.ports ++ p ∷ []) f.expired y ≡ false
still_kept f p y kept =
    by_cases (any_at y.sender f.ports)
    (λ there. ap (λ b. not b && not (has_number y.sender (f.expired y.receiver))) (at_more y.sender f.ports p there))
    (λ none. second-fails (not (any_at y.sender (f.ports ++ p ∷ []))) (not (has_number y.sender (f.expired y.receiver)))
    (sym (ap (λ b. not b && not (has_number y.sender (f.expired y.receiver))) none) ∙ kept))

pub made_owned : (s : State) (p : Port) → p.number ≡ s.fixed.next_number → Rested s → Owned s → Owned (with_fixed s (with_port s.fixed p))
made_owned s p is r o =
    let f : Fixed = s.fixed in
    record {
      has = made_has f p is r.fixed o.has;
      waits = λ y m among.
          let q : WaitFits f.ports f.next_number f.expired y m = o.waits y m among in
          record {
            sender = q.sender;
            lane = λ client. q.lane (ap is_client (sym (role_more y.receiver f.ports p q.there)) ∙ client);
            role = λ there.
                let before : any_at y.sender f.ports ≡ true = was_there y.sender f.ports p (subst (λ j. nat_lt y.sender j ≡ true) (sym is) q.below) there in
                ap is_client (role_more y.sender f.ports p before) ∙ q.role before
                ∙ ap (λ role. not (is_client role)) (sym (role_more y.receiver f.ports p q.there));
            kept = still_kept f p y q.kept;
            below = less-next y.sender f.next_number q.below;
            there = at_more y.receiver f.ports p q.there;
          };
      gone = λ y away. by_cases (any_at y.receiver f.ports)
          (λ there. subst (λ role. length (s.waiting y) ≤ buffer_of f.limits (other_role role)) (sym (role_more y.receiver f.ports p there))
          (o.gone y (not_more y.sender f.ports p away)))
          (λ none. zero-le (length (s.waiting y)) (most_in f.limits (f.ports ++ p ∷ []) y)
          (ap length (none_there (s.waiting y) (λ m among. never (any_at y.receiver f.ports) (o.waits y m among).there none))));
    }
