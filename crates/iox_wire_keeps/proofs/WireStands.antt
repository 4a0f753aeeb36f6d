-- A wire that opens stands, and it stands after deaths.
use Rattle.iox_model.specs.declared.reply.Refusal.TheVariants.{GrowingStrategy}
use Rattle.iox_model.specs.WireCalls.{wire_refusal}
use Rattle.iox_word_places.specs.declared.plan.WirePlan.{WirePlan}
use Rattle.iox_wire_calls.specs.Tables.{Setting}
use Rattle.iox_model.specs.States.{State, Port}
use Rattle.std.specs.List.{list_any}
use Rattle.iox_laws.proofs.WeaveLedger.Lists.{among-any, among-map, number-among}
use Rattle.iox_laws.proofs.WeaveLaws.WholeLemmas.{or_else-none}
use Rattle.iox_laws.proofs.WeaveLedger.Truths.{passed}
use Rattle.std.specs.Prelude.{Bool, None, [], false, map, replicate, true, ◌≡◌}
use Rattle.iox_wire_keeps.specs.Bounds.{AccessesBound}
use Rattle.std.proofs.Common.{ap, refl, subst, sym, true≢false, ◌∙◌}
use Rattle.iox_wire_calls.proofs.CallsAround.{calls_stand_at_first, deaths_leave_calls}
use Rattle.iox_wire_calls.proofs.Deaths.{deaths_keep}
use Rattle.iox_wire_keeps.specs.WireStands.{NoneGrows, OpenedWiresStand, WiresStandAfterDeaths}
use Rattle.iox_wire_keeps.specs.Stored.{SlotsHoldMessages}
use Rattle.iox_wire_calls.specs.Stands.{Stands, seats_of}
use Rattle.iox_word_map.specs.WordMaps.{total_words}
use Rattle.iox_wire_calls.specs.Openings.{AgreesWith, opened_seat}
use Rattle.iox_wire_keeps.proofs.Bounds.{opened_wires_are_bound}
use Rattle.iox_wire_keeps.proofs.OpenedSerials.{opened_tells}
use Rattle.iox_wire_keeps.specs.Serials.{TellsSerials}
use Rattle.iox_wire_keeps.proofs.Stored.{deaths_leave_slots, opened_slots_hold_messages}
use Rattle.iox_wire_calls.specs.Shows.{programs_of}
use Rattle.iox_wire_calls.specs.CallsStand.{CallsStand}
use Rattle.iox_wire_calls.proofs.Openings.{a_wire_opens}
use Rattle.iox_model.specs.Weaves.{World}

-- no port of a service grows whose wire opens
none_grows : (plan : WirePlan) (p : Setting) (s : State) → AgreesWith plan p s → wire_refusal s 0 true ≡ None → NoneGrows p
none_grows plan p s agrees allowed port has =
    by_port (p.port port).grows refl
    (passed (list_any (λ (q : Port). q.grows) s.fixed.ports) GrowingStrategy (or_else-none _ _ (or_else-none _ _ allowed).1).0)
  where
    by_port : (b : Bool) → (p.port port).grows ≡ b → list_any (λ (q : Port). q.grows) s.fixed.ports ≡ false → b ≡ false
    by_port false is none = refl
    by_port true is none =
        absurd (true≢false (sym (among-any (λ (q : Port). q.grows) (p.port port) (map p.port p.layout.sizes.ports)
        (among-map p.port port p.layout.sizes.ports (number-among port p.layout.sizes.ports has)) is)
        ∙ ap (list_any (λ (q : Port). q.grows)) (sym agrees.ports) ∙ none))

pub opened_wires_stand : OpenedWiresStand
opened_wires_stand plan p s is roomy agrees reach allowed =
    let o = a_wire_opens plan p s is roomy agrees reach allowed in
    let st : Stands p (replicate (total_words p.layout.sizes) 0) (λ n. record { seat = opened_seat p n; said = [] }) o.0 = o.4 in (
      o.0,
      o.1,
      o.2,
      o.3,
      record {
        stands = st;
        calls = λ n living. calls_stand_at_first p st.held n o.5;
        messages = opened_slots_hold_messages p st.held st.contents (programs_of p (seats_of p (λ n. record { seat = opened_seat p n; said = [] }))) o.0.last.state
            st.shows.words;
        bounds = opened_wires_are_bound p st.contents (programs_of p (seats_of p (λ n. record { seat = opened_seat p n; said = [] }))) st.shows.words;
        sizes = none_grows plan p s agrees allowed;
        serials = λ n. opened_tells p st.held n o.5;
      },
    )

pub wires_stand_after_deaths : WiresStandAfterDeaths
wires_stand_after_deaths p words players r n u wire beat =
    let o = deaths_keep p words players r n u wire.stands beat in
    let st : Stands p words players o.0 = o.3 in (
      o.0,
      o.1,
      o.2,
      record {
        stands = st;
        calls = subst (λ (v : World). CallsStand p st.held players v.state) (sym o.2)
            (subst (λ h. CallsStand p h players u.state) (sym o.4) (deaths_leave_calls p wire.stands.held players r.last u n beat wire.calls));
        messages = subst (λ (v : World). SlotsHoldMessages p st.held st.contents (seats_of p players) v.state) (sym o.2)
            (subst (λ h. SlotsHoldMessages p h st.contents (seats_of p players) u.state) (sym o.4)
            (subst (λ c. SlotsHoldMessages p wire.stands.held c (seats_of p players) u.state) (sym o.5)
            (deaths_leave_slots p wire.stands.held wire.stands.contents (seats_of p players) r.last u n beat wire.messages)));
        bounds = subst (λ c. AccessesBound p c (λ n. (players n).seat)) (sym o.5) wire.bounds;
        sizes = wire.sizes;
        serials = λ k. subst (λ h. TellsSerials p h (players k).seat) (sym o.4) (wire.serials k);
      },
    )
