use Rattle.std.proofs.Common.{sym, ap, ◌∙◌}
use Rattle.std.proofs.Common.{true}
use Rattle.iox_tables.specs.Lanes.{is_full}
use Rattle.iox_hub_ports.specs.Ports.{PortsState}
use Rattle.iox_hub_ports.proofs.Places.{looked, way_missing, way_told}
use Rattle.iox_hub_ports.proofs.Sound.{sound_missing, sound_way}
use Rattle.iox_hub_ports.proofs.ports.Ports.is_full.Goals as goal

pub returns-in-Some-clause-full : goal.returns-in-Some-clause-full
returns-in-Some-clause-full c =
    rw (← c.self.view_is)
    (c.is_full.ensures.full ∙ way_told is_full true c.self.inside.ports.items c.args.way c.in-Some.place c.index.result.now (looked _ _ c.args.way.receiver _ _ (ap (λ (s : PortsState). s.ports) (sym c.self.view_is)) c.place.ensures.first c.in-Some.is) c.index.ensures)

pub returns-in-None-clause-full : goal.returns-in-None-clause-full
returns-in-None-clause-full c =
    rw (← c.self.view_is) (way_missing is_full true c.self.inside.ports.items c.args.way (looked _ _ c.args.way.receiver _ _ (ap (λ (s : PortsState). s.ports) (sym c.self.view_is)) c.place.ensures.first c.in-None.is))

pub returns-in-Some-clause-sound : goal.returns-in-Some-clause-sound
returns-in-Some-clause-sound c =
    rw (← c.self.view_is)
    (sound_way c.self.inside.ports.items c.args.way c.in-Some.place c.index.result.now (looked _ _ c.args.way.receiver _ _ (ap (λ (s : PortsState). s.ports) (sym c.self.view_is)) c.place.ensures.first c.in-Some.is) c.index.ensures c.is_full.ensures.sound)

pub returns-in-None-clause-sound : goal.returns-in-None-clause-sound
returns-in-None-clause-sound c =
    rw (← c.self.view_is)
    (sound_missing c.self.inside.ports.items c.args.way (looked _ _ c.args.way.receiver _ _ (ap (λ (s : PortsState). s.ports) (sym c.self.view_is)) c.place.ensures.first c.in-None.is))
