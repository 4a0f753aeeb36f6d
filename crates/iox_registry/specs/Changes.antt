-- What calls make of a register, one after another.
use Rattle.std.specs.Prelude.{◌≡◌, ◌⊎◌, ⊤, List, [], ◌∷◌}
use Rattle.iox_types.specs.declared.identifiers.system_id.UniqueSystemId.{UniqueSystemId}
use Rattle.iox_registry.specs.Registers.{HandleView, Registrations, Adds, Removes, recovered}

-- One call makes new of old: it adds, removes, or recovers what a node had.
abbrev pub Changes :
    {D : Type 0} → (D → UniqueSystemId) → Registrations D → Registrations D → Type 0
Changes {D} node old new =
    ((details : D) × (handle : HandleView) × Adds details old handle new)
    ⊎ (((handle : HandleView) × Removes handle old new)
    ⊎ ((id : UniqueSystemId) × (new ≡ recovered node id old)))

-- calls that change something make these registers of the first, one after another, and `last` at
-- the end
abbrev pub LeadsTo : {D : Type 0} → (D → UniqueSystemId) → Registrations D → List (Registrations D)
    → Registrations D → Type 0
LeadsTo node first [] last = last ≡ first
LeadsTo node first (next ∷ later) last = Changes node first next × LeadsTo node next later last
