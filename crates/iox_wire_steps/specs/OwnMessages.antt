-- Handles that hold messages of their ports' own hold each another one.
use Rattle.std.specs.Prelude.{◌≡◌, ◌<◌, ℕ, true}
use Rattle.iox_model.specs.Handles.{is_own}
use Rattle.iox_model.specs.States.{Handle}
use Rattle.iox_model.specs.Weaves.{World}
use Rattle.iox_laws.specs.MessageLaws.Lists.{IsOneOf}
use Rattle.iox_laws.specs.WeaveWorlds.Worlds.{IsReachable}

-- In every reachable world a handle's message of its own port is one that the port lent.
abbrev pub OwnMessagesAreLent : Type 0
OwnMessagesAreLent =
    (w : World) (n : ℕ) (h : Handle) → IsReachable w → IsOneOf h (w.state.fixed.handles n)
    → is_own h.kind ≡ true → h.message.serial < w.state.fixed.loans h.port

-- And no two handles of a node hold the same one.
abbrev pub OwnMessagesAreApart : Type 0
OwnMessagesAreApart =
    (w : World) (n : ℕ) (g h : Handle) → IsReachable w
    → IsOneOf g (w.state.fixed.handles n) → IsOneOf h (w.state.fixed.handles n)
    → is_own g.kind ≡ true → is_own h.kind ≡ true
    → g.port ≡ h.port → g.message.serial ≡ h.message.serial → g.number ≡ h.number
