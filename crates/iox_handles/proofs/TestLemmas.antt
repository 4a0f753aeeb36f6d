-- The handle that is removed if it passes a test.
use Rattle.std.specs.Prelude.{◌≡◌, Bool, true, false, if◌then◌else◌, Option, None, Some}
use Rattle.std.specs.Option.{option_and_then}
use Rattle.std.proofs.Common.{sym, ap, ◌∙◌}
use Rattle.iox_handles.specs.declared.entry.Entry.{Entry}
use Rattle.iox_handles.specs.Removals.{if_passes}

pub passes_it : (test : Entry → Bool) (o : Option Entry) (h : Entry) → test h ≡ true → Some h ≡ o → Some h ≡ option_and_then (if_passes test) o
passes_it test o h pass at =
    sym (ap (λ (b : Bool). if b then Some h else None) pass) ∙ ap (option_and_then (if_passes test)) at

pub fails_it : (test : Entry → Bool) (o : Option Entry) (h : Entry) → test h ≡ false → Some h ≡ o → None ≡ option_and_then (if_passes test) o
fails_it test o h fail at =
    sym (ap (λ (b : Bool). if b then Some h else None) fail) ∙ ap (option_and_then (if_passes test)) at
