-- What a writer took, where it took all or failed.
use Rattle.std.proofs.Common.{◌≡◌, ℕ, ◌≤◌, List, take, drop, length, Option, Result, Ok, Err, refl, sym, IfErr, take-append-drop}
use Rattle.std.proofs.lemmas.List.{take_all}
use Rattle.std.proofs.KnownBytes.{Appends-kept}
use Rattle.std.specs.Io.KnownBytes.{Appends, Keeps}
use Rattle.iox_streams.specs.declared.fault.Fault.{Fault}
use Rattle.iox_streams.specs.declared.fault.Fault.TheVariants.{Write}
use Rattle.iox_streams.specs.Writes.{Sends, SendsAll}

-- a writer that failed after it took the first n bytes
pub Sends-failed : (a b c : Option (List ℕ)) (n : ℕ) (bytes : List ℕ) → Appends a b (take n bytes) → Keeps b c
    → Sends a c (SendsAll bytes (Err Write))
Sends-failed a b c n bytes taken kept = (take n bytes, Appends-kept a b c (take n bytes) taken kept, (refl, (drop n bytes, sym (take-append-drop n bytes))))

-- a writer that took all, and was then flushed
pub Sends-flushed : (a b c : Option (List ℕ)) (n : ℕ) (bytes : List ℕ) (result : Result (Unit {0}) Fault)
    → Appends a b (take n bytes) → length bytes ≤ n → Keeps b c
    → IfErr result (λ fault. fault ≡ Write) → Sends a c (SendsAll bytes result)
Sends-flushed a b c n bytes (Ok _) taken all kept fault = (take n bytes, Appends-kept a b c (take n bytes) taken kept, take_all n bytes all)
Sends-flushed a b c n bytes (Err _) taken all kept fault = (take n bytes, Appends-kept a b c (take n bytes) taken kept, (fault, (drop n bytes, sym (take-append-drop n bytes))))
