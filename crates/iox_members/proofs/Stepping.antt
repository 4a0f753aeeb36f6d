-- What a node's commands come to, where it is known why they are refused.
use Rattle.std.specs.Prelude.{ℕ, Bool, true, false, IfOk, Result, Ok, Err, refl}
use Rattle.iox_model.specs.declared.reply.Refusal as the_refusal
use Rattle.iox_model.specs.declared.reply.Refusal.TheVariants.{HasPorts}
use Rattle.iox_model.specs.States.{Members}
use Rattle.iox_members.specs.Nodes.{with_dead}
use Rattle.iox_members.specs.Steps.{IsAfterLeaving, IsDeclaredDead, IsLeaving, IsRefusedUnlessLiving}

pub if_ok : {A E : Type 0} {P Q : A → Type 0} (r : Result A E) → ((x : A) → P x → Q x) → IfOk r P → IfOk r Q
if_ok (Ok x) f p = f x p
if_ok (Err e) f p = tt

pub death_refused : {C : Type 0} (X : Type 0) (x : Members) (node : ℕ) (r : the_refusal.Refusal C)
    → IsRefusedUnlessLiving {C = C} {X = X} x node (Err r) → IsDeclaredDead x node (Err r) x
death_refused X x node r is cause s = rw (is cause s) (refl, refl)

pub death_done : {C X : Type 0} (x : Members) (node : ℕ) (id : X)
    → IsRefusedUnlessLiving {C = C} {X = X} x node (Ok id) → IsDeclaredDead {C = C} x node (Ok tt) (with_dead x node)
death_done x node id is cause s = rw (is cause s) (refl, refl)

pub leave_refused : {C : Type 0} (X : Type 0) (x : Members) (node : ℕ) (has : Bool) (r : the_refusal.Refusal C)
    → IsRefusedUnlessLiving {C = C} {X = X} x node (Err r) → IsLeaving x node has (Err r) x
leave_refused X x node has r is cause s e = rw (is cause s) (refl, refl)

pub leave_has : {C X : Type 0} (x : Members) (node : ℕ) (id : X)
    → IsRefusedUnlessLiving {C = C} {X = X} x node (Ok id) → IsLeaving {C = C} x node true (Err HasPorts) x
leave_has x node id is cause s e = rw (is cause s) (rw e (refl, refl))

pub leave_done : {C X : Type 0} (x : Members) (node : ℕ) (id : X) (x' : Members)
    → IsRefusedUnlessLiving {C = C} {X = X} x node (Ok id) → IsAfterLeaving x node x' → IsLeaving {C = C} x node false (Ok tt) x'
leave_done x node id x' is left cause s e = rw (is cause s) (rw e (refl, left s))
