-- Events, one after another: what left, and then what is waiting, is what waited at first, and then what was published.
use Rattle.std.proofs.Common.{◌≡◌, ℕ, List, [], ◌∷◌, ◌++◌, refl, ap, sym, subst, ◌∙◌, append_assoc, append-nil}
use Rattle.std.specs.Option.{option_to_list}
use Rattle.iox_steps.specs.declared.site.Site.{Site}
use Rattle.iox_steps.specs.declared.side.QueueEvent.{QueueEvent}
use Rattle.iox_steps.specs.declared.side.QueueEvent.TheVariants.{Quiet, Publish, HandOut, Evict, Learn, SeesEmpty, SeesWaiting, SeesFull, SeesRoom, SeesEnd}
use Rattle.iox_steps.specs.Events.{rest, front, IsTrueOf}
use Rattle.iox_steps.specs.EventLists.{QueueState, state_after, Follows, published, departed, told}

-- a run continues by one event
run_more : (site : Site) (before : QueueState) (events : List QueueEvent) (mid : QueueState) (event : QueueEvent) → Follows site before events mid
    → IsTrueOf site mid.write mid.waiting mid.hand event
    → Follows site before (events ++ event ∷ []) (state_after event mid)
run_more site before [] mid event run holds = (subst (λ l. IsTrueOf site l.write l.waiting l.hand event) run holds, ap (state_after event) run)
run_more site before (first ∷ events) mid event run holds = (run.0, run_more site (state_after first before) events mid event run.1 holds)

-- which is written down if it is one
pub run_told : (site : Site) (before : QueueState) (events : List QueueEvent) (mid : QueueState) (event : QueueEvent) → Follows site before events mid
    → IsTrueOf site mid.write mid.waiting mid.hand event
    → Follows site before (events ++ option_to_list (told event)) (state_after event mid)
run_told site before events mid Quiet run holds = rw append-nil run
run_told site before events mid (Publish value) run holds = run_more site before events mid (Publish value) run holds
run_told site before events mid (HandOut value) run holds = run_more site before events mid (HandOut value) run holds
run_told site before events mid Evict run holds = run_more site before events mid Evict run holds
run_told site before events mid (Learn value) run holds = run_more site before events mid (Learn value) run holds
run_told site before events mid SeesEmpty run holds = run_more site before events mid SeesEmpty run holds
run_told site before events mid SeesWaiting run holds = run_more site before events mid SeesWaiting run holds
run_told site before events mid SeesFull run holds = run_more site before events mid SeesFull run holds
run_told site before events mid SeesRoom run holds = run_more site before events mid SeesRoom run holds
run_told site before events mid SeesEnd run holds = run_more site before events mid SeesEnd run holds

-- what is pushed out is the front
split_front : (waiting more : List ℕ) → waiting ++ more ≡ front waiting ++ (rest waiting ++ more)
split_front [] more = refl
split_front (first ∷ others) more = refl

pub in_order : (site : Site) (before : QueueState) (events : List QueueEvent) (after : QueueState) → Follows site before events after
    → before.waiting ++ published events ≡ departed before.waiting events ++ after.waiting
in_order site before [] after run = append-nil before.waiting ∙ ap (λ l. l.waiting) (sym run)
in_order site before (Publish value ∷ events) after run =
    sym (append_assoc before.waiting (value ∷ []) (published events)) ∙ in_order site (state_after (Publish value) before) events after run.1
in_order site before (HandOut value ∷ events) after run =
    ap (λ l. l ++ published events) run.0 ∙ ap (λ l. value ∷ l) (in_order site (state_after (HandOut value) before) events after run.1)
in_order site before (Evict ∷ events) after run =
    split_front before.waiting (published events) ∙ ap (λ l. front before.waiting ++ l) (in_order site (state_after Evict before) events after run.1)
    ∙ sym (append_assoc (front before.waiting) (departed (rest before.waiting) events) after.waiting)
in_order site before (Learn value ∷ events) after run = in_order site (state_after (Learn value) before) events after run.1
in_order site before (Quiet ∷ events) after run = in_order site (state_after Quiet before) events after run.1
in_order site before (SeesEmpty ∷ events) after run = in_order site (state_after SeesEmpty before) events after run.1
in_order site before (SeesWaiting ∷ events) after run = in_order site (state_after SeesWaiting before) events after run.1
in_order site before (SeesFull ∷ events) after run = in_order site (state_after SeesFull before) events after run.1
in_order site before (SeesRoom ∷ events) after run = in_order site (state_after SeesRoom before) events after run.1
in_order site before (SeesEnd ∷ events) after run = in_order site (state_after SeesEnd before) events after run.1
