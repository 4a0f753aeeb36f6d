-- The order of serials is the image of the order of whole messages.
use Rattle.std.specs.Prelude.{◌≡◌, Bool, true, false, if◌then◌else◌, List, [], ◌∷◌, ◌++◌, refl}
use Rattle.std.proofs.Common.{ap, ◌∙◌, inl, inr}
use Rattle.iox_model.specs.declared.way.Way.{Way}
use Rattle.iox_model.specs.Maps.{same_way}
use Rattle.iox_model.specs.Messages.{serials_of, Message}
use Rattle.iox_model.specs.Moments.{Deliver, Take}
use Rattle.iox_model.specs.Weaves.{Beat, Makes}
use Rattle.iox_laws.specs.WeaveLaws.OrderLaws.{put_on, taken_from, all_put_on, all_taken_from}
use Rattle.iox_laws.specs.MessageLaws.Deliveries.{message_put_on, message_taken_from, messages_put_on, messages_taken_from}
use Rattle.iox_laws.specs.MessageLaws.Orders.{SerialsAreOfMessages, SerialsFollowMessages}

one_serial : (b : Bool) (m : Message) → (if b then m.serial ∷ [] else []) ≡ serials_of (if b then m ∷ [] else [])
one_serial true m = refl
one_serial false m = refl

serial_put : (y : Way) (b : Beat) → put_on y b ≡ serials_of (message_put_on y b)
serial_put y (Makes node (Deliver w m)) = one_serial (same_way y w) m
serial_put y b = refl

serial_taken : (y : Way) (b : Beat) → taken_from y b ≡ serials_of (message_taken_from y b)
serial_taken y (Makes node (Take w m)) = one_serial (same_way y w) m
serial_taken y b = refl

serials-joined : (xs ys : List Message) → serials_of xs ++ serials_of ys ≡ serials_of (xs ++ ys)
serials-joined [] ys = refl
serials-joined (x ∷ xs) ys = ap (λ ks. x.serial ∷ ks) (serials-joined xs ys)

pub serials_are_of_messages : SerialsAreOfMessages
serials_are_of_messages y [] = (refl, refl)
serials_are_of_messages y (b ∷ bs) =
    let rest : (all_put_on y bs ≡ serials_of (messages_put_on y bs)) × (all_taken_from y bs ≡ serials_of (messages_taken_from y bs))
    = serials_are_of_messages y bs in (
      ap (λ ks. ks ++ all_put_on y bs) (serial_put y b) ∙ ap (λ ks. serials_of (message_put_on y b) ++ ks) rest.0
          ∙ serials-joined (message_put_on y b) (messages_put_on y bs),
      ap (λ ks. ks ++ all_taken_from y bs) (serial_taken y b) ∙ ap (λ ks. serials_of (message_taken_from y b) ++ ks) rest.1
          ∙ serials-joined (message_taken_from y b) (messages_taken_from y bs),
    )

pub serials_follow_messages : SerialsFollowMessages
serials_follow_messages [] [] p = tt
serials_follow_messages [] (x ∷ xs) p = absurd p
serials_follow_messages (y ∷ ys) [] p = tt
serials_follow_messages (y ∷ ys) (x ∷ xs) (inl q) = inl (ap (λ (m : Message). m.serial) q.0, serials_follow_messages ys xs q.1)
serials_follow_messages (y ∷ ys) (x ∷ xs) (inr p) = inr (serials_follow_messages ys (x ∷ xs) p)
