-- What is answered, by case.
use Rattle.std.proofs.{Common.{◌≡◌, ℕ, ◌<◌, nat_le, false, [], ◌∷◌, ◌++◌, length, refl, ap, arith}, lemmas.Bool.Decides.nat_tests}
use Rattle.event_log.specs.Distinct.{has}
use Rattle.shared_queue.specs.{State.QueueState, Answer.enq_answer, declared.call.QueueReply.TheVariants.Ok}
use Rattle.wake_list.specs.{State.SchedState, Answer.{sleepers, wake_answer, woken_answer}, declared.call.SchedReply.TheVariants.Empty}

pub enq_ok : (q : QueueState) (t : ℕ) → t < q.threads → has t q.list ≡ false → enq_answer q t ≡ (record q { list = q.list ++ t ∷ [] }, Ok)
enq_ok q t lt absent =
    let known : nat_le q.threads t ≡ false = grind (arith, nat_tests) in
    rw known (rw absent refl)

pub wake_none : (s : SchedState) (c : ℕ) → c < length s.channels → sleepers s c ≡ [] → wake_answer s c ≡ (s, Empty)
wake_none s c lt e =
    let known : nat_le (length s.channels) c ≡ false = grind (arith, nat_tests) in
    rw known (ap (woken_answer s c) e)
