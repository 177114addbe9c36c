-- What each call of a counter keeps, and what it counts.
use Rattle.std.proofs.{Common.{◌≡◌, ℕ, ◌+◌, List, ◌∷◌, refl, arith}, lemmas.Bool.Decides.nat_tests}
use Rattle.event_log.specs.declared.event.Step.{Step}
use Rattle.counter.specs.{State.{CounterState, opening_state, IsCounterOf}, Answer.counter_answer, Counting.{count_of, ok_count}, declared.call.CounterCall.CounterCall, declared.call.CounterCall.TheVariants.{Increase, Read}, declared.call.CounterReply.CounterReply}

pub opens : (n : ℕ) → IsCounterOf n (opening_state n)
opens n = record { most = refl; within = omega arith }

pub keeps : (n : ℕ) (c : CounterState) (call : CounterCall)
    → IsCounterOf n c → IsCounterOf n (counter_answer c call).0
keeps n c Increase h = record { most = grind arith; within = grind (arith, nat_tests) }
keeps n c Read h = h

counts : (c : CounterState) (call : CounterCall)
    → (counter_answer c call).0.value ≡ c.value + count_of (counter_answer c call).1
counts c Increase = grind (arith, nat_tests)
counts c Read = omega arith

-- the steps xs lead from c to d, and as many of them are answered Ok as the value grows
abbrev pub Counts : {O P : Type 0} → CounterState → List (Step O P CounterCall CounterReply) → CounterState → Type 0
Counts c xs d = d.value ≡ c.value + ok_count xs

pub one_step : {O P : Type 0} (c : CounterState) (x : Step O P CounterCall CounterReply)
    (xs : List (Step O P CounterCall CounterReply)) (d : CounterState) → x.reply ≡ (counter_answer c x.call).1
    → Counts (counter_answer c x.call).0 xs d → Counts c (x ∷ xs) d
one_step c x xs d is h = rw is (omega (arith, h, counts c x.call))
