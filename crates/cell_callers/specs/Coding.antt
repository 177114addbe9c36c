-- Calls and replies by the numbers that C has for them.
use Rattle.std.specs.Prelude.{ℕ, ◌==◌, ◌&&◌, ◌%◌, nat_lt, List, [], ◌∷◌, Option, None, slice_get, if◌then◌else◌}
use Rattle.kernel_object.specs.{declared.call.KCall.KCall, declared.call.KCall.TheVariants.{Queue, Pool, Console, Sched}, declared.call.KReply.KReply}
use Rattle.cell_callers.specs.{declared.call_numbers.Asked.Asked, declared.call_numbers.Answered.Answered}
use Rattle.shared_queue.specs.declared.call.QueueCall.TheVariants as queue
use Rattle.page_pool.specs.declared.call.PoolCall.TheVariants as pool
use Rattle.console_ring.specs.declared.call.ConsoleCall.TheVariants as console
use Rattle.wake_list.specs.declared.call.SchedCall.TheVariants as sched
use Rattle.kernel_object.specs.declared.call.KReply.TheVariants as reply

-- the calls with these numbers, in the order of their words
abbrev pub calls_with : ℕ → ℕ → List KCall
calls_with a b = Queue (queue.Enq a) ∷ Queue queue.Deq ∷ Queue (queue.Remove a) ∷ Queue queue.Len
    ∷ Pool (pool.Alloc a) ∷ Pool (pool.Free a b) ∷ Pool pool.Left
    ∷ Console (console.Put (a % 256)) ∷ Console console.Get ∷ Console console.Level
    ∷ Sched (sched.Ready a) ∷ Sched sched.Next ∷ Sched (sched.Sleep a b) ∷ Sched (sched.Wake a) ∷ Sched (sched.WakeAll a) ∷ []

-- the call of these numbers; there is none that puts more than a byte
abbrev pub called_of : Asked → Option KCall
called_of a = if (a.word == 7) && nat_lt 255 a.first then None else slice_get (calls_with a.first a.second) a.word

abbrev pub answered : ℕ → ℕ → Answered
answered w n = record { word = w; number = n }

-- the numbers of the reply
abbrev pub reply_code : KReply → Answered
reply_code reply.Ok = answered 0 0
reply_code (reply.Thread n) = answered 1 n
reply_code (reply.Count n) = answered 2 n
reply_code (reply.Page n) = answered 3 n
reply_code (reply.Dropped n) = answered 4 n
reply_code (reply.Byte n) = answered 5 n
reply_code reply.BadThread = answered 6 0
reply_code reply.Already = answered 7 0
reply_code reply.Empty = answered 8 0
reply_code reply.Absent = answered 9 0
reply_code reply.BadOwner = answered 10 0
reply_code reply.NoPage = answered 11 0
reply_code reply.OverQuota = answered 12 0
reply_code reply.BadPage = answered 13 0
reply_code reply.NotTaken = answered 14 0
reply_code reply.NotYours = answered 15 0
reply_code reply.BadChannel = answered 16 0
reply_code reply.BadCall = answered 17 0
