-- A queue of threads, as one record.
use Rattle.std.specs.Prelude.{ℕ, codes}
use Rattle.shared_queue.specs.{Answer.queue_answer, declared.call.QueueCall.QueueCall, declared.call.QueueReply.QueueReply}
use Rattle.kernel_object.specs.{declared.call.KReply.KReply, declared.call.KReply.TheVariants.{Ok, Already, BadThread, Thread, Empty, Absent, Count}, Kinds.Definition.KindDefinition}
use Rattle.shared_queue.specs.State as state
use Rattle.shared_queue.specs.declared.call.QueueReply.TheVariants as Queue

-- a queue's reply, as the reply with its text
abbrev pub of_queue : QueueReply → KReply
of_queue Queue.Ok = Ok
of_queue Queue.BadThread = BadThread
of_queue Queue.Already = Already
of_queue Queue.Empty = Empty
of_queue Queue.Absent = Absent
of_queue (Queue.Thread t) = Thread t
of_queue (Queue.Count n) = Count n

abbrev pub queue_kind : KindDefinition
queue_kind = record {
  -- the number of threads
  Params = ℕ;
  State = state.QueueState;
  Call = QueueCall;
  in_range = state.is_in_range;
  opening = state.opening_state;
  answer = λ q c. ((queue_answer q c).0, of_queue (queue_answer q c).1);
  word = codes "queue";
}
