-- A scheduler, as one record.
use Rattle.std.specs.Prelude.{codes}
use Rattle.wake_list.specs.{Answer.sched_answer, declared.call.SchedCall.SchedCall, declared.call.SchedReply.SchedReply, declared.sched.SchedParams.SchedParams}
use Rattle.kernel_object.specs.{declared.call.KReply.KReply, declared.call.KReply.TheVariants.{Ok, Already, BadThread, BadChannel, Thread, Empty, Count}, Kinds.Definition.KindDefinition}
use Rattle.wake_list.specs.State as state
use Rattle.wake_list.specs.declared.call.SchedReply.TheVariants as Sched

-- a scheduler's reply, as the reply with its text
abbrev pub of_sched : SchedReply → KReply
of_sched Sched.Ok = Ok
of_sched Sched.BadThread = BadThread
of_sched Sched.BadChannel = BadChannel
of_sched Sched.Already = Already
of_sched Sched.Empty = Empty
of_sched (Sched.Thread t) = Thread t
of_sched (Sched.Count n) = Count n

abbrev pub sched_kind : KindDefinition
sched_kind = record {
  Params = SchedParams;
  State = state.SchedState;
  Call = SchedCall;
  in_range = state.is_in_range;
  opening = state.opening_state;
  answer = λ s c. ((sched_answer s c).0, of_sched (sched_answer s c).1);
  word = codes "sched";
}
