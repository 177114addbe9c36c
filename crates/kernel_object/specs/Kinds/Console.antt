-- A console, as one record.
use Rattle.std.specs.Prelude.{ℕ, codes}
use Rattle.console_ring.specs.{Answer.console_answer, declared.call.ConsoleCall.ConsoleCall, declared.call.ConsoleReply.ConsoleReply}
use Rattle.kernel_object.specs.{declared.call.KReply.KReply, declared.call.KReply.TheVariants.{Ok, Empty, Count, Dropped, Byte}, Kinds.Definition.KindDefinition}
use Rattle.console_ring.specs.State as state
use Rattle.console_ring.specs.declared.call.ConsoleReply.TheVariants as Console

-- a console's reply, as the reply with its text
abbrev pub of_console : ConsoleReply → KReply
of_console Console.Ok = Ok
of_console (Console.Dropped b) = Dropped b
of_console Console.Empty = Empty
of_console (Console.Byte b) = Byte b
of_console (Console.Count n) = Count n

abbrev pub console_kind : KindDefinition
console_kind = record {
  -- the number of bytes
  Params = ℕ;
  State = state.ConsoleState;
  Call = ConsoleCall;
  in_range = state.is_in_range;
  opening = state.opening_state;
  answer = λ s c. ((console_answer s c).0, of_console (console_answer s c).1);
  word = codes "console";
}
