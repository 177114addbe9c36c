-- What goes into a console comes out of it, in order.
use Rattle.std.specs.Prelude.{ℕ, List, [], ◌∷◌}
use Rattle.event_log.specs.declared.event.Step.{Step}
use Rattle.console_ring.specs.{State.ConsoleState, Answer.console_answer, declared.call.ConsoleCall.ConsoleCall, declared.call.ConsoleCall.TheVariants.{Put, Get, Level}, declared.call.ConsoleReply.ConsoleReply, declared.call.ConsoleReply.TheVariants.{Ok, Dropped, Empty, Byte, Count}}

-- the bytes that the calls put, in order
abbrev pub bytes_in : List ConsoleCall → List ℕ
bytes_in [] = []
bytes_in (Put b ∷ calls) = b ∷ bytes_in calls
bytes_in (Get ∷ calls) = bytes_in calls
bytes_in (Level ∷ calls) = bytes_in calls

-- the byte that came out with a reply, before others
abbrev pub out_with : ConsoleReply → List ℕ → List ℕ
out_with Ok rest = rest
out_with (Dropped b) rest = b ∷ rest
out_with Empty rest = rest
out_with (Byte b) rest = b ∷ rest
out_with (Count n) rest = rest

-- the bytes that came out with the replies of steps, got or dropped, in order
abbrev pub bytes_reported : {O P : Type 0} → List (Step O P ConsoleCall ConsoleReply) → List ℕ
bytes_reported [] = []
bytes_reported (step ∷ steps) = out_with step.reply (bytes_reported steps)

-- the bytes that came out, got or dropped, in order
abbrev pub bytes_out : ConsoleState → List ConsoleCall → List ℕ
bytes_out c [] = []
bytes_out c (call ∷ calls) = out_with (console_answer c call).1 (bytes_out (console_answer c call).0 calls)

-- the console after the calls
abbrev pub left_after : ConsoleState → List ConsoleCall → ConsoleState
left_after c [] = c
left_after c (call ∷ calls) = left_after (console_answer c call).0 calls
