-- How a console is spelled.
use Rattle.std.specs.Prelude.{ℕ, List, [], ◌∷◌, codes, decimal}
use Rattle.console_ring.specs.{declared.call.ConsoleCall.ConsoleCall, declared.call.ConsoleCall.TheVariants.{Put, Get, Level}, declared.console.TheConstants.MOST_BYTES}
use Rattle.kernel_object.specs.Kinds.Console.{console_kind}
use Rattle.kernel_words.specs.{Row.{Row, first, byte, limit, field_at}, Kinds.Definition.KindText}

-- how a call is spelled
abbrev pub console_row : ConsoleCall → Row
console_row (Put b) = record { word = codes "put"; fields = byte b ∷ [] }
console_row Get = record { word = codes "get"; fields = [] }
console_row Level = record { word = codes "level"; fields = [] }

-- the call of the same word with these numbers
abbrev pub console_filled : ConsoleCall → List ℕ → ConsoleCall
console_filled (Put _) ns = Put (first ns)
console_filled Get ns = Get
console_filled Level ns = Level

abbrev pub console_text : KindText console_kind
console_text = record {
  ExpressedByFirst = λ bytes. Unit {0};
  params_words = λ form bytes. decimal bytes ∷ [];
  params_at = λ form ws. field_at (limit MOST_BYTES 0) ws;
  row = console_row;
  filled = console_filled;
  samples = Put 0 ∷ Get ∷ Level ∷ [];
}
