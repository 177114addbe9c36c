-- What a console answers.
use Rattle.std.specs.Prelude.{ℕ, nat_lt, Bool, true, false, if◌then◌else◌, List, [], ◌∷◌, ◌++◌, length}
use Rattle.console_ring.specs.{State.ConsoleState, declared.call.ConsoleCall.ConsoleCall, declared.call.ConsoleCall.TheVariants.{Put, Get, Level}, declared.call.ConsoleReply.ConsoleReply, declared.call.ConsoleReply.TheVariants.{Ok, Dropped, Empty, Byte, Count}}

-- what a full console answers where these are its bytes: the first is dropped
abbrev pub full_answer : ConsoleState → ℕ → List ℕ → ConsoleState × ConsoleReply
full_answer c b [] = (record c { bytes = b ∷ [] }, Ok)
full_answer c b (first ∷ rest) = (record c { bytes = rest ++ b ∷ [] }, Dropped first)

-- the byte goes to the end
abbrev pub put_answer : ConsoleState → ℕ → ConsoleState × ConsoleReply
put_answer c b = if nat_lt (length c.bytes) c.capacity then (record c { bytes = c.bytes ++ b ∷ [] }, Ok) else full_answer c b c.bytes

-- what is answered where these are the bytes
abbrev pub front_answer : ConsoleState → List ℕ → ConsoleState × ConsoleReply
front_answer c [] = (c, Empty)
front_answer c (first ∷ rest) = (record c { bytes = rest }, Byte first)

-- the first byte is taken
abbrev pub get_answer : ConsoleState → ConsoleState × ConsoleReply
get_answer c = front_answer c c.bytes

abbrev pub console_answer : ConsoleState → ConsoleCall → ConsoleState × ConsoleReply
console_answer c (Put b) = put_answer c b
console_answer c Get = get_answer c
console_answer c Level = (c, Count (length c.bytes))

abbrev pub is_refusing : ConsoleReply → Bool
is_refusing Ok = false
is_refusing (Dropped b) = false
is_refusing Empty = true
is_refusing (Byte b) = false
is_refusing (Count n) = false
