-- A call leaves at most as many bytes as the console was opened for.
use Rattle.std.proofs.{Common.{◌≡◌, ℕ, ◌<◌, ◌≤◌, nat_lt, nat_le, Bool, true, false, if◌then◌else◌, List, [], ◌∷◌, ◌++◌, length, refl, arith}, lemmas.Bool.and_parts, lemmas.Bool.Decides.nat_tests, lemmas.List.length_push}
use Rattle.console_ring.specs.{State.{ConsoleState, is_in_range, opening_state, IsConsoleOf}, Answer.{console_answer, full_answer, front_answer}, declared.call.ConsoleCall.ConsoleCall, declared.call.ConsoleCall.TheVariants.{Put, Get, Level}, declared.call.ConsoleReply.ConsoleReply, declared.call.ConsoleReply.TheVariants.Ok}

-- an answer leaves such a state
abbrev Leaves : ℕ → ConsoleState × ConsoleReply → Type 0
Leaves n a = IsConsoleOf n a.0

full_keeps : (n : ℕ) (c : ConsoleState) (b : ℕ) (bytes : List ℕ) → IsConsoleOf n c → length bytes ≤ n → Leaves n (full_answer c b bytes)
full_keeps n c b [] h few = record { capacity = h.capacity; some = h.some; within = omega (arith, h.some) }
full_keeps n c b (first ∷ rest) h few = record { capacity = h.capacity; some = h.some; within = omega (arith, few, length_push rest b) }

put_keeps : (n : ℕ) (c : ConsoleState) (b : ℕ) (room : Bool) → IsConsoleOf n c → nat_lt (length c.bytes) c.capacity ≡ room → Leaves n (if room then (record c { bytes = c.bytes ++ b ∷ [] }, Ok) else full_answer c b c.bytes)
put_keeps n c b true h room =
    let fewer : length c.bytes < n = grind (arith, nat_tests, room, h.capacity) in
    record { capacity = h.capacity; some = h.some; within = omega (arith, fewer, length_push c.bytes b) }
put_keeps n c b false h room = full_keeps n c b c.bytes h h.within

get_keeps : (n : ℕ) (c : ConsoleState) (bytes : List ℕ) → IsConsoleOf n c → length bytes ≤ n → Leaves n (front_answer c bytes)
get_keeps n c [] h few = h
get_keeps n c (first ∷ rest) h few = record { capacity = h.capacity; some = h.some; within = omega (arith, few) }

pub keeps : (n : ℕ) (c : ConsoleState) (call : ConsoleCall) → IsConsoleOf n c → IsConsoleOf n (console_answer c call).0
keeps n c (Put b) h = put_keeps n c b (nat_lt (length c.bytes) c.capacity) h refl
keeps n c Get h = get_keeps n c c.bytes h h.within
keeps n c Level h = h

pub opens : (n : ℕ) → is_in_range n ≡ true → IsConsoleOf n (opening_state n)
opens n h = record { capacity = refl; some = grind (arith, nat_tests, (and_parts (nat_le 1 n) (nat_le n 4096) h).0); within = omega arith }
