use Rattle.std.proofs.Common.{◌≡◌, ◌≤◌, ◌<◌, ℕ, take, get_or}
use Rattle.std.specs.{Int.IsInRange, Str.Parse.digits_value}
use Rattle.record_lines.proofs.text.words.digits.Given as goal

abbrev pub invariant-loop-byte : goal.invariant-loop-byte
invariant-loop-byte l = ((k : ℕ) → k < l.byte-index → IsInRange 48 57 (get_or l.word k 0)) × (l.number ≡ digits_value 10 (take l.byte-index l.word)) × (l.number ≤ l.high)
