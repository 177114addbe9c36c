-- Flags of the numbers from 0 on, 64 in a word.
use Rattle.std.specs.{Prelude.{◌≡◌, ◌*◌, ◌/◌, ◌%◌, ℕ, List, length, slice_index}, Int.bit_at}

-- so many numbers have a flag
abbrev pub capacity : List ℕ → ℕ
capacity words = 64 * length words

-- the number's flag is set
abbrev pub HasFlag : List ℕ → ℕ → Type 0
HasFlag words number = bit_at (slice_index words (number / 64)) (number % 64) ≡ 1
