-- The states of a console.
use Rattle.std.specs.Prelude.{◌≡◌, ℕ, ◌<◌, ◌≤◌, nat_le, ◌&&◌, Bool, List, [], length}

-- at most `capacity` bytes, the oldest first
pub record ConsoleState : Type 0 where
  pub capacity : ℕ
  pub bytes : List ℕ

-- whether a console can be opened for n bytes
abbrev pub is_in_range : ℕ → Bool
is_in_range n = nat_le 1 n && nat_le n 4096

-- a console for n bytes, without any
abbrev pub opening_state : ℕ → ConsoleState
opening_state n = record { capacity = n; bytes = [] }

-- a state of a console that was opened for n bytes
pub record IsConsoleOf (n : ℕ) (c : ConsoleState) : Type 0 where
  pub capacity : c.capacity ≡ n
  pub some : 0 < n
  pub within : length c.bytes ≤ n
