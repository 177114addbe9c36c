-- The states of a counter.
use Rattle.std.specs.Prelude.{◌≡◌, ℕ, ◌≤◌, nat_le, ◌&&◌, Bool}

-- the bound, and how many were counted
pub record CounterState : Type 0 where
  pub most : ℕ
  pub value : ℕ

-- whether a counter can be opened for at most n
abbrev pub is_in_range : ℕ → Bool
is_in_range n = nat_le 1 n && nat_le n 1000

-- a counter for at most n, which has counted none
abbrev pub opening_state : ℕ → CounterState
opening_state n = record { most = n; value = 0 }

-- a state of a counter that was opened for at most n
pub record IsCounterOf (n : ℕ) (c : CounterState) : Type 0 where
  pub most : c.most ≡ n
  pub within : c.value ≤ n
