-- A word as a set of numbers below 64.
use Rattle.std.specs.{Prelude.{◌≡◌, ◌≢◌, ℕ, ◌==◌, ◌<◌, Bool, true, false}, Int.bit_at}

-- whether the number is in the word: its bit is 1
abbrev pub has_bit : ℕ → ℕ → Bool
has_bit word i = bit_at word i == 1

-- in the new word the number is as b says, and each other as in the old word
pub record Puts (old new k : ℕ) (b : Bool) : Type 0 where
  pub same : has_bit new k ≡ b
  pub others : (i : ℕ) → i ≢ k → has_bit new i ≡ has_bit old i

-- the number is in the word, and no lower one is
pub record IsLeastIn (word k : ℕ) : Type 0 where
  pub below : k < 64
  pub member : has_bit word k ≡ true
  pub lower_out : (i : ℕ) → i < k → has_bit word i ≡ false
