-- What is said: a word, and the numbers behind it.
use Rattle.std.specs.Prelude.{ℕ, ◌≡◌, ◌≤◌, List, ◌++◌, ◌-◌, length, take, replicate}

-- a call or a reply
pub record Said : Type 0 where
  pub word : List ℕ
  pub numbers : List ℕ

-- the list, and zeros behind it up to that length
abbrev pub padded : ℕ → List ℕ → List ℕ
padded n xs = xs ++ replicate (n - length xs) 0

-- an array of n places that has so many numbers, and zeros behind them
pub record IsPadded (n count : ℕ) (xs : List ℕ) : Type 0 where
  pub few : count ≤ n
  pub front : length (take count xs) ≡ count
  pub rest : padded n (take count xs) ≡ xs
