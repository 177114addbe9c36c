-- Reading the parts of a line that all lines have: fixed words, names, numbers and lists.
use Rattle.std.specs.{Prelude.{ℕ, zero, suc, List, [], ◌∷◌, Option, Some, None, Bool, true, false, if◌then◌else◌, codes, ◌-◌, ◌&&◌, nat_le}, Option.option_map_or}
use Rattle.event_log.specs.declared.event.TheConstants.{MOST_CALLS}
use Rattle.record_lines.specs.{Reading.{◌>>=◌, word_at, key_at, number_at}, Names.is_name}

-- no word is left
abbrev pub is_nil : List (List ℕ) → Bool
is_nil [] = true
is_nil (w ∷ ws) = false

module _ {T : Type 0} (item_at : List (List ℕ) → Option (T × List (List ℕ))) where
  -- up to n items, as long as a semicolon is next, and the words behind them
  unfoldable pub more_at : ℕ → List (List ℕ) → Option (List T × List (List ℕ))
  more_at zero ws = Some ([], ws)
  more_at (suc n) ws = option_map_or (λ rest. item_at rest >>= λ next. more_at n next.1 >>= λ more. Some (next.0 ∷ more.0, more.1)) (key_at (codes ";") ws) (Some ([], ws))

  -- 1 to 8 items with semicolons between them, and the words behind them
  unfoldable pub list_at : List (List ℕ) → Option (List T × List (List ℕ))
  list_at ws = do
    next ← item_at ws
    more ← more_at (MOST_CALLS - 1) next.1
    Some (next.0 ∷ more.0, more.1)

-- the words behind these, if they are next
unfoldable pub keys_at : List (List ℕ) → List (List ℕ) → Option (List (List ℕ))
keys_at [] ws = Some ws
keys_at (key ∷ keys) ws = key_at key ws >>= λ rest. keys_at keys rest

-- all words, as just these
unfoldable pub fixed_at : List (List ℕ) → List (List ℕ) → Option (Unit {0})
fixed_at keys ws = do
  rest ← keys_at keys ws
  if is_nil rest then Some tt else None

-- all words, as a number from low to high
unfoldable pub last_at : ℕ → ℕ → List (List ℕ) → Option ℕ
last_at low high ws = do
  n ← number_at high ws
  if nat_le low n.0 && is_nil n.1 then Some n.0 else None

-- all words, as these and a number from low to high
unfoldable pub head_at : List (List ℕ) → ℕ → ℕ → List (List ℕ) → Option ℕ
head_at keys low high ws = keys_at keys ws >>= λ rest. last_at low high rest

-- the next word, if it is a name
unfoldable pub name_word_at : List (List ℕ) → Option (List ℕ × List (List ℕ))
name_word_at ws = do
  w ← word_at ws
  if is_name w.0 then Some w else None
