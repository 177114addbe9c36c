-- A set of pages, as words and as a list.
use Rattle.std.specs.{Prelude.{◌≡◌, ℕ, ◌/◌, ◌%◌, ◌*◌, ◌==◌, ◌≤◌, Bool, false, not, Option, List, length, map, get_or}, List.{position, range_with_len}}
use Rattle.page_pool.specs.Bits.{has_bit}

-- whether the page is in the words: bit `p % 64` of word `p / 64`
abbrev pub has_page : List ℕ → ℕ → Bool
has_page words p = has_bit (get_or words (p / 64) 0) (p % 64)

-- for each page below the size, whether it is in the words
abbrev pub members : List ℕ → ℕ → List Bool
members words size = map (has_page words) (range_with_len 0 size)

-- the words have a bit for each page below the size and no other page; there are at most 64 of them, and the top word
-- says which of them have a page
pub record IsTopped (words : List ℕ) (top size : ℕ) : Type 0 where
  pub few : length words ≤ 64
  pub room : size ≤ 64 * length words
  pub none_past : (p : ℕ) → size ≤ p → has_page words p ≡ false
  pub topped : (w : ℕ) → has_bit top w ≡ not (get_or words w 0 == 0)

-- the least page that is in the list, if there is one
abbrev pub least_member : List Bool → Option ℕ
least_member pages = position (λ member. member) pages
