-- How values are spelled: each as a row of a table, a word and then its numbers.
use Rattle.std.specs.{Prelude.{◌≡◌, ℕ, nat_le, ◌&&◌, Bool, true, if◌then◌else◌, Option, Some, None, List, [], ◌∷◌, map, decimal}, List.list_all, Str.bytes_eq}
use Rattle.kernel_words.specs.declared.tables.field.Field.{Field}
use Rattle.record_lines.specs.{Reading.{◌>>=◌, word_at, number_at}, Words.IsPlain}

-- a word, and then its numbers, each with its range
pub record Row : Type 0 where
  pub word : List ℕ
  pub fields : List Field

-- the words of a row: its word, and the decimal of each number
abbrev pub spelled : Row → List (List ℕ)
spelled row = row.word ∷ map (λ f. decimal f.value) row.fields

-- the number is in its range
abbrev pub in_range : Field → Bool
in_range f = nat_le f.low f.value && nat_le f.value f.high

-- each number of the row is in its range
abbrev pub row_fits : Row → Bool
row_fits row = list_all in_range row.fields

-- the row's numbers
abbrev pub values : Row → List ℕ
values row = map (λ f. f.value) row.fields

-- the first number, or 0
abbrev pub first : List ℕ → ℕ
first [] = 0
first (n ∷ ns) = n

-- the numbers behind the first
abbrev pub others : List ℕ → List ℕ
others [] = []
others (n ∷ ns) = ns

-- the fields with these numbers, and 0 where there are too few
abbrev pub refill : List Field → List ℕ → List Field
refill [] ns = []
refill (f ∷ fs) ns = record f { value = first ns } ∷ refill fs (others ns)

-- the row with these numbers
abbrev pub refilled_row : Row → List ℕ → Row
refilled_row row ns = record row { fields = refill row.fields ns }

-- a number of 32 bits
abbrev pub wide : ℕ → Field
wide n = record { low = 0; high = 4294967295; value = n }

-- a byte
abbrev pub byte : ℕ → Field
byte n = record { low = 0; high = 255; value = n }

-- a number from 1 to that limit
abbrev pub limit : ℕ → ℕ → Field
limit high n = record { low = 1; high = high; value = n }

-- a number from 0 to that limit
abbrev pub up_to : ℕ → ℕ → Field
up_to high n = record { low = 0; high = high; value = n }

-- a number in the field's range
unfoldable pub field_at : Field → List (List ℕ) → Option (ℕ × List (List ℕ))
field_at f ws = do
  n ← number_at f.high ws
  if nat_le f.low n.0 then Some n else None

-- as many numbers as there are fields, each in its range
unfoldable pub numbers_at : List Field → List (List ℕ) → Option (List ℕ × List (List ℕ))
numbers_at [] ws = Some ([], ws)
numbers_at (f ∷ fs) ws = do
  n ← field_at f ws
  more ← numbers_at fs n.1
  Some (n.0 ∷ more.0, more.1)

module _ {T : Type 0} (row : T → Row) where
  -- the first of the samples that has the word
  unfoldable pub sample_at : List T → List ℕ → Option T
  sample_at [] word = None
  sample_at (x ∷ xs) word = if bytes_eq (row x).word word then Some x else sample_at xs word

  module _ (samples : List T) (filled : T → List ℕ → T) where
    -- the value that is spelled next
    unfoldable pub value_at : List (List ℕ) → Option (T × List (List ℕ))
    value_at ws = do
      w ← word_at ws
      x ← sample_at samples w.0
      ns ← numbers_at (row x).fields w.1
      Some (filled x ns.0, ns.1)

    -- the table is right: a value has a sample of its word, which is the value once it is filled with the value's numbers
    pub record IsTable : Type 0 where
      pub kept : (x : T) → filled x (values (row x)) ≡ x
      pub again : (x : T) (ns : List ℕ) → filled (filled x []) ns ≡ filled x ns
      pub sampled : (x : T) → sample_at samples (row x).word ≡ Some (filled x [])
      pub word_stays : (x : T) (ns : List ℕ) → (row (filled x ns)).word ≡ (row x).word
      pub refilled : (x : T) (ns : List ℕ) → (row (filled x ns)).fields ≡ refill (row x).fields ns
      pub plain : (x : T) → IsPlain (row x).word
      pub bounded : (x : T) → list_all (λ f. nat_le f.high 4294967295) (row x).fields ≡ true
