-- The limits of records of one's own, as numbers.
use Rattle.std.specs.Prelude.{ℕ}

-- the most CPUs
abbrev pub most_custom_cpus : ℕ
most_custom_cpus = 256

-- the most objects
abbrev pub most_custom_objects : ℕ
most_custom_objects = 256

-- the most numbers of an object
abbrev pub most_sizes : ℕ
most_sizes = 32

-- the most words that refuse
abbrev pub most_words : ℕ
most_words = 32

-- the most letters of a word
abbrev pub most_letters : ℕ
most_letters = 16

-- the most numbers of a call or a reply
abbrev pub most_numbers : ℕ
most_numbers = 6

-- the most calls of an event or an entry
abbrev pub most_steps : ℕ
most_steps = 8
