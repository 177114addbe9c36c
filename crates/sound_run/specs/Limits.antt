-- The limits of a run, as numbers.
use Rattle.std.specs.Prelude.{ℕ}

-- the most CPUs of one run
abbrev pub most_cpus : ℕ
most_cpus = 64

-- the most objects of one run
abbrev pub most_cells : ℕ
most_cells = 16
