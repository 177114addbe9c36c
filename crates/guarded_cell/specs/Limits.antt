-- The limit of one hold, as a number.
use Rattle.std.specs.Prelude.{ℕ}

-- the most groups of calls under one hold
abbrev pub most_groups : ℕ
most_groups = 8
