-- The quotas of a page pool, among an object's numbers.
use Rattle.std.specs.{Prelude.{ℕ, Bool, ◌&&◌, ◌==◌, nat_le, List, length}, List.list_all}

-- one for each of the 16 owners, each up to 4096
abbrev pub are_quotas : List ℕ → Bool
are_quotas quotas = length quotas == 16 && list_all (λ quota. nat_le quota 4096) quotas
