use Rattle.std.proofs.Common.{◌≡◌, ℕ, ◌<◌, false, None, is_none, get_or}
use Rattle.auditor.proofs.references.pool.ReferencePool.least_free.Given as goal

-- no page so far is free
abbrev pub invariant-loop-page : goal.invariant-loop-page
invariant-loop-page l = (k : ℕ) → k < l.page → is_none (get_or l.self-inside.owners.items k None) ≡ false
