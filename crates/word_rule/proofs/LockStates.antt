-- What follows of a state of any lock by its line.
use Rattle.std.proofs.Common.{◌≡◌, ℕ, ◌<◌, ◌≤◌, true, length, subst}
use mathlib.Core.Option.{some}
use lib.ListN.{get_elem?}
use Rattle.event_log.specs.Distinct.{has}
use Rattle.event_log.proofs.Distinct.{distinct_length}
use Rattle.word_rule.specs.{declared.lock_kind.Stage.Stage, Line.going, LockDefinition.{LockDefinition, LockState, IsState}}
use Rattle.word_rule.proofs.{Lists.{has_at, below_of}, Moves.each_moved}

module _ (d : LockDefinition) (n : ℕ) (l : LockState d.Extra) (h : IsState d n l) where
  -- where a CPU stands, by its stage
  pub stands_at : (x : ℕ) (q : Stage) → x < n → l.line.stage x ≡ q → d.Stands n l.line.cpus l.line.out x l.extra q
  stands_at x q below is = subst (d.Stands n l.line.cpus l.line.out x l.extra) is (h.stood x below)

  -- only the lock's CPUs are in line
  pub in_line_below : (x : ℕ) → has x l.line.cpus ≡ true → x < n
  in_line_below = below_of n l.line.cpus h.distinct

  pub in_cell : (i x : ℕ) → get_elem? l.line.cpus i ≡ some x → x < n
  in_cell i x there = in_line_below x (has_at l.line.cpus i x there)

  pub line_fits : length l.line.cpus ≤ n
  line_fits = distinct_length n l.line.cpus h.distinct

  -- only the stage of p changes
  pub restaged : (p : ℕ) (q : Stage) → d.Stands n l.line.cpus l.line.out p l.extra q → IsState d n (record l { line = going l.line p q })
  restaged p q s = record {
    distinct = h.distinct;
    busy = h.busy;
    stood = each_moved l.line.stage (λ x q. d.Stands n l.line.cpus l.line.out x l.extra q) n p q s (λ x in_it _. h.stood x in_it);
    extra = h.extra;
  }
