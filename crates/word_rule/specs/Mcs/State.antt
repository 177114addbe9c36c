-- An MCS lock (Mellor-Crummey and Scott 1991): beside the queue the CPU that each CPU's `next` names.
use Rattle.std.specs.{Prelude.{◌≡◌, ◌⊎◌, ℕ, suc, ◌+◌, ◌<◌, ◌==◌, ◌&&◌, not, Bool, true, false, cond, List, ◌∷◌, ◌++◌, length, map, Option, Some, None}, List.range_with_len}
use mathlib.Core.Option.{some}
use lib.ListN.{get_elem?}
use Rattle.event_log.specs.Distinct.{has}
use Rattle.word_rule.specs.{declared.lock_kind.Stage.Stage, declared.lock_kind.Stage.TheVariants.{Idle, Mcs, Trying}, declared.lock_kind.McsStage.TheVariants.{Ready, Behind, Armed, Waiting, Holding, Alone, Leaving, Passing}, Line.{Line, First, is_first, last, second}, LockDefinition.LockState}

abbrev pub McsLock : Type 0
McsLock = LockState (ℕ → Option ℕ)

-- the `next` of p names this now
abbrev pub naming : (ℕ → Option ℕ) → ℕ → Option ℕ → ℕ → Option ℕ
naming next p named k = cond (k == p) named (next k)

-- whether one that stands there has linked itself, and hasn't had the object since
abbrev pub is_linked : Stage → Bool
is_linked (Mcs Waiting) = true
is_linked q = false

-- the one that is named, if it has linked itself
abbrev pub if_linked : Line → Option ℕ → Option ℕ
if_linked l None = None
if_linked l (Some j) = cond (is_linked (l.stage j)) (Some j) None

-- the follower of the first, once it has linked itself
abbrev pub follower : Line → Option ℕ
follower l = if_linked l (second l.cpus)

-- 0 for nobody, and j + 1 for the CPU j
abbrev pub word_of : Option ℕ → ℕ
word_of None = 0
word_of (Some j) = j + 1

-- whether one that stands there has armed itself, and hasn't had the object since
abbrev pub is_armed : Stage → Bool
is_armed (Mcs (Armed p)) = true
is_armed (Mcs Waiting) = true
is_armed q = false

-- the `locked` of x, which stands there in this queue: 1 from where x arms itself until it is the first
abbrev pub locked_by : Stage → ℕ → List ℕ → ℕ
locked_by q x cpus = cond (is_armed q && not (is_first x cpus)) 1 0

abbrev pub locked_at : Line → ℕ → ℕ
locked_at l x = locked_by (l.stage x) x l.cpus

-- word 0 is the tail; of n CPUs word 1 + i is the `next` of CPU i, word 1 + n + i its `locked`
abbrev pub mcs_words : ℕ → McsLock → List ℕ
mcs_words n l = word_of (last l.line.cpus) ∷ (map (λ i. word_of (l.extra i)) (range_with_len 0 n) ++ map (λ i. locked_at l.line i) (range_with_len 0 n))

module _ (cpus : List ℕ) (x : ℕ) where
  -- x is the next behind p, whose `next` names this
  pub record Follows (next : ℕ → Option ℕ) (p : ℕ) (named : Option ℕ) : Type 0 where
    pub at : ℕ
    pub ahead : get_elem? cpus at ≡ some p
    pub there : get_elem? cpus (suc at) ≡ some x
    pub link : next p ≡ named

module _ (cpus : List ℕ) (out : Bool) (x : ℕ) where
  -- the CPU x stands there
  abbrev pub StandsInQueue : (ℕ → Option ℕ) → Stage → Type 0
  StandsInQueue next Idle = has x cpus ≡ false
  StandsInQueue next Trying = (has x cpus ≡ false) × (next x ≡ None)
  StandsInQueue next (Mcs Ready) = (has x cpus ≡ false) × (next x ≡ None)
  StandsInQueue next (Mcs (Behind p)) = Follows cpus x next p None
  StandsInQueue next (Mcs (Armed p)) = Follows cpus x next p None
  StandsInQueue next (Mcs Waiting) = ((p : ℕ) × Follows cpus x next p (Some x)) ⊎ First cpus out x false
  StandsInQueue next (Mcs Holding) = First cpus out x true
  StandsInQueue next (Mcs Alone) = First cpus out x true
  StandsInQueue next (Mcs Leaving) = First cpus out x true × (1 < length cpus)
  StandsInQueue next (Mcs (Passing j)) = First cpus out x true × (get_elem? cpus 1 ≡ some j) × (next x ≡ Some j)
  StandsInQueue next _ = ⊥

-- whether one that stands there has the object
abbrev pub is_at_head : Stage → Bool
is_at_head (Mcs Holding) = true
is_at_head (Mcs Alone) = true
is_at_head (Mcs Leaving) = true
is_at_head (Mcs (Passing j)) = true
is_at_head _ = false

-- one that has prepared a try is as one that is idle
abbrev pub untried : Stage → Stage
untried Trying = Idle
untried q = q

-- what counts of the `next` of one that stands there: nothing before it has cleared it
abbrev pub erased_next : Stage → Option ℕ → Option ℕ
erased_next (Mcs q) named = named
erased_next q named = None

-- the lock without tries that are prepared, and the `next` of who is idle
abbrev pub without_tries : McsLock → McsLock
without_tries l = record { line = record { cpus = l.line.cpus; out = l.line.out; stage = λ x. untried (l.line.stage x) }; extra = λ x. erased_next (l.line.stage x) (l.extra x) }
