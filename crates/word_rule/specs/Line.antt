-- The line of CPUs at a lock, whichever lock it is.
use Rattle.std.specs.Prelude.{◌≡◌, ℕ, Bool, true, false, ◌==◌, cond, List, [], ◌∷◌, ◌++◌, Option, Some, None}
use mathlib.Core.Option.{some}
use lib.ListN.{get_elem?}
use Rattle.word_rule.specs.{declared.lock_kind.Stage.Stage, declared.lock_kind.Stage.TheVariants.Idle}

-- the CPUs in line, whether the object is out with the first of them, and where each CPU stands
pub record Line : Type 0 where
  pub cpus : List ℕ
  pub out : Bool
  pub stage : ℕ → Stage

-- p stands there now, and every other CPU where it stood
abbrev pub moved : (ℕ → Stage) → ℕ → Stage → ℕ → Stage
moved stage p q x = cond (x == p) q (stage x)

-- this line, with p at that place
abbrev pub lined : List ℕ → Bool → (ℕ → Stage) → ℕ → Stage → Line
lined cpus out stage p q = record { cpus = cpus; out = out; stage = moved stage p q }

-- nobody is in line, and the object is at home
abbrev pub empty_line : Line
empty_line = record { cpus = []; out = false; stage = λ _. Idle }

-- i stands there now
abbrev pub going : Line → ℕ → Stage → Line
going l i q = lined l.cpus l.out l.stage i q

-- i joins the end of the line, and stands there
abbrev pub joining : Line → ℕ → Stage → Line
joining l i q = lined (l.cpus ++ i ∷ []) l.out l.stage i q

-- the object goes to i, which stands there
abbrev pub taking : Line → ℕ → Stage → Line
taking l i q = lined l.cpus true l.stage i q

-- i is alone in line, and has the object
abbrev pub alone_with_it : Line → ℕ → Stage → Line
alone_with_it l i q = lined (i ∷ []) true l.stage i q

-- the line without its first
abbrev pub behind : List ℕ → List ℕ
behind [] = []
behind (k ∷ ks) = ks

-- i, the first, leaves the line, and the object is at home
abbrev pub leaving : Line → ℕ → Line
leaving l i = lined (behind l.cpus) false l.stage i Idle

-- whether nobody is in line
abbrev pub is_empty : List ℕ → Bool
is_empty [] = true
is_empty (x ∷ xs) = false

-- whether x is the first of the line
abbrev pub is_first : ℕ → List ℕ → Bool
is_first x [] = false
is_first x (y ∷ ys) = y == x

-- the last of k ∷ ks
abbrev pub last_from : ℕ → List ℕ → ℕ
last_from k [] = k
last_from k (j ∷ js) = last_from j js

abbrev pub last : List ℕ → Option ℕ
last [] = None
last (k ∷ ks) = Some (last_from k ks)

-- who stands behind the first
abbrev pub second : List ℕ → Option ℕ
second [] = None
second (k ∷ []) = None
second (k ∷ j ∷ js) = Some j

-- whether the CPU is the one that is named
abbrev pub is_named : ℕ → Option ℕ → Bool
is_named i None = false
is_named i (Some k) = k == i

-- x is the first in line, and may have the object or has it
pub record First (cpus : List ℕ) (out : Bool) (x : ℕ) (away : Bool) : Type 0 where
  pub there : get_elem? cpus 0 ≡ some x
  pub object : out ≡ away
