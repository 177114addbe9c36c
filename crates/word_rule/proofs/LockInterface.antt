-- What each lock proves of its definition: all else is proved from this.
use Rattle.std.proofs.Common.{◌≡◌, ◌≢◌, ℕ, ◌<◌, ◌≤◌, ◌==◌, Bool, true, false, cond, List, []}
use Rattle.event_log.specs.Distinct.{has}
use Rattle.sound_run.specs.declared.limits.TheConstants.{MOST_CPUS}
use Rattle.word_rule.specs.{declared.machine.step_done.StepDone.StepDone, declared.lock_kind.Stage.Stage, declared.lock_kind.Stage.TheVariants.{Idle, Trying}, Line.{First, moved}, LockDefinition.{LockDefinition, LockState, IsState, opening_state}, Locks.holding}
use Rattle.word_rule.proofs.LineAfter.{LineAfter}
use Rattle.word_rule.specs.declared.machine.step_done.StepDone.TheVariants as steps

-- whether one that stands there has prepared a try
abbrev pub is_trying : Stage → Bool
is_trying Trying = true
is_trying q = false

-- no CPU stands at such a place
abbrev pub NoneTries : (ℕ → Stage) → Type 0
NoneTries stage = (x : ℕ) → is_trying (stage x) ≡ false

pub moved_whole : (stage : ℕ → Stage) (p : ℕ) (q : Stage) → NoneTries stage → is_trying q ≡ false → NoneTries (moved stage p q)
moved_whole stage p q others mine x = by (x == p)
  where
    by : (b : Bool) → is_trying (cond b q (stage x)) ≡ false
    by true = mine
    by false = others x

abbrev pub is_idle : StepDone → Bool
is_idle steps.Idle = true
is_idle s = false

module _ (d : LockDefinition) where
  -- what a turn leaves: a state of the lock, and a line that has changed as the step says
  pub record Goes (n : ℕ) (l : LockState d.Extra) (i : ℕ) (r : LockState d.Extra × StepDone) : Type 0 where
    pub state : IsState d n r.0
    pub line : LineAfter r.1 i l.line.cpus r.0.line.cpus

  -- what a turn does at a lock and at what `erase` leaves of it
  pub record SameTurn (r r' : LockState d.Extra × StepDone) : Type 0 where
    pub step : r'.1 ≡ r.1
    pub lock : d.erase r'.0 ≡ d.erase r.0

  -- what a try leaves as it was: the line where somebody is there, and the places of others
  pub record Tries (l : LockState d.Extra) (i : ℕ) (r : LockState d.Extra × List StepDone) : Type 0 where
    pub busy : l.line.cpus ≢ [] → (r.0.line.cpus ≡ l.line.cpus) × (r.0.line.out ≡ l.line.out) × (r.1 ≡ [])
    pub others : (x : ℕ) → x ≢ i → r.0.line.stage x ≡ l.line.stage x

  pub record LockLaws : Type 0 where
    -- a lock before its first step is a state of it, and erased alike whatever its first ticket
    pub begins : (n first : ℕ) → d.fits n ≡ true → IsState d n (opening_state d first)
    pub opens_erased : (first first' : ℕ) → d.erase (opening_state d first) ≡ d.erase (opening_state d first')
    -- it is for as many CPUs as a cell may have; a state of it is one for as many as it fits
    pub few_fit : (n : ℕ) → n ≤ MOST_CPUS → d.fits n ≡ true
    pub fits : (n : ℕ) (l : LockState d.Extra) → IsState d n l → d.fits n ≡ true
    -- who is idle isn't in line; who has the object is the first
    pub outside : (n : ℕ) (cpus : List ℕ) (out : Bool) (x : ℕ) (extra : d.Extra) → d.Stands n cpus out x extra Idle → has x cpus ≡ false
    pub first : (n : ℕ) (cpus : List ℕ) (out : Bool) (x : ℕ) (extra : d.Extra) (q : Stage) → holding q ≡ true → d.Stands n cpus out x extra q → First cpus out x true
    -- a holder stands where it has the object
    pub holds : (mark : ℕ) → holding (d.holder mark) ≡ true
    -- each turn keeps the lock
    pub goes : (n : ℕ) (l : LockState d.Extra) (i : ℕ) → IsState d n l → i < n → Goes n l i (d.turn l i)
    -- no turn prepares a try
    pub whole : (l : LockState d.Extra) (i : ℕ) → NoneTries l.line.stage → NoneTries (d.turn l i).0.line.stage
    -- no turn of a CPU that stands at the lock, and has prepared no try, is idle
    pub acts : (n : ℕ) (l : LockState d.Extra) (i : ℕ) → IsState d n l → i < n → is_trying (l.line.stage i) ≡ false → is_idle (d.turn l i).1 ≡ false
    -- a turn of a CPU that has prepared no try goes by what `erase` leaves of the lock
    pub erased_twice : (l : LockState d.Extra) → d.erase (d.erase l) ≡ d.erase l
    pub erased_line : (l : LockState d.Extra) → ((d.erase l).line.cpus ≡ l.line.cpus) × ((d.erase l).line.out ≡ l.line.out)
    pub erased : (l : LockState d.Extra) (i : ℕ) → is_trying (l.line.stage i) ≡ false → SameTurn (d.turn l i) (d.turn (d.erase l) i)
    -- two locks that go by one number do so after one step of both
    pub counts : (l l' : LockState d.Extra) (i : ℕ) → (d.turn l i).1 ≡ (d.turn l' i).1 → d.served l.extra ≡ d.served l'.extra → d.served (d.turn l i).0.extra ≡ d.served (d.turn l' i).0.extra
    -- no try, and no preparing of one, moves another CPU; nor does one that finds somebody change the line
    pub tries : (l : LockState d.Extra) (i seen : ℕ) → Tries l i (d.attempt l i seen)
    pub prepares : (l : LockState d.Extra) (i x : ℕ) → x ≢ i → (d.prepare l i).line.stage x ≡ l.line.stage x
