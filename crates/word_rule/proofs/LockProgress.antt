-- What a lock proves of its turns: by the first record nobody is stuck and every fair schedule finishes. By the second every call ends.
use Rattle.std.proofs.{Common.{◌≡◌, ◌≢◌, ◌⊎◌, inl, inr, ⊎_elim, ℕ, ◌<◌, ◌≤◌, Bool, true, false, List, refl}, lemmas.Bool.cases_Bool}
use mathlib.Core.Option.{some}
use lib.ListN.{get_elem?}
use Rattle.event_log.specs.Distinct.{has}
use Rattle.word_rule.specs.{declared.lock_kind.Stage.Stage, declared.lock_kind.Stage.TheVariants.Idle, LockDefinition.{LockDefinition, LockState, IsState}, Locks.holding, StepKinds.ends_hold}
use Rattle.word_rule.proofs.{LineChanges.head_of, Lists.has_at, LockInterface.is_trying}

module _ (cpus : List ℕ) (on : ℕ → Bool) where
  -- i gets on, or one in line
  abbrev pub OneOnAt : ℕ → Type 0
  OneOnAt i = (j : ℕ) × ((has j cpus ≡ true) ⊎ (j ≡ i)) × (on j ≡ true)

  -- x, the first, gets on, or the one behind it
  abbrev pub FirstOn : ℕ → Type 0
  FirstOn x = (on x ≡ true) ⊎ ((y : ℕ) × (get_elem? cpus 1 ≡ some y) × (on y ≡ true))

  -- the second record gives that of the first
  pub one_on : (i : ℕ) → (has i cpus ≡ false → on i ≡ true) → ((x : ℕ) → get_elem? cpus 0 ≡ some x → FirstOn x) → OneOnAt i
  one_on i outside first = ⊎_elim in_line (λ absent. (i, inr refl, outside absent)) (cases_Bool (has i cpus))
    where
      in_line : has i cpus ≡ true → OneOnAt i
      in_line e =
          let t = head_of cpus i e in
          ⊎_elim (λ o. (t.0, inl (has_at cpus 0 t.0 t.1), o)) (λ s. (s.0, inl (has_at cpus 1 s.0 s.1), s.2)) (first t.0 t.1)

module _ (d : LockDefinition) (most : ℕ) where
  pub record LockProgress : Type 0 where
    -- how many steps one that stands there may still do in its call, apart from those in vain
    pub left : Stage → ℕ
    pub some_left : (q : Stage) → 0 < left q
    pub few_left : (q : Stage) → left q ≤ most
    -- whether the CPU's next turn gets it on
    pub gets_on : LockState d.Extra → ℕ → Bool
    -- a turn moves no other CPU
    pub others : (l : LockState d.Extra) (i x : ℕ) → x ≢ i → (d.turn l i).0.line.stage x ≡ l.line.stage x
    -- one that gets its CPU on brings it nearer to the end of its call
    pub nearer : (n : ℕ) (l : LockState d.Extra) (i : ℕ) → IsState d n l → i < n → is_trying (l.line.stage i) ≡ false → gets_on l i ≡ true → ends_hold (d.turn l i).1 ≡ false → left ((d.turn l i).0.line.stage i) < left (l.line.stage i)
    -- one that doesn't leaves it where it stood, and ends no hold
    pub in_vain : (l : LockState d.Extra) (i : ℕ) → gets_on l i ≡ false → ((d.turn l i).0.line.stage i ≡ l.line.stage i) × (ends_hold (d.turn l i).1 ≡ false)
    -- one that ends a hold is a holder's, which is then idle
    pub ended : (l : LockState d.Extra) (i : ℕ) → ends_hold (d.turn l i).1 ≡ true → (holding (l.line.stage i) ≡ true) × ((d.turn l i).0.line.stage i ≡ Idle)
    -- whoever gets on by its next turn does so also after another's turn, or that turn gets the other on
    pub stays_or : (n : ℕ) (l : LockState d.Extra) (i j : ℕ) → IsState d n l → i < n → j < n → j ≢ i → gets_on l j ≡ true → (gets_on (d.turn l i).0 j ≡ true) ⊎ (gets_on l i ≡ true)
    -- where a CPU has a turn to do, it gets on by that or one in line does
    pub someone : (n : ℕ) (l : LockState d.Extra) (i : ℕ) → IsState d n l → i < n → OneOnAt l.line.cpus (gets_on l) i

  pub record LockFairness (p : LockProgress) : Type 0 where
    -- whoever gets on by its next turn does so also after another's turn
    pub stays : (n : ℕ) (l : LockState d.Extra) (i j : ℕ) → IsState d n l → i < n → j < n → j ≢ i → p.gets_on l j ≡ true → p.gets_on (d.turn l i).0 j ≡ true
    -- whoever isn't in line gets on
    pub outside : (n : ℕ) (l : LockState d.Extra) (x : ℕ) → IsState d n l → x < n → has x l.line.cpus ≡ false → p.gets_on l x ≡ true
    -- the first of the line gets on, or the one behind it
    pub first : (n : ℕ) (l : LockState d.Extra) (x : ℕ) → IsState d n l → get_elem? l.line.cpus 0 ≡ some x → FirstOn l.line.cpus (p.gets_on l) x
