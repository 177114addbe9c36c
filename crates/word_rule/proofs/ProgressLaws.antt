-- How the turns of a lock, whichever it is, get its CPUs on.
use Rattle.std.proofs.{Common.{◌≡◌, ◌≢◌, ◌⊎◌, ⊎_elim, ℕ, ◌<◌, ◌≤◌, Bool, true, false, true≢false, sym, ap, ◌∙◌, subst, arith}, lemmas.Bool.cases_Bool}
use mathlib.{Core.Logic.dite, Core.Option.some}
use native.Mathlib.Decide.{ℕ_discrete}
use lib.ListN.{get_elem?}
use Rattle.event_log.specs.Distinct.{has}
use Rattle.sound_run.specs.declared.lock_kind.LockKind.{LockKind}
use Rattle.word_rule.specs.{Locks.{Lock, definition_of, holding, state_of, turn}, Machine.Rounds.{most_steps, most_steps_of}, StepKinds.ends_hold}
use Rattle.word_rule.proofs.{IdleSteps.IsWholeLock, LineAfter.LineAfter, LockLaws.{turn_keeps, turn_whole}, LockProgress.{FirstOn, LockFairness, LockProgress, OneOnAt}, Mcs.Progress.{mcs_fairness, mcs_progress}, Ticket.Progress.{ticket_fairness, ticket_progress}}
use Rattle.sound_run.specs.declared.lock_kind.LockKind.TheVariants as kinds

-- one line for each lock
pub progress_of : (kind : LockKind) → LockProgress (definition_of kind) (most_steps_of kind)
progress_of kinds.Ticket = ticket_progress
progress_of kinds.Mcs = mcs_progress

-- one line for each lock at which every call ends
pub fairness_of : (kind : LockKind) → LockFairness (definition_of kind) (most_steps_of kind) (progress_of kind)
unfolding progress_of
fairness_of kinds.Ticket = ticket_fairness
fairness_of kinds.Mcs = mcs_fairness

-- whether a CPU's next turn gets it on
abbrev pub gets_on : Lock → ℕ → Bool
gets_on l i = let p = progress_of l.kind in p.gets_on (state_of l) i

-- how many steps a CPU may still do in its call, apart from those in vain
abbrev pub left_at : Lock → ℕ → ℕ
left_at l i = let p = progress_of l.kind in p.left (l.line.stage i)

-- the most steps of a call there
abbrev pub most_at : Lock → ℕ
most_at l = most_steps_of l.kind

pub some_left : (l : Lock) (i : ℕ) → 0 < left_at l i
some_left l i = let p = progress_of l.kind in p.some_left (l.line.stage i)

-- no lock has more than the most of any
pub most_few : (kind : LockKind) → most_steps_of kind ≤ most_steps
most_few kinds.Ticket = omega arith
most_few kinds.Mcs = omega arith

pub few_left : (l : Lock) (i : ℕ) → left_at l i ≤ most_steps_of l.kind
few_left l i = let p = progress_of l.kind in p.few_left (l.line.stage i)

pub others_stay : (l : Lock) (i x : ℕ) → x ≢ i → left_at (turn l i).0 x ≡ left_at l x
others_stay l i x ne = let p = progress_of l.kind in ap p.left (p.others (state_of l) i x ne)

module _ (n : ℕ) (l : Lock) (h : IsWholeLock n l) where
  abbrev p : LockProgress (definition_of l.kind) (most_steps_of l.kind)
  p = progress_of l.kind

  module _ (i : ℕ) (below : i < n) where
    pub nearer : gets_on l i ≡ true → ends_hold (turn l i).1 ≡ false → left_at (turn l i).0 i < left_at l i
    nearer on unended = p.nearer n (state_of l) i h.0 below (h.1 i) on unended

    pub no_further : ends_hold (turn l i).1 ≡ false → left_at (turn l i).0 i ≤ left_at l i
    no_further unended = ⊎_elim
        (λ on. let lt = nearer on unended in omega arith)
        (λ off. let v = p.in_vain (state_of l) i off in let same = ap p.left v.0 in omega (arith, same))
        (cases_Bool (gets_on l i))

    -- no CPU has more steps left than before
    pub none_further : ends_hold (turn l i).1 ≡ false → (x : ℕ) → left_at (turn l i).0 x ≤ left_at l x
    none_further unended x = dite (ℕ_discrete x i)
        (λ is. subst (λ y. left_at (turn l i).0 y ≤ left_at l y) (sym is) (no_further unended))
        (λ ne. let same = others_stay l i x ne in omega (arith, same))

    pub stays : (j : ℕ) → j < n → j ≢ i → gets_on l j ≡ true → gets_on (turn l i).0 j ≡ true
    stays j j_below ne on = let f = fairness_of l.kind in f.stays n (state_of l) i j h.0 below j_below ne on

    pub stays_or : (j : ℕ) → j < n → j ≢ i → gets_on l j ≡ true → (gets_on (turn l i).0 j ≡ true) ⊎ (gets_on l i ≡ true)
    stays_or j j_below ne on = p.stays_or n (state_of l) i j h.0 below j_below ne on

    pub turned : IsWholeLock n (turn l i).0
    turned = ((turn_keeps n l h.0 i below).0, turn_whole l i h.1)

    pub line_after : LineAfter (turn l i).1 i l.line.cpus (turn l i).0.line.cpus
    line_after = (turn_keeps n l h.0 i below).1

  pub outside : (x : ℕ) → x < n → has x l.line.cpus ≡ false → gets_on l x ≡ true
  outside x below absent = let f = fairness_of l.kind in f.outside n (state_of l) x h.0 below absent

  -- where one is in line, one of the first two gets on
  pub someone_first : (x : ℕ) → get_elem? l.line.cpus 0 ≡ some x → FirstOn l.line.cpus (gets_on l) x
  someone_first x there = let f = fairness_of l.kind in f.first n (state_of l) x h.0 there

  -- a CPU gets on, or one in line
  pub someone_at : (i : ℕ) → i < n → OneOnAt l.line.cpus (gets_on l) i
  someone_at i below = p.someone n (state_of l) i h.0 below

-- a turn gets its CPU on exactly where it takes it to another place
module _ (n : ℕ) (l : Lock) (h : IsWholeLock n l) (i : ℕ) (below : i < n) where
  abbrev q : LockProgress (definition_of l.kind) (most_steps_of l.kind)
  q = progress_of l.kind

  pub on_moves : gets_on l i ≡ true → (turn l i).0.line.stage i ≢ l.line.stage i
  on_moves on same = ⊎_elim
      (λ ends. let e = q.ended (state_of l) i ends in true≢false (sym e.0 ∙ ap holding (sym same ∙ e.1)))
      (λ unended. let lt = nearer n l h i below on unended in let eq = ap q.left same in omega (arith, eq))
      (cases_Bool (ends_hold (turn l i).1))

  pub moves_on : ((turn l i).0.line.stage i ≢ l.line.stage i) → gets_on l i ≡ true
  moves_on moves = ⊎_elim (λ on. on) (λ off. let v = q.in_vain (state_of l) i off in absurd (moves v.0)) (cases_Bool (gets_on l i))
