-- What follows of a lock, whichever it is, from what its definition proves.
use Rattle.std.proofs.{Common.{◌≡◌, ◌≢◌, ℕ, ◌<◌, ◌≤◌, true, false, true≢false, List, [], ◌∷◌, length, refl, sym, ap, ◌∙◌, subst}, lemmas.Bool.false_from_ne_true}
use mathlib.Core.Option.{some, some-injective}
use lib.ListN.{get_elem?}
use Rattle.event_log.specs.Distinct.{has}
use Rattle.sound_run.specs.{declared.limits.TheConstants.MOST_CPUS, declared.lock_kind.LockKind.LockKind}
use Rattle.word_rule.specs.{declared.lock_kind.Stage.Stage, declared.lock_kind.Stage.TheVariants.{Idle, Trying}, Line.First, LockDefinition.LockState, Locks.{Fits, IsLock, Lock, definition_of, holder, holding, lock_of, served, opening_lock, erase, prepare, state_of, turn}}
use Rattle.word_rule.proofs.{LineAfter.LineAfter, Lists.{has_at, there_is}, LockInterface.{LockLaws, NoneTries, Tries, is_idle, is_trying}, Mcs.Laws.mcs_laws, Ticket.Laws.ticket_laws}
use Rattle.sound_run.specs.declared.lock_kind.LockKind.TheVariants as kinds
use Rattle.word_rule.proofs.LockStates as states

-- one line for each lock
pub laws_of : (kind : LockKind) → LockLaws (definition_of kind)
laws_of kinds.Ticket = ticket_laws
laws_of kinds.Mcs = mcs_laws

-- what is shown of each state of a definition is shown of each lock of its kind
pub at_kind : (kind : LockKind) (P : Lock → Type 0) → ((s : LockState (definition_of kind).Extra) → P (lock_of kind s)) → (l : Lock) → l.kind ≡ kind → P l
at_kind kind P each l is = subst (λ k. ((s : LockState (definition_of k).Extra) → P (lock_of k s)) → P l) is (λ each. each (state_of l)) each

-- a lock before its first step
pub begins : (n first : ℕ) (kind : LockKind) → Fits kind n → IsLock n (opening_lock kind first)
begins n first kind fits = (laws_of kind).begins n first fits

-- each lock is for as many CPUs as a cell may have
pub few_fit : (kind : LockKind) (n : ℕ) → n ≤ MOST_CPUS → Fits kind n
few_fit kind n few = (laws_of kind).few_fit n few

pub opens_erased : (kind : LockKind) (first first' : ℕ) → erase (opening_lock kind first) ≡ erase (opening_lock kind first')
opens_erased kind first first' = ap (lock_of kind) ((laws_of kind).opens_erased first first')

-- a holder that can still do calls has the object
pub holds : (kind : LockKind) (mark : ℕ) → holding (holder kind mark) ≡ true
holds kind mark = (laws_of kind).holds mark

-- one that has the object has prepared no try
pub held_untried : (q : Stage) → holding q ≡ true → is_trying q ≡ false
held_untried Trying e = absurd (true≢false (sym e))
held_untried q e = refl

module _ (n : ℕ) (l : Lock) (h : IsLock n l) where
  laws : LockLaws (definition_of l.kind)
  laws = laws_of l.kind

  pub fits : Fits l.kind n
  fits = laws.fits n (state_of l) h

  pub first_holds : (x : ℕ) → x < n → holding (l.line.stage x) ≡ true → First l.line.cpus l.line.out x true
  first_holds x below has_it = laws.first n l.line.cpus l.line.out x l.extra (l.line.stage x) has_it (h.stood x below)

  -- there is one holder
  pub one_holds : (x y : ℕ) → x < n → y < n → holding (l.line.stage x) ≡ true → holding (l.line.stage y) ≡ true → x ≡ y
  one_holds x y below below' a b = let f = first_holds x below a in let g = first_holds y below' b in some-injective x y (sym f.there ∙ g.there)

  -- who holds has the object
  pub object_out : (x : ℕ) → x < n → holding (l.line.stage x) ≡ true → l.line.out ≡ true
  object_out x below has_it = let f = first_holds x below has_it in f.object

  pub in_line_below : (x : ℕ) → has x l.line.cpus ≡ true → x < n
  in_line_below = states.in_line_below (definition_of l.kind) n (state_of l) h

  pub in_cell : (i x : ℕ) → get_elem? l.line.cpus i ≡ some x → x < n
  in_cell = states.in_cell (definition_of l.kind) n (state_of l) h

  pub line_fits : length l.line.cpus ≤ n
  line_fits = states.line_fits (definition_of l.kind) n (state_of l) h

  -- who is idle isn't in line
  pub idle_outside : (x : ℕ) → x < n → l.line.stage x ≡ Idle → has x l.line.cpus ≡ false
  idle_outside x below is = laws.outside n l.line.cpus l.line.out x l.extra (states.stands_at (definition_of l.kind) n (state_of l) h x Idle below is)

  -- where all are idle the object is at home
  pub idle_home : ((x : ℕ) → x < n → l.line.stage x ≡ Idle) → l.line.out ≡ false
  idle_home all = false_from_ne_true l.line.out (λ o.
      let t = there_is l.line.cpus 0 (h.busy o) in
      let below = in_cell 0 t.0 t.1 in
      true≢false (sym (has_at l.line.cpus 0 t.0 t.1) ∙ idle_outside t.0 below (all t.0 below)))

  -- and nobody is in line
  pub idle_empty : ((x : ℕ) → x < n → l.line.stage x ≡ Idle) → l.line.cpus ≡ []
  idle_empty all = by l.line.cpus refl
    where
      by : (cpus : List ℕ) → l.line.cpus ≡ cpus → l.line.cpus ≡ []
      by [] is = is
      by (y ∷ ys) is =
          let there : get_elem? l.line.cpus 0 ≡ some y = ap (λ z. get_elem? z 0) is in
          let below = in_cell 0 y there in
          absurd (true≢false (sym (has_at l.line.cpus 0 y there) ∙ idle_outside y below (all y below)))

  -- each turn keeps the lock, and the line changes as the step says
  pub turn_keeps : (i : ℕ) → i < n → IsLock n (turn l i).0 × LineAfter (turn l i).1 i l.line.cpus (turn l i).0.line.cpus
  turn_keeps i below = let g = laws.goes n (state_of l) i h below in (g.state, g.line)

  pub turn_acts : (i : ℕ) → i < n → is_trying (l.line.stage i) ≡ false → is_idle (turn l i).1 ≡ false
  turn_acts i below not = laws.acts n (state_of l) i h below not

pub turn_whole : (l : Lock) (i : ℕ) → NoneTries l.line.stage → NoneTries (turn l i).0.line.stage
turn_whole l i h = (laws_of l.kind).whole (state_of l) i h

-- the step of a CPU that has prepared no try goes by what `erase` leaves of the lock
pub turn_erased : (l l' : Lock) (i : ℕ) → erase l ≡ erase l' → is_trying (l.line.stage i) ≡ false → is_trying (l'.line.stage i) ≡ false → ((turn l i).1 ≡ (turn l' i).1) × (erase (turn l i).0 ≡ erase (turn l' i).0)
turn_erased l l' i e not not' =
    let a = (laws_of l.kind).erased (state_of l) i not in
    let b = (laws_of l'.kind).erased (state_of l') i not' in
    (sym a.step ∙ (ap (λ z. (turn z i).1) e ∙ b.step), sym (ap (lock_of l.kind) a.lock) ∙ (ap (λ z. erase (turn z i).0) e ∙ ap (lock_of l'.kind) b.lock))

-- no try, and no preparing of one, moves another CPU; nor does one that finds somebody change the line
pub tries : (l : Lock) (i seen : ℕ) → Tries (definition_of l.kind) (state_of l) i ((definition_of l.kind).attempt (state_of l) i seen)
tries l i seen = (laws_of l.kind).tries (state_of l) i seen

pub prepares : (l : Lock) (i x : ℕ) → x ≢ i → (prepare l i).line.stage x ≡ l.line.stage x
prepares l i x ne = (laws_of l.kind).prepares (state_of l) i x ne

-- the line isn't erased
pub erased_cpus : (l l' : Lock) → erase l ≡ erase l' → l.line.cpus ≡ l'.line.cpus
erased_cpus l l' e = sym ((laws_of l.kind).erased_line (state_of l)).0 ∙ (ap (λ z. z.line.cpus) e ∙ ((laws_of l'.kind).erased_line (state_of l')).0)

-- two locks of one kind that go by one number do so after one step of both
pub count_alike : (l l' : Lock) (i : ℕ) → l.kind ≡ l'.kind → (turn l i).1 ≡ (turn l' i).1 → served l ≡ served l' → served (turn l i).0 ≡ served (turn l' i).0
count_alike l l' i same = at_kind l.kind (λ m. (turn l i).1 ≡ (turn m i).1 → served l ≡ served m → served (turn l i).0 ≡ served (turn m i).0) (λ s. (laws_of l.kind).counts (state_of l) s i) l' (sym same)
