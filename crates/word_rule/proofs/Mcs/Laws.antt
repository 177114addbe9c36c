-- What an MCS lock proves of its definition.
use Rattle.std.proofs.{Common.{◌≡◌, ◌≢◌, ℕ, ◌<◌, ◌==◌, Bool, true, false, true≢false, cond, List, [], ◌∷◌, ◌++◌, eq-eqb, refl, sym, ap, ◌∙◌, subst, Option, Some, None}, lemmas.Bool.eqb-true}
use Rattle.word_rule.specs.{declared.machine.step_done.StepDone.StepDone, declared.lock_kind.Stage.Stage, declared.lock_kind.Stage.TheVariants.{Idle, Mcs, Trying}, declared.lock_kind.McsStage.McsStage, declared.lock_kind.McsStage.TheVariants.{Ready, Behind, Armed, Waiting, Holding, Alone, Leaving, Passing}, Line.{behind, is_first, is_named, last, second, going, leaving, taking}, LockDefinition.IsState, Locks.holding, Mcs.Acquire.enter, Mcs.Definition.{mcs_lock, mcs_turn}, Mcs.Release.see, Mcs.State.{McsLock, follower, if_linked, naming, erased_next, untried, without_tries}}
use Rattle.word_rule.proofs.{LockInterface.{Goes, SameTurn, LockLaws, NoneTries, is_idle, is_trying, moved_whole}, Lists.split_line, LockStates.stands_at, Mcs.Erased.{Alike, erased_twice, erased_moved, next_erased, next_twice, linked_erased, untried_twice}, Mcs.Stands.{outside, first_if}, Mcs.Tries.tries, Mcs.Turns.starts_mcs, Moves.moved_else}
use Rattle.word_rule.specs.declared.machine.step_done.StepDone.TheVariants as steps
use Rattle.word_rule.proofs.LineEnds as ends
use Rattle.word_rule.proofs.Mcs.States as queue

module _ (l : McsLock) (i : ℕ) where
  -- a look, by whether i is the first; an attempt to empty the queue, by whether it is the last
  abbrev pub Looked : Bool → McsLock × StepDone
  Looked b = cond b (record l { line = taking l.line i (Mcs Holding) }, steps.Look true) (l, steps.Look false)

  abbrev pub Emptied : Bool → McsLock × StepDone
  Emptied b = cond b (record l { line = leaving l.line i }, steps.Empty true) (record l { line = going l.line i (Mcs Leaving) }, steps.Empty false)

module _ (n : ℕ) (l : McsLock) (i : ℕ) (h : IsState mcs_lock n l) (below : i < n) where
  abbrev GoesTo : McsLock × StepDone → Type 0
  GoesTo = Goes mcs_lock n l i

  enter_goes : l.line.stage i ≡ Mcs Ready → (o : Option ℕ) → last l.line.cpus ≡ o → GoesTo (enter l i o)
  enter_goes e None f = record { state = queue.enters_first n l h i below (queue.ready_clear n l h i below e) f; line = ap (λ cpus. cpus ++ i ∷ []) (sym (ends.no_last l.line.cpus f)) }
  enter_goes e (Some p) f = record { state = queue.enters_behind n l h i below p e f; line = refl }

  look_goes : l.line.stage i ≡ Mcs Waiting → (b : Bool) → is_first i l.line.cpus ≡ b → GoesTo (Looked l i b)
  look_goes e true f = record { state = queue.gets n l h i below e f; line = refl }
  look_goes e false f = record { state = h; line = refl }

  see_goes : (otherwise : Stage) → holding (l.line.stage i) ≡ true → IsState mcs_lock n (record l { line = going l.line i otherwise }) → (o : Option ℕ) → follower l.line ≡ o → GoesTo (see l i otherwise o)
  see_goes otherwise has_it none None f = record { state = none; line = refl }
  see_goes otherwise has_it none (Some j) f = record { state = queue.sees n l h i below j has_it f; line = refl }

  empty_goes : l.line.stage i ≡ Mcs Alone → (b : Bool) → is_named i (last l.line.cpus) ≡ b → GoesTo (Emptied l i b)
  empty_goes e true f =
      let there = that (last l.line.cpus) f in
      record { state = queue.empties n l h i below e there; line = split_line i [] l.line.cpus (queue.alone_is n l h i below e there) }
    where
      that : (o : Option ℕ) → is_named i o ≡ true → o ≡ Some i
      that None f = cc
      that (Some k) f = ap Some (eqb-true k i f)
  empty_goes e false f = record { state = queue.stays_on n l h i below e (λ g. true≢false (sym (ends.names_itself i) ∙ (sym (ap (is_named i) g) ∙ f))); line = refl }

  goes_by : (q : Stage) → l.line.stage i ≡ q → GoesTo (mcs_turn l i q)
  goes_by Idle e = record { state = queue.clears n l h i below e; line = refl }
  goes_by (Mcs Ready) e = enter_goes e (last l.line.cpus) refl
  goes_by (Mcs (Behind p)) e = record { state = queue.arms n l h i below p e; line = refl }
  goes_by (Mcs (Armed p)) e = record { state = queue.links n l h i below p e; line = refl }
  goes_by (Mcs Waiting) e = look_goes e (is_first i l.line.cpus) refl
  goes_by (Mcs Holding) e = see_goes (Mcs Alone) (ap holding e) (queue.sees_none n l h i below e) (follower l.line) refl
  goes_by (Mcs Alone) e = empty_goes e (is_named i (last l.line.cpus)) refl
  goes_by (Mcs Leaving) e = see_goes (Mcs Leaving) (ap holding e) (queue.still_none n l h i below e) (follower l.line) refl
  goes_by (Mcs (Passing j)) e = let r = queue.passes_to n l h i below j e in record { state = queue.passes n l h i below j e; line = split_line i (j ∷ r.0) l.line.cpus r.1 }
  goes_by q e = record { state = h; line = refl }

  see_acts : (q : Stage) (o : Option ℕ) → is_idle (see l i q o).1 ≡ false
  see_acts q None = refl
  see_acts q (Some j) = refl

  enter_acts : (o : Option ℕ) → is_idle (enter l i o).1 ≡ false
  enter_acts None = refl
  enter_acts (Some p) = refl

  look_acts : (b : Bool) → is_idle (Looked l i b).1 ≡ false
  look_acts true = refl
  look_acts false = refl

  empty_acts : (b : Bool) → is_idle (Emptied l i b).1 ≡ false
  empty_acts true = refl
  empty_acts false = refl

  acts_by : (q : Stage) → l.line.stage i ≡ q → is_trying q ≡ false → is_idle (mcs_turn l i q).1 ≡ false
  acts_by Idle e not = refl
  acts_by (Mcs Ready) e not = enter_acts (last l.line.cpus)
  acts_by (Mcs (Behind p)) e not = refl
  acts_by (Mcs (Armed p)) e not = refl
  acts_by (Mcs Waiting) e not = look_acts (is_first i l.line.cpus)
  acts_by (Mcs Holding) e not = see_acts (Mcs Alone) (follower l.line)
  acts_by (Mcs Alone) e not = empty_acts (is_named i (last l.line.cpus))
  acts_by (Mcs Leaving) e not = see_acts (Mcs Leaving) (follower l.line)
  acts_by (Mcs (Passing j)) e not = refl
  acts_by Trying e not = absurd (true≢false not)
  acts_by q e not = absurd (stands_at mcs_lock n l h i q below e)

module _ (l : McsLock) (i : ℕ) (h : NoneTries l.line.stage) where
  abbrev Still : McsLock × StepDone → Type 0
  Still r = NoneTries r.0.line.stage

  still : (q : Stage) → is_trying q ≡ false → NoneTries (going l.line i q).stage
  still q mine = moved_whole l.line.stage i q h mine

  look_whole : (b : Bool) → Still (Looked l i b)
  look_whole true = still (Mcs Holding) refl
  look_whole false = h

  enter_whole : (o : Option ℕ) → Still (enter l i o)
  enter_whole None = still (Mcs Holding) refl
  enter_whole (Some p) = still (Mcs (Behind p)) refl

  see_whole : (q : Stage) → is_trying q ≡ false → (o : Option ℕ) → Still (see l i q o)
  see_whole q mine None = still q mine
  see_whole q mine (Some j) = still (Mcs (Passing j)) refl

  empty_whole : (b : Bool) → Still (Emptied l i b)
  empty_whole true = still Idle refl
  empty_whole false = still (Mcs Leaving) refl

  whole_by : (q : Stage) → Still (mcs_turn l i q)
  whole_by Idle = still (Mcs Ready) refl
  whole_by (Mcs Ready) = enter_whole (last l.line.cpus)
  whole_by (Mcs (Behind p)) = still (Mcs (Armed p)) refl
  whole_by (Mcs (Armed p)) = still (Mcs Waiting) refl
  whole_by (Mcs Waiting) = look_whole (is_first i l.line.cpus)
  whole_by (Mcs Holding) = see_whole (Mcs Alone) refl (follower l.line)
  whole_by (Mcs Alone) = empty_whole (is_named i (last l.line.cpus))
  whole_by (Mcs Leaving) = see_whole (Mcs Leaving) refl (follower l.line)
  whole_by (Mcs (Passing j)) = still Idle refl
  whole_by q = h

module _ (l : McsLock) (i : ℕ) where
  abbrev P : McsLock
  P = without_tries l

  abbrev Same : McsLock × StepDone → McsLock × StepDone → Type 0
  Same = SameTurn mcs_lock

  alike : (x : ℕ) → x ≢ i → Alike (l.line.stage x) (P.line.stage x) (l.extra x) (P.extra x)
  alike x ne = record { stands = untried_twice (l.line.stage x); names = next_erased (l.line.stage x) (P.extra x) ∙ next_twice (l.line.stage x) (l.extra x) }

  -- the CPU goes elsewhere, and no `next` changes
  goes : (cpus : List ℕ) (out : Bool) (q : Stage) → erased_next q (P.extra i) ≡ erased_next q (l.extra i)
      → without_tries record { line = record { cpus = cpus; out = out; stage = (going P.line i q).stage }; extra = P.extra } ≡ without_tries record { line = record { cpus = cpus; out = out; stage = (going l.line i q).stage }; extra = l.extra }
  goes cpus out q names = erased_moved i cpus out l.line.stage P.line.stage q q l.extra P.extra record { stands = refl; names = names } alike

  -- `erase` keeps what the `next` of one in the queue names
  names_still : (q : McsStage) → l.line.stage i ≡ Mcs q → P.extra i ≡ l.extra i
  names_still q e = ap (λ z. erased_next z (l.extra i)) e

  -- a `next` changes
  named : (p : ℕ) (o : Option ℕ) (x : ℕ) → x ≢ i → Alike (l.line.stage x) (P.line.stage x) (naming l.extra p o x) (naming P.extra p o x)
  named p o x ne = record { stands = untried_twice (l.line.stage x); names = by (x == p) }
    where
      by : (b : Bool) → erased_next (P.line.stage x) (cond b o (P.extra x)) ≡ erased_next (l.line.stage x) (cond b o (l.extra x))
      by true = next_erased (l.line.stage x) o
      by false = next_erased (l.line.stage x) (P.extra x) ∙ next_twice (l.line.stage x) (l.extra x)

  look_same : l.line.stage i ≡ Mcs Waiting → (b : Bool) → Same (Looked l i b) (Looked P i b)
  look_same e true = record { step = refl; lock = goes l.line.cpus true (Mcs Holding) (names_still Waiting e) }
  look_same e false = record { step = refl; lock = erased_twice l }

  enter_same : l.line.stage i ≡ Mcs Ready → (o : Option ℕ) → Same (enter l i o) (enter P i o)
  enter_same e None = record { step = refl; lock = goes (i ∷ []) true (Mcs Holding) (names_still Ready e) }
  enter_same e (Some p) = record { step = refl; lock = goes (l.line.cpus ++ i ∷ []) l.line.out (Mcs (Behind p)) (names_still Ready e) }

  follower_same : follower P.line ≡ follower l.line
  follower_same = by (second l.line.cpus)
    where
      by : (o : Option ℕ) → if_linked P.line o ≡ if_linked l.line o
      by None = refl
      by (Some j) = ap (λ b. cond b (Some j) None) (linked_erased (l.line.stage j))

  see_same : (q r : McsStage) → l.line.stage i ≡ Mcs q → Same (see l i (Mcs r) (follower l.line)) (see P i (Mcs r) (follower P.line))
  see_same q r e = subst (λ o. Same (see l i (Mcs r) (follower l.line)) (see P i (Mcs r) o)) (sym follower_same) (by (follower l.line))
    where
      by : (o : Option ℕ) → Same (see l i (Mcs r) o) (see P i (Mcs r) o)
      by None = record { step = refl; lock = goes l.line.cpus l.line.out (Mcs r) (names_still q e) }
      by (Some j) = record { step = refl; lock = goes l.line.cpus l.line.out (Mcs (Passing j)) (names_still q e) }

  empty_same : l.line.stage i ≡ Mcs Alone → (b : Bool) → Same (Emptied l i b) (Emptied P i b)
  empty_same e true = record { step = refl; lock = goes (behind l.line.cpus) false Idle refl }
  empty_same e false = record { step = refl; lock = goes l.line.cpus l.line.out (Mcs Leaving) (names_still Alone e) }

  -- a cleared `next` names nobody
  cleared : (next : ℕ → Option ℕ) → naming next i None i ≡ None
  cleared next = ap (λ b. cond b None (next i)) (eq-eqb i i refl)

  links_same : (p : ℕ) → l.line.stage i ≡ Mcs (Armed p) → naming P.extra p (Some i) i ≡ naming l.extra p (Some i) i
  links_same p e = by (i == p)
    where
      by : (b : Bool) → cond b (Some i) (P.extra i) ≡ cond b (Some i) (l.extra i)
      by true = refl
      by false = names_still (Armed p) e

  erased_by : (q : Stage) → l.line.stage i ≡ q → is_trying q ≡ false → Same (mcs_turn l i q) (mcs_turn P i (untried q))
  erased_by Idle e not = record {
    step = refl;
    lock = erased_moved i l.line.cpus l.line.out l.line.stage P.line.stage (Mcs Ready) (Mcs Ready) (naming l.extra i None) (naming P.extra i None) record { stands = refl; names = cleared P.extra ∙ sym (cleared l.extra) } (named i None);
  }
  erased_by (Mcs Ready) e not = enter_same e (last l.line.cpus)
  erased_by (Mcs (Behind p)) e not = record { step = refl; lock = goes l.line.cpus l.line.out (Mcs (Armed p)) (names_still (Behind p) e) }
  erased_by (Mcs (Armed p)) e not = record {
    step = refl;
    lock = erased_moved i l.line.cpus l.line.out l.line.stage P.line.stage (Mcs Waiting) (Mcs Waiting) (naming l.extra p (Some i)) (naming P.extra p (Some i)) record { stands = refl; names = links_same p e } (named p (Some i));
  }
  erased_by (Mcs Waiting) e not = look_same e (is_first i l.line.cpus)
  erased_by (Mcs Holding) e not = see_same Holding Alone e
  erased_by (Mcs Alone) e not = empty_same e (is_named i (last l.line.cpus))
  erased_by (Mcs Leaving) e not = see_same Leaving Leaving e
  erased_by (Mcs (Passing j)) e not = record { step = refl; lock = goes (behind l.line.cpus) false Idle refl }
  erased_by Trying e not = absurd (true≢false not)
  erased_by q e not = record { step = refl; lock = erased_twice l }

pub mcs_laws : LockLaws mcs_lock
mcs_laws = record {
  begins = λ n first few. (starts_mcs n first _ refl).state;
  opens_erased = λ first first'. refl;
  few_fit = λ n few. refl;
  fits = λ n l h. refl;
  outside = λ n. outside;
  first = λ n. first_if;
  holds = λ ticket. refl;
  goes = λ n l i h below. goes_by n l i h below (l.line.stage i) refl;
  whole = λ l i h. whole_by l i h (l.line.stage i);
  acts = λ n l i h below not. acts_by n l i h below (l.line.stage i) refl not;
  erased_twice = erased_twice;
  erased_line = λ l. (refl, refl);
  erased = λ l i not. erased_by l i (l.line.stage i) refl not;
  counts = λ l l' i step same. refl;
  tries = λ l i ticket. tries l i;
  prepares = λ l i x ne. moved_else l.line.stage i Trying x ne;
}
