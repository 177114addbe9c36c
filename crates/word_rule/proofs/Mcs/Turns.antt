-- An MCS lock's turns: each leaves a state of the lock, and words that are the state's.
use Rattle.std.proofs.{Common.{◌≡◌, ◌≢◌, ℕ, suc, ◌+◌, ◌*◌, ◌<◌, ◌≤◌, ◌&&◌, not, Bool, true, false, true≢false, cond, eq-eqb, ne_eqb, List, [], ◌∷◌, ◌++◌, length, replicate, get_or, set, refl, sym, ap, ◌∙◌, subst, arith, Option, Some, None}, lemmas.Bool.false_from_ne_true, lemmas.List.{get_or-replicate, length-replicate}}
use mathlib.Core.Option.{some}
use lib.ListN.{get_elem?}
use Rattle.word_rule.specs.{declared.lock_kind.Stage.Stage, declared.lock_kind.Stage.TheVariants.{Idle, Mcs, Trying}, declared.lock_kind.McsStage.TheVariants.{Ready, Behind, Armed, Waiting, Holding, Alone, Leaving, Passing}, Line.{Line, alone_with_it, lined, moved, is_empty, is_first, is_named, last, behind, going, joining, taking, leaving}, LockDefinition.{IsState, IsTied, opening_state}, Locks.holding, Mcs.Acquire.{clear, arm, link}, Mcs.Definition.{mcs_lock, mcs_turn}, Mcs.Release.pass, Mcs.State.{McsLock, word_of, is_armed, is_linked, follower, locked_by, locked_at}, Mcs.Try.{prepare, try_queue}}
use Rattle.word_rule.proofs.{Lists.{one_place, first_at}, LockStates.{stands_at, in_cell}, Moves.{moved_same, each_moved}}
use Rattle.word_rule.specs.declared.machine.step_done.StepDone.TheVariants as steps
use Rattle.word_rule.proofs.LineEnds as ends
use Rattle.word_rule.proofs.Mcs.States as queue
use Rattle.word_rule.proofs.Mcs.Words as words

-- i is alone in the queue, and has the object by its try
abbrev pub tried_by : McsLock → ℕ → McsLock
tried_by l i = record l { line = alone_with_it l.line i (Mcs Holding) }

-- a word names nobody, or one CPU
pub word_none : (o : Option ℕ) → word_of o ≡ 0 → o ≡ None
word_none None e = refl
word_none (Some k) e = absurd (let z : k + 1 ≡ 0 = e in omega (arith, z))

pub word_some : (o : Option ℕ) (q : ℕ) → word_of o ≡ q + 1 → o ≡ Some q
word_some None q e = absurd (let z : 0 ≡ q + 1 = e in omega (arith, z))
word_some (Some k) q e = ap Some (let z : k + 1 ≡ q + 1 = e in omega (arith, z))

pub some_word : (o : Option ℕ) → word_of o ≢ 0 → (q : ℕ) × (o ≡ Some q) × (word_of o ≡ q + 1)
some_word None ne = absurd (ne refl)
some_word (Some q) ne = (q, refl, refl)

-- the turn of a CPU that stands there
pub turned : (l : McsLock) (i : ℕ) (q : Stage) → l.line.stage i ≡ q → mcs_lock.turn l i ≡ mcs_turn l i q
turned l i q there = ap (λ z. mcs_turn l i z) there

-- a look of one that waits: it gets the object where it is the first
pub hits : (l : McsLock) (i : ℕ) → is_first i l.line.cpus ≡ true → mcs_turn l i (Mcs Waiting) ≡ (record l { line = taking l.line i (Mcs Holding) }, steps.Look true)
hits l i is = ap (λ (b : Bool). cond b (record l { line = taking l.line i (Mcs Holding) }, steps.Look true) (l, steps.Look false)) is

pub misses : (l : McsLock) (i : ℕ) → is_first i l.line.cpus ≡ false → mcs_turn l i (Mcs Waiting) ≡ (l, steps.Look false)
misses l i is = ap (λ (b : Bool). cond b (record l { line = taking l.line i (Mcs Holding) }, steps.Look true) (l, steps.Look false)) is

-- an attempt to empty the queue: it succeeds where the last is the one that tries
pub ends_queue : (l : McsLock) (i : ℕ) → is_named i (last l.line.cpus) ≡ true → mcs_turn l i (Mcs Alone) ≡ (record l { line = leaving l.line i }, steps.Empty true)
ends_queue l i is = ap (λ (b : Bool). cond b (record l { line = leaving l.line i }, steps.Empty true) (record l { line = going l.line i (Mcs Leaving) }, steps.Empty false)) is

pub stays_queued : (l : McsLock) (i : ℕ) → is_named i (last l.line.cpus) ≡ false → mcs_turn l i (Mcs Alone) ≡ (record l { line = going l.line i (Mcs Leaving) }, steps.Empty false)
stays_queued l i is = ap (λ (b : Bool). cond b (record l { line = leaving l.line i }, steps.Empty true) (record l { line = going l.line i (Mcs Leaving) }, steps.Empty false)) is

-- where one stands elsewhere, and is as little armed there
locked_going : (l : Line) (n i : ℕ) (p q : Stage) → l.stage i ≡ p → locked_by q i l.cpus ≡ locked_by p i l.cpus → (x : ℕ) → x < n → locked_by (moved l.stage i q x) x l.cpus ≡ locked_at l x
locked_going l n i p q e same = words.locked_moved l.stage n i q l.cpus l.cpus (same ∙ ap (λ z. locked_by z i l.cpus) (sym e)) (λ x _ _. refl)

-- who isn't the first of either queue is locked alike
locked_alike : (q : Stage) (x : ℕ) (cpus cpus' : List ℕ) → is_first x cpus ≡ false → is_first x cpus' ≡ false → locked_by q x cpus ≡ locked_by q x cpus'
locked_alike q x cpus cpus' a b = ap (λ z. cond (is_armed q && not z) 1 0) (a ∙ sym b)

first_longer : (x i p : ℕ) (cpus : List ℕ) → last cpus ≡ Some p → is_first x (cpus ++ i ∷ []) ≡ is_first x cpus
first_longer x i p [] e = cc
first_longer x i p (y ∷ ys) e = refl

free_first_word : (b : Bool) → ◌≡◌ {A = ℕ} (cond (b && not true) 1 0) 0
free_first_word true = refl
free_first_word false = refl

module _ (n : ℕ) (ws : List ℕ) (l : McsLock) (h : IsTied mcs_lock n ws l) where
  -- a step that leaves each word as it was
  read : (l' : McsLock) → IsState mcs_lock n l' → l'.extra ≡ l.extra → last l'.line.cpus ≡ last l.line.cpus → ((x : ℕ) → x < n → locked_at l'.line x ≡ locked_at l.line x) → IsTied mcs_lock n ws l'
  read l' state next tail locked = record { state = state; words = words.words_stay n ws l h.words l' next tail locked }

  pub wide : length ws ≡ 1 + 2 * n
  wide = words.wide n ws l h.words

  pub tail_none : get_or ws 0 0 ≡ 0 → last l.line.cpus ≡ None
  tail_none e = word_none (last l.line.cpus) (sym (words.tail_word n ws l h.words) ∙ e)

  pub tail_some : (p : ℕ) → get_or ws 0 0 ≡ p + 1 → last l.line.cpus ≡ Some p
  tail_some p e = word_some (last l.line.cpus) p (sym (words.tail_word n ws l h.words) ∙ e)

  -- a tail that isn't 0 names the last
  pub tail_names : get_or ws 0 0 ≢ 0 → (p : ℕ) × (last l.line.cpus ≡ Some p) × (get_or ws 0 0 ≡ p + 1)
  tail_names some_one = let tail = words.tail_word n ws l h.words in let t = some_word (last l.line.cpus) (λ e. some_one (tail ∙ e)) in (t.0, t.1, tail ∙ t.2)

  pub tail_small : get_or ws 0 0 ≤ n
  tail_small = subst (λ z. z ≤ n) (sym (words.tail_word n ws l h.words)) (by (last l.line.cpus) refl)
    where
      by : (o : Option ℕ) → last l.line.cpus ≡ o → word_of o ≤ n
      by None e = omega arith
      by (Some p) e = let lt = (ends.last_in mcs_lock n l h.state p e).1 in omega (arith, lt)

  module _ (i : ℕ) (below : i < n) where
    pub clears : l.line.stage i ≡ Idle → IsTied mcs_lock n (set ws (1 + i) 0) (clear l i)
    clears e = record { state = queue.clears n l h.state i below e; words = words.next_stored n ws l h.words (clear l i) i None below refl refl (locked_going l.line n i Idle (Mcs Ready) e refl) }

    pub prepares : l.line.stage i ≡ Idle → IsTied mcs_lock n (set ws (1 + i) 0) (prepare l i)
    prepares e = record { state = queue.prepares n l h.state i below e; words = words.next_stored n ws l h.words (prepare l i) i None below refl refl (locked_going l.line n i Idle Trying e refl) }

    -- one that isn't armed enters an empty queue
    enters_free : (q : Stage) → l.line.stage i ≡ q → 0 ≡ locked_by q i l.line.cpus → l.extra i ≡ None → last l.line.cpus ≡ None → IsTied mcs_lock n (set ws 0 (i + 1)) (record l { line = lined (i ∷ []) true l.line.stage i (Mcs Holding) })
    enters_free q e free clear none =
        let empty = ends.no_last l.line.cpus none in
        record {
          state = queue.enters_first n l h.state i below clear none;
          words = words.tail_stored n ws l h.words (record l { line = lined (i ∷ []) true l.line.stage i (Mcs Holding) }) (i + 1) refl refl
              (words.locked_moved l.line.stage n i (Mcs Holding) l.line.cpus (i ∷ []) (free ∙ ap (λ z. locked_by z i l.line.cpus) (sym e))
              (λ x _ ne. locked_alike (l.line.stage x) x (i ∷ []) l.line.cpus (ne_eqb i x (λ is. ne (sym is))) (ap (is_first x) empty)));
        }

    pub enters_first : l.line.stage i ≡ Mcs Ready → last l.line.cpus ≡ None → IsTied mcs_lock n (set ws 0 (i + 1)) (record l { line = lined (i ∷ []) true l.line.stage i (Mcs Holding) })
    enters_first e none = enters_free (Mcs Ready) e refl (queue.ready_clear n l h.state i below e) none

    pub tries_enter : l.line.stage i ≡ Trying → last l.line.cpus ≡ None → IsTied mcs_lock n (set ws 0 (i + 1)) (tried_by l i)
    tries_enter e none = enters_free Trying e refl (queue.trying_clear n l h.state i below e) none

    -- one that doesn't get the object by its try is idle again
    pub gives_up : l.line.stage i ≡ Trying → IsTied mcs_lock n ws (record l { line = going l.line i Idle })
    gives_up e = read (record l { line = going l.line i Idle }) (queue.gives_up n l h.state i below e) refl refl (locked_going l.line n i Trying Idle e refl)

    pub enters_behind : (p : ℕ) → l.line.stage i ≡ Mcs Ready → last l.line.cpus ≡ Some p → IsTied mcs_lock n (set ws 0 (i + 1)) (record l { line = joining l.line i (Mcs (Behind p)) })
    enters_behind p e there = record {
      state = queue.enters_behind n l h.state i below p e there;
      words = words.tail_stored n ws l h.words (record l { line = joining l.line i (Mcs (Behind p)) }) (i + 1) refl (ap word_of (ends.last_push l.line.cpus i))
          (words.locked_moved l.line.stage n i (Mcs (Behind p)) l.line.cpus (l.line.cpus ++ i ∷ []) (ap (λ z. locked_by z i l.line.cpus) (sym e))
          (λ x _ _. ap (λ z. cond (is_armed (l.line.stage x) && not z) 1 0) (first_longer x i p l.line.cpus there)));
    }

    -- one behind another isn't the first
    not_first : (p at : ℕ) → get_elem? l.line.cpus (suc at) ≡ some i → is_first i l.line.cpus ≡ false
    not_first p at there = false_from_ne_true (is_first i l.line.cpus) (λ first. let k = one_place n l.line.cpus h.state.distinct (suc at) 0 i there (first_at i l.line.cpus first) in absurd (omega (arith, k)))

    pub arms : (p : ℕ) → l.line.stage i ≡ Mcs (Behind p) → IsTied mcs_lock n (set ws (1 + n + i) 1) (arm l i p)
    arms p e =
        let s = stands_at mcs_lock n l h.state i (Mcs (Behind p)) below e in
        record {
          state = queue.arms n l h.state i below p e;
          words = words.locked_stored n ws l h.words (arm l i p) i 1 below refl refl
              (ap (λ z. locked_by z i l.line.cpus) (moved_same l.line.stage i (Mcs (Armed p))) ∙ ap (λ z. cond (not z) 1 0) (not_first p s.at s.there))
              (each_moved l.line.stage (λ x q. x ≢ i → locked_by q x l.line.cpus ≡ locked_at l.line x) n i (Mcs (Armed p)) (λ ne. absurd (ne refl)) (λ x _ _ _. refl));
        }

    pub ahead_below : (p : ℕ) → l.line.stage i ≡ Mcs (Armed p) → p < n
    ahead_below p e = (queue.ahead_of n l h.state i below p None (stands_at mcs_lock n l h.state i (Mcs (Armed p)) below e)).2

    pub links : (p : ℕ) → l.line.stage i ≡ Mcs (Armed p) → IsTied mcs_lock n (set ws (1 + p) (i + 1)) (link l i p)
    links p e = record { state = queue.links n l h.state i below p e; words = words.next_stored n ws l h.words (link l i p) p (Some i) (ahead_below p e) refl refl (locked_going l.line n i (Mcs (Armed p)) (Mcs Waiting) e refl) }

    -- `locked` is 0 exactly where i is the first
    waits_word : l.line.stage i ≡ Mcs Waiting → get_or ws (1 + n + i) 0 ≡ cond (not (is_first i l.line.cpus)) 1 0
    waits_word e = words.locked_word n ws l h.words i below ∙ ap (λ z. locked_by z i l.line.cpus) e

    pub free_first : l.line.stage i ≡ Mcs Waiting → get_or ws (1 + n + i) 0 ≡ 0 → is_first i l.line.cpus ≡ true
    free_first e zero_now = by (is_first i l.line.cpus) (sym (waits_word e) ∙ zero_now)
      where
        by : (b : Bool) → ◌≡◌ {A = ℕ} (cond (not b) 1 0) 0 → b ≡ true
        by true e = refl
        by false e = absurd (let z : 1 ≡ 0 = e in omega (arith, z))

    pub locked_behind : l.line.stage i ≡ Mcs Waiting → get_or ws (1 + n + i) 0 ≢ 0 → is_first i l.line.cpus ≡ false
    locked_behind e some_one = false_from_ne_true (is_first i l.line.cpus) (λ first. some_one (waits_word e ∙ ap (λ z. cond (not z) 1 0) first))

    pub gets : l.line.stage i ≡ Mcs Waiting → is_first i l.line.cpus ≡ true → IsTied mcs_lock n ws (record l { line = taking l.line i (Mcs Holding) })
    gets e first = read (record l { line = taking l.line i (Mcs Holding) }) (queue.gets n l h.state i below e first) refl refl
        (locked_going l.line n i (Mcs Waiting) (Mcs Holding) e (sym (ap (λ z. cond (not z) 1 0) first)))

    -- the holder's `next` names its follower
    pub follower_word : holding (l.line.stage i) ≡ true → get_or ws (1 + i) 0 ≡ word_of (follower l.line)
    follower_word has_it = words.next_word n ws l h.words i below ∙ ap word_of (queue.follower_is n l h.state i below has_it)

    pub sees_nobody : holding (l.line.stage i) ≡ true → get_or ws (1 + i) 0 ≡ 0 → follower l.line ≡ None
    sees_nobody has_it word = word_none (follower l.line) (sym (follower_word has_it) ∙ word)

    pub sees_one : holding (l.line.stage i) ≡ true → get_or ws (1 + i) 0 ≢ 0 → (j : ℕ) × (follower l.line ≡ Some j) × (get_or ws (1 + i) 0 ≡ j + 1)
    sees_one has_it some_one = let word = follower_word has_it in let t = some_word (follower l.line) (λ e. some_one (word ∙ e)) in (t.0, t.1, word ∙ t.2)

    pub next_small : holding (l.line.stage i) ≡ true → get_or ws (1 + i) 0 ≤ n
    next_small has_it = subst (λ z. z ≤ n) (sym (follower_word has_it)) (by (follower l.line) refl)
      where
        by : (o : Option ℕ) → follower l.line ≡ o → word_of o ≤ n
        by None e = omega arith
        by (Some j) e = let lt = in_cell mcs_lock n l h.state 1 j (queue.follower_at n l h.state i below j e) in omega (arith, lt)

    -- one that waits in the second place has linked itself to the holder
    pub waits_linked : (y : ℕ) → holding (l.line.stage i) ≡ true → get_elem? l.line.cpus 1 ≡ some y → l.line.stage y ≡ Mcs Waiting → get_or ws (1 + i) 0 ≡ y + 1
    waits_linked y has_it there waits = words.next_word n ws l h.words i below ∙ ap word_of (queue.next_is n l h.state 0 i y (queue.holder_at n l h.state i below has_it) there ∙ ap (λ q. cond (is_linked q) (Some y) None) waits)

    -- one that has the object goes on, and no word changes
    reads_on : (p q : Stage) → l.line.stage i ≡ p → locked_by q i l.line.cpus ≡ locked_by p i l.line.cpus → IsState mcs_lock n (record l { line = going l.line i q }) → IsTied mcs_lock n ws (record l { line = going l.line i q })
    reads_on p q e same state = read (record l { line = going l.line i q }) state refl refl (locked_going l.line n i p q e same)

    pub saw : (j : ℕ) → l.line.stage i ≡ Mcs Holding → follower l.line ≡ Some j → IsTied mcs_lock n ws (record l { line = going l.line i (Mcs (Passing j)) })
    saw j e f = reads_on (Mcs Holding) (Mcs (Passing j)) e refl (queue.sees n l h.state i below j (ap holding e) f)

    pub saw_again : (j : ℕ) → l.line.stage i ≡ Mcs Leaving → follower l.line ≡ Some j → IsTied mcs_lock n ws (record l { line = going l.line i (Mcs (Passing j)) })
    saw_again j e f = reads_on (Mcs Leaving) (Mcs (Passing j)) e refl (queue.sees n l h.state i below j (ap holding e) f)

    pub sees_none : l.line.stage i ≡ Mcs Holding → IsTied mcs_lock n ws (record l { line = going l.line i (Mcs Alone) })
    sees_none e = reads_on (Mcs Holding) (Mcs Alone) e refl (queue.sees_none n l h.state i below e)

    pub still_none : l.line.stage i ≡ Mcs Leaving → IsTied mcs_lock n ws (record l { line = going l.line i (Mcs Leaving) })
    still_none e = reads_on (Mcs Leaving) (Mcs Leaving) e refl (queue.still_none n l h.state i below e)

    -- the tail names i exactly where i is the last
    pub last_is : get_or ws 0 0 ≡ i + 1 → is_named i (last l.line.cpus) ≡ true
    last_is e = ap (is_named i) (tail_some i e) ∙ eq-eqb i i refl

    pub last_else : get_or ws 0 0 ≢ i + 1 → last l.line.cpus ≢ Some i
    last_else other e = other (words.tail_word n ws l h.words ∙ ap word_of e)

    pub not_named : get_or ws 0 0 ≢ i + 1 → is_named i (last l.line.cpus) ≡ false
    not_named other = by (last l.line.cpus) (last_else other)
      where
        by : (o : Option ℕ) → o ≢ Some i → is_named i o ≡ false
        by None ne = refl
        by (Some k) ne = ne_eqb k i (λ e. ne (ap Some e))

    pub empties : l.line.stage i ≡ Mcs Alone → last l.line.cpus ≡ Some i → IsTied mcs_lock n (set ws 0 0) (record l { line = leaving l.line i })
    empties e there =
        let one = queue.alone_is n l h.state i below e there in
        record {
          state = queue.empties n l h.state i below e there;
          words = words.tail_stored n ws l h.words (record l { line = leaving l.line i }) 0 refl (ap (λ c. word_of (last (behind c))) one)
              (words.locked_moved l.line.stage n i Idle l.line.cpus (behind l.line.cpus) (ap (λ z. locked_by z i l.line.cpus) (sym e))
              (λ x _ ne. locked_alike (l.line.stage x) x (behind l.line.cpus) l.line.cpus (ap (λ c. is_first x (behind c)) one) (ap (is_first x) one ∙ ne_eqb i x (λ is. ne (sym is)))));
        }

    pub stays_on : l.line.stage i ≡ Mcs Alone → last l.line.cpus ≢ Some i → IsTied mcs_lock n ws (record l { line = going l.line i (Mcs Leaving) })
    stays_on e other = reads_on (Mcs Alone) (Mcs Leaving) e refl (queue.stays_on n l h.state i below e other)

    pub passes : (j : ℕ) → l.line.stage i ≡ Mcs (Passing j) → IsTied mcs_lock n (set ws (1 + n + j) 0) (pass l i)
    passes j e =
        let r = queue.passes_to n l h.state i below j e in
        let gone : is_first j (behind l.line.cpus) ≡ true = ap (λ c. is_first j (behind c)) r.1 ∙ eq-eqb j j refl in
        record {
          state = queue.passes n l h.state i below j e;
          words = words.locked_stored n ws l h.words (pass l i) j 0 (queue.passing_below n l h.state i below j e) refl (ap (λ c. last (behind c)) r.1 ∙ sym (ap last r.1))
              (ap (λ z. cond (is_armed (moved l.line.stage i Idle j) && not z) 1 0) gone ∙ free_first_word (is_armed (moved l.line.stage i Idle j)))
              (each_moved l.line.stage (λ x q. x ≢ j → locked_by q x (behind l.line.cpus) ≡ locked_at l.line x) n i Idle
              (λ _. ap (λ z. locked_by z i l.line.cpus) (sym e))
              (λ x _ ne other. locked_alike (l.line.stage x) x (behind l.line.cpus) l.line.cpus (ap (λ c. is_first x (behind c)) r.1 ∙ ne_eqb j x (λ is. other (sym is))) (ap (is_first x) r.1 ∙ ne_eqb i x (λ is. ne (sym is)))));
        }

-- a try that finds nobody in the queue, and one that doesn't
module _ (l : McsLock) (i : ℕ) where
  tried : (cpus : List ℕ) → l.line.cpus ≡ cpus → try_queue l i ≡ cond (is_empty cpus) (tried_by l i, steps.Clear ∷ steps.Enter true ∷ []) (record l { line = going l.line i Idle }, [])
  tried cpus is = ap (λ z. cond (is_empty z) (tried_by l i, steps.Clear ∷ steps.Enter true ∷ []) (record l { line = going l.line i Idle }, [])) is

  pub tries_first : last l.line.cpus ≡ None → try_queue l i ≡ (tried_by l i, steps.Clear ∷ steps.Enter true ∷ [])
  tries_first none = tried [] (ends.no_last l.line.cpus none)

  pub tries_busy : (p : ℕ) → last l.line.cpus ≡ Some p → try_queue l i ≡ (record l { line = going l.line i Idle }, [])
  tries_busy p there = by l.line.cpus refl there
    where
      by : (cpus : List ℕ) → l.line.cpus ≡ cpus → last cpus ≡ Some p → try_queue l i ≡ (record l { line = going l.line i Idle }, [])
      by [] is e = cc
      by (x ∷ xs) is e = tried (x ∷ xs) is

-- an MCS lock before the first step, and its words
pub starts_mcs : (n first : ℕ) (ws : List ℕ) → ws ≡ replicate (1 + 2 * n) 0 → IsTied mcs_lock n ws (opening_state mcs_lock first)
starts_mcs n first ws is = record {
  state = record { distinct = tt; busy = λ e. absurd (true≢false (sym e)); stood = λ x below. refl; extra = λ p _. refl };
  words = words.are n (opening_state mcs_lock first) ws (ap length is ∙ length-replicate (1 + 2 * n) 0) (zeros 0 (omega arith)) (λ x lt. zeros (1 + x) (omega (arith, lt))) (λ x lt. zeros (1 + n + x) (omega (arith, lt)));
}
  where
    zeros : (i : ℕ) → i < 1 + 2 * n → get_or ws i 0 ≡ 0
    zeros i lt = ap (λ z. get_or z i 0) is ∙ get_or-replicate (1 + 2 * n) i 0 0 lt
