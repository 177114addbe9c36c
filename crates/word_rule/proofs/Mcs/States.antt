-- An MCS lock's turns, apart from words: each leaves a state of the lock.
use Rattle.std.proofs.Common.{◌≡◌, ◌≢◌, inl, ⊎_elim, ℕ, suc, ◌<◌, Bool, true, false, true≢false, cond, List, [], ◌∷◌, ◌++◌, length, refl, sym, ap, ◌∙◌, subst, arith, length-append, Option, Some, None}
use mathlib.{Core.Logic.dite, Core.Option.{some, some-injective, some-ne-none}}
use native.Mathlib.Decide.{ℕ_discrete}
use lib.ListN.{get_elem?}
use Rattle.atomic_table.proofs.Lists.{at_longer, at_last}
use Rattle.event_log.specs.Distinct.{has, AreDistinctBelow}
use Rattle.event_log.proofs.Distinct.{distinct_push}
use Rattle.word_rule.specs.{declared.lock_kind.Stage.Stage, declared.lock_kind.Stage.TheVariants.{Idle, Mcs, Trying}, declared.lock_kind.McsStage.TheVariants.{Ready, Behind, Armed, Waiting, Holding, Alone, Leaving, Passing}, Line.{is_first, lined, last, second, behind, going, joining, taking, leaving, First}, LockDefinition.IsState, Locks.holding, Mcs.Acquire.{clear, arm, link}, Mcs.Definition.mcs_lock, Mcs.Release.pass, Mcs.State.{McsLock, if_linked, is_linked, follower, naming, Follows, StandsInQueue}, Mcs.Try.prepare}
use Rattle.word_rule.proofs.{LineEnds.{at_end, last_at, last_in, last_push, no_last}, Lists.{has_at, at_below, one_place, one_at, not_at, two_are, one_is, first_at, at_first}, LockStates.{stands_at, in_cell, restaged}, Mcs.Stands.{first_if, naming_same, naming_else, none_some, other_next, longer_queue, first_queue, taken_by, emptied_by, passed_by, stands_in}, Moves.each_moved}

second_at : (cpus : List ℕ) (j : ℕ) → second cpus ≡ Some j → get_elem? cpus 1 ≡ some j
second_at [] j e = cc
second_at (k ∷ []) j e = cc
second_at (k ∷ y ∷ ys) j e = ap some (let f : y ≡ j = cc in f)

module _ (n : ℕ) (l : McsLock) (h : IsState mcs_lock n l) where
  -- what one that is first, or behind another, says of the `next` of the one before it
  pub next_is : (i p j : ℕ) → get_elem? l.line.cpus i ≡ some p → get_elem? l.line.cpus (suc i) ≡ some j → l.extra p ≡ cond (is_linked (l.line.stage j)) (Some j) None
  next_is i p j ahead there = ⊎_elim {0, 0, 0}
      (λ t. let f = t.1 in let e = one_place n l.line.cpus h.distinct (suc i) 0 j there f.there in absurd (omega arith))
      (λ t. let f = t.1 in
      let e = one_place n l.line.cpus h.distinct (suc i) (suc f.at) j there f.there in
      let k : f.at ≡ i = omega arith in
      ap l.extra (sym (one_at l.line.cpus t.0 p k f.ahead ahead)) ∙ f.link)
      (stands_in l.extra l.line.cpus l.line.out j (l.line.stage j) (has_at l.line.cpus (suc i) j there) (h.stood j (in_cell mcs_lock n l h (suc i) j there)))

  module _ (i : ℕ) (below : i < n) where
    abbrev here : (q : Stage) → l.line.stage i ≡ q → StandsInQueue l.line.cpus l.line.out i l.extra q
    here q e = stands_at mcs_lock n l h i q below e

    -- one that is idle clears its `next`, and stands where only that is asked for
    clears_to : (q : Stage) → ((next : ℕ → Option ℕ) → has i l.line.cpus ≡ false → next i ≡ None → StandsInQueue l.line.cpus l.line.out i next q) → l.line.stage i ≡ Idle → IsState mcs_lock n (record l { line = going l.line i q; extra = naming l.extra i None })
    clears_to to there e =
        let outside = stands_at mcs_lock n l h i Idle below e in
        let queued : (k y : ℕ) → get_elem? l.line.cpus k ≡ some y → naming l.extra i None y ≡ l.extra y = λ k y there. naming_else l.extra i None y (λ is. not_at l.line.cpus k i y outside there (sym is)) in
        record {
          distinct = h.distinct;
          busy = h.busy;
          stood = each_moved l.line.stage (λ x q. StandsInQueue l.line.cpus l.line.out x (naming l.extra i None) q) n i to
              (there (naming l.extra i None) outside (naming_same l.extra i None))
              (λ x in_it ne. other_next l.extra (naming l.extra i None) l.line.cpus l.line.out x (λ k y there _. queued k y there) (λ _. naming_else l.extra i None x ne) (λ _ _. naming_else l.extra i None x ne) (l.line.stage x) (h.stood x in_it));
          extra = λ p e. let t = last_at l.line.cpus p e in queued t.0 p t.1 ∙ h.extra p e;
        }

    pub clears : l.line.stage i ≡ Idle → IsState mcs_lock n (clear l i)
    clears = clears_to (Mcs Ready) (λ _ outside named. (outside, named))

    pub prepares : l.line.stage i ≡ Idle → IsState mcs_lock n (prepare l i)
    prepares = clears_to Trying (λ _ outside named. (outside, named))

    pub enters_first : l.extra i ≡ None → last l.line.cpus ≡ None → IsState mcs_lock n (record l { line = lined (i ∷ []) true l.line.stage i (Mcs Holding) })
    enters_first clear none =
        let empty : l.line.cpus ≡ [] = no_last l.line.cpus none in
        record {
          distinct = (below, refl, tt);
          busy = λ _. omega arith;
          stood = each_moved l.line.stage (λ x q. StandsInQueue (i ∷ []) true x l.extra q) n i (Mcs Holding)
              record { there = refl; object = refl }
              (λ x in_it ne. first_queue l.extra l.line.out true x i ne (l.line.stage x) (subst (λ (cpus : List ℕ). StandsInQueue cpus l.line.out x l.extra (l.line.stage x)) empty (h.stood x in_it)));
          extra = λ p e. let same : i ≡ p = cc in subst (λ (z : ℕ). l.extra z ≡ None) same clear;
        }

    -- what one has cleared names nobody
    pub ready_clear : l.line.stage i ≡ Mcs Ready → l.extra i ≡ None
    ready_clear e = let s = here (Mcs Ready) e in s.1

    pub trying_clear : l.line.stage i ≡ Trying → l.extra i ≡ None
    trying_clear e = let s = here Trying e in s.1

    -- the one that is last is another than one that prepares a try
    pub trying_last : (p : ℕ) → l.line.stage i ≡ Trying → last l.line.cpus ≡ Some p → p ≢ i
    trying_last p e there is = let s = here Trying e in true≢false (sym (last_in mcs_lock n l h p there).0 ∙ (ap (λ z. has z l.line.cpus) is ∙ s.0))

    -- the one that is last is another than one that isn't in the queue yet
    pub other_last : (p : ℕ) → l.line.stage i ≡ Mcs Ready → last l.line.cpus ≡ Some p → p ≢ i
    other_last p e there is = let s = here (Mcs Ready) e in true≢false (sym (last_in mcs_lock n l h p there).0 ∙ (ap (λ z. has z l.line.cpus) is ∙ s.0))

    pub gives_up : l.line.stage i ≡ Trying → IsState mcs_lock n (record l { line = going l.line i Idle })
    gives_up e = let s = here Trying e in restaged mcs_lock n l h i Idle s.0

    pub enters_behind : (p : ℕ) → l.line.stage i ≡ Mcs Ready → last l.line.cpus ≡ Some p → IsState mcs_lock n (record l { line = joining l.line i (Mcs (Behind p)) })
    enters_behind p e there =
        let s = here (Mcs Ready) e in
        let t = last_at l.line.cpus p there in
        record {
          distinct = distinct_push n l.line.cpus i h.distinct below s.0;
          busy = λ _. omega (arith, length-append l.line.cpus (i ∷ []));
          stood = each_moved l.line.stage (λ x q. StandsInQueue (l.line.cpus ++ i ∷ []) l.line.out x l.extra q) n i (Mcs (Behind p))
              record { at = t.0; ahead = at_longer l.line.cpus (i ∷ []) t.0 p t.1; there = at_last l.line.cpus i (suc t.0) t.2; link = h.extra p there }
              (λ x in_it ne. longer_queue l.extra l.line.cpus l.line.out x i ne (l.line.stage x) (h.stood x in_it));
          extra = λ y f. let same : i ≡ y = some_same (sym (last_push l.line.cpus i) ∙ f) in subst (λ (z : ℕ). l.extra z ≡ None) same s.1;
        }
      where
        some_same : {y : ℕ} → ◌≡◌ {A = Option ℕ} (Some i) (Some y) → i ≡ y
        some_same e = cc

    pub arms : (p : ℕ) → l.line.stage i ≡ Mcs (Behind p) → IsState mcs_lock n (arm l i p)
    arms p e = restaged mcs_lock n l h i (Mcs (Armed p)) (here (Mcs (Behind p)) e)

    -- one that i is behind is another, in line
    pub ahead_of : (p : ℕ) (named : Option ℕ) → Follows l.line.cpus i l.extra p named → (has p l.line.cpus ≡ true) × (p ≢ i) × (p < n)
    ahead_of p named s = (has_at l.line.cpus s.at p s.ahead, (λ e. let k = one_place n l.line.cpus h.distinct s.at (suc s.at) i (s.ahead ∙ ap some e) s.there in absurd (omega arith)), in_cell mcs_lock n l h s.at p s.ahead)

    pub links : (p : ℕ) → l.line.stage i ≡ Mcs (Armed p) → IsState mcs_lock n (link l i p)
    links p e =
        let s = here (Mcs (Armed p)) e in
        let next' : ℕ → Option ℕ = naming l.extra p (Some i) in
        let place_of : (k y : ℕ) → get_elem? l.line.cpus k ≡ some y → y ≡ p → k ≡ s.at = λ k y there e. one_place n l.line.cpus h.distinct k s.at p (there ∙ ap some e) s.ahead in
        record {
          distinct = h.distinct;
          busy = h.busy;
          stood = each_moved l.line.stage (λ x q. StandsInQueue l.line.cpus l.line.out x next' q) n i (Mcs Waiting)
              (inl (p, record { at = s.at; ahead = s.ahead; there = s.there; link = naming_same l.extra p (Some i) }))
              (λ x in_it ne. other_next l.extra next' l.line.cpus l.line.out x
              (λ k y ahead there. naming_else l.extra p (Some i) y (λ is_p. ne (one_at l.line.cpus x i (ap suc (place_of k y ahead is_p)) there s.there)))
              (λ absent. naming_else l.extra p (Some i) x (not_at l.line.cpus s.at x p absent s.ahead))
              (λ j named. naming_else l.extra p (Some i) x (λ is_p. none_some (l.extra x) j (ap l.extra is_p ∙ s.link) named))
              (l.line.stage x) (h.stood x in_it));
          extra = λ y f. let t = last_at l.line.cpus y f in
              naming_else l.extra p (Some i) y (λ is_p. let k = place_of t.0 y t.1 is_p in let g = at_below l.line.cpus (suc s.at) i s.there in let end = t.2 in absurd (omega arith)) ∙ h.extra y f;
        }

    -- one that waits is the first, and the object is at home, or another is ahead
    pub free : l.line.stage i ≡ Mcs Waiting → is_first i l.line.cpus ≡ true → First l.line.cpus l.line.out i false
    free e first = ⊎_elim {0, 0, 0}
        (λ t. let f = t.1 in let k = one_place n l.line.cpus h.distinct (suc f.at) 0 i f.there (first_at i l.line.cpus first) in absurd (omega (arith, k)))
        (λ f. f)
        (here (Mcs Waiting) e)

    pub ahead : l.line.stage i ≡ Mcs Waiting → is_first i l.line.cpus ≡ false → (q : ℕ) × (has q l.line.cpus ≡ true) × (q ≢ i)
    ahead e not_first = ⊎_elim {0, 0, 0}
        (λ t. let b = ahead_of t.0 (Some i) t.1 in (t.0, b.0, b.1))
        (λ f. absurd (true≢false (sym (at_first i l.line.cpus f.there) ∙ not_first)))
        (here (Mcs Waiting) e)

    pub gets : l.line.stage i ≡ Mcs Waiting → is_first i l.line.cpus ≡ true → IsState mcs_lock n (record l { line = taking l.line i (Mcs Holding) })
    gets e first =
        let f = free e first in
        let some_one = at_below l.line.cpus 0 i f.there in
        record {
          distinct = h.distinct;
          busy = λ _. some_one;
          stood = each_moved l.line.stage (λ x q. StandsInQueue l.line.cpus true x l.extra q) n i (Mcs Holding)
              record { there = f.there; object = refl }
              (λ x in_it ne. taken_by l.extra l.line.cpus x i ne f.there (l.line.stage x) (subst (λ (o : Bool). StandsInQueue l.line.cpus o x l.extra (l.line.stage x)) f.object (h.stood x in_it)));
          extra = h.extra;
        }

    first_holds : holding (l.line.stage i) ≡ true → First l.line.cpus l.line.out i true
    first_holds has_it = first_if l.line.cpus l.line.out i l.extra (l.line.stage i) has_it (h.stood i below)

    -- the holder is the first, and its `next` names its follower
    pub holder_at : holding (l.line.stage i) ≡ true → get_elem? l.line.cpus 0 ≡ some i
    holder_at has_it = let f = first_holds has_it in f.there

    pub follower_is : holding (l.line.stage i) ≡ true → l.extra i ≡ follower l.line
    follower_is has_it = by (second l.line.cpus) refl
      where
        only : (cpus : List ℕ) → get_elem? cpus 0 ≡ some i → second cpus ≡ None → last cpus ≡ Some i
        only [] head e = absurd (some-ne-none i (sym head))
        only (k ∷ []) head e = ap Some (some-injective k i head)
        only (k ∷ j ∷ js) head e = cc

        by : (o : Option ℕ) → second l.line.cpus ≡ o → l.extra i ≡ follower l.line
        by None e = h.extra i (only l.line.cpus (holder_at has_it) e) ∙ ap (if_linked l.line) (sym e)
        by (Some j) e = next_is 0 i j (holder_at has_it) (second_at l.line.cpus j e) ∙ ap (if_linked l.line) (sym e)

    -- a follower that is named is the second
    pub follower_at : (j : ℕ) → follower l.line ≡ Some j → get_elem? l.line.cpus 1 ≡ some j
    follower_at j e = by (second l.line.cpus) refl
      where
        that : (k : ℕ) (b : Bool) → cond b (Some k) None ≡ Some j → k ≡ j
        that k true e = cc
        that k false e = cc

        by : (o : Option ℕ) → second l.line.cpus ≡ o → get_elem? l.line.cpus 1 ≡ some j
        by None f = none_some (follower l.line) j (ap (if_linked l.line) f) e
        by (Some k) f = second_at l.line.cpus k f ∙ ap some (that k (is_linked (l.line.stage k)) (sym (ap (if_linked l.line) f) ∙ e))

    pub sees : (j : ℕ) → holding (l.line.stage i) ≡ true → follower l.line ≡ Some j → IsState mcs_lock n (record l { line = going l.line i (Mcs (Passing j)) })
    sees j has_it f = restaged mcs_lock n l h i (Mcs (Passing j)) (first_holds has_it, follower_at j f, follower_is has_it ∙ f)

    pub sees_none : l.line.stage i ≡ Mcs Holding → IsState mcs_lock n (record l { line = going l.line i (Mcs Alone) })
    sees_none e = restaged mcs_lock n l h i (Mcs Alone) (here (Mcs Holding) e)

    -- a leaving holder that sees nobody stays where it is
    pub still_none : l.line.stage i ≡ Mcs Leaving → IsState mcs_lock n (record l { line = going l.line i (Mcs Leaving) })
    still_none e = restaged mcs_lock n l h i (Mcs Leaving) (here (Mcs Leaving) e)

    -- the last, who has the object, is alone
    pub alone_is : l.line.stage i ≡ Mcs Alone → last l.line.cpus ≡ Some i → l.line.cpus ≡ i ∷ []
    alone_is e there =
        let head = holder_at (ap holding e) in
        let t = last_at l.line.cpus i there in
        let end : t.0 ≡ 0 = one_place n l.line.cpus h.distinct t.0 0 i t.1 head in
        one_is l.line.cpus i head (t.2 ∙ ap suc end)

    pub empties : l.line.stage i ≡ Mcs Alone → last l.line.cpus ≡ Some i → IsState mcs_lock n (record l { line = leaving l.line i })
    empties e there =
        let one = alone_is e there in
        subst (λ (cpus : List ℕ). IsState mcs_lock n (record l { line = lined cpus false l.line.stage i Idle })) (sym (ap behind one)) record {
          distinct = tt;
          busy = λ e. absurd (true≢false (sym e));
          stood = each_moved l.line.stage (λ x q. StandsInQueue [] false x l.extra q) n i Idle refl
              (λ x in_it ne. emptied_by l.extra l.line.out x i ne (l.line.stage x) (subst (λ (cpus : List ℕ). StandsInQueue cpus l.line.out x l.extra (l.line.stage x)) one (h.stood x in_it)));
          extra = λ p e. cc;
        }

    -- where another is last, there is more than one
    pub more : l.line.stage i ≡ Mcs Alone → last l.line.cpus ≢ Some i → 1 < length l.line.cpus
    more e other =
        let s = here (Mcs Alone) e in
        let some_one = at_below l.line.cpus 0 i s.there in
        dite (ℕ_discrete (length l.line.cpus) 1) (λ one. absurd (other (at_end l.line.cpus 0 i s.there one))) (λ not. omega arith)

    pub stays_on : l.line.stage i ≡ Mcs Alone → last l.line.cpus ≢ Some i → IsState mcs_lock n (record l { line = going l.line i (Mcs Leaving) })
    stays_on e other = restaged mcs_lock n l h i (Mcs Leaving) (here (Mcs Alone) e, more e other)

    -- the follower that i passes to
    pub passes_to : (j : ℕ) → l.line.stage i ≡ Mcs (Passing j) → (rest : List ℕ) × (l.line.cpus ≡ i ∷ j ∷ rest)
    passes_to j e = let s = here (Mcs (Passing j)) e in two_are l.line.cpus i j s.0.there s.1

    pub passing_below : (j : ℕ) → l.line.stage i ≡ Mcs (Passing j) → j < n
    passing_below j e = let s = here (Mcs (Passing j)) e in in_cell mcs_lock n l h 1 j s.1

    pub passes : (j : ℕ) → l.line.stage i ≡ Mcs (Passing j) → IsState mcs_lock n (pass l i)
    passes j e =
        let s = here (Mcs (Passing j)) e in
        let r = passes_to j e in
        let rest = r.0 in
        let d : AreDistinctBelow n (i ∷ j ∷ rest) = subst (AreDistinctBelow n) r.1 h.distinct in
        subst (λ (cpus : List ℕ). IsState mcs_lock n (record l { line = lined cpus false l.line.stage i Idle })) (sym (ap behind r.1)) record {
          distinct = d.2;
          busy = λ e. absurd (true≢false (sym e));
          stood = each_moved l.line.stage (λ x q. StandsInQueue (j ∷ rest) false x l.extra q) n i Idle d.1
              (λ x in_it ne. passed_by l.extra l.line.out i j rest x ne s.2 (l.line.stage x) (subst (λ (cpus : List ℕ). StandsInQueue cpus l.line.out x l.extra (l.line.stage x)) r.1 (h.stood x in_it)));
          extra = λ p f. h.extra p (ap last r.1 ∙ f);
        }
