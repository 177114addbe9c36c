-- The law of arrival, from an opening world on.
use Rattle.std.proofs.{Common.{◌≡◌, ℕ, ◌+◌, ◌<◌, ◌≤◌, Bool, true, false, ◌&&◌, List, [], ◌∷◌, ◌++◌, length, slice_get, Option, Some, None, refl, sym, ap, ◌∙◌, subst, arith}, lemmas.Bool.false≢true, lemmas.Bool.Decides.nat_tests, lemmas.List.length-append}
use Rattle.event_log.specs.{declared.object.SeqObject.Ghosts, Distinct.has, Log.Begins}
use Rattle.event_log.proofs.Beginnings.{begins_self, begins_more}
use Rattle.word_rule.specs.{Locks.{holding, IsLock, Lock}, Machine.Opening.IsOpening, Machine.Orders.{is_at, arrivals, endings, arrives_at, ends_within}, StepKinds.arrives, Machine.World.{World, CellState, run, step}}
use Rattle.word_rule.proofs.{Lists.has_tail, Orders.{AreLocks, IsCell, line_in, in_order, locks_stay, locks_run, same_cpus, room_to_arrive, arrives_last, run_append}, LockLaws.{begins, one_holds}, TurnsKeep.locks_keep}

-- numbers that are a beginning of a list are no more than those before i there, if i isn't among them
before_it : (ended rest line more : List ℕ) (i : ℕ) → ended ++ rest ≡ (line ++ i ∷ []) ++ more → has i ended ≡ false → length ended ≤ length line
before_it [] rest line more i e not = omega arith
before_it (y ∷ ended) rest [] more i e not = absurd (let is : y ≡ i = cc in grind (arith, nat_tests))
before_it (y ∷ ended) rest (z ∷ line) more i e not = let tail : ended ++ rest ≡ (line ++ i ∷ []) ++ more = cc in let fewer = before_it ended rest line more i tail (has_tail i y ended not) in omega arith

module _ {O P C R : Type 0} (meaning : Ghosts O P C R) (w : World O P C R) (o : IsOpening w) where
  free : AreLocks IsLock locks_keep meaning w
  free = λ x. by x (slice_get w.cells x) refl
    where
      by : (x : ℕ) (q : Option (CellState O P C R)) → slice_get w.cells x ≡ q → IsCell IsLock locks_keep meaning (length w.cpus) q
      by x None e = tt
      by x (Some c) e = let a = o.cells x c e in subst (λ l. IsLock (length w.cpus) l) (sym a.free) (begins (length w.cpus) a.first c.lock.kind a.fits)

  nobody : (x : ℕ) → line_in (slice_get w.cells x) ≡ []
  nobody x = by (slice_get w.cells x) refl
    where
      by : (q : Option (CellState O P C R)) → slice_get w.cells x ≡ q → line_in q ≡ []
      by None e = refl
      by (Some c) e = let a = o.cells x c e in ap (λ (l : Lock). l.line.cpus) a.free

  so_far : (is : List ℕ) (x : ℕ) → endings meaning x is w ++ line_in (slice_get (run meaning is w).cells x) ≡ arrivals meaning x is w
  so_far is x = in_order IsLock locks_keep meaning is w x free ∙ ap (λ l. l ++ arrivals meaning x is w) (nobody x)

  pub order_lem : (is : List ℕ) (x : ℕ) → Begins (endings meaning x is w) (arrivals meaning x is w)
  order_lem is x = subst (Begins (endings meaning x is w)) (so_far is x) (begins_more (endings meaning x is w) (endings meaning x is w) (line_in (slice_get (run meaning is w).cells x)) (begins_self (endings meaning x is w)))

  pub few_lem : (is : List ℕ) (i x : ℕ) → arrives (step meaning (run meaning is w) i).1 ≡ true → is_at (run meaning is w) i x ≡ true → length (arrivals meaning x is w) < length (endings meaning x is w) + length w.cpus
  few_lem is i x a t =
      let line : List ℕ = line_in (slice_get (run meaning is w).cells x) in
      let room = room_to_arrive IsLock locks_keep meaning (run meaning is w) i x (locks_run IsLock locks_keep meaning is w free) a t in
      let so = ap length (sym (so_far is x)) ∙ length-append (endings meaning x is w) line in
      omega (arith, so, room, same_cpus IsLock locks_keep meaning is w free)

  pub until_lem : (is more : List ℕ) (i x : ℕ) → arrives_at meaning (run meaning is w) i x ≡ true → ends_within meaning i x more (run meaning (is ++ i ∷ []) w) ≡ false
      → length (endings meaning x more (run meaning (is ++ i ∷ []) w)) < length w.cpus
  until_lem is more i x arrived not =
      let w1 : World O P C R = run meaning is w in
      let w2 : World O P C R = (step meaning w1 i).0 in
      let good = locks_run IsLock locks_keep meaning is w free in
      let there = both (arrives (step meaning w1 i).1) (is_at w1 i x) arrived in
      let a : arrives (step meaning w1 i).1 ≡ true = there.0 in
      let t : is_at w1 i x ≡ true = there.1 in
      let then : run meaning (is ++ i ∷ []) w ≡ w2 = run_append IsLock locks_keep meaning is (i ∷ []) w in
      let line : List ℕ = line_in (slice_get w1.cells x) in
      let room = room_to_arrive IsLock locks_keep meaning w1 i x good a t in
      let order = in_order IsLock locks_keep meaning more w2 x (locks_stay IsLock locks_keep meaning w1 i good) ∙ ap (λ l. l ++ arrivals meaning x more w2) (arrives_last IsLock locks_keep meaning w1 i x good a t) in
      let fewer = before_it (endings meaning x more w2) (line_in (slice_get (run meaning more w2).cells x)) line (arrivals meaning x more w2) i order (subst (λ z. ends_within meaning i x more z ≡ false) then not) in
      let same : length (endings meaning x more (run meaning (is ++ i ∷ []) w)) ≡ length (endings meaning x more w2) = ap (λ z. length (endings meaning x more z)) then in
      omega (arith, fewer, room, same, same_cpus IsLock locks_keep meaning is w free)
    where
      both : (b c : Bool) → (b && c) ≡ true → (b ≡ true) × (c ≡ true)
      both true c e = (refl, e)
      both false c e = absurd (false≢true e)

  pub one_lem : (is : List ℕ) (x i j : ℕ) (c : CellState O P C R) → slice_get (run meaning is w).cells x ≡ Some c → i < length w.cpus → j < length w.cpus → holding (c.lock.line.stage i) ≡ true → holding (c.lock.line.stage j) ≡ true → i ≡ j
  one_lem is x i j c there below below' a b =
      let same = same_cpus IsLock locks_keep meaning is w free in
      let h : IsLock (length (run meaning is w).cpus) c.lock = subst (λ (q : Option (CellState O P C R)). IsCell IsLock locks_keep meaning (length (run meaning is w).cpus) q) there (locks_run IsLock locks_keep meaning is w free x) in
      one_holds (length (run meaning is w).cpus) c.lock h i j (omega (arith, same, below)) (omega (arith, same, below')) a b
