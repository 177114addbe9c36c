-- How a call of one CPU comes to its end at a lock: what is left of it, and of those ahead and the one behind, falls.
use Rattle.std.proofs.{Common.{◌≡◌, ◌≢◌, ◌⊎◌, inl, inr, ⊎_elim, ℕ, ◌+◌, ◌*◌, ◌<◌, ◌≤◌, ◌==◌, ◌||◌, Bool, true, false, true≢false, cond, ne_eqb, List, [], ◌∷◌, ◌++◌, length, length-append, refl, sym, ap, ◌∙◌, subst, arith}, Math.Nat.mul-le-mul_left, lemmas.Bool.cases_Bool}
use mathlib.{Core.Logic.dite, Core.Option.some}
use lib.ListN.{get_elem?}
use native.Mathlib.Decide.{ℕ_discrete}
use Rattle.event_log.specs.Distinct.{has, AreDistinctBelow}
use Rattle.event_log.proofs.Distinct.{has_push}
use Rattle.word_rule.specs.{Locks.{Lock, turn}, StepKinds.ends_hold}
use Rattle.word_rule.proofs.{Ahead.{ahead, ahead_behind, ahead_falls, ahead_few, ahead_last, ahead_longer, ahead_place, ahead_sinks, ahead_some, among, among_behind, among_first, among_longer, among_second}, IdleSteps.IsWholeLock, LineChanges.{changed, has_more, head_of, never, Joined, Left, Same}, Lists.has_at, LockLaws.line_fits, ProgressLaws.{few_left, gets_on, left_at, line_after, most_at, nearer, none_further, others_stay, outside, some_left, someone_first, stays, turned}}

has_longer : (x k : ℕ) (xs : List ℕ) → has x xs ≡ true → has x (xs ++ k ∷ []) ≡ true
has_longer x k [] e = never e
has_longer x k (y ∷ ys) e = by (has_longer x k ys) (y == x) e
  where
    by : (has x ys ≡ true → has x (ys ++ k ∷ []) ≡ true) → (b : Bool) → (b || has x ys) ≡ true → (b || has x (ys ++ k ∷ [])) ≡ true
    by rest true t = refl
    by rest false t = rest t

has_else : (x k : ℕ) (xs : List ℕ) → k ≢ x → has x (k ∷ xs) ≡ has x xs
has_else x k xs ne = ap (λ b. b || has x xs) (ne_eqb k x ne)

-- what is left until the call of CPU i has ended: in line, of the CPUs up to i and of the one behind it; else of i, and of as
-- many as may be ahead
abbrev pub rank_at : ℕ → ℕ → Lock → ℕ
rank_at n i l = cond (has i l.line.cpus) (ahead (most_at l) (left_at l) i l.line.cpus) (most_at l * n + left_at l i)

-- CPU j gets on by its next turn, and is one of these
pub record ReadyAt (i : ℕ) (l : Lock) (j : ℕ) : Type 0 where
  pub on : gets_on l j ≡ true
  pub inside : has i l.line.cpus ≡ true → among i l.line.cpus j ≡ true
  pub outside : has i l.line.cpus ≡ false → j ≡ i

module _ (n i : ℕ) where
  rank_in : (l : Lock) → has i l.line.cpus ≡ true → rank_at n i l ≡ ahead (most_at l) (left_at l) i l.line.cpus
  rank_in l e = ap (λ b. cond b (ahead (most_at l) (left_at l) i l.line.cpus) (most_at l * n + left_at l i)) e

  rank_out : (l : Lock) → has i l.line.cpus ≡ false → rank_at n i l ≡ most_at l * n + left_at l i
  rank_out l e = ap (λ b. cond b (ahead (most_at l) (left_at l) i l.line.cpus) (most_at l * n + left_at l i)) e

  pub rank_some : (l : Lock) → 0 < rank_at n i l
  rank_some l = ⊎_elim
      (λ e. let a = ahead_some (most_at l) i (left_at l) (some_left l) l.line.cpus e in let b = rank_in l e in omega (arith, a, b))
      (λ e. let a = some_left l i in let b = rank_out l e in omega (arith, a, b))
      (cases_Bool (has i l.line.cpus))

  pub rank_few : (l : Lock) → IsWholeLock n l → rank_at n i l ≤ most_at l * (n + 1)
  rank_few l h = ⊎_elim
      (λ e. let a = ahead_few (most_at l) i (left_at l) (few_left l) l.line.cpus in let b = rank_in l e in let c = mul-le-mul_left (most_at l) (line_fits n l h.0) in omega (arith, a, b, c))
      (λ e. let a = few_left l i in let b = rank_out l e in omega (arith, a, b))
      (cases_Bool (has i l.line.cpus))

  pub rank_place : (l : Lock) (p : ℕ) → get_elem? l.line.cpus p ≡ some i → rank_at n i l ≤ most_at l * (p + 2)
  rank_place l p e = let a = ahead_place (most_at l) i (left_at l) (few_left l) l.line.cpus p e in let b = rank_in l (has_at l.line.cpus p i e) in omega (arith, a, b)

  -- somebody is ready: i itself, or one in line
  pub someone_ready : (l : Lock) → IsWholeLock n l → i < n → (j : ℕ) × ReadyAt i l j × ((has j l.line.cpus ≡ true) ⊎ (j ≡ i))
  someone_ready l h below = ⊎_elim in_line beside (cases_Bool (has i l.line.cpus))
    where
      in_line : has i l.line.cpus ≡ true → (j : ℕ) × ReadyAt i l j × ((has j l.line.cpus ≡ true) ⊎ (j ≡ i))
      in_line e =
          let t = head_of l.line.cpus i e in
          ⊎_elim
          (λ on. (t.0, record { on = on; inside = λ _. among_first i t.0 l.line.cpus t.1; outside = λ f. absurd (true≢false (sym e ∙ f)) }, inl (has_at l.line.cpus 0 t.0 t.1)))
          (λ s. (s.0, record { on = s.2; inside = λ _. among_second i s.0 l.line.cpus s.1; outside = λ f. absurd (true≢false (sym e ∙ f)) }, inl (has_at l.line.cpus 1 s.0 s.1)))
          (someone_first n l h t.0 t.1)

      beside : has i l.line.cpus ≡ false → (j : ℕ) × ReadyAt i l j × ((has j l.line.cpus ≡ true) ⊎ (j ≡ i))
      beside f = (i, record { on = outside n l h i below f; inside = λ e. absurd (true≢false (sym e ∙ f)); outside = λ _. refl }, inr refl)

  -- what a turn of CPU k does to what is left, where it doesn't end the call
  pub record TurnLowers (l : Lock) (k : ℕ) : Type 0 where
    pub falls : rank_at n i (turn l k).0 ≤ rank_at n i l
    pub lower : ReadyAt i l k → rank_at n i (turn l k).0 < rank_at n i l
    pub stays : (j : ℕ) → j < n → j ≢ k → ReadyAt i l j → ReadyAt i (turn l k).0 j

  module _ (l : Lock) (h : IsWholeLock n l) (k : ℕ) (below : k < n) where
    abbrev l' : Lock
    l' = (turn l k).0

    abbrev old : List ℕ
    old = l.line.cpus

    abbrev new : List ℕ
    new = (turn l k).0.line.cpus

    abbrev f : ℕ → ℕ
    f = left_at l

    abbrev f' : ℕ → ℕ
    f' = left_at (turn l k).0

    on_after : (j : ℕ) → j < n → j ≢ k → ReadyAt i l j → gets_on (turn l k).0 j ≡ true
    on_after j j_below ne r = stays n l h k below j j_below ne r.on

    -- k has joined the end
    joined : Joined (turn l k).1 k old new → TurnLowers l k
    joined c = ⊎_elim in_line beside (cases_Bool (has i old))
      where
        in_line : has i old ≡ true → TurnLowers l k
        in_line e =
            let now : has i new ≡ true = ap (has i) c.0 ∙ has_longer i k old e in
            let rank : rank_at n i l ≡ ahead (most_at l) f i old = rank_in l e in
            let rank' : rank_at n i l' ≡ ahead (most_at l) f' i (old ++ k ∷ []) = rank_in l' now ∙ ap (ahead (most_at l) f' i) c.0 in
            let push = ahead_longer (most_at l) i f' k (few_left l' k) old e in
            let le = ahead_falls (most_at l) i f' f old (λ j _. none_further n l h k below c.1 j) in
            record {
              falls = omega (arith, rank, rank', push, le);
              lower = λ r. let lt = ahead_sinks (most_at l) i f' f k old (λ j _. none_further n l h k below c.1 j) (r.inside e) (nearer n l h k below r.on c.1) in omega (arith, rank, rank', push, lt);
              stays = λ j j_below ne r. record { on = on_after j j_below ne r; inside = λ _. ap (λ z. among i z j) c.0 ∙ among_longer i k j old (r.inside e); outside = λ not. absurd (true≢false (sym now ∙ not)) };
            }

        -- i joins it
        itself : k ≡ i → has i old ≡ false → TurnLowers l k
        itself is e =
            let now : has i new ≡ true = ap (has i) (c.0 ∙ ap (λ z. old ++ z ∷ []) is) ∙ has_at_end old in
            let rank : rank_at n i l ≡ most_at l * n + f i = rank_out l e in
            let rank' : rank_at n i l' ≡ ahead (most_at l) f' i (old ++ i ∷ []) = rank_in l' now ∙ ap (ahead (most_at l) f' i) (c.0 ∙ ap (λ z. old ++ z ∷ []) is) in
            let last = ahead_last (most_at l) i f' (few_left l') old e in
            let long = ap length c.0 ∙ length-append old (k ∷ []) in
            let fits = line_fits n l' (turned n l h k below).0 in
            let times = mul-le-mul_left {m = length old + 1} {n = n} (most_at l) (omega (arith, long, fits)) in
            let lt : f' i < f i = subst (λ z. left_at (turn l k).0 z < left_at l z) is (nearer n l h k below (outside n l h k below (ap (λ z. has z old) is ∙ e)) c.1) in
            let less : rank_at n i l' < rank_at n i l = omega (arith, rank, rank', last, times, lt) in
            record {
              falls = omega (arith, less);
              lower = λ _. less;
              stays = λ j j_below ne r. absurd (ne (r.outside e ∙ sym is));
            }
          where
            has_at_end : (xs : List ℕ) → has i (xs ++ i ∷ []) ≡ true
            has_at_end [] = has_at (i ∷ []) 0 i refl
            has_at_end (x ∷ xs) = has_more i x (xs ++ i ∷ []) (has_at_end xs)

        beside : has i old ≡ false → TurnLowers l k
        beside e = dite (ℕ_discrete k i) (λ is. itself is e) (λ ne.
            let now : has i new ≡ false = ap (has i) c.0 ∙ has_push i k old e (λ is. ne (sym is)) in
            let rank = rank_out l e in
            let rank' = rank_out l' now in
            let same : f' i ≡ f i = others_stay l k i (λ is. ne (sym is)) in
            record {
              falls = omega (arith, rank, rank', same);
              lower = λ r. absurd (ne (r.outside e));
              stays = λ j j_below other r. record { on = on_after j j_below other r; inside = λ there. absurd (true≢false (sym there ∙ now)); outside = λ _. r.outside e };
            })

    -- k has left the front, and isn't i
    went : k ≢ i → Left (turn l k).1 k old new → TurnLowers l k
    went ne c = ⊎_elim in_line beside (cases_Bool (has i old))
      where
        same_there : has i old ≡ has i new
        same_there = ap (has i) c.0 ∙ has_else i k new ne

        distinct : AreDistinctBelow n (k ∷ new)
        distinct = let s = h.0 in subst (AreDistinctBelow n) c.0 s.distinct

        same_left : (j : ℕ) → has j new ≡ true → f' j ≤ f j
        same_left j there = let e = others_stay l k j (λ is. true≢false (sym there ∙ (ap (λ z. has z new) is ∙ distinct.1))) in omega (arith, e)

        in_line : has i old ≡ true → TurnLowers l k
        in_line e =
            let rank : rank_at n i l ≡ f k + ahead (most_at l) f i new = rank_in l e ∙ (ap (ahead (most_at l) f i) c.0 ∙ ahead_behind (most_at l) i f k ne new) in
            let rank' : rank_at n i l' ≡ ahead (most_at l) f' i new = rank_in l' (sym same_there ∙ e) in
            let le = ahead_falls (most_at l) i f' f new same_left in
            let some = some_left l k in
            let less : rank_at n i l' < rank_at n i l = omega (arith, rank, rank', le, some) in
            record {
              falls = omega (arith, less);
              lower = λ _. less;
              stays = λ j j_below other r. record {
                on = on_after j j_below other r;
                inside = λ _. among_behind i k j new ne (λ is. other (sym is)) (sym (ap (λ z. among i z j) c.0) ∙ r.inside e);
                outside = λ not. r.outside (same_there ∙ not);
              };
            }

        beside : has i old ≡ false → TurnLowers l k
        beside e =
            let rank = rank_out l e in
            let rank' = rank_out l' (sym same_there ∙ e) in
            let same : f' i ≡ f i = others_stay l k i (λ is. ne (sym is)) in
            record {
              falls = omega (arith, rank, rank', same);
              lower = λ r. absurd (ne (r.outside e));
              stays = λ j j_below other r. record { on = on_after j j_below other r; inside = λ there. absurd (true≢false (sym (same_there ∙ there) ∙ e)); outside = λ _. r.outside e };
            }

    -- the line is the same
    stood : Same (turn l k).1 k old new → TurnLowers l k
    stood c = ⊎_elim in_line beside (cases_Bool (has i old))
      where
        stays_ready : (j : ℕ) → j < n → j ≢ k → ReadyAt i l j → ReadyAt i l' j
        stays_ready j j_below other r = record {
          on = on_after j j_below other r;
          inside = λ there. ap (λ z. among i z j) c.0 ∙ r.inside (sym (ap (has i) c.0) ∙ there);
          outside = λ not. r.outside (sym (ap (has i) c.0) ∙ not);
        }

        in_line : has i old ≡ true → TurnLowers l k
        in_line e =
            let rank : rank_at n i l ≡ ahead (most_at l) f i old = rank_in l e in
            let rank' : rank_at n i l' ≡ ahead (most_at l) f' i old = rank_in l' (ap (has i) c.0 ∙ e) ∙ ap (ahead (most_at l) f' i) c.0 in
            let le = ahead_falls (most_at l) i f' f old (λ j _. none_further n l h k below c.1 j) in
            record {
              falls = omega (arith, rank, rank', le);
              lower = λ r. let lt = ahead_sinks (most_at l) i f' f k old (λ j _. none_further n l h k below c.1 j) (r.inside e) (nearer n l h k below r.on c.1) in omega (arith, rank, rank', lt);
              stays = stays_ready;
            }

        beside : has i old ≡ false → TurnLowers l k
        beside e =
            let rank = rank_out l e in
            let rank' = rank_out l' (ap (has i) c.0 ∙ e) in
            let le = none_further n l h k below c.1 i in
            record {
              falls = omega (arith, rank, rank', le);
              lower = λ r. let lt : f' i < f i = subst (λ z. left_at (turn l k).0 z < left_at l z) (r.outside e) (nearer n l h k below r.on c.1) in omega (arith, rank, rank', lt);
              stays = stays_ready;
            }

    pub turn_lowers : (k ≡ i → ends_hold (turn l k).1 ≡ false) → TurnLowers l k
    turn_lowers goes = by (changed (turn l k).1 k old new (line_after n l h k below))
      where
        by : Joined (turn l k).1 k old new ⊎ (Left (turn l k).1 k old new ⊎ Same (turn l k).1 k old new) → TurnLowers l k
        by (inl c) = joined c
        by (inr (inl c)) = went (λ is. true≢false (sym c.1 ∙ goes is)) c
        by (inr (inr c)) = stood c
