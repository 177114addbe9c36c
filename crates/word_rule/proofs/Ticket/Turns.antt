-- A ticket lock's turns: each leaves a state of the lock, and words that are the state's.
use Rattle.std.proofs.{Common.{◌≡◌, ◌≢◌, ◌||◌, ℕ, zero, suc, ◌+◌, ◌-◌, ◌*◌, ◌/◌, ◌%◌, ◌^◌, ◌<◌, ◌≤◌, ◌==◌, ◌&&◌, Bool, true, false, true≢false, cond, List, [], ◌∷◌, ◌++◌, length, get_or, set, ne_eqb, eq-eqb, refl, sym, ap, ◌∙◌, subst, arith, length-append}, lemmas.Bool.{false_from_ne_true, eqb-true}, Math.Nat.{div-add-mod, mod-add-mod, mod-lt, mod-eq_of_lt}}
use mathlib.Core.Option.{some, some-injective, some-ne-none}
use lib.ListN.{get_elem?}
use Rattle.atomic_table.proofs.Lists.{at_longer, at_last, one_turn}
use Rattle.event_log.specs.Distinct.{has, AreDistinctBelow}
use Rattle.event_log.proofs.Distinct.{distinct_push, has_push}
use Rattle.word_rule.specs.{declared.lock_kind.Stage.Stage, declared.lock_kind.Stage.TheVariants.{Idle, Ticket}, declared.lock_kind.TicketStage.TheVariants.{Drawn, Served}, Line.{First, behind, alone_with_it, is_empty, is_first, taking}, LockDefinition.{IsState, IsTied, opening_state}, Locks.holding, Ticket.Acquire.draw, Ticket.Definition.{ticket_lock, ticket_turn}, Ticket.Release.serve, Ticket.State.{TicketLock, tickets, ticket_word, Waits, StandsInLine}, Ticket.Try.try_ticket}
use Rattle.word_rule.proofs.{Lists.{has_at, has_tail, at_below, at_first, first_at, first_is, one_place}, LockStates.{stands_at, line_fits}, Moves.each_moved, Ticket.Words.{high_half, low_half, next_added, served_added, served_subtracted}}
use Rattle.word_rule.specs.declared.machine.step_done.StepDone.TheVariants as steps

-- i is alone in line, and has the object by that ticket
abbrev pub tried_by : TicketLock → ℕ → ℕ → TicketLock
tried_by l i t = record l { line = alone_with_it l.line i (Ticket (Served t)) }

-- the turn of a CPU that stands there
pub turned : (l : TicketLock) (i : ℕ) (q : Stage) → l.line.stage i ≡ q → ticket_lock.turn l i ≡ ticket_turn l i q
turned l i q there = ap (λ z. ticket_turn l i z) there

-- a look of one that has that ticket: it gets the object where it is the first
pub hits : (l : TicketLock) (i t : ℕ) → is_first i l.line.cpus ≡ true → ticket_turn l i (Ticket (Drawn t)) ≡ (record l { line = taking l.line i (Ticket (Served t)) }, steps.Look true)
hits l i t is = ap (λ (b : Bool). cond b (record l { line = taking l.line i (Ticket (Served t)) }, steps.Look true) (l, steps.Look false)) is

pub misses : (l : TicketLock) (i t : ℕ) → is_first i l.line.cpus ≡ false → ticket_turn l i (Ticket (Drawn t)) ≡ (l, steps.Look false)
misses l i t is = ap (λ (b : Bool). cond b (record l { line = taking l.line i (Ticket (Served t)) }, steps.Look true) (l, steps.Look false)) is

-- who is idle isn't in line
pub outside : (cpus : List ℕ) (out : Bool) (x serving : ℕ) → StandsInLine cpus out x serving Idle → has x cpus ≡ false
outside cpus out x serving s = s

-- one that has the object is the first
pub first_if : (cpus : List ℕ) (out : Bool) (x serving : ℕ) (q : Stage) → holding q ≡ true → StandsInLine cpus out x serving q → First cpus out x true
first_if cpus out x serving (Ticket (Served t)) e s = s.0
first_if cpus out x serving (Ticket (Drawn t)) e s = absurd (true≢false (sym e))
first_if cpus out x serving Idle e s = absurd (true≢false (sym e))
first_if cpus out x serving q e s = absurd s

stands_longer : (cpus : List ℕ) (out : Bool) (serving x p : ℕ) → x ≢ p → (q : Stage) → StandsInLine cpus out x serving q → StandsInLine (cpus ++ p ∷ []) out x serving q
stands_longer cpus out serving x p ne Idle s = has_push x p cpus s ne
stands_longer cpus out serving x p ne (Ticket (Drawn t)) s = record { at = s.at; there = at_longer cpus (p ∷ []) s.at x s.there; drawn = s.drawn; home = s.home }
stands_longer cpus out serving x p ne (Ticket (Served t)) s = (record { there = at_longer cpus (p ∷ []) 0 x s.0.there; object = s.0.object }, s.1)
stands_longer cpus out serving x p ne q s = absurd s

stands_taken : (cpus : List ℕ) (serving x p : ℕ) → x ≢ p → get_elem? cpus 0 ≡ some p → (q : Stage) → StandsInLine cpus false x serving q → StandsInLine cpus true x serving q
stands_taken cpus serving x p ne head Idle s = s
stands_taken cpus serving x p ne head (Ticket (Drawn t)) s = record { at = s.at; there = s.there; drawn = s.drawn; home = λ e. absurd (ne (some-injective x p (sym (subst (λ (k : ℕ). get_elem? cpus k ≡ some x) e s.there) ∙ head))) }
stands_taken cpus serving x p ne head (Ticket (Served t)) s = absurd (true≢false (sym s.0.object))
stands_taken cpus serving x p ne head q s = absurd s

further : (serving x p : ℕ) (rest : List ℕ) (t at : ℕ) → x ≢ p → get_elem? (p ∷ rest) at ≡ some x → t ≡ (serving + at) % tickets → Waits rest false x ((serving + 1) % tickets) t
further serving x p rest t zero ne there is = absurd (ne (sym (some-injective p x there)))
further serving x p rest t (suc k) ne there is = record { at = k; there = there; drawn = is ∙ (ap (λ (z : ℕ). z % tickets) (omega arith) ∙ sym (mod-add-mod (serving + 1) tickets k)); home = λ _. refl }

stands_served : (out : Bool) (serving x p : ℕ) (rest : List ℕ) → x ≢ p → (q : Stage) → StandsInLine (p ∷ rest) out x serving q → StandsInLine rest false x ((serving + 1) % tickets) q
stands_served out serving x p rest ne Idle s = has_tail x p rest s
stands_served out serving x p rest ne (Ticket (Drawn t)) s = further serving x p rest t s.at ne s.there s.drawn
stands_served out serving x p rest ne (Ticket (Served t)) s = absurd (ne (sym (some-injective p x s.0.there)))
stands_served out serving x p rest ne q s = absurd s

-- with nobody in line all are idle, and stay so beside one that comes
stands_beside : (out : Bool) (serving x p : ℕ) → x ≢ p → (q : Stage) → StandsInLine [] out x serving q → StandsInLine (p ∷ []) true x serving q
stands_beside out serving x p ne Idle s = ap (λ (b : Bool). b || false) (ne_eqb p x (λ is. ne (sym is)))
stands_beside out serving x p ne (Ticket (Drawn t)) s = absurd (some-ne-none x (sym s.there))
stands_beside out serving x p ne (Ticket (Served t)) s = absurd (some-ne-none x (sym s.0.there))
stands_beside out serving x p ne q s = absurd s

none_there : (xs : List ℕ) → length xs ≡ 0 → xs ≡ []
none_there [] e = refl
none_there (x ∷ xs) e = absurd (omega arith)

module _ (n : ℕ) (ws : List ℕ) (l : TicketLock) (h : IsTied ticket_lock n ws l) (i : ℕ) (below : i < n) where
  abbrev next_one : ℕ
  next_one = (l.extra + length l.line.cpus) % tickets

  next_small : next_one < tickets
  next_small = mod-lt (l.extra + length l.line.cpus) (omega arith)

  word_is : get_or ws 0 0 ≡ ticket_word next_one l.extra
  word_is = ap (λ z. get_or z 0 0) h.words

  -- the high half is the ticket after those in line, and the low half the ticket that is served
  pub ticket_is : get_or ws 0 0 / tickets ≡ next_one
  ticket_is = ap (λ (z : ℕ). z / tickets) word_is ∙ high_half next_one l.extra next_small h.state.extra.0

  pub serving_is : get_or ws 0 0 % tickets ≡ l.extra
  serving_is = ap (λ (z : ℕ). z % tickets) word_is ∙ low_half next_one l.extra next_small h.state.extra.0

  -- one CPU more in line, and the word with a ticket more
  one_more : (next_one + 1) % tickets ≡ (l.extra + (length l.line.cpus + 1)) % tickets
  one_more = mod-add-mod (l.extra + length l.line.cpus) tickets 1 ∙ ap (λ (x : ℕ). x % tickets) (omega arith)

  absent : l.line.stage i ≡ Idle → has i l.line.cpus ≡ false
  absent e = stands_at ticket_lock n l h.state i Idle below e

  pub draws : l.line.stage i ≡ Idle → IsTied ticket_lock n (set ws 0 ((get_or ws 0 0 + tickets) % 2 ^ 64)) (draw l i)
  draws e =
      let longer : length (l.line.cpus ++ i ∷ []) ≡ length l.line.cpus + 1 = length-append l.line.cpus (i ∷ []) in
      record {
        state = record {
          distinct = distinct_push n l.line.cpus i h.state.distinct below (absent e);
          busy = λ _. omega arith;
          stood = each_moved l.line.stage (λ x q. StandsInLine (l.line.cpus ++ i ∷ []) l.line.out x l.extra q) n i (Ticket (Drawn ((l.extra + length l.line.cpus) % tickets)))
              (record { at = length l.line.cpus; there = at_last l.line.cpus i (length l.line.cpus) refl; drawn = refl; home = λ e. false_from_ne_true l.line.out (λ o. let f = h.state.busy o in omega arith) })
              (λ x in_cell ne. stands_longer l.line.cpus l.line.out l.extra x i ne (l.line.stage x) (h.state.stood x in_cell));
          extra = h.state.extra;
        };
        words = ap (λ (z : List ℕ). set z 0 ((get_or z 0 0 + tickets) % 2 ^ 64)) h.words ∙ ap (λ (x : ℕ). x ∷ []) (next_added next_one l.extra next_small h.state.extra.0 ∙ ap (λ (x : ℕ). ticket_word x l.extra) (one_more ∙ ap (λ (x : ℕ). (l.extra + x) % tickets) (sym longer)));
      }

  pub waits : (t : ℕ) → l.line.stage i ≡ Ticket (Drawn t) → Waits l.line.cpus l.line.out i l.extra t
  waits t e = stands_at ticket_lock n l h.state i (Ticket (Drawn t)) below e

  -- the ticket is served exactly where i is the first
  served_now : (t : ℕ) (w : Waits l.line.cpus l.line.out i l.extra t) → l.extra ≡ t → w.at ≡ 0
  served_now t w hit =
      let in_line : w.at < length l.line.cpus = at_below l.line.cpus w.at i w.there in
      let long : length l.line.cpus ≤ n = line_fits ticket_lock n l h.state in
      let few = h.state.extra.1 in
      let one : l.extra ≡ l.extra + w.at = one_turn l.extra (l.extra + w.at) tickets (omega arith) (omega arith) (mod-eq_of_lt h.state.extra.0 ∙ (hit ∙ w.drawn)) in
      omega arith

  pub hit_first : (t : ℕ) → l.line.stage i ≡ Ticket (Drawn t) → get_or ws 0 0 % tickets ≡ t → is_first i l.line.cpus ≡ true
  hit_first t e hit =
      let w = waits t e in
      at_first i l.line.cpus (subst (λ (k : ℕ). get_elem? l.line.cpus k ≡ some i) (served_now t w (sym serving_is ∙ hit)) w.there)

  pub first_hit : (t : ℕ) → l.line.stage i ≡ Ticket (Drawn t) → is_first i l.line.cpus ≡ true → get_or ws 0 0 % tickets ≡ t
  first_hit t e first =
      let w = waits t e in
      let here : w.at ≡ 0 = one_place n l.line.cpus h.state.distinct w.at 0 i w.there (first_at i l.line.cpus first) in
      serving_is ∙ sym (w.drawn ∙ (ap (λ (k : ℕ). (l.extra + k) % tickets) here ∙ (ap (λ (k : ℕ). k % tickets) (omega arith) ∙ mod-eq_of_lt h.state.extra.0)))

  -- and then the object is at home
  pub first_home : (t : ℕ) → l.line.stage i ≡ Ticket (Drawn t) → is_first i l.line.cpus ≡ true → l.line.out ≡ false
  first_home t e first = let w = waits t e in w.home (one_place n l.line.cpus h.state.distinct w.at 0 i w.there (first_at i l.line.cpus first))

  pub takes : (t : ℕ) → l.line.stage i ≡ Ticket (Drawn t) → is_first i l.line.cpus ≡ true → IsTied ticket_lock n ws (record l { line = taking l.line i (Ticket (Served t)) })
  takes t e first =
      let head = first_at i l.line.cpus first in
      let some_one = at_below l.line.cpus 0 i head in
      record {
        state = record {
          distinct = h.state.distinct;
          busy = λ _. some_one;
          stood = each_moved l.line.stage (λ x q. StandsInLine l.line.cpus true x l.extra q) n i (Ticket (Served t))
              (record { there = head; object = refl }, sym (first_hit t e first) ∙ serving_is)
              (λ x in_cell ne. stands_taken l.line.cpus l.extra x i ne head (l.line.stage x) (subst (λ (o : Bool). StandsInLine l.line.cpus o x l.extra (l.line.stage x)) (first_home t e first) (h.state.stood x in_cell)));
          extra = h.state.extra;
        };
        words = h.words;
      }

  -- who has the object is the first
  pub holder_first : (t : ℕ) → l.line.stage i ≡ Ticket (Served t) → (rest : List ℕ) × (l.line.cpus ≡ i ∷ rest)
  holder_first t e = let f = (stands_at ticket_lock n l h.state i (Ticket (Served t)) below e).0 in first_is l.line.cpus i f.there

  pub serves_state : (t : ℕ) → l.line.stage i ≡ Ticket (Served t) → IsState ticket_lock n (serve l i)
  serves_state t e =
      let r = holder_first t e in
      let rest = r.0 in
      let d : AreDistinctBelow n (i ∷ rest) = subst (AreDistinctBelow n) r.1 h.state.distinct in
      let now : ℕ = (l.extra + 1) % tickets in
      subst (λ (cpus : List ℕ). IsState ticket_lock n record { line = record (serve l i).line { cpus = cpus }; extra = now }) (sym (ap behind r.1)) record {
        distinct = d.2;
        busy = λ e. absurd (true≢false (sym e));
        stood = each_moved l.line.stage (λ x q. StandsInLine rest false x now q) n i Idle d.1
            (λ x in_cell ne. stands_served l.line.out l.extra x i rest ne (l.line.stage x) (subst (λ (z : List ℕ). StandsInLine z l.line.out x l.extra (l.line.stage x)) r.1 (h.state.stood x in_cell)));
        extra = (mod-lt (l.extra + 1) (omega arith), h.state.extra.1);
      }

  -- the next ticket stays, as one CPU less is in line behind the next that is served
  same_next : (t : ℕ) → l.line.stage i ≡ Ticket (Served t) → next_one ≡ ((l.extra + 1) % tickets + length (behind l.line.cpus)) % tickets
  same_next t e =
      let r = holder_first t e in
      let longer : length l.line.cpus ≡ suc (length r.0) = ap length r.1 in
      let rest : length (behind l.line.cpus) ≡ length r.0 = ap (λ z. length (behind z)) r.1 in
      ap (λ (k : ℕ). k % tickets) (omega arith) ∙ (sym (mod-add-mod (l.extra + 1) tickets (length r.0)) ∙ ap (λ (k : ℕ). ((l.extra + 1) % tickets + k) % tickets) (sym rest))

  serves : (t : ℕ) → l.line.stage i ≡ Ticket (Served t) → (word : ℕ → ℕ) → word (ticket_word next_one l.extra) ≡ ticket_word next_one ((l.extra + 1) % tickets) → IsTied ticket_lock n (set ws 0 (word (get_or ws 0 0))) (serve l i)
  serves t e word is = record {
    state = serves_state t e;
    words = ap (λ (z : List ℕ). set z 0 (word (get_or z 0 0))) h.words ∙ ap (λ (x : ℕ). x ∷ []) (is ∙ ap (λ (x : ℕ). ticket_word x ((l.extra + 1) % tickets)) (same_next t e));
  }

  served_is : (t : ℕ) → l.line.stage i ≡ Ticket (Served t) → t ≡ l.extra
  served_is t e = let s = stands_at ticket_lock n l h.state i (Ticket (Served t)) below e in s.1

  pub not_greatest : (t : ℕ) → l.line.stage i ≡ Ticket (Served t) → t + 1 ≢ tickets → t + 1 < tickets
  not_greatest t e other = let is = served_is t e in let small = h.state.extra.0 in omega arith

  -- by adding one to the low half, for every ticket but the greatest
  pub serves_adding : (t : ℕ) → l.line.stage i ≡ Ticket (Served t) → t + 1 < tickets → IsTied ticket_lock n (set ws 0 ((get_or ws 0 0 + 1) % 2 ^ 64)) (serve l i)
  serves_adding t e fits = serves t e (λ w. (w + 1) % 2 ^ 64) (served_added next_one l.extra next_small h.state.extra.0 (subst (λ (k : ℕ). k + 1 < tickets) (served_is t e) fits))

  -- by subtracting the greatest from itself
  pub serves_subtracting : (t : ℕ) → l.line.stage i ≡ Ticket (Served t) → t + 1 ≡ tickets → IsTied ticket_lock n (set ws 0 ((get_or ws 0 0 + (2 ^ 64 - (tickets - 1))) % 2 ^ 64)) (serve l i)
  serves_subtracting t e last = serves t e (λ w. (w + (2 ^ 64 - (tickets - 1))) % 2 ^ 64) (served_subtracted next_one l.extra next_small h.state.extra.0 (subst (λ (k : ℕ). k + 1 ≡ tickets) (served_is t e) last))

  -- the halves are alike exactly where nobody is in line
  pub alike_empty : get_or ws 0 0 / tickets ≡ get_or ws 0 0 % tickets → l.line.cpus ≡ []
  alike_empty alike =
      let few = h.state.extra.1 in
      let long : length l.line.cpus ≤ n = line_fits ticket_lock n l h.state in
      let one : l.extra ≡ l.extra + length l.line.cpus = one_turn l.extra (l.extra + length l.line.cpus) tickets (omega arith) (omega arith) (mod-eq_of_lt h.state.extra.0 ∙ (sym serving_is ∙ (sym alike ∙ ticket_is))) in
      none_there l.line.cpus (omega arith)

  pub empty_alike : l.line.cpus ≡ [] → get_or ws 0 0 / tickets ≡ get_or ws 0 0 % tickets
  empty_alike none = ticket_is ∙ (ap (λ (z : List ℕ). (l.extra + length z) % tickets) none ∙ (ap (λ (k : ℕ). k % tickets) (omega arith) ∙ (mod-eq_of_lt h.state.extra.0 ∙ sym serving_is)))

  -- where they differ, another than one that is idle is in line
  pub busy_first : l.line.stage i ≡ Idle → get_or ws 0 0 / tickets ≢ get_or ws 0 0 % tickets → (y : ℕ) × (get_elem? l.line.cpus 0 ≡ some y) × (y ≢ i)
  busy_first e differ = by l.line.cpus refl
    where
      by : (cpus : List ℕ) → l.line.cpus ≡ cpus → (y : ℕ) × (get_elem? l.line.cpus 0 ≡ some y) × (y ≢ i)
      by [] is = absurd (differ (empty_alike is))
      by (y ∷ ys) is =
          let there : get_elem? l.line.cpus 0 ≡ some y = ap (λ z. get_elem? z 0) is in
          (y, there, λ same. true≢false (sym (has_at l.line.cpus 0 y there) ∙ (ap (λ z. has z l.line.cpus) same ∙ absent e)))

  -- where nobody is in line the object is at home
  pub empty_home : l.line.cpus ≡ [] → l.line.out ≡ false
  empty_home none = false_from_ne_true l.line.out (λ o. let f = h.state.busy o in let short : length l.line.cpus ≡ 0 = ap length none in omega arith)

  -- with nobody in line, one that was idle is alone there, and has the object
  pub tries : l.line.stage i ≡ Idle → l.line.cpus ≡ [] → IsTied ticket_lock n (set ws 0 ((get_or ws 0 0 + tickets) % 2 ^ 64)) (tried_by l i l.extra)
  tries e none = record {
    state = record {
      distinct = (below, refl, tt);
      busy = λ _. omega arith;
      stood = each_moved l.line.stage (λ x q. StandsInLine (i ∷ []) true x l.extra q) n i (Ticket (Served l.extra)) (record { there = refl; object = refl }, refl)
          (λ x in_cell ne. stands_beside l.line.out l.extra x i ne (l.line.stage x) (subst (λ (z : List ℕ). StandsInLine z l.line.out x l.extra (l.line.stage x)) none (h.state.stood x in_cell)));
      extra = h.state.extra;
    };
    words = ap (λ (z : List ℕ). set z 0 ((get_or z 0 0 + tickets) % 2 ^ 64)) h.words ∙ ap (λ (x : ℕ). x ∷ []) (next_added next_one l.extra next_small h.state.extra.0 ∙ ap (λ (x : ℕ). ticket_word x l.extra) (one_more ∙ ap (λ (z : List ℕ). (l.extra + (length z + 1)) % tickets) none));
  }

  -- a word whose halves are alike, and that is still there: nobody is in line, and the ticket in it is served
  pub unchanged_free : l.line.stage i ≡ Idle → (old : ℕ) → old / tickets ≡ old % tickets → get_or ws 0 0 ≡ old → (l.line.cpus ≡ []) × (l.extra ≡ old % tickets)
  unchanged_free e old alike is = (alike_empty (ap (λ (z : ℕ). z / tickets) is ∙ (alike ∙ ap (λ (z : ℕ). z % tickets) (sym is))), sym serving_is ∙ ap (λ (z : ℕ). z % tickets) is)

  pub free_unchanged : l.line.stage i ≡ Idle → (old : ℕ) → old / tickets ≡ old % tickets → l.line.cpus ≡ [] → l.extra ≡ old % tickets → get_or ws 0 0 ≡ old
  free_unchanged e old alike none served =
      let low : get_or ws 0 0 % tickets ≡ old % tickets = serving_is ∙ served in
      let high : get_or ws 0 0 / tickets ≡ old / tickets = empty_alike none ∙ (low ∙ sym alike) in
      sym (div-add-mod (get_or ws 0 0) tickets) ∙ ((λ k. tickets * high k + low k) ∙ div-add-mod old tickets)

  pub tries_from : l.line.stage i ≡ Idle → (old new : ℕ) → old / tickets ≡ old % tickets → get_or ws 0 0 ≡ old → new ≡ (old + tickets) % 2 ^ 64 → IsTied ticket_lock n (set ws 0 new) (tried_by l i (old % tickets))
  tries_from e old new alike is new_is =
      let free = unchanged_free e old alike is in
      subst (λ (z : ℕ × ℕ). IsTied ticket_lock n (set ws 0 z.0) (tried_by l i z.1)) (λ k. (sym (new_is ∙ ap (λ (z : ℕ). (z + tickets) % 2 ^ 64) (sym is)) k, free.1 k)) (tries e free.0)

-- a try that finds nobody in line and its ticket served, and one that doesn't
module _ (l : TicketLock) (i t : ℕ) where
  tried : (b : Bool) → (is_empty l.line.cpus && l.extra == t) ≡ b → try_ticket l i t ≡ cond b (tried_by l i t, steps.Draw ∷ steps.Look true ∷ []) (l, [])
  tried b is = ap (λ (c : Bool). cond c (tried_by l i t, steps.Draw ∷ steps.Look true ∷ []) (l, [])) is

  pub succeeds : l.line.cpus ≡ [] → l.extra ≡ t → try_ticket l i t ≡ (tried_by l i t, steps.Draw ∷ steps.Look true ∷ [])
  succeeds none served = tried true (ap (λ z. is_empty z && l.extra == t) none ∙ eq-eqb l.extra t served)

  pub fails : (l.line.cpus ≡ [] → l.extra ≡ t → ⊥) → try_ticket l i t ≡ (l, [])
  fails not = tried false (false_from_ne_true (is_empty l.line.cpus && l.extra == t) (λ e. both l.line.cpus refl e))
    where
      both : (cpus : List ℕ) → l.line.cpus ≡ cpus → (is_empty l.line.cpus && l.extra == t) ≡ true → ⊥
      both [] is e = not is (eqb-true l.extra t (sym (ap (λ z. is_empty z && l.extra == t) is) ∙ e))
      both (y ∷ ys) is e = true≢false (sym e ∙ ap (λ z. is_empty z && l.extra == t) is)

-- a ticket lock before the first step, and its word
pub starts_ticket : (n first : ℕ) (ws : List ℕ) → n < tickets → ws ≡ ticket_word (first % tickets) (first % tickets) ∷ [] → IsTied ticket_lock n ws (opening_state ticket_lock first)
starts_ticket n first ws few is = record {
  state = record { distinct = tt; busy = λ e. absurd (true≢false (sym e)); stood = λ x below. refl; extra = (mod-lt first (omega arith), few) };
  words = is ∙ ap (λ (z : ℕ). ticket_word z (first % tickets) ∷ []) (sym (mod-eq_of_lt (mod-lt first (omega arith))) ∙ ap (λ (z : ℕ). z % tickets) (omega arith));
}
