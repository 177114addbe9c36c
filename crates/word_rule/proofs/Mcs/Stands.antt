-- What is said of one CPU of an MCS lock, where another CPU's step changes the queue or a `next`.
use Rattle.std.proofs.Common.{◌≡◌, ◌≢◌, ◌⊎◌, inl, inr, ⊎_elim, ℕ, zero, suc, ◌<◌, Bool, true, false, true≢false, cond, eq-eqb, ne_eqb, List, [], ◌∷◌, ◌++◌, length, refl, sym, ap, ◌∙◌, arith, length-append, Option, Some, None}
use mathlib.Core.Option.{some, some-injective, some-ne-none}
use lib.ListN.{get_elem?}
use Rattle.atomic_table.proofs.Lists.{at_longer}
use Rattle.event_log.specs.Distinct.{has}
use Rattle.event_log.proofs.Distinct.{has_push}
use Rattle.word_rule.specs.{declared.lock_kind.Stage.Stage, declared.lock_kind.Stage.TheVariants.{Idle, Mcs, Trying}, declared.lock_kind.McsStage.TheVariants.{Ready, Behind, Armed, Waiting, Holding, Alone, Leaving, Passing}, Line.First, Locks.holding, Mcs.State.{naming, is_linked, Follows, StandsInQueue}}
use Rattle.word_rule.proofs.Lists.{has_tail}

-- who is idle isn't in line
pub outside : (cpus : List ℕ) (out : Bool) (x : ℕ) (next : ℕ → Option ℕ) → StandsInQueue cpus out x next Idle → has x cpus ≡ false
outside cpus out x next s = s

-- one that has the object is the first
pub first_if : (cpus : List ℕ) (out : Bool) (x : ℕ) (next : ℕ → Option ℕ) (q : Stage) → holding q ≡ true → StandsInQueue cpus out x next q → First cpus out x true
first_if cpus out x next (Mcs Holding) e s = s
first_if cpus out x next (Mcs Alone) e s = s
first_if cpus out x next (Mcs Leaving) e s = s.0
first_if cpus out x next (Mcs (Passing j)) e s = s.0
first_if cpus out x next (Mcs q) e s = absurd (true≢false (sym e))
first_if cpus out x next Idle e s = absurd (true≢false (sym e))
first_if cpus out x next Trying e s = absurd (true≢false (sym e))
first_if cpus out x next q e s = absurd s

-- the `next` of p names this now, and every other `next` what it named
pub naming_same : (next : ℕ → Option ℕ) (p : ℕ) (named : Option ℕ) → naming next p named p ≡ named
naming_same next p named = ap (λ b. cond b named (next p)) (eq-eqb p p refl)

pub naming_else : (next : ℕ → Option ℕ) (p : ℕ) (named : Option ℕ) (x : ℕ) → x ≢ p → naming next p named x ≡ next x
naming_else next p named x ne = ap (λ b. cond b named (next x)) (ne_eqb x p ne)

pub none_some : {X : Type 0} (o : Option ℕ) (j : ℕ) → o ≡ None → o ≡ Some j → X
none_some o j e f = cc

module _ (next next' : ℕ → Option ℕ) (cpus cpus' : List ℕ) (out out' : Bool) (x : ℕ) where
  -- what is to be shown, so that x stands where it stood
  record Carries : Type 0 where
    apart : has x cpus ≡ false → has x cpus' ≡ false
    ready : has x cpus ≡ false → next' x ≡ next x
    unlinked : (p : ℕ) → Follows cpus x next p None → Follows cpus' x next' p None
    linked : (p : ℕ) → Follows cpus x next p (Some x) → ((q : ℕ) × Follows cpus' x next' q (Some x)) ⊎ First cpus' out' x false
    first : (o : Bool) → First cpus out x o → First cpus' out' x o
    longer : First cpus out x true → 1 < length cpus → 1 < length cpus'
    second : (j : ℕ) → First cpus out x true → get_elem? cpus 1 ≡ some j → next x ≡ Some j → (get_elem? cpus' 1 ≡ some j) × (next' x ≡ Some j)

  carried : Carries → (q : Stage) → StandsInQueue cpus out x next q → StandsInQueue cpus' out' x next' q
  carried c Idle s = c.apart s
  carried c (Mcs Ready) s = (c.apart s.0, c.ready s.0 ∙ s.1)
  carried c (Mcs (Behind p)) s = c.unlinked p s
  carried c (Mcs (Armed p)) s = c.unlinked p s
  carried c (Mcs Waiting) s = ⊎_elim {0, 0, 0} (λ t. c.linked t.0 t.1) (λ f. inr (c.first false f)) s
  carried c (Mcs Holding) s = c.first true s
  carried c (Mcs Alone) s = c.first true s
  carried c (Mcs Leaving) s = (c.first true s.0, c.longer s.0 s.1)
  carried c (Mcs (Passing j)) s = let t = c.second j s.0 s.1 s.2 in (c.first true s.0, t.0, t.1)
  carried c Trying s = (c.apart s.0, c.ready s.0 ∙ s.1)
  carried c q s = absurd s

-- a `next` changes, and none that says where x stands
pub other_next : (next next' : ℕ → Option ℕ) (cpus : List ℕ) (out : Bool) (x : ℕ) → ((i p : ℕ) → get_elem? cpus i ≡ some p → get_elem? cpus (suc i) ≡ some x → next' p ≡ next p) → (has x cpus ≡ false → next' x ≡ next x)
    → ((j : ℕ) → next x ≡ Some j → next' x ≡ next x) → (q : Stage) → StandsInQueue cpus out x next q → StandsInQueue cpus out x next' q
other_next next next' cpus out x links free named = carried next next' cpus cpus out out x record {
  apart = λ s. s;
  ready = free;
  unlinked = λ p s. follows p None s;
  linked = λ p s. inl (p, follows p (Some x) s);
  first = λ o s. s;
  longer = λ _ long. long;
  second = λ j _ there link. (there, named j link ∙ link);
}
  where
    follows : (p : ℕ) (a : Option ℕ) → Follows cpus x next p a → Follows cpus x next' p a
    follows p a s = record { at = s.at; ahead = s.ahead; there = s.there; link = links s.at p s.ahead s.there ∙ s.link }

-- the queue grows at its end by another
pub longer_queue : (next : ℕ → Option ℕ) (cpus : List ℕ) (out : Bool) (x p : ℕ) → x ≢ p → (q : Stage) → StandsInQueue cpus out x next q → StandsInQueue (cpus ++ p ∷ []) out x next q
longer_queue next cpus out x p ne = carried next next cpus (cpus ++ p ∷ []) out out x record {
  apart = λ s. has_push x p cpus s ne;
  ready = λ _. refl;
  unlinked = λ q s. follows q None s;
  linked = λ q s. inl (q, follows q (Some x) s);
  first = λ o s. record { there = at_longer cpus (p ∷ []) 0 x s.there; object = s.object };
  longer = λ _ long. omega (arith, length-append cpus (p ∷ []));
  second = λ j _ there link. (at_longer cpus (p ∷ []) 1 j there, link);
}
  where
    follows : (q : ℕ) (a : Option ℕ) → Follows cpus x next q a → Follows (cpus ++ p ∷ []) x next q a
    follows q a s = record { at = s.at; ahead = at_longer cpus (p ∷ []) s.at q s.ahead; there = at_longer cpus (p ∷ []) (suc s.at) x s.there; link = s.link }

-- p enters an empty queue
pub first_queue : (next : ℕ → Option ℕ) (out out' : Bool) (x p : ℕ) → x ≢ p → (q : Stage) → StandsInQueue [] out x next q → StandsInQueue (p ∷ []) out' x next q
first_queue next out out' x p ne = carried next next [] (p ∷ []) out out' x record {
  apart = λ s. has_push x p [] refl ne;
  ready = λ _. refl;
  unlinked = λ q s. nobody s.at q s.ahead;
  linked = λ q s. nobody s.at q s.ahead;
  first = λ o s. nobody 0 x s.there;
  longer = λ f _. nobody 0 x f.there;
  second = λ j f _ _. nobody 0 x f.there;
}
  where
    nobody : {X : Type 0} (i y : ℕ) → get_elem? {A = ℕ} [] i ≡ some y → X
    nobody i y there = absurd (some-ne-none y (sym there))

-- the object goes to p, the first
pub taken_by : (next : ℕ → Option ℕ) (cpus : List ℕ) (x p : ℕ) → x ≢ p → get_elem? cpus 0 ≡ some p → (q : Stage) → StandsInQueue cpus false x next q → StandsInQueue cpus true x next q
taken_by next cpus x p ne head = carried next next cpus cpus false true x record {
  apart = λ s. s;
  ready = λ _. refl;
  unlinked = λ q s. s;
  linked = λ q s. inl (q, s);
  first = λ o s. absurd (ne (some-injective x p (sym s.there ∙ head)));
  longer = λ _ long. long;
  second = λ j _ there link. (there, link);
}

-- p, alone in the queue, leaves it
pub emptied_by : (next : ℕ → Option ℕ) (out : Bool) (x p : ℕ) → x ≢ p → (q : Stage) → StandsInQueue (p ∷ []) out x next q → StandsInQueue [] false x next q
emptied_by next out x p ne = carried next next (p ∷ []) [] out false x record {
  apart = λ s. refl;
  ready = λ _. refl;
  unlinked = λ q s. behind s.at x s.there;
  linked = λ q s. behind s.at x s.there;
  first = λ o s. head s.there;
  longer = λ f _. head f.there;
  second = λ j f _ _. head f.there;
}
  where
    behind : {X : Type 0} (i y : ℕ) → get_elem? (p ∷ []) (suc i) ≡ some y → X
    behind i y there = absurd (some-ne-none y (sym there))

    head : {X : Type 0} → get_elem? (p ∷ []) 0 ≡ some x → X
    head there = absurd (ne (sym (some-injective p x there)))

-- p, the first, passes to j, the second
pub passed_by : (next : ℕ → Option ℕ) (out : Bool) (p j : ℕ) (rest : List ℕ) (x : ℕ) → x ≢ p → next p ≡ Some j
    → (q : Stage) → StandsInQueue (p ∷ j ∷ rest) out x next q → StandsInQueue (j ∷ rest) false x next q
passed_by next out p j rest x ne named = carried next next line (j ∷ rest) out false x record {
  apart = λ s. has_tail x p (j ∷ rest) s;
  ready = λ _. refl;
  unlinked = λ q s. unlinked q s.at s.ahead s.there s.link;
  linked = λ q s. linked q s.at s.ahead s.there s.link;
  first = λ o s. head s.there;
  longer = λ f _. head f.there;
  second = λ k f _ _. head f.there;
}
  where
    line : List ℕ
    line = p ∷ j ∷ rest

    unlinked : (q i : ℕ) → get_elem? line i ≡ some q → get_elem? line (suc i) ≡ some x → next q ≡ None → Follows (j ∷ rest) x next q None
    unlinked q zero ahead there link = none_some (next q) j link (ap next (sym (some-injective p q ahead)) ∙ named)
    unlinked q (suc i) ahead there link = record { at = i; ahead = ahead; there = there; link = link }

    linked : (q i : ℕ) → get_elem? line i ≡ some q → get_elem? line (suc i) ≡ some x → next q ≡ Some x → ((y : ℕ) × Follows (j ∷ rest) x next y (Some x)) ⊎ First (j ∷ rest) false x false
    linked q zero ahead there link = inr record { there = there; object = refl }
    linked q (suc i) ahead there link = inl (q, record { at = i; ahead = ahead; there = there; link = link })

    head : {X : Type 0} → get_elem? line 0 ≡ some x → X
    head there = absurd (ne (sym (some-injective p x there)))

module _ (next : ℕ → Option ℕ) (cpus : List ℕ) (out : Bool) (x : ℕ) where
  -- one in the queue is the first, or behind another
  abbrev pub StandsIn : Stage → Type 0
  StandsIn q = ((o : Bool) × First cpus out x o) ⊎ ((p : ℕ) × Follows cpus x next p (cond (is_linked q) (Some x) None))

  pub stands_in : (q : Stage) → has x cpus ≡ true → StandsInQueue cpus out x next q → StandsIn q
  stands_in Idle e s = absurd (true≢false (sym e ∙ s))
  stands_in (Mcs Ready) e s = absurd (true≢false (sym e ∙ s.0))
  stands_in (Mcs (Behind p)) e s = inr (p, s)
  stands_in (Mcs (Armed p)) e s = inr (p, s)
  stands_in (Mcs Waiting) e s = ⊎_elim {0, 0, 0} (λ t. inr t) (λ f. inl (false, f)) s
  stands_in (Mcs Holding) e s = inl (true, s)
  stands_in (Mcs Alone) e s = inl (true, s)
  stands_in (Mcs Leaving) e s = inl (true, s.0)
  stands_in (Mcs (Passing j)) e s = inl (true, s.0)
  stands_in Trying e s = absurd (true≢false (sym e ∙ s.0))
  stands_in q e s = absurd s
