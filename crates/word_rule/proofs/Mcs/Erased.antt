-- What `erase` leaves out of an MCS lock: tries that are prepared, and the `next` of a CPU that is idle.
use Rattle.std.proofs.Common.{◌≡◌, ◌≢◌, ℕ, Bool, cond, List, eq-eqb, ne_eqb, refl, sym, ap, ◌∙◌, subst, Option, None}
use mathlib.Core.Logic.{dite}
use native.Mathlib.Decide.{ℕ_discrete}
use Rattle.word_rule.specs.{declared.lock_kind.Stage.Stage, declared.lock_kind.Stage.TheVariants.{Idle, Mcs, Trying}, Line.{going, lined, moved}, Mcs.State.{McsLock, is_linked, naming, erased_next, untried, without_tries}, Mcs.Try.prepare}

pub untried_twice : (q : Stage) → untried (untried q) ≡ untried q
untried_twice Trying = refl
untried_twice q = refl

pub next_erased : (q : Stage) (named : Option ℕ) → erased_next (untried q) named ≡ erased_next q named
next_erased Trying named = refl
next_erased q named = refl

pub next_twice : (q : Stage) (named : Option ℕ) → erased_next q (erased_next q named) ≡ erased_next q named
next_twice (Mcs q) named = refl
next_twice q named = refl

pub linked_erased : (q : Stage) → is_linked (untried q) ≡ is_linked q
linked_erased Trying = refl
linked_erased q = refl

pub erased_twice : (l : McsLock) → without_tries (without_tries l) ≡ without_tries l
erased_twice l k = record {
  line = record { cpus = l.line.cpus; out = l.line.out; stage = λ x. untried_twice (l.line.stage x) k };
  extra = λ x. (next_erased (l.line.stage x) (erased_next (l.line.stage x) (l.extra x)) ∙ next_twice (l.line.stage x) (l.extra x)) k;
}

-- what stands at one place of two locks, and what its `next` names, apart from what `erase` leaves out
pub record Alike (stage stage' : Stage) (next next' : Option ℕ) : Type 0 where
  pub stands : untried stage' ≡ untried stage
  pub names : erased_next stage' next' ≡ erased_next stage next

-- two locks at which each CPU stands alike
pub erased_alike : (l l' : McsLock) → l'.line.cpus ≡ l.line.cpus → l'.line.out ≡ l.line.out → ((x : ℕ) → Alike (l.line.stage x) (l'.line.stage x) (l.extra x) (l'.extra x)) → without_tries l' ≡ without_tries l
erased_alike l l' cpus out each k = record {
  line = record { cpus = cpus k; out = out k; stage = λ x. let a = each x in a.stands k };
  extra = λ x. let a = each x in a.names k;
}

-- what is shown of what stands at a place
abbrev Four : Stage × Stage × Option ℕ × Option ℕ → Type 0
Four z = Alike z.0 z.1 z.2 z.3

module _ (i : ℕ) where
  moved_here : (stage : ℕ → Stage) (q : Stage) (x : ℕ) → x ≡ i → moved stage i q x ≡ q
  moved_here stage q x is = ap (λ b. cond b q (stage x)) (eq-eqb x i is)

  moved_there : (stage : ℕ → Stage) (q : Stage) (x : ℕ) → x ≢ i → moved stage i q x ≡ stage x
  moved_there stage q x ne = ap (λ b. cond b q (stage x)) (ne_eqb x i ne)

  -- a CPU goes elsewhere at each of two locks that are alike
  pub erased_moved : (cpus : List ℕ) (out : Bool) (stage stage' : ℕ → Stage) (q q' : Stage) (next next' : ℕ → Option ℕ) → Alike q q' (next i) (next' i) → ((x : ℕ) → x ≢ i → Alike (stage x) (stage' x) (next x) (next' x))
      → without_tries record { line = lined cpus out stage' i q'; extra = next' } ≡ without_tries record { line = lined cpus out stage i q; extra = next }
  erased_moved cpus out stage stage' q q' next next' here others = erased_alike record { line = lined cpus out stage i q; extra = next } record { line = lined cpus out stage' i q'; extra = next' } refl refl each
    where
      each : (x : ℕ) → Alike (moved stage i q x) (moved stage' i q' x) (next x) (next' x)
      each x = dite (ℕ_discrete x i)
          (λ is. subst Four (λ k. (sym (moved_here stage q x is) k, sym (moved_here stage' q' x is) k, next (sym is k), next' (sym is k))) here)
          (λ ne. subst Four (λ k. (sym (moved_there stage q x ne) k, sym (moved_there stage' q' x ne) k, next x, next' x)) (others x ne))

module _ (l : McsLock) (i : ℕ) where
  -- one CPU stands elsewhere, where it is alike
  pub erased_going : (q : Stage) → Alike (l.line.stage i) q (l.extra i) (l.extra i) → without_tries (record l { line = going l.line i q }) ≡ without_tries l
  erased_going q here = erased_alike l (record l { line = going l.line i q }) refl refl (λ x. dite (ℕ_discrete x i)
      (λ is. subst Four (λ k. (l.line.stage (sym is k), sym (moved_here i l.line.stage q x is) k, l.extra (sym is k), l.extra (sym is k))) here)
      (λ ne. subst Four (λ k. (l.line.stage x, sym (moved_there i l.line.stage q x ne) k, l.extra x, l.extra x)) record { stands = refl; names = refl }))

  -- one that is idle prepares a try
  pub erased_prepared : l.line.stage i ≡ Idle → without_tries (prepare l i) ≡ without_tries l
  erased_prepared idle = erased_alike l (prepare l i) refl refl (λ x. dite (ℕ_discrete x i)
      (λ is. subst Four (λ k. (sym (ap l.line.stage is ∙ idle) k, sym (moved_here i l.line.stage Trying x is) k, l.extra x, naming l.extra i None x)) record { stands = refl; names = refl })
      (λ ne. subst Four (λ k. (l.line.stage x, sym (moved_there i l.line.stage Trying x ne) k, l.extra x, sym (ap (λ b. cond b None (l.extra x)) (ne_eqb x i ne)) k)) record { stands = refl; names = refl }))

  -- one that has prepared a try, without it
  abbrev pub unprepared : McsLock
  unprepared = record l { line = going l.line i Idle }

  -- and prepared again
  pub prepared_again : l.line.stage i ≡ Trying → l.extra i ≡ None → prepare unprepared i ≡ l
  prepared_again trying clear k = record { line = record { cpus = l.line.cpus; out = l.line.out; stage = λ x. stages x k }; extra = λ x. nexts x k }
    where
      stages : (x : ℕ) → moved (moved l.line.stage i Idle) i Trying x ≡ l.line.stage x
      stages x = dite (ℕ_discrete x i)
          (λ is. moved_here i (moved l.line.stage i Idle) Trying x is ∙ sym (ap l.line.stage is ∙ trying))
          (λ ne. moved_there i (moved l.line.stage i Idle) Trying x ne ∙ moved_there i l.line.stage Idle x ne)

      nexts : (x : ℕ) → naming l.extra i None x ≡ l.extra x
      nexts x = dite (ℕ_discrete x i)
          (λ is. ap (λ b. cond b None (l.extra x)) (eq-eqb x i is) ∙ sym (ap l.extra is ∙ clear))
          (λ ne. ap (λ b. cond b None (l.extra x)) (ne_eqb x i ne))
