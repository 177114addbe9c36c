use Rattle.std.proofs.{Common.{inl, inr, ℕ, length, get_or, sym, ◌∙◌, subst, arith}, lemmas.Bool.cases_lt}
use mathlib.Core.Logic.{dite}
use native.Mathlib.Decide.{ℕ_discrete}
use Rattle.log_merge.specs.WhoCanCome.{IsRight}
use Rattle.log_merge.proofs.{Shaped.by_of, Waking.{through, event_within}}
use Rattle.log_merge.proofs.ready_cpus.look_behind.Goals as goal

pub look-requires-clause-cpu : goal.look-requires-clause-cpu
look-requires-clause-cpu g c =
    let next = by_of _ c.in-Some.by c.in-Some.ensures in
    let within = event_within (g.S.RunShape.run c.args.shape.now) c.requires.matched c.args.object (get_or c.args.placed.now c.args.object 0) next.event next.there in
    let cpus = c.requires.ready.cpus in
    omega (arith, within, cpus, next.is_by)

pub returns-in-Some : goal.returns-in-Some
returns-in-Some g c =
    let run = g.S.RunShape.run c.args.shape.now in
    let next = by_of _ c.in-Some.by c.in-Some.ensures in
    let e = c.look.ensures in
    let room = c.requires.room in
    let kept = e.room in
    record {
      room = omega (arith, room, kept);
      right = λ cpu. dite (ℕ_discrete cpu c.in-Some.by)
          (λ here. subst (λ (n : ℕ). IsRight run c.args.at.now c.args.placed.now c.look.new.flags n) (sym here) e.right)
          (λ off. through (e.others cpu off) (c.requires.others cpu (λ wakes. off (sym (wakes.next next.event next.there) ∙ next.is_by))));
    }

pub returns-in-None : goal.returns-in-None
returns-in-None g c =
    let e = c.look_at_all.ensures in
    let room = c.requires.room in
    let kept = e.room in
    let cpus = c.requires.ready.cpus in
    record {
      room = omega (arith, room, kept);
      right = λ cpu. elim (cases_lt cpu (length c.args.at.now)) [
        | inl within ↦ e.right cpu within
        | inr beyond ↦ through (e.others cpu beyond) (c.requires.others cpu (λ wakes. let there = wakes.there in absurd (omega (arith, there, cpus, beyond))))
      ];
    }
