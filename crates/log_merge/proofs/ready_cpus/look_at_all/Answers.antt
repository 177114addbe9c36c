use Rattle.std.proofs.Common.{◌≢◌, ℕ, refl, sym, subst, arith, ◌∙◌}
use mathlib.Core.Logic.{dite}
use native.Mathlib.Decide.{ℕ_discrete}
use Rattle.log_merge.specs.WhoCanCome.{IsRight}
use Rattle.log_merge.proofs.Waking.{through}
use Rattle.log_merge.proofs.ready_cpus.look_at_all.Goals as goal

pub loop-cpu-init : goal.loop-cpu-init
loop-cpu-init g c = record {
  room = refl;
  right = λ k lt. absurd (omega (arith, lt));
  others = λ k le. (λ flag. flag, λ flag. flag);
}

pub loop-cpu-preserved : goal.loop-cpu-preserved
loop-cpu-preserved g c =
    let i = c.loop-cpu.invariant in
    let e = c.look.ensures in
    record {
      room = e.room ∙ i.room;
      right = λ k lt. dite (ℕ_discrete k c.loop-cpu.cpu)
          (λ here. subst (λ (n : ℕ). IsRight (g.S.RunShape.run c.args.shape.now) c.args.at.now c.args.placed.now c.look.new.flags n) (sym here) e.right)
          (λ off. through (e.others k off) (i.right k (omega (arith, lt, off))));
      others = λ k le. let off : k ≢ c.loop-cpu.cpu = omega (arith, le) in through (e.others k off) (i.others k le);
    }
