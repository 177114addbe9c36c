use Rattle.std.proofs.{Common.{◌↔◌, ◌+◌, ◌<◌, ◌++◌, ◌∷◌, [], ℕ, length, get_or, slice_index, sym, ◌∙◌, subst, arith, add-one}, lemmas.List.length-set, lemmas.Option.slice_get_within, Math.ListN.set}
use mathlib.Core.Logic.{dite}
use native.Mathlib.Decide.{ℕ_discrete}
use Rattle.sound_run.specs.Sound.{transcript_of, log_of}
use Rattle.log_merge.specs.{Prefixes.{IsPrefix, CanCome}, Nexts.{IsReady, left_in}, WhoCanCome.{IsRight, MayWake}}
use Rattle.log_merge.proofs.{Placing.{left_falls, full_next, done_next, full_ready, done_ready}, Shaped.{shaped, steps_of, full_of}, Waking.{others_after_full, others_after_done, right_still}}
use Rattle.log_merge.proofs.prefix.place_next.Goals as goal

pub overflow_add-at : goal.overflow_add-at
overflow_add-at g c =
    let there = slice_get_within (transcript_of c.args.cpu (g.S.RunShape.run c.args.shape.now)) (get_or c.args.at.now c.args.cpu 0) c.requires.comes.entry c.requires.comes.there in
    let few = c.requires.whole.entries c.args.cpu in
    omega (arith, there, few)

pub bounds-placed-object : goal.bounds-placed-object
bounds-placed-object g c =
    let its = shaped _ c.in-Some.entry c.in-Some.ensures in
    let on = c.requires.ready.objects c.args.cpu (get_or c.args.at.now c.args.cpu 0) its.entry its.there in
    let logs = c.requires.ready.logs in
    omega (arith, on, logs, its.object)

pub overflow_add-placed : goal.overflow_add-placed
overflow_add-placed g c =
    let run = g.S.RunShape.run c.args.shape.now in
    let its = shaped _ c.in-Some.entry c.in-Some.ensures in
    let steps = steps_of its.entry.done (its.steps ∙ c.in-true.is) in
    let own = c.requires.ready.left c.args.cpu its.entry steps.0 its.there steps.1 in
    let left = subst (λ (x : ℕ). get_or c.args.placed.now x 0 < length (log_of x run)) its.object own in
    let few = c.requires.whole.events c.in-Some.entry.object in
    omega (arith, left, few)

pub returns-in-true-clause-less : goal.returns-in-true-clause-less
returns-in-true-clause-less g c =
    let at = c.args.at.now in
    let there = slice_get_within (transcript_of c.args.cpu (g.S.RunShape.run c.args.shape.now)) (get_or at c.args.cpu 0) c.requires.comes.entry c.requires.comes.there in
    subst (λ (m : ℕ). left_in (g.S.RunShape.run c.args.shape.now).transcripts (set at c.args.cpu m) < left_in (g.S.RunShape.run c.args.shape.now).transcripts at) (sym (add-one (get_or at c.args.cpu 0))) (left_falls (g.S.RunShape.run c.args.shape.now).transcripts at c.args.cpu c.requires.cpu there)

pub returns-in-false-clause-less : goal.returns-in-false-clause-less
returns-in-false-clause-less g c =
    let at = c.args.at.now in
    let there = slice_get_within (transcript_of c.args.cpu (g.S.RunShape.run c.args.shape.now)) (get_or at c.args.cpu 0) c.requires.comes.entry c.requires.comes.there in
    subst (λ (m : ℕ). left_in (g.S.RunShape.run c.args.shape.now).transcripts (set at c.args.cpu m) < left_in (g.S.RunShape.run c.args.shape.now).transcripts at) (sym (add-one (get_or at c.args.cpu 0))) (left_falls (g.S.RunShape.run c.args.shape.now).transcripts at c.args.cpu c.requires.cpu there)

pub returns-in-true-clause-front : goal.returns-in-true-clause-front
returns-in-true-clause-front g c =
    let run = g.S.RunShape.run c.args.shape.now in
    let at = c.args.at.now in
    let placed = c.args.placed.now in
    let cpu = c.args.cpu in
    let its = shaped _ c.in-Some.entry c.in-Some.ensures in
    let steps = steps_of its.entry.done (its.steps ∙ c.in-true.is) in
    λ order front. subst (λ (x : ℕ). IsPrefix run (order ++ record { cpu = cpu; entry = get_or at cpu 0 } ∷ []) (set at cpu (get_or at cpu 0 + 1)) (set placed x (get_or placed x 0 + 1))) its.object
    (done_next run at placed c.requires.ready c.requires.matched cpu c.requires.cpu c.requires.comes order front its.entry its.there steps.0 steps.1)

pub returns-in-false-clause-front : goal.returns-in-false-clause-front
returns-in-false-clause-front g c =
    let its = shaped _ c.in-Some.entry c.in-Some.ensures in
    λ order front. full_next (g.S.RunShape.run c.args.shape.now) c.args.at.now c.args.placed.now c.requires.ready c.requires.matched c.args.cpu c.requires.cpu c.requires.comes order front
    its.entry its.there (full_of its.entry.done (its.steps ∙ c.in-false.is))

pub look-requires-clause-ready : goal.look-requires-clause-ready
look-requires-clause-ready g c =
    let run = g.S.RunShape.run c.args.shape.now in
    let at = c.args.at.now in
    let placed = c.args.placed.now in
    let cpu = c.args.cpu in
    let front = c.requires.front in
    let its = shaped _ c.in-Some.entry c.in-Some.ensures in
    let steps = steps_of its.entry.done (its.steps ∙ c.in-true.is) in
    subst (λ (x : ℕ). IsReady run (set at cpu (get_or at cpu 0 + 1)) (set placed x (get_or placed x 0 + 1))) its.object
    (done_ready run at placed c.requires.ready c.requires.matched cpu c.requires.cpu c.requires.comes front.0 front.1 its.entry its.there c.requires.whole steps.0 steps.1)

pub look_behind-requires-clause-ready : goal.look_behind-requires-clause-ready
look_behind-requires-clause-ready g c =
    let run = g.S.RunShape.run c.args.shape.now in
    let at = c.args.at.now in
    let placed = c.args.placed.now in
    let cpu = c.args.cpu in
    let front = c.requires.front in
    let its = shaped _ c.in-Some.entry c.in-Some.ensures in
    let steps = steps_of its.entry.done (its.steps ∙ c.in-true.is) in
    subst (λ (x : ℕ). IsReady run (set at cpu (get_or at cpu 0 + 1)) (set placed x (get_or placed x 0 + 1))) its.object
    (done_ready run at placed c.requires.ready c.requires.matched cpu c.requires.cpu c.requires.comes front.0 front.1 its.entry its.there c.requires.whole steps.0 steps.1)

pub look_behind-requires-clause-others : goal.look_behind-requires-clause-others
look_behind-requires-clause-others g c =
    let run = g.S.RunShape.run c.args.shape.now in
    let cpu = c.args.cpu in
    let at = c.args.at.now in
    let placed = c.args.placed.now in
    let n = get_or at cpu 0 + 1 in
    let x = c.in-Some.entry.object in
    let k = get_or placed x 0 + 1 in
    let its = shaped _ c.in-Some.entry c.in-Some.ensures in
    let steps = steps_of its.entry.done (its.steps ∙ c.in-true.is) in
    λ other asleep. dite (ℕ_discrete other cpu)
    (λ here. subst (λ (i : ℕ). IsRight run (set at cpu n) (set placed x k) c.look.new.flags i) (sym here) c.look.ensures.right)
    (λ off. right_still run at placed (set at cpu n) (set placed x k) c.args.flags.now c.look.new.flags other (c.requires.flags.right other) (c.look.ensures.others other off)
    (subst (λ (y : ℕ). (MayWake run (slice_index (set placed y k)) y other → ⊥) → CanCome run (slice_index at) (slice_index placed) other ↔ CanCome run (slice_index (set at cpu n)) (slice_index (set placed y k)) other) its.object
    (others_after_done run at placed cpu n c.requires.comes its.entry its.there steps.0 steps.1 k other off) asleep))

pub look-requires-in-false-clause-ready : goal.look-requires-in-false-clause-ready
look-requires-in-false-clause-ready g c =
    let front = c.requires.front in
    let its = shaped _ c.in-Some.entry c.in-Some.ensures in
    full_ready (g.S.RunShape.run c.args.shape.now) c.args.at.now c.args.placed.now c.requires.ready c.requires.matched c.args.cpu c.requires.cpu c.requires.comes front.0 front.1
    its.entry its.there c.requires.whole (full_of its.entry.done (its.steps ∙ c.in-false.is))

pub returns-in-false-clause-flags : goal.returns-in-false-clause-flags
returns-in-false-clause-flags g c =
    let run = g.S.RunShape.run c.args.shape.now in
    let cpu = c.args.cpu in
    let at = c.args.at.now in
    let placed = c.args.placed.now in
    let n = get_or at cpu 0 + 1 in
    let look = c.look-in-false in
    let kept = look.ensures.room in
    let room = c.requires.flags.room in
    let long = length-set at cpu n in
    record {
      room = omega (arith, kept, room, long);
      right = λ other. dite (ℕ_discrete other cpu)
          (λ here. subst (λ (i : ℕ). IsRight run (set at cpu n) placed look.new.flags i) (sym here) look.ensures.right)
          (λ off. right_still run at placed (set at cpu n) placed c.args.flags.now look.new.flags other (c.requires.flags.right other) (look.ensures.others other off) (others_after_full run at placed cpu n other off));
    }
