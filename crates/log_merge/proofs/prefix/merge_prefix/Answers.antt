use Rattle.std.proofs.Common.{slice_index, ◌≡◌, ◌<◌, ◌++◌, ◌∷◌, [], ℕ, List, length, take, drop, sym, ap, ◌∙◌, subst, arith}
use Rattle.sound_run.specs.declared.place.Place.{Place}
use Rattle.log_merge.specs.{Prefixes.{IsPrefix, CanCome}, Least.{IsLeastNext, TakesTheLeast}, Nexts.{IsReady, left_in}, WhoCanCome.SaysWhoCanCome}
use Rattle.log_merge.proofs.{Leasts.{least_next, least_start, least_push}, Placing.{ready_of, ready_at_start, prefix_at_start, refilled}, Waking.can_within}
use Rattle.log_merge.proofs.prefix.merge_prefix.Goals as goal

pub flags_of-requires : goal.flags_of-requires
flags_of-requires g c =
    ready_at_start (g.S.RunShape.run c.args.shape.now) c.requires.matched c.requires.whole c.as_slice.result.now c.as_slice-2.result.now c.cpus.result c.objects.result
    (c.as_slice.ensures.value ∙ c.in_ok-at.ensures) (c.as_slice-2.ensures.value ∙ c.in_ok-placed.ensures) c.cpus.ensures c.objects.ensures

pub loop-cpu-init : goal.loop-cpu-init
loop-cpu-init g c =
    let run = g.S.RunShape.run c.args.shape.now in
    let at = c.in_ok-at.at.items in
    let placed = c.in_ok-placed.placed.items in
    let n = c.cpus.result in
    let m = c.objects.result in
    let front : IsPrefix run [] at placed = prefix_at_start run at placed n m c.in_ok-at.ensures c.in_ok-placed.ensures in
    record {
      ready = ready_at_start run c.requires.matched c.requires.whole at placed n m c.in_ok-at.ensures c.in_ok-placed.ensures c.cpus.ensures c.objects.ensures;
      front = subst (λ (o : List Place). IsPrefix run o at placed) (sym c.new-places.ensures.items) front;
      least = subst (TakesTheLeast run) (sym c.new-places.ensures.items) (least_start run);
      flags = subst (λ (z : List ℕ × List ℕ). SaysWhoCanCome run z.0 z.1 c.in_ok-flags.flags) (λ j. (c.as_slice.ensures.value j, c.as_slice-2.ensures.value j)) c.in_ok-flags.ensures;
    }

pub place_next-place-requires : goal.place_next-place-requires
place_next-place-requires g c =
    let run = g.S.RunShape.run c.args.shape.now in
    let i = c.loop-cpu.invariant in
    let cpu = c.in-Some.cpu in
    let same : (c.loop-cpu.at.items, c.loop-cpu.placed.items) ≡ (c.as_mut_slice.result.now, c.as_mut_slice-in-Some.result.now)
    = λ j. (sym c.as_mut_slice.ensures.value j, sym c.as_mut_slice-in-Some.ensures.value j) in
    let flags : SaysWhoCanCome run c.as_mut_slice.result.now c.as_mut_slice-in-Some.result.now c.loop-cpu.flags = subst (λ (z : List ℕ × List ℕ). SaysWhoCanCome run z.0 z.1 c.loop-cpu.flags) same i.flags in
    let ready : IsReady run c.as_mut_slice.result.now c.as_mut_slice-in-Some.result.now = subst (λ (z : List ℕ × List ℕ). IsReady run z.0 z.1) same i.ready in
    let comes = (flags.right cpu).0 c.in-Some.ensures.0 in
    let there = can_within run (slice_index c.as_mut_slice.result.now) (slice_index c.as_mut_slice-in-Some.result.now) cpu comes in
    let cpus = ready.cpus in
    record {
      ready = ready;
      front = (c.loop-cpu.places.items, subst (λ (z : List ℕ × List ℕ). IsPrefix run c.loop-cpu.places.items z.0 z.1) same i.front);
      flags = flags;
      cpu = omega (arith, there, cpus);
      comes = comes;
      matched = c.requires.matched;
      whole = c.requires.whole;
    }

pub loop-cpu-smaller : goal.loop-cpu-smaller
loop-cpu-smaller g c =
    let run = g.S.RunShape.run c.args.shape.now in
    let at = c.as_mut_slice.result.now in
    let placed = c.as_mut_slice-in-Some.result.now in
    let at_new = c.place_next-place.new.at in
    let placed_new = c.place_next-place.new.placed in
    let e = c.place_next-place.ensures in
    let at_is : take c.loop-cpu.at.len (at_new ++ drop (length at_new) c.loop-cpu.at.items) ≡ at_new = refilled c.loop-cpu.at.len at_new at c.loop-cpu.at.items e.cpus c.as_mut_slice.ensures.len in
    let placed_is : take c.loop-cpu.placed.len (placed_new ++ drop (length placed_new) c.loop-cpu.placed.items) ≡ placed_new = refilled c.loop-cpu.placed.len placed_new placed c.loop-cpu.placed.items e.logs c.as_mut_slice-in-Some.ensures.len in
    let less : left_in run.transcripts at_new < left_in run.transcripts at = e.less in
    let a : left_in run.transcripts (take c.loop-cpu.at.len (at_new ++ drop (length at_new) c.loop-cpu.at.items)) ≡ left_in run.transcripts at_new = ap (left_in run.transcripts) at_is in
    let b : left_in run.transcripts at ≡ left_in run.transcripts c.loop-cpu.at.items = ap (left_in run.transcripts) c.as_mut_slice.ensures.value in
    omega (arith, less, a, b)

pub loop-cpu-preserved : goal.loop-cpu-preserved
loop-cpu-preserved g c =
    let run = g.S.RunShape.run c.args.shape.now in
    let at = c.as_mut_slice.result.now in
    let placed = c.as_mut_slice-in-Some.result.now in
    let at_new = c.place_next-place.new.at in
    let placed_new = c.place_next-place.new.placed in
    let e = c.place_next-place.ensures in
    let at_is : take c.loop-cpu.at.len (at_new ++ drop (length at_new) c.loop-cpu.at.items) ≡ at_new = refilled c.loop-cpu.at.len at_new at c.loop-cpu.at.items e.cpus c.as_mut_slice.ensures.len in
    let placed_is : take c.loop-cpu.placed.len (placed_new ++ drop (length placed_new) c.loop-cpu.placed.items) ≡ placed_new = refilled c.loop-cpu.placed.len placed_new placed c.loop-cpu.placed.items e.logs c.as_mut_slice-in-Some.ensures.len in
    let order = c.loop-cpu.places.items in
    let i = c.loop-cpu.invariant in
    let now : IsPrefix run order at placed = subst (λ (z : List ℕ × List ℕ). IsPrefix run order z.0 z.1) (λ j. (sym c.as_mut_slice.ensures.value j, sym c.as_mut_slice-in-Some.ensures.value j)) i.front in
    let next : IsPrefix run (order ++ c.place_next-place.result ∷ []) at_new placed_new = e.front order now in
    let says : SaysWhoCanCome run at placed c.loop-cpu.flags = subst (λ (z : List ℕ × List ℕ). SaysWhoCanCome run z.0 z.1 c.loop-cpu.flags) (λ j. (sym c.as_mut_slice.ensures.value j, sym c.as_mut_slice-in-Some.ensures.value j)) i.flags in
    let comes = (says.right c.in-Some.cpu).0 c.in-Some.ensures.0 in
    let first : (cpu : ℕ) → cpu < c.in-Some.cpu → CanCome run (slice_index at) (slice_index placed) cpu → ⊥
    = λ cpu lt can. c.in-Some.ensures.1 cpu lt ((says.right cpu).1 can) in
    let least = subst (IsLeastNext run order) (sym e.place) (least_next run order at placed now c.in-Some.cpu comes first) in
    let items : c.push.new.self.items ≡ order ++ c.place_next-place.result ∷ [] = c.in_ok-push.ensures.items in
    let front : IsPrefix run c.push.new.self.items at_new placed_new = subst (λ (o : List Place). IsPrefix run o at_new placed_new) (sym items) next in
    let ready : IsReady run at_new placed_new = ready_of run c.requires.matched c.requires.whole c.push.new.self.items at_new placed_new front
    (e.cpus ∙ (ap length c.as_mut_slice.ensures.value ∙ i.ready.cpus)) (e.logs ∙ (ap length c.as_mut_slice-in-Some.ensures.value ∙ i.ready.logs)) in
    record {
      ready = subst (λ (z : List ℕ × List ℕ). IsReady run z.0 z.1) (λ j. (sym at_is j, sym placed_is j)) ready;
      front = subst (λ (z : List ℕ × List ℕ). IsPrefix run c.push.new.self.items z.0 z.1) (λ j. (sym at_is j, sym placed_is j)) front;
      least = subst (TakesTheLeast run) (sym items) (least_push run order c.place_next-place.result i.least least);
      flags = subst (λ (z : List ℕ × List ℕ). SaysWhoCanCome run z.0 z.1 c.place_next-place.new.flags) (λ j. (sym at_is j, sym placed_is j)) e.flags;
    }

pub returns-clause-stuck : goal.returns-clause-stuck
returns-clause-stuck g c =
    let run = g.S.RunShape.run c.args.shape.now in
    record {
      front = c.loop-cpu.invariant.front;
      ready = c.loop-cpu.invariant.ready;
      none = λ cpu can. c.in_default.ensures cpu ((c.loop-cpu.invariant.flags.right cpu).1 can);
    }
