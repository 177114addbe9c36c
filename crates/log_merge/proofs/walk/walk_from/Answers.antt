use Rattle.std.proofs.Common.{◌≡◌, ◌++◌, ◌∷◌, [], ℕ, List, false, length, get_or, slice_index, sym, ap, ◌∙◌, subst, arith, length-append}
use Rattle.event_log.specs.Distinct.{has, AreDistinctBelow}
use Rattle.event_log.proofs.Distinct.{distinct_push, distinct_length}
use Rattle.log_merge.specs.{Chains.Chain, FoundCycles.IsLeastLeft, Prefixes.IsBlocked}
use Rattle.log_merge.proofs.{Placing.{has_transcript, head_append}, Stuck.left, Rotations.chain_join}
use Rattle.log_merge.proofs.walk.walk_from.Goals as goal

pub loop-i-smaller : goal.loop-i-smaller
loop-i-smaller g c =
    let walk = c.loop-i.walk.items in
    let cpu = c.loop-i.cpu in
    let items : c.push.new.self.items ≡ walk ++ cpu ∷ [] = c.in_ok-push.ensures.items in
    let few = distinct_length (length c.args.at.now) walk c.loop-i.invariant.different in
    let n = ap length items ∙ length-append walk (cpu ∷ []) in
    omega (arith, few, n)

pub loop-i-preserved : goal.loop-i-preserved
loop-i-preserved g c =
    let walk = c.loop-i.walk.items in
    let cpu = c.loop-i.cpu in
    let run = g.S.RunShape.run c.args.shape.now in
    let at = c.args.at.now in
    let placed = c.args.placed.now in
    let by = c.in-Waits.by in
    let i = c.loop-i.invariant in
    let stuck = c.requires.stuck.1 in
    let items : c.push.new.self.items ≡ walk ++ cpu ∷ [] = c.in_ok-push.ensures.items in
    let absent : has cpu walk ≡ false = ap (has cpu) (sym c.as_slice.ensures.value) ∙ c.in_default.ensures in
    let more = left run c.requires.matched c.requires.stuck.0 at placed stuck.front cpu by c.in-Waits.ensures (stuck.none by) in
    let exists = has_transcript run.transcripts by (get_or at by 0) more in
    let cpus = stuck.ready.cpus in
    record {
      start = ap (λ (l : List ℕ). get_or (l ++ by ∷ []) 0 0) items ∙ (head_append (walk ++ cpu ∷ []) (by ∷ []) (omega (arith, length-append walk (cpu ∷ []))) ∙ i.start);
      different = subst (AreDistinctBelow (length at)) (sym items) (distinct_push (length at) walk cpu i.different i.cpu absent);
      waits = subst (λ (l : List ℕ). Chain (IsBlocked run (slice_index at) (slice_index placed)) l by) (sym items) (chain_join (IsBlocked run (slice_index at) (slice_index placed)) walk cpu [] by i.waits c.in-Waits.ensures);
      cpu = omega (arith, exists, cpus);
      left = more;
    }

pub returns-in-Some : goal.returns-in-Some
returns-in-Some g c =
    let walk = c.loop-i.walk.items in
    let run = g.S.RunShape.run c.args.shape.now in
    let at = c.args.at.now in
    let inv = c.loop-i.invariant in
    let same : c.as_slice.result.now ≡ walk = c.as_slice.ensures.value in
    let cpus = c.requires.stuck.1.ready.cpus in
    let long = ap length same in
    let within = c.in-Some.ensures.0 in
    let here = ap (λ (l : List ℕ). get_or l c.in-Some.i 0) (sym same) ∙ c.in-Some.ensures.1 in
    let start = sym (head_append walk (c.loop-i.cpu ∷ []) (omega (arith, within, long))) ∙ inv.start in
    record {
      start = subst (IsLeastLeft run (slice_index at)) (sym start) c.requires.least;
      different = subst (λ (n : ℕ). AreDistinctBelow n walk) cpus inv.different;
      waits = subst (Chain (IsBlocked run (slice_index at) (slice_index c.args.placed.now)) walk) (sym here) inv.waits;
      within = omega (arith, within, long);
    }
