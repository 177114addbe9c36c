use Rattle.std.proofs.Common.{◌≡◌, ◌<◌, ◌≤◌, ℕ, List, length, map, drop, slice_index, sym, ap, ◌∙◌, subst}
use Rattle.std.specs.List.{AllByRecursion}
use Rattle.sound_run.specs.Sound.{transcript_of}
use Rattle.log_merge.specs.{FoundCycles.{next_place, IsWalk, IsRotated}, Merging.IsLeastOrder}
use Rattle.log_merge.proofs.{Cycles.{merged_cycle, merged_order}, Placing.{all_below, all_drop}}
use Rattle.log_merge.proofs.run_merge.merge_run.Goals as goal

pub returns-in_default : goal.returns-in_default
returns-in_default g c =
    let run = g.S.RunShape.run c.args.shape.now in
    let prefix = c.in_ok-prefix.prefix in
    let ended = subst (λ (at : List ℕ). (cpu : ℕ) → length (transcript_of cpu run) ≤ slice_index at cpu) c.as_slice-at.ensures.value c.in_default.ensures in
    subst (IsLeastOrder run) (sym c.from_vec.ensures) (merged_order run c.requires.matched prefix.places.items prefix.at.items prefix.placed.items c.in_ok-prefix.ensures.stuck c.in_ok-prefix.ensures.least ended)

pub rotated-requires-clause-within : goal.rotated-requires-clause-within
rotated-requires-clause-within g c =
    let below = λ (cpu : ℕ). cpu < length c.as_slice-at.result.now in
    let walk = c.in_ok-walk.walk.items in
    let cpus : length (g.S.RunShape.run c.args.shape.now).transcripts ≡ length c.as_slice-at.result.now = sym (ap length c.as_slice-at.ensures.value ∙ c.in_ok-prefix.ensures.stuck.ready.cpus) in
    let all = subst (λ (n : ℕ). AllByRecursion (λ cpu. cpu < n) walk) cpus (all_below (length (g.S.RunShape.run c.args.shape.now).transcripts) walk c.in_ok-walk.ensures.different) in
    subst (AllByRecursion below) (sym (c.split_at.ensures.back ∙ ap (drop c.in_ok-walk.back) c.as_slice.ensures.value)) (all_drop below walk c.in_ok-walk.back all)

pub returns : goal.returns
returns g c =
    let run = g.S.RunShape.run c.args.shape.now in
    let prefix = c.in_ok-prefix.prefix in
    let walk = c.in_ok-walk.walk.items in
    let back = c.in_ok-walk.back in
    let found = c.in_ok-cycle.ensures in
    let walked = subst (λ (z : List ℕ × List ℕ). IsWalk run (slice_index z.0) (slice_index z.1) walk back) (λ j. (c.as_slice-at.ensures.value j, c.as_slice-placed.ensures.value j)) c.in_ok-walk.ensures in
    let rotated = subst (λ (l : List ℕ). IsRotated l found.0) (c.split_at.ensures.back ∙ ap (drop back) c.as_slice.ensures.value) found.1 in
    let places = c.from_vec-2.ensures ∙ (found.2 ∙ ap (λ (at : List ℕ). map (next_place (slice_index at)) found.0) c.as_slice-at.ensures.value) in
    merged_cycle run c.requires.matched prefix.places.items prefix.at.items prefix.placed.items c.in_ok-prefix.ensures.stuck c.in_ok-prefix.ensures.least walk back walked c.from_vec-2.result found.0 rotated places
