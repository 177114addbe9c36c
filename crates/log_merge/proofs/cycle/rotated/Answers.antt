use Rattle.std.proofs.{Common.{◌<◌, ◌++◌, ℕ, length, map, take, drop, slice_index, refl, sym, ◌∙◌, subst, arith}, lemmas.List.map-append}
use Rattle.std.specs.List.{AllByRecursion}
use Rattle.log_merge.specs.FoundCycles.{next_place}
use Rattle.log_merge.proofs.Placing.{all_take, all_drop, least_at}
use Rattle.log_merge.proofs.cycle.rotated.Goals as goal

pub split_at-requires : goal.split_at-requires
split_at-requires c = let b = c.least_of.ensures.0 in omega (arith, b)

pub put_next-requires : goal.put_next-requires
put_next-requires c =
    let below = λ (cpu : ℕ). cpu < length c.args.at.now in
    subst (AllByRecursion below) (sym c.split_at.ensures.back) (all_drop below c.args.cpus.now c.least_of.result c.requires.within)

pub put_next-requires-2 : goal.put_next-requires-2
put_next-requires-2 c =
    let below = λ (cpu : ℕ). cpu < length c.args.at.now in
    subst (AllByRecursion below) (sym c.split_at.ensures.front) (all_take below c.args.cpus.now c.least_of.result c.requires.within)

pub returns : goal.returns
returns c =
    let cpus = c.args.cpus.now in
    let m = c.least_of.result in
    let f = next_place (slice_index c.args.at.now) in
    let first = c.in_ok-put_next.ensures ∙ (λ j. c.new-places.ensures.items j ++ map f (c.split_at.ensures.back j)) in
    let whole = c.in_ok-put_next-2.ensures ∙ (λ j. first j ++ map f (c.split_at.ensures.front j)) in (
      drop m cpus ++ take m cpus,
      record { place = m; within = c.least_of.ensures.0; least = least_at cpus m c.least_of.ensures; is = refl },
      whole ∙ sym (map-append f (drop m cpus) (take m cpus)),
    )
