use Rattle.std.proofs.{Common.{◌≡◌, ℕ, ◌<◌, ◌∙◌, [], List, Some, None, Option, replicate, take, get_or, sym, ap, refl, arith, option_map}, lemmas.List.{take_more_set, take_all, length-set, get_or-replicate}}
use Rattle.page_pool.specs.declared.params.TheConstants.{MOST_PAGES, OWNERS}
use Rattle.kernel_words.specs.{declared.tables.field.Field.Field, Kinds.Pool.all_quotas_at, Row.{up_to, field_at}}
use Rattle.record_lines.specs.Reading.{left}
use Rattle.kernel_words.proofs.Lookups.{numbers_start, numbers_step, numbers_stop, numbers_end}
use Rattle.kernel_words.proofs.kinds.pool.all_quotas.Goals as goal

-- a quota of each owner
abbrev one : Field
one = up_to MOST_PAGES 0

abbrev all : List Field
all = replicate OWNERS one

-- each of them is read in the same range
at_place : (i : ℕ) (ws : List (List ℕ)) (read : Option (ℕ × List (List ℕ))) → i < OWNERS → field_at one ws ≡ read → field_at (get_or all i one) ws ≡ read
at_place i ws read few e = ap (λ f. field_at f ws) (get_or-replicate OWNERS i one one few) ∙ e

pub loop-place-init : goal.loop-place-init
unfolding all_quotas_at
loop-place-init c = record { count = refl; reads = numbers_start [] all (left c.args.at) refl }

pub returns-in_err-number : goal.returns-in_err-number
returns-in_err-number c =
    let i = c.loop-place.place in
    let few : i < OWNERS = omega (arith, c.loop-place-test.true) in
    ap (option_map _) c.from_residual.ensures
    ∙ sym (c.loop-place.invariant.reads ∙ numbers_stop (take i c.loop-place.quotas) all i one (left c.loop-place.left) few (at_place i (left c.loop-place.left) None few (sym c.quota.ensures ∙ ap (option_map _) c.in_err-number.was)))

pub loop-place-preserved : goal.loop-place-preserved
loop-place-preserved c =
    let i = c.loop-place.place in
    let few : i < OWNERS = omega (arith, c.loop-place-test.true) in
    let n = c.in_ok-number.number in
    let before = c.loop-place.quotas in
    let count = c.loop-place.invariant.count in
    record {
      count = length-set before i n ∙ count;
      reads = c.loop-place.invariant.reads
          ∙ numbers_step (take i before) _ all i one (left c.loop-place.left) (left c.in_ok-number.rest) n (take_more_set before i n (omega (arith, few, count))) few
          (at_place i (left c.loop-place.left) (Some (n, left c.in_ok-number.rest)) few (sym c.quota.ensures ∙ ap (option_map _) c.in_ok-number.was));
    }

pub returns : goal.returns
returns c =
    let i = c.loop-place.place in
    let count = c.loop-place.invariant.count in
    sym (c.loop-place.invariant.reads ∙ numbers_end (take i c.loop-place.quotas) all i (left c.loop-place.left) (omega (arith, c.loop-place-test.false))
    ∙ ap (λ (l : List ℕ). Some (l, left c.loop-place.left)) (take_all i c.loop-place.quotas (omega (arith, c.loop-place-test.false, count))))
