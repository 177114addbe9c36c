use Rattle.std.proofs.{Common.{◌≡◌, ◌∷◌, [], ◌++◌, length, sym, ap, subst, ◌∙◌, append_assoc, slice_get}, lemmas.List.{append-nil, nil_from_length}}
use Rattle.std.specs.Vec.Iter.{into_iter_items}
use Rattle.event_log.proofs.Lists.{get_behind}
use Rattle.word_rule.specs.Cell.{EachAt}
use Rattle.guarded_cell.specs.Unused.{Covers}
use Rattle.guarded_cell.proofs.JoinedPasses.{joined_unused, covers_first, covers_more}
use Rattle.guarded_cell.proofs.unused_cell.join_unused.Goals as goal

pub loop-pass-init : goal.loop-pass-init
loop-pass-init g c =
    let gives : into_iter_items c.into_iter-pass-iterator.result ≡ c.args.others.items = c.into_iter-pass-iterator.ensures.into_iter_gives.0 in
    record { split = gives; given = c.requires.others; unused = c.requires.first; first = λ k e. e; others = λ k x there. absurd (cc) }

pub join-whole-requires : goal.join-whole-requires
join-whole-requires g c =
    let i = c.loop-pass.invariant in
    let next : into_iter_items c.loop-pass.pass-iterator ≡ c.in-Some.pass ∷ into_iter_items c.next.new.self = c.in-Some.ensures.steps.0 in
    let split : c.loop-pass.yielded ++ c.in-Some.pass ∷ into_iter_items c.next.new.self ≡ c.args.others.items = rw next at i.split in
    let there = ap (λ l. slice_get l (length c.loop-pass.yielded)) (sym split) ∙ get_behind c.loop-pass.yielded (into_iter_items c.next.new.self) c.in-Some.pass in
    let unused = i.given (length c.loop-pass.yielded) c.in-Some.pass there in
    record { first = i.unused.pass; second = unused.pass }

pub loop-pass-preserved : goal.loop-pass-preserved
loop-pass-preserved g c =
    let i = c.loop-pass.invariant in
    let next : into_iter_items c.loop-pass.pass-iterator ≡ c.in-Some.pass ∷ into_iter_items c.next.new.self = c.in-Some.ensures.steps.0 in
    let split : c.loop-pass.yielded ++ c.in-Some.pass ∷ into_iter_items c.next.new.self ≡ c.args.others.items = rw next at i.split in
    let there = ap (λ l. slice_get l (length c.loop-pass.yielded)) (sym split) ∙ get_behind c.loop-pass.yielded (into_iter_items c.next.new.self) c.in-Some.pass in
    let unused = i.given (length c.loop-pass.yielded) c.in-Some.pass there in
    let j = c.join-whole.ensures in
    let a = c.loop-pass.whole in let b = c.in-Some.pass in let w = c.join-whole.result in
    record {
      split = append_assoc c.loop-pass.yielded (c.in-Some.pass ∷ []) (into_iter_items c.next.new.self) ∙ split;
      given = i.given;
      unused = joined_unused _ a b w i.unused unused j.pass j.owned j.first_grows j.second_grows;
      first = λ k e. covers_first a b w j.owned k (i.first k e);
      others = covers_more c.loop-pass.yielded a b w j.owned i.others;
    }

pub returns-clause-others : goal.returns-clause-others
returns-clause-others g c =
    let i = c.loop-pass.invariant in
    let none : into_iter_items c.loop-pass.pass-iterator ≡ [] = nil_from_length _ (sym c.loop-pass.pass-iterator.rest.ok.0 ∙ c.in-None.ensures.steps.0) in
    let all : c.loop-pass.yielded ≡ c.args.others.items = sym (append-nil c.loop-pass.yielded) ∙ (rw none at i.split) in
    subst (λ l. EachAt (λ _ p. Covers p c.loop-pass.whole) l) all i.others
