use Rattle.std.proofs.{Common.{◌≡◌, suc, ◌+◌, ◌-◌, ◌++◌, List, length, length-append, map, [], ◌∷◌, true, false, sym, ◌∙◌, ap, arith, option_map}, lemmas.List.map-append}
use Rattle.custom_records.specs.{LineReading.new_name_in, declared.settings.TheConstants.MOST_WORDS}
use Rattle.custom_records.proofs.{LineSteps.{left_some, left_none, new_done, new_full, new_step, new_wrong, no_word_left}, refusing.names.Goals.{else-loop-test, then-loop-test+in_default}}
use Rattle.record_lines.specs.Reading.{left}
use Rattle.custom_records.proofs.refusing.names.Goals as goal

pub returns-in_default-new_name : goal.returns-in_default-new_name
returns-in_default-new_name c =
    let turn : MOST_WORDS - c.loop.counter ≡ suc (MOST_WORDS - (c.loop.counter + 1)) = omega (arith, c.loop-test.true) in
    let so_far = rw turn at c.loop.invariant.reads in
    let old = ap (λ (l : List _). new_name_in (map (λ w. w.bytes) l) c.in-Some.word.now) (sym c.deref.ensures.value) ∙ (sym c.new_name.ensures ∙ ap (option_map _) c.in_default-new_name.is) in
    sym (so_far ∙ new_wrong _ (MOST_WORDS - (c.loop.counter + 1)) (left c.loop.left) (left c.in-Some.rest) c.in-Some.word.now (sym c.word.ensures ∙ ap (option_map _) c.in-Some.is) old)

pub loop-preserved : goal.loop-preserved
loop-preserved c =
    let turn : MOST_WORDS - c.loop.counter ≡ suc (MOST_WORDS - (c.loop.counter + 1)) = omega (arith, c.loop-test.true) in
    let so_far = rw turn at c.loop.invariant.reads in
    let new = ap (λ (l : List _). new_name_in (map (λ w. w.bytes) l) c.in-Some.word.now) (sym c.deref.ensures.value) ∙ (sym c.new_name.ensures ∙ ap (option_map _) c.in-Some-new_name.is) in
    let items : c.push.new.self.items ≡ c.loop.refusing.items ++ c.in-Some-new_name.name ∷ [] = c.in_ok-push.ensures.items in
    record {
      count = omega (arith, ap length items, length-append c.loop.refusing.items (c.in-Some-new_name.name ∷ []), c.loop.invariant.count);
      reads = so_far ∙ new_step _ _ (MOST_WORDS - (c.loop.counter + 1)) (left c.loop.left) (left c.in-Some.rest) c.in-Some.word.now _ (sym c.word.ensures ∙ ap (option_map _) c.in-Some.is) new
          (ap (map (λ w. w.bytes)) items ∙ map-append (λ w. w.bytes) c.loop.refusing.items (c.in-Some-new_name.name ∷ []));
    }

pub returns-then-is_none : goal.returns-then-is_none
returns-then-is_none c = sym (c.loop.invariant.reads ∙ new_done _ (MOST_WORDS - c.loop.counter) (left c.loop.left) (left_none c.loop.left c.is_none.result c.is_none.ensures c.if-is_none.true))

pub returns-else-is_none : goal.returns-else-is_none
returns-else-is_none c =
    let some = left_some c.loop.left c.is_none.result c.is_none.ensures c.if-is_none.false in
    elim c.loop-test.branch [
      | else-loop-test w ↦ (
          let last : MOST_WORDS - c.loop.counter ≡ 0 = omega (arith, w.loop-test) in
          let so_far = rw last at c.loop.invariant.reads in
          sym (so_far ∙ new_full _ (left c.loop.left) some))
      | then-loop-test+in_default w ↦ absurd (let both : true ≡ false = sym (no_word_left (left c.loop.left) (sym w.word.ensures ∙ ap (option_map _) w.in_default.is)) ∙ some in cc)
    ]
