use Rattle.std.proofs.Common.{rules, ℕ, Vec, Global, ◌≡◌, [], ◌∷◌, ◌++◌, length, map, sym, ap, ◌∙◌, subst, slice_get, Some}
use Rattle.word_rule.proofs.RunLists.{extends_self}
use Rattle.guarded_cell.specs.{Calls.HasDoneCalls, Held.HasHeldFor, ManyCallers.AllHaveJoined}
use Rattle.guarded_cell.proofs.{ManyCallers.{joins_alone, none_joined, more_joined, no_items, at_place}, SoundRuns.{joins_self, joins_first, joins_second}}
use Rattle.guarded_cell.proofs.many_callers.+call_each+fn-call_each-join+arg2.Goals as goal

pub returns-then-at-eq0-clause-joined : goal.returns-then-at-eq0-clause-joined
returns-then-at-eq0-clause-joined g t c =
    let view = g.C.LockCell.pass_view in
    let run_of = g.C.LockCell.pass_run in
    let is_valid = (g.met.C.LockCell g.world.𝓛 g.world.𝓜 g.world.𝓡 ((λ s x. x), (λ x. x), (λ x. x), λ x. x)).pass_is_valid
    c.args.cell.now in
    let p = c.unwrap-pass.result in
    let ps = c.pop.new.self.items in
    let scripts = map (λ (s : Vec g.row.O-Call.Denot Global). s.items) c.args.scripts.now in
    let b = c.call_all-pass in
    let last = b.result.0 in
    let whole : c.args.passes.items ≡ ps ++ p ∷ [] = search rules in
    let count : length ps ≡ c.len-at.result = search rules in
    let nil : [] ≡ ps = no_items ps (search rules) in
    let at : slice_get scripts (length ps) ≡ Some c.as_slice-calls.result.now = search (rules, at_place) in
    let are = λ (x : ℕ) (q : g.row.C-Pass.Denot) (e : slice_get (ps ++ p ∷ []) x ≡ Some q).
    (is_valid q (c.requires.each x q (subst (λ l. slice_get l x ≡ Some q) (sym whole) e))).caller in
    let none = subst (λ l. AllHaveJoined g.O.SeqObject view run_of l scripts [] last) nil
    (none_joined g.O.SeqObject view run_of scripts last) in
    let all = more_joined g.O.SeqObject view run_of ps p scripts c.as_slice-calls.result.now [] b.result.1 last last last are none
    (joins_alone g.O.SeqObject (view p) (view last) (run_of p) (run_of last)
    c.as_slice-calls.result.now b.result.1 b.ensures.done b.ensures.run) at
    (joins_self (view last)) (extends_self (view last).caller.owned (run_of last))
    (joins_self (view last)) (extends_self (view last).caller.owned (run_of last)) (is_valid last b.ensures.pass).valid.within in
    let pushed = c.push_reserved.ensures.items ∙ ap (λ l. l ++ b.result.1 ∷ []) c.requires.room.0 in
    subst (λ l. AllHaveJoined g.O.SeqObject view run_of l scripts c.push_reserved.new.self.items last) (sym whole)
    (subst (λ l. AllHaveJoined g.O.SeqObject view run_of (ps ++ p ∷ []) scripts l last) (sym pushed) all)

pub returns-clause-joined : goal.returns-clause-joined
returns-clause-joined g t c =
    let view = g.C.LockCell.pass_view in
    let run_of = g.C.LockCell.pass_run in
    let is_valid = (g.met.C.LockCell g.world.𝓛 g.world.𝓜 g.world.𝓡 ((λ s x. x), (λ x. x), (λ x. x), λ x. x)).pass_is_valid
    c.args.cell.now in
    let p = c.unwrap-pass.result in
    let ps = c.pop.new.self.items in
    let scripts = map (λ (s : Vec g.row.O-Call.Denot Global). s.items) c.args.scripts.now in
    let both = c.join-others in
    let j = c.join in
    let others = both.result.0.0 in
    let mine = both.result.1.0 in
    let counts = both.result.0.1.items in
    let d = both.result.1.1 in
    let calls = c.as_slice-calls.result.now in
    let last = j.result in
    let whole : c.args.passes.items ≡ ps ++ p ∷ [] = search rules in
    let at : slice_get scripts (length ps) ≡ Some calls = search (rules, at_place) in
    let joined : AllHaveJoined g.O.SeqObject view run_of ps scripts counts others = search rules in
    let done : HasDoneCalls (view p) calls d (view mine) = search rules in
    let held : HasHeldFor g.O.SeqObject (view p).caller (run_of p) calls d (run_of mine) = search rules in
    let are = λ (x : ℕ) (q : g.row.C-Pass.Denot) (e : slice_get (ps ++ p ∷ []) x ≡ Some q).
    (is_valid q (c.requires.each x q (subst (λ l. slice_get l x ≡ Some q) (sym whole) e))).caller in
    let all = more_joined g.O.SeqObject view run_of ps p scripts calls counts d others mine last are joined
    (joins_alone g.O.SeqObject (view p) (view mine) (run_of p) (run_of mine) calls d done held) at
    (joins_first (view others) (view mine) (view last) j.ensures.first_cell j.ensures.owned j.ensures.first_grows) j.ensures.first_run
    (joins_second (view others) (view mine) (view last) j.ensures.second_cell j.ensures.owned j.ensures.second_grows) j.ensures.second_run
    (is_valid last j.ensures.pass).valid.within in
    subst (λ l. AllHaveJoined g.O.SeqObject view run_of l scripts c.push_reserved-2.new.self.items last) (sym whole)
    (subst (λ l. AllHaveJoined g.O.SeqObject view run_of (ps ++ p ∷ []) scripts l last) (sym c.push_reserved-2.ensures.items) all)
