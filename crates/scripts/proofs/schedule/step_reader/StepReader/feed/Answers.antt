use Rattle.std.proofs.{Common.{◌≡◌, ◌≤◌, ◌+◌, ◌++◌, ◌∙◌, List, ℕ, take, drop, refl, sym, subst, arith}, lemmas.List.{append-nil, take_all}}
use Rattle.sound_run.specs.declared.limits.TheConstants.{MOST_CPUS}
use Rattle.scripts.specs.{ScheduleReading.HasReadSteps, ScheduleText.IsFirstBadWord}
use Rattle.scripts.proofs.StepReading.{fed_next, fed_bad}
use Rattle.scripts.proofs.schedule.step_reader.StepReader.feed.Goals as goal

pub loop-byte-init : goal.loop-byte-init
loop-byte-init c = record {
  cpus = refl;
  read = λ text read. subst (λ (t : List ℕ). HasReadSteps c.args.self.now.cpus t c.args.self.now.steps.items c.args.self.now.word.items) (sym (append-nil text)) read;
}

pub take-requires : goal.take-requires
take-requires c = subst (λ (n : ℕ). (1 ≤ n) × (n ≤ MOST_CPUS)) (sym c.loop-byte.invariant.cpus) c.requires

pub loop-byte-preserved : goal.loop-byte-preserved
loop-byte-preserved c = record {
  cpus = c.take.ensures.cpus ∙ c.loop-byte.invariant.cpus;
  read = λ text read.
      let piece : List ℕ = c.args.piece.now in
      let i = c.loop-byte.byte-index in
      let next = c.in-Ok.ensures.ok (text ++ take i piece) (c.loop-byte.invariant.read text read) in
      subst (λ (n : ℕ). HasReadSteps n (text ++ take (i + 1) piece) c.take.new.self.steps.items c.take.new.self.word.items) (sym c.take.ensures.cpus)
      (fed_next c.loop-byte.self.cpus text piece c.take.new.self.steps.items c.take.new.self.word.items i (omega arith) next);
}

pub returns-in-Err-clause-refused : goal.returns-in-Err-clause-refused
returns-in-Err-clause-refused c = λ text more n read e.
    let piece : List ℕ = c.args.piece.now in
    let i = c.loop-byte.byte-index in
    subst (λ (m : ℕ). IsFirstBadWord m ((text ++ piece) ++ more) n) c.loop-byte.invariant.cpus
    (fed_bad c.loop-byte.self.cpus text piece more i n (omega arith) (c.take.ensures.refused (text ++ take i piece) (drop (i + 1) piece ++ more) n (c.loop-byte.invariant.read text read) (c.in-Err.is ∙ e)))

pub returns-clause-ok : goal.returns-clause-ok
returns-clause-ok c = λ text read.
    let piece : List ℕ = c.args.piece.now in
    let i = c.loop-byte.byte-index in
    let all : take i piece ≡ piece = take_all i piece (let over = c.loop-byte-test.false in omega (arith, over)) in
    subst (λ (z : ℕ × List ℕ). HasReadSteps z.0 (text ++ z.1) c.loop-byte.self.steps.items c.loop-byte.self.word.items) (λ j. (c.loop-byte.invariant.cpus j, all j)) (c.loop-byte.invariant.read text read)
