use Rattle.std.proofs.Common.{subst}
use Rattle.std.specs.Prelude.{◌≡◌, ◌↔◌}
use Rattle.auditor.specs.{ByModels.SoundBy, Faults.IsFirstFaultBy, StepModels.object_model, Terms.starts, ReceivedRun.{ReceivedRun, run_of}, Transcripts.opened_by}
use Rattle.auditor.proofs.{Feeding.{has_logs, whole_run, all_transcripts, none_open}, JudgeTerms.run_over, ObjectModels.sound_both}
use Rattle.auditor.specs.declared.fault.Verdict.TheVariants as verdict
use Rattle.auditor.proofs.judge.judge_run.Goals as goal

pub verdict-requires-clause-logs : goal.verdict-requires-clause-logs
verdict-requires-clause-logs g c = has_logs (starts g.O.SeqObject (opened_by c.args.opened_objects.now)) c.args.run.now (run_over g.O.SeqObject c.args.opened_objects.now c.args.run.now c.requires) c.feed_transcripts.new.judged c.feed_transcripts.ensures

pub verdict-requires-clause-transcripts : goal.verdict-requires-clause-transcripts
verdict-requires-clause-transcripts g c = all_transcripts (starts g.O.SeqObject (opened_by c.args.opened_objects.now)) c.args.run.now (run_over g.O.SeqObject c.args.opened_objects.now c.args.run.now c.requires) c.feed_transcripts.new.judged c.feed_transcripts.ensures

pub verdict-requires-clause-entries : goal.verdict-requires-clause-entries
verdict-requires-clause-entries g c = none_open (starts g.O.SeqObject (opened_by c.args.opened_objects.now)) c.args.run.now (run_over g.O.SeqObject c.args.opened_objects.now c.args.run.now c.requires) c.feed_transcripts.new.judged c.feed_transcripts.ensures

pub verdict-requires-clause-run : goal.verdict-requires-clause-run
verdict-requires-clause-run g c = whole_run (starts g.O.SeqObject (opened_by c.args.opened_objects.now)) c.args.run.now (run_over g.O.SeqObject c.args.opened_objects.now c.args.run.now c.requires) c.feed_transcripts.new.judged c.feed_transcripts.ensures

pub returns-clause-sound : goal.returns-clause-sound
returns-clause-sound g c = sound_both g.O.SeqObject (opened_by c.args.opened_objects.now) c.args.run.now
    (subst (λ (d : ReceivedRun _ _ _ _ _). (c.verdict.result ≡ verdict.Sound) ↔ SoundBy (object_model g.O.SeqObject) d.opened (run_of d)) c.feed_transcripts.ensures c.verdict.ensures.sound)

pub returns-clause-fault : goal.returns-clause-fault
returns-clause-fault g c = λ f. subst (λ (d : ReceivedRun _ _ _ _ _). (c.verdict.result ≡ verdict.Unsound f) ↔ IsFirstFaultBy (object_model g.O.SeqObject) d.opened (run_of d) f) c.feed_transcripts.ensures (c.verdict.ensures.fault f)
