use Rattle.record_lines.proofs.Recognised.{known_bound, spelled_here}
use Rattle.record_lines.proofs.forms.entries.is_recognised.Goals as goal

pub recognises-requires-clause-object : goal.recognises-requires-clause-object
recognises-requires-clause-object g c =
    known_bound g.F.RecordForm c.args.at.now (g.K.RecordSink.received c.args.sink.now) c.requires.place c.requires.agree c.in-Some.object (λ h. c.in-Some.ensures.bound)

pub returns-in-Some-clause-known : goal.returns-in-Some-clause-known
returns-in-Some-clause-known g c = λ yes. let reported = c.recognises.ensures.known yes in
    let both = c.in-Some.ensures.known reported.0 (spelled_here g.F.RecordForm c.args.at.now (g.K.RecordSink.received c.args.sink.now) c.requires.place c.requires.agree c.in-Some.object c.in-Some.looks c.in-Some.tail.now reported.0 reported.1) in (reported.0, both.0, reported.2, both.1)
