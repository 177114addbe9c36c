use Rattle.std.proofs.{Common.{◌+◌, ◌<◌, ◌∷◌, [], map, take, get_or, slice_get, sym, ap, ◌∙◌, subst, arith, rules}, lemmas.Option.slice_get-get_or}
use Rattle.std.specs.Prelude.{codes}
use Rattle.record_lines.specs.{Output.{PutsWords, PutsLines}, Words.separated}
use Rattle.kernel_words.specs.ItemText.{step_words}
use Rattle.record_lines.proofs.Lines.{line_of_words, lines_same, words_then}
use Rattle.sound_run.proofs.Slices.{one_of}
use Rattle.log_merge.specs.{MergedText.place_words, Shapes.shape_of, Written.AreWritten}
use Rattle.log_merge.proofs.{Shaped.none_of, WrittenEvents.{absent_written, few_written}, PlaceLines.{full_line, full_counted, its_event, done_line, done_counted, done_next, done_within}, run_lines.put_place.Goals.{in-true, in-false}}
use Rattle.log_merge.proofs.run_lines.put_place.Goals as goal

pub returns-in_default-clause-written : goal.returns-in_default-clause-written
returns-in_default-clause-written g c = absent_written c.args.run.now c.args.places.now c.args.index c.args.written.now c.requires.written _ (slice_get-get_or c.args.places.now c.args.index _ c.requires.index) (none_of shape_of _ c.in_default.ensures)

pub put_next_event-requires-clause-few : goal.put_next_event-requires-clause-few
put_next_event-requires-clause-few g c =
    let small : c.in-Some.entry.object < 256 = search rules in
    let less = c.requires.index in
    let long = c.requires.few in
    let few = few_written c.args.run.now c.args.places.now c.args.index c.args.written.now c.requires.written c.in-Some.entry.object small (omega (arith, less)) in
    omega (arith, few, less, long)

pub put_next_event-requires-clause-next : goal.put_next_event-requires-clause-next
put_next_event-requires-clause-next g c =
    let small : c.in-Some.entry.object < 256 = search rules in
    done_within c.args.run.now c.args.places.now c.args.index c.args.written.now c.requires.written _ (slice_get-get_or c.args.places.now c.args.index _ c.requires.index) c.in-Some.entry c.in-Some.ensures c.args.settings.now small c.in-true.is c.requires.order

pub returns-clause-puts : goal.returns-clause-puts
returns-clause-puts g c = λ p at.
    let run = c.args.run.now in
    let settings = c.args.settings.now in
    let places = c.args.places.now in
    let i = c.args.index in
    let written = c.args.written.now in
    let shape = c.in-Some.entry in
    let small : shape.object < 256 = search rules in
    let name = rw c.name_of.ensures at c.put_word.ensures in
    let line : PutsLines g.W.Sink c.args.text.now c.end_line-2.new.text (place_words settings run (get_or places i _) ∷ []) = elim c.if-entry.branch [
      | in-true w ↦
          let next = done_next run places i written c.requires.written _ (slice_get-get_or places i _ c.requires.index) shape c.in-Some.ensures settings small w.in-true.is c.requires.order in
          let event = its_event run places i written c.requires.written _ (slice_get-get_or places i _ c.requires.index) shape c.in-Some.ensures settings small w.in-true.is in
          let words = subst (λ t. PutsWords g.W.Sink c.put_word.new.text t (separated (map step_words event.steps.list.items))) (sym w.text-is) (w.put_next_event.ensures.puts event next) in
          lines_same g.W.Sink (ap (λ l. l ∷ []) (sym (done_line run places i written c.requires.written _ (slice_get-get_or places i _ c.requires.index) shape c.in-Some.ensures settings small w.in-true.is)))
          (line_of_words g.W.Sink c.begin_line.ensures (words_then g.W.Sink name words) c.end_line-2.ensures)
      | in-false w ↦
          let words = subst (λ t. PutsWords g.W.Sink c.put_word.new.text t (codes "noroom" ∷ [])) (sym w.text-is) w.put_word-in-false.ensures in
          lines_same g.W.Sink (ap (λ l. l ∷ []) (sym (full_line run places i written c.requires.written _ (slice_get-get_or places i _ c.requires.index) shape c.in-Some.ensures settings w.in-false.is)))
          (line_of_words g.W.Sink c.begin_line.ensures (words_then g.W.Sink name words) c.end_line-2.ensures)
    ] in
    subst (λ q. PutsLines g.W.Sink c.args.text.now c.end_line-2.new.text (place_words settings run q ∷ [])) (one_of _ p (slice_get places i) (slice_get-get_or places i _ c.requires.index) at) line

pub returns-clause-written : goal.returns-clause-written
returns-clause-written g c =
    let run = c.args.run.now in
    let settings = c.args.settings.now in
    let places = c.args.places.now in
    let i = c.args.index in
    let written = c.args.written.now in
    let shape = c.in-Some.entry in
    let small : shape.object < 256 = search rules in
    elim c.if-entry.branch [
      | in-true w ↦ subst (λ v. AreWritten run (take (i + 1) places) v) (sym (w.written-is ∙ w.put_next_event.ensures.written)) (done_counted run places i written c.requires.written _ (slice_get-get_or places i _ c.requires.index) shape c.in-Some.ensures settings small w.in-true.is)
      | in-false w ↦ subst (λ v. AreWritten run (take (i + 1) places) v) (sym w.written-is) (full_counted run places i written c.requires.written _ (slice_get-get_or places i _ c.requires.index) shape c.in-Some.ensures settings w.in-false.is)
    ]
