-- The line of a place of an order, and the events that are counted behind it.
use Rattle.std.proofs.{Common.{◌≡◌, ℕ, ◌+◌, ◌<◌, true, false, List, [], ◌∷◌, length, map, take, get_or, slice_get, Some, ap, ◌∙◌, subst, arith}, Math.ListN.set, lemmas.Option.slice_get_within}
use Rattle.std.specs.{Prelude.{option_map, codes, decimal}, Option.option_map_or}
use Rattle.kernel_object.specs.KernelTypes.{KernelEvent, KernelDone, KernelSteps, KernelRun}
use Rattle.kernel_words.specs.ItemText.{step_words, done_words}
use Rattle.records.specs.Settings.{Settings, name_at}
use Rattle.record_lines.specs.Words.{separated}
use Rattle.sound_run.specs.{declared.place.Place.Place, Sound.log_of, Orders.{entry_at, IsOrder}}
use Rattle.log_merge.specs.{declared.run_shape.EntryShape.EntryShape, MergedText.{entry_words, place_words}, Shapes.shape_of, Written.AreWritten}
use Rattle.log_merge.proofs.{Shaped.{HasShape, shaped, steps_of, full_of}, WrittenEvents.{done_written, full_written, next_written}}
use Rattle.event_log.specs.declared.entry.Done.TheVariants as done

module _ (run : KernelRun) (places : List Place) (i : ℕ) (written : List ℕ) (so_far : AreWritten run (take i places) written) (p : Place) (at : slice_get places i ≡ Some p) (shape : EntryShape) (is : Some shape ≡ option_map shape_of (entry_at run p)) (settings : Settings) where
  its : HasShape (entry_at run p) shape
  its = shaped (entry_at run p) shape is

  line_of : (d : KernelDone) → its.entry.done ≡ d → place_words settings run p ≡ decimal p.cpu ∷ name_at settings shape.object ∷ done_words d
  line_of d same = ap (λ o. option_map_or (entry_words settings p.cpu) o []) its.there ∙ (λ j. decimal p.cpu ∷ name_at settings (its.object j) ∷ done_words (same j))

  -- it found no room
  module _ (full : shape.is_done ≡ false) where
    none : its.entry.done ≡ done.NoRoom
    none = full_of its.entry.done (its.steps ∙ full)

    pub full_line : place_words settings run p ≡ decimal p.cpu ∷ name_at settings shape.object ∷ codes "noroom" ∷ []
    full_line = line_of done.NoRoom none

    pub full_counted : AreWritten run (take (i + 1) places) written
    full_counted = full_written run places i written so_far p at its.entry its.there none

  -- it was done
  module _ (small : shape.object < 256) (whole : shape.is_done ≡ true) where
    its_steps : (s : KernelSteps) × (its.entry.done ≡ done.Steps s)
    its_steps = steps_of its.entry.done (its.steps ∙ whole)

    small_too : its.entry.object < 256
    small_too = let o = its.object in omega (arith, o, small)

    pub its_event : KernelEvent
    its_event = record { cpu = p.cpu; steps = its_steps.0 }

    pub done_line : place_words settings run p ≡ decimal p.cpu ∷ name_at settings shape.object ∷ separated (map step_words its_event.steps.list.items)
    unfolding its_event
    done_line = line_of (done.Steps its_steps.0) its_steps.1

    pub done_counted : AreWritten run (take (i + 1) places) (set written shape.object (get_or written shape.object 0 + 1))
    done_counted = subst (λ (x : ℕ). AreWritten run (take (i + 1) places) (set written x (get_or written x 0 + 1))) its.object (done_written run places i written so_far p at its.entry its.there its_steps.0 its_steps.1 small_too)

    pub done_next : IsOrder run places → slice_get (log_of shape.object run) (get_or written shape.object 0) ≡ Some its_event
    unfolding its_event
    done_next order = subst (λ (x : ℕ). slice_get (log_of x run) (get_or written x 0) ≡ Some (record { cpu = p.cpu; steps = its_steps.0 })) its.object (next_written run places i written so_far p at its.entry its.there its_steps.0 its_steps.1 small_too order)

    pub done_within : IsOrder run places → get_or written shape.object 0 < length (log_of shape.object run)
    done_within order = slice_get_within (log_of shape.object run) (get_or written shape.object 0) its_event (done_next order)
