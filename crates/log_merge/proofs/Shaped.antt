-- What is said of a shape, of the entry and the event that it is the shape of.
use Rattle.std.proofs.Common.{◌≡◌, ◌≢◌, ℕ, ◌≤◌, true, false, true≢false, List, length, get_or, slice_get, slice_index, Option, Some, None, refl, sym, ap, ◌∙◌, subst}
use Rattle.std.specs.Prelude.{option_map}
use Rattle.event_log.specs.{declared.event.Event.Event, declared.event.Steps.Steps, declared.entry.Done.Done, declared.entry.Entry.Entry, declared.entry.Run.Run}
use Rattle.sound_run.specs.Sound.{transcript_of, log_of}
use Rattle.log_merge.specs.{declared.run_shape.EntryShape.EntryShape, Nexts.IsReady, Prefixes.{Comes, CanCome, IsBlocked}, Shapes.{has_steps, shape_of}}
use Rattle.log_merge.proofs.{Lent.ended, Placing.comes_at_end}
use Rattle.event_log.specs.declared.entry.Done.TheVariants as done

-- what is taken from nothing is nothing
pub none_of : {A B : Type 0} (f : A → B) (o : Option A) → None ≡ option_map f o → o ≡ None
none_of f None e = refl
none_of f (Some x) e = cc

module _ {O P C R : Type 0} where
  -- there is an entry of that shape
  pub record HasShape (o : Option (Entry O P C R)) (s : EntryShape) : Type 0 where
    pub entry : Entry O P C R
    pub there : o ≡ Some entry
    pub object : entry.object ≡ s.object
    pub steps : has_steps entry.done ≡ s.is_done

  pub shaped : (o : Option (Entry O P C R)) (s : EntryShape) → Some s ≡ option_map shape_of o → HasShape o s
  shaped None s e = cc
  shaped (Some entry) s e =
      let same : shape_of entry ≡ s = cc in
      record { entry = entry; there = refl; object = ap (λ (t : EntryShape). t.object) same; steps = ap (λ (t : EntryShape). t.is_done) same }

  pub steps_of : (d : Done O P C R) → has_steps d ≡ true → (s : Steps O P C R) × (d ≡ done.Steps s)
  steps_of (done.Steps s) e = (s, refl)
  steps_of done.NoRoom e = absurd (true≢false (sym e))

  pub full_of : (d : Done O P C R) → has_steps d ≡ false → d ≡ done.NoRoom
  full_of (done.Steps s) e = absurd (true≢false e)
  full_of done.NoRoom e = refl

  -- there is an event of that CPU
  pub record IsBy (o : Option (Event O P C R)) (cpu : ℕ) : Type 0 where
    pub event : Event O P C R
    pub there : o ≡ Some event
    pub is_by : event.cpu ≡ cpu

  pub by_of : (o : Option (Event O P C R)) (cpu : ℕ) → Some cpu ≡ option_map (λ (e : Event O P C R). e.cpu) o → IsBy o cpu
  by_of None cpu e = cc
  by_of (Some event) cpu e = let same : event.cpu ≡ cpu = cc in record { event = event; there = refl; is_by = same }

module _ {O P C R : Type 0} (run : Run O P C R) (at placed : List ℕ) (cpu : ℕ) (s : EntryShape) (entry : Some s ≡ option_map shape_of (slice_get (transcript_of cpu run) (get_or at cpu 0))) where
  its : HasShape (slice_get (transcript_of cpu run) (get_or at cpu 0)) s
  its = shaped (slice_get (transcript_of cpu run) (get_or at cpu 0)) s entry

  -- where the log of its object has ended
  pub comes_past : IsReady run at placed → None ≡ option_map (λ (e : Event O P C R). e.cpu) (slice_get (log_of s.object run) (get_or placed s.object 0)) → CanCome run (slice_index at) (slice_index placed) cpu
  comes_past ready none =
      let past = ended (log_of s.object run) (get_or placed s.object 0) (none_of (λ (e : Event O P C R). e.cpu) (slice_get (log_of s.object run) (get_or placed s.object 0)) none) in
      comes_at_end run at placed ready cpu its.entry its.there (subst (λ (x : ℕ). length (log_of x run) ≤ get_or placed x 0) (sym its.object) past)

  module _ (by : ℕ) (event : Some by ≡ option_map (λ (e : Event O P C R). e.cpu) (slice_get (log_of s.object run) (get_or placed s.object 0))) where
    next : IsBy (slice_get (log_of its.entry.object run) (get_or placed its.entry.object 0)) by
    next = subst (λ (x : ℕ). IsBy (slice_get (log_of x run) (get_or placed x 0)) by) (sym its.object) (by_of (slice_get (log_of s.object run) (get_or placed s.object 0)) by event)

    -- where the next event is its own
    pub comes_by : s.is_done ≡ true → by ≡ cpu → CanCome run (slice_index at) (slice_index placed) cpu
    comes_by steps own =
        let d = steps_of its.entry.done (its.steps ∙ steps) in
        let come : Comes run (slice_index placed) cpu its.entry.object (done.Steps d.0) = (next.event, next.there, next.is_by ∙ own) in
        record { entry = its.entry; there = its.there; comes = subst (λ (e : Done O P C R). Comes run (slice_index placed) cpu its.entry.object e) (sym d.1) come }

    -- where it isn't
    pub blocked_by : (s.is_done ≡ true → by ≢ cpu) → IsBlocked run (slice_index at) (slice_index placed) cpu by
    blocked_by other = record {
      entry = its.entry;
      there = its.there;
      event = next.event;
      next = next.there;
      is_by = next.is_by;
      other = λ d is. other (sym its.steps ∙ ap has_steps is);
    }
