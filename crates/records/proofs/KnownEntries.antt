-- An entry that is known by its front and the text behind it.
use Rattle.std.proofs.{Common.{◌≡◌, ℕ, ◌<◌, length, List, Some, ap, ◌∙◌, refl, subst, codes}, lemmas.Option.cond_some}
use Rattle.event_log.specs.declared.entry.Done.TheVariants.{Steps}
use Rattle.kernel_object.specs.{declared.call.KCall.KCall, KernelTypes.{KernelDone, KernelStep}}
use Rattle.kernel_words.specs.{declared.form.Form.Form, declared.form.Form.TheVariants.{One, Two}, ItemReading.{call_at, done_at}}
use Rattle.record_lines.specs.{Reading.{key_at, number_at}, LineParts.{is_nil, list_at}}
use Rattle.records.specs.{RecordReading.{place_at, entry_at}, Settings.ObjectSettings, StepTexts.{front_at, tail_at, entry_of}}
use Rattle.records.proofs.NamedObjects.{place_takes}
use Rattle.record_lines.proofs.Readings.{bind_some}

-- the form that isn't the first
pub other_form : (form : Form) → (form ≡ One → ⊥) → form ≡ Two
other_form One other = absurd (other refl)
other_form Two other = refl

module _ (objects : List ObjectSettings) (ws tail : List (List ℕ)) (object looks : ℕ) (front : front_at objects ws ≡ Some (object, looks, tail)) where
  -- the object is one of them
  pub front_bound : object < length objects
  unfolding front_at
  front_bound =
      bind_some (place_at objects ws) _ (object, looks, tail) front (λ place found behind.
      bind_some (number_at 18446744073709551615 place.1) _ (object, looks, tail) behind (λ number found_number last.
      let is : ◌≡◌ {A = ℕ × ℕ × List (List ℕ)} (place.0, number.0, number.1) (object, looks, tail) = cc in
      subst (λ (i : ℕ). i < length objects) (ap (λ f. f.0) is) (place_takes (record { cpus = 0; objects = objects }) ws place found).bound))

  -- what the line spells
  pub entry_known : (asked : List KCall) (steps : List KernelStep) → tail_at tail ≡ Some (asked, Steps (record { list = record { items = steps } })) → entry_at Two objects ws ≡ Some (entry_of object looks asked steps)
  unfolding front_at tail_at entry_at
  entry_known asked steps expressed =
      let did : KernelDone = Steps (record { list = record { items = steps } }) in
      bind_some (place_at objects ws) _ (object, looks, tail) front (λ place found behind.
      bind_some (number_at 18446744073709551615 place.1) _ (object, looks, tail) behind (λ number found_number last_front.
      bind_some (list_at call_at tail) _ (asked, did) expressed (λ calls found_calls behind_calls.
      bind_some (key_at (codes "|") calls.1) _ (asked, did) behind_calls (λ rest found_bar behind_bar.
      bind_some (done_at rest) _ (asked, did) behind_bar (λ done found_done last.
      let is : ◌≡◌ {A = ℕ × ℕ × List (List ℕ)} (place.0, number.0, number.1) (object, looks, tail) = cc in
      let whole = cond_some (is_nil done.1) (calls.0, done.0) (asked, did) last in
      rw (found, found_number, ap (λ f. list_at call_at f.2) is ∙ found_calls, found_bar, found_done, whole.0)
      (λ i. Some (record { object = (is i).0; asked = record { items = (whole.1 i).0 }; done = (whole.1 i).1; looks = (is i).1 })))))))
