-- Record 3 is a form of records: each line is read as what it spells, and nothing else is.
use Rattle.std.proofs.Common.{◌≡◌, ℕ, true, List, [], ◌∷◌, Option, Some, None, refl, sym, ap, ◌∙◌, arith, codes}
use Rattle.std.specs.Option.{is_some}
use Rattle.event_log.specs.declared.entry.Done.TheVariants.{NoRoom}
use Rattle.custom_records.specs.{LineReading.{last_at, custom_entry_at}, LineText.last_words, StepText.custom_front_at, Custom.{CustomEvent, CustomEntry}, Ranges.{SaidFits, EntryFits}, Said.Said, Settings.{CustomHead, refuses_word}, contracts.custom_form.CustomFormRecordForm.TheImpl.{ghosts as custom_form}, CustomForm.{Head, HeadFits, TailSpellsEntry, some_in}}
use Rattle.custom_records.proofs.{LineLaws.{reads_log, reads_event, reads_cpu, reads_entry, reads_last}, StepTexts.custom_entry_known, NameLaws.name_of_object, CustomHeads.{head_on, head_run, head_begins}}
use Rattle.record_lines.specs.{FormLaws.FormLaws, Reading.words, Words.sentence}

-- an entry that the text behind its looks spells
pub entry_spelled_by : (h : Head) (line : List ℕ) (object looks : ℕ) (tail : List ℕ) → HeadFits h → custom_front_at h.so_far.objects (words line) ≡ Some (object, looks, words tail) → (e : CustomEntry) → TailSpellsEntry h.so_far object looks tail e
    → (custom_entry_at h.so_far (words line) ≡ Some e) × EntryFits h.so_far e
entry_spelled_by h line object looks tail fit front e (asked, steps, so_far, steps_fit, same) =
    let is = custom_entry_known h.so_far (words line) object looks (words tail) front asked steps so_far.0 so_far.1 steps_fit ∙ ap Some (sym same) in
    (is, ((reads_entry h.so_far fit.fit).takes line e is).1)

-- the end
ends_is : (line : List ℕ) (o : Option (Unit {0})) → last_at (words line) ≡ o → is_some o ≡ true → line ≡ sentence last_words
ends_is line (Some u) e there = (reads_last.takes line u e).0
ends_is line None e there = absurd cc

-- ---- an event, and an entry

-- a word without numbers
abbrev shown_said : Said
shown_said = record { word = codes "a"; numbers = [] }

said_fits : SaidFits shown_said
said_fits = record { word = refl; few = omega arith; numbers = tt }

-- an event of the first CPU
abbrev shown_event : CustomHead → CustomEvent
shown_event head = record { cpu = 0; steps = record { list = record { items = record { call = shown_said; reply = record { said = shown_said; refuses = refuses_word head.refusing (codes "a") } } ∷ [] } } }

-- an entry on the first object
abbrev shown_entry : CustomEntry
shown_entry = record { object = 0; asked = record { items = shown_said ∷ [] }; done = NoRoom; looks = 0 }

-- ---- all of them

pub custom_laws : FormLaws custom_form
custom_laws = record {
  no_end = λ line is. is;
  head = record {
    starts = record { part = refl; more = refl; text = refl };
    goes_on = λ h next line part takes. let on = head_on h next line part takes.1 in record { plain = on.0; text = on.1; part = on.2.part; whole = on.2.whole };
    begins = λ h part more. let on = head_begins h part in record { whole = on.0; fit = on.1; more = on.2.0; text = on.2.1 };
    is_whole = λ h fit. ap (λ (u : Head). custom_form.is_whole u) fit.is;
    again = head_run;
    some = some_in;
  };
  log = λ h i fit less. reads_log _ (name_of_object h.so_far fit.fit i less);
  event = λ h fit. reads_event h.so_far fit.fit;
  cpu = λ h i fit less. let most = fit.fit.cpus.1 in reads_cpu i (omega (arith, less, most));
  entry = λ h fit. reads_entry h.so_far fit.fit;
  ends = λ line is. ends_is line (last_at (words line)) refl is;
  end_again = ap is_some (reads_last.again tt tt);
  end_plain = reads_last.plain tt tt;
  an_event = λ h fit. (shown_event h.so_far, record { cpu = fit.fit.cpus.0; steps = record { some = omega arith; few = omega arith; each = (record { call = said_fits; reply = said_fits; refuses = refl }, tt) } });
  an_entry = λ h fit. (shown_entry, record { object = fit.fit.count.0; looks = omega arith; some = omega arith; few = omega arith; calls = (said_fits, tt); done = tt });
}
