-- Records 3, as records of a form: the same texts, and the same first bad line.
use Rattle.std.proofs.{Common.{◌≡◌, ℕ, suc, ◌+◌, ◌==◌, ◌≤◌, true, List, [], ◌∷◌, ◌++◌, length, map, append_assoc, refl, sym, ap, ◌∙◌, arith, flat_map, zip}, lemmas.Bool.eqb-true, lemmas.List.map-append, lemmas.Simd.map-map}
use Rattle.custom_records.specs.{LineText.{log_words, cpu_words, custom_event_words, custom_entry_words, last_words}, Custom.{CustomEvent, CustomEntry}, Ranges.{CustomRecord, CustomRecordFits}, Settings.{CustomSettings, CustomHead, names_of, word_in}, contracts.custom_form.CustomFormRecordForm.TheImpl.{ghosts as custom_form}, CustomForm.{Head, head_of}, RecordFaults.{AgreesCustom, IsBadCustomLine, IsCustomText}, RecordText.{custom_head_lines, custom_log_lines, custom_transcripts_lines, custom_record_lines, custom_text}}
use Rattle.record_lines.specs.{FirstLines.first_lines, FormText.{parts_text, whole_lines, whole_text}, Received.{Whole, WholeFits}, WholeFaults.{WholeAgrees, IsWholeBadLine, IsWholeText}, Words.{sentence, text_of_lines}}
use Rattle.custom_records.proofs.NewObjects.{names}

-- a whole record of the form's
abbrev pub CustomWhole : Type 0
CustomWhole = Whole Head CustomEvent CustomEntry

-- a record as one, and the other way
abbrev pub whole_in : CustomRecord → CustomWhole
whole_in r = record { head = head_of r.head; logs = r.run.logs; transcripts = r.run.transcripts }

abbrev pub record_in : CustomWhole → CustomRecord
record_in w = record { head = w.head.so_far; run = record { logs = w.logs; transcripts = w.transcripts } }

-- ---- limits

pub fits_in : (r : CustomRecord) → CustomRecordFits r → WholeFits custom_form (whole_in r)
fits_in r fit = record { head = record { is = refl; fit = fit.0 }; log_count = fit.1.log_count; logs = fit.1.logs; transcript_count = fit.1.transcript_count; transcripts = fit.1.transcripts }

pub fits_of : (w : CustomWhole) → WholeFits custom_form w → CustomRecordFits (record_in w)
fits_of w fit = (fit.head.fit, record { log_count = fit.log_count; logs = fit.logs; transcript_count = fit.transcript_count; transcripts = fit.transcripts })

-- ---- texts

module _ (head : CustomHead) where
  abbrev logs_text : ℕ → List (List CustomEvent) → List (List ℕ)
  logs_text i logs = parts_text (custom_form.log_text (head_of head)) (custom_form.event_text (head_of head)) i logs

  abbrev transcripts_text : ℕ → List (List CustomEntry) → List (List ℕ)
  transcripts_text i ts = parts_text (custom_form.cpu_text (head_of head)) (custom_form.entry_text (head_of head)) i ts

  -- the lines of logs are such parts
  logs_are : (i : ℕ) (after : List CustomSettings) (logs : List (List CustomEvent)) → ((k : ℕ) → word_in (names_of head) (i + k) ≡ word_in (names after) k) → length logs ≤ length after
      → map sentence (flat_map custom_log_lines (zip after logs)) ≡ logs_text i logs
  logs_are i [] [] same few = refl
  logs_are i (o ∷ after) [] same few = refl
  logs_are i [] (l ∷ logs) same few = absurd (omega (arith, few))
  logs_are i (o ∷ after) (l ∷ logs) same few =
      let here : i ≡ i + 0 = omega arith in
      let next : (k : ℕ) → (i + 1) + k ≡ i + suc k = λ k. omega arith in
      let name : o.name ≡ word_in (names_of head) i = sym (ap (word_in (names_of head)) here ∙ same 0) in
      let rest = logs_are (i + 1) after logs (λ k. ap (word_in (names_of head)) (next k) ∙ same (suc k)) (omega (arith, few)) in
      map-append sentence (custom_log_lines (o, l)) (flat_map custom_log_lines (zip after logs))
      ∙ (λ j. (sentence (log_words (name j) (length l)) ∷ map-map sentence custom_event_words l j) ++ rest j)

  -- so are those of transcripts
  transcripts_are : (cpu : ℕ) (ts : List (List CustomEntry)) → map sentence (custom_transcripts_lines head cpu ts) ≡ transcripts_text cpu ts
  transcripts_are cpu [] = refl
  transcripts_are cpu (t ∷ ts) =
      map-append sentence (cpu_words cpu (length t) ∷ map (custom_entry_words head) t) (custom_transcripts_lines head (cpu + 1) ts)
      ∙ (λ j. (sentence (cpu_words cpu (length t)) ∷ map-map sentence (custom_entry_words head) t j) ++ transcripts_are (cpu + 1) ts j)

-- all lines of a record
lines_are : (r : CustomRecord) → CustomRecordFits r → map sentence (custom_record_lines r) ≡ whole_lines custom_form (whole_in r)
unfolding custom_record_lines
lines_are r fit =
    let h : List (List (List ℕ)) = custom_head_lines r.head in
    let l : List (List (List ℕ)) = flat_map custom_log_lines (zip r.head.objects r.run.logs) in
    let t : List (List (List ℕ)) = custom_transcripts_lines r.head 0 r.run.transcripts in
    let end : List (List (List ℕ)) = last_words ∷ [] in
    let all = fit.1.log_count in
    let none : (k : ℕ) → 0 + k ≡ k = λ k. omega arith in
    let logs = logs_are r.head 0 r.head.objects r.run.logs (λ k. ap (word_in (names_of r.head)) (none k)) (omega (arith, all)) in
    ap (map sentence) (sym (append_assoc (h ++ l) t end ∙ append_assoc h l (t ++ end)))
    ∙ (map-append sentence ((h ++ l) ++ t) end
    ∙ (λ j. (map-append sentence (h ++ l) t ∙ (λ i. (map-append sentence h l ∙ ap (λ x. map sentence h ++ x) logs) i ++ transcripts_are r.head 0 r.run.transcripts i)) j ++ map sentence end))

pub text_as : (r : CustomRecord) → CustomRecordFits r → custom_text r ≡ whole_text custom_form (whole_in r)
unfolding custom_text
text_as r fit = ap text_of_lines (lines_are r fit)

pub text_of : (w : CustomWhole) → WholeFits custom_form w → whole_text custom_form w ≡ custom_text (record_in w)
text_of w fit = ap (λ (h : Head). whole_text custom_form (record w { head = h })) fit.head.is ∙ sym (text_as (record_in w) (fits_of w fit))

pub text_whole : (bytes : List ℕ) (w : CustomWhole) → IsWholeText custom_form bytes w → IsCustomText bytes (record_in w)
text_whole bytes w is = record { fit = fits_of w is.fit; text = is.text ∙ text_of w is.fit }

-- ---- first bad lines

agrees_of : (n : ℕ) (bytes : List ℕ) → WholeAgrees custom_form n bytes → AgreesCustom n bytes
agrees_of n bytes a = record { shown = record_in a.shown; fit = fits_of a.shown a.fit; same = a.same ∙ ap (first_lines n) (text_of a.shown a.fit) }

agrees_as : (n : ℕ) (bytes : List ℕ) → AgreesCustom n bytes → WholeAgrees custom_form n bytes
agrees_as n bytes a = record { shown = whole_in a.shown; fit = fits_in a.shown a.fit; same = a.same ∙ ap (first_lines n) (text_as a.shown a.fit) }

pub bad_of : (bytes : List ℕ) (n : ℕ) → IsWholeBadLine custom_form bytes n → IsBadCustomLine bytes n
bad_of bytes n is = record { bad = λ a. is.bad (agrees_as n bytes a); before = λ k few. agrees_of k bytes (is.before k few) }

-- a text with a bad line isn't a record's
pub bad_is_none : (bytes : List ℕ) (n : ℕ) (r : CustomRecord) → IsBadCustomLine bytes n → CustomRecordFits r → bytes ≡ custom_text r → ⊥
bad_is_none bytes n r is fit e = is.bad (record { shown = r; fit = fit; same = ap (first_lines n) e })

-- bytes that are counted to none
pub empty_is : (bytes : List ℕ) → (length bytes == 0) ≡ true → bytes ≡ []
empty_is [] e = refl
empty_is (b ∷ bytes) e = absurd (omega (arith, eqb-true (length (b ∷ bytes)) 0 e))
