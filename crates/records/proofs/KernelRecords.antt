-- Records 1 and 2, as records of a form: the same texts, and the same first bad line.
use Rattle.std.proofs.{Common.{◌≡◌, ℕ, ◌+◌, List, [], ◌∷◌, ◌++◌, length, map, refl, sym, ap, ◌∙◌, arith, codes, decimal}, lemmas.List.map-append}
use Rattle.kernel_object.specs.KernelTypes.{KernelEvent, KernelEntry}
use Rattle.kernel_words.specs.declared.form.Form.{Form}
use Rattle.record_lines.specs.{FirstLines.first_lines, FormText.{parts_text, whole_lines, whole_text}, Received.{Whole, WholeFits}, WholeFaults.{WholeAgrees, IsWholeBadLine, IsWholeText, IsWholeFront}, Words.{sentence, text_of_lines}}
use Rattle.record_lines.proofs.Parts.{Lines, part_lines, parts_lines}
use Rattle.records.specs.{contracts.record.kernel_form.KernelFormRecordForm.TheImpl.{ghosts as kernel_form}, KernelForm.{Head, settings_in, head_of}, RecordFaults.{text_in, Agrees, IsBadLine, IsWhole, IsFront}, RecordRanges.{Record, RecordFitsIn}, RecordText.{event_words, entry_words, head_lines, record_lines, record_text}}
use Rattle.records.proofs.RecordParts.{log_head, cpu_head, record_parts}

-- a whole record of the form's, and a record
abbrev pub KernelWhole : Type 0
KernelWhole = Whole Head KernelEvent KernelEntry

-- the one as the other
abbrev pub whole_in : Form → Record → KernelWhole
whole_in form r = record { head = head_of form r.settings; logs = r.run.logs; transcripts = r.run.transcripts }

abbrev pub record_in : KernelWhole → Record
record_in w = record { settings = settings_in w.head; run = record { logs = w.logs; transcripts = w.transcripts } }

-- ---- limits

pub fits_in : (form : Form) (r : Record) → RecordFitsIn form r → WholeFits kernel_form (whole_in form r)
fits_in form r fit = record { head = record { is = refl; settings = fit.0 }; log_count = fit.1.log_count; logs = fit.1.logs; transcript_count = fit.1.transcript_count; transcripts = fit.1.transcripts }

pub fits_of : (w : KernelWhole) → WholeFits kernel_form w → RecordFitsIn w.head.form (record_in w)
fits_of w fit = (fit.head.settings, record { log_count = fit.log_count; logs = fit.logs; transcript_count = fit.transcript_count; transcripts = fit.transcripts })

-- ---- texts

-- parts of words, as parts of lines
parts_are : {T : Type 0} (head : ℕ → List (List ℕ)) (words_of : T → List (List ℕ)) (i : ℕ) (parts : List (List T)) → map sentence (parts_lines head words_of i parts) ≡ parts_text (λ k n. sentence (head k ++ decimal n ∷ [])) (λ x. sentence (words_of x)) i parts
parts_are head words_of i [] = refl
parts_are {T} head words_of i (part ∷ parts) =
    map-append sentence (part_lines head words_of i (length part) part) (parts_lines head words_of (i + 1) parts)
    ∙ (λ j. (sentence (head i ++ decimal (length part) ∷ []) ∷ items part j) ++ parts_are head words_of (i + 1) parts j)
  where
    items : (xs : List T) → map sentence (map words_of xs) ≡ map (λ x. sentence (words_of x)) xs
    items [] = refl
    items (x ∷ xs) = ap (λ l. sentence (words_of x) ∷ l) (items xs)

-- all lines of a record
lines_are : (form : Form) (r : Record) → RecordFitsIn form r → map sentence (record_lines form r.settings r.run) ≡ whole_lines kernel_form (whole_in form r)
lines_are form r fit =
    let settings = r.settings in
    let h : Lines = head_lines form settings in
    let l : Lines = parts_lines (log_head settings) event_words 0 r.run.logs in
    let t : Lines = parts_lines cpu_head (entry_words settings) 0 r.run.transcripts in
    let all = fit.1.log_count in
    ap (map sentence) (record_parts settings form r.run (omega (arith, all)))
    ∙ (map-append sentence ((h ++ l) ++ t) ((codes "end" ∷ []) ∷ [])
    ∙ ap (λ x. x ++ sentence (codes "end" ∷ []) ∷ []) (map-append sentence (h ++ l) t ∙ (λ j. (map-append sentence h l j) ++ parts_are cpu_head (entry_words settings) 0 r.run.transcripts j)
    ∙ ap (λ x. (map sentence h ++ x) ++ parts_text (λ k n. sentence (cpu_head k ++ decimal n ∷ [])) (λ e. sentence (entry_words settings e)) 0 r.run.transcripts) (parts_are (log_head settings) event_words 0 r.run.logs)))

pub text_as : (form : Form) (r : Record) → RecordFitsIn form r → text_in form r ≡ whole_text kernel_form (whole_in form r)
unfolding record_text
text_as form r fit = ap text_of_lines (lines_are form r fit)

-- a whole record is that of its head's form
pub whole_is : (w : KernelWhole) → WholeFits kernel_form w → w ≡ whole_in w.head.form (record_in w)
whole_is w fit = ap (λ (h : Head). record w { head = h }) fit.head.is

pub text_of : (w : KernelWhole) → WholeFits kernel_form w → whole_text kernel_form w ≡ text_in w.head.form (record_in w)
text_of w fit = ap (λ (v : KernelWhole). whole_text kernel_form v) (whole_is w fit) ∙ sym (text_as w.head.form (record_in w) (fits_of w fit))

-- ---- first bad lines

pub agrees_of : (n : ℕ) (bytes : List ℕ) → WholeAgrees kernel_form n bytes → Agrees n bytes
agrees_of n bytes a = record { form = a.shown.head.form; shown = record_in a.shown; fit = fits_of a.shown a.fit; same = a.same ∙ ap (first_lines n) (text_of a.shown a.fit) }

pub agrees_as : (n : ℕ) (bytes : List ℕ) → Agrees n bytes → WholeAgrees kernel_form n bytes
agrees_as n bytes a = record { shown = whole_in a.form a.shown; fit = fits_in a.form a.shown a.fit; same = a.same ∙ ap (first_lines n) (text_as a.form a.shown a.fit) }

pub bad_of : (bytes : List ℕ) (n : ℕ) → IsWholeBadLine kernel_form bytes n → IsBadLine bytes n
bad_of bytes n is = record { bad = λ a. is.bad (agrees_as n bytes a); before = λ k few. agrees_of k bytes (is.before k few) }

pub bad_as : (bytes : List ℕ) (n : ℕ) → IsBadLine bytes n → IsWholeBadLine kernel_form bytes n
bad_as bytes n is = record { bad = λ a. is.bad (agrees_of n bytes a); before = λ k few. agrees_as k bytes (is.before k few) }

-- ---- whole texts

pub text_whole : (bytes : List ℕ) (w : KernelWhole) → IsWholeText kernel_form bytes w → IsWhole bytes (record_in w)
text_whole bytes w is = record { form = w.head.form; fit = fits_of w is.fit; text = is.text ∙ text_of w is.fit }

pub front_of : (bytes : List ℕ) (w : KernelWhole) (k : ℕ) → IsWholeFront kernel_form bytes w k → IsFront bytes (record_in w, k)
front_of bytes w k is = record { form = w.head.form; fit = fits_of w is.fit; rest = is.rest; text = is.text ∙ ap (λ t. t ++ is.rest) (text_of w is.fit); count = is.is ∙ ap length (text_of w is.fit) }
