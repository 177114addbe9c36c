-- Behind the first line of a form only texts of that form go on.
use Rattle.std.proofs.{Common.{◌≡◌, ◌↔◌, ℕ, zero, suc, ◌==◌, Bool, true, false, if◌then◌else◌, List, [], ◌∷◌, ◌++◌, map, drop, length, replicate, get_or, arith, rules, refl, sym, ap, ◌∙◌, subst}, lemmas.List.length-replicate}
use Rattle.kernel_words.specs.{declared.form.Form.Form, declared.form.Form.TheVariants.{One, Two}}
use Rattle.kernel_object.specs.KernelTypes.{KernelEvent, KernelEntry}
use Rattle.records.specs.{FormFaults.{form_line, AgreesIn, IsBadLineIn}, RecordFaults.{text_in, Agrees, IsBadLine}, RecordRanges.{Record, RecordFitsIn, LogFits, TranscriptFits}, Settings.Settings, RecordText.{record_text, record_lines}}
use Rattle.record_lines.specs.{FirstLines.first_lines, Words.{sentence, NoEnd}}
use Rattle.record_lines.proofs.{FirstLines.{line_first, same_line, first_is}, Parts.all_same}
use Rattle.records.proofs.KernelHeads.{some_settings}

-- the first line of the first lines
first_front : (k : ℕ) (bytes : List ℕ) → first_lines 1 (first_lines (suc k) bytes) ≡ first_lines 1 bytes
unfolding first_lines
first_front k [] = refl
first_front k (b ∷ bytes) = ap (λ l. b ∷ l) (go (b == 10) (first_front k bytes))
  where
    go : (v : Bool) → first_lines 1 (first_lines (suc k) bytes) ≡ first_lines 1 bytes → (if v then first_lines 0 (if v then first_lines k bytes else first_lines (suc k) bytes) else first_lines 1 (if v then first_lines k bytes else first_lines (suc k) bytes)) ≡ (if v then first_lines 0 bytes else first_lines 1 bytes)
    go true h = refl
    go false h = h

line_plain : (f : Form) → NoEnd (form_line f)
line_plain One = search rules
line_plain Two = search rules

same_form : (f g : Form) → form_line f ≡ form_line g → f ≡ g
same_form One One e = refl
same_form One Two e = let digit : 49 ≡ 50 = ap (λ l. get_or l 7 0) e in absurd (omega (arith, digit))
same_form Two One e = let digit : 50 ≡ 49 = ap (λ l. get_or l 7 0) e in absurd (omega (arith, digit))
same_form Two Two e = refl

-- a record's text begins with its form
text_front : (g : Form) (r : Record) → (more : List ℕ) × (text_in g r ≡ form_line g ++ 10 ∷ more)
unfolding record_text record_lines
text_front g r = (_, line_first (form_line g) (map sentence (drop 1 (record_lines g r.settings r.run))))

form_is : (f g : Form) (r : Record) (rest : List ℕ) (k : ℕ) → first_lines (suc k) (form_line f ++ 10 ∷ rest) ≡ first_lines (suc k) (text_in g r) → f ≡ g
form_is f g r rest k e =
    let front = text_front g r in
    let one : first_lines 1 (form_line f ++ 10 ∷ rest) ≡ first_lines 1 (text_in g r) = sym (first_front k (form_line f ++ 10 ∷ rest)) ∙ (ap (first_lines 1) e ∙ first_front k (text_in g r)) in
    let found = first_is (text_in g r) (form_line f) rest (line_plain f) (sym one) in
    same_form f g (same_line (form_line f) (form_line g) found.0 front.0 (line_plain f) (line_plain g) (sym found.1 ∙ front.1)).0

-- there is a record of each form: of one CPU and one object, which did nothing
some_record : (f : Form) → (r : Record) × RecordFitsIn f r
some_record f =
    let some = some_settings f in
    let settings : Settings = some.0 in
    let objects : ℕ = length settings.objects in (
      record { settings = settings; run = record { logs = replicate objects []; transcripts = replicate settings.cpus [] } },
      (
        some.1,
        record {
          log_count = length-replicate {A = List KernelEvent} objects [];
          logs = all_same (LogFits f settings.cpus) [] objects (omega arith, tt);
          transcript_count = length-replicate {A = List KernelEntry} settings.cpus [];
          transcripts = all_same (TranscriptFits f objects) [] settings.cpus (omega arith, tt);
        },
      ),
    )

agrees_in : (f : Form) (rest : List ℕ) (k : ℕ) → Agrees k (form_line f ++ 10 ∷ rest) → AgreesIn f k (form_line f ++ 10 ∷ rest)
unfolding first_lines
agrees_in f rest zero a = let some = some_record f in record { shown = some.0; fit = some.1; same = refl }
agrees_in f rest (suc k) a =
    let is = form_is f a.form a.shown rest k a.same in
    record { shown = a.shown; fit = subst (λ g. RecordFitsIn g a.shown) (sym is) a.fit; same = a.same ∙ ap (λ g. first_lines (suc k) (text_in g a.shown)) (sym is) }

agrees_some : (f : Form) (bytes : List ℕ) (k : ℕ) → AgreesIn f k bytes → Agrees k bytes
agrees_some f bytes k a = record { form = f; shown = a.shown; fit = a.fit; same = a.same }

pub bad_in_form : (f : Form) (rest : List ℕ) (n : ℕ) → IsBadLine (form_line f ++ 10 ∷ rest) n ↔ IsBadLineIn f (form_line f ++ 10 ∷ rest) n
bad_in_form f rest n = (
  λ is. record { bad = λ a. is.bad (agrees_some f (form_line f ++ 10 ∷ rest) n a); before = λ k few. agrees_in f rest k (is.before k few) },
  λ is. record { bad = λ a. is.bad (agrees_in f rest n a); before = λ k few. agrees_some f (form_line f ++ 10 ∷ rest) k (is.before k few) },
)
