-- The lines of a record's head that have numbers, and its last line.
use Rattle.std.proofs.Common.{◌≡◌, ℕ, ◌<◌, ◌≤◌, ◌^◌, List, [], ◌∷◌, Option, Some, None, refl, ap, ◌∙◌, arith, rules, codes, decimal}
use Rattle.std.specs.Option.{option_map_or}
use Rattle.kernel_words.specs.{declared.form.Form.Form, declared.form.Form.TheVariants.{One, Two}, Forms.{version, most_cpus}}
use Rattle.record_lines.specs.{Reading.{◌>>=◌, word_at, key_at}, LineParts.{fixed_at, keys_at}}
use Rattle.record_lines.proofs.{LineLaws.{IsLine, ReadsLines, fixed_takes}, Readings.bind_some}
use Rattle.records.specs.RecordReading.{form_at}

abbrev pub first_line : Form → List (List ℕ)
first_line form = codes "record" ∷ version form ∷ []

abbrev pub cpus_line : ℕ → List (List ℕ)
cpus_line n = codes "cpus" ∷ decimal n ∷ []

abbrev pub count_line : ℕ → List (List ℕ)
count_line n = codes "objects" ∷ decimal n ∷ []

-- no form has more CPUs than a byte counts
pub most_all : (form : Form) → most_cpus form ≤ 255
most_all One = omega arith
most_all Two = omega arith

pub small_cpus : (form : Form) → most_cpus form < 2 ^ 64
small_cpus form = omega (arith, most_all form)

-- the words of fixed lines are plain
first_plain : (form : Form) → IsLine (first_line form)
first_plain One = record { some = omega arith; plain = search (rules, arith); short = omega arith }
first_plain Two = record { some = omega arith; plain = search (rules, arith); short = omega arith }

pub end_plain : IsLine (codes "end" ∷ [])
end_plain = record { some = omega arith; plain = search (rules, arith); short = omega arith }

-- the first line of a form is read again
pub form_again : (form : Form) → form_at (first_line form) ≡ Some form
unfolding form_at fixed_at keys_at key_at word_at
form_again One = refl
form_again Two = refl

form_takes : (ws : List (List ℕ)) (form : Form) → form_at ws ≡ Some form → ws ≡ first_line form
unfolding form_at
form_takes ws form e = go (fixed_at (first_line One) ws) refl e
  where
    go : (o : Option (Unit {0})) → fixed_at (first_line One) ws ≡ o → option_map_or (λ u. Some One) o (fixed_at (first_line Two) ws >>= λ u. Some Two) ≡ Some form → ws ≡ first_line form
    go (Some u) found last = let is : One ≡ form = cc in fixed_takes (first_line One) ws u found ∙ ap first_line is
    go None none last = bind_some (fixed_at (first_line Two) ws) (λ u. Some Two) form last (λ u found end.
        let is : Two ≡ form = cc in fixed_takes (first_line Two) ws u found ∙ ap first_line is)

-- the first line says the form
pub reads_form : ReadsLines first_line (λ f. Unit {0}) form_at
reads_form = record { takes = λ ws f e. (form_takes ws f e, tt); again = λ f fit. form_again f; plain = λ f fit. first_plain f }
