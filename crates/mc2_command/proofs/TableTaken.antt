-- The words of each form are taken, and its files are found.
use Rattle.std.proofs.{Common.{◌≡◌, ◌==◌, sym, ℕ, false, List, [], ◌∷◌, codes, refl, Option, Some, None, slice_get}, lemmas.Bool.{eqb-false, ne_eqb}}
use Rattle.std.specs.List.{list_any}
use Rattle.clap.specs.Words.{Row, Text, fault_of, first_of, subcommand_of}
use Rattle.clap.proofs.OnLiterals.{clap_on_literals}
use Rattle.mc2_command.specs.{Asked.is_no_form, Forms.forms}

-- the name of a file is a word that forms may have
not_in_form : (b : ℕ) (n : Text) → (b == 45) ≡ false → is_no_form (b ∷ n) ≡ false
not_in_form b n e =
    let other : (45 == b) ≡ false = ne_eqb 45 b (λ s. eqb-false b 45 e (sym s)) in
    rw (e, other) refl

-- what was found behind the command
abbrev pub rows_in : Option (Text × List Row) → List Row
rows_in None = []
rows_in (Some p) = p.1

-- the words are taken as that command, and of what is found that holds
pub record Taken (command : Text) (Are : List Row → Type 0) (words : List Text) : Type 0 where
  pub first : slice_get words 0 ≡ Some command
  pub in_forms : list_any is_no_form words ≡ false
  pub taken : fault_of forms words ≡ []
  pub rows : List Row
  pub read : subcommand_of forms words ≡ Some (command, rows)
  pub files : Are rows

pub run_taken : fault_of forms (codes "run" ∷ []) ≡ []
unfolding clap_on_literals
run_taken = refl

pub run_read : subcommand_of forms (codes "run" ∷ []) ≡ Some (codes "run", rows_in (subcommand_of forms (codes "run" ∷ [])))
unfolding clap_on_literals
run_read = refl

pub run_settings : first_of (codes "settings") (rows_in (subcommand_of forms (codes "run" ∷ []))) ≡ None
unfolding clap_on_literals
run_settings = refl

pub run_scripts : first_of (codes "scripts") (rows_in (subcommand_of forms (codes "run" ∷ []))) ≡ None
unfolding clap_on_literals
run_scripts = refl

pub run_in_forms : list_any is_no_form (codes "run" ∷ []) ≡ false
run_in_forms = refl

pub run_s_taken : (b : ℕ) (n : Text) → (b == 45) ≡ false → fault_of forms (codes "run" ∷ (b ∷ n) ∷ []) ≡ []
unfolding clap_on_literals
run_s_taken b n e = rw (e, e) refl

pub run_s_read : (b : ℕ) (n : Text) → (b == 45) ≡ false → subcommand_of forms (codes "run" ∷ (b ∷ n) ∷ []) ≡ Some (codes "run", rows_in (subcommand_of forms (codes "run" ∷ (b ∷ n) ∷ [])))
unfolding clap_on_literals
run_s_read b n e = rw (e, e) refl

pub run_s_settings : (b : ℕ) (n : Text) → (b == 45) ≡ false → first_of (codes "settings") (rows_in (subcommand_of forms (codes "run" ∷ (b ∷ n) ∷ []))) ≡ None
unfolding clap_on_literals
run_s_settings b n e = rw (e, e) refl

pub run_s_scripts : (b : ℕ) (n : Text) → (b == 45) ≡ false → first_of (codes "scripts") (rows_in (subcommand_of forms (codes "run" ∷ (b ∷ n) ∷ []))) ≡ Some (b ∷ n)
unfolding clap_on_literals
run_s_scripts b n e = rw (e, e) refl

pub run_s_in_forms : (b : ℕ) (n : Text) → (b == 45) ≡ false → list_any is_no_form (codes "run" ∷ (b ∷ n) ∷ []) ≡ false
run_s_in_forms b n e = rw (not_in_form b n e) refl

pub run_f_taken : (b : ℕ) (n : Text) → (b == 45) ≡ false → fault_of forms (codes "run" ∷ codes "--settings" ∷ (b ∷ n) ∷ []) ≡ []
unfolding clap_on_literals
run_f_taken b n e = rw (e, e) refl

pub run_f_read : (b : ℕ) (n : Text) → (b == 45) ≡ false → subcommand_of forms (codes "run" ∷ codes "--settings" ∷ (b ∷ n) ∷ []) ≡ Some (codes "run", rows_in (subcommand_of forms (codes "run" ∷ codes "--settings" ∷ (b ∷ n) ∷ [])))
unfolding clap_on_literals
run_f_read b n e = rw (e, e) refl

pub run_f_settings : (b : ℕ) (n : Text) → (b == 45) ≡ false → first_of (codes "settings") (rows_in (subcommand_of forms (codes "run" ∷ codes "--settings" ∷ (b ∷ n) ∷ []))) ≡ Some (b ∷ n)
unfolding clap_on_literals
run_f_settings b n e = rw (e, e) refl

pub run_f_scripts : (b : ℕ) (n : Text) → (b == 45) ≡ false → first_of (codes "scripts") (rows_in (subcommand_of forms (codes "run" ∷ codes "--settings" ∷ (b ∷ n) ∷ []))) ≡ None
unfolding clap_on_literals
run_f_scripts b n e = rw (e, e) refl

pub run_f_in_forms : (b : ℕ) (n : Text) → (b == 45) ≡ false → list_any is_no_form (codes "run" ∷ codes "--settings" ∷ (b ∷ n) ∷ []) ≡ false
run_f_in_forms b n e = rw (not_in_form b n e) refl

pub run_f_s_taken : (b : ℕ) (n : Text) → (b == 45) ≡ false → (c : ℕ) (m : Text) → (c == 45) ≡ false → fault_of forms (codes "run" ∷ codes "--settings" ∷ (b ∷ n) ∷ (c ∷ m) ∷ []) ≡ []
unfolding clap_on_literals
run_f_s_taken b n e c m f = rw (e, e, f, f) refl

pub run_f_s_read : (b : ℕ) (n : Text) → (b == 45) ≡ false → (c : ℕ) (m : Text) → (c == 45) ≡ false → subcommand_of forms (codes "run" ∷ codes "--settings" ∷ (b ∷ n) ∷ (c ∷ m) ∷ []) ≡ Some (codes "run", rows_in (subcommand_of forms (codes "run" ∷ codes "--settings" ∷ (b ∷ n) ∷ (c ∷ m) ∷ [])))
unfolding clap_on_literals
run_f_s_read b n e c m f = rw (e, e, f, f) refl

pub run_f_s_settings : (b : ℕ) (n : Text) → (b == 45) ≡ false → (c : ℕ) (m : Text) → (c == 45) ≡ false → first_of (codes "settings") (rows_in (subcommand_of forms (codes "run" ∷ codes "--settings" ∷ (b ∷ n) ∷ (c ∷ m) ∷ []))) ≡ Some (b ∷ n)
unfolding clap_on_literals
run_f_s_settings b n e c m f = rw (e, e, f, f) refl

pub run_f_s_scripts : (b : ℕ) (n : Text) → (b == 45) ≡ false → (c : ℕ) (m : Text) → (c == 45) ≡ false → first_of (codes "scripts") (rows_in (subcommand_of forms (codes "run" ∷ codes "--settings" ∷ (b ∷ n) ∷ (c ∷ m) ∷ []))) ≡ Some (c ∷ m)
unfolding clap_on_literals
run_f_s_scripts b n e c m f = rw (e, e, f, f) refl

pub run_f_s_in_forms : (b : ℕ) (n : Text) → (b == 45) ≡ false → (c : ℕ) (m : Text) → (c == 45) ≡ false → list_any is_no_form (codes "run" ∷ codes "--settings" ∷ (b ∷ n) ∷ (c ∷ m) ∷ []) ≡ false
run_f_s_in_forms b n e c m f = rw (not_in_form b n e, not_in_form c m f) refl

pub run_s_f_taken : (b : ℕ) (n : Text) → (b == 45) ≡ false → (c : ℕ) (m : Text) → (c == 45) ≡ false → fault_of forms (codes "run" ∷ (b ∷ n) ∷ codes "--settings" ∷ (c ∷ m) ∷ []) ≡ []
unfolding clap_on_literals
run_s_f_taken b n e c m f = rw (e, e, f, f) refl

pub run_s_f_read : (b : ℕ) (n : Text) → (b == 45) ≡ false → (c : ℕ) (m : Text) → (c == 45) ≡ false → subcommand_of forms (codes "run" ∷ (b ∷ n) ∷ codes "--settings" ∷ (c ∷ m) ∷ []) ≡ Some (codes "run", rows_in (subcommand_of forms (codes "run" ∷ (b ∷ n) ∷ codes "--settings" ∷ (c ∷ m) ∷ [])))
unfolding clap_on_literals
run_s_f_read b n e c m f = rw (e, e, f, f) refl

pub run_s_f_settings : (b : ℕ) (n : Text) → (b == 45) ≡ false → (c : ℕ) (m : Text) → (c == 45) ≡ false → first_of (codes "settings") (rows_in (subcommand_of forms (codes "run" ∷ (b ∷ n) ∷ codes "--settings" ∷ (c ∷ m) ∷ []))) ≡ Some (c ∷ m)
unfolding clap_on_literals
run_s_f_settings b n e c m f = rw (e, e, f, f) refl

pub run_s_f_scripts : (b : ℕ) (n : Text) → (b == 45) ≡ false → (c : ℕ) (m : Text) → (c == 45) ≡ false → first_of (codes "scripts") (rows_in (subcommand_of forms (codes "run" ∷ (b ∷ n) ∷ codes "--settings" ∷ (c ∷ m) ∷ []))) ≡ Some (b ∷ n)
unfolding clap_on_literals
run_s_f_scripts b n e c m f = rw (e, e, f, f) refl

pub run_s_f_in_forms : (b : ℕ) (n : Text) → (b == 45) ≡ false → (c : ℕ) (m : Text) → (c == 45) ≡ false → list_any is_no_form (codes "run" ∷ (b ∷ n) ∷ codes "--settings" ∷ (c ∷ m) ∷ []) ≡ false
run_s_f_in_forms b n e c m f = rw (not_in_form b n e, not_in_form c m f) refl

pub sim_f_s_t_taken : (b : ℕ) (n : Text) → (b == 45) ≡ false → (c : ℕ) (m : Text) → (c == 45) ≡ false → (d : ℕ) (o : Text) → (d == 45) ≡ false → fault_of forms (codes "sim" ∷ codes "--settings" ∷ (b ∷ n) ∷ (c ∷ m) ∷ (d ∷ o) ∷ []) ≡ []
unfolding clap_on_literals
sim_f_s_t_taken b n e c m f d o g = rw (e, e, f, f, g, g) refl

pub sim_f_s_t_read : (b : ℕ) (n : Text) → (b == 45) ≡ false → (c : ℕ) (m : Text) → (c == 45) ≡ false → (d : ℕ) (o : Text) → (d == 45) ≡ false → subcommand_of forms (codes "sim" ∷ codes "--settings" ∷ (b ∷ n) ∷ (c ∷ m) ∷ (d ∷ o) ∷ []) ≡ Some (codes "sim", rows_in (subcommand_of forms (codes "sim" ∷ codes "--settings" ∷ (b ∷ n) ∷ (c ∷ m) ∷ (d ∷ o) ∷ [])))
unfolding clap_on_literals
sim_f_s_t_read b n e c m f d o g = rw (e, e, f, f, g, g) refl

pub sim_f_s_t_settings : (b : ℕ) (n : Text) → (b == 45) ≡ false → (c : ℕ) (m : Text) → (c == 45) ≡ false → (d : ℕ) (o : Text) → (d == 45) ≡ false → first_of (codes "settings") (rows_in (subcommand_of forms (codes "sim" ∷ codes "--settings" ∷ (b ∷ n) ∷ (c ∷ m) ∷ (d ∷ o) ∷ []))) ≡ Some (b ∷ n)
unfolding clap_on_literals
sim_f_s_t_settings b n e c m f d o g = rw (e, e, f, f, g, g) refl

pub sim_f_s_t_scripts : (b : ℕ) (n : Text) → (b == 45) ≡ false → (c : ℕ) (m : Text) → (c == 45) ≡ false → (d : ℕ) (o : Text) → (d == 45) ≡ false → first_of (codes "scripts") (rows_in (subcommand_of forms (codes "sim" ∷ codes "--settings" ∷ (b ∷ n) ∷ (c ∷ m) ∷ (d ∷ o) ∷ []))) ≡ Some (c ∷ m)
unfolding clap_on_literals
sim_f_s_t_scripts b n e c m f d o g = rw (e, e, f, f, g, g) refl

pub sim_f_s_t_schedule : (b : ℕ) (n : Text) → (b == 45) ≡ false → (c : ℕ) (m : Text) → (c == 45) ≡ false → (d : ℕ) (o : Text) → (d == 45) ≡ false → first_of (codes "schedule") (rows_in (subcommand_of forms (codes "sim" ∷ codes "--settings" ∷ (b ∷ n) ∷ (c ∷ m) ∷ (d ∷ o) ∷ []))) ≡ Some (d ∷ o)
unfolding clap_on_literals
sim_f_s_t_schedule b n e c m f d o g = rw (e, e, f, f, g, g) refl

pub sim_f_s_t_in_forms : (b : ℕ) (n : Text) → (b == 45) ≡ false → (c : ℕ) (m : Text) → (c == 45) ≡ false → (d : ℕ) (o : Text) → (d == 45) ≡ false → list_any is_no_form (codes "sim" ∷ codes "--settings" ∷ (b ∷ n) ∷ (c ∷ m) ∷ (d ∷ o) ∷ []) ≡ false
sim_f_s_t_in_forms b n e c m f d o g = rw (not_in_form b n e, not_in_form c m f, not_in_form d o g) refl

pub sim_s_f_t_taken : (b : ℕ) (n : Text) → (b == 45) ≡ false → (c : ℕ) (m : Text) → (c == 45) ≡ false → (d : ℕ) (o : Text) → (d == 45) ≡ false → fault_of forms (codes "sim" ∷ (b ∷ n) ∷ codes "--settings" ∷ (c ∷ m) ∷ (d ∷ o) ∷ []) ≡ []
unfolding clap_on_literals
sim_s_f_t_taken b n e c m f d o g = rw (e, e, f, f, g, g) refl

pub sim_s_f_t_read : (b : ℕ) (n : Text) → (b == 45) ≡ false → (c : ℕ) (m : Text) → (c == 45) ≡ false → (d : ℕ) (o : Text) → (d == 45) ≡ false → subcommand_of forms (codes "sim" ∷ (b ∷ n) ∷ codes "--settings" ∷ (c ∷ m) ∷ (d ∷ o) ∷ []) ≡ Some (codes "sim", rows_in (subcommand_of forms (codes "sim" ∷ (b ∷ n) ∷ codes "--settings" ∷ (c ∷ m) ∷ (d ∷ o) ∷ [])))
unfolding clap_on_literals
sim_s_f_t_read b n e c m f d o g = rw (e, e, f, f, g, g) refl

pub sim_s_f_t_settings : (b : ℕ) (n : Text) → (b == 45) ≡ false → (c : ℕ) (m : Text) → (c == 45) ≡ false → (d : ℕ) (o : Text) → (d == 45) ≡ false → first_of (codes "settings") (rows_in (subcommand_of forms (codes "sim" ∷ (b ∷ n) ∷ codes "--settings" ∷ (c ∷ m) ∷ (d ∷ o) ∷ []))) ≡ Some (c ∷ m)
unfolding clap_on_literals
sim_s_f_t_settings b n e c m f d o g = rw (e, e, f, f, g, g) refl

pub sim_s_f_t_scripts : (b : ℕ) (n : Text) → (b == 45) ≡ false → (c : ℕ) (m : Text) → (c == 45) ≡ false → (d : ℕ) (o : Text) → (d == 45) ≡ false → first_of (codes "scripts") (rows_in (subcommand_of forms (codes "sim" ∷ (b ∷ n) ∷ codes "--settings" ∷ (c ∷ m) ∷ (d ∷ o) ∷ []))) ≡ Some (b ∷ n)
unfolding clap_on_literals
sim_s_f_t_scripts b n e c m f d o g = rw (e, e, f, f, g, g) refl

pub sim_s_f_t_schedule : (b : ℕ) (n : Text) → (b == 45) ≡ false → (c : ℕ) (m : Text) → (c == 45) ≡ false → (d : ℕ) (o : Text) → (d == 45) ≡ false → first_of (codes "schedule") (rows_in (subcommand_of forms (codes "sim" ∷ (b ∷ n) ∷ codes "--settings" ∷ (c ∷ m) ∷ (d ∷ o) ∷ []))) ≡ Some (d ∷ o)
unfolding clap_on_literals
sim_s_f_t_schedule b n e c m f d o g = rw (e, e, f, f, g, g) refl

pub sim_s_f_t_in_forms : (b : ℕ) (n : Text) → (b == 45) ≡ false → (c : ℕ) (m : Text) → (c == 45) ≡ false → (d : ℕ) (o : Text) → (d == 45) ≡ false → list_any is_no_form (codes "sim" ∷ (b ∷ n) ∷ codes "--settings" ∷ (c ∷ m) ∷ (d ∷ o) ∷ []) ≡ false
sim_s_f_t_in_forms b n e c m f d o g = rw (not_in_form b n e, not_in_form c m f, not_in_form d o g) refl

pub sim_s_t_f_taken : (b : ℕ) (n : Text) → (b == 45) ≡ false → (c : ℕ) (m : Text) → (c == 45) ≡ false → (d : ℕ) (o : Text) → (d == 45) ≡ false → fault_of forms (codes "sim" ∷ (b ∷ n) ∷ (c ∷ m) ∷ codes "--settings" ∷ (d ∷ o) ∷ []) ≡ []
unfolding clap_on_literals
sim_s_t_f_taken b n e c m f d o g = rw (e, e, f, f, g, g) refl

pub sim_s_t_f_read : (b : ℕ) (n : Text) → (b == 45) ≡ false → (c : ℕ) (m : Text) → (c == 45) ≡ false → (d : ℕ) (o : Text) → (d == 45) ≡ false → subcommand_of forms (codes "sim" ∷ (b ∷ n) ∷ (c ∷ m) ∷ codes "--settings" ∷ (d ∷ o) ∷ []) ≡ Some (codes "sim", rows_in (subcommand_of forms (codes "sim" ∷ (b ∷ n) ∷ (c ∷ m) ∷ codes "--settings" ∷ (d ∷ o) ∷ [])))
unfolding clap_on_literals
sim_s_t_f_read b n e c m f d o g = rw (e, e, f, f, g, g) refl

pub sim_s_t_f_settings : (b : ℕ) (n : Text) → (b == 45) ≡ false → (c : ℕ) (m : Text) → (c == 45) ≡ false → (d : ℕ) (o : Text) → (d == 45) ≡ false → first_of (codes "settings") (rows_in (subcommand_of forms (codes "sim" ∷ (b ∷ n) ∷ (c ∷ m) ∷ codes "--settings" ∷ (d ∷ o) ∷ []))) ≡ Some (d ∷ o)
unfolding clap_on_literals
sim_s_t_f_settings b n e c m f d o g = rw (e, e, f, f, g, g) refl

pub sim_s_t_f_scripts : (b : ℕ) (n : Text) → (b == 45) ≡ false → (c : ℕ) (m : Text) → (c == 45) ≡ false → (d : ℕ) (o : Text) → (d == 45) ≡ false → first_of (codes "scripts") (rows_in (subcommand_of forms (codes "sim" ∷ (b ∷ n) ∷ (c ∷ m) ∷ codes "--settings" ∷ (d ∷ o) ∷ []))) ≡ Some (b ∷ n)
unfolding clap_on_literals
sim_s_t_f_scripts b n e c m f d o g = rw (e, e, f, f, g, g) refl

pub sim_s_t_f_schedule : (b : ℕ) (n : Text) → (b == 45) ≡ false → (c : ℕ) (m : Text) → (c == 45) ≡ false → (d : ℕ) (o : Text) → (d == 45) ≡ false → first_of (codes "schedule") (rows_in (subcommand_of forms (codes "sim" ∷ (b ∷ n) ∷ (c ∷ m) ∷ codes "--settings" ∷ (d ∷ o) ∷ []))) ≡ Some (c ∷ m)
unfolding clap_on_literals
sim_s_t_f_schedule b n e c m f d o g = rw (e, e, f, f, g, g) refl

pub sim_s_t_f_in_forms : (b : ℕ) (n : Text) → (b == 45) ≡ false → (c : ℕ) (m : Text) → (c == 45) ≡ false → (d : ℕ) (o : Text) → (d == 45) ≡ false → list_any is_no_form (codes "sim" ∷ (b ∷ n) ∷ (c ∷ m) ∷ codes "--settings" ∷ (d ∷ o) ∷ []) ≡ false
sim_s_t_f_in_forms b n e c m f d o g = rw (not_in_form b n e, not_in_form c m f, not_in_form d o g) refl

pub report_taken : fault_of forms (codes "report" ∷ []) ≡ []
unfolding clap_on_literals
report_taken = refl

pub report_read : subcommand_of forms (codes "report" ∷ []) ≡ Some (codes "report", rows_in (subcommand_of forms (codes "report" ∷ [])))
unfolding clap_on_literals
report_read = refl

pub report_record : first_of (codes "record") (rows_in (subcommand_of forms (codes "report" ∷ []))) ≡ None
unfolding clap_on_literals
report_record = refl

pub report_in_forms : list_any is_no_form (codes "report" ∷ []) ≡ false
report_in_forms = refl

pub report_r_taken : (b : ℕ) (n : Text) → (b == 45) ≡ false → fault_of forms (codes "report" ∷ (b ∷ n) ∷ []) ≡ []
unfolding clap_on_literals
report_r_taken b n e = rw (e, e) refl

pub report_r_read : (b : ℕ) (n : Text) → (b == 45) ≡ false → subcommand_of forms (codes "report" ∷ (b ∷ n) ∷ []) ≡ Some (codes "report", rows_in (subcommand_of forms (codes "report" ∷ (b ∷ n) ∷ [])))
unfolding clap_on_literals
report_r_read b n e = rw (e, e) refl

pub report_r_record : (b : ℕ) (n : Text) → (b == 45) ≡ false → first_of (codes "record") (rows_in (subcommand_of forms (codes "report" ∷ (b ∷ n) ∷ []))) ≡ Some (b ∷ n)
unfolding clap_on_literals
report_r_record b n e = rw (e, e) refl

pub report_r_in_forms : (b : ℕ) (n : Text) → (b == 45) ≡ false → list_any is_no_form (codes "report" ∷ (b ∷ n) ∷ []) ≡ false
report_r_in_forms b n e = rw (not_in_form b n e) refl

pub audit_taken : fault_of forms (codes "audit" ∷ []) ≡ []
unfolding clap_on_literals
audit_taken = refl

pub audit_read : subcommand_of forms (codes "audit" ∷ []) ≡ Some (codes "audit", rows_in (subcommand_of forms (codes "audit" ∷ [])))
unfolding clap_on_literals
audit_read = refl

pub audit_record : first_of (codes "record") (rows_in (subcommand_of forms (codes "audit" ∷ []))) ≡ None
unfolding clap_on_literals
audit_record = refl

pub audit_in_forms : list_any is_no_form (codes "audit" ∷ []) ≡ false
audit_in_forms = refl

pub audit_r_taken : (b : ℕ) (n : Text) → (b == 45) ≡ false → fault_of forms (codes "audit" ∷ (b ∷ n) ∷ []) ≡ []
unfolding clap_on_literals
audit_r_taken b n e = rw (e, e) refl

pub audit_r_read : (b : ℕ) (n : Text) → (b == 45) ≡ false → subcommand_of forms (codes "audit" ∷ (b ∷ n) ∷ []) ≡ Some (codes "audit", rows_in (subcommand_of forms (codes "audit" ∷ (b ∷ n) ∷ [])))
unfolding clap_on_literals
audit_r_read b n e = rw (e, e) refl

pub audit_r_record : (b : ℕ) (n : Text) → (b == 45) ≡ false → first_of (codes "record") (rows_in (subcommand_of forms (codes "audit" ∷ (b ∷ n) ∷ []))) ≡ Some (b ∷ n)
unfolding clap_on_literals
audit_r_record b n e = rw (e, e) refl

pub audit_r_in_forms : (b : ℕ) (n : Text) → (b == 45) ≡ false → list_any is_no_form (codes "audit" ∷ (b ∷ n) ∷ []) ≡ false
audit_r_in_forms b n e = rw (not_in_form b n e) refl

pub merge_taken : fault_of forms (codes "merge" ∷ []) ≡ []
unfolding clap_on_literals
merge_taken = refl

pub merge_read : subcommand_of forms (codes "merge" ∷ []) ≡ Some (codes "merge", rows_in (subcommand_of forms (codes "merge" ∷ [])))
unfolding clap_on_literals
merge_read = refl

pub merge_record : first_of (codes "record") (rows_in (subcommand_of forms (codes "merge" ∷ []))) ≡ None
unfolding clap_on_literals
merge_record = refl

pub merge_in_forms : list_any is_no_form (codes "merge" ∷ []) ≡ false
merge_in_forms = refl

pub merge_r_taken : (b : ℕ) (n : Text) → (b == 45) ≡ false → fault_of forms (codes "merge" ∷ (b ∷ n) ∷ []) ≡ []
unfolding clap_on_literals
merge_r_taken b n e = rw (e, e) refl

pub merge_r_read : (b : ℕ) (n : Text) → (b == 45) ≡ false → subcommand_of forms (codes "merge" ∷ (b ∷ n) ∷ []) ≡ Some (codes "merge", rows_in (subcommand_of forms (codes "merge" ∷ (b ∷ n) ∷ [])))
unfolding clap_on_literals
merge_r_read b n e = rw (e, e) refl

pub merge_r_record : (b : ℕ) (n : Text) → (b == 45) ≡ false → first_of (codes "record") (rows_in (subcommand_of forms (codes "merge" ∷ (b ∷ n) ∷ []))) ≡ Some (b ∷ n)
unfolding clap_on_literals
merge_r_record b n e = rw (e, e) refl

pub merge_r_in_forms : (b : ℕ) (n : Text) → (b == 45) ≡ false → list_any is_no_form (codes "merge" ∷ (b ∷ n) ∷ []) ≡ false
merge_r_in_forms b n e = rw (not_in_form b n e) refl

pub upgrade_taken : fault_of forms (codes "upgrade" ∷ []) ≡ []
unfolding clap_on_literals
upgrade_taken = refl

pub upgrade_read : subcommand_of forms (codes "upgrade" ∷ []) ≡ Some (codes "upgrade", rows_in (subcommand_of forms (codes "upgrade" ∷ [])))
unfolding clap_on_literals
upgrade_read = refl

pub upgrade_record : first_of (codes "record") (rows_in (subcommand_of forms (codes "upgrade" ∷ []))) ≡ None
unfolding clap_on_literals
upgrade_record = refl

pub upgrade_in_forms : list_any is_no_form (codes "upgrade" ∷ []) ≡ false
upgrade_in_forms = refl

pub upgrade_r_taken : (b : ℕ) (n : Text) → (b == 45) ≡ false → fault_of forms (codes "upgrade" ∷ (b ∷ n) ∷ []) ≡ []
unfolding clap_on_literals
upgrade_r_taken b n e = rw (e, e) refl

pub upgrade_r_read : (b : ℕ) (n : Text) → (b == 45) ≡ false → subcommand_of forms (codes "upgrade" ∷ (b ∷ n) ∷ []) ≡ Some (codes "upgrade", rows_in (subcommand_of forms (codes "upgrade" ∷ (b ∷ n) ∷ [])))
unfolding clap_on_literals
upgrade_r_read b n e = rw (e, e) refl

pub upgrade_r_record : (b : ℕ) (n : Text) → (b == 45) ≡ false → first_of (codes "record") (rows_in (subcommand_of forms (codes "upgrade" ∷ (b ∷ n) ∷ []))) ≡ Some (b ∷ n)
unfolding clap_on_literals
upgrade_r_record b n e = rw (e, e) refl

pub upgrade_r_in_forms : (b : ℕ) (n : Text) → (b == 45) ≡ false → list_any is_no_form (codes "upgrade" ∷ (b ∷ n) ∷ []) ≡ false
upgrade_r_in_forms b n e = rw (not_in_form b n e) refl
