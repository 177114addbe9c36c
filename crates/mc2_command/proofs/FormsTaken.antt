-- Words that are a form ask for what the form says.
use Rattle.std.proofs.{Common.{inl, inr, ◌∙◌, sym, subst, List, [], ◌∷◌, map, codes, refl, Option, Some, None, String, Global, string_bytes}, lemmas.Option.slice_get-map}
use Rattle.clap.specs.Words.{Row, Text, first_of, subcommand_of}
use Rattle.clap.proofs.WalkLemmas.{list_any-map}
use Rattle.mc2_command.specs.{Asked.{AreFiles, Asks, command_name, is_no_form}, Forms.forms, Table.{AreNamed, IsForm, IsNamed, IsRecordForm, IsRunForm, IsSimForm}, declared.arguments.Arguments.Arguments}
use Rattle.program.specs.{Inputs.bytes_of, FileNames.{IsFile, IsWanted}}
use Rattle.mc2_command.proofs.TableTaken.{Taken, rows_in}
use Rattle.mc2_command.specs.declared.arguments.Arguments.TheVariants as asked
use Rattle.mc2_command.proofs.TableTaken as table

-- what `run` finds
abbrev RunFiles : Option Text → Option Text → List Row → Type 0
RunFiles f s rows = IsFile (first_of (codes "settings") rows) f × IsFile (first_of (codes "scripts") rows) s

run_form : (f s : Option Text) (words : List Text) → IsRunForm f s words → IsNamed f → IsNamed s → Taken (codes "run") (RunFiles f s) words
run_form None None words is f s =
    let t : Taken (codes "run") (RunFiles None None) (codes "run" ∷ []) = record { first = refl; in_forms = table.run_in_forms; taken = table.run_taken; rows = rows_in (subcommand_of forms (codes "run" ∷ [])); read = table.run_read; files = ((table.run_settings, tt), (table.run_scripts, tt)) } in
    subst (Taken (codes "run") (RunFiles None None)) (sym is) t
run_form None (Some []) words is f e = cc
run_form None (Some (b ∷ n)) words is f e =
    let t : Taken (codes "run") (RunFiles None (Some (b ∷ n))) (codes "run" ∷ (b ∷ n) ∷ []) = record { first = refl; in_forms = table.run_s_in_forms b n e; taken = table.run_s_taken b n e; rows = rows_in (subcommand_of forms (codes "run" ∷ (b ∷ n) ∷ [])); read = table.run_s_read b n e; files = ((table.run_s_settings b n e, tt), (table.run_s_scripts b n e, e)) } in
    subst (Taken (codes "run") (RunFiles None (Some (b ∷ n)))) (sym is) t
run_form (Some []) s words is e f = cc
run_form (Some (b ∷ n)) None words is e s =
    let t : Taken (codes "run") (RunFiles (Some (b ∷ n)) None) (codes "run" ∷ codes "--settings" ∷ (b ∷ n) ∷ []) = record { first = refl; in_forms = table.run_f_in_forms b n e; taken = table.run_f_taken b n e; rows = rows_in (subcommand_of forms (codes "run" ∷ codes "--settings" ∷ (b ∷ n) ∷ [])); read = table.run_f_read b n e; files = ((table.run_f_settings b n e, e), (table.run_f_scripts b n e, tt)) } in
    subst (Taken (codes "run") (RunFiles (Some (b ∷ n)) None)) (sym is) t
run_form (Some (b ∷ n)) (Some []) words is e f = cc
run_form (Some (b ∷ n)) (Some (c ∷ m)) words (inl is) e f =
    let t : Taken (codes "run") (RunFiles (Some (b ∷ n)) (Some (c ∷ m))) (codes "run" ∷ codes "--settings" ∷ (b ∷ n) ∷ (c ∷ m) ∷ []) = record { first = refl; in_forms = table.run_f_s_in_forms b n e c m f; taken = table.run_f_s_taken b n e c m f; rows = rows_in (subcommand_of forms (codes "run" ∷ codes "--settings" ∷ (b ∷ n) ∷ (c ∷ m) ∷ [])); read = table.run_f_s_read b n e c m f; files = ((table.run_f_s_settings b n e c m f, e), (table.run_f_s_scripts b n e c m f, f)) } in
    subst (Taken (codes "run") (RunFiles (Some (b ∷ n)) (Some (c ∷ m)))) (sym is) t
run_form (Some (b ∷ n)) (Some (c ∷ m)) words (inr is) e f =
    let t : Taken (codes "run") (RunFiles (Some (b ∷ n)) (Some (c ∷ m))) (codes "run" ∷ (c ∷ m) ∷ codes "--settings" ∷ (b ∷ n) ∷ []) = record { first = refl; in_forms = table.run_s_f_in_forms c m f b n e; taken = table.run_s_f_taken c m f b n e; rows = rows_in (subcommand_of forms (codes "run" ∷ (c ∷ m) ∷ codes "--settings" ∷ (b ∷ n) ∷ [])); read = table.run_s_f_read c m f b n e; files = ((table.run_s_f_settings c m f b n e, e), (table.run_s_f_scripts c m f b n e, f)) } in
    subst (Taken (codes "run") (RunFiles (Some (b ∷ n)) (Some (c ∷ m)))) (sym is) t

-- what `sim` finds
abbrev SimFiles : Text → Text → Text → List Row → Type 0
SimFiles f s t rows = IsWanted (first_of (codes "settings") rows) f × IsWanted (first_of (codes "scripts") rows) s × IsWanted (first_of (codes "schedule") rows) t

sim_form : (f s t : Text) (words : List Text) → IsSimForm f s t words → IsNamed (Some f) → IsNamed (Some s) → IsNamed (Some t) → Taken (codes "sim") (SimFiles f s t) words
sim_form [] s t words is e f g = cc
sim_form (b ∷ n) [] t words is e f g = cc
sim_form (b ∷ n) (c ∷ m) [] words is e f g = cc
sim_form (b ∷ n) (c ∷ m) (d ∷ o) words (inl is) e f g =
    let t : Taken (codes "sim") (SimFiles (b ∷ n) (c ∷ m) (d ∷ o)) (codes "sim" ∷ codes "--settings" ∷ (b ∷ n) ∷ (c ∷ m) ∷ (d ∷ o) ∷ []) = record { first = refl; in_forms = table.sim_f_s_t_in_forms b n e c m f d o g; taken = table.sim_f_s_t_taken b n e c m f d o g; rows = rows_in (subcommand_of forms (codes "sim" ∷ codes "--settings" ∷ (b ∷ n) ∷ (c ∷ m) ∷ (d ∷ o) ∷ [])); read = table.sim_f_s_t_read b n e c m f d o g; files = ((table.sim_f_s_t_settings b n e c m f d o g, e), (table.sim_f_s_t_scripts b n e c m f d o g, f), (table.sim_f_s_t_schedule b n e c m f d o g, g)) } in
    subst (Taken (codes "sim") (SimFiles (b ∷ n) (c ∷ m) (d ∷ o))) (sym is) t
sim_form (b ∷ n) (c ∷ m) (d ∷ o) words (inr (inl is)) e f g =
    let t : Taken (codes "sim") (SimFiles (b ∷ n) (c ∷ m) (d ∷ o)) (codes "sim" ∷ (c ∷ m) ∷ codes "--settings" ∷ (b ∷ n) ∷ (d ∷ o) ∷ []) = record { first = refl; in_forms = table.sim_s_f_t_in_forms c m f b n e d o g; taken = table.sim_s_f_t_taken c m f b n e d o g; rows = rows_in (subcommand_of forms (codes "sim" ∷ (c ∷ m) ∷ codes "--settings" ∷ (b ∷ n) ∷ (d ∷ o) ∷ [])); read = table.sim_s_f_t_read c m f b n e d o g; files = ((table.sim_s_f_t_settings c m f b n e d o g, e), (table.sim_s_f_t_scripts c m f b n e d o g, f), (table.sim_s_f_t_schedule c m f b n e d o g, g)) } in
    subst (Taken (codes "sim") (SimFiles (b ∷ n) (c ∷ m) (d ∷ o))) (sym is) t
sim_form (b ∷ n) (c ∷ m) (d ∷ o) words (inr (inr is)) e f g =
    let t : Taken (codes "sim") (SimFiles (b ∷ n) (c ∷ m) (d ∷ o)) (codes "sim" ∷ (c ∷ m) ∷ (d ∷ o) ∷ codes "--settings" ∷ (b ∷ n) ∷ []) = record { first = refl; in_forms = table.sim_s_t_f_in_forms c m f d o g b n e; taken = table.sim_s_t_f_taken c m f d o g b n e; rows = rows_in (subcommand_of forms (codes "sim" ∷ (c ∷ m) ∷ (d ∷ o) ∷ codes "--settings" ∷ (b ∷ n) ∷ [])); read = table.sim_s_t_f_read c m f d o g b n e; files = ((table.sim_s_t_f_settings c m f d o g b n e, e), (table.sim_s_t_f_scripts c m f d o g b n e, f), (table.sim_s_t_f_schedule c m f d o g b n e, g)) } in
    subst (Taken (codes "sim") (SimFiles (b ∷ n) (c ∷ m) (d ∷ o))) (sym is) t

-- what a command on a record finds
abbrev RecordFiles : Option Text → List Row → Type 0
RecordFiles r rows = IsFile (first_of (codes "record") rows) r

report_form : (r : Option Text) (words : List Text) → IsRecordForm (codes "report") r words → IsNamed r → Taken (codes "report") (RecordFiles r) words
report_form None words is e =
    let t : Taken (codes "report") (RecordFiles None) (codes "report" ∷ []) = record { first = refl; in_forms = table.report_in_forms; taken = table.report_taken; rows = rows_in (subcommand_of forms (codes "report" ∷ [])); read = table.report_read; files = (table.report_record, tt) } in
    subst (Taken (codes "report") (RecordFiles None)) (sym is) t
report_form (Some []) words is e = cc
report_form (Some (b ∷ n)) words is e =
    let t : Taken (codes "report") (RecordFiles (Some (b ∷ n))) (codes "report" ∷ (b ∷ n) ∷ []) = record { first = refl; in_forms = table.report_r_in_forms b n e; taken = table.report_r_taken b n e; rows = rows_in (subcommand_of forms (codes "report" ∷ (b ∷ n) ∷ [])); read = table.report_r_read b n e; files = (table.report_r_record b n e, e) } in
    subst (Taken (codes "report") (RecordFiles (Some (b ∷ n)))) (sym is) t

audit_form : (r : Option Text) (words : List Text) → IsRecordForm (codes "audit") r words → IsNamed r → Taken (codes "audit") (RecordFiles r) words
audit_form None words is e =
    let t : Taken (codes "audit") (RecordFiles None) (codes "audit" ∷ []) = record { first = refl; in_forms = table.audit_in_forms; taken = table.audit_taken; rows = rows_in (subcommand_of forms (codes "audit" ∷ [])); read = table.audit_read; files = (table.audit_record, tt) } in
    subst (Taken (codes "audit") (RecordFiles None)) (sym is) t
audit_form (Some []) words is e = cc
audit_form (Some (b ∷ n)) words is e =
    let t : Taken (codes "audit") (RecordFiles (Some (b ∷ n))) (codes "audit" ∷ (b ∷ n) ∷ []) = record { first = refl; in_forms = table.audit_r_in_forms b n e; taken = table.audit_r_taken b n e; rows = rows_in (subcommand_of forms (codes "audit" ∷ (b ∷ n) ∷ [])); read = table.audit_r_read b n e; files = (table.audit_r_record b n e, e) } in
    subst (Taken (codes "audit") (RecordFiles (Some (b ∷ n)))) (sym is) t

merge_form : (r : Option Text) (words : List Text) → IsRecordForm (codes "merge") r words → IsNamed r → Taken (codes "merge") (RecordFiles r) words
merge_form None words is e =
    let t : Taken (codes "merge") (RecordFiles None) (codes "merge" ∷ []) = record { first = refl; in_forms = table.merge_in_forms; taken = table.merge_taken; rows = rows_in (subcommand_of forms (codes "merge" ∷ [])); read = table.merge_read; files = (table.merge_record, tt) } in
    subst (Taken (codes "merge") (RecordFiles None)) (sym is) t
merge_form (Some []) words is e = cc
merge_form (Some (b ∷ n)) words is e =
    let t : Taken (codes "merge") (RecordFiles (Some (b ∷ n))) (codes "merge" ∷ (b ∷ n) ∷ []) = record { first = refl; in_forms = table.merge_r_in_forms b n e; taken = table.merge_r_taken b n e; rows = rows_in (subcommand_of forms (codes "merge" ∷ (b ∷ n) ∷ [])); read = table.merge_r_read b n e; files = (table.merge_r_record b n e, e) } in
    subst (Taken (codes "merge") (RecordFiles (Some (b ∷ n)))) (sym is) t

upgrade_form : (r : Option Text) (words : List Text) → IsRecordForm (codes "upgrade") r words → IsNamed r → Taken (codes "upgrade") (RecordFiles r) words
upgrade_form None words is e =
    let t : Taken (codes "upgrade") (RecordFiles None) (codes "upgrade" ∷ []) = record { first = refl; in_forms = table.upgrade_in_forms; taken = table.upgrade_taken; rows = rows_in (subcommand_of forms (codes "upgrade" ∷ [])); read = table.upgrade_read; files = (table.upgrade_record, tt) } in
    subst (Taken (codes "upgrade") (RecordFiles None)) (sym is) t
upgrade_form (Some []) words is e = cc
upgrade_form (Some (b ∷ n)) words is e =
    let t : Taken (codes "upgrade") (RecordFiles (Some (b ∷ n))) (codes "upgrade" ∷ (b ∷ n) ∷ []) = record { first = refl; in_forms = table.upgrade_r_in_forms b n e; taken = table.upgrade_r_taken b n e; rows = rows_in (subcommand_of forms (codes "upgrade" ∷ (b ∷ n) ∷ [])); read = table.upgrade_r_read b n e; files = (table.upgrade_r_record b n e, e) } in
    subst (Taken (codes "upgrade") (RecordFiles (Some (b ∷ n)))) (sym is) t

by_form : (a : Arguments) (words : List Text) → IsForm a words → AreNamed a → Taken (command_name a) (λ rows. AreFiles rows a) words
by_form (asked.Run settings scripts) words is named = run_form (bytes_of settings) (bytes_of scripts) words is named.0 named.1
by_form (asked.Sim settings scripts schedule) words is named = sim_form settings.now scripts.now schedule.now words is named.0 named.1 named.2
by_form (asked.Report name) words is named = report_form (bytes_of name) words is named
by_form (asked.Audit name) words is named = audit_form (bytes_of name) words is named
by_form (asked.Merge name) words is named = merge_form (bytes_of name) words is named
by_form (asked.Upgrade name) words is named = upgrade_form (bytes_of name) words is named

-- such words ask for that
pub asks : (words : List (String Global)) (a : Arguments) → IsForm a (map string_bytes words) → AreNamed a → Asks words a
asks words a is named =
    let t = by_form a (map string_bytes words) is named in
    record { in_forms = list_any-map is_no_form string_bytes words ∙ t.in_forms; taken = t.taken; rows = t.rows; read = t.read; first = sym (slice_get-map string_bytes words 0) ∙ t.first; files = t.files }
