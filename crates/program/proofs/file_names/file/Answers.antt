use Rattle.std.proofs.Common.{Some, option_map, ap, sym, ◌∙◌, subst, false, ◌≡◌}
use Rattle.clap.specs.Words.{found_of}
use Rattle.program.specs.FileNames.{is_no_name}
use Rattle.program.proofs.{Refused.always, Rows.{not_file, value_is}}
use Rattle.program.proofs.file_names.file.Goals as goal

pub returns-in_err-file_name-in-Some-clause-refused : goal.returns-in_err-file_name-in-Some-clause-refused
returns-in_err-file_name-in-Some-clause-refused c =
    let value = value_is (found_of c.args.found.now) c.args.id.now c.get_str.result c.get_str.ensures in
    always _ c.from_residual.result (not_file _ c.in-Some.name.now (value ∙ ap (option_map (λ n. n.now)) c.in-Some.is) c.in_err-file_name-in-Some.ensures.refused)

pub returns-in_ok-file_name-in-Some-clause-found : goal.returns-in_ok-file_name-in-Some-clause-found
returns-in_ok-file_name-in-Some-clause-found c =
    let value = value_is (found_of c.args.found.now) c.args.id.now c.get_str.result c.get_str.ensures in
    let same = c.in_ok-file_name-in-Some.ensures.found in
    (value ∙ (ap (option_map (λ n. n.now)) c.in-Some.is ∙ ap Some (sym same.0)), subst (λ n. is_no_name n ≡ false) (sym same.0) same.1)

pub returns-in-None-clause-found : goal.returns-in-None-clause-found
returns-in-None-clause-found c =
    let value = value_is (found_of c.args.found.now) c.args.id.now c.get_str.result c.get_str.ensures in
    (value ∙ ap (option_map (λ n. n.now)) c.in-None.is, tt)
