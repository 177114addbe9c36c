use Rattle.records.proofs.FormFaults.{bad_in_form}
use Rattle.records.proofs.record.form_faults.bad_line_of_form.Goals as goal

pub returns : goal.returns
returns c = bad_in_form
