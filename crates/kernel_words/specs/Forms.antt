-- The two forms of a record's text: what each can express.
use Rattle.std.specs.Prelude.{ℕ, Bool, true, false, List, codes}
use Rattle.event_log.specs.declared.entry.Done.TheVariants.{Steps, NoRoom}
use Rattle.sound_run.specs.declared.limits.TheConstants.{MOST_CPUS}
use Rattle.kernel_object.specs.{declared.call.KParams.KParams, declared.call.KReply.KReply, declared.call.KReply.TheVariants.OverQuota, Kinds.All.{params_kind, own_params}, KernelTypes.{KernelStep, KernelDone}}
use Rattle.kernel_words.specs.{declared.form.Form.Form, declared.form.Form.TheVariants.{One, Two}, declared.form.TheConstants.FIRST_MOST_CPUS, Kinds.Definition.Expresses, Kinds.All.text_of, Ranges.steps_answer}

-- the word behind `record`
abbrev pub version : Form → List ℕ
version One = codes "1"
version Two = codes "2"

-- the most CPUs
abbrev pub most_cpus : Form → ℕ
most_cpus One = FIRST_MOST_CPUS
most_cpus Two = MOST_CPUS

-- the form expresses these parameters
abbrev pub ExpressesParams : Form → KParams → Type 0
ExpressesParams form p = Expresses (text_of (params_kind p)) form (own_params p)

-- the form has a word for the reply
abbrev pub has_reply : Form → KReply → Bool
has_reply Two r = true
has_reply One OverQuota = false
has_reply One r = true

-- for the replies of all steps
abbrev pub has_steps : Form → List KernelStep → Bool
has_steps Two steps = true
has_steps One steps = steps_answer (has_reply One) steps

-- for what was done
abbrev pub has_done : Form → KernelDone → Bool
has_done Two d = true
has_done One (Steps s) = has_steps One s.list.items
has_done One NoRoom = true
