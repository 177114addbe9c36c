use Rattle.std.proofs.{Common.{◌≡◌, ◌++◌, [], ℕ, List, Option, Some, map, sym, ◌∙◌, subst}, lemmas.List.append-nil, lemmas.Simd.map-map}
use Rattle.kernel_object.specs.{declared.call.KParams.KParams, declared.call.KCall.KCall, declared.call.KReply.KReply, declared.object.KernelObject.KernelObject, contracts.object.KernelObjectSeqObject.TheImpl.{ghosts as kernel}}
use Rattle.auditor.specs.{Faults.IsFault, Transcripts.{judged_by, opened_by}, declared.opened_object.OpenedObject.OpenedObject}
use Rattle.sound_run.specs.{Orders.HasOrder, Sound.{Opened, Sound}}
use Rattle.kernel_words.specs.declared.form.TheConstants.{WRITTEN}
use Rattle.records.specs.{RecordFaults.{text_in, text_of}, RecordRanges.{Record, RecordFits}, Runs.opened_of, Settings.{Settings, ObjectSettings}}
use Rattle.program.specs.Texts.{SpellsRecordOf}
use Rattle.mc2_command.proofs.sim_laws.simulations_have_no_cycle.Goals as goal

-- the record that is read is the one that was answered
is_same : (c : goal.After-sound_has_no_fault) (later : Option (List ℕ) → Option (List ℕ)) (name : Option (List ℕ)) (r of : Record) → RecordFits r → later name ≡ Some (text_of r) → SpellsRecordOf later name of → r ≡ of
is_same c later name r of fit there read =
    let form = read.2.form in
    let text : text_in form of ≡ text_of r ++ [] = sym read.2.text ∙ (read.1 (text_of r) there ∙ sym (append-nil (text_of r))) in
    (c.no_text_begins_another.ensures WRITTEN form r of [] fit read.2.fit text).1

pub returns-clause-cycle : goal.returns-clause-cycle
returns-clause-cycle c = λ held later settings scripts schedule r sim fit name answer there refused.
    let same = is_same c later name r refused.of fit there refused.read in
    let order = subst (λ (z : Record). HasOrder z.run) same sim.is.ordered in
    refused.has.none order.places order.order

-- what the objects of the settings are judged by
abbrev opened_object_of : ObjectSettings → OpenedObject KernelObject KParams KCall KReply
opened_object_of o = record { params = o.params; limit = o.events }

pub returns-clause-fault : goal.returns-clause-fault
returns-clause-fault c = λ held later settings scripts schedule r sim fit name answer there refused.
    let of = refused.of in
    let same = is_same c later name r of fit there refused.read in
    let first : Sound kernel (opened_of r.settings) r.run = subst (λ (s : Settings). Sound kernel (opened_of s) r.run) (sym sim.is.under) sim.is.sound in
    let sound : Sound kernel (opened_of of.settings) of.run = subst (λ (z : Record). Sound kernel (opened_of z.settings) z.run) same first in
    let opened_objects = map opened_object_of of.settings.objects in
    let opened : opened_by opened_objects ≡ opened_of of.settings = map-map judged_by opened_object_of of.settings.objects in
    c.sound_has_no_fault.ensures opened_objects of.run (subst (λ (l : List (Opened KParams)). Sound kernel l of.run) (sym opened) sound) refused.fault
    (subst (λ (l : List (Opened KParams)). IsFault kernel l of.run refused.fault) (sym opened) refused.first.there)
