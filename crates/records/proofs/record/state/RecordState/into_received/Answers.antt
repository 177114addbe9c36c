use Rattle.std.proofs.Common.{sym, ap, ◌∙◌, subst}
use Rattle.record_lines.specs.{FormStates.whole_of, Received.received_whole}
use Rattle.records.specs.{KernelForm.{Head, HeadFits, settings_in}, RecordRanges.RecordFits, RecordStates.{RecordState, record_of}}
use Rattle.records.proofs.{Forms.record_in_written, KernelRecords.{KernelWhole, record_in, fits_of}}
use Rattle.records.proofs.record.state.RecordState.into_received.Goals as goal

pub into_received-head-requires : goal.into_received-head-requires
into_received-head-requires g c = ap (λ (s : RecordState). s.awaits) c.self.view_is ∙ c.requires

pub into_settings-requires : goal.into_settings-requires
into_settings-requires g c = let r = c.into_received-head.ensures in subst HeadFits (sym (ap (λ (w : KernelWhole). w.head) r.received)) r.fit.head

pub returns-clause-received : goal.returns-clause-received
returns-clause-received g c =
    let r = c.into_received-head.ensures in
    ap (λ (h : Head). record_in (received_whole h (g.K.RecordSink.received c.into_received-head.result.1))) r.whole.reported
    ∙ (ap (λ (w : KernelWhole). record_in w) r.received ∙ ap record_of c.self.view_is)

pub returns-clause-settings : goal.returns-clause-settings
returns-clause-settings g c = c.into_settings.ensures ∙ sym (ap settings_in c.into_received-head.ensures.whole.reported)

-- what was read to its end in either form is within the limits of record 2
pub returns-clause-fit : goal.returns-clause-fit
returns-clause-fit g c =
    let w : KernelWhole = whole_of c.self.inside.state in
    subst (λ (s : RecordState). RecordFits (record_of s)) c.self.view_is (record_in_written w.head.form (record_in w) (fits_of w c.into_received-head.ensures.fit))
