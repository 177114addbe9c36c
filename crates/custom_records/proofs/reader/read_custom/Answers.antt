use Rattle.std.proofs.Common.{◌≡◌, ◌∙◌, ℕ, ◌==◌, true, false, List, ◌∷◌, length, length-append, Err, refl, sym, ap, subst, arith}
use Rattle.std.specs.Bool.{IsTrue}
use Rattle.custom_records.specs.{contracts.custom_form.CustomFormRecordForm.TheImpl.{ghosts as custom_form}, CustomForm.Head, RecordFaults.IsCustomText}
use Rattle.custom_records.proofs.{CustomFormLaws.custom_laws, CustomRecords.{CustomWhole, whole_in, record_in, fits_in, text_as, text_whole, bad_of, bad_is_none, empty_is}}
use Rattle.record_lines.specs.{FormStates.{nothing_read, TakesLine}, LineMachine.TakesText, Received.received_whole}
use Rattle.record_lines.proofs.LineMachine.{text_more_line}
use Rattle.custom_records.proofs.reader.read_custom.Goals as goal
use Rattle.record_lines.proofs.FormTexts as form

pub returns-in_default-clause-fault : goal.returns-in_default-clause-fault
returns-in_default-clause-fault g c = bad_of _ _ (form.end_is_bad custom_form custom_laws c.args.text.now c.loop-rest.rest.now c.loop-rest.state c.loop-rest.number c.loop-rest.invariant.0 c.in_default.ensures.none (λ at none. let both : false ≡ true = subst IsTrue c.loop-rest-test.true (c.is_done.ensures.1 at) in absurd cc))

pub returns-in_default-clause-only : goal.returns-in_default-clause-only
returns-in_default-clause-only g c = λ r fit text. bad_is_none c.args.text.now c.loop-rest.number r (returns-in_default-clause-fault g c) fit text

pub returns-in-Err-Refused-clause-fault : goal.returns-in-Err-Refused-clause-fault
returns-in-Err-Refused-clause-fault g c = bad_of _ _ (form.line_is_bad custom_form custom_laws c.args.text.now c.loop-rest.rest.now c.loop-rest.state c.loop-rest.number c.loop-rest.invariant.0 c.in-Some.line.now c.in-Some.after.now c.in-Some.ensures.found.1 c.in-Some.ensures.found.0 (c.in-Err-Refused.ensures.refused (ap Err c.in-Err-Refused.field-0-is)))

pub returns-in-Err-Refused-clause-only : goal.returns-in-Err-Refused-clause-only
returns-in-Err-Refused-clause-only g c = λ r fit text. bad_is_none c.args.text.now c.loop-rest.number r (returns-in-Err-Refused-clause-fault g c) fit text

pub returns-then-not-is_empty-clause-fault : goal.returns-then-not-is_empty-clause-fault
returns-then-not-is_empty-clause-fault g c = bad_of _ _ (form.more_is_bad custom_form custom_laws c.args.text.now c.loop-rest.rest.now c.loop-rest.state c.loop-rest.number c.loop-rest.invariant.0 (c.is_done.ensures.0 c.loop-rest-test.false) (λ none.
    let both : false ≡ true = sym c.if-not-is_empty.true ∙ (c.is_empty.ensures ∙ ap (λ (l : List ℕ). length l == 0) none) in absurd cc))

pub returns-then-not-is_empty-clause-only : goal.returns-then-not-is_empty-clause-only
returns-then-not-is_empty-clause-only g c = λ r fit text. bad_is_none c.args.text.now c.loop-rest.number r (returns-then-not-is_empty-clause-fault g c) fit text

pub loop-rest-preserved : goal.loop-rest-preserved
loop-rest-preserved g c =
    let cut = c.in-Some.ensures.found.1 in
    let few = c.loop-rest.invariant.1 in (
      text_more_line (TakesLine custom_form) c.args.text.now c.loop-rest.rest.now c.in-Some.after.now c.in-Some.line.now (nothing_read custom_form) c.loop-rest.state c.take.new.self 1 c.loop-rest.number c.loop-rest.invariant.0 c.in-Some.ensures.found.0 cut c.in-Ok.ensures.ok,
      omega (arith, few, ap length cut, length-append c.in-Some.line.now (10 ∷ c.in-Some.after.now)),
    )

pub returns-clause-found : goal.returns-clause-found
returns-clause-found g c =
    let none = empty_is c.loop-rest.rest.now (sym c.is_empty.ensures ∙ c.if-not-is_empty.false) in
    let p = g.S.RecordSink.received c.into_received-head.result.1 in
    let r = c.into_received-head.ensures in
    let kept = ap (λ (h : Head). record_in (received_whole h p)) r.whole.reported ∙ ap (λ (w : CustomWhole). record_in w) r.received in
    subst (IsCustomText c.args.text.now) (sym kept) (text_whole _ _ (form.is_whole custom_form custom_laws c.args.text.now c.loop-rest.rest.now c.loop-rest.state c.loop-rest.number c.loop-rest.invariant.0 (c.is_done.ensures.0 c.loop-rest-test.false) none))

pub returns-clause-only : goal.returns-clause-only
returns-clause-only g c = λ shown fit text.
    let none = empty_is c.loop-rest.rest.now (sym c.is_empty.ensures ∙ c.if-not-is_empty.false) in
    let taken = subst (λ (rest : List ℕ). TakesText (TakesLine custom_form) c.args.text.now (nothing_read custom_form) 1 rest c.loop-rest.state c.loop-rest.number) none c.loop-rest.invariant.0 in
    let p = g.S.RecordSink.received c.into_received-head.result.1 in
    let r = c.into_received-head.ensures in
    ap (λ (h : Head). record_in (received_whole h p)) r.whole.reported
    ∙ ap (λ (w : CustomWhole). record_in w) (r.received ∙ form.read_is custom_form custom_laws c.args.text.now c.loop-rest.state c.loop-rest.number (whole_in shown) taken (fits_in shown fit) (text ∙ text_as shown fit))

pub returns-clause-head : goal.returns-clause-head
returns-clause-head g c = ap (λ (h : Head). h.so_far) (c.head.view_is ∙ sym c.into_received-head.ensures.whole.reported)

pub returns-clause-whole : goal.returns-clause-whole
returns-clause-whole g c = let w = c.into_received-head.ensures.whole in record { reported = refl; begun = w.begun; events = w.events; entries = w.entries }

pub returns-clause-fit : goal.returns-clause-fit
returns-clause-fit g c = (returns-clause-found g c).fit
