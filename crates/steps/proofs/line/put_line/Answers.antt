use Rattle.std.proofs.{Common.{◌≡◌, ◌∙◌, ◌<◌, ◌++◌, ℕ, List, OnOk, Option, Some, None, ap, arith, length, slice_get, string_bytes, subst, sym}, lemmas.List.length-map}
use Rattle.event_log.proofs.Lists.{some_at}
use Rattle.records.specs.Settings.{ObjectSettings}
use Rattle.sound_run.proofs.Slices.{read_get}
use Rattle.word_rule.proofs.MachineKeeps.{not_found}
use Rattle.steps.specs.Lines.{line_at, line_if, line_of, words_in}
use Rattle.steps.proofs.line.put_line.Goals as goal

pub returns-in-Some-get : goal.returns-in-Some-get
returns-in-Some-get c = λ w shows.
    let a = c.args in
    let s = a.settings.now in
    let x = c.in-Some.x in
    let o = c.in-Some-get.object.now in
    let get = c.in-Some-get.ensures.lookup in
    let at : slice_get s.objects x ≡ Some o = subst (λ (l : List ObjectSettings). slice_get l x ≡ Some o) c.objects.ensures.objects (read_get c.objects.result.now x o get.3.0 get.1) in
    let cells : length a.machine.now.cells ≡ length s.objects = sym (length-map a.machine.now.cells _) ∙ (ap length c.requires ∙ length-map s.objects _) in
    let below : x < length w.cells = let same = ap length c.objects.ensures.objects in let within = get.3.0 in omega (arith, within, same, cells, shows.cells) in
    let cell = some_at w.cells x below in
    let words = c.words-words.ensures w cell.0 shows cell.1 ∙ sym (ap (words_in (length w.cpus)) cell.1) in
    let line : line_at c.cpus.result a.number a.cpu a.done c.words-words.result.now o ≡ line_of s a.number a.cpu a.object a.done w
    = ap (λ n. line_at n a.number a.cpu a.done c.words-words.result.now o) c.cpus.ensures.cpus
    ∙ (ap (λ ws. line_at s.cpus a.number a.cpu a.done ws o) words
    ∙ sym (ap (λ (p : Option ℕ). line_of s a.number a.cpu p a.done w) c.in-Some.is ∙ ap (λ (p : Option ObjectSettings). line_if s a.number a.cpu x p a.done w) at)) in
    subst (λ l. OnOk c.put_at.result (string_bytes c.put_at.new.text ≡ string_bytes a.text.now ++ l)) line c.put_at.ensures

pub returns-in-None : goal.returns-in-None
returns-in-None c = λ w shows.
    let a = c.args in
    let s = a.settings.now in
    let x = c.in-Some.x in
    let none : slice_get s.objects x ≡ None = not_found c.objects.result.now s.objects x c.objects.ensures.objects c.in-None.ensures.lookup.3 in
    let line = ap (λ (p : Option ℕ). line_of s a.number a.cpu p a.done w) c.in-Some.is ∙ ap (λ (p : Option ObjectSettings). line_if s a.number a.cpu x p a.done w) none in
    subst (λ l. OnOk c.put_alone-in-None.result (string_bytes c.put_alone-in-None.new.text ≡ string_bytes a.text.now ++ l)) (sym line) c.put_alone-in-None.ensures
