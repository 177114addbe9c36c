-- A line of the scripts is read as what it spells, and nothing else is.
use Rattle.std.proofs.{Common.{◌≡◌, ℕ, Some, List, [], ◌∷◌, ◌++◌, map, sym, ◌∙◌, ap, subst, arith, decimal, nat_lt, ◌&&◌, ◌≤◌, length}, lemmas.Bool.{and_parts, lt-ltb, ltb-true}, lemmas.List.append-nil, lemmas.Option.cond_some}
use Rattle.std.specs.List.{AllByRecursion}
use Rattle.kernel_words.specs.{Ranges.call_fits, ItemReading.call_at}
use Rattle.record_lines.specs.{Reading.{words, number_at}, Words.IsPlain, Words.{sentence, separated}, LineParts.{is_nil, list_at}}
use Rattle.scripts.specs.{ScriptText.{Request, IsRequest, request_words}, RequestReading.request_at}
use Rattle.records.specs.{Settings.{Settings, SettingsFit, name_at}, RecordReading.place_at}
use Rattle.record_lines.proofs.{ListLaws.{nil_is, key_end, list_takes, list_again, list_plain}, Readings.{bind_some, plain_decimal, number_at_takes, number_at_again}, Sentences.{words_sentence, sentence_words}, Lengths.{number_le, separated_le, sentence_le}}
use Rattle.records.proofs.NamedObjects.{name_at_plain, place_takes, place_again, name_at_le}
use Rattle.kernel_words.proofs.{RecordLengths.each_call, CallLaws.{call_words, reads_calls}}

module _ (settings : Settings) (fit : SettingsFit settings) where
  -- what is read of a line is what it asks for
  pub request_takes : (line : List ℕ) (r : Request) → request_at settings (words line) ≡ Some r → IsRequest settings line r
  unfolding request_at
  request_takes line r e =
      bind_some (number_at 255 (words line)) _ r e (λ cpu found_cpu read_cpu.
      bind_some (place_at settings.objects cpu.1) _ r read_cpu (λ object found_object read_object.
      bind_some (list_at call_at object.1) _ r read_object (λ calls found_calls last.
      let whole = cond_some (nat_lt cpu.0 settings.cpus && is_nil calls.1) (record { cpu = cpu.0; todo = record { object = object.0; calls = record { items = calls.0 } } }) r last in
      let tests = and_parts (nat_lt cpu.0 settings.cpus) (is_nil calls.1) whole.0 in
      let number = number_at_takes 255 cpu.0 (words line) cpu.1 found_cpu in
      let named = place_takes settings cpu.1 object found_object in
      let asked = list_takes call_words call_fits call_at reads_calls object.1 calls found_calls in
      let spells : object.1 ≡ separated (map call_words calls.0) = asked.text ∙ (ap (λ l. separated (map call_words calls.0) ++ l) (nil_is calls.1 tests.1) ∙ append-nil (separated (map call_words calls.0))) in
      let text : words line ≡ decimal cpu.0 ∷ name_at settings object.0 ∷ separated (map call_words calls.0) = number.0 ∙ ap (λ l. decimal cpu.0 ∷ l) (named.text ∙ ap (λ l. name_at settings object.0 ∷ l) spells) in
      subst (λ (q : Request). IsRequest settings line q) whole.1 (record {
        text = sym (sentence_words line) ∙ ap sentence text;
        cpu = ltb-true cpu.0 settings.cpus tests.0;
        todo = record { object = named.bound; some = asked.some; few = asked.few; calls = asked.fit };
      }))))

  request_plain : (line : List ℕ) (r : Request) → IsRequest settings line r → AllByRecursion IsPlain (request_words settings r)
  request_plain line r asked =
      let cpus = fit.cpus in
      let cpu = asked.cpu in
      (plain_decimal r.cpu (omega (arith, cpu, cpus.1)), (name_at_plain settings fit r.todo.object asked.todo.object, list_plain call_words call_fits call_at reads_calls r.todo.calls.items asked.todo.calls))

  -- what a line asks for is read
  pub request_again : (line : List ℕ) (r : Request) → IsRequest settings line r → request_at settings (words line) ≡ Some r
  unfolding request_at
  request_again line r asked =
      let calls : List (List ℕ) = separated (map call_words r.todo.calls.items) in
      let text : words line ≡ request_words settings r = ap words asked.text ∙ words_sentence (request_words settings r) (omega arith) (request_plain line r asked) in
      let cpus = fit.cpus in
      let cpu = asked.cpu in
      let read : list_at call_at calls ≡ Some (r.todo.calls.items, []) = ap (list_at call_at) (sym (append-nil calls)) ∙ list_again call_words call_fits call_at reads_calls r.todo.calls.items [] asked.todo.some asked.todo.few asked.todo.calls (key_end _) in
      rw (text, number_at_again 255 r.cpu (name_at settings r.todo.object ∷ calls) (omega (arith, cpu, cpus.1)) (omega (arith, cpu, cpus.1)), place_again settings r.todo.object calls fit.names asked.todo.object, read, lt-ltb r.cpu settings.cpus asked.cpu)

-- an entry of scripts has at most 1,024 bytes
pub long_no_request : (settings : Settings) → SettingsFit settings → (line : List ℕ) (r : Request) → IsRequest settings line r → length line ≤ 1024
long_no_request settings fit line r asked =
    let most = fit.cpus.1 in
    let less = asked.cpu in
    let name = name_at_le settings fit r.todo.object asked.todo.object in
    let calls = separated_le call_words r.todo.calls.items (each_call r.todo.calls.items asked.todo.calls) asked.todo.few in
    omega (arith, ap length asked.text, sentence_le (request_words settings r), number_le r.cpu (omega (arith, less, most)), name, calls)
