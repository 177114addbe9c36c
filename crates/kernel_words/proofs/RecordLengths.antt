-- How long words and lines get, counted roughly: no entry of scripts has over 1,024 bytes.
use Rattle.std.proofs.{Common.{◌≡◌, ℕ, ◌+◌, ◌*◌, ◌≤◌, Bool, true, List, [], ◌∷◌, length, map, arith, rules, codes, decimal, nat_le}, lemmas.Bool.{and_parts, leb-true}, lemmas.Fmt.length-decimal-le}
use Rattle.std.specs.List.{AllByRecursion, list_all}
use Rattle.event_log.specs.declared.entry.Done.TheVariants.{Steps, NoRoom}
use Rattle.sound_run.specs.{declared.lock_kind.LockKind.LockKind, declared.lock_kind.LockKind.TheVariants.{Ticket, Mcs}}
use Rattle.kernel_object.specs.{declared.call.KCall.KCall, declared.call.KReply.KReply, KernelTypes.{KernelStep, KernelDone}}
use Rattle.kernel_words.specs.{declared.tables.field.Field.Field, Ranges.{call_fits, reply_fits, steps_ask, steps_answer}, Ranges.{StepsFit, DoneFits}, Parameters.lock_word, ItemText.{step_words, done_words}, Row.{Row, spelled, in_range, row_fits}, Rows.{call_row, reply_row}, Tables.{call_table, reply_table}}
use Rattle.record_lines.specs.Words.{separated}
use Rattle.kernel_words.proofs.CallLaws.{call_words}
use Rattle.record_lines.proofs.Lengths.{long, separated_le, long_append}

-- ---- numbers and rows

abbrev is_small : Field → Bool
is_small f = nat_le f.high 4294967295

fields_le : (fs : List Field) → list_all in_range fs ≡ true → list_all is_small fs ≡ true → long (map (λ f. decimal f.value) fs) ≤ 11 * length fs
fields_le [] fits small = omega arith
fields_le (f ∷ fs) fits small =
    let here = and_parts (in_range f) (list_all in_range fs) fits in
    let most = and_parts (is_small f) (list_all is_small fs) small in
    let below = leb-true f.value f.high (and_parts (nat_le f.low f.value) (nat_le f.value f.high) here.0).1 in
    let high = leb-true f.high 4294967295 most.0 in
    omega (arith, length-decimal-le 10 f.value (omega arith) (omega (arith, below, high)) (omega (arith, below, high)), fields_le fs here.1 most.1)

-- the word and numbers of 10 digits are within that length
abbrev is_short : ℕ → Row → Bool
is_short most row = nat_le (length row.word + 1 + 11 * length row.fields) most

row_le : (most : ℕ) (row : Row) → row_fits row ≡ true → list_all is_small row.fields ≡ true → is_short most row ≡ true → long (spelled row) ≤ most
row_le most row fits small short = omega (arith, fields_le row.fields fits small, leb-true (length row.word + 1 + 11 * length row.fields) most short)

calls_short : (c : KCall) → is_short 33 (call_row c) ≡ true
calls_short = search rules

replies_short : (r : KReply) → is_short 22 (reply_row r) ≡ true
replies_short = search rules

-- ---- lists with semicolons between

call_le : (c : KCall) → call_fits c ≡ true → long (call_words c) ≤ 33
call_le c fits = row_le 33 (call_row c) fits (call_table.bounded c) (calls_short c)

pub each_call : (cs : List KCall) → list_all call_fits cs ≡ true → AllByRecursion (λ c. long (call_words c) ≤ 57) cs
each_call [] fits = tt
each_call (c ∷ cs) fits = let here = and_parts (call_fits c) (list_all call_fits cs) fits in (omega (arith, call_le c here.0), each_call cs here.1)

each_step : (ss : List KernelStep) → steps_ask call_fits ss ≡ true → steps_answer reply_fits ss ≡ true → AllByRecursion (λ s. long (step_words s) ≤ 57) ss
each_step [] asked answered = tt
each_step (s ∷ ss) asked answered =
    let call = and_parts (call_fits s.call) (steps_ask call_fits ss) asked in
    let reply = and_parts (reply_fits s.reply) (steps_answer reply_fits ss) answered in
    let reply_le = row_le 22 (reply_row s.reply) reply.0 (reply_table.bounded s.reply) (replies_short s.reply) in
    (omega (arith, call_le s.call call.0, reply_le, long_append (call_words s.call) (codes "=" ∷ spelled (reply_row s.reply))), each_step ss call.1 reply.1)

pub steps_le : (ss : List KernelStep) → StepsFit ss → long (separated (map step_words ss)) ≤ 472
steps_le ss fit = separated_le step_words ss (each_step ss fit.calls fit.replies) fit.few

pub done_le : (d : KernelDone) → DoneFits d → long (done_words d) ≤ 472
done_le (Steps s) fit = steps_le s.list.items fit
done_le NoRoom fit = omega arith

-- ---- names

pub lock_le : (l : LockKind) → length (lock_word l) ≤ 6
lock_le Ticket = omega arith
lock_le Mcs = omega arith
