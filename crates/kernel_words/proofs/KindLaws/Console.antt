-- What is proved of consoles.
use Rattle.std.proofs.{Common.{◌≡◌, ℕ, ◌<◌, ◌≤◌, true, ◌&&◌, nat_le, List, [], ◌∷◌, ◌++◌, length, refl, arith, rules}, lemmas.Bool.{and_parts, leb-true, le-leb}}
use Rattle.std.specs.List.{AllByRecursion}
use Rattle.console_ring.specs.{State.{ConsoleState, IsConsoleOf, is_in_range, opening_state}, Answer.console_answer, declared.call.ConsoleCall.ConsoleCall, declared.call.ConsoleCall.TheVariants.{Put, Get, Level}, declared.console.TheConstants.MOST_BYTES}
use Rattle.kernel_object.specs.Kinds.Console.{of_console}
use Rattle.kernel_words.specs.{Kinds.Console.{console_row, console_text}, Ranges.reply_fits, Row.{in_range, row_fits, byte, limit}}
use Rattle.kernel_words.proofs.{KindLaws.Laws.{KindLaws, KindKeeps, all_expressed, limit_again, small_number, wide_fits}, LogRanges.Keeps, Spellings.field_takes}
use Rattle.record_lines.proofs.{Readings.plain_decimal, Lengths.number_le}

pub console_laws : KindLaws console_text
console_laws = record {
  take = λ form ws read e. let number = field_takes (limit MOST_BYTES 0) ws read e in record { text = number.text; fits = number.fit; expressed = all_expressed console_text (λ p. tt) form read.0 };
  again = λ form b rest fits expressed. limit_again MOST_BYTES b rest (omega arith) fits;
  plain_word = search (rules, arith);
  plain = λ form b fits. (plain_decimal b (small_number b MOST_BYTES (omega arith) fits), tt);
  short_word = omega arith;
  short = λ form b fits. omega (arith, number_le b (small_number b MOST_BYTES (omega arith) fits));
}

-- ---- a console has bytes alone

byte_fits : (n : ℕ) → n < 256 → (in_range (byte n) && true) ≡ true
byte_fits n lt = rw (le-leb 0 n (omega arith), le-leb n 255 (omega (arith, lt))) refl

abbrev AreBytes : List ℕ → Type 0
AreBytes bs = AllByRecursion (λ b. b < 256) bs

bytes_push : (bs : List ℕ) (b : ℕ) → AreBytes bs → b < 256 → AreBytes (bs ++ b ∷ [])
bytes_push [] b p lt = (lt, tt)
bytes_push (x ∷ bs) b p lt = (p.0, bytes_push bs b p.1 lt)

-- a console that has bytes alone
record GoodConsole (n : ℕ) (c : ConsoleState) : Type 0 where
  is : IsConsoleOf n c
  bytes : AreBytes c.bytes

abbrev ConsoleKeeps : ConsoleState → ConsoleCall → Type 0
ConsoleKeeps s c = Keeps (λ t. AreBytes t.bytes) (λ r. reply_fits (of_console r)) (console_answer s c)

put_keeps : (s : ConsoleState) (b : ℕ) → b < 256 → AreBytes s.bytes → ConsoleKeeps s (Put b)
put_keeps = search (rules, bytes_push, byte_fits)

answer_keeps : (n : ℕ) (s : ConsoleState) (c : ConsoleCall) → n ≤ 4096 → row_fits (console_row c) ≡ true → GoodConsole n s → ConsoleKeeps s c
answer_keeps n s (Put b) few fits good =
    let high = leb-true b 255 (and_parts (nat_le 0 b) (nat_le b 255) (and_parts (in_range (byte b)) true fits).0).1 in
    put_keeps s b (omega (arith, high)) good.bytes
answer_keeps n s Get few fits good = search (rules, byte_fits)
answer_keeps n s Level few fits good = record { good = good.bytes; fits = wide_fits (length s.bytes) (let w = good.is.within in omega (arith, w, few)) }

-- by the law of a console's states
pub console_keeps : ((n : ℕ) → is_in_range n ≡ true → IsConsoleOf n (opening_state n)) → ((n : ℕ) (s : ConsoleState) (c : ConsoleCall) → IsConsoleOf n s → IsConsoleOf n (console_answer s c).0) → KindKeeps console_text
console_keeps opens stays = record {
  Good = λ n s. (n ≤ 4096) × GoodConsole n s;
  opens = λ n range. (leb-true n 4096 (and_parts (nat_le 1 n) (nat_le n 4096) range).1, record { is = opens n range; bytes = tt });
  keeps = λ n s c good fits. let k = answer_keeps n s c good.0 fits good.1 in record { good = (good.0, record { is = stays n s c good.1.is; bytes = k.good }); fits = k.fits };
}
