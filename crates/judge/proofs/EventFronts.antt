-- A line that begins with a digit is no object's, and no head of a log.
use Rattle.std.proofs.{Common.{◌≡◌, ℕ, true, false, None, List, [], ◌∷◌, refl, sym, ap, ◌∙◌, codes, bytes_eq}, lemmas.Bool.{false_from_ne_true, false≢true}}
use Rattle.custom_records.specs.LineReading.{begins_number, number_next, custom_object_at}
use Rattle.record_lines.proofs.Readings.{same}
use Rattle.record_lines.specs.Reading.{word_at, key_at}
use Rattle.judge.specs.OwnLines.{any_log_at}
use Rattle.judge.proofs.LogHeads.{no_head}

other_key : (key : List ℕ) (ws : List (List ℕ)) → begins_number key ≡ false → number_next ws ≡ true → key_at key ws ≡ None
unfolding key_at word_at
other_key key [] plain digit = refl
other_key key (w ∷ ws) plain digit =
    let other : bytes_eq w key ≡ false = false_from_ne_true (bytes_eq w key) (λ e. false≢true (sym plain ∙ (ap begins_number (sym (same w key e)) ∙ digit))) in
    rw other refl

pub no_object : (ws : List (List ℕ)) → number_next ws ≡ true → custom_object_at ws ≡ None
unfolding custom_object_at
no_object ws digit = rw (other_key (codes "object") ws refl digit) refl

pub no_log : (ws : List (List ℕ)) → number_next ws ≡ true → any_log_at ws ≡ None
no_log ws digit = no_head ws (other_key (codes "log") ws refl digit)
