-- The head of a log begins with its first word.
use Rattle.std.proofs.Common.{◌≡◌, ℕ, Option, Some, None, List, [], ◌∷◌, refl, ap, ◌∙◌, codes}
use Rattle.record_lines.specs.{Reading.{◌>>=◌, word_at, key_at}, LineParts.{name_word_at, head_at, keys_at, last_at}}
use Rattle.judge.specs.OwnLines.{any_log_at}

no_more : {A B : Type 0} (o : Option A) → ◌>>=◌ {A = A} {B = B} o (λ a. None) ≡ None
no_more None = refl
no_more (Some a) = refl

-- other words are no head of a log
pub no_head : (ws : List (List ℕ)) → key_at (codes "log") ws ≡ None → any_log_at ws ≡ None
unfolding any_log_at word_at head_at keys_at
no_head [] other = refl
no_head (w ∷ ws) other = ap (λ (o : Option (List (List ℕ))). name_word_at ws >>= λ name. ((o >>= λ rest. keys_at (name.0 ∷ []) rest) >>= λ rest. last_at 0 4294967295 rest) >>= λ count. Some (name.0, count)) other ∙ no_more (name_word_at ws)
