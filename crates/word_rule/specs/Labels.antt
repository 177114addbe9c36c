-- What the words of each lock are called, where they are shown.
use Rattle.std.specs.Prelude.{ℕ, List, [], ◌∷◌, map, codes}
use Rattle.word_rule.specs.declared.labels.Labels.{Labels}
use Rattle.sound_run.specs.declared.lock_kind.LockKind.{LockKind}
use Rattle.word_rule.specs.declared.labels.Labels.TheVariants as labels
use Rattle.sound_run.specs.declared.lock_kind.LockKind.TheVariants as kinds

-- the names of one word's high and low half; or of the first word, and of each group of words behind it
pub data WordLabels : Type 0 where
  halves : List ℕ → List ℕ → WordLabels
  groups : List ℕ → List (List ℕ) → WordLabels

-- the same, as texts alone
abbrev pub shown_by : Labels → WordLabels
shown_by (labels.Halves high low) = halves high.now low.now
shown_by (labels.Groups first others) = groups first.now (map (λ label. label.now) others.now)

-- one line for each lock
abbrev pub labels_of : LockKind → WordLabels
labels_of kinds.Ticket = halves (codes "next") (codes "serving")
labels_of kinds.Mcs = groups (codes "tail") (codes "next" ∷ codes "locked" ∷ [])
