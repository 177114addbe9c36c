-- Reading what an object is opened with, and the lock of its cell.
use Rattle.std.specs.Prelude.{ℕ, List, Option, Some, ◌-◌}
use Rattle.sound_run.specs.declared.lock_kind.LockKind.{LockKind}
use Rattle.kernel_object.specs.{declared.kind.Kind.Kind, declared.call.KParams.KParams, Kinds.All.{by_kind, params_of}, KindWords.kind_of}
use Rattle.kernel_words.specs.{declared.form.Form.Form, Kinds.All.text_of, Parameters.lock_of}
use Rattle.record_lines.specs.Reading.{◌>>=◌, word_at}

-- what an object of the kind is opened with
abbrev pub kind_behind : Form → List (List ℕ) → Kind → Option (KParams × List (List ℕ))
kind_behind form ws kind = (text_of kind).params_at form ws >>= λ p. Some (params_of kind p.0, p.1)

-- what an object of that kind is opened with
unfoldable pub params_behind : Form → Kind → List (List ℕ) → Option (KParams × List (List ℕ))
params_behind form kind ws = by_kind (kind_behind form ws) kind

-- the kind's word, and what an object of that kind is opened with
unfoldable pub params_at : Form → List (List ℕ) → Option (KParams × List (List ℕ))
params_at form ws = do
  w ← word_at ws
  kind ← kind_of w.0
  params_behind form kind w.1

-- the kind of a lock
unfoldable pub lock_at : List (List ℕ) → Option (LockKind × List (List ℕ))
lock_at ws = do
  w ← word_at ws
  kind ← lock_of w.0
  Some (kind, w.1)
