-- How what objects are opened with is spelled.
use Rattle.std.specs.{Prelude.{ℕ, if◌then◌else◌, Option, Some, None, List, ◌∷◌, codes}, Str.bytes_eq}
use Rattle.sound_run.specs.{declared.lock_kind.LockKind.LockKind, declared.lock_kind.LockKind.TheVariants.{Ticket, Mcs}}
use Rattle.kernel_object.specs.{declared.call.KParams.KParams, Kinds.All.on_params, KindWords.kind_word}
use Rattle.kernel_words.specs.{declared.form.Form.Form, Kinds.All.text_of}

-- the word of a lock
abbrev pub lock_word : LockKind → List ℕ
lock_word Ticket = codes "ticket"
lock_word Mcs = codes "mcs"

-- the lock of a word
unfoldable pub lock_of : List ℕ → Option LockKind
lock_of w = if bytes_eq w (codes "ticket") then Some Ticket else if bytes_eq w (codes "mcs") then Some Mcs else None

-- the kind, and its numbers
abbrev pub params_words : Form → KParams → List (List ℕ)
params_words form p = on_params (λ k own. kind_word k ∷ (text_of k).params_words form own) p
