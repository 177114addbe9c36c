-- The words that stand for kinds.
use Rattle.std.specs.{Prelude.{ℕ, if◌then◌else◌, Option, Some, None, List, [], ◌∷◌}, Str.bytes_eq}
use Rattle.kernel_object.specs.{declared.kind.Kind.Kind, Kinds.All.{definition_of, all_kinds}}

-- the word of a kind
abbrev pub kind_word : Kind → List ℕ
kind_word kind = (definition_of kind).word

-- the first of these kinds that has the word
abbrev pub kind_among : List Kind → List ℕ → Option Kind
kind_among [] w = None
kind_among (kind ∷ kinds) w = if bytes_eq w (kind_word kind) then Some kind else kind_among kinds w

-- the kind of a word
unfoldable pub kind_of : List ℕ → Option Kind
kind_of w = kind_among all_kinds w
