-- Things that follow one another, and lead back.
use Rattle.std.specs.Prelude.{List, [], ◌∷◌}

-- each is related to the next one, and the last to the given one
abbrev pub Chain : {A : Type 0} → (A → A → Type 0) → List A → A → Type 0
Chain R [] last = Unit {0}
Chain R (a ∷ []) last = R a last
Chain R (a ∷ b ∷ more) last = R a b × Chain R (b ∷ more) last

-- each is related to the next one, and the last to the first
abbrev pub Cyclic : {A : Type 0} → (A → A → Type 0) → List A → Type 0
Cyclic R [] = ⊥
Cyclic R (a ∷ more) = Chain R (a ∷ more) a
