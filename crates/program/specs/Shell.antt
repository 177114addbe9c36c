-- From which call a program has its status.
use Rattle.std.specs.{Prelude.ℕ, Fn.{FnOnceReturns, Once}}
use Rattle.program.specs.declared.refusal.Refusal.{Refusal}
use Rattle.program.specs.declared.refusal.Refusal.TheVariants as refusal

-- the command may answer that status, at some words
abbrev pub ByCommand : {C A L : Type 0} → Once C A (ℕ × L) → C → ℕ → Type 0
ByCommand {C} {A} {L} calls command status = (asked : A) × (left : L) × FnOnceReturns calls command asked (status, left)

-- memory ran out, or a word is no text
abbrev pub IsOfWords : Refusal → Type 0
IsOfWords refusal.OutOfMemory = Unit {0}
IsOfWords refusal.BadWords = Unit {0}
IsOfWords _ = ⊥

-- the refusal of words that aren't known may have that status
abbrev pub ByRefusal : {D A L : Type 0} → Once D (Refusal × A) (ℕ × L) → D → ℕ → Type 0
ByRefusal {D} {A} {L} calls refuse status = (reported : Refusal) × IsOfWords reported × (faults : A) × (left : L) × FnOnceReturns calls refuse (reported, faults) (status, left)
