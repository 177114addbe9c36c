-- A state that takes the lines of a text, one after the other.
use Rattle.std.specs.{Prelude.{ℕ, ◌≡◌, ◌+◌, ◌<◌, ◌≤◌, ◌⊎◌, Bool, true, false, List, [], ◌∷◌, ◌++◌, length}, List.AllByRecursion}
use Rattle.record_lines.specs.{declared.text.line_machine.TheConstants.MOST_BYTES, Words.{NoEnd, text_of_lines}}

-- the lines, one after the other, take the one state to the other
abbrev pub TakesEach : {L S : Type 0} → (L → S → S → Type 0) → List L → S → S → Type 0
TakesEach act [] old new = new ≡ old
TakesEach {L} {S} act (line ∷ lines) old new = (between : S) × act line old between × TakesEach act lines between new

-- a line that begins with these bytes may go on: there are none yet, or so many are allowed behind the first of them
abbrev pub IsShort : (ℕ → ℕ → Type 0) → List ℕ → Type 0
IsShort fits [] = Unit {0}
IsShort fits (b ∷ bytes) = fits b (length (b ∷ bytes))

module _ {S : Type 0} (act : List ℕ → S → S → Type 0) where
  -- the text is whole lines, which take the one state to the other, and a rest; m is the number of the line after them
  pub record TakesText (text : List ℕ) (old : S) (n : ℕ) (rest : List ℕ) (new : S) (m : ℕ) : Type 0 where
    pub lines : List (List ℕ)
    pub each : AllByRecursion NoEnd lines
    pub parts : text ≡ text_of_lines lines ++ rest
    pub takes : TakesEach act lines old new
    pub number : m ≡ n + length lines

  -- line m of the text, where the first has number n, is the first that isn't taken
  pub record RefusesText (refuses : List ℕ → S → Type 0) (text : List ℕ) (old : S) (n m : ℕ) : Type 0 where
    pub line : List ℕ
    pub after : List ℕ
    pub new : S
    pub before : TakesText text old n (line ++ 10 ∷ after) new m
    pub no_end : NoEnd line
    pub bad : refuses line new

  -- line m, at the end of the text, has no end yet, is too long already, and isn't taken however it goes on
  pub record RefusesRest (refuses : List ℕ → S → Type 0) (fits : ℕ → ℕ → Type 0) (text : List ℕ) (old : S) (n m : ℕ) : Type 0 where
    pub rest : List ℕ
    pub new : S
    pub before : TakesText text old n rest new m
    pub long : IsShort fits rest → ⊥
    pub no_end : NoEnd rest
    pub bad : (more : List ℕ) → refuses (rest ++ more) new

  -- line m isn't taken, whatever follows the text
  abbrev pub RefusesLine : (List ℕ → S → Type 0) → (ℕ → ℕ → Type 0) → List ℕ → S → ℕ → ℕ → Type 0
  RefusesLine refuses fits text old n m = RefusesText refuses text old n m ⊎ RefusesRest refuses fits text old n m

  -- lines that begin so change nothing
  pub record Passes (state : S) (front : List ℕ) : Type 0 where
    pub some : 0 < length front
    pub same : (more : List ℕ) → act (front ++ more) state state

  -- lines that begin with the byte change nothing, whatever follows it
  abbrev pub ChangesNothing : S → ℕ → Type 0
  ChangesNothing state first = (rest : List ℕ) → act (first ∷ rest) state state

  -- the bytes begin with such a byte
  abbrev pub BeginsIdle : S → List ℕ → Type 0
  BeginsIdle state [] = ⊥
  BeginsIdle state (b ∷ bytes) = ChangesNothing state b

  -- of a line without an end at most 1,024 bytes are pending, and none of one that changes nothing
  pub record IsHeld (state : S) (pending : List ℕ) : Type 0 where
    pub few : length pending ≤ MOST_BYTES
    pub busy : BeginsIdle state pending → ⊥

  -- what is pending of a line without an end: all of it, or nothing where such a line passes
  pub record IsKept (state : S) (unended : List ℕ) (passing : Bool) (pending : List ℕ) : Type 0 where
    pub whole : passing ≡ false → pending ≡ unended
    pub nothing : passing ≡ true → pending ≡ []
    pub passes : passing ≡ true → Passes state unended

  -- the whole lines of the text were taken, of which the first has number 1, and what follows them is kept
  pub record HasTaken (start : S) (text : List ℕ) (state : S) (number : ℕ) (passing : Bool) (pending : List ℕ) : Type 0 where
    pub unended : List ℕ
    pub taken : TakesText text start 1 unended state number
    pub no_end : NoEnd unended
    pub kept : IsKept state unended passing pending
