-- Which files words can't have.
use Rattle.std.proofs.Common.{ap, arith, slice_index_or, ◌≡◌, ℕ, List, Option, codes, sym}
use Rattle.clap.specs.Words.{Row, Text, first_of}
use Rattle.program.specs.{Inputs.bytes_of, FileNames.{IsFile, IsWanted}}
use Rattle.mc2_command.specs.{Asked.{AreFiles, command_name}, declared.arguments.Arguments.Arguments}
use Rattle.mc2_command.specs.declared.arguments.Arguments.TheVariants as asked

-- a byte of a word
abbrev letter : ℕ → Text → ℕ
letter k word = slice_index_or word k 0

module _ (rows : List Row) where
  -- `run` has such files
  pub no_run : ((s t : Option Text) → IsFile (first_of (codes "settings") rows) s → IsFile (first_of (codes "scripts") rows) t → ⊥)
      → (a : Arguments) → codes "run" ≡ command_name a → AreFiles rows a → ⊥
  no_run lacks (asked.Run s t) e h = lacks (bytes_of s) (bytes_of t) h.0 h.1
  no_run lacks (asked.Sim s t u) e h = let bad : ◌≡◌ {A = ℕ} 114 115 = ap (letter 0) e in omega arith
  no_run lacks (asked.Report t) e h = let bad : ◌≡◌ {A = ℕ} 117 101 = ap (letter 1) e in omega arith
  no_run lacks (asked.Audit t) e h = let bad : ◌≡◌ {A = ℕ} 114 97 = ap (letter 0) e in omega arith
  no_run lacks (asked.Merge t) e h = let bad : ◌≡◌ {A = ℕ} 114 109 = ap (letter 0) e in omega arith
  no_run lacks (asked.Upgrade t) e h = let bad : ◌≡◌ {A = ℕ} 114 117 = ap (letter 0) e in omega arith

  -- and so has `sim`
  pub no_sim : ((s t u : Text) → IsWanted (first_of (codes "settings") rows) s → IsWanted (first_of (codes "scripts") rows) t → IsWanted (first_of (codes "schedule") rows) u → ⊥)
      → (a : Arguments) → codes "sim" ≡ command_name a → AreFiles rows a → ⊥
  no_sim lacks (asked.Run s t) e h = let bad : ◌≡◌ {A = ℕ} 115 114 = ap (letter 0) e in omega arith
  no_sim lacks (asked.Sim s t u) e h = lacks s.now t.now u.now h.0 h.1 h.2
  no_sim lacks (asked.Report t) e h = let bad : ◌≡◌ {A = ℕ} 115 114 = ap (letter 0) e in omega arith
  no_sim lacks (asked.Audit t) e h = let bad : ◌≡◌ {A = ℕ} 115 97 = ap (letter 0) e in omega arith
  no_sim lacks (asked.Merge t) e h = let bad : ◌≡◌ {A = ℕ} 115 109 = ap (letter 0) e in omega arith
  no_sim lacks (asked.Upgrade t) e h = let bad : ◌≡◌ {A = ℕ} 115 117 = ap (letter 0) e in omega arith

  -- and each command on a record
  pub no_record : (name : Text) → (codes "run" ≡ name → ⊥) → (codes "sim" ≡ name → ⊥) → ((t : Option Text) → IsFile (first_of (codes "record") rows) t → ⊥)
      → (a : Arguments) → name ≡ command_name a → AreFiles rows a → ⊥
  no_record name run sim lacks (asked.Run s t) e h = run (sym e)
  no_record name run sim lacks (asked.Sim s t u) e h = sim (sym e)
  no_record name run sim lacks (asked.Report t) e h = lacks (bytes_of t) h
  no_record name run sim lacks (asked.Audit t) e h = lacks (bytes_of t) h
  no_record name run sim lacks (asked.Merge t) e h = lacks (bytes_of t) h
  no_record name run sim lacks (asked.Upgrade t) e h = lacks (bytes_of t) h
