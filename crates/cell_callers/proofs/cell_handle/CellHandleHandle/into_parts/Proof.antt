-- `into_parts` moves two fields, and what they own goes with them.
use mathlib.Core.Path.{◌≡◌, refl}
use prog.Wp.{Tables}
use contract.Running.{tables, tables_of}
use Rattle.c_handle.proofs.{AsBox.{as_box, parts_row}, Moves.moves}
use Rattle.cell_callers.specs.contracts.cell_handle.CellHandleHandle.into_parts.Key.{name as #self}
use Rattle.cell_callers.specs.contracts.cell_content.CellContent as Content
use Rattle.cell_callers.proofs.cell_content.CellContent.TheLaws as content
use Rattle.cell_callers.specs.contracts.cell_handle.CellHandle as Owner
use Rattle.cell_callers.proofs.cell_handle.CellHandleHandle.into_parts.Statement as stated
use Rattle.cell_callers.proofs.cell_handle.CellHandleHandle.into_parts.Code as code

pub into_parts_spec : {M : Type 1} → stated.statement M
unfolding tables_of
into_parts_spec 𝓤 𝓛 𝓜 𝓡 wired =
    let 𝓣 : Tables 𝓤 𝓛.H = tables_of 𝓤 𝓛.H 𝓜 (tables 𝓤 𝓛.H 𝓜 𝓡 𝓡.env) in
    moves (as_box Content.the_row content.the_row_laws) Owner.the_row (parts_row Content.the_row) (λ x. record { ptr = x.ptr; alloc = x.alloc; value = x.slot }) (λ x. record { ptr = x.ptr; alloc = x.alloc; value = x.slot })
    (λ x vs. refl) (λ x vs. refl) (λ x. tt) (λ x f. refl) (λ x r. r.value ≡ x.slot) (λ x. refl) 𝓛 𝓣 _ _ #self (code.unfolded 𝓤 𝓛.H 𝓜 𝓡 wired)
