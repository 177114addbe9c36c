-- Why a text of lines is not read.
use Rattle.record_lines.specs.{declared.streams.feeding.SourceFault.SourceFault, declared.text.fault.LinesFault.LinesFault, declared.text.fault.TextFault.TextFault}
use Rattle.record_lines.specs.declared.streams.feeding.SourceFault.TheVariants as source
use Rattle.record_lines.specs.declared.text.fault.LinesFault.TheVariants as lines
use Rattle.record_lines.specs.declared.text.fault.TextFault.TheVariants as text

-- the same refusal of a text in memory and of one from a source
abbrev pub of_lines : LinesFault → TextFault
of_lines lines.OutOfMemory = text.OutOfMemory
of_lines (lines.Line n) = text.BadLine n

-- the same refusal of a source whose lines are read
abbrev pub of_source : SourceFault LinesFault → TextFault
of_source source.ReadFailed = text.ReadFailed
of_source (source.Reported fault) = of_lines fault
