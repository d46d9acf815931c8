-- The stop of a line that was not read.
use Rattle.smp_lines.specs.declared.stop.SmpStop.{SmpStop}
use Rattle.smp_lines.specs.declared.stop.SmpStop.TheVariants.{NoMemory, Read}
use Rattle.text_streams.specs.declared.reading_lines.LineStop.{LineStop}
use Rattle.text_streams.specs.declared.reading_lines.LineStop.TheVariants as line

abbrev pub stop_of : LineStop → SmpStop
stop_of line.NoMemory = NoMemory
stop_of line.Read = Read
