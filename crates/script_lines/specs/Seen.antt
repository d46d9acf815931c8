-- What the code keeps of a word, as the definitions see it.
use Rattle.script_lines.specs.declared.encoded_bytes.Written.{Written as KeptWritten}
use Rattle.script_lines.specs.EncodedBytes.{Written}

abbrev pub written : KeptWritten → Written
written kept = record { size = kept.size; digits = kept.digits.now }
