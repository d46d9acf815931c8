use Rattle.std.proofs.Common.{◌≡◌, ◌<◌, ◌^◌, take}
use Rattle.mad_layout.specs.Bits.{number}
use Rattle.mad_layout.proofs.bits.window.Given as goal

abbrev pub invariant-loop-byte : goal.invariant-loop-byte
invariant-loop-byte l = (l.window ≡ number (take l.byte-index l.bytes)) × (l.window < 256 ^ l.byte-index)
