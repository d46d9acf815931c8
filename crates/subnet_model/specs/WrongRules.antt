-- Rules for the source of a packet that would pass what comes from far ports.
use Rattle.std.specs.Prelude.{true}
use Rattle.subnet_model.specs.Laws.{ReadsSources}
use Rattle.subnet_model.specs.Source.{is_lid_near}

-- to pass whatever comes
abbrev pub NotAllComesFromNear : Type 0
NotAllComesFromNear = ReadsSources (λ ports p packet. true) → ⊥

-- to take for the source the port that the packet is for
abbrev pub DestinationsAreNoSources : Type 0
DestinationsAreNoSources = ReadsSources (λ ports p packet. is_lid_near ports p packet.dlid) → ⊥
