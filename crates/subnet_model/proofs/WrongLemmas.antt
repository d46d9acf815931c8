-- What a port sends that shares no partition with the port that it is for.
use Rattle.std.proofs.Common.{◌≡◌, refl, true, false, []}
use Rattle.std.specs.List.{IsDistinct}
use Rattle.data_packet.specs.declared.packet.Packet.{Packet}
use Rattle.subnet_model.specs.Examples.{two_tenants}
use Rattle.subnet_model.specs.Source.{same_lid}
use Rattle.subnet_model.specs.WrongRules.{DestinationsAreNoSources, NotAllComesFromNear}

abbrev from_far : Packet
from_far = record { slid = 5; dlid = 4; p_key = 0x8001; destination_qp = 7; payload = [] }

distinct : IsDistinct same_lid two_tenants
unfolding IsDistinct
distinct = ((refl, tt), (tt, tt))

pub not_all_comes_from_near : NotAllComesFromNear
not_all_comes_from_near law =
    let near : true ≡ false = law two_tenants 0x111 from_far distinct in
    absurd (cc)

pub destinations_are_no_sources : DestinationsAreNoSources
destinations_are_no_sources law =
    let near : true ≡ false = law two_tenants 0x111 from_far distinct in
    absurd (cc)
