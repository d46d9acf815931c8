-- The GIDs of ports: the subnet's prefix, which PortInfo shows (IBA volume 1, 14.2.5.6), and a port's GUID.
use Rattle.std.specs.Prelude.{ℕ, ◌+◌, ◌*◌, ◌^◌}

abbrev pub gid_prefix : ℕ
gid_prefix = 0xfe80000000000000

abbrev pub gid_of : ℕ → ℕ
gid_of guid = gid_prefix * 2 ^ 64 + guid
