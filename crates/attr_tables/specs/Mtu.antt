-- The lengths that a packet may have (IBA volume 1, 14.2.5.6), by their codes: each is twice the one before.
use Rattle.std.specs.Prelude.{ℕ, ◌*◌, ◌^◌}
use Rattle.attr_tables.specs.declared.mtu.Mtu.{Mtu}
use Rattle.attr_tables.specs.declared.mtu.Mtu.TheVariants.{Bytes256, Bytes512, Bytes1024, Bytes2048, Bytes4096}

abbrev pub mtu_code : Mtu → ℕ
mtu_code Bytes256 = 1
mtu_code Bytes512 = 2
mtu_code Bytes1024 = 3
mtu_code Bytes2048 = 4
mtu_code Bytes4096 = 5

abbrev pub mtu_bytes : Mtu → ℕ
mtu_bytes mtu = 128 * 2 ^ mtu_code mtu
