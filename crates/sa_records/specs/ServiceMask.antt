-- What the bits of the ComponentMask name in a request by a ServiceRecord (IBA volume 1, 15.2.5.14), except the
-- numbers in ServiceData.
use Rattle.std.specs.Prelude.{ℕ}

abbrev pub service_id : ℕ
service_id = 1

abbrev pub service_gid : ℕ
service_gid = 2

abbrev pub service_p_key : ℕ
service_p_key = 4

abbrev pub service_lease : ℕ
service_lease = 16

abbrev pub service_key : ℕ
service_key = 32

abbrev pub service_name : ℕ
service_name = 64
