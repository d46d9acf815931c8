-- What the bits of the ComponentMask name in a request by a PathRecord (IBA volume 1, 15.2.5), except ServiceID and
-- Reversible.
use Rattle.std.specs.Prelude.{ℕ}

abbrev pub dgid : ℕ
dgid = 4

abbrev pub sgid : ℕ
sgid = 8

abbrev pub dlid : ℕ
dlid = 16

abbrev pub slid : ℕ
slid = 32

abbrev pub raw_traffic : ℕ
raw_traffic = 64

abbrev pub flow_label : ℕ
flow_label = 256

abbrev pub hop_limit : ℕ
hop_limit = 512

abbrev pub t_class : ℕ
t_class = 1024

abbrev pub numb_path : ℕ
numb_path = 4096

abbrev pub p_key : ℕ
p_key = 8192

abbrev pub qos_class : ℕ
qos_class = 16384

abbrev pub sl : ℕ
sl = 32768

-- with its selector
abbrev pub mtu : ℕ
mtu = 196608

-- with its selector
abbrev pub rate : ℕ
rate = 786432

-- with its selector
abbrev pub packet_life_time : ℕ
packet_life_time = 3145728
