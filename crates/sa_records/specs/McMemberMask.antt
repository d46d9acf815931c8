-- What the bits of the ComponentMask name in a request by an MCMemberRecord (IBA volume 1, 15.2.5).
use Rattle.std.specs.Prelude.{ℕ}

abbrev pub mgid : ℕ
mgid = 1

abbrev pub port_gid : ℕ
port_gid = 2

abbrev pub q_key : ℕ
q_key = 4

abbrev pub mlid : ℕ
mlid = 8

-- with its selector
abbrev pub mtu : ℕ
mtu = 48

abbrev pub t_class : ℕ
t_class = 64

abbrev pub p_key : ℕ
p_key = 128

-- with its selector
abbrev pub rate : ℕ
rate = 768

-- with its selector
abbrev pub packet_life_time : ℕ
packet_life_time = 3072

abbrev pub sl : ℕ
sl = 4096

abbrev pub flow_label : ℕ
flow_label = 8192

abbrev pub hop_limit : ℕ
hop_limit = 16384

abbrev pub scope : ℕ
scope = 32768

abbrev pub join_state : ℕ
join_state = 65536

abbrev pub proxy_join : ℕ
proxy_join = 131072
