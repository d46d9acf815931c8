-- A record that is held by bytes is what is read from them.
use Rattle.std.proofs.Common.{◌≡◌, ℕ, true, ◌+◌, ◌*◌, ◌≤◌, List, ◌++◌, length, replicate, take, drop, slice_range, sym, ap, ◌∙◌, arith}
use Rattle.std.specs.Int.Digits.{AllBelowBase}
use Rattle.std.proofs.lemmas.List.{length-append, length-replicate}
use Rattle.mad_layout.specs.Bits.{field, number}
use Rattle.mad_layout.specs.Layout.{Field, Fits, Holds, is_layout, put_all}
use Rattle.mad_layout.proofs.AlignedLemmas.{bytes_stand}
use Rattle.mad_layout.proofs.LayoutLemmas.{length-put_all, encoded_below, encodes_put_all}
use Rattle.mad_layout.proofs.NumberLemmas.{below_append}
use Rattle.mad_layout.proofs.ReadLemmas.{flag_is, holds_front}
use Rattle.sa_records.specs.Laws.{AreBytes}
use Rattle.sa_records.specs.declared.node_record.NodeRecord.{NodeRecord}
use Rattle.sa_records.specs.declared.path_record.PathRecord.{PathRecord}
use Rattle.sa_records.specs.declared.mc_member_record.McMemberRecord.{McMemberRecord}
use Rattle.sa_records.specs.declared.service_record.ServiceRecord.{ServiceRecord}
use Rattle.sa_records.specs.NodeRecord.{node_in, node_record}
use Rattle.sa_records.specs.PathRecord.{path_in, path_record}
use Rattle.sa_records.specs.McMemberRecord.{group_in, mc_member_record}
use Rattle.sa_records.specs.ServiceRecord.{service_in, service_record}

pub node_record_is : (one : NodeRecord) (bytes : List ℕ) → Holds bytes (node_record one) → slice_range bytes 44 108 ≡ one.node_string → node_in bytes ≡ one
unfolding node_in
node_record_is one bytes h node_string_is = λ place. record {
  lid = sym (h.0) place;
  base_version = sym (h.1.0) place;
  class_version = sym (h.1.1.0) place;
  node_type = sym (h.1.1.1.0) place;
  num_ports = sym (h.1.1.1.1.0) place;
  system_image_guid = sym (h.1.1.1.1.1.0) place;
  node_guid = sym (h.1.1.1.1.1.1.0) place;
  port_guid = sym (h.1.1.1.1.1.1.1.0) place;
  partition_cap = sym (h.1.1.1.1.1.1.1.1.0) place;
  device_id = sym (h.1.1.1.1.1.1.1.1.1.0) place;
  revision = sym (h.1.1.1.1.1.1.1.1.1.1.0) place;
  local_port_num = sym (h.1.1.1.1.1.1.1.1.1.1.1.0) place;
  vendor_id = sym (h.1.1.1.1.1.1.1.1.1.1.1.1.0) place;
  node_string = node_string_is place;
}

pub path_record_is : (one : PathRecord) (bytes : List ℕ) → Holds bytes (path_record one) → path_in bytes ≡ one
unfolding path_in
path_record_is one bytes h = λ place. record {
  service_id = sym (h.0) place;
  dgid = sym (h.1.0) place;
  sgid = sym (h.1.1.0) place;
  dlid = sym (h.1.1.1.0) place;
  slid = sym (h.1.1.1.1.0) place;
  raw_traffic = flag_is one.raw_traffic _ (h.1.1.1.1.1.0) place;
  flow_label = sym (h.1.1.1.1.1.1.0) place;
  hop_limit = sym (h.1.1.1.1.1.1.1.0) place;
  t_class = sym (h.1.1.1.1.1.1.1.1.0) place;
  reversible = flag_is one.reversible _ (h.1.1.1.1.1.1.1.1.1.0) place;
  numb_path = sym (h.1.1.1.1.1.1.1.1.1.1.0) place;
  p_key = sym (h.1.1.1.1.1.1.1.1.1.1.1.0) place;
  qos_class = sym (h.1.1.1.1.1.1.1.1.1.1.1.1.0) place;
  sl = sym (h.1.1.1.1.1.1.1.1.1.1.1.1.1.0) place;
  mtu_selector = sym (h.1.1.1.1.1.1.1.1.1.1.1.1.1.1.0) place;
  mtu = sym (h.1.1.1.1.1.1.1.1.1.1.1.1.1.1.1.0) place;
  rate_selector = sym (h.1.1.1.1.1.1.1.1.1.1.1.1.1.1.1.1.0) place;
  rate = sym (h.1.1.1.1.1.1.1.1.1.1.1.1.1.1.1.1.1.0) place;
  packet_life_time_selector = sym (h.1.1.1.1.1.1.1.1.1.1.1.1.1.1.1.1.1.1.0) place;
  packet_life_time = sym (h.1.1.1.1.1.1.1.1.1.1.1.1.1.1.1.1.1.1.1.0) place;
  preference = sym (h.1.1.1.1.1.1.1.1.1.1.1.1.1.1.1.1.1.1.1.1.0) place;
}

pub mc_member_record_is : (one : McMemberRecord) (bytes : List ℕ) → Holds bytes (mc_member_record one) → group_in bytes ≡ one
unfolding group_in
mc_member_record_is one bytes h = λ place. record {
  mgid = sym (h.0) place;
  port_gid = sym (h.1.0) place;
  q_key = sym (h.1.1.0) place;
  mlid = sym (h.1.1.1.0) place;
  mtu_selector = sym (h.1.1.1.1.0) place;
  mtu = sym (h.1.1.1.1.1.0) place;
  t_class = sym (h.1.1.1.1.1.1.0) place;
  p_key = sym (h.1.1.1.1.1.1.1.0) place;
  rate_selector = sym (h.1.1.1.1.1.1.1.1.0) place;
  rate = sym (h.1.1.1.1.1.1.1.1.1.0) place;
  packet_life_time_selector = sym (h.1.1.1.1.1.1.1.1.1.1.0) place;
  packet_life_time = sym (h.1.1.1.1.1.1.1.1.1.1.1.0) place;
  sl = sym (h.1.1.1.1.1.1.1.1.1.1.1.1.0) place;
  flow_label = sym (h.1.1.1.1.1.1.1.1.1.1.1.1.1.0) place;
  hop_limit = sym (h.1.1.1.1.1.1.1.1.1.1.1.1.1.1.0) place;
  scope = sym (h.1.1.1.1.1.1.1.1.1.1.1.1.1.1.1.0) place;
  join_state = sym (h.1.1.1.1.1.1.1.1.1.1.1.1.1.1.1.1.0) place;
  proxy_join = flag_is one.proxy_join _ (h.1.1.1.1.1.1.1.1.1.1.1.1.1.1.1.1.1.0) place;
}

pub service_record_is : (one : ServiceRecord) (bytes : List ℕ) → Holds bytes (service_record one) → slice_range bytes 48 112 ≡ one.service_name → slice_range bytes 112 176 ≡ one.service_data → service_in bytes ≡ one
unfolding service_in
service_record_is one bytes h service_name_is service_data_is = λ place. record {
  service_id = sym (h.0) place;
  service_gid = sym (h.1.0) place;
  service_p_key = sym (h.1.1.0) place;
  service_lease = sym (h.1.1.1.0) place;
  service_key = sym (h.1.1.1.1.0) place;
  service_name = service_name_is place;
  service_data = service_data_is place;
}

-- ---- bytes that a record fills, and whatever follows
pub encoded_long : (n : ℕ) (ps : List Field) → length (put_all (replicate n 0) ps) ≡ n
encoded_long n ps = length-put_all (replicate n 0) ps ∙ length-replicate n 0

pub front_holds : (n : ℕ) (ps : List Field) (rest : List ℕ) → is_layout (8 * n) ps ≡ true → Fits ps → AllBelowBase 256 rest
    → Holds (put_all (replicate n 0) ps ++ rest) ps
front_holds n ps rest layout fits below =
    holds_front (put_all (replicate n 0) ps) rest ps (encoded_below ps n) below
    (ap (λ (m : ℕ). is_layout (8 * m) ps) (encoded_long n ps) ∙ layout) (encodes_put_all ps n layout fits).fields

-- bytes of a record that are no number
pub front_part : (n : ℕ) (ps : List Field) (rest part : List ℕ) (first : ℕ) → AllBelowBase 256 rest → AreBytes 64 part
    → first + 64 ≤ n → number part ≡ field (put_all (replicate n 0) ps ++ rest) (8 * first) (8 * 64)
    → take 64 (drop first (put_all (replicate n 0) ps ++ rest)) ≡ part
front_part n ps rest part first below bytes within e =
    let size = encoded_long n ps in
    let whole = length-append (put_all (replicate n 0) ps) rest in
    bytes_stand (put_all (replicate n 0) ps ++ rest) part first 64 (below_append _ rest (encoded_below ps n) below)
    bytes.below (omega (arith, size, whole)) bytes.long e
