-- Records of two requests that are the same where the mask names a field.
use Rattle.std.proofs.Common.{ℕ, ◌≡◌, ◌∙◌, ◌==◌, Bool, true, bit_and, List, ap, refl}
use Rattle.pkey_rules.specs.KeyTable.{same_base}
use Rattle.sa_records.specs.Component.{same_bit, satisfies}
use Rattle.sa_records.specs.McMemberMask as member_mask
use Rattle.sa_records.specs.McMemberRecord.{group_in, mc_member_record_asked, mc_member_record_components, mc_member_record_selected}
use Rattle.sa_records.specs.NodeRecord.{node_in, node_record_asked, node_record_components, node_record_selected}
use Rattle.sa_records.specs.PathMask as path_mask
use Rattle.sa_records.specs.PathRecord.{path_in, path_record_asked, path_record_components, path_record_selected}
use Rattle.sa_records.specs.Speed.{rate_satisfies}
use Rattle.sa_records.specs.declared.mc_member_record.McMemberRecord.{McMemberRecord}
use Rattle.sa_records.specs.declared.node_record.NodeRecord.{NodeRecord}
use Rattle.sa_records.specs.declared.path_record.PathRecord.{PathRecord}
use Rattle.sa_model.specs.Selected.{asks}
use Rattle.sa_replies.specs.Named.{agree_where_named}
use Rattle.sa_replies.proofs.NamedLemmas.{agrees_at, asks_more, asks_part, passes_same, selected_same}

-- ---- NodeRecords
pub record SameNode (mask : ℕ) (x y : NodeRecord) : Type 0 where
  pub lid : asks mask 1 ≡ true → x.lid ≡ y.lid
  pub base_version : asks mask 4 ≡ true → x.base_version ≡ y.base_version
  pub class_version : asks mask 8 ≡ true → x.class_version ≡ y.class_version
  pub node_type : asks mask 16 ≡ true → x.node_type ≡ y.node_type

pub same_node : (mask : ℕ) (x y : List ℕ) → agree_where_named node_record_asked mask x y ≡ true → SameNode mask (node_in x) (node_in y)
unfolding node_in
same_node mask x y all = record {
  lid = agrees_at mask x y 0 node_record_asked all;
  base_version = agrees_at mask x y 1 node_record_asked all;
  class_version = agrees_at mask x y 2 node_record_asked all;
  node_type = agrees_at mask x y 3 node_record_asked all;
}

pub node_selected_same : (mask : ℕ) (shown x y : NodeRecord) → SameNode mask x y → node_record_selected mask shown x ≡ node_record_selected mask shown y
unfolding node_record_selected
node_selected_same mask shown x y same = selected_same mask (node_record_components shown x) (node_record_components shown y) (
  passes_same mask 1 _ _ (λ e. ap (λ (n : ℕ). shown.lid == n) (same.lid e)),
  (
    passes_same mask 4 _ _ (λ e. ap (λ (n : ℕ). shown.base_version == n) (same.base_version e)),
    (
      passes_same mask 8 _ _ (λ e. ap (λ (n : ℕ). shown.class_version == n) (same.class_version e)),
      (passes_same mask 16 _ _ (λ e. ap (λ (n : ℕ). shown.node_type == n) (same.node_type e)), tt),
    ),
  ),
)

-- ---- PathRecords
pub record SamePath (mask : ℕ) (x y : PathRecord) : Type 0 where
  pub dgid : asks mask 4 ≡ true → x.dgid ≡ y.dgid
  pub sgid : asks mask 8 ≡ true → x.sgid ≡ y.sgid
  pub dlid : asks mask 16 ≡ true → x.dlid ≡ y.dlid
  pub slid : asks mask 32 ≡ true → x.slid ≡ y.slid
  pub raw_traffic : asks mask 64 ≡ true → x.raw_traffic ≡ y.raw_traffic
  pub flow_label : asks mask 256 ≡ true → x.flow_label ≡ y.flow_label
  pub hop_limit : asks mask 512 ≡ true → x.hop_limit ≡ y.hop_limit
  pub t_class : asks mask 1024 ≡ true → x.t_class ≡ y.t_class
  pub numb_path : asks mask path_mask.numb_path ≡ true → x.numb_path ≡ y.numb_path
  pub p_key : asks mask 8192 ≡ true → x.p_key ≡ y.p_key
  pub qos_class : asks mask 16384 ≡ true → x.qos_class ≡ y.qos_class
  pub sl : asks mask 32768 ≡ true → x.sl ≡ y.sl
  pub mtu_selector : asks mask 65536 ≡ true → x.mtu_selector ≡ y.mtu_selector
  pub mtu : asks mask 131072 ≡ true → x.mtu ≡ y.mtu
  pub rate_selector : asks mask 262144 ≡ true → x.rate_selector ≡ y.rate_selector
  pub rate : asks mask 524288 ≡ true → x.rate ≡ y.rate
  pub packet_life_time_selector : asks mask 1048576 ≡ true → x.packet_life_time_selector ≡ y.packet_life_time_selector
  pub packet_life_time : asks mask 2097152 ≡ true → x.packet_life_time ≡ y.packet_life_time

pub same_path : (mask : ℕ) (x y : List ℕ) → agree_where_named path_record_asked mask x y ≡ true → SamePath mask (path_in x) (path_in y)
unfolding path_in
same_path mask x y all = record {
  dgid = agrees_at mask x y 1 path_record_asked all;
  sgid = agrees_at mask x y 2 path_record_asked all;
  dlid = agrees_at mask x y 3 path_record_asked all;
  slid = agrees_at mask x y 4 path_record_asked all;
  raw_traffic = λ e. ap (λ (n : ℕ). n == 1) (agrees_at mask x y 5 path_record_asked all e);
  flow_label = agrees_at mask x y 6 path_record_asked all;
  hop_limit = agrees_at mask x y 7 path_record_asked all;
  t_class = agrees_at mask x y 8 path_record_asked all;
  numb_path = agrees_at mask x y 10 path_record_asked all;
  p_key = agrees_at mask x y 11 path_record_asked all;
  qos_class = agrees_at mask x y 12 path_record_asked all;
  sl = agrees_at mask x y 13 path_record_asked all;
  mtu_selector = agrees_at mask x y 14 path_record_asked all;
  mtu = agrees_at mask x y 15 path_record_asked all;
  rate_selector = agrees_at mask x y 16 path_record_asked all;
  rate = agrees_at mask x y 17 path_record_asked all;
  packet_life_time_selector = agrees_at mask x y 18 path_record_asked all;
  packet_life_time = agrees_at mask x y 19 path_record_asked all;
}

-- a value with its selector
pub both_same : (compare : ℕ → ℕ → Bool) (s t a b : ℕ) → s ≡ t → a ≡ b → compare s a ≡ compare t b
both_same compare s t a b selectors values = ap (λ (n : ℕ). compare n a) selectors ∙ ap (compare t) values

pub path_selected_same : (mask : ℕ) (shown x y : PathRecord) → SamePath mask x y → path_record_selected mask shown x ≡ path_record_selected mask shown y
unfolding path_record_selected
path_selected_same mask shown x y same = selected_same mask (path_record_components shown x) (path_record_components shown y) (
  passes_same mask 4 _ _ (λ e. ap (λ (n : ℕ). shown.dgid == n) (same.dgid e)),
  (
    passes_same mask 8 _ _ (λ e. ap (λ (n : ℕ). shown.sgid == n) (same.sgid e)),
    (
      passes_same mask 16 _ _ (λ e. ap (λ (n : ℕ). shown.dlid == n) (same.dlid e)),
      (
        passes_same mask 32 _ _ (λ e. ap (λ (n : ℕ). shown.slid == n) (same.slid e)),
        (
          passes_same mask 64 _ _ (λ e. ap (λ (b : Bool). same_bit shown.raw_traffic b) (same.raw_traffic e)),
          (
            passes_same mask 256 _ _ (λ e. ap (λ (n : ℕ). shown.flow_label == n) (same.flow_label e)),
            (
              passes_same mask 512 _ _ (λ e. ap (λ (n : ℕ). shown.hop_limit == n) (same.hop_limit e)),
              (
                passes_same mask 1024 _ _ (λ e. ap (λ (n : ℕ). shown.t_class == n) (same.t_class e)),
                (
                  passes_same mask 8192 _ _ (λ e. ap (λ (n : ℕ). same_base shown.p_key n) (same.p_key e)),
                  (
                    passes_same mask 16384 _ _ (λ e. ap (λ (n : ℕ). shown.qos_class == n) (same.qos_class e)),
                    (
                      passes_same mask 32768 _ _ (λ e. ap (λ (n : ℕ). shown.sl == n) (same.sl e)),
                      (
                        passes_same mask path_mask.mtu _ _ (λ e. both_same (λ s n. satisfies s shown.mtu n) x.mtu_selector y.mtu_selector x.mtu y.mtu
                            (same.mtu_selector (asks_part mask path_mask.mtu 65536 refl e)) (same.mtu (asks_part mask path_mask.mtu 131072 refl e))),
                        (
                          passes_same mask path_mask.rate _ _ (λ e. both_same (λ s n. rate_satisfies s shown.rate n) x.rate_selector y.rate_selector x.rate y.rate
                              (same.rate_selector (asks_part mask path_mask.rate 262144 refl e)) (same.rate (asks_part mask path_mask.rate 524288 refl e))),
                          (
                            passes_same mask path_mask.packet_life_time _ _ (λ e. both_same (λ s n. satisfies s shown.packet_life_time n)
                                x.packet_life_time_selector y.packet_life_time_selector x.packet_life_time y.packet_life_time
                                (same.packet_life_time_selector (asks_part mask path_mask.packet_life_time 1048576 refl e))
                                (same.packet_life_time (asks_part mask path_mask.packet_life_time 2097152 refl e))),
                            tt,
                          ),
                        ),
                      ),
                    ),
                  ),
                ),
              ),
            ),
          ),
        ),
      ),
    ),
  ),
)

-- ---- MCMemberRecords
pub record SameGroup (mask : ℕ) (x y : McMemberRecord) : Type 0 where
  pub mgid : asks mask 1 ≡ true → x.mgid ≡ y.mgid
  pub port_gid : asks mask 2 ≡ true → x.port_gid ≡ y.port_gid
  pub q_key : asks mask 4 ≡ true → x.q_key ≡ y.q_key
  pub mlid : asks mask 8 ≡ true → x.mlid ≡ y.mlid
  pub mtu_selector : asks mask 16 ≡ true → x.mtu_selector ≡ y.mtu_selector
  pub mtu : asks mask 32 ≡ true → x.mtu ≡ y.mtu
  pub t_class : asks mask 64 ≡ true → x.t_class ≡ y.t_class
  pub p_key : asks mask 128 ≡ true → x.p_key ≡ y.p_key
  pub rate_selector : asks mask 256 ≡ true → x.rate_selector ≡ y.rate_selector
  pub rate : asks mask 512 ≡ true → x.rate ≡ y.rate
  pub packet_life_time_selector : asks mask 1024 ≡ true → x.packet_life_time_selector ≡ y.packet_life_time_selector
  pub packet_life_time : asks mask 2048 ≡ true → x.packet_life_time ≡ y.packet_life_time
  pub sl : asks mask 4096 ≡ true → x.sl ≡ y.sl
  pub flow_label : asks mask 8192 ≡ true → x.flow_label ≡ y.flow_label
  pub hop_limit : asks mask 16384 ≡ true → x.hop_limit ≡ y.hop_limit
  pub scope : asks mask 32768 ≡ true → x.scope ≡ y.scope
  pub join_state : asks mask 65536 ≡ true → x.join_state ≡ y.join_state
  pub proxy_join : asks mask 131072 ≡ true → x.proxy_join ≡ y.proxy_join

pub same_group : (mask : ℕ) (x y : List ℕ) → agree_where_named mc_member_record_asked mask x y ≡ true → SameGroup mask (group_in x) (group_in y)
unfolding group_in
same_group mask x y all = record {
  mgid = agrees_at mask x y 0 mc_member_record_asked all;
  port_gid = agrees_at mask x y 1 mc_member_record_asked all;
  q_key = agrees_at mask x y 2 mc_member_record_asked all;
  mlid = agrees_at mask x y 3 mc_member_record_asked all;
  mtu_selector = agrees_at mask x y 4 mc_member_record_asked all;
  mtu = agrees_at mask x y 5 mc_member_record_asked all;
  t_class = agrees_at mask x y 6 mc_member_record_asked all;
  p_key = agrees_at mask x y 7 mc_member_record_asked all;
  rate_selector = agrees_at mask x y 8 mc_member_record_asked all;
  rate = agrees_at mask x y 9 mc_member_record_asked all;
  packet_life_time_selector = agrees_at mask x y 10 mc_member_record_asked all;
  packet_life_time = agrees_at mask x y 11 mc_member_record_asked all;
  sl = agrees_at mask x y 12 mc_member_record_asked all;
  flow_label = agrees_at mask x y 13 mc_member_record_asked all;
  hop_limit = agrees_at mask x y 14 mc_member_record_asked all;
  scope = agrees_at mask x y 15 mc_member_record_asked all;
  join_state = agrees_at mask x y 16 mc_member_record_asked all;
  proxy_join = λ e. ap (λ (n : ℕ). n == 1) (agrees_at mask x y 17 mc_member_record_asked all e);
}

-- under a mask of which some bits are left
pub same_by_less : (mask some : ℕ) (x y : McMemberRecord) → SameGroup mask x y → SameGroup (bit_and mask some) x y
same_by_less mask some x y same = record {
  mgid = λ e. same.mgid (asks_more mask some 1 e);
  port_gid = λ e. same.port_gid (asks_more mask some 2 e);
  q_key = λ e. same.q_key (asks_more mask some 4 e);
  mlid = λ e. same.mlid (asks_more mask some 8 e);
  mtu_selector = λ e. same.mtu_selector (asks_more mask some 16 e);
  mtu = λ e. same.mtu (asks_more mask some 32 e);
  t_class = λ e. same.t_class (asks_more mask some 64 e);
  p_key = λ e. same.p_key (asks_more mask some 128 e);
  rate_selector = λ e. same.rate_selector (asks_more mask some 256 e);
  rate = λ e. same.rate (asks_more mask some 512 e);
  packet_life_time_selector = λ e. same.packet_life_time_selector (asks_more mask some 1024 e);
  packet_life_time = λ e. same.packet_life_time (asks_more mask some 2048 e);
  sl = λ e. same.sl (asks_more mask some 4096 e);
  flow_label = λ e. same.flow_label (asks_more mask some 8192 e);
  hop_limit = λ e. same.hop_limit (asks_more mask some 16384 e);
  scope = λ e. same.scope (asks_more mask some 32768 e);
  join_state = λ e. same.join_state (asks_more mask some 65536 e);
  proxy_join = λ e. same.proxy_join (asks_more mask some 131072 e);
}

-- values with their selectors
module _ (mask : ℕ) (x y : McMemberRecord) (same : SameGroup mask x y) where
  pub mtu_same : (shown : ℕ) → asks mask member_mask.mtu ≡ true → satisfies x.mtu_selector shown x.mtu ≡ satisfies y.mtu_selector shown y.mtu
  mtu_same shown e = both_same (λ s n. satisfies s shown n) x.mtu_selector y.mtu_selector x.mtu y.mtu
      (same.mtu_selector (asks_part mask member_mask.mtu 16 refl e)) (same.mtu (asks_part mask member_mask.mtu 32 refl e))

  pub rate_same : (shown : ℕ) → asks mask member_mask.rate ≡ true → rate_satisfies x.rate_selector shown x.rate ≡ rate_satisfies y.rate_selector shown y.rate
  rate_same shown e = both_same (λ s n. rate_satisfies s shown n) x.rate_selector y.rate_selector x.rate y.rate
      (same.rate_selector (asks_part mask member_mask.rate 256 refl e)) (same.rate (asks_part mask member_mask.rate 512 refl e))

  pub life_same : (shown : ℕ) → asks mask member_mask.packet_life_time ≡ true
      → satisfies x.packet_life_time_selector shown x.packet_life_time ≡ satisfies y.packet_life_time_selector shown y.packet_life_time
  life_same shown e = both_same (λ s n. satisfies s shown n) x.packet_life_time_selector y.packet_life_time_selector x.packet_life_time y.packet_life_time
      (same.packet_life_time_selector (asks_part mask member_mask.packet_life_time 1024 refl e))
      (same.packet_life_time (asks_part mask member_mask.packet_life_time 2048 refl e))

pub group_selected_same : (mask : ℕ) (shown x y : McMemberRecord) → SameGroup mask x y
    → mc_member_record_selected mask shown x ≡ mc_member_record_selected mask shown y
unfolding mc_member_record_selected
group_selected_same mask shown x y same = selected_same mask (mc_member_record_components shown x) (mc_member_record_components shown y) (
  passes_same mask 1 _ _ (λ e. ap (λ (n : ℕ). shown.mgid == n) (same.mgid e)),
  (
    passes_same mask 2 _ _ (λ e. ap (λ (n : ℕ). shown.port_gid == n) (same.port_gid e)),
    (
      passes_same mask 4 _ _ (λ e. ap (λ (n : ℕ). shown.q_key == n) (same.q_key e)),
      (
        passes_same mask 8 _ _ (λ e. ap (λ (n : ℕ). shown.mlid == n) (same.mlid e)),
        (
          passes_same mask member_mask.mtu _ _ (mtu_same mask x y same shown.mtu),
          (
            passes_same mask 64 _ _ (λ e. ap (λ (n : ℕ). shown.t_class == n) (same.t_class e)),
            (
              passes_same mask 128 _ _ (λ e. ap (λ (n : ℕ). same_base shown.p_key n) (same.p_key e)),
              (
                passes_same mask member_mask.rate _ _ (rate_same mask x y same shown.rate),
                (
                  passes_same mask member_mask.packet_life_time _ _ (life_same mask x y same shown.packet_life_time),
                  (
                    passes_same mask 4096 _ _ (λ e. ap (λ (n : ℕ). shown.sl == n) (same.sl e)),
                    (
                      passes_same mask 8192 _ _ (λ e. ap (λ (n : ℕ). shown.flow_label == n) (same.flow_label e)),
                      (
                        passes_same mask 16384 _ _ (λ e. ap (λ (n : ℕ). shown.hop_limit == n) (same.hop_limit e)),
                        (
                          passes_same mask 32768 _ _ (λ e. ap (λ (n : ℕ). shown.scope == n) (same.scope e)),
                          (
                            passes_same mask 65536 _ _ (λ e. ap (λ (n : ℕ). shown.join_state == n) (same.join_state e)),
                            (passes_same mask 131072 _ _ (λ e. ap (λ (b : Bool). same_bit shown.proxy_join b) (same.proxy_join e)), tt),
                          ),
                        ),
                      ),
                    ),
                  ),
                ),
              ),
            ),
          ),
        ),
      ),
    ),
  ),
)
