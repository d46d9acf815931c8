-- Who may talk to whom: for each two end ports the partitions in which their keys match (IBA volume 1, 14.2.5.7).
use Rattle.std.specs.Prelude.{ℕ, Bool, true, ◌==◌, ◌||◌, List, [], ◌∷◌, ◌++◌, Option, Some, None, codes, filter, map}
use Rattle.std.specs.List.{flat_map, range_with_len}
use Rattle.std.specs.Int.{w16, to_be_bytes}
use Rattle.partition_reports.specs.Ports.{port_text}
use Rattle.text_words.specs.Parts.{hex_text}
use Rattle.pkey_rules.specs.KeyTable.{shares_base}
use Rattle.subnet_model.specs.declared.subnet_port.SubnetPort.{SubnetPort}

-- two end ports may talk in the partition of this base
pub record Share : Type 0 where
  pub first : SubnetPort
  pub second : SubnetPort
  pub base : ℕ

-- the bases under which two ports with these keys may talk, rising
unfoldable pub shared_bases : List ℕ → List ℕ → List ℕ
shared_bases ps qs = filter (λ base. shares_base base ps qs) (range_with_len 1 32767)

abbrev pub pair_shares : SubnetPort → SubnetPort → List Share
pair_shares p q = map (λ base. record { first = p; second = q; base = base }) (shared_bases p.keys q.keys)

-- each port with each behind it
abbrev pub shares : List SubnetPort → List Share
shares [] = []
shares (p ∷ ports) = flat_map (pair_shares p) ports ++ shares ports

-- a share of these two is asked for if no port is, or if one of them has the GUID of the port that is
abbrev pub is_asked : Option ℕ → SubnetPort → SubnetPort → Bool
is_asked None p q = true
is_asked (Some guid) p q = (p.guid == guid) || (q.guid == guid)

abbrev pub shares_asked : Option ℕ → List SubnetPort → List Share
shares_asked asked ports = filter (λ share. is_asked asked share.first share.second) (shares ports)

-- `share PORT PORT BASE`
abbrev pub share_line : Share → List ℕ
share_line share =
    codes "share " ++ port_text share.first ++ codes " " ++ port_text share.second
    ++ codes " " ++ hex_text (to_be_bytes w16 share.base) ++ 10 ∷ []

abbrev pub shares_text : Option ℕ → List SubnetPort → List ℕ
shares_text asked ports = flat_map share_line (shares_asked asked ports)
