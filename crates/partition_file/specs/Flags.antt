-- The flags of a definition.
use Rattle.std.specs.Prelude.{ℕ, Bool, true, false, ◌==◌, ◌&&◌, ◌||◌, nat_le, if◌then◌else◌, List, codes, Option, Some, None, is_some, unwrap_or, bytes_eq}
use Rattle.partition_file.specs.declared.flag.Flag.{Flag}
use Rattle.partition_file.specs.declared.flag.Flag.TheVariants.{Ipoib, Indx0, Rate, Mtu, ServiceLevel, Scope, QKey, DefaultMembership}
use Rattle.partition_file.specs.declared.flag.Flags.{Flags}
use Rattle.partition_file.specs.declared.flag.Setting.{Setting}
use Rattle.partition_file.specs.declared.flag.Setting.TheVariants as setting

abbrev pub flag_of : List ℕ → Option Flag
flag_of word =
    if bytes_eq word (codes "ipoib") then Some Ipoib
    else (if bytes_eq word (codes "indx0") then Some Indx0
    else (if bytes_eq word (codes "rate") then Some Rate
    else (if bytes_eq word (codes "mtu") then Some Mtu
    else (if bytes_eq word (codes "sl") then Some ServiceLevel
    else (if bytes_eq word (codes "scope") then Some Scope
    else (if bytes_eq word (codes "Q_Key") then Some QKey
    else (if bytes_eq word (codes "defmember") then Some DefaultMembership
    else None)))))))

-- `ipoib` and `indx0` stand alone
abbrev pub takes_value : Flag → Bool
takes_value Ipoib = false
takes_value Indx0 = false
takes_value Rate = true
takes_value Mtu = true
takes_value ServiceLevel = true
takes_value Scope = true
takes_value QKey = true
takes_value DefaultMembership = true

-- the greatest number of each flag's field: rates 2, 3 and 5, MTUs 1 to 4, four bits of SL and of scope, 32 bits of Q_Key
abbrev pub greatest : Flag → ℕ
greatest Ipoib = 0
greatest Indx0 = 0
greatest Rate = 5
greatest Mtu = 4
greatest ServiceLevel = 15
greatest Scope = 15
greatest QKey = 4294967295
greatest DefaultMembership = 0

-- the flag with the number as its value, if it takes that
abbrev pub setting_of : Flag → ℕ → Option Setting
setting_of Rate n = if (n == 2) || ((n == 3) || (n == 5)) then Some (setting.Rate n) else None
setting_of Mtu n = if nat_le 1 n && nat_le n (greatest Mtu) then Some (setting.Mtu n) else None
setting_of ServiceLevel n = if nat_le n (greatest ServiceLevel) then Some (setting.ServiceLevel n) else None
setting_of Scope n = if nat_le n (greatest Scope) then Some (setting.Scope n) else None
setting_of QKey n = if nat_le n (greatest QKey) then Some (setting.QKey n) else None
setting_of Ipoib n = None
setting_of Indx0 n = None
setting_of DefaultMembership n = None

abbrev pub no_flags : Flags
no_flags = record {
  ipoib = false;
  indx0 = false;
  rate = None;
  mtu = None;
  service_level = None;
  scope = None;
  q_key = None;
  full_by_default = None;
}

abbrev pub is_given : Flag → Flags → Bool
is_given Ipoib flags = flags.ipoib
is_given Indx0 flags = flags.indx0
is_given Rate flags = is_some flags.rate
is_given Mtu flags = is_some flags.mtu
is_given ServiceLevel flags = is_some flags.service_level
is_given Scope flags = is_some flags.scope
is_given QKey flags = is_some flags.q_key
is_given DefaultMembership flags = is_some flags.full_by_default

-- the flags with one more that stands alone
abbrev pub with_flag : Option Flag → Flags → Flags
with_flag (Some Ipoib) flags = record flags { ipoib = true }
with_flag (Some Indx0) flags = record flags { indx0 = true }
with_flag _ flags = flags

-- the flags with one more that has a value
abbrev pub with_setting : Setting → Flags → Flags
with_setting (setting.Rate n) flags = record flags { rate = Some n }
with_setting (setting.Mtu n) flags = record flags { mtu = Some n }
with_setting (setting.ServiceLevel n) flags = record flags { service_level = Some n }
with_setting (setting.Scope n) flags = record flags { scope = Some n }
with_setting (setting.QKey n) flags = record flags { q_key = Some n }
with_setting (setting.FullByDefault full) flags = record flags { full_by_default = Some full }

-- what an item is that says nothing of its membership
abbrev pub is_full_by_default : Flags → Bool
is_full_by_default flags = unwrap_or flags.full_by_default false
