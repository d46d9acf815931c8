-- What each step of the computation of masks comes to: the clauses of `src/masks.rt`, `attachments.rt` and `groups.rt`.
use Rattle.std.specs.Prelude.{ℕ, ◌≡◌, ◌+◌, ◌-◌, ◌*◌, ◌/◌, ◌%◌, ◌^◌, ◌<◌, ◌==◌, not, ◌&&◌, Bool, false, if◌then◌else◌}
use Rattle.std.specs.Prelude.{List, [], get_or, map, Option, Some, None, option_map}
use Rattle.std.specs.Int.{bit_at}
use Rattle.std.specs.List.{list_any}
use Rattle.std.specs.Option.{option_and_then, option_map_or}
use Rattle.fabric_parts.specs.declared.cable.PortRef.{PortRef}
use Rattle.fabric_parts.specs.declared.lid.TheConstants.{FIRST_MULTICAST_LID}
use Rattle.subnet_model.specs.declared.group_receiver.GroupReceiver.{GroupReceiver}
use Rattle.table_push.specs.Masks.{goes_to, is_in_mask, is_in_mlid_range, tree_hop}
use Rattle.table_push.specs.declared.attachments.Attachment.{Attachment}
use Rattle.updn_routes.specs.Routes.{home_of}
use Rattle.updn_routes.specs.Subnet.{RoutesState}

-- the place of a multicast LID in the MLID range of a partition
abbrev pub slot_in : (partition mlid : ℕ) → Option ℕ
slot_in partition mlid =
    if is_in_mlid_range partition mlid then Some (mlid - (FIRST_MULTICAST_LID + 32 * partition)) else None

-- a number that has a bit for each port: those of the ports that pass
abbrev pub AreBits : (bits : ℕ) → (ℕ → Bool) → Type 0
AreBits bits passes = (number : ℕ) → number < 48 → (bit_at bits number == 1) ≡ passes number

abbrev pub is_that_port : Option ℕ → ℕ → Bool
is_that_port port number = option_map_or (λ one. one == number) port false

-- one such number for each multicast LID of the MLID range
abbrev pub AreRangeBits : RoutesState → (partition : ℕ) → (receives : ℕ → ℕ → Bool) → (place : ℕ) → List ℕ → Type 0
AreRangeBits routes partition receives place bits =
    (i : ℕ) → i < 32
    → AreBits (get_or bits i 0) (is_in_mask routes receives place (FIRST_MULTICAST_LID + (32 * partition + i)))

-- and one for each switch, by its place, for what is for a group to which these LIDs belong
abbrev pub ArePortMasks : RoutesState → (lids masks : List ℕ) → Type 0
ArePortMasks routes lids masks =
    (place mlid : ℕ) → place < 64 → AreBits (get_or masks place 0) (is_in_mask routes (goes_to lids) place mlid)

-- of its bits those of the 16 ports of a position
abbrev pub word_at : (position bits : ℕ) → ℕ
word_at position bits = bits / 2 ^ (16 * position) % 65536

abbrev pub words_at : (position : ℕ) → List ℕ → List ℕ
words_at position bits = map (word_at position) bits

-- ---- where receivers are attached
-- the port of a switch to which an adapter's port with that LID is attached
abbrev pub adapter_home : List PortRef → ℕ → Option PortRef
adapter_home homes lid = option_and_then (λ home. if home.port == 0 then None else Some home) (home_of homes lid)

abbrev pub is_attached_at : List PortRef → (s lid number : ℕ) → Bool
is_attached_at homes s lid number = option_map_or (λ home. (home.node == s) && (home.port == number)) (adapter_home homes lid) false

abbrev pub is_attached_to : List PortRef → (lid s : ℕ) → Bool
is_attached_to homes lid s = option_map_or (λ home. home.node == s) (adapter_home homes lid) false

-- a receiver's place in the MLID range, and where it is attached
abbrev pub attachment_in : RoutesState → (partition : ℕ) → GroupReceiver → Option Attachment
attachment_in routes partition one =
    option_and_then (λ slot. option_map (λ home. record { slot = slot; home = home }) (adapter_home routes.between.homes one.lid))
    (slot_in partition one.mlid)

-- some receiver of that multicast LID passes the test
abbrev pub some_receives : List GroupReceiver → (mlid : ℕ) → (ℕ → Bool) → Bool
some_receives receivers mlid test = list_any (λ one. (one.mlid == mlid) && test one.lid) receivers

-- for each multicast LID of the MLID range the numbers below a limit that receivers reach
abbrev pub AreReceiversBits : (limit partition : ℕ) → List GroupReceiver → (reaches : ℕ → ℕ → Bool) → (bits : ℕ → ℕ) → Type 0
AreReceiversBits limit partition receivers reaches bits =
    (i number : ℕ) → i < 32 → number < limit → (bit_at (bits i) number == 1)
    ≡ some_receives receivers (FIRST_MULTICAST_LID + (32 * partition + i)) (λ lid. reaches lid number)

-- the ports of each switch to which receivers are attached, and the switches to which some do
pub record AreAttached (routes : RoutesState) (partition : ℕ) (receivers : List GroupReceiver) (ports : List (List ℕ))
    (switches : List ℕ) : Type 0 where
  pub of_ports : (s : ℕ) → s < 64
      → AreReceiversBits 48 partition receivers (is_attached_at routes.between.homes s) (λ i. get_or (get_or ports i []) s 0)
  pub of_switches : AreReceiversBits 64 partition receivers (is_attached_to routes.between.homes) (λ i. get_or switches i 0)

-- what is attached to the other switch is reached by that port
abbrev pub leads_away : RoutesState → (place other number : ℕ) → Bool
leads_away routes place other number =
    not (other == place) && is_that_port (tree_hop routes place (record { node = other; port = 0 })) number
