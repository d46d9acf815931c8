-- In which partitions it changes by a MAD who receives what is sent to their groups.
use Rattle.std.specs.Prelude.{ℕ, ◌≡◌, Bool, true, false, ◌&&◌, ◌||◌, List, []}
use Rattle.std.specs.Int.Digits.{AllBelowBase}
use Rattle.mad_layout.specs.declared.method.Method.{Method}
use Rattle.mad_layout.specs.declared.method.Method.TheVariants.{Set, Delete}
use Rattle.sa_records.specs.declared.sa_attribute.SaAttribute.TheVariants as sa_attribute
use Rattle.subnet_model.specs.declared.subnet_port.SubnetPort.{SubnetPort}
use Rattle.sa_model.specs.Receivers.{changed_numbers}
use Rattle.sa_replies.specs.Answer.{Administration, answer}
use Rattle.sa_replies.specs.Laws.{CanBeReported, are_refusals, asks_by, is_of_transfer}
use Rattle.sa_replies.specs.Request.{request_in, is_about}
use Rattle.sa_replies.specs.Transfers.{table_of}

-- their numbers, in order
abbrev pub changed_by : List SubnetPort → SubnetPort → List ℕ → Administration → List ℕ
changed_by ports own payload state =
    changed_numbers ports state.remembered.partitions (answer ports own payload state).1.remembered.partitions

-- ---- a join or a leave
abbrev pub asks_for_group : Method → List ℕ → Bool
asks_for_group method payload = asks_by method payload && (is_about sa_attribute.McMemberRecord (request_in payload))

abbrev pub joins_or_leaves : List ℕ → Bool
joins_or_leaves payload = asks_for_group Set payload || asks_for_group Delete payload

-- nothing else changes them
abbrev pub OthersChangeNoReceivers : Type 0
OthersChangeNoReceivers =
    (ports : List SubnetPort) (own : SubnetPort) (payload : List ℕ) (state : Administration) → joins_or_leaves payload ≡ false
    → changed_by ports own payload state ≡ []

-- and one that is refused changes none
abbrev pub RefusedChangeNoReceivers : Type 0
RefusedChangeNoReceivers =
    (ports : List SubnetPort) (own : SubnetPort) (payload : List ℕ) (state : Administration) → AllBelowBase 256 payload
    → is_of_transfer payload ≡ false → CanBeReported (table_of own.guid (answer ports own payload state).1.transfers)
    → are_refusals (answer ports own payload state).0 ≡ true → changed_by ports own payload state ≡ []
