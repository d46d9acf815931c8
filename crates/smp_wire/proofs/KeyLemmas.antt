-- Keys in full form, and the key of a packet that a port stamped.
use Rattle.std.proofs.Common.{ℕ, ◌≡◌, ◌==◌, ◌∙◌, ap, refl, sym, not, ◌||◌, Bool, true, false, nat_le, List, [], ◌∷◌, Option, Some, None, Ok, Err, if◌then◌else◌, arith}
use Rattle.std.specs.List.{list_any}
use Rattle.std.specs.Option.{option_map_or}
use Rattle.std.proofs.lemmas.Bool.{and_parts, eqb-true, eq-eqb, le-leb}
use Rattle.std.proofs.lemmas.Option.{none-some}
use Rattle.data_packet.specs.declared.packet.Packet.{Packet}
use Rattle.data_packet.specs.declared.refusal.Refusal.{Refusal}
use Rattle.data_packet.specs.declared.refusal.Refusal.TheVariants.{KeyNotHeld, PortNotActive}
use Rattle.step_results.proofs.ListLemmas.{list_any_weaker}
use Rattle.port_model.proofs.PacketLemmas.{holds_no_base_0}
use Rattle.pkey_rules.specs.KeyTable.{accepts, holds}
use Rattle.pkey_rules.specs.PKey.{base_of, full_form, matches}
use Rattle.pkey_rules.specs.StoredKeys.{stored_keys}
use Rattle.port_model.specs.AdapterState.{AdapterState}
use Rattle.port_model.specs.Packets.{is_active, packet_from, refusal_of, stamped}

-- ---- keys
base_some : (key : ℕ) (words : List ℕ) (b : Bool) → (base_of key == 0) ≡ b → holds key (stored_keys words) ≡ true → b ≡ false
base_some key words false is held = refl
base_some key words true is held =
    let nothing = holds_no_base_0 key words (λ other. other (eqb-true (base_of key) 0 is)) in
    absurd (none-some key (rw held at nothing))

pub full_base : (key : ℕ) → base_of (full_form key) ≡ base_of key
full_base key = omega arith

full_matches : (key other : ℕ) → (base_of key == base_of other) ≡ true → (base_of key == 0) ≡ false → matches (full_form key) other ≡ true
full_matches key other same some =
    let full : nat_le 32768 (full_form key) ≡ true = le-leb 32768 (full_form key) (omega arith) in
    rw (full_base key, same, some, full) refl

-- a key that is among these passes what this very key passes
any_held : (p : ℕ → Bool) (key : ℕ) (keys : List ℕ) → p key ≡ true → holds key keys ≡ true → list_any p keys ≡ true
any_held p key keys is held =
    list_any_weaker (λ one. one == key) p (λ one same. ap p (eqb-true one key same) ∙ is) keys held

pub record Match (p : ℕ → Bool) (keys : List ℕ) : Type 0 where
  pub key : ℕ
  pub passes : p key ≡ true
  pub held : holds key keys ≡ true

match_by : (p : ℕ → Bool) (one : ℕ) (keys : List ℕ) (b : Bool) → p one ≡ b → (list_any p keys ≡ true → Match p keys) → (b || list_any p keys) ≡ true
    → Match p (one ∷ keys)
match_by p one keys true is later any = record { key = one; passes = is; held = rw (eq-eqb one one refl) refl }
match_by p one keys false is later any =
    let rest = later any in
    record { key = rest.key; passes = rest.passes; held = rw rest.held (or_true (one == rest.key)) }
  where
    or_true : (b : Bool) → (b || true) ≡ true
    or_true true = refl
    or_true false = refl

pub match_in : (p : ℕ → Bool) (keys : List ℕ) → list_any p keys ≡ true → Match p keys
match_in p [] any = absurd (cc)
match_in p (one ∷ keys) any = match_by p one keys (p one) refl (match_in p keys) any

-- the full forms of the keys of a port
abbrev pub HoldsFull : List ℕ → List ℕ → Type 0
HoldsFull mine words = (key : ℕ) → holds key (stored_keys words) ≡ true → holds (full_form key) (stored_keys mine) ≡ true

-- accept what travels under one of them
pub held_passes : (mine words : List ℕ) (key : ℕ) → HoldsFull mine words → holds key (stored_keys words) ≡ true → accepts key (stored_keys mine) ≡ true
held_passes mine words key full held =
    any_held (λ one. matches one key) (full_form key) (stored_keys mine)
    (full_matches key key (eq-eqb (base_of key) (base_of key) refl) (base_some key words (base_of key == 0) refl held)) (full key held)

-- and whatever the port accepts
pub accepted_passes : (mine words : List ℕ) (key : ℕ) → HoldsFull mine words → accepts key (stored_keys words) ≡ true → accepts key (stored_keys mine) ≡ true
accepted_passes mine words key full accepted =
    let one = match_in (λ one. matches one key) (stored_keys words) accepted in
    let parts = and_parts (base_of one.key == base_of key) _ one.passes in
    any_held (λ one. matches one key) (full_form one.key) (stored_keys mine)
    (full_matches one.key key parts.0 (base_some one.key words (base_of one.key == 0) refl one.held)) (full one.key one.held)

-- ---- a packet that was stamped
pub record IsStamped (sender : AdapterState) (dlid p_key : ℕ) (packet : Packet) : Type 0 where
  pub dlid_is : packet.dlid ≡ dlid
  pub key_is : packet.p_key ≡ p_key
  pub held : holds p_key (stored_keys sender.keys) ≡ true

held_if : (active held : Bool) (rest : Option Refusal) → (if not active then Some PortNotActive else if not held then Some KeyNotHeld else rest) ≡ None
    → held ≡ true
held_if false held rest is = absurd (cc)
held_if true false rest is = absurd (cc)
held_if true true rest is = refl

stamped_by : (sender : AdapterState) (dlid p_key destination_qp : ℕ) (payload : List ℕ) (packet : Packet) (found : Option Refusal)
    → refusal_of sender dlid p_key destination_qp ≡ found
    → option_map_or Err found (Ok (packet_from sender dlid p_key destination_qp payload)) ≡ Ok packet → IsStamped sender dlid p_key packet
stamped_by sender dlid p_key destination_qp payload packet (Some refusal) found is = absurd (cc)
stamped_by sender dlid p_key destination_qp payload packet None found is =
    let same : packet_from sender dlid p_key destination_qp payload ≡ packet = cc in
    record {
      dlid_is = sym (ap (λ (one : Packet). one.dlid) same);
      key_is = sym (ap (λ (one : Packet). one.p_key) same);
      held = held_if (is_active sender.info) (holds p_key (stored_keys sender.keys)) _ found;
    }

pub is_stamped : (sender : AdapterState) (dlid p_key destination_qp : ℕ) (payload : List ℕ) (packet : Packet)
    → stamped sender dlid p_key destination_qp payload ≡ Ok packet → IsStamped sender dlid p_key packet
is_stamped sender dlid p_key destination_qp payload packet is =
    stamped_by sender dlid p_key destination_qp payload packet (refusal_of sender dlid p_key destination_qp) refl is
