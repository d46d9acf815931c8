-- The SMP as it arrives asks what was asked, and the ports of its walk are bytes.
use Rattle.std.proofs.Common.{ℕ, suc, ◌≡◌, ◌+◌, ◌*◌, ◌<◌, ◌≤◌, ◌⊎◌, inl, inr, ◌∙◌, ◌&&◌, ap, refl, sym, Bool, true, false, nat_le, ◌^◌, if◌then◌else◌}
use Rattle.std.proofs.Common.{List, [], ◌∷◌, length, find, slice_get, slice_set, Option, Some, None, option_map, arith}
use Rattle.std.specs.Int.Digits.{AllBelowBase}
use Rattle.std.specs.List.{list_all}
use Rattle.std.specs.Option.{option_and_then, option_map_or}
use Rattle.std.proofs.lemmas.Bool.{and_parts}
use Rattle.std.proofs.lemmas.Bool.Decides.{nat_tests}
use Rattle.std.proofs.lemmas.Option.{same_Some}
use Rattle.mad_layout.specs.Bits.{field, number, put_field}
use Rattle.mad_layout.proofs.AlignedLemmas.{byte_is_set}
use Rattle.mad_layout.specs.Layout.{at, is_apart, is_free}
use Rattle.mad_layout.proofs.LayoutLemmas.{field-put_apart, length-put_field}
use Rattle.mad_layout.proofs.NumberLemmas.{below_bytes}
use Rattle.agent_rules.specs.Laws.{AsksSame, IsUnseenPut, is_unseen}
use Rattle.agent_rules.proofs.UnseenLemmas.{apart_parts, unseen_passes}
use Rattle.smp_route.specs.HopFields.{count, with_return_port}
use Rattle.switch_model.specs.SwitchState.{num_ports}
use Rattle.fabric_parts.specs.declared.cable.Cable.{Cable}
use Rattle.fabric_parts.specs.declared.cable.PortRef.{PortRef}
use Rattle.fabric_parts.specs.Cable.{ends_at, is_same_port, far_end, other_end}
use Rattle.smp_wire.specs.declared.node.Node.{Node}
use Rattle.smp_wire.specs.declared.node.Node.TheVariants.{Switch, Adapter}
use Rattle.smp_wire.specs.FabricState.{FabricState, is_port, port_count}
use Rattle.smp_wire.specs.Good.{IsGood, has_a_right_count, is_right}
use Rattle.smp_wire.specs.Walk.{arrived, hands_on, hop, walk, with_return_ports}
use Rattle.step_results.proofs.ElementLemmas.{find_all}
use Rattle.step_results.proofs.ListLemmas.{all_there}
use Rattle.smp_wire.proofs.PresentLemmas.{present_right}

-- ---- bytes that agents do not look at
pub record IsCarrier (sent smp : List ℕ) : Type 0 where
  pub asks : AsksSame sent smp
  pub below : AllBelowBase 256 smp
  pub long : length smp ≡ 256
  -- all but its hop pointer and its return path is as it was sent
  pub kept : (off len : ℕ) → off + len ≤ 2048 → is_free off len (at 48 8 0 ∷ at 1536 512 0 ∷ []) ≡ true
      → field smp off len ≡ field sent off len

-- a field of the hop pointer or of the return path
record IsOnWay (off len : ℕ) : Type 0 where
  within : off + len ≤ 2048
  apart : (o l : ℕ) → is_free o l (at 48 8 0 ∷ at 1536 512 0 ∷ []) ≡ true → (o + l ≤ off) ⊎ (off + len ≤ o)

same_trans : (a b c : List ℕ) → AsksSame a b → AsksSame b c → AsksSame a c
same_trans a b c one two = record {
  request = two.request ∙ one.request;
  set = two.set ∙ one.set;
  attribute = two.attribute ∙ one.attribute;
  modifier = two.modifier ∙ one.modifier;
  attribute_is = two.attribute_is ∙ one.attribute_is;
}

pub put_below : (xs : List ℕ) (off len v : ℕ) → AllBelowBase 256 (put_field xs off len v)
unfolding put_field
put_below xs off len v = below_bytes _ _

put_carries : (sent smp : List ℕ) (off len v : ℕ) → IsCarrier sent smp → IsOnWay off len → v < 2 ^ len
    → is_unseen off len ≡ true → IsCarrier sent (put_field smp off len v)
put_carries sent smp off len v here way small unseen =
    let put : IsUnseenPut smp off len v = record { count = here.long; bytes = here.below; within = way.within; fits = small; unseen = unseen } in
    record {
      asks = same_trans sent smp _ here.asks (unseen_passes.asks smp off len v put);
      below = put_below smp off len v;
      long = length-put_field smp off len v ∙ here.long;
      kept = λ o l inside free.
          field-put_apart smp off len v o l (omega (arith, here.long, way.within)) (omega (arith, here.long, inside)) small (way.apart o l free)
          ∙ here.kept o l inside free;
    }

byte_carries : (sent smp : List ℕ) (k v : ℕ) → IsCarrier sent smp → k < 256 → IsOnWay (8 * k) 8 → v < 256
    → is_unseen (8 * k) 8 ≡ true → IsCarrier sent (slice_set smp k v)
byte_carries sent smp k v here inside way small unseen =
    rw (byte_is_set smp k v here.below (omega (arith, here.long)) small) (put_carries sent smp (8 * k) 8 v here way small unseen)

pointer_on_way : IsOnWay 48 8
pointer_on_way = record {
  within = omega arith;
  apart = λ o l free. apart_parts o l 48 8 (and_parts (is_apart o l (at 48 8 0)) _ free).0;
}

return_on_way : (k : ℕ) → k < 64 → IsOnWay (8 * (192 + k)) 8
return_on_way k few = record {
  within = omega (arith, few);
  apart = λ o l free.
      let rest = and_parts (is_apart o l (at 48 8 0)) (is_free o l (at 1536 512 0 ∷ [])) free in
      elim (apart_parts o l 1536 512 (and_parts (is_apart o l (at 1536 512 0)) true rest.1).0) [
        | inl before ↦ inl (omega (arith, before))
        | inr after ↦ inr (omega (arith, few, after))
      ];
}

-- a byte of the return path
unseen_return : (k : ℕ) → k < 64 → is_unseen (8 * (192 + k)) 8 ≡ true
unseen_return k h = grind (arith, nat_tests, h)

-- ---- the ports of a good fabric are bytes
abbrev AreBytes : List PortRef → Type 0
AreBytes [] = Unit {0}
AreBytes (end ∷ ends) = (end.port < 256) × AreBytes ends

noted_carries : (sent smp : List ℕ) (k : ℕ) (ends : List PortRef) → IsCarrier sent smp → k + length ends ≤ 64
    → AreBytes ends → IsCarrier sent (with_return_ports k ends smp)
noted_carries sent smp k [] here few bytes = here
noted_carries sent smp k (end ∷ ends) here few bytes =
    noted_carries sent (with_return_port k end.port smp) (k + 1) ends
    (byte_carries sent smp (192 + k) end.port here (omega (arith, few)) (return_on_way k (omega (arith, few))) bytes.0
    (unseen_return k (omega (arith, few)))) (omega (arith, few)) bytes.1

pub arrived_carries : (sent : List ℕ) (ends : List PortRef) → AllBelowBase 256 sent → length sent ≡ 256
    → length ends ≡ count sent → count sent ≤ 63 → AreBytes ends → IsCarrier sent (arrived ends sent)
arrived_carries sent ends below long hops few bytes =
    byte_carries sent (with_return_ports 1 ends sent) 6 (count sent + 1)
    (noted_carries sent sent 1 ends (record {
      asks = record {
        request = refl;
        set = refl;
        attribute = refl;
        modifier = refl;
        attribute_is = refl;
      };
      kept = λ off len inside free. refl;
      below = below;
      long = long;
    })
    (omega (arith, hops, few)) bytes)
    (omega arith) pointer_on_way (omega (arith, few)) refl

below : (n most : ℕ) → nat_le 1 n && nat_le n most ≡ true → n ≤ most
below n most h = let part = (and_parts (nat_le 1 n) (nat_le n most) h).1 in grind (arith, nat_tests, part)

few_ports : (node : Node) → has_a_right_count node ≡ true → port_count node ≤ 36
few_ports (Switch held) h = below (num_ports held) 36 h
few_ports (Adapter ports) h = let few = below (length ports) 8 h in omega (arith, few)

few_at : (nodes : List Node) (found : Option Node)
    → ((node : Node) → found ≡ Some node → has_a_right_count node ≡ true) → option_map_or port_count found 0 ≤ 36
few_at nodes None right = omega arith
few_at nodes (Some node) right = few_ports node (right node refl)

pub port_small : (nodes : List Node) (at : PortRef) → list_all has_a_right_count nodes ≡ true → is_port nodes at ≡ true → at.port < 256
port_small nodes at right is =
    let few = few_at nodes (slice_get nodes at.node) (λ node there. all_there has_a_right_count nodes at.node node right there) in
    let within = below at.port (option_map_or port_count (slice_get nodes at.node) 0) is in
    omega (arith, few, within)

other_small : (fabric : FabricState) (here : PortRef) (cable : Cable) (b : Bool) → IsGood fabric → is_right fabric.nodes cable ≡ true
    → (if b then cable.second else cable.first).port < 256
other_small fabric here cable true good right =
    port_small fabric.nodes cable.second good.counts (and_parts _ _ (and_parts _ _ right).1).0
other_small fabric here cable false good right = port_small fabric.nodes cable.first good.counts (and_parts _ _ right).0

far_small : (fabric : FabricState) (here there : PortRef) (found : Option Cable) → IsGood fabric
    → ((cable : Cable) → found ≡ Some cable → is_right fabric.nodes cable ≡ true)
    → option_map (other_end here) found ≡ Some there → there.port < 256
far_small fabric here there None good right is = cc
far_small fabric here there (Some cable) good right is =
    let small = other_small fabric here cable (is_same_port cable.first here) good (right cable refl) in
    rw (sym (same_Some _ _ is)) small

pub end_small : (fabric : FabricState) (out there : PortRef) → IsGood fabric → far_end fabric.cables out ≡ Some there → there.port < 256
end_small fabric out there good is =
    far_small fabric out there (find (λ cable. ends_at out cable) fabric.cables) good
    (λ cable found. find_all (is_right fabric.nodes) (λ one. ends_at out one) fabric.cables cable (present_right good)
    found) is

hop_small : (fabric : FabricState) (starts : Bool) (here there : PortRef) (number : ℕ) → IsGood fabric
    → hop fabric.nodes fabric.cables starts here number ≡ Some there → there.port < 256
unfolding hop
hop_small fabric starts here there number good is = if_small (hands_on fabric.nodes starts here && is_port fabric.nodes (record { node = here.node; port = number })) is
  where
    if_small : (b : Bool) → (if b then far_end fabric.cables (record { node = here.node; port = number }) else None) ≡ Some there → there.port < 256
    if_small true h = end_small fabric (record { node = here.node; port = number }) there good h
    if_small false h = cc

-- ---- the ends of a walk
abbrev WalksRight : List ℕ → List PortRef → Type 0
WalksRight numbers ends = (length ends ≡ length numbers) × AreBytes ends

walked_on : (fabric : FabricState) (numbers : List ℕ) (there : PortRef) (ends : List PortRef) (rest : Option (List PortRef)) → there.port < 256
    → ((some : List PortRef) → rest ≡ Some some → WalksRight numbers some) → option_map (λ later. there ∷ later) rest ≡ Some ends
    → (length ends ≡ suc (length numbers)) × AreBytes ends
walked_on fabric numbers there ends None small right is = cc
walked_on fabric numbers there ends (Some some) small right is =
    let so = right some refl in
    rw (sym (same_Some _ _ is)) (ap suc so.0, (small, so.1))

walked_from : (fabric : FabricState) (numbers : List ℕ) (ends : List PortRef) (next : Option PortRef)
    → ((there : PortRef) → next ≡ Some there → there.port < 256)
    → ((there : PortRef) (some : List PortRef) → walk fabric.nodes fabric.cables false there numbers ≡ Some some → WalksRight numbers some)
    → option_and_then (λ there. option_map (λ later. there ∷ later)
    (walk fabric.nodes fabric.cables false there numbers)) next ≡ Some
    ends → (length ends ≡ suc (length numbers)) × AreBytes ends
walked_from fabric numbers ends None small right is = cc
walked_from fabric numbers ends (Some there) small right is =
    walked_on fabric numbers there ends (walk fabric.nodes fabric.cables false there numbers) (small there refl) (right there) is

pub walks_right : (fabric : FabricState) (starts : Bool) (here : PortRef) (numbers : List ℕ) (ends : List PortRef) → IsGood fabric
    → walk fabric.nodes fabric.cables starts here numbers ≡ Some ends → WalksRight numbers ends
walks_right fabric starts here [] ends good is = rw (sym (same_Some [] ends is)) (refl, tt)
walks_right fabric starts here (number ∷ numbers) ends good is =
    walked_from fabric numbers ends (hop fabric.nodes fabric.cables starts here number) (λ there h. hop_small fabric starts here there number good h)
    (λ there some h. walks_right fabric false there numbers some good h) is
