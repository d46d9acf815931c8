-- What a request that is encoded asks for, to the bit.
use Rattle.std.proofs.Common.{ℕ, ◌≡◌, ◌<◌, ◌≤◌, nat_le, ◌+◌, ◌-◌, ◌∙◌, ap, refl, sym, true, false, List, ◌∷◌, ◌++◌, length, take, drop, replicate, slice_range, arith}
use Rattle.std.specs.Int.Digits.{AllBelowBase}
use Rattle.std.proofs.lemmas.Bool.Decides.{nat_tests}
use Rattle.std.proofs.lemmas.List.{drop-drop, drop-replicate, drop-take, take-take}
use Rattle.std.proofs.Math.Seq.{take-append_seam}
use Rattle.mad_layout.specs.Bits.{bit_of, field, number}
use Rattle.mad_layout.specs.Layout.{Holds, Sets}
use Rattle.mad_layout.specs.DrSmp.{dr_smp}
use Rattle.mad_layout.specs.MadHeader.{mad_header}
use Rattle.mad_layout.specs.Method.{method_code}
use Rattle.mad_layout.specs.declared.method.Method.{Method}
use Rattle.mad_layout.specs.declared.dr_smp.DrSmp.{DrSmp}
use Rattle.mad_layout.specs.declared.mad_header.Header.{Header}
use Rattle.attr_tables.specs.declared.smp_attribute.SmpAttribute.{SmpAttribute}
use Rattle.attr_tables.specs.SmpAttribute.{smp_attribute_code}
use Rattle.smp_wire.specs.Requests.{AsksFor, path_entries, plain_request}
use Rattle.mad_layout.proofs.AlignedLemmas.{byte_is_field}
use Rattle.mad_layout.proofs.LayoutLemmas.{field_zeros, holds_both, number_zeros}
use Rattle.smp_route.specs.HopFields.{count, pointer}
use Rattle.agent_rules.specs.Request.{is_request, is_version_1}
use Rattle.smp_wire.specs.Walk.{is_sent, path_of}

pub requests : (smp : List ℕ) (code : ℕ) → field smp 8 8 ≡ 129 → field smp 24 8 ≡ code → code < 128 → is_request smp ≡ true
unfolding is_request
requests smp code class method few =
    let asks : nat_le 128 code ≡ false = grind (arith, nat_tests, few) in
    rw (class, method, asks) refl

pub of_version_1 : (smp : List ℕ) → field smp 0 8 ≡ 1 → field smp 16 8 ≡ 1 → is_version_1 smp ≡ true
of_version_1 smp base class = rw (base, class) refl

pub count_is : (smp : List ℕ) (n : ℕ) → AllBelowBase 256 smp → length smp ≡ 256 → n ≡ field smp 56 8 → count smp ≡ n
count_is smp n below long is = byte_is_field smp 7 below (omega (arith, long)) ∙ sym is

pub pointer_is : (smp : List ℕ) → AllBelowBase 256 smp → length smp ≡ 256 → 0 ≡ field smp 48 8 → pointer smp ≡ 0
pointer_is smp below long is = byte_is_field smp 6 below (omega (arith, long)) ∙ sym is

pub is_sent_by : (smp : List ℕ) (n : ℕ) → 0 ≡ field smp 32 1 → pointer smp ≡ 0 → count smp ≡ n → n ≤ 63 → is_sent smp ≡ true
is_sent_by smp n out at_start hops few = rw (← out, at_start, hops) (grind (arith, nat_tests, few))

pub path_is : (smp initial path : List ℕ) → length smp ≡ 256 → slice_range smp 128 192 ≡ initial → take (length path) (drop 1 initial) ≡ path
    → count smp ≡ length path → length path ≤ 63 → path_of smp ≡ path
path_is smp initial path long is part hops few =
    let whole : take 64 (drop 128 smp) ≡ initial = is in
    let from : drop 129 smp ≡ drop 1 (drop 128 smp) = sym (drop-drop 1 128 smp) in
    let cut : take (length path) (drop 1 (take 64 (drop 128 smp))) ≡ take (length path)
    (drop 1 (drop 128 smp)) = ap (take (length path)) (drop-take 1 63 (drop 128 smp)) ∙ take-take (length path)
    63 (drop 1 (drop 128 smp)) few in
    rw (hops, from) (sym cut ∙ rw whole part)

-- the path stands in its entries
pub entries : (path new : List ℕ) → new ≡ path → 0 ∷ new ++ drop {A = ℕ} (1 + length path - 1) (replicate 63 0) ≡ path_entries path
entries path new is =
    let n : 1 + length path - 1 ≡ length path = omega arith in
    let rest : drop {A = ℕ} (length path) (replicate 63 0) ≡ replicate (63 - length path) 0 = drop-replicate (length path) 63 0 in
    rw (is, n, rest) refl

taken : (path : List ℕ) → take (length path) (drop 1 (path_entries path)) ≡ path
taken path = take-append_seam path (replicate (63 - length path) 0)

-- what a request asks, and the 64 bytes that it carries
pub record Asked : Type 0 where
  pub by : Method
  pub transaction_id : ℕ
  pub attribute : SmpAttribute
  pub modifier : ℕ
  pub path : List ℕ
  pub wanted : List ℕ

-- the header and the route of such a request
pub record IsRequestHeader (header : Header) (asked : Asked) : Type 0 where
  pub base : header.base_version ≡ 1
  pub class : header.mgmt_class ≡ 129
  pub version : header.class_version ≡ 1
  pub method : header.method ≡ method_code asked.by
  pub transaction : header.transaction_id ≡ asked.transaction_id
  pub attribute_is : header.attribute_id ≡ smp_attribute_code asked.attribute
  pub modifier_is : header.attribute_modifier ≡ asked.modifier

pub record IsOutward (route : DrSmp) (asked : Asked) : Type 0 where
  pub out : route.direction ≡ false
  pub status : route.status ≡ 0
  pub at_start : route.hop_pointer ≡ 0
  pub hops : route.hop_count ≡ length asked.path
  pub few : length asked.path ≤ 63
  pub key : route.m_key ≡ 0
  pub begins : route.dr_slid ≡ 65535
  pub ends : route.dr_dlid ≡ 65535
  pub carried : route.«data» ≡ asked.wanted
  pub along : route.initial_path ≡ path_entries asked.path
  pub back : route.return_path ≡ replicate 64 0

-- a request as it is encoded: its header over zeros, and its route over that
pub record IsEncoded (mid smp : List ℕ) (header : Header) (route : DrSmp) (asked : Asked) : Type 0 where
  pub first : Sets (replicate 256 0) mid (mad_header header)
  pub second : Sets mid smp (dr_smp route)
  pub initial : slice_range smp 128 192 ≡ route.initial_path
  pub long : length smp ≡ 256
  pub below : AllBelowBase 256 smp
  pub few : method_code asked.by < 128
  pub header_is : IsRequestHeader header asked
  pub route_is : IsOutward route asked

-- the header of the SMP, where the route is not
record HasHeader (smp : List ℕ) (asked : Asked) : Type 0 where
  base : field smp 0 8 ≡ 1
  class : field smp 8 8 ≡ 129
  version : field smp 16 8 ≡ 1
  method : field smp 24 8 ≡ method_code asked.by
  transaction : field smp 64 64 ≡ asked.transaction_id
  attribute_is : field smp 128 16 ≡ smp_attribute_code asked.attribute
  reserved : field smp 144 16 ≡ 0
  modifier_is : field smp 160 32 ≡ asked.modifier
  unsaid : field smp 288 224 ≡ 0

header_there : {mid smp : List ℕ} {header : Header} {route : DrSmp} {asked : Asked} → IsEncoded mid smp header route asked → HasHeader smp asked
header_there {mid = mid} encoded =
    let second = encoded.second in
    let wide : length mid ≡ 256 = sym second.same_length ∙ encoded.long in
    let h = encoded.first.fields in
    let is = encoded.header_is in
    record {
      base = second.others 0 8 (omega (arith, wide)) refl ∙ sym h.0 ∙ is.base;
      class = second.others 8 8 (omega (arith, wide)) refl ∙ sym h.1.0 ∙ is.class;
      version = second.others 16 8 (omega (arith, wide)) refl ∙ sym h.1.1.0 ∙ is.version;
      method = second.others 24 8 (omega (arith, wide)) refl ∙ sym h.1.1.1.0 ∙ is.method;
      transaction = second.others 64 64 (omega (arith, wide)) refl ∙ sym h.1.1.1.1.1.1.0 ∙ is.transaction;
      attribute_is = second.others 128 16 (omega (arith, wide)) refl ∙ sym h.1.1.1.1.1.1.1.0 ∙ is.attribute_is;
      reserved = second.others 144 16 (omega (arith, wide)) refl ∙ encoded.first.others 144 16 (omega arith) refl ∙ field_zeros 256 144 16;
      modifier_is = second.others 160 32 (omega (arith, wide)) refl ∙ sym h.1.1.1.1.1.1.1.1.0 ∙ is.modifier_is;
      unsaid = second.others 288 224 (omega (arith, wide)) refl ∙ encoded.first.others 288 224 (omega arith) refl ∙ field_zeros 256 288 224;
    }

pub asks_for : {mid smp : List ℕ} {header : Header} {route : DrSmp} {asked : Asked} → IsEncoded mid smp header route asked
    → AsksFor asked.by asked.attribute asked.modifier asked.path smp
asks_for {smp = smp} {route = route} {asked = asked} encoded =
    let path = asked.path in
    let h = header_there encoded in
    let r = encoded.second.fields in
    let is = encoded.route_is in
    let hops : count smp ≡ length path = count_is smp (length path) encoded.below encoded.long (sym is.hops ∙ r.1.1.1.0) in
    let at_start : pointer smp ≡ 0 = pointer_is smp encoded.below encoded.long (sym is.at_start ∙ r.1.1.0) in
    record {
      request = requests smp (method_code asked.by) h.class h.method encoded.few;
      version = of_version_1 smp h.base h.version;
      method_is = h.method;
      attribute_id = h.attribute_is;
      modifier_is = h.modifier_is;
      sent = is_sent_by smp (length path) (sym (ap bit_of is.out) ∙ r.0) at_start hops is.few;
      path_is = path_is smp (path_entries path) path encoded.long (encoded.initial ∙ is.along) (taken path) hops is.few;
      long = encoded.long;
      bytes = encoded.below;
    }

number_blank : (bytes : List ℕ) → bytes ≡ replicate 64 0 → 0 ≡ number bytes
number_blank bytes is = sym (ap number is ∙ number_zeros 64)

pub plain_is : {mid smp : List ℕ} {header : Header} {route : DrSmp} {asked : Asked} → IsEncoded mid smp header route asked
    → Holds smp (plain_request asked.by asked.transaction_id asked.attribute asked.modifier asked.path asked.wanted)
plain_is {smp = smp} {route = route} {asked = asked} encoded =
    let places = plain_request asked.by asked.transaction_id asked.attribute asked.modifier asked.path asked.wanted in
    let h = header_there encoded in
    let r = encoded.second.fields in
    let is = encoded.route_is in
    holds_both smp 4 places (sym h.base, (sym h.class, (sym h.version, (sym h.method, tt))))
    (holds_both smp 2 (drop 4 places) (sym (ap bit_of is.out) ∙ r.0, (sym is.status ∙ r.1.0, tt))
    (holds_both smp 2 (drop 6 places) (sym is.at_start ∙ r.1.1.0, (sym is.hops ∙ r.1.1.1.0, tt))
    (holds_both smp 4 (drop 8 places) (sym h.transaction, (sym h.attribute_is, (sym h.reserved, (sym h.modifier_is, tt))))
    (holds_both smp 2 (drop 12 places) (sym is.key ∙ r.1.1.1.1.0, (sym is.begins ∙ r.1.1.1.1.1.0, tt))
    (holds_both smp 2 (drop 14 places) (sym is.ends ∙ r.1.1.1.1.1.1.0, (sym h.unsaid, tt))
    (holds_both smp 1 (drop 16 places) (ap number (sym is.carried) ∙ r.1.1.1.1.1.1.1.0, tt)
    (holds_both smp 1 (drop 17 places) (ap number (sym is.along) ∙ r.1.1.1.1.1.1.1.1.0, tt)
    (number_blank route.return_path is.back ∙ r.1.1.1.1.1.1.1.1.1.0, tt))))))))
