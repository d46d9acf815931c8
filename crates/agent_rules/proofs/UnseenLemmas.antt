-- What an agent does not see of an SMP.
use Rattle.std.proofs.Common.{◌≡◌, ℕ, ◌+◌, ◌%◌, ◌^◌, ◌<◌, ◌≤◌, ◌==◌, ◌⊎◌, inl, inr, true, nat_le, if◌then◌else◌, Ok, Err, List, length, refl, sym, ◌∙◌, ap, arith}
use Rattle.std.proofs.lemmas.Bool.{and_parts, leb-true, or_cases}
use Rattle.mad_layout.specs.Bits.{number, field, put_field}
use Rattle.mad_layout.specs.Layout.{at, is_apart}
use Rattle.mad_layout.specs.MadStatus.{mad_status_code}
use Rattle.mad_layout.specs.declared.status.MadStatus.{MadStatus}
use Rattle.mad_layout.proofs.AlignedLemmas.{bytes_stand, field_aligned}
use Rattle.mad_layout.proofs.LayoutLemmas.{field-put_apart, length-put_field, put_below}
use Rattle.agent_rules.specs.Laws.{AsksSame, IsUnseenPut, UnseenPasses, is_unseen}
use Rattle.attr_tables.specs.Attribute.{IsAttribute}
use Rattle.agent_rules.specs.Request.{attribute_asked, data_of, is_request, is_set, reply_method, reply_to}
use Rattle.agent_rules.proofs.CarriedLemmas.{data_fills}
use Rattle.agent_rules.proofs.CarryLemmas.{code_fits}
use Rattle.attr_tables.proofs.AttributeLemmas.{attribute_fits}
use Rattle.mad_layout.proofs.PutLemmas.{put_swap}
use Rattle.agent_rules.proofs.RequestLemmas.{method_fits}

-- where the field lies, beside each part that is seen
record Apart (off len : ℕ) : Type 0 where
  head : is_apart off len (at 0 32 0) ≡ true
  status : is_apart off len (at 33 15 0) ≡ true
  attribute : is_apart off len (at 128 16 0) ≡ true
  modifier : is_apart off len (at 160 32 0) ≡ true
  part : is_apart off len (at 512 512 0) ≡ true

apart_from : (off len : ℕ) → is_unseen off len ≡ true → Apart off len
apart_from off len free =
    let a = and_parts (is_apart off len (at 0 32 0)) _ free in
    let b = and_parts (is_apart off len (at 33 15 0)) _ a.1 in
    let c = and_parts (is_apart off len (at 128 16 0)) _ b.1 in
    let d = and_parts (is_apart off len (at 160 32 0)) _ c.1 in
    let e = and_parts (is_apart off len (at 512 512 0)) _ d.1 in
    record { head = a.0; status = b.0; attribute = c.0; modifier = d.0; part = e.0 }

pub apart_parts : (off len first wide : ℕ) → is_apart off len (at first wide 0) ≡ true → (off + len ≤ first) ⊎ (first + wide ≤ off)
apart_parts off len first wide h =
    elim (or_cases (nat_le (off + len) first) (nat_le (first + wide) off) h) [
      | inl before ↦ inl (leb-true (off + len) first before)
      | inr after ↦ inr (leb-true (first + wide) off after)
    ]

beside : (off len first wide o l : ℕ) → (off + len ≤ first) ⊎ (first + wide ≤ off) → first ≤ o → o + l ≤ first + wide
    → (o + l ≤ off) ⊎ (off + len ≤ o)
beside off len first wide o l (inl before) from to = inr (omega arith)
beside off len first wide o l (inr after) from to = inl (omega arith)

-- a field of such a part is as it was
same_field : (smp : List ℕ) (off len value first wide o l : ℕ) → IsUnseenPut smp off len value
    → is_apart off len (at first wide 0) ≡ true → first ≤ o → o + l ≤ first + wide → first + wide ≤ 2048
    → field (put_field smp off len value) o l ≡ field smp o l
same_field smp off len value first wide o l put free from to inside =
    field-put_apart smp off len value o l (omega (arith, put.count, put.within)) (omega (arith, put.count)) put.fits
    (beside off len first wide o l (apart_parts off len first wide free) from to)

same_method : (smp : List ℕ) (off len value : ℕ) → IsUnseenPut smp off len value → field (put_field smp off len value) 24 8 ≡ field smp 24 8
same_method smp off len value put =
    same_field smp off len value 0 32 24 8 put (apart_from off len put.unseen).head (omega arith) (omega arith) (omega arith)

same_request : (smp : List ℕ) (off len value : ℕ) → IsUnseenPut smp off len value → is_request (put_field smp off len value) ≡ is_request smp
unfolding is_request
same_request smp off len value put =
    let class = same_field smp off len value 0 32 8 8 put (apart_from off len put.unseen).head (omega arith) (omega arith) (omega arith) in
    let method = same_method smp off len value put in
    rw (class, method) refl

same_attribute : (smp : List ℕ) (off len value : ℕ) → IsUnseenPut smp off len value
    → attribute_asked (put_field smp off len value) ≡ attribute_asked smp
unfolding attribute_asked
same_attribute smp off len value put =
    let apart = apart_from off len put.unseen in
    let base = same_field smp off len value 0 32 0 8 put apart.head (omega arith) (omega arith) (omega arith) in
    let class = same_field smp off len value 0 32 16 8 put apart.head (omega arith) (omega arith) (omega arith) in
    let method = same_method smp off len value put in
    let code = same_field smp off len value 128 16 128 16 put apart.attribute (omega arith) (omega arith) (omega arith) in
    rw (base, class, method, code) refl

-- the attribute that is carried
same_data : (smp : List ℕ) (off len value : ℕ) → IsUnseenPut smp off len value → data_of (put_field smp off len value) ≡ data_of smp
same_data smp off len value put =
    let new = put_field smp off len value in
    let long : length new ≡ 256 = length-put_field smp off len value ∙ put.count in
    let same = same_field smp off len value 512 512 512 512 put (apart_from off len put.unseen).part (omega arith) (omega arith) (omega arith) in
    let here : number (data_of smp) ≡ field smp 512 512 = field_aligned smp 64 64 512 512 put.bytes (omega (arith, put.count)) refl refl in
    let fills = data_fills smp put.count put.bytes in
    bytes_stand new (data_of smp) 64 64 (put_below smp off len value) fills.small (omega (arith, long)) fills.count
    (here ∙ sym same)

asks : (smp : List ℕ) (off len value : ℕ) → IsUnseenPut smp off len value → AsksSame smp (put_field smp off len value)
asks smp off len value put =
    record {
      request = same_request smp off len value put;
      set = ap (λ (method : ℕ). method == 2) (same_method smp off len value put);
      attribute = same_attribute smp off len value put;
      modifier = same_field smp off len value 160 32 160 32 put (apart_from off len put.unseen).modifier (omega arith) (omega arith) (omega arith);
      attribute_is = same_data smp off len value put;
    }

same_reply_method : (smp : List ℕ) (off len value : ℕ) → IsUnseenPut smp off len value → reply_method (put_field smp off len value) ≡ reply_method smp
same_reply_method smp off len value put =
    ap (λ (method : ℕ). if method == 2 then 129 else 128 + method % 128) (same_method smp off len value put)

-- method and status put after the field, or before it
status_put : (smp : List ℕ) (off len value method status : ℕ) → IsUnseenPut smp off len value → method < 2 ^ 8
    → status < 2 ^ 15
    → put_field (put_field (put_field smp off len value) 24 8 method) 33 15 status ≡ put_field (put_field (put_field smp 24 8 method) 33 15 status) off len value
status_put smp off len value method status put small narrow =
    let apart = apart_from off len put.unseen in
    let x = put_field smp 24 8 method in
    let long = length-put_field smp 24 8 method in
    let first = put_swap smp off len value 24 8 method (omega (arith, put.count, put.within))
    (omega (arith, put.count)) put.fits small (beside off len 0 32 24 8 (apart_parts off len 0 32 apart.head)
    (omega arith) (omega arith)) in
    let second = put_swap x off len value 33 15 status (omega (arith, put.count, put.within))
    (omega (arith, put.count)) put.fits narrow (beside off len 33 15 33 15
    (apart_parts off len 33 15 apart.status) (omega arith) (omega arith)) in
    ap (λ (bytes : List ℕ). put_field bytes 33 15 status) first ∙ second

reply_passes : (smp bytes : List ℕ) (off len value : ℕ) → IsUnseenPut smp off len value → IsAttribute bytes
    → reply_to (put_field smp off len value) (Ok bytes) ≡ put_field (reply_to smp (Ok bytes)) off len value
unfolding reply_to
reply_passes smp bytes off len value put is =
    let method = reply_method smp in
    let x = put_field smp off len value in
    let y = put_field smp 24 8 method in
    let z = put_field y 33 15 0 in
    let a = length-put_field smp 24 8 method in
    let b = length-put_field y 33 15 0 in
    let apart = apart_from off len put.unseen in
    ap (λ (m : ℕ). put_field (put_field (put_field x 24 8 m) 33 15 0) 512 512 (number bytes)) (same_reply_method smp off len value put)
    ∙ ap (λ (w : List ℕ). put_field w 512 512 (number bytes)) (status_put smp off len value method 0 put (method_fits (is_set smp) (field smp 24 8)) (omega arith))
    ∙ put_swap z off len value 512 512 (number bytes) (omega (arith, put.count, put.within))
    (omega (arith, put.count)) put.fits (attribute_fits bytes is)
    (beside off len 512 512 512 512 (apart_parts off len 512 512 apart.part) (omega arith) (omega arith))

refusal_passes : (smp : List ℕ) (status : MadStatus) (off len value : ℕ) → IsUnseenPut smp off len value
    → reply_to (put_field smp off len value) (Err status) ≡ put_field (reply_to smp (Err status)) off len value
unfolding reply_to
refusal_passes smp status off len value put =
    let x = put_field smp off len value in
    ap (λ (m : ℕ). put_field (put_field x 24 8 m) 33 15 (mad_status_code status)) (same_reply_method smp off len value put)
    ∙ status_put smp off len value (reply_method smp) (mad_status_code status) put (method_fits (is_set smp) (field smp 24 8)) (code_fits status)

pub unseen_passes : UnseenPasses
unseen_passes = record { asks = asks; reply = reply_passes; refusal = refusal_passes }
