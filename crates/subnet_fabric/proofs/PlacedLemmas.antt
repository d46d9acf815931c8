-- Ports in order of LID: where one more belongs.
use Rattle.std.proofs.Common.{◌≡◌, ℕ, zero, suc, ◌+◌, ◌<◌, ◌≤◌, true, false, nat_le, List, [], ◌∷◌, length, get_or, refl, inl, inr, sym, ap, subst, arith}
use Rattle.std.specs.List.{insert, prefix_len}
use Rattle.std.specs.List.Sorted.{IsPartitionPoint, IsPartitionedBy, IsPermutation}
use Rattle.std.proofs.lemmas.Bool.{cases_Bool, leb-true, leb-false, le-leb}
use Rattle.std.proofs.lemmas.List.Elements.{All-nil, All-cons, All-weaker, All-get_or}
use Rattle.std.proofs.lemmas.List.Sorted.{IsPermutation-insert, All-permutation}
use Rattle.std.proofs.lemmas.List.Sums.{prefix_len_is}
use Rattle.subnet_model.specs.declared.subnet_port.SubnetPort.{SubnetPort}
use Rattle.subnet_fabric.specs.Ports.{Rise, with_port}

-- behind the ports of lesser LIDs is the port's place
pub insert_in_order : (ports : List SubnetPort) (port : SubnetPort)
    → insert ports (prefix_len (λ other. nat_le other.lid port.lid) ports) port ≡ with_port ports port
insert_in_order [] port = refl
insert_in_order (first ∷ rest) port = elim (cases_Bool (nat_le first.lid port.lid)) [
  | inl before ↦
      let n = prefix_len (λ other. nat_le other.lid port.lid) rest in
      let e : 1 + n ≡ suc n = omega arith in
      rw before (rw e (ap (λ ports. first ∷ ports) (insert_in_order rest port)))
  | inr after ↦ rw after refl
]

pub with_port_moves : (ports : List SubnetPort) (port : SubnetPort) → IsPermutation (port ∷ ports) (with_port ports port)
with_port_moves ports port =
    subst (λ (q : List SubnetPort). IsPermutation (port ∷ ports) q) (insert_in_order ports port)
    (IsPermutation-insert ports _ port)

pub rises_with : (ports : List SubnetPort) (port : SubnetPort) → Rise ports → Rise (with_port ports port)
rises_with [] port h = (All-nil (λ b. port.lid ≤ b.lid), tt)
rises_with (first ∷ rest) port h = elim (cases_Bool (nat_le first.lid port.lid)) [
  | inl below ↦ rw below (
    All-permutation (λ b. first.lid ≤ b.lid) (port ∷ rest) (with_port rest port) (with_port_moves rest port)
        (All-cons (λ b. first.lid ≤ b.lid) port rest (leb-true first.lid port.lid below) h.0),
    rises_with rest port h.1,
  )
  | inr above ↦ let less : port.lid < first.lid = leb-false first.lid port.lid above in
      rw above (
        All-cons (λ b. port.lid ≤ b.lid) first rest (omega arith) (All-weaker (λ b. first.lid ≤ b.lid) (λ b. port.lid ≤ b.lid) (λ b k. omega arith) rest h.0),
        h,
      )
]

-- those of a LID up to this one are before the others
pub are_parted : (lid : ℕ) (ports : List SubnetPort) → Rise ports → IsPartitionedBy (λ other. nat_le other.lid lid) ports
are_parted lid [] rise i j d low within passes = absurd (omega (arith, within))
are_parted lid (first ∷ rest) rise zero zero d low within passes = passes
are_parted lid (first ∷ rest) rise zero (suc j) d low within passes =
    let above : first.lid ≤ (get_or rest j d).lid = All-get_or (λ other. first.lid ≤ other.lid) rest j d (omega (arith, within)) rise.0 in
    let below = leb-true (get_or rest j d).lid lid passes in
    le-leb first.lid lid (omega (arith, above, below))
are_parted lid (first ∷ rest) rise (suc i) zero d low within passes = absurd (omega (arith, low))
are_parted lid (first ∷ rest) rise (suc i) (suc j) d low within passes = are_parted lid rest rise.1 i j d (omega (arith, low)) (omega (arith, within)) passes

pub place_is_prefix : (lid : ℕ) (d : SubnetPort) (ports : List SubnetPort) (place : ℕ) → place ≤ length ports
    → IsPartitionPoint (λ other. nat_le other.lid lid ≡ true) (λ other. nat_le other.lid lid ≡ false) ports place
    → place ≡ prefix_len (λ other. nat_le other.lid lid) ports
place_is_prefix lid d ports place within cut =
    sym (prefix_len_is (λ other. nat_le other.lid lid) ports place d within (λ k less. cut.0 k d (omega arith) less) (λ less. cut.1 place d (omega arith) less))
