use Rattle.std.proofs.Common.{◌≡◌, ℕ, List, ◌∙◌, sym}
use Rattle.mad_layout.specs.declared.dr_smp.DrSmp.{DrSmp}
use Rattle.mad_layout.specs.DrSmp.{dr_smp}
use Rattle.mad_layout.specs.Layout.{Holds}
use Rattle.mad_layout.proofs.AlignedLemmas.{same_bit}
use Rattle.mad_layout.proofs.laws.dr_smp_reads_back.Goals as goal

same_smp : (a b : DrSmp) (bytes : List ℕ) → Holds bytes (dr_smp a) → Holds bytes (dr_smp b) → a.«data» ≡ b.«data»
    → a.initial_path ≡ b.initial_path → a.return_path ≡ b.return_path → a ≡ b
same_smp a b bytes h g d i r =
    let e = same_bit a.direction b.direction (h.0 ∙ sym g.0) in
    let f : a.status ≡ b.status = h.1.0 ∙ sym g.1.0 in
    let p : a.hop_pointer ≡ b.hop_pointer = h.1.1.0 ∙ sym g.1.1.0 in
    let n : a.hop_count ≡ b.hop_count = h.1.1.1.0 ∙ sym g.1.1.1.0 in
    let k : a.m_key ≡ b.m_key = h.1.1.1.1.0 ∙ sym g.1.1.1.1.0 in
    let s : a.dr_slid ≡ b.dr_slid = h.1.1.1.1.1.0 ∙ sym g.1.1.1.1.1.0 in
    let t : a.dr_dlid ≡ b.dr_dlid = h.1.1.1.1.1.1.0 ∙ sym g.1.1.1.1.1.1.0 in
    λ place. record {
      direction = e place;
      status = f place;
      hop_pointer = p place;
      hop_count = n place;
      m_key = k place;
      dr_slid = s place;
      dr_dlid = t place;
      «data» = d place;
      initial_path = i place;
      return_path = r place;
    }

pub returns-clause-read : goal.returns-clause-read
returns-clause-read c =
    same_smp c.read.result c.args.smp.now c.write.new.mad c.read.ensures.fields c.write.ensures.fields.fields
    (c.read.ensures.data ∙ c.write.ensures.data)
    (c.read.ensures.initial_path ∙ c.write.ensures.initial_path)
    (c.read.ensures.return_path ∙ c.write.ensures.return_path)
