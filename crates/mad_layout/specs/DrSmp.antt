-- The fields of a directed-route SMP (IBA volume 1, 14.2.1.2) beside the header of every MAD.
use Rattle.std.specs.Prelude.{ℕ, ◌==◌, List, [], ◌∷◌, slice_range}
use Rattle.mad_layout.specs.declared.dr_smp.DrSmp.{DrSmp}
use Rattle.mad_layout.specs.Bits.{field, number, bit_of}
use Rattle.mad_layout.specs.Layout.{Field, at}

abbrev pub dr_smp : DrSmp → List Field
dr_smp smp =
    at 32 1 (bit_of smp.direction)
    ∷ at 33 15 smp.status
    ∷ at 48 8 smp.hop_pointer
    ∷ at 56 8 smp.hop_count
    ∷ at 192 64 smp.m_key
    ∷ at 256 16 smp.dr_slid
    ∷ at 272 16 smp.dr_dlid
    ∷ at 512 512 (number smp.«data»)
    ∷ at 1024 512 (number smp.initial_path)
    ∷ at 1536 512 (number smp.return_path)
    ∷ []

-- these fields of the bytes
abbrev pub dr_smp_in : List ℕ → DrSmp
dr_smp_in mad = record {
  direction = field mad 32 1 == 1;
  status = field mad 33 15;
  hop_pointer = field mad 48 8;
  hop_count = field mad 56 8;
  m_key = field mad 192 64;
  dr_slid = field mad 256 16;
  dr_dlid = field mad 272 16;
  «data» = slice_range mad 64 128;
  initial_path = slice_range mad 128 192;
  return_path = slice_range mad 192 256;
}
