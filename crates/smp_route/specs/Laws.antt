-- The bytes that hops read and write are the fields of a directed-route SMP (IBA volume 1,
-- 14.2.1.2): the hop pointer is the field of 8 bits at bit 48, the hop count that at bit 56, and port k of
-- the initial path and of the return path those at bits 1024 + 8 k and 1536 + 8 k.
use Rattle.std.specs.Prelude.{ℕ, ◌≡◌, ◌+◌, ◌*◌, ◌<◌, List, length}
use Rattle.std.specs.Int.Digits.{AllBelowBase}
use Rattle.mad_layout.specs.Bits.{field, put_field}
use Rattle.smp_route.specs.HopFields.{pointer, count, initial_port, return_port, with_pointer, with_return_port}

pub record AreFields (smp : List ℕ) : Type 0 where
  pub pointer_is : pointer smp ≡ field smp 48 8
  pub count_is : count smp ≡ field smp 56 8
  pub initial_is : (k : ℕ) → k < 64 → initial_port smp k ≡ field smp (1024 + 8 * k) 8
  pub return_is : (k : ℕ) → k < 64 → return_port smp k ≡ field smp (1536 + 8 * k) 8
  -- and to write them is to set those fields, and no other bit
  pub pointer_set : (value : ℕ) → value < 256 → with_pointer value smp ≡ put_field smp 48 8 value
  pub return_set : (k port : ℕ) → k < 64 → port < 256 → with_return_port k port smp ≡ put_field smp (1536 + 8 * k) 8 port

abbrev pub PlacesAreFields : Type 0
PlacesAreFields = (smp : List ℕ) → AllBelowBase 256 smp → length smp ≡ 256 → AreFields smp
