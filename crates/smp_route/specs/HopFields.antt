-- Where a directed-route SMP (IBA volume 1, 14.2.1.2) has what its hops read and write, as bytes; and
-- its direction bit.
use Rattle.std.specs.Prelude.{ℕ, ◌+◌, ◌==◌, Bool, List, slice_index, slice_set}
use Rattle.mad_layout.specs.Bits.{field, put_field}

-- its direction bit is 0 on the way out, and 1 on the way back
abbrev pub is_outgoing : List ℕ → Bool
is_outgoing smp = field smp 32 1 == 0

abbrev pub turned_round : List ℕ → List ℕ
turned_round smp = put_field smp 32 1 1

-- how far along its path the SMP is
abbrev pub pointer : List ℕ → ℕ
pointer smp = slice_index smp 6

-- how many hops the path has
abbrev pub count : List ℕ → ℕ
count smp = slice_index smp 7

-- the port by which hop k leaves, and the one by which it came in; hops count from 1
abbrev pub initial_port : List ℕ → ℕ → ℕ
initial_port smp k = slice_index smp (128 + k)

abbrev pub return_port : List ℕ → ℕ → ℕ
return_port smp k = slice_index smp (192 + k)

abbrev pub with_pointer : ℕ → List ℕ → List ℕ
with_pointer p smp = slice_set smp 6 p

abbrev pub with_return_port : ℕ → ℕ → List ℕ → List ℕ
with_return_port k port smp = slice_set smp (192 + k) port
