-- What an SMP asks of an agent of subnet management (IBA volume 1, 13.4.2 and 14.2.1.2), and its reply.
use Rattle.std.specs.Prelude.{ℕ, ◌≡◌, ◌+◌, ◌%◌, ◌≤◌, ◌==◌, Bool, true, not, ◌&&◌, ◌||◌, nat_le, if◌then◌else◌, List, [], ◌∷◌, take, drop, Result, Ok, Err}
use Rattle.std.specs.Option.{ok_or}
use Rattle.mad_layout.specs.Bits.{number, field}
use Rattle.mad_layout.specs.Layout.{at, is_free, put_all}
use Rattle.mad_layout.specs.Method.{method_code}
use Rattle.mad_layout.specs.MadStatus.{mad_status_code}
use Rattle.mad_layout.specs.declared.method.Method.TheVariants.{Get, Set, GetResp}
use Rattle.mad_layout.specs.declared.status.MadStatus.{MadStatus}
use Rattle.mad_layout.specs.declared.status.MadStatus.TheVariants.{BadVersion, MethodNotSupported, AttributeNotSupported}
use Rattle.attr_tables.specs.declared.smp_attribute.SmpAttribute.{SmpAttribute}
use Rattle.attr_tables.specs.SmpAttribute.{smp_attribute_of}

-- the 64 bytes of the attribute that it carries
abbrev pub data_of : List ℕ → List ℕ
data_of smp = take 64 (drop 64 smp)

-- the AttributeModifier
abbrev pub modifier_of : List ℕ → ℕ
modifier_of smp = field smp 160 32

abbrev pub is_get : List ℕ → Bool
is_get smp = field smp 24 8 == method_code Get

abbrev pub is_set : List ℕ → Bool
is_set smp = field smp 24 8 == method_code Set

-- it is of the class of directed-route SMPs, and asks (its R bit is 0)
unfoldable pub is_request : List ℕ → Bool
is_request smp = (field smp 8 8 == 129) && not (nat_le 128 (field smp 24 8))

-- both versions are those that our agents know
abbrev pub is_version_1 : List ℕ → Bool
is_version_1 smp = (field smp 0 8 == 1) && (field smp 16 8 == 1)

-- the attribute that it names, or what every agent refuses it for: first its version, then its method
unfoldable pub attribute_asked : List ℕ → Result SmpAttribute MadStatus
attribute_asked smp =
    if not (is_version_1 smp) then Err BadVersion
    else (if not (is_get smp || is_set smp) then Err MethodNotSupported
    else ok_or (smp_attribute_of (field smp 128 16)) AttributeNotSupported)

-- the method of the reply: GetResp to a Set, else the same method with the R bit
abbrev pub reply_method : List ℕ → ℕ
reply_method smp = if is_set smp then method_code GetResp else 128 + field smp 24 8 % 128

-- the reply is the request with its method and status, and with the attribute if it is given; the
-- direction bit, the path and all else stay
unfoldable pub reply_to : List ℕ → Result (List ℕ) MadStatus → List ℕ
reply_to smp (Ok attribute) =
    put_all smp (at 24 8 (reply_method smp) ∷ at 33 15 0 ∷ at 512 512 (number attribute) ∷ [])
reply_to smp (Err status) =
    put_all smp (at 24 8 (reply_method smp) ∷ at 33 15 (mad_status_code status) ∷ [])

-- the status of that reply
abbrev pub reply_status : Result (List ℕ) MadStatus → ℕ
reply_status (Ok attribute) = 0
reply_status (Err status) = mad_status_code status

-- every field that has no bit of method, status and attribute is as it was
abbrev pub KeepsRest : List ℕ → List ℕ → Type 0
KeepsRest old new =
    (off len : ℕ) → off + len ≤ 2048 → is_free off len (at 24 8 0 ∷ at 33 15 0 ∷ at 512 512 0 ∷ []) ≡ true
    → field new off len ≡ field old off len
