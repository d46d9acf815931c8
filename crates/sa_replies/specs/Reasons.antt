-- Reasons to refuse a request, in order, and the statuses that they have (IBA volume 1, 13.4.7 and chapter 15).
use Rattle.std.specs.Prelude.{ℕ, Bool, not, ◌&&◌, ◌||◌, nat_lt, if◌then◌else◌, List, [], ◌∷◌}
use Rattle.std.specs.List.{list_any}
use Rattle.sa_model.specs.Selected.{asks}

-- ---- a reason to refuse a request, with its status
pub record Reason : Type 0 where
  pub holds : Bool
  pub status : ℕ

abbrev pub because : Bool → ℕ → Reason
because holds status = record { holds = holds; status = status }

-- the first that holds; 0 if none does
abbrev pub status_by : List Reason → ℕ
status_by [] = 0
status_by (reason ∷ reasons) = if reason.holds then reason.status else status_by reasons

abbrev pub bad_version : ℕ
bad_version = 0x0004

abbrev pub method_not_supported : ℕ
method_not_supported = 0x0008

abbrev pub attribute_not_supported : ℕ
attribute_not_supported = 0x000c

abbrev pub no_resources : ℕ
no_resources = 0x0100

abbrev pub request_invalid : ℕ
request_invalid = 0x0200

abbrev pub no_records : ℕ
no_records = 0x0300

abbrev pub too_many_records : ℕ
too_many_records = 0x0400

abbrev pub invalid_gid : ℕ
invalid_gid = 0x0500

abbrev pub insufficient_components : ℕ
insufficient_components = 0x0600

-- ---- what is asked of a request
-- the mask does not name all of these
abbrev pub lacks : ℕ → List ℕ → Bool
lacks mask components = list_any (λ bits. not (asks mask bits)) components

-- the mask names a code with its selector, and the code is none of the standard's: MTUs are 1 to 5, rates 2 to 10
abbrev pub names_unknown : ℕ → ℕ → ℕ → ℕ → ℕ → Bool
names_unknown mask bits lowest highest code = asks mask bits && (nat_lt code lowest || nat_lt highest code)
