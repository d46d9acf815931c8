-- Codes of statuses.
use Rattle.std.specs.Prelude.{◌≡◌, ◌==◌, false, refl}
use Rattle.mad_layout.specs.MadStatus.{mad_status_code}
use Rattle.mad_layout.specs.declared.status.MadStatus.{MadStatus}
use Rattle.mad_layout.specs.declared.status.MadStatus.TheVariants.{BadVersion, MethodNotSupported, AttributeNotSupported, InvalidField, NoResources, RequestInvalid, NoRecords, TooManyRecords, InvalidGid, InsufficientComponents}

-- no code of a refusal is 0, which says that nothing is refused
pub never_0 : (status : MadStatus) → (mad_status_code status == 0) ≡ false
never_0 BadVersion = refl
never_0 MethodNotSupported = refl
never_0 AttributeNotSupported = refl
never_0 InvalidField = refl
never_0 NoResources = refl
never_0 RequestInvalid = refl
never_0 NoRecords = refl
never_0 TooManyRecords = refl
never_0 InvalidGid = refl
never_0 InsufficientComponents = refl
