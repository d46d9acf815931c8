-- The codes by which a request is refused (IBA volume 1, 13.4.7 and chapter 15).
use Rattle.std.specs.Prelude.{ℕ}
use Rattle.mad_layout.specs.declared.status.MadStatus.{MadStatus}
use Rattle.mad_layout.specs.declared.status.MadStatus.TheVariants.{BadVersion, MethodNotSupported, AttributeNotSupported, InvalidField, NoResources}
use Rattle.mad_layout.specs.declared.status.MadStatus.TheVariants.{RequestInvalid, NoRecords, TooManyRecords, InvalidGid, InsufficientComponents}

abbrev pub mad_status_code : MadStatus → ℕ
mad_status_code BadVersion = 4
mad_status_code MethodNotSupported = 8
mad_status_code AttributeNotSupported = 12
mad_status_code InvalidField = 28
mad_status_code NoResources = 256
mad_status_code RequestInvalid = 512
mad_status_code NoRecords = 768
mad_status_code TooManyRecords = 1024
mad_status_code InvalidGid = 1280
mad_status_code InsufficientComponents = 1536
