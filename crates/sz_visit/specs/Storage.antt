-- The artifacts in a folder, as of a removable storage device (RFC 8572 section 4.1). The names of the files are this
-- project's own.
use Rattle.std.specs.Prelude.{ℕ, Bool, true, ◌&&◌, if◌then◌else◌, List, length, nat_le, codes, Option, Some, None, is_some, Result, Ok, Err}
use Rattle.sz_base.specs.declared.evidence.Evidence.{Evidence}
use Rattle.sz_io.specs.Folder.{bytes_at, FileMap}
use Rattle.sz_visit.specs.Files.{under}
use Rattle.sz_visit.specs.declared.fault.FileFault.{FileFault}
use Rattle.sz_visit.specs.declared.fault.FileFault.TheVariants.{Absent, TooLarge}
use Rattle.sz_base.specs.Evidence.{most_artifact_bytes}

abbrev pub conveyed_information : List ℕ
conveyed_information = codes "conveyed-information.cms"

abbrev pub owner_certificate : List ℕ
owner_certificate = codes "owner-certificate.cms"

abbrev pub ownership_voucher : List ℕ
ownership_voucher = codes "ownership-voucher.cms"

abbrev pub fits : List ℕ → Bool
fits artifact = nat_le (length artifact) most_artifact_bytes

abbrev pub fits_where : Option (List ℕ) → Bool
fits_where None = true
fits_where (Some artifact) = fits artifact

-- the evidence of three files, of which the first has to be there and none may be over the limit
abbrev pub evidence_of : Option (List ℕ) → Option (List ℕ) → Option (List ℕ) → Result Evidence FileFault
evidence_of None oc ov = Err Absent
evidence_of (Some ci) oc ov =
    if fits ci && fits_where oc && fits_where ov
    then Ok (record { ci = ci; oc = oc; ov = ov })
    else Err (TooLarge most_artifact_bytes)

-- the evidence in this folder
abbrev pub evidence_in : FileMap → List ℕ → Result Evidence FileFault
evidence_in files folder = evidence_of
    (bytes_at files (under folder conveyed_information))
    (bytes_at files (under folder owner_certificate))
    (bytes_at files (under folder ownership_voucher))

-- which folder counts: the one that is named as the serial number, where it has conveyed information
abbrev pub folder_for : FileMap → List ℕ → List ℕ → List ℕ
folder_for files path serial =
    if is_some (bytes_at files (under (under path serial) conveyed_information)) then under path serial else path

-- the evidence on storage for the device of this serial number
abbrev pub storage_of : FileMap → List ℕ → List ℕ → Result Evidence FileFault
storage_of files path serial = evidence_in files (folder_for files path serial)
