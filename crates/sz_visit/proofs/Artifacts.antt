-- What three files give together, from what each of them gives.
use Rattle.std.proofs.Common.{◌≡◌, ℕ, true, false, List, Option, Some, None, Result, Ok, Err, refl, sym, ◌∙◌, inl, inr}
use Rattle.std.proofs.lemmas.Bool.{cases_Bool, cond-false, cond-true}
use Rattle.sz_base.specs.declared.evidence.Evidence.{Evidence}
use Rattle.sz_io.specs.Folder.{bytes_at, FileMap}
use Rattle.sz_visit.specs.Files.{artifact_of, Gives, under}
use Rattle.sz_visit.specs.Storage.{conveyed_information, evidence_in, evidence_of, fits, fits_where, owner_certificate, ownership_voucher}
use Rattle.sz_visit.specs.declared.fault.FileFault.{FileFault}
use Rattle.sz_visit.specs.declared.fault.FileFault.TheVariants.{Lost, Absent, TooLarge, OutOfMemory}
use Rattle.sz_base.specs.Evidence.{most_artifact_bytes}

abbrev pub found : Option (List ℕ) → Result (Option (List ℕ)) FileFault
found artifact = Ok artifact

abbrev pub refused : FileFault → Result (Option (List ℕ)) FileFault
refused fault = Err fault

abbrev pub no_evidence : FileFault → Result Evidence FileFault
no_evidence fault = Err fault

abbrev pub evidence : List ℕ → Option (List ℕ) → Option (List ℕ) → Result Evidence FileFault
evidence ci oc ov = Ok (record { ci = ci; oc = oc; ov = ov })

-- an artifact that was found is the file, and fits
is_found : (file artifact : Option (List ℕ)) → found artifact ≡ artifact_of file
    → (file ≡ artifact) × (fits_where artifact ≡ true)
is_found None artifact e =
    let same : artifact ≡ None = cc in
    (sym same, rw same refl)
is_found (Some bytes) artifact e = elim (cases_Bool (fits bytes)) [
  | inl fit ↦
      let e2 = e ∙ cond-true (fits bytes) (found (Some bytes)) (refused (TooLarge most_artifact_bytes)) fit in
      let same : artifact ≡ Some bytes = cc in
      (sym same, rw same fit)
  | inr over ↦
      let e2 = e ∙ cond-false (fits bytes) (found (Some bytes)) (refused (TooLarge most_artifact_bytes)) over in
      absurd (cc)
]

-- a refused artifact is over the limit
is_refused : (file : Option (List ℕ)) (fault : FileFault) → refused fault ≡ artifact_of file
    → (fault ≡ TooLarge most_artifact_bytes) × (fits_where file ≡ false)
is_refused None fault e = absurd (cc)
is_refused (Some bytes) fault e = elim (cases_Bool (fits bytes)) [
  | inl fit ↦
      let e2 = e ∙ cond-true (fits bytes) (found (Some bytes)) (refused (TooLarge most_artifact_bytes)) fit in
      absurd (cc)
  | inr over ↦
      let e2 = e ∙ cond-false (fits bytes) (found (Some bytes)) (refused (TooLarge most_artifact_bytes)) over in
      let same : fault ≡ TooLarge most_artifact_bytes = cc in
      (same, over)
]

-- what the files at three paths give
three_fit : (a b c : Option (List ℕ)) (ci : List ℕ) (oc ov : Option (List ℕ)) → a ≡ Some ci → b ≡ oc → c ≡ ov
    → fits ci ≡ true → fits_where oc ≡ true → fits_where ov ≡ true → evidence ci oc ov ≡ evidence_of a b c
three_fit a b c ci oc ov ea eb ec fa fb fc = rw (ea, eb, ec, fa, fb, fc) refl

second_is_over : (a b c : Option (List ℕ)) (ci : List ℕ) → a ≡ Some ci → fits ci ≡ true → fits_where b ≡ false
    → no_evidence (TooLarge most_artifact_bytes) ≡ evidence_of a b c
second_is_over a b c ci ea fa fb = rw (ea, fa, fb) refl

third_is_over : (a b c : Option (List ℕ)) (ci : List ℕ) (oc : Option (List ℕ)) → a ≡ Some ci → b ≡ oc → fits ci ≡ true
    → fits_where oc ≡ true → fits_where c ≡ false → no_evidence (TooLarge most_artifact_bytes) ≡ evidence_of a b c
third_is_over a b c ci oc ea eb fa fb fc = rw (ea, eb, fa, fb, fc) refl

abbrev ci_at : FileMap → List ℕ → Option (List ℕ)
ci_at files base = bytes_at files (under base conveyed_information)

abbrev oc_at : FileMap → List ℕ → Option (List ℕ)
oc_at files base = bytes_at files (under base owner_certificate)

abbrev ov_at : FileMap → List ℕ → Option (List ℕ)
ov_at files base = bytes_at files (under base ownership_voucher)

-- the folder's artifact of a name
abbrev pub artifact_at : List ℕ → List ℕ → FileMap → Result (Option (List ℕ)) FileFault
artifact_at base name files = artifact_of (bytes_at files (under base name))

-- all three were found
pub gives_evidence : (told one two : Option FileMap) (base ci : List ℕ) (first oc ov : Option (List ℕ)) → one ≡ told
    → two ≡ one → first ≡ Some ci → Gives told (artifact_at base conveyed_information) (found first)
    → Gives one (artifact_at base owner_certificate) (found oc)
    → Gives two (artifact_at base ownership_voucher) (found ov)
    → Gives told (λ files. evidence_in files base) (evidence ci oc ov)
gives_evidence None one two base ci first oc ov e1 e2 is a b c = λ _. tt
gives_evidence (Some files) one two base ci first oc ov e1 e2 is a b c = λ _.
    let fa = is_found (ci_at files base) (Some ci) ((rw is at a) tt) in
    let fb = is_found (oc_at files base) oc ((rw e1 at b) tt) in
    let fc = is_found (ov_at files base) ov ((rw (e2, e1) at c) tt) in
    three_fit (ci_at files base) (oc_at files base) (ov_at files base) ci oc ov fa.0 fb.0 fc.0 fa.1 fb.1 fc.1

-- the second is refused
pub refuses_second : (told one : Option FileMap) (base ci : List ℕ) (first : Option (List ℕ)) (fault : FileFault)
    → one ≡ told → first ≡ Some ci → Gives told (artifact_at base conveyed_information) (found first)
    → Gives one (artifact_at base owner_certificate) (refused fault)
    → Gives told (λ files. evidence_in files base) (no_evidence fault)
refuses_second None one base ci first fault e1 is a b = λ _. tt
refuses_second (Some files) one base ci first Lost e1 is a b = λ none. absurd none
refuses_second (Some files) one base ci first OutOfMemory e1 is a b = λ none. absurd none
refuses_second (Some files) one base ci first Absent e1 is a b = λ _.
    let fb = is_refused (oc_at files base) Absent ((rw e1 at b) tt) in
    absurd (cc fb.0)
refuses_second (Some files) one base ci first (TooLarge limit) e1 is a b = λ _.
    let fa = is_found (ci_at files base) (Some ci) ((rw is at a) tt) in
    let fb = is_refused (oc_at files base) (TooLarge limit) ((rw e1 at b) tt) in
    rw fb.0 (second_is_over (ci_at files base) (oc_at files base) (ov_at files base) ci fa.0 fa.1 fb.1)

-- the third is refused
pub refuses_third : (told one two : Option FileMap) (base ci : List ℕ) (first oc : Option (List ℕ)) (fault : FileFault)
    → one ≡ told → two ≡ one → first ≡ Some ci → Gives told (artifact_at base conveyed_information) (found first)
    → Gives one (artifact_at base owner_certificate) (found oc)
    → Gives two (artifact_at base ownership_voucher) (refused fault)
    → Gives told (λ files. evidence_in files base) (no_evidence fault)
refuses_third None one two base ci first oc fault e1 e2 is a b c = λ _. tt
refuses_third (Some files) one two base ci first oc Lost e1 e2 is a b c = λ none. absurd none
refuses_third (Some files) one two base ci first oc OutOfMemory e1 e2 is a b c = λ none. absurd none
refuses_third (Some files) one two base ci first oc Absent e1 e2 is a b c = λ _.
    let fc = is_refused (ov_at files base) Absent ((rw (e2, e1) at c) tt) in
    absurd (cc fc.0)
refuses_third (Some files) one two base ci first oc (TooLarge limit) e1 e2 is a b c = λ _.
    let fa = is_found (ci_at files base) (Some ci) ((rw is at a) tt) in
    let fb = is_found (oc_at files base) oc ((rw e1 at b) tt) in
    let fc = is_refused (ov_at files base) (TooLarge limit) ((rw (e2, e1) at c) tt) in
    rw fc.0 (third_is_over (ci_at files base) (oc_at files base) (ov_at files base) ci oc fa.0 fb.0 fa.1 fb.1 fc.1)
