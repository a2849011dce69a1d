-- What is owed where an object tells nothing.
use Rattle.std.proofs.Common.{ℕ, Result, Ok, Err, IfOk, OnOk, OnErr, inl, refl, arith}
use Rattle.sz_disk.specs.Disk.{untold, IsStill, IsQuiet, IsSynced, WroteIn}

-- what always holds holds of each value
pub IfOk-always : {T E : Type 0} (r : Result T E) (P : T → Type 0) → ((x : T) → P x) → IfOk r P
IfOk-always (Ok x) P always = always x
IfOk-always (Err e) P always = tt

-- and on success, and after a refusal
pub OnOk-always : {T E P : Type 0} (r : Result T E) → P → OnOk r P
OnOk-always (Ok x) p = p
OnOk-always (Err e) p = tt

pub OnErr-always : {T E P : Type 0} (r : Result T E) → P → OnErr r P
OnErr-always (Ok x) p = tt
OnErr-always (Err e) p = p

-- a disk that tells nothing lies still, also where it was written
IsStill-untold : (before now size : ℕ) → IsStill (untold before size) (untold now size)
IsStill-untold before now size = record {
  size = refl;
  told = refl;
  crash = λ image h. h;
  later = omega arith;
  since = λ t image early. (λ h. h, λ h. h);
}

pub IsQuiet-untold : (before now size : ℕ) → IsQuiet (untold before size) (untold now size)
IsQuiet-untold before now size = record { still = IsStill-untold before now size; reads = refl }

pub IsSynced-untold : (before now size : ℕ) → IsSynced (untold before size) (untold now size)
IsSynced-untold before now size = record { quiet = IsQuiet-untold before now size; settled = λ image h. absurd h }

pub WroteIn-untold : (at n before now size : ℕ) → WroteIn at n (untold before size) (untold now size)
WroteIn-untold at n before now size = record {
  torn = record {
    size = refl;
    told = refl;
    crash = λ image h. absurd h;
    later = omega arith;
    since = λ t image early h. inl h;
    keeps = λ t image early h. h;
  };
  reads = tt;
}
