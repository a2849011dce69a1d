-- A list that is read from its front on, part by part.
use Rattle.std.proofs.Common.{◌≡◌, ℕ, ◌+◌, List, ◌++◌, length, take, drop, arith, length-append, Option, Some, None, IfSome}
use Rattle.std.proofs.Math.Seq.{take-add}
use Rattle.sz_io.specs.Folder.{FileMap, readable_at}

-- a front of a list with the next part of it is a front
pub front-more : (file sofar more now : List ℕ) (n : ℕ) → sofar ≡ take (length sofar) file → length more ≡ n
    → more ≡ take n (drop (length sofar) file) → now ≡ sofar ++ more → now ≡ take (length now) file
front-more file sofar more now n front len next joined =
    let long : length now ≡ length sofar + n = rw (joined, length-append) (omega arith) in
    rw long (rw (take-add (length sofar) n file) (rw (← front, ← next) joined))

-- the same where a folder tells its files, of what is read at a path
pub told-more : (before now : Option FileMap) (path sofar more next : List ℕ) (n : ℕ) → now ≡ before
    → IfSome before (λ told. sofar ≡ take (length sofar) (readable_at told path))
    → IfSome before (λ told. more ≡ take n (drop (length sofar) (readable_at told path)))
    → length more ≡ n → next ≡ sofar ++ more
    → IfSome now (λ told. next ≡ take (length next) (readable_at told path))
told-more None now path sofar more next n same front read long joined = rw same tt
told-more (Some told) now path sofar more next n same front read long joined =
    rw same (front-more (readable_at told path) sofar more next n front long read joined)
