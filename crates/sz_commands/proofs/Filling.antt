-- A buffer that is filled with a file from its front on, part by part.
use Rattle.std.proofs.Common.{◌≡◌, ℕ, ◌+◌, ◌≤◌, List, ◌++◌, length, take, take_at, drop_at, take-add, length-take-le, drop, Option, Some, None, IfSome, sym, ap₂, ◌∙◌}
use Rattle.std.proofs.lemmas.List.{take-append-le}
use borrow.Rule.Slice.PartMut.{post_of, put_mid}
use Rattle.sz_io.specs.Folder.{FileMap, readable_at}

-- where a part of a file stands behind a front of it, the two are a front
front_more : (file into part : List ℕ) (done room count : ℕ) → done ≤ length into → count ≤ length part → take done into ≡ take done file
    → take count part ≡ take count (drop done file) → take (done + count) (put_mid done room into part) ≡ take (done + count) file
front_more file into part done room count within size before read =
    let front : List ℕ = take done into in
    let behind : List ℕ = part ++ post_of done room into in
    let size_is : length front ≡ done = length-take-le done into within in
    take-add done count (front ++ behind)
    ∙ ap₂ (λ (a b : List ℕ). a ++ take count b) (take_at front behind done size_is) (drop_at front behind done size_is)
    ∙ ap₂ (λ (a b : List ℕ). a ++ b) before (take-append-le count part (post_of done room into) size ∙ read)
    ∙ sym (take-add done count file)

-- the same where a folder tells its files
pub filled_more : (told now : Option FileMap) (path into part : List ℕ) (done room count : ℕ) → now ≡ told → done ≤ length into → count ≤ length part
    → IfSome told (λ files. take done into ≡ take done (readable_at files path))
    → IfSome now (λ files. take count part ≡ take count (drop done (readable_at files path)))
    → IfSome told (λ files. take (done + count) (put_mid done room into part) ≡ take (done + count) (readable_at files path))
filled_more None now path into part done room count same within size before read = tt
filled_more (Some files) now path into part done room count same within size before read =
    front_more (readable_at files path) into part done room count within size before (rw same at read)
