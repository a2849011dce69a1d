-- A text that is written part by part, one that is printed behind another, and what a refusal of the sink says of it.
use Rattle.std.proofs.Common.{◌≡◌, ◌==◌, ℕ, zero, suc, ◌+◌, ◌<◌, ◌≤◌, List, [], ◌∷◌, ◌++◌, length, map, take, drop, get_or, Option, Some, None, Result, Ok, Err, refl, sym, ap, subst, ◌∙◌, append_assoc, inl, inr, arith}
use Rattle.std.specs.List.{concat}
use Rattle.std.specs.Result.{IsErr}
use Rattle.std.proofs.lemmas.List.{append-nil, take_all}
use Rattle.sz_base.specs.Fault.{put_failed}
use Rattle.sz_base.specs.declared.fault.PutFault.{PutFault}
use Rattle.sz_base.specs.declared.fault.PutFault.TheVariants.{Failed, OutOfMemory}
use Rattle.sz_spec.specs.Cause.{HasCause}
use Rattle.sz_spec.specs.Told.{Appends, AppendsFront}
use Rattle.sz_commands.specs.Ending.{output_fault}
use Rattle.sz_commands.specs.Printed.{IsPrinted, IsWritten, refusal_of}
use Rattle.sz_commands.proofs.Fronts.{AppendsFront-first, AppendsFront-next, Appends-next}

-- ---- parts

pub Appends-nothing : (told : Option (List ℕ)) → Appends told told []
Appends-nothing None = refl
Appends-nothing (Some list) = ap Some (sym (append-nil list))

module _ {A : Type 0} (f : A → List ℕ) where
  -- the first parts and the next one
  pub concat_more : (xs : List A) (i : ℕ) (d : A) → i < length xs
      → concat (map f (take (i + 1) xs)) ≡ concat (map f (take i xs)) ++ f (get_or xs i d)
  concat_more [] i d within = absurd (omega arith)
  concat_more (x ∷ xs) zero d within = append-nil (f x)
  concat_more (x ∷ xs) (suc i) d within =
      let more : suc i + 1 ≡ suc (i + 1) = omega arith in
      let rest = concat_more xs i d (omega arith) in
      rw more (ap (λ (bytes : List ℕ). f x ++ bytes) rest ∙ sym (append_assoc (f x) (concat (map f (take i xs))) (f (get_or xs i d))))

  -- the first parts, and those behind them
  concat_split : (xs : List A) (i : ℕ) → concat (map f xs) ≡ concat (map f (take i xs)) ++ concat (map f (drop i xs))
  concat_split xs zero = refl
  concat_split [] (suc i) = refl
  concat_split (x ∷ xs) (suc i) =
      ap (λ (bytes : List ℕ). f x ++ bytes) (concat_split xs i) ∙ sym (append_assoc (f x) (concat (map f (take i xs))) (concat (map f (drop i xs))))

  module _ (before middle now : Option (List ℕ)) (xs : List A) (i : ℕ) (d : A) (within : i < length xs)
      (so_far : Appends before middle (concat (map f (take i xs)))) where
    pub part_written : Appends middle now (f (get_or xs i d)) → Appends before now (concat (map f (take (i + 1) xs)))
    part_written next =
        subst (λ (text : List ℕ). Appends before now text) (sym (concat_more xs i d within))
        (Appends-next before middle now (concat (map f (take i xs))) (f (get_or xs i d)) so_far next)

    pub part_refused : AppendsFront middle now (f (get_or xs i d)) → AppendsFront before now (concat (map f xs))
    part_refused front =
        let behind : List ℕ = concat (map f (drop (i + 1) xs)) in
        let whole = AppendsFront-next before middle now (concat (map f (take i xs))) (f (get_or xs i d)) so_far front in
        let here = subst (λ (text : List ℕ). AppendsFront before now text) (sym (concat_more xs i d within)) whole in
        subst (λ (text : List ℕ). AppendsFront before now text) (sym (concat_split xs (i + 1)))
        (AppendsFront-first before now (concat (map f (take (i + 1) xs))) behind here)

  -- all parts
  pub parts_written : (before now : Option (List ℕ)) (xs : List A) (i : ℕ) → length xs ≤ i → Appends before now (concat (map f (take i xs)))
      → Appends before now (concat (map f xs))
  parts_written before now xs i all written =
      subst (λ (part : List A). Appends before now (concat (map f part))) (take_all i xs all) written

-- ---- one text behind another

pub printed-behind : (own given : ℕ) (first text : List ℕ) (before middle now : Option (List ℕ)) → Appends before middle first
    → IsPrinted own text given middle now → IsPrinted own (first ++ text) given before now
printed-behind own given first text before middle now written (inl printed) =
    inl (printed.0, Appends-next before middle now first text written printed.1)
printed-behind own given first text before middle now written (inr refused) =
    inr (refused.0, AppendsFront-next before middle now first text written refused.1)

-- ---- a refusal of the sink

pub front_written : {T : Type 0} (text : List ℕ) (r : Result T PutFault) (before now : Option (List ℕ)) → IsErr r
    → AppendsFront before now text → IsWritten text r before now
front_written text (Ok x) before now is front = absurd (cc is)
front_written text (Err fault) before now is front = front

pub refused-printed : (own given : ℕ) (fault : PutFault) (text : List ℕ) (before now : Option (List ℕ)) → given ≡ refusal_of fault
    → AppendsFront before now text → IsPrinted own text given before now
refused-printed own given Failed text before now is front = inr (inl is, front)
refused-printed own given OutOfMemory text before now is front = inr (inr is, front)

-- of a text that something was to follow
pub refused-before : (own given : ℕ) (fault : PutFault) (first text : List ℕ) (before now : Option (List ℕ)) → given ≡ refusal_of fault
    → AppendsFront before now first → IsPrinted own (first ++ text) given before now
refused-before own given fault first text before now is front =
    refused-printed own given fault (first ++ text) before now is (AppendsFront-first before now first text front)

pub refused-cause : (T : Type 0) (fault : PutFault) (given before now : ℕ) → given ≡ refusal_of fault
    → HasCause before now (put_failed {T = T} (Err fault)) → HasCause before now (given == output_fault)
refused-cause T Failed given before now is cause = rw is cause
refused-cause T OutOfMemory given before now is cause = rw is cause
