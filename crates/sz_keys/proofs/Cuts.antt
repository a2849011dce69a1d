-- A check of fronts of the key and of the signature is one of the whole files.
use Rattle.std.proofs.Common.{◌≡◌, ◌↔◌, ℕ, List, [], length, take, Option, Some, None, IfSome, IsSome, Result, Ok, Err, IfOk, IfErr, inl, inr, refl, sym, ap, ap₂, subst₂, ◌∙◌}
use Rattle.std.specs.Option.{option_map, unwrap_or}
use Rattle.std.proofs.lemmas.Option.{none-some, same_Some}
use Rattle.sz_io.specs.Folder.{FileMap, bytes_at, readable_at}
use Rattle.sz_lms.proofs.Longest.{ok_cut, public_cut, signature_cut}
use Rattle.sz_lms.specs.Hss.{HssOk}
use Rattle.sz_lms.specs.Rules.{Rule, hss_first}
use Rattle.sz_commands.specs.Failure.{Failure, FileFault, OutOfMemory}
use Rattle.sz_commands.specs.View.{failure_of}
use Rattle.sz_commands.specs.declared.failure.Failure as views
use Rattle.sz_keys.specs.CheckRan.{IsFaultAt, IsSigned, IsThere, MayAnswer, Paths, answer_over}
use Rattle.sz_keys.specs.View.{answer_of, broken_rule}
use Rattle.sz_keys.specs.declared.verdict.Checked.{Checked}

-- what the three files are, where they are there
record Whole (files : FileMap) (paths : Paths) : Type 0 where
  public : List ℕ
  message : List ℕ
  signature : List ℕ
  public_is : bytes_at files paths.public ≡ Some public
  message_is : bytes_at files paths.file ≡ Some message
  signature_is : bytes_at files paths.signature ≡ Some signature

first_cut : (public message signature : List ℕ) → hss_first (take 61 public) message (take 74989 signature) ≡ hss_first public message signature
first_cut public message signature = public_cut public message (take 74989 signature) ∙ signature_cut public message signature

module _ (files : FileMap) (paths : Paths) (w : Whole files paths) where
  over : answer_over files paths ≡ Ok (hss_first w.public w.message w.signature)
  over = rw (w.public_is, w.message_is, w.signature_is) refl

  -- the files are those that are there
  signed_of : HssOk w.public w.message w.signature → IsSigned files paths
  signed_of ok = record {
    public = w.public;
    message = w.message;
    signature = w.signature;
    public_is = w.public_is;
    message_is = w.message_is;
    signature_is = w.signature_is;
    signed = ok;
  }

  of_signed : IsSigned files paths → HssOk w.public w.message w.signature
  of_signed is =
      let public : is.public ≡ w.public = same_Some _ _ (sym is.public_is ∙ w.public_is) in
      let message : is.message ≡ w.message = same_Some _ _ (sym is.message_is ∙ w.message_is) in
      let signature : is.signature ≡ w.signature = same_Some _ _ (sym is.signature_is ∙ w.signature_is) in
      rw (← public, ← message, ← signature) is.signed

  whole_answer : (rule : Option Rule) → rule ≡ hss_first w.public w.message w.signature → ((rule ≡ None) ↔ HssOk w.public w.message w.signature)
      → MayAnswer paths (Some files) (Ok rule)
  whole_answer None first signed = (over ∙ ap Ok (sym first), signed_of (signed.0 refl))
  whole_answer (Some rule) first signed = (over ∙ ap Ok (sym first), λ is. none-some rule (sym (signed.1 (of_signed is))))

answer_at : (files : FileMap) (paths : Paths) (a b c : Option (List ℕ)) (public signature : List ℕ) (size : ℕ) (rule : Option Rule)
    → bytes_at files paths.public ≡ a → bytes_at files paths.file ≡ b → bytes_at files paths.signature ≡ c
    → option_map (take 61) a ≡ Some public → option_map length b ≡ Some size → option_map (take 74989) c ≡ Some signature
    → rule ≡ hss_first public (unwrap_or b []) signature → ((rule ≡ None) ↔ HssOk public (unwrap_or b []) signature)
    → MayAnswer paths (Some files) (Ok rule)
answer_at files paths None b c public signature size rule is_a is_b is_c key there front first signed = absurd (none-some public key)
answer_at files paths (Some p) None c public signature size rule is_a is_b is_c key there front first signed = absurd (none-some size there)
answer_at files paths (Some p) (Some m) None public signature size rule is_a is_b is_c key there front first signed = absurd (none-some signature front)
answer_at files paths (Some p) (Some m) (Some s) public signature size rule is_a is_b is_c key there front first signed =
    let key_is : take 61 p ≡ public = same_Some _ _ key in
    let front_is : take 74989 s ≡ signature = same_Some _ _ front in
    let ok = ok_cut p m s in
    let first_is : rule ≡ hss_first p m s = first ∙ ap₂ (λ (k f : List ℕ). hss_first k m f) (sym key_is) (sym front_is) ∙ first_cut p m s in
    let signed_is : (rule ≡ None) ↔ HssOk p m s = (
      λ none. ok.0 (subst₂ (λ (k f : List ℕ). HssOk k m f) (sym key_is) (sym front_is) (signed.0 none)),
      λ is. signed.1 (subst₂ (λ (k f : List ℕ). HssOk k m f) key_is front_is (ok.1 is)),
    ) in
    whole_answer files paths (record {
      public = p;
      message = m;
      signature = s;
      public_is = is_a;
      message_is = is_b;
      signature_is = is_c;
    }) rule first_is signed_is

-- the rule that is found on the fronts is the answer over the files
pub answered : (paths : Paths) (told : Option FileMap) (public signature : List ℕ) (size : ℕ) (rule : Option Rule)
    → IfSome told (λ files. option_map (take 61) (bytes_at files paths.public) ≡ Some public)
    → IfSome told (λ files. option_map length (bytes_at files paths.file) ≡ Some size)
    → IfSome told (λ files. option_map (take 74989) (bytes_at files paths.signature) ≡ Some signature)
    → IfSome told (λ files. rule ≡ hss_first public (readable_at files paths.file) signature)
    → IfSome told (λ files. (rule ≡ None) ↔ HssOk public (readable_at files paths.file) signature)
    → MayAnswer paths told (Ok rule)
answered paths None public signature size None key there front first signed = tt
answered paths None public signature size (Some rule) key there front first signed = tt
answered paths (Some files) public signature size rule key there front first signed =
    answer_at files paths (bytes_at files paths.public) (bytes_at files paths.file) (bytes_at files paths.signature) public signature size rule refl refl refl
    key there front first signed

-- ---- what a check answers

is_there : (told : Option FileMap) (path front : List ℕ) → IfSome told (λ files. option_map (take 61) (bytes_at files path) ≡ Some front) → IsThere told path
is_there None path front key = tt
is_there (Some files) path front key = some (bytes_at files path) key
  where
    some : (found : Option (List ℕ)) → option_map (take 61) found ≡ Some front → IsSome found
    some None key = absurd (none-some front key)
    some (Some bytes) key = refl

faulty : (paths : Paths) (told : Option FileMap) (failure : Failure) → IsThere told paths.public → IsFaultAt paths.file failure
    → MayAnswer paths told (Err failure)
faulty paths told (FileFault path) there is = inr (inl (is, there))
faulty paths told OutOfMemory there is = tt
faulty paths told _ there is = absurd is

pub may_answer : (paths : Paths) (told now : Option FileMap) (public signature : List ℕ) (size : ℕ) (result : Result Checked views.Failure) → now ≡ told
    → IfSome told (λ files. option_map (take 61) (bytes_at files paths.public) ≡ Some public)
    → IfSome told (λ files. option_map length (bytes_at files paths.file) ≡ Some size)
    → IfSome told (λ files. option_map (take 74989) (bytes_at files paths.signature) ≡ Some signature)
    → IfOk result (λ checked. IfSome now (λ files. broken_rule checked ≡ hss_first public (readable_at files paths.file) signature))
    → IfOk result (λ checked. IfSome now (λ files. (broken_rule checked ≡ None) ↔ HssOk public (readable_at files paths.file) signature))
    → IfErr result (λ failure. IsFaultAt paths.file (failure_of failure))
    → MayAnswer paths told (answer_of result)
may_answer paths told now public signature size (Ok checked) same key there front first signed failed =
    answered paths told public signature size (broken_rule checked) key there front (rw same at first) (rw same at signed)
may_answer paths told now public signature size (Err failure) same key there front first signed failed =
    faulty paths told (failure_of failure) (is_there told paths.public public key) failed
