use Rattle.std.proofs.Common.{◌≡◌, List, [], ◌∷◌, append-nil, append_assoc, rules, sym, subst}
use Rattle.std.proofs.lemmas.List.{nil_from_length}
use Rattle.serde_json.specs.View.{items_view, view}
use Rattle.serde_json.specs.declared.value.Value.{Value}
use Rattle.sz_json.specs.declared.name.Name.TheVariants as name
use Rattle.sz_evidence.specs.IdentityFile.{AreAnchors, IsAnchor, Lacks}
use Rattle.sz_evidence.proofs.Members.{exit, first_of_list, lacks_by, rest_of_list}
use Rattle.sz_evidence.proofs.identity.certificates.Goals as goal

pub returns-in_err-certificate-clause-refused : goal.returns-in_err-certificate-clause-refused
returns-in_err-certificate-clause-refused c =
    let h = c.in-Some.ensures.cases.0 in
    let entries = items_view c.args.entries.now in
    let entry = view c.in-Some.entry.now in
    exit c.from_residual.result c.in_err-certificate.field-0.0 (Lacks name.Anchors (AreAnchors entries)) c.from_residual.ensures.1
    (lacks_by name.Anchors (IsAnchor entry) (AreAnchors entries) c.in_err-certificate.field-0.0
    (λ there.
    let left = c.entries.invariant.left there.0 there.1 in
    first_of_list entry (items_view c.in-Some.after.now) (left.0, subst (λ (rest : List Value). AreAnchors (items_view rest) left.0) h left.1))
    c.in_err-certificate.ensures.refused)

pub entries-preserved : goal.entries-preserved
entries-preserved c =
    let h = c.in-Some.ensures.cases.0 in
    let entries = items_view c.args.entries.now in
    let entry = view c.in-Some.entry.now in
    let anchor = c.in_ok-certificate.field-0 in record {
      read = λ more is.
          let whole = c.entries.invariant.read (anchor ∷ more)
          (subst (λ (rest : List Value). AreAnchors (items_view rest) (anchor ∷ more)) (sym h) (c.in_ok-certificate.ensures.ok, is)) in
          rw (c.in_ok-push.ensures.ok, append_assoc) whole;
      left = λ all is.
          let left = c.entries.invariant.left all is in
          rest_of_list entry (items_view c.in-Some.after.now) (left.0, subst (λ (rest : List Value). AreAnchors (items_view rest) left.0) h left.1);
    }

pub returns-clause-ok : goal.returns-clause-ok
returns-clause-ok c =
    let empty : c.entries.rest.now ≡ [] = search (rules, nil_from_length) in
    let whole = rw (empty, append-nil) at (c.entries.invariant.read []) in
    whole tt
