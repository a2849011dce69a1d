use Rattle.std.proofs.Common.{◌≡◌, refl, sym, ap, ◌∙◌, inl, Some, None}
use Rattle.std.proofs.lemmas.Bool.{false≢true}
use Rattle.std.specs.List.{position}
use Rattle.std.specs.Option.{option_map}
use Rattle.sz_disk.specs.Disks.{has_name}
use Rattle.sz_disk.proofs.Named.{found-is, found-none, find-none, none-named}
use Rattle.sz_disk.proofs.disks.Disks.find.Goals as goal

pub returns-in-Some : goal.returns-in-Some
returns-in-Some g c =
    let name = c.args.name.now in
    let entries = c.args.self.now in
    let e : position (has_name name) entries ≡ Some c.in-Some.place =
    sym (c.place_of.ensures ∙ ap (position (has_name name)) (c.deref.ensures.value ∙ c.self.view_is)) ∙ c.in-Some.is in
    let found = found-is name entries c.in-Some.place e in (
      ap (λ f. inl (c.disk_at.result.ghost_name, f)) found.lends,
      record {
        writes_back = tt;
        found = (λ _. found.contains, λ _. refl);
        disk = sym c.disk_at.ensures.disk ∙ ap (option_map (λ entry. entry.1)) found.disk;
      },
    )

pub returns-in-None : goal.returns-in-None
returns-in-None g c =
    let name = c.args.name.now in
    let entries = c.args.self.now in
    let e : position (has_name name) entries ≡ None =
    sym (c.place_of.ensures ∙ ap (position (has_name name)) (c.deref.ensures.value ∙ c.self.view_is)) ∙ c.in-None.is in (
      refl,
      record {
        writes_back = tt;
        found = (λ h. absurd (false≢true h), λ h. absurd (none-named name entries (found-none (has_name name) entries e) h));
        disk = ap (option_map (λ entry. entry.1)) (sym (find-none name entries e));
      },
    )
