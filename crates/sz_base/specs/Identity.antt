-- What a device is made with.
use Rattle.std.specs.Prelude.{ℕ, ◌≤◌, length}
use Rattle.std.specs.List.{All}
use Rattle.sz_base.specs.declared.identity.Identity.{Identity}

abbrev pub most_anchors : ℕ
most_anchors = 8

abbrev pub most_anchor_bytes : ℕ
most_anchor_bytes = 65536

-- of the name and of the version of the operating system
abbrev pub most_os_bytes : ℕ
most_os_bytes = 256

-- There is an anchor, and nothing is over its limit.
pub record IsWhole (identity : Identity) : Type 0 where
  pub some : 1 ≤ length identity.anchors
  pub most : length identity.anchors ≤ most_anchors
  pub anchors : All (λ anchor. length anchor ≤ most_anchor_bytes) identity.anchors
  pub os_name : length identity.os_name ≤ most_os_bytes
  pub os_version : length identity.os_version ≤ most_os_bytes
