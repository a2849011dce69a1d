-- What stays of a room, whatever is put there.
use Rattle.std.proofs.Common.{◌≡◌, ℕ, List, [], ◌++◌, Option, Some, None, is_some, refl, ◌∙◌, ap}
use Rattle.std.specs.Option.{option_map}
use Rattle.sz_disk.specs.Room.{Held, HasPut, HoldsSame, IsRestarted}
use Rattle.sz_image.specs.Fetch.{HoldsBody, IsSameRoom}

still_told : (change : List ℕ → List ℕ) (before now : Option (List ℕ)) → now ≡ option_map change before → is_some now ≡ is_some before
still_told change None now is = ap is_some is
still_told change (Some held) now is = ap is_some is

pub same_refl : (room : Held) → IsSameRoom room room
same_refl room = record { space = refl; tells = refl }

pub same_on : (a b c : Held) → IsSameRoom a b → IsSameRoom b c → IsSameRoom a c
same_on a b c first second = record { space = second.space ∙ first.space; tells = second.tells ∙ first.tells }

pub same_restarted : (a b : Held) → IsRestarted a b → IsSameRoom a b
same_restarted a b restarted =
    record { space = restarted.space; tells = still_told (λ held. []) a.bytes b.bytes restarted.bytes }

pub same_put : (bytes : List ℕ) (a b : Held) → HasPut bytes a b → IsSameRoom a b
same_put bytes a b put = record { space = put.space; tells = still_told (λ held. held ++ bytes) a.bytes b.bytes put.bytes }

pub same_held : (a b : Held) → HoldsSame a b → IsSameRoom a b
same_held a b same = record { space = same.space; tells = ap is_some same.bytes }

told_of : (body : List ℕ) (first begun now : Option (List ℕ)) → is_some begun ≡ is_some first → now ≡ option_map (λ (held : List ℕ). body) begun
    → now ≡ option_map (λ (held : List ℕ). body) first
told_of body None None now same is = is
told_of body None (Some x) now same is = absurd (cc)
told_of body (Some x) None now same is = absurd (cc)
told_of body (Some x) (Some y) now same is = is

-- what the room holds, as seen from an earlier state of it
pub holds_from : (body : List ℕ) (first begun now : Held) → IsSameRoom first begun → HoldsBody body begun now → HoldsBody body first now
holds_from body first begun now same holds = record {
  space = holds.space ∙ same.space;
  used = holds.used;
  bytes = told_of body first.bytes begun.bytes now.bytes same.tells holds.bytes;
}
