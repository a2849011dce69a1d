-- What contracts see of the outside of the program: all its objects in one record.
use Rattle.std.specs.Prelude.{◌≡◌, ℕ, List}
use Rattle.sz_commands.specs.Objects.{FolderSeen, SinkSeen, NetSeen, ListenerSeen, ClockSeen, EntropySeen}

-- the disks with their names, and the other objects
pub record Outside (D : Type 0) : Type 0 where
  pub disks : List (List ℕ × D)
  pub net : NetSeen
  pub listener : ListenerSeen
  pub folder : FolderSeen
  pub clock : ClockSeen
  pub entropy : EntropySeen
  pub out : SinkSeen

module _ {D : Type 0} where
  -- all but the folder and the output stay as they are
  pub record OthersStay (before after : Outside D) : Type 0 where
    pub disks : after.disks ≡ before.disks
    pub net : after.net ≡ before.net
    pub listener : after.listener ≡ before.listener
    pub clock : after.clock ≡ before.clock
    pub entropy : after.entropy ≡ before.entropy

  -- the network, the listener and the clock stay as they are
  pub record KeysStay (before after : Outside D) : Type 0 where
    pub net : after.net ≡ before.net
    pub listener : after.listener ≡ before.listener
    pub clock : after.clock ≡ before.clock
