-- What contracts of commands see of each object of the outside but the disks: its count of faults, and what it
-- tells.
use Rattle.std.specs.Prelude.{ℕ, Bool, List, Option}
use Rattle.sz_base.specs.declared.moment.Seconds.{Seconds}
use Rattle.sz_io.specs.Folder.{FileMap}
use Rattle.sz_io.specs.Net.{Traffic}
use Rattle.sz_io.specs.Listener.{Arrivals}

pub record FolderSeen : Type 0 where
  pub faults : ℕ
  pub files : Option FileMap

pub record SinkSeen : Type 0 where
  pub faults : ℕ
  pub written : Option (List ℕ)

pub record NetSeen : Type 0 where
  pub faults : ℕ
  pub traffic : Option Traffic

pub record ListenerSeen : Type 0 where
  pub faults : ℕ
  pub stands : Bool
  pub arrivals : Option Arrivals

pub record ClockSeen : Type 0 where
  pub faults : ℕ
  pub answers : Option (List Seconds)

pub record EntropySeen : Type 0 where
  pub faults : ℕ
  pub bytes : Option (List ℕ)

abbrev pub folder_seen : ℕ → Option FileMap → FolderSeen
folder_seen faults files = record { faults = faults; files = files }

abbrev pub net_seen : ℕ → Option Traffic → NetSeen
net_seen faults traffic = record { faults = faults; traffic = traffic }

abbrev pub clock_seen : ℕ → Option (List Seconds) → ClockSeen
clock_seen faults answers = record { faults = faults; answers = answers }

abbrev pub entropy_seen : ℕ → Option (List ℕ) → EntropySeen
entropy_seen faults bytes = record { faults = faults; bytes = bytes }
