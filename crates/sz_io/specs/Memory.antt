-- What contracts see of the objects in memory.
use Rattle.std.specs.Prelude.{ℕ, Bool, List, refl}
use Rattle.std.specs.Coded.{Coded, code_by, coded×, coded_ℕ, coded_list}
use Rattle.std.specs.FinMap as map
use Rattle.sz_io.specs.Folder.{FileMap}
use Rattle.sz_base.specs.declared.moment.Seconds.{Seconds}
use Rattle.sz_io.specs.Plan.{Plan}
use Rattle.sz_io.specs.Net.{Traffic}
use Rattle.sz_io.specs.Listener.{Arrivals}

-- the files, and which calls fail
pub record FolderState : Type 0 where
  pub files : FileMap
  pub plan : Plan

-- the bytes that were written, and which calls fail
pub record SinkState : Type 0 where
  pub bytes : List ℕ
  pub plan : Plan

-- the traffic, and which calls fail
pub record NetState : Type 0 where
  pub traffic : Traffic
  pub plan : Plan

-- the arrivals, whether a connection stands, and which calls fail
pub record ListenerState : Type 0 where
  pub arrivals : Arrivals
  pub stands : Bool
  pub plan : Plan

-- the answers still to come, and which calls fail
pub record ClockState : Type 0 where
  pub answers : List Seconds
  pub plan : Plan

-- the bytes still to come, and which calls fail
pub record EntropyState : Type 0 where
  pub bytes : List ℕ
  pub plan : Plan

-- the parts of a plan, as a proof tells plans apart
abbrev pub plan_code : Coded Plan
plan_code =
    code_by (List ℕ × (ℕ × ℕ)) (coded× (coded_list coded_ℕ) (coded× coded_ℕ coded_ℕ))
    (λ p. (p.fail, (p.calls, p.faults))) (λ t. record { fail = t.0; calls = t.1.0; faults = t.1.1 }) (λ _. refl)

abbrev pub folder_code : Coded FolderState
folder_code =
    code_by (FileMap × Plan) (coded× (map.code (coded_list coded_ℕ) (coded_list coded_ℕ)) plan_code)
    (λ f. (f.files, f.plan)) (λ t. record { files = t.0; plan = t.1 }) (λ _. refl)
